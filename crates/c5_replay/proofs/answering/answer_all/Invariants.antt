use Rattle.std.proofs.Common.{◌≡◌, ◌++◌, [], List, drop}
use Rattle.c5_definitions.specs.Replies.{reads_of_session}
use Rattle.c5_definitions.specs.ScriptParts.{ReadParts}
use Rattle.c5_replay.specs.Parts.{IsPassWith}
use Rattle.c5_replay.specs.Answered.{HasAnswered}
use Rattle.c5_replay.proofs.answering.answer_all.Given as goal

abbrev pub invariant-loop-read : goal.invariant-loop-read
invariant-loop-read g l = record {
  pass : IsPassWith l.shared.board.now [] l.pass;
  session : l.session ≡ record { session = l.number; start = l.shared.start.now };
  answered : (done : List ReadParts)
      × (done ++ reads_of_session (drop l.read-index l.shared.reads.now) l.number
      ≡ reads_of_session l.shared.reads.now l.number)
      × HasAnswered l.pass l.shared.start.now done l.replies.items;
}
