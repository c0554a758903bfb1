use Rattle.std.proofs.Common.{◌≡◌, ◌-◌, true, length}
use Rattle.c5_definitions.specs.Replies.{reads_of_session}
use Rattle.c5_definitions.specs.Turns.{with_left_taken}
use Rattle.c5_reads.specs.Looks.{OnlyLooks}
use Rattle.c5_replay.specs.TurnStates.{HasTaken, taken_by}
use Rattle.c5_replay.proofs.session_turns.take_left.Given as goal

abbrev pub invariant-loop-took : goal.invariant-loop-took
invariant-loop-took l = record {
  board : l.pass.board ≡ l.shared.board.now;
  role : l.pass.snapshot ≡ true;
  only : OnlyLooks l.fn.pass l.pass;
  taken : HasTaken l.pass l.shared.start.now l.shared.reads.now l.session;
  session : l.session.session ≡ l.fn.session.session;
  places : with_left_taken l.shared.reads.now l.fn.pass.place l.fn.session.session
      (taken_by l.session)
      ≡ with_left_taken l.shared.reads.now l.fn.pass.place l.fn.session.session
      (taken_by l.fn.session);
}

abbrev pub decreases-loop-took : goal.decreases-loop-took
decreases-loop-took l = length (reads_of_session l.shared.reads.now l.session.session)
    - length (taken_by l.session)
