use Rattle.std.proofs.Common.{◌≡◌, drop}
use Rattle.c5_definitions.specs.Replies.{reads_of_session}
use Rattle.c5_replay.proofs.session_turns.next_block.Given as goal

abbrev pub invariant-loop-at : goal.invariant-loop-at
invariant-loop-at l = reads_of_session (drop l.from l.reads) l.session
    ≡ reads_of_session (drop l.at l.reads) l.session
