use Rattle.std.proofs.Common.{◌≡◌, ◌+◌, ◌++◌, ℕ, true}
use Rattle.std.specs.Vec.Iter.{into_iter_items}
use Rattle.c5_reads.specs.Looks.{OnlyLooks}
use Rattle.c5_replay.specs.Answered.{places_of}
use Rattle.c5_replay.specs.Joins.{HaveReplied}
use Rattle.c5_replay.specs.TurnStates.{AreSessions, left_places}
use Rattle.c5_replay.proofs.left_reads.take_all_left.Given as goal

abbrev pub invariant-loop-session : goal.invariant-loop-session
invariant-loop-session l = record {
  board : l.pass.board ≡ l.shared.board.now;
  role : l.pass.snapshot ≡ true;
  only : OnlyLooks l.fn.pass l.pass;
  left : (before : ℕ) × AreSessions l.pass l.shared.start.now l.shared.reads.now before
      (into_iter_items l.session-iterator)
      × HaveReplied l.pass l.shared.start.now l.shared.reads.now before l.replies
      × (places_of l.replies ++ left_places l.shared.reads.now l.fn.pass.place (before + 1)
      (into_iter_items l.session-iterator)
      ≡ left_places l.shared.reads.now l.fn.pass.place 1 l.fn.sessions.items);
}
