use Rattle.std.proofs.Common.{◌≡◌}
use Rattle.c5_replay.specs.Answered.{OnlyReads}
use Rattle.c5_replay.proofs.waiting.wait_for_place.Given as goal

abbrev pub invariant-loop : goal.invariant-loop
invariant-loop l =
    record {
      board : l.pass.board ≡ l.board;
      session : l.session ≡ l.fn.session;
      only : OnlyReads l.fn.pass l.pass;
    }
