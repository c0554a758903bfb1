use Rattle.std.proofs.Common.{◌≡◌, ◌≤◌, ◌-◌, length}
use Rattle.std.specs.Io.KnownBytes.{Consumes}
use Rattle.c5_driver.proofs.decoding.feed_all.Given as goal

-- all that the source lost has been taken
abbrev pub invariant-pieces : goal.invariant-pieces
invariant-pieces g l = record {
  within : length l.decoder ≤ l.fn.limit;
  some : 1 ≤ length l.piece;
  taken : Consumes (g.S.Source.left l.initial.source) (g.S.Source.left l.source) l.decoder;
  faults : g.S.Source.faults l.source ≡ g.S.Source.faults l.initial.source;
}

abbrev pub decreases-pieces : goal.decreases-pieces
decreases-pieces g l = l.fn.limit - length l.decoder
