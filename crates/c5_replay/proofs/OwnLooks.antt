-- A pass with the snapshot role reads at its own place.
use Rattle.std.proofs.Common.{◌≡◌, ◌∙◌, ◌≤◌, ◌++◌, [], ◌∷◌, ℕ, max, ap, arith}
use Rattle.c5_definitions.specs.WriteNumbers.{end_of}
use Rattle.c5_board.specs.declared.known.Look.TheVariants.{LoadVisible}
use Rattle.c5_board.specs.Boards.{Pass}
use Rattle.c5_reads.specs.Looks.{OnlyLooks}
use Rattle.c5_reads.specs.Sessions.{began}
use Rattle.c5_reads.proofs.LookLemmas.{only-more, only-then}

pub own-looks : (p q : Pass) (place : ℕ) → place ≡ p.place → OnlyLooks (began p place) q
    → OnlyLooks p q
own-looks p q place same only =
    only-then p (began p place) q
    (only-more p (began p place) (max p.scheduled (end_of p.board.log.txns place))
    (LoadVisible place ∷ []) (tt, tt) (omega arith)
    (λ t. record (began p place) { place = same t }))
    only
