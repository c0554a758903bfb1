use Rattle.std.proofs.Common.{◌≡◌, ap, ◌∙◌, arith}
use Rattle.c5_definitions.proofs.NumberLemmas.{places_end}
use Rattle.c5_board.specs.Passes.{floor_of}
use Rattle.c5_board.proofs.tests.show_first.Goals as goal

pub store_visible-requires-clause-installed : goal.store_visible-requires-clause-installed
store_visible-requires-clause-installed c = λ i is.
    let first : i ≡ 1 = omega (arith, is.0, is.1, c.requires.one) in
    let floor =
    ap (floor_of c.load_progress-progress.new.pass) first ∙
    c.load_progress-progress.ensures.floor in
    let ends = (places_end c.args.board.now.log.txns).within 1 in
    omega (arith, c.requires.few, c.if-progress-lt2.false)
