use Rattle.std.proofs.Common.{◌≡◌, ◌≤◌, ◌∙◌, length, ap, sym, subst}
use Rattle.c5_definitions.specs.WriteNumbers.{IsFirstWrite}
use Rattle.c5_frames.specs.Log.{Log}
use Rattle.c5_frames.specs.Index.{writes_of}
use Rattle.c5_board.specs.Boards.{Board, names}
use Rattle.c5_chains.proofs.Walking.{last-within}
use Rattle.c5_chains.proofs.values.value_at.Goals as goal

pub at_write-requires : goal.at_write-requires
at_write-requires c =
    let same : c.log.result.now ≡ c.args.pass.now.board.log =
    c.log.ensures.value ∙ c.plan-plan.ensures.log ∙ sym
    (ap (λ (b : Board). b.log) c.requires.pass) in
    let first = subst (λ (b : Board). IsFirstWrite (names b) c.args.row)
    (sym c.requires.pass) c.requires.row in
    subst (λ (l : Log). c.last_up_to-w.result ≤ length (writes_of l.txns)) (sym same)
    (last-within c.args.pass.now.board.log.txns _ _ _
    (c.number_law.ensures.predecessors _) first c.last_up_to-w.ensures.last)
