use Rattle.std.proofs.Common.{◌∙◌, ap, sym, refl}
use Rattle.std.specs.Prelude.{replicate}
use Rattle.c5_board.specs.Boards.{write_count}
use Rattle.c5_workers.proofs.Turned.{fits-new}
use Rattle.c5_workers.proofs.scheduler.Scheduler.new.Goals as goal

pub returns : goal.returns
returns c = λ p of role none written indexed. fits-new _ p (c.number_law.ensures.rows _)
    (c.number_law.ensures.predecessors _)
    (c.in_ok-last.ensures.items_if_clones_equal (λ y e. e) ∙ ap (λ n. replicate n 0)
    (c.writes.ensures.value ∙ ap write_count (sym of))) refl refl role none written indexed
