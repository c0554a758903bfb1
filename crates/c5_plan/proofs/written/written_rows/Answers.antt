use Rattle.c5_plan.proofs.Listing.{written}
use Rattle.c5_plan.proofs.written.written_rows.Goals as goal

pub returns-clause-rows : goal.returns-clause-rows
returns-clause-rows c =
    written _ _ _ c.in_ok-rows.ensures c.sort_unstable.ensures.permutation
    c.sort_unstable.ensures.sorted
