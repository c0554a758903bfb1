use Rattle.std.proofs.Common.{◌≡◌, map, take}
use Rattle.c5_plan.specs.Noted.{written_row}
use Rattle.c5_plan.proofs.written.listed.Given as goal

abbrev pub invariant-loop-last : goal.invariant-loop-last
invariant-loop-last l = l.rows.items ≡ map written_row (take l.last-index l.noted.entries)
