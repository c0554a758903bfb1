-- What one statement leaves of the rows that a body has set.
use Rattle.std.specs.Prelude.{◌≡◌, ℕ, ℤ, List, [], Option, Some, None, slice_set}
use Rattle.std.specs.FinMap.{insert}
use Rattle.c5_rows.specs.declared.cells.Cell.{Cell}
use Rattle.c5_rows.specs.declared.cells.Cell.TheVariants.{Int}
use Rattle.c5_rows.specs.declared.writes.RowName.{RowName}
use Rattle.c5_definitions.specs.declared.script.Statement.{Statement}
use Rattle.c5_definitions.specs.Effects.{Effect, declines, keeps, sets, needed, effect_of}
use Rattle.c5_definitions.specs.Follows.{Read, Own, FindsRow}
use Rattle.c5_eval.specs.declared.steps.Step.{Step}
use Rattle.c5_eval.specs.declared.steps.Step.TheVariants.{GoesOn, Declines}

-- the rows that are set after an effect, and whether the body goes on
abbrev pub Acts : Effect → Own → Own → Step → Type 0
Acts declines own after step = step ≡ Declines
Acts keeps own after step = (step ≡ GoesOn) × (after ≡ own)
Acts (sets name row) own after step = (step ≡ GoesOn) × (after ≡ insert own name row)

-- the statement uses exactly these reads, and acts so
abbrev pub Takes : Statement → Own → Own → List Read → Step → Type 0
Takes statement own after reads step =
    (found : Option (List Cell)) × FindsRow (needed statement) own reads found []
    × Acts (effect_of statement found) own after step

-- the row is set with this number in a column, if there is a number; else the statement declines
abbrev pub set_cell_or_declined : RowName → List Cell → ℕ → Option ℤ → Effect
set_cell_or_declined name row col None = declines
set_cell_or_declined name row col (Some sum) = sets name (Some (slice_set row col (Int sum)))
