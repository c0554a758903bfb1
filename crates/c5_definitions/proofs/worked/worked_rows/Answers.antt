use Rattle.std.proofs.Common.{◌≡◌, List, [], ◌∷◌, map, ap, ◌∙◌, refl}
use Rattle.std.specs.Fmt.{digits}
use Rattle.std.specs.List.Sorted.{IsStrictlySortedBy}
use Rattle.std.specs.Prelude.{pos, codes}
use Rattle.c5_rows.specs.declared.cells.Cell.{Cell}
use Rattle.c5_rows.specs.declared.cells.Cell.TheVariants.{Int}
use Rattle.c5_rows.specs.declared.writes.RowName.{RowName}
use Rattle.c5_rows.specs.State.{entry_of}
use Rattle.c5_rows.proofs.RowLemmas.{entries_back}
use Rattle.c5_definitions.specs.Texts.{entries_text}
use Rattle.c5_definitions.specs.Worked.{worked_tables, worked_text}
use Rattle.c5_definitions.proofs.worked.worked_rows.Goals as goal

abbrev one_row : List (RowName × List Cell)
one_row = (record { table = 0; key = codes "a" }, Int (pos 10) ∷ []) ∷ []

printed : entries_text worked_tables (map entry_of one_row) ≡ worked_text
unfolding digits
printed = refl

pub returns : goal.returns
unfolding IsStrictlySortedBy
returns c = ap (λ es. entries_text worked_tables (map entry_of es))
    (entries_back one_row (tt, tt)) ∙ printed
