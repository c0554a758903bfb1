use Rattle.std.proofs.Common.{◌≡◌, List, [], ◌∷◌, map, ap, ◌∙◌, refl}
use Rattle.std.specs.Fmt.{digits}
use Rattle.std.specs.List.Sorted.{IsStrictlySortedBy}
use Rattle.std.specs.Prelude.{negsuc, codes}
use Rattle.c5_rows.specs.declared.cells.Cell.{Cell}
use Rattle.c5_rows.specs.declared.cells.Cell.TheVariants.{Int, Txt}
use Rattle.c5_rows.specs.declared.writes.RowName.{RowName}
use Rattle.c5_rows.specs.State.{entry_of}
use Rattle.c5_rows.proofs.RowLemmas.{entries_back}
use Rattle.c5_definitions.specs.Texts.{entries_text}
use Rattle.c5_definitions.specs.Worked.{text_tables, text_text}
use Rattle.c5_definitions.proofs.worked.worked_text_rows.Goals as goal

abbrev one_row : List (RowName × List Cell)
one_row = (record { table = 0; key = codes "k" }, Txt (codes "hello world") ∷ Int (negsuc 4) ∷ [])
    ∷ []

printed : entries_text text_tables (map entry_of one_row) ≡ text_text
unfolding digits
printed = refl

pub returns : goal.returns
unfolding IsStrictlySortedBy
returns c = ap (λ es. entries_text text_tables (map entry_of es))
    (entries_back one_row (tt, tt)) ∙ printed
