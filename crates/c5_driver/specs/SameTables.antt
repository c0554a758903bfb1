-- Whether two lists of tables are one: the same names and column types, in the same order.
use Rattle.std.specs.Prelude.{Bool, true, false, ◌&&◌, List, [], ◌∷◌}
use Rattle.std.specs.Str.{bytes_eq}
use Rattle.c5_rows.specs.declared.cells.CellType.{CellType}
use Rattle.c5_rows.specs.declared.cells.CellType.TheVariants.{Int, Text}
use Rattle.c5_rows.specs.declared.tables.TableDef.{TableDef}

abbrev pub is_same_type : CellType → CellType → Bool
is_same_type Int Int = true
is_same_type Int Text = false
is_same_type Text Int = false
is_same_type Text Text = true

abbrev pub are_same_types : List CellType → List CellType → Bool
are_same_types [] [] = true
are_same_types [] (b ∷ others) = false
are_same_types (a ∷ those) [] = false
are_same_types (a ∷ those) (b ∷ others) = is_same_type a b && are_same_types those others

abbrev pub is_same_table : TableDef → TableDef → Bool
is_same_table a b = bytes_eq a.name b.name && are_same_types a.columns b.columns

abbrev pub are_same_tables : List TableDef → List TableDef → Bool
are_same_tables [] [] = true
are_same_tables [] (b ∷ others) = false
are_same_tables (a ∷ those) [] = false
are_same_tables (a ∷ those) (b ∷ others) = is_same_table a b && are_same_tables those others
