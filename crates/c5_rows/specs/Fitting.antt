-- Which rows and writes fit the tables of a schema.
use Rattle.std.specs.Prelude.{◌≡◌, ℕ, List, map, MatchOption, slice_get}
use Rattle.c5_rows.specs.declared.cells.Cell.{Cell}
use Rattle.c5_rows.specs.declared.cells.CellType.{CellType}
use Rattle.c5_rows.specs.declared.tables.TableDef.{TableDef}
use Rattle.c5_rows.specs.declared.writes.Change.{Change}
use Rattle.c5_rows.specs.declared.writes.Change.TheVariants.{Put, Gone}
use Rattle.c5_rows.specs.declared.writes.Write.{Write}
use Rattle.c5_rows.specs.Cells.{type_of}

-- the cells have the types of the columns, one for one
abbrev pub RowFitsColumns : List Cell → List CellType → Type 0
RowFitsColumns row columns = map type_of row ≡ columns

-- there is a table of this number, and the cells have the types of its columns
abbrev pub RowFits : List TableDef → ℕ → List Cell → Type 0
RowFits tables number row = MatchOption (slice_get tables number) ⊥
    (λ table. RowFitsColumns row table.columns)

-- the row of a put fits the columns; a gone fits any
abbrev pub FitsColumns : Change → List CellType → Type 0
FitsColumns (Put row) columns = RowFitsColumns row columns
FitsColumns Gone columns = Unit {0}

-- the table of the write exists, and its columns take the change
abbrev pub FitsTables : List TableDef → Write → Type 0
FitsTables tables write = MatchOption (slice_get tables write.name.table) ⊥
    (λ table. FitsColumns write.change table.columns)
