-- Which rows, writes and states fit tables.
use Rattle.std.specs.Prelude.{◌≡◌, List, Option, Some}
use Rattle.std.specs.FinMap.{get}
use Rattle.std.specs.List.{AllByRecursion}
use Rattle.c5_rows.specs.Bytes.{IsKey}
use Rattle.c5_rows.specs.Fitting.{RowFits}
use Rattle.c5_rows.specs.State.{State}
use Rattle.c5_rows.specs.declared.cells.Cell.{Cell}
use Rattle.c5_rows.specs.declared.tables.TableDef.{TableDef}
use Rattle.c5_rows.specs.declared.writes.RowName.{RowName}
use Rattle.c5_definitions.specs.Lawful.{IsLawfulCell}
use Rattle.c5_definitions.specs.FitsScript.{HasTable}

-- a key, and a table that is there
pub record IsNameIn (tables : List TableDef) (name : RowName) : Type 0 where
  pub key : IsKey name.key
  pub table : HasTable tables name.table

-- a key, and lawful cells of the types that the table has
pub record IsRowIn (tables : List TableDef) (name : RowName) (row : List Cell) : Type 0 where
  pub key : IsKey name.key
  pub cells : AllByRecursion IsLawfulCell row
  pub fits : RowFits tables name.table row

-- a row that may be missing
abbrev pub MayBeIn : List TableDef → RowName → Option (List Cell) → Type 0
MayBeIn tables name found = (row : List Cell) → found ≡ Some row → IsRowIn tables name row

-- every row of the state fits
abbrev pub StateFits : List TableDef → State → Type 0
StateFits tables state = (name : RowName) → MayBeIn tables name (get state name)
