-- Which tables and transactions have a spelling, and which bytes are a log.
use Rattle.std.specs.Prelude.{◌≡◌, ◌≤◌, ◌<◌, ◌^◌, ℕ, List, [], ◌∷◌, length, FitsSigned}
use Rattle.std.specs.Int.{w64}
use Rattle.std.specs.List.{AllByRecursion}
use Rattle.c5_rows.specs.declared.cells.Cell.{Cell}
use Rattle.c5_rows.specs.declared.cells.Cell.TheVariants.{Int, Txt}
use Rattle.c5_rows.specs.declared.tables.TableDef.{TableDef}
use Rattle.c5_rows.specs.declared.writes.Change.{Change}
use Rattle.c5_rows.specs.declared.writes.Change.TheVariants.{Put, Gone}
use Rattle.c5_rows.specs.declared.writes.Write.{Write}
use Rattle.c5_rows.specs.declared.writes.Txn.{Txn}
use Rattle.c5_rows.specs.Bytes.{IsKey, IsText, IsTableName}
use Rattle.c5_rows.specs.Tables.{IsSchema}
use Rattle.c5_rows.specs.Writes.{IsAscending}
use Rattle.c5_rows.specs.Fitting.{FitsTables}
use Rattle.c5_rows.specs.Sizes.{max_columns}
use Rattle.c5_definitions.specs.Spelling.{spelled_log}

-- a name of a table, and at least one column
pub record IsLawfulTable (table : TableDef) : Type 0 where
  pub name : IsTableName table.name
  pub some : 1 ≤ length table.columns
  pub few : length table.columns ≤ max_columns

-- a number of 64 bits with a sign, or a text
abbrev pub IsLawfulCell : Cell → Type 0
IsLawfulCell (Int n) = FitsSigned w64 n
IsLawfulCell (Txt bytes) = IsText bytes

-- the cells of a put are lawful
abbrev pub IsLawfulChange : Change → Type 0
IsLawfulChange (Put row) = AllByRecursion IsLawfulCell row
IsLawfulChange Gone = Unit {0}

-- a key, and a change that fits the table
pub record IsLawfulWrite (tables : List TableDef) (write : Write) : Type 0 where
  pub key : IsKey write.name.key
  pub change : IsLawfulChange write.change
  pub fits : FitsTables tables write

-- writes whose names strictly ascend, and numbers in their ranges
pub record IsLawfulTxn (tables : List TableDef) (txn : Txn) : Type 0 where
  pub script : txn.script < 2 ^ 32
  pub count : length txn.writes < 2 ^ 32
  pub ascending : IsAscending txn.writes
  pub writes : AllByRecursion (IsLawfulWrite tables) txn.writes

-- each stamp is above the one before it, and the first above the given one
abbrev pub StampsRise : ℕ → List Txn → Type 0
StampsRise last [] = Unit {0}
StampsRise last (txn ∷ txns) = (last < txn.stamp) × (txn.stamp < 2 ^ 64) × StampsRise txn.stamp txns

-- tables of different names, lawful transactions, and stamps that strictly ascend from at least 1
pub record IsLawfulLog (tables : List TableDef) (txns : List Txn) : Type 0 where
  pub schema : IsSchema tables
  pub each_table : AllByRecursion IsLawfulTable tables
  pub each_txn : AllByRecursion (IsLawfulTxn tables) txns
  pub stamps : StampsRise 0 txns
  pub count : length txns < 2 ^ 32

-- the bytes are the spelling of lawful tables and transactions
pub record Spells (bytes : List ℕ) (tables : List TableDef) (txns : List Txn) : Type 0 where
  pub lawful : IsLawfulLog tables txns
  pub spelling : bytes ≡ spelled_log tables txns
