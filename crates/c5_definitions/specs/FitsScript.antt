-- Which statements and lines of read blocks fit tables, and what a script is.
use Rattle.std.specs.Prelude.{◌≡◌, ◌≤◌, ◌<◌, ℕ, List, length, MatchOption, slice_get, Some}
use Rattle.std.specs.List.{AllByRecursion}
use Rattle.c5_rows.specs.Bytes.{IsKey}
use Rattle.c5_rows.specs.Fitting.{RowFits}
use Rattle.c5_rows.specs.Sizes.{max_statements, max_sessions, max_workers, max_read_lines}
use Rattle.c5_rows.specs.Sizes.{max_reads, max_sum_keys, max_turn_words}
use Rattle.c5_rows.specs.Tables.{IsSchema}
use Rattle.c5_rows.specs.declared.cells.CellType.TheVariants as types
use Rattle.c5_rows.specs.declared.tables.TableDef.{TableDef}
use Rattle.c5_definitions.specs.Lawful.{IsLawfulCell, IsLawfulTable}
use Rattle.c5_definitions.specs.ScriptParts.{ReadParts, ScriptParts}
use Rattle.c5_definitions.specs.declared.script.Statement.{Statement}
use Rattle.c5_definitions.specs.declared.script.Statement.TheVariants.{Put, Del, Need, Add, Copy}
use Rattle.c5_definitions.specs.declared.script.ReadLine.{ReadLine}
use Rattle.c5_definitions.specs.declared.script.ReadLine.TheVariants.{OneRow, SumOf}
use Rattle.c5_definitions.specs.declared.script.TurnWord.{TurnWord}
use Rattle.c5_definitions.specs.declared.script.TurnWord.TheVariants.{Worker, Visible, Session}

-- there is a table of this number
abbrev pub HasTable : List TableDef → ℕ → Type 0
HasTable tables table = table < length tables

-- this column of this table is an Int column
abbrev pub HasIntColumn : List TableDef → ℕ → ℕ → Type 0
HasIntColumn tables table col =
    MatchOption (slice_get tables table) ⊥ (λ found. slice_get found.columns col ≡ Some types.Int)

-- the tables have what the statement names
abbrev pub StatementFits : List TableDef → Statement → Type 0
StatementFits tables (Put name row) = RowFits tables name.table row
StatementFits tables (Del name) = HasTable tables name.table
StatementFits tables (Need name col rel n) = HasIntColumn tables name.table col
StatementFits tables (Add name col n) = HasIntColumn tables name.table col
StatementFits tables (Copy from to) = HasTable tables from.table × (from.table ≡ to.table)

-- the tables have what the line of a read block names
abbrev pub ReadLineFits : List TableDef → ReadLine → Type 0
ReadLineFits tables (OneRow name) = HasTable tables name.table
ReadLineFits tables (SumOf table col keys) = HasIntColumn tables table col

-- every statement of a body fits
abbrev pub BodyFits : List TableDef → List Statement → Type 0
BodyFits tables body = AllByRecursion (StatementFits tables) body

-- every line of a read block fits
abbrev pub ReadFits : List TableDef → ReadParts → Type 0
ReadFits tables read = AllByRecursion (ReadLineFits tables) read.lines

-- the keys of a statement are keys, and its cells are lawful
abbrev pub IsStatement : Statement → Type 0
IsStatement (Put name row) = IsKey name.key × AllByRecursion IsLawfulCell row
IsStatement (Del name) = IsKey name.key
IsStatement (Need name col rel n) = IsKey name.key
IsStatement (Add name col n) = IsKey name.key
IsStatement (Copy from to) = IsKey from.key × IsKey to.key

-- the keys of a line are keys, and a sum has at least one
abbrev pub IsReadLine : ReadLine → Type 0
IsReadLine (OneRow name) = IsKey name.key
IsReadLine (SumOf table col keys) = (1 ≤ length keys) × (length keys ≤ max_sum_keys)
    × AllByRecursion IsKey keys

-- the number of a worker or a session
abbrev pub IsTurn : TurnWord → Type 0
IsTurn (Worker n) = (1 ≤ n) × (n ≤ max_workers)
IsTurn Visible = Unit {0}
IsTurn (Session n) = (1 ≤ n) × (n ≤ max_sessions)

-- the statements of a transaction
pub record IsBody (body : List Statement) : Type 0 where
  pub few : length body ≤ max_statements
  pub each : AllByRecursion IsStatement body

-- a read block: a session asks at least one line
pub record IsRead (read : ReadParts) : Type 0 where
  pub session_some : 1 ≤ read.session
  pub session_few : read.session ≤ max_sessions
  pub some : 1 ≤ length read.lines
  pub few : length read.lines ≤ max_read_lines
  pub each : AllByRecursion IsReadLine read.lines

-- bodies and read blocks that fit the tables of a schema, and a schedule
pub record IsScript (script : ScriptParts) : Type 0 where
  pub schema : IsSchema script.tables
  pub each_table : AllByRecursion IsLawfulTable script.tables
  pub bodies : AllByRecursion IsBody script.bodies
  pub bodies_fit : AllByRecursion (BodyFits script.tables) script.bodies
  pub reads : AllByRecursion IsRead script.reads
  pub reads_fit : AllByRecursion (ReadFits script.tables) script.reads
  pub few_reads : length script.reads ≤ max_reads
  pub turns : AllByRecursion IsTurn script.turns
  pub few_turns : length script.turns ≤ max_turn_words
