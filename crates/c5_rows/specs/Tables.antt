-- Tables of a schema, by their numbers and names.
use Rattle.std.specs.Prelude.{◌≡◌, ◌≤◌, ◌+◌, ℕ, List, [], ◌∷◌, length, Option, Some, None}
use Rattle.std.specs.Prelude.{if◌then◌else◌, nat_le, option_map}
use Rattle.std.specs.Str.{bytes_eq}
use Rattle.c5_rows.specs.Sizes.{max_tables}
use Rattle.c5_rows.specs.declared.tables.TableDef.{TableDef}
use Rattle.c5_rows.specs.declared.tables.BadSchema.{BadSchema}
use Rattle.c5_rows.specs.declared.tables.BadSchema.TheVariants.{Full, Repeated}

-- the number of the first table of this name, counted from n
abbrev pub table_number_from : ℕ → List ℕ → List TableDef → Option ℕ
table_number_from n name [] = None
table_number_from n name (table ∷ tables) = if bytes_eq table.name name then Some n
    else table_number_from (n + 1) name tables

-- the number of the first table of this name
abbrev pub table_number : List ℕ → List TableDef → Option ℕ
table_number name tables = table_number_from 0 name tables

-- no table has the name of one before it
abbrev pub HaveNames : List TableDef → Type 0
HaveNames [] = Unit {0}
HaveNames (table ∷ tables) = (table_number table.name tables ≡ None) × HaveNames tables

-- 1 to 16 tables of different names
pub record IsSchema (tables : List TableDef) : Type 0 where
  pub some : 1 ≤ length tables
  pub few : length tables ≤ max_tables
  pub names : HaveNames tables

-- why a further table is refused: there is no room, or else its name is taken
abbrev pub refusal_of : List TableDef → TableDef → Option BadSchema
refusal_of tables table = if nat_le max_tables (length tables) then Some Full
    else option_map Repeated (table_number table.name tables)
