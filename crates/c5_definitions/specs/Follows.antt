-- What a body does over answered reads.
use Rattle.std.specs.Prelude.{◌≡◌, Bool, true, false, List, [], ◌∷◌, map, Option, Some, None}
use Rattle.std.specs.Prelude.{MatchOption}
use Rattle.std.specs.FinMap.{FinMap, empty, get, insert, entries}
use Rattle.std.specs.List.{AllByRecursion}
use Rattle.c5_rows.specs.declared.cells.Cell.{Cell}
use Rattle.c5_rows.specs.declared.writes.RowName.{RowName}
use Rattle.c5_rows.specs.declared.writes.Write.{Write}
use Rattle.c5_rows.specs.Order.{row_name_cmp}
use Rattle.c5_rows.specs.State.{State}
use Rattle.c5_definitions.specs.declared.script.Statement.{Statement}
use Rattle.c5_definitions.specs.Effects.{declines, keeps, sets, needed, effect_of}
use Rattle.c5_definitions.specs.Eval.{write_of}

-- a name that was asked, and the answer: a row, or none
abbrev pub Read : Type 0
Read = RowName × Option (List Cell)

-- each read is answered as the state answers it
abbrev pub AnsweredBy : State → List Read → Type 0
AnsweredBy state reads = AllByRecursion (λ read. read.1 ≡ get state read.0) reads

-- the rows that a body itself has set
abbrev pub Own : Type 0
Own = FinMap row_name_cmp (Option (List Cell))

-- the row that is needed, and the reads that are left: a row that the body has set is that one, any
-- other is the first read's
abbrev pub FindsRow : Option RowName → Own → List Read → Option (List Cell) → List Read → Type 0
FindsRow None own reads row rest = (row ≡ None) × (rest ≡ reads)
FindsRow (Some name) own reads row rest =
    MatchOption (get own name) (reads ≡ (name, row) ∷ rest) (λ set. (row ≡ set) × (rest ≡ reads))

-- one write for each row that was set, ascending by name
abbrev pub own_writes : Own → List Write
own_writes own = map (λ (name, row). write_of name row) (entries own)

-- the statements, after those that set these rows, use exactly the reads, and end so
abbrev pub FollowsFrom : List Statement → Own → List Read → Bool → List Write → Type 0
FollowsFrom [] own reads declined writes = (reads ≡ []) × (declined ≡ false)
    × (writes ≡ own_writes own)
FollowsFrom (statement ∷ statements) own reads declined writes =
    (found : Option (List Cell)) × (rest : List Read)
    × FindsRow (needed statement) own reads found rest × elim (effect_of statement found) [
      | declines ↦ (rest ≡ []) × (declined ≡ true) × (writes ≡ [])
      | keeps ↦ FollowsFrom statements own rest declined writes
      | sets name row ↦ FollowsFrom statements (insert own name row) rest declined writes
    ]

-- the rows that the body asks for are exactly those of the reads, in order; answered so, it ends so
abbrev pub Follows : List Statement → List Read → Bool → List Write → Type 0
Follows body reads declined writes = FollowsFrom body empty reads declined writes
