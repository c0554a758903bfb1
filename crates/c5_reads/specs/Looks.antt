-- The looks of a read, and which of them a pass has made.
use Prim.Native.Nat.{zero, suc}
use Rattle.std.specs.Prelude.{◌≡◌, ◌≤◌, ◌==◌, ◌++◌, ◌⊎◌, ℕ, List, [], ◌∷◌, Some}
use Rattle.std.specs.Prelude.{if◌then◌else◌}
use Rattle.std.specs.List.{flat_map}
use Rattle.c5_rows.specs.declared.writes.RowName.{RowName}
use Rattle.c5_rows.specs.declared.writes.Txn.{Txn}
use Rattle.c5_definitions.specs.Answers.{asked_names}
use Rattle.c5_definitions.specs.ScriptParts.{ReadParts}
use Rattle.c5_definitions.specs.Searches.{least_up_to}
use Rattle.c5_definitions.specs.WriteNumbers.{names_in, name_at, row_of, are_one, end_of}
use Rattle.c5_board.specs.declared.known.Look.{Look}
use Rattle.c5_board.specs.declared.known.Look.TheVariants.{LoadHead, ExchangeHead, LoadProgress}
use Rattle.c5_board.specs.declared.known.Look.TheVariants.{LoadVisible, LoadRecord, LoadScheduled}
use Rattle.c5_board.specs.declared.known.Look.TheVariants.{LoadBucket}
use Rattle.c5_board.specs.Boards.{Pass}
use Rattle.c5_board.specs.Loads.{AreLoads}

-- a load that a read makes: of the visible word, which found this place, or, whatever it found, of
-- the head of this row, or of the record of this write
pub data Wanted : Type 0 where
  visible : ℕ → Wanted
  head : ℕ → Wanted
  link : ℕ → Wanted

-- the look is that load
abbrev pub IsLoadOf : Wanted → Look → Type 0
IsLoadOf (visible place) (LoadHead row found) = ⊥
IsLoadOf (visible place) (ExchangeHead w found) = ⊥
IsLoadOf (visible place) (LoadProgress i found) = ⊥
IsLoadOf (visible place) (LoadVisible found) = found ≡ place
IsLoadOf (visible place) (LoadRecord w found) = ⊥
IsLoadOf (visible place) (LoadScheduled found) = ⊥
IsLoadOf (visible place) (LoadBucket j found) = ⊥
IsLoadOf (head number) (LoadHead row found) = row ≡ number
IsLoadOf (head number) (ExchangeHead w found) = ⊥
IsLoadOf (head number) (LoadProgress i found) = ⊥
IsLoadOf (head number) (LoadVisible found) = ⊥
IsLoadOf (head number) (LoadRecord w found) = ⊥
IsLoadOf (head number) (LoadScheduled found) = ⊥
IsLoadOf (head number) (LoadBucket j found) = ⊥
IsLoadOf (link number) (LoadHead row found) = ⊥
IsLoadOf (link number) (ExchangeHead w found) = ⊥
IsLoadOf (link number) (LoadProgress i found) = ⊥
IsLoadOf (link number) (LoadVisible found) = ⊥
IsLoadOf (link number) (LoadRecord w found) = w ≡ number
IsLoadOf (link number) (LoadScheduled found) = ⊥
IsLoadOf (link number) (LoadBucket j found) = ⊥

-- the loads are among the looks, in this order: a subsequence
abbrev pub AreWithin : List Wanted → List Look → Type 0
AreWithin [] looks = Unit {0}
AreWithin (load ∷ loads) [] = ⊥
AreWithin (load ∷ loads) (look ∷ looks) =
    (IsLoadOf load look × AreWithin loads looks) ⊎ AreWithin (load ∷ loads) looks

-- the number of the row of this name if it has a write up to the end, or 0: its first write
abbrev pub row_up_to : List RowName → RowName → ℕ → ℕ
row_up_to names name end = least_up_to (λ w. are_one (name_at names w) (Some name)) end

-- a load of the head of this row; none for 0, which isn't a row
abbrev pub head_load : ℕ → List Wanted
head_load zero = []
head_load (suc n) = head (suc n) ∷ []

-- for each of the names, in order, whose row has a write up to the end of the place: a load of the
-- row's head. A name that comes again counts again
abbrev pub head_loads : List Txn → List RowName → ℕ → List Wanted
head_loads txns names place =
    flat_map (λ name. head_load (row_up_to (names_in txns) name (end_of txns place))) names

-- the looks of a read block at a place
abbrev pub loads_of_read : List Txn → ReadParts → ℕ → List Wanted
loads_of_read txns read place = visible place ∷ head_loads txns (asked_names read.lines) place

-- the record of write w, and then the head of its row if it is the first write of it
abbrev pub loads_of_write : List RowName → ℕ → List Wanted
loads_of_write names w = link w ∷ (if row_of names w == w then head w ∷ [] else [])

-- the record of each write up to n, each followed by the head of its row if it is a first write
abbrev pub loads_of_rows : List RowName → ℕ → List Wanted
loads_of_rows names zero = []
loads_of_rows names (suc n) = loads_of_rows names n ++ loads_of_write names (suc n)

-- nothing but loads was added, and what is scheduled hasn't fallen
pub record OnlyLooks (old new : Pass) : Type 0 where
  pub more : List Look
  pub pass : new ≡ record old { scheduled = new.scheduled; looks = old.looks ++ more }
  pub rises : old.scheduled ≤ new.scheduled
  pub loads : AreLoads more

-- the loads of the heads of these names are among the looks that were added
pub record LooksForNames (old new : Pass) (names : List RowName) (place : ℕ) : Type 0 where
  pub more : List Look
  pub added : new.looks ≡ old.looks ++ more
  pub within : AreWithin (head_loads old.board.log.txns names place) more

-- the looks of a read, except the first, are among the looks that were added
abbrev pub LooksForRead : Pass → Pass → ReadParts → ℕ → Type 0
LooksForRead old new read place = LooksForNames old new (asked_names read.lines) place

-- the loads of all rows at a place are among the looks that were added
pub record LooksForRows (old new : Pass) (place : ℕ) : Type 0 where
  pub more : List Look
  pub added : new.looks ≡ old.looks ++ more
  pub within : AreWithin
      (loads_of_rows (names_in old.board.log.txns) (end_of old.board.log.txns place)) more
