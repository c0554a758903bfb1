-- The law: what every state that the rule allows says.
use Rattle.std.specs.Prelude.{◌≡◌, ◌≢◌, ℕ, ◌≤◌, true, List, length, slice_index, All, Option}
use mathlib.Core.List.{IsPrefix}
use mathlib.Core.Option.{some}
use lib.ListN.{get_elem?}
use Rattle.atomic_table.specs.Table.{State}
use Rattle.turn_slot.specs.declared.known.Known.{Known}
use Rattle.turn_slot.specs.declared.known.Origin.{Origin}
use Rattle.turn_slot.specs.Entries.{count_of, IsPassNumber, entries_of}
use Rattle.c5_rows.specs.Numbers.{is_among}
use Rattle.turn_slot.specs.Views.{has_turn, pass_number, LiesIn, IsPlaced, IsSlotKept}

module _ {V B E : Type 0} (base : V → B) (history : V → List E) (caller : E → ℕ)
    (origin : Origin B) where
  -- exactly one pass has the turn, and n is its number. The value lies in the slot, but while it is
  -- out with the turn
  abbrev pub IsHeldBy : State (Option V) (Known B E) → List E → ℕ → Type 0
  IsHeldBy s log n = (seat : ℕ) × (v : Known B E) × (get_elem? s.views seat ≡ some v)
      × (has_turn v.stage ≡ true) × (pass_number v.numbers ≡ n)
      × IsPlaced base history v.stage s.homes origin.base log
      × ((other : ℕ) (w : Known B E) → get_elem? s.views other ≡ some w → has_turn w.stage ≡ true
      → other ≡ seat)

  -- exactly one pass unites n
  abbrev pub IsUnitedBy : State (Option V) (Known B E) → ℕ → Type 0
  IsUnitedBy s n = (seat : ℕ) × (v : Known B E) × (get_elem? s.views seat ≡ some v)
      × (is_among n v.numbers ≡ true)
      × ((other : ℕ) (w : Known B E) → get_elem? s.views other ≡ some w
      → is_among n w.numbers ≡ true → other ≡ seat)

  -- the log is the history of the value when it was last in the slot
  pub record IsLawfulSlot (s : State (Option V) (Known B E)) (log : List E) : Type 0 where
    pub count : slice_index s.words 1 ≡ count_of (length log)
    pub free : slice_index s.words 0 ≡ 0 → LiesIn base history s.homes origin.base log
    pub held : slice_index s.words 0 ≢ 0 → IsHeldBy s log (slice_index s.words 0)
    pub numbers : (n : ℕ) → IsPassNumber origin.passes n → IsUnitedBy s n
    pub seen : (seat : ℕ) (v : Known B E) → get_elem? s.views seat ≡ some v → IsPrefix v.seen log
        × (entries_of caller v.numbers log ≡ entries_of caller v.numbers v.seen)
    pub looks : (seat : ℕ) (v : Known B E) → get_elem? s.views seat ≡ some v
        → All (λ n. n ≤ origin.passes) v.looks

  abbrev pub TurnLaw : Type 0
  TurnLaw = (s : State (Option V) (Known B E)) → IsSlotKept base history caller origin s
      → (log : List E) × IsLawfulSlot s log
