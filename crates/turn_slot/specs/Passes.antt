-- What a slot, a pass and a turn show.
use Rattle.std.specs.Prelude.{◌≡◌, ℕ, List, [], true, Some}
use Rattle.turn_slot.specs.declared.kept.Kept.{Ghosts}
use Rattle.turn_slot.specs.declared.known.Origin.{Origin}
use Rattle.turn_slot.specs.declared.pass.Pass.{Pass}
use Rattle.turn_slot.specs.declared.pass.Turn.{Turn}
use Rattle.turn_slot.specs.declared.pass.Take.{Take}
use Rattle.turn_slot.specs.declared.pass.Take.TheVariants.{Took, Busy}
use Rattle.turn_slot.specs.declared.slot.TurnSlot.{TurnSlot}
use Rattle.turn_slot.specs.Entries.{IsPassNumber, entries_of}
use Rattle.c5_rows.specs.Numbers.{is_among}

module _ {V B E : Type 0} where
  -- how many passes the slot was made with
  abbrev pub passes : TurnSlot V B E → ℕ
  passes slot = slot.table.shared.key.passes

  -- the base of the value that the slot was made with
  abbrev pub slot_base : (V → B) → TurnSlot V B E → B
  slot_base base slot = base slot.table.shared.key.value.value

  -- both
  abbrev pub origin_of : (V → B) → TurnSlot V B E → Origin B
  origin_of base slot = record { base = slot_base base slot; passes = passes slot }

module _ {V B E : Type 0} {G : Ghosts V B E} where
  -- the numbers that a pass unites, its own first
  abbrev pub numbers : Pass V B E G → List ℕ
  numbers p = p.seat.me.0.numbers

  -- the history that it has seen
  abbrev pub seen : Pass V B E G → List E
  seen p = p.seat.me.0.seen

  -- the holder words that its exchanges found
  abbrev pub looks : Pass V B E G → List ℕ
  looks p = p.seat.me.0.looks

  -- its own entries: those of its numbers in what it has seen
  abbrev pub own : Pass V B E G → List E
  own p = entries_of G.caller (numbers p) (seen p)

  -- the same of a turn
  abbrev pub turn_numbers : Turn V B E G → List ℕ
  turn_numbers t = t.seat.me.0.numbers

  abbrev pub turn_seen : Turn V B E G → List E
  turn_seen t = t.seat.me.0.seen

  abbrev pub turn_looks : Turn V B E G → List ℕ
  turn_looks t = t.seat.me.0.looks

  -- it is a pass, or a turn, of this slot
  abbrev pub IsPassOf : TurnSlot V B E → Pass V B E G → Type 0
  IsPassOf slot p = (p.seat.table_id ≡ slot.table.shared.table_id)
      × (p.seat.me.0.origin ≡ Some (origin_of G.base slot))

  abbrev pub IsTurnOf : TurnSlot V B E → Turn V B E G → Type 0
  IsTurnOf slot t = (t.seat.table_id ≡ slot.table.shared.table_id)
      × (t.seat.me.0.origin ≡ Some (origin_of G.base slot))

  -- the pass has each number of the slot
  abbrev pub HasAll : TurnSlot V B E → Pass V B E G → Type 0
  HasAll slot p = (n : ℕ) → IsPassNumber (passes slot) n → is_among n (numbers p) ≡ true

  -- a pass of this slot that has seen and tried nothing
  abbrev pub IsNew : TurnSlot V B E → Pass V B E G → Type 0
  IsNew slot p = IsPassOf slot p × (seen p ≡ []) × (looks p ≡ [])

  -- what is said of a try's answer, by its kind
  abbrev pub IfTook : Take V B E G → (V → Turn V B E G → Type 0) → Type 0
  IfTook (Took x t) P = P x t
  IfTook (Busy n p) P = Unit {0}

  abbrev pub IfBusy : Take V B E G → (ℕ → Pass V B E G → Type 0) → Type 0
  IfBusy (Took x t) P = Unit {0}
  IfBusy (Busy n p) P = P n p

  abbrev pub IsTook : Take V B E G → Type 0
  IsTook (Took x t) = Unit {0}
  IsTook (Busy n p) = ⊥
