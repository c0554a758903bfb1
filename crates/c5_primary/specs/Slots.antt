-- Which slot a session is of.
use Rattle.std.specs.Prelude.{◌≡◌, ℕ, List, Option}
use Rattle.c5_definitions.specs.declared.history.Entry.{Entry}
use Rattle.c5_definitions.specs.declared.history.OrderBase.{OrderBase}
use Rattle.c5_order.specs.declared.order.Order.{Order}
use Rattle.turn_slot.specs.declared.slot.TurnSlot.{TurnSlot}
use Rattle.turn_slot.specs.Passes.{passes, slot_base}
use Rattle.c5_primary.specs.declared.state.SlotId.{SlotId}
use Rattle.c5_primary.specs.declared.state.Opened.{Opened}
use Rattle.c5_primary.specs.declared.state.SessionState.{SessionState}

-- what distinguishes a slot from others
abbrev pub slot_id : TurnSlot Order OrderBase Entry → SlotId
slot_id slot =
    let id = slot.table.shared.table_id in
    record {
      words = id.words;
      slots = id.slots;
      views_name = id.views_name;
      atom = id.atom;
      block = id.block;
      offset = id.offset;
      slot_names = id.slot_names;
    }

-- a session of a slot, whose pass has these numbers, and has seen and found this
abbrev pub slot_state : TurnSlot Order OrderBase Entry → List ℕ → List Entry → List ℕ
    → Option Opened → SessionState
slot_state slot numbers seen looks begun = record {
  slot = slot_id slot;
  passes = passes slot;
  base = slot_base (λ o. o.base) slot;
  numbers = numbers;
  seen = seen;
  looks = looks;
  begun = begun;
}

-- a session of this slot
abbrev pub IsSessionOf : TurnSlot Order OrderBase Entry → SessionState → Type 0
IsSessionOf slot s = (s.slot ≡ slot_id slot) × (s.passes ≡ passes slot)
    × (s.base ≡ slot_base (λ o. o.base) slot)
