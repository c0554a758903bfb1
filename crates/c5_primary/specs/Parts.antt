-- What the parts of a session show, and what holds of them.
use Rattle.std.specs.Prelude.{[], Some, None, IfSome}
use Rattle.c5_definitions.specs.OrderLog.{IsOpen}
use Rattle.turn_slot.specs.Passes.{numbers, seen, looks, IsPassOf}
use Rattle.c5_primary.specs.declared.state.SessionState.{SessionState}
use Rattle.c5_primary.specs.declared.parts.Parts.{Parts}
use Rattle.c5_primary.specs.Sessions.{txn_begun}
use Rattle.c5_primary.specs.Slots.{slot_state}

-- what contracts see of them
abbrev pub state_of : Parts → SessionState
state_of parts = slot_state parts.slot.now
    (elim parts.pass [ None ↦ [] | Some pass ↦ numbers pass ])
    (elim parts.pass [ None ↦ [] | Some pass ↦ seen pass ])
    (elim parts.pass [ None ↦ [] | Some pass ↦ looks pass ]) parts.begun

-- the pass is there and of the slot, and the transaction that was begun is open
abbrev pub HoldsParts : Parts → Type 0
HoldsParts parts = elim parts.pass [ None ↦ ⊥ | Some pass ↦ IsPassOf parts.slot.now pass ]
    × IfSome parts.begun (λ o. IsOpen (state_of parts).seen (txn_begun (state_of parts) o))
