-- The end of a run: the one open transaction of an order book, and what is left to run.
use Rattle.std.specs.Prelude.{◌≡◌, ◌<◌, ℕ, List, [], ◌∷◌, map, take, length, IsSome}
use mathlib.Core.List.{IsPrefix}
use Rattle.c5_definitions.specs.declared.history.Entry.{Entry}
use Rattle.c5_definitions.specs.declared.history.Event.TheVariants as events
use Rattle.c5_definitions.specs.History.{Begun, last_stamp, open_txns}
use Rattle.c5_definitions.specs.OrderLog.{committed, committed_stamp}
use Rattle.c5_order.specs.declared.order.OrderState.{OrderState}
use Rattle.c5_primary.specs.declared.state.HeldBase.{HeldBase}
use Rattle.c5_primary.specs.declared.state.Opened.{Opened}

-- a transaction that no session began
abbrev pub own_txn : Opened → Begun
own_txn o = record { caller = 0; stamp = o.stamp; script = o.script }

-- the same order book, with a history that has grown at its end
pub record GoesOn (old new : OrderState) : Type 0 where
  pub base : new.base ≡ old.base
  pub grew : IsPrefix old.history new.history

-- the transaction is the only open one, and was begun last
pub record IsAlone (order : OrderState) (b : Begun) : Type 0 where
  pub only : open_txns order.history ≡ b ∷ []
  pub last : last_stamp order.base.last order.history ≡ b.stamp

-- the bodies below this number are committed
abbrev pub AreCommittedBelow : ℕ → List Entry → Type 0
AreCommittedBelow count history = (n : ℕ) → n < count
    → IsSome (committed_stamp n (committed history))

-- ---- what a read of the one open transaction leaves as it is

-- the begin of a transaction, as an entry
abbrev pub begin_of : Begun → Entry
begin_of b = record { caller = b.caller; stamp = b.stamp; event = events.Begin b.script }

abbrev pub held_base : ℕ → OrderState → ℕ → ℕ → HeldBase
held_base reference order stamp before = record {
  reference = reference;
  base = order.base;
  stamp = stamp;
  opens = map begin_of (open_txns order.history);
  last = last_stamp order.base.last order.history;
  before = before;
  first = take before order.history;
}
