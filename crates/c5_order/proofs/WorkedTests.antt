-- What the tests ask of the worked histories.
use Rattle.std.proofs.Common.{◌≡◌, ℕ, List, [], ◌∷◌, ◌++◌, map, Option, None, refl, ap, sym, subst}
use Rattle.std.proofs.Common.{◌∙◌, lit<}
use Rattle.std.specs.Prelude.{true, false, pos}
use Rattle.std.specs.FinMap.{empty, insert, entries, put, entries-insert, len-entries, len-empty}
use Rattle.std.specs.FinMap.{get-empty}
use Rattle.std.proofs.lemmas.List.{nil_from_length}
use Rattle.c5_rows.specs.declared.cells.Cell.{Cell}
use Rattle.c5_rows.specs.declared.writes.RowName.{RowName}
use Rattle.c5_rows.specs.declared.writes.Write.{Write}
use Rattle.c5_rows.specs.Order.{row_name_cmp, row_name_cmp_total}
use Rattle.c5_rows.specs.State.{State}
use Rattle.c5_definitions.specs.declared.script.Statement.{Statement}
use Rattle.c5_definitions.specs.declared.history.Entry.{Entry}
use Rattle.c5_definitions.specs.declared.history.OrderBase.{OrderBase}
use Rattle.c5_definitions.specs.declared.history.Event.TheVariants as events
use Rattle.c5_definitions.specs.Eval.{write_of}
use Rattle.c5_definitions.specs.Follows.{own_writes}
use Rattle.c5_definitions.specs.History.{Begun, begun, commits, ended_stamps, open_txns, version_at}
use Rattle.c5_definitions.specs.History.{row_seen, row_of_version, reads, answered}
use Rattle.c5_definitions.specs.OrderLog.{IsOpen, IsOutcome}
use Rattle.c5_definitions.specs.WorkedOrder.{row_x, write_x, read_base, read_by_later}
use Rattle.c5_definitions.specs.WorkedOrder.{later_committed, earlier_cancelled, write_base}
use Rattle.c5_definitions.specs.WorkedOrder.{later_first, both_committed}
use Rattle.c5_order.specs.declared.order.OrderState.{OrderState}
use Rattle.c5_order.specs.declared.answers.Decision.{Decision}
use Rattle.c5_order.specs.declared.answers.Decision.TheVariants as decisions
use Rattle.c5_order.specs.Answers.{after_decision}

-- the stamp is open
abbrev pub IsBegun : OrderState → ℕ → Type 0
IsBegun o stamp = (b : Begun) × IsOpen o.history b × (b.stamp ≡ stamp)

-- it is open, and these are the writes of its body
abbrev pub IsReady : OrderState → ℕ → List Write → Type 0
IsReady o stamp writes = (b : Begun) × IsOpen o.history b × (b.stamp ≡ stamp)
    × IsOutcome o.base o.history b writes

abbrev pub state : OrderBase → List Entry → OrderState
state base history = record { base = base; history = history }

-- one row that was set gives one write
one_write : (name : RowName) (row : Option (List Cell))
    → write_of name row ∷ [] ≡ own_writes (insert (empty {R = row_name_cmp}) name row)
one_write name row =
    sym (ap (map (λ (n, r). write_of n r))
    (entries-insert row_name_cmp_total (empty {R = row_name_cmp}) name row
    ∙ ap (put row_name_cmp name row)
    (nil_from_length (entries (empty {R = row_name_cmp}))
    (sym (len-entries (empty {R = row_name_cmp})) ∙ len-empty row_name_cmp
    (Option (List Cell))))))

abbrev pub first : Begun
first = record { caller = 1; stamp = 1; script = 0 }

abbrev pub second : Begun
second = record { caller = 2; stamp = 2; script = 1 }

-- stamps 1 and 2 are begun
abbrev pub both_begun : List Entry
both_begun = record { caller = 1; stamp = 1; event = events.Begin 0 }
    ∷ record { caller = 2; stamp = 2; event = events.Begin 1 } ∷ []

-- ---- a later stamp has read the row

reads_next : IsBegun (state read_base both_begun) 2
unfolding begun ended_stamps open_txns
reads_next = (second, (1, lit< tt, refl), refl)

pub reads_second : (o : OrderState) → o ≡ state read_base both_begun → IsBegun o 2
reads_second o is = subst (λ o. IsBegun o 2) (sym is) reads_next

writes_first : IsReady (state read_base read_by_later) 1 (write_x 1 ∷ [])
unfolding begun commits ended_stamps open_txns version_at row_seen row_of_version reads answered
writes_first = (
  first,
  (0, lit< tt, refl),
  refl,
  (false, (None, [], (refl, refl), (refl, refl, one_write _ _))),
)

pub conflict_asked : (o : OrderState) (ws : List Write) → o ≡ state read_base read_by_later
    → ws ≡ write_x 1 ∷ [] → IsReady o 1 ws
conflict_asked o ws is same = subst (λ o. IsReady o 1 ws) (sym is)
    (subst (IsReady (state read_base read_by_later) 1) (sym same) writes_first)

declines_second : IsReady (state read_base read_by_later) 2 []
unfolding begun commits ended_stamps open_txns version_at row_seen row_of_version reads answered
declines_second =
    (second, (1, lit< tt, refl), refl, (true, (None, [], simp get-empty refl, (refl, refl, refl))))

pub decline_asked : (o : OrderState) (ws : List Write) → o ≡ state read_base read_by_later → ws ≡ []
    → IsReady o 2 ws
decline_asked o ws is same = subst (λ o. IsReady o 2 ws) (sym is)
    (subst (IsReady (state read_base read_by_later) 2) (sym same) declines_second)

cancels_first : IsBegun (state read_base later_committed) 1
unfolding begun ended_stamps open_txns
cancels_first = (first, (0, lit< tt, refl), refl)

pub cancel_asked : (o : OrderState) → o ≡ state read_base later_committed → IsBegun o 1
cancel_asked o is = subst (λ o. IsBegun o 1) (sym is) cancels_first

-- ---- the later stamp commits first

writes_second : IsReady (state write_base both_begun) 2 (write_x 2 ∷ [])
unfolding begun commits ended_stamps open_txns version_at row_seen row_of_version reads answered
writes_second = (
  second,
  (1, lit< tt, refl),
  refl,
  (false, (None, [], (refl, refl), (refl, refl, one_write _ _))),
)

pub second_asked : (o : OrderState) (ws : List Write) → o ≡ state write_base both_begun
    → ws ≡ write_x 2 ∷ [] → IsReady o 2 ws
second_asked o ws is same = subst (λ o. IsReady o 2 ws) (sym is)
    (subst (IsReady (state write_base both_begun) 2) (sym same) writes_second)

writes_then_first : IsReady (state write_base later_first) 1 (write_x 1 ∷ [])
unfolding begun commits ended_stamps open_txns version_at row_seen row_of_version reads answered
writes_then_first = (
  first,
  (0, lit< tt, refl),
  refl,
  (false, (None, [], (refl, refl), (refl, refl, one_write _ _))),
)

pub first_asked : (o : OrderState) (ws : List Write) → o ≡ state write_base later_first
    → ws ≡ write_x 1 ∷ [] → IsReady o 1 ws
first_asked o ws is same = subst (λ o. IsReady o 1 ws) (sym is)
    (subst (IsReady (state write_base later_first) 1) (sym same) writes_then_first)

-- ---- what a commit leaves

abbrev pub Leaves : OrderState → OrderState → ℕ → List Write → Decision → Type 0
Leaves o o' stamp ws d = (b : Begun) → IsOpen o.history b → b.stamp ≡ stamp
    → o' ≡ record o { history = after_decision b ws d o.history }

pub conflict_keeps : (o o' : OrderState) (stamp : ℕ) (ws : List Write) (d : Decision)
    (row : RowName) (reader : ℕ) → d ≡ decisions.Conflict row reader → IsBegun o stamp
    → Leaves o o' stamp ws d → o' ≡ o
conflict_keeps o o' stamp ws d row reader is b leaves =
    leaves b.0 b.1 b.2 ∙ ap (λ (d : Decision). state o.base (after_decision b.0 ws d o.history)) is

pub commit_adds : (o o' : OrderState) (base : OrderBase) (history : List Entry) (stamp : ℕ)
    (ws known : List Write) (d : Decision) → d ≡ decisions.Committed → o ≡ state base history
    → ws ≡ known → (b : IsBegun (state base history) stamp) → Leaves o o' stamp ws d
    → o' ≡ state base
    (history ++ record { caller = b.0.caller; stamp = b.0.stamp; event = events.Commit known }
    ∷ [])
commit_adds o o' base history stamp ws known d is start same b leaves =
    subst (λ (o : OrderState). Leaves o o' stamp ws d) start leaves b.0 b.1 b.2
    ∙ (ap (λ (d : Decision). state base (after_decision b.0 ws d history)) is
    ∙ ap (λ (l : List Write). state base
    (history ++ record { caller = b.0.caller; stamp = b.0.stamp; event = events.Commit l }
    ∷ [])) same)

-- the two transactions are open in the worked histories
pub open_later : IsOpen later_committed first × (first.stamp ≡ 1)
unfolding begun ended_stamps open_txns
open_later = ((0, lit< tt, refl), refl)

pub open_begun : IsOpen both_begun second × (second.stamp ≡ 2)
unfolding begun ended_stamps open_txns
open_begun = ((1, lit< tt, refl), refl)

pub open_read : IsOpen read_by_later second × (second.stamp ≡ 2)
unfolding begun ended_stamps open_txns
open_read = ((1, lit< tt, refl), refl)

pub open_written : IsOpen later_first first × (first.stamp ≡ 1)
unfolding begun ended_stamps open_txns
open_written = ((0, lit< tt, refl), refl)

pub cancel_leaves : (o o' : OrderState) → o ≡ state read_base later_committed
    → ((b : Begun) → IsOpen o.history b → b.stamp ≡ 1
    → o' ≡ record o {
      history = o.history
          ++ record { caller = b.caller; stamp = 1; event = events.Cancel } ∷ [];
    })
    → o' ≡ state read_base earlier_cancelled
cancel_leaves o o' is leaves =
    subst (λ (o : OrderState). (b : Begun) → IsOpen o.history b → b.stamp ≡ 1
    → o' ≡ record o {
      history = o.history
          ++ record { caller = b.caller; stamp = 1; event = events.Cancel } ∷ [];
    }) is leaves
    first open_later.0 open_later.1

-- a read adds its entry
pub read_adds : (o o' : OrderState) (row : RowName) → o ≡ state read_base both_begun → row ≡ row_x
    → ((b : Begun) → IsOpen o.history b → b.stamp ≡ 2
    → o' ≡ record o {
      history = o.history
          ++ record { caller = b.caller; stamp = 2; event = events.Read row } ∷ [];
    })
    → o' ≡ state read_base read_by_later
read_adds o o' row is same leaves =
    subst (λ (o : OrderState). (b : Begun) → IsOpen o.history b → b.stamp ≡ 2
    → o' ≡ record o {
      history = o.history
          ++ record { caller = b.caller; stamp = 2; event = events.Read row } ∷ [];
    }) is leaves
    second open_begun.0 open_begun.1
    ∙ ap (λ (n : RowName). state read_base
    (both_begun ++ record { caller = 2; stamp = 2; event = events.Read n } ∷ [])) same

pub decline_leaves : (o o' : OrderState) (ws : List Write) (d : Decision)
    → o ≡ state read_base read_by_later → ws ≡ [] → d ≡ decisions.Committed → Leaves o o' 2 ws d
    → o' ≡ state read_base later_committed
decline_leaves o o' ws d start same is leaves =
    commit_adds o o' read_base read_by_later 2 ws [] d is start same
    (second, open_read.0, open_read.1) leaves

pub second_leaves : (o o' : OrderState) (ws : List Write) (d : Decision)
    → o ≡ state write_base both_begun → ws ≡ write_x 2 ∷ [] → d ≡ decisions.Committed
    → Leaves o o' 2 ws d → o' ≡ state write_base later_first
second_leaves o o' ws d start same is leaves =
    commit_adds o o' write_base both_begun 2 ws (write_x 2 ∷ []) d is start same
    (second, open_begun.0, open_begun.1) leaves

pub first_leaves : (o o' : OrderState) (ws : List Write) (d : Decision)
    → o ≡ state write_base later_first → ws ≡ write_x 1 ∷ [] → d ≡ decisions.Committed
    → Leaves o o' 1 ws d → o' ≡ state write_base both_committed
first_leaves o o' ws d start same is leaves =
    commit_adds o o' write_base later_first 1 ws (write_x 1 ∷ []) d is start same
    (first, open_written.0, open_written.1) leaves

-- both transactions are begun in a new book of these bodies
pub both_are_begun : (bodies known : List (List Statement)) (start : State) (o o1 o2 : OrderState)
    → bodies ≡ known → start ≡ empty {R = row_name_cmp}
    → o ≡ state (record { bodies = bodies; start = start; last = 0 }) []
    → o1 ≡ record o {
      history = o.history
          ++ record { caller = 1; stamp = 1; event = events.Begin 0 } ∷ [];
    }
    → o2 ≡ record o1 {
      history = o1.history
          ++ record { caller = 2; stamp = 2; event = events.Begin 1 } ∷ [];
    }
    → o2 ≡ state (record { bodies = known; start = empty {R = row_name_cmp}; last = 0 }) both_begun
both_are_begun bodies known start o o1 o2 same none made one two =
    two ∙ ap (λ (o : OrderState). record o {
      history = o.history
          ++ record { caller = 2; stamp = 2; event = events.Begin 1 } ∷ [];
    })
    (one ∙ ap
    (λ (o : OrderState). record o {
      history = o.history
          ++ record { caller = 1; stamp = 1; event = events.Begin 0 } ∷ [];
    })
    (made ∙ (λ i. state (record { bodies = same i; start = none i; last = 0 }) [])))
