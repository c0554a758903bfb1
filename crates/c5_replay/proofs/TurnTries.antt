-- Tries of a pass with all worker roles, and those of the machine of a schedule.
use Rattle.std.proofs.Common.{◌≡◌, ◌∙◌, ◌++◌, ◌||◌, ℕ, Bool}
use Rattle.std.proofs.Common.{true, false, List, [], ◌∷◌, cond, ap, sym, refl, arith}
use Rattle.std.proofs.Common.{append_assoc, append-nil}
use borrow.Author.Tests.{eqb-false, eq-eqb, ne_eqb}
use lib.Dec.{eqb}
use Rattle.c5_rows.specs.Numbers.{is_among}
use Rattle.c5_definitions.specs.NumberLaws.{NumbersAreOwned}
use Rattle.c5_definitions.specs.Turns.{TriedWrites, may_be_done, with_one_tried, with_all_tried}
use Rattle.c5_definitions.specs.WriteNumbers.{predecessor_of}
use Rattle.c5_board.specs.Boards.{Pass, names, IsWorker}
use Rattle.c5_chains.specs.declared.install.Install.{Install}
use Rattle.c5_chains.specs.declared.install.Install.TheVariants.{Installed, PutOff}
use Rattle.c5_chains.specs.Tries.{after_try, head_found, IsCaused}
use Rattle.c5_workers.specs.Tries.{Tries, put_off_of}

-- a pass that holds the role of each worker
abbrev pub HoldsAll : Pass → Type 0
HoldsAll p = (i : ℕ) → IsWorker p.board.workers i → is_among i p.roles ≡ true

-- whether a try installed the write
abbrev pub is_installed : Install → Bool
is_installed Installed = true
is_installed (PutOff seen) = false

-- ---- one try

-- with all worker roles a write is installed if and only if it may be done
pub as_caused : (p : Pass) (w : ℕ) (result : Install) → NumbersAreOwned p.board.workers → HoldsAll p
    → IsCaused p w result → may_be_done (names p.board) p.installed w ≡ is_installed result
as_caused p w Installed owners all cause = by (eqb (predecessor_of (names p.board) w) 0) refl
  where
    by : (b : Bool) → eqb (predecessor_of (names p.board) w) 0 ≡ b
        → (b || is_among (predecessor_of (names p.board) w) p.installed) ≡ true
    by true e = refl
    by false e =
        let d = eqb-false (predecessor_of (names p.board) w) 0 e in
        cause d (all _ (
          owners.some (predecessor_of (names p.board) w),
          owners.worker
              (predecessor_of (names p.board) w),
        ))
as_caused p w (PutOff seen) owners all cause =
    let below = cause.below in
    (λ j. ne_eqb (predecessor_of (names p.board) w) 0 (λ e. omega arith) j
    || cause.unknown.not_installed j)

-- a try found the predecessor if and only if it installed the write
pub head_is : (p : Pass) (w : ℕ) (result : Install) → IsCaused p w result
    → eqb (head_found (names p.board) w result) (predecessor_of (names p.board) w)
    ≡ is_installed result
head_is p w Installed cause =
    eq-eqb (predecessor_of (names p.board) w) (predecessor_of (names p.board) w) refl
head_is p w (PutOff seen) cause =
    let below = cause.below in
    ne_eqb seen (predecessor_of (names p.board) w) (λ e. omega arith)

-- what a try makes of what is done and what waits
abbrev pub tried_as : TriedWrites → ℕ → Install → TriedWrites
tried_as t w Installed = record { done = w ∷ t.done; waiting = t.waiting }
tried_as t w (PutOff seen) = record { done = t.done; waiting = t.waiting ++ w ∷ [] }

pub one-tried : (p : Pass) (w : ℕ) (result : Install) (waiting : List ℕ)
    → NumbersAreOwned p.board.workers → HoldsAll p → IsCaused p w result
    → with_one_tried (names p.board) (record { done = p.installed; waiting = waiting }) w
    ≡ tried_as (record { done = p.installed; waiting = waiting }) w result
one-tried p w result waiting owners all cause =
    (λ j. cond (as_caused p w result owners all cause j)
    (record { done = w ∷ p.installed; waiting = waiting })
    (record { done = p.installed; waiting = waiting ++ w ∷ [] }))
    ∙ by result
  where
    by : (result : Install) → cond (is_installed result)
        (record { done = w ∷ p.installed; waiting = waiting })
        (record { done = p.installed; waiting = waiting ++ w ∷ [] })
        ≡ tried_as (record { done = p.installed; waiting = waiting }) w result
    by Installed = refl
    by (PutOff seen) = refl

pub installed-after : (p : Pass) (w : ℕ) (result : Install) (waiting : List ℕ)
    → IsCaused p w result
    → (after_try p w (head_found (names p.board) w result)).installed
    ≡ (tried_as (record { done = p.installed; waiting = waiting }) w result).done
installed-after p w result waiting cause =
    (λ j. cond (head_is p w result cause j) (w ∷ p.installed) p.installed) ∙ by result
  where
    by : (result : Install) → cond (is_installed result) (w ∷ p.installed) p.installed
        ≡ (tried_as (record { done = p.installed; waiting = waiting }) w result).done
    by Installed = refl
    by (PutOff seen) = refl

-- ---- tries

-- those that wait, and then those of the list that were put off
waits-then : (waiting : List ℕ) (w : ℕ) (list : List ℕ) (result : Install) (results : List Install)
    (done : List ℕ)
    → (tried_as (record { done = done; waiting = waiting }) w result).waiting
    ++ put_off_of list results ≡ waiting ++ put_off_of (w ∷ list) (result ∷ results)
waits-then waiting w list Installed results done = refl
waits-then waiting w list (PutOff seen) results done =
    append_assoc waiting (w ∷ []) (put_off_of list results)

-- the machine's tries of the numbers are those of the pass
pub all-tried : (p q : Pass) (list : List ℕ) (results : List Install) (waiting : List ℕ)
    → NumbersAreOwned p.board.workers → HoldsAll p → Tries p q list results
    → with_all_tried (names p.board) (record { done = p.installed; waiting = waiting }) list
    ≡ record { done = q.installed; waiting = waiting ++ put_off_of list results }
unfolding with_all_tried
all-tried p q [] [] waiting owners all h = λ j. record {
  done = ap (λ (x : Pass). x.installed) (sym h) j;
  waiting = sym (append-nil waiting) j;
}
all-tried p q [] (r ∷ results) waiting owners all h = absurd h
all-tried p q (w ∷ list) [] waiting owners all h = absurd h
all-tried p q (w ∷ list) (r ∷ results) waiting owners all h =
    let start : TriedWrites = record { done = p.installed; waiting = waiting } in
    let next : Pass = after_try p w (head_found (names p.board) w r) in
    let same : tried_as start w r
    ≡ record { done = next.installed; waiting = (tried_as start w r).waiting } =
    λ j. record {
      done = sym (installed-after p w r waiting h.0) j;
      waiting = (tried_as start w r).waiting;
    } in
    ap (λ (t : TriedWrites). with_all_tried (names p.board) t list)
    (one-tried p w r waiting owners all h.0 ∙ same)
    ∙ all-tried next q list results (tried_as start w r).waiting owners all h.1
    ∙ (λ j. record {
      done = q.installed;
      waiting = waits-then waiting w list r results p.installed j;
    })

-- tries change what is installed and add looks, and nothing else
pub tries-only : (p q : Pass) (list : List ℕ) (results : List Install) → Tries p q list results
    → q ≡ record p { installed = q.installed; looks = q.looks }
tries-only p q [] [] h = λ j. record (h j) { installed = q.installed; looks = q.looks }
tries-only p q [] (r ∷ results) h = absurd h
tries-only p q (w ∷ list) [] h = absurd h
tries-only p q (w ∷ list) (r ∷ results) h =
    tries-only (after_try p w (head_found (names p.board) w r)) q list results h.1
