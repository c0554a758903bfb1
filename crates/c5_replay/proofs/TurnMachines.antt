-- The machine of a schedule: what a worker's turn keeps, and what it makes done.
use Rattle.std.proofs.Common.{◌≡◌, ◌≢◌, ◌∙◌, ◌+◌, ◌≤◌, ◌<◌, ◌++◌, ◌&&◌, ◌||◌, ◌⊎◌, inl, inr, ℕ}
use Rattle.std.proofs.Common.{suc, Bool, true, false, not, List, [], ◌∷◌, length, cond}
use Rattle.std.proofs.Common.{set, Some, slice_get, ap, sym, subst, refl, arith}
use Rattle.std.proofs.Common.{true≢false, append_assoc, append-nil}
use borrow.Author.Tests.{eqb-false, ne_eqb, ltb-true, ltb-false}
use lib.Dec.{eqb, ltb}
use Rattle.c5_rows.specs.Numbers.{is_among, numbers_from}
use Rattle.c5_rows.specs.declared.writes.RowName.{RowName}
use Rattle.c5_definitions.specs.NumberLaws.{NumbersAreOwned, PredecessorsAreLast}
use Rattle.c5_definitions.specs.Turns.{TurnMachine, WorkerTurns, TriedWrites, may_be_done}
use Rattle.c5_definitions.specs.Turns.{with_one_tried, with_all_tried, with_waiting_tried}
use Rattle.c5_definitions.specs.Turns.{with_worker_at, with_next_tried, with_next_if_room}
use Rattle.c5_definitions.specs.Turns.{after_worker_turn}
use Rattle.c5_definitions.specs.WriteNumbers.{owner_of, predecessor_of, IsWrite}
use Rattle.c5_board.proofs.SetLemmas.{has-here, has-more, has-split}
use Rattle.c5_workers.specs.Tries.{HasTried}
use Rattle.c5_workers.proofs.TryLemmas.{waiting-at, fits-installed, next-new, next-installed}
use Rattle.c5_workers.proofs.TryLemmas.{next-put_off}
use Rattle.c5_replay.specs.Mirrors.{IsMachine}
use Rattle.c5_replay.proofs.TurnWorks.{next-tried, next-left, turn-at}

-- ---- what is done

-- more is done, and only writes of worker i
pub record IsMore (workers : ℕ) (ns : List RowName) (i : ℕ) (before after : List ℕ) : Type 0 where
  pub kept : (v : ℕ) → is_among v before ≡ true → is_among v after ≡ true
  pub others : (v : ℕ) → owner_of workers v ≢ i → is_among v after ≡ is_among v before
  pub writes : ((v : ℕ) → is_among v before ≡ true → IsWrite ns v) → (v : ℕ)
      → is_among v after ≡ true → IsWrite ns v

more-none : (workers : ℕ) (ns : List RowName) (i : ℕ) (done : List ℕ)
    → IsMore workers ns i done done
more-none workers ns i done =
    record { kept = λ v h. h; others = λ v apart. refl; writes = λ all v h. all v h }

more-then : (workers : ℕ) (ns : List RowName) (i : ℕ) (a b c : List ℕ) → IsMore workers ns i a b
    → IsMore workers ns i b c → IsMore workers ns i a c
more-then workers ns i a b c h k = record {
  kept = λ v e. k.kept v (h.kept v e);
  others = λ v apart. k.others v apart ∙ h.others v apart;
  writes = λ all v e. k.writes (λ u f. h.writes all u f) v e;
}

more-one : (workers : ℕ) (ns : List RowName) (i w : ℕ) (done : List ℕ) → IsWrite ns w
    → owner_of workers w ≡ i → IsMore workers ns i done (w ∷ done)
more-one workers ns i w done write owned = record {
  kept = λ v e. has-more v w done e;
  others = λ v apart. ap (λ (b : Bool). b || is_among v done)
      (ne_eqb v w (λ s. apart (ap (owner_of workers) s ∙ owned)));
  writes = λ all v e. from all v (has-split v w done e);
}
  where
    from : ((v : ℕ) → is_among v done ≡ true → IsWrite ns v) → (v : ℕ)
        → (v ≡ w) ⊎ (is_among v done ≡ true) → IsWrite ns v
    from all v (inl s) = subst (IsWrite ns) (sym s) write
    from all v (inr e) = all v e

-- one number is tried, whatever comes of it
either : (ns : List RowName) (t : TriedWrites) (w : ℕ) (P : TriedWrites → Type 0)
    → P (record { done = w ∷ t.done; waiting = t.waiting })
    → P (record { done = t.done; waiting = t.waiting ++ w ∷ [] }) → P (with_one_tried ns t w)
either ns t w P here there = by (may_be_done ns t.done w)
  where
    by : (b : Bool) → P (cond b (record { done = w ∷ t.done; waiting = t.waiting })
        (record { done = t.done; waiting = t.waiting ++ w ∷ [] }))
    by true = here
    by false = there

one-more : (workers : ℕ) (ns : List RowName) (i w : ℕ) (t : TriedWrites) → IsWrite ns w
    → owner_of workers w ≡ i → IsMore workers ns i t.done (with_one_tried ns t w).done
one-more workers ns i w t write owned =
    either ns t w (λ u. IsMore workers ns i t.done u.done)
    (more-one workers ns i w t.done write owned) (more-none workers ns i t.done)

-- ---- the numbers that wait

-- what tries make of a worker
pub record AreTried (workers : ℕ) (ns : List RowName) (roles : List ℕ) (scheduled i next : ℕ)
    (before : List ℕ) (t : TriedWrites) (list : List ℕ) : Type 0 where
  pub fits : HasTried workers ns roles t.done scheduled i next (t.waiting ++ list)
  pub more : IsMore workers ns i before t.done

one-tries : (workers : ℕ) (ns : List RowName) (roles : List ℕ) (scheduled i next w : ℕ)
    (before : List ℕ) (t : TriedWrites) (list : List ℕ)
    → AreTried workers ns roles scheduled i next before t (w ∷ list)
    → AreTried workers ns roles scheduled i next before (with_one_tried ns t w) list
one-tries workers ns roles scheduled i next w before t list h =
    let at = waiting-at workers ns roles t.done scheduled i next w t.waiting list h.fits in
    record {
      fits = either ns t w
          (λ u. HasTried workers ns roles u.done scheduled i next (u.waiting ++ list))
          (fits-installed workers ns roles t.done scheduled i next w t.waiting list h.fits)
          (subst (HasTried workers ns roles t.done scheduled i next)
          (sym (append_assoc t.waiting (w ∷ []) list)) h.fits);
      more = more-then workers ns i before t.done (with_one_tried ns t w).done h.more
          (one-more workers ns i w t at.0.write at.0.owned);
    }

all-tries : (workers : ℕ) (ns : List RowName) (roles : List ℕ) (scheduled i next : ℕ)
    (before : List ℕ) (t : TriedWrites) (list : List ℕ)
    → AreTried workers ns roles scheduled i next before t list
    → AreTried workers ns roles scheduled i next before (with_all_tried ns t list) []
unfolding with_all_tried
all-tries workers ns roles scheduled i next before t [] h = h
all-tries workers ns roles scheduled i next before t (w ∷ list) h =
    all-tries workers ns roles scheduled i next before (with_one_tried ns t w) list
    (one-tries workers ns roles scheduled i next w before t list h)

-- a write whose predecessor is done, or that has none, is done once it is tried
may-more : (ns : List RowName) (x : ℕ) (before after : List ℕ)
    → ((v : ℕ) → is_among v before ≡ true → is_among v after ≡ true)
    → may_be_done ns before x ≡ true → may_be_done ns after x ≡ true
may-more ns x before after kept h = by (eqb (predecessor_of ns x) 0) h
  where
    by : (b : Bool) → (b || is_among (predecessor_of ns x) before) ≡ true
        → (b || is_among (predecessor_of ns x) after) ≡ true
    by true h = refl
    by false h = kept (predecessor_of ns x) h

one-done : (ns : List RowName) (t : TriedWrites) (x : ℕ) → may_be_done ns t.done x ≡ true
    → is_among x (with_one_tried ns t x).done ≡ true
one-done ns t x h = (λ j. is_among x (cond {A = TriedWrites} (h j)
    (record { done = x ∷ t.done; waiting = t.waiting })
    (record { done = t.done; waiting = t.waiting ++ x ∷ [] })).done) ∙ has-here x t.done

one-keeps : (ns : List RowName) (t : TriedWrites) (w v : ℕ) → is_among v t.done ≡ true
    → is_among v (with_one_tried ns t w).done ≡ true
one-keeps ns t w v h =
    either ns t w (λ u. is_among v u.done ≡ true) (has-more v w t.done h) h

all-keeps : (ns : List RowName) (t : TriedWrites) (list : List ℕ) (v : ℕ) → is_among v t.done ≡ true
    → is_among v (with_all_tried ns t list).done ≡ true
unfolding with_all_tried
all-keeps ns t [] v h = h
all-keeps ns t (w ∷ list) v h = all-keeps ns (with_one_tried ns t w) list v (one-keeps ns t w v h)

all-done : (ns : List RowName) (t : TriedWrites) (list : List ℕ) (x : ℕ)
    → may_be_done ns t.done x ≡ true → is_among x list ≡ true
    → is_among x (with_all_tried ns t list).done ≡ true
unfolding with_all_tried
all-done ns t [] x may h = absurd (true≢false (sym h))
all-done ns t (w ∷ list) x may h =
    by (has-split x w list h)
    (λ e. all-done ns (with_one_tried ns t w) list x
    (may-more ns x t.done (with_one_tried ns t w).done (λ v k. one-keeps ns t w v k) may) e)
  where
    by : (x ≡ w) ⊎ (is_among x list ≡ true)
        → (is_among x list ≡ true
        → is_among x (with_all_tried ns (with_one_tried ns t w) list).done ≡ true)
        → is_among x (with_all_tried ns (with_one_tried ns t w) list).done ≡ true
    by (inl e) rest = all-keeps ns (with_one_tried ns t w) list x
        (subst (λ (y : ℕ). is_among x (with_one_tried ns t y).done ≡ true) e (one-done ns t x may))
    by (inr e) rest = rest e

-- ---- a worker's turn

-- each write below x is done
abbrev pub AreDoneBelow : List RowName → List ℕ → ℕ → Type 0
AreDoneBelow ns done x = (w : ℕ) → IsWrite ns w → w < x → is_among w done ≡ true

may-below : (ns : List RowName) (done : List ℕ) (x : ℕ) → PredecessorsAreLast ns → IsWrite ns x
    → AreDoneBelow ns done x → may_be_done ns done x ≡ true
may-below ns done x law write below = by (eqb (predecessor_of ns x) 0) refl
  where
    by : (b : Bool) → eqb (predecessor_of ns x) 0 ≡ b
        → (b || is_among (predecessor_of ns x) done) ≡ true
    by true e = refl
    by false e =
        below (predecessor_of ns x)
        (law.on_row x write (eqb-false (predecessor_of ns x) 0 e)).0
        (law.below x write)

-- if writes below x are done, none of them waits
none-waits : (workers : ℕ) (ns : List RowName) (roles done : List ℕ) (scheduled i x : ℕ)
    (list : List ℕ) → HasTried workers ns roles done scheduled i x list → AreDoneBelow ns done x
    → list ≡ []
none-waits workers ns roles done scheduled i x [] fits below = refl
none-waits workers ns roles done scheduled i x (w ∷ list) fits below =
    let at = waiting-at workers ns roles done scheduled i x w [] list fits in
    absurd (true≢false (sym (below w at.0.write at.0.below) ∙ at.1))

-- whether there is a next write and room for it
abbrev Room : List RowName → ℕ → TriedWrites → Type 0
Room ns w t = ((w ≤ length ns) × (length t.waiting < 64))
    ⊎ ((64 ≤ length t.waiting) ⊎ (length ns < w))

room : (ns : List RowName) (w : ℕ) (t : TriedWrites) → Room ns w t
room ns w t = by (ltb (length ns) w) refl (ltb (length t.waiting) 64) refl
  where
    by : (a : Bool) → ltb (length ns) w ≡ a → (b : Bool) → ltb (length t.waiting) 64 ≡ b
        → Room ns w t
    by true e b f = inr (inr (ltb-true (length ns) w e))
    by false e true f = inl (ltb-false (length ns) w e, ltb-true (length t.waiting) 64 f)
    by false e false f = inr (inl (ltb-false (length t.waiting) 64 f))

-- what is done stays done
room-keeps : (ns : List RowName) (m : TurnMachine) (k w : ℕ) (t : TriedWrites) (v : ℕ)
    → is_among v t.done ≡ true → is_among v (with_next_if_room ns m k w t).done ≡ true
room-keeps ns m k w t v h = by (room ns w t)
  where
    by : Room ns w t → is_among v (with_next_if_room ns m k w t).done ≡ true
    by (inl r) = ap (λ (n : TurnMachine). is_among v n.done) (next-tried ns m k w t r.0 r.1)
        ∙ one-keeps ns t w v h
    by (inr r) = ap (λ (n : TurnMachine). is_among v n.done) (next-left ns m k w t r) ∙ h

-- the machine after a worker's turn
pub record HasTurned (workers : ℕ) (ns : List RowName) (m n : TurnMachine) (k : ℕ) : Type 0 where
  pub t : WorkerTurns
  pub workers_so : n.workers ≡ set m.workers k t
  pub fits : HasTried workers ns (numbers_from 1 workers) n.done (length ns) (k + 1) t.next
      t.waiting
  pub more : IsMore workers ns (k + 1) m.done n.done

module _ (workers : ℕ) (ns : List RowName) (m : TurnMachine) (k : ℕ) (t : WorkerTurns)
    (owners : NumbersAreOwned workers) (h : IsMachine workers ns m)
    (at : slice_get m.workers k ≡ Some t) where
  -- those that wait are tried again
  again : AreTried workers ns (numbers_from 1 workers) (length ns) (k + 1) t.next m.done
      (with_waiting_tried ns m.done t) []
  again = all-tries workers ns (numbers_from 1 workers) (length ns) (k + 1) t.next m.done
      (record { done = m.done; waiting = [] }) t.waiting
      (record { fits = h.each k t at; more = more-none workers ns (k + 1) m.done })

  retried : HasTried workers ns (numbers_from 1 workers) (with_waiting_tried ns m.done t).done
      (length ns) (k + 1) t.next (with_waiting_tried ns m.done t).waiting
  retried = subst
      (HasTried workers ns (numbers_from 1 workers) (with_waiting_tried ns m.done t).done
      (length ns) (k + 1) t.next)
      (append-nil (with_waiting_tried ns m.done t).waiting) again.fits

  left-turned : HasTurned workers ns m
      (with_worker_at m k t.next (with_waiting_tried ns m.done t)) k
  left-turned = record {
    t = record { next = t.next; waiting = (with_waiting_tried ns m.done t).waiting };
    workers_so = refl;
    fits = retried;
    more = again.more;
  }

  next-turned : t.next ≤ length ns → HasTurned workers ns m
      (with_next_tried ns m k t.next (with_waiting_tried ns m.done t)) k
  next-turned within =
      let b = with_waiting_tried ns m.done t in
      let write : IsWrite ns t.next = record { positive = retried.positive; within = within } in
      let fit : HasTried workers ns (numbers_from 1 workers) (with_one_tried ns b t.next).done
      (length ns) (k + 1) (t.next + workers) (with_one_tried ns b t.next).waiting =
      either ns b t.next (λ u. HasTried workers ns (numbers_from 1 workers) u.done
      (length ns) (k + 1) (t.next + workers) u.waiting)
      (next-installed workers ns (numbers_from 1 workers) b.done (length ns) (k + 1) t.next
      b.waiting owners retried write)
      (next-put_off workers ns (numbers_from 1 workers) b.done (length ns) (k + 1) t.next b.waiting
      owners retried write within) in
      record {
        t = record {
          next = t.next + length m.workers;
          waiting = (with_one_tried ns b t.next).waiting;
        };
        workers_so = refl;
        fits = subst (λ (n : ℕ). HasTried workers ns (numbers_from 1 workers)
            (with_one_tried ns b t.next).done (length ns) (k + 1) (t.next + n)
            (with_one_tried ns b t.next).waiting) (sym h.count) fit;
        more = more-then workers ns (k + 1) m.done b.done (with_one_tried ns b t.next).done
            again.more (one-more workers ns (k + 1) t.next b write retried.owned);
      }

  pub turn-turned : HasTurned workers ns m (after_worker_turn ns m (suc k)) k
  turn-turned = subst (λ (n : TurnMachine). HasTurned workers ns m n k)
      (sym (turn-at ns m k t at)) (by (room ns t.next (with_waiting_tried ns m.done t)))
    where
      by : Room ns t.next (with_waiting_tried ns m.done t)
          → HasTurned workers ns m
          (with_next_if_room ns m k t.next (with_waiting_tried ns m.done t)) k
      by (inl r) = subst (λ (n : TurnMachine). HasTurned workers ns m n k)
          (sym (next-tried ns m k t.next (with_waiting_tried ns m.done t) r.0 r.1))
          (next-turned r.0)
      by (inr r) = subst (λ (n : TurnMachine). HasTurned workers ns m n k)
          (sym (next-left ns m k t.next (with_waiting_tried ns m.done t) r)) left-turned

  -- the least number that isn't done is done after its owner's turn
  pub turn-makes : (x : ℕ) → PredecessorsAreLast ns → IsWrite ns x → owner_of workers x ≡ k + 1
      → AreDoneBelow ns m.done x → is_among x (after_worker_turn ns m (suc k)).done ≡ true
  turn-makes x law write owned below = by (is_among x m.done) refl (is_among x t.waiting) refl
    where
      by : (a : Bool) → is_among x m.done ≡ a → (b : Bool) → is_among x t.waiting ≡ b
          → is_among x (after_worker_turn ns m (suc k)).done ≡ true
      by true e b f = turn-turned.more.kept x e
      by false e true f = again-done (all-done ns (record { done = m.done; waiting = [] }) t.waiting
          x (may-below ns m.done x law write below) f)
        where
          again-done : is_among x (with_waiting_tried ns m.done t).done ≡ true
              → is_among x (after_worker_turn ns m (suc k)).done ≡ true
          again-done h = ap (λ (n : TurnMachine). is_among x n.done) (turn-at ns m k t at)
              ∙ room-keeps ns m k t.next (with_waiting_tried ns m.done t) x h
      by false e false f = ap (λ (n : TurnMachine). is_among x n.done) (turn-at ns m k t at)
          ∙ next-done (is-next (ltb x t.next) refl (ltb t.next x) refl)
        where
          is-next : (a : Bool) → ltb x t.next ≡ a → (b : Bool) → ltb t.next x ≡ b → t.next ≡ x
          is-next true p b q =
              absurd (true≢false (sym ((h.each k t at).done x write owned
              ∙ (λ j. p j && not (f j))) ∙ e))
          is-next false p true q =
              let less = ltb-true t.next x q in
              let within = write.within in
              let next : IsWrite ns t.next =
              record { positive = (h.each k t at).positive; within = omega arith } in
              absurd (true≢false (sym (below t.next next less)
              ∙ next-new workers ns (numbers_from 1 workers) m.done (length ns) (k + 1) t.next
              t.waiting owners (h.each k t at) next))
          is-next false p false q =
              let low = ltb-false x t.next p in
              let high = ltb-false t.next x q in
              omega arith

          next-done : t.next ≡ x → is_among x (with_next_if_room ns m k t.next
              (with_waiting_tried ns m.done t)).done ≡ true
          next-done is =
              let b = with_waiting_tried ns m.done t in
              let now : AreDoneBelow ns b.done x = λ w is less. again.more.kept w (below w is less)
              in
              let none : b.waiting ≡ [] =
              none-waits workers ns (numbers_from 1 workers) b.done (length ns) (k + 1) x b.waiting
              (subst (λ (n : ℕ). HasTried workers ns (numbers_from 1 workers) b.done (length ns)
              (k + 1) n b.waiting) is retried) now in
              let within = write.within in
              let few : length b.waiting < 64 = omega (arith, ap length none) in
              ap (λ (n : TurnMachine). is_among x n.done)
              (next-tried ns m k t.next b (omega arith) few)
              ∙ subst (λ (y : ℕ). is_among x (with_one_tried ns b y).done ≡ true) (sym is)
              (one-done ns b x (may-below ns b.done x law write now))
