-- The writes whose first exchange has missed their predecessor.
use Rattle.std.proofs.Common.{◌≡◌, ◌≢◌, ◌∙◌, ◌+◌, ◌≤◌, ◌<◌, ◌++◌, ◌==◌, ◌⊎◌, inl, inr, ℕ}
use Rattle.std.proofs.Common.{zero, suc, Bool, true, false, not, List, [], ◌∷◌, length, cond, set}
use Rattle.std.proofs.Common.{Option, Some, None, slice_get, ap, sym, subst, refl, arith}
use Rattle.std.proofs.Common.{true≢false}
use Rattle.std.proofs.lemmas.List.Sums.{count_by-le-length, sum_by-cons}
use Rattle.std.proofs.lemmas.Option.{slice_get_within}
use borrow.Author.Tests.{eqb-true, eqb-false, eq-eqb, ne_eqb, lt-ltb, le-ltb, ltb-true, ltb-false}
use lib.Dec.{eqb, ltb}
use Rattle.std.specs.List.{AllByRecursion, count_by}
use Rattle.std.specs.Option.{is_some}
use Rattle.c5_rows.specs.Numbers.{is_among, numbers_from}
use Rattle.c5_rows.specs.declared.writes.RowName.{RowName}
use Rattle.c5_definitions.specs.NumberLaws.{NumbersAreOwned}
use Rattle.c5_definitions.specs.WriteNumbers.{owner_of, predecessor_of, IsWrite}
use Rattle.c5_board.specs.declared.known.Look.{Look}
use Rattle.c5_board.specs.declared.known.Look.TheVariants.{LoadHead, ExchangeHead, LoadProgress}
use Rattle.c5_board.specs.declared.known.Look.TheVariants.{LoadVisible, LoadRecord, LoadScheduled}
use Rattle.c5_board.specs.declared.known.Look.TheVariants.{LoadBucket}
use Rattle.c5_board.specs.Boards.{Board, Pass, names, write_count, record_of}
use Rattle.c5_board.specs.Loads.{IsLoad, AreLoads}
use Rattle.c5_board.specs.Passes.{IsSound}
use Rattle.c5_board.proofs.SetLemmas.{has-here, has-more, has-split}
use Rattle.c5_chains.specs.declared.install.Install.{Install}
use Rattle.c5_chains.specs.declared.install.Install.TheVariants.{Installed, PutOff}
use Rattle.c5_chains.specs.Tries.{after_try, head_found, IsCaused}
use Rattle.c5_snapshot.specs.Advances.{progress_loads, advanced}
use Rattle.c5_workers.specs.declared.worker.Worker.{Worker}
use Rattle.c5_workers.specs.declared.work_turn.WorkTurn.{WorkTurn}
use Rattle.c5_workers.specs.declared.work_turn.WorkTurn.TheVariants.{Did, NotYet, Done}
use Rattle.c5_workers.specs.Tries.{IsWaiting, Tries}
use Rattle.c5_workers.specs.Work.{TriesNext, HasWorked, WorksTurn, OnlyWorks, with_scheduled}
use Rattle.c5_workers.specs.Work.{put_off_by}
use Rattle.c5_replay.specs.TurnReplays.{found_or, first_found, is_other, missed_first}
use Rattle.c5_replay.specs.Mirrors.{put_offs, IsTurning, HasLooked, HaveMissed}
use Rattle.c5_replay.proofs.TurnTries.{head_is, is_installed, tries-only}
use Rattle.c5_replay.proofs.TurnVisible.{above}
use Rattle.c5_replay.proofs.TurnWorks.{IsElsewhere, at_set, never-waits}

-- ---- the first exchange

-- the first, or else the second
abbrev or_found : Option ℕ → Option ℕ → Option ℕ
or_found None b = b
or_found (Some a) b = Some a

or-none : (a : Option ℕ) → or_found a None ≡ a
or-none None = refl
or-none (Some a) = refl

found-or : (look : Look) (w : ℕ) (a b : Option ℕ)
    → found_or look w (or_found a b) ≡ or_found (found_or look w a) b
found-or (LoadHead row found) w a b = refl
found-or (ExchangeHead v found) w a b = by (v == w)
  where
    by : (t : Bool) → cond t (Some found) (or_found a b) ≡ or_found (cond t (Some found) a) b
    by true = refl
    by false = refl
found-or (LoadProgress i found) w a b = refl
found-or (LoadVisible found) w a b = refl
found-or (LoadRecord v found) w a b = refl
found-or (LoadScheduled found) w a b = refl
found-or (LoadBucket j found) w a b = refl

found-append : (xs ys : List Look) (w : ℕ)
    → first_found (xs ++ ys) w ≡ or_found (first_found xs w) (first_found ys w)
found-append [] ys w = refl
found-append (look ∷ xs) ys w = ap (found_or look w) (found-append xs ys w)
    ∙ found-or look w (first_found xs w) (first_found ys w)

load-found : (look : Look) (w : ℕ) (a : Option ℕ) → IsLoad look → found_or look w a ≡ a
load-found (LoadHead row found) w a h = refl
load-found (ExchangeHead v found) w a h = absurd h
load-found (LoadProgress i found) w a h = refl
load-found (LoadVisible found) w a h = refl
load-found (LoadRecord v found) w a h = refl
load-found (LoadScheduled found) w a h = refl
load-found (LoadBucket j found) w a h = refl

pub loads-found : (ys : List Look) (w : ℕ) → AreLoads ys → first_found ys w ≡ None
loads-found [] w h = refl
loads-found (look ∷ ys) w h =
    load-found look w (first_found ys w) h.0 ∙ loads-found ys w h.1

-- loads leave what was found
pub found-loads : (xs ys : List Look) (w : ℕ) → AreLoads ys
    → first_found (xs ++ ys) w ≡ first_found xs w
found-loads xs ys w h = found-append xs ys w
    ∙ ap (or_found (first_found xs w)) (loads-found ys w h) ∙ or-none (first_found xs w)

abbrev if_found : Bool → ℕ → Option ℕ
if_found true found = Some found
if_found false found = None

-- what the try of v has found for w
abbrev found_by : List RowName → ℕ → Install → ℕ → Option ℕ
found_by ns v result w = if_found (v == w) (head_found ns v result)

-- ---- counts

count-next : (f : ℕ → Bool) (a n : ℕ) → count_by f (numbers_from a (suc n))
    ≡ cond (f a) 1 0 + count_by f (numbers_from (suc a) n)
count-next f a n = sum_by-cons (λ y. cond (f y) 1 0) a (numbers_from (suc a) n)

count-same : (f g : ℕ → Bool) (a n : ℕ) → ((v : ℕ) → a ≤ v → v < a + n → g v ≡ f v)
    → count_by g (numbers_from a n) ≡ count_by f (numbers_from a n)
count-same f g a zero same = refl
count-same f g a (suc n) same = count-next g a n
    ∙ (λ j. cond (same a (omega arith) (omega arith) j) 1 0
    + count-same f g (suc a) n (λ v low high. same v (omega arith) (omega arith)) j)
    ∙ sym (count-next f a n)

-- one more number passes the test
count-one : (f g : ℕ → Bool) (a n x : ℕ) → a ≤ x → x < a + n
    → ((v : ℕ) → a ≤ v → v < a + n → v ≢ x → g v ≡ f v) → f x ≡ false → g x ≡ true
    → count_by g (numbers_from a n) ≡ count_by f (numbers_from a n) + 1
count-one f g a zero x low high same isnt is = absurd (omega arith)
count-one f g a (suc n) x low high same isnt is =
    by (eqb a x) refl
    (λ more. count-one f g (suc a) n x more (omega arith)
    (λ v less up. same v (omega arith) (omega arith)) isnt is)
  where
    by : (b : Bool) → eqb a x ≡ b
        → (suc a ≤ x
        → count_by g (numbers_from (suc a) n) ≡ count_by f (numbers_from (suc a) n) + 1)
        → count_by g (numbers_from a (suc n)) ≡ count_by f (numbers_from a (suc n)) + 1
    by true e later =
        let at = eqb-true a x e in
        let yes_a : g a ≡ true = ap g at ∙ is in
        let no_a : f a ≡ false = ap f at ∙ isnt in
        let rest = count-same f g (suc a) n
        (λ v more less. same v (omega arith) (omega arith) (λ s. omega arith)) in
        let c = count_by f (numbers_from (suc a) n) in
        count-next g a n ∙ (λ j. cond (yes_a j) 1 0 + rest j)
        ∙ (let e : 1 + c ≡ (0 + c) + 1 = omega arith in e)
        ∙ (λ j. (cond (sym no_a j) 1 0 + c) + 1)
        ∙ ap (λ (x : ℕ). x + 1) (sym (count-next f a n))
    by false e later =
        let d = eqb-false a x e in
        let rest = later (above a x low d) in
        let same_a = same a (omega arith) (omega arith) d in
        let c = count_by f (numbers_from (suc a) n) in
        let t = cond (f a) 1 0 in
        count-next g a n ∙ (λ j. cond (same_a j) 1 0 + rest j)
        ∙ (let e : t + (c + 1) ≡ (t + c) + 1 = omega arith in e)
        ∙ ap (λ (x : ℕ). x + 1) (sym (count-next f a n))

length-numbers : (a n : ℕ) → length (numbers_from a n) ≡ n
length-numbers a zero = refl
length-numbers a (suc n) = ap suc (length-numbers (suc a) n)

-- not more than the writes
pub missed-few : (ns : List RowName) (looks : List Look) → missed_first ns looks ≤ length ns
unfolding missed_first
missed-few ns looks =
    let few = count_by-le-length (λ w. is_other (predecessor_of ns w) (first_found looks w))
    (numbers_from 1 (length ns)) in
    let len = length-numbers 1 (length ns) in
    omega arith

pub missed-same : (ns : List RowName) (xs ys : List Look)
    → ((v : ℕ) → first_found ys v ≡ first_found xs v) → missed_first ns ys ≡ missed_first ns xs
unfolding missed_first
missed-same ns xs ys same =
    count-same (λ w. is_other (predecessor_of ns w) (first_found xs w))
    (λ w. is_other (predecessor_of ns w) (first_found ys w)) 1 (length ns)
    (λ v low high. ap (is_other (predecessor_of ns v)) (same v))

-- a write that has no exchange yet is tried
missed-tried : (p : Pass) (xs ys : List Look) (w : ℕ) (result : Install) → IsWrite (names p.board) w
    → IsCaused p w result → first_found xs w ≡ None
    → ((v : ℕ) → first_found ys v
    ≡ or_found (first_found xs v) (found_by (names p.board) w result v))
    → missed_first (names p.board) ys
    ≡ missed_first (names p.board) xs + put_off_by (Some result)
unfolding missed_first
missed-tried p xs ys w result write cause none found = by result cause found
  where
    ns : List RowName
    ns = names p.board

    other : (r : Install) → ((v : ℕ) → first_found ys v
        ≡ or_found (first_found xs v) (found_by (names p.board) w r v))
        → (v : ℕ) → v ≢ w → first_found ys v ≡ first_found xs v
    other r all v apart = all v
        ∙ ap (λ (t : Bool). or_found (first_found xs v)
        (if_found t (head_found (names p.board) w r)))
        (ne_eqb w v (λ e. apart (sym e))) ∙ or-none (first_found xs v)

    at : (r : Install) → IsCaused p w r → ((v : ℕ) → first_found ys v
        ≡ or_found (first_found xs v) (found_by (names p.board) w r v))
        → is_other (predecessor_of (names p.board) w) (first_found ys w) ≡ not (is_installed r)
    at r put all = ap (is_other (predecessor_of (names p.board) w))
        (all w
        ∙ (λ j. or_found (none j)
        (if_found (eq-eqb w w refl j) (head_found (names p.board) w r))))
        ∙ ap not (head_is p w r put)

    by : (r : Install) → IsCaused p w r → ((v : ℕ) → first_found ys v
        ≡ or_found (first_found xs v) (found_by (names p.board) w r v))
        → count_by (λ v. is_other (predecessor_of (names p.board) v) (first_found ys v))
        (numbers_from 1 (length (names p.board)))
        ≡ count_by (λ v. is_other (predecessor_of (names p.board) v) (first_found xs v))
        (numbers_from 1 (length (names p.board))) + put_off_by (Some r)
    by Installed put all =
        let c = count_by (λ v. is_other (predecessor_of (names p.board) v) (first_found xs v))
        (numbers_from 1 (length (names p.board))) in
        count-same (λ v. is_other (predecessor_of (names p.board) v) (first_found xs v))
        (λ v. is_other (predecessor_of (names p.board) v) (first_found ys v))
        1 (length (names p.board))
        (λ v low high. same v (eqb v w) refl)
        ∙ (let e : c ≡ c + 0 = omega arith in e)
      where
        same : (v : ℕ) (b : Bool) → eqb v w ≡ b
            → is_other (predecessor_of (names p.board) v) (first_found ys v)
            ≡ is_other (predecessor_of (names p.board) v) (first_found xs v)
        same v true e =
            let is = eqb-true v w e in
            subst (λ (u : ℕ). is_other (predecessor_of (names p.board) u) (first_found ys u)
            ≡ is_other (predecessor_of (names p.board) u) (first_found xs u)) (sym is)
            (at Installed put all ∙ ap (is_other (predecessor_of (names p.board) w)) (sym none))
        same v false e = ap (is_other (predecessor_of (names p.board) v))
            (other Installed all v (eqb-false v w e))
    by (PutOff seen) put all =
        let within = write.within in
        count-one (λ v. is_other (predecessor_of (names p.board) v) (first_found xs v))
        (λ v. is_other (predecessor_of (names p.board) v) (first_found ys v))
        1 (length (names p.board)) w write.positive (omega arith)
        (λ v low high apart. ap (is_other (predecessor_of (names p.board) v))
        (other (PutOff seen) all v apart))
        (ap (is_other (predecessor_of (names p.board) w)) none) (at (PutOff seen) put all)

-- ---- the looks of a turn

-- the looks of a try
try-found : (p : Pass) (w v : ℕ) (result : Install)
    → first_found (after_try p w (head_found (names p.board) w result)).looks v
    ≡ or_found (first_found p.looks v) (found_by (names p.board) w result v)
try-found p w v result = found-append p.looks
    (LoadRecord w (record_of (names p.board) w)
    ∷ ExchangeHead w (head_found (names p.board) w result) ∷ []) v
    ∙ ap (or_found (first_found p.looks v)) (by (w == v))
  where
    by : (b : Bool) → cond b (Some (head_found (names p.board) w result)) None
        ≡ if_found b (head_found (names p.board) w result)
    by true = refl
    by false = refl

or-first : (a b : Option ℕ) → is_some a ≡ true → or_found a b ≡ a
or-first None b h = absurd (true≢false (sym h))
or-first (Some a) b h = refl

-- a number that has an exchange is tried again
again-found : (p : Pass) (w v : ℕ) (result : Install) → is_some (first_found p.looks w) ≡ true
    → first_found (after_try p w (head_found (names p.board) w result)).looks v
    ≡ first_found p.looks v
again-found p w v result had = try-found p w v result ∙ by (eqb w v) refl
  where
    by : (b : Bool) → eqb w v ≡ b
        → or_found (first_found p.looks v) (if_found b (head_found (names p.board) w result))
        ≡ first_found p.looks v
    by true e = or-first (first_found p.looks v) (Some (head_found (names p.board) w result))
        (subst (λ (x : ℕ). is_some (first_found p.looks x) ≡ true) (eqb-true w v e) had)
    by false e = or-none (first_found p.looks v)

-- numbers that have an exchange are tried again
retries-found : (p q : Pass) (list : List ℕ) (results : List Install) → Tries p q list results
    → ((v : ℕ) → is_among v list ≡ true → is_some (first_found p.looks v) ≡ true) → (v : ℕ)
    → first_found q.looks v ≡ first_found p.looks v
retries-found p q [] [] h had v = ap (λ (x : Pass). first_found x.looks v) h
retries-found p q [] (r ∷ results) h had v = absurd h
retries-found p q (w ∷ list) [] h had v = absurd h
retries-found p q (w ∷ list) (r ∷ results) h had v =
    let once = had w (has-here w list) in
    retries-found (after_try p w (head_found (names p.board) w r)) q list results h.1
    (λ u among. ap is_some (again-found p w u r once) ∙ had u (has-more u w list among)) v
    ∙ again-found p w v r once

-- what the try of the next number has found
abbrev next_found : List RowName → ℕ → Option Install → ℕ → Option ℕ
next_found ns w None v = None
next_found ns w (Some result) v = found_by ns w result v

next-tried-found : (middle new : Worker) (p q : Pass) (result : Option Install)
    → TriesNext middle new p q result → (v : ℕ)
    → first_found q.looks v
    ≡ or_found (first_found p.looks v) (next_found (names p.board) middle.next result v)
next-tried-found middle new p q None h v = ap (λ (x : Pass). first_found x.looks v) h.1
    ∙ sym (or-none (first_found p.looks v))
next-tried-found middle new p q (Some r) h v = ap (λ (x : Pass). first_found x.looks v) h.pass
    ∙ try-found p middle.next v r

all-waiting : (workers : ℕ) (ns : List RowName) (scheduled i next v : ℕ) (list : List ℕ)
    → AllByRecursion (IsWaiting workers ns scheduled i next) list → is_among v list ≡ true
    → IsWaiting workers ns scheduled i next v
all-waiting workers ns scheduled i next v [] all h = absurd (true≢false (sym h))
all-waiting workers ns scheduled i next v (w ∷ list) all h =
    by (has-split v w list h) (λ e. all-waiting workers ns scheduled i next v list all.1 e)
  where
    by : (v ≡ w) ⊎ (is_among v list ≡ true)
        → (is_among v list ≡ true → IsWaiting workers ns scheduled i next v)
        → IsWaiting workers ns scheduled i next v
    by (inl e) rest = subst (IsWaiting workers ns scheduled i next) (sym e) all.0
    by (inr e) rest = rest e

-- ---- the workers

-- a worker's list has exchanges
listed-found : (p : Pass) (looks : List Look) (i next : ℕ) (list : List ℕ)
    → AllByRecursion (IsWaiting p.board.workers (names p.board) p.scheduled i next) list
    → HasLooked (names p.board) p.board.workers looks i next → (v : ℕ)
    → is_among v list ≡ true → is_some (first_found looks v) ≡ true
listed-found p looks i next list all looked v among =
    let w = all-waiting p.board.workers (names p.board) p.scheduled i next v list all among in
    looked v w.write w.owned ∙ lt-ltb v next w.below

-- what a turn has found
record HasFound (ns : List RowName) (p q : Pass) (w : ℕ) (result : Option Install) : Type 0 where
  found : (v : ℕ) → first_found q.looks v
      ≡ or_found (first_found p.looks v) (next_found ns w result v)

did-found : (old new : Worker) (p q : Pass) (x y : ℕ) (h : HasWorked old new p q x y)
    → ((v : ℕ) → is_among v old.put_off.items ≡ true → is_some (first_found p.looks v) ≡ true)
    → HasFound (names h.retried.board) p q h.middle.next h.result
did-found old new p q x y h had = record { found = by }
  where
    a : (v : ℕ) → first_found (with_scheduled p h.scheduled).looks v ≡ first_found p.looks v
    a v = found-loads p.looks (LoadScheduled h.scheduled ∷ []) v (tt, tt)

    b : (v : ℕ) → first_found h.retried.looks v ≡ first_found p.looks v
    b v = retries-found (with_scheduled p h.scheduled) h.retried old.put_off.items
        h.retries.results h.retries.tries (λ u among. ap is_some (a u) ∙ had u among) v ∙ a v

    by : (v : ℕ) → first_found q.looks v
        ≡ or_found (first_found p.looks v)
        (next_found (names h.retried.board) h.middle.next h.result v)
    by v = ap (λ (z : Pass). first_found z.looks v) h.pass
        ∙ next-tried-found h.middle new h.retried h.tried_so h.result h.tries v
        ∙ ap (λ (a : Option ℕ). or_found a
        (next_found (names h.retried.board) h.middle.next h.result v)) (b v)

none-from : (a : Option ℕ) → is_some a ≡ false → a ≡ None
none-from None h = refl
none-from (Some x) h = absurd (true≢false h)

-- another number than the next one
other-found : (ns : List RowName) (p q : Pass) (w v : ℕ) (r : Install)
    → HasFound ns p q w (Some r) → v ≢ w → first_found q.looks v ≡ first_found p.looks v
other-found ns p q w v r h apart = h.found v
    ∙ ap (λ (t : Bool). or_found (first_found p.looks v) (if_found t (head_found ns w r)))
    (ne_eqb w v (λ e. apart (sym e))) ∙ or-none (first_found p.looks v)

-- the next number has been found
next-is-found : (ns : List RowName) (p q : Pass) (w : ℕ) (r : Install)
    → HasFound ns p q w (Some r) → first_found p.looks w ≡ None
    → is_some (first_found q.looks w) ≡ true
next-is-found ns p q w r h none = ap is_some (h.found w
    ∙ (λ j. or_found (none j) (if_found (eq-eqb w w refl j) (head_found ns w r))))

-- a worker that has tried its next number
looked-next : (workers : ℕ) (ns : List RowName) (before after : List Look) (i next : ℕ)
    → NumbersAreOwned workers → 1 ≤ next → owner_of workers next ≡ i
    → HasLooked ns workers before i next
    → ((v : ℕ) → v ≢ next → first_found after v ≡ first_found before v)
    → is_some (first_found after next) ≡ true → HasLooked ns workers after i (next + workers)
looked-next workers ns before after i next owners some owned looked others now v write is =
    by (eqb v next) refl
  where
    few : 1 ≤ workers
    few = let a = owners.some 1 in let b = owners.worker 1 in omega arith

    by : (b : Bool) → eqb v next ≡ b → is_some (first_found after v) ≡ ltb v (next + workers)
    by true e =
        let same = eqb-true v next e in
        let w = few in
        ap (λ (u : ℕ). is_some (first_found after u)) same ∙ now
        ∙ sym (lt-ltb v (next + workers) (omega arith))
    by false e = ap is_some (others v (eqb-false v next e)) ∙ looked v write is
        ∙ later (ltb v next) refl
      where
        later : (b : Bool) → ltb v next ≡ b → b ≡ ltb v (next + workers)
        later true f = let less = ltb-true v next f in
            sym (lt-ltb v (next + workers) (omega arith))
        later false f =
            let up = above next v (ltb-false v next f) (λ s. eqb-false v next e (sym s)) in
            sym (le-ltb v (next + workers)
            (owners.none_between next v some (omega arith) (owned ∙ sym is)))

-- ---- what is missed

missed-of : (p q : Pass) (workers : List Worker) (n : ℕ) → q.board ≡ p.board
    → n ≡ missed_first (names p.board) q.looks
    → ((k : ℕ) (w : Worker) → slice_get workers k ≡ Some w
    → HasLooked (names p.board) p.board.workers q.looks (k + 1) w.next)
    → HaveMissed q workers n
missed-of p q workers n board count tried = record {
  count = count ∙ ap (λ (b : Board). missed_first (names b) q.looks) (sym board);
  tried = λ k w at. subst (λ (b : Board). HasLooked (names b) b.workers q.looks (k + 1) w.next)
      (sym board) (tried k w at);
}

-- loads miss nothing
pub missed-loads : (p q : Pass) (workers : List Worker) (n : ℕ) (more : List Look)
    → HaveMissed p workers n → q.board ≡ p.board → q.looks ≡ p.looks ++ more → AreLoads more
    → HaveMissed q workers n
missed-loads p q workers n more h board looks loads =
    missed-of p q workers n board (h.count ∙ sym (missed-same (names p.board) p.looks q.looks same))
    (λ k w at v write owned. ap is_some (same v) ∙ h.tried k w at v write owned)
  where
    same : (v : ℕ) → first_found q.looks v ≡ first_found p.looks v
    same v = ap (λ (l : List Look). first_found l v) looks ∙ found-loads p.looks more v loads

progress-loads : (i : ℕ) (found : List ℕ) → AreLoads (progress_loads i found)
progress-loads i [] = tt
progress-loads i (x ∷ found) = (tt, progress-loads (i + 1) found)

-- an advance misses nothing
pub missed-visible : (p q : Pass) (workers : List Worker) (n place : ℕ) → HaveMissed p workers n
    → q ≡ advanced p q.floors place → HaveMissed q workers n
missed-visible p q workers n place h is =
    missed-loads p q workers n (progress_loads 1 q.floors) h (ap (λ (z : Pass). z.board) is)
    (ap (λ (z : Pass). z.looks) is) (progress-loads 1 q.floors)

count-none : (f : ℕ → Bool) (a n : ℕ) → ((v : ℕ) → f v ≡ false)
    → count_by f (numbers_from a n) ≡ 0
count-none f a zero none = refl
count-none f a (suc n) none = count-next f a n
    ∙ (λ j. cond (none a j) 1 0 + count-none f (suc a) n none j)

missed-none : (ns : List RowName) (looks : List Look) → AreLoads looks
    → missed_first ns looks ≡ 0
unfolding missed_first
missed-none ns looks loads =
    count-none (λ w. is_other (predecessor_of ns w) (first_found looks w)) 1 (length ns)
    (λ v. ap (is_other (predecessor_of ns v)) (loads-found looks v loads))

-- worker i owns no number below i
pub none-below : (workers v i : ℕ) → NumbersAreOwned workers → 1 ≤ v → i ≤ workers
    → owner_of workers v ≡ i → ltb v i ≡ false
none-below workers v i owners some most owned = by (ltb v i) refl
  where
    by : (t : Bool) → ltb v i ≡ t → ltb v i ≡ false
    by true e =
        let less = ltb-true v i e in
        let own = owners.own v some (omega arith) in
        absurd (omega arith)
    by false e = e

-- new workers, and a pass that has only made loads
pub missed-begin : (p : Pass) (workers : List Worker) → NumbersAreOwned p.board.workers
    → AreLoads p.looks → length workers ≡ p.board.workers
    → ((k : ℕ) (w : Worker) → slice_get workers k ≡ Some w → w.next ≡ k + 1)
    → HaveMissed p workers 0
missed-begin p workers owners loads count new = record {
  count = sym (missed-none (names p.board) p.looks loads);
  tried = λ k w at v write owned.
      let within = slice_get_within workers k w at in
      ap is_some (loads-found p.looks v loads)
      ∙ sym (none-below p.board.workers v (k + 1) owners write.positive (omega arith) owned)
      ∙ ap (ltb v) (sym (new k w at));
}

module _ (board : Board) (p q : Pass) (workers : List Worker) (k : ℕ) (old new : Worker)
    (result : WorkTurn) (owners : NumbersAreOwned board.workers) (sound : IsSound q)
    (h : IsTurning board p workers) (at : slice_get workers k ≡ Some old)
    (only : OnlyWorks old.i p q) (n : ℕ) (missed : HaveMissed p workers n)
  where
    number : old.i ≡ k + 1
    number = h.each.order k old at

    less : k < length workers
    less = slice_get_within workers k old at

    same_board : q.board ≡ p.board
    same_board = ap (λ (z : Pass). z.board) only.rest

    up : write_count p.board ≤ p.scheduled
    up = subst (λ (b : Board). write_count b ≤ p.scheduled) (sym h.of_board) h.scheduled

    own : NumbersAreOwned p.board.workers
    own = subst (λ (b : Board). NumbersAreOwned b.workers) (sym h.of_board) owners

    next_owned : owner_of p.board.workers old.next ≡ k + 1
    next_owned = (h.each.each k old at).numbers.owned ∙ number

    -- other numbers are as they were, and the worker has looked
    looked : (next : ℕ) → ((v : ℕ) → v ≢ old.next → first_found q.looks v ≡ first_found p.looks v)
        → HasLooked (names p.board) p.board.workers q.looks (k + 1) next
        → new.next ≡ next → (j : ℕ) (u : Worker)
        → ((j ≡ k) × (u ≡ new)) ⊎ IsElsewhere workers k j u
        → HasLooked (names p.board) p.board.workers q.looks (j + 1) u.next
    looked next others mine is j u (inl e) =
        subst (λ (i : ℕ). HasLooked (names p.board) p.board.workers q.looks (i + 1) u.next)
        (sym e.0)
        (subst (λ (x : ℕ). HasLooked (names p.board) p.board.workers q.looks (k + 1) x)
        (sym (ap (λ (w : Worker). w.next) e.1 ∙ is)) mine)
    looked next others mine is j u (inr e) = λ v write owned. ap is_some (others v (λ s. e.apart
        (let same : j + 1 ≡ k + 1 =
        sym owned ∙ ap (owner_of p.board.workers) s ∙ next_owned in
        let d : j ≡ k = omega arith in d)))
        ∙ missed.tried j u e.there v write owned

    -- a number that isn't tried leaves all as it was
    as_before : ((v : ℕ) → first_found q.looks v ≡ first_found p.looks v) → new.next ≡ old.next
        → HaveMissed q (set workers k new) n
    as_before same is = missed-of p q (set workers k new) n same_board
        (missed.count ∙ sym (missed-same (names p.board) p.looks q.looks same))
        (λ j u there. looked old.next (λ v apart. same v)
        (λ v write owned. ap is_some (same v) ∙ missed.tried k old at v write owned) is j u
        (at_set workers k j new u less there))

    did : (x y : ℕ) (t : HasWorked old new p q x y) (r : Option Install) → t.result ≡ r
        → HaveMissed q (set workers k new) (n + y)
    did x y t None is =
        let found = did-found old new p q x y t
        (listed-found p p.looks old.i old.next old.put_off.items
        (h.each.each k old at).numbers.waiting
        (subst (λ (i : ℕ). HasLooked (names p.board) p.board.workers p.looks i old.next)
        (sym number) (missed.tried k old at))) in
        let tries = subst (TriesNext t.middle new t.retried t.tried_so) is t.tries in
        let none : n ≡ n + y =
        (let e : n ≡ n + 0 = omega arith in e) ∙ ap (λ (m : ℕ). n + m)
        (sym (t.new_one ∙ ap put_off_by is)) in
        subst (HaveMissed q (set workers k new)) none
        (as_before
        (λ v. found.found v ∙ ap (λ (o : Option Install). or_found (first_found p.looks v)
        (next_found (names t.retried.board) t.middle.next o v)) is
        ∙ or-none (first_found p.looks v))
        (ap (λ (w : Worker). w.next) tries.2 ∙ t.same_next))
    did x y t (Some r) is =
        let a : Pass = with_scheduled p t.scheduled in
        let b = t.retried in
        let w = t.middle.next in
        let first = did-found old new p q x y t
        (listed-found p p.looks old.i old.next old.put_off.items
        (h.each.each k old at).numbers.waiting
        (subst (λ (i : ℕ). HasLooked (names p.board) p.board.workers p.looks i old.next)
        (sym number) (missed.tried k old at))) in
        let found : HasFound (names b.board) p q w (Some r) =
        subst (HasFound (names b.board) p q w) is first in
        let tries = subst (TriesNext t.middle new b t.tried_so) is t.tries in
        let b_is : b ≡ record a { installed = b.installed; looks = b.looks } =
        tries-only a b old.put_off.items t.retries.results t.retries.tries in
        let of : b.board ≡ p.board = ap (λ (z : Pass). z.board) b_is in
        let last : q.scheduled ≡ b.scheduled = ap (λ (z : Pass). z.scheduled) t.pass
        ∙ ap (λ (z : Pass). z.scheduled) tries.pass in
        let bound : q.scheduled ≤ write_count b.board =
        subst (λ (z : Board). q.scheduled ≤ write_count z) (same_board ∙ sym of) sound.scheduled in
        let some : 1 ≤ old.next = (h.each.each k old at).numbers.positive in
        let next : w ≡ old.next = t.same_next in
        let scheduled = tries.scheduled in
        let write : IsWrite (names b.board) w =
        record { positive = omega arith; within = omega arith } in
        let old_write : IsWrite (names p.board) old.next =
        subst (IsWrite (names p.board)) next
        (subst (λ (z : Board). IsWrite (names z) w) of write) in
        let none_old : first_found p.looks old.next ≡ None =
        none-from (first_found p.looks old.next)
        (missed.tried k old at old.next old_write next_owned
        ∙ le-ltb old.next old.next (omega arith))
        in
        let none : first_found p.looks w ≡ None = ap (first_found p.looks) next ∙ none_old in
        let others : (v : ℕ) → v ≢ old.next → first_found q.looks v ≡ first_found p.looks v =
        λ v apart. other-found (names b.board) p q w v r found (λ e. apart (e ∙ next)) in
        let workers_so : old.workers ≡ p.board.workers = (h.each.each k old at).workers in
        let step : new.next ≡ old.next + p.board.workers =
        tries.next ∙ (λ j. next j + (t.same.workers ∙ workers_so) j) in
        missed-of p q (set workers k new) (n + y) same_board
        ((λ j. missed.count j + (t.new_one ∙ ap put_off_by is) j)
        ∙ ap (λ (z : Board). missed_first (names z) p.looks + put_off_by (Some r)) (sym of)
        ∙ sym (missed-tried b p.looks q.looks w r write tries.cause none found.found)
        ∙ ap (λ (z : Board). missed_first (names z) q.looks) of)
        (λ j u there. looked (old.next + p.board.workers) others
        (looked-next p.board.workers (names p.board) p.looks q.looks (k + 1) old.next own some
        next_owned (missed.tried k old at) others
        (subst (λ (x : ℕ). is_some (first_found q.looks x) ≡ true) next
        (next-is-found (names b.board) p q w r found none)))
        step j u (at_set workers k j new u less there))

    -- a worker's turn has missed as many as it has put off
    pub worker-missed : WorksTurn old new p q result
        → HaveMissed q (set workers k new) (n + put_offs result)
    worker-missed turn = by result turn
      where
        by : (r : WorkTurn) → WorksTurn old new p q r
            → HaveMissed q (set workers k new) (n + put_offs r)
        by Done t = subst (HaveMissed q (set workers k new))
            (let e : n ≡ n + 0 = omega arith in e)
            (as_before (λ v. ap (λ (z : Pass). first_found z.looks v) t.1)
            (ap (λ (w : Worker). w.next) t.2))
        by (NotYet x) t = absurd (never-waits old new p q x up only t)
        by (Did x y) t = did x y t t.result refl
