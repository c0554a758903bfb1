-- A worker's turn of a pass with all roles is a turn of the machine.
use Rattle.std.proofs.Common.{◌≡◌, ◌≢◌, ◌∙◌, ◌+◌, ◌-◌, ◌≤◌, ◌<◌, ◌&&◌, ◌⊎◌, inl, inr, ℕ}
use Rattle.std.proofs.Common.{suc, Bool, true, false, List, [], length, map, cond, get_or, set}
use Rattle.std.proofs.Common.{Option, Some, None, slice_get, ap, sym, subst, refl, arith}
use Rattle.std.proofs.Common.{length-set, get_or-set_same, get_or-set_other}
use Rattle.std.specs.Option.{option_map}
use Rattle.std.proofs.lemmas.List.{length-map}
use Rattle.std.proofs.lemmas.List.{map-set, set-get_or}
use Rattle.std.proofs.lemmas.Bool.{le-leb, lt-leb}
use Rattle.std.proofs.lemmas.Option.{slice_get_within, get_or_from_slice_get, slice_get-get_or}
use Rattle.std.proofs.lemmas.Option.{slice_get-map}
use borrow.Author.Tests.{eqb-true, eqb-false, lt-ltb, le-ltb}
use lib.Dec.{eqb, ltb, leb}
use Rattle.c5_rows.specs.declared.writes.RowName.{RowName}
use Rattle.c5_rows.specs.Numbers.{is_among}
use Rattle.c5_definitions.specs.NumberLaws.{NumbersAreOwned}
use Rattle.c5_definitions.specs.Turns.{TurnMachine, WorkerTurns, TriedWrites, with_all_tried}
use Rattle.c5_definitions.specs.Turns.{with_waiting_tried}
use Rattle.c5_definitions.specs.Turns.{with_worker_at, with_next_tried, with_next_if_room}
use Rattle.c5_definitions.specs.Turns.{after_worker_at, after_worker_turn}
use Rattle.c5_definitions.specs.WriteNumbers.{IsWrite}
use Rattle.c5_board.specs.Boards.{Board, Pass, names, write_count, IsWorker}
use Rattle.c5_board.specs.Passes.{IsSound, owner_in, floor_of}
use Rattle.c5_chains.specs.declared.install.Install.{Install}
use Rattle.c5_chains.specs.declared.install.Install.TheVariants.{Installed, PutOff}
use Rattle.c5_workers.specs.declared.worker.Worker.{Worker}
use Rattle.c5_workers.specs.declared.work_turn.WorkTurn.{WorkTurn}
use Rattle.c5_workers.specs.declared.work_turn.WorkTurn.TheVariants.{Did, NotYet, Done}
use Rattle.c5_workers.specs.Tries.{least_of, with_next}
use Rattle.c5_workers.specs.Work.{FitsWorker, TriesNext, HasWorked}
use Rattle.c5_workers.specs.Work.{WorksTurn, OnlyWorks, with_scheduled, put_off_by}
use Rattle.c5_workers.proofs.WorkLemmas.{worker-later}
use Rattle.c5_replay.specs.Mirrors.{turns_of, put_offs, Mirrors, IsTurning}
use Rattle.c5_replay.proofs.TurnTries.{HoldsAll, is_installed, as_caused, tried_as, one-tried}
use Rattle.c5_replay.proofs.TurnTries.{installed-after, all-tried, tries-only}

-- ---- lists

set-same : {X : Type 0} (xs : List X) (k : ℕ) (x : X) → slice_get xs k ≡ Some x → set xs k x ≡ xs
set-same xs k x at = ap (set xs k) (sym (get_or_from_slice_get xs k x x at)) ∙ set-get_or xs k x

-- an element of a list at another place than k
pub record IsElsewhere {X : Type 0} (xs : List X) (k j : ℕ) (x : X) : Type 0 where
  pub apart : j ≢ k
  pub there : slice_get xs j ≡ Some x

-- what is at a place after x was put at k
pub at_set : {X : Type 0} (xs : List X) (k j : ℕ) (x y : X) → k < length xs
    → slice_get (set xs k x) j ≡ Some y → ((j ≡ k) × (y ≡ x)) ⊎ IsElsewhere xs k j y
at_set xs k j x y less at = by (eqb j k) refl
  where
    here : get_or (set xs k x) j y ≡ y
    here = get_or_from_slice_get (set xs k x) j y y at

    by : (b : Bool) → eqb j k ≡ b → ((j ≡ k) × (y ≡ x)) ⊎ IsElsewhere xs k j y
    by true e =
        let same = eqb-true j k e in
        inl (
          same,
          sym here ∙ ap (λ (n : ℕ). get_or (set xs k x) n y) same ∙ get_or-set_same xs k x y less,
        )
    by false e =
        let apart = eqb-false j k e in
        let within = slice_get_within (set xs k x) j y at in
        let len = length-set xs k x in
        inr (record {
          apart = apart;
          there = slice_get-get_or xs j y (omega arith) ∙ ap Some
              (sym (get_or-set_other xs k j x y apart) ∙ here);
        })

-- ---- the machine's turn

and_false : (a : Bool) → (a && false) ≡ false
and_false true = refl
and_false false = refl

-- the next number is tried
pub next-tried : (ns : List RowName) (m : TurnMachine) (k w : ℕ) (t : TriedWrites) → w ≤ length ns
    → length t.waiting < 64 → with_next_if_room ns m k w t ≡ with_next_tried ns m k w t
next-tried ns m k w t within room =
    λ j. cond (le-leb w (length ns) within j && lt-ltb (length t.waiting) 64 room j)
    (with_next_tried ns m k w t) (with_worker_at m k w t)

-- there is no next write, or no room for it
pub next-left : (ns : List RowName) (m : TurnMachine) (k w : ℕ) (t : TriedWrites)
    → (64 ≤ length t.waiting) ⊎ (length ns < w)
    → with_next_if_room ns m k w t ≡ with_worker_at m k w t
next-left ns m k w t (inl full) =
    (λ j. cond (leb w (length ns) && le-ltb (length t.waiting) 64 full j)
    (with_next_tried ns m k w t) (with_worker_at m k w t))
    ∙ (λ j. cond (and_false (leb w (length ns)) j)
    (with_next_tried ns m k w t) (with_worker_at m k w t))
next-left ns m k w t (inr above) =
    λ j. cond (lt-leb w (length ns) above j && ltb (length t.waiting) 64)
    (with_next_tried ns m k w t) (with_worker_at m k w t)

none-tried : (ns : List RowName) (done list : List ℕ) → list ≡ []
    → with_all_tried ns (record { done = done; waiting = [] }) list
    ≡ record { done = done; waiting = [] }
unfolding with_all_tried
none-tried ns done list none =
    ap (with_all_tried ns (record { done = done; waiting = [] })) none

pub turn-at : (ns : List RowName) (m : TurnMachine) (k : ℕ) (t : WorkerTurns)
    → slice_get m.workers k ≡ Some t
    → after_worker_turn ns m (suc k)
    ≡ with_next_if_room ns m k t.next (with_waiting_tried ns m.done t)
unfolding after_worker_at
turn-at ns m k t at = ap (after_worker_at ns m k) at

-- the machine after a turn of the worker at place k
abbrev pub turned : TurnMachine → ℕ → WorkerTurns → List ℕ → ℕ → TurnMachine
turned m k t done more = record m {
  done = done;
  workers = set m.workers k t;
  put_off = m.put_off + more;
}

-- the next number's try is that of the pass
next-mirrored : (m : TurnMachine) (k : ℕ) (middle new : Worker) (p q : Pass)
    (result : Option Install) → NumbersAreOwned p.board.workers → HoldsAll p
    → write_count p.board ≤ p.scheduled → p.scheduled ≤ write_count p.board
    → length m.workers ≡ middle.workers → TriesNext middle new p q result
    → with_next_if_room (names p.board) m k middle.next
    (record { done = p.installed; waiting = middle.put_off.items })
    ≡ turned m k (turns_of new) q.installed (put_off_by result)
next-mirrored m k middle new p q None owners all up most count h =
    let none : m.put_off ≡ m.put_off + 0 = omega arith in
    next-left (names p.board) m k middle.next
    (record { done = p.installed; waiting = middle.put_off.items }) (left h.0)
    ∙ (λ j. record m {
      done = ap (λ (x : Pass). x.installed) (sym h.1) j;
      workers = set m.workers k (turns_of (sym h.2 j));
      put_off = none j;
    })
  where
    left : ((64 ≤ length middle.put_off.items) ⊎ (p.scheduled < middle.next))
        → (64 ≤ length middle.put_off.items) ⊎ (write_count p.board < middle.next)
    left (inl full) = inl full
    left (inr above) = inr (omega arith)
next-mirrored m k middle new p q (Some r) owners all up most count h =
    let t : TriedWrites = record { done = p.installed; waiting = middle.put_off.items } in
    let w = middle.next in
    let within : w ≤ write_count p.board = let s = h.scheduled in omega arith in
    let next : w + length m.workers ≡ new.next = ap (λ (n : ℕ). w + n) count ∙ sym h.next in
    next-tried (names p.board) m k w t within h.room
    ∙ (λ j. record (with_worker_at m k (w + length m.workers)
    (one-tried p w r middle.put_off.items owners all h.cause j)) {
      put_off = cond (as_caused p w r owners all h.cause j) m.put_off (m.put_off + 1);
    })
    ∙ (λ j. record m {
      done = (sym (installed-after p w r middle.put_off.items h.cause)
          ∙ ap (λ (x : Pass). x.installed) (sym h.pass)) j;
      workers = set m.workers k (record {
        next = next j;
        waiting = (waits r ∙ sym h.list) j;
      });
      put_off = count_by r j;
    })
  where
    waits : (r : Install) → (tried_as (record {
      done = p.installed;
      waiting = middle.put_off.items;
    }) middle.next r).waiting ≡ with_next middle.put_off.items middle.next r
    waits Installed = refl
    waits (PutOff seen) = refl

    count_by : (r : Install) → cond (is_installed r) m.put_off (m.put_off + 1)
        ≡ m.put_off + put_off_by (Some r)
    count_by Installed = let e : m.put_off ≡ m.put_off + 0 = omega arith in e
    count_by (PutOff seen) = refl

-- a turn that tries writes is that of the machine
did-mirrored : (m : TurnMachine) (k : ℕ) (old new : Worker) (p q : Pass) (x y : ℕ)
    → NumbersAreOwned p.board.workers → HoldsAll p → write_count p.board ≤ p.scheduled
    → IsSound q → OnlyWorks old.i p q → m.done ≡ p.installed → length m.workers ≡ old.workers
    → HasWorked old new p q x y
    → with_next_if_room (names p.board) m k old.next
    (with_waiting_tried (names p.board) m.done (turns_of old))
    ≡ turned m k (turns_of new) q.installed y
did-mirrored m k old new p q x y owners all up sound only done count h =
    let a : Pass = with_scheduled p h.scheduled in
    let b = h.retried in
    let c = h.tried_so in
    let list = old.put_off.items in
    let b_is : b ≡ record a { installed = b.installed; looks = b.looks } =
    tries-only a b list h.retries.results h.retries.tries in
    let board : b.board ≡ p.board = ap (λ (z : Pass). z.board) b_is in
    let roles : b.roles ≡ p.roles = ap (λ (z : Pass). z.roles) b_is in
    let reached : b.scheduled ≡ h.scheduled = ap (λ (z : Pass). z.scheduled) b_is in
    let same : c.scheduled ≡ b.scheduled = try-scheduled h.middle new b c h.result h.tries in
    let last : q.scheduled ≡ c.scheduled = ap (λ (z : Pass). z.scheduled) h.pass in
    let of : q.board ≡ p.board = ap (λ (z : Pass). z.board) only.rest in
    let rise = only.scheduled in
    let bound : q.scheduled ≤ write_count p.board =
    subst (λ (z : Board). q.scheduled ≤ write_count z) of sound.scheduled in
    let count_b : write_count b.board ≡ write_count p.board = ap write_count board in
    let tried : with_all_tried (names p.board) (record { done = p.installed; waiting = [] }) list
    ≡ record { done = b.installed; waiting = h.middle.put_off.items } =
    all-tried a b list h.retries.results [] owners all h.retries.tries
    ∙ (λ j. record { done = b.installed; waiting = sym h.retries.put_off j }) in
    (λ j. with_next_if_room (names p.board) m k old.next
    (with_all_tried (names p.board) (record { done = done j; waiting = [] }) list))
    ∙ (λ j. with_next_if_room (names (sym board j)) m k (sym h.same_next j) (tried j))
    ∙ next-mirrored m k h.middle new b c h.result
    (subst (λ (z : Board). NumbersAreOwned z.workers) (sym board) owners)
    (λ i w. ap (is_among i) roles ∙ all i (subst (λ (z : Board). IsWorker z.workers i) board w))
    (omega arith) (omega arith) (count ∙ sym h.same.workers) h.tries
    ∙ (λ j. turned m k (turns_of new) (ap (λ (z : Pass). z.installed) (sym h.pass) j)
    (sym h.new_one j))
  where
    try-scheduled : (middle new : Worker) (b c : Pass) (result : Option Install)
        → TriesNext middle new b c result → c.scheduled ≡ b.scheduled
    try-scheduled middle new b c None t = ap (λ (z : Pass). z.scheduled) t.1
    try-scheduled middle new b c (Some r) t = ap (λ (z : Pass). z.scheduled) t.pass

-- ---- the worker after its turn

next-same : (middle new : Worker) (p q : Pass) (result : Option Install)
    → TriesNext middle new p q result → new.i ≡ middle.i
next-same middle new p q None h = ap (λ (w : Worker). w.i) h.2
next-same middle new p q (Some r) h = h.same.i

pub same-worker : (old new : Worker) (p q : Pass) (result : WorkTurn)
    → WorksTurn old new p q result → new.i ≡ old.i
same-worker old new p q Done h = ap (λ (w : Worker). w.i) h.2
same-worker old new p q (NotYet x) h = ap (λ (w : Worker). w.i) h.3
same-worker old new p q (Did x y) h =
    next-same h.middle new h.retried h.tried_so h.result h.tries ∙ h.same.i

-- everything is scheduled, so no worker has to wait for that
pub never-waits : (old new : Worker) (p q : Pass) (x : ℕ) → write_count p.board ≤ p.scheduled
    → OnlyWorks old.i p q → WorksTurn old new p q (NotYet x) → ⊥
never-waits old new p q x up only h =
    let reached : q.scheduled ≡ x = ap (λ (z : Pass). z.scheduled) h.2 in
    let rise = only.scheduled in
    let above = h.0.above in
    let within = h.1 in
    omega arith

-- the floor of the worker after its turn
own-floor : (old new : Worker) (p q : Pass) (result : WorkTurn) → IsSound q
    → write_count p.board ≤ p.scheduled → OnlyWorks old.i p q → FitsWorker new q
    → floor_of p old.i ≡ least_of old.put_off.items old.next → WorksTurn old new p q result
    → floor_of q old.i ≡ least_of new.put_off.items new.next
own-floor old new p q Done sound up only fits floor h =
    ap (λ (z : Pass). floor_of z old.i) h.1 ∙ floor
    ∙ ap (λ (w : Worker). least_of w.put_off.items w.next) (sym h.2)
own-floor old new p q (NotYet x) sound up only fits floor h =
    absurd (never-waits old new p q x up only h)
own-floor old new p q (Did x y) sound up only fits floor h =
    let c = h.tried_so in
    let least = least_of new.put_off.items new.next in
    let same = same-worker old new p q (Did x y) h in
    let floors : q.floors ≡ set c.floors (new.i - 1) least = ap (λ (z : Pass). z.floors) h.pass in
    let len : length q.floors ≡ length c.floors =
    ap length floors ∙ length-set c.floors (new.i - 1) least in
    let count = sound.count in
    let some = fits.worker.0 in
    let most = fits.worker.1 in
    let workers = fits.workers in
    ap (λ (i : ℕ). floor_of q i) (sym same)
    ∙ ap (λ (l : List ℕ). get_or l (new.i - 1) 0) floors
    ∙ get_or-set_same c.floors (new.i - 1) least 0 (omega arith)

-- a worker still fits, if none of its own writes was installed or taken away
pub still-fits : (u : Worker) (p q : Pass) → FitsWorker u p
    → q ≡ record p {
      installed = q.installed;
      floors = q.floors;
      place = q.place;
      scheduled = q.scheduled;
      looks = q.looks;
    }
    → p.scheduled ≤ q.scheduled
    → ((v : ℕ) → IsWrite (names p.board) v → owner_in p v ≡ u.i
    → is_among v q.installed ≡ is_among v p.installed)
    → FitsWorker u q
still-fits u p q fits is up same =
    let later = worker-later u p (with_scheduled p q.scheduled) q.scheduled fits up refl in
    let n = fits.numbers in
    let fit : FitsWorker u (record p {
      installed = q.installed;
      floors = q.floors;
      place = q.place;
      scheduled = q.scheduled;
      looks = q.looks;
    }) =
    record {
      workers = fits.workers;
      worker = fits.worker;
      few_workers = fits.few_workers;
      few = fits.few;
      room = fits.room;
      numbers =
          record {
            role = n.role;
            positive = n.positive;
            owned = n.owned;
            bound = n.bound;
            waiting = later.numbers.waiting;
            ascends = n.ascends;
            done = λ v write owned. same v write owned ∙ n.done v write owned;
          };
    } in
    subst (FitsWorker u) (sym is) fit

other-fits : (u : Worker) (i : ℕ) (p q : Pass) → FitsWorker u p → u.i ≢ i → OnlyWorks i p q
    → FitsWorker u q
other-fits u i p q fits apart only =
    still-fits u p q fits
    (only.rest ∙ (λ j. record p {
      installed = q.installed;
      floors = q.floors;
      place = ap (λ (z : Pass). z.place) (sym only.rest) j;
      scheduled = q.scheduled;
      looks = q.looks;
    })) only.scheduled (λ v write owned. only.installed v (λ e. apart (sym owned ∙ e)))

-- ---- all workers after the turn of one

module _ (board : Board) (p q : Pass) (workers : List Worker) (k : ℕ) (old new : Worker)
    (result : WorkTurn) (owners : NumbersAreOwned board.workers) (sound : IsSound q)
    (h : IsTurning board p workers) (at : slice_get workers k ≡ Some old)
    (fits : FitsWorker new q) (turn : WorksTurn old new p q result) (only : OnlyWorks old.i p q)
  where
    less : k < length workers
    less = slice_get_within workers k old at

    number : old.i ≡ k + 1
    number = h.each.order k old at

    same_board : q.board ≡ p.board
    same_board = ap (λ (z : Pass). z.board) only.rest

    up : write_count p.board ≤ p.scheduled
    up = subst (λ (b : Board). write_count b ≤ p.scheduled) (sym h.of_board) h.scheduled

    order : (j : ℕ) (u : Worker) → ((j ≡ k) × (u ≡ new)) ⊎ IsElsewhere workers k j u
        → u.i ≡ j + 1
    order j u (inl e) = ap (λ (w : Worker). w.i) e.1 ∙ same-worker old new p q result turn ∙ number
        ∙ ap (λ (n : ℕ). n + 1) (sym e.0)
    order j u (inr e) = h.each.order j u e.there

    each : (j : ℕ) (u : Worker) → ((j ≡ k) × (u ≡ new)) ⊎ IsElsewhere workers k j u
        → FitsWorker u q
    each j u (inl e) = subst (λ (w : Worker). FitsWorker w q) (sym e.1) fits
    each j u (inr e) =
        let i = h.each.order j u e.there in
        let its = number in
        other-fits u old.i p q (h.each.each j u e.there)
        (λ s. e.apart (let d : j ≡ k = omega arith in d)) only

    floor : (j : ℕ) (u : Worker) → ((j ≡ k) × (u ≡ new)) ⊎ IsElsewhere workers k j u
        → floor_of q (j + 1) ≡ least_of u.put_off.items u.next
    floor j u (inl e) =
        let i : j + 1 ≡ old.i = ap (λ (n : ℕ). n + 1) e.0 ∙ sym number in
        ap (floor_of q) i
        ∙ own-floor old new p q result sound up only fits
        (ap (floor_of p) number ∙ h.floors k old at) turn
        ∙ ap (λ (w : Worker). least_of w.put_off.items w.next) (sym e.1)
    floor j u (inr e) =
        let within = slice_get_within workers j u e.there in
        let count = h.each.count in
        let its = number in
        only.floors (j + 1) (omega arith, omega arith)
        (λ s. e.apart (let d : j ≡ k = omega arith in d)) ∙ h.floors j u e.there

    -- a worker's turn leaves the rest as it was
    pub worker-turning : IsTurning board q (set workers k new)
    worker-turning = record {
      of_board = same_board ∙ h.of_board;
      roles = λ i w. ap (λ (z : Pass). is_among i z.roles) only.rest ∙ h.roles i w;
      snapshot = ap (λ (z : Pass). z.snapshot) only.rest ∙ h.snapshot;
      scheduler = ap (λ (z : Pass). z.scheduler) only.rest ∙ h.scheduler;
      scheduled = let a = h.scheduled in let b = only.scheduled in omega arith;
      each = record {
        count = length-set workers k new ∙ h.each.count
            ∙ ap (λ (b : Board). b.workers) (sym same_board);
        order = λ j u there. order j u (at_set workers k j new u less there);
        each = λ j u there. each j u (at_set workers k j new u less there);
      };
      floors = λ j u there. floor j u (at_set workers k j new u less there);
    }

    -- ---- the machine

    holds : HoldsAll p
    holds i w = h.roles i (subst (λ (b : Board). IsWorker b.workers i) h.of_board w)

    of_machine : (m : TurnMachine) (n : ℕ) → Mirrors m p workers n
        → (length m.workers ≡ old.workers)
        × (slice_get m.workers k ≡ Some (turns_of old))
    of_machine m n mirrors = (
      ap length mirrors.workers_so ∙ length-map-turns ∙ h.each.count
          ∙ sym (h.each.each k old at).workers,
      ap (λ (l : List WorkerTurns). slice_get l k) mirrors.workers_so
          ∙ slice_get-map turns_of workers k ∙ ap (option_map turns_of) at,
    )
      where
        length-map-turns : length (map turns_of workers) ≡ length workers
        length-map-turns = length-map workers turns_of

    -- the machine after the turn
    machine-turned : (m : TurnMachine) (n : ℕ) → Mirrors m p workers n → (r : WorkTurn)
        → WorksTurn old new p q r
        → with_next_if_room (names p.board) m k old.next
        (with_waiting_tried (names p.board) m.done (turns_of old))
        ≡ turned m k (turns_of new) q.installed (put_offs r)
    machine-turned m n mirrors Done t =
        let none : m.put_off ≡ m.put_off + 0 = omega arith in
        let quiet : with_waiting_tried (names p.board) m.done (turns_of old)
        ≡ record { done = m.done; waiting = [] } =
        none-tried (names p.board) m.done old.put_off.items t.0.none in
        ap (with_next_if_room (names p.board) m k old.next) quiet
        ∙ next-left (names p.board) m k old.next (record { done = m.done; waiting = [] })
        (inr t.0.above)
        ∙ (λ j. record m {
          done = (mirrors.done ∙ ap (λ (z : Pass). z.installed) (sym t.1)) j;
          workers = set m.workers k (record {
            next = ap (λ (w : Worker). w.next) (sym t.2) j;
            waiting = (sym t.0.none ∙ ap (λ (w : Worker). w.put_off.items) (sym t.2)) j;
          });
          put_off = none j;
        })
    machine-turned m n mirrors (NotYet x) t = absurd (never-waits old new p q x up only t)
    machine-turned m n mirrors (Did x y) t = did-mirrored m k old new p q x y
        (subst (λ (b : Board). NumbersAreOwned b.workers) (sym h.of_board) owners) holds up sound
        only mirrors.done (of_machine m n mirrors).0 t

    -- a worker's turn is the machine's
    pub worker-mirrored : (m : TurnMachine) (n i : ℕ) → i ≡ k + 1 → Mirrors m p workers n
        → Mirrors (after_worker_turn (names board) m i) q (set workers k new) (n + put_offs result)
    worker-mirrored m n i number mirrors =
        let i_is : i ≡ suc k = omega arith in
        let is : after_worker_turn (names board) m i
        ≡ turned m k (turns_of new) q.installed (put_offs result) =
        ap (after_worker_turn (names board) m) i_is
        ∙ ap (λ (b : Board). after_worker_turn (names b) m (suc k)) (sym h.of_board)
        ∙ turn-at (names p.board) m k (turns_of old) (of_machine m n mirrors).1
        ∙ machine-turned m n mirrors result turn in
        record {
          done = ap (λ (x : TurnMachine). x.done) is;
          workers_so = ap (λ (x : TurnMachine). x.workers) is
              ∙ ap (λ (l : List WorkerTurns). set l k (turns_of new)) mirrors.workers_so
              ∙ sym (map-set turns_of workers k new);
          place = ap (λ (x : TurnMachine). x.place) is ∙ mirrors.place
              ∙ ap (λ (z : Pass). z.place) (sym only.rest);
          count = ap (λ (x : TurnMachine). x.put_off) is
              ∙ ap (λ (x : ℕ). x + put_offs result) mirrors.count;
        }
