-- The machine of a schedule, step by step.
use Prim.Native.Nat.{zero, suc}
use Rattle.std.proofs.Common.{◌≡◌, ◌∙◌, ◌+◌, ◌-◌, ◌≤◌, ◌<◌, ◌++◌, ℕ, Bool, true, false, cond, List}
use Rattle.std.proofs.Common.{[], ◌∷◌, length, map, set, drop, Option, Some, None, slice_get}
use Rattle.std.proofs.Common.{replicate, ap, sym, subst, refl, arith, rules}
use Rattle.std.specs.List.{flat_map, range_with_len, zip}
use Rattle.std.proofs.lemmas.List.{length-map}
use Rattle.std.proofs.lemmas.List.Concat.{flat_map-cons}
use Rattle.std.proofs.lemmas.Option.{slice_get_past}
use Rattle.c5_rows.specs.Numbers.{numbers_from}
use Rattle.c5_rows.specs.Sizes.{max_sessions}
use Rattle.c5_rows.specs.declared.writes.RowName.{RowName}
use Rattle.c5_rows.specs.declared.writes.Txn.{Txn}
use Rattle.c5_definitions.specs.Replies.{reads_of_session}
use Rattle.c5_definitions.specs.ScriptParts.{ReadParts}
use Rattle.c5_definitions.specs.Turns.{TurnMachine, WorkerTurns, after_session, after_session_at}
use Rattle.c5_definitions.specs.Turns.{after_worker_at, after_worker_turn, after_worker_turns}
use Rattle.c5_definitions.specs.Turns.{after_round, after_rounds, is_all_done, places_taken}
use Rattle.c5_definitions.specs.Turns.{with_left_taken, with_next_if_room, with_one_taken}
use Rattle.c5_definitions.specs.Turns.{after_word, after_words}
use Rattle.c5_definitions.specs.WriteNumbers.{names_in}
use Rattle.c5_definitions.specs.declared.script.TurnWord.{TurnWord}
use Rattle.c5_workers.specs.declared.worker.Worker.{Worker}
use Rattle.c5_replay.specs.Mirrors.{turns_of}
use Rattle.c5_replay.specs.TurnStates.{machine_of, left_places, taken_by}
use Rattle.c5_replay.specs.declared.session_turns.SessionTurns.{SessionTurns}
use Rattle.c5_replay.specs.declared.turning.Turning.{Turning}

-- ---- lists

map-set : {X Y : Type 0} (f : X → Y) (xs : List X) (k : ℕ) (x : X)
    → map f (set xs k x) ≡ set (map f xs) k (f x)
map-set f [] k x = refl
map-set f (y ∷ ys) zero x = refl
map-set f (y ∷ ys) (suc k) x = ap (λ l. f y ∷ l) (map-set f ys k x)

abbrev pub map_some : {X Y : Type 0} → (X → Y) → Option X → Option Y
map_some f None = None
map_some f (Some x) = Some (f x)

pub get-map : {X Y : Type 0} (f : X → Y) (xs : List X) (k : ℕ) (x : X)
    → slice_get xs k ≡ Some x → slice_get (map f xs) k ≡ Some (f x)
get-map f [] k x e = absurd (let h = e in search rules)
get-map f (y ∷ ys) zero x e = ap (map_some f) e
get-map f (y ∷ ys) (suc k) x e = get-map f ys k x e

-- ---- a session's turn

-- the machine after a session's read was taken, or none was left
pub session-step : (t u : Turning) (reads : List ReadParts) (k i : ℕ) (old new : SessionTurns)
    → i ≡ suc k → slice_get t.sessions.items k ≡ Some old
    → u.sessions.items ≡ set t.sessions.items k new
    → taken_by new
    ≡ with_one_taken (length (reads_of_session reads i)) t.pass.place (taken_by old)
    → u.pass.installed ≡ t.pass.installed → u.workers.items ≡ t.workers.items
    → u.pass.place ≡ t.pass.place → u.put_off ≡ t.put_off
    → machine_of u ≡ after_session reads (machine_of t) i
unfolding after_session_at
session-step t u reads k i old new next at set_so taken done workers place put_off =
    subst (λ (j : ℕ). machine_of u ≡ after_session reads (machine_of t) j) (sym next)
    (whole ∙ sym (ap (after_session_at (machine_of t) count k) found))
  where
    count : ℕ
    count = length (reads_of_session reads (suc k))

    found : slice_get (map taken_by t.sessions.items) k ≡ Some (taken_by old)
    found = get-map taken_by t.sessions.items k old at

    taken_so : taken_by new ≡ with_one_taken count t.pass.place (taken_by old)
    taken_so = taken ∙ ap (λ (j : ℕ). with_one_taken
        (length (reads_of_session reads j)) t.pass.place (taken_by old)) next

    all : map taken_by u.sessions.items
        ≡ set (map taken_by t.sessions.items) k
        (with_one_taken count t.pass.place (taken_by old))
    all = ap (map taken_by) set_so ∙ map-set taken_by t.sessions.items k new ∙ ap
        (λ (l : List ℕ). set (map taken_by t.sessions.items) k l) taken_so

    whole : machine_of u ≡ record (machine_of t) {
      taken = set (map taken_by t.sessions.items) k
          (with_one_taken count t.pass.place (taken_by old));
    }
    whole = λ x. record {
      done = done x;
      workers = map turns_of (workers x);
      place = place x;
      taken = all x;
      put_off = put_off x;
    }

-- no session has this number
pub session-none : (t : Turning) (reads : List ReadParts) (i : ℕ)
    → length t.sessions.items < i → machine_of t ≡ after_session reads (machine_of t) i
unfolding after_session_at
session-none t reads zero past = absurd (omega arith)
session-none t reads (suc k) past =
    let len = length-map t.sessions.items taken_by in
    sym (ap (after_session_at (machine_of t) (length (reads_of_session reads (suc k))) k)
    (slice_get_past (map taken_by t.sessions.items) k (omega arith)))

pub session-zero : (t : Turning) (reads : List ReadParts) (i : ℕ) → i ≡ 0
    → machine_of t ≡ after_session reads (machine_of t) i
session-zero t reads i none =
    subst (λ (j : ℕ). machine_of t ≡ after_session reads (machine_of t) j) (sym none) refl

-- ---- a worker's turn

-- no worker has this number
pub worker-none : (t : Turning) (names : List RowName) (i : ℕ) → length t.workers.items < i
    → machine_of t ≡ after_worker_turn names (machine_of t) i
unfolding after_worker_at
worker-none t names zero past = absurd (omega arith)
worker-none t names (suc k) past =
    let len = length-map t.workers.items turns_of in
    sym (ap (after_worker_at names (machine_of t) k)
    (slice_get_past (map turns_of t.workers.items) k (omega arith)))

pub worker-zero : (t : Turning) (names : List RowName) (i : ℕ) → i ≡ 0
    → machine_of t ≡ after_worker_turn names (machine_of t) i
worker-zero t names i none =
    subst (λ (j : ℕ). machine_of t ≡ after_worker_turn names (machine_of t) j) (sym none) refl

-- a worker's turn takes no read
kept : (b : Bool) (m n : TurnMachine) → n.taken ≡ m.taken → (o : TurnMachine)
    → o.taken ≡ m.taken → (cond b n o).taken ≡ m.taken
kept true m n e o f = e
kept false m n e o f = f

taken-at : (names : List RowName) (m : TurnMachine) (k : ℕ) (found : Option WorkerTurns)
    → (after_worker_at names m k found).taken ≡ m.taken
unfolding after_worker_at
taken-at names m k None = refl
taken-at names m k (Some worker) = kept _ m _ refl _ refl

pub taken-kept : (names : List RowName) (m : TurnMachine) (i : ℕ)
    → (after_worker_turn names m i).taken ≡ m.taken
taken-kept names m zero = refl
taken-kept names m (suc k) = taken-at names m k (slice_get m.workers k)

-- ---- rounds

pub worker-turns-more : (names : List RowName) (m n : TurnMachine) (first count : ℕ)
    → 1 ≤ count → n ≡ after_worker_turn names m first
    → after_worker_turns names m (numbers_from first count)
    ≡ after_worker_turns names n (numbers_from (first + 1) (count - 1))
unfolding after_worker_turns
worker-turns-more names m n first zero some is = absurd (omega arith)
worker-turns-more names m n first (suc count) some is =
    let e : suc count - 1 ≡ count = omega arith in
    let f : first + 1 ≡ suc first = omega arith in
    sym (λ t. after_worker_turns names (is t) (numbers_from (f t) (e t)))

pub worker-turns-none : (names : List RowName) (m : TurnMachine) (first count : ℕ)
    → count ≡ 0 → after_worker_turns names m (numbers_from first count) ≡ m
unfolding after_worker_turns
worker-turns-none names m first count none =
    ap (λ (n : ℕ). after_worker_turns names m (numbers_from first n)) none

pub rounds-end : (txns : List Txn) (m n : TurnMachine) (most : ℕ) → 1 ≤ most
    → n ≡ after_round txns m → is_all_done (length (names_in txns)) n.done ≡ true
    → n ≡ after_rounds txns m most
unfolding after_rounds
rounds-end txns m n zero some is all = absurd (omega arith)
rounds-end txns m n (suc most) some is all =
    is ∙ sym (ap (λ (b : Bool). cond b (after_round txns m)
    (after_rounds txns (after_round txns m) most))
    (ap (λ (x : TurnMachine). is_all_done (length (names_in txns)) x.done) (sym is) ∙ all))

pub rounds-none : (txns : List Txn) (m : TurnMachine) (most : ℕ) → most ≡ 0
    → after_rounds txns m most ≡ m
unfolding after_rounds
rounds-none txns m most none = ap (λ (n : ℕ). after_rounds txns m n) none

pub rounds-more : (txns : List Txn) (m n : TurnMachine) (most : ℕ) → 1 ≤ most
    → n ≡ after_round txns m → is_all_done (length (names_in txns)) n.done ≡ false
    → after_rounds txns n (most - 1) ≡ after_rounds txns m most
unfolding after_rounds
rounds-more txns m n zero some is all = absurd (omega arith)
rounds-more txns m n (suc most) some is all =
    let e : suc most - 1 ≡ most = omega arith in
    (λ t. after_rounds txns (is t) (e t))
    ∙ sym (ap (λ (b : Bool). cond b (after_round txns m)
    (after_rounds txns (after_round txns m) most))
    (ap (λ (x : TurnMachine). is_all_done (length (names_in txns)) x.done) (sym is) ∙ all))

-- ---- places of the reads that are left

places-from : (reads : List ReadParts) (place first : ℕ) (sessions : List SessionTurns)
    → flat_map (λ (x : ℕ × List ℕ). with_left_taken reads place x.0 x.1)
    (zip (range_with_len first (length sessions)) (map taken_by sessions))
    ≡ left_places reads place first sessions
places-from reads place first [] = refl
places-from reads place first (s ∷ sessions) =
    flat_map-cons (λ (x : ℕ × List ℕ). with_left_taken reads place x.0 x.1)
    (first, taken_by s)
    (zip (range_with_len (first + 1) (length sessions)) (map taken_by sessions))
    ∙ ap (λ (l : List ℕ). with_left_taken reads place first (taken_by s) ++ l)
    (places-from reads place (first + 1) sessions)

pub places-taken : (reads : List ReadParts) (t : Turning)
    → length t.sessions.items ≡ max_sessions
    → left_places reads t.pass.place 1 t.sessions.items ≡ places_taken reads (machine_of t)
places-taken reads t count =
    sym (places-from reads t.pass.place 1 t.sessions.items)
    ∙ ap (λ (n : ℕ). flat_map (λ (x : ℕ × List ℕ). with_left_taken reads t.pass.place x.0 x.1)
    (zip (range_with_len 1 n) (map taken_by t.sessions.items))) count

-- ---- the words of a schedule

drop-word : (turns : List TurnWord) (k : ℕ) (word : TurnWord) → slice_get turns k ≡ Some word
    → drop k turns ≡ word ∷ drop (k + 1) turns
drop-word [] k word at = (let e = at in search rules)
drop-word (x ∷ turns) zero word at =
    ap (λ (y : TurnWord). y ∷ turns) (let e = at in search rules)
drop-word (x ∷ turns) (suc k) word at =
    let e : suc k + 1 ≡ suc (k + 1) = omega arith in
    drop-word turns k word at ∙ ap (λ (j : ℕ). word ∷ drop j (x ∷ turns)) (sym e)

drop-all : (turns : List TurnWord) (k : ℕ) → length turns ≤ k → drop k turns ≡ []
drop-all [] zero past = refl
drop-all [] (suc k) past = refl
drop-all (x ∷ turns) zero past = absurd (omega arith)
drop-all (x ∷ turns) (suc k) past = drop-all turns k (omega arith)

pub words-more : (txns : List Txn) (reads : List ReadParts) (m n : TurnMachine)
    (turns : List TurnWord) (k : ℕ) (word : TurnWord) → slice_get turns k ≡ Some word
    → n ≡ after_word txns reads m word
    → after_words txns reads n (drop (k + 1) turns) ≡ after_words txns reads m (drop k turns)
unfolding after_words
words-more txns reads m n turns k word at is =
    ap (λ (x : TurnMachine). after_words txns reads x (drop (k + 1) turns)) is
    ∙ sym (ap (λ (l : List TurnWord). after_words txns reads m l) (drop-word turns k word at))

pub words-none : (txns : List Txn) (reads : List ReadParts) (m : TurnMachine)
    (turns : List TurnWord) (k : ℕ) → length turns ≤ k
    → after_words txns reads m (drop k turns) ≡ m
unfolding after_words
words-none txns reads m turns k past =
    ap (λ (l : List TurnWord). after_words txns reads m l) (drop-all turns k past)
