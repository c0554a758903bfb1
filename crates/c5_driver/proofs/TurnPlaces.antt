-- The places that a schedule gives the reads are places of the log.
use Rattle.std.proofs.Common.{◌≡◌, ◌≤◌, ◌+◌, ◌-◌, ◌++◌, ℕ, zero, suc, Bool, true, false, nat_lt}
use Rattle.std.proofs.Common.{List, [], ◌∷◌, length, Option, Some, None, replicate, arith}
use Rattle.std.specs.Prelude.{if◌then◌else◌, slice_get, slice_set}
use Rattle.std.specs.List.{AllByRecursion, flat_map, range_with_len, zip}
use Rattle.c5_rows.specs.Numbers.{numbers_from}
use Rattle.c5_rows.specs.Sizes.{max_sessions}
use Rattle.c5_rows.specs.declared.writes.RowName.{RowName}
use Rattle.c5_rows.specs.declared.writes.Txn.{Txn}
use Rattle.c5_definitions.specs.declared.script.TurnWord.{TurnWord}
use Rattle.c5_definitions.specs.declared.script.TurnWord.TheVariants.{Worker, Visible, Session}
use Rattle.c5_definitions.specs.Replies.{reads_of_session}
use Rattle.c5_definitions.specs.ScriptParts.{ReadParts}
use Rattle.c5_definitions.specs.Turns.{TurnMachine, WorkerTurns, TriedWrites, turn_start, turn_run}
use Rattle.c5_definitions.specs.Turns.{with_worker_at, with_next_tried, with_next_if_room}
use Rattle.c5_definitions.specs.Turns.{with_waiting_tried, after_worker_at, after_worker_turn}
use Rattle.c5_definitions.specs.Turns.{is_below_all_left, place_done, after_visible}
use Rattle.c5_definitions.specs.Turns.{with_one_taken, after_session_at, after_session, after_word}
use Rattle.c5_definitions.specs.Turns.{after_words, after_worker_turns, after_round, is_all_done}
use Rattle.c5_definitions.specs.Turns.{after_rounds, after_closing, with_left_taken}
use Rattle.c5_definitions.specs.WriteNumbers.{names_in}
use Rattle.c5_definitions.proofs.SearchLemmas.{greatest-not_above}

-- ---- lists

all-append : {X : Type 0} (P : X → Type 0) (first others : List X) → AllByRecursion P first
    → AllByRecursion P others → AllByRecursion P (first ++ others)
all-append P [] others all rest = rest
all-append P (x ∷ first) others all rest = (all.0, all-append P first others all.1 rest)

all-replicate : {X : Type 0} (P : X → Type 0) (n : ℕ) (x : X) → P x
    → AllByRecursion P (replicate n x)
all-replicate P zero x is = tt
all-replicate P (suc n) x is = (is, all-replicate P n x is)

all-set : {X : Type 0} (P : X → Type 0) (xs : List X) (k : ℕ) (x : X) → AllByRecursion P xs → P x
    → AllByRecursion P (slice_set xs k x)
all-set P [] k x all is = tt
all-set P (y ∷ xs) zero x all is = (is, all.1)
all-set P (y ∷ xs) (suc k) x all is = (all.0, all-set P xs k x all.1 is)

-- what is true of an element, if there is one
abbrev IfThere : {X : Type 0} → (X → Type 0) → Option X → Type 0
IfThere P None = Unit {0}
IfThere P (Some x) = P x

all-get : {X : Type 0} (P : X → Type 0) (xs : List X) (k : ℕ) → AllByRecursion P xs
    → IfThere P (slice_get xs k)
all-get P [] k all = tt
all-get P (x ∷ xs) zero all = all.0
all-get P (x ∷ xs) (suc k) all = all-get P xs k all.1

either : {X : Type 0} (P : X → Type 0) (b : Bool) (x y : X) → P x → P y
    → P (if b then x else y)
either P true x y p q = p
either P false x y p q = q

-- ---- the machine

abbrev AreUpTo : ℕ → List ℕ → Type 0
AreUpTo total places = AllByRecursion (λ place. place ≤ total) places

-- the visible place and those at which reads were taken are at most the total
record HasPlacesUpTo (total : ℕ) (m : TurnMachine) : Type 0 where
  pub place : m.place ≤ total
  pub taken : AllByRecursion (AreUpTo total) m.taken

start-within : (total workers : ℕ) → HasPlacesUpTo total (turn_start workers)
start-within total workers =
    record {
      place = omega arith;
      taken = all-replicate (AreUpTo total) max_sessions [] tt;
    }

worker-within : (names : List RowName) (m : TurnMachine) (total k next : ℕ) (t : TriedWrites)
    → HasPlacesUpTo total m → HasPlacesUpTo total (with_next_if_room names m k next t)
worker-within names m total k next t is =
    either (HasPlacesUpTo total) _ (with_next_tried names m k next t) (with_worker_at m k next t)
    (record { place = is.place; taken = is.taken }) (record { place = is.place; taken = is.taken })

worker_at-within : (names : List RowName) (m : TurnMachine) (total k : ℕ) (o : Option WorkerTurns)
    → HasPlacesUpTo total m → HasPlacesUpTo total (after_worker_at names m k o)
unfolding after_worker_at
worker_at-within names m total k None is = is
worker_at-within names m total k (Some worker) is =
    worker-within names m total k worker.next (with_waiting_tried names m.done worker) is

worker_turn-within : (names : List RowName) (m : TurnMachine) (total i : ℕ) → HasPlacesUpTo total m
    → HasPlacesUpTo total (after_worker_turn names m i)
worker_turn-within names m total zero is = is
worker_turn-within names m total (suc k) is =
    worker_at-within names m total k (slice_get m.workers k) is

place_done-within : (txns : List Txn) (workers : ℕ) (done : List ℕ)
    → place_done txns workers done ≤ length txns
unfolding place_done
place_done-within txns workers done =
    let next : length txns + 1 ≡ suc (length txns) = omega arith in
    rw next (greatest-not_above (is_below_all_left txns workers done) (length txns))

visible-within : (txns : List Txn) (m : TurnMachine) → HasPlacesUpTo (length txns) m
    → HasPlacesUpTo (length txns) (after_visible txns m)
visible-within txns m is =
    record { place = place_done-within txns (length m.workers) m.done; taken = is.taken }

one_taken-within : (total count place : ℕ) (places : List ℕ) → place ≤ total
    → AreUpTo total places → AreUpTo total (with_one_taken count place places)
one_taken-within total count place places here all =
    either (AreUpTo total) (nat_lt (length places) count) (places ++ place ∷ []) places
    (all-append (λ p. p ≤ total) places (place ∷ []) all (here, tt)) all

session_at-within : (m : TurnMachine) (total count k : ℕ) (o : Option (List ℕ))
    → IfThere (AreUpTo total) o → HasPlacesUpTo total m
    → HasPlacesUpTo total (after_session_at m count k o)
unfolding after_session_at
session_at-within m total count k None there is = is
session_at-within m total count k (Some places) there is =
    record {
      place = is.place;
      taken = all-set (AreUpTo total) m.taken k (with_one_taken count m.place places) is.taken
          (one_taken-within total count m.place places is.place there);
    }

session-within : (reads : List ReadParts) (m : TurnMachine) (total session : ℕ)
    → HasPlacesUpTo total m → HasPlacesUpTo total (after_session reads m session)
session-within reads m total zero is = is
session-within reads m total (suc k) is =
    session_at-within m total (length (reads_of_session reads (suc k))) k (slice_get m.taken k)
    (all-get (AreUpTo total) m.taken k is.taken) is

-- ---- schedules

word-within : (txns : List Txn) (reads : List ReadParts) (m : TurnMachine) (word : TurnWord)
    → HasPlacesUpTo (length txns) m → HasPlacesUpTo (length txns) (after_word txns reads m word)
word-within txns reads m (Worker i) is = worker_turn-within (names_in txns) m (length txns) i is
word-within txns reads m Visible is = visible-within txns m is
word-within txns reads m (Session session) is =
    session-within reads m (length txns) session is

words-within : (txns : List Txn) (reads : List ReadParts) (m : TurnMachine) (words : List TurnWord)
    → HasPlacesUpTo (length txns) m → HasPlacesUpTo (length txns) (after_words txns reads m words)
unfolding after_words
words-within txns reads m [] is = is
words-within txns reads m (word ∷ words) is =
    words-within txns reads (after_word txns reads m word) words
    (word-within txns reads m word is)

turns-within : (names : List RowName) (m : TurnMachine) (total : ℕ) (list : List ℕ)
    → HasPlacesUpTo total m → HasPlacesUpTo total (after_worker_turns names m list)
unfolding after_worker_turns
turns-within names m total [] is = is
turns-within names m total (i ∷ others) is =
    turns-within names (after_worker_turn names m i) total others
    (worker_turn-within names m total i is)

round-within : (txns : List Txn) (m : TurnMachine) → HasPlacesUpTo (length txns) m
    → HasPlacesUpTo (length txns) (after_round txns m)
round-within txns m is =
    visible-within txns (after_worker_turns (names_in txns) m (numbers_from 1 (length m.workers)))
    (turns-within (names_in txns) m (length txns) (numbers_from 1 (length m.workers)) is)

rounds-within : (txns : List Txn) (m : TurnMachine) (most : ℕ) → HasPlacesUpTo (length txns) m
    → HasPlacesUpTo (length txns) (after_rounds txns m most)
unfolding after_rounds
rounds-within txns m zero is = is
rounds-within txns m (suc most) is =
    let round = round-within txns m is in
    either (HasPlacesUpTo (length txns))
    (is_all_done (length (names_in txns)) (after_round txns m).done) (after_round txns m)
    (after_rounds txns (after_round txns m) most) round
    (rounds-within txns (after_round txns m) most round)

-- ---- the places

left-within : (total : ℕ) (reads : List ReadParts) (place : ℕ) (numbers : List ℕ)
    (taken : List (List ℕ)) → place ≤ total → AllByRecursion (AreUpTo total) taken
    → AreUpTo total
    (flat_map (λ (session, places). with_left_taken reads place session places)
    (zip numbers taken))
left-within total reads place [] taken here all = tt
left-within total reads place (session ∷ numbers) [] here all = tt
left-within total reads place (session ∷ numbers) (places ∷ taken) here all =
    all-append (λ p. p ≤ total) (with_left_taken reads place session places) _
    (all-append (λ p. p ≤ total) places _ all.0
    (all-replicate (λ p. p ≤ total) (length (reads_of_session reads session) - length places)
    place here))
    (left-within total reads place numbers taken here all.1)

-- each read is taken at a place of the log
pub places-of_turns : (txns : List Txn) (workers : ℕ) (reads : List ReadParts)
    (turns : List TurnWord) → AllByRecursion (λ place. place ≤ length txns)
    (turn_run txns workers reads turns).places
unfolding turn_run
places-of_turns txns workers reads turns =
    let m : TurnMachine = after_closing txns (after_words txns reads (turn_start workers) turns) in
    let is : HasPlacesUpTo (length txns) m =
    rounds-within txns (after_words txns reads (turn_start workers) turns)
    (length (names_in txns) + 1)
    (words-within txns reads (turn_start workers) turns (start-within (length txns) workers)) in
    left-within (length txns) reads m.place (range_with_len 1 max_sessions) m.taken is.place
    is.taken
