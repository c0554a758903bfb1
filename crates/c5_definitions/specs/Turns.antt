-- The machine that the words of a schedule drive: which writes are done, what is visible, and at
-- which place each read is taken.
use Prim.Native.Nat.{zero, suc}
use Rattle.std.specs.Prelude.{◌+◌, ◌-◌, ◌==◌, ◌&&◌, ◌||◌, ◌++◌, ℕ, Bool, not, nat_lt, nat_le}
use Rattle.std.specs.Prelude.{List, [], ◌∷◌, length, map, replicate, slice_get, slice_set}
use Rattle.std.specs.Prelude.{Option, Some, None, if◌then◌else◌}
use Rattle.std.specs.List.{flat_map, list_all, range_with_len, zip}
use Rattle.c5_rows.specs.Numbers.{is_among, numbers_from}
use Rattle.c5_rows.specs.Sizes.{max_put_off, max_sessions}
use Rattle.c5_rows.specs.declared.writes.RowName.{RowName}
use Rattle.c5_rows.specs.declared.writes.Txn.{Txn}
use Rattle.c5_definitions.specs.declared.script.TurnWord.{TurnWord}
use Rattle.c5_definitions.specs.declared.script.TurnWord.TheVariants.{Worker, Visible, Session}
use Rattle.c5_definitions.specs.Replies.{reads_of_session}
use Rattle.c5_definitions.specs.ScriptParts.{ReadParts}
use Rattle.c5_definitions.specs.Searches.{greatest_below, least_up_to}
use Rattle.c5_definitions.specs.WriteNumbers.{names_in, predecessor_of, end_of, owner_of}

-- what a schedule comes to: the place of each read, in the order of the replies, and how many
-- writes were put off
pub record TurnRun : Type 0 where
  pub places : List ℕ
  pub put_off : ℕ

-- a worker: the next number that it tries, and those that it has put off, ascending
pub record WorkerTurns : Type 0 where
  pub next : ℕ
  pub waiting : List ℕ

-- the writes that are done, the workers in order, the visible place, for each session the places at
-- which its reads were taken, and how many writes were put off
pub record TurnMachine : Type 0 where
  pub done : List ℕ
  pub workers : List WorkerTurns
  pub place : ℕ
  pub taken : List (List ℕ)
  pub put_off : ℕ

-- worker i of so many begins with number i
abbrev pub new_workers : ℕ → List WorkerTurns
new_workers count = map (λ i. record { next = i; waiting = [] }) (numbers_from 1 count)

-- nothing is done
abbrev pub turn_start : ℕ → TurnMachine
turn_start workers = record {
  done = [];
  workers = new_workers workers;
  place = 0;
  taken = replicate max_sessions [];
  put_off = 0;
}

-- ---- `wI`: a worker takes a turn

-- writes that are done, and those that were tried and wait
pub record TriedWrites : Type 0 where
  pub done : List ℕ
  pub waiting : List ℕ

-- w may be done: it is the first write of its row, or its predecessor is done
abbrev pub may_be_done : List RowName → List ℕ → ℕ → Bool
may_be_done names done w =
    predecessor_of names w == 0 || is_among (predecessor_of names w) done

-- w is tried: it is done if it may be, else it waits
abbrev pub with_one_tried : List RowName → TriedWrites → ℕ → TriedWrites
with_one_tried names t w = if may_be_done names t.done w
    then record { done = w ∷ t.done; waiting = t.waiting }
    else record { done = t.done; waiting = t.waiting ++ w ∷ [] }

-- the numbers are tried in order
unfoldable pub with_all_tried : List RowName → TriedWrites → List ℕ → TriedWrites
with_all_tried names t [] = t
with_all_tried names t (w ∷ list) = with_all_tried names (with_one_tried names t w) list

-- those that the worker has put off are tried again
abbrev pub with_waiting_tried : List RowName → List ℕ → WorkerTurns → TriedWrites
with_waiting_tried names done worker =
    with_all_tried names (record { done = done; waiting = [] }) worker.waiting

-- the worker at place k has this next number, and this is what was tried
abbrev pub with_worker_at : TurnMachine → ℕ → ℕ → TriedWrites → TurnMachine
with_worker_at m k next t = record m {
  done = t.done;
  workers = slice_set m.workers k (record { next = next; waiting = t.waiting });
}

-- the next number w is tried, and counts if it has to wait
abbrev pub with_next_tried : List RowName → TurnMachine → ℕ → ℕ → TriedWrites → TurnMachine
with_next_tried names m k w t =
    record (with_worker_at m k (w + length m.workers) (with_one_tried names t w)) {
      put_off = if may_be_done names t.done w then m.put_off else m.put_off + 1;
    }

-- the next number w is tried if it is a write and fewer than 64 wait
abbrev pub with_next_if_room : List RowName → TurnMachine → ℕ → ℕ → TriedWrites → TurnMachine
with_next_if_room names m k w t =
    if nat_le w (length names) && nat_lt (length t.waiting) max_put_off
    then with_next_tried names m k w t else with_worker_at m k w t

-- the worker at place k, if there is one, tries those that it has put off and then its next number
unfoldable pub after_worker_at : List RowName → TurnMachine → ℕ → Option WorkerTurns → TurnMachine
after_worker_at names m k None = m
after_worker_at names m k (Some worker) =
    with_next_if_room names m k worker.next (with_waiting_tried names m.done worker)

-- worker i takes a turn; no other than those of the machine does anything
abbrev pub after_worker_turn : List RowName → TurnMachine → ℕ → TurnMachine
after_worker_turn names m zero = m
after_worker_turn names m (suc k) = after_worker_at names m k (slice_get m.workers k)

-- ---- `v`: the visible place advances

-- the least number that worker i owns and that isn't done; numbers above those of the writes never
-- are
abbrev pub least_left : ℕ → ℕ → List ℕ → ℕ → ℕ
least_left workers writes done i =
    least_up_to (λ w. owner_of workers w == i && not (is_among w done)) (writes + workers)

-- the writes of the first p transactions are below each worker's least number that isn't done
abbrev pub is_below_all_left : List Txn → ℕ → List ℕ → ℕ → Bool
is_below_all_left txns workers done p =
    list_all
    (λ i. nat_lt (end_of txns p) (least_left workers (length (names_in txns)) done i))
    (numbers_from 1 workers)

-- the greatest place whose writes are all below them
unfoldable pub place_done : List Txn → ℕ → List ℕ → ℕ
place_done txns workers done =
    greatest_below (is_below_all_left txns workers done) (length txns + 1)

abbrev pub after_visible : List Txn → TurnMachine → TurnMachine
after_visible txns m = record m { place = place_done txns (length m.workers) m.done }

-- ---- `sJ`: a session's next read is taken

-- the places of a session's reads, with this one if not all of so many are taken
abbrev pub with_one_taken : ℕ → ℕ → List ℕ → List ℕ
with_one_taken count place places = if nat_lt (length places) count then places ++ place ∷ []
    else places

-- the session at place k, if there is one, of which there are so many reads
unfoldable pub after_session_at : TurnMachine → ℕ → ℕ → Option (List ℕ) → TurnMachine
after_session_at m count k None = m
after_session_at m count k (Some places) =
    record m { taken = slice_set m.taken k (with_one_taken count m.place places) }

-- the session's next read, if one is left, is taken at the visible place
abbrev pub after_session : List ReadParts → TurnMachine → ℕ → TurnMachine
after_session reads m zero = m
after_session reads m (suc k) =
    after_session_at m (length (reads_of_session reads (suc k))) k (slice_get m.taken k)

-- ---- a schedule

abbrev pub after_word : List Txn → List ReadParts → TurnMachine → TurnWord → TurnMachine
after_word txns reads m (Worker i) = after_worker_turn (names_in txns) m i
after_word txns reads m Visible = after_visible txns m
after_word txns reads m (Session session) = after_session reads m session

unfoldable pub after_words : List Txn → List ReadParts → TurnMachine → List TurnWord → TurnMachine
after_words txns reads m [] = m
after_words txns reads m (word ∷ words) =
    after_words txns reads (after_word txns reads m word) words

-- each of these workers takes a turn, in order
unfoldable pub after_worker_turns : List RowName → TurnMachine → List ℕ → TurnMachine
after_worker_turns names m [] = m
after_worker_turns names m (i ∷ others) =
    after_worker_turns names (after_worker_turn names m i) others

-- a round: each worker takes a turn, and then the visible place advances
abbrev pub after_round : List Txn → TurnMachine → TurnMachine
after_round txns m =
    after_visible txns (after_worker_turns (names_in txns) m (numbers_from 1 (length m.workers)))

-- each of so many writes is done
abbrev pub is_all_done : ℕ → List ℕ → Bool
is_all_done writes done = list_all (λ w. is_among w done) (numbers_from 1 writes)

-- rounds until each write is done, at least one and at most so many
unfoldable pub after_rounds : List Txn → TurnMachine → ℕ → TurnMachine
after_rounds txns m zero = m
after_rounds txns m (suc most) =
    if is_all_done (length (names_in txns)) (after_round txns m).done then after_round txns m
    else after_rounds txns (after_round txns m) most

-- one round more than there are writes is enough: each round leaves the least number that isn't
-- done done
abbrev pub after_closing : List Txn → TurnMachine → TurnMachine
after_closing txns m = after_rounds txns m (length (names_in txns) + 1)

-- the reads of a session that are left are taken at this place
abbrev pub with_left_taken : List ReadParts → ℕ → ℕ → List ℕ → List ℕ
with_left_taken reads place session places =
    places ++ replicate (length (reads_of_session reads session) - length places) place

-- the places of all reads, by session, once those that are left are taken
abbrev pub places_taken : List ReadParts → TurnMachine → List ℕ
places_taken reads m =
    flat_map (λ (session, places). with_left_taken reads m.place session places)
    (zip (range_with_len 1 max_sessions) m.taken)

-- the places and the count after the words of a schedule and the closing rounds
unfoldable pub turn_run : List Txn → ℕ → List ReadParts → List TurnWord → TurnRun
turn_run txns workers reads words = record {
  places = places_taken reads
      (after_closing txns (after_words txns reads (turn_start workers) words));
  put_off = (after_closing txns (after_words txns reads (turn_start workers) words)).put_off;
}
