-- What a replay by a schedule prints is what `turns` prints.
use Rattle.std.proofs.Common.{◌≡◌, ◌∙◌, ◌≤◌, ◌+◌, ◌++◌, ℕ, List, [], ◌∷◌, length, refl, sym, ap}
use Rattle.std.proofs.Common.{subst}
use Rattle.std.specs.List.{All, flat_map}
use Rattle.std.proofs.lemmas.List.Elements.{All-from_recursion}
use Rattle.c5_frames.specs.Log.{Log}
use Rattle.c5_rows.specs.State.{State, after_writes}
use Rattle.c5_rows.specs.declared.answer.Reply.{Reply}
use Rattle.c5_rows.specs.declared.writes.Txn.{Txn}
use Rattle.c5_definitions.specs.declared.script.Statement.{Statement}
use Rattle.c5_definitions.specs.Eval.{eval}
use Rattle.c5_definitions.specs.Outputs.{backup_text, no_rows, order_text, reply_text}
use Rattle.c5_definitions.specs.Replies.{in_reply_order}
use Rattle.c5_definitions.specs.ScriptParts.{ScriptParts}
use Rattle.c5_definitions.specs.SerialRun.{body_at, script_numbers, serial_txns_from}
use Rattle.c5_definitions.specs.Texts.{rows_text}
use Rattle.c5_definitions.specs.TurnTexts.{numbers_of_bodies, txns_in_number_order, schedule_run}
use Rattle.c5_definitions.specs.TurnTexts.{put_off_text, turns_text}
use Rattle.c5_replay.specs.TurnReplays.{IsTurnReplay}
use Rattle.c5_driver.specs.Turning.{PrintsTurns}
use Rattle.c5_driver.proofs.Replays.{places-each}
use Rattle.c5_driver.proofs.TurnPlaces.{places-of_turns}

-- the place of each reply is a place of the log
pub turns-within : (script : ScriptParts) (log : Log) (workers : ℕ) (replies : List Reply)
    (rows : State) (put_off : ℕ)
    → IsTurnReplay log workers no_rows script.reads script.turns replies rows put_off
    → All (λ (reply : Reply). reply.place ≤ length log.txns) replies
turns-within script log workers replies rows put_off h =
    subst (All (λ (reply : Reply). reply.place ≤ length log.txns)) (sym h.replied)
    (All-from_recursion _ _
    (places-each no_rows log.txns (length log.txns) (in_reply_order script.reads)
    (schedule_run script log.txns workers).places
    (places-of_turns log.txns workers script.reads script.turns)))

-- the replies, the rows and the count that are printed
pub turns-printed : (script : ScriptParts) (log : Log) (workers : ℕ) (replies : List Reply)
    (rows : State) (put_off : ℕ) (old new : List ℕ) (total : ℕ)
    → IsTurnReplay log workers no_rows script.reads script.turns replies rows put_off
    → total ≡ length log.txns
    → new ≡ old
    ++ (flat_map (reply_text script.tables total) replies ++ rows_text script.tables rows)
    ++ put_off_text put_off → PrintsTurns script log.txns workers old new
turns-printed script log workers replies rows put_off old new total h e is =
    record {
      printed =
          is ∙ (λ i. old
          ++ (flat_map (reply_text script.tables (e i)) (h.replied i)
          ++ rows_text script.tables (h.after i)) ++ put_off_text (h.count i));
    }

-- the script numbers of a run are the numbers of its bodies
numbers-run : (stamp : ℕ) (bodies : List (List Statement)) (state : State) (numbers : List ℕ)
    → script_numbers (serial_txns_from stamp bodies state numbers) ≡ numbers
numbers-run stamp bodies state [] = refl
numbers-run stamp bodies state (number ∷ numbers) =
    ap (λ (ns : List ℕ). number ∷ ns)
    (numbers-run (stamp + 1) bodies
    (after_writes (eval (body_at bodies number) state).writes state) numbers)

-- the order of a run in number order, and what the replay of its log prints, are what `turns`
-- prints
pub turned : (script : ScriptParts) (txns logged : List Txn) (workers : ℕ) (order text : List ℕ)
    → txns ≡ txns_in_number_order script → logged ≡ txns → order ≡ order_text (script_numbers txns)
    → PrintsTurns script logged workers order text → text ≡ turns_text script workers
turned script txns logged workers order text run same ordered prints =
    let log : logged ≡ txns_in_number_order script = same ∙ run in
    let numbers : order ≡ order_text (numbers_of_bodies script) =
    ordered ∙ ap (λ (ts : List Txn). order_text (script_numbers ts)) run
    ∙ ap order_text (numbers-run 1 script.bodies no_rows (numbers_of_bodies script)) in
    prints.printed
    ∙ (λ i. numbers i ++ backup_text script (log i) (schedule_run script (log i) workers).places
    ++ put_off_text (schedule_run script (log i) workers).put_off)
