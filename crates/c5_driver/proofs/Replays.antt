-- Replies at places, and transactions that differ in their stamps alone.
use Rattle.std.proofs.Common.{◌≡◌, ◌∙◌, ◌≤◌, ◌++◌, ℕ, zero, suc, List, [], ◌∷◌, length, take, refl}
use Rattle.std.proofs.Common.{sym, ap, subst}
use Rattle.std.specs.List.{All, AllByRecursion, flat_map}
use Rattle.std.proofs.lemmas.List.{length-map}
use Rattle.std.proofs.lemmas.List.Elements.{All-from_recursion}
use Rattle.c5_rows.specs.State.{State, after_writes, after_txns}
use Rattle.c5_rows.specs.declared.answer.Reply.{Reply}
use Rattle.c5_rows.specs.declared.writes.Txn.{Txn}
use Rattle.c5_rows.specs.declared.writes.Write.{Write}
use Rattle.c5_definitions.specs.Answers.{answer_of}
use Rattle.c5_definitions.specs.Outputs.{backup_text, no_rows, order_text, reply_text}
use Rattle.c5_definitions.specs.Replies.{AreLawfulPlaces, in_reply_order, reply_at, replies_at}
use Rattle.c5_definitions.specs.ScriptParts.{ReadParts, ScriptParts}
use Rattle.c5_definitions.specs.SerialRun.{AreAlike, SerialRun, script_numbers, serial_txns}
use Rattle.c5_definitions.specs.Texts.{rows_text}
use Rattle.c5_driver.specs.Cloning.{IsCloneOf}
use Rattle.c5_driver.specs.Replaying.{IsReplayOver, PrintsReplay}

-- ---- places

pub places-each : (state : State) (txns : List Txn) (total : ℕ) (reads : List ReadParts)
    (places : List ℕ) → AllByRecursion (λ place. place ≤ total) places
    → AllByRecursion (λ (reply : Reply). reply.place ≤ total) (replies_at state txns reads places)
places-each state txns total [] places all = tt
places-each state txns total (read ∷ reads) [] all = tt
places-each state txns total (read ∷ reads) (place ∷ places) all =
    (all.0, places-each state txns total reads places all.1)

-- the place of each reply is a place of the log
pub places-within : (script : ScriptParts) (txns : List Txn) (replies : List Reply) (rows : State)
    → IsReplayOver script txns replies rows
    → All (λ (reply : Reply). reply.place ≤ length txns) replies
places-within script txns replies rows h =
    subst (All (λ (reply : Reply). reply.place ≤ length txns)) (sym h.replied)
    (All-from_recursion _ _
    (places-each no_rows txns (length txns)
    (in_reply_order script.reads) h.places h.lawful.within))

-- the replies and the rows that are printed
pub printed : (script : ScriptParts) (txns : List Txn) (replies : List Reply) (rows : State)
    (old new : List ℕ) (total : ℕ) → IsReplayOver script txns replies rows → total ≡ length txns
    → new ≡ old
    ++ (flat_map (reply_text script.tables total) replies ++ rows_text script.tables rows)
    → PrintsReplay script txns old new
printed script txns replies rows old new total h e is =
    record {
      places = h.places;
      lawful = h.lawful;
      printed =
          is ∙ (λ i. old
          ++ (flat_map (reply_text script.tables (e i)) (h.replied i)
          ++ rows_text script.tables (h.after i)));
    }

-- ---- alike

alike-length : (these those : List Txn) → AreAlike these those → length these ≡ length those
alike-length [] [] all = refl
alike-length [] (b ∷ those) all = absurd all
alike-length (a ∷ these) [] all = absurd all
alike-length (a ∷ these) (b ∷ those) all = ap suc (alike-length these those all.1)

alike-take : (p : ℕ) (these those : List Txn) → AreAlike these those
    → AreAlike (take p these) (take p those)
alike-take zero these those all = tt
alike-take (suc p) [] [] all = tt
alike-take (suc p) [] (b ∷ those) all = absurd all
alike-take (suc p) (a ∷ these) [] all = absurd all
alike-take (suc p) (a ∷ these) (b ∷ those) all = (all.0, alike-take p these those all.1)

alike-after : (these those : List Txn) (state : State) → AreAlike these those
    → after_txns these state ≡ after_txns those state
alike-after [] [] state all = refl
alike-after [] (b ∷ those) state all = absurd all
alike-after (a ∷ these) [] state all = absurd all
alike-after (a ∷ these) (b ∷ those) state all =
    ap (λ (ws : List Write). after_txns these (after_writes ws state)) all.0.1 ∙ alike-after these
    those (after_writes b.writes state) all.1

alike-replies : (these those : List Txn) (state : State) (reads : List ReadParts) (places : List ℕ)
    → AreAlike these those → replies_at state these reads places
    ≡ replies_at state those reads places
alike-replies these those state [] places all = refl
alike-replies these those state (read ∷ reads) [] all = refl
alike-replies these those state (read ∷ reads) (place ∷ places) all =
    let one : reply_at state these read place ≡ reply_at state those read place =
    ap (λ (s : State). record { session = read.session; place = place; answer = answer_of read s })
    (alike-after (take place these) (take place those) state (alike-take place these those all))
    in
    (λ i. one i ∷ alike-replies these those state reads places all i)

alike-text : (script : ScriptParts) (these those : List Txn) (places : List ℕ)
    → AreAlike these those → backup_text script these places ≡ backup_text script those places
alike-text script these those places all =
    (λ i. flat_map (reply_text script.tables (alike-length these those all i))
    (alike-replies these those no_rows (in_reply_order script.reads) places all i)
    ++ rows_text script.tables (alike-after these those no_rows all i))

-- a run's order, and what the replay of its log prints, are what a clone prints
pub cloned : (script : ScriptParts) (txns logged : List Txn) (order text : List ℕ)
    → SerialRun script.bodies no_rows txns → logged ≡ txns
    → order ≡ order_text (script_numbers txns) → PrintsReplay script logged order text
    → IsCloneOf script text
cloned script txns logged order text run same ordered prints =
    let lawful : AreLawfulPlaces (in_reply_order script.reads) (length txns) prints.places =
    subst (λ (ts : List Txn). AreLawfulPlaces (in_reply_order script.reads)
    (length ts) prints.places) same prints.lawful in
    record {
      order = script_numbers txns;
      places = prints.places;
      each_once = run.each_once;
      lawful = subst (λ (n : ℕ). AreLawfulPlaces (in_reply_order script.reads) n prints.places)
          (sym (length-map txns (λ (txn : Txn). txn.script))) lawful;
      printed = prints.printed ∙ (λ i. ordered i ++ backup_text script (same i) prints.places)
          ∙ ap (λ (t : List ℕ). order_text (script_numbers txns) ++ t)
          (alike-text script txns
          (serial_txns script.bodies no_rows (script_numbers txns)) prints.places run.alike);
    }
