-- What the log, the replies and the rows of a generated script's replay are counted as.
use Rattle.std.proofs.Common.{◌≡◌, ◌∙◌, ◌≤◌, ◌+◌, ◌++◌, ◌∷◌, [], ℕ, suc, List, length}
use Rattle.std.proofs.Common.{refl, sym, ap, subst, take_all, append_assoc, arith}
use Rattle.std.specs.Prelude.{codes}
use Rattle.std.specs.Fmt.{digits, signed_decimal}
use Rattle.std.specs.List.{AllByRecursion, range_with_len}
use Rattle.std.proofs.lemmas.List.{length-map}
use Rattle.std.proofs.lemmas.List.FromFn.{length-range_with_len}
use Rattle.c5_rows.specs.Sizes.{max_rows}
use Rattle.c5_rows.specs.State.{State, after_txns, after_writes, rows_of}
use Rattle.c5_rows.specs.declared.answer.Reply.{Reply}
use Rattle.c5_rows.specs.declared.tables.TableDef.{TableDef}
use Rattle.c5_rows.specs.declared.writes.Txn.{Txn}
use Rattle.c5_definitions.specs.declared.script.Statement.{Statement}
use Rattle.c5_definitions.specs.Eval.{eval}
use Rattle.c5_definitions.specs.Generated.{generated_body, generated_script}
use Rattle.c5_definitions.specs.Outputs.{no_rows}
use Rattle.c5_definitions.specs.Replies.{AreLawfulPlaces, in_reply_order, replies_at}
use Rattle.c5_definitions.specs.ScriptParts.{ScriptParts}
use Rattle.c5_definitions.specs.SerialRun.{body_at, serial_txns, serial_txns_from}
use Rattle.c5_definitions.specs.Summaries.{Summary, count_words, generated_replies, summary_at}
use Rattle.c5_definitions.specs.Summaries.{generated_state, generated_summary, generated_txns}
use Rattle.c5_definitions.specs.Summaries.{summary_of, summary_text}
use Rattle.c5_definitions.specs.TurnTexts.{txns_in_number_order}
use Rattle.c5_gen.specs.Laws.{ArePlaces, HasParts, IsSummary, SummaryLaw}
use Rattle.c5_driver.specs.Generating.{EndsWith, gen_ending}
use Rattle.c5_driver.specs.Replaying.{IsReplayOver}

-- ---- the run

serial-length : (stamp : ℕ) (bodies : List (List Statement)) (state : State) (numbers : List ℕ)
    → length (serial_txns_from stamp bodies state numbers) ≡ length numbers
serial-length stamp bodies state [] = refl
serial-length stamp bodies state (number ∷ numbers) =
    ap suc (serial-length (stamp + 1) bodies
    (after_writes (eval (body_at bodies number) state).writes state) numbers)

bodies-count : (count : ℕ) → length (generated_script count).bodies ≡ count
unfolding generated_script
bodies-count count =
    length-map (range_with_len 0 count) generated_body ∙ length-range_with_len 0 count

-- the run of a generated script in the order of its numbers
pub run-is : (count : ℕ) → txns_in_number_order (generated_script count) ≡ generated_txns count
unfolding generated_txns
run-is count =
    ap (λ n. serial_txns (generated_script count).bodies no_rows (range_with_len 0 n))
    (bodies-count count)

run-length : (count : ℕ) → length (generated_txns count) ≡ count
unfolding generated_txns
run-length count =
    serial-length 1 (generated_script count).bodies no_rows (range_with_len 0 count)
    ∙ length-range_with_len 0 count

all-after : (count : ℕ) → after_txns (generated_txns count) no_rows ≡ generated_state count count
all-after count =
    ap (λ ts. after_txns ts no_rows)
    (sym (take_all count (generated_txns count) (omega (arith, run-length count))))

-- ---- its replay

-- what a replay gave is that of the count's script at some lawful places
pub record IsGenerated (count : ℕ) (script : ScriptParts) (txns : List Txn)
    (replies : List Reply) (rows : State) : Type 0 where
  pub places : List ℕ
  pub lawful : ArePlaces count places
  pub replied : replies ≡ generated_replies count places
  pub after : rows ≡ generated_state count count
  pub same : summary_of script.tables txns (rows_of rows) replies ≡ summary_at count places

pub replay-is : (count : ℕ) (script : ScriptParts) (txns : List Txn) (replies : List Reply)
    (rows : State) → script ≡ generated_script count → txns ≡ txns_in_number_order script
    → IsReplayOver script txns replies rows → IsGenerated count script txns replies rows
replay-is count script txns replies rows is run h =
    let made : txns ≡ generated_txns count = run ∙ ap txns_in_number_order is ∙ run-is count in
    let many : length txns ≡ count = ap length made ∙ run-length count in
    let replied : replies ≡ generated_replies count h.places =
    h.replied ∙ (λ i. replies_at no_rows (made i) (in_reply_order (is i).reads) h.places) in
    let after : rows ≡ generated_state count count =
    h.after ∙ ap (λ ts. after_txns ts no_rows) made ∙ all-after count in
    record {
      places = h.places;
      lawful =
          subst (λ n. AreLawfulPlaces (in_reply_order (generated_script count).reads) n h.places)
          many
          (subst (λ (s : ScriptParts). AreLawfulPlaces (in_reply_order s.reads) (length txns)
          h.places) is h.lawful);
      replied = replied;
      after = after;
      same = λ i. summary_of (is i).tables (made i) (rows_of (after i)) (replied i);
    }

-- the rows are few enough to be added
pub few-accounts : (count : ℕ) (script : ScriptParts) (txns : List Txn) (replies : List Reply)
    (rows : State) → (is : IsGenerated count script txns replies rows)
    → SummaryLaw count is.places → length (rows_of rows) ≤ max_rows
few-accounts count script txns replies rows is law =
    let many : length (rows_of rows) ≡ 64 =
    ap (λ (s : State). length (rows_of s)) is.after ∙ law.counts.rows in
    omega arith

-- each reply has four sums
pub all-parts : (count : ℕ) (script : ScriptParts) (txns : List Txn) (replies seen : List Reply)
    (rows : State) → (is : IsGenerated count script txns replies rows)
    → SummaryLaw count is.places → seen ≡ replies → AllByRecursion HasParts seen
all-parts count script txns replies seen rows is law same =
    subst (AllByRecursion HasParts) (sym (same ∙ is.replied)) law.replies

-- what was counted is the summary of the count
pub record IsSummed (count : ℕ) (s : Summary) : Type 0 where
  pub text : summary_text s ≡ generated_summary count
  pub counts : IsSummary count s

pub summed : (count : ℕ) (script : ScriptParts) (tables : List TableDef) (txns : List Txn)
    (replies seen : List Reply) (rows : State) (s : Summary)
    → (is : IsGenerated count script txns replies rows) → SummaryLaw count is.places
    → tables ≡ script.tables → seen ≡ replies
    → s ≡ summary_of tables txns (rows_of rows) seen → IsSummed count s
summed count script tables txns replies seen rows s is law over same counted =
    let all : s ≡ summary_at count is.places =
    counted ∙ (λ i. summary_of (over i) txns (rows_of rows) (same i)) ∙ is.same in
    record {
      text = ap summary_text all ∙ law.text;
      counts = subst (IsSummary count) (sym all) law.counts;
    }

-- ---- the text

nested : (a b c d e f g : List ℕ)
    → a ++ b ++ c ++ d ++ e ++ f ++ g ≡ a ++ (b ++ c ++ d ++ e ++ f ++ g)
nested a b c d e f g =
    ap (λ x. x ++ d ++ e ++ f ++ g) (append_assoc a b c)
    ∙ ap (λ x. x ++ e ++ f ++ g) (append_assoc a (b ++ c) d)
    ∙ ap (λ x. x ++ f ++ g) (append_assoc a (b ++ c ++ d) e)
    ∙ ap (λ x. x ++ g) (append_assoc a (b ++ c ++ d ++ e) f)
    ∙ append_assoc a (b ++ c ++ d ++ e ++ f) g

-- how the text of a generated script's summary ends
pub ends : (count : ℕ) (s : Summary) → IsSummary count s → EndsWith gen_ending (summary_text s)
unfolding summary_text digits
ends count s is =
    let before : List ℕ =
    count_words (codes "transactions") s.transactions
    ++ count_words (codes "\ndeclined") s.declined
    ++ count_words (codes "\nwrites") s.writes
    ++ count_words (codes "\nbytes") s.bytes in
    record {
      before = before;
      same =
          (λ i. before
          ++ count_words (codes "\nrows") (is.rows i)
          ++ codes "\ntotal " ++ signed_decimal (is.total i)
          ++ count_words (codes "\nreads") (is.reads i).replied
          ++ count_words (codes " whole") (is.reads i).whole
          ++ 10 ∷ [])
          ∙ nested before _ _ _ _ _ _;
    }
