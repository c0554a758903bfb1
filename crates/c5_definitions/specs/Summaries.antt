-- What is counted of a log, its rows and its replies, and the summary that a count determines.
use Rattle.std.specs.Prelude.{◌*◌, ◌==◌, ◌||◌, ◌++◌, ℕ, ℤ, pos, ◌+ℤ◌, Bool, List, [], ◌∷◌}
use Rattle.std.specs.Prelude.{length, codes, Some, replicate}
use Rattle.std.specs.Fmt.{signed_decimal}
use Rattle.std.specs.List.{count_by, sum_by, range_with_len}
use Rattle.std.specs.Ordering.{int_eq}
use Rattle.c5_rows.specs.declared.answer.AnswerLine.{AnswerLine}
use Rattle.c5_rows.specs.declared.answer.AnswerLine.TheVariants.{Found, Absent, Sum}
use Rattle.c5_rows.specs.declared.answer.Reply.{Reply}
use Rattle.c5_rows.specs.declared.cells.Cell.{Cell}
use Rattle.c5_rows.specs.declared.rows.RowEntry.{RowEntry}
use Rattle.c5_rows.specs.declared.tables.TableDef.{TableDef}
use Rattle.c5_rows.specs.declared.writes.Txn.{Txn}
use Rattle.c5_rows.specs.State.{State, state_after, rows_of}
use Rattle.c5_definitions.specs.Answers.{or_zero}
use Rattle.c5_definitions.specs.Effects.{int_of_cell}
use Rattle.c5_definitions.specs.Generated.{account_count, opening_balance, generated_script}
use Rattle.c5_definitions.specs.Outputs.{no_rows, number_text}
use Rattle.c5_definitions.specs.Replies.{in_reply_order, replies_at}
use Rattle.c5_definitions.specs.SerialRun.{serial_txns}
use Rattle.c5_definitions.specs.Spelling.{spelled_log}

-- ---- sums

-- the sum of the numbers of a row; a text counts 0
abbrev pub row_total : List Cell → ℤ
row_total [] = pos 0
row_total (cell ∷ cells) = or_zero (int_of_cell (Some cell)) +ℤ row_total cells

-- the sum of the numbers of rows
abbrev pub rows_total : List RowEntry → ℤ
rows_total [] = pos 0
rows_total (entry ∷ entries) = row_total entry.row +ℤ rows_total entries

-- the sum of the sums of a reply
abbrev pub reply_total : List AnswerLine → ℤ
reply_total [] = pos 0
reply_total (Sum n ∷ lines) = n +ℤ reply_total lines
reply_total (Found name row ∷ lines) = reply_total lines
reply_total (Absent name ∷ lines) = reply_total lines

-- what all accounts have together once they are opened
abbrev pub all_money : ℕ
all_money = account_count * opening_balance

-- whether a reply saw no account, or all money
abbrev pub is_whole : Reply → Bool
is_whole reply =
    int_eq (reply_total reply.answer) (pos 0) || int_eq (reply_total reply.answer) (pos all_money)

-- whether a transaction has no writes
abbrev pub is_declined : Txn → Bool
is_declined txn = length txn.writes == 0

-- ---- counts

-- the number of replies, and how many of them are whole
pub record ReadCounts : Type 0 where
  pub replied : ℕ
  pub whole : ℕ

-- what is counted of a log, of the rows after it, and of replies
pub record Summary : Type 0 where
  pub transactions : ℕ
  pub declined : ℕ
  pub writes : ℕ
  pub bytes : ℕ
  pub rows : ℕ
  pub total : ℤ
  pub reads : ReadCounts

abbrev pub reads_counted : List Reply → ReadCounts
reads_counted replies = record { replied = length replies; whole = count_by is_whole replies }

abbrev pub summary_of : List TableDef → List Txn → List RowEntry → List Reply → Summary
summary_of tables txns rows replies =
    record {
      transactions = length txns;
      declined = count_by is_declined txns;
      writes = sum_by (λ txn. length txn.writes) txns;
      bytes = length (spelled_log tables txns);
      rows = length rows;
      total = rows_total rows;
      reads = reads_counted replies;
    }

-- ---- the text

-- a word and a number, without a line end
abbrev pub count_words : List ℕ → ℕ → List ℕ
count_words word n = word ++ number_text n

-- a line for each count, but one for both counts of reads
unfoldable pub summary_text : Summary → List ℕ
summary_text s =
    count_words (codes "transactions") s.transactions
    ++ count_words (codes "\ndeclined") s.declined
    ++ count_words (codes "\nwrites") s.writes
    ++ count_words (codes "\nbytes") s.bytes
    ++ count_words (codes "\nrows") s.rows
    ++ codes "\ntotal " ++ signed_decimal s.total
    ++ count_words (codes "\nreads") s.reads.replied
    ++ count_words (codes " whole") s.reads.whole
    ++ 10 ∷ []

-- ---- the summary of a count

-- the transactions of the generated script, run in the order of their numbers
unfoldable pub generated_txns : ℕ → List Txn
generated_txns count =
    serial_txns (generated_script count).bodies no_rows (range_with_len 0 count)

-- the rows after so many of them
abbrev pub generated_state : ℕ → ℕ → State
generated_state count p = state_after no_rows (generated_txns count) p

-- the replies to its reads at these places
abbrev pub generated_replies : ℕ → List ℕ → List Reply
generated_replies count places =
    replies_at no_rows (generated_txns count) (in_reply_order (generated_script count).reads) places

-- what is counted if the reads are answered at these places
abbrev pub summary_at : ℕ → List ℕ → Summary
summary_at count places =
    summary_of (generated_script count).tables (generated_txns count)
    (rows_of (generated_state count count)) (generated_replies count places)

-- what is printed, with all reads answered after the last transaction; any other lawful
-- places give the same
unfoldable pub generated_summary : ℕ → List ℕ
generated_summary count =
    summary_text (summary_at count (replicate (length (generated_script count).reads) count))
