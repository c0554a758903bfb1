-- What holds of every generated script and of its summary.
use Rattle.std.specs.Prelude.{◌≡◌, ◌≤◌, ◌+◌, ◌-◌, ◌*◌, ℕ, pos, List, length, None}
use Rattle.std.specs.List.{AllByRecursion}
use Rattle.c5_rows.specs.State.{rows_of}
use Rattle.c5_rows.specs.declared.answer.AnswerLine.{AnswerLine}
use Rattle.c5_rows.specs.declared.answer.AnswerLine.TheVariants.{Found, Absent, Sum}
use Rattle.c5_rows.specs.declared.answer.Reply.{Reply}
use Rattle.c5_definitions.specs.FitsScript.{IsScript}
use Rattle.c5_definitions.specs.Generated.{account_count, generated_script}
use Rattle.c5_definitions.specs.Limits.{excess_of}
use Rattle.c5_definitions.specs.Replies.{in_reply_order, AreLawfulPlaces}
use Rattle.c5_definitions.specs.Summaries.{Summary, all_money, rows_total, summary_text}
use Rattle.c5_definitions.specs.Summaries.{generated_state, generated_replies, summary_at}
use Rattle.c5_definitions.specs.Summaries.{generated_summary}

-- a script, within the limits
pub record IsWithinLimits (count : ℕ) : Type 0 where
  pub script : IsScript (generated_script count)
  pub limits : excess_of (generated_script count) ≡ None

-- the rows add to nothing before the first transaction, and to all money after each
pub record KeepsMoney (count : ℕ) : Type 0 where
  pub before : rows_total (rows_of (generated_state count 0)) ≡ pos 0
  pub after : (p : ℕ) → 1 ≤ p → rows_total (rows_of (generated_state count p)) ≡ pos all_money

-- ---- the summary

-- bytes of the header, of a write, of a commit mark and of the end mark of a generated log
abbrev pub header_bytes : ℕ
header_bytes = 12

abbrev pub write_bytes : ℕ
write_bytes = 19

abbrev pub mark_bytes : ℕ
mark_bytes = 21

abbrev pub end_bytes : ℕ
end_bytes = 9

-- how many reads there are
abbrev pub read_count : ℕ
read_count = 16

-- 64 puts, and then two writes for each transfer that isn't declined; the rows add to all money,
-- and each reply is whole
pub record IsSummary (count : ℕ) (s : Summary) : Type 0 where
  pub transactions : s.transactions ≡ count
  pub writes : s.writes + 2 * s.declined ≡ account_count + 2 * (count - 1)
  pub bytes : s.bytes
      ≡ header_bytes + (write_bytes * s.writes + mark_bytes * count) + end_bytes
  pub rows : s.rows ≡ account_count
  pub total : s.total ≡ pos all_money
  pub reads : s.reads ≡ record { replied = read_count; whole = read_count }

-- a sum of at most all money
abbrev pub IsPart : AnswerLine → Type 0
IsPart (Sum n) = (m : ℕ) × (m ≤ all_money) × (n ≡ pos m)
IsPart (Found name row) = ⊥
IsPart (Absent name) = ⊥

-- four sums, each of at most all money
pub record HasParts (reply : Reply) : Type 0 where
  pub four : length reply.answer ≡ 4
  pub each : AllByRecursion IsPart reply.answer

-- places that the replies to the reads may have
abbrev pub ArePlaces : ℕ → List ℕ → Type 0
ArePlaces count places =
    AreLawfulPlaces (in_reply_order (generated_script count).reads) count places

-- what holds of the summary if the reads are answered at these places: it is printed as that
-- of the count alone
pub record SummaryLaw (count : ℕ) (places : List ℕ) : Type 0 where
  pub counts : IsSummary count (summary_at count places)
  pub replies : AllByRecursion HasParts (generated_replies count places)
  pub text : summary_text (summary_at count places) ≡ generated_summary count
