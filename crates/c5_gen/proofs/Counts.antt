-- What the summary of a count says.
use Rattle.std.proofs.Common.{◌≡◌, ℕ, ◌+◌, ◌*◌, ◌≤◌, pos, List, length, replicate, refl, sym, ap}
use Rattle.std.proofs.Common.{◌∙◌}
use Rattle.std.proofs.lemmas.List.{length-replicate}
use Rattle.c5_definitions.specs.Generated.{generated_tables, generated_script}
use Rattle.c5_definitions.specs.Spelling.{spelled_log}
use Rattle.c5_definitions.specs.Summaries.{ReadCounts, Summary, summary_text}
use Rattle.c5_definitions.specs.Summaries.{generated_txns, generated_state, summary_at}
use Rattle.c5_definitions.specs.Summaries.{generated_summary}
use Rattle.c5_gen.proofs.Balances.{shows-total, shows-count}
use Rattle.c5_gen.proofs.LogBytes.{log-length}
use Rattle.c5_gen.proofs.MoneyRuns.{RunsAll, generated-runs}
use Rattle.c5_gen.proofs.FourSums.{reads-in-order, reads-whole, reads-parts}
use Rattle.c5_gen.proofs.Transfers.{Holds}
use Rattle.c5_gen.specs.Laws.{IsSummary, ArePlaces, SummaryLaw, read_count}

tables-are : (count : ℕ) → (generated_script count).tables ≡ generated_tables
unfolding generated_script
tables-are count = refl

pub bytes-are : (count : ℕ) (places : List ℕ) → 1 ≤ count
    → (summary_at count places).bytes
    ≡ 12 + (19 * (summary_at count places).writes + 21 * length (generated_txns count)) + 9
bytes-are count places some =
    ap (λ tables. length (spelled_log tables (generated_txns count))) (tables-are count)
    ∙ log-length (generated_txns count) (generated-runs count some).puts

pub is-summary : (count : ℕ) (places : List ℕ) → 1 ≤ count → length places ≡ read_count
    → IsSummary count (summary_at count places)
is-summary count places some all =
    let runs : RunsAll count (generated_txns count) = generated-runs count some in
    let end : (bs : List ℕ) × Holds (generated_state count count) bs = runs.holds count some in
    record {
      transactions = runs.count_is;
      writes = runs.moves;
      bytes = bytes-are count places some
          ∙ ap (λ n. 12 + (19 * (summary_at count places).writes + 21 * n) + 9) runs.count_is;
      rows = shows-count (generated_state count count) end.0 end.1.shows ∙ end.1.accounts;
      total = shows-total (generated_state count count) end.0 end.1.shows ∙ ap pos end.1.money;
      reads = reads-whole count places some all;
    }

-- the summary that differs at most in its reads
abbrev with_reads : ℕ → List ℕ → ReadCounts → Summary
with_reads count places reads = record (summary_at count places) { reads = reads }

reads-length : (count : ℕ) → length (generated_script count).reads ≡ read_count
unfolding generated_script
reads-length count = refl

at-end : (count : ℕ) → length (replicate (length (generated_script count).reads) count) ≡ read_count
at-end count = length-replicate (length (generated_script count).reads) count ∙ reads-length count

same-text : (count : ℕ) (places : List ℕ) → 1 ≤ count → length places ≡ read_count
    → summary_text (summary_at count places) ≡ generated_summary count
unfolding generated_summary
same-text count places some all =
    ap (λ reads. summary_text (with_reads count places reads))
    (reads-whole count places some all
    ∙ sym (reads-whole count (replicate (length (generated_script count).reads) count) some
    (at-end count)))

pub summary-law : (count : ℕ) (places : List ℕ) → 1 ≤ count → ArePlaces count places
    → SummaryLaw count places
summary-law count places some are =
    let all : length places ≡ read_count = are.one_each ∙ reads-in-order count in
    record {
      counts = is-summary count places some all;
      replies = reads-parts count places some all;
      text = same-text count places some all;
    }
