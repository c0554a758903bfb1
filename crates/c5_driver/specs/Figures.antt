-- The counts of a run as a summary.
use Rattle.std.specs.Prelude.{◌*◌, ℕ}
use Rattle.c5_rows.specs.Sizes.{max_columns}
use Rattle.c5_definitions.specs.Summaries.{Summary}
use Rattle.c5_driver.specs.declared.figures.Figures.{Figures}

-- the summary that these numbers are
abbrev pub summary_in : Figures → Summary
summary_in figures =
    record {
      transactions = figures.transactions;
      declined = figures.declined;
      writes = figures.writes;
      bytes = figures.bytes;
      rows = figures.rows;
      total = figures.total;
      reads = record { replied = figures.replied; whole = figures.whole };
    }

-- the cells of a row add at most to so much, and their negative at most to as much
abbrev pub max_row_total : ℕ
max_row_total = max_columns * 9223372036854775808
