-- Where each word of a board is: heads, records, progress, the scheduled word, the visible word,
-- buckets.
use Rattle.std.specs.Prelude.{ℕ, ◌+◌, ◌-◌, ◌*◌, length}
use Rattle.c5_definitions.specs.WriteNumbers.{names_in}
use Rattle.c5_definitions.specs.RowIndex.{bucket_count}
use Rattle.c5_frames.specs.Log.{Log}
use Rattle.c5_board.specs.declared.known.Record.{Record}

-- the number of writes of a log
abbrev pub writes_in : Log → ℕ
writes_in log = length (names_in log.txns)

-- the number of its buckets
abbrev pub buckets_in : Log → ℕ
buckets_in log = bucket_count (writes_in log)

abbrev pub head_word : ℕ → ℕ
head_word w = w - 1

abbrev pub record_word : Log → ℕ → ℕ
record_word log w = writes_in log + (w - 1)

abbrev pub progress_word : Log → ℕ → ℕ
progress_word log i = writes_in log + writes_in log + (i - 1)

abbrev pub scheduled_word : Log → ℕ → ℕ
scheduled_word log workers = writes_in log + writes_in log + workers

abbrev pub visible_word : Log → ℕ → ℕ
visible_word log workers = writes_in log + writes_in log + workers + 1

abbrev pub bucket_word : Log → ℕ → ℕ → ℕ
bucket_word log workers j = writes_in log + writes_in log + workers + 2 + j

-- the number of words
abbrev pub word_count : Log → ℕ → ℕ
word_count log workers = writes_in log + writes_in log + workers + 2 + buckets_in log

-- a predecessor has 20 bits of a record's word
abbrev pub predecessors : ℕ
predecessors = 1048576

-- a record as one number: the predecessor, the row above it, and one more, so that it isn't 0
abbrev pub packed : Record → ℕ
packed link = link.row * predecessors + link.predecessor + 1
