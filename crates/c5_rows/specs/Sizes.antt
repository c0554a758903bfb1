-- The limits of the formats: every number that a clause or a definition names.
use Rattle.std.specs.Prelude.{ℕ}

-- ---- tables and rows

-- tables of a schema: a table's number is one byte of a log, and a schema fits in 2 KB
abbrev pub max_tables : ℕ
max_tables = 16

-- columns of a table, and cells of a row: a row fits in 320 bytes
abbrev pub max_columns : ℕ
max_columns = 8

-- bytes of a key, of a text, and of a table's name: they are held without an allocation
abbrev pub max_key_bytes : ℕ
max_key_bytes = 32

abbrev pub max_text_bytes : ℕ
max_text_bytes = 32

abbrev pub max_name_bytes : ℕ
max_name_bytes = 16

-- ---- logs

-- bytes of a frame's payload: an end mark has the fewest, and a put of 8 texts of 32 bytes has 300
abbrev pub min_payload_bytes : ℕ
min_payload_bytes = 5

abbrev pub max_payload_bytes : ℕ
max_payload_bytes = 300

-- bytes of a log, 84 MiB: more than a serial run of any script within its limits can have
abbrev pub max_log_bytes : ℕ
max_log_bytes = 88080384

-- ---- scripts

-- bytes of a script, 4 MiB
abbrev pub max_script_bytes : ℕ
max_script_bytes = 4194304

-- transactions, statements that write, and different rows that they write
abbrev pub max_transactions : ℕ
max_transactions = 65536

abbrev pub max_writes : ℕ
max_writes = 262144

abbrev pub max_rows : ℕ
max_rows = 65536

-- statements of one transaction
abbrev pub max_statements : ℕ
max_statements = 256

-- read blocks, lines of one, and keys of a sum
abbrev pub max_reads : ℕ
max_reads = 256

abbrev pub max_read_lines : ℕ
max_read_lines = 16

abbrev pub max_sum_keys : ℕ
max_sum_keys = 16

-- words of all schedules together
abbrev pub max_turn_words : ℕ
max_turn_words = 65536

-- workers and sessions, which are numbered from 1
abbrev pub max_workers : ℕ
max_workers = 16

abbrev pub max_sessions : ℕ
max_sessions = 16

-- ---- threads

-- threads that run a script
abbrev pub max_threads : ℕ
max_threads = 16

-- buckets of the index of a log's rows: the least power of two that is at least twice the writes
abbrev pub max_buckets : ℕ
max_buckets = 524288

-- numbers that a worker puts off: its list is reserved at once
abbrev pub max_put_off : ℕ
max_put_off = 64

-- passes of a turn slot
abbrev pub max_passes : ℕ
max_passes = 64
