-- The items of a log in their order, the tests of each, and the first fault of any bytes.
--
-- A log is a list of items. Each is tested once all its bytes have come. What has been read before
-- an item says which item it is, how many bytes it has, and which tests it must pass. The first
-- item that fails one is the fault; if none fails and the end mark isn't complete, the item
-- that is not whole is cut.
use Rattle.std.specs.Prelude.{ℕ, ◌+◌, ◌-◌, ◌&&◌, ◌||◌, ◌==◌, Bool, true, nat_lt, is_some, List, []}
use Rattle.std.specs.Prelude.{◌∷◌, ◌++◌, length, slice_get, Option, Some, None, Result, Ok, Err}
use Rattle.std.specs.Prelude.{if◌then◌else◌}
use Rattle.std.specs.Str.{bytes_eq}
use Rattle.std.specs.Ordering.{is_gt}
use Rattle.c5_rows.specs.Bytes.{checked_bytes, is_name_byte}
use Rattle.c5_rows.specs.Tables.{table_number}
use Rattle.c5_rows.specs.Order.{row_name_cmp}
use Rattle.c5_rows.specs.declared.cells.CellType.{CellType}
use Rattle.c5_rows.specs.declared.cells.CellType.TheVariants as types
use Rattle.c5_rows.specs.declared.tables.TableDef.{TableDef}
use Rattle.c5_rows.specs.declared.writes.RowName.{RowName}
use Rattle.c5_rows.specs.declared.writes.Write.{Write}
use Rattle.c5_rows.specs.declared.writes.Txn.{Txn}
use Rattle.c5_rows.specs.Sizes.{max_tables, max_columns, max_name_bytes, min_payload_bytes}
use Rattle.c5_rows.specs.Sizes.{max_payload_bytes}
use Rattle.c5_definitions.specs.declared.fault.LogKind.{LogKind}
use Rattle.c5_definitions.specs.declared.fault.LogKind.TheVariants as kinds
use Rattle.c5_definitions.specs.declared.fault.LogFault.{LogFault}
use Rattle.c5_definitions.specs.Spelling.{magic}
use Rattle.c5_definitions.specs.Numbers.{number_32}
use Rattle.c5_definitions.specs.Steps.{◌>>=◌, or_cause}
use Rattle.c5_definitions.specs.Frames.{Mark, Frame, write, mark, end, frame_at}

-- an item, with what the ones before it say of it: how many tables are still to come, the name of
-- the table whose columns come, how many bytes it has
pub data Item : Type 0 where
  the_magic : Item
  table_count : Item
  name_length : (missing : ℕ) → Item
  table_name : (missing size : ℕ) → Item
  column_count : (missing : ℕ) (name : List ℕ) → Item
  column_types : (missing : ℕ) (name : List ℕ) (size : ℕ) → Item
  frame_length : Item
  frame_payload : (size : ℕ) → Item
  nothing_more : Item

-- how many bytes an item has; after the end mark the first byte is one too many
abbrev pub size_of : Item → ℕ
size_of the_magic = 4
size_of table_count = 1
size_of (name_length missing) = 1
size_of (table_name missing size) = size
size_of (column_count missing name) = 1
size_of (column_types missing name size) = size
size_of frame_length = 4
size_of (frame_payload size) = size
size_of nothing_more = 1

-- what has been read: the tables, the transactions, the writes since the last commit mark, its
-- stamp or 0, and the item that comes next
pub record LogSoFar : Type 0 where
  pub tables : List TableDef
  pub txns : List Txn
  pub writes : List Write
  pub stamp : ℕ
  pub next : Item

-- ---- the tests of an item

-- a number of one byte, in its range
unfoldable pub header_count : ℕ → ℕ → List ℕ → Result ℕ LogKind
header_count low high [] = Err kinds.Header
header_count low high (n ∷ rest) = if nat_lt n low || nat_lt high n then Err kinds.Header else Ok n

-- the name of a table, which no earlier table has
unfoldable pub new_table_name : List TableDef → List ℕ → Result (List ℕ) LogKind
new_table_name tables bytes = or_cause kinds.Header
    (checked_bytes 1 max_name_bytes is_name_byte bytes)
    >>= λ name. if is_some (table_number name tables) then Err kinds.Header else Ok name

-- the type that a byte encodes
unfoldable pub type_of_byte : ℕ → Result CellType LogKind
type_of_byte byte = if byte == 1 then Ok types.Int
    else (if byte == 2 then Ok types.Text else Err kinds.Header)

-- the types that bytes encode
unfoldable pub types_of_bytes : List ℕ → Result (List CellType) LogKind
types_of_bytes [] = Ok []
types_of_bytes (byte ∷ bytes) = do
  first ← type_of_byte byte
  others ← types_of_bytes bytes
  Ok (first ∷ others)

-- the last of the writes
abbrev pub last_of : List Write → Option Write
last_of writes = slice_get writes (length writes - 1)

-- the name is above that of the last write, if there is one
abbrev pub is_above : RowName → Option Write → Bool
is_above name None = true
is_above name (Some last) = is_gt (row_name_cmp name last.name)

-- ---- what has been read after an item

-- the same, and another item comes next
abbrev pub expecting : LogSoFar → Item → LogSoFar
expecting s item =
    record { tables = s.tables; txns = s.txns; writes = s.writes; stamp = s.stamp; next = item }

-- one more table, and then the next one or the first frame
abbrev pub with_table : LogSoFar → ℕ → TableDef → LogSoFar
with_table s missing table =
    record {
      tables = s.tables ++ table ∷ [];
      txns = s.txns;
      writes = s.writes;
      stamp = s.stamp;
      next = if missing == 1 then frame_length else name_length (missing - 1);
    }

-- a write, whose name is above that of the last one since the commit mark
unfoldable pub after_write : LogSoFar → Write → Result LogSoFar LogKind
after_write s new = if is_above new.name (last_of s.writes)
    then Ok (record {
      tables = s.tables;
      txns = s.txns;
      writes = s.writes ++ new ∷ [];
      stamp = s.stamp;
      next = frame_length;
    }) else Err kinds.Order

-- a commit mark, whose stamp is above the last one, with the number of the writes
unfoldable pub after_mark : LogSoFar → Mark → Result LogSoFar LogKind
after_mark s new =
    if nat_lt s.stamp new.stamp
    then (if length s.writes == new.count
    then Ok (record {
      tables = s.tables;
      txns = s.txns
          ++ record { script = new.script; stamp = new.stamp; writes = s.writes } ∷ [];
      writes =
          [];
      stamp = new.stamp;
      next = frame_length;
    })
    else Err kinds.Count)
    else Err kinds.Stamp

-- the end mark, with no write since the last commit mark and the number of the transactions
unfoldable pub after_end : LogSoFar → ℕ → Result LogSoFar LogKind
after_end s count = if length s.writes == 0 && (length s.txns == count)
    then Ok (expecting s nothing_more) else Err kinds.End

unfoldable pub after_frame : LogSoFar → Frame → Result LogSoFar LogKind
after_frame s (write new) = after_write s new
after_frame s (mark new) = after_mark s new
after_frame s (end count) = after_end s count

-- an item of these bytes
unfoldable pub after_item : Item → LogSoFar → List ℕ → Result LogSoFar LogKind
after_item the_magic s bytes = if bytes_eq bytes magic then Ok (expecting s table_count)
    else Err kinds.Magic
after_item table_count s bytes = header_count 1 max_tables bytes
    >>= λ n. Ok (expecting s (name_length n))
after_item (name_length missing) s bytes =
    header_count 1 max_name_bytes bytes >>= λ n. Ok (expecting s (table_name missing n))
after_item (table_name missing size) s bytes =
    new_table_name s.tables bytes >>= λ name. Ok (expecting s (column_count missing name))
after_item (column_count missing name) s bytes =
    header_count 1 max_columns bytes >>= λ n. Ok (expecting s (column_types missing name n))
after_item (column_types missing name size) s bytes =
    types_of_bytes bytes >>= λ columns. Ok
    (with_table s missing (record { name = name; columns = columns }))
after_item frame_length s bytes = if nat_lt (number_32 bytes) min_payload_bytes
    || nat_lt max_payload_bytes (number_32 bytes) then Err kinds.Length
    else Ok (expecting s (frame_payload (number_32 bytes)))
after_item (frame_payload size) s bytes = frame_at s.tables bytes >>= λ frame. after_frame s frame
after_item nothing_more s bytes = Err kinds.After

-- ---- bytes

-- what has been read, where the next item begins, and those of its bytes that have come
pub record Reading : Type 0 where
  pub so_far : LogSoFar
  pub offset : ℕ
  pub come : List ℕ

-- where the next item begins; a frame begins with its length
abbrev pub begin_of : Item → ℕ → ℕ
begin_of (frame_payload size) offset = offset - 4
begin_of item offset = offset

-- an item that is complete
unfoldable pub after_whole : Reading → List ℕ → Result Reading LogFault
after_whole r bytes = elim (after_item r.so_far.next r.so_far bytes) [
  | Ok s ↦ Ok (record { so_far = s; offset = r.offset + length bytes; come = [] })
  | Err kind ↦ Err (record { offset = begin_of r.so_far.next r.offset; kind = kind })
]

-- one byte
unfoldable pub after_byte : Reading → ℕ → Result Reading LogFault
after_byte r byte = if length r.come + 1 == size_of r.so_far.next
    then after_whole r (r.come ++ byte ∷ [])
    else Ok (record { so_far = r.so_far; offset = r.offset; come = r.come ++ byte ∷ [] })

-- one byte after the other
unfoldable pub after_bytes : Reading → List ℕ → Result Reading LogFault
after_bytes r [] = Ok r
after_bytes r (byte ∷ bytes) = after_byte r byte >>= λ next. after_bytes next bytes

-- before the first byte
abbrev pub at_start : Reading
at_start =
    record {
      so_far = record { tables = []; txns = []; writes = []; stamp = 0; next = the_magic };
      offset = 0;
      come = [];
    }

-- the tables and the transactions of a log
pub record LogParts : Type 0 where
  pub tables : List TableDef
  pub txns : List Txn

-- at the end of the input the end mark is complete
unfoldable pub whole_from : Item → Reading → Result LogParts LogFault
whole_from nothing_more r = Ok (record { tables = r.so_far.tables; txns = r.so_far.txns })
whole_from item r = Err (record { offset = begin_of item r.offset; kind = kinds.Cut })

unfoldable pub whole : Reading → Result LogParts LogFault
whole r = whole_from r.so_far.next r

-- the tables and the transactions that bytes are the log of, or their first fault
unfoldable pub log_of : List ℕ → Result LogParts LogFault
log_of bytes = after_bytes at_start bytes >>= whole

-- the first fault of bytes, if they have one
unfoldable pub log_fault_of : List ℕ → Option LogFault
log_fault_of bytes = elim (log_of bytes) [ Ok log ↦ None | Err fault ↦ Some fault ]
