-- How a log is spelled: a header, then frames, then nothing.
use Rattle.std.specs.Prelude.{ℕ, List, [], ◌∷◌, ◌++◌, length, map}
use Rattle.std.specs.List.{flat_map}
use Rattle.std.specs.Int.{w32, w64, to_be_bytes, cast_unsigned}
use Rattle.c5_rows.specs.declared.cells.CellType.{CellType}
use Rattle.c5_rows.specs.declared.cells.CellType.TheVariants as types
use Rattle.c5_rows.specs.declared.cells.Cell.{Cell}
use Rattle.c5_rows.specs.declared.cells.Cell.TheVariants.{Int, Txt}
use Rattle.c5_rows.specs.declared.tables.TableDef.{TableDef}
use Rattle.c5_rows.specs.declared.writes.Change.{Change}
use Rattle.c5_rows.specs.declared.writes.Change.TheVariants.{Put, Gone}
use Rattle.c5_rows.specs.declared.writes.Write.{Write}
use Rattle.c5_rows.specs.declared.writes.Txn.{Txn}

-- the bytes `C5L1`, with which each log begins
abbrev pub magic : List ℕ
magic = 67 ∷ 53 ∷ 76 ∷ 49 ∷ []

-- a number below 2^32 or 2^64, the highest byte first
unfoldable pub spelled_u32 : ℕ → List ℕ
spelled_u32 n = to_be_bytes w32 n

unfoldable pub spelled_u64 : ℕ → List ℕ
spelled_u64 n = to_be_bytes w64 n

-- the byte of a column's type
abbrev pub spelled_type : CellType → ℕ
spelled_type types.Int = 1
spelled_type types.Text = 2

-- the length of the name, the name, the number of columns, their types
abbrev pub spelled_table : TableDef → List ℕ
spelled_table table = length table.name ∷ table.name
    ++ length table.columns ∷ map spelled_type table.columns

-- the magic, the number of tables, the tables
unfoldable pub spelled_header : List TableDef → List ℕ
spelled_header tables = magic ++ length tables ∷ flat_map spelled_table tables

-- 8 bytes of two's complement; or the length of a text and the text
unfoldable pub spelled_cell : Cell → List ℕ
spelled_cell (Int n) = spelled_u64 (cast_unsigned w64 n)
spelled_cell (Txt bytes) = length bytes ∷ bytes

-- 0 and the cells; or 1
unfoldable pub spelled_change : Change → List ℕ
spelled_change (Put row) = 0 ∷ flat_map spelled_cell row
spelled_change Gone = 1 ∷ []

-- `W`, the table, the length of the key, the key, the change
unfoldable pub write_payload : Write → List ℕ
write_payload write = 87 ∷ write.name.table ∷ length write.name.key ∷ write.name.key
    ++ spelled_change write.change

-- `C`, the script number, the stamp, the number of writes
unfoldable pub mark_payload : Txn → List ℕ
mark_payload txn = 67 ∷ spelled_u32 txn.script ++ spelled_u64 txn.stamp
    ++ spelled_u32 (length txn.writes)

-- `E`, the number of transactions
unfoldable pub end_payload : ℕ → List ℕ
end_payload count = 69 ∷ spelled_u32 count

-- the length of a payload, and the payload
unfoldable pub spelled_frame : List ℕ → List ℕ
spelled_frame payload = spelled_u32 (length payload) ++ payload

-- a frame for each write, and one for the commit mark
unfoldable pub spelled_txn : Txn → List ℕ
spelled_txn txn = flat_map (λ write. spelled_frame (write_payload write)) txn.writes
    ++ spelled_frame (mark_payload txn)

-- the header, the transactions, and a frame for the end mark
unfoldable pub spelled_log : List TableDef → List Txn → List ℕ
spelled_log tables txns = spelled_header tables ++ flat_map spelled_txn txns
    ++ spelled_frame (end_payload (length txns))
