-- How far a log has been read: what its decoder knows, and what that means.
use Rattle.std.specs.Prelude.{◌≡◌, ◌<◌, ◌≤◌, ◌+◌, ◌-◌, ◌*◌, ℕ, List, [], length, drop, Option, Some}
use Rattle.std.specs.Prelude.{None, Result, Ok, Err}
use Rattle.c5_rows.specs.Sizes.{max_log_bytes, min_payload_bytes, max_payload_bytes, max_tables}
use Rattle.c5_rows.specs.Sizes.{max_columns}
use Rattle.c5_rows.specs.Tables.{table_number}
use Rattle.c5_rows.specs.declared.tables.TableDef.{TableDef}
use Rattle.c5_rows.specs.declared.writes.Write.{Write}
use Rattle.c5_rows.specs.declared.writes.Txn.{Txn}
use Rattle.c5_definitions.specs.declared.fault.LogKind.{LogKind}
use Rattle.c5_definitions.specs.declared.fault.LogFault.{LogFault}
use Rattle.c5_definitions.specs.Items.{Item, the_magic, table_count, name_length, table_name}
use Rattle.c5_definitions.specs.Items.{column_count, column_types, frame_length, frame_payload}
use Rattle.c5_definitions.specs.Items.{nothing_more, size_of, begin_of, LogSoFar, Reading}
use Rattle.c5_definitions.specs.Items.{after_item, after_bytes, at_start}
use Rattle.c5_definitions.specs.Steps.{◌>>=◌}
use Rattle.c5_frames.specs.declared.decoder_state.DecoderState.{DecoderState}
use Rattle.c5_frames.specs.Stages.{item_of}
use Rattle.c5_frames.specs.Index.{Found, found_in, IsIndex, HasRoom}

-- the tables that have come
abbrev pub tables_of : Option (List TableDef) → List TableDef
tables_of None = []
tables_of (Some tables) = tables

-- the tables, the item that comes next, where it begins, and what has been found of the frames
pub record DecodedState : Type 0 where
  pub tables : List TableDef
  pub next : Item
  pub at : ℕ
  pub found : Found

abbrev pub decoded_state : DecoderState → DecodedState
decoded_state p =
    record {
      tables = tables_of p.schema;
      next = item_of p.stage;
      at = p.at;
      found = found_in p.index;
    }

-- what has been read, with these transactions, and these writes after them
abbrev pub so_far_of : DecodedState → List Txn → List Write → LogSoFar
so_far_of s txns writes =
    record { tables = s.tables; txns = txns; writes = writes; stamp = s.found.stamp; next = s.next }

-- the same before the first byte of the next item
abbrev pub reading_of : DecodedState → List Txn → List Write → Reading
reading_of s txns writes = record { so_far = so_far_of s txns writes; offset = s.at; come = [] }

-- the tables that have come, of which so many are missing
pub record AreComing (tables : List TableDef) (missing : ℕ) : Type 0 where
  pub some : 1 ≤ missing
  pub few : length tables + missing ≤ max_tables

-- what the items before one say of it
unfoldable pub IsDue : Item → List TableDef → Type 0
IsDue the_magic tables = tables ≡ []
IsDue table_count tables = tables ≡ []
IsDue (name_length missing) tables = AreComing tables missing
IsDue (table_name missing size) tables = AreComing tables missing × (1 ≤ size)
IsDue (column_count missing name) tables = AreComing tables missing
    × (table_number name tables ≡ None)
IsDue (column_types missing name size) tables = AreComing tables missing
    × (table_number name tables ≡ None) × (1 ≤ size) × (size ≤ max_columns)
IsDue frame_length tables = 1 ≤ length tables
IsDue (frame_payload size) tables = (1 ≤ length tables) × (min_payload_bytes ≤ size)
    × (size ≤ max_payload_bytes)
IsDue nothing_more tables = 1 ≤ length tables

-- what has been found before an item: nothing before the first frame; after the end mark no write
-- is open
unfoldable pub IsFoundBefore : Item → Found → Type 0
IsFoundBefore frame_length f = Unit {0}
IsFoundBefore (frame_payload size) f = Unit {0}
IsFoundBefore nothing_more f = f.closed ≡ length f.places
IsFoundBefore item f = f.places ≡ []

-- reading the bytes comes to this state, and goes on from it
pub record Tracks (bytes : List ℕ) (s : DecodedState) : Type 0 where
  pub txns : List Txn
  pub writes : List Write
  pub reads : after_bytes at_start bytes ≡ after_bytes (reading_of s txns writes) (drop s.at bytes)
  pub index : IsIndex bytes s.tables s.found txns writes
  pub due : IsDue s.next s.tables
  pub empty : IsFoundBefore s.next s.found
  pub within : s.at ≤ length bytes
  pub few_places : 5 * length s.found.places ≤ s.at
  pub few_txns : 5 * length s.found.txns ≤ s.at

-- this state has been reached, and there is room for what the bytes after it can bring
pub record IsReady (bytes : List ℕ) (p : DecoderState) : Type 0 where
  pub tracks : Tracks bytes (decoded_state p)
  pub room : HasRoom (length bytes - p.at) p.index
  pub small : length bytes ≤ max_log_bytes

-- the item that comes next is faulty
abbrev pub Faults : List ℕ → DecodedState → LogKind → Type 0
Faults bytes s kind = after_bytes at_start bytes
    ≡ Err (record { offset = begin_of s.next s.at; kind = kind })

-- the next item is there whole
abbrev pub HasWhole : List ℕ → DecodedState → Type 0
HasWhole bytes s = s.at + size_of s.next ≤ length bytes

-- what an item that isn't a payload leaves of the tables, and the item after it
abbrev pub tables_after : Item → List TableDef → List ℕ → Result (List TableDef × Item) LogKind
tables_after item tables bytes =
    after_item item
    (record { tables = tables; txns = []; writes = []; stamp = 0; next = item }) bytes
    >>= λ s. Ok (s.tables, s.next)

-- the item isn't a payload
abbrev pub IsPlain : Item → Type 0
IsPlain (frame_payload size) = ⊥
IsPlain item = Unit {0}

-- what the bytes that were taken lead to: a fault, or a state with less than an item after it
abbrev pub ComesTo : List ℕ → DecoderState → Option LogFault → Type 0
ComesTo bytes p None = Tracks bytes (decoded_state p)
    × (length bytes < p.at + size_of (item_of p.stage))
ComesTo bytes p (Some fault) = after_bytes at_start bytes ≡ Err fault

pub record Decodes (bytes : List ℕ) (p : DecoderState) (fault : Option LogFault) : Type 0 where
  pub small : length bytes ≤ max_log_bytes
  pub come : ComesTo bytes p fault
