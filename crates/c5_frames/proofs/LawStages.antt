-- What comes before each item of a log, and what holds of what has been read.
use Rattle.std.proofs.Common.{◌≡◌, ◌∙◌, ℕ, ◌+◌, ◌≤◌, Bool, true, false, ◌||◌, cond, eqb, ltb, List}
use Rattle.std.proofs.Common.{[], ◌∷◌, ◌++◌, length, map, Option, Some, None, Ok, Err, refl, sym}
use Rattle.std.proofs.Common.{ap, subst, arith}
use Rattle.std.specs.Prelude.{is_some}
use Rattle.std.specs.List.{flat_map, AllByRecursion}
use Rattle.std.proofs.lemmas.Bool.{eqb-true, ltb-false}
use Rattle.std.proofs.lemmas.List.{nil_from_length}
use Rattle.c5_rows.specs.Bytes.{IsTableName, checked_bytes, is_name_byte}
use Rattle.c5_rows.specs.Tables.{table_number, HaveNames}
use Rattle.c5_rows.specs.Writes.{IsAscending}
use Rattle.c5_rows.specs.declared.cells.CellType.{CellType}
use Rattle.c5_rows.specs.declared.cells.CellType.TheVariants as types
use Rattle.c5_rows.specs.declared.tables.TableDef.{TableDef}
use Rattle.c5_definitions.specs.declared.fault.LogKind.{LogKind}
use Rattle.c5_definitions.specs.declared.fault.LogKind.TheVariants as kinds
use Rattle.c5_definitions.specs.Lawful.{IsLawfulTable, IsLawfulWrite, IsLawfulTxn, StampsRise}
use Rattle.c5_definitions.specs.Lawful.{IsLawfulLog}
use Rattle.c5_definitions.specs.Spelling.{magic, spelled_u32, spelled_type, spelled_table}
use Rattle.c5_definitions.specs.Spelling.{spelled_header, spelled_txn, spelled_log}
use Rattle.c5_definitions.specs.Steps.{◌>>=◌, or_cause}
use Rattle.c5_definitions.specs.Items.{Item, the_magic, table_count, name_length, table_name}
use Rattle.c5_definitions.specs.Items.{column_count, column_types, frame_length, frame_payload}
use Rattle.c5_definitions.specs.Items.{nothing_more, size_of, LogSoFar, header_count}
use Rattle.c5_definitions.specs.Items.{new_table_name, type_of_byte, types_of_bytes}
use Rattle.c5_frames.proofs.LawFields.{passed, ok_is, bind_ok, or_cause-ok, checked-ok}
use Rattle.c5_frames.proofs.LawFrames.{spelled_write, last_stamp}

-- ---- the text before an item

-- the header as far as its tables, of which so many are still to come
abbrev pub head_text : List TableDef → ℕ → List ℕ
head_text tables missing = magic ++ (length tables + missing) ∷ flat_map spelled_table tables

-- the header, the transactions, and the writes since the last commit mark
abbrev pub frames_text : LogSoFar → List ℕ
frames_text s = spelled_header s.tables
    ++ (flat_map spelled_txn s.txns ++ flat_map spelled_write s.writes)

abbrev pub text_before : Item → LogSoFar → List ℕ
text_before the_magic s = []
text_before table_count s = magic
text_before (name_length missing) s = head_text s.tables missing
text_before (table_name missing size) s = head_text s.tables missing ++ size ∷ []
text_before (column_count missing name) s = head_text s.tables missing ++ (length name ∷ name)
text_before (column_types missing name size) s =
    (head_text s.tables missing ++ (length name ∷ name)) ++ size ∷ []
text_before frame_length s = frames_text s
text_before (frame_payload size) s = frames_text s ++ spelled_u32 size
text_before nothing_more s = spelled_log s.tables s.txns

-- ---- what holds of what has been read

-- lawful tables of different names
pub record IsHead (tables : List TableDef) : Type 0 where
  pub names : HaveNames tables
  pub each : AllByRecursion IsLawfulTable tables

-- no frame has been read
pub record HasNone (s : LogSoFar) : Type 0 where
  pub txns : s.txns ≡ []
  pub writes : s.writes ≡ []
  pub stamp : s.stamp ≡ 0

-- so many tables are still to come
pub record IsComing (missing : ℕ) (s : LogSoFar) : Type 0 where
  pub some : 1 ≤ missing
  pub few : length s.tables + missing ≤ 16
  pub none : HasNone s

-- lawful transactions and writes
pub record AreFrames (s : LogSoFar) : Type 0 where
  pub some : 1 ≤ length s.tables
  pub few : length s.tables ≤ 16
  pub each_txn : AllByRecursion (IsLawfulTxn s.tables) s.txns
  pub stamps : StampsRise 0 s.txns
  pub stamp : s.stamp ≡ last_stamp 0 s.txns
  pub ascending : IsAscending s.writes
  pub each_write : AllByRecursion (IsLawfulWrite s.tables) s.writes

-- a new name
pub record IsNew (name : List ℕ) (tables : List TableDef) : Type 0 where
  pub lawful : IsTableName name
  pub new : table_number name tables ≡ None

abbrev pub Stage : Item → LogSoFar → Type 0
Stage the_magic s = (s.tables ≡ []) × HasNone s
Stage table_count s = (s.tables ≡ []) × HasNone s
Stage (name_length missing) s = IsComing missing s
Stage (table_name missing size) s = IsComing missing s × (1 ≤ size)
Stage (column_count missing name) s = IsComing missing s × IsNew name s.tables
Stage (column_types missing name size) s = IsComing missing s × IsNew name s.tables × (1 ≤ size)
    × (size ≤ 8)
Stage frame_length s = AreFrames s
Stage (frame_payload size) s = AreFrames s × (1 ≤ size)
Stage nothing_more s = IsLawfulLog s.tables s.txns

-- an item has bytes
pub size-some : (item : Item) (s : LogSoFar) → Stage item s → 1 ≤ size_of item
size-some the_magic s stage = omega arith
size-some table_count s stage = omega arith
size-some (name_length missing) s stage = omega arith
size-some (table_name missing size) s stage = stage.1
size-some (column_count missing name) s stage = omega arith
size-some (column_types missing name size) s stage = stage.2
size-some frame_length s stage = omega arith
size-some (frame_payload size) s stage = stage.1
size-some nothing_more s stage = omega arith

-- an item more has been read
pub record IsNext (before item : List ℕ) (next : LogSoFar) : Type 0 where
  pub head : IsHead next.tables
  pub stage : Stage next.next next
  pub text : text_before next.next next ≡ before ++ item

-- ---- the tests of the header

pub neither : (a b : Bool) → (a || b) ≡ false → (a ≡ false) × (b ≡ false)
neither true b e = absurd cc
neither false b e = (refl, e)

-- a number of one byte, between its limits
pub record IsCount (low high : ℕ) (bytes : List ℕ) (n : ℕ) : Type 0 where
  pub text : bytes ≡ n ∷ []
  pub no_less : low ≤ n
  pub no_more : n ≤ high

pub number_takes : (low high : ℕ) (bytes : List ℕ) (n : ℕ) → length bytes ≡ 1
    → header_count low high bytes ≡ Ok n → IsCount low high bytes n
unfolding header_count
number_takes low high [] n len e = absurd cc
number_takes low high (byte ∷ rest) n len e =
    let a = passed (ltb byte low || ltb high byte) kinds.Header (Ok byte) n e in
    let b = neither (ltb byte low) (ltb high byte) a.0 in
    let nothing : rest ≡ [] = nil_from_length rest (omega (arith, len)) in
    subst (λ (m : ℕ). IsCount low high (byte ∷ rest) m) (ok_is {E = LogKind} byte n a.1)
    (record {
      text = ap (λ (r : List ℕ). byte ∷ r) nothing;
      no_less = ltb-false _ _ b.0;
      no_more = ltb-false _ _ b.1;
    })

free_name : (taken : Option ℕ) (name x : List ℕ)
    → cond (is_some taken) (Err kinds.Header) (Ok name) ≡ Ok x → (taken ≡ None) × (name ≡ x)
free_name (Some n) name x e = absurd cc
free_name None name x e = (refl, ok_is {E = LogKind} name x e)

pub name_takes : (tables : List TableDef) (bytes name : List ℕ)
    → new_table_name tables bytes ≡ Ok name → (bytes ≡ name) × IsNew name tables
unfolding new_table_name
name_takes tables bytes name e =
    let a = bind_ok (or_cause kinds.Header (checked_bytes 1 16 is_name_byte bytes))
    (λ name. cond (is_some (table_number name tables)) (Err kinds.Header) (Ok name)) name e in
    let c = checked-ok 1 16 is_name_byte bytes a.0
    (or_cause-ok kinds.Header (checked_bytes 1 16 is_name_byte bytes) a.0 a.1) in
    let f = free_name (table_number a.0 tables) a.0 name a.2 in
    subst (λ (n : List ℕ). (bytes ≡ n) × IsNew n tables) f.1
    (sym c.0, record { lawful = c.1; new = f.0 })

type_spelled : (byte : ℕ) (type : CellType) → type_of_byte byte ≡ Ok type → byte ≡ spelled_type type
unfolding type_of_byte
type_spelled byte type e =
    by_tests (eqb byte 1) (eqb byte 2) byte type (eqb-true byte 1) (eqb-true byte 2) e
  where
    by_tests : (a b : Bool) (byte : ℕ) (type : CellType) → (a ≡ true → byte ≡ 1)
        → (b ≡ true → byte ≡ 2) → cond a (Ok types.Int) (cond b (Ok types.Text) (Err kinds.Header))
        ≡ Ok type → byte ≡ spelled_type type
    by_tests true b byte type one two e =
        one refl ∙ ap spelled_type (ok_is {E = LogKind} types.Int type e)
    by_tests false true byte type one two e =
        two refl ∙ ap spelled_type (ok_is {E = LogKind} types.Text type e)
    by_tests false false byte type one two e = absurd cc

pub types_spelled : (bytes : List ℕ) (columns : List CellType) → types_of_bytes bytes ≡ Ok columns
    → bytes ≡ map spelled_type columns
unfolding types_of_bytes
types_spelled [] columns e = ap (map spelled_type) (ok_is {E = LogKind} [] columns e)
types_spelled (byte ∷ bytes) columns e =
    let a = bind_ok (type_of_byte byte)
    (λ first. types_of_bytes bytes >>= λ others. Ok (first ∷ others)) columns e in
    let b = bind_ok (types_of_bytes bytes) (λ others. Ok (a.0 ∷ others)) columns a.2 in
    ap (λ (c : ℕ). c ∷ bytes) (type_spelled byte a.0 a.1) ∙ ap
    (λ (r : List ℕ). spelled_type a.0 ∷ r) (types_spelled bytes b.0 b.1) ∙ ap (map spelled_type)
    (ok_is {E = LogKind} (a.0 ∷ b.0) columns b.2)
