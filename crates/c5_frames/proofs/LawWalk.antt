-- A spelled header is read item by item.
use Rattle.std.proofs.Common.{◌≡◌, ◌∙◌, ℕ, ◌+◌, ◌-◌, ◌<◌, ◌≤◌, false, cond, eqb, List, [], ◌∷◌}
use Rattle.std.proofs.Common.{◌++◌, length, map, None, Result, Ok, refl, sym, ap, subst}
use Rattle.std.proofs.Common.{append_assoc, arith}
use Rattle.std.specs.List.{flat_map, AllByRecursion}
use Rattle.std.proofs.lemmas.Bool.{le-ltb, ne_eqb}
use Rattle.std.proofs.lemmas.List.{append-nil, length-map}
use Rattle.c5_rows.specs.Bytes.{IsTableName, is_name_byte}
use Rattle.c5_rows.specs.Tables.{table_number, IsSchema}
use Rattle.c5_rows.specs.declared.cells.CellType.{CellType}
use Rattle.c5_rows.specs.declared.cells.CellType.TheVariants as types
use Rattle.c5_rows.specs.declared.tables.TableDef.{TableDef}
use Rattle.c5_definitions.specs.Lawful.{IsLawfulTable}
use Rattle.c5_definitions.specs.Spelling.{magic, spelled_type, spelled_table, spelled_header}
use Rattle.c5_definitions.specs.Steps.{◌>>=◌}
use Rattle.c5_definitions.specs.Items.{Item, the_magic, table_count, name_length, table_name}
use Rattle.c5_definitions.specs.Items.{column_count, column_types, frame_length, size_of, LogSoFar}
use Rattle.c5_definitions.specs.Items.{header_count, new_table_name, type_of_byte, types_of_bytes}
use Rattle.c5_definitions.specs.Items.{with_table, after_item, Reading, after_whole, after_bytes}
use Rattle.c5_frames.proofs.LawBytes.{after_bytes-append, after_bytes-whole}
use Rattle.c5_frames.proofs.LawAgain.{checked-again}
use Rattle.c5_frames.proofs.LawNames.{FreeOf, free, apart-nothing}

-- ---- items

-- before an item, none of whose bytes have come
abbrev pub at_item : LogSoFar → ℕ → Reading
at_item s offset = record { so_far = s; offset = offset; come = [] }

-- wherever the item begins, reading the bytes leads there
abbrev pub Reads : LogSoFar → List ℕ → LogSoFar → Type 0
Reads s bytes last = (offset : ℕ) → (stop : ℕ)
    × (after_bytes (at_item s offset) bytes ≡ Ok (at_item last stop))

pub reads-nothing : (s : LogSoFar) → Reads s [] s
unfolding after_bytes
reads-nothing s offset = (offset, refl)

pub reads-item : (s next last : LogSoFar) (item rest : List ℕ) → 0 < length item
    → length item ≡ size_of s.next → after_item s.next s item ≡ Ok next → Reads next rest last
    → Reads s (item ++ rest) last
unfolding after_whole
reads-item s next last item rest some sized e more offset =
    let r = at_item s offset in
    let whole : after_whole r item ≡ Ok (at_item next (offset + length item)) =
    rw (after_whole, e) refl in
    let to = more (offset + length item) in (
      to.0,
      after_bytes-append r item rest
          ∙ ap (λ (x : Result Reading _). x >>= λ n. after_bytes n rest)
          (after_bytes-whole r item some (omega (arith, sized)) ∙ whole)
          ∙ to.1,
    )

-- ---- the tests of the header

number-again : (low high n : ℕ) → low ≤ n → n ≤ high → header_count low high (n ∷ []) ≡ Ok n
unfolding header_count
number-again low high n le ge = rw (le-ltb _ _ le, le-ltb _ _ ge) refl

name-again : (earlier : List TableDef) (name : List ℕ) → IsTableName name
    → table_number name earlier ≡ None → new_table_name earlier name ≡ Ok name
unfolding new_table_name
name-again earlier name are new = rw (checked-again 1 16 is_name_byte name are, new) refl

type-again : (type : CellType) → type_of_byte (spelled_type type) ≡ Ok type
unfolding type_of_byte
type-again types.Int = refl
type-again types.Text = refl

types-again : (columns : List CellType) → types_of_bytes (map spelled_type columns) ≡ Ok columns
unfolding types_of_bytes
types-again [] = refl
types-again (type ∷ columns) = rw (type-again type, types-again columns) refl

-- ---- tables

-- in the header no transaction has been read
abbrev pub in_header : List TableDef → Item → LogSoFar
in_header tables item = record { tables = tables; txns = []; writes = []; stamp = 0; next = item }

table-read : (earlier : List TableDef) (missing : ℕ) (table : TableDef) (rest : List ℕ)
    (last : LogSoFar) → IsLawfulTable table → table_number table.name earlier ≡ None
    → Reads (with_table (in_header earlier (name_length missing)) missing table) rest last
    → Reads (in_header earlier (name_length missing)) (spelled_table table ++ rest) last
unfolding after_item
table-read earlier missing table rest last lawful new more =
    let name = table.name in
    let columns = table.columns in
    let text = map spelled_type columns in
    let s1 = in_header earlier (name_length missing) in
    let s2 = in_header earlier (table_name missing (length name)) in
    let s3 = in_header earlier (column_count missing name) in
    let s4 = in_header earlier (column_types missing name (length columns)) in
    let s5 = with_table s4 missing table in
    let some = lawful.some in
    let long = lawful.name.no_shorter in
    let len = length-map columns spelled_type in
    let r4 : Reads s4 (text ++ rest) last =
    reads-item s4 s5 last text rest (omega (arith, len, some)) len
    (rw (types-again columns) refl) more in
    let r3 : Reads s3 ((length columns ∷ []) ++ (text ++ rest)) last =
    reads-item s3 s4 last (length columns ∷ []) (text ++ rest) (omega arith) refl
    (rw (number-again 1 8 (length columns) some lawful.few) refl) r4 in
    let r2 : Reads s2 (name ++ ((length columns ∷ []) ++ (text ++ rest))) last =
    reads-item s2 s3 last name ((length columns ∷ []) ++ (text ++ rest))
    (omega (arith, long)) refl (rw (name-again earlier name lawful.name new) refl) r3 in
    let r1 : Reads s1 ((length name ∷ [])
    ++ (name ++ ((length columns ∷ []) ++ (text ++ rest)))) last =
    reads-item s1 s2 last (length name ∷ []) (name ++ ((length columns ∷ []) ++ (text ++ rest)))
    (omega arith) refl
    (rw (number-again 1 16 (length name) long lawful.name.no_longer) refl) r2 in
    let parts : spelled_table table ++ rest
    ≡ length name ∷ (name ++ ((length columns ∷ text) ++ rest)) =
    append_assoc (length name ∷ name) (length columns ∷ text) rest in
    subst (λ (t : List ℕ). Reads s1 t last) (sym parts) r1

tables-read : (earlier : List TableDef) (table : TableDef) (tables : List TableDef) (rest : List ℕ)
    (last : LogSoFar) → AllByRecursion IsLawfulTable (table ∷ tables)
    → FreeOf earlier (table ∷ tables)
    → Reads (in_header (earlier ++ table ∷ tables) frame_length) rest last
    → Reads (in_header earlier (name_length (length (table ∷ tables))))
    (flat_map spelled_table (table ∷ tables) ++ rest) last
tables-read earlier table [] rest last each new more =
    let text : flat_map spelled_table (table ∷ []) ≡ spelled_table table =
    append-nil (spelled_table table) in
    subst (λ (t : List ℕ). Reads (in_header earlier (name_length 1)) (t ++ rest) last) (sym text)
    (table-read earlier 1 table rest last each.0 new.0 more)
tables-read earlier table (second ∷ tables) rest last each new more =
    let missing = length (table ∷ second ∷ tables) in
    let others = flat_map spelled_table (second ∷ tables) in
    let not_last : eqb missing 1 ≡ false = ne_eqb _ _ (λ same. omega (arith, same)) in
    let fewer : missing - 1 ≡ length (second ∷ tables) = omega arith in
    let next : cond (eqb missing 1) frame_length (name_length (missing - 1))
    ≡ name_length (length (second ∷ tables)) = rw (not_last, fewer) refl in
    let all = append_assoc earlier (table ∷ []) (second ∷ tables) in
    let left = tables-read (earlier ++ table ∷ []) second tables rest last each.1 new.1
    (subst (λ (ts : List TableDef). Reads (in_header ts frame_length) rest last) (sym all) more)
    in
    let from =
    subst (λ (item : Item). Reads (in_header (earlier ++ table ∷ []) item)
    (others ++ rest) last) (sym next) left in
    subst (λ (t : List ℕ). Reads (in_header earlier (name_length missing)) t last)
    (sym (append_assoc (spelled_table table) others rest))
    (table-read earlier missing table (others ++ rest) last each.0 new.0 from)

-- ---- the header

tables-some : (tables : List TableDef) (rest : List ℕ) (last : LogSoFar) → 1 ≤ length tables
    → AllByRecursion IsLawfulTable tables → FreeOf [] tables
    → Reads (in_header tables frame_length) rest last
    → Reads (in_header [] (name_length (length tables)))
    (flat_map spelled_table tables ++ rest) last
tables-some [] rest last some each new more = absurd (omega (arith, some))
tables-some (table ∷ tables) rest last some each new more =
    tables-read [] table tables rest last each new more

pub header-read : (tables : List TableDef) (rest : List ℕ) (last : LogSoFar) → IsSchema tables
    → AllByRecursion IsLawfulTable tables → Reads (in_header tables frame_length) rest last
    → Reads (in_header [] the_magic) (spelled_header tables ++ rest) last
unfolding spelled_header after_item
header-read tables rest last schema each more =
    let n = length tables in
    let text = flat_map spelled_table tables in
    let s1 = in_header [] the_magic in
    let s2 = in_header [] table_count in
    let s3 = in_header [] (name_length n) in
    let r3 : Reads s3 (text ++ rest) last =
    tables-some tables rest last schema.some each
    (free [] tables schema.names (apart-nothing tables)) more in
    let r2 : Reads s2 ((n ∷ []) ++ (text ++ rest)) last =
    reads-item s2 s3 last (n ∷ []) (text ++ rest) (omega arith) refl
    (rw (number-again 1 16 n schema.some schema.few) refl) r3 in
    let r1 : Reads s1 (magic ++ ((n ∷ []) ++ (text ++ rest))) last =
    reads-item s1 s2 last magic ((n ∷ []) ++ (text ++ rest)) (omega arith) refl refl r2 in
    let parts : (magic ++ n ∷ text) ++ rest ≡ magic ++ ((n ∷ text) ++ rest) =
    append_assoc magic (n ∷ text) rest in
    subst (λ (t : List ℕ). Reads s1 t last) (sym parts) r1
