-- The items that aren't payloads: what they leave, and what is due after them.
use Rattle.std.proofs.Common.{◌≡◌, ◌∙◌, ℕ, zero, suc, ◌-◌, ◌≤◌, Bool, true, false, cond, ltb, eqb}
use Rattle.std.proofs.Common.{◌||◌, Option, Some, None, List, [], ◌∷◌, ◌++◌, length, Result, Ok}
use Rattle.std.proofs.Common.{Err, refl, sym, ap, subst, arith}
use Rattle.std.specs.Prelude.{is_some}
use Rattle.std.specs.Str.{bytes_eq}
use Rattle.std.proofs.lemmas.Bool.{ltb-false, ne_eqb}
use Rattle.std.proofs.lemmas.List.{length_push}
use Rattle.c5_rows.specs.Tables.{table_number}
use Rattle.c5_rows.specs.Bytes.{checked_bytes, is_name_byte}
use Rattle.c5_rows.specs.declared.tables.TableDef.{TableDef}
use Rattle.c5_rows.specs.declared.writes.Write.{Write}
use Rattle.c5_rows.specs.declared.writes.Txn.{Txn}
use Rattle.c5_definitions.specs.declared.fault.LogKind.{LogKind}
use Rattle.c5_definitions.specs.declared.fault.LogKind.TheVariants as kinds
use Rattle.c5_definitions.specs.Numbers.{number_32}
use Rattle.c5_definitions.specs.Spelling.{magic}
use Rattle.c5_definitions.specs.Steps.{◌>>=◌, or_cause}
use Rattle.c5_definitions.specs.Items.{Item, the_magic, table_count, name_length, table_name}
use Rattle.c5_definitions.specs.Items.{column_count, column_types, frame_length, frame_payload}
use Rattle.c5_definitions.specs.Items.{nothing_more, size_of, LogSoFar, header_count}
use Rattle.c5_definitions.specs.Items.{new_table_name, types_of_bytes, after_item}
use Rattle.c5_frames.specs.declared.stage.Stage.{Stage}
use Rattle.c5_frames.specs.declared.stage.Stage.TheVariants as stages
use Rattle.c5_frames.specs.declared.index.Place.{Place}
use Rattle.c5_frames.specs.Stages.{item_of}
use Rattle.c5_frames.specs.Index.{Found, writes_of, LieAt, IsIndex}
use Rattle.c5_frames.proofs.Indexing.{open-length}
use Rattle.c5_frames.specs.DecoderStates.{AreComing, IsDue, IsFoundBefore, IsPlain, tables_after}

-- ---- steps

abbrev pub Tables : Type 0
Tables = List TableDef × Item

abbrev pub rebuilt : LogSoFar → Tables → LogSoFar
rebuilt s x = record { tables = x.0; txns = s.txns; writes = s.writes; stamp = s.stamp; next = x.1 }

-- what is seen of it
abbrev seen : Result LogSoFar LogKind → Result Tables LogKind
seen r = r >>= λ t. Ok (t.tables, t.next)

abbrev pub rebuild : LogSoFar → Result Tables LogKind → Result LogSoFar LogKind
rebuild s r = r >>= λ x. Ok (rebuilt s x)

abbrev alone : List TableDef → Item → LogSoFar
alone tables next = record { tables = tables; txns = []; writes = []; stamp = 0; next = next }

abbrev one : {X : Type 0} → Result X LogKind → (X → LogSoFar) → Result LogSoFar LogKind
one r f = r >>= λ x. Ok (f x)

-- one test, and what it leaves
through : {X : Type 0} (r : Result X LogKind) (tables : X → List TableDef) (next : X → Item)
    (s : LogSoFar)
    → one r (λ x. rebuilt s (tables x, next x))
    ≡ rebuild s (seen (one r (λ x. alone (tables x) (next x))))
through (Ok x) tables next s = refl
through (Err kind) tables next s = refl

abbrev if_so : Bool → LogKind → LogSoFar → Result LogSoFar LogKind
if_so b kind s = cond b (Ok s) (Err kind)

abbrev if_not : Bool → LogKind → LogSoFar → Result LogSoFar LogKind
if_not b kind s = cond b (Err kind) (Ok s)

chosen : (b : Bool) (kind : LogKind) (tables : List TableDef) (next : Item) (s : LogSoFar)
    → if_so b kind (rebuilt s (tables, next)) ≡ rebuild s (seen (if_so b kind (alone tables next)))
chosen true kind tables next s = refl
chosen false kind tables next s = refl

refused : (b : Bool) (kind : LogKind) (tables : List TableDef) (next : Item) (s : LogSoFar)
    → if_not b kind (rebuilt s (tables, next))
    ≡ rebuild s (seen (if_not b kind (alone tables next)))
refused true kind tables next s = refl
refused false kind tables next s = refl

-- such an item changes the tables and the next item alone
pub after-plain : (item : Item) (s : LogSoFar) (bytes : List ℕ) → IsPlain item
    → after_item item s bytes ≡ rebuild s (tables_after item s.tables bytes)
unfolding after_item
after-plain the_magic s bytes plain =
    chosen (bytes_eq bytes magic) kinds.Magic s.tables table_count s
after-plain table_count s bytes plain =
    through (header_count 1 16 bytes) (λ n. s.tables) (λ n. name_length n) s
after-plain (name_length missing) s bytes plain =
    through (header_count 1 16 bytes) (λ n. s.tables) (λ n. table_name missing n) s
after-plain (table_name missing size) s bytes plain =
    through (new_table_name s.tables bytes) (λ name. s.tables) (λ name. column_count missing name) s
after-plain (column_count missing name) s bytes plain =
    through (header_count 1 8 bytes) (λ n. s.tables) (λ n. column_types missing name n) s
after-plain (column_types missing name size) s bytes plain =
    through (types_of_bytes bytes)
    (λ columns. s.tables ++ record { name = name; columns = columns } ∷ [])
    (λ columns. cond (eqb missing 1) frame_length (name_length (missing - 1))) s
after-plain frame_length s bytes plain =
    refused (ltb (number_32 bytes) 5 || ltb 300 (number_32 bytes)) kinds.Length s.tables
    (frame_payload (number_32 bytes)) s
after-plain (frame_payload size) s bytes plain = absurd plain
after-plain nothing_more s bytes plain = refl

-- ---- what is due

abbrev done : {A : Type 0} → A → Result A LogKind
done x = Ok x

ok_is : {A : Type 0} (x y : A) → done x ≡ done y → x ≡ y
ok_is x y e = cc

bind_ok : {A B : Type 0} (r : Result A LogKind) (f : A → Result B LogKind) (y : B)
    → (r >>= f) ≡ Ok y → (x : A) × (r ≡ Ok x) × (f x ≡ Ok y)
bind_ok (Ok x) f y e = (x, refl, e)
bind_ok (Err kind) f y e = absurd cc

-- what one test left
left : {X : Type 0} (r : Result X LogKind) (f : X → LogSoFar) (out : Tables)
    → seen (r >>= λ x. Ok (f x)) ≡ Ok out → (x : X) × (r ≡ Ok x) × ((f x).tables, (f x).next) ≡ out
left (Ok x) f out e = (x, refl, ok_is _ _ e)
left (Err kind) f out e = absurd cc

left-chosen : (b : Bool) (kind : LogKind) (s : LogSoFar) (out : Tables)
    → seen (cond b (Ok s) (Err kind)) ≡ Ok out → (s.tables, s.next) ≡ out
left-chosen true kind s out e = ok_is _ _ e
left-chosen false kind s out e = absurd cc

left-refused : (b : Bool) (kind : LogKind) (s : LogSoFar) (out : Tables)
    → seen (cond b (Err kind) (Ok s)) ≡ Ok out → (b ≡ false) × ((s.tables, s.next) ≡ out)
left-refused true kind s out e = absurd cc
left-refused false kind s out e = (refl, ok_is _ _ e)

either-false : (a b : Bool) → a || b ≡ false → (a ≡ false) × (b ≡ false)
either-false true b e = absurd cc
either-false false b e = (refl, e)

in-range : (n low high : ℕ) → ltb n low || ltb high n ≡ false → (low ≤ n) × (n ≤ high)
in-range n low high e = let both = either-false (ltb n low) (ltb high n) e in
    (ltb-false n low both.0, ltb-false high n both.1)

guarded : (b : Bool) (n m : ℕ) → cond b (Err kinds.Header) (Ok n) ≡ Ok m → (b ≡ false) × (n ≡ m)
guarded true n m e = absurd cc
guarded false n m e = (refl, ok_is _ _ e)

header_count-range : (low high : ℕ) (bytes : List ℕ) (m : ℕ) → header_count low high bytes ≡ Ok m
    → (low ≤ m) × (m ≤ high)
unfolding header_count
header_count-range low high [] m e = absurd cc
header_count-range low high (n ∷ rest) m e =
    let g = guarded (ltb n low || ltb high n) n m e in
    subst (λ (k : ℕ). (low ≤ k) × (k ≤ high)) g.1 (in-range n low high g.0)

untaken : (taken : Option ℕ) (name other : List ℕ)
    → cond (is_some taken) (Err kinds.Header) (Ok name) ≡ Ok other → (taken ≡ None) × (name ≡ other)
untaken (Some n) name other e = absurd cc
untaken None name other e = (refl, ok_is _ _ e)

new_table_name-new : (tables : List TableDef) (bytes name : List ℕ)
    → new_table_name tables bytes ≡ Ok name → table_number name tables ≡ None
unfolding new_table_name
new_table_name-new tables bytes name e =
    let found = bind_ok (or_cause kinds.Header (checked_bytes 1 16 is_name_byte bytes))
    (λ n. cond (is_some (table_number n tables)) (Err kinds.Header) (Ok n)) name e in
    let new = untaken (table_number found.0 tables) found.0 name found.2 in
    subst (λ (n : List ℕ). table_number n tables ≡ None) new.1 new.0

unread-table : (missing : ℕ) (tables : List TableDef) (table : TableDef) → AreComing tables missing
    → IsDue (cond (eqb missing 1) frame_length (name_length (missing - 1))) (tables ++ table ∷ [])
unfolding IsDue
unread-table zero tables table coming = let some = coming.some in absurd (omega arith)
unread-table (suc zero) tables table coming = omega (arith, length_push tables table)
unread-table (suc (suc n)) tables table coming =
    let most = coming.few in
    let more : IsDue (name_length (suc (suc n) - 1)) (tables ++ table ∷ []) =
    record { some = omega arith; few = omega (arith, length_push tables table) } in
    subst (λ (b : Bool). IsDue (cond b frame_length (name_length (suc (suc n) - 1)))
    (tables ++ table ∷ [])) (sym (ne_eqb (suc (suc n)) 1 (λ e. omega (arith, e)))) more

abbrev Due : Tables → Type 0
Due x = IsDue x.1 x.0

pub due-after : (item : Item) (tables : List TableDef) (bytes : List ℕ) (out : Tables)
    → IsPlain item → IsDue item tables → length bytes ≡ size_of item
    → tables_after item tables bytes ≡ Ok out → Due out
unfolding after_item IsDue
due-after the_magic tables bytes out plain due len e =
    subst Due (left-chosen (bytes_eq bytes magic) kinds.Magic _ out e) due
due-after table_count tables bytes out plain due len e =
    let l = left (header_count 1 16 bytes) _ out e in
    let n = header_count-range 1 16 bytes l.0 l.1 in
    subst Due l.2
    (record {
      some = n.0;
      few = let none : length tables ≡ 0 = ap length due in
          omega (arith, none, n.1);
    })
due-after (name_length missing) tables bytes out plain due len e =
    let l = left (header_count 1 16 bytes) _ out e in
    subst Due l.2 (due, (header_count-range 1 16 bytes l.0 l.1).0)
due-after (table_name missing size) tables bytes out plain due len e =
    let l = left (new_table_name tables bytes) _ out e in
    subst Due l.2 (due.0, new_table_name-new tables bytes l.0 l.1)
due-after (column_count missing name) tables bytes out plain due len e =
    let l = left (header_count 1 8 bytes) _ out e in
    let n = header_count-range 1 8 bytes l.0 l.1 in
    subst Due l.2 (due.0, due.1, n.0, n.1)
due-after (column_types missing name size) tables bytes out plain due len e =
    let l = left (types_of_bytes bytes) _ out e in
    subst Due l.2 (unread-table missing tables (record { name = name; columns = l.0 }) due.0)
due-after frame_length tables bytes out plain due len e =
    let l = left-refused (ltb (number_32 bytes) 5
    || ltb 300 (number_32 bytes)) kinds.Length _ out e in
    let n = in-range (number_32 bytes) 5 300 l.0 in
    subst Due l.1 (due, n.0, n.1)
due-after (frame_payload size) tables bytes out plain due len e = absurd plain
due-after nothing_more tables bytes out plain due len e = absurd cc

-- ---- before the first frame nothing has been found

LieAt-any : (bytes : List ℕ) (tables others : List TableDef) (writes : List Write)
    → LieAt bytes tables [] writes → LieAt bytes others [] writes
unfolding LieAt
LieAt-any bytes tables others [] h = tt
LieAt-any bytes tables others (w ∷ writes) h = absurd h

LieAt-empty : (bytes : List ℕ) (tables others : List TableDef) (f : Found) (writes : List Write)
    → f.places ≡ [] → LieAt bytes tables f.places writes → LieAt bytes others f.places writes
LieAt-empty bytes tables others f writes none h =
    subst (λ (ps : List Place). LieAt bytes others ps writes) (sym none)
    (LieAt-any bytes tables others writes
    (subst (λ (ps : List Place). LieAt bytes tables ps writes) none h))

empties : (next : Item) (f : Found) → f.places ≡ [] → f.closed ≡ length f.places
    → IsFoundBefore next f
unfolding IsFoundBefore
empties frame_length f none closed = tt
empties (frame_payload size) f none closed = tt
empties nothing_more f none closed = closed
empties the_magic f none closed = none
empties table_count f none closed = none
empties (name_length missing) f none closed = none
empties (table_name missing size) f none closed = none
empties (column_count missing name) f none closed = none
empties (column_types missing name size) f none closed = none

pub record Keeps (bytes : List ℕ) (f : Found) (txns : List Txn) (writes : List Write)
    (out : Tables) : Type 0 where
  pub index : IsIndex bytes out.0 f txns writes
  pub empty : IsFoundBefore out.1 f

header-keeps : (bytes : List ℕ) (tables : List TableDef) (f : Found) (txns : List Txn)
    (writes : List Write) (out : Tables) → f.places ≡ [] → IsIndex bytes tables f txns writes
    → Keeps bytes f txns writes out
header-keeps bytes tables f txns writes out none h = record {
  index = record {
    entries = h.entries;
    closed = h.closed;
    places = LieAt-empty bytes tables out.0 f (writes_of txns ++ writes) none h.places;
  };
  empty = empties out.1 f none (let no_places : length f.places ≡ 0 = ap length none in
      omega (arith, no_places, open-length bytes tables f txns writes h));
}

pub keeps-after : (item : Item) (all : List ℕ) (tables : List TableDef) (bytes : List ℕ) (f : Found)
    (txns : List Txn) (writes : List Write) (out : Tables)
    → IsPlain item → IsFoundBefore item f → tables_after item tables bytes ≡ Ok out
    → IsIndex all tables f txns writes → Keeps all f txns writes out
unfolding after_item IsFoundBefore
keeps-after the_magic all tables bytes f txns writes out plain none e h =
    header-keeps all tables f txns writes out none h
keeps-after table_count all tables bytes f txns writes out plain none e h =
    header-keeps all tables f txns writes out none h
keeps-after (name_length missing) all tables bytes f txns writes out plain none e h =
    header-keeps all tables f txns writes out none h
keeps-after (table_name missing size) all tables bytes f txns writes out plain none e h =
    header-keeps all tables f txns writes out none h
keeps-after (column_count missing name) all tables bytes f txns writes out plain none e h =
    header-keeps all tables f txns writes out none h
keeps-after (column_types missing name size) all tables bytes f txns writes out plain none e h =
    header-keeps all tables f txns writes out none h
keeps-after frame_length all tables bytes f txns writes out plain none e h =
    let l = left-refused (ltb (number_32 bytes) 5
    || ltb 300 (number_32 bytes)) kinds.Length _ out e in
    subst (Keeps all f txns writes) l.1 (record { index = h; empty = tt })
keeps-after (frame_payload size) all tables bytes f txns writes out plain none e h = absurd plain
keeps-after nothing_more all tables bytes f txns writes out plain none e h = absurd cc

-- ---- the types of a table's columns

pub types-due : (stage : Stage) (missing : ℕ) (name : List ℕ) (size : ℕ) (tables : List TableDef)
    → stage ≡ stages.ColumnTypes missing name size → IsDue (item_of stage) tables
    → AreComing tables missing × (table_number name tables ≡ None) × (1 ≤ size) × (size ≤ 8)
unfolding IsDue
types-due stage missing name size tables is due =
    subst (λ (s : Stage). IsDue (item_of s) tables) is due

pub types-length : (stage : Stage) (missing : ℕ) (name : List ℕ) (size : ℕ) (item : List ℕ)
    → stage ≡ stages.ColumnTypes missing name size → length item ≡ size_of (item_of stage)
    → length item ≡ size
types-length stage missing name size item is whole =
    whole ∙ ap (λ (s : Stage). size_of (item_of s)) is

pub unread-end : (stage : Stage) (tables : List TableDef) (item : List ℕ)
    → stage ≡ stages.NothingMore → tables_after (item_of stage) tables item ≡ Err kinds.After
unfolding after_item
unread-end stage tables item is = ap (λ (s : Stage). tables_after (item_of s) tables item) is
