-- Each item of a header that passes its tests adds its bytes to the text before it.
use Rattle.std.proofs.Common.{◌≡◌, ◌∙◌, ℕ, ◌+◌, ◌-◌, ◌≤◌, Bool, true, false, cond, eqb, List, []}
use Rattle.std.proofs.Common.{◌∷◌, ◌++◌, length, map, Ok, refl, sym, ap, subst, append_assoc, arith}
use Rattle.std.specs.Str.{bytes_eq}
use Rattle.std.specs.List.{flat_map, AllByRecursion}
use Rattle.std.proofs.lemmas.Bool.{eqb-true, eqb-false}
use Rattle.std.proofs.lemmas.List.{append-nil, length_push, length-map, flat_map_more}
use Rattle.std.proofs.lemmas.Slice.Eq.{bytes_eq-Decides}
use Rattle.c5_rows.specs.Writes.{IsAscending}
use Rattle.c5_rows.specs.declared.tables.TableDef.{TableDef}
use Rattle.c5_rows.specs.declared.writes.Write.{Write}
use Rattle.c5_rows.specs.declared.writes.Txn.{Txn}
use Rattle.c5_definitions.specs.declared.fault.LogKind.{LogKind}
use Rattle.c5_definitions.specs.declared.fault.LogKind.TheVariants as kinds
use Rattle.c5_definitions.specs.Lawful.{IsLawfulTable, IsLawfulTxn, IsLawfulWrite, StampsRise}
use Rattle.c5_definitions.specs.Spelling.{magic, spelled_type, spelled_table, spelled_header}
use Rattle.c5_definitions.specs.Spelling.{spelled_txn}
use Rattle.c5_definitions.specs.Items.{Item, the_magic, table_count, name_length, table_name}
use Rattle.c5_definitions.specs.Items.{column_count, column_types, frame_length, LogSoFar}
use Rattle.c5_definitions.specs.Items.{header_count, new_table_name, types_of_bytes, expecting}
use Rattle.c5_definitions.specs.Items.{with_table, after_item}
use Rattle.c5_frames.proofs.LawFields.{held, ok_is, bind_ok}
use Rattle.c5_frames.proofs.LawNames.{AllByRecursion-push, HaveNames-push}
use Rattle.c5_frames.proofs.LawFrames.{spelled_write, last_stamp}
use Rattle.c5_frames.proofs.LawStages.{head_text, frames_text, IsHead, HasNone, IsComing, IsNew}
use Rattle.c5_frames.proofs.LawStages.{IsNext, number_takes, name_takes, types_spelled}

pub magic_next : (s next : LogSoFar) (item : List ℕ) → IsHead s.tables → (s.tables ≡ []) × HasNone s
    → after_item the_magic s item ≡ Ok next → IsNext [] item next
unfolding after_item
magic_next s next item head stage e =
    let a = held (bytes_eq item magic) kinds.Magic (Ok (expecting s table_count)) next e in
    subst (IsNext [] item) (ok_is {E = LogKind} (expecting s table_count) next a.1)
    (record {
      head = head;
      stage =
          (stage.0, record { txns = stage.1.txns; writes = stage.1.writes; stamp = stage.1.stamp });
      text = sym ((bytes_eq-Decides item magic).0 a.0);
    })

pub table_count_next : (s next : LogSoFar) (item : List ℕ) → length item ≡ 1 → IsHead s.tables
    → (s.tables ≡ []) × HasNone s → after_item table_count s item ≡ Ok next → IsNext magic item next
unfolding after_item
table_count_next s next item len head stage e =
    let n = bind_ok (header_count 1 16 item) (λ n. Ok (expecting s (name_length n))) next e in
    let t = number_takes 1 16 item n.0 len n.1 in
    let none = ap length stage.0 in
    let count : length s.tables + n.0 ≡ n.0 = omega (arith, none) in
    let text : head_text s.tables n.0 ≡ magic ++ item =
    ap (λ (k : ℕ). magic ++ k ∷ flat_map spelled_table s.tables) count ∙ ap
    (λ (ts : List TableDef). magic ++ n.0 ∷ flat_map spelled_table ts) stage.0 ∙ ap
    (λ (i : List ℕ). magic ++ i) (sym t.text) in
    subst (IsNext magic item) (ok_is {E = LogKind} (expecting s (name_length n.0)) next n.2)
    (record {
      head = head;
      stage = record {
        some = t.no_less;
        few = omega (arith, count, t.no_more);
        none = record { txns = stage.1.txns; writes = stage.1.writes; stamp = stage.1.stamp };
      };
      text = text;
    })

coming : (missing : ℕ) (s : LogSoFar) (item : Item) → IsComing missing s
    → IsComing missing (expecting s item)
coming missing s item c =
    record {
      some = c.some;
      few = c.few;
      none = record { txns = c.none.txns; writes = c.none.writes; stamp = c.none.stamp };
    }

pub name_length_next : (missing : ℕ) (s next : LogSoFar) (item : List ℕ) → length item ≡ 1
    → IsHead s.tables → IsComing missing s → after_item (name_length missing) s item ≡ Ok next
    → IsNext (head_text s.tables missing) item next
unfolding after_item
name_length_next missing s next item len head stage e =
    let n = bind_ok (header_count 1 16 item)
    (λ n. Ok (expecting s (table_name missing n))) next e in
    let t = number_takes 1 16 item n.0 len n.1 in
    let to = expecting s (table_name missing n.0) in
    subst (IsNext (head_text s.tables missing) item) (ok_is {E = LogKind} to next n.2)
    (record {
      head = head;
      stage = (coming missing s (table_name missing n.0) stage, t.no_less);
      text = ap (λ (i : List ℕ). head_text s.tables missing ++ i) (sym t.text);
    })

pub table_name_next : (missing size : ℕ) (s next : LogSoFar) (item : List ℕ) → length item ≡ size
    → IsHead s.tables → IsComing missing s × (1 ≤ size)
    → after_item (table_name missing size) s item ≡ Ok next
    → IsNext (head_text s.tables missing ++ size ∷ []) item next
unfolding after_item
table_name_next missing size s next item len head stage e =
    let n = bind_ok (new_table_name s.tables item)
    (λ name. Ok (expecting s (column_count missing name))) next e in
    let t = name_takes s.tables item n.0 n.1 in
    let to = expecting s (column_count missing n.0) in
    let front = head_text s.tables missing in
    let sized : length n.0 ≡ size = ap length (sym t.0) ∙ len in
    let text : front ++ (length n.0 ∷ n.0) ≡ (front ++ size ∷ []) ++ item =
    ap (λ (k : ℕ). front ++ (k ∷ n.0)) sized ∙ ap (λ (i : List ℕ). front ++ (size ∷ i))
    (sym t.0) ∙ sym (append_assoc front (size ∷ []) item) in
    subst (IsNext (front ++ size ∷ []) item) (ok_is {E = LogKind} to next n.2)
    (record {
      head = head;
      stage = (coming missing s (column_count missing n.0) stage.0, t.1);
      text = text;
    })

pub column_count_next : (missing : ℕ) (name : List ℕ) (s next : LogSoFar) (item : List ℕ)
    → length item ≡ 1 → IsHead s.tables → IsComing missing s × IsNew name s.tables
    → after_item (column_count missing name) s item ≡ Ok next
    → IsNext (head_text s.tables missing ++ (length name ∷ name)) item next
unfolding after_item
column_count_next missing name s next item len head stage e =
    let n = bind_ok (header_count 1 8 item)
    (λ n. Ok (expecting s (column_types missing name n))) next e in
    let t = number_takes 1 8 item n.0 len n.1 in
    let to = expecting s (column_types missing name n.0) in
    let front = head_text s.tables missing ++ (length name ∷ name) in
    subst (IsNext front item) (ok_is {E = LogKind} to next n.2)
    (record {
      head = head;
      stage =
          (coming missing s (column_types missing name n.0) stage.0, stage.1, t.no_less, t.no_more);
      text = ap (λ (i : List ℕ). front ++ i) (sym t.text);
    })

-- ---- one table more

table_text : (tables : List TableDef) (missing : ℕ) (table : TableDef) (size : ℕ) (item : List ℕ)
    → 1 ≤ missing → length table.columns ≡ size → item ≡ map spelled_type table.columns
    → head_text (tables ++ table ∷ []) (missing - 1)
    ≡ ((head_text tables missing ++ (length table.name ∷ table.name)) ++ size ∷ []) ++ item
table_text tables missing table size item some sized is =
    let all = tables ++ table ∷ [] in
    let n = length tables + missing in
    let count : length all + (missing - 1) ≡ n = omega (arith, length_push tables table, some) in
    let front = head_text tables missing in
    let name = length table.name ∷ table.name in
    let texts = flat_map spelled_table tables in
    let more : flat_map spelled_table all ≡ texts ++ spelled_table table =
    sym (flat_map_more spelled_table [] tables table) in
    let columns : size ∷ item ≡ length table.columns ∷ map spelled_type table.columns =
    ap (λ (k : ℕ). k ∷ item) (sym sized) ∙ ap (λ (i : List ℕ). length table.columns ∷ i) is in
    let right : ((front ++ name) ++ size ∷ []) ++ item ≡ front ++ spelled_table table =
    append_assoc (front ++ name) (size ∷ []) item
    ∙ append_assoc front name (size ∷ item)
    ∙ ap (λ (c : List ℕ). front ++ (name ++ c)) columns in
    ap (λ (k : ℕ). magic ++ k ∷ flat_map spelled_table all) count
    ∙ ap (λ (t : List ℕ). magic ++ n ∷ t) more
    ∙ sym (append_assoc magic (n ∷ texts) (spelled_table table))
    ∙ sym right

frames_none : (s : LogSoFar) → HasNone s → frames_text s ≡ head_text s.tables 0
unfolding spelled_header
frames_none s none =
    let count : length s.tables ≡ length s.tables + 0 = omega arith in
    let front = spelled_header s.tables in
    ap (λ (txns : List Txn). front
    ++ (flat_map spelled_txn txns ++ flat_map spelled_write s.writes)) none.txns
    ∙ ap (λ (writes : List Write). front ++ flat_map spelled_write writes) none.writes
    ∙ append-nil front
    ∙ ap (λ (k : ℕ). magic ++ k ∷ flat_map spelled_table s.tables) count

-- the next item is the next table, or the first frame
with_next : (s : LogSoFar) (missing : ℕ) (table : TableDef) (before item : List ℕ) (last : Bool)
    → (last ≡ true → missing ≡ 1) → (last ≡ false → missing ≡ 1 → ⊥)
    → IsHead (s.tables ++ table ∷ []) → IsComing missing s
    → head_text (s.tables ++ table ∷ []) (missing - 1) ≡ before ++ item
    → IsNext before item
    (record {
      tables = s.tables ++ table ∷ [];
      txns = s.txns;
      writes = s.writes;
      stamp = s.stamp;
      next = cond last frame_length (name_length (missing - 1));
    })
with_next s missing table before item true single others head c text =
    let to : LogSoFar =
    record {
      tables = s.tables ++ table ∷ [];
      txns = s.txns;
      writes = s.writes;
      stamp = s.stamp;
      next = frame_length;
    } in
    let none : HasNone to =
    record { txns = c.none.txns; writes = c.none.writes; stamp = c.none.stamp } in
    let one = single refl in
    let zero_left : 0 ≡ missing - 1 = omega (arith, one) in
    let few = c.few in
    record {
      head = head;
      stage = record {
        some = omega (arith, length_push s.tables table);
        few = omega (arith, length_push s.tables table, few, one);
        each_txn = subst (AllByRecursion (IsLawfulTxn to.tables)) (sym none.txns) tt;
        stamps = subst (StampsRise 0) (sym none.txns) tt;
        stamp = none.stamp ∙ ap (last_stamp 0) (sym none.txns);
        ascending = subst IsAscending (sym none.writes) tt;
        each_write = subst (AllByRecursion (IsLawfulWrite to.tables)) (sym none.writes) tt;
      };
      text = frames_none to none ∙ ap (head_text to.tables) zero_left ∙ text;
    }
with_next s missing table before item false single others head c text =
    let some = c.some in
    let few = c.few in
    let not_one = others refl in
    record {
      head = head;
      stage = record {
        some = omega (arith, some, not_one);
        few = omega (arith, length_push s.tables table, few, some);
        none =
            record { txns = c.none.txns; writes = c.none.writes; stamp = c.none.stamp };
      };
      text = text;
    }

pub column_types_next : (missing : ℕ) (name : List ℕ) (size : ℕ) (s next : LogSoFar) (item : List ℕ)
    → length item ≡ size → IsHead s.tables → IsComing missing s × IsNew name s.tables × (1 ≤ size)
    × (size ≤ 8)
    → after_item (column_types missing name size) s item ≡ Ok next
    → IsNext ((head_text s.tables missing ++ (length name ∷ name)) ++ size ∷ []) item next
unfolding after_item
column_types_next missing name size s next item len head stage e =
    let a = bind_ok (types_of_bytes item)
    (λ columns. Ok (with_table s missing (record { name = name; columns = columns }))) next e in
    let table : TableDef = record { name = name; columns = a.0 } in
    let text = types_spelled item a.0 a.1 in
    let sized : length a.0 ≡ size =
    sym (length-map a.0 spelled_type) ∙ ap length (sym text) ∙ len in
    let some = stage.2 in
    let few = stage.3 in
    let lawful : IsLawfulTable table =
    record {
      name = stage.1.lawful;
      some = omega (arith, sized, some);
      few = omega (arith, sized, few);
    } in
    let heads : IsHead (s.tables ++ table ∷ []) =
    record {
      names = HaveNames-push 0 s.tables table head.names stage.1.new;
      each = AllByRecursion-push IsLawfulTable s.tables table head.each lawful;
    } in
    let before = (head_text s.tables missing ++ (length name ∷ name)) ++ size ∷ [] in
    subst (IsNext before item) (ok_is {E = LogKind} (with_table s missing table) next a.2)
    (with_next s missing table before item (eqb missing 1) (eqb-true missing 1)
    (eqb-false missing 1) heads stage.0
    (table_text s.tables missing table size item stage.0.some sized text))
