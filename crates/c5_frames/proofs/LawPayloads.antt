-- A payload that is read is spelled so, and what it holds is lawful.
use Rattle.std.proofs.Common.{◌≡◌, ◌∙◌, ℕ, zero, suc, ◌^◌, ◌<◌, ◌≤◌, Bool, true, false, cond, eqb}
use Rattle.std.proofs.Common.{ltb, List, [], ◌∷◌, ◌++◌, length, take, drop, map, Option, Some, None}
use Rattle.std.proofs.Common.{Result, Ok, Err, refl, sym, ap, subst, arith, ◌⊎◌, inl, inr}
use Rattle.std.specs.Prelude.{slice_get, MatchOption}
use Rattle.std.specs.List.{flat_map, AllByRecursion}
use Rattle.std.proofs.lemmas.Bool.{eqb-true, ltb-false}
use Rattle.std.proofs.lemmas.List.{append-nil, nil_from_length, take-append-drop, length-take}
use Rattle.std.proofs.lemmas.List.{length-drop, drop-drop}
use Rattle.c5_rows.specs.Bytes.{AreBytes, IsKey, checked_bytes, is_key_byte, is_text_byte}
use Rattle.c5_rows.specs.Cells.{type_of}
use Rattle.c5_rows.specs.Fitting.{FitsColumns, FitsTables}
use Rattle.c5_rows.specs.declared.cells.CellType.{CellType}
use Rattle.c5_rows.specs.declared.cells.CellType.TheVariants as types
use Rattle.c5_rows.specs.declared.cells.Cell.{Cell}
use Rattle.c5_rows.specs.declared.cells.Cell.TheVariants.{Int, Txt}
use Rattle.c5_rows.specs.declared.tables.TableDef.{TableDef}
use Rattle.c5_rows.specs.declared.writes.Change.{Change}
use Rattle.c5_rows.specs.declared.writes.Change.TheVariants.{Put, Gone}
use Rattle.c5_rows.specs.declared.writes.Write.{Write}
use Rattle.c5_definitions.specs.Lawful.{IsLawfulCell, IsLawfulChange, IsLawfulWrite}
use Rattle.c5_definitions.specs.Spelling.{spelled_u32, spelled_u64, spelled_cell, spelled_change}
use Rattle.c5_definitions.specs.Spelling.{write_payload, end_payload}
use Rattle.c5_definitions.specs.declared.fault.LogKind.{LogKind}
use Rattle.c5_definitions.specs.declared.fault.LogKind.TheVariants as kinds
use Rattle.c5_definitions.specs.Numbers.{number_32, number_64, signed_64}
use Rattle.c5_definitions.specs.Steps.{◌>>=◌, or_cause}
use Rattle.c5_definitions.specs.Frames.{Mark, Frame, write, mark, end, key_at, text_at, int_at}
use Rattle.c5_definitions.specs.Frames.{cell_at, cells_at, row_at, change_at, table_numbered}
use Rattle.c5_definitions.specs.Frames.{write_at, mark_at, end_at, frame_at}
use Rattle.c5_frames.proofs.LawFields.{bind_ok, IsBytes, IsBytes-drop, IsBytes-rest, Takes}
use Rattle.c5_frames.proofs.LawFields.{Takes-then, passed, held, ok_is, or_cause-ok, checked-ok}
use Rattle.c5_frames.proofs.LawFields.{u32-takes, u32-below, u64-takes, u64-below, i64-takes}
use Rattle.c5_frames.proofs.LawFields.{i64-fits}

-- ---- the length and the bytes of a key or a text

short_takes : (least most : ℕ) (allowed : ℕ → Bool) (n : ℕ) (bytes x : List ℕ) → IsBytes (n ∷ bytes)
    → ltb (length bytes) n ≡ false → checked_bytes least most allowed (take n bytes) ≡ Ok x
    → Takes (n ∷ bytes) (length x ∷ x) (drop n bytes) × AreBytes least most allowed x
short_takes least most allowed n bytes x fits long e =
    let c = checked-ok least most allowed (take n bytes) x e in
    let le : n ≤ length bytes = ltb-false _ _ long in
    let len : length x ≡ n = ap length c.0 ∙ omega (arith, length-take n bytes) in (
      record {
        parts = ap (λ (t : List ℕ). n ∷ t) (sym (take-append-drop n bytes)) ∙ ap
            (λ (t : List ℕ). n ∷ t ++ drop n bytes) (sym c.0) ∙ ap
            (λ (k : ℕ). k ∷ x ++ drop n bytes) (sym len);
        rest_fits = IsBytes-drop n bytes (IsBytes-rest n bytes fits);
      },
      c.1,
    )

key_takes : (bytes : List ℕ) (x : List ℕ × List ℕ) → IsBytes bytes → key_at bytes ≡ Ok x
    → Takes bytes (length x.0 ∷ x.0) x.1 × IsKey x.0
unfolding key_at
key_takes [] x fits e = absurd cc
key_takes (n ∷ bytes) x fits e =
    let long = passed (ltb (length bytes) n) kinds.Key
    (or_cause kinds.Key (checked_bytes 1 32 is_key_byte (take n bytes))
    >>= λ key. Ok (key, drop n bytes)) x e in
    let key = bind_ok (or_cause kinds.Key (checked_bytes 1 32 is_key_byte (take n bytes)))
    (λ key. Ok (key, drop n bytes)) x long.1 in
    let checked = or_cause-ok kinds.Key
    (checked_bytes 1 32 is_key_byte (take n bytes)) key.0 key.1 in
    subst (λ (y : List ℕ × List ℕ). Takes (n ∷ bytes) (length y.0 ∷ y.0) y.1 × IsKey y.0)
    (ok_is (key.0, drop n bytes) x key.2)
    (short_takes 1 32 is_key_byte n bytes key.0 fits long.0 checked)

-- ---- cells

text_takes : (bytes : List ℕ) (x : Cell × List ℕ) → IsBytes bytes → text_at bytes ≡ Ok x
    → Takes bytes (spelled_cell x.0) x.1 × IsLawfulCell x.0 × (type_of x.0 ≡ types.Text)
unfolding text_at spelled_cell
text_takes [] x fits e = absurd cc
text_takes (n ∷ bytes) x fits e =
    let long = passed (ltb (length bytes) n) kinds.Cell
    (or_cause kinds.Cell (checked_bytes 0 32 is_text_byte (take n bytes))
    >>= λ text. Ok (Txt text, drop n bytes)) x e in
    let text = bind_ok (or_cause kinds.Cell (checked_bytes 0 32 is_text_byte (take n bytes)))
    (λ text. Ok (Txt text, drop n bytes)) x long.1 in
    let checked = or_cause-ok kinds.Cell
    (checked_bytes 0 32 is_text_byte (take n bytes)) text.0 text.1 in
    let t = short_takes 0 32 is_text_byte n bytes text.0 fits long.0 checked in
    subst (λ (y : Cell × List ℕ). Takes (n ∷ bytes) (spelled_cell y.0) y.1 × IsLawfulCell y.0
    × (type_of y.0 ≡ types.Text)) (ok_is (Txt text.0, drop n bytes) x text.2) (t.0, t.1, refl)

int_takes : (bytes : List ℕ) (x : Cell × List ℕ) → IsBytes bytes → int_at bytes ≡ Ok x
    → Takes bytes (spelled_cell x.0) x.1 × IsLawfulCell x.0 × (type_of x.0 ≡ types.Int)
unfolding int_at spelled_cell
int_takes bytes x fits e =
    let long = passed (ltb (length bytes) 8) kinds.Cell
    (Ok (Int (signed_64 bytes), drop 8 bytes)) x e in
    subst (λ (y : Cell × List ℕ). Takes bytes (spelled_cell y.0) y.1 × IsLawfulCell y.0
    × (type_of y.0 ≡ types.Int)) (ok_is (Int (signed_64 bytes), drop 8 bytes) x long.1)
    (i64-takes bytes (ltb-false _ _ long.0) fits, i64-fits bytes fits, refl)

cell_takes : (column : CellType) (bytes : List ℕ) (x : Cell × List ℕ) → IsBytes bytes
    → cell_at column bytes ≡ Ok x → Takes bytes (spelled_cell x.0) x.1 × IsLawfulCell x.0
    × (type_of x.0 ≡ column)
unfolding cell_at
cell_takes types.Int bytes x fits e = int_takes bytes x fits e
cell_takes types.Text bytes x fits e = text_takes bytes x fits e

cells_take : (columns : List CellType) (bytes : List ℕ) (x : List Cell × List ℕ) → IsBytes bytes
    → cells_at columns bytes ≡ Ok x
    → Takes bytes (flat_map spelled_cell x.0) x.1 × AllByRecursion IsLawfulCell x.0
    × (map type_of x.0 ≡ columns)
unfolding cells_at
cells_take [] bytes x fits e =
    subst (λ (y : List Cell × List ℕ). Takes bytes (flat_map spelled_cell y.0) y.1
    × AllByRecursion IsLawfulCell y.0 × (map type_of y.0 ≡ [])) (ok_is ([], bytes) x e)
    (record { parts = refl; rest_fits = fits }, tt, refl)
cells_take (column ∷ columns) bytes x fits e =
    let a = bind_ok (cell_at column bytes)
    (λ cell. cells_at columns cell.1 >>= λ cells. Ok (cell.0 ∷ cells.0, cells.1)) x e in
    let b = bind_ok (cells_at columns a.0.1) (λ cells. Ok (a.0.0 ∷ cells.0, cells.1)) x a.2 in
    let one = cell_takes column bytes a.0 fits a.1 in
    let more = cells_take columns a.0.1 b.0 one.0.rest_fits b.1 in
    let made : List Cell × List ℕ = (a.0.0 ∷ b.0.0, b.0.1) in
    subst (λ (y : List Cell × List ℕ). Takes bytes (flat_map spelled_cell y.0) y.1
    × AllByRecursion IsLawfulCell y.0 × (map type_of y.0 ≡ column ∷ columns)) (ok_is made x b.2) (
      Takes-then bytes (spelled_cell a.0.0) a.0.1 (flat_map spelled_cell b.0.0) b.0.1 one.0 more.0,
      (one.1, more.1),
      ap (λ (t : CellType). t ∷ map type_of b.0.0) one.2 ∙ ap
          (λ (ts : List CellType). column ∷ ts) more.2,
    )

row_takes : (columns : List CellType) (bytes : List ℕ) (row : List Cell) → IsBytes bytes
    → row_at columns bytes ≡ Ok row → (bytes ≡ flat_map spelled_cell row)
    × AllByRecursion IsLawfulCell row × (map type_of row ≡ columns)
unfolding row_at
row_takes columns bytes row fits e =
    let a = bind_ok (cells_at columns bytes)
    (λ cells. cond (eqb (length cells.1) 0) (Ok cells.0) (Err kinds.Cell)) row e in
    let b = held (eqb (length a.0.1) 0) kinds.Cell (Ok a.0.0) row a.2 in
    let t = cells_take columns bytes a.0 fits a.1 in
    let nothing : a.0.1 ≡ [] = nil_from_length a.0.1 (eqb-true _ _ b.0) in
    let whole : bytes ≡ flat_map spelled_cell a.0.0 =
    t.0.parts ∙ ap (λ (r : List ℕ). flat_map spelled_cell a.0.0 ++ r) nothing ∙ append-nil
    (flat_map spelled_cell a.0.0) in
    subst (λ (y : List Cell). (bytes ≡ flat_map spelled_cell y) × AllByRecursion IsLawfulCell y
    × (map type_of y ≡ columns)) (ok_is a.0.0 row b.1) (whole, t.1, t.2)

-- ---- writes

change_takes : (columns : List CellType) (bytes : List ℕ) (change : Change) → IsBytes bytes
    → change_at columns bytes ≡ Ok change → (bytes ≡ spelled_change change) × IsLawfulChange change
    × FitsColumns change columns
unfolding change_at spelled_change
change_takes columns [] change fits e = absurd cc
change_takes columns (zero ∷ bytes) change fits e =
    let a = bind_ok (row_at columns bytes) (λ row. Ok (Put row)) change e in
    let t = row_takes columns bytes a.0 (IsBytes-rest 0 bytes fits) a.1 in
    subst (λ (y : Change). (0 ∷ bytes ≡ spelled_change y) × IsLawfulChange y
    × FitsColumns y columns) (ok_is (Put a.0) change a.2)
    (ap (λ (r : List ℕ). 0 ∷ r) t.0, t.1, t.2)
change_takes columns (suc zero ∷ []) change fits e =
    subst (λ (y : Change). (1 ∷ [] ≡ spelled_change y) × IsLawfulChange y × FitsColumns y columns)
    (ok_is Gone change e) (refl, tt, tt)
change_takes columns (suc zero ∷ byte ∷ bytes) change fits e = absurd cc
change_takes columns (suc (suc op) ∷ bytes) change fits e = absurd cc

table_found : (number : ℕ) (tables : List TableDef) (table : TableDef)
    → table_numbered number tables ≡ Ok table → slice_get tables number ≡ Some table
unfolding table_numbered
table_found number tables table e =
    elim (slice_get tables number) as
    (λ (o : Option TableDef). elim o as
    (λ _. Result TableDef LogKind) [ None ↦ Err kinds.Table | Some t ↦ Ok t ] ≡ Ok table
    → o ≡ Some table) [
      | None ↦ λ h. absurd cc
      | Some t ↦ λ h. ap (λ (x : TableDef). Some x) (ok_is t table h)
    ] e

write_takes : (tables : List TableDef) (bytes : List ℕ) (entry : Write) → IsBytes bytes
    → write_at tables bytes ≡ Ok entry → (87 ∷ bytes ≡ write_payload entry)
    × IsLawfulWrite tables entry
unfolding write_at write_payload
write_takes tables [] entry fits e = absurd cc
write_takes tables (number ∷ bytes) entry fits e =
    let table = bind_ok (table_numbered number tables)
    (λ table. key_at bytes >>= λ key. change_at table.columns key.1
    >>= λ change. Ok
    (record { name = record { table = number; key = key.0 }; change = change })) entry e in
    let key = bind_ok (key_at bytes)
    (λ key. change_at table.0.columns key.1
    >>= λ change. Ok
    (record { name = record { table = number; key = key.0 }; change = change })) entry table.2
    in
    let change = bind_ok (change_at table.0.columns key.0.1)
    (λ change. Ok (record { name = record { table = number; key = key.0.0 }; change = change }))
    entry key.2 in
    let k = key_takes bytes key.0 (IsBytes-rest number bytes fits) key.1 in
    let c = change_takes table.0.columns key.0.1 change.0 k.0.rest_fits change.1 in
    let found = table_found number tables table.0 table.1 in
    let made : Write =
    record { name = record { table = number; key = key.0.0 }; change = change.0 } in
    let text : 87 ∷ number ∷ bytes ≡ write_payload made =
    ap (λ (b : List ℕ). 87 ∷ number ∷ b)
    (k.0.parts ∙ ap (λ (r : List ℕ). (length key.0.0 ∷ key.0.0) ++ r) c.0) in
    let fit : FitsTables tables made =
    subst (λ (o : Option TableDef). MatchOption o ⊥ (λ t. FitsColumns change.0 t.columns))
    (sym found) c.2 in
    subst (λ (w : Write). (87 ∷ number ∷ bytes ≡ write_payload w)
    × IsLawfulWrite tables w) {x = made} (ok_is made entry change.2)
    (text, record { key = k.1; change = c.1; fits = fit })

-- ---- marks

-- the numbers of a commit mark, and its payload
pub record IsMark (payload : List ℕ) (numbers : Mark) : Type 0 where
  pub script : numbers.script < 2 ^ 32
  pub stamp : numbers.stamp < 2 ^ 64
  pub count : numbers.count < 2 ^ 32
  pub text : payload ≡ 67 ∷ spelled_u32 numbers.script ++ spelled_u64 numbers.stamp
      ++ spelled_u32 numbers.count

mark_takes : (bytes : List ℕ) (numbers : Mark) → IsBytes bytes → mark_at bytes ≡ Ok numbers
    → IsMark (67 ∷ bytes) numbers
unfolding mark_at
mark_takes bytes numbers fits e =
    let made : Mark =
    record {
      script = number_32 bytes;
      stamp = number_64 (drop 4 bytes);
      count = number_32 (drop 12 bytes);
    } in
    let a = held (eqb (length bytes) 16) kinds.Length (Ok made) numbers e in
    let long : length bytes ≡ 16 = eqb-true _ _ a.0 in
    let script = spelled_u32 (number_32 bytes) in
    let stamp = spelled_u64 (number_64 (drop 4 bytes)) in
    let count = spelled_u32 (number_32 (drop 12 bytes)) in
    let t1 = u32-takes bytes (omega arith) fits in
    let t2 = u64-takes (drop 4 bytes) (omega (arith, length-drop 4 bytes)) t1.rest_fits in
    let t3 = u32-takes (drop 12 bytes) (omega (arith, length-drop 12 bytes))
    (IsBytes-drop 12 bytes fits) in
    let nothing : drop 4 (drop 12 bytes) ≡ [] =
    nil_from_length (drop 4 (drop 12 bytes))
    (omega (arith, length-drop 4 (drop 12 bytes), length-drop 12 bytes)) in
    let last : drop 8 (drop 4 bytes) ≡ count =
    drop-drop 8 4 bytes ∙ t3.parts ∙ ap
    (λ (r : List ℕ). count ++ r) nothing ∙ append-nil count in
    let text : bytes ≡ script ++ stamp ++ count =
    (Takes-then bytes script (drop 4 bytes) stamp (drop 8 (drop 4 bytes)) t1 t2).parts ∙ ap
    (λ (r : List ℕ). (script ++ stamp) ++ r) last in
    subst (IsMark (67 ∷ bytes)) (ok_is made numbers a.1) (record {
      script = u32-below bytes fits;
      stamp = u64-below (drop 4 bytes) t1.rest_fits;
      count = u32-below (drop 12 bytes) (IsBytes-drop 12 bytes fits);
      text = ap (λ (b : List ℕ). 67 ∷ b) text;
    })

end_takes : (bytes : List ℕ) (count : ℕ) → IsBytes bytes → end_at bytes ≡ Ok count
    → (69 ∷ bytes ≡ end_payload count) × (count < 2 ^ 32)
unfolding end_at end_payload
end_takes bytes count fits e =
    let a = held (eqb (length bytes) 4) kinds.Length (Ok (number_32 bytes)) count e in
    let long : length bytes ≡ 4 = eqb-true _ _ a.0 in
    let t = u32-takes bytes (omega arith) fits in
    let nothing : drop 4 bytes ≡ [] =
    nil_from_length (drop 4 bytes) (omega (arith, length-drop 4 bytes)) in
    let text : bytes ≡ spelled_u32 (number_32 bytes) =
    t.parts ∙ ap (λ (r : List ℕ). spelled_u32 (number_32 bytes) ++ r) nothing ∙ append-nil
    (spelled_u32 (number_32 bytes)) in
    subst (λ (n : ℕ). (69 ∷ bytes ≡ 69 ∷ spelled_u32 n) × (n < 2 ^ 32))
    (ok_is (number_32 bytes) count a.1) (ap (λ (b : List ℕ). 69 ∷ b) text, u32-below bytes fits)

-- ---- frames

-- the payload is the spelling of what it holds, which is lawful
abbrev pub Holds : List TableDef → List ℕ → Frame → Type 0
Holds tables payload (write entry) = (payload ≡ write_payload entry) × IsLawfulWrite tables entry
Holds tables payload (mark numbers) = IsMark payload numbers
Holds tables payload (end count) = (payload ≡ end_payload count) × (count < 2 ^ 32)

-- which way a test went
chosen : {A : Type 0} (b : Bool) (x y z : A) → cond b x y ≡ z → ((b ≡ true) × (x ≡ z))
    ⊎ ((b ≡ false) × (y ≡ z))
chosen true x y z e = inl (refl, e)
chosen false x y z e = inr (refl, e)

pub frame_holds : (tables : List TableDef) (payload : List ℕ) (frame : Frame) → IsBytes payload
    → frame_at tables payload ≡ Ok frame → Holds tables payload frame
unfolding frame_at
frame_holds tables [] frame fits e = absurd cc
frame_holds tables (first ∷ rest) frame fits e =
    let fits_rest = IsBytes-rest first rest fits in
    let entry : Result Frame LogKind = write_at tables rest >>= λ entry. Ok (write entry) in
    let numbers : Result Frame LogKind = mark_at rest >>= λ numbers. Ok (mark numbers) in
    let last : Result Frame LogKind = end_at rest >>= λ count. Ok (end count) in
    elim (chosen (eqb first 87) entry
    (cond (eqb first 67) numbers (cond (eqb first 69) last (Err kinds.Kind))) (Ok frame) e) [
      | inl w ↦
          let a = bind_ok (write_at tables rest) (λ entry. Ok (write entry)) frame w.1 in
          let t = write_takes tables rest a.0 fits_rest a.1 in
          subst (Holds tables (first ∷ rest)) (ok_is (write a.0) frame a.2)
          (ap (λ (b : ℕ). b ∷ rest) (eqb-true _ _ w.0) ∙ t.0, t.1)
      | inr n ↦ elim
          (chosen (eqb first 67) numbers (cond (eqb first 69) last (Err kinds.Kind)) (Ok frame)
          n.1) [
            | inl m ↦
                let a = bind_ok (mark_at rest) (λ numbers. Ok (mark numbers)) frame m.1 in
                subst (Holds tables (first ∷ rest)) (ok_is (mark a.0) frame a.2)
                (subst (λ (b : ℕ). IsMark (b ∷ rest) a.0) (sym (eqb-true _ _ m.0))
                (mark_takes rest a.0 fits_rest a.1))
            | inr o ↦
                let h = held (eqb first 69) kinds.Kind last frame o.1 in
                let a = bind_ok (end_at rest) (λ count. Ok (end count)) frame h.1 in
                let t = end_takes rest a.0 fits_rest a.1 in
                subst (Holds tables (first ∷ rest)) (ok_is (end a.0) frame a.2)
                (ap (λ (b : ℕ). b ∷ rest) (eqb-true _ _ h.0) ∙ t.0, t.1)
          ]
    ]
