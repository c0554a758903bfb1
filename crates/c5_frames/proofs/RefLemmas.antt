-- What bytes hold that passed the tests of a payload.
use Rattle.std.proofs.Common.{◌≡◌, ◌∙◌, ℕ, zero, suc, ◌+◌, ◌-◌, ◌<◌, ◌≤◌, Bool, true, false, ◌&&◌}
use Rattle.std.proofs.Common.{cond, eqb, ltb, leb, List, [], ◌∷◌, ◌++◌, length, get_or, take, drop}
use Rattle.std.proofs.Common.{Option, Some, None, Result, Ok, Err, refl, sym, ap, subst, arith, ◌⊎◌}
use Rattle.std.proofs.Common.{inl, inr}
use Rattle.std.specs.Prelude.{slice_get}
use Rattle.std.specs.List.{list_all}
use Rattle.std.proofs.lemmas.Bool.{eqb-true, ltb-false, leb-true}
use Rattle.std.specs.Result.{result_unwrap_or}
use Rattle.std.proofs.lemmas.List.{nil_from_length, length-take-le, length-drop, drop-drop}
use Rattle.std.proofs.lemmas.List.{take_all, take_more}
use Rattle.std.proofs.lemmas.Option.{slice_get_within, get_or_from_slice_get}
use Rattle.c5_rows.specs.declared.names.Bad.{Bad}
use Rattle.c5_rows.specs.declared.names.Bad.TheVariants.{Length, Byte}
use Rattle.c5_rows.specs.Bytes.{AreBytes, IsKey, checked_bytes, is_key_byte, is_text_byte}
use Rattle.c5_rows.specs.declared.cells.CellType.{CellType}
use Rattle.c5_rows.specs.declared.cells.CellType.TheVariants as types
use Rattle.c5_rows.specs.declared.cells.Cell.{Cell}
use Rattle.c5_rows.specs.declared.cells.Cell.TheVariants.{Int, Txt}
use Rattle.c5_rows.specs.declared.tables.TableDef.{TableDef}
use Rattle.c5_rows.specs.declared.writes.Change.{Change}
use Rattle.c5_rows.specs.declared.writes.Change.TheVariants.{Put, Gone}
use Rattle.c5_rows.specs.declared.writes.Write.{Write}
use Rattle.c5_definitions.specs.declared.fault.LogKind.{LogKind}
use Rattle.c5_definitions.specs.declared.fault.LogKind.TheVariants as kinds
use Rattle.c5_definitions.specs.Steps.{◌>>=◌, or_cause}
use Rattle.c5_definitions.specs.Frames.{Mark, Frame, write, mark, end, key_at, int_at, text_at}
use Rattle.c5_definitions.specs.Frames.{cell_at, cells_at, row_at, change_at, table_numbered}
use Rattle.c5_definitions.specs.Frames.{write_at, mark_at, end_at, frame_at}
use Rattle.c5_definitions.specs.Numbers.{signed_64}
use Rattle.c5_frames.specs.Payloads.{unread}
use Rattle.c5_frames.specs.Refs.{cells_held, HoldRow, change_held, HoldWrite, row_of_change}
use Rattle.c5_frames.specs.Refs.{put_cells_of, text_bytes_of}
use Rattle.c5_frames.proofs.PayloadLemmas.{bind_ok, ok_is, rest-of}

-- ---- tests that let something through

passed : {A : Type 0} (b : Bool) (fault : LogKind) (r : Result A LogKind) (y : A)
    → cond b (Err fault) r ≡ Ok y → (b ≡ false) × (r ≡ Ok y)
passed true fault r y e = absurd cc
passed false fault r y e = (refl, e)

held : {A E : Type 0} (b : Bool) (fault : E) (r : Result A E) (y : A) → cond b r (Err fault) ≡ Ok y
    → (b ≡ true) × (r ≡ Ok y)
held true fault r y e = (refl, e)
held false fault r y e = absurd cc

both : (a b : Bool) → (a && b) ≡ true → (a ≡ true) × (b ≡ true)
both true b e = (refl, e)
both false b e = absurd cc

abbrev checked : List ℕ → Result (List ℕ) Bad
checked bytes = Ok bytes

checked_is : (x y : List ℕ) → checked x ≡ checked y → x ≡ y
checked_is x y e = cc

or_cause-ok : (fault : LogKind) (r : Result (List ℕ) Bad) (x : List ℕ) → or_cause fault r ≡ Ok x
    → r ≡ Ok x
or_cause-ok fault (Ok y) x e = ap (λ (v : List ℕ). Ok v) (ok_is y x e)
or_cause-ok fault (Err bad) x e = absurd cc

checked-ok : (least most : ℕ) (allowed : ℕ → Bool) (bytes x : List ℕ)
    → checked_bytes least most allowed bytes ≡ Ok x → (x ≡ bytes)
    × AreBytes least most allowed bytes
checked-ok least most allowed bytes x e =
    let a = held (leb least (length bytes) && leb (length bytes) most) Length
    (cond (list_all allowed bytes) (Ok bytes) (Err Byte)) x e in
    let sizes = both (leb least (length bytes)) (leb (length bytes) most) a.0 in
    let b = held (list_all allowed bytes) Byte (Ok bytes) x a.1 in (
      sym (checked_is bytes x b.1),
      record { no_shorter = leb-true _ _ sizes.0; no_longer = leb-true _ _ sizes.1; each = b.0 },
    )

-- ---- texts

-- a byte of length, and the text after it
pub record IsText (bytes : List ℕ) (x : Cell × List ℕ) : Type 0 where
  pub some : 0 < length bytes
  pub fits : get_or bytes 0 0 ≤ length (drop 1 bytes)
  pub is : x
      ≡ (Txt (take (get_or bytes 0 0) (drop 1 bytes)), drop (get_or bytes 0 0) (drop 1 bytes))
  pub allowed : checked_bytes 0 32 is_text_byte (take (get_or bytes 0 0) (drop 1 bytes))
      ≡ Ok (take (get_or bytes 0 0) (drop 1 bytes))

pub text-parts : (bytes : List ℕ) (x : Cell × List ℕ) → text_at bytes ≡ Ok x → IsText bytes x
unfolding text_at
text-parts [] x e = absurd cc
text-parts (n ∷ rest) x e =
    let long = passed (ltb (length rest) n) kinds.Cell
    (or_cause kinds.Cell (checked_bytes 0 32 is_text_byte (take n rest))
    >>= λ text. Ok (Txt text, drop n rest)) x e in
    let text = bind_ok (or_cause kinds.Cell (checked_bytes 0 32 is_text_byte (take n rest)))
    (λ text. Ok (Txt text, drop n rest)) x long.1 in
    let allowed = or_cause-ok kinds.Cell
    (checked_bytes 0 32 is_text_byte (take n rest)) text.0 text.1 in
    let same = checked-ok 0 32 is_text_byte (take n rest) text.0 allowed in
    record {
      some = omega arith;
      fits = ltb-false _ _ long.0;
      is = sym (ok_is (Txt text.0, drop n rest) x text.2) ∙ ap
          (λ (t : List ℕ). (Txt t, drop n rest)) same.0;
      allowed = allowed ∙ ap (λ (t : List ℕ). Ok t) same.0;
    }

abbrev text_cell : List ℕ → Cell
text_cell text = Txt text

text_is : (x y : List ℕ) → text_cell x ≡ text_cell y → x ≡ y
text_is x y e = cc

-- the same, seen by what was taken apart
pub text-seen : (bytes front back : List ℕ) (x : Cell × List ℕ) → text_at bytes ≡ Ok x
    → front ≡ take (get_or bytes 0 0) (drop 1 bytes) → back ≡ drop (get_or bytes 0 0) (drop 1 bytes)
    → text_at bytes ≡ Ok (Txt front, back)
text-seen bytes front back x e f b =
    let p = text-parts bytes x e in
    let rest = drop (get_or bytes 0 0) (drop 1 bytes) in
    e
    ∙ ap (λ (y : Cell × List ℕ). Ok y) p.is
    ∙ ap (λ (t : List ℕ). Ok (Txt t, rest)) (sym f)
    ∙ ap (λ (r : List ℕ). Ok (Txt front, r)) (sym b)

-- the text that was found passes the test of texts
pub text-checked : (bytes text rest : List ℕ) → text_at bytes ≡ Ok (Txt text, rest)
    → checked_bytes 0 32 is_text_byte text ≡ Ok text
text-checked bytes text rest e =
    let p = text-parts bytes (Txt text, rest) e in
    let same : text ≡ take (get_or bytes 0 0) (drop 1 bytes) =
    text_is _ _ (ap (λ (x : Cell × List ℕ). x.0) p.is) in
    subst (λ (t : List ℕ). checked_bytes 0 32 is_text_byte t ≡ Ok t) (sym same) p.allowed

pub int-cell : (column : CellType) (bytes : List ℕ) → column ≡ types.Int
    → cell_at column bytes ≡ int_at bytes
unfolding cell_at
int-cell column bytes e = ap (λ (t : CellType). cell_at t bytes) e

pub text-cell : (column : CellType) (bytes : List ℕ) → column ≡ types.Text
    → cell_at column bytes ≡ text_at bytes
unfolding cell_at
text-cell column bytes e = ap (λ (t : CellType). cell_at t bytes) e

-- ---- the cells of a row

pub row-cells : (columns : List CellType) (bytes : List ℕ) (row : List Cell)
    → row_at columns bytes ≡ Ok row → cells_at columns bytes ≡ Ok (row, [])
unfolding row_at
row-cells columns bytes row e =
    let a = bind_ok (cells_at columns bytes)
    (λ cells. cond (eqb (length cells.1) 0) (Ok cells.0) (Err kinds.Cell)) row e in
    let b = held (eqb (length a.0.1) 0) kinds.Cell (Ok a.0.0) row a.2 in
    let nothing : a.0.1 ≡ [] = nil_from_length a.0.1 (eqb-true _ _ b.0) in
    let same : a.0.0 ≡ row = ok_is a.0.0 row b.1 in
    a.1 ∙ ap (λ (cells : List Cell). Ok (cells, a.0.1)) same ∙ ap
    (λ (rest : List ℕ). Ok (row, rest)) nothing

cells-length : (columns : List CellType) (bytes : List ℕ) (x : List Cell × List ℕ)
    → cells_at columns bytes ≡ Ok x → length x.0 ≡ length columns
unfolding cells_at
cells-length [] bytes x e = sym
    (ap (λ (y : List Cell × List ℕ). length y.0) (ok_is ([], bytes) x e))
cells-length (column ∷ columns) bytes x e =
    let a = bind_ok (cell_at column bytes)
    (λ cell. cells_at columns cell.1 >>= λ cells. Ok (cell.0 ∷ cells.0, cells.1)) x e in
    let b = bind_ok (cells_at columns a.0.1) (λ cells. Ok (a.0.0 ∷ cells.0, cells.1)) x a.2 in
    let more = cells-length columns a.0.1 b.0 b.1 in
    let made : List Cell × List ℕ = (a.0.0 ∷ b.0.0, b.0.1) in
    let same : length (a.0.0 ∷ b.0.0) ≡ length x.0 =
    ap (λ (y : List Cell × List ℕ). length y.0) (ok_is made x b.2) in
    omega (arith, same, more)

-- a row has a cell for each column
pub row-length : (columns : List CellType) (bytes : List ℕ) → HoldRow columns bytes
    → length (cells_held columns bytes) ≡ length columns
row-length columns bytes h = cells-length columns bytes (cells_held columns bytes, [])
    (row-cells columns bytes (cells_held columns bytes) h)

pub row-start : (columns : List CellType) (bytes : List ℕ) → HoldRow columns bytes
    → cells_at (drop 0 columns) bytes ≡ Ok (drop 0 (cells_held columns bytes), [])
row-start columns bytes h = row-cells columns bytes (cells_held columns bytes) h

-- the cell of a column, and the bytes of those after it
pub record IsNext (columns : List CellType) (i : ℕ) (column : CellType) (bytes : List ℕ)
    (cells : List Cell) : Type 0 where
  pub cell : Cell
  pub after : List ℕ
  pub read : cell_at column bytes ≡ Ok (cell, after)
  pub here : drop i cells ≡ cell ∷ drop (i + 1) cells
  pub more : cells_at (drop (i + 1) columns) after ≡ Ok (drop (i + 1) cells, [])

pub next-cell : (columns : List CellType) (i : ℕ) (d : CellType) (bytes : List ℕ)
    (cells : List Cell) → i < length columns
    → cells_at (drop i columns) bytes ≡ Ok (drop i cells, [])
    → IsNext columns i (get_or columns i d) bytes cells
unfolding cells_at
next-cell columns i d bytes cells lt e =
    let first = get_or columns i d in
    let others = drop (i + 1) columns in
    let whole : cells_at (first ∷ others) bytes ≡ Ok (drop i cells, []) =
    ap (λ (cs : List CellType). cells_at cs bytes) (sym (rest-of columns i d lt)) ∙ e in
    let a = bind_ok (cell_at first bytes)
    (λ cell. cells_at others cell.1 >>= λ cells. Ok (cell.0 ∷ cells.0, cells.1))
    (drop i cells, []) whole in
    let b = bind_ok (cells_at others a.0.1) (λ cells. Ok (a.0.0 ∷ cells.0, cells.1))
    (drop i cells, []) a.2 in
    let made : List Cell × List ℕ = (a.0.0 ∷ b.0.0, b.0.1) in
    let same : made ≡ (drop i cells, []) = ok_is made (drop i cells, []) b.2 in
    let front : a.0.0 ∷ b.0.0 ≡ drop i cells = ap (λ (x : List Cell × List ℕ). x.0) same in
    let none : b.0.1 ≡ [] = ap (λ (x : List Cell × List ℕ). x.1) same in
    let unread : b.0.0 ≡ drop (i + 1) cells = ap (drop 1) front ∙ drop-drop 1 i cells in
    record {
      cell = a.0.0;
      after = a.0.1;
      read = a.1;
      here = sym front ∙ ap (λ (cs : List Cell). a.0.0 ∷ cs) unread;
      more = b.1 ∙ ap (λ (cs : List Cell). Ok (cs, b.0.1)) unread ∙ ap
          (λ (rest : List ℕ). Ok (drop (i + 1) cells, rest)) none;
    }

-- the same, seen by a function that gives the cell and the bytes after it
pub next-read : (columns : List CellType) (i : ℕ) (d : CellType) (bytes after : List ℕ)
    (cell : Cell) (cells : List Cell)
    → i < length columns → cells_at (drop i columns) bytes ≡ Ok (drop i cells, [])
    → cell_at (get_or columns i d) bytes ≡ Ok (cell, after)
    → (drop i cells ≡ cell ∷ drop (i + 1) cells)
    × (cells_at (drop (i + 1) columns) after ≡ Ok (drop (i + 1) cells, []))
next-read columns i d bytes after cell cells lt e read =
    let n = next-cell columns i d bytes cells lt e in
    let found : Cell × List ℕ = (n.cell, n.after) in
    let same : found ≡ (cell, after) = ok_is found (cell, after) (sym n.read ∙ read) in (
      n.here ∙ ap (λ (x : Cell × List ℕ). x.0 ∷ drop (i + 1) cells) same,
      ap (λ (x : Cell × List ℕ). cells_at (drop (i + 1) columns) x.1) (sym same) ∙ n.more,
    )

first_is : {A : Type 0} (y x : A) (xs rest : List A) → y ∷ xs ≡ x ∷ rest → y ≡ x
first_is y x xs rest e = cc

-- the first of what is left of a list
pub get-at : {A : Type 0} (xs : List A) (i : ℕ) (x : A) (rest : List A) → drop i xs ≡ x ∷ rest
    → slice_get xs i ≡ Some x
get-at [] zero x rest e = absurd cc
get-at [] (suc i) x rest e = absurd cc
get-at {A} (y ∷ xs) zero x rest e = ap (λ (z : A). Some z) (first_is y x xs rest e)
get-at (y ∷ xs) (suc i) x rest e = get-at xs i x rest e

pub take-next : {A : Type 0} (xs : List A) (i : ℕ) (x : A) (rest : List A) → drop i xs ≡ x ∷ rest
    → take (i + 1) xs ≡ take i xs ++ x ∷ []
take-next {A} xs i x rest e =
    let found = get-at xs i x rest e in
    take_more xs i x (slice_get_within xs i x found) ∙ ap (λ (y : A). take i xs ++ y ∷ [])
    (get_or_from_slice_get xs i x x found)

-- after the next cell are the others
pub next-behind : (columns : List CellType) (i : ℕ) (d : CellType) (bytes after : List ℕ)
    (cells : List Cell)
    → i < length columns → cells_at (drop i columns) bytes ≡ Ok (drop i cells, [])
    → unread (cell_at (get_or columns i d) bytes) ≡ Ok after
    → cells_at (drop (i + 1) columns) after ≡ Ok (drop (i + 1) cells, [])
next-behind columns i d bytes after cells lt e is =
    let n = next-cell columns i d bytes cells lt e in
    let same : n.after ≡ after =
    ok_is n.after after
    (sym (ap (λ (r : Result (Cell × List ℕ) LogKind). unread r) n.read) ∙ is) in
    ap (λ (rest : List ℕ). cells_at (drop (i + 1) columns) rest) (sym same) ∙ n.more

int-read : (bytes : List ℕ) (x : Cell × List ℕ) → int_at bytes ≡ Ok x → text_bytes_of x.0 ≡ None
unfolding int_at
int-read bytes x e =
    let long = passed (ltb (length bytes) 8) kinds.Cell
    (Ok (Int (signed_64 bytes), drop 8 bytes)) x e in
    ap (λ (y : Cell × List ℕ). text_bytes_of y.0)
    (sym (ok_is (Int (signed_64 bytes), drop 8 bytes) x long.1))

-- a cell of numbers isn't a text
pub int-no-text : (column : CellType) (bytes after : List ℕ) (cell : Cell) → column ≡ types.Int
    → cell_at column bytes ≡ Ok (cell, after) → text_bytes_of cell ≡ None
int-no-text column bytes after cell is e =
    int-read bytes (cell, after) (sym (int-cell column bytes is) ∙ e)

-- a row has as many cells as columns
pub row-size : (columns types : List CellType) (bytes : List ℕ) (cells : List Cell)
    → HoldRow columns bytes → types ≡ columns → cells_held columns bytes ≡ cells
    → length types ≡ length cells
row-size columns types bytes cells h t c =
    ap length t ∙ sym (row-length columns bytes h) ∙ ap length c

-- the end of a list
pub tail_is : (n : ℕ) (xs : List ℕ) → take (length xs - n) (drop n xs) ≡ drop n xs
tail_is n xs = take_all (length xs - n) (drop n xs) (omega (arith, length-drop n xs))

-- ---- changes

held-back : {X : Type 0} (r : Result X LogKind) (d x : X) → r ≡ Ok x → r ≡ Ok (result_unwrap_or r d)
held-back {X} r d x e = e ∙ ap (λ (y : X). Ok y)
    (sym (ap (λ (s : Result X LogKind). result_unwrap_or s d) e))

abbrev some_bytes : List ℕ → Option (List ℕ)
some_bytes bytes = Some bytes

some_is : (x y : List ℕ) → some_bytes x ≡ some_bytes y → x ≡ y
some_is x y e = cc

put-cells : (columns : List CellType) (rest : List ℕ) (change : Change)
    → (row_at columns rest >>= λ row. Ok (Put row)) ≡ Ok change → HoldRow columns rest
    × (change ≡ Put (cells_held columns rest))
put-cells columns rest change e =
    let x = bind_ok (row_at columns rest) (λ row. Ok (Put row)) change e in
    let holds = held-back (row_at columns rest) [] x.0 x.1 in
    let same : x.0 ≡ cells_held columns rest =
    ok_is x.0 (cells_held columns rest) (sym x.1 ∙ holds) in
    (holds, sym (ok_is (Put x.0) change x.2) ∙ ap (λ (row : List Cell). Put row) same)

-- the op byte of a put is followed by the cells of its row
pub put-row : (columns : List CellType) (all bytes : List ℕ) (change : Change)
    → change_at columns all ≡ Ok change → Some bytes ≡ put_cells_of all → HoldRow columns bytes
    × (Some (cells_held columns bytes) ≡ row_of_change change)
unfolding change_at
put-row columns [] bytes change h e = absurd cc
put-row columns (zero ∷ rest) bytes change h e =
    let p = put-cells columns rest change h in
    subst (λ (b : List ℕ). HoldRow columns b × (Some (cells_held columns b) ≡ row_of_change change))
    (sym (some_is bytes rest e)) (p.0, ap row_of_change (sym p.1))
put-row columns (suc op ∷ rest) bytes change h e = absurd cc

-- any other change is a gone
pub gone-row : (columns : List CellType) (all : List ℕ) (change : Change)
    → change_at columns all ≡ Ok change → None ≡ put_cells_of all → None ≡ row_of_change change
unfolding change_at
gone-row columns [] change h e = absurd cc
gone-row columns (zero ∷ rest) change h e = absurd cc
gone-row columns (suc zero ∷ []) change h e = ap row_of_change (ok_is Gone change h)
gone-row columns (suc zero ∷ byte ∷ rest) change h e = absurd cc
gone-row columns (suc (suc op) ∷ rest) change h e = absurd cc

-- ---- writes

-- where the parts of a write lie in its payload
pub record IsWritten (tables : List TableDef) (payload : List ℕ) (w : Write) : Type 0 where
  pub long : 3 ≤ length payload
  pub table : get_or payload 1 0 ≡ w.name.table
  pub fits : 3 + get_or payload 2 0 ≤ length payload
  pub key : take (get_or payload 2 0) (drop 3 payload) ≡ w.name.key
  pub is_key : IsKey w.name.key
  pub whole : 3 + length w.name.key ≤ length payload
  pub definition : TableDef
  pub found : slice_get tables w.name.table ≡ Some definition
  pub change : change_at definition.columns (drop (3 + length w.name.key) payload) ≡ Ok w.change

table-found : (number : ℕ) (tables : List TableDef) (table : TableDef)
    → table_numbered number tables ≡ Ok table → slice_get tables number ≡ Some table
unfolding table_numbered
table-found number tables table e =
    elim (slice_get tables number) as
    (λ (o : Option TableDef). elim o as
    (λ _. Result TableDef LogKind) [ None ↦ Err kinds.Table | Some t ↦ Ok t ] ≡ Ok table
    → o ≡ Some table) [
      | None ↦ λ h. absurd cc
      | Some t ↦ λ h. ap (λ (x : TableDef). Some x) (ok_is t table h)
    ] e

-- the length of a key, the key, and what follows it
record IsKeyed (n : ℕ) (bytes : List ℕ) (x : List ℕ × List ℕ) : Type 0 where
  fits : n ≤ length bytes
  is_key : IsKey x.0
  is : x ≡ (take n bytes, drop n bytes)

key-parts : (n : ℕ) (bytes : List ℕ) (x : List ℕ × List ℕ) → key_at (n ∷ bytes) ≡ Ok x
    → IsKeyed n bytes x
unfolding key_at
key-parts n bytes x e =
    let long = passed (ltb (length bytes) n) kinds.Key
    (or_cause kinds.Key (checked_bytes 1 32 is_key_byte (take n bytes))
    >>= λ key. Ok (key, drop n bytes)) x e in
    let key = bind_ok (or_cause kinds.Key (checked_bytes 1 32 is_key_byte (take n bytes)))
    (λ key. Ok (key, drop n bytes)) x long.1 in
    let same = checked-ok 1 32 is_key_byte (take n bytes) key.0
    (or_cause-ok kinds.Key (checked_bytes 1 32 is_key_byte (take n bytes)) key.0 key.1) in
    let is : x ≡ (take n bytes, drop n bytes) =
    sym (ok_is (key.0, drop n bytes) x key.2) ∙ ap (λ (k : List ℕ). (k, drop n bytes)) same.0 in
    record {
      fits = ltb-false _ _ long.0;
      is_key = subst (λ (y : List ℕ × List ℕ). IsKey y.0) (sym is) same.1;
      is = is;
    }

key-none : (x : List ℕ × List ℕ) → key_at [] ≡ Ok x → ⊥
unfolding key_at
key-none x e = cc

write-parts : (tables : List TableDef) (first : ℕ) (bytes : List ℕ) (w : Write)
    → write_at tables bytes ≡ Ok w → IsWritten tables (first ∷ bytes) w
unfolding write_at
write-parts tables first [] w e = absurd cc
write-parts tables first (number ∷ []) w e =
    let table = bind_ok (table_numbered number tables)
    (λ table. key_at [] >>= λ key. change_at table.columns key.1
    >>= λ change. Ok
    (record { name = record { table = number; key = key.0 }; change = change })) w e in
    let key = bind_ok (key_at [])
    (λ key. change_at table.0.columns key.1
    >>= λ change. Ok
    (record { name = record { table = number; key = key.0 }; change = change })) w table.2 in
    absurd (key-none key.0 key.1)
write-parts tables first (number ∷ n ∷ rest) w e =
    let bytes = n ∷ rest in
    let table = bind_ok (table_numbered number tables)
    (λ table. key_at bytes >>= λ key. change_at table.columns key.1
    >>= λ change. Ok
    (record { name = record { table = number; key = key.0 }; change = change })) w e in
    let key = bind_ok (key_at bytes)
    (λ key. change_at table.0.columns key.1
    >>= λ change. Ok
    (record { name = record { table = number; key = key.0 }; change = change })) w table.2 in
    let change = bind_ok (change_at table.0.columns key.0.1)
    (λ change. Ok (record { name = record { table = number; key = key.0.0 }; change = change }))
    w key.2 in
    let made : Write =
    record { name = record { table = number; key = key.0.0 }; change = change.0 } in
    let k = key-parts n rest key.0 key.1 in
    let front : key.0.0 ≡ take n rest = ap (λ (x : List ℕ × List ℕ). x.0) k.is in
    let back : key.0.1 ≡ drop n rest = ap (λ (x : List ℕ × List ℕ). x.1) k.is in
    let long : n ≤ length rest = k.fits in
    let size : length key.0.0 ≡ n = ap length front ∙ length-take-le n rest long in
    let payload = first ∷ number ∷ n ∷ rest in
    let behind_key : drop (3 + length key.0.0) payload ≡ key.0.1 =
    sym (drop-drop (length key.0.0) 3 payload) ∙ ap (λ (m : ℕ). drop m rest) size ∙ sym back in
    subst (IsWritten tables payload) (ok_is made w change.2) (record {
      long = omega arith;
      table = refl;
      fits = omega arith;
      key = sym front;
      is_key = k.is_key;
      whole = omega arith;
      definition = table.0;
      found = table-found number tables table.0 table.1;
      change = ap (λ (b : List ℕ). change_at table.0.columns b) behind_key ∙ change.1;
    })

chosen : {A : Type 0} (b : Bool) (x y z : A) → cond b x y ≡ z → (x ≡ z) ⊎ (y ≡ z)
chosen true x y z e = inl e
chosen false x y z e = inr e

abbrev made_of : Write → Frame
made_of w = write w

write_is : (x y : Write) → made_of x ≡ made_of y → x ≡ y
write_is x y e = cc

mark-no : (m : Mark) (w : Write) → mark m ≡ made_of w → ⊥
mark-no m w e = cc

end-no : (count : ℕ) (w : Write) → end count ≡ made_of w → ⊥
end-no count w e = cc

pub written : (tables : List TableDef) (payload : List ℕ) (w : Write)
    → frame_at tables payload ≡ Ok (write w) → IsWritten tables payload w
unfolding frame_at
written tables [] w e = absurd cc
written tables (first ∷ rest) w e =
    let a_write : Result Frame LogKind = write_at tables rest >>= λ found. Ok (write found) in
    let a_mark : Result Frame LogKind = mark_at rest >>= λ found. Ok (mark found) in
    let an_end : Result Frame LogKind = end_at rest >>= λ count. Ok (end count) in
    elim (chosen (eqb first 87) a_write
    (cond (eqb first 67) a_mark (cond (eqb first 69) an_end (Err kinds.Kind))) (Ok (write w)) e) [
      | inl h ↦
          let x = bind_ok (write_at tables rest) (λ found. Ok (write found)) (write w) h in
          write-parts tables first rest w
          (x.1 ∙ ap (λ (v : Write). Ok v) (write_is x.0 w (ok_is (write x.0) (write w) x.2)))
      | inr h ↦ elim
          (chosen (eqb first 67) a_mark (cond (eqb first 69) an_end (Err kinds.Kind))
          (Ok (write w)) h) [
            | inl m ↦
                let x = bind_ok (mark_at rest) (λ found. Ok (mark found)) (write w) m in
                absurd (mark-no x.0 w (ok_is (mark x.0) (write w) x.2))
            | inr o ↦
                let h2 = held (eqb first 69) kinds.Kind an_end (write w) o in
                let x = bind_ok (end_at rest) (λ count. Ok (end count)) (write w) h2.1 in
                absurd (end-no x.0 w (ok_is (end x.0) (write w) x.2))
          ]
    ]

-- the columns of the write's table
pub written-columns : (tables : List TableDef) (payload : List ℕ) (w : Write)
    (p : IsWritten tables payload w) (number : ℕ) (d : TableDef) → number ≡ w.name.table
    → get_or tables number d ≡ p.definition
written-columns tables payload w p number d same =
    get_or_from_slice_get tables number p.definition d (ap (slice_get tables) same ∙ p.found)

-- the parts hold a write
pub written-holds : (tables : List TableDef) (payload : List ℕ) (w : Write)
    (p : IsWritten tables payload w) (key : List ℕ) (columns : List CellType) (bytes : List ℕ)
    → key ≡ w.name.key → columns ≡ p.definition.columns → bytes ≡ drop (3 + length key) payload
    → HoldWrite key columns bytes × (change_held columns bytes ≡ w.change)
written-holds tables payload w p key columns bytes k c b =
    let read : change_at columns bytes ≡ Ok w.change =
    ap (λ (cs : List CellType). change_at cs bytes) c
    ∙ ap (λ (bs : List ℕ). change_at p.definition.columns bs)
    (b ∙ ap (λ (ks : List ℕ). drop (3 + length ks) payload) k)
    ∙ p.change in
    let holds = held-back (change_at columns bytes) Gone w.change read in (
      record { is_key = subst IsKey (sym k) p.is_key; is_change = holds },
      ok_is (change_held columns bytes) w.change (sym holds ∙ read),
    )

abbrev pub made : ℕ → List ℕ → Change → Write
made table key change = record { name = record { table = table; key = key }; change = change }

-- the write of the parts is the write itself
pub written-same : (w : Write) (table : ℕ) (key : List ℕ) (change : Change) → table ≡ w.name.table
    → key ≡ w.name.key → change ≡ w.change → made table key change ≡ w
written-same w table key change t k c =
    ap (λ (n : ℕ). made n key change) t
    ∙ ap (λ (b : List ℕ). made w.name.table b change) k
    ∙ ap (λ (d : Change). made w.name.table w.name.key d) c

-- what a test let through
pub is_chosen : {A : Type 0} (b : Bool) (x y : A) → Some y ≡ cond b (Some x) None → y ≡ x
is_chosen true x y e = cc
is_chosen false x y e = absurd cc
