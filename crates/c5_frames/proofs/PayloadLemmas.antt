-- Where reading ends, cell by cell; and what a payload holds if its check passes.
use Rattle.std.proofs.Common.{◌≡◌, ◌∙◌, ℕ, suc, ◌+◌, ◌<◌, ◌≤◌, Bool, false, cond, eqb, List, []}
use Rattle.std.proofs.Common.{◌∷◌, length, get_or, drop, Result, Ok, Err, refl, sym, ap, arith}
use Rattle.std.proofs.Common.{drop-cons}
use Rattle.std.proofs.lemmas.Bool.{ne_eqb}
use Rattle.std.proofs.lemmas.List.{drop_all}
use Rattle.c5_rows.specs.declared.cells.CellType.{CellType}
use Rattle.c5_rows.specs.declared.cells.Cell.{Cell}
use Rattle.c5_rows.specs.declared.tables.TableDef.{TableDef}
use Rattle.c5_rows.specs.declared.writes.RowName.{RowName}
use Rattle.c5_rows.specs.declared.writes.Write.{Write}
use Rattle.c5_definitions.specs.declared.fault.LogKind.{LogKind}
use Rattle.c5_definitions.specs.declared.fault.LogKind.TheVariants as kinds
use Rattle.c5_definitions.specs.Steps.{◌>>=◌}
use Rattle.c5_definitions.specs.Frames.{Mark, Frame, write, mark, end, cell_at, cells_at, row_at}
use Rattle.c5_definitions.specs.Frames.{frame_at}
use Rattle.c5_frames.specs.Payloads.{unread, Shown, shows_name, marked, ended, shown, shown_at}

-- ---- steps

-- the value of a step that did not fail
pub bind_ok : {A B : Type 0} (r : Result A LogKind) (f : A → Result B LogKind) (y : B)
    → (r >>= f) ≡ Ok y → (x : A) × (r ≡ Ok x) × (f x ≡ Ok y)
bind_ok (Ok x) f y e = (x, refl, e)
bind_ok (Err fault) f y e = absurd cc

abbrev done : {A : Type 0} → A → Result A LogKind
done x = Ok x

pub ok_is : {A : Type 0} (x y : A) → done x ≡ done y → x ≡ y
ok_is x y e = cc

abbrev failed : {A : Type 0} → LogKind → Result A LogKind
failed fault = Err fault

fault_is : {A : Type 0} (x y : LogKind) → failed {A = A} x ≡ failed {A = A} y → x ≡ y
fault_is x y e = cc

-- what was read before the rest
pub unread-ok : {A : Type 0} (r : Result (A × List ℕ) LogKind) (rest : List ℕ) → unread r ≡ Ok rest
    → (x : A) × (r ≡ Ok (x, rest))
unread-ok {A} (Ok x) rest e = (x.0, ap (λ (b : List ℕ). Ok (x.0, b)) (ok_is x.1 rest e))
unread-ok (Err fault) rest e = absurd cc

pub unread-err : {A : Type 0} (r : Result (A × List ℕ) LogKind) (fault : LogKind)
    → unread r ≡ Err fault → r ≡ Err fault
unread-err (Ok x) fault e = absurd cc
unread-err (Err other) fault e = ap (λ (k : LogKind). Err k) (fault_is {A = List ℕ} other fault e)

-- ---- cells

pub rest-of : {A : Type 0} (xs : List A) (i : ℕ) (d : A) → i < length xs
    → drop i xs ≡ get_or xs i d ∷ drop (i + 1) xs
rest-of xs i d lt =
    let e : suc i ≡ i + 1 = omega arith in
    drop-cons xs i d lt ∙ ap (λ (n : ℕ). get_or xs i d ∷ drop n xs) e

unread-joined : (cell : Cell) (cells : Result (List Cell × List ℕ) LogKind)
    → unread (cells >>= λ x. Ok (cell ∷ x.0, x.1)) ≡ unread cells
unread-joined cell (Ok x) = refl
unread-joined cell (Err fault) = refl

unread-first : (cell : Result (Cell × List ℕ) LogKind) (columns : List CellType)
    → unread (cell >>= λ c. cells_at columns c.1 >>= λ x. Ok (c.0 ∷ x.0, x.1))
    ≡ (unread cell >>= λ after. unread (cells_at columns after))
unread-first (Ok c) columns = unread-joined c.0 (cells_at columns c.1)
unread-first (Err fault) columns = refl

cells-step : (columns : List CellType) (i : ℕ) (d : CellType) (bytes : List ℕ)
    (read : Result (List ℕ) LogKind)
    → i < length columns → unread (cell_at (get_or columns i d) bytes) ≡ read
    → unread (cells_at (drop i columns) bytes)
    ≡ (read >>= λ after. unread (cells_at (drop (i + 1) columns) after))
unfolding cells_at
cells-step columns i d bytes read lt is =
    ap (λ (cs : List CellType). unread (cells_at cs bytes)) (rest-of columns i d lt)
    ∙ unread-first (cell_at (get_or columns i d) bytes) (drop (i + 1) columns)
    ∙ ap (λ (r : Result (List ℕ) LogKind). r
    >>= λ after. unread (cells_at (drop (i + 1) columns) after)) is

-- after one cell more the same is left to read
pub cells-more : (columns : List CellType) (i : ℕ) (d : CellType) (bytes after : List ℕ)
    (total : Result (List ℕ) LogKind)
    → i < length columns → unread (cell_at (get_or columns i d) bytes) ≡ Ok after
    → unread (cells_at (drop i columns) bytes) ≡ total
    → unread (cells_at (drop (i + 1) columns) after) ≡ total
cells-more columns i d bytes after total lt is so_far =
    sym (cells-step columns i d bytes (Ok after) lt is) ∙ so_far

pub cells-fail : (columns : List CellType) (i : ℕ) (d : CellType) (bytes : List ℕ) (fault : LogKind)
    (total : Result (List ℕ) LogKind)
    → i < length columns → unread (cell_at (get_or columns i d) bytes) ≡ Err fault
    → unread (cells_at (drop i columns) bytes) ≡ total → total ≡ Err fault
cells-fail columns i d bytes fault total lt is so_far =
    sym so_far ∙ cells-step columns i d bytes (Err fault) lt is

pub cells-all : (columns : List CellType) (i : ℕ) (bytes : List ℕ) (total : Result (List ℕ) LogKind)
    → length columns ≤ i → unread (cells_at (drop i columns) bytes) ≡ total → total ≡ Ok bytes
unfolding cells_at
cells-all columns i bytes total le so_far =
    sym so_far ∙ ap (λ (cs : List CellType). unread (cells_at cs bytes)) (drop_all i columns le)

-- ---- rows

row-of : (columns : List CellType) (bytes : List ℕ) (x : List Cell × List ℕ)
    → cells_at columns bytes ≡ Ok x → row_at columns bytes
    ≡ cond (eqb (length x.1) 0) (Ok x.0) (Err kinds.Cell)
unfolding row_at
row-of columns bytes x e = rw e refl

pub row-fails : (columns : List CellType) (bytes : List ℕ) (fault : LogKind)
    → unread (cells_at columns bytes) ≡ Err fault → row_at columns bytes ≡ Err fault
unfolding row_at
row-fails columns bytes fault e =
    let fail : cells_at columns bytes ≡ Err fault = unread-err (cells_at columns bytes) fault e in
    rw fail refl

pub row-whole : (columns : List CellType) (bytes rest : List ℕ)
    → unread (cells_at columns bytes) ≡ Ok rest → length rest < 1 → (row : List Cell)
    × (row_at columns bytes ≡ Ok row)
row-whole columns bytes [] e none =
    let x = unread-ok (cells_at columns bytes) [] e in
    (x.0, row-of columns bytes (x.0, []) x.1)
row-whole columns bytes (byte ∷ rest) e none = absurd (omega arith)

pub row-left : (columns : List CellType) (bytes rest : List ℕ)
    → unread (cells_at columns bytes) ≡ Ok rest → 0 < length rest
    → row_at columns bytes ≡ Err kinds.Cell
row-left columns bytes [] e some = absurd (omega arith)
row-left columns bytes (byte ∷ rest) e some =
    let x = unread-ok (cells_at columns bytes) (byte ∷ rest) e in
    let more : eqb (length (byte ∷ rest)) 0 ≡ false =
    ne_eqb _ _ (λ (z : length (byte ∷ rest) ≡ 0). absurd (omega arith)) in
    row-of columns bytes (x.0, byte ∷ rest) x.1 ∙ ap
    (λ (b : Bool). cond b (Ok x.0) (Err kinds.Cell)) more

-- ---- what a checked payload holds

named-frame : (frame : Frame) (name : RowName) → shown frame ≡ shows_name name → (w : Write)
    × (frame ≡ write w) × (w.name ≡ name)
named-frame (write w) name e = (w, refl, cc)
named-frame (mark m) name e = absurd cc
named-frame (end count) name e = absurd cc

marked-frame : (frame : Frame) (m : Mark) → shown frame ≡ marked m → frame ≡ mark m
marked-frame (write w) m e = absurd cc
marked-frame (mark found) m e = cc
marked-frame (end count) m e = absurd cc

ended-frame : (frame : Frame) (count : ℕ) → shown frame ≡ ended count → frame ≡ end count
ended-frame (write w) count e = absurd cc
ended-frame (mark m) count e = absurd cc
ended-frame (end found) count e = cc

-- the payload of a write with this name
pub shown-named : (tables : List TableDef) (payload : List ℕ) (name : RowName)
    → shown_at tables payload ≡ Ok (shows_name name) → (w : Write)
    × (frame_at tables payload ≡ Ok (write w)) × (w.name ≡ name)
shown-named tables payload name e =
    let x = bind_ok (frame_at tables payload) (λ frame. Ok (shown frame)) (shows_name name) e in
    let w = named-frame x.0 name (ok_is (shown x.0) (shows_name name) x.2) in
    (w.0, x.1 ∙ ap (λ (f : Frame). Ok f) w.1, w.2)

-- the payload of a mark
pub shown-marked : (tables : List TableDef) (payload : List ℕ) (m : Mark)
    → shown_at tables payload ≡ Ok (marked m) → frame_at tables payload ≡ Ok (mark m)
shown-marked tables payload m e =
    let x = bind_ok (frame_at tables payload) (λ frame. Ok (shown frame)) (marked m) e in
    x.1 ∙ ap (λ (f : Frame). Ok f) (marked-frame x.0 m (ok_is (shown x.0) (marked m) x.2))

-- the payload of the end mark
pub shown-ended : (tables : List TableDef) (payload : List ℕ) (count : ℕ)
    → shown_at tables payload ≡ Ok (ended count) → frame_at tables payload ≡ Ok (end count)
shown-ended tables payload count e =
    let x = bind_ok (frame_at tables payload) (λ frame. Ok (shown frame)) (ended count) e in
    x.1 ∙ ap (λ (f : Frame). Ok f) (ended-frame x.0 count (ok_is (shown x.0) (ended count) x.2))

-- the first fault of a payload by itself
pub shown-fault : (tables : List TableDef) (payload : List ℕ) (fault : LogKind)
    → shown_at tables payload ≡ Err fault → frame_at tables payload ≡ Err fault
shown-fault tables payload fault e =
    elim (frame_at tables payload) as
    (λ (r : Result Frame LogKind). (r >>= λ frame. Ok (shown frame)) ≡ Err fault
    → r ≡ Err fault) [
      | Ok frame ↦ λ h. absurd cc
      | Err other ↦ λ h. ap (λ (k : LogKind). Err k) (fault_is {A = Shown} other fault h)
    ] e
