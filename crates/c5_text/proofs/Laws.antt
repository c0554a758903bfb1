-- What is read from a line is the row that the line spells, and each line of a row is read.
use Rattle.std.proofs.Common.{◌≡◌, ◌∙◌, ℕ, zero, suc, ◌+◌, ◌-◌, ◌≤◌, Bool, true, false, ◌&&◌, not}
use Rattle.std.proofs.Common.{cond, eqb, List, [], ◌∷◌, ◌++◌, length, take, drop, map, pos, negsuc}
use Rattle.std.proofs.Common.{Option, Some, None, Ok, Err, refl, sym, ap, subst, append_assoc}
use Rattle.std.proofs.Common.{arith, rules, leb, ℤ, w64}
use Rattle.std.proofs.lemmas.Bool.Decides.{nat_tests}
use Rattle.std.specs.Prelude.{slice_get, MatchOption, FitsSigned, IfSome, IfNone}
use Rattle.std.specs.Fmt.{signed_decimal, decimal}
use Rattle.std.specs.Str.{bytes_eq}
use Rattle.std.specs.Str.Parse.{AllDigits}
use Rattle.std.specs.List.{flat_map, AllByRecursion, list_all}
use Rattle.std.proofs.lemmas.Bool.{eqb-true, le-leb, leb-true}
use Rattle.std.proofs.lemmas.Slice.Eq.{bytes_eq-Decides}
use Rattle.std.proofs.lemmas.Fmt.{decimal_is_IsNumeral}
use Rattle.std.proofs.lemmas.Str.Parse.{digit_from_value}
use Rattle.std.proofs.lemmas.List.{append-nil, nil_from_length, take-append-drop}
use Rattle.c5_rows.specs.declared.names.Bad.TheVariants.{Length, Byte}
use Rattle.c5_rows.specs.Bytes.{AreBytes, IsText, IsTableName, checked_bytes, is_key_byte}
use Rattle.c5_rows.specs.Bytes.{is_text_byte, is_name_byte}
use Rattle.c5_rows.specs.Cells.{type_of}
use Rattle.c5_rows.specs.Tables.{table_number_from, table_number, HaveNames, IsSchema}
use Rattle.c5_rows.specs.declared.cells.CellType.{CellType}
use Rattle.c5_rows.specs.declared.cells.CellType.TheVariants as types
use Rattle.c5_rows.specs.declared.cells.Cell.{Cell}
use Rattle.c5_rows.specs.declared.cells.Cell.TheVariants.{Int, Txt}
use Rattle.c5_rows.specs.declared.tables.TableDef.{TableDef}
use Rattle.c5_rows.specs.declared.rows.RowEntry.{RowEntry}
use Rattle.c5_definitions.specs.Lawful.{IsLawfulCell}
use Rattle.c5_definitions.specs.Texts.{cell_text, table_name_text}
use Rattle.c5_definitions.specs.Texts.{line_text, IsRowOf}
use Rattle.c5_text.specs.Reading.{◌>>=◌, or_none, bytes_before, rest_after_byte, printed_int_of}
use Rattle.c5_text.specs.Reading.{printed_int_at, printed_text_at, printed_cell_at}
use Rattle.c5_text.specs.Reading.{printed_cells_at, printed_row_at, printed_entry_at}
use Rattle.c5_text.specs.Reading.{printed_line_at}
use Rattle.c5_text.proofs.Steps.{some_is, kept, both, bind_some, ne-eqb}
use Rattle.c5_text.proofs.Numbers.{int_of-sound, int_of-again}

-- ---- the first place of a byte

abbrev other : ℕ → ℕ → Bool
other stop byte = not (eqb byte stop)

not_is : (b : Bool) → not b ≡ true → b ≡ false
not_is true e = absurd cc
not_is false e = refl

bytes_before-append : (stop : ℕ) (prefix rest : List ℕ) → list_all (other stop) prefix ≡ true
    → bytes_before stop rest ≡ 0 → bytes_before stop (prefix ++ rest) ≡ length prefix
unfolding bytes_before
bytes_before-append stop [] rest free starts = starts
bytes_before-append stop (byte ∷ prefix) rest free starts =
    let parts = both (other stop byte) (list_all (other stop) prefix) free in
    let here : eqb byte stop ≡ false = not_is (eqb byte stop) parts.0 in
    let more = bytes_before-append stop prefix rest parts.1 starts in
    rw (here, more) refl

take-prefix : (prefix rest : List ℕ) → take (length prefix) (prefix ++ rest) ≡ prefix
take-prefix [] rest = refl
take-prefix (byte ∷ prefix) rest = ap (λ (t : List ℕ). byte ∷ t) (take-prefix prefix rest)

drop-prefix : (prefix rest : List ℕ) → drop (length prefix) (prefix ++ rest) ≡ rest
drop-prefix [] rest = refl
drop-prefix (byte ∷ prefix) rest = drop-prefix prefix rest

pub cut-prefix : (stop : ℕ) (prefix rest : List ℕ) → list_all (other stop) prefix ≡ true
    → bytes_before stop rest ≡ 0
    → take (bytes_before stop (prefix ++ rest)) (prefix ++ rest) ≡ prefix
cut-prefix stop prefix rest free starts =
    ap (λ (n : ℕ). take n (prefix ++ rest))
    (bytes_before-append stop prefix rest free starts) ∙ take-prefix prefix rest

pub cut-rest : (stop : ℕ) (prefix rest : List ℕ) → list_all (other stop) prefix ≡ true
    → bytes_before stop rest ≡ 0 → drop (bytes_before stop (prefix ++ rest)) (prefix ++ rest) ≡ rest
cut-rest stop prefix rest free starts =
    ap (λ (n : ℕ). drop n (prefix ++ rest))
    (bytes_before-append stop prefix rest free starts) ∙ drop-prefix prefix rest

bytes_before-here : (stop : ℕ) (rest : List ℕ) → bytes_before stop (stop ∷ rest) ≡ 0
unfolding bytes_before
bytes_before-here stop rest = search rules

pub rest_after_byte-sound : (first : ℕ) (bytes rest : List ℕ)
    → rest_after_byte first bytes ≡ Some rest → bytes ≡ first ∷ rest
unfolding rest_after_byte
rest_after_byte-sound first [] rest e = absurd cc
rest_after_byte-sound first (byte ∷ bytes) rest e =
    let a = kept (eqb byte first) (Some bytes) rest e in
    ap (λ (b : ℕ). b ∷ bytes) (eqb-true byte first a.0) ∙ ap (λ (t : List ℕ). first ∷ t)
    (some_is bytes rest a.1)

pub rest_after_byte-again : (first : ℕ) (rest : List ℕ)
    → rest_after_byte first (first ∷ rest) ≡ Some rest
unfolding rest_after_byte
rest_after_byte-again first rest = search rules

-- ---- bytes that are allowed

all-other : (p q : ℕ → Bool) → ((byte : ℕ) → p byte ≡ true → q byte ≡ true) → (bytes : List ℕ)
    → list_all p bytes ≡ true → list_all q bytes ≡ true
all-other p q step [] e = refl
all-other p q step (byte ∷ bytes) e =
    let parts = both (p byte) (list_all p bytes) e in
    rw (step byte parts.0, all-other p q step bytes parts.1) refl

key_byte-other : (byte : ℕ) → is_key_byte byte ≡ true → other 32 byte ≡ true
key_byte-other byte e = grind (arith, nat_tests)

text_byte-other : (byte : ℕ) → is_text_byte byte ≡ true → other 34 byte ≡ true
text_byte-other byte e = grind (arith, nat_tests)

name_byte-other : (byte : ℕ) → is_name_byte byte ≡ true → other 32 byte ≡ true
name_byte-other byte e = grind (arith, nat_tests)

pub digits-other : (bytes : List ℕ) → AllDigits 10 bytes → list_all (other 32) bytes ≡ true
digits-other [] digits = refl
digits-other (byte ∷ bytes) digits =
    let range = digit_from_value byte digits.0 in
    let here : eqb byte 32 ≡ false = ne-eqb byte 32 (λ e. omega (arith, range.0, range.1)) in
    rw (here, digits-other bytes digits.1) refl

number-other : (n : ℤ) → FitsSigned w64 n → list_all (other 32) (signed_decimal n) ≡ true
number-other (pos n) fits = digits-other (decimal n)
    (decimal_is_IsNumeral n (omega (arith, fits.sfits))).0.1
number-other (negsuc n) fits = digits-other (decimal (suc n))
    (decimal_is_IsNumeral (suc n) (omega (arith, fits.sfits))).0.1

checked-sound : (least most : ℕ) (allowed : ℕ → Bool) (bytes x : List ℕ)
    → or_none (checked_bytes least most allowed bytes) ≡ Some x → (x ≡ bytes)
    × AreBytes least most allowed x
checked-sound least most allowed bytes x e =
    cases (leb least (length bytes)) refl (leb (length bytes) most) refl
    (list_all allowed bytes) refl e
  where
    cases : (a : Bool) → leb least (length bytes) ≡ a → (b : Bool) → leb (length bytes) most ≡ b
        → (d : Bool) → list_all allowed bytes ≡ d
        → or_none (cond (a && b) (cond d (Ok bytes) (Err Byte)) (Err Length)) ≡ Some x → (x ≡ bytes)
        × AreBytes least most allowed x
    cases true low true high true each e =
        subst (λ (y : List ℕ). (y ≡ bytes) × AreBytes least most allowed y) (some_is bytes x e)
        (refl, record { no_shorter = leb-true _ _ low; no_longer = leb-true _ _ high; each = each })
    cases true low true high false each e = absurd cc
    cases true low false high d each e = absurd cc
    cases false low b high d each e = absurd cc

checked-again : (least most : ℕ) (allowed : ℕ → Bool) (bytes : List ℕ)
    → AreBytes least most allowed bytes → or_none (checked_bytes least most allowed bytes)
    ≡ Some bytes
checked-again least most allowed bytes are =
    let low = le-leb least (length bytes) are.no_shorter in
    let high = le-leb (length bytes) most are.no_longer in
    let each : list_all allowed bytes ≡ true = are.each in
    rw (low, high, each) refl

-- ---- cells

-- the text of the cell, and what follows it
pub record IsCell (column : CellType) (bytes : List ℕ) (x : Cell × List ℕ) : Type 0 where
  pub parts : bytes ≡ cell_text x.0 ++ x.1
  pub lawful : IsLawfulCell x.0
  pub type : type_of x.0 ≡ column

int-sound : (bytes : List ℕ) (x : Cell × List ℕ) → printed_int_at bytes ≡ Some x
    → IsCell types.Int bytes x
unfolding printed_int_at
int-sound bytes x e =
    let n = bytes_before 32 bytes in
    let a = bind_some (printed_int_of (take n bytes))
    (λ number. Some (Int number, drop n bytes)) x e in
    let s = int_of-sound (take n bytes) a.0 a.1 in
    subst (IsCell types.Int bytes) (some_is (Int a.0, drop n bytes) x a.2) (record {
      parts = sym (take-append-drop n bytes) ∙ ap (λ (t : List ℕ). t ++ drop n bytes) s.0;
      lawful = s.1;
      type = refl;
    })

text-sound : (quoted : List ℕ) (x : Cell × List ℕ) → printed_text_at quoted ≡ Some x
    → IsCell types.Text quoted x
unfolding printed_text_at
text-sound quoted x e =
    let a = bind_some (rest_after_byte 34 quoted)
    (λ bytes. or_none (checked_bytes 0 32 is_text_byte (take (bytes_before 34 bytes) bytes))
    >>= λ text. rest_after_byte 34 (drop (bytes_before 34 bytes) bytes)
    >>= λ rest. Some (Txt text, rest)) x e in
    let bytes = a.0 in
    let n = bytes_before 34 bytes in
    let b = bind_some (or_none (checked_bytes 0 32 is_text_byte (take n bytes)))
    (λ text. rest_after_byte 34 (drop n bytes) >>= λ rest. Some (Txt text, rest)) x a.2 in
    let d = bind_some (rest_after_byte 34 (drop n bytes)) (λ rest. Some (Txt b.0, rest)) x b.2 in
    let checked = checked-sound 0 32 is_text_byte (take n bytes) b.0 b.1 in
    let close : drop n bytes ≡ 34 ∷ d.0 = rest_after_byte-sound 34 (drop n bytes) d.0 d.1 in
    let inner : bytes ≡ b.0 ++ 34 ∷ d.0 =
    sym (take-append-drop n bytes) ∙ ap (λ (t : List ℕ). t ++ drop n bytes) (sym checked.0) ∙ ap
    (λ (t : List ℕ). b.0 ++ t) close in
    subst (IsCell types.Text quoted) (some_is (Txt b.0, d.0) x d.2) (record {
      parts = rest_after_byte-sound 34 quoted bytes a.1 ∙ ap (λ (t : List ℕ). 34 ∷ t)
          (inner ∙ sym (append_assoc b.0 (34 ∷ []) d.0));
      lawful = checked.1;
      type = refl;
    })

-- the cell after its blank
pub record IsCellAfterBlank (column : CellType) (bytes : List ℕ) (x : Cell × List ℕ) : Type 0 where
  pub parts : bytes ≡ 32 ∷ cell_text x.0 ++ x.1
  pub lawful : IsLawfulCell x.0
  pub type : type_of x.0 ≡ column

with_blank : (column : CellType) (bytes rest : List ℕ) (x : Cell × List ℕ)
    → rest_after_byte 32 bytes ≡ Some rest → IsCell column rest x → IsCellAfterBlank column bytes x
with_blank column bytes rest x e cell =
    record {
      parts = rest_after_byte-sound 32 bytes rest e ∙ ap (λ (t : List ℕ). 32 ∷ t) cell.parts;
      lawful = cell.lawful;
      type = cell.type;
    }

cell-sound : (column : CellType) (bytes : List ℕ) (x : Cell × List ℕ)
    → printed_cell_at column bytes ≡ Some x → IsCellAfterBlank column bytes x
unfolding printed_cell_at
cell-sound types.Int bytes x e = let a = bind_some (rest_after_byte 32 bytes) printed_int_at x e in
    with_blank types.Int bytes a.0 x a.1 (int-sound a.0 x a.2)
cell-sound types.Text bytes x e = let a =
    bind_some (rest_after_byte 32 bytes) printed_text_at x e in
    with_blank types.Text bytes a.0 x a.1 (text-sound a.0 x a.2)

int-again : (n : ℤ) (rest : List ℕ) → FitsSigned w64 n → bytes_before 32 rest ≡ 0
    → printed_int_at (signed_decimal n ++ rest) ≡ Some (Int n, rest)
unfolding printed_int_at
int-again n rest fits starts =
    let free = number-other n fits in
    let prefix = cut-prefix 32 (signed_decimal n) rest free starts in
    let back = cut-rest 32 (signed_decimal n) rest free starts in
    rw (prefix, back, int_of-again n fits) refl

text-again : (text rest : List ℕ) → IsText text
    → printed_text_at (34 ∷ text ++ 34 ∷ rest) ≡ Some (Txt text, rest)
unfolding printed_text_at
text-again text rest is =
    let free = all-other is_text_byte (other 34) text_byte-other text is.each in
    let starts = bytes_before-here 34 rest in
    let prefix = cut-prefix 34 text (34 ∷ rest) free starts in
    let back = cut-rest 34 text (34 ∷ rest) free starts in
    rw (
      rest_after_byte-again 34 (text ++ 34 ∷ rest),
      prefix,
      checked-again 0 32 is_text_byte text is,
      back,
      rest_after_byte-again 34 rest,
    ) refl

cell-again : (cell : Cell) (rest : List ℕ) → IsLawfulCell cell → bytes_before 32 rest ≡ 0
    → printed_cell_at (type_of cell) (32 ∷ cell_text cell ++ rest) ≡ Some (cell, rest)
unfolding printed_cell_at
cell-again (Int n) rest lawful starts =
    rw (rest_after_byte-again 32 (signed_decimal n ++ rest)) (int-again n rest lawful starts)
cell-again (Txt text) rest lawful starts =
    let joined : 34 ∷ (text ++ 34 ∷ []) ++ rest ≡ 34 ∷ text ++ 34 ∷ rest =
    ap (λ (t : List ℕ). 34 ∷ t) (append_assoc text (34 ∷ []) rest) in
    rw (rest_after_byte-again 32 (34 ∷ (text ++ 34 ∷ []) ++ rest))
    (ap printed_text_at joined ∙ text-again text rest lawful)

-- ---- all cells

abbrev cells_text : List Cell → List ℕ
cells_text cells = flat_map (λ cell. 32 ∷ cell_text cell) cells

cells-sound : (columns : List CellType) (bytes : List ℕ) (x : List Cell × List ℕ)
    → printed_cells_at columns bytes ≡ Some x → (bytes ≡ cells_text x.0 ++ x.1)
    × AllByRecursion IsLawfulCell x.0 × (map type_of x.0 ≡ columns)
unfolding printed_cells_at
cells-sound [] bytes x e = subst
    (λ (y : List Cell × List ℕ). (bytes ≡ cells_text y.0 ++ y.1) × AllByRecursion IsLawfulCell y.0
    × (map type_of y.0 ≡ [])) (some_is ([], bytes) x e) (refl, tt, refl)
cells-sound (column ∷ columns) bytes x e =
    let a = bind_some (printed_cell_at column bytes)
    (λ cell. printed_cells_at columns cell.1
    >>= λ cells. Some (cell.0 ∷ cells.0, cells.1)) x e in
    let b = bind_some (printed_cells_at columns a.0.1)
    (λ cells. Some (a.0.0 ∷ cells.0, cells.1)) x a.2 in
    let one = cell-sound column bytes a.0 a.1 in
    let more = cells-sound columns a.0.1 b.0 b.1 in
    let made : List Cell × List ℕ = (a.0.0 ∷ b.0.0, b.0.1) in
    let text = cell_text a.0.0 in
    let parts : bytes ≡ (32 ∷ text ++ cells_text b.0.0) ++ b.0.1 =
    one.parts ∙ ap (λ (t : List ℕ). 32 ∷ text ++ t) more.0 ∙ ap (λ (t : List ℕ). 32 ∷ t)
    (sym (append_assoc text (cells_text b.0.0) b.0.1)) in
    subst (λ (y : List Cell × List ℕ). (bytes ≡ cells_text y.0 ++ y.1)
    × AllByRecursion IsLawfulCell y.0 × (map type_of y.0 ≡ column ∷ columns))
    (some_is made x b.2) (
      parts,
      (one.lawful, more.1),
      ap (λ (t : CellType). t ∷ map type_of b.0.0) one.type ∙ ap
          (λ (ts : List CellType). column ∷ ts) more.2,
    )

cells_text-starts : (cells : List Cell) → bytes_before 32 (cells_text cells) ≡ 0
unfolding bytes_before
cells_text-starts [] = refl
cells_text-starts (cell ∷ cells) = bytes_before-here 32 (cell_text cell ++ cells_text cells)

cells-again : (cells : List Cell) → AllByRecursion IsLawfulCell cells
    → printed_cells_at (map type_of cells) (cells_text cells) ≡ Some (cells, [])
unfolding printed_cells_at
cells-again [] lawful = refl
cells-again (cell ∷ cells) lawful =
    rw (
      cell-again cell (cells_text cells) lawful.0 (cells_text-starts cells),
      cells-again cells lawful.1,
    ) refl

row-sound : (columns : List CellType) (bytes : List ℕ) (row : List Cell)
    → printed_row_at columns bytes ≡ Some row → (bytes ≡ cells_text row)
    × AllByRecursion IsLawfulCell row × (map type_of row ≡ columns)
unfolding printed_row_at
row-sound columns bytes row e =
    let a = bind_some (printed_cells_at columns bytes)
    (λ cells. cond (eqb (length cells.1) 0) (Some cells.0) None) row e in
    let b = kept (eqb (length a.0.1) 0) (Some a.0.0) row a.2 in
    let s = cells-sound columns bytes a.0 a.1 in
    let nothing : a.0.1 ≡ [] = nil_from_length a.0.1 (eqb-true _ _ b.0) in
    let whole : bytes ≡ cells_text a.0.0 =
    s.0 ∙ ap (λ (r : List ℕ). cells_text a.0.0 ++ r) nothing ∙ append-nil (cells_text a.0.0) in
    subst (λ (y : List Cell). (bytes ≡ cells_text y) × AllByRecursion IsLawfulCell y
    × (map type_of y ≡ columns)) (some_is a.0.0 row b.1) (whole, s.1, s.2)

row-again : (columns : List CellType) (row : List Cell) → AllByRecursion IsLawfulCell row
    → map type_of row ≡ columns → printed_row_at columns (cells_text row) ≡ Some row
unfolding printed_row_at
row-again columns row lawful fits = rw (sym fits, cells-again row lawful) refl

-- ---- tables

abbrev HasNumber : ℕ → ℕ → List ℕ → List TableDef → Type 0
HasNumber n k name tables = (n ≤ k)
    × ((table : TableDef) → slice_get tables (k - n) ≡ Some table → table.name ≡ name)

number-step : (n k : ℕ) (name : List ℕ) (first : TableDef) (tables : List TableDef)
    → (table_number_from (n + 1) name tables ≡ Some k → HasNumber (n + 1) k name tables)
    → (b : Bool) → bytes_eq first.name name ≡ b
    → cond b (Some n) (table_number_from (n + 1) name tables) ≡ Some k
    → HasNumber n k name (first ∷ tables)
number-step n k name first tables later true same e =
    let here : n ≡ k = some_is n k e in
    let none : k - n ≡ 0 = omega arith in (
      omega arith,
      λ table at.
          let this : first ≡ table =
          some_is first table (ap (slice_get (first ∷ tables)) (sym none) ∙ at) in
          ap (λ (t : TableDef). t.name) (sym this) ∙ (bytes_eq-Decides first.name name).0 same,
    )
number-step n k name first tables later false other e =
    let more = later e in
    let le = more.0 in
    let less : k - n ≡ suc (k - (n + 1)) = omega arith in (
      omega arith,
      λ table at. more.1 table (ap (slice_get (first ∷ tables)) (sym less) ∙ at),
    )

table-sound : (n k : ℕ) (name : List ℕ) (tables : List TableDef)
    → table_number_from n name tables ≡ Some k → HasNumber n k name tables
table-sound n k name [] e = absurd cc
table-sound n k name (first ∷ tables) e =
    number-step n k name first tables (table-sound (n + 1) k name tables)
    (bytes_eq first.name name) refl e

again-step : (n k : ℕ) (table first : TableDef) (tables : List TableDef)
    → table_number first.name tables ≡ None
    → ((m : ℕ) → table_number_from m table.name tables ≡ Some (m + k))
    → (b : Bool) → bytes_eq first.name table.name ≡ b
    → cond b (Some n) (table_number_from (n + 1) table.name tables) ≡ Some (n + suc k)
again-step n k table first tables free later true same =
    let free_too : table_number_from 0 table.name tables ≡ None =
    ap (λ (name : List ℕ). table_number_from 0 name tables)
    (sym ((bytes_eq-Decides first.name table.name).0 same)) ∙ free in
    let clash : Some (0 + k) ≡ None = sym (later 0) ∙ free_too in
    absurd cc
again-step n k table first tables free later false other =
    let sum : (n + 1) + k ≡ n + suc k = omega arith in
    later (n + 1) ∙ ap (λ (m : ℕ). Some m) sum

table-again : (n k : ℕ) (table : TableDef) (tables : List TableDef) → HaveNames tables
    → slice_get tables k ≡ Some table → table_number_from n table.name tables ≡ Some (n + k)
table-again n k table [] names at = absurd cc
table-again n zero table (first ∷ tables) names at =
    let this : first ≡ table = some_is first table at in
    let same : bytes_eq first.name table.name ≡ true =
    (bytes_eq-Decides first.name table.name).1 (ap (λ (t : TableDef). t.name) this) in
    let sum : n ≡ n + 0 = omega arith in
    rw same (ap (λ (m : ℕ). Some m) sum)
table-again n (suc k) table (first ∷ tables) names at =
    again-step n k table first tables names.0 (λ m. table-again m k table tables names.1 at)
    (bytes_eq first.name table.name) refl

table_number-name : (k : ℕ) (name : List ℕ) (table : TableDef) (tables : List TableDef)
    → table_number name tables ≡ Some k → slice_get tables k ≡ Some table → table.name ≡ name
table_number-name k name table tables e at =
    let same : k - 0 ≡ k = omega arith in
    (table-sound 0 k name tables e).1 table (ap (slice_get tables) same ∙ at)

table_number-again : (k : ℕ) (table : TableDef) (tables : List TableDef) → HaveNames tables
    → slice_get tables k ≡ Some table → table_number table.name tables ≡ Some k
table_number-again k table tables names at =
    let same : 0 + k ≡ k = omega arith in
    table-again 0 k table tables names at ∙ ap (λ (m : ℕ). Some m) same

-- ---- lines

matched : (found : Option TableDef) (table : TableDef) (P : TableDef → Type 0) → found ≡ Some table
    → P table → MatchOption found ⊥ P
matched found table P e p = subst (λ (r : Option TableDef). MatchOption r ⊥ P) (sym e) p

match-of : (found : Option TableDef) (P : TableDef → Type 0) → MatchOption found ⊥ P
    → (table : TableDef) × (found ≡ Some table) × P table
match-of (Some table) P p = (table, refl, p)
match-of None P p = absurd p

line-sound : (tables : List TableDef) (line : List ℕ) (entry : RowEntry)
    → printed_line_at tables line ≡ Some entry → (line ≡ line_text tables entry)
    × IsRowOf tables entry
unfolding printed_line_at printed_entry_at
line-sound tables line entry e =
    let n = bytes_before 32 line in
    let rest = drop n line in
    let a = bind_some (table_number (take n line) tables)
    (λ number. printed_entry_at tables number rest) entry e in
    let number = a.0 in
    let b = bind_some (slice_get tables number)
    (λ table. rest_after_byte 32 rest
    >>= λ bytes. or_none (checked_bytes 1 32 is_key_byte (take (bytes_before 32 bytes) bytes))
    >>= λ key. printed_row_at table.columns (drop (bytes_before 32 bytes) bytes)
    >>= λ row. Some (record { name = record { table = number; key = key }; row = row })) entry
    a.2 in
    let table = b.0 in
    let d = bind_some (rest_after_byte 32 rest)
    (λ bytes. or_none (checked_bytes 1 32 is_key_byte (take (bytes_before 32 bytes) bytes))
    >>= λ key. printed_row_at table.columns (drop (bytes_before 32 bytes) bytes)
    >>= λ row. Some (record { name = record { table = number; key = key }; row = row })) entry
    b.2 in
    let bytes = d.0 in
    let m = bytes_before 32 bytes in
    let f = bind_some (or_none (checked_bytes 1 32 is_key_byte (take m bytes)))
    (λ key. printed_row_at table.columns (drop m bytes)
    >>= λ row. Some (record { name = record { table = number; key = key }; row = row })) entry
    d.2 in
    let key = f.0 in
    let g = bind_some (printed_row_at table.columns (drop m bytes))
    (λ row. Some (record { name = record { table = number; key = key }; row = row })) entry f.2
    in
    let row = g.0 in
    let made : RowEntry = record { name = record { table = number; key = key }; row = row } in
    let name_is : table.name ≡ take n line =
    table_number-name number (take n line) table tables a.1 b.1 in
    let checked = checked-sound 1 32 is_key_byte (take m bytes) key f.1 in
    let cells = row-sound table.columns (drop m bytes) row g.1 in
    let tail : bytes ≡ key ++ cells_text row =
    sym (take-append-drop m bytes) ∙ ap (λ (t : List ℕ). t ++ drop m bytes) (sym checked.0) ∙ ap
    (λ (t : List ℕ). key ++ t) cells.0 in
    let name : table_name_text (slice_get tables number) ≡ take n line =
    ap table_name_text b.1 ∙ name_is in
    let text : line ≡ line_text tables made =
    sym (take-append-drop n line)
    ∙ ap (λ (t : List ℕ). t ++ rest) (sym name)
    ∙ ap (λ (t : List ℕ). table_name_text (slice_get tables number) ++ t)
    (rest_after_byte-sound 32 rest bytes d.1 ∙ ap (λ (t : List ℕ). 32 ∷ t) tail)
    ∙ sym (append_assoc (table_name_text (slice_get tables number)) (32 ∷ key) (cells_text row)) in
    subst (λ (y : RowEntry). (line ≡ line_text tables y) × IsRowOf tables y)
    (some_is made entry g.2) (
      text,
      record {
        key = checked.1;
        cells = cells.1;
        fits = matched (slice_get tables number) table
            (λ t. map type_of row ≡ t.columns) b.1 cells.2;
      },
    )

line-again : (tables : List TableDef) (entry : RowEntry) → IsSchema tables
    → ((number : ℕ) (table : TableDef) → slice_get tables number ≡ Some table
    → IsTableName table.name) → IsRowOf tables entry
    → printed_line_at tables (line_text tables entry) ≡ Some entry
unfolding printed_line_at printed_entry_at
line-again tables entry schema names is =
    let number = entry.name.table in
    let key = entry.name.key in
    let row = entry.row in
    let t = match-of (slice_get tables number) (λ table. map type_of row ≡ table.columns) is.fits in
    let table = t.0 in
    let allowed = names number table t.1 in
    let tail = key ++ cells_text row in
    let free = all-other is_name_byte (other 32) name_byte-other table.name allowed.each in
    let starts = bytes_before-here 32 tail in
    let prefix = cut-prefix 32 table.name (32 ∷ tail) free starts in
    let back = cut-rest 32 table.name (32 ∷ tail) free starts in
    let found : table_number table.name tables ≡ Some number =
    table_number-again number table tables schema.names t.1 in
    let key_free = all-other is_key_byte (other 32) key_byte-other key is.key.each in
    let key_prefix = cut-prefix 32 key (cells_text row) key_free (cells_text-starts row) in
    let key_back = cut-rest 32 key (cells_text row) key_free (cells_text-starts row) in
    let name : line_text tables entry ≡ table.name ++ 32 ∷ tail =
    append_assoc (table_name_text (slice_get tables number)) (32 ∷ key) (cells_text row) ∙ ap
    (λ (r : Option TableDef). table_name_text r ++ 32 ∷ tail) t.1 in
    rw (
      name,
      prefix,
      back,
      found,
      t.1,
      rest_after_byte-again 32 tail,
      key_prefix,
      key_back,
      checked-again 1 32 is_key_byte key is.key,
      row-again table.columns row is.cells t.2,
    ) refl

-- ---- what a function returned that reads so

pub found-in : (tables schema : List TableDef) (line : List ℕ) (r : Option RowEntry)
    → tables ≡ schema → r ≡ printed_line_at tables line
    → IfSome r (λ entry. (line ≡ line_text schema entry) × IsRowOf schema entry)
found-in tables schema line (Some entry) same e =
    subst (λ (t : List TableDef). (line ≡ line_text t entry) × IsRowOf t entry) same
    (line-sound tables line entry (sym e))
found-in tables schema line None same e = tt

pub only-in : (tables schema : List TableDef) (line : List ℕ) (r : Option RowEntry)
    → tables ≡ schema → IsSchema schema
    → ((number : ℕ) (table : TableDef) → slice_get tables number ≡ Some table
    → IsTableName table.name) → r ≡ printed_line_at tables line
    → (entry : RowEntry) → IsRowOf schema entry → line ≡ line_text schema entry → r ≡ Some entry
only-in tables schema line r same is_schema names e entry is text =
    let found = line-again tables entry (subst IsSchema (sym same) is_schema) names
    (subst (λ (t : List TableDef). IsRowOf t entry) (sym same) is) in
    e ∙ ap (printed_line_at tables)
    (text ∙ ap (λ (t : List TableDef). line_text t entry) (sym same)) ∙ found

pub none-in : (tables schema : List TableDef) (line : List ℕ) (r : Option RowEntry)
    → tables ≡ schema → IsSchema schema
    → ((number : ℕ) (table : TableDef) → slice_get tables number ≡ Some table
    → IsTableName table.name) → r ≡ printed_line_at tables line
    → IfNone r ((entry : RowEntry) → IsRowOf schema entry → line ≡ line_text schema entry → ⊥)
none-in tables schema line (Some x) same is_schema names e = tt
none-in tables schema line None same is_schema names e = λ entry is text. let clash =
    only-in tables schema line None same is_schema names e entry is text in cc
