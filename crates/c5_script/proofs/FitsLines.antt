-- What a line names is there: the statement or the question that was read fits the tables.
use Rattle.std.proofs.Common.{◌≡◌, ◌∙◌, ◌<◌, ◌+◌, ◌-◌, ◌⊎◌, ℕ, zero, suc, Bool, true, false, cond}
use Rattle.std.proofs.Common.{List, [], ◌∷◌, ◌++◌, length, map, Option, Some, None, Result, Ok, Err}
use Rattle.std.proofs.Common.{refl, sym, ap, subst, inl, inr, arith}
use Rattle.std.specs.Prelude.{slice_get, ◌==◌, IfOk, OnErr}
use Rattle.std.specs.Str.{bytes_eq}
use Rattle.std.proofs.lemmas.Bool.{eqb-true}
use Rattle.c5_rows.specs.Cells.{type_of}
use Rattle.c5_rows.specs.Bytes.{checked_bytes, is_text_byte}
use Rattle.c5_rows.specs.Tables.{table_number_from}
use Rattle.c5_rows.specs.declared.cells.CellType.{CellType}
use Rattle.c5_rows.specs.declared.cells.CellType.TheVariants as types
use Rattle.c5_rows.specs.declared.cells.Cell.{Cell}
use Rattle.c5_rows.specs.declared.cells.Cell.TheVariants.{Int, Txt}
use Rattle.c5_rows.specs.declared.tables.TableDef.{TableDef}
use Rattle.c5_rows.specs.declared.writes.RowName.{RowName}
use Rattle.c5_definitions.specs.declared.script.ScriptKind.{ScriptKind}
use Rattle.c5_definitions.specs.declared.script.ScriptKind.TheVariants as kinds
use Rattle.c5_definitions.specs.declared.script.Statement.{Statement}
use Rattle.c5_definitions.specs.declared.script.Statement.TheVariants.{Put, Del, Need, Add, Copy}
use Rattle.c5_definitions.specs.declared.script.ReadLine.{ReadLine}
use Rattle.c5_definitions.specs.declared.script.ReadLine.TheVariants.{OneRow, SumOf}
use Rattle.c5_definitions.specs.Steps.{◌>>=◌, or_cause}
use Rattle.c5_definitions.specs.Words.{Word, bare, quoted}
use Rattle.c5_definitions.specs.FitsScript.{HasIntColumn, StatementFits, ReadLineFits, BodyFits}
use Rattle.c5_rows.specs.Fitting.{RowFits}
use Rattle.c5_definitions.specs.ScriptSoFar.{in_txn}
use Rattle.c5_definitions.specs.Numerals.{is_digit, int_of_digits}
use Rattle.c5_definitions.specs.Places.{found_or, table_in, key_in, row_name_in, int_in, rel_in}
use Rattle.c5_definitions.specs.Places.{cell_in, cells_in, row_in, columns_of, of_whole_numbers}
use Rattle.c5_definitions.specs.Places.{int_column_of, column_in, each_in}
use Rattle.c5_definitions.specs.Statements.{Form, put, del, need, add, copy, put_statement}
use Rattle.c5_definitions.specs.Statements.{put_words, del_words, need_words, add_words, copy_words}
use Rattle.c5_definitions.specs.Statements.{statement_words, row_words, sum_words}
use Rattle.c5_script.specs.declared.fault.LineError.{LineError}
use Rattle.c5_script.specs.Partial.{with_statement}
use Rattle.c5_script.specs.Taking.{StepsTo}
use Rattle.c5_script.proofs.ScriptLemmas.{AllByRecursion-push}

-- ---- steps that did not fail

bind_ok : {A B : Type 0} (r : Result A ScriptKind) (f : A → Result B ScriptKind) (y : B)
    → (r >>= f) ≡ Ok y → (x : A) × (r ≡ Ok x) × (f x ≡ Ok y)
bind_ok (Ok x) f y e = (x, refl, e)
bind_ok (Err kind) f y e = absurd cc

abbrev done : {A : Type 0} → A → Result A ScriptKind
done x = Ok x

ok_is : {A : Type 0} (x y : A) → done x ≡ done y → x ≡ y
ok_is x y e = cc

found_ok : {A : Type 0} (kind : ScriptKind) (o : Option A) (x : A) → found_or kind o ≡ Ok x
    → o ≡ Some x
found_ok kind None x e = absurd cc
found_ok kind (Some y) x e = ap (λ (z : _). Some z) (ok_is y x e)

-- what a test let through
passed : {A : Type 0} (b : Bool) (r : Result A ScriptKind) (kind : ScriptKind) (x : A)
    → cond b r (Err kind) ≡ Ok x → (b ≡ true) × (r ≡ Ok x)
passed true r kind x e = (refl, e)
passed false r kind x e = absurd cc

-- ---- tables and columns

either : (b : Bool) (n k : ℕ) (r : Option ℕ) → cond b (Some n) r ≡ Some k → (n ≡ k) ⊎ (r ≡ Some k)
either true n k r e = inl cc
either false n k r e = inr e

table_number_from-below : (n : ℕ) (name : List ℕ) (tables : List TableDef) (k : ℕ)
    → table_number_from n name tables ≡ Some k → k < n + length tables
table_number_from-below n name [] k e = absurd cc
table_number_from-below n name (table ∷ tables) k e =
    elim (either (bytes_eq table.name name) n k (table_number_from (n + 1) name tables) e) [
      | inl same ↦ omega arith
      | inr later ↦ let below = table_number_from-below (n + 1) name tables k later in omega arith
    ]

table_in-below : (tables : List TableDef) (word : Word) (n : ℕ) → table_in tables word ≡ Ok n
    → n < length tables
unfolding table_in
table_in-below tables (quoted text) n e = absurd cc
table_in-below tables (bare name) n e = let below =
    table_number_from-below 0 name tables n
    (found_ok kinds.Table (table_number_from 0 name tables) n e) in omega arith

name-below : (tables : List TableDef) (t k : Word) (name : RowName)
    → row_name_in tables t k ≡ Ok name → name.table < length tables
unfolding row_name_in
name-below tables t k name e =
    let table = bind_ok (table_in tables t)
    (λ (n : ℕ). key_in k >>= λ key. Ok (record { table = n; key = key })) name e in
    let key = bind_ok (key_in k)
    (λ (bytes : List ℕ). Ok (record { table = table.0; key = bytes })) name table.2 in
    let same = ap (λ (r : RowName). r.table)
    (ok_is (record { table = table.0; key = key.0 }) name key.2) in
    subst (λ (n : ℕ). n < length tables) same (table_in-below tables t table.0 table.1)

int_of : (type : CellType) (column c : ℕ) → of_whole_numbers column type ≡ Ok c → (type ≡ types.Int)
    × (column ≡ c)
int_of types.Int column c e = (refl, ok_is column c e)
int_of types.Text column c e = absurd cc

int_column : (columns : List CellType) (column c : ℕ) → int_column_of columns column ≡ Ok c
    → slice_get columns c ≡ Some types.Int
unfolding int_column_of
int_column columns column c e =
    let found = bind_ok (found_or kinds.Column (slice_get columns column))
    (of_whole_numbers column) c e in
    let whole = int_of found.0 column c found.2 in
    ap (slice_get columns) (sym whole.1) ∙ found_ok kinds.Column
    (slice_get columns column) found.0 found.1 ∙ ap (λ (t : CellType). Some t) whole.0

column-int : (columns : List CellType) (word : Word) (c : ℕ) → column_in columns word ≡ Ok c
    → slice_get columns c ≡ Some types.Int
unfolding column_in
column-int columns (quoted text) c e = absurd cc
column-int columns (bare []) c e = absurd cc
column-int columns (bare (digit ∷ [])) c e =
    int_column columns (digit - 48) c
    (passed (is_digit digit) (int_column_of columns (digit - 48)) kinds.Column c e).1
column-int columns (bare (digit ∷ other ∷ rest)) c e = absurd cc

has_row : (tables : List TableDef) (n : ℕ) (row : List Cell) → n < length tables
    → map type_of row ≡ columns_of tables n → RowFits tables n row
has_row [] n row h e = absurd (omega arith)
has_row (table ∷ tables) zero row h e = e
has_row (table ∷ tables) (suc n) row h e = has_row tables n row (omega arith) e

has_column : (tables : List TableDef) (n c : ℕ) → n < length tables
    → slice_get (columns_of tables n) c ≡ Some types.Int → HasIntColumn tables n c
has_column [] n c h e = absurd (omega arith)
has_column (table ∷ tables) zero c h e = e
has_column (table ∷ tables) (suc n) c h e = has_column tables n c (omega arith) e

-- ---- cells

cell-type : (column : CellType) (word : Word) (cell : Cell) → cell_in column word ≡ Ok cell
    → type_of cell ≡ column
unfolding cell_in
cell-type types.Int (quoted text) cell e = absurd cc
cell-type types.Int (bare bytes) cell e =
    let n = bind_ok (found_or kinds.Number (int_of_digits bytes)) (λ n. Ok (Int n)) cell e in
    ap type_of (sym (ok_is (Int n.0) cell n.2))
cell-type types.Text (quoted text) cell e =
    let t = bind_ok (or_cause kinds.Limit (checked_bytes 0 32 is_text_byte text))
    (λ bytes. Ok (Txt bytes)) cell e in
    ap type_of (sym (ok_is (Txt t.0) cell t.2))
cell-type types.Text (bare bytes) cell e = absurd cc

cells-types : (columns : List CellType) (words : List Word) (row : List Cell)
    → length words ≡ length columns → cells_in columns words ≡ Ok row → map type_of row ≡ columns
unfolding cells_in
cells-types [] words row len e = ap (map type_of) (sym (ok_is [] row e))
cells-types (column ∷ columns) [] row len e = absurd (omega arith)
cells-types (column ∷ columns) (word ∷ words) row len e =
    let first = bind_ok (cell_in column word)
    (λ (cell : Cell). cells_in columns words >>= λ others. Ok (cell ∷ others)) row e in
    let others = bind_ok (cells_in columns words)
    (λ (cells : List Cell). Ok (first.0 ∷ cells)) row first.2 in
    ap (map type_of) (sym (ok_is (first.0 ∷ others.0) row others.2))
    ∙ ap (λ (type : CellType). type ∷ map type_of others.0) (cell-type column word first.0 first.1)
    ∙ ap (λ (rest : List CellType). column ∷ rest)
    (cells-types columns words others.0 (omega arith) others.1)

row-types : (columns : List CellType) (words : List Word) (row : List Cell)
    → row_in columns words ≡ Ok row → map type_of row ≡ columns
unfolding row_in
row-types columns words row e =
    let counted = passed (length words == length columns)
    (cells_in columns words) kinds.Count row e in
    cells-types columns words row (eqb-true (length words) (length columns) counted.0) counted.1

-- ---- statements

fits-as : (tables : List TableDef) (made statement : Statement) → StatementFits tables made
    → done made ≡ done statement → StatementFits tables statement
fits-as tables made statement fits e = subst (StatementFits tables) (ok_is made statement e) fits

put_statement-fits : (tables : List TableDef) (t k : Word) (cells : List Word)
    (statement : Statement) → put_statement tables t k cells ≡ Ok statement
    → StatementFits tables statement
unfolding put_statement
put_statement-fits tables t k cells statement e =
    let name = bind_ok (row_name_in tables t k)
    (λ (n : RowName). row_in (columns_of tables n.table) cells
    >>= λ row. Ok (Put n row)) statement e in
    let row = bind_ok (row_in (columns_of tables name.0.table) cells)
    (λ (r : List Cell). Ok (Put name.0 r)) statement name.2 in
    fits-as tables (Put name.0 row.0) statement
    (has_row tables name.0.table row.0 (name-below tables t k name.0 name.1)
    (row-types (columns_of tables name.0.table) cells row.0 row.1)) row.2

put-fits : (tables : List TableDef) (words : List Word) (statement : Statement)
    → put_words tables words ≡ Ok statement → StatementFits tables statement
unfolding put_words
put-fits tables [] statement e = absurd cc
put-fits tables (t ∷ []) statement e = absurd cc
put-fits tables (t ∷ k ∷ []) statement e = absurd cc
put-fits tables (t ∷ k ∷ cell ∷ cells) statement e =
    put_statement-fits tables t k (cell ∷ cells) statement e

del-fits : (tables : List TableDef) (words : List Word) (statement : Statement)
    → del_words tables words ≡ Ok statement → StatementFits tables statement
unfolding del_words
del-fits tables [] statement e = absurd cc
del-fits tables (t ∷ []) statement e = absurd cc
del-fits tables (t ∷ k ∷ []) statement e =
    let name = bind_ok (row_name_in tables t k) (λ (n : RowName). Ok (Del n)) statement e in
    fits-as tables (Del name.0) statement (name-below tables t k name.0 name.1) name.2
del-fits tables (t ∷ k ∷ a ∷ words) statement e = absurd cc

need-fits : (tables : List TableDef) (words : List Word) (statement : Statement)
    → need_words tables words ≡ Ok statement → StatementFits tables statement
unfolding need_words
need-fits tables [] statement e = absurd cc
need-fits tables (t ∷ []) statement e = absurd cc
need-fits tables (t ∷ k ∷ []) statement e = absurd cc
need-fits tables (t ∷ k ∷ col ∷ []) statement e = absurd cc
need-fits tables (t ∷ k ∷ col ∷ rel ∷ []) statement e = absurd cc
need-fits tables (t ∷ k ∷ col ∷ rel ∷ n ∷ []) statement e =
    let name = bind_ok (row_name_in tables t k)
    (λ (m : RowName). column_in (columns_of tables m.table) col >>= λ c. rel_in rel
    >>= λ r. int_in n >>= λ x. Ok (Need m c r x)) statement e in
    let column = bind_ok (column_in (columns_of tables name.0.table) col)
    (λ (c : ℕ). rel_in rel >>= λ r. int_in n
    >>= λ x. Ok (Need name.0 c r x)) statement name.2 in
    let relation = bind_ok (rel_in rel)
    (λ r. int_in n >>= λ x. Ok (Need name.0 column.0 r x)) statement column.2 in
    let number = bind_ok (int_in n)
    (λ x. Ok (Need name.0 column.0 relation.0 x)) statement relation.2 in
    fits-as tables (Need name.0 column.0 relation.0 number.0) statement
    (has_column tables name.0.table column.0 (name-below tables t k name.0 name.1)
    (column-int (columns_of tables name.0.table) col column.0 column.1)) number.2
need-fits tables (t ∷ k ∷ col ∷ rel ∷ n ∷ a ∷ words) statement e = absurd cc

add-fits : (tables : List TableDef) (words : List Word) (statement : Statement)
    → add_words tables words ≡ Ok statement → StatementFits tables statement
unfolding add_words
add-fits tables [] statement e = absurd cc
add-fits tables (t ∷ []) statement e = absurd cc
add-fits tables (t ∷ k ∷ []) statement e = absurd cc
add-fits tables (t ∷ k ∷ col ∷ []) statement e = absurd cc
add-fits tables (t ∷ k ∷ col ∷ n ∷ []) statement e =
    let name = bind_ok (row_name_in tables t k)
    (λ (m : RowName). column_in (columns_of tables m.table) col >>= λ c. int_in n
    >>= λ x. Ok (Add m c x)) statement e in
    let column = bind_ok (column_in (columns_of tables name.0.table) col)
    (λ (c : ℕ). int_in n >>= λ x. Ok (Add name.0 c x)) statement name.2 in
    let number = bind_ok (int_in n) (λ x. Ok (Add name.0 column.0 x)) statement column.2 in
    fits-as tables (Add name.0 column.0 number.0) statement
    (has_column tables name.0.table column.0 (name-below tables t k name.0 name.1)
    (column-int (columns_of tables name.0.table) col column.0 column.1)) number.2
add-fits tables (t ∷ k ∷ col ∷ n ∷ a ∷ words) statement e = absurd cc

copy-fits : (tables : List TableDef) (words : List Word) (statement : Statement)
    → copy_words tables words ≡ Ok statement → StatementFits tables statement
unfolding copy_words
copy-fits tables [] statement e = absurd cc
copy-fits tables (t ∷ []) statement e = absurd cc
copy-fits tables (t ∷ k ∷ []) statement e = absurd cc
copy-fits tables (t ∷ k1 ∷ k2 ∷ []) statement e =
    let from = bind_ok (row_name_in tables t k1)
    (λ (m : RowName). key_in k2 >>= λ key. Ok (Copy m (record { table = m.table; key = key })))
    statement e in
    let key = bind_ok (key_in k2)
    (λ (bytes : List ℕ). Ok (Copy from.0 (record { table = from.0.table; key = bytes })))
    statement from.2 in
    fits-as tables (Copy from.0 (record { table = from.0.table; key = key.0 })) statement
    (name-below tables t k1 from.0 from.1, refl) key.2
copy-fits tables (t ∷ k1 ∷ k2 ∷ a ∷ words) statement e = absurd cc

words-fit : (form : Form) (tables : List TableDef) (words : List Word) (statement : Statement)
    → statement_words form tables words ≡ Ok statement → StatementFits tables statement
unfolding statement_words
words-fit put = put-fits
words-fit del = del-fits
words-fit need = need-fits
words-fit add = add-fits
words-fit copy = copy-fits

-- so a body to which the statement of a line was added fits as before
pub added-fits : {X : Type 0} (form : Form) (tables : List TableDef) (words : List Word)
    (body after : List Statement) (r : Result X LineError)
    → StepsTo (λ (_ : X). in_txn after) r (with_statement body (statement_words form tables words))
    → OnErr r (after ≡ body) → BodyFits tables body → BodyFits tables after
added-fits form tables words body after (Ok x) step same fits =
    let read = bind_ok (statement_words form tables words)
    (λ (new : Statement). Ok (in_txn (body ++ new ∷ []))) (in_txn after) step in
    let all : body ++ read.0 ∷ [] ≡ after = let e = read.2 in cc in
    subst (BodyFits tables) all
    (AllByRecursion-push (StatementFits tables) body read.0 fits
    (words-fit form tables words read.0 read.1))
added-fits form tables words body after (Err error) step same fits =
    subst (BodyFits tables) (sym same) fits

-- ---- questions

row-fits : (tables : List TableDef) (words : List Word) (line : ReadLine)
    → row_words tables words ≡ Ok line → ReadLineFits tables line
unfolding row_words
row-fits tables [] line e = absurd cc
row-fits tables (t ∷ []) line e = absurd cc
row-fits tables (t ∷ k ∷ []) line e =
    let name = bind_ok (row_name_in tables t k) (λ (n : RowName). Ok (OneRow n)) line e in
    subst (ReadLineFits tables) (ok_is (OneRow name.0) line name.2)
    (name-below tables t k name.0 name.1)
row-fits tables (t ∷ k ∷ a ∷ words) line e = absurd cc

sum-fits : (tables : List TableDef) (words : List Word) (line : ReadLine)
    → sum_words tables words ≡ Ok line → ReadLineFits tables line
unfolding sum_words
sum-fits tables [] line e = absurd cc
sum-fits tables (t ∷ []) line e = absurd cc
sum-fits tables (t ∷ col ∷ []) line e = absurd cc
sum-fits tables (t ∷ col ∷ key ∷ keys) line e =
    let table = bind_ok (table_in tables t)
    (λ (n : ℕ). column_in (columns_of tables n) col >>= λ c. each_in key_in (key ∷ keys)
    >>= λ all. Ok (SumOf n c all)) line e in
    let column = bind_ok (column_in (columns_of tables table.0) col)
    (λ (c : ℕ). each_in key_in (key ∷ keys) >>= λ all. Ok (SumOf table.0 c all)) line table.2 in
    let all = bind_ok (each_in key_in (key ∷ keys))
    (λ (ks : List (List ℕ)). Ok (SumOf table.0 column.0 ks)) line column.2 in
    subst (ReadLineFits tables) (ok_is (SumOf table.0 column.0 all.0) line all.2)
    (has_column tables table.0 column.0 (table_in-below tables t table.0 table.1)
    (column-int (columns_of tables table.0) col column.0 column.1))

-- ---- what a function returned, if it returned what reading gives

if_ok : {A : Type 0} (r read : Result A ScriptKind) (P : A → Type 0) → r ≡ read
    → ((x : A) → read ≡ Ok x → P x) → IfOk r P
if_ok (Ok x) read P e f = f x (sym e)
if_ok (Err kind) read P e f = tt

pub returned-row-fits : (tables : List TableDef) (words : List Word)
    (r : Result ReadLine ScriptKind) → r ≡ row_words tables words → IfOk r (ReadLineFits tables)
returned-row-fits tables words r e =
    if_ok r (row_words tables words) (ReadLineFits tables) e (row-fits tables words)

pub returned-sum-fits : (tables : List TableDef) (words : List Word)
    (r : Result ReadLine ScriptKind) → r ≡ sum_words tables words → IfOk r (ReadLineFits tables)
returned-sum-fits tables words r e =
    if_ok r (sum_words tables words) (ReadLineFits tables) e (sum-fits tables words)
