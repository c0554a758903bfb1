-- The lines of a reply.
use Rattle.std.proofs.Common.{◌≡◌, ◌∙◌, ℕ, ℤ, zero, suc, ◌+◌, ◌-◌, ◌/◌, ◌%◌, Bool, true, false, not}
use Rattle.std.proofs.Common.{cond, eqb, pos, negsuc, List, [], ◌∷◌, ◌++◌, length, map, Option}
use Rattle.std.proofs.Common.{Some, None, refl, sym, ap, arith}
use Rattle.std.specs.Prelude.{IsTrue, ◌&&◌, codes, slice_get}
use Rattle.std.specs.FinMap.{get}
use Rattle.std.specs.Fmt.{decimal, signed_decimal, digits, digits_onto, digit_glyph}
use Rattle.std.specs.List.{AllByRecursion, flat_map, list_all}
use Rattle.std.proofs.lemmas.Bool.Decides.{nat_tests}
use Rattle.std.proofs.lemmas.List.Folds.{flat_map-map}
use Rattle.c5_rows.specs.Bytes.{is_key_byte, is_text_byte, is_name_byte}
use Rattle.c5_rows.specs.State.{State, state_after}
use Rattle.c5_rows.specs.declared.cells.Cell.{Cell}
use Rattle.c5_rows.specs.declared.cells.Cell.TheVariants.{Int, Txt}
use Rattle.c5_rows.specs.declared.tables.TableDef.{TableDef}
use Rattle.c5_rows.specs.declared.writes.RowName.{RowName}
use Rattle.c5_rows.specs.declared.writes.Txn.{Txn}
use Rattle.c5_definitions.specs.declared.script.ReadLine.{ReadLine}
use Rattle.c5_definitions.specs.declared.script.ReadLine.TheVariants.{OneRow, SumOf}
use Rattle.c5_definitions.specs.Answers.{answer_of, row_answer, line_answer, lines_from}
use Rattle.c5_definitions.specs.Answers.{names_of_line}
use Rattle.c5_definitions.specs.FitsScript.{IsRead, IsReadLine}
use Rattle.c5_definitions.specs.FitsState.{MayBeIn, StateFits}
use Rattle.c5_definitions.specs.Lawful.{IsLawfulCell, IsLawfulTable}
use Rattle.c5_definitions.specs.LineGrammar.{IsLine, ended_lines}
use Rattle.c5_definitions.specs.Lines.{lines_of}
use Rattle.c5_definitions.specs.Outputs.{number_text, head_line, answer_line, reply_text}
use Rattle.c5_definitions.specs.Replies.{reply_at}
use Rattle.c5_definitions.specs.ScriptParts.{ReadParts}
use Rattle.c5_definitions.specs.Texts.{cell_text, table_name_text, name_text}
use Rattle.c5_definitions.proofs.LineLaws.{lines-ended}

-- ---- bytes without a line end

both_true : (a b : Bool) → IsTrue a → IsTrue b → IsTrue (a && b)
both_true true b one other = other
both_true false b one other = absurd cc

parts_true : (a b : Bool) → IsTrue (a && b) → IsTrue a × IsTrue b
parts_true true b e = (refl, e)
parts_true false b e = absurd cc

line-append : (a b : List ℕ) → IsLine a → IsLine b → IsLine (a ++ b)
line-append [] b one other = other
line-append (byte ∷ a) b one other =
    let parts = parts_true (not (eqb byte 10)) (list_all (λ byte. not (eqb byte 10)) a) one in
    both_true (not (eqb byte 10)) (list_all (λ byte. not (eqb byte 10)) (a ++ b)) parts.0
    (line-append a b parts.1 other)

line-each : (allowed : ℕ → Bool) → ((byte : ℕ) → IsTrue (allowed byte) → IsTrue (not (eqb byte 10)))
    → (bytes : List ℕ) → IsTrue (list_all allowed bytes) → IsLine bytes
line-each allowed step [] each = refl
line-each allowed step (byte ∷ bytes) each =
    let parts = parts_true (allowed byte) (list_all allowed bytes) each in
    both_true (not (eqb byte 10)) (list_all (λ byte. not (eqb byte 10)) bytes) (step byte parts.0)
    (line-each allowed step bytes parts.1)

key_byte : (byte : ℕ) → IsTrue (is_key_byte byte) → IsTrue (not (eqb byte 10))
key_byte byte is = grind (arith, nat_tests)

text_byte : (byte : ℕ) → IsTrue (is_text_byte byte) → IsTrue (not (eqb byte 10))
text_byte byte is = grind (arith, nat_tests)

name_byte : (byte : ℕ) → IsTrue (is_name_byte byte) → IsTrue (not (eqb byte 10))
name_byte byte is = grind (arith, nat_tests)

-- ---- numbers

glyph : (d : ℕ) → IsTrue (not (eqb (digit_glyph false d) 10))
glyph d = grind (arith, nat_tests)

digits-line : (k n : ℕ) (acc : List ℕ) → IsLine acc → IsLine (digits_onto k 10 false n acc)
digits-line zero n acc is = is
digits-line (suc k) n acc is =
    let first = digit_glyph false (n % 10) in
    let here : IsLine (first ∷ acc) =
    both_true (not (eqb first 10)) (list_all (λ byte. not (eqb byte 10)) acc)
    (glyph (n % 10)) is in
    by (eqb (n / 10) 0) here (digits-line k (n / 10) (first ∷ acc) here)
  where
    by : (b : Bool) → IsLine (digit_glyph false (n % 10) ∷ acc)
        → IsLine (digits_onto k 10 false (n / 10) (digit_glyph false (n % 10) ∷ acc))
        → IsLine (cond b (digit_glyph false (n % 10) ∷ acc)
        (digits_onto k 10 false (n / 10) (digit_glyph false (n % 10) ∷ acc)))
    by true here more = here
    by false here more = more

decimal-line : (n : ℕ) → IsLine (decimal n)
unfolding digits
decimal-line n = digits-line 64 n [] refl

signed-line : (n : ℤ) → IsLine (signed_decimal n)
signed-line (pos n) = decimal-line n
signed-line (negsuc n) = decimal-line (suc n)

pub head-is_line : (session place lag : ℕ) → IsLine (head_line session place lag)
head-is_line session place lag =
    let one = line-append (codes "read") (number_text session) refl (decimal-line session) in
    let two = line-append (codes "read" ++ number_text session) (codes " place") one refl in
    let three = line-append ((codes "read" ++ number_text session) ++ codes " place")
    (number_text place) two (decimal-line place) in
    let four =
    line-append (((codes "read" ++ number_text session) ++ codes " place") ++ number_text place)
    (codes " lag") three refl in
    line-append ((((codes "read" ++ number_text session) ++ codes " place") ++ number_text place)
    ++ codes " lag") (number_text lag) four (decimal-line lag)

-- ---- rows

cells-line : (row : List Cell) → AllByRecursion IsLawfulCell row
    → IsLine (flat_map (λ cell. 32 ∷ cell_text cell) row)
cells-line [] lawful = refl
cells-line (Int n ∷ row) lawful =
    line-append (32 ∷ signed_decimal n) (flat_map (λ cell. 32 ∷ cell_text cell) row) (signed-line n)
    (cells-line row lawful.1)
cells-line (Txt text ∷ row) lawful =
    let inner = line-each is_text_byte text_byte text lawful.0.each in
    line-append (32 ∷ 34 ∷ text ++ 34 ∷ []) (flat_map (λ cell. 32 ∷ cell_text cell) row)
    (line-append (32 ∷ 34 ∷ text) (34 ∷ []) inner refl) (cells-line row lawful.1)

table-line : (tables : List TableDef) (n : ℕ) → AllByRecursion IsLawfulTable tables
    → IsLine (table_name_text (slice_get tables n))
table-line [] n lawful = refl
table-line (table ∷ tables) zero lawful =
    line-each is_name_byte name_byte table.name lawful.0.name.each
table-line (table ∷ tables) (suc n) lawful = table-line tables n lawful.1

name-line : (tables : List TableDef) (name : RowName) → AllByRecursion IsLawfulTable tables
    → IsTrue (list_all is_key_byte name.key) → IsLine (name_text tables name)
name-line tables name lawful key =
    line-append (table_name_text (slice_get tables name.table)) (32 ∷ name.key)
    (table-line tables name.table lawful) (line-each is_key_byte key_byte name.key key)

-- ---- answers

row-line : (tables : List TableDef) (name : RowName) (found : Option (List Cell))
    → AllByRecursion IsLawfulTable tables → IsTrue (list_all is_key_byte name.key)
    → MayBeIn tables name found → IsLine (answer_line tables (row_answer name found))
row-line tables name None lawful key fits =
    line-append (name_text tables name) (codes " -") (name-line tables name lawful key) refl
row-line tables name (Some row) lawful key fits =
    line-append (name_text tables name) (flat_map (λ cell. 32 ∷ cell_text cell) row)
    (name-line tables name lawful key) (cells-line row (fits row refl).cells)

pub answer-is_line : (tables : List TableDef) (state : State) (line : ReadLine)
    → AllByRecursion IsLawfulTable tables → IsReadLine line → StateFits tables state
    → IsLine (answer_line tables (line_answer line (map (get state) (names_of_line line))))
answer-is_line tables state (OneRow name) lawful is fits =
    row-line tables name (get state name) lawful is.each (fits name)
answer-is_line tables state (SumOf table col keys) lawful is fits =
    line-append (codes "sum ") (signed_decimal _) refl (signed-line _)

-- ---- the whole reply

each-is_line : (tables : List TableDef) (state : State) (lines : List ReadLine)
    → AllByRecursion IsLawfulTable tables → AllByRecursion IsReadLine lines → StateFits tables state
    → AllByRecursion IsLine (map (answer_line tables) (lines_from lines state))
each-is_line tables state [] lawful are fits = tt
each-is_line tables state (line ∷ lines) lawful are fits = (
  answer-is_line tables state line lawful are.0 fits,
  each-is_line tables state lines lawful are.1 fits,
)

count-lines : (tables : List TableDef) (state : State) (lines : List ReadLine)
    → length (map (answer_line tables) (lines_from lines state)) ≡ length lines
count-lines tables state [] = refl
count-lines tables state (line ∷ lines) = ap suc (count-lines tables state lines)

pub reply-lines : (tables : List TableDef) (total : ℕ) (state : State) (txns : List Txn)
    (read : ReadParts) (place : ℕ) → AllByRecursion IsLawfulTable tables → IsRead read
    → StateFits tables (state_after state txns place)
    → length (lines_of (reply_text tables total (reply_at state txns read place)))
    ≡ 1 + length read.lines
unfolding answer_of
reply-lines tables total state txns read place lawful is fits =
    let after = state_after state txns place in
    let head = head_line read.session place (total - place) in
    let answers = map (answer_line tables) (lines_from read.lines after) in
    let text = ap (λ (t : List ℕ). (head ++ 10 ∷ []) ++ t)
    (flat_map-map (λ (line : List ℕ). line ++ 10 ∷ []) (answer_line tables)
    (lines_from read.lines after)) in
    let each = each-is_line tables after read.lines lawful is.each fits in
    let split : lines_of (ended_lines (head ∷ answers)) ≡ head ∷ answers =
    lines-ended (head ∷ answers) (head-is_line read.session place (total - place), each) in
    let count = count-lines tables after read.lines in
    ap (λ (t : List ℕ). length (lines_of t)) (sym text) ∙ ap length split ∙ omega (arith, count)
