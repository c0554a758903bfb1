-- The rows that a read block asks for answer it as the whole state does.
use Rattle.std.proofs.Common.{◌≡◌, ◌∙◌, ◌+◌, ◌<◌, ◌≤◌, ℕ, length, get_or, drop, Bool, true, false}
use Rattle.std.proofs.Common.{cond, List, [], ◌∷◌, ◌++◌, map, Option, Some, None, ap, sym, refl}
use Rattle.std.specs.FinMap.{get, empty, get-insert, get-remove}
use Rattle.std.specs.List.{AllByRecursion}
use Rattle.std.specs.Ordering.{eq_by_cmp, is_eq}
use Rattle.std.specs.Cmp.{tied_itself}
use Rattle.std.specs.declared.cmp.Ordering.{Ordering}
use Rattle.std.specs.declared.cmp.Ordering.TheVariants.{Less, Equal, Greater}
use Rattle.std.proofs.lemmas.List.{drop_more, drop_all}
use Rattle.c5_rows.specs.declared.cells.Cell.{Cell}
use Rattle.c5_rows.specs.declared.writes.RowName.{RowName}
use Rattle.c5_rows.specs.Order.{row_name_cmp, row_name_cmp_total, row_name_cmp_exact}
use Rattle.c5_rows.specs.State.{State}
use Rattle.c5_definitions.specs.declared.script.ReadLine.{ReadLine}
use Rattle.c5_definitions.specs.ScriptParts.{ReadParts}
use Rattle.c5_definitions.specs.Answers.{table_names, names_of_line, asked_names, line_answer}
use Rattle.c5_definitions.specs.Answers.{lines_from, answer_of}
use Rattle.c5_reads.specs.Reading.{with_row, with_rows}

pub get-with : (name q : RowName) (row : Option (List Cell)) (rows : State)
    → get (with_row name row rows) q ≡ cond (eq_by_cmp row_name_cmp q name) row (get rows q)
get-with name q (Some row) rows = get-insert row_name_cmp_total rows name row q
get-with name q None rows = get-remove row_name_cmp_total rows name q

-- names that compare alike are one
pub same-name : (q name : RowName) → eq_by_cmp row_name_cmp q name ≡ true → q ≡ name
same-name q name e = row_name_cmp_exact q name (equal_from (row_name_cmp q name) e)
  where
    equal_from : (o : Ordering) → is_eq o ≡ true → o ≡ Equal
    equal_from Less e = absurd cc
    equal_from Equal e = refl
    equal_from Greater e = absurd cc

pub own-name : (name : RowName) → eq_by_cmp row_name_cmp name name ≡ true
own-name name = ap is_eq (tied_itself row_name_cmp_total name)

-- a row that is the state's stays so
kept : (state rows : State) (name q : RowName) → get rows q ≡ get state q
    → get (with_row name (get state name) rows) q ≡ get state q
kept state rows name q h = get-with name q (get state name) rows ∙ by
    (eq_by_cmp row_name_cmp q name) refl
  where
    by : (b : Bool) → eq_by_cmp row_name_cmp q name ≡ b
        → cond b (get state name) (get rows q) ≡ get state q
    by true e = ap (get state) (sym (same-name q name e))
    by false e = h

kept-all : (state : State) (names : List RowName) (rows : State) (q : RowName)
    → get rows q ≡ get state q → get (with_rows state names rows) q ≡ get state q
kept-all state [] rows q h = h
kept-all state (name ∷ names) rows q h =
    kept-all state names (with_row name (get state name) rows) q (kept state rows name q h)

all-there : (state : State) (names : List RowName) (rows : State)
    → AllByRecursion (λ q. get (with_rows state names rows) q ≡ get state q) names
all-there state [] rows = tt
all-there state (name ∷ names) rows = (
  kept-all state names (with_row name (get state name) rows) name
      (get-with name name (get state name) rows ∙ ap
      (λ (b : Bool). cond b (get state name) (get rows name)) (own-name name)),
  all-there state names (with_row name (get state name) rows),
)

pub with-joined : (state : State) (a b : List RowName) (rows : State)
    → with_rows state (a ++ b) rows ≡ with_rows state b (with_rows state a rows)
with-joined state [] b rows = refl
with-joined state (name ∷ a) b rows = with-joined state a b (with_row name (get state name) rows)

-- ---- answers

first-part : (P : RowName → Type 0) (a b : List RowName) → AllByRecursion P (a ++ b)
    → AllByRecursion P a
first-part P [] b all = tt
first-part P (x ∷ a) b all = (all.0, first-part P a b all.1)

second-part : (P : RowName → Type 0) (a b : List RowName) → AllByRecursion P (a ++ b)
    → AllByRecursion P b
second-part P [] b all = all
second-part P (x ∷ a) b all = second-part P a b all.1

same-rows : (rows state : State) (names : List RowName)
    → AllByRecursion (λ q. get rows q ≡ get state q) names
    → map (get rows) names ≡ map (get state) names
same-rows rows state [] all = refl
same-rows rows state (name ∷ names) all = λ i. all.0 i ∷ same-rows rows state names all.1 i

same-lines : (rows state : State) (lines : List ReadLine)
    → AllByRecursion (λ q. get rows q ≡ get state q) (asked_names lines)
    → lines_from lines rows ≡ lines_from lines state
same-lines rows state [] all = refl
same-lines rows state (line ∷ lines) all =
    let P = λ (q : RowName). get rows q ≡ get state q in
    let here = same-rows rows state (names_of_line line)
    (first-part P (names_of_line line) (asked_names lines) all) in
    λ i. line_answer line (here i)
    ∷ same-lines rows state lines (second-part P (names_of_line line) (asked_names lines) all) i

pub same-answer : (state : State) (read : ReadParts) (rows : State)
    → rows ≡ with_rows state (asked_names read.lines) empty
    → answer_of read rows ≡ answer_of read state
unfolding answer_of
same-answer state read rows e =
    ap (lines_from read.lines) e ∙ same-lines
    (with_rows state (asked_names read.lines) empty) state read.lines
    (all-there state (asked_names read.lines) empty)

-- ---- names after names

pub rows-step : (state now after total : State) (left step rest : List RowName)
    → left ≡ step ++ rest → with_rows state left now ≡ total → after ≡ with_rows state step now
    → with_rows state rest after ≡ total
rows-step state now after total left step rest e h made =
    ap (with_rows state rest) made ∙ sym (with-joined state step rest now) ∙ ap
    (λ (names : List RowName). with_rows state names now) (sym e) ∙ h

pub rows-end : (state now total : State) (left : List RowName) → left ≡ []
    → with_rows state left now ≡ total → now ≡ total
rows-end state now total left e h =
    ap (λ (names : List RowName). with_rows state names now) (sym e) ∙ h

pub keys-left : (table : ℕ) (keys : List (List ℕ)) (i : ℕ) (key : List ℕ) → i < length keys
    → key ≡ get_or keys i key → table_names table (drop i keys)
    ≡ record { table = table; key = key } ∷ [] ++ table_names table (drop (i + 1) keys)
keys-left table keys i key lt is =
    ap (table_names table)
    (drop_more keys i key lt ∙ ap (λ (k : List ℕ). k ∷ drop (i + 1) keys) (sym is))

pub keys-none : (table : ℕ) (keys : List (List ℕ)) (i : ℕ) → length keys ≤ i
    → table_names table (drop i keys) ≡ []
keys-none table keys i le = ap (table_names table) (drop_all i keys le)

pub lines-left : (lines : List ReadLine) (i : ℕ) (line : ReadLine) → i < length lines
    → line ≡ get_or lines i line → asked_names (drop i lines)
    ≡ names_of_line line ++ asked_names (drop (i + 1) lines)
lines-left lines i line lt is =
    ap asked_names
    (drop_more lines i line lt ∙ ap (λ (l : ReadLine). l ∷ drop (i + 1) lines) (sym is))

pub lines-none : (lines : List ReadLine) (i : ℕ) → length lines ≤ i
    → asked_names (drop i lines) ≡ []
lines-none lines i le = ap asked_names (drop_all i lines le)
