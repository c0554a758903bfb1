-- One line more of a read block.
use Rattle.std.proofs.Common.{◌≡◌, ℕ, ◌+◌, ◌<◌, ◌≤◌, List, [], ◌∷◌, ◌++◌, length, map, get_or, take}
use Rattle.std.proofs.Common.{drop, refl, ap, sym, subst, ◌∙◌, append_assoc, append-nil, Option, ℤ}
use Rattle.std.proofs.Common.{pos, neg_ℤ, ◌+ℤ◌, ◌≤ℤ◌, ◌*◌, FitsSigned, to_z, of_z, w64, arith}
use Rattle.std.specs.Int.{w128}
use Rattle.std.proofs.lemmas.Int.{ints}
use Rattle.std.proofs.lemmas.List.{drop_more, drop_all, take_more, take_at, drop_at, length-map}
use Rattle.std.proofs.lemmas.List.{map-append}
use Rattle.c5_rows.specs.declared.cells.Cell.{Cell}
use Rattle.c5_rows.specs.declared.writes.RowName.{RowName}
use Rattle.c5_rows.specs.declared.answer.AnswerLine.{AnswerLine}
use Rattle.c5_definitions.specs.declared.script.ReadLine.{ReadLine}
use Rattle.c5_definitions.specs.Follows.{Read}
use Rattle.c5_definitions.specs.Answers.{names_of_line, table_names, line_answer, lines_over}
use Rattle.c5_definitions.specs.Answers.{sum_in, or_zero, IsAnswered}
use Rattle.c5_definitions.specs.Effects.{int_in_column}

-- an answer to the lines from this place on, after this one, is the answer to all
abbrev pub Rounds : List ReadLine → List ReadLine → List Read → List AnswerLine → Type 0
Rounds all rest reads answer = (more : List Read) (later : List AnswerLine)
    → IsAnswered rest more later → IsAnswered all (reads ++ more) (answer ++ later)

-- the answer to one line, and then those to the others
line_first : (line : ReadLine) (lines : List ReadLine) (reads more : List Read)
    (later : List AnswerLine) →
    map (λ read. read.0) reads ≡ names_of_line line → IsAnswered lines more later
    → IsAnswered (line ∷ lines) (reads ++ more)
    (line_answer line (map (λ read. read.1) reads) ∷ later)
line_first line lines reads more later names rest =
    let count : length reads ≡ length (names_of_line line) =
    sym (length-map reads (λ (read : Read). read.0)) ∙ ap length names in
    record {
      names = map-append (λ (read : Read). read.0) reads more ∙ (λ i. names i ++ rest.names i);
      answers =
          (λ i. line_answer line
          (map (λ (read : Read). read.1)
          (sym (take_at reads more (length (names_of_line line)) count) i))
          ∷ (rest.answers ∙ ap (lines_over lines)
          (sym (drop_at reads more (length (names_of_line line)) count))) i);
    }

pub rounds_on : (all : List ReadLine) (i : ℕ) (line : ReadLine) (reads taken : List Read)
    (before : List AnswerLine) (answer : AnswerLine) →
    i < length all → line ≡ get_or all i line → map (λ read. read.0) taken ≡ names_of_line line
    → answer ≡ line_answer line (map (λ read. read.1) taken) →
    Rounds all (drop i all) reads before
    → Rounds all (drop (i + 1) all) (reads ++ taken) (before ++ answer ∷ [])
rounds_on all i line reads taken before answer lt is names made rounds more later rest =
    let here : drop i all ≡ line ∷ drop (i + 1) all =
    drop_more all i line lt ∙ ap (λ l. l ∷ drop (i + 1) all) (sym is) in
    let first : IsAnswered (line ∷ drop (i + 1) all) (taken ++ more) (answer ∷ later) =
    subst (λ a. IsAnswered (line ∷ drop (i + 1) all) (taken ++ more) (a ∷ later)) (sym made)
    (line_first line (drop (i + 1) all) taken more later names rest) in
    subst (λ rs. IsAnswered all rs ((before ++ answer ∷ []) ++ later))
    (sym (append_assoc reads taken more))
    (subst (λ ls. IsAnswered all (reads ++ (taken ++ more)) ls)
    (sym (append_assoc before (answer ∷ []) later))
    (rounds (taken ++ more) (answer ∷ later)
    (subst (λ ls. IsAnswered ls (taken ++ more) (answer ∷ later)) (sym here) first)))

pub rounds_end : (all : List ReadLine) (i : ℕ) (reads : List Read) (answer : List AnswerLine)
    → length all ≤ i → Rounds all (drop i all) reads answer → IsAnswered all reads answer
rounds_end all i reads answer le rounds =
    subst (λ rs. IsAnswered all rs answer) (append-nil reads)
    (subst (λ ls. IsAnswered all (reads ++ []) ls) (append-nil answer)
    (rounds [] []
    (subst (λ ls. IsAnswered ls [] []) (sym (drop_all i all le))
    (record { names = refl; answers = refl }))))

-- ---- one row more of a sum

pub names_on : (table : ℕ) (keys : List (List ℕ)) (i : ℕ) (key : List ℕ) (reads : List Read)
    (row : Option (List Cell)) → i < length keys → key ≡ get_or keys i key →
    map (λ read. read.0) reads ≡ table_names table (take i keys)
    → map (λ read. read.0) (reads ++ (record { table = table; key = key }, row) ∷ [])
    ≡ table_names table (take (i + 1) keys)
names_on table keys i key reads row lt is names =
    let name : RowName = record { table = table; key = key } in
    map-append (λ (read : Read). read.0) reads ((name, row) ∷ []) ∙ ap (λ ns. ns ++ name ∷ []) names
    ∙ sym (ap (table_names table)
    (take_more keys i key lt ∙ ap (λ k. take i keys ++ k ∷ []) (sym is)) ∙ map-append
    (λ (k : List ℕ). record { table = table; key = k }) (take i keys) (key ∷ []))

sum_in-push : (col : ℕ) (rows : List (Option (List Cell))) (row : Option (List Cell))
    → sum_in col (rows ++ row ∷ []) ≡ sum_in col rows +ℤ or_zero (int_in_column col row)
sum_in-push col [] row = omega (arith, ints)
sum_in-push col (first ∷ rows) row = let rest = sum_in-push col rows row in
    omega (arith, ints, rest)

pub sum_on : (col : ℕ) (sum number : ℤ) (reads : List Read) (name : RowName)
    (row : Option (List Cell)) → sum ≡ sum_in col (map (λ read. read.1) reads)
    → number ≡ or_zero (int_in_column col row) →
    sum +ℤ number ≡ sum_in col (map (λ read. read.1) (reads ++ (name, row) ∷ []))
sum_on col sum number reads name row is here =
    (λ i. is i +ℤ here i) ∙ sym (sum_in-push col (map (λ (read : Read). read.1) reads) row) ∙ ap
    (sum_in col) (sym (map-append (λ (read : Read). read.1) reads ((name, row) ∷ [])))

-- the sum of an i64 and of at most fifteen others is an i128
pub sum_fits : (sum number : ℤ) (i : ℕ) → i < 16 → neg_ℤ (pos (9223372036854775808 * i)) ≤ℤ sum
    → sum ≤ℤ pos (9223372036854775808 * i) → FitsSigned w64 number →
    to_z w128 (of_z w128 (sum +ℤ to_z w128 (of_z w128 (to_z w64 (of_z w64 number)))))
    ≡ sum +ℤ number
sum_fits sum number i lt low high fits = omega (arith, ints)
