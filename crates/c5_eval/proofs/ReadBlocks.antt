-- The answer over reads that a state answers is that state's.
use Rattle.std.proofs.Common.{◌≡◌, List, [], ◌∷◌, ◌++◌, map, take, drop, length, refl, ap, ◌∙◌}
use Rattle.std.specs.FinMap.{get}
use Rattle.std.proofs.lemmas.List.{take_at, drop_at, length-map, map-append}
use Rattle.c5_rows.specs.declared.writes.RowName.{RowName}
use Rattle.c5_rows.specs.declared.answer.AnswerLine.{AnswerLine}
use Rattle.c5_rows.specs.State.{State}
use Rattle.c5_definitions.specs.declared.script.ReadLine.{ReadLine}
use Rattle.c5_definitions.specs.ScriptParts.{ReadParts}
use Rattle.c5_definitions.specs.Follows.{Read, AnsweredBy}
use Rattle.c5_definitions.specs.Answers.{names_of_line, asked_names, line_answer, lines_from}
use Rattle.c5_definitions.specs.Answers.{lines_over, answer_of, IsAnswered}

-- a name, with the state's answer
abbrev answered_read : State → RowName → Read
answered_read state name = (name, get state name)

reads_back : (state : State) (reads : List Read) → AnsweredBy state reads
    → reads ≡ map (answered_read state) (map (λ read. read.0) reads)
reads_back state [] all = refl
reads_back state (read ∷ reads) all = λ i. (read.0, all.0 i) ∷ reads_back state reads all.1 i

rows_back : (state : State) (names : List RowName)
    → map (λ read. read.1) (map (answered_read state) names) ≡ map (get state) names
rows_back state [] = refl
rows_back state (name ∷ names) = ap (λ rows. get state name ∷ rows) (rows_back state names)

lines_same : (state : State) (lines : List ReadLine)
    → lines_over lines (map (answered_read state) (asked_names lines)) ≡ lines_from lines state
lines_same state [] = refl
lines_same state (line ∷ lines) =
    let names = names_of_line line in
    let more = map (answered_read state) (asked_names lines) in
    let split : map (answered_read state) (names ++ asked_names lines)
    ≡ map (answered_read state) names ++ more =
    map-append (answered_read state) names (asked_names lines) in
    let count : length (map (answered_read state) names) ≡ length names =
    length-map names (answered_read state) in
    let front : map (λ read. read.1)
    (take (length names) (map (answered_read state) (names ++ asked_names lines)))
    ≡ map (get state) names =
    ap (λ (reads : List Read). map (λ read. read.1) (take (length names) reads)) split ∙ ap
    (map (λ read. read.1))
    (take_at (map (answered_read state) names) more (length names) count) ∙ rows_back state
    names in
    let back : lines_over lines
    (drop (length names) (map (answered_read state) (names ++ asked_names lines)))
    ≡ lines_from lines state =
    ap (λ (reads : List Read). lines_over lines (drop (length names) reads)) split ∙ ap
    (lines_over lines)
    (drop_at (map (answered_read state) names) more (length names) count) ∙ lines_same state
    lines in
    λ i. line_answer line (front i) ∷ back i

pub answers_same : (read : ReadParts) (state : State) (reads : List Read) (answer : List AnswerLine)
    → IsAnswered read.lines reads answer → AnsweredBy state reads → answer ≡ answer_of read state
unfolding answer_of
answers_same read state reads answer is all =
    is.answers ∙ ap (lines_over read.lines)
    (reads_back state reads all ∙ ap (map (answered_read state)) is.names) ∙ lines_same state
    read.lines
