use Rattle.std.proofs.Common.{◌≡◌, ◌∙◌, ℕ, List, [], ap, sym}
use Rattle.std.proofs.lemmas.Bool.{eqb-true}
use Rattle.std.proofs.lemmas.List.{nil_from_length}
use Rattle.c5_definitions.specs.Lines.{words_at, between}
use Rattle.c5_script.specs.Words.{held_words}
use Rattle.c5_script.specs.Reading.{with_words}
use Rattle.c5_script.proofs.WordLaws.{not-empty, words-blank, with_words-all, words-allowed}
use Rattle.c5_script.proofs.WordLaws.{words-not_allowed}
use Rattle.c5_script.proofs.words.words_in.Goals as goal

pub returns-then-not-has_line_bytes : goal.returns-then-not-has_line_bytes
returns-then-not-has_line_bytes c =
    words-not_allowed c.args.line.now c.if-not-has_line_bytes.ensures

pub loop-rest-preserved-then-rest-eq32 : goal.loop-rest-preserved-then-rest-eq32
loop-rest-preserved-then-rest-eq32 c =
    let some = not-empty c.loop-rest.rest.now c.loop-rest-test.ensures in
    c.loop-rest.invariant ∙ ap (with_words (held_words c.loop-rest.words.items))
    (words-blank c.loop-rest.rest.now some c.if-rest-eq32.true)

pub returns-in-Err : goal.returns-in-Err
returns-in-Err c =
    words-allowed c.args.line.now c.if-not-has_line_bytes.ensures ∙ c.loop-rest.invariant ∙ ap
    (with_words (held_words c.loop-rest.words.items)) c.in-Err.ensures.words

pub returns : goal.returns
returns c =
    let front = held_words c.loop-rest.words.items in
    let nothing : c.loop-rest.rest.now ≡ [] =
    nil_from_length _ (eqb-true _ _ (sym c.loop-rest-test.ensures)) in
    words-allowed c.args.line.now c.if-not-has_line_bytes.ensures ∙ c.loop-rest.invariant ∙ ap
    (λ (rest : List ℕ). with_words front (words_at between rest)) nothing ∙ with_words-all front
