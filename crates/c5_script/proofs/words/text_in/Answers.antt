use Rattle.std.proofs.Common.{◌≡◌, ◌∙◌, ◌+◌, true, false, take, drop, sym, ap}
use Rattle.std.proofs.lemmas.List.{take_rest}
use Rattle.c5_definitions.specs.Words.{quoted}
use Rattle.c5_definitions.specs.Lines.{is_word_end, with_word}
use Rattle.c5_script.proofs.WordLaws.{text-None, text-Some, behind_text, behind_text_no}
use Rattle.c5_script.proofs.words.text_in.Goals as goal

pub returns-in-None-clause-words : goal.returns-in-None-clause-words
returns-in-None-clause-words c = text-None c.args.bytes.now c.in-None.ensures

pub returns-then-not-is_word_end-clause-words : goal.returns-then-not-is_word_end-clause-words
returns-then-not-is_word_end-clause-words c =
    let no : false ≡ is_word_end (drop (c.in-Some.end + 1) c.args.bytes.now) =
    rw (take_rest c.args.bytes.now (c.in-Some.end + 1)) at c.if-not-is_word_end.ensures in
    text-Some c.args.bytes.now c.in-Some.end c.in-Some.ensures ∙ ap
    (with_word (quoted (take c.in-Some.end c.args.bytes.now)))
    (behind_text_no (drop (c.in-Some.end + 1) c.args.bytes.now) (sym no))

pub returns-else-not-is_word_end-clause-words : goal.returns-else-not-is_word_end-clause-words
returns-else-not-is_word_end-clause-words c =
    let yes : true ≡ is_word_end (drop (c.in-Some.end + 1) c.args.bytes.now) =
    rw (take_rest c.args.bytes.now (c.in-Some.end + 1)) at c.if-not-is_word_end.ensures in
    rw (take_rest c.args.bytes.now (c.in-Some.end + 1))
    (text-Some c.args.bytes.now c.in-Some.end c.in-Some.ensures ∙ ap
    (with_word (quoted (take c.in-Some.end c.args.bytes.now)))
    (behind_text (drop (c.in-Some.end + 1) c.args.bytes.now) (sym yes)))
