-- Lines by the number of their words.
use Rattle.std.proofs.Common.{◌≡◌, ◌≤◌, ℕ, ◌-◌, List, [], ◌∷◌, length, get_or, take, drop, ap}
use Rattle.std.proofs.Common.{arith}
use Rattle.std.proofs.lemmas.List.{length-drop, take_all}
use Rattle.c5_rows.specs.declared.tables.TableDef.{TableDef}
use Rattle.c5_definitions.specs.Statements.{put_statement, put_words, new_table, table_words}
use Rattle.c5_script.specs.declared.word.Word.{Word}
use Rattle.c5_script.specs.Words.{held_word, held_words}

-- what a pattern binds after n words
whole : {A : Type 0} (n : ℕ) (xs : List A) → take (length xs - n) (drop n xs) ≡ drop n xs
whole n xs = let same = length-drop n xs in take_all (length xs - n) (drop n xs) (omega arith)

pub put-shape : (tables : List TableDef) (words : List Word) (t k : Word) → 3 ≤ length words
    → put_statement tables (held_word (get_or words 0 t)) (held_word (get_or words 1 k))
    (held_words (take (length words - 2) (drop 2 words))) ≡ put_words tables (held_words words)
unfolding put_words
put-shape tables [] t k h = absurd (omega arith)
put-shape tables (a ∷ []) t k h = absurd (omega arith)
put-shape tables (a ∷ b ∷ []) t k h = absurd (omega arith)
put-shape tables (a ∷ b ∷ c ∷ words) t k h =
    ap (λ (xs : List Word). put_statement tables (held_word a) (held_word b) (held_words xs))
    (whole 2 (a ∷ b ∷ c ∷ words))

pub table-shape : (tables : List TableDef) (words : List Word) (name : Word) → 2 ≤ length words
    → new_table tables (held_word (get_or words 0 name))
    (held_words (take (length words - 1) (drop 1 words))) ≡ table_words tables (held_words words)
unfolding table_words
table-shape tables [] name h = absurd (omega arith)
table-shape tables (a ∷ []) name h = absurd (omega arith)
table-shape tables (a ∷ b ∷ words) name h =
    ap (λ (xs : List Word). new_table tables (held_word a) (held_words xs))
    (whole 1 (a ∷ b ∷ words))
