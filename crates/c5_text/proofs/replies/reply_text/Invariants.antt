use Rattle.std.proofs.Common.{◌≡◌, [], ◌∷◌, ◌++◌, drop}
use Rattle.std.specs.List.{flat_map}
use Rattle.c5_definitions.specs.Outputs.{answer_line}
use Rattle.c5_text.proofs.replies.reply_text.Given as goal

-- what is written and the lines that are left make the whole
abbrev pub invariant-loop-line : goal.invariant-loop-line
invariant-loop-line l =
    l.text.items ++ flat_map (λ line. answer_line l.tables line ++ 10 ∷ [])
    (drop l.line-index l.answer)
    ≡ l.initial.text.items ++ flat_map (λ line. answer_line l.tables line ++ 10 ∷ []) l.answer
