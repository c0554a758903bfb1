use Rattle.std.proofs.Common.{◌≡◌, ℕ, List, get_or, subst}
use Rattle.c5_script.proofs.WordLaws.{bare-None, bare-Some_quote, bare-Some_blank}
use Rattle.c5_script.proofs.words.bare_in.Goals as goal

pub returns-then-behind-eq34-clause-words : goal.returns-then-behind-eq34-clause-words
returns-then-behind-eq34-clause-words c =
    bare-Some_quote c.args.bytes.now c.in-Some.end c.requires c.in-Some.ensures
    (let P : List ℕ → Type 0 = λ bytes. get_or bytes 0 0 ≡ 34 in
    subst P c.split_at.ensures.back c.if-behind-eq34.true)

pub returns-in-None-clause-words : goal.returns-in-None-clause-words
returns-in-None-clause-words c = bare-None c.args.bytes.now c.requires c.in-None.ensures

pub returns-else-behind-eq34-clause-words : goal.returns-else-behind-eq34-clause-words
returns-else-behind-eq34-clause-words c =
    rw (c.split_at.ensures.front, c.split_at.ensures.back)
    (bare-Some_blank c.args.bytes.now c.in-Some.end c.requires c.in-Some.ensures
    (let P : List ℕ → Type 0 = λ bytes. get_or bytes 0 0 ≡ 34
    → ⊥ in subst P c.split_at.ensures.back c.if-behind-eq34.false))
