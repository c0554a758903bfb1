-- What one more call of a loop makes of the bytes that the calls before it gave or took.
use Rattle.std.proofs.Common.{◌≡◌, ℕ, ◌+◌, ◌-◌, List, length, take, drop, sym, ◌∙◌, subst, arith}
use Rattle.std.proofs.Common.{take_all, length-drop}
use Rattle.std.proofs.Math.Seq.{take-add}
use Rattle.std.proofs.KnownBytes.{Appends-trans, Consumes-trans}
use Rattle.std.specs.declared.option.Option.{Option}
use Rattle.std.specs.Io.KnownBytes.{Appends, Consumes}

-- of a text the first n bytes were taken, and then m of the rest, which `&text[n..]` reads as a
-- range
pub appends_more : (a b c : Option (List ℕ)) (text : List ℕ) (n m : ℕ) → Appends a b (take n text)
    → Appends b c (take m (take (length text - n) (drop n text))) → Appends a c (take (n + m) text)
appends_more a b c text n m first second =
    let rest : take (length text - n) (drop n text) ≡ drop n text =
    take_all _ _ (omega (arith, length-drop n text)) in
    subst (Appends a c) (sym (take-add n m text))
    (Appends-trans a b c _ _ first (rw rest at second))

-- a buffer was filled up to n, then longer, and then m bytes were read after the n
pub consumes_filled : (a b c : Option (List ℕ)) (old longer new : List ℕ) (n m : ℕ)
    → take n longer ≡ take n old → take n new ≡ take n longer
    → Consumes a b (take n old) → Consumes b c (take m (drop n new))
    → Consumes a c (take (n + m) new)
consumes_filled a b c old longer new n m grown kept first second =
    subst (Consumes a c) (sym (take-add n m new))
    (Consumes-trans a b c _ _ (subst (Consumes a b) (sym (kept ∙ grown)) first) second)
