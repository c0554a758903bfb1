use Rattle.std.proofs.Common.{◌≡◌, ℕ, List, ◌∷◌, ◌++◌, [], length, ap, ap₂, ◌∙◌, sym, arith}
use Rattle.c5_definitions.specs.declared.script.ReadLine.TheVariants.{SumOf}
use Rattle.c5_gen.proofs.Growing.{keys_from, keys-more, keys-length}
use Rattle.c5_gen.proofs.reads.sum_line.Goals as goal

pub push-requires : goal.push-requires
push-requires c =
    omega (arith, ap length c.loop-next.invariant, keys-length c.args.first c.loop-next.next)

pub loop-next-preserved : goal.loop-next-preserved
loop-next-preserved c =
    c.push.ensures
    ∙ ap₂ (λ (keys : List (List ℕ)) (key : List ℕ). keys ++ key ∷ []) c.loop-next.invariant
    c.key_of_account-in-loop-next.ensures
    ∙ sym (keys-more c.args.first c.loop-next.next)

pub returns : goal.returns
returns c =
    let all : c.loop-next.next ≡ 16 = omega arith in
    ap (SumOf 0 0) (c.loop-next.invariant ∙ ap (keys_from c.args.first) all)
