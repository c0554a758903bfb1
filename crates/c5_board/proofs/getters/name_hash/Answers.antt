use Rattle.std.proofs.Common.{ℕ, ap, ◌∙◌, arith, fold}
use Rattle.std.proofs.lemmas.List.{take_all}
use Rattle.c5_definitions.specs.RowIndex.{fnv_1a, fnv_round}
use Rattle.c5_board.proofs.getters.name_hash.Goals as goal

pub returns : goal.returns
unfolding fnv_1a
returns c =
    c.loop-byte.invariant
    ∙ (ap (fold fnv_round c.hash_round-hash.result)
    (take_all c.loop-byte.byte-index c.bytes-byte-items.result.now
    (omega (arith, c.loop-byte-test.false)) ∙ c.bytes-byte-items.ensures.value)
    ∙ ap (λ (h : ℕ). fold fnv_round h c.args.name.now.key) c.hash_round-hash.ensures)
