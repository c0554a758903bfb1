use Rattle.std.proofs.Common.{rules, ◌∙◌}
use Rattle.std.specs.Cmp.Rules.{comparing}
use Rattle.c5_script.proofs.Different.{count_of_deduped}
use Rattle.c5_script.proofs.limits.different.Goals as goal

pub returns : goal.returns
returns c = λ all same. c.len.ensures ∙ c.dedup.new.self.ok.0 ∙ count_of_deduped _
    (λ x y. search (comparing, rules)) _ _ _ c.sort_unstable.ensures.permutation
    c.sort_unstable.ensures.sorted c.dedup.ensures.filtered all same
