use Rattle.std.proofs.Common.{rules, ◌∙◌}
use Rattle.std.specs.Cmp.Rules.{comparing}
use Rattle.c5_script.proofs.limits.is_same.Goals as goal

pub returns : goal.returns
returns c = c.eq.ensures ∙ search (comparing, rules)
