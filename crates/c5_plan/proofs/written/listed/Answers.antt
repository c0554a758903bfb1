use Rattle.std.proofs.Common.{length, arith, ap, map, take_all, ◌∙◌}
use Rattle.std.proofs.lemmas.Map.Entries.{length-values_of}
use Rattle.c5_plan.specs.Noted.{written_row}
use Rattle.c5_plan.proofs.Listing.{noted-pair, listed-more}
use Rattle.c5_plan.proofs.written.listed.Goals as goal

pub write-requires-clause-some : goal.write-requires-clause-some
write-requires-clause-some c =
    (noted-pair _ _ c.requires _ 0 _ (c.as_slice-lasts.ensures ∙ c.values.ensures.rest)
    (omega arith)).some

pub write-requires-clause-within : goal.write-requires-clause-within
write-requires-clause-within c =
    (noted-pair _ _ c.requires _ 0 _ (c.as_slice-lasts.ensures ∙ c.values.ensures.rest)
    (omega arith)).within

pub loop-last-preserved : goal.loop-last-preserved
loop-last-preserved c =
    listed-more _ _ _ _ _ _ c.write.result c.name.result
    (noted-pair _ _ c.requires _ 0 _ (c.as_slice-lasts.ensures ∙ c.values.ensures.rest)
    (omega arith)) c.loop-last.invariant c.write.ensures c.name.ensures
    c.in_ok-push.ensures.items

pub returns : goal.returns
returns c =
    record {
      entries = c.args.noted.now.entries;
      notes = c.requires;
      listed = c.loop-last.invariant ∙ ap (map written_row)
          (take_all c.loop-last.last-index c.args.noted.now.entries
          (omega (
            arith,
            ap length (c.as_slice-lasts.ensures ∙ c.values.ensures.rest),
            length-values_of c.args.noted.now.entries,
          )));
    }
