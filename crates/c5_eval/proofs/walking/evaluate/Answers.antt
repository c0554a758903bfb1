use Rattle.std.proofs.Common.{◌++◌, [], false, true, ap, rules}
use Rattle.c5_definitions.specs.Follows.{own_writes}
use Rattle.c5_eval.specs.declared.walking.Outcome.{Outcome}
use Rattle.c5_eval.proofs.Walks.{leads_on, leads_to_decline, leads_to_end, read_on, follows_alike}
use Rattle.c5_eval.proofs.walking.evaluate.Goals as goal

pub loop-statement-preserved : goal.loop-statement-preserved
loop-statement-preserved g c =
    let before = c.loop-statement.invariant in
    let leads = before.leads in
    let takes = c.in_ok-perform.ensures.takes in
    record {
      leads = (
        leads.0 ++ takes.0,
        read_on _ leads.0 takes.0 _ _ leads.1 takes.1,
        leads_on _ _ c.statement-item.result _ _ leads.0 takes.0 c.in_ok-perform.field-0
            c.loop-statement-test.true c.statement-item.is takes.2 c.in-GoesOn.is leads.2,
      );
      base = search rules;
      refusals = search rules;
      items = before.items;
    }

pub returns-in-Declines-clause-follows : goal.returns-in-Declines-clause-follows
returns-in-Declines-clause-follows g c =
    let before = c.loop-statement.invariant in
    let leads = before.leads in
    let takes = c.in_ok-perform.ensures.takes in
    let ending = c.in_ok-ending-in-Declines in (
      leads.0 ++ takes.0,
      read_on _ leads.0 takes.0 _ _ leads.1 takes.1,
      follows_alike c.args.body.now _
          (leads.0 ++ takes.0) true ending.field-0.declined [] ending.field-0.writes before.items
          (ap (λ (o : Outcome). o.declined) ending.ensures)
          (ap (λ (o : Outcome). o.writes) ending.ensures)
          (leads_to_decline _ _ c.statement-item.result _ _ leads.0 takes.0 c.in_ok-perform.field-0
          c.loop-statement-test.true c.statement-item.is takes.2 c.in-Declines.is leads.2),
    )

pub returns-clause-follows : goal.returns-clause-follows
returns-clause-follows g c =
    let before = c.loop-statement.invariant in
    let leads = before.leads in
    let ending = c.in_ok-ending in (
      leads.0,
      leads.1,
      follows_alike c.args.body.now _ leads.0 false ending.field-0.declined
          (own_writes c.loop-statement.own) ending.field-0.writes before.items
          (ap (λ (o : Outcome). o.declined) ending.ensures)
          (ap (λ (o : Outcome). o.writes) ending.ensures)
          (leads_to_end _ _ _ leads.0 c.loop-statement-test.false leads.2),
    )
