use Rattle.std.proofs.Common.{rules, ◌≡◌, ◌∙◌, arith, subst, Some, slice_get}
use Rattle.std.specs.Cmp.Rules.{comparing}
use Rattle.c5_definitions.specs.WriteNumbers.{names_in}
use Rattle.c5_plan.specs.Noted.{name_of_ref, Notes}
use Rattle.c5_plan.proofs.Noting.{Notes-none, Notes-inserted, length-noted, length-noted_le}
use Rattle.c5_plan.proofs.Noting.{name-parts, length-names_at}
use Rattle.c5_plan.proofs.written.noted.Goals as goal

pub loop-before-init : goal.loop-before-init
loop-before-init c =
    record {
      notes = Notes-none (names_in c.args.log.now.txns) _ c.new-rows.ensures.empty;
      within = omega (arith, c.new-rows.ensures.len);
    }

pub returns-then-len-most : goal.returns-then-len-most
returns-then-len-most c =
    let at : slice_get (names_in c.args.log.now.txns) c.loop-before.before
    ≡ Some (name_of_ref (record { table = c.table.result; key = c.key.result })) =
    name-parts c.args.log.now.txns c.loop-before.before _ c.write-write.result
    (record { table = c.table.result; key = c.key.result }) c.write-write.ensures
    (omega arith) c.table.ensures c.key.ensures in
    let few = length-noted_le _ (names_in c.args.log.now.txns) _
    (Notes-inserted _ (λ a b. search (comparing, rules)) _ _
    (names_in c.args.log.now.txns) c.loop-before.before _ c.loop-before.invariant.notes at
    c.in_ok-insert.ensures.entries c.len.ensures.unique) in
    omega (arith, few, c.len.ensures.len)

pub loop-before-preserved : goal.loop-before-preserved
loop-before-preserved c =
    let at : slice_get (names_in c.args.log.now.txns) c.loop-before.before
    ≡ Some (name_of_ref (record { table = c.table.result; key = c.key.result })) =
    name-parts c.args.log.now.txns c.loop-before.before _ c.write-write.result
    (record { table = c.table.result; key = c.key.result }) c.write-write.ensures
    (omega arith) c.table.ensures c.key.ensures in
    record {
      notes = Notes-inserted _ (λ a b. search (comparing, rules)) _ _
          (names_in c.args.log.now.txns) c.loop-before.before _ c.loop-before.invariant.notes at
          c.in_ok-insert.ensures.entries c.len.ensures.unique;
      within = omega (arith, c.len.ensures.len);
    }

pub returns : goal.returns
returns c =
    let notes = subst (Notes c.loop-before.rows.entries)
    (length-names_at c.args.log.now.txns c.loop-before.before (omega arith))
    c.loop-before.invariant.notes in
    record {
      notes = notes;
      count = length-noted _ _ notes;
      within = c.loop-before.invariant.within;
    }
