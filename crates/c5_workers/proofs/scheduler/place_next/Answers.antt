use Rattle.std.proofs.Common.{◌∙◌, subst, arith}
use Rattle.c5_definitions.specs.WriteNumbers.{IsFirstWrite}
use Rattle.c5_definitions.specs.RowIndex.{IsSlot}
use Rattle.c5_board.specs.Boards.{Board, names}
use Rattle.c5_chains.proofs.OnPaths.{same-names, within-log}
use Rattle.c5_workers.proofs.NextRows.{next_write, named-in, placed-found, free-first, free-slot}
use Rattle.c5_workers.proofs.NextRows.{placed-new, too-many}
use Rattle.c5_workers.proofs.scheduler.place_next.Goals as goal

pub write-requires-clause-within : goal.write-requires-clause-within
write-requires-clause-within c =
    (within-log c.args.pass.now c.log.result.now c.args.w
    (same-names c.args.pass.now _ c.log.result.now c.requires.pass
    (c.log.ensures.value ∙ c.plan.ensures.log))
    (next_write c.args.pass.now c.args.w c.requires.next)).1

pub store_bucket-requires-clause-first : goal.store_bucket-requires-clause-first
store_bucket-requires-clause-first c =
    let is = c.requires.next.next in
    let name_is =
    named-in c.args.pass.now _ _ c.args.w c.write.result c.name-name.result c.requires.pass
    (c.log.ensures.value ∙ c.plan.ensures.log)
    (omega arith) c.write.ensures c.name-name.ensures in
    subst (λ (b : Board). IsFirstWrite (names b) c.args.w) c.requires.pass
    (free-first c.args.pass.now c.args.w _
    (c.number_law.ensures.rows _) c.requires.next name_is _ c.in-Free.ensures.end)

pub store_bucket-requires-clause-slot : goal.store_bucket-requires-clause-slot
store_bucket-requires-clause-slot c =
    let is = c.requires.next.next in
    let name_is =
    named-in c.args.pass.now _ _ c.args.w c.write.result c.name-name.result c.requires.pass
    (c.log.ensures.value ∙ c.plan.ensures.log)
    (omega arith) c.write.ensures c.name-name.ensures in
    subst (λ (b : Board). IsSlot (names b) c.args.w c.in-Free.field-0) c.requires.pass
    (free-slot c.args.pass.now c.args.w _
    (c.number_law.ensures.rows _) c.requires.next name_is _ c.in-Free.ensures.end)

pub returns-in-Row : goal.returns-in-Row
returns-in-Row c =
    let is = c.requires.next.next in
    let name_is =
    named-in c.args.pass.now _ _ c.args.w c.write.result c.name-name.result c.requires.pass
    (c.log.ensures.value ∙ c.plan.ensures.log)
    (omega arith) c.write.ensures c.name-name.ensures in
    placed-found c.args.pass.now c.args.w _
    (c.number_law.ensures.rows _) c.requires.next name_is _ _ _ c.in-Row.ensures.end
    c.in-Row.ensures.looks

pub returns-in-Free : goal.returns-in-Free
returns-in-Free c =
    let is = c.requires.next.next in
    let name_is =
    named-in c.args.pass.now _ _ c.args.w c.write.result c.name-name.result c.requires.pass
    (c.log.ensures.value ∙ c.plan.ensures.log)
    (omega arith) c.write.ensures c.name-name.ensures in
    too-many c.args.pass.now c.args.w _
    (c.number_law.ensures.rows _) c.requires.next name_is _ _ _ c.in-Free.ensures.end
    c.if-rows-eq-MAX_ROWS.true c.in-Free.ensures.looks

pub returns-in-Free-2 : goal.returns-in-Free-2
returns-in-Free-2 c =
    let is = c.requires.next.next in
    let name_is =
    named-in c.args.pass.now _ _ c.args.w c.write.result c.name-name.result c.requires.pass
    (c.log.ensures.value ∙ c.plan.ensures.log)
    (omega arith) c.write.ensures c.name-name.ensures in
    placed-new c.args.pass.now c.args.w _
    (c.number_law.ensures.rows _) c.requires.next name_is _ _ _ _ c.in-Free.ensures.end
    c.if-rows-eq-MAX_ROWS.false c.in-Free.ensures.looks c.store_bucket.ensures
