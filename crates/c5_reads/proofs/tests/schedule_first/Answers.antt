use Rattle.std.proofs.Common.{subst, sym, ◌∙◌}
use Rattle.c5_definitions.specs.RowIndex.{IsSlot}
use Rattle.c5_board.specs.Boards.{names}
use Rattle.c5_board.proofs.FirstWrite.{some_written, name_first, first_one, record_one, slot_one}
use Rattle.c5_reads.proofs.tests.schedule_first.Goals as goal

pub write-requires-clause-within : goal.write-requires-clause-within
write-requires-clause-within c =
    some_written c.args.board.now.log c.log.result.now
    (c.log.ensures.value ∙ c.plan.ensures.log) c.requires.some

pub store_bucket-requires-clause-first : goal.store_bucket-requires-clause-first
store_bucket-requires-clause-first c = first_one (names c.args.board.now) c.requires.some

pub store_bucket-requires-clause-slot : goal.store_bucket-requires-clause-slot
store_bucket-requires-clause-slot c =
    let name = name_first c.args.board.now.log c.log.result.now _ _
    (c.log.ensures.value ∙ c.plan.ensures.log) c.write.ensures c.name-name.ensures in
    subst (IsSlot (names c.args.board.now) 1) (sym c.start-slot.ensures.value)
    (slot_one (names c.args.board.now) c.requires.some c.name-name.result name)

pub store_record-requires-clause-link : goal.store_record-requires-clause-link
store_record-requires-clause-link c = sym (record_one (names c.args.board.now) c.requires.some)
