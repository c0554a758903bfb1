use Rattle.std.proofs.Common.{◌≡◌, ◌-◌, get_or, set, sym, subst, arith, refl}
use Rattle.c5_board.specs.Boards.{Board, names, record_of}
use Rattle.c5_workers.specs.Scheduling.{IsLastOfEach}
use Rattle.c5_workers.proofs.LastRows.{record-kept, kept-with, ready_write, ready-row}
use Rattle.c5_workers.proofs.scheduler.record_next.Goals as goal

pub overflow_sub-place : goal.overflow_sub-place
overflow_sub-place c =
    (ready-row c.args.pass.now _ _ _ (c.number_law.ensures.rows _) c.requires.ready).0

pub bounds-last-place : goal.bounds-last-place
bounds-last-place c = let r = ready-row c.args.pass.now c.args.last.now c.args.w c.args.row
    (c.number_law.ensures.rows _) c.requires.ready in omega (arith, r.0, r.1)

pub store_record-requires-clause-link : goal.store_record-requires-clause-link
store_record-requires-clause-link c =
    subst (λ (b : Board). record {
      row = c.args.row;
      predecessor = get_or c.args.last.now (c.args.row - 1) 0;
    }
    ≡ record_of (names b) c.args.w) c.requires.pass
    (record-kept (names c.args.pass.now.board) (c.number_law.ensures.rows _)
    (c.number_law.ensures.predecessors _) c.args.last.now c.args.w c.args.row
    c.args.pass.now.scheduled
    (ready_write c.args.pass.now _ _ _ c.requires.ready) c.requires.ready.is_row
    (sym c.requires.ready.next) c.requires.ready.kept)

pub bounds-last-place-2 : goal.bounds-last-place-2
bounds-last-place-2 c = let r =
    ready-row c.args.pass.now c.args.last.now c.args.w c.args.row
    (c.number_law.ensures.rows _) c.requires.ready in omega (arith, r.0, r.1)

pub returns-clause-last : goal.returns-clause-last
returns-clause-last c =
    subst (λ (b : Board). IsLastOfEach (names b)
    (set c.args.last.now (c.args.row - 1) c.args.w) c.args.w) c.requires.pass
    (kept-with (names c.args.pass.now.board) (c.number_law.ensures.rows _)
    (c.number_law.ensures.predecessors _) c.args.last.now _ c.args.w c.args.row
    c.args.pass.now.scheduled
    (ready_write c.args.pass.now _ _ _ c.requires.ready) c.requires.ready.is_row
    (sym c.requires.ready.next) c.requires.ready.kept refl)
