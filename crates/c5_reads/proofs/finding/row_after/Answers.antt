use Rattle.c5_reads.proofs.OneRow.{end-scheduled, row-found, row-absent}
use Rattle.c5_reads.proofs.LookLemmas.{for-found, for-absent, only-path, only-row, only-then}
use Rattle.c5_reads.proofs.finding.row_after.Goals as goal

pub returns-in-Some-clause-row : goal.returns-in-Some-clause-row
returns-in-Some-clause-row c = row-found c.args.pass.now _ _ _ _ _ _ _ c.requires.pass
    (c.last_write_law.ensures _ _ _) c.in-Some.ensures.found c.value_at.ensures.value
    c.row_or_start.ensures

pub returns-in-Some-clause-looks : goal.returns-in-Some-clause-looks
returns-in-Some-clause-looks c =
    for-found c.args.pass.now _ _ _ _ _ _ c.in-Some.ensures.found c.in-Some.ensures.looks
    c.value_at.ensures.looks

pub returns-in-None-clause-row : goal.returns-in-None-clause-row
returns-in-None-clause-row c = row-absent c.args.pass.now _ _ _ _ _ c.requires.pass
    (c.last_write_law.ensures _ _ _) c.in-None.ensures.found
    (end-scheduled c.args.pass.now _
    (c.number_law.ensures.places _) c.place-place.ensures.sound c.requires.place)
    c.row_or_start-in-None.ensures

pub returns-in-None-clause-looks : goal.returns-in-None-clause-looks
returns-in-None-clause-looks c = for-absent c.args.pass.now _ _ _ c.in-None.ensures.found
    (end-scheduled c.args.pass.now _
    (c.number_law.ensures.places _) c.place-place.ensures.sound c.requires.place)
    c.in-None.ensures.looks

pub returns-in-Some-clause-pass : goal.returns-in-Some-clause-pass
returns-in-Some-clause-pass c =
    only-then c.args.pass.now _ _ (only-path c.args.pass.now _ _ _ c.in-Some.ensures.looks)
    (only-row _ _ _ _ c.value_at.ensures.looks)

pub returns-in-None-clause-pass : goal.returns-in-None-clause-pass
returns-in-None-clause-pass c = only-path c.args.pass.now _ _ _ c.in-None.ensures.looks
