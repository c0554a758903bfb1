use Rattle.std.proofs.Common.{◌≡◌, ◌∙◌, set}
use Rattle.c5_rows.specs.Writes.{put_write}
use Rattle.c5_rows.proofs.WriteLemmas.{put_write-found, put_write-gap, IsAscending-put}
use Rattle.c5_rows.proofs.writes.put.Goals as goal

found : (c : goal.After-writes-1)
    → set c.args.writes.now.items c.in-Ok.at (record { name = c.args.name; change = c.args.change })
    ≡ put_write (record { name = c.args.name; change = c.args.change }) c.args.writes.now.items
found c =
    let e = c.deref.ensures.value in
    rw (← e) (put_write-found
    (record { name = c.args.name; change = c.args.change }) c.deref.result.now c.in-Ok.at
    (rw e c.requires) c.in-Ok.ensures.bound c.in-Ok.ensures.place)

inserted : (c : goal.In_ok-add_at-in-Err)
    → c.add_at.new.items.items ≡ put_write
    (record { name = c.args.name; change = c.args.change }) c.args.writes.now.items
inserted c =
    let e = c.deref.ensures.value in
    c.in_ok-add_at-in-Err.ensures.ok
    ∙ rw (← e)
    (put_write-gap
    (record { name = c.args.name; change = c.args.change }) c.deref.result.now c.in-Err.at
    c.in-Err.ensures.bound c.in-Err.ensures.place.0 c.in-Err.ensures.place.1)

pub returns-in-Ok-clause-ok : goal.returns-in-Ok-clause-ok
returns-in-Ok-clause-ok c = found c

pub returns-in-Ok-clause-ascending : goal.returns-in-Ok-clause-ascending
returns-in-Ok-clause-ascending c =
    rw (found c)
    (IsAscending-put
    (record { name = c.args.name; change = c.args.change }) c.args.writes.now.items c.requires)

pub returns-in_ok-add_at-in-Err-clause-ok : goal.returns-in_ok-add_at-in-Err-clause-ok
returns-in_ok-add_at-in-Err-clause-ok c = inserted c

pub returns-in_ok-add_at-in-Err-clause-ascending : goal.returns-in_ok-add_at-in-Err-clause-ascending
returns-in_ok-add_at-in-Err-clause-ascending c =
    rw (inserted c)
    (IsAscending-put
    (record { name = c.args.name; change = c.args.change }) c.args.writes.now.items c.requires)
