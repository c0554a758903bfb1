use Rattle.std.proofs.Common.{take, ap, rules, ◌∙◌}
use Rattle.std.proofs.lemmas.List.{with_items_is, places}
use Rattle.c5_io.proofs.Filling.{consumes_filled}
use Rattle.c5_io.proofs.whole.read_all.Goals as goal

pub loop-filled-preserved : goal.loop-filled-preserved
loop-filled-preserved g c =
    let before = c.loop-filled.invariant in
    let read = c.in_ok-count.ensures in
    record {
      within = search rules;
      short = search rules;
      taken = rw
          (with_items_is c.make_room.new.bytes c.read_tail.new.bytes (search (rules, places)))
          (consumes_filled _ _ _ c.loop-filled.bytes.items c.make_room.new.bytes.items
          c.read_tail.new.bytes c.loop-filled.filled c.in_ok-count.count
          c.make_room.ensures.prefix
          (read.prefix ∙ ap (take c.loop-filled.filled) c.as_mut_slice.ensures.value)
          before.taken read.ok);
      faults = search rules;
    }
