use Rattle.std.proofs.Common.{◌≡◌, ◌++◌}
use Rattle.std.specs.Vec.Iter.{into_iter_items}
use Rattle.c5_replay.proofs.joining.append.Given as goal

abbrev pub invariant-loop-reply : goal.invariant-loop-reply
invariant-loop-reply l = l.replies ++ into_iter_items l.reply-iterator
    ≡ l.fn.replies ++ l.fn.more.items
