use Rattle.std.proofs.Common.{◌≡◌, ◌++◌, drop}
use Rattle.std.specs.List.{flat_map}
use Rattle.c5_definitions.specs.Outputs.{reply_text}
use Rattle.c5_driver.proofs.replaying.push_replies.Given as goal

-- what was appended, and what is left to append
abbrev pub invariant-loop-reply : goal.invariant-loop-reply
invariant-loop-reply l = l.text.items
    ++ flat_map (reply_text l.fn.schema l.fn.total) (drop l.reply-index l.fn.replies)
    ≡ l.fn.text.items ++ flat_map (reply_text l.fn.schema l.fn.total) l.fn.replies
