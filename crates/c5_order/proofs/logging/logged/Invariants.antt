use Rattle.std.proofs.Common.{◌≡◌, take}
use Rattle.c5_order.specs.Book.{logged}
use Rattle.c5_order.proofs.logging.logged.Given as goal

abbrev pub invariant-loop-txn : goal.invariant-loop-txn
invariant-loop-txn l = l.txns.items ≡ logged l.history (take l.txn-index l.begun)
