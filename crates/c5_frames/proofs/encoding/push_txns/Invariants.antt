use Rattle.std.proofs.Common.{◌≡◌, ◌++◌, drop}
use Rattle.std.specs.List.{flat_map}
use Rattle.c5_definitions.specs.Spelling.{spelled_txn}
use Rattle.c5_frames.proofs.encoding.push_txns.Given as goal

-- what is written and the transactions that are left make the whole
abbrev pub invariant-loop-txn : goal.invariant-loop-txn
invariant-loop-txn l = l.out.items ++ flat_map spelled_txn (drop l.txn-index l.txns)
    ≡ l.initial.out.items ++ flat_map spelled_txn l.txns
