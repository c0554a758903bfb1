use Rattle.std.proofs.Common.{◌≡◌, take, fold}
use Rattle.c5_definitions.specs.RowIndex.{fnv_round}
use Rattle.c5_board.proofs.getters.name_hash.Given as goal

abbrev pub invariant-loop-byte : goal.invariant-loop-byte
invariant-loop-byte l = l.hash ≡ fold fnv_round l.initial.hash (take l.byte-index l.byte-items)
