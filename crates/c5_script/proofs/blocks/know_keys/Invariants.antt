use Rattle.std.proofs.Common.{take}
use Rattle.std.specs.List.{All}
use Rattle.c5_rows.specs.Bytes.{IsKey}
use Rattle.c5_script.proofs.blocks.know_keys.Given as goal

-- the keys so far are keys
abbrev pub invariant-loop-key : goal.invariant-loop-key
invariant-loop-key l = All IsKey (take l.key-index l.keys)
