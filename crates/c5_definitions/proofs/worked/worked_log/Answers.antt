use Rattle.std.proofs.Common.{rules}
use Rattle.c5_definitions.specs.Spelling.{spelled_u32, spelled_u64, spelled_cell, spelled_change}
use Rattle.c5_definitions.specs.Spelling.{spelled_header, write_payload, mark_payload, end_payload}
use Rattle.c5_definitions.specs.Spelling.{spelled_frame, spelled_txn, spelled_log}
use Rattle.c5_definitions.proofs.worked.worked_log.Goals as goal

pub returns : goal.returns
unfolding spelled_u32 spelled_u64 spelled_cell spelled_change spelled_header write_payload
    mark_payload end_payload spelled_frame spelled_txn spelled_log
returns c = search rules
