use Rattle.std.proofs.Common.{◌≡◌, ◌&&◌, drop}
use Rattle.std.specs.List.{list_all}
use Rattle.c5_rows.specs.Bytes.{is_text_byte}
use Rattle.c5_rows.proofs.names.are_text_bytes.Given as goal

-- what is known so far and the bytes that are left decide it
abbrev pub invariant-loop-byte : goal.invariant-loop-byte
invariant-loop-byte l = (l.all && list_all is_text_byte (drop l.byte-index l.bytes))
    ≡ list_all is_text_byte l.bytes
