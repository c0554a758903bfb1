use Rattle.std.proofs.Common.{◌≡◌, ◌&&◌, drop}
use Rattle.std.specs.List.{list_all}
use Rattle.c5_definitions.specs.Lines.{is_line_byte}
use Rattle.c5_script.proofs.words.has_line_bytes.Given as goal

-- what is known so far and the bytes that are left decide it
abbrev pub invariant-loop-byte : goal.invariant-loop-byte
invariant-loop-byte l = (l.all && list_all is_line_byte (drop l.byte-index l.line))
    ≡ list_all is_line_byte l.line
