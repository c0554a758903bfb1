use Rattle.c5_script.proofs.LineLaws.{first-is_position}
use Rattle.c5_script.proofs.lines.line_end.Goals as goal

pub returns : goal.returns
returns c = first-is_position c.args.bytes.now c.memchr.result c.memchr.ensures
