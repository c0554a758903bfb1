use Rattle.std.proofs.lemmas.List.{take_rest}
use Rattle.c5_script.proofs.LineLaws.{lines-Some, behind-Some, lines-None, behind-None}
use Rattle.c5_script.proofs.lines.first_line.Goals as goal

pub returns-in-Some-clause-lines : goal.returns-in-Some-clause-lines
returns-in-Some-clause-lines c =
    rw take_rest (lines-Some c.args.bytes.now c.in-Some.end c.in-Some.ensures)

pub returns-in-Some-clause-behind : goal.returns-in-Some-clause-behind
returns-in-Some-clause-behind c =
    rw take_rest (behind-Some c.args.bytes.now c.in-Some.end c.in-Some.ensures)

pub returns-in-None-clause-lines : goal.returns-in-None-clause-lines
returns-in-None-clause-lines c = lines-None c.args.bytes.now c.requires c.in-None.ensures

pub returns-in-None-clause-behind : goal.returns-in-None-clause-behind
returns-in-None-clause-behind c = behind-None c.args.bytes.now c.in-None.ensures
