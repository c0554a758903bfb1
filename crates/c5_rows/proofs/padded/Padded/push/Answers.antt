use Rattle.std.proofs.Common.{length, ◌<◌, ap, arith}
use Rattle.c5_rows.specs.Padded.{IsPadded-push, length-of_padded}
use Rattle.c5_rows.proofs.padded.Padded.push.Goals as goal

pub invariant_of-self : goal.invariant_of-self
invariant_of-self g c =
    let len =
    length-of_padded g.T.Blank.blank_value g.row.N c.self.inside.len c.self.inside.items
    c.self.invariant in
    let same = ap length c.self.view_is in
    let room : c.self.inside.len < g.row.N = omega (arith, c.requires.room) in
    IsPadded-push g.T.Blank.blank_value g.row.N c.self.inside.len c.args.item c.self.inside.items
    c.self.invariant room
