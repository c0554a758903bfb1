use Rattle.std.proofs.Common.{ap, ◌∙◌, set, take}
use Rattle.std.proofs.lemmas.List.{length-set}
use Rattle.c5_rows.specs.Padded.{IsPadded-front, take-front, length-of_padded}
use Rattle.c5_rows.proofs.padded.Padded.set.Goals as goal

pub invariant_of-self : goal.invariant_of-self
invariant_of-self g c =
    let len = c.self.inside.len in
    let items = c.self.inside.items in
    let is = length-of_padded g.T.Blank.blank_value g.row.N len items c.self.invariant in
    IsPadded-front g.T.Blank.blank_value g.row.N len
    (set (take len items) c.args.at c.args.item) items
    (length-set (take len items) c.args.at c.args.item ∙ is) c.self.invariant

pub returns : goal.returns
returns g c =
    let len = c.self.inside.len in
    let items = c.self.inside.items in
    let is = length-of_padded g.T.Blank.blank_value g.row.N len items c.self.invariant in
    take-front len (set (take len items) c.args.at c.args.item) items
    (length-set (take len items) c.args.at c.args.item ∙ is)
    ∙ ap (λ cells. set cells c.args.at c.args.item) c.self.view_is
