use Rattle.std.proofs.Common.{◌∙◌, ap}
use Rattle.c5_rows.specs.declared.writes.Write.{Write}
use Rattle.c5_frames.specs.Refs.{row_of_change}
use Rattle.c5_frames.proofs.RefLemmas.{put-row, gone-row}
use Rattle.c5_frames.proofs.refs.WriteRef.row.Goals as goal

pub invariant_of-result : goal.invariant_of-result
invariant_of-result c =
    (put-row c.self.inside.columns c.self.inside.bytes.now c.in-Some.bytes.now _
    c.self.invariant.is_change c.in-Some.ensures).0

pub returns-in-Some : goal.returns-in-Some
returns-in-Some c =
    (put-row c.self.inside.columns c.self.inside.bytes.now c.in-Some.bytes.now _
    c.self.invariant.is_change c.in-Some.ensures).1 ∙ ap
    (λ (w : Write). row_of_change w.change) c.self.view_is

pub returns-in-None : goal.returns-in-None
returns-in-None c =
    gone-row c.self.inside.columns c.self.inside.bytes.now _ c.self.invariant.is_change
    c.in-None.ensures ∙ ap (λ (w : Write). row_of_change w.change) c.self.view_is
