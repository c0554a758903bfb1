use Rattle.std.proofs.Common.{◌∙◌, ℕ, List, ap, subst}
use Rattle.c5_definitions.specs.Items.{log_of}
use Rattle.c5_definitions.specs.Lawful.{Spells}
use Rattle.c5_frames.specs.Log.{Log}
use Rattle.c5_frames.specs.Holding.{txns_in}
use Rattle.c5_frames.proofs.buffer.LogBuffer.bytes.Goals as goal

pub returns-clause-spelled : goal.returns-clause-spelled
returns-clause-spelled c =
    let b = c.self.inside in
    let same = c.deref.ensures.value in
    subst (λ (l : Log). Spells l.bytes l.tables l.txns) c.self.view_is
    (subst (λ (bytes : List ℕ). Spells bytes b.schema (txns_in b.bytes.items)) same
    (c.spells.ensures (record { tables = b.schema; txns = txns_in b.bytes.items })
    (ap log_of same ∙ c.self.invariant.log)))
