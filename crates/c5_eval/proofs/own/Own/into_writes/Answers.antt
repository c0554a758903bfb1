use Rattle.std.proofs.Common.{◌∙◌, ap, sym}
use Rattle.c5_definitions.specs.Follows.{own_writes}
use Rattle.c5_eval.specs.Setting.{set_by}
use Rattle.c5_eval.specs.Held.{held_by}
use Rattle.c5_eval.proofs.OwnInWrites.{own_writes-set_by}
use Rattle.c5_eval.proofs.own.Own.into_writes.Goals as goal

pub returns-in-None : goal.returns-in-None
returns-in-None c =
    let writes = c.self.inside.writes in
    sym (own_writes-set_by writes c.as_slice-writes.ensures.ascending)
    ∙ ap (λ tree. own_writes (set_by (held_by writes tree))) (sym c.in-None.is)
    ∙ ap own_writes c.self.view_is
