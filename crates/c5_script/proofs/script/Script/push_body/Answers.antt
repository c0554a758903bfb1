use Rattle.std.proofs.Common.{subst, sym}
use Rattle.c5_definitions.specs.ScriptParts.{ScriptParts}
use Rattle.c5_definitions.specs.FitsScript.{BodyFits}
use Rattle.c5_script.proofs.ScriptLemmas.{IsScript-body}
use Rattle.c5_script.proofs.script.Script.push_body.Goals as goal

pub invariant_of-self-2 : goal.invariant_of-self-2
invariant_of-self-2 c =
    let script : ScriptParts =
    record {
      tables = c.self.inside.schema;
      bodies = c.self.inside.bodies.items;
      reads = c.self.inside.reads.items;
      turns = c.self.inside.turns.items;
    } in
    let body = c.shrink.new.self in
    let fits : BodyFits script.tables body =
    subst (λ (parts : ScriptParts). BodyFits parts.tables body) (sym c.self.view_is)
    (subst (BodyFits c.args.self.now.tables) (sym c.shrink.ensures.same) c.requires.fits) in
    IsScript-body script body c.push.new.self.items c.self.invariant c.shrink.ensures.body fits
    c.in_ok-push.ensures.items
