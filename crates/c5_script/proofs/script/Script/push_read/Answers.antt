use Rattle.std.proofs.Common.{◌<◌, subst, sym, length}
use Rattle.c5_definitions.specs.ScriptParts.{ScriptParts}
use Rattle.c5_definitions.specs.FitsScript.{ReadFits}
use Rattle.c5_script.proofs.ScriptLemmas.{IsScript-read}
use Rattle.c5_script.proofs.script.Script.push_read.Goals as goal

pub invariant_of-self-2 : goal.invariant_of-self-2
invariant_of-self-2 c =
    let script : ScriptParts =
    record {
      tables = c.self.inside.schema;
      bodies = c.self.inside.bodies.items;
      reads = c.self.inside.reads.items;
      turns = c.self.inside.turns.items;
    } in
    let read = c.args.read in
    let fits : ReadFits script.tables read =
    subst (λ (parts : ScriptParts). ReadFits parts.tables read)
    (sym c.self.view_is) c.requires.fits in
    let room : length script.reads < 256 =
    subst (λ (parts : ScriptParts). length parts.reads < 256)
    (sym c.self.view_is) c.requires.room in
    IsScript-read script read c.push.new.self.items c.self.invariant c.lines-lines.ensures.read fits
    room c.in_ok-push.ensures.items
