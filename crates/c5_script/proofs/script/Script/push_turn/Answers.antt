use Rattle.std.proofs.Common.{◌<◌, length, subst, sym}
use Rattle.c5_rows.specs.Sizes.{max_turn_words}
use Rattle.c5_definitions.specs.ScriptParts.{ScriptParts}
use Rattle.c5_script.proofs.ScriptLemmas.{IsScript-turn}
use Rattle.c5_script.proofs.script.Script.push_turn.Goals as goal

pub invariant_of-self-2 : goal.invariant_of-self-2
invariant_of-self-2 c =
    let script : ScriptParts =
    record {
      tables = c.self.inside.schema;
      bodies = c.self.inside.bodies.items;
      reads = c.self.inside.reads.items;
      turns = c.self.inside.turns.items;
    } in
    let room : length script.turns < max_turn_words =
    subst (λ (parts : ScriptParts). length parts.turns < max_turn_words)
    (sym c.self.view_is) c.requires.room in
    IsScript-turn script c.args.word c.push.new.self.items c.self.invariant c.requires.range room
    c.in_ok-push.ensures.items
