use Rattle.std.proofs.Common.{ap, ◌∙◌}
use Rattle.c5_definitions.specs.Generated.{generated_tables, generated_reads, generated_script}
use Rattle.c5_definitions.specs.ScriptParts.{ScriptParts}
use Rattle.c5_gen.proofs.script.script_of.Goals as goal

abbrev with_reads : ScriptParts → ScriptParts
with_reads s = record {
  tables = generated_tables;
  bodies = s.bodies;
  reads = generated_reads;
  turns = s.turns;
}

pub returns : goal.returns
unfolding generated_script
returns c = c.in_ok-push_reads.ensures ∙ ap with_reads c.in_ok-push_bodies.ensures
