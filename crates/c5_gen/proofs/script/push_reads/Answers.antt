use Rattle.std.proofs.Common.{List, ◌∷◌, ◌++◌, [], length, ap, ap₂, ◌∙◌, sym, arith}
use Rattle.c5_definitions.specs.Generated.{generated_tables}
use Rattle.c5_definitions.specs.ScriptParts.{ReadParts, ScriptParts}
use Rattle.c5_gen.proofs.Growing.{reads-more, reads-length}
use Rattle.c5_gen.proofs.script.push_reads.Goals as goal

-- a script with one more read
abbrev with_read : ScriptParts → ReadParts → ScriptParts
with_read s read = record {
  tables = s.tables;
  bodies = s.bodies;
  reads = s.reads ++ read ∷ [];
  turns = s.turns;
}

-- a script with the tables of generated ones and these reads
abbrev of_reads : ScriptParts → List ReadParts → ScriptParts
of_reads s reads = record {
  tables = generated_tables;
  bodies = s.bodies;
  reads = reads;
  turns = s.turns;
}

pub push_read-requires-clause-room : goal.push_read-requires-clause-room
push_read-requires-clause-room c =
    omega (
      arith,
      ap (λ (s : ScriptParts). length s.reads) c.loop-block.invariant,
      reads-length c.loop-block.block,
    )

pub loop-block-preserved : goal.loop-block-preserved
loop-block-preserved c =
    c.in_ok-push_read.ensures.ok
    ∙ ap₂ with_read c.loop-block.invariant c.in_ok-read.ensures
    ∙ ap (of_reads c.args.script.now) (sym (reads-more c.loop-block.block))
