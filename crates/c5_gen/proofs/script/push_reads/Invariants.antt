use Rattle.std.proofs.Common.{◌≡◌}
use Rattle.c5_definitions.specs.Generated.{generated_tables}
use Rattle.c5_gen.proofs.Growing.{some_reads}
use Rattle.c5_gen.proofs.script.push_reads.Given as goal

abbrev pub invariant-loop-block : goal.invariant-loop-block
invariant-loop-block l =
    l.script
    ≡ record {
      tables = generated_tables;
      bodies = l.fn.script.bodies;
      reads = some_reads l.block;
      turns = l.fn.script.turns;
    }
