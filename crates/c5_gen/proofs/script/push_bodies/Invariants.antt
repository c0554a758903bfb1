use Rattle.std.proofs.Common.{◌≡◌, ◌-◌, []}
use Rattle.c5_definitions.specs.Generated.{generated_tables, generated_bodies, draw}
use Rattle.c5_gen.proofs.script.push_bodies.Given as goal

abbrev pub invariant-loop-number : goal.invariant-loop-number
invariant-loop-number l =
    (l.script
    ≡ record {
      tables = generated_tables;
      bodies = generated_bodies l.number;
      reads = [];
      turns = [];
    })
    × (l.draw ≡ draw (l.number - 1))
