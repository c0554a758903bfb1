use Rattle.c5_definitions.proofs.NumberLemmas.{rows_are_numbered, predecessors_are_last, places_end}
use Rattle.c5_definitions.proofs.NumberLemmas.{numbers_are_owned}
use Rattle.c5_definitions.proofs.number_laws.number_law.Goals as goal

pub returns : goal.returns
returns c = record {
  rows = rows_are_numbered;
  predecessors = predecessors_are_last;
  places = places_end;
  owners = numbers_are_owned;
}
