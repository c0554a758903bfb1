use Rattle.std.proofs.Common.{refl}
use Rattle.c5_definitions.specs.WriteNumbers.{names_in, are_on_one_row, row_of, last_on_row}
use Rattle.c5_definitions.specs.WriteNumbers.{predecessor_of, end_of, place_below, owner_of}
use Rattle.c5_definitions.proofs.numbers_worked.worked_numbers.Goals as goal

pub returns : goal.returns
unfolding names_in are_on_one_row row_of last_on_row predecessor_of end_of place_below owner_of
returns c = record {
  rows_of_one_key = refl;
  predecessors_of_one_key = refl;
  rows = refl;
  predecessors = refl;
  last = refl;
  ends = refl;
  places = refl;
  rows_of_two_tables = refl;
  owners = refl;
}
