use Rattle.std.proofs.Common.{refl}
use Rattle.c5_definitions.specs.WriteNumbers.{names_in, are_on_one_row, predecessor_of}
use Rattle.c5_definitions.specs.WriteNumbers.{end_of, owner_of}
use Rattle.c5_definitions.specs.Turns.{with_all_tried, after_worker_at, place_done}
use Rattle.c5_definitions.specs.Turns.{after_session_at, after_words, after_worker_turns}
use Rattle.c5_definitions.specs.Turns.{after_rounds, turn_run}
use Rattle.c5_definitions.proofs.turns_worked.worked_turns.Goals as goal

pub returns : goal.returns
unfolding names_in are_on_one_row predecessor_of end_of owner_of
    with_all_tried after_worker_at place_done after_session_at after_words
    after_worker_turns after_rounds turn_run
returns c = record {
  half_done = refl;
  put_off = refl;
  alone = refl;
  no_writes = refl;
  few_writes = refl;
  closing = refl;
  no_words = refl;
}
