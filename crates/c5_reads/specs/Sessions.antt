-- What a read session is, and what its begin makes of a pass.
use Rattle.std.specs.Prelude.{ℕ, ◌++◌, max, [], ◌∷◌}
use Rattle.c5_rows.specs.State.{State}
use Rattle.c5_definitions.specs.WriteNumbers.{end_of}
use Rattle.c5_board.specs.declared.known.Look.TheVariants.{LoadVisible}
use Rattle.c5_board.specs.Boards.{Pass}

-- the number of a session, and the rows before the log
pub record SessionParts : Type 0 where
  pub session : ℕ
  pub start : State

-- the pass after a load of the visible word that found this place
abbrev pub began : Pass → ℕ → Pass
began p place = record p {
  place = place;
  scheduled = max p.scheduled (end_of p.board.log.txns place);
  looks = p.looks ++ LoadVisible place ∷ [];
}
