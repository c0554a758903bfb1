-- How a pass is held.
use Rattle.std.specs.Prelude.{◌≡◌, []}
use Rattle.c5_board.specs.declared.pass.BoardPass.TheInside.{Inside}
use Rattle.c5_board.specs.Boards.{Pass, pass_of}
use Rattle.c5_board.specs.Passes.{IsSound}

abbrev pub shown_pass : Inside → Pass
shown_pass p = pass_of p.seat.table_id p.seat.me.0

pub record IsPass (p : Inside) : Type 0 where
  pub place : p.place ≡ p.seat.me.0.place
  pub no_slots : p.seat.me.1 ≡ []
  pub sound : IsSound (shown_pass p)
