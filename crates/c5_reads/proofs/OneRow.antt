-- One row at a place.
use Rattle.std.proofs.Common.{◌≡◌, ◌∙◌, ◌≤◌, ◌<◌, ℕ, List, Option, Some, ap, sym, subst, arith}
use Rattle.std.specs.FinMap.{get}
use Rattle.c5_rows.specs.declared.cells.Cell.{Cell}
use Rattle.c5_rows.specs.declared.writes.RowName.{RowName}
use Rattle.c5_rows.specs.State.{State, state_after}
use Rattle.c5_definitions.specs.WriteNumbers.{name_at, last_on_row, end_of, IsWrite, IsFirstWrite}
use Rattle.c5_definitions.specs.NumberLaws.{PlacesEnd}
use Rattle.c5_frames.specs.Index.{writes_of}
use Rattle.c5_board.specs.Boards.{Board, Pass, names}
use Rattle.c5_board.specs.Passes.{IsSound}
use Rattle.c5_chains.specs.Chains.{at_number}
use Rattle.c5_chains.specs.Finds.{IsNumberOfRow, IsAbsent}
use Rattle.c5_chains.specs.declared.at.At.{At}
use Rattle.c5_chains.specs.declared.at.At.TheVariants.{Before}
use Rattle.c5_reads.specs.RowLaw.{row_or_before, RowsAreOfLastWrites}

-- the writes of a place that the pass knows are scheduled
pub end-scheduled : (p : Pass) (place : ℕ) → PlacesEnd p.board.log.txns → IsSound p
    → place ≤ p.place → end_of p.board.log.txns place ≤ p.scheduled
end-scheduled p place ends sound le = let a = ends.ascend place p.place le in let b = sound.end in
    omega arith

pub row-found : (p : Pass) (board : Board) (start : State) (place row : ℕ) (name : RowName)
    (at : At) (found : Option (List Cell)) → p.board ≡ board
    → RowsAreOfLastWrites start board.log.txns place → IsNumberOfRow p name row
    → at ≡ at_number (writes_of board.log.txns)
    (last_on_row (names board) row (end_of board.log.txns place))
    → found ≡ row_or_before at (get start name)
    → found ≡ get (state_after start board.log.txns place) name
row-found p board start place row name at found same law is value left =
    left ∙ ap (λ (a : At). row_or_before a (get start name)) value
    ∙ sym (law.written name row (subst (λ (b : Board). IsFirstWrite (names b) row) same is.first)
    (subst (λ (b : Board). name_at (names b) row ≡ Some name) same is.name_is))

pub row-absent : (p : Pass) (board : Board) (start : State) (place : ℕ) (name : RowName)
    (found : Option (List Cell)) → p.board ≡ board → RowsAreOfLastWrites start board.log.txns place
    → IsAbsent p name
    → end_of p.board.log.txns place ≤ p.scheduled → found ≡ row_or_before Before (get start name)
    → found ≡ get (state_after start board.log.txns place) name
row-absent p board start place name found same law absent le left =
    left ∙ sym
    (law.unwritten name
    (subst (λ (b : Board). (w : ℕ) → IsWrite (names b) w → name_at (names b) w ≡ Some name
    → end_of b.log.txns place < w) same (λ w is at. let h = absent w is at in omega arith)))
