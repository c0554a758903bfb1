-- All rows at a place, write after write.
use Rattle.std.proofs.Common.{◌≡◌, ◌≢◌, ◌∙◌, ◌-◌, ◌≤◌, ◌<◌, ℕ, Bool, true, false, cond, List}
use Rattle.std.proofs.Common.{Option, Some, ap, sym, subst, refl, arith, true≢false, lt_of_not-le}
use Rattle.std.specs.Prelude.{Result, Ok, Err, OnOk}
use Rattle.std.specs.FinMap.{get, same_map}
use Rattle.std.specs.Ordering.{eq_by_cmp}
use mathlib.Core.Logic.{dite}
use native.Mathlib.Decide.{ℕ_discrete, dec_le}
use Rattle.c5_rows.specs.declared.cells.Cell.{Cell}
use Rattle.c5_rows.specs.declared.writes.RowName.{RowName}
use Rattle.c5_rows.specs.Order.{row_name_cmp, row_name_cmp_total, row_name_cmp_exact}
use Rattle.c5_rows.specs.State.{State, state_after}
use Rattle.c5_rows.specs.declared.writes.Txn.{Txn}
use Rattle.c5_definitions.specs.WriteNumbers.{names_in, name_at, row_of, last_on_row, end_of}
use Rattle.c5_definitions.specs.WriteNumbers.{IsWrite, IsFirstWrite}
use Rattle.c5_definitions.specs.NumberLaws.{RowsAreNumbered, PlacesEnd}
use Rattle.c5_definitions.proofs.SearchLemmas.{least-found, least-passes, least-not_above}
use Rattle.c5_frames.specs.Index.{writes_of}
use Rattle.c5_board.specs.Boards.{Board, names}
use Rattle.c5_chains.specs.Chains.{at_number}
use Rattle.c5_chains.specs.declared.at.At.{At}
use Rattle.c5_reads.specs.RowLaw.{row_or_before, RowsAreOfLastWrites}
use Rattle.c5_reads.specs.Looks.{row_up_to}
use Rattle.c5_reads.specs.Reading.{with_row}
use Rattle.c5_reads.specs.Filling.{IsFilled}
use Rattle.c5_reads.proofs.LastWrites.{has_name, named_from, has_own_name, write_named}
use Rattle.c5_reads.proofs.AnswerLemmas.{get-with, same-name, own-name}

pub filled-none : (names : List RowName) (start state rows : State) → rows ≡ start
    → IsFilled names start state rows 0
filled-none names start state rows e = record {
  filled = λ v name is le at. let h = is.positive in absurd (omega arith);
  left = λ name later. ap (λ (s : State). get s name) e;
}

module _ (names : List RowName) (start state rows : State) (w : ℕ) (is : IsWrite names w)
    (f : IsFilled names start state rows (w - 1)) where
  -- a write that isn't the first of its row
  pub filled-again : RowsAreNumbered names → row_of names w ≢ w → IsFilled names start state rows w
  filled-again law other = record {
    filled = λ v name is_v le at. dite (ℕ_discrete v w)
        (λ same.
        let first = law.first w is in
        let below = law.not_above w in
        let one = law.one_name (row_of names w) w first.write is first.first in
        f.filled (row_of names w) name first.write (omega arith)
        (one ∙ subst (λ (x : ℕ). name_at names x ≡ Some name) same at))
        (λ differ. f.filled v name is_v (omega arith) at);
    left = λ name later. f.left name (λ v is_v at. let h = later v is_v at in omega arith);
  }

  set-at : (name q : RowName) (row : Option (List Cell)) (P : Option (List Cell) → Type 0)
      → (q ≡ name → P row) → (eq_by_cmp row_name_cmp q name ≡ false → P (get rows q))
      → P (get (with_row name row rows) q)
  set-at name q row P yes_ no_ =
      subst P (sym (get-with name q row rows)) (by (eq_by_cmp row_name_cmp q name) refl)
    where
      by : (b : Bool) → eq_by_cmp row_name_cmp q name ≡ b → P (cond b row (get rows q))
      by true e = yes_ (same-name q name e)
      by false e = no_ e

  -- the first write of a row
  pub filled-first : (name : RowName) → name_at names w ≡ Some name
      → IsFilled names start state (with_row name (get state name) rows) w
  filled-first name name_is = record {
    filled = λ v q is_v le at. set-at name q (get state name)
        (λ (o : Option (List Cell)). o ≡ get state q)
        (λ same. ap (get state) (sym same))
        (λ differ. f.filled v q is_v (dite (ℕ_discrete v w)
        (λ same. let one : Some q ≡ Some name = sym at ∙ ap (name_at names) same ∙ name_is in
        let e : q ≡ name = cc in
        absurd (true≢false
        (sym (ap (λ (x : RowName). eq_by_cmp row_name_cmp x name) e ∙ own-name name) ∙ differ)))
        (λ other. let z : v - 0 ≡ v = omega arith in omega arith)) at);
    left = λ q later. set-at name q (get state name) (λ (o : Option (List Cell)). o ≡ get start q)
        (λ same. let h = later w is (name_is ∙ ap Some (sym same)) in absurd (omega arith))
        (λ differ. f.left q (λ v is_v at. let h = later v is_v at in omega arith));
  }

pub filled-all : (names : List RowName) (start state rows : State) (end : ℕ)
    → IsFilled names start state rows end
    → ((name : RowName) → ((w : ℕ) → IsWrite names w → name_at names w ≡ Some name → end < w)
    → get state name ≡ get start name) → rows ≡ state
filled-all names start state rows end f unwritten =
    same_map row_name_cmp_total row_name_cmp_exact rows state
    (λ q. dite (ℕ_discrete (row_up_to names q end) 0)
    (λ none.
    let later = λ (w : ℕ) (is : IsWrite names w)
    (at : name_at names w ≡ Some q). not_up_to q none w is at in
    f.left q later ∙ sym (unwritten q later))
    (λ some.
    let at = named_from (name_at names (row_up_to names q end)) q
    (least-passes (has_name names q) end some) in
    f.filled (row_up_to names q end) q (write_named names (row_up_to names q end) q at)
    (least-not_above (has_name names q) end) at))
  where
    not_up_to : (q : RowName) → row_up_to names q end ≡ 0 → (w : ℕ) → IsWrite names w
        → name_at names w ≡ Some q → end < w
    not_up_to q none w is at = elim (dec_le w end) [
      | yes le ↦ let h =
          (least-found (has_name names q) end w is.positive le
          (has_own_name (name_at names w) q at)).0 in absurd (omega arith)
      | no gt ↦ lt_of_not-le gt
    ]

pub written : (txns : List Txn) (place w : ℕ) → PlacesEnd txns → 1 ≤ w → w ≤ end_of txns place
    → IsWrite (names_in txns) w
written txns place w ends some within =
    record { positive = some; within = let h = ends.within place in omega arith }

on_ok : {T E : Type 0} (r : Result T E) (P Q : Type 0) → (P → Q) → OnOk r P → OnOk r Q
on_ok (Ok x) P Q f h = f h
on_ok (Err e) P Q f h = tt

pub filled-set : {T E : Type 0} (board : Board) (start rows new : State) (place w : ℕ)
    (name : RowName) (at : At) (row : Option (List Cell)) (r : Result T E)
    → RowsAreOfLastWrites start board.log.txns place → IsWrite (names board) w
    → IsFilled (names board) start (state_after start board.log.txns place) rows (w - 1)
    → IsFirstWrite (names board) w → name_at (names board) w ≡ Some name
    → at ≡ at_number (writes_of board.log.txns)
    (last_on_row (names board) w (end_of board.log.txns place))
    → row ≡ row_or_before at (get start name) → OnOk r (new ≡ with_row name row rows)
    → OnOk r (IsFilled (names board) start (state_after start board.log.txns place) new w)
filled-set board start rows new place w name at row r law is f first name_is value made set =
    let state = state_after start board.log.txns place in
    let same : row ≡ get state name =
    made ∙ ap (λ (a : At). row_or_before a (get start name)) value ∙ sym
    (law.written name w first name_is) in
    on_ok r (new ≡ with_row name row rows) (IsFilled (names board) start state new w)
    (λ e. subst (λ (s : State). IsFilled (names board) start state s w)
    (sym (e ∙ ap (λ (o : Option (List Cell)). with_row name o rows) same))
    (filled-first (names board) start state rows w is f name name_is)) set
