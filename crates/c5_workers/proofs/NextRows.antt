-- The row of the next write.
use Rattle.std.proofs.Common.{◌≡◌, ◌∙◌, ◌-◌, ◌≤◌, ◌<◌, ℕ, List, Some, None, slice_get, ap, sym}
use Rattle.std.proofs.Common.{subst, arith}
use borrow.Author.Tests.{eq-eqb, ne_eqb}
use Rattle.std.specs.Prelude.{if◌then◌else◌}
use Rattle.c5_rows.specs.declared.writes.RowName.{RowName}
use Rattle.c5_definitions.specs.WriteNumbers.{name_at, row_of, IsWrite, IsFirstWrite}
use Rattle.c5_definitions.specs.RowIndex.{IsSlot}
use Rattle.c5_definitions.specs.NumberLaws.{RowsAreNumbered}
use Rattle.c5_board.specs.Boards.{Board, Pass, names}
use Rattle.c5_chains.specs.Finds.{IsNumberOfRow, IsFree}
use Rattle.c5_chains.specs.Paths.{FollowsPath}
use Rattle.c5_chains.proofs.Naming.{name_at-write}
use Rattle.c5_chains.proofs.OnPaths.{same-names}
use Rattle.c5_frames.specs.Index.{writes_of}
use Rattle.c5_frames.specs.Log.{Log}
use Rattle.c5_rows.specs.declared.writes.Write.{Write}
use Rattle.c5_workers.specs.Scheduling.{IsNext, LooksUp, PlacesRow, IsTooMany}

pub next_write : (p : Pass) (w : ℕ) → IsNext p w → IsWrite (names p.board) w
next_write p w next = let is = next.next in record { positive = omega arith; within = next.within }

-- the name of a write of the pass's log
pub named-in : (p : Pass) (b : Board) (l : Log) (w : ℕ) (write : Write) (name : RowName)
    → p.board ≡ b → l ≡ b.log → 1 ≤ w → slice_get (writes_of l.txns) (w - 1) ≡ Some write
    → name ≡ write.name → name_at (names p.board) w ≡ Some name
named-in p b l w write name of is some at e =
    subst (λ (ns : List RowName). name_at ns w ≡ Some name) (same-names p b l of is)
    (name_at-write l.txns w write some at ∙ ap (λ (n : RowName). Some n) (sym e))

module _ (p : Pass) (w : ℕ) (name : RowName) (numbered : RowsAreNumbered (names p.board))
    (next : IsNext p w) (name_is : name_at (names p.board) w ≡ Some name) where
  next-write : IsWrite (names p.board) w
  next-write = next_write p w next

  found-row : (row : ℕ) → IsNumberOfRow p name row → row ≡ row_of (names p.board) w
  found-row row found = sym found.first.first ∙ numbered.one_row row w found.first.write next-write
      (found.name_is ∙ sym name_is)

  found-below : (row : ℕ) → IsNumberOfRow p name row → row < w
  found-below row found = let own = found.own next.role in let is = next.next in
      let low = next.indexed in omega arith

  -- a row that is found was written before
  pub placed-found : (new : Pass) (rows row : ℕ) → IsNumberOfRow p name row
      → FollowsPath p new name (Some row) → PlacesRow p new w rows row
  placed-found new rows row found path =
      let is = found-row row found in
      let below = found-below row found in
      let apart : row_of (names p.board) w ≡ w → ⊥ = λ e. omega arith in
      record {
        is_row = is;
        few = λ first. absurd (apart first.first);
        found = new;
        looks = record {
          name = name;
          name_is = name_is;
          path = subst (FollowsPath p new name)
              (ap (λ (r : ℕ). Some r) is ∙
              (λ i. if sym (ne_eqb (row_of (names p.board) w) w apart) i then None
              else Some (row_of (names p.board) w))) path;
        };
        pass = λ i. record new {
          indexed = if sym (ne_eqb (row_of (names p.board) w) w apart) i
              then w else new.indexed;
        };
      }

  -- a row that isn't found is new
  pub free-first : (bucket : ℕ) → IsFree p name bucket → IsFirstWrite (names p.board) w
  free-first bucket free =
      let first = numbered.first w next-write in
      let low = numbered.not_above w in
      let is = next.next in
      let its_name = numbered.one_name
      (row_of (names p.board) w) w first.write next-write first.first ∙ name_is in
      let above = free.absent (row_of (names p.board) w) first.write its_name in
      record { write = next-write; first = omega arith }

  pub free-slot : (bucket : ℕ) → IsFree p name bucket → IsSlot (names p.board) w bucket
  free-slot bucket free = let is = next.next in
      free.slot w (free-first bucket free) name_is (omega arith)

  looks-new : (new : Pass) → IsFirstWrite (names p.board) w → FollowsPath p new name None
      → LooksUp p new w
  looks-new new first path = record {
    name = name;
    name_is = name_is;
    path = subst (FollowsPath p new name)
        (λ i. if sym (eq-eqb (row_of (names p.board) w) w first.first) i then None
        else Some (row_of (names p.board) w)) path;
  }

  pub placed-new : (found new : Pass) (rows bucket : ℕ) → IsFree p name bucket → (rows ≡ 65536 → ⊥)
      → FollowsPath p found name None → new ≡ record found { indexed = w }
      → PlacesRow p new w rows w
  placed-new found new rows bucket free few path is =
      let first = free-first bucket free in
      record {
        is_row = sym first.first;
        few = λ _. few;
        found = found;
        looks = looks-new found first path;
        pass = is ∙
            (λ i. record found {
              indexed = if sym (eq-eqb (row_of (names p.board) w) w first.first) i then w
                  else found.indexed;
            });
      }

  pub too-many : (new : Pass) (rows bucket : ℕ) → IsFree p name bucket → rows ≡ 65536
      → FollowsPath p new name None → IsTooMany p new w rows
  too-many new rows bucket free full path = let first = free-first bucket free in
      record { first = first; full = full; looks = looks-new new first path }
