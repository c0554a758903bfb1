-- A walk down a row.
use Rattle.std.proofs.Common.{◌≡◌, ◌≢◌, ◌∙◌, ◌+◌, ◌-◌, ◌≤◌, ◌<◌, ◌++◌, ◌&&◌, ℕ, zero, suc, Bool}
use Rattle.std.proofs.Common.{true, false, List, [], ◌∷◌, length, map, max, cond, ap, sym, subst}
use Rattle.std.proofs.Common.{refl, arith, true≢false, append_assoc, append-nil, ◌⊎◌, inl, inr}
use borrow.Author.Tests.{lt-ltb, le-ltb, eq-eqb, ne_eqb}
use lib.Dec.{eqb, ltb}
use Rattle.std.proofs.Math.Nat.{eq-or-lt_of_le}
use Rattle.std.proofs.lemmas.List.{map-append}
use Rattle.c5_rows.specs.declared.writes.RowName.{RowName}
use Rattle.c5_definitions.specs.WriteNumbers.{row_of, predecessor_of, last_on_row, IsWrite}
use Rattle.c5_definitions.specs.WriteNumbers.{IsFirstWrite}
use Rattle.c5_definitions.specs.NumberLaws.{PredecessorsAreLast, RowsAreNumbered}
use Rattle.c5_board.specs.declared.known.Look.{Look}
use Rattle.c5_board.specs.declared.known.Record.{Record}
use Rattle.c5_board.specs.declared.known.Look.TheVariants.{LoadHead, LoadRecord}
use Rattle.c5_board.specs.Boards.{Board, Pass, names, record_of}
use Rattle.c5_board.specs.Passes.{IsHeadOf}
use Rattle.c5_rows.specs.declared.writes.Txn.{Txn}
use Rattle.c5_definitions.specs.WriteNumbers.{names_in}
use Rattle.c5_frames.specs.Index.{writes_of}
use Rattle.c5_plan.proofs.Sizing.{length-names_in}
use Rattle.c5_chains.specs.Chains.{numbers_above, FollowsRow, IsWalking}

both_false : (a : Bool) → (a && false) ≡ false
both_false true = refl
both_false false = refl

-- a number of the row above the end is next
numbers-on : (ns : List RowName) (row end n : ℕ) → end < suc n → row_of ns (suc n) ≡ row
    → numbers_above ns row end (suc n) ≡ suc n ∷ numbers_above ns row end n
numbers-on ns row end n above on =
    (λ j. cond (lt-ltb end (suc n) above j && eq-eqb (row_of ns (suc n)) row on j)
    (suc n ∷ numbers_above ns row end n) (numbers_above ns row end n))

-- one of another row is passed over
numbers-off : (ns : List RowName) (row end n : ℕ) → (row_of ns (suc n) ≡ row → ⊥)
    → numbers_above ns row end (suc n) ≡ numbers_above ns row end n
numbers-off ns row end n off =
    (λ j. cond (ltb end (suc n) && ne_eqb (row_of ns (suc n)) row off j)
    (suc n ∷ numbers_above ns row end n) (numbers_above ns row end n))
    ∙ ap (λ (b : Bool). cond b (suc n ∷ numbers_above ns row end n) (numbers_above ns row end n))
    (both_false (ltb end (suc n)))

-- none is up to the end
numbers-none : (ns : List RowName) (row end n : ℕ) → n ≤ end → numbers_above ns row end n ≡ []
numbers-none ns row end zero up_to = refl
numbers-none ns row end (suc n) up_to =
    ap (λ (b : Bool). cond (b && eqb (row_of ns (suc n)) row) (suc n ∷ numbers_above ns row end n)
    (numbers_above ns row end n)) (le-ltb end (suc n) up_to)
    ∙ numbers-none ns row end n (omega arith)

-- between two numbers of the row is none
numbers-between : (ns : List RowName) (row end m n : ℕ) → m ≤ n
    → ((v : ℕ) → m < v → v ≤ n → row_of ns v ≡ row → ⊥)
    → numbers_above ns row end n ≡ numbers_above ns row end m
numbers-between ns row end m zero h none = let e : 0 ≡ m = omega arith in
    ap (numbers_above ns row end) e
numbers-between ns row end m (suc n) h none =
    by (eq-or-lt_of_le h)
    (λ less. numbers-between ns row end m n (omega arith)
    (λ v above below. none v above (omega arith)))
  where
    by : (m ≡ suc n) ⊎ (m < suc n)
        → (m < suc n → numbers_above ns row end n ≡ numbers_above ns row end m)
        → numbers_above ns row end (suc n) ≡ numbers_above ns row end m
    by (inl e) rest = sym (ap (numbers_above ns row end) e)
    by (inr less) rest = numbers-off ns row end n (none (suc n) less (omega arith)) ∙ rest less

-- the head was loaded
pub walking-begin : (old now : Pass) (row end head : ℕ) → IsHeadOf (names old.board) row head
    → ((v : ℕ) → IsWrite (names old.board) v → row_of (names old.board) v ≡ row → v ≤ end
    → v ≤ head)
    → now ≡ record old {
      scheduled = max old.scheduled head;
      looks = old.looks ++ LoadHead row head ∷ [];
    } → IsWalking old now row end head head
walking-begin old now row end head is_head covers is =
    record {
      visited = [];
      left = refl;
      pass = is;
      not_above = omega arith;
      is_head = is_head;
      greatest = covers;
    }

-- a record was loaded
pub walking-next : (old now new : Pass) (row end head w : ℕ) (link : Record)
    → PredecessorsAreLast (names old.board) → IsFirstWrite (names old.board) row
    → IsWalking old now row end head w → end < w
    → link ≡ record_of (names old.board) w
    → new ≡ record now { looks = now.looks ++ LoadRecord w link ∷ [] }
    → IsWalking old new row end head link.predecessor
walking-next old now new row end head zero link laws first h above is made = absurd (omega arith)
walking-next old now new row end head (suc n) link laws first h above is made =
    let on = h.is_head (λ e. absurd (omega arith)) in
    let predecessor : link.predecessor ≡ predecessor_of (names old.board) (suc n) =
    ap (λ (l : Record). l.predecessor) is in
    let below = laws.below (suc n) on.0 in
    let high = h.not_above in
    let none : (v : ℕ) → predecessor_of (names old.board) (suc n) < v → v ≤ n
    → row_of (names old.board) v ≡ row → ⊥ =
    λ v more less same.
    let within = on.0.within in
    let write : IsWrite (names old.board) v =
    record { positive = omega arith; within = omega arith } in
    let least = laws.greatest v (suc n) write on.0 (same ∙ sym on.1) (omega arith) in
    absurd (omega arith) in
    let step : numbers_above (names old.board) row end (suc n)
    ≡ suc n ∷ numbers_above (names old.board) row end link.predecessor =
    numbers-on (names old.board) row end n above on.1
    ∙ ap (λ (l : List ℕ). suc n ∷ l)
    (numbers-between (names old.board) row end (predecessor_of (names old.board) (suc n)) n
    (omega arith) none ∙ ap (numbers_above (names old.board) row end) (sym predecessor)) in
    record {
      visited = h.visited ++ suc n ∷ [];
      left = append_assoc h.visited (suc n ∷ [])
          (numbers_above (names old.board) row end link.predecessor) ∙ ap
          (λ (l : List ℕ). h.visited ++ l) (sym step) ∙ h.left;
      pass =
          made
          ∙ (λ j. record (h.pass j) { looks = (h.pass j).looks ++ LoadRecord (suc n) (is j) ∷ [] })
          ∙ (λ j. record old {
            scheduled = max old.scheduled head;
            looks = (append_assoc old.looks
                (LoadHead row head
                ∷ map (λ (v : ℕ). LoadRecord v (record_of (names old.board) v)) h.visited)
                (LoadRecord (suc n) (record_of (names old.board) (suc n)) ∷ [])
                ∙ ap (λ (l : List Look). old.looks ++ LoadHead row head ∷ l)
                (sym (map-append
                (λ (v : ℕ). LoadRecord v (record_of (names old.board) v)) h.visited
                (suc n ∷ [])))) j;
          });
      not_above = omega arith;
      is_head = λ some. let p = laws.on_row (suc n) on.0 (λ e. some (predecessor ∙ e)) in (
        subst (IsWrite (names old.board)) (sym predecessor) p.0,
        ap (row_of (names old.board)) predecessor ∙ p.1 ∙ on.1,
      );
      greatest = λ v write same up_to. let least =
          laws.greatest v (suc n) write on.0 (same ∙ sym on.1) (omega arith) in omega arith;
    }

-- the walk has come to the end
pub walked : (old now : Pass) (row end head w : ℕ) → PredecessorsAreLast (names old.board)
    → IsFirstWrite (names old.board) row → IsHeadOf (names old.board) row head
    → IsWalking old now row end head w → w ≤ end → FollowsRow old now row end
walked old now row end head w laws first is_head h up_to = record {
  head = head;
  is_head = is_head;
  pass =
      h.pass
      ∙ (λ j. record old {
        scheduled = max old.scheduled head;
        looks = old.looks ++ LoadHead row head
            ∷ map (λ (v : ℕ). LoadRecord v (record_of (names old.board) v))
            ((sym (append-nil h.visited) ∙ ap (λ (l : List ℕ). h.visited ++ l)
            (sym (numbers-none (names old.board) row end w up_to)) ∙ h.left) j);
      });
}

pub last-walked : (old now : Pass) (row end head w : ℕ) → PredecessorsAreLast (names old.board)
    → IsFirstWrite (names old.board) row → IsWalking old now row end head w → w ≤ end
    → w ≡ last_on_row (names old.board) row end
last-walked old now row end head w laws first h up_to =
    let last = laws.last row end first in
    let within = last.within in
    one w (last_on_row (names old.board) row end) refl
    (λ some. let on = h.is_head some in last.greatest w on.0 on.1 up_to)
    (λ some. let on = last.on_row some in
    h.greatest (last_on_row (names old.board) row end) on.0 on.1 last.within)
  where
    one : (a b : ℕ) → b ≡ b → (a ≢ 0 → a ≤ b) → (b ≢ 0 → b ≤ a) → a ≡ b
    one zero zero e up down = refl
    one zero (suc b) e up down = let h = down (λ q. absurd (omega arith)) in absurd (omega arith)
    one (suc a) b e up down = let h = up (λ q. absurd (omega arith)) in below a b h down
      where
        below : (a b : ℕ) → suc a ≤ b → (b ≢ 0 → b ≤ suc a) → suc a ≡ b
        below a b h down = let l = down (λ q. absurd (omega arith)) in omega arith

pub walking-falls : (old now : Pass) (row end head w : ℕ) (link : Record)
    → PredecessorsAreLast (names old.board) → IsWalking old now row end head w → end < w
    → link ≡ record_of (names old.board) w → link.predecessor < w
walking-falls old now row end head w link laws h above is =
    let predecessor : link.predecessor ≡ predecessor_of (names old.board) w =
    ap (λ (l : Record). l.predecessor) is in
    let on = h.is_head (λ e. absurd (omega arith)) in
    let below = laws.below w on.0 in
    omega arith

-- the last number on a row is a write of the log
pub last-within : (txns : List Txn) (row end last : ℕ) → PredecessorsAreLast (names_in txns)
    → IsFirstWrite (names_in txns) row → last ≡ last_on_row (names_in txns) row end
    → last ≤ length (writes_of txns)
last-within txns row end zero laws first is = omega arith
last-within txns row end (suc n) laws first is =
    let on = (laws.last row end first).on_row (λ e. absurd (omega arith)) in
    let within = on.0.within in
    omega (arith, length-names_in txns)
