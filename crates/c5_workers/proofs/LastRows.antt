-- The last number of each row, as one write after the other is scheduled.
use Rattle.std.proofs.Common.{◌≡◌, ◌≢◌, ◌∙◌, ◌+◌, ◌-◌, ◌≤◌, ◌<◌, ℕ, zero, suc, Bool, true, false}
use Rattle.std.proofs.Common.{List, length, get_or, set, ap, sym, subst, refl, arith}
use Rattle.std.proofs.Common.{get_or-set_same, get_or-set_other, length-set}
use borrow.Author.Tests.{eqb-true, eqb-false}
use lib.Dec.{eqb}
use Rattle.c5_rows.specs.declared.writes.RowName.{RowName}
use Rattle.c5_definitions.specs.WriteNumbers.{row_of, predecessor_of, last_on_row, IsWrite}
use Rattle.c5_definitions.specs.WriteNumbers.{IsFirstWrite}
use Rattle.c5_definitions.specs.NumberLaws.{RowsAreNumbered, PredecessorsAreLast}
use Rattle.c5_board.specs.Boards.{Pass, names, record_of}
use Rattle.c5_workers.specs.Scheduling.{IsLastOfEach, IsReadyToRecord}

one_more : (a b : ℕ) → suc a ≤ b → (b ≢ 0 → b ≤ suc a) → suc a ≡ b
one_more a b h down = let l = down (λ q. absurd (omega arith)) in omega arith

-- two numbers are one if each is 0 or at most the other
one_number : (a b : ℕ) → (a ≢ 0 → a ≤ b) → (b ≢ 0 → b ≤ a) → a ≡ b
one_number zero zero up down = refl
one_number zero (suc b) up down = let h = down (λ q. absurd (omega arith)) in absurd (omega arith)
one_number (suc a) b up down = one_more a b (up (λ q. absurd (omega arith))) down

pub not_same : (a b : ℕ) → (a ≡ b → ⊥) → a ≤ b → a < b
not_same a b d h = by (eqb a b) refl
  where
    by : (t : Bool) → eqb a b ≡ t → a < b
    by true e = absurd (d (eqb-true a b e))
    by false e = omega (arith, eqb-false a b e)

module _ (ns : List RowName) (numbered : RowsAreNumbered ns) (laws : PredecessorsAreLast ns) where
  pub predecessor-last : (w : ℕ) → IsWrite ns w
      → predecessor_of ns w ≡ last_on_row ns (row_of ns w) (w - 1)
  predecessor-last w write =
      let last = laws.last (row_of ns w) (w - 1) (numbered.first w write) in
      let below = laws.below w write in
      let within = last.within in
      let some = write.positive in
      one_number (predecessor_of ns w) (last_on_row ns (row_of ns w) (w - 1))
      (λ h. let on = laws.on_row w write h in
      last.greatest (predecessor_of ns w) on.0 on.1 (omega arith))
      (λ h. let on = last.on_row h in
      laws.greatest (last_on_row ns (row_of ns w) (w - 1)) w on.0 write on.1 (omega arith))

  last-own : (w : ℕ) → IsWrite ns w → last_on_row ns (row_of ns w) w ≡ w
  last-own w write =
      let last = laws.last (row_of ns w) w (numbered.first w write) in
      let within = last.within in
      let least = last.greatest w write refl (omega arith) in
      omega arith

  last-other : (row w : ℕ) → IsFirstWrite ns row → 1 ≤ w → (row_of ns w ≡ row → ⊥)
      → last_on_row ns row (w - 1) ≡ last_on_row ns row w
  last-other row w first some other =
      let now = laws.last row w first in
      let was = laws.last row (w - 1) first in
      let within = now.within in
      let below = was.within in
      one_number (last_on_row ns row (w - 1)) (last_on_row ns row w)
      (λ h. let on = was.on_row h in
      now.greatest (last_on_row ns row (w - 1)) on.0 on.1 (omega arith))
      (λ h.
      let on = now.on_row h in
      let less = not_same (last_on_row ns row w) w
      (λ e. other (ap (row_of ns) (sym e) ∙ on.1)) within in
      was.greatest (last_on_row ns row w) on.0 on.1 (omega arith))

  pub last-none : (row : ℕ) → IsFirstWrite ns row → 0 ≡ last_on_row ns row 0
  last-none row first = let within = (laws.last row 0 first).within in omega arith

  -- the record of a write, by what is kept
  pub record-kept : (last : List ℕ) (w row n : ℕ) → IsWrite ns w → row ≡ row_of ns w → n + 1 ≡ w
      → IsLastOfEach ns last n → record { row = row; predecessor = get_or last (row - 1) 0 }
      ≡ record_of ns w
  record-kept last w row n write is next kept =
      let first : IsFirstWrite ns row = subst (IsFirstWrite ns) (sym is) (numbered.first w write) in
      let predecessor : get_or last (row - 1) 0 ≡ predecessor_of ns w =
      kept.each row first ∙
      (λ i. last_on_row ns (is i) (let e : n ≡ w - 1 = omega arith in e i)) ∙ sym
      (predecessor-last w write) in
      (λ i. record { row = is i; predecessor = predecessor i })

  -- what is kept with one write more
  pub kept-with : (last after : List ℕ) (w row n : ℕ) → IsWrite ns w → row ≡ row_of ns w → n + 1 ≡ w
      → IsLastOfEach ns last n → after ≡ set last (row - 1) w → IsLastOfEach ns after w
  kept-with last after w row n write is next kept stored =
      record {
        count = ap length stored ∙ length-set last (row - 1) w ∙ kept.count;
        each = λ r first. ap (λ (l : List ℕ). get_or l (r - 1) 0) stored ∙ by r first
            (eqb r row) refl;
      }
    where
      by : (r : ℕ) → IsFirstWrite ns r → (t : Bool) → eqb r row ≡ t
          → get_or (set last (row - 1) w) (r - 1) 0 ≡ last_on_row ns r w
      by r first true e =
          let same : r ≡ row = eqb-true r row e in
          let positive = first.write.positive in
          let within = first.write.within in
          let count = kept.count in
          let less : row - 1 < length last = omega arith in
          ap (λ (k : ℕ). get_or (set last (row - 1) w) k 0)
          (let q : r - 1 ≡ row - 1 = omega arith in q) ∙ get_or-set_same last (row - 1) w 0 less
          ∙ sym (last-own w write) ∙ ap (λ (k : ℕ). last_on_row ns k w) (sym is ∙ sym same)
      by r first false e =
          let apart = eqb-false r row e in
          let positive = first.write.positive in
          let some : 1 ≤ row = subst (λ (k : ℕ). 1 ≤ k) (sym is)
          (numbered.first w write).write.positive in
          let places : r - 1 ≡ row - 1 → ⊥ = λ q. apart (omega arith) in
          get_or-set_other last (row - 1) (r - 1) w 0 places ∙ kept.each r first
          ∙ ap (last_on_row ns r)
          (let q : n ≡ w - 1 = omega arith in q) ∙ last-other r w first write.positive
          (λ q. apart (sym (is ∙ q)))

pub ready_write : (p : Pass) (last : List ℕ) (w row : ℕ) → IsReadyToRecord p last w row
    → IsWrite (names p.board) w
ready_write p last w row ready = let is = ready.next in
    record { positive = omega arith; within = ready.within }

-- the place of the row
pub ready-row : (p : Pass) (last : List ℕ) (w row : ℕ) → RowsAreNumbered (names p.board)
    → IsReadyToRecord p last w row → (1 ≤ row) × (row ≤ length last)
ready-row p last w row numbered ready =
    let is = ready.is_row in
    let first = numbered.first w (ready_write p last w row ready) in
    let some = first.write.positive in
    let within = first.write.within in
    let count = ready.kept.count in
    (omega arith, omega arith)
