-- What a turn of the scheduler leaves.
use Rattle.std.proofs.Common.{◌≡◌, ◌∙◌, ◌+◌, ◌-◌, ◌≤◌, ◌<◌, ◌++◌, ◌⊎◌, inl, inr, ℕ, zero, suc, Bool}
use Rattle.std.proofs.Common.{true, false, List, [], length, append_assoc, append-nil, get_or, ap}
use Rattle.std.proofs.Common.{sym, subst, refl, arith}
use Rattle.std.proofs.lemmas.List.{length-replicate}
use borrow.Author.Tests.{eqb-true, eq-eqb}
use lib.Dec.{eqb}
use Rattle.std.proofs.Math.Nat.{eq-or-lt_of_le}
use Rattle.std.specs.Prelude.{if◌then◌else◌, replicate}
use Rattle.c5_rows.specs.declared.writes.RowName.{RowName}
use Rattle.c5_definitions.specs.WriteNumbers.{row_of, last_on_row, IsFirstWrite}
use Rattle.c5_definitions.specs.NumberLaws.{RowsAreNumbered, PredecessorsAreLast}
use Rattle.c5_board.specs.declared.known.Look.{Look}
use Rattle.c5_board.specs.Boards.{Pass, names, write_count}
use Rattle.c5_board.specs.Loads.{AreLoads}
use Rattle.c5_board.proofs.LoadLemmas.{loads-append}
use Rattle.c5_chains.specs.Paths.{buckets_of}
use Rattle.c5_chains.proofs.PathLoads.{path-loads}
use Rattle.c5_workers.specs.declared.scheduler.Scheduler.{Scheduler}
use Rattle.c5_workers.specs.Scheduling.{rows_with, first_write_count, IsLastOfEach, IsNext}
use Rattle.c5_workers.specs.Scheduling.{IsReadyToRecord, LooksUp, PlacesRow, indexed_with}
use Rattle.c5_definitions.specs.WriteNumbers.{row_count}
use Rattle.c5_workers.specs.Schedules.{FitsSchedule, Schedules, OnlySchedules, IsFullOfRows}
use Rattle.c5_workers.specs.Schedules.{SchedulesAll, TakesTurn}
use Rattle.c5_workers.specs.declared.schedule_turn.ScheduleTurn.{ScheduleTurn}
use Rattle.c5_workers.specs.declared.schedule_turn.ScheduleTurn.TheVariants as turns
use Rattle.c5_workers.specs.declared.schedule_turn.ScheduleEnd.TheVariants as ends
use Rattle.c5_workers.proofs.LastRows.{not_same, last-none}
use Rattle.c5_workers.proofs.FirstWrites.{rows_are_first_writes}

pub next-of : (s : Scheduler) (p : Pass) → FitsSchedule s p → p.scheduled ≤ write_count p.board
    → (s.scheduled ≡ write_count p.board → ⊥) → IsNext p (s.scheduled + 1)
next-of s p fits most more =
    let is = fits.scheduled in
    let less = not_same s.scheduled (write_count p.board) more (omega arith) in
    record {
      role = fits.role;
      written = fits.written;
      indexed = fits.indexed;
      next = omega arith;
      within = omega arith;
    }

-- the pass before the record is stored
pub placed-pass : (p mid : Pass) (w rows row : ℕ) → PlacesRow p mid w rows row → (looks : List Look)
    × (mid ≡ record p { indexed = indexed_with (names p.board) w p.indexed; looks = looks })
placed-pass p mid w rows row placed = (
  _,
  placed.pass ∙
      (λ i. record
      (placed.looks.path.pass i)
      { indexed = indexed_with (names p.board) w (placed.looks.path.pass i).indexed }),
)

module _ (s : Scheduler) (p mid : Pass) (w row : ℕ) (fits : FitsSchedule s p) (next : IsNext p w)
    (placed : PlacesRow p mid w s.rows row) where
  first-row : row ≡ w → IsFirstWrite (names p.board) w
  first-row e = let is = next.next in
      record {
        write = record { positive = omega arith; within = next.within };
        first = sym placed.is_row ∙ e;
      }

  pub ready-of : (last : List ℕ) → last ≡ s.last.items → IsReadyToRecord mid last w row
  ready-of last kept =
      let is = placed-pass p mid w s.rows row placed in
      let ready : IsReadyToRecord
      (record p { indexed = indexed_with (names p.board) w p.indexed; looks = is.0 }) last w row
      =
      record {
        role = next.role;
        written = next.written;
        next = next.next;
        within = next.within;
        is_row = placed.is_row;
        indexed =
            λ first. (λ i. if eq-eqb (row_of (names p.board) w) w first.first i then w
            else p.indexed);
        kept = subst (λ (l : List ℕ). IsLastOfEach (names p.board) l p.scheduled)
            (sym kept) fits.last;
      } in
      subst (λ (q : Pass). IsReadyToRecord q last w row) (sym is.1) ready

  pub scheduled-next : (new : Pass) → new ≡ record mid { written = w; scheduled = w }
      → Schedules p new w
  scheduled-next new is = record {
    next = next.next;
    within = next.within;
    few = λ first. let full = placed.few first in let count = fits.rows in let most = fits.few in
        subst (λ (n : ℕ). n < 65536) count (not_same s.rows 65536 full most);
    found = placed.found;
    looks = placed.looks;
    pass = is ∙ (λ i. record (placed.pass i) { written = w; scheduled = w });
  }

  rows-few : (t : Bool) → eqb row w ≡ t → (if t then s.rows + 1 else s.rows) ≤ 65536
  rows-few true e =
      let less = not_same s.rows 65536 (placed.few (first-row (eqb-true row w e))) fits.few in
      omega arith
  rows-few false e = fits.few

  indexed-within : (t : Bool) → (if t then w else p.indexed) ≤ w
  indexed-within true = omega arith
  indexed-within false = let low = next.indexed in let is = next.next in omega arith

  count-next : rows_with s.rows w row ≡ first_write_count (names p.board) w
  count-next =
      let is : w ≡ suc p.scheduled =
      next.next ∙ (let e : p.scheduled + 1 ≡ suc p.scheduled = omega arith in e) in
      (λ i. rows_with (fits.rows i) w (placed.is_row i))
      ∙ (λ i. rows_with (first_write_count (names p.board) p.scheduled) (is i)
      (row_of (names p.board) (is i)))
      ∙ ap (first_write_count (names p.board)) (sym is)

  pub fits-next : (after : Scheduler) (new : Pass) (rows : ℕ)
      → new ≡ record mid { written = w; scheduled = w } → after.scheduled ≡ w → after.rows ≡ rows
      → rows ≡ rows_with s.rows w row → IsLastOfEach (names p.board) after.last.items w
      → FitsSchedule after new
  fits-next after new rows is scheduled same counted last =
      let mid_is = placed-pass p mid w s.rows row placed in
      let all : new
      ≡ record p {
        indexed = indexed_with (names p.board) w p.indexed;
        looks = mid_is.0;
        written = w;
        scheduled = w;
      } =
      is ∙ (λ i. record (mid_is.1 i) { written = w; scheduled = w }) in
      let fit : FitsSchedule after
      (record p {
        indexed = indexed_with (names p.board) w p.indexed;
        looks = mid_is.0;
        written = w;
        scheduled = w;
      }) =
      record {
        role = next.role;
        scheduled = scheduled;
        last = last;
        rows = same ∙ counted ∙ count-next;
        few = subst (λ (n : ℕ). n ≤ 65536) (sym (same ∙ counted)) (rows-few (eqb row w) refl);
        written = refl;
        indexed = indexed-within (eqb (row_of (names p.board) w) w);
      } in
      subst (FitsSchedule after) (sym all) fit

-- a new scheduler
zeros : (n i z : ℕ) → get_or (replicate n z) i z ≡ z
zeros zero i z = refl
zeros (suc n) zero z = refl
zeros (suc n) (suc i) z = zeros n i z

pub fits-new : (s : Scheduler) (p : Pass) → RowsAreNumbered (names p.board)
    → PredecessorsAreLast (names p.board) → s.last.items ≡ replicate (write_count p.board) 0
    → s.scheduled ≡ 0 → s.rows ≡ 0
    → p.scheduler ≡ true → p.scheduled ≡ 0 → p.written ≡ 0 → p.indexed ≡ 0 → FitsSchedule s p
fits-new s p numbered laws items scheduled rows role none written indexed = record {
  role = role;
  scheduled = scheduled ∙ sym none;
  last = record {
    count = ap length items ∙ length-replicate (write_count p.board) 0;
    each = λ row first. ap (λ (l : List ℕ). get_or l (row - 1) 0) items ∙ zeros
        (write_count p.board) (row - 1) 0 ∙ last-none (names p.board) numbered laws row first ∙ ap
        (last_on_row (names p.board) row) (sym none);
  };
  rows = rows ∙ ap (first_write_count (names p.board)) (sym none);
  few = omega arith;
  written = written ∙ sym none;
  indexed = omega arith;
}

-- ---- a whole log

rows-more : (t : Bool) (rows : ℕ) → rows ≤ (if t then rows + 1 else rows)
rows-more true rows = omega arith
rows-more false rows = omega arith

count-rises : (ns : List RowName) (m n : ℕ) → m ≤ n
    → first_write_count ns m ≤ first_write_count ns n
count-rises ns m zero h = let e : m ≡ 0 = omega arith in
    subst (λ (k : ℕ). first_write_count ns k ≤ first_write_count ns 0) (sym e) (omega arith)
count-rises ns m (suc n) h = by (eq-or-lt_of_le h) (λ less. count-rises ns m n (omega arith))
  where
    by : (m ≡ suc n) ⊎ (m < suc n) → (m < suc n → first_write_count ns m ≤ first_write_count ns n)
        → first_write_count ns m ≤ first_write_count ns (suc n)
    by (inl e) rest = subst (λ (k : ℕ). first_write_count ns k ≤ first_write_count ns (suc n))
        (sym e) (omega arith)
    by (inr less) rest =
        let low = rest less in
        let more = rows-more (eqb (row_of ns (suc n)) (suc n)) (first_write_count ns n) in
        omega (arith, low, more)

count-first : (ns : List RowName) (n : ℕ) → row_of ns (suc n) ≡ suc n
    → first_write_count ns (suc n) ≡ first_write_count ns n + 1
count-first ns n first = λ i. if eq-eqb (row_of ns (suc n)) (suc n) first i
    then first_write_count ns n + 1 else first_write_count ns n

too_many-rows : (p : Pass) → IsFullOfRows p
    → 65536 < first_write_count (names p.board) (write_count p.board)
too_many-rows p full =
    let within = full.first.write.within in
    let is : p.scheduled + 1 ≡ suc p.scheduled = omega arith in
    let count = count-first (names p.board) p.scheduled
    (subst (λ (k : ℕ). row_of (names p.board) k ≡ k) is full.first.first) in
    let all = count-rises (names p.board) (suc p.scheduled) (write_count p.board) (omega arith) in
    let most = full.full in
    omega arith

-- what turns leave
only-from : (p q : Pass) (written indexed scheduled : ℕ) (more : List Look) → AreLoads more
    → p.scheduled ≤ scheduled → q
    ≡ record p {
      written = written;
      indexed = indexed;
      scheduled = scheduled;
      looks = p.looks ++ more;
    } → OnlySchedules p q
only-from p q written indexed scheduled more loads up is =
    subst (OnlySchedules p) (sym is)
    (record { rest = refl; scheduled = up; more = more; looks = refl; loads = loads })

pub only-none : (p : Pass) → OnlySchedules p p
only-none p = only-from p p p.written p.indexed p.scheduled [] tt (omega arith)
    (λ i. record p { looks = sym (append-nil p.looks) i })

pub only-looked : (p q : Pass) (w : ℕ) → LooksUp p q w → OnlySchedules p q
only-looked p q w looks = only-from p q p.written p.indexed p.scheduled _
    (path-loads (buckets_of p.board) _ _) (omega arith) looks.path.pass

pub only-scheduled : (p q : Pass) (w : ℕ) → Schedules p q w → OnlySchedules p q
only-scheduled p q w s =
    let is = s.next in
    only-from p q w (indexed_with (names p.board) w p.indexed) w _
    (path-loads (buckets_of p.board) _ _) (omega arith)
    (s.pass ∙
    (λ i. record
    (s.looks.path.pass i) {
      indexed = indexed_with (names p.board) w (s.looks.path.pass i).indexed;
      written = w;
      scheduled = w;
    }))

pub only-turn : (p q : Pass) (turn : ScheduleTurn) → TakesTurn p q turn → OnlySchedules p q
only-turn p q turns.Done h = subst (OnlySchedules p) (sym h.1) (only-none p)
only-turn p q turns.Rows h = only-looked p q (p.scheduled + 1) h.1
only-turn p q (turns.Did w) h = only-scheduled p q w h

pub only-then : (p q r : Pass) → OnlySchedules p q → OnlySchedules q r → OnlySchedules p r
only-then p q r h k =
    let up = h.scheduled in
    let further = k.scheduled in
    record {
      rest = k.rest ∙
          (λ i. record (h.rest i) {
            written = r.written;
            indexed = r.indexed;
            scheduled = r.scheduled;
            looks = r.looks;
          });
      scheduled = omega arith;
      more = h.more ++ k.more;
      looks = k.looks ∙ ap (λ (l : List Look). l
          ++ k.more) h.looks ∙ append_assoc p.looks h.more k.more;
      loads = loads-append h.more k.more h.loads k.loads;
    }

all-rows : (p : Pass) → first_write_count (names p.board) (write_count p.board)
    ≡ row_count (names p.board)
all-rows p = rows_are_first_writes (names p.board)

pub ends-full : (old mid new : Pass) → OnlySchedules old mid → IsFullOfRows mid
    → LooksUp mid new (mid.scheduled + 1) → SchedulesAll old new ends.Rows
ends-full old mid new only full looks =
    let is = looks.path.pass in
    let kept : IsFullOfRows (record mid { looks = new.looks }) =
    record { first = full.first; full = full.full } in
    let same : new ≡ record mid { looks = new.looks } =
    is ∙ (λ i. record mid { looks = ap (λ (p : Pass). p.looks) (sym is) i }) in
    let full_new : IsFullOfRows new = subst IsFullOfRows (sym same) kept in
    record {
      only = only-then old mid new only (only-looked mid new (mid.scheduled + 1) looks);
      is_end = (full_new, subst (λ (n : ℕ). 65536 < n) (all-rows new) (too_many-rows new full_new));
    }

pub ends-done : (old new : Pass) (s : Scheduler) → OnlySchedules old new → FitsSchedule s new
    → new.scheduled ≡ write_count new.board → SchedulesAll old new ends.Done
ends-done old new s only fits all = record {
  only = only;
  is_end = (
    all,
    let count = fits.rows in let few = fits.few in
        subst (λ (n : ℕ). n ≤ 65536)
        (fits.rows ∙ ap (first_write_count (names new.board)) all ∙ all-rows new) fits.few,
  );
}
