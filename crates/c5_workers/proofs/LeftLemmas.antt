-- Installing what is left.
use Rattle.std.proofs.Common.{◌≡◌, ◌∙◌, ◌+◌, ◌≤◌, ◌<◌, ◌++◌, ◌||◌, ◌⊎◌, inl, inr, ℕ, Bool, true}
use Rattle.std.proofs.Common.{false, List, [], ◌∷◌, length, drop, cond, ap, sym, subst, refl, arith}
use Rattle.std.proofs.Common.{true≢false}
use borrow.Author.Tests.{eq-eqb, ne_eqb, ltb-true, ltb-false}
use lib.Dec.{ltb}
use Rattle.c5_rows.specs.Numbers.{is_among}
use Rattle.c5_definitions.specs.WriteNumbers.{predecessor_of}
use Rattle.c5_definitions.specs.NumberLaws.{NumbersAreOwned, PredecessorsAreLast}
use Rattle.c5_board.specs.declared.known.Look.{Look}
use Rattle.c5_board.specs.Boards.{Board, Pass, names}
use Rattle.c5_board.specs.Passes.{IsSound, IsOutstanding, owner_in}
use Rattle.c5_chains.specs.declared.install.Install.TheVariants.{Installed, PutOff}
use Rattle.c5_chains.specs.Tries.{after_try, head_found, IsCaused}
use Rattle.c5_workers.specs.declared.worker.Worker.{Worker}
use Rattle.c5_workers.specs.Tries.{FitsList, least_of}
use Rattle.c5_workers.specs.Work.{FitsWorker}
use Rattle.c5_workers.specs.Left.{install_looks, IsNextLeft, with_left, next_after, TakesLeast}
use Rattle.c5_workers.proofs.LastRows.{not_same}
use Rattle.c5_workers.proofs.TryLemmas.{list-installed, next-fits}
use Rattle.c5_workers.proofs.WorkLemmas.{outstanding, list-of}

-- ---- one write

-- a write whose owner's least number is another is installed
pub least-other : (u : Worker) (p : Pass) (w : ℕ) → NumbersAreOwned p.board.workers → IsSound p
    → FitsWorker u p → IsNextLeft p w → owner_in p w ≡ u.i
    → (least_of u.put_off.items u.next ≡ w → ⊥) → is_among w p.installed ≡ true
least-other u p w owners sound fits next owned apart =
    by (either_way (least_of u.put_off.items u.next) w)
  where
    least : IsOutstanding p u.i (least_of u.put_off.items u.next)
    least = outstanding u p owners sound fits

    either_way : (a b : ℕ) → (a < b) ⊎ (b ≤ a)
    either_way a b = split (ltb a b) refl
      where
        split : (t : Bool) → ltb a b ≡ t → (a < b) ⊎ (b ≤ a)
        split true e = inl (ltb-true a b e)
        split false e = inr (ltb-false a b e)

    by : (least_of u.put_off.items u.next < w) ⊎ (w ≤ least_of u.put_off.items u.next)
        → is_among w p.installed ≡ true
    by (inl less) =
        let some = least.positive in
        let within = next.write.within in
        let done = next.below (least_of u.put_off.items u.next)
        (record { positive = some; within = omega arith }) less in
        absurd (true≢false (sym done ∙ least.not_installed))
    by (inr more) = least.least w next.write.positive
        (not_same w (least_of u.put_off.items u.next) (λ e. apart (sym e)) more) owned

-- what a pass is with a write that was installed before, and with one that was tried
pub left-none : (p : Pass) (w : ℕ) → is_among w p.installed ≡ true → p ≡ with_left p w
left-none p w done =
    λ i. record p {
      installed = cond (sym done i) p.installed (w ∷ p.installed);
      looks = cond (sym done i) p.looks (p.looks ++ install_looks (names p.board) w);
    }

pub left-tried : (p : Pass) (w : ℕ) → is_among w p.installed ≡ false
    → after_try p w (head_found (names p.board) w Installed) ≡ with_left p w
left-tried p w new =
    (λ i. record p {
      installed = cond
          (eq-eqb (predecessor_of (names p.board) w) (predecessor_of (names p.board) w) refl i)
          (w ∷ p.installed) p.installed;
      looks = p.looks ++ install_looks (names p.board) w;
    })
    ∙ (λ i. record p {
      installed = cond (sym new i) p.installed (w ∷ p.installed);
      looks = cond (sym new i) p.looks (p.looks ++ install_looks (names p.board) w);
    })

-- it isn't put off, as its predecessor is installed
pub never-put_off : (p : Pass) (w seen : ℕ) → PredecessorsAreLast (names p.board) → IsNextLeft p w
    → IsCaused p w (PutOff seen) → ⊥
never-put_off p w seen laws next behind =
    let unknown = behind.unknown in
    true≢false
    (sym (next.below (predecessor_of (names p.board) w) unknown.write (laws.below w next.write))
    ∙ unknown.not_installed)

-- the worker after its least number was installed
pub least-taken : (u after : Worker) (p q : Pass) (w : ℕ) → NumbersAreOwned p.board.workers
    → FitsWorker u p → IsNextLeft p w → least_of u.put_off.items u.next ≡ w → IsCaused p w Installed
    → q ≡ after_try p w (head_found (names p.board) w Installed) → TakesLeast u after
    → FitsWorker after q
least-taken u after p q w owners fits next least cause is taken = by u.put_off.items refl
  where
    board : q.board ≡ p.board
    board = ap (λ (x : Pass). x.board) is

    whole : FitsList after.i after.next after.put_off.items q → FitsWorker after q
    whole numbers =
        let some = fits.worker in
        let i = taken.same.i in
        let n = taken.same.workers in
        record {
          workers = taken.same.workers ∙ fits.workers ∙ ap (λ (b : Board). b.workers) (sym board);
          worker = (let a = some.0 in omega arith, let a = some.1 in omega arith);
          few_workers = omega (arith, fits.few_workers);
          numbers = numbers;
          few = few u.put_off.items fits.few (ap length taken.list);
          room = omega (arith, taken.room, fits.room);
        }
      where
        few : (list : List ℕ) → length list ≤ 64 → length after.put_off.items ≡ length (drop 1 list)
            → length after.put_off.items ≤ 64
        few [] l e = omega arith
        few (x ∷ list) l e = omega arith

    by : (list : List ℕ) → u.put_off.items ≡ list → FitsWorker after q
    by [] e =
        let is_next : u.next ≡ w = sym (ap (λ (l : List ℕ). least_of l u.next) e) ∙ least in
        let numbers : FitsList u.i w [] p =
        list-of u.i u.i u.next w u.put_off.items [] p refl is_next e fits.numbers in
        let after_next : w + p.board.workers ≡ after.next =
        (λ j. sym is_next j + sym fits.workers j) ∙ sym
        (taken.next ∙ ap (λ (l : List ℕ). next_after l u.next u.workers) e) in
        whole (list-of u.i after.i (w + p.board.workers) after.next [] after.put_off.items q
        (sym taken.same.i) after_next (sym (taken.list ∙ ap (drop 1) e))
        (next-fits p q u.i w [] Installed owners numbers next.write next.scheduled cause is))
    by (x ∷ rest) e =
        let is_first : x ≡ w = sym (ap (λ (l : List ℕ). least_of l u.next) e) ∙ least in
        let numbers : FitsList u.i u.next (x ∷ rest) p =
        list-of u.i u.i u.next u.next u.put_off.items (x ∷ rest) p refl refl e fits.numbers in
        whole (list-of u.i after.i u.next after.next rest after.put_off.items q (sym taken.same.i)
        (sym (taken.next ∙ ap (λ (l : List ℕ). next_after l u.next u.workers) e))
        (sym (taken.list ∙ ap (drop 1) e))
        (list-installed p q u.i u.next x [] rest numbers
        (subst (λ (v : ℕ). q ≡ after_try p v (head_found (names p.board) v Installed))
        (sym is_first) is)))

-- ---- the other workers

-- the same numbers of a worker are installed
worker-kept : (u : Worker) (p : Pass) (installed : List ℕ) (looks : List Look) → FitsWorker u p
    → ((v : ℕ) → owner_in p v ≡ u.i → is_among v installed ≡ is_among v p.installed)
    → FitsWorker u (record p { installed = installed; looks = looks })
worker-kept u p installed looks fits same =
    let n = fits.numbers in
    record {
      workers = fits.workers;
      worker = fits.worker;
      few_workers = fits.few_workers;
      few = fits.few;
      room = fits.room;
      numbers =
          record {
            role = n.role;
            positive = n.positive;
            owned = n.owned;
            bound = n.bound;
            waiting = n.waiting;
            ascends = n.ascends;
            done =
                λ v write owned. same v owned ∙ n.done v write owned;
          };
    }

-- which numbers are installed after w was
pub among-left : (p : Pass) (w v : ℕ) → (v ≡ w → ⊥)
    → is_among v (with_left p w).installed ≡ is_among v p.installed
among-left p w v apart = by (is_among w p.installed)
  where
    by : (b : Bool) → is_among v (cond b p.installed (w ∷ p.installed)) ≡ is_among v p.installed
    by true = refl
    by false = ap (λ (b : Bool). b || is_among v p.installed) (ne_eqb v w apart)

pub among-itself : (p : Pass) (w : ℕ) → is_among w (with_left p w).installed ≡ true
among-itself p w = by (is_among w p.installed) refl
  where
    by : (b : Bool) → is_among w p.installed ≡ b
        → is_among w (cond b p.installed (w ∷ p.installed)) ≡ true
    by true e = e
    by false e = ap (λ (b : Bool). b || is_among w p.installed) (eq-eqb w w refl)

pub left-other : (u : Worker) (p q : Pass) (w : ℕ) → FitsWorker u p → (owner_in p w ≡ u.i → ⊥)
    → q ≡ with_left p w → FitsWorker u q
left-other u p q w fits other is =
    subst (FitsWorker u) (sym is)
    (worker-kept u p _ _ fits
    (λ v owned. among-left p w v (λ e. other (ap (λ (n : ℕ). owner_in p n) (sym e) ∙ owned))))
