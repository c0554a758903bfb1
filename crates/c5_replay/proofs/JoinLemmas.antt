-- Passes that are joined.
use Rattle.std.proofs.Common.{◌≡◌, ◌∙◌, ◌+◌, ◌-◌, ◌≤◌, ◌<◌, ◌++◌, ◌||◌, ◌==◌, ◌⊎◌, inl, inr, ⊎_elim}
use Rattle.std.proofs.Common.{ℕ, zero, suc, Bool, true, false, true≢false, List, [], ◌∷◌, length}
use Rattle.std.proofs.Common.{max, Some, None, slice_get, ap, sym, subst, refl, arith, rules}
use Rattle.std.specs.List.{AllByRecursion}
use Rattle.std.proofs.lemmas.List.{append_assoc, append-nil, length-append}
use Rattle.c5_rows.specs.Numbers.{is_among, numbers_from}
use Rattle.c5_rows.specs.declared.writes.RowName.{RowName}
use Rattle.c5_definitions.specs.WriteNumbers.{owner_of, IsWrite}
use Rattle.c5_board.specs.Boards.{Board, Pass, names, write_count, IsWorker}
use Rattle.c5_board.specs.Passes.{IsSound, owner_in}
use Rattle.c5_board.specs.Parts.{joined}
use Rattle.c5_board.proofs.SetLemmas.{not_true, or_left, or_right, or_part, has_front, has_back}
use Rattle.c5_board.proofs.SetLemmas.{has_range, one_number}
use Rattle.c5_workers.specs.declared.worker.Worker.{Worker}
use Rattle.c5_workers.specs.Tries.{IsWaiting, HasTried}
use Rattle.c5_workers.specs.Work.{FitsWorker}
use Rattle.c5_replay.specs.Parts.{IsPassWith}
use Rattle.c5_replay.specs.Joins.{IsJoined, HaveWorked}

-- ---- numbers

pub among-left : (v : ℕ) (xs ys : List ℕ) → is_among v ys ≡ false
    → is_among v (xs ++ ys) ≡ is_among v xs
among-left v [] ys none = none
among-left v (x ∷ xs) ys none = ap (λ (b : Bool). (v == x) || b) (among-left v xs ys none)

or-false : (a b : Bool) → (a || b) ≡ false → (a ≡ false) × (b ≡ false)
or-false true b h = absurd (true≢false h)
or-false false b h = (refl, h)

pub among-right : (v : ℕ) (xs ys : List ℕ) → is_among v xs ≡ false
    → is_among v (xs ++ ys) ≡ is_among v ys
among-right v [] ys none = refl
among-right v (x ∷ xs) ys none =
    let n = or-false (v == x) (is_among v xs) none in
    ap (λ (b : Bool). b || is_among v (xs ++ ys)) n.0 ∙ among-right v xs ys n.1

pub numbers-more : (first n : ℕ) → numbers_from first (suc n)
    ≡ numbers_from first n ++ (first + n) ∷ []
numbers-more first zero = ap (λ (k : ℕ). k ∷ []) (omega arith)
numbers-more first (suc n) =
    let e : suc first + n ≡ first + suc n = omega arith in
    ap (λ (l : List ℕ). first ∷ l)
    (numbers-more (suc first) n ∙ ap (λ (k : ℕ). numbers_from (suc first) n ++ k ∷ []) e)

-- ---- joins

pub joined-so : (a b : Pass) → IsJoined a (joined a b)
joined-so a b = record {
  of_board = refl;
  snapshot_kept = λ h. or_left a.snapshot b.snapshot h;
  scheduler_kept = λ h. or_left a.scheduler b.scheduler h;
  scheduled_more = omega arith;
  more = b.looks;
  looks_more = refl;
}

pub joined-none : (a : Pass) → IsJoined a a
joined-none a =
    record {
      of_board = refl;
      snapshot_kept = λ h. h;
      scheduler_kept = λ h. h;
      scheduled_more = omega arith;
      more = [];
      looks_more = sym (append-nil a.looks);
    }

pub joined-more : (a b c : Pass) → IsJoined a b → IsJoined b c → IsJoined a c
joined-more a b c h k = record {
  of_board = k.of_board ∙ h.of_board;
  snapshot_kept = λ s. k.snapshot_kept (h.snapshot_kept s);
  scheduler_kept = λ s. k.scheduler_kept (h.scheduler_kept s);
  scheduled_more = (let x = h.scheduled_more in let y = k.scheduled_more in omega arith);
  more = h.more ++ k.more;
  looks_more = k.looks_more ∙ ap
      (λ l. l ++ k.more) h.looks_more ∙ append_assoc a.looks h.more k.more;
}

-- ---- workers

waiting-more : (workers : ℕ) (ns : List RowName) (s t i next : ℕ) → s ≤ t → (list : List ℕ)
    → AllByRecursion (IsWaiting workers ns s i next) list
    → AllByRecursion (IsWaiting workers ns t i next) list
waiting-more workers ns s t i next le [] h = tt
waiting-more workers ns s t i next le (w ∷ list) h =
    let x = h.0.scheduled_so in (
      record {
        write = h.0.write;
        owned = h.0.owned;
        below = h.0.below;
        scheduled_so = omega arith;
      },
      waiting-more workers ns s t i next le list h.1,
    )

-- a pass without the role of the worker that owns a number hasn't installed it
not-installed : (p : Pass) (v i : ℕ) → IsSound p → owner_in p v ≡ i → is_among i p.roles ≡ false
    → is_among v p.installed ≡ false
not-installed p v i sound owned none =
    not_true (is_among v p.installed)
    (λ h. true≢false
    (sym (sound.installed v h).1 ∙ (ap (λ (k : ℕ). is_among k p.roles) owned ∙ none)))

pub fits-left : (w : Worker) (a b : Pass) → FitsWorker w a → IsSound b → b.board ≡ a.board
    → is_among w.i b.roles ≡ false → FitsWorker w (joined a b)
fits-left w a b fits sound same none = record {
  workers = fits.workers;
  worker = fits.worker;
  few_workers = fits.few_workers;
  numbers = record {
    role = has_front w.i a.roles b.roles fits.numbers.role;
    positive = fits.numbers.positive;
    owned = fits.numbers.owned;
    bound = fits.numbers.bound;
    waiting = waiting-more a.board.workers (names a.board) a.scheduled
        (max a.scheduled b.scheduled) w.i w.next (omega arith) w.put_off.items fits.numbers.waiting;
    ascends = fits.numbers.ascends;
    done = λ v write owned. among-left v a.installed b.installed
        (not-installed b v w.i sound (ap (λ (x : Board). owner_of x.workers v) same ∙ owned) none) ∙
        fits.numbers.done v write owned;
  };
  few = fits.few;
  room = fits.room;
}

pub fits-right : (w : Worker) (a b : Pass) → FitsWorker w b → IsSound a → a.board ≡ b.board
    → is_among w.i a.roles ≡ false → FitsWorker w (joined a b)
fits-right w a b fits sound same none =
    let board = sym same in record {
      workers = fits.workers ∙ ap (λ (x : Board). x.workers) board;
      worker = fits.worker;
      few_workers = fits.few_workers;
      numbers =
          subst (λ (x : Board). HasTried x.workers (names x) (a.roles ++ b.roles)
          (a.installed ++ b.installed) (max a.scheduled b.scheduled) w.i w.next w.put_off.items)
          board (record {
            role = has_back w.i a.roles b.roles fits.numbers.role;
            positive = fits.numbers.positive;
            owned = fits.numbers.owned;
            bound = fits.numbers.bound;
            waiting = waiting-more b.board.workers (names b.board) b.scheduled
                (max a.scheduled b.scheduled) w.i w.next
                (omega arith) w.put_off.items fits.numbers.waiting;
            ascends = fits.numbers.ascends;
            done = λ v write owned. among-right v a.installed b.installed
                (not-installed a v w.i sound
                (ap (λ (x : Board). owner_of x.workers v) same ∙ owned) none) ∙ fits.numbers.done v
                write owned;
          });
      few = fits.few;
      room = fits.room;
    }

-- the element at a place of a list with one more
at-more : (xs : List Worker) (x : Worker) (k : ℕ) (w : Worker) → slice_get (xs ++ x ∷ []) k ≡ Some w
    → (slice_get xs k ≡ Some w) ⊎ ((k ≡ length xs) × (w ≡ x))
at-more [] x zero w h = inr (refl, (let e = h in search rules))
at-more [] x (suc k) w h = (let e = h in search rules)
at-more (y ∷ xs) x zero w h = inl h
at-more (y ∷ xs) x (suc k) w h =
    ⊎_elim (λ l. inl l) (λ (r : (k ≡ length xs) × (w ≡ x)). inr (ap suc r.0, r.1))
    (at-more xs x k w h)

pub worked-more : (board : Board) (a b : Pass) (n i : ℕ) (workers : List Worker) (w : Worker)
    → HaveWorked board a n workers → n + 1 ≡ i → IsPassWith board (i ∷ []) b → FitsWorker w b
    → IsSound a → IsSound b
    → HaveWorked board (joined a b) i (workers ++ w ∷ [])
worked-more board a b n i workers w h next with_i fits sound_a sound_b =
    let same : a.board ≡ b.board = h.pass_with.of_board ∙ sym with_i.of_board in
    let number : w.i ≡ i = one_number w.i i
    (ap (λ (l : List ℕ). is_among w.i l) (sym with_i.roles_so) ∙ fits.numbers.role) in
    let apart : is_among w.i a.roles ≡ false =
    not_true (is_among w.i a.roles)
    (λ h1. let r = has_range w.i 1 n
    (ap (λ (l : List ℕ). is_among w.i l) (sym h.pass_with.roles_so) ∙ h1) in
    absurd (omega (arith, r.1))) in
    let others : (u : Worker) → FitsWorker u a
    → is_among u.i b.roles ≡ false = λ u f. not_true (is_among u.i b.roles) (λ h1.
    let e = one_number u.i i (ap (λ (l : List ℕ). is_among u.i l) (sym with_i.roles_so) ∙ h1) in
    let r = has_range u.i 1 n
    (ap (λ (l : List ℕ). is_among u.i l) (sym h.pass_with.roles_so) ∙ f.numbers.role) in
    absurd (omega (arith, r.1))) in
    record {
      pass_with = record {
        of_board = h.pass_with.of_board;
        roles_so = (λ t. h.pass_with.roles_so t ++ with_i.roles_so t) ∙ ap
            (λ (k : ℕ). numbers_from 1 n ++ k ∷ []) (let e : i ≡ 1 + n = omega arith in e) ∙ sym
            (numbers-more 1 n) ∙ ap (λ (k : ℕ). numbers_from 1 k)
            (let e : suc n ≡ i = omega arith in e);
      };
      count = length-append workers (w ∷ []) ∙ (let e = h.count in omega arith);
      order = λ k u at. ⊎_elim (λ (l : slice_get workers k ≡ Some u). h.order k u l)
          (λ (r : (k ≡ length workers) × (u ≡ w)). ap (λ (x : Worker). x.i) r.1 ∙
          (let e = r.0 in let c = h.count in omega arith)) (at-more workers w k u at);
      each = λ k u at. ⊎_elim (λ (l : slice_get workers k ≡ Some u). let f = h.each k u l in
          fits-left u a b f sound_b (sym same) (others u f))
          (λ (r : (k ≡ length workers) × (u ≡ w)). subst (λ (x : Worker). FitsWorker x (joined a b))
          (sym r.1) (fits-right w a b fits sound_a same apart)) (at-more workers w k u at);
    }
