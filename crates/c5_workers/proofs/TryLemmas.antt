-- One try after the other.
use Rattle.std.proofs.Common.{◌≡◌, ◌∙◌, ◌+◌, ◌≤◌, ◌<◌, ◌++◌, ◌&&◌, ◌||◌, ℕ, zero, suc, Bool, true}
use Rattle.std.proofs.Common.{false, not, List, [], ◌∷◌, length, take, drop, get_or, set, cond, ap}
use Rattle.std.proofs.Common.{sym, subst, refl, arith, true≢false, append_assoc, append-nil}
use Rattle.std.proofs.Common.{drop-cons, length-set, take_all}
use Rattle.std.proofs.lemmas.List.{drop_all}
use borrow.Author.Tests.{eqb-true, eqb-false, eq-eqb, ne_eqb, lt-ltb, le-ltb, ltb-true, ltb-false}
use lib.Dec.{eqb, ltb}
use Rattle.std.specs.List.{AllByRecursion}
use Rattle.std.proofs.Math.Seq.{take-suc, take-suc-set}
use Rattle.c5_rows.specs.declared.writes.RowName.{RowName}
use Rattle.c5_definitions.specs.WriteNumbers.{owner_of, predecessor_of, IsWrite}
use Rattle.c5_definitions.specs.NumberLaws.{NumbersAreOwned}
use Rattle.c5_workers.proofs.LastRows.{not_same}
use Rattle.c5_board.specs.declared.known.Look.{Look}
use Rattle.c5_rows.specs.Numbers.{is_among}
use Rattle.c5_board.specs.Boards.{Pass, names}
use Rattle.c5_chains.specs.declared.install.Install.{Install}
use Rattle.c5_chains.specs.declared.install.Install.TheVariants.{Installed, PutOff}
use Rattle.c5_chains.specs.Tries.{after_try, head_found, IsCaused}
use Rattle.c5_workers.specs.Tries.{Ascends, IsWaiting, HasTried, FitsList, Tries, Retries}
use Rattle.c5_workers.specs.Tries.{put_off_of, least_of, with_next, IsRetrying}

-- ---- lists

has-middle : (v w : ℕ) (front rest : List ℕ) → (v ≡ w → ⊥)
    → is_among v (front ++ w ∷ rest) ≡ is_among v (front ++ rest)
has-middle v w [] rest d = ap (λ (b : Bool). b || is_among v rest) (ne_eqb v w d)
has-middle v w (x ∷ front) rest d = ap (λ (b : Bool). eqb v x || b) (has-middle v w front rest d)

has-self : (w : ℕ) (front rest : List ℕ) → is_among w (front ++ w ∷ rest) ≡ true
has-self w [] rest = ap (λ (b : Bool). b || is_among w rest) (eq-eqb w w refl)
has-self w (x ∷ front) rest = or_true (eqb w x) (is_among w (front ++ w ∷ rest))
    (has-self w front rest)
  where
    or_true : (a b : Bool) → b ≡ true → (a || b) ≡ true
    or_true true b h = refl
    or_true false b h = h

all-middle : (P : ℕ → Type 0) (w : ℕ) (front rest : List ℕ) → AllByRecursion P (front ++ w ∷ rest)
    → P w × AllByRecursion P (front ++ rest)
all-middle P w [] rest h = (h.0, h.1)
all-middle P w (x ∷ front) rest h = let r = all-middle P w front rest h.1 in (r.0, (h.0, r.1))

below-none : (w : ℕ) (rest : List ℕ) → AllByRecursion (λ m. w < m) rest → is_among w rest ≡ false
below-none w [] h = refl
below-none w (x ∷ rest) h =
    (λ i. ne_eqb w x (λ e. let l = h.0 in absurd (omega arith)) i || below-none w rest h.1 i)

ascends-middle : (w : ℕ) (front rest : List ℕ) → Ascends (front ++ w ∷ rest)
    → Ascends (front ++ rest) × (is_among w (front ++ rest) ≡ false)
ascends-middle w [] rest h = (h.1, below-none w rest h.0)
ascends-middle w (x ∷ front) rest h =
    let r = ascends-middle w front rest h.1 in
    let p = all-middle (λ m. x < m) w front rest h.0 in
    ((p.1, r.0), (λ i. ne_eqb w x (λ e. let l = p.0 in absurd (omega arith)) i || r.1 i))

-- ---- one try

-- what the worker knows of a number that it has put off
pub waiting-at : (workers : ℕ) (ns : List RowName) (roles installed : List ℕ)
    (scheduled i next w : ℕ) (front rest : List ℕ)
    → HasTried workers ns roles installed scheduled i next (front ++ w ∷ rest)
    → IsWaiting workers ns scheduled i next w × (is_among w installed ≡ false)
waiting-at workers ns roles installed scheduled i next w front rest fits =
    let w_is = (all-middle (IsWaiting workers ns scheduled i next) w front rest fits.waiting).0 in (
      w_is,
      fits.done w w_is.write w_is.owned ∙
          (λ j. lt-ltb w next w_is.below j && not (has-self w front rest j)),
    )

-- a number that was installed is no longer on the list
pub fits-installed : (workers : ℕ) (ns : List RowName) (roles installed : List ℕ)
    (scheduled i next w : ℕ) (front rest : List ℕ)
    → HasTried workers ns roles installed scheduled i next (front ++ w ∷ rest)
    → HasTried workers ns roles (w ∷ installed) scheduled i next (front ++ rest)
fits-installed workers ns roles installed scheduled i next w front rest fits =
    let all = all-middle (IsWaiting workers ns scheduled i next) w front rest fits.waiting in
    let up = ascends-middle w front rest fits.ascends in
    record {
      role = fits.role;
      positive = fits.positive;
      owned = fits.owned;
      bound = fits.bound;
      waiting = all.1;
      ascends = up.0;
      done = λ v write owned. by v write owned (eqb v w) refl;
    }
  where
    by : (v : ℕ) → IsWrite ns v → owner_of workers v ≡ i → (t : Bool) → eqb v w ≡ t
        → (eqb v w || is_among v installed) ≡ (ltb v next && not (is_among v (front ++ rest)))
    by v write owned true e =
        let same = eqb-true v w e in
        let none = (ascends-middle w front rest fits.ascends).1 in
        let below =
        (all-middle (IsWaiting workers ns scheduled i next) w front rest fits.waiting).0.below
        in
        let less : v < next = omega arith in
        (λ j. e j || is_among v installed) ∙ (λ j. sym (lt-ltb v next less) j && not (sym none j)) ∙
        (λ j. ltb v next && not (is_among (sym same j) (front ++ rest)))
    by v write owned false e =
        (λ j. e j || is_among v installed) ∙ fits.done v write owned ∙
        (λ j. ltb v next && not (has-middle v w front rest (eqb-false v w e) j))

-- the pass after a try
tried-installed : (p : Pass) (w : ℕ) → (looks : List Look)
    × (after_try p w (head_found (names p.board) w Installed)
    ≡ record p { installed = w ∷ p.installed; looks = looks })
tried-installed p w = (
  _,
  λ j. record p {
    installed = cond
        (eq-eqb (predecessor_of (names p.board) w) (predecessor_of (names p.board) w) refl j)
        (w ∷ p.installed) p.installed;
    looks =
        (after_try p w (predecessor_of (names p.board) w)).looks;
  },
)

tried-put_off : (p : Pass) (w seen : ℕ) → IsCaused p w (PutOff seen) → (looks : List Look)
    × (after_try p w (head_found (names p.board) w (PutOff seen)) ≡ record p { looks = looks })
tried-put_off p w seen behind =
    let below = behind.below in (
      _,
      λ j. record p {
        installed = cond (ne_eqb seen (predecessor_of (names p.board) w) (λ e. omega arith) j)
            (w ∷ p.installed) p.installed;
        looks = (after_try p w seen).looks;
      },
    )

pub list-installed : (p q : Pass) (i next w : ℕ) (front rest : List ℕ)
    → FitsList i next (front ++ w ∷ rest) p
    → q ≡ after_try p w (head_found (names p.board) w Installed) → FitsList i next (front ++ rest) q
list-installed p q i next w front rest fits is =
    let e = tried-installed p w in
    subst (FitsList i next (front ++ rest)) (sym (is ∙ e.1))
    (fits-installed p.board.workers
    (names p.board) p.roles p.installed p.scheduled i next w front rest fits)

pub list-put_off : (p q : Pass) (i next w seen : ℕ) (list : List ℕ) → FitsList i next list p
    → IsCaused p w (PutOff seen) → q ≡ after_try p w (head_found (names p.board) w (PutOff seen))
    → FitsList i next list q
list-put_off p q i next w seen list fits behind is =
    let e = tried-put_off p w seen behind in
    subst (FitsList i next list) (sym (is ∙ e.1)) fits

-- ---- one try more

tries-more : (p q r : Pass) (list : List ℕ) (results : List Install) (w : ℕ) (result : Install)
    → Tries p q list results → IsCaused q w result
    → r ≡ after_try q w (head_found (names q.board) w result)
    → Tries p r (list ++ w ∷ []) (results ++ result ∷ [])
tries-more p q r [] [] w result h put is = (
  subst (λ (x : Pass). IsCaused x w result) h put,
  is ∙ (λ j. after_try (h j) w (head_found (names (h j).board) w result)),
)
tries-more p q r [] (x ∷ results) w result h put is = absurd h
tries-more p q r (v ∷ list) [] w result h put is = absurd h
tries-more p q r (v ∷ list) (x ∷ results) w result h put is = (
  h.0,
  tries-more
      (after_try p v (head_found (names p.board) v x)) q r list results w result h.1 put is,
)

put_off-installed : (p q : Pass) (list : List ℕ) (results : List Install) (w : ℕ)
    → Tries p q list results → put_off_of (list ++ w ∷ []) (results ++ Installed ∷ [])
    ≡ put_off_of list results
put_off-installed p q [] [] w h = refl
put_off-installed p q [] (x ∷ results) w h = absurd h
put_off-installed p q (v ∷ list) [] w h = absurd h
put_off-installed p q (v ∷ list) (Installed ∷ results) w h =
    put_off-installed (after_try p v (head_found (names p.board) v Installed)) q list results w h.1
put_off-installed p q (v ∷ list) (PutOff s ∷ results) w h =
    ap (λ (l : List ℕ). v ∷ l)
    (put_off-installed
    (after_try p v (head_found (names p.board) v (PutOff s))) q list results w h.1)

put_off-more : (p q : Pass) (list : List ℕ) (results : List Install) (w seen : ℕ)
    → Tries p q list results → put_off_of (list ++ w ∷ []) (results ++ PutOff seen ∷ [])
    ≡ put_off_of list results ++ w ∷ []
put_off-more p q [] [] w seen h = refl
put_off-more p q [] (x ∷ results) w seen h = absurd h
put_off-more p q (v ∷ list) [] w seen h = absurd h
put_off-more p q (v ∷ list) (Installed ∷ results) w seen h =
    put_off-more (after_try p v (head_found (names p.board) v Installed)) q list results w seen h.1
put_off-more p q (v ∷ list) (PutOff s ∷ results) w seen h =
    ap (λ (l : List ℕ). v ∷ l)
    (put_off-more
    (after_try p v (head_found (names p.board) v (PutOff s))) q list results w seen h.1)

-- ---- the loop

take_less : (l : List ℕ) (k w : ℕ) → k < length l → take (k + 1) (set l k w) ≡ take k l ++ w ∷ []
take_less l k w less = (λ i. take (one_more k i) (set l k w)) ∙ take-suc-set l k w less
  where
    one_more : (k : ℕ) → k + 1 ≡ suc k
    one_more k = omega arith

drop_set : (l : List ℕ) (k n w : ℕ) → k < n → drop n (set l k w) ≡ drop n l
drop_set [] k n w h = refl
drop_set (x ∷ l) zero zero w h = absurd (omega arith)
drop_set (x ∷ l) zero (suc n) w h = refl
drop_set (x ∷ l) (suc k) zero w h = absurd (omega arith)
drop_set (x ∷ l) (suc k) (suc n) w h = drop_set l k n w (omega arith)

next_at : (l : List ℕ) (n : ℕ) → n < length l → drop n l ≡ get_or l n 0 ∷ drop (n + 1) l
next_at l n less = drop-cons l n 0 less ∙ (λ i. get_or l n 0 ∷ drop (one_more n i) l)
  where
    one_more : (k : ℕ) → suc k ≡ k + 1
    one_more k = omega arith

drop_next : (l m : List ℕ) (n : ℕ) → length l ≡ length m → n < length l → drop n l ≡ drop n m
    → (get_or l n 0 ≡ get_or m n 0) × (drop (n + 1) l ≡ drop (n + 1) m)
drop_next l m n len less same =
    let both : get_or l n 0 ∷ drop (n + 1) l ≡ get_or m n 0 ∷ drop (n + 1) m =
    sym (next_at l n less) ∙ same ∙ next_at m n (omega arith) in
    (cc, cc)

take_next : (l : List ℕ) (n : ℕ) → n < length l → take (n + 1) l ≡ take n l ++ get_or l n 0 ∷ []
take_next l n less = (λ i. take (one_more n i) l) ∙ take-suc l n 0 less
  where
    one_more : (k : ℕ) → k + 1 ≡ suc k
    one_more k = omega arith

pub retrying-begin : (old : Pass) (i next : ℕ) (list : List ℕ) → FitsList i next list old
    → IsRetrying old old i next list list 0 0
retrying-begin old i next list fits =
    record {
      order = omega arith;
      count = refl;
      fits = fits;
      left = refl;
      results = [];
      tries = refl;
      put_off = refl;
    }

module _ (old now : Pass) (i next : ℕ) (before list : List ℕ) (place kept : ℕ)
    (h : IsRetrying old now i next before list place kept) (less : place < length list) where
  current : take kept list ++ drop place list
      ≡ take kept list ++ get_or list place 0 ∷ drop (place + 1) list
  current = ap (λ (l : List ℕ). take kept list ++ l) (next_at list place less)

  fits_now : FitsList i next (take kept list ++ get_or list place 0 ∷ drop (place + 1) list) now
  fits_now = subst (λ (l : List ℕ). FitsList i next l now) current h.fits

  -- what the try needs
  pub retry-ready : IsWaiting now.board.workers (names now.board) now.scheduled i next
      (get_or list place 0) × (is_among (get_or list place 0) now.installed ≡ false)
  retry-ready = waiting-at now.board.workers
      (names now.board) now.roles now.installed now.scheduled i next (get_or list place 0)
      (take kept list) (drop (place + 1) list) fits_now

  tries-next : (new : Pass) (result : Install) → IsCaused now (get_or list place 0) result
      → new ≡ after_try now (get_or list place 0)
      (head_found (names now.board) (get_or list place 0) result)
      → Tries old new (take (place + 1) before) (h.results ++ result ∷ [])
  tries-next new result put is =
      let count = h.count in
      let same = (drop_next list before place h.count less h.left).0 in
      subst (λ (l : List ℕ). Tries old new l (h.results ++ result ∷ []))
      (ap (λ (w : ℕ). take place before ++ w ∷ []) same ∙ sym
      (take_next before place (omega arith)))
      (tries-more old now new (take place before) h.results
      (get_or list place 0) result h.tries put is)

  pub retry-installed : (new : Pass) → IsCaused now (get_or list place 0) Installed
      → new ≡ after_try now (get_or list place 0)
      (head_found (names now.board) (get_or list place 0) Installed)
      → IsRetrying old new i next before list (place + 1) kept
  retry-installed new put is =
      let order = h.order in
      let count = h.count in
      let same = (drop_next list before place h.count less h.left).0 in
      record {
        order = omega arith;
        count = h.count;
        fits = list-installed now new i next (get_or list place 0) (take kept list)
            (drop (place + 1) list) fits_now is;
        left = (drop_next list before place h.count less h.left).1;
        results = h.results ++ Installed ∷ [];
        tries = tries-next new Installed put is;
        put_off = h.put_off ∙ sym
            (put_off-installed old now (take place before) h.results
            (get_or before place 0) h.tries) ∙ ap
            (λ (l : List ℕ). put_off_of l (h.results ++ Installed ∷ []))
            (sym (take_next before place (omega arith)));
      }

  pub retry-put_off : (new : Pass) (seen : ℕ) → IsCaused now (get_or list place 0) (PutOff seen)
      → new ≡ after_try now (get_or list place 0)
      (head_found (names now.board) (get_or list place 0) (PutOff seen))
      → IsRetrying old new i next before (set list kept (get_or list place 0)) (place + 1)
      (kept + 1)
  retry-put_off new seen put is =
      let order = h.order in
      let count = h.count in
      let same = (drop_next list before place h.count less h.left).0 in
      let w = get_or list place 0 in
      let front : take (kept + 1) (set list kept (get_or list place 0))
      ≡ take kept list ++ get_or list place 0 ∷ [] =
      take_less list kept (get_or list place 0) (omega arith) in
      let rest : drop (place + 1) (set list kept (get_or list place 0)) ≡ drop (place + 1) list =
      drop_set list kept (place + 1) (get_or list place 0) (omega arith) in
      let kept_so : take kept list ++ get_or list place 0 ∷ drop (place + 1) list
      ≡ take (kept + 1) (set list kept (get_or list place 0))
      ++ drop (place + 1) (set list kept (get_or list place 0)) =
      sym (append_assoc (take kept list) (get_or list place 0 ∷ []) (drop (place + 1) list)) ∙
      (λ j. sym front j ++ sym rest j) in
      record {
        order = omega arith;
        count = length-set list kept (get_or list place 0) ∙ h.count;
        fits = subst (λ (l : List ℕ). FitsList i next l new) kept_so
            (list-put_off now new i next (get_or list place 0) seen
            (take kept list ++ get_or list place 0 ∷ drop (place + 1) list) fits_now put is);
        left = rest ∙ (drop_next list before place h.count less h.left).1;
        results = h.results ++ PutOff seen ∷ [];
        tries = tries-next new (PutOff seen) put is;
        put_off =
            front ∙ (λ j. h.put_off j ++ same j ∷ []) ∙ sym
            (put_off-more old now (take place before) h.results
            (get_or before place 0) seen h.tries)
            ∙ ap (λ (l : List ℕ). put_off_of l (h.results ++ PutOff seen ∷ []))
            (sym (take_next before place (omega arith)));
      }

pub retried : (old now : Pass) (i next : ℕ) (before list : List ℕ) (place kept : ℕ)
    → IsRetrying old now i next before list place kept → length list ≤ place
    → FitsList i next (take kept list) now × Retries old now before (take kept list)
retried old now i next before list place kept h all =
    let count = h.count in
    let none : take kept list ++ drop place list ≡ take kept list =
    ap (λ (l : List ℕ). take kept list ++ l) (drop_all place list all) ∙ append-nil
    (take kept list) in
    let whole : take place before ≡ before = take_all place before (omega arith) in (
      subst (λ (l : List ℕ). FitsList i next l now) none h.fits,
      record {
        results = h.results;
        tries = subst (λ (l : List ℕ). Tries old now l h.results) whole h.tries;
        put_off = h.put_off ∙ ap (λ (l : List ℕ). put_off_of l h.results) whole;
      },
    )

-- ---- the next number

all-append : (P : ℕ → Type 0) (w : ℕ) (list : List ℕ) → AllByRecursion P list → P w
    → AllByRecursion P (list ++ w ∷ [])
all-append P w [] h p = (p, tt)
all-append P w (x ∷ list) h p = (h.0, all-append P w list h.1 p)

ascends-append : (w : ℕ) (list : List ℕ) → Ascends list → AllByRecursion (λ m. m < w) list
    → Ascends (list ++ w ∷ [])
ascends-append w [] up below = (tt, tt)
ascends-append w (x ∷ list) up below =
    (all-append (λ m. x < m) w list up.0 below.0, ascends-append w list up.1 below.1)

none-above : (w : ℕ) (list : List ℕ) → AllByRecursion (λ m. m < w) list → is_among w list ≡ false
none-above w [] h = refl
none-above w (x ∷ list) h =
    (λ i. ne_eqb w x (λ e. let l = h.0 in absurd (omega arith)) i || none-above w list h.1 i)

module _ (workers : ℕ) (ns : List RowName) (roles installed : List ℕ) (scheduled i next : ℕ)
    (list : List ℕ) (owners : NumbersAreOwned workers)
    (fits : HasTried workers ns roles installed scheduled i next list) where
  later-waiting : (list : List ℕ) → AllByRecursion (IsWaiting workers ns scheduled i next) list
      → AllByRecursion (IsWaiting workers ns scheduled i (next + workers)) list
  later-waiting [] h = tt
  later-waiting (x ∷ list) h = let w = h.0 in let below = w.below in (
    record {
      write = w.write;
      owned = w.owned;
      below = omega arith;
      scheduled_so = w.scheduled_so;
    },
    later-waiting list h.1,
  )

  below-next : (list : List ℕ) → AllByRecursion (IsWaiting workers ns scheduled i next) list
      → AllByRecursion (λ m. m < next) list
  below-next [] h = tt
  below-next (x ∷ list) h = (h.0.below, below-next list h.1)

  next-apart : is_among next list ≡ false
  next-apart = none-above next list (below-next list fits.waiting)

  -- the role of worker i, and that its next number isn't installed
  pub next-new : IsWrite ns next → is_among next installed ≡ false
  next-new write = fits.done next write fits.owned ∙
      (λ j. le-ltb next next (le_self next) j && not (is_among next list))
    where
      le_self : (n : ℕ) → n ≤ n
      le_self n = omega arith

  some_workers : 1 ≤ workers
  some_workers = let a = owners.some 1 in let b = owners.worker 1 in omega arith

  -- which of its numbers are below the next but one
  below-later : (v : ℕ) → IsWrite ns v → owner_of workers v ≡ i → (v ≡ next → ⊥)
      → ltb v (next + workers) ≡ ltb v next
  below-later v write owned apart = by (ltb v next) refl
    where
      by : (t : Bool) → ltb v next ≡ t → ltb v (next + workers) ≡ t
      by true e = let less = ltb-true v next e in lt-ltb v (next + workers) (omega arith)
      by false e =
          let more = ltb-false v next e in
          let positive = fits.positive in
          let above : next < v = not_same next v (λ q. apart (sym q)) more in
          let far = owners.none_between next v fits.positive above (fits.owned ∙ sym owned) in
          le-ltb v (next + workers) far

  pub next-installed : IsWrite ns next
      → HasTried workers ns roles (next ∷ installed) scheduled i (next + workers) list
  next-installed write = record {
    role = fits.role;
    positive = let p = fits.positive in omega arith;
    owned = owners.next next fits.positive ∙ fits.owned;
    bound = let w = write.within in omega arith;
    waiting = later-waiting list fits.waiting;
    ascends = fits.ascends;
    done = λ v is owned. by v is owned (eqb v next) refl;
  }
    where
      by : (v : ℕ) → IsWrite ns v → owner_of workers v ≡ i → (t : Bool) → eqb v next ≡ t
          → (eqb v next || is_among v installed) ≡ (ltb v (next + workers) && not (is_among v list))
      by v is owned true e =
          let same = eqb-true v next e in
          let some = some_workers in
          let less : v < next + workers = omega arith in
          (λ j. e j || is_among v installed) ∙
          (λ j. sym (lt-ltb v (next + workers) less) j && not (sym next-apart j)) ∙
          (λ j. ltb v (next + workers) && not (is_among (sym same j) list))
      by v is owned false e =
          (λ j. e j || is_among v installed) ∙ fits.done v is owned ∙
          (λ j. sym (below-later v is owned (eqb-false v next e)) j && not (is_among v list))

  pub next-put_off : IsWrite ns next → next ≤ scheduled
      → HasTried workers ns roles installed scheduled i (next + workers) (list ++ next ∷ [])
  next-put_off write up_to = record {
    role = fits.role;
    positive = let p = fits.positive in omega arith;
    owned = owners.next next fits.positive ∙ fits.owned;
    bound = let w = write.within in omega arith;
    waiting = all-append (IsWaiting workers ns scheduled i (next + workers)) next list
        (later-waiting list fits.waiting)
        (record {
          write = write;
          owned = fits.owned;
          below = let some = some_workers in
              omega arith;
          scheduled_so = up_to;
        });
    ascends = ascends-append next list fits.ascends (below-next list fits.waiting);
    done = λ v is owned. by v is owned (eqb v next) refl;
  }
    where
      by : (v : ℕ) → IsWrite ns v → owner_of workers v ≡ i → (t : Bool) → eqb v next ≡ t
          → is_among v installed ≡ (ltb v (next + workers) && not (is_among v (list ++ next ∷ [])))
      by v is owned true e =
          let same = eqb-true v next e in
          ap (λ (k : ℕ). is_among k installed) same ∙ next-new write
          ∙ sym (both_false (ltb v (next + workers))) ∙
          (λ j. ltb v (next + workers) && not (sym (has-self next list []) j)) ∙
          (λ j. ltb v (next + workers) && not (is_among (sym same j) (list ++ next ∷ [])))
        where
          both_false : (a : Bool) → (a && false) ≡ false
          both_false true = refl
          both_false false = refl
      by v is owned false e =
          fits.done v is owned
          ∙ (λ j. sym (below-later v is owned (eqb-false v next e)) j
          && not (is_among v (sym (append-nil list) j)))
          ∙ (λ j. ltb v (next + workers)
          && not (sym (has-middle v next list [] (eqb-false v next e)) j))

-- what the least number that isn't installed is
pub record IsLeastLeft (workers : ℕ) (installed : List ℕ) (i w : ℕ) : Type 0 where
  pub positive : 1 ≤ w
  pub owned : owner_of workers w ≡ i
  pub not_installed : is_among w installed ≡ false
  pub least : (v : ℕ) → 1 ≤ v → v < w → owner_of workers v ≡ i → is_among v installed ≡ true

above-all : (v x : ℕ) (rest : List ℕ) → v < x → AllByRecursion (λ m. x < m) rest
    → AllByRecursion (λ m. v < m) rest
above-all v x [] less h = tt
above-all v x (y ∷ rest) less h = let l = h.0 in (omega arith, above-all v x rest less h.1)

never_true : (b : Bool) → (b ≡ true → ⊥) → b ≡ false
never_true true h = absurd (h refl)
never_true false h = refl

done-below : (workers : ℕ) (ns : List RowName) (roles installed : List ℕ) (scheduled i next v : ℕ)
    (list : List ℕ) → HasTried workers ns roles installed scheduled i next list → IsWrite ns v
    → owner_of workers v ≡ i → v < next → is_among v list ≡ false → is_among v installed ≡ true
done-below workers ns roles installed scheduled i next v list fits write owned less apart =
    fits.done v write owned ∙ (λ j. lt-ltb v next less j && not (apart j))

-- the first of the list, or the next number, is the least that isn't installed
pub least-left : (workers : ℕ) (ns : List RowName) (roles installed : List ℕ) (scheduled i next : ℕ)
    (list : List ℕ) → NumbersAreOwned workers
    → HasTried workers ns roles installed scheduled i next list
    → ((w : ℕ) → is_among w installed ≡ true → IsWrite ns w)
    → IsLeastLeft workers installed i (least_of list next)
least-left workers ns roles installed scheduled i next [] owners fits writes = record {
  positive = fits.positive;
  owned = fits.owned;
  not_installed = never_true (is_among next installed)
      (λ h. true≢false
      (sym h ∙ next-new workers ns roles installed scheduled i next [] owners fits
      (writes next h)));
  least = λ v some less owned.
      let far = owners.none_between v next some less (owned ∙ sym fits.owned) in
      let bound = fits.bound in
      done-below workers ns roles installed scheduled i next v [] fits
      (record { positive = some; within = omega arith }) owned less refl;
}
least-left workers ns roles installed scheduled i next (x ∷ rest) owners fits writes =
    let at = waiting-at workers ns roles installed scheduled i next x [] rest fits in
    let within = at.0.write.within in
    let below = at.0.below in
    record {
      positive = at.0.write.positive;
      owned = at.0.owned;
      not_installed = at.1;
      least = λ v some less owned. done-below workers ns roles installed scheduled i next v
          (x ∷ rest) fits (record { positive = some; within = omega arith }) owned (omega arith)
          (below-none v (x ∷ rest) (less, above-all v x rest less fits.ascends.0));
    }

-- the next number was tried
pub next-fits : (p q : Pass) (i next : ℕ) (list : List ℕ) (result : Install)
    → NumbersAreOwned p.board.workers → FitsList i next list p → IsWrite (names p.board) next
    → next ≤ p.scheduled → IsCaused p next result
    → q ≡ after_try p next (head_found (names p.board) next result)
    → FitsList i (next + p.board.workers) (with_next list next result) q
next-fits p q i next list Installed owners fits write up_to put is =
    let e = tried-installed p next in
    subst (FitsList i (next + p.board.workers) list) (sym (is ∙ e.1))
    (next-installed p.board.workers
    (names p.board) p.roles p.installed p.scheduled i next list owners fits write)
next-fits p q i next list (PutOff seen) owners fits write up_to put is =
    let e = tried-put_off p next seen put in
    subst (FitsList i (next + p.board.workers) (list ++ next ∷ [])) (sym (is ∙ e.1))
    (next-put_off p.board.workers
    (names p.board) p.roles p.installed p.scheduled i next list owners fits write up_to)
