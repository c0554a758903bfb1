-- Numbers, beginnings of a history, and whose entries follow them.
use Rattle.std.proofs.Common.{◌≡◌, ℕ, zero, suc, ◌+◌, ◌<◌, ◌≤◌, ◌==◌, ◌⊎◌, inl, inr, ⊎_elim, Bool}
use Rattle.std.proofs.Common.{true, false, ◌||◌, cond, true≢false, List, [], ◌∷◌, ◌++◌, length, map}
use Rattle.std.proofs.Common.{refl, sym, ap, subst, ◌∙◌, append_assoc, arith}
use Rattle.std.specs.Prelude.{All, nat_le}
use Rattle.std.proofs.lemmas.List.{append-nil}
use Rattle.std.proofs.lemmas.List.Elements.{All-nil, All-cons, All-head, All-tail, All-append}
use Rattle.std.proofs.lemmas.List.Elements.{All-weaker, filter-append}
use Rattle.std.proofs.lemmas.Bool.{eqb-true}
use Rattle.std.proofs.lemmas.Bool.Decides.{nat_tests}
use mathlib.Core.List.{IsPrefix, map-append}
use Rattle.turn_slot.specs.Entries.{IsPassNumber, longer, entries_of, AreOf, AreOthers, IsSeenOf}
use Rattle.c5_rows.specs.Numbers.{is_among, numbers_from}

pub not_both : (b : Bool) → b ≡ true → b ≡ false → ⊥
not_both b is isnt = true≢false (sym is ∙ isnt)

pub not_true : (b : Bool) → (b ≡ true → ⊥) → b ≡ false
not_true true isnt = absurd (isnt refl)
not_true false isnt = refl

pub either_bool : (b : Bool) → (b ≡ true) ⊎ (b ≡ false)
either_bool true = inl refl
either_bool false = inr refl

or_left : (a b : Bool) → a ≡ true → (a || b) ≡ true
or_left true b h = refl
or_left false b h = absurd (true≢false (sym h))

or_right : (a b : Bool) → b ≡ true → (a || b) ≡ true
or_right true b h = refl
or_right false b h = h

or_part : (a b : Bool) → (a || b) ≡ true → (a ≡ true) ⊎ (b ≡ true)
or_part true b h = inl refl
or_part false b h = inr h

-- ---- numbers

pub has_front : (n : ℕ) (xs ys : List ℕ) → is_among n xs ≡ true → is_among n (xs ++ ys) ≡ true
has_front n [] ys h = absurd (true≢false (sym h))
has_front n (x ∷ xs) ys h = ⊎_elim
    (λ (e : (n == x) ≡ true). or_left (n == x) (is_among n (xs ++ ys)) e)
    (λ t. or_right (n == x) (is_among n (xs ++ ys)) (has_front n xs ys t))
    (or_part (n == x) (is_among n xs) h)

pub has_back : (n : ℕ) (xs ys : List ℕ) → is_among n ys ≡ true → is_among n (xs ++ ys) ≡ true
has_back n [] ys h = h
has_back n (x ∷ xs) ys h = or_right (n == x) (is_among n (xs ++ ys)) (has_back n xs ys h)

pub has_part : (n : ℕ) (xs ys : List ℕ) → is_among n (xs ++ ys) ≡ true → (is_among n xs ≡ true)
    ⊎ (is_among n ys ≡ true)
has_part n [] ys h = inr h
has_part n (x ∷ xs) ys h = ⊎_elim
    (λ (e : (n == x) ≡ true). inl (or_left (n == x) (is_among n xs) e))
    (λ (t : is_among n (xs ++ ys) ≡ true). ⊎_elim (λ l. inl (or_right (n == x) (is_among n xs) l))
    (λ r. inr r) (has_part n xs ys t))
    (or_part (n == x) (is_among n (xs ++ ys)) h)

pub one_number : (m n : ℕ) → is_among m (n ∷ []) ≡ true → m ≡ n
one_number m n h = ⊎_elim (λ (e : (m == n) ≡ true). eqb-true m n e)
    (λ (t : false ≡ true). absurd (true≢false (sym t))) (or_part (m == n) false h)

-- the numbers from first on are those from first up to first + count
pub has_range : (n first count : ℕ) → is_among n (numbers_from first count) ≡ true → (first ≤ n)
    × (n < first + count)
has_range n first zero h = absurd (true≢false (sym h))
has_range n first (suc count) h =
    ⊎_elim (λ (e : (n == first) ≡ true). let is = eqb-true n first e in (omega arith, omega arith))
    (λ (t : is_among n (numbers_from (suc first) count) ≡ true). let r = has_range n
    (suc first) count t in (omega arith, omega arith))
    (or_part (n == first) (is_among n (numbers_from (suc first) count)) h)

pub range_has : (n first count : ℕ) → first ≤ n → n < first + count
    → is_among n (numbers_from first count) ≡ true
range_has n first zero low high = absurd (omega arith)
range_has n first (suc count) low high =
    at_test (λ k. range_has n (suc first) count k (omega arith)) (n == first) refl
  where
    at_test : (first < n → is_among n (numbers_from (suc first) count) ≡ true) → (b : Bool)
        → (n == first) ≡ b → is_among n (numbers_from first (suc count)) ≡ true
    at_test rest true e = or_left (n == first) (is_among n (numbers_from (suc first) count)) e
    at_test rest false e = or_right (n == first) (is_among n (numbers_from (suc first) count))
        (rest (grind (arith, nat_tests)))

-- a pass of all numbers in a row has each number
pub all_numbers : (numbers : List ℕ) (count n : ℕ) → numbers ≡ numbers_from 1 count
    → IsPassNumber count n → is_among n numbers ≡ true
all_numbers numbers count n is number =
    subst (λ (l : List ℕ). is_among n l ≡ true) (sym is)
    (range_has n 1 count number.0 (let h = number.1 in omega arith))

pub range_push : (first count : ℕ) → numbers_from first (suc count)
    ≡ numbers_from first count ++ (first + count) ∷ []
range_push first zero = ap (λ (k : ℕ). k ∷ []) (omega arith)
range_push first (suc count) = ap (λ (l : List ℕ). first ∷ l)
    (range_push (suc first) count ∙ ap (λ (k : ℕ). numbers_from (suc first) count ++ k ∷ [])
    (omega arith))

-- if each number up to the length is alone in its list, and the next one is added
pub alone_push : {A : Type 0} (f : A → List ℕ) (xs zs : List A) (x : A) (n m : ℕ)
    → zs ≡ xs ++ x ∷ [] → map f xs ≡ map (λ n. n ∷ []) (numbers_from 1 (length xs)) → f x ≡ n ∷ []
    → length xs + 1 ≡ n
    → m ≡ n → map f zs ≡ map (λ n. n ∷ []) (numbers_from 1 m)
alone_push f xs zs x n m is e here long up =
    let single : ℕ → List ℕ = λ k. k ∷ [] in
    let more : numbers_from 1 (suc (length xs)) ≡ numbers_from 1 (length xs) ++ n ∷ [] =
    range_push 1 (length xs) ∙ ap (λ (k : ℕ). numbers_from 1 (length xs) ++ k ∷ [])
    (omega arith) in
    let all : suc (length xs) ≡ m = omega arith in
    ap (map f) is ∙
    (map-append f xs (x ∷ []) ∙
    (ap (λ (l : List (List ℕ)). l ++ f x ∷ []) e ∙
    (ap (λ (l : List ℕ). map single (numbers_from 1 (length xs)) ++ l ∷ []) here
    ∙ (sym (map-append single (numbers_from 1 (length xs)) (n ∷ [])) ∙ ap (map single)
    (sym more ∙ ap (numbers_from 1) all)))))

-- ---- beginnings

-- of two beginnings of one list, what follows the longer one is in what follows the shorter one
pub rest_within : {E : Type 0} (P : E → Type 0) (xs ys rs ss : List E) → xs ++ rs ≡ ys ++ ss
    → length ys ≤ length xs → All P ss → All P rs
rest_within P [] [] rs ss e le all = subst (All P) (sym e) all
rest_within P [] (y ∷ ys) rs ss e le all = absurd (omega arith)
rest_within P (x ∷ xs) [] rs ss e le all =
    rest_within P xs [] rs (xs ++ rs) refl (omega arith)
    (All-tail P x (xs ++ rs) (subst (All P) (sym e) all))
rest_within P (x ∷ xs) (y ∷ ys) rs ss e le all =
    rest_within P xs ys rs ss (cc (e)) (omega arith) all

module _ {E : Type 0} (caller : E → ℕ) where
  -- ---- entries

  pub others_none : (numbers : List ℕ) (xs : List E) → AreOthers caller numbers xs
      → entries_of caller numbers xs ≡ []
  others_none numbers [] all = refl
  others_none numbers (x ∷ xs) all =
      rw (All-head (λ e. is_among (caller e) numbers ≡ false) x xs all)
      (others_none numbers xs (All-tail (λ e. is_among (caller e) numbers ≡ false) x xs all))

  pub of_all : (numbers : List ℕ) (xs : List E) → AreOf caller numbers xs
      → entries_of caller numbers xs ≡ xs
  of_all numbers [] all = refl
  of_all numbers (x ∷ xs) all =
      rw (All-head (λ e. is_among (caller e) numbers ≡ true) x xs all)
      (ap (λ l. x ∷ l)
      (of_all numbers xs (All-tail (λ e. is_among (caller e) numbers ≡ true) x xs all)))

  -- fewer numbers have no more entries
  pub others_fewer : (numbers fewer : List ℕ) (xs : List E)
      → ((n : ℕ) → is_among n fewer ≡ true → is_among n numbers ≡ true)
      → AreOthers caller numbers xs → AreOthers caller fewer xs
  others_fewer numbers fewer xs sub all =
      All-weaker (λ e. is_among (caller e) numbers ≡ false) (λ e. is_among (caller e) fewer ≡ false)
      (λ e isnt. not_true (is_among (caller e) fewer)
      (λ is. not_both (is_among (caller e) numbers) (sub (caller e) is) isnt)) xs all

  pub seen_fewer : (log : List E) (numbers fewer : List ℕ) (seen : List E)
      → ((n : ℕ) → is_among n fewer ≡ true → is_among n numbers ≡ true)
      → IsSeenOf caller log numbers seen → IsSeenOf caller log fewer seen
  seen_fewer log numbers fewer seen sub s = (s.0, s.1, others_fewer numbers fewer s.0 sub s.2)

  -- who has seen all of a log has seen all
  pub seen_whole : (log : List E) (numbers : List ℕ) → IsSeenOf caller log numbers log
  seen_whole log numbers = ([], append-nil log, All-nil (λ e. is_among (caller e) numbers ≡ false))

  -- entries of others are added
  pub seen_more : (log more : List E) (numbers : List ℕ) (seen : List E)
      → AreOthers caller numbers more → IsSeenOf caller log numbers seen
      → IsSeenOf caller (log ++ more) numbers seen
  seen_more log more numbers seen others s = (
    s.0 ++ more,
    sym (append_assoc seen s.0 more) ∙ ap (λ l. l ++ more) s.1,
    All-append (λ e. is_among (caller e) numbers ≡ false) s.0 more s.2 others,
  )

  others_both : (xs ys : List ℕ) (es : List E) → AreOthers caller xs es → AreOthers caller ys es
      → AreOthers caller (xs ++ ys) es
  others_both xs ys [] a b = All-nil (λ e. is_among (caller e) (xs ++ ys) ≡ false)
  others_both xs ys (e ∷ es) a b = All-cons (λ e. is_among (caller e) (xs ++ ys) ≡ false) e es
      (not_true (is_among (caller e) (xs ++ ys))
      (λ is. ⊎_elim
      (λ l. not_both (is_among (caller e) xs) l
      (All-head (λ e. is_among (caller e) xs ≡ false) e es a))
      (λ r. not_both (is_among (caller e) ys) r
      (All-head (λ e. is_among (caller e) ys ≡ false) e es b)) (has_part (caller e) xs ys is)))
      (others_both xs ys es (All-tail (λ e. is_among (caller e) xs ≡ false) e es a)
      (All-tail (λ e. is_among (caller e) ys ≡ false) e es b))

  -- the longer of two beginnings is a beginning, after which no entry is of the numbers of both
  pub seen_longer : (log : List E) (ns ms : List ℕ) (xs ys : List E) → IsSeenOf caller log ns xs
      → IsSeenOf caller log ms ys → IsSeenOf caller log (ns ++ ms) (longer xs ys)
  seen_longer log ns ms xs ys s t = at_test (nat_le (length ys) (length xs)) refl
    where
      at_test : (b : Bool) → nat_le (length ys) (length xs) ≡ b
          → IsSeenOf caller log (ns ++ ms) (cond b xs ys)
      at_test true e = (
        s.0,
        s.1,
        others_both ns ms s.0 s.2
            (rest_within (λ e. is_among (caller e) ms ≡ false) xs ys s.0 t.0 (s.1 ∙ sym t.1)
            (grind (arith, nat_tests)) t.2),
      )
      at_test false e = (
        t.0,
        t.1,
        others_both ns ms t.0
            (rest_within (λ e. is_among (caller e) ns ≡ false) ys xs t.0 s.0 (t.1 ∙ sym s.1)
            (grind (arith, nat_tests)) s.2) t.2,
      )

  -- ---- what a caller learns

  pub seen_begins : (log : List E) (numbers : List ℕ) (seen : List E)
      → IsSeenOf caller log numbers seen → IsPrefix seen log
  seen_begins log numbers seen s = (s.0, s.1)

  -- the log's entries of these numbers were all seen
  pub seen_own : (log : List E) (numbers : List ℕ) (seen : List E)
      → IsSeenOf caller log numbers seen → entries_of caller numbers log
      ≡ entries_of caller numbers seen
  seen_own log numbers seen s = ap (entries_of caller numbers) (sym s.1)
      ∙ (filter-append (λ e. is_among (caller e) numbers) seen s.0 ∙
      (ap (λ l. entries_of caller numbers seen ++ l) (others_none numbers s.0 s.2) ∙ append-nil
      (entries_of caller numbers seen)))

  -- if each entry is of these numbers, all were seen
  pub seen_all_own : (log : List E) (numbers : List ℕ) (seen : List E) → AreOf caller numbers log
      → IsSeenOf caller log numbers seen → log ≡ entries_of caller numbers seen
  seen_all_own log numbers seen all s = sym (of_all numbers log all) ∙ seen_own log numbers seen s

  -- ---- for callers of `give`

  -- the history is the one that was taken
  pub gives_same : (numbers : List ℕ) (seen log : List E) → log ≡ seen → (more : List E)
      × (log ≡ seen ++ more) × AreOf caller numbers more
  gives_same numbers seen log same =
      ([], same ∙ sym (append-nil seen), All-nil (λ e. is_among (caller e) numbers ≡ true))

  -- one entry was added
  pub gives_one : (numbers : List ℕ) (seen log : List E) (e : E) → log ≡ seen ++ e ∷ []
      → is_among (caller e) numbers ≡ true → (more : List E) × (log ≡ seen ++ more)
      × AreOf caller numbers more
  gives_one numbers seen log e is among = (
    e ∷ [],
    is,
    All-cons (λ e. is_among (caller e) numbers ≡ true) e [] among
        (All-nil (λ e. is_among (caller e) numbers ≡ true)),
  )
