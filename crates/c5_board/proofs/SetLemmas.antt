-- Lists of numbers as sets, and one number for each worker.
use Rattle.std.proofs.Common.{◌≡◌, ◌≢◌, ℕ, zero, suc, ◌+◌, ◌-◌, ◌<◌, ◌≤◌, ◌==◌, max, ◌⊎◌, inl, inr}
use Rattle.std.proofs.Common.{⊎_elim, Bool, true, false, ◌||◌, cond, true≢false, List, [], ◌∷◌}
use Rattle.std.proofs.Common.{◌++◌, length, get_or, set, refl, sym, ap, subst, ◌∙◌, arith}
use Rattle.std.proofs.Common.{length-set, get_or-set_same, get_or-set_other}
use Rattle.std.specs.List.{AllByRecursion, IsDistinct, count_by, filter, fold}
use Rattle.std.specs.Prelude.{nat_eq}
use Rattle.std.proofs.lemmas.Bool.{eqb-true}
use mathlib.Core.Logic.{dite}
use native.Mathlib.Decide.{ℕ_discrete}
use Rattle.std.proofs.Common.{eq-eqb}
use Rattle.c5_board.specs.Sets.{number_of, with_number, greater_of_each}
use Rattle.c5_rows.specs.Numbers.{is_among, numbers_from}

pub not_both : (b : Bool) → b ≡ true → b ≡ false → ⊥
not_both b is isnt = true≢false (sym is ∙ isnt)

pub not_true : (b : Bool) → (b ≡ true → ⊥) → b ≡ false
not_true true isnt = absurd (isnt refl)
not_true false isnt = refl

pub either_bool : (b : Bool) → (b ≡ true) ⊎ (b ≡ false)
either_bool true = inl refl
either_bool false = inr refl

pub or_left : (a b : Bool) → a ≡ true → (a || b) ≡ true
or_left true b h = refl
or_left false b h = absurd (true≢false (sym h))

pub or_right : (a b : Bool) → b ≡ true → (a || b) ≡ true
or_right true b h = refl
or_right false b h = h

pub or_part : (a b : Bool) → (a || b) ≡ true → (a ≡ true) ⊎ (b ≡ true)
or_part true b h = inl refl
or_part false b h = inr h

-- ---- sets

pub has-here : (n : ℕ) (xs : List ℕ) → is_among n (n ∷ xs) ≡ true
has-here n xs = or_left (n == n) (is_among n xs) (eq-eqb n n refl)

pub has-more : (n m : ℕ) (xs : List ℕ) → is_among n xs ≡ true → is_among n (m ∷ xs) ≡ true
has-more n m xs h = or_right (n == m) (is_among n xs) h

pub has-split : (n m : ℕ) (xs : List ℕ) → is_among n (m ∷ xs) ≡ true → (n ≡ m)
    ⊎ (is_among n xs ≡ true)
has-split n m xs h = ⊎_elim (λ (e : (n == m) ≡ true). inl (eqb-true n m e)) (λ t. inr t)
    (or_part (n == m) (is_among n xs) h)

pub has_front : (n : ℕ) (xs ys : List ℕ) → is_among n xs ≡ true → is_among n (xs ++ ys) ≡ true
has_front n [] ys h = absurd (true≢false (sym h))
has_front n (x ∷ xs) ys h = ⊎_elim
    (λ (e : (n == x) ≡ true). or_left (n == x) (is_among n (xs ++ ys)) e)
    (λ t. or_right (n == x) (is_among n (xs ++ ys)) (has_front n xs ys t))
    (or_part (n == x) (is_among n xs) h)

pub has_back : (n : ℕ) (xs ys : List ℕ) → is_among n ys ≡ true → is_among n (xs ++ ys) ≡ true
has_back n [] ys h = h
has_back n (x ∷ xs) ys h = or_right (n == x) (is_among n (xs ++ ys)) (has_back n xs ys h)

pub has_part : (n : ℕ) (xs ys : List ℕ) → is_among n (xs ++ ys) ≡ true → (is_among n xs ≡ true)
    ⊎ (is_among n ys ≡ true)
has_part n [] ys h = inr h
has_part n (x ∷ xs) ys h = ⊎_elim
    (λ (e : (n == x) ≡ true). inl (or_left (n == x) (is_among n xs) e))
    (λ (t : is_among n (xs ++ ys) ≡ true). ⊎_elim (λ l. inl (or_right (n == x) (is_among n xs) l))
    (λ r. inr r) (has_part n xs ys t))
    (or_part (n == x) (is_among n (xs ++ ys)) h)

pub one_number : (m n : ℕ) → is_among m (n ∷ []) ≡ true → m ≡ n
one_number m n h = ⊎_elim (λ (e : m ≡ n). e) (λ (t : false ≡ true). absurd (true≢false (sym t)))
    (has-split m n [] h)

-- those that pass a test
filter-step : (test : ℕ → Bool) (n x : ℕ) (xs : List ℕ) (b : Bool) → test x ≡ b
    → (is_among n (filter test xs) ≡ true → (is_among n xs ≡ true) × (test n ≡ true))
    → is_among n (cond b (x ∷ filter test xs) (filter test xs)) ≡ true
    → (is_among n (x ∷ xs) ≡ true) × (test n ≡ true)
filter-step test n x xs true e rest h = ⊎_elim
    (λ (same : n ≡ x). (
      subst (λ (m : ℕ). is_among n (m ∷ xs) ≡ true) same (has-here n xs),
      ap test same ∙ e,
    ))
    (λ (t : is_among n (filter test xs) ≡ true). let r = rest t in (has-more n x xs r.0, r.1))
    (has-split n x (filter test xs) h)
filter-step test n x xs false e rest h = let r = rest h in (has-more n x xs r.0, r.1)

pub has-filter : (test : ℕ → Bool) (n : ℕ) (xs : List ℕ) → is_among n (filter test xs) ≡ true
    → (is_among n xs ≡ true) × (test n ≡ true)
has-filter test n [] h = absurd (true≢false (sym h))
has-filter test n (x ∷ xs) h = filter-step test n x xs (test x) refl (has-filter test n xs) h

passes-step : (test : ℕ → Bool) (n x : ℕ) (xs : List ℕ) (b : Bool) → test x ≡ b → test n ≡ true
    → (is_among n xs ≡ true → is_among n (filter test xs) ≡ true)
    → is_among n (x ∷ xs) ≡ true → is_among n (cond b (x ∷ filter test xs) (filter test xs)) ≡ true
passes-step test n x xs true e passes rest h = ⊎_elim
    (λ (same : n ≡ x). subst (λ (m : ℕ). is_among n (m ∷ filter test xs) ≡ true) same
    (has-here n (filter test xs)))
    (λ (t : is_among n xs ≡ true). has-more n x (filter test xs) (rest t))
    (has-split n x xs h)
passes-step test n x xs false e passes rest h = ⊎_elim
    (λ (same : n ≡ x). absurd (not_both (test x) (sym (ap test same) ∙ passes) e))
    (λ (t : is_among n xs ≡ true). rest t)
    (has-split n x xs h)

pub filter-has : (test : ℕ → Bool) (n : ℕ) (xs : List ℕ) → is_among n xs ≡ true → test n ≡ true
    → is_among n (filter test xs) ≡ true
filter-has test n [] h passes = absurd (true≢false (sym h))
filter-has test n (x ∷ xs) h passes =
    passes-step test n x xs (test x) refl passes (λ t. filter-has test n xs t passes) h

-- ---- distinct numbers

not-among : (n m : ℕ) (xs : List ℕ) → is_among n (m ∷ xs) ≡ false → ((n == m) ≡ false)
    × (is_among n xs ≡ false)
not-among n m xs h = (
  not_true (n == m) (λ e. not_both (is_among n (m ∷ xs)) (or_left (n == m) (is_among n xs) e) h),
  not_true (is_among n xs)
      (λ e. not_both (is_among n (m ∷ xs)) (or_right (n == m) (is_among n xs) e) h),
)

apart-from : (n : ℕ) (xs : List ℕ) → is_among n xs ≡ false
    → AllByRecursion (λ y. (n == y) ≡ false) xs
apart-from n [] h = tt
apart-from n (x ∷ xs) h = let p = not-among n x xs h in (p.0, apart-from n xs p.1)

among-apart : (n : ℕ) (xs : List ℕ) → AllByRecursion (λ y. (n == y) ≡ false) xs
    → is_among n xs ≡ false
among-apart n [] h = refl
among-apart n (x ∷ xs) h = not_true (is_among n (x ∷ xs))
    (λ e. ⊎_elim (λ (l : (n == x) ≡ true). not_both (n == x) l h.0)
    (λ (t : is_among n xs ≡ true). not_both (is_among n xs) t (among-apart n xs h.1))
    (or_part (n == x) (is_among n xs) e))

pub distinct-none : IsDistinct nat_eq []
unfolding IsDistinct
distinct-none = tt

pub distinct-more : (n : ℕ) (xs : List ℕ) → is_among n xs ≡ false → IsDistinct nat_eq xs
    → IsDistinct nat_eq (n ∷ xs)
unfolding IsDistinct
distinct-more n xs fresh once = (apart-from n xs fresh, once)

distinct-head : (n : ℕ) (xs : List ℕ) → IsDistinct nat_eq (n ∷ xs) → is_among n xs ≡ false
unfolding IsDistinct
distinct-head n xs once = among-apart n xs once.0

distinct-tail : (n : ℕ) (xs : List ℕ) → IsDistinct nat_eq (n ∷ xs) → IsDistinct nat_eq xs
unfolding IsDistinct
distinct-tail n xs once = once.1

filtered : (test : ℕ → Bool) (x : ℕ) (xs : List ℕ) (b : Bool) → is_among x xs ≡ false
    → IsDistinct nat_eq (filter test xs)
    → IsDistinct nat_eq (cond b (x ∷ filter test xs) (filter test xs))
filtered test x xs true fresh once =
    distinct-more x (filter test xs)
    (not_true (is_among x (filter test xs))
    (λ h. not_both (is_among x xs) (has-filter test x xs h).0 fresh)) once
filtered test x xs false fresh once = once

pub distinct-filter : (test : ℕ → Bool) (xs : List ℕ) → IsDistinct nat_eq xs
    → IsDistinct nat_eq (filter test xs)
distinct-filter test [] once = once
distinct-filter test (x ∷ xs) once =
    filtered test x xs (test x) (distinct-head x xs once)
    (distinct-filter test xs (distinct-tail x xs once))

pub distinct-append : (xs ys : List ℕ) → IsDistinct nat_eq xs → IsDistinct nat_eq ys
    → ((n : ℕ) → is_among n xs ≡ true → is_among n ys ≡ true → ⊥) → IsDistinct nat_eq (xs ++ ys)
distinct-append [] ys once_x once_y apart = once_y
distinct-append (x ∷ xs) ys once_x once_y apart = distinct-more x (xs ++ ys)
    (not_true (is_among x (xs ++ ys))
    (λ h. ⊎_elim
    (λ (l : is_among x xs ≡ true). not_both (is_among x xs) l (distinct-head x xs once_x))
    (λ (r : is_among x ys ≡ true). apart x (has-here x xs) r) (has_part x xs ys h)))
    (distinct-append xs ys (distinct-tail x xs once_x) once_y
    (λ n in_xs in_ys. apart n (has-more n x xs in_xs) in_ys))

-- a number of distinct ones is listed once
counts-none : (n : ℕ) (xs : List ℕ) (a : ℕ) → is_among n xs ≡ false
    → fold (λ a x. a + cond (n == x) 1 0) a xs ≡ a
counts-none n [] a h = refl
counts-none n (x ∷ xs) a h = let p = not-among n x xs h in
    rw p.0 (counts-none n xs (a + 0) p.1 ∙ omega arith)

counts-from : (n : ℕ) (xs : List ℕ) (a : ℕ) → IsDistinct nat_eq xs → is_among n xs ≡ true
    → fold (λ a x. a + cond (n == x) 1 0) a xs ≡ a + 1
counts-from n [] a once h = absurd (true≢false (sym h))
counts-from n (x ∷ xs) a once h = ⊎_elim
    (λ (e : n ≡ x). rw (eq-eqb n x e)
    (counts-none n xs (a + 1)
    (subst (λ (m : ℕ). is_among m xs ≡ false) (sym e) (distinct-head x xs once))))
    (λ (t : is_among n xs ≡ true). let other : (n == x)
    ≡ false = not_true (n == x)
    (λ e. not_both (is_among x xs) (subst (λ (m : ℕ). is_among m xs ≡ true) (eqb-true n x e) t)
    (distinct-head x xs once)) in
    rw other (counts-from n xs (a + 0) (distinct-tail x xs once) t ∙ omega arith))
    (has-split n x xs h)

pub listed-once : (n : ℕ) (xs : List ℕ) → IsDistinct nat_eq xs → is_among n xs ≡ true
    → count_by (λ m. n == m) xs ≡ 1
listed-once n xs once h = counts-from n xs 0 once h

-- ---- ranges

pub has_range : (n first count : ℕ) → is_among n (numbers_from first count) ≡ true → (first ≤ n)
    × (n < first + count)
has_range n first zero h = absurd (true≢false (sym h))
has_range n first (suc count) h = ⊎_elim (λ (is : n ≡ first). (omega arith, omega arith))
    (λ (t : is_among n (numbers_from (suc first) count) ≡ true). let r = has_range n
    (suc first) count t in (omega arith, omega arith))
    (has-split n first (numbers_from (suc first) count) h)

pub range_has : (n first count : ℕ) → first ≤ n → n < first + count
    → is_among n (numbers_from first count) ≡ true
range_has n first zero low high = absurd (omega arith)
range_has n first (suc count) low high = dite (ℕ_discrete n first)
    (λ e. or_left (n == first) (is_among n (numbers_from (suc first) count)) (eq-eqb n first e))
    (λ ne. or_right (n == first) (is_among n (numbers_from (suc first) count))
    (range_has n (suc first) count (omega arith) (omega arith)))

pub length-range : (first count : ℕ) → length (numbers_from first count) ≡ count
length-range first zero = refl
length-range first (suc count) = ap suc (length-range (suc first) count)

pub range-at : (first count i : ℕ) → i < count → get_or (numbers_from first count) i 0 ≡ first + i
range-at first zero i within = absurd (omega arith)
range-at first (suc count) zero within = omega arith
range-at first (suc count) (suc i) within = range-at (suc first) count i (omega arith) ∙ omega arith

-- ---- one number for each worker

pub with_number-here : (numbers : List ℕ) (i x : ℕ) → 1 ≤ i → i ≤ length numbers
    → number_of (with_number numbers i x) i ≡ x
with_number-here numbers i x some within = get_or-set_same numbers (i - 1) x 0 (omega arith)

pub with_number-else : (numbers : List ℕ) (i k x : ℕ) → 1 ≤ i → 1 ≤ k → k ≢ i
    → number_of (with_number numbers i x) k ≡ number_of numbers k
with_number-else numbers i k x some some_k ne =
    get_or-set_other numbers (i - 1) (k - 1) x 0 (λ e. ne (omega arith))

pub with_number-length : (numbers : List ℕ) (i x : ℕ)
    → length (with_number numbers i x) ≡ length numbers
with_number-length numbers i x = length-set numbers (i - 1) x

-- a greater number makes none smaller
pub with_number-grows : (numbers : List ℕ) (i x : ℕ) → 1 ≤ i → i ≤ length numbers
    → number_of numbers i ≤ x → (k : ℕ)
    → number_of numbers k ≤ number_of (with_number numbers i x) k
with_number-grows numbers i x some within grows k = dite (ℕ_discrete (k - 1) (i - 1))
    (λ e. let same : number_of (with_number numbers i x) k
    ≡ x = ap (λ (j : ℕ). get_or (set numbers (i - 1) x) j 0) e ∙ with_number-here numbers i x
    some within in
    let old : number_of numbers k ≡ number_of numbers i = ap (λ (j : ℕ). get_or numbers j 0) e in
    omega arith)
    (λ ne. let same : number_of (with_number numbers i x) k
    ≡ number_of numbers k = get_or-set_other numbers (i - 1) (k - 1) x 0 ne in omega arith)

pub greater-length : (xs ys : List ℕ) → length xs ≡ length ys
    → length (greater_of_each xs ys) ≡ length xs
greater-length [] ys e = refl
greater-length (x ∷ xs) [] e = absurd (omega arith)
greater-length (x ∷ xs) (y ∷ ys) e = ap suc (greater-length xs ys (omega arith))

pub greater-at : (xs ys : List ℕ) (j : ℕ) → length xs ≡ length ys
    → get_or (greater_of_each xs ys) j 0 ≡ max (get_or xs j 0) (get_or ys j 0)
greater-at [] [] j e = refl
greater-at [] (y ∷ ys) j e = absurd (omega arith)
greater-at (x ∷ xs) [] j e = absurd (omega arith)
greater-at (x ∷ xs) (y ∷ ys) zero e = refl
greater-at (x ∷ xs) (y ∷ ys) (suc j) e = greater-at xs ys j (omega arith)

pub greater-of : (xs ys : List ℕ) (i : ℕ) → length xs ≡ length ys
    → number_of (greater_of_each xs ys) i ≡ max (number_of xs i) (number_of ys i)
greater-of xs ys i e = greater-at xs ys (i - 1) e
