-- The order of bytes by words of them, and of short lists by the arrays that hold them.
use Rattle.std.proofs.Common.{◌≡◌, ◌<◌, ◌≤◌, ◌+◌, ◌-◌, ◌*◌, ℕ, zero, suc, List, [], ◌∷◌, Ordering}
use Rattle.std.proofs.Common.{Less, Equal, Greater, length, take, drop, get_or, Fits, w8, refl, ap}
use Rattle.std.proofs.Common.{sym, subst, ◌∙◌, arith}
use Rattle.std.proofs.lemmas.List.{length-drop, drop-drop}
use Rattle.std.proofs.Math.Seq.{get_or-drop}
use Rattle.std.specs.Prelude.{replicate}
use Rattle.std.specs.Ordering.{nat_cmp, ordering_then, MatchOrdering}
use Rattle.std.specs.Cmp.{ranks, nat_cmp_is}
use Rattle.std.specs.Cmp.Lexicographic.{slice_cmp}
use Rattle.std.specs.Slice.Scan.{big_endian}

abbrev Bytes : List ℕ → Type 0
Bytes xs = (k : ℕ) → get_or xs k 0 < 256

then_assoc : (a b c : Ordering) → ordering_then (ordering_then a b) c
    ≡ ordering_then a (ordering_then b c)
then_assoc Less b c = refl
then_assoc Equal b c = refl
then_assoc Greater b c = refl

-- one byte more after two numbers
digit : (x y u v : ℕ) → u < 256 → v < 256
    → ordering_then (nat_cmp x y) (nat_cmp u v) ≡ nat_cmp (x * 256 + u) (y * 256 + v)
digit x y u v p q = by (nat_cmp x y) (nat_cmp u v) (ranks x y) (ranks u v)
  where
    by : (r s : Ordering) → MatchOrdering r (x < y) (x ≡ y) (y < x)
        → MatchOrdering s (u < v) (u ≡ v) (v < u)
        → ordering_then r s ≡ nat_cmp (x * 256 + u) (y * 256 + v)
    by Less s h g = let l : x < y = h in nat_cmp_is (x * 256 + u) (y * 256 + v) Less (omega arith)
    by Greater s h g = let l : y < x = h in
        nat_cmp_is (x * 256 + u) (y * 256 + v) Greater (omega arith)
    by Equal Less h g = let e : x ≡ y = h in let l : u < v = g in
        nat_cmp_is (x * 256 + u) (y * 256 + v) Less (omega arith)
    by Equal Equal h g = let e : x ≡ y = h in let f : u ≡ v = g in
        nat_cmp_is (x * 256 + u) (y * 256 + v) Equal (omega arith)
    by Equal Greater h g = let e : x ≡ y = h in let l : v < u = g in
        nat_cmp_is (x * 256 + u) (y * 256 + v) Greater (omega arith)

-- n bytes are ordered as the numbers that they spell
spelled : (n x y : ℕ) (us vs : List ℕ) → n ≤ length us → n ≤ length vs → Bytes us → Bytes vs
    → ordering_then (nat_cmp x y) (slice_cmp nat_cmp us vs)
    ≡ ordering_then (nat_cmp (big_endian x (take n us)) (big_endian y (take n vs)))
    (slice_cmp nat_cmp (drop n us) (drop n vs))
spelled zero x y us vs p q g h = refl
spelled (suc n) x y [] vs p q g h = absurd (omega arith)
spelled (suc n) x y (u ∷ us) [] p q g h = absurd (omega arith)
spelled (suc n) x y (u ∷ us) (v ∷ vs) p q g h =
    sym (then_assoc (nat_cmp x y) (nat_cmp u v) (slice_cmp nat_cmp us vs))
    ∙ ap (λ r. ordering_then r (slice_cmp nat_cmp us vs)) (digit x y u v (g 0) (h 0))
    ∙ spelled n (x * 256 + u) (y * 256 + v) us vs (omega arith) (omega arith) (λ k. g (suc k))
    (λ k. h (suc k))

decided : (x y : ℕ) (r o : Ordering) → MatchOrdering r (x < y) (x ≡ y) (y < x) → (x ≡ y → ⊥)
    → ordering_then r o ≡ r
decided x y Less o h n = refl
decided x y Equal o h n = absurd (n h)
decided x y Greater o h n = refl

-- ---- two lists with the words x and y of eight bytes at `at`, and with the same bytes before
module _ (at x y : ℕ) (xs ys : List ℕ) (p : at + 8 ≤ length xs) (q : at + 8 ≤ length ys)
    (g : (k : ℕ) → Fits w8 (get_or xs k 0)) (h : (k : ℕ) → Fits w8 (get_or ys k 0))
    (is_x : x ≡ big_endian 0 (take 8 (drop at xs))) (is_y : y ≡ big_endian 0 (take 8 (drop at ys)))
    (before : slice_cmp nat_cmp xs ys ≡ slice_cmp nat_cmp (drop at xs) (drop at ys)) where
  bytes_from : (zs : List ℕ) → ((k : ℕ) → Fits w8 (get_or zs k 0)) → Bytes (drop at zs)
  bytes_from zs f k = subst (λ b. b < 256) (sym (get_or-drop at zs k 0)) (f (at + k)).fits

  by_word : slice_cmp nat_cmp xs ys
      ≡ ordering_then (nat_cmp x y) (slice_cmp nat_cmp (drop (at + 8) xs) (drop (at + 8) ys))
  by_word =
      before
      ∙ spelled 8 0 0 (drop at xs) (drop at ys) (omega (arith, length-drop at xs))
      (omega (arith, length-drop at ys)) (bytes_from xs g) (bytes_from ys h)
      ∙ (λ i. ordering_then (nat_cmp (sym is_x i) (sym is_y i))
      (slice_cmp nat_cmp (drop-drop 8 at xs i) (drop-drop 8 at ys i)))

  pub words_differ : (x ≡ y → ⊥) → (o : Ordering)
      → nat_cmp x y ≡ ordering_then (slice_cmp nat_cmp xs ys) o
  words_differ n o =
      sym (ap (λ r. ordering_then r o)
      (by_word ∙ decided x y (nat_cmp x y)
      (slice_cmp nat_cmp (drop (at + 8) xs) (drop (at + 8) ys)) (ranks x y) n) ∙ decided x y
      (nat_cmp x y) o (ranks x y) n)

  pub words_same : x ≡ y → slice_cmp nat_cmp xs ys
      ≡ slice_cmp nat_cmp (drop (at + 8) xs) (drop (at + 8) ys)
  words_same e =
      by_word ∙ ap (λ r. ordering_then r (slice_cmp nat_cmp (drop (at + 8) xs) (drop (at + 8) ys)))
      (sym (nat_cmp_is x y Equal e))

-- ---- short lists

level : (xs : List ℕ) → slice_cmp nat_cmp xs xs ≡ Equal
level [] = refl
level (x ∷ xs) = ap (λ r. ordering_then r (slice_cmp nat_cmp xs xs))
    (sym (nat_cmp_is x x Equal refl)) ∙ level xs

one_more : (n m : ℕ) → nat_cmp (suc n) (suc m) ≡ nat_cmp n m
one_more n m = sym (by (nat_cmp n m) (ranks n m))
  where
    by : (r : Ordering) → MatchOrdering r (n < m) (n ≡ m) (m < n) → r ≡ nat_cmp (suc n) (suc m)
    by Less h = let l : n < m = h in nat_cmp_is (suc n) (suc m) Less (omega arith)
    by Equal h = let e : n ≡ m = h in nat_cmp_is (suc n) (suc m) Equal (omega arith)
    by Greater h = let l : m < n = h in nat_cmp_is (suc n) (suc m) Greater (omega arith)

-- zeros are below all other lists as long
zeros_first : (n m : ℕ) (ys : List ℕ) → length ys ≡ n → 0 < m
    → ordering_then (slice_cmp nat_cmp (replicate n 0) ys) (nat_cmp 0 m) ≡ Less
zeros_first zero m [] e l = sym (nat_cmp_is 0 m Less l)
zeros_first zero m (y ∷ ys) e l = absurd (omega arith)
zeros_first (suc n) m [] e l = absurd (omega arith)
zeros_first (suc n) m (zero ∷ ys) e l = zeros_first n m ys (omega arith) l
zeros_first (suc n) m (suc y ∷ ys) e l =
    ap (λ r. ordering_then (ordering_then r (slice_cmp nat_cmp (replicate n 0) ys)) (nat_cmp 0 m))
    (sym (nat_cmp_is 0 (suc y) Less (omega arith)))

zeros_last : (n m : ℕ) (xs : List ℕ) → length xs ≡ n → 0 < m
    → ordering_then (slice_cmp nat_cmp xs (replicate n 0)) (nat_cmp m 0) ≡ Greater
zeros_last zero m [] e l = sym (nat_cmp_is m 0 Greater l)
zeros_last zero m (x ∷ xs) e l = absurd (omega arith)
zeros_last (suc n) m [] e l = absurd (omega arith)
zeros_last (suc n) m (zero ∷ xs) e l = zeros_last n m xs (omega arith) l
zeros_last (suc n) m (suc x ∷ xs) e l =
    ap (λ r. ordering_then (ordering_then r (slice_cmp nat_cmp xs (replicate n 0))) (nat_cmp m 0))
    (sym (nat_cmp_is (suc x) 0 Greater (omega arith)))

-- the arrays decide, and if they are the same the lengths do
pub by_arrays : (size n m : ℕ) (xs ys : List ℕ) → length xs ≡ size → length ys ≡ size → n ≤ size
    → m ≤ size → drop n xs ≡ replicate (size - n) 0 → drop m ys ≡ replicate (size - m) 0
    → ordering_then (slice_cmp nat_cmp xs ys) (nat_cmp n m)
    ≡ slice_cmp nat_cmp (take n xs) (take m ys)
by_arrays size zero zero xs ys a b le ge p q =
    ap (λ l. ordering_then (slice_cmp nat_cmp l ys) Equal) (p ∙ sym q)
    ∙ ap (λ r. ordering_then r Equal) (level ys)
by_arrays size zero (suc m) xs [] a b le ge p q = absurd (omega arith)
by_arrays size zero (suc m) xs (y ∷ ys) a b le ge p q =
    let all : size - 0 ≡ size = omega arith in
    ap (λ l. ordering_then (slice_cmp nat_cmp l (y ∷ ys)) (nat_cmp 0 (suc m)))
    (p ∙ ap (λ (k : ℕ). replicate k 0) all)
    ∙ zeros_first size (suc m) (y ∷ ys) b (omega arith)
by_arrays size (suc n) zero [] ys a b le ge p q = absurd (omega arith)
by_arrays size (suc n) zero (x ∷ xs) ys a b le ge p q =
    let all : size - 0 ≡ size = omega arith in
    ap (λ l. ordering_then (slice_cmp nat_cmp (x ∷ xs) l) (nat_cmp (suc n) 0))
    (q ∙ ap (λ (k : ℕ). replicate k 0) all)
    ∙ zeros_last size (suc n) (x ∷ xs) a (omega arith)
by_arrays size (suc n) (suc m) [] ys a b le ge p q = absurd (omega arith)
by_arrays size (suc n) (suc m) (x ∷ xs) [] a b le ge p q = absurd (omega arith)
by_arrays zero (suc n) (suc m) (x ∷ xs) (y ∷ ys) a b le ge p q = absurd (omega arith)
by_arrays (suc size) (suc n) (suc m) (x ∷ xs) (y ∷ ys) a b le ge p q =
    let less : suc size - suc n ≡ size - n = omega arith in
    let fewer : suc size - suc m ≡ size - m = omega arith in
    ap (ordering_then (ordering_then (nat_cmp x y) (slice_cmp nat_cmp xs ys))) (one_more n m)
    ∙ then_assoc (nat_cmp x y) (slice_cmp nat_cmp xs ys) (nat_cmp n m)
    ∙ ap (λ r. ordering_then (nat_cmp x y) r)
    (by_arrays size n m xs ys (omega arith) (omega arith) (omega arith) (omega arith)
    (p ∙ ap (λ (k : ℕ). replicate k 0) less) (q ∙ ap (λ (k : ℕ). replicate k 0) fewer))
