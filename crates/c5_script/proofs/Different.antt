-- How many names are in a list that was sorted and whose repeated names were dropped.
use Rattle.std.proofs.Common.{◌≡◌, ◌∙◌, ◌≤◌, ◌<◌, ◌||◌, ℕ, zero, suc, Bool, true, false, List, []}
use Rattle.std.proofs.Common.{◌∷◌, ◌++◌, length, get_or, cond, subst, sym, ap, refl, arith}
use Rattle.std.specs.Bool.{Decides}
use Rattle.std.specs.Cmp.{eq_by_cmp_equiv, Equal-is}
use Rattle.std.specs.List.{Contains, IsDistinct, AllByRecursion, dedup}
use Rattle.std.specs.List.Retain.{IsFiltered, DiffersFromLast}
use Rattle.std.specs.List.Sorted.{IsPermutation, IsSorted, IsStrictlySortedBy}
use Rattle.std.specs.Ordering.{eq_by_cmp}
use Rattle.std.specs.Set.{distinct_count, is_member, unique_keys}
use Rattle.std.proofs.lemmas.Bool.Decides.{same_from_decides, Decides-like}
use Rattle.std.proofs.lemmas.List.Filters.{dedup_is}
use Rattle.std.proofs.lemmas.List.Kept.{Contains-dedup, Contains-from_dedup}
use Rattle.std.proofs.lemmas.List.Kept.{IsStrictlySortedBy-dedup}
use Rattle.std.proofs.lemmas.List.Sorted.{Contains-permutation, IsPermutation-sym}
use Rattle.std.proofs.lemmas.Map.Keys.{IsDistinct-from_sorted}
use Rattle.std.proofs.lemmas.Map.Made.{is_member-Decides, length-from_keys}
use Rattle.std.proofs.lemmas.Map.Made.{length-le_from_is_member, distinct_count-le}
use Rattle.c5_rows.specs.declared.writes.RowName.{RowName}
use Rattle.c5_rows.specs.Order.{row_name_cmp, row_name_cmp_total, row_name_cmp_exact}
use Rattle.c5_definitions.specs.declared.script.Statement.{Statement}
use Rattle.c5_script.specs.Rows.{is_row}
use Rattle.c5_definitions.specs.Limits.{written_names, write_statements, AreWithinLimits}

abbrev same_name : RowName → RowName → Bool
same_name = eq_by_cmp row_name_cmp

exact : (a b : RowName) → same_name a b ≡ true → a ≡ b
exact a b tie = row_name_cmp_exact a b ((Equal-is (row_name_cmp a b)).0 tie)

decided : (a b : RowName) → Decides (same_name a b) (a ≡ b)
decided a b = (
  exact a b,
  λ (e : a ≡ b). subst (λ (x : RowName). same_name a x ≡ true) e
      ((eq_by_cmp_equiv row_name_cmp_total).refl a),
)

of_deduped : (xs ys zs all : List RowName) → IsPermutation xs ys → IsSorted row_name_cmp ys
    → IsFiltered (DiffersFromLast same_name) [] ys zs → ((q : RowName) → is_row xs q ≡ is_row all q)
    → length zs ≡ distinct_count same_name all
of_deduped xs ys zs all moved sorted filtered same =
    let laws = eq_by_cmp_equiv row_name_cmp_total in
    let is : zs ≡ dedup same_name ys = dedup_is same_name ys zs filtered in
    let strict : IsStrictlySortedBy row_name_cmp (dedup same_name ys) =
    IsStrictlySortedBy-dedup row_name_cmp_total (λ x y. refl) ys sorted in
    let distinct : IsDistinct same_name zs =
    subst (IsDistinct same_name) (sym is)
    (IsDistinct-from_sorted row_name_cmp (dedup same_name ys) strict) in
    let kept = λ (q : RowName) (h : Contains xs q). subst (λ (list : List RowName). Contains list q)
    (sym is) (Contains-dedup laws exact ys q (Contains-permutation xs ys q moved h)) in
    let was = λ (q : RowName) (h : Contains zs q). Contains-permutation ys xs q
    (IsPermutation-sym xs ys moved)
    (Contains-from_dedup same_name ys q (subst (λ (list : List RowName). Contains list q) is h))
    in
    length-from_keys laws zs all distinct
    (λ q. same_from_decides (is_member same_name zs q) (is_member same_name xs q)
    (is_member-Decides decided zs q)
    (Decides-like (is_member same_name xs q) (kept q) (was q) (is_member-Decides decided xs q)) ∙
    same q)

-- the same with another test of equal names
pub count_of_deduped : (test : RowName → RowName → Bool)
    → ((x y : RowName) → test x y ≡ same_name x y) → (xs ys zs : List RowName) → IsPermutation xs ys
    → IsSorted row_name_cmp ys → IsFiltered (DiffersFromLast test) [] ys zs
    → (all : List RowName) → ((q : RowName) → is_row xs q ≡ is_row all q)
    → length zs ≡ distinct_count (eq_by_cmp row_name_cmp) all
count_of_deduped test ties xs ys zs moved sorted filtered all same =
    let alike : test ≡ same_name = λ i x y. ties x y i in
    of_deduped xs ys zs all moved sorted
    (subst (λ (t : RowName → RowName → Bool). IsFiltered (DiffersFromLast t) [] ys zs) alike
    filtered) same

-- ---- names that are gathered

or_same : (a m : Bool) → (a || m) ≡ ((a || m) || a)
or_same true m = refl
or_same false true = refl
or_same false false = refl

or_later : (a m b : Bool) → m ≡ (m || b) → (a || m) ≡ ((a || m) || b)
or_later true m b e = refl
or_later false m b e = e

or_assoc : (a b c : Bool) → ((a || b) || c) ≡ (a || (b || c))
or_assoc true b c = refl
or_assoc false b c = refl

or_false : (a : Bool) → (a || false) ≡ a
or_false true = refl
or_false false = refl

-- a name that is held may be left out
pub is_row-held : (names : List RowName) (place : ℕ) (d name : RowName) → place < length names
    → same_name (get_or names place d) name ≡ true → (q : RowName)
    → is_row names q ≡ (is_row names q || same_name q name)
is_row-held [] place d name lt e q = absurd (omega arith)
is_row-held (x ∷ names) zero d name lt e q =
    subst (λ (n : RowName). (same_name q x || is_row names q)
    ≡ ((same_name q x || is_row names q) || same_name q n)) (exact x name e)
    (or_same (same_name q x) (is_row names q))
is_row-held (x ∷ names) (suc place) d name lt e q =
    or_later (same_name q x) (is_row names q) (same_name q name)
    (is_row-held names place d name (omega arith) e q)

pub is_row-append : (xs ys : List RowName) (q : RowName)
    → is_row (xs ++ ys) q ≡ (is_row xs q || is_row ys q)
is_row-append [] ys q = refl
is_row-append (x ∷ xs) ys q = ap (λ (m : Bool). same_name q x || m) (is_row-append xs ys q) ∙ sym
    (or_assoc (same_name q x) (is_row xs q) (is_row ys q))

pub is_row-pushed : (names : List RowName) (name q : RowName)
    → is_row (names ++ name ∷ []) q ≡ (is_row names q || same_name q name)
is_row-pushed names name q = is_row-append names (name ∷ []) q ∙ ap
    (λ (m : Bool). is_row names q || m) (or_false (same_name q name))

-- ---- there are no more rows than names

neither : (a b : Bool) → (a || b) ≡ false → (a ≡ false) × (b ≡ false)
neither true b e = absurd cc
neither false b e = (refl, e)

or_right : (a b : Bool) → b ≡ true → (a || b) ≡ true
or_right true b e = refl
or_right false b e = e

apart : (x : RowName) (xs : List RowName) → is_row xs x ≡ false
    → AllByRecursion (λ y. same_name x y ≡ false) (unique_keys same_name xs)
apart x [] m = tt
apart x (y ∷ ys) m = by (is_row ys y) (neither (same_name x y) (is_row ys x) m)
    (apart x ys (neither (same_name x y) (is_row ys x) m).1)
  where
    by : (b : Bool) → (same_name x y ≡ false) × (is_row ys x ≡ false)
        → AllByRecursion (λ y. same_name x y ≡ false) (unique_keys same_name ys)
        → AllByRecursion (λ y. same_name x y ≡ false)
        (cond b (unique_keys same_name ys) (y ∷ unique_keys same_name ys))
    by true n r = r
    by false n r = (n.0, r)

unique-distinct : (xs : List RowName) → IsDistinct same_name (unique_keys same_name xs)
unfolding IsDistinct
unique-distinct [] = tt
unique-distinct (x ∷ xs) = by (is_row xs x) refl (unique-distinct xs)
  where
    by : (b : Bool) → is_row xs x ≡ b → IsDistinct same_name (unique_keys same_name xs)
        → IsDistinct same_name (cond b (unique_keys same_name xs) (x ∷ unique_keys same_name xs))
    by true m r = r
    by false m r = (apart x xs m, r)

unique-held : (xs : List RowName) (q : RowName) → is_row (unique_keys same_name xs) q ≡ true
    → is_row xs q ≡ true
unique-held [] q m = m
unique-held (x ∷ xs) q m = by (is_row xs x) m (unique-held xs q)
  where
    by : (b : Bool) → is_row (cond b (unique_keys same_name xs) (x ∷ unique_keys same_name xs)) q
        ≡ true → (is_row (unique_keys same_name xs) q ≡ true → is_row xs q ≡ true)
        → (same_name q x || is_row xs q) ≡ true
    by true m r = or_right (same_name q x) (is_row xs q) (r m)
    by false m r = later (same_name q x) m
      where
        later : (c : Bool) → (c || is_row (unique_keys same_name xs) q) ≡ true
            → (c || is_row xs q) ≡ true
        later true m = refl
        later false m = r m

pub rows-few : (names all : List RowName) → ((q : RowName) → is_row names q ≡ is_row all q)
    → distinct_count same_name all ≤ length names
rows-few names all same = length-le_from_is_member (eq_by_cmp_equiv row_name_cmp_total)
    (unique_keys same_name all) names (unique-distinct all) (λ q m. same q ∙ unique-held all q m)

-- the names that were gathered are few
pub within-names : (bodies : List (List Statement)) (count : ℕ) (names : List RowName)
    → count ≡ write_statements bodies → length bodies ≤ 65536 → count ≤ 262144
    → length names ≤ 65536
    → ((q : RowName) → is_row names q ≡ is_row (written_names bodies) q) → AreWithinLimits bodies
within-names bodies count names is transactions writes few same =
    let rows = rows-few names (written_names bodies) same in
    record {
      transactions = transactions;
      writes = omega (arith, is);
      rows = omega (arith, rows);
    }

-- few statements write no more rows than they are
pub within-few : (bodies : List (List Statement)) (count : ℕ) → count ≡ write_statements bodies
    → length bodies ≤ 65536 → count ≤ 65536 → AreWithinLimits bodies
within-few bodies count is transactions few =
    let rows = distinct_count-le same_name (written_names bodies) in
    record {
      transactions = transactions;
      writes = omega (arith, is);
      rows = omega (arith, is, rows);
    }
