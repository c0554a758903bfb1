-- The laws of the index of rows.
use Rattle.std.proofs.Common.{◌≡◌, ◌≢◌, ℕ, zero, suc, ◌+◌, ◌-◌, ◌*◌, ◌^◌, ◌<◌, ◌≤◌, Bool, List, []}
use Rattle.std.proofs.Common.{◌∷◌, length, replicate, get_or, set, Option, Some, None, refl, sym}
use Rattle.std.proofs.Common.{ap, subst, ◌∙◌, arith, eq-eqb, ne_eqb, lt_of_not-le, lit≤, length-set}
use Rattle.std.proofs.Common.{get_or-set_same, get_or-set_other}
use Rattle.std.specs.Prelude.{nat_le}
use Rattle.std.proofs.lemmas.List.{length-replicate, get_or-replicate, get_or_past}
use Rattle.std.proofs.Math.Nat.{mod-lt, pow-succ', pow-le-pow_right}
use Rattle.std.proofs.lemmas.Bool.{leb-true, le-leb}
use mathlib.Core.Logic.{dite}
use native.Mathlib.Decide.{dec_le, ℕ_discrete}
use Rattle.c5_rows.specs.declared.writes.RowName.{RowName}
use Rattle.c5_definitions.specs.Searches.{least_up_to}
use Rattle.c5_definitions.specs.WriteNumbers.{name_at, row_of, IsFirstWrite}
use Rattle.c5_definitions.specs.RowIndex.{bucket_count, start_of, next_bucket, bucket_on_path}
use Rattle.c5_definitions.specs.RowIndex.{free_from, start_of_write, index_with, index_up_to}
use Rattle.c5_definitions.specs.RowIndex.{first_in_bucket}
use Rattle.c5_definitions.specs.IndexLaws.{BucketsSuffice, RowsAreIndexed}
use Rattle.c5_definitions.proofs.SearchLemmas.{least-found, least-passes}

-- ---- paths

module _ (buckets : ℕ) where
  pub next-within : (j : ℕ) → 1 ≤ buckets → j < buckets → next_bucket buckets j < buckets
  unfolding next_bucket
  next-within j some within = dite (ℕ_discrete (j + 1) buckets)
      (λ e. rw (eq-eqb (j + 1) buckets e) (omega arith))
      (λ ne. rw (ne_eqb (j + 1) buckets ne) (omega arith))

  next-in_row : (j : ℕ) → j + 1 < buckets → next_bucket buckets j ≡ j + 1
  unfolding next_bucket
  next-in_row j within = let ne : j + 1 ≢ buckets = omega arith in
      rw (ne_eqb (j + 1) buckets ne) refl

  next-wraps : (j : ℕ) → j + 1 ≡ buckets → next_bucket buckets j ≡ 0
  unfolding next_bucket
  next-wraps j e = rw (eq-eqb (j + 1) buckets e) refl

  pub path-zero : (start : ℕ) → bucket_on_path buckets start 0 ≡ start
  unfolding bucket_on_path
  path-zero start = refl

  pub path-suc : (start k : ℕ) → bucket_on_path buckets start (suc k)
      ≡ next_bucket buckets (bucket_on_path buckets start k)
  unfolding bucket_on_path
  path-suc start k = refl

  -- one step at the beginning
  pub path-shift : (start k : ℕ) → bucket_on_path buckets start (suc k)
      ≡ bucket_on_path buckets (next_bucket buckets start) k
  path-shift start zero = path-suc start zero ∙
      (ap (next_bucket buckets) (path-zero start) ∙ sym (path-zero (next_bucket buckets start)))
  path-shift start (suc k) = path-suc start (suc k) ∙
      (ap (next_bucket buckets) (path-shift start k) ∙ sym (path-suc (next_bucket buckets start) k))

  pub path-within : (start k : ℕ) → 1 ≤ buckets → start < buckets
      → bucket_on_path buckets start k < buckets
  path-within start zero some within = let e = path-zero start in omega arith
  path-within start (suc k) some within = let h =
      next-within (bucket_on_path buckets start k) some (path-within start k some within) in
      let e = path-suc start k in omega arith

  -- up to the last bucket a path goes in a row, and then from the first one
  path-in_row : (start k : ℕ) → start + k < buckets → bucket_on_path buckets start k ≡ start + k
  path-in_row start zero within = let e = path-zero start in omega arith
  path-in_row start (suc k) within =
      path-suc start k ∙
      (ap (next_bucket buckets) (path-in_row start k (omega arith)) ∙
      (next-in_row (start + k) (omega arith) ∙ omega arith))

  path-wraps : (start k : ℕ) → start + k ≡ buckets → 1 ≤ k → bucket_on_path buckets start k ≡ 0
  path-wraps start zero e some = absurd (omega arith)
  path-wraps start (suc k) e some =
      path-suc start k ∙
      (ap (next_bucket buckets) (path-in_row start k (omega arith)) ∙ next-wraps (start + k)
      (omega arith))

  path-again : (start k m : ℕ) → start + k ≡ buckets → 1 ≤ k → m < buckets
      → bucket_on_path buckets start (k + m) ≡ m
  path-again start k zero e some within =
      ap (bucket_on_path buckets start) (omega arith) ∙ path-wraps start k e some
  path-again start k (suc m) e some within =
      let shift : k + suc m ≡ suc (k + m) = omega arith in
      let more : m + 1 ≡ suc m = omega arith in
      ap (bucket_on_path buckets start) shift ∙
      (path-suc start (k + m) ∙
      (ap (next_bucket buckets) (path-again start k m e some (omega arith)) ∙
      (next-in_row m (omega arith) ∙ more)))

  -- each bucket is on each path
  pub path-meets : (start z : ℕ) → start < buckets → z < buckets → (k : ℕ) × (k < buckets)
      × (bucket_on_path buckets start k ≡ z)
  path-meets start z from within = elim (dec_le start z) [
    | yes le ↦ (z - start, omega arith, path-in_row start (z - start) (omega arith) ∙ omega arith)
    | no gt ↦ let g = lt_of_not-le gt in (
      buckets - start + z,
      omega arith,
      path-again start (buckets - start) z (omega arith) (omega arith) within,
    )
  ]

-- ---- free buckets

-- the number of free buckets
frees : List ℕ → ℕ
frees [] = 0
frees (zero ∷ xs) = suc (frees xs)
frees (suc x ∷ xs) = frees xs

frees-replicate : (n : ℕ) → frees (replicate n 0) ≡ n
unfolding frees
frees-replicate zero = refl
frees-replicate (suc n) = ap suc (frees-replicate n)

frees-set : (xs : List ℕ) (j w : ℕ) → get_or xs j 0 ≡ 0 → frees xs ≤ suc (frees (set xs j (suc w)))
unfolding frees
frees-set [] j w e = omega arith
frees-set (zero ∷ xs) zero w e = omega arith
frees-set (suc x ∷ xs) zero w e = absurd (omega arith)
frees-set (zero ∷ xs) (suc j) w e = let h = frees-set xs j w e in omega arith
frees-set (suc x ∷ xs) (suc j) w e = frees-set xs j w e

some_free : (xs : List ℕ) → 1 ≤ frees xs → (z : ℕ) × (z < length xs) × (get_or xs z 0 ≡ 0)
unfolding frees
some_free [] some = absurd (omega arith)
some_free (zero ∷ xs) some = (0, omega arith, refl)
some_free (suc x ∷ xs) some = let h = some_free xs some in (suc h.0, omega arith, h.2)

-- the first free bucket of a path that has one
first_free : (xs : List ℕ) (buckets start k : ℕ) → get_or xs (bucket_on_path buckets start k) 0 ≡ 0
    → (m : ℕ) × (m ≤ k) × (get_or xs (bucket_on_path buckets start m) 0 ≡ 0)
    × ((i : ℕ) → i < m → get_or xs (bucket_on_path buckets start i) 0 ≢ 0)
first_free xs buckets start zero free = (0, omega arith, free, (λ i below. absurd (omega arith)))
first_free xs buckets start (suc k) free =
    dite (ℕ_discrete (get_or xs (bucket_on_path buckets start 0) 0) 0)
    (λ now. (0, omega arith, now, (λ i below. absurd (omega arith))))
    (λ taken. let h = first_free xs buckets (next_bucket buckets start) k
    (subst (λ (j : ℕ). get_or xs j 0 ≡ 0) (path-shift buckets start k) free) in (
      suc h.0,
      omega (arith, h.1),
      subst (λ (j : ℕ). get_or xs j 0 ≡ 0) (sym (path-shift buckets start h.0)) h.2,
      at taken h.3,
    ))
  where
    at : {m : ℕ} → get_or xs (bucket_on_path buckets start 0) 0 ≢ 0
        → ((i : ℕ) → i < m → get_or xs (bucket_on_path buckets (next_bucket buckets start) i) 0 ≢ 0)
        → (i : ℕ) → i < suc m → get_or xs (bucket_on_path buckets start i) 0 ≢ 0
    at {m} taken h zero below = taken
    at {m} taken h (suc i) below =
        subst (λ (j : ℕ). get_or xs j 0 ≢ 0) (sym (path-shift buckets start i)) (h i (omega arith))

-- it is the one that is taken
free-finds : (xs : List ℕ) (left j k : ℕ) → k < left
    → get_or xs (bucket_on_path (length xs) j k) 0 ≡ 0
    → ((i : ℕ) → i < k → get_or xs (bucket_on_path (length xs) j i) 0 ≢ 0)
    → free_from xs left j ≡ bucket_on_path (length xs) j k
unfolding free_from
free-finds xs zero j k within free taken = absurd (omega arith)
free-finds xs (suc left) j zero within free taken = let here : get_or xs j 0 ≡ 0 =
    subst (λ (i : ℕ). get_or xs i 0 ≡ 0) (path-zero (length xs) j) free in
    rw (eq-eqb (get_or xs j 0) 0 here) (sym (path-zero (length xs) j))
free-finds xs (suc left) j (suc k) within free taken =
    let here : get_or xs j 0 ≢ 0 =
    subst (λ (i : ℕ). get_or xs i 0 ≢ 0) (path-zero (length xs) j) (taken 0 (omega arith)) in
    rw (ne_eqb (get_or xs j 0) 0 here)
    (free-finds xs left (next_bucket (length xs) j) k (omega arith)
    (subst (λ (i : ℕ). get_or xs i 0 ≡ 0) (path-shift (length xs) j k) free)
    (λ i below. subst (λ (b : ℕ). get_or xs b 0 ≢ 0) (path-shift (length xs) j i)
    (taken (suc i) (omega arith)))
    ∙ sym (path-shift (length xs) j k))

-- ---- the number of buckets

doubles : (n : ℕ) → n + 1 ≤ 2 ^ n
doubles zero = lit≤ tt
doubles (suc n) = let h = doubles n in let e : 2 ^ suc n ≡ 2 * 2 ^ n = pow-succ' 2 n in omega arith

enough : (n : ℕ) → 2 * n ≤ 2 ^ (n + 1)
enough n = let h = doubles n in let e : 2 ^ (n + 1) ≡ 2 * 2 ^ n =
    ap (λ (k : ℕ). 2 ^ k) (omega arith) ∙ pow-succ' 2 n in omega arith

module _ (writes : ℕ) where
  is_enough : ℕ → Bool
  is_enough k = nat_le (2 * writes) (2 ^ k)

  exponent : ℕ
  exponent = least_up_to (λ k. nat_le (2 * writes) (2 ^ k)) (writes + 1)

  exponent-found : (k : ℕ) → 1 ≤ k → k ≤ writes + 1 → 2 * writes ≤ 2 ^ k → (1 ≤ exponent)
      × (exponent ≤ k)
  unfolding exponent
  exponent-found k some within enough_k =
      least-found (λ j. nat_le (2 * writes) (2 ^ j)) (writes + 1) k some within
      (le-leb (2 * writes) (2 ^ k) enough_k)

  exponent-some : 1 ≤ exponent
  exponent-some = (exponent-found (writes + 1) (omega arith) (omega arith) (enough writes)).0

  exponent-passes : 2 * writes ≤ 2 ^ exponent
  unfolding exponent
  exponent-passes = let some = exponent-some in
      leb-true (2 * writes) (2 ^ exponent)
      (least-passes (λ j. nat_le (2 * writes) (2 ^ j)) (writes + 1) (λ z. omega arith))

  count-is : bucket_count writes ≡ 2 ^ exponent
  unfolding bucket_count exponent
  count-is = refl

  pub count-twice : 2 * writes ≤ bucket_count writes
  count-twice = let h = exponent-passes in let e = count-is in omega arith

  pub count-two : 2 ≤ bucket_count writes
  count-two = let h : 2 ^ 1 ≤ 2 ^ exponent = pow-le-pow_right (lit≤ tt) exponent-some in
      let e = count-is in omega arith

  pub count-more : writes < bucket_count writes
  count-more = let a = count-twice in let b = count-two in omega arith

  exponent-few : writes ≤ 262144 → exponent ≤ 19
  exponent-few few = elim (dec_le 19 (writes + 1)) [
    | yes le ↦ (exponent-found 19 (omega arith) le (omega arith)).1
    | no gt ↦ let g = lt_of_not-le gt in let h =
        (exponent-found (writes + 1) (omega arith) (omega arith) (enough writes)).1 in omega arith
  ]

  pub count-few : writes ≤ 262144 → bucket_count writes ≤ 524288
  count-few few = let h : 2 ^ exponent ≤ 2 ^ 19 = pow-le-pow_right (lit≤ tt) (exponent-few few) in
      let e = count-is in omega arith

pub start-within : (buckets : ℕ) (name : RowName) → 1 ≤ buckets → start_of buckets name < buckets
unfolding start_of
start-within buckets name some = mod-lt _ (omega arith)

pub buckets_suffice : (writes : ℕ) → BucketsSuffice writes
buckets_suffice writes = let two = count-two writes in record {
  two = two;
  twice = count-twice writes;
  more = count-more writes;
  few = count-few writes;
  start = λ name. start-within (bucket_count writes) name (omega arith);
  next = λ j within. next-within (bucket_count writes) j (omega arith) within;
}

-- ---- the index, write by write

module _ (names : List RowName) where
  start-of_write : (buckets w : ℕ) → 1 ≤ buckets → start_of_write names buckets w < buckets
  unfolding start_of_write
  start-of_write buckets w some = at (name_at names w)
    where
      at : (o : Option RowName) → elim o [ None ↦ 0 | Some name ↦ start_of buckets name ] < buckets
      at None = omega arith
      at (Some name) = start-within buckets name some

  abbrev path_of : ℕ → ℕ → ℕ
  path_of w k = bucket_on_path (bucket_count (length names))
      (start_of_write names (bucket_count (length names)) w) k

  -- the path of w leads to where it is
  record Leads (xs : List ℕ) (w k : ℕ) : Type 0 where
    within : k < bucket_count (length names)
    slot : get_or xs (path_of w k) 0 ≡ w
    before : (i : ℕ) → i < k → get_or xs (path_of w i) 0 < w
    taken : (i : ℕ) → i < k → get_or xs (path_of w i) 0 ≢ 0

  record Filled (n : ℕ) (xs : List ℕ) : Type 0 where
    count : length xs ≡ bucket_count (length names)
    first : (j : ℕ) → get_or xs j 0 ≢ 0 → IsFirstWrite names (get_or xs j 0) × (get_or xs j 0 ≤ n)
    one : (i j : ℕ) → get_or xs i 0 ≡ get_or xs j 0 → get_or xs i 0 ≢ 0 → i ≡ j
    room : bucket_count (length names) ≤ frees xs + n
    path : (w : ℕ) → IsFirstWrite names w → w ≤ n → (k : ℕ) × Leads xs w k

  with-first : (xs : List ℕ) (w : ℕ) → row_of names w ≡ w
      → index_with names xs w ≡ set xs
      (free_from xs (length xs) (start_of_write names (length xs) w)) w
  unfolding index_with
  with-first xs w e = rw (eq-eqb (row_of names w) w e) refl

  with-other : (xs : List ℕ) (w : ℕ) → row_of names w ≢ w → index_with names xs w ≡ xs
  unfolding index_with
  with-other xs w ne = rw (ne_eqb (row_of names w) w ne) refl

  freed : (xs : List ℕ) (buckets : ℕ) → length xs ≡ buckets → (w m : ℕ) → m < buckets
      → get_or xs (bucket_on_path buckets (start_of_write names buckets w) m) 0 ≡ 0
      → ((i : ℕ) → i < m → get_or xs
      (bucket_on_path buckets (start_of_write names buckets w) i) 0 ≢ 0)
      → free_from xs (length xs) (start_of_write names (length xs) w)
      ≡ bucket_on_path buckets (start_of_write names buckets w) m
  freed xs buckets e = subst
      (λ (b : ℕ). (w m : ℕ) → m < b → get_or xs (bucket_on_path b (start_of_write names b w) m) 0
      ≡ 0 → ((i : ℕ) → i < m → get_or xs (bucket_on_path b (start_of_write names b w) i) 0 ≢ 0)
      → free_from xs (length xs) (start_of_write names (length xs) w)
      ≡ bucket_on_path b (start_of_write names b w) m)
      e (λ w m within free taken. free-finds xs (length xs)
      (start_of_write names (length xs) w) m within free taken)

  -- ---- w takes the free bucket j

  module _ (n : ℕ) (xs : List ℕ) (f : Filled n xs) (j : ℕ) (free : get_or xs j 0 ≡ 0)
      (within : j < length xs) where
    abbrev new : List ℕ
    new = set xs j (suc n)

    here : get_or new j 0 ≡ suc n
    here = get_or-set_same xs j (suc n) 0 within

    else : (i : ℕ) → i ≢ j → get_or new i 0 ≡ get_or xs i 0
    else i ne = get_or-set_other xs j i (suc n) 0 ne

    length-new : length new ≡ length xs
    length-new = length-set xs j (suc n)

    frees-new : frees xs ≤ suc (frees new)
    frees-new = frees-set xs j n free

    -- a bucket that was taken stays
    stays : (i : ℕ) → get_or xs i 0 ≢ 0 → get_or new i 0 ≡ get_or xs i 0
    stays i taken = else i (λ same. taken (ap (λ (k : ℕ). get_or xs k 0) same ∙ free))

    leads-still : (w k : ℕ) → 1 ≤ w → Leads xs w k → Leads new w k
    leads-still w k some l = record {
      within = l.within;
      slot = stays (path_of w k) (λ z. let e = l.slot in omega arith) ∙ l.slot;
      before = λ i below. let e = stays (path_of w i) (l.taken i below) in
          let h = l.before i below in omega arith;
      taken = λ i below z. l.taken i below (sym (stays (path_of w i) (l.taken i below)) ∙ z);
    }

    leads-new : (k : ℕ) → k < bucket_count (length names) → path_of (suc n) k ≡ j
        → ((i : ℕ) → i < k → get_or xs (path_of (suc n) i) 0 ≢ 0) → Leads new (suc n) k
    leads-new k below is taken = record {
      within = below;
      slot = ap (λ (i : ℕ). get_or new i 0) is ∙ here;
      before = λ i under. let e = stays (path_of (suc n) i) (taken i under) in
          let h = (f.first (path_of (suc n) i) (taken i under)).1 in omega arith;
      taken = λ i under z. taken i under (sym (stays (path_of (suc n) i) (taken i under)) ∙ z);
    }

    filled-new : IsFirstWrite names (suc n) → (k : ℕ) → k < bucket_count (length names)
        → path_of (suc n) k ≡ j → ((i : ℕ) → i < k → get_or xs (path_of (suc n) i) 0 ≢ 0)
        → Filled (suc n) new
    filled-new is k below at taken = record {
      count = length-new ∙ f.count;
      first = λ i some. dite (ℕ_discrete i j)
          (λ same. let e : get_or new i 0 ≡ suc n = ap (λ (b : ℕ). get_or new b 0) same ∙ here in
          (subst (IsFirstWrite names) (sym e) is, omega arith))
          (λ ne. let e = else i ne in let h = f.first i (λ z. some (e ∙ z)) in
          (subst (IsFirstWrite names) (sym e) h.0, omega (arith, h.1)));
      one = λ i b same some. dite (ℕ_discrete i j)
          (λ i_is. dite (ℕ_discrete b j) (λ b_is. i_is ∙ sym b_is)
          (λ ne. let e : get_or new i 0 ≡ suc n = ap (λ (k : ℕ). get_or new k 0) i_is ∙ here in
          let g = else b ne in let h = (f.first b (λ z. omega arith)).1 in
          absurd (omega arith)))
          (λ ne_i. dite (ℕ_discrete b j)
          (λ b_is. let e : get_or new b 0 ≡ suc n = ap (λ (k : ℕ). get_or new k 0) b_is ∙ here in
          let g = else i ne_i in let h = (f.first i (λ z. omega arith)).1 in
          absurd (omega arith))
          (λ ne_b. let g = else i ne_i in let h = else b ne_b in
          f.one i b (sym g ∙ (same ∙ h)) (λ z. some (g ∙ z))));
      room = let r = f.room in let h = frees-new in omega arith;
      path = λ w first_w small. dite (ℕ_discrete w (suc n))
          (λ same. (k, subst (λ (v : ℕ). Leads new v k) (sym same) (leads-new k below at taken)))
          (λ ne. let l = f.path w first_w (omega arith) in
          (l.0, leads-still w l.0 first_w.write.positive l.1));
    }

  -- one more write
  fills : (n : ℕ) (xs : List ℕ) → suc n ≤ length names → Filled n xs
      → Filled (suc n) (index_with names xs (suc n))
  fills n xs within f = dite (ℕ_discrete (row_of names (suc n)) (suc n))
      (λ e. let is : IsFirstWrite names (suc n) =
      record { write = record { positive = omega arith; within = within }; first = e } in
      let more = count-more (length names) in let room = f.room in
      let z = some_free xs (omega arith) in
      let c = f.count in
      let begins = start-of_write (bucket_count (length names)) (suc n) (omega arith) in
      let met = path-meets (bucket_count (length names))
      (start_of_write names (bucket_count (length names)) (suc n)) z.0 begins
      (omega (arith, z.1)) in
      let m = first_free xs (bucket_count (length names))
      (start_of_write names (bucket_count (length names)) (suc n)) met.0
      (subst (λ (b : ℕ). get_or xs b 0 ≡ 0) (sym met.2) z.2) in
      let under : m.0 < bucket_count (length names) = omega (arith, m.1, met.1) in
      let inside = path-within (bucket_count (length names))
      (start_of_write names (bucket_count (length names)) (suc n)) m.0 (omega arith) begins in
      let j_is = freed xs (bucket_count (length names)) f.count (suc n) m.0 under m.2 m.3 in
      let j : ℕ = free_from xs (length xs) (start_of_write names (length xs) (suc n)) in
      subst (Filled (suc n)) (sym (with-first xs (suc n) e))
      (filled-new n xs f j (subst (λ (b : ℕ). get_or xs b 0 ≡ 0) (sym j_is) m.2)
      (omega arith) is m.0 under (sym j_is) m.3))
      (λ ne. subst (Filled (suc n)) (sym (with-other xs (suc n) ne)) (record {
        count = f.count;
        first = λ j some. let h = f.first j some in (h.0, omega (arith, h.1));
        one = f.one;
        room = let r = f.room in omega arith;
        path = λ w first_w small. dite (ℕ_discrete w (suc n))
            (λ same. absurd (ne (subst (λ (v : ℕ). row_of names v ≡ v) same first_w.first)))
            (λ other. f.path w first_w (omega arith));
      }))

  blank : (j : ℕ) → Dec (bucket_count (length names) ≤ j)
      → ◌≡◌ {A = ℕ} (get_or (replicate (bucket_count (length names)) 0) j 0) 0
  blank j (yes le) =
      let zero_word : ℕ = 0 in
      let e : length (replicate (bucket_count (length names)) zero_word)
      ≡ bucket_count (length names) =
      length-replicate (bucket_count (length names)) zero_word in
      get_or_past (replicate (bucket_count (length names)) zero_word) j 0 (omega arith)
  blank j (no gt) = get_or-replicate (bucket_count (length names)) j 0 0 (lt_of_not-le gt)

  filled : (n : ℕ) → n ≤ length names → Filled n (index_up_to names n)
  unfolding index_up_to
  filled zero within = record {
    count = length-replicate (bucket_count (length names)) 0;
    first = λ j some. absurd (some (blank j (dec_le (bucket_count (length names)) j)));
    one = λ i j e some. absurd (some (blank i (dec_le (bucket_count (length names)) i)));
    room = let e : frees (replicate (bucket_count (length names)) 0) ≡ bucket_count (length names) =
        frees-replicate (bucket_count (length names)) in omega arith;
    path = λ w first_w small. let h = first_w.write.positive in absurd (omega arith);
  }
  filled (suc n) within = fills n (index_up_to names n) within (filled n (omega arith))

  pub rows_are_indexed : RowsAreIndexed names
  unfolding first_in_bucket
  rows_are_indexed =
      let f = filled (length names) (omega arith) in
      let xs = index_up_to names (length names) in
      let two = count-two (length names) in
      record {
        first = λ j within some. (f.first j some).0;
        one = λ i j within_i within_j e some. f.one i j e some;
        path = λ w is. let l = f.path w is is.write.within in (
          l.0,
          record {
            within = l.1.within;
            slot = record {
              within = path-within (bucket_count (length names))
                  (start_of_write names (bucket_count (length names)) w) l.0 (omega arith)
                  (start-of_write (bucket_count (length names)) w (omega arith));
              holds = l.1.slot;
            };
            before = l.1.before;
            taken = l.1.taken;
          },
        );
        ends = λ start within. let more = count-more (length names) in let room = f.room in
            let c = f.count in
            let z = some_free (index_up_to names (length names)) (omega arith) in
            let met = path-meets (bucket_count (length names)) start z.0 within
            (omega (arith, z.1)) in (
              met.0,
              met.1,
              subst (λ (b : ℕ). get_or (index_up_to names (length names)) b 0 ≡ 0)
                  (sym met.2) z.2,
            );
      }
