-- The laws of the numbers of writes.
use Rattle.std.proofs.Common.{◌≡◌, ◌≢◌, ℕ, zero, suc, ◌+◌, ◌-◌, ◌*◌, ◌/◌, ◌%◌, ◌<◌, ◌≤◌, Bool, true}
use Rattle.std.proofs.Common.{List, [], ◌∷◌, length, take, Option, Some, None, refl, sym, ap, subst}
use Rattle.std.proofs.Common.{◌∙◌, arith, true≢false, length-append, lt_of_not-le, div-add-mod'}
use Rattle.std.proofs.Common.{mul-le-mul_right, suc-mul}
use Rattle.std.proofs.Math.Nat.{mod-lt, mod-eq_of_lt, add-mod_right}
use Rattle.std.specs.Prelude.{slice_get, nat_lt}
use Rattle.std.specs.List.{flat_map}
use Rattle.std.specs.Ordering.{is_eq}
use Rattle.std.specs.Cmp.{tied_itself}
use Rattle.std.specs.declared.cmp.Ordering.{Ordering}
use Rattle.std.specs.declared.cmp.Ordering.TheVariants.{Less, Equal, Greater}
use Rattle.std.proofs.lemmas.List.{length-map, take_all}
use Rattle.std.proofs.lemmas.Bool.{ltb-true, lt-ltb}
use mathlib.Core.Logic.{dite}
use native.Mathlib.Decide.{dec_le, ℕ_discrete}
use Rattle.c5_rows.specs.Order.{row_name_cmp, row_name_cmp_total, row_name_cmp_exact}
use Rattle.c5_rows.specs.declared.writes.RowName.{RowName}
use Rattle.c5_rows.specs.declared.writes.Write.{Write}
use Rattle.c5_rows.specs.declared.writes.Txn.{Txn}
use Rattle.c5_definitions.specs.Searches.{greatest_below}
use Rattle.c5_definitions.specs.WriteNumbers.{names_in, name_at, are_one, are_on_one_row, row_of}
use Rattle.c5_definitions.specs.WriteNumbers.{last_on_row, predecessor_of, end_of, place_below}
use Rattle.c5_definitions.specs.WriteNumbers.{owner_of, IsWrite, IsFirstWrite}
use Rattle.c5_definitions.specs.NumberLaws.{RowsAreNumbered, IsLastOnRow, PredecessorsAreLast}
use Rattle.c5_definitions.specs.NumberLaws.{PlacesEnd, NumbersAreOwned}
use Rattle.c5_definitions.proofs.SearchLemmas.{greatest-not_above, greatest-passes, greatest-least}
use Rattle.c5_definitions.proofs.SearchLemmas.{least-not_above, least-passes, least-found}

-- ---- names

one_from_eq : (a b : RowName) → is_eq (row_name_cmp a b) ≡ true → a ≡ b
one_from_eq a b e = row_name_cmp_exact a b (equal_from (row_name_cmp a b) e)
  where
    equal_from : (r : Ordering) → is_eq r ≡ true → r ≡ Equal
    equal_from Less e = absurd (true≢false (sym e))
    equal_from Equal e = refl
    equal_from Greater e = absurd (true≢false (sym e))

one_from : (a b : Option RowName) → are_one a b ≡ true → a ≡ b
one_from None b e = absurd (true≢false (sym e))
one_from (Some a) None e = absurd (true≢false (sym e))
one_from (Some a) (Some b) e = ap Some (one_from_eq a b e)

one_itself : (a : Option RowName) (name : RowName) → a ≡ Some name → are_one a a ≡ true
one_itself None name e = absurd (cc)
one_itself (Some a) name e = ap is_eq (tied_itself row_name_cmp_total a)

name_from : (a b : Option RowName) → are_one a b ≡ true → (name : RowName) × (a ≡ Some name)
name_from None b e = absurd (true≢false (sym e))
name_from (Some a) b e = (a, refl)

inside : (names : List RowName) (i : ℕ) (name : RowName) → slice_get names i ≡ Some name
    → i < length names
inside [] i name e = absurd (cc)
inside (n ∷ ns) zero name e = omega arith
inside (n ∷ ns) (suc i) name e = let r = inside ns i name e in omega arith

element : (names : List RowName) (i : ℕ) → i < length names → (name : RowName)
    × (slice_get names i ≡ Some name)
element [] i h = absurd (omega arith)
element (n ∷ ns) zero h = (n, refl)
element (n ∷ ns) (suc i) h = element ns i (omega arith)

module _ (names : List RowName) where
  pub has_name : (w : ℕ) → IsWrite names w → (name : RowName) × (name_at names w ≡ Some name)
  has_name zero is = let h = is.positive in absurd (omega arith)
  has_name (suc i) is = let h = is.within in element names i (omega arith)

  write_from : (w : ℕ) (name : RowName) → name_at names w ≡ Some name → IsWrite names w
  write_from zero name e = absurd (cc)
  write_from (suc i) name e = let h = inside names i name e in
      record { positive = omega arith; within = omega arith }

  on_row : (v w : ℕ) → IsWrite names v → name_at names v ≡ name_at names w
      → are_on_one_row names v w ≡ true
  unfolding are_on_one_row
  on_row v w is e = let n = has_name v is in
      subst (λ (o : Option RowName). are_one (name_at names v) o ≡ true) e
      (one_itself (name_at names v) n.0 n.1)

  same_name : (v w : ℕ) → are_on_one_row names v w ≡ true → name_at names v ≡ name_at names w
  unfolding are_on_one_row
  same_name v w e = one_from (name_at names v) (name_at names w) e

  is_write : (v w : ℕ) → are_on_one_row names v w ≡ true → IsWrite names v
  unfolding are_on_one_row
  is_write v w e = let n = name_from (name_at names v) (name_at names w) e in write_from v n.0 n.1

  -- ---- rows

  on : ℕ → ℕ → Bool
  on w v = are_on_one_row names v w

  row-positive : (w : ℕ) → IsWrite names w → 1 ≤ row_of names w
  unfolding row_of
  row-positive w is =
      (least-found (λ v. are_on_one_row names v w) w w is.positive (omega arith)
      (on_row w w is refl)).0

  row-on : (w : ℕ) → IsWrite names w → are_on_one_row names (row_of names w) w ≡ true
  unfolding row_of
  row-on w is = let p =
      (least-found (λ v. are_on_one_row names v w) w w is.positive (omega arith)
      (on_row w w is refl)).0 in least-passes (λ v. are_on_one_row names v w) w (λ z. omega arith)

  pub row-not_above : (w : ℕ) → row_of names w ≤ w
  unfolding row_of
  row-not_above w = least-not_above (λ v. are_on_one_row names v w) w

  row-least : (v w : ℕ) → 1 ≤ v → v ≤ w → are_on_one_row names v w ≡ true → row_of names w ≤ v
  unfolding row_of
  row-least v w some within e = (least-found (λ u. are_on_one_row names u w) w v some within e).1

  row-write : (w : ℕ) → IsWrite names w → IsWrite names (row_of names w)
  row-write w is = is_write (row_of names w) w (row-on w is)

  row-name : (w : ℕ) → IsWrite names w → name_at names (row_of names w) ≡ name_at names w
  row-name w is = same_name (row_of names w) w (row-on w is)

  -- the row's number is at most each number of the row
  row-at_most : (v w : ℕ) → IsWrite names v → IsWrite names w → name_at names v ≡ name_at names w
      → row_of names w ≤ v
  row-at_most v w is_v is_w e = elim (dec_le v w) [
    | yes le ↦ row-least v w is_v.positive le (on_row v w is_v e)
    | no gt ↦ let h = row-not_above w in let g = lt_of_not-le gt in omega arith
  ]

  pub row-one_row : (v w : ℕ) → IsWrite names v → IsWrite names w
      → name_at names v ≡ name_at names w → row_of names v ≡ row_of names w
  row-one_row v w is_v is_w e =
      let a = row-at_most (row_of names v) w (row-write v is_v) is_w (row-name v is_v ∙ e) in
      let b = row-at_most (row_of names w) v (row-write w is_w) is_v (row-name w is_w ∙ sym e) in
      omega arith

  pub row-first : (w : ℕ) → IsWrite names w → IsFirstWrite names (row_of names w)
  row-first w is =
      record {
        write = row-write w is;
        first = row-one_row (row_of names w) w (row-write w is) is (row-name w is);
      }

  pub row-one_name : (v w : ℕ) → IsWrite names v → IsWrite names w → row_of names v ≡ row_of names w
      → name_at names v ≡ name_at names w
  row-one_name v w is_v is_w e = sym (row-name v is_v) ∙ (ap (name_at names) e ∙ row-name w is_w)

  pub rows_are_numbered : RowsAreNumbered names
  rows_are_numbered = record {
    first = row-first;
    not_above = row-not_above;
    has_name = has_name;
    one_name = row-one_name;
    one_row = row-one_row;
  }

  -- ---- the last number of a row

  pub predecessor-below : (w : ℕ) → IsWrite names w → predecessor_of names w < w
  unfolding predecessor_of
  predecessor-below zero is = let h = is.positive in absurd (omega arith)
  predecessor-below (suc n) is = let h =
      greatest-not_above (λ v. are_on_one_row names v (suc n)) n in omega arith

  predecessor-on : (w : ℕ) → predecessor_of names w ≢ 0
      → are_on_one_row names (predecessor_of names w) w ≡ true
  unfolding predecessor_of
  predecessor-on w some = greatest-passes (λ v. are_on_one_row names v w) w some

  predecessor-greatest : (v w : ℕ) → v < w → are_on_one_row names v w ≡ true
      → v ≤ predecessor_of names w
  unfolding predecessor_of
  predecessor-greatest v w below e = greatest-least (λ u. are_on_one_row names u w) w v below e

  last-within : (row n : ℕ) → last_on_row names row n ≤ n
  unfolding last_on_row
  last-within row n = let e : suc n ≡ n + 1 = omega arith in
      subst (λ (m : ℕ). greatest_below (λ v. are_on_one_row names v row) m ≤ n) e
      (greatest-not_above (λ v. are_on_one_row names v row) n)

  last-on : (row n : ℕ) → last_on_row names row n ≢ 0
      → are_on_one_row names (last_on_row names row n) row ≡ true
  unfolding last_on_row
  last-on row n some = greatest-passes (λ v. are_on_one_row names v row) (n + 1) some

  last-greatest : (row n v : ℕ) → v ≤ n → are_on_one_row names v row ≡ true
      → v ≤ last_on_row names row n
  unfolding last_on_row
  last-greatest row n v within e =
      greatest-least (λ u. are_on_one_row names u row) (n + 1) v (omega arith) e

  pub last_is_last : (row n : ℕ) → IsFirstWrite names row
      → IsLastOnRow names row n (last_on_row names row n)
  last_is_last row n is = record {
    within = last-within row n;
    on_row = λ some. let e = last-on row n some in
        let w = is_write (last_on_row names row n) row e in (
          w,
          row-one_row (last_on_row names row n) row w is.write
              (same_name (last_on_row names row n) row e) ∙ is.first,
        );
    greatest = λ v is_v e within. last-greatest row n v within
        (on_row v row is_v (row-one_name v row is_v is.write (e ∙ sym is.first)));
  }

  pub predecessors_are_last : PredecessorsAreLast names
  predecessors_are_last = record {
    below = predecessor-below;
    on_row = λ w is some. let e = predecessor-on w some in
        let p = is_write (predecessor_of names w) w e in
        (p, row-one_row (predecessor_of names w) w p is (same_name (predecessor_of names w) w e));
    greatest = λ v w is_v is_w e below. predecessor-greatest v w below
        (on_row v w is_v (row-one_name v w is_v is_w e));
    last = last_is_last;
  }

-- ---- places

abbrev written : List Txn → List Write
written txns = flat_map (λ (txn : Txn). txn.writes) txns

ascends : (txns : List Txn) (p q : ℕ) → p ≤ q
    → length (written (take p txns)) ≤ length (written (take q txns))
ascends txns zero q le = omega arith
ascends [] (suc p) zero le = absurd (omega arith)
ascends [] (suc p) (suc q) le = omega arith
ascends (txn ∷ txns) (suc p) zero le = absurd (omega arith)
ascends (txn ∷ txns) (suc p) (suc q) le =
    let h = ascends txns p q (omega arith) in
    omega (
      arith,
      length-append txn.writes (written (take p txns)),
      length-append txn.writes (written (take q txns)),
    )

module _ (txns : List Txn) where
  pub length-names_in : length (names_in txns) ≡ length (written txns)
  unfolding names_in
  length-names_in = length-map (written txns) (λ (w : Write). w.name)

  pub end-none : end_of txns 0 ≡ 0
  unfolding end_of
  end-none = refl

  pub end-ascends : (p q : ℕ) → p ≤ q → end_of txns p ≤ end_of txns q
  unfolding end_of
  end-ascends p q le = ascends txns p q le

  pub end-all : end_of txns (length txns) ≡ length (names_in txns)
  unfolding end_of
  end-all = ap (λ (l : List Txn). length (written l))
      (take_all (length txns) txns (omega arith)) ∙ sym length-names_in

  past : (p : ℕ) → length txns ≤ p → end_of txns p ≡ length (names_in txns)
  unfolding end_of
  past p le = ap (λ (l : List Txn). length (written l)) (take_all p txns le) ∙ sym length-names_in

  pub end-within : (p : ℕ) → end_of txns p ≤ length (names_in txns)
  end-within p = elim (dec_le p (length txns)) [
    | yes le ↦ let a = end-ascends p (length txns) le in let b = end-all in omega arith
    | no gt ↦ let g = lt_of_not-le gt in let e = past p (omega arith) in omega arith
  ]

  is_below : ℕ → ℕ → Bool
  is_below x p = nat_lt (end_of txns p) x

  place-within : (x : ℕ) → place_below txns x ≤ length txns
  unfolding place_below
  place-within x = let e : suc (length txns) ≡ length txns + 1 = omega arith in
      subst (λ (m : ℕ). greatest_below (λ p. nat_lt (end_of txns p) x) m ≤ length txns) e
      (greatest-not_above (λ p. nat_lt (end_of txns p) x) (length txns))

  place-below : (x : ℕ) → 1 ≤ x → end_of txns (place_below txns x) < x
  unfolding place_below
  place-below x some =
      dite (ℕ_discrete (greatest_below (λ p. nat_lt (end_of txns p) x) (length txns + 1)) 0)
      (λ e. let z = ap (end_of txns) e in let n = end-none in omega arith)
      (λ ne. ltb-true
      (end_of txns (greatest_below (λ p. nat_lt (end_of txns p) x) (length txns + 1))) x
      (greatest-passes (λ p. nat_lt (end_of txns p) x) (length txns + 1) ne))

  place-greatest : (x p : ℕ) → p ≤ length txns → end_of txns p < x → p ≤ place_below txns x
  unfolding place_below
  place-greatest x p within below =
      greatest-least (λ q. nat_lt (end_of txns q) x) (length txns + 1) p (omega arith)
      (lt-ltb (end_of txns p) x below)

  pub places_end : PlacesEnd txns
  places_end = record {
    none = end-none;
    all = end-all;
    ascend = end-ascends;
    within = end-within;
    place = place-within;
    below = place-below;
    greatest = place-greatest;
  }

-- ---- owners

further : (x y n : ℕ) → x < y → x * n + n ≤ y * n
further x y n h = let a : suc x * n ≤ y * n = mul-le-mul_right n h in omega (arith, suc-mul x n)

turns : (a b n : ℕ) → a ≤ b → b < a + n → a % n ≡ b % n → Dec (b / n ≤ a / n) → a ≡ b
turns a b n le lt e (yes d) = let m : b / n * n ≤ a / n * n = mul-le-mul_right n d in
    let p = div-add-mod' a n in let q = div-add-mod' b n in
    let x : ℕ = a / n * n in let y : ℕ = b / n * n in let r : ℕ = b % n in
    let p' : x + r ≡ a = ap (λ (k : ℕ). x + k) (sym e) ∙ p in let q' : y + r ≡ b = q in
    let m' : y ≤ x = m in omega arith
turns a b n le lt e (no d) = let m = further (a / n) (b / n) n (lt_of_not-le d) in
    let p = div-add-mod' a n in let q = div-add-mod' b n in
    let x : ℕ = a / n * n in let y : ℕ = b / n * n in let r : ℕ = b % n in
    let p' : x + r ≡ a = ap (λ (k : ℕ). x + k) (sym e) ∙ p in let q' : y + r ≡ b = q in
    let m' : x + n ≤ y = m in absurd (omega arith)

-- two numbers less than n apart, with one remainder, are one number
one_turn : (a b n : ℕ) → a ≤ b → b < a + n → a % n ≡ b % n → a ≡ b
one_turn a b n le lt e = turns a b n le lt e (dec_le (b / n) (a / n))

-- two numbers less than n apart with one remainder are one
apart : (a b n : ℕ) → a < b → a % n ≡ b % n → a + n ≤ b
apart a b n below e = elim (dec_le (a + n) b) [
  | yes le ↦ le
  | no gt ↦ let g = lt_of_not-le gt in let same = one_turn a b n (omega arith) (omega arith) e in
      absurd (omega arith)
]

module _ (workers : ℕ) (some_workers : 1 ≤ workers) where
  owner-some : (w : ℕ) → 1 ≤ owner_of workers w
  unfolding owner_of
  owner-some w = omega arith

  owner-worker : (w : ℕ) → owner_of workers w ≤ workers
  unfolding owner_of
  owner-worker w = let h : (w - 1) % workers < workers = mod-lt (w - 1) (omega arith) in omega arith

  owner-own : (i : ℕ) → 1 ≤ i → i ≤ workers → owner_of workers i ≡ i
  unfolding owner_of
  owner-own i some within = let below : i - 1 < workers = omega arith in
      let e : (i - 1) % workers ≡ i - 1 = mod-eq_of_lt below in omega arith

  owner-next : (w : ℕ) → 1 ≤ w → owner_of workers (w + workers) ≡ owner_of workers w
  unfolding owner_of
  owner-next w some = let e : (w + workers) - 1 ≡ (w - 1) + workers = omega arith in
      ap (λ (n : ℕ). n % workers + 1) e ∙ ap (λ (n : ℕ). n + 1) (add-mod_right (w - 1) workers)

  owner-apart : (v w : ℕ) → 1 ≤ v → v < w → owner_of workers v ≡ owner_of workers w
      → v + workers ≤ w
  unfolding owner_of
  owner-apart v w some below e =
      let same : (v - 1) % workers ≡ (w - 1) % workers = omega arith in
      let h = apart (v - 1) (w - 1) workers (omega arith) same in
      omega arith

  pub numbers_are_owned : NumbersAreOwned workers
  numbers_are_owned = record {
    some = owner-some;
    worker = owner-worker;
    own = owner-own;
    next = owner-next;
    none_between = owner-apart;
  }
