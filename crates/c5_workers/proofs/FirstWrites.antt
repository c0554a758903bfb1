-- The first writes of a log are as many as its rows.
use Rattle.std.proofs.Common.{◌≡◌, ◌∙◌, ◌+◌, ◌≤◌, ◌<◌, ◌++◌, ◌||◌, ℕ, zero, suc, Bool, true, false}
use Rattle.std.proofs.Common.{List, [], ◌∷◌, length, take, cond, Some, slice_get, ap, sym, refl}
use Rattle.std.proofs.Common.{arith, true≢false, take_all}
use borrow.Author.Tests.{eq-eqb, ne_eqb, eqb-true, eqb-false}
use lib.Dec.{eqb}
use Rattle.std.specs.Set.{is_member, unique_keys}
use Rattle.std.proofs.Math.Seq.{take-suc}
use Rattle.std.proofs.lemmas.Option.{slice_get_within, get_or_from_slice_get}
use Rattle.c5_rows.specs.declared.writes.RowName.{RowName}
use Rattle.c5_definitions.specs.WriteNumbers.{name_at, row_of, IsWrite}
use Rattle.c5_definitions.proofs.NumberLemmas.{rows_are_numbered}
use Rattle.c5_definitions.specs.WriteNumbers.{is_same_name, row_count}
use Rattle.c5_plan.proofs.Noting.{same_laws, same_exact}
use Rattle.c5_workers.specs.Scheduling.{first_write_count, RowsAreFirstWrites}

-- one name more
member-append : (xs : List RowName) (x q : RowName) → is_same_name q x ≡ false
    → is_member is_same_name (xs ++ x ∷ []) q ≡ is_member is_same_name xs q
member-append [] x q e = ap (λ (b : Bool). b || false) e
member-append (y ∷ xs) x q e = ap (λ (b : Bool). is_same_name q y || b) (member-append xs x q e)

or_true : (b : Bool) → (b || true) ≡ true
or_true true = refl
or_true false = refl

member-last : (xs : List RowName) (x q : RowName) → is_same_name q x ≡ true
    → is_member is_same_name (xs ++ x ∷ []) q ≡ true
member-last [] x q e = ap (λ (b : Bool). b || false) e
member-last (y ∷ xs) x q e = ap (λ (b : Bool). is_same_name q y || b)
    (member-last xs x q e) ∙ or_true (is_same_name q y)

abbrev count_with : Bool → ℕ → ℕ
count_with b n = cond b n (suc n)

count-append : (xs : List RowName) (x : RowName)
    → row_count (xs ++ x ∷ []) ≡ count_with (is_member is_same_name xs x) (row_count xs)
count-append [] x = refl
count-append (y ∷ xs) x = by (is_same_name y x) refl (is_member is_same_name xs y) refl
    (count-append xs x)
  where
    by : (b : Bool) → is_same_name y x ≡ b → (m : Bool) → is_member is_same_name xs y ≡ m
        → row_count (xs ++ x ∷ []) ≡ count_with (is_member is_same_name xs x) (row_count xs)
        → length (cond (is_member is_same_name (xs ++ x ∷ []) y)
        (unique_keys is_same_name (xs ++ x ∷ [])) (y ∷ unique_keys is_same_name (xs ++ x ∷ [])))
        ≡ count_with (is_same_name x y || is_member is_same_name xs x)
        (length (cond (is_member is_same_name xs y) (unique_keys is_same_name xs)
        (y ∷ unique_keys is_same_name xs)))
    by true e m t h =
        let is : y ≡ x = same_exact y x e in
        (λ i. length
        (cond (member-last xs x y e i) (unique_keys is_same_name (xs ++ x ∷ []))
        (y ∷ unique_keys is_same_name (xs ++ x ∷ []))))
        ∙ h ∙ (λ i. count_with (is_member is_same_name xs (sym is i)) (row_count xs)) ∙ at
        (is_member is_same_name xs y)
        ∙ (λ i. count_with (sym (same_laws.symm x y ∙ e) i || is_member is_same_name xs x)
        (length (cond (is_member is_same_name xs y) (unique_keys is_same_name xs)
        (y ∷ unique_keys is_same_name xs))))
      where
        at : (b : Bool) → count_with b (row_count xs)
            ≡ length (cond b (unique_keys is_same_name xs) (y ∷ unique_keys is_same_name xs))
        at true = refl
        at false = refl
    by false e true t h =
        (λ i. length
        (cond ((member-append xs x y e ∙ t) i) (unique_keys is_same_name (xs ++ x ∷ []))
        (y ∷ unique_keys is_same_name (xs ++ x ∷ []))))
        ∙ h
        ∙ (λ i. count_with (sym (same_laws.symm x y ∙ e) i || is_member is_same_name xs x)
        (length (cond (sym t i) (unique_keys is_same_name xs)
        (y ∷ unique_keys is_same_name xs))))
    by false e false t h =
        (λ i. length
        (cond ((member-append xs x y e ∙ t) i) (unique_keys is_same_name (xs ++ x ∷ []))
        (y ∷ unique_keys is_same_name (xs ++ x ∷ []))))
        ∙ ap suc h ∙ at (is_member is_same_name xs x)
        ∙ (λ i. count_with (sym (same_laws.symm x y ∙ e) i || is_member is_same_name xs x)
        (length (cond (sym t i) (unique_keys is_same_name xs)
        (y ∷ unique_keys is_same_name xs))))
      where
        at : (b : Bool) → suc (count_with b (row_count xs)) ≡ count_with b (suc (row_count xs))
        at true = refl
        at false = refl

-- ---- who is among the names before a place

member_from_at : (xs : List RowName) (i n : ℕ) (x : RowName) → slice_get xs i ≡ Some x → i < n
    → is_member is_same_name (take n xs) x ≡ true
member_from_at [] i n x at less = absurd (cc)
member_from_at (y ∷ xs) i zero x at less = absurd (omega arith)
member_from_at (y ∷ xs) zero (suc n) x at less =
    let is : y ≡ x = cc in
    ap (λ (b : Bool). b || is_member is_same_name (take n xs) x)
    (ap (is_same_name x) is ∙ same_laws.refl x)
member_from_at (y ∷ xs) (suc i) (suc n) x at less =
    ap (λ (b : Bool). is_same_name x y || b) (member_from_at xs i n x at (omega arith)) ∙ or_true
    (is_same_name x y)

record IsAt (xs : List RowName) (n : ℕ) (x : RowName) : Type 0 where
  place : ℕ
  below : place < n
  there : slice_get xs place ≡ Some x

at_from_member : (xs : List RowName) (n : ℕ) (x : RowName)
    → is_member is_same_name (take n xs) x ≡ true → IsAt xs n x
at_from_member [] zero x h = absurd (true≢false (sym h))
at_from_member [] (suc n) x h = absurd (true≢false (sym h))
at_from_member (y ∷ xs) zero x h = absurd (true≢false (sym h))
at_from_member (y ∷ xs) (suc n) x h = by (is_same_name x y) refl (at_from_member xs n x) h
  where
    by : (b : Bool) → is_same_name x y ≡ b
        → (is_member is_same_name (take n xs) x ≡ true → IsAt xs n x)
        → (b || is_member is_same_name (take n xs) x) ≡ true → IsAt (y ∷ xs) (suc n) x
    by true e rest p =
        record { place = 0; below = omega arith; there = ap Some (sym (same_exact x y e)) }
    by false e rest p = let r = rest p in let less = r.below in
        record { place = suc r.place; below = omega arith; there = r.there }

-- ---- the count

module _ (names : List RowName) where
  -- a number is a first write if its name isn't among those before it
  first-new : (n : ℕ) (x : RowName) → IsWrite names (suc n) → slice_get names n ≡ Some x
      → (b : Bool) → is_member is_same_name (take n names) x ≡ b
      → cond (eqb (row_of names (suc n)) (suc n)) (first_write_count names n + 1)
      (first_write_count names n) ≡ count_with b (first_write_count names n)
  first-new n x write at true e =
      let r = at_from_member names n x e in
      let less = r.below in
      let within = slice_get_within names r.place x r.there in
      let other : IsWrite names (suc r.place) =
      record { positive = omega arith; within = omega arith } in
      let numbered = rows_are_numbered names in
      let one = numbered.one_row (suc r.place) (suc n) other write (r.there ∙ sym at) in
      let low = numbered.not_above (suc r.place) in
      (λ i. cond (ne_eqb (row_of names (suc n)) (suc n) (λ q. omega arith) i)
      (first_write_count names n + 1) (first_write_count names n))
  first-new n x write at false e =
      let numbered = rows_are_numbered names in
      let low = numbered.not_above (suc n) in
      let first = numbered.first (suc n) write in
      let its_name : name_at names (row_of names (suc n)) ≡ Some x =
      numbered.one_name (row_of names (suc n)) (suc n) first.write write first.first ∙ at in
      (λ i. cond
      (eq-eqb (row_of names (suc n)) (suc n) (last (row_of names (suc n)) its_name low) i)
      (first_write_count names n + 1) (first_write_count names n))
      ∙ (let q : first_write_count names n + 1 ≡ suc (first_write_count names n) = omega arith in q)
    where
      last : (r : ℕ) → name_at names r ≡ Some x → r ≤ suc n → r ≡ suc n
      last zero h low = absurd (cc)
      last (suc r) h low = by (eqb r n) refl
        where
          by : (b : Bool) → eqb r n ≡ b → suc r ≡ suc n
          by true t = ap suc (eqb-true r n t)
          by false t =
              absurd (true≢false
              (sym (member_from_at names r n x h (let d = eqb-false r n t in omega arith)) ∙ e))

  counted : (n : ℕ) → n ≤ length names → first_write_count names n ≡ row_count (take n names)
  counted zero le = refl
  counted (suc n) le =
      let write : IsWrite names (suc n) = record { positive = omega arith; within = le } in
      let name_is = (rows_are_numbered names).has_name (suc n) write in
      let more : take (suc n) names ≡ take n names ++ name_is.0 ∷ [] =
      take-suc names n name_is.0 (omega arith) ∙ ap (λ (m : RowName). take n names ++ m ∷ [])
      (get_or_from_slice_get names n name_is.0 name_is.0 name_is.1) in
      first-new n name_is.0 write name_is.1 (is_member is_same_name (take n names) name_is.0) refl
      ∙ ap (count_with (is_member is_same_name (take n names) name_is.0)) (counted n (omega arith))
      ∙ sym (count-append (take n names) name_is.0) ∙ ap row_count (sym more)

pub rows_are_first_writes : RowsAreFirstWrites
rows_are_first_writes names = counted names (length names) (omega arith) ∙ ap row_count
    (take_all (length names) names (omega arith))
