-- Two lists of the same distinct numbers, and the serial run that the transactions of all bodies
-- are.
use Rattle.std.proofs.Common.{◌≡◌, ◌<◌, ◌≤◌, ◌+◌, ◌||◌, ℕ, zero, suc, Bool, true, false, cond, eqb}
use Rattle.std.proofs.Common.{true≢false, List, [], ◌∷◌, length, map, Option, Some, None, IsSome}
use Rattle.std.proofs.Common.{refl, ap, sym, subst, ◌∙◌, arith}
use Rattle.std.specs.List.{All, AllByRecursion, IsDistinct, list_any, range_with_len}
use Rattle.std.specs.List.Sorted.{IsPermutation}
use Rattle.std.specs.Cmp.{both_ways}
use Rattle.std.proofs.lemmas.Bool.{eqb-true, eq-eqb, ne_eqb, ltb-true}
use Rattle.std.proofs.lemmas.List.Elements.{All-head, All-tail}
use Rattle.std.proofs.lemmas.List.Sorted.{IsPermutation-refl, IsPermutation-sym}
use Rattle.std.proofs.lemmas.List.Sorted.{IsPermutation-trans, IsPermutation-cons}
use Rattle.std.proofs.lemmas.List.Sorted.{IsPermutation-middle, list_any-IsPermutation}
use Rattle.std.proofs.lemmas.Map.Keys.{IsDistinct-IsPermutation}
use Rattle.c5_rows.specs.declared.writes.Txn.{Txn}
use Rattle.c5_rows.specs.Numbers.{is_among}
use Rattle.c5_definitions.specs.declared.history.OrderBase.{OrderBase}
use Rattle.c5_definitions.specs.OrderLog.{committed_stamp, IsStampOrderRun}
use Rattle.c5_definitions.specs.Lawful.{StampsRise}
use Rattle.c5_definitions.specs.SerialRun.{script_numbers, SerialRun}

-- ---- the same distinct numbers

flipped : (m n : ℕ) → eqb m n ≡ eqb n m
flipped m n = both_ways (eqb m n) (eqb n m) (λ e. eq-eqb n m (sym (eqb-true m n e)))
    (λ e. eq-eqb m n (sym (eqb-true n m e)))

to_front : (n : ℕ) (ns : List ℕ) → is_among n ns ≡ true → (rest : List ℕ)
    × IsPermutation ns (n ∷ rest)
to_front n [] e = absurd cc
to_front n (m ∷ ns) e = by (eqb n m) refl e (to_front n ns)
  where
    by : (b : Bool) → eqb n m ≡ b → (b || is_among n ns) ≡ true
        → (is_among n ns ≡ true → (rest : List ℕ) × IsPermutation ns (n ∷ rest)) → (rest : List ℕ)
        × IsPermutation (m ∷ ns) (n ∷ rest)
    by true is there rest = (
      ns,
      subst (λ k. IsPermutation (m ∷ ns) (k ∷ ns)) (sym (eqb-true n m is))
          (IsPermutation-refl (m ∷ ns)),
    )
    by false is there rest =
        let r = rest there in (
          m ∷ r.0,
          IsPermutation-trans (m ∷ ns) (m ∷ n ∷ r.0) (n ∷ m ∷ r.0)
              (IsPermutation-cons m ns (n ∷ r.0) r.1) (IsPermutation-middle (m ∷ []) n r.0),
        )

same-rest : (n m : ℕ) (ns ms : List ℕ) → is_among m ns ≡ false → is_among m ms ≡ false
    → is_among n (m ∷ ns) ≡ is_among n (m ∷ ms) → is_among n ns ≡ is_among n ms
same-rest n m ns ms none gone same = by (eqb n m) refl same
  where
    by : (b : Bool) → eqb n m ≡ b → (b || is_among n ns) ≡ (b || is_among n ms)
        → is_among n ns ≡ is_among n ms
    by true is e = ap (λ k. is_among k ns) (eqb-true n m is) ∙ none ∙ sym
        (ap (λ k. is_among k ms) (eqb-true n m is) ∙ gone)
    by false is e = e

abbrev AreOthers : ℕ → List ℕ → Type 0
AreOthers n ns = AllByRecursion (λ m. eqb n m ≡ false) ns

others-none : (n : ℕ) (ns : List ℕ) → AreOthers n ns → is_among n ns ≡ false
others-none n [] all = refl
others-none n (m ∷ ns) all = rw all.0 (others-none n ns all.1)

none-others : (n : ℕ) (ns : List ℕ) → is_among n ns ≡ false → AreOthers n ns
none-others n [] none = tt
none-others n (m ∷ ns) none = by (eqb n m) refl none (none-others n ns)
  where
    by : (b : Bool) → eqb n m ≡ b → (b || is_among n ns) ≡ false
        → (is_among n ns ≡ false → AreOthers n ns) → AreOthers n (m ∷ ns)
    by true is none rest = absurd cc
    by false is none rest = (is, rest none)

first-apart : (n : ℕ) (ns : List ℕ) → IsDistinct eqb (n ∷ ns) → is_among n ns ≡ false
unfolding IsDistinct
first-apart n ns distinct = others-none n ns distinct.0

rest-apart : (n : ℕ) (ns : List ℕ) → IsDistinct eqb (n ∷ ns) → IsDistinct eqb ns
unfolding IsDistinct
rest-apart n ns distinct = distinct.1

none-apart : IsDistinct {K = ℕ} eqb []
unfolding IsDistinct
none-apart = tt

one-more-apart : (n : ℕ) (ns : List ℕ) → is_among n ns ≡ false → IsDistinct eqb ns
    → IsDistinct eqb (n ∷ ns)
unfolding IsDistinct
one-more-apart n ns none distinct = (none-others n ns none, distinct)

pub shuffled : (ns ms : List ℕ) → IsDistinct eqb ns → IsDistinct eqb ms
    → ((n : ℕ) → is_among n ns ≡ is_among n ms) → IsPermutation ns ms
shuffled [] [] dn dm same = IsPermutation-refl []
shuffled [] (m ∷ ms) dn dm same =
    let there : is_among m (m ∷ ms) ≡ true = rw (eq-eqb m m refl) refl in
    absurd (true≢false (sym there ∙ sym (same m)))
shuffled (n ∷ ns) ms dn dm same =
    let here : is_among n (n ∷ ns) ≡ true = rw (eq-eqb n n refl) refl in
    let f = to_front n ms (sym (same n) ∙ here) in
    let d : IsDistinct eqb (n ∷ f.0) = IsDistinct-IsPermutation eqb flipped ms (n ∷ f.0) f.1 dm in
    let rest = shuffled ns f.0 (rest-apart n ns dn) (rest-apart n f.0 d)
    (λ k. same-rest k n ns f.0 (first-apart n ns dn) (first-apart n f.0 d)
    (same k ∙ list_any-IsPermutation (λ m. eqb k m) ms (n ∷ f.0) f.1)) in
    IsPermutation-trans (n ∷ ns) (n ∷ f.0) ms (IsPermutation-cons n ns f.0 rest)
    (IsPermutation-sym ms (n ∷ f.0) f.1)

-- ---- the numbers of bodies

range-low : (n from len : ℕ) → n < from → is_among n (range_with_len from len) ≡ false
range-low n from zero lt = refl
range-low n from (suc len) lt =
    rw (ne_eqb n from (λ e. omega (arith, e))) (range-low n (from + 1) len (omega arith))

range-distinct : (from len : ℕ) → IsDistinct eqb (range_with_len from len)
range-distinct from zero = none-apart
range-distinct from (suc len) =
    one-more-apart from (range_with_len (from + 1) len)
    (range-low from (from + 1) len (omega arith)) (range-distinct (from + 1) len)

range-within : (n from len : ℕ) → is_among n (range_with_len from len) ≡ true → n < from + len
range-within n from zero e = absurd cc
range-within n from (suc len) e = by (eqb n from) refl e (range-within n (from + 1) len)
  where
    by : (b : Bool) → eqb n from ≡ b → (b || is_among n (range_with_len (from + 1) len)) ≡ true
        → (is_among n (range_with_len (from + 1) len) ≡ true → n < from + 1 + len)
        → n < from + suc len
    by true is there rest = let same = eqb-true n from is in omega (arith, same)
    by false is there rest = let lt = rest there in omega (arith, lt)

range-has : (n from len : ℕ) → from ≤ n → n < from + len
    → is_among n (range_with_len from len) ≡ true
range-has n from zero low lt = absurd (omega arith)
range-has n from (suc len) low lt = by (eqb n from) refl (range-has n (from + 1) len)
  where
    above : eqb n from ≡ false → from + 1 ≤ n
    above is = let ne : n ≡ from → ⊥ = λ e. true≢false (sym (eq-eqb n from e) ∙ is) in
        omega (arith, ne)

    by : (b : Bool) → eqb n from ≡ b
        → (from + 1 ≤ n → n < from + 1 + len → is_among n (range_with_len (from + 1) len) ≡ true)
        → (eqb n from || is_among n (range_with_len (from + 1) len)) ≡ true
    by true is rest = rw is refl
    by false is rest = rw is (rest (above is) (omega arith))

-- ---- committed bodies

committed-among : (n : ℕ) (txns : List Txn) → IsSome (committed_stamp n txns)
    → is_among n (script_numbers txns) ≡ true
committed-among n [] some = absurd (true≢false (sym some))
committed-among n (t ∷ ts) some = by (eqb t.script n) refl some (committed-among n ts)
  where
    by : (b : Bool) → eqb t.script n ≡ b → IsSome (cond b (Some t.stamp) (committed_stamp n ts))
        → (IsSome (committed_stamp n ts) → is_among n (script_numbers ts) ≡ true)
        → (eqb n t.script || is_among n (script_numbers ts)) ≡ true
    by true is some rest = rw (flipped n t.script ∙ is) refl
    by false is some rest = rw (flipped n t.script ∙ is) (rest some)

among-known : (n count : ℕ) (txns : List Txn) → All (λ t. t.script < count) txns
    → is_among n (script_numbers txns) ≡ true → n < count
among-known n count [] known e = absurd cc
among-known n count (t ∷ ts) known e =
    by (eqb n t.script) refl e
    (among-known n count ts (All-tail (λ (t : Txn). t.script < count) t ts known))
  where
    by : (b : Bool) → eqb n t.script ≡ b → (b || is_among n (script_numbers ts)) ≡ true
        → (is_among n (script_numbers ts) ≡ true → n < count) → n < count
    by true is there rest = let lt = All-head (λ (t : Txn). t.script < count) t ts known in
        let same = eqb-true n t.script is in omega (arith, lt, same)
    by false is there rest = rest there

-- once every body is committed, the committed transactions are a serial run
pub serial-of : (base : OrderBase) (txns : List Txn) → base.last ≡ 0 → IsStampOrderRun base txns
    → ((n : ℕ) → n < length base.bodies → IsSome (committed_stamp n txns))
    → SerialRun base.bodies base.start txns
serial-of base txns first run all =
    let numbers = range_with_len 0 (length base.bodies) in
    record {
      each_once = shuffled numbers (script_numbers txns)
          (range-distinct 0 (length base.bodies)) run.once
          (λ n. both_ways (is_among n numbers) (is_among n (script_numbers txns))
          (λ e. committed-among n txns
          (all n (let lt = range-within n 0 (length base.bodies) e in omega (arith, lt))))
          (λ e. range-has n 0 (length base.bodies) (omega arith)
          (let lt = among-known n (length base.bodies) txns run.known e in omega (arith, lt))));
      stamps = subst (λ last. StampsRise last txns) first run.stamps;
      alike = run.alike;
    }
