-- Where the writes of the first transactions end.
use Rattle.std.proofs.Common.{◌≡◌, ◌∙◌, ◌+◌, ◌-◌, ◌≤◌, ◌<◌, ℕ, zero, suc, Bool, true, false, List}
use Rattle.std.proofs.Common.{[], ◌∷◌, length, take, nat_lt, cond, sym, ap, refl, arith, Option}
use Rattle.std.proofs.Common.{Some, None, slice_get, length-append, option_map, true≢false, ◌⊎◌}
use Rattle.std.proofs.Common.{inl, inr}
use Rattle.std.specs.List.{flat_map}
use borrow.Author.Tests.{lt-ltb, le-ltb}
use Rattle.std.proofs.Math.Nat.{eq-or-lt_of_le}
use Rattle.c5_rows.specs.declared.writes.Txn.{Txn}
use Rattle.c5_rows.specs.declared.writes.Write.{Write}
use Rattle.c5_definitions.specs.Searches.{greatest_below}
use Rattle.c5_definitions.specs.WriteNumbers.{end_of, place_below}
use Rattle.c5_frames.specs.declared.index.TxnRef.{TxnRef}
use Rattle.c5_frames.specs.Index.{writes_of}
use Rattle.c5_plan.specs.Searching.{IsBetween}

-- what is said of a transaction whose first write has this number
abbrev ref_of : ℕ → Txn → TxnRef
ref_of first txn =
    record { script = txn.script; stamp = txn.stamp; first = first; count = length txn.writes }

abbrev writes_in : Txn → List Write
writes_in txn = txn.writes

pub end_of-zero : (txns : List Txn) → end_of txns 0 ≡ 0
unfolding end_of
end_of-zero [] = refl
end_of-zero (txn ∷ txns) = refl

end_of-none : (p : ℕ) → end_of [] p ≡ 0
unfolding end_of
end_of-none zero = refl
end_of-none (suc p) = refl

end_of-cons : (txn : Txn) (txns : List Txn) (p : ℕ)
    → end_of (txn ∷ txns) (suc p) ≡ length txn.writes + end_of txns p
unfolding end_of
end_of-cons txn txns p = length-append txn.writes (flat_map writes_in (take p txns))

-- one transaction more
end_of-suc : (txns : List Txn) (p : ℕ) (txn : Txn) → slice_get txns p ≡ Some txn
    → end_of txns (suc p) ≡ end_of txns p + length txn.writes
end_of-suc [] p txn h = cc
end_of-suc (t ∷ txns) zero txn h =
    let is : t ≡ txn = cc in
    let same = ap (λ (x : Txn). length x.writes) is in
    omega (arith, end_of-cons t txns 0, end_of-zero txns, end_of-zero (t ∷ txns))
end_of-suc (t ∷ txns) (suc p) txn h =
    omega (arith, end_of-cons t txns p, end_of-cons t txns (suc p), end_of-suc txns p txn h)

end_of-writes : (txns : List Txn) (p : ℕ) → length (writes_of (take p txns)) ≡ end_of txns p
unfolding end_of
end_of-writes txns p = refl

entry-end : (txns : List Txn) (p q : ℕ) (r : TxnRef) (o : Option Txn) → p ≡ suc q
    → slice_get txns q ≡ o → Some r ≡ option_map (ref_of (length (writes_of (take q txns)) + 1)) o
    → r.first - 1 + r.count ≡ end_of txns p
entry-end txns p q r None e s h = cc
entry-end txns p q r (Some txn) e s h =
    let is : r ≡ ref_of (length (writes_of (take q txns)) + 1) txn = cc in
    let first = ap (λ (x : TxnRef). x.first) is in
    let count = ap (λ (x : TxnRef). x.count) is in
    let same = ap (end_of txns) e in
    omega (arith, end_of-suc txns q txn s, end_of-writes txns q)

-- what is said of the transaction before a place gives its end
pub end_of-entry : (txns : List Txn) (p : ℕ) (r : TxnRef) → 1 ≤ p
    → Some r ≡ option_map (ref_of (length (writes_of (take (p - 1) txns)) + 1))
    (slice_get txns (p - 1)) → r.first - 1 + r.count ≡ end_of txns p
end_of-entry txns p r some h = entry-end txns p (p - 1) r (slice_get txns (p - 1))
    (omega arith) refl h

-- ends don't fall
pub end_of-le : (txns : List Txn) (p q : ℕ) → p ≤ q → end_of txns p ≤ end_of txns q
end_of-le [] p q h = omega (arith, end_of-none p, end_of-none q)
end_of-le (t ∷ txns) zero q h = omega (arith, end_of-zero (t ∷ txns))
end_of-le (t ∷ txns) (suc p) zero h = absurd (omega arith)
end_of-le (t ∷ txns) (suc p) (suc q) h = let rest = end_of-le txns p q (omega arith) in
    omega (arith, end_of-cons t txns p, end_of-cons t txns q)

greatest_step : (test : ℕ → Bool) (n m : ℕ) (b : Bool) → test n ≡ b → (m ≡ n) ⊎ (m < n)
    → test m ≡ true → (m < n → test n ≡ false) → (m < n → greatest_below test n ≡ m)
    → cond b n (greatest_below test n) ≡ m
greatest_step test n m true t (inl e) p r rest = sym e
greatest_step test n m true t (inr less) p r rest = absurd (true≢false (sym t ∙ r less))
greatest_step test n m false t (inl e) p r rest = absurd (true≢false (sym p ∙ ap test e ∙ t))
greatest_step test n m false t (inr less) p r rest = rest less

-- the greatest number below n that passes
greatest_below-is : (test : ℕ → Bool) (n m : ℕ) → m < n → test m ≡ true
    → ((k : ℕ) → m < k → k < n → test k ≡ false) → greatest_below test n ≡ m
greatest_below-is test zero m h p r = absurd (omega arith)
greatest_below-is test (suc n) m h p r =
    greatest_step test n m (test n) refl (eq-or-lt_of_le (omega arith)) p
    (λ less. r n less (omega arith))
    (λ less. greatest_below-is test n m less p (λ k above below. r k above (omega arith)))

pub place_below-is : (txns : List Txn) (least below above : ℕ) → IsBetween txns least below above
    → above ≤ below + 1 → below ≡ place_below txns least
unfolding place_below
place_below-is txns least below above h e =
    let order = h.order in
    let within = h.within in
    sym (greatest_below-is (λ (p : ℕ). nat_lt (end_of txns p) least) (length txns + 1) below
    (omega arith) (lt-ltb (end_of txns below) least h.below_least)
    (λ k after before. le-ltb (end_of txns k) least (h.not_below k (omega arith) (omega arith))))

pub IsBetween-begin : (txns : List Txn) (least : ℕ) → 1 ≤ least
    → IsBetween txns least 0 (length txns + 1)
IsBetween-begin txns least some =
    record {
      order = omega arith;
      within = omega arith;
      below_least = omega (arith, end_of-zero txns);
      not_below =
          λ p above below. absurd (omega arith);
    }

pub IsBetween-above : (txns : List Txn) (least below above middle : ℕ)
    → IsBetween txns least below above → below < middle → middle < above
    → least ≤ end_of txns middle → IsBetween txns least below middle
IsBetween-above txns least below above middle h a b c =
    let within = h.within in
    record {
      order = a;
      within = omega arith;
      below_least = h.below_least;
      not_below = λ p from up_to. omega (arith, c, end_of-le txns middle p from);
    }

pub IsBetween-below : (txns : List Txn) (least below above middle : ℕ)
    → IsBetween txns least below above → middle < above → end_of txns middle < least
    → IsBetween txns least middle above
IsBetween-below txns least below above middle h b c =
    record { order = b; within = h.within; below_least = c; not_below = h.not_below }
