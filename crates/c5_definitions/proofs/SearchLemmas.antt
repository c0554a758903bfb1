-- What the two searches find.
use Rattle.std.proofs.Common.{◌≡◌, ◌≢◌, ℕ, zero, suc, ◌<◌, ◌≤◌, Bool, true, false, cond, refl, sym}
use Rattle.std.proofs.Common.{subst, ◌∙◌, arith, true≢false}
use mathlib.Core.Logic.{dite}
use native.Mathlib.Decide.{ℕ_discrete}
use Rattle.c5_definitions.specs.Searches.{greatest_below, first_positive, least_up_to}

pub not_both : (b : Bool) → b ≡ true → b ≡ false → ⊥
not_both b p q = true≢false (sym p ∙ q)

module _ (test : ℕ → Bool) where
  -- ---- the greatest number, one step on

  step-not_above : (n g : ℕ) (b : Bool) → g ≤ n → cond b n g ≤ n
  step-not_above n g true h = omega arith
  step-not_above n g false h = h

  greatest-within : (n : ℕ) → greatest_below test n ≤ n
  greatest-within zero = omega arith
  greatest-within (suc n) = let h =
      step-not_above n (greatest_below test n) (test n) (greatest-within n) in omega arith

  pub greatest-not_above : (n : ℕ) → greatest_below test (suc n) ≤ n
  greatest-not_above n = step-not_above n (greatest_below test n) (test n) (greatest-within n)

  step-passes : (n g : ℕ) (b : Bool) → test n ≡ b → (g ≢ 0 → test g ≡ true) → cond b n g ≢ 0
      → test (cond b n g) ≡ true
  step-passes n g true e h some = e
  step-passes n g false e h some = h some

  pub greatest-passes : (n : ℕ) → greatest_below test n ≢ 0 → test (greatest_below test n) ≡ true
  greatest-passes zero some = absurd (some refl)
  greatest-passes (suc n) some =
      step-passes n (greatest_below test n) (test n) refl (greatest-passes n) some

  step-greatest : (n g k : ℕ) (b : Bool) → test n ≡ b → k < suc n → test k ≡ true → (k < n → k ≤ g)
      → k ≤ cond b n g
  step-greatest n g k true e below passes h = omega arith
  step-greatest n g k false e below passes h = dite (ℕ_discrete k n)
      (λ same. absurd (not_both (test n) (subst (λ (m : ℕ). test m ≡ true) same passes) e))
      (λ other. h (omega arith))

  pub greatest-least : (n k : ℕ) → k < n → test k ≡ true → k ≤ greatest_below test n
  greatest-least zero k below passes = absurd (omega arith)
  greatest-least (suc n) k below passes =
      step-greatest n (greatest_below test n) k (test n) refl below passes
      (λ h. greatest-least n k h passes)

  -- ---- the least number, one step on

  then-not_above : (n m : ℕ) (b : Bool) → m ≤ n → first_positive m (cond b (suc n) 0) ≤ suc n
  then-not_above n zero true h = omega arith
  then-not_above n zero false h = omega arith
  then-not_above n (suc m) b h = omega arith

  pub least-not_above : (n : ℕ) → least_up_to test n ≤ n
  least-not_above zero = omega arith
  least-not_above (suc n) = then-not_above n (least_up_to test n) (test (suc n)) (least-not_above n)

  then-passes : (n m : ℕ) (b : Bool) → test (suc n) ≡ b → (m ≢ 0 → test m ≡ true)
      → first_positive m (cond b (suc n) 0) ≢ 0 → test (first_positive m (cond b (suc n) 0)) ≡ true
  then-passes n zero true e h some = e
  then-passes n zero false e h some = absurd (some refl)
  then-passes n (suc m) b e h some = h some

  pub least-passes : (n : ℕ) → least_up_to test n ≢ 0 → test (least_up_to test n) ≡ true
  least-passes zero some = absurd (some refl)
  least-passes (suc n) some = then-passes n (least_up_to test n) (test (suc n)) refl
      (least-passes n) some

  then-least : (n m k : ℕ) (b : Bool) → test (suc n) ≡ b → 1 ≤ k → k ≤ suc n → test k ≡ true → m ≤ n
      → (k ≤ n → (1 ≤ m) × (m ≤ k))
      → (1 ≤ first_positive m (cond b (suc n) 0)) × (first_positive m (cond b (suc n) 0) ≤ k)
  then-least n zero k true e some within passes small h = dite (ℕ_discrete k (suc n))
      (λ same. (omega arith, omega arith))
      (λ other. let q = h (omega arith) in absurd (omega arith))
  then-least n zero k false e some within passes small h = dite (ℕ_discrete k (suc n))
      (λ same. absurd (not_both (test (suc n)) (subst (λ (m : ℕ). test m ≡ true) same passes) e))
      (λ other. let q = h (omega arith) in absurd (omega arith))
  then-least n (suc m) k b e some within passes small h = dite (ℕ_discrete k (suc n))
      (λ same. (omega arith, omega arith))
      (λ other. h (omega arith))

  pub least-found : (n k : ℕ) → 1 ≤ k → k ≤ n → test k ≡ true → (1 ≤ least_up_to test n)
      × (least_up_to test n ≤ k)
  least-found zero k some within passes = absurd (omega arith)
  least-found (suc n) k some within passes =
      then-least n (least_up_to test n) k (test (suc n)) refl some within passes (least-not_above n)
      (λ below. least-found n k some below passes)
