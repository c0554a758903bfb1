-- Small amounts as numbers with a sign.
use Rattle.std.proofs.Common.{◌≡◌, ℕ, zero, suc, ◌≤◌, pos, neg_ℤ, ◌-ℤ◌, FitsSigned, to_z, of_z, w64}
use Rattle.std.proofs.Common.{ap, ◌∙◌, arith}
use Rattle.std.proofs.Math.IntN.{+ℤ_idl}
use Rattle.std.proofs.lemmas.Int.{to_z-of_z, to_z_pos}

pub amount-is : (a : ℕ) → a ≤ 100 → to_z w64 a ≡ pos a
amount-is a le = to_z_pos w64 a (omega arith)

less-fits : (a : ℕ) → a ≤ 100 → FitsSigned w64 (neg_ℤ (pos a))
less-fits zero le = record { sfits = omega arith }
less-fits (suc n) le = record { sfits = omega arith }

pub less-is : (a : ℕ) → a ≤ 100
    → to_z w64 (of_z w64 (pos 0 -ℤ to_z w64 a)) ≡ neg_ℤ (pos a)
less-is a le =
    ap (λ z. to_z w64 (of_z w64 (pos 0 -ℤ z))) (amount-is a le)
    ∙ ap (λ z. to_z w64 (of_z w64 z)) (+ℤ_idl (neg_ℤ (pos a)))
    ∙ to_z-of_z w64 (neg_ℤ (pos a)) (less-fits a le)
