-- The order of the names of rows: by table number, then by the bytes of the key.
use Rattle.std.specs.Prelude.{◌≡◌, ℕ, List, refl}
use Rattle.std.specs.declared.cmp.Ordering.{Ordering}
use Rattle.std.specs.Ordering.{nat_cmp, ordering_then}
use Rattle.std.specs.Cmp.{IsTotalOrder, nat_cmp_total}
use Rattle.std.specs.Cmp.Lexicographic.{slice_cmp, nat_list_cmp_total}
use Rattle.std.specs.Coded.{Coded, code_by, coded×, coded_list, coded_ℕ}
use Rattle.std.specs.FinMap.{slice_cmp-IsAntisymmetric, nat_cmp-IsAntisymmetric}
use Rattle.std.proofs.Common.{ap, Equal}
use Rattle.std.proofs.lemmas.Cmp.{on_total, then_total}
use Rattle.std.proofs.lemmas.Map.Lookups.{exact_pairs, exact_unsigned}
use Rattle.c5_rows.specs.declared.writes.RowName.{RowName}

-- by table, and then by key; a proper prefix comes first
abbrev pub row_name_cmp : RowName → RowName → Ordering
row_name_cmp a b = ordering_then (nat_cmp a.table b.table) (slice_cmp nat_cmp a.key b.key)

-- as a number and bytes
abbrev pub coded_row_name : Coded RowName
coded_row_name = code_by (ℕ × List ℕ) (coded× coded_ℕ (coded_list coded_ℕ)) (λ n. (n.table, n.key))
    (λ p. record { table = p.0; key = p.1 }) (λ _. refl)

pub row_name_cmp_total : IsTotalOrder row_name_cmp
row_name_cmp_total = then_total (on_total (λ n. n.table) nat_cmp_total)
    (on_total (λ n. n.key) nat_list_cmp_total)

-- names that compare alike are one
pub row_name_cmp_exact : (a b : RowName) → row_name_cmp a b ≡ Equal → a ≡ b
row_name_cmp_exact a b h = ap (λ (p : ℕ × List ℕ). record { table = p.0; key = p.1 })
    (exact_pairs nat_cmp (slice_cmp nat_cmp) exact_unsigned
    (slice_cmp-IsAntisymmetric nat_cmp-IsAntisymmetric) (a.table, a.key) (b.table, b.key) h)
