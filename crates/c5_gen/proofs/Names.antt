-- The names of accounts ascend with their numbers.
use Rattle.std.proofs.Common.{◌≡◌, ◌≢◌, ℕ, ◌+◌, ◌*◌, ◌/◌, ◌%◌, ◌<◌, ◌≤◌, ◌⊎◌, inl, inr, false}
use Rattle.std.proofs.Common.{Ordering}
use Rattle.std.proofs.Common.{Less, Equal, Greater, sym, ap, ◌∙◌, arith}
use Rattle.std.specs.Ordering.{nat_cmp, ordering_then, ordering_reverse, eq_by_cmp, is_eq}
use Rattle.std.specs.Cmp.{nat_cmp_is, tied_itself}
use Rattle.std.proofs.lemmas.Bool.{cases_lt}
use Rattle.c5_rows.specs.Order.{row_name_cmp, row_name_cmp_total}
use Rattle.c5_definitions.specs.Generated.{account}

less : (a b : ℕ) → a < b → nat_cmp a b ≡ Less
less a b lt = sym (nat_cmp_is a b Less lt)

same : (a b : ℕ) → a ≡ b → nat_cmp a b ≡ Equal
same a b e = sym (nat_cmp_is a b Equal e)

-- the order of two digits each
abbrev digits_cmp : ℕ → ℕ → ℕ → ℕ → Ordering
digits_cmp a b c d =
    ordering_then (nat_cmp (48 + a) (48 + b)) (ordering_then (nat_cmp (48 + c) (48 + d)) Equal)

digits-less : (a b c d : ℕ) → (a < b) ⊎ (b ≤ a) → a * 10 + c < b * 10 + d → c < 10 → d < 10
    → digits_cmp a b c d ≡ Less
digits-less a b c d (inl lt) below small few =
    ap (λ o. ordering_then o (ordering_then (nat_cmp (48 + c) (48 + d)) Equal))
    (less (48 + a) (48 + b) (omega arith))
digits-less a b c d (inr le) below small few =
    ap (λ o. ordering_then o (ordering_then (nat_cmp (48 + c) (48 + d)) Equal))
    (same (48 + a) (48 + b) (omega arith))
    ∙ ap (λ o. ordering_then o Equal) (less (48 + c) (48 + d) (omega arith))

pub account-below : (i j : ℕ) → i < j → row_name_cmp (account i) (account j) ≡ Less
account-below i j lt =
    digits-less (i / 10) (j / 10) (i % 10) (j % 10) (cases_lt (i / 10) (j / 10)) (omega arith)
    (omega arith) (omega arith)

pub account-above : (i j : ℕ) → j < i → row_name_cmp (account i) (account j) ≡ Greater
account-above i j lt =
    row_name_cmp_total.antisymm (account i) (account j) ∙ ap ordering_reverse (account-below j i lt)

pub account-itself : (i j : ℕ) → i ≡ j → row_name_cmp (account i) (account j) ≡ Equal
account-itself i j e =
    ap (λ k. row_name_cmp (account i) (account k)) (sym e)
    ∙ tied_itself row_name_cmp_total (account i)

apart : (i j : ℕ) → (i < j) ⊎ (j ≤ i) → i ≢ j
    → eq_by_cmp row_name_cmp (account i) (account j) ≡ false
apart i j (inl lt) ne = ap is_eq (account-below i j lt)
apart i j (inr le) ne = ap is_eq (account-above i j (omega arith))

pub account-apart : (i j : ℕ) → i ≢ j → eq_by_cmp row_name_cmp (account i) (account j) ≡ false
account-apart i j ne = apart i j (cases_lt i j) ne
