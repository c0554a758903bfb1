-- A write that goes to the end of others.
use Rattle.std.proofs.Common.{◌≡◌, ◌<◌, ◌+◌, ℕ, zero, suc, List, [], ◌∷◌, ◌++◌, length, take, drop}
use Rattle.std.proofs.Common.{get_or, Less, Equal, Greater, refl, ap, sym, subst, ◌∙◌, arith}
use Rattle.std.proofs.Common.{length-append}
use Rattle.std.specs.Ordering.{ordering_reverse}
use Rattle.std.proofs.Math.Seq.{drop-cons}
use Rattle.std.proofs.lemmas.List.{take-append-drop, take_more}
use Rattle.c5_rows.specs.declared.writes.RowName.{RowName}
use Rattle.c5_rows.specs.declared.writes.Write.{Write}
use Rattle.c5_rows.specs.Order.{row_name_cmp, row_name_cmp_total}
use Rattle.c5_rows.specs.Writes.{IsBelowFirst, IsAscending, put_write}
use Rattle.c5_rows.proofs.WriteLemmas.{first_below}

at-seam : (xs : List Write) (w d : Write) (rest : List Write)
    → get_or (xs ++ w ∷ rest) (length xs) d ≡ w
at-seam [] w d rest = refl
at-seam (x ∷ xs) w d rest = at-seam xs w d rest

put-end : (xs : List Write) (w : Write) (rest : List Write) → IsAscending (xs ++ w ∷ rest)
    → put_write w xs ≡ xs ++ w ∷ []
put-end [] w rest up = refl
put-end (x ∷ xs) w rest up =
    let less : row_name_cmp x.name w.name ≡ Less =
    ap (λ (v : Write). row_name_cmp x.name v.name)
    (sym (at-seam xs w w rest)) ∙ first_below x.name (xs ++ w ∷ rest) up.0 up.1 (length xs) w
    (omega (arith, length-append xs (w ∷ rest))) in
    let greater : row_name_cmp w.name x.name ≡ Greater =
    row_name_cmp_total.antisymm w.name x.name ∙ ap ordering_reverse less in
    rw greater (ap (λ ys. x ∷ ys) (put-end xs w rest up.1))

-- the next of the writes goes to the end of those before it
pub put-next : (ws : List Write) (i : ℕ) (w : Write) → i < length ws → w ≡ get_or ws i w
    → IsAscending ws → put_write w (take i ws) ≡ take (i + 1) ws
put-next ws i w lt is up =
    let split : ws ≡ take i ws ++ w ∷ drop (suc i) ws =
    sym (take-append-drop i ws) ∙ ap (λ xs. take i ws ++ xs)
    (drop-cons ws i w lt ∙ ap (λ v. v ∷ drop (suc i) ws) (sym is)) in
    put-end (take i ws) w (drop (suc i) ws) (subst IsAscending split up) ∙ ap
    (λ v. take i ws ++ v ∷ []) is ∙ sym (take_more ws i w lt)
