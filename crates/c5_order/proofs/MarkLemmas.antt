-- The order of versions, and what a map notes of them.
use Rattle.std.proofs.Common.{◌≡◌, ◌<◌, ◌≤◌, ◌+◌, ◌-◌, ◌⊎◌, ℕ, zero, suc, Bool, true, false, cond}
use Rattle.std.proofs.Common.{◌&&◌, max, eqb, List, [], ◌∷◌, ◌++◌, length, drop, take, length-drop}
use Rattle.std.proofs.Common.{get_or, Option, Some, None, IsSome, is_some, Ordering, Less, Equal}
use Rattle.std.proofs.Common.{Greater, inl, inr, refl, ap, sym, subst, ◌∙◌, arith}
use Rattle.std.specs.Option.{unwrap_or}
use Rattle.std.specs.Ordering.{nat_cmp, ordering_then, ordering_reverse, is_gt, is_lt, is_eq}
use Rattle.std.specs.Ordering.{eq_by_cmp}
use Rattle.std.specs.Cmp.{IsTotalOrder, both_ways, nat_cmp_total, nat_cmp_is, tied_itself}
use Rattle.std.specs.FinMap.{nat_cmp-IsAntisymmetric}
use Rattle.std.specs.BTreeMap.{BTreeMap, get, is_at}
use Rattle.std.specs.BTreeMap.Range.{IsRangeOf, IsInRange}
use Rattle.std.specs.declared.ops.Bound.TheVariants.{Included, Excluded}
use Rattle.std.proofs.lemmas.Bool.{cases_order, cases_Bool, and_parts, eqb-true, eq-eqb}
use Rattle.std.proofs.Math.Seq.{drop-cons}
use Rattle.std.proofs.lemmas.List.{take_all}
use Rattle.std.proofs.lemmas.Cmp.{on_total, then_total}
use Rattle.std.proofs.lemmas.Map.Keys.{ge_from_not_lt}
use Rattle.c5_rows.specs.declared.writes.RowName.{RowName}
use Rattle.c5_rows.specs.declared.writes.Write.{Write}
use Rattle.c5_rows.specs.Writes.{change_of}
use Rattle.c5_definitions.specs.History.{writes_row}
use Rattle.c5_order.proofs.Allowed.{equal_names}
use Rattle.c5_rows.specs.Order.{row_name_cmp, row_name_cmp_total, row_name_cmp_exact}
use Rattle.c5_order.specs.declared.marks.VersionKey.{VersionKey}
use Rattle.c5_order.specs.declared.marks.Found.{Found}
use Rattle.c5_order.specs.Marks.{version_key_cmp, version_key, noted_mark, IsMarkFoundBefore}
use Rattle.c5_order.specs.Marks.{marked, removed, mark_after_install}

-- ---- the order

pub version_key_cmp_total : IsTotalOrder version_key_cmp
version_key_cmp_total = then_total (on_total (λ k. k.name) row_name_cmp_total)
    (on_total (λ k. k.wrote) nat_cmp_total)

pub nat-less : (a b : ℕ) → nat_cmp a b ≡ Less → a < b
nat-less a b e = elim (cases_order a b) [
  | inl same ↦ absurd (let f : Equal ≡ nat_cmp a b = nat_cmp_is a b Equal same in cc)
  | inr apart ↦ elim apart [
    | inl lt ↦ lt
    | inr gt ↦ absurd (let f : Greater ≡ nat_cmp a b = nat_cmp_is a b Greater gt in cc)
  ]
]

pub less-nat : (a b : ℕ) → a < b → nat_cmp a b ≡ Less
less-nat a b lt = sym (nat_cmp_is a b Less lt)

then-less : (x y : Ordering) → ordering_then x y ≡ Less → (x ≡ Less) ⊎ ((x ≡ Equal) × (y ≡ Less))
then-less Less y e = inl refl
then-less Equal y e = inr (refl, e)
then-less Greater y e = absurd cc

then-equal : (x y : Ordering) → ordering_then x y ≡ Equal → (x ≡ Equal) × (y ≡ Equal)
then-equal Less y e = absurd cc
then-equal Equal y e = (refl, e)
then-equal Greater y e = absurd cc

zero-first : (w : ℕ) → is_gt (nat_cmp 0 w) ≡ false
zero-first w = elim (cases_order 0 w) [
  | inl same ↦ ap is_gt (sym (nat_cmp_is 0 w Equal same))
  | inr apart ↦ elim apart [
    | inl lt ↦ ap is_gt (less-nat 0 w lt)
    | inr gt ↦ absurd (omega arith)
  ]
]

-- a row's start version comes first of its versions
pub start-first : (name : RowName) (w : ℕ)
    → is_gt (version_key_cmp (version_key name 0) (version_key name w)) ≡ false
start-first name w = rw (tied_itself row_name_cmp_total name) (zero-first w)

pub same-row-less : (name : RowName) (v w : ℕ)
    → version_key_cmp (version_key name v) (version_key name w) ≡ nat_cmp v w
same-row-less name v w = rw (tied_itself row_name_cmp_total name) refl

-- what lies between the start version and a stamp is of the row, and below the stamp
in-row : (name : RowName) (s : ℕ) (k : VersionKey)
    → is_gt (version_key_cmp (version_key name 0) k) ≡ false
    → version_key_cmp k (version_key name s) ≡ Less → (k.name ≡ name) × (k.wrote < s)
in-row name s k from up = elim (then-less (row_name_cmp k.name name) (nat_cmp k.wrote s) up) [
  | inl less ↦
      let over : row_name_cmp name k.name ≡ Greater =
      row_name_cmp_total.antisymm name k.name ∙ ap ordering_reverse less in
      let bad : true ≡ false = sym
      (ap (λ o. is_gt (ordering_then o (nat_cmp 0 k.wrote))) over) ∙ from in
      absurd cc
  | inr p ↦ (row_name_cmp_exact k.name name p.0, nat-less k.wrote s p.1)
]

pub version_key_exact : (a b : VersionKey) → version_key_cmp a b ≡ Equal → a ≡ b
version_key_exact a b e =
    let p = then-equal (row_name_cmp a.name b.name) (nat_cmp a.wrote b.wrote) e in
    ap (λ name. version_key name a.wrote) (row_name_cmp_exact a.name b.name p.0)
    ∙ ap (λ wrote. version_key b.name wrote) (elim (cases_order a.wrote b.wrote) [
      | inl same ↦ same
      | inr apart ↦ elim apart [
        | inl lt ↦ absurd
            (let f : Less ≡ nat_cmp a.wrote b.wrote = nat_cmp_is a.wrote b.wrote Less lt in
            let g = p.1 in cc)
        | inr gt ↦ absurd (let f : Greater
            ≡ nat_cmp a.wrote b.wrote = nat_cmp_is a.wrote b.wrote Greater gt in let g = p.1 in cc)
      ]
    ])

-- ---- the version that is found

pub found-some : (m : BTreeMap VersionKey ℕ) (name : RowName) (s : ℕ) (r t : List (VersionKey × ℕ))
    (key : VersionKey) (n : ℕ)
    → IsRangeOf version_key_cmp (Included (version_key name 0)) (Excluded (version_key name s)) m r
    → r ≡ t ++ (key, n) ∷ []
    → IsMarkFoundBefore m name s (record { wrote = key.wrote; read_by = n })
found-some m name s r t key n range is =
    let here = range.3 (key, n) t is in
    let place = in-row name s key here.0.0 here.0.1 in
    let same : key ≡ version_key name key.wrote = ap (λ x. version_key x key.wrote) place.0 in
    let at : noted_mark m (version_key name key.wrote) ≡ Some n =
    subst (λ k. noted_mark m k ≡ Some n) same here.1 in
    record {
      entry = λ z. sym
          (ap (λ o. unwrap_or o 0) (subst (λ w. noted_mark m (version_key name w) ≡ Some n) z at));
      there = λ some. (place.1, at);
      greatest = λ w lt has. ge_from_not_lt key.wrote w
          (sym (ap is_lt
          (ap (λ x. version_key_cmp (version_key x key.wrote) (version_key name w)) place.0 ∙
          same-row-less name key.wrote w))
          ∙ range.4 (key, n) t is (version_key name w)
          (start-first name w, same-row-less name w s ∙ less-nat w s lt) has);
    }

pub found-none : (m : BTreeMap VersionKey ℕ) (name : RowName) (s : ℕ) (r : List (VersionKey × ℕ))
    → IsRangeOf version_key_cmp (Included (version_key name 0)) (Excluded (version_key name s)) m r
    → r ≡ [] → 1 ≤ s → IsMarkFoundBefore m name s (record { wrote = 0; read_by = 0 })
found-none m name s r range is some = record {
  entry = λ z. sym
      (ap (λ o. unwrap_or o 0)
      (range.5 is (version_key name 0)
      (start-first name 0, same-row-less name 0 s ∙ less-nat 0 s some)));
  there = λ above. absurd (omega arith);
  greatest = λ w lt has. absurd
      (not_some (noted_mark m (version_key name w)) has
      (range.5 is (version_key name w)
      (start-first name w, same-row-less name w s ∙ less-nat w s lt)));
} where
  not_some : (o : Option ℕ) → IsSome o → o ≡ None → ⊥
  not_some None h e = absurd cc
  not_some (Some x) h e = cc

-- ---- a reader is noted

at-key : (key q : VersionKey) → is_at (version_key_cmp key) q ≡ true → q ≡ key
at-key key q e = sym (version_key_exact key q (by (version_key_cmp key q) e))
  where
    by : (o : Ordering) → is_eq o ≡ true → o ≡ Equal
    by Less e = absurd cc
    by Equal e = refl
    by Greater e = absurd cc

pub marked-some : (m : BTreeMap VersionKey ℕ) (key : VersionKey) (stamp n v : ℕ) (q : VersionKey)
    → noted_mark m key ≡ Some n → v ≡ max n stamp
    → cond (is_at (version_key_cmp key) q) (Some v) (noted_mark m q)
    ≡ marked key stamp q (noted_mark m q)
marked-some m key stamp n v q has is = by (is_at (version_key_cmp key) q) refl
  where
    by : (b : Bool) → is_at (version_key_cmp key) q ≡ b
        → cond b (Some v) (noted_mark m q)
        ≡ cond b (Some (max (unwrap_or (noted_mark m q) 0) stamp)) (noted_mark m q)
    by true e =
        ap Some (is ∙ ap (λ o. max (unwrap_or o 0) stamp)
        (sym (ap (noted_mark m) (at-key key q e) ∙ has)))
    by false e = refl

pub marked-none : (m : BTreeMap VersionKey ℕ) (key : VersionKey) (stamp : ℕ) (q : VersionKey)
    → noted_mark m key ≡ None → cond (is_at (version_key_cmp key) q) (Some stamp) (noted_mark m q)
    ≡ marked key stamp q (noted_mark m q)
marked-none m key stamp q has = by (is_at (version_key_cmp key) q) refl
  where
    by : (b : Bool) → is_at (version_key_cmp key) q ≡ b
        → cond b (Some stamp) (noted_mark m q)
        ≡ cond b (Some (max (unwrap_or (noted_mark m q) 0) stamp)) (noted_mark m q)
    by true e =
        ap Some (let z : max 0 stamp ≡ stamp = omega arith in
        sym z ∙ ap (λ o. max (unwrap_or o 0) stamp)
        (sym (ap (noted_mark m) (at-key key q e) ∙ has)))
    by false e = refl

-- ---- versions that are put in and taken out

pub key-test : (name : RowName) (stamp : ℕ) (q : VersionKey)
    → is_at (version_key_cmp (version_key name stamp)) q
    ≡ (eqb q.wrote stamp && is_eq (row_name_cmp q.name name))
key-test name stamp q = both_ways (is_at (version_key_cmp (version_key name stamp)) q)
    (eqb q.wrote stamp && is_eq (row_name_cmp q.name name))
    (λ e. let same : q ≡ version_key name stamp = at-key (version_key name stamp) q e in
    rw (same, tied_itself row_name_cmp_total name) (rw (eq-eqb stamp stamp refl) refl))
    (λ e. let p = and_parts (eqb q.wrote stamp) (is_eq (row_name_cmp q.name name)) e in
    let same : version_key name stamp ≡ q =
    ap (λ n. version_key n stamp) (sym (equal_names q.name name p.1)) ∙ ap
    (λ w. version_key q.name w) (sym (eqb-true q.wrote stamp p.0)) in
    ap is_eq (ap (λ k. version_key_cmp k q) same ∙ tied_itself version_key_cmp_total q))

pub removed-more : (stamp : ℕ) (w : Write) (ws : List Write) (q : VersionKey) (old m n : Option ℕ)
    → n ≡ cond (is_at (version_key_cmp (version_key w.name stamp)) q) None m
    → m ≡ removed stamp ws q old → n ≡ removed stamp (w ∷ ws) q old
removed-more stamp w ws q old m n e f =
    e ∙ ap (λ b. cond b None m) (key-test w.name stamp q) ∙ by (eqb q.wrote stamp)
    (is_eq (row_name_cmp q.name w.name)) f
  where
    by : (a b : Bool) → m ≡ cond (a && writes_row q.name ws) None old
        → cond (a && b) None m ≡ cond
        (a && is_some (cond b (Some w.change) (change_of q.name ws))) None old
    by true true f = refl
    by true false f = f
    by false b f = f

pub installed-more : (stamp : ℕ) (w : Write) (ws : List Write) (q : VersionKey) (old m n : Option ℕ)
    → n ≡ cond (is_at (version_key_cmp (version_key w.name stamp)) q) (Some 0) m
    → m ≡ mark_after_install stamp ws q old → n ≡ mark_after_install stamp (w ∷ ws) q old
installed-more stamp w ws q old m n e f =
    e ∙ ap (λ b. cond b (Some 0) m) (key-test w.name stamp q) ∙ by (eqb q.wrote stamp)
    (is_eq (row_name_cmp q.name w.name)) f
  where
    by : (a b : Bool) → m ≡ cond (a && writes_row q.name ws) (Some 0) old
        → cond (a && b) (Some 0) m
        ≡ cond (a && is_some (cond b (Some w.change) (change_of q.name ws))) (Some 0) old
    by true true f = refl
    by true false f = f
    by false b f = f

-- taken out again, nothing is left if nothing was there before
pub undone : (stamp : ℕ) (ws : List Write) (q : VersionKey) (old m : Option ℕ)
    → (q.wrote ≡ stamp → old ≡ None) → m ≡ mark_after_install stamp ws q old
    → removed stamp ws q m ≡ old
undone stamp ws q old m none e = by (eqb q.wrote stamp) (writes_row q.name ws) refl e
  where
    by : (a b : Bool) → eqb q.wrote stamp ≡ a → m ≡ cond (a && b) (Some 0) old
        → cond (a && b) None m ≡ old
    by true true is e = sym (none (eqb-true q.wrote stamp is))
    by true false is e = e
    by false b is e = e

-- one more element before the last ones
pub one-before : {X : Type 0} (xs : List X) (n : ℕ) (x : X) → n < length xs
    → x ≡ get_or xs (length xs - 1 - n) x
    → drop (length xs - (n + 1)) xs ≡ x ∷ drop (length xs - n) xs
one-before xs n x lt is =
    let i : length xs - 1 - n ≡ length xs - (n + 1) = omega arith in
    let next : suc (length xs - (n + 1)) ≡ length xs - n = omega arith in
    drop-cons xs (length xs - (n + 1)) x (omega arith) ∙ ap
    (λ y. y ∷ drop (suc (length xs - (n + 1))) xs)
    (ap (λ k. get_or xs k x) (sym i) ∙ sym is) ∙ ap (λ k. x ∷ drop k xs) next

pub slice-to-end : {X : Type 0} (xs : List X) (k : ℕ) → take (length xs - k) (drop k xs) ≡ drop k xs
slice-to-end xs k = take_all (length xs - k) (drop k xs) (omega (arith, length-drop k xs))
