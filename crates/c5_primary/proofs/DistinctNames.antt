-- Names among others: there are no more different ones.
use Rattle.std.proofs.Common.{◌≡◌, ◌≤◌, ◌∙◌, Bool, true, false, ◌||◌, cond, List, [], ◌∷◌, ◌++◌}
use Rattle.std.proofs.Common.{refl, ap, sym, subst}
use Rattle.std.proofs.lemmas.Bool.{false≢true}
use Rattle.std.specs.List.{AllByRecursion, IsDistinct, list_any}
use Rattle.std.specs.Set.{is_member, unique_keys, distinct_count}
use Rattle.std.specs.Ordering.{eq_by_cmp}
use Rattle.std.specs.Cmp.{eq_by_cmp_equiv}
use Rattle.std.proofs.lemmas.List.Folds.{list_any-append}
use Rattle.std.proofs.lemmas.Map.Made.{length-le_from_is_member}
use Rattle.c5_rows.specs.Order.{row_name_cmp, row_name_cmp_total}
use Rattle.c5_rows.specs.declared.writes.RowName.{RowName}
use Rattle.c5_primary.proofs.EvalFits.{same_name, or_true}

abbrev same : RowName → RowName → Bool
same = eq_by_cmp row_name_cmp

-- the name is one of these
abbrev pub IsOneOf : List RowName → RowName → Type 0
IsOneOf names q = is_member same names q ≡ true

-- ---- lists of names

pub all_weaker : (P Q : RowName → Type 0) → ((q : RowName) → P q → Q q) → (names : List RowName)
    → AllByRecursion P names → AllByRecursion Q names
all_weaker P Q more [] all = tt
all_weaker P Q more (name ∷ names) all = (more name all.0, all_weaker P Q more names all.1)

pub all_append : (P : RowName → Type 0) (first others : List RowName) → AllByRecursion P first
    → AllByRecursion P others → AllByRecursion P (first ++ others)
all_append P [] others all rest = rest
all_append P (name ∷ first) others all rest = (all.0, all_append P first others all.1 rest)

pub in_first : (first others : List RowName) (q : RowName) → IsOneOf first q
    → IsOneOf (first ++ others) q
in_first first others q is = list_any-append (same q) first others ∙ ap
    (λ (b : Bool). b || list_any (same q) others) is

pub in_others : (first others : List RowName) (q : RowName) → IsOneOf others q
    → IsOneOf (first ++ others) q
in_others first others q is = list_any-append (same q) first others ∙ ap
    (λ (b : Bool). list_any (same q) first || b) is ∙ or_true (list_any (same q) first)

pub each_one : (names : List RowName) → AllByRecursion (IsOneOf names) names
each_one [] = tt
each_one (name ∷ names) = (
  ap (λ (b : Bool). b || list_any (same name) names)
      ((eq_by_cmp_equiv row_name_cmp_total).refl name),
  all_weaker (IsOneOf names) (IsOneOf (name ∷ names))
      (λ q is. in_others (name ∷ []) names q is) names (each_one names),
)

-- ---- counts

-- what holds of all names holds of a name that is one of them
of_one : (P : RowName → Type 0) (names : List RowName) (q : RowName) → AllByRecursion P names
    → IsOneOf names q → P q
of_one P [] q all is = absurd (false≢true is)
of_one P (name ∷ names) q all is =
    by (λ (h : IsOneOf names q). of_one P names q all.1 h) (same q name) refl is
  where
    by : (IsOneOf names q → P q) → (b : Bool) → same q name ≡ b
        → (b || list_any (same q) names) ≡ true → P q
    by rest true tie h = subst P (sym (same_name q name tie)) all.0
    by rest false tie h = rest h

unique-member : (names : List RowName) (q : RowName)
    → is_member same (unique_keys same names) q ≡ is_member same names q
unique-member [] q = refl
unique-member (name ∷ names) q =
    by (is_member same names name) (same q name) refl refl (unique-member names q)
  where
    by : (b c : Bool) → is_member same names name ≡ b → same q name ≡ c
        → is_member same (unique_keys same names) q ≡ is_member same names q
        → is_member same (cond b (unique_keys same names) (name ∷ unique_keys same names)) q
        ≡ (c || is_member same names q)
    by true true known tie rest = rest ∙ ap (is_member same names) (same_name q name tie) ∙ known
    by true false known tie rest = rest
    by false c known tie rest = rw tie (ap (λ (v : Bool). c || v) rest)

apart : (name : RowName) (names : List RowName) → is_member same names name ≡ false
    → AllByRecursion (λ other. same name other ≡ false) names
apart name [] none = tt
apart name (other ∷ names) none = by (apart name names) (same name other) refl none
  where
    by : (is_member same names name ≡ false → AllByRecursion (λ q. same name q ≡ false) names)
        → (b : Bool) → same name other ≡ b → (b || is_member same names name) ≡ false
        → (same name other ≡ false) × AllByRecursion (λ q. same name q ≡ false) names
    by rest true tie h = absurd (false≢true (sym h))
    by rest false tie h = (tie, rest h)

unique-distinct : (names : List RowName) → IsDistinct same (unique_keys same names)
unfolding IsDistinct
unique-distinct [] = tt
unique-distinct (name ∷ names) = by (is_member same names name) refl (unique-distinct names)
  where
    by : (b : Bool) → is_member same names name ≡ b → IsDistinct same (unique_keys same names)
        → IsDistinct same (cond b (unique_keys same names) (name ∷ unique_keys same names))
    by true known rest = rest
    by false known rest =
        (apart name (unique_keys same names) (unique-member names name ∙ known), rest)

-- names that are all among others are no more
pub fewer_names : (names others : List RowName) → AllByRecursion (IsOneOf others) names
    → distinct_count same names ≤ distinct_count same others
fewer_names names others all =
    length-le_from_is_member (eq_by_cmp_equiv row_name_cmp_total) (unique_keys same names)
    (unique_keys same others) (unique-distinct names)
    (λ (q : RowName) (h : is_member same (unique_keys same names) q
    ≡ true). unique-member others q ∙ of_one (IsOneOf others) names q all
    (sym (unique-member names q) ∙ h))
