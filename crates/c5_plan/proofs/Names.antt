-- Names as keys of a map.
use Rattle.std.proofs.Common.{◌≡◌, ◌∙◌, ◌||◌, Bool, true, false, List, [], ◌∷◌, map, cond, sym, ap}
use Rattle.std.proofs.Common.{refl, Option, Some, is_some, true≢false}
use Rattle.std.specs.Cmp.{IsEquivalence}
use Rattle.std.specs.List.{IsDistinct, AllByRecursion, list_any}
use Rattle.std.specs.Map.{lookup, keys_of}
use Rattle.std.specs.Set.{is_member}
use Rattle.std.proofs.lemmas.Map.Made.{is_some-lookup}
use Rattle.indexmap.specs.IndexMap.{insert_entry}

module _ {N K : Type 0} (name_of : N → K) (same : K → K → Bool) where
  any-name_of : (name : K) (ks : List N) → list_any (λ (n : N). same name (name_of n)) ks
      ≡ is_member same (map name_of ks) name
  any-name_of name [] = refl
  any-name_of name (k ∷ ks) = ap (λ (b : Bool). same name (name_of k) || b) (any-name_of name ks)

  -- a name is among the keys if something is found
  pub member-found : {X : Type 0} (name : K) (es : List (N × X))
      → is_member same (map name_of (keys_of es)) name
      ≡ is_some (lookup (λ (n : N). same name (name_of n)) es)
  member-found name es = sym (any-name_of name (keys_of es)) ∙ sym
      (is_some-lookup (λ (n : N). same name (name_of n)) es)

module _ {N K : Type 0} (name_of : N → K) (eq : N → N → Bool) (same : K → K → Bool)
    (agrees : (a b : N) → eq a b ≡ same (name_of a) (name_of b)) where
  names-apart : (x : N) (ks : List N) → AllByRecursion (λ y. eq x y ≡ false) ks
      → AllByRecursion (λ y. same (name_of x) y ≡ false) (map name_of ks)
  names-apart x [] h = tt
  names-apart x (k ∷ ks) h = (sym (agrees x k) ∙ h.0, names-apart x ks h.1)

  -- keys that differ have names that differ
  pub IsDistinct-name_of : (ks : List N) → IsDistinct eq ks → IsDistinct same (map name_of ks)
  unfolding IsDistinct
  IsDistinct-name_of [] h = tt
  IsDistinct-name_of (k ∷ ks) h = (names-apart k ks h.0, IsDistinct-name_of ks h.1)

module _ {N K X : Type 0} (name_of : N → K) (eq : N → N → Bool) (same : K → K → Bool)
    (laws : IsEquivalence same) (agrees : (a b : N) → eq a b ≡ same (name_of a) (name_of b)) where
  -- what is found by a name
  abbrev pub found : K → List (N × X) → Option X
  found name es = lookup (λ (n : N). same name (name_of n)) es

  merged : (v w : X) (o : Option X) (b c : Bool) → c ≡ b
      → cond c (Some v) o ≡ cond b (Some v) (cond c (Some w) o)
  merged v w o true true p = refl
  merged v w o true false p = cc
  merged v w o false true p = cc
  merged v w o false false p = refl

  swapped : (name : K) (k l : N) (v w : X) (o : Option X) (b c : Bool) → same name (name_of k) ≡ b
      → same name (name_of l) ≡ c → eq k l ≡ false
      → cond c (Some w) (cond b (Some v) o) ≡ cond b (Some v) (cond c (Some w) o)
  swapped name k l v w o true true p q r =
      let tie : same (name_of k) (name_of l) ≡ true =
      laws.congr (name_of k) name (name_of l) (laws.symm (name_of k) name ∙ p) ∙ q in
      absurd (true≢false (sym tie ∙ sym (agrees k l) ∙ r))
  swapped name k l v w o true false p q r = refl
  swapped name k l v w o false c p q r = refl

  inserted : (name : K) (e : N × X) (es : List (N × X)) (k : N) (v : X) (b : Bool) → eq k e.0 ≡ b
      → found name (insert_entry eq es k v) ≡ cond (same name (name_of k)) (Some v) (found name es)
      → found name (cond b ((e.0, v) ∷ es) (e ∷ insert_entry eq es k v))
      ≡ cond (same name (name_of k)) (Some v)
      (cond (same name (name_of e.0)) (Some e.1) (found name es))
  inserted name e es k v true r h =
      merged v e.1 (found name es) (same name (name_of k)) (same name (name_of e.0))
      (laws.symm name (name_of e.0) ∙ sym
      (laws.congr (name_of k) (name_of e.0) name (sym (agrees k e.0) ∙ r)) ∙ laws.symm
      (name_of k) name)
  inserted name e es k v false r h =
      ap (λ (o : Option X). cond (same name (name_of e.0)) (Some e.1) o) h
      ∙ swapped name k e.0 v e.1 (found name es) (same name (name_of k))
      (same name (name_of e.0)) refl refl r

  -- after a pair was inserted, its value is found by its name, and by any other name what was found
  -- before
  pub found-inserted : (name : K) (es : List (N × X)) (k : N) (v : X)
      → found name (insert_entry eq es k v) ≡ cond (same name (name_of k)) (Some v) (found name es)
  found-inserted name [] k v = refl
  found-inserted name (e ∷ es) k v =
      inserted name e es k v (eq k e.0) refl (found-inserted name es k v)
