-- What is noted of the writes so far.
use Rattle.std.proofs.Common.{◌≡◌, ◌∙◌, ◌+◌, ◌-◌, ◌≤◌, ◌<◌, ◌||◌, ℕ, zero, suc, Bool, true, false}
use Rattle.std.proofs.Common.{List, [], ◌∷◌, ◌++◌, length, map, take, cond, subst, sym, ap, refl}
use Rattle.std.proofs.Common.{arith, Option, Some, None, is_some, slice_get, true≢false, add-one}
use Rattle.std.proofs.Common.{length-take, take_all, option_map}
use Rattle.std.specs.Option.{option_or, MatchOption}
use Rattle.std.specs.Cmp.{eq_by_cmp_equiv, Equal-is, IsEquivalence}
use Rattle.std.specs.List.{IsDistinct}
use Rattle.std.specs.Map.{lookup, keys_of}
use Rattle.std.specs.Set.{is_member, unique_keys}
use Rattle.std.proofs.Math.Seq.{take-suc}
use Rattle.std.proofs.lemmas.List.{length-map}
use Rattle.std.proofs.lemmas.Map.Entries.{length-keys_of}
use Rattle.std.proofs.lemmas.Map.Made.{length-from_keys, length-le_from_is_member}
use Rattle.std.proofs.lemmas.Map.Made.{distinct_count-le}
use Rattle.std.proofs.lemmas.Option.{slice_get_within, get_or_from_slice_get, slice_get-map}
use Rattle.indexmap.specs.IndexMap.{insert_entry}
use Rattle.c5_rows.specs.declared.writes.RowName.{RowName}
use Rattle.c5_rows.specs.declared.writes.Write.{Write}
use Rattle.c5_rows.specs.declared.writes.Txn.{Txn}
use Rattle.c5_rows.specs.Order.{row_name_cmp, row_name_cmp_total, row_name_cmp_exact}
use Rattle.c5_definitions.specs.WriteNumbers.{names_in}
use Rattle.c5_frames.specs.Index.{writes_of}
use Rattle.c5_definitions.specs.WriteNumbers.{is_same_name, row_count}
use Rattle.c5_plan.specs.Written.{last_from, last_write}
use Rattle.c5_plan.specs.declared.written.NameRef.{NameRef}
use Rattle.c5_plan.specs.Noted.{name_of_ref, Notes}
use Rattle.c5_plan.proofs.Sizing.{length-names_in}
use Rattle.c5_plan.proofs.Names.{found-inserted, IsDistinct-name_of, member-found}

pub same_laws : IsEquivalence is_same_name
same_laws = eq_by_cmp_equiv row_name_cmp_total

pub same_exact : (a b : RowName) → is_same_name a b ≡ true → a ≡ b
same_exact a b tie = row_name_cmp_exact a b ((Equal-is (row_name_cmp a b)).0 tie)

-- one write more
last_from-append : (name : RowName) (first : ℕ) (names : List RowName) (last : RowName)
    → last_from name first (names ++ last ∷ [])
    ≡ cond (is_same_name name last) (Some (first + length names)) (last_from name first names)
last_from-append name first [] last = by (is_same_name name last)
  where
    by : (b : Bool) → option_or None (cond b (Some first) None) ≡ cond b (Some (first + 0)) None
    by true = ap Some (omega arith)
    by false = refl
last_from-append name first (n ∷ names) last =
    ap (λ (o : Option ℕ). option_or o (cond (is_same_name name n) (Some first) None))
    (last_from-append name (first + 1) names last)
    ∙ by (is_same_name name last) (cond (is_same_name name n) (Some first) None)
  where
    by : (b : Bool) (o : Option ℕ)
        → option_or
        (cond b (Some ((first + 1) + length names)) (last_from name (first + 1) names)) o
        ≡ cond b (Some (first + suc (length names)))
        (option_or (last_from name (first + 1) names) o)
    by true o = ap Some (omega arith)
    by false o = refl

-- there is a last write of a name that a write has
is_some-last : (name : RowName) (first : ℕ) (names : List RowName)
    → is_some (last_from name first names) ≡ is_member is_same_name names name
is_some-last name first [] = refl
is_some-last name first (n ∷ names) =
    by (last_from name (first + 1) names) (is_same_name name n)
    (is_some-last name (first + 1) names)
  where
    by : (o : Option ℕ) (b : Bool) → is_some o ≡ is_member is_same_name names name
        → is_some (option_or o (cond b (Some first) None))
        ≡ (b || is_member is_same_name names name)
    by None true h = refl
    by (Some x) true h = refl
    by None false h = h
    by (Some x) false h = h

-- where the last write of a name is
pub record IsPlaceOf (name : RowName) (first : ℕ) (names : List RowName) (place : ℕ) : Type 0 where
  pub from : first ≤ place
  pub within : place < first + length names
  pub there : slice_get names (place - first) ≡ Some name

placed : (name : RowName) (first : ℕ) (n : RowName) (names : List RowName) (place : ℕ)
    (o : Option ℕ) (b : Bool) → (o ≡ Some place → IsPlaceOf name (first + 1) names place)
    → is_same_name name n ≡ b
    → option_or o (cond b (Some first) None) ≡ Some place → IsPlaceOf name first (n ∷ names) place
placed name first n names place None true later same p =
    let is : first ≡ place = cc in
    let zeroth : place - first ≡ 0 = omega arith in
    record {
      from = omega arith;
      within = omega arith;
      there = ap (slice_get (n ∷ names)) zeroth ∙ ap Some (sym (same_exact name n same));
    }
placed name first n names place None false later same p = cc
placed name first n names place (Some m) b later same p =
    let is : m ≡ place = cc in
    let r = later (ap Some is) in
    let from = r.from in
    let within = r.within in
    let next : place - first ≡ suc (place - (first + 1)) = omega arith in
    record {
      from = omega arith;
      within = omega arith;
      there = ap (slice_get (n ∷ names)) next ∙ r.there;
    }

pub place_of_last : (name : RowName) (first : ℕ) (names : List RowName) (place : ℕ)
    → last_from name first names ≡ Some place → IsPlaceOf name first names place
place_of_last name first [] place h = cc
place_of_last name first (n ∷ names) place h =
    placed name first n names place (last_from name (first + 1) names) (is_same_name name n)
    (place_of_last name (first + 1) names place) refl h

-- the names before a place and the one there
taken-more : (names : List RowName) (i : ℕ) (last : RowName) → slice_get names i ≡ Some last
    → take (i + 1) names ≡ take i names ++ last ∷ []
taken-more names i last at =
    let within = slice_get_within names i last at in
    rw add-one
    (take-suc names i last within ∙ ap (λ (n : RowName). take i names ++ n ∷ [])
    (get_or_from_slice_get names i last last at))

prefix_members : (names : List RowName) (i : ℕ) (q : RowName)
    → is_member is_same_name (take i names) q ≡ true → is_member is_same_name names q ≡ true
prefix_members [] zero q h = h
prefix_members [] (suc i) q h = h
prefix_members (n ∷ names) zero q h = absurd (true≢false (sym h))
prefix_members (n ∷ names) (suc i) q h = by (is_same_name q n) h (prefix_members names i q)
  where
    by : (b : Bool) → (b || is_member is_same_name (take i names) q) ≡ true
        → (is_member is_same_name (take i names) q ≡ true → is_member is_same_name names q ≡ true)
        → (b || is_member is_same_name names q) ≡ true
    by true p r = refl
    by false p r = r p

-- each name that is there is among the ones that are there once
unique_members : (names : List RowName) (q : RowName) → is_member is_same_name names q ≡ true
    → is_member is_same_name (unique_keys is_same_name names) q ≡ true
unique_members [] q h = h
unique_members (n ∷ names) q h =
    by (is_member is_same_name names n) (is_same_name q n) refl refl h (unique_members names q)
  where
    by : (b c : Bool) → is_member is_same_name names n ≡ b → is_same_name q n ≡ c
        → (c || is_member is_same_name names q) ≡ true
        → (is_member is_same_name names q ≡ true
        → is_member is_same_name (unique_keys is_same_name names) q ≡ true)
        → is_member is_same_name
        (cond b (unique_keys is_same_name names) (n ∷ unique_keys is_same_name names)) q ≡ true
    by true true m t p r = r (rw (same_exact q n t) m)
    by true false m t p r = r p
    by false true m t p r =
        ap (λ (b : Bool). b || is_member is_same_name (unique_keys is_same_name names) q) t
    by false false m t p r = ap
        (λ (b : Bool). b || is_member is_same_name (unique_keys is_same_name names) q) t ∙ r p

length-keys : (entries : List (NameRef × ℕ))
    → length (map name_of_ref (keys_of entries)) ≡ length entries
length-keys entries = length-map (keys_of entries) name_of_ref ∙ length-keys_of entries

members : (entries : List (NameRef × ℕ)) (names : List RowName) → Notes entries names
    → (q : RowName) → is_member is_same_name (map name_of_ref (keys_of entries)) q
    ≡ is_member is_same_name names q
members entries names h q = member-found name_of_ref is_same_name q entries ∙ ap is_some
    (h.last q) ∙ is_some-last q 1 names

-- the number of rows that are noted
pub length-noted : (entries : List (NameRef × ℕ)) (names : List RowName) → Notes entries names
    → length entries ≡ row_count names
length-noted entries names h = sym (length-keys entries) ∙ length-from_keys same_laws
    (map name_of_ref (keys_of entries)) names h.distinct (members entries names h)

-- a prefix of the writes has no more rows
pub length-noted_le : (entries : List (NameRef × ℕ)) (names : List RowName) (i : ℕ)
    → Notes entries (take i names) → length entries ≤ row_count names
length-noted_le entries names i h =
    let e = length-keys entries in
    let few = length-le_from_is_member same_laws (map name_of_ref (keys_of entries))
    (unique_keys is_same_name names) h.distinct
    (λ q m. unique_members names q
    (prefix_members names i q (sym (members entries (take i names) h q) ∙ m))) in
    omega arith

pub Notes-none : (names : List RowName) (entries : List (NameRef × ℕ)) → entries ≡ []
    → Notes entries (take 0 names)
unfolding IsDistinct
Notes-none names entries e = subst (λ (es : List (NameRef × ℕ)). Notes es (take 0 names)) (sym e)
    (record { distinct = tt; last = λ q. refl })

-- one more write is noted
pub Notes-inserted : (eq : NameRef → NameRef → Bool)
    (agrees : (a b : NameRef) → eq a b ≡ is_same_name (name_of_ref a) (name_of_ref b))
    (entries after : List (NameRef × ℕ)) (names : List RowName) (i : ℕ) (name : NameRef)
    → Notes entries (take i names) → slice_get names i ≡ Some (name_of_ref name)
    → after ≡ insert_entry eq entries name (i + 1) → IsDistinct eq (keys_of after)
    → Notes after (take (i + 1) names)
Notes-inserted eq agrees entries after names i name h at is distinct =
    let within = slice_get_within names i (name_of_ref name) at in
    let len : 1 + length (take i names) ≡ i + 1 = omega (arith, length-take i names) in
    record {
      distinct = IsDistinct-name_of name_of_ref eq is_same_name agrees (keys_of after) distinct;
      last = λ q.
          ap (λ (es : List (NameRef × ℕ)). lookup
          (λ (n : NameRef). is_same_name q (name_of_ref n)) es) is
          ∙ found-inserted name_of_ref eq is_same_name same_laws agrees q entries name (i + 1)
          ∙ ap (λ (o : Option ℕ). cond (is_same_name q (name_of_ref name)) (Some (i + 1)) o)
          (h.last q)
          ∙ ap (λ (n : ℕ). cond (is_same_name q (name_of_ref name)) (Some n)
          (last_write q (take i names))) (sym len)
          ∙ sym (last_from-append q 1 (take i names) (name_of_ref name))
          ∙ ap (last_write q) (sym (taken-more names i (name_of_ref name) at));
    }

-- the name of a write, by its parts
pub name-parts : (txns : List Txn) (i j : ℕ) (write : Write) (name : NameRef)
    → slice_get (writes_of txns) j ≡ Some write → j ≡ i → name.table ≡ write.name.table
    → name.key.now ≡ write.name.key
    → slice_get (names_in txns) i ≡ Some (name_of_ref name)
unfolding names_in
name-parts txns i j write name at e table key =
    slice_get-map (λ (w : Write). w.name) (writes_of txns) i
    ∙ ap (λ (k : ℕ). option_map (λ (w : Write). w.name) (slice_get (writes_of txns) k)) (sym e)
    ∙ ap (option_map (λ (w : Write). w.name)) at
    ∙ (λ k. Some (record { table = sym table k; key = sym key k }))

pub length-names_at : (txns : List Txn) (n : ℕ) → n ≡ length (writes_of txns)
    → take n (names_in txns) ≡ names_in txns
length-names_at txns n e = take_all n (names_in txns) (omega (arith, length-names_in txns))

pub row_count-le : (txns : List Txn) → row_count (names_in txns) ≤ length (writes_of txns)
row_count-le txns = let few = distinct_count-le is_same_name (names_in txns) in
    omega (arith, length-names_in txns)

pub at_none : {X : Type 0} (P : Type 0) (Q : X → Type 0) (o : Option X) → o ≡ None
    → MatchOption o P Q → P
at_none P Q None e h = h
at_none P Q (Some x) e h = cc
