-- The rows that are noted, as a list.
use Rattle.std.proofs.Common.{◌≡◌, ◌∙◌, ◌+◌, ◌-◌, ◌≤◌, ◌<◌, ℕ, zero, suc, Bool, false, List, []}
use Rattle.std.proofs.Common.{◌∷◌, ◌++◌, length, map, take, get_or, cond, subst, sym, ap, refl}
use Rattle.std.proofs.Common.{arith, Option, Some, slice_get, option_map}
use Rattle.std.specs.List.{IsDistinct, dedup_from}
use Rattle.std.specs.List.Sorted.{IsPermutation, IsSorted, IsStrictlySortedBy}
use Rattle.std.specs.Map.{lookup, keys_of, values_of}
use Rattle.std.specs.declared.cmp.Ordering.{Ordering}
use Rattle.std.specs.declared.cmp.Ordering.TheVariants.{Less, Equal, Greater}
use Rattle.std.specs.Ordering.{ordering_then, is_lt, nat_cmp}
use Rattle.std.proofs.Math.ListN.{get_or-map}
use Rattle.std.proofs.lemmas.List.Kept.{IsStrictlySortedBy-dedup}
use Rattle.std.proofs.lemmas.List.Sorted.{IsPermutation-map, length_permutation}
use Rattle.std.proofs.lemmas.List.{length-map}
use Rattle.std.proofs.lemmas.Map.Entries.{length-values_of, lookup_from_place}
use Rattle.std.proofs.lemmas.Map.Keys.{IsDistinct-IsPermutation}
use Rattle.std.proofs.lemmas.Option.{slice_get-map}
use Rattle.indexmap.proofs.MapLemmas.{lookup_permutation}
use Rattle.c5_rows.specs.declared.writes.RowName.{RowName}
use Rattle.c5_rows.specs.declared.writes.Write.{Write}
use Rattle.c5_rows.specs.declared.writes.Txn.{Txn}
use Rattle.c5_rows.specs.Order.{row_name_cmp, row_name_cmp_total}
use Rattle.c5_definitions.specs.WriteNumbers.{names_in}
use Rattle.c5_frames.specs.Index.{writes_of}
use Rattle.c5_plan.specs.declared.written.NameRef.{NameRef}
use Rattle.c5_plan.specs.declared.written.WrittenRow.{WrittenRow}
use Rattle.c5_plan.specs.Noted.{name_of_ref, Notes, ListsNotes, written_row}
use Rattle.c5_definitions.specs.WriteNumbers.{is_same_name}
use Rattle.c5_plan.specs.Written.{AreWrittenRows}
use Rattle.c5_plan.proofs.Sizing.{length-names_in}
use Rattle.c5_plan.proofs.Noting.{same_laws, IsPlaceOf, place_of_last, length-noted}

-- with the names themselves
by_name : List (NameRef × ℕ) → List (RowName × ℕ)
by_name [] = []
by_name (e ∷ entries) = (name_of_ref e.0, e.1) ∷ by_name entries

keys_of-by_name : (entries : List (NameRef × ℕ))
    → keys_of (by_name entries) ≡ map name_of_ref (keys_of entries)
unfolding by_name
keys_of-by_name [] = refl
keys_of-by_name (e ∷ entries) =
    ap (λ (ns : List RowName). name_of_ref e.0 ∷ ns) (keys_of-by_name entries)

lookup-by_name : (name : RowName) (entries : List (NameRef × ℕ))
    → lookup (is_same_name name) (by_name entries)
    ≡ lookup (λ (n : NameRef). is_same_name name (name_of_ref n)) entries
unfolding by_name
lookup-by_name name [] = refl
lookup-by_name name (e ∷ entries) =
    ap (λ (o : Option ℕ). cond (is_same_name name (name_of_ref e.0)) (Some e.1) o)
    (lookup-by_name name entries)

slice_get-by_name : (entries : List (NameRef × ℕ)) (i : ℕ) (e : NameRef × ℕ)
    → slice_get entries i ≡ Some e → slice_get (by_name entries) i ≡ Some (name_of_ref e.0, e.1)
unfolding by_name
slice_get-by_name [] i e h = cc
slice_get-by_name (x ∷ entries) zero e h = let is : x ≡ e = cc in
    ap (λ (p : NameRef × ℕ). Some (name_of_ref p.0, p.1)) is
slice_get-by_name (x ∷ entries) (suc i) e h = slice_get-by_name entries i e h

-- each pair has the number of the last write of its name
noted-place : (entries : List (NameRef × ℕ)) (names : List RowName) → Notes entries names
    → (i : ℕ) (e : NameRef × ℕ) → slice_get entries i ≡ Some e
    → IsPlaceOf (name_of_ref e.0) 1 names e.1
noted-place entries names h i e at =
    let distinct = subst (IsDistinct is_same_name) (sym (keys_of-by_name entries)) h.distinct in
    place_of_last (name_of_ref e.0) 1 names e.1
    (sym (h.last (name_of_ref e.0)) ∙ sym
    (lookup-by_name (name_of_ref e.0) entries) ∙ lookup_from_place same_laws (by_name entries) i
    (name_of_ref e.0) e.1 distinct (slice_get-by_name entries i e at))

pair_at : (entries : List (NameRef × ℕ)) (i : ℕ) → i < length entries → (e : NameRef × ℕ)
    × (slice_get entries i ≡ Some e)
pair_at [] i h = absurd (omega arith)
pair_at (x ∷ entries) zero h = (x, refl)
pair_at (x ∷ entries) (suc i) h = pair_at entries i (omega arith)

value_at_pair : (entries : List (NameRef × ℕ)) (i d : ℕ) (e : NameRef × ℕ)
    → slice_get entries i ≡ Some e → get_or (values_of entries) i d ≡ e.1
value_at_pair [] i d e h = cc
value_at_pair (x ∷ entries) zero d e h = let is : x ≡ e = cc in ap (λ (p : NameRef × ℕ). p.1) is
value_at_pair (x ∷ entries) (suc i) d e h = value_at_pair entries i d e h

-- number i of the values is that of a write, whose name is that of pair i
pub record IsPairAt (txns : List Txn) (entries : List (NameRef × ℕ)) (i v : ℕ) : Type 0 where
  pub pair : NameRef × ℕ
  pub there : slice_get entries i ≡ Some pair
  pub value : v ≡ pair.1
  pub some : 1 ≤ v
  pub within : v ≤ length (writes_of txns)
  pub name : slice_get (names_in txns) (v - 1) ≡ Some (name_of_ref pair.0)

pub noted-pair : (txns : List Txn) (entries : List (NameRef × ℕ)) → Notes entries (names_in txns)
    → (i d : ℕ) (values : List ℕ) → values ≡ values_of entries → i < length values
    → IsPairAt txns entries i (get_or values i d)
noted-pair txns entries h i d values e less =
    let len = ap length e in
    let p = pair_at entries i (omega (arith, length-values_of entries)) in
    let value : get_or values i d ≡ p.0.1 =
    ap (λ (vs : List ℕ). get_or vs i d) e ∙ value_at_pair entries i d p.0 p.1 in
    let place = noted-place entries (names_in txns) h i p.0 p.1 in
    let from = place.from in
    let within = place.within in
    record {
      pair = p.0;
      there = p.1;
      value = value;
      some = omega arith;
      within = omega (arith, length-names_in txns);
      name = ap (λ (v : ℕ). slice_get (names_in txns) (v - 1)) value ∙ place.there;
    }

taken-pair : (entries : List (NameRef × ℕ)) (i : ℕ) (e : NameRef × ℕ) → slice_get entries i ≡ Some e
    → map written_row (take (suc i) entries)
    ≡ map written_row (take i entries) ++ written_row e ∷ []
taken-pair [] i e at = cc
taken-pair (x ∷ entries) zero e at = let is : x ≡ e = cc in
    ap (λ (p : NameRef × ℕ). written_row p ∷ []) is
taken-pair (x ∷ entries) (suc i) e at =
    ap (λ (rs : List WrittenRow). written_row x ∷ rs) (taken-pair entries i e at)

pub listed-more : (txns : List Txn) (entries : List (NameRef × ℕ)) (i v : ℕ)
    (rows after : List WrittenRow) (write : Write) (name : RowName) → IsPairAt txns entries i v
    → rows ≡ map written_row (take i entries)
    → slice_get (writes_of txns) (v - 1) ≡ Some write → name ≡ write.name
    → after ≡ rows ++ record { name = name; last = v } ∷ []
    → after ≡ map written_row (take (i + 1) entries)
unfolding names_in
listed-more txns entries i v rows after write name p h at same e =
    let named_so : Some write.name ≡ Some (name_of_ref p.pair.0) =
    ap (option_map (λ (w : Write). w.name)) (sym at) ∙ sym
    (slice_get-map (λ (w : Write). w.name) (writes_of txns) (v - 1)) ∙ p.name in
    let is : name ≡ name_of_ref p.pair.0 = cc in
    e ∙ (λ j. h j ++ record { name = is j; last = p.value j } ∷ []) ∙ sym
    (taken-pair entries i p.pair p.there) ∙ ap (λ (n : ℕ). map written_row (take n entries))
    (let next : suc i ≡ i + 1 = omega arith in next)

-- ---- in order

pairs-listed : (entries : List (NameRef × ℕ))
    → map (λ (r : WrittenRow). (r.name, r.last)) (map written_row entries) ≡ by_name entries
unfolding by_name
pairs-listed [] = refl
pairs-listed (e ∷ entries) = ap (λ (ps : List (RowName × ℕ)). (name_of_ref e.0, e.1) ∷ ps)
    (pairs-listed entries)

names-listed : (entries : List (NameRef × ℕ))
    → map (λ (r : WrittenRow). r.name) (map written_row entries) ≡ map name_of_ref (keys_of entries)
names-listed [] = refl
names-listed (e ∷ entries) = ap (λ (ns : List RowName). name_of_ref e.0 ∷ ns) (names-listed entries)

keys-pairs : (rows : List WrittenRow) → keys_of (map (λ (r : WrittenRow). (r.name, r.last)) rows)
    ≡ map (λ (r : WrittenRow). r.name) rows
keys-pairs [] = refl
keys-pairs (r ∷ rows) = ap (λ (ns : List RowName). r.name ∷ ns) (keys-pairs rows)

not_less : (o p : Ordering) → is_lt (ordering_then o p) ≡ false → is_lt o ≡ false
not_less Less p h = h
not_less Equal p h = refl
not_less Greater p h = refl

abbrev row_cmp : WrittenRow → WrittenRow → Ordering
row_cmp a b = ordering_then (row_name_cmp a.name b.name) (nat_cmp a.last b.last)

sorted-names : (rows : List WrittenRow) → IsSorted row_cmp rows
    → IsSorted row_name_cmp (map (λ (r : WrittenRow). r.name) rows)
sorted-names rows sorted k d from within =
    let blank : WrittenRow = record { name = d; last = 0 } in
    let len = length-map rows (λ (r : WrittenRow). r.name) in
    let name : (i : ℕ) → get_or (map (λ (r : WrittenRow). r.name) rows) i d
    ≡ (get_or rows i blank).name = λ i. get_or-map (λ (r : WrittenRow). r.name) rows i blank in
    (λ j. is_lt (row_name_cmp (name (k + 1) j) (name k j)))
    ∙ not_less _ (nat_cmp (get_or rows (k + 1) blank).last (get_or rows k blank).last)
    (sorted k blank from (omega arith))

dedup-distinct : (k : RowName) (names : List RowName) → IsDistinct is_same_name (k ∷ names)
    → dedup_from is_same_name k names ≡ k ∷ names
unfolding IsDistinct
dedup-distinct k [] h = refl
dedup-distinct k (n ∷ names) h =
    ap (λ (b : Bool). cond b (dedup_from is_same_name k names)
    (k ∷ dedup_from is_same_name n names)) (same_laws.symm n k ∙ h.0.0)
    ∙ ap (λ (ns : List RowName). k ∷ ns) (dedup-distinct n names h.1)

strict : (names : List RowName) → IsSorted row_name_cmp names → IsDistinct is_same_name names
    → IsStrictlySortedBy row_name_cmp names
unfolding IsStrictlySortedBy
strict [] sorted distinct = tt
strict (n ∷ names) sorted distinct =
    subst (IsStrictlySortedBy row_name_cmp) (dedup-distinct n names distinct)
    (IsStrictlySortedBy-dedup row_name_cmp_total (λ x y. refl) (n ∷ names) sorted)

pub written : (names : List RowName) (listed rows : List WrittenRow) → ListsNotes listed names
    → IsPermutation listed rows → IsSorted row_cmp rows → AreWrittenRows rows names
written names listed rows lists given sorted =
    let entries = lists.entries in
    let h = lists.notes in
    let moves : IsPermutation (map written_row entries) rows =
    subst (λ (ls : List WrittenRow). IsPermutation ls rows) lists.listed given in
    let distinct : IsDistinct is_same_name (map (λ (r : WrittenRow). r.name) rows) =
    IsDistinct-IsPermutation is_same_name same_laws.symm (map name_of_ref (keys_of entries))
    (map (λ (r : WrittenRow). r.name) rows)
    (subst (λ (ns : List RowName). IsPermutation ns (map (λ (r : WrittenRow). r.name) rows))
    (names-listed entries)
    (IsPermutation-map (λ (r : WrittenRow). r.name) (map written_row entries) rows moves))
    h.distinct in
    let pairs : IsPermutation (by_name entries) (map (λ (r : WrittenRow). (r.name, r.last)) rows) =
    subst (λ (ps : List (RowName × ℕ)). IsPermutation ps
    (map (λ (r : WrittenRow). (r.name, r.last)) rows)) (pairs-listed entries)
    (IsPermutation-map (λ (r : WrittenRow). (r.name, r.last))
    (map written_row entries) rows moves) in
    record {
      ascending = strict (map (λ (r : WrittenRow). r.name) rows)
          (sorted-names rows sorted) distinct;
      last = λ name.
          lookup_permutation same_laws (by_name entries)
          (map (λ (r : WrittenRow). (r.name, r.last)) rows) pairs
          (subst (IsDistinct is_same_name) (sym (keys-pairs rows)) distinct) (is_same_name name)
          (λ x y e. same_laws.congr name x y e)
          ∙ lookup-by_name name entries ∙ h.last name;
      count = length_permutation
          (map written_row entries) rows moves ∙ length-map entries written_row ∙ length-noted
          entries names h;
    }
