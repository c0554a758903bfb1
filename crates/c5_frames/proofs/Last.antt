-- The last write since the last commit mark.
use Rattle.std.proofs.Common.{◌≡◌, ◌∙◌, ℕ, zero, suc, ◌+◌, ◌-◌, ◌<◌, true, List, [], ◌∷◌, ◌++◌}
use Rattle.std.proofs.Common.{length, get_or, Some, refl, sym, ap, subst, arith}
use Rattle.std.specs.List.{slice_get}
use Rattle.c5_rows.specs.declared.tables.TableDef.{TableDef}
use Rattle.c5_rows.specs.declared.writes.RowName.{RowName}
use Rattle.c5_rows.specs.declared.writes.Write.{Write}
use Rattle.c5_rows.specs.declared.writes.Txn.{Txn}
use Rattle.c5_definitions.specs.Items.{is_above, last_of}
use Rattle.c5_frames.specs.declared.index.Place.{Place}
use Rattle.c5_frames.specs.declared.payload.NameRef.{NameRef}
use Rattle.c5_frames.specs.Payloads.{name_of}
use Rattle.c5_frames.specs.Index.{Found, writes_of, LiesAt, IsIndex}
use Rattle.c5_frames.proofs.Indexing.{LieAt-get, open-length}

-- an element after the first list
pub slice_get-behind : {X : Type 0} (xs ys : List X) (k i : ℕ) → k ≡ length xs + i
    → slice_get (xs ++ ys) k ≡ slice_get ys i
slice_get-behind [] ys k i e = ap (slice_get ys) (omega (arith, e))
slice_get-behind (x ∷ xs) ys zero i e = absurd (omega (arith, e))
slice_get-behind (x ∷ xs) ys (suc k) i e = slice_get-behind xs ys k i (omega (arith, e))

pub last-write : (bytes : List ℕ) (tables : List TableDef) (f : Found) (txns : List Txn)
    (writes : List Write) (i : ℕ) (place : Place) → IsIndex bytes tables f txns writes
    → (length f.places - f.closed ≡ 0 → ⊥) → i ≡ length f.places - 1
    → place ≡ get_or f.places i place
    → (w : Write) × (last_of writes ≡ Some w) × LiesAt bytes tables place w
last-write bytes tables f txns writes i place h some at is =
    let open_is = open-length bytes tables f txns writes h in
    let closed = h.closed in
    let found = LieAt-get bytes tables f.places (writes_of txns ++ writes) i place h.places
    (within (length f.places) f.closed (length writes) i some open_is at) in (
      found.0,
      sym (slice_get-behind (writes_of txns) writes i (length writes - 1)
          (behind (length f.places) f.closed (length writes) i
          (length (writes_of txns)) some open_is at closed)) ∙ found.1,
      subst (λ (p : Place). LiesAt bytes tables p found.0) (sym is) found.2,
    )
  where
    within : (n closed since i : ℕ) → (n - closed ≡ 0 → ⊥) → n ≡ closed + since → i ≡ n - 1 → i < n
    within n closed since i some e at = omega (arith, some, e, at)

    behind : (n closed since i all : ℕ) → (n - closed ≡ 0 → ⊥) → n ≡ closed + since → i ≡ n - 1
        → closed ≡ all → i ≡ all + (since - 1)
    behind n closed since i all some e at c = omega (arith, some, e, at, c)

-- if there is no write since the last mark, each name is above
pub above-none : (name : RowName) (writes : List Write) → length writes ≡ 0
    → true ≡ is_above name (last_of writes)
above-none name [] e = refl
above-none name (w ∷ writes) e = absurd (omega (arith, e))

pub same-name : (name : NameRef) (other : RowName) → name.table ≡ other.table
    → name.key.now ≡ other.key → name_of name ≡ other
same-name name other table key =
    ap (λ (t : ℕ). record { table = t; key = name.key.now }) table ∙ ap
    (λ (k : List ℕ). record { table = other.table; key = k }) key
