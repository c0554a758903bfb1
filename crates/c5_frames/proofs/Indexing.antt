-- An index against the transactions: one more write, one more transaction, more bytes, what is at a
-- number.
use Rattle.std.proofs.Common.{◌≡◌, ◌∙◌, ℕ, zero, suc, ◌+◌, ◌-◌, ◌<◌, ◌≤◌, List, [], ◌∷◌, ◌++◌}
use Rattle.std.proofs.Common.{length, take, drop, get_or, Some, refl, sym, ap, subst, append_assoc}
use Rattle.std.proofs.Common.{arith}
use Rattle.std.specs.List.{slice_get}
use Rattle.std.specs.Option.{option_map}
use Rattle.std.proofs.lemmas.List.{append-nil, length-append, length-drop, take-append-le}
use Rattle.std.proofs.lemmas.List.{drop-append-le}
use Rattle.std.proofs.lemmas.Grind.{flat_map-append}
use Rattle.c5_rows.specs.declared.tables.TableDef.{TableDef}
use Rattle.c5_rows.specs.declared.writes.Write.{Write}
use Rattle.c5_rows.specs.declared.writes.Txn.{Txn}
use Rattle.c5_definitions.specs.Frames.{frame_at}
use Rattle.c5_frames.specs.declared.index.Place.{Place}
use Rattle.c5_frames.specs.declared.index.TxnRef.{TxnRef}
use Rattle.c5_frames.specs.Index.{Found, with_payload_place, with_txn, writes_of, txn_ref_of}
use Rattle.c5_frames.specs.Index.{txn_refs_from, payload_at, LiesAt, LieAt, IsIndex}

-- ---- places

pub LieAt-length : (bytes : List ℕ) (tables : List TableDef) (places : List Place)
    (writes : List Write) → LieAt bytes tables places writes → length places ≡ length writes
unfolding LieAt
LieAt-length bytes tables [] [] h = refl
LieAt-length bytes tables [] (w ∷ writes) h = absurd h
LieAt-length bytes tables (place ∷ places) [] h = absurd h
LieAt-length bytes tables (place ∷ places) (w ∷ writes) h = let e =
    LieAt-length bytes tables places writes h.1 in omega (arith, e)

pub LieAt-none : (bytes : List ℕ) (tables : List TableDef) → LieAt bytes tables [] []
unfolding LieAt
LieAt-none bytes tables = tt

pub LieAt-push : (bytes : List ℕ) (tables : List TableDef) (places : List Place)
    (writes : List Write) (place : Place) (w : Write) → LieAt bytes tables places writes
    → LiesAt bytes tables place w → LieAt bytes tables (places ++ place ∷ []) (writes ++ w ∷ [])
unfolding LieAt
LieAt-push bytes tables [] [] place w h new = (new, tt)
LieAt-push bytes tables [] (v ∷ writes) place w h new = absurd h
LieAt-push bytes tables (p ∷ places) [] place w h new = absurd h
LieAt-push bytes tables (p ∷ places) (v ∷ writes) place w h new =
    (h.0, LieAt-push bytes tables places writes place w h.1 new)

payload_at-more : (bytes more : List ℕ) (place : Place) → place.at + place.size ≤ length bytes
    → payload_at (bytes ++ more) place ≡ payload_at bytes place
payload_at-more bytes more place within =
    ap (take place.size) (drop-append-le place.at bytes more (omega arith))
    ∙ take-append-le place.size (drop place.at bytes) more
    (omega (arith, length-drop place.at bytes))

LiesAt-more : (bytes more : List ℕ) (tables : List TableDef) (place : Place) (w : Write)
    → LiesAt bytes tables place w → LiesAt (bytes ++ more) tables place w
LiesAt-more bytes more tables place w h =
    let within = h.within in
    record {
      within = omega (arith, length-append bytes more);
      read = ap (frame_at tables) (payload_at-more bytes more place within) ∙ h.read;
    }

pub LieAt-more : (bytes more : List ℕ) (tables : List TableDef) (places : List Place)
    (writes : List Write) → LieAt bytes tables places writes
    → LieAt (bytes ++ more) tables places writes
unfolding LieAt
LieAt-more bytes more tables [] [] h = tt
LieAt-more bytes more tables [] (w ∷ writes) h = absurd h
LieAt-more bytes more tables (place ∷ places) [] h = absurd h
LieAt-more bytes more tables (place ∷ places) (w ∷ writes) h =
    (LiesAt-more bytes more tables place w h.0, LieAt-more bytes more tables places writes h.1)

-- the write at a place
pub LieAt-get : (bytes : List ℕ) (tables : List TableDef) (places : List Place)
    (writes : List Write) (i : ℕ) (d : Place) → LieAt bytes tables places writes → i < length places
    → (w : Write) × (slice_get writes i ≡ Some w) × LiesAt bytes tables (get_or places i d) w
unfolding LieAt
LieAt-get bytes tables [] [] i d h lt = absurd (omega arith)
LieAt-get bytes tables [] (w ∷ writes) i d h lt = absurd h
LieAt-get bytes tables (place ∷ places) [] i d h lt = absurd h
LieAt-get bytes tables (place ∷ places) (w ∷ writes) zero d h lt = (w, refl, h.0)
LieAt-get bytes tables (place ∷ places) (w ∷ writes) (suc i) d h lt =
    LieAt-get bytes tables places writes i d h.1 (omega arith)

-- ---- transactions

pub writes_of-push : (txns : List Txn) (txn : Txn)
    → writes_of (txns ++ txn ∷ []) ≡ writes_of txns ++ txn.writes
writes_of-push txns txn = flat_map-append (λ (t : Txn). t.writes) txns (txn ∷ []) ∙ ap
    (λ (ws : List Write). writes_of txns ++ ws) (append-nil txn.writes)

pub txn_refs-push : (first : ℕ) (txns : List Txn) (txn : Txn)
    → txn_refs_from first (txns ++ txn ∷ [])
    ≡ txn_refs_from first txns ++ txn_ref_of (first + length (writes_of txns)) txn ∷ []
txn_refs-push first [] txn = ap (λ (n : ℕ). txn_ref_of n txn ∷ []) (omega arith)
txn_refs-push first (t ∷ txns) txn =
    let e : first + length t.writes + length (writes_of txns)
    ≡ first + length (t.writes ++ writes_of txns) =
    omega (arith, length-append t.writes (writes_of txns)) in
    ap (λ (es : List TxnRef). txn_ref_of first t ∷ es)
    (txn_refs-push (first + length t.writes) txns txn ∙ ap
    (λ (n : ℕ). txn_refs_from (first + length t.writes) txns ++ txn_ref_of n txn ∷ []) e)

pub txn_refs-length : (first : ℕ) (txns : List Txn)
    → length (txn_refs_from first txns) ≡ length txns
txn_refs-length first [] = refl
txn_refs-length first (txn ∷ txns) = let e = txn_refs-length (first + length txn.writes) txns in
    omega (arith, e)

pub txn_refs-get : (first : ℕ) (txns : List Txn) (p : ℕ)
    → slice_get (txn_refs_from first txns) p
    ≡ option_map (txn_ref_of (first + length (writes_of (take p txns)))) (slice_get txns p)
txn_refs-get first [] p = refl
txn_refs-get first (txn ∷ txns) zero = ap (λ (n : ℕ). Some (txn_ref_of n txn)) (omega arith)
txn_refs-get first (txn ∷ txns) (suc p) =
    let e : first + length txn.writes + length (writes_of (take p txns))
    ≡ first + length (txn.writes ++ writes_of (take p txns)) =
    omega (arith, length-append txn.writes (writes_of (take p txns))) in
    txn_refs-get (first + length txn.writes) txns p ∙ ap
    (λ (n : ℕ). option_map (txn_ref_of n) (slice_get txns p)) e

-- ---- an index

pub IsIndex-more : (bytes more : List ℕ) (tables : List TableDef) (f : Found) (txns : List Txn)
    (writes : List Write) → IsIndex bytes tables f txns writes
    → IsIndex (bytes ++ more) tables f txns writes
IsIndex-more bytes more tables f txns writes h =
    record {
      entries = h.entries;
      closed = h.closed;
      places = LieAt-more bytes more tables f.places (writes_of txns ++ writes) h.places;
    }

pub IsIndex-written : (bytes : List ℕ) (tables : List TableDef) (f : Found) (txns : List Txn)
    (writes : List Write) (place : Place) (w : Write)
    → IsIndex bytes tables f txns writes → LiesAt bytes tables place w
    → IsIndex bytes tables (with_payload_place f place) txns (writes ++ w ∷ [])
IsIndex-written bytes tables f txns writes place w h new = record {
  entries = h.entries;
  closed = h.closed;
  places = subst (LieAt bytes tables (f.places ++ place ∷ []))
      (append_assoc (writes_of txns) writes (w ∷ []))
      (LieAt-push bytes tables f.places (writes_of txns ++ writes) place w h.places new);
}

pub open-length : (bytes : List ℕ) (tables : List TableDef) (f : Found) (txns : List Txn)
    (writes : List Write) → IsIndex bytes tables f txns writes
    → length f.places ≡ f.closed + length writes
open-length bytes tables f txns writes h =
    let closed = h.closed in
    omega (
      arith,
      LieAt-length bytes tables f.places (writes_of txns ++ writes) h.places,
      length-append (writes_of txns) writes,
    )

pub IsIndex-marked : (bytes : List ℕ) (tables : List TableDef) (f : Found) (txns : List Txn)
    (writes : List Write) (script stamp : ℕ)
    → IsIndex bytes tables f txns writes
    → IsIndex bytes tables (with_txn f script stamp)
    (txns ++ record { script = script; stamp = stamp; writes = writes } ∷ []) []
IsIndex-marked bytes tables f txns writes script stamp h =
    let txn : Txn = record { script = script; stamp = stamp; writes = writes } in
    let open_is = open-length bytes tables f txns writes h in
    let closed = h.closed in
    let all = writes_of-push txns txn in
    let first : f.closed + 1 ≡ 1 + length (writes_of txns) = omega (arith, closed) in
    let count : length f.places - f.closed ≡ length writes = omega (arith, open_is) in
    let entry : TxnRef =
    record {
      script = script;
      stamp = stamp;
      first = f.closed + 1;
      count = length f.places - f.closed;
    } in
    let same : entry ≡ txn_ref_of (1 + length (writes_of txns)) txn =
    ap (λ (n : ℕ). record {
      script = script;
      stamp = stamp;
      first = n;
      count = length f.places - f.closed;
    }) first ∙ ap
    (λ (n : ℕ). record {
      script = script;
      stamp = stamp;
      first = 1 + length (writes_of txns);
      count = n;
    }) count in
    record {
      entries = ap (λ (es : List TxnRef). es ++ entry ∷ []) h.entries ∙ ap
          (λ (e : TxnRef). txn_refs_from 1 txns ++ e ∷ []) same ∙ sym (txn_refs-push 1 txns txn);
      closed = open_is ∙ ap (λ (n : ℕ). n + length writes) closed ∙ sym
          (length-append (writes_of txns) writes) ∙ sym (ap length all);
      places = subst (LieAt bytes tables f.places)
          (sym all ∙ sym (append-nil (writes_of (txns ++ txn ∷ [])))) h.places;
    }
