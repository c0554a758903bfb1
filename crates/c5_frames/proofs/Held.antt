-- What a buffer holds, by numbers.
use Rattle.std.proofs.Common.{◌≡◌, ◌∙◌, ℕ, zero, suc, ◌+◌, ◌-◌, ◌<◌, ◌≤◌, List, [], ◌∷◌, ◌++◌}
use Rattle.std.proofs.Common.{length, take, get_or, Option, Some, None, Result, Ok, refl, sym, ap}
use Rattle.std.proofs.Common.{subst, arith}
use Rattle.std.specs.List.{slice_get}
use Rattle.std.specs.Option.{option_map, IfSome}
use Rattle.std.proofs.lemmas.List.{append-nil, length-append}
use Rattle.std.proofs.lemmas.List.Folds.{length-flat_map-take}
use Rattle.std.proofs.lemmas.Option.{slice_get_read, get_or_from_slice_get, slice_get_within}
use Rattle.c5_rows.specs.declared.tables.TableDef.{TableDef}
use Rattle.c5_rows.specs.declared.writes.Write.{Write}
use Rattle.c5_rows.specs.declared.writes.Txn.{Txn}
use Rattle.c5_definitions.specs.declared.fault.LogKind.{LogKind}
use Rattle.c5_definitions.specs.Frames.{Frame, write, frame_at}
use Rattle.c5_frames.specs.declared.index.Place.{Place}
use Rattle.c5_frames.specs.declared.index.TxnRef.{TxnRef}
use Rattle.c5_frames.specs.declared.index.Index.{Index}
use Rattle.c5_frames.specs.Index.{found_in, writes_of, txn_ref_of, LiesAt}
use Rattle.c5_frames.specs.Holding.{txns_in, HoldsLog}
use Rattle.c5_frames.proofs.Indexing.{LieAt-get, txn_refs-length, txn_refs-get, open-length}
use Rattle.c5_frames.proofs.Last.{slice_get-behind}

pub txns-length : (bytes : List ℕ) (tables : List TableDef) (index : Index)
    → HoldsLog bytes tables index → length index.txns.items ≡ length (txns_in bytes)
txns-length bytes tables index h =
    ap (λ (es : List TxnRef). length es) h.found.entries ∙ txn_refs-length 1 (txns_in bytes)

pub writes-length : (bytes : List ℕ) (tables : List TableDef) (index : Index)
    → HoldsLog bytes tables index → length index.places.items ≡ length (writes_of (txns_in bytes))
writes-length bytes tables index h =
    let closed = h.found.closed in
    omega (arith, closed, open-length bytes tables (found_in index) (txns_in bytes) [] h.found)

pub entry-at : (bytes : List ℕ) (tables : List TableDef) (index : Index) (p : ℕ) (entry : TxnRef)
    → HoldsLog bytes tables index → p < length (txns_in bytes)
    → entry ≡ get_or index.txns.items p entry
    → Some entry ≡ option_map (txn_ref_of (length (writes_of (take p (txns_in bytes))) + 1))
    (slice_get (txns_in bytes) p)
entry-at bytes tables index p entry h within is =
    let txns = txns_in bytes in
    let same : 1 + length (writes_of (take p txns)) ≡ length (writes_of (take p txns)) + 1 =
    omega arith in
    sym (slice_get_read index.txns.items (length txns) p entry
    (sym (txns-length bytes tables index h)) within is)
    ∙ ap (λ (es : List TxnRef). slice_get es p) h.found.entries
    ∙ txn_refs-get 1 txns p
    ∙ ap (λ (n : ℕ). option_map (txn_ref_of n) (slice_get txns p)) same

pub entry-is : (first : ℕ) (entry : TxnRef) (o : Option Txn)
    → Some entry ≡ option_map (txn_ref_of first) o → (txn : Txn) × (o ≡ Some txn)
    × (entry ≡ txn_ref_of first txn)
entry-is first entry None e = absurd cc
entry-is first entry (Some txn) e = (txn, refl, same entry (txn_ref_of first txn) e)
  where
    same : (a b : TxnRef) → Some a ≡ Some b → a ≡ b
    same a b e = cc

slice_get-front : {X : Type 0} (xs ys : List X) (i : ℕ) → i < length xs
    → slice_get (xs ++ ys) i ≡ slice_get xs i
slice_get-front [] ys i lt = absurd (omega arith)
slice_get-front (x ∷ xs) ys zero lt = refl
slice_get-front (x ∷ xs) ys (suc i) lt = slice_get-front xs ys i (omega arith)

same-txn : (t txn : Txn) → Some t ≡ Some txn → t ≡ txn
same-txn t txn e = cc

-- the writes of a transaction among all writes
pub writes-at : (txns : List Txn) (p : ℕ) (txn : Txn) (i k : ℕ) → slice_get txns p ≡ Some txn
    → i < length txn.writes → k ≡ length (writes_of (take p txns)) + i
    → slice_get (writes_of txns) k ≡ slice_get txn.writes i
writes-at [] p txn i k found lt at = absurd cc
writes-at (t ∷ txns) zero txn i k found lt at =
    let same = same-txn t txn found in
    let at_i : k ≡ i = omega (arith, at) in
    ap (slice_get (t.writes ++ writes_of txns)) at_i
    ∙ ap (λ (ws : List Write). slice_get (ws ++ writes_of txns) i) (ap (λ (x : Txn). x.writes) same)
    ∙ slice_get-front txn.writes (writes_of txns) i lt
writes-at (t ∷ txns) (suc p) txn i k found lt at =
    let before : k ≡ length t.writes + (length (writes_of (take p txns)) + i) =
    omega (arith, at, length-append t.writes (writes_of (take p txns))) in
    slice_get-behind t.writes (writes_of txns) k (length (writes_of (take p txns)) + i) before
    ∙ writes-at txns p txn i (length (writes_of (take p txns)) + i) found lt refl

pub entry-within : (txns : List Txn) (p : ℕ) (entry : TxnRef)
    → Some entry ≡ option_map (txn_ref_of (length (writes_of (take p txns)) + 1)) (slice_get txns p)
    → entry.first + entry.count ≤ length (writes_of txns) + 1
entry-within txns p entry e =
    let found = entry-is (length (writes_of (take p txns)) + 1) entry (slice_get txns p) e in
    let txn = found.0 in
    let at = get_or_from_slice_get txns p txn txn found.1 in
    let most = length-flat_map-take (λ (t : Txn). t.writes) txns p txn
    (slice_get_within txns p txn found.1) in
    let first : entry.first ≡ length (writes_of (take p txns)) + 1 =
    ap (λ (x : TxnRef). x.first) found.2 in
    let count : entry.count ≡ length txn.writes = ap (λ (x : TxnRef). x.count) found.2 in
    let same : length (get_or txns p txn).writes ≡ length txn.writes =
    ap (λ (t : Txn). length t.writes) at in
    omega (arith, most, first, count, same)

pub entry-writes : (txns : List Txn) (p : ℕ) (entry : TxnRef)
    → Some entry ≡ option_map (txn_ref_of (length (writes_of (take p txns)) + 1)) (slice_get txns p)
    → IfSome (slice_get txns p)
    (λ txn. (i : ℕ) → i < entry.count
    → slice_get (writes_of txns) (entry.first + i - 1) ≡ slice_get txn.writes i)
entry-writes txns p entry e =
    let found = entry-is (length (writes_of (take p txns)) + 1) entry (slice_get txns p) e in
    let txn = found.0 in
    let first : entry.first ≡ length (writes_of (take p txns)) + 1 =
    ap (λ (x : TxnRef). x.first) found.2 in
    let count : entry.count ≡ length txn.writes = ap (λ (x : TxnRef). x.count) found.2 in
    subst (λ (o : Option Txn). IfSome o
    (λ txn. (i : ℕ) → i < entry.count
    → slice_get (writes_of txns) (entry.first + i - 1) ≡ slice_get txn.writes i)) (sym found.1)
    (λ i lt. writes-at txns p txn i (entry.first + i - 1) found.1 (omega (arith, count))
    (omega (arith, first)))

abbrev read_as : Write → Result Frame LogKind
read_as w = Ok (write w)

same-write : (w v : Write) → read_as w ≡ read_as v → w ≡ v
same-write w v e = cc

pub write-at : (bytes : List ℕ) (tables : List TableDef) (index : Index) (w : ℕ) (place : Place)
    → HoldsLog bytes tables index → 1 ≤ w → w ≤ length (writes_of (txns_in bytes))
    → place ≡ get_or index.places.items (w - 1) place
    → (v : Write) × (slice_get (writes_of (txns_in bytes)) (w - 1) ≡ Some v)
    × LiesAt bytes tables place v
write-at bytes tables index w place h some within is =
    let all = writes_of (txns_in bytes) in
    let found = LieAt-get bytes tables index.places.items (all ++ []) (w - 1) place h.found.places
    (omega (arith, writes-length bytes tables index h)) in (
      found.0,
      ap (λ (ws : List Write). slice_get ws (w - 1)) (sym (append-nil all)) ∙ found.1,
      subst (λ (p : Place). LiesAt bytes tables p found.0) (sym is) found.2,
    )

pub same-at : (tables : List TableDef) (payload : List ℕ) (w v : Write)
    → frame_at tables payload ≡ Ok (write w) → frame_at tables payload ≡ Ok (write v) → w ≡ v
same-at tables payload w v a b = same-write w v (sym a ∙ b)
