-- What an index says of a log.
use Rattle.std.specs.Prelude.{◌≡◌, ◌<◌, ◌≤◌, ◌+◌, ◌*◌, ◌-◌, ℕ, List, [], ◌∷◌, ◌++◌, length, take}
use Rattle.std.specs.Prelude.{drop, Ok, vec_capacity}
use Rattle.std.specs.List.{flat_map}
use Rattle.c5_rows.specs.declared.tables.TableDef.{TableDef}
use Rattle.c5_rows.specs.declared.writes.Write.{Write}
use Rattle.c5_rows.specs.declared.writes.Txn.{Txn}
use Rattle.c5_definitions.specs.Frames.{write, frame_at}
use Rattle.c5_frames.specs.declared.index.Place.{Place}
use Rattle.c5_frames.specs.declared.index.TxnRef.{TxnRef}
use Rattle.c5_frames.specs.declared.index.Index.{Index}

-- where the writes lie, the transactions, the number of writes before the last commit mark, its
-- stamp or 0
pub record Found : Type 0 where
  pub places : List Place
  pub txns : List TxnRef
  pub closed : ℕ
  pub stamp : ℕ

abbrev pub found_in : Index → Found
found_in index =
    record {
      places = index.places.items;
      txns = index.txns.items;
      closed = index.closed;
      stamp = index.stamp;
    }

-- one more write
abbrev pub with_payload_place : Found → Place → Found
with_payload_place f place =
    record { places = f.places ++ place ∷ []; txns = f.txns; closed = f.closed; stamp = f.stamp }

-- one more transaction, of the writes since the last commit mark
abbrev pub with_txn : Found → ℕ → ℕ → Found
with_txn f script stamp =
    record {
      places = f.places;
      txns = f.txns
          ++ record {
            script = script;
            stamp = stamp;
            first = f.closed + 1;
            count = length f.places - f.closed;
          } ∷ [];
      closed = length f.places;
      stamp = stamp;
    }

-- what so many bytes can bring finds room
pub record HasRoom (bytes : ℕ) (index : Index) : Type 0 where
  pub places : 5 * length index.places.items + bytes < 5 * vec_capacity index.places + 5
  pub txns : 5 * length index.txns.items + bytes < 5 * vec_capacity index.txns + 5

-- ---- against the tables and the transactions

-- all writes of the transactions, in order
abbrev pub writes_of : List Txn → List Write
writes_of txns = flat_map (λ (txn : Txn). txn.writes) txns

-- what is said of a transaction whose first write has this number
abbrev pub txn_ref_of : ℕ → Txn → TxnRef
txn_ref_of first txn =
    record { script = txn.script; stamp = txn.stamp; first = first; count = length txn.writes }

-- the same of each transaction
abbrev pub txn_refs_from : ℕ → List Txn → List TxnRef
txn_refs_from first [] = []
txn_refs_from first (txn ∷ txns) = txn_ref_of first txn
    ∷ txn_refs_from (first + length txn.writes) txns

-- the payload at a place
abbrev pub payload_at : List ℕ → Place → List ℕ
payload_at bytes place = take place.size (drop place.at bytes)

-- at this place lies the payload of the write
pub record LiesAt (bytes : List ℕ) (tables : List TableDef) (place : Place)
    (w : Write) : Type 0 where
  pub within : place.at + place.size ≤ length bytes
  pub read : frame_at tables (payload_at bytes place) ≡ Ok (write w)

-- at these places lie the payloads of the writes, in order
unfoldable pub LieAt : List ℕ → List TableDef → List Place → List Write → Type 0
LieAt bytes tables [] [] = Unit {0}
LieAt bytes tables [] (w ∷ writes) = ⊥
LieAt bytes tables (place ∷ places) [] = ⊥
LieAt bytes tables (place ∷ places) (w ∷ writes) = LiesAt bytes tables place w
    × LieAt bytes tables places writes

-- the index of these transactions, and of the writes after them
pub record IsIndex (bytes : List ℕ) (tables : List TableDef) (f : Found) (txns : List Txn)
    (writes : List Write) : Type 0 where
  pub entries : f.txns ≡ txn_refs_from 1 txns
  pub closed : f.closed ≡ length (writes_of txns)
  pub places : LieAt bytes tables f.places (writes_of txns ++ writes)
