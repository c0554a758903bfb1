-- A decoder that is ready takes the next payload, or finds its fault.
use Rattle.std.proofs.Common.{◌≡◌, ◌∙◌, ℕ, ◌+◌, ◌-◌, ◌<◌, ◌≤◌, true, false, List, length, Ok, Err}
use Rattle.std.proofs.Common.{sym, ap, subst, arith}
use Rattle.c5_rows.specs.declared.writes.RowName.{RowName}
use Rattle.c5_definitions.specs.declared.fault.LogKind.{LogKind}
use Rattle.c5_definitions.specs.declared.fault.LogKind.TheVariants as kinds
use Rattle.c5_definitions.specs.Frames.{Mark, frame_at}
use Rattle.c5_definitions.specs.Items.{frame_payload, is_above, last_of}
use Rattle.c5_frames.specs.Payloads.{shows_name, marked, ended, shown_at}
use Rattle.c5_frames.specs.declared.stage.Stage.TheVariants as stages
use Rattle.c5_frames.specs.declared.index.TxnRef.{TxnRef}
use Rattle.c5_frames.specs.declared.index.Index.{Index}
use Rattle.c5_frames.specs.declared.decoder_state.DecoderState.{DecoderState}
use Rattle.c5_frames.specs.Stages.{item_of}
use Rattle.c5_frames.specs.Index.{Found, found_in, with_payload_place, with_txn, HasRoom}
use Rattle.c5_frames.specs.DecoderStates.{decoded_state, tables_of, IsDue, Tracks, IsReady, Faults}
use Rattle.c5_frames.proofs.Indexing.{open-length, txn_refs-length}
use Rattle.c5_frames.proofs.Tracking.{payload_state, behind_frame, item_at, Tracks-payload}
use Rattle.c5_frames.proofs.Tracking.{Faults-payload, holds-end, holds-mark, holds-write}
use Rattle.c5_frames.proofs.Tracking.{holds-fault, payload-fault, Tracks-written, Faults-order}
use Rattle.c5_frames.proofs.Tracking.{Tracks-marked, Faults-stamp, Faults-count, Tracks-ended}
use Rattle.c5_frames.proofs.Tracking.{Faults-open, Faults-end, HasRoom-less}

-- ready to take a payload of this size, which has come whole
pub record Takes (bytes : List ℕ) (p : DecoderState) (size : ℕ) : Type 0 where
  pub ready : IsReady bytes p
  pub stage : p.stage ≡ stages.Payload size
  pub whole : p.at + size ≤ length bytes

is_item : (bytes : List ℕ) (p : DecoderState) (size : ℕ) → Takes bytes p size
    → (decoded_state p).next ≡ frame_payload size
is_item bytes p size h = ap item_of h.stage

pub tracks : (bytes : List ℕ) (p : DecoderState) (size : ℕ) → Takes bytes p size
    → Tracks bytes (payload_state (tables_of p.schema) p.at (found_in p.index) size)
tracks bytes p size h = Tracks-payload bytes (decoded_state p) size
    (is_item bytes p size h) h.ready.tracks

faults : (bytes : List ℕ) (p : DecoderState) (size : ℕ) (kind : LogKind) → Takes bytes p size
    → Faults bytes (payload_state (tables_of p.schema) p.at (found_in p.index) size) kind
    → Faults bytes (decoded_state p) kind
faults bytes p size kind h f = Faults-payload bytes (decoded_state p) size kind
    (is_item bytes p size h) f

-- the number of writes since the last mark, and that of the transactions
open-is : (bytes : List ℕ) (p : DecoderState) (size : ℕ) (h : Takes bytes p size)
    → length p.index.places.items ≡ p.index.closed + length (tracks bytes p size h).writes
open-is bytes p size h = let t = tracks bytes p size h in
    open-length bytes (tables_of p.schema) (found_in p.index) t.txns t.writes t.index

txns-are : (bytes : List ℕ) (p : DecoderState) (size : ℕ) (h : Takes bytes p size)
    → length p.index.txns.items ≡ length (tracks bytes p size h).txns
txns-are bytes p size h = let t = tracks bytes p size h in
    ap (λ (es : List TxnRef). length es) t.index.entries ∙ txn_refs-length 1 t.txns

pub closed-within : (bytes : List ℕ) (p : DecoderState) → IsReady bytes p
    → p.index.closed ≤ length p.index.places.items
closed-within bytes p h = let t = h.tracks in
    omega (arith, open-length bytes (tables_of p.schema) (found_in p.index) t.txns t.writes t.index)

pub least-size : (bytes : List ℕ) (p : DecoderState) (size : ℕ) → Takes bytes p size → 5 ≤ size
unfolding IsDue
least-size bytes p size h = (tracks bytes p size h).due.1

-- ---- the end mark

pub ready-ended : (bytes : List ℕ) (p : DecoderState) (size count : ℕ) → Takes bytes p size
    → shown_at (tables_of p.schema) (item_at bytes p.at size) ≡ Ok (ended count)
    → length p.index.places.items - p.index.closed ≡ 0 → length p.index.txns.items ≡ count
    → IsReady bytes
    (record {
      schema = p.schema;
      stage = stages.NothingMore;
      at = p.at + size;
      index = p.index;
    })
ready-ended bytes p size count h shown none all =
    let t = tracks bytes p size h in
    let read = holds-end (frame_at (tables_of p.schema) (item_at bytes p.at size)) count shown in
    let none_is : length t.writes ≡ 0 = omega (arith, open-is bytes p size h, none) in
    record {
      tracks = Tracks-ended bytes (tables_of p.schema) p.at
          (found_in p.index) size count t h.whole read none_is
          (sym (txns-are bytes p size h) ∙ all);
      room = HasRoom-less (length bytes - p.at) (length bytes - (p.at + size)) p.index
          (omega arith) h.ready.room;
      small = h.ready.small;
    }

pub fault-open : (bytes : List ℕ) (p : DecoderState) (size count : ℕ) → Takes bytes p size
    → shown_at (tables_of p.schema) (item_at bytes p.at size) ≡ Ok (ended count)
    → (length p.index.places.items - p.index.closed ≡ 0 → ⊥)
    → Faults bytes (decoded_state p) kinds.End
fault-open bytes p size count h shown some =
    let t = tracks bytes p size h in
    let read = holds-end (frame_at (tables_of p.schema) (item_at bytes p.at size)) count shown in
    faults bytes p size kinds.End h
    (Faults-open bytes (tables_of p.schema) p.at (found_in p.index) size count t h.whole read
    (λ none. some (omega (arith, open-is bytes p size h, none))))

pub fault-end : (bytes : List ℕ) (p : DecoderState) (size count : ℕ) → Takes bytes p size
    → shown_at (tables_of p.schema) (item_at bytes p.at size) ≡ Ok (ended count)
    → length p.index.places.items - p.index.closed ≡ 0 → (length p.index.txns.items ≡ count → ⊥)
    → Faults bytes (decoded_state p) kinds.End
fault-end bytes p size count h shown none other =
    let t = tracks bytes p size h in
    let read = holds-end (frame_at (tables_of p.schema) (item_at bytes p.at size)) count shown in
    let none_is : length t.writes ≡ 0 = omega (arith, open-is bytes p size h, none) in
    faults bytes p size kinds.End h
    (Faults-end bytes (tables_of p.schema) p.at
    (found_in p.index) size count t h.whole read none_is
    (λ same. other (txns-are bytes p size h ∙ same)))

-- ---- a commit mark

pub ready-marked : (bytes : List ℕ) (p : DecoderState) (size : ℕ) (m : Mark) (index : Index)
    → Takes bytes p size → shown_at (tables_of p.schema) (item_at bytes p.at size) ≡ Ok (marked m)
    → p.index.stamp < m.stamp → m.count ≡ length p.index.places.items - p.index.closed
    → found_in index ≡ with_txn (found_in p.index) m.script m.stamp
    → HasRoom (length bytes - (p.at + size)) index
    → IsReady bytes
    (record { schema = p.schema; stage = stages.FrameLength; at = p.at + size; index = index })
ready-marked bytes p size m index h shown higher count found room =
    let t = tracks bytes p size h in
    let read = holds-mark (frame_at (tables_of p.schema) (item_at bytes p.at size)) m shown in
    let count_is : length t.writes ≡ m.count = omega (arith, open-is bytes p size h, count) in
    record {
      tracks = subst
          (λ (f : Found). Tracks bytes (behind_frame (tables_of p.schema) (p.at + size) f))
          (sym found)
          (Tracks-marked bytes (tables_of p.schema) p.at
          (found_in p.index) size m t h.whole read higher count_is);
      room = room;
      small = h.ready.small;
    }

pub fault-stamp : (bytes : List ℕ) (p : DecoderState) (size : ℕ) (m : Mark) → Takes bytes p size
    → shown_at (tables_of p.schema) (item_at bytes p.at size) ≡ Ok (marked m)
    → m.stamp ≤ p.index.stamp → Faults bytes (decoded_state p) kinds.Stamp
fault-stamp bytes p size m h shown lower =
    let read = holds-mark (frame_at (tables_of p.schema) (item_at bytes p.at size)) m shown in
    faults bytes p size kinds.Stamp h
    (Faults-stamp bytes (tables_of p.schema) p.at (found_in p.index) size m
    (tracks bytes p size h) h.whole read lower)

pub fault-count : (bytes : List ℕ) (p : DecoderState) (size : ℕ) (m : Mark) → Takes bytes p size
    → shown_at (tables_of p.schema) (item_at bytes p.at size) ≡ Ok (marked m)
    → p.index.stamp < m.stamp → (m.count ≡ length p.index.places.items - p.index.closed → ⊥)
    → Faults bytes (decoded_state p) kinds.Count
fault-count bytes p size m h shown higher other =
    let read = holds-mark (frame_at (tables_of p.schema) (item_at bytes p.at size)) m shown in
    faults bytes p size kinds.Count h
    (Faults-count bytes (tables_of p.schema) p.at (found_in p.index) size m
    (tracks bytes p size h) h.whole read higher
    (λ same. other (omega (arith, open-is bytes p size h, same))))

-- ---- a write

pub ready-written : (bytes : List ℕ) (p : DecoderState) (size : ℕ) (name : RowName) (index : Index)
    (h : Takes bytes p size) → shown_at (tables_of p.schema) (item_at bytes p.at size)
    ≡ Ok (shows_name name)
    → is_above name (last_of (tracks bytes p size h).writes) ≡ true
    → found_in index ≡ with_payload_place (found_in p.index) (record { at = p.at; size = size })
    → HasRoom (length bytes - (p.at + size)) index
    → IsReady bytes
    (record { schema = p.schema; stage = stages.FrameLength; at = p.at + size; index = index })
ready-written bytes p size name index h shown above found room =
    let t = tracks bytes p size h in
    let w = holds-write (frame_at (tables_of p.schema) (item_at bytes p.at size)) name shown in
    record {
      tracks = subst
          (λ (f : Found). Tracks bytes (behind_frame (tables_of p.schema) (p.at + size) f))
          (sym found)
          (Tracks-written bytes (tables_of p.schema) p.at (found_in p.index) size w.0 t h.whole w.1
          (ap (λ (n : RowName). is_above n (last_of t.writes)) w.2 ∙ above));
      room = room;
      small = h.ready.small;
    }

pub fault-order : (bytes : List ℕ) (p : DecoderState) (size : ℕ) (name : RowName)
    (h : Takes bytes p size) → shown_at (tables_of p.schema) (item_at bytes p.at size)
    ≡ Ok (shows_name name)
    → is_above name (last_of (tracks bytes p size h).writes) ≡ false
    → Faults bytes (decoded_state p) kinds.Order
fault-order bytes p size name h shown above =
    let t = tracks bytes p size h in
    let w = holds-write (frame_at (tables_of p.schema) (item_at bytes p.at size)) name shown in
    faults bytes p size kinds.Order h
    (Faults-order bytes (tables_of p.schema) p.at (found_in p.index) size w.0 t h.whole w.1
    (ap (λ (n : RowName). is_above n (last_of t.writes)) w.2 ∙ above))

-- ---- a payload that is faulty by itself

pub fault-payload : (bytes : List ℕ) (p : DecoderState) (size : ℕ) (kind : LogKind)
    → Takes bytes p size → shown_at (tables_of p.schema) (item_at bytes p.at size) ≡ Err kind
    → Faults bytes (decoded_state p) kind
fault-payload bytes p size kind h shown =
    faults bytes p size kind h
    (payload-fault bytes (tables_of p.schema) p.at (found_in p.index) size kind
    (tracks bytes p size h) h.whole
    (holds-fault (frame_at (tables_of p.schema) (item_at bytes p.at size)) kind shown))
