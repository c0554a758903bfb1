-- Reading by whole items keeps to the bytes.
use Rattle.std.proofs.Common.{◌≡◌, ◌∙◌, ℕ, ◌+◌, ◌-◌, ◌<◌, ◌≤◌, true, false, List, [], ◌∷◌, ◌++◌}
use Rattle.std.proofs.Common.{length, take, drop, Result, Ok, Err, refl, sym, ap, subst, arith}
use Rattle.std.proofs.Common.{eq-eqb, lt-ltb, le-ltb}
use Rattle.std.proofs.lemmas.Bool.{ne_eqb}
use Rattle.std.proofs.lemmas.List.{take-append-drop, length-take-le, length-drop, drop-drop}
use Rattle.std.proofs.lemmas.List.{length_push}
use Rattle.c5_rows.specs.declared.tables.TableDef.{TableDef}
use Rattle.c5_rows.specs.declared.writes.RowName.{RowName}
use Rattle.c5_rows.specs.declared.writes.Write.{Write}
use Rattle.c5_definitions.specs.declared.fault.LogKind.{LogKind}
use Rattle.c5_definitions.specs.declared.fault.LogKind.TheVariants as kinds
use Rattle.c5_definitions.specs.declared.fault.LogFault.{LogFault}
use Rattle.c5_definitions.specs.Steps.{◌>>=◌}
use Rattle.c5_definitions.specs.Frames.{Mark, Frame, write, mark, end, frame_at}
use Rattle.c5_definitions.specs.Items.{Item, the_magic, table_count, name_length, table_name}
use Rattle.c5_definitions.specs.Items.{column_count, column_types, frame_length, frame_payload}
use Rattle.c5_definitions.specs.Items.{nothing_more, size_of, begin_of, LogSoFar, Reading, last_of}
use Rattle.c5_definitions.specs.Items.{is_above, expecting, after_write, after_mark, after_end}
use Rattle.c5_definitions.specs.Items.{after_frame, after_item, after_whole, after_bytes, at_start}
use Rattle.c5_frames.specs.Payloads.{Shown, shows_name, marked, ended, shown}
use Rattle.c5_frames.specs.declared.index.Place.{Place}
use Rattle.c5_frames.specs.declared.index.TxnRef.{TxnRef}
use Rattle.c5_frames.specs.declared.index.Index.{Index}
use Rattle.c5_frames.specs.Index.{Found, with_payload_place, with_txn, HasRoom}
use Rattle.c5_frames.specs.DecoderStates.{DecodedState, so_far_of, IsDue, IsFoundBefore, Tracks}
use Rattle.c5_frames.specs.DecoderStates.{Faults, HasWhole}
use Rattle.c5_frames.proofs.LawBytes.{after_bytes-append, after_bytes-part, after_bytes-whole}
use Rattle.c5_frames.proofs.Indexing.{open-length, IsIndex-written, IsIndex-marked}

-- before the first byte of an item
abbrev pub before : LogSoFar → ℕ → Reading
before r at = record { so_far = r; offset = at; come = [] }

-- the bytes of the next item
abbrev pub item_at : List ℕ → ℕ → ℕ → List ℕ
item_at bytes at size = take size (drop at bytes)

pub item-length : (bytes : List ℕ) (at size : ℕ) → at + size ≤ length bytes
    → length (item_at bytes at size) ≡ size
item-length bytes at size within =
    length-take-le size (drop at bytes) (omega (arith, length-drop at bytes))

-- a whole item, and then what follows it
item-then : (r : LogSoFar) (at : ℕ) (bytes : List ℕ) → at + size_of r.next ≤ length bytes
    → 0 < size_of r.next
    → after_bytes (before r at) (drop at bytes)
    ≡ (after_whole (before r at) (item_at bytes at (size_of r.next))
    >>= λ n. after_bytes n (drop (at + size_of r.next) bytes))
item-then r at bytes within some =
    let size = size_of r.next in
    let item = item_at bytes at size in
    let len = item-length bytes at size within in
    ap (after_bytes (before r at)) (sym (take-append-drop size (drop at bytes)))
    ∙ after_bytes-append (before r at) item (drop size (drop at bytes))
    ∙ ap (λ (read : Result Reading LogFault). read
    >>= λ n. after_bytes n (drop size (drop at bytes)))
    (after_bytes-whole (before r at) item (omega (arith, len)) (omega (arith, len)))
    ∙ ap (λ (rest : List ℕ). after_whole (before r at) item >>= λ n. after_bytes n rest)
    (drop-drop size at bytes)

after_whole-ok : (r : Reading) (bytes : List ℕ) (s : LogSoFar)
    → after_item r.so_far.next r.so_far bytes ≡ Ok s
    → after_whole r bytes ≡ Ok (record { so_far = s; offset = r.offset + length bytes; come = [] })
unfolding after_whole
after_whole-ok r bytes s e = rw (e, after_whole) refl

after_whole-fault : (r : Reading) (bytes : List ℕ) (kind : LogKind)
    → after_item r.so_far.next r.so_far bytes ≡ Err kind
    → after_whole r bytes ≡ Err (record { offset = begin_of r.so_far.next r.offset; kind = kind })
unfolding after_whole
after_whole-fault r bytes kind e = rw (e, after_whole) refl

pub item-ok : (r : LogSoFar) (at : ℕ) (bytes : List ℕ) (s : LogSoFar)
    → at + size_of r.next ≤ length bytes → 0 < size_of r.next
    → after_item r.next r (item_at bytes at (size_of r.next)) ≡ Ok s
    → after_bytes (before r at) (drop at bytes)
    ≡ after_bytes (before s (at + size_of r.next)) (drop (at + size_of r.next) bytes)
item-ok r at bytes s within some ok =
    let size = size_of r.next in
    item-then r at bytes within some
    ∙ ap (λ (read : Result Reading LogFault). read >>= λ n. after_bytes n (drop (at + size) bytes))
    (after_whole-ok (before r at) (item_at bytes at size) s ok)
    ∙ ap (λ (n : ℕ). after_bytes (before s (at + n)) (drop (at + size) bytes))
    (item-length bytes at size within)

pub item-fault : (r : LogSoFar) (at : ℕ) (bytes : List ℕ) (kind : LogKind)
    → at + size_of r.next ≤ length bytes → 0 < size_of r.next
    → after_item r.next r (item_at bytes at (size_of r.next)) ≡ Err kind
    → after_bytes (before r at) (drop at bytes)
    ≡ Err (record { offset = begin_of r.next at; kind = kind })
item-fault r at bytes kind within some bad =
    let size = size_of r.next in
    item-then r at bytes within some
    ∙ ap (λ (read : Result Reading LogFault). read >>= λ n. after_bytes n (drop (at + size) bytes))
    (after_whole-fault (before r at) (item_at bytes at size) kind bad)

-- less than an item is kept
pub item-part : (r : LogSoFar) (at : ℕ) (bytes : List ℕ) → length bytes < at + size_of r.next
    → at ≤ length bytes
    → after_bytes (before r at) (drop at bytes)
    ≡ Ok (record { so_far = r; offset = at; come = drop at bytes })
item-part r at bytes short within =
    after_bytes-part (before r at) (drop at bytes) (omega (arith, length-drop at bytes))

-- ---- states

pub IsDue-some : (item : Item) (tables : List TableDef) → IsDue item tables → 0 < size_of item
unfolding IsDue
IsDue-some the_magic tables due = omega arith
IsDue-some table_count tables due = omega arith
IsDue-some (name_length missing) tables due = omega arith
IsDue-some (table_name missing size) tables due = due.1
IsDue-some (column_count missing name) tables due = omega arith
IsDue-some (column_types missing name size) tables due = due.2
IsDue-some frame_length tables due = omega arith
IsDue-some (frame_payload size) tables due = omega (arith, due.1)
IsDue-some nothing_more tables due = omega arith

-- a fault of the next item is that of the bytes
pub Faults-item : (bytes : List ℕ) (s : DecodedState) (t : Tracks bytes s) (kind : LogKind)
    → HasWhole bytes s
    → after_item s.next (so_far_of s t.txns t.writes) (item_at bytes s.at (size_of s.next))
    ≡ Err kind → Faults bytes s kind
Faults-item bytes s t kind whole bad =
    t.reads ∙ item-fault (so_far_of s t.txns t.writes) s.at bytes kind whole
    (IsDue-some s.next s.tables t.due) bad

-- what reading comes to after the next item
pub reads-next : (bytes : List ℕ) (s : DecodedState) (t : Tracks bytes s) (next : LogSoFar)
    → HasWhole bytes s
    → after_item s.next (so_far_of s t.txns t.writes) (item_at bytes s.at (size_of s.next))
    ≡ Ok next
    → after_bytes at_start bytes
    ≡ after_bytes (before next (s.at + size_of s.next)) (drop (s.at + size_of s.next) bytes)
reads-next bytes s t next whole ok =
    t.reads ∙ item-ok (so_far_of s t.txns t.writes) s.at bytes next whole
    (IsDue-some s.next s.tables t.due) ok

-- before a payload
abbrev pub payload_state : List TableDef → ℕ → Found → ℕ → DecodedState
payload_state tables at found size =
    record { tables = tables; next = frame_payload size; at = at; found = found }

abbrev pub behind_frame : List TableDef → ℕ → Found → DecodedState
behind_frame tables at found =
    record { tables = tables; next = frame_length; at = at; found = found }

is_payload : (s : DecodedState) (size : ℕ) → s.next ≡ frame_payload size
    → s ≡ payload_state s.tables s.at s.found size
is_payload s size e =
    ap (λ (next : Item). record { tables = s.tables; next = next; at = s.at; found = s.found }) e

pub Tracks-payload : (bytes : List ℕ) (s : DecodedState) (size : ℕ) → s.next ≡ frame_payload size
    → Tracks bytes s → Tracks bytes (payload_state s.tables s.at s.found size)
Tracks-payload bytes s size e t = subst (Tracks bytes) (is_payload s size e) t

pub Faults-payload : (bytes : List ℕ) (s : DecodedState) (size : ℕ) (kind : LogKind)
    → s.next ≡ frame_payload size → Faults bytes (payload_state s.tables s.at s.found size) kind
    → Faults bytes s kind
Faults-payload bytes s size kind e f =
    subst (λ (x : DecodedState). Faults bytes x kind) (sym (is_payload s size e)) f

-- what is shown of a payload says what it holds
abbrev show : Result Frame LogKind → Result Shown LogKind
show r = r >>= λ frame. Ok (shown frame)

pub holds-end : (r : Result Frame LogKind) (count : ℕ) → show r ≡ Ok (ended count)
    → r ≡ Ok (end count)
holds-end (Ok (write w)) count e = absurd cc
holds-end (Ok (mark m)) count e = absurd cc
holds-end (Ok (end n)) count e = let same : n ≡ count = cc in ap (λ (k : ℕ). Ok (end k)) same
holds-end (Err kind) count e = absurd cc

pub holds-mark : (r : Result Frame LogKind) (numbers : Mark) → show r ≡ Ok (marked numbers)
    → r ≡ Ok (mark numbers)
holds-mark (Ok (write w)) numbers e = absurd cc
holds-mark (Ok (mark m)) numbers e = let same : m ≡ numbers = cc in
    ap (λ (k : Mark). Ok (mark k)) same
holds-mark (Ok (end n)) numbers e = absurd cc
holds-mark (Err kind) numbers e = absurd cc

pub holds-write : (r : Result Frame LogKind) (name : RowName) → show r ≡ Ok (shows_name name)
    → (w : Write) × (r ≡ Ok (write w)) × (w.name ≡ name)
holds-write (Ok (write w)) name e = let same : w.name ≡ name = cc in (w, refl, same)
holds-write (Ok (mark m)) name e = absurd cc
holds-write (Ok (end n)) name e = absurd cc
holds-write (Err kind) name e = absurd cc

pub holds-fault : (r : Result Frame LogKind) (kind : LogKind) → show r ≡ Err kind → r ≡ Err kind
holds-fault (Ok frame) kind e = absurd cc
holds-fault (Err other) kind e = let same : other ≡ kind = cc in ap (λ (k : LogKind). Err k) same

-- ---- payloads

after_payload : (size : ℕ) (s : LogSoFar) (bytes : List ℕ) (frame : Frame)
    → frame_at s.tables bytes ≡ Ok frame → after_item (frame_payload size) s bytes
    ≡ after_frame s frame
unfolding after_item
after_payload size s bytes frame e = ap (λ (r : Result Frame LogKind). r >>= λ f. after_frame s f) e

pub payload-fault : (bytes : List ℕ) (tables : List TableDef) (at : ℕ) (found : Found) (size : ℕ)
    (kind : LogKind) → Tracks bytes (payload_state tables at found size) → at + size ≤ length bytes
    → frame_at tables (item_at bytes at size) ≡ Err kind
    → Faults bytes (payload_state tables at found size) kind
unfolding after_item
payload-fault bytes tables at found size kind t whole bad =
    let s = payload_state tables at found size in
    Faults-item bytes s t kind whole
    (ap (λ (r : Result Frame LogKind). r
    >>= λ f. after_frame (so_far_of s t.txns t.writes) f) bad)

-- a write above the last one
written : (s : LogSoFar) (w : Write) → is_above w.name (last_of s.writes) ≡ true
    → after_frame s (write w) ≡ Ok
    (record {
      tables = s.tables;
      txns = s.txns;
      writes = s.writes ++ w ∷ [];
      stamp = s.stamp;
      next = frame_length;
    })
unfolding after_frame after_write
written s w above = rw (above, after_write) refl

not_written : (s : LogSoFar) (w : Write) → is_above w.name (last_of s.writes) ≡ false
    → after_frame s (write w) ≡ Err kinds.Order
unfolding after_frame after_write
not_written s w above = rw (above, after_write) refl

pub Tracks-written : (bytes : List ℕ) (tables : List TableDef) (at : ℕ) (found : Found) (size : ℕ)
    (w : Write) (t : Tracks bytes (payload_state tables at found size)) → at + size ≤ length bytes
    → frame_at tables (item_at bytes at size) ≡ Ok (write w)
    → is_above w.name (last_of t.writes) ≡ true
    → Tracks bytes
    (behind_frame tables (at + size)
    (with_payload_place found (record { at = at; size = size })))
unfolding IsDue IsFoundBefore
Tracks-written bytes tables at found size w t whole read above =
    let s = payload_state tables at found size in
    let few_places = t.few_places in
    let few_txns = t.few_txns in
    let least = t.due.1 in
    let place : Place = record { at = at; size = size } in
    record {
      txns = t.txns;
      writes = t.writes ++ w ∷ [];
      reads = reads-next bytes s t _ whole
          (after_payload size (so_far_of s t.txns t.writes) (item_at bytes at size)
          (write w) read ∙ written (so_far_of s t.txns t.writes) w above);
      index = IsIndex-written bytes tables found t.txns t.writes place w t.index
          (record { within = whole; read = read });
      due = t.due.0;
      empty = tt;
      within = whole;
      few_places = omega (arith, length_push found.places place);
      few_txns = omega arith;
    }

pub Faults-order : (bytes : List ℕ) (tables : List TableDef) (at : ℕ) (found : Found) (size : ℕ)
    (w : Write) (t : Tracks bytes (payload_state tables at found size)) → at + size ≤ length bytes
    → frame_at tables (item_at bytes at size) ≡ Ok (write w)
    → is_above w.name (last_of t.writes) ≡ false
    → Faults bytes (payload_state tables at found size) kinds.Order
Faults-order bytes tables at found size w t whole read above =
    let s = payload_state tables at found size in
    Faults-item bytes s t kinds.Order whole
    (after_payload size (so_far_of s t.txns t.writes) (item_at bytes at size)
    (write w) read ∙ not_written (so_far_of s t.txns t.writes) w above)

-- a mark with a higher stamp and the right count
marks : (s : LogSoFar) (m : Mark) → s.stamp < m.stamp → length s.writes ≡ m.count
    → after_frame s (mark m) ≡ Ok
    (record {
      tables = s.tables;
      txns = s.txns
          ++ record { script = m.script; stamp = m.stamp; writes = s.writes } ∷ [];
      writes =
          [];
      stamp = m.stamp;
      next = frame_length;
    })
unfolding after_frame after_mark
marks s m higher count =
    rw (lt-ltb s.stamp m.stamp higher, eq-eqb (length s.writes) m.count count, after_mark) refl

stamp-fault : (s : LogSoFar) (m : Mark) → m.stamp ≤ s.stamp
    → after_frame s (mark m) ≡ Err kinds.Stamp
unfolding after_frame after_mark
stamp-fault s m lower = rw (le-ltb s.stamp m.stamp lower, after_mark) refl

count-fault : (s : LogSoFar) (m : Mark) → s.stamp < m.stamp → (length s.writes ≡ m.count → ⊥)
    → after_frame s (mark m) ≡ Err kinds.Count
unfolding after_frame after_mark
count-fault s m higher count = rw
    (lt-ltb s.stamp m.stamp higher, ne_eqb (length s.writes) m.count count, after_mark) refl

pub Tracks-marked : (bytes : List ℕ) (tables : List TableDef) (at : ℕ) (found : Found) (size : ℕ)
    (m : Mark) (t : Tracks bytes (payload_state tables at found size)) → at + size ≤ length bytes
    → frame_at tables (item_at bytes at size) ≡ Ok (mark m) → found.stamp < m.stamp
    → length t.writes ≡ m.count
    → Tracks bytes (behind_frame tables (at + size) (with_txn found m.script m.stamp))
unfolding IsDue IsFoundBefore
Tracks-marked bytes tables at found size m t whole read higher count =
    let s = payload_state tables at found size in
    let few_places = t.few_places in
    let few_txns = t.few_txns in
    let least = t.due.1 in
    let entry : TxnRef =
    record {
      script = m.script;
      stamp = m.stamp;
      first = found.closed + 1;
      count = length found.places - found.closed;
    } in
    record {
      txns = t.txns ++ record { script = m.script; stamp = m.stamp; writes = t.writes } ∷ [];
      writes = [];
      reads = reads-next bytes s t _ whole
          (after_payload size (so_far_of s t.txns t.writes) (item_at bytes at size)
          (mark m) read ∙ marks (so_far_of s t.txns t.writes) m higher count);
      index = IsIndex-marked bytes tables found t.txns t.writes m.script m.stamp t.index;
      due = t.due.0;
      empty = tt;
      within = whole;
      few_places = omega arith;
      few_txns = omega (arith, length_push found.txns entry);
    }

pub Faults-stamp : (bytes : List ℕ) (tables : List TableDef) (at : ℕ) (found : Found) (size : ℕ)
    (m : Mark) (t : Tracks bytes (payload_state tables at found size)) → at + size ≤ length bytes
    → frame_at tables (item_at bytes at size) ≡ Ok (mark m) → m.stamp ≤ found.stamp
    → Faults bytes (payload_state tables at found size) kinds.Stamp
Faults-stamp bytes tables at found size m t whole read lower =
    let s = payload_state tables at found size in
    Faults-item bytes s t kinds.Stamp whole
    (after_payload size (so_far_of s t.txns t.writes) (item_at bytes at size)
    (mark m) read ∙ stamp-fault (so_far_of s t.txns t.writes) m lower)

pub Faults-count : (bytes : List ℕ) (tables : List TableDef) (at : ℕ) (found : Found) (size : ℕ)
    (m : Mark) (t : Tracks bytes (payload_state tables at found size)) → at + size ≤ length bytes
    → frame_at tables (item_at bytes at size) ≡ Ok (mark m) → found.stamp < m.stamp
    → (length t.writes ≡ m.count → ⊥)
    → Faults bytes (payload_state tables at found size) kinds.Count
Faults-count bytes tables at found size m t whole read higher count =
    let s = payload_state tables at found size in
    Faults-item bytes s t kinds.Count whole
    (after_payload size (so_far_of s t.txns t.writes) (item_at bytes at size)
    (mark m) read ∙ count-fault (so_far_of s t.txns t.writes) m higher count)

-- the end mark with the right number
ends : (s : LogSoFar) (count : ℕ) → length s.writes ≡ 0 → length s.txns ≡ count
    → after_frame s (end count) ≡ Ok (expecting s nothing_more)
unfolding after_frame after_end
ends s count none all =
    rw (eq-eqb (length s.writes) 0 none, eq-eqb (length s.txns) count all, after_end) refl

end-open : (s : LogSoFar) (count : ℕ) → (length s.writes ≡ 0 → ⊥)
    → after_frame s (end count) ≡ Err kinds.End
unfolding after_frame after_end
end-open s count some = rw (ne_eqb (length s.writes) 0 some, after_end) refl

end-count : (s : LogSoFar) (count : ℕ) → length s.writes ≡ 0 → (length s.txns ≡ count → ⊥)
    → after_frame s (end count) ≡ Err kinds.End
unfolding after_frame after_end
end-count s count none other = rw
    (eq-eqb (length s.writes) 0 none, ne_eqb (length s.txns) count other, after_end) refl

pub Tracks-ended : (bytes : List ℕ) (tables : List TableDef) (at : ℕ) (found : Found)
    (size count : ℕ) (t : Tracks bytes (payload_state tables at found size))
    → at + size ≤ length bytes
    → frame_at tables (item_at bytes at size) ≡ Ok (end count) → length t.writes ≡ 0
    → length t.txns ≡ count
    → Tracks bytes (record { tables = tables; next = nothing_more; at = at + size; found = found })
unfolding IsDue IsFoundBefore
Tracks-ended bytes tables at found size count t whole read none all =
    let s = payload_state tables at found size in
    let few_places = t.few_places in
    let few_txns = t.few_txns in
    record {
      txns = t.txns;
      writes = t.writes;
      reads = reads-next bytes s t _ whole
          (after_payload size (so_far_of s t.txns t.writes) (item_at bytes at size)
          (end count) read ∙ ends (so_far_of s t.txns t.writes) count none all);
      index = t.index;
      due = t.due.0;
      empty = omega (arith, none, open-length bytes tables found t.txns t.writes t.index);
      within = whole;
      few_places = omega arith;
      few_txns = omega arith;
    }

pub Faults-open : (bytes : List ℕ) (tables : List TableDef) (at : ℕ) (found : Found)
    (size count : ℕ) (t : Tracks bytes (payload_state tables at found size))
    → at + size ≤ length bytes
    → frame_at tables (item_at bytes at size) ≡ Ok (end count) → (length t.writes ≡ 0 → ⊥)
    → Faults bytes (payload_state tables at found size) kinds.End
Faults-open bytes tables at found size count t whole read some =
    let s = payload_state tables at found size in
    Faults-item bytes s t kinds.End whole
    (after_payload size (so_far_of s t.txns t.writes) (item_at bytes at size)
    (end count) read ∙ end-open (so_far_of s t.txns t.writes) count some)

pub Faults-end : (bytes : List ℕ) (tables : List TableDef) (at : ℕ) (found : Found) (size count : ℕ)
    (t : Tracks bytes (payload_state tables at found size)) → at + size ≤ length bytes
    → frame_at tables (item_at bytes at size) ≡ Ok (end count) → length t.writes ≡ 0
    → (length t.txns ≡ count → ⊥) → Faults bytes (payload_state tables at found size) kinds.End
Faults-end bytes tables at found size count t whole read none other =
    let s = payload_state tables at found size in
    Faults-item bytes s t kinds.End whole
    (after_payload size (so_far_of s t.txns t.writes) (item_at bytes at size)
    (end count) read ∙ end-count (so_far_of s t.txns t.writes) count none other)

-- ---- room

pub HasRoom-less : (most least : ℕ) (index : Index) → least ≤ most → HasRoom most index
    → HasRoom least index
HasRoom-less most least index le room = let places = room.places in let txns = room.txns in
    record { places = omega arith; txns = omega arith }
