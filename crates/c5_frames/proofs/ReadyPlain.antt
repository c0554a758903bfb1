-- A decoder that is ready takes the next item that isn't a payload, or finds its fault.
use Rattle.std.proofs.Common.{◌≡◌, ◌∙◌, ℕ, ◌+◌, ◌-◌, ◌<◌, ◌≤◌, List, length, Option, Ok, Err, sym}
use Rattle.std.proofs.Common.{ap, subst, arith}
use Rattle.c5_rows.specs.declared.tables.TableDef.{TableDef}
use Rattle.c5_definitions.specs.declared.fault.LogKind.{LogKind}
use Rattle.c5_definitions.specs.Items.{Item, frame_length, frame_payload, size_of}
use Rattle.c5_frames.specs.declared.stage.Stage.{Stage}
use Rattle.c5_frames.specs.declared.stage.Stage.TheVariants as stages
use Rattle.c5_frames.specs.declared.decoder_state.DecoderState.{DecoderState}
use Rattle.c5_frames.specs.Stages.{item_of}
use Rattle.c5_frames.specs.DecoderStates.{DecodedState, decoded_state, tables_of, so_far_of, Tracks}
use Rattle.c5_frames.specs.DecoderStates.{IsReady, IsPlain, Faults, HasWhole, tables_after}
use Rattle.c5_frames.proofs.Tracking.{item_at, item-length, reads-next, Faults-item, IsDue-some}
use Rattle.c5_frames.proofs.Tracking.{HasRoom-less}
use Rattle.c5_frames.proofs.Plain.{Tables, rebuild, after-plain, due-after, keeps-after}

Tracks-plain : (bytes : List ℕ) (s : DecodedState) (tables : List TableDef) (next : Item)
    (t : Tracks bytes s) → IsPlain s.next → HasWhole bytes s
    → tables_after s.next s.tables (item_at bytes s.at (size_of s.next)) ≡ Ok (tables, next)
    → Tracks bytes
    (record { tables = tables; next = next; at = s.at + size_of s.next; found = s.found })
Tracks-plain bytes s tables next t plain whole read =
    let item = item_at bytes s.at (size_of s.next) in
    let out : Tables = (tables, next) in
    let few_places = t.few_places in
    let few_txns = t.few_txns in
    let keeps =
    keeps-after s.next bytes s.tables item s.found t.txns t.writes out plain t.empty read
    t.index in
    record {
      txns = t.txns;
      writes = t.writes;
      reads = reads-next bytes s t _ whole
          (after-plain s.next (so_far_of s t.txns t.writes) item plain ∙ ap
          (rebuild (so_far_of s t.txns t.writes)) read);
      index = keeps.index;
      due = due-after s.next s.tables item out plain t.due
          (item-length bytes s.at (size_of s.next) whole) read;
      empty = keeps.empty;
      within = whole;
      few_places = omega arith;
      few_txns = omega arith;
    }

pub ready-plain : (bytes : List ℕ) (p : DecoderState) (schema : Option (List TableDef))
    (next : Stage) (size : ℕ) → IsReady bytes p → IsPlain (item_of p.stage)
    → HasWhole bytes (decoded_state p) → size ≡ size_of (item_of p.stage)
    → tables_after (item_of p.stage) (tables_of p.schema) (item_at bytes p.at size)
    ≡ Ok (tables_of schema, item_of next)
    → IsReady bytes (record { schema = schema; stage = next; at = p.at + size; index = p.index })
ready-plain bytes p schema next size h plain whole sized read =
    let item = size_of (item_of p.stage) in
    let read_whole =
    subst (λ (n : ℕ). tables_after (item_of p.stage) (tables_of p.schema) (item_at bytes p.at n)
    ≡ Ok (tables_of schema, item_of next)) sized read in
    subst (λ (n : ℕ). IsReady bytes
    (record { schema = schema; stage = next; at = p.at + n; index = p.index })) (sym sized)
    (record {
      tracks = Tracks-plain bytes (decoded_state p) (tables_of schema)
          (item_of next) h.tracks plain whole read_whole;
      room = HasRoom-less (length bytes - p.at) (length bytes - (p.at + item)) p.index
          (omega arith) h.room;
      small = h.small;
    })

pub fault-plain : (bytes : List ℕ) (p : DecoderState) (size : ℕ) (kind : LogKind) → IsReady bytes p
    → IsPlain (item_of p.stage) → HasWhole bytes (decoded_state p)
    → size ≡ size_of (item_of p.stage)
    → tables_after (item_of p.stage) (tables_of p.schema) (item_at bytes p.at size) ≡ Err kind
    → Faults bytes (decoded_state p) kind
fault-plain bytes p size kind h plain whole sized read =
    let s = decoded_state p in
    let t = h.tracks in
    let read_whole =
    subst (λ (n : ℕ). tables_after (item_of p.stage) (tables_of p.schema) (item_at bytes p.at n)
    ≡ Err kind) sized read in
    let item = item_at bytes p.at (size_of (item_of p.stage)) in
    Faults-item bytes s t kind whole
    (after-plain s.next (so_far_of s t.txns t.writes) item plain ∙ ap
    (rebuild (so_far_of s t.txns t.writes)) read_whole)

pub some-bytes : (bytes : List ℕ) (p : DecoderState) → IsReady bytes p
    → 0 < size_of (item_of p.stage)
some-bytes bytes p h = IsDue-some (item_of p.stage) (tables_of p.schema) h.tracks.due

-- ---- the length of a frame

pub ready-length : (bytes : List ℕ) (p : DecoderState) (size : ℕ) → IsReady bytes p
    → p.stage ≡ stages.FrameLength → p.at + 4 ≤ length bytes
    → tables_after frame_length (tables_of p.schema) (item_at bytes p.at 4)
    ≡ Ok (tables_of p.schema, frame_payload size)
    → IsReady bytes
    (record { schema = p.schema; stage = stages.Payload size; at = p.at + 4; index = p.index })
ready-length bytes p size h is whole read =
    let sized : 4 ≡ size_of (item_of p.stage) = sym (ap (λ (s : Stage). size_of (item_of s)) is) in
    ready-plain bytes p p.schema (stages.Payload size) 4 h
    (subst (λ (s : Stage). IsPlain (item_of s)) (sym is) tt)
    (subst (λ (n : ℕ). p.at + n ≤ length bytes) sized whole)
    sized
    (ap (λ (s : Stage). tables_after (item_of s) (tables_of p.schema) (item_at bytes p.at 4)) is ∙
    read)

pub fault-length : (bytes : List ℕ) (p : DecoderState) (kind : LogKind) → IsReady bytes p
    → p.stage ≡ stages.FrameLength → p.at + 4 ≤ length bytes
    → tables_after frame_length (tables_of p.schema) (item_at bytes p.at 4) ≡ Err kind
    → Faults bytes (decoded_state p) kind
fault-length bytes p kind h is whole read =
    let sized : 4 ≡ size_of (item_of p.stage) = sym (ap (λ (s : Stage). size_of (item_of s)) is) in
    fault-plain bytes p 4 kind h
    (subst (λ (s : Stage). IsPlain (item_of s)) (sym is) tt)
    (subst (λ (n : ℕ). p.at + n ≤ length bytes) sized whole)
    sized
    (ap (λ (s : Stage). tables_after (item_of s) (tables_of p.schema) (item_at bytes p.at 4)) is ∙
    read)

pub length-whole : (bytes : List ℕ) (p : DecoderState) → p.stage ≡ stages.FrameLength
    → HasWhole bytes (decoded_state p) → p.at + 4 ≤ length bytes
length-whole bytes p is whole =
    subst (λ (n : ℕ). p.at + n ≤ length bytes) (ap (λ (s : Stage). size_of (item_of s)) is) whole
