-- What a decoder has come to: at the start, with one more piece, at the end.
use Rattle.std.proofs.Common.{◌≡◌, ◌∙◌, ℕ, ◌+◌, ◌-◌, ◌<◌, ◌≤◌, true, false, List, [], ◌∷◌, ◌++◌}
use Rattle.std.proofs.Common.{length, drop, Option, Some, None, Result, Ok, Err, refl, sym, ap}
use Rattle.std.proofs.Common.{subst, arith}
use Rattle.std.proofs.lemmas.List.{length-append, drop-append-le}
use Rattle.c5_rows.specs.declared.tables.TableDef.{TableDef}
use Rattle.c5_rows.specs.declared.writes.Write.{Write}
use Rattle.c5_rows.specs.declared.writes.Txn.{Txn}
use Rattle.c5_definitions.specs.declared.fault.LogFault.{LogFault}
use Rattle.c5_definitions.specs.declared.fault.LogKind.TheVariants as kinds
use Rattle.c5_definitions.specs.Steps.{◌>>=◌}
use Rattle.c5_definitions.specs.Items.{Item, the_magic, table_count, name_length, table_name}
use Rattle.c5_definitions.specs.Items.{column_count, column_types, frame_length, frame_payload}
use Rattle.c5_definitions.specs.Items.{nothing_more, size_of, begin_of, Reading, LogParts}
use Rattle.c5_definitions.specs.Items.{whole_from, whole, log_of, after_bytes, at_start}
use Rattle.c5_frames.specs.declared.stage.Stage.TheVariants as stages
use Rattle.c5_frames.specs.declared.index.Index.{Index}
use Rattle.c5_frames.specs.declared.decoder_state.DecoderState.{DecoderState}
use Rattle.c5_frames.specs.Stages.{item_of, is_end}
use Rattle.c5_frames.specs.Index.{Found, found_in, HasRoom, IsIndex}
use Rattle.c5_frames.specs.Holding.{txns_in, HoldsLog}
use Rattle.c5_frames.specs.DecoderStates.{DecodedState, decoded_state, tables_of, so_far_of}
use Rattle.c5_frames.specs.DecoderStates.{reading_of, IsDue, IsFoundBefore, Tracks, IsReady}
use Rattle.c5_frames.specs.DecoderStates.{ComesTo, Decodes}
use Rattle.std.specs.Result.{IfErr}
use Rattle.c5_definitions.specs.Lawful.{Spells}
use Rattle.c5_frames.specs.Log.{Log}
use Rattle.c5_frames.specs.Feeding.{FinishesLog}
use Rattle.c5_frames.proofs.LawOneLog.{spells-log_of}
use Rattle.c5_frames.proofs.LawBytes.{after_bytes-append}
use Rattle.c5_frames.proofs.Indexing.{LieAt-none, IsIndex-more, open-length}
use Rattle.c5_frames.proofs.Tracking.{item-part}

-- ---- the start

Tracks-start : Tracks []
    (record {
      tables = [];
      next = the_magic;
      at = 0;
      found = record { places = []; txns = []; closed = 0; stamp = 0 };
    })
unfolding IsDue IsFoundBefore
Tracks-start = record {
  txns = [];
  writes = [];
  reads = refl;
  index = record { entries = refl; closed = refl; places = LieAt-none [] [] };
  due = refl;
  empty = refl;
  within = omega arith;
  few_places = omega arith;
  few_txns = omega arith;
}

pub Decodes-start : (index : Index) → found_in index
    ≡ record { places = []; txns = []; closed = 0; stamp = 0 }
    → Decodes [] (record { schema = None; stage = stages.Magic; at = 0; index = index }) None
Decodes-start index found = record {
  small = omega arith;
  come = (
    subst
        (λ (f : Found). Tracks [] (record { tables = []; next = the_magic; at = 0; found = f }))
        (sym found) Tracks-start,
    omega arith,
  );
}

-- ---- one more piece

pub fault-stays : (bytes more : List ℕ) (fault : LogFault) → after_bytes at_start bytes ≡ Err fault
    → after_bytes at_start (bytes ++ more) ≡ Err fault
fault-stays bytes more fault e =
    after_bytes-append at_start bytes more ∙ ap
    (λ (r : Result Reading LogFault). r >>= λ n. after_bytes n more) e

Tracks-more : (bytes more : List ℕ) (s : DecodedState) → Tracks bytes s → Tracks (bytes ++ more) s
Tracks-more bytes more s t =
    let within = t.within in
    let from = reading_of s t.txns t.writes in
    record {
      txns = t.txns;
      writes = t.writes;
      reads = after_bytes-append at_start bytes more
          ∙ ap (λ (r : Result Reading LogFault). r >>= λ n. after_bytes n more) t.reads
          ∙ sym (after_bytes-append from (drop s.at bytes) more)
          ∙ ap (after_bytes from) (sym (drop-append-le s.at bytes more within));
      index = IsIndex-more bytes more s.tables s.found t.txns t.writes t.index;
      due = t.due;
      empty = t.empty;
      within = omega (arith, length-append bytes more);
      few_places = t.few_places;
      few_txns = t.few_txns;
    }

pub ready-more : (bytes piece all : List ℕ) (old new : DecoderState) → Decodes bytes old None
    → length bytes + length piece ≤ 88080384
    → decoded_state new ≡ decoded_state old → all ≡ bytes ++ piece
    → HasRoom (length all - new.at) new.index → IsReady all new
ready-more bytes piece all old new h small same is room = record {
  tracks = subst (λ (bs : List ℕ). Tracks bs (decoded_state new)) (sym is)
      (subst (Tracks (bytes ++ piece)) (sym same)
      (Tracks-more bytes piece (decoded_state old) h.come.0));
  room = room;
  small = let len : length all ≡ length (bytes ++ piece) = ap length is in
      omega (arith, len, length-append bytes piece, small);
}

-- what reading all bytes comes to, when less than an item follows
pub reads-part : (bytes : List ℕ) (s : DecodedState) (t : Tracks bytes s)
    → length bytes < s.at + size_of s.next
    → after_bytes at_start bytes
    ≡ Ok (record {
      so_far = so_far_of s t.txns t.writes;
      offset = s.at;
      come = drop s.at bytes;
    })
reads-part bytes s t short = t.reads ∙ item-part
    (so_far_of s t.txns t.writes) s.at bytes short t.within

-- ---- the end

whole-cut : (item : Item) (r : Reading) → is_end item ≡ false
    → whole_from item r ≡ Err (record { offset = begin_of item r.offset; kind = kinds.Cut })
unfolding whole_from
whole-cut nothing_more r e = absurd cc
whole-cut the_magic r e = refl
whole-cut table_count r e = refl
whole-cut (name_length missing) r e = refl
whole-cut (table_name missing size) r e = refl
whole-cut (column_count missing name) r e = refl
whole-cut (column_types missing name size) r e = refl
whole-cut frame_length r e = refl
whole-cut (frame_payload size) r e = refl

whole-end : (item : Item) (r : Reading) → is_end item ≡ true
    → whole_from item r ≡ Ok (record { tables = r.so_far.tables; txns = r.so_far.txns })
unfolding whole_from
whole-end nothing_more r e = refl
whole-end the_magic r e = absurd cc
whole-end table_count r e = absurd cc
whole-end (name_length missing) r e = absurd cc
whole-end (table_name missing size) r e = absurd cc
whole-end (column_count missing name) r e = absurd cc
whole-end (column_types missing name size) r e = absurd cc
whole-end frame_length r e = absurd cc
whole-end (frame_payload size) r e = absurd cc

log-from : (bytes : List ℕ) (r : Reading) → after_bytes at_start bytes ≡ Ok r
    → log_of bytes ≡ whole_from r.so_far.next r
unfolding log_of whole
log-from bytes r e =
    ap (λ (read : Result Reading LogFault). read >>= λ n. whole_from n.so_far.next n) e

pub cut-log : (bytes : List ℕ) (p : DecoderState) → Decodes bytes p None
    → is_end (item_of p.stage) ≡ false → log_of bytes
    ≡ Err (record { offset = begin_of (item_of p.stage) p.at; kind = kinds.Cut })
cut-log bytes p h open_end =
    let t = h.come.0 in
    log-from bytes _ (reads-part bytes (decoded_state p) t h.come.1) ∙ whole-cut
    (item_of p.stage) _ open_end

pub fault-log : (bytes : List ℕ) (fault : LogFault) → after_bytes at_start bytes ≡ Err fault
    → log_of bytes ≡ Err fault
unfolding log_of
fault-log bytes fault e = ap (λ (read : Result Reading LogFault). read >>= whole) e

some-tables : (item : Item) (tables : List TableDef) → is_end item ≡ true → IsDue item tables
    → 1 ≤ length tables
unfolding IsDue
some-tables nothing_more tables e due = due
some-tables the_magic tables e due = absurd cc
some-tables table_count tables e due = absurd cc
some-tables (name_length missing) tables e due = absurd cc
some-tables (table_name missing size) tables e due = absurd cc
some-tables (column_count missing name) tables e due = absurd cc
some-tables (column_types missing name size) tables e due = absurd cc
some-tables frame_length tables e due = absurd cc
some-tables (frame_payload size) tables e due = absurd cc

pub never-none : (bytes : List ℕ) (p : DecoderState) → Decodes bytes p None
    → is_end (item_of p.stage) ≡ true → p.schema ≡ None → ⊥
never-none bytes p h end none =
    let len : length (tables_of p.schema) ≡ 0 =
    ap (λ (schema : Option (List TableDef)). length (tables_of schema)) none in
    omega (arith, len, some-tables (item_of p.stage) (tables_of p.schema) end h.come.0.due)

all-closed : (item : Item) (f : Found) → is_end item ≡ true → IsFoundBefore item f
    → f.closed ≡ length f.places
unfolding IsFoundBefore
all-closed nothing_more f e found = found
all-closed the_magic f e found = absurd cc
all-closed table_count f e found = absurd cc
all-closed (name_length missing) f e found = absurd cc
all-closed (table_name missing size) f e found = absurd cc
all-closed (column_count missing name) f e found = absurd cc
all-closed (column_types missing name size) f e found = absurd cc
all-closed frame_length f e found = absurd cc
all-closed (frame_payload size) f e found = absurd cc

no_items : {X : Type 0} (xs : List X) → length xs ≡ 0 → xs ≡ []
no_items [] e = refl
no_items (x ∷ xs) e = absurd (omega (arith, e))

abbrev txns_of_log : Result LogParts LogFault → List Txn
txns_of_log r = elim r [ Ok log ↦ log.txns | Err fault ↦ [] ]

pub holds-log : (bytes : List ℕ) (p : DecoderState) (schema : List TableDef) → Decodes bytes p None
    → is_end (item_of p.stage) ≡ true → p.schema ≡ Some schema → HoldsLog bytes schema p.index
holds-log bytes p schema h end is =
    let t = h.come.0 in
    let f = found_in p.index in
    let tables : tables_of p.schema ≡ schema = ap tables_of is in
    let log : log_of bytes ≡ Ok (record { tables = tables_of p.schema; txns = t.txns }) =
    log-from bytes _ (reads-part bytes (decoded_state p) t h.come.1) ∙ whole-end
    (item_of p.stage) _ end in
    let txns : txns_in bytes ≡ t.txns = ap txns_of_log log in
    let none : t.writes ≡ [] = no_items t.writes
    (omega (
      arith,
      open-length bytes (tables_of p.schema) f t.txns t.writes t.index,
      all-closed (item_of p.stage) f end t.empty,
    )) in
    let few_places = t.few_places in
    let few_txns = t.few_txns in
    let within = t.within in
    record {
      log = log ∙ ap
          (λ (ts : List TableDef). Ok (record { tables = ts; txns = t.txns })) tables ∙ ap
          (λ (ts : List Txn). Ok (record { tables = schema; txns = ts })) (sym txns);
      found = subst (λ (ts : List Txn). IsIndex bytes schema f ts []) (sym txns)
          (subst (λ (ws : List Write). IsIndex bytes schema f t.txns ws) none
          (subst (λ (ts : List TableDef). IsIndex bytes ts f t.txns t.writes) tables t.index));
      few_places = omega arith;
      few_txns = omega arith;
      small = h.small;
    }

-- ---- bytes with a fault aren't a log

abbrev read_as : LogParts → Result LogParts LogFault
read_as log = Ok log

pub never-both : (bytes : List ℕ) (fault : LogFault) (tables : List TableDef) (txns : List Txn)
    → log_of bytes ≡ Err fault → Spells bytes tables txns → ⊥
never-both bytes fault tables txns bad spells =
    clash _ fault (sym (spells-log_of bytes tables txns spells) ∙ bad)
  where
    clash : (log : LogParts) (fault : LogFault) → read_as log ≡ Err fault → ⊥
    clash log fault e = cc

pub refused : (bytes : List ℕ) (result : Result Log LogFault) → FinishesLog bytes result
    → IfErr result (λ fault. (tables : List TableDef) (txns : List Txn) → Spells bytes tables txns
    → ⊥)
refused bytes (Ok log) h = tt
refused bytes (Err fault) h = λ tables txns spells. never-both bytes fault tables txns h spells

pub faulty-log : (bytes : List ℕ) (p : DecoderState) (found : Option LogFault) (fault : LogFault)
    → Decodes bytes p found → found ≡ Some fault → log_of bytes ≡ Err fault
faulty-log bytes p found fault h is =
    fault-log bytes fault (subst (λ (f : Option LogFault). ComesTo bytes p f) is h.come)
