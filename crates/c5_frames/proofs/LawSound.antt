-- Bytes that have no fault are spelled by what is read of them.
use Rattle.std.proofs.Common.{◌≡◌, ◌∙◌, ℕ, zero, suc, ◌+◌, ◌<◌, Bool, true, false, cond, eqb, List}
use Rattle.std.proofs.Common.{[], ◌∷◌, ◌++◌, length, Result, Ok, Err, refl, sym, ap, subst}
use Rattle.std.proofs.Common.{append_assoc, arith}
use Rattle.std.proofs.lemmas.Bool.{eqb-true, eqb-false}
use Rattle.std.proofs.lemmas.List.{append-nil, length_push, nil_from_length, get_or_past}
use Rattle.c5_definitions.specs.declared.fault.LogKind.{LogKind}
use Rattle.c5_definitions.specs.declared.fault.LogFault.{LogFault}
use Rattle.c5_definitions.specs.Lawful.{Spells}
use Rattle.c5_definitions.specs.Items.{Item, the_magic, table_count, name_length, table_name}
use Rattle.c5_definitions.specs.Items.{column_count, column_types, frame_length, frame_payload}
use Rattle.c5_definitions.specs.Items.{nothing_more, size_of, LogSoFar, after_item, Reading}
use Rattle.c5_definitions.specs.Items.{begin_of, after_whole, after_byte, after_bytes, at_start}
use Rattle.c5_definitions.specs.Items.{LogParts, whole_from, whole, log_of}
use Rattle.c5_frames.proofs.LawFields.{IsBytes, IsBytes-append, IsBytes-rest, ok_is, bind_ok}
use Rattle.c5_frames.proofs.LawStages.{text_before, IsHead, Stage, size-some, IsNext}
use Rattle.c5_frames.proofs.LawHeaders.{magic_next, table_count_next, name_length_next}
use Rattle.c5_frames.proofs.LawHeaders.{table_name_next, column_count_next, column_types_next}
use Rattle.c5_frames.proofs.LawTaken.{frame_length_next, frame_payload_next}

-- ---- an item

item_next : (item : Item) (s next : LogSoFar) (bytes : List ℕ) → IsBytes bytes
    → length bytes ≡ size_of item → IsHead s.tables → Stage item s
    → after_item item s bytes ≡ Ok next → IsNext (text_before item s) bytes next
unfolding after_item
item_next the_magic s next bytes fits len head stage e = magic_next s next bytes head stage e
item_next table_count s next bytes fits len head stage e =
    table_count_next s next bytes len head stage e
item_next (name_length missing) s next bytes fits len head stage e =
    name_length_next missing s next bytes len head stage e
item_next (table_name missing size) s next bytes fits len head stage e =
    table_name_next missing size s next bytes len head stage e
item_next (column_count missing name) s next bytes fits len head stage e =
    column_count_next missing name s next bytes len head stage e
item_next (column_types missing name size) s next bytes fits len head stage e =
    column_types_next missing name size s next bytes len head stage e
item_next frame_length s next bytes fits len head stage e =
    frame_length_next s next bytes fits len head stage e
item_next (frame_payload size) s next bytes fits len head stage e =
    frame_payload_next size s next bytes fits len head stage.0 e
item_next nothing_more s next bytes fits len head stage e = absurd cc

-- ---- bytes

-- the bytes so far are the text before the item, and those of the item that have come
pub record IsReading (fed : List ℕ) (r : Reading) : Type 0 where
  pub head : IsHead r.so_far.tables
  pub stage : Stage r.so_far.next r.so_far
  pub text : fed ≡ text_before r.so_far.next r.so_far ++ r.come
  pub fits : IsBytes r.come
  pub room : length r.come < size_of r.so_far.next

no_bytes : IsBytes []
no_bytes i = omega (arith, get_or_past {X = ℕ} [] i 0 (omega arith))

IsBytes-push : (bytes : List ℕ) (byte : ℕ) → IsBytes bytes → byte < 256
    → IsBytes (bytes ++ byte ∷ [])
IsBytes-push bytes byte fits small = IsBytes-append bytes (byte ∷ []) fits one
  where
    one : IsBytes (byte ∷ [])
    one zero = small
    one (suc i) = no_bytes i

-- the item that has come whole passed its tests
whole_ok : (r last : Reading) (bytes : List ℕ) → after_whole r bytes ≡ Ok last → (s : LogSoFar)
    × (after_item r.so_far.next r.so_far bytes ≡ Ok s)
    × (last ≡ record { so_far = s; offset = r.offset + length bytes; come = [] })
unfolding after_whole
whole_ok r last bytes e = by_item (after_item r.so_far.next r.so_far bytes) r last bytes e
  where
    by_item : (found : Result LogSoFar LogKind) (r last : Reading) (bytes : List ℕ)
        → elim found as
        (λ _. Result Reading LogFault) [
          | Ok s ↦ Ok
              (record { so_far = s; offset = r.offset + length bytes; come = [] })
          | Err cause ↦ Err
              (record { offset = begin_of r.so_far.next r.offset; kind = cause })
        ] ≡ Ok last
        → (s : LogSoFar) × (found ≡ Ok s)
        × (last ≡ record { so_far = s; offset = r.offset + length bytes; come = [] })
    by_item (Ok s) r last bytes e = (s, refl, sym (ok_is {E = LogFault} _ last e))
    by_item (Err cause) r last bytes e = absurd cc

item_read : (fed : List ℕ) (r last : Reading) (byte : ℕ) → byte < 256 → IsReading fed r
    → length r.come + 1 ≡ size_of r.so_far.next → after_whole r (r.come ++ byte ∷ []) ≡ Ok last
    → IsReading (fed ++ byte ∷ []) last
item_read fed r last byte small reading sized e =
    let item = r.come ++ byte ∷ [] in
    let w = whole_ok r last item e in
    let fits = IsBytes-push r.come byte reading.fits small in
    let n = item_next r.so_far.next r.so_far w.0 item fits
    (length_push r.come byte ∙ sized) reading.head reading.stage w.1 in
    let some = size-some w.0.next w.0 n.stage in
    let before = text_before r.so_far.next r.so_far in
    let text : fed ++ byte ∷ [] ≡ text_before w.0.next w.0 ++ [] =
    ap (λ (t : List ℕ). t ++ byte ∷ []) reading.text ∙ append_assoc before r.come
    (byte ∷ []) ∙ sym n.text ∙ sym (append-nil (text_before w.0.next w.0)) in
    subst (IsReading (fed ++ byte ∷ [])) (sym w.2)
    (record {
      head = n.head;
      stage = n.stage;
      text = text;
      fits = no_bytes;
      room = omega (arith, some);
    })

part_read : (fed : List ℕ) (r last : Reading) (byte : ℕ) → byte < 256 → IsReading fed r
    → (length r.come + 1 ≡ size_of r.so_far.next → ⊥)
    → record { so_far = r.so_far; offset = r.offset; come = r.come ++ byte ∷ [] } ≡ last
    → IsReading (fed ++ byte ∷ []) last
part_read fed r last byte small reading others e =
    let before = text_before r.so_far.next r.so_far in
    let text : fed ++ byte ∷ [] ≡ before ++ (r.come ++ byte ∷ []) =
    ap (λ (t : List ℕ). t ++ byte ∷ []) reading.text ∙ append_assoc before r.come (byte ∷ []) in
    let room = reading.room in
    subst (IsReading (fed ++ byte ∷ [])) e
    (record {
      head = reading.head;
      stage = reading.stage;
      text = text;
      fits = IsBytes-push r.come byte reading.fits small;
      room =
          omega (arith, length_push r.come byte, room, others);
    })

byte_read : (fed : List ℕ) (r last : Reading) (byte : ℕ) → byte < 256 → IsReading fed r
    → after_byte r byte ≡ Ok last → IsReading (fed ++ byte ∷ []) last
unfolding after_byte
byte_read fed r last byte small reading e =
    by_size (eqb (length r.come + 1) (size_of r.so_far.next)) fed r last byte small reading
    (eqb-true _ _) (eqb-false _ _) e
  where
    by_size : (last_byte : Bool) (fed : List ℕ) (r last : Reading) (byte : ℕ) → byte < 256
        → IsReading fed r → (last_byte ≡ true → length r.come + 1 ≡ size_of r.so_far.next)
        → (last_byte ≡ false → length r.come + 1 ≡ size_of r.so_far.next → ⊥)
        → cond last_byte (after_whole r (r.come ++ byte ∷ []))
        (Ok (record { so_far = r.so_far; offset = r.offset; come = r.come ++ byte ∷ [] }))
        ≡ Ok last → IsReading (fed ++ byte ∷ []) last
    by_size true fed r last byte small reading single others e =
        item_read fed r last byte small reading (single refl) e
    by_size false fed r last byte small reading single others e =
        part_read fed r last byte small reading (others refl) (ok_is {E = LogFault} _ last e)

pub bytes_read : (fed : List ℕ) (r last : Reading) (bytes : List ℕ) → IsBytes bytes
    → IsReading fed r → after_bytes r bytes ≡ Ok last → IsReading (fed ++ bytes) last
unfolding after_bytes
bytes_read fed r last [] fits reading e =
    subst (IsReading (fed ++ [])) (ok_is {E = LogFault} r last e)
    (subst (λ (t : List ℕ). IsReading t r) (sym (append-nil fed)) reading)
bytes_read fed r last (byte ∷ bytes) fits reading e =
    let a = bind_ok (after_byte r byte) (λ next. after_bytes next bytes) last e in
    let one = byte_read fed r a.0 byte (fits 0) reading a.1 in
    subst (λ (t : List ℕ). IsReading t last) (append_assoc fed (byte ∷ []) bytes)
    (bytes_read (fed ++ byte ∷ []) a.0 last bytes (IsBytes-rest byte bytes fits) one a.2)

-- ---- a whole log

nothing_fed : IsReading [] at_start
nothing_fed =
    record {
      head = record { names = tt; each = tt };
      stage = (refl, record { txns = refl; writes = refl; stamp = refl });
      text = refl;
      fits =
          no_bytes;
      room = omega arith;
    }

-- the end mark has come whole
pub whole_is : (item : Item) (r : Reading) (log : LogParts) → whole_from item r ≡ Ok log
    → (item ≡ nothing_more) × (log ≡ record { tables = r.so_far.tables; txns = r.so_far.txns })
unfolding whole_from
whole_is the_magic r log e = absurd cc
whole_is table_count r log e = absurd cc
whole_is (name_length missing) r log e = absurd cc
whole_is (table_name missing size) r log e = absurd cc
whole_is (column_count missing name) r log e = absurd cc
whole_is (column_types missing name size) r log e = absurd cc
whole_is frame_length r log e = absurd cc
whole_is (frame_payload size) r log e = absurd cc
whole_is nothing_more r log e = (
  refl,
  sym
      (ok_is {E = LogFault} (record { tables = r.so_far.tables; txns = r.so_far.txns }) log e),
)

at_end : (bytes : List ℕ) (r : Reading) → Stage nothing_more r.so_far
    → bytes ≡ text_before nothing_more r.so_far ++ r.come → length r.come < size_of nothing_more
    → Spells bytes r.so_far.tables r.so_far.txns
at_end bytes r stage text room =
    let nothing : r.come ≡ [] = nil_from_length r.come (omega (arith, room)) in
    let log = text_before nothing_more r.so_far in
    record {
      lawful = stage;
      spelling = text ∙ ap
          (λ (t : List ℕ). log ++ t) nothing ∙ append-nil log;
    }

-- read to the end mark, the bytes are a log
pub ends : (bytes : List ℕ) (r : Reading) → IsReading bytes r → r.so_far.next ≡ nothing_more
    → Spells bytes r.so_far.tables r.so_far.txns
ends bytes r reading is =
    at_end bytes r (subst (λ (item : Item). Stage item r.so_far) is reading.stage)
    (subst (λ (item : Item). bytes ≡ text_before item r.so_far ++ r.come) is reading.text)
    (subst (λ (item : Item). length r.come < size_of item) is reading.room)

pub log_is_spelled : (bytes : List ℕ) → IsBytes bytes → (log : LogParts) → log_of bytes ≡ Ok log
    → Spells bytes log.tables log.txns
unfolding log_of whole
log_is_spelled bytes fits log e =
    let a = bind_ok (after_bytes at_start bytes) whole log e in
    let reading = bytes_read [] at_start a.0 bytes fits nothing_fed a.1 in
    let w = whole_is a.0.so_far.next a.0 log a.2 in
    subst (λ (l : LogParts). Spells bytes l.tables l.txns) (sym w.1) (ends bytes a.0 reading w.0)
