-- Each frame that passes its tests adds its bytes to the text before it.
use Rattle.std.proofs.Common.{◌≡◌, ◌∙◌, ℕ, ◌-◌, ◌^◌, ◌<◌, ◌≤◌, true, ◌&&◌, ◌||◌, cond, eqb, ltb}
use Rattle.std.proofs.Common.{List, [], ◌∷◌, ◌++◌, length, get_or, drop, Ok, Err, refl, sym, ap}
use Rattle.std.proofs.Common.{subst, append_assoc, arith}
use Rattle.std.specs.List.{flat_map}
use Rattle.std.proofs.lemmas.Bool.{eqb-true, ltb-true, ltb-false}
use Rattle.std.proofs.lemmas.List.{append-nil, length-drop, nil_from_length, flat_map_more}
use Rattle.std.proofs.lemmas.Option.{slice_get-get_or}
use Rattle.c5_rows.specs.Order.{row_name_cmp}
use Rattle.c5_rows.specs.Writes.{IsAscending, put_write}
use Rattle.c5_rows.specs.declared.writes.Write.{Write}
use Rattle.c5_rows.specs.declared.writes.Txn.{Txn}
use Rattle.c5_rows.proofs.WriteLemmas.{IsAscending-put, above_last, put_write-end, gt_greater}
use Rattle.c5_definitions.specs.declared.fault.LogKind.{LogKind}
use Rattle.c5_definitions.specs.declared.fault.LogKind.TheVariants as kinds
use Rattle.c5_definitions.specs.Lawful.{IsLawfulWrite, IsLawfulTxn, StampsRise}
use Rattle.c5_definitions.specs.Spelling.{spelled_u32, spelled_u64, write_payload, mark_payload}
use Rattle.c5_definitions.specs.Spelling.{end_payload, spelled_frame, spelled_txn, spelled_header}
use Rattle.c5_definitions.specs.Spelling.{spelled_log}
use Rattle.c5_definitions.specs.Numbers.{number_32}
use Rattle.c5_definitions.specs.Frames.{Mark, Frame, write, mark, end, frame_at}
use Rattle.c5_definitions.specs.Items.{frame_length, frame_payload, nothing_more, LogSoFar}
use Rattle.c5_definitions.specs.Items.{is_above, last_of, expecting, after_write, after_mark}
use Rattle.c5_definitions.specs.Items.{after_end, after_frame, after_item}
use Rattle.c5_frames.proofs.LawFields.{IsBytes, passed, held, both, ok_is, bind_ok, u32-takes}
use Rattle.c5_frames.proofs.LawPayloads.{IsMark, Holds, frame_holds}
use Rattle.c5_frames.proofs.LawNames.{AllByRecursion-push}
use Rattle.c5_frames.proofs.LawFrames.{spelled_write, last_stamp}
use Rattle.c5_frames.proofs.LawStages.{frames_text, IsHead, AreFrames, IsNext, neither}

-- ---- the length

pub frame_length_next : (s next : LogSoFar) (item : List ℕ) → IsBytes item → length item ≡ 4
    → IsHead s.tables → AreFrames s → after_item frame_length s item ≡ Ok next
    → IsNext (frames_text s) item next
unfolding after_item
frame_length_next s next item fits len head are e =
    let n = number_32 item in
    let to = expecting s (frame_payload n) in
    let a = passed (ltb n 5 || ltb 300 n) kinds.Length (Ok to) next e in
    let b = neither (ltb n 5) (ltb 300 n) a.0 in
    let low : 5 ≤ n = ltb-false _ _ b.0 in
    let t = u32-takes item (omega (arith, len)) fits in
    let nothing : drop 4 item ≡ [] =
    nil_from_length (drop 4 item) (omega (arith, length-drop 4 item, len)) in
    let whole : item ≡ spelled_u32 n =
    t.parts ∙ ap (λ (r : List ℕ). spelled_u32 n ++ r) nothing ∙ append-nil (spelled_u32 n) in
    let again : AreFrames to =
    record {
      some = are.some;
      few = are.few;
      each_txn = are.each_txn;
      stamps = are.stamps;
      stamp = are.stamp;
      ascending = are.ascending;
      each_write = are.each_write;
    } in
    subst (IsNext (frames_text s) item) (ok_is {E = LogKind} to next a.1)
    (record {
      head = head;
      stage = (again, omega (arith, low));
      text = ap (λ (i : List ℕ). frames_text s ++ i) (sym whole);
    })

-- ---- stamps and names

last_stamp-push : (last : ℕ) (txns : List Txn) (txn : Txn)
    → last_stamp last (txns ++ txn ∷ []) ≡ txn.stamp
last_stamp-push last [] txn = refl
last_stamp-push last (first ∷ txns) txn = last_stamp-push first.stamp txns txn

StampsRise-push : (last : ℕ) (txns : List Txn) (txn : Txn) → StampsRise last txns
    → last_stamp last txns < txn.stamp → txn.stamp < 2 ^ 64 → StampsRise last (txns ++ txn ∷ [])
StampsRise-push last [] txn rise above fits = (above, fits, tt)
StampsRise-push last (first ∷ txns) txn rise above fits =
    (rise.0, rise.1, StampsRise-push first.stamp txns txn rise.2 above fits)

put_write-last : (entry : Write) (writes : List Write) → IsAscending writes
    → true ≡ is_above entry.name (last_of writes) → put_write entry writes ≡ writes ++ entry ∷ []
put_write-last entry [] up above = refl
put_write-last entry (first ∷ writes) up above =
    let all : List Write = first ∷ writes in
    let some : 0 < length all = omega arith in
    let within : length all - 1 < length all = omega arith in
    put_write-end entry all (above_last entry.name all up some
    (λ d. gt_greater (row_name_cmp entry.name (get_or all (length all - 1) d).name)
    (sym (above ∙ ap (is_above entry.name) (slice_get-get_or all (length all - 1) d within)))))

-- ---- payloads

-- a payload after its length is a frame
framed : (front item : List ℕ) (size : ℕ) → length item ≡ size
    → (front ++ spelled_u32 size) ++ item ≡ front ++ spelled_frame item
unfolding spelled_frame
framed front item size len = append_assoc front (spelled_u32 size) item ∙ ap
    (λ (n : ℕ). front ++ (spelled_u32 n ++ item)) (sym len)

write_next : (s next : LogSoFar) (size : ℕ) (item : List ℕ) (entry : Write) → length item ≡ size
    → IsHead s.tables → AreFrames s → (item ≡ write_payload entry) × IsLawfulWrite s.tables entry
    → after_write s entry ≡ Ok next
    → IsNext (frames_text s ++ spelled_u32 size) item next
unfolding after_write
write_next s next size item entry len head are holds e =
    let made : LogSoFar =
    record {
      tables = s.tables;
      txns = s.txns;
      writes = s.writes ++ entry ∷ [];
      stamp = s.stamp;
      next = frame_length;
    } in
    let a = held (is_above entry.name (last_of s.writes)) kinds.Order (Ok made) next e in
    let front = spelled_header s.tables in
    let txns = flat_map spelled_txn s.txns in
    let writes = flat_map spelled_write s.writes in
    let text : (frames_text s ++ spelled_u32 size) ++ item ≡ frames_text made =
    framed (frames_text s) item size len
    ∙ append_assoc front (txns ++ writes) (spelled_frame item)
    ∙ ap (λ (p : List ℕ). front ++ ((txns ++ writes) ++ spelled_frame p)) holds.0
    ∙ ap (λ (t : List ℕ). front ++ t) (flat_map_more spelled_write txns s.writes entry) in
    let put = put_write-last entry s.writes are.ascending (sym a.0) in
    subst (IsNext (frames_text s ++ spelled_u32 size) item) (ok_is {E = LogKind} made next a.1)
    (record {
      head = head;
      stage = record {
        some = are.some;
        few = are.few;
        each_txn = are.each_txn;
        stamps = are.stamps;
        stamp = are.stamp;
        ascending = subst IsAscending put (IsAscending-put entry s.writes are.ascending);
        each_write = AllByRecursion-push
            (IsLawfulWrite s.tables) s.writes entry are.each_write holds.1;
      };
      text = sym text;
    })

mark_next : (s next : LogSoFar) (size : ℕ) (item : List ℕ) (numbers : Mark) → length item ≡ size
    → IsHead s.tables → AreFrames s → IsMark item numbers → after_mark s numbers ≡ Ok next
    → IsNext (frames_text s ++ spelled_u32 size) item next
unfolding after_mark mark_payload spelled_txn
mark_next s next size item numbers len head are holds e =
    let txn : Txn = record { script = numbers.script; stamp = numbers.stamp; writes = s.writes } in
    let made : LogSoFar =
    record {
      tables = s.tables;
      txns = s.txns ++ txn ∷ [];
      writes = [];
      stamp = numbers.stamp;
      next = frame_length;
    } in
    let a = held (ltb s.stamp numbers.stamp) kinds.Stamp
    (cond (eqb (length s.writes) numbers.count) (Ok made) (Err kinds.Count)) next e in
    let b = held (eqb (length s.writes) numbers.count) kinds.Count (Ok made) next a.1 in
    let count : length s.writes ≡ numbers.count = eqb-true _ _ b.0 in
    let above : s.stamp < numbers.stamp = ltb-true _ _ a.0 in
    let last = are.stamp in
    let few = holds.count in
    let front = spelled_header s.tables in
    let txns = flat_map spelled_txn s.txns in
    let writes = flat_map spelled_write s.writes in
    let payload : item ≡ mark_payload txn =
    holds.text ∙ ap (λ (n : ℕ). 67 ∷ spelled_u32 numbers.script ++ spelled_u64 numbers.stamp
    ++ spelled_u32 n) (sym count) in
    let text : (frames_text s ++ spelled_u32 size) ++ item
    ≡ front ++ (flat_map spelled_txn (s.txns ++ txn ∷ []) ++ []) =
    framed (frames_text s) item size len
    ∙ append_assoc front (txns ++ writes) (spelled_frame item)
    ∙ ap (λ (p : List ℕ). front ++ ((txns ++ writes) ++ spelled_frame p)) payload
    ∙ ap (λ (t : List ℕ). front ++ t) (append_assoc txns writes (spelled_frame (mark_payload txn)))
    ∙ ap (λ (t : List ℕ). front ++ t) (flat_map_more spelled_txn [] s.txns txn)
    ∙ ap (λ (t : List ℕ). front ++ t)
    (sym (append-nil (flat_map spelled_txn (s.txns ++ txn ∷ [])))) in
    let lawful : IsLawfulTxn s.tables txn =
    record {
      script = holds.script;
      count = omega (arith, count, few);
      ascending = are.ascending;
      writes = are.each_write;
    } in
    subst (IsNext (frames_text s ++ spelled_u32 size) item) (ok_is {E = LogKind} made next b.1)
    (record {
      head = head;
      stage = record {
        some = are.some;
        few = are.few;
        each_txn = AllByRecursion-push (IsLawfulTxn s.tables) s.txns txn are.each_txn lawful;
        stamps = StampsRise-push 0 s.txns txn are.stamps (omega (arith, last, above)) holds.stamp;
        stamp = sym (last_stamp-push 0 s.txns txn);
        ascending = tt;
        each_write = tt;
      };
      text = sym text;
    })

end_next : (s next : LogSoFar) (size : ℕ) (item : List ℕ) (count : ℕ) → length item ≡ size
    → IsHead s.tables → AreFrames s → (item ≡ end_payload count) × (count < 2 ^ 32)
    → after_end s count ≡ Ok next → IsNext (frames_text s ++ spelled_u32 size) item next
unfolding after_end spelled_log
end_next s next size item count len head are holds e =
    let made = expecting s nothing_more in
    let a = held (eqb (length s.writes) 0 && eqb (length s.txns) count) kinds.End
    (Ok made) next e in
    let b = both (eqb (length s.writes) 0) (eqb (length s.txns) count) a.0 in
    let none : s.writes ≡ [] = nil_from_length s.writes (eqb-true _ _ b.0) in
    let counted : length s.txns ≡ count = eqb-true _ _ b.1 in
    let few = holds.1 in
    let front = spelled_header s.tables in
    let txns = flat_map spelled_txn s.txns in
    let text : (frames_text s ++ spelled_u32 size) ++ item
    ≡ (front ++ txns) ++ spelled_frame (end_payload (length s.txns)) =
    framed (frames_text s) item size len
    ∙ ap (λ (ws : List Write). (front ++ (txns ++ flat_map spelled_write ws))
    ++ spelled_frame item) none
    ∙ ap (λ (t : List ℕ). (front ++ t) ++ spelled_frame item) (append-nil txns)
    ∙ ap (λ (p : List ℕ). (front ++ txns) ++ spelled_frame p) holds.0
    ∙ ap (λ (n : ℕ). (front ++ txns) ++ spelled_frame (end_payload n)) (sym counted) in
    subst (IsNext (frames_text s ++ spelled_u32 size) item) (ok_is {E = LogKind} made next a.1)
    (record {
      head = head;
      stage = record {
        schema = record { some = are.some; few = are.few; names = head.names };
        each_table = head.each;
        each_txn = are.each_txn;
        stamps = are.stamps;
        count = omega (arith, counted, few);
      };
      text = sym text;
    })

frame_next : (s next : LogSoFar) (size : ℕ) (item : List ℕ) (frame : Frame) → length item ≡ size
    → IsHead s.tables → AreFrames s → Holds s.tables item frame → after_frame s frame ≡ Ok next
    → IsNext (frames_text s ++ spelled_u32 size) item next
unfolding after_frame
frame_next s next size item (write entry) len head are holds e =
    write_next s next size item entry len head are holds e
frame_next s next size item (mark numbers) len head are holds e =
    mark_next s next size item numbers len head are holds e
frame_next s next size item (end count) len head are holds e =
    end_next s next size item count len head are holds e

pub frame_payload_next : (size : ℕ) (s next : LogSoFar) (item : List ℕ) → IsBytes item
    → length item ≡ size → IsHead s.tables → AreFrames s
    → after_item (frame_payload size) s item ≡ Ok next
    → IsNext (frames_text s ++ spelled_u32 size) item next
unfolding after_item
frame_payload_next size s next item fits len head are e =
    let frame = bind_ok (frame_at s.tables item) (λ frame. after_frame s frame) next e in
    frame_next s next size item frame.0 len head are
    (frame_holds s.tables item frame.0 fits frame.1) frame.2
