-- The frames of lawful transactions are read item by item, and so is a whole log.
use Rattle.std.proofs.Common.{◌≡◌, ◌∙◌, ℕ, ◌-◌, ◌^◌, ◌<◌, true, false, eqb, ltb, List, [], ◌∷◌}
use Rattle.std.proofs.Common.{◌++◌, length, get_or, Less, Greater, Ok, refl, sym, ap, subst}
use Rattle.std.proofs.Common.{append_assoc, arith}
use Rattle.std.specs.List.{flat_map, AllByRecursion}
use Rattle.std.specs.Ordering.{ordering_reverse, is_gt}
use Rattle.std.proofs.lemmas.Bool.{eq-eqb, lt-ltb, le-ltb}
use Rattle.std.proofs.lemmas.List.{append-nil, length-append, get_or_append_left}
use Rattle.std.proofs.Math.Seq.{get_or-append_seam}
use Rattle.std.proofs.lemmas.Option.{slice_get-get_or, slice_get_past}
use Rattle.c5_rows.specs.Order.{row_name_cmp, row_name_cmp_total}
use Rattle.c5_rows.specs.Writes.{IsAscending}
use Rattle.c5_rows.specs.declared.tables.TableDef.{TableDef}
use Rattle.c5_rows.specs.declared.writes.Write.{Write}
use Rattle.c5_rows.specs.declared.writes.Txn.{Txn}
use Rattle.c5_rows.proofs.WriteLemmas.{far_below}
use Rattle.c5_definitions.specs.Lawful.{IsLawfulTable, IsLawfulWrite, IsLawfulTxn, StampsRise}
use Rattle.c5_definitions.specs.Lawful.{Spells}
use Rattle.c5_definitions.specs.Spelling.{spelled_u32, write_payload, mark_payload, end_payload}
use Rattle.c5_definitions.specs.Spelling.{spelled_frame, spelled_txn, spelled_header, spelled_log}
use Rattle.c5_definitions.specs.Numbers.{number_32}
use Rattle.c5_definitions.specs.Frames.{Frame, write, mark, end, frame_at}
use Rattle.c5_definitions.specs.Items.{the_magic, frame_length, frame_payload, nothing_more}
use Rattle.c5_definitions.specs.Items.{LogSoFar, is_above, last_of, expecting, after_write}
use Rattle.c5_definitions.specs.Items.{after_mark, after_end, after_frame, after_item}
use Rattle.c5_frames.proofs.LawAgain.{IsSized, u32-again, u32-length, write-again, write-sized}
use Rattle.c5_frames.proofs.LawAgain.{mark-again, mark-sized, end-again, end-sized}
use Rattle.c5_frames.proofs.LawWalk.{Reads, reads-nothing, reads-item, in_header, header-read}

-- ---- one frame

-- what a frame leaves doesn't depend on the item that it was
pub after_frame-any : (s : LogSoFar) (size : ℕ) (frame : Frame)
    → after_frame (expecting s (frame_payload size)) frame ≡ after_frame s frame
unfolding after_frame after_write after_mark after_end
after_frame-any s size (write entry) = refl
after_frame-any s size (mark numbers) = refl
after_frame-any s size (end count) = refl

pub frame-read : (s next last : LogSoFar) (payload rest : List ℕ) (frame : Frame)
    → s.next ≡ frame_length → IsSized payload → frame_at s.tables payload ≡ Ok frame
    → after_frame s frame ≡ Ok next
    → Reads next rest last → Reads s (spelled_frame payload ++ rest) last
unfolding spelled_frame after_item
frame-read s next last payload rest frame item sized found e more =
    let n = length payload in
    let number = spelled_u32 n in
    let s2 = expecting s (frame_payload n) in
    let low = sized.no_shorter in
    let high = sized.no_longer in
    let len = u32-length n in
    let is : number_32 number ≡ n =
    ap number_32 (sym (append-nil number)) ∙ u32-again n [] (omega (arith, high)) in
    let long : ltb n 5 ≡ false = le-ltb _ _ low in
    let short : ltb 300 n ≡ false = le-ltb _ _ high in
    let left : after_item frame_length s number ≡ Ok s2 = rw (is, long, short) refl in
    let taken : after_item (frame_payload n) s2 payload ≡ Ok next =
    rw found (after_frame-any s n frame ∙ e) in
    let r2 : Reads s2 (payload ++ rest) last =
    reads-item s2 next last payload rest (omega (arith, low)) refl taken more in
    let r1 : Reads s (number ++ (payload ++ rest)) last =
    reads-item s s2 last number (payload ++ rest) (omega (arith, len)) (rw (item, len) refl)
    (rw item left) r2 in
    subst (λ (t : List ℕ). Reads s t last) (sym (append_assoc number payload rest)) r1

-- ---- writes

at_seam : {A : Type 0} (P : A → Type 0) (xs : List A) (y : A) (ys : List A)
    → AllByRecursion P (xs ++ y ∷ ys) → P y
at_seam P [] y ys all = all.0
at_seam P (x ∷ xs) y ys all = at_seam P xs y ys all.1

is_above-last : (writes : List Write) (entry : Write) (more : List Write)
    → IsAscending (writes ++ entry ∷ more) → is_above entry.name (last_of writes) ≡ true
is_above-last [] entry more up =
    ap (is_above entry.name) (slice_get_past {X = Write} [] (0 - 1) (omega arith))
is_above-last (first ∷ writes) entry more up =
    let all : List Write = first ∷ writes in
    let i = length all - 1 in
    let within : i < length all = omega arith in
    let last = get_or all i first in
    let below : row_name_cmp (get_or (all ++ entry ∷ more) i first).name
    (get_or (all ++ entry ∷ more) (length all) first).name ≡ Less =
    far_below (all ++ entry ∷ more) i (length all) first up within
    (omega (arith, length-append all (entry ∷ more))) in
    let less : row_name_cmp last.name entry.name ≡ Less =
    ap (λ (w : Write). row_name_cmp w.name entry.name)
    (sym (get_or_append_left all (entry ∷ more) first i within))
    ∙ ap (λ (w : Write). row_name_cmp (get_or (all ++ entry ∷ more) i first).name w.name)
    (sym (get_or-append_seam all entry more first))
    ∙ below in
    let greater : row_name_cmp entry.name last.name ≡ Greater =
    row_name_cmp_total.antisymm entry.name last.name ∙ ap ordering_reverse less in
    ap (is_above entry.name) (slice_get-get_or all i first within) ∙ ap is_gt greater

-- before a frame
abbrev pub in_frames : List TableDef → List Txn → List Write → ℕ → LogSoFar
in_frames tables txns writes stamp =
    record { tables = tables; txns = txns; writes = writes; stamp = stamp; next = frame_length }

abbrev pub spelled_write : Write → List ℕ
spelled_write entry = spelled_frame (write_payload entry)

writes-read : (tables : List TableDef) (txns : List Txn) (stamp : ℕ) (writes more : List Write)
    (rest : List ℕ) (last : LogSoFar) → AllByRecursion IsLawfulTable tables
    → AllByRecursion (IsLawfulWrite tables) more → IsAscending (writes ++ more)
    → Reads (in_frames tables txns (writes ++ more) stamp) rest last
    → Reads (in_frames tables txns writes stamp) (flat_map spelled_write more ++ rest) last
unfolding after_frame after_write
writes-read tables txns stamp writes [] rest last each lawful up then =
    subst (λ (ws : List Write). Reads (in_frames tables txns ws stamp) rest last)
    (append-nil writes) then
writes-read tables txns stamp writes (entry ∷ more) rest last each lawful up then =
    let s = in_frames tables txns writes stamp in
    let next = in_frames tables txns (writes ++ entry ∷ []) stamp in
    let others = flat_map spelled_write more in
    let all = append_assoc writes (entry ∷ []) more in
    let above = is_above-last writes entry more up in
    let left = writes-read tables txns stamp (writes ++ entry ∷ []) more rest last each lawful.1
    (subst IsAscending (sym all) up)
    (subst (λ (ws : List Write). Reads (in_frames tables txns ws stamp) rest last)
    (sym all) then) in
    let one = frame-read s next last (write_payload entry) (others ++ rest) (write entry) refl
    (write-sized tables entry each lawful.0) (write-again tables entry lawful.0)
    (rw above refl) left in
    subst (λ (t : List ℕ). Reads s t last)
    (sym (append_assoc (spelled_write entry) others rest)) one

-- ---- transactions

-- the stamp of the last transaction, or the given one
abbrev pub last_stamp : ℕ → List Txn → ℕ
last_stamp last [] = last
last_stamp last (txn ∷ txns) = last_stamp txn.stamp txns

txns-read : (tables : List TableDef) (before : List Txn) (stamp : ℕ) (txns : List Txn)
    (rest : List ℕ) (last : LogSoFar) → AllByRecursion IsLawfulTable tables
    → AllByRecursion (IsLawfulTxn tables) txns → StampsRise stamp txns
    → Reads (in_frames tables (before ++ txns) [] (last_stamp stamp txns)) rest last
    → Reads (in_frames tables before [] stamp) (flat_map spelled_txn txns ++ rest) last
unfolding spelled_txn after_frame after_mark
txns-read tables before stamp [] rest last each lawful rise then =
    subst (λ (ts : List Txn). Reads (in_frames tables ts [] stamp) rest last)
    (append-nil before) then
txns-read tables before stamp (txn ∷ txns) rest last each lawful rise then =
    let s = in_frames tables before [] stamp in
    let middle = in_frames tables before txn.writes stamp in
    let next = in_frames tables (before ++ txn ∷ []) [] txn.stamp in
    let writes = flat_map spelled_write txn.writes in
    let marked = spelled_frame (mark_payload txn) in
    let others = flat_map spelled_txn txns in
    let all = append_assoc before (txn ∷ []) txns in
    let left = txns-read tables (before ++ txn ∷ []) txn.stamp txns rest last each lawful.1 rise.2
    (subst (λ (ts : List Txn). Reads
    (in_frames tables ts [] (last_stamp txn.stamp txns)) rest last) (sym all) then) in
    let above : ltb stamp txn.stamp ≡ true = lt-ltb _ _ rise.0 in
    let counted : eqb (length txn.writes) (length txn.writes) ≡ true = eq-eqb _ _ refl in
    let one = frame-read middle next last (mark_payload txn) (others ++ rest)
    (mark (record { script = txn.script; stamp = txn.stamp; count = length txn.writes })) refl
    (mark-sized txn) (mark-again tables txn lawful.0.script rise.1 lawful.0.count)
    (rw (above, counted) refl) left in
    let whole = writes-read tables before stamp [] txn.writes
    (marked ++ (others ++ rest)) last each lawful.0.writes lawful.0.ascending one in
    let parts : ((writes ++ marked) ++ others) ++ rest ≡ writes ++ (marked ++ (others ++ rest)) =
    append_assoc (writes ++ marked) others rest ∙ append_assoc writes marked (others ++ rest) in
    subst (λ (t : List ℕ). Reads s t last) (sym parts) whole

-- ---- a whole log

-- after the end mark
abbrev pub ended : List TableDef → List Txn → LogSoFar
ended tables txns =
    record {
      tables = tables;
      txns = txns;
      writes = [];
      stamp = last_stamp 0 txns;
      next = nothing_more;
    }

end-read : (tables : List TableDef) (txns : List Txn) → length txns < 2 ^ 32
    → Reads (in_frames tables txns [] (last_stamp 0 txns))
    (spelled_frame (end_payload (length txns))) (ended tables txns)
unfolding after_frame after_end
end-read tables txns few =
    let s = in_frames tables txns [] (last_stamp 0 txns) in
    let next = ended tables txns in
    let text = spelled_frame (end_payload (length txns)) in
    let counted : eqb (length txns) (length txns) ≡ true = eq-eqb _ _ refl in
    subst (λ (t : List ℕ). Reads s t next) (append-nil text)
    (frame-read s next next (end_payload (length txns)) [] (end (length txns)) refl
    (end-sized (length txns)) (end-again tables (length txns) few) (rw counted refl)
    (reads-nothing next))

pub log-read : (bytes : List ℕ) (tables : List TableDef) (txns : List Txn)
    → Spells bytes tables txns → Reads (in_header [] the_magic) bytes (ended tables txns)
unfolding spelled_log
log-read bytes tables txns spells =
    let lawful = spells.lawful in
    let last = ended tables txns in
    let frames = flat_map spelled_txn txns in
    let mark = spelled_frame (end_payload (length txns)) in
    let text : bytes ≡ spelled_header tables ++ (frames ++ mark) =
    spells.spelling ∙ append_assoc (spelled_header tables) frames mark in
    let behind =
    txns-read tables [] 0 txns mark last lawful.each_table lawful.each_txn lawful.stamps
    (end-read tables txns lawful.count) in
    subst (λ (t : List ℕ). Reads (in_header [] the_magic) t last) (sym text)
    (header-read tables (frames ++ mark) last lawful.schema lawful.each_table behind)
