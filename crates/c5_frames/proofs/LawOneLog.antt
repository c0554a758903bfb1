-- Bytes without a fault are a log, of one list of tables and of transactions only.
use Rattle.std.proofs.Common.{◌≡◌, ◌∙◌, ◌-◌, ◌<◌, ◌≤◌, ◌≢◌, ◌⊎◌, ℕ, List, [], ◌∷◌, ◌++◌, length}
use Rattle.std.proofs.Common.{get_or, Option, Some, None, Result, Ok, Err, Fits, w8, refl, sym, ap}
use Rattle.std.proofs.Common.{arith, inl, inr}
use Rattle.std.proofs.lemmas.Bool.{cases_lt}
use Rattle.std.proofs.lemmas.List.{get_or_past}
use Rattle.c5_rows.specs.declared.tables.TableDef.{TableDef}
use Rattle.c5_rows.specs.declared.writes.Txn.{Txn}
use Rattle.c5_definitions.specs.declared.fault.LogKind.TheVariants as kinds
use Rattle.c5_definitions.specs.declared.fault.LogFault.{LogFault}
use Rattle.c5_definitions.specs.Lawful.{Spells}
use Rattle.c5_definitions.specs.Steps.{◌>>=◌}
use Rattle.c5_definitions.specs.Items.{Item, the_magic, table_count, name_length, table_name}
use Rattle.c5_definitions.specs.Items.{column_count, column_types, frame_length, frame_payload}
use Rattle.c5_definitions.specs.Items.{nothing_more, Reading, after_item, after_whole, after_byte}
use Rattle.c5_definitions.specs.Items.{after_bytes, at_start, begin_of, LogParts, whole_from, whole}
use Rattle.c5_definitions.specs.Items.{log_of, log_fault_of}
use Rattle.c5_frames.specs.Laws.{AreOctets}
use Rattle.c5_frames.proofs.LawBytes.{after_bytes-append}
use Rattle.c5_frames.proofs.LawFields.{done, ok_is}
use Rattle.c5_frames.proofs.LawWalk.{at_item}
use Rattle.c5_frames.proofs.LawFrames.{log-read, ended}
use Rattle.c5_frames.proofs.LawOffsets.{log_of-within, after_bytes-count}
use Rattle.c5_frames.proofs.LawSound.{log_is_spelled}

-- each place of a list of bytes, also one after its end, which counts as 0
pub octets-small : (bytes : List ℕ) → AreOctets bytes → (i : ℕ) → get_or bytes i 0 < 256
octets-small bytes octets i =
    elim (cases_lt i (length bytes)) [
      | inl lt ↦ octets i 0 lt
      | inr le ↦ omega (arith, get_or_past bytes i 0 le)
    ]

-- ---- what is read is spelled so, and what is spelled is read

-- the premise is what a proof knows of a parameter `bytes: &[u8]`, as `c.type_inv.bytes`
pub log_of-spells : (bytes : List ℕ) → ((i : ℕ) → Fits w8 (get_or bytes i 0)) → (log : LogParts)
    → log_of bytes ≡ Ok log → Spells bytes log.tables log.txns
log_of-spells bytes small log e = log_is_spelled bytes (λ i. (small i).fits) log e

-- the same of a list of bytes in a clause
pub log_of-octets : (bytes : List ℕ) → AreOctets bytes → (log : LogParts) → log_of bytes ≡ Ok log
    → Spells bytes log.tables log.txns
log_of-octets bytes octets log e = log_is_spelled bytes (octets-small bytes octets) log e

-- all bytes of a log lead to the place after its end mark
pub spells-after_bytes : (bytes : List ℕ) (tables : List TableDef) (txns : List Txn)
    → Spells bytes tables txns → (stop : ℕ)
    × (after_bytes at_start bytes ≡ Ok (at_item (ended tables txns) stop))
spells-after_bytes bytes tables txns spells = log-read bytes tables txns spells 0

pub spells-log_of : (bytes : List ℕ) (tables : List TableDef) (txns : List Txn)
    → Spells bytes tables txns → log_of bytes ≡ Ok (record { tables = tables; txns = txns })
unfolding log_of whole whole_from
spells-log_of bytes tables txns spells =
    let read = spells-after_bytes bytes tables txns spells in
    ap (λ (r : Result Reading LogFault). r >>= whole) read.1

-- ---- one log, and nothing after it

pub spells-one : (bytes : List ℕ) (tables others : List TableDef) (txns more : List Txn)
    → Spells bytes tables txns → Spells bytes others more → (tables ≡ others) × (txns ≡ more)
spells-one bytes tables others txns more a b =
    let same : record { tables = tables; txns = txns } ≡ record { tables = others; txns = more } =
    ok_is {A = LogParts} {E = LogFault} _ _
    (sym (spells-log_of bytes tables txns a) ∙ spells-log_of bytes others more b) in
    (ap (λ (l : LogParts). l.tables) same, ap (λ (l : LogParts). l.txns) same)

never : {A E : Type 0} (x : A) (cause : E) (r : Result A E) → r ≡ Ok x → r ≡ Err cause → ⊥
never {A} {E} x cause r ok err =
    let clash : done {E = E} x ≡ Err cause = sym ok ∙ err in
    cc

-- a byte after the end mark is the fault
pub after_end-byte : (tables : List TableDef) (txns : List Txn) (stop byte : ℕ) (bytes : List ℕ)
    → after_bytes (at_item (ended tables txns) stop) (byte ∷ bytes)
    ≡ Err (record { offset = stop; kind = kinds.After })
unfolding after_bytes after_byte after_whole after_item
after_end-byte tables txns stop byte bytes = refl

pub log-then-more : (front : List ℕ) (byte : ℕ) (rest : List ℕ) (tables : List TableDef)
    (txns : List Txn) → Spells front tables txns
    → log_of (front ++ byte ∷ rest) ≡ Err (record { offset = length front; kind = kinds.After })
unfolding log_of
log-then-more front byte rest tables txns spells =
    let read = spells-after_bytes front tables txns spells in
    let all = after_bytes-count at_start (at_item (ended tables txns) read.0) front read.1 in
    let stop : read.0 ≡ length front = omega (arith, all) in
    ap (λ (r : Result Reading LogFault). r >>= whole)
    (after_bytes-append at_start front (byte ∷ rest)
    ∙ ap (λ (r : Result Reading LogFault). r >>= λ next. after_bytes next (byte ∷ rest)) read.1
    ∙ after_end-byte tables txns read.0 byte rest
    ∙ ap (λ (offset : ℕ). Err (record { offset = offset; kind = kinds.After })) stop)

pub spells-no_prefix : (front rest : List ℕ) (tables others : List TableDef) (txns more : List Txn)
    → Spells front tables txns → Spells (front ++ rest) others more → rest ≡ []
spells-no_prefix front [] tables others txns more a b = refl
spells-no_prefix front (byte ∷ rest) tables others txns more a b =
    let after = log-then-more front byte rest tables txns a in
    absurd (never (record { tables = others; txns = more }) _ (log_of (front ++ byte ∷ rest))
    (spells-log_of (front ++ byte ∷ rest) others more b) after)

-- ---- faults

-- a fault that is found before the input ends stays
pub fault-stays : (front rest : List ℕ) (fault : LogFault) → after_bytes at_start front ≡ Err fault
    → log_of (front ++ rest) ≡ Err fault
unfolding log_of
fault-stays front rest fault e =
    ap (λ (r : Result Reading LogFault). r >>= whole)
    (after_bytes-append at_start front rest ∙ ap
    (λ (r : Result Reading LogFault). r >>= λ next. after_bytes next rest) e)

abbrev failed : {A E : Type 0} → E → Result A E
failed cause = Err cause

err_is : {A E : Type 0} (x y : E) → failed {A = A} x ≡ failed {A = A} y → x ≡ y
err_is x y e = cc

cut_is : (offset : ℕ) (fault : LogFault)
    → failed {A = LogParts} (record { offset = offset; kind = kinds.Cut }) ≡ failed fault
    → fault.kind ≡ kinds.Cut
cut_is offset fault e =
    sym (ap (λ (f : LogFault). f.kind)
    (err_is {A = LogParts} (record { offset = offset; kind = kinds.Cut }) fault e))

-- at the end of the input nothing but bytes can be missing
pub whole-cut : (item : Item) (r : Reading) (fault : LogFault) → whole_from item r ≡ Err fault
    → fault.kind ≡ kinds.Cut
unfolding whole_from
whole-cut nothing_more r fault e = absurd cc
whole-cut the_magic r fault e = cut_is r.offset fault e
whole-cut table_count r fault e = cut_is r.offset fault e
whole-cut (name_length missing) r fault e = cut_is r.offset fault e
whole-cut (table_name missing size) r fault e = cut_is r.offset fault e
whole-cut (column_count missing name) r fault e = cut_is r.offset fault e
whole-cut (column_types missing name size) r fault e = cut_is r.offset fault e
whole-cut frame_length r fault e = cut_is r.offset fault e
whole-cut (frame_payload size) r fault e = cut_is (r.offset - 4) fault e

-- so any other fault was found before
pub found-before : (bytes : List ℕ) (fault : LogFault) → log_of bytes ≡ Err fault
    → fault.kind ≢ kinds.Cut → after_bytes at_start bytes ≡ Err fault
unfolding log_of whole
found-before bytes fault e other = by_bytes (after_bytes at_start bytes) fault e other
  where
    by_bytes : (found : Result Reading LogFault) (fault : LogFault)
        → (found >>= λ r. whole_from r.so_far.next r) ≡ Err fault → fault.kind ≢ kinds.Cut
        → found ≡ Err fault
    by_bytes (Ok r) fault e other = absurd (other (whole-cut r.so_far.next r fault e))
    by_bytes (Err cause) fault e other =
        ap (λ (f : LogFault). Err f) (err_is {A = LogParts} cause fault e)

-- ---- the fault of bytes

abbrev fault_in : Result LogParts LogFault → Option LogFault
fault_in found = elim found [ Ok log ↦ None | Err fault ↦ Some fault ]

none_in : (found : Result LogParts LogFault) → fault_in found ≡ None → (log : LogParts)
    × (found ≡ Ok log)
none_in (Ok log) e = (log, refl)
none_in (Err fault) e = absurd cc

some_in : (found : Result LogParts LogFault) (fault : LogFault) → fault_in found ≡ Some fault
    → found ≡ Err fault
some_in (Ok log) fault e = absurd cc
some_in (Err cause) fault e =
    let same : cause ≡ fault = cc in
    ap (λ (f : LogFault). Err f) same

pub log_fault_of-none : (bytes : List ℕ) → log_fault_of bytes ≡ None → (log : LogParts)
    × (log_of bytes ≡ Ok log)
unfolding log_fault_of
log_fault_of-none bytes e = none_in (log_of bytes) e

pub log_fault_of-some : (bytes : List ℕ) (fault : LogFault) → log_fault_of bytes ≡ Some fault
    → log_of bytes ≡ Err fault
unfolding log_fault_of
log_fault_of-some bytes fault e = some_in (log_of bytes) fault e

pub log_fault_of-ok : (bytes : List ℕ) (log : LogParts) → log_of bytes ≡ Ok log
    → log_fault_of bytes ≡ None
unfolding log_fault_of
log_fault_of-ok bytes log e = ap fault_in e

pub log_fault_of-err : (bytes : List ℕ) (fault : LogFault) → log_of bytes ≡ Err fault
    → log_fault_of bytes ≡ Some fault
unfolding log_fault_of
log_fault_of-err bytes fault e = ap fault_in e

pub log_fault_of-stays : (front rest : List ℕ) (fault : LogFault) → log_fault_of front ≡ Some fault
    → fault.kind ≢ kinds.Cut → log_fault_of (front ++ rest) ≡ Some fault
log_fault_of-stays front rest fault e other =
    log_fault_of-err (front ++ rest) fault
    (fault-stays front rest fault
    (found-before front fault (log_fault_of-some front fault e) other))

-- ---- the prefixes of a log

-- at the end of the input an item other than the last one is cut
cut-at : (item : Item) (r : Reading)
    → (((log : LogParts) × (whole_from item r ≡ Ok log))
    ⊎ (whole_from item r ≡ Err (record { offset = begin_of item r.offset; kind = kinds.Cut })))
unfolding whole_from
cut-at nothing_more r = inl (record { tables = r.so_far.tables; txns = r.so_far.txns }, refl)
cut-at the_magic r = inr refl
cut-at table_count r = inr refl
cut-at (name_length missing) r = inr refl
cut-at (table_name missing size) r = inr refl
cut-at (column_count missing name) r = inr refl
cut-at (column_types missing name size) r = inr refl
cut-at frame_length r = inr refl
cut-at (frame_payload size) r = inr refl

log_of-at : (bytes : List ℕ) (r : Reading) (out : Result LogParts LogFault)
    → after_bytes at_start bytes ≡ Ok r → whole_from r.so_far.next r ≡ out → log_of bytes ≡ out
unfolding log_of whole
log_of-at bytes r out e at = ap (λ (found : Result Reading LogFault). found >>= whole) e ∙ at

pub front-cut : (front rest : List ℕ) → AreOctets front → (tables : List TableDef) (txns : List Txn)
    → Spells (front ++ rest) tables txns → rest ≢ []
    → (r : Reading) × (after_bytes at_start front ≡ Ok r)
    × (log_fault_of front ≡ Some
    (record { offset = begin_of r.so_far.next r.offset; kind = kinds.Cut }))
front-cut front rest octets tables txns spells some =
    elim (after_bytes at_start front) as
    (λ (o : Result Reading LogFault). after_bytes at_start front ≡ o → (r : Reading)
    × (after_bytes at_start front ≡ Ok r)
    × (log_fault_of front ≡ Some
    (record { offset = begin_of r.so_far.next r.offset; kind = kinds.Cut }))) [
      | Err fault ↦ λ e. absurd
          (never (record { tables = tables; txns = txns }) fault (log_of (front ++ rest))
          (spells-log_of (front ++ rest) tables txns spells) (fault-stays front rest fault e))
      | Ok r ↦ λ e. elim (cut-at r.so_far.next r) [
        | inl log ↦ absurd
            (some (spells-no_prefix front rest log.0.tables tables log.0.txns txns
            (log_of-octets front octets log.0 (log_of-at front r (Ok log.0) e log.1)) spells))
        | inr cut ↦ (
          r,
          e,
          log_fault_of-err front
              (record { offset = begin_of r.so_far.next r.offset; kind = kinds.Cut })
              (log_of-at front r
              (Err (record { offset = begin_of r.so_far.next r.offset; kind = kinds.Cut })) e cut),
        )
      ]
    ] refl

-- bytes after a log are the fault
pub log-then-after : (log rest : List ℕ) (tables : List TableDef) (txns : List Txn)
    → Spells log tables txns → rest ≢ [] → log_fault_of (log ++ rest)
    ≡ Some (record { offset = length log; kind = kinds.After })
log-then-after log [] tables txns spells some = absurd (some refl)
log-then-after log (byte ∷ rest) tables txns spells some =
    let after = log-then-more log byte rest tables txns spells in
    log_fault_of-err (log ++ byte ∷ rest) (record { offset = length log; kind = kinds.After }) after

pub log_fault_of-within : (bytes : List ℕ) (fault : LogFault) → log_fault_of bytes ≡ Some fault
    → fault.offset ≤ length bytes
log_fault_of-within bytes fault e = log_of-within bytes fault (log_fault_of-some bytes fault e)
