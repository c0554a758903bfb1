-- Where items begin: the bytes before an item and those of it that have come are all bytes so far.
use Rattle.std.proofs.Common.{◌≡◌, ◌+◌, ◌-◌, ◌≤◌, ℕ, Bool, true, false, cond, eqb, List, [], ◌∷◌}
use Rattle.std.proofs.Common.{◌++◌, length, Result, Ok, Err, ap, subst, arith}
use Rattle.std.proofs.lemmas.List.{length_push}
use Rattle.c5_definitions.specs.declared.fault.LogKind.{LogKind}
use Rattle.c5_definitions.specs.declared.fault.LogKind.TheVariants as kinds
use Rattle.c5_definitions.specs.declared.fault.LogFault.{LogFault}
use Rattle.c5_definitions.specs.Steps.{◌>>=◌}
use Rattle.c5_definitions.specs.Items.{Item, the_magic, table_count, name_length, table_name}
use Rattle.c5_definitions.specs.Items.{column_count, column_types, frame_length, frame_payload}
use Rattle.c5_definitions.specs.Items.{nothing_more, LogSoFar, after_item, Reading, begin_of}
use Rattle.c5_definitions.specs.Items.{after_whole, after_byte, after_bytes, at_start, LogParts}
use Rattle.c5_definitions.specs.Items.{whole_from, whole, log_of}

-- how many bytes have been read
abbrev pub count_of : Reading → ℕ
count_of r = r.offset + length r.come

-- the bytes are counted, and a fault is among them
abbrev pub Counts : ℕ → Result Reading LogFault → Type 0
Counts count (Ok next) = count_of next ≡ count
Counts count (Err fault) = fault.offset ≤ count

begin-within : (item : Item) (offset : ℕ) → begin_of item offset ≤ offset
begin-within the_magic offset = omega arith
begin-within table_count offset = omega arith
begin-within (name_length missing) offset = omega arith
begin-within (table_name missing size) offset = omega arith
begin-within (column_count missing name) offset = omega arith
begin-within (column_types missing name size) offset = omega arith
begin-within frame_length offset = omega arith
begin-within (frame_payload size) offset = omega arith
begin-within nothing_more offset = omega arith

counts-at : (found : Result Reading LogFault) (n m : ℕ) → n ≡ m → Counts n found → Counts m found
counts-at found n m same h = subst (λ (k : ℕ). Counts k found) same h

whole-counts : (r : Reading) (bytes : List ℕ)
    → Counts (r.offset + length bytes) (after_whole r bytes)
unfolding after_whole
whole-counts r bytes = by_item (after_item r.so_far.next r.so_far bytes) r bytes
  where
    by_item : (found : Result LogSoFar LogKind) (r : Reading) (bytes : List ℕ)
        → Counts (r.offset + length bytes)
        (elim found as
        (λ _. Result Reading LogFault) [
          | Ok s ↦ Ok
              (record { so_far = s; offset = r.offset + length bytes; come = [] })
          | Err cause ↦ Err
              (record { offset = begin_of r.so_far.next r.offset; kind = cause })
        ])
    by_item (Ok s) r bytes = omega arith
    by_item (Err cause) r bytes = omega (arith, begin-within r.so_far.next r.offset)

byte-counts : (r : Reading) (byte : ℕ) → Counts (count_of r + 1) (after_byte r byte)
unfolding after_byte
byte-counts r byte = by_size (eqb (length r.come + 1) _) r byte
  where
    by_size : (last : Bool) (r : Reading) (byte : ℕ)
        → Counts (count_of r + 1)
        (cond last (after_whole r (r.come ++ byte ∷ []))
        (Ok (record { so_far = r.so_far; offset = r.offset; come = r.come ++ byte ∷ [] })))
    by_size true r byte = counts-at (after_whole r (r.come ++ byte ∷ []))
        (r.offset + length (r.come ++ byte ∷ [])) (count_of r + 1)
        (omega (arith, length_push r.come byte)) (whole-counts r (r.come ++ byte ∷ []))
    by_size false r byte = omega (arith, length_push r.come byte)

then_counts : (found : Result Reading LogFault) (n k total : ℕ)
    (more : Reading → Result Reading LogFault) → n + k ≡ total → Counts n found
    → ((next : Reading) → Counts (count_of next + k) (more next)) → Counts total (found >>= more)
then_counts (Ok next) n k total more sum h f =
    counts-at (more next) (count_of next + k) total (omega (arith, h, sum)) (f next)
then_counts (Err fault) n k total more sum h f = omega (arith, h, sum)

pub bytes-count : (r : Reading) (bytes : List ℕ)
    → Counts (count_of r + length bytes) (after_bytes r bytes)
unfolding after_bytes
bytes-count r [] = omega arith
bytes-count r (byte ∷ bytes) =
    then_counts (after_byte r byte) (count_of r + 1) (length bytes)
    (count_of r + length (byte ∷ bytes)) (λ next. after_bytes next bytes) (omega arith)
    (byte-counts r byte) (λ next. bytes-count next bytes)

counted : (found : Result Reading LogFault) (n : ℕ) → Counts n found → (next : Reading)
    → found ≡ Ok next → count_of next ≡ n
counted found n h next e = subst (Counts n) e h

-- the bytes before the next item and those of it that have come are all bytes
pub after_bytes-count : (r next : Reading) (bytes : List ℕ) → after_bytes r bytes ≡ Ok next
    → next.offset + length next.come ≡ (r.offset + length r.come) + length bytes
after_bytes-count r next bytes e =
    counted (after_bytes r bytes) (count_of r + length bytes) (bytes-count r bytes) next e

-- a fault is at one of the bytes, or after the last one
pub after_bytes-within : (r : Reading) (bytes : List ℕ) (fault : LogFault)
    → after_bytes r bytes ≡ Err fault → fault.offset ≤ (r.offset + length r.come) + length bytes
after_bytes-within r bytes fault e =
    subst (Counts (count_of r + length bytes)) e (bytes-count r bytes)

abbrev failed : LogFault → Result LogParts LogFault
failed fault = Err fault

at_or_before : (offset begin : ℕ) (fault : LogFault) → begin ≤ offset
    → failed (record { offset = begin; kind = kinds.Cut }) ≡ failed fault → fault.offset ≤ offset
at_or_before offset begin fault within e =
    let same : begin ≡ fault.offset =
    err_offset (record { offset = begin; kind = kinds.Cut }) fault e in
    omega (arith, same, within)
  where
    err_offset : (x y : LogFault) → failed x ≡ failed y → x.offset ≡ y.offset
    err_offset x y e =
        let same : x ≡ y = cc in
        ap (λ (f : LogFault). f.offset) same

whole-within : (item : Item) (r : Reading) (fault : LogFault) → whole_from item r ≡ Err fault
    → fault.offset ≤ r.offset
unfolding whole_from
whole-within nothing_more r fault e = absurd cc
whole-within the_magic r fault e = at_or_before r.offset r.offset fault (omega arith) e
whole-within table_count r fault e = at_or_before r.offset r.offset fault (omega arith) e
whole-within (name_length missing) r fault e = at_or_before r.offset r.offset fault (omega arith) e
whole-within (table_name missing size) r fault e =
    at_or_before r.offset r.offset fault (omega arith) e
whole-within (column_count missing name) r fault e =
    at_or_before r.offset r.offset fault (omega arith) e
whole-within (column_types missing name size) r fault e =
    at_or_before r.offset r.offset fault (omega arith) e
whole-within frame_length r fault e = at_or_before r.offset r.offset fault (omega arith) e
whole-within (frame_payload size) r fault e =
    at_or_before r.offset (r.offset - 4) fault (omega arith) e

pub log_of-within : (bytes : List ℕ) (fault : LogFault) → log_of bytes ≡ Err fault
    → fault.offset ≤ length bytes
unfolding log_of whole
log_of-within bytes fault e = by_bytes (after_bytes at_start bytes) (length bytes) fault
    (counts-at (after_bytes at_start bytes) (count_of at_start + length bytes) (length bytes)
    (omega arith) (bytes-count at_start bytes)) e
  where
    by_bytes : (found : Result Reading LogFault) (n : ℕ) (fault : LogFault) → Counts n found
        → (found >>= λ r. whole_from r.so_far.next r) ≡ Err fault → fault.offset ≤ n
    by_bytes (Ok r) n fault h e = omega (arith, h, whole-within r.so_far.next r fault e)
    by_bytes (Err cause) n fault h e =
        let same : cause ≡ fault = cc in
        subst (λ (f : LogFault). f.offset ≤ n) same h
