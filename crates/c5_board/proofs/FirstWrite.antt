-- The first write of a log, for tests: its row, its record and its slot.
use Rattle.std.proofs.Common.{◌≡◌, ℕ, zero, suc, ◌≤◌, List, [], ◌∷◌, length, map, Option, Some}
use Rattle.std.proofs.Common.{None, true, refl, sym, ap, subst, ◌∙◌, arith}
use Rattle.std.specs.Prelude.{slice_get}
use Rattle.c5_rows.specs.declared.writes.RowName.{RowName}
use Rattle.c5_rows.specs.declared.writes.Write.{Write}
use Rattle.c5_rows.specs.declared.writes.Txn.{Txn}
use Rattle.c5_definitions.specs.WriteNumbers.{names_in, name_at, row_of, predecessor_of, owner_of}
use Rattle.c5_definitions.specs.WriteNumbers.{IsWrite, IsFirstWrite}
use Rattle.c5_definitions.specs.RowIndex.{bucket_count, start_of, start_of_write, IsSlot}
use Rattle.c5_definitions.specs.IndexLaws.{LeadsToSlot}
use Rattle.c5_definitions.proofs.NumberLemmas.{rows_are_numbered, predecessors_are_last}
use Rattle.c5_definitions.proofs.NumberLemmas.{numbers_are_owned, length-names_in}
use Rattle.c5_definitions.proofs.IndexLemmas.{rows_are_indexed, path-zero}
use Rattle.c5_frames.specs.Index.{writes_of}
use Rattle.c5_frames.specs.Log.{Log}
use Rattle.c5_rows.specs.Numbers.{is_among}
use Rattle.c5_board.specs.Boards.{Pass}
use Rattle.c5_board.specs.Passes.{IsOutstanding}
use Rattle.c5_board.specs.Boards.{record_of}

name_there : (writes : List Write) (i : ℕ) (w : Write) → slice_get writes i ≡ Some w
    → slice_get (map (λ (w : Write). w.name) writes) i ≡ Some w.name
name_there [] i w e = absurd (cc)
name_there (x ∷ xs) zero w e = let same : x ≡ w = cc in ap (λ (z : Write). Some z.name) same
name_there (x ∷ xs) (suc i) w e = name_there xs i w e

pub first_name : (txns : List Txn) (w : Write) → slice_get (writes_of txns) 0 ≡ Some w
    → name_at (names_in txns) 1 ≡ Some w.name
unfolding names_in
first_name txns w e = name_there (writes_of txns) 0 w e

-- a log has a write if it has a name
pub some_written : (log log' : Log) → log' ≡ log → 1 ≤ length (names_in log.txns)
    → 1 ≤ length (writes_of log'.txns)
some_written log log' same some_name = let e = length-names_in log'.txns in
    let f = ap (λ (l : Log). length (names_in l.txns)) same in omega arith

pub name_first : (log log' : Log) (w : Write) (name : RowName) → log' ≡ log
    → slice_get (writes_of log'.txns) 0 ≡ Some w → name ≡ w.name
    → name_at (names_in log.txns) 1 ≡ Some name
name_first log log' w name same at is =
    ap (λ (l : Log). name_at (names_in l.txns) 1) (sym same) ∙
    (first_name log'.txns w at ∙ ap Some (sym is))

-- the one worker's next number after 1 is 2
pub outstanding_two : (p : Pass) → p.board.workers ≡ 1 → p.installed ≡ 1 ∷ [] → IsOutstanding p 1 2
outstanding_two p one installed = let own = numbers_are_owned 1 (omega arith) in record {
  positive = omega arith;
  owned = (let a = own.some 2 in let b = own.worker 2 in let e : owner_of 1 2 ≡ 1 = omega arith in
      ap (λ (n : ℕ). owner_of n 2) one ∙ e);
  not_installed = ap (is_among 2) installed;
  least = λ w positive below owned. let e : w ≡ 1 = omega arith in
      subst (λ (v : ℕ). is_among v p.installed ≡ true) (sym e) (ap (is_among 1) installed);
}

module _ (names : List RowName) (some_write : 1 ≤ length names) where
  write_one : IsWrite names 1
  write_one = record { positive = omega arith; within = some_write }

  row_one : row_of names 1 ≡ 1
  row_one = let r = rows_are_numbered names in let a = r.not_above 1 in
      let b = (r.first 1 write_one).write.positive in omega arith

  pub first_one : IsFirstWrite names 1
  first_one = record { write = write_one; first = row_one }

  pub record_one : record_of names 1 ≡ record { row = 1; predecessor = 0 }
  record_one = let p = (predecessors_are_last names).below 1 write_one in
      let e : predecessor_of names 1 ≡ 0 = omega arith in
      λ t. record { row = row_one t; predecessor = e t }

  start_named : (buckets : ℕ) (name : RowName) → name_at names 1 ≡ Some name
      → start_of_write names buckets 1 ≡ start_of buckets name
  unfolding start_of_write
  start_named buckets name e = subst
      (λ (o : Option RowName). elim o [ None ↦ 0 | Some n ↦ start_of buckets n ]
      ≡ start_of buckets name) (sym e) refl

  slot_at : (k : ℕ) → LeadsToSlot names 1 k
      → IsSlot names 1 (start_of_write names (bucket_count (length names)) 1)
  slot_at zero l = subst (IsSlot names 1)
      (path-zero (bucket_count (length names))
      (start_of_write names (bucket_count (length names)) 1)) l.slot
  slot_at (suc k) l = let a = l.before 0 (omega arith) in
      absurd (l.taken 0 (omega arith) (omega arith))

  pub slot_one : (name : RowName) → name_at names 1 ≡ Some name
      → IsSlot names 1 (start_of (bucket_count (length names)) name)
  slot_one name e = let l = (rows_are_indexed names).path 1 first_one in
      subst (IsSlot names 1) (start_named (bucket_count (length names)) name e) (slot_at l.0 l.1)
