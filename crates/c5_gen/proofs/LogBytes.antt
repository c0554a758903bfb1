-- How many bytes a log of account puts has.
use Rattle.std.proofs.Common.{◌≡◌, ℕ, ◌+◌, ◌*◌, List, [], ◌∷◌, ◌++◌, length, refl, ap, ◌∙◌, arith}
use Rattle.std.proofs.Common.{length-append}
use Rattle.std.specs.List.{AllByRecursion, flat_map}
use Rattle.std.proofs.lemmas.List.Sums.{sum_by-cons}
use Rattle.c5_rows.specs.declared.writes.Change.TheVariants as changes
use Rattle.c5_rows.specs.declared.writes.Write.{Write}
use Rattle.c5_rows.specs.declared.writes.Txn.{Txn}
use Rattle.c5_definitions.specs.Generated.{account, balance_row, generated_tables}
use Rattle.c5_definitions.specs.Spelling.{spelled_u32, spelled_u64, spelled_cell, spelled_change}
use Rattle.c5_definitions.specs.Spelling.{spelled_header}
use Rattle.c5_definitions.specs.Spelling.{write_payload, mark_payload, end_payload, spelled_frame}
use Rattle.c5_definitions.specs.Spelling.{spelled_txn, spelled_log}
use Rattle.c5_gen.proofs.Opening.{IsAccountPut}
use Rattle.c5_gen.proofs.MoneyRuns.{IsAccountTxn, write_count}
use Rattle.c5_gen.specs.Laws.{header_bytes, write_bytes, mark_bytes, end_bytes}

account-frame : (n b : ℕ)
    → length (spelled_frame
    (write_payload (record { name = account n; change = changes.Put (balance_row b) })))
    ≡ write_bytes
unfolding spelled_u32 spelled_u64 spelled_cell spelled_change write_payload spelled_frame
account-frame n b = refl

put-frame : (write : Write) → IsAccountPut write
    → length (spelled_frame (write_payload write)) ≡ write_bytes
put-frame write is =
    ap (λ w. length (spelled_frame (write_payload w))) is.2 ∙ account-frame is.0 is.1

mark-frame : (txn : Txn) → length (spelled_frame (mark_payload txn)) ≡ mark_bytes
unfolding spelled_u32 spelled_u64 mark_payload spelled_frame
mark-frame txn = refl

end-frame : (n : ℕ) → length (spelled_frame (end_payload n)) ≡ end_bytes
unfolding spelled_u32 end_payload spelled_frame
end-frame n = refl

header-length : length (spelled_header generated_tables) ≡ header_bytes
unfolding spelled_header
header-length = refl

frames-length : (writes : List Write) → AllByRecursion IsAccountPut writes
    → length (flat_map (λ write. spelled_frame (write_payload write)) writes)
    ≡ write_bytes * length writes
frames-length [] all = refl
frames-length (write ∷ writes) all =
    omega (
      arith,
      length-append (spelled_frame (write_payload write))
          (flat_map (λ write. spelled_frame (write_payload write)) writes),
      put-frame write all.0,
      frames-length writes all.1,
    )

txn-length : (txn : Txn) → IsAccountTxn txn
    → length (spelled_txn txn) ≡ write_bytes * length txn.writes + mark_bytes
unfolding spelled_txn
txn-length txn all =
    omega (
      arith,
      length-append (flat_map (λ write. spelled_frame (write_payload write)) txn.writes)
          (spelled_frame (mark_payload txn)),
      frames-length txn.writes all,
      mark-frame txn,
    )

txns-length : (txns : List Txn) → AllByRecursion IsAccountTxn txns
    → length (flat_map spelled_txn txns) ≡ write_bytes * write_count txns + mark_bytes * length txns
txns-length [] all = refl
txns-length (txn ∷ txns) all =
    omega (
      arith,
      length-append (spelled_txn txn) (flat_map spelled_txn txns),
      txn-length txn all.0,
      txns-length txns all.1,
      sum_by-cons (λ (t : Txn). length t.writes) txn txns,
    )

pub log-length : (txns : List Txn) → AllByRecursion IsAccountTxn txns
    → length (spelled_log generated_tables txns)
    ≡ header_bytes + (write_bytes * write_count txns + mark_bytes * length txns) + end_bytes
unfolding spelled_log
log-length txns all =
    omega (
      arith,
      length-append (spelled_header generated_tables ++ flat_map spelled_txn txns)
          (spelled_frame (end_payload (length txns))),
      length-append (spelled_header generated_tables) (flat_map spelled_txn txns),
      header-length,
      txns-length txns all,
      end-frame (length txns),
    )
