-- The name of a write, by its parts.
use Rattle.std.proofs.Common.{◌≡◌, ◌∙◌, ◌-◌, ◌≤◌, ℕ, zero, suc, List, Some, slice_get, option_map}
use Rattle.std.proofs.Common.{ap, sym, refl, arith}
use Rattle.std.proofs.lemmas.Option.{slice_get-map}
use Rattle.c5_rows.specs.declared.writes.RowName.{RowName}
use Rattle.c5_rows.specs.declared.writes.Write.{Write}
use Rattle.c5_rows.specs.declared.writes.Txn.{Txn}
use Rattle.c5_definitions.specs.WriteNumbers.{names_in, name_at}
use Rattle.c5_frames.specs.Index.{writes_of}

pub name_at-write : (txns : List Txn) (w : ℕ) (write : Write) → 1 ≤ w
    → slice_get (writes_of txns) (w - 1) ≡ Some write → name_at (names_in txns) w ≡ Some write.name
unfolding names_in
name_at-write txns zero write some at = absurd (omega arith)
name_at-write txns (suc i) write some at =
    slice_get-map (λ (w : Write). w.name) (writes_of txns) i
    ∙ ap (λ (k : ℕ). option_map (λ (w : Write). w.name) (slice_get (writes_of txns) k))
    (let e : i ≡ suc i - 1 = omega arith in e)
    ∙ ap (option_map (λ (w : Write). w.name)) at

pub same_parts : (a b : RowName) → a.table ≡ b.table → a.key ≡ b.key → a ≡ b
same_parts a b table key = λ i. record { table = table i; key = key i }

pub one_name : (txns : List Txn) (w : ℕ) (a b : RowName) → name_at (names_in txns) w ≡ Some a
    → name_at (names_in txns) w ≡ Some b → a ≡ b
one_name txns w a b x y = let e : Some a ≡ Some b = sym x ∙ y in cc
