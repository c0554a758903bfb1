-- One more table in a schema.
use Rattle.std.proofs.Common.{◌≡◌, ◌+◌, ◌<◌, ℕ, Bool, true, false, cond, List, [], ◌∷◌, ◌++◌}
use Rattle.std.proofs.Common.{Option, Some, None, length, refl, ◌∙◌, arith}
use Rattle.std.specs.Str.{bytes_eq}
use Rattle.std.proofs.lemmas.Cmp.{nat_list_eq_equiv}
use Rattle.std.proofs.lemmas.List.{length_push}
use Rattle.c5_rows.specs.Sizes.{max_tables}
use Rattle.c5_rows.specs.Tables.{table_number_from, table_number, HaveNames, IsSchema}
use Rattle.c5_rows.specs.declared.tables.TableDef.{TableDef}

none_here : (b : Bool) (n : ℕ) (r : Option ℕ) → cond b (Some n) r ≡ None → (b ≡ false) × (r ≡ None)
none_here true n r e = absurd cc
none_here false n r e = (refl, e)

table_number_from-push : (n : ℕ) (name : List ℕ) (tables : List TableDef) (table : TableDef)
    → table_number_from n name tables ≡ None → bytes_eq table.name name ≡ false
    → table_number_from n name (tables ++ table ∷ []) ≡ None
table_number_from-push n name [] table none other = rw other refl
table_number_from-push n name (first ∷ tables) table none other =
    let here = none_here (bytes_eq first.name name) n
    (table_number_from (n + 1) name tables) none in
    rw here.0 (table_number_from-push (n + 1) name tables table here.1 other)

HaveNames-push : (n : ℕ) (tables : List TableDef) (table : TableDef) → HaveNames tables
    → table_number_from n table.name tables ≡ None → HaveNames (tables ++ table ∷ [])
HaveNames-push n [] table names none = (refl, tt)
HaveNames-push n (first ∷ tables) table names none =
    let here = none_here (bytes_eq first.name table.name) n
    (table_number_from (n + 1) table.name tables) none in (
      table_number_from-push 0 first.name tables table names.0
          (nat_list_eq_equiv.symm table.name first.name ∙ here.0),
      HaveNames-push (n + 1) tables table names.1 here.1,
    )

pub IsSchema-push : (tables : List TableDef) (table : TableDef) → IsSchema tables
    → length tables < max_tables → table_number table.name tables ≡ None
    → IsSchema (tables ++ table ∷ [])
IsSchema-push tables table schema room none = record {
  some = omega (arith, length_push tables table);
  few = omega (arith, length_push tables table);
  names = HaveNames-push 0 tables table schema.names none;
}
