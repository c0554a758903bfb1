use Rattle.std.proofs.Common.{◌≡◌, ◌∙◌, ℕ, get_or, ap, subst, arith, inl, inr}
use Rattle.std.proofs.lemmas.Bool.{cases_lt}
use Rattle.std.proofs.lemmas.Option.{slice_get_within, get_or_from_slice_get}
use Rattle.c5_rows.specs.Bytes.{IsTableName}
use Rattle.c5_rows.specs.declared.tables.TableDef.{TableDef}
use Rattle.c5_text.proofs.reading.read_names.Goals as goal

pub loop-table-preserved : goal.loop-table-preserved
loop-table-preserved c number table lt at =
    elim (cases_lt number c.loop-table.table-index) [
      | inl before ↦ c.loop-table.invariant number table before at
      | inr past ↦
          let same : c.loop-table.table-index ≡ number = omega arith in
          let this : c.table-item.result ≡ table =
          c.table-item.is ∙ ap
          (λ (i : ℕ). get_or c.args.tables.now i c.table-item.result) same ∙
          get_or_from_slice_get c.args.tables.now number table _ at in
          subst (λ (t : TableDef). IsTableName t.name) this c.bytes.ensures.is_name
    ]

pub returns : goal.returns
returns c number table at =
    let within = slice_get_within c.args.tables.now number table at in
    c.loop-table.invariant number table (omega arith) at
