use Rattle.std.proofs.Common.{◌∙◌, ap, refl, sym, List}
use Rattle.c5_rows.specs.declared.tables.TableDef.{TableDef}
use Rattle.c5_driver.specs.SameTables.{are_same_tables}
use Rattle.c5_driver.proofs.SameTables.{same-tables, tables-are}
use Rattle.c5_driver.proofs.backup.have_same_tables.Goals as goal

pub returns-clause-value : goal.returns-clause-value
returns-clause-value c =
    c.eq.ensures ∙ same-tables _ _ (record { ii = refl; it = refl; ti = refl; xx = refl })
    (λ a b. refl) c.args.schema.now c.schema.result.now
    ∙ ap (λ (ts : List TableDef). are_same_tables c.args.schema.now ts) c.schema.ensures

pub returns-clause-same : goal.returns-clause-same
returns-clause-same c = λ same. tables-are c.args.schema.now c.args.log.now.tables
    (sym (returns-clause-value c) ∙ same)
