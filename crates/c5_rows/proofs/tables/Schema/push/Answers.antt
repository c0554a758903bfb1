use Rattle.std.proofs.Common.{◌<◌, length, subst, ap, ◌∙◌, sym, arith}
use Rattle.c5_rows.specs.Tables.{table_number, IsSchema}
use Rattle.c5_rows.specs.Sizes.{max_tables}
use Rattle.c5_rows.proofs.TableLemmas.{IsSchema-push}
use Rattle.c5_rows.proofs.tables.Schema.push.Goals as goal

pub invariant_of-self : goal.invariant_of-self
invariant_of-self c =
    let few = c.self.invariant.few in
    let room : length c.self.inside.tables < max_tables =
    omega (arith, c.if-as_slice-eq-MAX_TABLES.false, ap length c.as_slice.ensures.value) in
    subst IsSchema (sym c.push.ensures)
    (IsSchema-push c.self.inside.tables c.args.table c.self.invariant room
    (ap (table_number c.args.table.name) c.self.view_is ∙ sym c.find.ensures ∙ c.in_default.is))
