use Rattle.std.proofs.Common.{◌≡◌, ◌∙◌, List, ap, sym, Some, eq-eqb, true≢false}
use borrow.Author.Tests.{eqb-true}
use Rattle.std.proofs.lemmas.Slice.Eq.{bytes_eq-Decides}
use Rattle.c5_rows.specs.declared.writes.RowName.{RowName}
use Rattle.c5_chains.proofs.Naming.{name_at-write, same_parts, one_name}
use Rattle.c5_chains.proofs.following.has_name.Goals as goal

pub returns-then-table-name : goal.returns-then-table-name
returns-then-table-name c =
    let name_is =
    name_at-write c.args.log.now.txns c.args.w c.write-write.result c.requires.0
    c.write-write.ensures in
    let decides = bytes_eq-Decides c.key.result.now c.bytes.result.now in (
      λ true. name_is ∙ ap (λ (n : RowName). Some n)
          (same_parts _ _ (sym c.table.ensures ∙ c.if-table-name.true)
          (sym c.key.ensures ∙ decides.0 (sym c.eq.ensures ∙ true) ∙ c.bytes.ensures.value)),
      λ is. c.eq.ensures ∙ decides.1
          (c.key.ensures ∙ ap (λ (n : RowName). n.key)
          (one_name c.args.log.now.txns c.args.w _ _ name_is is) ∙ sym c.bytes.ensures.value),
    )

pub returns-else-table-name : goal.returns-else-table-name
returns-else-table-name c =
    let name_is =
    name_at-write c.args.log.now.txns c.args.w c.write-write.result c.requires.0
    c.write-write.ensures in (
      λ true. absurd (c.if-table-name.false (eqb-true _ _ true)),
      λ is. absurd
          (c.if-table-name.false
          (c.table.ensures ∙ ap (λ (n : RowName). n.table)
          (one_name c.args.log.now.txns c.args.w _ _ name_is is))),
    )
