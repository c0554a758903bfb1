use Rattle.std.proofs.Common.{◌≡◌, ◌∙◌, ◌≤◌, ℕ, [], ◌∷◌, Some, ap, sym, subst, arith, length}
use Rattle.std.proofs.lemmas.Bool.{eqb-true, eqb-false}
use Rattle.c5_rows.specs.declared.writes.RowName.{RowName}
use Rattle.c5_definitions.specs.WriteNumbers.{name_at}
use Rattle.c5_definitions.proofs.NumberLemmas.{length-names_in}
use Rattle.c5_frames.specs.Log.{Log}
use Rattle.c5_frames.specs.Index.{writes_of}
use Rattle.c5_board.specs.Boards.{names, record_of}
use Rattle.c5_board.specs.declared.known.Look.TheVariants.{LoadRecord}
use Rattle.c5_chains.proofs.Naming.{name_at-write}
use Rattle.c5_reads.proofs.LookLemmas.{only-more, only-then, only-row, for-again, for-first}
use Rattle.c5_reads.proofs.FillLemmas.{filled-again, filled-set, written}
use Rattle.c5_reads.proofs.rows_after.fill.Goals as goal

pub returns-then-not-is_first-clause-filled : goal.returns-then-not-is_first-clause-filled
returns-then-not-is_first-clause-filled c =
    filled-again _ _ _ _ _
    (written _ _ _ (c.number_law.ensures.places _) c.requires.some c.requires.write)
    c.requires.filled (c.number_law.ensures.rows _)
    (eqb-false _ _ (sym c.is_first.ensures.first ∙ c.if-not-is_first.true))

pub returns-then-not-is_first-clause-looks : goal.returns-then-not-is_first-clause-looks
returns-then-not-is_first-clause-looks c =
    for-again c.args.pass.now c.is_first.new.pass c.args.board.now c.args.w c.requires.pass
    (sym c.is_first.ensures.first ∙ c.if-not-is_first.true) c.is_first.ensures.pass

pub returns-then-not-is_first-clause-pass : goal.returns-then-not-is_first-clause-pass
returns-then-not-is_first-clause-pass c =
    only-more c.args.pass.now c.is_first.new.pass c.args.pass.now.scheduled
    (LoadRecord c.args.w (record_of (names c.args.board.now) c.args.w) ∷ []) (tt, tt)
    (omega arith) c.is_first.ensures.pass

pub write-requires-clause-within : goal.write-requires-clause-within
write-requires-clause-within c =
    let log : c.log.result.now ≡ c.args.board.now.log = c.log.ensures.value ∙ c.plan.ensures.log in
    let is = written c.args.board.now.log.txns c.args.origin.now.place c.args.w
    (c.number_law.ensures.places _) c.requires.some c.requires.write in
    subst (λ (l : Log). c.args.w ≤ length (writes_of l.txns)) (sym log)
    (subst (λ (n : ℕ). c.args.w ≤ n) (length-names_in c.args.board.now.log.txns) is.within)

pub returns-clause-filled : goal.returns-clause-filled
returns-clause-filled c =
    let log : c.log.result.now ≡ c.args.board.now.log = c.log.ensures.value ∙ c.plan.ensures.log in
    let is = written c.args.board.now.log.txns c.args.origin.now.place c.args.w
    (c.number_law.ensures.places _) c.requires.some c.requires.write in
    let at_log =
    name_at-write c.log.result.now.txns c.args.w c.write.result c.requires.some c.write.ensures
    in
    let at = subst (λ (b : Log). name_at (names (record c.args.board.now { log = b })) c.args.w
    ≡ Some c.write.result.name) log at_log in
    let name_is = at ∙ ap (λ (n : RowName). Some n) (sym c.name-name.ensures) in
    filled-set c.args.board.now c.args.origin.now.start.now c.args.rows.now c.set_row.new.rows
    c.args.origin.now.place c.args.w c.name-name.result _ _ c.set_row.result
    (c.last_write_law.ensures _ _ _) is c.requires.filled
    (record {
      write = is;
      first = eqb-true _ _
          (sym c.is_first.ensures.first ∙ c.if-not-is_first.false);
    }) name_is
    c.value_at-at.ensures.value c.row_or_start.ensures c.set_row.ensures

pub returns-clause-pass : goal.returns-clause-pass
returns-clause-pass c = only-then c.args.pass.now c.is_first.new.pass c.value_at-at.new.pass
    (only-more c.args.pass.now c.is_first.new.pass c.args.pass.now.scheduled
    (LoadRecord c.args.w (record_of (names c.args.board.now) c.args.w) ∷ []) (tt, tt)
    (omega arith) c.is_first.ensures.pass)
    (only-row c.is_first.new.pass c.value_at-at.new.pass _ _ c.value_at-at.ensures.looks)

pub returns-clause-looks : goal.returns-clause-looks
returns-clause-looks c =
    for-first c.args.pass.now c.is_first.new.pass c.value_at-at.new.pass c.args.board.now _ _
    c.is_first.ensures.pass c.value_at-at.ensures.looks
