use Rattle.std.proofs.Common.{◌∙◌, ◌+◌, Ok, sym, ap, length, arith}
use Rattle.std.proofs.lemmas.Option.{slice_get_within}
use Rattle.c5_rows.specs.declared.tables.TableDef.{TableDef}
use Rattle.c5_rows.specs.declared.writes.Write.{Write}
use Rattle.c5_definitions.specs.Frames.{write}
use Rattle.c5_frames.proofs.RefLemmas.{written, written-columns, written-holds, written-same}
use Rattle.c5_frames.proofs.RefLemmas.{tail_is}
use Rattle.c5_frames.proofs.refs.write_ref.Goals as goal

pub bounds-tables-name : goal.bounds-tables-name
bounds-tables-name c =
    let p = written c.args.tables.now c.args.payload.now c.requires.0 c.requires.1 in
    let same = c.name_in-name.ensures.table c.args.tables.now c.requires.0 c.requires.1 in
    omega (
      arith,
      same,
      slice_get_within c.args.tables.now c.requires.0.name.table p.definition p.found,
    )

pub bounds-tables-name-2 : goal.bounds-tables-name-2
bounds-tables-name-2 c =
    let p = written c.args.tables.now c.args.payload.now c.requires.0 c.requires.1 in
    let same = c.name_in-name.ensures.table c.args.tables.now c.requires.0 c.requires.1 in
    omega (
      arith,
      same,
      slice_get_within c.args.tables.now c.requires.0.name.table p.definition p.found,
    )

pub slice_bounds-result-count : goal.slice_bounds-result-count
slice_bounds-result-count c =
    let p = written c.args.tables.now c.args.payload.now c.requires.0 c.requires.1 in
    let same = c.name_in-name.ensures.key c.args.tables.now c.requires.0 c.requires.1 in
    omega (arith, p.whole, ap length same)

pub slice_bounds-result-start : goal.slice_bounds-result-start
slice_bounds-result-start c =
    let p = written c.args.tables.now c.args.payload.now c.requires.0 c.requires.1 in
    let same = c.name_in-name.ensures.key c.args.tables.now c.requires.0 c.requires.1 in
    omega (arith, p.whole, ap length same)

pub invariant_of-result : goal.invariant_of-result
invariant_of-result c =
    let w = c.requires.0 in
    let p = written c.args.tables.now c.args.payload.now w c.requires.1 in
    let table = c.name_in-name.ensures.table c.args.tables.now w c.requires.1 in
    let key = c.name_in-name.ensures.key c.args.tables.now w c.requires.1 in
    (written-holds c.args.tables.now c.args.payload.now w p _ _ _ key
    (ap (λ (t : TableDef). t.columns)
    (written-columns c.args.tables.now c.args.payload.now w p _ _ table))
    (tail_is (3 + length c.name_in-name.result.key.now) c.args.payload.now)).0

pub returns : goal.returns
returns c =
    let w = c.requires.0 in
    let p = written c.args.tables.now c.args.payload.now w c.requires.1 in
    let table = c.name_in-name.ensures.table c.args.tables.now w c.requires.1 in
    let key = c.name_in-name.ensures.key c.args.tables.now w c.requires.1 in
    let columns = ap (λ (t : TableDef). t.columns)
    (written-columns c.args.tables.now c.args.payload.now w p _ c.index-tables-name.result
    table) in
    let holds =
    written-holds c.args.tables.now c.args.payload.now w p c.name_in-name.result.key.now _ _ key
    columns (tail_is (3 + length c.name_in-name.result.key.now) c.args.payload.now) in
    c.requires.1 ∙ ap (λ (v : Write). Ok (write v))
    (sym (written-same w c.name_in-name.result.table c.name_in-name.result.key.now _ table key
    holds.1))
