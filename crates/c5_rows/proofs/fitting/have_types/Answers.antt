use Rattle.std.proofs.Common.{◌≡◌, ◌<◌, ◌∙◌, refl, ap, sym, length, get_or, map, arith}
use Rattle.std.proofs.lemmas.List.{take_more_same, get_or-map, get_or_default, length-map}
use Rattle.c5_rows.specs.Cells.{type_of}
use Rattle.c5_rows.proofs.fitting.have_types.Goals as goal

pub loop-column-preserved : goal.loop-column-preserved
loop-column-preserved c =
    let cells = c.args.cells.now in
    let types = c.args.types.now in
    let i = c.loop-column.column in
    let cell = c.index-cells-column.result in
    let within : i < length types = omega arith in
    let within_mapped : i < length (map type_of cells) = omega (arith, length-map cells type_of) in
    let same : type_of cell ≡ get_or types i (type_of cell) =
    c.if-not-has_type.ensures.0 refl ∙ get_or_default types i _ (type_of cell) within in
    take_more_same (map type_of cells) types i
    (type_of cell) within_mapped within c.loop-column.invariant
    (get_or-map type_of cells i cell (type_of cell) c.loop-column-test.true ∙ ap type_of
    (sym c.index-cells-column.is) ∙ same)
