use Rattle.std.proofs.Common.{◌∙◌, sym, ap}
use Rattle.std.specs.Option.{option_and_then}
use Rattle.c5_rows.specs.declared.cells.Cell.TheVariants.{Txt}
use Rattle.c5_frames.specs.Refs.{cells_held, text_bytes_of}
use Rattle.c5_frames.proofs.RefLemmas.{text-cell, int-no-text, next-cell, next-read, get-at}
use Rattle.c5_frames.proofs.cells.text_in.Goals as goal

pub first_text-requires : goal.first_text-requires
first_text-requires c =
    let rest = c.cells_from-rest.result.now in
    let n = next-cell c.args.columns.now c.args.col _ rest
    (cells_held c.args.columns.now c.args.bytes.now) c.requires.column c.cells_from-rest.ensures
    in
    ((n.cell, n.after), sym (text-cell _ rest c.in-Text.is) ∙ n.read)

pub returns-in-Int : goal.returns-in-Int
returns-in-Int c =
    let rest = c.cells_from-rest.result.now in
    let cells = cells_held c.args.columns.now c.args.bytes.now in
    let n = next-cell c.args.columns.now c.args.col _ rest cells c.requires.column
    c.cells_from-rest.ensures in
    sym (ap (option_and_then text_bytes_of)
    (get-at cells c.args.col n.cell _ n.here) ∙ int-no-text _ rest n.after n.cell c.in-Int.is
    n.read)

pub returns-in-Text : goal.returns-in-Text
returns-in-Text c =
    let rest = c.cells_from-rest.result.now in
    let cells = cells_held c.args.columns.now c.args.bytes.now in
    let n = next-read c.args.columns.now c.args.col _ rest c.first_text.result.1.now
    (Txt c.first_text.result.0.now) cells c.requires.column c.cells_from-rest.ensures
    (text-cell _ rest c.in-Text.is ∙ c.first_text.ensures) in
    sym (ap (option_and_then text_bytes_of)
    (get-at cells c.args.col (Txt c.first_text.result.0.now) _ n.0))
