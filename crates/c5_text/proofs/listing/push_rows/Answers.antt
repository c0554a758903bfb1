use Rattle.std.proofs.Common.{◌≡◌, [], ◌++◌, ◌∙◌, ap, sym, length, map, append_assoc}
use Rattle.std.proofs.lemmas.List.{append-nil}
use Rattle.std.specs.List.{flat_map}
use Rattle.c5_rows.specs.Held.{rows_held}
use Rattle.c5_rows.specs.State.{entry_of, rows_of}
use Rattle.c5_definitions.specs.Texts.{count_line, row_line}
use Rattle.c5_definitions.specs.Texts.{rows_text as text_of_rows}
use Rattle.c5_text.proofs.Listings.{count_is}
use Rattle.c5_text.proofs.listing.push_rows.Goals as goal

pub returns : goal.returns
returns c =
    let state = c.args.rows.now in
    let written = c.loop-name.out.items in
    let old = c.args.out.now.items in
    let tables = c.tables-tables.result.now in
    let lines = flat_map (row_line tables) (rows_of state) in
    let count : c.len.result ≡ length (rows_of state) = c.len.ensures ∙ count_is state in
    let none : [] ≡ c.loop-name.name-iterator = sym c.in-None.ensures.steps.0 in
    let so_far : written ≡ old ++ lines =
    sym (append-nil written)
    ∙ ap (λ held. written ++ flat_map (row_line tables)
    (map entry_of (rows_held (λ block. block.value) held))) none
    ∙ c.loop-name.invariant in
    c.in_ok-push_count.ensures ∙ ap (λ n. written ++ count_line n) count
    ∙ ap (λ items. items ++ count_line (length (rows_of state))) so_far
    ∙ append_assoc old lines (count_line (length (rows_of state)))
    ∙ ap (λ shown. old ++ text_of_rows shown state) c.tables-tables.ensures.value
