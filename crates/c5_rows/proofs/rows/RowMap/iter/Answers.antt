use Rattle.std.proofs.Common.{◌≡◌, ap, sym, ◌∙◌, map}
use Rattle.std.specs.FinMap.{entries}
use Rattle.c5_rows.specs.State.{entry_of}
use Rattle.c5_rows.specs.Held.{rows_held}
use Rattle.c5_rows.proofs.RowLemmas.{entries_back, up_held}
use Rattle.c5_rows.proofs.rows.RowMap.iter.Goals as goal

pub returns : goal.returns
returns g c =
    let row = g.H.HeldRow.row_held in
    let es = c.self.inside.rows.entries in
    record {
      rows = ap (λ held. map entry_of (rows_held row held)) c.iter.ensures.rest
          ∙ ap (map entry_of) (sym (entries_back (rows_held row es)
          (up_held row es c.self.invariant)))
          ∙ ap (λ rows. map entry_of (entries rows)) c.self.view_is;
      runs = c.iter.ensures.runs;
    }
