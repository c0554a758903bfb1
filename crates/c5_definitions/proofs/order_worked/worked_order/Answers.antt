use Rattle.std.proofs.Common.{◌≡◌, List, [], ◌∷◌, map, Option, None, refl, ap, sym, ◌∙◌, lit<}
use Rattle.std.specs.Prelude.{false}
use Rattle.std.specs.FinMap.{empty, insert, entries, put, get-insert, entries-insert, len-entries}
use Rattle.std.specs.FinMap.{len-empty}
use Rattle.std.proofs.lemmas.List.{nil_from_length}
use Rattle.c5_rows.specs.declared.cells.Cell.{Cell}
use Rattle.c5_rows.specs.declared.writes.RowName.{RowName}
use Rattle.c5_rows.specs.Order.{row_name_cmp, row_name_cmp_total}
use Rattle.c5_definitions.specs.Eval.{write_of}
use Rattle.c5_definitions.specs.Follows.{own_writes}
use Rattle.c5_definitions.specs.History.{begun, commits, ended_stamps, open_txns, last_stamp}
use Rattle.c5_definitions.specs.History.{version_at, row_seen, row_of_version, reads, answered}
use Rattle.c5_definitions.specs.OrderLog.{conflicts, committed, history_log, IsOrderHistory}
use Rattle.c5_definitions.proofs.order_worked.worked_order.Goals as goal

-- one row that was set gives one write
one_write : (name : RowName) (row : Option (List Cell))
    → write_of name row ∷ [] ≡ own_writes (insert (empty {R = row_name_cmp}) name row)
one_write name row =
    sym (ap (map (λ (n, r). write_of n r))
    (entries-insert row_name_cmp_total (empty {R = row_name_cmp}) name row
    ∙ ap (put row_name_cmp name row)
    (nil_from_length (entries (empty {R = row_name_cmp}))
    (sym (len-entries (empty {R = row_name_cmp})) ∙ len-empty row_name_cmp
    (Option (List Cell))))))

pub returns : goal.returns
unfolding begun commits ended_stamps open_txns last_stamp version_at row_seen row_of_version reads
    answered conflicts committed history_log IsOrderHistory
returns c = record {
  allowed = (
    record {
      script_known = lit< tt;
      not_committed = refl;
      not_open = refl;
      next = refl;
      fits = lit< tt;
    },
    (
      record {
        script_known = lit< tt;
        not_committed = refl;
        not_open = refl;
        next = refl;
        fits = lit< tt;
      },
      (
        (
          1,
          (1, lit< tt, refl),
          (false, (None, [], (refl, refl), (refl, refl, one_write _ _))),
          (tt, tt),
          refl,
        ),
        (
          (
            0,
            (0, lit< tt, refl),
            (false, (None, [], (refl, refl), (refl, refl, one_write _ _))),
            (tt, tt),
            refl,
          ),
          tt,
        ),
      ),
    ),
  );
  no_conflict = refl;
  waits = refl;
  log = refl;
  first = refl;
  second = refl;
  third = refl;
  after = get-insert row_name_cmp_total _ _ _ _;
}
