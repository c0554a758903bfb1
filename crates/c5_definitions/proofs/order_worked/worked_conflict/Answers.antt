use Rattle.std.proofs.Common.{refl, lit<}
use Rattle.std.specs.Prelude.{true, [], None}
use Rattle.std.specs.FinMap.{get-empty}
use Rattle.c5_rows.specs.Order.{row_name_cmp}
use Rattle.c5_definitions.specs.WorkedOrder.{row_x}
use Rattle.c5_definitions.specs.History.{begun, commits, ended_stamps, open_txns, last_stamp}
use Rattle.c5_definitions.specs.History.{version_at, row_seen, row_of_version, reads, answered}
use Rattle.c5_definitions.specs.OrderLog.{conflicts, committed, history_log, IsOrderHistory}
use Rattle.c5_definitions.proofs.order_worked.worked_conflict.Goals as goal

pub returns : goal.returns
unfolding begun commits ended_stamps open_txns last_stamp version_at row_seen row_of_version reads
    answered conflicts committed history_log IsOrderHistory
returns c = record {
  allowed = (
    record {
      script_known = lit< tt;
      not_committed = refl;
      not_open = refl;
      next = refl;
      fits = lit< tt;
    },
    (
      record {
        script_known = lit< tt;
        not_committed = refl;
        not_open = refl;
        next = refl;
        fits = lit< tt;
      },
      (
        (1, (1, lit< tt, refl)),
        (
          (
            1,
            (1, lit< tt, refl),
            (true, (None, [], simp get-empty refl, (refl, refl, refl))),
            tt,
            refl,
          ),
          (
            (0, (0, lit< tt, refl)),
            tt,
          ),
        ),
      ),
    ),
  );
  read = get-empty row_name_cmp row_x;
  conflict = refl;
  cancelled = refl;
  itself = refl;
  still_open = refl;
  waits = refl;
  log = refl;
  committed = refl;
  closed = refl;
  last = refl;
}
