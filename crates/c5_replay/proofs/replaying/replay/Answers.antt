use Rattle.std.proofs.Common.{◌≡◌, ◌∙◌, true, ℕ, length, ap, sym, subst}
use Rattle.c5_rows.specs.Numbers.{is_among}
use Rattle.c5_definitions.specs.WriteNumbers.{names_in, IsWrite}
use Rattle.c5_frames.specs.Log.{Log}
use Rattle.c5_board.specs.Boards.{Board, Pass, IsWorker}
use Rattle.c5_replay.proofs.Sessions.{loaded-later}
use Rattle.c5_replay.proofs.replaying.replay.Goals as goal

pub play_all-requires-clause-plays : goal.play_all-requires-clause-plays
play_all-requires-clause-plays g c κs within =
    (c.in_ok-rest.ensures {u = tt}).parts c.args.start.now

pub returns-clause-pass : goal.returns-clause-pass
returns-clause-pass g c =
    let made = c.in_ok-board.ensures {u = tt} in
    let fin = c.finish_all.ensures.finished in
    let only = c.rows_at.ensures.pass in
    let board : c.rows_at.new.pass.board ≡ c.in_ok-board.board =
    ap (λ (x : Pass). x.board) only.pass ∙ fin.of_board in
    record {
      over = ap (λ (x : Board). x.log) board ∙ made.log;
      count = ap (λ (x : Board). x.workers) board ∙ made.workers;
      roles = λ i w. ap (λ (x : Pass). is_among i x.roles) only.pass ∙ fin.worker_roles_all i
          (subst (λ (n : ℕ). IsWorker n i) (sym made.workers) w);
      snapshot = ap (λ (x : Pass). x.snapshot) only.pass ∙ fin.snapshot_role;
      scheduler = ap (λ (x : Pass). x.scheduler) only.pass ∙ fin.scheduler_role;
      installed = λ w write. ap
          (λ (x : Pass). is_among w x.installed) only.pass ∙ fin.installed_all w
          (subst (λ (l : Log). IsWrite (names_in l.txns) w) (sym made.log) write);
      place = ap (λ (x : Pass). x.place) only.pass ∙ fin.last_place ∙ ap
          (λ (l : Log). length l.txns) made.log;
      loads = λ s w. loaded-later c.finish_all.new.pass c.rows_at.new.pass c.args.reads.now
          c.in_ok-joined.joined.replies only.more s (fin.loads s w)
          (ap (λ (x : Pass). x.board) only.pass) (ap (λ (x : Pass). x.looks) only.pass);
    }
