use Rattle.std.proofs.Common.{◌≡◌, ◌∙◌, ℕ, length, ap, sym, subst}
use Rattle.c5_definitions.specs.Turns.{TurnMachine, after_closing, after_words}
use Rattle.c5_definitions.specs.WriteNumbers.{names_in}
use Rattle.c5_frames.specs.Log.{Log}
use Rattle.c5_board.specs.Boards.{Board, Pass}
use Rattle.c5_replay.specs.Replays.{HasReplayed}
use Rattle.c5_replay.specs.TurnReplays.{IsTurnReplay, missed_first}
use Rattle.c5_replay.proofs.ReplayedTurns.{missed-all, replayed, rows-after, turn-replay}
use Rattle.c5_replay.proofs.replaying_turns.replay_turns.Goals as goal

pub returns-clause-run : goal.returns-clause-run
returns-clause-run c =
    let made = c.in_ok-board.ensures {u = tt} in
    let board = c.in_ok-board.board in
    let start = c.args.start.now in
    let reads = c.args.reads.now in
    let turns = c.args.turns.now in
    let u = c.close.new.turning in
    let left = c.in_ok-replies.ensures {u = tt} in
    let p = c.take_all_left.new.pass in
    let fits = c.close.ensures.fits in
    let same : p.board ≡ board =
    ap (λ (x : Pass). x.board) left.pass.pass ∙ fits.turning.of_board in
    let place = c.place-place.ensures.value ∙ ap (λ (x : Pass). x.place) left.pass.pass
    ∙ c.close.ensures.last in
    let machine = c.close.ensures.machine
    ∙ ap (λ (m : TurnMachine). after_closing board.log.txns m)
    ((c.in_ok-take_words.ensures {u = tt}).machine
    ∙ ap (λ (m : TurnMachine). after_words board.log.txns reads m turns)
    (c.in_ok-turning.ensures {u = tt}).machine) in
    let rows = c.in_ok-rows.rows in
    subst (λ (l : Log). IsTurnReplay l c.args.workers start reads turns c.in_ok-replies.replies rows
    u.put_off) made.log
    (subst (λ (n : ℕ). IsTurnReplay board.log n start reads turns c.in_ok-replies.replies rows
    u.put_off) made.workers
    (turn-replay board start reads turns u p c.in_ok-replies.replies rows fits machine same
    left.replied left.places
    (rows-after start rows board.log.txns c.place-place.result place
    (c.in_ok-rows.ensures {u = tt}).rows)))

pub returns-clause-pass : goal.returns-clause-pass
returns-clause-pass c =
    let made = c.in_ok-board.ensures {u = tt} in
    let board = c.in_ok-board.board in
    let left = c.in_ok-replies.ensures {u = tt} in
    let q = c.rows_at.new.pass in
    subst (λ (l : Log). HasReplayed l c.args.workers c.args.reads.now c.in_ok-replies.replies q)
    made.log
    (subst (λ (n : ℕ). HasReplayed board.log n c.args.reads.now c.in_ok-replies.replies q)
    made.workers
    (replayed board c.args.start.now c.args.reads.now c.close.new.turning
    c.take_all_left.new.pass q c.in_ok-replies.replies c.close.ensures.fits c.close.ensures.all
    c.close.ensures.last left.pass c.rows_at.ensures.pass left.replied))

pub returns-clause-missed : goal.returns-clause-missed
returns-clause-missed c =
    let made = c.in_ok-board.ensures {u = tt} in
    let board = c.in_ok-board.board in
    let left = c.in_ok-replies.ensures {u = tt} in
    missed-all board c.args.start.now c.args.reads.now c.close.new.turning
    c.take_all_left.new.pass c.rows_at.new.pass c.close.ensures.fits left.pass
    c.rows_at.ensures.pass
    ∙ ap (λ (l : Log). missed_first (names_in l.txns) c.rows_at.new.pass.looks) made.log
