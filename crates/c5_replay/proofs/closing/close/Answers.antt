use Rattle.std.proofs.Common.{◌≡◌, ◌∙◌, ◌+◌, ◌-◌, ◌≤◌, ◌<◌, ℕ, true, ap, sym, arith}
use Rattle.c5_board.specs.Boards.{names, write_count}
use Rattle.c5_board.proofs.SetLemmas.{not_both}
use Rattle.c5_definitions.specs.NumberLaws.{NumbersAreOwned}
use Rattle.c5_definitions.specs.Turns.{TurnMachine, after_closing, after_rounds, is_all_done}
use Rattle.c5_replay.specs.TurnStates.{machine_of}
use Rattle.c5_replay.proofs.MachineLemmas.{rounds-end, rounds-more, rounds-none}
use Rattle.c5_replay.proofs.StepLemmas.{mirror-itself}
use Rattle.c5_replay.proofs.TurnRounds.{mirrored-closing}
use Rattle.c5_replay.proofs.closing.close.Goals as goal

pub loop-before-init : goal.loop-before-init
loop-before-init c =
    let board = c.args.shared.now.board.now in
    let e : (write_count board + 1) - 0 ≡ write_count board + 1 = omega arith in
    record {
      fits = c.requires.fits;
      machine = ap (λ (n : ℕ). after_rounds board.log.txns (machine_of c.args.turning.now) n) e;
      open_so = λ h. absurd (omega arith);
    }

pub take_round-requires : goal.take_round-requires
take_round-requires c = record { fits = c.loop-before.invariant.fits }

pub returns-then-take_round-clause-machine : goal.returns-then-take_round-clause-machine
returns-then-take_round-clause-machine c =
    let board = c.args.shared.now.board.now in
    let n = write_count board in
    let k = c.loop-before._before in
    let some : 1 ≤ (n + 1) - k =
    (let t = c.loop-before-test.true in let v = c.writes-before-end.ensures.value in
    omega arith) in
    rounds-end board.log.txns (machine_of c.loop-before.turning)
    (machine_of c.take_round.new.turning) ((n + 1) - k) some c.take_round.ensures.machine
    (sym c.take_round.ensures.all ∙ c.if-take_round.true) ∙ c.loop-before.invariant.machine

pub loop-before-preserved : goal.loop-before-preserved
loop-before-preserved c =
    let board = c.args.shared.now.board.now in
    let n = write_count board in
    let k = c.loop-before._before in
    let some : 1 ≤ (n + 1) - k =
    (let t = c.loop-before-test.true in let v = c.writes-before-end.ensures.value in
    omega arith) in
    let less : (n + 1) - (k + 1) ≡ ((n + 1) - k) - 1 = omega arith in
    let not_all = sym c.take_round.ensures.all ∙ c.if-take_round.false in
    record {
      fits = c.take_round.ensures.fits;
      machine = ap (λ (m : ℕ). after_rounds board.log.txns (machine_of c.take_round.new.turning) m)
          less
          ∙ rounds-more board.log.txns (machine_of c.loop-before.turning)
          (machine_of c.take_round.new.turning) ((n + 1) - k) some
          c.take_round.ensures.machine not_all
          ∙ c.loop-before.invariant.machine;
      open_so = λ h. not_all;
    }

pub returns-clause-fits : goal.returns-clause-fits
returns-clause-fits c = c.loop-before.invariant.fits

pub returns-clause-machine : goal.returns-clause-machine
returns-clause-machine c =
    let board = c.args.shared.now.board.now in
    let n = write_count board in
    let k = c.loop-before._before in
    let none : (n + 1) - k ≡ 0 =
    (let t = c.loop-before-test.false in let v = c.writes-before-end.ensures.value in
    omega arith) in
    sym (rounds-none board.log.txns (machine_of c.loop-before.turning) ((n + 1) - k) none)
    ∙ c.loop-before.invariant.machine

pub returns-clause-all : goal.returns-clause-all
returns-clause-all c =
    let board = c.args.shared.now.board.now in
    let t = c.args.turning.now in
    let owners : NumbersAreOwned board.workers =
    c.number_law.ensures.owners board.workers
    (omega (arith, c.workers-workers.ensures.some, c.workers-workers.ensures.value)) in
    ap (λ (m : TurnMachine). is_all_done (write_count board) m.done) (returns-clause-machine c)
    ∙ mirrored-closing board t.pass t.workers.items (machine_of t) t.put_off owners
    (c.number_law.ensures.predecessors (names board)) c.place-place.ensures.sound
    c.requires.fits.turning (mirror-itself t)

pub returns-clause-last : goal.returns-clause-last
returns-clause-last c =
    let board = c.args.shared.now.board.now in
    let k = c.loop-before._before in
    let some : 0 < k =
    (let t = c.loop-before-test.false in let v = c.writes-before-end.ensures.value in
    omega arith) in
    absurd (not_both (is_all_done (write_count board) c.loop-before.turning.pass.installed)
    (returns-clause-all c) (c.loop-before.invariant.open_so some))
