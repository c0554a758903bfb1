use Rattle.std.proofs.Common.{◌≡◌, ◌∙◌, ◌==◌, ℕ, length, ap, sym, subst, refl, arith}
use Rattle.c5_definitions.specs.NumberLaws.{NumbersAreOwned}
use Rattle.c5_frames.specs.Log.{Log}
use Rattle.c5_board.specs.Boards.{Board, Pass, IsWorker}
use Rattle.c5_replay.proofs.StepLemmas.{shown-fits, shown-machine, shown-test}
use Rattle.c5_replay.proofs.turning.take_visible_turn.Goals as goal

pub returns-clause-fits : goal.returns-clause-fits
returns-clause-fits c =
    let board = c.args.shared.now.board.now in
    let owners : NumbersAreOwned board.workers =
    c.number_law.ensures.owners board.workers
    (omega (arith, c.workers-workers.ensures.some, c.workers-workers.ensures.value)) in
    shown-fits board c.args.shared.now.start.now c.args.shared.now.reads.now c.args.turning.now _
    c.advance.result.least c.advance.result.place owners c.place-place.ensures.sound
    c.requires.fits c.advance.ensures.pass c.advance.ensures.loads c.advance.ensures.least
    c.advance.ensures.not_below refl refl refl

pub returns-clause-machine : goal.returns-clause-machine
returns-clause-machine c =
    let board = c.args.shared.now.board.now in
    let owners : NumbersAreOwned board.workers =
    c.number_law.ensures.owners board.workers
    (omega (arith, c.workers-workers.ensures.some, c.workers-workers.ensures.value)) in
    shown-machine board c.args.turning.now (record c.args.turning.now { pass = c.advance.new.pass })
    c.advance.result.least c.advance.result.place owners
    c.place-place.ensures.sound c.requires.fits.turning c.advance.ensures.pass
    c.advance.ensures.loads c.advance.ensures.least c.advance.ensures.place refl refl refl

pub returns-clause-all : goal.returns-clause-all
returns-clause-all c =
    let board = c.args.shared.now.board.now in
    let owners : NumbersAreOwned board.workers =
    c.number_law.ensures.owners board.workers
    (omega (arith, c.workers-workers.ensures.some, c.workers-workers.ensures.value)) in
    let q = c.advance.new.pass in
    let log = c.log.ensures.value ∙ c.plan.ensures.log in
    let total : c.transactions.result ≡ length board.log.txns =
    c.transactions.ensures ∙ ap (λ (l : Log). length l.txns) log in
    let at : q.place ≡ c.advance.result.place = ap (λ (x : Pass). x.place) c.advance.ensures.pass in
    let fits =
    shown-fits board c.args.shared.now.start.now c.args.shared.now.reads.now c.args.turning.now
    (record c.args.turning.now { pass = q }) c.advance.result.least c.advance.result.place owners
    c.place-place.ensures.sound c.requires.fits c.advance.ensures.pass c.advance.ensures.loads
    c.advance.ensures.least c.advance.ensures.not_below refl refl refl in
    let same : q.board ≡ board = fits.turning.of_board in
    shown-test board q c.args.turning.now.workers.items c.advance.result.least fits.turning
    (c.place.ensures.sound.count ∙ ap (λ (b : Board). b.workers) same) c.advance.ensures.least
    (λ i w. (c.place.ensures.sound.floors i
    (subst (λ (b : Board). IsWorker b.workers i) (sym same) w)).0) owners
    (c.number_law.ensures.places board.log.txns) (at ∙ c.advance.ensures.place) _
    (λ x. sym c.place.ensures.value x == sym total x)
