use Rattle.std.proofs.Common.{◌≡◌, ◌∙◌, sym}
use Rattle.std.proofs.lemmas.Option.{slice_get-get_or}
use Rattle.c5_replay.specs.TurnStates.{machine_of}
use Rattle.c5_replay.proofs.MachineLemmas.{words-more, words-none}
use Rattle.c5_replay.proofs.turning.take_words.Goals as goal

pub loop-word-preserved : goal.loop-word-preserved
loop-word-preserved c =
    let e = c.in_ok-take_word.ensures {u = tt} in
    record {
      fits = e.fits;
      machine = words-more c.args.shared.now.board.now.log.txns c.args.shared.now.reads.now
          (machine_of c.loop-word.turning) (machine_of c.take_word.new.turning) c.args.turns.now
          c.loop-word.word-index _
          (slice_get-get_or c.args.turns.now c.loop-word.word-index _ c.loop-word-test.true)
          e.machine
          ∙ c.loop-word.invariant.machine;
    }

pub returns-clause-machine : goal.returns-clause-machine
returns-clause-machine c =
    sym (words-none c.args.shared.now.board.now.log.txns c.args.shared.now.reads.now
    (machine_of c.loop-word.turning) c.args.turns.now c.loop-word.word-index
    c.loop-word-test.false) ∙ c.loop-word.invariant.machine
