use Rattle.std.proofs.Common.{◌∙◌, sym, arith}
use Rattle.clap.specs.Matches.{found_of}
use Rattle.std.proofs.Common.{codes}
use Rattle.c5_rows.specs.Sizes.{max_threads, max_workers}
use Rattle.c5_words.specs.Program.{default_count, max_count}
use Rattle.c5_words.proofs.Reading.{number_within, run_is, no_run}
use Rattle.c5_words.proofs.parsing.run_of.Goals as goal

pub request_in-requires : goal.request_in-requires
request_in-requires c =
    let threads = number_within (found_of c.args.matches.now)
    (codes "threads") max_threads 1 c.number_given.result (omega arith)
    (omega arith) c.requires.threads c.number_given.ensures in
    let workers = number_within (found_of c.args.matches.now)
    (codes "workers") max_workers 1 c.number_given-2.result (omega arith)
    (omega arith) c.requires.workers c.number_given-2.ensures in
    let count = number_within (found_of c.args.matches.now)
    (codes "count") max_count default_count c.number_given-3.result (omega arith)
    (omega arith) c.requires.count c.number_given-3.ensures in
    record {
      some_threads = threads.0;
      few_threads = threads.1;
      some_workers = workers.0;
      few_workers = workers.1;
      some_count = count.0;
      few_count = count.1;
    }

pub returns-in-Some-request_in-clause-meaning : goal.returns-in-Some-request_in-clause-meaning
returns-in-Some-request_in-clause-meaning c =
    run_is (found_of c.args.matches.now) c.in-Some.word.now c.number_given.result
    c.number_given-2.result c.number_given-3.result c.in-Some.ensures c.number_given.ensures
    c.number_given-2.ensures c.number_given-3.ensures
    ∙ sym c.in-Some-request_in.ensures.meaning

pub returns-in-None-request_in-clause-meaning : goal.returns-in-None-request_in-clause-meaning
returns-in-None-request_in-clause-meaning c =
    run_is (found_of c.args.matches.now) c.in-Some.word.now c.number_given.result
    c.number_given-2.result c.number_given-3.result c.in-Some.ensures c.number_given.ensures
    c.number_given-2.ensures c.number_given-3.ensures
    ∙ sym c.in-None-request_in.ensures.meaning

pub returns-in-None-clause-meaning : goal.returns-in-None-clause-meaning
returns-in-None-clause-meaning c = no_run (found_of c.args.matches.now) c.in-None.ensures
