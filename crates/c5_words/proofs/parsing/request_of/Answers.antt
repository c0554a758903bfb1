use Rattle.std.proofs.Common.{map, string_bytes}
use Rattle.clap.specs.Matches.{found_of}
use Rattle.clap.specs.Simple.{app_of}
use Rattle.clap.specs.Walk.{rows_of}
use Rattle.c5_words.proofs.Answering.{answer_to_error, answer_to_matches}
use Rattle.c5_words.proofs.ProgramLemmas.{threads_pass, workers_pass, count_pass}
use Rattle.c5_words.proofs.parsing.request_of.Goals as goal

pub run_of-requires-clause-threads : goal.run_of-requires-clause-threads
run_of-requires-clause-threads c =
    threads_pass c.in-Ok.program c.in-Ok-try_get_matches_from.matches
    c.in-Ok-try_get_matches_from.ensures.parsed c.in-Ok.ensures.plain c.in-Ok.ensures.program

pub run_of-requires-clause-workers : goal.run_of-requires-clause-workers
run_of-requires-clause-workers c =
    workers_pass c.in-Ok.program c.in-Ok-try_get_matches_from.matches
    c.in-Ok-try_get_matches_from.ensures.parsed c.in-Ok.ensures.plain c.in-Ok.ensures.program

pub run_of-requires-clause-count : goal.run_of-requires-clause-count
run_of-requires-clause-count c =
    count_pass c.in-Ok.program c.in-Ok-try_get_matches_from.matches
    c.in-Ok-try_get_matches_from.ensures.parsed c.in-Ok.ensures.plain c.in-Ok.ensures.program

pub returns-in-Ok-try_get_matches_from-clause-meaning :
    goal.returns-in-Ok-try_get_matches_from-clause-meaning
returns-in-Ok-try_get_matches_from-clause-meaning c =
    answer_to_matches (app_of c.in-Ok.program) c.in-Ok.ensures.program
    (map string_bytes c.args.words.now)
    (rows_of (found_of c.in-Ok-try_get_matches_from.matches)) c.run_of.result
    c.in-Ok-try_get_matches_from.ensures.kinds
    (λ s. (c.in-Ok-try_get_matches_from.ensures.matches s).0) c.run_of.ensures.meaning

pub returns-in-Err-try_get_matches_from-clause-meaning :
    goal.returns-in-Err-try_get_matches_from-clause-meaning
returns-in-Err-try_get_matches_from-clause-meaning c =
    answer_to_error (app_of c.in-Ok.program) c.in-Ok.ensures.program
    (map string_bytes c.args.words.now) c.kind.result c.request_for.result
    (λ s. rw c.kind.ensures (c.in-Err-try_get_matches_from.ensures.kinds s))
    c.request_for.ensures.memory c.request_for.ensures.meaning
