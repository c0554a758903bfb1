use Rattle.std.proofs.Common.{sym}
use Rattle.c5_text.proofs.Heads.{number-found, number-digits, no-space}
use Rattle.c5_text.proofs.words.number_at.Goals as goal

pub returns-in_default-clause-none : goal.returns-in_default-clause-none
returns-in_default-clause-none c n rest is =
    no-space c.args.bytes.now n rest (sym c.in_default.ensures) is.spelled

pub returns-in-Some-number_in-clause-found : goal.returns-in-Some-number_in-clause-found
returns-in-Some-number_in-clause-found c =
    let found =
    number-found c.args.bytes.now c.in-Some.rest.now c.split_at.result.0.now
    c.split_at.result.1.now c.count_before.result c.in-Some-number_in.number
    (sym c.in-Some.ensures) c.count_before.ensures.value c.split_at.ensures.front
    c.split_at.ensures.back c.in-Some-number_in.ensures.found.spelled in
    record { small = c.in-Some-number_in.ensures.found.small; ends = found.0; spelled = found.1 }

pub returns-in-None-clause-none : goal.returns-in-None-clause-none
returns-in-None-clause-none c n rest is =
    c.in-None.ensures.none n
    (record {
      small = is.small;
      spelled =
          number-digits c.args.bytes.now c.in-Some.rest.now c.split_at.result.0.now
          c.count_before.result n rest
          (sym c.in-Some.ensures) c.count_before.ensures.value c.split_at.ensures.front is.small
          is.ends is.spelled;
    })
