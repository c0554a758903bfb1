use Rattle.std.proofs.Common.{rules, ◌≡◌, max, subst, sym, arith}
use Rattle.std.proofs.lemmas.List.{drop_all}
use Rattle.c5_replay.specs.Parts.{HaveSessionsUpTo}
use Rattle.c5_replay.proofs.Sessions.{sessions-next}
use Rattle.c5_replay.proofs.replaying.last_session.Goals as goal

pub loop-read-init : goal.loop-read-init
loop-read-init c = record { few = omega arith; all = λ bound low rest. rest }

pub loop-read-preserved : goal.loop-read-preserved
loop-read-preserved c =
    let last = c.loop-read.last in
    let is : c.max-last.result ≡ max last c.session.result = search rules in
    let value = c.session.ensures.value in
    let few = c.session.ensures.read.session_few in
    let few_so_far = c.loop-read.invariant.few in
    record {
      few = omega arith;
      all = λ bound low rest. c.loop-read.invariant.all bound (omega arith)
          (sessions-next c.args.reads.now c.loop-read.read-index bound c.read-item.result
          c.loop-read-test.true c.read-item.is (omega arith) rest);
    }

pub returns-clause-all : goal.returns-clause-all
returns-clause-all c =
    c.loop-read.invariant.all c.loop-read.last (omega arith)
    (subst (HaveSessionsUpTo c.loop-read.last)
    (sym (drop_all c.loop-read.read-index c.args.reads.now (omega arith))) tt)
