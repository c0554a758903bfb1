use Rattle.std.proofs.Common.{◌∙◌, sym, subst, arith, true≢false}
use Rattle.c5_board.specs.Boards.{Pass}
use Rattle.c5_workers.specs.Tries.{Retries}
use Rattle.c5_workers.proofs.OnlyTurns.{only-worked}
use Rattle.c5_workers.proofs.worker.Worker.turn.Goals as goal

pub returns-clause-turn : goal.returns-clause-turn
returns-clause-turn c = record {
  scheduled = c.load_scheduled-scheduled.result;
  busy = λ idle. true≢false (sym (c.is_idle-2.ensures.1 idle) ∙ c.if-is_idle-2.false);
  retried = c.retry_all.new.pass;
  middle = c.retry_all.new.self;
  retries =
      subst (λ (p : Pass). Retries p c.retry_all.new.pass c.args.self.now.put_off.items
      c.retry_all.new.self.put_off.items) c.load_scheduled-scheduled.ensures.pass
      c.retry_all.ensures.retries;
  same = c.retry_all.ensures.same;
  same_next = c.retry_all.ensures.next;
  tried_so = c.try_next-result.new.pass;
  result = c.try_next-result.result;
  tries = c.try_next-result.ensures.tries;
  pass = c.store_least-2.ensures.pass;
  count = omega (
    arith,
    c.len-waiting.ensures,
    c.len.ensures,
    c.args.self.now.put_off.ok.0,
    c.retry_all.new.self.put_off.ok.0,
    c.retry_all.ensures.few,
    c.installed_by.ensures,
  );
  new_one = c.put_off_by.ensures;
}

pub returns-clause-only : goal.returns-clause-only
returns-clause-only c =
    only-worked c.args.self.now c.retry_all.new.self _ c.args.pass.now
    c.load_scheduled-scheduled.new.pass c.retry_all.new.pass _ _ _ _ _ _ c.requires.fits
    c.load_scheduled-scheduled.ensures.least c.load_scheduled-scheduled.ensures.pass
    c.retry_all.ensures.retries c.retry_all.ensures.fits c.retry_all.ensures.same.i
    c.try_next-result.ensures.tries c.store_least-2.ensures.pass
