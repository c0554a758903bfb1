use Rattle.std.proofs.Common.{refl}
use Rattle.c5_gen.proofs.Signs.{amount-is, less-is}
use Rattle.c5_gen.proofs.bodies.transfer.Goals as goal

pub returns : goal.returns
returns c =
    rw (
      c.in_ok-push-3.ensures.ok,
      c.in_ok-push-2.ensures.ok,
      c.in_ok-push.ensures.ok,
      c.new-body.ensures,
      c.account_row.ensures,
      c.account_row-2.ensures,
      c.account_row-3.ensures,
      less-is c.args.moved.amount c.requires.amount,
      amount-is c.args.moved.amount c.requires.amount,
    )
    refl
