use Rattle.std.proofs.Common.{true≢false, sym}
use Rattle.std.specs.BTreeMap.{is_at}
use Rattle.std.specs.Ordering.{nat_cmp}
use Rattle.c5_order.proofs.LogLemmas.{open-of, least-of, none-open-of, some-key}
use Rattle.c5_order.proofs.logging.first_begun.Goals as goal

pub returns-in_default : goal.returns-in_default
returns-in_default c = none-open-of c.args.book.now c.requires
    (λ q has. true≢false
    (sym (c.in_default.ensures.variant.1
    (some-key (is_at (nat_cmp q)) c.args.book.now.open_stamps.keys has))))

pub returns : goal.returns
returns c = (
  open-of c.args.book.now c.in-Some.stamp.now c.requires c.in-Some.ensures.member,
  least-of c.args.book.now c.in-Some.stamp.now c.requires c.in-Some.ensures.least,
)
