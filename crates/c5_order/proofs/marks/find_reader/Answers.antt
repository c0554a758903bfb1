use Rattle.std.proofs.Common.{◌++◌, ◌∷◌, suc, subst, take, drop, length, get_or, refl, ap, sym, ◌∙◌}
use Rattle.std.proofs.Common.{arith}
use Rattle.std.proofs.Math.Seq.{drop-cons}
use Rattle.std.proofs.lemmas.List.{take-append-drop, take_all}
use Rattle.std.proofs.lemmas.List.Elements.{All-more, All-same}
use Rattle.c5_order.specs.Marks.{IsUnread}
use Rattle.c5_order.proofs.marks.find_reader.Goals as goal

pub returns-then-stamp-found : goal.returns-then-stamp-found
returns-then-stamp-found c = record {
  before = take c.loop-write.write-index c.args.writes.now;
  write = c.write-item.result;
  rest = drop (suc c.loop-write.write-index) c.args.writes.now;
  is = sym (take-append-drop c.loop-write.write-index c.args.writes.now) ∙ ap
      (λ xs. take c.loop-write.write-index c.args.writes.now ++ xs)
      (drop-cons c.args.writes.now c.loop-write.write-index c.write-item.result
      c.loop-write-test.true ∙ ap (λ w. w ∷ drop (suc c.loop-write.write-index) c.args.writes.now)
      (sym c.write-item.is));
  unread = c.loop-write.invariant;
  row = refl;
  found = c.find-found.result;
  found_is = c.find-found.ensures;
  reader = refl;
  above = c.if-stamp-found.true;
}

pub loop-write-preserved : goal.loop-write-preserved
loop-write-preserved c = All-more
    (IsUnread c.args.versions.now c.args.stamp) c.args.writes.now c.loop-write.write-index
    c.write-item.result c.loop-write-test.true c.loop-write.invariant
    (subst (IsUnread c.args.versions.now c.args.stamp) c.write-item.is
    (c.find-found.result, c.find-found.ensures, c.if-stamp-found.false))

pub returns : goal.returns
returns c = All-same (IsUnread c.args.versions.now c.args.stamp) c.args.writes.now
    (take c.loop-write.write-index c.args.writes.now)
    (sym (take_all c.loop-write.write-index c.args.writes.now c.loop-write-test.false))
    c.loop-write.invariant
