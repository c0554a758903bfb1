use Rattle.std.proofs.Common.{rules, ◌≡◌, ℕ, ◌+◌, length, ap, ◌∙◌, arith}
use Rattle.std.proofs.lemmas.List.Elements.{All-push, All-same}
use Rattle.turn_slot.specs.Passes.{origin_of, numbers, IsNew}
use Rattle.turn_slot.proofs.Histories.{alone_push}
use Rattle.turn_slot.proofs.PartSteps.{splits, left_first, left_after, one_alone, last_alone}
use Rattle.turn_slot.proofs.PartSteps.{new_one}
use Rattle.turn_slot.proofs.slot.TurnSlot.deal.Goals as goal

pub split_seat-single-requires : goal.split_seat-single-requires
split_seat-single-requires g c = let left = c.loop-number.invariant.left in
    let f = left_first (origin_of g.V.Kept.base c.args.self.now) _ _ _ left.2 in (
      search rules,
      search rules,
      splits g.V.Kept.base g.V.Kept.history g.V.Kept.caller _ _ _ c.loop-number.number f.0 f.1 f.2,
    )

pub loop-number-preserved : goal.loop-number-preserved
loop-number-preserved g c =
    let o = origin_of g.V.Kept.base c.args.self.now in
    let left = c.loop-number.invariant.left in
    let split = c.split_seat-single.ensures in
    let one = new_one o _ _ (one_alone o _ _ _ _ left.2 split.4) in
    let long = c.loop-number.invariant.long in
    let items = c.push_reserved.ensures.items in
    let longer : length c.push_reserved.new.self.items ≡ length c.loop-number.list.items + 1 =
    omega (
      arith,
      c.push_reserved.ensures.len,
      c.push_reserved.new.self.ok.0,
      c.loop-number.list.ok.0,
    ) in
    record {
      table = search rules;
      left = left_after o _ _ _ _ _ left.1 c.loop-number-test.true left.2 split.2;
      new = All-same (IsNew c.args.self.now) _ _ items
          (All-push (IsNew c.args.self.now) _ _ c.loop-number.invariant.new
          ((search rules, one.0), one.1, one.2));
      alone = alone_push numbers _ _ _ c.loop-number.number _ items c.loop-number.invariant.alone
          one.3 long (longer ∙ long);
      long = ap (λ (n : ℕ). n + 1) (longer ∙ long);
      room = search rules;
    }

pub returns-clause-new : goal.returns-clause-new
returns-clause-new g c =
    let o = origin_of g.V.Kept.base c.args.self.now in
    let left = c.loop-number.invariant.left in
    let end = c.loop-number-test.false in
    let last = new_one o _ _ (last_alone o _ _ _ left.2 (omega (arith, left.1))) in
    All-same (IsNew c.args.self.now) _ _ c.push_reserved-2.ensures.items
    (All-push (IsNew c.args.self.now) _ _ c.loop-number.invariant.new
    ((search rules, last.0), last.1, last.2))

pub returns-clause-numbers : goal.returns-clause-numbers
returns-clause-numbers g c =
    let o = origin_of g.V.Kept.base c.args.self.now in
    let left = c.loop-number.invariant.left in
    let end = c.loop-number-test.false in
    let last = new_one o _ _ (last_alone o _ _ _ left.2 (omega (arith, left.1))) in
    alone_push numbers _ _ _ c.loop-number.number _ c.push_reserved-2.ensures.items
    c.loop-number.invariant.alone last.3 c.loop-number.invariant.long (omega (arith, left.1))
