use Rattle.std.proofs.Common.{◌≡◌, ◌≤◌, ◌<◌, ◌∙◌, ℕ, ap, sym, subst, arith}
use Rattle.c5_board.specs.Boards.{Board, Pass, names, record_of}
use Rattle.c5_board.specs.Passes.{IsHeadOf}
use Rattle.c5_chains.proofs.Walking.{walking-begin, walking-next, walking-falls, walked}
use Rattle.c5_chains.proofs.Walking.{last-walked}
use Rattle.c5_chains.proofs.values.last_up_to.Goals as goal

pub loop-w-init : goal.loop-w-init
loop-w-init c =
    let head = subst (λ (b : Board). IsHeadOf (names b) c.args.row c.load_head-w.result)
    (sym c.requires.pass) c.load_head-w.ensures.head in
    let most = ap (λ (p : Pass). p.scheduled) c.load_head-w.ensures.pass in
    record {
      board = ap (λ (p : Pass). p.board) c.load_head-w.ensures.pass ∙ c.requires.pass;
      scheduled = omega arith;
      down = record {
        head = c.load_head-w.result;
        is_head = head;
        walking = walking-begin _ _ _ _ _ head
            (λ v write same up_to. c.load_head-w.ensures.covers.place v write same
            (omega (arith, up_to, c.requires.end))) c.load_head-w.ensures.pass;
      };
    }

pub loop-w-smaller : goal.loop-w-smaller
loop-w-smaller c =
    let link = subst (λ (b : Board). c.load_record-w.result ≡ record_of (names b) c.loop-w.w)
    (sym c.requires.pass) c.load_record-w.ensures.record in
    walking-falls _ _ _ _ _ _ _
    (c.number_law.ensures.predecessors _) c.loop-w.invariant.down.walking c.loop-w-test.true
    link

pub loop-w-preserved : goal.loop-w-preserved
loop-w-preserved c =
    let link = subst (λ (b : Board). c.load_record-w.result ≡ record_of (names b) c.loop-w.w)
    (sym c.requires.pass) c.load_record-w.ensures.record in
    let falls = walking-falls _ _ _ _ _ _ _
    (c.number_law.ensures.predecessors _) c.loop-w.invariant.down.walking c.loop-w-test.true
    link in
    let most = ap (λ (p : Pass). p.scheduled) c.load_record-w.ensures.pass in
    let was = c.loop-w.invariant.scheduled in
    record {
      board = ap (λ (p : Pass). p.board) c.load_record-w.ensures.pass ∙ c.loop-w.invariant.board;
      scheduled = omega arith;
      down = record {
        head = c.loop-w.invariant.down.head;
        is_head = c.loop-w.invariant.down.is_head;
        walking = walking-next _ _ _ _ _ _ _ _
            (c.number_law.ensures.predecessors _) c.requires.row c.loop-w.invariant.down.walking
            c.loop-w-test.true link c.load_record-w.ensures.pass;
      };
    }

pub returns-clause-last : goal.returns-clause-last
returns-clause-last c = last-walked _ _ _ _ _ _
    (c.number_law.ensures.predecessors _) c.requires.row c.loop-w.invariant.down.walking
    c.loop-w-test.false

pub returns-clause-looks : goal.returns-clause-looks
returns-clause-looks c = walked _ _ _ _ _ _
    (c.number_law.ensures.predecessors _) c.requires.row c.loop-w.invariant.down.is_head
    c.loop-w.invariant.down.walking c.loop-w-test.false
