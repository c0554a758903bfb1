use Rattle.std.proofs.Common.{◌≡◌, ◌∙◌, ◌++◌, ◌+◌, [], ◌∷◌, List, ap, sym, subst, refl, arith}
use Rattle.std.proofs.lemmas.Option.{slice_get_read}
use Rattle.c5_rows.specs.State.{State}
use Rattle.c5_board.specs.Boards.{Pass}
use Rattle.c5_replay.specs.Answered.{HasAnswered}
use Rattle.c5_replay.proofs.Within.{answered-later}
use Rattle.c5_replay.proofs.Sessions.{read-taken}
use Rattle.c5_replay.proofs.answering.answer_all.Goals as goal

pub loop-read-preserved : goal.loop-read-preserved
loop-read-preserved g c =
    let inv = c.loop-read.invariant in
    let read = c.read-item.result in
    let S = c.args.shared.now.start.now in
    let R = c.args.shared.now.reads.now in
    let done = inv.answered.0 in
    let e = c.in_ok-answer_next.ensures {u = tt} in
    let only = c.wait_after.ensures.pass in
    let start : c.wait_after.new.session.start ≡ S =
    ap (λ s. s.start) (c.wait_after.ensures.session ∙ inv.session) in
    let at = slice_get_read _ _ _ _ refl c.loop-read-test.true c.read-item.is in
    let number : read.session ≡ c.args.number =
    (let v = c.session.ensures.value in let f = c.if-session-number.false in grind arith) in
    let waited =
    answered-later c.loop-read.pass c.wait_after.new.pass S done c.loop-read.replies.items
    inv.answered.2 only in
    record {
      pass = record {
        of_board = e.pass.of_board;
        roles_so = e.pass.roles_so ∙ ap (λ (x : Pass). x.roles) only.rest ∙ inv.pass.roles_so;
      };
      session = e.session ∙ c.wait_after.ensures.session ∙ inv.session;
      answered = (
        done ++ read ∷ [],
        read-taken R c.loop-read.read-index c.args.number read done at number inv.answered.1,
        subst (λ (s : State). HasAnswered c.answer_next.new.pass s
            (done ++ read ∷ []) c.answer_next.new.replies.items) start
            (e.answered done
            (subst (λ
            (s : State). HasAnswered c.wait_after.new.pass s done c.loop-read.replies.items)
            (sym start) waited)),
      );
    }
