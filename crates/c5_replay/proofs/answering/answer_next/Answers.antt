use Rattle.std.proofs.Common.{◌≡◌, ◌∙◌, ◌++◌, ◌≤◌, [], ◌∷◌, ℕ, List, length, ap, sym, subst, arith}
use Rattle.c5_rows.specs.declared.answer.Reply.{Reply}
use Rattle.c5_definitions.specs.Replies.{reply_at}
use Rattle.c5_board.specs.Boards.{Board, Pass}
use Rattle.c5_reads.specs.Looks.{OnlyLooks, LooksForRead}
use Rattle.c5_reads.specs.Sessions.{began}
use Rattle.c5_replay.specs.Answered.{HasAnswered, places_of}
use Rattle.c5_replay.proofs.OwnLooks.{own-looks}
use Rattle.c5_replay.proofs.Within.{answered-more, places-more}
use Rattle.c5_replay.proofs.answering.answer_next.Goals as goal

pub returns-clause-answered : goal.returns-clause-answered
returns-clause-answered c = λ done h.
    let p = c.args.pass.now in
    let q = c.answer.new.pass in
    let place = c.begin-view.result.place in
    let read = c.args.read.now in
    let start = c.args.session.now.start in
    let e = c.in_ok-reply.ensures {u = tt} in
    let board = c.requires.pass in
    let began_so = c.begin-view.ensures.pass in
    let is : c.in_ok-reply.reply ≡ reply_at start p.board.log.txns read place =
    e.reply ∙
    (λ t. reply_at (c.begin-view.ensures.session t).start (sym board t).log.txns read place) in
    let within : place ≤ length p.board.log.txns =
    subst (λ (b : Board). place ≤ length b.log.txns) (sym board) c.begin-view.ensures.within in
    let only = subst (λ (x : Pass). OnlyLooks x q) began_so e.pass in
    let looks = subst (λ (x : Pass). LooksForRead x q read place) began_so e.looks in
    subst (λ (l : List Reply). HasAnswered q start (done ++ read ∷ []) l)
    (sym (c.in_ok-push.ensures {u = tt}).items)
    (answered-more p q start done read c.args.replies.now.items c.in_ok-reply.reply place h
    c.begin-view.ensures.not_below within is only looks)

pub returns-clause-own : goal.returns-clause-own
returns-clause-own c = λ role.
    let p = c.args.pass.now in
    let q = c.answer.new.pass in
    let place = c.begin-view.result.place in
    let e = c.in_ok-reply.ensures {u = tt} in
    let same : place ≡ p.place = c.begin-view.ensures.own role in
    let replies = c.args.replies.now.items in (
      own-looks p q place same
          (subst (λ (x : Pass). OnlyLooks x q) c.begin-view.ensures.pass e.pass),
      ap places_of (c.in_ok-push.ensures {u = tt}).items
          ∙ places-more replies c.in_ok-reply.reply
          ∙ ap (λ (n : ℕ). places_of replies ++ n ∷ [])
          (ap (λ (r : Reply). r.place) e.reply ∙ same),
    )
