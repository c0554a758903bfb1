use Rattle.std.proofs.Common.{◌≡◌, ◌∙◌, ◌+◌, ◌-◌, ℕ, List, ap, sym, subst, arith}
use Rattle.c5_rows.specs.declared.answer.Reply.{Reply}
use Rattle.c5_definitions.specs.Replies.{reads_of_session}
use Rattle.c5_io.specs.declared.gate.Role.TheVariants as roles
use Rattle.c5_board.specs.Boards.{Pass}
use Rattle.c5_replay.specs.Answered.{HasAnswered}
use Rattle.c5_replay.specs.Joins.{HaveReplied}
use Rattle.c5_replay.proofs.Ended.{ended-as, number_in}
use Rattle.c5_replay.proofs.Sessions.{replied-more}
use Rattle.c5_replay.proofs.joining.join_session.Goals as goal

pub returns-clause-replied : goal.returns-clause-replied
returns-clause-replied c =
    let S = c.args.shared.now.start.now in
    let R = c.args.shared.now.reads.now in
    let h = ended-as c.args.shared.now.board.now S R
    (roles.Session c.args.session) _ _ c.in-Session.is (c.in_ok-own.ensures {u = tt}).end in
    let number : c.in-Session.session ≡ c.args.session = ap number_in h.0 in
    let own =
    subst (λ (n : ℕ). HasAnswered c.in-Session.own S
    (reads_of_session R n) c.in-Session.more.items) number h.1.1 in
    let next : (c.args.session - 1) + 1 ≡ c.args.session =
    (let some = c.requires.some in omega arith) in
    subst (λ (z : Pass × List Reply). HaveReplied z.0 S R c.args.session z.1)
    (λ t. (sym c.join.ensures t, sym (c.in_ok-append-in-Session.ensures {u = tt}) t))
    (replied-more c.args.pass c.in-Session.own S R
    (c.args.session - 1) c.args.session c.args.replies.now c.in-Session.more.items
    c.requires.replied next (h.1.0.of_board ∙ sym c.requires.pass.of_board) own)
