use Rattle.std.proofs.Common.{◌≡◌, ◌∙◌, ◌+◌, ◌-◌, ◌++◌, ℕ, List, ap, sym, subst, arith}
use Rattle.std.proofs.lemmas.List.{map-append}
use Rattle.c5_rows.specs.declared.answer.Reply.{Reply}
use Rattle.c5_replay.specs.Answered.{places_of}
use Rattle.c5_replay.specs.Joins.{HaveReplied}
use Rattle.c5_replay.proofs.Sessions.{replied-next}
use Rattle.c5_replay.proofs.TakenLemmas.{looked-later, replied-in}
use Rattle.c5_replay.proofs.left_reads.add_left.Goals as goal

pub returns-clause-replied : goal.returns-clause-replied
returns-clause-replied c =
    let e = c.in_ok-take_left.ensures {u = tt} in
    let p = c.args.pass.now in
    let q = c.take_left.new.pass in
    let start = c.args.shared.now.start.now in
    let reads = c.args.shared.now.reads.now in
    let n = c.args.session.session in
    let some = c.requires.some in
    let next : (n - 1) + 1 ≡ n = omega (arith, some) in
    subst (λ (l : List Reply). HaveReplied q start reads n l)
    (sym (c.in_ok-append.ensures {u = tt}))
    (replied-next q start reads (n - 1) n c.args.replies.now c.take_left.new.session.replies.items
    (replied-in p q start reads (n - 1) c.args.replies.now (looked-later p q e.pass)
    c.requires.replied) next e.answered)

pub returns-clause-places : goal.returns-clause-places
returns-clause-places c =
    let e = c.in_ok-take_left.ensures {u = tt} in
    ap places_of (c.in_ok-append.ensures {u = tt})
    ∙ map-append (λ (r : Reply). r.place) c.args.replies.now
    c.take_left.new.session.replies.items
    ∙ ap (λ (l : List ℕ). places_of c.args.replies.now ++ l) e.places
