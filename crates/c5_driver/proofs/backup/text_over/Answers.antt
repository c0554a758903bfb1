use Rattle.std.proofs.Common.{◌≤◌, ℕ, [], sym, subst}
use Rattle.std.specs.List.{All}
use Rattle.c5_rows.specs.declared.answer.Reply.{Reply}
use Rattle.c5_driver.proofs.Replays.{places-within, printed}
use Rattle.c5_driver.proofs.backup.text_over.Goals as goal

pub text_of_replayed-requires : goal.text_of_replayed-requires
text_of_replayed-requires g c =
    let replayed = c.in-Ok.replayed in
    subst (λ (n : ℕ). All (λ (reply : Reply). reply.place ≤ n) replayed.replies)
    (sym c.transactions-total.ensures)
    (places-within c.args.script.now c.args.log.txns replayed.replies replayed.rows
    c.in-Ok.ensures.replayed)

pub returns-in-Ok-text_of_replayed-clause-text : goal.returns-in-Ok-text_of_replayed-clause-text
returns-in-Ok-text_of_replayed-clause-text g c =
    let replayed = c.in-Ok.replayed in
    printed c.args.script.now c.args.log.txns replayed.replies replayed.rows []
    c.in-Ok-text_of_replayed.text.items c.transactions-total.result c.in-Ok.ensures.replayed
    c.transactions-total.ensures c.in-Ok-text_of_replayed.ensures
