use Rattle.std.proofs.Common.{◌≡◌, ◌∙◌, ◌≤◌, ℕ, List, sym, ap, subst}
use Rattle.std.specs.List.{All}
use Rattle.c5_rows.specs.declared.answer.Reply.{Reply}
use Rattle.c5_rows.specs.declared.writes.Txn.{Txn}
use Rattle.c5_definitions.specs.Outputs.{order_text}
use Rattle.c5_definitions.specs.SerialRun.{script_numbers}
use Rattle.c5_driver.proofs.Replays.{places-within, printed, cloned}
use Rattle.c5_driver.proofs.clone.text_of_clone.Goals as goal

pub push_replayed-requires : goal.push_replayed-requires
push_replayed-requires g c =
    let replayed = c.in_ok-replayed.replayed in
    subst (λ (n : ℕ). All (λ (reply : Reply). reply.place ≤ n) replayed.replies)
    (sym c.transactions-total.ensures)
    (places-within c.args.script.now c.in_ok-log.log.txns replayed.replies replayed.rows
    c.in_ok-replayed.ensures)

pub returns : goal.returns
returns g c =
    let replayed = c.in_ok-replayed.replayed in
    let ordered : c.in_ok-text.text.items ≡ order_text (script_numbers c.in_ok-txns.txns.items) =
    c.in_ok-text.ensures ∙ ap
    (λ (ts : List Txn). order_text (script_numbers ts)) c.deref.ensures.value in
    cloned c.args.script.now c.in_ok-txns.txns.items c.in_ok-log.log.txns c.in_ok-text.text.items _
    c.in_ok-txns.ensures.run (c.in_ok-log.ensures.txns ∙ c.deref-2.ensures.value) ordered
    (printed c.args.script.now c.in_ok-log.log.txns replayed.replies replayed.rows _ _
    c.transactions-total.result c.in_ok-replayed.ensures c.transactions-total.ensures
    c.in_ok-push_replayed.ensures)
