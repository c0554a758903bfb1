use Rattle.std.proofs.Common.{◌≡◌, ◌+◌, ◌++◌, ◌∷◌, ◌∙◌, [], ℕ, List, length, drop, get_or, ap, sym}
use Rattle.std.proofs.Common.{subst}
use Rattle.std.proofs.lemmas.List.{length-append}
use Rattle.c5_rows.specs.declared.writes.RowName.{RowName}
use Rattle.c5_rows.specs.declared.writes.Write.{Write}
use Rattle.c5_rows.specs.declared.writes.Txn.{Txn}
use Rattle.c5_rows.specs.State.{after_txns}
use Rattle.c5_definitions.specs.SerialRun.{body_txn}
use Rattle.c5_primary.specs.InOrder.{in_order}
use Rattle.c5_primary.specs.Latest.{place_at, noted, LeadsToRows}
use Rattle.c5_primary.proofs.InOrderLaws.{all-to-come, one-more}
use Rattle.c5_primary.proofs.LatestLaws.{leads-first, leads-further}
use Rattle.c5_primary.proofs.serial.txns_in_order.Goals as goal

pub loop-number-init : goal.loop-number-init
loop-number-init c =
    let none = c.in_ok-txns.ensures.items in
    record {
      count = ap length none;
      ordered = c.new-places.ensures.ordered;
      leads = leads-first c.args.start.now c.in_ok-txns.txns.items c.new-places.result.entries none
          c.new-places.ensures.empty;
      all = all-to-come c.args.start.now c.args.bodies.now c.in_ok-txns.txns.items none;
    }

pub loop-number-preserved : goal.loop-number-preserved
loop-number-preserved c =
    let txns = c.loop-number.txns.items in
    let places = c.loop-number.places.entries in
    let n = c.loop-number.number in
    let txn = c.in_ok-txn.txn in
    let so_far = c.loop-number.invariant in
    let bodies = c.args.bodies.now in
    let pushed : c.keep.new.txns.items ≡ txns ++ txn ∷ [] = c.in_ok-keep.ensures in
    let seen : (name : RowName) → place_at c.note_writes.new.places.entries name
    ≡ noted txn.writes (length txns) name (place_at places name) =
    λ name. c.in_ok-note_writes.ensures.noted name
    ∙ ap (λ (ws : List Write). noted ws n name (place_at places name)) c.as_slice.ensures.value
    ∙ ap (λ (m : ℕ). noted txn.writes m name (place_at places name)) (sym so_far.count) in
    let made : txn ≡ body_txn n (n + 1) (get_or bodies n c.index-bodies-number.result)
    (after_txns txns c.args.start.now) =
    c.in_ok-txn.ensures
    ∙ ap (body_txn n (n + 1) c.index-bodies-number.result) c.new-rows.ensures
    ∙ ap (λ (ts : List Txn). body_txn n (n + 1) c.index-bodies-number.result
    (after_txns ts c.args.start.now)) c.deref.ensures.value
    ∙ ap (λ body. body_txn n (n + 1) body (after_txns txns c.args.start.now))
    c.index-bodies-number.is in
    record {
      count = ap length pushed ∙ length-append txns (txn ∷ []) ∙ ap (λ (m : ℕ). m + 1) so_far.count;
      ordered = c.in_ok-note_writes.ensures.ordered;
      leads = subst
          (λ (ts : List Txn). LeadsToRows c.args.start.now ts c.note_writes.new.places.entries)
          (sym pushed)
          (leads-further c.args.start.now txns txn places c.note_writes.new.places.entries
          c.as_slice.ensures.ascending so_far.leads seen);
      all = ap (λ (ts : List Txn). ts
          ++ in_order (n + 1) (drop (n + 1) bodies) (after_txns ts c.args.start.now)) pushed
          ∙ one-more c.args.start.now bodies n c.index-bodies-number.result txns
          (in_order 0 bodies c.args.start.now) txn c.loop-number-test.true made so_far.all;
    }
