use Rattle.std.proofs.Common.{◌≡◌, ◌∙◌, Some, get_or, ap, sym, subst}
use Rattle.std.specs.List.{slice_get}
use Rattle.std.proofs.lemmas.Option.{slice_get-get_or}
use Rattle.c5_primary.specs.Latest.{row_kept, IsLeftAt}
use Rattle.c5_primary.proofs.LatestLaws.{place-within, row-there}
use Rattle.c5_primary.proofs.latest.row_after.Goals as goal

pub bounds-txns-place : goal.bounds-txns-place
bounds-txns-place c =
    let left = subst (IsLeftAt c.args.start.now c.args.txns.now c.args.name.now)
    (sym c.in-Some.ensures.value) (c.requires c.args.name.now) in
    place-within c.args.start.now c.args.txns.now c.args.name.now c.in-Some.place.now left

pub returns-in-Some : goal.returns-in-Some
returns-in-Some c =
    let txns = c.args.txns.now in
    let name = c.args.name.now in
    let place = c.in-Some.place.now in
    let txn = get_or txns place c.index-txns-place.result in
    let left = subst (IsLeftAt c.args.start.now txns name) (sym c.in-Some.ensures.value)
    (c.requires name) in
    let at : slice_get txns place ≡ Some txn =
    slice_get-get_or txns place c.index-txns-place.result
    (place-within c.args.start.now txns name place left) in
    c.row_kept.ensures ∙ ap row_kept c.find.ensures ∙ row-there c.args.start.now txns name place txn
    left at

pub returns-in-None : goal.returns-in-None
returns-in-None c =
    c.get-in-None.ensures ∙ sym
    (subst (IsLeftAt c.args.start.now c.args.txns.now c.args.name.now)
    (sym c.in-None.ensures.value) (c.requires c.args.name.now))
