use Rattle.std.proofs.Common.{ap, sym, ◌∙◌, Some}
use Rattle.c5_versions.proofs.VersionLemmas.{version_before-at, greatest_at}
use Rattle.c5_versions.proofs.versions.find.Goals as goal

pub returns-clause-found : goal.returns-clause-found
returns-clause-found c =
    version_before-at _ _ c.place_before.result _ c.place_before.ensures.bound
    c.place_before.ensures.place.0 c.place_before.ensures.place.1
    ∙ ap Some (sym c.index-versions-place_before.is)

pub returns-clause-greatest : goal.returns-clause-greatest
returns-clause-greatest c =
    rw c.index-versions-place_before.is
    (greatest_at c.args.stamp _ c.place_before.result c.index-versions-place_before.result
    c.requires.proper.ascending c.place_before.ensures.bound c.place_before.ensures.place.1)
