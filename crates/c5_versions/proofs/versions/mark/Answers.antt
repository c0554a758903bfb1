use Rattle.std.proofs.Common.{◌≡◌, ◌∙◌, ap, sym, set, Some}
use Rattle.c5_versions.specs.Versions.{version_before, mark_version}
use Rattle.c5_versions.proofs.VersionLemmas.{version_before-at, mark_version-at, IsVersions-mark}
use Rattle.c5_versions.proofs.versions.mark.Goals as goal

marked : (c : goal.After-versions-1) → let version = c.index_mut-version.result.now in
    set c.args.versions.now.items c.place_before-at.result
    (record version { read_by = c.max-version.result })
    ≡ mark_version c.args.stamp c.args.versions.now.items
marked c =
    let versions = c.args.versions.now.items in
    let at = c.place_before-at.result in
    let version = c.index_mut-version.result.now in
    let place = rw c.deref.ensures.value at c.place_before-at.ensures in
    let found : version_before c.args.stamp versions ≡ Some version =
    version_before-at c.args.stamp versions at version place.bound place.place.0 place.place.1 ∙
    ap Some (sym c.index_mut-version.ensures.value) in
    rw c.max-version.ensures
    (mark_version-at c.args.stamp versions at version c.requires.proper.ascending place.bound
    c.index_mut-version.ensures.value found)

pub returns-clause-items : goal.returns-clause-items
returns-clause-items c = marked c

pub returns-clause-proper : goal.returns-clause-proper
returns-clause-proper c = rw (marked c)
    (IsVersions-mark c.args.stamp c.args.versions.now.items c.requires.proper)
