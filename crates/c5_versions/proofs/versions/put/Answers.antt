use Rattle.std.proofs.Common.{◌≡◌}
use Rattle.c5_versions.specs.Versions.{put_version}
use Rattle.c5_versions.proofs.VersionLemmas.{put_version-gap, IsVersions-put}
use Rattle.c5_versions.proofs.versions.put.Goals as goal

placed : (c : goal.After-insert) → c.insert.new.self.items
    ≡ put_version c.args.version c.args.versions.now.items
placed c =
    let place = rw c.deref.ensures.value at c.count_below-at.ensures in
    rw (c.insert.ensures.items, c.insert.ensures.succeeds c.requires.room)
    (put_version-gap c.args.version c.args.versions.now.items c.count_below-at.result place.bound
    place.place.0 place.place.1 c.requires.absent)

pub returns-clause-items : goal.returns-clause-items
returns-clause-items c = placed c

pub returns-clause-proper : goal.returns-clause-proper
returns-clause-proper c = rw (placed c)
    (IsVersions-put c.args.version c.args.versions.now.items c.requires.positive c.requires.absent
    c.requires.proper)
