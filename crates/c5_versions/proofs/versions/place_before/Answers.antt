use Rattle.c5_versions.proofs.VersionLemmas.{some_below}
use Rattle.c5_versions.proofs.versions.place_before.Goals as goal

pub overflow_sub-result : goal.overflow_sub-result
overflow_sub-result c =
    some_below c.args.stamp c.args.versions.now c.count_below.result c.requires.proper.begins
    c.requires.positive c.count_below.ensures.place.1
