use Rattle.std.proofs.Common.{◌∙◌}
use Rattle.c5_driver.proofs.LastWriteLemmas.{rows-have-writes, rows-left}
use Rattle.c5_driver.proofs.apply.entries_after.Goals as goal

pub entries_left-requires : goal.entries_left-requires
entries_left-requires c = rows-have-writes c.args.log.txns c.args.rows.now c.requires

pub returns-clause-entries : goal.returns-clause-entries
returns-clause-entries c =
    c.in_ok-entries.ensures ∙ rows-left c.args.log.txns c.args.rows.now c.requires
