use Rattle.c5_driver.proofs.Summed.{all-parts, few-accounts, replay-is, summed}
use Rattle.c5_driver.proofs.generating.figures_over.Goals as goal

pub figures_of-requires-clause-rows : goal.figures_of-requires-clause-rows
figures_of-requires-clause-rows c =
    let is = replay-is c.args.count _ _ _ _ c.requires.script c.requires.txns c.requires.replayed in
    few-accounts c.args.count _ _ _ _ is
    (c.summary_law.ensures c.args.count is.places c.requires.some is.lawful)

pub figures_of-requires-clause-replies : goal.figures_of-requires-clause-replies
figures_of-requires-clause-replies c =
    let is = replay-is c.args.count _ _ _ _ c.requires.script c.requires.txns c.requires.replayed in
    all-parts c.args.count _ _ _ _ _ is
    (c.summary_law.ensures c.args.count is.places c.requires.some is.lawful)
    c.as_slice-replies.ensures

pub returns-clause-text : goal.returns-clause-text
returns-clause-text c =
    let is = replay-is c.args.count _ _ _ _ c.requires.script c.requires.txns c.requires.replayed in
    let law = c.summary_law.ensures c.args.count is.places c.requires.some is.lawful in
    (summed c.args.count _ _ _ _ _ _ _ is law c.requires.tables c.as_slice-replies.ensures
    c.in_ok-figures.ensures).text

pub returns-clause-counts : goal.returns-clause-counts
returns-clause-counts c =
    let is = replay-is c.args.count _ _ _ _ c.requires.script c.requires.txns c.requires.replayed in
    let law = c.summary_law.ensures c.args.count is.places c.requires.some is.lawful in
    (summed c.args.count _ _ _ _ _ _ _ is law c.requires.tables c.as_slice-replies.ensures
    c.in_ok-figures.ensures).counts
