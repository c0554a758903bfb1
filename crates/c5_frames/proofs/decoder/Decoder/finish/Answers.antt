use Rattle.std.proofs.Common.{◌∙◌, ap, sym, subst, ℕ, List}
use Rattle.c5_definitions.specs.Items.{log_of}
use Rattle.c5_frames.specs.Feeding.{FinishesLog}
use Rattle.c5_frames.proofs.Pieces.{faulty-log, never-both, refused}
use Rattle.c5_frames.proofs.decoder.Decoder.finish.Goals as goal

pub returns-in-Some-clause-read : goal.returns-in-Some-clause-read
returns-in-Some-clause-read c =
    ap log_of
    (sym c.self.view_is) ∙ faulty-log c.self.inside.bytes.items c.self.inside.progress
    c.self.inside.fault c.in-Some.fault c.self.invariant c.in-Some.is

pub returns-in-Some-clause-refused : goal.returns-in-Some-clause-refused
returns-in-Some-clause-refused c = λ tables txns spells.
    never-both c.args.self c.in-Some.fault tables txns (returns-in-Some-clause-read c) spells

pub returns-in-None-clause-refused : goal.returns-in-None-clause-refused
returns-in-None-clause-refused c =
    refused c.args.self c.finish_log.result
    (subst (λ (bytes : List ℕ). FinishesLog bytes c.finish_log.result) c.self.view_is
    c.finish_log.ensures.read)
