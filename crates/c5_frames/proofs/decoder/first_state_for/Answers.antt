use Rattle.std.proofs.Common.{ℕ, ◌-◌, [], length, ap, refl, sym, subst, arith}
use native.Mathlib.Numerals.{unary_clauses}
use Rattle.c5_frames.specs.DecoderStates.{tables_of}
use Rattle.c5_frames.specs.Stages.{item_of}
use Rattle.c5_frames.specs.Index.{Found, HasRoom}
use Rattle.c5_frames.proofs.Pieces.{ready-more}
use Rattle.c5_frames.proofs.decoder.first_state_for.Goals as goal

pub returns : goal.returns
returns c =
    let first = c.first_state-progress.result in
    let bytes = c.args.bytes.now in
    let begins = c.first_state-progress.ensures in
    ready-more [] bytes bytes first _ begins.decodes (omega (arith, c.requires))
    (ap
    (λ (found : Found). record {
      tables = tables_of first.schema;
      next = item_of first.stage;
      at = first.at;
      found = found;
    }) c.in_ok-reserve.ensures.unchanged) refl
    (subst (λ (at : ℕ). HasRoom (length bytes - at) c.reserve.new.self)
    (sym begins.at)
    (simp unary_clauses c.in_ok-reserve.ensures.room))
