use Rattle.std.proofs.Common.{ℕ, List, None, sym, subst}
use Rattle.c5_frames.specs.DecoderStates.{Decodes}
use Rattle.c5_frames.proofs.decoder.Decoder.new.Goals as goal

pub invariant_of-result : goal.invariant_of-result
invariant_of-result c =
    subst (λ (bytes : List ℕ). Decodes bytes c.first_state.result None)
    (sym c.new.ensures.items) c.first_state.ensures.decodes
