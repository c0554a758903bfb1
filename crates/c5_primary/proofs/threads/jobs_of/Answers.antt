use Rattle.std.proofs.Common.{◌≡◌, ◌∙◌, List, [], ◌∷◌, map, refl, ap, sym}
use Rattle.std.proofs.lemmas.List.Elements.{All-push, All-same}
use mathlib.Core.List.{map-append}
use Rattle.turn_slot.specs.Passes.{numbers}
use Rattle.c5_primary.specs.declared.threads.Job.{Job}
use Rattle.c5_primary.specs.Slots.{IsSessionOf}
use Rattle.c5_primary.specs.Jobs.{session_numbers}
use Rattle.c5_primary.proofs.threads.jobs_of.Goals as goal

pub loop-pass-preserved : goal.loop-pass-preserved
loop-pass-preserved c =
    let items = (c.in_ok-push.ensures {u = tt}).items in (
      All-same (λ (j : Job). IsSessionOf c.args.slot.now j.session) _ _ items
          (All-push
          (λ (j : Job). IsSessionOf c.args.slot.now j.session) c.loop-pass.jobs.items _
          c.loop-pass.invariant.0 (rw (c.new.ensures) (refl, refl, refl))),
      ap (map session_numbers) items ∙ map-append session_numbers c.loop-pass.jobs.items
          (_ ∷ []) ∙ rw (c.loop-pass.invariant.1, c.new.ensures)
          (sym (map-append numbers c.loop-pass.yielded (c.in-Some.pass ∷ []))),
    )
