-- The rule gives the law.
use Rattle.std.proofs.Common.{◌≡◌, ℕ, List, get_or, sym, ap, subst, ◌∙◌}
use Rattle.turn_slot.specs.declared.known.Origin.{Origin}
use Rattle.turn_slot.specs.declared.known.TurnStage.{TurnStage}
use Rattle.turn_slot.specs.Views.{IsPlaced}
use Rattle.turn_slot.specs.Law.{TurnLaw}
use Rattle.turn_slot.proofs.Histories.{seen_begins, seen_own}

pub lawful : {V B E : Type 0} (base : V → B) (history : V → List E) (caller : E → ℕ)
    (origin : Origin B) → TurnLaw base history caller origin
lawful base history caller origin s r =
    let holder : get_or s.words 0 0 ≡ r.holder = ap (λ (l : List ℕ). get_or l 0 0) r.words in (
      r.log,
      record {
        count = ap (λ (l : List ℕ). get_or l 1 0) r.words;
        free = λ e. subst (λ (st : TurnStage). IsPlaced base history st s.homes origin.base r.log)
            (r.free (sym holder ∙ e)) r.place;
        held = λ busy. let h = r.held (λ e. busy (holder ∙ e)) in
            let t = (r.each r.who h.0 h.1).turn h.2 in (
              r.who,
              h.0,
              h.1,
              h.2,
              t.2 ∙ sym holder,
              subst (λ (st : TurnStage). IsPlaced base history st s.homes origin.base r.log) t.1
                  r.place,
              (λ other w at turn. ((r.each other w at).turn turn).0),
            );
        numbers = λ n is. let h = r.owned n is in (
          r.owner n,
          h.0,
          h.1,
          h.2,
          (λ other w at among. sym ((r.each other w at).numbers n among).1),
        );
        seen = λ seat v at. let f = r.each seat v at in (
          seen_begins caller r.log v.numbers v.seen f.seen,
          seen_own caller r.log v.numbers v.seen f.seen,
        );
        looks = λ seat v at. (r.each seat v at).looks;
      },
    )
