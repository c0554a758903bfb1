-- What the pass after a step is.
use Rattle.std.proofs.Common.{◌≡◌, ℕ, ◌+◌, ◌-◌, ◌*◌, ◌/◌, ◌%◌, ◌<◌, ◌≤◌, max, [], ◌∷◌, ◌++◌, sym}
use Rattle.std.proofs.Common.{ap, subst, ◌∙◌, arith}
use Rattle.std.proofs.lemmas.Nat.{div-mul-add, mod-mul-add}
use Rattle.c5_board.specs.declared.pass.BoardPass.TheInside.{Inside}
use Rattle.c5_board.specs.declared.known.Known.{Known}
use Rattle.c5_board.specs.declared.known.Record.{Record}
use Rattle.c5_board.specs.Words.{packed}
use Rattle.atomic_table.specs.Seated.{TableId}
use Rattle.c5_board.specs.HeldPass.{shown_pass, IsPass}
use Rattle.c5_board.specs.Boards.{Board, Pass, pass_of}
use Rattle.c5_board.specs.Passes.{IsSound}
use Rattle.c5_board.specs.declared.known.Look.{Look}
use Rattle.c5_board.specs.Views.{with_look, Taken, rest_view, part_view, joined_view}
use Rattle.c5_board.specs.Cuts.{Holds}
use Rattle.c5_board.proofs.Facts.{Facts}
use Rattle.c5_board.proofs.SoundParts.{on_board, sound_rest, sound_part, sound_joined}
use Rattle.c5_board.specs.StepFacts.{Seated, Becomes}

-- a step's view is sound, and its place is the pass's
pub still_pass : (p p' : Inside) (v : Known) → p'.place ≡ v.place → p.seat.me.1 ≡ []
    → Becomes p.seat.me p'.seat.me v → IsPass p'
still_pass p p' v place none b = record {
  place = place ∙ sym (ap (λ (m : Seated). m.0.place) b.0);
  no_slots = ap (λ (m : Seated). m.1) b.0 ∙ none;
  sound = b.1 p'.seat.table_id;
}

-- a pass with one more look
pub looked_pass : (p p' : Inside) (now : Pass) → shown_pass p ≡ now
    → p'.seat.table_id ≡ p.seat.table_id → (look look' : Look) → look ≡ look'
    → p'.seat.me ≡ (with_look p.seat.me.0 look, p.seat.me.1)
    → shown_pass p' ≡ record now { looks = now.looks ++ look' ∷ [] }
looked_pass p p' now is table look look' same me =
    (λ t. pass_of (table t) (me t).0) ∙ (λ t. record (is t) { looks = (is t).looks ++ same t ∷ [] })

-- the parts of a split
pub rest_pass : (p p' : Inside) (taken : Taken) → p'.place ≡ p.place
    → p'.seat.table_id ≡ p.seat.table_id → p'.seat.me ≡ (rest_view taken p.seat.me.0, p.seat.me.1)
    → IsPass p → IsPass p'
rest_pass p p' taken place table me is = record {
  place = place ∙ (is.place ∙ sym (ap (λ (m : Seated). m.0.place) me));
  no_slots = ap (λ (m : Seated). m.1) me ∙ is.no_slots;
  sound = subst (λ (z : TableId × Seated). IsSound (pass_of z.0 z.1.0))
      (λ t. (sym table t, sym me t)) (sound_rest taken (shown_pass p) is.sound);
}

pub part_pass : (p p' : Inside) (taken : Taken) → Holds (shown_pass p) taken → p'.place ≡ p.place
    → p'.seat.table_id ≡ p.seat.table_id → p'.seat.me ≡ (part_view taken p.seat.me.0, []) → IsPass p
    → IsPass p'
part_pass p p' taken holds place table me is = record {
  place = place ∙ (is.place ∙ sym (ap (λ (m : Seated). m.0.place) me));
  no_slots = ap (λ (m : Seated). m.1) me;
  sound = subst (λ (z : TableId × Seated). IsSound (pass_of z.0 z.1.0))
      (λ t. (sym table t, sym me t)) (sound_part taken (shown_pass p) holds is.sound);
}

-- a joined pass
pub joined_pass : (p q p' : Inside) → Facts p.seat.me.0.log p.seat.me.0.workers
    → (shown_pass q).board ≡ (shown_pass p).board → p'.place ≡ max p.place q.place
    → p'.seat.table_id ≡ p.seat.table_id
    → p'.seat.me ≡ (joined_view p.seat.me.0 q.seat.me.0, p.seat.me.1) → IsPass p → IsPass q
    → IsPass p'
joined_pass p q p' k same place table me is other = let a = is.place in let b = other.place in
    record {
      place = (let e = ap (λ (m : Seated). m.0.place) me in omega arith);
      no_slots = ap (λ (m : Seated). m.1) me ∙ is.no_slots;
      sound = subst (λ (z : TableId × Seated). IsSound (pass_of z.0 z.1.0))
          (λ t. (sym table t, sym me t))
          (sound_joined (shown_pass p).board k (shown_pass p) (shown_pass q) is.sound
          (subst (λ (z : Board). IsSound (on_board z (shown_pass q))) same other.sound));
    }

-- ---- records as numbers

pub unpacks : (word : ℕ) (link : Record) → word ≡ packed link → link.predecessor ≤ 262144
    → record { row = (word - 1) / 1048576; predecessor = (word - 1) % 1048576 } ≡ link
unpacks word link is few =
    let e : word - 1 ≡ link.row * 1048576 + link.predecessor = omega arith in
    let below : link.predecessor < 1048576 = omega arith in
    let row : (word - 1) / 1048576 ≡ link.row =
    ap (λ (n : ℕ). n / 1048576) e ∙ div-mul-add link.row 1048576 link.predecessor below in
    let predecessor : (word - 1) % 1048576 ≡ link.predecessor =
    ap (λ (n : ℕ). n % 1048576) e ∙ mod-mul-add link.row 1048576 link.predecessor below in
    λ t. record { row = row t; predecessor = predecessor t }
