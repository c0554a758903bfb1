-- The parts of a split and a joined pass are sound.
use Rattle.std.proofs.Common.{◌≡◌, ℕ, ◌≤◌, ◌==◌, ⊎_elim, max, Bool, true, false, cond, List, []}
use Rattle.std.proofs.Common.{◌∷◌, sym, ap, subst, ◌∙◌, arith, lt_of_not-le}
use Rattle.std.specs.Prelude.{All}
use Rattle.std.proofs.lemmas.List.Elements.{All-nil, All-append, All-weaker}
use native.Mathlib.Decide.{dec_le}
use Rattle.c5_definitions.specs.WriteNumbers.{end_of, owner_of}
use Rattle.c5_board.specs.declared.known.Look.{Look}
use Rattle.c5_board.specs.Sets.{without, number_of, greater_of_each}
use Rattle.c5_rows.specs.Numbers.{is_among}
use Rattle.c5_board.specs.Boards.{Board, Pass, names}
use Rattle.c5_board.specs.Parts.{owned_by, owned_by_others, joined}
use Rattle.c5_board.specs.Passes.{IsLookOf, IsSound}
use Rattle.c5_board.specs.Views.{Taken}
use Rattle.c5_board.specs.Cuts.{Holds, part_of, rest_of}
use Rattle.c5_board.proofs.Facts.{Facts}
use Rattle.c5_board.proofs.SetLemmas.{has_front, has_back, has_part, greater-length, greater-of}
use Rattle.c5_board.proofs.SeatLemmas.{look_more}
use Rattle.c5_board.proofs.PartSteps.{part-has, has-part, rest-has, has-rest, part-installed}
use Rattle.c5_board.proofs.PartSteps.{rest-installed}

-- a pass with other roles, which knows the same
abbrev reroled : Pass → List ℕ → List ℕ → Bool → Bool → ℕ → ℕ → List Look → Pass
reroled p roles installed snapshot scheduler written indexed looks = record {
  board = p.board;
  roles = roles;
  installed = installed;
  snapshot = snapshot;
  scheduler = scheduler;
  written = written;
  indexed = indexed;
  floors = p.floors;
  place = p.place;
  scheduled = p.scheduled;
  looks = looks;
}

record IsPart (p : Pass) (roles installed : List ℕ) : Type 0 where
  held : (i : ℕ) → is_among i roles ≡ true → is_among i p.roles ≡ true
  numbers : (w : ℕ) → is_among w installed ≡ true → (is_among w p.installed ≡ true)
      × (is_among (owner_of p.board.workers w) roles ≡ true)

part_sound : (p : Pass) (roles installed : List ℕ) (snapshot scheduler : Bool) (written indexed : ℕ)
    (looks : List Look) → IsPart p roles installed
    → All (IsLookOf (names p.board) p.floors p.place p.scheduled) looks → IsSound p
    → IsSound (reroled p roles installed snapshot scheduler written indexed looks)
part_sound p roles installed snapshot scheduler written indexed looks q known f = record {
  workers = λ i has_i. f.workers i (q.held i has_i);
  installed = λ w has_w. ((f.installed w (q.numbers w has_w).0).0, (q.numbers w has_w).1);
  count = f.count;
  floors = f.floors;
  place = f.place;
  scheduled = f.scheduled;
  end = f.end;
  looks = known;
}

pub sound_part : (taken : Taken) (p : Pass) → Holds p taken → IsSound p → IsSound (part_of taken p)
sound_part taken p is f =
    part_sound p (cond (taken.worker == 0) [] (taken.worker ∷ []))
    (cond (taken.worker == 0) [] (owned_by p.board.workers taken.worker p.installed))
    taken.snapshot taken.scheduler
    (cond taken.scheduler p.written 0) (cond taken.scheduler p.indexed 0) []
    (record {
      held = λ i has_i. let q = part-has taken.worker i has_i in
          subst (λ (j : ℕ). is_among j p.roles ≡ true) (sym q.0) (is.worker q.1);
      numbers = λ w has_w. let q =
          part-installed taken.worker p.board.workers w p.installed has_w in (
            q.0,
            subst (λ (j : ℕ). is_among j (cond (taken.worker == 0) [] (taken.worker ∷ []))
                ≡ true) (sym q.1) (has-part taken.worker q.2),
          );
    })
    (All-nil (IsLookOf (names p.board) p.floors p.place p.scheduled)) f

pub sound_rest : (taken : Taken) (p : Pass) → IsSound p → IsSound (rest_of taken p)
sound_rest taken p f =
    part_sound p (cond (taken.worker == 0) p.roles (without taken.worker p.roles))
    (cond (taken.worker == 0) p.installed
    (owned_by_others p.board.workers taken.worker p.installed))
    (cond taken.snapshot false p.snapshot) (cond taken.scheduler false p.scheduler)
    (cond taken.scheduler 0 p.written) (cond taken.scheduler 0 p.indexed) p.looks
    (record {
      held = λ i has_i. (rest-has taken.worker i p.roles has_i).0;
      numbers = λ w has_w. let q =
          rest-installed taken.worker p.board.workers w p.installed has_w in (
            q.0,
            has-rest taken.worker (owner_of p.board.workers w) p.roles
                (f.installed w q.0).1 q.1,
          );
    })
    f.looks f

-- ---- joins

-- a pass of this board
abbrev pub on_board : Board → Pass → Pass
on_board board p = record {
  board = board;
  roles = p.roles;
  installed = p.installed;
  snapshot = p.snapshot;
  scheduler = p.scheduler;
  written = p.written;
  indexed = p.indexed;
  floors = p.floors;
  place = p.place;
  scheduled = p.scheduled;
  looks = p.looks;
}

module _ (board : Board) (k : Facts board.log board.workers) (a b : Pass)
    (f : IsSound (on_board board a)) (g : IsSound (on_board board b)) where
  abbrev both : Pass
  both = joined (on_board board a) (on_board board b)

  floors_a : (i : ℕ) → number_of a.floors i ≤ number_of (greater_of_each a.floors b.floors) i
  floors_a i = let e = greater-of a.floors b.floors i (f.count ∙ sym g.count) in omega arith

  floors_b : (i : ℕ) → number_of b.floors i ≤ number_of (greater_of_each a.floors b.floors) i
  floors_b i = let e = greater-of a.floors b.floors i (f.count ∙ sym g.count) in omega arith

  -- the end of the greater place is that of one of them
  ends : end_of board.log.txns (max a.place b.place) ≤ max a.scheduled b.scheduled
  ends = let e_a = f.end in let e_b = g.end in elim (dec_le a.place b.place) [
    | yes le ↦ (let e : max a.place b.place ≡ b.place = omega arith in
        let c = ap (end_of board.log.txns) e in omega arith)
    | no gt ↦ (let lt = lt_of_not-le gt in let e : max a.place b.place ≡ a.place = omega arith in
        let c = ap (end_of board.log.txns) e in omega arith)
  ]

  pub sound_joined : IsSound (joined (on_board board a) (on_board board b))
  sound_joined = let same_count = f.count ∙ sym g.count in record {
    workers = λ i h. ⊎_elim (λ (of_a : is_among i a.roles ≡ true). f.workers i of_a)
        (λ (of_b : is_among i b.roles ≡ true). g.workers i of_b) (has_part i a.roles b.roles h);
    installed = λ w h. ⊎_elim
        (λ (of_a : is_among w a.installed ≡ true). let p = f.installed w of_a in
        (p.0, has_front (owner_of board.workers w) a.roles b.roles p.1))
        (λ (of_b : is_among w b.installed ≡ true). let p = g.installed w of_b in
        (p.0, has_back (owner_of board.workers w) a.roles b.roles p.1))
        (has_part w a.installed b.installed h);
    count = greater-length a.floors b.floors same_count ∙ f.count;
    floors = λ i is. let p = f.floors i is in let q = g.floors i is in
        let e = greater-of a.floors b.floors i same_count in let positive = p.0 in (
          omega arith,
          elim (dec_le (number_of a.floors i) (number_of b.floors i)) [
            | yes le ↦ (let same : number_of (greater_of_each a.floors b.floors) i
                ≡ number_of b.floors i = omega arith in ap (owner_of board.workers) same ∙ q.1)
            | no gt ↦ (let lt = lt_of_not-le gt in
                let same : number_of (greater_of_each a.floors b.floors) i ≡ number_of a.floors i =
                omega arith in ap (owner_of board.workers) same ∙ p.1)
          ],
        );
    place = let p = f.place in let q = g.place in omega arith;
    scheduled = let p = f.scheduled in let q = g.scheduled in omega arith;
    end = ends;
    looks = All-append
        (IsLookOf (names board) (greater_of_each a.floors b.floors) (max a.place b.place)
        (max a.scheduled b.scheduled)) a.looks b.looks
        (All-weaker (IsLookOf (names board) a.floors a.place a.scheduled)
        (IsLookOf (names board) (greater_of_each a.floors b.floors) (max a.place b.place)
        (max a.scheduled b.scheduled))
        (look_more (names board) a.floors (greater_of_each a.floors b.floors) a.place
        (max a.place b.place) a.scheduled (max a.scheduled b.scheduled) floors_a (omega arith)
        (omega arith)) a.looks f.looks)
        (All-weaker (IsLookOf (names board) b.floors b.place b.scheduled)
        (IsLookOf (names board) (greater_of_each a.floors b.floors) (max a.place b.place)
        (max a.scheduled b.scheduled))
        (look_more (names board) b.floors (greater_of_each a.floors b.floors) b.place
        (max a.place b.place) b.scheduled (max a.scheduled b.scheduled) floors_b (omega arith)
        (omega arith)) b.looks g.looks);
  }
