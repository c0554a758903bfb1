-- The parts of a new board's pass.
use Rattle.std.proofs.Common.{◌≡◌, ◌∙◌, ◌+◌, ◌-◌, ◌≤◌, ◌<◌, ◌==◌, ◌++◌, ℕ, zero, suc, Bool, true}
use Rattle.std.proofs.Common.{false, not, cond, List, [], ◌∷◌, map, ap, sym, subst, refl, arith}
use Rattle.std.proofs.Common.{eq-eqb}
use Rattle.std.specs.List.{range_with_len}
use Rattle.std.proofs.lemmas.Bool.{eqb-true}
use Rattle.std.proofs.lemmas.List.{append_assoc, map-append}
use Rattle.std.proofs.lemmas.List.FromFn.{map-range_with_len_more}
use Rattle.c5_rows.specs.Numbers.{is_among, numbers_from}
use Rattle.c5_io.specs.declared.gate.Role.{Role}
use Rattle.c5_board.specs.Boards.{Board, Pass}
use Rattle.c5_board.specs.Sets.{without}
use Rattle.c5_board.specs.Parts.{worker_part, without_worker, owned_by, owned_by_others}
use Rattle.c5_board.proofs.SetLemmas.{not_true, has-here}
use Rattle.c5_workers.specs.declared.worker.Worker.{Worker}
use Rattle.c5_workers.specs.Work.{FitsWorker, FitsUnworked}
use Rattle.c5_replay.specs.declared.part.Part.{Part}
use Rattle.c5_replay.specs.Parts.{IsPassWith, role_of}

pub roles-more : (f : ℕ → Role) (items after : List Part) (first : List Role) (part : Part) (k : ℕ)
    → after ≡ items ++ part ∷ [] → role_of part ≡ f (k + 1)
    → map role_of items ≡ first ++ map f (range_with_len 1 k)
    → map role_of after ≡ first ++ map f (range_with_len 1 (k + 1))
roles-more f items after first part k is role h =
    let e : 1 + k ≡ k + 1 = omega arith in
    ap (λ (l : List Part). map role_of l) is ∙ map-append role_of items (part ∷ []) ∙
    (λ t. h t ++ role t ∷ []) ∙ append_assoc first (map f (range_with_len 1 k)) (f (k + 1) ∷ [])
    ∙ ap (λ (l : List Role). first ++ l) (sym (map-range_with_len_more f 1 k (k + 1) e))

without-above : (i first n : ℕ) → i < first
    → without i (numbers_from first n) ≡ numbers_from first n
without-above i first zero less = refl
without-above i first (suc n) less =
    ap (λ (b : Bool). cond (not b) (first ∷ without i (numbers_from (suc first) n))
    (without i (numbers_from (suc first) n)))
    (not_true (i == first) (λ t. absurd (let e = eqb-true i first t in omega arith)))
    ∙ ap (λ (l : List ℕ). first ∷ l) (without-above i (suc first) n (omega arith))

without-first : (first n : ℕ) → 1 ≤ n → without first (numbers_from first n)
    ≡ numbers_from (first + 1) (n - 1)
without-first first zero some = absurd (omega arith)
without-first first (suc n) some =
    let e : n ≡ suc n - 1 = omega arith in
    let up : suc first ≡ first + 1 = omega arith in
    ap (λ (b : Bool). cond (not b) (first ∷ without first (numbers_from (suc first) n))
    (without first (numbers_from (suc first) n))) (eq-eqb first first refl)
    ∙ without-above first (suc first) n (omega arith) ∙ (λ t. numbers_from (up t) (e t))

pub rest-with : (board : Board) (p q : Pass) (i n : ℕ) → 1 ≤ n
    → IsPassWith board (numbers_from i n) p → q ≡ without_worker p i
    → IsPassWith board (numbers_from (i + 1) (n - 1)) q
rest-with board p q i n some h is = record {
  of_board = ap (λ (x : Pass). x.board) is ∙ h.of_board;
  roles_so = ap (λ (x : Pass). x.roles) is ∙ ap
      (λ (l : List ℕ). without i l) h.roles_so ∙ without-first i n some;
}

pub rest-none : (p q : Pass) (i : ℕ) → p.installed ≡ [] → q ≡ without_worker p i → q.installed ≡ []
rest-none p q i none is = ap (λ (x : Pass). x.installed) is ∙ ap
    (λ (l : List ℕ). owned_by_others p.board.workers i l) none

pub worker-plays : (board : Board) (p q : Pass) (numbers : List ℕ) (i workers : ℕ) (w : Worker)
    → IsPassWith board numbers p → p.installed ≡ [] → workers ≡ board.workers
    → FitsUnworked w i workers → q ≡ worker_part p i
    → IsPassWith board (i ∷ []) q × FitsWorker w q
worker-plays board p q numbers i workers w h none count fits is =
    let part = worker_part p i in
    let with_i : IsPassWith board (i ∷ []) part =
    record { of_board = h.of_board; roles_so = refl } in
    let fits_part : FitsWorker w part =
    fits part (ap (λ (x : Board). x.workers) h.of_board ∙ sym count) (has-here i [])
    (λ v owned. ap (λ (l : List ℕ). is_among v (owned_by p.board.workers i l)) none) in (
      subst (λ (x : Pass). IsPassWith board (i ∷ []) x) (sym is) with_i,
      subst (λ (x : Pass). FitsWorker w x) (sym is) fits_part,
    )
