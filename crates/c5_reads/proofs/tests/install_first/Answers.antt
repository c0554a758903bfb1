use Rattle.std.proofs.Common.{◌≡◌, ℕ, List, ◌∷◌, true, ap, subst, sym, ◌∙◌, arith}
use Rattle.c5_definitions.specs.WriteNumbers.{owner_of}
use Rattle.c5_definitions.proofs.NumberLemmas.{numbers_are_owned}
use Rattle.c5_rows.specs.Numbers.{is_among}
use Rattle.c5_board.specs.Boards.{Board, Pass}
use Rattle.c5_board.proofs.FirstWrite.{outstanding_two}
use Rattle.c5_reads.proofs.tests.install_first.Goals as goal

pub exchange_head-requires-clause-role : goal.exchange_head-requires-clause-role
exchange_head-requires-clause-role c =
    let own = (numbers_are_owned 1 (omega arith)).own 1 (omega arith) (omega arith) in
    let workers = ap (λ (b : Board). b.workers) c.requires.pass ∙ c.requires.one in
    let role : is_among (owner_of c.args.pass.now.board.workers 1) c.args.pass.now.roles ≡ true =
    ap (λ (n : ℕ). is_among (owner_of n 1) c.args.pass.now.roles) workers ∙
    (ap (λ (i : ℕ). is_among i c.args.pass.now.roles) own ∙ c.requires.role) in
    subst (λ (p : Pass). is_among (owner_of p.board.workers 1) p.roles ≡ true)
    (sym c.load_record-link.ensures.pass)
    (subst (λ (p : Pass). is_among (owner_of p.board.workers 1) p.roles ≡ true)
    (sym c.load_scheduled.ensures.pass) role)

pub store_progress-requires-clause-least : goal.store_progress-requires-clause-least
store_progress-requires-clause-least c =
    let workers = ap (λ (p : Pass). p.board.workers) c.in-Ok.ensures.ok ∙
    (ap (λ (p : Pass). p.board.workers) c.load_record-link.ensures.pass
    ∙ (ap (λ (p : Pass). p.board.workers) c.load_scheduled.ensures.pass ∙
    (ap (λ (b : Board). b.workers) c.requires.pass ∙ c.requires.one))) in
    let none = ap (λ (p : Pass). p.installed) c.load_record-link.ensures.pass ∙
    (ap (λ (p : Pass). p.installed) c.load_scheduled.ensures.pass ∙ c.requires.none) in
    outstanding_two c.exchange_head.new.pass workers
    (ap (λ (p : Pass). p.installed) c.in-Ok.ensures.ok ∙ ap (λ (xs : List ℕ). 1 ∷ xs) none)
