use Rattle.std.proofs.Common.{◌≡◌, ◌∙◌, ◌++◌, [], ◌∷◌, List, true, ap, sym, subst, refl}
use Rattle.c5_board.specs.Boards.{Pass}
use Rattle.c5_board.specs.First.{first_pass}
use Rattle.c5_board.specs.Parts.{scheduler_part, snapshot_part, without_scheduler}
use Rattle.c5_workers.specs.Schedules.{FitsSchedule}
use Rattle.c5_replay.specs.declared.part.Part.{Part}
use Rattle.c5_replay.specs.declared.part.Part.TheVariants as parts
use Rattle.c5_replay.specs.Parts.{IsPassWith, Plays, ArePlaying}
use Rattle.c5_replay.proofs.Within.{all-append}
use Rattle.c5_replay.proofs.splitting.split_all.Goals as goal

pub returns-clause-parts : goal.returns-clause-parts
returns-clause-parts c = λ start.
    let board = c.args.board.now in
    let own = c.split_scheduler-rest.result.1 in
    let own2 = c.split_snapshot-rest.result.1 in
    let is : own ≡ scheduler_part (first_pass board) =
    c.split_scheduler-rest.ensures.part ∙ ap scheduler_part c.requires.pass in
    let rest : c.split_scheduler-rest.result.0 ≡ without_scheduler (first_pass board) =
    c.split_scheduler-rest.ensures.rest ∙ ap without_scheduler c.requires.pass in
    let is2 : own2 ≡ snapshot_part (without_scheduler (first_pass board)) =
    c.split_snapshot-rest.ensures.part ∙ ap snapshot_part rest in
    let fits : FitsSchedule c.args.scheduler (scheduler_part (first_pass board)) =
    c.requires.scheduler (scheduler_part (first_pass board)) refl refl refl refl refl in
    let with_none : IsPassWith board [] (scheduler_part (first_pass board)) =
    record { of_board = refl; roles_so = refl } in
    let with_none2 : IsPassWith board [] (snapshot_part (without_scheduler (first_pass board))) =
    record { of_board = refl; roles_so = refl } in
    let one = subst (λ (x : Pass). IsPassWith board [] x × FitsSchedule c.args.scheduler x) (sym is)
    (with_none, fits) in
    let two = subst (λ (x : Pass). IsPassWith board [] x × (x.snapshot ≡ true)) (sym is2)
    (with_none2, refl) in
    let items : c.add-2.new.parts.items ≡ ([] ++ parts.Scheduler own c.args.scheduler ∷ [])
    ++ parts.Snapshot own2 ∷ [] =
    c.in_ok-add-2.ensures {u = tt} ∙ ap (λ (l : List Part). l ++ parts.Snapshot own2 ∷ [])
    (c.in_ok-add.ensures {u = tt} ∙ ap
    (λ (l : List Part). l ++ parts.Scheduler own c.args.scheduler
    ∷ []) c.new-parts.ensures.items) in
    let base : ArePlaying board start c.add-2.new.parts.items =
    subst (λ (l : List Part). ArePlaying board start l) (sym items) (one, (two, tt)) in
    (c.in_ok-rest-2.ensures {u = tt}).parts start ((c.in_ok-rest.ensures {u = tt}).parts start base)
