use Rattle.std.proofs.Common.{◌≡◌, ◌∙◌, ◌+◌, [], ◌∷◌, List, ap, sym, subst, refl}
use Rattle.c5_rows.specs.declared.answer.Reply.{Reply}
use Rattle.c5_io.specs.declared.gate.Role.TheVariants as roles
use Rattle.c5_board.specs.Boards.{Pass}
use Rattle.c5_replay.specs.declared.part.Part.{Part}
use Rattle.c5_replay.specs.declared.part.Part.TheVariants as parts
use Rattle.c5_replay.specs.Answered.{HasAnswered}
use Rattle.c5_replay.specs.Parts.{Plays, ArePlaying}
use Rattle.c5_replay.proofs.Within.{all-append, answered-none}
use Rattle.c5_replay.proofs.SplitLemmas.{roles-more}
use Rattle.c5_replay.proofs.splitting.add_sessions.Goals as goal

pub loop-before-preserved : goal.loop-before-preserved
loop-before-preserved c =
    let inv = c.loop-before.invariant in
    let board = c.args.board.now in
    let own = c.split_reader-rest.result.1 in
    let k = c.loop-before.before in
    let items = c.in_ok-add.ensures {u = tt} in
    let part = parts.Session (k + 1) own c.new.result in
    let is = c.split_reader-rest.ensures.part in
    record {
      pass = c.split_reader-rest.ensures.rest ∙ inv.pass;
      parts = λ start h. subst (λ (l : List Part). ArePlaying board start l) (sym items)
          (all-append (Plays board start []) c.loop-before.parts.items (part ∷ [])
          (inv.parts start h) (
            (
              record {
                of_board = ap (λ (x : Pass). x.board) is ∙
                    (ap (λ (x : Pass). x.board) inv.pass ∙ c.requires.pass);
                roles_so =
                    ap (λ (x : Pass). x.roles) is;
              },
              subst (λ (l : List Reply). HasAnswered own start [] l) (sym c.new.ensures.items)
                  (answered-none own start),
            ),
            tt,
          ));
      roles = roles-more
          (λ x. roles.Session x) c.loop-before.parts.items c.add.new.parts.items _ part k items refl
          inv.roles;
    }
