use Rattle.std.proofs.Common.{◌∙◌, ap, sym}
use Rattle.std.specs.Prelude.{option_map}
use Rattle.std.specs.FinMap as map
use Rattle.c5_eval.specs.Setting.{row_made, set_by}
use Rattle.c5_eval.specs.Held.{held_by}
use Rattle.c5_eval.proofs.OwnLemmas.{get_made}
use Rattle.c5_eval.proofs.OwnInWrites.{get-set_by}
use Rattle.c5_eval.proofs.own.Own.get.Goals as goal

pub returns-in-Some : goal.returns-in-Some
returns-in-Some c =
    let name = c.args.name.now in
    ap (option_map row_made) c.get.ensures.value
    ∙ get_made c.in-Some.tree.entries name
    ∙ ap (λ tree. map.get (set_by (held_by c.self.inside.writes tree)) name) (sym c.in-Some.is)
    ∙ ap (λ m. map.get m name) c.self.view_is

pub returns-in-None : goal.returns-in-None
returns-in-None c =
    let name = c.args.name.now in
    ap (option_map row_made) c.find.ensures
    ∙ get-set_by c.self.inside.writes name
    ∙ ap (λ tree. map.get (set_by (held_by c.self.inside.writes tree)) name) (sym c.in-None.is)
    ∙ ap (λ m. map.get m name) c.self.view_is
