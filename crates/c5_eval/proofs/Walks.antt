-- One statement more of a body.
use Rattle.std.proofs.Common.{◌≡◌, ℕ, ◌+◌, ◌<◌, ◌≤◌, List, [], ◌∷◌, ◌++◌, length, get_or, drop}
use Rattle.std.proofs.Common.{Option, Some, None, Bool, true, false, refl, ap, sym, subst, ◌∙◌}
use Rattle.std.proofs.Common.{MatchOption, append_assoc, append-nil}
use Rattle.std.proofs.lemmas.List.{drop_more, drop_all}
use Rattle.std.specs.FinMap.{empty, get, insert}
use Rattle.c5_rows.specs.declared.cells.Cell.{Cell}
use Rattle.c5_rows.specs.declared.writes.RowName.{RowName}
use Rattle.c5_rows.specs.declared.writes.Write.{Write}
use Rattle.c5_definitions.specs.declared.script.Statement.{Statement}
use Rattle.c5_definitions.specs.Effects.{Effect, declines, keeps, sets, needed, effect_of}
use Rattle.c5_definitions.specs.Follows.{Read, Own, FindsRow, FollowsFrom, Follows, own_writes}
use Rattle.c5_eval.specs.declared.steps.Step.{Step}
use Rattle.c5_eval.specs.declared.steps.Step.TheVariants.{GoesOn, Declines}
use Rattle.c5_eval.specs.Stepping.{Acts, Takes}

-- what is found over some reads is found over these and more, which are then left
found_before : (name : Option RowName) (own : Own) (reads more : List Read)
    (row : Option (List Cell)) → FindsRow name own reads row []
    → FindsRow name own (reads ++ more) row more
found_before None own reads more row finds = (finds.0, ap (λ rs. rs ++ more) finds.1)
found_before (Some name) own reads more row finds =
    elim (get own name) as
    (λ o. MatchOption o (reads ≡ (name, row) ∷ []) (λ set. (row ≡ set) × ([] ≡ reads))
    → MatchOption o (reads ++ more ≡ (name, row) ∷ more)
    (λ set. (row ≡ set) × (more ≡ reads ++ more))) [
      | None ↦ λ is. ap (λ rs. rs ++ more) is
      | Some set ↦ λ is. (is.0, ap (λ rs. rs ++ more) is.1)
    ] finds

-- a statement that lets the body go on, and then the others
pub goes_on : (statement : Statement) (statements : List Statement) (own after : Own)
    (reads more : List Read) (step : Step) (declined : Bool) (writes : List Write) →
    Takes statement own after reads step → step ≡ GoesOn
    → FollowsFrom statements after more declined writes
    → FollowsFrom (statement ∷ statements) own (reads ++ more) declined writes
goes_on statement statements own after reads more step declined writes
    (found, finds, acts) goes rest = (
      found,
      more,
      found_before (needed statement) own reads more found finds,
      elim (effect_of statement found) as
          (λ e. Acts e own after step
          → elim e as (λ _. Type 0) [
            | declines ↦ (more ≡ []) × (declined ≡ true)
                × (writes ≡ [])
            | keeps ↦ FollowsFrom statements own more declined writes
            | sets name set ↦
                FollowsFrom statements (insert own name set) more declined writes
          ]) [
            | declines ↦ λ is. absurd (apart (sym is ∙ goes))
            | keeps ↦ λ is. subst
                (λ (o : Own). FollowsFrom statements o more declined writes) is.1 rest
            | sets name set ↦ λ is. subst
                (λ (o : Own). FollowsFrom statements o more declined writes) is.1 rest
          ] acts,
    ) where
      apart : Declines ≡ GoesOn → ⊥
      apart e = cc

-- a statement that declines ends the body
pub declines_all : (statement : Statement) (statements : List Statement) (own after : Own)
    (reads : List Read) (step : Step) →
    Takes statement own after reads step → step ≡ Declines
    → FollowsFrom (statement ∷ statements) own reads true []
declines_all statement statements own after reads step (found, finds, acts) declined = (
  found,
  [],
  finds,
  elim (effect_of statement found) as
      (λ e. Acts e own after step
      → elim e as (λ _. Type 0) [
        | declines ↦ (◌≡◌ {A = List Read} [] []) × (true ≡ true)
            × (◌≡◌ {A = List Write} [] [])
        | keeps ↦ FollowsFrom statements own [] true []
        | sets name set
            ↦ FollowsFrom statements (insert own name set) [] true []
      ]) [
        | declines ↦ λ is. (refl, refl, refl)
        | keeps ↦ λ is. absurd (apart (sym is.0 ∙ declined))
        | sets name set ↦ λ is. absurd (apart (sym is.0 ∙ declined))
      ] acts,
) where
  apart : GoesOn ≡ Declines → ⊥
  apart e = cc

-- however the statements from this place on end, the whole body ends so
abbrev pub Leads : List Statement → List Statement → Own → List Read → Type 0
Leads all rest own reads = (more : List Read) (declined : Bool) (writes : List Write)
    → FollowsFrom rest own more declined writes
    → FollowsFrom all empty (reads ++ more) declined writes

pub leads_on : (all : List Statement) (i : ℕ) (statement : Statement) (own after : Own)
    (reads taken : List Read) (step : Step) →
    i < length all → statement ≡ get_or all i statement → Takes statement own after taken step
    → step ≡ GoesOn → Leads all (drop i all) own reads
    → Leads all (drop (i + 1) all) after (reads ++ taken)
leads_on all i statement own after reads taken step lt is takes goes leads more declined writes rest
    =
    let here : drop i all ≡ statement ∷ drop (i + 1) all =
    drop_more all i statement lt ∙ ap (λ s. s ∷ drop (i + 1) all) (sym is) in
    subst (λ rs. FollowsFrom all empty rs declined writes) (sym (append_assoc reads taken more))
    (leads (taken ++ more) declined writes
    (subst (λ ss. FollowsFrom ss own (taken ++ more) declined writes) (sym here)
    (goes_on statement
    (drop (i + 1) all) own after taken more step declined writes takes goes rest)))

pub leads_to_decline : (all : List Statement) (i : ℕ) (statement : Statement) (own after : Own)
    (reads taken : List Read) (step : Step) →
    i < length all → statement ≡ get_or all i statement → Takes statement own after taken step
    → step ≡ Declines → Leads all (drop i all) own reads
    → FollowsFrom all empty (reads ++ taken) true []
leads_to_decline all i statement own after reads taken step lt is takes declined leads =
    let here : drop i all ≡ statement ∷ drop (i + 1) all =
    drop_more all i statement lt ∙ ap (λ s. s ∷ drop (i + 1) all) (sym is) in
    leads taken true []
    (subst (λ ss. FollowsFrom ss own taken true []) (sym here)
    (declines_all statement (drop (i + 1) all) own after taken step takes declined))

pub leads_to_end : (all : List Statement) (i : ℕ) (own : Own) (reads : List Read) → length all ≤ i
    → Leads all (drop i all) own reads → FollowsFrom all empty reads false (own_writes own)
leads_to_end all i own reads le leads =
    subst (λ rs. FollowsFrom all empty rs false (own_writes own)) (append-nil reads)
    (leads [] false (own_writes own)
    (subst (λ ss. FollowsFrom ss own [] false (own_writes own)) (sym (drop_all i all le))
    (refl, refl, refl)))

-- reads that were made after others
pub read_on : (before reads taken now later : List Read) → now ≡ before ++ reads
    → later ≡ now ++ taken → later ≡ before ++ (reads ++ taken)
read_on before reads taken now later first second =
    second ∙ ap (λ rs. rs ++ taken) first ∙ append_assoc before reads taken

pub acts_alike : (a b : Effect) (own after : Own) (step : Step) → a ≡ b → Acts b own after step
    → Acts a own after step
acts_alike a b own after step same acts = subst (λ e. Acts e own after step) (sym same) acts

-- the same ending of the same body
pub follows_alike : (body all : List Statement) (reads : List Read) (declined declined' : Bool)
    (writes writes' : List Write) → all ≡ body → declined' ≡ declined → writes' ≡ writes
    → FollowsFrom all empty reads declined writes → Follows body reads declined' writes'
follows_alike body all reads declined declined' writes writes' same same_end same_writes follows =
    subst (λ (ss : List Statement). FollowsFrom ss empty reads declined' writes') same
    (subst (λ (d : Bool). FollowsFrom all empty reads d writes') (sym same_end)
    (subst (λ (ws : List Write). FollowsFrom all empty reads declined ws)
    (sym same_writes) follows))
