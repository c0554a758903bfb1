-- What became of each body, after one more entry.
use Rattle.std.proofs.Common.{◌≡◌, ◌<◌, ◌≤◌, ◌+◌, ◌-◌, ◌⊎◌, ℕ, zero, suc, Bool, true, false, cond}
use Rattle.std.proofs.Common.{not, eqb, List, [], ◌∷◌, ◌++◌, length, map, set, get_or, Option, Some}
use Rattle.std.proofs.Common.{None, inl, inr, refl, ap, sym, subst, ◌∙◌, arith}
use Rattle.std.specs.List.{All, Contains}
use Rattle.std.specs.Map.{lookup}
use Rattle.std.proofs.lemmas.Bool.{cases_Bool, cases_eq, eqb-true, eqb-false, eq-eqb, ne_eqb}
use Rattle.std.proofs.lemmas.Bool.{both_ways}
use Rattle.std.proofs.lemmas.List.Folds.{list_any-append}
use Rattle.std.proofs.lemmas.List.Elements.{All-contains, Contains-append_left, Contains-push}
use Rattle.std.proofs.lemmas.List.Elements.{Contains-push_cases}
use Rattle.c5_rows.specs.declared.writes.Write.{Write}
use Rattle.c5_definitions.specs.declared.history.Entry.{Entry}
use Rattle.c5_definitions.specs.declared.history.OrderBase.{OrderBase}
use Rattle.c5_definitions.specs.History.{Begun, VersionRead, begun, commits, ended_stamps, reads}
use Rattle.c5_rows.specs.Numbers.{is_among}
use Rattle.c5_definitions.specs.OrderLog.{IsOpen}
use Rattle.c5_order.specs.declared.book.BodyState.{BodyState}
use Rattle.c5_order.specs.declared.book.BodyState.TheVariants.{Free, Open, Committed}
use Rattle.c5_order.specs.Book.{HoldsState}
use Rattle.c5_order.proofs.Versions.{Commit, contains-tail, lookup-more, lookup-push}
use Rattle.c5_order.proofs.Histories.{counts-unique, within-default, open-begun, begun-open, IsLive}
use Rattle.c5_order.proofs.Histories.{Sound}
use Rattle.c5_order.proofs.Steps.{among-push}

abbrev pub StateIn : List Begun → List Commit → List ℕ → ℕ → BodyState → Type 0
StateIn bs cs es script Free = (b : Begun) → Contains bs b → IsLive cs es b.stamp
    → b.script ≡ script → ⊥
StateIn bs cs es script (Open s) = (b : Begun) × Contains bs b × (is_among b.stamp es ≡ false)
    × (b.script ≡ script) × (b.stamp ≡ s)
StateIn bs cs es script (Committed s) = (b : Begun) × Contains bs b × (b.script ≡ script)
    × (b.stamp ≡ s) × ((w : List Write) × (lookup (λ n. eqb n s) cs ≡ Some w))

pub state-in : (h : List Entry) (n : ℕ) (st : BodyState) → HoldsState h n st
    → StateIn (begun h) (commits h) (ended_stamps h) n st
state-in h n Free holds = λ b there live same. holds b (there, live) same
state-in h n (Open s) holds = let o = open-begun h holds.0 holds.1 in
    (holds.0, o.0, o.1, holds.2, holds.3)
state-in h n (Committed s) holds = (holds.0, holds.1, holds.2, holds.3, holds.4)

pub state-out : (h : List Entry) (n : ℕ) (st : BodyState)
    → StateIn (begun h) (commits h) (ended_stamps h) n st → HoldsState h n st
state-out h n Free holds = λ b live same. holds b live.0 live.1 same
state-out h n (Open s) holds = (holds.0, begun-open h holds.0 holds.1 holds.2, holds.3, holds.4)
state-out h n (Committed s) holds = (holds.0, holds.1, holds.2, holds.3, holds.4)

pub state-along : (bs bs' : List Begun) (cs cs' : List Commit) (es es' : List ℕ) (n : ℕ)
    (st : BodyState) → bs ≡ bs' → cs ≡ cs' → es ≡ es' → StateIn bs cs es n st
    → StateIn bs' cs' es' n st
state-along bs bs' cs cs' es es' n st b c e holds =
    subst (λ x. StateIn x cs' es' n st) b
    (subst (λ x. StateIn bs x es' n st) c (subst (λ x. StateIn bs cs x n st) e holds))

-- ---- other bodies

pub state-begin : (bs : List Begun) (cs : List Commit) (es : List ℕ) (b : Begun) (n : ℕ)
    (st : BodyState) → (b.script ≡ n → ⊥) → StateIn bs cs es n st
    → StateIn (bs ++ b ∷ []) cs es n st
state-begin bs cs es b n Free other holds =
    λ a there live same. elim (Contains-push_cases bs b a there) [
      | inl old ↦ holds a old live same
      | inr is ↦ other (ap (λ (x : Begun). x.script) is ∙ same)
    ]
state-begin bs cs es b n (Open s) other holds =
    (holds.0, Contains-append_left bs (b ∷ []) holds.0 holds.1, holds.2, holds.3, holds.4)
state-begin bs cs es b n (Committed s) other holds =
    (holds.0, Contains-append_left bs (b ∷ []) holds.0 holds.1, holds.2, holds.3, holds.4)

-- a stamp that has not ended, and does not end, is as it was
among-other : (s t : ℕ) (es : List ℕ) → is_among s es ≡ false → (s ≡ t → ⊥)
    → is_among s (es ++ t ∷ []) ≡ false
among-other s t es none other =
    list_any-append (λ m. eqb s m) es (t ∷ []) ∙ rw (none, ne_eqb s t other) refl

module _ (base : OrderBase) (bs : List Begun) (cs : List Commit) (es : List ℕ)
    (rs : List VersionRead) (sound : Sound base bs cs es rs) (b : Begun) (there : Contains bs b)
    (running : is_among b.stamp es ≡ false)
    (uncommitted : lookup (λ n. eqb n b.stamp) cs ≡ None) where
  -- another transaction of another body
  other-stamp : (a : Begun) → Contains bs a → (a.script ≡ b.script → ⊥) → a.stamp ≡ b.stamp → ⊥
  other-stamp a at other same =
      other (ap (λ (x : Begun). x.script)
      (counts-unique base.last bs a b sound.counted at there same))

  pub state-cancel : (n : ℕ) (st : BodyState) → (n ≡ b.script → ⊥) → StateIn bs cs es n st
      → StateIn bs cs (es ++ b.stamp ∷ []) n st
  state-cancel n Free other holds = λ a at live same. holds a at (by a live) same
    where
      by : (a : Begun) → IsLive cs (es ++ b.stamp ∷ []) a.stamp → IsLive cs es a.stamp
      by a (inl e) = inl (among-push a.stamp b.stamp es e).0
      by a (inr w) = inr w
  state-cancel n (Open s) other holds = (
    holds.0,
    holds.1,
    among-other holds.0.stamp b.stamp es holds.2
        (other-stamp holds.0 holds.1 (λ same. other (sym holds.3 ∙ same))),
    holds.3,
    holds.4,
  )
  state-cancel n (Committed s) other holds = holds

  -- its own body is free again
  pub state-free : StateIn bs cs (es ++ b.stamp ∷ []) b.script Free
  state-free = λ a at live same. by a at same live
    where
      by : (a : Begun) → Contains bs a → a.script ≡ b.script
          → IsLive cs (es ++ b.stamp ∷ []) a.stamp → ⊥
      by a at same (inl e) = let p = among-push a.stamp b.stamp es e in
          p.1 (sound.live a b at there same (inl p.0) (inl running))
      by a at same (inr w) =
          let is : a.stamp ≡ b.stamp = sound.live a b at there same (inr w) (inl running) in
          let found : lookup (λ n. eqb n b.stamp) cs ≡ Some w.0 =
          subst (λ s. lookup (λ n. eqb n s) cs ≡ Some w.0) is w.1 in
          cc

  new-commit : (writes w : List Write) (a : Begun)
      → lookup (λ n. eqb n a.stamp) (cs ++ (b.stamp, writes) ∷ []) ≡ Some w
      → lookup (λ n. eqb n a.stamp) cs ≡ None → b.stamp ≡ a.stamp
  new-commit writes w a e none =
      by (eqb b.stamp a.stamp) refl (sym (lookup-push a.stamp cs (b.stamp, writes) none) ∙ e)
    where
      by : (t : Bool) → eqb b.stamp a.stamp ≡ t → cond t (Some writes) None ≡ Some w
          → b.stamp ≡ a.stamp
      by true is e = eqb-true b.stamp a.stamp is
      by false is e = absurd cc

  pub state-commit : (writes : List Write) (n : ℕ) (st : BodyState) → (n ≡ b.script → ⊥)
      → StateIn bs cs es n st → StateIn bs (cs ++ (b.stamp, writes) ∷ []) (es ++ b.stamp ∷ []) n st
  state-commit writes n Free other holds = λ a at live same. by a at same live
    where
      old : (a : Begun) → Contains bs a → a.script ≡ n → (w : List Write)
          → lookup (λ n. eqb n a.stamp) (cs ++ (b.stamp, writes) ∷ []) ≡ Some w
          → (o : Option (List Write)) → lookup (λ n. eqb n a.stamp) cs ≡ o → ⊥
      old a at same w e (Some v) is = holds a at (inr (v, is)) same
      old a at same w e None is =
          other-stamp a at (λ script. other (sym same ∙ script)) (sym (new-commit writes w a e is))

      by : (a : Begun) → Contains bs a → a.script ≡ n
          → IsLive (cs ++ (b.stamp, writes) ∷ []) (es ++ b.stamp ∷ []) a.stamp → ⊥
      by a at same (inl e) = holds a at (inl (among-push a.stamp b.stamp es e).0) same
      by a at same (inr w) = old a at same w.0 w.1 (lookup (λ n. eqb n a.stamp) cs) refl
  state-commit writes n (Open s) other holds = (
    holds.0,
    holds.1,
    among-other holds.0.stamp b.stamp es holds.2
        (other-stamp holds.0 holds.1 (λ same. other (sym holds.3 ∙ same))),
    holds.3,
    holds.4,
  )
  state-commit writes n (Committed s) other holds = (
    holds.0,
    holds.1,
    holds.2,
    holds.3,
    (holds.4.0, lookup-more s cs ((b.stamp, writes) ∷ []) holds.4.0 holds.4.1),
  )

  pub state-committed : (writes : List Write)
      → StateIn bs (cs ++ (b.stamp, writes) ∷ []) (es ++ b.stamp ∷ []) b.script (Committed b.stamp)
  state-committed writes = (
    b,
    there,
    refl,
    refl,
    (
      writes,
      lookup-push b.stamp cs (b.stamp, writes) uncommitted ∙ ap
          (λ t. cond t (Some writes) None) (eq-eqb b.stamp b.stamp refl),
    ),
  )

-- ---- the list of states

pub set-here : {X : Type 0} (xs : List X) (i : ℕ) (v d : X) → i < length xs
    → get_or (set xs i v) i d ≡ v
set-here [] i v d lt = absurd (omega arith)
set-here (x ∷ xs) zero v d lt = refl
set-here (x ∷ xs) (suc i) v d lt = set-here xs i v d (omega arith)

pub set-other : {X : Type 0} (xs : List X) (i k : ℕ) (v d : X) → (k ≡ i → ⊥)
    → get_or (set xs i v) k d ≡ get_or xs k d
set-other [] i k v d other = refl
set-other (x ∷ xs) zero zero v d other = absurd (other refl)
set-other (x ∷ xs) zero (suc k) v d other = refl
set-other (x ∷ xs) (suc i) zero v d other = refl
set-other (x ∷ xs) (suc i) (suc k) v d other = set-other xs i k v d (λ e. other (ap suc e))

-- one state is set, and the others stay
pub states-set : (P Q : ℕ → BodyState → Type 0) (states : List BodyState) (i : ℕ) (v : BodyState)
    → i < length states → Q i v → ((n : ℕ) (st : BodyState) → (n ≡ i → ⊥) → P n st → Q n st)
    → ((n : ℕ) → n < length states → P n (get_or states n Free)) → (n : ℕ) → n < length states
    → Q n (get_or (set states i v) n Free)
states-set P Q states i v lt here others all n within = elim (cases_eq n i) [
  | inl same ↦ subst (λ k. Q k (get_or (set states i v) k Free)) (sym same)
      (subst (Q i) (sym (set-here states i v Free lt)) here)
  | inr other ↦ subst (Q n) (sym (set-other states i n v Free other))
      (others n (get_or states n Free) other (all n within))
]
