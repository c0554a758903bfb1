-- What the noted state of a body says of the history.
use Rattle.std.proofs.Common.{◌≡◌, ◌<◌, ◌≤◌, ◌+◌, ◌⊎◌, ℕ, zero, suc, Bool, true, false, cond, eqb}
use Rattle.std.proofs.Common.{true≢false, List, [], ◌∷◌, ◌++◌, length, Option, Some, None, inl, inr}
use Rattle.std.proofs.Common.{refl, ap, sym, subst, ◌∙◌, arith}
use Rattle.std.specs.List.{All, Contains}
use Rattle.std.specs.Map.{lookup}
use Rattle.std.proofs.lemmas.Bool.{eqb-true, eq-eqb}
use Rattle.std.proofs.lemmas.List.Elements.{All-contains}
use Rattle.c5_rows.specs.declared.writes.Write.{Write}
use Rattle.c5_rows.specs.declared.writes.Txn.{Txn}
use Rattle.c5_definitions.specs.declared.history.Entry.{Entry}
use Rattle.c5_definitions.specs.declared.history.OrderBase.{OrderBase}
use Rattle.c5_definitions.specs.History.{Begun, begun, commits, ended_stamps, open_txns}
use Rattle.c5_rows.specs.Numbers.{is_among}
use Rattle.c5_definitions.specs.OrderLog.{committed, committed_stamp, open_stamp, IsOpen}
use Rattle.c5_order.specs.declared.book.BodyState.{BodyState}
use Rattle.c5_order.specs.declared.book.BodyState.TheVariants.{Free, Open, Committed}
use Rattle.c5_order.specs.Book.{HoldsState}
use Rattle.c5_order.proofs.Versions.{Commit, contains-head, contains-tail}
use Rattle.c5_order.proofs.Histories.{open-begun, uncommitted, IsLive, Sound}
use Rattle.c5_order.proofs.Allowed.{SoundAt, committed_of, committed-is, committed_of-contains}
use Rattle.c5_order.proofs.Allowed.{none-committed, none-open}
use Rattle.c5_order.proofs.Serial.{each-committed}

-- the transaction whose stamp is found
stamp-found : (script s : ℕ) (ts : List Txn) → committed_stamp script ts ≡ Some s → (t : Txn)
    × Contains ts t × (t.script ≡ script) × (t.stamp ≡ s)
stamp-found script s [] e = absurd cc
stamp-found script s (t ∷ ts) e = by (stamp-found script s ts) (eqb t.script script) refl e
  where
    by : (committed_stamp script ts ≡ Some s → (t : Txn) × Contains ts t × (t.script ≡ script)
        × (t.stamp ≡ s)) → (b : Bool) → eqb t.script script ≡ b
        → cond b (Some t.stamp) (committed_stamp script ts) ≡ Some s → (u : Txn)
        × Contains (t ∷ ts) u × (u.script ≡ script) × (u.stamp ≡ s)
    by rest true is e = (t, contains-head t ts, eqb-true t.script script is, cc)
    by rest false is e = let r = rest e in (r.0, contains-tail t ts r.0 r.1, r.2, r.3)

open-found : (script s : ℕ) (bs : List Begun) → open_stamp script bs ≡ Some s → (b : Begun)
    × Contains bs b × (b.script ≡ script) × (b.stamp ≡ s)
open-found script s [] e = absurd cc
open-found script s (t ∷ ts) e = by (open-found script s ts) (eqb t.script script) refl e
  where
    by : (open_stamp script ts ≡ Some s → (b : Begun) × Contains ts b × (b.script ≡ script)
        × (b.stamp ≡ s)) → (b : Bool) → eqb t.script script ≡ b
        → cond b (Some t.stamp) (open_stamp script ts) ≡ Some s → (u : Begun) × Contains (t ∷ ts) u
        × (u.script ≡ script) × (u.stamp ≡ s)
    by rest true is e = (t, contains-head t ts, eqb-true t.script script is, cc)
    by rest false is e = let r = rest e in (r.0, contains-tail t ts r.0 r.1, r.2, r.3)

-- a committed transaction with this body and stamp
abbrev pub CommittedWith : List Begun → List Commit → ℕ → ℕ → Type 0
CommittedWith bs cs script s = (b : Begun) × Contains bs b × (b.script ≡ script) × (b.stamp ≡ s)
    × ((w : List Write) × (lookup (λ n. eqb n b.stamp) cs ≡ Some w))

pub committed-with : (h : List Entry) (script s : ℕ) → committed_stamp script (committed h) ≡ Some s
    → CommittedWith (begun h) (commits h) script s
committed-with h script s e =
    let t = stamp-found script s (committed_of (commits h) (begun h))
    (ap (committed_stamp script) (sym (committed-is h)) ∙ e) in
    let r = All-contains (λ t. CommittedWith (begun h) (commits h) t.script t.stamp)
    (committed_of (commits h) (begun h)) t.0
    (each-committed (λ t. CommittedWith (begun h) (commits h) t.script t.stamp) (commits h)
    (begun h) (λ b there w f. (b, there, refl, refl, (w, f)))) t.1 in
    (r.0, r.1, r.2 ∙ t.2, r.3 ∙ t.3, r.4)

abbrev pub committed_in_state : BodyState → Option ℕ
committed_in_state Free = None
committed_in_state (Open s) = None
committed_in_state (Committed s) = Some s

abbrev pub open_in_state : BodyState → Option ℕ
open_in_state Free = None
open_in_state (Open s) = Some s
open_in_state (Committed s) = None

module _ (base : OrderBase) (h : List Entry) (sound : SoundAt base h) (script : ℕ) where
  pub state-committed-is : (st : BodyState) → HoldsState h script st
      → committed_stamp script (committed h) ≡ committed_in_state st
  state-committed-is st holds = by st holds (committed_stamp script (committed h)) refl
    where
      by : (st : BodyState) → HoldsState h script st → (o : Option ℕ)
          → committed_stamp script (committed h) ≡ o → o ≡ committed_in_state st
      by Free holds None e = refl
      by Free holds (Some s) e = let c = committed-with h script s e in
          absurd (holds c.0 (c.1, inr c.4) c.2)
      by (Open s) holds None e = refl
      by (Open s) holds (Some t) e =
          let c = committed-with h script t e in
          let o = open-begun h holds.0 holds.1 in
          let same : c.0.stamp ≡ holds.0.stamp =
          sound.live c.0 holds.0 c.1 o.0 (c.2 ∙ sym holds.2) (inr c.4) (inl o.1) in
          let found : lookup (λ n. eqb n holds.0.stamp) (commits h) ≡ Some c.4.0 =
          subst (λ n. lookup (λ m. eqb m n) (commits h) ≡ Some c.4.0) same c.4.1 in
          let none : lookup (λ n. eqb n holds.0.stamp) (commits h) ≡ None =
          uncommitted h holds.0.stamp o.1 in
          absurd cc
      by (Committed s) holds (Some t) e =
          let c = committed-with h script t e in
          let w : (w : List Write) × (lookup (λ n. eqb n holds.0.stamp) (commits h) ≡ Some w) = (
            holds.4.0,
            subst (λ n. lookup (λ m. eqb m n) (commits h) ≡ Some holds.4.0)
                (sym holds.3) holds.4.1,
          ) in
          ap Some (sym c.3 ∙ sound.live c.0 holds.0 c.1 holds.1 (c.2 ∙ sym holds.2) (inr c.4)
          (inr w) ∙ holds.3)
      by (Committed s) holds None e =
          let f : lookup (λ n. eqb n holds.0.stamp) (commits h) ≡ Some holds.4.0 =
          subst (λ n. lookup (λ m. eqb m n) (commits h) ≡ Some holds.4.0)
          (sym holds.3) holds.4.1 in
          absurd (none-committed script (committed h)
          (record { script = holds.0.script; stamp = holds.0.stamp; writes = holds.4.0 }) e
          (subst (λ ts. Contains ts
          (record { script = holds.0.script; stamp = holds.0.stamp; writes = holds.4.0 }))
          (sym (committed-is h))
          (committed_of-contains (commits h) (begun h) holds.0 holds.4.0 holds.1 f)) holds.2)

  pub state-open-is : (st : BodyState) → HoldsState h script st
      → open_stamp script (open_txns h) ≡ open_in_state st
  state-open-is st holds = by st holds (open_stamp script (open_txns h)) refl
    where
      live : (b : Begun) → IsOpen h b → Contains (begun h) b
          × IsLive (commits h) (ended_stamps h) b.stamp
      live b is_open_b = let o = open-begun h b is_open_b in (o.0, inl o.1)

      by : (st : BodyState) → HoldsState h script st → (o : Option ℕ)
          → open_stamp script (open_txns h) ≡ o → o ≡ open_in_state st
      by Free holds None e = refl
      by Free holds (Some s) e = let c = open-found script s (open_txns h) e in
          absurd (holds c.0 (live c.0 c.1) c.2)
      by (Open s) holds None e = absurd (none-open script (open_txns h) holds.0 e holds.1 holds.2)
      by (Open s) holds (Some t) e =
          let c = open-found script t (open_txns h) e in
          let x = live c.0 c.1 in
          let y = live holds.0 holds.1 in
          ap Some (sym c.3 ∙ sound.live c.0 holds.0 x.0 y.0 (c.2 ∙ sym holds.2) x.1 y.1 ∙ holds.3)
      by (Committed s) holds None e = refl
      by (Committed s) holds (Some t) e =
          let c = open-found script t (open_txns h) e in
          let x = live c.0 c.1 in
          let w : (w : List Write) × (lookup (λ n. eqb n holds.0.stamp) (commits h) ≡ Some w) = (
            holds.4.0,
            subst (λ n. lookup (λ m. eqb m n) (commits h) ≡ Some holds.4.0)
                (sym holds.3) holds.4.1,
          ) in
          let same : c.0.stamp ≡ holds.0.stamp =
          sound.live c.0 holds.0 x.0 holds.1 (c.2 ∙ sym holds.2) x.1 (inr w) in
          let found : lookup (λ n. eqb n c.0.stamp) (commits h) ≡ Some w.0 =
          subst (λ n. lookup (λ m. eqb m n) (commits h) ≡ Some w.0) (sym same) w.1 in
          let none : lookup (λ n. eqb n c.0.stamp) (commits h) ≡ None =
          uncommitted h c.0.stamp (open-begun h c.0 c.1).1 in
          absurd cc
