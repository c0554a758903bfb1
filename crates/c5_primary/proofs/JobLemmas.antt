-- What the sessions of the threads give once they are joined.
use Rattle.std.proofs.Common.{◌≡◌, ◌<◌, ◌≤◌, ℕ, zero, suc, true, false, true≢false, List, [], ◌∷◌}
use Rattle.std.proofs.Common.{◌++◌, length, map, Option, Some, Result, Ok, Err, IfOk, refl, ap, sym}
use Rattle.std.proofs.Common.{subst, ◌∙◌, append_assoc, arith}
use Rattle.std.specs.Prelude.{IsOk}
use Rattle.std.specs.List.{All, flat_map}
use Rattle.std.proofs.lemmas.List.Elements.{All-nil, All-cons, All-head, All-tail, All-push}
use Rattle.std.proofs.lemmas.List.Elements.{All-pop}
use Rattle.std.proofs.lemmas.List.Concat.{flat_map-append}
use Rattle.std.proofs.lemmas.List.{append-nil}
use Rattle.c5_rows.specs.declared.memory.NoMemory.{NoMemory}
use Rattle.c5_rows.specs.Numbers.{numbers_from}
use Rattle.c5_definitions.specs.declared.history.Entry.{Entry}
use Rattle.c5_definitions.specs.declared.history.OrderBase.{OrderBase}
use Rattle.c5_order.specs.declared.order.Order.{Order}
use Rattle.turn_slot.specs.declared.slot.TurnSlot.{TurnSlot}
use Rattle.c5_primary.specs.declared.state.SessionState.{SessionState}
use Rattle.c5_primary.specs.declared.threads.Job.{Job}
use Rattle.c5_primary.specs.Slots.{IsSessionOf}
use Rattle.c5_primary.specs.Running.{IsSameCaller}
use Rattle.c5_primary.specs.Jobs.{session_numbers, AreSessionsOf, done_numbers, AreDone, AreDoneOf}

abbrev Done : Type 0
Done = Result SessionState NoMemory

pub if-ok : {T E : Type 0} (r : Result T E) (P Q : T → Type 0) → ((x : T) → P x → Q x) → IfOk r P
    → IfOk r Q
if-ok (Ok x) P Q f p = f x p
if-ok (Err e) P Q f p = tt

-- ---- the last of what the threads gave back

-- it is the session s, and the rest was given back before it
abbrev pub EndsWith : List Done → List Done → Done → SessionState → Type 0
EndsWith done rest next s = (done ≡ rest ++ next ∷ []) × (next ≡ Ok s)

pub session-of : (slot : TurnSlot Order OrderBase Entry) (done rest : List Done) (next : Done)
    (s : SessionState) → EndsWith done rest next s → AreDoneOf slot done → IsSessionOf slot s
session-of slot done rest next s e are =
    subst (λ r. IfOk r (IsSessionOf slot)) e.1
    (All-pop (λ r. IfOk r (IsSessionOf slot)) done rest (Some next) e.0 are).1

pub rest-of : (slot : TurnSlot Order OrderBase Entry) (done rest : List Done) (next : Done)
    (s : SessionState) → EndsWith done rest next s → AreDoneOf slot done → AreDoneOf slot rest
rest-of slot done rest next s e are =
    (All-pop (λ r. IfOk r (IsSessionOf slot)) done rest (Some next) e.0 are).0

pub last-numbers : (done rest : List Done) (next : Done) (s : SessionState)
    → EndsWith done rest next s → flat_map done_numbers done
    ≡ flat_map done_numbers rest ++ s.numbers
last-numbers done rest next s (is, ok) =
    ap (flat_map done_numbers) is
    ∙ flat_map-append done_numbers rest (next ∷ [])
    ∙ ap (λ r. flat_map done_numbers rest ++ (done_numbers r ++ [])) ok
    ∙ ap (λ ns. flat_map done_numbers rest ++ ns) (append-nil s.numbers)

pub more-numbers : (done rest : List Done) (next : Done) (s : SessionState) (ns : List ℕ)
    → EndsWith done rest next s → flat_map done_numbers rest ++ (s.numbers ++ ns)
    ≡ flat_map done_numbers done ++ ns
more-numbers done rest next s ns e =
    sym (append_assoc (flat_map done_numbers rest) s.numbers ns) ∙ ap (λ ms. ms ++ ns)
    (sym (last-numbers done rest next s e))

pub all-ok : (done rest : List Done) (next : Done) (s : SessionState) → EndsWith done rest next s
    → All IsOk rest → All IsOk done
all-ok done rest next s (is, ok) these =
    subst (All IsOk) (sym is) (All-push IsOk rest next these (subst IsOk (sym ok) refl))

-- ---- what the threads gave back, beside their jobs

first-done : (j : Job) (jobs : List Job) (r : Done) (done : List Done)
    → AreDone (j ∷ jobs) (r ∷ done) → IfOk r (IsSameCaller j.session)
first-done j jobs r done d = d.each 0 j r (omega arith)

rest-done : (j : Job) (jobs : List Job) (r : Done) (done : List Done)
    → AreDone (j ∷ jobs) (r ∷ done) → AreDone jobs done
rest-done j jobs r done d = record {
  long = let n = d.long in omega (arith, n);
  each = λ i k e lt. d.each (suc i) k e (omega (arith, lt));
}

same-numbers : (j : Job) (r : Done) → IfOk r (IsSameCaller j.session) → IsOk r
    → done_numbers r ≡ j.session.numbers
same-numbers j (Ok s) same ok = same.numbers
same-numbers j (Err e) same ok = absurd (true≢false (sym ok))

-- the numbers that the sessions of all threads had are those of their jobs
pub joined-numbers : (jobs : List Job) (done : List Done) (ns : List ℕ) → AreDone jobs done
    → All IsOk done → map session_numbers jobs ≡ map (λ n. n ∷ []) ns
    → flat_map done_numbers done ≡ ns
joined-numbers [] [] [] d ok e = refl
joined-numbers [] [] (n ∷ ns) d ok e = absurd cc
joined-numbers [] (r ∷ done) ns d ok e = absurd (let n = d.long in omega (arith, n))
joined-numbers (j ∷ jobs) [] ns d ok e = absurd (let n = d.long in omega (arith, n))
joined-numbers (j ∷ jobs) (r ∷ done) [] d ok e = absurd cc
joined-numbers (j ∷ jobs) (r ∷ done) (n ∷ ns) d ok e =
    let head : j.session.numbers ≡ n ∷ [] = cc in
    let tail : map session_numbers jobs ≡ map (λ n. n ∷ []) ns = cc in
    let rest = joined-numbers jobs done ns (rest-done j jobs r done d)
    (All-tail IsOk r done ok) tail in
    ap (λ xs. xs ++ flat_map done_numbers done)
    (same-numbers j r (first-done j jobs r done d) (All-head IsOk r done ok) ∙ head) ∙ ap
    (λ xs. n ∷ xs) rest

session-done : (slot : TurnSlot Order OrderBase Entry) (j : Job) (r : Done)
    → IsSessionOf slot j.session → IfOk r (IsSameCaller j.session) → IfOk r (IsSessionOf slot)
session-done slot j (Ok s) is same = (same.slot ∙ is.0, same.passes ∙ is.1, same.base ∙ is.2)
session-done slot j (Err e) is same = tt

pub done-of : (slot : TurnSlot Order OrderBase Entry) (jobs : List Job) (done : List Done)
    → AreSessionsOf slot jobs → AreDone jobs done → AreDoneOf slot done
done-of slot [] [] are d = All-nil (λ r. IfOk r (IsSessionOf slot))
done-of slot [] (r ∷ done) are d = absurd (let n = d.long in omega (arith, n))
done-of slot (j ∷ jobs) [] are d = absurd (let n = d.long in omega (arith, n))
done-of slot (j ∷ jobs) (r ∷ done) are d =
    let P : Job → Type 0 = λ job. IsSessionOf slot job.session in
    All-cons (λ r. IfOk r (IsSessionOf slot)) r done
    (session-done slot j r (All-head P j jobs are) (first-done j jobs r done d))
    (done-of slot jobs done (All-tail P j jobs are) (rest-done j jobs r done d))

pub some-done : (jobs : List Job) (done : List Done) (count : ℕ) → 1 ≤ count
    → map session_numbers jobs ≡ map (λ n. n ∷ []) (numbers_from 1 count) → AreDone jobs done
    → 0 < length done
some-done [] done zero low e d = absurd (omega arith)
some-done [] done (suc count) low e d = absurd cc
some-done (j ∷ jobs) done count low e d = let n = d.long in omega (arith, n)
