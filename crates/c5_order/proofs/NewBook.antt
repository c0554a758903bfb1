-- A new order book.
use Rattle.std.proofs.Common.{◌≡◌, ◌<◌, ◌≤◌, ◌+◌, ℕ, zero, suc, Bool, true, false, cond, List, []}
use Rattle.std.proofs.Common.{◌∷◌, length, map, get_or, replicate, Option, Some, None, inl, inr}
use Rattle.std.proofs.Common.{refl, ap, sym, subst, ◌∙◌, arith}
use Rattle.std.specs.Option.{unwrap_or}
use Rattle.std.specs.List.{AllZip, Contains, list_any}
use Rattle.std.specs.Map.{lookup}
use Rattle.std.specs.Ordering.{nat_cmp}
use Rattle.std.specs.BTreeMap.{BTreeMap, is_at}
use Rattle.std.specs.BTreeSet.{contains}
use Rattle.std.specs.Vec.{vec_len}
use Rattle.c5_definitions.specs.declared.history.Entry.{Entry}
use Rattle.c5_definitions.specs.declared.history.OrderBase.{OrderBase}
use Rattle.c5_definitions.specs.History.{Begun, begun, commits, ended_stamps, last_stamp, reads}
use Rattle.c5_definitions.specs.OrderLog.{IsOrderHistory}
use Rattle.c5_order.specs.declared.marks.VersionKey.{VersionKey}
use Rattle.c5_order.specs.declared.book.TxnState.{TxnState}
use Rattle.c5_order.specs.declared.book.BodyState.{BodyState}
use Rattle.c5_order.specs.declared.book.BodyState.TheVariants.{Free}
use Rattle.c5_order.specs.declared.book.Book.{Book}
use Rattle.c5_order.specs.Marks.{version_key_cmp, version_key, noted_mark}
use Rattle.c5_order.specs.Book.{HoldsTxn, is_open, HoldsState, HoldsMarks, HoldsBook, base_of}
use Rattle.c5_order.proofs.Parts.{Parts}

none-marked : (m : BTreeMap VersionKey ℕ) → m.entries ≡ [] → HoldsMarks [] m
unfolding begun commits reads
none-marked m empty = record {
  written = λ name s some. rw empty refl;
  readers = λ name s. rw empty refl;
}

first-open : (o : ℕ → Bool) → ((q : ℕ) → o q ≡ false) → (q : ℕ) → o q ≡ is_open q []
unfolding begun ended_stamps
first-open o none q = none q

first-parts : (base : OrderBase) (o : ℕ → Bool) (sts : List BodyState) (m : BTreeMap VersionKey ℕ)
    → ((q : ℕ) → o q ≡ false) → length sts ≡ length base.bodies
    → ((n : ℕ) → get_or sts n Free ≡ Free) → m.entries ≡ [] → Parts base base.last [] [] o sts m
unfolding begun commits ended_stamps last_stamp reads IsOrderHistory
first-parts base o sts m none count free empty = record {
  allowed = tt;
  last_is = refl;
  txns = tt;
  opened = first-open o none;
  count = count;
  states = λ n lt. subst (HoldsState [] n) (sym (free n))
      (λ b live same. absurd (omega (arith, live.0.1)));
  marks = none-marked m empty;
}

free-states : (n k : ℕ) → get_or (replicate n Free) k Free ≡ Free
free-states zero k = refl
free-states (suc n) zero = refl
free-states (suc n) (suc k) = free-states n k

long-states : (n : ℕ) → length (replicate n Free) ≡ n
long-states zero = refl
long-states (suc n) = ap suc (long-states n)

pub new-parts : (book : Book) → book.history.items ≡ [] → book.txns.items ≡ []
    → book.open_stamps.keys ≡ [] → book.versions.entries ≡ [] → book.last ≡ book.first
    → book.states.items ≡ replicate (length book.bodies.now) Free
    → Parts (base_of book) book.last book.history.items book.txns.items
    (contains nat_cmp book.open_stamps) book.states.items book.versions
new-parts book history txns opens versions last states =
    subst (λ l. Parts (base_of book) l book.history.items book.txns.items
    (contains nat_cmp book.open_stamps) book.states.items book.versions) (sym last)
    (subst (λ h. Parts (base_of book) book.first h book.txns.items
    (contains nat_cmp book.open_stamps) book.states.items book.versions) (sym history)
    (subst (λ t. Parts (base_of book) book.first [] t
    (contains nat_cmp book.open_stamps) book.states.items book.versions) (sym txns)
    (first-parts (base_of book) (contains nat_cmp book.open_stamps) book.states.items book.versions
    (λ q. ap (list_any (is_at (nat_cmp q))) opens)
    (ap length states ∙ long-states (length book.bodies.now))
    (λ n. ap (λ sts. get_or sts n Free) states ∙ free-states (length book.bodies.now) n) versions)))
