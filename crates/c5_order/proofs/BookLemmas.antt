-- What an order book notes of its transactions and bodies, after one more entry.
use Rattle.std.proofs.Common.{◌≡◌, ◌<◌, ◌≤◌, ◌+◌, ◌-◌, ◌⊎◌, ℕ, zero, suc, Bool, true, false, cond}
use Rattle.std.proofs.Common.{not, ◌&&◌, ◌||◌, eqb, true≢false, List, [], ◌∷◌, ◌++◌, length, map}
use Rattle.std.proofs.Common.{set, get_or, Option, Some, None, Ordering, Less, Equal, Greater, inl}
use Rattle.std.proofs.Common.{inr, refl, ap, sym, subst, ◌∙◌, arith}
use Rattle.std.specs.List.{All, AllZip, Contains, list_any, slice_get}
use Rattle.std.specs.Map.{lookup}
use Rattle.std.specs.Ordering.{nat_cmp, is_eq}
use Rattle.std.specs.Cmp.{nat_cmp_is, nat_cmp_total, tied_itself}
use Rattle.std.specs.BTreeMap.{is_at}
use Rattle.std.proofs.lemmas.Bool.{cases_Bool, cases_eq, cases_order, or_parts, eqb-true, eqb-false}
use Rattle.std.proofs.lemmas.Bool.{eq-eqb, ne_eqb}
use Rattle.std.proofs.lemmas.List.{append-nil}
use Rattle.std.proofs.lemmas.List.Folds.{list_any-append, list_any_none}
use Rattle.std.proofs.lemmas.List.Elements.{All-weaker, All-contains, Contains-append_left}
use Rattle.std.proofs.lemmas.List.Elements.{Contains-append_right, Contains-push}
use Rattle.std.proofs.lemmas.List.Elements.{Contains-push_cases}
use Rattle.c5_rows.specs.declared.writes.Write.{Write}
use Rattle.c5_definitions.specs.declared.history.Entry.{Entry}
use Rattle.c5_definitions.specs.declared.history.Event.{Event}
use Rattle.c5_definitions.specs.declared.history.Event.TheVariants.{Begin, Read, Commit as Commits}
use Rattle.c5_definitions.specs.declared.history.Event.TheVariants.{Cancel}
use Rattle.c5_definitions.specs.declared.history.OrderBase.{OrderBase}
use Rattle.c5_definitions.specs.History.{Begun, VersionRead, begun, commits, ended_stamps}
use Rattle.c5_definitions.specs.History.{last_begun, last_stamp, reads}
use Rattle.c5_rows.specs.Numbers.{is_among}
use Rattle.c5_definitions.specs.OrderLog.{IsOpen}
use Rattle.c5_order.specs.declared.book.TxnState.{TxnState}
use Rattle.c5_order.specs.declared.book.BodyState.{BodyState}
use Rattle.c5_order.specs.declared.book.BodyState.TheVariants.{Free, Open, Committed}
use Rattle.c5_order.specs.declared.book.Book.{Book}
use Rattle.c5_order.specs.Book.{writes_of_stamp, HoldsPlace, HoldsTxn, is_open, IsLiveTxn}
use Rattle.c5_order.specs.Book.{HoldsState, HoldsBook, base_of}
use Rattle.c5_order.proofs.Versions.{Commit, contains-head, contains-tail, lookup-more, lookup-push}
use Rattle.c5_order.proofs.Histories.{entry, CountsOn, counts-at, counts-last, counts-within}
use Rattle.c5_order.proofs.Histories.{counts-unique, within-default, open-begun, begun-open}
use Rattle.c5_order.proofs.Histories.{uncommitted, IsLive, Sound}
use Rattle.c5_order.proofs.Steps.{among-push}
use Rattle.c5_order.proofs.Allowed.{SoundAt, last_stamp-is, sound-history}

pub sound-of : (book : Book) → HoldsBook book → SoundAt (base_of book) book.history.items
sound-of book holds = sound-history (base_of book) book.history.items holds.allowed

-- ---- the transaction of a stamp

zip-length : {A B : Type 0} (R : A → B → Type 0) (xs : List A) (ys : List B) → AllZip R xs ys
    → length xs ≡ length ys
zip-length R [] [] z = refl
zip-length R [] (y ∷ ys) z = absurd z
zip-length R (x ∷ xs) [] z = absurd z
zip-length R (x ∷ xs) (y ∷ ys) z = ap suc (zip-length R xs ys z.1)

zip-at : {A B : Type 0} (R : A → B → Type 0) (xs : List A) (ys : List B) (k : ℕ) (d : A) (e : B)
    → AllZip R xs ys → k < length xs → R (get_or xs k d) (get_or ys k e)
zip-at R [] ys k d e z lt = absurd (omega arith)
zip-at R (x ∷ xs) [] k d e z lt = absurd z
zip-at R (x ∷ xs) (y ∷ ys) zero d e z lt = z.0
zip-at R (x ∷ xs) (y ∷ ys) (suc k) d e z lt = zip-at R xs ys k d e z.1 (omega arith)

-- an open transaction is noted at the place that its stamp gives
pub record PlaceOf (book : Book) (b : Begun) : Type 0 where
  pub place : ℕ
  pub is : place + 1 + book.first ≡ b.stamp
  pub bound : place < length book.txns.items
  pub holds : (d : TxnState) → HoldsTxn book.history.items b (get_or book.txns.items place d)

pub place-of : (book : Book) (b : Begun) → HoldsBook book → Contains (begun book.history.items) b
    → PlaceOf book b
place-of book b holds (k, lt, is) =
    let at : (get_or (begun book.history.items) k b).stamp ≡ book.first + 1 + k =
    counts-at book.first (begun book.history.items) k b (sound-of book holds).counted lt in
    let same : (get_or (begun book.history.items) k b).stamp ≡ b.stamp = ap (λ x. x.stamp) is in
    let long : length (begun book.history.items) ≡ length book.txns.items =
    zip-length (HoldsTxn book.history.items)
    (begun book.history.items) book.txns.items holds.txns in
    record {
      place = k;
      is = omega arith;
      bound = omega arith;
      holds = λ d. subst (λ x. HoldsTxn book.history.items x (get_or book.txns.items k d)) is
          (zip-at (HoldsTxn book.history.items)
          (begun book.history.items) book.txns.items k b d holds.txns lt);
    }

pub place-is : (book : Book) (stamp : ℕ) → HoldsBook book
    → ((b : Begun) × IsOpen book.history.items b × (b.stamp ≡ stamp)) → (n : ℕ)
    × (n + 1 + book.first ≡ stamp) × (n < length book.txns.items)
place-is book stamp holds (b, is_open, is) =
    let p = place-of book b holds (open-begun book.history.items b is_open).0 in
    (p.place, p.is ∙ is, p.bound)

-- the last stamp is as many above the first as transactions were begun
pub last-count : (book : Book) → HoldsBook book
    → last_stamp book.first book.history.items ≡ book.first + length book.txns.items
last-count book holds =
    last_stamp-is book.first book.history.items
    ∙ counts-last book.first (begun book.history.items) (sound-of book holds).counted
    ∙ ap (λ n. book.first + n)
    (zip-length (HoldsTxn book.history.items)
    (begun book.history.items) book.txns.items holds.txns)

-- the script of an open transaction is a body's number
pub script-known : (book : Book) (b : Begun) → HoldsBook book
    → Contains (begun book.history.items) b → b.script < length book.bodies.now
script-known book b holds there =
    All-contains (λ b. b.script < length book.bodies.now) (begun book.history.items) b
    (sound-of book holds).known there

pub one-open : (book : Book) (a b : Begun) → HoldsBook book → IsOpen book.history.items a
    → IsOpen book.history.items b → a.stamp ≡ b.stamp → a ≡ b
one-open book a b holds x y same =
    counts-unique book.first (begun book.history.items) a b (sound-of book holds).counted
    (open-begun book.history.items a x).0 (open-begun book.history.items b y).0 same

-- ---- places of commits

pub still_there : {X : Type 0} (xs : List X) (x y : X) (i : ℕ) → slice_get xs i ≡ Some y
    → slice_get (xs ++ x ∷ []) i ≡ Some y
still_there [] x y i e = absurd cc
still_there (z ∷ xs) x y zero e = e
still_there (z ∷ xs) x y (suc i) e = still_there xs x y i e

pub at_end : {X : Type 0} (xs : List X) (x : X) → slice_get (xs ++ x ∷ []) (length xs) ≡ Some x
at_end [] x = refl
at_end (z ∷ xs) x = at_end xs x

place-more : (h : List Entry) (e : Entry) (s : ℕ) (p : Option ℕ)
    → writes_of_stamp s (h ++ e ∷ []) ≡ writes_of_stamp s h → HoldsPlace h s p
    → HoldsPlace (h ++ e ∷ []) s p
place-more h e s None same holds = same ∙ holds
place-more h e s (Some place) same holds = (
  holds.0,
  holds.1,
  still_there h e (entry holds.0 s (Commits holds.1)) place holds.2,
  same ∙ holds.3,
)

pub txn-more : (h : List Entry) (e : Entry) (b : Begun) (t : TxnState)
    → writes_of_stamp b.stamp (h ++ e ∷ []) ≡ writes_of_stamp b.stamp h → HoldsTxn h b t
    → HoldsTxn (h ++ e ∷ []) b t
txn-more h e b t same holds =
    record {
      caller = holds.caller;
      script = holds.script;
      place = place-more h e b.stamp t.place same holds.place;
    }

pub txns-more : (h : List Entry) (e : Entry) (bs : List Begun) (ts : List TxnState)
    → commits (h ++ e ∷ []) ≡ commits h → AllZip (HoldsTxn h) bs ts
    → AllZip (HoldsTxn (h ++ e ∷ [])) bs ts
txns-more h e [] [] same z = tt
txns-more h e [] (t ∷ ts) same z = absurd z
txns-more h e (b ∷ bs) [] same z = absurd z
txns-more h e (b ∷ bs) (t ∷ ts) same z = (
  txn-more h e b t (ap (λ cs. lookup (λ n. eqb n b.stamp) cs) same) z.0,
  txns-more h e bs ts same z.1,
)

-- ---- open stamps

nat-at : (a b : ℕ) → is_at (nat_cmp a) b ≡ eqb b a
nat-at a b = elim (cases_order a b) [
  | inl same ↦ ap is_eq (sym (nat_cmp_is a b Equal same)) ∙ sym (eq-eqb b a (sym same))
  | inr apart ↦ elim apart [
    | inl lt ↦ ap is_eq (sym (nat_cmp_is a b Less lt)) ∙ sym (ne_eqb b a (λ e. omega arith))
    | inr gt ↦ ap is_eq (sym (nat_cmp_is a b Greater gt)) ∙ sym (ne_eqb b a (λ e. omega arith))
  ]
]

-- a stamp that ends isn't open any more
pub open-ends : (q s : ℕ) (bs : List ℕ) (es : List ℕ)
    → cond (is_at (nat_cmp s) q) false (is_among q bs && not (is_among q es))
    ≡ (is_among q bs && not (is_among q (es ++ s ∷ [])))
open-ends q s bs es =
    ap (λ t. cond t false (is_among q bs && not (is_among q es))) (nat-at s q)
    ∙ by (eqb q s) (is_among q bs) (is_among q es)
    ∙ ap (λ t. is_among q bs && not t) (sym (list_any-append (λ m. eqb q m) es (s ∷ [])))
  where
    by : (a b c : Bool) → cond a false (b && not c) ≡ (b && not (c || (a || false)))
    by true true true = refl
    by true true false = refl
    by true false c = refl
    by false true true = refl
    by false true false = refl
    by false false c = refl

-- a stamp that begins is open
pub open-begins : (q s : ℕ) (bs : List ℕ) (es : List ℕ) → is_among s es ≡ false
    → cond (is_at (nat_cmp s) q) true (is_among q bs && not (is_among q es))
    ≡ (is_among q (bs ++ s ∷ []) && not (is_among q es))
open-begins q s bs es none =
    ap (λ t. cond t true (is_among q bs && not (is_among q es))) (nat-at s q)
    ∙ by (eqb q s) (is_among q bs) (is_among q es)
    (λ e. subst (λ n. is_among n es ≡ false) (sym (eqb-true q s e)) none)
    ∙ ap (λ t. t && not (is_among q es)) (sym (list_any-append (λ m. eqb q m) bs (s ∷ [])))
  where
    by : (a b c : Bool) → (a ≡ true → c ≡ false)
        → cond a true (b && not c) ≡ ((b || (a || false)) && not c)
    by true true c f = rw (f refl) refl
    by true false c f = rw (f refl) refl
    by false true true f = refl
    by false true false f = refl
    by false false c f = refl

-- ---- what is noted of a stamp's transaction

pub txn-noted : (book : Book) (b : Begun) (stamp place : ℕ) (t : TxnState) → HoldsBook book
    → IsOpen book.history.items b → b.stamp ≡ stamp → place + 1 + book.first ≡ stamp
    → t ≡ get_or book.txns.items place t → HoldsTxn book.history.items b t
txn-noted book b stamp place t holds is_open is at noted =
    let p = place-of book b holds (open-begun book.history.items b is_open).0 in
    let same : p.place ≡ place = omega (arith, p.is) in
    subst (HoldsTxn book.history.items b) (ap (λ k. get_or book.txns.items k t) same ∙ sym noted)
    (p.holds t)
