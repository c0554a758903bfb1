-- The log, as the book finds it.
use Rattle.std.proofs.Common.{◌≡◌, ◌<◌, ◌≤◌, ◌+◌, ◌⊎◌, ℕ, zero, suc, Bool, true, false, cond, not}
use Rattle.std.proofs.Common.{◌&&◌, eqb, ltb, true≢false, List, [], ◌∷◌, ◌++◌, length, take, drop}
use Rattle.std.proofs.Common.{map, get_or, Option, Some, None, Less, Equal, Greater, inl, inr, refl}
use Rattle.std.proofs.Common.{ap, sym, subst, ◌∙◌, append_assoc, arith}
use Rattle.std.specs.List.{All, AllZip, Contains, filter, flat_map, list_all, list_any, slice_get}
use Rattle.std.specs.Map.{lookup}
use Rattle.std.specs.Ordering.{nat_cmp, is_gt}
use Rattle.std.specs.Cmp.{nat_cmp_is}
use Rattle.std.specs.BTreeSet.{contains}
use Rattle.std.proofs.lemmas.Bool.{cases_order, or_cases, and_parts, not-true, lt-ltb, le-ltb}
use Rattle.std.proofs.lemmas.Bool.{eqb-true}
use Rattle.std.proofs.lemmas.List.{append-nil, take_all}
use Rattle.std.proofs.lemmas.List.Folds.{list_all_at}
use Rattle.std.proofs.lemmas.List.Elements.{All-head, All-tail, All-weaker, All-contains}
use Rattle.std.proofs.lemmas.List.Elements.{All-contains_itself}
use Rattle.c5_rows.specs.declared.writes.Write.{Write}
use Rattle.c5_rows.specs.declared.writes.Txn.{Txn}
use Rattle.c5_definitions.specs.declared.history.Entry.{Entry}
use Rattle.c5_definitions.specs.declared.history.Event.{Event}
use Rattle.c5_definitions.specs.declared.history.Event.TheVariants.{Begin, Read, Commit as Commits}
use Rattle.c5_definitions.specs.declared.history.Event.TheVariants.{Cancel}
use Rattle.c5_definitions.specs.History.{Begun, begun, commits, ended_stamps, open_txns}
use Rattle.c5_rows.specs.Numbers.{is_among}
use Rattle.c5_definitions.specs.OrderLog.{txn_of, committed, history_log, IsOpen}
use Rattle.c5_order.specs.declared.book.TxnState.{TxnState}
use Rattle.c5_order.specs.declared.book.Book.{Book}
use Rattle.c5_order.specs.Book.{HoldsTxn, HoldsPlace, HoldsBook, is_open, IsClosedCount, base_of}
use Rattle.c5_order.specs.Book.{committed_at, committed_at_entry, logged_one, logged}
use Rattle.c5_order.proofs.Versions.{Commit, contains-head, contains-tail}
use Rattle.c5_order.proofs.Histories.{entry, CountsOn, counts-within, begun-open}
use Rattle.c5_order.proofs.Allowed.{committed_of, committed-is}
use Rattle.c5_order.proofs.Serial.{each-committed}
use Rattle.c5_order.proofs.BookLemmas.{sound-of}
use Rattle.c5_order.proofs.Parts.{stamp-open}
use Rattle.c5_order.proofs.Conflicts.{filter-none}

-- ---- what is noted as committed

one-logged : (h : List Entry) (b : Begun) (t : TxnState) (p : Option ℕ) → HoldsPlace h b.stamp p
    → t.script ≡ b.script → logged_one h t.script p
    ≡ txn_of b (lookup (λ n. eqb n b.stamp) (commits h))
one-logged h b t None holds same = ap (txn_of b) (sym holds)
one-logged h b t (Some place) holds same =
    ap (λ e. committed_at_entry e t.script) holds.2 ∙ ap
    (λ s. record { script = s; stamp = b.stamp; writes = holds.1 } ∷ []) same ∙ ap (txn_of b)
    (sym holds.3)

pub logged-front : (h : List Entry) (bs : List Begun) (ts : List TxnState) (k : ℕ)
    → AllZip (HoldsTxn h) bs ts → logged h (take k ts) ≡ committed_of (commits h) (take k bs)
logged-front h [] [] zero z = refl
logged-front h [] [] (suc k) z = refl
logged-front h [] (t ∷ ts) k z = absurd z
logged-front h (b ∷ bs) [] k z = absurd z
logged-front h (b ∷ bs) (t ∷ ts) zero z = refl
logged-front h (b ∷ bs) (t ∷ ts) (suc k) z =
    ap (λ x. x ++ logged h (take k ts)) (one-logged h b t t.place z.0.place z.0.script) ∙ ap
    (λ x. txn_of b (lookup (λ n. eqb n b.stamp) (commits h)) ++ x) (logged-front h bs ts k z.1)

-- ---- the log

abbrev is_below : List Begun → Txn → Bool
is_below opens txn = list_all (λ b. ltb txn.stamp b.stamp) opens

all-true : (n : ℕ) (opens : List Begun) → All (λ b. n < b.stamp) opens
    → list_all (λ b. ltb n b.stamp) opens ≡ true
all-true n [] all = refl
all-true n (b ∷ bs) all = rw (lt-ltb n b.stamp (All-head (λ b. n < b.stamp) b bs all))
    (all-true n bs (All-tail (λ b. n < b.stamp) b bs all))

not-below : (n : ℕ) (opens : List Begun) (b : Begun) → Contains opens b → b.stamp ≤ n
    → list_all (λ b. ltb n b.stamp) opens ≡ false
not-below n opens b (k, lt, is) le =
    list_all_at (λ b. ltb n b.stamp) opens k b lt
    (ap (λ (x : Begun). ltb n x.stamp) is ∙ le-ltb n b.stamp le)

log-walk : (cs : List Commit) (opens : List Begun) (o : Begun) (first s : ℕ) (bs : List Begun)
    (k : ℕ) → CountsOn first bs → k + 1 + first ≡ s → Contains opens o → o.stamp ≡ s
    → All (λ b. s ≤ b.stamp) opens
    → filter (is_below opens) (committed_of cs bs) ≡ committed_of cs (take k bs)
log-walk cs opens o first s [] zero counts at there is all = refl
log-walk cs opens o first s [] (suc k) counts at there is all = refl
log-walk cs opens o first s (b ∷ bs) zero counts at there is all =
    filter-none (is_below opens) (committed_of cs (b ∷ bs))
    (each-committed (λ t. is_below opens t ≡ false) cs (b ∷ bs) (λ a inside w e.
    not-below a.stamp opens o there
    (omega (arith, is, (counts-within first (b ∷ bs) a counts inside).0))))
log-walk cs opens o first s (b ∷ bs) (suc k) counts at there is all =
    by (log-walk cs opens o b.stamp s bs k counts.1 (omega (arith, counts.0)) there is all)
    (lookup (λ n. eqb n b.stamp) cs)
  where
    by : filter (is_below opens) (committed_of cs bs) ≡ committed_of cs (take k bs)
        → (w : Option (List Write)) → filter (is_below opens) (txn_of b w ++ committed_of cs bs)
        ≡ txn_of b w ++ committed_of cs (take k bs)
    by rest None = rest
    by rest (Some w) =
        rw (all-true b.stamp opens
        (All-weaker (λ x. s ≤ x.stamp) (λ x. b.stamp < x.stamp)
        (λ x le. omega (arith, counts.0)) opens all))
        (ap (λ ts. record { script = b.script; stamp = b.stamp; writes = w } ∷ ts) rest)

filter-all : {X : Type 0} (p : X → Bool) (xs : List X) → ((x : X) → p x ≡ true) → filter p xs ≡ xs
filter-all p [] all = refl
filter-all p (x ∷ xs) all = rw (all x) (ap (λ ys. x ∷ ys) (filter-all p xs all))

zip-lengths : {A B : Type 0} (R : A → B → Type 0) (xs : List A) (ys : List B) → AllZip R xs ys
    → length xs ≡ length ys
zip-lengths R [] [] z = refl
zip-lengths R [] (y ∷ ys) z = absurd z
zip-lengths R (x ∷ xs) [] z = absurd z
zip-lengths R (x ∷ xs) (y ∷ ys) z = ap suc (zip-lengths R xs ys z.1)

log-committed : (book : Book) (n : ℕ) → HoldsBook book → IsClosedCount book n
    → filter (is_below (open_txns book.history.items))
    (committed_of (commits book.history.items) (begun book.history.items))
    ≡ committed_of (commits book.history.items) (take n (begun book.history.items))
log-committed book n holds (inl none) =
    filter-all (is_below (open_txns book.history.items))
    (committed_of (commits book.history.items) (begun book.history.items))
    (λ t. ap (list_all (λ b. ltb t.stamp b.stamp)) none.0)
    ∙ ap (committed_of (commits book.history.items))
    (sym (take_all n (begun book.history.items)
    (omega (
      arith,
      none.1,
      zip-lengths (HoldsTxn book.history.items)
          (begun book.history.items) book.txns.items holds.txns,
    ))))
log-committed book n holds (inr (s, at, o, all)) =
    log-walk (commits book.history.items) (open_txns book.history.items) o.0 book.first s
    (begun book.history.items) n (sound-of book holds).counted at o.1 o.2 all

pub log-is : (book : Book) (n : ℕ) → HoldsBook book → IsClosedCount book n
    → logged book.history.items (take n book.txns.items) ≡ history_log book.history.items
unfolding history_log
log-is book n holds closed =
    logged-front book.history.items (begun book.history.items) book.txns.items n holds.txns
    ∙ sym (log-committed book n holds closed)
    ∙ ap (filter (is_below (open_txns book.history.items))) (sym (committed-is book.history.items))

-- ---- the least open stamp

among-found : (s : ℕ) (bs : List Begun) → is_among s (map (λ x. x.stamp) bs) ≡ true → (b : Begun)
    × Contains bs b × (b.stamp ≡ s)
among-found s [] e = absurd (true≢false (sym e))
among-found s (b ∷ bs) e = elim (or_cases (eqb s b.stamp) (is_among s (map (λ x. x.stamp) bs)) e) [
  | inl here ↦ (b, contains-head b bs, sym (eqb-true s b.stamp here))
  | inr later ↦ let r = among-found s bs later in (r.0, contains-tail b bs r.0 r.1, r.2)
]

pub open-of : (book : Book) (s : ℕ) → HoldsBook book → contains nat_cmp book.open_stamps s ≡ true
    → (b : Begun) × IsOpen book.history.items b × (b.stamp ≡ s)
open-of book s holds has =
    let h = book.history.items in
    let p = and_parts (is_among s (map (λ x. x.stamp) (begun h)))
    (not (is_among s (ended_stamps h))) (sym (holds.opened s) ∙ has) in
    let b = among-found s (begun h) p.0 in (
      b.0,
      begun-open h b.0 b.1
          (ap (λ n. is_among n (ended_stamps h)) b.2 ∙ not-true (is_among s (ended_stamps h)) p.1),
      b.2,
    )

gt-false : (a b : ℕ) → is_gt (nat_cmp a b) ≡ false → a ≤ b
gt-false a b e = elim (cases_order a b) [
  | inl same ↦ omega arith
  | inr apart ↦ elim apart [
    | inl lt ↦ omega arith
    | inr gt ↦ absurd (true≢false (ap is_gt (nat_cmp_is a b Greater gt) ∙ e))
  ]
]

pub least-of : (book : Book) (s : ℕ) → HoldsBook book
    → ((q : ℕ) → contains nat_cmp book.open_stamps q ≡ true → is_gt (nat_cmp s q) ≡ false)
    → All (λ b. s ≤ b.stamp) (open_txns book.history.items)
least-of book s holds least = All-weaker (IsOpen book.history.items) (λ b. s ≤ b.stamp)
    (λ b is_open_b. gt-false s b.stamp
    (least b.stamp (stamp-open book b b.stamp holds is_open_b refl))) (open_txns book.history.items)
    (All-contains_itself (open_txns book.history.items))

empty-open : (book : Book) → HoldsBook book
    → ((q : ℕ) → contains nat_cmp book.open_stamps q ≡ true → ⊥) → (bs : List Begun)
    → bs ≡ open_txns book.history.items → bs ≡ []
empty-open book holds none [] same = refl
empty-open book holds none (b ∷ bs) same =
    absurd (none b.stamp
    (stamp-open book b b.stamp holds (subst (λ xs. Contains xs b) same (contains-head b bs)) refl))

pub none-open-of : (book : Book) → HoldsBook book
    → ((q : ℕ) → contains nat_cmp book.open_stamps q ≡ true → ⊥) → open_txns book.history.items ≡ []
none-open-of book holds none = empty-open book holds none (open_txns book.history.items) refl

pub some-key : {X : Type 0} (p : X → Bool) (xs : List X) → list_any p xs ≡ true → 0 < length xs
some-key p [] e = absurd (true≢false (sym e))
some-key p (x ∷ xs) e = omega arith

pub slice-past : {X : Type 0} (xs : List X) (i : ℕ) → length xs ≤ i → None ≡ slice_get xs i
slice-past [] i le = refl
slice-past (x ∷ xs) zero le = absurd (omega arith)
slice-past (x ∷ xs) (suc i) le = slice-past xs i (omega arith)
