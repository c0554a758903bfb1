-- The row of a version, as the book finds it.
use Rattle.std.proofs.Common.{◌≡◌, ◌<◌, ◌≤◌, ◌+◌, ◌-◌, ◌⊎◌, ℕ, zero, suc, Bool, true, false, cond}
use Rattle.std.proofs.Common.{eqb, List, [], ◌∷◌, ◌++◌, length, get_or, Option, Some, None, IsSome}
use Rattle.std.proofs.Common.{inl, inr, refl, ap, sym, subst, ◌∙◌, arith}
use Rattle.std.specs.FinMap.{get}
use Rattle.std.specs.List.{All, Contains, slice_get}
use Rattle.std.specs.Map.{lookup}
use Rattle.std.specs.BTreeMap.{BTreeMap}
use Rattle.std.proofs.lemmas.Bool.{cases_eq, eq-eqb, ne_eqb, and_parts, ltb-true}
use Rattle.std.proofs.lemmas.List.Elements.{All-contains}
use Rattle.c5_rows.specs.declared.cells.Cell.{Cell}
use Rattle.c5_rows.specs.declared.writes.RowName.{RowName}
use Rattle.c5_rows.specs.declared.writes.Change.{Change}
use Rattle.c5_rows.specs.declared.writes.Write.{Write}
use Rattle.c5_rows.specs.State.{State}
use Rattle.c5_rows.specs.Writes.{change_of}
use Rattle.c5_definitions.specs.declared.history.Entry.{Entry}
use Rattle.c5_definitions.specs.declared.history.Event.TheVariants.{Commit as Commits}
use Rattle.c5_definitions.specs.History.{Begun, begun, commits, ended_stamps, reads, row_left}
use Rattle.c5_definitions.specs.History.{left_by, row_of_version, row_seen, version_at, version_in}
use Rattle.c5_definitions.specs.OrderLog.{IsOpen}
use Rattle.c5_order.specs.declared.marks.VersionKey.{VersionKey}
use Rattle.c5_order.specs.declared.marks.Found.{Found}
use Rattle.c5_order.specs.declared.book.TxnState.{TxnState}
use Rattle.c5_order.specs.declared.book.Book.{Book}
use Rattle.c5_order.specs.Marks.{version_key, noted_mark, IsMarkFoundBefore}
use Rattle.c5_order.specs.Book.{writes_of_stamp, HoldsPlace, HoldsTxn, HoldsBook, base_of, left_at}
use Rattle.c5_order.specs.Book.{row_after}
use Rattle.c5_order.proofs.Versions.{version_in-attained}
use Rattle.c5_order.proofs.Histories.{entry, counts-within, open-begun}
use Rattle.c5_order.proofs.Allowed.{version_at-is}
use Rattle.c5_order.proofs.BookLemmas.{sound-of, PlaceOf, place-of}
use Rattle.c5_order.proofs.Readers.{found-version}

-- the start version, or the stamp of a transaction
abbrev pub IsVersionOf : List Entry → ℕ → Type 0
IsVersionOf h v = (v ≡ 0) ⊎ ((b : Begun) × Contains (begun h) b × (b.stamp ≡ v))

pub record VersionPlace (book : Book) (v : ℕ) : Type 0 where
  pub place : ℕ
  pub is : place + 1 + book.first ≡ v
  pub bound : place < length book.txns.items
  pub holds : (t : TxnState) → t ≡ get_or book.txns.items place t
      → HoldsPlace book.history.items v t.place

pub version-place : (book : Book) (v : ℕ) → HoldsBook book → IsVersionOf book.history.items v
    → (v ≡ 0 → ⊥) → VersionPlace book v
version-place book v holds (inl z) above = absurd (above z)
version-place book v holds (inr (b, there, is)) above =
    let p = place-of book b holds there in
    record {
      place = p.place;
      is = p.is ∙ is;
      bound = p.bound;
      holds = λ t at. subst (λ s. HoldsPlace book.history.items s t.place) is
          (subst (HoldsTxn book.history.items b) (sym at) (p.holds t)).place;
    }

pub row-start : (start : State) (h : List Entry) (name : RowName) (v : ℕ) → v ≡ 0
    → row_of_version start h name v ≡ get start name
unfolding row_of_version
row-start start h name v z = rw z refl

row-commit : (start : State) (h : List Entry) (name : RowName) (v : ℕ) → (v ≡ 0 → ⊥)
    → row_of_version start h name v ≡ left_by (writes_of_stamp v h) name
unfolding row_of_version
row-commit start h name v above = rw (ne_eqb v 0 above) refl

pub row-at : (start : State) (h : List Entry) (name : RowName) (v place : ℕ) → (v ≡ 0 → ⊥)
    → HoldsPlace h v (Some place) → left_at (slice_get h place) name ≡ row_of_version start h name v
row-at start h name v place above holds =
    ap (λ e. left_at e name) holds.2 ∙ same (change_of name holds.1) ∙ ap (λ o. left_by o name)
    (sym holds.3) ∙ sym (row-commit start h name v above)
  where
    same : (o : Option Change) → row_after o
        ≡ elim o [ None ↦ None | Some change ↦ row_left change ]
    same None = refl
    same (Some change) = refl

pub row-nowhere : (start : State) (h : List Entry) (name : RowName) (v : ℕ) → (v ≡ 0 → ⊥)
    → HoldsPlace h v None → None ≡ row_of_version start h name v
row-nowhere start h name v above holds =
    ap (λ o. left_by o name) (sym holds) ∙ sym (row-commit start h name v above)

-- the version that a stamp sees is that of a transaction
pub seen-version : (book : Book) (name : RowName) (s : ℕ) (found : Found) → HoldsBook book
    → IsMarkFoundBefore book.versions name s found → IsVersionOf book.history.items found.wrote
seen-version book name s found holds is =
    let h = book.history.items in
    let v : found.wrote ≡ version_in name s (commits h) =
    found-version (base_of book) h book.versions name s found
    (sound-of book holds) holds.marks is ∙ version_at-is h name s in
    elim (version_in-attained name s (commits h)) [
      | inl z ↦ inl (v ∙ z)
      | inr a ↦
          let b = All-contains (λ c. (b : Begun) × Contains (begun h) b × (b.stamp ≡ c.0))
          (commits h) a.commit (sound-of book holds).from_begun a.there in
          inr (b.0, b.1, b.2 ∙ a.is ∙ sym v)
    ]

-- the row of the version that a stamp sees
pub seen-row : (book : Book) (name : RowName) (s : ℕ) (found : Found) → HoldsBook book
    → IsMarkFoundBefore book.versions name s found
    → row_of_version book.start book.history.items name found.wrote
    ≡ row_seen book.start book.history.items name s
unfolding row_seen
seen-row book name s found holds is =
    ap (row_of_version book.start book.history.items name)
    (found-version (base_of book) book.history.items book.versions name s found
    (sound-of book holds) holds.marks is)

pub stamp-above : (book : Book) (b : Begun) (stamp : ℕ) → HoldsBook book
    → IsOpen book.history.items b → b.stamp ≡ stamp → 1 ≤ stamp
stamp-above book b stamp holds is_open is =
    omega (
      arith,
      is,
      (counts-within book.first (begun book.history.items) b (sound-of book holds).counted
          (open-begun book.history.items b is_open).0).0,
    )

pub found-there : (m : BTreeMap VersionKey ℕ) (name : RowName) (s : ℕ) (found : Found)
    → IsMarkFoundBefore m name s found → 1 ≤ found.wrote
    → IsSome (noted_mark m (version_key name found.wrote))
found-there m name s found is some =
    by (noted_mark m (version_key name found.wrote)) (is.there some).1
  where
    by : (o : Option ℕ) → o ≡ Some found.read_by → IsSome o
    by None e = absurd cc
    by (Some x) e = refl
