-- The value of an option of the program is a number in the option's range.
use Rattle.std.proofs.Common.{◌≡◌, ◌∙◌, ◌<◌, ℕ, true, false}
use Rattle.std.proofs.Common.{refl, sym, subst, ap, arith, List, [], ◌∷◌, length}
use Rattle.std.proofs.Common.{Option, Some, None, inl, inr, option_map}
use Rattle.std.specs.Prelude.{IfSome, slice_get}
use Rattle.std.specs.List.{All, slice_index_or}
use Rattle.std.specs.Str.{bytes_eq}
use Rattle.std.specs.Borrow.{Bor}
use Rattle.std.proofs.lemmas.List.Elements.{All-get_or}
use Rattle.std.proofs.lemmas.Slice.Eq.{bytes_eq-Decides}
use Rattle.clap.specs.Facts.{args_of, groups_of, EntryPasses}
use Rattle.clap.specs.Facts.{parser_of, parser_of_value}
use Rattle.clap.specs.Built.{IsPlain, IsParsedFrom, IsAuto}
use Rattle.clap.specs.Matches.{matched_of, one_text, found_of}
use Rattle.clap.specs.Values.{Accepts, IsUnsignedIn, read_as, reading_of}
use Rattle.clap.specs.Walk.{Text}
use Rattle.clap.proofs.CallerLemmas.{entry_by_id, same_rules_by_id}
use Rattle.clap.specs.declared.builder.arg.Arg.{Arg}
use Rattle.clap.specs.declared.builder.command.Command.{Command}
use Rattle.clap.specs.declared.builder.command.Command.TheViews.{out-Command}
use Rattle.clap.specs.declared.builder.value_parser.ValueParser.{ValueParser}
use Rattle.clap.specs.declared.builder.value_parser.ValueParser.TheVariants.{Unsigned}
use Rattle.clap.specs.declared.builder.value_parser.Reading.{Reading}
use Rattle.clap.specs.declared.builder.value_parser.Reading.TheVariants as reading
use Rattle.clap.specs.declared.parser.matches.ArgMatches.{ArgMatches}
use Rattle.clap.specs.declared.parser.matches.MatchedArg.{MatchedArg}

first_passes : (how : Reading) (vs : List (Bor Text)) (Q : Text → Type 0) → how ≡ reading.AsWritten
    → All (λ v. Q v.now) vs → IfSome (option_map (λ s. read_as how s.now) (slice_get vs 0)) Q
first_passes how [] Q written all = tt
first_passes how (v ∷ vs) Q written all =
    subst (λ h. Q (read_as h v.now)) (sym written)
    (All-get_or (λ (w : Bor Text). Q w.now) (v ∷ vs) 0 v (omega arith) all)

-- what a caller knows of one of its options: the only argument of its id, which takes a number
pub record Known (old : Command) (id : Text) (most k : ℕ) (d : Arg) : Type 0 where
  pub place : k < length (args_of old)
  pub is_id : (slice_index_or (args_of old) k d).id.now ≡ id
  pub only : (j : ℕ) (e : Arg) → j < length (args_of old)
      → bytes_eq (slice_index_or (args_of old) j e).id.now
      (slice_index_or (args_of old) k d).id.now ≡ true → j ≡ k
  pub name_is : id ≡ [] → ⊥
  pub own : IsAuto (slice_index_or (args_of old) k d) → ⊥
  pub parser : (slice_index_or (args_of old) k d).value_parser ≡ Some (Unsigned 1 most)

-- each argument of the built command with that id takes that number
parser_is : (old : Command) (m : ArgMatches) (p : IsParsedFrom old m) (id w : Text) (most k : ℕ)
    (d : Arg) → Known old id most k d → w ≡ id → (j : ℕ) (x : Arg) → j < length (args_of p.built)
    → slice_index_or (args_of p.built) j x ≡ x → bytes_eq x.id.now w ≡ true
    → parser_of x ≡ Unsigned 1 most
parser_is old m p id w most k d known key j x low at same =
    let to_id : bytes_eq x.id.now (slice_index_or (args_of old) k d).id.now ≡ true =
    subst (λ (t : Text). bytes_eq x.id.now t ≡ true) (key ∙ sym known.is_id) same in
    let rules = same_rules_by_id old m p k d known.place known.only known.own j x low at to_id in
    ap parser_of_value (rules.parser (Unsigned 1 most) known.parser)

-- the value of such an option is a number in its range
pub option_passes : (old : Command) (m : ArgMatches) → IsParsedFrom old m → IsPlain old
    → (out-Command old).has_globals ≡ false → (id : Text) (most k : ℕ) (d : Arg)
    → Known old id most k d → IfSome (one_text (found_of m) id) (IsUnsignedIn 1 most)
option_passes old m p plain globals id most k d known = go (matched_of (found_of m) id) refl
  where
    go : (o : Option MatchedArg) → matched_of (found_of m) id ≡ o
        → IfSome (one_text (found_of m) id) (IsUnsignedIn 1 most)
    go None e = rw e tt
    go (Some x) e =
        let parsed = p.parsed (p.from.globals ∙ globals) in
        let got = entry_by_id (EntryPasses p.built) (found_of m).entries.items id x
        parsed.values e in
        let key : got.0.0.now ≡ id = (bytes_eq-Decides _ _).0 got.2 in
        let no_groups : groups_of p.built ≡ [] = (p.from.plain plain).1 in
        let no_group : got.0.1.is_group ≡ true → ⊥ = λ g. elim (got.3.3 g) [
          | inl empty ↦ known.name_is (sym key ∙ empty)
          | inr lots ↦
              let bad : 0 < 0 = rw no_groups at lots in
              absurd (omega arith)
        ] in
        let passes : All (λ v. IsUnsignedIn 1 most v.now) got.0.1.vals.items = elim got.3.0 [
          | inl g ↦ absurd (no_group g)
          | inr all ↦ λ i v lt.
              let any = all i v lt in
              let is = parser_is old m p id got.0.0.now most k d known key any.0 any.1 any.2 any.3
              any.4.0 in
              subst (λ (q : ValueParser). Accepts any.1.ignore_case q
              (slice_index_or got.0.1.vals.items i v).now) is any.4.1
        ] in
        let written : got.0.1.reading ≡ reading.AsWritten = elim got.3.4 [
          | inl g ↦ absurd (no_group g)
          | inr any ↦ sym any.4.1 ∙ ap reading_of (parser_is old m p id got.0.0.now most k d known
              key any.0 any.1 any.2 any.3 any.4.0)
        ] in
        rw e (subst (λ (y : MatchedArg). IfSome (option_map (λ s. read_as y.reading s.now)
        (slice_get y.vals.items 0)) (IsUnsignedIn 1 most)) got.1
        (first_passes got.0.1.reading got.0.1.vals.items (IsUnsignedIn 1 most) written passes))
