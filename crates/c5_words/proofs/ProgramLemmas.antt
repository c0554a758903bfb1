-- What the program's command line is, and what that says of its options.
use Rattle.std.proofs.Common.{◌≡◌, ◌∙◌, ◌<◌, ℕ, Bool, true, false, not, zero, suc}
use Rattle.std.proofs.Common.{refl, sym, subst, ap, arith, true≢false, List, [], ◌∷◌, length, map}
use Rattle.std.proofs.Common.{Some, inl, inr, codes}
use Rattle.std.specs.Prelude.{IfSome}
use Rattle.std.specs.List.{slice_index_or}
use Rattle.std.specs.Str.{bytes_eq}
use Rattle.clap.specs.Facts.{args_of}
use Rattle.clap.specs.Built.{IsPlain, IsParsedFrom}
use Rattle.clap.specs.Matches.{one_text, found_of}
use Rattle.clap.specs.Values.{IsUnsignedIn}
use Rattle.clap.specs.Walk.{Rule, Text, nothing_held, rule_of}
use Rattle.clap.specs.Simple.{App, app_of, argument_words, built, is_simple}
use Rattle.clap.specs.Faults.{built_fault, fault_of, is_simple_and_free}
use Rattle.clap.proofs.WalkLemmas.{both}
use Rattle.clap.specs.declared.builder.arg.Arg.{Arg}
use Rattle.clap.specs.declared.builder.command.Command.{Command}
use Rattle.clap.specs.declared.builder.command.Command.TheViews.{out-Command}
use Rattle.clap.specs.declared.builder.value_parser.ValueParser.TheVariants.{Unsigned}
use Rattle.clap.specs.declared.parser.matches.ArgMatches.{ArgMatches}
use Rattle.c5_rows.specs.Sizes.{max_threads, max_workers}
use Rattle.c5_words.specs.Program.{program, command_rule, threads_rule, workers_rule, count_rule}
use Rattle.c5_words.specs.Program.{max_count}
use Rattle.c5_words.proofs.OneKind.{IsOne, one_built}
use Rattle.c5_words.proofs.Passing.{Known, option_passes}

-- ---- the command line

pub program_is_simple : is_simple program ≡ true
unfolding program
program_is_simple = refl

pub program_is_simple_and_free : is_simple_and_free program ≡ true
unfolding program
program_is_simple_and_free = refl

abbrev rules : List Rule
rules = command_rule ∷ threads_rule ∷ workers_rule ∷ count_rule ∷ []

program_rules : program.top.rules ≡ rules
unfolding program
program_rules = refl

program_is_plain : program.top.is_plain ≡ true
unfolding program
program_is_plain = refl

built_program : built program ≡ record { top = (built program).top; subs = [] }
unfolding program
built_program = refl

built_is_leaf : (built program).top.is_leaf ≡ true
unfolding program
built_is_leaf = refl

-- at most one kind of error comes for any words
pub one_fault : (words : List Text) → IsOne (fault_of program words)
one_fault words =
    subst (λ (a : App). IsOne (built_fault a nothing_held (argument_words program words)))
    (sym built_program)
    (one_built (built program).top built_is_leaf nothing_held (argument_words program words))

-- ---- its options

rule_at : (xs : List Arg) (j : ℕ) (d : Arg)
    → slice_index_or (map rule_of xs) j (rule_of d) ≡ rule_of (slice_index_or xs j d)
rule_at [] j d = refl
rule_at (x ∷ xs) zero d = refl
rule_at (x ∷ xs) (suc j) d = rule_at xs j d

length_of_map : (xs : List Arg) → length (map rule_of xs) ≡ length xs
length_of_map [] = refl
length_of_map (x ∷ xs) = ap suc (length_of_map xs)

only_threads : (j : ℕ) (r : Rule) → j < 4
    → bytes_eq (slice_index_or rules j r).id (codes "threads") ≡ true → j ≡ 1
only_threads zero r lt e = absurd (true≢false (sym e))
only_threads (suc zero) r lt e = refl
only_threads (suc (suc zero)) r lt e = absurd (true≢false (sym e))
only_threads (suc (suc (suc zero))) r lt e = absurd (true≢false (sym e))
only_threads (suc (suc (suc (suc j)))) r lt e = absurd (omega arith)

only_workers : (j : ℕ) (r : Rule) → j < 4
    → bytes_eq (slice_index_or rules j r).id (codes "workers") ≡ true → j ≡ 2
only_workers zero r lt e = absurd (true≢false (sym e))
only_workers (suc zero) r lt e = absurd (true≢false (sym e))
only_workers (suc (suc zero)) r lt e = refl
only_workers (suc (suc (suc zero))) r lt e = absurd (true≢false (sym e))
only_workers (suc (suc (suc (suc j)))) r lt e = absurd (omega arith)

only_count : (j : ℕ) (r : Rule) → j < 4
    → bytes_eq (slice_index_or rules j r).id (codes "count") ≡ true → j ≡ 3
only_count zero r lt e = absurd (true≢false (sym e))
only_count (suc zero) r lt e = absurd (true≢false (sym e))
only_count (suc (suc zero)) r lt e = absurd (true≢false (sym e))
only_count (suc (suc (suc zero))) r lt e = refl
only_count (suc (suc (suc (suc j)))) r lt e = absurd (omega arith)

some_arg : (xs : List Arg) → 0 < length xs → Arg
some_arg [] lt = absurd (omega arith)
some_arg (x ∷ xs) lt = x

not_false : (b : Bool) → not b ≡ true → b ≡ false
not_false true e = sym e
not_false false e = refl

-- what the shape of a command says of an option at place k, whose id is the only one of that text
known_option : (old : Command) → map rule_of (args_of old) ≡ rules → (id : Text) (most k c : ℕ)
    (d : Arg) → k < 4 → slice_index_or rules k (rule_of d) ≡ slice_index_or rules k threads_rule
    → (slice_index_or rules k threads_rule).id ≡ id
    → (slice_index_or rules k threads_rule).parser ≡ Some (Unsigned 1 most)
    → slice_index_or id 0 0 ≡ c → 0 < c → (c ≡ 104 → ⊥)
    → ((t : Text) → t ≡ id → t ≡ codes "version" → ⊥)
    → ((j : ℕ) (r : Rule) → j < 4 → bytes_eq (slice_index_or rules j r).id id ≡ true → j ≡ k)
    → Known old id most k d
known_option old same id most k c d low there is_id parser first some not_help not_version only =
    let at : (j : ℕ) (e : Arg) → slice_index_or rules j (rule_of e)
    ≡ rule_of (slice_index_or (args_of old) j e) =
    λ j e. ap (λ (rs : List Rule). slice_index_or rs j (rule_of e)) (sym same)
    ∙ rule_at (args_of old) j e in
    let count : length (args_of old) ≡ 4 =
    sym (length_of_map (args_of old)) ∙ ap (λ (rs : List Rule). length rs) same in
    let here : (slice_index_or (args_of old) k d).id.now ≡ id =
    ap (λ (r : Rule). r.id) (sym (at k d) ∙ there) ∙ is_id in
    record {
      place = subst (λ n. k < n) (sym count) low;
      is_id = here;
      only = λ j e lt same_id. only j (rule_of e) (subst (λ n. j < n) count lt)
          (ap (λ (t : Text). bytes_eq t id) (ap (λ (r : Rule). r.id) (at j e))
          ∙ (ap (λ (t : Text). bytes_eq (slice_index_or (args_of old) j e).id.now t) (sym here)
          ∙ same_id));
      name_is = λ e.
          let bad : 0 ≡ c = ap (λ (t : Text). slice_index_or t 0 0) (sym e) ∙ first in
          omega arith;
      own = λ auto. elim auto [
        | inl h ↦ not_help
            (sym (ap (λ (t : Text). slice_index_or t 0 0) (sym h ∙ here) ∙ first))
        | inr h ↦ not_version (slice_index_or (args_of old) k d).id.now here h
      ];
      parser = ap (λ (r : Rule). r.parser) (sym (at k d) ∙ there) ∙ parser;
    }

globals_of : (old : Command) → app_of old ≡ program → (out-Command old).has_globals ≡ false
globals_of old is =
    let plain = ap (λ (a : App). a.top.is_plain) is ∙ program_is_plain in
    not_false _ (both _ _ (both _ _ (both _ _ plain).1).1).0

rules_are : (old : Command) → app_of old ≡ program → map rule_of (args_of old) ≡ rules
rules_are old is = ap (λ (a : App). a.top.rules) is ∙ program_rules

first_arg : (old : Command) → map rule_of (args_of old) ≡ rules → Arg
first_arg old same =
    let count : length (args_of old) ≡ 4 =
    sym (length_of_map (args_of old)) ∙ ap (λ (rs : List Rule). length rs) same in
    some_arg (args_of old) (subst (λ n. 0 < n) (sym count) (omega arith))

pub threads_pass : (old : Command) (m : ArgMatches) → IsParsedFrom old m → IsPlain old
    → app_of old ≡ program
    → IfSome (one_text (found_of m) (codes "threads")) (IsUnsignedIn 1 max_threads)
threads_pass old m p plain is =
    let same = rules_are old is in
    option_passes old m p plain (globals_of old is) (codes "threads") max_threads 1
    (first_arg old same)
    (known_option old same (codes "threads") max_threads 1 116 (first_arg old same) (omega arith)
    refl refl refl refl (omega arith) (λ e. omega arith)
    (λ t e v. let bad : 116 ≡ 118 = ap (λ (u : Text). slice_index_or u 0 0) (sym e ∙ v) in
    omega arith)
    only_threads)

pub workers_pass : (old : Command) (m : ArgMatches) → IsParsedFrom old m → IsPlain old
    → app_of old ≡ program
    → IfSome (one_text (found_of m) (codes "workers")) (IsUnsignedIn 1 max_workers)
workers_pass old m p plain is =
    let same = rules_are old is in
    option_passes old m p plain (globals_of old is) (codes "workers") max_workers 2
    (first_arg old same)
    (known_option old same (codes "workers") max_workers 2 119 (first_arg old same) (omega arith)
    refl refl refl refl (omega arith) (λ e. omega arith)
    (λ t e v. let bad : 119 ≡ 118 = ap (λ (u : Text). slice_index_or u 0 0) (sym e ∙ v) in
    omega arith)
    only_workers)

pub count_pass : (old : Command) (m : ArgMatches) → IsParsedFrom old m → IsPlain old
    → app_of old ≡ program
    → IfSome (one_text (found_of m) (codes "count")) (IsUnsignedIn 1 max_count)
count_pass old m p plain is =
    let same = rules_are old is in
    option_passes old m p plain (globals_of old is) (codes "count") max_count 3
    (first_arg old same)
    (known_option old same (codes "count") max_count 3 99 (first_arg old same) (omega arith)
    refl refl refl refl (omega arith) (λ e. omega arith)
    (λ t e v. let bad : 99 ≡ 118 = ap (λ (u : Text). slice_index_or u 0 0) (sym e ∙ v) in
    omega arith)
    only_count)
