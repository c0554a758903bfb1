-- A command without subcommands gives at most one kind of error for words.
use Rattle.std.proofs.Common.{◌≡◌, ◌≤◌, ℕ, Bool, true, false, zero, suc, refl, sym, subst, arith}
use Rattle.std.proofs.Common.{List, [], ◌∷◌, length, Option, Some, None}
use Rattle.std.specs.Prelude.{if◌then◌else◌, slice_get, encode_utf8, drop, nat_lt, min, ◌==◌}
use Rattle.std.specs.Prelude.{◌&&◌, ◌+◌}
use Rattle.std.specs.Option.{option_map_or}
use Rattle.std.specs.Str.{chars}
use Rattle.clap.specs.Lexer.{long_of, short_of}
use Rattle.clap.specs.Facts.{parser_of_value, unwrap_or_range}
use Rattle.clap.specs.Matches.{count_text}
use Rattle.clap.specs.Values.{refused_kind}
use Rattle.clap.specs.ValueTests.{accepts}
use Rattle.clap.specs.Walk.{Held, Row, Rule, Step, Text, Waiting, Walk, action_of}
use Rattle.clap.specs.Walk.{count_of}
use Rattle.clap.specs.Walk.{arg_by_id, arg_by_index, arg_by_long, arg_by_short, attached_value}
use Rattle.clap.specs.Walk.{most_values, reacted, settled, subcommand_met, takes_values}
use Rattle.clap.specs.Walk.{values_or_missing, idle, option, positional, next, trailing, value}
use Rattle.clap.specs.Walk.{subcommand, word_met, walk, walk_from, walked, with_default}
use Rattle.clap.specs.Simple.{Shape}
use Rattle.clap.specs.Kinds.{Kinds, check_kinds, or_else, range_kinds, request_kinds, value_kinds}
use Rattle.clap.specs.Kinds.{values_kinds}
use Rattle.clap.specs.Faults.{action_fault, built_fault, bundle_step_fault}
use Rattle.clap.specs.Faults.{count_fault, default_fault, defaults_fault, flag_word_fault}
use Rattle.clap.specs.Faults.{flags_fault, long_fault, option_fault}
use Rattle.clap.specs.Faults.{other_fault, positional_fault, react_fault, repeat_fault, set_fault}
use Rattle.clap.specs.Faults.{settle_fault, short_fault, step_fault, stray_fault, turn_fault}
use Rattle.clap.specs.Faults.{use_fault, values_fault, walk_fault, word_fault, level_fault}
use Rattle.clap.specs.Faults.{entered_fault}
use Rattle.clap.specs.declared.builder.action.ArgAction.{ArgAction}
use Rattle.clap.specs.declared.builder.action.ArgAction.TheVariants as action
use Rattle.clap.specs.declared.builder.value_parser.ValueParser.{ValueParser}
use Rattle.clap.specs.declared.error.kind.ErrorKind.{ErrorKind}
use Rattle.clap.specs.declared.error.kind.ErrorKind.TheVariants as kind

-- at most one kind
pub record IsOne (kinds : Kinds) : Type 0 where
  pub few : length kinds ≤ 1

none_is_one : IsOne []
none_is_one = record { few = omega arith }

one_is_one : (k : ErrorKind) → IsOne (k ∷ [])
one_is_one k = record { few = omega arith }

one_or_else : (a b : Kinds) → IsOne a → IsOne b → IsOne (or_else a b)
one_or_else [] b p q = q
one_or_else (k ∷ ks) b p q = p

one_if : (t : Bool) (a b : Kinds) → IsOne a → IsOne b → IsOne (if t then a else b)
one_if true a b p q = p
one_if false a b p q = q

one_option : {X : Type 0} (f : X → Kinds) (o : Option X) (other : Kinds) → ((x : X) → IsOne (f x))
    → IsOne other → IsOne (option_map_or f o other)
one_option f None other p q = q
one_option f (Some x) other p q = p x

one_value : (i : Bool) (p : ValueParser) (text : Text) → IsOne (value_kinds i p text)
one_value i p text = one_if (accepts i p text) [] (refused_kind p ∷ []) none_is_one (one_is_one _)

one_values : (i : Bool) (p : ValueParser) (texts : List Text) → IsOne (values_kinds i p texts)
one_values i p [] = none_is_one
one_values i p (v ∷ vs) =
    one_or_else (value_kinds i p v) (values_kinds i p vs) (one_value i p v) (one_values i p vs)

one_range : (least most n : ℕ) → IsOne (range_kinds least most n)
one_range least most n = one_if (nat_lt 0 least && n == 0) _ _ (one_is_one kind.InvalidValue)
    (one_if (least == most) _ _
    (one_if (least == n) _ _ none_is_one (one_is_one kind.WrongNumberOfValues))
    (one_if (nat_lt n least) _ _ (one_is_one kind.TooFewValues)
    (one_if (nat_lt most n) _ _ (one_is_one kind.TooManyValues) none_is_one)))

one_request : (a : ArgAction) → IsOne (request_kinds a)
one_request action.Help = one_is_one _
one_request action.HelpShort = one_is_one _
one_request action.HelpLong = one_is_one _
one_request action.Version = one_is_one _
one_request action.Set = none_is_one
one_request action.Append = none_is_one
one_request action.SetTrue = none_is_one
one_request action.SetFalse = none_is_one
one_request action.Count = none_is_one

one_set : (again : Bool) (a : Rule) (values : List Text) (rows : List Row)
    → IsOne (set_fault again a values rows)
one_set again a values rows = one_or_else (repeat_fault again a.id rows) (values_fault a values)
    (one_if _ _ _ (one_is_one _) none_is_one) (one_values _ _ values)

one_count : (a : Rule) (values : List Text) (rows : List Row) → IsOne (count_fault a values rows)
one_count a [] rows = one_value a.ignore_case (parser_of_value a.parser)
    (count_text (min (count_of a.id rows + 1) 255))
one_count a (v ∷ vs) rows = one_values _ _ (v ∷ vs)

one_action : (act : ArgAction) (again : Bool) (a : Rule) (values : List Text) (rows : List Row)
    → IsOne (action_fault act again a values rows)
one_action action.Set again a values rows = one_set again a values rows
one_action action.SetTrue again a values rows = one_set again a values rows
one_action action.SetFalse again a values rows = one_set again a values rows
one_action action.Append again a values rows = one_values _ _ values
one_action action.Count again a values rows = one_count a values rows
one_action action.Help again a values rows = one_request action.Help
one_action action.HelpShort again a values rows = one_request action.HelpShort
one_action action.HelpLong again a values rows = one_request action.HelpLong
one_action action.Version again a values rows = one_request action.Version

one_use : (again : Bool) (a : Rule) (values : List Text) (rows : List Row)
    → IsOne (use_fault again a values rows)
one_use again a values rows = one_or_else
    (range_kinds (unwrap_or_range a.range).start_inclusive (most_values a) (length values))
    (action_fault (action_of a) again a (values_or_missing a values) rows)
    (one_range (unwrap_or_range a.range).start_inclusive (most_values a) (length values))
    (one_action (action_of a) again a (values_or_missing a values) rows)

one_settle : (c : List Rule) (again : Bool) (h : Held) → IsOne (settle_fault c again h)
one_settle c again h = one_option _ h.pending []
    (λ p. one_option _ (arg_by_id c p.0) [] (λ a. one_use again a p.1 h.rows) none_is_one)
    none_is_one

one_react : (c : List Rule) (again : Bool) (a : Rule) (values : List Text) (h : Held)
    → IsOne (react_fault c again a values h)
one_react c again a values h = one_or_else (settle_fault c again h)
    (use_fault again a values (settled c h).rows) (one_settle c again h)
    (one_use again a values (settled c h).rows)

one_by_option : (c : List Rule) (again : Bool) (a : Rule) (v : Option Text) (h : Held)
    → IsOne (option_fault c again a v h)
one_by_option c again a (Some v) h = one_react c again a (v ∷ []) h
one_by_option c again a None h = one_settle c again h

one_long : (c : List Rule) (again : Bool) (o : Option Rule) (v : Option Text) (h : Held)
    → IsOne (long_fault c again o v h)
one_long c again None v h = one_is_one _
one_long c again (Some a) v h = one_if (takes_values a) _ _ (one_by_option c again a v h)
    (one_if _ _ _ (one_is_one _) (one_react c again a [] h))

one_short : (c : List Rule) (again : Bool) (o : Option Rule) (rest : Text) (h : Held)
    (follow : Held → Kinds) → ((g : Held) → IsOne (follow g))
    → IsOne (short_fault c again o rest h follow)
one_short c again None rest h follow p = one_is_one _
one_short c again (Some a) rest h follow p =
    one_if (takes_values a) _ _ (one_by_option c again a (attached_value rest) h)
    (one_or_else (react_fault c again a [] h) (follow (reacted c a [] h))
    (one_react c again a [] h) (p (reacted c a [] h)))

one_bundle_step : (c : List Rule) (again : Bool) (o : Option ℕ) (flags : Text) (skip : ℕ) (h : Held)
    (follow : Text → ℕ → Held → Kinds) → ((t : Text) (n : ℕ) (g : Held) → IsOne (follow t n g))
    → IsOne (bundle_step_fault c again o flags skip h follow)
one_bundle_step c again None flags skip h follow p = none_is_one
one_bundle_step c again (Some x) flags zero h follow p =
    let rest = drop (length (encode_utf8 x)) flags in
    one_short c again (arg_by_short c x) rest h (follow rest 0) (p rest 0)
one_bundle_step c again (Some x) flags (suc skip) h follow p =
    p (drop (length (encode_utf8 x)) flags) skip h

one_flags : (c : List Rule) (again : Bool) (k : ℕ) (flags : Text) (skip : ℕ) (h : Held)
    → IsOne (flags_fault c again k flags skip h)
unfolding flags_fault
one_flags c again zero flags skip h = none_is_one
one_flags c again (suc k) flags skip h =
    one_bundle_step c again (slice_get (chars flags) 0) flags skip h (flags_fault c again k)
    (one_flags c again k)

one_flag_word : (c : List Rule) (again : Bool) (o : Option (Text × Option Text)) (word : Text)
    (h : Held) → IsOne (flag_word_fault c again o word h)
one_flag_word c again (Some p) word h = one_long c again (arg_by_long c p.0) p.1 h
one_flag_word c again None word h = one_option _ (short_of word) []
    (λ flags. one_flags c again (length flags) flags h.skip (record h { skip = 0 })) none_is_one

no_subcommand : (w : Waiting) (word : Text) → subcommand_met [] w word ≡ None
no_subcommand idle word = refl
no_subcommand (option id) word = refl
no_subcommand positional word = refl

one_other : (s : Shape) (word : Text) (h : Held) → IsOne (other_fault s None word h)
one_other s word h = one_if _ _ _ none_is_one
    (one_flag_word s.rules s.args_override_self (long_of word) word h)

one_word : (s : Shape) (t : Bool) (w : Waiting) (word : Text) (h : Held)
    → IsOne (word_fault s [] t w word h)
one_word s t w word h = one_if t [] _ none_is_one
    (subst (λ o. IsOne (other_fault s o word h)) (sym (no_subcommand w word)) (one_other s word h))

one_stray : (s : Shape) → s.is_leaf ≡ true → IsOne (stray_fault s)
one_stray s leaf = rw leaf (one_is_one _)

one_positional : (c : List Rule) (again : Bool) (a : Rule) (h : Held)
    → IsOne (positional_fault c again a h)
one_positional c again a h = one_if _ _ _ none_is_one (one_settle c again h)

one_step : (s : Shape) → s.is_leaf ≡ true → (position : ℕ) (h : Held) (step : Step)
    → IsOne (step_fault s position h step)
one_step s leaf position h value = one_option _ (arg_by_index s.rules position) (stray_fault s)
    (λ a. one_positional s.rules s.args_override_self a h) (one_stray s leaf)
one_step s leaf position h (next w) = none_is_one
one_step s leaf position h (trailing p) = none_is_one
one_step s leaf position h (subcommand name) = none_is_one

one_turn : (s : Shape) → s.is_leaf ≡ true → (w : Walk) (word : Text)
    → IsOne (turn_fault s [] w word)
one_turn s leaf w word =
    let met = word_met s.rules [] w.is_trailing w.waiting w.position word w.held in
    one_if _ _ _ none_is_one
    (one_or_else (word_fault s [] w.is_trailing w.waiting word w.held)
    (step_fault s w.position met.0 met.1) (one_word s w.is_trailing w.waiting word w.held)
    (one_step s leaf w.position met.0 met.1))

one_walk : (s : Shape) → s.is_leaf ≡ true → (w : Walk) (words : List Text)
    → IsOne (walk_fault s [] w words)
unfolding walk_fault
one_walk s leaf w [] = none_is_one
one_walk s leaf w (word ∷ rest) =
    one_or_else (turn_fault s [] w word) (walk_fault s [] (walked s.rules [] w word) rest)
    (one_turn s leaf w word) (one_walk s leaf (walked s.rules [] w word) rest)

one_default : (rows : List Row) (a : Rule) → IsOne (default_fault rows a)
one_default rows a = one_if _ _ _ none_is_one
    (one_or_else (request_kinds (action_of a)) (values_fault a a.defaults)
    (one_request (action_of a)) (one_values _ _ a.defaults))

one_defaults : (rows : List Row) (rules : List Rule) → IsOne (defaults_fault rows rules)
unfolding defaults_fault
one_defaults rows [] = none_is_one
one_defaults rows (a ∷ rest) =
    one_or_else (default_fault rows a) (defaults_fault (with_default rows a) rest)
    (one_default rows a) (one_defaults (with_default rows a) rest)

one_check : (a b c : Bool) → IsOne (check_kinds a b c)
one_check a b c = one_if a _ _ (one_is_one kind.DisplayHelpOnMissingArgumentOrSubcommand)
    (one_if b _ _ (one_is_one kind.MissingSubcommand)
    (one_if c _ _ (one_is_one kind.MissingRequiredArgument) none_is_one))

one_level : (s : Shape) → s.is_leaf ≡ true → (h : Held) (words : List Text) (met : Bool)
    (below : Kinds) → IsOne below → IsOne (level_fault s [] h words met below)
one_level s leaf h words met below p =
    let end = (walk s.rules [] h words).held in
    one_or_else (walk_fault s [] (walk_from h) words) _ (one_walk s leaf (walk_from h) words)
    (one_or_else below _ p
    (one_or_else (settle_fault s.rules s.args_override_self end) _
    (one_settle s.rules s.args_override_self end)
    (one_or_else (defaults_fault (settled s.rules end).rows s.rules) _
    (one_defaults (settled s.rules end).rows s.rules)
    (one_check _ _ _))))

-- a built command without subcommands gives at most one kind
pub one_built : (s : Shape) → s.is_leaf ≡ true → (h : Held) (words : List Text)
    → IsOne (built_fault (record { top = s; subs = [] }) h words)
one_built s leaf h words =
    let stop = (walk s.rules [] h words).stopped in
    one_level s leaf h words _ (entered_fault (record { top = s; subs = [] }) stop)
    (one_option _ stop [] (λ p. none_is_one) none_is_one)
