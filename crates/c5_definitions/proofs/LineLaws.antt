-- The words that are read from a line are those that are written there.
use Rattle.std.proofs.Common.{◌≡◌, ◌∙◌, ◌≤◌, ◌&&◌, ℕ, Bool, true, false, eqb, not, List, [], ◌∷◌}
use Rattle.std.proofs.Common.{◌++◌, length, Result, Ok, Err, refl, ap, sym, subst, append_assoc}
use Rattle.std.proofs.Common.{inl, inr, ◌⊎◌, arith, if◌then◌else◌}
use Rattle.std.specs.List.{list_all, onto_first, AllByRecursion}
use Rattle.std.proofs.lemmas.Grind.{common_steps}
use Rattle.std.proofs.lemmas.List.{append-nil}
use Rattle.std.proofs.lemmas.List.Folds.{list_all-append}
use Rattle.c5_rows.specs.Bytes.{is_key_byte, is_text_byte}
use Rattle.c5_definitions.specs.declared.script.ScriptKind.{ScriptKind}
use Rattle.c5_definitions.specs.declared.script.ScriptKind.TheVariants as kinds
use Rattle.c5_definitions.specs.Words.{Word, bare, quoted}
use Rattle.c5_definitions.specs.Lines.{lines_of, LinePart, between, in_bare, in_quoted}
use Rattle.c5_definitions.specs.Lines.{after_quoted, is_word_end, is_line_byte, with_word}
use Rattle.c5_definitions.specs.Lines.{words_at, words_of}
use Rattle.c5_definitions.specs.LineGrammar.{IsLine, ended_lines, IsBlank, IsWord, spelled_word}
use Rattle.c5_definitions.specs.LineGrammar.{IsLineOf}

-- ---- bytes

both : (a b : Bool) → (a && b) ≡ true → (a ≡ true) × (b ≡ true)
both true b e = (refl, e)
both false b e = absurd cc

and_true : (a b : Bool) → a ≡ true → b ≡ true → (a && b) ≡ true
and_true a b e f = rw (e, f) refl

-- what a byte of a line may be
data Kind (byte : ℕ) : Type 0 where
  blank : (byte ≡ 32) → Kind byte
  quote : (byte ≡ 34) → Kind byte
  other : (is_key_byte byte ≡ true) → Kind byte

kind_of : (byte : ℕ) → is_line_byte byte ≡ true → Kind byte
kind_of byte allowed =
    elim (eqb byte 32) as (λ v. eqb byte 32 ≡ v → Kind byte) [
      | true ↦ λ e. blank (grind (arith, common_steps, e))
      | false ↦ λ e. elim (eqb byte 34) as (λ v. eqb byte 34 ≡ v → Kind byte) [
        | true ↦ λ f. quote (grind (arith, common_steps, f))
        | false ↦ λ f. other (grind (arith, common_steps, e, f, allowed))
      ] refl
    ] refl

key-text : (byte : ℕ) → is_key_byte byte ≡ true → is_text_byte byte ≡ true
key-text byte e = grind (arith, common_steps, e)

text-line : (byte : ℕ) → is_text_byte byte ≡ true → is_line_byte byte ≡ true
text-line byte e = (both (is_line_byte byte) (not (eqb byte 34)) e).0

-- ---- one byte

at_blank : (byte : ℕ) (bytes : List ℕ) → byte ≡ 32
    → words_at between (byte ∷ bytes) ≡ words_at between bytes
unfolding words_at
at_blank byte bytes e = rw e refl

at_quote : (byte : ℕ) (bytes : List ℕ) → byte ≡ 34
    → words_at between (byte ∷ bytes) ≡ words_at (in_quoted []) bytes
unfolding words_at
at_quote byte bytes e = rw e refl

at_other : (byte : ℕ) (bytes : List ℕ) → is_key_byte byte ≡ true
    → words_at between (byte ∷ bytes) ≡ words_at (in_bare (byte ∷ [])) bytes
unfolding words_at
at_other byte bytes e = grind (arith, common_steps, e)

bare-blank : (come : List ℕ) (byte : ℕ) (bytes : List ℕ) → byte ≡ 32
    → words_at (in_bare come) (byte ∷ bytes) ≡ with_word (bare come) (words_at between bytes)
unfolding words_at
bare-blank come byte bytes e = rw e refl

bare-quote : (come : List ℕ) (byte : ℕ) (bytes : List ℕ) → byte ≡ 34
    → words_at (in_bare come) (byte ∷ bytes) ≡ Err kinds.Quote
unfolding words_at
bare-quote come byte bytes e = rw e refl

bare-other : (come : List ℕ) (byte : ℕ) (bytes : List ℕ) → is_key_byte byte ≡ true
    → words_at (in_bare come) (byte ∷ bytes) ≡ words_at (in_bare (come ++ byte ∷ [])) bytes
unfolding words_at
bare-other come byte bytes e = grind (arith, common_steps, e)

text-quote : (come : List ℕ) (byte : ℕ) (bytes : List ℕ) → byte ≡ 34
    → words_at (in_quoted come) (byte ∷ bytes)
    ≡ with_word (quoted come) (words_at after_quoted bytes)
unfolding words_at
text-quote come byte bytes e = rw e refl

text-other : (come : List ℕ) (byte : ℕ) (bytes : List ℕ) → is_text_byte byte ≡ true
    → words_at (in_quoted come) (byte ∷ bytes) ≡ words_at (in_quoted (come ++ byte ∷ [])) bytes
unfolding words_at
text-other come byte bytes e = grind (arith, common_steps, e)

blank-text : (byte : ℕ) → byte ≡ 32 → is_text_byte byte ≡ true
blank-text byte e = rw e refl

after-blank : (byte : ℕ) (bytes : List ℕ) → byte ≡ 32
    → words_at after_quoted (byte ∷ bytes) ≡ words_at between bytes
unfolding words_at
after-blank byte bytes e = rw e refl

-- ---- what is written is read

read-blanks : (blanks rest : List ℕ) → IsBlank blanks
    → words_at between (blanks ++ rest) ≡ words_at between rest
read-blanks [] rest e = refl
read-blanks (byte ∷ blanks) rest e =
    let p = both (eqb byte 32) (list_all (λ b. eqb b 32) blanks) e in
    let is : byte ≡ 32 = grind (arith, common_steps, p.0) in
    at_blank byte (blanks ++ rest) is ∙ read-blanks blanks rest p.1

read-bare : (come bytes rest : List ℕ) → list_all is_key_byte bytes ≡ true
    → words_at (in_bare come) (bytes ++ rest) ≡ words_at (in_bare (come ++ bytes)) rest
read-bare come [] rest e = rw append-nil refl
read-bare come (byte ∷ bytes) rest e =
    let p = both (is_key_byte byte) (list_all is_key_byte bytes) e in
    bare-other come byte (bytes ++ rest) p.0 ∙ read-bare (come ++ byte ∷ []) bytes rest p.1 ∙ ap
    (λ (w : List ℕ). words_at (in_bare w) rest) (append_assoc come (byte ∷ []) bytes)

read-bare_end : (word rest : List ℕ) → is_word_end rest ≡ true
    → words_at (in_bare word) rest ≡ with_word (bare word) (words_at between rest)
unfolding words_at
read-bare_end word [] e = refl
read-bare_end word (byte ∷ rest) e = grind (arith, common_steps, e)

read-text : (come text rest : List ℕ) → list_all is_text_byte text ≡ true
    → words_at (in_quoted come) (text ++ 34 ∷ rest)
    ≡ with_word (quoted (come ++ text)) (words_at after_quoted rest)
read-text come [] rest e = rw append-nil (text-quote come 34 rest refl)
read-text come (byte ∷ text) rest e =
    let p = both (is_text_byte byte) (list_all is_text_byte text) e in
    text-other come byte (text ++ 34 ∷ rest) p.0 ∙ read-text (come ++ byte ∷ []) text rest p.1 ∙ ap
    (λ (w : List ℕ). with_word (quoted w) (words_at after_quoted rest))
    (append_assoc come (byte ∷ []) text)

read-text_end : (rest : List ℕ) → is_word_end rest ≡ true
    → words_at after_quoted rest ≡ words_at between rest
unfolding words_at
read-text_end [] e = refl
read-text_end (byte ∷ rest) e = grind (arith, common_steps, e)

read-word : (word : Word) (rest : List ℕ) → IsWord word → is_word_end rest ≡ true
    → words_at between (spelled_word word ++ rest) ≡ with_word word (words_at between rest)
read-word (bare []) rest is ends = absurd (omega (arith, is.0))
read-word (bare (byte ∷ bytes)) rest is ends =
    let p = both (is_key_byte byte) (list_all is_key_byte bytes) is.1 in
    at_other byte (bytes ++ rest) p.0 ∙ read-bare (byte ∷ []) bytes rest p.1 ∙ read-bare_end
    (byte ∷ bytes) rest ends
read-word (quoted text) rest is ends =
    at_quote 34 ((text ++ 34 ∷ []) ++ rest) refl ∙ ap (words_at (in_quoted []))
    (append_assoc text (34 ∷ []) rest) ∙ read-text [] text rest is
    ∙ ap (with_word (quoted text)) (read-text_end rest ends)

read-all : (words : List Word) (line : List ℕ) → IsLineOf words line
    → words_at between line ≡ Ok words
unfolding IsLineOf words_at
read-all [] line is = ap (words_at between) (sym (append-nil line)) ∙ read-blanks line [] is
read-all (word ∷ words) line (blanks, rest, are_blank, is, ends, spelled, others) =
    ap (words_at between) spelled ∙ read-blanks blanks
    (spelled_word word ++ rest) are_blank ∙ read-word word rest is ends ∙ ap (with_word word)
    (read-all words rest others)

-- each byte of such a line is allowed

all-weaken : (p q : ℕ → Bool) → ((byte : ℕ) → p byte ≡ true → q byte ≡ true) → (bytes : List ℕ)
    → list_all p bytes ≡ true → list_all q bytes ≡ true
all-weaken p q weaker [] e = refl
all-weaken p q weaker (byte ∷ bytes) e =
    let h = both (p byte) (list_all p bytes) e in
    and_true (q byte) (list_all q bytes) (weaker byte h.0) (all-weaken p q weaker bytes h.1)

all-append : (p : ℕ → Bool) (xs ys : List ℕ) → list_all p xs ≡ true → list_all p ys ≡ true
    → list_all p (xs ++ ys) ≡ true
all-append p xs ys e f = list_all-append p xs ys ∙ and_true (list_all p xs) (list_all p ys) e f

allowed-blanks : (bytes : List ℕ) → IsBlank bytes → list_all is_line_byte bytes ≡ true
allowed-blanks = all-weaken (λ byte. eqb byte 32) is_line_byte
    (λ byte e. grind (arith, common_steps, e))

allowed-word : (word : Word) → IsWord word → list_all is_line_byte (spelled_word word) ≡ true
allowed-word (bare bytes) is = all-weaken is_key_byte is_line_byte
    (λ byte e. text-line byte (key-text byte e)) bytes is.1
allowed-word (quoted text) is =
    all-append is_line_byte text (34 ∷ [])
    (all-weaken is_text_byte is_line_byte text-line text is) refl

allowed-all : (words : List Word) (line : List ℕ) → IsLineOf words line
    → list_all is_line_byte line ≡ true
unfolding IsLineOf
allowed-all [] line is = allowed-blanks line is
allowed-all (word ∷ words) line (blanks, rest, are_blank, is, ends, spelled, others) =
    ap (list_all is_line_byte) spelled
    ∙ all-append is_line_byte blanks (spelled_word word ++ rest) (allowed-blanks blanks are_blank)
    (all-append is_line_byte (spelled_word word) rest (allowed-word word is)
    (allowed-all words rest others))

pub written-read : (words : List Word) (line : List ℕ) → IsLineOf words line
    → words_of line ≡ Ok words
unfolding words_of
written-read words line is = rw (allowed-all words line is) (read-all words line is)

-- ---- what is read was written

-- the words from here on, inside a bare word or a text of which these bytes have come
record BareGoesOn (come : List ℕ) (words : List Word) (line : List ℕ) : Type 0 where
  more : List ℕ
  rest : List ℕ
  others : List Word
  words_are : words ≡ bare (come ++ more) ∷ others
  line_is : line ≡ more ++ rest
  key : list_all is_key_byte more ≡ true
  ends : is_word_end rest ≡ true
  other_words : IsLineOf others rest

record TextGoesOn (come : List ℕ) (words : List Word) (line : List ℕ) : Type 0 where
  more : List ℕ
  rest : List ℕ
  others : List Word
  words_are : words ≡ quoted (come ++ more) ∷ others
  line_is : line ≡ more ++ 34 ∷ rest
  text : list_all is_text_byte more ≡ true
  ends : is_word_end rest ≡ true
  other_words : IsLineOf others rest

abbrev GoesOn : LinePart → List Word → List ℕ → Type 0
GoesOn between words line = IsLineOf words line
GoesOn (in_bare come) words line = BareGoesOn come words line
GoesOn (in_quoted come) words line = TextGoesOn come words line
GoesOn after_quoted words line = (is_word_end line ≡ true) × IsLineOf words line

no_words : (words : List Word) → [] ≡ words → IsLineOf words []
unfolding IsLineOf
no_words [] e = refl
no_words (word ∷ words) e = absurd cc

one_blank_more : (byte : ℕ) (words : List Word) (line : List ℕ) → byte ≡ 32 → IsLineOf words line
    → IsLineOf words (byte ∷ line)
unfolding IsLineOf
one_blank_more byte [] line e is =
    and_true (eqb byte 32) (list_all (λ b. eqb b 32) line) (rw e refl) is
one_blank_more byte (word ∷ words) line e (blanks, rest, are_blank, is, ends, spelled, others) = (
  byte ∷ blanks,
  rest,
  and_true (eqb byte 32) (list_all (λ b. eqb b 32) blanks)
      (rw e refl) are_blank,
  is,
  ends,
  ap (λ (l : List ℕ). byte ∷ l) spelled,
  others,
)

first_word : (word : Word) (words : Result (List Word) ScriptKind) (all : List Word)
    → with_word word words ≡ Ok all → (others : List Word) × (words ≡ Ok others)
    × (all ≡ word ∷ others)
first_word word (Ok others) all e = (others, refl, cc)
first_word word (Err kind) all e = absurd cc

after-quote : (byte : ℕ) (bytes : List ℕ) → byte ≡ 34
    → words_at after_quoted (byte ∷ bytes) ≡ Err kinds.Quote
unfolding words_at
after-quote byte bytes e = rw e refl

after-other : (byte : ℕ) (bytes : List ℕ) → is_key_byte byte ≡ true
    → words_at after_quoted (byte ∷ bytes) ≡ Err kinds.Quote
unfolding words_at
after-other byte bytes e = grind (arith, common_steps, e)

start_bare : (byte : ℕ) (bytes : List ℕ) (words : List Word) → is_key_byte byte ≡ true
    → BareGoesOn (byte ∷ []) words bytes → IsLineOf words (byte ∷ bytes)
unfolding IsLineOf
start_bare byte bytes words key on =
    let some : 1 ≤ length (byte ∷ on.more) = omega arith in
    subst (λ (ws : List Word). IsLineOf ws (byte ∷ bytes)) (sym on.words_are) (
      [],
      on.rest,
      refl,
      (some, and_true (is_key_byte byte) (list_all is_key_byte on.more) key on.key),
      on.ends,
      ap (λ (l : List ℕ). byte ∷ l) on.line_is,
      on.other_words,
    )

start_text : (byte : ℕ) (bytes : List ℕ) (words : List Word) → byte ≡ 34 → TextGoesOn [] words bytes
    → IsLineOf words (byte ∷ bytes)
unfolding IsLineOf
start_text byte bytes words is on =
    subst (λ (ws : List Word). IsLineOf ws (byte ∷ bytes)) (sym on.words_are) (
      [],
      on.rest,
      refl,
      on.text,
      on.ends,
      ap (λ (b : ℕ). b ∷ bytes) is ∙ ap (λ (l : List ℕ). 34 ∷ l)
          (on.line_is ∙ sym (append_assoc on.more (34 ∷ []) on.rest)),
      on.other_words,
    )

bare_more : (come : List ℕ) (byte : ℕ) (bytes : List ℕ) (words : List Word)
    → is_key_byte byte ≡ true → BareGoesOn (come ++ byte ∷ []) words bytes
    → BareGoesOn come words (byte ∷ bytes)
bare_more come byte bytes words key on = record {
  more = byte ∷ on.more;
  rest = on.rest;
  others = on.others;
  words_are = on.words_are ∙ ap (λ (w : List ℕ). bare w ∷ on.others)
      (append_assoc come (byte ∷ []) on.more);
  line_is = ap (λ (l : List ℕ). byte ∷ l) on.line_is;
  key = and_true (is_key_byte byte) (list_all is_key_byte on.more) key on.key;
  ends = on.ends;
  other_words = on.other_words;
}

text_more : (come : List ℕ) (byte : ℕ) (bytes : List ℕ) (words : List Word)
    → is_text_byte byte ≡ true → TextGoesOn (come ++ byte ∷ []) words bytes
    → TextGoesOn come words (byte ∷ bytes)
text_more come byte bytes words text on = record {
  more = byte ∷ on.more;
  rest = on.rest;
  others = on.others;
  words_are = on.words_are ∙ ap (λ (w : List ℕ). quoted w ∷ on.others)
      (append_assoc come (byte ∷ []) on.more);
  line_is = ap (λ (l : List ℕ). byte ∷ l) on.line_is;
  text = and_true (is_text_byte byte) (list_all is_text_byte on.more) text on.text;
  ends = on.ends;
  other_words = on.other_words;
}

bare_ends : (come : List ℕ) (words : List Word) → words_at (in_bare come) [] ≡ Ok words
    → BareGoesOn come words []
unfolding words_at IsLineOf
bare_ends come words e =
    let are : words ≡ bare come ∷ [] = cc in
    record {
      more = [];
      rest = [];
      others = [];
      words_are = are ∙ ap (λ (w : List ℕ). bare w ∷ []) (sym (append-nil come));
      line_is = refl;
      key = refl;
      ends = refl;
      other_words = refl;
    }

no_more_words : (place : LinePart) (words : List Word) → words_at place [] ≡ Ok words
    → place ≡ between ⊎ place ≡ after_quoted → IsLineOf words []
unfolding words_at
no_more_words between words e p = no_words words cc
no_more_words (in_bare come) words e p = absurd (elim p [ inl f ↦ cc | inr f ↦ cc ])
no_more_words (in_quoted come) words e p = absurd (elim p [ inl f ↦ cc | inr f ↦ cc ])
no_more_words after_quoted words e p = no_words words cc

text_stays_open : (come : List ℕ) (words : List Word) → words_at (in_quoted come) [] ≡ Ok words → ⊥
unfolding words_at
text_stays_open come words e = cc

read : (line : List ℕ) (place : LinePart) (words : List Word) → list_all is_line_byte line ≡ true
    → words_at place line ≡ Ok words → GoesOn place words line
read [] between words allowed e = no_more_words between words e (inl refl)
read [] (in_bare come) words allowed e = bare_ends come words e
read [] (in_quoted come) words allowed e = absurd (text_stays_open come words e)
read [] after_quoted words allowed e = (refl, no_more_words after_quoted words e (inr refl))
read (byte ∷ bytes) between words allowed e =
    let a = both (is_line_byte byte) (list_all is_line_byte bytes) allowed in
    elim (kind_of byte a.0) [
      | blank is ↦ one_blank_more byte words bytes is
          (read bytes between words a.1 (sym (at_blank byte bytes is) ∙ e))
      | quote is ↦ start_text byte bytes words is
          (read bytes (in_quoted []) words a.1 (sym (at_quote byte bytes is) ∙ e))
      | other is ↦ start_bare byte bytes words is
          (read bytes (in_bare (byte ∷ [])) words a.1 (sym (at_other byte bytes is) ∙ e))
    ]
read (byte ∷ bytes) (in_bare come) words allowed e =
    let a = both (is_line_byte byte) (list_all is_line_byte bytes) allowed in
    elim (kind_of byte a.0) [
      | blank is ↦
          let f = first_word (bare come) (words_at between bytes) words
          (sym (bare-blank come byte bytes is) ∙ e) in
          record {
            more = [];
            rest = byte ∷ bytes;
            others = f.0;
            words_are = f.2 ∙ ap (λ (w : List ℕ). bare w ∷ f.0) (sym (append-nil come));
            line_is = refl;
            key = refl;
            ends = rw is refl;
            other_words = one_blank_more byte f.0 bytes is (read bytes between f.0 a.1 f.1);
          }
      | quote is ↦ let clash = sym (bare-quote come byte bytes is) ∙ e in absurd cc
      | other is ↦ bare_more come byte bytes words is
          (read bytes (in_bare (come ++ byte ∷ [])) words a.1
          (sym (bare-other come byte bytes is) ∙ e))
    ]
read (byte ∷ bytes) (in_quoted come) words allowed e =
    let a = both (is_line_byte byte) (list_all is_line_byte bytes) allowed in
    elim (kind_of byte a.0) [
      | blank is ↦
          let t = blank-text byte is in
          text_more come byte bytes words t
          (read bytes (in_quoted (come ++ byte ∷ [])) words a.1
          (sym (text-other come byte bytes t) ∙ e))
      | quote is ↦
          let f = first_word (quoted come) (words_at after_quoted bytes) words
          (sym (text-quote come byte bytes is) ∙ e) in
          let g = read bytes after_quoted f.0 a.1 f.1 in
          record {
            more = [];
            rest = bytes;
            others = f.0;
            words_are = f.2 ∙ ap (λ (w : List ℕ). quoted w ∷ f.0) (sym (append-nil come));
            line_is = ap (λ (b : ℕ). b ∷ bytes) is;
            text = refl;
            ends = g.0;
            other_words = g.1;
          }
      | other is ↦
          let t = key-text byte is in
          text_more come byte bytes words t
          (read bytes (in_quoted (come ++ byte ∷ [])) words a.1
          (sym (text-other come byte bytes t) ∙ e))
    ]
read (byte ∷ bytes) after_quoted words allowed e =
    let a = both (is_line_byte byte) (list_all is_line_byte bytes) allowed in
    elim (kind_of byte a.0) [
      | blank is ↦ (
        rw is refl,
        one_blank_more byte words bytes is
            (read bytes between words a.1 (sym (after-blank byte bytes is) ∙ e)),
      )
      | quote is ↦ let clash = sym (after-quote byte bytes is) ∙ e in absurd cc
      | other is ↦ let clash = sym (after-other byte bytes is) ∙ e in absurd cc
    ]

words_from : (line : List ℕ) (words : List Word) (b : Bool) → list_all is_line_byte line ≡ b
    → (if b then words_at between line else Err kinds.Byte) ≡ Ok words → IsLineOf words line
words_from line words true allowed e = read line between words allowed e
words_from line words false allowed e = absurd cc

pub read-written : (words : List Word) (line : List ℕ) → words_of line ≡ Ok words
    → IsLineOf words line
unfolding words_of
read-written words line e = words_from line words (list_all is_line_byte line) refl e

-- ---- lines

not_end : (byte : ℕ) → not (eqb byte 10) ≡ true → eqb byte 10 ≡ false
not_end byte e = grind (arith, common_steps, e)

line-first : (line rest : List ℕ) → IsLine line
    → lines_of (line ++ 10 ∷ rest) ≡ line ∷ lines_of rest
unfolding lines_of
line-first [] rest is = refl
line-first (byte ∷ line) rest is =
    let p = both (not (eqb byte 10)) (list_all (λ b. not (eqb b 10)) line) is in
    rw (not_end byte p.0, line-first line rest p.1) refl

line-last : (byte : ℕ) (line : List ℕ) → IsLine (byte ∷ line)
    → lines_of (byte ∷ line) ≡ (byte ∷ line) ∷ []
unfolding lines_of
line-last byte [] is =
    let p = both (not (eqb byte 10)) true is in
    rw (not_end byte p.0) refl
line-last byte (next ∷ line) is =
    let p = both (not (eqb byte 10)) (list_all (λ b. not (eqb b 10)) (next ∷ line)) is in
    rw (not_end byte p.0) (ap (onto_first byte) (line-last next line p.1))

lines-prefix : (lines : List (List ℕ)) (rest : List ℕ) → AllByRecursion IsLine lines
    → lines_of (ended_lines lines ++ rest) ≡ lines ++ lines_of rest
lines-prefix [] rest each = refl
lines-prefix (line ∷ lines) rest each =
    let regrouped : (((line ++ 10 ∷ []) ++ ended_lines lines) ++ rest)
    ≡ line ++ 10 ∷ (ended_lines lines ++ rest) = simp append_assoc in
    ap lines_of regrouped ∙ line-first line (ended_lines lines ++ rest) each.0 ∙ ap
    (λ (ls : List (List ℕ)). line ∷ ls) (lines-prefix lines rest each.1)

pub lines-ended : (lines : List (List ℕ)) → AllByRecursion IsLine lines
    → lines_of (ended_lines lines) ≡ lines
unfolding lines_of
lines-ended lines each = ap lines_of
    (sym (append-nil (ended_lines lines))) ∙ lines-prefix lines [] each ∙ append-nil lines

pub lines-open : (lines : List (List ℕ)) (last : List ℕ) → AllByRecursion IsLine lines → IsLine last
    → 1 ≤ length last → lines_of (ended_lines lines ++ last) ≡ lines ++ last ∷ []
lines-open lines [] each is some = absurd (omega arith)
lines-open lines (byte ∷ last) each is some =
    lines-prefix lines (byte ∷ last) each ∙ ap (λ (ls : List (List ℕ)). lines ++ ls)
    (line-last byte last is)
