use Rattle.std.proofs.Common.{◌≡◌, ◌∙◌, sym, ap, subst, Err, Ok, arith, true, false, not}
use Rattle.std.specs.Str.{IsAscii}
use Rattle.std.specs.Fmt.{decimal}
use Rattle.std.proofs.lemmas.Str.{IsUtf8-from_ascii}
use Rattle.std.proofs.lemmas.Fmt.{IsAscii-decimal, parse-decimal}
use Rattle.std.specs.Str.{bytes_eq}
use Rattle.std.proofs.lemmas.Slice.Eq.{bytes_eq-Decides}
use Rattle.c5_text.proofs.Numbers.{err_is_not_ok, ok_is}
use Rattle.c5_text.proofs.words.number_in.Goals as goal

pub returns-in_default-clause-none : goal.returns-in_default-clause-none
returns-in_default-clause-none c n is =
    c.in_default.ensures.cases.0
    (IsUtf8-from_ascii c.args.bytes.now
    (subst IsAscii (sym is.spelled) (IsAscii-decimal n (omega (arith, is.small)))))

pub returns-in_default-parse-clause-none : goal.returns-in_default-parse-clause-none
returns-in_default-parse-clause-none c n is =
    err_is_not_ok c.in_default-parse.field-0 n
    (parse-decimal 32 n c.in-Ok.text.now (Err c.in_default-parse.field-0) is.small
    (omega (arith, is.small))
    (c.in-Ok.ensures.cases.0 ∙ is.spelled) c.in_default-parse.ensures.value.0)

pub returns-then-ne-clause-none : goal.returns-then-ne-clause-none
returns-then-ne-clause-none c n is =
    let read : c.in-Ok-parse.number ≡ n =
    ok_is c.in-Ok-parse.number n
    (parse-decimal {E = Unit {0}} 32 n c.in-Ok.text.now (Ok c.in-Ok-parse.number) is.small
    (omega (arith, is.small))
    (c.in-Ok.ensures.cases.0 ∙ is.spelled) c.in-Ok-parse.ensures.value.0) in
    let printed : c.as_bytes.result.now ≡ c.args.bytes.now =
    c.as_bytes.ensures.value ∙ c.format.ensures.text ∙ ap decimal read ∙ sym is.spelled in
    let same : bytes_eq c.as_bytes.result.now c.args.bytes.now ≡ true =
    (bytes_eq-Decides c.as_bytes.result.now c.args.bytes.now).1 printed in
    let other : true ≡ not (bytes_eq c.as_bytes.result.now c.args.bytes.now) = c.if-ne.ensures in
    let clash : true ≡ false = other ∙ ap not same in
    cc
