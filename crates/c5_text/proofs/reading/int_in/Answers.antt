use Rattle.std.proofs.Common.{◌∙◌, sym, subst, Err, w64}
use Rattle.std.specs.Str.{IsAscii}
use Rattle.std.proofs.lemmas.Str.{IsUtf8-from_ascii}
use Rattle.std.proofs.lemmas.Fmt.{IsAscii-signed, parse-signed_decimal}
use Rattle.c5_text.proofs.Numbers.{int_of-none, err_is_not_ok}
use Rattle.c5_text.proofs.reading.int_in.Goals as goal

pub returns-in_default : goal.returns-in_default
returns-in_default c =
    int_of-none c.args.bytes.now
    (λ n fits e. c.in_default.ensures.cases.0
    (IsUtf8-from_ascii c.args.bytes.now (subst IsAscii (sym e) (IsAscii-signed n fits.sfits))))

pub returns-in_default-parse : goal.returns-in_default-parse
returns-in_default-parse c =
    int_of-none c.args.bytes.now
    (λ n fits e. err_is_not_ok c.in_default-parse.field-0 n
    (parse-signed_decimal w64 n c.in-Ok.text.now
    (Err c.in_default-parse.field-0) fits fits.sfits
    (c.in-Ok.ensures.cases.0 ∙ e) c.in_default-parse.ensures.value.0))
