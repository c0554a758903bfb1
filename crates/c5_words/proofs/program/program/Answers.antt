use Rattle.std.proofs.Common.{◌≡◌, ◌∙◌, ap, ap₂, sym, subst, true, []}
use Rattle.std.specs.List.{All}
use Rattle.std.proofs.lemmas.List.Elements.{All-nil}
use Rattle.clap.specs.Facts.{args_of, groups_of}
use Rattle.clap.specs.Built.{IsPlain, IsPlainArg}
use Rattle.clap.specs.Simple.{app_of, on_top, with_rule, Shape}
use Rattle.clap.proofs.CallerLemmas.{added_plain}
use Rattle.clap.specs.declared.builder.command.Command.{Command}
use Rattle.clap.specs.declared.builder.command.Command.TheOpen.{Command-F}
use Rattle.c5_words.specs.Program.{program, empty_program}
use Rattle.c5_words.proofs.program.program.Goals as goal

pub returns-clause-program : goal.returns-clause-program
unfolding program
returns-clause-program c =
    let start : app_of c.version.result ≡ empty_program =
    rw (c.version.ensures, c.no_binary_name.ensures)
    (ap (on_top (λ (s : Shape). record s { no_binary_name = true; has_version = true }))
    c.new.ensures.app) in
    let one =
    c.in_ok-arg.ensures.shape c.command_word.ensures.global ∙ ap₂ with_rule start
    c.command_word.ensures.rule in
    let two =
    c.in_ok-arg-2.ensures.shape c.threads_option.ensures.global ∙ ap₂ with_rule one
    c.threads_option.ensures.rule in
    let three =
    c.in_ok-arg-3.ensures.shape c.workers_option.ensures.global ∙ ap₂ with_rule two
    c.workers_option.ensures.rule in
    c.in_ok-command.ensures.shape c.count_option.ensures.global ∙ ap₂ with_rule three
    c.count_option.ensures.rule

pub returns-clause-plain : goal.returns-clause-plain
returns-clause-plain c =
    let args : args_of c.version.result ≡ [] =
    ap (λ (f : Command-F Command). f.args.items) c.version.ensures ∙
    (ap (λ (f : Command-F Command). f.args.items) c.no_binary_name.ensures ∙
    c.new.ensures.empty.0) in
    let groups : groups_of c.version.result ≡ [] =
    ap (λ (f : Command-F Command). f.groups.items) c.version.ensures ∙
    (ap (λ (f : Command-F Command). f.groups.items) c.no_binary_name.ensures ∙
    c.new.ensures.empty.1) in
    let start : IsPlain c.version.result =
    (subst (All IsPlainArg) (sym args) (All-nil IsPlainArg), groups) in
    added_plain _ _ _ c.in_ok-command.ensures
    (added_plain _ _ _ c.in_ok-arg-3.ensures (added_plain _ _ _ c.in_ok-arg-2.ensures
    (added_plain _ _ _ c.in_ok-arg.ensures start c.command_word.ensures.plain)
    c.threads_option.ensures.plain) c.workers_option.ensures.plain) c.count_option.ensures.plain
