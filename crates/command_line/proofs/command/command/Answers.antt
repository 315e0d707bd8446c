-- The command is built as its definition says.
use Rattle.std.proofs.Common.{rules, ◌≡◌, ◌∙◌, ap, ap₂, true}
use Rattle.clap.specs.Simple.{app_of, app_of_fields, on_top, with_rule}
use Rattle.clap.specs.Walk.{rule_of}
use Rattle.command_line.proofs.CommandLemmas.{some-value}
use Rattle.command_line.specs.Command.{action_rule, bare_command, values_rule, stats_rule, the_command}
use Rattle.command_line.proofs.command.command.Goals as goal

pub returns : goal.returns
unfolding the_command
returns c =
    let stats_is : rule_of c.action-stats.result ≡ stats_rule = search rules in
    let action_is : rule_of c.required-action.result ≡ action_rule = search rules in
    let values = some-value c.num_args-values.result.num_vals _ c.num_args-values.ensures.1 in
    let values_is : rule_of c.num_args-values.result ≡ values_rule = rw (c.num_args-values.ensures.0, values) (search rules) in
    let named = ap app_of_fields c.no_binary_name.ensures
    ∙ ap (on_top (λ s. record s { no_binary_name = true })) c.new-4.ensures.app in
    let no_help = ap app_of_fields c.disable_help_flag.ensures
    ∙ ap (on_top (λ s. record s { disable_help_flag = true })) named in
    let bare_is : app_of c.disable_version_flag-bare.result ≡ bare_command = ap app_of_fields c.disable_version_flag-bare.ensures
    ∙ ap (on_top (λ s. record s { disable_version_flag = true })) no_help in
    let one = c.in_ok-arg.ensures.shape (search rules) ∙ ap₂ with_rule bare_is stats_is in
    let two = c.in_ok-arg-2.ensures.shape (search rules) ∙ ap₂ with_rule one action_is in
    c.in_ok-command.ensures.shape (search rules) ∙ ap₂ with_rule two values_is
