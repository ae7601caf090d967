use Rattle.std.proofs.Common.{ap, ap₂, codes, Bool, true, ◌∷◌, [], Some, ◌≡◌, ◌∙◌}
use Rattle.std.proofs.lemmas.Result.{IfOk-weaker}
use Rattle.clap.specs.Words.{App, Rule, app_of, new_app, new_rule, rule_of, with_rule}
use Rattle.clap.specs.Simple.{app_of_fields, on_top}
use Rattle.clap.specs.declared.builder.ArgAction.TheVariants.{Append}
use Rattle.clap.specs.declared.builder.arg.Arg.{Arg}
use Rattle.hpx_launch.specs.Lines.{hpxrun, option_named}
use Rattle.hpx_launch.proofs.matches.command.Goals as goal

abbrev plain : App
plain = on_top (λ s. record s { no_binary_name = true; disable_help_flag = true }) (new_app (codes "hpxrun"))

abbrev needed : Rule → Rule
needed r = record r { required = true }

abbrev with_port : Rule → Rule
with_port r = record r { defaults = codes "7910" ∷ [] }

abbrev words : Rule
words = record (new_rule (codes "words")) { action = Some Append }

abbrev is_global : Arg → Bool
is_global a = a.global

pub returns : goal.returns
unfolding hpxrun
returns c =
    let plain_is : app_of c.disable_help_flag.result ≡ plain =
    ap app_of_fields c.disable_help_flag.ensures
    ∙ (ap (λ f. app_of_fields (record f { disable_help_flag = true })) c.no_binary_name.ensures
    ∙ ap (on_top (λ s. record s { no_binary_name = true; disable_help_flag = true })) c.new-2.ensures.app) in
    let program_is : rule_of c.required-program.result ≡ needed (option_named (codes "program")) =
    ap rule_of c.required-program.ensures ∙ ap needed c.option.ensures.rule in
    let localities_is : rule_of c.required-localities.result ≡ needed (option_named (codes "localities")) =
    ap rule_of c.required-localities.ensures ∙ ap needed c.option-2.ensures.rule in
    let port_is : rule_of c.default_value-port.result ≡ with_port (option_named (codes "port")) =
    ap rule_of c.default_value-port.ensures ∙ ap with_port c.option-3.ensures.rule in
    let words_is : rule_of c.action-words.result ≡ words =
    ap rule_of c.action-words.ensures ∙ ap (λ (r : Rule). record r { action = Some Append }) c.new.ensures.rule in
    let one = c.in_ok-arg.ensures.shape (ap is_global c.required-program.ensures ∙ c.option.ensures.local) ∙ ap₂ with_rule plain_is program_is in
    let two = c.in_ok-arg-2.ensures.shape (ap is_global c.required-localities.ensures ∙ c.option-2.ensures.local) ∙ ap₂ with_rule one localities_is in
    let three = c.in_ok-arg-3.ensures.shape (ap is_global c.default_value-port.ensures ∙ c.option-3.ensures.local) ∙ ap₂ with_rule two port_is in
    IfOk-weaker c.arg-4.result _ _ (λ command adds.
    adds.shape (ap is_global c.action-words.ensures ∙ c.new.ensures.optional.1) ∙ ap₂ with_rule three words_is) c.arg-4.ensures
