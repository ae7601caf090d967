use Rattle.std.specs.Prelude.{true, Some, drop, take, length, ◌-◌}
use Rattle.std.proofs.Common.{rules, ◌≡◌, ◌∷◌, ◌++◌, [], ap, sym, ◌∙◌}
use Rattle.std.proofs.lemmas.List.{take_rest}
use Rattle.std.proofs.lemmas.Result.{IfOk-weaker}
use Rattle.hpx_value.specs.declared.value.Value.{Value}
use Rattle.hpx_calls.specs.Values.{spelled}
use Rattle.app_console.specs.Types.{Naming}
use Rattle.app_console.specs.Desks.{named_by, desk_in, names_before}
use Rattle.app_console.proofs.Reading.{more_names}
use Rattle.app_console.proofs.read.+names_in.Goals as goal

pub returns-in_ok-with-in-Text : goal.returns-in_ok-with-in-Text
returns-in_ok-with-in-Text t c =
    let x : Naming Value = record { name = c.in-Text.name; to = c.in-Some.to } in
    let behind = drop 2 c.args.values.now in
    let rest = desk_in spelled behind in
    let whole : take (length c.args.values.now - 2) behind ≡ behind = take_rest c.args.values.now 2 in
    let added : c.in_ok-with-in-Text.field-0 ≡ c.args.read ++ x ∷ [] = search rules in
    let shown : desk_in spelled c.args.values.now ≡ named_by true x.name (Some x.to) rest = search rules in
    IfOk-weaker c.names_in.result _ _ (λ all e.
    e ∙ (ap (λ vs. names_before c.in_ok-with-in-Text.field-0 (desk_in spelled vs)) whole ∙ (ap (λ r. names_before r rest) added ∙ (sym (more_names c.args.read x rest) ∙ ap (names_before c.args.read) (sym shown)))))
    c.names_in.ensures
