use Rattle.std.specs.Prelude.{Some, drop, take, length, ◌-◌}
use Rattle.std.proofs.Common.{rules, ◌≡◌, ◌∷◌, ◌++◌, [], ap, sym, ◌∙◌}
use Rattle.std.proofs.lemmas.List.{take_rest}
use Rattle.std.proofs.lemmas.Result.{IfOk-weaker}
use Rattle.hpx_calls.specs.Values.{spelled}
use Rattle.app_console.specs.Types.{Await}
use Rattle.app_console.specs.Desks.{await_by, awaits_in, awaits_before}
use Rattle.app_console.proofs.Reading.{more_awaits}
use Rattle.app_console.proofs.read.+awaits_in.Goals as goal

pub returns-in_ok-with-in-Int : goal.returns-in_ok-with-in-Int
returns-in_ok-with-in-Int t c =
    let x : Await = record { slot = c.in-Some.slot; what = c.in-Some-2.what } in
    let behind = drop 2 c.args.values.now in
    let rest = awaits_in spelled behind in
    let whole : take (length c.args.values.now - 2) behind ≡ behind = take_rest c.args.values.now 2 in
    let added : c.in_ok-with-in-Int.field-0 ≡ c.args.read ++ x ∷ [] = search rules in
    let shown : awaits_in spelled c.args.values.now ≡ await_by (Some x.slot) (Some x.what) rest = search rules in
    IfOk-weaker c.awaits_in.result _ _ (λ all e.
    e ∙ (ap (λ vs. awaits_before c.in_ok-with-in-Int.field-0 (awaits_in spelled vs)) whole ∙ (ap (λ r. awaits_before r rest) added ∙ (sym (more_awaits c.args.read x rest) ∙ ap (awaits_before c.args.read) (sym shown)))))
    c.awaits_in.ensures
