use Rattle.std.proofs.Common.{Some, ap, sym, ◌∙◌, codes}
use Rattle.clap.specs.Words.{found_of, rows_of}
use Rattle.hpx_launch.proofs.Clap.{asked, first_is, first_none, no_localities, no_port, no_program, none_from, some_from}
use Rattle.hpx_launch.proofs.line.launch_of.Goals as goal

pub returns-in_err-program-clause-bad : goal.returns-in_err-program-clause-bad
returns-in_err-program-clause-bad c = λ bad.
    no_program (rows_of (found_of c.args.matches.now))
    (first_none (λ text. text.now) c.get_str.result (found_of c.args.matches.now) (codes "program") c.get_str.ensures (none_from c.get_str.result c.in_err-program.ensures.variant))

pub returns-in_err-localities-clause-bad : goal.returns-in_err-localities-clause-bad
returns-in_err-localities-clause-bad c = λ bad.
    no_localities (rows_of (found_of c.args.matches.now)) (sym c.number_of.ensures ∙ none_from c.number_of.result c.in_err-localities.ensures.variant)

pub returns-in_err-port-clause-bad : goal.returns-in_err-port-clause-bad
returns-in_err-port-clause-bad c = λ bad.
    no_port (rows_of (found_of c.args.matches.now)) (sym c.number_of-2.ensures ∙ none_from c.number_of-2.result c.in_err-port.ensures.variant)

pub returns-clause-ok : goal.returns-clause-ok
returns-clause-ok c =
    let program = c.in_ok-program.program in
    asked (rows_of (found_of c.args.matches.now)) _ _ _ _
    (first_is (λ text. text.now) c.get_str.result (found_of c.args.matches.now) (codes "program") c.get_str.ensures program
    (some_from c.get_str.result _ program c.in_ok-program.ensures.value)
    ∙ ap (λ text. Some text) (sym c.in_ok-copied.ensures))
    (sym c.number_of.ensures ∙ some_from c.number_of.result _ c.in_ok-localities.localities c.in_ok-localities.ensures.value)
    (sym c.number_of-2.ensures ∙ some_from c.number_of-2.result _ c.in_ok-port.port c.in_ok-port.ensures.value)
    c.in_ok-words_of.ensures
