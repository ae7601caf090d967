use Rattle.std.specs.Prelude.{Some}
use Rattle.std.proofs.Common.{◌≡◌, inr, sym, subst}
use Rattle.hpx_top.specs.Usage.{notice_in}
use Rattle.hpx_program.proofs.Served.{member_told, run_in, said, told_words}
use Rattle.hpx_program.proofs.program.program.Goals as goal

pub returns-in-Some-clause-told : goal.returns-in-Some-clause-told
returns-in-Some-clause-told g c = λ words notice told asked.
    absurd (member_told c.in-Ok.words words c.in-Some.membership notice (told_words c.in-Ok.words words _ c.in-Ok.ensures told) c.in-Some.ensures.is asked)

pub returns-in-Ok-clause-did : goal.returns-in-Ok-clause-did
returns-in-Ok-clause-did g c = run_in c.run-end.result.world _ _ _ _ _ _ c.in-Ok.ensures (λ place bad. (c.run-end.ensures.refused place bad).1)
    (λ notice asked. (c.run-end.ensures.told notice asked).0) c.run-end.ensures.did

pub returns-in-Ok-clause-says : goal.returns-in-Ok-clause-says
returns-in-Ok-clause-says g c = λ other. said _ c.in-Ok.words c.run-end.result.status (λ place bad. (c.run-end.ensures.refused place bad).0) (λ good. (c.run-end.ensures.taken good).1) other

pub returns-in-Ok-clause-told : goal.returns-in-Ok-clause-told
returns-in-Ok-clause-told g c = λ words notice told asked.
    let printed = c.run-end.ensures.told notice (subst (λ ws. notice_in ws ≡ Some notice) (sym (told_words c.in-Ok.words words _ c.in-Ok.ensures told)) asked) in
    (printed.0, inr printed.1)
