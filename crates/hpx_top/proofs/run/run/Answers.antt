use Rattle.std.proofs.Common.{Some, None, ◌≡◌, arith, refl, sym, ap, subst, inr, ◌∙◌}
use Rattle.hpx_options.specs.Texts.{bad_word_text}
use Rattle.hpx_top.specs.declared.task.Request.TheVariants.{Print, Run}
use Rattle.hpx_top.specs.Breaches.{TellsBreach}
use Rattle.hpx_top.specs.Statuses.{IsStatus, status_after}
use Rattle.hpx_top.proofs.DoneLemmas.{breach_by, cause_as, cause_unrun, ends_well, no_breach_told, not_one, run_as, says_as, says_nothing, told_as}
use Rattle.hpx_top.proofs.RunLemmas.{ended_well}
use Rattle.hpx_top.proofs.TaskLemmas.{bad_words, no_notice, none_asked, notice_asked, one_request, request_asked}
use Rattle.hpx_top.proofs.run.run.Goals as goal
use Rattle.hpx_top.proofs.run.run.Goals.{in-Ok-ended, in-Err-ended}

-- ---- words that ask for nothing

pub returns-in-Err-clause-refused : goal.returns-in-Err-clause-refused
returns-in-Err-clause-refused g c = λ place bad.
    let is : Some c.in-Err.place ≡ Some place = sym (bad_words c.args.words.now c.in-Err.place (sym c.request_in.ensures ∙ c.in-Err.is)) ∙ bad in
    let same : c.in-Err.place ≡ place = cc in
    (refl, refl, says_as (c.as_bytes.ensures.value ∙ c.as_str.ensures.value ∙ c.bad_word.ensures ∙ ap bad_word_text same) c.say.ensures)

pub returns-in-Err-clause-told : goal.returns-in-Err-clause-told
returns-in-Err-clause-told g c = λ notice at.
    absurd (none_asked c.args.words.now c.in-Err.place (Print notice) (sym c.request_in.ensures ∙ c.in-Err.is) (notice_asked c.args.words.now notice at))

pub returns-in-Err-clause-did : goal.returns-in-Err-clause-did
returns-in-Err-clause-did g c = λ setup at. absurd (none_asked c.args.words.now c.in-Err.place (Run setup) (sym c.request_in.ensures ∙ c.in-Err.is) at)

pub returns-in-Err-clause-cause : goal.returns-in-Err-clause-cause
returns-in-Err-clause-cause g c = cause_unrun _

-- ---- what they ask for

pub fulfil-world-requires-clause-request : goal.fulfil-world-requires-clause-request
fulfil-world-requires-clause-request g c κs within = request_asked c.args.words.now c.in-Ok.request (sym c.request_in.ensures ∙ c.in-Ok.is)

pub returns-clause-taken : goal.returns-clause-taken
returns-clause-taken g c = λ good. elim c.match-ended.branch [
  | in-Ok-ended w ↦ (λ s. not_one c.fulfil-world.result.1 (ap status_after w.in-Ok-ended.is ∙ (sym w.status-is ∙ s)), rw (w.status-is, w.err-is) (says_nothing (record { text = g.E.Sink.held c.args.err.now; faults = g.E.Sink.faults c.args.err.now })))
  | in-Err-ended w ↦ (
    λ s. not_one c.fulfil-world.result.1 (ap status_after w.in-Err-ended.is ∙ (sym w.line_of-status.ensures.status ∙ (sym w.status-is ∙ s))),
    rw (w.err-is, w.status-is, w.line_of-status.ensures.status) (rw w.line_of-status.ensures.line at w.say-in-Err-ended.ensures),
  )
]

pub returns-clause-none : goal.returns-clause-none
returns-clause-none g c =
    let is : status_after c.fulfil-world.result.1 ≡ c.match-ended.status = elim c.match-ended.branch [
      | in-Ok-ended w ↦ ap status_after w.in-Ok-ended.is ∙ sym w.status-is
      | in-Err-ended w ↦ ap status_after w.in-Err-ended.is ∙ (sym w.line_of-status.ensures.status ∙ sym w.status-is)
    ] in
    λ none.
    let none_run = c.fulfil-world.ensures.none none in (
      none_run.0,
      none_run.1,
      λ no.
          let short = none_run.2 (no_notice c.args.words.now c.in-Ok.request (sym c.request_in.ensures ∙ c.in-Ok.is) no) in
          (short.0, inr (sym is ∙ ap status_after short.1)),
    )

pub returns-clause-told : goal.returns-clause-told
returns-clause-told g c =
    let is : status_after c.fulfil-world.result.1 ≡ c.match-ended.status = elim c.match-ended.branch [
      | in-Ok-ended w ↦ ap status_after w.in-Ok-ended.is ∙ sym w.status-is
      | in-Err-ended w ↦ ap status_after w.in-Err-ended.is ∙ (sym w.line_of-status.ensures.status ∙ sym w.status-is)
    ] in
    λ notice at.
    let told = c.fulfil-world.ensures.told notice
    (one_request c.args.words.now c.in-Ok.request (Print notice) (sym c.request_in.ensures ∙ c.in-Ok.is) (notice_asked c.args.words.now notice at)) in
    (told.0, told_as is told.1)

pub returns-clause-did : goal.returns-clause-did
returns-clause-did g c =
    let is : status_after c.fulfil-world.result.1 ≡ c.match-ended.status = elim c.match-ended.branch [
      | in-Ok-ended w ↦ ap status_after w.in-Ok-ended.is ∙ sym w.status-is
      | in-Err-ended w ↦ ap status_after w.in-Err-ended.is ∙ (sym w.line_of-status.ensures.status ∙ sym w.status-is)
    ] in
    λ setup at. run_as is (c.fulfil-world.ensures.did setup (one_request c.args.words.now c.in-Ok.request (Run setup) (sym c.request_in.ensures ∙ c.in-Ok.is) at))

pub returns-clause-unread : goal.returns-clause-unread
returns-clause-unread g c = λ setup at own.
    c.fulfil-world.ensures.unread setup (one_request c.args.words.now c.in-Ok.request (Run setup) (sym c.request_in.ensures ∙ c.in-Ok.is) at) own

pub returns-clause-cause : goal.returns-clause-cause
returns-clause-cause g c =
    let is : status_after c.fulfil-world.result.1 ≡ c.match-ended.status = elim c.match-ended.branch [
      | in-Ok-ended w ↦ ap status_after w.in-Ok-ended.is ∙ sym w.status-is
      | in-Err-ended w ↦ ap status_after w.in-Err-ended.is ∙ (sym w.line_of-status.ensures.status ∙ sym w.status-is)
    ] in
    cause_as is c.fulfil-world.ensures.cause

pub returns-clause-no_other : goal.returns-clause-no_other
returns-clause-no_other g c =
    let is : status_after c.fulfil-world.result.1 ≡ c.match-ended.status = elim c.match-ended.branch [
      | in-Ok-ended w ↦ ap status_after w.in-Ok-ended.is ∙ sym w.status-is
      | in-Err-ended w ↦ ap status_after w.in-Err-ended.is ∙ (sym w.line_of-status.ensures.status ∙ sym w.status-is)
    ] in
    λ flight trace. subst IsStatus is (c.fulfil-world.ensures.status flight trace)

pub returns-clause-ends_well : goal.returns-clause-ends_well
returns-clause-ends_well g c =
    let is : status_after c.fulfil-world.result.1 ≡ c.match-ended.status = elim c.match-ended.branch [
      | in-Ok-ended w ↦ ap status_after w.in-Ok-ended.is ∙ sym w.status-is
      | in-Err-ended w ↦ ap status_after w.in-Err-ended.is ∙ (sym w.line_of-status.ensures.status ∙ sym w.status-is)
    ] in
    λ flight trace good calm.
    rw (sym is) (ends_well c.fulfil-world.result.1 c.fulfil-world.result.0 _ _ c.fulfil-world.ensures.there c.fulfil-world.ensures.cause (c.fulfil-world.ensures.status flight trace) calm)

pub returns-clause-ended : goal.returns-clause-ended
returns-clause-ended g c =
    let is : status_after c.fulfil-world.result.1 ≡ c.match-ended.status = elim c.match-ended.branch [
      | in-Ok-ended w ↦ ap status_after w.in-Ok-ended.is ∙ sym w.status-is
      | in-Err-ended w ↦ ap status_after w.in-Err-ended.is ∙ (sym w.line_of-status.ensures.status ∙ sym w.status-is)
    ] in
    λ s. ended_well c.fulfil-world.result.1 _ (is ∙ s) c.fulfil-world.ensures.ended

pub returns-in-Err-clause-fault : goal.returns-in-Err-clause-fault
returns-in-Err-clause-fault g c = no_breach_told 1 None _ (omega arith) (omega arith)

pub returns-clause-fault : goal.returns-clause-fault
returns-clause-fault g c =
    let is : status_after c.fulfil-world.result.1 ≡ c.match-ended.status = elim c.match-ended.branch [
      | in-Ok-ended w ↦ ap status_after w.in-Ok-ended.is ∙ sym w.status-is
      | in-Err-ended w ↦ ap status_after w.in-Err-ended.is ∙ (sym w.line_of-status.ensures.status ∙ sym w.status-is)
    ] in
    subst (λ s. TellsBreach s c.breach_after-fault.result c.fulfil-world.result.0 (g.F.Fabric.latest c.fulfil-world.new.fabric)) is
    (subst (λ b. TellsBreach (status_after c.fulfil-world.result.1) b c.fulfil-world.result.0 (g.F.Fabric.latest c.fulfil-world.new.fabric)) (sym c.breach_after-fault.ensures)
    (breach_by c.fulfil-world.result.1 c.fulfil-world.result.0 (g.F.Fabric.latest c.fulfil-world.new.fabric) c.fulfil-world.ensures.shown))
