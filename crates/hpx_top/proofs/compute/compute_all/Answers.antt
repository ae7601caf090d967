use Rattle.std.specs.Prelude.{⊤, Result, Err, OnOk, IfErr}
use Rattle.std.proofs.Common.{ℕ, List, Option, Some, refl, sym, arith, ◌≡◌, ◌∙◌, subst}
use Rattle.hpx_journal.specs.declared.entry.Entry.{Entry}
use Rattle.hpx_journal.specs.Entries.{Rules}
use Rattle.hpx_top.specs.declared.session.SessionFault.{SessionFault}
use Rattle.hpx_top.specs.declared.session.SessionFault.TheVariants.{Read, InputFull}
use Rattle.hpx_top.specs.Computed.{IsAnswered, IsUnanswered}
use Rattle.hpx_top.proofs.FeedLemmas.{same_rules}
use Rattle.hpx_top.proofs.RunLemmas.{cause_none, cause_of, ended_of, lawful_of, shown_in, status_is}
use Rattle.hpx_world.proofs.Heard.{latest_none}
use Rattle.hpx_top.proofs.Carried.{carrying_start}
use Rattle.hpx_top.proofs.compute.compute_all.Goals as goal

pub returns-in-Err-clause-cause : goal.returns-in-Err-clause-cause
returns-in-Err-clause-cause g c = cause_none _ _ refl

-- what is unanswered was not broken off by a fault that cannot be
never : (f : SessionFault) (r : Result ⊤ SessionFault) (rules : Rules) (line : List ℕ) (es : List Entry) (old new : Option (List ℕ))
    → (IsUnanswered f rules line es old new → ⊥) → IfErr r (λ x. IsUnanswered x rules line es old new) → r ≡ Err f → ⊥
never f r rules line es old new impossible h e = impossible (subst (λ q. IfErr q (λ x. IsUnanswered x rules line es old new)) e h)

pub returns-clause-cause : goal.returns-clause-cause
returns-clause-cause g c = let a = c.answer-answered.ensures in
    cause_of c.answer-answered.result (Some c.answer-answered.new.world) _ _
    (λ e. absurd (never Read c.answer-answered.result _ _ _ _ _ (λ x. x) a.unanswered e)) a.write a.fabric a.full a.room
    (λ e. absurd (never InputFull c.answer-answered.result _ _ _ _ _ (λ x. x) a.unanswered e)) (λ x. refl) a.write_only a.fabric_only (omega arith)

pub returns-clause-status : goal.returns-clause-status
returns-clause-status g c = λ flight trace.
    status_is c.answer-answered.result (c.answer-answered.ensures.told (carrying_start _ _ _ _ _ c.in-Ok.ensures.hand flight trace c.in-Ok.ensures.empty))

pub returns-clause-shown : goal.returns-clause-shown
returns-clause-shown g c = shown_in c.answer-answered.result c.answer-answered.new.world _ c.answer-answered.ensures.shown

pub returns-clause-hears : goal.returns-clause-hears
returns-clause-hears g c = c.answer-answered.ensures.hears (latest_none _ _ c.in-Ok.ensures.hand)

pub returns-clause-carrying : goal.returns-clause-carrying
returns-clause-carrying g c = λ flight trace.
    c.answer-answered.ensures.carrying (carrying_start _ _ _ _ _ c.in-Ok.ensures.hand flight trace c.in-Ok.ensures.empty)

pub returns-clause-places : goal.returns-clause-places
returns-clause-places g c = (c.answer-answered.ensures.count ∙ c.in-Ok.ensures.count, c.answer-answered.ensures.profile ∙ c.in-Ok.ensures.profile)

pub returns-clause-lawful : goal.returns-clause-lawful
returns-clause-lawful g c =
    lawful_of c.answer-answered.new.world c.law.ensures.within c.law.ensures.stands c.law.ensures.promises c.law.ensures.audit c.law.ensures.stand

pub returns-clause-ended : goal.returns-clause-ended
returns-clause-ended g c =
    ended_of c.answer-answered.result c.answer-answered.new.world c.law.ensures.promises c.answer-answered.ensures.rest

-- the world that was booted is judged by the same rules
pub returns-clause-answered : goal.returns-clause-answered
returns-clause-answered g c =
    subst (λ r. OnOk c.answer-answered.result (IsAnswered r c.args.line c.answer-answered.new.world.journal.entries (g.K.Sink.held c.args.sink.now) (g.K.Sink.held c.answer-answered.new.sink)))
    (sym (same_rules c.in-Ok.world c.answer-answered.new.world c.answer-answered.ensures.count c.answer-answered.ensures.profile)) c.answer-answered.ensures.answered

pub returns-clause-unanswered : goal.returns-clause-unanswered
returns-clause-unanswered g c =
    subst (λ r. IfErr c.answer-answered.result (λ fault. IsUnanswered fault r c.args.line c.answer-answered.new.world.journal.entries (g.K.Sink.held c.args.sink.now) (g.K.Sink.held c.answer-answered.new.sink)))
    (sym (same_rules c.in-Ok.world c.answer-answered.new.world c.answer-answered.ensures.count c.answer-answered.ensures.profile)) c.answer-answered.ensures.unanswered
