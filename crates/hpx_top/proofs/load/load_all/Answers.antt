use Rattle.std.specs.Prelude.{⊤, Result, Err, OnOk, IfErr}
use Rattle.std.proofs.Common.{ℕ, List, Option, Some, refl, sym, arith, ◌≡◌, ◌∙◌, subst}
use Rattle.hpx_journal.specs.declared.entry.Entry.{Entry}
use Rattle.hpx_journal.specs.Entries.{Rules}
use Rattle.hpx_top.specs.declared.session.SessionFault.{SessionFault}
use Rattle.hpx_top.specs.declared.session.SessionFault.TheVariants.{Read, InputFull}
use Rattle.hpx_top.specs.Loaded.{FeedsFirst, IsSummed, IsUnloaded, WritesSo}
use Rattle.hpx_top.proofs.FeedLemmas.{same_rules}
use Rattle.hpx_top.proofs.RunLemmas.{cause_none, cause_of, ended_of, lawful_of, shown_in, status_is}
use Rattle.hpx_world.proofs.Heard.{latest_none}
use Rattle.hpx_top.proofs.Carried.{carrying_start}
use Rattle.hpx_top.proofs.load.load_all.Goals as goal

pub returns-in-Err-clause-cause : goal.returns-in-Err-clause-cause
returns-in-Err-clause-cause g c = cause_none _ _ refl

pub returns-clause-cause : goal.returns-clause-cause
returns-clause-cause g c = let a = c.load_made-loaded.ensures in
    cause_of c.load_made-loaded.result (Some c.load_made-loaded.new.world) _ _
    (λ e. absurd (a.no_read.0 e)) a.write a.fabric a.full a.room (λ e. absurd (a.no_read.1 e)) (λ x. refl) a.write_only a.fabric_only (omega arith)

pub returns-clause-status : goal.returns-clause-status
returns-clause-status g c = λ flight trace.
    status_is c.load_made-loaded.result (c.load_made-loaded.ensures.told (carrying_start _ _ _ _ _ c.in-Ok.ensures.hand flight trace c.in-Ok.ensures.empty))

pub returns-clause-shown : goal.returns-clause-shown
returns-clause-shown g c = shown_in c.load_made-loaded.result c.load_made-loaded.new.world _ c.load_made-loaded.ensures.shown

pub returns-clause-hears : goal.returns-clause-hears
returns-clause-hears g c = c.load_made-loaded.ensures.hears (latest_none _ _ c.in-Ok.ensures.hand)

pub returns-clause-carrying : goal.returns-clause-carrying
returns-clause-carrying g c = λ flight trace.
    c.load_made-loaded.ensures.carrying (carrying_start _ _ _ _ _ c.in-Ok.ensures.hand flight trace c.in-Ok.ensures.empty)

pub returns-clause-places : goal.returns-clause-places
returns-clause-places g c = (c.load_made-loaded.ensures.count ∙ c.in-Ok.ensures.count, c.load_made-loaded.ensures.profile ∙ c.in-Ok.ensures.profile)

pub returns-clause-lawful : goal.returns-clause-lawful
returns-clause-lawful g c =
    lawful_of c.load_made-loaded.new.world c.law.ensures.within c.law.ensures.stands c.law.ensures.promises c.law.ensures.audit c.law.ensures.stand

pub returns-clause-ended : goal.returns-clause-ended
returns-clause-ended g c =
    ended_of c.load_made-loaded.result c.load_made-loaded.new.world c.law.ensures.promises c.load_made-loaded.ensures.rest

-- the world that was booted is judged by the same rules
pub returns-clause-loaded : goal.returns-clause-loaded
returns-clause-loaded g c =
    subst (λ r. OnOk c.load_made-loaded.result (WritesSo (IsSummed r c.args.load c.load_made-loaded.new.world.journal.entries) (g.K.Sink.held c.args.sink.now) (g.K.Sink.held c.load_made-loaded.new.sink)))
    (sym (same_rules c.in-Ok.world c.load_made-loaded.new.world c.load_made-loaded.ensures.count c.load_made-loaded.ensures.profile)) c.load_made-loaded.ensures.loaded

pub returns-clause-unloaded : goal.returns-clause-unloaded
returns-clause-unloaded g c =
    subst (λ r. IfErr c.load_made-loaded.result (λ fault. IsUnloaded fault r c.args.load c.load_made-loaded.new.world.journal.entries (g.K.Sink.held c.args.sink.now) (g.K.Sink.held c.load_made-loaded.new.sink)))
    (sym (same_rules c.in-Ok.world c.load_made-loaded.new.world c.load_made-loaded.ensures.count c.load_made-loaded.ensures.profile)) c.load_made-loaded.ensures.unloaded

pub returns-clause-fed : goal.returns-clause-fed
returns-clause-fed g c =
    subst (λ r. FeedsFirst r c.args.load c.load_made-loaded.new.world.journal.entries)
    (sym (same_rules c.in-Ok.world c.load_made-loaded.new.world c.load_made-loaded.ensures.count c.load_made-loaded.ensures.profile)) c.load_made-loaded.ensures.fed
