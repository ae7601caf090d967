-- What holds of a site goes on to hold.
use Rattle.std.proofs.Common.{ℕ, Bool, [], ◌≡◌, ◌∙◌, ◌⊎◌, Option, Some, None, Result, Ok, Err, IfSome, IfErr, is_some, false, inl, inr, length, refl, sym, subst, ap₂}
use Rattle.hpx_value.specs.declared.acts.Acts.{Ghosts}
use Rattle.std.specs.Result.{IsErrAnd, result_err}
use Rattle.hpx_journal.specs.Weights.{HasRoom}
use Rattle.hpx_ports.specs.Faults.{Rose}
use Rattle.hpx_steps.specs.Rest.{rules_of}
use Rattle.hpx_world.specs.declared.turns.WorldFault.{WorldFault}
use Rattle.hpx_world.specs.declared.turns.WorldFault.TheVariants as faults
use Rattle.hpx_world.specs.Away.{IsCarrying}
use Rattle.hpx_world.specs.Heard.{HearsDrain, HearsEnd, HearsStep, KeepsLatest}
use Rattle.hpx_world.specs.Places.{Places, rules_in}
use Rattle.hpx_world.specs.declared.turns.Choice.{Choice}
use Rattle.hpx_world.specs.declared.turns.Choice.TheVariants as choices
use Rattle.hpx_world.specs.Refusals.{CountsFaults, CanCome, FeedsNoLine, Refused, RefusedDrain, RefusedStep}
use Rattle.hpx_world.specs.Sound.{Meaning}
use Rattle.hpx_world.specs.Stages.{Stage}
use Rattle.hpx_world.specs.Steps.{IsIdle, IsUnfed}
use Rattle.hpx_world.proofs.Unfed.{unfed_none, unfed_then}
use Rattle.hpx_site.specs.Seen.{Seen, Carries, stage_of}
use Rattle.hpx_site.specs.Held.{Held, IsCause, IsCalm, LeavesRoom}
use Rattle.hpx_site.proofs.Causes.{steps_cause, steps_room, turn_cause, turn_room}

-- the same localities and the same profile are the same rules
same_rules : (act_of : Meaning) (v w : Places) → length v.nodes ≡ length w.nodes → v.profile ≡ w.profile → rules_in act_of v ≡ rules_in act_of w
same_rules act_of v w n p = ap₂ (λ k q. rules_of act_of k q) n p

pub no_stop : {F : Type 0} (P : F → Type 0) (stop : Option F) → is_some stop ≡ false → IfSome stop P
no_stop P None e = tt
no_stop P (Some f) e = absurd (cc e)

calm : {A : Type 0} {g : Ghosts A} (stop : Option (WorldFault A g)) → is_some stop ≡ false → IsCalm stop
calm None e = tt
calm (Some f) e = absurd (cc e)

-- a cause since a stage is one since an earlier stage with the same count
since : {A : Type 0} {g : Ghosts A} (was x z : Seen) → x.faults ≡ was.faults → (f : WorldFault A g) → IsCause x z f → IsCause was z f
since was x z same faults.Fabric c = subst (λ n. Rose n z.faults) same c
since was x z same (faults.JournalFull e w job_back) c = c
since was x z same (faults.BadFrame to place why) c = c
since was x z same (faults.Strange to rule object kept) c = c
since was x z same (faults.EarlyEnd s t) c = c
since was x z same (faults.OutOfMemory None) c = c
since was x z same (faults.OutOfMemory (Some done)) c = c
since was x z same (faults.NotRun job) c = tt

-- the count stands, unless the fabric is the cause
counts_still : {A : Type 0} {g : Ghosts A} (f : WorldFault A g) (old new : ℕ) → CountsFaults {T = ℕ} (Err f) old new → IsCalm (Some f) → new ≡ old
counts_still faults.Fabric old new c calm = absurd calm
counts_still (faults.JournalFull e w job_back) old new c calm = c
counts_still (faults.BadFrame to place why) old new c calm = c
counts_still (faults.Strange to rule object kept) old new c calm = c
counts_still (faults.EarlyEnd s t) old new c calm = c
counts_still (faults.OutOfMemory job_back) old new c calm = c
counts_still (faults.NotRun job) old new c calm = c

-- what a call on the world tells, refused or not
pub record Went (act_of : Meaning) (x z : Seen) : Type 0 where
  pub localities : length z.world.nodes ≡ length x.world.nodes
  pub profile : z.world.profile ≡ x.world.profile
  pub unfed : IsUnfed x.world.journal.entries z.world.journal.entries
  pub carrying : Carries act_of x → IsCarrying (rules_in act_of x.world) z.world.hand z.flight z.trace z.world.journal.entries
  pub hears : KeepsLatest x.world.hand x.latest z.world.hand z.latest

module _ {A : Type 0} {g : Ghosts A} (act_of : Meaning) (was x z : Seen) (stop : Option (WorldFault A g)) (going : is_some stop ≡ false) (h : Held act_of was x stop) (w : Went act_of x z) where
  on : (stop' : Option (WorldFault A g)) → (IsCalm stop' → z.faults ≡ x.faults) → IfSome stop' (IsCause was z) → IfSome stop' (LeavesRoom z) → (Carries act_of x → IfSome stop' (CanCome (rules_in act_of x.world))) → Held act_of was z stop'
  on stop' still cause room never = record {
    localities = w.localities ∙ h.localities;
    profile = w.profile ∙ h.profile;
    unfed = unfed_then _ _ _ h.unfed w.unfed;
    carrying = λ c. subst (λ r. IsCarrying r z.world.hand z.flight z.trace z.world.journal.entries) (sym (same_rules act_of z.world x.world w.localities w.profile)) (w.carrying (h.carrying c));
    hears = λ l. w.hears (h.hears l);
    still = λ q. still q ∙ h.still (calm stop going);
    cause = cause;
    room = room;
    never = λ c. subst (λ r. IfSome stop' (CanCome r)) (same_rules act_of x.world was.world h.localities h.profile) (never (h.carrying c));
  }

  -- it was not refused
  pub goes_on : z.faults ≡ x.faults → Held act_of was z stop
  goes_on same = on stop (λ q. same) (no_stop (IsCause was z) stop going) (no_stop (LeavesRoom z) stop going) (λ c. no_stop (CanCome (rules_in act_of x.world)) stop going)

  -- it was refused
  stands_still : (f : WorldFault A g) → CountsFaults {T = ℕ} (Err f) x.faults z.faults → IsCause x z f → LeavesRoom z f → (Carries act_of x → CanCome (rules_in act_of x.world) f)
      → Held act_of was z (Some f)
  stands_still f counts cause room never = on (Some f) (counts_still f x.faults z.faults counts) (since was x z (h.still (calm stop going)) f cause) room never

  -- a turn was refused
  pub turn_stops : (c : Choice A g) → FeedsNoLine c → (f : WorldFault A g) → Refused c f (stage_of x) (stage_of z) → CountsFaults {T = ℕ} (Err f) x.faults z.faults → HearsEnd f z.latest → (Carries act_of x → CanCome (rules_in act_of x.world) f)
      → Held act_of was z (Some f)
  turn_stops c fed f refused counts heard never = stands_still f counts (turn_cause x z c fed f refused counts heard) (turn_room z x c f refused) never

  -- steps were refused
  pub steps_stop : (f : WorldFault A g) → RefusedDrain act_of f (stage_of x) (stage_of z) → CountsFaults {T = ℕ} (Err f) x.faults z.faults → HearsEnd f z.latest → (Carries act_of x → CanCome (rules_in act_of x.world) f)
      → Held act_of was z (Some f)
  steps_stop f refused counts heard never = stands_still f counts (steps_cause x z act_of f refused counts heard) (steps_room z act_of (stage_of x) f refused) never

-- a site, as it is seen
pub held_first : {A : Type 0} {g : Ghosts A} (act_of : Meaning) (was x : Seen) → was ≡ x → Held {A = A} {g = g} act_of was x None
held_first {A} {g} act_of was x e = subst (λ (y : Seen). Held {A = A} {g = g} act_of y x None) (sym e) (record {
  localities = refl;
  profile = refl;
  unfed = unfed_none _ _ refl;
  carrying = λ c. c;
  hears = λ l. l;
  still = λ q. refl;
  cause = tt;
  room = tt;
  never = λ c. tt;
})

-- steps, refused or not, of a site that goes on
pub drained : {A : Type 0} {g : Ghosts A} (act_of : Meaning) (was x z : Seen) → Held {A = A} {g = g} act_of was x None → Went act_of x z
    → (r : Result (Unit {0}) (WorldFault A g)) → CountsFaults r x.faults z.faults → IfErr r (λ f. RefusedDrain act_of f (stage_of x) (stage_of z)) → HearsDrain r z.latest
    → (Carries act_of x → IfErr r (CanCome (rules_in act_of x.world))) → Held act_of was z (result_err r)
drained act_of was x z h w (Ok u) counts stops heard never = goes_on act_of was x z None refl h w counts
drained act_of was x z h w (Err f) counts stops heard never = steps_stop act_of was x z None refl h w f stops counts heard never

-- where steps end there is room
pub idle_room : (x z : Stage) → IsIdle x z → HasRoom z.entries
idle_room x z idle = subst (λ es. HasRoom es) (sym idle.same.journal) idle.room

-- ---- a few steps, and what follows them

-- what holds since a site that goes on, which was seen before, holds since then
pub held_then : {A : Type 0} {g : Ghosts A} (act_of : Meaning) (was x z : Seen) (stop : Option (WorldFault A g)) → Held {A = A} {g = g} act_of was x None → Held act_of x z stop → Held act_of was z stop
held_then {A} {g} act_of was x z stop h k = record {
  localities = k.localities ∙ h.localities;
  profile = k.profile ∙ h.profile;
  unfed = unfed_then _ _ _ h.unfed k.unfed;
  carrying = λ c. k.carrying (h.carrying c);
  hears = λ l. k.hears (h.hears l);
  still = λ q. k.still q ∙ h.still tt;
  cause = cause stop k.cause;
  room = k.room;
  never = λ c. subst (λ r. IfSome stop (CanCome r)) (same_rules act_of x.world was.world h.localities h.profile) (k.never (h.carrying c));
}
  where
    cause : (f : Option (WorldFault A g)) → IfSome f (IsCause x z) → IfSome f (IsCause was z)
    cause None c = tt
    cause (Some f) c = since was x z (h.still tt) f c

-- what holds of a fault holds of the answer that hands it on
pub handed_on : {T F : Type 0} (P : Option F → Type 0) (r : Result T F) (f : F) → IsErrAnd r (λ y. y ≡ f) → P (Some f) → P (result_err r)
handed_on P (Ok x) f h p = absurd h
handed_on P (Err y) f h p = subst (λ o. P (Some o)) (sym h) p

-- a step was refused as steps are, or as a Take is
step_refused : {A : Type 0} {g : Ghosts A} (act_of : Meaning) (f : WorldFault A g) (x z : Stage) → RefusedStep f x z → RefusedDrain act_of f x z ⊎ Refused {A = A} {g = g} choices.Take f x z
step_refused act_of (faults.EarlyEnd s t) x z h = inr (h.0, h.2)
step_refused act_of faults.Fabric x z h = inl (record { last = x; goes = record { between = []; steps = refl }; thus = h })
step_refused act_of (faults.JournalFull e w job_back) x z h = inl (record { last = x; goes = record { between = []; steps = refl }; thus = h })
step_refused act_of (faults.BadFrame to place why) x z h = inl (record { last = x; goes = record { between = []; steps = refl }; thus = h })
step_refused act_of (faults.Strange to rule object kept) x z h = inl (record { last = x; goes = record { between = []; steps = refl }; thus = h })
step_refused act_of (faults.OutOfMemory job_back) x z h = inl (record { last = x; goes = record { between = []; steps = refl }; thus = h })
step_refused act_of (faults.NotRun job) x z h = inl (record { last = x; goes = record { between = []; steps = refl }; thus = h })

-- one step, refused or not, of a site that goes on
pub stepped : {A : Type 0} {g : Ghosts A} (act_of : Meaning) (was x z : Seen) → Held {A = A} {g = g} act_of was x None → Went act_of x z
    → (r : Result Bool (WorldFault A g)) → CountsFaults r x.faults z.faults → IfErr r (λ f. RefusedStep f (stage_of x) (stage_of z)) → HearsStep r z.latest
    → (Carries act_of x → IfErr r (CanCome (rules_in act_of x.world))) → Held act_of was z (result_err r)
stepped act_of was x z h w (Ok b) counts stops heard never = goes_on act_of was x z None refl h w counts
stepped act_of was x z h w (Err f) counts stops heard never = elim (step_refused act_of f (stage_of x) (stage_of z) stops) [
  | inl steps ↦ steps_stop act_of was x z None refl h w f steps counts heard never
  | inr take ↦ turn_stops act_of was x z None refl h w choices.Take tt f take counts heard never
]
