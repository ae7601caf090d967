-- Why a turn was refused, and what can come over a fabric that tells.
use Rattle.std.specs.Prelude.{Option, Result, Ok, Err, IfErr, OnErr, Some, None, sum_by}
use Rattle.std.proofs.Common.{ℕ, ◌≡◌, ◌≢◌, ◌⊎◌, refl, sym, ap, ◌∙◌, subst, inl, inr}
use Rattle.hpx_value.specs.declared.acts.Acts.{Ghosts}
use Rattle.hpx_parcel.specs.declared.parcel.Why.{Why}
use Rattle.hpx_journal.specs.Data.{Id}
use Rattle.hpx_journal.specs.Entries.{Rules}
use Rattle.hpx_journal.specs.Weights.{HasRoom}
use Rattle.hpx_world.specs.declared.turns.WorldFault.{WorldFault}
use Rattle.hpx_world.specs.declared.turns.WorldFault.TheVariants as faults
use Rattle.hpx_world.specs.declared.turns.Choice.TheVariants as choices
use Rattle.hpx_world.specs.declared.turns.Turned.{Turned}
use Rattle.hpx_world.specs.Away.{Fetches, Keeps}
use Rattle.hpx_world.specs.Stages.{Stage, Outside}
use Rattle.std.specs.Result.{IsErrAnd}
use Rattle.hpx_value.specs.declared.acts.Done.{Done}
use Rattle.hpx_world.specs.Steps.{DidHandOut}
use Rattle.hpx_world.specs.Refusals.{Stays, StaysAll, IsFull, Refused, RefusedWork, CanCome}
use Rattle.hpx_world.specs.Turns.{HoldsBadFrame, HoldsStrangeFrame, HoldsRightFrame, IsStrangeMail, HasToTend, HasToFire, HasToSend, HasJob}
use Rattle.hpx_world.proofs.Refused.{strange_held_same, right_held_same, strange_mail_same, to_tend_same, to_fire_same, job_same, to_send_same}

pub outside_is : (x z : Outside) → z.hand ≡ x.hand → z.flight ≡ x.flight → z.trace ≡ x.trace → z ≡ x
outside_is x z hand flight trace =
    ap (λ h. record { hand = h; flight = z.flight; trace = z.trace }) hand
    ∙ (ap (λ f. record { hand = x.hand; flight = f; trace = z.trace }) flight
    ∙ ap (λ t. record { hand = x.hand; flight = x.flight; trace = t }) trace)

module _ {A : Type 0} {g : Ghosts A} (r : Result Turned (WorldFault A g)) (x z : Stage) where
  -- what a Take says of each fault
  pub record TakeSays : Type 0 where
    pub err : OnErr r (Stays x z)
    pub kept : OnErr r (Keeps x.outside.hand x.outside.flight z.outside.flight x.outside.trace z.outside.trace z.outside.hand)
    pub bad : (to at : ℕ) (why : Why) → r ≡ Err (faults.BadFrame to at why) → HoldsBadFrame z.outside.hand to at why
    pub strange : (to rule : ℕ) (object : Id) (kept : ℕ) → r ≡ Err (faults.Strange to rule object kept) → HoldsStrangeFrame x.nodes z.outside.hand to rule object kept
    pub early : (sent taken : ℕ) → r ≡ Err (faults.EarlyEnd sent taken)
        → (z.outside.hand ≡ None) × (sent ≡ sum_by (λ t. t.sent) x.nodes) × (taken ≡ sum_by (λ t. t.taken) x.nodes) × (sent ≢ taken)
        × Fetches x.outside.hand x.outside.flight z.outside.flight x.outside.trace z.outside.trace None
    pub memory : (u : _) → r ≡ Err (faults.OutOfMemory u) → (u ≡ None) × HoldsRightFrame x.nodes z.outside.hand z.outside.flight
    pub room : (e w : ℕ) (u : _) → r ≢ Err (faults.JournalFull e w u)
    pub runs : (job : _) → r ≢ Err (faults.NotRun job)
    pub fabric : r ≡ Err faults.Fabric → (z.outside.hand ≡ x.outside.hand) × (z.outside.flight ≡ x.outside.flight) × (z.outside.trace ≡ x.outside.trace)

-- where a frame is refused for want of memory, no job is handed back
pub no_job : {A : Type 0} {g : Ghosts A} (e : WorldFault A g) (u : Option (Done A g)) (to : ℕ) → e ≡ faults.OutOfMemory u
    → (e ≡ faults.OutOfMemory None) ⊎ (((at : ℕ) × (why : Why) × (e ≡ faults.BadFrame to at why))
    ⊎ ((rule : ℕ) × (object : Id) × (kept : ℕ) × (e ≡ faults.Strange to rule object kept))) → u ≡ None
no_job e u to is (inl w) = cc
no_job e u to is (inr (inl w)) = absurd (let x = w.2 in cc)
no_job e u to is (inr (inr w)) = absurd (let x = w.3 in cc)

-- so it is refused
pub take_refused : {A : Type 0} {g : Ghosts A} (r : Result Turned (WorldFault A g)) (x z : Stage) → HasRoom x.entries → TakeSays r x z
    → IfErr r (λ fault. Refused choices.Take fault x z)
take_refused (Ok t) x z room says = tt
take_refused (Err faults.Fabric) x z room says =
    let same = says.fabric refl in (room, (says.err, outside_is x.outside z.outside same.0 same.1 same.2))
take_refused (Err (faults.BadFrame to at why)) x z room says =
    (room, ((says.err, says.kept), says.bad to at why refl))
take_refused (Err (faults.Strange to rule object kept)) x z room says =
    (room, ((says.err, says.kept), strange_held_same x.nodes z.nodes z.outside.hand to rule object kept says.err.tables (says.strange to rule object kept refl)))
take_refused (Err (faults.EarlyEnd sent taken)) x z room says =
    let e = says.early sent taken refl in (room, (says.err, e.0, e.1, e.2, e.3, e.4))
take_refused (Err (faults.JournalFull e w u)) x z room says = absurd (says.room e w u refl)
take_refused (Err (faults.OutOfMemory u)) x z room says =
    let m = says.memory u refl in (room, ((says.err, says.kept), m.0, right_held_same x.nodes z.nodes z.outside.hand z.outside.flight says.err.tables m.1))
take_refused (Err (faults.NotRun job)) x z room says = absurd (says.runs job refl)

-- an action that may be fired at k is not
pub fire_refused : {A : Type 0} {g : Ghosts A} (r : Result Turned (WorldFault A g)) (k : ℕ) (x z : Stage) → HasRoom x.entries → OnErr r (Stays x z)
    → z.outside ≡ x.outside → OnErr r (HasToFire x.nodes k) → IfErr r (λ e. e ≡ faults.OutOfMemory None)
    → IfErr r (λ fault. Refused (choices.Fire k) fault x z)
fire_refused (Ok t) k x z room same out waits which = tt
fire_refused (Err e) k x z room same out waits which =
    subst (λ f. Refused (choices.Fire k) f x z) (sym which)
    (room, ((same, out), refl, to_fire_same x.nodes z.nodes k same.tables waits))

-- a job that is out is not committed
pub job_refused : {A : Type 0} {g : Ghosts A} (r : Result Turned (WorldFault A g)) (done : Done A g) (x z : Stage) → HasRoom x.entries → OnErr r (Stays x z)
    → z.outside ≡ x.outside → OnErr r (HasJob x.nodes done.localities done.job) → IfErr r (λ e. e ≡ faults.OutOfMemory (Some done))
    → IfErr r (λ fault. Refused (choices.Finish done) fault x z)
job_refused (Ok t) done x z room same out runs which = tt
job_refused (Err e) done x z room same out runs which =
    subst (λ f. Refused (choices.Finish done) f x z) (sym which)
    (room, ((same, out), refl, job_same x.nodes z.nodes done.localities done.job same.tables runs))

-- a message to the own locality k is refused
pub desk_refused : {A : Type 0} {g : Ghosts A} (r : Result Turned (WorldFault A g)) (k : ℕ) (x z : Stage) → HasRoom x.entries → OnErr r (Stays x z)
    → z.outside ≡ x.outside
    → ((to rule : ℕ) (object : Id) (kept : ℕ) → r ≡ Err (faults.Strange to rule object kept) → (to ≡ k) × IsStrangeMail x.nodes k rule object kept)
    → ((u : _) → r ≡ Err (faults.OutOfMemory u) → HasToTend x.nodes k)
    → IfErr r (λ e. (e ≡ faults.OutOfMemory None) ⊎ ((rule : ℕ) × (object : Id) × (kept : ℕ) × (e ≡ faults.Strange k rule object kept)))
    → IfErr r (λ fault. Refused (choices.Desk k) fault x z)
desk_refused (Ok t) k x z room same out strange right which = tt
desk_refused (Err e) k x z room same out strange right (inl w) =
    subst (λ f. Refused (choices.Desk k) f x z) (sym w)
    (room, ((same, out), refl, to_tend_same x.nodes z.nodes k same.tables (right None (ap (λ f. Err f) w))))
desk_refused (Err e) k x z room same out strange right (inr w) =
    subst (λ f. Refused (choices.Desk k) f x z) (sym w.3)
    (room, ((same, out), refl, strange_mail_same x.nodes z.nodes k w.0 w.1 w.2 same.tables (strange k w.0 w.1 w.2 (ap (λ f. Err f) w.3)).1))

-- a message of k to another locality does not go
pub pump_refused : {A : Type 0} {g : Ghosts A} (r : Result Turned (WorldFault A g)) (k : ℕ) (x z : Stage) → HasRoom x.entries → OnErr r (Stays x z)
    → z.outside.hand ≡ x.outside.hand → OnErr r ((z.outside.flight ≡ x.outside.flight) × (z.outside.trace ≡ x.outside.trace))
    → OnErr r (HasToSend x.nodes k) → IfErr r (λ e. (e ≡ faults.Fabric) ⊎ (e ≡ faults.OutOfMemory None))
    → IfErr r (λ fault. Refused (choices.Pump k) fault x z)
pump_refused (Ok t) k x z room same hand out waits which = tt
pump_refused (Err e) k x z room same hand out waits (inl w) =
    subst (λ f. Refused (choices.Pump k) f x z) (sym w)
    (room, ((same, outside_is x.outside z.outside hand out.0 out.1), to_send_same x.nodes z.nodes k same.tables waits))
pump_refused (Err e) k x z room same hand out waits (inr w) =
    subst (λ f. Refused (choices.Pump k) f x z) (sym w)
    (room, ((same, outside_is x.outside z.outside hand out.0 out.1), refl, to_send_same x.nodes z.nodes k same.tables waits))

-- what can come, where three faults are excluded
pub can_come : {T A : Type 0} {g : Ghosts A} (r : Result T (WorldFault A g)) (rules : Rules)
    → ((to at : ℕ) (why : Why) → r ≢ Err (faults.BadFrame to at why))
    → ((to rule : ℕ) (object : Id) (kept : ℕ) → r ≢ Err (faults.Strange to rule object kept))
    → ((sent taken : ℕ) → r ≢ Err (faults.EarlyEnd sent taken)) → IfErr r (CanCome rules)
can_come (Ok t) rules bad strange early = tt
can_come (Err faults.Fabric) rules bad strange early = tt
can_come (Err (faults.BadFrame to at why)) rules bad strange early = bad to at why refl
can_come (Err (faults.Strange to rule object kept)) rules bad strange early = strange to rule object kept refl
can_come (Err (faults.EarlyEnd sent taken)) rules bad strange early = early sent taken refl
can_come (Err (faults.JournalFull e w u)) rules bad strange early = tt
can_come (Err (faults.OutOfMemory u)) rules bad strange early = tt
can_come (Err (faults.NotRun job)) rules bad strange early = tt

-- ---- stages

pub stage_is : (x z : Stage) → z.nodes ≡ x.nodes → z.entries ≡ x.entries → z.outside ≡ x.outside → z ≡ x
stage_is x z nodes entries outside =
    ap (λ o. record { outside = o; nodes = z.nodes; entries = z.entries }) outside
    ∙ (ap (λ n. record { outside = x.outside; nodes = n; entries = z.entries }) nodes
    ∙ ap (λ e. record { outside = x.outside; nodes = x.nodes; entries = e }) entries)

pub all_is : (x z : Stage) → StaysAll x z → z ≡ x
all_is x z h = stage_is x z h.0.tables h.0.journal h.1

-- an error that is handed on is refused as it was
pub err_then : {T E : Type 0} (r : Result T E) (e : E) (P : E → Type 0) → IsErrAnd r (λ y. y ≡ e) → P e → IfErr r P
err_then (Ok x) e P h p = tt
err_then (Err y) e P h p = subst P (sym h) p

-- ---- a Fire with its Finish

-- a Fire is refused
pub fire_refused_work : {A : Type 0} {g : Ghosts A} (k : ℕ) (x z : Stage) (fault : WorldFault A g) → Refused (choices.Fire k) fault x z → RefusedWork k fault x z
fire_refused_work {A} {g} k x z (faults.JournalFull e w u) h = subst (λ v. RefusedWork {A = A} {g = g} k (faults.JournalFull e w v) x z) (sym h.2) (h.0, h.1)
fire_refused_work {A} {g} k x z (faults.OutOfMemory u) h = subst (λ v. RefusedWork {A = A} {g = g} k (faults.OutOfMemory v) x z) (sym h.1.1) (h.0, h.1.0, h.1.2)
fire_refused_work {A} {g} k x z _ h = absurd h.1

-- a Finish is refused behind a Fire
pub finish_refused : {A : Type 0} {g : Ghosts A} (done : Done A g) (k : ℕ) (x y z : Stage) → HasRoom x.entries → DidHandOut done.localities done.job k x y
    → (fault : WorldFault A g) → Refused (choices.Finish done) fault y z → RefusedWork k fault x z
finish_refused {A} {g} done k x y z room out (faults.JournalFull e w u) h =
    let same = all_is y z h.0 in
    subst (λ v. RefusedWork {A = A} {g = g} k (faults.JournalFull e w v) x z) (sym h.2)
    (room, subst (DidHandOut done.localities done.job k x) (sym same) out, subst (λ s. IsFull s e w) (sym same) h.1)
finish_refused {A} {g} done k x y z room out (faults.OutOfMemory u) h =
    let same = all_is y z h.1.0 in
    subst (λ v. RefusedWork {A = A} {g = g} k (faults.OutOfMemory v) x z) (sym h.1.1)
    (room, subst (λ (s : Stage). HasRoom s.entries) (sym same) h.0, subst (DidHandOut done.localities done.job k x) (sym same) out)
finish_refused {A} {g} done k x y z room out _ h = absurd h.1

-- steps do not end where the world is not quiet, if that cannot be
pub ends_early : {A : Type 0} {g : Ghosts A} {P Q : Type 0} (r : Result Unit (WorldFault A g)) (rules : Rules) (sent taken : ℕ)
    → IfErr r (λ e. (e ≡ faults.EarlyEnd sent taken) × P × Q) → (P → Q → ⊥) → IfErr r (CanCome rules)
ends_early (Ok x) rules sent taken h never = tt
ends_early (Err e) rules sent taken h never = absurd (never h.1 h.2)
