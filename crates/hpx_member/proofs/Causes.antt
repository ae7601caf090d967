-- Why a member stops, from why a call is refused.
use Rattle.std.proofs.Common.{ℕ, List, [], ◌∷◌, ◌++◌, ◌≡◌, ◌-◌, ◌∙◌, Option, Some, None, cond, false, true, refl, ap, sym, subst, arith, inl, inr}
use Rattle.std.proofs.lemmas.Bool.{cases_Bool}
use Rattle.hpx_journal.specs.Weights.{HasRoom}
use Rattle.hpx_tables.specs.Jobs.{Starts}
use Rattle.hpx_value.specs.declared.acts.Job.{Job}
use Rattle.hpx_ended.specs.Tally.{IsSpent, Tally, current, waits}
use Rattle.hpx_part.specs.Data.{Entry}
use Rattle.hpx_tables.specs.Tables.{IsPassive, Tables}
use Rattle.hpx_node.specs.Handled.{NotTaken, NotTended}
use Rattle.hpx_node.specs.declared.parts.TakeFault.{TakeFault}
use Rattle.hpx_node.specs.declared.parts.DeskFault.{DeskFault}
use Rattle.hpx_node.specs.declared.parts.TakeFault.TheVariants as take_faults
use Rattle.hpx_node.specs.declared.parts.DeskFault.TheVariants as desk_faults
use Rattle.hpx_ports.specs.declared.link.Latest.{Latest}
use Rattle.hpx_ports.specs.declared.link.Latest.TheVariants.{Got}
use Rattle.hpx_member.specs.Bodies.{is_frame}
use Rattle.hpx_member.specs.Leads.{IsNoFrame, IsOfLink}
use Rattle.hpx_member.specs.Stops.{IsCause, IsCauseBy, IsLastCounts, IsOther, IsTurnDue, MayLeave, MayStop, stop_of_desk, stop_of_take}
use Rattle.hpx_member.specs.Rounds.{TakesCounts}
use Rattle.hpx_member.specs.declared.stop.MemberFault.TheVariants.{BadFrame, Strange, OutOfPlace, Waves}
use Rattle.hpx_member.specs.declared.stop.Stop.{Stop}
use Rattle.hpx_member.specs.declared.stop.Stop.TheVariants.{Link, JournalFull, OutOfMemory, Fault}

pub desk_stops : (t : Tables) (es : List Entry) (here : ℕ) (fault : DeskFault) → here ≡ t.here → NotTended t fault → MayStop t es (stop_of_desk here fault)
desk_stops t es here (desk_faults.Strange rule object kept) same h = (same, h)
desk_stops t es here desk_faults.OutOfMemory same h = tt

-- what stops a node by itself stops a member, whose link has done nothing
pub may_cause : (t : Tables) (es : List Entry) (latest : Latest) (n : ℕ) (stop : Stop) → MayStop t es stop → IsCause t es latest n n stop
may_cause t es latest n Link h = absurd h
may_cause t es latest n JournalFull h = (h.0, refl, inl (inl h.1))
may_cause t es latest n OutOfMemory h = refl
may_cause t es latest n (Fault (BadFrame from at why)) h = absurd h
may_cause t es latest n (Fault (Strange from rule object kept)) h = (inr h, refl)
may_cause t es latest n (Fault (OutOfPlace from)) h = absurd h
may_cause t es latest n (Fault Waves) h = absurd h

pub may_other : (t : Tables) (es : List Entry) (stop : Stop) → MayStop t es stop → IsOther stop
may_other t es Link h = tt
may_other t es JournalFull h = tt
may_other t es OutOfMemory h = tt
may_other t es (Fault (BadFrame from at why)) h = tt
may_other t es (Fault (Strange from rule object kept)) h = tt
may_other t es (Fault (OutOfPlace from)) h = absurd h
may_other t es (Fault Waves) h = absurd h

pub take_cause : (t t' : Tables) (es : List Entry) (latest : Latest) (n from : ℕ) (bytes : List ℕ) (fault : TakeFault) → latest ≡ Got from bytes
    → t' ≡ t → NotTaken t bytes fault → IsCause t' es latest n n (stop_of_take from fault)
take_cause t t' es latest n from bytes (take_faults.BadFrame at why) got same h =
    ((bytes, got, subst (λ x. NotTaken x bytes (take_faults.BadFrame at why)) (sym same) h), refl)
take_cause t t' es latest n from bytes (take_faults.Strange rule object kept) got same h =
    (inl (bytes, got, subst (λ x. NotTaken x bytes (take_faults.Strange rule object kept)) (sym same) h), refl)
take_cause t t' es latest n from bytes take_faults.OutOfMemory got same h = refl

pub take_leaves : (from : ℕ) (fault : TakeFault) → MayLeave (stop_of_take from fault)
take_leaves from (take_faults.BadFrame at why) = tt
take_leaves from (take_faults.Strange rule object kept) = tt
take_leaves from take_faults.OutOfMemory = tt

pub take_other : (from : ℕ) (fault : TakeFault) → IsOther (stop_of_take from fault)
take_other from (take_faults.BadFrame at why) = tt
take_other from (take_faults.Strange rule object kept) = tt
take_other from take_faults.OutOfMemory = tt

-- a cause other than a word out of place is the same of any member
pub cause_other : (Odd : ℕ → List ℕ → Type 0) (Other : Type 0) (t : Tables) (es : List Entry) (latest : Latest) (before after : ℕ) (stop : Stop) → IsOther stop
    → IsCause t es latest before after stop → IsCauseBy Odd Other t es latest before after stop
cause_other Odd Other t es latest before after Link other h = h
cause_other Odd Other t es latest before after JournalFull other (full, calm, inl turn) = (full, calm, inl turn)
cause_other Odd Other t es latest before after JournalFull other (full, calm, inr never) = absurd never
cause_other Odd Other t es latest before after OutOfMemory other h = h
cause_other Odd Other t es latest before after (Fault (BadFrame from at why)) other h = h
cause_other Odd Other t es latest before after (Fault (Strange from rule object kept)) other h = h
cause_other Odd Other t es latest before after (Fault (OutOfPlace from)) other h = absurd other
cause_other Odd Other t es latest before after (Fault Waves) other h = absurd other

-- what stops a turn of the node stops it where a line may be due, too
pub cause_more : (Odd : ℕ → List ℕ → Type 0) (Other : Type 0) (t : Tables) (es : List Entry) (latest : Latest) (before after : ℕ) (stop : Stop)
    → IsCauseBy Odd ⊥ t es latest before after stop → IsCauseBy Odd Other t es latest before after stop
cause_more Odd Other t es latest before after Link h = h
cause_more Odd Other t es latest before after JournalFull (full, calm, inl turn) = (full, calm, inl turn)
cause_more Odd Other t es latest before after JournalFull (full, calm, inr never) = absurd never
cause_more Odd Other t es latest before after OutOfMemory h = h
cause_more Odd Other t es latest before after (Fault fault) h = h

-- a line is to be fed, or anything else is due
pub cause_any : (Odd : ℕ → List ℕ → Type 0) (Other : Type 0) (t : Tables) (es : List Entry) (latest : Latest) (before after : ℕ) (stop : Stop)
    → IsCauseBy Odd Other t es latest before after stop → IsCauseBy Odd (Unit {0}) t es latest before after stop
cause_any Odd Other t es latest before after Link h = h
cause_any Odd Other t es latest before after JournalFull (full, calm, due) = (full, calm, inr tt)
cause_any Odd Other t es latest before after OutOfMemory h = h
cause_any Odd Other t es latest before after (Fault fault) h = h

pub link_other : (stop : Stop) → IsOfLink stop → IsOther stop
link_other stop (inl is) = subst IsOther (sym is) tt
link_other stop (inr is) = subst IsOther (sym is) tt

-- a word that no wave waits for
pub cause_odd : (t : Tables) (es : List Entry) (latest : Latest) (before after from : ℕ) (body : List ℕ) → latest ≡ Got from body → is_frame body ≡ false
    → after ≡ before → IsCauseBy IsNoFrame ⊥ t es latest before after (Fault (OutOfPlace from))
cause_odd t es latest before after from body got control calm = ((body, got, control), calm)

-- the answer behind which no wave is left
pub cause_spent : (t : Tables) (es : List Entry) (latest : Latest) (before after from : ℕ) (body : List ℕ) (waves waves' : Tally) → t.here ≡ 0
    → latest ≡ Got from body → TakesCounts from body waves waves' → IsSpent waves' → after ≡ before
    → IsCauseBy IsNoFrame ⊥ t es latest before after (Fault Waves)
cause_spent t es latest before after from body waves waves' here got took spent calm =
    ((here, record { from = from; body = body; told = took.told; got = got; counts = took.counts; wave = number }), calm)
  where
    begun : waves.begun ≡ 4294967295
    begun = ap (λ (w : Tally). w.begun) (sym took.is) ∙ spent.last

    waiting : waits waves ≡ true → took.told.wave ≡ 4294967294
    waiting on =
        let is : Some (waves.begun - 1) ≡ Some took.told.wave = rw on at took.may.open_wave in
        let same : waves.begun - 1 ≡ took.told.wave = cc in
        omega (arith, same, begun)

    number : took.told.wave ≡ 4294967294
    number = elim (cases_Bool (waits waves)) [
      | inl on ↦ waiting on
      | inr off ↦ absurd (let no : ◌≡◌ {A = Option ℕ} None (Some took.told.wave) = rw off at took.may.open_wave in cc)
    ]

-- where there is no room for a frame that came
pub cause_full : (t : Tables) (es : List Entry) (latest : Latest) (n from : ℕ) (body : List ℕ) → latest ≡ Got from body → is_frame body ≡ true
    → (HasRoom es → ⊥) → IsCause t es latest n n JournalFull
cause_full t es latest n from body got framed full = (full, refl, inl (inr (record { from = from; frame = body; got = got; framed = framed })))

-- where the job of an action is out something is under way
pub started_busy : (t t' : Tables) (job : Job) → Starts t t' job → IsPassive t' → ⊥
started_busy t t' job s passive = no_front t.running job.action (sym s.running ∙ passive.running)
  where
    no_front : {A : Type 0} (xs : List A) (x : A) → xs ++ x ∷ [] ≡ [] → ⊥
    no_front [] x h = absurd (cc)
    no_front (y ∷ ys) x h = absurd (cc)
