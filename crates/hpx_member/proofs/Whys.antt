-- What the end of a member says of its cause, by how it ran.
use Rattle.std.proofs.Common.{ℕ, Bool, List, [], ◌∷◌, ◌≡◌, ◌≢◌, ◌≤◌, Option, Some, None, Result, Ok, Err, refl, arith, inl, inr}
use Rattle.std.specs.Prelude.{IfSome, ◌⊎◌}
use Rattle.std.specs.Result.{IfErr, OnOk}
use Rattle.hpx_value.specs.declared.profile.Profile.{Profile}
use Rattle.hpx_journal.specs.Weights.{HasRoom}
use Rattle.hpx_part.specs.Data.{Entry}
use Rattle.hpx_ports.specs.Faults.{Rose}
use Rattle.hpx_ports.specs.declared.link.Latest.{Latest}
use Rattle.hpx_ports.specs.declared.link.Post.{Post}
use Rattle.hpx_tables.specs.Tables.{Tables}
use Rattle.hpx_member.specs.Leads.{HaltsLeft, IsConsolesStatus, IsHaltCause, IsNoFrame, halted_fault, halted_status}
use Rattle.hpx_member.specs.Seats.{IsNodeAt, Meaning, Sits}
use Rattle.hpx_member.specs.Stops.{IsCause, IsCauseBy, IsFault, IsFaultBy, IsTurnDue, IsWorkersStatus, SitsLeft, end_fault, end_status, fault_of, status_of, status_of_fault}
use Rattle.hpx_member.specs.Bodies.{IsOutOfPlace}
use Rattle.hpx_member.specs.declared.lines.LineFault.TheVariants as line_faults
use Rattle.hpx_member.specs.declared.stop.Halt.{Halt}
use Rattle.hpx_member.specs.declared.stop.Halt.TheVariants.{Lines, Member}
use Rattle.hpx_member.specs.declared.stop.MemberFault.{MemberFault}
use Rattle.hpx_member.specs.declared.stop.MemberFault.TheVariants.{BadFrame, Strange, OutOfPlace, Waves}
use Rattle.hpx_member.specs.declared.stop.Stop.{Stop}
use Rattle.hpx_member.specs.declared.stop.Stop.TheVariants.{Link, JournalFull, OutOfMemory, Fault}

-- ---- one stop

module _ (Odd : ℕ → List ℕ → Type 0) (Other : Type 0) (t : Tables) (es : List Entry) (latest : Latest) (before after : ℕ) where
  pub stop_failed : (stop : Stop) → IsCauseBy Odd Other t es latest before after stop → status_of stop ≡ 4 → Rose before after
  stop_failed Link why e = why
  stop_failed JournalFull why e = absurd (omega (arith, e))
  stop_failed OutOfMemory why e = absurd (omega (arith, e))
  stop_failed (Fault (BadFrame from at reason)) why e = absurd (omega (arith, e))
  stop_failed (Fault (Strange from rule object kept)) why e = absurd (omega (arith, e))
  stop_failed (Fault (OutOfPlace from)) why e = absurd (omega (arith, e))
  stop_failed (Fault Waves) why e = absurd (omega (arith, e))

  pub stop_calm : (stop : Stop) → IsCauseBy Odd Other t es latest before after stop → status_of stop ≢ 4 → after ≡ before
  stop_calm Link why other = absurd (other refl)
  stop_calm JournalFull why other = why.1
  stop_calm OutOfMemory why other = why
  stop_calm (Fault fault) why other = why.1

  pub stop_full : (stop : Stop) → IsCauseBy Odd Other t es latest before after stop → status_of stop ≡ 5 → HasRoom es → ⊥
  stop_full Link why e = absurd (omega (arith, e))
  stop_full JournalFull why e = why.0
  stop_full OutOfMemory why e = absurd (omega (arith, e))
  stop_full (Fault (BadFrame from at reason)) why e = absurd (omega (arith, e))
  stop_full (Fault (Strange from rule object kept)) why e = absurd (omega (arith, e))
  stop_full (Fault (OutOfPlace from)) why e = absurd (omega (arith, e))
  stop_full (Fault Waves) why e = absurd (omega (arith, e))

  pub stop_due : (stop : Stop) → IsCauseBy Odd Other t es latest before after stop → status_of stop ≡ 5 → IsTurnDue t latest ⊎ Other
  stop_due Link why e = absurd (omega (arith, e))
  stop_due JournalFull why e = why.2
  stop_due OutOfMemory why e = absurd (omega (arith, e))
  stop_due (Fault (BadFrame from at reason)) why e = absurd (omega (arith, e))
  stop_due (Fault (Strange from rule object kept)) why e = absurd (omega (arith, e))
  stop_due (Fault (OutOfPlace from)) why e = absurd (omega (arith, e))
  stop_due (Fault Waves) why e = absurd (omega (arith, e))

  pub stop_fault : (stop : Stop) → IsCauseBy Odd Other t es latest before after stop
      → IfSome (fault_of stop) (λ fault. (status_of stop ≡ status_of_fault fault) × IsFaultBy Odd t latest fault)
  stop_fault Link why = tt
  stop_fault JournalFull why = tt
  stop_fault OutOfMemory why = tt
  stop_fault (Fault fault) why = (refl, why.0)

stop_faultless : (stop : Stop) → fault_of stop ≡ None → (status_of stop ≢ 7) × (status_of stop ≢ 8)
stop_faultless Link none = (λ e. omega (arith, e), λ e. omega (arith, e))
stop_faultless JournalFull none = (λ e. omega (arith, e), λ e. omega (arith, e))
stop_faultless OutOfMemory none = (λ e. omega (arith, e), λ e. omega (arith, e))
stop_faultless (Fault fault) none = absurd (let k : ◌≡◌ {A = Option MemberFault} (Some fault) None = none in cc)

module _ (act_of : Meaning) (k n : ℕ) (profile : Profile) (t : Tables) (es : List Entry) (trace : Option (List Post)) (here : t.here ≡ k)
    (localities : t.localities ≡ n) (by : t.profile ≡ profile) where
  node_left : (rest : List _) → Sits act_of t es rest trace → IsNodeAt act_of k n profile t es
  node_left rest sits = record { here = here; localities = localities; profile = by; stands = sits.stands }

  stop_node : (stop : Stop) → SitsLeft act_of stop t es trace → IsNodeAt act_of k n profile t es
  stop_node stop (inl h) = node_left [] h
  stop_node stop (inr h) = node_left (h.1.0 ∷ []) h.1.1

  -- the node stands for its journal, however a worker ended
  pub node_ran : (ran : Result (Unit {0}) Stop) → OnOk ran (Sits act_of t es [] trace) → IfErr ran (λ stop. SitsLeft act_of stop t es trace)
      → IsNodeAt act_of k n profile t es
  node_ran (Ok x) sits left = node_left [] sits
  node_ran (Err stop) sits left = stop_node stop left

  -- and a console
  pub node_halted : (settles : Bool) (ran : Result (Unit {0}) Halt) → OnOk ran (Sits act_of t es [] trace)
      → IfErr ran (λ halt. HaltsLeft act_of settles halt t es trace) → IsNodeAt act_of k n profile t es
  node_halted settles (Ok x) sits left = node_left [] sits
  node_halted settles (Err (Lines fault)) sits left = node_left [] left.0
  node_halted settles (Err (Member stop)) sits left = stop_node stop left.left

-- ---- a worker

module _ (t : Tables) (es : List Entry) (latest : Latest) (before after : ℕ) where
  pub failed_ran : (ran : Result (Unit {0}) Stop) → IfErr ran (IsCause t es latest before after) → end_status ran ≡ 4 → Rose before after
  failed_ran (Ok x) why e = absurd (omega (arith, e))
  failed_ran (Err stop) why e = stop_failed IsOutOfPlace ⊥ t es latest before after stop why e

  pub calm_ran : (ran : Result (Unit {0}) Stop) → OnOk ran (after ≡ before) → IfErr ran (IsCause t es latest before after) → end_status ran ≢ 4 → after ≡ before
  calm_ran (Ok x) calm why other = calm
  calm_ran (Err stop) calm why other = stop_calm IsOutOfPlace ⊥ t es latest before after stop why other

  pub full_ran : (ran : Result (Unit {0}) Stop) → IfErr ran (IsCause t es latest before after) → end_status ran ≡ 5 → HasRoom es → ⊥
  full_ran (Ok x) why e = absurd (omega (arith, e))
  full_ran (Err stop) why e = stop_full IsOutOfPlace ⊥ t es latest before after stop why e

  pub due_ran : (ran : Result (Unit {0}) Stop) → IfErr ran (IsCause t es latest before after) → end_status ran ≡ 5 → IsTurnDue t latest
  due_ran (Ok x) why e = absurd (omega (arith, e))
  due_ran (Err stop) why e = turn (stop_due IsOutOfPlace ⊥ t es latest before after stop why e)
    where
      turn : IsTurnDue t latest ⊎ ⊥ → IsTurnDue t latest
      turn (inl due) = due
      turn (inr never) = absurd never

  pub fault_ran : (ran : Result (Unit {0}) Stop) → IfErr ran (IsCause t es latest before after)
      → IfSome (end_fault ran) (λ fault. (end_status ran ≡ status_of_fault fault) × IsFault t latest fault)
  fault_ran (Ok x) why = tt
  fault_ran (Err stop) why = stop_fault IsOutOfPlace ⊥ t es latest before after stop why

pub faultless_ran : (ran : Result (Unit {0}) Stop) → end_fault ran ≡ None → (end_status ran ≢ 7) × (end_status ran ≢ 8)
faultless_ran (Ok x) none = (λ e. omega (arith, e), λ e. omega (arith, e))
faultless_ran (Err stop) none = stop_faultless stop none

-- ended where it was told to
pub end_ran : (ran : Result (Unit {0}) Stop) (Told : Type 0) → OnOk ran Told → end_status ran ≡ 0 → Told
end_ran (Ok x) Told told e = told
end_ran (Err Link) Told told e = absurd (omega (arith, e))
end_ran (Err JournalFull) Told told e = absurd (omega (arith, e))
end_ran (Err OutOfMemory) Told told e = absurd (omega (arith, e))
end_ran (Err (Fault (BadFrame from at reason))) Told told e = absurd (omega (arith, e))
end_ran (Err (Fault (Strange from rule object kept))) Told told e = absurd (omega (arith, e))
end_ran (Err (Fault (OutOfPlace from))) Told told e = absurd (omega (arith, e))
end_ran (Err (Fault Waves)) Told told e = absurd (omega (arith, e))

-- ---- a console

module _ (t : Tables) (es : List Entry) (latest : Latest) (reads reads' writes writes' : ℕ) (full : Bool) (before after : ℕ) where
  pub failed_halted : (ran : Result (Unit {0}) Halt) → IfErr ran (IsHaltCause t es latest reads reads' writes writes' full before after)
      → halted_status ran ≡ 4 → Rose before after
  failed_halted (Ok x) why e = absurd (omega (arith, e))
  failed_halted (Err (Lines line_faults.Read)) why e = absurd (omega (arith, e))
  failed_halted (Err (Lines line_faults.Write)) why e = absurd (omega (arith, e))
  failed_halted (Err (Lines line_faults.InputFull)) why e = absurd (omega (arith, e))
  failed_halted (Err (Lines line_faults.OutOfMemory)) why e = absurd (omega (arith, e))
  failed_halted (Err (Member stop)) why e = stop_failed IsNoFrame (Unit {0}) t es latest before after stop why.0 e

  pub calm_halted : (ran : Result (Unit {0}) Halt) → OnOk ran ((after ≡ before) × (reads' ≡ reads) × (writes' ≡ writes))
      → IfErr ran (IsHaltCause t es latest reads reads' writes writes' full before after) → halted_status ran ≢ 4 → after ≡ before
  calm_halted (Ok x) calm why other = calm.0
  calm_halted (Err (Lines fault)) calm why other = why.1
  calm_halted (Err (Member stop)) calm why other = stop_calm IsNoFrame (Unit {0}) t es latest before after stop why.0 other

  pub full_halted : (ran : Result (Unit {0}) Halt) → IfErr ran (IsHaltCause t es latest reads reads' writes writes' full before after)
      → halted_status ran ≡ 5 → HasRoom es → ⊥
  full_halted (Ok x) why e = absurd (omega (arith, e))
  full_halted (Err (Lines line_faults.Read)) why e = absurd (omega (arith, e))
  full_halted (Err (Lines line_faults.Write)) why e = absurd (omega (arith, e))
  full_halted (Err (Lines line_faults.InputFull)) why e = absurd (omega (arith, e))
  full_halted (Err (Lines line_faults.OutOfMemory)) why e = absurd (omega (arith, e))
  full_halted (Err (Member stop)) why e = stop_full IsNoFrame (Unit {0}) t es latest before after stop why.0 e

  pub fault_halted : (ran : Result (Unit {0}) Halt) → IfErr ran (IsHaltCause t es latest reads reads' writes writes' full before after)
      → IfSome (halted_fault ran) (λ fault. (halted_status ran ≡ status_of_fault fault) × IsFaultBy IsNoFrame t latest fault)
  fault_halted (Ok x) why = tt
  fault_halted (Err (Lines fault)) why = tt
  fault_halted (Err (Member stop)) why = stop_fault IsNoFrame (Unit {0}) t es latest before after stop why.0

pub faultless_halted : (ran : Result (Unit {0}) Halt) → halted_fault ran ≡ None → (halted_status ran ≢ 7) × (halted_status ran ≢ 8)
faultless_halted (Ok x) none = (λ e. omega (arith, e), λ e. omega (arith, e))
faultless_halted (Err (Lines line_faults.Read)) none = (λ e. omega (arith, e), λ e. omega (arith, e))
faultless_halted (Err (Lines line_faults.Write)) none = (λ e. omega (arith, e), λ e. omega (arith, e))
faultless_halted (Err (Lines line_faults.InputFull)) none = (λ e. omega (arith, e), λ e. omega (arith, e))
faultless_halted (Err (Lines line_faults.OutOfMemory)) none = (λ e. omega (arith, e), λ e. omega (arith, e))
faultless_halted (Err (Member stop)) none = stop_faultless stop none

-- ---- which statuses there are

stop_status : (stop : Stop) → (4 ≤ status_of stop) × (status_of stop ≤ 8)
stop_status Link = (omega arith, omega arith)
stop_status JournalFull = (omega arith, omega arith)
stop_status OutOfMemory = (omega arith, omega arith)
stop_status (Fault (BadFrame from at why)) = (omega arith, omega arith)
stop_status (Fault (Strange from rule object kept)) = (omega arith, omega arith)
stop_status (Fault (OutOfPlace from)) = (omega arith, omega arith)
stop_status (Fault Waves) = (omega arith, omega arith)

pub status_ran : (ran : Result (Unit {0}) Stop) → IsWorkersStatus (end_status ran)
status_ran (Ok x) = inl refl
status_ran (Err stop) = inr (stop_status stop)

pub status_halted : (ran : Result (Unit {0}) Halt) → IsConsolesStatus (halted_status ran)
status_halted (Ok x) = inl refl
status_halted (Err (Lines line_faults.Read)) = inr (omega arith, omega arith)
status_halted (Err (Lines line_faults.Write)) = inr (omega arith, omega arith)
status_halted (Err (Lines line_faults.OutOfMemory)) = inr (omega arith, omega arith)
status_halted (Err (Lines line_faults.InputFull)) = inr (omega arith, omega arith)
status_halted (Err (Member stop)) =
    let s : (4 ≤ status_of stop) × (status_of stop ≤ 8) = stop_status stop in inr (omega arith, omega arith)
