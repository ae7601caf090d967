-- What a console leaves, by how it ended.
use Rattle.std.proofs.Common.{ℕ, suc, Bool, true, List, [], ◌≡◌, ◌≢◌, Option, Some, None, Result, Ok, Err, refl, sym, ap, ◌∙◌, subst, arith, inl, inr}
use Rattle.std.specs.Prelude.{◌⊎◌}
use Rattle.std.specs.Result.{IfErr, OnOk}
use Rattle.hpx_value.specs.declared.profile.Profile.{Profile}
use Rattle.hpx_journal.specs.Entries.{Rules}
use Rattle.hpx_part.specs.Data.{Entry}
use Rattle.hpx_tables.specs.Tables.{Tables}
use Rattle.hpx_steps.specs.Rest.{rules_of}
use Rattle.hpx_ended.specs.Tally.{fresh}
use Rattle.hpx_ports.specs.declared.link.Latest.{Latest}
use Rattle.hpx_ports.specs.declared.link.Post.{Post}
use Rattle.hpx_member.specs.Leads.{Ends, HaltsLeft, HasAsked, HasLineCause, HasLineToFeed, HasServed, IsDueAt, IsHaltCause, IsNotOfLines, IsReady, MayClose, Saying, halt_status, halted_fault, halted_status, status_of_lines}
use Rattle.hpx_member.specs.Rounds.{AsksBut, Asking, Ending, Last, Nothing, Refused, Spent}
use Rattle.hpx_member.specs.Seats.{IsPart, Meaning, Sits, Tells}
use Rattle.hpx_member.specs.Serves.{Done, IsIdleBehind, Serves, Stage}
use Rattle.hpx_member.specs.Stops.{IsOther, IsTurnDue, fault_of, status_of}
use Rattle.hpx_member.specs.Talks.{IsLineCause, Only, Talk}
use Rattle.hpx_member.specs.declared.console.Phase.TheVariants.{Unfed}
use Rattle.hpx_member.specs.declared.lines.LineFault.{LineFault}
use Rattle.hpx_member.specs.declared.lines.LineFault.TheVariants as line_faults
use Rattle.hpx_member.specs.declared.stop.Halt.{Halt}
use Rattle.hpx_member.specs.declared.stop.Halt.TheVariants.{Lines, Member}
use Rattle.hpx_member.specs.declared.stop.MemberFault.{MemberFault}
use Rattle.hpx_member.specs.declared.stop.MemberFault.TheVariants.{BadFrame, Strange, OutOfPlace, Waves}
use Rattle.hpx_member.specs.declared.stop.Stop.{Stop}
use Rattle.hpx_member.specs.declared.stop.Stop.TheVariants.{Link, JournalFull, OutOfMemory, Fault}
use Rattle.hpx_member.proofs.Asked.{asks_first, asks_whole}
use Rattle.hpx_member.proofs.Led.{idle_ready}
use Rattle.hpx_member.proofs.Serving.{line_to_feed}
use Rattle.hpx_member.proofs.Ended.{part_left, part_ran, rules_is, tells_left, tells_ran}

-- ---- statuses

stop_some : (stop : Stop) → status_of stop ≢ 0
stop_some Link e = omega (arith, e)
stop_some JournalFull e = omega (arith, e)
stop_some OutOfMemory e = omega (arith, e)
stop_some (Fault (BadFrame from at why)) e = omega (arith, e)
stop_some (Fault (Strange from rule object kept)) e = omega (arith, e)
stop_some (Fault (OutOfPlace from)) e = omega (arith, e)
stop_some (Fault Waves) e = omega (arith, e)

-- waves are left, unless it stops for that
waves_left : (stop : Stop) → IsOther stop → fault_of stop ≢ Some Waves
waves_left Link other e = absurd (let no : ◌≡◌ {A = Option MemberFault} None (Some Waves) = e in cc)
waves_left JournalFull other e = absurd (let no : ◌≡◌ {A = Option MemberFault} None (Some Waves) = e in cc)
waves_left OutOfMemory other e = absurd (let no : ◌≡◌ {A = Option MemberFault} None (Some Waves) = e in cc)
waves_left (Fault (BadFrame from at why)) other e = absurd (let no : Some (BadFrame from at why) ≡ Some Waves = e in cc)
waves_left (Fault (Strange from rule object kept)) other e = absurd (let no : Some (Strange from rule object kept) ≡ Some Waves = e in cc)
waves_left (Fault (OutOfPlace from)) other e = absurd other
waves_left (Fault Waves) other e = absurd other

-- nor does it end as its lines do
none_apart : IsNotOfLines 0
none_apart = (λ e. omega (arith, e), λ e. omega (arith, e), λ e. omega (arith, e))

stop_apart : (stop : Stop) → IsNotOfLines (status_of stop)
stop_apart Link = (λ e. omega (arith, e), λ e. omega (arith, e), λ e. omega (arith, e))
stop_apart JournalFull = (λ e. omega (arith, e), λ e. omega (arith, e), λ e. omega (arith, e))
stop_apart OutOfMemory = (λ e. omega (arith, e), λ e. omega (arith, e), λ e. omega (arith, e))
stop_apart (Fault (BadFrame from at why)) = (λ e. omega (arith, e), λ e. omega (arith, e), λ e. omega (arith, e))
stop_apart (Fault (Strange from rule object kept)) = (λ e. omega (arith, e), λ e. omega (arith, e), λ e. omega (arith, e))
stop_apart (Fault (OutOfPlace from)) = (λ e. omega (arith, e), λ e. omega (arith, e), λ e. omega (arith, e))
stop_apart (Fault Waves) = (λ e. omega (arith, e), λ e. omega (arith, e), λ e. omega (arith, e))

lines_some : (fault : LineFault) → status_of_lines fault ≢ 0
lines_some line_faults.Read e = omega (arith, e)
lines_some line_faults.Write e = omega (arith, e)
lines_some line_faults.OutOfMemory e = omega (arith, e)
lines_some line_faults.InputFull e = omega (arith, e)

halt_some : (halt : Halt) → halt_status halt ≢ 0
halt_some (Lines fault) = lines_some fault
halt_some (Member stop) = stop_some stop

link_status : (stop : Stop) → (stop ≡ Link) ⊎ (stop ≡ OutOfMemory) → (status_of stop ≡ 4) ⊎ (status_of stop ≡ 6)
link_status stop (inl is) = inl (ap status_of is)
link_status stop (inr is) = inr (ap status_of is)

none_left : ◌≡◌ {A = Option MemberFault} None (Some Waves) → ⊥
none_left e = absurd (cc)

-- what came last, by the status
closed : (n : ℕ) (stop : Stop) (last : Last) → MayClose stop last → Ends n (status_of stop) (fault_of stop) last
closed n stop Nothing h = (stop_some stop, waves_left stop h)
closed n stop (Asking wave some) h = link_status stop h
closed n stop (Ending some) h = inr (link_status stop h)
closed n stop (Refused from body) h = (ap status_of h, ap fault_of h)
closed n stop Spent h = (ap status_of h, ap fault_of h)

-- ---- what is left

module _ (act_of : Meaning) (n : ℕ) (profile : Profile) (t : Tables) (es : List Entry) (trace : Option (List Post)) (here : t.here ≡ 0)
    (localities : t.localities ≡ n) (by : t.profile ≡ profile) where
  pub part_halted : (settles : Bool) (ran : Result (Unit {0}) Halt) → OnOk ran (Sits act_of t es [] trace)
      → IfErr ran (λ halt. HaltsLeft act_of settles halt t es trace) → IsPart (rules_of act_of n profile) 0 es
  part_halted settles (Ok x) sits left = part_left act_of 0 n profile t es trace here localities by [] sits
  part_halted settles (Err (Lines fault)) sits left = part_left act_of 0 n profile t es trace here localities by [] left.0
  part_halted settles (Err (Member stop)) sits left =
      part_ran act_of 0 n profile t es trace here localities by (Err stop) tt left.left

  pub tells_halted : (settles : Bool) (ran : Result (Unit {0}) Halt) → OnOk ran (Sits act_of t es [] trace)
      → IfErr ran (λ halt. HaltsLeft act_of settles halt t es trace) → (tr : List Post) → trace ≡ Some tr
      → Tells (rules_of act_of n profile) 0 (halted_status ran) es tr
  tells_halted settles (Ok x) sits left tr told =
      tells_left act_of 0 n profile t es trace here localities by [] 0 sits (omega arith) (λ a b c d. refl) tr told
  tells_halted settles (Err (Lines fault)) sits left tr told =
      tells_left act_of 0 n profile t es trace here localities by [] (status_of_lines fault) left.0 (omega arith) (λ a b c d. refl) tr told
  tells_halted settles (Err (Member stop)) sits left tr told =
      tells_ran act_of 0 n profile t es trace here localities by (Err stop) tt left.left tr told

  asked_here : (settles : Bool) (others : ℕ) → t.localities ≡ suc others → (ran : Result (Unit {0}) Halt)
      → OnOk ran (AsksBut (rules_of act_of t.localities t.profile) settles es trace (Ending others))
      → IfErr ran (λ halt. HaltsLeft act_of settles halt t es trace)
      → HasAsked (rules_of act_of t.localities t.profile) settles (halted_status ran) (halted_fault ran) es trace
  asked_here settles others members (Ok x) asks left = record { last = Ending others; asked = asks; ends = inl (refl, members) }
  asked_here settles others members (Err (Lines fault)) asks left = record { last = Nothing; asked = left.1; ends = (lines_some fault, none_left) }
  asked_here settles others members (Err (Member stop)) asks left =
      record { last = left.last; asked = left.asks; ends = closed t.localities stop left.last left.closes }

  pub asked_halted : (settles : Bool) (others : ℕ) → t.localities ≡ suc others → (ran : Result (Unit {0}) Halt)
      → OnOk ran (AsksBut (rules_of act_of t.localities t.profile) settles es trace (Ending others))
      → IfErr ran (λ halt. HaltsLeft act_of settles halt t es trace)
      → HasAsked (rules_of act_of n profile) settles (halted_status ran) (halted_fault ran) es trace
  asked_halted settles others members ran asks left =
      subst (λ r. HasAsked r settles (halted_status ran) (halted_fault ran) es trace) (rules_is act_of 0 n profile t es trace here localities by)
      (asked_here settles others members ran asks left)

  pub served_halted : (latest : Latest) (Went : List Talk → Type 0) (Broke : LineFault → List Talk → List Talk → Type 0) (ran : Result (Unit {0}) Halt)
      → OnOk ran (Serves (rules_of act_of t.localities t.profile) es (Only Went) Done)
      → IfErr ran (λ halt. (stage : Stage) × Serves (rules_of act_of t.localities t.profile) es (Saying Went Broke halt) stage × IsDueAt halt stage t latest)
      → HasServed (rules_of act_of n profile) (halted_status ran) es Went Broke
  served_halted latest Went Broke ran ok err =
      subst (λ r. HasServed r (halted_status ran) es Went Broke) (rules_is act_of 0 n profile t es trace here localities by) (served_here ran ok err)
    where
      served_here : (ran : Result (Unit {0}) Halt) → OnOk ran (Serves (rules_of act_of t.localities t.profile) es (Only Went) Done)
          → IfErr ran (λ halt. (stage : Stage) × Serves (rules_of act_of t.localities t.profile) es (Saying Went Broke halt) stage × IsDueAt halt stage t latest)
          → HasServed (rules_of act_of t.localities t.profile) (halted_status ran) es Went Broke
      served_here (Ok x) ok err = record { stage = Done; serves = inl (none_apart, ok); done = λ e. refl }
      served_here (Err (Lines fault)) ok err =
          record { stage = err.0; serves = inr (fault, refl, err.1); done = λ e. absurd (lines_some fault e) }
      served_here (Err (Member stop)) ok err = record { stage = err.0; serves = inl (stop_apart stop, err.1); done = λ e. absurd (stop_some stop e) }

  -- where there was no room, a turn was due
  pub due_halted : (latest : Latest) (Went : List Talk → Type 0) (Broke : LineFault → List Talk → List Talk → Type 0) (ran : Result (Unit {0}) Halt)
      → IfErr ran (λ halt. (stage : Stage) × Serves (rules_of act_of t.localities t.profile) es (Saying Went Broke halt) stage × IsDueAt halt stage t latest)
      → halted_status ran ≡ 5 → HasLineToFeed (rules_of act_of n profile) es Went ⊎ IsTurnDue t latest
  due_halted latest Went Broke (Ok x) err e = absurd (omega (arith, e))
  due_halted latest Went Broke (Err (Lines line_faults.Read)) err e = absurd (omega (arith, e))
  due_halted latest Went Broke (Err (Lines line_faults.Write)) err e = absurd (omega (arith, e))
  due_halted latest Went Broke (Err (Lines line_faults.OutOfMemory)) err e = absurd (omega (arith, e))
  due_halted latest Went Broke (Err (Lines line_faults.InputFull)) err e = absurd (omega (arith, e))
  due_halted latest Went Broke (Err (Member Link)) err e = absurd (omega (arith, e))
  due_halted latest Went Broke (Err (Member OutOfMemory)) err e = absurd (omega (arith, e))
  due_halted latest Went Broke (Err (Member (Fault (BadFrame from at why)))) err e = absurd (omega (arith, e))
  due_halted latest Went Broke (Err (Member (Fault (Strange from rule object kept)))) err e = absurd (omega (arith, e))
  due_halted latest Went Broke (Err (Member (Fault (OutOfPlace from)))) err e = absurd (omega (arith, e))
  due_halted latest Went Broke (Err (Member (Fault Waves))) err e = absurd (omega (arith, e))
  due_halted latest Went Broke (Err (Member JournalFull)) (stage, serves, inl turn) e = inr turn
  due_halted latest Went Broke (Err (Member JournalFull)) (stage, serves, inr given) e =
      inl (subst (λ r. HasLineToFeed r es Went) (rules_is act_of 0 n profile t es trace here localities by)
      (line_to_feed (rules_of act_of t.localities t.profile) es Went stage serves given))

-- nothing was asked
pub asked_unbooted : (r : Rules) (settles : Bool) (status : ℕ) (fault : Option MemberFault) (es : List Entry) (trace : Option (List Post)) → status ≡ 6 → fault ≡ None → es ≡ []
    → ((tr : List Post) → trace ≡ Some tr → tr ≡ []) → HasAsked r settles status fault es trace
asked_unbooted r settles status fault es trace is faultless none empty = record {
  last = Nothing;
  asked = asks_whole r settles Unfed (Unit {0}) es trace trace (fresh r.localities) (asks_first r settles (Unit {0}) es trace (fresh r.localities) none empty refl);
  ends = (λ zero. omega (arith, is, zero), λ e. none_left (sym faultless ∙ e));
}

-- ---- as it is left

module _ (act_of : Meaning) (n : ℕ) (profile : Profile) (t : Tables) (es : List Entry) (trace : Option (List Post)) (here : t.here ≡ 0)
    (localities : t.localities ≡ n) (by : t.profile ≡ profile) (ran : Result (Unit {0}) Halt) where
  pub asked_end : (settles settles' : Bool) (others status : ℕ) (fault : Option MemberFault) (es' : List Entry) (trace' : Option (List Post))
      → t.localities ≡ suc others → OnOk ran (AsksBut (rules_of act_of t.localities t.profile) settles es trace (Ending others))
      → IfErr ran (λ halt. HaltsLeft act_of settles halt t es trace) → settles ≡ settles' → status ≡ halted_status ran → fault ≡ halted_fault ran → es' ≡ es
      → trace' ≡ trace → HasAsked (rules_of act_of n profile) settles' status fault es' trace'
  asked_end settles settles' others status fault es' trace' members asks left same is fault_is entries traces =
      subst (λ s. HasAsked (rules_of act_of n profile) s status fault es' trace') same
      (subst (λ x. HasAsked (rules_of act_of n profile) settles x fault es' trace') (sym is)
      (subst (λ x. HasAsked (rules_of act_of n profile) settles (halted_status ran) x es' trace') (sym fault_is)
      (subst (λ x. HasAsked (rules_of act_of n profile) settles (halted_status ran) (halted_fault ran) x trace') (sym entries)
      (subst (λ x. HasAsked (rules_of act_of n profile) settles (halted_status ran) (halted_fault ran) es x) (sym traces)
      (asked_halted act_of n profile t es trace here localities by settles others members ran asks left)))))

  pub served_end : (latest : Latest) (Went : List Talk → Type 0) (Broke : LineFault → List Talk → List Talk → Type 0) (status : ℕ) (es' : List Entry)
      → OnOk ran (Serves (rules_of act_of t.localities t.profile) es (Only Went) Done)
      → IfErr ran (λ halt. (stage : Stage) × Serves (rules_of act_of t.localities t.profile) es (Saying Went Broke halt) stage × IsDueAt halt stage t latest)
      → status ≡ halted_status ran → es' ≡ es → HasServed (rules_of act_of n profile) status es' Went Broke
  served_end latest Went Broke status es' ok err is entries =
      subst (λ x. HasServed (rules_of act_of n profile) x es' Went Broke) (sym is)
      (subst (λ x. HasServed (rules_of act_of n profile) (halted_status ran) x Went Broke) (sym entries)
      (served_halted act_of n profile t es trace here localities by latest Went Broke ran ok err))

  pub due_end : (latest : Latest) (Went : List Talk → Type 0) (Broke : LineFault → List Talk → List Talk → Type 0) (status : ℕ) (es' : List Entry)
      (latest' : Latest)
      → IfErr ran (λ halt. (stage : Stage) × Serves (rules_of act_of t.localities t.profile) es (Saying Went Broke halt) stage × IsDueAt halt stage t latest)
      → status ≡ halted_status ran → es' ≡ es → latest' ≡ latest → status ≡ 5 → HasLineToFeed (rules_of act_of n profile) es' Went ⊎ IsTurnDue t latest'
  due_end latest Went Broke status es' latest' err is entries last full =
      subst (λ x. HasLineToFeed (rules_of act_of n profile) x Went ⊎ IsTurnDue t latest') (sym entries)
      (subst (λ x. HasLineToFeed (rules_of act_of n profile) es Went ⊎ IsTurnDue t x) (sym last)
      (due_halted act_of n profile t es trace here localities by latest Went Broke ran err (sym is ∙ full)))

  pub rest_end : (status : ℕ) (es' : List Entry) → OnOk ran (Sits act_of t es [] trace) → OnOk ran (IsReady t) → status ≡ halted_status ran → es' ≡ es
      → status ≡ 0 → IsIdleBehind (rules_of act_of n profile) es'
  rest_end status es' sits ready is entries zero =
      subst (IsIdleBehind (rules_of act_of n profile)) (sym entries)
      (subst (λ r. IsIdleBehind r es) (rules_is act_of 0 n profile t es trace here localities by) (rested ran sits ready (sym is ∙ zero)))
    where
      rested : (ran : Result (Unit {0}) Halt) → OnOk ran (Sits act_of t es [] trace) → OnOk ran (IsReady t) → halted_status ran ≡ 0
          → IsIdleBehind (rules_of act_of t.localities t.profile) es
      rested (Ok x) sits ready e = idle_ready act_of 0 true Unfed t es trace here sits ready
      rested (Err halt) sits ready e = absurd (halt_some halt e)

-- ---- the faults of lines

lines_cause : (fault : LineFault) (reads reads' writes writes' : ℕ) (full : Bool) → IsLineCause reads reads' writes writes' full fault
    → HasLineCause (status_of_lines fault) reads reads' writes writes' full
lines_cause line_faults.Read reads reads' writes writes' full h = record {
  read = λ e. h.0;
  write = λ e. absurd (omega (arith, e));
  ended = λ e. absurd (omega (arith, e));
  read_only = λ e. absurd (e refl);
  write_only = λ e. h.1;
}
lines_cause line_faults.Write reads reads' writes writes' full h = record {
  read = λ e. absurd (omega (arith, e));
  write = λ e. h.0;
  ended = λ e. absurd (omega (arith, e));
  read_only = λ e. h.1;
  write_only = λ e. absurd (e refl);
}
lines_cause line_faults.OutOfMemory reads reads' writes writes' full h = record {
  read = λ e. absurd (omega (arith, e));
  write = λ e. absurd (omega (arith, e));
  ended = λ e. absurd (omega (arith, e));
  read_only = λ e. h.0;
  write_only = λ e. h.1;
}
lines_cause line_faults.InputFull reads reads' writes writes' full h = record {
  read = λ e. absurd (omega (arith, e));
  write = λ e. absurd (omega (arith, e));
  ended = λ e. h.0;
  read_only = λ e. h.1;
  write_only = λ e. h.2;
}

-- no fault of lines
calm_cause : (status reads reads' writes writes' : ℕ) (full : Bool) → status ≢ 2 → status ≢ 3 → status ≢ 9 → reads' ≡ reads → writes' ≡ writes
    → HasLineCause status reads reads' writes writes' full
calm_cause status reads reads' writes writes' full two three nine r w = record {
  read = λ e. absurd (two e);
  write = λ e. absurd (three e);
  ended = λ e. absurd (nine e);
  read_only = λ e. r;
  write_only = λ e. w;
}

pub lines_end : (ran : Result (Unit {0}) Halt) (t : Tables) (es : List Entry) (latest : Latest) (reads reads' writes writes' : ℕ) (full : Bool)
    (before after status : ℕ) → OnOk ran ((after ≡ before) × (reads' ≡ reads) × (writes' ≡ writes))
    → IfErr ran (IsHaltCause t es latest reads reads' writes writes' full before after) → status ≡ halted_status ran
    → HasLineCause status reads reads' writes writes' full
lines_end (Ok x) t es latest reads reads' writes writes' full before after status calm cause is =
    calm_cause status reads reads' writes writes' full (λ e. omega (arith, is, e)) (λ e. omega (arith, is, e)) (λ e. omega (arith, is, e)) calm.1 calm.2
lines_end (Err (Lines fault)) t es latest reads reads' writes writes' full before after status calm cause is =
    subst (λ x. HasLineCause x reads reads' writes writes' full) (sym is) (lines_cause fault reads reads' writes writes' full cause.0)
lines_end (Err (Member stop)) t es latest reads reads' writes writes' full before after status calm cause is =
    subst (λ x. HasLineCause x reads reads' writes writes' full) (sym is)
    (calm_cause (status_of stop) reads reads' writes writes' full (stop_apart stop).0 (stop_apart stop).1 (stop_apart stop).2 cause.1 cause.2)
