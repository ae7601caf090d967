-- Each step writes exactly one entry that begins it.
use Rattle.std.proofs.Common.{ℕ, true, List, [], ◌∷◌, ◌++◌, ◌+◌, ◌≡◌, refl, sym, ap, ◌∙◌, inl, inr, arith, length, Option, append-nil, append_assoc}
use Rattle.std.proofs.lemmas.List.Sums.{sum_by-cons, sum_by-append}
use Rattle.hpx_value.specs.Ids.{bare}
use Rattle.hpx_value.specs.Riders.{plain}
use Rattle.hpx_value.specs.declared.acts.Job.{Job}
use Rattle.hpx_journal.specs.Data.{Outcome}
use Rattle.hpx_journal.specs.Entries.{Frame, name_of, target_of}
use Rattle.hpx_journal.specs.Laws.{count_events, entry_at}
use Rattle.hpx_part.specs.Data.{Event, Entry, Fire, Left, Out, In, Mail}
use Rattle.hpx_part.specs.Parts.{at_all}
use Rattle.hpx_part.proofs.Keyed.{counts_of}
use Rattle.hpx_tables.specs.Splits.{asked_events}
use Rattle.hpx_tables.specs.Tables.{Tables}
use Rattle.hpx_steps.specs.Calls.{effects}
use Rattle.hpx_steps.specs.Rows.{kind_of, one_if}
use Rattle.hpx_node.specs.Asks.{splits_before, lacking}
use Rattle.hpx_node.specs.Changes.{Writes}
use Rattle.hpx_node.specs.Commits.{seen, committed}
use Rattle.hpx_node.specs.Handled.{Tends}
use Rattle.hpx_node.specs.declared.parts.Finished.TheVariants.{Committed, Asking, NotRunning}
use Rattle.hpx_world.specs.declared.turns.Turned.{Turned}
use Rattle.hpx_world.specs.declared.turns.Turned.TheVariants as turned
use Rattle.hpx_world.specs.Away.{Fetches, Puts}
use Rattle.hpx_world.specs.Sound.{Meaning}
use Rattle.hpx_world.specs.Stages.{Stage}
use Rattle.hpx_world.specs.Steps.{DidStep, AreSteps}
use Rattle.hpx_world.specs.Turns.{DidFire, DidFinish, DidDesk, DidPump, DidTake}
use Rattle.hpx_hold.specs.Turns.{begins_step}
use Rattle.hpx_hold.proofs.Written.{BeginNone, committed_none, begins_none, dealt_none}

-- the journal grew by entries of which so many begin a step
pub record AddsSteps (n : ℕ) (old new : List Entry) : Type 0 where
  pub more : List Entry
  pub is : new ≡ old ++ more
  pub count : count_events begins_step more ≡ n

adds_none : (a b : List Entry) → b ≡ a → AddsSteps 0 a b
adds_none a b h = record { more = []; is = h ∙ sym (append-nil a); count = refl }

adds_then : (m n : ℕ) (a b c : List Entry) → AddsSteps m a b → AddsSteps n b c → AddsSteps (m + n) a c
adds_then m n a b c g h = record {
  more = g.more ++ h.more;
  is = h.is ∙ (ap (λ xs. xs ++ h.more) g.is ∙ append_assoc a g.more h.more);
  count = omega (arith, g.count, h.count, sum_by-append (counts_of (λ (e : Entry). begins_step e.event)) g.more h.more);
}

-- ---- one call

none_begin : (k : ℕ) (es : List Event) → BeginNone es → count_events begins_step (at_all k es) ≡ 0
none_begin k [] h = refl
none_begin k (e ∷ es) h = omega (
  arith,
  none_begin k es h.1,
  ap one_if h.0,
  sum_by-cons (counts_of (λ (x : Entry). begins_step x.event)) (entry_at k e) (at_all k es),
)

none_writes : (events : List Event) (t t' : Tables) (es es' : List Entry) → Writes events t t' es es' → BeginNone events → AddsSteps 0 es es'
none_writes events t t' es es' w h = record { more = at_all t.here events; is = w.grows; count = none_begin t.here events h }

one_writes : (e : Event) (events : List Event) (t t' : Tables) (es es' : List Entry) → Writes (e ∷ events) t t' es es' → begins_step e ≡ true → BeginNone events
    → AddsSteps 1 es es'
one_writes e events t t' es es' w first h = record {
  more = at_all t.here (e ∷ events);
  is = w.grows;
  count = omega (
    arith,
    none_begin t.here events h,
    ap one_if first,
    sum_by-cons (counts_of (λ (x : Entry). begins_step x.event)) (entry_at t.here e) (at_all t.here events),
  );
}

-- ---- turns

module _ (nodes nodes' : List Tables) (es es' : List Entry) where
  fired_adds : (k : ℕ) (job : Job) → DidFire k (turned.Fired job) nodes nodes' es es' → AddsSteps 1 es es'
  fired_adds k job h = one_writes (Fire (name_of job.action)) [] h.before h.after es es' h.does.writes refl tt

  finished_adds : (n : ℕ) (job : Job) (out : Outcome) (x : Turned) → DidFinish n job out x nodes nodes' es es' → AddsSteps 0 es es'
  finished_adds n job out (turned.Finished Committed) h =
      none_writes (committed h.1.before job out) h.1.before h.1.after es es' h.1.does.writes (committed_none h.1.before job out)
  finished_adds n job out (turned.Finished Asking) h =
      let t = h.1.before in
      none_writes (splits_before t (seen job) out ++ asked_events (lacking t (seen job) out)) t h.1.after es es' h.1.does.begins.writes (begins_none t (seen job) out)
  finished_adds n job out (turned.Finished NotRunning) h = adds_none es es' h.0.journal
  finished_adds n job out _ h = absurd h

  tends_adds : (t t' : Tables) → Tends t t' es es' → AddsSteps 1 es es'
  tends_adds t t' (inl d) = one_writes (Left (bare (target_of d.act)) d.to) [] t t' es es' d.writes refl tt
  tends_adds t t' (inr k) =
      let c = k.1 in
      one_writes (Mail (kind_of c.parcel)) (effects t c.parcel ++ c.more) t t' es es' c.writes refl
      (dealt_none t c.parcel (record t { desk = c.rest }) c.mid c.done c.more c.continues)

  cleared_adds : (k : ℕ) → DidDesk k turned.Moved nodes nodes' es es' → AddsSteps 1 es es'
  cleared_adds k h = tends_adds h.before h.after h.does

  pumped_adds : (Put : Option Frame → Type 0) (k : ℕ) → DidPump Put k turned.Moved nodes nodes' es es' → AddsSteps 1 es es'
  pumped_adds Put k h = let d = h.2 in one_writes (Out h.0.0 h.0.1) [] d.before d.after es es' d.does.writes refl tt

  took_adds : (Got : Option Frame → Type 0) → DidTake Got turned.Moved nodes nodes' es es' → AddsSteps 1 es es'
  took_adds Got h =
      let d = h.2 in
      let c = d.does in
      one_writes (In h.0.1) (effects d.before c.parcel ++ c.more) d.before d.after es es' c.writes refl
      (dealt_none d.before c.parcel (record d.before { taken = d.before.taken + 1 }) c.mid c.done c.more c.continues)

-- ---- steps

step_adds : (act_of : Meaning) (x z : Stage) → DidStep act_of x z → AddsSteps 1 x.entries z.entries
step_adds act_of x z (room, inl (w, out)) =
    let d = w.did in
    adds_then 1 0 x.entries d.between z.entries (fired_adds x.nodes d.mid x.entries d.between w.k d.job d.fired)
    (finished_adds d.mid z.nodes d.between z.entries (length x.nodes) d.job
    (act_of (length x.nodes) d.job.kind d.job.at d.job.state (plain d.job.action)) (turned.Finished d.how) d.finished)
step_adds act_of x z (room, inr (inl (none, w, out))) = cleared_adds x.nodes z.nodes x.entries z.entries w.k w.did
step_adds act_of x z (room, inr (inr (inl (none, w, out)))) =
    pumped_adds x.nodes z.nodes x.entries z.entries (Puts w.k x.outside.flight z.outside.flight x.outside.trace z.outside.trace) w.k w.did
step_adds act_of x z (room, inr (inr (inr (none, d, out)))) =
    took_adds x.nodes z.nodes x.entries z.entries (Fetches x.outside.hand x.outside.flight z.outside.flight x.outside.trace z.outside.trace) d

-- as many as there are steps
pub steps_add : (act_of : Meaning) (x : Stage) (between : List Stage) (z : Stage) → AreSteps act_of x between z → AddsSteps (length between) x.entries z.entries
steps_add act_of x [] z is = adds_none x.entries z.entries (ap (λ (s : Stage). s.entries) is)
steps_add act_of x (y ∷ ys) z (first, last) =
    let all = adds_then (length ys) 1 x.entries y.entries z.entries (steps_add act_of x ys y first) (step_adds act_of y z last) in
    record { more = all.more; is = all.is; count = omega (arith, all.count) }
