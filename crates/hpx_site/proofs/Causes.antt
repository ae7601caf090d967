-- Why a site stands still, from why a turn or steps were refused.
use Rattle.std.specs.Prelude.{IfSome}
use Rattle.std.proofs.Common.{ℕ, ◌≡◌, ◌≢◌, ◌∙◌, ◌⊎◌, List, Option, Some, None, Err, sym, subst, sum_by, inl, inr}
use Rattle.hpx_value.specs.declared.acts.Acts.{Ghosts}
use Rattle.hpx_value.specs.declared.acts.Done.{Done}
use Rattle.hpx_journal.specs.Weights.{HasRoom}
use Rattle.hpx_tables.specs.Tables.{Tables}
use Rattle.hpx_world.specs.declared.turns.WorldFault.{WorldFault}
use Rattle.hpx_world.specs.declared.turns.WorldFault.TheVariants as faults
use Rattle.hpx_world.specs.declared.turns.Choice.{Choice}
use Rattle.hpx_world.specs.declared.turns.Choice.TheVariants as choices
use Rattle.hpx_world.specs.Heard.{HearsEnd}
use Rattle.hpx_world.specs.Quiet.{IsQuiet}
use Rattle.hpx_world.specs.Refusals.{Stays, StaysAll, IsFull, Refused, RefusedBy, RefusedDesk, RefusedDrain, RefusedFire, RefusedFeed, RefusedFinish, RefusedPump, RefusedTake, CountsFaults, FeedsNoLine, LacksMemory}
use Rattle.hpx_world.specs.Sound.{Meaning}
use Rattle.hpx_world.specs.Stages.{Stage}
use Rattle.hpx_node.specs.Handled.{HasNothingToTend}
use Rattle.hpx_world.specs.Steps.{AtFirst, IsEarly, IsHeld, NoneFires, NonePumps}
use Rattle.hpx_world.specs.Turns.{IsStrangeMail}
use Rattle.hpx_site.specs.Seen.{Seen, stage_of}
use Rattle.hpx_site.specs.Held.{IsCause, IsOutAt, LeavesRoom, WantsMemory}
use Rattle.hpx_world.proofs.Refused.{to_fire_same, to_send_same, to_tend_same}

-- a world is not quiet where not as many were taken as sent
not_quiet : (nodes : List Tables) (hand : _) (s t : ℕ) → s ≡ sum_by (λ (n : Tables). n.sent) nodes → t ≡ sum_by (λ (n : Tables). n.taken) nodes → s ≢ t → IsQuiet nodes hand → ⊥
not_quiet nodes hand s t a b other q = other (a ∙ sym q.taken ∙ sym b)

still_full : (x z : Stage) (e w : ℕ) → StaysAll x z → IsFull x e w → IsFull z e w
still_full x z e w same full =
    subst (λ es. IsFull (record { outside = z.outside; nodes = z.nodes; entries = es }) e w) (sym same.0.journal) (record { full = full.full; entries_are = full.entries_are; weight_is = full.weight_is })

-- a Take that ends early
early : (x z : Seen) (s t : ℕ) → Stays (stage_of x) (stage_of z) → s ≡ sum_by (λ (n : Tables). n.sent) x.world.nodes → t ≡ sum_by (λ (n : Tables). n.taken) x.world.nodes → s ≢ t
    → (s ≡ sum_by (λ (n : Tables). n.sent) z.world.nodes) × (t ≡ sum_by (λ (n : Tables). n.taken) z.world.nodes) × (IsQuiet z.world.nodes z.world.hand → ⊥)
early x z s t same sent taken other =
    let a : s ≡ sum_by (λ (n : Tables). n.sent) z.world.nodes = subst (λ ns. s ≡ sum_by (λ (n : Tables). n.sent) ns) (sym same.tables) sent in
    let b : t ≡ sum_by (λ (n : Tables). n.taken) z.world.nodes = subst (λ ns. t ≡ sum_by (λ (n : Tables). n.taken) ns) (sym same.tables) taken in
    (a, b, not_quiet z.world.nodes z.world.hand s t a b other)

none_some : {X : Type 0} (x : X) → ◌≡◌ {A = Option X} None (Some x) → ⊥
none_some x e = cc

module _ {A : Type 0} {g : Ghosts A} (x z : Seen) where
  -- a turn
  pub turn_cause : (c : Choice A g) → FeedsNoLine c → (f : WorldFault A g) → Refused c f (stage_of x) (stage_of z) → CountsFaults {T = ℕ} (Err f) x.faults z.faults → HearsEnd f z.latest → IsCause x z f
  turn_cause c fed faults.Fabric h counts heard = counts
  turn_cause c fed (faults.JournalFull e w job_back) h counts heard = still_full (stage_of x) (stage_of z) e w h.0 h.1
  turn_cause c fed (faults.BadFrame to place why) h counts heard = each c h.1
    where
      each : (c : Choice A g) → RefusedBy c (faults.BadFrame to place why) (stage_of x) (stage_of z) → IsCause {A = A} {g = g} x z (faults.BadFrame to place why)
      each choices.Take r = r.1
      each (choices.Feed line) r = absurd r
      each (choices.Fire k) r = absurd r
      each (choices.Finish done) r = absurd r
      each (choices.Desk k) r = absurd r
      each (choices.Pump k) r = absurd r
  turn_cause c fed (faults.Strange to rule object kept) h counts heard = each c h.1
    where
      each : (c : Choice A g) → RefusedBy c (faults.Strange to rule object kept) (stage_of x) (stage_of z) → IsCause {A = A} {g = g} x z (faults.Strange to rule object kept)
      each choices.Take r = inl r.1
      each (choices.Desk k) r = inr (subst (λ n. IsStrangeMail z.world.nodes n rule object kept) (sym r.1) r.2)
      each (choices.Feed line) r = absurd r
      each (choices.Fire k) r = absurd r
      each (choices.Finish done) r = absurd r
      each (choices.Pump k) r = absurd r
  turn_cause c fed (faults.EarlyEnd s t) h counts heard = each c h.1
    where
      each : (c : Choice A g) → RefusedBy c (faults.EarlyEnd s t) (stage_of x) (stage_of z) → IsCause {A = A} {g = g} x z (faults.EarlyEnd s t)
      each choices.Take r = let e = early x z s t r.0 r.2 r.3 r.4 in (r.1, e.0, e.1, e.2, heard)
      each (choices.Feed line) r = absurd r
      each (choices.Fire k) r = absurd r
      each (choices.Finish done) r = absurd r
      each (choices.Desk k) r = absurd r
      each (choices.Pump k) r = absurd r
  turn_cause c fed (faults.OutOfMemory None) h counts heard = each c fed h.1
    where
      each : (c : Choice A g) → FeedsNoLine c → RefusedBy c (faults.OutOfMemory None) (stage_of x) (stage_of z) → IsCause {A = A} {g = g} x z (faults.OutOfMemory None)
      each (choices.Fire k) fed r = inl (k, r.2)
      each (choices.Desk k) fed r = inr (inl (k, r.2))
      each (choices.Pump k) fed r = inr (inr (inl (k, r.2)))
      each choices.Take fed r = inr (inr (inr r.2))
      each (choices.Finish done) fed r = absurd (none_some done r.1)
      each (choices.Feed line) fed r = absurd fed
  turn_cause c fed (faults.OutOfMemory (Some d)) h counts heard = each c fed h.1
    where
      each : (c : Choice A g) → FeedsNoLine c → RefusedBy c (faults.OutOfMemory (Some d)) (stage_of x) (stage_of z) → IsCause {A = A} {g = g} x z (faults.OutOfMemory (Some d))
      each (choices.Finish done) fed r = subst (λ (o : Option (Done A g)). IfSome o (λ y. IsOutAt z.world.nodes y.job)) (sym r.1) r.2.1
      each (choices.Fire k) fed r = absurd (none_some d (sym r.1))
      each (choices.Desk k) fed r = absurd (none_some d (sym r.1))
      each (choices.Pump k) fed r = absurd (none_some d (sym r.1))
      each choices.Take fed r = absurd (none_some d (sym r.1))
      each (choices.Feed line) fed r = absurd fed
  turn_cause c fed (faults.NotRun job) h counts heard = tt

  -- steps
  pub steps_cause : (act_of : Meaning) (f : WorldFault A g) → RefusedDrain act_of f (stage_of x) (stage_of z) → CountsFaults {T = ℕ} (Err f) x.faults z.faults → HearsEnd f z.latest → IsCause x z f
  steps_cause act_of faults.Fabric h counts heard = counts
  steps_cause act_of (faults.JournalFull e w None) h counts heard = still_full h.last (stage_of z) e w h.thus.0 h.thus.1
  steps_cause act_of (faults.JournalFull e w (Some done)) h counts heard = h.thus.2
  steps_cause act_of (faults.BadFrame to place why) h counts heard = h.thus.2.1
  steps_cause act_of (faults.Strange to rule object kept) h counts heard = each h.last h.thus.1
    where
      each : (last : Stage) → ((NonePumps last × RefusedTake {A = A} {g = g} (faults.Strange to rule object kept) last (stage_of z))
          ⊎ (NoneFires last × AtFirst HasNothingToTend (λ k. RefusedDesk {A = A} {g = g} k (faults.Strange to rule object kept) last (stage_of z)) last.nodes))
          → IsCause {A = A} {g = g} x z (faults.Strange to rule object kept)
      each last (inl t) = inl t.1.1
      each last (inr d) = inr (subst (λ k. IsStrangeMail z.world.nodes k rule object kept) (sym d.1.did.1) d.1.did.2)
  steps_cause act_of (faults.EarlyEnd s t) h counts heard = ends h.1
    where
      ends : IsEarly z.world.nodes z.world.hand z.flight s t → IsCause {A = A} {g = g} x z (faults.EarlyEnd s t)
      ends e = (e.idle.hand, e.sent, e.taken, why e.why, heard)
        where
          why : ((s ≢ t) ⊎ ((s ≡ t) × IsHeld z.world.nodes z.world.hand z.flight)) → IsQuiet z.world.nodes z.world.hand → ⊥
          why (inl other) = not_quiet z.world.nodes z.world.hand s t e.sent e.taken other
          why (inr held) = held.1.waits
  steps_cause act_of (faults.OutOfMemory None) h counts heard = wants h.last h.thus.1.0 h.thus.2
    where
      wants : (last : Stage) → Stays last (stage_of z) → LacksMemory last (stage_of z) → WantsMemory z
      wants last same (inl f) = inl (f.0.k, to_fire_same last.nodes z.world.nodes f.0.k same.tables f.0.did)
      wants last same (inr (inl d)) = inr (inl (d.1.k, to_tend_same last.nodes z.world.nodes d.1.k same.tables d.1.did))
      wants last same (inr (inr (inl p))) = inr (inr (inl (p.1.k, to_send_same last.nodes z.world.nodes p.1.k same.tables p.1.did)))
      wants last same (inr (inr (inr t))) = inr (inr (inr t.1))
  steps_cause act_of (faults.OutOfMemory (Some done)) h counts heard = let o = h.thus.2.did.out in (o.t, o.there, o.runs)
  steps_cause act_of (faults.NotRun job) h counts heard = tt

-- a turn that is refused for another cause than a full journal leaves the nodes and the journal
take_stays : {A : Type 0} {g : Ghosts A} (f : WorldFault A g) (x z : Stage) → RefusedTake f x z → Stays x z
take_stays faults.Fabric x z r = r.0
take_stays (faults.BadFrame to place why) x z r = r.0.0
take_stays (faults.Strange to rule object kept) x z r = r.0.0
take_stays (faults.EarlyEnd s t) x z r = r.0
take_stays (faults.OutOfMemory job_back) x z r = r.0.0
take_stays _ x z r = absurd r

desk_stays : {A : Type 0} {g : Ghosts A} (k : ℕ) (f : WorldFault A g) (x z : Stage) → RefusedDesk k f x z → Stays x z
desk_stays k (faults.Strange to rule object kept) x z r = r.0.0
desk_stays k (faults.OutOfMemory job_back) x z r = r.0.0
desk_stays k _ x z r = absurd r

pump_stays : {A : Type 0} {g : Ghosts A} (k : ℕ) (f : WorldFault A g) (x z : Stage) → RefusedPump k f x z → Stays x z
pump_stays k faults.Fabric x z r = r.0.0
pump_stays k (faults.OutOfMemory job_back) x z r = r.0.0
pump_stays k _ x z r = absurd r

fire_stays : {A : Type 0} {g : Ghosts A} (k : ℕ) (f : WorldFault A g) (x z : Stage) → RefusedFire k f x z → Stays x z
fire_stays k (faults.OutOfMemory job_back) x z r = r.0.0
fire_stays k _ x z r = absurd r

feed_stays : {A : Type 0} {g : Ghosts A} (f : WorldFault A g) (x z : Stage) → RefusedFeed f x z → Stays x z
feed_stays (faults.OutOfMemory job_back) x z r = r.0.0
feed_stays _ x z r = absurd r

job_stays : {A : Type 0} {g : Ghosts A} (done : Done A g) (f : WorldFault A g) (x z : Stage) → RefusedFinish done f x z → Stays x z
job_stays done (faults.OutOfMemory job_back) x z r = r.0.0
job_stays done _ x z r = absurd r

stays_by : {A : Type 0} {g : Ghosts A} (c : Choice A g) (f : WorldFault A g) (x z : Stage) → RefusedBy c f x z → Stays x z
stays_by (choices.Feed line) f x z r = feed_stays f x z r
stays_by (choices.Fire k) f x z r = fire_stays k f x z r
stays_by (choices.Finish done) f x z r = job_stays done f x z r
stays_by (choices.Desk k) f x z r = desk_stays k f x z r
stays_by (choices.Pump k) f x z r = pump_stays k f x z r
stays_by choices.Take f x z r = take_stays f x z r

has_still : (x z : Stage) → Stays x z → HasRoom x.entries → HasRoom z.entries
has_still x z same room = subst (λ es. HasRoom es) (sym same.journal) room

module _ {A : Type 0} {g : Ghosts A} (z : Seen) where
  -- a turn
  pub turn_room : (x : Seen) (c : Choice A g) (f : WorldFault A g) → Refused c f (stage_of x) (stage_of z) → LeavesRoom z f
  turn_room x c faults.Fabric h = has_still (stage_of x) (stage_of z) (stays_by c faults.Fabric (stage_of x) (stage_of z) h.1) h.0
  turn_room x c (faults.JournalFull e w job_back) h = tt
  turn_room x c (faults.BadFrame to place why) h =
      has_still (stage_of x) (stage_of z) (stays_by c (faults.BadFrame to place why) (stage_of x) (stage_of z) h.1) h.0
  turn_room x c (faults.Strange to rule object kept) h =
      has_still (stage_of x) (stage_of z) (stays_by c (faults.Strange to rule object kept) (stage_of x) (stage_of z) h.1) h.0
  turn_room x c (faults.EarlyEnd s t) h = has_still (stage_of x) (stage_of z) (stays_by c (faults.EarlyEnd s t) (stage_of x) (stage_of z) h.1) h.0
  turn_room x c (faults.OutOfMemory job_back) h =
      has_still (stage_of x) (stage_of z) (stays_by c (faults.OutOfMemory job_back) (stage_of x) (stage_of z) h.1) h.0
  turn_room x c (faults.NotRun job) h = tt

  -- steps
  pub steps_room : (act_of : Meaning) (x : Stage) (f : WorldFault A g) → RefusedDrain act_of f x (stage_of z) → LeavesRoom z f
  steps_room act_of x faults.Fabric h = has_still h.last (stage_of z) h.thus.2.0 h.thus.0
  steps_room act_of x (faults.JournalFull e w job_back) h = tt
  steps_room act_of x (faults.BadFrame to place why) h = has_still h.last (stage_of z) h.thus.2.0.0 h.thus.0
  steps_room act_of x (faults.Strange to rule object kept) h = has_still h.last (stage_of z) (each h.last h.thus.1) h.thus.0
    where
      each : (last : Stage) → ((NonePumps last × RefusedTake {A = A} {g = g} (faults.Strange to rule object kept) last (stage_of z))
          ⊎ (NoneFires last × AtFirst HasNothingToTend (λ k. RefusedDesk {A = A} {g = g} k (faults.Strange to rule object kept) last (stage_of z)) last.nodes))
          → Stays last (stage_of z)
      each last (inl t) = t.1.0.0
      each last (inr d) = d.1.did.0.0
  steps_room act_of x (faults.EarlyEnd s t) h = h.0
  steps_room act_of x (faults.OutOfMemory None) h = has_still h.last (stage_of z) h.thus.1.0 h.thus.0
  steps_room act_of x (faults.OutOfMemory (Some done)) h = h.thus.1
  steps_room act_of x (faults.NotRun job) h = tt
