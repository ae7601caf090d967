-- One step, by the turn that was made first; and one that is refused.
use Rattle.std.specs.Prelude.{Some, None, take, length, ◌-◌}
use Rattle.std.proofs.Common.{ℕ, ◌≡◌, ◌<◌, refl, sym, ap, ◌∙◌, subst, inl, inr, arith}
use Rattle.std.specs.List.{AllByRecursion, sum_by}
use Rattle.hpx_value.specs.Riders.{plain}
use Rattle.hpx_tables.specs.Tables.{Tables}
use Rattle.hpx_value.specs.declared.acts.Acts.{Ghosts}
use Rattle.hpx_journal.specs.Weights.{HasRoom}
use Rattle.hpx_world.specs.declared.turns.WorldFault.{WorldFault}
use Rattle.hpx_world.specs.declared.turns.WorldFault.TheVariants as faults
use Rattle.hpx_world.specs.declared.turns.Choice.TheVariants as choices
use Rattle.hpx_world.specs.declared.turns.Turned.TheVariants as turned
use Rattle.hpx_world.specs.Away.{Fetches, Puts}
use Rattle.hpx_world.specs.Quiet.{IsStuck, SendsNothing}
use Rattle.hpx_node.specs.Handled.{HasNothingToTend}
use Rattle.hpx_world.specs.Sound.{Meaning}
use Rattle.hpx_world.specs.Stages.{Stage}
use Rattle.hpx_world.specs.Steps.{DidWork, DidStep, Goes, NoneFires, NoneClears, NonePumps}
use Rattle.hpx_world.specs.Refusals.{Refused, RefusedWork, RefusedStep, RefusedDrain}
use Rattle.hpx_world.specs.Turns.{DidDesk, DidPump, DidTake, IsStrangeMail}
use Rattle.hpx_world.proofs.Refused.{to_tend_same, to_fire_same, to_send_same}
use Rattle.hpx_world.proofs.Counts.{none_fetched}
use Rattle.hpx_world.proofs.Unfed.{unfed_le, fired_longer, finished_unfed, cleared_longer, pumped_longer, took_longer}

module _ (act_of : Meaning) (k : ℕ) (x z : Stage) where
  pub first_works : (y : Stage) → y ≡ x → AllByRecursion IsStuck (take k x.nodes) → HasRoom y.entries × DidWork act_of k y z × (z.outside ≡ y.outside)
      → DidStep act_of x z
  first_works y e before d =
      let d' = subst (λ (s : Stage). HasRoom s.entries × DidWork act_of k s z × (z.outside ≡ s.outside)) e d in
      (d'.0, inl (record { k = k; before = before; did = d'.1 }, d'.2))

  pub first_clears : (y : Stage) → y ≡ x → NoneFires x → AllByRecursion HasNothingToTend (take k x.nodes) → HasRoom y.entries
      → DidDesk k turned.Moved y.nodes z.nodes y.entries z.entries → z.outside ≡ y.outside → DidStep act_of x z
  first_clears y e none before room d out = (
    subst (λ (s : Stage). HasRoom s.entries) e room,
    inr (inl (
      none,
      record { k = k; before = before; did = subst (λ (s : Stage). DidDesk k turned.Moved s.nodes z.nodes s.entries z.entries) e d },
      subst (λ (s : Stage). z.outside ≡ s.outside) e out,
    )),
  )

  pub first_pumps : (y : Stage) → y ≡ x → NoneClears x → AllByRecursion SendsNothing (take k x.nodes) → HasRoom y.entries
      → DidPump (Puts k y.outside.flight z.outside.flight y.outside.trace z.outside.trace) k turned.Moved y.nodes z.nodes y.entries z.entries
      → z.outside.hand ≡ y.outside.hand → DidStep act_of x z
  first_pumps y e none before room d hand = (
    subst (λ (s : Stage). HasRoom s.entries) e room,
    inr (inr (inl (
      none,
      record {
        k = k;
        before = before;
        did = subst (λ (s : Stage). DidPump (Puts k s.outside.flight z.outside.flight s.outside.trace z.outside.trace) k turned.Moved s.nodes z.nodes s.entries z.entries) e d;
      },
      subst (λ (s : Stage). z.outside.hand ≡ s.outside.hand) e hand,
    ))),
  )

-- behind stages that are as at the start
pub first_takes : (act_of : Meaning) (x y z : Stage) → y ≡ x → NonePumps y → HasRoom y.entries
    → DidTake (Fetches y.outside.hand y.outside.flight z.outside.flight y.outside.trace z.outside.trace) turned.Moved y.nodes z.nodes y.entries z.entries
    → z.outside.hand ≡ None → DidStep act_of x z
first_takes act_of x y z e none room d hand = subst (λ s. DidStep act_of s z) e (room, inr (inr (inr (none, d, hand))))

module _ {A : Type 0} {g : Ghosts A} where
  work_at : (k : ℕ) (x z : Stage) → AllByRecursion IsStuck (take k x.nodes) → (fault : WorldFault A g) → RefusedWork k fault x z → RefusedStep fault x z
  work_at k x z before (faults.JournalFull e w None) h = h
  work_at k x z before (faults.JournalFull e w (Some done)) h = (h.0, record { k = k; before = before; did = h.1 }, h.2)
  work_at k x z before (faults.OutOfMemory None) h =
      let s = h.1 in
      (h.0, (s.0, inl (ap (λ o. o.hand) s.1, ap (λ o. o.flight) s.1, ap (λ o. o.trace) s.1)), inl (record { k = k; before = before; did = to_fire_same z.nodes x.nodes k (sym s.0.tables) h.2 }, s.1))
  work_at k x z before (faults.OutOfMemory (Some done)) h = (h.0, h.1, record { k = k; before = before; did = h.2 })
  work_at k x z before (faults.NotRun job) h = (h.0, record { k = k; before = before; did = h.1 })
  work_at k x z before faults.Fabric h = absurd h
  work_at k x z before (faults.BadFrame to at why) h = absurd h
  work_at k x z before (faults.Strange to rule object kept) h = absurd h
  work_at k x z before (faults.EarlyEnd sent taken) h = absurd h

  -- a Fire with its Finish is refused, at the first locality that can fire
  pub work_refuses : (k : ℕ) (x y z : Stage) → y ≡ x → AllByRecursion IsStuck (take k x.nodes) → (fault : WorldFault A g) → RefusedWork k fault y z → RefusedStep fault x z
  work_refuses k x y z e before fault h = work_at k x z before fault (subst (λ s. RefusedWork k fault s z) e h)

  -- a message to the own locality is refused
  desk_at : (k : ℕ) (x z : Stage) → NoneFires x → AllByRecursion HasNothingToTend (take k x.nodes) → (fault : WorldFault A g) → Refused {A = A} {g = g} (choices.Desk k) fault x z → RefusedStep fault x z
  desk_at k x z none before (faults.JournalFull e w u) h = subst (λ v. RefusedStep {A = A} {g = g} (faults.JournalFull e w v) x z) (sym h.2) (h.0, h.1)
  desk_at k x z none before (faults.OutOfMemory u) h =
      let s = h.1.0 in
      subst (λ v. RefusedStep {A = A} {g = g} (faults.OutOfMemory v) x z) (sym h.1.1) (
        h.0,
        (s.0, inl (ap (λ o. o.hand) s.1, ap (λ o. o.flight) s.1, ap (λ o. o.trace) s.1)),
        inr (inl (none, record { k = k; before = before; did = to_tend_same z.nodes x.nodes k (sym s.0.tables) h.1.2 }, s.1)),
      )
  desk_at k x z none before (faults.Strange to rule object kept) h =
      (h.0, inr (none, record { k = k; before = before; did = h.1 }))
  desk_at k x z none before faults.Fabric h = absurd h.1
  desk_at k x z none before (faults.BadFrame to at why) h = absurd h.1
  desk_at k x z none before (faults.EarlyEnd sent taken) h = absurd h.1
  desk_at k x z none before (faults.NotRun job) h = absurd h.1

  pub desk_refuses : (k : ℕ) (x y z : Stage) → y ≡ x → NoneFires x → AllByRecursion HasNothingToTend (take k x.nodes) → (fault : WorldFault A g) → Refused {A = A} {g = g} (choices.Desk k) fault y z → RefusedStep fault x z
  desk_refuses k x y z e none before fault h = desk_at k x z none before fault (subst (λ s. Refused {A = A} {g = g} (choices.Desk k) fault s z) e h)

  -- a message to another is not sent
  pump_at : (k : ℕ) (x z : Stage) → NoneClears x → AllByRecursion SendsNothing (take k x.nodes) → (fault : WorldFault A g) → Refused {A = A} {g = g} (choices.Pump k) fault x z → RefusedStep fault x z
  pump_at k x z none before (faults.JournalFull e w u) h = subst (λ v. RefusedStep {A = A} {g = g} (faults.JournalFull e w v) x z) (sym h.2) (h.0, h.1)
  pump_at k x z none before (faults.OutOfMemory u) h =
      let s = h.1.0 in
      subst (λ v. RefusedStep {A = A} {g = g} (faults.OutOfMemory v) x z) (sym h.1.1) (
        h.0,
        (s.0, inl (ap (λ o. o.hand) s.1, ap (λ o. o.flight) s.1, ap (λ o. o.trace) s.1)),
        inr (inr (inl (none, record { k = k; before = before; did = to_send_same z.nodes x.nodes k (sym s.0.tables) h.1.2 }, s.1))),
      )
  pump_at k x z none before faults.Fabric h = (h.0, none, h.1.0)
  pump_at k x z none before (faults.Strange to rule object kept) h = absurd h.1
  pump_at k x z none before (faults.BadFrame to at why) h = absurd h.1
  pump_at k x z none before (faults.EarlyEnd sent taken) h = absurd h.1
  pump_at k x z none before (faults.NotRun job) h = absurd h.1

  pub pump_refuses : (k : ℕ) (x y z : Stage) → y ≡ x → NoneClears x → AllByRecursion SendsNothing (take k x.nodes) → (fault : WorldFault A g) → Refused {A = A} {g = g} (choices.Pump k) fault y z → RefusedStep fault x z
  pump_refuses k x y z e none before fault h = pump_at k x z none before fault (subst (λ s. Refused {A = A} {g = g} (choices.Pump k) fault s z) e h)

  -- a frame is not accepted
  take_at : (x z : Stage) → NonePumps x → (fault : WorldFault A g) → Refused {A = A} {g = g} choices.Take fault x z → RefusedStep fault x z
  take_at x z none (faults.JournalFull e w u) h = subst (λ v. RefusedStep {A = A} {g = g} (faults.JournalFull e w v) x z) (sym h.2) (h.0, h.1)
  take_at x z none (faults.OutOfMemory u) h = subst (λ v. RefusedStep {A = A} {g = g} (faults.OutOfMemory v) x z) (sym h.1.1) (h.0, h.1.0, inr (inr (inr (none, h.1.2))))
  take_at x z none faults.Fabric h = (h.0, none.0, h.1)
  take_at x z none (faults.Strange to rule object kept) h = (h.0, inl (none, h.1))
  take_at x z none (faults.BadFrame to at why) h = (h.0, none, h.1)
  take_at x z none (faults.EarlyEnd sent taken) h = (h.0, none, h.1)
  take_at x z none (faults.NotRun job) h = absurd h.1

  pub take_refuses : (x y z : Stage) → y ≡ x → NonePumps y → (fault : WorldFault A g) → Refused {A = A} {g = g} choices.Take fault y z → RefusedStep fault x z
  take_refuses x y z e none fault h = subst (λ s. RefusedStep {A = A} {g = g} fault s z) e (take_at y z none fault h)

-- ---- steps, one after another

-- a step writes something
pub step_longer : (act_of : Meaning) (x z : Stage) → DidStep act_of x z → length x.entries < length z.entries
step_longer act_of x z (room, inl (w, out)) =
    let d = w.did in
    let fire = fired_longer x.nodes d.mid x.entries d.between w.k d.job d.fired in
    let rest = unfed_le d.between z.entries (finished_unfed d.mid z.nodes d.between z.entries (length x.nodes) d.job
    (act_of (length x.nodes) d.job.kind d.job.at d.job.state (plain d.job.action)) (turned.Finished d.how) d.finished) in
    omega (arith, fire, rest)
step_longer act_of x z (room, inr (inl (none, w, out))) = cleared_longer x.nodes z.nodes x.entries z.entries w.k w.did
step_longer act_of x z (room, inr (inr (inl (none, w, out)))) =
    pumped_longer x.nodes z.nodes x.entries z.entries (Puts w.k x.outside.flight z.outside.flight x.outside.trace z.outside.trace) w.k w.did
step_longer act_of x z (room, inr (inr (inr (none, d, out)))) =
    took_longer x.nodes z.nodes x.entries z.entries (Fetches x.outside.hand x.outside.flight z.outside.flight x.outside.trace z.outside.trace) d

-- fewer entries may still come
pub step_fewer : (act_of : Meaning) (x z : Stage) → DidStep act_of x z → 2097152 - length z.entries < 2097152 - length x.entries
step_fewer act_of x z did = omega (arith, step_longer act_of x z did, did.0.entries)

module _ {A : Type 0} {g : Ghosts A} where
  -- steps, and then one that is refused
  pub drain_refuses : (act_of : Meaning) (x y z : Stage) → Goes act_of x y → (fault : WorldFault A g) → RefusedStep fault y z → RefusedDrain act_of fault x z
  drain_refuses act_of x y z goes (faults.EarlyEnd sent taken) h =
      let none = h.1 in
      let t = h.2 in
      let nodes = t.0.tables in (
        subst (λ es. HasRoom es) (sym t.0.journal) h.0,
        record {
          idle = record {
            fire = subst (AllByRecursion IsStuck) (sym nodes) none.0.0;
            desk = subst (AllByRecursion HasNothingToTend) (sym nodes) none.0.1;
            pump = subst (AllByRecursion SendsNothing) (sym nodes) none.1;
            hand = t.1;
            flight = none_fetched y.outside.hand y.outside.flight z.outside.flight y.outside.trace z.outside.trace t.5;
          };
          sent = t.2 ∙ ap (sum_by (λ (n : Tables). n.sent)) (sym nodes);
          taken = t.3 ∙ ap (sum_by (λ (n : Tables). n.taken)) (sym nodes);
          why = inl t.4;
        },
        record { last = y; goes = goes; thus = (t.0, t.5) },
      )
  drain_refuses act_of x y z goes (faults.JournalFull e w u) h = record { last = y; goes = goes; thus = h }
  drain_refuses act_of x y z goes (faults.OutOfMemory u) h = record { last = y; goes = goes; thus = h }
  drain_refuses act_of x y z goes (faults.NotRun job) h = record { last = y; goes = goes; thus = h }
  drain_refuses act_of x y z goes faults.Fabric h = record { last = y; goes = goes; thus = h }
  drain_refuses act_of x y z goes (faults.BadFrame to at why) h = record { last = y; goes = goes; thus = h }
  drain_refuses act_of x y z goes (faults.Strange to rule object kept) h = record { last = y; goes = goes; thus = h }
