-- What shows a breach, by why a world refused a turn; and that none comes over a fabric that tells.
use Rattle.std.specs.Prelude.{Option, Some, None, Result, Err, ◌⊎◌, sum_by}
use Rattle.std.proofs.Common.{ℕ, List, ◌≡◌, refl, sym, ap, ◌∙◌, subst, inl, inr}
use Rattle.hpx_value.specs.declared.acts.Acts.{Ghosts}
use Rattle.hpx_value.specs.declared.acts.Done.{Done}
use Rattle.hpx_journal.specs.declared.entry.Entry.{Entry}
use Rattle.hpx_journal.specs.Entries.{Frame, Rules}
use Rattle.hpx_journal.specs.Weights.{HasRoom}
use Rattle.hpx_ports.specs.Faults.{Rose}
use Rattle.hpx_ports.specs.declared.fabric.Wire.{Wire}
use Rattle.hpx_ports.specs.declared.link.Latest.{Latest}
use Rattle.hpx_tables.specs.Tables.{Tables}
use Rattle.hpx_world.specs.declared.turns.Choice.TheVariants as choices
use Rattle.hpx_world.specs.declared.turns.WorldFault.{WorldFault}
use Rattle.hpx_world.specs.declared.turns.WorldFault.TheVariants as faults
use Rattle.hpx_world.specs.Heard.{HearsEnd}
use Rattle.hpx_world.specs.Places.{Places}
use Rattle.hpx_world.specs.Refusals.{CanCome, CountsFaults, Refused, RefusedStep}
use Rattle.hpx_world.specs.Sound.{Meaning}
use Rattle.hpx_world.specs.Stages.{Stage, stage}
use Rattle.hpx_world.specs.Turns.{IsStrangeMail}
use Rattle.hpx_hold.specs.Home.{GoesAtHome, RefusedAtHome}
use Rattle.hpx_hold.specs.Room.{TellsRoom}
use Rattle.hpx_hold.specs.Turns.{RefusedTurns}
use Rattle.hpx_site.specs.Seen.{Seen}
use Rattle.hpx_site.specs.Held.{IsCause}
use Rattle.hpx_top.specs.declared.breach.Breach.{Breach}
use Rattle.hpx_top.specs.declared.breach.Breach.TheVariants.{BadFrame, Strange, EarlyEnd}
use Rattle.hpx_top.specs.Breaches.{breach_of, Shows}

none_some : (b : Breach) → ◌≡◌ {A = Option Breach} None (Some b) → ⊥
none_some b e = cc

-- what a breach shows, the one that is told shows
as_told : (a b : Breach) (w : Places) (latest : Latest) → Some a ≡ Some b → Shows a w latest → Shows b w latest
as_told a b w latest e h = let is : a ≡ b = cc in subst (λ c. Shows c w latest) is h

-- ---- over a fabric that tells

pub never_breach : {A : Type 0} {g : Ghosts A} (r : Rules) (fault : WorldFault A g) (b : Breach) → breach_of fault ≡ Some b → CanCome r fault → ⊥
never_breach r (faults.BadFrame to place why) b e h = h
never_breach r (faults.Strange to rule object kept) b e h = h
never_breach r (faults.EarlyEnd sent taken) b e h = h
never_breach r faults.Fabric b e h = none_some b e
never_breach r (faults.JournalFull entries weight undone) b e h = none_some b e
never_breach r (faults.OutOfMemory undone) b e h = none_some b e
never_breach r (faults.NotRun job) b e h = none_some b e

-- ---- by what was refused

-- a Feed is refused for none
pub feed_calm : {A : Type 0} {g : Ghosts A} (line : List ℕ) (fault : WorldFault A g) (x z : Stage) → Refused (choices.Feed line) fault x z → (b : Breach)
    → breach_of fault ≡ Some b → ⊥
feed_calm line (faults.BadFrame to place why) x z h b e = absurd h.1
feed_calm line (faults.Strange to rule object kept) x z h b e = absurd h.1
feed_calm line (faults.EarlyEnd sent taken) x z h b e = absurd h.1
feed_calm line faults.Fabric x z h b e = none_some b e
feed_calm line (faults.JournalFull entries weight undone) x z h b e = none_some b e
feed_calm line (faults.OutOfMemory undone) x z h b e = none_some b e
feed_calm line (faults.NotRun job) x z h b e = none_some b e

home_shows : {A : Type 0} {g : Ghosts A} (fault : WorldFault A g) (x : Stage) (w : Places) (latest : Latest) (flight : Option (List Frame)) (trace : Option (List Wire))
    → RefusedAtHome fault x (stage w flight trace) → (b : Breach) → breach_of fault ≡ Some b → Shows b w latest
home_shows (faults.BadFrame to place why) x w latest flight trace h b e = absurd h
home_shows (faults.Strange to rule object kept) x w latest flight trace h b e =
    as_told (Strange to rule object kept) b w latest e (inr (subst (λ k. IsStrangeMail w.nodes k rule object kept) (sym h.2.1) h.2.2))
home_shows (faults.EarlyEnd sent taken) x w latest flight trace h b e = absurd h
home_shows faults.Fabric x w latest flight trace h b e = absurd h
home_shows (faults.JournalFull entries weight undone) x w latest flight trace h b e = absurd (none_some b e)
home_shows (faults.OutOfMemory undone) x w latest flight trace h b e = absurd (none_some b e)
home_shows (faults.NotRun job) x w latest flight trace h b e = absurd (none_some b e)

-- turns at home, and then one that is refused
pub stay_shows : {A : Type 0} {g : Ghosts A} (act_of : Meaning) (fault : WorldFault A g) (x : Stage) (w : Places) (latest : Latest) (flight : Option (List Frame)) (trace : Option (List Wire))
    → GoesAtHome act_of x (λ last. RefusedAtHome fault last (stage w flight trace)) → (b : Breach) → breach_of fault ≡ Some b → Shows b w latest
stay_shows act_of fault x w latest flight trace h b e = home_shows fault h.last w latest flight trace h.thus b e

-- the fabric is never why one is
pub stay_apart : {A : Type 0} {g : Ghosts A} (act_of : Meaning) (fault : WorldFault A g) (x z : Stage) → GoesAtHome act_of x (λ last. RefusedAtHome fault last z)
    → fault ≡ faults.Fabric → ⊥
stay_apart {A} {g} act_of fault x z h e = subst (λ f. RefusedAtHome f h.last z) e h.thus

sums : (nodes nodes' : List Tables) (f : Tables → ℕ) (n : ℕ) → nodes' ≡ nodes → n ≡ sum_by f nodes → n ≡ sum_by f nodes'
sums nodes nodes' f n same is = is ∙ ap (sum_by f) (sym same)

step_shows : {A : Type 0} {g : Ghosts A} (fault : WorldFault A g) (x : Stage) (w : Places) (latest : Latest) (flight : Option (List Frame)) (trace : Option (List Wire))
    → RefusedStep fault x (stage w flight trace) → HearsEnd fault latest → (b : Breach) → breach_of fault ≡ Some b → Shows b w latest
step_shows (faults.BadFrame to place why) x w latest flight trace h heard b e = as_told (BadFrame to place why) b w latest e h.2.1
step_shows (faults.Strange to rule object kept) x w latest flight trace (room, inl h) heard b e = as_told (Strange to rule object kept) b w latest e (inl h.1.1)
step_shows (faults.Strange to rule object kept) x w latest flight trace (room, inr h) heard b e =
    as_told (Strange to rule object kept) b w latest e (inr (subst (λ k. IsStrangeMail w.nodes k rule object kept) (sym h.1.did.1) h.1.did.2))
step_shows (faults.EarlyEnd sent taken) x w latest flight trace h heard b e =
    let d = h.2 in
    let s = sums x.nodes w.nodes (λ t. t.sent) sent d.0.tables d.2 in
    let t = sums x.nodes w.nodes (λ t. t.taken) taken d.0.tables d.3 in
    as_told (EarlyEnd sent taken) b w latest e (d.1, s, t, (λ q. d.4 (s ∙ (sym q.taken ∙ sym t))), heard)
step_shows faults.Fabric x w latest flight trace h heard b e = absurd (none_some b e)
step_shows (faults.JournalFull entries weight undone) x w latest flight trace h heard b e = absurd (none_some b e)
step_shows (faults.OutOfMemory undone) x w latest flight trace h heard b e = absurd (none_some b e)
step_shows (faults.NotRun job) x w latest flight trace h heard b e = absurd (none_some b e)

-- steps, and then one that is refused
pub turns_shows : {A : Type 0} {g : Ghosts A} (act_of : Meaning) (most : ℕ) (fault : WorldFault A g) (x : Stage) (w : Places) (latest : Latest) (flight : Option (List Frame)) (trace : Option (List Wire))
    → RefusedTurns act_of most fault x (stage w flight trace) → HearsEnd fault latest → (b : Breach) → breach_of fault ≡ Some b → Shows b w latest
turns_shows act_of most fault x w latest flight trace h heard b e = step_shows fault h.goes.last w latest flight trace h.goes.thus heard b e

-- why a site stands still
pub site_shows : {A : Type 0} {g : Ghosts A} (was is : Seen) (fault : WorldFault A g) → IsCause was is fault → (b : Breach) → breach_of fault ≡ Some b → Shows b is.world is.latest
site_shows was is (faults.BadFrame to place why) h b e = as_told (BadFrame to place why) b is.world is.latest e h
site_shows was is (faults.Strange to rule object kept) h b e = as_told (Strange to rule object kept) b is.world is.latest e h
site_shows was is (faults.EarlyEnd sent taken) h b e = as_told (EarlyEnd sent taken) b is.world is.latest e h
site_shows was is faults.Fabric h b e = absurd (none_some b e)
site_shows was is (faults.JournalFull entries weight undone) h b e = absurd (none_some b e)
site_shows was is (faults.OutOfMemory undone) h b e = absurd (none_some b e)
site_shows was is (faults.NotRun job) h b e = absurd (none_some b e)

-- ---- what is left of the room, and the fabric's count

module _ (T : Type 0) {A : Type 0} {g : Ghosts A} (fault : WorldFault A g) (es : List Entry) (h : TellsRoom {T = T} (Err fault) es) where
  as_if : (other : WorldFault A g) → fault ≡ other → TellsRoom {T = T} (Err other) es
  as_if other e = subst (λ (f : WorldFault A g). TellsRoom {T = T} (Err f) es) e h

  pub room_fabric : fault ≡ faults.Fabric → HasRoom es
  room_fabric e = as_if faults.Fabric e

  pub room_memory : (u : Option (Done A g)) → fault ≡ faults.OutOfMemory u → HasRoom es
  room_memory u e = as_if (faults.OutOfMemory u) e

  pub room_full : (n w : ℕ) (u : Option (Done A g)) → fault ≡ faults.JournalFull n w u → HasRoom es → ⊥
  room_full n w u e = as_if (faults.JournalFull n w u) e

pub room_breach : (T : Type 0) {A : Type 0} {g : Ghosts A} (fault : WorldFault A g) (es : List Entry) (b : Breach) → breach_of fault ≡ Some b → TellsRoom {T = T} (Err fault) es → HasRoom es
room_breach T {A} {g} (faults.BadFrame to place why) es b e h = h
room_breach T {A} {g} (faults.Strange to rule object kept) es b e h = h
room_breach T {A} {g} (faults.EarlyEnd sent taken) es b e h = h
room_breach T {A} {g} faults.Fabric es b e h = h
room_breach T {A} {g} (faults.JournalFull entries weight undone) es b e h = absurd (none_some b e)
room_breach T {A} {g} (faults.OutOfMemory undone) es b e h = h
room_breach T {A} {g} (faults.NotRun job) es b e h = absurd (none_some b e)

pub counts_rose : (T : Type 0) {A : Type 0} {g : Ghosts A} (fault : WorldFault A g) (old new : ℕ) → CountsFaults {T = T} (Err fault) old new → fault ≡ faults.Fabric → Rose old new
counts_rose T {A} {g} fault old new h e =
    let rose : CountsFaults {T = T} {A = A} {g = g} (Err faults.Fabric) old new = subst (λ (f : WorldFault A g). CountsFaults {T = T} (Err f) old new) e h in rose

pub counts_stand : (T : Type 0) {A : Type 0} {g : Ghosts A} (fault : WorldFault A g) (old new : ℕ) → CountsFaults {T = T} (Err fault) old new → (fault ≡ faults.Fabric → ⊥) → new ≡ old
counts_stand T {A} {g} (faults.BadFrame to place why) old new h not = h
counts_stand T {A} {g} (faults.Strange to rule object kept) old new h not = h
counts_stand T {A} {g} (faults.EarlyEnd sent taken) old new h not = h
counts_stand T {A} {g} faults.Fabric old new h not = absurd (not refl)
counts_stand T {A} {g} (faults.JournalFull entries weight undone) old new h not = h
counts_stand T {A} {g} (faults.OutOfMemory undone) old new h not = h
counts_stand T {A} {g} (faults.NotRun job) old new h not = h
