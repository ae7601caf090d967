-- What turns write, one after another: nothing is fed, and what is done is written.
use Rattle.std.proofs.Common.{ℕ, List, [], ◌∷◌, ◌++◌, ◌≡◌, ◌+◌, ◌<◌, ◌≤◌, Ok, Err, Option, Result, inl, inr, sym, ap, ◌∙◌, arith, length, append-nil, append_assoc, length-append}
use Rattle.std.specs.List.{AllByRecursion}
use Rattle.std.specs.Result.{IfOk, OnErr}
use Rattle.hpx_value.specs.Ids.{bare}
use Rattle.hpx_value.specs.declared.acts.Job.{Job}
use Rattle.hpx_journal.specs.Data.{Outcome}
use Rattle.hpx_journal.specs.Entries.{Frame, Rules, name_of, target_of}
use Rattle.hpx_journal.proofs.Alls.{all-append, all-map}
use Rattle.hpx_part.specs.Data.{Event, Entry, Line, Fire, Left, Out, In, Mail}
use Rattle.hpx_part.specs.Parts.{at_all}
use Rattle.hpx_tables.specs.Splits.{asked_events}
use Rattle.hpx_node.specs.Asks.{splits_before, lacking}
use Rattle.hpx_node.specs.Changes.{Writes}
use Rattle.hpx_node.specs.Commits.{seen, committed}
use Rattle.hpx_node.specs.Handled.{Tends}
use Rattle.hpx_steps.specs.Calls.{effects}
use Rattle.hpx_steps.specs.Rows.{kind_of}
use Rattle.hpx_tables.specs.Tables.{Tables}
use Rattle.hpx_node.specs.declared.parts.Finished.TheVariants.{Committed, Asking, NotRunning}
use Rattle.hpx_world.specs.declared.turns.Turned.{Turned}
use Rattle.hpx_world.specs.declared.turns.Turned.TheVariants as turned
use Rattle.hpx_world.specs.Away.{IsInside}
use Rattle.hpx_world.specs.Sound.{IsSame}
use Rattle.hpx_journal.specs.Sessions.{FeedsNothing}
use Rattle.hpx_world.specs.Steps.{IsUnfed}
use Rattle.hpx_world.specs.Turns.{DidFire, DidFinish, DidDesk, DidPump, DidTake}
use Rattle.hpx_world.proofs.Plain.{IsPlain, ArePlain, committed_plain, begins_plain, dealt_plain}

abbrev pub AreUnfed : List Entry → Type 0
AreUnfed es = AllByRecursion (λ e. FeedsNothing e.event) es

pub unfed_none : (a b : List Entry) → b ≡ a → IsUnfed a b
unfed_none a b h = record { more = []; is = h ∙ sym (append-nil a); unfed = tt }

pub unfed_then : (a b c : List Entry) → IsUnfed a b → IsUnfed b c → IsUnfed a c
unfed_then a b c g h = record {
  more = g.more ++ h.more;
  is = h.is ∙ (ap (λ xs. xs ++ h.more) g.is ∙ append_assoc a g.more h.more);
  unfed = all-append (λ (e : Entry). FeedsNothing e.event) g.more h.more g.unfed h.unfed;
}

-- no shorter
pub unfed_le : (a b : List Entry) → IsUnfed a b → length a ≤ length b
unfed_le a b h = omega (arith, ap length h.is, length-append a h.more)

pub inside_then : (r : Rules) (a b c : List Entry) → IsInside r a b → IsInside r b c → IsInside r a c
inside_then r a b c g h =
    record { carried = λ x. h.carried (g.carried x); road = h.road ∙ g.road; outs = h.outs ∙ g.outs; ins = h.ins ∙ g.ins }

-- ---- one call

unfed_at : (k : ℕ) (es : List Event) → AllByRecursion FeedsNothing es → AreUnfed (at_all k es)
unfed_at k [] h = tt
unfed_at k (e ∷ es) h = (h.0, unfed_at k es h.1)

plain_feeds : (e : Event) → IsPlain e → FeedsNothing e
plain_feeds (Line a bytes) h = h
plain_feeds _ h = tt

plain_unfed : (es : List Event) → ArePlain es → AllByRecursion FeedsNothing es
plain_unfed es h = all-map IsPlain FeedsNothing plain_feeds es h

unfed_writes : (events : List Event) (t t' : Tables) (es es' : List Entry) → Writes events t t' es es' → AllByRecursion FeedsNothing events → IsUnfed es es'
unfed_writes events t t' es es' w h = record { more = at_all t.here events; is = w.grows; unfed = unfed_at t.here events h }

writes_longer : (e : Event) (more : List Event) (t t' : Tables) (es es' : List Entry) → Writes (e ∷ more) t t' es es' → length es < length es'
writes_longer e more t t' es es' w = omega (arith, ap length w.grows, length-append es (at_all t.here (e ∷ more)))

-- ---- turns

module _ (nodes nodes' : List Tables) (es es' : List Entry) where
  pub fired_unfed : (k : ℕ) (x : Turned) → DidFire k x nodes nodes' es es' → IsUnfed es es'
  fired_unfed k (turned.Fired job) h =
      unfed_writes (Fire (name_of job.action) ∷ []) h.before h.after es es' h.does.writes (tt, tt)
  fired_unfed k turned.Idle h = unfed_none es es' h.0.journal
  fired_unfed k _ h = absurd h

  pub finished_unfed : (n : ℕ) (job : Job) (out : Outcome) (x : Turned) → DidFinish n job out x nodes nodes' es es' → IsUnfed es es'
  finished_unfed n job out (turned.Finished Committed) h =
      unfed_writes (committed h.1.before job out) h.1.before h.1.after es es' h.1.does.writes
      (plain_unfed (committed h.1.before job out) (committed_plain h.1.before job out))
  finished_unfed n job out (turned.Finished Asking) h =
      let t = h.1.before in
      unfed_writes (splits_before t (seen job) out ++ asked_events (lacking t (seen job) out)) t h.1.after es es' h.1.does.begins.writes
      (plain_unfed (splits_before t (seen job) out ++ asked_events (lacking t (seen job) out)) (begins_plain t (seen job) out))
  finished_unfed n job out (turned.Finished NotRunning) h = unfed_none es es' h.0.journal
  finished_unfed n job out _ h = absurd h

  tends_unfed : (t t' : Tables) → Tends t t' es es' → IsUnfed es es'
  tends_unfed t t' (inl d) = unfed_writes (Left (bare (target_of d.act)) d.to ∷ []) t t' es es' d.writes (tt, tt)
  tends_unfed t t' (inr k) =
      let c = k.1 in
      let more = effects t c.parcel ++ c.more in
      unfed_writes (Mail (kind_of c.parcel) ∷ more) t t' es es' c.writes
      (tt, plain_unfed more (dealt_plain t c.parcel (record t { desk = c.rest }) c.mid c.done c.more c.continues))

  pub cleared_unfed : (k : ℕ) (x : Turned) → DidDesk k x nodes nodes' es es' → IsUnfed es es'
  cleared_unfed k turned.Moved h = tends_unfed h.before h.after h.does
  cleared_unfed k turned.Empty h = unfed_none es es' h.0.journal
  cleared_unfed k _ h = absurd h

  pub pumped_unfed : (Put : Option Frame → Type 0) (k : ℕ) (x : Turned) → DidPump Put k x nodes nodes' es es' → IsUnfed es es'
  pumped_unfed Put k turned.Moved h =
      let d = h.2 in
      unfed_writes (Out h.0.0 h.0.1 ∷ []) d.before d.after es es' d.does.writes (tt, tt)
  pumped_unfed Put k turned.Empty h = unfed_none es es' h.1.journal
  pumped_unfed Put k _ h = absurd h

  -- where one is dealt with, sent or accepted
  tends_longer : (t t' : Tables) → Tends t t' es es' → length es < length es'
  tends_longer t t' (inl d) = writes_longer (Left (bare (target_of d.act)) d.to) [] t t' es es' d.writes
  tends_longer t t' (inr k) = let c = k.1 in writes_longer (Mail (kind_of c.parcel)) (effects t c.parcel ++ c.more) t t' es es' c.writes

  pub cleared_longer : (k : ℕ) → DidDesk k turned.Moved nodes nodes' es es' → length es < length es'
  cleared_longer k h = tends_longer h.before h.after h.does

  pub pumped_longer : (Put : Option Frame → Type 0) (k : ℕ) → DidPump Put k turned.Moved nodes nodes' es es' → length es < length es'
  pumped_longer Put k h = let d = h.2 in writes_longer (Out h.0.0 h.0.1) [] d.before d.after es es' d.does.writes

  pub fired_longer : (k : ℕ) (job : Job) → DidFire k (turned.Fired job) nodes nodes' es es' → length es < length es'
  fired_longer k job h = writes_longer (Fire (name_of job.action)) [] h.before h.after es es' h.does.writes

  module _ (Got : Option Frame → Type 0) where
    pub took_unfed : (x : Turned) → DidTake Got x nodes nodes' es es' → IsUnfed es es'
    took_unfed turned.Moved h =
        let d = h.2 in
        let c = d.does in
        let more = effects d.before c.parcel ++ c.more in
        unfed_writes (In h.0.1 ∷ more) d.before d.after es es' c.writes
        (tt, plain_unfed more (dealt_plain d.before c.parcel (record d.before { taken = d.before.taken + 1 }) c.mid c.done c.more c.continues))
    took_unfed turned.Empty h = unfed_none es es' h.2.journal
    took_unfed _ h = absurd h

    pub took_longer : DidTake Got turned.Moved nodes nodes' es es' → length es < length es'
    took_longer h =
        let d = h.2 in
        let c = d.does in
        writes_longer (In h.0.1) (effects d.before c.parcel ++ c.more) d.before d.after es es' c.writes

  -- of an answer or a refusal
  pub unfed_of : {E : Type 0} (r : Result Turned E) (Did : Turned → Type 0) → ((x : Turned) → Did x → IsUnfed es es') → IfOk r Did
      → OnErr r (IsSame nodes nodes' es es') → IsUnfed es es'
  unfed_of (Ok x) Did f did err = f x did
  unfed_of (Err e) Did f did err = unfed_none es es' err.journal
