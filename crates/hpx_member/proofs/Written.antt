-- What one call of a node writes: events of no frame and no line.
use Rattle.std.proofs.Common.{ℕ, List, [], ◌∷◌, ◌++◌, ◌≡◌, ◌+◌, Ok, Err, Result, refl, sym, ap, ◌∙◌, append-nil, inl, inr}
use Rattle.std.specs.Prelude.{false, true, Bool}
use Rattle.std.specs.Result.{IfOk, IfErr, OnErr}
use Rattle.std.specs.List.{AllByRecursion}
use Rattle.hpx_value.specs.Ids.{bare}
use Rattle.hpx_value.specs.declared.acts.Job.{Job}
use Rattle.hpx_journal.specs.Data.{Outcome}
use Rattle.hpx_journal.specs.Entries.{name_of, target_of}
use Rattle.hpx_journal.specs.Laws.{AreAt, outs, ins, outs_by}
use Rattle.hpx_journal.specs.Sessions.{FeedsNothing}
use Rattle.hpx_journal.specs.Weights.{Book}
use Rattle.hpx_journal.specs.Whole.{arrives_at}
use Rattle.hpx_part.specs.Data.{Entry, Event, Fire, In, Left, Line, Mail, Name, Out}
use Rattle.hpx_part.specs.Parts.{at_all}
use Rattle.hpx_tables.specs.Splits.{asked_events}
use Rattle.hpx_tables.specs.Tables.{Tables}
use Rattle.hpx_steps.specs.Calls.{effects}
use Rattle.hpx_steps.specs.Rows.{kind_of}
use Rattle.hpx_node.specs.Asks.{Begins, lacking, splits_before}
use Rattle.hpx_node.specs.Changes.{OnlySpare, Writes}
use Rattle.hpx_node.specs.Commits.{committed, seen}
use Rattle.hpx_node.specs.Handled.{Clears, Takes, Tends}
use Rattle.hpx_node.specs.declared.parts.Finished.{Finished}
use Rattle.hpx_node.specs.declared.parts.Finished.TheVariants.{Asking, Committed, NotRunning}
use Rattle.hpx_world.proofs.Plain.{ArePlain, IsPlain, begins_plain, committed_plain, dealt_plain}
use Rattle.hpx_member.specs.Seats.{BeginsBy, IsInside}

-- ---- such events at one locality

pub at_events : (k : ℕ) (events : List Event) → AreAt k (at_all k events)
at_events k [] = tt
at_events k (e ∷ es) = (refl, at_events k es)

no_outs : (k : ℕ) (e : Event) → IsPlain e → outs_by k e ≡ []
no_outs k (Out to bytes) h = absurd h
no_outs k _ h = refl

no_ins : (k : ℕ) (e : Event) → IsPlain e → arrives_at k e ≡ []
no_ins k (In bytes) h = absurd h
no_ins k _ h = refl

no_line : (e : Event) → IsPlain e → FeedsNothing e
no_line (Line a bytes) h = h
no_line _ h = tt

plain_outs : (k : ℕ) (es : List Event) → ArePlain es → outs (at_all k es) ≡ []
plain_outs k [] h = refl
plain_outs k (e ∷ es) h = ap (λ xs. xs ++ outs (at_all k es)) (no_outs k e h.0) ∙ plain_outs k es h.1

plain_ins : (k : ℕ) (es : List Event) → ArePlain es → ins (at_all k es) ≡ []
plain_ins k [] h = refl
plain_ins k (e ∷ es) h = ap (λ xs. xs ++ ins (at_all k es)) (no_ins k e h.0) ∙ plain_ins k es h.1

plain_unfed : (k : ℕ) (es : List Event) → ArePlain es → AllByRecursion (λ x. FeedsNothing x.event) (at_all k es)
plain_unfed k [] h = tt
plain_unfed k (e ∷ es) h = (no_line e h.0, plain_unfed k es h.1)

-- ---- calls

-- a call wrote such events
pub record WritesPlain (t t' : Tables) (es es' : List Entry) : Type 0 where
  pub events : List Event
  pub plain : ArePlain events
  pub writes : Writes events t t' es es'

pub inside_of : (t t' : Tables) (es es' : List Entry) → WritesPlain t t' es es' → IsInside t.here es es'
inside_of t t' es es' w = record {
  later = at_all t.here w.events;
  is = w.writes.grows;
  own = at_events t.here w.events;
  outs = plain_outs t.here w.events w.plain;
  ins = plain_ins t.here w.events w.plain;
  unfed = plain_unfed t.here w.events w.plain;
}

pub begins_out : (t t' : Tables) (es es' : List Entry) (to : ℕ) (bytes : List ℕ) → Writes (Out to bytes ∷ []) t t' es es' → BeginsBy t.here (Out to bytes) es es'
begins_out t t' es es' to bytes w = record { later = []; is = w.grows; own = tt; outs = refl; ins = refl; unfed = tt }

pub begins_line : (t t' : Tables) (es es' : List Entry) (a : Name) (bytes : List ℕ) → Writes (Line a bytes ∷ []) t t' es es' → BeginsBy t.here (Line a bytes) es es'
begins_line t t' es es' a bytes w = record { later = []; is = w.grows; own = tt; outs = refl; ins = refl; unfed = tt }

pub begins_in : (t t' : Tables) (es es' : List Entry) (bytes : List ℕ) → Takes bytes t t' es es' → BeginsBy t.here (In bytes) es es'
begins_in t t' es es' bytes x =
    let more = effects t x.parcel ++ x.more in
    let plain : ArePlain more = dealt_plain t x.parcel (record t { taken = t.taken + 1 }) x.mid x.done x.more x.continues in
    record {
      later = at_all t.here more;
      is = x.writes.grows;
      own = at_events t.here more;
      outs = plain_outs t.here more plain;
      ins = plain_ins t.here more plain;
      unfed = plain_unfed t.here more plain;
    }

writes_none : (t t' : Tables) (b b' : Book) → OnlySpare t t' b b' → Writes [] t t' b.entries b'.entries
writes_none t t' b b' h = record {
  here = ap (λ (x : Tables). x.here) h.tables;
  localities = ap (λ (x : Tables). x.localities) h.tables;
  profile = ap (λ (x : Tables). x.profile) h.tables;
  grows = h.entries ∙ sym (append-nil b.entries);
}

pub spare_plain : (t t' : Tables) (b b' : Book) → OnlySpare t t' b b' → WritesPlain t t' b.entries b'.entries
spare_plain t t' b b' h = record { events = []; plain = tt; writes = writes_none t t' b b' h }

clears_plain : (t t' : Tables) (es es' : List Entry) → Clears t t' es es' → WritesPlain t t' es es'
clears_plain t t' es es' c = record {
  events = Mail (kind_of c.parcel) ∷ (effects t c.parcel ++ c.more);
  plain = (tt, dealt_plain t c.parcel (record t { desk = c.rest }) c.mid c.done c.more c.continues);
  writes = c.writes;
}

pub tends_plain : (t t' : Tables) (es es' : List Entry) → Tends t t' es es' → WritesPlain t t' es es'
tends_plain t t' es es' (inl d) = record { events = Left (bare (target_of d.act)) d.to ∷ []; plain = (tt, tt); writes = d.writes }
tends_plain t t' es es' (inr c) = clears_plain t t' es es' c.1

pub fires_plain : (t t' : Tables) (es es' : List Entry) (job : Job) → Writes (Fire (name_of job.action) ∷ []) t t' es es' → WritesPlain t t' es es'
fires_plain t t' es es' job w = record { events = Fire (name_of job.action) ∷ []; plain = (tt, tt); writes = w }

module _ {E : Type 0} (t t' : Tables) (b b' : Book) where
  pub finish_plain : (N M : Type 0) (Q : E → Type 0) (job : Job) (out : Outcome) (r : Result Finished E)
      → IfOk r (λ f. f ≡ Committed → Writes (committed t job out) t t' b.entries b'.entries)
      → IfOk r (λ f. f ≡ Asking → N × Begins t t' job out b.entries b'.entries)
      → IfOk r (λ f. f ≡ NotRunning → M × OnlySpare t t' b b')
      → IfErr r (λ e. Q e × OnlySpare t t' b b') → WritesPlain t t' b.entries b'.entries
  finish_plain N M Q job out (Ok Committed) done asks none err =
      record { events = committed t job out; plain = committed_plain t job out; writes = done refl }
  finish_plain N M Q job out (Ok Asking) done asks none err = record {
    events = splits_before t (seen job) out ++ asked_events (lacking t (seen job) out);
    plain = begins_plain t (seen job) out;
    writes = (asks refl).1.writes;
  }
  finish_plain N M Q job out (Ok NotRunning) done asks none err = spare_plain t t' b b' (none refl).1
  finish_plain N M Q job out (Err e) done asks none err = spare_plain t t' b b' err.1

  pub desk_plain : (N : Type 0) (r : Result Bool E) → (r ≡ Ok true → Tends t t' b.entries b'.entries) → (r ≡ Ok false → N × OnlySpare t t' b b')
      → OnErr r (OnlySpare t t' b b') → WritesPlain t t' b.entries b'.entries
  desk_plain N (Ok true) tends none err = tends_plain t t' b.entries b'.entries (tends refl)
  desk_plain N (Ok false) tends none err = spare_plain t t' b b' (none refl).1
  desk_plain N (Err e) tends none err = spare_plain t t' b b' err
