-- What a call of one node says, said of all localities.
use Rattle.std.proofs.Common.{true, false, Bool, inl, inr, ℕ, zero, suc, List, [], ◌∷◌, ◌++◌, ◌≡◌, ◌<◌, Some, None, Ok, Err, Option, Result, refl, sym, ap, ◌∙◌, subst, arith, length, get_or, set, append-nil}
use Rattle.std.specs.Option.{IfSome, IfNone}
use Rattle.std.specs.Result.{IfOk, IfErr, OnOk, OnErr}
use Rattle.std.specs.List.{slice_get}
use Rattle.hpx_value.specs.Ids.{bare}
use Rattle.hpx_value.specs.declared.acts.Job.{Job}
use Rattle.hpx_value.specs.declared.profile.Profile.{Profile}
use Rattle.hpx_journal.specs.Data.{Act, Outcome}
use Rattle.hpx_journal.specs.Entries.{name_of, target_of}
use Rattle.hpx_journal.specs.Weights.{Book}
use Rattle.hpx_part.specs.Data.{Name, Event, Entry, Line, Fire, Left, Mail}
use Rattle.hpx_part.proofs.Keyed.{slice_get_is}
use Rattle.hpx_tables.specs.Splits.{asked_events}
use Rattle.hpx_node.specs.Asks.{Begins, splits_before, lacking}
use Rattle.hpx_node.specs.Changes.{Writes, OnlySpare}
use Rattle.hpx_node.specs.Commits.{seen, committed}
use Rattle.hpx_steps.specs.Calls.{effects}
use Rattle.hpx_steps.specs.Rows.{kind_of}
use Rattle.hpx_node.specs.Handled.{Clears, Tends}
use Rattle.hpx_steps.specs.Rest.{Stands, rules_of}
use Rattle.hpx_steps.specs.Limits.{IsWithin}
use Rattle.hpx_node.specs.Locality.{Locality, tables_of}
use Rattle.hpx_tables.specs.Tables.{Tables}
use Rattle.hpx_node.specs.declared.parts.Finished.{Finished}
use Rattle.hpx_node.specs.declared.parts.Finished.TheVariants.{Committed, Asking, NotRunning}
use Rattle.hpx_world.specs.Away.{IsInside}
use Rattle.hpx_world.specs.Quiet.{running_in}
use Rattle.hpx_world.specs.Sound.{Meaning, StandsAt, IsSound, IsSame, DoneAt}
use Rattle.hpx_world.proofs.Growth.{AreInner, plain_inner, inside_of}
use Rattle.hpx_world.proofs.Plain.{committed_plain, begins_plain, dealt_plain}
use Rattle.hpx_world.proofs.Tabled.{tables_get}
use Rattle.hpx_world.proofs.Sound.{some_is, sound_at, sound_grows}

-- ---- results

pub IfOk-map : {T E : Type 0} (r : Result T E) (P Q : T → Type 0) → ((x : T) → P x → Q x) → IfOk r P → IfOk r Q
IfOk-map (Ok x) P Q f h = f x h
IfOk-map (Err e) P Q f h = h

pub IfErr-map : {T E : Type 0} (r : Result T E) (P Q : E → Type 0) → ((e : E) → P e → Q e) → IfErr r P → IfErr r Q
IfErr-map (Ok x) P Q f h = h
IfErr-map (Err e) P Q f h = f e h

-- ---- a list with one node changed

tables_set : (xs : List Locality) (k : ℕ) (v : Locality) → tables_of (set xs k v) ≡ set (tables_of xs) k v.tables
tables_set [] k v = refl
tables_set (x ∷ xs) zero v = refl
tables_set (x ∷ xs) (suc k) v = ap (λ ys. x.tables ∷ ys) (tables_set xs k v)

set_back : (xs : List Tables) (k : ℕ) (t : Tables) → t ≡ get_or xs k t → set xs k t ≡ xs
set_back [] k t is = refl
set_back (x ∷ xs) zero t is = ap (λ y. y ∷ xs) is
set_back (x ∷ xs) (suc k) t is = ap (λ ys. x ∷ ys) (set_back xs k t is)

set_running : (xs : List Tables) (k : ℕ) (t : Tables) → running_in (set xs k t) ≡ set (running_in xs) k t.running
set_running [] k t = refl
set_running (x ∷ xs) zero t = refl
set_running (x ∷ xs) (suc k) t = ap (λ ys. x.running ∷ ys) (set_running xs k t)

get_running : (xs : List Tables) (k : ℕ) (t : Tables) → k < length xs → t ≡ get_or xs k t → get_or (running_in xs) k [] ≡ t.running
get_running [] k t lt is = absurd (omega arith)
get_running (x ∷ xs) zero t lt is = ap (λ (y : Tables). y.running) (sym is)
get_running (x ∷ xs) (suc k) t lt is = get_running xs k t (omega arith) is

set_own : (xs : List (List Act)) (k : ℕ) → set xs k (get_or xs k []) ≡ xs
set_own [] k = refl
set_own (x ∷ xs) zero = refl
set_own (x ∷ xs) (suc k) = ap (λ ys. x ∷ ys) (set_own xs k)

-- ---- the node at k, which a call changes

module _ (nodes : List Locality) (k : ℕ) (v v' : Locality) (lt : k < length (tables_of nodes)) (is : v ≡ get_or nodes k v) where
  abbrev ts : List Tables
  ts = tables_of nodes

  pub there_at : slice_get ts k ≡ Some v.tables
  there_at = slice_get_is ts k v.tables lt (tables_get nodes k v lt is)

  pub got_at : (x : Tables) → slice_get ts k ≡ Some x → v.tables ≡ x
  got_at x g = some_is v.tables x (sym there_at ∙ g)

  -- what is said of it alone
  pub at_own : (P : Tables → Type 0) → P v.tables → (x : Tables) → slice_get ts k ≡ Some x → P x
  at_own P h x g = subst P (got_at x g) h

  pub done_at : (Does : Tables → Tables → Type 0) → Does v.tables v'.tables → DoneAt k Does ts (tables_of (set nodes k v'))
  done_at Does h = record { before = v.tables; after = v'.tables; there = there_at; does = h; others = tables_set nodes k v' }

  pub same_at : (b b' : Book) → OnlySpare v.tables v'.tables b b' → IsSame ts (tables_of (set nodes k v')) b.entries b'.entries
  same_at b b' s = record {
    tables = tables_set nodes k v' ∙ (ap (set ts k) s.tables ∙ set_back ts k v.tables (tables_get nodes k v lt is));
    journal = s.entries;
  }

  pub running_at : v'.tables.running ≡ v.tables.running → running_in (tables_of (set nodes k v')) ≡ running_in ts
  running_at h =
      ap running_in (tables_set nodes k v')
      ∙ (set_running ts k v'.tables
      ∙ (ap (λ xs. set (running_in ts) k xs) (h ∙ sym (get_running ts k v.tables lt (tables_get nodes k v lt is))) ∙ set_own (running_in ts) k))

-- ---- what a call wrote

-- entries of no frame
pub record WritesInside (t t' : Tables) (es es' : List Entry) : Type 0 where
  pub events : List Event
  pub inner : AreInner events
  pub writes : Writes events t t' es es'

pub writes_spare : (t t' : Tables) (b b' : Book) → OnlySpare t t' b b' → Writes [] t t' b.entries b'.entries
writes_spare t t' b b' h = record {
  here = ap (λ (x : Tables). x.here) h.tables;
  localities = ap (λ (x : Tables). x.localities) h.tables;
  profile = ap (λ (x : Tables). x.profile) h.tables;
  grows = h.entries ∙ sym (append-nil b.entries);
}

pub spare_inside : (t t' : Tables) (b b' : Book) → OnlySpare t t' b b' → WritesInside t t' b.entries b'.entries
spare_inside t t' b b' h = record { events = []; inner = tt; writes = writes_spare t t' b b' h }

clears_inside : (t t' : Tables) (es es' : List Entry) → Clears t t' es es' → WritesInside t t' es es'
clears_inside t t' es es' c = record {
  events = Mail (kind_of c.parcel) ∷ (effects t c.parcel ++ c.more);
  inner = (tt, plain_inner (effects t c.parcel ++ c.more) (dealt_plain t c.parcel (record t { desk = c.rest }) c.mid c.done c.more c.continues));
  writes = c.writes;
}

tends_inside : (t t' : Tables) (es es' : List Entry) → Tends t t' es es' → WritesInside t t' es es'
tends_inside t t' es es' (inl d) = record { events = Left (bare (target_of d.act)) d.to ∷ []; inner = (tt, tt); writes = d.writes }
tends_inside t t' es es' (inr c) = clears_inside t t' es es' c.1

module _ {E : Type 0} (v v' : Locality) (b b' : Book) where
  pub feed_inside : (action : Name) (line : List ℕ) (r : Result (Unit {0}) E) → OnOk r (Writes (Line action line ∷ []) v.tables v'.tables b.entries b'.entries)
      → OnErr r (OnlySpare v.tables v'.tables b b') → WritesInside v.tables v'.tables b.entries b'.entries
  feed_inside action line (Ok x) fed err = record { events = Line action line ∷ []; inner = (tt, tt); writes = fed }
  feed_inside action line (Err e) fed err = spare_inside v.tables v'.tables b b' err

  pub fire_inside : (N : Type 0) (r : Result (Option Job) E)
      → IfOk r (λ o. IfSome o (λ job. Writes (Fire (name_of job.action) ∷ []) v.tables v'.tables b.entries b'.entries))
      → IfOk r (λ o. IfNone o (N × OnlySpare v.tables v'.tables b b')) → OnErr r (OnlySpare v.tables v'.tables b b') → WritesInside v.tables v'.tables b.entries b'.entries
  fire_inside N (Ok (Some job)) fired none err = record { events = Fire (name_of job.action) ∷ []; inner = (tt, tt); writes = fired }
  fire_inside N (Ok None) fired none err = spare_inside v.tables v'.tables b b' none.1
  fire_inside N (Err e) fired none err = spare_inside v.tables v'.tables b b' err

  pub finish_inside : (N M : Type 0) (Q : E → Type 0) (job : Job) (out : Outcome) (r : Result Finished E)
      → IfOk r (λ f. f ≡ Committed → Writes (committed v.tables job out) v.tables v'.tables b.entries b'.entries)
      → IfOk r (λ f. f ≡ Asking → M × Begins v.tables v'.tables job out b.entries b'.entries)
      → IfOk r (λ f. f ≡ NotRunning → N × OnlySpare v.tables v'.tables b b') → IfErr r (λ e. Q e × OnlySpare v.tables v'.tables b b')
      → WritesInside v.tables v'.tables b.entries b'.entries
  finish_inside N M Q job out (Ok Committed) done asks none err = record {
    events = committed v.tables job out;
    inner = plain_inner (committed v.tables job out) (committed_plain v.tables job out);
    writes = done refl;
  }
  finish_inside N M Q job out (Ok Asking) done asks none err = record {
    events = splits_before v.tables (seen job) out ++ asked_events (lacking v.tables (seen job) out);
    inner = plain_inner (splits_before v.tables (seen job) out ++ asked_events (lacking v.tables (seen job) out)) (begins_plain v.tables (seen job) out);
    writes = (asks refl).1.writes;
  }
  finish_inside N M Q job out (Ok NotRunning) done asks none err = spare_inside v.tables v'.tables b b' (none refl).1
  finish_inside N M Q job out (Err e) done asks none err = spare_inside v.tables v'.tables b b' err.1

  pub desk_inside : (N : Type 0) (r : Result Bool E) → (r ≡ Ok true → Tends v.tables v'.tables b.entries b'.entries) → (r ≡ Ok false → N × OnlySpare v.tables v'.tables b b')
      → OnErr r (OnlySpare v.tables v'.tables b b') → WritesInside v.tables v'.tables b.entries b'.entries
  desk_inside N (Ok true) tends none err = tends_inside v.tables v'.tables b.entries b'.entries (tends refl)
  desk_inside N (Ok false) tends none err = spare_inside v.tables v'.tables b b' (none refl).1
  desk_inside N (Err e) tends none err = spare_inside v.tables v'.tables b b' err

-- ---- all localities after it

module _ (act_of : Meaning) (profile : Profile) (nodes : List Locality) (es : List Entry) (h : IsSound act_of profile (tables_of nodes) es)
    (k : ℕ) (v v' : Locality) (lt : k < length (tables_of nodes)) (is : v ≡ get_or nodes k v) where
  own : StandsAt act_of (length (tables_of nodes)) profile k v.tables es
  own = sound_at act_of profile (tables_of nodes) es h k v.tables lt (tables_get nodes k v lt is)

  pub here_at : v.tables.here ≡ k
  here_at = own.here

  pub localities_at : v.tables.localities ≡ length (tables_of nodes)
  localities_at = own.localities

  pub stands_at : Stands act_of v.tables es
  stands_at = own.stands

  pub within : v.tables.here < length (tables_of nodes)
  within = rw here_at lt

  pub sound_wrote : (events : List Event) (es' : List Entry) → Writes events v.tables v'.tables es es' → Stands act_of v'.tables es' → IsWithin es'
      → IsSound act_of profile (tables_of (set nodes k v')) es'
  sound_wrote events es' writes stands within =
      subst (λ ns. IsSound act_of profile ns es') (sym (tables_set nodes k v'))
      (sound_grows act_of profile (tables_of nodes) es h k v.tables v'.tables events es' lt (tables_get nodes k v lt is) writes stands within)

  module _ (es' : List Entry) (w : WritesInside v.tables v'.tables es es') where
    pub sound_inside : Stands act_of v'.tables es' → IsWithin es' → IsSound act_of profile (tables_of (set nodes k v')) es'
    sound_inside stands within = sound_wrote w.events es' w.writes stands within

    pub inside_at : IsInside (rules_of act_of (length (tables_of nodes)) profile) es es'
    inside_at = inside_of v.tables v'.tables w.events es es' w.writes (rules_of act_of (length (tables_of nodes)) profile) within w.inner
