-- What the home of an object counts of its moves and of what frees it, once no credit of it is out.
use Rattle.std.proofs.Common.{ℕ, Bool, true, false, cond, List, [], ◌∷◌, ◌≡◌, ◌≢◌, ◌+◌, ◌≤◌, ◌==◌, Option, Some, None, refl, sym, ap, ◌∙◌, subst, arith}
use Rattle.std.specs.Prelude.{◌&&◌}
use Rattle.std.specs.List.{sum_by, count_by}
use Rattle.std.proofs.lemmas.List.Sums.{sum_by-cons}
use Rattle.hpx_value.specs.Ids.{same_object}
use Rattle.hpx_journal.specs.Data.{Id, Parcel, Free}
use Rattle.hpx_journal.specs.Entries.{Rules}
use Rattle.hpx_journal.specs.Laws.{is_freed}
use Rattle.hpx_journal.specs.Moving.{is_landed_of, is_left_of}
use Rattle.hpx_journal.specs.Whole.{part}
use Rattle.hpx_journal.proofs.Same.{same_object-true}
use Rattle.hpx_part.specs.Data.{Event, Entry, Left, Landed, Freed, Out, In}
use Rattle.hpx_steps.specs.Flows.{EndsAt, flow, flow_comes, flow_goes, flow_in, free_for, go_for, dies}
use Rattle.hpx_steps.specs.Frames.{MayGoTo}
use Rattle.hpx_steps.specs.Items.{weigh}
use Rattle.hpx_steps.specs.Rest.{bound_for}
use Rattle.hpx_steps.specs.Rows.{frees_one, tell_of, tells_at, one_if, weighed}
use Rattle.hpx_steps.specs.Sound.{IsGranted, IsStray, all_count, come, gone_to, grants_of}
use Rattle.hpx_steps.specs.Turn.{at_rest}
use Rattle.hpx_steps.proofs.Sums.{zeros, same_sum, two_sums}
use Rattle.hpx_tables.specs.Kept.{record_here}
use Rattle.hpx_tables.specs.Tables.{Tables}
use Rattle.hpx_tables.specs.declared.kept.Arrival.{Arrival}
use Rattle.hpx_tables.specs.declared.kept.Outgoing.{Outgoing}
use Rattle.hpx_world.proofs.AtItsHome.{and_cond, count_if, two_counts}
use Rattle.hpx_world.proofs.Known.{IsShown}
use Rattle.hpx_world.proofs.Mails.{both_few, for_few, for_is, if_at, nothing}
use Rattle.hpx_world.proofs.Rowed.{none_sum}
use Rattle.hpx_world.proofs.Unnamed.{NoneIn, less_each}

-- ---- messages

-- what frees goes where it frees
pub free_is : (o : Id) (j k : ℕ) (p : Parcel) → free_for o j k p ≡ cond (k == j) (frees_one o p) 0
free_is o j k (Free x) = if_at (same_object o x) j k
free_is o j k _ = nothing (k == j)

-- and from its home
pub free_home : (o : Id) (k to : ℕ) (p : Parcel) → MayGoTo k to p → o.home ≢ k → frees_one o p ≡ 0
free_home o k to (Free x) may other = each (same_object o x) refl
  where
    each : (b : Bool) → same_object o x ≡ b → one_if (same_object o x) ≡ 0
    each true t = absurd (other (ap (λ (y : Id). y.home) (same_object-true o x t) ∙ sym may))
    each false f = ap one_if f
free_home o k to _ may other = refl

granted_frees : (k : ℕ) (t : Tables) (o : Id) (j : ℕ) (p : Parcel) → IsGranted k t.objects p → free_for o j k p ≡ 0
granted_frees k t o j (Free x) h = absurd h
granted_frees k t o j _ h = refl

stray_frees : (k : ℕ) (o : Id) (j : ℕ) (p : Parcel) → IsStray p → free_for o j k p ≡ 0
stray_frees k o j (Free x) h = absurd h
stray_frees k o j _ h = refl

-- ---- entries

pub all_less : (F G : Event → ℕ) (es : List Entry) → ((e : Event) → F e ≤ G e) → all_count F es ≤ all_count G es
all_less F G es h = less_each (λ (e : Entry). F e.event) (λ (e : Entry). G e.event) es (λ e. h e.event)

none_if : (b : Bool) → ◌≡◌ {A = ℕ} (cond b 0 0) 0
none_if true = refl
none_if false = refl

module _ (r : Rules) (k : ℕ) (o : Id) (j : ℕ) where
  -- what comes: what tells that it landed at j, and it
  ends_come : (e : Event) → come r (tells_at o j) e + cond (j == k) (one_if (is_landed_of o e)) 0 ≤ flow_comes r k (EndsAt o j) e
  ends_come (In bytes) = omega (arith, each (r.parcel_of bytes), none_if (j == k))
    where
      each : (p : Option Parcel) → weighed (tells_at o j) p ≤ weighed (flow_in k (EndsAt o j)) p
      each None = omega arith
      each (Some p) = omega arith
  ends_come (Landed x) = omega (arith, and_cond (same_object o x) (j == k))
  ends_come _ = omega (arith, none_if (j == k))

  -- what goes: a grant or what frees it, to j; it leaves from there, or is freed there
  ends_go : (e : Event) → flow_goes r k (EndsAt o j) e ≤ gone_to r j (grants_of o) e + gone_to r j (frees_one o) e + cond (j == k) (one_if (is_left_of o e) + one_if (is_freed o e)) 0
  ends_go (Out to bytes) = each (r.parcel_of bytes)
    where
      none_two : (b : Bool) → cond b 0 0 + cond b 0 0 ≡ 0
      none_two true = refl
      none_two false = refl

      each : (p : Option Parcel) → weighed (λ q. go_for o j to q + free_for o j to q) p ≤ cond (to == j) (weighed (grants_of o) p) 0 + cond (to == j) (weighed (frees_one o) p) 0 + cond (j == k) (0 + 0) 0
      each None = omega arith
      each (Some p) = omega (arith, for_is o j to p, free_is o j to p)
  ends_go (Left x to) = omega (arith, and_cond (same_object o x) (j == k), one (j == k))
    where
      one : (b : Bool) → cond b (one_if (same_object o x)) 0 ≤ cond b (one_if (same_object o x) + 0) 0
      one true = omega arith
      one false = omega arith
  ends_go (Freed x) = omega (arith, and_cond (same_object o x) (j == k), one (j == k))
    where
      one : (b : Bool) → cond b (one_if (same_object o x)) 0 ≤ cond b (0 + one_if (same_object o x)) 0
      one true = omega arith
      one false = omega arith
  ends_go _ = omega arith

-- ---- at home

module _ (r : Rules) (log : ℕ) (es : List Entry) (o : Id) (t : Tables) (s : IsShown r log es o.home t) (dead : record_here t o ≡ None)
    (none_go : NoneIn (grants_of o) t) (none_tell : NoneIn (tell_of o) t) (none_came : count_by (λ (a : Arrival). same_object o a.object) t.came ≡ 0) (j : ℕ) where
  ends : cond (j == t.here) (all_count (dies o) (part o.home es)) 0 + all_count (flow_comes r t.here (EndsAt o j)) (part o.home es)
      ≤ weigh (flow t.here (EndsAt o j)) (at_rest t) + all_count (flow_goes r t.here (EndsAt o j)) (part o.home es)
  ends =
      let k = s.flowing.ends o j (sym s.here) in
      let a : Rattle.hpx_steps.specs.Flows.record_moves t.here (EndsAt o j) (record_here t o) ≡ 0 = ap (Rattle.hpx_steps.specs.Flows.record_moves t.here (EndsAt o j)) dead in
      let b : Rattle.hpx_steps.specs.Flows.record_rests (EndsAt o j) (record_here t o) ≡ 0 = ap (Rattle.hpx_steps.specs.Flows.record_rests (EndsAt o j)) dead in
      omega (arith, k, a, b)

  -- what is under way there frees it
  ends_here : weigh (flow t.here (EndsAt o j)) (at_rest t) ≤ cond (t.here == j) (sum_by (frees_one o) t.desk) 0 + sum_by (bound_for j (frees_one o)) t.outgoing
  ends_here = omega (
    arith,
    two_sums (λ p. go_for o j t.here p + tells_at o j p) (free_for o j t.here) t.desk,
    two_sums (go_for o j t.here) (tells_at o j) t.desk,
    two_sums (λ (x : Outgoing). go_for o j x.to x.parcel) (λ (x : Outgoing). free_for o j x.to x.parcel) t.outgoing,
    two_sums (go_for o j t.here) (free_for o j t.here) t.leaving,
    two_sums (go_for o j t.here) (free_for o j t.here) t.stray,
    none_go.desk,
    none_go.outgoing,
    none_go.leaving,
    none_go.stray,
    none_tell.desk,
    less_each (go_for o j t.here) (grants_of o) t.desk (for_few o j t.here),
    less_each (λ (x : Outgoing). go_for o j x.to x.parcel) (λ (x : Outgoing). grants_of o x.parcel) t.outgoing (λ x. for_few o j x.to x.parcel),
    less_each (go_for o j t.here) (grants_of o) t.leaving (for_few o j t.here),
    less_each (go_for o j t.here) (grants_of o) t.stray (for_few o j t.here),
    less_each (tells_at o j) (tell_of o) t.desk tells_few,
    none_sum (IsGranted t.here t.objects) (free_for o j t.here) t.leaving (granted_frees t.here t o j) s.tidy.leaving,
    none_sum IsStray (free_for o j t.here) t.stray (stray_frees t.here o j) s.tidy.stray,
    same_sum (free_for o j t.here) (λ p. cond (t.here == j) (frees_one o p) 0) t.desk (free_is o j t.here),
    if_all (t.here == j) t.desk,
    same_sum (λ (x : Outgoing). free_for o j x.to x.parcel) (bound_for j (frees_one o)) t.outgoing (λ x. free_is o j x.to x.parcel),
    less_each (λ (a : Arrival). one_if (same_object o a.object && (j == t.here))) (λ (a : Arrival). cond (same_object o a.object) 1 0) t.came (λ a. both_few (same_object o a.object) (j == t.here)),
    none_came,
    zeros t.queued,
    zeros t.accepted,
    zeros t.running,
    zeros t.pending,
    zeros t.objects,
  )
    where
      tells_few : (p : Parcel) → tells_at o j p ≤ tell_of o p
      tells_few (Rattle.hpx_journal.specs.Data.Arrived id place) = both_few (same_object o id) (place == j)
      tells_few _ = omega arith

      if_all : (b : Bool) (ps : List Parcel) → sum_by (λ p. cond b (frees_one o p) 0) ps ≡ cond b (sum_by (frees_one o) ps) 0
      if_all true ps = refl
      if_all false ps = zeros ps

  -- so no place is freed but one that it was at
  pub ends_at : cond (j == o.home) (all_count (dies o) (part o.home es)) 0 + (all_count (come r (tells_at o j)) (part o.home es) + cond (j == o.home) (all_count (λ e. one_if (is_landed_of o e)) (part o.home es)) 0)
      ≤ cond (o.home == j) (sum_by (frees_one o) t.desk) 0 + sum_by (bound_for j (frees_one o)) t.outgoing
      + (all_count (gone_to r j (grants_of o)) (part o.home es) + all_count (gone_to r j (frees_one o)) (part o.home es)
      + cond (j == o.home) (all_count (λ e. one_if (is_left_of o e)) (part o.home es) + all_count (λ e. one_if (is_freed o e)) (part o.home es)) 0)
  ends_at = subst (λ (h : ℕ). cond (j == h) (all_count (dies o) (part o.home es)) 0 + (all_count (come r (tells_at o j)) (part o.home es) + cond (j == h) (all_count (λ e. one_if (is_landed_of o e)) (part o.home es)) 0)
      ≤ cond (h == j) (sum_by (frees_one o) t.desk) 0 + sum_by (bound_for j (frees_one o)) t.outgoing
      + (all_count (gone_to r j (grants_of o)) (part o.home es) + all_count (gone_to r j (frees_one o)) (part o.home es)
      + cond (j == h) (all_count (λ e. one_if (is_left_of o e)) (part o.home es) + all_count (λ e. one_if (is_freed o e)) (part o.home es)) 0)) s.here (omega (
        arith,
        ends,
        ends_here,
        all_less (λ e. come r (tells_at o j) e + cond (j == t.here) (one_if (is_landed_of o e)) 0) (flow_comes r t.here (EndsAt o j)) (part o.home es) (ends_come r t.here o j),
        two_counts (come r (tells_at o j)) (λ e. cond (j == t.here) (one_if (is_landed_of o e)) 0) (part o.home es),
        count_if (j == t.here) (λ e. one_if (is_landed_of o e)) (part o.home es),
        all_less (flow_goes r t.here (EndsAt o j)) (λ e. gone_to r j (grants_of o) e + gone_to r j (frees_one o) e + cond (j == t.here) (one_if (is_left_of o e) + one_if (is_freed o e)) 0) (part o.home es) (ends_go r t.here o j),
        two_counts (λ e. gone_to r j (grants_of o) e + gone_to r j (frees_one o) e) (λ e. cond (j == t.here) (one_if (is_left_of o e) + one_if (is_freed o e)) 0) (part o.home es),
        two_counts (gone_to r j (grants_of o)) (gone_to r j (frees_one o)) (part o.home es),
        count_if (j == t.here) (λ e. one_if (is_left_of o e) + one_if (is_freed o e)) (part o.home es),
        if_two (j == t.here),
      ))
    where
      if_two : (b : Bool) → cond b (all_count (λ e. one_if (is_left_of o e) + one_if (is_freed o e)) (part o.home es)) 0
          ≡ cond b (all_count (λ e. one_if (is_left_of o e)) (part o.home es) + all_count (λ e. one_if (is_freed o e)) (part o.home es)) 0
      if_two true = two_counts (λ e. one_if (is_left_of o e)) (λ e. one_if (is_freed o e)) (part o.home es)
      if_two false = refl
