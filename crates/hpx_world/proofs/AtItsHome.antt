-- What the home of an object knows of its moves.
use Rattle.std.proofs.Common.{ℕ, Bool, true, false, cond, List, ◌≡◌, ◌≢◌, ◌+◌, ◌≤◌, ◌==◌, Option, Some, None, refl, sym, ◌∙◌, subst, arith, inl, inr}
use Rattle.std.specs.Prelude.{◌&&◌, ◌⊎◌}
use Rattle.std.specs.List.{sum_by, count_by, AllByRecursion}
use Rattle.std.proofs.lemmas.Bool.{ne_eqb}
use Rattle.hpx_value.specs.Ids.{same_object}
use Rattle.hpx_journal.specs.Bags.{total}
use Rattle.hpx_journal.specs.Data.{Id, Parcel}
use Rattle.hpx_journal.specs.Entries.{Rules}
use Rattle.hpx_journal.specs.Moving.{is_landed_of, is_left_of, at_home}
use Rattle.hpx_journal.specs.Whole.{part}
use Rattle.hpx_journal.proofs.Alls.{all-map}
use Rattle.hpx_part.specs.Data.{Event, Entry, Left, Landed, Out, In}
use Rattle.hpx_agas.specs.declared.record.Record.{Record}
use Rattle.hpx_steps.specs.Frames.{IsOnItsWay, IsForHere}
use Rattle.hpx_steps.specs.Flows.{Flow, MovesTo, PlacedAt, flow, flow_of, flow_comes, flow_goes, go_for, dies, record_moves, record_rests}
use Rattle.hpx_steps.specs.Items.{weigh}
use Rattle.hpx_steps.specs.Rest.{bound_for}
use Rattle.hpx_steps.specs.Rows.{go_to, tell_of, tells_at, one_if, weighed}
use Rattle.hpx_steps.specs.Sound.{IsStray, all_count, come, gone, gone_to, grants_of}
use Rattle.hpx_steps.specs.Turn.{at_rest}
use Rattle.hpx_steps.proofs.Sums.{zeros, same_sum, two_sums}
use Rattle.hpx_tables.specs.Kept.{record_here}
use Rattle.hpx_tables.specs.Tables.{Tables}
use Rattle.hpx_tables.specs.declared.kept.Arrival.{Arrival}
use Rattle.hpx_tables.specs.declared.kept.Outgoing.{Outgoing}
use Rattle.hpx_world.specs.Tracks.{kept_mail, leaves_for}
use Rattle.hpx_world.proofs.Known.{IsShown}
use Rattle.hpx_world.proofs.Mails.{for_is, tells_here, tells_elsewhere, tell_home}
use Rattle.hpx_world.proofs.Rowed.{none_sum, stray_goes, on_way, for_here, all_same}
use Rattle.hpx_world.proofs.Traffic.{total_one, total_sum, sum_same}

-- ---- entries

weighed_two : (f g : Parcel → ℕ) (p : Option Parcel) → weighed (λ q. f q + g q) p ≡ weighed f p + weighed g p
weighed_two f g None = refl
weighed_two f g (Some p) = refl

pub and_cond : (a b : Bool) → one_if (a && b) ≡ cond b (one_if a) 0
and_cond true true = refl
and_cond true false = refl
and_cond false true = refl
and_cond false false = refl

pub two_counts : (F G : Event → ℕ) (es : List Entry) → all_count (λ e. F e + G e) es ≡ all_count F es + all_count G es
two_counts F G es = two_sums (λ (e : Entry). F e.event) (λ (e : Entry). G e.event) es

pub count_if : (b : Bool) (F : Event → ℕ) (es : List Entry) → all_count (λ e. cond b (F e) 0) es ≡ cond b (all_count F es) 0
count_if true F es = refl
count_if false F es = zeros es

module _ (r : Rules) (k : ℕ) (o : Id) where
  -- what comes for a move to t
  moves_come : (t : ℕ) (e : Event) → flow_comes r k (MovesTo o t) e ≡ come r (go_to o t) e + (come r (tells_at o t) e + cond (t == k) (one_if (is_landed_of o e)) 0)
  moves_come t (In bytes) = omega (arith, weighed_two (go_to o t) (tells_at o t) (r.parcel_of bytes), none (t == k))
    where
      none : (b : Bool) → ◌≡◌ {A = ℕ} (cond b 0 0) 0
      none true = refl
      none false = refl
  moves_come t (Landed x) = omega (arith, and_cond (same_object o x) (t == k))
  moves_come t _ = none (t == k)
    where
      none : (b : Bool) → ◌≡◌ {A = ℕ} 0 (0 + (0 + cond b 0 0))
      none true = refl
      none false = refl

  moves_go : (t : ℕ) (e : Event) → flow_goes r k (MovesTo o t) e ≡ gone r (go_to o t) e + leaves_for o t e
  moves_go t (Out to bytes) = omega arith
  moves_go t (Left x to) = omega arith
  moves_go t _ = refl

  -- what comes for a place
  places_come : (j : ℕ) (e : Event) → flow_comes r k (PlacedAt o j) e ≡ come r (go_for o j k) e + (come r (tells_at o j) e + cond (j == k) (one_if (is_landed_of o e)) 0)
  places_come j (In bytes) = omega (arith, weighed_two (go_for o j k) (tells_at o j) (r.parcel_of bytes), none (j == k))
    where
      none : (b : Bool) → ◌≡◌ {A = ℕ} (cond b 0 0) 0
      none true = refl
      none false = refl
  places_come j (Landed x) = omega (arith, and_cond (same_object o x) (j == k))
  places_come j _ = none (j == k)
    where
      none : (b : Bool) → ◌≡◌ {A = ℕ} 0 (0 + (0 + cond b 0 0))
      none true = refl
      none false = refl

  places_go : (j : ℕ) (e : Event) → flow_goes r k (PlacedAt o j) e ≡ gone_to r j (grants_of o) e + cond (j == k) (one_if (is_left_of o e)) 0
  places_go j (Out to bytes) = each (r.parcel_of bytes)
    where
      each : (p : Option Parcel) → weighed (go_for o j to) p ≡ cond (to == j) (weighed (grants_of o) p) 0 + cond (j == k) 0 0
      each None = each_none (to == j) (j == k)
        where
          each_none : (a b : Bool) → ◌≡◌ {A = ℕ} 0 (cond a 0 0 + cond b 0 0)
          each_none true true = refl
          each_none true false = refl
          each_none false true = refl
          each_none false false = refl
      each (Some p) = omega (arith, for_is o j to p, none (j == k))
        where
          none : (b : Bool) → ◌≡◌ {A = ℕ} (cond b 0 0) 0
          none true = refl
          none false = refl
  places_go j (Left x to) = omega (arith, and_cond (same_object o x) (j == k))
  places_go j _ = none (j == k)
    where
      none : (b : Bool) → ◌≡◌ {A = ℕ} 0 (0 + cond b 0 0)
      none true = refl
      none false = refl

  -- so it is with all of them
  pub placed_comes : (j : ℕ) (es : List Entry) → all_count (flow_comes r k (PlacedAt o j)) es
      ≡ all_count (come r (go_for o j k)) es + (all_count (come r (tells_at o j)) es + cond (j == k) (all_count (λ e. one_if (is_landed_of o e)) es) 0)
  placed_comes j es = omega (
    arith,
    all_same (flow_comes r k (PlacedAt o j)) (λ e. come r (go_for o j k) e + (come r (tells_at o j) e + cond (j == k) (one_if (is_landed_of o e)) 0)) es (places_come j),
    two_counts (come r (go_for o j k)) (λ e. come r (tells_at o j) e + cond (j == k) (one_if (is_landed_of o e)) 0) es,
    two_counts (come r (tells_at o j)) (λ e. cond (j == k) (one_if (is_landed_of o e)) 0) es,
    count_if (j == k) (λ e. one_if (is_landed_of o e)) es,
  )

  pub placed_goes : (j : ℕ) (es : List Entry) → all_count (flow_goes r k (PlacedAt o j)) es
      ≡ all_count (gone_to r j (grants_of o)) es + cond (j == k) (all_count (λ e. one_if (is_left_of o e)) es) 0
  placed_goes j es = omega (
    arith,
    all_same (flow_goes r k (PlacedAt o j)) (λ e. gone_to r j (grants_of o) e + cond (j == k) (one_if (is_left_of o e)) 0) es (places_go j),
    two_counts (gone_to r j (grants_of o)) (λ e. cond (j == k) (one_if (is_left_of o e)) 0) es,
    count_if (j == k) (λ e. one_if (is_left_of o e)) es,
  )

-- ---- what is here

module _ (t : Tables) (o : Id) where
  moves_here : (j : ℕ) → weigh (flow t.here (MovesTo o j)) (at_rest t)
      ≡ sum_by (go_to o j) t.desk + sum_by (tells_at o j) t.desk + sum_by (λ (x : Outgoing). go_to o j x.parcel) t.outgoing + sum_by (go_to o j) t.leaving + sum_by (go_to o j) t.stray
      + cond (j == t.here) (count_by (λ (a : Arrival). same_object o a.object) t.came) 0
  moves_here j = omega (
    arith,
    two_sums (go_to o j) (tells_at o j) t.desk,
    zeros t.queued,
    zeros t.accepted,
    zeros t.running,
    zeros t.pending,
    zeros t.objects,
    came (j == t.here) refl,
  )
    where
      came : (b : Bool) → (j == t.here) ≡ b → sum_by (λ (a : Arrival). one_if (same_object o a.object && (j == t.here))) t.came ≡ cond b (count_by (λ (a : Arrival). same_object o a.object) t.came) 0
      came true e = rw e (same_sum (λ (a : Arrival). one_if (same_object o a.object && true)) (λ (a : Arrival). cond (same_object o a.object) 1 0) t.came (λ a. and_cond (same_object o a.object) true))
      came false e = rw e (same_sum (λ (a : Arrival). one_if (same_object o a.object && false)) (λ (a : Arrival). 0) t.came (λ a. and_cond (same_object o a.object) false) ∙ zeros t.came)

  places_here : (j : ℕ) → weigh (flow t.here (PlacedAt o j)) (at_rest t)
      ≡ sum_by (go_for o j t.here) t.desk + sum_by (tells_at o j) t.desk + sum_by (λ (x : Outgoing). go_for o j x.to x.parcel) t.outgoing + sum_by (go_for o j t.here) t.leaving + sum_by (go_for o j t.here) t.stray
      + cond (j == t.here) (count_by (λ (a : Arrival). same_object o a.object) t.came) 0
  places_here j = omega (
    arith,
    two_sums (go_for o j t.here) (tells_at o j) t.desk,
    zeros t.queued,
    zeros t.accepted,
    zeros t.running,
    zeros t.pending,
    zeros t.objects,
    came (j == t.here) refl,
  )
    where
      came : (b : Bool) → (j == t.here) ≡ b → sum_by (λ (a : Arrival). one_if (same_object o a.object && (j == t.here))) t.came ≡ cond b (count_by (λ (a : Arrival). same_object o a.object) t.came) 0
      came true e = rw e (same_sum (λ (a : Arrival). one_if (same_object o a.object && true)) (λ (a : Arrival). cond (same_object o a.object) 1 0) t.came (λ a. and_cond (same_object o a.object) true))
      came false e = rw e (same_sum (λ (a : Arrival). one_if (same_object o a.object && false)) (λ (a : Arrival). 0) t.came (λ a. and_cond (same_object o a.object) false) ∙ zeros t.came)

stray_for : (o : Id) (j k : ℕ) (p : Parcel) → IsStray p → go_for o j k p ≡ 0
stray_for o j k p h = omega (arith, Rattle.hpx_world.proofs.Mails.for_few o j k p, stray_grants p h)
  where
    stray_grants : (p : Parcel) → IsStray p → grants_of o p ≡ 0
    stray_grants (Rattle.hpx_journal.specs.Data.Go act) h = absurd h
    stray_grants _ h = refl

for_list : (o : Id) (j k : ℕ) (ps : List Parcel) → sum_by (go_for o j k) ps ≡ cond (k == j) (sum_by (grants_of o) ps) 0
for_list o j k ps = same_sum (go_for o j k) (λ p. cond (k == j) (grants_of o p) 0) ps (for_is o j k) ∙ each (k == j)
  where
    each : (b : Bool) → sum_by (λ p. cond b (grants_of o p) 0) ps ≡ cond b (sum_by (grants_of o) ps) 0
    each true = refl
    each false = zeros ps

-- ---- at home

module _ (r : Rules) (log : ℕ) (es : List Entry) (o : Id) (t : Tables) (s : IsShown r log es o.home t) (alive : 1 ≤ all_count (dies o) (part o.home es) → ⊥)
    (x : Record) (found : record_here t o ≡ Some x) where
  flows : (f : Flow) → (flow_of f).home ≡ t.here → (1 ≤ all_count (dies (flow_of f)) (part o.home es))
      ⊎ (record_moves t.here f (record_here t (flow_of f)) + all_count (flow_comes r t.here f) (part o.home es)
      ≡ weigh (flow t.here f) (at_rest t) + all_count (flow_goes r t.here f) (part o.home es) + record_rests f (record_here t (flow_of f)))
  flows = s.flowing.flows

  on_desk : AllByRecursion (IsForHere r.localities o.home) t.desk
  on_desk = for_here r log es o.home t s o

  -- it is told on its own desk of what landed here alone
  told_here : sum_by (tells_at o o.home) t.desk ≡ sum_by (tell_of o) t.desk
  told_here = sum_same (tells_at o o.home) (tell_of o) t.desk
      (all-map (IsForHere r.localities o.home) (λ p. tells_at o o.home p ≡ tell_of o p) (λ p h. tells_here o o.home h.to p h.may) t.desk on_desk)

  told_far : (j : ℕ) → o.home ≢ j → sum_by (tells_at o j) t.desk ≡ 0
  told_far j d = none_sum (IsForHere r.localities o.home) (tells_at o j) t.desk (λ p h. tells_elsewhere o o.home j h.to p h.may d) on_desk

  -- and none goes home from there
  tells_kept : kept_mail (tell_of o) t ≡ sum_by (tell_of o) t.desk
  tells_kept = omega (
    arith,
    none_sum (IsOnItsWay r.localities o.home) (λ (y : Outgoing). tell_of o y.parcel) t.outgoing (λ y h. tell_home o o.home y.to y.parcel h.may h.away) (on_way r log es o.home t s o),
  )

  -- what is begun
  pub begun_flow : (j : ℕ) → record_moves t.here (MovesTo o j) (record_here t o)
      + (all_count (come r (go_to o j)) (part o.home es) + (all_count (come r (tells_at o j)) (part o.home es) + cond (j == o.home) (all_count (λ e. one_if (is_landed_of o e)) (part o.home es)) 0))
      ≡ sum_by (go_to o j) t.desk + sum_by (tells_at o j) t.desk + sum_by (λ (y : Outgoing). go_to o j y.parcel) t.outgoing + sum_by (go_to o j) t.leaving
      + cond (j == o.home) (count_by (λ (a : Arrival). same_object o a.object) t.came) 0
      + (all_count (gone r (go_to o j)) (part o.home es) + all_count (leaves_for o j) (part o.home es))
  begun_flow j = elim (flows (MovesTo o j) (sym s.here)) [
    | inl dead ↦ absurd (alive dead)
    | inr e ↦ subst (λ (h : ℕ). record_moves t.here (MovesTo o j) (record_here t o)
        + (all_count (come r (go_to o j)) (part o.home es) + (all_count (come r (tells_at o j)) (part o.home es) + cond (j == h) (all_count (λ e. one_if (is_landed_of o e)) (part o.home es)) 0))
        ≡ sum_by (go_to o j) t.desk + sum_by (tells_at o j) t.desk + sum_by (λ (y : Outgoing). go_to o j y.parcel) t.outgoing + sum_by (go_to o j) t.leaving
        + cond (j == h) (count_by (λ (a : Arrival). same_object o a.object) t.came) 0
        + (all_count (gone r (go_to o j)) (part o.home es) + all_count (leaves_for o j) (part o.home es))) s.here (omega (
          arith,
          e,
          moves_here t o j,
          none_sum IsStray (go_to o j) t.stray (stray_goes o j) s.tidy.stray,
          all_same (flow_comes r t.here (MovesTo o j)) (λ e. come r (go_to o j) e + (come r (tells_at o j) e + cond (j == t.here) (one_if (is_landed_of o e)) 0)) (part o.home es) (moves_come r t.here o j),
          two_counts (come r (go_to o j)) (λ e. come r (tells_at o j) e + cond (j == t.here) (one_if (is_landed_of o e)) 0) (part o.home es),
          two_counts (come r (tells_at o j)) (λ e. cond (j == t.here) (one_if (is_landed_of o e)) 0) (part o.home es),
          count_if (j == t.here) (λ e. one_if (is_landed_of o e)) (part o.home es),
          all_same (flow_goes r t.here (MovesTo o j)) (λ e. gone r (go_to o j) e + leaves_for o j e) (part o.home es) (moves_go r t.here o j),
          two_counts (gone r (go_to o j)) (leaves_for o j) (part o.home es),
        ))
  ]

  -- where it is placed
  pub placed_flow : (j : ℕ) → at_home o.home j
      + (all_count (come r (go_for o j o.home)) (part o.home es) + (all_count (come r (tells_at o j)) (part o.home es) + cond (j == o.home) (all_count (λ e. one_if (is_landed_of o e)) (part o.home es)) 0))
      ≡ cond (o.home == j) (sum_by (grants_of o) t.desk) 0 + sum_by (tells_at o j) t.desk + sum_by (λ (y : Outgoing). cond (y.to == j) (grants_of o y.parcel) 0) t.outgoing
      + cond (o.home == j) (sum_by (grants_of o) t.leaving) 0 + cond (j == o.home) (count_by (λ (a : Arrival). same_object o a.object) t.came) 0
      + (all_count (gone_to r j (grants_of o)) (part o.home es) + cond (j == o.home) (all_count (λ e. one_if (is_left_of o e)) (part o.home es)) 0)
      + record_rests (PlacedAt o j) (record_here t o)
  placed_flow j = elim (flows (PlacedAt o j) (sym s.here)) [
    | inl dead ↦ absurd (alive dead)
    | inr e ↦
        let some : record_moves t.here (PlacedAt o j) (record_here t o) ≡ at_home t.here j = rw found refl in
        subst (λ (h : ℕ). at_home h j
        + (all_count (come r (go_for o j h)) (part o.home es) + (all_count (come r (tells_at o j)) (part o.home es) + cond (j == h) (all_count (λ e. one_if (is_landed_of o e)) (part o.home es)) 0))
        ≡ cond (h == j) (sum_by (grants_of o) t.desk) 0 + sum_by (tells_at o j) t.desk + sum_by (λ (y : Outgoing). cond (y.to == j) (grants_of o y.parcel) 0) t.outgoing
        + cond (h == j) (sum_by (grants_of o) t.leaving) 0 + cond (j == h) (count_by (λ (a : Arrival). same_object o a.object) t.came) 0
        + (all_count (gone_to r j (grants_of o)) (part o.home es) + cond (j == h) (all_count (λ e. one_if (is_left_of o e)) (part o.home es)) 0)
        + record_rests (PlacedAt o j) (record_here t o)) s.here (omega (
          arith,
          e,
          some,
          places_here t o j,
          for_list o j t.here t.desk,
          for_list o j t.here t.leaving,
          same_sum (λ (y : Outgoing). go_for o j y.to y.parcel) (λ (y : Outgoing). cond (y.to == j) (grants_of o y.parcel) 0) t.outgoing (λ y. for_is o j y.to y.parcel),
          none_sum IsStray (go_for o j t.here) t.stray (stray_for o j t.here) s.tidy.stray,
          placed_comes r t.here o j (part o.home es),
          placed_goes r t.here o j (part o.home es),
        ))
  ]

  -- ---- what goes to each locality is all that goes

  pub kept_for_home : (w : Parcel → ℕ) → sum_by (bound_for o.home w) t.outgoing ≡ 0
  kept_for_home w = none_sum (IsOnItsWay r.localities o.home) (bound_for o.home w) t.outgoing (λ y h. rw (ne_eqb y.to o.home h.away) refl) (on_way r log es o.home t s o)

  pub kept_for_all : (w : Parcel → ℕ) → total r.localities (λ k. sum_by (bound_for k w) t.outgoing) ≡ sum_by (λ (y : Outgoing). w y.parcel) t.outgoing
  kept_for_all w = total_sum r.localities (λ k (y : Outgoing). bound_for k w y) t.outgoing
      ∙ sum_same (λ (y : Outgoing). total r.localities (λ k. bound_for k w y)) (λ (y : Outgoing). w y.parcel) t.outgoing
      (all-map (IsOnItsWay r.localities o.home) (λ (y : Outgoing). total r.localities (λ k. bound_for k w y) ≡ w y.parcel) (λ y h. total_one r.localities y.to (w y.parcel) h.somewhere)
      t.outgoing (on_way r log es o.home t s o))

  pub told_on_desk : (sum_by (tells_at o o.home) t.desk ≡ kept_mail (tell_of o) t) × ((j : ℕ) → o.home ≢ j → sum_by (tells_at o j) t.desk ≡ 0)
  told_on_desk = (omega (arith, told_here, tells_kept), told_far)
