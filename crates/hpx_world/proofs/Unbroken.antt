-- A frame on the road, and the first message on a desk, break no rule, where objects move too: but for what frees an object.
use Rattle.std.proofs.Common.{ℕ, Bool, true, false, List, [], ◌∷◌, ◌≡◌, ◌+◌, ◌<◌, ◌≤◌, ◌==◌, Option, Some, None, map, refl, sym, ap, ◌∙◌, subst, arith, inl, inr}
use Rattle.std.specs.Prelude.{◌&&◌, ◌||◌, ◌⊎◌, not, nat_le, nat_lt, is_some, IfSome}
use Rattle.std.specs.Option.{option_map_or, option_and_then}
use Rattle.std.specs.List.{find, list_any, slice_get, sum_by, count_by, AllByRecursion}
use Rattle.std.proofs.lemmas.Bool.{cases_Bool, cases_lt, cases_eq, eq-eqb, eqb-true, lt-leb, le-ltb, ltb-false}
use Rattle.std.proofs.lemmas.List.Sums.{sum_by-cons}
use Rattle.std.proofs.Math.Pow.{pow_pos}
use Rattle.hpx_value.specs.Ids.{bare, credit, credit_of_log, same_object}
use Rattle.hpx_value.specs.Values.{bare_act}
use Rattle.hpx_parcel.specs.Parcels.{IsParcel, HasCredit}
use Rattle.hpx_journal.specs.Data.{Id, Act, Parcel, Apply, Return, Ask, Give, Cached, Move, Go, Shipped, Arrived, Free}
use Rattle.hpx_journal.specs.Entries.{Rules, target_of, move_to}
use Rattle.hpx_journal.specs.Local.{is_standing, is_recorded, recorded, count_in}
use Rattle.hpx_journal.specs.Natives.{StandsAtHome}
use Rattle.hpx_journal.specs.Rows.{is_to}
use Rattle.hpx_journal.specs.Whole.{recorded_in, replayed, credit_sum}
use Rattle.hpx_journal.proofs.Bools.{or_false, or_left, or_right}
use Rattle.hpx_journal.proofs.Start.{legal_whole}
use Rattle.hpx_part.specs.Data.{Entry, Standing}
use Rattle.hpx_part.proofs.Keyed.{any_counted, counted_any}
use Rattle.hpx_commit.specs.Deals.{log_of}
use Rattle.hpx_agas.specs.Records.{find_record}
use Rattle.hpx_agas.specs.declared.record.Record.{Record}
use Rattle.hpx_steps.specs.Rest.{waits_for}
use Rattle.hpx_steps.specs.Rows.{one_if}
use Rattle.hpx_steps.specs.Turn.{counted}
use Rattle.hpx_steps.proofs.Puts.{target-bare, move_to-bare}
use Rattle.hpx_steps.proofs.Sums.{messages_sum}
use Rattle.hpx_tables.specs.Kept.{count_here, held_here, is_queued, moving_here, record_here, stands_here, stays_here}
use Rattle.hpx_tables.specs.Pending.{Waits, awaits, is_asked_for}
use Rattle.hpx_tables.specs.Rules.{broken, broken_near, is_lost, rests_at, return_rule}
use Rattle.hpx_tables.specs.Strange.{are_far, brings_right, is_far, is_far_act, is_live, moves_far}
use Rattle.hpx_tables.specs.declared.strange.Broken.{Broken}
use Rattle.hpx_tables.specs.Tables.{Tables}
use Rattle.hpx_world.proofs.Audited.{count_in_records}
use Rattle.hpx_world.proofs.Counted.{AreNodes}
use Rattle.hpx_world.proofs.Known.{IsJoined, IsShown}
use Rattle.hpx_world.proofs.Named.{IsActMet, lawful, queued_held, target_credited}
use Rattle.hpx_world.proofs.Near.{near_move}
use Rattle.hpx_world.proofs.Whereabouts.{its_home, its_record, rest_stays}

and_no : (b : Bool) → (b && false) ≡ false
and_no true = refl
and_no false = refl

-- ---- rule 9

near_ids : (n : ℕ) (ids : List Id) → AllByRecursion (λ o. o.home < n) (map bare ids) → are_far n ids ≡ false
near_ids n [] h = refl
near_ids n (id ∷ ids) h = or_false (nat_le n id.home) (are_far n ids) (lt-leb n id.home h.0) (near_ids n ids h.1)

pub near_act : (r : Rules) (w : _) (act : Act) → IsActMet r w (bare_act act) → is_far_act r.localities act ≡ false
near_act r w act h = or_false (nat_le r.localities act.origin) (are_far r.localities act.ids) (lt-leb r.localities act.origin h.origin) (near_ids r.localities act.ids h.near)

near_to : (n : ℕ) (to : Option ℕ) → IfSome to (λ t. t < n) → moves_far n to ≡ false
near_to n None h = refl
near_to n (Some t) h = lt-leb n t h

pub near_place : (r : Rules) (w : _) (act : Act) → IsActMet r w (bare_act act) → moves_far r.localities (move_to act) ≡ false
near_place r w act h = near_to r.localities (move_to act) (subst (λ m. IfSome m (λ t. t < r.localities)) (move_to-bare act) (near_move r.localities (bare_act act) h.moves))

-- ---- records

some_counted : (slot : Option Record) → 1 ≤ option_map_or (λ (x : Record). x.count) slot 0 → is_some slot ≡ true
some_counted None h = absurd (omega (arith, h))
some_counted (Some x) h = refl

pub some_credit : (log : Option ℕ) → (log ≡ None → ⊥) → 1 ≤ credit_of_log log
some_credit None h = absurd (h refl)
some_credit (Some log) h = omega (arith, pow_pos log)

pub has_credit : (id : Id) → HasCredit id → id.log ≡ None → ⊥
has_credit id h e = subst (λ log. HasCredit (record { home = id.home; kind = id.kind; number = id.number; log = log })) e h

pub has_kind : (id : Id) → HasCredit id → 16 ≤ id.kind
has_kind id h = each id.log h
  where
    each : (log : Option ℕ) → Rattle.std.specs.Prelude.MatchOption log ⊥ (λ n. 16 ≤ id.kind) → 16 ≤ id.kind
    each None h = absurd h
    each (Some n) h = h

waited : (o : Id) (n : ℕ) (ws : List Waits) → 1 ≤ waits_for o n ws → list_any (awaits o n) ws ≡ true
waited o n [] h = absurd (omega (arith, h))
waited o n (w ∷ ws) h = elim (cases_Bool (awaits o n w)) [
  | inl t ↦ or_left (awaits o n w) (list_any (awaits o n) ws) t
  | inr f ↦ or_right (awaits o n w) (list_any (awaits o n) ws) (waited o n ws (elim (cases_lt 0 (count_by (is_asked_for w o n) w.asked)) [
    | inl some ↦ absurd (let u = any_counted (is_asked_for w o n) w.asked (omega (arith, some)) in cc)
    | inr none ↦ omega (arith, h, none, sum_by-cons (λ (x : Waits). count_by (is_asked_for x o n) x.asked) w ws)
  ]))
]

module _ (r : Rules) (log : ℕ) (nodes : List Tables) (es : List Entry) (joined : IsJoined r es) (each : AreNodes r log nodes es)
    (k : ℕ) (t : Tables) (at : slice_get nodes k ≡ Some t) where
  s : IsShown r log es k t
  s = each.shown k t at

  -- the count of an object that is at home here is its credit
  counted_here : (o : Id) → o.home ≡ k → count_here t o ≡ credit_sum r o (replayed r es)
  counted_here o home =
      sym (count_in_records o t.records)
      ∙ (sym (s.shows.counts.live o (home ∙ sym s.here))
      ∙ (ap (λ j. recorded o ((replayed r es).places j)) (sym home) ∙ sym ((legal_whole r es (lawful r es joined)).ledger o)))

  live : (o : Id) → o.home ≡ k → 1 ≤ credit_sum r o (replayed r es) → is_live t o ≡ true
  live o home some =
      let found : is_some (record_here t o) ≡ true = some_counted (record_here t o) (omega (arith, some, counted_here o home)) in
      rw (eq-eqb o.home t.here (home ∙ sym s.here), found) refl

  pub in_record : (o : Id) → 1 ≤ credit_sum r o (replayed r es) → 1 ≤ recorded_in o (replayed r es)
  in_record o h = omega (arith, h, (legal_whole r es (lawful r es joined)).ledger o)

  there : (o : Id) → 1 ≤ count_by (is_standing o) ((replayed r es).places k).objects → stands_here t o ≡ true
  there o h = Rattle.hpx_world.proofs.Whereabouts.found_by o t.objects (omega (
    arith,
    h,
    s.shows.objects.objects.counts o,
    Rattle.hpx_steps.proofs.Sums.map_sum (λ (x : Standing). one_if (is_standing o x)) Rattle.hpx_steps.specs.Turn.bare_standing t.objects,
  ))

  -- an action is not lost
  pub not_lost : (act : Act) → IsActMet r (replayed r es) (bare_act act) → ((target_of act).kind < 16 → (target_of act).home ≡ k) → is_lost t (target_of act) ≡ false
  not_lost act h root = elim (cases_lt (target_of act).kind 16) [
    | inl small ↦
        let o = target_of act in
        let up : StandsAtHome r.localities (replayed r es) (bare o) = subst (StandsAtHome r.localities (replayed r es)) (target-bare act) (h.root (subst (λ (x : Id). x.kind < 16) (sym (target-bare act)) small)) in
        let stands : stands_here t (target_of act) ≡ true = there (bare o) (counted_any (is_standing o) ((replayed r es).places k).objects
        (subst (λ j. list_any (is_standing o) ((replayed r es).places j).objects ≡ true) (root small) up.stands)) in
        rw (lt-yes (target_of act).kind small, stands) refl
    | inr large ↦
        let o = target_of act in
        let some : 1 ≤ credit_sum r o (replayed r es) = credited large in
        elim (cases_eq o.home k) [
          | inl home ↦
              rw (le-ltb (target_of act).kind 16 large, live (target_of act) home some) (
              let rests = resting o large some home in
              each_rest (rests_at t.here (record_here t (target_of act))) refl rests
              )
          | inr away ↦ rw (le-ltb (target_of act).kind 16 large, Rattle.std.proofs.lemmas.Bool.ne_eqb (target_of act).home t.here (λ e. away (e ∙ s.here))) refl
        ]
  ]
    where
      lt-yes : (a : ℕ) → a < 16 → nat_lt a 16 ≡ true
      lt-yes a h = elim (cases_Bool (nat_lt a 16)) [ inl u ↦ u | inr u ↦ absurd (omega (arith, h, ltb-false a 16 u)) ]

      credited : 16 ≤ (target_of act).kind → 1 ≤ credit_sum r (target_of act) (replayed r es)
      credited large = subst (λ o. 1 ≤ credit_sum r o (replayed r es)) (target-bare act)
          (target_credited r (replayed r es) (bare_act act) h.credited (subst (λ (x : Id). 16 ≤ x.kind) (sym (target-bare act)) large))

      resting : (o : Id) → 16 ≤ o.kind → 1 ≤ credit_sum r o (replayed r es) → o.home ≡ k → rests_at t.here (record_here t o) ≡ true → stays_here t o ≡ true
      resting o large some home rests =
          let x = its_home r log nodes es joined each o large (in_record o some) in
          let y = its_record r log nodes es joined each o large (in_record o some) in
          let same : x.0 ≡ t = let e : ◌≡◌ (Some x.0) (Some t) = sym x.1 ∙ (ap (slice_get nodes) home ∙ at) in some_same x.0 t e in
          let found : record_here t o ≡ Some y.0 = subst (λ (u : Tables). record_here u o ≡ Some y.0) same y.1 in
          rest_stays r log nodes es joined each o large (in_record o some) k s.lt t at
          (subst (λ j. rests_at j (Some y.0) ≡ true) s.here (subst (λ rec. rests_at t.here rec ≡ true) found rests))
        where
          some_same : (a b : Tables) → ◌≡◌ (Some a) (Some b) → a ≡ b
          some_same a b e = cc

      each_rest : (b : Bool) → rests_at t.here (record_here t (target_of act)) ≡ b → (rests_at t.here (record_here t (target_of act)) ≡ true → stays_here t (target_of act) ≡ true)
          → (((target_of act).home == t.here) && (b && not (stays_here t (target_of act)))) ≡ false
      each_rest true e rests = rw (rests e) (and_no ((target_of act).home == t.here))
      each_rest false e rests = and_no ((target_of act).home == t.here)

  -- an id that comes home is covered, and is not the last while an action waits
  pub covers : (id : Id) (object : Id) (other : Option Broken) → 16 ≤ id.kind → (id.log ≡ None → ⊥) → id.home ≡ k → held_here t id + credit id ≤ credit_sum r id (replayed r es)
      → return_rule t object id other ≡ other
  covers id object other managed some home few =
      let c : 1 ≤ credit id = some_credit id.log some in
      let all : 1 ≤ credit_sum r id (replayed r es) = omega (arith, few, c) in
      let enough : nat_lt (count_here t id) (credit id) ≡ false = le-ltb (count_here t id) (credit id) (omega (arith, few, counted_here id home)) in
      rw (live id home all, enough) (rw (last (is_queued t id.number) refl all) refl)
    where
      last : (b : Bool) → is_queued t id.number ≡ b → 1 ≤ credit_sum r id (replayed r es) → ((count_here t id == credit id) && is_queued t id.number) ≡ false
      last false e all = rw e (and_no (count_here t id == credit id))
      last true e all =
          let held = queued_held r es joined log k t s id home (in_record id all) e in
          rw (Rattle.std.proofs.lemmas.Bool.ne_eqb (count_here t id) (credit id) (λ same. absurd (omega (arith, same, held, few, counted_here id home)))) refl

  brings : (id : Id) → (log_of id.log ≡ 0) ⊎ (log_of id.log ≡ log) → brings_right t id ≡ true
  brings id (inl e) = or_left (log_of id.log == 0) (log_of id.log == t.profile.credit_log) (eq-eqb (log_of id.log) 0 e)
  brings id (inr e) = or_right (log_of id.log == 0) (log_of id.log == t.profile.credit_log) (eq-eqb (log_of id.log) t.profile.credit_log (e ∙ sym s.credit))

  -- what a message says that breaks no rule
  abbrev pub IsFine : Parcel → Type 0
  IsFine (Apply act) = IsActMet r (replayed r es) (bare_act act) × ((target_of act).kind < 16 → (target_of act).home ≡ k)
  IsFine (Return id) = (id.home ≡ k) × (held_here t id + credit id ≤ credit_sum r id (replayed r es))
  IsFine (Ask id asker entry) = (id.home ≡ k) × (held_here t id + credit id ≤ credit_sum r id (replayed r es)) × (asker < r.localities)
  IsFine (Give id entry) = (id.home < r.localities) × ((log_of id.log ≡ 0) ⊎ (log_of id.log ≡ log)) × (1 ≤ waits_for id entry t.pending)
  IsFine (Cached id place) = ⊥
  IsFine (Move act) = IsActMet r (replayed r es) (bare_act act)
  IsFine (Go act) = IsActMet r (replayed r es) (bare_act act) × (stays_here t (target_of act) ≡ true) × (is_to k (move_to act) ≡ false)
  IsFine (Shipped act state) = IsActMet r (replayed r es) (bare_act act) × AllByRecursion (λ o. o.home < r.localities) (map bare state.ids) × (stands_here t (target_of act) ≡ false)
  IsFine (Arrived id place) = (id.home ≡ k) × (held_here t id + credit id ≤ credit_sum r id (replayed r es)) × (place < r.localities) × (moving_here t id ≡ Some place)
  IsFine (Free o) = ⊥

  home_near : (id : Id) → id.home ≡ k → nat_le r.localities id.home ≡ false
  home_near id home = lt-leb r.localities id.home (omega (arith, home, s.lt))

  near : (p : Parcel) → IsParcel p → IsFine p → is_far r.localities p ≡ false
  near (Apply act) form h = near_act r (replayed r es) act h.0
  near (Return id) form h = home_near id h.0
  near (Ask id asker entry) form h = or_false (nat_le r.localities id.home) (nat_le r.localities asker) (home_near id h.0) (lt-leb r.localities asker h.2)
  near (Give id entry) form h = lt-leb r.localities id.home h.0
  near (Move act) form h = or_false (is_far_act r.localities act) (moves_far r.localities (move_to act)) (near_act r (replayed r es) act h) (near_place r (replayed r es) act h)
  near (Go act) form h = or_false (is_far_act r.localities act) (moves_far r.localities (move_to act)) (near_act r (replayed r es) act h.0) (near_place r (replayed r es) act h.0)
  near (Shipped act state) form h =
      or_false (is_far_act r.localities act) (moves_far r.localities (move_to act) || are_far r.localities state.ids) (near_act r (replayed r es) act h.0)
      (or_false (moves_far r.localities (move_to act)) (are_far r.localities state.ids) (near_place r (replayed r es) act h.0) (near_ids r.localities state.ids h.1))
  near (Arrived id place) form h = or_false (nat_le r.localities id.home) (nat_le r.localities place) (home_near id h.0) (lt-leb r.localities place h.2)
  near (Cached id place) form h = absurd h
  near (Free o) form h = absurd h

  fine : (p : Parcel) → IsParcel p → IsFine p → broken_near t p ≡ None
  fine (Apply act) form h = rw (not_lost act h.0 h.1) refl
  fine (Return id) form h = covers id (bare id) None (has_kind id form) (has_credit id form) h.0 h.1
  fine (Ask id asker entry) form h = covers id (bare id) None form.1 (λ e. let g : ◌≡◌ {A = Option ℕ} (Some 0) None = sym form.0 ∙ e in cc) h.0 h.1
  fine (Give id entry) form h = rw (waited id entry t.pending h.2, brings id h.1) refl
  fine (Move act) form h = rw (not_lost act h (λ small. absurd (omega (arith, small, Rattle.hpx_world.proofs.Numbered.movable act form.target)))) refl
  fine (Go act) form h = rw (h.1, ap (λ j. is_to j (move_to act)) s.here ∙ h.2) refl
  fine (Shipped act state) form h = rw h.2 refl
  fine (Arrived id place) form h =
      let moves : option_map_or (λ j. is_to j (Some place)) (moving_here t id) false ≡ true = rw h.3 (eq-eqb place place refl) in
      covers id (bare id) _ (has_kind id form) (has_credit id form) h.0 h.1 ∙ rw moves refl
  fine (Cached id place) form h = absurd h
  fine (Free o) form h = absurd h

  -- breaks none
  pub unbroken : (p : Parcel) → IsParcel p → IsFine p → broken t p ≡ None
  unbroken p form h =
      let far : is_far t.localities p ≡ false = ap (λ n. is_far n p) s.count ∙ near p form h in
      rw far (fine p form h)
