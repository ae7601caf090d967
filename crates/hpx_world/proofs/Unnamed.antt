-- An object of which no credit is out is named nowhere: no action on it waits, runs or is on its way, and nothing tells of it.
use Rattle.std.proofs.Common.{ℕ, Bool, true, false, cond, List, [], ◌∷◌, ◌++◌, ◌≡◌, ◌+◌, ◌<◌, ◌≤◌, ◌==◌, ◌^◌, Option, Some, None, map, refl, sym, ap, ◌∙◌, subst, arith, inl, inr}
use Rattle.std.specs.Prelude.{◌&&◌, not, is_some, flat_map, MatchOption}
use Rattle.std.specs.List.{list_any, sum_by, count_by, AllByRecursion}
use Rattle.std.proofs.lemmas.Bool.{cases_Bool, cases_lt, eq-eqb}
use Rattle.std.proofs.lemmas.List.Sums.{sum_by-cons, sum_by-append}
use Rattle.std.proofs.Math.Pow.{pow_pos}
use Rattle.hpx_value.specs.Hands.{session}
use Rattle.hpx_value.specs.Ids.{bare, credit, credit_of_log, same_object}
use Rattle.hpx_value.specs.Values.{bare_act}
use Rattle.hpx_parcel.specs.Credits.{credit_list}
use Rattle.hpx_parcel.specs.Parcels.{IsParcel, HasCredit}
use Rattle.hpx_journal.specs.Data.{Id, Act, Parcel, Apply, Return, Ask, Give, Cached, Move, Go, Shipped, Arrived, Free}
use Rattle.hpx_journal.specs.Entries.{Rules, Frame, name_of, same_name, target_of}
use Rattle.hpx_journal.specs.Frames.{acts_in, tokens_in}
use Rattle.hpx_journal.specs.Laws.{road_run}
use Rattle.hpx_journal.specs.Local.{acts_on, is_act}
use Rattle.hpx_journal.specs.Names.{names}
use Rattle.hpx_journal.specs.Tokens.{owing, worth}
use Rattle.hpx_journal.specs.Whole.{credit_sum, frame_names, names_in, replayed}
use Rattle.hpx_journal.proofs.Bags.{total-term}
use Rattle.hpx_journal.proofs.Credited.{names_credited}
use Rattle.hpx_journal.proofs.Grow.{run_road}
use Rattle.hpx_journal.proofs.Bools.{or_false, false_from}
use Rattle.hpx_journal.proofs.Same.{and_true, same_object-refl, same_object-true}
use Rattle.hpx_journal.proofs.Start.{first}
use Rattle.hpx_part.specs.Data.{Entry}
use Rattle.hpx_part.proofs.Covered.{act_names}
use Rattle.hpx_part.proofs.Keyed.{counts_of, Agree-sum}
use Rattle.hpx_part.proofs.Keys.{means, own}
use Rattle.hpx_agas.specs.declared.record.Waiting.{Waiting}
use Rattle.hpx_steps.specs.Items.{Among, Brought, weigh}
use Rattle.hpx_steps.specs.Rest.{waiting}
use Rattle.hpx_steps.specs.Rows.{one_if, ship_to, tell_of, tells_at, weighed}
use Rattle.hpx_steps.specs.Sound.{arrival_of, brought, grants_of, move_of, moved_by, same_arrival}
use Rattle.hpx_steps.specs.Turn.{at_rest, parcel_acts}
use Rattle.hpx_steps.proofs.Puts.{target-bare}
use Rattle.hpx_steps.proofs.Sums.{flat_sum, map_sum, messages_sum, most_sum, zeros}
use Rattle.hpx_tables.specs.Kept.{credit_in, credit_owed, held_here, owed_here, waits_here}
use Rattle.hpx_tables.specs.Pending.{Waits, action_of}
use Rattle.hpx_tables.specs.Tables.{Tables, fired_acts, messages}
use Rattle.hpx_tables.specs.declared.kept.Arrival.{Arrival}
use Rattle.hpx_tables.specs.declared.kept.Outgoing.{Outgoing}
use Rattle.hpx_world.proofs.Known.{IsJoined, IsShown}
use Rattle.hpx_world.proofs.Mails.{both_few, ship_few}
use Rattle.hpx_world.proofs.Rowed.{none_among}
use Rattle.hpx_world.proofs.Traffic.{bound}

-- ---- what is not named is the target of none

no_target : (o : Id) → 16 ≤ o.kind → (act : Act) (ids : List Id) → act.ids ≡ ids → count_by (same_object o) (map bare ids) ≡ 0 → acts_on o act ≡ false
no_target o managed act [] is h = false_from (acts_on o act) (λ t.
    let e : target_of act ≡ session = ap (λ (xs : List Id). target_of (record act { ids = xs })) is in
    let k : o.kind ≡ 1 = ap (λ (x : Id). x.kind) (same_object-true o (target_of act) t) ∙ ap (λ (x : Id). x.kind) e in
    absurd (omega (arith, k, managed)))
no_target o managed act (id ∷ ids) is h = false_from (acts_on o act) (λ t.
    let e : target_of act ≡ id = ap (λ (xs : List Id). target_of (record act { ids = xs })) is in
    let u : same_object o id ≡ true = subst (λ x. same_object o x ≡ true) e t in
    let one : counts_of (same_object o) (bare id) ≡ 1 = rw u refl in
    absurd (omega (arith, h, one, sum_by-cons (counts_of (same_object o)) (bare id) (map bare ids))))

none_wait : (o : Id) → 16 ≤ o.kind → (running : List Act) (pending : List Waits)
    → sum_by (act_names o) (map bare_act (running ++ map action_of pending)) ≡ 0 → list_any (λ (w : Waits). acts_on o w.job.action) pending ≡ false
none_wait o managed [] [] h = refl
none_wait o managed [] (w ∷ ws) h =
    let c = sum_by-cons (act_names o) (bare_act (action_of w)) (map bare_act (map action_of ws)) in
    or_false (acts_on o w.job.action) (list_any (λ (x : Waits). acts_on o x.job.action) ws)
    (no_target o managed w.job.action w.job.action.ids refl (omega (arith, h, c)))
    (none_wait o managed [] ws (omega (arith, h, c)))
none_wait o managed (act ∷ acts) pending h =
    none_wait o managed acts pending (omega (arith, h, sum_by-cons (act_names o) (bare_act act) (map bare_act (acts ++ map action_of pending))))

-- ---- what names it

-- how often a message names o in its action
abbrev pub message_names : Id → Parcel → ℕ
message_names o p = sum_by (act_names o) (parcel_acts p)

-- an action on o names it
pub target_few : (o : Id) → 16 ≤ o.kind → (act : Act) → one_if (same_object o (target_of act)) ≤ act_names o (bare_act act)
target_few o managed act = elim (cases_lt 0 (act_names o (bare_act act))) [
  | inl some ↦ each (same_object o (target_of act)) some
  | inr none ↦ let no = no_target o managed act act.ids refl (omega (arith, none)) in omega (arith, ap one_if no)
]
  where
    each : (b : Bool) → 0 < act_names o (bare_act act) → one_if b ≤ act_names o (bare_act act)
    each true some = omega (arith, some)
    each false some = omega arith

one_act : (o : Id) (act : Act) → sum_by (act_names o) (bare_act act ∷ []) ≡ act_names o (bare_act act)
one_act o act = omega (arith, sum_by-cons (act_names o) (bare_act act) [])

pub grants_few : (o : Id) → 16 ≤ o.kind → (p : Parcel) → grants_of o p ≤ message_names o p
grants_few o managed (Go act) = omega (arith, target_few o managed act, one_act o act)
grants_few o managed _ = omega arith

pub ships_few : (o : Id) → 16 ≤ o.kind → (t : ℕ) (p : Parcel) → ship_to o t p ≤ message_names o p
ships_few o managed t (Shipped act state) = omega (arith, target_few o managed act, one_act o act, ship_few o t act)
ships_few o managed t _ = omega arith

-- a MOVE with which o came names it
moves_few : (o : Id) → 16 ≤ o.kind → (a : Arrival) → same_object o a.object ≡ true → (act : Act) → move_of a act ≤ act_names o (bare_act act)
moves_few o managed a same act = elim (cases_Bool ((act.code == 1) && same_arrival a (arrival_of act))) [
  | inl t ↦
      let k = and_true (same_name a.name (name_of act)) (same_object a.object (bare (target_of act)) && true) (and_true (act.code == 1) (same_arrival a (arrival_of act)) t).1 in
      let on : same_object a.object (bare (target_of act)) ≡ true = (and_true (same_object a.object (bare (target_of act))) true k.1).0 in
      let at : same_object o (target_of act) ≡ true = through (same_object-true o a.object same) on in
      omega (arith, target_few o managed act, ap one_if t, ap one_if at)
  | inr f ↦ omega (arith, ap one_if f)
]
  where
    through : bare o ≡ bare a.object → same_object a.object (bare (target_of act)) ≡ true → same_object o (target_of act) ≡ true
    through e h = subst (λ (x : Id). same_object x (target_of act) ≡ true) (sym e) h

-- ---- what tells of it

some_power : (log : Option ℕ) (kind : ℕ) → MatchOption log ⊥ (λ l. 16 ≤ kind) → 1 ≤ credit_of_log log
some_power None kind h = absurd h
some_power (Some l) kind h = omega (arith, pow_pos l)

-- what tells that it landed owes its credit
tells_owe : (o : Id) (p : Parcel) → IsParcel p → tell_of o p ≤ credit_owed o p
tells_owe o (Arrived id place) form = each (same_object o id) refl
  where
    each : (b : Bool) → same_object o id ≡ b → one_if (same_object o id) ≤ credit_in o (id ∷ [])
    each true t = omega (arith, ap one_if t, sum_by-cons (λ (x : Id). cond (same_object o x) (credit x) 0) id [], ap (λ (b : Bool). cond b (credit id) 0) t, some_power id.log id.kind form)
    each false f = omega (arith, ap one_if f)
tells_owe o _ form = omega arith

-- and is worth it on the road
tells_worth : (o : Id) (j : ℕ) (p : Parcel) → IsParcel p → tells_at o j p ≤ sum_by (worth o) (tokens_in (Some p))
tells_worth o j (Arrived id place) form = omega (arith, both_few (same_object o id) (place == j), worth_some id.log form)
  where
    one : (b : Bool) (l : ℕ) → one_if b ≤ cond b (2 ^ l) 0
    one true l = omega (arith, pow_pos l)
    one false l = omega arith

    worth_some : (lg : Option ℕ) → MatchOption lg ⊥ (λ l. 16 ≤ id.kind) → one_if (same_object o id) ≤ sum_by (worth o) (map owing (credit_list id lg ++ []))
    worth_some None h = absurd h
    worth_some (Some l) h = omega (arith, one (same_object o id) l, sum_by-cons (worth o) (record { object = bare id; log = l; owed = true }) [])
tells_worth o j _ form = omega arith

-- ---- nothing of it

-- a weight of messages of which there is nothing at a locality
pub record NoneIn (w : Parcel → ℕ) (t : Tables) : Type 0 where
  pub desk : sum_by w t.desk ≡ 0
  pub outgoing : sum_by (λ (x : Outgoing). w x.parcel) t.outgoing ≡ 0
  pub queued : sum_by (λ (x : Waiting Parcel). w x.item) t.queued ≡ 0
  pub leaving : sum_by w t.leaving ≡ 0
  pub stray : sum_by w t.stray ≡ 0

none_in : (w : Parcel → ℕ) (t : Tables) → sum_by w (messages t) ≡ 0 → NoneIn w t
none_in w t h = let e = messages_sum w t in record {
  desk = omega (arith, h, e);
  outgoing = omega (arith, h, e);
  queued = omega (arith, h, e);
  leaving = omega (arith, h, e);
  stray = omega (arith, h, e);
}

pub less_each : {X : Type 0} (f g : X → ℕ) (xs : List X) → ((x : X) → f x ≤ g x) → sum_by f xs ≤ sum_by g xs
less_each f g [] less = omega arith
less_each f g (x ∷ xs) less = omega (arith, sum_by-cons f x xs, sum_by-cons g x xs, less x, less_each f g xs less)

module _ (r : Rules) (log : ℕ) (es : List Entry) (joined : IsJoined r es) (o : Id) (managed : 16 ≤ o.kind) (gone : credit_sum r o (replayed r es) ≡ 0) where
  pub unnamed : names_in r o (replayed r es) ≡ 0
  unnamed = elim (cases_lt 0 (names_in r o (replayed r es))) [
    | inl some ↦ absurd (omega (arith, gone, names_credited r joined.grammar es joined.join o managed (omega (arith, some))))
    | inr none ↦ omega (arith, none)
  ]

  -- ---- at a locality

  module _ (k : ℕ) (t : Tables) (s : IsShown r log es k t) where
    names_here : names o ((replayed r es).places k) ≡ 0
    names_here = omega (arith, unnamed, total-term r.localities (λ j. names o ((replayed r es).places j)) k s.lt)

    waiting_none : sum_by (act_names o) (waiting t) ≡ 0
    waiting_none = omega (arith, names_here, Agree-sum is_act name_of means own (act_names o) ((replayed r es).places k).waiting (waiting t) s.shows.acts.waiting)

    accepted_none : sum_by (λ act. act_names o (bare_act act)) t.accepted ≡ 0
    accepted_none = omega (arith, waiting_none, sum_by-append (act_names o) (map bare_act t.accepted) (flat_map parcel_acts (messages t)), map_sum (act_names o) bare_act t.accepted)

    messages_none : sum_by (message_names o) (messages t) ≡ 0
    messages_none = omega (arith, waiting_none, sum_by-append (act_names o) (map bare_act t.accepted) (flat_map parcel_acts (messages t)), flat_sum (act_names o) parcel_acts (messages t))

    fired_none : sum_by (act_names o) (map bare_act (fired_acts t)) ≡ 0
    fired_none = omega (arith, names_here, Agree-sum is_act name_of means own (act_names o) ((replayed r es).places k).fired (map bare_act (fired_acts t)) s.shows.acts.fired)

    -- no message grants a move of it, or brings it
    pub none_named : (w : Parcel → ℕ) → ((p : Parcel) → w p ≤ message_names o p) → NoneIn w t
    none_named w few = none_in w t (omega (arith, messages_none, less_each w (message_names o) (messages t) few))

    here_none : held_here t o + owed_here t o ≡ 0
    here_none = omega (arith, gone, s.covered o, total-term r.localities (λ j. sum_by (worth o) ((replayed r es).places j).tokens) k s.lt)

    -- none tells that it landed
    pub none_tell : NoneIn (tell_of o) t
    none_tell = none_in (tell_of o) t (omega (arith, here_none, most_sum IsParcel (tell_of o) (credit_owed o) (messages t) (tells_owe o) s.tidy.messages))

    pub none_held : held_here t o ≡ 0
    none_held = omega (arith, here_none)

    pub none_waits : waits_here t o ≡ false
    none_waits = none_wait o managed t.running t.pending fired_none

    fired_split : sum_by (λ act. act_names o (bare_act act)) t.running + sum_by (λ (w : Waits). act_names o (bare_act w.job.action)) t.pending ≡ 0
    fired_split = omega (
      arith,
      fired_none,
      map_sum (act_names o) bare_act (fired_acts t),
      sum_by-append (λ act. act_names o (bare_act act)) t.running (map action_of t.pending),
      map_sum (λ act. act_names o (bare_act act)) action_of t.pending,
    )

    -- it did not come with a MOVE that is not done
    pub none_came : count_by (λ (a : Arrival). same_object o a.object) t.came ≡ 0
    none_came = none_among (λ (a : Arrival). cond (same_object o a.object) 1 0) t.came (λ a m. elim (cases_Bool (same_object o a.object)) [
      | inr f ↦ ap {B = ℕ} (λ (b : Bool). cond b 1 0) f
      | inl same ↦ absurd (omega (
        arith,
        came_with a m,
        s.arrived a,
        accepted_none,
        fired_split,
        less_each (move_of a) (λ act. act_names o (bare_act act)) t.accepted (moves_few o managed a same),
        less_each (move_of a) (λ act. act_names o (bare_act act)) t.running (moves_few o managed a same),
        less_each (λ (w : Waits). move_of a w.job.action) (λ (w : Waits). act_names o (bare_act w.job.action)) t.pending (λ w. moves_few o managed a same w.job.action),
        moved_sum a,
      ))
    ])
      where
        moved_sum : (a : Arrival) → weigh (moved_by a) (at_rest t) ≡ sum_by (move_of a) t.accepted + sum_by (move_of a) t.running + sum_by (λ (w : Waits). move_of a w.job.action) t.pending
        moved_sum a = omega (arith, zeros t.desk, zeros t.outgoing, zeros t.queued, zeros t.leaving, zeros t.stray, zeros t.came, zeros t.objects)

        own_arrival : (a : Arrival) → a.object.log ≡ None → same_arrival a a ≡ true
        own_arrival a none = rw (eq-eqb a.name.origin a.name.origin refl, eq-eqb a.name.serial a.name.serial refl, same_object-refl a.object, none) refl

        one_at : (f : Arrival → ℕ) (a : Arrival) (xs : List Arrival) → Among a xs → f a ≤ sum_by f xs
        one_at f a [] m = absurd m
        one_at f a (x ∷ xs) (inl e) = omega (arith, ap f e, sum_by-cons f x xs)
        one_at f a (x ∷ xs) (inr m) = omega (arith, one_at f a xs m, sum_by-cons f x xs)

        none_log : (a : Arrival) (xs : List Arrival) → Among a xs → AllByRecursion (λ (b : Arrival). b.object.log ≡ None) xs → a.object.log ≡ None
        none_log a [] m h = absurd m
        none_log a (x ∷ xs) (inl e) h = ap (λ (b : Arrival). b.object.log) (sym e) ∙ h.0
        none_log a (x ∷ xs) (inr m) h = none_log a xs m h.1

        came_with : (a : Arrival) → Among a t.came → 1 ≤ weigh (brought a) (at_rest t)
        came_with a m = omega (
          arith,
          one_at (λ b. one_if (same_arrival a b)) a t.came m,
          ap one_if (own_arrival a (none_log a t.came m s.bare)),
          zeros t.desk,
          zeros t.outgoing,
          zeros t.queued,
          zeros t.leaving,
          zeros t.stray,
          zeros t.accepted,
          zeros t.running,
          zeros t.pending,
          zeros t.objects,
        )

  -- ---- on the road

  bound_few : (w : Parcel → ℕ) (g : Frame → ℕ) (k : ℕ) (f : Frame) → weighed w (r.parcel_of f.1) ≤ g f → bound r k w f ≤ g f
  bound_few w g k f less = each (f.0 == k)
    where
      each : (b : Bool) → cond b (weighed w (r.parcel_of f.1)) 0 ≤ g f
      each true = less
      each false = omega arith

  pub none_on_road : (w : Parcel → ℕ) → ((p : Parcel) → w p ≤ message_names o p) → (k : ℕ) → sum_by (bound r k w) (road_run [] es) ≡ 0
  none_on_road w few k = omega (
    arith,
    unnamed,
    ap (sum_by (frame_names r o)) (run_road r (first r) es),
    less_each (bound r k w) (frame_names r o) (road_run [] es) (λ f. bound_few w (frame_names r o) k f (omega (arith, each (r.parcel_of f.1)))),
  )
    where
      each : (p : Option Parcel) → weighed w p ≤ sum_by (act_names o) (acts_in p)
      each None = omega arith
      each (Some p) = few p

  pub none_tell_on_road : (j k : ℕ) → sum_by (bound r k (tells_at o j)) (road_run [] es) ≡ 0
  none_tell_on_road j k = omega (
    arith,
    gone,
    ap (sum_by (λ (f : Frame). sum_by (worth o) (tokens_in (r.parcel_of f.1)))) (run_road r (first r) es),
    less_each (bound r k (tells_at o j)) (λ (f : Frame). sum_by (worth o) (tokens_in (r.parcel_of f.1))) (road_run [] es)
        (λ f. bound_few (tells_at o j) (λ (g : Frame). sum_by (worth o) (tokens_in (r.parcel_of g.1))) k f (each f.1 (r.parcel_of f.1) refl)),
  )
    where
      each : (bytes : List ℕ) (p : Option Parcel) → r.parcel_of bytes ≡ p → weighed (tells_at o j) p ≤ sum_by (worth o) (tokens_in p)
      each bytes None is = omega arith
      each bytes (Some p) is = tells_worth o j p (joined.grammar.grammar bytes p is)
