-- Where locality 0 can fire no action and has nothing of its own to tend to, an action on a root of its own waits there only where the root is busy.
use Rattle.std.proofs.Common.{ℕ, Bool, true, false, cond, List, [], ◌∷◌, ◌++◌, ◌≡◌, ◌<◌, ◌≤◌, Option, Some, None, map, length, refl, sym, ap, ◌∙◌, subst, arith, inl, inr}
use Rattle.std.specs.Prelude.{◌==◌, flat_map, is_some}
use Rattle.std.specs.List.{slice_get, list_any, find, sum_by, AllByRecursion}
use Rattle.std.proofs.lemmas.Bool.{cases_Bool, cases_lt, eq-eqb}
use Rattle.std.proofs.lemmas.List.Sums.{sum_by-cons, sum_by-append}
use Rattle.hpx_value.specs.Ids.{same_object}
use Rattle.hpx_value.specs.Values.{bare_act}
use Rattle.hpx_value.specs.declared.profile.Profile.{Profile}
use Rattle.hpx_parcel.specs.Parcels.{IsParcel, IsMove}
use Rattle.hpx_journal.specs.Data.{Id, Act, Parcel, Apply, Move, Go, Shipped}
use Rattle.hpx_journal.specs.Entries.{Rules, name_of, target_of}
use Rattle.hpx_journal.specs.Laws.{HasGrammar}
use Rattle.hpx_journal.specs.Local.{acts_on, is_act, is_busy, is_standing}
use Rattle.hpx_journal.specs.Whole.{IsCarried, IsLegal, part, replayed}
use Rattle.hpx_journal.proofs.Same.{same_object-refl, same_object-true}
use Rattle.hpx_part.specs.Data.{Entry, Standing, Local}
use Rattle.hpx_part.proofs.Keyed.{Agree-sum, Agree-sym, Agree-idle, counted_any}
use Rattle.hpx_part.proofs.Keys.{means, own}
use Rattle.hpx_agas.specs.declared.record.Waiting.{Waiting}
use Rattle.hpx_tables.specs.Free.{IsFree, NoneIsFree}
use Rattle.hpx_tables.specs.Kept.{stands_here}
use Rattle.hpx_tables.specs.Tables.{Tables, fired_acts, messages, queued_parcels}
use Rattle.hpx_tables.specs.declared.kept.Outgoing.{Outgoing}
use Rattle.hpx_tables.proofs.Alls.{all_parts}
use Rattle.hpx_steps.specs.Calls.{act_in}
use Rattle.hpx_steps.specs.Items.{Among}
use Rattle.hpx_steps.specs.Rest.{grants_of_all, rules_of, waiting}
use Rattle.hpx_steps.specs.Rows.{one_if}
use Rattle.hpx_steps.specs.Sound.{IsGranted, IsStray, IsWaitingFor, leads_on}
use Rattle.hpx_steps.specs.Turn.{parcel_acts}
use Rattle.hpx_steps.proofs.Busy.{busy-bare}
use Rattle.hpx_steps.proofs.Changes.{among_all}
use Rattle.hpx_steps.proofs.Puts.{target-bare}
use Rattle.hpx_steps.proofs.Sums.{flat_sum, map_sum, messages_sum, most_sum}
use Rattle.hpx_node.specs.Handled.{HasNothingToTend}
use Rattle.hpx_world.specs.Quiet.{IsStuck}
use Rattle.hpx_world.specs.Sound.{Meaning, IsSound}
use Rattle.hpx_world.proofs.Known.{IsShown}
use Rattle.hpx_world.proofs.Nearby.{both_all, map_all}
use Rattle.hpx_world.proofs.Numbered.{movable, root_grants}
use Rattle.hpx_world.proofs.Rowed.{none_among, none_sum}
use Rattle.hpx_world.proofs.Sound.{get_some, sound_legal, spells_well}
use Rattle.hpx_world.proofs.Strange.{is_shown, lawful_now}
use Rattle.hpx_world.proofs.Turned.{AreLawful}
use Rattle.hpx_hold.specs.Home.{WaitsBusy}

-- ---- what is busy

busy_parts : (b c : Bool) → cond b false c ≡ true → (b ≡ false) × (c ≡ true)
busy_parts true c h = absurd (cc)
busy_parts false c h = (refl, h)

busy_from : (b c : Bool) → b ≡ false → c ≡ true → cond b false c ≡ true
busy_from true c e h = absurd (cc)
busy_from false c e h = h

-- an action that is not free, where its object stands, finds it busy
busy_when : (fired : List Act) (objects : List Standing) (act : Act) (x : Option Standing) → find (is_standing (target_of act)) objects ≡ x → is_some x ≡ true
    → (IsFree fired objects act → ⊥) → is_busy (target_of act) fired ≡ true
busy_when fired objects act None found h free = absurd (cc)
busy_when fired objects act (Some x) found h free = elim (cases_Bool (is_busy (target_of act) fired)) [
  | inl t ↦ t
  | inr f ↦ absurd (free (record { standing = x; found = found; idle = f }))
]

module _ (r : Rules) (log : ℕ) (es : List Entry) (grammar : HasGrammar r) (legal : IsLegal r es) (t : Tables) (s : IsShown r log es 0 t)
    (o : Id) (small : o.kind < 16) (home : o.home ≡ 0) where
  -- ---- no move of a root is granted, so no message brings an action on it

  none_granted : (x : Id) → same_object o x ≡ true → grants_of_all t (part 0 es) x ≡ 0
  none_granted x same = root_grants r log es grammar legal 0 t s x (omega (arith, small, ap (λ (y : Id). y.kind) (same_object-true o x same)))

  -- how many actions on it there are in a message
  abbrev on : Parcel → ℕ
  on p = sum_by (λ (act : Act). one_if (acts_on o act)) (parcel_acts p)

  one_on : (act : Act) → sum_by (λ (a : Act). one_if (acts_on o a)) (bare_act act ∷ []) ≡ one_if (same_object o (target_of act))
  one_on act = omega (
    arith,
    sum_by-cons (λ (a : Act). one_if (acts_on o a)) (bare_act act) [],
    ap (λ (x : Id). one_if (same_object o x)) (target-bare act),
  )

  move_off : (act : Act) → IsMove act → one_if (same_object o (target_of act)) ≡ 0
  move_off act h = elim (cases_Bool (same_object o (target_of act))) [
    | inl t ↦ absurd (omega (arith, small, ap (λ (x : Id). x.kind) (same_object-true o (target_of act) t), movable act h.target))
    | inr f ↦ ap one_if f
  ]

  granted_off : (act : Act) → 1 ≤ grants_of_all t (part 0 es) (target_of act) → one_if (same_object o (target_of act)) ≡ 0
  granted_off act some = elim (cases_Bool (same_object o (target_of act))) [
    | inl t ↦ absurd (omega (arith, some, none_granted (target_of act) t))
    | inr f ↦ ap one_if f
  ]

  -- ---- by where the message is

  goes_most : (p : Parcel) → IsParcel p → on p ≤ leads_on t.here o p
  goes_most (Apply act) h = rw (eq-eqb o.home t.here (home ∙ sym s.here)) (omega (arith, one_on act))
  goes_most (Move act) h = omega (arith, one_on act, move_off act h)
  goes_most (Go act) h = omega (arith, one_on act, move_off act h)
  goes_most (Shipped act state) h = omega (arith, one_on act, move_off act h.0)
  goes_most _ h = omega arith

  waits_off : (k n : ℕ) (p : Parcel) → IsWaitingFor k n p → 1 ≤ grants_of_all t (part 0 es) (target_of (act_in p)) → on p ≡ 0
  waits_off k n (Apply act) h some = one_on act ∙ granted_off act some
  waits_off k n (Move act) h some = one_on act ∙ granted_off act some
  waits_off k n _ h some = absurd h

  leaves_off : (p : Parcel) → IsGranted t.here t.objects p → IsParcel p → on p ≡ 0
  leaves_off (Go act) h form = one_on act ∙ move_off act form
  leaves_off _ h form = absurd h

  strays_off : (p : Parcel) → Among p t.stray → IsStray p → IsParcel p → on p ≡ 0
  strays_off (Apply act) m h form = one_on act ∙ granted_off act (s.begun.stray act m)
  strays_off (Move act) m h form = one_on act ∙ move_off act form
  strays_off (Shipped act state) m h form = one_on act ∙ move_off act form.0
  strays_off _ m h form = absurd h

  record AreParcels : Type 0 where
    outgoing : AllByRecursion (λ (x : Outgoing). IsParcel x.parcel) t.outgoing
    leaving : AllByRecursion IsParcel t.leaving
    stray : AllByRecursion IsParcel t.stray

  parcels : AreParcels
  parcels =
      let carried = map (λ (x : Outgoing). x.parcel) t.outgoing in
      let a = all_parts IsParcel t.desk (carried ++ (queued_parcels t.queued ++ (t.leaving ++ t.stray))) s.tidy.messages in
      let b = all_parts IsParcel carried (queued_parcels t.queued ++ (t.leaving ++ t.stray)) a.1 in
      let c = all_parts IsParcel (queued_parcels t.queued) (t.leaving ++ t.stray) b.1 in
      let d = all_parts IsParcel t.leaving t.stray c.1 in
      record { outgoing = map_all (λ (x : Outgoing). x.parcel) IsParcel t.outgoing b.0; leaving = d.0; stray = d.1 }

  out_off : sum_by (λ (x : Outgoing). on x.parcel) t.outgoing ≡ 0
  out_off =
      let leads : ℕ = sum_by (λ (x : Outgoing). leads_on t.here o x.parcel) t.outgoing in
      let most = most_sum (λ (x : Outgoing). IsParcel x.parcel) (λ (x : Outgoing). on x.parcel) (λ (x : Outgoing). leads_on t.here o x.parcel) t.outgoing
      (λ x h. goes_most x.parcel h) parcels.outgoing in
      elim (cases_lt 0 leads) [
        | inl some ↦ absurd (omega (arith, s.begun.onward o (omega (arith, some)), none_granted o (same_object-refl o)))
        | inr none ↦ omega (arith, most, none)
      ]

  messages_off : t.desk ≡ [] → sum_by on (messages t) ≡ 0
  messages_off desk = omega (
    arith,
    messages_sum on t,
    ap (sum_by on) desk,
    out_off,
    none_sum (λ (w : Waiting Parcel). IsWaitingFor t.here w.number w.item × (1 ≤ grants_of_all t (part 0 es) (target_of (act_in w.item))))
        (λ (w : Waiting Parcel). on w.item) t.queued (λ w h. waits_off t.here w.number w.item h.0 h.1)
        (both_all (λ (w : Waiting Parcel). IsWaitingFor t.here w.number w.item) (λ (w : Waiting Parcel). 1 ≤ grants_of_all t (part 0 es) (target_of (act_in w.item))) t.queued
        s.tidy.queued s.begun.queued),
    none_sum (λ (p : Parcel). IsGranted t.here t.objects p × IsParcel p) on t.leaving (λ p h. leaves_off p h.0 h.1)
        (both_all (IsGranted t.here t.objects) IsParcel t.leaving s.tidy.leaving parcels.leaving),
    none_among on t.stray (λ p m. strays_off p m (among_all IsStray p t.stray m s.tidy.stray) (among_all IsParcel p t.stray m parcels.stray)),
  )

  -- ---- so it is accepted, and not free

  busy_for : (acts : List Act) → AllByRecursion (λ act. stands_here t (target_of act) ≡ true) acts → NoneIsFree (fired_acts t) t.objects acts
      → 1 ≤ sum_by (λ (act : Act). one_if (acts_on o (bare_act act))) acts → is_busy o (fired_acts t) ≡ true
  busy_for [] stand stuck some = absurd (omega (arith, some))
  busy_for (act ∷ acts) stand stuck some = elim (cases_Bool (same_object o (target_of act))) [
    | inl same ↦
        let busy = busy_when (fired_acts t) t.objects act (find (is_standing (target_of act)) t.objects) refl stand.0 stuck.0 in
        let alike : is_busy o (fired_acts t) ≡ is_busy (target_of act) (fired_acts t) = ap (λ (x : Id). is_busy x (fired_acts t)) (same_object-true o (target_of act) same) in
        alike ∙ busy
    | inr other ↦ busy_for acts stand.1 stuck.1 (omega (
      arith,
      some,
      sum_by-cons (λ (a : Act). one_if (acts_on o (bare_act a))) act acts,
      ap (λ (x : Id). one_if (same_object o x)) (target-bare act),
      ap one_if other,
    ))
  ]

  abbrev here : Local
  here = (replayed r es).places 0

  one_waits : t.desk ≡ [] → list_any (acts_on o) here.waiting ≡ true → 1 ≤ sum_by (λ (act : Act). one_if (acts_on o (bare_act act))) t.accepted
  one_waits desk any =
      let f : Act → ℕ = λ act. one_if (acts_on o act) in
      omega (
        arith,
        counted_any (acts_on o) here.waiting any,
        Agree-sum is_act name_of means own f here.waiting (waiting t) s.shows.acts.waiting,
        sum_by-append f (map bare_act t.accepted) (flat_map parcel_acts (messages t)),
        map_sum f bare_act t.accepted,
        flat_sum f parcel_acts (messages t),
        messages_off desk,
      )

  pub root_busy : IsStuck t → t.desk ≡ [] → list_any (acts_on o) here.waiting ≡ true → is_busy o here.fired ≡ true
  root_busy stuck desk any =
      let busy : is_busy o (map bare_act (fired_acts t)) ≡ true = busy-bare o (fired_acts t) ∙ busy_for t.accepted s.tidy.targets stuck (one_waits desk any) in
      let two = busy_parts (o.kind == 7) (list_any (acts_on o) (map bare_act (fired_acts t))) busy in
      busy_from (o.kind == 7) (list_any (acts_on o) here.fired) two.0 (elim (cases_Bool (list_any (acts_on o) here.fired)) [
        | inl t ↦ t
        | inr f ↦
            let no = Agree-idle is_act name_of means own (acts_on o) (map bare_act (fired_acts t)) here.fired
            (Agree-sym is_act name_of means own here.fired (map bare_act (fired_acts t)) s.shows.acts.fired) f in
            absurd (cc)
      ])

-- by what is known of all localities
pub waits_busy : (act_of : Meaning) (profile : Profile) (nodes : List Tables) (es : List Entry) → IsSound act_of profile nodes es → AreLawful act_of
    → ((t : Tables) → slice_get nodes 0 ≡ Some t → IsStuck t) → ((t : Tables) → slice_get nodes 0 ≡ Some t → HasNothingToTend t)
    → (n : ℕ) (p : Profile) → length nodes ≡ n → profile ≡ p → IsCarried (rules_of act_of n p) [] es → WaitsBusy (replayed (rules_of act_of n p) es)
waits_busy act_of profile nodes es sound laws stuck tends n p count same =
    subst (λ q. IsCarried (rules_of act_of n q) [] es → WaitsBusy (replayed (rules_of act_of n q) es)) same
    (subst (λ m. IsCarried (rules_of act_of m profile) [] es → WaitsBusy (replayed (rules_of act_of m profile) es)) count now)
  where
    now : IsCarried (rules_of act_of (length nodes) profile) [] es → WaitsBusy (replayed (rules_of act_of (length nodes) profile) es)
    now carried = λ o small home any.
        let x = get_some nodes 0 sound.some in
        root_busy (rules_of act_of (length nodes) profile) profile.credit_log es (spells_well act_of (length nodes) profile) (sound_legal act_of profile nodes es sound carried) x.0
        (is_shown act_of profile nodes es sound (lawful_now act_of profile nodes es sound laws) carried 0 x.0 x.1) o small home (stuck x.0 x.1) (tends x.0 x.1).1 any
