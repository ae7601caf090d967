-- What the pool shows of each locality after an action is done, and after an object has landed.
use Rattle.std.proofs.Common.{ℕ, true, false, cond, List, ◌∷◌, ◌≡◌, ◌≢◌, ◌<◌, ◌≤◌, Some, None, refl, sym, ap, ◌∙◌, arith, inl, inr}
use Rattle.std.specs.Prelude.{◌||◌, is_some}
use Rattle.std.specs.List.{list_any, find, AllByRecursion}
use Rattle.std.proofs.lemmas.Bool.{cases_Bool}
use Rattle.hpx_value.specs.Ids.{Id, same_object}
use Rattle.hpx_value.specs.Values.{message_of}
use Rattle.hpx_value.specs.Hands.{state_after}
use Rattle.hpx_journal.specs.Bags.{without}
use Rattle.hpx_value.specs.Riders.{plain}
use Rattle.hpx_value.proofs.Riders.{plain_target}
use Rattle.hpx_journal.specs.Data.{Act, Message, Outcome}
use Rattle.hpx_journal.specs.Entries.{Name, Done, Landed, Standing, Travel, Rules, target_of}
use Rattle.hpx_journal.specs.Local.{Local, after, is_standing, is_travel, is_act, outcome, stood}
use Rattle.hpx_journal.specs.Rows.{AreMade}
use Rattle.hpx_journal.specs.Pool.{Pool, HasTravel, ShowsAt, IsAlike, acted, carried}
use Rattle.hpx_journal.proofs.Bags.{find-passes}
use Rattle.hpx_journal.proofs.Same.{same_object-true}
use Rattle.hpx_journal.proofs.PoolLists.{state_in, all-without, find-all, any-all, all-map, all-both, any-without, same-right, same-sym, same-trans}
use Rattle.hpx_journal.proofs.PoolHere.{is_known, taken_find}
use Rattle.hpx_journal.proofs.PoolActs.{made_known, not_fresh, unknown_apart, others_stay, known_stays, travel_stays, target_there, either_place}

-- objects that are being made at a place: managed, at home there, with numbers that were drawn
abbrev pub IsDrawn : ℕ → ℕ → Id → Type 0
IsDrawn k number o = (16 ≤ o.kind) × (o.home ≡ k) × (o.number ≤ number)

pub same_home : (a b : Id) → same_object a b ≡ true → a.home ≡ b.home
same_home a b h = ap (λ v. v.home) (same_object-true a b h)

pub same_number : (a b : Id) → same_object a b ≡ true → a.number ≡ b.number
same_number a b h = ap (λ v. v.number) (same_object-true a b h)

-- an object of another home, or of a number that was not drawn, is not among them
home_apart : (k number : ℕ) (fresh : List Id) → AllByRecursion (IsDrawn k number) fresh → (t : Id) → t.home ≢ k → list_any (same_object t) fresh ≡ false
home_apart k number fresh drawn t away =
    elim (cases_Bool (list_any (same_object t) fresh)) [
      | inl there ↦ let x = any-all (IsDrawn k number) (same_object t) fresh drawn there in absurd (away (same_home t x.element x.passes ∙ x.fact.1))
      | inr none ↦ none
    ]

late_apart : (k number : ℕ) (fresh : List Id) → AllByRecursion (IsDrawn k number) fresh → (t : Id) → number < t.number → list_any (same_object t) fresh ≡ false
late_apart k number fresh drawn t late =
    elim (cases_Bool (list_any (same_object t) fresh)) [
      | inl there ↦
          let x = any-all (IsDrawn k number) (same_object t) fresh drawn there in
          absurd (omega (arith, late, same_number t x.element x.passes, x.fact.2))
      | inr none ↦ none
    ]

-- other travels than of an object
abbrev pub IsApart : Id → Travel → Type 0
IsApart o y = same_object o y.object ≡ false

module _ (r : Rules) (p : Pool) (alike : IsAlike p) (k : ℕ) (s : Local) (shows : ShowsAt p k s) (here : s.here ≡ k) (a : Name) (act : Act) (x : Standing)
    (fires : find (is_act a) s.fired ≡ Some act) (stands : find (is_standing (target_of act)) s.objects ≡ Some x)
    (out : Outcome) (out_is : outcome r s act x ≡ out) (made : AreMade out.makes s.fresh s.objects) (others : List Message)
    (drawn : AllByRecursion (IsDrawn k s.number) s.fresh) where
  abbrev pub T : Id
  T = target_of (plain act)

  abbrev pub q : Pool
  q = acted p k (message_of (plain act)) x.state s.fresh others out

  there : (p.states T ≡ Some x.state) × (p.places T ≡ k)
  there =
      let old = target_there r p alike k s shows here a act x fires stands in
      (ap p.states (plain_target act) ∙ old.0, ap p.places (plain_target act) ∙ old.1)

  stands_plain : find (is_standing T) s.objects ≡ Some x
  stands_plain = ap (λ (o : Id). find (is_standing o) s.objects) (plain_target act) ∙ stands

  new : Standing
  new = record { object = x.object; state = state_after x.state (plain act) s.fresh out }

  done_objects : (after r s (Done a false)).objects ≡ new ∷ without (is_standing x.object) s.objects
  unfolding after new
  done_objects = rw fires (rw stands (rw out_is refl))

  T_x : same_object T x.object ≡ true
  T_x = find-passes (is_standing T) s.objects x stands_plain

  state_now : (t : Id) → list_any (is_standing t) (new ∷ without (is_standing x.object) s.objects) ≡ true
      → (q.states t ≡ state_in (find (is_standing t) (new ∷ without (is_standing x.object) s.objects))) × (q.places t ≡ k)
  unfolding new
  state_now t any =
      elim (cases_Bool (same_object t T)) [
        | inl same ↦
            let t_x : same_object t x.object ≡ true = same-trans t T x.object same T_x in
            (rw same (rw t_x refl), either_place (list_any (same_object t) s.fresh) k (p.places t) ((alike.alike t T same).1 ∙ there.1))
        | inr other ↦
            let t_x : same_object t x.object ≡ false = sym (same-right T x.object T_x t) ∙ other in
            let old : list_any (is_standing t) s.objects ≡ true =
            any-without (is_standing t) (is_standing x.object) s.objects
            (let g : (same_object t x.object || list_any (is_standing t) (without (is_standing x.object) s.objects)) ≡ list_any (is_standing t) (without (is_standing x.object) s.objects) = rw t_x refl in sym g ∙ any) in
            let found : state_in (find (is_standing t) (new ∷ without (is_standing x.object) s.objects)) ≡ state_in (find (is_standing t) s.objects) =
            rw t_x (ap state_in (taken_find x.object t s.objects t_x)) in
            elim (cases_Bool (list_any (same_object t) s.fresh)) [
              | inl young ↦
                  (rw other (made_known p.states out.makes s.fresh s.objects t made young ∙ sym found), rw young refl)
              | inr grown ↦
                  let before = shows.stands t old grown in
                  let stay = others_stay p alike k (plain act) x.state s.fresh others out there.0 t other grown in
                  (stay.0 ∙ (before.0 ∙ sym found), stay.1 ∙ before.1)
            ]
      ]

  pub done_here : AllByRecursion (IsApart T) s.travels → ShowsAt q k (after r s (Done a false))
  unfolding after
  done_here apart = record {
    stands = λ t any old.
        let now = state_now t (ap (list_any (is_standing t)) (sym done_objects) ∙ any) in
        (now.0 ∙ ap (λ xs. state_in (find (is_standing t) xs)) (sym done_objects), now.1);
    travels = all-both (HasTravel p) (IsApart T) (HasTravel q)
        (λ y has other. travel_stays p alike k (plain act) x.state s.fresh others out there.0 shows.fresh y has other) s.travels shows.travels apart;
    fired = all-without (λ y. is_some (q.states (target_of y)) ≡ true) (is_act a) s.fired
        (all-map (λ y. is_some (p.states (target_of y)) ≡ true) (λ y. is_some (q.states (target_of y)) ≡ true)
        (λ y known. known_stays p alike k (plain act) x.state s.fresh others out there.0 (target_of y) known) s.fired shows.fired);
    fresh = tt;
    unknown = λ t managed home late.
        let none : p.states t ≡ None = shows.unknown t managed home late in
        (others_stay p alike k (plain act) x.state s.fresh others out there.0 t
        (unknown_apart p alike k (plain act) x.state s.fresh others out there.0 t none) (late_apart k s.number s.fresh drawn t late)).0 ∙ none;
  }

  -- at another locality
  pub done_there : (j : ℕ) (z : Local) → k ≢ j → ShowsAt p j z → AllByRecursion (IsDrawn j z.number) z.fresh → AllByRecursion (IsApart T) z.travels
      → ShowsAt q j z
  done_there j z apart old young travels = record {
    stands = λ t any grown.
        let before = old.stands t any grown in
        let known = is_known p j z old t any grown in
        let other : same_object t T ≡ false =
        elim (cases_Bool (same_object t T)) [
          | inl same ↦ absurd (apart (sym there.1 ∙ (sym (alike.alike t T same).1 ∙ before.1)))
          | inr d ↦ d
        ] in
        let stay = others_stay p alike k (plain act) x.state s.fresh others out there.0 t other (not_fresh p alike s.fresh shows.fresh t known) in
        (stay.0 ∙ before.0, stay.1 ∙ before.1);
    travels = all-both (HasTravel p) (IsApart T) (HasTravel q)
        (λ y has other. travel_stays p alike k (plain act) x.state s.fresh others out there.0 shows.fresh y has other) z.travels old.travels travels;
    fired = all-map (λ y. is_some (p.states (target_of y)) ≡ true) (λ y. is_some (q.states (target_of y)) ≡ true)
        (λ y known. known_stays p alike k (plain act) x.state s.fresh others out there.0 (target_of y) known) z.fired old.fired;
    fresh = all-both (λ o. p.states o ≡ None) (IsDrawn j z.number) (λ o. q.states o ≡ None)
        (λ o none d. (others_stay p alike k (plain act) x.state s.fresh others out there.0 o
        (unknown_apart p alike k (plain act) x.state s.fresh others out there.0 o none)
        (home_apart k s.number s.fresh drawn o (λ h. apart (sym h ∙ d.1)))).0 ∙ none) z.fresh old.fresh young;
    unknown = λ t managed home late.
        let none : p.states t ≡ None = old.unknown t managed home late in
        (others_stay p alike k (plain act) x.state s.fresh others out there.0 t
        (unknown_apart p alike k (plain act) x.state s.fresh others out there.0 t none)
        (home_apart k s.number s.fresh drawn t (λ h. apart (sym h ∙ home)))).0 ∙ none;
  }

-- ---- an object that lands

module _ (r : Rules) (p : Pool) (k : ℕ) (m : Id) (o : Id) (same : same_object o m ≡ true) where
  pub landed_here : (s : Local) (x : Travel) → find (is_travel o) s.travels ≡ Some x → ShowsAt p k s → ShowsAt (carried p m k) k (after r s (Landed o))
  unfolding after
  landed_here s x f shows = record {
    stands = λ t any old.
        let objects : (after r s (Landed o)).objects ≡ stood x ∷ s.objects = rw f refl in
        let has : HasTravel p x = find-all (HasTravel p) (is_travel o) s.travels x shows.travels f in
        let now : (p.states t ≡ state_in (find (is_standing t) (stood x ∷ s.objects))) × (cond (same_object t m) k (p.places t) ≡ k) =
        elim (cases_Bool (same_object t x.object)) [
          | inl e ↦
              let t_m : same_object t m ≡ true = same-trans t o m (same-trans t x.object o e (same-sym o x.object (find-passes (is_travel o) s.travels x f))) same in
              (has t e ∙ (rw e refl), rw t_m refl)
          | inr d ↦
              let g : list_any (is_standing t) (stood x ∷ s.objects) ≡ list_any (is_standing t) s.objects = rw d refl in
              let before = shows.stands t (sym g ∙ (ap (list_any (is_standing t)) (sym objects) ∙ any)) old in
              (before.0 ∙ (rw d refl), either_place (same_object t m) k (p.places t) before.1)
        ] in
        (now.0 ∙ ap (λ xs. state_in (find (is_standing t) xs)) (sym objects), now.1);
    travels = all-without (HasTravel p) (is_travel o) s.travels shows.travels;
    fired = shows.fired;
    fresh = shows.fresh;
    unknown = shows.unknown;
  }

  pub landed_there : (j : ℕ) (z : Local) → ShowsAt p j z → ((t : Id) → list_any (is_standing t) z.objects ≡ true → same_object t m ≡ false)
      → ShowsAt (carried p m k) j z
  landed_there j z shows apart = record {
    stands = λ t any old. let before = shows.stands t any old in let d = apart t any in (before.0, (rw d refl) ∙ before.1);
    travels = shows.travels;
    fired = shows.fired;
    fresh = shows.fresh;
    unknown = shows.unknown;
  }
