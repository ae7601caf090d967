-- What the pool shows of a locality where an action is done, and where an object lands.
use Rattle.std.proofs.Common.{ℕ, Bool, true, false, cond, List, [], ◌∷◌, ◌≡◌, Option, Some, None, refl, sym, ap, ◌∙◌, inl, inr}
use Rattle.std.specs.Prelude.{◌||◌, is_some}
use Rattle.std.specs.List.{list_any, find, AllByRecursion}
use Rattle.std.proofs.lemmas.Bool.{cases_Bool}
use Rattle.hpx_value.specs.Ids.{Id, same_object}
use Rattle.hpx_value.specs.Values.{message_of}
use Rattle.hpx_journal.specs.Data.{Act, State, Message, Make, Outcome}
use Rattle.hpx_journal.specs.Entries.{Name, Standing, Travel, Rules, target_of}
use Rattle.hpx_journal.specs.Local.{Local, is_standing, is_act}
use Rattle.hpx_journal.specs.Rows.{AreMade}
use Rattle.hpx_journal.specs.Pool.{Pool, HasTravel, ShowsAt, IsAlike, with_made, acted}
use Rattle.hpx_journal.proofs.Bags.{list_any-find}
use Rattle.hpx_journal.proofs.PoolLists.{state_in, find-all, any-all, same-left, same-sym, same-trans, find-same, any-same_id, true_or}

some_none : (x y : Option State) → x ≡ y → y ≡ None → is_some x ≡ true → ⊥
some_none x y p q h = let e : x ≡ None = p ∙ q in let f : is_some x ≡ false = ap is_some e in cc

pub either_place : (b : Bool) (k j : ℕ) → j ≡ k → cond b k j ≡ k
either_place true k j h = refl
either_place false k j h = h

-- ---- objects that are made

pub made_known : (states : Id → Option State) (makes : List Make) (made : List Id) (objects : List Standing) (t : Id) → AreMade makes made objects
    → list_any (same_object t) made ≡ true → with_made states makes made t ≡ state_in (find (is_standing t) objects)
made_known states [] [] objects t are h = cc
made_known states (make ∷ makes) (m ∷ made) objects t are h =
    elim (cases_Bool (same_object t m)) [
      | inl same ↦ rw same (sym (ap state_in (find-same t m objects same ∙ are.1)))
      | inr other ↦
          let g : (same_object t m || list_any (same_object t) made) ≡ list_any (same_object t) made = rw other refl in
          let rest = made_known states makes made objects t are.2 (sym g ∙ h) in rw other rest
    ]
made_known states [] (m ∷ made) objects t are h = absurd are
made_known states (make ∷ makes) [] objects t are h = absurd are

pub with-none : (states : Id → Option State) (makes : List Make) (made : List Id) (t : Id) → list_any (same_object t) made ≡ false
    → with_made states makes made t ≡ states t
with-none states [] made t h = refl
with-none states (make ∷ makes) [] t h = refl
with-none states (make ∷ makes) (m ∷ made) t h =
    let apart = true_or (same_object t m) (list_any (same_object t) made) h in
    rw (apart.0) (with-none states makes made t apart.1)

with-some : (states : Id → Option State) (makes : List Make) (made : List Id) (t : Id) → is_some (states t) ≡ true
    → is_some (with_made states makes made t) ≡ true
with-some states [] made t h = h
with-some states (make ∷ makes) [] t h = h
with-some states (make ∷ makes) (m ∷ made) t h =
    elim (cases_Bool (same_object t m)) [ inl same ↦ rw same refl | inr other ↦ rw other (with-some states makes made t h) ]

-- what is known is not being made
pub not_fresh : (p : Pool) → IsAlike p → (fresh : List Id) → AllByRecursion (λ o. p.states o ≡ None) fresh → (t : Id) → is_some (p.states t) ≡ true
    → list_any (same_object t) fresh ≡ false
not_fresh p alike fresh none t known =
    elim (cases_Bool (list_any (same_object t) fresh)) [
      | inl there ↦
          let x = any-all (λ o. p.states o ≡ None) (same_object t) fresh none there in
          absurd (some_none (p.states t) (p.states x.element) (alike.alike t x.element x.passes).0 x.fact known)
      | inr away ↦ away
    ]

-- ---- an action that is done

module _ (p : Pool) (alike : IsAlike p) (k : ℕ) (act : Act) (state : State) (made : List Id) (others : List Message) (out : Outcome)
    (there : p.states (target_of act) ≡ Some state) where
  abbrev pub q : Pool
  q = acted p k (message_of act) state made others out

  -- what is not known is another object
  pub unknown_apart : (t : Id) → p.states t ≡ None → same_object t (target_of act) ≡ false
  unknown_apart t none =
      elim (cases_Bool (same_object t (target_of act))) [
        | inl same ↦ absurd (some_none (p.states (target_of act)) (p.states t) (sym (alike.alike t (target_of act) same).0) none (ap is_some there))
        | inr other ↦ other
      ]

  -- the others stay as they are
  pub others_stay : (t : Id) → same_object t (target_of act) ≡ false → list_any (same_object t) made ≡ false
      → (q.states t ≡ p.states t) × (q.places t ≡ p.places t)
  others_stay t other old = (rw other (with-none p.states out.makes made t old), rw old refl)

  pub known_stays : (t : Id) → is_some (p.states t) ≡ true → is_some (q.states t) ≡ true
  known_stays t known =
      elim (cases_Bool (same_object t (target_of act))) [
        | inl same ↦ rw same refl
        | inr other ↦ rw other (with-some p.states out.makes made t known)
      ]

  -- an object that travels, which is another
  pub travel_stays : (none : AllByRecursion (λ o. p.states o ≡ None) made) (y : Travel) → HasTravel p y → same_object (target_of act) y.object ≡ false
      → HasTravel q y
  travel_stays none y has apart t same =
      let known : is_some (p.states t) ≡ true = ap is_some (has t same) in
      let other : same_object t (target_of act) ≡ false =
      elim (cases_Bool (same_object t (target_of act))) [
        | inl e ↦ absurd (let f = same-trans (target_of act) t y.object (same-sym t (target_of act) e) same in cc)
        | inr d ↦ d
      ] in
      (others_stay t other (not_fresh p alike made none t known)).0 ∙ has t same

  -- the pool goes on looking at objects alone
  with-alike : (makes : List Make) (ms : List Id) (a b : Id) → same_object a b ≡ true → with_made p.states makes ms a ≡ with_made p.states makes ms b
  with-alike [] ms a b h = (alike.alike a b h).0
  with-alike (make ∷ makes) [] a b h = (alike.alike a b h).0
  with-alike (make ∷ makes) (m ∷ ms) a b h =
      let rest = with-alike makes ms a b h in
      rw (same-left a b h m, rest) refl

  pub acted_alike : IsAlike q
  acted_alike = record {
    alike = λ a b h.
        let s = with-alike out.makes made a b h in
        let l = (alike.alike a b h).1 in
        (rw (same-left a b h (target_of act), s) refl, rw (any-same_id a b made h, l) refl);
  }

module _ (r : Rules) (p : Pool) (alike : IsAlike p) (k : ℕ) (s : Local) (shows : ShowsAt p k s) (here : s.here ≡ k) (a : Name) (act : Act) (x : Standing)
    (fires : find (is_act a) s.fired ≡ Some act) (stands : find (is_standing (target_of act)) s.objects ≡ Some x) where
  abbrev pub T : Id
  T = target_of act

  pub target_known : is_some (p.states T) ≡ true
  target_known = find-all (λ y. is_some (p.states (target_of y)) ≡ true) (is_act a) s.fired act shows.fired fires

  pub target_old : list_any (same_object T) s.fresh ≡ false
  target_old = not_fresh p alike s.fresh shows.fresh T target_known

  pub target_there : (p.states T ≡ Some x.state) × (p.places T ≡ k)
  target_there =
      let old = shows.stands T (list_any-find (is_standing T) s.objects x stands) target_old in
      (old.0 ∙ ap state_in stands, old.1)
