-- The record of one object changes.
use Rattle.hpx_steps.proofs.Common.{HasPlaces, Id, List, Option, Record, Recounts, Some, IsLive, Tables, [], ap, bare, cases_Bool, cond, count_in, counted, false, find, find_record, inl, inr, is_recorded, map, option_map_or, refl, same_object, same_object-sym, same_object-true, sym, true, ◌∙◌, ◌∷◌, ◌≡◌, None, ℕ, subst, Bool, is_away}
use Rattle.hpx_steps.proofs.ByRows.{if_so}

pub found_counted : (x : Id) (rs : List Record) → count_in (find (is_recorded x) (map counted rs)) ≡ option_map_or (λ (r : Record). r.count) (find_record x rs) 0
found_counted x [] = refl
found_counted x (r ∷ rs) = if_so (same_object x r.gid) (λ t. rw t refl) (λ t. rw t (found_counted x rs))

other_way : (a b : Id) → same_object a b ≡ false → same_object b a ≡ false
other_way a b h = if_so (same_object b a) (λ t. absurd (let e : true ≡ false = sym (same_object-sym b a t) ∙ h in cc)) (λ t. t)

-- the record of one object changes, and no other
pub one_recounted : (id : Id) (old : Record) (made : Option Record) (rs rs' : List Record) → Recounts id old made rs rs' → (x : Id) → count_in (find (is_recorded x) (map counted rs'))
    ≡ cond (same_object x (bare id)) (option_map_or (λ (r : Record). r.count) made 0) (count_in (find (is_recorded x) (map counted rs)))
one_recounted id old made rs rs' k x = elim (cases_Bool (same_object x (bare id))) [
  | inl t ↦
      let e : count_in (find (is_recorded x) (map counted rs')) ≡ count_in (find (is_recorded id) (map counted rs')) =
      ap (λ (y : Id). count_in (find (is_recorded y) (map counted rs'))) (same_object-true x (bare id) t) in
      rw t (e ∙ (found_counted id rs' ∙ ap (λ (o : Option Record). option_map_or (λ (r : Record). r.count) o 0) k.own))
  | inr t ↦
      rw t
      (found_counted x rs'
      ∙ (ap (λ (o : Option Record). option_map_or (λ (r : Record). r.count) o 0) (k.others x (other_way x id t)) ∙ sym (found_counted x rs)))
]

-- what was not born has no record still, and each record is live
pub places_still : (t : Tables) (id : Id) (old : Record) (made : Option Record) (rs' : List Record) → Recounts id old made t.records rs'
    → ((x : Record) → made ≡ Some x → IsLive old → IsLive x) → HasPlaces t.here t.births t.objects t.records t.leaving → HasPlaces t.here t.births t.objects rs' t.leaving
places_still t id old made rs' k stays h = record {
  serves = h.serves;
  single = h.single;
  once = h.once;
  unborn = λ o late. if_so (same_object id o)
      (λ same. absurd (let e : find_record id t.records ≡ find_record o t.records = ap (λ (y : Id). find_record y t.records) (same_object-true id o same) in let n = h.unborn o late in let w = k.was in cc))
      (λ other. k.others o other ∙ h.unborn o late);
  places = λ o x is. if_so (same_object id o)
      (λ same. let e : find_record o rs' ≡ find_record id rs' = ap (λ (y : Id). find_record y rs') (sym (same_object-true id o same)) in stays x (sym k.own ∙ (sym e ∙ is)) (h.places id old k.was))
      (λ other. h.places o x (sym (k.others o other) ∙ is));
}

-- whether the record of o says that it moves, or is not at k
abbrev pub away_in : ℕ → Id → List Record → Bool
away_in k o rs = option_map_or (is_away k) (find_record o rs) false

-- what is away then was before, where the record that changes says so only if it did
pub away_still : (here : ℕ) (id : Id) (old : Record) (made : Option Record) (rs rs' : List Record) → Recounts id old made rs rs'
    → ((x : Record) → made ≡ Some x → is_away here x ≡ true → is_away here old ≡ true) → (o : Id) → away_in here o rs' ≡ true → away_in here o rs ≡ true
away_still here id old made rs rs' k stays o m = if_so (same_object id o)
    (λ same.
    let was : find_record o rs ≡ Some old = ap (λ (y : Id). find_record y rs) (sym (same_object-true id o same)) ∙ k.was in
    let is : find_record o rs' ≡ made = ap (λ (y : Id). find_record y rs') (sym (same_object-true id o same)) ∙ k.own in
    subst (λ (x : Option Record). option_map_or (is_away here) x false ≡ true) (sym was) (each made refl (subst (λ (x : Option Record). option_map_or (is_away here) x false ≡ true) is m)))
    (λ off. subst (λ (x : Option Record). option_map_or (is_away here) x false ≡ true) (k.others o off) m)
  where
    each : (x : Option Record) → made ≡ x → option_map_or (is_away here) x false ≡ true → is_away here old ≡ true
    each None e n = cc
    each (Some x) e n = stays x e n

-- each record that is found then says of its object what one said before, where that holds of the one that changes
pub placed_still : (id : Id) (old : Record) (made : Option Record) (rs rs' : List Record) → Recounts id old made rs rs'
    → (P : Id → Record → Type 0) → ((o : Id) (x : Record) → same_object id o ≡ true → made ≡ Some x → P o x) → ((o : Id) (x : Record) → find_record o rs ≡ Some x → P o x)
    → (o : Id) (x : Record) → find_record o rs' ≡ Some x → P o x
placed_still id old made rs rs' k P own others o x is = if_so (same_object id o)
    (λ same. own o x same (sym (ap (λ (y : Id). find_record y rs') (sym (same_object-true id o same)) ∙ k.own) ∙ is))
    (λ off. others o x (sym (k.others o off) ∙ is))

-- what is read of a record that does not change stays
pub reads_still : (id : Id) (old : Record) (made : Option Record) (rs rs' : List Record) → Recounts id old made rs rs' → (F : Option Record → ℕ) → F made ≡ F (Some old)
    → (o : Id) → F (find_record o rs') ≡ F (find_record o rs)
reads_still id old made rs rs' k F same o = if_so (same_object id o)
    (λ t. ap F (ap (λ (y : Id). find_record y rs') (sym (same_object-true id o t)) ∙ k.own) ∙ (same ∙ sym (ap F (ap (λ (y : Id). find_record y rs) (sym (same_object-true id o t)) ∙ k.was))))
    (λ t. ap F (k.others o t))
