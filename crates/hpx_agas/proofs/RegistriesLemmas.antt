-- What stays of a registry when one record is set, and when one queue changes.
use Rattle.std.proofs.Common.{ℕ, true, false, ◌≡◌, ◌≢◌, ◌≤◌, ◌+◌, List, [], Option, Some, None, IsSome, IsSomeAnd, is_some, length, get_or, refl, sym, ap, ◌∙◌, arith, subst, inl, inr}
use Rattle.std.specs.Prelude.{if◌then◌else◌}
use Rattle.std.specs.Option.{option_and_then}
use Rattle.std.proofs.lemmas.Bool.{cases_Bool}
use Rattle.hpx_value.specs.Ids.{Id, same_object, bare_id}
use Rattle.hpx_value.specs.declared.profile.Profile.{Profile}
use Rattle.hpx_agas.specs.declared.record.Record.{Record}
use Rattle.hpx_agas.specs.declared.record.Waiting.{Waiting}
use Rattle.hpx_agas.specs.Records.{find_record, Rises}
use Rattle.hpx_agas.specs.Queues.{items_of}
use Rattle.hpx_agas.specs.Registries.{IsGood}
use Rattle.hpx_agas.proofs.RecordsLemmas.{find_same, find_like, one_number, same_parts, same_tests, same_turn, each_found, rising_bound}

-- ids of one object are not told apart by a third
pub not_same : (a b m : Id) → same_object a m ≡ true → same_object a b ≡ false → same_object b m ≡ false
not_same a b m hit away = elim (cases_Bool (same_object b m)) [
  | inl t ↦ let no : true ≡ false = sym (same_tests a b m t ∙ hit) ∙ away in cc
  | inr f ↦ f
]

module _ (xs ys : List Record) (g : Id) (m : Record) (found : (o : Id) → find_record o ys ≡ (if same_object o m.gid then Some m else find_record o xs))
    (there : IsSomeAnd (find_record g xs) (λ r. m.gid ≡ r.gid)) where
  was : (slot : Option Record) → find_record g xs ≡ slot → IsSomeAnd slot (λ r. m.gid ≡ r.gid) → (r : Record) × (find_record g xs ≡ Some r) × (m.gid ≡ r.gid)
  was None e h = absurd h
  was (Some r) e h = (r, e, h)

  old : (r : Record) × (find_record g xs ≡ Some r) × (m.gid ≡ r.gid)
  old = was (find_record g xs) refl there

  same : same_object g m.gid ≡ true
  same = ap (λ x. same_object g x) old.2 ∙ find_same g xs old.0 old.1

  pub set_found : find_record g ys ≡ Some m
  set_found = found g ∙ ap (λ b. if b then Some m else find_record g xs) same

  pub set_others : (o : Id) → same_object g o ≡ false → find_record o ys ≡ find_record o xs
  set_others o away = found o ∙ ap (λ b. if b then Some m else find_record o xs) (not_same g o m.gid same away)

  set_some : (o : Id) → is_some (find_record o ys) ≡ is_some (find_record o xs)
  set_some o = elim (cases_Bool (same_object o m.gid)) [
    | inl t ↦
        let like : find_record o xs ≡ Some old.0 = find_like o g xs (same_tests o g m.gid same ∙ t) ∙ old.1 in
        let new : find_record o ys ≡ Some m = found o ∙ ap (λ b. if b then Some m else find_record o xs) t in
        ap is_some new ∙ sym (ap is_some like)
    | inr f ↦ ap is_some (found o ∙ ap (λ b. if b then Some m else find_record o xs) f)
  ]

  pub set_queues : {Q : Type 0} (o : Id) (ws : List (Waiting Q))
      → (if is_some (find_record o ys) then items_of o.number ws else []) ≡ (if is_some (find_record o xs) then items_of o.number ws else [])
  set_queues o ws = ap (λ b. if b then items_of o.number ws else []) (set_some o)

  pub set_good : (here births : ℕ) (p : Profile) → ((id : Id) (r : Record) → find_record id xs ≡ Some r → IsGood here p births r) → 1 ≤ m.count → m.count ≤ p.credit_limit
      → (id : Id) (r : Record) → find_record id ys ≡ Some r → IsGood here p births r
  set_good here births p good least most id r e = elim (cases_Bool (same_object id m.gid)) [
    | inl t ↦
        let new : Some m ≡ Some r = sym (found id ∙ ap (λ b. if b then Some m else find_record id xs) t) ∙ e in
        let is : m ≡ r = cc in
        subst (IsGood here p births) is made
    | inr f ↦ good id r (sym (found id ∙ ap (λ b. if b then Some m else find_record id xs) f) ∙ e)
  ]
    where
      before : IsGood here p births old.0
      before = good g old.0 old.1

      made : IsGood here p births m
      made = record {
        id = subst (λ (x : Id). x ≡ bare_id here x.kind x.number) (sym old.2) before.id;
        number = omega (arith, before.number, ap (λ (x : Id). x.number) old.2);
        least = least;
        most = most;
      }

-- a record that is set is of the object for which it is set
pub set_same : (xs : List Record) (g : Id) (m : Record) → IsSomeAnd (find_record g xs) (λ r. m.gid ≡ r.gid) → same_object m.gid g ≡ true
set_same xs g m there = each (find_record g xs) refl there
  where
    each : (slot : Option Record) → find_record g xs ≡ slot → IsSomeAnd slot (λ r. m.gid ≡ r.gid) → same_object m.gid g ≡ true
    each None e h = absurd h
    each (Some r) e h = same_turn g m.gid (ap (λ x. same_object g x) h ∙ find_same g xs r e)

-- there is a record that is set
pub set_there : (xs : List Record) (g : Id) (m : Record) → IsSomeAnd (find_record g xs) (λ r. m.gid ≡ r.gid) → IsSome (find_record m.gid xs)
set_there xs g m there =
    let old = was' (find_record g xs) refl there in
    let same : same_object m.gid g ≡ true = same_turn g m.gid (ap (λ x. same_object g x) old.2 ∙ find_same g xs old.0 old.1) in
    ap is_some (find_like m.gid g xs same ∙ old.1)
  where
    was' : (slot : Option Record) → find_record g xs ≡ slot → IsSomeAnd slot (λ r. m.gid ≡ r.gid) → (r : Record) × (find_record g xs ≡ Some r) × (m.gid ≡ r.gid)
    was' None e h = absurd h
    was' (Some r) e h = (r, e, h)

module _ {Q : Type 0} (xs : List Record) (ws ws' : List (Waiting Q)) (g : Id) (r : Record) (rises : Rises 0 xs) (live : find_record g xs ≡ Some r)
    (others : (n : ℕ) → n ≢ g.number → items_of n ws' ≡ items_of n ws) where
  at_slot : (o : Id) (slot : Option Record) → find_record o xs ≡ slot → same_object g o ≡ false
      → (if is_some slot then items_of o.number ws' else []) ≡ (if is_some slot then items_of o.number ws else [])
  at_slot o None e away = refl
  at_slot o (Some s) e away = others o.number (λ n.
      let a = same_parts g r.gid (find_same g xs r live) in
      let b = same_parts o s.gid (find_same o xs s e) in
      let one : same_object g o ≡ true = one_number g o xs r s rises live e (omega (arith, a.2, b.2, n)) in
      let no : true ≡ false = sym one ∙ away in
      cc)

  -- one queue changes, the others stay
  pub queues_stay : (o : Id) → same_object g o ≡ false
      → (if is_some (find_record o xs) then items_of o.number ws' else []) ≡ (if is_some (find_record o xs) then items_of o.number ws else [])
  queues_stay o away = at_slot o (find_record o xs) refl away

-- what moves has a record
pub moving_live : (slot : Option Record) → IsSome (option_and_then (λ (r : Record). r.moving) slot) → (r : Record) × (slot ≡ Some r)
moving_live None h = let no : false ≡ true = h in cc
moving_live (Some r) h = (r, refl)

pub few_records : (here births : ℕ) (p : Profile) (xs : List Record) → Rises 0 xs → ((id : Id) (r : Record) → find_record id xs ≡ Some r → IsGood here p births r) → length xs ≤ births
few_records here births p xs rises good =
    let bound : 0 + length xs ≤ births = rising_bound 0 births xs rises (omega arith) (λ k d within. (good (get_or xs k d).gid (get_or xs k d) (each_found 0 xs k d rises within)).number) in
    omega arith
