-- Once all credit of a commit that waited has come, its stock may be dealt.
use Rattle.std.proofs.Common.{ℕ, true, false, List, [], ◌++◌, ◌≡◌, ◌≤◌, ◌<◌, ◌+◌, Some, take, drop, map, length, length-append, append_assoc, sym, ap, ◌∙◌, arith, inl, inr, subst}
use Rattle.std.specs.List.{AllByRecursion, slice_index_or}
use Rattle.std.proofs.lemmas.Bool.{cases_Bool, cases_lt}
use Rattle.hpx_value.specs.Ids.{Id, bare}
use Rattle.hpx_value.specs.Hands.{id_at, hand_ids}
use Rattle.hpx_value.specs.Laws.{KeepsLaws}
use Rattle.hpx_value.specs.Mentions.{kind_at}
use Rattle.hpx_value.specs.Riders.{mentions_with}
use Rattle.hpx_value.specs.Shapes.{IsState, IsAct}
use Rattle.hpx_commit.specs.Deals.{is_managed, log_of, named, places_named, Lasts, AreWithin, AllLast}
use Rattle.hpx_commit.specs.Stocks.{MayDeal, Stock, ahead, replaced_from, short_places, Lasting, SameNames}
use Rattle.hpx_commit.proofs.Ahead.{ahead_same}
use Rattle.hpx_commit.proofs.Common.{State, Act, Outcome, Make}
use Rattle.hpx_commit.proofs.Deals.{all_last_seen}
use Rattle.hpx_commit.proofs.FullStock.{full, full_own, full_bare, split_places, hand_long, full_size, full_names, full_right, full_few, full_lasts}
use Rattle.hpx_commit.proofs.HandFit.{hand_right, hand_kinds_are}
use Rattle.hpx_commit.proofs.Moved.{at_longer}
use Rattle.hpx_commit.proofs.Places.{kind_of, kind_there, is_least, hand_kinds, managed_same, managed_named, managed_there, fewer_named, plain_named, behind_all}
use Rattle.hpx_commit.proofs.Planned.{made_long, own_within, own_few, own_places}
use Rattle.hpx_commit.proofs.Ridden.{few_with}
use Rattle.hpx_commit.proofs.Rights.{AreRight}
use Rattle.hpx_commit.proofs.Short.{ahead_short}
use Rattle.hpx_commit.proofs.Stripped.{short_once}

-- each of these ids has the credit of a new object
abbrev pub HaveLog : ℕ → List Id → Type 0
HaveLog log ids = AllByRecursion (λ (id : Id). id.log ≡ Some log) ids

module _ (P Q : Id → Type 0) (are : AreRight P Q) (n kind here : ℕ) (s : State) (a : Act) (out : Outcome) (laws : KeepsLaws n kind here s a out)
    (few : n ≤ 64) (state : IsState s) (action : IsAct a) (credit : AllByRecursion P s.ids) (own_credit : AllByRecursion P a.ids)
    (new : List Id) (new_kinds : map kind_of new ≡ map (λ (x : Make). x.kind) out.makes) (born : AllByRecursion P new) where
  abbrev own : List Id
  own = s.ids ++ a.ids

  abbrev ps : List ℕ
  ps = places_named s a new out

  -- no place is named too often
  few_names : (p : ℕ) → named (places_named s a new out) p ≤ 8
  few_names p = elim (cases_lt 0 (named ps p)) [
    | inl some ↦
        let high : 16 ≤ (id_at (hand_ids s a new) p).kind =
        is_least (id_at (hand_ids s a new) p).kind (managed_there (hand_ids s a new) (mentions_with s a out) p some) in
        let at : kind_at s a out p ≡ (id_at (hand_ids s a new) p).kind =
        ap (λ ks. slice_index_or ks p 0) (hand_kinds_are P Q are n kind here s a out laws few new new_kinds credit own_credit born)
        ∙ kind_there (hand_ids s a new) p high in
        omega (arith, few_with s a out laws.conts p 8 (omega arith) (laws.names.each p (omega (arith, high, at))), fewer_named (hand_ids s a new) (mentions_with s a out) p)
    | inr none ↦ omega (arith, none)
  ]

  hand_is : (xs : List Id) → hand_ids s a xs ≡ own ++ xs
  hand_is xs = sym (append_assoc s.ids a.ids xs)

  within : AreWithin (own ++ new) ps
  within = subst (λ xs. AreWithin xs ps) (hand_is new) (own_within n kind here s a out laws new new_kinds)

  right : AllByRecursion P (own ++ new)
  right = subst (AllByRecursion P) (hand_is new) (hand_right P Q are n kind here s a out laws few new new_kinds credit own_credit born)

  -- ---- a commit that waited

  module _ (old hand : List Id) (places : List ℕ) (log : ℕ) (kinds : map kind_of old ≡ map (λ (x : Make). x.kind) out.makes)
      (places_are : places ≡ (ahead (length (s.ids ++ a.ids)) (record { hand = hand_ids s a old; places = places_named s a old out })).places)
      (rest : drop (length (s.ids ++ a.ids)) hand ≡ drop (length (s.ids ++ a.ids)) (ahead (length (s.ids ++ a.ids)) (record { hand = hand_ids s a old; places = places_named s a old out })).hand)
      (front : map bare (take (length (s.ids ++ a.ids)) hand) ≡ map bare (s.ids ++ a.ids)) where
    abbrev first : Stock
    first = ahead (length (s.ids ++ a.ids)) (record { hand = hand_ids s a old; places = places_named s a old out })

    long : length new ≡ length old
    long = omega (arith, made_long n kind here s a out laws new new_kinds, made_long n kind here s a out laws old kinds)

    first_is : first ≡ ahead (length own) (record { hand = own ++ old; places = ps })
    first_is = ap (ahead (length own))
        (ap (λ qs. record { hand = hand_ids s a old; places = qs })
        (managed_same (hand_ids s a old) (hand_ids s a new) (mentions_with s a out) (hand_kinds s a old new (kinds ∙ sym new_kinds)))
        ∙ ap (λ xs. record { hand = xs; places = ps }) (hand_is old))

    rest_is : drop (length own) hand ≡ drop (length own) (ahead (length own) (record { hand = own ++ old; places = ps })).hand
    rest_is = rest ∙ ap (λ (u : Stock). drop (length own) u.hand) first_is

    pub come_long : length (s.ids ++ a.ids) + length new ≤ length hand
    come_long = hand_long own old new ps hand log long within rest_is front

    pub come_short : length hand ≤ 1024
    come_short = omega (
      arith,
      full_size own old new ps hand log long within rest_is front,
      full_few own old new ps hand log long within rest_is front,
      ap (λ (xs : List Id). length xs) (hand_is new),
      own_few n kind here s a out laws new new_kinds state action,
      own_places n kind here s a out laws new new_kinds,
    )

    abbrev split : Stock
    split = ahead (length own) (record { hand = own ++ new; places = ps })

    managed_where : (p : ℕ) → is_managed (id_at (ahead (length own) (record { hand = own ++ new; places = ps })).hand p) ≡ false → named split.places p ≡ 0
    managed_where p un =
        let same = ahead_same (length own) (record { hand = own ++ new; places = ps }) (omega (arith, length-append own new)) within in
        plain_named split.hand (own ++ new) split.places ps same.objects.names
        (subst (λ xs. AllByRecursion (λ q. is_managed (id_at xs q) ≡ true) ps) (hand_is new) (managed_named (hand_ids s a new) (mentions_with s a out))) p un

    -- what did not last is of a managed object
    pub waits_managed : (p : ℕ) → p < length (s.ids ++ a.ids) → (Lasting first p → ⊥) → is_managed (id_at hand p) ≡ true
    waits_managed p lt h = elim (cases_Bool (is_managed (id_at hand p))) [
      | inl t ↦ t
      | inr un ↦
          let same : is_managed (id_at split.hand p) ≡ is_managed (id_at hand p) =
          ap is_managed (sym (ap bare (sym (full_own own old new ps hand log long within rest_is front p lt)) ∙ full_bare own old new ps hand log long within rest_is front p)) in
          let places_were : first.places ≡ split.places =
          ap (λ (u : Stock). u.places) first_is ∙ sym (split_places own old new ps hand log long within rest_is front) in
          absurd (h (omega (arith, ap (λ qs. named qs p) places_were, managed_where p (same ∙ un))))
    ]

    -- where each id that did not last came with the credit of a new object
    module _ (enough : 8 ≤ log) (logs : HaveLog log new)
        (stays : (p : ℕ) → p < length (s.ids ++ a.ids) → Lasting first p → id_at hand p ≡ id_at first.hand p)
        (given : (p : ℕ) → p < length (s.ids ++ a.ids) → (Lasting first p → ⊥) → (id_at hand p).log ≡ Some log) where
      stays_is : (p : ℕ) → p < length own → Lasting (ahead (length own) (record { hand = own ++ old; places = ps })) p
          → id_at hand p ≡ id_at (ahead (length own) (record { hand = own ++ old; places = ps })).hand p
      stays_is p lt h = stays p lt (subst (λ (u : Stock). Lasting u p) (sym first_is) h) ∙ ap (λ (u : Stock). id_at u.hand p) first_is

      given_is : (p : ℕ) → p < length own → (Lasting (ahead (length own) (record { hand = own ++ old; places = ps })) p → ⊥) → (id_at hand p).log ≡ Some log
      given_is p lt h = given p lt (λ i. h (subst (λ (u : Stock). Lasting u p) first_is i))

      few_is : (p : ℕ) → named ps p ≤ log + 1
      few_is p = omega (arith, few_names p, enough)

      made_is : (p : ℕ) → length own ≤ p → p < length (own ++ new) → Lasting (record { hand = own ++ new; places = ps }) p
      made_is p le lt =
          omega (arith, few_is p, ap log_of (behind_all (λ (id : Id). id.log ≡ Some log) own new p logs le lt))

      pub come_stock : MayDeal P (record { hand = hand_ids s a new; places = places_named s a new out })
          (replaced_from (length (s.ids ++ a.ids)) new (record { hand = hand; places = places }))
      come_stock =
          let is : replaced_from (length own) new (record { hand = hand; places = places }) ≡ full own old new ps hand log long within rest_is front =
          ap (λ qs. replaced_from (length own) new (record { hand = hand; places = qs })) (places_are ∙ ap (λ (u : Stock). u.places) first_is) in
          subst (MayDeal P (record { hand = hand_ids s a new; places = ps })) (sym is) (record {
            names = subst (λ u. SameNames u (full own old new ps hand log long within rest_is front)) (sym (ap (λ xs. record { hand = xs; places = ps }) (hand_is new)))
                (full_names own old new ps hand log long within rest_is front stays_is given_is few_is made_is);
            credit = full_right own old new ps hand log long within rest_is front stays_is given_is few_is made_is P Q are right managed_where;
            few = omega (arith, come_short, full_size own old new ps hand log long within rest_is front);
            lasts = full_lasts own old new ps hand log long within rest_is front stays_is given_is few_is made_is;
          })

  -- ---- a commit that has to wait

  -- where none of the ids of its object and its action is short, all last: what is made has enough credit for all who name it
  pub none_short : (log : ℕ) → 8 ≤ log → HaveLog log new → (later : List Id)
      → AreWithin (hand_ids s a later) (places_named s a new out) → length (s.ids ++ a.ids) ≤ length (hand_ids s a later)
      → short_places (length (s.ids ++ a.ids)) (ahead (length (s.ids ++ a.ids)) (record { hand = hand_ids s a later; places = places_named s a new out })) ≡ []
      → AllLast (hand_ids s a new) (places_named s a new out)
  none_short log enough logs later inside fits none = all_last_seen (hand_ids s a new) ps (own_within n kind here s a out laws new new_kinds)
      (λ p lt. elim (cases_lt p (length own)) [
        | inl mine ↦
            let start : Stock = record { hand = hand_ids s a later; places = places_named s a new out } in
            let empty : short_places (length (s.ids ++ a.ids)) (record { hand = hand_ids s a later; places = places_named s a new out }) ≡ [] =
            sym (ahead_short (length own) start fits inside) ∙ none in
            let same : id_at (hand_ids s a new) p ≡ id_at (hand_ids s a later) p =
            ap (λ (xs : List Id). id_at xs p) (hand_is new)
            ∙ (at_longer own new p mine ∙ (sym (at_longer own later p mine) ∙ sym (ap (λ (xs : List Id). id_at xs p) (hand_is later)))) in
            elim (cases_lt (log_of (id_at (hand_ids s a later) p).log + 1) (named ps p)) [
              | inl far ↦
                  absurd (omega (
                    arith,
                    short_once (length own) start p mine (λ lasts. absurd (omega (arith, far, lasts))),
                    ap (λ qs. named qs p) empty,
                  ))
              | inr le ↦ subst (λ x. Lasts x (named ps p)) (sym same) le
            ]
        | inr behind ↦
            let is : log_of (id_at (hand_ids s a new) p).log ≡ log =
            ap (λ (xs : List Id). log_of (id_at xs p).log) (hand_is new)
            ∙ ap log_of (behind_all (λ (id : Id). id.log ≡ Some log) own new p logs behind (omega (arith, lt, ap (λ (xs : List Id). length xs) (hand_is new)))) in
            omega (arith, few_names p, enough, is)
      ])
