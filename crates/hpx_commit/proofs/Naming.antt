-- The managed ids of what an outcome leaves are those at the places that it names.
use Rattle.std.proofs.Common.{ℕ, zero, suc, Bool, true, false, nat_le, List, [], ◌∷◌, ◌++◌, ◌≡◌, ◌+◌, ◌-◌, ◌<◌, ◌≤◌, Option, Some, None, length, map, append_assoc, append-nil, refl, sym, ap, ◌∙◌, arith, inl, inr}
use Rattle.std.specs.Prelude.{flat_map, ◌&&◌, ◌==◌, not, is_some}
use Rattle.std.specs.List.{filter, slice_index_or, AllByRecursion}
use Rattle.std.proofs.lemmas.Bool.{cases_Bool, cases_lt}
use Rattle.std.proofs.lemmas.Bool.Decides.{nat_tests}
use Rattle.std.proofs.lemmas.List.{map-append, length-map}
use Rattle.std.proofs.Common.{length-append}
use Rattle.hpx_value.specs.Ids.{Id, bare}
use Rattle.hpx_value.specs.Values.{refs_in}
use Rattle.hpx_value.specs.Shapes.{IsState, IsAct, IsCount, places_of, listed}
use Rattle.hpx_value.specs.Hands.{Slot, session, id_at, slot_at, own_slot, hand_ids, hand_slots, hand_slot, slot_ids, send_slot, sent, slots_kept, target_id}
use Rattle.hpx_value.specs.Mentions.{cont_place, target_places, handed_places, state_mentions, send_mentions, reply_mentions, mentions, hand_size}
use Rattle.hpx_value.specs.Laws.{IsTarget, IsRoot, owns, handed_on, answered, uses}
use Rattle.hpx_value.specs.declared.value.State.{State}
use Rattle.hpx_value.specs.declared.value.Act.{Act}
use Rattle.hpx_value.specs.declared.value.Cont.{Cont}
use Rattle.hpx_value.specs.declared.outcome.Outcome.{Outcome}
use Rattle.hpx_value.specs.declared.outcome.Sending.{Sending}
use Rattle.hpx_value.specs.declared.outcome.Reply.{Reply}
use Rattle.hpx_value.specs.declared.outcome.SendCont.{SendCont}
use Rattle.hpx_value.specs.declared.outcome.SendCont.TheVariants.{Nothing as NoCont, Own, Made, Here}
use Rattle.hpx_value.specs.declared.outcome.Target.{Target}
use Rattle.hpx_value.specs.declared.outcome.Target.TheVariants.{Place, Root}
use Rattle.hpx_value.specs.declared.outcome.Due.TheVariants.{Message as MessageDue, Print as PrintDue}
use Rattle.hpx_value.specs.declared.value.Value.{Value}
use Rattle.hpx_value.specs.declared.value.Value.TheVariants.{Unit as Nothing, Flag, Int, Text, Ref, Fault, Ints}
use Rattle.hpx_value.specs.Riders.{names_target, may_ride, rides_with, rides, riders, rider_places, rode_with, rode, rode_mentions, mentions_with, due_with}
use Rattle.hpx_commit.specs.Deals.{is_managed, managed_places, places_named, ids_due, ids_named, AreWithin}

-- ---- places of appended lists

at_left : (xs ys : List Id) (i : ℕ) → i < length xs → id_at (xs ++ ys) i ≡ id_at xs i
at_left [] ys i h = absurd (omega arith)
at_left (x ∷ xs) ys zero h = refl
at_left (x ∷ xs) ys (suc i) h = at_left xs ys i (omega arith)

at_right : (xs ys : List Id) (i n : ℕ) → n ≡ length xs + i → id_at (xs ++ ys) n ≡ id_at ys i
at_right [] ys i n e = ap (id_at ys) (e ∙ omega arith)
at_right (x ∷ xs) ys i zero e = absurd (omega arith)
at_right (x ∷ xs) ys i (suc n) e = at_right xs ys i n (omega arith)

pub all_parts : {X : Type 0} (P : X → Type 0) (xs ys : List X) → AllByRecursion P (xs ++ ys) → AllByRecursion P xs × AllByRecursion P ys
all_parts P [] ys h = (tt, h)
all_parts P (x ∷ xs) ys h = let i = all_parts P xs ys h.1 in ((h.0, i.0), i.1)

flat_append : {X Y : Type 0} (f : X → List Y) (xs ys : List X) → flat_map f (xs ++ ys) ≡ flat_map f xs ++ flat_map f ys
flat_append f [] ys = refl
flat_append f (x ∷ xs) ys = ap (λ zs. f x ++ zs) (flat_append f xs ys) ∙ sym (append_assoc (f x) (flat_map f xs) (flat_map f ys))

-- ---- managed ids

pub unmanaged : (kind : ℕ) → kind < 16 → nat_le 16 kind ≡ false
unmanaged kind h = grind (arith, nat_tests)

abbrev pub managed : List Id → List Id
managed ids = filter is_managed ids

pub filter_append : {X : Type 0} (p : X → Bool) (xs ys : List X) → filter p (xs ++ ys) ≡ filter p xs ++ filter p ys
filter_append p [] ys = refl
filter_append p (x ∷ xs) ys = elim (cases_Bool (p x)) [
  | inl t ↦ rw t (ap (λ zs. x ∷ zs) (filter_append p xs ys))
  | inr t ↦ rw t (filter_append p xs ys)
]

module _ (hand : List Id) where
  abbrev pub called : List ℕ → List Id
  called ps = map (λ p. bare (id_at hand p)) ps

  -- the managed ones among these ids are those at these places
  abbrev pub Matches : List Id → List ℕ → Type 0
  Matches ids ps = managed (map bare ids) ≡ managed (called ps)

  matches_append : (xs ys : List Id) (ps qs : List ℕ) → Matches xs ps → Matches ys qs → Matches (xs ++ ys) (ps ++ qs)
  matches_append xs ys ps qs h i =
      ap managed (map-append bare xs ys) ∙ (filter_append is_managed (map bare xs) (map bare ys)
      ∙ (ap (λ zs. zs ++ managed (map bare ys)) h ∙ (ap (λ zs. managed (called ps) ++ zs) i
      ∙ (sym (filter_append is_managed (called ps) (called qs)) ∙ ap managed (sym (map-append (λ p. bare (id_at hand p)) ps qs))))))

  matches_at : (ps : List ℕ) → Matches (map (id_at hand) ps) ps
  matches_at ps = ap managed (fuse ps)
    where
      fuse : (ps : List ℕ) → map bare (map (id_at hand) ps) ≡ called ps
      fuse [] = refl
      fuse (p ∷ ps) = ap (λ zs. bare (id_at hand p) ∷ zs) (fuse ps)

  matches_one : (id : Id) (p : ℕ) → id ≡ id_at hand p → Matches (id ∷ []) (p ∷ [])
  matches_one id p e = ap (λ x. managed (bare x ∷ [])) e

  matches_none : (id : Id) → is_managed id ≡ false → Matches (id ∷ []) []
  matches_none id h = rw h refl

  managed_called : (ps : List ℕ) → called (managed_places hand ps) ≡ managed (called ps)
  managed_called [] = refl
  managed_called (p ∷ ps) = elim (cases_Bool (is_managed (id_at hand p))) [
    | inl t ↦ rw t (ap (λ zs. bare (id_at hand p) ∷ zs) (managed_called ps))
    | inr t ↦ rw t (managed_called ps)
  ]

-- ---- where continuations lead

counted_within : (n : ℕ) (ps : List ℕ) (i d : ℕ) → IsCount n ps → i < length ps → slice_index_or ps i d ≡ n + i
counted_within n [] i d h lt = absurd (omega arith)
counted_within n (p ∷ ps) zero d h lt = omega (arith, h.0)
counted_within n (p ∷ ps) (suc i) d h lt = omega (arith, counted_within (n + 1) ps i d h.1 (omega arith))

length-places : (cs : List Cont) → length (places_of cs) ≡ length cs
length-places [] = refl
length-places (c ∷ cs) = ap suc (length-places cs)

index_left : {X : Type 0} (xs ys : List X) (i : ℕ) (d : X) → i < length xs → slice_index_or (xs ++ ys) i d ≡ slice_index_or xs i d
index_left [] ys i d h = absurd (omega arith)
index_left (x ∷ xs) ys zero d h = refl
index_left (x ∷ xs) ys (suc i) d h = index_left xs ys i d (omega arith)

index_right : {X : Type 0} (xs ys : List X) (i n : ℕ) (d : X) → n ≡ length xs + i → slice_index_or (xs ++ ys) n d ≡ slice_index_or ys i d
index_right [] ys i n d e = ap (λ k. slice_index_or ys k d) (e ∙ omega arith)
index_right (x ∷ xs) ys i zero d e = absurd (omega arith)
index_right (x ∷ xs) ys i (suc n) d e = index_right xs ys i n d (omega arith)

slot_index : (ids : List Id) (cs : List Cont) (i : ℕ) (d : Slot) → i < length cs
    → (slice_index_or (map (slot_at ids) cs) i d).object ≡ id_at ids (slice_index_or (places_of cs) i 0)
slot_index ids [] i d h = absurd (omega arith)
slot_index ids (c ∷ cs) zero d h = refl
slot_index ids (c ∷ cs) (suc i) d h = slot_index ids cs i d (omega arith)

refs_more : (v : Value) (b : Bool) (place : ℕ) → refs_in (v ∷ riders b place) ≡ refs_in (v ∷ []) ++ rider_places b place
refs_more Nothing true place = refl
refs_more (Flag f) true place = refl
refs_more (Int n) true place = refl
refs_more (Text t) true place = refl
refs_more (Ref q) true place = refl
refs_more (Fault f) true place = refl
refs_more (Ints ns) true place = refl
refs_more Nothing false place = refl
refs_more (Flag f) false place = refl
refs_more (Int n) false place = refl
refs_more (Text t) false place = refl
refs_more (Ref q) false place = refl
refs_more (Fault f) false place = refl
refs_more (Ints ns) false place = refl

module _ (s : State) (a : Act) (made : List Id) (state : IsState s) (action : IsAct a) where
  abbrev pub hand : List Id
  hand = hand_ids s a made

  abbrev pub nowhere : Slot
  nowhere = record { object = session; number = 0 }

  -- a continuation that the state keeps
  kept_leads : (n : ℕ) → n < length s.conts → (hand_slot s a n).object ≡ id_at hand (cont_place s a n)
  kept_leads n h =
      let len : length (map (slot_at s.ids) s.conts) ≡ length s.conts = length-map s.conts (slot_at s.ids) in
      let lenp : length (places_of s.conts) ≡ length s.conts = length-places s.conts in
      let place : slice_index_or (places_of s.conts) n 0 ≡ length (refs_in s.values) + n =
      counted_within (length (refs_in s.values)) (places_of s.conts) n 0 state.conts (omega (arith, lenp, h)) in
      let near : slice_index_or (places_of s.conts) n 0 < length s.ids = omega (arith, place, state.ids, h) in
      let placed : cont_place s a n ≡ slice_index_or (places_of s.conts) n 0 =
      index_left (places_of s.conts) (map (λ p. length s.ids + p) (places_of (listed a.cont))) n 0 (omega (arith, lenp, h)) in
      ap (λ (x : Slot). x.object) (index_left (map (slot_at s.ids) s.conts) (own_slot a.ids a.cont) n nowhere (omega (arith, len, h)))
      ∙ (slot_index s.ids s.conts n nowhere h
      ∙ (sym (at_left s.ids (a.ids ++ made) (slice_index_or (places_of s.conts) n 0) near)
      ∙ ap (id_at hand) (sym placed)))

  abbrev pub IsOurs : ℕ → Type 0
  IsOurs number = number < length (hand_slots s a)

  own_leads_to : (c : Option Cont) (i : ℕ) → i < length (listed c) → IsCount (length (refs_in a.args) + 1) (places_of (listed c))
      → length a.ids ≡ 1 + length (refs_in a.args) + length (listed c)
      → (slice_index_or (own_slot a.ids c) i nowhere).object
      ≡ id_at hand (slice_index_or (map (λ p. length s.ids + p) (places_of (listed c))) i 0)
  own_leads_to None i h count len = absurd (omega arith)
  own_leads_to (Some c) zero h count len =
      sym (at_left a.ids made c.place (omega (arith, count.0, len)))
      ∙ sym (at_right s.ids (a.ids ++ made) c.place (length s.ids + c.place) refl)
  own_leads_to (Some c) (suc i) h count len = absurd (omega arith)

  slots_length : length (hand_slots s a) ≡ length s.conts + length (own_slot a.ids a.cont)
  slots_length = omega (arith, length-append (map (slot_at s.ids) s.conts) (own_slot a.ids a.cont), length-map s.conts (slot_at s.ids))

  own_length : (c : Option Cont) → length (own_slot a.ids c) ≡ length (listed c)
  own_length None = refl
  own_length (Some c) = refl

  -- a continuation of the hand leads to the object at its place
  pub cont_leads : (n : ℕ) → n < length (hand_slots s a) → (hand_slot s a n).object ≡ id_at hand (cont_place s a n)
  cont_leads n h = elim (cases_lt n (length s.conts)) [
    | inl kept ↦ kept_leads n kept
    | inr own ↦
        let i = n - length s.conts in
        let e : n ≡ length s.conts + (n - length s.conts) = omega (arith, own) in
        let len : length (map (slot_at s.ids) s.conts) ≡ length s.conts = length-map s.conts (slot_at s.ids) in
        let lenp : length (places_of s.conts) ≡ length s.conts = length-places s.conts in
        let here : n - length s.conts < length (listed a.cont) = omega (arith, h, own, slots_length, own_length a.cont) in
        let e1 : n ≡ length (map (slot_at s.ids) s.conts) + (n - length s.conts) = omega (arith, e, len) in
        let e2 : n ≡ length (places_of s.conts) + (n - length s.conts) = omega (arith, e, lenp) in
        ap (λ (x : Slot). x.object) (index_right (map (slot_at s.ids) s.conts) (own_slot a.ids a.cont) i n nowhere e1)
        ∙ (own_leads_to a.cont i here action.cont action.ids
        ∙ ap (id_at hand) (sym (index_right (places_of s.conts) (map (λ p. length s.ids + p) (places_of (listed a.cont))) i n 0 e2)))
  ]

  conts_match : (ns : List ℕ) → AllByRecursion (λ n. n < length (hand_slots s a)) ns
      → Matches hand (map (λ (x : Slot). x.object) (map (hand_slot s a) ns)) (map (cont_place s a) ns)
  conts_match [] h = refl
  conts_match (n ∷ ns) h =
      matches_append hand ((hand_slot s a n).object ∷ []) (map (λ (x : Slot). x.object) (map (hand_slot s a) ns)) (cont_place s a n ∷ []) (map (cont_place s a) ns)
      (matches_one hand (hand_slot s a n).object (cont_place s a n) (cont_leads n h.0)) (conts_match ns h.1)

  -- a root is not managed
  root_small : (n kind at : ℕ) → IsRoot n kind at → is_managed (target_id hand (Root kind at)) ≡ false
  root_small n kind at h = unmanaged kind (small h)
    where
      small : IsRoot n kind at → kind < 16
      small (inl (inl k, z)) = omega arith
      small (inl (inr (inl k), z)) = omega arith
      small (inl (inr (inr k), z)) = omega arith
      small (inr (inl k, z)) = omega arith
      small (inr (inr (inl k), z)) = omega arith
      small (inr (inr (inr k), z)) = omega arith

  target_matches : (n : ℕ) (t : Target) → IsTarget n t → Matches hand (target_id hand t ∷ []) (target_places t)
  target_matches n (Place p) h = refl
  target_matches n (Root kind at) h = matches_none hand (target_id hand (Root kind at)) (root_small n kind at h)

  -- the continuation that a send hands on is one of the hand's
  abbrev pub HandsOn : SendCont → Type 0
  HandsOn NoCont = Unit {0}
  HandsOn (Own number) = number < length (hand_slots s a)
  HandsOn (Made make slot) = Unit {0}
  HandsOn (Here slot) = Unit {0}

  cont_matches : (c : SendCont) → HandsOn c → Matches hand (slot_ids (send_slot s a made c)) (handed_places s a c)
  cont_matches NoCont h = refl
  cont_matches (Own number) h = matches_one hand (hand_slot s a number).object (cont_place s a number) (cont_leads number h)
  cont_matches (Made make slot) h = refl
  cont_matches (Here slot) h = refl

  sent_matches : (n : ℕ) (x : Sending) → IsTarget n x.target → HandsOn x.cont → Matches hand (sent s a made x).ids (send_mentions s a x)
  sent_matches n x target cont =
      matches_append hand (target_id hand x.target ∷ []) (map (id_at hand) (refs_in x.args) ++ slot_ids (send_slot s a made x.cont))
      (target_places x.target) (refs_in x.args ++ handed_places s a x.cont)
      (target_matches n x.target target)
      (matches_append hand (map (id_at hand) (refs_in x.args)) (slot_ids (send_slot s a made x.cont)) (refs_in x.args) (handed_places s a x.cont)
      (matches_at hand (refs_in x.args)) (cont_matches x.cont cont))

  rider_refs : (v : Value) (b : Bool) (place : ℕ) → refs_in (v ∷ riders b place) ≡ refs_in (v ∷ []) ++ rider_places b place
  rider_refs v b place = refs_more v b place

  rode_matches_at : (x : Reply) (b : Bool) → x.cont < length (hand_slots s a)
      → Matches hand (rode_with s a made b x).ids (reply_mentions s a x ++ rider_places b (length s.ids))
  rode_matches_at x b h =
      matches_append hand ((hand_slot s a x.cont).object ∷ []) (map (id_at hand) (refs_in (x.value ∷ riders b (length s.ids))) ++ [])
      (cont_place s a x.cont ∷ []) (refs_in (x.value ∷ []) ++ rider_places b (length s.ids))
      (matches_one hand (hand_slot s a x.cont).object (cont_place s a x.cont) (cont_leads x.cont h))
      (ap (λ zs. managed (map bare zs)) (append-nil (map (id_at hand) (refs_in (x.value ∷ riders b (length s.ids)))))
      ∙ (ap (λ ps. managed (map bare (map (id_at hand) ps))) (rider_refs x.value b (length s.ids))
      ∙ matches_at hand (refs_in (x.value ∷ []) ++ rider_places b (length s.ids))))

  sends_match : (n : ℕ) (xs : List Sending) → AllByRecursion (λ x. IsTarget n x.target) xs
      → AllByRecursion (λ number. number < length (hand_slots s a)) (handed_on xs)
      → Matches hand (flat_map ids_due (map (λ x. MessageDue (sent s a made x)) xs)) (flat_map (send_mentions s a) xs)
  sends_match n [] targets conts = refl
  sends_match n (x ∷ xs) targets conts =
      let c = all_parts IsOurs (owns x.cont) (handed_on xs) conts in
      matches_append hand (sent s a made x).ids (flat_map ids_due (map (λ y. MessageDue (sent s a made y)) xs))
      (send_mentions s a x) (flat_map (send_mentions s a) xs)
      (sent_matches n x targets.0 (hands x.cont c.0)) (sends_match n xs targets.1 c.1)
    where
      hands : (c : SendCont) → AllByRecursion (λ number. number < length (hand_slots s a)) (owns c) → HandsOn c
      hands NoCont h = tt
      hands (Own number) h = h.0
      hands (Made make slot) h = tt
      hands (Here slot) h = tt

  replies_match : (out : Outcome) (xs : List Reply) → AllByRecursion (λ number. number < length (hand_slots s a)) (answered xs)
      → Matches hand (flat_map ids_due (map (λ x. MessageDue (rode s a made out x)) xs)) (flat_map (rode_mentions s a out) xs)
  replies_match out [] conts = refl
  replies_match out (x ∷ xs) conts =
      matches_append hand (rode s a made out x).ids (flat_map ids_due (map (λ y. MessageDue (rode s a made out y)) xs))
      (rode_mentions s a out x) (flat_map (rode_mentions s a out) xs)
      (rode_matches_at x (rides s a out x) conts.0) (replies_match out xs conts.1)

  prints_match : (xs : List (List ℕ)) → flat_map ids_due (map PrintDue xs) ≡ []
  prints_match [] = refl
  prints_match (x ∷ xs) = prints_match xs

  -- the managed ids of the new state and of what is due are those at the managed places that the outcome names
  pub names_match : (n : ℕ) (out : Outcome) → AllByRecursion (λ number. number < length (hand_slots s a)) (uses out)
      → AllByRecursion (λ x. IsTarget n x.target) out.sends
      → managed (map bare (ids_named s a made out)) ≡ map (λ p. bare (id_at hand p)) (places_named s a made out)
  names_match n out conts targets =
      let c = all_parts IsOurs out.state.conts (handed_on out.sends ++ answered out.replies) conts in
      let d = all_parts IsOurs (handed_on out.sends) (answered out.replies) c.1 in
      let state_ids = map (id_at hand) (refs_in out.state.values) ++ map (λ (x : Slot). x.object) (slots_kept s a out.state) in
      let sends = map (λ x. MessageDue (sent s a made x)) out.sends in
      let replies = map (λ x. MessageDue (rode s a made out x)) out.replies in
      let due_is : flat_map ids_due (due_with s a made out)
      ≡ flat_map ids_due (map (λ x. MessageDue (sent s a made x)) out.sends) ++ flat_map ids_due (map (λ x. MessageDue (rode s a made out x)) out.replies) =
      flat_append ids_due sends (replies ++ map PrintDue out.prints)
      ∙ ap (λ zs. flat_map ids_due sends ++ zs)
      (flat_append ids_due replies (map PrintDue out.prints) ∙ (ap (λ zs. flat_map ids_due replies ++ zs) (prints_match out.prints) ∙ append-nil (flat_map ids_due replies))) in
      ap (λ zs. managed (map bare (state_ids ++ zs))) due_is
      ∙ (matches_append hand state_ids (flat_map ids_due sends ++ flat_map ids_due replies)
      (state_mentions s a out.state) (flat_map (send_mentions s a) out.sends ++ flat_map (rode_mentions s a out) out.replies)
      (matches_append hand (map (id_at hand) (refs_in out.state.values)) (map (λ (x : Slot). x.object) (slots_kept s a out.state))
      (refs_in out.state.values) (map (cont_place s a) out.state.conts)
      (matches_at hand (refs_in out.state.values)) (conts_match out.state.conts c.0))
      (matches_append hand (flat_map ids_due sends) (flat_map ids_due replies) (flat_map (send_mentions s a) out.sends) (flat_map (rode_mentions s a out) out.replies)
      (sends_match n out.sends targets d.0) (replies_match out out.replies d.1))
      ∙ sym (managed_called hand (mentions_with s a out)))

-- ---- the places that are named are those of the hand

hand_length : (s : State) (a : Act) (made : List Id) (out : Outcome) → length made ≡ length out.makes
    → length (hand_ids s a made) ≡ hand_size s a out
hand_length s a made out e =
    omega (arith, length-append s.ids (a.ids ++ made), length-append a.ids made, e)

within_some : (n : ℕ) (hand : List Id) (ps : List ℕ) → length hand ≡ n → AllByRecursion (λ p. p < n) ps → AreWithin hand (managed_places hand ps)
within_some n hand [] e h = tt
within_some n hand (p ∷ ps) e h = elim (cases_Bool (is_managed (id_at hand p))) [
  | inl t ↦ rw t (omega (arith, e, h.0), within_some n hand ps e h.1)
  | inr t ↦ rw t (within_some n hand ps e h.1)
]

-- ---- riders name a place of the hand too

both : (a b : Bool) → (a && b) ≡ true → (a ≡ true) × (b ≡ true)
both true true h = (refl, refl)
both true false h = cc
both false b h = cc

ids_some : (ids : List Id) → nat_le 16 (id_at ids 0).kind ≡ true → 1 ≤ length ids
ids_some [] h = absurd (cc)
ids_some (x ∷ xs) h = omega arith

rider_within : (s : State) (a : Act) (out : Outcome) (may named : Bool) (x : Reply) (b : Bool) → may ≡ may_ride a named → rides_with s may x ≡ b
    → AllByRecursion (λ p. p < hand_size s a out) (rider_places b (length s.ids))
rider_within s a out may named x false e h = tt
rider_within s a out may named x true e h =
    let m : may_ride a named ≡ true = sym e ∙ (both may (x.cont == length s.conts) h).0 in
    let k = (both (not (a.code == 1) && nat_le 16 (id_at a.ids 0).kind) (not named) (both (is_some a.cont) _ m).1).0 in
    let some = ids_some a.ids (both (not (a.code == 1)) (nat_le 16 (id_at a.ids 0).kind) k).1 in
    (omega (arith, some), tt)

all_joined : {X : Type 0} (P : X → Type 0) (xs ys : List X) → AllByRecursion P xs → AllByRecursion P ys → AllByRecursion P (xs ++ ys)
all_joined P [] ys h i = i
all_joined P (x ∷ xs) ys h i = (h.0, all_joined P xs ys h.1 i)

replies_within : (s : State) (a : Act) (out : Outcome) (xs : List Reply)
    → AllByRecursion (λ p. p < hand_size s a out) (flat_map (reply_mentions s a) xs)
    → AllByRecursion (λ p. p < hand_size s a out) (flat_map (rode_mentions s a out) xs)
replies_within s a out [] h = tt
replies_within s a out (x ∷ xs) h =
    let d = all_parts (λ p. p < hand_size s a out) (reply_mentions s a x) (flat_map (reply_mentions s a) xs) h in
    all_joined (λ p. p < hand_size s a out) (rode_mentions s a out x) (flat_map (rode_mentions s a out) xs)
    (all_joined (λ p. p < hand_size s a out) (reply_mentions s a x) (rider_places (rides s a out x) (length s.ids)) d.0
    (rider_within s a out (may_ride a (names_target s a out)) (names_target s a out) x (rides s a out x) refl refl))
    (replies_within s a out xs d.1)

with_within : (s : State) (a : Act) (out : Outcome) → AllByRecursion (λ p. p < hand_size s a out) (mentions s a out)
    → AllByRecursion (λ p. p < hand_size s a out) (mentions_with s a out)
with_within s a out h =
    let d = all_parts (λ p. p < hand_size s a out) (state_mentions s a out.state) (flat_map (send_mentions s a) out.sends ++ flat_map (reply_mentions s a) out.replies) h in
    let e = all_parts (λ p. p < hand_size s a out) (flat_map (send_mentions s a) out.sends) (flat_map (reply_mentions s a) out.replies) d.1 in
    all_joined (λ p. p < hand_size s a out) (state_mentions s a out.state) (flat_map (send_mentions s a) out.sends ++ flat_map (rode_mentions s a out) out.replies) d.0
    (all_joined (λ p. p < hand_size s a out) (flat_map (send_mentions s a) out.sends) (flat_map (rode_mentions s a out) out.replies) e.0
    (replies_within s a out out.replies e.1))

pub places_within : (s : State) (a : Act) (made : List Id) (out : Outcome) → length made ≡ length out.makes
    → AllByRecursion (λ p. p < hand_size s a out) (mentions s a out) → AreWithin (hand_ids s a made) (places_named s a made out)
places_within s a made out e h =
    within_some (hand_size s a out) (hand_ids s a made) (mentions_with s a out) (hand_length s a made out e) (with_within s a out h)
