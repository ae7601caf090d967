-- What a session keeps: its names and awaited answers within their bounds, and the places that they name.
use Rattle.std.specs.Prelude.{ℕ, suc, ℤ, pos, negsuc, Bool, true, false, nat_le, List, [], ◌∷◌, ◌++◌, ◌≡◌, ◌+◌, ◌*◌, ◌≤◌, ◌<◌, ◌==◌, ◌&&◌, Option, Some, None, length, refl, if◌then◌else◌}
use Rattle.std.specs.List.{AllByRecursion, count_by}
use Rattle.std.specs.Str.{bytes_eq}
use Rattle.std.proofs.Common.{sym, ap, ◌∙◌, subst, arith, lit≤, length-append, append_assoc}
use Rattle.std.proofs.lemmas.Bool.{cond_both, and_parts, leb-true}
use Rattle.hpx_value.specs.Values.{refs_in}
use Rattle.hpx_value.specs.Shapes.{IsValue, IsCount, values_size, value_size}
use Rattle.hpx_value.specs.declared.value.Value.{Value}
use Rattle.hpx_value.specs.declared.value.Value.TheVariants.{Unit as Nothing, Flag, Int, Text, Ref, Fault, Ints}
use Rattle.hpx_calls.specs.Values.{spelled}
use Rattle.hpx_calls.proofs.Keeps.{count-append, all_append, once_counted}
use Rattle.app_console.specs.Types.{Naming, What, NotSaid, Told, Released, Bound, Await, Desk}
use Rattle.app_console.specs.Desks

-- ---- one name

abbrev pub IsPlace : Option Value → Type 0
IsPlace None = Unit {0}
IsPlace (Some (Ref p)) = Unit {0}
IsPlace (Some _) = ⊥

-- a name of at most 32 bytes, which stands for an object by its place
abbrev pub IsNaming : Naming Value → Type 0
IsNaming x = (length x.name ≤ 32) × IsPlace x.to

-- the place that a name names
abbrev pub places_to : Option Value → List ℕ
places_to None = []
places_to (Some v) = refs_in (v ∷ [])

-- the places that names name, in order
abbrev pub name_refs : List (Naming Value) → List ℕ
name_refs [] = []
name_refs (x ∷ xs) = places_to x.to ++ name_refs xs

abbrev pub IsWhat : What → Type 0
IsWhat (Bound name) = length name ≤ 32
IsWhat _ = Unit {0}

-- names, places below a limit, each not too often, and not too many
pub record AreNamings (limit often most : ℕ) (xs : List (Naming Value)) : Type 0 where
  pub each : AllByRecursion IsNaming xs
  pub below : AllByRecursion (λ p. p < limit) (name_refs xs)
  pub rare : (place : ℕ) → count_by (λ p. p == place) (name_refs xs) ≤ often
  pub few : length xs ≤ most

one_place : (o : Option Value) → IsPlace o → length (places_to o) ≤ 1
one_place None h = lit≤ tt
one_place (Some (Ref p)) h = lit≤ tt
one_place (Some Nothing) h = absurd h
one_place (Some (Flag b)) h = absurd h
one_place (Some (Int z)) h = absurd h
one_place (Some (Text t)) h = absurd h
one_place (Some (Fault c)) h = absurd h
one_place (Some (Ints zs)) h = absurd h

pub few_refs : (xs : List (Naming Value)) → AllByRecursion IsNaming xs → length (name_refs xs) ≤ length xs
few_refs [] h = omega arith
few_refs (x ∷ xs) h =
    let one = one_place x.to h.0.1 in
    let rest = few_refs xs h.1 in
    omega (arith, length-append (places_to x.to) (name_refs xs))

weaker_below : (m n : ℕ) (ps : List ℕ) → m ≤ n → AllByRecursion (λ p. p < m) ps → AllByRecursion (λ p. p < n) ps
weaker_below m n [] low h = tt
weaker_below m n (p ∷ ps) low h = let less = h.0 in (omega arith, weaker_below m n ps low h.1)

pub wider : (limit limit' often often' most most' : ℕ) (xs : List (Naming Value)) → limit ≤ limit' → often ≤ often' → most ≤ most' → AreNamings limit often most xs → AreNamings limit' often' most' xs
wider limit limit' often often' most most' xs a b c h = record {
  each = h.each;
  below = weaker_below limit limit' (name_refs xs) a h.below;
  rare = λ place. let r = h.rare place in omega arith;
  few = let f = h.few in omega arith;
}

-- ---- one name less

pub all_back : {X : Type 0} (P : X → Type 0) (xs ys : List X) → AllByRecursion P (xs ++ ys) → AllByRecursion P xs × AllByRecursion P ys
all_back P [] ys h = (tt, h)
all_back P (x ∷ xs) ys h = let rest = all_back P xs ys h.1 in ((h.0, rest.0), rest.1)

without_each : (name : List ℕ) (xs : List (Naming Value)) → AllByRecursion IsNaming xs → AllByRecursion IsNaming (Desks.without name xs)
without_each name [] h = tt
without_each name (x ∷ xs) h = cond_both (bytes_eq name x.name) _ _ (AllByRecursion IsNaming) (λ e. h.1) (λ e. (h.0, without_each name xs h.1))

without_below : (limit : ℕ) (name : List ℕ) (xs : List (Naming Value)) → AllByRecursion (λ p. p < limit) (name_refs xs) → AllByRecursion (λ p. p < limit) (name_refs (Desks.without name xs))
without_below limit name [] h = tt
without_below limit name (x ∷ xs) h =
    let parts = all_back (λ p. p < limit) (places_to x.to) (name_refs xs) h in
    cond_both (bytes_eq name x.name) _ _ (λ ys. AllByRecursion (λ p. p < limit) (name_refs ys)) (λ e. parts.1)
    (λ e. all_append (λ p. p < limit) (places_to x.to) (name_refs (Desks.without name xs)) parts.0 (without_below limit name xs parts.1))

without_rare : (q : ℕ → Bool) (name : List ℕ) (xs : List (Naming Value)) → count_by q (name_refs (Desks.without name xs)) ≤ count_by q (name_refs xs)
without_rare q name [] = omega arith
without_rare q name (x ∷ xs) =
    let all = count-append q (places_to x.to) (name_refs xs) in
    let less = count-append q (places_to x.to) (name_refs (Desks.without name xs)) in
    let rest = without_rare q name xs in
    cond_both (bytes_eq name x.name) _ _ (λ ys. count_by q (name_refs ys) ≤ count_by q (places_to x.to ++ name_refs xs)) (λ e. omega arith) (λ e. omega arith)

without_few : (name : List ℕ) (xs : List (Naming Value)) → length (Desks.without name xs) ≤ length xs
without_few name [] = omega arith
without_few name (x ∷ xs) =
    let rest = without_few name xs in cond_both (bytes_eq name x.name) _ _ (λ ys. length ys ≤ suc (length xs)) (λ e. omega arith) (λ e. omega arith)

pub less_names : (limit often most : ℕ) (name : List ℕ) (xs : List (Naming Value)) → AreNamings limit often most xs → AreNamings limit often most (Desks.without name xs)
less_names limit often most name xs h = record {
  each = without_each name xs h.each;
  below = without_below limit name xs h.below;
  rare = λ place. let r = h.rare place in let l = without_rare (λ p. p == place) name xs in omega arith;
  few = let f = h.few in let l = without_few name xs in omega arith;
}

-- ---- one name more

refs-append : (xs ys : List (Naming Value)) → name_refs (xs ++ ys) ≡ name_refs xs ++ name_refs ys
refs-append [] ys = refl
refs-append (x ∷ xs) ys = ap (λ ps. places_to x.to ++ ps) (refs-append xs ys) ∙ sym (append_assoc (places_to x.to) (name_refs xs) (name_refs ys))

pub more_names : (limit often most : ℕ) (x : Naming Value) (xs : List (Naming Value)) → IsNaming x → AllByRecursion (λ p. p < limit) (places_to x.to)
    → AreNamings limit often most xs → AreNamings limit (often + 1) (most + 1) (xs ++ x ∷ [])
more_names limit often most x xs good low h = record {
  each = all_append IsNaming xs (x ∷ []) h.each (good, tt);
  below =
      let P : List ℕ → Type 0 = AllByRecursion (λ p. p < limit) in
      subst P (sym (refs-append xs (x ∷ []))) (all_append (λ p. p < limit) (name_refs xs) (places_to x.to ++ []) h.below (all_append (λ p. p < limit) (places_to x.to) [] low tt));
  rare = λ place. rare place;
  few = let f = h.few in omega (arith, length-append xs (x ∷ []));
}
  where
    counted : (q : ℕ → Bool) (o : Option Value) → IsPlace o → count_by q (places_to o ++ []) ≤ 1
    counted q None g = omega arith
    counted q (Some (Ref p)) g = cond_both (q p) 1 0 (λ k. 0 + k ≤ 1) (λ e. omega arith) (λ e. omega arith)
    counted q (Some Nothing) g = absurd g
    counted q (Some (Flag b)) g = absurd g
    counted q (Some (Int z)) g = absurd g
    counted q (Some (Text t)) g = absurd g
    counted q (Some (Fault c)) g = absurd g
    counted q (Some (Ints zs)) g = absurd g

    rare : (place : ℕ) → count_by (λ p. p == place) (name_refs (xs ++ x ∷ [])) ≤ often + 1
    rare place =
        let r = h.rare place in
        let one = counted (λ p. p == place) x.to good.1 in
        let all : count_by (λ p. p == place) (name_refs (xs ++ x ∷ [])) ≡ count_by (λ p. p == place) (name_refs xs) + count_by (λ p. p == place) (places_to x.to ++ []) =
        ap (count_by (λ p. p == place)) (refs-append xs (x ∷ [])) ∙ count-append (λ p. p == place) (name_refs xs) (places_to x.to ++ []) in
        omega arith

-- ---- awaited answers

abbrev pub AreAwaits : ℕ → List Await → Type 0
AreAwaits most xs = AllByRecursion (λ x. IsWhat x.what) xs × (length xs ≤ most)

erased_each : (slot : ℕ) (xs : List Await) → AllByRecursion (λ x. IsWhat x.what) xs → AllByRecursion (λ x. IsWhat x.what) (Desks.erased slot xs)
erased_each slot [] h = tt
erased_each slot (x ∷ xs) h = cond_both (slot == x.slot) _ _ (AllByRecursion (λ x. IsWhat x.what)) (λ e. h.1) (λ e. (h.0, erased_each slot xs h.1))

erased_few : (slot : ℕ) (xs : List Await) → length (Desks.erased slot xs) ≤ length xs
erased_few slot [] = omega arith
erased_few slot (x ∷ xs) = let rest = erased_few slot xs in cond_both (slot == x.slot) _ _ (λ ys. length ys ≤ suc (length xs)) (λ e. omega arith) (λ e. omega arith)

pub less_awaits : (most slot : ℕ) (xs : List Await) → AreAwaits most xs → AreAwaits most (Desks.erased slot xs)
less_awaits most slot xs h = (erased_each slot xs h.0, let l = erased_few slot xs in let m = h.1 in omega arith)

pub more_awaits : (most slot : ℕ) (what : What) (xs : List Await) → IsWhat what → AreAwaits most xs → AreAwaits (most + 1) (record { slot = slot; what = what } ∷ xs)
more_awaits most slot what xs good h = ((good, h.0), let m = h.1 in omega arith)

pub held_what : (slot : ℕ) (xs : List Await) (what : What) → AllByRecursion (λ x. IsWhat x.what) xs → Desks.held_at slot xs ≡ Some what → IsWhat what
held_what slot [] what h e = cc
held_what slot (x ∷ xs) what h e = by_slot (slot == x.slot) e (held_what slot xs what h.1)
  where
    by_slot : (b : Bool) → (if b then Some x.what else Desks.held_at slot xs) ≡ Some what → (Desks.held_at slot xs ≡ Some what → IsWhat what) → IsWhat what
    by_slot true f g = let same : x.what ≡ what = cc in subst IsWhat same h.0
    by_slot false f g = g f

-- ---- the values of a session

what_value : (w : What) → IsWhat w → IsValue (Desks.what_out spelled w) × (value_size (Desks.what_out spelled w) ≤ 35) × (refs_in (Desks.what_out spelled w ∷ []) ≡ [])
what_value NotSaid h = (tt, lit≤ tt, refl)
what_value Told h = (tt, lit≤ tt, refl)
what_value Released h = (tt, lit≤ tt, refl)
what_value (Bound name) h = (omega arith, omega arith, refl)

refs_two : (v w : Value) (vs : List Value) → refs_in (v ∷ w ∷ vs) ≡ refs_in (v ∷ []) ++ (refs_in (w ∷ []) ++ refs_in vs)
refs_two v w vs = refs_one v (w ∷ vs) ∙ ap (λ ps. refs_in (v ∷ []) ++ ps) (refs_one w vs)
  where
    refs_one : (v : Value) (vs : List Value) → refs_in (v ∷ vs) ≡ refs_in (v ∷ []) ++ refs_in vs
    refs_one Nothing vs = refl
    refs_one (Flag b) vs = refl
    refs_one (Int z) vs = refl
    refs_one (Text t) vs = refl
    refs_one (Ref p) vs = refl
    refs_one (Fault c) vs = refl
    refs_one (Ints zs) vs = refl

-- values that are few, within limits and short, and name these places
pub record AreKept (vs : List Value) (count bytes : ℕ) (refs : List ℕ) : Type 0 where
  pub each : AllByRecursion IsValue vs
  pub few : length vs ≤ count
  pub short : values_size vs ≤ bytes
  pub named : refs_in vs ≡ refs

awaits_kept : (xs : List Await) → AllByRecursion (λ x. IsWhat x.what) xs → AreKept (Desks.awaits_out spelled xs) (2 * length xs) (44 * length xs) []
awaits_kept [] h = record { each = tt; few = lit≤ tt; short = lit≤ tt; named = refl }
awaits_kept (x ∷ xs) h =
    let what = what_value x.what h.0 in
    let rest = awaits_kept xs h.1 in
    let size = what.1 in
    let count = rest.few in
    let bytes = rest.short in
    record {
      each = (tt, (what.0, rest.each));
      few = omega arith;
      short = omega arith;
      named = refs_two (Int (pos x.slot)) (Desks.what_out spelled x.what) (Desks.awaits_out spelled xs) ∙ (ap (λ ps. ps ++ refs_in (Desks.awaits_out spelled xs)) what.2 ∙ rest.named);
    }

to_value : (o : Option Value) → IsPlace o → IsValue (Desks.to_out spelled o) × (value_size (Desks.to_out spelled o) ≤ 17) × (refs_in (Desks.to_out spelled o ∷ []) ≡ places_to o)
to_value None h = (tt, lit≤ tt, refl)
to_value (Some (Ref p)) h = (tt, lit≤ tt, refl)
to_value (Some Nothing) h = absurd h
to_value (Some (Flag b)) h = absurd h
to_value (Some (Int z)) h = absurd h
to_value (Some (Text t)) h = absurd h
to_value (Some (Fault c)) h = absurd h
to_value (Some (Ints zs)) h = absurd h

names_kept : (xs : List (Naming Value)) (vs : List Value) (count bytes : ℕ) → AllByRecursion IsNaming xs → AreKept vs count bytes []
    → AreKept (Desks.names_out spelled xs vs) (2 * length xs + count) (52 * length xs + bytes) (name_refs xs)
names_kept [] vs count bytes h k = let f = k.few in let b = k.short in record { each = k.each; few = omega arith; short = omega arith; named = k.named }
names_kept (x ∷ xs) vs count bytes h k =
    let to = to_value x.to h.0.1 in
    let rest = names_kept xs vs count bytes h.1 k in
    let name = h.0.0 in
    let size = to.1 in
    let f = rest.few in
    let b = rest.short in
    record {
      each = (omega arith, (to.0, rest.each));
      few = omega arith;
      short = omega arith;
      named = refs_two (Text x.name) (Desks.to_out spelled x.to) (Desks.names_out spelled xs vs) ∙ (ap (λ ps. ps ++ refs_in (Desks.names_out spelled xs vs)) to.2 ∙ ap (λ ps. places_to x.to ++ ps) rest.named);
    }

-- what a session keeps, as values
pub desk_kept : (d : Desk Value) (most : ℕ) → AllByRecursion IsNaming d.names → length d.names ≤ most → AreAwaits most d.awaits
    → AreKept (Desks.desk_out spelled d) (4 * most) (96 * most) (name_refs d.names)
desk_kept d most names few awaits =
    let both = names_kept d.names (Desks.awaits_out spelled d.awaits) (2 * length d.awaits) (44 * length d.awaits) names (awaits_kept d.awaits awaits.0) in
    let f = both.few in
    let b = both.short in
    let m = awaits.1 in
    record { each = both.each; few = omega arith; short = omega arith; named = both.named }

-- ---- what values show

-- what was read names what the values name
pub record IsRead (vs : List Value) (d : Desk Value) : Type 0 where
  pub names : AllByRecursion IsNaming d.names
  pub awaits : AllByRecursion (λ x. IsWhat x.what) d.awaits
  pub refs : refs_in vs ≡ name_refs d.names

abbrev AwaitsRead : List Value → Option (List Await) → Type 0
AwaitsRead vs None = Unit {0}
AwaitsRead vs (Some xs) = AllByRecursion (λ x. IsWhat x.what) xs × (refs_in vs ≡ [])

abbrev DeskRead : List Value → Option (Desk Value) → Type 0
DeskRead vs None = Unit {0}
DeskRead vs (Some d) = IsRead vs d

abbrev WhatRead : Value → Option What → Type 0
WhatRead v None = Unit {0}
WhatRead v (Some what) = IsWhat what × (refs_in (v ∷ []) ≡ [])

what_if : (v : Value) (b : Bool) (x y : Option What) → (b ≡ true → WhatRead v x) → (b ≡ false → WhatRead v y) → WhatRead v (if b then x else y)
what_if v b x y p q = cond_both b x y (WhatRead v) p q

what_read : (v : Value) → WhatRead v (Desks.what_in (spelled.look v))
what_read (Int (pos n)) = what_if (Int (pos n)) (n == 0) _ _ (λ e. (tt, refl)) (λ e. what_if (Int (pos n)) (n == 1) _ _ (λ f. (tt, refl)) (λ f. what_if (Int (pos n)) (n == 2) _ _ (λ g. (tt, refl)) (λ g. tt)))
what_read (Int (negsuc n)) = tt
what_read (Text t) = what_if (Text t) (Desks.fits_name t) _ _ (λ e. (leb-true (length t) 32 e, refl)) (λ e. tt)
what_read Nothing = tt
what_read (Flag b) = tt
what_read (Ref p) = tt
what_read (Fault c) = tt
what_read (Ints zs) = tt

await_by_read : (z : ℤ) (w : Value) (vs : List Value) (slot : Option ℕ) (what : Option What) (xs : Option (List Await)) → WhatRead w what → AwaitsRead vs xs
    → AwaitsRead (Int z ∷ w ∷ vs) (Desks.await_by slot what xs)
await_by_read z w vs (Some slot) (Some what) (Some xs) h k = ((h.0, k.0), refs_two (Int z) w vs ∙ (ap (λ ps. ps ++ refs_in vs) h.1 ∙ k.1))
await_by_read z w vs None what xs h k = tt
await_by_read z w vs (Some slot) None xs h k = tt
await_by_read z w vs (Some slot) (Some what) None h k = tt

await_read : (v w : Value) (vs : List Value) (xs : Option (List Await)) → AwaitsRead vs xs → AwaitsRead (v ∷ w ∷ vs) (Desks.await_at (spelled.look v) (spelled.look w) xs)
await_read (Int z) w vs xs h = await_by_read z w vs (Desks.slot_in z) (Desks.what_in (spelled.look w)) xs (what_read w) h
await_read Nothing w vs xs h = tt
await_read (Flag b) w vs xs h = tt
await_read (Text t) w vs xs h = tt
await_read (Ref p) w vs xs h = tt
await_read (Fault c) w vs xs h = tt
await_read (Ints zs) w vs xs h = tt

awaits_read : (vs : List Value) → AwaitsRead vs (Desks.awaits_in spelled vs)
awaits_read [] = (tt, refl)
awaits_read (v ∷ []) = tt
awaits_read (v ∷ w ∷ vs) = await_read v w vs (Desks.awaits_in spelled vs) (awaits_read vs)

only_awaits : (vs : List Value) (xs : Option (List Await)) → AwaitsRead vs xs → DeskRead vs (Desks.desk_of xs)
only_awaits vs None h = tt
only_awaits vs (Some xs) h = record { names = tt; awaits = h.0; refs = h.1 }

abbrev ToRead : Value → Option (Option Value) → Type 0
ToRead w None = Unit {0}
ToRead w (Some to) = IsPlace to × (refs_in (w ∷ []) ≡ places_to to)

to_read : (w : Value) → ToRead w (Desks.to_in (spelled.look w) w)
to_read Nothing = (tt, refl)
to_read (Ref p) = (tt, refl)
to_read (Flag b) = tt
to_read (Int z) = tt
to_read (Text t) = tt
to_read (Fault c) = tt
to_read (Ints zs) = tt

named_read : (b : Bool) (name : List ℕ) (w : Value) (vs : List Value) (to : Option (Option Value)) (d : Option (Desk Value)) → Desks.fits_name name ≡ b → ToRead w to → DeskRead vs d
    → DeskRead (Text name ∷ w ∷ vs) (Desks.named_by b name to d)
named_read true name w vs (Some to) (Some d) e h k = record {
  names = ((leb-true (length name) 32 e, h.0), k.names);
  awaits = k.awaits;
  refs = refs_two (Text name) w vs ∙ (ap (λ ps. ps ++ refs_in vs) h.1 ∙ ap (λ ps. places_to to ++ ps) k.refs);
}
named_read true name w vs None d e h k = tt
named_read true name w vs (Some to) None e h k = tt
named_read false name w vs to d e h k = tt

desk_by_read : (v w : Value) (vs : List Value) (d : Option (Desk Value)) (xs : Option (List Await)) → DeskRead vs d → AwaitsRead (v ∷ w ∷ vs) xs
    → DeskRead (v ∷ w ∷ vs) (Desks.desk_by spelled (spelled.look v) v w d xs)
desk_by_read (Text name) w vs d xs h k = named_read (Desks.fits_name name) name w vs (Desks.to_in (spelled.look w) w) d refl (to_read w) h
desk_by_read Nothing w vs d xs h k = only_awaits (Nothing ∷ w ∷ vs) xs k
desk_by_read (Flag b) w vs d xs h k = only_awaits (Flag b ∷ w ∷ vs) xs k
desk_by_read (Int z) w vs d xs h k = only_awaits (Int z ∷ w ∷ vs) xs k
desk_by_read (Ref p) w vs d xs h k = only_awaits (Ref p ∷ w ∷ vs) xs k
desk_by_read (Fault c) w vs d xs h k = only_awaits (Fault c ∷ w ∷ vs) xs k
desk_by_read (Ints zs) w vs d xs h k = only_awaits (Ints zs ∷ w ∷ vs) xs k

desk_read : (vs : List Value) → DeskRead vs (Desks.desk_in spelled vs)
desk_read [] = record { names = tt; awaits = tt; refs = refl }
desk_read (v ∷ []) = tt
desk_read (v ∷ w ∷ vs) = desk_by_read v w vs (Desks.desk_in spelled vs) (Desks.awaits_in spelled (v ∷ w ∷ vs)) (desk_read vs) (awaits_read (v ∷ w ∷ vs))

-- what a state of a session shows
pub record IsDesk (limit : ℕ) (d : Desk Value) : Type 0 where
  pub names : AreNamings limit 1 100 d.names
  pub awaits : AreAwaits 100 d.awaits

within_desk : (vs : List Value) (limit : ℕ) (o : Option (Desk Value)) (d : Desk Value) → DeskRead vs o → IsCount 0 (refs_in vs) → AllByRecursion (λ p. p < limit) (refs_in vs)
    → Desks.within o ≡ Some d → IsDesk limit d
within_desk vs limit None d h counted below e = cc
within_desk vs limit (Some c) d h counted below e = by_size (nat_le (length c.names) 100 && nat_le (length c.awaits) 100) refl e
  where
    by_size : (b : Bool) → (nat_le (length c.names) 100 && nat_le (length c.awaits) 100) ≡ b → (if b then Some c else None) ≡ Some d → IsDesk limit d
    by_size false f g = cc
    by_size true f g =
        let same : c ≡ d = cc in
        let parts = and_parts (nat_le (length c.names) 100) (nat_le (length c.awaits) 100) f in
        let P : List ℕ → Type 0 = AllByRecursion (λ p. p < limit) in
        subst (IsDesk limit) same (record {
          names = record {
            each = h.names;
            below = subst P h.refs below;
            rare = λ place. let Q : List ℕ → Type 0 = λ ps. count_by (λ p. p == place) ps ≤ 1 in subst Q h.refs (once_counted place 0 (refs_in vs) counted);
            few = leb-true (length c.names) 100 parts.0;
          };
          awaits = (h.awaits, leb-true (length c.awaits) 100 parts.1);
        })

pub desk_shown_is : (vs : List Value) (limit : ℕ) (d : Desk Value) → IsCount 0 (refs_in vs) → AllByRecursion (λ p. p < limit) (refs_in vs)
    → Desks.desk_shown spelled vs ≡ Some d → IsDesk limit d
desk_shown_is vs limit d counted below e = within_desk vs limit (Desks.desk_in spelled vs) d (desk_read vs) counted below e
