-- A session's state seen over ids: what is read off it, and what its operations leave.
use Rattle.std.specs.Prelude.{ℕ, suc, pos, Bool, true, false, nat_le, List, [], ◌∷◌, ◌++◌, ◌≡◌, ◌≤◌, ◌&&◌, Option, Some, None, length, map, refl, if◌then◌else◌}
use Rattle.std.specs.List.{AllByRecursion}
use Rattle.std.specs.Option.{option_map}
use Rattle.std.specs.Str.{bytes_eq}
use Rattle.std.proofs.Common.{sym, ap, ◌∙◌}
use Rattle.std.proofs.lemmas.Bool.{le-leb}
use Rattle.hpx_value.specs.declared.value.Value.TheVariants.{Unit as SpelledUnit, Flag as SpelledFlag, Int as SpelledInt, Text as SpelledText, Ref as SpelledRef, Fault as SpelledFault, Ints as SpelledInts}
use Rattle.hpx_calls.specs.Values.{Value, Nothing, Flag, Int, Text, Ref, Fault, Ints, plain, spelled, seen}
use Rattle.app_console.specs.Types.{Spelled, Naming, What, NotSaid, Told, Released, Bound, Await, Desk, Argument, GivenWord, GivenObject, GivenNumber}
use Rattle.app_console.specs.Desks
use Rattle.app_console.specs.Session.{given, or_nothing}
use Rattle.app_console.proofs.Namings.{IsWhat}

module _ {R : Type 0} (see : ℕ → R) where
  abbrev pub naming_seen : Naming Spelled → Naming (Value R)
  naming_seen x = record { name = x.name; to = option_map (seen see) x.to }

  abbrev pub names_seen : List (Naming Spelled) → List (Naming (Value R))
  names_seen [] = []
  names_seen (x ∷ xs) = naming_seen x ∷ names_seen xs

  abbrev pub desk_seen : Desk Spelled → Desk (Value R)
  desk_seen d = record { names = names_seen d.names; awaits = d.awaits }

  pub length-seen : (xs : List (Naming Spelled)) → length (names_seen xs) ≡ length xs
  length-seen [] = refl
  length-seen (x ∷ xs) = ap suc (length-seen xs)

  look_seen : (v : Spelled) → (plain R).look (seen see v) ≡ spelled.look v
  look_seen SpelledUnit = refl
  look_seen (SpelledFlag b) = refl
  look_seen (SpelledInt z) = refl
  look_seen (SpelledText t) = refl
  look_seen (SpelledRef p) = refl
  look_seen (SpelledFault c) = refl
  look_seen (SpelledInts zs) = refl

  -- ---- reading

  pub awaits_in_seen : (vs : List Spelled) → Desks.awaits_in (plain R) (map (seen see) vs) ≡ Desks.awaits_in spelled vs
  awaits_in_seen [] = refl
  awaits_in_seen (v ∷ []) = refl
  awaits_in_seen (v ∷ w ∷ vs) =
      ap (λ l. Desks.await_at l ((plain R).look (seen see w)) (Desks.awaits_in (plain R) (map (seen see) vs))) (look_seen v)
      ∙ (ap (λ l. Desks.await_at (spelled.look v) l (Desks.awaits_in (plain R) (map (seen see) vs))) (look_seen w)
      ∙ ap (Desks.await_at (spelled.look v) (spelled.look w)) (awaits_in_seen vs))

  abbrev pub maybe_desk : Option (Desk Spelled) → Option (Desk (Value R))
  maybe_desk None = None
  maybe_desk (Some d) = Some (desk_seen d)

  only_seen : (xs : Option (List Await)) → Desks.desk_of {V = Value R} xs ≡ maybe_desk (Desks.desk_of xs)
  only_seen None = refl
  only_seen (Some xs) = refl

  abbrev maybe_to : Option (Option Spelled) → Option (Option (Value R))
  maybe_to None = None
  maybe_to (Some to) = Some (option_map (seen see) to)

  to_seen : (w : Spelled) → Desks.to_in ((plain R).look (seen see w)) (seen see w) ≡ maybe_to (Desks.to_in (spelled.look w) w)
  to_seen SpelledUnit = refl
  to_seen (SpelledFlag b) = refl
  to_seen (SpelledInt z) = refl
  to_seen (SpelledText t) = refl
  to_seen (SpelledRef p) = refl
  to_seen (SpelledFault c) = refl
  to_seen (SpelledInts zs) = refl

  named_seen : (b : Bool) (name : List ℕ) (to : Option (Option Spelled)) (d : Option (Desk Spelled)) → Desks.named_by b name (maybe_to to) (maybe_desk d) ≡ maybe_desk (Desks.named_by b name to d)
  named_seen true name (Some to) (Some d) = refl
  named_seen true name None d = refl
  named_seen true name (Some to) None = refl
  named_seen false name to d = refl

  by_seen : (v w : Spelled) (d : Option (Desk Spelled)) (xs : Option (List Await))
      → Desks.desk_by (plain R) (spelled.look v) (seen see v) (seen see w) (maybe_desk d) xs ≡ maybe_desk (Desks.desk_by spelled (spelled.look v) v w d xs)
  by_seen (SpelledText name) w d xs =
      ap (λ to. Desks.named_by (Desks.fits_name name) name to (maybe_desk d)) (to_seen w) ∙ named_seen (Desks.fits_name name) name (Desks.to_in (spelled.look w) w) d
  by_seen SpelledUnit w d xs = only_seen xs
  by_seen (SpelledFlag b) w d xs = only_seen xs
  by_seen (SpelledInt z) w d xs = only_seen xs
  by_seen (SpelledRef p) w d xs = only_seen xs
  by_seen (SpelledFault c) w d xs = only_seen xs
  by_seen (SpelledInts zs) w d xs = only_seen xs

  pub desk_in_seen : (vs : List Spelled) → Desks.desk_in (plain R) (map (seen see) vs) ≡ maybe_desk (Desks.desk_in spelled vs)
  desk_in_seen [] = refl
  desk_in_seen (v ∷ []) = refl
  desk_in_seen (v ∷ w ∷ vs) =
      ap (λ l. Desks.desk_by (plain R) l (seen see v) (seen see w) (Desks.desk_in (plain R) (map (seen see) vs)) (Desks.awaits_in (plain R) (map (seen see) (v ∷ w ∷ vs)))) (look_seen v)
      ∙ (ap (λ d. Desks.desk_by (plain R) (spelled.look v) (seen see v) (seen see w) d (Desks.awaits_in (plain R) (map (seen see) (v ∷ w ∷ vs)))) (desk_in_seen vs)
      ∙ (ap (Desks.desk_by (plain R) (spelled.look v) (seen see v) (seen see w) (maybe_desk (Desks.desk_in spelled vs))) (awaits_in_seen (v ∷ w ∷ vs))
      ∙ by_seen v w (Desks.desk_in spelled vs) (Desks.awaits_in spelled (v ∷ w ∷ vs))))

  -- ---- laying out

  what_laid : (w : What) → seen see (Desks.what_out spelled w) ≡ Desks.what_out (plain R) w
  what_laid NotSaid = refl
  what_laid Told = refl
  what_laid Released = refl
  what_laid (Bound name) = refl

  awaits_laid : (xs : List Await) → map (seen see) (Desks.awaits_out spelled xs) ≡ Desks.awaits_out (plain R) xs
  awaits_laid [] = refl
  awaits_laid (x ∷ xs) = ap (λ w. Int (pos x.slot) ∷ w ∷ map (seen see) (Desks.awaits_out spelled xs)) (what_laid x.what) ∙ ap (λ ws. Int (pos x.slot) ∷ Desks.what_out (plain R) x.what ∷ ws) (awaits_laid xs)

  to_laid : (o : Option Spelled) → seen see (Desks.to_out spelled o) ≡ Desks.to_out (plain R) (option_map (seen see) o)
  to_laid None = refl
  to_laid (Some v) = refl

  names_laid : (xs : List (Naming Spelled)) (vs : List Spelled) (us : List (Value R)) → map (seen see) vs ≡ us → map (seen see) (Desks.names_out spelled xs vs) ≡ Desks.names_out (plain R) (names_seen xs) us
  names_laid [] vs us e = e
  names_laid (x ∷ xs) vs us e =
      ap (λ w. Text x.name ∷ w ∷ map (seen see) (Desks.names_out spelled xs vs)) (to_laid x.to) ∙ ap (λ ws. Text x.name ∷ Desks.to_out (plain R) (option_map (seen see) x.to) ∷ ws) (names_laid xs vs us e)

  pub desk_laid : (d : Desk Spelled) → map (seen see) (Desks.desk_out spelled d) ≡ Desks.desk_out (plain R) (desk_seen d)
  desk_laid d = names_laid d.names (Desks.awaits_out spelled d.awaits) (Desks.awaits_out (plain R) d.awaits) (awaits_laid d.awaits)

  -- ---- names

  option_if : (b : Bool) (x y : Option Spelled) → (if b then option_map (seen see) x else option_map (seen see) y) ≡ option_map (seen see) (if b then x else y)
  option_if true x y = refl
  option_if false x y = refl

  pub seek_seen : (name : List ℕ) (xs : List (Naming Spelled)) → Desks.seek name (names_seen xs) ≡ option_map (seen see) (Desks.seek name xs)
  seek_seen name [] = refl
  seek_seen name (x ∷ xs) =
      ap (λ o. if bytes_eq name x.name then option_map (seen see) x.to else o) (seek_seen name xs) ∙ option_if (bytes_eq name x.name) x.to (Desks.seek name xs)

  names_if : (b : Bool) (xs ys : List (Naming Spelled)) → (if b then names_seen xs else names_seen ys) ≡ names_seen (if b then xs else ys)
  names_if true xs ys = refl
  names_if false xs ys = refl

  pub without_seen : (name : List ℕ) (xs : List (Naming Spelled)) → Desks.without name (names_seen xs) ≡ names_seen (Desks.without name xs)
  without_seen name [] = refl
  without_seen name (x ∷ xs) =
      ap (λ ys. if bytes_eq name x.name then names_seen xs else naming_seen x ∷ ys) (without_seen name xs) ∙ names_if (bytes_eq name x.name) xs (x ∷ Desks.without name xs)

  more_seen : (xs : List (Naming Spelled)) (x : Naming Spelled) → names_seen (xs ++ x ∷ []) ≡ names_seen xs ++ naming_seen x ∷ []
  more_seen [] x = refl
  more_seen (y ∷ xs) x = ap (λ ys. naming_seen y ∷ ys) (more_seen xs x)

  pub opened_seen : (what : What) (xs : List (Naming Spelled)) → names_seen (Desks.opened what xs) ≡ Desks.opened what (names_seen xs)
  opened_seen NotSaid xs = refl
  opened_seen Told xs = refl
  opened_seen Released xs = refl
  opened_seen (Bound name) xs = more_seen xs (record { name = name; to = None })

  bound_seen : (name : List ℕ) (v : Spelled) (xs : List (Naming Spelled)) → names_seen (Desks.bound spelled (spelled.look v) name v xs) ≡ Desks.bound (plain R) ((plain R).look (seen see v)) name (seen see v) (names_seen xs)
  bound_seen name (SpelledRef p) xs =
      more_seen (Desks.without name xs) (record { name = name; to = Some (SpelledRef p) }) ∙ ap (λ ys. ys ++ record { name = name; to = Some (Ref (see p)) } ∷ []) (sym (without_seen name xs))
  bound_seen name SpelledUnit xs = sym (without_seen name xs)
  bound_seen name (SpelledFlag b) xs = sym (without_seen name xs)
  bound_seen name (SpelledInt z) xs = sym (without_seen name xs)
  bound_seen name (SpelledText t) xs = sym (without_seen name xs)
  bound_seen name (SpelledFault c) xs = sym (without_seen name xs)
  bound_seen name (SpelledInts zs) xs = sym (without_seen name xs)

  pub answered_seen : (what : What) (v : Spelled) (xs : List (Naming Spelled)) → names_seen (Desks.answered spelled what v xs) ≡ Desks.answered (plain R) what (seen see v) (names_seen xs)
  answered_seen NotSaid v xs = refl
  answered_seen Told v xs = refl
  answered_seen Released v xs = refl
  answered_seen (Bound name) v xs = bound_seen name v xs

  nothing_seen : (o : Option Spelled) → seen see (or_nothing spelled o) ≡ or_nothing (plain R) (option_map (seen see) o)
  nothing_seen None = refl
  nothing_seen (Some v) = refl

  given_seen : (xs : List (Naming Spelled)) (x : Argument) → seen see (given spelled xs x) ≡ given (plain R) (names_seen xs) x
  given_seen xs (GivenWord w) = refl
  given_seen xs (GivenObject name) = nothing_seen (Desks.seek name xs) ∙ ap (or_nothing (plain R)) (sym (seek_seen name xs))
  given_seen xs (GivenNumber z) = refl

  pub all_given_seen : (xs : List (Naming Spelled)) (args : List Argument) → map (seen see) (map (given spelled xs) args) ≡ map (given (plain R) (names_seen xs)) args
  all_given_seen xs [] = refl
  all_given_seen xs (x ∷ args) = ap (λ v. v ∷ map (seen see) (map (given spelled xs) args)) (given_seen xs x) ∙ ap (λ vs. given (plain R) (names_seen xs) x ∷ vs) (all_given_seen xs args)

-- ---- a desk within its bounds is read as it was laid out

-- what a name stands for, over ids
abbrev pub IsRef : {R : Type 0} → Option (Value R) → Type 0
IsRef None = Unit {0}
IsRef (Some (Ref r)) = Unit {0}
IsRef (Some _) = ⊥

pub record IsFit {R : Type 0} (d : Desk (Value R)) : Type 0 where
  pub names : AllByRecursion (λ (x : Naming (Value R)). (length x.name ≤ 32) × IsRef x.to) d.names
  pub awaits : AllByRecursion (λ (x : Await). (x.slot ≤ 4294967295) × IsWhat x.what) d.awaits
  pub few_names : length d.names ≤ 100
  pub few_awaits : length d.awaits ≤ 100

what_back : (R : Type 0) (w : What) → IsWhat w → Desks.what_in ((plain R).look (Desks.what_out (plain R) w)) ≡ Some w
what_back R NotSaid h = refl
what_back R Told h = refl
what_back R Released h = refl
what_back R (Bound name) h = ap (λ (b : Bool). if b then Some (Bound name) else None) (le-leb (length name) 32 h)

awaits_back : (R : Type 0) (xs : List Await) → AllByRecursion (λ (x : Await). (x.slot ≤ 4294967295) × IsWhat x.what) xs → Desks.awaits_in (plain R) (Desks.awaits_out (plain R) xs) ≡ Some xs
awaits_back R [] h = refl
awaits_back R (x ∷ xs) h =
    ap (λ (b : Bool). Desks.await_by (if b then Some x.slot else None) (Desks.what_in ((plain R).look (Desks.what_out (plain R) x.what))) (Desks.awaits_in (plain R) (Desks.awaits_out (plain R) xs))) (le-leb x.slot 4294967295 h.0.0)
    ∙ (ap (λ w. Desks.await_by (Some x.slot) w (Desks.awaits_in (plain R) (Desks.awaits_out (plain R) xs))) (what_back R x.what h.0.1)
    ∙ ap (Desks.await_by (Some x.slot) (Some x.what)) (awaits_back R xs h.1))

to_back : {R : Type 0} (o : Option (Value R)) → IsRef o → Desks.to_in ((plain R).look (Desks.to_out (plain R) o)) (Desks.to_out (plain R) o) ≡ Some o
to_back None h = refl
to_back (Some (Ref r)) h = refl
to_back (Some Nothing) h = absurd h
to_back (Some (Flag b)) h = absurd h
to_back (Some (Int z)) h = absurd h
to_back (Some (Text t)) h = absurd h
to_back (Some (Fault c)) h = absurd h
to_back (Some (Ints zs)) h = absurd h

-- awaited answers alone
lone_back : (R : Type 0) (xs : List Await) → AllByRecursion (λ (x : Await). (x.slot ≤ 4294967295) × IsWhat x.what) xs
    → Desks.desk_in (plain R) (Desks.awaits_out (plain R) xs) ≡ Some (record { names = []; awaits = xs })
lone_back R [] h = refl
lone_back R (x ∷ xs) h = ap Desks.desk_of (awaits_back R (x ∷ xs) h)

names_back : {R : Type 0} (ns : List (Naming (Value R))) (xs : List Await) → AllByRecursion (λ (x : Naming (Value R)). (length x.name ≤ 32) × IsRef x.to) ns
    → AllByRecursion (λ (x : Await). (x.slot ≤ 4294967295) × IsWhat x.what) xs
    → Desks.desk_in (plain R) (Desks.names_out (plain R) ns (Desks.awaits_out (plain R) xs)) ≡ Some (record { names = ns; awaits = xs })
names_back {R} [] xs h k = lone_back R xs k
names_back {R} (x ∷ ns) xs h k =
    ap (λ (b : Bool). Desks.named_by b x.name (Desks.to_in ((plain R).look (Desks.to_out (plain R) x.to)) (Desks.to_out (plain R) x.to)) (Desks.desk_in (plain R) (Desks.names_out (plain R) ns (Desks.awaits_out (plain R) xs))))
    (le-leb (length x.name) 32 h.0.0)
    ∙ (ap (λ to. Desks.named_by true x.name to (Desks.desk_in (plain R) (Desks.names_out (plain R) ns (Desks.awaits_out (plain R) xs)))) (to_back x.to h.0.1)
    ∙ ap (Desks.named_by true x.name (Some x.to)) (names_back ns xs h.1 k))

pub desk_back : {R : Type 0} (d : Desk (Value R)) → IsFit d → Desks.desk_shown (plain R) (Desks.desk_out (plain R) d) ≡ Some d
desk_back d h =
    ap Desks.within (names_back d.names d.awaits h.names h.awaits)
    ∙ (ap (λ (b : Bool). if b && nat_le (length d.awaits) 100 then Some d else None) (le-leb (length d.names) 100 h.few_names)
    ∙ ap (λ (b : Bool). if b then Some d else None) (le-leb (length d.awaits) 100 h.few_awaits))

-- what was read off values, seen, is what the values seen show
pub record IsReadBack {R : Type 0} (see : ℕ → R) (vs : List Spelled) (d : Desk (Value R)) : Type 0 where
  pub desk : Desk Spelled
  pub shown : Desks.desk_shown spelled vs ≡ Some desk
  pub seen_is : desk_seen see desk ≡ d

read_back : {R : Type 0} (see : ℕ → R) (vs : List Spelled) (d : Desk (Value R)) (o : Option (Desk Spelled)) → Desks.desk_in spelled vs ≡ o
    → Desks.within (maybe_desk see o) ≡ Some d → IsReadBack see vs d
read_back see vs d None e h = absurd (cc)
read_back {R} see vs d (Some c) e h = by_size (nat_le (length (names_seen see c.names)) 100 && nat_le (length c.awaits) 100) refl h
  where
    by_size : (b : Bool) → (nat_le (length (names_seen see c.names)) 100 && nat_le (length c.awaits) 100) ≡ b → (if b then Some (desk_seen see c) else None) ≡ Some d → IsReadBack see vs d
    by_size false f g = absurd (cc)
    by_size true f g = record {
      desk = c;
      shown = ap Desks.within e ∙ ap (λ (b : Bool). if b then Some c else None) (ap (λ m. nat_le m 100 && nat_le (length c.awaits) 100) (sym (length-seen see c.names)) ∙ f);
      seen_is = let same : desk_seen see c ≡ d = cc in same;
    }

pub desk_read_back : {R : Type 0} (see : ℕ → R) (vs : List Spelled) (d : Desk (Value R)) → IsFit d → map (seen see) vs ≡ Desks.desk_out (plain R) d → IsReadBack see vs d
desk_read_back {R} see vs d h e =
    read_back see vs d (Desks.desk_in spelled vs) refl (ap Desks.within (sym (desk_in_seen see vs)) ∙ (ap (Desks.desk_shown (plain R)) e ∙ desk_back d h))
