-- The session's names are the plain space's, over ids.
use Rattle.std.specs.List.{AllByRecursion}
use Rattle.std.specs.Option.{option_map}
use Rattle.std.specs.Str.{bytes_eq}
use Rattle.std.proofs.Common.{ℕ, suc, Bool, true, false, cond, eqb, List, [], ◌∷◌, ◌++◌, ◌≡◌, ◌+◌, ◌≤◌, ◌<◌, Option, Some, None, refl, sym, ap, ◌∙◌, subst, length, map, arith}
use Rattle.std.proofs.lemmas.Bool.{cond_both}
use Rattle.std.proofs.lemmas.Slice.Eq.{bytes_eq-Decides}
use Rattle.hpx_value.specs.Ids.{Id}
use Rattle.hpx_calls.specs.Values.{Value, Nothing, Flag, Int, Text, Ref, Fault, Ints, plain, mapped}
use Rattle.app_console.specs.Types.{Naming, What, NotSaid, Told, Released, Bound, Await, Unknown, Argument, GivenWord, GivenObject, GivenNumber}
use Rattle.app_console.specs.Desks
use Rattle.app_console.specs.Session.{given, or_nothing}
use Rattle.app_console.specs.Commands.{answer_text}
use Rattle.app_console.proofs.Alikes.{IsPlainWhat}
use Rattle.app_console.proofs.Namings.{IsWhat}
use Rattle.app_console.proofs.Seen.{IsRef, IsFit}

module _ {Q R : Type 0} (f : Q → R) where
  abbrev pub naming_over : Naming (Value Q) → Naming (Value R)
  naming_over x = record { name = x.name; to = option_map (mapped f) x.to }

  abbrev pub names_over : List (Naming (Value Q)) → List (Naming (Value R))
  names_over [] = []
  names_over (x ∷ xs) = naming_over x ∷ names_over xs

  pub length-over : (xs : List (Naming (Value Q))) → length (names_over xs) ≡ length xs
  length-over [] = refl
  length-over (x ∷ xs) = ap suc (length-over xs)

  option_if : (b : Bool) (x y : Option (Value Q)) → cond b (option_map (mapped f) x) (option_map (mapped f) y) ≡ option_map (mapped f) (cond b x y)
  option_if true x y = refl
  option_if false x y = refl

  pub seek_over : (name : List ℕ) (xs : List (Naming (Value Q))) → Desks.seek name (names_over xs) ≡ option_map (mapped f) (Desks.seek name xs)
  seek_over name [] = refl
  seek_over name (x ∷ xs) =
      ap (λ o. cond (bytes_eq name x.name) (option_map (mapped f) x.to) o) (seek_over name xs) ∙ option_if (bytes_eq name x.name) x.to (Desks.seek name xs)

  names_if : (b : Bool) (xs ys : List (Naming (Value Q))) → cond b (names_over xs) (names_over ys) ≡ names_over (cond b xs ys)
  names_if true xs ys = refl
  names_if false xs ys = refl

  pub without_over : (name : List ℕ) (xs : List (Naming (Value Q))) → Desks.without name (names_over xs) ≡ names_over (Desks.without name xs)
  without_over name [] = refl
  without_over name (x ∷ xs) =
      ap (λ ys. cond (bytes_eq name x.name) (names_over xs) (naming_over x ∷ ys)) (without_over name xs) ∙ names_if (bytes_eq name x.name) xs (x ∷ Desks.without name xs)

  more_over : (xs : List (Naming (Value Q))) (x : Naming (Value Q)) → names_over (xs ++ x ∷ []) ≡ names_over xs ++ naming_over x ∷ []
  more_over [] x = refl
  more_over (y ∷ xs) x = ap (λ ys. naming_over y ∷ ys) (more_over xs x)

  bound_over : (name : List ℕ) (v : Value Q) (xs : List (Naming (Value Q)))
      → Desks.bound (plain R) ((plain R).look (mapped f v)) name (mapped f v) (names_over xs) ≡ names_over (Desks.bound (plain Q) ((plain Q).look v) name v xs)
  bound_over name (Ref q) xs =
      ap (λ ys. ys ++ record { name = name; to = Some (Ref (f q)) } ∷ []) (without_over name xs) ∙ sym (more_over (Desks.without name xs) (record { name = name; to = Some (Ref q) }))
  bound_over name Nothing xs = without_over name xs
  bound_over name (Flag b) xs = without_over name xs
  bound_over name (Int z) xs = without_over name xs
  bound_over name (Text t) xs = without_over name xs
  bound_over name (Fault c) xs = without_over name xs
  bound_over name (Ints zs) xs = without_over name xs

  pub answered_over : (what : What) (v : Value Q) (xs : List (Naming (Value Q))) → Desks.answered (plain R) what (mapped f v) (names_over xs) ≡ names_over (Desks.answered (plain Q) what v xs)
  answered_over NotSaid v xs = refl
  answered_over Told v xs = refl
  answered_over Released v xs = refl
  answered_over (Bound name) v xs = bound_over name v xs

  nothing_over : (o : Option (Value Q)) → or_nothing (plain R) (option_map (mapped f) o) ≡ mapped f (or_nothing (plain Q) o)
  nothing_over None = refl
  nothing_over (Some v) = refl

  given_over : (xs : List (Naming (Value Q))) (x : Argument) → given (plain R) (names_over xs) x ≡ mapped f (given (plain Q) xs x)
  given_over xs (GivenWord w) = refl
  given_over xs (GivenObject name) = ap (or_nothing (plain R)) (seek_over name xs) ∙ nothing_over (Desks.seek name xs)
  given_over xs (GivenNumber z) = refl

  pub all_given_over : (xs : List (Naming (Value Q))) (args : List Argument) → map (given (plain R) (names_over xs)) args ≡ map (mapped f) (map (given (plain Q) xs) args)
  all_given_over xs [] = refl
  all_given_over xs (x ∷ args) = ap (λ v. v ∷ map (given (plain R) (names_over xs)) args) (given_over xs x) ∙ ap (λ vs. mapped f (given (plain Q) xs x) ∷ vs) (all_given_over xs args)

  pub text_over : (what : What) (v : Value Q) → answer_text what (mapped f v) ≡ answer_text what v
  text_over NotSaid (Fault c) = refl
  text_over Told (Fault c) = refl
  text_over Released (Fault c) = refl
  text_over (Bound name) (Fault c) = refl
  text_over NotSaid _ = refl
  text_over Told Nothing = refl
  text_over Told (Flag b) = refl
  text_over Told (Int z) = refl
  text_over Told (Text t) = refl
  text_over Told (Ref r) = refl
  text_over Told (Ints zs) = refl
  text_over Released _ = refl
  text_over (Bound name) _ = refl

-- ---- a new name

same_bytes : (w : List ℕ) → bytes_eq w w ≡ true
same_bytes w = (bytes_eq-Decides w w).1 refl

status_unknown : {V : Type 0} (kind : V → ℕ) (name : List ℕ) (x : Naming V) (xs : List (Naming V)) → Desks.status_in kind (x ∷ xs) name ≡ Unknown
    → (bytes_eq name x.name ≡ false) × (Desks.status_in kind xs name ≡ Unknown)
status_unknown kind name x xs e = by_name (bytes_eq name x.name) refl e
  where
    by_to : (o : Option _) → Desks.status_by kind o ≡ Unknown → ⊥
    by_to None f = cc
    by_to (Some v) f = cc

    by_name : (b : Bool) → bytes_eq name x.name ≡ b → cond b (Desks.status_by kind x.to) (Desks.status_in kind xs name) ≡ Unknown
        → (bytes_eq name x.name ≡ false) × (Desks.status_in kind xs name ≡ Unknown)
    by_name true f g = absurd (by_to x.to g)
    by_name false f g = (f, g)

-- it is not among the names
without_new : {V : Type 0} (kind : V → ℕ) (name : List ℕ) (xs : List (Naming V)) → Desks.status_in kind xs name ≡ Unknown → Desks.without name xs ≡ xs
without_new kind name [] e = refl
without_new kind name (x ∷ xs) e =
    let parts = status_unknown kind name x xs e in ap (λ b. cond b xs (x ∷ Desks.without name xs)) parts.0 ∙ ap (λ ys. x ∷ ys) (without_new kind name xs parts.1)

-- and stands last while it is pending
without_last : {V : Type 0} (kind : V → ℕ) (name : List ℕ) (xs : List (Naming V)) → Desks.status_in kind xs name ≡ Unknown
    → Desks.without name (xs ++ record { name = name; to = None } ∷ []) ≡ xs
without_last kind name [] e = ap (λ b. cond b [] (record { name = name; to = None } ∷ [])) (same_bytes name)
without_last {V} kind name (x ∷ xs) e =
    let parts = status_unknown kind name x xs e in
    let y : Naming V = record { name = name; to = None } in
    ap (λ b. cond b (xs ++ y ∷ []) (x ∷ Desks.without name (xs ++ y ∷ []))) parts.0 ∙ ap (λ ys. x ∷ ys) (without_last kind name xs parts.1)

-- a name that is to be bound is unknown
abbrev pub IsNew : {V : Type 0} → (V → ℕ) → List (Naming V) → What → Type 0
IsNew kind xs (Bound name) = Desks.status_in kind xs name ≡ Unknown
IsNew kind xs _ = Unit {0}

bound_opened : {R : Type 0} (kind : Value R → ℕ) (name : List ℕ) (v : Value R) (xs : List (Naming (Value R))) → Desks.status_in kind xs name ≡ Unknown
    → Desks.bound (plain R) ((plain R).look v) name v (xs ++ record { name = name; to = None } ∷ []) ≡ Desks.bound (plain R) ((plain R).look v) name v xs
bound_opened kind name (Ref r) xs e =
    ap (λ ys. ys ++ record { name = name; to = Some (Ref r) } ∷ []) (without_last kind name xs e ∙ sym (without_new kind name xs e))
bound_opened kind name Nothing xs e = without_last kind name xs e ∙ sym (without_new kind name xs e)
bound_opened kind name (Flag b) xs e = without_last kind name xs e ∙ sym (without_new kind name xs e)
bound_opened kind name (Int z) xs e = without_last kind name xs e ∙ sym (without_new kind name xs e)
bound_opened kind name (Text t) xs e = without_last kind name xs e ∙ sym (without_new kind name xs e)
bound_opened kind name (Fault c) xs e = without_last kind name xs e ∙ sym (without_new kind name xs e)
bound_opened kind name (Ints zs) xs e = without_last kind name xs e ∙ sym (without_new kind name xs e)

-- an answer binds a name that was opened as one that was not
pub opened_answered : {R : Type 0} (kind : Value R → ℕ) (what : What) (v : Value R) (xs : List (Naming (Value R))) → IsNew kind xs what
    → Desks.answered (plain R) what v (Desks.opened what xs) ≡ Desks.answered (plain R) what v xs
opened_answered kind NotSaid v xs h = refl
opened_answered kind Told v xs h = refl
opened_answered kind Released v xs h = refl
opened_answered kind (Bound name) v xs h = bound_opened kind name v xs h

-- ---- bounds

abbrev pub IsFitName : {R : Type 0} → Naming (Value R) → Type 0
IsFitName x = (length x.name ≤ 32) × IsRef x.to

abbrev pub IsFitAwait : Await → Type 0
IsFitAwait x = (x.slot ≤ 4294967295) × IsWhat x.what

all_end : {X : Type 0} (P : X → Type 0) (xs : List X) (x : X) → AllByRecursion P xs → P x → AllByRecursion P (xs ++ x ∷ [])
all_end P [] x h k = (k, tt)
all_end P (y ∷ xs) x h k = (h.0, all_end P xs x h.1 k)

length_end : {X : Type 0} (xs : List X) (x : X) → length (xs ++ x ∷ []) ≡ length xs + 1
length_end [] x = refl
length_end (y ∷ xs) x = let e = length_end xs x in omega arith

pub without_fit : {R : Type 0} (name : List ℕ) (xs : List (Naming (Value R))) → AllByRecursion IsFitName xs → AllByRecursion IsFitName (Desks.without name xs)
without_fit name [] h = tt
without_fit name (x ∷ xs) h = cond_both (bytes_eq name x.name) _ _ (AllByRecursion IsFitName) (λ e. h.1) (λ e. (h.0, without_fit name xs h.1))

pub without_few : {V : Type 0} (name : List ℕ) (xs : List (Naming V)) → length (Desks.without name xs) ≤ length xs
without_few name [] = omega arith
without_few name (x ∷ xs) =
    let rest = without_few name xs in cond_both (bytes_eq name x.name) _ _ (λ ys. length ys ≤ suc (length xs)) (λ e. omega arith) (λ e. omega arith)

-- what answers leave is within the bounds
pub answered_each : {R : Type 0} (what : What) (v : Value R) (xs : List (Naming (Value R))) → IsWhat what → AllByRecursion IsFitName xs → AllByRecursion IsFitName (Desks.answered (plain R) what v xs)
answered_each NotSaid v xs w h = h
answered_each Told v xs w h = h
answered_each Released v xs w h = h
answered_each (Bound name) (Ref r) xs w h = all_end IsFitName (Desks.without name xs) (record { name = name; to = Some (Ref r) }) (without_fit name xs h) (w, tt)
answered_each (Bound name) Nothing xs w h = without_fit name xs h
answered_each (Bound name) (Flag b) xs w h = without_fit name xs h
answered_each (Bound name) (Int z) xs w h = without_fit name xs h
answered_each (Bound name) (Text t) xs w h = without_fit name xs h
answered_each (Bound name) (Fault c) xs w h = without_fit name xs h
answered_each (Bound name) (Ints zs) xs w h = without_fit name xs h

-- one name more at most
abbrev pub HasNameRoom : {V : Type 0} → List (Naming V) → What → Type 0
HasNameRoom xs (Bound name) = length xs < 100
HasNameRoom xs _ = length xs ≤ 100

pub answered_few : {R : Type 0} (what : What) (v : Value R) (xs : List (Naming (Value R))) → HasNameRoom xs what → length (Desks.answered (plain R) what v xs) ≤ 100
answered_few NotSaid v xs h = h
answered_few Told v xs h = h
answered_few Released v xs h = h
answered_few (Bound name) (Ref r) xs h =
    let l = without_few name xs in let e = length_end (Desks.without name xs) (record { name = name; to = Some (Ref r) }) in omega arith
answered_few (Bound name) Nothing xs h = let l = without_few name xs in omega arith
answered_few (Bound name) (Flag b) xs h = let l = without_few name xs in omega arith
answered_few (Bound name) (Int z) xs h = let l = without_few name xs in omega arith
answered_few (Bound name) (Text t) xs h = let l = without_few name xs in omega arith
answered_few (Bound name) (Fault c) xs h = let l = without_few name xs in omega arith
answered_few (Bound name) (Ints zs) xs h = let l = without_few name xs in omega arith

pub opened_each : {R : Type 0} (what : What) (xs : List (Naming (Value R))) → IsWhat what → AllByRecursion IsFitName xs → AllByRecursion IsFitName (Desks.opened what xs)
opened_each NotSaid xs w h = h
opened_each Told xs w h = h
opened_each Released xs w h = h
opened_each (Bound name) xs w h = all_end IsFitName xs (record { name = name; to = None }) h (w, tt)

pub opened_few : {V : Type 0} (what : What) (xs : List (Naming V)) → HasNameRoom xs what → length (Desks.opened what xs) ≤ 100
opened_few NotSaid xs h = h
opened_few Told xs h = h
opened_few Released xs h = h
opened_few (Bound name) xs h = let e = length_end xs (record { name = name; to = None }) in omega arith

pub opened_plain : {V : Type 0} (what : What) (xs : List (Naming V)) → IsPlainWhat what → Desks.opened what xs ≡ xs
opened_plain NotSaid xs h = refl
opened_plain Told xs h = refl
opened_plain Released xs h = refl
opened_plain (Bound name) xs h = absurd h

erased_each : (slot : ℕ) (xs : List Await) → AllByRecursion IsFitAwait xs → AllByRecursion IsFitAwait (Desks.erased slot xs)
erased_each slot [] h = tt
erased_each slot (x ∷ xs) h = cond_both (eqb slot x.slot) _ _ (AllByRecursion IsFitAwait) (λ e. h.1) (λ e. (h.0, erased_each slot xs h.1))

erased_few : (slot : ℕ) (xs : List Await) → length (Desks.erased slot xs) ≤ length xs
erased_few slot [] = omega arith
erased_few slot (x ∷ xs) = let rest = erased_few slot xs in cond_both (eqb slot x.slot) _ _ (λ ys. length ys ≤ suc (length xs)) (λ e. omega arith) (λ e. omega arith)

-- an answer that came leaves a desk within its bounds
pub taken_fit : {R : Type 0} (slot : ℕ) (what : What) (v : Value R) (names : List (Naming (Value R))) (aw : List Await) → IsWhat what → length (Desks.answered (plain R) what v names) ≤ 100
    → IsFit (record { names = names; awaits = aw }) → IsFit (record { names = Desks.answered (plain R) what v names; awaits = Desks.erased slot aw })
taken_fit slot what v names aw w few h = record {
  names = answered_each what v names w h.names;
  awaits = erased_each slot aw h.awaits;
  few_names = few;
  few_awaits = let f = h.few_awaits in let l = erased_few slot aw in omega arith;
}

pub what_held : (slot : ℕ) (xs : List Await) (what : What) → AllByRecursion IsFitAwait xs → Desks.held_at slot xs ≡ Some what → IsWhat what
what_held slot [] what h e = cc
what_held slot (x ∷ xs) what h e = by_slot (eqb slot x.slot) e (what_held slot xs what h.1)
  where
    by_slot : (b : Bool) → cond b (Some x.what) (Desks.held_at slot xs) ≡ Some what → (Desks.held_at slot xs ≡ Some what → IsWhat what) → IsWhat what
    by_slot true f g = let same : x.what ≡ what = cc in subst IsWhat same h.0.1
    by_slot false f g = g f

-- ---- what a line is judged by

abbrev pub kind_over : Value Id → ℕ
kind_over (Ref id) = id.kind
kind_over _ = 0
