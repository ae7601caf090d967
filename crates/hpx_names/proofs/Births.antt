-- What NEW makes is at its birth.
use Rattle.std.specs.Prelude.{ℕ, pos, negsuc, Bool, true, false, nat_le, List, [], ◌∷◌, ◌≡◌, ◌≤◌, ◌&&◌, Option, Some, None, codes, length, refl, if◌then◌else◌}
use Rattle.std.proofs.Common.{ap, sym, ◌∙◌, subst}
use Rattle.std.specs.Str.{bytes_eq}
use Rattle.std.proofs.lemmas.Bool.{leb-true, and_parts}
use Rattle.hpx_value.specs.Ids.{Id}
use Rattle.hpx_value.specs.Hands.{Slot}
use Rattle.hpx_calls.specs.Values.{Value, Sort, Look, Nothing, Flag, Int, Text, Ref, Fault, Ints}
use Rattle.hpx_calls.specs.declared.content.Content.{Content}
use Rattle.hpx_calls.specs.declared.content.Content.TheVariants.{Maker, Number, Row, Promise, Channel, Latch, Barrier}
use Rattle.hpx_calls.specs.declared.request.Request.TheVariants.{New}
use Rattle.hpx_calls.specs.declared.effect.Effect.{Effect}
use Rattle.hpx_calls.specs.declared.effect.Effect.TheVariants.{Makes}
use Rattle.hpx_calls.specs.declared.effect.Called.{Called}
use Rattle.hpx_calls.specs.Tables.{leaves, refuses, makes, makes_bare, makes_at, makes_counted, makes_row, with_one}
use Rattle.hpx_calls.specs.Outcomes.{kind_of}
use Rattle.hpx_calls.specs.Histories.{Setting, Call, called_on, run}
use Rattle.hpx_calls.specs.Ids.{IsBirth}
use Rattle.hpx_calls.proofs.Steps.{call}
use Rattle.hpx_names.proofs.Maps.{maker_run}

abbrev made_in : Effect (Value Id) → Content (Value Id)
made_in (Makes x) = x
made_in _ = Maker

abbrev IsBorn : ℕ → Called (Value Id) → Type 0
IsBorn n c = (x : Content (Value Id)) → c.effect ≡ Makes x → IsBirth n (kind_of x) x

made_born : (n : ℕ) (y : Content (Value Id)) → IsBirth n (kind_of y) y → IsBorn n (leaves Maker (Makes y))
made_born n y h x f =
    let same : y ≡ x = ap made_in f in
    let P : Content (Value Id) → Type 0 = λ z. IsBirth n (kind_of z) z in
    subst P same h

wrong_born : (n : ℕ) (k : Sort (Value Id)) (code : ℕ) → IsBorn n (refuses k Maker code)
wrong_born n k code x e = absurd (cc)

born_if : (n : ℕ) (b : Bool) (c d : Called (Value Id)) → (b ≡ true → IsBorn n c) → (b ≡ false → IsBorn n d) → IsBorn n (if b then c else d)
born_if n true c d p q = p refl
born_if n false c d p q = q refl

bare_born : (n : ℕ) (k : Sort (Value Id)) (y : Content (Value Id)) (vs : List (Value Id)) → IsBirth n (kind_of y) y → IsBorn n (makes_bare k y vs)
bare_born n k y [] h = made_born n y h
bare_born n k y (v ∷ vs) h = wrong_born n k 11

counted_born : (n : ℕ) (k : Sort (Value Id)) (most : ℕ) (f : ℕ → Content (Value Id)) (l : Look) → ((m : ℕ) → 1 ≤ m → m ≤ most → IsBirth n (kind_of (f m)) (f m))
    → IsBorn n (makes_counted k most f l)
counted_born n k most f (Int (pos m)) h = by_test (nat_le m most) refl
  where
    by_test : (b : Bool) → nat_le m most ≡ b → IsBorn n (makes_at k f (if b then Some m else None))
    by_test true e =
        born_if n (nat_le 1 m) (leaves Maker (Makes (f m))) (refuses k Maker 11) (λ d. made_born n (f m) (h m (leb-true 1 m d) (leb-true m most e))) (λ d. wrong_born n k 11)
    by_test false e = wrong_born n k 11
counted_born n k most f (Int (negsuc m)) h = wrong_born n k 11
counted_born n k most f Nothing h = wrong_born n k 11
counted_born n k most f (Flag b) h = wrong_born n k 11
counted_born n k most f (Text t) h = wrong_born n k 11
counted_born n k most f (Ref r) h = wrong_born n k 11
counted_born n k most f (Fault c) h = wrong_born n k 11
counted_born n k most f (Ints zs) h = wrong_born n k 11

row_born : (n : ℕ) (k : Sort (Value Id)) (l : Look) → IsBorn n (makes_row k l)
row_born n k (Ints zs) =
    born_if n (nat_le 1 (length zs) && nat_le (length zs) 1024) (leaves Maker (Makes (Row zs))) (refuses k Maker 11)
    (λ e. let both = and_parts (nat_le 1 (length zs)) (nat_le (length zs) 1024) e in
    made_born n (Row zs) (refl, leb-true 1 (length zs) both.0, leb-true (length zs) 1024 both.1)) (λ e. wrong_born n k 11)
row_born n k (Int z) = wrong_born n k 11
row_born n k Nothing = wrong_born n k 11
row_born n k (Flag b) = wrong_born n k 11
row_born n k (Text t) = wrong_born n k 11
row_born n k (Ref r) = wrong_born n k 11
row_born n k (Fault c) = wrong_born n k 11

one_born : (n : ℕ) (k : Sort (Value Id)) (f : Look → Called (Value Id)) (vs : List (Value Id)) → ((l : Look) → IsBorn n (f l)) → IsBorn n (with_one k f vs)
one_born n k f [] h = wrong_born n k 11
one_born n k f (v ∷ []) h = h (k.look v)
one_born n k f (v ∷ u ∷ vs) h = wrong_born n k 11

makes_born : (n : ℕ) (k : Sort (Value Id)) (name : List ℕ) (vs : List (Value Id)) → IsBorn n (makes k name vs)
makes_born n k name vs =
    born_if n (bytes_eq name (codes "accumulator")) _ _ (λ e. bare_born n k (Number (pos 0)) vs refl)
    (λ e. born_if n (bytes_eq name (codes "partition")) _ _ (λ e. one_born n k (makes_row k) vs (row_born n k))
    (λ e. born_if n (bytes_eq name (codes "promise")) _ _ (λ e. bare_born n k (Promise None) vs (refl, refl))
    (λ e. born_if n (bytes_eq name (codes "channel")) _ _ (λ e. bare_born n k (Channel false []) vs (refl, refl, refl))
    (λ e. born_if n (bytes_eq name (codes "latch")) _ _ (λ e. one_born n k (makes_counted k 1000000 Latch) vs (λ l. counted_born n k 1000000 Latch l (λ m some most. (refl, most))))
    (λ e. born_if n (bytes_eq name (codes "barrier")) _ _ (λ e. one_born n k (makes_counted k 100 Barrier) vs (λ l. counted_born n k 100 Barrier l (λ m some most. (refl, some, most))))
    (λ e. wrong_born n k 4))))))

pub new_born : (n : ℕ) (g : Setting (Value Id)) (h : List (Call (Value Id) Slot)) (name : List ℕ) (vs : List (Value Id)) (w : Option Slot) (x : Content (Value Id))
    → (called_on g (run g Maker h) (call (New name vs) w)).effect ≡ Makes x → IsBirth n (kind_of x) x
new_born n g h name vs None x e = makes_born n g.sort name vs x (sym (ap (λ o. (called_on g o (call (New name vs) None)).effect) (maker_run g h)) ∙ e)
new_born n g h name vs (Some w) x e = makes_born n g.sort name vs x (sym (ap (λ o. (called_on g o (call (New name vs) (Some w))).effect) (maker_run g h)) ∙ e)
