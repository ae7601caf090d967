-- Objects at which nobody waits: tables, components, localities and numbers. A call that is no NEW leaves each of its kind, and is answered.
use Rattle.std.specs.Prelude.{ℕ, ℤ, pos, negsuc, Bool, true, false, nat_le, List, ◌≡◌, ◌==◌, ◌+ℤ◌, Option, Some, None, length, refl}
use Rattle.std.proofs.lemmas.Bool.{cond_both}
use Rattle.hpx_calls.specs.Values.{plain, Look, Nothing, Ref, Fault}
use Rattle.hpx_calls.specs.declared.request.Request.{Request}
use Rattle.hpx_calls.specs.declared.request.Request.TheVariants.{Move, Where, New, Register, Resolve, Unregister, Keys, Count, Add, Query, Reset}
use Rattle.hpx_calls.specs.Requests.{asks_move, asks_register, is_key}
use Rattle.hpx_calls.specs.declared.content.Content.{Content}
use Rattle.hpx_calls.specs.declared.content.Content.TheVariants.{Table, Maker, Size, Number}
use Rattle.hpx_calls.specs.declared.content.Pair.{Pair}
use Rattle.hpx_calls.specs.declared.effect.Effect.{Effect}
use Rattle.hpx_calls.specs.declared.effect.Effect.TheVariants.{Answers, Moves}
use Rattle.hpx_calls.specs.declared.effect.Called.{Called}
use Rattle.hpx_calls.specs.Tables.{on_table, on_maker, on_size, on_number, on_content, on_object, registers, resolves, unregisters, found, fits, leaves, is_movable}
use Rattle.app_console.specs.Plain.{Who, Datum}

abbrev pub is_calm : Content Datum → Bool
is_calm (Table pairs) = true
is_calm Maker = true
is_calm (Size n) = true
is_calm (Number z) = true
is_calm _ = false

abbrev pub is_maker : Content Datum → Bool
is_maker Maker = true
is_maker _ = false

-- what is asked is no NEW
abbrev pub is_mild : Request Datum → Bool
is_mild (New name vs) = false
is_mild _ = true

-- the call is answered, and nothing is made
abbrev pub IsQuiet : Effect Datum → Type 0
IsQuiet (Answers v) = Unit {0}
IsQuiet (Moves to) = Unit {0}
IsQuiet _ = ⊥

pub record StaysCalm (x : Content Datum) (c : Called Datum) : Type 0 where
  pub calm : is_calm c.content ≡ true
  pub maker : is_maker c.content ≡ is_maker x
  pub quiet : IsQuiet c.effect

table_stays : (old new : List (Pair Datum)) (v : Datum) → StaysCalm (Table old) (leaves (Table new) (Answers v))
table_stays old new v = record { calm = refl; maker = refl; quiet = tt }

registers_stays : (xs : List (Pair Datum)) (key : List ℕ) (to : Datum) (o : Option Datum) → StaysCalm (Table xs) (registers (plain Who) xs key to o)
registers_stays xs key to (Some old) = table_stays xs xs (Fault 2)
registers_stays xs key to None = cond_both (length xs == 100) _ _ (StaysCalm (Table xs)) (λ e. table_stays xs xs (Fault 10)) (λ e. table_stays xs _ Nothing)

resolves_stays : (xs : List (Pair Datum)) (o : Option Datum) → StaysCalm (Table xs) (resolves (plain Who) xs o)
resolves_stays xs (Some to) = table_stays xs xs to
resolves_stays xs None = table_stays xs xs (Fault 3)

unregisters_stays : (xs : List (Pair Datum)) (key : List ℕ) (o : Option Datum) → StaysCalm (Table xs) (unregisters (plain Who) xs key o)
unregisters_stays xs key (Some to) = table_stays xs _ Nothing
unregisters_stays xs key None = table_stays xs xs (Fault 3)

table_calm : (xs : List (Pair Datum)) (r : Request Datum) → StaysCalm (Table xs) (on_table (plain Who) xs r)
table_calm xs (Register key to) = registers_stays xs key to (found key xs)
table_calm xs (Resolve key) = resolves_stays xs (found key xs)
table_calm xs (Unregister key) = unregisters_stays xs key (found key xs)
table_calm xs Keys = record { calm = refl; maker = refl; quiet = tt }
table_calm xs _ = record { calm = refl; maker = refl; quiet = tt }

maker_calm : (r : Request Datum) → is_mild r ≡ true → StaysCalm Maker (on_maker (plain Who) r)
maker_calm (New name vs) h = cc
maker_calm _ h = record { calm = refl; maker = refl; quiet = tt }

size_calm : (n : ℕ) (r : Request Datum) → StaysCalm (Size n) (on_size (plain Who) n r)
size_calm n Count = record { calm = refl; maker = refl; quiet = tt }
size_calm n _ = record { calm = refl; maker = refl; quiet = tt }

number_calm : (z : ℤ) (r : Request Datum) → StaysCalm (Number z) (on_number (plain Who) z r)
number_calm z (Add y) = cond_both (fits (z +ℤ y)) _ _ (StaysCalm (Number z)) (λ e. record { calm = refl; maker = refl; quiet = tt }) (λ e. record { calm = refl; maker = refl; quiet = tt })
number_calm z Query = record { calm = refl; maker = refl; quiet = tt }
number_calm z Reset = record { calm = refl; maker = refl; quiet = tt }
number_calm z _ = record { calm = refl; maker = refl; quiet = tt }

content_calm : (w : ℕ) (x : Content Datum) (r : Request Datum) → is_calm x ≡ true → is_mild r ≡ true → StaysCalm x (on_content (plain Who) w x r)
content_calm w (Table pairs) r h k = table_calm pairs r
content_calm w Maker r h k = maker_calm r k
content_calm w (Size n) r h k = size_calm n r
content_calm w (Number z) r h k = number_calm z r
content_calm w _ r h k = cc

-- a call that is no NEW
pub object_calm : (here kind w : ℕ) (x : Content Datum) (r : Request Datum) → is_calm x ≡ true → is_mild r ≡ true → StaysCalm x (on_object (plain Who) here kind w x r)
object_calm here kind w x Where h k =
    cond_both (nat_le 16 kind) _ _ (StaysCalm x) (λ e. record { calm = h; maker = refl; quiet = tt }) (λ e. record { calm = h; maker = refl; quiet = tt })
object_calm here kind w x (Move to) h k =
    cond_both (is_movable kind) _ _ (StaysCalm x) (λ e. record { calm = h; maker = refl; quiet = tt }) (λ e. record { calm = h; maker = refl; quiet = tt })
object_calm here kind w x r h k = content_calm w x r h k

-- ---- what is asked by `move` and `share`

pub move_mild : (z : ℤ) → is_mild (asks_move z) ≡ true
move_mild (pos to) = cond_both (nat_le to 63) _ _ (λ r. is_mild r ≡ true) (λ e. refl) (λ e. refl)
move_mild (negsuc n) = refl

pub share_mild : (key : List ℕ) (v : Datum) (l : Look) → is_mild (asks_register key v l) ≡ true
share_mild key v (Ref r) = cond_both (is_key key) _ _ (λ r. is_mild r ≡ true) (λ e. refl) (λ e. refl)
share_mild key v _ = refl
