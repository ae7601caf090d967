-- Actions without their riders, and answers with them.
use Rattle.std.proofs.Common.{ℕ, zero, suc, Bool, true, false, cond, List, [], ◌∷◌, ◌++◌, ◌≡◌, ◌≢◌, ◌+◌, ◌<◌, ◌≤◌, Option, Some, None, length, refl, sym, ap, ◌∙◌, subst, arith, map, take, drop, lit≤, length-append}
use Rattle.std.specs.Prelude.{◌==◌, ◌-◌}
use Rattle.std.specs.List.{remove, AllByRecursion}
use Rattle.std.proofs.lemmas.Bool.{ne_eqb}
use Rattle.std.proofs.lemmas.List.Edits.{length-remove, get_or-remove_above}
use Rattle.std.proofs.lemmas.List.{take-map, drop-map, map-append}
use Rattle.hpx_value.specs.Ids.{Id, bare}
use Rattle.hpx_value.specs.Values.{Value, Nothing, Flag, Int, Text, Ref, Fault, Ints, Cont, State, Act, Message, refs_in, message_of, named, bare_act, bare_message}
use Rattle.hpx_value.specs.Shapes.{cont_size, IsCount, places_of, listed, IsMessage, IsAct}
use Rattle.hpx_value.specs.Hands.{Slot, Sending, Reply, Outcome, session, id_at, own_slot, hand_ids, hand_slot, answer, sent, replied}
use Rattle.hpx_value.specs.Riders.{rider_in, rider_place, less_one, unridden, plain_message, plain, rides, riders, answer_with, rode}

-- ---- the target stays

pub target_unridden : (m : Message) (p : Option ℕ) → id_at (unridden m p).ids 0 ≡ id_at m.ids 0
target_unridden m None = refl
target_unridden m (Some p) = first m.ids p
  where
    first : (ids : List Id) (p : ℕ) → id_at (remove ids (suc p)) 0 ≡ id_at ids 0
    first [] p = refl
    first (x ∷ xs) p = refl

pub plain_target : (a : Act) → id_at (plain a).ids 0 ≡ id_at a.ids 0
plain_target a = target_unridden (message_of a) (rider_place (message_of a))

-- ---- the code stays

code_unridden : (m : Message) (p : Option ℕ) → (unridden m p).code ≡ m.code
code_unridden m None = refl
code_unridden m (Some p) = refl

pub plain_code : (a : Act) → (plain a).code ≡ a.code
plain_code a = code_unridden (message_of a) (rider_place (message_of a))

-- ---- what is no answer stays

pub plain_other : (m : Message) → m.code ≢ 3 → plain_message m ≡ m
plain_other m h = ap (λ b. unridden m (cond b (rider_in m.args) None)) (ne_eqb m.code 3 h)

pub plain_sent : (s : State) (a : Act) (made : List Id) (x : Sending) → x.code ≢ 3 → plain_message (sent s a made x) ≡ sent s a made x
plain_sent s a made x h = plain_other (sent s a made x) h

-- ---- an answer without its rider

plain_answer : (hand : List Id) (x : Slot) (v : Value) (b : Bool) (place : ℕ)
    → plain_message (answer_with hand x v (riders b place)) ≡ answer hand x v
plain_answer hand x Nothing true place = refl
plain_answer hand x (Flag f) true place = refl
plain_answer hand x (Int n) true place = refl
plain_answer hand x (Text t) true place = refl
plain_answer hand x (Ref q) true place = refl
plain_answer hand x (Fault f) true place = refl
plain_answer hand x (Ints ns) true place = refl
plain_answer hand x Nothing false place = refl
plain_answer hand x (Flag f) false place = refl
plain_answer hand x (Int n) false place = refl
plain_answer hand x (Text t) false place = refl
plain_answer hand x (Ref q) false place = refl
plain_answer hand x (Fault f) false place = refl
plain_answer hand x (Ints ns) false place = refl

pub plain_rode : (s : State) (a : Act) (made : List Id) (out : Outcome) (x : Reply) → plain_message (rode s a made out x) ≡ replied s a made x
plain_rode s a made out x = plain_answer (hand_ids s a made) (hand_slot s a x.cont) x.value (rides s a out x) (length s.ids)

-- ---- an answer with its rider is well formed

answer_formed : (hand : List Id) (x : Slot) (v : Value) (b : Bool) (place : ℕ) → IsMessage (answer hand x v)
    → IsMessage (answer_with hand x v (riders b place))
answer_formed hand x v false place h = h
answer_formed hand x Nothing true place h = record { values = record { few = lit≤ tt; each = (tt, (tt, (tt, tt))) }; refs = (refl, tt); few_refs = lit≤ tt; cont = tt; ids = refl; short = lit≤ tt }
answer_formed hand x (Flag f) true place h = record { values = record { few = lit≤ tt; each = (tt, (tt, (tt, tt))) }; refs = (refl, tt); few_refs = lit≤ tt; cont = tt; ids = refl; short = lit≤ tt }
answer_formed hand x (Int n) true place h = record { values = record { few = lit≤ tt; each = (tt, (tt, (tt, tt))) }; refs = (refl, tt); few_refs = lit≤ tt; cont = tt; ids = refl; short = lit≤ tt }
answer_formed hand x (Text t) true place h =
    let v : length t ≤ 16384 = h.values.each.1.0 in
    record { values = record { few = lit≤ tt; each = (tt, (v, (tt, tt))) }; refs = (refl, tt); few_refs = lit≤ tt; cont = tt; ids = refl; short = omega (arith, v) }
answer_formed hand x (Ref q) true place h = record { values = record { few = lit≤ tt; each = (tt, (tt, (tt, tt))) }; refs = (refl, (refl, tt)); few_refs = lit≤ tt; cont = tt; ids = refl; short = lit≤ tt }
answer_formed hand x (Fault f) true place h = record { values = record { few = lit≤ tt; each = (tt, (h.values.each.1.0, (tt, tt))) }; refs = (refl, tt); few_refs = lit≤ tt; cont = tt; ids = refl; short = lit≤ tt }
answer_formed hand x (Ints ns) true place h =
    let v : length ns ≤ 4096 = h.values.each.1.0 in
    record { values = record { few = lit≤ tt; each = (tt, (v, (tt, tt))) }; refs = (refl, tt); few_refs = lit≤ tt; cont = tt; ids = refl; short = omega (arith, v) }

pub rode_formed : (s : State) (a : Act) (made : List Id) (out : Outcome) (x : Reply) → IsMessage (replied s a made x) → IsMessage (rode s a made out x)
rode_formed s a made out x h = answer_formed (hand_ids s a made) (hand_slot s a x.cont) x.value (rides s a out x) (length s.ids) h

-- ---- a well-formed action stays well formed, and its continuation leads where it led

refs_append : (xs ys : List Value) → refs_in (xs ++ ys) ≡ refs_in xs ++ refs_in ys
refs_append [] ys = refl
refs_append (Nothing ∷ xs) ys = refs_append xs ys
refs_append (Flag f ∷ xs) ys = refs_append xs ys
refs_append (Int n ∷ xs) ys = refs_append xs ys
refs_append (Text t ∷ xs) ys = refs_append xs ys
refs_append (Ref q ∷ xs) ys = ap (λ zs. q ∷ zs) (refs_append xs ys)
refs_append (Fault f ∷ xs) ys = refs_append xs ys
refs_append (Ints ns ∷ xs) ys = refs_append xs ys

-- the last of numbers that count
count_last : (n : ℕ) (ps : List ℕ) (q : ℕ) → IsCount n (ps ++ q ∷ []) → IsCount n ps × (q ≡ n + length ps)
count_last n [] q h = (tt, omega (arith, h.0))
count_last n (p ∷ ps) q h =
    let i = count_last (n + 1) ps q h.1 in ((h.0, i.0), omega (arith, i.1))

listed_less : (c : Option Cont) → length (listed (less_one c)) ≡ length (listed c)
listed_less None = refl
listed_less (Some c) = refl

size_less : (c : Option Cont) → cont_size (less_one c) ≡ cont_size c
size_less None = refl
size_less (Some c) = refl

places_less : (c : Option Cont) (n : ℕ) → IsCount (n + 1 + 1) (places_of (listed c)) → IsCount (n + 1) (places_of (listed (less_one c)))
places_less None n h = tt
places_less (Some c) n h = (omega (arith, h.0), tt)

own_less : (ids : List Id) (c : Option Cont) (p : ℕ) → suc p < length ids → IsCount (p + 1 + 1) (places_of (listed c))
    → own_slot (remove ids (suc p)) (less_one c) ≡ own_slot ids c
own_less ids None p short h = refl
own_less ids (Some c) p short h =
    let e : id_at (remove ids (suc p)) (c.place - 1) ≡ id_at ids (c.place - 1 + 1) =
    get_or-remove_above ids (suc p) session (c.place - 1) (omega (arith, h.0)) short in
    let f : c.place - 1 + 1 ≡ c.place = omega (arith, h.0) in
    ap (λ (o : Id). record { object = o; number = c.slot } ∷ []) (e ∙ ap (id_at ids) f)

module _ (code : ℕ) (x y : Value) (p : ℕ) (cont : Option Cont) (ids : List Id)
    (h : IsMessage (record { code = code; args = x ∷ y ∷ Ref (suc p) ∷ []; cont = cont; ids = ids })) where
  two : List Value
  two = x ∷ y ∷ []

  all_refs : refs_in (x ∷ y ∷ Ref (suc p) ∷ []) ≡ refs_in two ++ suc p ∷ []
  unfolding two
  all_refs = refs_append (x ∷ y ∷ []) (Ref (suc p) ∷ [])

  all_many : length (refs_in (x ∷ y ∷ Ref (suc p) ∷ [])) ≡ length (refs_in two) + 1
  unfolding two
  all_many = ap length all_refs ∙ length-append (refs_in (x ∷ y ∷ [])) (suc p ∷ [])

  counted : IsCount 1 (refs_in two) × (suc p ≡ 1 + length (refs_in two))
  unfolding two
  counted = count_last 1 (refs_in (x ∷ y ∷ [])) (suc p) (subst (IsCount 1) all_refs h.refs)

  behind : IsCount (length (refs_in two) + 1 + 1) (places_of (listed cont))
  unfolding two
  behind = subst (λ n. IsCount (n + 1) (places_of (listed cont))) all_many h.cont

  within : suc p < length ids
  unfolding two
  within = omega (arith, h.ids, all_many, counted.1)

  pub rider_formed : IsMessage (record { code = code; args = x ∷ y ∷ []; cont = less_one cont; ids = remove ids (suc p) })
  unfolding two
  rider_formed = record {
    values = record { few = lit≤ tt; each = (h.values.each.0, (h.values.each.1.0, tt)) };
    refs = counted.0;
    few_refs = omega (arith, h.few_refs, all_many);
    cont = places_less cont (length (refs_in (x ∷ y ∷ []))) behind;
    ids = omega (arith, h.ids, all_many, listed_less cont, length-remove ids (suc p) within);
    short = omega (arith, h.short, size_less cont);
  }

  pub rider_own : own_slot (remove ids (suc p)) (less_one cont) ≡ own_slot ids cont
  unfolding two
  rider_own =
      own_less ids cont p within
      (subst (λ n. IsCount n (places_of (listed cont))) (let e : length (refs_in (x ∷ y ∷ [])) + 1 + 1 ≡ p + 1 + 1 = omega (arith, counted.1) in e) behind)

formed_at : (b : Bool) (code : ℕ) (args : List Value) (cont : Option Cont) (ids : List Id)
    → IsMessage (record { code = code; args = args; cont = cont; ids = ids })
    → IsMessage (unridden (record { code = code; args = args; cont = cont; ids = ids }) (cond b (rider_in args) None))
formed_at false code args cont ids h = h
formed_at true code (x ∷ y ∷ Ref (suc p) ∷ []) cont ids h = rider_formed code x y p cont ids h
formed_at true code args cont ids h = h

own_at : (b : Bool) (code : ℕ) (args : List Value) (cont : Option Cont) (ids : List Id)
    → IsMessage (record { code = code; args = args; cont = cont; ids = ids })
    → own_slot (unridden (record { code = code; args = args; cont = cont; ids = ids }) (cond b (rider_in args) None)).ids
    (unridden (record { code = code; args = args; cont = cont; ids = ids }) (cond b (rider_in args) None)).cont ≡ own_slot ids cont
own_at false code args cont ids h = refl
own_at true code (x ∷ y ∷ Ref (suc p) ∷ []) cont ids h = rider_own code x y p cont ids h
own_at true code args cont ids h = refl

pub plain_formed : (a : Act) → IsAct a → IsAct (plain a)
plain_formed a h = formed_at (a.code == 3) a.code a.args a.cont a.ids h

pub plain_own : (a : Act) → IsAct a → own_slot (plain a).ids (plain a).cont ≡ own_slot a.ids a.cont
plain_own a h = own_at (a.code == 3) a.code a.args a.cont a.ids h

-- ---- ids without credits

bare_id_at : (ids : List Id) (p : ℕ) → map bare (remove ids (suc p)) ≡ remove (map bare ids) (suc p)
bare_id_at ids p = map-append bare (take (suc p) ids) (drop (suc (suc p)) ids) ∙ (rw (take-map bare (suc p) ids, drop-map bare (suc (suc p)) ids) refl)

bare_at : (b : Bool) (m : Message) (p : Option ℕ)
    → bare_message (unridden m p) ≡ unridden (bare_message m) p
bare_at b m None = refl
bare_at b m (Some p) = ap (λ zs. record { code = m.code; args = take 2 m.args; cont = less_one m.cont; ids = zs }) (bare_id_at m.ids p)

pub plain_bare : (a : Act) → plain (bare_act a) ≡ bare_act (plain a)
plain_bare a = ap (named a.origin a.serial) (sym (bare_at (a.code == 3) (message_of a) (rider_place (message_of a))))

-- ---- what holds of all its ids holds of those that are left

all_take : (P : Id → Type 0) (n : ℕ) (ids : List Id) → AllByRecursion P ids → AllByRecursion P (take n ids)
all_take P zero ids h = tt
all_take P (suc n) [] h = tt
all_take P (suc n) (x ∷ xs) h = (h.0, all_take P n xs h.1)

all_drop : (P : Id → Type 0) (n : ℕ) (ids : List Id) → AllByRecursion P ids → AllByRecursion P (drop n ids)
all_drop P zero ids h = h
all_drop P (suc n) [] h = tt
all_drop P (suc n) (x ∷ xs) h = all_drop P n xs h.1

all_append : (P : Id → Type 0) (xs ys : List Id) → AllByRecursion P xs → AllByRecursion P ys → AllByRecursion P (xs ++ ys)
all_append P [] ys h i = i
all_append P (x ∷ xs) ys h i = (h.0, all_append P xs ys h.1 i)

unridden_all : (P : Id → Type 0) (m : Message) (p : Option ℕ) → AllByRecursion P m.ids → AllByRecursion P (unridden m p).ids
unridden_all P m None h = h
unridden_all P m (Some p) h =
    all_append P (take (suc p) m.ids) (drop (suc (suc p)) m.ids) (all_take P (suc p) m.ids h) (all_drop P (suc (suc p)) m.ids h)

pub plain_all : (P : Id → Type 0) (a : Act) → AllByRecursion P a.ids → AllByRecursion P (plain a).ids
plain_all P a h = unridden_all P (message_of a) (rider_place (message_of a)) h
