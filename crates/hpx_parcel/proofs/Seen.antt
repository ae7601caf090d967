-- What is looked at, and not kept, is a part of what is read.
use Rattle.std.proofs.Common.{◌≡◌, ◌≢◌, ℕ, zero, suc, ◌+◌, ◌-◌, ◌*◌, ◌<◌, ◌≤◌, ◌&&◌, Bool, true, false, cond, ltb, leb, eqb, List, [], ◌∷◌, ◌++◌, length, get_or, drop, Option, Some, None, Result, Ok, Err, refl, sym, ap, subst, ◌∙◌, arith, inl, inr}
use Rattle.std.specs.Prelude.{ℤ, pos, negsuc, max, is_some}
use Rattle.std.specs.Int.{w64, cast_signed}
use Rattle.std.proofs.lemmas.Bool.{cases_lt, lt-ltb, le-ltb, leb-true, le-leb, eq-eqb, ne_eqb, and_parts, and_from}
use Rattle.std.proofs.lemmas.List.{length-drop, drop-drop}
use Rattle.std.proofs.Math.Seq.{drop-cons}
use Rattle.byteorder.specs.Endian.{big_number}
use Rattle.hpx_value.specs.Values.{named}
use Rattle.hpx_value.specs.Hands.{id_at}
use Rattle.hpx_parcel.specs.Types.{Id, Value, Nothing, Flag, Int, Text, Ref, Fault, Ints, Cont, State, Act, Message, BadValue}
use Rattle.hpx_parcel.specs.Reading.{◌>>=◌, Tells, Stop, ActRule, Named, Movable, Applied, Moves, id_at as gid_at, stop_at, cut_off, next_byte, number_at, count_at, credit_fits, target_rule, takes_code, takes_args, are_move_args, int_at, text_at, numbers_at, ints_at, plain_at, value_at, id_list, each_at, values_at, slot_at, cont_at, ended_at, call_at, message_at, long_act_at, act_at, conts_at, kept_at, long_state_at, state_at}
use Rattle.hpx_parcel.specs.Outlines.{Glance, takes_place, place_by, target_of, place_of, place_in, is_movable, move_to, most_home, last_place, glance, plain_part, value_part, values_part, list_part, message_part, act_part, conts_part, state_part}
use Rattle.hpx_parcel.proofs.FieldLaws.{IsBytes, bind_ok, done, ok_is}
use Rattle.hpx_parcel.proofs.ActLaws.{FirstPasses, IsSpelled, act_takes}

-- ---- parts

-- the part of what was read
abbrev pub shown : {A B : Type 0} → (A → B) → Result A Stop → Result B Stop
shown part (Ok x) = Ok (part x)
shown part (Err s) = Err s

pub shown_ok : {A B : Type 0} (part : A → B) (r : Result A Stop) (y : B) → shown part r ≡ Ok y → (x : A) × (r ≡ Ok x) × (part x ≡ y)
shown_ok part (Ok x) y e = (x, refl, ok_is (part x) y e)
shown_ok part (Err s) y e = absurd cc

abbrev failed : {A : Type 0} → Stop → Result A Stop
failed s = Err s

err_is : {A : Type 0} (s t : Stop) → failed {A = A} s ≡ failed t → s ≡ t
err_is s t e = cc

pub shown_err : {A B : Type 0} (part : A → B) (r : Result A Stop) (s : Stop) → shown part r ≡ Err s → r ≡ Err s
shown_err part (Ok x) s e = absurd cc
shown_err {A} {B} part (Err t) s e = ap (λ (u : Stop). failed {A = A} u) (err_is {A = B} t s e)

-- what a reader that keeps nothing returned
pub tells_ok : {X Y : Type 0} (view : X → Y) (r : Result X Stop) (read : Result Y Stop) (x : X) → Tells view r read → r ≡ Ok x → read ≡ Ok (view x)
tells_ok view (Ok y) read x t e = t ∙ ap (λ z. done (view z)) (ok_is y x e)
tells_ok view (Err s) read x t e = absurd cc

-- ---- numbers

number_cut : (n : ℕ) (bytes : List ℕ) → length bytes < n → number_at n bytes ≡ Err cut_off
unfolding number_at
number_cut n bytes lt = let t : ltb (length bytes) n ≡ true = lt-ltb _ _ lt in rw t refl

number_here : (n : ℕ) (bytes : List ℕ) → n ≤ length bytes → number_at n bytes ≡ Ok (big_number n bytes, drop n bytes)
unfolding number_at
number_here n bytes le = let t : ltb (length bytes) n ≡ false = le-ltb _ _ le in rw t refl

int_cut : (bytes : List ℕ) → length bytes < 8 → int_at bytes ≡ Err cut_off
unfolding int_at
int_cut bytes lt = rw (number_cut 8 bytes lt) refl

int_here : (bytes : List ℕ) → 8 ≤ length bytes → int_at bytes ≡ Ok (cast_signed w64 (big_number 8 bytes), drop 8 bytes)
unfolding int_at
int_here bytes le = rw (number_here 8 bytes le) refl

numbers_cut : (n : ℕ) (bytes : List ℕ) → length bytes < 8 * n → numbers_at n bytes ≡ Err cut_off
unfolding numbers_at
numbers_cut zero bytes lt = absurd (omega arith)
numbers_cut (suc n) bytes lt =
    elim (cases_lt (length bytes) 8) [
      | inl short ↦ rw (int_cut bytes short) refl
      | inr long ↦
          let rest : length (drop 8 bytes) < 8 * n = let len = length-drop 8 bytes in omega arith in
          rw (int_here bytes long, numbers_cut n (drop 8 bytes) rest) refl
    ]

numbers_here : (n : ℕ) (bytes : List ℕ) → 8 * n ≤ length bytes → (y : List ℤ × List ℕ) × (numbers_at n bytes ≡ Ok y) × (y.1 ≡ drop (8 * n) bytes)
unfolding numbers_at
numbers_here zero bytes le = (([], bytes), refl, refl)
numbers_here (suc n) bytes le =
    let len = length-drop 8 bytes in
    let first = int_here bytes (omega arith) in
    let others = numbers_here n (drop 8 bytes) (omega arith) in
    let sum : 8 + 8 * n ≡ 8 * suc n = omega arith in
    ((cast_signed w64 (big_number 8 bytes) ∷ others.0.0, others.0.1), rw (first, others.1) refl, others.2 ∙ (drop-drop (8 * n) 8 bytes ∙ ap (λ (k : ℕ). drop k bytes) sum))

pub ints_cut : (bytes : List ℕ) (count : ℕ) (rest : List ℕ) → count_at 4096 bytes ≡ Ok (count, rest) → length rest < 8 * count → ints_at bytes ≡ Err cut_off
unfolding ints_at
ints_cut bytes count rest e lt = rw e (numbers_cut count rest lt)

pub ints_here : (bytes : List ℕ) (count : ℕ) (rest : List ℕ) → count_at 4096 bytes ≡ Ok (count, rest) → 8 * count ≤ length rest
    → (y : List ℤ × List ℕ) × (ints_at bytes ≡ Ok y) × (y.1 ≡ drop (8 * count) rest)
unfolding ints_at
ints_here bytes count rest e le = let o = numbers_here count rest le in (o.0, rw e o.1, o.2)

-- ---- values

pub plain_text : (bytes rest text after : List ℕ) → text_at rest ≡ Ok (text, after) → (y : Value × List ℕ) × (plain_at 3 bytes rest ≡ Ok y) × (plain_part y ≡ (None, after))
unfolding plain_at
plain_text bytes rest text after e = ((Text text, after), rw e refl, refl)

pub plain_ints : (bytes rest after : List ℕ) → (y : List ℤ × List ℕ) × (ints_at rest ≡ Ok y) × (y.1 ≡ after) → (y : Value × List ℕ) × (plain_at 6 bytes rest ≡ Ok y) × (plain_part y ≡ (None, after))
unfolding plain_at
plain_ints bytes rest after o = ((Ints o.0.0, o.0.1), rw (o.1) refl, ap (λ (r : List ℕ). (None, r)) o.2)

pub plain_small : (tag : ℕ) (bytes rest : List ℕ) (value : Value) (after : List ℕ) → plain_at tag bytes rest ≡ Ok (value, after)
    → (y : Value × List ℕ) × (plain_at tag bytes rest ≡ Ok y) × (plain_part y ≡ (place_of value, after))
plain_small tag bytes rest value after e = ((value, after), e, refl)

abbrev kept : ℕ → ℕ → Option ℕ → List ℕ → Glance × List ℕ
kept ids most to after = (record { ids = ids; most = most; to = to }, after)

none_more : (seen : Glance) (to : Option ℕ) (after : List ℕ) → kept (seen.ids + 0) seen.most to after ≡ kept seen.ids seen.most to after
none_more seen to after = let same : seen.ids + 0 ≡ seen.ids = omega arith in ap (λ (k : ℕ). kept k seen.most to after) same

pub value_plain : (limit : ℕ) (seen : Glance) (bytes : List ℕ) (tag : ℕ) (rest : List ℕ) (to : Option ℕ) (after : List ℕ) → next_byte bytes ≡ Ok (tag, rest) → tag ≢ 4
    → (y : Value × List ℕ) × (plain_at tag bytes rest ≡ Ok y) × (plain_part y ≡ (to, after))
    → (y : Value × Option Id × List ℕ) × (value_at limit seen.ids bytes ≡ Ok y) × (value_part seen y ≡ (record seen { to = to }, after))
unfolding value_at
value_plain limit seen bytes tag rest to after e other o =
    let t : eqb tag 4 ≡ false = ne_eqb tag 4 other in
    ((o.0.0, None, o.0.1), rw (e, t, o.1) refl, none_more seen (place_of o.0.0) o.0.1 ∙ ap (λ (p : Option ℕ × List ℕ). (record seen { to = p.0 }, p.1)) o.2)

pub value_ref : (limit : ℕ) (seen : Glance) (bytes : List ℕ) (tag : ℕ) (rest : List ℕ) (id : Id) (after : List ℕ) (most : ℕ) (last : List ℕ) → next_byte bytes ≡ Ok (tag, rest) → tag ≡ 4
    → seen.ids < limit → gid_at Named rest ≡ Ok (id, after) → max seen.most id.home ≡ most → after ≡ last
    → (y : Value × Option Id × List ℕ) × (value_at limit seen.ids bytes ≡ Ok y) × (value_part seen y ≡ (record { ids = seen.ids + 1; most = most; to = None }, last))
unfolding value_at
value_ref limit seen bytes tag rest id after most last e four lt g m a =
    let t : eqb tag 4 ≡ true = eq-eqb _ _ four in
    let l : ltb seen.ids limit ≡ true = lt-ltb _ _ lt in
    ((Ref seen.ids, Some id, after), rw (e, t, l, g) refl, ap (λ (k : ℕ). kept (seen.ids + 1) k None after) m ∙ ap (λ (r : List ℕ). kept (seen.ids + 1) most None r) a)

moved : (seen : Glance) (v : Value) (o : Option Id) (r : Result (List Value × List Id × List ℕ) Stop)
    → shown (values_part seen) (r >>= λ x. Ok (v ∷ x.0, id_list o ++ x.1, x.2)) ≡ shown (values_part (glance seen (v ∷ []) (id_list o))) r
moved seen v None (Ok x) =
    let same : seen.ids + length x.1 ≡ seen.ids + 0 + length x.1 = omega arith in
    ap (λ (k : ℕ). Ok (record { ids = k; most = most_home seen.most x.1; to = last_place (place_of v) x.0 }, x.2)) same
moved seen v (Some id) (Ok x) =
    let same : seen.ids + length (id ∷ x.1) ≡ seen.ids + length (id ∷ []) + length x.1 = omega arith in
    ap (λ (k : ℕ). Ok (record { ids = k; most = most_home (max seen.most id.home) x.1; to = last_place (place_of v) x.0 }, x.2)) same
moved seen v o (Err s) = refl

each_on : (limit : ℕ) (seen : Glance) (n : ℕ) (bytes : List ℕ) (next : Glance) (after : List ℕ)
    → (y : Value × Option Id × List ℕ) × (value_at limit seen.ids bytes ≡ Ok y) × (value_part seen y ≡ (next, after))
    → shown (values_part seen) (each_at limit seen.ids (suc n) bytes) ≡ shown (values_part next) (each_at limit next.ids n after)
unfolding each_at
each_on limit seen n bytes next after o =
    let g : Glance = glance seen (o.0.0 ∷ []) (id_list o.0.1) in
    let one : shown (values_part seen) (each_at limit seen.ids (suc n) bytes) ≡ shown (values_part g) (each_at limit g.ids n o.0.2) = rw (o.1) (moved seen o.0.0 o.0.1 (each_at limit g.ids n o.0.2)) in
    one ∙ ap (λ (p : Glance × List ℕ). shown (values_part p.0) (each_at limit p.0.ids n p.1)) o.2

pub each_goes : (limit : ℕ) (seen : Glance) (count i : ℕ) (bytes : List ℕ) (next : Glance) (after : List ℕ) (total : Result (Glance × List ℕ) Stop) → i < count
    → (y : Value × Option Id × List ℕ) × (value_at limit seen.ids bytes ≡ Ok y) × (value_part seen y ≡ (next, after))
    → shown (values_part seen) (each_at limit seen.ids (count - i) bytes) ≡ total
    → shown (values_part next) (each_at limit next.ids (count - (i + 1)) after) ≡ total
each_goes limit seen count i bytes next after total lt o so_far =
    let k : count - i ≡ suc (count - (i + 1)) = omega arith in
    let one : shown (values_part seen) (each_at limit seen.ids (count - i) bytes) ≡ shown (values_part next) (each_at limit next.ids (count - (i + 1)) after) =
    ap (λ (n : ℕ). shown (values_part seen) (each_at limit seen.ids n bytes)) k ∙ each_on limit seen (count - (i + 1)) bytes next after o in
    sym one ∙ so_far

pub each_fails : (limit : ℕ) (seen before : Glance) (count i : ℕ) (bytes : List ℕ) (s : Stop) (r : Result (List Value × List Id × List ℕ) Stop) → i < count
    → value_at limit seen.ids bytes ≡ Err s
    → shown (values_part seen) (each_at limit seen.ids (count - i) bytes) ≡ shown (values_part before) r → r ≡ Err s
unfolding each_at
each_fails limit seen before count i bytes s r lt h so_far =
    let k : count - i ≡ suc (count - (i + 1)) = omega arith in
    let one : shown (values_part seen) (each_at limit seen.ids (count - i) bytes) ≡ Err s = rw (k, h) refl in
    shown_err (values_part before) r s (sym so_far ∙ one)

pub each_over : (limit : ℕ) (seen before : Glance) (count i : ℕ) (bytes : List ℕ) (r : Result (List Value × List Id × List ℕ) Stop) → count ≤ i
    → shown (values_part seen) (each_at limit seen.ids (count - i) bytes) ≡ shown (values_part before) r
    → (y : List Value × List Id × List ℕ) × (r ≡ Ok y) × (values_part before y ≡ (seen, bytes))
unfolding each_at
each_over limit seen before count i bytes r le so_far =
    let k : count - i ≡ 0 = omega arith in
    let one : shown (values_part seen) (each_at limit seen.ids (count - i) bytes) ≡ Ok (seen, bytes) = rw k (ap (λ (p : Glance × List ℕ). Ok p) (none_more seen seen.to bytes)) in
    shown_ok (values_part before) r (seen, bytes) (sym so_far ∙ one)

-- ---- all values

each_many : (limit n place : ℕ) (bytes : List ℕ) (x : List Value × List Id × List ℕ) → each_at limit place n bytes ≡ Ok x → length x.0 ≡ n
unfolding each_at
each_many limit zero place bytes x e = sym (ap (λ (y : List Value × List Id × List ℕ). length y.0) (ok_is ([], [], bytes) x e))
each_many limit (suc n) place bytes x e =
    let a = bind_ok (value_at limit place bytes) (λ first. each_at limit (place + length (id_list first.1)) n first.2 >>= λ others. Ok (first.0 ∷ others.0, id_list first.1 ++ others.1, others.2)) x e in
    let b = bind_ok (each_at limit (place + length (id_list a.0.1)) n a.0.2) (λ others. Ok (a.0.0 ∷ others.0, id_list a.0.1 ++ others.1, others.2)) x a.2 in
    let others = each_many limit n (place + length (id_list a.0.1)) a.0.2 b.0 b.1 in
    let made : List Value × List Id × List ℕ = (a.0.0 ∷ b.0.0, id_list a.0.1 ++ b.0.1, b.0.2) in
    sym (ap (λ (y : List Value × List Id × List ℕ). length y.0) (ok_is made x b.2)) ∙ ap suc others

abbrev nowhere : Option ℕ
nowhere = None

one_place : (vs : List Value) (count : ℕ) → length vs ≡ count → place_in vs ≡ cond (eqb count 1) (last_place None vs) None
one_place [] count e = subst (λ (n : ℕ). nowhere ≡ cond (eqb n 1) nowhere nowhere) e refl
one_place (v ∷ []) count e = subst (λ (n : ℕ). place_of v ≡ cond (eqb n 1) (place_of v) nowhere) e refl
one_place (v ∷ (w ∷ vs)) count e =
    let t : eqb count 1 ≡ false = ne_eqb count 1 (λ one. omega (arith, e, one)) in rw t refl

pub list_is : (limit ids most : ℕ) (bytes : List ℕ) (count : ℕ) (rest : List ℕ) (seen : Glance) (after : List ℕ) → count_at 1024 bytes ≡ Ok (count, rest)
    → (y : List Value × List Id × List ℕ) × (each_at limit ids count rest ≡ Ok y) × (values_part (record { ids = ids; most = most; to = None }) y ≡ (seen, after))
    → (y : List Value × List Id × List ℕ) × (values_at limit ids bytes ≡ Ok y) × (list_part ids most y ≡ (record seen { to = cond (eqb count 1) seen.to None }, after))
unfolding values_at
list_is limit ids most bytes count rest seen after e o = (
  o.0,
  rw e (o.1),
  ap (λ (k : Option ℕ). (record { ids = ids + length o.0.1; most = most_home most o.0.1; to = k }, o.0.2)) (one_place o.0.0 count (each_many limit count ids rest o.0 o.1))
      ∙ ap (λ (p : Glance × List ℕ). (record p.0 { to = cond (eqb count 1) p.0.to None }, p.1)) o.2,
)

-- ---- actions

not_below : (b : Bool) (t : ℕ) → leb t 63 ≡ b → 64 ≤ t → b ≡ false
not_below true t e le = let h : t ≤ 63 = leb-true _ _ e in absurd (omega arith)
not_below false t e le = refl

below : (t : ℕ) → leb t 63 ≡ is_some (cond (ltb t 64) (Some t) None)
below t =
    elim (cases_lt t 64) [
      | inl lt ↦ let a : leb t 63 ≡ true = le-leb _ _ (omega arith) in let b : ltb t 64 ≡ true = lt-ltb _ _ lt in rw (a, b) refl
      | inr le ↦ let a : leb t 63 ≡ false = not_below (leb t 63) t refl le in let b : ltb t 64 ≡ false = le-ltb _ _ le in rw (a, b) refl
    ]

move_args : (args : List Value) → are_move_args args ≡ is_some (place_in args)
move_args [] = refl
move_args (Int (pos t) ∷ []) = below t
move_args (Int (negsuc t) ∷ []) = refl
move_args (Nothing ∷ []) = refl
move_args (Flag b ∷ []) = refl
move_args (Text bytes ∷ []) = refl
move_args (Ref place ∷ []) = refl
move_args (Fault code ∷ []) = refl
move_args (Ints zs ∷ []) = refl
move_args (Int (pos t) ∷ (v ∷ vs)) = refl
move_args (Int (negsuc t) ∷ (v ∷ vs)) = refl
move_args (Nothing ∷ (v ∷ vs)) = refl
move_args (Flag b ∷ (v ∷ vs)) = refl
move_args (Text bytes ∷ (v ∷ vs)) = refl
move_args (Ref place ∷ (v ∷ vs)) = refl
move_args (Fault code ∷ (v ∷ vs)) = refl
move_args (Ints zs ∷ (v ∷ vs)) = refl

right_args : (rule : ActRule) (args : List Value) → takes_args rule args ≡ takes_place rule (place_in args)
right_args Applied args = refl
right_args Moves args = move_args args

most-append : (most : ℕ) (xs ys : List Id) → most_home most (xs ++ ys) ≡ most_home (most_home most xs) ys
most-append most [] ys = refl
most-append most (id ∷ xs) ys = most-append (max most id.home) xs ys

pub most_on : (most i : ℕ) (ids : List Id) (id : Id) → i < length ids → id ≡ get_or ids i id → most_home most (drop i ids) ≡ most_home (max most id.home) (drop (i + 1) ids)
most_on most i ids id lt is =
    let n : suc i ≡ i + 1 = omega arith in
    ap (λ (xs : List Id). most_home most xs) (drop-cons ids i id lt)
    ∙ (ap (λ (x : Id). most_home (max most x.home) (drop (suc i) ids)) (sym is) ∙ ap (λ (k : ℕ). most_home (max most id.home) (drop k ids)) n)

-- what is kept of the values of an action with this target
abbrev pub Seen : ℕ → Id → List ℕ → Glance → List ℕ → Type 0
Seen most target bytes seen after =
    (y : List Value × List Id × List ℕ) × (values_at 33 1 bytes ≡ Ok y) × (list_part 1 (max most target.home) y ≡ (seen, after))

seen_args : (rule : ActRule) (most : ℕ) (target : Id) (bytes : List ℕ) (seen : Glance) (after : List ℕ) (b : Bool) (o : Seen most target bytes seen after)
    → takes_place rule seen.to ≡ b → takes_args rule o.0.0 ≡ b
seen_args rule most target bytes seen after b o t = right_args rule o.0.0 ∙ (ap (λ (p : Glance × List ℕ). takes_place rule p.0.to) o.2 ∙ t)

seen_cont : (most : ℕ) (target : Id) (bytes : List ℕ) (seen : Glance) (after : List ℕ) (o : Seen most target bytes seen after)
    → cont_at (length (target ∷ o.0.1)) o.0.2 ≡ cont_at seen.ids after
seen_cont most target bytes seen after o =
    let n : length (target ∷ o.0.1) ≡ 1 + length o.0.1 = omega arith in
    ap (λ (k : ℕ). cont_at k o.0.2) n ∙ ap (λ (p : Glance × List ℕ). cont_at p.0.ids p.1) o.2

pub call_wrong : (rule : ActRule) (most : ℕ) (target : Id) (bytes : List ℕ) (code : ℕ) (rest : List ℕ) (seen : Glance) (after : List ℕ)
    → number_at 2 bytes ≡ Ok (code, rest) → takes_code rule code ≡ true → Seen most target rest seen after → takes_place rule seen.to ≡ false
    → call_at rule target bytes ≡ Err (stop_at rest BadValue)
unfolding call_at
call_wrong rule most target bytes code rest seen after e t o f = rw (e, t, o.1, seen_args rule most target rest seen after false o f) refl

pub call_ends : (rule : ActRule) (most : ℕ) (target : Id) (bytes : List ℕ) (code : ℕ) (rest : List ℕ) (seen : Glance) (after : List ℕ) (s : Stop)
    → number_at 2 bytes ≡ Ok (code, rest) → takes_code rule code ≡ true → Seen most target rest seen after → takes_place rule seen.to ≡ true
    → cont_at seen.ids after ≡ Err s → call_at rule target bytes ≡ Err s
unfolding call_at ended_at
call_ends rule most target bytes code rest seen after s e t o f h =
    rw (e, t, o.1, seen_args rule most target rest seen after true o f, seen_cont most target rest seen after o ∙ h) refl

pub call_is : (rule : ActRule) (most : ℕ) (target : Id) (bytes : List ℕ) (code : ℕ) (rest : List ℕ) (seen : Glance) (after : List ℕ) (cont : Option Cont) (id : Option Id) (last : List ℕ)
    → number_at 2 bytes ≡ Ok (code, rest) → takes_code rule code ≡ true → Seen most target rest seen after → takes_place rule seen.to ≡ true
    → cont_at seen.ids after ≡ Ok (cont, id, last)
    → (y : Message × List ℕ) × (call_at rule target bytes ≡ Ok y) × (message_part most y ≡ (target, seen.to, most_home seen.most (id_list id), last))
unfolding call_at ended_at
call_is rule most target bytes code rest seen after cont id last e t o f h =
    let made : Message = record { code = code; args = o.0.0; cont = cont; ids = (target ∷ o.0.1) ++ id_list id } in (
      (made, last),
      rw (e, t, o.1, seen_args rule most target rest seen after true o f, seen_cont most target rest seen after o ∙ h) refl,
      ap (λ (m : ℕ). (target, place_in o.0.0, m, last)) (most-append (max most target.home) o.0.1 (id_list id))
          ∙ ap (λ (p : Glance × List ℕ). (target, p.0.to, most_home p.0.most (id_list id), last)) o.2,
    )

-- what is kept of an action without its name
abbrev pub SeenCall : ActRule → ℕ → Id → List ℕ → Option ℕ → ℕ → List ℕ → Type 0
SeenCall rule origin target bytes to most rest =
    (y : Message × List ℕ) × (call_at rule target bytes ≡ Ok y) × (message_part origin y ≡ (target, to, most, rest))

other_code : (b : Bool) → cond b false true ≡ true → b ≡ false
other_code true e = absurd cc
other_code false e = refl

movable_first : (ids : List Id) → FirstPasses Movable ids → is_movable (id_at ids 0).kind ≡ true
movable_first [] h = absurd h
movable_first (id ∷ ids) h = (and_parts (credit_fits id) (leb 16 id.kind && leb id.kind 31) h).1

goes_by : (rule : ActRule) (a : Act) → IsSpelled rule a → move_to a ≡ place_by rule (place_in a.args)
goes_by Applied a s = let t : eqb a.code 1 ≡ false = other_code (eqb a.code 1) s.fine.code in rw t refl
goes_by Moves a s =
    let t : eqb a.code 1 ≡ true = s.fine.code in
    let m : is_movable (target_of a).kind ≡ true = movable_first a.ids s.fine.target in
    let both : (eqb a.code 1 && is_movable (target_of a).kind) ≡ true = and_from _ _ t m in
    ap (λ (b : Bool). cond b (place_in a.args) None) both

-- what an action without its name is, behind its name
long_act : (rule : ActRule) (bytes : List ℕ) (origin : ℕ) (one : List ℕ) (serial : ℕ) (two : List ℕ) (target : Id) (three : List ℕ) (x : Message × List ℕ)
    → number_at 2 bytes ≡ Ok (origin, one) → number_at 8 one ≡ Ok (serial, two) → gid_at (target_rule rule) two ≡ Ok (target, three) → call_at rule target three ≡ Ok x
    → long_act_at rule bytes ≡ Ok (named origin serial x.0, x.1)
unfolding long_act_at message_at
long_act rule bytes origin one serial two target three x e f g h = rw (e, f, g, h) refl

pub act_long : (rule : ActRule) (bytes : List ℕ) (origin : ℕ) (one : List ℕ) (serial : ℕ) (two : List ℕ) (target : Id) (three : List ℕ) (to : Option ℕ) (most : ℕ) (rest : List ℕ)
    → number_at 2 bytes ≡ Ok (origin, one) → number_at 8 one ≡ Ok (serial, two) → gid_at (target_rule rule) two ≡ Ok (target, three)
    → SeenCall rule origin target three to most rest → length rest + 65000 < length bytes → act_at rule bytes ≡ Err (stop_at bytes BadValue)
unfolding act_at
act_long rule bytes origin one serial two target three to most rest e f g o long =
    let same : o.0.1 ≡ rest = ap (λ (p : Id × Option ℕ × ℕ × List ℕ). p.3) o.2 in
    let t : ltb (length o.0.1 + 65000) (length bytes) ≡ true = ap (λ (r : List ℕ). ltb (length r + 65000) (length bytes)) same ∙ lt-ltb _ _ long in
    rw (long_act rule bytes origin one serial two target three o.0 e f g o.1, t) refl

pub act_is : (rule : ActRule) (bytes : List ℕ) (origin : ℕ) (one : List ℕ) (serial : ℕ) (two : List ℕ) (target : Id) (three : List ℕ) (to : Option ℕ) (most : ℕ) (rest : List ℕ)
    → IsBytes bytes → number_at 2 bytes ≡ Ok (origin, one) → number_at 8 one ≡ Ok (serial, two) → gid_at (target_rule rule) two ≡ Ok (target, three)
    → SeenCall rule origin target three to most rest → length bytes ≤ length rest + 65000
    → (y : Act × List ℕ) × (act_at rule bytes ≡ Ok y) × (act_part y ≡ (record { target = target; to = place_by rule to; most = most }, rest))
unfolding act_at
act_is rule bytes origin one serial two target three to most rest fits e f g o short =
    let a : Act = named origin serial o.0.0 in
    let same : o.0.1 ≡ rest = ap (λ (p : Id × Option ℕ × ℕ × List ℕ). p.3) o.2 in
    let t : ltb (length o.0.1 + 65000) (length bytes) ≡ false = ap (λ (r : List ℕ). ltb (length r + 65000) (length bytes)) same ∙ le-ltb _ _ short in
    let read : act_at rule bytes ≡ Ok (a, o.0.1) = rw (long_act rule bytes origin one serial two target three o.0 e f g o.1, t) refl in
    let moves : move_to a ≡ place_by rule (place_in o.0.0.args) = goes_by rule a (act_takes rule bytes (a, o.0.1) fits read).1 in (
      (a, o.0.1),
      read,
      ap (λ (k : Option ℕ). (record { target = target_of a; to = k; most = most_home origin o.0.0.ids }, o.0.1)) moves
          ∙ ap (λ (p : Id × Option ℕ × ℕ × List ℕ). (record { target = p.0; to = place_by rule p.1; most = p.2 }, p.3)) o.2,
    )

-- ---- kept continuations

moved_conts : (most : ℕ) (c : Cont) (id : Id) (r : Result (List Cont × List Id × List ℕ) Stop)
    → shown (conts_part most) (r >>= λ x. Ok (c ∷ x.0, id ∷ x.1, x.2)) ≡ shown (conts_part (max most id.home)) r
moved_conts most c id (Ok x) = refl
moved_conts most c id (Err s) = refl

conts_on : (most place n : ℕ) (bytes : List ℕ) (id : Id) (slot : ℕ) (after : List ℕ) → slot_at bytes ≡ Ok (id, slot, after)
    → shown (conts_part most) (conts_at place (suc n) bytes) ≡ shown (conts_part (max most id.home)) (conts_at (place + 1) n after)
unfolding conts_at
conts_on most place n bytes id slot after e = rw e (moved_conts most (record { place = place; slot = slot }) id (conts_at (place + 1) n after))

pub conts_go : (most place count i : ℕ) (bytes : List ℕ) (id : Id) (slot : ℕ) (after : List ℕ) (total : Result (ℕ × List ℕ) Stop) → i < count → slot_at bytes ≡ Ok (id, slot, after)
    → shown (conts_part most) (conts_at (place + i) (count - i) bytes) ≡ total
    → shown (conts_part (max most id.home)) (conts_at (place + (i + 1)) (count - (i + 1)) after) ≡ total
conts_go most place count i bytes id slot after total lt e so_far =
    let k : count - i ≡ suc (count - (i + 1)) = omega arith in
    let next : place + i + 1 ≡ place + (i + 1) = omega arith in
    let one : shown (conts_part most) (conts_at (place + i) (count - i) bytes) ≡ shown (conts_part (max most id.home)) (conts_at (place + (i + 1)) (count - (i + 1)) after) =
    ap (λ (n : ℕ). shown (conts_part most) (conts_at (place + i) n bytes)) k
    ∙ (conts_on most (place + i) (count - (i + 1)) bytes id slot after e ∙ ap (λ (p : ℕ). shown (conts_part (max most id.home)) (conts_at p (count - (i + 1)) after)) next) in
    sym one ∙ so_far

pub conts_fail : (most before place count i : ℕ) (bytes : List ℕ) (s : Stop) (r : Result (List Cont × List Id × List ℕ) Stop) → i < count → slot_at bytes ≡ Err s
    → shown (conts_part most) (conts_at (place + i) (count - i) bytes) ≡ shown (conts_part before) r → r ≡ Err s
unfolding conts_at
conts_fail most before place count i bytes s r lt h so_far =
    let k : count - i ≡ suc (count - (i + 1)) = omega arith in
    let one : shown (conts_part most) (conts_at (place + i) (count - i) bytes) ≡ Err s = rw (k, h) refl in
    shown_err (conts_part before) r s (sym so_far ∙ one)

pub conts_over : (most before place count i : ℕ) (bytes : List ℕ) (r : Result (List Cont × List Id × List ℕ) Stop) → count ≤ i
    → shown (conts_part most) (conts_at (place + i) (count - i) bytes) ≡ shown (conts_part before) r
    → (y : List Cont × List Id × List ℕ) × (r ≡ Ok y) × (conts_part before y ≡ (most, bytes))
unfolding conts_at
conts_over most before place count i bytes r le so_far =
    let k : count - i ≡ 0 = omega arith in
    let one : shown (conts_part most) (conts_at (place + i) (count - i) bytes) ≡ Ok (most, bytes) = rw k refl in
    shown_ok (conts_part before) r (most, bytes) (sym so_far ∙ one)

pub conts_first : (before count place : ℕ) (bytes : List ℕ)
    → shown (conts_part before) (conts_at (place + 0) (count - 0) bytes) ≡ shown (conts_part before) (conts_at place count bytes)
conts_first before count place bytes =
    let a : place + 0 ≡ place = omega arith in
    let b : count - 0 ≡ count = omega arith in
    ap (λ (p : ℕ). shown (conts_part before) (conts_at p (count - 0) bytes)) a ∙ ap (λ (n : ℕ). shown (conts_part before) (conts_at place n bytes)) b

-- ---- states

-- what is kept of the values of a state
abbrev pub SeenValues : ℕ → List ℕ → Glance → List ℕ → Type 0
SeenValues before bytes seen after = (y : List Value × List Id × List ℕ) × (values_at 128 0 bytes ≡ Ok y) × (list_part 0 before y ≡ (seen, after))

seen_count : (before : ℕ) (bytes : List ℕ) (seen : Glance) (after : List ℕ) (o : SeenValues before bytes seen after)
    → count_at (128 - length o.0.1) o.0.2 ≡ count_at (128 - seen.ids) after
seen_count before bytes seen after o =
    let n : length o.0.1 ≡ 0 + length o.0.1 = omega arith in
    ap (λ (k : ℕ). count_at (128 - k) o.0.2) n ∙ ap (λ (p : Glance × List ℕ). count_at (128 - p.0.ids) p.1) o.2

pub state_uncounted : (before : ℕ) (bytes : List ℕ) (drawn : ℕ) (one : List ℕ) (seen : Glance) (two : List ℕ) (s : Stop) → number_at 4 bytes ≡ Ok (drawn, one) → SeenValues before one seen two
    → count_at (128 - seen.ids) two ≡ Err s → state_at bytes ≡ Err s
unfolding state_at long_state_at kept_at
state_uncounted before bytes drawn one seen two s e o h = rw (e, o.1, seen_count before one seen two o ∙ h) refl

pub state_ends : (before : ℕ) (bytes : List ℕ) (drawn : ℕ) (one : List ℕ) (seen : Glance) (two : List ℕ) (count : ℕ) (three : List ℕ) (s : Stop) → number_at 4 bytes ≡ Ok (drawn, one)
    → SeenValues before one seen two → count_at (128 - seen.ids) two ≡ Ok (count, three) → ((place : ℕ) → conts_at place count three ≡ Err s) → state_at bytes ≡ Err s
unfolding state_at long_state_at kept_at
state_ends before bytes drawn one seen two count three s e o h f = rw (e, o.1, seen_count before one seen two o ∙ h, f (length o.0.1)) refl

-- what is kept of its continuations
abbrev pub SeenConts : ℕ → ℕ → List ℕ → ℕ → List ℕ → Type 0
SeenConts before count bytes most rest = (place : ℕ) → (y : List Cont × List Id × List ℕ) × (conts_at place count bytes ≡ Ok y) × (conts_part before y ≡ (most, rest))

pub state_long : (before : ℕ) (bytes : List ℕ) (drawn : ℕ) (one : List ℕ) (seen : Glance) (two : List ℕ) (count : ℕ) (three : List ℕ) (most : ℕ) (rest : List ℕ) → number_at 4 bytes ≡ Ok (drawn, one)
    → SeenValues before one seen two → count_at (128 - seen.ids) two ≡ Ok (count, three) → SeenConts seen.most count three most rest
    → length rest + 65000 < length bytes → state_at bytes ≡ Err (stop_at bytes BadValue)
unfolding state_at long_state_at kept_at
state_long before bytes drawn one seen two count three most rest e o h f long =
    let c = f (length o.0.1) in
    let same : c.0.2 ≡ rest = ap (λ (p : ℕ × List ℕ). p.1) c.2 in
    let t : ltb (length c.0.2 + 65000) (length bytes) ≡ true = ap (λ (r : List ℕ). ltb (length r + 65000) (length bytes)) same ∙ lt-ltb _ _ long in
    rw (e, o.1, seen_count before one seen two o ∙ h, c.1, t) refl

pub state_is : (before : ℕ) (bytes : List ℕ) (drawn : ℕ) (one : List ℕ) (seen : Glance) (two : List ℕ) (count : ℕ) (three : List ℕ) (most : ℕ) (rest : List ℕ) → number_at 4 bytes ≡ Ok (drawn, one)
    → SeenValues before one seen two → count_at (128 - seen.ids) two ≡ Ok (count, three) → SeenConts seen.most count three most rest
    → length bytes ≤ length rest + 65000
    → (y : State × List ℕ) × (state_at bytes ≡ Ok y) × (state_part before y ≡ (most, rest))
unfolding state_at long_state_at kept_at
state_is before bytes drawn one seen two count three most rest e o h f short =
    let c = f (length o.0.1) in
    let same : c.0.2 ≡ rest = ap (λ (p : ℕ × List ℕ). p.1) c.2 in
    let t : ltb (length c.0.2 + 65000) (length bytes) ≡ false = ap (λ (r : List ℕ). ltb (length r + 65000) (length bytes)) same ∙ le-ltb _ _ short in
    let made : State = record { drawn = drawn; values = o.0.0; conts = c.0.0; ids = o.0.1 ++ c.0.1 } in (
      (made, c.0.2),
      rw (e, o.1, seen_count before one seen two o ∙ h, c.1, t) refl,
      ap (λ (m : ℕ). (m, c.0.2)) (most-append before o.0.1 c.0.1)
          ∙ (ap (λ (p : Glance × List ℕ). (most_home p.0.most c.0.1, c.0.2)) o.2 ∙ c.2),
    )
