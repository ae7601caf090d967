-- Actions: what is read is spelled so, and what is spelled so is read.
use Rattle.std.proofs.Common.{◌≡◌, ℕ, suc, ◌+◌, ◌^◌, ◌<◌, ◌≤◌, true, false, ◌&&◌, cond, ltb, leb, eqb, List, [], ◌∷◌, ◌++◌, length, take, drop, Option, Some, None, Ok, Err, refl, sym, ap, subst, ◌∙◌, append_assoc, arith, inl, inr}
use Rattle.std.specs.List.{AllByRecursion}
use Rattle.std.proofs.lemmas.Bool.{ltb-false, le-ltb, eqb-true, and_parts}
use Rattle.std.proofs.lemmas.List.{length-append, length-take, length-drop, take-append-drop}
use Rattle.hpx_value.specs.Ids.{IsId}
use Rattle.hpx_value.specs.Values.{refs_in, message_of, named}
use Rattle.hpx_value.specs.Shapes.{IsCount, AreValues, places_of, listed, values_size, cont_size}
use Rattle.hpx_parcel.specs.Types.{Id, Value, Cont, Message, Act, BadValue}
use Rattle.hpx_parcel.specs.Spelling.{number_text, id_text, first_text, values_text, slot_text, cont_text, message_text, act_text}
use Rattle.hpx_parcel.specs.Parcels.{HasRightCredit, FitsValue, FitsCont}
use Rattle.hpx_parcel.specs.Reading.{◌>>=◌, stop_at, number_at, IdRule, ActRule, Named, Applied, Moves, credit_fits, allows, target_rule, takes_code, takes_args, id_at, id_list, values_at, slot_at, cont_at, ended_at, call_at, message_at, long_act_at, within, act_at}
use Rattle.hpx_parcel.proofs.FieldLaws.{IsBytes, IsBytes-rest, bind_ok, guard_ok, test_ok, chosen, ok_is, Takes, Takes-then, Takes-byte, wide2, wide4, wide8, number_takes, number_again, length-number, id_takes, id_again}
use Rattle.hpx_parcel.proofs.ValueLaws.{credit_is, credit_back}
use Rattle.hpx_parcel.proofs.Each.{Given, values_take, values_again, length-values, length-id, ids_after_own}

-- ---- slots and continuations

abbrev pub cont_to : ℕ → ℕ → Cont
cont_to place slot = record { place = place; slot = slot }

pub record TookSlot (bytes : List ℕ) (id : Id) (slot : ℕ) (rest : List ℕ) : Type 0 where
  pub text : (place : ℕ) (left : List Id) → Takes bytes (slot_text (id ∷ left) (cont_to place slot)) rest
  pub fits : slot < 2 ^ 32
  pub valid : IsId id
  pub credit : HasRightCredit id

pub slot_takes : (bytes : List ℕ) (x : Id × ℕ × List ℕ) → IsBytes bytes → slot_at bytes ≡ Ok x → TookSlot bytes x.0 x.1 x.2
unfolding slot_at slot_text
slot_takes bytes x fits e =
    let a = bind_ok (id_at Named bytes) (λ id. number_at 4 id.1 >>= λ slot. Ok (id.0, slot.0, slot.1)) x e in
    let b = bind_ok (number_at 4 a.0.1) (λ slot. Ok (a.0.0, slot.0, slot.1)) x a.2 in
    let t0 = id_takes Named bytes a.0.0 a.0.1 fits a.1 in
    let t1 = number_takes 4 wide4 a.0.1 b.0.0 b.0.1 t0.0.rest_fits b.1 in
    let made : TookSlot bytes a.0.0 b.0.0 b.0.1 = record {
      text = λ place left. Takes-then bytes (id_text a.0.0) a.0.1 (number_text 4 b.0.0) b.0.1 t0.0 t1.0;
      fits = t1.1;
      valid = t0.1;
      credit = credit_is a.0.0 t0.2;
    } in
    subst (λ (y : Id × ℕ × List ℕ). TookSlot bytes y.0 y.1 y.2) (ok_is (a.0.0, b.0.0, b.0.1) x b.2) made

pub slot_again : (id : Id) (left : List Id) (c : Cont) (rest : List ℕ) → IsId id → HasRightCredit id → c.slot < 2 ^ 32
    → slot_at (slot_text (id ∷ left) c ++ rest) ≡ Ok (id, c.slot, rest)
unfolding slot_at slot_text
slot_again id left c rest valid credit fits =
    ap slot_at (append_assoc (id_text id) (number_text 4 c.slot) rest)
    ∙ rw (id_again Named id (number_text 4 c.slot ++ rest) valid (credit_back id credit), number_again 4 c.slot rest fits) refl

pub record TookCont (place : ℕ) (bytes : List ℕ) (c : Option Cont) (o : Option Id) (rest : List ℕ) : Type 0 where
  pub text : Takes bytes (cont_text (id_list o) c) rest
  pub places : IsCount place (places_of (listed c))
  pub fits : FitsCont c
  pub many : length (id_list o) ≡ length (listed c)
  pub valid : AllByRecursion IsId (id_list o)
  pub credit : AllByRecursion HasRightCredit (id_list o)

pub cont_takes : (place : ℕ) (bytes : List ℕ) (x : Option Cont × Option Id × List ℕ) → IsBytes bytes → cont_at place bytes ≡ Ok x → TookCont place bytes x.0 x.1 x.2
unfolding cont_at cont_text
cont_takes place [] x fits e = absurd cc
cont_takes place (b ∷ bytes) x fits e =
    let rest_fits = IsBytes-rest b bytes fits in
    elim (chosen (eqb b 0) _ _ _ e) [
      | inl w ↦
          let made : TookCont place (0 ∷ bytes) None None bytes = record {
            text = record { parts = refl; rest_fits = rest_fits };
            places = tt;
            fits = tt;
            many = refl;
            valid = tt;
            credit = tt;
          } in
          subst (λ (y : Option Cont × Option Id × List ℕ). TookCont place (b ∷ bytes) y.0 y.1 y.2) (ok_is (None, None, bytes) x w.1)
          (subst (λ (k : ℕ). TookCont place (k ∷ bytes) None None bytes) (sym (eqb-true _ _ w.0)) made)
      | inr w ↦
          let g = test_ok (eqb b 1) (stop_at (b ∷ bytes) BadValue) (slot_at bytes >>= λ s. Ok (Some (cont_to place s.1), Some s.0, s.2)) x w.1 in
          let a = bind_ok (slot_at bytes) (λ s. Ok (Some (cont_to place s.1), Some s.0, s.2)) x g.1 in
          let t = slot_takes bytes a.0 rest_fits a.1 in
          let made : TookCont place (1 ∷ bytes) (Some (cont_to place a.0.1)) (Some a.0.0) a.0.2 = record {
            text = Takes-byte 1 bytes (slot_text (a.0.0 ∷ []) (cont_to place a.0.1)) a.0.2 (t.text place []);
            places = (refl, tt);
            fits = t.fits;
            many = refl;
            valid = (t.valid, tt);
            credit = (t.credit, tt);
          } in
          subst (λ (y : Option Cont × Option Id × List ℕ). TookCont place (b ∷ bytes) y.0 y.1 y.2) (ok_is (Some (cont_to place a.0.1), Some a.0.0, a.0.2) x a.2)
          (subst (λ (k : ℕ). TookCont place (k ∷ bytes) (Some (cont_to place a.0.1)) (Some a.0.0) a.0.2) (sym (eqb-true _ _ g.0)) made)
    ]

pub cont_again : (place : ℕ) (c : Option Cont) (o : Option Id) (rest : List ℕ) → IsCount place (places_of (listed c)) → FitsCont c
    → length (id_list o) ≡ length (listed c) → AllByRecursion IsId (id_list o) → AllByRecursion HasRightCredit (id_list o)
    → cont_at place (cont_text (id_list o) c ++ rest) ≡ Ok (c, o, rest)
unfolding cont_at cont_text
cont_again place None None rest places fits many valid credit = refl
cont_again place None (Some id) rest places fits many valid credit = absurd (omega arith)
cont_again place (Some c) None rest places fits many valid credit = absurd (omega arith)
cont_again place (Some c) (Some id) rest places fits many valid credit = rw (slot_again id [] c rest valid.0 credit.0 fits, ← places.0) refl

length-cont : (c : Option Cont) (o : Option Id) → length (id_list o) ≡ length (listed c) → length (cont_text (id_list o) c) ≡ cont_size c
unfolding cont_text slot_text
length-cont None None e = refl
length-cont None (Some id) e = absurd (omega arith)
length-cont (Some c) None e = absurd (omega arith)
length-cont (Some c) (Some id) e =
    let four = length-number 4 c.slot in
    let sixteen = length-id id in
    let sum = length-append (id_text id) (number_text 4 c.slot) in omega arith

-- ---- actions without their names

-- the first of these ids passes
abbrev pub FirstPasses : IdRule → List Id → Type 0
FirstPasses rule [] = ⊥
FirstPasses rule (id ∷ ids) = allows rule id ≡ true

-- what has a spelling, whatever its length
pub record IsFine (rule : ActRule) (m : Message) : Type 0 where
  pub values : AreValues m.args
  pub refs : IsCount 1 (refs_in m.args)
  pub few_refs : length (refs_in m.args) ≤ 32
  pub cont : IsCount (length (refs_in m.args) + 1) (places_of (listed m.cont))
  pub ids : length m.ids ≡ 1 + length (refs_in m.args) + length (listed m.cont)
  pub code_fits : m.code < 2 ^ 16
  pub args_fit : AllByRecursion FitsValue m.args
  pub cont_fits : FitsCont m.cont
  pub valid : AllByRecursion IsId m.ids
  pub credit : AllByRecursion HasRightCredit m.ids
  pub target : FirstPasses (target_rule rule) m.ids
  pub code : takes_code rule m.code ≡ true
  pub args : takes_args rule m.args ≡ true

abbrev pub made : ℕ → List Value → Option Cont → Id → List Id → Option Id → Message
made code args cont target ids o = record { code = code; args = args; cont = cont; ids = target ∷ (ids ++ id_list o) }

pub all-append : (P : Id → Type 0) (xs ys : List Id) → AllByRecursion P xs → AllByRecursion P ys → AllByRecursion P (xs ++ ys)
all-append P [] ys p q = q
all-append P (x ∷ xs) ys p q = (p.0, all-append P xs ys p.1 q)

pub all-front : (P : Id → Type 0) (xs ys : List Id) → AllByRecursion P (xs ++ ys) → AllByRecursion P xs
all-front P [] ys p = tt
all-front P (x ∷ xs) ys p = (p.0, all-front P xs ys p.1)

pub all-back : (P : Id → Type 0) (xs ys : List Id) → AllByRecursion P (xs ++ ys) → AllByRecursion P ys
all-back P [] ys p = p
all-back P (x ∷ xs) ys p = all-back P xs ys p.1

made_text : (code : ℕ) (args : List Value) (cont : Option Cont) (target : Id) (ids : List Id) (o : Option Id) → length ids ≡ length (refs_in args)
    → message_text (made code args cont target ids o) ≡ id_text target ++ (number_text 2 code ++ (values_text (ids ++ id_list o) args ++ cont_text (id_list o) cont))
unfolding message_text
made_text code args cont target ids o many =
    ap (λ (js : List Id). id_text target ++ (number_text 2 code ++ (values_text (ids ++ id_list o) args ++ cont_text js cont))) (ids_after_own args ids (id_list o) many)

target_credit : (rule : ActRule) (id : Id) → allows (target_rule rule) id ≡ true → HasRightCredit id
target_credit Applied id e = credit_is id e
target_credit Moves id e = credit_is id ((and_parts (credit_fits id) (leb 16 id.kind && leb id.kind 31) e).0)

call_takes : (rule : ActRule) (target : Id) (bytes : List ℕ) (x : Message × List ℕ) → IsBytes bytes → IsId target → allows (target_rule rule) target ≡ true
    → call_at rule target bytes ≡ Ok x → (part : List ℕ) × (message_text x.0 ≡ id_text target ++ part) × Takes bytes part x.1 × IsFine rule x.0
unfolding call_at ended_at
call_takes rule target bytes x fits valid allowed e =
    let a = bind_ok (number_at 2 bytes)
    (λ code. cond (takes_code rule code.0) (values_at 33 1 code.1) (Err (stop_at bytes BadValue)) >>= λ args. cond (takes_args rule args.0) (ended_at code.0 args.0 (target ∷ args.1) args.2) (Err (stop_at code.1 BadValue))) x e in
    let b = bind_ok (cond (takes_code rule a.0.0) (values_at 33 1 a.0.1) (Err (stop_at bytes BadValue)))
    (λ args. cond (takes_args rule args.0) (ended_at a.0.0 args.0 (target ∷ args.1) args.2) (Err (stop_at a.0.1 BadValue))) x a.2 in
    let g = test_ok (takes_code rule a.0.0) (stop_at bytes BadValue) (values_at 33 1 a.0.1) b.0 b.1 in
    let h = test_ok (takes_args rule b.0.0) (stop_at a.0.1 BadValue) (ended_at a.0.0 b.0.0 (target ∷ b.0.1) b.0.2) x b.2 in
    let c = bind_ok (cont_at (suc (length b.0.1)) b.0.2) (λ cont. Ok (made a.0.0 b.0.0 cont.0 target b.0.1 cont.1, cont.2)) x h.1 in
    let t0 = number_takes 2 wide2 bytes a.0.0 a.0.1 fits a.1 in
    let t1 = values_take 33 1 a.0.1 b.0 t0.0.rest_fits g.1 in
    let read = t1.1.1 in
    let t2 = cont_takes (suc (length b.0.1)) b.0.2 c.0 ((t1.0 []).rest_fits) c.1 in
    let o = c.0.1 in
    let few : 1 + length b.0.1 ≤ 33 = read.few (omega arith) in
    let many : length b.0.1 ≡ length (refs_in b.0.0) = read.many in
    let last : length (id_list o) ≡ length (listed c.0.0) = t2.many in
    let sum = length-append b.0.1 (id_list o) in
    let part : List ℕ = number_text 2 a.0.0 ++ (values_text (b.0.1 ++ id_list o) b.0.0 ++ cont_text (id_list o) c.0.0) in
    let taken : Takes bytes part c.0.2 =
    Takes-then bytes (number_text 2 a.0.0) a.0.1 (values_text (b.0.1 ++ id_list o) b.0.0 ++ cont_text (id_list o) c.0.0) c.0.2 t0.0
    (Takes-then a.0.1 (values_text (b.0.1 ++ id_list o) b.0.0) b.0.2 (cont_text (id_list o) c.0.0) c.0.2 (t1.0 (id_list o)) t2.text) in
    let fine : IsFine rule (made a.0.0 b.0.0 c.0.0 target b.0.1 o) = record {
      values = record { few = t1.2; each = read.each };
      refs = read.refs;
      few_refs = omega arith;
      cont = subst (λ (k : ℕ). IsCount k (places_of (listed c.0.0))) (omega arith) t2.places;
      ids = omega arith;
      code_fits = t0.1;
      args_fit = read.fits;
      cont_fits = t2.fits;
      valid = (valid, all-append IsId b.0.1 (id_list o) read.valid t2.valid);
      credit = (target_credit rule target allowed, all-append HasRightCredit b.0.1 (id_list o) read.credit t2.credit);
      target = allowed;
      code = g.0;
      args = h.0;
    } in
    subst (λ (y : Message × List ℕ). (p : List ℕ) × (message_text y.0 ≡ id_text target ++ p) × Takes bytes p y.1 × IsFine rule y.0)
    (ok_is (made a.0.0 b.0.0 c.0.0 target b.0.1 o, c.0.2) x c.2)
    (part, made_text a.0.0 b.0.0 c.0.0 target b.0.1 o many, taken, fine)

pub message_takes : (rule : ActRule) (bytes : List ℕ) (x : Message × List ℕ) → IsBytes bytes → message_at rule bytes ≡ Ok x → Takes bytes (message_text x.0) x.1 × IsFine rule x.0
unfolding message_at
message_takes rule bytes x fits e =
    let a = bind_ok (id_at (target_rule rule) bytes) (λ target. call_at rule target.0 target.1) x e in
    let t = id_takes (target_rule rule) bytes a.0.0 a.0.1 fits a.1 in
    let c = call_takes rule a.0.0 a.0.1 x t.0.rest_fits t.1 t.2 a.2 in
    let both = Takes-then bytes (id_text a.0.0) a.0.1 c.0 x.1 t.0 c.2 in
    (subst (λ (p : List ℕ). Takes bytes p x.1) (sym c.1) both, c.3)

made_again : (rule : ActRule) (code : ℕ) (args : List Value) (cont : Option Cont) (target : Id) (ids : List Id) (o : Option Id) (rest : List ℕ)
    → length ids ≡ length (refs_in args) → length (id_list o) ≡ length (listed cont) → IsFine rule (made code args cont target ids o)
    → message_at rule (message_text (made code args cont target ids o) ++ rest) ≡ Ok (made code args cont target ids o, rest)
unfolding message_at call_at ended_at
made_again rule code args cont target ids o rest many last fine =
    let values : List ℕ = values_text (ids ++ id_list o) args in
    let end : List ℕ = cont_text (id_list o) cont in
    let regrouped : message_text (made code args cont target ids o) ++ rest ≡ id_text target ++ (number_text 2 code ++ (values ++ (end ++ rest))) =
    ap (λ (t : List ℕ). t ++ rest) (made_text code args cont target ids o many)
    ∙ append_assoc (id_text target) (number_text 2 code ++ (values ++ end)) rest
    ∙ ap (λ (t : List ℕ). id_text target ++ t) (append_assoc (number_text 2 code) (values ++ end) rest)
    ∙ ap (λ (t : List ℕ). id_text target ++ (number_text 2 code ++ t)) (append_assoc values end rest) in
    let given : Given 33 1 args ids = record {
      each = fine.values.each;
      fits = fine.args_fit;
      refs = fine.refs;
      many = many;
      valid = all-front IsId ids (id_list o) fine.valid.1;
      credit = all-front HasRightCredit ids (id_list o) fine.credit.1;
      few = let f = fine.few_refs in omega arith;
    } in
    let places : IsCount (suc (length ids)) (places_of (listed cont)) = subst (λ (k : ℕ). IsCount k (places_of (listed cont))) (omega arith) fine.cont in
    ap (message_at rule) regrouped
    ∙ rw (
      id_again (target_rule rule) target (number_text 2 code ++ (values ++ (end ++ rest))) fine.valid.0 fine.target,
      number_again 2 code (values ++ (end ++ rest)) fine.code_fits,
      fine.code,
      values_again 33 1 args ids (id_list o) (end ++ rest) fine.values.few given,
      fine.args,
      cont_again (suc (length ids)) cont o rest places fine.cont_fits last (all-back IsId ids (id_list o) fine.valid.1) (all-back HasRightCredit ids (id_list o) fine.credit.1),
    ) refl

-- a list of at most one
one_of : (ids : List Id) (c : Option Cont) → length ids ≡ length (listed c) → (o : Option Id) × (ids ≡ id_list o)
one_of [] c e = (None, refl)
one_of (id ∷ []) c e = (Some id, refl)
one_of (id ∷ (id' ∷ ids)) None e = absurd (omega arith)
one_of (id ∷ (id' ∷ ids)) (Some c) e = absurd (omega arith)

abbrev with_ids : Message → List Id → Message
with_ids m ids = record { code = m.code; args = m.args; cont = m.cont; ids = ids }

-- the ids of a message are those of the target, of the arguments, and of the continuation
parts_of : (m : Message) (ids : List Id) → length ids ≡ 1 + length (refs_in m.args) + length (listed m.cont)
    → (target : Id) × (own : List Id) × (o : Option Id) × (ids ≡ target ∷ (own ++ id_list o)) × (length own ≡ length (refs_in m.args)) × (length (id_list o) ≡ length (listed m.cont))
parts_of m [] e = absurd (omega arith)
parts_of m (target ∷ ids) e =
    let k : ℕ = length (refs_in m.args) in
    let short : length (take k ids) ≡ k = omega (arith, length-take k ids) in
    let tail : length (drop k ids) ≡ length (listed m.cont) = omega (arith, length-drop k ids) in
    let last = one_of (drop k ids) m.cont tail in
    let whole : ids ≡ take k ids ++ id_list last.0 = sym (take-append-drop k ids) ∙ ap (λ (js : List Id). take k ids ++ js) last.1 in
    (target, take k ids, last.0, ap (λ (js : List Id). target ∷ js) whole, short, ap length (sym last.1) ∙ tail)

pub message_again : (rule : ActRule) (m : Message) (rest : List ℕ) → IsFine rule m → message_at rule (message_text m ++ rest) ≡ Ok (m, rest)
message_again rule m rest fine =
    let p = parts_of m m.ids fine.ids in
    let Claim : List Id → Type 0 = λ ids. IsFine rule (with_ids m ids) → message_at rule (message_text (with_ids m ids) ++ rest) ≡ Ok (with_ids m ids, rest) in
    subst Claim (sym p.3) (λ f. made_again rule m.code m.args m.cont p.0 p.1 p.2 rest p.4 p.5 f) fine

length-first : (ids : List Id) (n : ℕ) → length ids ≡ suc n → length (first_text ids) ≡ 16
length-first [] n e = absurd (omega arith)
length-first (id ∷ ids) n e = length-id id

pub length-message : (rule : ActRule) (m : Message) → IsFine rule m → length (message_text m) ≡ 20 + values_size m.args + cont_size m.cont
length-message rule m fine =
    let p = parts_of m m.ids fine.ids in
    let Claim : List Id → Type 0 = λ ids. length (message_text (with_ids m ids)) ≡ 20 + values_size m.args + cont_size m.cont in
    let target = length-id p.0 in
    let code = length-number 2 m.code in
    let enough : length (refs_in m.args) ≤ length (p.1 ++ id_list p.2) = omega (arith, length-append p.1 (id_list p.2), p.4) in
    let args = length-values (p.1 ++ id_list p.2) m.args enough in
    let last = length-cont m.cont p.2 p.5 in
    let sum1 = length-append (values_text (p.1 ++ id_list p.2) m.args) (cont_text (id_list p.2) m.cont) in
    let sum2 = length-append (number_text 2 m.code) (values_text (p.1 ++ id_list p.2) m.args ++ cont_text (id_list p.2) m.cont) in
    let sum3 = length-append (id_text p.0) (number_text 2 m.code ++ (values_text (p.1 ++ id_list p.2) m.args ++ cont_text (id_list p.2) m.cont)) in
    subst Claim (sym p.3) (ap length (made_text m.code m.args m.cont p.0 p.1 p.2 p.4) ∙ omega arith)

-- ---- actions

-- what has a spelling of at most 65,000 bytes
pub record IsSpelled (rule : ActRule) (a : Act) : Type 0 where
  pub origin : a.origin < 2 ^ 16
  pub serial : a.serial < 2 ^ 64
  pub fine : IsFine rule (message_of a)
  pub short : 30 + values_size a.args + cont_size a.cont ≤ 65000

pub length-act : (rule : ActRule) (a : Act) → IsFine rule (message_of a) → length (act_text a) ≡ 30 + values_size a.args + cont_size a.cont
unfolding act_text
length-act rule a fine =
    let two = length-number 2 a.origin in
    let eight = length-number 8 a.serial in
    let rest = length-message rule (message_of a) fine in
    let sum1 = length-append (number_text 8 a.serial) (message_text (message_of a)) in
    let sum2 = length-append (number_text 2 a.origin) (number_text 8 a.serial ++ message_text (message_of a)) in
    omega arith

abbrev pub TookAct : ActRule → List ℕ → Act → List ℕ → Type 0
TookAct rule bytes a rest = Takes bytes (act_text a) rest × (a.origin < 2 ^ 16) × (a.serial < 2 ^ 64) × IsFine rule (message_of a)

long_act_takes : (rule : ActRule) (bytes : List ℕ) (x : Act × List ℕ) → IsBytes bytes → long_act_at rule bytes ≡ Ok x → TookAct rule bytes x.0 x.1
unfolding long_act_at act_text
long_act_takes rule bytes x fits e =
    let a = bind_ok (number_at 2 bytes) (λ origin. number_at 8 origin.1 >>= λ serial. message_at rule serial.1 >>= λ m. Ok (named origin.0 serial.0 m.0, m.1)) x e in
    let b = bind_ok (number_at 8 a.0.1) (λ serial. message_at rule serial.1 >>= λ m. Ok (named a.0.0 serial.0 m.0, m.1)) x a.2 in
    let c = bind_ok (message_at rule b.0.1) (λ m. Ok (named a.0.0 b.0.0 m.0, m.1)) x b.2 in
    let t0 = number_takes 2 wide2 bytes a.0.0 a.0.1 fits a.1 in
    let t1 = number_takes 8 wide8 a.0.1 b.0.0 b.0.1 t0.0.rest_fits b.1 in
    let t2 = message_takes rule b.0.1 c.0 t1.0.rest_fits c.1 in
    let both = Takes-then bytes (number_text 2 a.0.0) a.0.1 (number_text 8 b.0.0 ++ message_text c.0.0) c.0.1 t0.0
    (Takes-then a.0.1 (number_text 8 b.0.0) b.0.1 (message_text c.0.0) c.0.1 t1.0 t2.0) in
    subst (λ (y : Act × List ℕ). TookAct rule bytes y.0 y.1) (ok_is (named a.0.0 b.0.0 c.0.0, c.0.1) x c.2) (both, t0.1, t1.1, t2.1)

pub act_takes : (rule : ActRule) (bytes : List ℕ) (x : Act × List ℕ) → IsBytes bytes → act_at rule bytes ≡ Ok x → Takes bytes (act_text x.0) x.1 × IsSpelled rule x.0
unfolding act_at
act_takes rule bytes x fits e =
    let a = bind_ok (long_act_at rule bytes) (within bytes) x e in
    let g = guard_ok (ltb (length a.0.1 + 65000) (length bytes)) (stop_at bytes BadValue) (Ok a.0) x a.2 in
    let t = long_act_takes rule bytes a.0 fits a.1 in
    let most : length bytes ≤ length a.0.1 + 65000 = ltb-false _ _ g.0 in
    let len = length-act rule a.0.0 t.3 in
    let sum : length bytes ≡ length (act_text a.0.0) + length a.0.1 = ap length t.0.parts ∙ length-append (act_text a.0.0) a.0.1 in
    let spelled : IsSpelled rule a.0.0 = record { origin = t.1; serial = t.2; fine = t.3; short = omega arith } in
    subst (λ (y : Act × List ℕ). Takes bytes (act_text y.0) y.1 × IsSpelled rule y.0) (ok_is a.0 x g.1) (t.0, spelled)

long_act_again : (rule : ActRule) (a : Act) (rest : List ℕ) → IsSpelled rule a → long_act_at rule (act_text a ++ rest) ≡ Ok (a, rest)
unfolding long_act_at act_text
long_act_again rule a rest spelled =
    let m : Message = message_of a in
    let regrouped : (number_text 2 a.origin ++ (number_text 8 a.serial ++ message_text m)) ++ rest ≡ number_text 2 a.origin ++ (number_text 8 a.serial ++ (message_text m ++ rest)) =
    append_assoc (number_text 2 a.origin) (number_text 8 a.serial ++ message_text m) rest
    ∙ ap (λ (t : List ℕ). number_text 2 a.origin ++ t) (append_assoc (number_text 8 a.serial) (message_text m) rest) in
    ap (long_act_at rule) regrouped
    ∙ rw (
      number_again 2 a.origin (number_text 8 a.serial ++ (message_text m ++ rest)) spelled.origin,
      number_again 8 a.serial (message_text m ++ rest) spelled.serial,
      message_again rule m rest spelled.fine,
    ) refl

pub act_again : (rule : ActRule) (a : Act) (rest : List ℕ) → IsSpelled rule a → act_at rule (act_text a ++ rest) ≡ Ok (a, rest)
unfolding act_at
act_again rule a rest spelled =
    let m = message_of a in
    let len = length-act rule a spelled.fine in
    let sum = length-append (act_text a) rest in
    let few = spelled.short in
    let short : ltb (length rest + 65000) (length (act_text a ++ rest)) ≡ false = le-ltb _ _ (omega arith) in
    let read : long_act_at rule (act_text a ++ rest) ≡ Ok (a, rest) = long_act_again rule a rest spelled in
    rw (read, short) refl
