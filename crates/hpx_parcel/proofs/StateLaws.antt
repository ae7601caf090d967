-- States: what is read is spelled so, and what is spelled so is read.
use Rattle.std.proofs.Common.{◌≡◌, ℕ, zero, suc, ◌+◌, ◌-◌, ◌*◌, ◌≤◌, false, ltb, List, [], ◌∷◌, ◌++◌, length, take, drop, Ok, refl, sym, ap, subst, ◌∙◌, append_assoc, arith}
use Rattle.std.specs.List.{AllByRecursion}
use Rattle.std.proofs.lemmas.Bool.{ltb-false, le-ltb}
use Rattle.std.proofs.lemmas.List.{length-append, length-take, length-drop, take-append-drop}
use Rattle.hpx_value.specs.Ids.{IsId}
use Rattle.hpx_value.specs.Values.{refs_in}
use Rattle.hpx_value.specs.Shapes.{IsCount, AreValues, places_of, values_size}
use Rattle.hpx_parcel.specs.Types.{Id, Value, Cont, State, BadValue}
use Rattle.hpx_parcel.specs.Spelling.{number_text, id_text, ids_after, without_first, values_text, slot_text, conts_text, state_text}
use Rattle.hpx_parcel.specs.Parcels.{HasRightCredit, FitsSlot, FitsState, IsCarried}
use Rattle.hpx_parcel.specs.Reading.{◌>>=◌, stop_at, number_at, count_at, values_at, slot_at, conts_at, kept_at, long_state_at, within, state_at}
use Rattle.hpx_parcel.proofs.FieldLaws.{IsBytes, bind_ok, guard_ok, ok_is, Takes, Takes-then, wide4, number_takes, number_again, length-number, count_takes, count_again}
use Rattle.hpx_parcel.proofs.Each.{Given, values_take, values_again, length-values, length-id, ids_after_own}
use Rattle.hpx_parcel.proofs.ActLaws.{cont_to, slot_takes, slot_again, all-append, all-front, all-back}
use Rattle.hpx_parcel.proofs.Bytes.{AreBytes, are-append, number_bytes, values_bytes, slot_bytes}

-- ---- kept continuations

pub record TookConts (place : ℕ) (bytes : List ℕ) (cs : List Cont) (ids : List Id) (rest : List ℕ) : Type 0 where
  pub text : Takes bytes (conts_text ids cs) rest
  pub places : IsCount place (places_of cs)
  pub fits : AllByRecursion FitsSlot cs
  pub many : length ids ≡ length cs
  pub valid : AllByRecursion IsId ids
  pub credit : AllByRecursion HasRightCredit ids

pub conts_take : (n place : ℕ) (bytes : List ℕ) (x : List Cont × List Id × List ℕ) → IsBytes bytes → conts_at place n bytes ≡ Ok x
    → TookConts place bytes x.0 x.1 x.2 × (length x.0 ≡ n)
unfolding conts_at
conts_take zero place bytes x fits e =
    let made : TookConts place bytes [] [] bytes = record {
      text = record { parts = refl; rest_fits = fits };
      places = tt;
      fits = tt;
      many = refl;
      valid = tt;
      credit = tt;
    } in
    subst (λ (y : List Cont × List Id × List ℕ). TookConts place bytes y.0 y.1 y.2 × (length y.0 ≡ 0)) (ok_is ([], [], bytes) x e) (made, refl)
conts_take (suc n) place bytes x fits e =
    let a = bind_ok (slot_at bytes) (λ first. conts_at (place + 1) n first.2 >>= λ others. Ok (cont_to place first.1 ∷ others.0, first.0 ∷ others.1, others.2)) x e in
    let b = bind_ok (conts_at (place + 1) n a.0.2) (λ others. Ok (cont_to place a.0.1 ∷ others.0, a.0.0 ∷ others.1, others.2)) x a.2 in
    let first = slot_takes bytes a.0 fits a.1 in
    let others = conts_take n (place + 1) a.0.2 b.0 ((first.text place []).rest_fits) b.1 in
    let made : TookConts place bytes (cont_to place a.0.1 ∷ b.0.0) (a.0.0 ∷ b.0.1) b.0.2 = record {
      text = Takes-then bytes (slot_text (a.0.0 ∷ b.0.1) (cont_to place a.0.1)) a.0.2 (conts_text b.0.1 b.0.0) b.0.2 (first.text place b.0.1) others.0.text;
      places = (refl, others.0.places);
      fits = (first.fits, others.0.fits);
      many = ap suc others.0.many;
      valid = (first.valid, others.0.valid);
      credit = (first.credit, others.0.credit);
    } in
    subst (λ (y : List Cont × List Id × List ℕ). TookConts place bytes y.0 y.1 y.2 × (length y.0 ≡ suc n)) (ok_is (cont_to place a.0.1 ∷ b.0.0, a.0.0 ∷ b.0.1, b.0.2) x b.2) (made, ap suc others.1)

pub conts_again : (place : ℕ) (cs : List Cont) (ids : List Id) (rest : List ℕ) → IsCount place (places_of cs) → AllByRecursion FitsSlot cs → length ids ≡ length cs
    → AllByRecursion IsId ids → AllByRecursion HasRightCredit ids → conts_at place (length cs) (conts_text ids cs ++ rest) ≡ Ok (cs, ids, rest)
unfolding conts_at
conts_again place [] [] rest places fits many valid credit = refl
conts_again place [] (id ∷ ids) rest places fits many valid credit = absurd (omega arith)
conts_again place (c ∷ cs) [] rest places fits many valid credit = absurd (omega arith)
conts_again place (c ∷ cs) (id ∷ ids) rest places fits many valid credit =
    let others = conts_again (place + 1) cs ids rest places.1 fits.1 (omega arith) valid.1 credit.1 in
    let regrouped : conts_text (id ∷ ids) (c ∷ cs) ++ rest ≡ slot_text (id ∷ ids) c ++ (conts_text ids cs ++ rest) = append_assoc (slot_text (id ∷ ids) c) (conts_text ids cs) rest in
    ap (conts_at place (suc (length cs))) regrouped
    ∙ rw (slot_again id ids c (conts_text ids cs ++ rest) valid.0 credit.0 fits.0, others, ← places.0) refl

length-slot : (id : Id) (ids : List Id) (c : Cont) → length (slot_text (id ∷ ids) c) ≡ 20
unfolding slot_text
length-slot id ids c =
    let sixteen = length-id id in
    let four = length-number 4 c.slot in
    let sum = length-append (id_text id) (number_text 4 c.slot) in omega arith

length-conts : (ids : List Id) (cs : List Cont) → length ids ≡ length cs → length (conts_text ids cs) ≡ length cs * 20
length-conts [] [] e = refl
length-conts (id ∷ ids) [] e = absurd (omega arith)
length-conts [] (c ∷ cs) e = absurd (omega arith)
length-conts (id ∷ ids) (c ∷ cs) e =
    let one = length-slot id ids c in
    let others = length-conts ids cs (omega arith) in
    let sum = length-append (slot_text (id ∷ ids) c) (conts_text ids cs) in omega arith

conts_bytes : (ids : List Id) (cs : List Cont) → AreBytes (conts_text ids cs)
conts_bytes ids [] = tt
conts_bytes ids (c ∷ cs) = are-append (slot_text ids c) (conts_text (without_first ids) cs) (slot_bytes ids c) (conts_bytes (without_first ids) cs)

-- ---- states

-- what has a spelling, whatever its length
pub record IsWhole (s : State) : Type 0 where
  pub values : AreValues s.values
  pub refs : IsCount 0 (refs_in s.values)
  pub conts : IsCount (length (refs_in s.values)) (places_of s.conts)
  pub ids : length s.ids ≡ length (refs_in s.values) + length s.conts
  pub few : length s.ids ≤ 128
  pub credit : AllByRecursion HasRightCredit s.ids
  pub fits : FitsState s

abbrev kept : ℕ → List Value → List Cont → List Id → List Id → State
kept drawn values conts own last = record { drawn = drawn; values = values; conts = conts; ids = own ++ last }

kept_text : (drawn : ℕ) (values : List Value) (conts : List Cont) (own last : List Id) → length own ≡ length (refs_in values)
    → state_text (kept drawn values conts own last) ≡ number_text 4 drawn ++ (values_text (own ++ last) values ++ (number_text 2 (length conts) ++ conts_text last conts))
unfolding state_text
kept_text drawn values conts own last many =
    ap (λ (js : List Id). number_text 4 drawn ++ (values_text (own ++ last) values ++ (number_text 2 (length conts) ++ conts_text js conts))) (ids_after_own values own last many)

long_state_takes : (bytes : List ℕ) (x : State × List ℕ) → IsBytes bytes → long_state_at bytes ≡ Ok x → Takes bytes (state_text x.0) x.1 × IsWhole x.0
unfolding long_state_at kept_at
long_state_takes bytes x fits e =
    let a = bind_ok (number_at 4 bytes) (λ drawn. values_at 128 0 drawn.1 >>= λ values. kept_at drawn.0 values.0 values.1 values.2) x e in
    let b = bind_ok (values_at 128 0 a.0.1) (λ values. kept_at a.0.0 values.0 values.1 values.2) x a.2 in
    let c = bind_ok (count_at (128 - length b.0.1) b.0.2) (λ n. conts_at (length b.0.1) n.0 n.1 >>= λ conts. Ok (kept a.0.0 b.0.0 conts.0 b.0.1 conts.1, conts.2)) x b.2 in
    let d = bind_ok (conts_at (length b.0.1) c.0.0 c.0.1) (λ conts. Ok (kept a.0.0 b.0.0 conts.0 b.0.1 conts.1, conts.2)) x c.2 in
    let t0 = number_takes 4 wide4 bytes a.0.0 a.0.1 fits a.1 in
    let t1 = values_take 128 0 a.0.1 b.0 t0.0.rest_fits b.1 in
    let read = t1.1.1 in
    let t2 = count_takes (128 - length b.0.1) b.0.2 c.0.0 c.0.1 ((t1.0 []).rest_fits) c.1 in
    let t3 = conts_take c.0.0 (length b.0.1) c.0.1 d.0 t2.0.rest_fits d.1 in
    let own = b.0.1 in
    let last = d.0.1 in
    let many : length own ≡ length (refs_in b.0.0) = read.many in
    let few : 0 + length own ≤ 128 = read.few (omega arith) in
    let sum = length-append own last in
    let ends = t3.0.many in
    let counted = t3.1 in
    let part : List ℕ = number_text 2 (length d.0.0) ++ conts_text last d.0.0 in
    let taken : Takes b.0.2 part d.0.2 = subst (λ (n : ℕ). Takes b.0.2 (number_text 2 n ++ conts_text last d.0.0) d.0.2) (sym counted) (Takes-then b.0.2 (number_text 2 c.0.0) c.0.1 (conts_text last d.0.0) d.0.2 t2.0 t3.0.text) in
    let text : Takes bytes (number_text 4 a.0.0 ++ (values_text (own ++ last) b.0.0 ++ part)) d.0.2 =
    Takes-then bytes (number_text 4 a.0.0) a.0.1 (values_text (own ++ last) b.0.0 ++ part) d.0.2 t0.0
    (Takes-then a.0.1 (values_text (own ++ last) b.0.0) b.0.2 part d.0.2 (t1.0 last) taken) in
    let most = t2.1 in
    let whole : IsWhole (kept a.0.0 b.0.0 d.0.0 own last) = record {
      values = record { few = t1.2; each = read.each };
      refs = read.refs;
      conts = subst (λ (k : ℕ). IsCount k (places_of d.0.0)) many t3.0.places;
      ids = omega arith;
      few = omega arith;
      credit = all-append HasRightCredit own last read.credit t3.0.credit;
      fits = record { drawn = t0.1; values = read.fits; conts = t3.0.fits; ids = all-append IsId own last read.valid t3.0.valid };
    } in
    subst (λ (y : State × List ℕ). Takes bytes (state_text y.0) y.1 × IsWhole y.0) (ok_is (kept a.0.0 b.0.0 d.0.0 own last, d.0.2) x d.2)
    (subst (λ (t : List ℕ). Takes bytes t d.0.2) (sym (kept_text a.0.0 b.0.0 d.0.0 own last many)) text, whole)

kept_again : (drawn : ℕ) (values : List Value) (conts : List Cont) (own last : List Id) (rest : List ℕ) → length own ≡ length (refs_in values) → length last ≡ length conts
    → IsWhole (kept drawn values conts own last) → long_state_at (state_text (kept drawn values conts own last) ++ rest) ≡ Ok (kept drawn values conts own last, rest)
unfolding long_state_at kept_at
kept_again drawn values conts own last rest many ends whole =
    let middle : List ℕ = values_text (own ++ last) values in
    let count : List ℕ = number_text 2 (length conts) in
    let end : List ℕ = conts_text last conts in
    let regrouped : state_text (kept drawn values conts own last) ++ rest ≡ number_text 4 drawn ++ (middle ++ (count ++ (end ++ rest))) =
    ap (λ (t : List ℕ). t ++ rest) (kept_text drawn values conts own last many)
    ∙ append_assoc (number_text 4 drawn) (middle ++ (count ++ end)) rest
    ∙ ap (λ (t : List ℕ). number_text 4 drawn ++ t) (append_assoc middle (count ++ end) rest)
    ∙ ap (λ (t : List ℕ). number_text 4 drawn ++ (middle ++ t)) (append_assoc count end rest) in
    let sum = length-append own last in
    let few = whole.few in
    let given : Given 128 0 values own = record {
      each = whole.values.each;
      fits = whole.fits.values;
      refs = whole.refs;
      many = many;
      valid = all-front IsId own last whole.fits.ids;
      credit = all-front HasRightCredit own last whole.credit;
      few = omega arith;
    } in
    let places : IsCount (length own) (places_of conts) = subst (λ (k : ℕ). IsCount k (places_of conts)) (sym many) whole.conts in
    ap long_state_at regrouped
    ∙ rw (
      number_again 4 drawn (middle ++ (count ++ (end ++ rest))) whole.fits.drawn,
      values_again 128 0 values own last (count ++ (end ++ rest)) whole.values.few given,
      count_again (128 - length own) (length conts) (end ++ rest) (omega arith) (omega arith),
      conts_again (length own) conts last rest places whole.fits.conts ends (all-back IsId own last whole.fits.ids) (all-back HasRightCredit own last whole.credit),
    ) refl

abbrev with_ids : State → List Id → State
with_ids s ids = record { drawn = s.drawn; values = s.values; conts = s.conts; ids = ids }

-- the ids of a state are those of its values, and those of its continuations
parts_of : (s : State) → length s.ids ≡ length (refs_in s.values) + length s.conts
    → (own : List Id) × (last : List Id) × (s.ids ≡ own ++ last) × (length own ≡ length (refs_in s.values)) × (length last ≡ length s.conts)
parts_of s e =
    let k : ℕ = length (refs_in s.values) in
    (take k s.ids, drop k s.ids, sym (take-append-drop k s.ids), omega (arith, length-take k s.ids), omega (arith, length-drop k s.ids))

long_state_again : (s : State) (rest : List ℕ) → IsWhole s → long_state_at (state_text s ++ rest) ≡ Ok (s, rest)
long_state_again s rest whole =
    let p = parts_of s whole.ids in
    let Claim : List Id → Type 0 = λ ids. IsWhole (with_ids s ids) → long_state_at (state_text (with_ids s ids) ++ rest) ≡ Ok (with_ids s ids, rest) in
    subst Claim (sym p.2) (λ w. kept_again s.drawn s.values s.conts p.0 p.1 rest p.3 p.4 w) whole

length-state : (s : State) → IsWhole s → length (state_text s) ≡ 8 + values_size s.values + length s.conts * 20
length-state s whole =
    let p = parts_of s whole.ids in
    let Claim : List Id → Type 0 = λ ids. length (state_text (with_ids s ids)) ≡ 8 + values_size s.values + length s.conts * 20 in
    let four = length-number 4 s.drawn in
    let enough : length (refs_in s.values) ≤ length (p.0 ++ p.1) = omega (arith, length-append p.0 p.1, p.3) in
    let values = length-values (p.0 ++ p.1) s.values enough in
    let two = length-number 2 (length s.conts) in
    let conts = length-conts p.1 s.conts p.4 in
    let sum1 = length-append (number_text 2 (length s.conts)) (conts_text p.1 s.conts) in
    let sum2 = length-append (values_text (p.0 ++ p.1) s.values) (number_text 2 (length s.conts) ++ conts_text p.1 s.conts) in
    let sum3 = length-append (number_text 4 s.drawn) (values_text (p.0 ++ p.1) s.values ++ (number_text 2 (length s.conts) ++ conts_text p.1 s.conts)) in
    subst Claim (sym p.2) (ap length (kept_text s.drawn s.values s.conts p.0 p.1 p.3) ∙ omega arith)

whole_of : (s : State) → IsCarried s → FitsState s → IsWhole s
whole_of s is fits = record {
  values = is.shape.values;
  refs = is.shape.refs;
  conts = is.shape.conts;
  ids = is.shape.ids;
  few = is.shape.few;
  credit = is.credit;
  fits = fits;
}

pub state_takes : (bytes : List ℕ) (x : State × List ℕ) → IsBytes bytes → state_at bytes ≡ Ok x → Takes bytes (state_text x.0) x.1 × IsCarried x.0 × FitsState x.0
unfolding state_at
state_takes bytes x fits e =
    let a = bind_ok (long_state_at bytes) (within bytes) x e in
    let g = guard_ok (ltb (length a.0.1 + 65000) (length bytes)) (stop_at bytes BadValue) (Ok a.0) x a.2 in
    let t = long_state_takes bytes a.0 fits a.1 in
    let w = t.1 in
    let most : length bytes ≤ length a.0.1 + 65000 = ltb-false _ _ g.0 in
    let len = length-state a.0.0 w in
    let sum : length bytes ≡ length (state_text a.0.0) + length a.0.1 = ap length t.0.parts ∙ length-append (state_text a.0.0) a.0.1 in
    let carried : IsCarried a.0.0 = record {
      shape = record { values = w.values; refs = w.refs; conts = w.conts; ids = w.ids; few = w.few; short = omega arith };
      credit = w.credit;
    } in
    subst (λ (y : State × List ℕ). Takes bytes (state_text y.0) y.1 × IsCarried y.0 × FitsState y.0) (ok_is a.0 x g.1) (t.0, carried, w.fits)

pub state_again : (s : State) (rest : List ℕ) → IsCarried s → FitsState s → state_at (state_text s ++ rest) ≡ Ok (s, rest)
unfolding state_at
state_again s rest is fits =
    let w = whole_of s is fits in
    let len = length-state s w in
    let sum = length-append (state_text s) rest in
    let few = is.shape.short in
    let short : ltb (length rest + 65000) (length (state_text s ++ rest)) ≡ false = le-ltb _ _ (omega arith) in
    rw (long_state_again s rest w, short) refl

pub short_state : (s : State) → IsCarried s → FitsState s → length (state_text s) ≤ 65000
short_state s is fits = let len = length-state s (whole_of s is fits) in let few = is.shape.short in omega arith

pub state_bytes : (s : State) → IsCarried s → FitsState s → AreBytes (state_text s)
unfolding state_text
state_bytes s is fits =
    let last = ids_after s.ids s.values in
    are-append (number_text 4 s.drawn) (values_text s.ids s.values ++ (number_text 2 (length s.conts) ++ conts_text last s.conts)) (number_bytes 4 s.drawn)
    (are-append (values_text s.ids s.values) (number_text 2 (length s.conts) ++ conts_text last s.conts) (values_bytes s.ids s.values is.shape.values.each fits.values)
    (are-append (number_text 2 (length s.conts)) (conts_text last s.conts) (number_bytes 2 (length s.conts)) (conts_bytes last s.conts)))
