-- Reading one field after the other, as a loop does.
use Rattle.std.proofs.Common.{◌≡◌, ℕ, suc, ◌-◌, ◌+◌, ◌≤◌, ◌<◌, List, [], ◌∷◌, ◌++◌, length, Option, Result, Ok, Err, refl, sym, ap, ◌∙◌, append_assoc, arith}
use Rattle.std.specs.Prelude.{ℤ}
use Rattle.std.proofs.lemmas.List.{append-nil, length-append}
use Rattle.hpx_parcel.specs.declared.fields.Stop.{Stop}
use Rattle.hpx_parcel.specs.declared.fields.ReadError.{ReadError}
use Rattle.hpx_parcel.specs.declared.fields.ReadError.TheVariants as errors
use Rattle.hpx_parcel.specs.Reading.{◌>>=◌, Fails, int_at, numbers_at, value_at, each_at, id_list, joined, slot_at, conts_at, joined_conts}
use Rattle.hpx_parcel.specs.Types.{Id, Value, Cont}

-- what was read before, and what is still read
abbrev pub with_front : {A : Type 0} → List A → Result (List A × List ℕ) Stop → Result (List A × List ℕ) Stop
with_front front read = read >>= λ x. Ok (front ++ x.0, x.1)

regroup : {A : Type 0} (front : List A) (n : A) (read : Result (List A × List ℕ) Stop) → with_front front (read >>= λ x. Ok (n ∷ x.0, x.1)) ≡ with_front (front ++ n ∷ []) read
regroup {A} front n (Ok x) = ap (λ (ns : List A). Ok (ns, x.1)) (simp append_assoc)
regroup front n (Err f) = refl

pub numbers_go_on : (front : List ℤ) (count i : ℕ) (bytes : List ℕ) (n : ℤ) (after : List ℕ) (total : Result (List ℤ × List ℕ) Stop) → i < count → int_at bytes ≡ Ok (n, after)
    → with_front front (numbers_at (count - i) bytes) ≡ total → with_front (front ++ n ∷ []) (numbers_at (count - (i + 1)) after) ≡ total
unfolding numbers_at
numbers_go_on front count i bytes n after total lt h so_far =
    let k : count - i ≡ suc (count - (i + 1)) = omega arith in
    let one : with_front front (numbers_at (count - i) bytes) ≡ with_front (front ++ n ∷ []) (numbers_at (count - (i + 1)) after) = rw (k, h) (regroup front n (numbers_at (count - (i + 1)) after)) in
    sym one ∙ so_far

pub numbers_end : (e : ReadError) (front : List ℤ) (count i : ℕ) (bytes : List ℕ) (total : Result (List ℤ × List ℕ) Stop) → i < count → Fails e (int_at bytes)
    → with_front front (numbers_at (count - i) bytes) ≡ total → Fails e total
unfolding numbers_at
numbers_end errors.OutOfMemory front count i bytes total lt h so_far = tt
numbers_end (errors.Stop f) front count i bytes total lt h so_far =
    let k : count - i ≡ suc (count - (i + 1)) = omega arith in
    let one : with_front front (numbers_at (count - i) bytes) ≡ Err f = rw (k, h) refl in
    sym so_far ∙ one

pub numbers_done : (front : List ℤ) (count i : ℕ) (bytes : List ℕ) (total : Result (List ℤ × List ℕ) Stop) → count ≤ i → with_front front (numbers_at (count - i) bytes) ≡ total → total ≡ Ok (front, bytes)
unfolding numbers_at
numbers_done front count i bytes total le so_far =
    let k : count - i ≡ 0 = omega arith in
    let one : with_front front (numbers_at (count - i) bytes) ≡ Ok (front, bytes) = rw k (ap (λ (ns : List ℤ). Ok (ns, bytes)) (append-nil front)) in
    sym so_far ∙ one

regroup_both : (vs : List Value) (ids : List Id) (v : Value) (new : List Id) (read : Result (List Value × List Id × List ℕ) Stop)
    → joined vs ids (read >>= λ x. Ok (v ∷ x.0, new ++ x.1, x.2)) ≡ joined (vs ++ v ∷ []) (ids ++ new) read
regroup_both vs ids v new (Ok x) =
    let a : vs ++ (v ∷ x.0) ≡ (vs ++ v ∷ []) ++ x.0 = simp append_assoc in
    let b : ids ++ (new ++ x.1) ≡ (ids ++ new) ++ x.1 = simp append_assoc in
    ap (λ (w : List Value). Ok (w, ids ++ (new ++ x.1), x.2)) a ∙ ap (λ (w : List Id). Ok ((vs ++ v ∷ []) ++ x.0, w, x.2)) b
regroup_both vs ids v new (Err f) = refl

pub each_goes_on : (limit : ℕ) (vs : List Value) (ids : List Id) (count i : ℕ) (bytes : List ℕ) (v : Value) (o : Option Id) (after : List ℕ) (total : Result (List Value × List Id × List ℕ) Stop)
    → i < count → value_at limit (length ids) bytes ≡ Ok (v, o, after)
    → joined vs ids (each_at limit (length ids) (count - i) bytes) ≡ total
    → joined (vs ++ v ∷ []) (ids ++ id_list o) (each_at limit (length (ids ++ id_list o)) (count - (i + 1)) after) ≡ total
unfolding each_at
each_goes_on limit vs ids count i bytes v o after total lt h so_far =
    let k : count - i ≡ suc (count - (i + 1)) = omega arith in
    let len : length (ids ++ id_list o) ≡ length ids + length (id_list o) = length-append ids (id_list o) in
    let one : joined vs ids (each_at limit (length ids) (count - i) bytes) ≡ joined (vs ++ v ∷ []) (ids ++ id_list o) (each_at limit (length (ids ++ id_list o)) (count - (i + 1)) after) =
    rw (k, h, len) (regroup_both vs ids v (id_list o) (each_at limit (length ids + length (id_list o)) (count - (i + 1)) after)) in
    sym one ∙ so_far

pub each_ends : (limit : ℕ) (e : ReadError) (vs : List Value) (ids : List Id) (count i : ℕ) (bytes : List ℕ) (total : Result (List Value × List Id × List ℕ) Stop)
    → i < count → Fails e (value_at limit (length ids) bytes)
    → joined vs ids (each_at limit (length ids) (count - i) bytes) ≡ total → Fails e total
unfolding each_at
each_ends limit errors.OutOfMemory vs ids count i bytes total lt h so_far = tt
each_ends limit (errors.Stop f) vs ids count i bytes total lt h so_far =
    let k : count - i ≡ suc (count - (i + 1)) = omega arith in
    let one : joined vs ids (each_at limit (length ids) (count - i) bytes) ≡ Err f = rw (k, h) refl in
    sym so_far ∙ one

pub each_done : (limit : ℕ) (vs : List Value) (ids : List Id) (count i : ℕ) (bytes : List ℕ) (total : Result (List Value × List Id × List ℕ) Stop)
    → count ≤ i → joined vs ids (each_at limit (length ids) (count - i) bytes) ≡ total → total ≡ Ok (vs, ids, bytes)
unfolding each_at
each_done limit vs ids count i bytes total le so_far =
    let k : count - i ≡ 0 = omega arith in
    let one : joined vs ids (each_at limit (length ids) (count - i) bytes) ≡ Ok (vs, ids, bytes) = rw k (ap (λ (ws : List Value). Ok (ws, ids ++ [], bytes)) (append-nil vs) ∙ ap (λ (js : List Id). Ok (vs, js, bytes)) (append-nil ids)) in
    sym so_far ∙ one

-- ---- kept continuations

abbrev pub cont_to : ℕ → ℕ → Cont
cont_to place slot = record { place = place; slot = slot }

regroup_conts : (cs : List Cont) (ids : List Id) (c : Cont) (id : Id) (read : Result (List Cont × List Id × List ℕ) Stop)
    → joined_conts cs ids (read >>= λ x. Ok (c ∷ x.0, id ∷ x.1, x.2)) ≡ joined_conts (cs ++ c ∷ []) (ids ++ id ∷ []) read
regroup_conts cs ids c id (Ok x) =
    let a : cs ++ (c ∷ x.0) ≡ (cs ++ c ∷ []) ++ x.0 = simp append_assoc in
    let b : ids ++ (id ∷ x.1) ≡ (ids ++ id ∷ []) ++ x.1 = simp append_assoc in
    ap (λ (w : List Cont). Ok (w, ids ++ (id ∷ x.1), x.2)) a ∙ ap (λ (w : List Id). Ok ((cs ++ c ∷ []) ++ x.0, w, x.2)) b
regroup_conts cs ids c id (Err f) = refl

pub conts_go_on : (cs : List Cont) (ids : List Id) (count i : ℕ) (bytes : List ℕ) (id : Id) (slot : ℕ) (after : List ℕ) (total : Result (List Cont × List Id × List ℕ) Stop)
    → i < count → slot_at bytes ≡ Ok (id, slot, after)
    → joined_conts cs ids (conts_at (length ids) (count - i) bytes) ≡ total
    → joined_conts (cs ++ cont_to (length ids) slot ∷ []) (ids ++ id ∷ []) (conts_at (length (ids ++ id ∷ [])) (count - (i + 1)) after) ≡ total
unfolding conts_at
conts_go_on cs ids count i bytes id slot after total lt h so_far =
    let k : count - i ≡ suc (count - (i + 1)) = omega arith in
    let len : length (ids ++ id ∷ []) ≡ length ids + 1 = length-append ids (id ∷ []) in
    let one : joined_conts cs ids (conts_at (length ids) (count - i) bytes) ≡ joined_conts (cs ++ cont_to (length ids) slot ∷ []) (ids ++ id ∷ []) (conts_at (length (ids ++ id ∷ [])) (count - (i + 1)) after) =
    rw (k, h, len) (regroup_conts cs ids (cont_to (length ids) slot) id (conts_at (length ids + 1) (count - (i + 1)) after)) in
    sym one ∙ so_far

pub conts_end : (e : ReadError) (cs : List Cont) (ids : List Id) (count i : ℕ) (bytes : List ℕ) (total : Result (List Cont × List Id × List ℕ) Stop)
    → i < count → Fails e (slot_at bytes) → joined_conts cs ids (conts_at (length ids) (count - i) bytes) ≡ total → Fails e total
unfolding conts_at
conts_end errors.OutOfMemory cs ids count i bytes total lt h so_far = tt
conts_end (errors.Stop f) cs ids count i bytes total lt h so_far =
    let k : count - i ≡ suc (count - (i + 1)) = omega arith in
    let one : joined_conts cs ids (conts_at (length ids) (count - i) bytes) ≡ Err f = rw (k, h) refl in
    sym so_far ∙ one

pub conts_done : (cs : List Cont) (ids : List Id) (count i : ℕ) (bytes : List ℕ) (total : Result (List Cont × List Id × List ℕ) Stop)
    → count ≤ i → joined_conts cs ids (conts_at (length ids) (count - i) bytes) ≡ total → total ≡ Ok (cs, ids, bytes)
unfolding conts_at
conts_done cs ids count i bytes total le so_far =
    let k : count - i ≡ 0 = omega arith in
    let one : joined_conts cs ids (conts_at (length ids) (count - i) bytes) ≡ Ok (cs, ids, bytes) = rw k (ap (λ (ws : List Cont). Ok (ws, ids ++ [], bytes)) (append-nil cs) ∙ ap (λ (js : List Id). Ok (cs, js, bytes)) (append-nil ids)) in
    sym so_far ∙ one
