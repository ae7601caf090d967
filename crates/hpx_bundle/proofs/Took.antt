-- The parcel that bytes begin with is spelled so.
use Rattle.std.proofs.Common.{◌≡◌, ℕ, ◌-◌, ◌<◌, ◌≤◌, ◌^◌, Bool, true, false, cond, ltb, eqb, List, [], ◌∷◌, ◌++◌, length, take, Result, Ok, Err, refl, sym, ap, subst, ◌∙◌, append_assoc, arith}
use Rattle.std.proofs.lemmas.Bool.{eqb-true}
use Rattle.std.proofs.lemmas.List.{length-append, take_at}
use Rattle.hpx_value.specs.Ids.{Id, IsId}
use Rattle.hpx_value.specs.declared.value.Act.{Act}
use Rattle.hpx_parcel.specs.declared.parcel.Parcel.{Parcel}
use Rattle.hpx_parcel.specs.declared.parcel.Parcel.TheVariants.{Apply, Return, Ask, Give, Cached, Move, Go, Object, Landed, Free}
use Rattle.hpx_parcel.specs.declared.parcel.FaultAt.{FaultAt}
use Rattle.hpx_parcel.specs.declared.parcel.Why.TheVariants.{Long, Trailing}
use Rattle.hpx_parcel.specs.Spelling.{number_text, id_text, act_text, state_text, text_of}
use Rattle.hpx_parcel.specs.Parcels.{IsParcel, FitsParcel, IsFrame}
use Rattle.hpx_parcel.specs.Reading.{◌>>=◌, stop_at, next_byte, allows, id_at, pair_at, ask_at, object_at, act_at, fields_at, parcel_at, whole_of, placed, reading}
use Rattle.hpx_parcel.proofs.FieldLaws.{IsBytes, IsBytes-rest, bind_ok, test_ok, ok_is, Takes, Takes-then, Takes-byte, IsWide, wide2, wide8, number_takes, id_takes}
use Rattle.hpx_parcel.proofs.ValueLaws.{by_tag}
use Rattle.hpx_parcel.proofs.ActLaws.{IsSpelled, act_takes}
use Rattle.hpx_parcel.proofs.StateLaws.{state_takes}
use Rattle.hpx_parcel.proofs.Rules.{credited_is, least_is, bare_is, pair_takes, applied_is, moved_is}
use Rattle.hpx_parcel.proofs.Frames.{TookFrame}
use Rattle.hpx_bundle.specs.Unbundling.{trails}
use Rattle.hpx_bundle.proofs.Calm.{Stop, IdRule, ActRule, trailing_in, Calm, parcel_calm}

-- behind version 1 and the kind
took : (kind : ℕ) (bytes : List ℕ) (p : Parcel) (text rest : List ℕ) → 1 ∷ kind ∷ text ≡ text_of p → Takes bytes text rest → IsParcel p × FitsParcel p → TookFrame (1 ∷ kind ∷ bytes) p rest
took kind bytes p text rest e t is =
    let whole : Takes (1 ∷ kind ∷ bytes) (1 ∷ kind ∷ text) rest = Takes-byte 1 (kind ∷ bytes) (kind ∷ text) rest (Takes-byte kind bytes text rest t) in
    (subst (λ (w : List ℕ). Takes (1 ∷ kind ∷ bytes) w rest) e whole, is.0, is.1)

took_act : (kind : ℕ) (rule : ActRule) (make : Act → Parcel) (bytes : List ℕ) (x : Parcel × List ℕ) → IsBytes bytes → (act_at rule bytes >>= λ a. Ok (make a.0, a.1)) ≡ Ok x
    → ((a : Act) → 1 ∷ kind ∷ act_text a ≡ text_of (make a)) → ((a : Act) → IsSpelled rule a → IsParcel (make a) × FitsParcel (make a)) → TookFrame (1 ∷ kind ∷ bytes) x.0 x.1
took_act kind rule make bytes x fits e text is =
    let a = bind_ok (act_at rule bytes) (λ y. Ok (make y.0, y.1)) x e in
    let t = act_takes rule bytes a.0 fits a.1 in
    subst (λ (y : Parcel × List ℕ). TookFrame (1 ∷ kind ∷ bytes) y.0 y.1) (ok_is (make a.0.0, a.0.1) x a.2) (took kind bytes (make a.0.0) (act_text a.0.0) a.0.1 (text a.0.0) t.0 (is a.0.0 t.1))

took_id : (kind : ℕ) (rule : IdRule) (make : Id → Parcel) (bytes : List ℕ) (x : Parcel × List ℕ) → IsBytes bytes → (id_at rule bytes >>= λ y. Ok (make y.0, y.1)) ≡ Ok x
    → ((id : Id) → 1 ∷ kind ∷ id_text id ≡ text_of (make id)) → ((id : Id) → IsId id → allows rule id ≡ true → IsParcel (make id) × FitsParcel (make id)) → TookFrame (1 ∷ kind ∷ bytes) x.0 x.1
took_id kind rule make bytes x fits e text is =
    let a = bind_ok (id_at rule bytes) (λ y. Ok (make y.0, y.1)) x e in
    let t = id_takes rule bytes a.0.0 a.0.1 fits a.1 in
    subst (λ (y : Parcel × List ℕ). TookFrame (1 ∷ kind ∷ bytes) y.0 y.1) (ok_is (make a.0.0, a.0.1) x a.2) (took kind bytes (make a.0.0) (id_text a.0.0) a.0.1 (text a.0.0) t.0 (is a.0.0 t.1 t.2))

took_pair : (kind : ℕ) (rule : IdRule) (n : ℕ) (make : Id → ℕ → Parcel) (bytes : List ℕ) (x : Parcel × List ℕ) → IsWide n → IsBytes bytes → (pair_at rule n bytes >>= λ y. Ok (make y.0 y.1, y.2)) ≡ Ok x
    → ((id : Id) (k : ℕ) → 1 ∷ kind ∷ (id_text id ++ number_text n k) ≡ text_of (make id k)) → ((id : Id) (k : ℕ) → IsId id → allows rule id ≡ true → k < 256 ^ n → IsParcel (make id k) × FitsParcel (make id k))
    → TookFrame (1 ∷ kind ∷ bytes) x.0 x.1
took_pair kind rule n make bytes x wide fits e text is =
    let a = bind_ok (pair_at rule n bytes) (λ y. Ok (make y.0 y.1, y.2)) x e in
    let t = pair_takes rule n wide bytes a.0 fits a.1 in
    subst (λ (y : Parcel × List ℕ). TookFrame (1 ∷ kind ∷ bytes) y.0 y.1) (ok_is (make a.0.0 a.0.1, a.0.2) x a.2)
    (took kind bytes (make a.0.0 a.0.1) (id_text a.0.0 ++ number_text n a.0.1) a.0.2 (text a.0.0 a.0.1) t.0 (is a.0.0 a.0.1 t.1 t.2 t.3))

took_ask : (bytes : List ℕ) (x : Parcel × List ℕ) → IsBytes bytes → ask_at bytes ≡ Ok x → TookFrame (1 ∷ 3 ∷ bytes) x.0 x.1
unfolding text_of ask_at
took_ask bytes x fits e =
    let a = bind_ok _ _ x e in
    let b = bind_ok _ _ x a.2 in
    let t = pair_takes _ 2 wide2 bytes a.0 fits a.1 in
    let u = number_takes 8 wide8 a.0.2 b.0.0 b.0.1 t.0.rest_fits b.1 in
    let both = Takes-then bytes (id_text a.0.0 ++ number_text 2 a.0.1) a.0.2 (number_text 8 b.0.0) b.0.1 t.0 u.0 in
    let text : Takes bytes (id_text a.0.0 ++ (number_text 2 a.0.1 ++ number_text 8 b.0.0)) b.0.1 = subst (λ (w : List ℕ). Takes bytes w b.0.1) (append_assoc (id_text a.0.0) (number_text 2 a.0.1) (number_text 8 b.0.0)) both in
    subst (λ (y : Parcel × List ℕ). TookFrame (1 ∷ 3 ∷ bytes) y.0 y.1) (ok_is (Ask a.0.0 a.0.1 b.0.0, b.0.1) x b.2)
    (took 3 bytes (Ask a.0.0 a.0.1 b.0.0) (id_text a.0.0 ++ (number_text 2 a.0.1 ++ number_text 8 b.0.0)) b.0.1 refl text (least_is a.0.0 t.2, (t.1, t.3, u.1)))

took_object : (bytes : List ℕ) (x : Parcel × List ℕ) → IsBytes bytes → object_at bytes ≡ Ok x → TookFrame (1 ∷ 8 ∷ bytes) x.0 x.1
unfolding text_of object_at
took_object bytes x fits e =
    let a = bind_ok _ _ x e in
    let b = bind_ok _ _ x a.2 in
    let t = act_takes _ bytes a.0 fits a.1 in
    let u = state_takes a.0.1 b.0 t.0.rest_fits b.1 in
    let is = moved_is a.0.0 t.1 in
    let both = Takes-then bytes (act_text a.0.0) a.0.1 (state_text b.0.0) b.0.1 t.0 u.0 in
    subst (λ (y : Parcel × List ℕ). TookFrame (1 ∷ 8 ∷ bytes) y.0 y.1) (ok_is (Object a.0.0 b.0.0, b.0.1) x b.2)
    (took 8 bytes (Object a.0.0 b.0.0) (act_text a.0.0 ++ state_text b.0.0) b.0.1 refl both ((is.0, u.1), (is.1, u.2)))

fields_take : (kind : ℕ) (bytes : List ℕ) (x : Parcel × List ℕ) → IsBytes bytes → fields_at kind (kind ∷ bytes) bytes ≡ Ok x → TookFrame (1 ∷ kind ∷ bytes) x.0 x.1
unfolding fields_at text_of
fields_take kind bytes x fits e =
    let P : ℕ → Type 0 = λ k. TookFrame (1 ∷ k ∷ bytes) x.0 x.1 in
    by_tag kind 1 _ _ _ P e (λ e1. took_act 1 _ Apply bytes x fits e1 (λ a. refl) applied_is)
    (λ f1. by_tag kind 2 _ _ _ P f1 (λ e2. took_id 2 _ Return bytes x fits e2 (λ id. refl) (λ id valid a. (credited_is id a, valid)))
    (λ f2. by_tag kind 3 _ _ _ P f2 (λ e3. took_ask bytes x fits e3)
    (λ f3. by_tag kind 4 _ _ _ P f3 (λ e4. took_pair 4 _ 8 Give bytes x wide8 fits e4 (λ id k. refl) (λ id k valid a few. (credited_is id a, (valid, few))))
    (λ f4. by_tag kind 5 _ _ _ P f4 (λ e5. took_pair 5 _ 2 Cached bytes x wide2 fits e5 (λ id k. refl) (λ id k valid a few. (bare_is id a, (valid, few))))
    (λ f5. by_tag kind 6 _ _ _ P f5 (λ e6. took_act 6 _ Move bytes x fits e6 (λ a. refl) moved_is)
    (λ f6. by_tag kind 7 _ _ _ P f6 (λ e7. took_act 7 _ Go bytes x fits e7 (λ a. refl) moved_is)
    (λ f7. by_tag kind 8 _ _ _ P f7 (λ e8. took_object bytes x fits e8)
    (λ f8. by_tag kind 9 _ _ _ P f8 (λ e9. took_pair 9 _ 2 Landed bytes x wide2 fits e9 (λ id k. refl) (λ id k valid a few. (credited_is id a, (valid, few))))
    (λ f9. by_tag kind 10 _ _ _ P f9 (λ e10. took_id 10 _ Free bytes x fits e10 (λ id. refl) (λ id valid a. (bare_is id a, valid)))
    (λ f10. absurd (cc f10)))))))))))

no_kind : (b : Bool) (d : Stop) (x : Parcel × List ℕ) → (cond b (next_byte []) (Err d) >>= λ k. fields_at k.0 [] k.1) ≡ Ok x → ⊥
no_kind true d x e = cc
no_kind false d x e = cc

pub parcel_takes : (bytes : List ℕ) (x : Parcel × List ℕ) → IsBytes bytes → parcel_at bytes ≡ Ok x → TookFrame bytes x.0 x.1
unfolding parcel_at
parcel_takes [] x fits e = absurd cc
parcel_takes (version ∷ []) x fits e = absurd (no_kind (eqb version 1) _ x e)
parcel_takes (version ∷ (kind ∷ bytes)) x fits e =
    let a = bind_ok _ (λ k. fields_at k.0 (kind ∷ bytes) k.1) x e in
    let g = test_ok (eqb version 1) _ (Ok (kind, bytes)) a.0 a.1 in
    let same = ok_is (kind, bytes) a.0 g.1 in
    let fields : fields_at kind (kind ∷ bytes) bytes ≡ Ok x = subst (λ (k : ℕ × List ℕ). fields_at k.0 (kind ∷ bytes) k.1 ≡ Ok x) (sym same) a.2 in
    subst (λ (v : ℕ). TookFrame (v ∷ kind ∷ bytes) x.0 x.1) (sym (eqb-true _ _ g.0)) (fields_take kind bytes x (IsBytes-rest kind bytes (IsBytes-rest version (kind ∷ bytes) fits)) fields)

-- ---- bytes behind a frame

abbrev place_in : Result Parcel FaultAt → ℕ
place_in (Ok p) = 0
place_in (Err f) = f.at

ended : (b : Bool) (n : ℕ) (x : Parcel × List ℕ) (f : FaultAt) → placed n (cond b (Ok x.0) (Err (stop_at x.1 Trailing))) ≡ Err f → f.at ≡ n - length x.1
ended true n x f e = absurd cc
ended false n x f e = sym (ap place_in e)

not_both : false ≡ true → ⊥
not_both e = cc

by_reading : (bytes : List ℕ) (r : Result (Parcel × List ℕ) Stop) (b : Bool) (f : FaultAt) → Calm r
    → cond b (Err (record { at = 65536; why = Long })) (placed (length bytes) (r >>= λ p. cond (eqb (length p.1) 0) (Ok p.0) (Err (stop_at p.1 Trailing)))) ≡ Err f → trails f.why ≡ true
    → (x : Parcel × List ℕ) × (r ≡ Ok x) × (f.at ≡ length bytes - length x.1)
by_reading bytes r true f c e t = absurd (not_both (ap trailing_in e ∙ t))
by_reading bytes (Ok x) false f c e t = (x, refl, ended (eqb (length x.1) 0) (length bytes) x f e)
by_reading bytes (Err s) false f c e t = absurd (not_both (sym c.is ∙ (ap trailing_in e ∙ t)))

-- what is in front of bytes that trail is a frame
pub trailing : (bytes : List ℕ) (f : FaultAt) → IsBytes bytes → reading bytes ≡ Err f → trails f.why ≡ true → IsFrame (take f.at bytes) × (f.at ≤ length bytes)
unfolding reading whole_of
trailing bytes f fits e t =
    let o = by_reading bytes (parcel_at bytes) (ltb 65536 (length bytes)) f (parcel_calm bytes) e t in
    let k = parcel_takes bytes o.0 fits o.1 in
    let whole = ap length k.0.parts in
    let sum = length-append (text_of o.0.0) o.0.1 in
    let place = o.2 in
    let at : length (text_of o.0.0) ≡ f.at = omega (arith, whole, sum, place) in
    let front : take f.at bytes ≡ text_of o.0.0 = ap (λ (b : List ℕ). take f.at b) k.0.parts ∙ take_at (text_of o.0.0) o.0.1 f.at at in
    ((o.0.0, record { parcel = k.1; fits = k.2; text = front }), omega (arith, whole, sum, at))
