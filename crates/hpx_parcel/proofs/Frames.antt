-- Frames: what is read is spelled so, and what is spelled so is read.
use Rattle.std.proofs.Common.{◌≡◌, ℕ, ◌+◌, ◌^◌, ◌<◌, ◌≤◌, Bool, true, false, cond, ltb, eqb, List, [], ◌∷◌, ◌++◌, length, Option, Some, None, Result, Ok, Err, refl, sym, ap, subst, ◌∙◌, append_assoc, arith}
use Rattle.std.specs.Prelude.{IfOk, IfErr}
use Rattle.std.proofs.lemmas.Bool.{le-ltb, eqb-true}
use Rattle.std.proofs.lemmas.List.{append-nil, length-append, nil_from_length}
use Rattle.hpx_value.specs.Ids.{IsId}
use Rattle.hpx_value.specs.Shapes.{cont_size}
use Rattle.hpx_parcel.specs.Types.{Id, Cont, State, Act, Parcel, Apply, Return, Ask, Give, Cached, Move, Go, Object, Landed, Free, Kind, Trailing}
use Rattle.hpx_parcel.specs.Spelling.{number_text, id_text, act_text, state_text, text_of}
use Rattle.hpx_parcel.specs.Parcels.{HasLeastCredit, IsSent, IsMove, IsCarried, IsParcel, FitsAct, FitsState, FitsParcel, Spells}
use Rattle.hpx_parcel.specs.Reading.{◌>>=◌, Stop, ActRule, stop_at, next_byte, number_at, Credited, Least, Bare, Applied, Moves, id_at, pair_at, ask_at, object_at, act_at, state_at, fields_at, parcel_at, whole_of, FaultAt, placed, reading, read_of, are_bytes, parcel_of, IsRefused, Refuses, Stops}
use Rattle.hpx_parcel.specs.Credits.{credits_of, credits_in, ids_in, parcel_credits}
use Rattle.hpx_parcel.specs.declared.parcel.DecodeFault.{DecodeFault}
use Rattle.hpx_parcel.specs.declared.parcel.DecodeFault.TheVariants as faults
use Rattle.hpx_parcel.proofs.FieldLaws.{IsBytes, IsBytes-rest, bind_ok, test_ok, ok_is, Takes, Takes-then, Takes-byte, wide2, wide8, number_takes, number_again, length-number, id_takes, id_again}
use Rattle.hpx_parcel.proofs.ValueLaws.{by_tag}
use Rattle.hpx_parcel.proofs.Each.{length-id}
use Rattle.hpx_parcel.proofs.ActLaws.{IsSpelled, act_takes, act_again, length-act}
use Rattle.hpx_parcel.proofs.StateLaws.{state_takes, state_again, short_state, state_bytes}
use Rattle.hpx_parcel.proofs.Rules.{credited_is, credited_back, least_is, least_back, bare_is, bare_back, pair_takes, pair_again, applied_is, applied_back, moved_is, moved_back, short_move}
use Rattle.hpx_parcel.proofs.Bytes.{AreBytes, are-append, number_bytes, id_bytes, act_bytes, are_tested, are_from_test}

-- ---- frames

abbrev pub TookFrame : List ℕ → Parcel → List ℕ → Type 0
TookFrame bytes p rest = Takes bytes (text_of p) rest × IsParcel p × FitsParcel p

-- behind version 1 and the kind
took : (kind : ℕ) (bytes : List ℕ) (p : Parcel) (text rest : List ℕ) → 1 ∷ kind ∷ text ≡ text_of p → Takes bytes text rest → IsParcel p → FitsParcel p
    → TookFrame (1 ∷ kind ∷ bytes) p rest
took kind bytes p text rest e t is fits =
    let whole : Takes (1 ∷ kind ∷ bytes) (1 ∷ kind ∷ text) rest = Takes-byte 1 (kind ∷ bytes) (kind ∷ text) rest (Takes-byte kind bytes text rest t) in
    (subst (λ (w : List ℕ). Takes (1 ∷ kind ∷ bytes) w rest) e whole, is, fits)

took_apply : (bytes : List ℕ) (x : Parcel × List ℕ) → IsBytes bytes → (act_at Applied bytes >>= λ a. Ok (Apply a.0, a.1)) ≡ Ok x → TookFrame (1 ∷ 1 ∷ bytes) x.0 x.1
unfolding text_of
took_apply bytes x fits e =
    let a = bind_ok (act_at Applied bytes) (λ y. Ok (Apply y.0, y.1)) x e in
    let t = act_takes Applied bytes a.0 fits a.1 in
    let is = applied_is a.0.0 t.1 in
    subst (λ (y : Parcel × List ℕ). TookFrame (1 ∷ 1 ∷ bytes) y.0 y.1) (ok_is (Apply a.0.0, a.0.1) x a.2) (took 1 bytes (Apply a.0.0) (act_text a.0.0) a.0.1 refl t.0 is.0 is.1)

took_return : (bytes : List ℕ) (x : Parcel × List ℕ) → IsBytes bytes → (id_at Credited bytes >>= λ y. Ok (Return y.0, y.1)) ≡ Ok x → TookFrame (1 ∷ 2 ∷ bytes) x.0 x.1
unfolding text_of
took_return bytes x fits e =
    let a = bind_ok (id_at Credited bytes) (λ y. Ok (Return y.0, y.1)) x e in
    let t = id_takes Credited bytes a.0.0 a.0.1 fits a.1 in
    subst (λ (y : Parcel × List ℕ). TookFrame (1 ∷ 2 ∷ bytes) y.0 y.1) (ok_is (Return a.0.0, a.0.1) x a.2) (took 2 bytes (Return a.0.0) (id_text a.0.0) a.0.1 refl t.0 (credited_is a.0.0 t.2) t.1)

took_ask : (bytes : List ℕ) (x : Parcel × List ℕ) → IsBytes bytes → ask_at bytes ≡ Ok x → TookFrame (1 ∷ 3 ∷ bytes) x.0 x.1
unfolding text_of ask_at
took_ask bytes x fits e =
    let a = bind_ok (pair_at Least 2 bytes) (λ y. number_at 8 y.2 >>= λ entry. Ok (Ask y.0 y.1 entry.0, entry.1)) x e in
    let b = bind_ok (number_at 8 a.0.2) (λ entry. Ok (Ask a.0.0 a.0.1 entry.0, entry.1)) x a.2 in
    let t = pair_takes Least 2 wide2 bytes a.0 fits a.1 in
    let u = number_takes 8 wide8 a.0.2 b.0.0 b.0.1 t.0.rest_fits b.1 in
    let both = Takes-then bytes (id_text a.0.0 ++ number_text 2 a.0.1) a.0.2 (number_text 8 b.0.0) b.0.1 t.0 u.0 in
    let text : Takes bytes (id_text a.0.0 ++ (number_text 2 a.0.1 ++ number_text 8 b.0.0)) b.0.1 = subst (λ (w : List ℕ). Takes bytes w b.0.1) (append_assoc (id_text a.0.0) (number_text 2 a.0.1) (number_text 8 b.0.0)) both in
    subst (λ (y : Parcel × List ℕ). TookFrame (1 ∷ 3 ∷ bytes) y.0 y.1) (ok_is (Ask a.0.0 a.0.1 b.0.0, b.0.1) x b.2)
    (took 3 bytes (Ask a.0.0 a.0.1 b.0.0) (id_text a.0.0 ++ (number_text 2 a.0.1 ++ number_text 8 b.0.0)) b.0.1 refl text (least_is a.0.0 t.2) (t.1, t.3, u.1))

took_give : (bytes : List ℕ) (x : Parcel × List ℕ) → IsBytes bytes → (pair_at Credited 8 bytes >>= λ y. Ok (Give y.0 y.1, y.2)) ≡ Ok x → TookFrame (1 ∷ 4 ∷ bytes) x.0 x.1
unfolding text_of
took_give bytes x fits e =
    let a = bind_ok (pair_at Credited 8 bytes) (λ y. Ok (Give y.0 y.1, y.2)) x e in
    let t = pair_takes Credited 8 wide8 bytes a.0 fits a.1 in
    subst (λ (y : Parcel × List ℕ). TookFrame (1 ∷ 4 ∷ bytes) y.0 y.1) (ok_is (Give a.0.0 a.0.1, a.0.2) x a.2)
    (took 4 bytes (Give a.0.0 a.0.1) (id_text a.0.0 ++ number_text 8 a.0.1) a.0.2 refl t.0 (credited_is a.0.0 t.2) (t.1, t.3))

took_cached : (bytes : List ℕ) (x : Parcel × List ℕ) → IsBytes bytes → (pair_at Bare 2 bytes >>= λ y. Ok (Cached y.0 y.1, y.2)) ≡ Ok x → TookFrame (1 ∷ 5 ∷ bytes) x.0 x.1
unfolding text_of
took_cached bytes x fits e =
    let a = bind_ok (pair_at Bare 2 bytes) (λ y. Ok (Cached y.0 y.1, y.2)) x e in
    let t = pair_takes Bare 2 wide2 bytes a.0 fits a.1 in
    subst (λ (y : Parcel × List ℕ). TookFrame (1 ∷ 5 ∷ bytes) y.0 y.1) (ok_is (Cached a.0.0 a.0.1, a.0.2) x a.2)
    (took 5 bytes (Cached a.0.0 a.0.1) (id_text a.0.0 ++ number_text 2 a.0.1) a.0.2 refl t.0 (bare_is a.0.0 t.2) (t.1, t.3))

took_move : (bytes : List ℕ) (x : Parcel × List ℕ) → IsBytes bytes → (act_at Moves bytes >>= λ a. Ok (Move a.0, a.1)) ≡ Ok x → TookFrame (1 ∷ 6 ∷ bytes) x.0 x.1
unfolding text_of
took_move bytes x fits e =
    let a = bind_ok (act_at Moves bytes) (λ y. Ok (Move y.0, y.1)) x e in
    let t = act_takes Moves bytes a.0 fits a.1 in
    let is = moved_is a.0.0 t.1 in
    subst (λ (y : Parcel × List ℕ). TookFrame (1 ∷ 6 ∷ bytes) y.0 y.1) (ok_is (Move a.0.0, a.0.1) x a.2) (took 6 bytes (Move a.0.0) (act_text a.0.0) a.0.1 refl t.0 is.0 is.1)

took_go : (bytes : List ℕ) (x : Parcel × List ℕ) → IsBytes bytes → (act_at Moves bytes >>= λ a. Ok (Go a.0, a.1)) ≡ Ok x → TookFrame (1 ∷ 7 ∷ bytes) x.0 x.1
unfolding text_of
took_go bytes x fits e =
    let a = bind_ok (act_at Moves bytes) (λ y. Ok (Go y.0, y.1)) x e in
    let t = act_takes Moves bytes a.0 fits a.1 in
    let is = moved_is a.0.0 t.1 in
    subst (λ (y : Parcel × List ℕ). TookFrame (1 ∷ 7 ∷ bytes) y.0 y.1) (ok_is (Go a.0.0, a.0.1) x a.2) (took 7 bytes (Go a.0.0) (act_text a.0.0) a.0.1 refl t.0 is.0 is.1)

took_object : (bytes : List ℕ) (x : Parcel × List ℕ) → IsBytes bytes → object_at bytes ≡ Ok x → TookFrame (1 ∷ 8 ∷ bytes) x.0 x.1
unfolding text_of object_at
took_object bytes x fits e =
    let a = bind_ok (act_at Moves bytes) (λ y. state_at y.1 >>= λ s. Ok (Object y.0 s.0, s.1)) x e in
    let b = bind_ok (state_at a.0.1) (λ s. Ok (Object a.0.0 s.0, s.1)) x a.2 in
    let t = act_takes Moves bytes a.0 fits a.1 in
    let u = state_takes a.0.1 b.0 t.0.rest_fits b.1 in
    let is = moved_is a.0.0 t.1 in
    let both = Takes-then bytes (act_text a.0.0) a.0.1 (state_text b.0.0) b.0.1 t.0 u.0 in
    subst (λ (y : Parcel × List ℕ). TookFrame (1 ∷ 8 ∷ bytes) y.0 y.1) (ok_is (Object a.0.0 b.0.0, b.0.1) x b.2)
    (took 8 bytes (Object a.0.0 b.0.0) (act_text a.0.0 ++ state_text b.0.0) b.0.1 refl both (is.0, u.1) (is.1, u.2))

took_landed : (bytes : List ℕ) (x : Parcel × List ℕ) → IsBytes bytes → (pair_at Credited 2 bytes >>= λ y. Ok (Landed y.0 y.1, y.2)) ≡ Ok x → TookFrame (1 ∷ 9 ∷ bytes) x.0 x.1
unfolding text_of
took_landed bytes x fits e =
    let a = bind_ok (pair_at Credited 2 bytes) (λ y. Ok (Landed y.0 y.1, y.2)) x e in
    let t = pair_takes Credited 2 wide2 bytes a.0 fits a.1 in
    subst (λ (y : Parcel × List ℕ). TookFrame (1 ∷ 9 ∷ bytes) y.0 y.1) (ok_is (Landed a.0.0 a.0.1, a.0.2) x a.2)
    (took 9 bytes (Landed a.0.0 a.0.1) (id_text a.0.0 ++ number_text 2 a.0.1) a.0.2 refl t.0 (credited_is a.0.0 t.2) (t.1, t.3))

took_free : (bytes : List ℕ) (x : Parcel × List ℕ) → IsBytes bytes → (id_at Bare bytes >>= λ y. Ok (Free y.0, y.1)) ≡ Ok x → TookFrame (1 ∷ 10 ∷ bytes) x.0 x.1
unfolding text_of
took_free bytes x fits e =
    let a = bind_ok (id_at Bare bytes) (λ y. Ok (Free y.0, y.1)) x e in
    let t = id_takes Bare bytes a.0.0 a.0.1 fits a.1 in
    subst (λ (y : Parcel × List ℕ). TookFrame (1 ∷ 10 ∷ bytes) y.0 y.1) (ok_is (Free a.0.0, a.0.1) x a.2) (took 10 bytes (Free a.0.0) (id_text a.0.0) a.0.1 refl t.0 (bare_is a.0.0 t.2) t.1)

fields_take : (kind : ℕ) (bytes : List ℕ) (x : Parcel × List ℕ) → IsBytes bytes → fields_at kind (kind ∷ bytes) bytes ≡ Ok x → TookFrame (1 ∷ kind ∷ bytes) x.0 x.1
unfolding fields_at
fields_take kind bytes x fits e =
    let P : ℕ → Type 0 = λ k. TookFrame (1 ∷ k ∷ bytes) x.0 x.1 in
    by_tag kind 1 _ _ _ P e (took_apply bytes x fits)
    (λ e2. by_tag kind 2 _ _ _ P e2 (took_return bytes x fits)
    (λ e3. by_tag kind 3 _ _ _ P e3 (took_ask bytes x fits)
    (λ e4. by_tag kind 4 _ _ _ P e4 (took_give bytes x fits)
    (λ e5. by_tag kind 5 _ _ _ P e5 (took_cached bytes x fits)
    (λ e6. by_tag kind 6 _ _ _ P e6 (took_move bytes x fits)
    (λ e7. by_tag kind 7 _ _ _ P e7 (took_go bytes x fits)
    (λ e8. by_tag kind 8 _ _ _ P e8 (took_object bytes x fits)
    (λ e9. by_tag kind 9 _ _ _ P e9 (took_landed bytes x fits)
    (λ e10. by_tag kind 10 _ _ _ P e10 (took_free bytes x fits)
    (λ e11. absurd (cc e11)))))))))))

no_kind : (b : Bool) (d : Stop) (x : Parcel × List ℕ) → (cond b (next_byte []) (Err d) >>= λ k. fields_at k.0 [] k.1) ≡ Ok x → ⊥
no_kind true d x e = cc
no_kind false d x e = cc

parcel_takes : (bytes : List ℕ) (x : Parcel × List ℕ) → IsBytes bytes → parcel_at bytes ≡ Ok x → TookFrame bytes x.0 x.1
unfolding parcel_at
parcel_takes [] x fits e = absurd cc
parcel_takes (version ∷ []) x fits e = absurd (no_kind (eqb version 1) (stop_at (version ∷ []) Kind) x e)
parcel_takes (version ∷ (kind ∷ bytes)) x fits e =
    let a = bind_ok (cond (eqb version 1) (Ok (kind, bytes)) (Err (stop_at (version ∷ kind ∷ bytes) Kind))) (λ k. fields_at k.0 (kind ∷ bytes) k.1) x e in
    let g = test_ok (eqb version 1) (stop_at (version ∷ kind ∷ bytes) Kind) (Ok (kind, bytes)) a.0 a.1 in
    let same = ok_is (kind, bytes) a.0 g.1 in
    let fields : fields_at kind (kind ∷ bytes) bytes ≡ Ok x = subst (λ (k : ℕ × List ℕ). fields_at k.0 (kind ∷ bytes) k.1 ≡ Ok x) (sym same) a.2 in
    subst (λ (v : ℕ). TookFrame (v ∷ kind ∷ bytes) x.0 x.1) (sym (eqb-true _ _ g.0)) (fields_take kind bytes x (IsBytes-rest kind bytes (IsBytes-rest version (kind ∷ bytes) fits)) fields)

object_again : (a : Act) (s : State) (rest : List ℕ) → IsMove a → IsCarried s → FitsAct a → FitsState s
    → object_at ((act_text a ++ state_text s) ++ rest) ≡ Ok (Object a s, rest)
unfolding object_at
object_again a s rest move carried fits fits' =
    ap object_at (append_assoc (act_text a) (state_text s) rest)
    ∙ rw (act_again Moves a (state_text s ++ rest) (moved_back a move fits), state_again s rest carried fits') refl

ask_again : (id : Id) (asker entry : ℕ) (rest : List ℕ) → HasLeastCredit id → IsId id → asker < 2 ^ 16 → entry < 2 ^ 64
    → ask_at ((id_text id ++ (number_text 2 asker ++ number_text 8 entry)) ++ rest) ≡ Ok (Ask id asker entry, rest)
unfolding ask_at
ask_again id asker entry rest is valid fits fits' =
    let regrouped : (id_text id ++ (number_text 2 asker ++ number_text 8 entry)) ++ rest ≡ (id_text id ++ number_text 2 asker) ++ (number_text 8 entry ++ rest) = simp append_assoc in
    ap ask_at regrouped ∙ rw (pair_again Least 2 id asker (number_text 8 entry ++ rest) valid (least_back id is) fits, number_again 8 entry rest fits') refl

parcel_again : (p : Parcel) (rest : List ℕ) → IsParcel p → FitsParcel p → parcel_at (text_of p ++ rest) ≡ Ok (p, rest)
unfolding parcel_at fields_at text_of
parcel_again (Apply a) rest is fits = rw (act_again Applied a rest (applied_back a is fits)) refl
parcel_again (Return id) rest is fits = rw (id_again Credited id rest fits (credited_back id is)) refl
parcel_again (Ask id asker entry) rest is fits = rw (ask_again id asker entry rest is fits.0 fits.1 fits.2) refl
parcel_again (Give id entry) rest is fits = rw (pair_again Credited 8 id entry rest fits.0 (credited_back id is) fits.1) refl
parcel_again (Cached id place) rest is fits = rw (pair_again Bare 2 id place rest fits.0 (bare_back id is) fits.1) refl
parcel_again (Move a) rest is fits = rw (act_again Moves a rest (moved_back a is fits)) refl
parcel_again (Go a) rest is fits = rw (act_again Moves a rest (moved_back a is fits)) refl
parcel_again (Object a s) rest is fits = rw (object_again a s rest is.0 is.1 fits.0 fits.1) refl
parcel_again (Landed id place) rest is fits = rw (pair_again Credited 2 id place rest fits.0 (credited_back id is) fits.1) refl
parcel_again (Free id) rest is fits = rw (id_again Bare id rest fits (bare_back id is)) refl

-- ---- how long a frame is

short_cont : (c : Option Cont) → cont_size c ≤ 21
short_cont None = omega arith
short_cont (Some c) = omega arith

length-pair : (n : ℕ) (id : Id) (k : ℕ) → length (id_text id ++ number_text n k) ≡ 16 + n
length-pair n id k = length-append (id_text id) (number_text n k) ∙ omega (arith, length-id id, length-number n k)

short_act : (rule : ActRule) (a : Act) → IsSpelled rule a → length (act_text a) ≤ 65000
short_act rule a s = let few = s.short in let len = length-act rule a s.fine in omega arith

-- an object's MOVE has 60 bytes at most
short_object : (a : Act) (s : State) → IsMove a → IsCarried s → FitsAct a → FitsState s → length (act_text a ++ state_text s) ≤ 65060
short_object a s move carried fits fits' =
    let m = moved_back a move fits in
    let len = length-act Moves a m.fine in
    let args = short_move a move in
    let cont = short_cont a.cont in
    let state = short_state s carried fits' in
    let sum = length-append (act_text a) (state_text s) in omega arith

short_frame : (p : Parcel) → IsParcel p → FitsParcel p → length (text_of p) ≤ 65536
unfolding text_of
short_frame (Apply a) is fits = let few = short_act Applied a (applied_back a is fits) in omega arith
short_frame (Return id) is fits = let len = length-id id in omega arith
short_frame (Ask id asker entry) is fits =
    let len = length-id id in
    let two = length-number 2 asker in
    let eight = length-number 8 entry in
    let sum = length-append (number_text 2 asker) (number_text 8 entry) in
    let all = length-append (id_text id) (number_text 2 asker ++ number_text 8 entry) in omega arith
short_frame (Give id entry) is fits = let len = length-pair 8 id entry in omega arith
short_frame (Cached id place) is fits = let len = length-pair 2 id place in omega arith
short_frame (Move a) is fits = let few = short_act Moves a (moved_back a is fits) in omega arith
short_frame (Go a) is fits = let few = short_act Moves a (moved_back a is fits) in omega arith
short_frame (Object a s) is fits = let few = short_object a s is.0 is.1 fits.0 fits.1 in omega arith
short_frame (Landed id place) is fits = let len = length-pair 2 id place in omega arith
short_frame (Free id) is fits = let len = length-id id in omega arith

-- ---- a frame has bytes alone

pair_bytes : (n : ℕ) (id : Id) (k : ℕ) → AreBytes (id_text id ++ number_text n k)
pair_bytes n id k = are-append (id_text id) (number_text n k) (id_bytes id) (number_bytes n k)

sent_bytes : (a : Act) → IsSent a → FitsAct a → AreBytes (act_text a)
sent_bytes a is fits = act_bytes a is.shape.values.each fits.args

framed : (kind : ℕ) (text : List ℕ) → kind < 256 → AreBytes text → AreBytes (1 ∷ kind ∷ text)
framed kind text small are = (omega arith, (small, are))

parcel_bytes : (p : Parcel) → IsParcel p → FitsParcel p → AreBytes (text_of p)
unfolding text_of
parcel_bytes (Apply a) is fits = framed 1 (act_text a) (omega arith) (sent_bytes a is.sent fits)
parcel_bytes (Return id) is fits = framed 2 (id_text id) (omega arith) (id_bytes id)
parcel_bytes (Ask id asker entry) is fits =
    framed 3 (id_text id ++ (number_text 2 asker ++ number_text 8 entry)) (omega arith)
    (are-append (id_text id) (number_text 2 asker ++ number_text 8 entry) (id_bytes id)
    (are-append (number_text 2 asker) (number_text 8 entry) (number_bytes 2 asker) (number_bytes 8 entry)))
parcel_bytes (Give id entry) is fits = framed 4 (id_text id ++ number_text 8 entry) (omega arith) (pair_bytes 8 id entry)
parcel_bytes (Cached id place) is fits = framed 5 (id_text id ++ number_text 2 place) (omega arith) (pair_bytes 2 id place)
parcel_bytes (Move a) is fits = framed 6 (act_text a) (omega arith) (sent_bytes a is.sent fits)
parcel_bytes (Go a) is fits = framed 7 (act_text a) (omega arith) (sent_bytes a is.sent fits)
parcel_bytes (Object a s) is fits =
    framed 8 (act_text a ++ state_text s) (omega arith)
    (are-append (act_text a) (state_text s) (sent_bytes a is.0.sent fits.0) (state_bytes s is.1 fits.1))
parcel_bytes (Landed id place) is fits = framed 9 (id_text id ++ number_text 2 place) (omega arith) (pair_bytes 2 id place)
parcel_bytes (Free id) is fits = framed 10 (id_text id) (omega arith) (id_bytes id)

-- ---- all of the bytes

whole_takes : (bytes : List ℕ) (p : Parcel) → IsBytes bytes → whole_of bytes ≡ Ok p → Spells bytes p
unfolding whole_of
whole_takes bytes p fits e =
    let a = bind_ok (parcel_at bytes) (λ x. cond (eqb (length x.1) 0) (Ok x.0) (Err (stop_at x.1 Trailing))) p e in
    let g = test_ok (eqb (length a.0.1) 0) (stop_at a.0.1 Trailing) (Ok a.0.0) p a.2 in
    let t = parcel_takes bytes a.0 fits a.1 in
    let nothing : a.0.1 ≡ [] = nil_from_length a.0.1 (eqb-true _ _ g.0) in
    let text : bytes ≡ text_of a.0.0 = t.0.parts ∙ ap (λ (r : List ℕ). text_of a.0.0 ++ r) nothing ∙ append-nil (text_of a.0.0) in
    let made : Spells bytes a.0.0 = record { parcel = t.1; fits = t.2; text = text } in
    subst (λ (q : Parcel). Spells bytes q) (ok_is a.0.0 p g.1) made

whole_again : (p : Parcel) → IsParcel p → FitsParcel p → whole_of (text_of p) ≡ Ok p
unfolding whole_of
whole_again p is fits =
    let read : parcel_at (text_of p) ≡ Ok (p, []) = ap parcel_at (sym (append-nil (text_of p))) ∙ parcel_again p [] is fits in
    rw read refl

placed_ok : (n : ℕ) (r : Result Parcel Stop) (p : Parcel) → placed n r ≡ Ok p → r ≡ Ok p
placed_ok n (Ok q) p e = cc
placed_ok n (Err s) p e = absurd cc

long_fails : (b : Bool) (f : FaultAt) (r : Result Parcel FaultAt) (p : Parcel) → cond b (Err f) r ≡ Ok p → r ≡ Ok p
long_fails true f r p e = absurd cc
long_fails false f r p e = e

-- what is read is spelled so
pub read_spelled : (bytes : List ℕ) (p : Parcel) → IsBytes bytes → reading bytes ≡ Ok p → Spells bytes p
unfolding reading
read_spelled bytes p fits e = whole_takes bytes p fits (placed_ok (length bytes) (whole_of bytes) p (long_fails (ltb 65536 (length bytes)) _ _ p e))

text_read : (p : Parcel) → IsParcel p → FitsParcel p → reading (text_of p) ≡ Ok p
unfolding reading
text_read p is fits =
    let short : ltb 65536 (length (text_of p)) ≡ false = le-ltb _ _ (short_frame p is fits) in
    rw (short, whole_again p is fits) refl

-- what is spelled so is read
pub spelled_read : (bytes : List ℕ) (p : Parcel) → Spells bytes p → reading bytes ≡ Ok p
spelled_read bytes p s = ap reading s.text ∙ text_read p s.parcel s.fits

spelled_bytes : (bytes : List ℕ) (p : Parcel) → Spells bytes p → are_bytes bytes ≡ true
spelled_bytes bytes p s = ap are_bytes s.text ∙ are_tested (text_of p) (parcel_bytes p s.parcel s.fits)

pub spelled_parcel : (bytes : List ℕ) (p : Parcel) → Spells bytes p → parcel_of bytes ≡ Some p
unfolding parcel_of
spelled_parcel bytes p s =
    let tested : are_bytes bytes ≡ true = spelled_bytes bytes p s in
    rw (tested, spelled_read bytes p s) refl

read_of_some : (r : Result Parcel FaultAt) (p : Parcel) → read_of r ≡ Some p → r ≡ Ok p
read_of_some (Ok q) p e = cc
read_of_some (Err f) p e = absurd cc

tested_some : (b : Bool) (o : Option Parcel) (p : Parcel) → cond b o None ≡ Some p → (b ≡ true) × (o ≡ Some p)
tested_some true o p e = (refl, e)
tested_some false o p e = absurd cc

pub parcel_spelled : (bytes : List ℕ) (p : Parcel) → parcel_of bytes ≡ Some p → Spells bytes p
unfolding parcel_of
parcel_spelled bytes p e =
    let g = tested_some (are_bytes bytes) (read_of (reading bytes)) p e in
    read_spelled bytes p (are_from_test bytes g.0) (read_of_some (reading bytes) p g.1)

-- ---- the laws

abbrev ok_frame : Parcel → Result Parcel FaultAt
ok_frame p = Ok p

ok_result : (p q : Parcel) → ok_frame p ≡ ok_frame q → p ≡ q
ok_result p q e = cc

not_both : (p : Parcel) (f : FaultAt) → ok_frame p ≡ Err f → ⊥
not_both p f e = cc

unread_by : (b : Bool) (r : Result Parcel FaultAt) (f : FaultAt) → r ≡ Err f → cond b (read_of r) None ≡ None
unread_by true (Ok p) f e = absurd cc
unread_by true (Err g) f e = refl
unread_by false r f e = refl

unread_is : (bytes : List ℕ) (f : FaultAt) → reading bytes ≡ Err f → parcel_of bytes ≡ None
unfolding parcel_of
unread_is bytes f e = unread_by (are_bytes bytes) (reading bytes) f e

pub one_parcel : (bytes : List ℕ) (p q : Parcel) → Spells bytes p → Spells bytes q → p ≡ q
one_parcel bytes p q s t = ok_result p q (sym (spelled_read bytes p s) ∙ spelled_read bytes q t)

pub one_spelling : (xs ys : List ℕ) (p : Parcel) → Spells xs p → Spells ys p → xs ≡ ys
one_spelling xs ys p s t = s.text ∙ sym t.text

pub spelled_credits : (bytes : List ℕ) (p : Parcel) → Spells bytes p → credits_in bytes ≡ credits_of (ids_in p)
spelled_credits bytes p s = ap parcel_credits (spelled_parcel bytes p s)

pub spelled_short : (bytes : List ℕ) (p : Parcel) → Spells bytes p → length bytes ≤ 65536
spelled_short bytes p s = subst (λ (text : List ℕ). length text ≤ 65536) (sym s.text) (short_frame p s.parcel s.fits)

pub spelled_fits : (bytes : List ℕ) (p : Parcel) → Spells bytes p → AreBytes bytes
spelled_fits bytes p s = subst AreBytes (sym s.text) (parcel_bytes p s.parcel s.fits)

-- bytes that stop are not spelled
pub refused_is : (bytes : List ℕ) (f : FaultAt) → reading bytes ≡ Err f → IsRefused bytes f
refused_is bytes f e = record {
  first = e;
  none = λ p s. not_both p f (sym (spelled_read bytes p s) ∙ e);
  unread = unread_is bytes f e;
}

-- what decode answers
pub decoded_ok : (bytes : List ℕ) (r : Result Parcel DecodeFault) → IsBytes bytes → IfOk r (λ p. reading bytes ≡ Ok p) → IfOk r (λ p. Spells bytes p)
decoded_ok bytes (Ok p) fits e = read_spelled bytes p fits e
decoded_ok bytes (Err f) fits e = tt

pub decoded_read : (bytes : List ℕ) (r : Result Parcel DecodeFault) → IsBytes bytes → IfOk r (λ p. reading bytes ≡ Ok p) → IfOk r (λ p. parcel_of bytes ≡ Some p)
decoded_read bytes (Ok p) fits e = spelled_parcel bytes p (read_spelled bytes p fits e)
decoded_read bytes (Err f) fits e = tt

refuses : (bytes : List ℕ) (f : DecodeFault) → IsBytes bytes → Stops f (reading bytes) → Refuses f bytes
refuses bytes (faults.BadFrame at why) fits e = refused_is bytes (record { at = at; why = why }) e
refuses bytes faults.OutOfMemory fits e = (e.0, read_spelled bytes e.0 fits e.1)

pub decoded_bad : (bytes : List ℕ) (r : Result Parcel DecodeFault) → IsBytes bytes → IfErr r (λ f. Stops f (reading bytes)) → IfErr r (λ f. Refuses f bytes)
decoded_bad bytes (Ok p) fits e = tt
decoded_bad bytes (Err f) fits e = refuses bytes f fits e
