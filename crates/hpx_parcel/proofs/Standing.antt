-- The ids of a parcel stand in its spelling one after the other.
use Rattle.std.proofs.Common.{List, [], ◌∷◌, ◌++◌, ℕ, Option, Some, None, length, refl, sym, ap, subst, ◌∙◌, append_assoc}
use Rattle.std.proofs.lemmas.List.{append-nil}
use Rattle.hpx_value.specs.Values.{message_of}
use Rattle.hpx_value.specs.Shapes.{IsAct, IsState}
use Rattle.hpx_parcel.specs.Types.{Id, Value, Nothing, Flag, Int, Text, Ref, Fault, Ints, Cont, State, Act, Parcel, Apply, Return, Ask, Give, Cached, Move, Go, Object, Landed, Free}
use Rattle.hpx_parcel.specs.Spelling.{number_text, id_text, first_text, without_first, value_text, ids_left, each_text, ids_after, values_text, slot_text, cont_text, ids_past, message_text, act_text, conts_text, ids_behind, state_text, text_of}
use Rattle.hpx_parcel.specs.Parcels.{IsParcel, Spells}
use Rattle.hpx_parcel.specs.Credits.{StandIn, ids_in}
use Rattle.hpx_parcel.proofs.Taken.{all_taken, all_kept}

-- ---- bytes before and behind

behind : (front rest : List ℕ) (ids : List Id) → StandIn ids rest → StandIn ids (front ++ rest)
behind front rest [] s = tt
behind front rest (id ∷ ids) s = (front ++ s.0, s.1, ap (λ (w : List ℕ). front ++ w) s.2 ∙ sym (append_assoc front s.0 (id_text id ++ s.1)), s.3)

joined : (front back : List ℕ) (xs ys : List Id) → StandIn xs front → StandIn ys back → StandIn (xs ++ ys) (front ++ back)
joined front back [] ys s t = behind front back ys t
joined front back (id ∷ ids) ys s t =
    let after = s.1 in (
      s.0,
      after ++ back,
      ap (λ (w : List ℕ). w ++ back) s.2 ∙ append_assoc s.0 (id_text id ++ after) back ∙ ap (λ (w : List ℕ). s.0 ++ w) (append_assoc (id_text id) after back),
      joined after back ids ys s.3 t,
    )

-- ---- values and continuations take the next ids

first : (ids : List Id) (rest : List ℕ) → StandIn (without_first ids) rest → StandIn ids (first_text ids ++ rest)
first [] rest s = tt
first (id ∷ ids) rest s = ([], rest, refl, s)

-- in the text of two parts, the first of which takes some ids
split : (ids : List Id) (front back rest : List ℕ) → StandIn ids (front ++ (back ++ rest)) → StandIn ids ((front ++ back) ++ rest)
split ids front back rest s = subst (λ (w : List ℕ). StandIn ids w) (sym (append_assoc front back rest)) s

value : (ids : List Id) (v : Value) (rest : List ℕ) → StandIn (ids_left ids v) rest → StandIn ids (value_text ids v ++ rest)
unfolding value_text
value ids Nothing rest s = behind (value_text ids Nothing) rest ids s
value ids (Flag b) rest s = behind (value_text ids (Flag b)) rest ids s
value ids (Int z) rest s = behind (value_text ids (Int z)) rest ids s
value ids (Text bytes) rest s = behind (value_text ids (Text bytes)) rest ids s
value ids (Ref place) rest s = behind (4 ∷ []) (first_text ids ++ rest) ids (first ids rest s)
value ids (Fault code) rest s = behind (value_text ids (Fault code)) rest ids s
value ids (Ints numbers) rest s = behind (value_text ids (Ints numbers)) rest ids s

each : (ids : List Id) (vs : List Value) (rest : List ℕ) → StandIn (ids_after ids vs) rest → StandIn ids (each_text ids vs ++ rest)
each ids [] rest s = s
each ids (v ∷ vs) rest s =
    split ids (value_text ids v) (each_text (ids_left ids v) vs) rest
    (value ids v (each_text (ids_left ids v) vs ++ rest) (each (ids_left ids v) vs rest s))

values : (ids : List Id) (vs : List Value) (rest : List ℕ) → StandIn (ids_after ids vs) rest → StandIn ids (values_text ids vs ++ rest)
unfolding values_text
values ids vs rest s =
    split ids (number_text 2 (length vs)) (each_text ids vs) rest
    (behind (number_text 2 (length vs)) (each_text ids vs ++ rest) ids (each ids vs rest s))

slot : (ids : List Id) (c : Cont) (rest : List ℕ) → StandIn (without_first ids) rest → StandIn ids (slot_text ids c ++ rest)
unfolding slot_text
slot ids c rest s =
    split ids (first_text ids) (number_text 4 c.slot) rest
    (first ids (number_text 4 c.slot ++ rest) (behind (number_text 4 c.slot) rest (without_first ids) s))

cont : (ids : List Id) (c : Option Cont) (rest : List ℕ) → StandIn (ids_past ids c) rest → StandIn ids (cont_text ids c ++ rest)
unfolding cont_text
cont ids None rest s = behind (0 ∷ []) rest ids s
cont ids (Some c) rest s = behind (1 ∷ []) (slot_text ids c ++ rest) ids (slot ids c rest s)

conts : (ids : List Id) (cs : List Cont) (rest : List ℕ) → StandIn (ids_behind ids cs) rest → StandIn ids (conts_text ids cs ++ rest)
conts ids [] rest s = s
conts ids (c ∷ cs) rest s =
    split ids (slot_text ids c) (conts_text (without_first ids) cs) rest
    (slot ids c (conts_text (without_first ids) cs ++ rest) (conts (without_first ids) cs rest s))

-- ---- actions, states and parcels take all of their ids

-- nothing is behind
whole : (ids : List Id) (bytes : List ℕ) → StandIn ids (bytes ++ []) → StandIn ids bytes
whole ids bytes s = subst (λ (w : List ℕ). StandIn ids w) (append-nil bytes) s

act : (a : Act) → IsAct a → StandIn a.ids (act_text a)
unfolding act_text message_text
act a shape =
    let ids = without_first a.ids in
    let taken : StandIn (ids_past (ids_after ids a.args) a.cont) [] = subst (λ (xs : List Id). StandIn xs []) (sym (all_taken (message_of a) shape)) tt in
    let last = whole (ids_after ids a.args) (cont_text (ids_after ids a.args) a.cont) (cont (ids_after ids a.args) a.cont [] taken) in
    let args = values ids a.args (cont_text (ids_after ids a.args) a.cont) last in
    let call = behind (number_text 2 a.code) (values_text ids a.args ++ cont_text (ids_after ids a.args) a.cont) ids args in
    let message = first a.ids (number_text 2 a.code ++ (values_text ids a.args ++ cont_text (ids_after ids a.args) a.cont)) call in
    behind (number_text 2 a.origin) (number_text 8 a.serial ++ message_text (message_of a)) a.ids
    (behind (number_text 8 a.serial) (message_text (message_of a)) a.ids message)

state : (s : State) → IsState s → StandIn s.ids (state_text s)
unfolding state_text
state s shape =
    let kept : StandIn (ids_behind (ids_after s.ids s.values) s.conts) [] = subst (λ (xs : List Id). StandIn xs []) (sym (all_kept s shape)) tt in
    let last = whole (ids_after s.ids s.values) (conts_text (ids_after s.ids s.values) s.conts) (conts (ids_after s.ids s.values) s.conts [] kept) in
    let counted = behind (number_text 2 (length s.conts)) (conts_text (ids_after s.ids s.values) s.conts) (ids_after s.ids s.values) last in
    behind (number_text 4 s.drawn) (values_text s.ids s.values ++ (number_text 2 (length s.conts) ++ conts_text (ids_after s.ids s.values) s.conts)) s.ids
    (values s.ids s.values (number_text 2 (length s.conts) ++ conts_text (ids_after s.ids s.values) s.conts) counted)

alone : (kind : ℕ) (id : Id) (rest : List ℕ) → StandIn (id ∷ []) (1 ∷ kind ∷ (id_text id ++ rest))
alone kind id rest = (1 ∷ kind ∷ [], rest, refl, tt)

only : (kind : ℕ) (id : Id) → StandIn (id ∷ []) (1 ∷ kind ∷ id_text id)
only kind id = (1 ∷ kind ∷ [], [], ap (λ (w : List ℕ). 1 ∷ kind ∷ w) (sym (append-nil (id_text id))), tt)

spelled : (p : Parcel) → IsParcel p → StandIn (ids_in p) (text_of p)
unfolding text_of
spelled (Apply a) is = behind (1 ∷ 1 ∷ []) (act_text a) a.ids (act a is.sent.shape)
spelled (Return id) is = only 2 id
spelled (Ask id asker entry) is = alone 3 id (number_text 2 asker ++ number_text 8 entry)
spelled (Give id entry) is = alone 4 id (number_text 8 entry)
spelled (Cached id place) is = alone 5 id (number_text 2 place)
spelled (Move a) is = behind (1 ∷ 6 ∷ []) (act_text a) a.ids (act a is.sent.shape)
spelled (Go a) is = behind (1 ∷ 7 ∷ []) (act_text a) a.ids (act a is.sent.shape)
spelled (Object a s) is =
    behind (1 ∷ 8 ∷ []) (act_text a ++ state_text s) (a.ids ++ s.ids)
    (joined (act_text a) (state_text s) a.ids s.ids (act a is.0.sent.shape) (state s is.1.shape))
spelled (Landed id place) is = alone 9 id (number_text 2 place)
spelled (Free id) is = only 10 id

-- the ids of a parcel stand in the bytes that spell it
pub ids_stand : (bytes : List ℕ) (p : Parcel) → Spells bytes p → StandIn (ids_in p) bytes
ids_stand bytes p s = subst (λ (w : List ℕ). StandIn (ids_in p) w) (sym s.text) (spelled p s.parcel)
