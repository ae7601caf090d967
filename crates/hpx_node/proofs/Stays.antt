-- What an outcome names that keeps all and answers: each id of the state once, and what the answer goes to; not the target of the action.
use Rattle.std.proofs.Common.{ℕ, zero, suc, pos, Bool, true, false, cond, List, [], ◌∷◌, ◌++◌, ◌≡◌, ◌≢◌, ◌+◌, ◌<◌, ◌≤◌, ◌==◌, Option, Some, None, length, map, refl, sym, ap, ◌∙◌, subst, arith, length-append, append_assoc, inl, inr}
use Rattle.std.specs.Prelude.{◌&&◌, ◌⊎◌, flat_map, is_some}
use Rattle.std.specs.List.{find, slice_index_or}
use Rattle.std.proofs.lemmas.Bool.{cases_lt, eq-eqb, ne_eqb}
use Rattle.std.proofs.lemmas.List.Sums.{sum_by-append}
use Rattle.hpx_value.specs.Values.{refs_in}
use Rattle.hpx_value.specs.declared.value.Value.{Value}
use Rattle.hpx_value.specs.declared.value.Value.TheVariants.{Int}
use Rattle.hpx_value.specs.declared.value.Cont.{Cont}
use Rattle.hpx_value.specs.declared.outcome.Outcome.{Outcome}
use Rattle.hpx_value.specs.Shapes.{IsState, IsAct, IsCount, places_of, listed}
use Rattle.hpx_value.specs.Hands.{id_at, hand_ids}
use Rattle.hpx_value.specs.Kept.{numbers, kept, answers, stays}
use Rattle.hpx_value.specs.Laws.{IsMovable as IsMovableKind, KeepsLaws}
use Rattle.hpx_value.specs.Mentions.{cont_place, state_mentions}
use Rattle.hpx_value.specs.Riders.{may_ride, mentions_with, names_target, rode_mentions}
use Rattle.hpx_value.specs.declared.acts.Job.{Job}
use Rattle.hpx_journal.proofs.Same.{same_object-true}
use Rattle.hpx_journal.specs.Data.{Id, State, Act}
use Rattle.hpx_journal.specs.Entries.{target_of}
use Rattle.hpx_journal.specs.Local.{is_standing}
use Rattle.hpx_parcel.specs.Parcels.{IsMovable}
use Rattle.hpx_commit.specs.Deals.{AllLast, is_managed, managed_places, named, places_named, unnamed, unnamed_from}
use Rattle.hpx_commit.proofs.Deals.{named_cons, named_hit, named_miss}
use Rattle.hpx_commit.proofs.Places.{fewer_named}
use Rattle.hpx_commit.proofs.Short.{yes}
use Rattle.hpx_part.specs.Data.{Standing}
use Rattle.hpx_tables.proofs.Alls.{find_passes}
use Rattle.hpx_tables.specs.Jobs.{IsFitJob}

-- ---- lists

length-places : (cs : List Cont) → length (places_of cs) ≡ length cs
length-places [] = refl
length-places (c ∷ cs) = ap suc (length-places cs)

at_back : (xs ys : List ℕ) (d : ℕ) → slice_index_or (xs ++ ys) (length xs) d ≡ slice_index_or ys 0 d
at_back [] ys d = refl
at_back (x ∷ xs) ys d = at_back xs ys d

-- the first of these, by their numbers, with others before
first_of : (before xs ys : List ℕ) (cs : List Cont) → length xs ≡ length cs
    → map (λ i. slice_index_or (before ++ (xs ++ ys)) i 0) (numbers (length before) cs) ≡ xs
first_of before [] ys [] e = refl
first_of before [] ys (c ∷ cs) e = absurd (omega (arith, e))
first_of before (x ∷ xs) ys [] e = absurd (omega (arith, e))
first_of before (x ∷ xs) ys (c ∷ cs) e =
    let here : slice_index_or (before ++ (x ∷ (xs ++ ys))) (length before) 0 ≡ x = at_back before (x ∷ (xs ++ ys)) 0 in
    let more : length (before ++ x ∷ []) ≡ length before + 1 = length-append before (x ∷ []) in
    let same : (before ++ x ∷ []) ++ (xs ++ ys) ≡ before ++ (x ∷ (xs ++ ys)) = append_assoc before (x ∷ []) (xs ++ ys) in
    let rest = first_of (before ++ x ∷ []) xs ys cs (omega (arith, e)) in
    let there : map (λ i. slice_index_or (before ++ (x ∷ (xs ++ ys))) i 0) (numbers (length before + 1) cs) ≡ xs =
    subst (λ n. map (λ i. slice_index_or (before ++ (x ∷ (xs ++ ys))) i 0) (numbers n cs) ≡ xs) more
    (subst (λ zs. map (λ i. slice_index_or zs i 0) (numbers (length (before ++ x ∷ [])) cs) ≡ xs) same rest) in
    ap (λ y. y ∷ map (λ i. slice_index_or (before ++ (x ∷ (xs ++ ys))) i 0) (numbers (length before + 1) cs)) here ∙ ap (λ zs. x ∷ zs) there

-- numbers in order are named once each
counted_none : (n : ℕ) (ps : List ℕ) → IsCount n ps → (p : ℕ) → (p < n) ⊎ (n + length ps ≤ p) → named ps p ≡ 0
counted_none n [] h p out = refl
counted_none n (q ∷ ps) h p out =
    named_miss q ps p (λ e. apart out (sym h.0 ∙ e)) ∙ counted_none (n + 1) ps h.1 p (next out)
  where
    apart : (p < n) ⊎ (n + length (q ∷ ps) ≤ p) → n ≡ p → ⊥
    apart (inl low) e = absurd (omega (arith, low, e))
    apart (inr high) e = absurd (omega (arith, high, e))

    next : (p < n) ⊎ (n + length (q ∷ ps) ≤ p) → (p < n + 1) ⊎ (n + 1 + length ps ≤ p)
    next (inl low) = inl (omega (arith, low))
    next (inr high) = inr (omega (arith, high))

counted_once : (n : ℕ) (ps : List ℕ) → IsCount n ps → (p : ℕ) → n ≤ p → p < n + length ps → named ps p ≡ 1
counted_once n [] h p low high = absurd (omega (arith, low, high))
counted_once n (q ∷ ps) h p low high = elim (cases_lt n p) [
  | inl more ↦ named_miss q ps p (λ e. absurd (omega (arith, h.0, e, more))) ∙ counted_once (n + 1) ps h.1 p (omega (arith, more)) (omega (arith, high))
  | inr same ↦
      let e : q ≡ p = omega (arith, h.0, low, same) in
      subst (λ y. named (y ∷ ps) p ≡ 1) (sym e) (named_hit ps p ∙ ap suc (counted_none (n + 1) ps h.1 p (inl (omega (arith, low, same)))))
]

counted_append : (n : ℕ) (ps qs : List ℕ) → IsCount n ps → IsCount (n + length ps) qs → IsCount n (ps ++ qs)
counted_append n [] qs h i = let e : n + 0 ≡ n = omega arith in subst (λ m. IsCount m qs) e i
counted_append n (p ∷ ps) qs h i =
    let e : n + length (p ∷ ps) ≡ n + 1 + length ps = omega arith in (h.0, counted_append (n + 1) ps qs h.1 (subst (λ m. IsCount m qs) e i))

named_append : (ps qs : List ℕ) (p : ℕ) → named (ps ++ qs) p ≡ named ps p + named qs p
named_append ps qs p = sum_by-append (λ q. cond (q == p) 1 0) ps qs

-- a place of a managed object is named as often
as_often : (hand : List Id) (ps : List ℕ) (p : ℕ) → is_managed (id_at hand p) ≡ true → named (managed_places hand ps) p ≡ named ps p
as_often hand [] p h = refl
as_often hand (q ∷ ps) p h = each (is_managed (id_at hand q)) refl (as_often hand ps p h)
  where
    each : (b : Bool) → is_managed (id_at hand q) ≡ b → named (managed_places hand ps) p ≡ named ps p
        → named (cond b (q ∷ managed_places hand ps) (managed_places hand ps)) p ≡ named (q ∷ ps) p
    each true t rest = omega (arith, rest, named_cons q (managed_places hand ps) p, named_cons q ps p)
    each false f rest =
        let other : q ≢ p = λ e. let z : true ≡ false = sym h ∙ (ap (λ j. is_managed (id_at hand j)) (sym e) ∙ f) in cc in rest ∙ sym (named_miss q ps p other)

-- what is named in front is none of those that are not
unnamed_behind : (q : ℕ) (xs ys : List Id) (places : List ℕ) → ((i : ℕ) → i < length xs → is_managed (id_at xs i) ≡ true → 1 ≤ named places (q + i))
    → unnamed_from q (xs ++ ys) places ≡ unnamed_from (q + length xs) ys places
unnamed_behind q [] ys places h = ap (λ n. unnamed_from n ys places) (sym (zero_more q))
  where
    zero_more : (n : ℕ) → n + 0 ≡ n
    zero_more n = omega arith
unnamed_behind q (x ∷ xs) ys places h =
    each (is_managed x) refl (unnamed_behind (q + 1) xs ys places (λ i lt t. subst (λ n. 1 ≤ named places n) (one_more q i) (h (suc i) (omega (arith, lt)) t)))
  where
    zero_more : (n : ℕ) → n + 0 ≡ n
    zero_more n = omega arith

    one_more : (m i : ℕ) → m + suc i ≡ m + 1 + i
    one_more m i = omega arith

    each : (b : Bool) → is_managed x ≡ b → unnamed_from (q + 1) (xs ++ ys) places ≡ unnamed_from (q + 1 + length xs) ys places
        → cond (b && (named places q == 0)) (x ∷ unnamed_from (q + 1) (xs ++ ys) places) (unnamed_from (q + 1) (xs ++ ys) places) ≡ unnamed_from (q + length (x ∷ xs)) ys places
    each false f rest = rest ∙ ap (λ n. unnamed_from n ys places) (sym (one_more q (length xs)))
    each true t rest =
        let some : 1 ≤ named places q = subst (λ n. 1 ≤ named places n) (zero_more q) (h 0 (omega arith) t) in
        let no : (named places q == 0) ≡ false = ne_eqb (named places q) 0 (λ e. absurd (omega (arith, some, e))) in
        rw no (rest ∙ ap (λ n. unnamed_from n ys places) (sym (one_more q (length xs))))

-- ---- an action of code 1 whose outcome keeps all

-- at most one place, behind n
record NamesBehind (n : ℕ) (ps : List ℕ) : Type 0 where
  few : (p : ℕ) → named ps p ≤ 1
  behind : (p : ℕ) → p ≤ n → named ps p ≡ 0

names_one : (n q : ℕ) → n < q → NamesBehind n (q ∷ [])
names_one n q far = record {
  few = λ p. omega (arith, named_cons q [] p, most (q == p));
  behind = λ p le. named_miss q [] p (λ e. absurd (omega (arith, e, le, far)));
}
  where
    most : (b : Bool) → cond b 1 0 ≤ 1
    most true = omega arith
    most false = omega arith

module _ (s : State) (a : Act) (v : Value) (state : IsState s) (shape : IsAct a) (code : a.code ≡ 1) (plain : refs_in (v ∷ []) ≡ []) (bare : refs_in a.args ≡ []) where
  abbrev out : Outcome
  out = stays s a v

  -- the places of the state
  abbrev own : List ℕ
  own = refs_in s.values ++ places_of s.conts

  long : length own ≡ length s.ids
  long = omega (arith, length-append (refs_in s.values) (places_of s.conts), length-places s.conts, state.ids)

  counted : IsCount 0 own
  counted = counted_append 0 (refs_in s.values) (places_of s.conts) state.refs (subst (λ m. IsCount m (places_of s.conts)) (from_zero (length (refs_in s.values))) state.conts)
    where
      from_zero : (m : ℕ) → m ≡ 0 + m
      from_zero m = omega arith

  state_names : state_mentions s a (kept s) ≡ own
  state_names = ap (λ ps. refs_in s.values ++ ps) (first_of [] (places_of s.conts) (map (λ place. length s.ids + place) (places_of (listed a.cont))) s.conts (length-places s.conts))

  -- and that of the answer, which does not ride
  no_ride : (named : Bool) → may_ride a named ≡ false
  no_ride named = rw (eq-eqb a.code 1 code) (each (is_some a.cont))
    where
      each : (b : Bool) → (b && false) ≡ false
      each true = refl
      each false = refl

  own_place : (c : Cont) → a.cont ≡ Some c → cont_place s a (length s.conts) ≡ length s.ids + c.place
  own_place c e =
      ap (λ m. slice_index_or (places_of s.conts ++ map (λ place. length s.ids + place) (places_of (listed a.cont))) m 0) (sym (length-places s.conts))
      ∙ (at_back (places_of s.conts) (map (λ place. length s.ids + place) (places_of (listed a.cont))) 0
      ∙ ap (λ cont. slice_index_or (map (λ place. length s.ids + place) (places_of (listed cont))) 0 0) e)

  abbrev told : List ℕ
  told = flat_map (rode_mentions s a out) (answers s a.cont v)

  answer_names : NamesBehind (length s.ids) told
  answer_names = each a.cont refl
    where
      each : (cont : Option Cont) → a.cont ≡ cont → NamesBehind (length s.ids) (flat_map (rode_mentions s a out) (answers s cont v))
      each None e = record { few = λ p. omega arith; behind = λ p le. refl }
      each (Some c) e =
          let at : IsCount (length (refs_in a.args) + 1) (places_of (listed (Some c))) = subst (λ x. IsCount (length (refs_in a.args) + 1) (places_of (listed x))) e shape.cont in
          let first : c.place ≡ length (refs_in a.args) + 1 = at.0 in
          rw (no_ride (names_target s a out), plain, own_place c e) (names_one (length s.ids) (length s.ids + c.place) (omega (arith, first, ap (λ (ps : List ℕ). length ps) bare)))

  abbrev all : List ℕ
  all = mentions_with s a out

  named_is : (p : ℕ) → named all p ≡ named own p + named told p
  named_is p = named_append (state_mentions s a (kept s)) told p ∙ ap (λ ps. named ps p + named told p) state_names

  named_most : (p : ℕ) → named all p ≤ 1
  named_most p = elim (cases_lt p (length s.ids)) [
    | inl low ↦ omega (arith, named_is p, counted_once 0 own counted p (omega arith) (omega (arith, low, long)), answer_names.behind p (omega (arith, low)))
    | inr high ↦ omega (arith, named_is p, counted_none 0 own counted p (inr (omega (arith, high, long))), answer_names.few p)
  ]

  module _ (made : List Id) where
    abbrev hand : List Id
    hand = hand_ids s a made

    abbrev places : List ℕ
    places = places_named s a made out

    -- all ids last
    pub last : AllLast (hand_ids s a made) (places_named s a made (stays s a v))
    last p = omega (arith, fewer_named hand all p, named_most p)

    front : (xs ys : List Id) (i : ℕ) → i < length xs → id_at (xs ++ ys) i ≡ id_at xs i
    front [] ys i lt = absurd (omega (arith, lt))
    front (x ∷ xs) ys zero lt = refl
    front (x ∷ xs) ys (suc i) lt = front xs ys i (omega (arith, lt))

    own_named : (i : ℕ) → i < length s.ids → is_managed (id_at s.ids i) ≡ true → 1 ≤ named places (0 + i)
    own_named i lt t =
        let e : 0 + i ≡ i = omega arith in
        subst (λ j. 1 ≤ named places j) (sym e) (omega (
          arith,
          as_often hand all i (ap is_managed (front s.ids (a.ids ++ made) i lt) ∙ t),
          named_is i,
          counted_once 0 own counted i (omega arith) (omega (arith, lt, long)),
        ))

    none_first : named places (0 + length s.ids) ≡ 0
    none_first =
        let e : 0 + length s.ids ≡ length s.ids = omega arith in
        subst (λ j. named places j ≡ 0) (sym e) (omega (
          arith,
          fewer_named hand all (length s.ids),
          named_is (length s.ids),
          counted_none 0 own counted (length s.ids) (inr (omega (arith, long))),
          answer_names.behind (length s.ids) (omega arith),
        ))

    -- the first that nobody names is the target of the action
    pub first_unnamed : IsMovable a.ids → (rest : List Id) × (unnamed (hand_ids s a made) (places_named s a made (stays s a v)) ≡ id_at a.ids 0 ∷ rest)
    first_unnamed moves = each a.ids refl moves
      where
        each : (ids : List Id) → a.ids ≡ ids → IsMovable ids → (rest : List Id) × (unnamed hand places ≡ id_at a.ids 0 ∷ rest)
        each [] e h = absurd h
        each (id ∷ ids) e h =
            let is : unnamed hand places ≡ unnamed_from (0 + length s.ids) (a.ids ++ made) places = unnamed_behind 0 s.ids (a.ids ++ made) places own_named in
            let managed : is_managed id ≡ true = yes 16 id.kind h.0 in
            let none : (named places (0 + length s.ids) == 0) ≡ true = eq-eqb (named places (0 + length s.ids)) 0 none_first in
            let one : unnamed_from (0 + length s.ids) ((id ∷ ids) ++ made) places ≡ id ∷ unnamed_from (0 + length s.ids + 1) (ids ++ made) places = rw (managed, none) refl in (
              unnamed_from (0 + length s.ids + 1) (ids ++ made) places,
              is ∙ (ap (λ xs. unnamed_from (0 + length s.ids) (xs ++ made) places) e ∙ (one ∙ ap (λ xs. id_at xs 0 ∷ unnamed_from (0 + length s.ids + 1) (ids ++ made) places) (sym e))),
            )

-- ---- a job whose action is a MOVE

-- its object is of a kind that moves
pub movable_kind : (objects : List Standing) (act : Act) (kind : ℕ) (x : Standing) → find (is_standing (target_of act)) objects ≡ Some x → x.object.kind ≡ kind → IsMovable act.ids → IsMovableKind kind
movable_kind objects act kind x found is moves =
    let e : (target_of act).kind ≡ x.object.kind = ap (λ (o : Id). o.kind) (same_object-true (target_of act) x.object (find_passes (is_standing (target_of act)) objects x found)) in
    let k = at act.ids refl moves in (omega (arith, k.0, e, is), omega (arith, k.1, e, is))
  where
    at : (ids : List Id) → act.ids ≡ ids → IsMovable ids → (16 ≤ (target_of act).kind) × ((target_of act).kind ≤ 31)
    at [] e h = absurd h
    at (id ∷ ids) e h = let z : (target_of act).kind ≡ id.kind = ap (λ (xs : List Id). (id_at xs 0).kind) e in (omega (arith, h.0, z), omega (arith, h.1, z))

module _ (n : ℕ) (job : Job) (out : Outcome) (fit : IsFitJob job) (laws : KeepsLaws n job.kind job.at job.state job.action out) (kind : IsMovableKind job.kind) (code : job.action.code ≡ 1) (made : List Id) where
  abbrev place : Value
  place = Int (pos job.at)

  -- it keeps all, and tells the place
  its : out ≡ stays job.state job.action (Int (pos job.at))
  its = let x = (fit.action.moves code).1 in laws.moves.moved code kind (x.0, omega (arith, x.1), x.2)

  no_refs : refs_in job.action.args ≡ []
  no_refs = let x = (fit.action.moves code).1 in ap refs_in x.2

  pub move_lasts : AllLast (hand_ids job.state job.action made) (places_named job.state job.action made out)
  move_lasts = subst (λ o. AllLast (hand_ids job.state job.action made) (places_named job.state job.action made o)) (sym its)
      (last job.state job.action place fit.state fit.action.sent.shape code refl no_refs made)

  pub move_tells : (rest : List Id) × (unnamed (hand_ids job.state job.action made) (places_named job.state job.action made out) ≡ id_at job.action.ids 0 ∷ rest)
  move_tells = subst (λ o. (rest : List Id) × (unnamed (hand_ids job.state job.action made) (places_named job.state job.action made o) ≡ id_at job.action.ids 0 ∷ rest)) (sym its)
      (first_unnamed job.state job.action place fit.state fit.action.sent.shape code refl no_refs made (fit.action.moves code).0)
