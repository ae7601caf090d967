-- What the pool's objects and slots are to the plain space.
use Rattle.std.specs.Prelude.{◌==◌, ◌&&◌}
use Rattle.std.proofs.Common.{ℕ, Bool, true, false, cond, ltb, List, [], ◌∷◌, ◌++◌, ◌≡◌, ◌≢◌, ◌+◌, ◌<◌, ◌≤◌, Option, Some, None, refl, sym, ap, ◌∙◌, subst, inl, inr, ◌⊎◌, length, map, arith}
use Rattle.std.specs.List.{AllByRecursion}
use Rattle.std.proofs.lemmas.Bool.{cases_Bool, eqb-true, ne_eqb, eq-eqb, lt-ltb, ltb-true}
use Rattle.hpx_value.specs.Ids.{Id, bare_id, same_object}
use Rattle.hpx_value.specs.Hands.{Slot, session}
use Rattle.hpx_value.specs.Laws.{IsRoot}
use Rattle.hpx_value.specs.declared.value.State.{State}
use Rattle.hpx_value.specs.declared.value.Message.{Message}
use Rattle.hpx_journal.proofs.Same.{same_object-refl, same_object-sym}
use Rattle.hpx_calls.specs.Values.{Value, Nothing, Flag, Int, Text, Ref, Fault, Ints, mapped}
use Rattle.hpx_calls.specs.declared.content.Pair.{Pair}
use Rattle.hpx_calls.specs.declared.content.Given.{Given}
use Rattle.hpx_calls.specs.declared.content.Content.{Content}
use Rattle.hpx_calls.specs.declared.content.Content.TheVariants.{Table, Maker, Size, Number, Row, Promise, Dataflow, Started, Channel, Latch, Barrier, Unreadable}
use Rattle.hpx_calls.specs.Histories.{Object as Held}
use Rattle.hpx_calls.specs.Ids.{numbered, ids_in, state_of, IsReadable}
use Rattle.app_console.specs.Types.{What, Await}
use Rattle.app_console.specs.Desks.{held_at}
use Rattle.app_console.specs.Plain.{Who, RootOf, Thing, same_who, Datum, Item, set_item}
use Rattle.hpx_calls.specs.Mapped.{content_seen, pairs_seen, givens_seen, option_seen}
use Rattle.app_console.proofs.Alikes.{IsOurs, waiter}

-- ---- objects

-- the id of an object, by those of the things made
abbrev pub at : (ℕ → Id) → Who → Id
at ref (RootOf kind place) = bare_id place kind 1
at ref (Thing number) = ref number

-- the roots that a console calls, and the things made so far
abbrev pub IsIn : ℕ → ℕ → Who → Type 0
IsIn n count (RootOf kind place) = IsRoot n kind place × (kind ≢ 1) × (kind ≢ 7)
IsIn n count (Thing number) = number < count

-- a slot of the session
abbrev pub session_slot : ℕ → Slot
session_slot k = record { object = session; number = k }

-- an object as the pool has it: its content over ids, and the slots of those that wait
abbrev pub held_over : (ℕ → Id) → Content Datum → List ℕ → Held (Value Id) Slot
held_over ref x slots = record { content = content_seen (at ref) x; waiting = map session_slot slots }

-- the action under a slot: its target, its arguments, and the session, which waits
abbrev pub asked : (ℕ → Id) → ℕ → Who → ℕ → List Datum → Message
asked ref slot who code args = record {
  code = code;
  args = numbered 1 (map (mapped (at ref)) args);
  cont = Some (record { place = length (ids_in (map (mapped (at ref)) args)) + 1; slot = slot });
  ids = at ref who ∷ (ids_in (map (mapped (at ref)) args) ++ session ∷ []);
}

-- ---- what is referred to is there

-- what is not a thing made so far is taken for the symbols, a root
abbrev pub kept_who : ℕ → Who → Who
kept_who count (RootOf kind place) = RootOf 2 0
kept_who count (Thing number) = cond (ltb number count) (Thing number) (RootOf 2 0)

-- values and contents that refer to things made so far alone
abbrev pub IsGood : ℕ → Datum → Type 0
IsGood count v = mapped (kept_who count) v ≡ v

abbrev pub IsGoodContent : ℕ → Content Datum → Type 0
IsGoodContent count x = content_seen (kept_who count) x ≡ x

funext : {X Y : Type 0} {f g : X → Y} → ((x : X) → f x ≡ g x) → f ≡ g
funext h = λ i x. h x i

pub mapped_twice : {P Q R : Type 0} (f : Q → R) (g : P → Q) (v : Value P) → mapped f (mapped g v) ≡ mapped (λ x. f (g x)) v
mapped_twice f g Nothing = refl
mapped_twice f g (Flag b) = refl
mapped_twice f g (Int z) = refl
mapped_twice f g (Text t) = refl
mapped_twice f g (Ref r) = refl
mapped_twice f g (Fault c) = refl
mapped_twice f g (Ints zs) = refl

all_twice : {P Q R : Type 0} (f : Q → R) (g : P → Q) (vs : List (Value P)) → map (mapped f) (map (mapped g) vs) ≡ map (mapped (λ x. f (g x))) vs
all_twice f g [] = refl
all_twice f g (v ∷ vs) = ap (λ u. u ∷ map (mapped f) (map (mapped g) vs)) (mapped_twice f g v) ∙ ap (λ us. mapped (λ x. f (g x)) v ∷ us) (all_twice f g vs)

pairs_twice : {P Q R : Type 0} (f : Q → R) (g : P → Q) (xs : List (Pair (Value P))) → pairs_seen f (pairs_seen g xs) ≡ pairs_seen (λ x. f (g x)) xs
pairs_twice f g [] = refl
pairs_twice {P} {Q} {R} f g (x ∷ xs) =
    ap (λ (u : Value R). record { key = x.key; to = u } ∷ pairs_seen f (pairs_seen g xs)) (mapped_twice f g x.to)
    ∙ ap (λ (us : List (Pair (Value R))). record { key = x.key; to = mapped (λ y. f (g y)) x.to } ∷ us) (pairs_twice f g xs)

givens_twice : {P Q R : Type 0} (f : Q → R) (g : P → Q) (xs : List (Given (Value P))) → givens_seen f (givens_seen g xs) ≡ givens_seen (λ x. f (g x)) xs
givens_twice f g [] = refl
givens_twice {P} {Q} {R} f g (x ∷ xs) =
    ap (λ (u : Value R). record { slot = x.slot; value = u } ∷ givens_seen f (givens_seen g xs)) (mapped_twice f g x.value)
    ∙ ap (λ (us : List (Given (Value R))). record { slot = x.slot; value = mapped (λ y. f (g y)) x.value } ∷ us) (givens_twice f g xs)

option_twice : {P Q R : Type 0} (f : Q → R) (g : P → Q) (o : Option (Value P)) → option_seen f (option_seen g o) ≡ option_seen (λ x. f (g x)) o
option_twice f g None = refl
option_twice f g (Some v) = ap (λ u. Some u) (mapped_twice f g v)

content_twice : {P Q R : Type 0} (f : Q → R) (g : P → Q) (x : Content (Value P)) → content_seen f (content_seen g x) ≡ content_seen (λ y. f (g y)) x
content_twice f g (Table pairs) = ap (λ ps. Table ps) (pairs_twice f g pairs)
content_twice f g Maker = refl
content_twice f g (Size n) = refl
content_twice f g (Number z) = refl
content_twice f g (Row zs) = refl
content_twice f g (Promise o) = ap (λ v. Promise v) (option_twice f g o)
content_twice f g (Dataflow code inputs given) = ap (λ xs. Dataflow code inputs xs) (givens_twice f g given)
content_twice f g (Started code inputs) = refl
content_twice f g (Channel closed kept) = ap (λ vs. Channel closed vs) (all_twice f g kept)
content_twice f g (Latch left) = refl
content_twice f g (Barrier n) = refl
content_twice f g (Unreadable vs) = ap (λ us. Unreadable us) (all_twice f g vs)

-- over references that agree on what is there
pub good_over : {R : Type 0} (count : ℕ) (f g : Who → R) (x : Content Datum) → IsGoodContent count x → ((u : Who) → f (kept_who count u) ≡ g (kept_who count u))
    → content_seen f x ≡ content_seen g x
good_over count f g x h e =
    ap (content_seen f) (sym h) ∙ (content_twice f (kept_who count) x ∙ (ap (λ r. content_seen r x) (funext e) ∙ (sym (content_twice g (kept_who count) x) ∙ ap (content_seen g) h)))

pub value_over : {R : Type 0} (count : ℕ) (f g : Who → R) (v : Datum) → IsGood count v → ((u : Who) → f (kept_who count u) ≡ g (kept_who count u)) → mapped f v ≡ mapped g v
value_over count f g v h e =
    ap (mapped f) (sym h) ∙ (mapped_twice f (kept_who count) v ∙ (ap (λ r. mapped r v) (funext e) ∙ (sym (mapped_twice g (kept_who count) v) ∙ ap (mapped g) h)))

kept_more : (count : ℕ) (u : Who) → kept_who (count + 1) (kept_who count u) ≡ kept_who count u
kept_more count (RootOf kind place) = refl
kept_more count (Thing i) = elim (cases_Bool (ltb i count)) [
  | inl e ↦ let low = ltb-true i count e in rw (e, lt-ltb i (count + 1) (omega arith)) refl
  | inr e ↦ rw e refl
]

pub good_more : (count : ℕ) (x : Content Datum) → IsGoodContent count x → IsGoodContent (count + 1) x
good_more count x h = good_over count (kept_who (count + 1)) (λ u. u) x h (kept_more count) ∙ same
  where
    same : content_seen (λ (u : Who). u) x ≡ x
    same = ap (content_seen (λ (u : Who). u)) (sym h) ∙ (content_twice (λ (u : Who). u) (kept_who count) x ∙ h)

pub value_more : (count : ℕ) (v : Datum) → IsGood count v → IsGood (count + 1) v
value_more count v h = ap (mapped (kept_who (count + 1))) (sym h) ∙ (mapped_twice (kept_who (count + 1)) (kept_who count) v ∙ (ap (λ r. mapped r v) (funext (kept_more count)) ∙ h))

-- what a value refers to is there
pub good_ref : (n count : ℕ) (who : Who) → IsGood count (Ref who) → 1 ≤ n → IsIn n count who
good_ref n count (RootOf kind place) h some =
    let same : RootOf 2 0 ≡ RootOf kind place = cc in
    subst (IsIn n count) same (inl (inr (inl refl), refl), (λ e. absurd (omega arith)), (λ e. absurd (omega arith)))
good_ref n count (Thing i) h some = elim (cases_Bool (ltb i count)) [
  | inl e ↦ ltb-true i count e
  | inr e ↦ let same : RootOf 2 0 ≡ Thing i = ap (λ b. cond b (Thing i) (RootOf 2 0)) (sym e) ∙ (let f : kept_who count (Thing i) ≡ Thing i = cc in f) in absurd (cc)
]

pub thing_good : (count i : ℕ) → i < count → IsGood count (Ref (Thing i))
thing_good count i h = rw (lt-ltb i count h) refl

-- ---- sameness

and_true : (a b : Bool) → (a && b) ≡ true → (a ≡ true) × (b ≡ true)
and_true true b h = (refl, h)
and_true false b h = cc

pub same_who-true : (u w : Who) → same_who u w ≡ true → u ≡ w
same_who-true (RootOf k a) (RootOf l b) h =
    let p = and_true (k == l) (a == b) h in ap (λ x. RootOf x a) (eqb-true k l p.0) ∙ ap (λ y. RootOf l y) (eqb-true a b p.1)
same_who-true (Thing i) (Thing j) h = ap (λ k. Thing k) (eqb-true i j h)
same_who-true (RootOf k a) (Thing j) h = cc
same_who-true (Thing i) (RootOf l b) h = cc

pub same_who-refl : (u : Who) → same_who u u ≡ true
same_who-refl (RootOf k a) = rw (eq-eqb k k refl, eq-eqb a a refl) refl
same_who-refl (Thing i) = eq-eqb i i refl

pub who_apart : (u w : Who) → (u ≢ w) → same_who u w ≡ false
who_apart u w d = elim (cases_Bool (same_who u w)) [ inl e ↦ absurd (d (same_who-true u w e)) | inr e ↦ e ]

-- ---- slots

abbrev pub Among : ℕ → List ℕ → Type 0
Among k [] = ⊥
Among k (x ∷ xs) = (k ≡ x) ⊎ Among k xs

abbrev pub Distinct : List ℕ → Type 0
Distinct [] = Unit {0}
Distinct (x ∷ xs) = (Among x xs → ⊥) × Distinct xs

abbrev pub set_slots : (Who → List ℕ) → Who → List ℕ → Who → List ℕ
set_slots slots who xs u = cond (same_who u who) xs (slots u)

-- each object stands in its state
abbrev pub Stands : ℕ → (ℕ → Id) → (Who → Item) → ℕ → (Who → List ℕ) → (Id → Option State) → Type 0
Stands n ref items count slots g = (u : Who) → IsIn n count u → g (at ref u) ≡ Some (state_of 0 (held_over ref (items u).held.content (slots u)))

-- and at its place
abbrev pub Placed : ℕ → (ℕ → Id) → (Who → Item) → ℕ → (Id → ℕ) → Type 0
Placed n ref items count places = (u : Who) → IsIn n count u → places (at ref u) ≡ (items u).place

-- objects and the slots that wait there
pub record Fits (n : ℕ) (ref : ℕ → Id) (items : Who → Item) (count awaited : ℕ) (slots : Who → List ℕ) (drawn : ℕ) (aw : List Await) : Type 0 where
  pub kinds : (u : Who) → IsIn n count u → (at ref u).kind ≡ (items u).kind
  pub apart : (u : Who) → IsIn n count u → ((items u).kind ≢ 1) × ((items u).kind ≢ 7)
  pub one : (u w : Who) → IsIn n count u → IsIn n count w → same_object (at ref u) (at ref w) ≡ true → u ≡ w
  pub there : (u : Who) → IsIn n count u → (items u).place < n
  pub good : (u : Who) → IsIn n count u → IsGoodContent count (items u).held.content
  pub ours : (u : Who) → IsIn n count u → IsOurs (items u).held.content
  pub readable : (u : Who) → IsIn n count u → IsReadable n (items u).kind (held_over ref (items u).held.content (slots u))
  pub sizes : (u : Who) → IsIn n count u → length (slots u) ≡ length (items u).held.waiting
  pub alike : (u : Who) → IsIn n count u → AllByRecursion (λ w. w ≡ waiter (items u).held.content) (items u).held.waiting
  pub held : (u : Who) → IsIn n count u → (k : ℕ) → Among k (slots u) → held_at k aw ≡ Some (waiter (items u).held.content)
  pub owner : (u w : Who) → IsIn n count u → IsIn n count w → (k : ℕ) → Among k (slots u) → Among k (slots w) → u ≡ w
  pub distinct : (u : Who) → IsIn n count u → Distinct (slots u)
  pub low : (u : Who) → IsIn n count u → (k : ℕ) → Among k (slots u) → k < drawn
  pub total : length aw ≡ awaited

by_who : (P : Item → List ℕ → Type 0) (b : Bool) (x y : Item) (xs ys : List ℕ) → (b ≡ true → P x xs) → (b ≡ false → P y ys) → P (cond b x y) (cond b xs ys)
by_who P true x y xs ys h g = h refl
by_who P false x y xs ys h g = g refl

-- what changes at one object
pub record IsChange (n : ℕ) (ref : ℕ → Id) (items : Who → Item) (count : ℕ) (slots : Who → List ℕ) (drawn : ℕ) (aw : List Await) (who : Who) (new : Item) (ys : List ℕ) (drawn' awaited' : ℕ) (aw' : List Await) : Type 0 where
  pub same_kind : new.kind ≡ (items who).kind
  pub there : new.place < n
  pub same_waiter : waiter new.held.content ≡ waiter (items who).held.content
  pub good : IsGoodContent count new.held.content
  pub ours : IsOurs new.held.content
  pub readable : IsReadable n new.kind (held_over ref new.held.content ys)
  pub size : length ys ≡ length new.held.waiting
  pub alike : AllByRecursion (λ w. w ≡ waiter new.held.content) new.held.waiting
  pub held : (k : ℕ) → Among k ys → held_at k aw' ≡ Some (waiter (items who).held.content)
  pub own : (k : ℕ) → Among k ys → (u : Who) → IsIn n count u → Among k (slots u) → u ≡ who
  pub distinct : Distinct ys
  pub low : (k : ℕ) → Among k ys → k < drawn'
  pub more : drawn ≤ drawn'
  pub others : (u : Who) → IsIn n count u → (u ≢ who) → (k : ℕ) → Among k (slots u) → held_at k aw' ≡ held_at k aw
  pub total : length aw' ≡ awaited'

module _ (n : ℕ) (ref : ℕ → Id) (items : Who → Item) (count awaited : ℕ) (slots : Who → List ℕ) (drawn : ℕ) (aw : List Await)
    (f : Fits n ref items count awaited slots drawn aw) (who : Who) (isin : IsIn n count who) (new : Item) (ys : List ℕ) (drawn' awaited' : ℕ) (aw' : List Await)
    (h : IsChange n ref items count slots drawn aw who new ys drawn' awaited' aw') where
  at_who : (P : Who → Item → List ℕ → Type 0) (u : Who) → P who new ys → (u ≢ who → P u (items u) (slots u))
      → P u (set_item items who new u) (set_slots slots who ys u)
  at_who P u a b =
      by_who (P u) (same_who u who) new (items u) ys (slots u) (λ e. subst (λ x. P x new ys) (sym (same_who-true u who e)) a)
      (λ e. b (λ g. let z : true ≡ false = sym (same_who-refl u) ∙ (ap (same_who u) g ∙ e) in cc))

  abbrev Whose : ℕ → Who → Type 0
  Whose k u = (u ≡ who) × Among k ys ⊎ (Among k (slots u))

  whose : (k : ℕ) (u : Who) → Among k (set_slots slots who ys u) → Whose k u
  whose k u = at_who (λ x i xs. Among k xs → Whose k x) u (λ m. inl (refl, m)) (λ d m. inr m)

  owner_at : (k : ℕ) (u w : Who) → IsIn n count u → IsIn n count w → Whose k u → Whose k w → u ≡ w
  owner_at k u w iu iw (inl a) (inl b) = a.0 ∙ sym b.0
  owner_at k u w iu iw (inl a) (inr b) = a.0 ∙ sym (h.own k a.1 w iw b)
  owner_at k u w iu iw (inr a) (inl b) = h.own k b.1 u iu a ∙ sym b.0
  owner_at k u w iu iw (inr a) (inr b) = f.owner u w iu iw k a b

  pub changed : Fits n ref (set_item items who new) count awaited' (set_slots slots who ys) drawn' aw'
  changed = record {
    kinds = λ u. at_who (λ x i xs. IsIn n count x → (at ref x).kind ≡ i.kind) u (λ i. f.kinds who i ∙ sym h.same_kind) (λ d. f.kinds u);
    apart = λ u. at_who (λ x i xs. IsIn n count x → (i.kind ≢ 1) × (i.kind ≢ 7)) u
        (λ i. let P : ℕ → Type 0 = λ k. (k ≢ 1) × (k ≢ 7) in subst P (sym h.same_kind) (f.apart who i)) (λ d. f.apart u);
    one = f.one;
    there = λ u. at_who (λ x i xs. IsIn n count x → i.place < n) u (λ i. h.there) (λ d. f.there u);
    good = λ u. at_who (λ x i xs. IsIn n count x → IsGoodContent count i.held.content) u (λ i. h.good) (λ d. f.good u);
    ours = λ u. at_who (λ x i xs. IsIn n count x → IsOurs i.held.content) u (λ i. h.ours) (λ d. f.ours u);
    readable = λ u. at_who (λ x i xs. IsIn n count x → IsReadable n i.kind (held_over ref i.held.content xs)) u (λ i. h.readable) (λ d. f.readable u);
    sizes = λ u. at_who (λ x i xs. IsIn n count x → length xs ≡ length i.held.waiting) u (λ i. h.size) (λ d. f.sizes u);
    alike = λ u. at_who (λ x i xs. IsIn n count x → AllByRecursion (λ w. w ≡ waiter i.held.content) i.held.waiting) u (λ i. h.alike) (λ d. f.alike u);
    held = λ u. at_who (λ x i xs. IsIn n count x → (k : ℕ) → Among k xs → held_at k aw' ≡ Some (waiter i.held.content)) u
        (λ i k m. h.held k m ∙ ap (λ w. Some w) (sym h.same_waiter)) (λ d i k m. h.others u i d k m ∙ f.held u i k m);
    owner = λ u w iu iw k a b. owner_at k u w iu iw (whose k u a) (whose k w b);
    distinct = λ u. at_who (λ x i xs. IsIn n count x → Distinct xs) u (λ i. h.distinct) (λ d. f.distinct u);
    low = λ u. at_who (λ x i xs. IsIn n count x → (k : ℕ) → Among k xs → k < drawn') u (λ i. h.low)
        (λ d i k m. let l : k < drawn = f.low u i k m in let l' : drawn ≤ drawn' = h.more in omega arith);
    total = h.total;
  }

  -- the states, where this one changed
  pub stands_set : (g : Id → Option State) (s : State) → Stands n ref items count slots g → s ≡ state_of 0 (held_over ref new.held.content ys)
      → Stands n ref (set_item items who new) count (set_slots slots who ys) (λ o. cond (same_object o (at ref who)) (Some s) (g o))
  stands_set g s st e u = at_who (λ x i xs. IsIn n count x → cond (same_object (at ref x) (at ref who)) (Some s) (g (at ref x)) ≡ Some (state_of 0 (held_over ref i.held.content xs))) u
      (λ i. ap (λ b. cond b (Some s) (g (at ref who))) (same_object-refl (at ref who)) ∙ ap (λ x. Some x) e)
      (λ d i. ap (λ b. cond b (Some s) (g (at ref u))) (object_apart u i d) ∙ st u i)
    where
      object_apart : (u : Who) → IsIn n count u → (u ≢ who) → same_object (at ref u) (at ref who) ≡ false
      object_apart u i d = elim (cases_Bool (same_object (at ref u) (at ref who))) [ inl e ↦ absurd (d (f.one u who i isin e)) | inr e ↦ e ]

  pub placed_set : (places : Id → ℕ) → places (at ref who) ≡ new.place → ((u : Who) → IsIn n count u → (u ≢ who) → places (at ref u) ≡ (items u).place)
      → Placed n ref (set_item items who new) count places
  placed_set places e rest u = at_who (λ x i xs. IsIn n count x → places (at ref x) ≡ i.place) u (λ i. e) (λ d i. rest u i d)

-- ---- one more object

in_more : (n count : ℕ) (u : Who) → IsIn n (count + 1) u → (u ≡ Thing count) ⊎ IsIn n count u
in_more n count (RootOf k a) h = inr h
in_more n count (Thing i) h = elim (cases_Bool (i == count)) [
  | inl e ↦ inl (ap (λ k. Thing k) (eqb-true i count e))
  | inr e ↦ inr (let d : i ≢ count = λ g. (let z : true ≡ false = sym (eq-eqb i count g) ∙ e in cc) in omega arith)
]

pub in_grows : (n count : ℕ) (u : Who) → IsIn n count u → IsIn n (count + 1) u
in_grows n count (RootOf k a) h = h
in_grows n count (Thing i) h = omega arith

pub more_ref : (ℕ → Id) → ℕ → Id → ℕ → Id
more_ref ref count new i = cond (i == count) new (ref i)

pub at_more : (n : ℕ) (ref : ℕ → Id) (count : ℕ) (new : Id) (u : Who) → IsIn n count u → at (more_ref ref count new) u ≡ at ref u
unfolding more_ref
at_more n ref count new (RootOf k a) h = refl
at_more n ref count new (Thing i) h = rw (ne_eqb i count (λ e. absurd (omega arith))) refl

pub at_new : (ref : ℕ → Id) (count : ℕ) (new : Id) → at (more_ref ref count new) (Thing count) ≡ new
unfolding more_ref
at_new ref count new = rw (eq-eqb count count refl) refl

pub at_kept : (ref : ℕ → Id) (count : ℕ) (new : Id) (u : Who) → at (more_ref ref count new) (kept_who count u) ≡ at ref (kept_who count u)
at_kept ref count new (RootOf k a) = refl
at_kept ref count new (Thing i) = elim (cases_Bool (ltb i count)) [
  | inl e ↦ let low = ltb-true i count e in
      ap (at (more_ref ref count new)) (ap (λ b. cond b (Thing i) (RootOf 2 0)) e) ∙ (at_more 1 ref count new (Thing i) low ∙ ap (at ref) (sym (ap (λ b. cond b (Thing i) (RootOf 2 0)) e)))
  | inr e ↦ ap (at (more_ref ref count new)) (ap (λ b. cond b (Thing i) (RootOf 2 0)) e) ∙ ap (at ref) (sym (ap (λ b. cond b (Thing i) (RootOf 2 0)) e))
]

held_more : (ref : ℕ → Id) (count : ℕ) (new : Id) (x : Content Datum) (slots : List ℕ) → IsGoodContent count x → held_over (more_ref ref count new) x slots ≡ held_over ref x slots
held_more ref count new x slots h = ap (λ c. object c) (good_over count (at (more_ref ref count new)) (at ref) x h (at_kept ref count new))
  where
    object : Content (Value Id) → Held (Value Id) Slot
    object c = record { content = c; waiting = map session_slot slots }

in_apart : (n count : ℕ) (u : Who) → IsIn n count u → same_who u (Thing count) ≡ false
in_apart n count (RootOf k a) h = refl
in_apart n count (Thing i) h = ne_eqb i count (λ e. absurd (omega arith))

module _ (n : ℕ) (ref : ℕ → Id) (items : Who → Item) (count awaited : ℕ) (slots : Who → List ℕ) (drawn : ℕ) (aw : List Await)
    (f : Fits n ref items count awaited slots drawn aw) (g : Id → Option State) (st : Stands n ref items count slots g)
    (new : Id) (fresh : (o : Id) → same_object o new ≡ true → g o ≡ None) (y : Item) (none : y.held.waiting ≡ []) (kind : new.kind ≡ y.kind) (apart : (y.kind ≢ 1) × (y.kind ≢ 7)) (there : y.place < n)
    (good : IsGoodContent count y.held.content) (ours : IsOurs y.held.content) (shows : IsReadable n y.kind (held_over ref y.held.content [])) where
  -- the new one, or one that was there
  at_made : (P : Who → Id → Item → List ℕ → Type 0) (u : Who) → IsIn n (count + 1) u → P (Thing count) new y []
      → ((i : IsIn n count u) → P u (at ref u) (items u) (slots u))
      → P u (at (more_ref ref count new) u) (set_item items (Thing count) y u) (set_slots slots (Thing count) [] u)
  at_made P u i a b = elim (in_more n count u i) [
    | inl e ↦ subst (λ x. P x (at (more_ref ref count new) x) (set_item items (Thing count) y x) (set_slots slots (Thing count) [] x)) (sym e)
        (subst (λ o. P (Thing count) o (set_item items (Thing count) y (Thing count)) (set_slots slots (Thing count) [] (Thing count))) (sym (at_new ref count new))
        (subst (λ z. P (Thing count) new (cond z y (items (Thing count))) (cond z [] (slots (Thing count)))) (sym (same_who-refl (Thing count))) a))
    | inr j ↦ subst (λ o. P u o (set_item items (Thing count) y u) (set_slots slots (Thing count) [] u)) (sym (at_more n ref count new u j))
        (subst (λ z. P u (at ref u) (cond z y (items u)) (cond z [] (slots u))) (sym (in_apart n count u j)) (b j))
  ]

  differs : (u : Who) → IsIn n count u → same_object (at ref u) new ≡ true → ⊥
  differs u i e = let z : Some (state_of 0 (held_over ref (items u).held.content (slots u))) ≡ None = sym (st u i) ∙ fresh (at ref u) e in cc

  one_at : (u w : Who) → IsIn n (count + 1) u → IsIn n (count + 1) w → same_object (at (more_ref ref count new) u) (at (more_ref ref count new) w) ≡ true → u ≡ w
  one_at u w i j = at_made (λ x o t xs. same_object o (at (more_ref ref count new) w) ≡ true → x ≡ w) u i
      (at_made (λ x o t xs. same_object new o ≡ true → Thing count ≡ x) w j (λ e. refl) (λ k e. absurd (differs w k (same_object-sym new (at ref w) e))))
      (λ k. at_made (λ x o t xs. same_object (at ref u) o ≡ true → u ≡ x) w j (λ e. absurd (differs u k e)) (λ l e. f.one u w k l e))

  owner_made : (u w : Who) → IsIn n (count + 1) u → IsIn n (count + 1) w → (k : ℕ) → Among k (set_slots slots (Thing count) [] u) → Among k (set_slots slots (Thing count) [] w) → u ≡ w
  owner_made u w i j k = at_made (λ x o t xs. Among k xs → Among k (set_slots slots (Thing count) [] w) → x ≡ w) u i (λ a b. absurd a)
      (λ iu. at_made (λ x o t xs. Among k (slots u) → Among k xs → u ≡ x) w j (λ a b. absurd b) (λ iw a b. f.owner u w iu iw k a b))

  pub grown : Fits n (more_ref ref count new) (set_item items (Thing count) y) (count + 1) awaited (set_slots slots (Thing count) []) drawn aw
  grown = record {
    kinds = λ u i. at_made (λ x o t xs. o.kind ≡ t.kind) u i kind (λ j. f.kinds u j);
    apart = λ u i. at_made (λ x o t xs. (t.kind ≢ 1) × (t.kind ≢ 7)) u i apart (λ j. f.apart u j);
    one = one_at;
    there = λ u i. at_made (λ x o t xs. t.place < n) u i there (λ j. f.there u j);
    good = λ u i. at_made (λ x o t xs. IsGoodContent (count + 1) t.held.content) u i (good_more count y.held.content good) (λ j. good_more count (items u).held.content (f.good u j));
    ours = λ u i. at_made (λ x o t xs. IsOurs t.held.content) u i ours (λ j. f.ours u j);
    readable = λ u i. at_made (λ x o t xs. IsReadable n t.kind (held_over (more_ref ref count new) t.held.content xs)) u i
        (subst (IsReadable n y.kind) (sym (held_more ref count new y.held.content [] good)) shows)
        (λ j. subst (IsReadable n (items u).kind) (sym (held_more ref count new (items u).held.content (slots u) (f.good u j))) (f.readable u j));
    sizes = λ u i. at_made (λ x o t xs. length xs ≡ length t.held.waiting) u i (ap length (sym none)) (λ j. f.sizes u j);
    alike = λ u i. at_made (λ x o t xs. AllByRecursion (λ w. w ≡ waiter t.held.content) t.held.waiting) u i
        (let P : List What → Type 0 = AllByRecursion (λ w. w ≡ waiter y.held.content) in subst P (sym none) tt) (λ j. f.alike u j);
    held = λ u i. at_made (λ x o t xs. (k : ℕ) → Among k xs → held_at k aw ≡ Some (waiter t.held.content)) u i (λ k m. absurd m) (λ j. f.held u j);
    owner = owner_made;
    distinct = λ u i. at_made (λ x o t xs. Distinct xs) u i tt (λ j. f.distinct u j);
    low = λ u i. at_made (λ x o t xs. (k : ℕ) → Among k xs → k < drawn) u i (λ k m. absurd m) (λ j. f.low u j);
    total = f.total;
  }

  pub placed_more : (places : Id → ℕ) → places new ≡ y.place → ((u : Who) → IsIn n count u → places (at ref u) ≡ (items u).place)
      → Placed n (more_ref ref count new) (set_item items (Thing count) y) (count + 1) places
  placed_more places e same u i = at_made (λ x o t xs. places o ≡ t.place) u i e (same u)

  -- and the states
  pub stands_more : (g' : Id → Option State) → g' new ≡ Some (state_of 0 (held_over ref y.held.content [])) → ((u : Who) → IsIn n count u → g' (at ref u) ≡ g (at ref u))
      → Stands n (more_ref ref count new) (set_item items (Thing count) y) (count + 1) (set_slots slots (Thing count) []) g'
  stands_more g' e same u i = at_made (λ x o t xs. g' o ≡ Some (state_of 0 (held_over (more_ref ref count new) t.held.content xs))) u i
      (e ∙ ap (λ h. Some (state_of 0 h)) (sym (held_more ref count new y.held.content [] good)))
      (λ j. same u j ∙ (st u j ∙ ap (λ h. Some (state_of 0 h)) (sym (held_more ref count new (items u).held.content (slots u) (f.good u j)))))
