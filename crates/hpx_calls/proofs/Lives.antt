-- An object's whole life: its states are the plain object after its calls, and what is due is what is told.
use Rattle.std.specs.Prelude.{ℕ, suc, ℤ, pos, negsuc, nat_le, ◌==◌, Bool, true, false, List, [], ◌∷◌, ◌++◌, ◌+◌, ◌≡◌, Option, take, Some, None, is_some, length, map, refl, if◌then◌else◌}
use Rattle.std.proofs.Common.{ap, sym, ◌∙◌, subst, arith, lit≤, inl, length-append}
use Rattle.std.proofs.lemmas.List.{length-map, map-append}
use Rattle.std.specs.List.{AllByRecursion, list_all}
use Rattle.hpx_value.specs.Ids.{Id}
use Rattle.hpx_value.specs.declared.value.Value.{Value as Spelled}
use Rattle.hpx_value.specs.declared.value.Cont.{Cont}
use Rattle.hpx_value.specs.declared.value.State.{State}
use Rattle.hpx_value.specs.declared.value.Act.{Act}
use Rattle.hpx_value.specs.Values.{refs_in}
use Rattle.hpx_value.specs.declared.outcome.Make.{Make}
use Rattle.hpx_value.proofs.Kept as HandLemmas
use Rattle.hpx_value.specs.Shapes.{IsValue, IsAct, IsState, IsCount, places_of}
use Rattle.hpx_value.specs.Laws.{birth_state}
use Rattle.hpx_value.specs.Hands.{Slot, session, id_at, slot_at, conts_from, state_after, due_of}
use Rattle.hpx_calls.specs.Values.{is_small, Value, Nothing, Flag, Int, Text, Ref, Fault, Ints, Look, plain, spelled, seen, shifted}
use Rattle.hpx_calls.specs.Requests.{Request, is_key, asks_bare, asks_move, asks_one, asks_register, asks_step, asks_two, asks_many, request_of}
use Rattle.hpx_calls.specs.Contents.{Content, Pair, Given, Table, Maker, Size, Number, Row, Promise, Dataflow, Started, Channel, Latch, Barrier, Unreadable, layout, content_of}
use Rattle.hpx_calls.specs.Effects.{Effect, Silent, Answers, Waits, Frees, Starts, Hands, Moves, Makes, Called}
use Rattle.hpx_calls.specs.Tables.{called}
use Rattle.hpx_calls.specs.Outcomes.{numbers, kind_of, make_of, has_cont, content_in, request_in, called_in, comes_to, outcome_of}
use Rattle.hpx_calls.specs.Histories.{Object, Setting, called_on, next, run, says, still, tells}
use Rattle.hpx_calls.specs.Ids.{numbered, ids_in, values_of, state_of, IsReadable, waiter_of, call_of, due_for, makes_for, setting_of, object_in, IsCalled, IsBirth, Turn, lived, due_then, calls_of}
use Rattle.hpx_calls.proofs.Asked.{args_below, IsBelow}
use Rattle.hpx_calls.proofs.Natural.{content_seen, request_seen, effect_seen, called_seen, laid_seen, content_of_seen}
use Rattle.hpx_calls.proofs.Alike.{called_is_seen, request_is_seen}
use Rattle.hpx_calls.proofs.Rights.{IsRight, IsBare, called_right}
use Rattle.hpx_calls.proofs.Lawful.{shown_laid}
use Rattle.hpx_calls.proofs.Seen.{see, values_seen, args_seen, many_wait, state_then, due_now, ids_seen, renumbered_is, picked}
use Rattle.hpx_calls.proofs.Fits.{Fits, FitsTable, FitsFlow, FitsChannel, reads_again}
use Rattle.hpx_calls.proofs.FitSteps.{length-still, IsAsked, called_leaves}
use Rattle.hpx_calls.proofs.FitReads.{readable_fits}

-- ---- what an action asks has keys that are keys, and references under them

module _ (R : Type 0) where
  asked_if : (b : Bool) (x y : Request (Value R)) → (b ≡ true → IsAsked x) → (b ≡ false → IsAsked y) → IsAsked (if b then x else y)
  asked_if true x y p q = p refl
  asked_if false x y p q = q refl

  register_asked : (key : List ℕ) (v : Value R) → IsAsked (asks_register key v ((plain R).look v))
  register_asked key (Ref r) = asked_if (is_key key) _ _ (λ e. (e, tt)) (λ e. tt)
  register_asked key Nothing = tt
  register_asked key (Flag b) = tt
  register_asked key (Int z) = tt
  register_asked key (Text t) = tt
  register_asked key (Fault c) = tt
  register_asked key (Ints zs) = tt

  bare_asked : (code : ℕ) → IsAsked {R = R} (asks_bare code)
  bare_asked code =
      asked_if (code == 2) _ _ (λ e. tt) (λ e. asked_if (code == 9) _ _ (λ e. tt) (λ e. asked_if (code == 10) _ _ (λ e. tt) (λ e. asked_if (code == 17) _ _ (λ e. tt) (λ e.
      asked_if (code == 18) _ _ (λ e. tt) (λ e. asked_if (code == 32) _ _ (λ e. tt) (λ e. asked_if (code == 34) _ _ (λ e. tt) (λ e. asked_if (code == 35) _ _ (λ e. tt) (λ e.
      asked_if (code == 36) _ _ (λ e. tt) (λ e. asked_if (code == 37) _ _ (λ e. tt) (λ e. tt))))))))))

  move_asked : (z : ℤ) → IsAsked {R = R} (asks_move z)
  move_asked (pos to) = asked_if (nat_le to 63) _ _ (λ e. tt) (λ e. tt)
  move_asked (negsuc m) = tt

  one_asked : (code : ℕ) (l : Look) → IsAsked {R = R} (asks_one code l)
  one_asked code (Int z) = asked_if (code == 1) _ _ (λ e. move_asked z) (λ e. asked_if (code == 16) _ _ (λ e. tt) (λ e. tt))
  one_asked code (Text t) = asked_if (code == 5) _ _ (λ e. tt) (λ e. asked_if (code == 7) _ _ (λ e. tt) (λ e. asked_if (code == 8) _ _ (λ e. tt) (λ e. tt)))
  one_asked code _ = tt

  step_asked : (z : ℤ) (l : Look) → IsAsked {R = R} (asks_step z l)
  step_asked z (Int y) = tt
  step_asked z _ = tt

  two_asked : (code : ℕ) (b : Bool) (l : Look) (v : Value R) → IsAsked (asks_two (plain R) code b l v)
  two_asked code b (Int z) v =
      asked_if (code == 3) _ _ (λ e. asked_if b _ _ (λ f. tt) (λ f. tt)) (λ e.
      asked_if (code == 19) _ _ (λ f. step_asked z ((plain R).look v)) (λ f. asked_if (code == 33) _ _ (λ g. tt) (λ g. tt)))
  two_asked code b (Text t) v = asked_if (code == 5) _ _ (λ e. tt) (λ e. asked_if (code == 6) _ _ (λ f. register_asked t v) (λ f. tt))
  two_asked code b _ v = tt

  many_asked : (code : ℕ) (l : Look) (vs : List (Value R)) → IsAsked (asks_many code l vs)
  many_asked code (Text t) vs = asked_if (code == 5) _ _ (λ e. tt) (λ e. tt)
  many_asked code _ vs = tt

  request_asked : (code : ℕ) (b : Bool) (vs : List (Value R)) → IsAsked (request_of (plain R) code b vs)
  request_asked code b [] = bare_asked code
  request_asked code b (v ∷ []) = asked_if (code == 33) _ _ (λ e. tt) (λ e. one_asked code ((plain R).look v))
  request_asked code b (v ∷ w ∷ []) = two_asked code b ((plain R).look v) w
  request_asked code b (v ∷ w ∷ x ∷ vs) = many_asked code ((plain R).look v) (w ∷ x ∷ vs)

-- ---- one action

cont_waits : (ids : List Id) (c : Option Cont) → has_cont c ≡ is_some (waiter_of ids c)
cont_waits ids None = refl
cont_waits ids (Some c) = refl

module _ (n kind here drawn : ℕ) (o : Object (Value Id) Slot) (a : Act) (made : List Id) where
  abbrev setting : Setting (Value Id)
  setting = setting_of kind here made

  abbrev f : ℕ → Id
  f = see drawn o a made

  abbrev s : State
  s = state_of drawn o

  abbrev outer : Called Spelled
  outer = called_in n kind here s a

  content_same : IsReadable n kind o → content_seen f (content_in n kind s) ≡ o.content
  content_same h =
      sym (content_of_seen f n kind (length s.conts) s.values) ∙ ap (content_of (plain Id) n kind (length s.conts)) (values_seen drawn o a made)
      ∙ ap (λ m. content_of (plain Id) n kind m (values_of o)) (many_wait drawn o a made) ∙ h

  request_same : IsAct a → request_seen f (request_in s a) ≡ (call_of a).request
  request_same act =
      let ids = act.ids in
      sym (request_is_seen f a.code (has_cont a.cont) (map (shifted (length s.ids)) a.args))
      ∙ ap (request_of (plain Id) a.code (has_cont a.cont)) (args_seen drawn o a made (below a.args (args_below 1 (length a.ids) a.args act.values.each act.refs (omega arith))))
    where
      below : (vs : List Spelled) → AllByRecursion (λ v. IsValue v × IsBelow (length a.ids) v) vs → AllByRecursion (IsBelow (length a.ids)) vs
      below [] h = tt
      below (v ∷ vs) h = (h.0.1, below vs h.1)

  called_same : IsReadable n kind o → IsAct a → called_seen f outer ≡ called_on setting o (call_of a)
  called_same h act =
      sym (called_is_seen f here kind (length s.conts) (has_cont a.cont) (content_in n kind s) (request_in s a))
      ∙ ap (λ x. called (plain Id) here kind (length s.conts) (has_cont a.cont) x (request_seen f (request_in s a))) (content_same h)
      ∙ ap (called (plain Id) here kind (length s.conts) (has_cont a.cont) o.content) (request_same act)
      ∙ ap (λ m. called (plain Id) here kind m (has_cont a.cont) o.content (call_of a).request) (many_wait drawn o a made)
      ∙ ap (λ b. called (plain Id) here kind (length o.waiting) b o.content (call_of a).request) (cont_waits a.ids a.cont)

  right : IsRight (length o.waiting) (has_cont a.cont) outer.effect
  right =
      let P : ℕ → Type 0 = λ m. IsRight m (has_cont a.cont) outer.effect in
      subst P (many_wait drawn o a made) (called_right spelled here kind (length s.conts) (has_cont a.cont) (content_in n kind s) (request_in s a))

  pub state_turned : IsReadable n kind o → IsAct a → state_after s a made (outcome_of n kind here s a) ≡ state_of drawn (next setting o (call_of a))
  unfolding outcome_of
  state_turned h act =
      state_then drawn o a made here (layout spelled outer.content) (content_seen f outer.content) outer.effect (sym (laid_seen f outer.content)) right
      ∙ ap (λ (c : Called (Value Id)). state_of drawn (record { content = c.content; waiting = still c.effect o.waiting (waiter_of a.ids a.cont) })) (called_same h act)

  pub due_turned : IsReadable n kind o → IsAct a
      → due_of s a made (outcome_of n kind here s a) ≡ due_for here (tells setting (called_on setting o (call_of a)).effect o.waiting (call_of a).waiter)
  unfolding outcome_of
  due_turned h act =
      due_now drawn o a made kind here (layout spelled outer.content) outer.effect right
      ∙ ap (λ (c : Called (Value Id)). due_for here (tells setting c.effect o.waiting (waiter_of a.ids a.cont))) (called_same h act)

  pub still_readable : IsReadable n kind o → IsReadable n kind (next setting o (call_of a))
  still_readable h =
      let c = called_on setting o (call_of a) in
      let P : ℕ → Type 0 = λ m. Fits n kind m c.content in
      reads_again Id n kind (length (still c.effect o.waiting (call_of a).waiter)) c.content
      (subst P (sym (length-still c.effect o.waiting (call_of a).waiter))
      (called_leaves Id n here kind (length o.waiting) (is_some (call_of a).waiter) o.content (call_of a).request (readable_fits Id n kind (length o.waiting) o.content h)
      (request_asked Id a.code (has_cont a.cont) (map (seen (id_at a.ids)) a.args))))

-- ---- a whole life

abbrev IsLived : ℕ → ℕ → ℕ → ℕ → Content (Value Id) → List Id → List Turn → Type 0
IsLived n kind here drawn x made ts =
    (lived n kind here (state_of drawn (record { content = x; waiting = [] })) ts ≡ state_of drawn (run (setting_of kind here made) x (calls_of ts)))
    × IsReadable n kind (run (setting_of kind here made) x (calls_of ts))

lives : (n kind here drawn : ℕ) (x : Content (Value Id)) (made : List Id) (ts : List Turn) → IsReadable n kind (record { content = x; waiting = [] })
    → AllByRecursion (λ t. IsAct t.act) ts → IsLived n kind here drawn x made ts
lives n kind here drawn x made [] h acts = (refl, h)
lives n kind here drawn x made (t ∷ ts) h acts =
    let before = lives n kind here drawn x made ts h acts.1 in
    let o = run (setting_of kind here made) x (calls_of ts) in (
      ap (λ s. state_after s t.act t.made (outcome_of n kind here s t.act)) before.0 ∙ state_turned n kind here drawn o t.act t.made before.1 acts.0,
      still_readable n kind here drawn o t.act t.made before.1,
    )

pub all_lives : (n kind here drawn : ℕ) (x : Content (Value Id)) (made : List Id) (ts : List Turn) → IsReadable n kind (record { content = x; waiting = [] })
    → AllByRecursion (λ t. IsAct t.act) ts
    → lived n kind here (state_of drawn (record { content = x; waiting = [] })) ts ≡ state_of drawn (run (setting_of kind here made) x (calls_of ts))
all_lives n kind here drawn x made ts h acts = (lives n kind here drawn x made ts h acts).0

pub all_told : (n kind here drawn : ℕ) (x : Content (Value Id)) (ts : List Turn) (t : Turn) → IsReadable n kind (record { content = x; waiting = [] })
    → AllByRecursion (λ t. IsAct t.act) ts → IsAct t.act
    → due_then n kind here (state_of drawn (record { content = x; waiting = [] })) ts t ≡ due_for here (says (setting_of kind here t.made) x (calls_of ts) (call_of t.act))
all_told n kind here drawn x ts t h acts act =
    let before = lives n kind here drawn x t.made ts h acts in
    let o = run (setting_of kind here t.made) x (calls_of ts) in
    ap (λ s. due_of s t.act t.made (outcome_of n kind here s t.act)) before.0 ∙ due_turned n kind here drawn o t.act t.made before.1 act

-- ---- what is made

made_is : (see : ℕ → Id) (x : Content Spelled) → IsBare x → make_of x ≡ record { kind = kind_of (content_seen see x); values = numbered 0 (layout (plain Id) (content_seen see x)) }
made_is see (Number z) h = refl
made_is see (Row zs) h = refl
made_is see (Promise None) h = refl
made_is see (Channel closed []) h = refl
made_is see (Latch left) h = refl
made_is see (Barrier m) h = refl
made_is see (Table pairs) h = absurd h
made_is see Maker h = absurd h
made_is see (Size m) h = absurd h
made_is see (Promise (Some v)) h = absurd h
made_is see (Dataflow code inputs xs) h = absurd h
made_is see (Started code inputs) h = absurd h
made_is see (Channel closed (v ∷ vs)) h = absurd h
made_is see (Unreadable vs) h = absurd h

makes_seen : (see : ℕ → Id) (here : ℕ) (s : State) (a : Act) (vs : List Spelled) (w : ℕ) (b : Bool) (e : Effect Spelled) → IsRight w b e → (comes_to here s a vs e).makes ≡ makes_for (effect_seen see e)
makes_seen see here s a vs w b Silent h = refl
makes_seen see here s a vs w b (Answers v) h = refl
makes_seen see here s a vs w b Waits h = refl
makes_seen see here s a vs w b (Frees count v u) h = refl
makes_seen see here s a vs w b (Starts code args) h = refl
makes_seen see here s a vs w b (Hands code args u) h = refl
makes_seen see here s a vs w b (Moves to) h = refl
makes_seen see here s a vs w b (Makes x) h = ap (λ (m : Make). m ∷ []) (made_is see x h)

makes_turned : (n kind here drawn : ℕ) (o : Object (Value Id) Slot) (a : Act) (made : List Id) → IsReadable n kind o → IsAct a
    → (outcome_of n kind here (state_of drawn o) a).makes ≡ makes_for (called_on (setting_of kind here made) o (call_of a)).effect
unfolding outcome_of
makes_turned n kind here drawn o a made h act =
    let c = outer n kind here drawn o a made in
    makes_seen (see drawn o a made) here (state_of drawn o) a (layout spelled c.content) (length o.waiting) (has_cont a.cont) c.effect (right n kind here drawn o a made)
    ∙ ap (λ (c : Called (Value Id)). makes_for c.effect) (called_same n kind here drawn o a made h act)

pub is_called : (n kind here drawn : ℕ) (o : Object (Value Id) Slot) (a : Act) (made : List Id) → IsReadable n kind o → IsAct a → IsCalled n kind here drawn o a made
is_called n kind here drawn o a made h act = record {
  state = state_turned n kind here drawn o a made h act;
  due = due_turned n kind here drawn o a made h act;
  makes = makes_turned n kind here drawn o a made h act;
  shown = still_readable n kind here drawn o a made h;
}

-- ---- births

pub born_readable : (n kind : ℕ) (x : Content (Value Id)) → IsBirth n kind x → IsReadable n kind (record { content = x; waiting = [] })
born_readable n kind x h = reads_again Id n kind 0 x (born_fits x h)
  where
    some_open : (kept : List (Value Id)) → kept ≡ [] → list_all (λ (v : Value Id). is_small ((plain Id).look v)) kept ≡ true
    some_open kept e = ap (list_all (λ (v : Value Id). is_small ((plain Id).look v))) e

    born_fits : (x : Content (Value Id)) → IsBirth n kind x → Fits n kind 0 x
    born_fits (Table pairs) h =
        let P : List (Pair (Value Id)) → Type 0 = λ xs. FitsTable kind 0 xs in
        subst P (sym h.1) (record { kinds = h.0; waiting = refl; few = lit≤ tt; keys = refl; order = refl; refs = tt })
    born_fits Maker h = (h, refl)
    born_fits (Size m) h = (h.0, refl, h.1)
    born_fits (Number z) h = (h, refl)
    born_fits (Row zs) h = (h.0, refl, h.1, h.2)
    born_fits (Promise None) h = (h.0, lit≤ tt)
    born_fits (Promise (Some v)) h = absurd (cc (h.1))
    born_fits (Dataflow code inputs given) h =
        let P : List (Given (Value Id)) → Type 0 = λ xs. FitsFlow kind 0 code inputs xs in
        subst P (sym h.4)
        (record { kinds = h.0; starts = h.1; codes = h.2; most = h.3; once = refl; short = refl; few = omega arith; waiting = lit≤ tt; lacks = inl refl })
    born_fits (Started code inputs) h = absurd h
    born_fits (Channel closed kept) h =
        let P : List (Value Id) → Type 0 = λ vs. FitsChannel kind 0 closed vs in
        subst P (sym h.2) (record { kinds = h.0; waiting = lit≤ tt; few = lit≤ tt; small = refl; either = inl refl })
    born_fits (Latch left) h = record { kinds = h.0; waiting = lit≤ tt; most = h.1; either = inl refl }
    born_fits (Barrier m) h = let some = h.1 in (h.0, omega arith, h.2)
    born_fits (Unreadable vs) h = absurd h

-- nothing that an object holds at its birth names another
no_ids : (n kind : ℕ) (x : Content (Value Id)) → IsBirth n kind x → ids_in (layout (plain Id) x) ≡ []
no_ids n kind (Table pairs) h = ap (λ (xs : List (Pair (Value Id))). ids_in (layout (plain Id) (Table xs))) h.1
no_ids n kind Maker h = refl
no_ids n kind (Size m) h = refl
no_ids n kind (Number z) h = refl
no_ids n kind (Row zs) h = refl
no_ids n kind (Promise None) h = refl
no_ids n kind (Promise (Some v)) h = absurd (cc (h.1))
no_ids n kind (Dataflow code inputs given) h = ap (λ (xs : List (Given (Value Id))). ids_in (layout (plain Id) (Dataflow code inputs xs))) h.4
no_ids n kind (Started code inputs) h = absurd h
no_ids n kind (Channel closed kept) h = ap ids_in h.2
no_ids n kind (Latch left) h = refl
no_ids n kind (Barrier m) h = refl
no_ids n kind (Unreadable vs) h = absurd h

pub born_is : (n kind : ℕ) (x : Content (Value Id)) → IsBirth n kind x
    → birth_state (record { kind = kind; values = numbered 0 (layout (plain Id) x) }) ≡ state_of 0 (record { content = x; waiting = [] })
born_is n kind x h =
    ap (λ (is : List Id). record { drawn = 0; values = numbered 0 (layout (plain Id) x); conts = []; ids = is ++ [] }) (sym (no_ids n kind x h))

-- ---- well-formed states

conts_again : (ids : List Id) (n : ℕ) (cs : List Cont) → IsCount n (places_of cs) → conts_from n (map (slot_at ids) cs) ≡ cs
conts_again ids n [] h = refl
conts_again ids n (c ∷ cs) h =
    let P : ℕ → Type 0 = λ p. conts_from n (map (slot_at ids) (c ∷ cs)) ≡ record { place = p; slot = c.slot } ∷ cs in
    subst P (sym h.0) (ap (λ rest. record { place = n; slot = c.slot } ∷ rest) (conts_again ids (n + 1) cs h.1))

objects_of : (ids : List Id) (cs : List Cont) → map (λ (x : Slot). x.object) (map (slot_at ids) cs) ≡ map (id_at ids) (places_of cs)
objects_of ids [] = refl
objects_of ids (c ∷ cs) = ap (λ rest. id_at ids c.place ∷ rest) (objects_of ids cs)

places_many : (cs : List Cont) → length (places_of cs) ≡ length cs
places_many [] = refl
places_many (c ∷ cs) = ap suc (places_many cs)

counted_both : (n : ℕ) (ps qs : List ℕ) → IsCount n ps → IsCount (n + length ps) qs → IsCount n (ps ++ qs)
counted_both n [] qs h i = let P : ℕ → Type 0 = λ m. IsCount m qs in let e : n + 0 ≡ n = omega arith in subst P e i
counted_both n (p ∷ ps) qs h i =
    let P : ℕ → Type 0 = λ m. IsCount m qs in
    let e : n + length (p ∷ ps) ≡ n + 1 + length ps = omega arith in
    (h.0, counted_both (n + 1) ps qs h.1 (subst P e i))

counted_is : (n : ℕ) (ps : List ℕ) → IsCount n ps → ps ≡ numbers n (length ps)
counted_is n [] h = refl
counted_is n (p ∷ ps) h = rw (h.0) (ap (λ rest. n ∷ rest) (counted_is (n + 1) ps h.1))

take_whole : {X : Type 0} (xs : List X) → take (length xs) xs ≡ xs
take_whole [] = refl
take_whole (x ∷ xs) = ap (λ rest. x ∷ rest) (take_whole xs)

-- ids read in their order are these ids
ids_again : (ids : List Id) (ps : List ℕ) → IsCount 0 ps → length ps ≡ length ids → map (id_at ids) ps ≡ ids
ids_again ids ps h e =
    ap (map (id_at ids)) (counted_is 0 ps h) ∙ ap (λ m. map (id_at ids) (numbers 0 m)) e ∙ picked ids session 0 (length ids) (omega arith) ∙ take_whole ids

laid_again : (n kind : ℕ) (s : State) → values_of (object_in n kind s) ≡ map (seen (id_at s.ids)) s.values
laid_again n kind s =
    ap (layout (plain Id)) (content_of_seen (id_at s.ids) n kind (length s.conts) s.values)
    ∙ laid_seen (id_at s.ids) (content_of spelled n kind (length s.conts) s.values)
    ∙ ap (map (seen (id_at s.ids))) (shown_laid n kind (length s.conts) s.values)

pub state_shown : (n kind : ℕ) (s : State) → IsState s → s ≡ state_of s.drawn (object_in n kind s)
state_shown n kind s h = sym (same s.values s.conts s.ids values conts ids)
  where
    vs : List (Value Id)
    vs = map (seen (id_at s.ids)) s.values

    the_ids : ids_in (values_of (object_in n kind s)) ≡ map (id_at s.ids) (refs_in s.values)
    the_ids = ap ids_in (laid_again n kind s) ∙ sym (ids_seen (id_at s.ids) s.values)

    values : numbered 0 (values_of (object_in n kind s)) ≡ s.values
    values = ap (numbered 0) (laid_again n kind s) ∙ sym (renumbered_is (id_at s.ids) 0 s.values) ∙ HandLemmas.same_values 0 s.values h.refs

    conts : conts_from (length (ids_in (values_of (object_in n kind s)))) (map (slot_at s.ids) s.conts) ≡ s.conts
    conts =
        ap (λ is. conts_from (length is) (map (slot_at s.ids) s.conts)) the_ids
        ∙ ap (λ m. conts_from m (map (slot_at s.ids) s.conts)) (length-map (refs_in s.values) (id_at s.ids)) ∙ conts_again s.ids (length (refs_in s.values)) s.conts h.conts

    ids : ids_in (values_of (object_in n kind s)) ++ map (λ (x : Slot). x.object) (map (slot_at s.ids) s.conts) ≡ s.ids
    ids =
        let many = places_many s.conts in
        let both = length-append (refs_in s.values) (places_of s.conts) in
        let all = h.ids in
        let P : ℕ → Type 0 = λ m. IsCount m (places_of s.conts) in
        let first : length (refs_in s.values) ≡ 0 + length (refs_in s.values) = omega arith in
        ap (λ is. is ++ map (λ (x : Slot). x.object) (map (slot_at s.ids) s.conts)) the_ids ∙ ap (λ is. map (id_at s.ids) (refs_in s.values) ++ is) (objects_of s.ids s.conts)
        ∙ sym (map-append (id_at s.ids) (refs_in s.values) (places_of s.conts))
        ∙ ids_again s.ids (refs_in s.values ++ places_of s.conts) (counted_both 0 (refs_in s.values) (places_of s.conts) h.refs (subst P first h.conts)) (omega arith)

    same : (us : List Spelled) (cs : List Cont) (is : List Id) → numbered 0 (values_of (object_in n kind s)) ≡ us
        → conts_from (length (ids_in (values_of (object_in n kind s)))) (map (slot_at s.ids) s.conts) ≡ cs
        → ids_in (values_of (object_in n kind s)) ++ map (λ (x : Slot). x.object) (map (slot_at s.ids) s.conts) ≡ is
        → state_of s.drawn (object_in n kind s) ≡ record { drawn = s.drawn; values = us; conts = cs; ids = is }
    same us cs is p q r = rw p (rw q (rw r refl))

pub object_shown : (n kind : ℕ) (s : State) → IsReadable n kind (object_in n kind s)
object_shown n kind s =
    ap (λ m. content_of (plain Id) n kind m (values_of (object_in n kind s))) (length-map s.conts (slot_at s.ids))
    ∙ ap (content_of (plain Id) n kind (length s.conts)) (laid_again n kind s)
