-- A line over the plain pool: it is read, and what it asks for is asked; then it is over, and the plain space is as the line leaves it.
use Rattle.std.specs.Prelude.{is_some, ◌==◌, if◌then◌else◌}
use Rattle.std.specs.List.{concat, AllByRecursion}
use Rattle.std.specs.Option.{option_map}
use Rattle.std.specs.Str.{bytes_eq}
use Rattle.std.proofs.Common.{ℕ, Bool, true, false, cond, List, [], ◌∷◌, ◌++◌, ◌≡◌, ◌≢◌, ◌+◌, ◌<◌, ◌≤◌, ◌⊎◌, Option, Some, None, refl, sym, ap, ◌∙◌, subst, inl, inr, length, map, arith, append-nil}
use Rattle.std.proofs.lemmas.Bool.{cases_Bool, cond_both, eqb-true, eqb-false}
use Rattle.std.proofs.lemmas.List.{length-map}
use Rattle.hpx_value.specs.Ids.{Id, same_object}
use Rattle.hpx_value.specs.Values.{named, refs_in}
use Rattle.hpx_value.specs.Shapes.{IsAct}
use Rattle.hpx_value.specs.Hands.{session, id_at, hand_ids, state_after, sent, target_id}
use Rattle.hpx_value.specs.declared.value.State.{State}
use Rattle.hpx_value.specs.declared.value.Act.{Act}
use Rattle.hpx_value.specs.declared.value.Message.{Message}
use Rattle.hpx_value.specs.declared.outcome.Sending.{Sending}
use Rattle.hpx_value.specs.declared.outcome.Outcome.{Outcome}
use Rattle.hpx_parcel.specs.declared.parcel.Parcel.{Parcel}
use Rattle.hpx_journal.specs.Entries.{Rules, line_message}
use Rattle.hpx_journal.specs.Pool.{Pool, moves_to, sent_by, acted, AreNew, IsActed, IsMoved}
use Rattle.hpx_journal.specs.Sessions.{IsStep}
use Rattle.hpx_journal.proofs.Same.{same_object-refl, same_object-true}
use Rattle.hpx_calls.specs.Values.{Value, Ref, plain, mapped, spelled, seen}
use Rattle.hpx_calls.specs.Ids.{numbered, ids_in}
use Rattle.hpx_calls.proofs.Seen.{renumbered_is, ids_seen}
use Rattle.app_console.specs.Types.{Console, Space, AccumulatorConsole, Own, Spelled, SpelledUnit, SpelledFlag, SpelledInt, SpelledText, SpelledRef, SpelledFault, SpelledInts, Naming, What, NotSaid, Told, Released, Bound, Await, Desk, Status, Stands as StandsFor, Argument, GivenWord, GivenObject, GivenNumber, Goal, Named, RootAt, Plan, DoesNothing, ShowsHelp, Refuses, GivesUp, Calls}
use Rattle.app_console.specs.Commands.{Sight, help_of, refusal_text, plan_of}
use Rattle.app_console.specs.Desks
use Rattle.app_console.specs.Session
use Rattle.app_console.specs.Session.{given, or_nothing}
use Rattle.app_console.specs.Judging.{Acting, judging}
use Rattle.app_console.specs.Plain.{Who, RootOf, Datum, Item, Plain, End, call_by, call_end, who_of, who_by, goal_end, plan_end, line_end, sight_of, kind_by}
use Rattle.app_console.proofs.Namings.{IsPlace, IsNaming}
use Rattle.app_console.proofs.Seen.{IsFit, IsRef, names_seen, naming_seen, desk_seen, opened_seen, without_seen, seek_seen, all_given_seen}
use Rattle.app_console.proofs.Seen as Seen
use Rattle.app_console.proofs.Named.{names_over, naming_over, without_over, seek_over, all_given_over, length-over, IsNew, HasNameRoom, opened_each, opened_few, without_fit, without_few, kind_over, IsFitName}
use Rattle.app_console.proofs.Comings.{Coming}
use Rattle.app_console.proofs.Fit.{at, IsIn, asked, IsGood, good_ref, Placed, Fits}
use Rattle.app_console.proofs.Fit as Fit
use Rattle.app_console.proofs.Slots.{await}
use Rattle.app_console.proofs.Called.{IsAlike, next_of, acted_alike}
use Rattle.app_console.proofs.Effects.{session_state, desk_of, AreNamed, Answering, concat_printed}
use Rattle.app_console.proofs.Plans.{IsPlan, IsCall, IsGoal, IsMove, IsFresh, HasRoom, plan_fine}
use Rattle.app_console.proofs.SessionKeeps.{question, given_all}
use Rattle.app_console.proofs.Steps.{Asking, IsMoveNow, session_leaves, session_desk, shown_at}

heads : {X : Type 0} (x y : X) (xs ys : List X) → x ∷ xs ≡ y ∷ ys → x ≡ y
heads x y xs ys e = cc

tails : {X : Type 0} (x y : X) (xs ys : List X) → x ∷ xs ≡ y ∷ ys → xs ≡ ys
tails x y xs ys e = cc

funext : {X Y : Type 0} {f g : X → Y} → ((x : X) → f x ≡ g x) → f ≡ g
funext h = λ i x. h x i

-- ---- names over ids are those of the plain space

module _ (count : ℕ) (see : ℕ → Id) (ref : ℕ → Id) where
  to_same : (a : Option Spelled) (b : Option Datum) (who : Who) → option_map (seen see) a ≡ option_map (mapped (at ref)) b → b ≡ Some (Ref who)
      → (p : ℕ) × (a ≡ Some (SpelledRef p)) × (see p ≡ at ref who)
  to_same a b who e f = by_value a (e ∙ ap (option_map (mapped (at ref))) f)
    where
      by_value : (a : Option Spelled) → option_map (seen see) a ≡ Some (Ref (at ref who)) → (p : ℕ) × (a ≡ Some (SpelledRef p)) × (see p ≡ at ref who)
      by_value None g = absurd (cc)
      by_value (Some (SpelledRef p)) g = (p, refl, cc)
      by_value (Some SpelledUnit) g = absurd (cc)
      by_value (Some (SpelledFlag b)) g = absurd (cc)
      by_value (Some (SpelledInt z)) g = absurd (cc)
      by_value (Some (SpelledText t)) g = absurd (cc)
      by_value (Some (SpelledFault c)) g = absurd (cc)
      by_value (Some (SpelledInts zs)) g = absurd (cc)

  place_of_ref : (o : Option Spelled) → IsRef (option_map (seen see) o) → IsPlace o
  place_of_ref None h = tt
  place_of_ref (Some (SpelledRef p)) h = tt
  place_of_ref (Some SpelledUnit) h = absurd h
  place_of_ref (Some (SpelledFlag b)) h = absurd h
  place_of_ref (Some (SpelledInt z)) h = absurd h
  place_of_ref (Some (SpelledText t)) h = absurd h
  place_of_ref (Some (SpelledFault c)) h = absurd h
  place_of_ref (Some (SpelledInts zs)) h = absurd h

  namings_fit : (xs : List (Naming Spelled)) (zs : List (Naming (Value Id))) → names_seen see xs ≡ zs → AllByRecursion IsFitName zs → AllByRecursion IsNaming xs
  namings_fit [] zs e h = tt
  namings_fit (x ∷ xs) [] e h = absurd (let f : names_seen see (x ∷ xs) ≡ [] = e in cc)
  namings_fit (x ∷ xs) (z ∷ zs) e h =
      let one = subst IsFitName (sym (heads (naming_seen see x) z (names_seen see xs) zs e)) h.0 in
      ((one.0, place_of_ref x.to one.1), namings_fit xs zs (tails (naming_seen see x) z (names_seen see xs) zs e) h.1)

  module _ (items : Who → Item) where
    seek_named : (name : List ℕ) (ys : List (Naming Datum)) (kind : ℕ) → AreNamed count ys → Desks.status_in (kind_by items) ys name ≡ StandsFor kind
        → (who : Who) × (Desks.seek name ys ≡ Some (Ref who)) × IsGood count (Ref who) × ((items who).kind ≡ kind)
    seek_named name [] kind h e = absurd (cc)
    seek_named name (y ∷ ys) kind h e = by_name (bytes_eq name y.name) e (seek_named name ys kind h.1)
      where
        by_name : (b : Bool) → (if b then Desks.status_by (kind_by items) y.to else Desks.status_in (kind_by items) ys name) ≡ StandsFor kind
            → (Desks.status_in (kind_by items) ys name ≡ StandsFor kind → (who : Who) × (Desks.seek name ys ≡ Some (Ref who)) × IsGood count (Ref who) × ((items who).kind ≡ kind))
            → (who : Who) × ((if b then y.to else Desks.seek name ys) ≡ Some (Ref who)) × IsGood count (Ref who) × ((items who).kind ≡ kind)
        by_name false f g = g f
        by_name true f g =
            let stands : StandsFor ((items h.0.0).kind) ≡ StandsFor kind = sym (ap (Desks.status_by (kind_by items)) h.0.1) ∙ f in
            (h.0.0, h.0.1, h.0.2, cc)

    seek_good : (name : List ℕ) (ys : List (Naming Datum)) → AreNamed count ys → IsGood count (or_nothing (plain Who) (Desks.seek name ys))
    seek_good name [] h = refl
    seek_good name (y ∷ ys) h =
        cond_both (bytes_eq name y.name) _ _ (λ o. IsGood count (or_nothing (plain Who) o))
        (λ e. subst (λ o. IsGood count (or_nothing (plain Who) o)) (sym h.0.1) h.0.2) (λ e. seek_good name ys h.1)

    given_good : (ys : List (Naming Datum)) (args : List Argument) → AreNamed count ys → AllByRecursion (IsGood count) (map (given (plain Who) ys) args)
    given_good ys [] h = tt
    given_good ys (GivenWord w ∷ args) h = (refl, given_good ys args h)
    given_good ys (GivenNumber z ∷ args) h = (refl, given_good ys args h)
    given_good ys (GivenObject name ∷ args) h = (seek_good name ys h, given_good ys args h)

    named_without : (name : List ℕ) (ys : List (Naming Datum)) → AreNamed count ys → AreNamed count (Desks.without name ys)
    named_without name [] h = tt
    named_without name (y ∷ ys) h = cond_both (bytes_eq name y.name) _ _ (AreNamed count) (λ e. h.1) (λ e. (h.0, named_without name ys h.1))

    module _ (kinds : (who : Who) → IsGood count (Ref who) → (at ref who).kind ≡ (items who).kind) where
      status_same : (kind_at : Spelled → ℕ) → ((p : ℕ) → kind_at (SpelledRef p) ≡ (see p).kind) → (name : List ℕ) (xs : List (Naming Spelled)) (ys : List (Naming Datum))
          → names_seen see xs ≡ names_over (at ref) ys → AreNamed count ys → Desks.status_in kind_at xs name ≡ Desks.status_in (kind_by items) ys name
      status_same kind_at is name [] [] e h = refl
      status_same kind_at is name [] (y ∷ ys) e h = absurd (let f : [] ≡ names_over (at ref) (y ∷ ys) = e in cc)
      status_same kind_at is name (x ∷ xs) [] e h = absurd (let f : names_seen see (x ∷ xs) ≡ [] = e in cc)
      status_same kind_at is name (x ∷ xs) (y ∷ ys) e h =
          let one = heads (naming_seen see x) (naming_over (at ref) y) (names_seen see xs) (names_over (at ref) ys) e in
          let rest = status_same kind_at is name xs ys (tails (naming_seen see x) (naming_over (at ref) y) (names_seen see xs) (names_over (at ref) ys) e) h.1 in
          let t = to_same x.to y.to h.0.0 (ap (λ z. z.to) one) h.0.1 in
          let by_to : Desks.status_by kind_at x.to ≡ Desks.status_by (kind_by items) y.to =
          ap (Desks.status_by kind_at) t.1 ∙ (ap (λ j. StandsFor j) (is t.0 ∙ (ap (λ (o : Id). o.kind) t.2 ∙ kinds h.0.0 h.0.2)) ∙ sym (ap (Desks.status_by (kind_by items)) h.0.1)) in
          ap (λ (u : Status). if bytes_eq name x.name then Desks.status_by kind_at x.to else u) rest
          ∙ (ap (λ (w : List ℕ). if bytes_eq name w then Desks.status_by kind_at x.to else Desks.status_in (kind_by items) ys name) (ap (λ z. z.name) one)
          ∙ ap (λ (u : Status). if bytes_eq name y.name then u else Desks.status_in (kind_by items) ys name) by_to)

      status_over : (name : List ℕ) (ys : List (Naming Datum)) → AreNamed count ys → Desks.status_in kind_over (names_over (at ref) ys) name ≡ Desks.status_in (kind_by items) ys name
      status_over name [] h = refl
      status_over name (y ∷ ys) h =
          let by_to : Desks.status_by kind_over (option_map (mapped (at ref)) y.to) ≡ Desks.status_by (kind_by items) y.to =
          ap (λ o. Desks.status_by kind_over (option_map (mapped (at ref)) o)) h.0.1 ∙ (ap (λ j. StandsFor j) (kinds h.0.0 h.0.2) ∙ sym (ap (Desks.status_by (kind_by items)) h.0.1)) in
          ap (λ (u : Status). if bytes_eq name y.name then Desks.status_by kind_over (option_map (mapped (at ref)) y.to) else u) (status_over name ys h.1)
          ∙ ap (λ (u : Status). if bytes_eq name y.name then u else Desks.status_in (kind_by items) ys name) by_to

-- ---- a line is fed

-- a line is pending, and the pool holds what the plain space holds
pub record Fed (n k : ℕ) (v : Plain) (bytes : List ℕ) (p : Pool) : Type 0 where
  pub ref : ℕ → Id
  pub slots : Who → List ℕ
  pub drawn : ℕ
  pub few : drawn ≤ k
  pub aw : List Await
  pub names : AreNamed v.count v.names
  pub fits : Fits n ref v.items v.count v.awaited slots drawn aw
  pub stands : Fit.Stands n ref v.items v.count slots p.states
  pub placed : Placed n ref v.items v.count p.places
  pub alike : IsAlike p.states
  pub home : p.places session < n
  pub fit : IsFit (desk_of (names_over (at ref) v.names) aw)
  pub desk : p.states session ≡ Some (session_state drawn (desk_of (names_over (at ref) v.names) aw))
  pub pending : p.pending ≡ line_message bytes ∷ []
  pub printed : p.printed ≡ []

-- an action is asked, whose end is that of the line
pub record IsAsked (n k : ℕ) (v : Plain) (e : End) (q : Pool) : Type 0 where
  pub who : Who
  pub code : ℕ
  pub args : List Datum
  pub what : What
  pub asking : Asking n k v who code args what q
  pub ends : e ≡ call_end v who (call_by code args what)

-- the one line of the top call's own comes before any name is bound
abbrev pub IsFirst : Console → Plain → Type 0
IsFirst Own v = v.names ≡ []
IsFirst _ v = Unit {0}

module _ (acts : Acting) (n log limit : ℕ) (parcel_of : List ℕ → Option Parcel) (some : 1 ≤ n) (few : n ≤ 64) (k : ℕ) (little : k ≤ 4000000000) (v : Plain) (con : Console)
    (mark : ℕ) (line : List ℕ) (mark_is : Session.console_of mark ≡ Some con) (short : length line ≤ 16384) (first : IsFirst con v) (p q : Pool) (h : Fed n k v (mark ∷ line) p) where
  abbrev r : Rules
  r = judging acts n log limit parcel_of

  abbrev m : Message
  m = line_message (mark ∷ line)

  abbrev a : Act
  a = named 0 0 m

  abbrev own : List (Naming (Value Id))
  own = names_over (at h.ref) v.names

  abbrev d : Desk (Value Id)
  d = desk_of own h.aw

  abbrev s : State
  s = session_state h.drawn d

  abbrev here : ℕ
  here = p.places session

  abbrev see : ℕ → Id
  see = id_at (hand_ids s a [])

  back : Seen.IsReadBack see (numbered 0 (Desks.desk_out (plain Id) d)) d
  back = session_desk h.drawn d (a.ids ++ []) h.fit

  alone : Seen.IsReadBack (id_at (ids_in (Desks.desk_out (plain Id) d) ++ [])) (numbered 0 (Desks.desk_out (plain Id) d)) d
  alone = session_desk h.drawn d [] h.fit

  abbrev c : Desk Spelled
  c = back.desk

  names_are : names_seen see c.names ≡ own
  names_are = ap (λ e. e.names) back.seen_is

  awaits_are : c.awaits ≡ h.aw
  awaits_are = ap (λ e. e.awaits) back.seen_is

  some_same : {X : Type 0} (x y : X) → Some x ≡ Some y → x ≡ y
  some_same x y e = cc

  same_desk : alone.desk ≡ c
  same_desk = some_same alone.desk c (sym alone.shown ∙ back.shown)

  -- read by the ids of the state alone
  names_here : names_seen (id_at s.ids) c.names ≡ own
  names_here =
      ap (λ (e : Desk Spelled). names_seen (id_at s.ids) e.names) (sym same_desk)
      ∙ (ap (λ ids. names_seen (id_at ids) alone.desk.names) (sym (append-nil s.ids)) ∙ ap (λ e. e.names) alone.seen_is)

  kinds : (who : Who) → IsGood v.count (Ref who) → (at h.ref who).kind ≡ (v.items who).kind
  kinds who g = h.fits.kinds who (good_ref n v.count who g some)

  abbrev sight : (List ℕ → Status) → ℕ → ℕ → Sight
  sight st i j = record { localities = n; status = st; names = i; awaited = j }

  sight_same : Session.sight n (Session.kind_of s) c ≡ sight_of n v
  sight_same =
      ap (λ st. sight st (length c.names) (length c.awaits)) (funext (λ name. status_same v.count (id_at s.ids) h.ref v.items kinds (Session.kind_of s) (λ i. refl) name c.names v.names names_here h.names))
      ∙ (ap (λ i. sight (Desks.status_in (kind_by v.items) v.names) i (length c.awaits)) (sym (Seen.length-seen see c.names) ∙ (ap length names_are ∙ length-over (at h.ref) v.names))
      ∙ ap (λ j. sight (Desks.status_in (kind_by v.items) v.names) (length v.names) j) (ap length awaits_are ∙ h.fits.total))

  names_few : length v.names ≤ 100
  names_few = let l = length-over (at h.ref) v.names in let f = h.fit.few_names in omega arith

  outcome : acts.act_of n 1 here s a ≡ Session.planned con h.drawn c (plan_of con (sight_of n v) line)
  unfolding Session.session_outcome
  outcome =
      let low = h.few in
      acts.session n here s a c few h.home (shown_at h.drawn d c (omega arith) back.shown) (ap is_some mark_is)
      ∙ (ap (Session.session_by n s a) (shown_at h.drawn d c (omega arith) back.shown)
      ∙ (ap (Session.line_of n s a c line) mark_is ∙ ap (λ z. Session.planned con h.drawn c (plan_of con z line)) sight_same))

  -- ---- what is spoken

  none_new : (g : Id → Option State) (i : ℕ) (made : List Id) → AreNew g i [] made → made ≡ []
  none_new g i [] e = refl
  none_new g i (o ∷ made) e = absurd e

  apart : (u : Who) → IsIn n v.count u → same_object (at h.ref u) session ≡ false
  apart u i = elim (cases_Bool (same_object (at h.ref u) session)) [
    | inl g ↦ absurd ((h.fits.apart u i).0 (sym (h.fits.kinds u i) ∙ ap (λ (b : Id). b.kind) (same_object-true (at h.ref u) session g)))
    | inr g ↦ g
  ]

  record IsSpoken (drawn : ℕ) (e : Desk Spelled) (sends : List Sending) (texts : List (List ℕ)) : Type 0 where
    session_is : q.states session ≡ Some (session_state drawn (desk_seen see e))
    states : (u : Who) → IsIn n v.count u → q.states (at h.ref u) ≡ p.states (at h.ref u)
    places : (o : Id) → q.places o ≡ p.places o
    pending : q.pending ≡ map (sent s a []) sends
    printed : q.printed ≡ texts
    alike : IsAlike q.states

  spoken : (drawn : ℕ) (e : Desk Spelled) (sends : List Sending) (texts : List (List ℕ)) → acts.act_of n 1 here s a ≡ Session.spoken drawn e sends texts → IsActed r p q
      → IsSpoken drawn e sends texts
  spoken drawn e sends texts is act =
      let out : Outcome = Session.spoken drawn e sends texts in
      let nx = next_of r p q m s h.pending h.desk act in
      let first_next : q ≡ acted p here m s nx.made [] out = nx.next ∙ ap (acted p here m s nx.made []) is in
      let new : AreNew p.states here [] nx.made = subst (λ (o : Outcome). AreNew p.states here o.makes nx.made) is nx.new in
      let next : q ≡ acted p here m s [] [] out = first_next ∙ ap (λ ids. acted p here m s ids [] out) (none_new p.states here nx.made new) in
      let after : state_after s a [] out ≡ session_state drawn (desk_seen see e) = session_leaves h.drawn drawn d a [] e sends texts in
      let states : (o : Id) → q.states o ≡ cond (same_object o session) (Some (session_state drawn (desk_seen see e))) (p.states o) =
      λ o. ap (λ z. z.states o) next ∙ ap (λ y. cond (same_object o session) (Some y) (p.states o)) after in
      record {
        session_is = states session ∙ ap (λ b. cond b (Some (session_state drawn (desk_seen see e))) (p.states session)) (same_object-refl session);
        states = λ u i. states (at h.ref u) ∙ ap (λ b. cond b (Some (session_state drawn (desk_seen see e))) (p.states (at h.ref u))) (apart u i);
        places = λ o. ap (λ z. z.places o) next;
        pending = ap (λ z. z.pending) next ∙ (append-nil (sent_by m s [] out) ∙ append-nil (map (sent s a []) sends));
        printed = ap (λ z. z.printed) next ∙ ap (λ xs. xs ++ texts) h.printed;
        alike = subst (λ z. IsAlike z.states) (sym next) (acted_alike p here m s [] [] out h.alike);
      }

  -- nothing is asked
  quiet : (es : List (Naming Spelled)) (ns : List (Naming Datum)) (texts : List (List ℕ)) (t : List ℕ) → names_seen see es ≡ names_over (at h.ref) ns → AreNamed v.count ns
      → IsFit (desk_of (names_over (at h.ref) ns) h.aw) → concat texts ≡ t → IsSpoken h.drawn (record { names = es; awaits = c.awaits }) [] texts
      → Answering n (k + 1) (record { names = ns; items = v.items; count = v.count; awaited = v.awaited }) t q
  quiet es ns texts t same named fit e sp =
      let low = h.few in
      record {
        ref = h.ref;
        slots = h.slots;
        drawn = h.drawn;
        few = omega arith;
        last = h.aw;
        said = texts;
        line = [];
        total = 0;
        done = 0;
        left = 0;
        names = names_over (at h.ref) ns;
        awaited = h.aw;
        named = named;
        fits = h.fits;
        stands = λ u j. sp.states u j ∙ h.stands u j;
        placed = λ u j. sp.places (at h.ref u) ∙ h.placed u j;
        alike = sp.alike;
        home = let P : ℕ → Type 0 = λ x. x < n in subst P (sym (sp.places session)) h.home;
        fit = fit;
        fit_last = fit;
        desk = sp.session_is ∙ (ap (λ xs. Some (session_state h.drawn (desk_of xs c.awaits))) same ∙ ap (λ ys. Some (session_state h.drawn (desk_of (names_over (at h.ref) ns) ys))) awaits_are);
        coming = subst (λ ms. Coming [] (names_over (at h.ref) ns) h.aw (names_over (at h.ref) ns) h.aw ms 0) (sym sp.pending) (refl, refl, refl);
        count = refl;
        printed = sp.printed ∙ sym (append-nil texts);
        written = ap concat (append-nil texts) ∙ e;
      }

  -- ---- what is asked

  record IsFound (goal : Goal) : Type 0 where
    who : Who
    who_is : who_of v.names goal ≡ Some who
    isin : IsIn n v.count who
    target : target_id (hand_ids s a []) (Session.target_of c.names goal) ≡ at h.ref who
    kind : (name : List ℕ) → goal ≡ Named name → (j : ℕ) → (sight_of n v).status name ≡ StandsFor j → (v.items who).kind ≡ j

  found : (goal : Goal) → IsGoal (sight_of n v) goal → IsFound goal
  found (RootAt kind place) g = record { who = RootOf kind place; who_is = refl; isin = g; target = refl; kind = λ name e j f. absurd (cc) }
  found (Named name) g =
      let f = seek_named v.count see h.ref v.items name v.names g.0 h.names g.1 in
      let same : option_map (seen see) (Desks.seek name c.names) ≡ option_map (mapped (at h.ref)) (Desks.seek name v.names) =
      sym (seek_seen see name c.names) ∙ (ap (Desks.seek name) names_are ∙ seek_over (at h.ref) name v.names) in
      let t = to_same v.count see h.ref (Desks.seek name c.names) (Desks.seek name v.names) f.0 same f.1 in
      record {
        who = f.0;
        who_is = ap who_by f.1;
        isin = good_ref n v.count f.0 f.2 some;
        target = ap (λ o. see (Session.place_in o)) t.1 ∙ t.2;
        kind = λ other e j stands. f.3 ∙ stands_same g.0 j (sym g.1 ∙ (ap (sight_of n v).status (name_same name other e) ∙ stands));
      }
    where
      stands_same : (i j : ℕ) → StandsFor i ≡ StandsFor j → i ≡ j
      stands_same i j e = cc

      name_same : (x y : List ℕ) → Named x ≡ Named y → x ≡ y
      name_same x y e = cc

  fresh_new : (con : Console) (what : What) → IsFirst con v → IsFresh con (sight_of n v) what → IsNew kind_over own what
  fresh_new con NotSaid f g = tt
  fresh_new con Told f g = tt
  fresh_new con Released f g = tt
  fresh_new Space (Bound name) f g = status_over v.count see h.ref v.items kinds name v.names h.names ∙ g
  fresh_new AccumulatorConsole (Bound name) f g = absurd g
  fresh_new Own (Bound name) f g = ap (λ xs. Desks.status_in kind_over (names_over (at h.ref) xs) name) f

  roomy : (what : What) → HasRoom (sight_of n v) what → HasNameRoom own what
  roomy NotSaid g = h.fit.few_names
  roomy Told g = h.fit.few_names
  roomy Released g = h.fit.few_names
  roomy (Bound name) g = let l = length-over (at h.ref) v.names in let less : length v.names < 100 = g in omega arith

  calls : (goal : Goal) (code : ℕ) (args : List Argument) (what : What) → IsCall con (sight_of n v) goal code args what
      → IsSpoken (h.drawn + 1) (Session.awaiting c h.drawn what) (Session.call_to c.names h.drawn goal code args ∷ []) [] → IsAsked n (k + 1) v (plan_end con v (Calls goal code args what)) q
  calls goal code args what g sp =
      let low = h.few in
      let f = found goal g.goal_fine in
      let given_args : List Datum = map (given (plain Who) v.names) args in
      let vs : List Spelled = map (given spelled c.names) args in
      let over_ids : map (seen see) vs ≡ map (mapped (at h.ref)) given_args =
      all_given_seen see c.names args ∙ (ap (λ xs. map (given (plain Id) xs) args) names_are ∙ all_given_over (at h.ref) v.names args) in
      let ids_are : map see (refs_in vs) ≡ ids_in (map (mapped (at h.ref)) given_args) = ids_seen see vs ∙ ap ids_in over_ids in
      let sent_is : sent s a [] (Session.call_to c.names h.drawn goal code args) ≡ asked h.ref h.drawn f.who code given_args =
      ap (λ us. message code us (length (refs_in vs)) (target_id (hand_ids s a []) (Session.target_of c.names goal)) (map see (refs_in vs))) (renumbered_is see 1 vs ∙ ap (numbered 1) over_ids)
      ∙ (ap (λ i. message code (numbered 1 (map (mapped (at h.ref)) given_args)) i (target_id (hand_ids s a []) (Session.target_of c.names goal)) (map see (refs_in vs))) (sym (length-map (refs_in vs) see) ∙ ap length ids_are)
      ∙ (ap (λ o. message code (numbered 1 (map (mapped (at h.ref)) given_args)) (length (ids_in (map (mapped (at h.ref)) given_args))) o (map see (refs_in vs))) f.target
      ∙ ap (λ is. message code (numbered 1 (map (mapped (at h.ref)) given_args)) (length (ids_in (map (mapped (at h.ref)) given_args))) (at h.ref f.who) is) ids_are)) in
      let long = length-map args (given spelled c.names) in
      let two = g.few in
      let namings = namings_fit v.count see h.ref c.names own names_are h.fit.names in
      let room = roomy what g.names_room in
      record {
        who = f.who;
        code = code;
        args = given_args;
        what = what;
        asking = record {
          ref = h.ref;
          slots = h.slots;
          drawn = h.drawn;
          few = omega arith;
          aw = h.aw;
          named = h.names;
          fits = h.fits;
          stands = λ u j. sp.states u j ∙ h.stands u j;
          alike = sp.alike;
          home = let P : ℕ → Type 0 = λ x. x < n in subst P (sym (sp.places session)) h.home;
          isin = f.isin;
          good = given_good v.count see h.ref v.items v.names args h.names;
          wise = g.what_fine;
          room = room;
          new_name = fresh_new con what first g.fresh;
          fit_now = record {
            names = opened_each what own g.what_fine h.fit.names;
            awaits = ((omega arith, g.what_fine), h.fit.awaits);
            few_names = opened_few what own room;
            few_awaits = let t = h.fits.total in let less : v.awaited < 100 = g.room in omega arith;
          };
          fit_old = h.fit;
          desk = sp.session_is
              ∙ (ap (λ xs. Some (session_state (h.drawn + 1) (desk_of xs (await h.drawn what ∷ c.awaits)))) (opened_seen see what c.names ∙ ap (Desks.opened what) names_are)
              ∙ ap (λ ys. Some (session_state (h.drawn + 1) (desk_of (Desks.opened what own) (await h.drawn what ∷ ys)))) awaits_are);
          well = g.says;
          moves = moving f g.moves;
          act = subst (λ y. IsAct (named 0 0 y)) sent_is
              (question (hand_ids s a []) (target_id (hand_ids s a []) (Session.target_of c.names goal)) h.drawn code vs (given_all c.names namings args g.each) (omega arith));
          pending = sp.pending ∙ ap (λ y. y ∷ []) sent_is;
          printed = sp.printed;
          others = λ u i d'. sp.places (at h.ref u) ∙ h.placed u i;
          spot = inl (sp.places (at h.ref f.who) ∙ h.placed f.who f.isin);
        };
        ends = ap (λ o. goal_end v o (call_by code given_args what)) f.who_is;
      }
    where
      message : ℕ → List Spelled → ℕ → Id → List Id → Message
      message code us i o is = record { code = code; args = us; cont = Some (record { place = i + 1; slot = h.drawn }); ids = o ∷ (is ++ session ∷ []) }

      moving : (f : IsFound goal) → (code ≢ 1) ⊎ IsMove (sight_of n v) goal args → (code ≢ 1) ⊎ IsMoveNow n (v.items f.who).kind code (map (given (plain Who) v.names) args)
      moving f (inl still) = inl still
      moving f (inr g) = elim (cases_Bool (code == 1)) [
        | inl e ↦ inr (record {
          code_is = eqb-true code 1 e;
          to = g.to;
          below = g.below;
          args_are = ap (map (given (plain Who) v.names)) g.args_are;
          movable = let P : ℕ → Type 0 = λ j. (16 ≤ j) × (j < 32) in subst P (sym (f.kind g.name g.goal_is g.kind g.stands)) g.movable;
        })
        | inr e ↦ inl (eqb-false code 1 e)
      ]

  by_plan : (plan : Plan) → IsPlan con (sight_of n v) plan → acts.act_of n 1 here s a ≡ Session.planned con h.drawn c plan → IsActed r p q
      → IsAsked n (k + 1) v (plan_end con v plan) q ⊎ Answering n (k + 1) (plan_end con v plan).plain (plan_end con v plan).text q
  by_plan DoesNothing g e act = inr (quiet c.names v.names [] [] names_are h.names h.fit refl (spoken h.drawn c [] [] e act))
  by_plan ShowsHelp g e act = inr (quiet c.names v.names (Session.printed (help_of con)) (help_of con) names_are h.names h.fit (concat_printed (help_of con)) (spoken h.drawn c [] (Session.printed (help_of con)) e act))
  by_plan (Refuses why) g e act =
      inr (quiet c.names v.names (Session.printed (refusal_text why)) (refusal_text why) names_are h.names h.fit (concat_printed (refusal_text why)) (spoken h.drawn c [] (Session.printed (refusal_text why)) e act))
  by_plan (GivesUp name) g e act =
      let is : names_seen see (Desks.without name c.names) ≡ names_over (at h.ref) (Desks.without name v.names) =
      sym (without_seen see name c.names) ∙ (ap (Desks.without name) names_are ∙ without_over (at h.ref) name v.names) in
      inr (quiet (Desks.without name c.names) (Desks.without name v.names) [] [] is (named_without v.count see h.ref v.items name v.names h.names)
      (subst (λ xs. IsFit (desk_of xs h.aw)) (without_over (at h.ref) name v.names) (record {
        names = without_fit name own h.fit.names;
        awaits = h.fit.awaits;
        few_names = let l = without_few name own in let most = h.fit.few_names in omega arith;
        few_awaits = h.fit.few_awaits;
      })) refl (spoken h.drawn (record { names = Desks.without name c.names; awaits = c.awaits }) [] [] e act))
  by_plan (Calls goal code args what) g e act =
      inl (calls goal code args what g (spoken (h.drawn + 1) (Session.awaiting c h.drawn what) (Session.call_to c.names h.drawn goal code args ∷ []) [] e act))

  alone_message : (l : List Message) (y : Message) (z : List Message) → m ∷ [] ≡ l ++ y ∷ z → y ≡ m
  alone_message [] y z e = cc
  alone_message (x ∷ []) y z e = absurd (let f : y ∷ z ≡ [] = cc in cc)
  alone_message (x ∷ (b ∷ l)) y z e = absurd (let f : b ∷ (l ++ y ∷ z) ≡ [] = cc in cc)

  no_move : (o : Id) → IsMoved o p q → ⊥
  no_move o g =
      let same : g.message ≡ m = alone_message g.before g.message g.behind (sym h.pending ∙ g.pending) in
      let both : None ≡ Some g.to = ap moves_to (sym same) ∙ g.move in
      cc

  pub line_step : IsStep r p q → IsAsked n (k + 1) v (line_end con n v line) q ⊎ Answering n (k + 1) (line_end con n v line).plain (line_end con n v line).text q
  line_step (inl act) = by_plan (plan_of con (sight_of n v) line) (plan_fine con (sight_of n v) line some few names_few short) outcome act
  line_step (inr g) = absurd (no_move g.0 g.1)
