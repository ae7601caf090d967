-- Actions on the session keep the laws.
use Rattle.std.specs.Prelude.{ℕ, zero, suc, pos, Bool, true, false, nat_lt, nat_le, List, [], ◌∷◌, ◌++◌, ◌≡◌, ◌≢◌, ◌+◌, ◌*◌, ◌<◌, ◌≤◌, ◌==◌, ◌&&◌, ◌⊎◌, Option, Some, None, length, map, refl, if◌then◌else◌}
use Rattle.std.specs.List.{AllByRecursion, count_by, slice_index_or}
use Rattle.std.specs.Str.{bytes_eq}
use Rattle.std.proofs.Common.{sym, ap, ◌∙◌, subst, arith, lit≤, inl, inr, length-append}
use Rattle.std.proofs.lemmas.Bool.{cond_both, and_parts, eqb-true, le-ltb}
use Rattle.std.proofs.lemmas.List.{length-map}
use Rattle.std.proofs.lemmas.List.Sums.{count_by-le-length}
use Rattle.hpx_value.specs.Ids.{Id}
use Rattle.hpx_value.specs.Values.{refs_in}
use Rattle.hpx_value.specs.declared.value.State.{State}
use Rattle.hpx_value.specs.declared.value.Act.{Act}
use Rattle.hpx_value.specs.declared.value.Value.{Value}
use Rattle.hpx_value.specs.declared.value.Value.TheVariants.{Unit as Nothing, Flag, Int, Text, Ref, Fault, Ints}
use Rattle.hpx_value.specs.declared.value.Cont.{Cont}
use Rattle.hpx_value.specs.declared.outcome.Outcome.{Outcome}
use Rattle.hpx_value.specs.declared.outcome.Sending.{Sending}
use Rattle.hpx_value.specs.declared.outcome.Target.{Target}
use Rattle.hpx_value.specs.declared.outcome.Target.TheVariants.{Place, Root}
use Rattle.hpx_value.specs.Shapes.{IsValue, IsAct, IsState, IsMessage, IsCount, values_size, value_size, listed}
use Rattle.hpx_value.specs.Hands.{session, id_at, hand_ids, hand_slots, renumbered, addressed, target_id, send_slot}
use Rattle.hpx_value.specs.Kept.{stays}
use Rattle.hpx_value.specs.Mentions.{mentions, kind_at, target_places, handed_places}
use Rattle.hpx_value.specs.Laws.{KeepsLaws, UsesEachOnce, IsTarget, MovesBelow, IsMovable, uses, is_made_slot, target_kind, handed_on, owns, made_slots, makes_slot, drawn_slots, draws}
use Rattle.hpx_value.proofs.Kept as HandLemmas
use Rattle.hpx_calls.specs.Values.{spelled, shifted}
use Rattle.hpx_calls.proofs.Keeps.{count-append, all_append}
use Rattle.app_console.specs.Types.{Console, Here, Naming, What, NotSaid, Told, Released, Bound, Desk, Argument, GivenWord, GivenObject, GivenNumber, Goal, Named, RootAt, Plan, DoesNothing, ShowsHelp, Refuses, GivesUp, Calls, Stands}
use Rattle.app_console.specs.Commands.{help_of, plan_of, refusal_text, answer_text}
use Rattle.app_console.specs.Desks
use Rattle.app_console.specs.Session
use Rattle.app_console.proofs.Lengths.{IsPrint, help_fits, refusal_fits, answer_fits, printed_fits, printed_few}
use Rattle.app_console.proofs.Namings.{IsPlace, IsNaming, IsWhat, AreNamings, AreAwaits, IsDesk, name_refs, places_to, few_refs, wider, less_names, more_names, less_awaits, more_awaits, held_what, desk_kept, desk_shown_is, all_back}
use Rattle.app_console.proofs.Plans.{IsPlan, IsCall, IsGiven, IsGoal, IsMove, plan_fine}

-- ---- values whose Refs are numbered anew

length-renumbered : (n : ℕ) (vs : List Value) → length (renumbered n vs) ≡ length vs
length-renumbered n [] = refl
length-renumbered n (Ref p ∷ vs) = ap suc (length-renumbered (n + 1) vs)
length-renumbered n (_ ∷ vs) = ap suc (length-renumbered n vs)

counted : (n : ℕ) (vs : List Value) → IsCount n (refs_in (renumbered n vs))
counted n [] = tt
counted n (Ref p ∷ vs) = (refl, counted (n + 1) vs)
counted n (_ ∷ vs) = counted n vs

refs-renumbered : (n : ℕ) (vs : List Value) → length (refs_in (renumbered n vs)) ≡ length (refs_in vs)
refs-renumbered n [] = refl
refs-renumbered n (Ref p ∷ vs) = ap suc (refs-renumbered (n + 1) vs)
refs-renumbered n (_ ∷ vs) = refs-renumbered n vs

each-renumbered : (n : ℕ) (vs : List Value) → AllByRecursion IsValue vs → AllByRecursion IsValue (renumbered n vs)
each-renumbered n [] h = tt
each-renumbered n (Ref p ∷ vs) h = (tt, each-renumbered (n + 1) vs h.1)
each-renumbered n (_ ∷ vs) h = (h.0, each-renumbered n vs h.1)

size-renumbered : (n : ℕ) (vs : List Value) → values_size (renumbered n vs) ≡ values_size vs
size-renumbered n [] = refl
size-renumbered n (Ref p ∷ vs) = ap (λ k. 17 + k) (size-renumbered (n + 1) vs)
size-renumbered n (v ∷ vs) = ap (λ k. value_size v + k) (size-renumbered n vs)

refs_few : (vs : List Value) → length (refs_in vs) ≤ length vs
refs_few [] = omega arith
refs_few (Ref p ∷ vs) = let rest = refs_few vs in omega arith
refs_few (_ ∷ vs) = let rest = refs_few vs in omega arith

desk_state : (drawn : ℕ) (vs : List Value) (hand : List Id) → AllByRecursion IsValue vs → length vs ≤ 1024 → length (refs_in vs) ≤ 128 → values_size vs ≤ 64000
    → IsState (record { drawn = drawn; values = renumbered 0 vs; conts = []; ids = map (id_at hand) (refs_in vs) ++ [] })
desk_state drawn vs hand each few refs short =
    let long = length-renumbered 0 vs in
    let many = refs-renumbered 0 vs in
    let size = size-renumbered 0 vs in
    let ids = length-append (map (id_at hand) (refs_in vs)) [] in
    let mapped = length-map (refs_in vs) (id_at hand) in
    record {
      values = record { few = omega arith; each = each-renumbered 0 vs each };
      refs = counted 0 vs;
      conts = tt;
      ids = omega arith;
      few = omega arith;
      short = omega arith;
    }

-- arguments that are few and short
abbrev pub IsShort : Value → Type 0
IsShort v = IsValue v × (value_size v ≤ 16387)

short_values : (vs : List Value) → AllByRecursion IsShort vs → AllByRecursion IsValue vs × (values_size vs ≤ length vs * 16387)
short_values [] h = (tt, lit≤ tt)
short_values (v ∷ vs) h = let rest = short_values vs h.1 in let size = h.0.1 in let more = rest.1 in ((h.0.0, rest.0), omega arith)

pub question : (hand : List Id) (target : Id) (slot code : ℕ) (vs : List Value) → AllByRecursion IsShort vs → length vs ≤ 2
    → IsMessage (addressed hand target code vs (Some (record { object = session; number = slot })))
question hand target slot code vs h few =
    let long = length-renumbered 1 vs in
    let many = refs-renumbered 1 vs in
    let size = size-renumbered 1 vs in
    let refs = refs_few vs in
    let short = short_values vs h in
    let bytes = short.1 in
    let ids = length-append (map (id_at hand) (refs_in vs)) (session ∷ []) in
    let mapped = length-map (refs_in vs) (id_at hand) in
    record {
      values = record { few = omega arith; each = each-renumbered 1 vs short.0 };
      refs = counted 1 vs;
      few_refs = omega arith;
      cont = (omega arith, tt);
      ids = omega arith;
      short = omega arith;
    }

-- ---- what a name stands for

seek_below : (limit : ℕ) (name : List ℕ) (xs : List (Naming Value)) → AllByRecursion (λ p. p < limit) (name_refs xs)
    → AllByRecursion (λ p. p < limit) (places_to (Desks.seek name xs))
seek_below limit name [] h = tt
seek_below limit name (x ∷ xs) h =
    let parts = all_back (λ p. p < limit) (places_to x.to) (name_refs xs) h in
    cond_both (bytes_eq name x.name) _ _ (λ o. AllByRecursion (λ p. p < limit) (places_to o)) (λ e. parts.0) (λ e. seek_below limit name xs parts.1)

seek_place : (name : List ℕ) (xs : List (Naming Value)) → AllByRecursion IsNaming xs → IsPlace (Desks.seek name xs)
seek_place name [] h = tt
seek_place name (x ∷ xs) h = cond_both (bytes_eq name x.name) _ _ IsPlace (λ e. h.0.1) (λ e. seek_place name xs h.1)

place_below : (limit : ℕ) (o : Option Value) → IsPlace o → AllByRecursion (λ p. p < limit) (places_to o) → 0 < limit → Session.place_in o < limit
place_below limit None h below some = some
place_below limit (Some (Ref p)) h below some = below.0
place_below limit (Some Nothing) h below some = absurd h
place_below limit (Some (Flag b)) h below some = absurd h
place_below limit (Some (Int z)) h below some = absurd h
place_below limit (Some (Text t)) h below some = absurd h
place_below limit (Some (Fault c)) h below some = absurd h
place_below limit (Some (Ints zs)) h below some = absurd h

nothing_or : (o : Option Value) → IsPlace o → IsShort (Session.or_nothing spelled o)
nothing_or None h = (tt, lit≤ tt)
nothing_or (Some (Ref p)) h = (tt, lit≤ tt)
nothing_or (Some Nothing) h = absurd h
nothing_or (Some (Flag b)) h = absurd h
nothing_or (Some (Int z)) h = absurd h
nothing_or (Some (Text t)) h = absurd h
nothing_or (Some (Fault c)) h = absurd h
nothing_or (Some (Ints zs)) h = absurd h

nothing_refs : (limit : ℕ) (o : Option Value) → AllByRecursion (λ p. p < limit) (places_to o) → AllByRecursion (λ p. p < limit) (refs_in (Session.or_nothing spelled o ∷ []))
nothing_refs limit None h = tt
nothing_refs limit (Some v) h = h

module _ (xs : List (Naming Value)) (names : AllByRecursion IsNaming xs) where
  given_short : (x : Argument) → IsGiven x → IsShort (Session.given spelled xs x)
  given_short (GivenWord w) h = (h, omega arith)
  given_short (GivenObject name) h = nothing_or (Desks.seek name xs) (seek_place name xs names)
  given_short (GivenNumber z) h = (tt, lit≤ tt)

  pub given_all : (args : List Argument) → AllByRecursion IsGiven args → AllByRecursion IsShort (map (Session.given spelled xs) args)
  given_all [] h = tt
  given_all (x ∷ args) h = (given_short x h.0, given_all args h.1)

module _ (limit : ℕ) (xs : List (Naming Value)) (names : AllByRecursion IsNaming xs) (below : AllByRecursion (λ p. p < limit) (name_refs xs)) where
  refs_one : (v : Value) (vs : List Value) → AllByRecursion (λ p. p < limit) (refs_in (v ∷ [])) → AllByRecursion (λ p. p < limit) (refs_in vs) → AllByRecursion (λ p. p < limit) (refs_in (v ∷ vs))
  refs_one (Ref p) vs h k = (h.0, k)
  refs_one _ vs h k = k

  given_refs : (x : Argument) → AllByRecursion (λ p. p < limit) (refs_in (Session.given spelled xs x ∷ []))
  given_refs (GivenWord w) = tt
  given_refs (GivenObject name) = nothing_refs limit (Desks.seek name xs) (seek_below limit name xs below)
  given_refs (GivenNumber z) = tt

  all_refs : (args : List Argument) → AllByRecursion (λ p. p < limit) (refs_in (map (Session.given spelled xs) args))
  all_refs [] = tt
  all_refs (x ∷ args) = refs_one (Session.given spelled xs x) (map (Session.given spelled xs) args) (given_refs x) (all_refs args)

-- ---- the laws of what a session says

no_counts : (make slot : ℕ) → count_by (is_made_slot make slot) [] ≤ 1
no_counts make slot = lit≤ tt

-- a session that acts answers nobody
record IsSpeaking (s : State) (a : Act) : Type 0 where
  conts : s.conts ≡ []
  cont : a.cont ≡ None

unused : (s : State) (a : Act) → IsSpeaking s a → UsesEachOnce (length (hand_slots s a)) []
unused s a h i =
    let none : length (hand_slots s a) ≡ 0 =
    HandLemmas.length-hand_slots s a ∙ ap (λ conts. length (conts ++ listed a.cont)) h.conts ∙ ap (λ cont. length (listed cont)) h.cont in
    let zero : (if nat_lt i (length (hand_slots s a)) then 1 else 0) ≡ 0 = ap (λ (b : Bool). if b then 1 else 0) (le-ltb i (length (hand_slots s a)) (omega arith)) in
    sym zero

module _ (n here : ℕ) (s : State) (a : Act) (act : IsAct a) (h : IsSpeaking s a) where
  abbrev hand : ℕ
  hand = length s.ids + length a.ids + 0

  -- names, answers and texts of a session that says nothing more
  said : (d : Desk Value) (texts : List (List ℕ)) → AreNamings hand 2 101 d.names → AreAwaits 101 d.awaits
      → length texts ≤ 16 → AllByRecursion (λ bytes. length bytes ≤ 16384) texts → KeepsLaws n 1 here s a (Session.spoken s.drawn d [] texts)
  said d texts names awaits few short =
      let out : Outcome = Session.spoken s.drawn d [] texts in
      let kept = desk_kept d 101 names.each names.few awaits in
      let many = few_refs d.names names.each in
      let bound = names.few in
      let count = kept.few in
      let bytes = kept.short in
      let refs : length (refs_in (Desks.desk_out spelled d)) ≡ length (name_refs d.names) = ap length kept.named in
      let is : mentions s a out ≡ (name_refs d.names ++ []) ++ [] = ap (λ ps. (ps ++ []) ++ []) kept.named in
      let long : length (mentions s a out) ≡ length ((name_refs d.names ++ []) ++ []) = ap length is in
      let one = length-append (name_refs d.names ++ []) [] in
      let two = length-append (name_refs d.names) [] in
      let once : UsesEachOnce (length (hand_slots s a)) (uses out) = unused s a h in
      record {
        names = record {
          places = let P : List ℕ → Type 0 = AllByRecursion (λ p. p < hand) in subst P (sym is) (all_append (λ p. p < hand) (name_refs d.names ++ []) [] (all_append (λ p. p < hand) (name_refs d.names) [] names.below tt) tt);
          conts = tt;
          each = λ place _.
              let r = names.rare place in
              let more = count-append (λ p. p == place) (name_refs d.names ++ []) [] in
              let first = count-append (λ p. p == place) (name_refs d.names) [] in
              let P : List ℕ → Type 0 = λ ps. count_by (λ p. p == place) ps ≤ 8 in subst P (sym is) (omega arith);
          all = omega arith;
        };
        conts = once;
        slots = record { made = tt; made_once = no_counts; session = λ other. absurd (other refl); drawn = tt; counted = omega arith };
        few = record { makes = lit≤ tt; sends = lit≤ tt; prints = few; managed = tt; session = λ other. absurd (other refl); short = short };
        shapes = record {
          state = λ made. desk_state s.drawn (Desks.desk_out spelled d) (hand_ids s a made) kept.each (omega arith) (omega arith) (omega arith);
          births = tt;
          sends = λ made. tt;
          replies = λ made. tt;
        };
        moves = record { codes = tt; moves = tt; moved = λ c m args. absurd (let low = m.0 in omega arith); place = λ c m args. absurd (let low = m.0 in omega arith) };
        plain = λ seven. absurd (omega arith);
        roots = tt;
      }

  target_few : (t : Target) → length (target_places t) ≤ 1
  target_few (Place p) = lit≤ tt
  target_few (Root kind at) = lit≤ tt

  -- and of one that sends an action as well
  asked : (d : Desk Value) (x : Sending) → AreNamings hand 2 101 d.names → AreAwaits 101 d.awaits → x.cont ≡ Here s.drawn
      → AllByRecursion IsShort x.args → length x.args ≤ 2 → AllByRecursion (λ p. p < hand) (refs_in x.args)
      → AllByRecursion (λ p. p < hand) (target_places x.target) → (x.code ≢ 3) × (x.code ≢ 4)
      → (x.code ≡ 1 → IsMovable (target_kind s a (Session.spoken (s.drawn + 1) d (x ∷ []) []) x.target) × MovesBelow n x.args) → IsTarget n x.target
      → KeepsLaws n 1 here s a (Session.spoken (s.drawn + 1) d (x ∷ []) [])
  asked d x names awaits cont args few below target codes moves root =
      let out : Outcome = Session.spoken (s.drawn + 1) d (x ∷ []) [] in
      let kept = desk_kept d 101 names.each names.few awaits in
      let many = few_refs d.names names.each in
      let bound = names.few in
      let count = kept.few in
      let bytes = kept.short in
      let own : List ℕ = target_places x.target ++ (refs_in x.args ++ []) in
      let refs : length (refs_in (Desks.desk_out spelled d)) ≡ length (name_refs d.names) = ap length kept.named in
      let is : mentions s a out ≡ (name_refs d.names ++ []) ++ ((own ++ []) ++ []) =
      ap (λ ps. (ps ++ []) ++ (((target_places x.target ++ (refs_in x.args ++ handed_places s a x.cont)) ++ []) ++ [])) kept.named
      ∙ ap (λ c. (name_refs d.names ++ []) ++ (((target_places x.target ++ (refs_in x.args ++ handed_places s a c)) ++ []) ++ [])) cont in
      let long : length (mentions s a out) ≡ length ((name_refs d.names ++ []) ++ ((own ++ []) ++ [])) = ap length is in
      let one = length-append (name_refs d.names ++ []) ((own ++ []) ++ []) in
      let two = length-append (name_refs d.names) [] in
      let three = length-append (own ++ []) [] in
      let four = length-append own [] in
      let five = length-append (target_places x.target) (refs_in x.args ++ []) in
      let six = length-append (refs_in x.args) [] in
      let seven = refs_few x.args in
      let eight = target_few x.target in
      let roots = HandLemmas.few_roots (x ∷ []) in
      let nobody : handed_on (x ∷ []) ≡ [] = ap (λ c. owns c ++ []) cont in
      let unmade : made_slots (x ∷ []) ≡ [] = ap (λ c. makes_slot c ++ []) cont in
      let drew : drawn_slots (x ∷ []) ≡ s.drawn ∷ [] = ap (λ c. draws c ++ []) cont in
      let once : UsesEachOnce (length (hand_slots s a)) (uses out) =
      let P : List ℕ → Type 0 = λ us. UsesEachOnce (length (hand_slots s a)) (us ++ []) in subst P (sym nobody) (unused s a h) in
      record {
        names = record {
          places =
              let P : List ℕ → Type 0 = AllByRecursion (λ p. p < hand) in
              subst P (sym is) (all_append (λ p. p < hand) (name_refs d.names ++ []) ((own ++ []) ++ []) (all_append (λ p. p < hand) (name_refs d.names) [] names.below tt)
              (all_append (λ p. p < hand) (own ++ []) [] (all_append (λ p. p < hand) own [] (all_append (λ p. p < hand) (target_places x.target) (refs_in x.args ++ []) target
              (all_append (λ p. p < hand) (refs_in x.args) [] below tt)) tt) tt));
          conts = let P : List ℕ → Type 0 = λ us. AllByRecursion (λ number. number < length (hand_slots s a)) (us ++ []) in subst P (sym nobody) tt;
          each = λ place _.
              let r = names.rare place in
              let more = count-append (λ p. p == place) (name_refs d.names ++ []) ((own ++ []) ++ []) in
              let first = count-append (λ p. p == place) (name_refs d.names) [] in
              let rest = count_by-le-length (λ p. p == place) ((own ++ []) ++ []) in
              let P : List ℕ → Type 0 = λ ps. count_by (λ p. p == place) ps ≤ 8 in subst P (sym is) (omega arith);
          all = omega arith;
        };
        conts = once;
        slots = record {
          made = let P : List _ → Type 0 = AllByRecursion (λ y. y.make < 0) in subst P (sym unmade) tt;
          made_once = λ make slot. rw unmade (no_counts make slot);
          session = λ other. absurd (other refl);
          drawn = let P : List ℕ → Type 0 = IsCount s.drawn in subst P (sym drew) (refl, tt);
          counted = let P : List ℕ → Type 0 = λ slots. s.drawn + 1 ≡ s.drawn + length slots in subst P (sym drew) (omega arith);
        };
        few = record { makes = lit≤ tt; sends = lit≤ tt; prints = lit≤ tt; managed = tt; session = λ other. absurd (other refl); short = tt };
        shapes = record {
          state = λ made. desk_state (s.drawn + 1) (Desks.desk_out spelled d) (hand_ids s a made) kept.each (omega arith) (omega arith) (omega arith);
          births = tt;
          sends = λ made.
              let P : _ → Type 0 = λ c. IsMessage (addressed (hand_ids s a made) (target_id (hand_ids s a made) x.target) x.code x.args (send_slot s a made c)) in
              (subst P (sym cont) (question (hand_ids s a made) (target_id (hand_ids s a made) x.target) s.drawn x.code x.args args few), tt);
          replies = λ made. tt;
        };
        moves = record { codes = (codes, tt); moves = (moves, tt); moved = λ c m args. absurd (let low = m.0 in omega arith); place = λ c m args. absurd (let low = m.0 in omega arith) };
        plain = λ seven. absurd (omega arith);
        roots = (root, tt);
      }

-- ---- the session

-- a refusal on a kind that neither moves nor is managed
pub refusal_keeps : (n kind here : ℕ) (s : State) (a : Act) → kind ≤ 15 → IsState s → IsAct a → KeepsLaws n kind here s a (stays s a (Fault 11))
refusal_keeps n kind here s a low h act =
    HandLemmas.stays_keeps n kind here s a (Fault 11) h act (lit≤ tt, lit≤ tt) refl
    (λ c m args. absurd (let some = m.0 in omega arith)) (λ c m args. absurd (let some = m.0 in omega arith))

kind_in : (s : State) (a : Act) (out : Outcome) (p : ℕ) → p < length s.ids → kind_at s a out p ≡ (id_at s.ids p).kind
kind_in s a out p low = at_kind s.ids p low
  where
    at_kind : (ids : List Id) (p : ℕ) → p < length ids → slice_index_or (map (λ id. id.kind) ids ++ (map (λ id. id.kind) a.ids ++ map (λ make. make.kind) out.makes)) p 0 ≡ (id_at ids p).kind
    at_kind [] p low = absurd (omega arith)
    at_kind (x ∷ ids) zero low = refl
    at_kind (x ∷ ids) (suc p) low = at_kind ids p (omega arith)

status_seek : (kind : Value → ℕ) (xs : List (Naming Value)) (name : List ℕ) (k : ℕ) → Desks.status_in kind xs name ≡ Stands k → (v : Value) × (Desks.seek name xs ≡ Some v) × (kind v ≡ k)
status_seek kind [] name k e = absurd (cc)
status_seek kind (x ∷ xs) name k e = by_name (bytes_eq name x.name) e (status_seek kind xs name k)
  where
    by_to : (o : Option Value) → Desks.status_by kind o ≡ Stands k → (v : Value) × (o ≡ Some v) × (kind v ≡ k)
    by_to None f = absurd (cc)
    by_to (Some v) f = (v, refl, cc)

    by_name : (b : Bool) → (if b then Desks.status_by kind x.to else Desks.status_in kind xs name) ≡ Stands k
        → (Desks.status_in kind xs name ≡ Stands k → (v : Value) × (Desks.seek name xs ≡ Some v) × (kind v ≡ k)) → (v : Value) × ((if b then x.to else Desks.seek name xs) ≡ Some v) × (kind v ≡ k)
    by_name true f g = by_to x.to f
    by_name false f g = g f

module _ (n here : ℕ) (s : State) (a : Act) (some : 1 ≤ n) (few : n ≤ 64) (state : IsState s) (act : IsAct a) (h : IsSpeaking s a) (d : Desk Value) (desk : IsDesk (length s.ids) d) where
  abbrev limit : ℕ
  limit = length s.ids + length a.ids + 0

  names_now : AreNamings limit 2 101 d.names
  names_now = wider (length s.ids) limit 1 2 100 101 d.names (omega arith) (lit≤ tt) (lit≤ tt) desk.names

  awaits_now : AreAwaits 101 d.awaits
  awaits_now = (desk.awaits.0, let m = desk.awaits.1 in omega arith)

  says : (text : List ℕ) → IsPrint text → KeepsLaws n 1 here s a (Session.spoken s.drawn d [] (Session.printed text))
  says text short = said n here s a act h d (Session.printed text) names_now awaits_now (printed_few text) (printed_fits text short)

  opened_names : (what : What) → IsWhat what → AreNamings limit 2 101 (Desks.opened what d.names)
  opened_names NotSaid g = names_now
  opened_names Told g = names_now
  opened_names Released g = names_now
  opened_names (Bound name) g =
      more_names limit 1 100 (record { name = name; to = None }) d.names (g, tt) tt (wider (length s.ids) limit 1 1 100 100 d.names (omega arith) (lit≤ tt) (lit≤ tt) desk.names)

  goal_places : (goal : Goal) → AllByRecursion (λ p. p < limit) (target_places (Session.target_of d.names goal))
  goal_places (Named name) =
      let own = act.ids in
      (place_below limit (Desks.seek name d.names) (seek_place name d.names names_now.each) (seek_below limit name d.names names_now.below) (omega arith), tt)
  goal_places (RootAt kind at) = tt

  goal_root : (goal : Goal) → IsGoal (Session.sight n (Session.kind_of s) d) goal → IsTarget n (Session.target_of d.names goal)
  goal_root (Named name) g = tt
  goal_root (RootAt kind at) g = g.0

  moving : (goal : Goal) (args : List Argument) (out : Outcome) → IsMove (Session.sight n (Session.kind_of s) d) goal args
      → IsMovable (target_kind s a out (Session.target_of d.names goal)) × MovesBelow n (map (Session.given spelled d.names) args)
  moving goal args out m =
      let found = status_seek (Session.kind_of s) d.names m.name m.kind m.stands in
      let low = m.movable.0 in
      let high = m.movable.1 in
      let place : Session.place_in (Desks.seek m.name d.names) ≡ Session.place_of found.0 = ap Session.place_in found.1 in
      let below : Session.place_in (Desks.seek m.name d.names) < length s.ids =
      inside (Desks.seek m.name d.names) found.0 found.1 (seek_place m.name d.names desk.names.each) (seek_below (length s.ids) m.name d.names desk.names.below) in
      let kind : kind_at s a out (Session.place_in (Desks.seek m.name d.names)) ≡ m.kind =
      kind_in s a out (Session.place_in (Desks.seek m.name d.names)) below ∙ (ap (λ p. (id_at s.ids p).kind) place ∙ found.2) in
      let P : Goal → Type 0 = λ g. IsMovable (target_kind s a out (Session.target_of d.names g)) in
      (subst P (sym m.goal_is) (omega arith, omega arith), (m.to, m.below, ap (map (Session.given spelled d.names)) m.args_are))
    where
      inside : (o : Option Value) (v : Value) → o ≡ Some v → IsPlace o → AllByRecursion (λ p. p < length s.ids) (places_to o) → Session.place_in o < length s.ids
      inside None v e g below = absurd (cc)
      inside (Some (Ref p)) v e g below = below.0
      inside (Some Nothing) v e g below = absurd g
      inside (Some (Flag b)) v e g below = absurd g
      inside (Some (Int z)) v e g below = absurd g
      inside (Some (Text t)) v e g below = absurd g
      inside (Some (Fault c)) v e g below = absurd g
      inside (Some (Ints zs)) v e g below = absurd g

  calls_keeps : (c : Console) (goal : Goal) (code : ℕ) (args : List Argument) (what : What) → IsCall c (Session.sight n (Session.kind_of s) d) goal code args what
      → KeepsLaws n 1 here s a (Session.spoken (s.drawn + 1) (Session.awaiting d s.drawn what) (Session.call_to d.names s.drawn goal code args ∷ []) [])
  calls_keeps c goal code args what g =
      let x : Sending = Session.call_to d.names s.drawn goal code args in
      let small = g.few in
      let long = length-map args (Session.given spelled d.names) in
      asked n here s a act h (Session.awaiting d s.drawn what) x (opened_names what g.what_fine) (more_awaits 100 s.drawn what d.awaits g.what_fine desk.awaits) refl
      (given_all d.names names_now.each args g.each) (omega arith) (all_refs limit d.names names_now.each names_now.below args) (goal_places goal) g.no_answer
      (λ e. may_move g.moves e) (goal_root goal g.goal_fine)
    where
      may_move : (code ≢ 1) ⊎ IsMove (Session.sight n (Session.kind_of s) d) goal args → code ≡ 1
          → IsMovable (target_kind s a (Session.spoken (s.drawn + 1) (Session.awaiting d s.drawn what) (Session.call_to d.names s.drawn goal code args ∷ []) []) (Session.target_of d.names goal)) × MovesBelow n (map (Session.given spelled d.names) args)
      may_move (inl still) e = absurd (still e)
      may_move (inr m) e = moving goal args (Session.spoken (s.drawn + 1) (Session.awaiting d s.drawn what) (Session.call_to d.names s.drawn goal code args ∷ []) []) m

  planned_keeps : (c : Console) (plan : Plan) → IsPlan c (Session.sight n (Session.kind_of s) d) plan → KeepsLaws n 1 here s a (Session.planned c s.drawn d plan)
  planned_keeps c DoesNothing g = said n here s a act h d [] names_now awaits_now (lit≤ tt) tt
  planned_keeps c ShowsHelp g = says (help_of c) (help_fits c)
  planned_keeps c (Refuses r) g = says (refusal_text r) (refusal_fits r)
  planned_keeps c (GivesUp name) g =
      said n here s a act h (record { names = Desks.without name d.names; awaits = d.awaits }) [] (less_names limit 2 101 name d.names names_now) awaits_now (lit≤ tt) tt
  planned_keeps c (Calls goal code args what) g = calls_keeps c goal code args what g

  line_keeps : (mark : ℕ) (line : List ℕ) (o : Option Console) → length (mark ∷ line) ≤ 16384 → KeepsLaws n 1 here s a (Session.line_of n s a d line o)
  line_keeps mark line None short = refusal_keeps n 1 here s a (lit≤ tt) state act
  line_keeps mark line (Some c) short =
      planned_keeps c (plan_of c (Session.sight n (Session.kind_of s) d) line) (plan_fine c (Session.sight n (Session.kind_of s) d) line some few desk.names.few (omega arith))

  bound_names : (v : Value) (name : List ℕ) → length name ≤ 32 → AllByRecursion (λ p. p < limit) (refs_in (shifted (length s.ids) v ∷ []))
      → AreNamings limit 2 101 (Desks.bound spelled (spelled.look (shifted (length s.ids) v)) name (shifted (length s.ids) v) d.names)
  bound_names (Ref p) name g low =
      more_names limit 1 100 (record { name = name; to = Some (Ref (length s.ids + p)) }) (Desks.without name d.names) (g, tt) low
      (less_names limit 1 100 name d.names (wider (length s.ids) limit 1 1 100 100 d.names (omega arith) (lit≤ tt) (lit≤ tt) desk.names))
  bound_names Nothing name g low = less_names limit 2 101 name d.names names_now
  bound_names (Flag b) name g low = less_names limit 2 101 name d.names names_now
  bound_names (Int z) name g low = less_names limit 2 101 name d.names names_now
  bound_names (Text t) name g low = less_names limit 2 101 name d.names names_now
  bound_names (Fault c) name g low = less_names limit 2 101 name d.names names_now
  bound_names (Ints zs) name g low = less_names limit 2 101 name d.names names_now

  answered_names : (what : What) (v : Value) → IsWhat what → AllByRecursion (λ p. p < limit) (refs_in (shifted (length s.ids) v ∷ []))
      → AreNamings limit 2 101 (Desks.answered spelled what (shifted (length s.ids) v) d.names)
  answered_names NotSaid v g low = names_now
  answered_names Told v g low = names_now
  answered_names Released v g low = names_now
  answered_names (Bound name) v g low = bound_names v name g low

  taken_keeps : (slot : ℕ) (v : Value) (o : Option What) → Desks.held_at slot d.awaits ≡ o → AllByRecursion (λ p. p < limit) (refs_in (shifted (length s.ids) v ∷ []))
      → KeepsLaws n 1 here s a (Session.taken s a d slot v o)
  taken_keeps slot v None e low = refusal_keeps n 1 here s a (lit≤ tt) state act
  taken_keeps slot v (Some what) e low =
      let text : List ℕ = answer_text what (spelled.look v) in
      said n here s a act h (record { names = Desks.answered spelled what (shifted (length s.ids) v) d.names; awaits = Desks.erased slot d.awaits }) (Session.printed text)
      (answered_names what v (held_what slot d.awaits what desk.awaits.0 e) low) (less_awaits 101 slot d.awaits awaits_now) (printed_few text) (printed_fits text (answer_fits what (spelled.look v)))

  args_keeps : (args : List Value) → a.args ≡ args → KeepsLaws n 1 here s a (Session.session_args n s a d a.code args)
  args_keeps (Text (mark ∷ line) ∷ []) e =
      let P : List Value → Type 0 = AllByRecursion IsValue in
      let each = subst P e act.values.each in
      cond_both (a.code == 4) _ _ (KeepsLaws n 1 here s a) (λ f. line_keeps mark line (Session.console_of mark) each.0) (λ f. refusal_keeps n 1 here s a (lit≤ tt) state act)
  args_keeps (Int (pos slot) ∷ v ∷ []) e =
      cond_both (a.code == 3) _ _ (KeepsLaws n 1 here s a) (λ f. taken_keeps slot v (Desks.held_at slot d.awaits) refl (place_fine v e)) (λ f. refusal_keeps n 1 here s a (lit≤ tt) state act)
    where
      place_fine : (v : Value) → a.args ≡ Int (pos slot) ∷ v ∷ [] → AllByRecursion (λ p. p < limit) (refs_in (shifted (length s.ids) v ∷ []))
      place_fine (Ref p) f =
          let refs : refs_in a.args ≡ p ∷ [] = ap refs_in f in
          let long : length (refs_in a.args) ≡ 1 = ap length refs in
          let P : List ℕ → Type 0 = IsCount 1 in
          let first = (subst P refs act.refs).0 in
          let ids = act.ids in
          (omega arith, tt)
      place_fine Nothing f = tt
      place_fine (Flag b) f = tt
      place_fine (Int z) f = tt
      place_fine (Text t) f = tt
      place_fine (Fault c) f = tt
      place_fine (Ints zs) f = tt
  args_keeps _ e = refusal_keeps n 1 here s a (lit≤ tt) state act

none_kept : (conts : List Cont) → (length conts == 0) ≡ true → conts ≡ []
none_kept [] e = refl
none_kept (c ∷ conts) e = let none = eqb-true (suc (length conts)) 0 e in absurd (omega arith)

module _ (n here : ℕ) (s : State) (a : Act) (some : 1 ≤ n) (few : n ≤ 64) (state : IsState s) (act : IsAct a) where
  cont_keeps : (d : Desk Value) (cont : Option Cont) → IsDesk (length s.ids) d → s.conts ≡ [] → a.cont ≡ cont → KeepsLaws n 1 here s a (Session.session_cont n s a d cont)
  cont_keeps d None desk none e = args_keeps n here s a some few state act (record { conts = none; cont = e }) d desk a.args refl
  cont_keeps d (Some c) desk none e = refusal_keeps n 1 here s a (lit≤ tt) state act

  by_desk : (o : Option (Desk Value)) → Session.desk_at s ≡ o → KeepsLaws n 1 here s a (Session.session_by n s a o)
  by_desk None e = refusal_keeps n 1 here s a (lit≤ tt) state act
  by_desk (Some d) e = by_shape ((length s.conts == 0) && nat_le s.drawn 4000000000) refl e
    where
      by_shape : (b : Bool) → ((length s.conts == 0) && nat_le s.drawn 4000000000) ≡ b → (if b then Desks.desk_shown spelled s.values else None) ≡ Some d
          → KeepsLaws n 1 here s a (Session.session_cont n s a d a.cont)
      by_shape false f g = absurd (cc)
      by_shape true f g =
          let none = none_kept s.conts (and_parts (length s.conts == 0) (nat_le s.drawn 4000000000) f).0 in
          let long : length s.conts ≡ 0 = ap length none in
          let ids = state.ids in
          cont_keeps d a.cont (desk_shown_is s.values (length s.ids) d state.refs (HandLemmas.counted_below (length s.ids) 0 (refs_in s.values) state.refs (omega arith)) g) none refl

pub session_keeps : (n here : ℕ) (s : State) (a : Act) → 1 ≤ n → n ≤ 64 → here < n → IsState s → IsAct a → KeepsLaws n 1 here s a (Session.session_outcome n s a)
unfolding Session.session_outcome
session_keeps n here s a some few low state act = by_desk n here s a some few state act (Session.desk_at s) refl
