-- A line over the plain pool, step by step: it is read, an action is asked, answers come, and it is over.
use Rattle.std.specs.Prelude.{pos, if◌then◌else◌}
use Rattle.std.specs.List.{concat, AllByRecursion}
use Rattle.std.proofs.Common.{ℕ, Bool, true, false, cond, List, [], ◌∷◌, ◌++◌, ◌≡◌, ◌≢◌, ◌+◌, ◌<◌, ◌≤◌, ◌⊎◌, Option, Some, None, IfSome, refl, sym, ap, ◌∙◌, subst, inl, inr, length, map, arith, lit<, append-nil, append_assoc}
use Rattle.std.proofs.lemmas.Bool.{cases_Bool, cond_both, ne_eqb, lt-ltb, le-leb}
use Rattle.hpx_value.specs.Ids.{Id, same_object}
use Rattle.hpx_value.specs.Values.{named, refs_in}
use Rattle.hpx_value.specs.Shapes.{IsAct}
use Rattle.hpx_value.specs.Hands.{session, id_at, hand_ids, state_after, sent, replied}
use Rattle.hpx_value.specs.declared.value.State.{State}
use Rattle.hpx_value.specs.declared.value.Act.{Act}
use Rattle.hpx_value.specs.declared.value.Message.{Message}
use Rattle.hpx_value.specs.declared.outcome.Sending.{Sending}
use Rattle.hpx_value.specs.declared.outcome.Outcome.{Outcome}
use Rattle.hpx_parcel.specs.declared.parcel.Parcel.{Parcel}
use Rattle.hpx_journal.specs.Entries.{Rules}
use Rattle.hpx_journal.specs.Pool.{Pool, target_in, moves_to, outcome_in, sent_by, acted, with_made, AreNew, IsActed, IsMoved, carried}
use Rattle.hpx_journal.specs.Sessions.{IsStep}
use Rattle.hpx_journal.proofs.Same.{same_object-refl, same_object-true}
use Rattle.hpx_calls.specs.Values.{Value, Nothing, Flag, Int, Text, Ref, Fault, Ints, plain, mapped, spelled, seen, shifted}
use Rattle.hpx_calls.specs.declared.content.Content.{Content}
use Rattle.hpx_calls.specs.declared.content.Content.TheVariants.{Dataflow, Started, Unreadable}
use Rattle.hpx_calls.specs.declared.effect.Effect.{Effect}
use Rattle.hpx_calls.specs.declared.effect.Effect.TheVariants.{Silent, Answers, Waits, Frees, Starts, Hands, Moves, Makes}
use Rattle.hpx_calls.specs.declared.effect.Called.{Called}
use Rattle.hpx_calls.specs.Requests.{request_of}
use Rattle.hpx_calls.specs.Tables as Tables
use Rattle.hpx_calls.specs.Ids.{numbered, ids_in, state_of}
use Rattle.hpx_calls.proofs.Asked.{IsBelow}
use Rattle.hpx_calls.proofs.Seen.{seen_again, seen_behind, renumbered_is, ids_seen}
use Rattle.app_console.specs.Types.{Spelled, SpelledUnit, SpelledFlag, SpelledInt, SpelledText, SpelledRef, SpelledFault, SpelledInts, Naming, What, Await, Desk}
use Rattle.app_console.specs.Commands.{answer_text}
use Rattle.app_console.specs.Desks
use Rattle.app_console.specs.Session
use Rattle.app_console.specs.Judging.{Acting, is_own, judging}
use Rattle.app_console.specs.Plain.{Who, Datum, Plain, call_by, call_end, place_at}
use Rattle.hpx_calls.specs.Mapped.{content_seen, effect_seen, called_seen}
use Rattle.hpx_calls.proofs.OverAlike.{called_is_seen, request_is_seen}
use Rattle.app_console.proofs.Kernel.{called_over}
use Rattle.app_console.proofs.Alikes.{IsOurs, IsBorn, waiter, Said, called_fine, says_well, paired}
use Rattle.app_console.proofs.Stills.{still, stays as stays_there}
use Rattle.app_console.proofs.Namings.{IsWhat}
use Rattle.app_console.proofs.Seen.{IsFit, desk_seen, names_seen, desk_laid, answered_seen, IsReadBack, desk_read_back}
use Rattle.app_console.proofs.Named.{names_over, text_over, IsNew, HasNameRoom, taken_fit, what_held, kind_over}
use Rattle.app_console.proofs.Comings.{times, says, set_of, Coming, pick}
use Rattle.app_console.proofs.Fit.{at, IsIn, held_over, asked, kept_who, IsGood, Placed, Fits}
use Rattle.app_console.proofs.Fit as Fit
use Rattle.app_console.proofs.Slots.{await, times_add}
use Rattle.app_console.proofs.Called.{IsAlike, IsAnswering, next_of, acted_alike, does_call, slots_after}
use Rattle.app_console.proofs.Effects.{session_state, desk_of, AreNamed, Answering, effect_ends}

-- ---- the phases

-- nothing is pending, and the pool holds what the plain space holds
pub record Settled (n k : ℕ) (v : Plain) (p : Pool) : Type 0 where
  pub ref : ℕ → Id
  pub slots : Who → List ℕ
  pub drawn : ℕ
  pub few : drawn ≤ k
  pub aw : List Await
  pub named : AreNamed v.count v.names
  pub fits : Fits n ref v.items v.count v.awaited slots drawn aw
  pub stands : Fit.Stands n ref v.items v.count slots p.states
  pub placed : Placed n ref v.items v.count p.places
  pub alike : IsAlike p.states
  pub home : p.places session < n
  pub fit : IsFit (desk_of (names_over (at ref) v.names) aw)
  pub desk : p.states session ≡ Some (session_state drawn (desk_of (names_over (at ref) v.names) aw))
  pub pending : p.pending ≡ []

-- a movable object is asked to move to a place that there is
pub record IsMoveNow (n kind code : ℕ) (args : List Datum) : Type 0 where
  pub code_is : code ≡ 1
  pub to : ℕ
  pub below : to < n
  pub args_are : args ≡ Int (pos to) ∷ []
  pub movable : (16 ≤ kind) × (kind < 32)

-- an action is asked
pub record Asking (n k : ℕ) (v : Plain) (who : Who) (code : ℕ) (args : List Datum) (what : What) (p : Pool) : Type 0 where
  pub ref : ℕ → Id
  pub slots : Who → List ℕ
  pub drawn : ℕ
  pub few : drawn + 1 ≤ k
  pub aw : List Await
  pub act : IsAct (named 0 0 (asked ref drawn who code args))
  pub named : AreNamed v.count v.names
  pub fits : Fits n ref v.items v.count v.awaited slots drawn aw
  pub stands : Fit.Stands n ref v.items v.count slots p.states
  pub alike : IsAlike p.states
  pub home : p.places session < n
  pub isin : IsIn n v.count who
  pub good : AllByRecursion (IsGood v.count) args
  pub wise : IsWhat what
  pub room : HasNameRoom (names_over (at ref) v.names) what
  pub new_name : IsNew kind_over (names_over (at ref) v.names) what
  pub fit_now : IsFit (desk_of (Desks.opened what (names_over (at ref) v.names)) (await drawn what ∷ aw))
  pub fit_old : IsFit (desk_of (names_over (at ref) v.names) aw)
  pub desk : p.states session ≡ Some (session_state (drawn + 1) (desk_of (Desks.opened what (names_over (at ref) v.names)) (await drawn what ∷ aw)))
  pub well : says_well code what ≡ true
  pub moves : (code ≢ 1) ⊎ IsMoveNow n (v.items who).kind code args
  pub pending : p.pending ≡ asked ref drawn who code args ∷ []
  pub printed : p.printed ≡ []
  pub others : (u : Who) → IsIn n v.count u → (u ≢ who) → p.places (at ref u) ≡ (v.items u).place
  pub spot : (p.places (at ref who) ≡ (v.items who).place) ⊎ (moves_to (asked ref drawn who code args) ≡ Some (p.places (at ref who)))

-- ---- what is referred to stays

all_good : (count : ℕ) (args : List Datum) → AllByRecursion (IsGood count) args → map (mapped (kept_who count)) args ≡ args
all_good count [] h = refl
all_good count (v ∷ args) h = ap (λ u. u ∷ map (mapped (kept_who count)) args) h.0 ∙ ap (λ us. v ∷ us) (all_good count args h.1)

ours_over : {Q R : Type 0} (f : Q → R) (x : Content (Value Q)) → IsOurs x → IsOurs (content_seen f x)
ours_over f (Dataflow code inputs given) h = absurd h
ours_over f (Started code inputs) h = absurd h
ours_over f (Unreadable vs) h = absurd h
ours_over f _ h = tt

said_answers : {R : Type 0} (at what : What) (e : Effect (Value R)) → Said at what e → IsAnswering e
said_answers at what Silent h = absurd h
said_answers at what (Answers v) h = tt
said_answers at what Waits h = tt
said_answers at what (Frees count v own) h = tt
said_answers at what (Starts code args) h = absurd h
said_answers at what (Hands code args own) h = absurd h
said_answers at what (Moves to) h = tt
said_answers at what (Makes x) h = tt

-- ---- an action is asked

module _ (acts : Acting) (n log limit : ℕ) (parcel_of : List ℕ → Option Parcel) (some : 1 ≤ n) (few : n ≤ 64) (k : ℕ) (v : Plain) (who : Who) (code : ℕ) (args : List Datum) (what : What) (p q : Pool)
    (h : Asking n k v who code args what p) where
  abbrev r : Rules
  r = judging acts n log limit parcel_of

  abbrev m : Message
  m = asked h.ref h.drawn who code args

  abbrev kind : ℕ
  kind = (v.items who).kind

  abbrev x : Content Datum
  x = (v.items who).held.content

  abbrev t : ℕ
  t = place_at (v.items who) (call_by code args what)

  abbrev w : ℕ
  w = length (v.items who).held.waiting

  abbrev the_call : Called Datum
  the_call = Tables.called (plain Who) t kind w true x (request_of (plain Who) code true args)

  abbrev s : State
  s = state_of 0 (held_over h.ref x (h.slots who))

  kind_is : (at h.ref who).kind ≡ kind
  kind_is = h.fits.kinds who h.isin

  -- where it is acted on, and that this is a place that there is
  record IsThere (here : ℕ) : Type 0 where
    here_is : here ≡ t
    low : t < n

  there : IfSome (moves_to m) (λ to. to ≡ p.places (at h.ref who)) → IsThere (p.places (at h.ref who))
  there g = by_move h.moves
    where
      still_none : code ≢ 1 → moves_to m ≡ None
      still_none d = rw (ne_eqb code 1 d) refl

      by_spot : moves_to m ≡ None → (p.places (at h.ref who) ≡ (v.items who).place) ⊎ (moves_to m ≡ Some (p.places (at h.ref who))) → p.places (at h.ref who) ≡ (v.items who).place
      by_spot none (inl e) = e
      by_spot none (inr e) = let z : None ≡ Some (p.places (at h.ref who)) = sym none ∙ e in cc

      stays_is : code ≢ 1 → t ≡ (v.items who).place
      stays_is d = cond_both (Tables.is_movable kind) _ _ (λ y. y ≡ (v.items who).place)
          (λ e. stays_there (request_of (plain Who) code true args) (v.items who).place (still (plain Who) code d args)) (λ e. refl)

      moving : (c : IsMoveNow n kind code args) → (moves_to m ≡ Some c.to) × (t ≡ c.to)
      moving c =
          let low = c.below in
          let sixteen = c.movable.0 in
          let most = c.movable.1 in
          let first : moves_to m ≡ Some c.to =
          ap (λ (ys : List Datum). moves_to (asked h.ref h.drawn who code ys)) c.args_are
          ∙ rw (c.code_is, kind_is, le-leb 16 kind sixteen, le-leb kind 31 (omega arith), lt-ltb c.to 64 (omega arith)) refl in
          let second : t ≡ c.to =
          ap (λ (ys : List Datum). place_at (v.items who) (call_by code ys what)) c.args_are
          ∙ rw (c.code_is, le-leb 16 kind sixteen, lt-ltb kind 32 most, le-leb c.to 63 (omega arith)) refl in
          (first, second)

      by_move : (code ≢ 1) ⊎ IsMoveNow n kind code args → IsThere (p.places (at h.ref who))
      by_move (inl d) = record {
        here_is = by_spot (still_none d) h.spot ∙ sym (stays_is d);
        low = let P : ℕ → Type 0 = λ i. i < n in subst P (sym (stays_is d)) (h.fits.there who h.isin);
      }
      by_move (inr c) =
          let both = moving c in
          let P : Option ℕ → Type 0 = λ o. IfSome o (λ to. to ≡ p.places (at h.ref who)) in
          record {
            here_is = sym (subst P both.0 g) ∙ sym both.1;
            low = let Q : ℕ → Type 0 = λ i. i < n in subst Q (sym both.1) c.below;
          }

  the_fine : IsOurs the_call.content × (waiter the_call.content ≡ waiter x) × Said (waiter x) what the_call.effect
  the_fine = called_fine Who what t kind w x (request_of (plain Who) code true args) (h.fits.ours who h.isin) (paired (plain Who) code what h.well args)

  good_call : called_seen (kept_who v.count) the_call ≡ the_call
  good_call =
      sym (called_is_seen (kept_who v.count) t kind w true x (request_of (plain Who) code true args))
      ∙ (ap (Tables.called (plain Who) t kind w true (content_seen (kept_who v.count) x)) (sym (request_is_seen (kept_who v.count) code true args))
      ∙ (ap (λ y. Tables.called (plain Who) t kind w true y (request_of (plain Who) code true (map (mapped (kept_who v.count)) args))) (h.fits.good who h.isin)
      ∙ ap (λ ys. Tables.called (plain Who) t kind w true x (request_of (plain Who) code true ys)) (all_good v.count args h.good)))

  born_over : (z : Content Datum) → the_call.effect ≡ Makes z → IsBorn (content_seen (at h.ref) z) × IsOurs z
  born_over z e =
      let over = called_fine Id what t kind w (content_seen (at h.ref) x) (request_of (plain Id) code true (map (mapped (at h.ref)) args)) (ours_over (at h.ref) x (h.fits.ours who h.isin)) (paired (plain Id) code what h.well (map (mapped (at h.ref)) args)) in
      let P : Called (Value Id) → Type 0 = λ c. Said (waiter (content_seen (at h.ref) x)) what c.effect in
      let said = subst P (called_over h.ref t kind w code x args) over.2 in
      let Q : Effect Datum → Type 0 = λ f. Said (waiter (content_seen (at h.ref) x)) what (effect_seen (at h.ref) f) in
      let R' : Effect Datum → Type 0 = Said (waiter x) what in
      (subst Q e said, (subst R' e the_fine.2).0)

  acted_step : IsActed r p q → Answering n k (call_end v who (call_by code args what)).plain (call_end v who (call_by code args what)).text q
  acted_step a =
      let nx = next_of r p q m s h.pending (h.stands who h.isin) a in
      let th = there nx.there in
      let out : Outcome = acts.act_of n kind t s (named 0 0 m) in
      let next : q ≡ acted p t m s nx.made [] out =
      nx.next ∙ (ap (λ i. acted p i m s nx.made [] (acts.act_of n (at h.ref who).kind i s (named 0 0 m))) th.here_is
      ∙ ap (λ i. acted p t m s nx.made [] (acts.act_of n i t s (named 0 0 m))) kind_is) in
      let does = does_call acts h.ref n kind t x (h.slots who) h.drawn w who code args few th.low (h.fits.apart who h.isin).0 (h.fits.apart who h.isin).1 (h.fits.sizes who h.isin) (h.fits.readable who h.isin) h.act nx.made
      (said_answers (waiter x) what the_call.effect the_fine.2) in
      let new : AreNew p.states t out.makes nx.made =
      let P : ℕ → ℕ → Type 0 = λ i j. AreNew p.states i (acts.act_of n j i s (named 0 0 m)).makes nx.made in
      subst (λ j. P t j) kind_is (subst (λ i. P i (at h.ref who).kind) th.here_is nx.new) in
      effect_ends n k v h.ref h.slots h.drawn h.aw some h.few h.fits h.named p q h.stands h.alike h.home who h.isin what t th.low h.others th.here_is h.wise h.room h.new_name h.fit_now h.fit_old h.desk
      the_call.content (ap (λ c. c.content) good_call) the_fine.0 the_fine.1 the_call.effect nx.made the_fine.2 (ap (λ c. c.effect) good_call) born_over (record {
        states =
            ap (λ z. z.states) next
            ∙ (ap (λ y. λ o. cond (same_object o (at h.ref who)) (Some y) (with_made p.states out.makes nx.made o)) does.state
            ∙ ap (λ ms. λ o. cond (same_object o (at h.ref who)) (Some (state_of 0 (held_over h.ref the_call.content (slots_after the_call.effect (h.slots who) h.drawn)))) (with_made p.states ms nx.made o)) does.makes);
        places = ap (λ z. z.places) next;
        pending = ap (λ z. z.pending) next ∙ (append-nil (sent_by m s nx.made out) ∙ does.sets);
        printed = ap (λ z. z.printed) next ∙ (ap (λ xs. xs ++ out.prints) h.printed ∙ does.prints);
        alike = subst (λ z. IsAlike z.states) (sym next) (acted_alike p t m s nx.made [] out h.alike);
        new = subst (λ ms. AreNew p.states t ms nx.made) does.makes new;
        readable = does.readable;
      })

  alone_message : (l : List Message) (y : Message) (z : List Message) → m ∷ [] ≡ l ++ y ∷ z → y ≡ m
  alone_message [] y z e = cc
  alone_message (a ∷ []) y z e = absurd (let f : y ∷ z ≡ [] = cc in cc)
  alone_message (a ∷ (b ∷ l)) y z e = absurd (let f : b ∷ (l ++ y ∷ z) ≡ [] = cc in cc)

  moved_step : (o : Id) → IsMoved o p q → Asking n k v who code args what q
  moved_step o a =
      let same : a.message ≡ m = alone_message a.before a.message a.behind (sym h.pending ∙ a.pending) in
      let goes : moves_to m ≡ Some a.to = ap moves_to (sym same) ∙ a.move in
      let next : q ≡ carried p (at h.ref who) a.to = a.next ∙ ap (λ y. carried p (target_in y) a.to) same in
      subst (Asking n k v who code args what) (sym next) (record {
        ref = h.ref;
        slots = h.slots;
        drawn = h.drawn;
        few = h.few;
        aw = h.aw;
        named = h.named;
        fits = h.fits;
        stands = h.stands;
        alike = h.alike;
        home = let P : Bool → Type 0 = λ b. cond b a.to (p.places session) < n in subst P (sym away) h.home;
        isin = h.isin;
        good = h.good;
        wise = h.wise;
        room = h.room;
        new_name = h.new_name;
        fit_now = h.fit_now;
        fit_old = h.fit_old;
        desk = h.desk;
        well = h.well;
        moves = h.moves;
        act = h.act;
        pending = h.pending;
        printed = h.printed;
        others = λ u i d. ap (λ b. cond b a.to (p.places (at h.ref u))) (apart u i d) ∙ h.others u i d;
        spot = inr (goes ∙ ap (λ b. Some (cond b a.to (p.places (at h.ref who)))) (sym (same_object-refl (at h.ref who))));
      })
    where
      apart : (u : Who) → IsIn n v.count u → (u ≢ who) → same_object (at h.ref u) (at h.ref who) ≡ false
      apart u i d = elim (cases_Bool (same_object (at h.ref u) (at h.ref who))) [ inl e ↦ absurd (d (h.fits.one u who i h.isin e)) | inr e ↦ e ]

      away : same_object session (at h.ref who) ≡ false
      away = elim (cases_Bool (same_object session (at h.ref who))) [
        | inl g ↦ absurd ((h.fits.apart who h.isin).0 (sym kind_is ∙ sym (ap (λ (b : Id). b.kind) (same_object-true session (at h.ref who) g))))
        | inr g ↦ g
      ]

  pub ask_step : IsStep r p q → Asking n k v who code args what q ⊎ Answering n k (call_end v who (call_by code args what)).plain (call_end v who (call_by code args what)).text q
  ask_step (inl a) = inr (acted_step a)
  ask_step (inr a) = inl (moved_step a.0 a.1)

-- ---- the session over ids

-- what the session leaves, whatever it sends and prints
pub session_leaves : (drawn drawn' : ℕ) (d : Desk (Value Id)) (a : Act) (made : List Id) (c : Desk Spelled) (sends : List Sending) (texts : List (List ℕ))
    → state_after (session_state drawn d) a made (Session.spoken drawn' c sends texts) ≡ session_state drawn' (desk_seen (id_at (hand_ids (session_state drawn d) a made)) c)
session_leaves drawn drawn' d a made c sends texts =
    let see : ℕ → Id = id_at (hand_ids (session_state drawn d) a made) in
    let vs : List Spelled = Desks.desk_out spelled c in
    ap (λ us. state us (map see (refs_in vs) ++ [])) (renumbered_is see 0 vs ∙ ap (numbered 0) (desk_laid see c))
    ∙ ap (λ is. state (numbered 0 (Desks.desk_out (plain Id) (desk_seen see c))) is) (append-nil (map see (refs_in vs)) ∙ (ids_seen see vs ∙ ap ids_in (desk_laid see c)))
  where
    state : List Spelled → List Id → State
    state us is = record { drawn = drawn'; values = us; conts = []; ids = is }

-- the desk that the session's state shows
pub session_desk : (drawn : ℕ) (d : Desk (Value Id)) (rest : List Id) → IsFit d → IsReadBack (id_at (ids_in (Desks.desk_out (plain Id) d) ++ rest)) (numbered 0 (Desks.desk_out (plain Id) d)) d
session_desk drawn d rest h = desk_read_back (id_at (ids_in (Desks.desk_out (plain Id) d) ++ rest)) (numbered 0 (Desks.desk_out (plain Id) d)) d h (seen_again [] (Desks.desk_out (plain Id) d) rest)

pub shown_at : (drawn : ℕ) (d : Desk (Value Id)) (c : Desk Spelled) → drawn ≤ 4000000000 → Desks.desk_shown spelled (numbered 0 (Desks.desk_out (plain Id) d)) ≡ Some c → Session.desk_at (session_state drawn d) ≡ Some c
shown_at drawn d c few e = ap (λ (b : Bool). if b then Desks.desk_shown spelled (numbered 0 (Desks.desk_out (plain Id) d)) else None) (le-leb drawn 4000000000 few) ∙ e

-- the one value that is set
abbrev one_spelled : Value Id → Spelled
one_spelled Nothing = SpelledUnit
one_spelled (Flag b) = SpelledFlag b
one_spelled (Int z) = SpelledInt z
one_spelled (Text t) = SpelledText t
one_spelled (Ref id) = SpelledRef 1
one_spelled (Fault c) = SpelledFault c
one_spelled (Ints zs) = SpelledInts zs

one_numbered : (v : Value Id) → numbered 1 (v ∷ []) ≡ one_spelled v ∷ []
one_numbered Nothing = refl
one_numbered (Flag b) = refl
one_numbered (Int z) = refl
one_numbered (Text t) = refl
one_numbered (Ref id) = refl
one_numbered (Fault c) = refl
one_numbered (Ints zs) = refl

one_text : (what : What) (v : Value Id) → answer_text what (spelled.look (one_spelled v)) ≡ answer_text what v
one_text what v = ap (answer_text what) (looks v) ∙ text_over (λ (i : Id). tt) what v
  where
    looks : (v : Value Id) → spelled.look (one_spelled v) ≡ mapped (λ (i : Id). tt) v
    looks Nothing = refl
    looks (Flag b) = refl
    looks (Int z) = refl
    looks (Text t) = refl
    looks (Ref id) = refl
    looks (Fault c) = refl
    looks (Ints zs) = refl

-- an answer, taken
record IsTaken (acts : Acting) (n here drawn : ℕ) (names : List (Naming (Value Id))) (aw : List Await) (slot : ℕ) (v : Value Id) (what : What) : Type 0 where
  out : Outcome
  out_is : acts.act_of n 1 here (session_state drawn (desk_of names aw)) (named 0 0 (set_of slot v)) ≡ out
  makes : out.makes ≡ []
  sends : out.sends ≡ []
  replies : out.replies ≡ []
  prints : out.prints ≡ says what v
  state : state_after (session_state drawn (desk_of names aw)) (named 0 0 (set_of slot v)) [] out ≡ session_state drawn (desk_of (Desks.answered (plain Id) what v names) (Desks.erased slot aw))

taken : (acts : Acting) (n here drawn : ℕ) (names : List (Naming (Value Id))) (aw : List Await) (slot : ℕ) (v : Value Id) (what : What) → n ≤ 64 → here < n → drawn ≤ 4000000000 → IsFit (desk_of names aw)
    → Desks.held_at slot aw ≡ Some what → IsTaken acts n here drawn names aw slot v what
unfolding Session.session_outcome
taken acts n here drawn names aw slot v what few low little fit held =
    let d : Desk (Value Id) = desk_of names aw in
    let st : State = session_state drawn d in
    let a : Act = named 0 0 (set_of slot v) in
    let back = session_desk drawn d (a.ids ++ []) fit in
    let c : Desk Spelled = back.desk in
    let see : ℕ → Id = id_at (hand_ids st a []) in
    let shown : Session.desk_at st ≡ Some c = shown_at drawn d c little back.shown in
    let awaits : c.awaits ≡ aw = ap (λ e. e.awaits) back.seen_is in
    let names_are : names_seen see c.names ≡ names = ap (λ e. e.names) back.seen_is in
    let out : Outcome = Session.taken_by drawn c slot (one_spelled v) what (length st.ids) in
    let value : seen see (shifted (length st.ids) (one_spelled v)) ≡ v = value_seen st.ids v in
    record {
      out = out;
      out_is =
          acts.session n here st a c few low shown (ap (λ vs. is_own (SpelledInt (pos slot) ∷ vs)) (one_numbered v))
          ∙ (ap (Session.session_by n st a) shown
          ∙ (ap (λ vs. Session.session_args n st a c 3 (SpelledInt (pos slot) ∷ vs)) (one_numbered v)
          ∙ ap (Session.taken st a c slot (one_spelled v)) (ap (Desks.held_at slot) awaits ∙ held)));
      makes = refl;
      sends = refl;
      replies = refl;
      prints = ap Session.printed (one_text what v);
      state =
          session_leaves drawn drawn d a [] (record { names = Desks.answered spelled what (shifted (length st.ids) (one_spelled v)) c.names; awaits = Desks.erased slot c.awaits }) [] (Session.printed (answer_text what (spelled.look (one_spelled v))))
          ∙ (ap (λ ns. session_state drawn (desk_of ns (Desks.erased slot c.awaits))) (answered_seen see what (shifted (length st.ids) (one_spelled v)) c.names
          ∙ (ap (λ u. Desks.answered (plain Id) what u (names_seen see c.names)) value ∙ ap (Desks.answered (plain Id) what v) names_are))
          ∙ ap (λ ys. session_state drawn (desk_of (Desks.answered (plain Id) what v names) (Desks.erased slot ys))) awaits);
    }
  where
    head_same : {X : Type 0} (x y : X) → x ∷ [] ≡ y ∷ [] → x ≡ y
    head_same x y e = cc

    one_below : (v : Value Id) → AllByRecursion (IsBelow (length (session ∷ ids_in (v ∷ [])))) (one_spelled v ∷ [])
    one_below Nothing = (tt, tt)
    one_below (Flag b) = (tt, tt)
    one_below (Int z) = (tt, tt)
    one_below (Text t) = (tt, tt)
    one_below (Ref id) = (lit< tt, tt)
    one_below (Fault c) = (tt, tt)
    one_below (Ints zs) = (tt, tt)

    one_seen : (v : Value Id) → map (seen (id_at (session ∷ ids_in (v ∷ [])))) (one_spelled v ∷ []) ≡ v ∷ []
    one_seen Nothing = refl
    one_seen (Flag b) = refl
    one_seen (Int z) = refl
    one_seen (Text t) = refl
    one_seen (Ref id) = refl
    one_seen (Fault c) = refl
    one_seen (Ints zs) = refl

    value_seen : (pre : List Id) (v : Value Id) → seen (id_at (pre ++ ((session ∷ ids_in (v ∷ [])) ++ []))) (shifted (length pre) (one_spelled v)) ≡ v
    value_seen pre v = head_same _ v (seen_behind pre (session ∷ ids_in (v ∷ [])) [] (one_spelled v ∷ []) (one_below v) ∙ one_seen v)

-- ---- any answer acts

module _ (acts : Acting) (n log limit : ℕ) (parcel_of : List ℕ → Option Parcel) (few : n ≤ 64) (k : ℕ) (little : k ≤ 4000000000) (v : Plain) (whole : List ℕ) (p q : Pool) (h : Answering n k v whole p) where
  abbrev rules : Rules
  rules = judging acts n log limit parcel_of

  some_same : {X : Type 0} (x y : X) → Some x ≡ Some y → x ≡ y
  some_same x y e = cc

  none_new : (g : Id → Option State) (here : ℕ) (made : List Id) → AreNew g here [] made → made ≡ []
  none_new g here [] e = refl
  none_new g here (o ∷ made) e = absurd e

  apart : (u : Who) → IsIn n v.count u → same_object (at h.ref u) session ≡ false
  apart u i = elim (cases_Bool (same_object (at h.ref u) session)) [
    | inl g ↦ absurd ((h.fits.apart u i).0 (sym (h.fits.kinds u i) ∙ ap (λ (b : Id). b.kind) (same_object-true (at h.ref u) session g)))
    | inr g ↦ g
  ]

  acted_answer : IsActed rules p q → Answering n k v whole q
  acted_answer a =
      let i = pick h.line (names_over (at h.ref) v.names) h.last h.names h.awaited a.before a.message a.behind h.left
      (subst (λ ms. Coming h.line (names_over (at h.ref) v.names) h.last h.names h.awaited ms h.left) a.pending h.coming) in
      let st : State = session_state h.drawn (desk_of h.names h.awaited) in
      let set : Message = set_of i.slot i.value in
      let target : target_in a.message ≡ session = ap target_in i.message in
      let same : a.state ≡ st = some_same a.state st (sym a.stands ∙ (ap p.states target ∙ h.desk)) in
      let here : ℕ = p.places session in
      let low = h.few in
      let tk = taken acts n here h.drawn h.names h.awaited i.slot i.value i.what few h.home (omega arith) h.fit i.held in
      let next1 : q ≡ acted p here set st a.made (a.before ++ a.behind) (acts.act_of n 1 here st (named 0 0 set)) =
      a.next ∙ (ap (λ x. acted p (p.places (target_in x)) x a.state a.made (a.before ++ a.behind) (outcome_in rules (p.places (target_in x)) x a.state)) i.message
      ∙ ap (λ x. acted p here set x a.made (a.before ++ a.behind) (outcome_in rules here set x)) same) in
      let next2 : q ≡ acted p here set st a.made (a.before ++ a.behind) tk.out = next1 ∙ ap (acted p here set st a.made (a.before ++ a.behind)) tk.out_is in
      let new : AreNew p.states here tk.out.makes a.made =
      subst (λ o. AreNew p.states here o.makes a.made) tk.out_is
      (subst (λ x. AreNew p.states here (outcome_in rules here set x).makes a.made) same
      (subst (λ x. AreNew p.states (p.places (target_in x)) (outcome_in rules (p.places (target_in x)) x a.state).makes a.made) i.message a.new)) in
      let nobody : a.made ≡ [] = none_new p.states here a.made (subst (λ ms. AreNew p.states here ms a.made) tk.makes new) in
      let next : q ≡ acted p here set st [] (a.before ++ a.behind) tk.out = next2 ∙ ap (λ ids. acted p here set st ids (a.before ++ a.behind) tk.out) nobody in
      let sent_none : sent_by set st [] tk.out ≡ [] =
      ap (λ xs. map (sent st (named 0 0 set) []) xs ++ map (replied st (named 0 0 set) []) tk.out.replies) tk.sends
      ∙ ap (λ xs. map (replied st (named 0 0 set) []) xs) tk.replies in
      let states : (o : Id) → q.states o ≡ cond (same_object o session) (Some (session_state h.drawn (desk_of (Desks.answered (plain Id) i.what i.value h.names) (Desks.erased i.slot h.awaited)))) (p.states o) =
      λ o. ap (λ z. z.states o) next ∙ (ap (λ y. cond (same_object o session) (Some y) (with_made p.states tk.out.makes [] o)) tk.state
      ∙ ap (λ ms. cond (same_object o session) (Some (session_state h.drawn (desk_of (Desks.answered (plain Id) i.what i.value h.names) (Desks.erased i.slot h.awaited)))) (with_made p.states ms [] o)) tk.makes) in
      let places : (o : Id) → q.places o ≡ p.places o = λ o. ap (λ z. z.places o) next in
      record {
        ref = h.ref;
        slots = h.slots;
        drawn = h.drawn;
        few = h.few;
        last = h.last;
        said = h.said;
        line = h.line;
        total = h.total;
        done = h.done + i.count;
        left = i.rest;
        names = Desks.answered (plain Id) i.what i.value h.names;
        awaited = Desks.erased i.slot h.awaited;
        named = h.named;
        fits = h.fits;
        stands = λ u j. states (at h.ref u) ∙ (ap (λ b. cond b (Some (session_state h.drawn (desk_of (Desks.answered (plain Id) i.what i.value h.names) (Desks.erased i.slot h.awaited)))) (p.states (at h.ref u))) (apart u j) ∙ h.stands u j);
        placed = λ u j. places (at h.ref u) ∙ h.placed u j;
        alike = subst (λ z. IsAlike z.states) (sym next) (acted_alike p here set st [] (a.before ++ a.behind) tk.out h.alike);
        home = let P : ℕ → Type 0 = λ x. x < n in subst P (sym (places session)) h.home;
        fit = taken_fit i.slot i.what i.value h.names h.awaited (what_held i.slot h.awaited i.what h.fit.awaits i.held) i.short h.fit;
        fit_last = h.fit_last;
        desk = states session ∙ ap (λ b. cond b (Some (session_state h.drawn (desk_of (Desks.answered (plain Id) i.what i.value h.names) (Desks.erased i.slot h.awaited)))) (p.states session)) (same_object-refl session);
        coming = subst (λ ms. Coming h.line (names_over (at h.ref) v.names) h.last (Desks.answered (plain Id) i.what i.value h.names) (Desks.erased i.slot h.awaited) ms i.rest)
            (sym (ap (λ z. z.pending) next ∙ ap (λ xs. xs ++ (a.before ++ a.behind)) sent_none)) i.later;
        count = omega (arith, h.count, i.adds);
        printed = ap (λ z. z.printed) next ∙ (ap (λ xs. p.printed ++ xs) (tk.prints ∙ i.text) ∙ (ap (λ xs. xs ++ times i.count h.line) h.printed
            ∙ (append_assoc h.said (times h.done h.line) (times i.count h.line) ∙ ap (λ xs. h.said ++ xs) (times_add h.done i.count h.line))));
        written = h.written;
      }

  no_move : (o : Id) → IsMoved o p q → ⊥
  no_move o a =
      let i = pick h.line (names_over (at h.ref) v.names) h.last h.names h.awaited a.before a.message a.behind h.left
      (subst (λ ms. Coming h.line (names_over (at h.ref) v.names) h.last h.names h.awaited ms h.left) a.pending h.coming) in
      let none : moves_to a.message ≡ None = ap moves_to i.message in
      let both : None ≡ Some a.to = sym none ∙ a.move in
      cc

  pub answer_step : IsStep rules p q → Answering n k v whole q
  answer_step (inl a) = acted_answer a
  answer_step (inr a) = absurd (no_move a.0 a.1)

-- all have come
pub over : (n k : ℕ) (v : Plain) (whole : List ℕ) (p : Pool) → Answering n k v whole p → p.pending ≡ [] → Settled n k v p × (concat p.printed ≡ whole)
over n k v whole p h none =
    let z = subst (λ ms. Coming h.line (names_over (at h.ref) v.names) h.last h.names h.awaited ms h.left) none h.coming in
    let all : h.done ≡ h.total = omega (arith, h.count, z.0) in (
      record {
        ref = h.ref;
        slots = h.slots;
        drawn = h.drawn;
        few = h.few;
        aw = h.last;
        named = h.named;
        fits = h.fits;
        stands = h.stands;
        placed = h.placed;
        alike = h.alike;
        home = h.home;
        fit = h.fit_last;
        desk = h.desk ∙ (ap (λ ns. Some (session_state h.drawn (desk_of ns h.awaited))) z.1 ∙ ap (λ ys. Some (session_state h.drawn (desk_of (names_over (at h.ref) v.names) ys))) z.2);
        pending = none;
      },
      ap concat (h.printed ∙ ap (λ i. h.said ++ times i h.line) all) ∙ h.written,
    )
