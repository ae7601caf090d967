-- An object acts on what a line asks for: over ids it does what the plain object does.
use Rattle.std.specs.Prelude.{pos, is_some}
use Rattle.std.proofs.Common.{ℕ, zero, suc, true, cond, List, [], ◌∷◌, ◌++◌, ◌≡◌, ◌≢◌, ◌<◌, ◌≤◌, Option, Some, IfSome, refl, sym, ap, ◌∙◌, subst, length, map, take, drop, append-nil}
use Rattle.std.proofs.lemmas.List.{length-map, map-append}
use Rattle.hpx_value.specs.Ids.{Id, same_object}
use Rattle.hpx_value.specs.Values.{named}
use Rattle.hpx_value.specs.Shapes.{IsAct}
use Rattle.hpx_value.specs.Laws.{birth_state}
use Rattle.hpx_value.specs.Hands.{Slot, id_at, state_after, sent, replied, due_of}
use Rattle.hpx_value.specs.declared.value.State.{State}
use Rattle.hpx_value.specs.declared.value.Act.{Act}
use Rattle.hpx_value.specs.declared.value.Message.{Message}
use Rattle.hpx_value.specs.declared.outcome.Make.{Make}
use Rattle.hpx_value.specs.declared.outcome.Outcome.{Outcome}
use Rattle.hpx_value.specs.declared.outcome.Due.{Due}
use Rattle.hpx_value.specs.declared.outcome.Due.TheVariants.{Message as MessageDue, Print as PrintDue}
use Rattle.hpx_journal.specs.Pool.{Pool, target_in, moves_to, outcome_in, sent_by, acted, with_made, AreNew, IsActed}
use Rattle.hpx_journal.specs.Entries.{Rules}
use Rattle.hpx_journal.proofs.Same.{same_object-from}
use Rattle.hpx_calls.specs.Values.{Value, plain, mapped, spelled}
use Rattle.hpx_calls.specs.Values as Values
use Rattle.hpx_calls.specs.Contents.{layout}
use Rattle.hpx_calls.specs.declared.content.Content.{Content}
use Rattle.hpx_calls.specs.declared.effect.Effect.{Effect}
use Rattle.hpx_calls.specs.declared.effect.Effect.TheVariants.{Silent, Answers, Waits, Frees, Starts, Hands, Moves, Makes}
use Rattle.hpx_calls.specs.declared.effect.Called.{Called}
use Rattle.hpx_calls.specs.Requests.{request_of}
use Rattle.hpx_calls.specs.Tables.{called}
use Rattle.hpx_calls.specs.Outcomes.{outcome_of, comes_to, called_in}
use Rattle.hpx_calls.specs.Histories.{Object, Told, own, each, still, tells, called_on, next}
use Rattle.hpx_calls.specs.Ids.{state_of, IsReadable, call_of, setting_of, makes_for, message_for}
use Rattle.hpx_calls.proofs.Lives.{is_called}
use Rattle.app_console.specs.Types.{Spelled}
use Rattle.app_console.specs.Judging.{Acting}
use Rattle.app_console.specs.Plain.{Who, Datum}
use Rattle.hpx_calls.specs.Mapped.{content_seen, effect_seen, called_seen}
use Rattle.app_console.proofs.Kernel.{request_is, waiter_is, called_over}
use Rattle.app_console.proofs.Comings.{set_of}
use Rattle.app_console.proofs.Fit.{at, asked, session_slot, held_over}
use Rattle.app_console.proofs.Slots.{all_set}

-- ---- the one message that is pending is acted on

record IsAlone {X : Type 0} (l : List X) (x : X) (r : List X) (y : X) : Type 0 where
  before : l ≡ []
  behind : r ≡ []
  is : x ≡ y

alone : {X : Type 0} (l : List X) (x : X) (r : List X) (y : X) → y ∷ [] ≡ l ++ x ∷ r → IsAlone l x r y
alone [] x r y h = record { before = refl; behind = cc; is = cc }
alone (z ∷ []) x r y h = absurd (let e : x ∷ r ≡ [] = cc in cc)
alone (z ∷ (u ∷ l)) x r y h = absurd (let e : u ∷ (l ++ x ∷ r) ≡ [] = cc in cc)

some_same : {X : Type 0} (x y : X) → Some x ≡ Some y → x ≡ y
some_same x y h = cc

pub record IsNext (r : Rules) (p q : Pool) (m : Message) (s : State) : Type 0 where
  pub made : List Id
  pub there : IfSome (moves_to m) (λ to. to ≡ p.places (target_in m))
  pub new : AreNew p.states (p.places (target_in m)) (outcome_in r (p.places (target_in m)) m s).makes made
  pub next : q ≡ acted p (p.places (target_in m)) m s made [] (outcome_in r (p.places (target_in m)) m s)

pub next_of : (r : Rules) (p q : Pool) (m : Message) (s : State) → p.pending ≡ m ∷ [] → p.states (target_in m) ≡ Some s → IsActed r p q → IsNext r p q m s
next_of r p q m s one stands a =
    let split = alone a.before a.message a.behind m (sym one ∙ a.pending) in
    let none : a.before ++ a.behind ≡ [] = ap (λ l. l ++ a.behind) split.before ∙ split.behind in
    let f : a.state ≡ s = some_same a.state s (sym a.stands ∙ (ap (λ v. p.states (target_in v)) split.is ∙ stands)) in
    subst (λ v. IsNext r p q v s) split.is (subst (λ v. IsNext r p q a.message v) f (record {
      made = a.made;
      there = a.there;
      new = a.new;
      next = a.next ∙ ap (λ l. acted p (p.places (target_in a.message)) a.message a.state a.made l (outcome_in r (p.places (target_in a.message)) a.message a.state)) none;
    }))

-- ---- the pool looks at objects alone

abbrev pub IsAlike : (Id → Option State) → Type 0
IsAlike g = (a b : Id) → same_object a b ≡ true → g a ≡ g b

made_alike : (g : Id → Option State) (makes : List Make) (made : List Id) → IsAlike g → IsAlike (with_made g makes made)
made_alike g [] made h a b e = h a b e
made_alike g (x ∷ makes) [] h a b e = h a b e
made_alike g (x ∷ makes) (o ∷ made) h a b e =
    ap (λ t. cond t (Some (birth_state x)) (with_made g makes made a)) (same_object-from a b o e)
    ∙ ap (λ t. cond (same_object b o) (Some (birth_state x)) t) (made_alike g makes made h a b e)

pub set_alike : (g : Id → Option State) (t : Id) (s : State) → IsAlike g → IsAlike (λ o. cond (same_object o t) (Some s) (g o))
set_alike g t s h a b e = ap (λ x. cond x (Some s) (g a)) (same_object-from a b t e) ∙ ap (λ x. cond (same_object b t) (Some s) x) (h a b e)

pub acted_alike : (p : Pool) (here : ℕ) (m : Message) (s : State) (made : List Id) (others : List Message) (out : Outcome) → IsAlike p.states → IsAlike (acted p here m s made others out).states
acted_alike p here m s made others out h = set_alike (with_made p.states out.makes made) (target_in m) (state_after s (named 0 0 m) made out) (made_alike p.states out.makes made h)

-- ---- what is due, as messages

abbrev messages_of : List Due → List Message
messages_of [] = []
messages_of (MessageDue m ∷ ds) = m ∷ messages_of ds
messages_of (PrintDue b ∷ ds) = messages_of ds

messages_map : {X : Type 0} (f : X → Message) (xs : List X) (ds : List Due) → messages_of (map (λ x. MessageDue (f x)) xs ++ ds) ≡ map f xs ++ messages_of ds
messages_map f [] ds = refl
messages_map f (x ∷ xs) ds = ap (λ ms. f x ∷ ms) (messages_map f xs ds)

messages_only : {X : Type 0} (f : X → Message) (xs : List X) → messages_of (map (λ x. MessageDue (f x)) xs) ≡ map f xs
messages_only f [] = refl
messages_only f (x ∷ xs) = ap (λ ms. f x ∷ ms) (messages_only f xs)

no_prints : (bs : List (List ℕ)) → messages_of (map PrintDue bs) ≡ []
no_prints [] = refl
no_prints (b ∷ bs) = no_prints bs

sent_is : (m : Message) (s : State) (made : List Id) (out : Outcome) → messages_of (due_of s (named 0 0 m) made out) ≡ sent_by m s made out
sent_is m s made out =
    messages_map (sent s (named 0 0 m) made) out.sends (map (λ x. MessageDue (replied s (named 0 0 m) made x)) out.replies ++ map PrintDue out.prints)
    ∙ ap (λ ms. map (sent s (named 0 0 m) made) out.sends ++ ms)
    (messages_map (replied s (named 0 0 m) made) out.replies (map PrintDue out.prints) ∙ (ap (λ ms. map (replied s (named 0 0 m) made) out.replies ++ ms) (no_prints out.prints) ∙ append-nil (map (replied s (named 0 0 m) made) out.replies)))

-- ---- who waits then, and what is told

-- the slots that wait after an effect
abbrev pub slots_after : {V : Type 0} → Effect V → List ℕ → ℕ → List ℕ
slots_after Waits slots drawn = slots ++ drawn ∷ []
slots_after (Frees count v own) slots drawn = drop count slots
slots_after (Hands code args own) slots drawn = drop 1 slots
slots_after _ slots drawn = slots

drop_map : {X Y : Type 0} (f : X → Y) (n : ℕ) (xs : List X) → drop n (map f xs) ≡ map f (drop n xs)
drop_map f zero [] = refl
drop_map f zero (x ∷ xs) = refl
drop_map f (suc n) [] = refl
drop_map f (suc n) (x ∷ xs) = drop_map f n xs

take_map : {X Y : Type 0} (f : X → Y) (n : ℕ) (xs : List X) → take n (map f xs) ≡ map f (take n xs)
take_map f zero [] = refl
take_map f zero (x ∷ xs) = refl
take_map f (suc n) [] = refl
take_map f (suc n) (x ∷ xs) = ap (λ ys. f x ∷ ys) (take_map f n xs)

still_is : {V : Type 0} (e : Effect V) (slots : List ℕ) (drawn : ℕ) → still e (map session_slot slots) (Some (session_slot drawn)) ≡ map session_slot (slots_after e slots drawn)
still_is Silent slots drawn = refl
still_is (Answers v) slots drawn = refl
still_is Waits slots drawn = sym (map-append session_slot slots (drawn ∷ []))
still_is (Frees count v own) slots drawn = drop_map session_slot count slots
still_is (Starts code args) slots drawn = refl
still_is (Hands code args own) slots drawn = drop_map session_slot 1 slots
still_is (Moves to) slots drawn = refl
still_is (Makes x) slots drawn = refl

-- the answers that are sent, but where an action starts
abbrev pub sets_after : (here : ℕ) → List Id → Effect (Value Id) → List ℕ → ℕ → List Message
sets_after here made (Answers v) slots drawn = set_of drawn v ∷ []
sets_after here made (Frees count v own) slots drawn = all_set (take count slots) v ++ set_of drawn own ∷ []
sets_after here made (Moves to) slots drawn = set_of drawn (Values.Int (pos here)) ∷ []
sets_after here made (Makes x) slots drawn = set_of drawn (Values.Ref (id_at made 0)) ∷ []
sets_after here made _ slots drawn = []

abbrev pub IsAnswering : {V : Type 0} → Effect V → Type 0
IsAnswering (Starts code args) = ⊥
IsAnswering (Hands code args own) = ⊥
IsAnswering _ = Unit {0}

each_set : (here : ℕ) (v : Value Id) (slots : List ℕ) (more : List (Told (Value Id) Slot)) → map (message_for here) (each v (map session_slot slots) ++ more) ≡ all_set slots v ++ map (message_for here) more
each_set here v [] more = refl
each_set here v (x ∷ slots) more = ap (λ ms. set_of x v ∷ ms) (each_set here v slots more)

told_is : (kind here : ℕ) (made : List Id) (e : Effect (Value Id)) (slots : List ℕ) (drawn : ℕ) → IsAnswering e
    → map (message_for here) (tells (setting_of kind here made) e (map session_slot slots) (Some (session_slot drawn))) ≡ sets_after here made e slots drawn
told_is kind here made Silent slots drawn h = refl
told_is kind here made (Answers v) slots drawn h = refl
told_is kind here made Waits slots drawn h = refl
told_is kind here made (Frees count v u) slots drawn h =
    ap (λ ws. map (message_for here) (each v ws ++ own (Some (session_slot drawn)) u)) (take_map session_slot count slots) ∙ each_set here v (take count slots) (own (Some (session_slot drawn)) u)
told_is kind here made (Starts code args) slots drawn h = absurd h
told_is kind here made (Hands code args u) slots drawn h = absurd h
told_is kind here made (Moves to) slots drawn h = refl
told_is kind here made (Makes x) slots drawn h = refl

-- ---- the outcome of the call

prints_none : (here : ℕ) (s : State) (a : Act) (vs : List Spelled) (e : Effect Spelled) → (comes_to here s a vs e).prints ≡ []
prints_none here s a vs Silent = refl
prints_none here s a vs (Answers v) = refl
prints_none here s a vs Waits = refl
prints_none here s a vs (Frees count v own) = refl
prints_none here s a vs (Starts code args) = refl
prints_none here s a vs (Hands code args own) = refl
prints_none here s a vs (Moves to) = refl
prints_none here s a vs (Makes x) = refl

outcome_prints : (n kind here : ℕ) (s : State) (a : Act) → (outcome_of n kind here s a).prints ≡ []
unfolding outcome_of
outcome_prints n kind here s a = prints_none here s a (layout spelled (called_in n kind here s a).content) (called_in n kind here s a).effect

-- what the object leaves, over ids, where the plain object does c
pub record DoesCall (ref : ℕ → Id) (n kind here : ℕ) (slots : List ℕ) (drawn : ℕ) (c : Called Datum) (m : Message) (s : State) (made : List Id) (out : Outcome) : Type 0 where
  pub state : state_after s (named 0 0 m) made out ≡ state_of 0 (held_over ref c.content (slots_after c.effect slots drawn))
  pub sets : sent_by m s made out ≡ sets_after here made (effect_seen (at ref) c.effect) slots drawn
  pub makes : out.makes ≡ makes_for (effect_seen (at ref) c.effect)
  pub prints : out.prints ≡ []
  pub readable : IsReadable n kind (held_over ref c.content (slots_after c.effect slots drawn))

module _ (acts : Acting) (ref : ℕ → Id) (n kind here : ℕ) (x : Content Datum) (slots : List ℕ) (drawn w : ℕ) (who : Who) (code : ℕ) (args : List Datum) (few : n ≤ 64) (low : here < n)
    (one : kind ≢ 1) (seven : kind ≢ 7) (size : length slots ≡ w) (shown : IsReadable n kind (held_over ref x slots)) (act : IsAct (named 0 0 (asked ref drawn who code args))) where
  abbrev the_call : Called Datum
  the_call = called (plain Who) here kind w true x (request_of (plain Who) code true args)

  abbrev o : Object (Value Id) Slot
  o = held_over ref x slots

  abbrev m : Message
  m = asked ref drawn who code args

  on_is : (made : List Id) → called_on (setting_of kind here made) o (call_of (named 0 0 m)) ≡ called_seen (at ref) the_call
  on_is made =
      ap (λ r. called (plain Id) here kind (length (map session_slot slots)) (is_some (call_of (named 0 0 m)).waiter) (content_seen (at ref) x) r) (request_is ref drawn who code args)
      ∙ (ap (λ v. called (plain Id) here kind (length (map session_slot slots)) (is_some v) (content_seen (at ref) x) (request_of (plain Id) code true (map (mapped (at ref)) args))) (waiter_is ref drawn who code args)
      ∙ (ap (λ k. called (plain Id) here kind k true (content_seen (at ref) x) (request_of (plain Id) code true (map (mapped (at ref)) args))) (length-map slots session_slot ∙ size)
      ∙ called_over ref here kind w code x args))

  next_is : (made : List Id) → next (setting_of kind here made) o (call_of (named 0 0 m)) ≡ held_over ref the_call.content (slots_after the_call.effect slots drawn)
  next_is made =
      ap (λ (c : Called (Value Id)). object c.content (still c.effect (map session_slot slots) (call_of (named 0 0 m)).waiter)) (on_is made)
      ∙ (ap (λ v. object (content_seen (at ref) the_call.content) (still (effect_seen (at ref) the_call.effect) (map session_slot slots) v)) (waiter_is ref drawn who code args)
      ∙ (ap (object (content_seen (at ref) the_call.content)) (still_is (effect_seen (at ref) the_call.effect) slots drawn)
      ∙ ap (λ ys. object (content_seen (at ref) the_call.content) (map session_slot ys)) (same_after the_call.effect)))
    where
      object : Content (Value Id) → List Slot → Object (Value Id) Slot
      object c ws = record { content = c; waiting = ws }

      same_after : (e : Effect Datum) → slots_after (effect_seen (at ref) e) slots drawn ≡ slots_after e slots drawn
      same_after Silent = refl
      same_after (Answers v) = refl
      same_after Waits = refl
      same_after (Frees count v own) = refl
      same_after (Starts code args) = refl
      same_after (Hands code args own) = refl
      same_after (Moves to) = refl
      same_after (Makes y) = refl

  over_answers : (e : Effect Datum) → IsAnswering e → IsAnswering (effect_seen (at ref) e)
  over_answers Silent h = tt
  over_answers (Answers v) h = tt
  over_answers Waits h = tt
  over_answers (Frees count v own) h = tt
  over_answers (Starts code args) h = absurd h
  over_answers (Hands code args own) h = absurd h
  over_answers (Moves to) h = tt
  over_answers (Makes y) h = tt

  pub does_call : (made : List Id) → IsAnswering the_call.effect → DoesCall ref n kind here slots drawn the_call m (state_of 0 o) made (acts.act_of n kind here (state_of 0 o) (named 0 0 m))
  does_call made answering =
      let h = is_called n kind here 0 o (named 0 0 m) made shown act in
      subst (DoesCall ref n kind here slots drawn the_call m (state_of 0 o) made) (sym (acts.others n kind here (state_of 0 o) (named 0 0 m) few low one seven)) (record {
        state = h.state ∙ ap (state_of 0) (next_is made);
        sets =
            sym (sent_is m (state_of 0 o) made (outcome_of n kind here (state_of 0 o) (named 0 0 m)))
            ∙ (ap messages_of h.due ∙ (messages_only (message_for here) (tells (setting_of kind here made) (called_on (setting_of kind here made) o (call_of (named 0 0 m))).effect (map session_slot slots) (call_of (named 0 0 m)).waiter)
            ∙ (ap (λ (c : Called (Value Id)). map (message_for here) (tells (setting_of kind here made) c.effect (map session_slot slots) (call_of (named 0 0 m)).waiter)) (on_is made)
            ∙ (ap (λ v. map (message_for here) (tells (setting_of kind here made) (effect_seen (at ref) the_call.effect) (map session_slot slots) v)) (waiter_is ref drawn who code args)
            ∙ told_is kind here made (effect_seen (at ref) the_call.effect) slots drawn (over_answers the_call.effect answering)))));
        makes = h.makes ∙ ap (λ (c : Called (Value Id)). makes_for c.effect) (on_is made);
        prints = outcome_prints n kind here (state_of 0 o) (named 0 0 m);
        readable = subst (IsReadable n kind) (next_is made) h.shown;
      })
