-- The acts of the tests keep the laws of actions.
use Rattle.std.proofs.Common.{ℕ, zero, suc, ℤ, pos, negsuc, Bool, true, false, cond, nat_lt, List, [], ◌∷◌, ◌++◌, ◌≡◌, ◌≢◌, ◌+◌, ◌-◌, ◌/◌, ◌%◌, ◌<◌, ◌≤◌, ◌==◌, ◌&&◌, Option, Some, None, codes, length, length-append, map, refl, sym, ap, ◌∙◌, subst, inl, inr, arith, lit≤}
use Rattle.std.specs.List.{AllByRecursion, count_by, slice_index_or}
use Rattle.std.specs.Int.{w64, int_wrapping_add}
use Rattle.std.specs.Fmt.{digits, digits_onto, digit_glyph, decimal}
use Rattle.std.proofs.lemmas.Bool.{cond_both, and_parts, eqb-true, le-ltb}
use Rattle.std.proofs.lemmas.List.Sums.{count_by-le-length}
use Rattle.hpx_value.specs.Ids.{bare}
use Rattle.hpx_value.specs.Values.{refs_in, bare_act, bare_state, message_of, named}
use Rattle.hpx_value.specs.Shapes.{IsAct, IsMessage, IsState, IsCount, places_of, listed}
use Rattle.hpx_value.specs.Hands.{hand_slots, hand_ids, id_at, sent, replied, state_after}
use Rattle.hpx_value.specs.Kept.{numbers, answers}
use Rattle.hpx_value.specs.Mentions.{mentions, cont_place}
use Rattle.hpx_value.specs.Laws.{KeepsLaws, NamesItsHand, UsesEachOnce, IsMovable, IsTarget, MovesBelow, answered, handed_on, made_slots, drawn_slots, is_made_slot, target_kind, uses}
use Rattle.hpx_value.proofs.Kept.{length-hand_slots, few_roots, used_once, stays_keeps, stays_tells}
use Rattle.hpx_value.proofs.Uses.{used_below}
use Rattle.hpx_value.specs.declared.value.Cont.{Cont}
use Rattle.hpx_value.specs.declared.outcome.Target.TheVariants.{Place, Root}
use Rattle.hpx_value.specs.declared.outcome.SendCont.TheVariants.{Nothing as NoCont, Here}
use Rattle.hpx_value.specs.declared.outcome.Sending.{Sending}
use Rattle.hpx_trial.specs.Data.{Id, Value, Nothing, Int, Ref, State, Act, Outcome}
use Rattle.hpx_trial.specs.Trial.{said, told, one_send, line_outcome, byte_in, number_text, set_outcome, session_outcome, made_outcome, add_outcome, query_outcome, free_outcome, some_outcome, is_number, or_stays, trial}

-- few places are named, and each is one of the hand
few_places : (s : State) (a : Act) (out : Outcome) (m : ℕ) → m ≡ length s.ids + length a.ids + length out.makes
    → AllByRecursion (λ place. place < m) (mentions s a out) → length (mentions s a out) ≤ 8
    → length out.sends ≤ 32 → UsesEachOnce (length (hand_slots s a)) (uses out) → NamesItsHand s a out
few_places s a out m is low few sends once = record {
  places = let P : ℕ → Type 0 = λ k. AllByRecursion (λ place. place < k) (mentions s a out) in subst P is low;
  conts = used_below (length (hand_slots s a)) (uses out) once;
  each = λ place _. omega (arith, count_by-le-length (λ p. p == place) (mentions s a out));
  all = let roots = few_roots out.sends in omega arith;
}

-- a number in digits is short
length-digits_onto : (k base : ℕ) (upper : Bool) (n : ℕ) (acc : List ℕ) → length (digits_onto k base upper n acc) ≤ k + length acc
length-digits_onto zero base upper n acc = omega arith
length-digits_onto (suc k) base upper n acc =
    cond_both (n / base == 0) _ _ (λ bytes. length bytes ≤ suc k + length acc) (λ e. omega arith)
    (λ e. let more = length-digits_onto k base upper (n / base) (digit_glyph upper (n % base) ∷ acc) in omega arith)

length-decimal : (n : ℕ) → length (decimal n) ≤ 64
unfolding digits
length-decimal n = length-digits_onto 64 10 false n []

length-number_text : (z : ℤ) → length (number_text z) ≤ 16384
length-number_text (pos n) = let digits_fit = length-decimal n in omega (arith, length-append (decimal n) (codes "\n"))
length-number_text (negsuc n) = let digits_fit = length-decimal (suc n) in omega (arith, length-append (decimal (suc n)) (codes "\n"))

no_counts : (make slot : ℕ) → count_by (is_made_slot make slot) [] ≤ 1
no_counts make slot = lit≤ tt

-- ---- the session

-- a session that acts: it keeps no continuation, and answers nobody
record IsSpeaking (kind : ℕ) (s : State) (a : Act) : Type 0 where
  session : kind ≡ 1
  conts : s.conts ≡ []
  cont : a.cont ≡ None

-- what it says is lawful
record IsFine (n kind : ℕ) (s : State) (a : Act) (drawn : ℕ) (values : List Value) (sends : List Sending) (prints : List (List ℕ)) : Type 0 where
  places : AllByRecursion (λ place. place < length s.ids + length a.ids + 0) (mentions s a (said drawn values sends prints))
  few : length (mentions s a (said drawn values sends prints)) ≤ 8
  unused : handed_on sends ≡ []
  nothing_made : made_slots sends ≡ []
  slots : IsCount s.drawn (drawn_slots sends)
  counted : drawn ≡ s.drawn + length (drawn_slots sends)
  one : length sends ≤ 32
  few_prints : length prints ≤ 16
  short : AllByRecursion (λ bytes. length bytes ≤ 16384) prints
  state : (made : List Id) → IsState (state_after s a made (said drawn values sends prints))
  messages : (made : List Id) → AllByRecursion (λ x. IsMessage (sent s a made x)) sends
  codes : AllByRecursion (λ x. (x.code ≢ 3) × (x.code ≢ 4)) sends
  moves : AllByRecursion (λ x. x.code ≡ 1 → IsMovable (target_kind s a (said drawn values sends prints) x.target) × MovesBelow n x.args) sends
  roots : AllByRecursion (λ x. IsTarget n x.target) sends

unused : (kind : ℕ) (s : State) (a : Act) → IsSpeaking kind s a → UsesEachOnce (length (hand_slots s a)) []
unused kind s a h i =
    let none : length (hand_slots s a) ≡ 0 =
    length-hand_slots s a ∙ ap (λ conts. length (conts ++ listed a.cont)) h.conts ∙ ap (λ cont. length (listed cont)) h.cont in
    let zero : cond (nat_lt i (length (hand_slots s a))) 1 0 ≡ 0 = ap (λ b. cond b 1 0) (le-ltb i (length (hand_slots s a)) (omega arith)) in
    sym zero

said_keeps : (n kind here : ℕ) (s : State) (a : Act) (drawn : ℕ) (values : List Value) (sends : List Sending) (prints : List (List ℕ)) → IsSpeaking kind s a
    → IsFine n kind s a drawn values sends prints → KeepsLaws n kind here s a (said drawn values sends prints)
said_keeps n kind here s a drawn values sends prints h fine =
    let session = h.session in
    let once : UsesEachOnce (length (hand_slots s a)) (uses (said drawn values sends prints)) =
    let P : List ℕ → Type 0 = λ xs. UsesEachOnce (length (hand_slots s a)) (xs ++ []) in subst P (sym fine.unused) (unused kind s a h) in
    record {
      names = few_places s a (said drawn values sends prints) (length s.ids + length a.ids + 0) refl fine.places fine.few fine.one once;
      conts = once;
      slots = record {
        made =
            let P : List _ → Type 0 = AllByRecursion (λ x. x.make < 0) in subst P (sym fine.nothing_made) tt;
        made_once = λ make slot. rw (fine.nothing_made) (no_counts make slot);
        session = λ other. absurd (other session);
        drawn = fine.slots;
        counted = fine.counted;
      };
      few = record { makes = lit≤ tt; sends = fine.one; prints = fine.few_prints; managed = tt; session = λ other. absurd (other session); short = fine.short };
      shapes = record { state = fine.state; births = tt; sends = fine.messages; replies = λ made. tt };
      moves = record {
        codes = fine.codes;
        moves = fine.moves;
        moved = λ c k h. let low = k.0 in absurd (omega arith);
        place = λ c k h. let low = k.0 in absurd (omega arith);
      };
      plain = λ seven. absurd (omega arith);
      roots = fine.roots;
    }

-- states that keep nothing, or one id
nothing_kept : (drawn : ℕ) → IsState (record { drawn = drawn; values = []; conts = []; ids = [] })
nothing_kept drawn =
    record { values = record { few = lit≤ tt; each = tt }; refs = tt; conts = tt; ids = refl; few = lit≤ tt; short = lit≤ tt }

one_kept : (drawn : ℕ) (id : Id) → IsState (record { drawn = drawn; values = Ref 0 ∷ []; conts = []; ids = id ∷ [] })
one_kept drawn id =
    record { values = record { few = lit≤ tt; each = (tt, tt) }; refs = (refl, tt); conts = tt; ids = refl; few = lit≤ tt; short = lit≤ tt }

ids_of : (s : State) → IsState s → (place : ℕ) → s.values ≡ Ref place ∷ [] → s.conts ≡ [] → length s.ids ≡ 1
ids_of s state place v none =
    state.ids ∙ ap (λ values. length (refs_in values) + length s.conts) v ∙ ap (λ conts. 1 + length conts) none

-- an outcome that is lawful, if there is one
abbrev IsLawful : ℕ → ℕ → ℕ → State → Act → Option Outcome → Type 0
IsLawful n kind here s a None = Unit {0}
IsLawful n kind here s a (Some out) = KeepsLaws n kind here s a out

first_kind : (ids : List Id) (more : List ℕ) → is_number ids ≡ true → slice_index_or (map (λ id. id.kind) ids ++ more) 0 0 ≡ 16
first_kind (id ∷ []) more e = eqb-true id.kind 16 e
first_kind [] more e = cc
first_kind (id ∷ x ∷ ids) more e = cc

module _ (n kind here : ℕ) (s : State) (a : Act) (some : 1 ≤ n) (state : IsState s) (act : IsAct a) where
  either : (b : Bool) (x y : Option Outcome) → (b ≡ true → IsLawful n kind here s a x) → (b ≡ false → IsLawful n kind here s a y)
      → IsLawful n kind here s a (cond b x y)
  either b x y p q = cond_both b x y (IsLawful n kind here s a) p q

  asks : IsSpeaking kind s a → KeepsLaws n kind here s a (said (s.drawn + 1) [] (one_send (Root 3 (n - 1)) 5 [] (Here s.drawn)) [])
  asks h = said_keeps n kind here s a (s.drawn + 1) [] (one_send (Root 3 (n - 1)) 5 [] (Here s.drawn)) [] h (record {
    places = tt;
    few = lit≤ tt;
    unused = refl;
    nothing_made = refl;
    slots = (refl, tt);
    counted = refl;
    one = lit≤ tt;
    few_prints = lit≤ tt;
    short = tt;
    state = λ made. nothing_kept (s.drawn + 1);
    messages = λ made. (
      record { values = record { few = lit≤ tt; each = tt }; refs = tt; few_refs = lit≤ tt; cont = (refl, tt); ids = refl; short = lit≤ tt },
      tt,
    );
    codes = ((λ e. absurd (cc), λ e. absurd (cc)), tt);
    moves = ((λ e. absurd (cc)), tt);
    roots = (inr (inl refl, omega arith), tt);
  })

  takes : IsSpeaking kind s a → (slot place : _) → a.args ≡ Int slot ∷ Ref place ∷ [] → KeepsLaws n kind here s a (said s.drawn (Ref 1 ∷ []) [] [])
  takes h slot place is =
      let many : length a.ids ≡ 2 + length (listed a.cont) = act.ids ∙ ap (λ args. 1 + length (refs_in args) + length (listed a.cont)) is in
      said_keeps n kind here s a s.drawn (Ref 1 ∷ []) [] [] h (record {
        places = (omega arith, tt);
        few = lit≤ tt;
        unused = refl;
        nothing_made = refl;
        slots = tt;
        counted = omega arith;
        one = lit≤ tt;
        few_prints = lit≤ tt;
        short = tt;
        state = λ made. one_kept s.drawn (id_at (hand_ids s a made) 1);
        messages = λ made. tt;
        codes = tt;
        moves = tt;
        roots = tt;
      })

  calls : IsSpeaking kind s a → length s.ids ≡ 1
      → KeepsLaws n kind here s a (said (s.drawn + 1) (Ref 0 ∷ []) (one_send (Place 0) 16 (Int (pos 5) ∷ []) (Here s.drawn)) [])
  calls h one = said_keeps n kind here s a (s.drawn + 1) (Ref 0 ∷ []) (one_send (Place 0) 16 (Int (pos 5) ∷ []) (Here s.drawn)) [] h (record {
    places = (omega arith, (omega arith, tt));
    few = lit≤ tt;
    unused = refl;
    nothing_made = refl;
    slots = (refl, tt);
    counted = refl;
    one = lit≤ tt;
    few_prints = lit≤ tt;
    short = tt;
    state = λ made. one_kept (s.drawn + 1) (id_at (hand_ids s a made) 0);
    messages = λ made. (
      record { values = record { few = lit≤ tt; each = (tt, tt) }; refs = tt; few_refs = lit≤ tt; cont = (refl, tt); ids = refl; short = lit≤ tt },
      tt,
    );
    codes = ((λ e. absurd (cc), λ e. absurd (cc)), tt);
    moves = ((λ e. absurd (cc)), tt);
    roots = (tt, tt);
  })

  queries : IsSpeaking kind s a → length s.ids ≡ 1
      → KeepsLaws n kind here s a (said (s.drawn + 1) (Ref 0 ∷ []) (one_send (Place 0) 17 [] (Here s.drawn)) [])
  queries h one = said_keeps n kind here s a (s.drawn + 1) (Ref 0 ∷ []) (one_send (Place 0) 17 [] (Here s.drawn)) [] h (record {
    places = (omega arith, (omega arith, tt));
    few = lit≤ tt;
    unused = refl;
    nothing_made = refl;
    slots = (refl, tt);
    counted = refl;
    one = lit≤ tt;
    few_prints = lit≤ tt;
    short = tt;
    state = λ made. one_kept (s.drawn + 1) (id_at (hand_ids s a made) 0);
    messages = λ made. (
      record { values = record { few = lit≤ tt; each = tt }; refs = tt; few_refs = lit≤ tt; cont = (refl, tt); ids = refl; short = lit≤ tt },
      tt,
    );
    codes = ((λ e. absurd (cc), λ e. absurd (cc)), tt);
    moves = ((λ e. absurd (cc)), tt);
    roots = (tt, tt);
  })

  moves : IsSpeaking kind s a → length s.ids ≡ 1 → is_number s.ids ≡ true
      → KeepsLaws n kind here s a (said s.drawn (Ref 0 ∷ []) (one_send (Place 0) 1 (Int (pos 0) ∷ []) NoCont) [])
  moves h one number =
      let movable = first_kind s.ids (map (λ id. id.kind) a.ids ++ []) number in
      said_keeps n kind here s a s.drawn (Ref 0 ∷ []) (one_send (Place 0) 1 (Int (pos 0) ∷ []) NoCont) [] h (record {
        places = (omega arith, (omega arith, tt));
        few = lit≤ tt;
        unused = refl;
        nothing_made = refl;
        slots = tt;
        counted = omega arith;
        one = lit≤ tt;
        few_prints = lit≤ tt;
        short = tt;
        state = λ made. one_kept s.drawn (id_at (hand_ids s a made) 0);
        messages = λ made. (
          record { values = record { few = lit≤ tt; each = (tt, tt) }; refs = tt; few_refs = lit≤ tt; cont = tt; ids = refl; short = lit≤ tt },
          tt,
        );
        codes = ((λ e. absurd (cc), λ e. absurd (cc)), tt);
        moves = ((λ e. ((omega (arith, movable), omega (arith, movable)), (0, omega arith, refl))), tt);
        roots = (tt, tt);
      })

  drops : IsSpeaking kind s a → KeepsLaws n kind here s a (said s.drawn [] [] [])
  drops h = said_keeps n kind here s a s.drawn [] [] [] h (record {
    places = tt;
    few = lit≤ tt;
    unused = refl;
    nothing_made = refl;
    slots = tt;
    counted = omega arith;
    one = lit≤ tt;
    few_prints = lit≤ tt;
    short = tt;
    state = λ made. nothing_kept s.drawn;
    messages = λ made. tt;
    codes = tt;
    moves = tt;
    roots = tt;
  })

  shows : IsSpeaking kind s a → length s.ids ≡ 1 → (number : ℤ)
      → KeepsLaws n kind here s a (said s.drawn (Ref 0 ∷ []) [] (number_text number ∷ []))
  shows h one number = said_keeps n kind here s a s.drawn (Ref 0 ∷ []) [] (number_text number ∷ []) h (record {
    places = (omega arith, tt);
    few = lit≤ tt;
    unused = refl;
    nothing_made = refl;
    slots = tt;
    counted = omega arith;
    one = lit≤ tt;
    few_prints = lit≤ tt;
    short = (length-number_text number, tt);
    state = λ made. one_kept s.drawn (id_at (hand_ids s a made) 0);
    messages = λ made. tt;
    codes = tt;
    moves = tt;
    roots = tt;
  })

  line_lawful : IsSpeaking kind s a → (values : List Value) → s.values ≡ values → (byte : ℕ)
      → IsLawful n kind here s a (line_outcome n s.drawn (is_number s.ids) values byte)
  line_lawful h [] is byte = either (byte == 110) _ None (λ e. asks h) (λ e. tt)
  line_lawful h (Ref place ∷ []) is byte =
      let one = ids_of s state place is h.conts in
      either (byte == 97) _ _ (λ e. calls h one)
      (λ e. either (byte == 113) _ _ (λ f. queries h one)
      (λ f. either ((byte == 109) && is_number s.ids) _ _ (λ g. moves h one (and_parts (byte == 109) (is_number s.ids) g).1)
      (λ g. either (byte == 100) _ None (λ k. drops h) (λ k. tt))))
  line_lawful h _ is byte = tt

  set_lawful : IsSpeaking kind s a → (values args : List Value) → s.values ≡ values → a.args ≡ args
      → IsLawful n kind here s a (set_outcome s.drawn values args)
  set_lawful h [] (Int slot ∷ Ref place ∷ []) kept is = takes h slot place is
  set_lawful h (Ref place ∷ []) (Int slot ∷ Int number ∷ []) kept is = shows h (ids_of s state place kept h.conts) number
  set_lawful h _ _ kept is = tt

  session_lawful : IsSpeaking kind s a → IsLawful n kind here s a (session_outcome n (is_number s.ids) s a)
  session_lawful h =
      either (a.code == 4) _ _ (λ e. line_lawful h s.values refl (byte_in a.args))
      (λ e. either (a.code == 3) _ None (λ f. set_lawful h s.values a.args refl refl) (λ f. tt))

  -- ---- objects that answer

  once : (c : Cont) → s.conts ≡ [] → a.cont ≡ Some c → UsesEachOnce (length (hand_slots s a)) (0 ∷ [])
  once c none e i =
      ap (λ conts. count_by (λ j. j == i) (numbers 0 conts ++ length conts ∷ [])) (sym none)
      ∙ ap (λ cont. count_by (λ j. j == i) (numbers 0 s.conts ++ answered (answers s cont Nothing))) (sym e) ∙ used_once s a Nothing i

  own_place : (c : Cont) → s.conts ≡ [] → a.cont ≡ Some c → cont_place s a 0 ≡ length s.ids + c.place
  own_place c none e =
      ap (λ conts. slice_index_or (places_of conts ++ map (λ place. length s.ids + place) (places_of (listed a.cont))) 0 0) none
      ∙ ap (λ cont. slice_index_or (map (λ place. length s.ids + place) (places_of (listed cont))) 0 0) e

  own_last : (c : Cont) → a.cont ≡ Some c → length a.ids ≡ c.place + 1
  own_last c e =
      let P : Option Cont → Type 0 = λ cont. IsCount (length (refs_in a.args) + 1) (places_of (listed cont)) in
      let at : IsCount (length (refs_in a.args) + 1) (places_of (listed (Some c))) = subst P e act.cont in
      let many : length a.ids ≡ 1 + length (refs_in a.args) + 1 = act.ids ∙ ap (λ cont. 1 + length (refs_in a.args) + length (listed cont)) e in
      let first : c.place ≡ length (refs_in a.args) + 1 = at.0 in
      omega arith

  makes : (c : Cont) → kind ≡ 3 → s.conts ≡ [] → a.cont ≡ Some c → a.args ≡ []
      → KeepsLaws n kind here s a (told s.drawn [] (record { kind = 16; values = Int (pos 0) ∷ [] } ∷ []) (Ref 2))
  makes c three none e no_args =
      let out : Outcome = told s.drawn [] (record { kind = 16; values = Int (pos 0) ∷ [] } ∷ []) (Ref 2) in
      let place = own_place c none e in
      let last = own_last c e in
      let two : length a.ids ≡ 2 =
      act.ids ∙ ap (λ args. 1 + length (refs_in args) + length (listed a.cont)) no_args ∙ ap (λ cont. 1 + length (listed cont)) e in
      let used = once c none e in
      record {
        names = few_places s a out (length s.ids + length a.ids + 1) refl (omega arith, (omega arith, tt)) (lit≤ tt) (lit≤ tt) used;
        conts = used;
        slots = record { made = tt; made_once = no_counts; session = λ _. refl; drawn = tt; counted = omega arith };
        few = record {
          makes = lit≤ tt;
          sends = lit≤ tt;
          prints = lit≤ tt;
          managed = (((lit≤ tt, lit≤ tt), refl), tt);
          session = λ _. refl;
          short = tt;
        };
        shapes = record {
          state = λ made. nothing_kept s.drawn;
          births = (
            record { values = record { few = lit≤ tt; each = (tt, tt) }; refs = tt; conts = tt; ids = refl; few = lit≤ tt; short = lit≤ tt },
            tt,
          );
          sends = λ made. tt;
          replies = λ made. (
            record {
              values = record { few = lit≤ tt; each = (tt, (tt, tt)) };
              refs = (refl, tt);
              few_refs = lit≤ tt;
              cont = tt;
              ids = refl;
              short = lit≤ tt;
            },
            tt,
          );
        };
        moves = record {
          codes = tt;
          moves = tt;
          moved = λ c k h. let low = k.0 in absurd (omega arith);
          place = λ c k h. let low = k.0 in absurd (omega arith);
        };
        plain = λ seven. absurd (omega arith);
        roots = tt;
      }

  -- what a number answers names nothing
  record IsAnswer (new : ℤ) (value : Value) : Type 0 where
    places : AllByRecursion (λ place. place < length s.ids + length a.ids + 0) (mentions s a (told s.drawn (Int new ∷ []) [] value))
    few : length (mentions s a (told s.drawn (Int new ∷ []) [] value)) ≤ 8
    message : (made : List Id) → IsMessage (replied s a made (record { cont = 0; value = value }))

  holds : (c : Cont) → kind ≡ 16 → 16 ≤ a.code → s.conts ≡ [] → a.cont ≡ Some c → (new : ℤ) (value : Value) → IsAnswer new value
      → KeepsLaws n kind here s a (told s.drawn (Int new ∷ []) [] value)
  holds c sixteen code none e new value plain =
      let out : Outcome = told s.drawn (Int new ∷ []) [] value in
      let used = once c none e in
      record {
        names = few_places s a out (length s.ids + length a.ids + 0) refl plain.places plain.few (lit≤ tt) used;
        conts = used;
        slots = record { made = tt; made_once = no_counts; session = λ _. refl; drawn = tt; counted = omega arith };
        few = record { makes = lit≤ tt; sends = lit≤ tt; prints = lit≤ tt; managed = tt; session = λ _. refl; short = tt };
        shapes = record {
          state = λ made.
              record { values = record { few = lit≤ tt; each = (tt, tt) }; refs = tt; conts = tt; ids = refl; few = lit≤ tt; short = lit≤ tt };
          births = tt;
          sends = λ made. tt;
          replies = λ made. (plain.message made, tt);
        };
        moves = record {
          codes = tt;
          moves = tt;
          moved = λ one. absurd (omega arith);
          place = λ two. absurd (omega arith);
        };
        plain = λ seven. absurd (omega arith);
        roots = tt;
      }

  adds : (c : Cont) → kind ≡ 16 → a.code ≡ 16 → s.conts ≡ [] → a.cont ≡ Some c → (new : ℤ)
      → KeepsLaws n kind here s a (told s.drawn (Int new ∷ []) [] Nothing)
  adds c sixteen code none e new =
      let place = own_place c none e in
      let last = own_last c e in
      holds c sixteen (omega arith) none e new Nothing (record {
        places = (omega arith, tt);
        few = lit≤ tt;
        message = λ made.
            record { values = record { few = lit≤ tt; each = (tt, (tt, tt)) }; refs = tt; few_refs = lit≤ tt; cont = tt; ids = refl; short = lit≤ tt };
      })

  tells : (c : Cont) → kind ≡ 16 → a.code ≡ 17 → s.conts ≡ [] → a.cont ≡ Some c → (held : ℤ)
      → KeepsLaws n kind here s a (told s.drawn (Int held ∷ []) [] (Int held))
  tells c sixteen code none e held =
      let place = own_place c none e in
      let last = own_last c e in
      holds c sixteen (omega arith) none e held (Int held) (record {
        places = (omega arith, tt);
        few = lit≤ tt;
        message = λ made.
            record { values = record { few = lit≤ tt; each = (tt, (tt, tt)) }; refs = tt; few_refs = lit≤ tt; cont = tt; ids = refl; short = lit≤ tt };
      })

  made_lawful : (c : Cont) → kind ≡ 3 → s.conts ≡ [] → a.cont ≡ Some c → (values args : List Value) → a.args ≡ args
      → IsLawful n kind here s a (made_outcome s.drawn values args)
  made_lawful c three none e [] [] is = makes c three none e is
  made_lawful c three none e _ _ is = tt

  add_lawful : (c : Cont) → kind ≡ 16 → a.code ≡ 16 → s.conts ≡ [] → a.cont ≡ Some c → (values args : List Value)
      → IsLawful n kind here s a (add_outcome s.drawn values args)
  add_lawful c sixteen code none e (Int held ∷ []) (Int more ∷ []) =
      adds c sixteen code none e (int_wrapping_add w64 held more)
  add_lawful c sixteen code none e _ _ = tt

  query_lawful : (c : Cont) → kind ≡ 16 → a.code ≡ 17 → s.conts ≡ [] → a.cont ≡ Some c → (values args : List Value)
      → IsLawful n kind here s a (query_outcome s.drawn values args)
  query_lawful c sixteen code none e (Int held ∷ []) [] = tells c sixteen code none e held
  query_lawful c sixteen code none e _ _ = tt

  free_lawful : s.conts ≡ [] → (cont : Option Cont) → a.cont ≡ cont → IsLawful n kind here s a (free_outcome n (is_number s.ids) kind s a cont)
  free_lawful none None e =
      either ((kind == 1) && nat_lt s.drawn 100) _ None (λ f.
      session_lawful (record { session = eqb-true kind 1 (and_parts (kind == 1) (nat_lt s.drawn 100) f).0; conts = none; cont = e }))
      (λ f. tt)
  free_lawful none (Some c) e =
      either ((kind == 3) && (a.code == 5)) _ _ (λ f.
      made_lawful c (eqb-true kind 3 (and_parts (kind == 3) (a.code == 5) f).0) none e s.values a.args refl)
      (λ f. either ((kind == 16) && (a.code == 16)) _ _ (λ g.
      let both = and_parts (kind == 16) (a.code == 16) g in
      add_lawful c (eqb-true kind 16 both.0) (eqb-true a.code 16 both.1) none e s.values a.args)
      (λ g. either ((kind == 16) && (a.code == 17)) _ None (λ k.
      let both = and_parts (kind == 16) (a.code == 17) k in
      query_lawful c (eqb-true kind 16 both.0) (eqb-true a.code 17 both.1) none e s.values a.args)
      (λ k. tt)))

  some_lawful : (conts : List Cont) → s.conts ≡ conts → IsLawful n kind here s a (some_outcome n (is_number s.ids) kind s a conts)
  some_lawful [] is = free_lawful is a.cont refl
  some_lawful (c ∷ conts) is = tt

  or_stays_keeps : (out : Option Outcome) → IsLawful n kind here s a out → KeepsLaws n kind here s a (or_stays here s a out)
  or_stays_keeps None h =
      stays_keeps n kind here s a (Int (pos here)) state act tt refl (λ _ _ _. stays_tells here s a) (λ _ _ _. stays_tells here s a)
  or_stays_keeps (Some out) h = h

-- each outcome keeps the laws
pub trial_keeps : (n kind here : ℕ) (s : State) (a : Act) → 1 ≤ n → n ≤ 64 → here < n → IsState s → IsAct a
    → KeepsLaws n kind here s a (trial n kind here s a)
trial_keeps n kind here s a some few place state act =
    or_stays_keeps n kind here s a some state act (some_outcome n (is_number s.ids) kind s a s.conts)
    (some_lawful n kind here s a some state act s.conts refl)

number_bare : (ids : List Id) → is_number (map bare ids) ≡ is_number ids
number_bare [] = refl
number_bare (id ∷ []) = refl
number_bare (id ∷ x ∷ ids) = refl

-- neither names nor credits matter
pub trial_blind : (n kind here : ℕ) (s : State) (a : Act)
    → trial n kind here s a ≡ trial n kind here (bare_state s) (named 0 0 (message_of (bare_act a)))
trial_blind n kind here s a = ap (λ movable. or_stays here s a (some_outcome n movable kind s a s.conts)) (sym (number_bare s.ids))
