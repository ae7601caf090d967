-- A call is made: what each effect leaves to come.
use Rattle.std.specs.Prelude.{pos}
use Rattle.std.specs.List.{concat, list_any, AllByRecursion}
use Rattle.std.specs.Option.{option_map}
use Rattle.std.specs.Str.{bytes_eq}
use Rattle.std.proofs.Common.{ℕ, zero, suc, Bool, true, false, cond, eqb, List, [], ◌∷◌, ◌++◌, ◌≡◌, ◌≢◌, ◌+◌, ◌-◌, ◌*◌, ◌<◌, ◌≤◌, Option, Some, None, refl, sym, ap, ◌∙◌, subst, inl, inr, ◌⊎◌, length, take, drop, arith, append-nil, append_assoc, length-append}
use Rattle.std.proofs.lemmas.Bool.{cases_Bool, cond_both}
use Rattle.std.proofs.lemmas.List.{length-drop}
use Rattle.hpx_value.specs.Ids.{Id, same_object}
use Rattle.hpx_value.specs.Laws.{birth_state}
use Rattle.hpx_value.specs.Hands.{session}
use Rattle.hpx_value.specs.declared.value.State.{State}
use Rattle.hpx_value.specs.declared.outcome.Make.{Make}
use Rattle.hpx_journal.specs.Pool.{Pool, with_made, AreNew}
use Rattle.hpx_journal.proofs.Same.{same_object-refl, same_object-true, same_object-sym, same_object-from}
use Rattle.hpx_calls.specs.Values.{Value, Nothing, Flag, Int, Text, Ref, Fault, Ints, plain, mapped}
use Rattle.hpx_calls.specs.Contents.{layout}
use Rattle.hpx_calls.specs.declared.content.Content.{Content}
use Rattle.hpx_calls.specs.declared.content.Content.TheVariants.{Table, Maker, Size, Number, Row, Promise, Dataflow, Started, Channel, Latch, Barrier, Unreadable}
use Rattle.hpx_calls.specs.declared.effect.Effect.{Effect}
use Rattle.hpx_calls.specs.declared.effect.Effect.TheVariants.{Silent, Answers, Waits, Frees, Starts, Hands, Moves, Makes}
use Rattle.hpx_calls.specs.Outcomes.{kind_of}
use Rattle.hpx_calls.specs.Histories.{Told as Tolds, own, each, still, tells}
use Rattle.hpx_calls.specs.Ids.{numbered, ids_in, state_of, IsReadable, makes_for}
use Rattle.app_console.specs.Types.{Naming, What, NotSaid, Told, Released, Bound, Await, Desk}
use Rattle.app_console.specs.Commands.{answer_text}
use Rattle.app_console.specs.Desks.{answered, opened, held_at, desk_out, without, erased}
use Rattle.app_console.specs.Session.{printed}
use Rattle.app_console.specs.Plain.{Who, Thing, Datum, Item, Plain, End, set_item, with_made as with_made_item, count_made, names_told, text_told, count_told}
use Rattle.hpx_calls.specs.Mapped.{content_seen, effect_seen}
use Rattle.app_console.proofs.Alikes.{IsOurs, IsBlank, IsBorn, IsPlainWhat, waiter, Said}
use Rattle.app_console.proofs.Namings.{IsWhat}
use Rattle.app_console.proofs.Seen.{IsFit}
use Rattle.app_console.proofs.Named.{names_over, answered_over, text_over, opened_answered, opened_plain, IsNew, IsFitAwait, HasNameRoom, answered_each, answered_few, kind_over}
use Rattle.app_console.proofs.Comings.{times, says, set_of, Coming}
use Rattle.app_console.proofs.Fit.{at, IsIn, held_over, kept_who, IsGood, IsGoodContent, value_over, value_more, thing_good, Stands, Placed, Fits, IsChange, changed, stands_set, placed_set, Among, set_slots, more_ref, at_new, at_kept, grown, placed_more, stands_more}
use Rattle.app_console.proofs.Slots.{among_take, among_drop, distinct_take, distinct_drop, parted, among_end, distinct_end, length_end, erased_all, held_all, length_all, await, held_here, held_past, last_coming, all_coming, times_add}
use Rattle.app_console.proofs.Called.{IsAlike, slots_after, sets_after}

abbrev place_datum : ℕ → Datum
place_datum t = Int (pos t)

-- ---- the session over ids

-- the state of a session with a desk over ids
abbrev pub session_state : ℕ → Desk (Value Id) → State
session_state drawn d = record { drawn = drawn; values = numbered 0 (desk_out (plain Id) d); conts = []; ids = ids_in (desk_out (plain Id) d) }

abbrev pub desk_of : List (Naming (Value Id)) → List Await → Desk (Value Id)
desk_of names awaits = record { names = names; awaits = awaits }

-- each name stands for a thing that was made
abbrev pub IsNamed : ℕ → Naming Datum → Type 0
IsNamed count x = (who : Who) × (x.to ≡ Some (Ref who)) × IsGood count (Ref who)

abbrev pub AreNamed : ℕ → List (Naming Datum) → Type 0
AreNamed count xs = AllByRecursion (IsNamed count) xs

-- answers are to come; v is the plain space then, and `whole` what the line prints in all
pub record Answering (n k : ℕ) (v : Plain) (whole : List ℕ) (p : Pool) : Type 0 where
  pub ref : ℕ → Id
  pub slots : Who → List ℕ
  pub drawn : ℕ
  pub few : drawn ≤ k
  pub last : List Await
  pub said : List (List ℕ)
  pub line : List ℕ
  pub total : ℕ
  pub done : ℕ
  pub left : ℕ
  pub names : List (Naming (Value Id))
  pub awaited : List Await
  pub named : AreNamed v.count v.names
  pub fits : Fits n ref v.items v.count v.awaited slots drawn last
  pub stands : Stands n ref v.items v.count slots p.states
  pub placed : Placed n ref v.items v.count p.places
  pub alike : IsAlike p.states
  pub home : p.places session < n
  pub fit : IsFit (desk_of names awaited)
  pub fit_last : IsFit (desk_of (names_over (at ref) v.names) last)
  pub desk : p.states session ≡ Some (session_state drawn (desk_of names awaited))
  pub coming : Coming line (names_over (at ref) v.names) last names awaited p.pending left
  pub count : done + left ≡ total
  pub printed : p.printed ≡ said ++ times done line
  pub written : concat (said ++ times total line) ≡ whole

-- ---- texts

pub concat-append : (xs ys : List (List ℕ)) → concat (xs ++ ys) ≡ concat xs ++ concat ys
concat-append [] ys = refl
concat-append (x ∷ xs) ys = ap (λ t. x ++ t) (concat-append xs ys) ∙ sym (append_assoc x (concat xs) (concat ys))

pub concat_printed : (t : List ℕ) → concat (printed t) ≡ t
concat_printed [] = refl
concat_printed (b ∷ bs) = append-nil (b ∷ bs)

-- how often a text is printed
pub record IsTimes (xs : List (List ℕ)) (t : List ℕ) : Type 0 where
  pub count : ℕ
  pub is : xs ≡ times count t

pub printed_times : (t : List ℕ) → IsTimes (printed t) t
printed_times [] = record { count = 0; is = refl }
printed_times (b ∷ bs) = record { count = 1; is = refl }

-- ---- what the plain object leaves

module _ (v : Plain) (who : Who) (what : What) (t : ℕ) (y : Content Datum) (e : Effect Datum) where
  abbrev pub told_then : List (Tolds Datum What)
  told_then = tells (record { sort = plain Who; here = t; kind = (v.items who).kind; made = Ref (Thing v.count) }) e (v.items who).held.waiting (Some what)

  abbrev pub item_then : Item
  item_then = record { kind = (v.items who).kind; place = t; held = record { content = y; waiting = still e (v.items who).held.waiting (Some what) } }

  abbrev pub end_then : End
  end_then = record {
    plain = record {
      names = names_told told_then v.names;
      items = with_made_item (set_item v.items who item_then) v.count t e;
      count = v.count + count_made e;
      awaited = v.awaited + 1 - count_told told_then;
    };
    text = text_told told_then;
  }

-- what the pool holds where the object acted
pub record IsLeft (ref : ℕ → Id) (n : ℕ) (p q : Pool) (who : Who) (kind t : ℕ) (slots : List ℕ) (drawn : ℕ) (y : Content Datum) (e : Effect Datum) (made : List Id) : Type 0 where
  pub states : q.states ≡ (λ o. cond (same_object o (at ref who)) (Some (state_of 0 (held_over ref y (slots_after e slots drawn)))) (with_made p.states (makes_for (effect_seen (at ref) e)) made o))
  pub places : q.places ≡ (λ o. cond (list_any (same_object o) made) t (p.places o))
  pub pending : q.pending ≡ sets_after t made (effect_seen (at ref) e) slots drawn
  pub printed : q.printed ≡ []
  pub alike : IsAlike q.states
  pub new : AreNew p.states t (makes_for (effect_seen (at ref) e)) made
  pub readable : IsReadable n kind (held_over ref y (slots_after e slots drawn))

module _ (n k : ℕ) (v : Plain) (ref : ℕ → Id) (slots : Who → List ℕ) (drawn : ℕ) (aw : List Await) (some : 1 ≤ n) (few : drawn + 1 ≤ k)
    (f : Fits n ref v.items v.count v.awaited slots drawn aw) (named : AreNamed v.count v.names) (p q : Pool)
    (st : Stands n ref v.items v.count slots p.states) (alike : IsAlike p.states) (home : p.places session < n) (who : Who) (isin : IsIn n v.count who) (w : What) (t : ℕ) (low : t < n)
    (pl : (u : Who) → IsIn n v.count u → (u ≢ who) → p.places (at ref u) ≡ (v.items u).place) (here : p.places (at ref who) ≡ t)
    (wise : IsWhat w) (room : HasNameRoom (names_over (at ref) v.names) w) (new_name : IsNew kind_over (names_over (at ref) v.names) w)
    (fit_now : IsFit (desk_of (opened w (names_over (at ref) v.names)) (await drawn w ∷ aw))) (fit_old : IsFit (desk_of (names_over (at ref) v.names) aw))
    (desk : p.states session ≡ Some (session_state (drawn + 1) (desk_of (opened w (names_over (at ref) v.names)) (await drawn w ∷ aw))))
    (y : Content Datum) (good : IsGoodContent v.count y) (ours : IsOurs y) (sw : waiter y ≡ waiter (v.items who).held.content) where
  abbrev old : Content Datum
  old = (v.items who).held.content

  abbrev W : List What
  W = (v.items who).held.waiting

  abbrev ends_as : Effect Datum → Type 0
  ends_as e = Answering n k (end_then v who w t y e).plain (end_then v who w t y e).text q

  not_session : (kind : ℕ) (o : Id) → o.kind ≡ kind → kind ≢ 1 → same_object session o ≡ false
  not_session kind o e h = elim (cases_Bool (same_object session o)) [
    | inl g ↦ absurd (h (sym e ∙ sym (ap (λ (b : Id). b.kind) (same_object-true session o g))))
    | inr g ↦ g
  ]

  away : same_object session (at ref who) ≡ false
  away = not_session (v.items who).kind (at ref who) (f.kinds who isin) (f.apart who isin).0

  plain_waiter : (x : Content Datum) → IsPlainWhat (waiter x)
  plain_waiter Maker = tt
  plain_waiter _ = tt

  not_low : (s : ℕ) (u : Who) → IsIn n v.count u → Among s (slots u) → s ≢ drawn
  not_low s u i m e = let l : s < drawn = f.low u i s m in absurd (omega arith)

  -- ---- where nothing is made

  module _ (e : Effect Datum) (left : IsLeft ref n p q who (v.items who).kind t (slots who) drawn y e []) (none : makes_for (effect_seen (at ref) e) ≡ [])
      (items_are : with_made_item (set_item v.items who (item_then v who w t y e)) v.count t e ≡ set_item v.items who (item_then v who w t y e)) (counted : count_made e ≡ 0)
      (ys : List ℕ) (slots_are : slots_after e (slots who) drawn ≡ ys) (last : List Await)
      (change : IsChange n ref v.items v.count slots drawn aw who (item_then v who w t y e) ys (drawn + 1) (v.awaited + 1 - count_told (told_then v who w t y e)) last)
      (line : List ℕ) (total : ℕ) (told_named : AreNamed v.count (names_told (told_then v who w t y e) v.names))
      (fit_last : IsFit (desk_of (names_over (at ref) (names_told (told_then v who w t y e) v.names)) last))
      (coming : Coming line (names_over (at ref) (names_told (told_then v who w t y e) v.names)) last (opened w (names_over (at ref) v.names)) (await drawn w ∷ aw) (sets_after t [] (effect_seen (at ref) e) (slots who) drawn) total)
      (written : concat (times total line) ≡ text_told (told_then v who w t y e)) where
    states_now : (o : Id) → q.states o ≡ cond (same_object o (at ref who)) (Some (state_of 0 (held_over ref y ys))) (p.states o)
    states_now o =
        ap (λ g. g o) left.states
        ∙ (ap (λ xs. cond (same_object o (at ref who)) (Some (state_of 0 (held_over ref y xs))) (with_made p.states (makes_for (effect_seen (at ref) e)) [] o)) slots_are
        ∙ ap (λ ms. cond (same_object o (at ref who)) (Some (state_of 0 (held_over ref y ys))) (with_made p.states ms [] o)) none)

    places_now : (o : Id) → q.places o ≡ p.places o
    places_now o = ap (λ g. g o) left.places

    built : ends_as e
    built =
        let same_count : v.count + count_made e ≡ v.count = omega (arith, counted) in
        let P : ℕ → (Who → Item) → Type 0 = λ count items. Answering n k (record { names = names_told (told_then v who w t y e) v.names; items = items; count = count; awaited = v.awaited + 1 - count_told (told_then v who w t y e) }) (text_told (told_then v who w t y e)) q in
        subst (λ items. P (v.count + count_made e) items) (sym items_are) (subst (λ count. P count (set_item v.items who (item_then v who w t y e))) (sym same_count) (record {
          ref = ref;
          slots = set_slots slots who ys;
          drawn = drawn + 1;
          few = few;
          last = last;
          said = [];
          line = line;
          total = total;
          done = 0;
          left = total;
          names = opened w (names_over (at ref) v.names);
          awaited = await drawn w ∷ aw;
          named = told_named;
          fits = changed n ref v.items v.count v.awaited slots drawn aw f who isin (item_then v who w t y e) ys (drawn + 1) (v.awaited + 1 - count_told (told_then v who w t y e)) last change;
          stands = λ u i. states_now (at ref u) ∙ stands_set n ref v.items v.count v.awaited slots drawn aw f who isin (item_then v who w t y e) ys (drawn + 1) (v.awaited + 1 - count_told (told_then v who w t y e)) last change
              p.states (state_of 0 (held_over ref y ys)) st refl u i;
          placed = λ u i. places_now (at ref u) ∙ placed_set n ref v.items v.count v.awaited slots drawn aw f who isin (item_then v who w t y e) ys (drawn + 1) (v.awaited + 1 - count_told (told_then v who w t y e)) last change
              p.places here pl u i;
          alike = left.alike;
          home = let P : ℕ → Type 0 = λ h. h < n in subst P (sym (places_now session)) home;
          fit = fit_now;
          fit_last = fit_last;
          desk = states_now session ∙ (ap (λ b. cond b (Some (state_of 0 (held_over ref y ys))) (p.states session)) away ∙ desk);
          coming = subst (λ ms. Coming line (names_over (at ref) (names_told (told_then v who w t y e) v.names)) last (opened w (names_over (at ref) v.names)) (await drawn w ∷ aw) ms total) (sym left.pending) coming;
          count = omega arith;
          printed = left.printed;
          written = written;
        }))

  -- nothing changes but what it holds
  kept_change : (e : Effect Datum) → still e W (Some w) ≡ W → count_told (told_then v who w t y e) ≡ 1 → IsReadable n (v.items who).kind (held_over ref y (slots who))
      → IsChange n ref v.items v.count slots drawn aw who (item_then v who w t y e) (slots who) (drawn + 1) (v.awaited + 1 - count_told (told_then v who w t y e)) aw
  kept_change e same one shows = record {
    same_kind = refl;
    there = low;
    same_waiter = sw;
    good = good;
    ours = ours;
    readable = shows;
    size = f.sizes who isin ∙ ap length (sym same);
    alike = let P : What → List What → Type 0 = λ z xs. AllByRecursion (λ x. x ≡ z) xs in subst (P (waiter y)) (sym same) (subst (λ z. P z W) (sym sw) (f.alike who isin));
    held = f.held who isin;
    own = λ s m u i b. f.owner u who i isin s b m;
    distinct = f.distinct who isin;
    low = λ s m. let l : s < drawn = f.low who isin s m in omega arith;
    more = omega arith;
    others = λ u i d s m. refl;
    total = f.total ∙ (let z : v.awaited ≡ v.awaited + 1 - 1 = omega arith in z ∙ ap (λ m. v.awaited + 1 - m) (sym one));
  }

  all_end : {X : Type 0} (P : X → Type 0) (xs : List X) (x : X) → AllByRecursion P xs → P x → AllByRecursion P (xs ++ x ∷ [])
  all_end P [] x h g = (g, tt)
  all_end P (z ∷ xs) x h g = (h.0, all_end P xs x h.1 g)

  without_named : (count : ℕ) (name : List ℕ) (xs : List (Naming Datum)) → AreNamed count xs → AreNamed count (without name xs)
  without_named count name [] h = tt
  without_named count name (x ∷ xs) h =
      cond_both (bytes_eq name x.name) _ _ (AreNamed count) (λ e. h.1) (λ e. (h.0, without_named count name xs h.1))

  bound_named : (count : ℕ) (what : What) (u : Datum) (xs : List (Naming Datum)) → IsGood count u → AreNamed count xs → AreNamed count (answered (plain Who) what u xs)
  bound_named count NotSaid u xs g h = h
  bound_named count Told u xs g h = h
  bound_named count Released u xs g h = h
  bound_named count (Bound name) (Ref r) xs g h = all_end (IsNamed count) (without name xs) (record { name = name; to = Some (Ref r) }) (without_named count name xs h) (r, refl, g)
  bound_named count (Bound name) Nothing xs g h = without_named count name xs h
  bound_named count (Bound name) (Flag b) xs g h = without_named count name xs h
  bound_named count (Bound name) (Int z) xs g h = without_named count name xs h
  bound_named count (Bound name) (Text s) xs g h = without_named count name xs h
  bound_named count (Bound name) (Fault c) xs g h = without_named count name xs h
  bound_named count (Bound name) (Ints zs) xs g h = without_named count name xs h

  answered_fit : (r : ℕ → Id) (u : Datum) → names_over (at r) v.names ≡ names_over (at ref) v.names → IsFit (desk_of (names_over (at r) (answered (plain Who) w u v.names)) aw)
  answered_fit r u same =
      let is : names_over (at r) (answered (plain Who) w u v.names) ≡ answered (plain Id) w (mapped (at r) u) (names_over (at ref) v.names) =
      sym (answered_over (at r) w u v.names) ∙ ap (answered (plain Id) w (mapped (at r) u)) same in
      subst (λ ns. IsFit (desk_of ns aw)) (sym is) (record {
        names = answered_each w (mapped (at r) u) (names_over (at ref) v.names) wise fit_old.names;
        awaits = fit_old.awaits;
        few_names = answered_few w (mapped (at r) u) (names_over (at ref) v.names) room;
        few_awaits = fit_old.few_awaits;
      })

  -- one answer to the caller
  module _ (u : Datum) (value : Value Id) (r : ℕ → Id) (value_is : mapped (at r) u ≡ value) (same_names : names_over (at r) v.names ≡ names_over (at ref) v.names) where
    abbrev text : List ℕ
    text = answer_text w u

    said : says w value ≡ times (printed_times text).count text
    said = ap (λ x. says w x) (sym value_is) ∙ (ap printed (text_over (at r) w u) ∙ (printed_times text).is)

    then_names : answered (plain Id) w value (opened w (names_over (at ref) v.names)) ≡ names_over (at r) (answered (plain Who) w u v.names)
    then_names =
        opened_answered kind_over w value (names_over (at ref) v.names) new_name
        ∙ (ap (λ x. answered (plain Id) w x (names_over (at ref) v.names)) (sym value_is) ∙ (ap (answered (plain Id) w (mapped (at r) u)) (sym same_names) ∙ answered_over (at r) w u v.names))

    one_coming : Coming text (names_over (at r) (answered (plain Who) w u v.names)) aw (opened w (names_over (at ref) v.names)) (await drawn w ∷ aw) (set_of drawn value ∷ []) (printed_times text).count
    one_coming =
        last_coming text (names_over (at r) (answered (plain Who) w u v.names)) aw (opened w (names_over (at ref) v.names)) drawn w value (printed_times text).count said then_names
        fit_now.few_names (answered_fit r u same_names).few_names aw refl

    one_written : concat (times (printed_times text).count text) ≡ text ++ []
    one_written = ap concat (sym (printed_times text).is) ∙ (concat_printed text ∙ sym (append-nil text))

  answers_ends : (u : Datum) → IsGood v.count u → IsLeft ref n p q who (v.items who).kind t (slots who) drawn y (Answers u) [] → ends_as (Answers u)
  answers_ends u g left =
      built (Answers u) left refl refl refl (slots who) refl aw (kept_change (Answers u) refl refl left.readable) (answer_text w u) (printed_times (answer_text w u)).count
      (bound_named v.count w u v.names g named) (answered_fit ref u refl) (one_coming u (mapped (at ref) u) ref refl refl) (one_written u (mapped (at ref) u) ref refl refl)

  moves_ends : (to : ℕ) → IsLeft ref n p q who (v.items who).kind t (slots who) drawn y (Moves to) [] → ends_as (Moves to)
  moves_ends to left =
      built (Moves to) left refl refl refl (slots who) refl aw (kept_change (Moves to) refl refl left.readable) (answer_text w (place_datum t)) (printed_times (answer_text w (place_datum t))).count
      (bound_named v.count w (place_datum t) v.names refl named) (answered_fit ref (place_datum t) refl) (one_coming (place_datum t) (Int (pos t)) ref refl refl) (one_written (place_datum t) (Int (pos t)) ref refl refl)

  -- ---- the caller waits

  waits_change : w ≡ waiter old → IsReadable n (v.items who).kind (held_over ref y (slots who ++ drawn ∷ []))
      → IsChange n ref v.items v.count slots drawn aw who (item_then v who w t y Waits) (slots who ++ drawn ∷ []) (drawn + 1) (v.awaited + 1 - 0) (await drawn w ∷ aw)
  waits_change e shows = record {
    same_kind = refl;
    there = low;
    same_waiter = sw;
    good = good;
    ours = ours;
    readable = shows;
    size = let s : length (slots who) ≡ length W = f.sizes who isin in let a = length_end drawn (slots who) in let b = length-append W (w ∷ []) in omega arith;
    alike = subst (λ z. AllByRecursion (λ x. x ≡ z) (W ++ w ∷ [])) (sym sw) (all_end (λ x. x ≡ waiter old) W w (f.alike who isin) e);
    held = λ s m. elim (among_end s drawn (slots who) m) [
      | inl a ↦ held_past s drawn w aw (not_low s who isin a) ∙ f.held who isin s a
      | inr g ↦ subst (λ z. held_at z (await drawn w ∷ aw) ≡ Some (waiter old)) (sym g) (held_here drawn w aw ∙ ap (λ x. Some x) e)
    ];
    own = λ s m u i b. elim (among_end s drawn (slots who) m) [
      | inl a ↦ f.owner u who i isin s b a
      | inr g ↦ absurd (not_low s u i b g)
    ];
    distinct = distinct_end drawn (slots who) (λ m. not_low drawn who isin m refl) (f.distinct who isin);
    low = λ s m. elim (among_end s drawn (slots who) m) [
      | inl a ↦ let l : s < drawn = f.low who isin s a in omega arith
      | inr g ↦ omega arith
    ];
    more = omega arith;
    others = λ u i d s m. held_past s drawn w aw (not_low s u i m);
    total = let z : length aw ≡ v.awaited = f.total in omega arith;
  }

  waits_ends : w ≡ waiter old → IsLeft ref n p q who (v.items who).kind t (slots who) drawn y Waits [] → ends_as Waits
  waits_ends e left =
      let plainly : IsPlainWhat w = subst IsPlainWhat (sym e) (plain_waiter old) in
      let same : opened w (names_over (at ref) v.names) ≡ names_over (at ref) v.names = opened_plain w (names_over (at ref) v.names) plainly in
      built Waits left refl refl refl (slots who ++ drawn ∷ []) refl (await drawn w ∷ aw) (waits_change e left.readable) [] 0 named
      (subst (λ ns. IsFit (desk_of ns (await drawn w ∷ aw))) same fit_now) (refl, same, refl) refl

  -- ---- those that wait are told

  module _ (c : ℕ) (a u : Datum) (shows : IsReadable n (v.items who).kind (held_over ref y (drop c (slots who)))) where
    abbrev gone : List ℕ
    gone = take c (slots who)

    drop_alike : (i : ℕ) (ws : List What) (z : What) → AllByRecursion (λ x. x ≡ z) ws → AllByRecursion (λ x. x ≡ z) (drop i ws)
    drop_alike zero [] z h = tt
    drop_alike zero (x ∷ ws) z h = h
    drop_alike (suc i) [] z h = tt
    drop_alike (suc i) (x ∷ ws) z h = drop_alike i ws z h.1

    count_each : (ws : List What) (b : Datum) (more : List (Tolds Datum What)) → count_told (each b ws ++ more) ≡ length ws + count_told more
    count_each [] b more = omega arith
    count_each (x ∷ ws) b more = let rest = count_each ws b more in omega arith

    take_both : (i : ℕ) (xs : List ℕ) (ws : List What) → length xs ≡ length ws → length (take i xs) ≡ length (take i ws)
    take_both zero [] [] e = refl
    take_both zero [] (x ∷ ws) e = absurd (omega arith)
    take_both zero (x ∷ xs) [] e = absurd (omega arith)
    take_both zero (x ∷ xs) (z ∷ ws) e = refl
    take_both (suc i) [] [] e = refl
    take_both (suc i) [] (x ∷ ws) e = absurd (omega arith)
    take_both (suc i) (x ∷ xs) [] e = absurd (omega arith)
    take_both (suc i) (x ∷ xs) (z ∷ ws) e = ap suc (take_both i xs ws (omega arith))

    told_count : count_told (told_then v who w t y (Frees c a u)) ≡ length gone + 1
    told_count =
        let all = count_each (take c W) a (own (Some w) u) in
        let same = take_both c (slots who) W (f.sizes who isin) in omega arith

    frees_change : IsChange n ref v.items v.count slots drawn aw who (item_then v who w t y (Frees c a u)) (drop c (slots who)) (drawn + 1) (v.awaited + 1 - count_told (told_then v who w t y (Frees c a u))) (erased_all gone aw)
    frees_change = record {
      same_kind = refl;
      there = low;
      same_waiter = sw;
      good = good;
      ours = ours;
      readable = shows;
      size = let s : length (slots who) ≡ length W = f.sizes who isin in length-drop c (slots who) ∙ (ap (λ m. m - c) s ∙ sym (length-drop c W));
      alike = subst (λ z. AllByRecursion (λ x. x ≡ z) (drop c W)) (sym sw) (drop_alike c W (waiter old) (f.alike who isin));
      held = λ z m. held_all z gone aw (λ b. parted c z (slots who) (f.distinct who isin) b m) ∙ f.held who isin z (among_drop c z (slots who) m);
      own = λ z m u' i b. f.owner u' who i isin z b (among_drop c z (slots who) m);
      distinct = distinct_drop c (slots who) (f.distinct who isin);
      low = λ z m. let l : z < drawn = f.low who isin z (among_drop c z (slots who) m) in omega arith;
      more = omega arith;
      others = λ u' i d z m. held_all z gone aw (λ b. d (f.owner u' who i isin z m (among_take c z (slots who) b)));
      total =
          let l = length_all (waiter old) gone aw (distinct_take c (slots who) (f.distinct who isin)) (λ z m. f.held who isin z (among_take c z (slots who) m)) in
          let z : length aw ≡ v.awaited = f.total in
          let k' = told_count in omega arith;
    }

    same_names : (ws : List What) (b : Datum) (more : List (Tolds Datum What)) (ns : List (Naming Datum)) (z : What) → IsPlainWhat z → AllByRecursion (λ x. x ≡ z) ws → names_told (each b ws ++ more) ns ≡ names_told more ns
    same_names [] b more ns z g h = refl
    same_names (x ∷ ws) b more ns z g h =
        ap (λ m. names_told (each b ws ++ more) m) (ap (λ p'. answered (plain Who) p' b ns) h.0 ∙ plainly z b ns g) ∙ same_names ws b more ns z g h.1
      where
        plainly : (z : What) (b : Datum) (ns : List (Naming Datum)) → IsPlainWhat z → answered (plain Who) z b ns ≡ ns
        plainly NotSaid b ns g = refl
        plainly Told b ns g = refl
        plainly Released b ns g = refl
        plainly (Bound name) b ns g = absurd g

    take_alike : (i : ℕ) (ws : List What) (z : What) → AllByRecursion (λ x. x ≡ z) ws → AllByRecursion (λ x. x ≡ z) (take i ws)
    take_alike zero [] z h = tt
    take_alike zero (x ∷ ws) z h = tt
    take_alike (suc i) [] z h = tt
    take_alike (suc i) (x ∷ ws) z h = (h.0, take_alike i ws z h.1)

    same_texts : (ws : List What) (b : Datum) (more : List (Tolds Datum What)) (z : What) (j : ℕ) (line : List ℕ) → AllByRecursion (λ x. x ≡ z) ws → printed (answer_text z b) ≡ times j line
        → text_told (each b ws ++ more) ≡ concat (times (length ws * j) line) ++ text_told more
    same_texts [] b more z j line h g = ap (λ m. concat (times m line) ++ text_told more) (let e : 0 ≡ 0 * j = omega arith in e)
    same_texts (x ∷ ws) b more z j line h g =
        ap (λ p'. answer_text p' b ++ text_told (each b ws ++ more)) h.0
        ∙ (ap (λ s. s ++ text_told (each b ws ++ more)) (sym (concat_printed (answer_text z b)) ∙ ap concat g)
        ∙ (ap (λ s. concat (times j line) ++ s) (same_texts ws b more z j line h.1 g)
        ∙ (sym (append_assoc (concat (times j line)) (concat (times (length ws * j) line)) (text_told more))
        ∙ ap (λ s. s ++ text_told more) (sym (concat-append (times j line) (times (length ws * j) line))
        ∙ ap concat (times_add j (length ws * j) line ∙ ap (λ m. times m line) (let e : j + length ws * j ≡ suc (length ws) * j = omega arith in e))))))

    erased_fit : (xs : List ℕ) (ys : List Await) → AllByRecursion IsFitAwait ys → AllByRecursion IsFitAwait (erased_all xs ys) × (length (erased_all xs ys) ≤ length ys)
    unfolding erased_all
    erased_fit [] ys h = (h, omega arith)
    erased_fit (x ∷ xs) ys h =
        let one = erased_once x ys h in
        let rest = erased_fit xs (erased x ys) one.0 in
        let l = rest.1 in
        let m = one.1 in
        (rest.0, omega arith)
      where
        erased_once : (x : ℕ) (ys : List Await) → AllByRecursion IsFitAwait ys → AllByRecursion IsFitAwait (erased x ys) × (length (erased x ys) ≤ length ys)
        erased_once x [] h = (tt, omega arith)
        erased_once x (y ∷ ys) h =
            let rest = erased_once x ys h.1 in
            let l = rest.1 in
            cond_both (eqb x y.slot) _ _ (λ zs. AllByRecursion IsFitAwait zs × (length zs ≤ suc (length ys))) (λ e. (h.1, omega arith)) (λ e. ((h.0, rest.0), omega arith))

    frees_ends : IsPlainWhat w → (answer_text w u ≡ []) ⊎ (answer_text w u ≡ answer_text (waiter old) a) → IsLeft ref n p q who (v.items who).kind t (slots who) drawn y (Frees c a u) [] → ends_as (Frees c a u)
    frees_ends plainly says_so left =
        let line : List ℕ = answer_text (waiter old) a in
        let j : IsTimes (printed line) line = printed_times line in
        let b : IsTimes (printed (answer_text w u)) line = own_times says_so in
        let names_same : names_told (told_then v who w t y (Frees c a u)) v.names ≡ v.names =
        same_names (take c W) a (own (Some w) u) v.names (waiter old) (plain_waiter old) (take_alike c W (waiter old) (f.alike who isin)) ∙ own_names w u v.names plainly in
        let same : opened w (names_over (at ref) v.names) ≡ names_over (at ref) v.names = opened_plain w (names_over (at ref) v.names) plainly in
        let fit_gone = erased_fit gone aw fit_old.awaits in
        let fewer = fit_gone.1 in
        let most = fit_old.few_awaits in
        let fit_then : IsFit (desk_of (names_over (at ref) v.names) (erased_all gone aw)) =
        record { names = fit_old.names; awaits = fit_gone.0; few_names = fit_old.few_names; few_awaits = omega arith } in
        built (Frees c a u) left refl refl refl (drop c (slots who)) refl (erased_all gone aw) frees_change line (length gone * j.count + b.count)
        (subst (AreNamed v.count) (sym names_same) named)
        (subst (λ ns. IsFit (desk_of (names_over (at ref) ns) (erased_all gone aw))) (sym names_same) fit_then)
        (subst (λ ns. Coming line (names_over (at ref) ns) (erased_all gone aw) (opened w (names_over (at ref) v.names)) (await drawn w ∷ aw) (sets_after t [] (effect_seen (at ref) (Frees c a u)) (slots who) drawn) (length gone * j.count + b.count)) (sym names_same)
        (all_coming line (names_over (at ref) v.names) (erased_all gone aw) (opened w (names_over (at ref) v.names)) drawn w (mapped (at ref) u) b.count
        (ap printed (text_over (at ref) w u) ∙ b.is)
        (opened_answered kind_over w (mapped (at ref) u) (names_over (at ref) v.names) new_name ∙ own_names_id w (mapped (at ref) u) (names_over (at ref) v.names) plainly)
        fit_now.few_names fit_old.few_names (waiter old) (mapped (at ref) a) j.count (plain_waiter old) (ap printed (text_over (at ref) (waiter old) a) ∙ j.is) gone aw (distinct_take c (slots who) (f.distinct who isin))
        (λ z m. f.held who isin z (among_take c z (slots who) m)) (λ z m. not_low z who isin (among_take c z (slots who) m)) refl))
        (written_is line j b)
      where
        own_times : (answer_text w u ≡ []) ⊎ (answer_text w u ≡ answer_text (waiter old) a) → IsTimes (printed (answer_text w u)) (answer_text (waiter old) a)
        own_times (inl e) = record { count = 0; is = ap printed e }
        own_times (inr e) = record { count = (printed_times (answer_text (waiter old) a)).count; is = ap printed e ∙ (printed_times (answer_text (waiter old) a)).is }

        own_names : (z : What) (b : Datum) (ns : List (Naming Datum)) → IsPlainWhat z → answered (plain Who) z b ns ≡ ns
        own_names NotSaid b ns g = refl
        own_names Told b ns g = refl
        own_names Released b ns g = refl
        own_names (Bound name) b ns g = absurd g

        own_names_id : (z : What) (b : Value Id) (ns : List (Naming (Value Id))) → IsPlainWhat z → answered (plain Id) z b ns ≡ ns
        own_names_id NotSaid b ns g = refl
        own_names_id Told b ns g = refl
        own_names_id Released b ns g = refl
        own_names_id (Bound name) b ns g = absurd g

        written_is : (line : List ℕ) (j : IsTimes (printed (answer_text (waiter old) a)) line) (b : IsTimes (printed (answer_text w u)) line)
            → concat (times (length gone * j.count + b.count) line) ≡ text_told (told_then v who w t y (Frees c a u))
        written_is line j b =
            let both : length gone ≡ length (take c W) = take_both c (slots who) W (f.sizes who isin) in
            sym (same_texts (take c W) a (own (Some w) u) (waiter old) j.count line (take_alike c W (waiter old) (f.alike who isin)) j.is
            ∙ (ap (λ s. concat (times (length (take c W) * j.count) line) ++ s) (append-nil (answer_text w u) ∙ (sym (concat_printed (answer_text w u)) ∙ ap concat b.is))
            ∙ (sym (concat-append (times (length (take c W) * j.count) line) (times b.count line))
            ∙ ap concat (times_add (length (take c W) * j.count) b.count line ∙ ap (λ m. times (m * j.count + b.count) line) (sym both)))))

  -- ---- something is made

  module _ (z : Content Datum) (o : Id) (good_z : IsGoodContent v.count z) (born : IsBorn (content_seen (at ref) z)) (ours_z : IsOurs z)
      (left : IsLeft ref n p q who (v.items who).kind t (slots who) drawn y (Makes z) (o ∷ [])) where
    kind_seen : (x : Content Datum) → kind_of (content_seen (at ref) x) ≡ kind_of x
    kind_seen Maker = refl
    kind_seen _ = refl

    unknown : p.states o ≡ None
    unknown = left.new.2

    kind_is : o.kind ≡ kind_of z
    kind_is = left.new.0 ∙ kind_seen z

    fresh : (x : Id) → same_object x o ≡ true → p.states x ≡ None
    fresh x e = alike x o e ∙ unknown

    new_apart : (x : Id) (s : State) → p.states x ≡ Some s → same_object x o ≡ false
    new_apart x s e = elim (cases_Bool (same_object x o)) [
      | inl g ↦ let c : Some s ≡ None = sym e ∙ fresh x g in cc
      | inr g ↦ g
    ]

    abbrev changed_now : Fits n ref (set_item v.items who (item_then v who w t y (Makes z))) v.count (v.awaited + 1 - 1) (set_slots slots who (slots who)) (drawn + 1) aw
    changed_now = changed n ref v.items v.count v.awaited slots drawn aw f who isin (item_then v who w t y (Makes z)) (slots who) (drawn + 1) (v.awaited + 1 - 1) aw (kept_change (Makes z) refl refl left.readable)

    abbrev states_mid : Id → Option State
    states_mid x = cond (same_object x (at ref who)) (Some (state_of 0 (held_over ref y (slots who)))) (p.states x)

    stands_mid : Stands n ref (set_item v.items who (item_then v who w t y (Makes z))) v.count (set_slots slots who (slots who)) states_mid
    stands_mid = stands_set n ref v.items v.count v.awaited slots drawn aw f who isin (item_then v who w t y (Makes z)) (slots who) (drawn + 1) (v.awaited + 1 - 1) aw (kept_change (Makes z) refl refl left.readable)
        p.states (state_of 0 (held_over ref y (slots who))) st refl

    who_apart : same_object (at ref who) o ≡ false
    who_apart = new_apart (at ref who) (state_of 0 (held_over ref old (slots who))) (st who isin)

    new_away : same_object o (at ref who) ≡ false
    new_away = elim (cases_Bool (same_object o (at ref who))) [
      | inl g ↦ let c : true ≡ false = sym (same_object-sym o (at ref who) g) ∙ who_apart in cc
      | inr g ↦ g
    ]

    fresh_mid : (x : Id) → same_object x o ≡ true → states_mid x ≡ None
    fresh_mid x e =
        ap (λ b. cond b (Some (state_of 0 (held_over ref y (slots who)))) (p.states x)) (same_object-from x o (at ref who) e ∙ new_away) ∙ fresh x e

    abbrev made_item : Item
    made_item = record { kind = kind_of z; place = t; held = record { content = z; waiting = [] } }

    abbrev the_thing : Datum
    the_thing = Ref (Thing v.count)

    -- a made kind is neither the session's nor the plain one
    made_apart : (x : Content Datum) → IsOurs x → (kind_of x ≢ 1) × (kind_of x ≢ 7)
    made_apart (Dataflow code inputs given) h = absurd h
    made_apart (Started code inputs) h = absurd h
    made_apart (Unreadable vs) h = absurd h
    made_apart _ h = ((λ e. absurd (omega arith)), (λ e. absurd (omega arith)))

    readable_new : IsReadable n (kind_of z) (held_over ref z [])
    readable_new = subst (λ i. IsReadable n i (held_over ref z [])) (kind_seen z) (born.2 n)

    birth_is : birth_state (record { kind = kind_of (content_seen (at ref) z); values = numbered 0 (layout (plain Id) (content_seen (at ref) z)) }) ≡ state_of 0 (held_over ref z [])
    birth_is = born_state (content_seen (at ref) z) born.1
      where
        born_state : (x : Content (Value Id)) → IsBlank x → birth_state (record { kind = kind_of x; values = numbered 0 (layout (plain Id) x) }) ≡ state_of 0 (record { content = x; waiting = [] })
        born_state (Number i) h = refl
        born_state (Row zs) h = refl
        born_state (Promise None) h = refl
        born_state (Promise (Some a)) h = absurd h
        born_state (Channel closed []) h = refl
        born_state (Channel closed (a ∷ kept)) h = absurd h
        born_state (Latch i) h = refl
        born_state (Barrier i) h = refl
        born_state (Table pairs) h = absurd h
        born_state Maker h = absurd h
        born_state (Size i) h = absurd h
        born_state (Dataflow code inputs given) h = absurd h
        born_state (Started code inputs) h = absurd h
        born_state (Unreadable vs) h = absurd h

    named_more : (xs : List (Naming Datum)) → AreNamed v.count xs → AreNamed (v.count + 1) xs
    named_more [] h = tt
    named_more (x ∷ xs) h = ((h.0.0, h.0.1, value_more v.count (Ref h.0.0) h.0.2), named_more xs h.1)

    names_more : (xs : List (Naming Datum)) → AreNamed v.count xs → names_over (at (more_ref ref v.count o)) xs ≡ names_over (at ref) xs
    names_more [] h = refl
    names_more (x ∷ xs) h =
        ap (λ (to : Option (Value Id)). record { name = x.name; to = to } ∷ names_over (at (more_ref ref v.count o)) xs) (to_more x.to h.0)
        ∙ ap (λ (ns : List (Naming (Value Id))). record { name = x.name; to = option_map (mapped (at ref)) x.to } ∷ ns) (names_more xs h.1)
      where
        to_more : (to : Option Datum) → (u : Who) × (to ≡ Some (Ref u)) × IsGood v.count (Ref u) → option_map (mapped (at (more_ref ref v.count o))) to ≡ option_map (mapped (at ref)) to
        to_more None g = absurd (let e = g.1 in cc)
        to_more (Some a) g =
            let same : a ≡ Ref g.0 = let e = g.1 in cc in
            ap (λ b. Some b) (value_over v.count (at (more_ref ref v.count o)) (at ref) a (subst (IsGood v.count) (sym same) g.2) (at_kept ref v.count o))

    any_one : (a b : Id) (c : Bool) → same_object a b ≡ c → list_any (same_object a) (b ∷ []) ≡ c
    any_one a b true e = rw e refl
    any_one a b false e = rw e refl

    birth_make : Make
    birth_make = record { kind = kind_of (content_seen (at ref) z); values = numbered 0 (layout (plain Id) (content_seen (at ref) z)) }

    states_at : (x : Id) → q.states x ≡ cond (same_object x (at ref who)) (Some (state_of 0 (held_over ref y (slots who)))) (cond (same_object x o) (Some (state_of 0 (held_over ref z []))) (p.states x))
    states_at x =
        ap (λ g. g x) left.states
        ∙ ap (λ b. cond (same_object x (at ref who)) (Some (state_of 0 (held_over ref y (slots who)))) (cond (same_object x o) (Some b) (p.states x))) birth_is

    states_other : (x : Id) (s : State) → p.states x ≡ Some s → q.states x ≡ states_mid x
    states_other x s e =
        states_at x ∙ ap (λ b. cond (same_object x (at ref who)) (Some (state_of 0 (held_over ref y (slots who)))) (cond b (Some (state_of 0 (held_over ref z []))) (p.states x))) (new_apart x s e)

    states_new : q.states o ≡ Some (state_of 0 (held_over ref z []))
    states_new =
        states_at o
        ∙ (ap (λ b. cond b (Some (state_of 0 (held_over ref y (slots who)))) (cond (same_object o o) (Some (state_of 0 (held_over ref z []))) (p.states o))) new_away
        ∙ ap (λ b. cond b (Some (state_of 0 (held_over ref z []))) (p.states o)) (same_object-refl o))

    places_at : (x : Id) (b : Bool) → same_object x o ≡ b → q.places x ≡ cond b t (p.places x)
    places_at x b e = ap (λ g. g x) left.places ∙ ap (λ c. cond c t (p.places x)) (any_one x o b e)

    makes_ends : ends_as (Makes z)
    makes_ends = record {
      ref = more_ref ref v.count o;
      slots = set_slots (set_slots slots who (slots who)) (Thing v.count) [];
      drawn = drawn + 1;
      few = few;
      last = aw;
      said = [];
      line = answer_text w the_thing;
      total = (printed_times (answer_text w the_thing)).count;
      done = 0;
      left = (printed_times (answer_text w the_thing)).count;
      names = opened w (names_over (at ref) v.names);
      awaited = await drawn w ∷ aw;
      named = bound_named (v.count + 1) w the_thing v.names (thing_good (v.count + 1) v.count (omega arith)) (named_more v.names named);
      fits = grown n ref (set_item v.items who (item_then v who w t y (Makes z))) v.count (v.awaited + 1 - 1) (set_slots slots who (slots who)) (drawn + 1) aw changed_now states_mid stands_mid
          o fresh_mid made_item refl kind_is (made_apart z ours_z) low good_z ours_z readable_new;
      stands = stands_more n ref (set_item v.items who (item_then v who w t y (Makes z))) v.count (v.awaited + 1 - 1) (set_slots slots who (slots who)) (drawn + 1) aw changed_now states_mid stands_mid
          o fresh_mid made_item refl kind_is (made_apart z ours_z) low good_z ours_z readable_new q.states states_new (λ u i. states_other (at ref u) (state_of 0 (held_over ref (v.items u).held.content (slots u))) (st u i));
      placed = placed_more n ref (set_item v.items who (item_then v who w t y (Makes z))) v.count (v.awaited + 1 - 1) (set_slots slots who (slots who)) (drawn + 1) aw changed_now states_mid stands_mid
          o fresh_mid made_item refl kind_is (made_apart z ours_z) low good_z ours_z readable_new q.places (places_at o true (same_object-refl o))
          (λ u i. places_at (at ref u) false (new_apart (at ref u) (state_of 0 (held_over ref (v.items u).held.content (slots u))) (st u i))
          ∙ placed_set n ref v.items v.count v.awaited slots drawn aw f who isin (item_then v who w t y (Makes z)) (slots who) (drawn + 1) (v.awaited + 1 - 1) aw (kept_change (Makes z) refl refl left.readable) p.places here pl u i);
      alike = left.alike;
      home = let P : ℕ → Type 0 = λ h. h < n in subst P (sym (places_at session false (new_apart session _ desk))) home;
      fit = fit_now;
      fit_last = answered_fit (more_ref ref v.count o) the_thing (names_more v.names named);
      desk = states_other session _ desk ∙ (ap (λ b. cond b (Some (state_of 0 (held_over ref y (slots who)))) (p.states session)) away ∙ desk);
      coming = subst (λ ms. Coming (answer_text w the_thing) (names_over (at (more_ref ref v.count o)) (answered (plain Who) w the_thing v.names)) aw (opened w (names_over (at ref) v.names)) (await drawn w ∷ aw) ms (printed_times (answer_text w the_thing)).count)
          (sym left.pending) (one_coming the_thing (Ref o) (more_ref ref v.count o) (ap (λ i. Ref i) (at_new ref v.count o)) (names_more v.names named));
      count = omega arith;
      printed = left.printed;
      written = one_written the_thing (Ref o) (more_ref ref v.count o) (ap (λ i. Ref i) (at_new ref v.count o)) (names_more v.names named);
    }

  pub effect_ends : (e : Effect Datum) (made : List Id) → Said (waiter old) w e → effect_seen (kept_who v.count) e ≡ e
      → ((z : Content Datum) → e ≡ Makes z → IsBorn (content_seen (at ref) z) × IsOurs z)
      → IsLeft ref n p q who (v.items who).kind t (slots who) drawn y e made → ends_as e
  effect_ends Silent made h g born left = absurd h
  effect_ends (Answers u) made h g born left = answers_ends u (let e : mapped (kept_who v.count) u ≡ u = cc in e) (none_made (Answers u) made refl left)
    where
      none_made : (e : Effect Datum) (made : List Id) → makes_for (effect_seen (at ref) e) ≡ [] → IsLeft ref n p q who (v.items who).kind t (slots who) drawn y e made → IsLeft ref n p q who (v.items who).kind t (slots who) drawn y e []
      none_made e [] m l = l
      none_made e (o ∷ made) m l = absurd (subst (λ ms. AreNew p.states t ms (o ∷ made)) m l.new)
  effect_ends Waits made h g born left = waits_ends h (none_made made left)
    where
      none_made : (made : List Id) → IsLeft ref n p q who (v.items who).kind t (slots who) drawn y Waits made → IsLeft ref n p q who (v.items who).kind t (slots who) drawn y Waits []
      none_made [] l = l
      none_made (o ∷ made) l = absurd l.new
  effect_ends (Frees c a u) made h g born left = frees_ends c a u (none_made made left).readable h.0 h.1 (none_made made left)
    where
      none_made : (made : List Id) → IsLeft ref n p q who (v.items who).kind t (slots who) drawn y (Frees c a u) made → IsLeft ref n p q who (v.items who).kind t (slots who) drawn y (Frees c a u) []
      none_made [] l = l
      none_made (o ∷ made) l = absurd l.new
  effect_ends (Starts code args) made h g born left = absurd h
  effect_ends (Hands code args u) made h g born left = absurd h
  effect_ends (Moves to) made h g born left = moves_ends to (none_made made left)
    where
      none_made : (made : List Id) → IsLeft ref n p q who (v.items who).kind t (slots who) drawn y (Moves to) made → IsLeft ref n p q who (v.items who).kind t (slots who) drawn y (Moves to) []
      none_made [] l = l
      none_made (o ∷ made) l = absurd l.new
  effect_ends (Makes z) [] h g born left = absurd left.new
  effect_ends (Makes z) (o ∷ []) h g born left =
      makes_ends z o (let e : content_seen (kept_who v.count) z ≡ z = cc in e) (born z refl).0 (born z refl).1 left
  effect_ends (Makes z) (o ∷ x ∷ made) h g born left = absurd left.new.4
