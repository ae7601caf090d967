-- A commit in work: its objects are made, its ids are halved and asked for, one after another.
use Rattle.hpx_steps.proofs.Common.{AllByRecursion, AreWithin, Ask, Asked, AskedFor, Born, Event, HasLeastCredit, Id, IsBirth, Lasts, List, Make, None, Option, Rules, Some, Split, Stock, Tables, Turn, Waits, [], ahead_from, ap, append-nil, append_assoc, arith, asked_at, asked_events, bare, bare_id, birth_of, birth_state, births_of, cuts, cuts_of, drop, drop_at, first_cuts, half, halves_taken, halvings, halvings_have, halvings_need, halvings_same, id_at, ids_named, ids_of, length, length-append, length-set, log_of, map, named, objects_of, option_map, plus_one, records_of, refl, replaced, session, set, slice_get, splits_from, stripped, subst, suc, sym, take-append-le, take_half, take_halves, with_asks, with_mail, zero, ℕ, ◌++◌, ◌+◌, ◌-◌, ◌<◌, ◌^◌, ◌∙◌, ◌∷◌, ◌≡◌, ◌≤◌}
use Rattle.hpx_steps.proofs.Tools.{at_place, held_by, ids_append, none_tokens, place_at}
use Rattle.hpx_steps.proofs.Handled.{Writing, writes_append}

-- the first commit in work has this hand
abbrev pub with_hand : Waits → List Waits → List Id → Turn → Turn
with_hand w rest hand s = record s { working = record w { hand = hand } ∷ rest }

next_make : (before xs : List Make) (x : Make) → slice_get (before ++ x ∷ xs) (length before) ≡ Some x
next_make [] xs x = refl
next_make (y ∷ before) xs x = next_make before xs x

-- ---- objects are made

-- all of these are made: their ids are in the hand, between these
abbrev pub with_births : Waits → List Waits → List Id → List Id → List Make → Option Event → Turn → Turn
with_births w rest front back xs l s = record s {
  fresh = s.fresh ++ map bare (ids_of s.tables.here s.tables.births s.tables.profile.credit_log (map birth_of xs));
  working = record w { hand = front ++ (ids_of s.tables.here s.tables.births s.tables.profile.credit_log (map birth_of xs) ++ back) } ∷ rest;
  last = l;
  tables = record s.tables {
    births = s.tables.births + length xs;
    records = s.tables.records ++ records_of s.tables.here s.tables.births s.tables.profile.credit_log (map birth_of xs);
    objects = s.tables.objects ++ objects_of s.tables.here s.tables.births (map birth_of xs);
  };
}

pub births_steps : (r : Rules) (s : Turn) (w : Waits) (rest : List Waits) (front later back : List Id) (before xs : List Make) → s.due ≡ [] → w.asked ≡ []
    → w.outcome.makes ≡ before ++ xs → length before ≡ length s.fresh → length later ≡ length xs → AllByRecursion (λ (id : Id). id.log ≡ None) later
    → length (ids_named w) ≤ length front → AllByRecursion IsBirth (map birth_of xs)
    → (l : Option Event) × Writing r (with_hand w rest (front ++ (later ++ back)) s) (births_of s.tables.here s.tables.births (map birth_of xs))
    (with_births w rest front back xs l s)
births_steps r s w rest front [] back before [] due lacks makes many same none long fit =
    (s.last, ends)
  where
    ends : with_births w rest front back [] s.last s ≡ with_hand w rest (front ++ back) s
    ends = let none : s.tables.births + 0 ≡ s.tables.births = omega arith in rw none (simp append-nil)
births_steps r s w rest front (y ∷ ys) back before [] due lacks makes many same none long fit = absurd (omega (arith, same))
births_steps r s w rest front [] back before (x ∷ xs) due lacks makes many same none long fit = absurd (omega (arith, same))
births_steps r s w rest front (y ∷ ys) back before (x ∷ xs) due lacks makes many same none long fit =
    let o : Id = bare_id s.tables.here x.kind (s.tables.births + 1) in
    let id : Id = record o { log = Some s.tables.profile.credit_log } in
    let e : Event = Born o (birth_state x) in
    let m : Turn = record s {
      fresh = s.fresh ++ o ∷ [];
      last = Some e;
      tables = record s.tables {
        births = s.tables.births + 1;
        records = s.tables.records ++ record { gid = o; count = 2 ^ s.tables.profile.credit_log; place = s.tables.here; moving = None } ∷ [];
        objects = s.tables.objects ++ record { object = o; state = birth_state x } ∷ [];
      };
    } in
    let more = births_steps r m w rest (front ++ id ∷ []) ys back (before ++ x ∷ []) xs due lacks
    (makes ∙ sym (append_assoc before (x ∷ []) xs))
    (omega (arith, length-append before (x ∷ []), length-append s.fresh (o ∷ []), many)) (omega (arith, same)) none.1
    (omega (arith, long, length-append front (id ∷ []))) fit.1 in
    let hand : front ++ id ∷ (ys ++ back) ≡ (front ++ id ∷ []) ++ (ys ++ back) = sym (append_assoc front (id ∷ []) (ys ++ back)) in (
      more.0,
      (
        with_hand w rest (front ++ id ∷ (ys ++ back)) m,
        record {
          due = due;
          w = record w { hand = front ++ (y ∷ (ys ++ back)) };
          rest = rest;
          works = refl;
          make = x;
          next = ap (λ zs. slice_get zs (length s.fresh)) makes ∙ (ap (λ n. slice_get (before ++ x ∷ xs) n) (sym many) ∙ next_make before xs x);
          fit = fit.0;
          lacks = lacks;
          object = refl;
          begins = refl;
          hand = front ++ id ∷ (ys ++ back);
          own = take-append-le (length (ids_named w)) front (id ∷ (ys ++ back)) long ∙ sym (take-append-le (length (ids_named w)) front (y ∷ (ys ++ back)) long);
          more = λ f. omega (
            arith,
            ids_append f front (id ∷ (ys ++ back)),
            ids_append f front (y ∷ (ys ++ back)),
            ids_append f (id ∷ []) (ys ++ back),
            ids_append f (y ∷ []) (ys ++ back),
            held_by f id s.tables.profile.credit_log refl,
            none_tokens f (y ∷ []) (none.0, tt),
          );
          now = refl;
        },
        (let births : (s.tables.births + 1) + length xs ≡ s.tables.births + suc (length xs) = omega arith in rw births at (simp append_assoc at more.1)),
      ),
    )

-- ---- an id is halved

-- as often, one half behind all each time
pub halves_steps : (r : Rules) (s : Turn) (w : Waits) (rest : List Waits) (k p : ℕ) (st : Stock) (log : ℕ) → s.due ≡ [] → w.asked ≡ [] → p < length st.hand → (id_at st.hand p).log ≡ Some log → k ≤ log
    → (l : Option Event) × Writing r (with_hand w rest st.hand s) (cuts (id_at st.hand p) (suc k)) (record (with_hand w rest (take_halves k p st).hand s) { last = l })
halves_steps r s w rest zero p st log due lacks inside has enough = (s.last, refl)
halves_steps r s w rest (suc k) p st log due lacks inside has enough =
    let id : Id = id_at st.hand p in
    let e : Event = Split (bare id) (log_of id.log) in
    let m : Turn = record s { last = Some e } in
    let next : Stock = take_half p st in
    let part : id_at next.hand p ≡ half id = half_there st.hand (half id ∷ []) p (half id) inside in
    let less : (half id).log ≡ Some (log - 1) = ap (λ x. option_map (λ (n : ℕ). n - 1) x) has in
    let more = halves_steps r m w rest k p next (log - 1) due lacks
    (omega (arith, inside, length-set st.hand p (half id), length-append (set st.hand p (half id)) (half id ∷ []))) (ap (λ (x : Id). x.log) part ∙ less) (omega (arith, enough)) in (
      more.0,
      (
        with_hand w rest next.hand m,
        record {
          due = due;
          w = record w { hand = st.hand };
          rest = rest;
          works = refl;
          p = p;
          id = id;
          holds = place_at st.hand p inside;
          object = refl;
          has = has ∙ ap (λ x. Some (log_of x)) (sym has);
          enough = omega (arith, enough, ap log_of has);
          lacks = lacks;
          now = refl;
        },
        subst (λ x. Writing r (with_hand w rest next.hand m) (cuts x (suc k)) (record (with_hand w rest (take_halves k p next).hand m) { last = more.0 })) part more.1,
      ),
    )
  where
    half_there : (ids more : List Id) (q : ℕ) (y : Id) → q < length ids → id_at (set ids q y ++ more) q ≡ y
    half_there [] more q y lt = absurd (omega (arith, lt))
    half_there (z ∷ zs) more zero y lt = refl
    half_there (z ∷ zs) more (suc q) y lt = half_there zs more q y (omega (arith, lt))

-- ---- a hand is split ahead

-- where the log allows none, there is nothing to do
halves_any : (r : Rules) (s : Turn) (w : Waits) (rest : List Waits) (k p : ℕ) (st : Stock) → s.due ≡ [] → w.asked ≡ [] → p < length st.hand → k ≤ log_of (id_at st.hand p).log
    → (l : Option Event) × Writing r (with_hand w rest st.hand s) (cuts (id_at st.hand p) (suc k)) (record (with_hand w rest (take_halves k p st).hand s) { last = l })
halves_any r s w rest zero p st due lacks inside enough = (s.last, refl)
halves_any r s w rest (suc k) p st due lacks inside enough = each (id_at st.hand p).log refl enough
  where
    each : (lg : Option ℕ) → (id_at st.hand p).log ≡ lg → suc k ≤ log_of lg
        → (l : Option Event) × Writing r (with_hand w rest st.hand s) (cuts (id_at st.hand p) (suc (suc k))) (record (with_hand w rest (take_halves (suc k) p st).hand s) { last = l })
    each None is few = absurd (omega (arith, few))
    each (Some log) is few = halves_steps r s w rest (suc k) p st log due lacks inside is few

-- from place p on the stock is still that of the beginning
abbrev pub IsAsBefore : ℕ → List Id → List ℕ → Stock → Type 0
IsAsBefore p hand places st = (q : ℕ) → p ≤ q → q < length hand → (id_at st.hand q ≡ id_at hand q) × (named st.places q ≡ named places q)

-- so many places, from place p on, are halved for all who name them
abbrev pub halved_from : ℕ → ℕ → Stock → Stock
halved_from zero p st = st
halved_from (suc n) p st = halved_from n (p + 1) (take_halves (named st.places p - 1) p st)

-- the id at a place is halved, and then what is left
module _ (r : Rules) (w : Waits) (rest : List Waits) (hand : List Id) (places : List ℕ) (lacks : w.asked ≡ []) where
  drop_all : (p : ℕ) (ids : List Id) → length ids ≤ p → drop p ids ≡ []
  drop_all zero [] le = refl
  drop_all zero (x ∷ xs) le = absurd (omega (arith, le))
  drop_all (suc p) [] le = refl
  drop_all (suc p) (x ∷ xs) le = drop_all p xs (omega (arith, le))

  drop_place : (p : ℕ) → p < length hand → drop p hand ≡ id_at hand p ∷ drop (p + 1) hand
  drop_place p lt = drop_at hand p session lt ∙ ap (λ n. id_at hand p ∷ drop n hand) (plus_one p)

  -- what stays behind it
  behind : (h p : ℕ) (st : Stock) → p < length st.hand → AreWithin st.hand st.places → h ≤ named st.places p - 1 → length hand ≤ length st.hand → IsAsBefore p hand places st
      → AreWithin (take_halves h p st).hand (take_halves h p st).places × (length hand ≤ length (take_halves h p st).hand) × IsAsBefore (p + 1) hand places (take_halves h p st)
  behind h p st inside within few long same =
      let k = halves_taken h p st inside within few in (
        k.same.objects.within,
        omega (arith, k.size, long),
        λ q le lt.
            let old = same q (omega (arith, le)) lt in
            let stays = k.rest q (λ e. absurd (omega (arith, e, le))) (omega (arith, lt, long)) in
            (stays.part ∙ old.0, omega (arith, stays.others, old.1)),
      )

  pub ahead_steps : (s : Turn) (n p : ℕ) (st : Stock) → s.due ≡ [] → p + n ≤ length hand → AreWithin st.hand st.places → length hand ≤ length st.hand → IsAsBefore p hand places st
      → (l : Option Event) × Writing r (with_hand w rest st.hand s) (first_cuts n p (drop p hand) places) (record (with_hand w rest (ahead_from n p st).hand s) { last = l })
  ahead_steps s zero p st due le within long same = (s.last, refl)
  ahead_steps s (suc n) p st due le within long same =
      let inside : p < length hand = omega (arith, le) in
      let here = same p (omega arith) inside in
      let h : ℕ = halvings (id_at st.hand p) (named st.places p) in
      let h_is : halvings (id_at st.hand p) (named st.places p) ≡ halvings (id_at hand p) (named places p) = halvings_same (id_at st.hand p) (id_at hand p) (named st.places p) (named places p) here.0 here.1 in
      let next : Stock = take_halves h p st in
      let after = behind h p st (omega (arith, inside, long)) within (halvings_need (id_at st.hand p) (named st.places p)) long same in
      let one = halves_any r s w rest h p st due lacks (omega (arith, inside, long)) (halvings_have (id_at st.hand p) (named st.places p)) in
      let more = ahead_steps (record s { last = one.0 }) n (p + 1) next due (omega (arith, le)) after.0 after.1 after.2 in
      let first : cuts (id_at st.hand p) (suc h) ≡ cuts (id_at hand p) (suc (halvings (id_at hand p) (named places p))) = ap (λ x. cuts x (suc h)) here.0 ∙ ap (λ k. cuts (id_at hand p) (suc k)) h_is in
      let all : cuts (id_at st.hand p) (suc h) ++ first_cuts n (p + 1) (drop (p + 1) hand) places ≡ first_cuts (suc n) p (drop p hand) places =
      ap (λ es. es ++ first_cuts n (p + 1) (drop (p + 1) hand) places) first ∙ ap (λ ids. first_cuts (suc n) p ids places) (sym (drop_place p inside)) in
      let end : Turn = record (with_hand w rest (ahead_from n (p + 1) next).hand s) { last = more.0 } in (
        more.0,
        subst (λ es. Writing r (with_hand w rest st.hand s) es end) all
            (writes_append r (with_hand w rest st.hand s) (record (with_hand w rest next.hand s) { last = one.0 }) end (cuts (id_at st.hand p) (suc h)) (first_cuts n (p + 1) (drop (p + 1) hand) places) one.1 more.1),
      )

  pub splits_steps : (s : Turn) (n p : ℕ) (st : Stock) → s.due ≡ [] → p + n ≡ length hand → AreWithin st.hand st.places → length hand ≤ length st.hand → IsAsBefore p hand places st
      → ((q : ℕ) → q < length hand → Lasts (id_at hand q) (named places q))
      → (l : Option Event) × Writing r (with_hand w rest st.hand s) (splits_from p (drop p hand) places) (record (with_hand w rest (halved_from n p st).hand s) { last = l })
  splits_steps s zero p st due le within long same lasts =
      let none : drop p hand ≡ [] = drop_all p hand (omega (arith, le)) in
      (s.last, subst (λ ids. Writing r (with_hand w rest st.hand s) (splits_from p ids places) (with_hand w rest st.hand s)) (sym none) refl)
  splits_steps s (suc n) p st due le within long same lasts =
      let inside : p < length hand = omega (arith, le) in
      let here = same p (omega arith) inside in
      let h : ℕ = named st.places p - 1 in
      let last : Lasts (id_at hand p) (named places p) = lasts p inside in
      let next : Stock = take_halves h p st in
      let after = behind h p st (omega (arith, inside, long)) within (omega arith) long same in
      let one = halves_any r s w rest h p st due lacks (omega (arith, inside, long)) (omega (arith, last, here.1, ap (λ (x : Id). log_of x.log) here.0)) in
      let more = splits_steps (record s { last = one.0 }) n (p + 1) next due (omega (arith, le)) after.0 after.1 after.2 lasts in
      let first : cuts (id_at st.hand p) (suc h) ≡ cuts (id_at hand p) (named places p) =
      ap (λ x. cuts x (suc h)) here.0 ∙ (ap (λ k. cuts (id_at hand p) k) (plus_one h) ∙ cuts_of (id_at hand p) (named places p) h (ap (λ k. k - 1) here.1)) in
      let all : cuts (id_at st.hand p) (suc h) ++ splits_from (p + 1) (drop (p + 1) hand) places ≡ splits_from p (drop p hand) places =
      ap (λ es. es ++ splits_from (p + 1) (drop (p + 1) hand) places) first ∙ ap (λ ids. splits_from p ids places) (sym (drop_place p inside)) in
      let end : Turn = record (with_hand w rest (halved_from n (p + 1) next).hand s) { last = more.0 } in (
        more.0,
        subst (λ es. Writing r (with_hand w rest st.hand s) es end) all
            (writes_append r (with_hand w rest st.hand s) (record (with_hand w rest next.hand s) { last = one.0 }) end (cuts (id_at st.hand p) (suc h)) (splits_from (p + 1) (drop (p + 1) hand) places) one.1 more.1),
      )

-- ---- ids are asked for

-- at each of these places there is this id then, one with the least credit among the first n
abbrev pub CanBeAsked : ℕ → List Id → List ℕ → List Id → Type 0
CanBeAsked n hand [] [] = Unit {0}
CanBeAsked n hand (p ∷ ps) (id ∷ ids) = (p < n) × (slice_get hand p ≡ Some id) × HasLeastCredit id × CanBeAsked n (set hand p (bare id)) ps ids
CanBeAsked n hand ps ids = ⊥

abbrev pub asking_turn : Waits → List Waits → List Id → List AskedFor → Turn → Turn
asking_turn w rest hand asked s = record s { working = record w { hand = hand; asked = asked } ∷ rest }

pub asks_steps : (r : Rules) (s : Turn) (w : Waits) (rest : List Waits) (asked : List AskedFor) (ps : List ℕ) (ids : List Id) (st : Stock) → s.due ≡ [] → s.fresh ≡ []
    → CanBeAsked (length (ids_named w)) st.hand ps ids
    → (l : Option Event) × Writing r (asking_turn w rest st.hand asked s) (asked_events ids)
    (record (asking_turn w rest (stripped ps st).hand (asked ++ asked_at s.tables.asked ps) s) {
      last = l;
      tables = record (with_asks s.tables.here s.tables.asked ids s.tables) { asked = s.tables.asked + length ids };
    })
asks_steps r s w rest asked [] [] st due fresh can = (s.last, let none : s.tables.asked + 0 ≡ s.tables.asked = omega arith in rw none (simp append-nil))
asks_steps r s w rest asked [] (id ∷ ids) st due fresh can = absurd can
asks_steps r s w rest asked (p ∷ ps) [] st due fresh can = absurd can
asks_steps r s w rest asked (p ∷ ps) (id ∷ ids) st due fresh can =
    let n : ℕ = s.tables.asked in
    let e : Event = Asked (bare id) in
    let ask : AskedFor = record { entry = n + 1; place = p } in
    let m : Turn = record s { last = Some e; tables = with_mail id.home (Ask id s.tables.here (n + 1)) (record s.tables { asked = n + 1 }) } in
    let there = at_place st.hand p id can.1 in
    let next : Stock = replaced p (bare (id_at st.hand p)) st in
    let hand_is : next.hand ≡ set st.hand p (bare id) = ap (λ x. set st.hand p (bare x)) there.1 in
    let more = asks_steps r m w rest (asked ++ ask ∷ []) ps ids next due fresh (subst (λ hs. CanBeAsked (length (ids_named w)) hs ps ids) (sym hand_is) can.3) in (
      more.0,
      (
        asking_turn w rest (set st.hand p (bare id)) (asked ++ ask ∷ []) m,
        record {
          calm = record { due = due; fresh = fresh };
          w = record w { hand = st.hand; asked = asked };
          rest = rest;
          works = refl;
          p = p;
          id = id;
          low = can.0;
          holds = can.1;
          object = refl;
          least = can.2;
          now = refl;
        },
        subst (λ hs. Writing r (asking_turn w rest hs (asked ++ ask ∷ []) m) (asked_events ids) (record (asking_turn w rest (stripped ps next).hand (asked ++ ask ∷ asked_at (n + 1) ps) s) {
          last = more.0;
          tables = record (with_asks s.tables.here n (id ∷ ids) s.tables) { asked = n + suc (length ids) };
        })) hand_is (let sum : (n + 1) + length ids ≡ n + suc (length ids) = omega arith in
            rw (sum, asks_counted s.tables.here (n + 1) (n + 1) ids (with_mail id.home (Ask id s.tables.here (n + 1)) s.tables)) at (simp append_assoc at more.1)),
      ),
    )
  where
    asks_counted : (k n a : ℕ) (is : List Id) (t : Tables) → with_asks k n is (record t { asked = a }) ≡ record (with_asks k n is t) { asked = a }
    asks_counted k n a [] t = refl
    asks_counted k n a (i ∷ is) t = asks_counted k (n + 1) a is (with_mail i.home (Ask i k (n + 1)) t)
