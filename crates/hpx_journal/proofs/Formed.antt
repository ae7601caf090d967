-- States and actions in a legal journal are well formed.
use Rattle.std.proofs.Common.{ℕ, Bool, true, false, cond, List, [], ◌∷◌, ◌++◌, ◌≡◌, suc, ◌+◌, ◌<◌, ◌≤◌, Option, Some, None, refl, sym, ap, ◌∙◌, subst, arith, inl, inr, map, length, lit≤}
use Rattle.std.specs.Prelude.{◌==◌, ◌||◌, codes}
use Rattle.std.specs.List.{list_any, find, count_by, AllByRecursion}
use Rattle.std.proofs.lemmas.List.{length-map}
use Rattle.std.proofs.lemmas.List.Folds.{list_any-append}
use Rattle.std.proofs.lemmas.List.Sums.{sum_by-cons}
use Rattle.hpx_value.specs.Ids.{Id, same_object, bare}
use Rattle.hpx_value.specs.Values.{bare_act, bare_state, refs_in}
use Rattle.hpx_value.specs.Shapes.{IsAct, IsMessage, IsState}
use Rattle.hpx_value.specs.Hands.{session, sent, replied, answer, own_slot}
use Rattle.hpx_value.specs.Riders.{plain, rode, due_with}
use Rattle.hpx_value.proofs.Riders.{plain_formed, rode_formed}
use Rattle.hpx_value.specs.Laws.{KeepsLaws, birth_state, IsManaged as IsManagedKind}
use Rattle.hpx_value.proofs.Kept.{answer_message}
use Rattle.hpx_parcel.specs.Parcels.{IsParcel}
use Rattle.hpx_journal.specs.Bags.{without}
use Rattle.hpx_journal.specs.Data.{State, Act, Fault, Make, Outcome, Due, MessageDue, PrintDue, Parcel, Apply, Move, Go, Shipped}
use Rattle.hpx_journal.specs.Entries.{Name, Event, Line, Fire, Born, Done, Sent, Print, Freed, Left, Landed, In, Standing, Travel, Rules, target_of, line_act, move_to}
use Rattle.hpx_journal.specs.Frames.{acts_in, travels_in, travel_of}
use Rattle.std.specs.Option.{option_to_list}
use Rattle.hpx_journal.specs.Local.{Local, after, is_act, is_standing, is_travel, comes, leaves, sets_off, stops, due_act, failure, outcome, stood, leaving, tail}
use Rattle.hpx_journal.specs.Rows.{Row, TurnAllows, AreMade, Runs}
use Rattle.hpx_journal.specs.Foreign.{kept}
use Rattle.hpx_journal.specs.Laws.{HasGrammar, KeepsActLaws, IsFormed, IsFormedOrFresh, IsFormedDue, TargetsStand}
use Rattle.hpx_journal.proofs.Alls.{all-append, all-without, all-minus, all-map, all-any, all-zip, all-find, all-listed}
use Rattle.hpx_journal.proofs.Bags.{find-passes, find-nothing}
use Rattle.hpx_journal.proofs.Bools.{or_left, or_right, or_cases, or_false, false_from}
use Rattle.hpx_journal.proofs.Same.{same_object-true, same_object-refl, same_object-from, same_object-sym}
use Rattle.hpx_journal.proofs.Done.{found_same, new_standing, done_settles}
use Rattle.hpx_journal.proofs.Life.{spelled}
use Rattle.hpx_journal.proofs.Keys.{one_if}

-- ---- what bytes spell

bare_formed : (act : Act) → IsAct act → IsAct (bare_act act)
bare_formed act h = record {
  values = h.values;
  refs = h.refs;
  few_refs = h.few_refs;
  cont = h.cont;
  ids = length-map act.ids bare ∙ h.ids;
  short = h.short;
}

bare_state_formed : (s : State) → IsState s → IsState (bare_state s)
bare_state_formed s h = record {
  values = h.values;
  refs = h.refs;
  conts = h.conts;
  ids = length-map s.ids bare ∙ h.ids;
  few = subst (λ n. n ≤ 128) (sym (length-map s.ids bare)) h.few;
  short = h.short;
}

parcel_acts : (p : Parcel) → IsParcel p → AllByRecursion IsAct (acts_in (Some p))
parcel_acts (Apply act) h = (bare_formed act h.sent.shape, tt)
parcel_acts (Move act) h = (bare_formed act h.sent.shape, tt)
parcel_acts (Go act) h = (bare_formed act h.sent.shape, tt)
parcel_acts (Shipped act state) h = (bare_formed act h.0.sent.shape, tt)
parcel_acts _ h = tt

abbrev IsFormedTravel : Travel → Type 0
IsFormedTravel x = IsState x.state

travel_formed : (act : Act) (state : State) (moves : Option ℕ) → IsState state → AllByRecursion IsFormedTravel (travel_of act state moves)
travel_formed act state None h = tt
travel_formed act state (Some to) h = (h, tt)

parcel_travels : (p : Parcel) → IsParcel p → AllByRecursion IsFormedTravel (travels_in (Some p))
parcel_travels (Shipped act state) h =
    travel_formed (bare_act act) (bare_state state) (move_to (bare_act act)) (bare_state_formed state h.1.shape)
parcel_travels _ h = tt

pub spelled_acts : (r : Rules) → HasGrammar r → (bytes : List ℕ) → AllByRecursion IsAct (acts_in (r.parcel_of bytes))
spelled_acts r grammar bytes = spelled (λ p. AllByRecursion IsAct (acts_in p)) tt parcel_acts r grammar bytes

pub spelled_travels : (r : Rules) → HasGrammar r → (bytes : List ℕ) → AllByRecursion IsFormedTravel (travels_in (r.parcel_of bytes))
spelled_travels r grammar bytes = spelled (λ p. AllByRecursion IsFormedTravel (travels_in p)) tt parcel_travels r grammar bytes

-- ---- what a line, a send and a failure make

line_formed : (a : Name) (bytes : List ℕ) → length bytes ≤ 1025 → IsAct (line_act a bytes)
line_formed a bytes h = record {
  values = record { few = lit≤ tt; each = (omega arith, tt) };
  refs = tt;
  few_refs = lit≤ tt;
  cont = tt;
  ids = refl;
  short = omega arith;
}

due_act_formed : (a : Name) (due : List Due) → AllByRecursion IsFormedDue due → AllByRecursion IsAct (due_act a due)
due_act_formed a [] h = tt
due_act_formed a (PrintDue bytes ∷ rest) h = tt
due_act_formed a (MessageDue m ∷ rest) h = (h.0, tt)

pub all-tail : (P : Due → Type 0) (due : List Due) → AllByRecursion P due → AllByRecursion P (tail due)
all-tail P [] h = tt
all-tail P (x ∷ xs) h = h.1

pub all-image : {X Y : Type 0} (P : Y → Type 0) (f : X → Y) (xs : List X) → AllByRecursion (λ x. P (f x)) xs → AllByRecursion P (map f xs)
all-image P f [] h = tt
all-image P f (x ∷ xs) h = (h.0, all-image P f xs h.1)

failure_print : (b : Bool) → AllByRecursion IsFormedDue (cond b (PrintDue (codes "error: credit limit\n") ∷ []) [])
failure_print true = (tt, tt)
failure_print false = tt

failure_formed : (act : Act) → AllByRecursion IsFormedDue (failure act)
failure_formed act =
    all-append IsFormedDue (map (λ x. MessageDue (answer [] x (Fault 5))) (own_slot act.ids act.cont)) _
    (all-image IsFormedDue (λ x. MessageDue (answer [] x (Fault 5))) (own_slot act.ids act.cont)
    (all-any (λ x. IsMessage (answer [] x (Fault 5))) (λ x. answer_message [] x (Fault 5) (lit≤ tt, lit≤ tt) refl) (own_slot act.ids act.cont)))
    (failure_print ((target_of act).kind == 1))

due_formed : (n kind here : ℕ) (s : State) (a : Act) (made : List Id) (out : Outcome) → KeepsLaws n kind here s a out
    → AllByRecursion IsFormedDue (due_with s a made out)
due_formed n kind here s a made out keeps =
    all-append IsFormedDue (map (λ x. MessageDue (sent s a made x)) out.sends) _
    (all-image IsFormedDue (λ x. MessageDue (sent s a made x)) out.sends (keeps.shapes.sends made))
    (all-append IsFormedDue (map (λ x. MessageDue (rode s a made out x)) out.replies) _
    (all-image IsFormedDue (λ x. MessageDue (rode s a made out x)) out.replies
    (all-map (λ x. IsMessage (replied s a made x)) (λ x. IsMessage (rode s a made out x)) (λ x h. rode_formed s a made out x h) out.replies
    (keeps.shapes.replies made)))
    (all-image IsFormedDue PrintDue out.prints (all-any (λ x. Unit {0}) (λ x. tt) out.prints)))

-- ---- elements of a list whose key stands once

any-same : (a b : Id) → same_object a b ≡ true → (xs : List Id) → list_any (same_object a) xs ≡ list_any (same_object b) xs
any-same a b h [] = refl
any-same a b h (x ∷ xs) = ap (λ t. t || list_any (same_object a) xs) (same_object-from a b x h) ∙ ap (λ t. same_object b x || t) (any-same a b h xs)

-- x is what its id finds, where that stands once
abbrev IsFound : List Standing → Standing → Type 0
IsFound xs x = (o : Id) → is_standing o x ≡ true → count_by (is_standing o) xs ≤ 1 → find (is_standing o) xs ≡ Some x

found_later : (b : Bool) (o : Id) (y x : Standing) (ys : List Standing) → is_standing o y ≡ b
    → (count_by (is_standing o) ys ≤ 1 → find (is_standing o) ys ≡ Some x)
    → count_by (is_standing o) (y ∷ ys) ≤ 1 → cond b (Some y) (find (is_standing o) ys) ≡ Some x
found_later true o y x ys e ih h =
    let one : one_if (is_standing o y) ≡ 1 = ap one_if e in
    let none : count_by (is_standing o) ys ≡ 0 = omega (arith, sum_by-cons (λ z. one_if (is_standing o z)) y ys) in
    let nothing : find (is_standing o) ys ≡ None = find-nothing (is_standing o) ys none in
    let some : find (is_standing o) ys ≡ Some x = ih (omega arith) in
    cc
found_later false o y x ys e ih h = ih (omega (arith, sum_by-cons (λ z. one_if (is_standing o z)) y ys))

found_first : (o : Id) (y : Standing) (ys : List Standing) → is_standing o y ≡ true → find (is_standing o) (y ∷ ys) ≡ Some y
found_first o y ys e = rw e refl

all_found : (xs : List Standing) → AllByRecursion (IsFound xs) xs
all_found [] = tt
all_found (y ∷ ys) = (
  λ o e h. found_first o y ys e,
  all-map (IsFound ys) (IsFound (y ∷ ys))
      (λ x found o e h. found_later (is_standing o y) o y x ys refl (λ few. found o e few) h) ys (all_found ys),
)

-- ---- the made objects

abbrev IsBirth : Make → Type 0
IsBirth make = (16 ≤ make.kind) × IsState (birth_state make)

-- what is fresh and stands once is a make
made_formed : (makes : List Make) (fresh : List Id) (objects : List Standing) → AreMade makes fresh objects
    → AllByRecursion IsBirth makes
    → ((o : Id) → 16 ≤ o.kind → count_by (is_standing o) objects ≤ 1)
    → (x : Standing) → IsFound objects x → list_any (same_object x.object) fresh ≡ true → IsState x.state
made_formed [] [] objects h births once x found t = absurd (cc)
made_formed [] (o ∷ fresh) objects h births once x found t = absurd h
made_formed (make ∷ makes) [] objects h births once x found t = absurd h
made_formed (make ∷ makes) (o ∷ fresh) objects h births once x found t =
    elim (or_cases (same_object x.object o) (list_any (same_object x.object) fresh) t) [
      | inl e ↦
          let managed : 16 ≤ o.kind = rw h.0 births.0.0 in
          let f : find (is_standing o) objects ≡ Some x = found o (same_object-sym x.object o e) (once o managed) in
          let g : x ≡ record { object = o; state = birth_state make } = cc (h.1) in
          rw g births.0.1
      | inr e ↦ made_formed makes fresh objects h.2 births.1 once x found e
    ]

pub made_length : (makes : List Make) (fresh : List Id) (objects : List Standing) → AreMade makes fresh objects → length fresh ≡ length makes
made_length [] [] objects h = refl
made_length [] (o ∷ fresh) objects h = absurd h
made_length (make ∷ makes) [] objects h = absurd h
made_length (make ∷ makes) (o ∷ fresh) objects h = ap suc (made_length makes fresh objects h.2)

-- ---- counts

pub any_counts : {X : Type 0} (p : X → Bool) (xs : List X) → list_any p xs ≡ true → 1 ≤ count_by p xs
any_counts p [] h = absurd (cc)
any_counts p (x ∷ xs) h = elim (or_cases (p x) (list_any p xs) h) [
  | inl t ↦ let one : one_if (p x) ≡ 1 = ap one_if t in omega (arith, sum_by-cons (λ y. one_if (p y)) x xs)
  | inr t ↦ omega (arith, any_counts p xs t, sum_by-cons (λ y. one_if (p y)) x xs)
]

pub count_same_object : (a b : Id) → same_object a b ≡ true → (xs : List Standing) → count_by (is_standing a) xs ≡ count_by (is_standing b) xs
count_same_object a b h [] = refl
count_same_object a b h (x ∷ xs) =
    omega (
      arith,
      count_same_object a b h xs,
      sum_by-cons (λ y. one_if (is_standing a y)) x xs,
      sum_by-cons (λ y. one_if (is_standing b y)) x xs,
      ap one_if (same_object-from a b x.object h),
    )

-- ---- what else holds at a locality

-- the session alone is of its kind, and stands at 0
abbrev pub IsConsole : ℕ → Standing → Type 0
IsConsole here x = x.object.kind ≡ 1 → (same_object session x.object ≡ true) × (here ≡ 0)

abbrev pub IsOld : List Id → Act → Type 0
IsOld fresh act = list_any (same_object (target_of act)) fresh ≡ false

-- well formed; no fired action is for a fresh object; and the session stands at 0
pub record IsSettled (s : Local) : Type 0 where
  pub formed : IsFormed s
  pub old : AllByRecursion (IsOld s.fresh) s.fired
  pub console : AllByRecursion (IsConsole s.here) s.objects

-- what the whole knows of a locality
pub record IsPlace (r : Rules) (s : Local) : Type 0 where
  pub here : s.here < r.localities
  pub once : (o : Id) → 16 ≤ o.kind → kept o s ≤ 1
  pub unborn : (o : Id) → 16 ≤ o.kind → o.home ≡ s.here → s.number < o.number → kept o s ≡ 0
  pub stand : TargetsStand s

module _ (r : Rules) (grammar : HasGrammar r) (laws : KeepsActLaws r) (s : Local) (place : IsPlace r s) (settled : IsSettled s) where
  formed : IsFormed s
  formed = settled.formed

  -- the target of a fired action, and what its outcome keeps
  module _ (a : Name) (x : Runs s a) where
    pub target_formed : IsState x.target.state
    target_formed =
        let old : list_any (same_object (target_of x.act)) s.fresh ≡ false = all-find (IsOld s.fresh) (is_act a) s.fired x.act settled.old x.fired in
        elim (all-find (IsFormedOrFresh s.fresh) (is_standing (target_of x.act)) s.objects x.target formed.objects x.stands) [
          | inl fresh ↦
              let same = any-same (target_of x.act) x.target.object (found_same (target_of x.act) s.objects x.target x.stands) s.fresh in
              absurd (cc)
          | inr h ↦ h
        ]

    pub act_formed : IsAct x.act
    act_formed = all-find IsAct (is_act a) s.fired x.act formed.fired x.fired

    pub keeps : KeepsLaws r.localities x.target.object.kind s.here x.target.state (plain x.act) (outcome r s x.act x.target)
    keeps =
        laws.laws x.target.object.kind s.here x.target.state (plain x.act) place.here target_formed (plain_formed x.act act_formed)

    pub target_console : IsConsole s.here x.target
    target_console = all-find (IsConsole s.here) (is_standing (target_of x.act)) s.objects x.target settled.console x.stands

  -- ---- objects

  all_made : (a : Name) (x : Runs s a) → AreMade (outcome r s x.act x.target).makes s.fresh s.objects
      → AllByRecursion (λ y. IsState y.state) s.objects
  all_made a x made =
      let out = outcome r s x.act x.target in
      let births : AllByRecursion IsBirth out.makes =
      all-zip (λ make. IsManagedKind make.kind × (refs_in make.values ≡ [])) (λ make. IsState (birth_state make)) IsBirth
      (λ make h i. (h.0.0, i)) out.makes (keeps a x).few.managed (keeps a x).shapes.births in
      all-zip (IsFound s.objects) (IsFormedOrFresh s.fresh) (λ y. IsState y.state)
      (λ y found h. elim h [
        | inl fresh ↦ made_formed out.makes s.fresh s.objects made births (λ o managed. omega (arith, place.once o managed)) y found fresh
        | inr i ↦ i
      ]) s.objects (all_found s.objects) formed.objects

  -- where nothing is fresh each object is formed
  old_formed : s.fresh ≡ [] → AllByRecursion (λ y. IsState y.state) s.objects
  old_formed none =
      all-map (IsFormedOrFresh s.fresh) (λ y. IsState y.state)
      (λ y h. elim h [
        | inl t ↦ let u : list_any (same_object y.object) s.fresh ≡ false = rw none refl in absurd (cc)
        | inr i ↦ i
      ]) s.objects formed.objects

  more_fresh : (o : Id) (y : Standing) → IsFormedOrFresh s.fresh y → IsFormedOrFresh (s.fresh ++ o ∷ []) y
  more_fresh o y (inl t) = inl (list_any-append (same_object y.object) s.fresh (o ∷ []) ∙ or_left _ _ t)
  more_fresh o y (inr h) = inr h

  objects_after : (e : Event) → TurnAllows s e → Row r s e → AllByRecursion (IsFormedOrFresh (after r s e).fresh) (after r s e).objects
  unfolding after
  objects_after (Born o state) turn row = (
    inl (list_any-append (same_object o) s.fresh (o ∷ []) ∙ or_right _ _ (or_left _ _ (same_object-refl o))),
    all-map (IsFormedOrFresh s.fresh) (IsFormedOrFresh (s.fresh ++ o ∷ [])) (more_fresh o) s.objects formed.objects,
  )
  objects_after (Done a false) turn row =
      let x = row.0 in
      let new = new_standing r s x.act x.target in
      rw (done_settles r s a x.act x.target x.fired x.stands) (
        inr ((keeps a x).shapes.state s.fresh),
        all-without (IsFormedOrFresh []) (is_standing x.target.object) s.objects
            (all-map (λ y. IsState y.state) (IsFormedOrFresh []) (λ y h. inr h) s.objects (all_made a x row.1)),
      )
  objects_after (Done a true) turn row =
      all-map (λ y. IsState y.state) (IsFormedOrFresh []) (λ y h. inr h) s.objects (old_formed row.1)
  objects_after (Freed o) turn row = all-without (IsFormedOrFresh s.fresh) (is_standing o) s.objects formed.objects
  objects_after (Left o to) turn row = all-without (IsFormedOrFresh s.fresh) (is_standing o) s.objects formed.objects
  objects_after (Landed o) turn row =
      all-append (IsFormedOrFresh s.fresh) (map stood (option_to_list (find (is_travel o) s.travels))) s.objects
      (all-image (IsFormedOrFresh s.fresh) stood (option_to_list (find (is_travel o) s.travels))
      (all-map IsFormedTravel (λ y. IsFormedOrFresh s.fresh (stood y)) (λ y h. inr h) (option_to_list (find (is_travel o) s.travels))
      (all-listed IsFormedTravel (is_travel o) s.travels formed.travels))) formed.objects
  objects_after _ turn row = formed.objects

  -- ---- travels, actions and what is due

  travels_come : (e : Event) → TurnAllows s e → Row r s e → AllByRecursion IsFormedTravel (sets_off r s e)
  travels_come (Left o to) turn row =
      all-image IsFormedTravel (leaving to) (option_to_list (find (is_standing o) s.objects))
      (all-listed (λ y. IsState y.state) (is_standing o) s.objects (old_formed turn.1))
  travels_come (In bytes) turn row = spelled_travels r grammar bytes
  travels_come _ turn row = tt

  travels_after : (e : Event) → TurnAllows s e → Row r s e → AllByRecursion IsFormedTravel (after r s e).travels
  unfolding after
  travels_after e turn row =
      all-append IsFormedTravel (sets_off r s e) _ (travels_come e turn row) (all-minus IsFormedTravel is_travel s.travels (stops r e) formed.travels)

  acts_come : (e : Event) → Row r s e → AllByRecursion IsAct (comes r s e)
  acts_come (Line a bytes) row = (line_formed a bytes row.2, tt)
  acts_come (Sent a) row = due_act_formed a s.due formed.due
  acts_come (In bytes) row = spelled_acts r grammar bytes
  acts_come _ row = tt

  waiting_after : (e : Event) → Row r s e → AllByRecursion IsAct (after r s e).waiting
  unfolding after
  waiting_after e row = all-append IsAct (comes r s e) _ (acts_come e row) (all-minus IsAct is_act s.waiting (leaves r e) formed.waiting)

  fired_after : (e : Event) → AllByRecursion IsAct (after r s e).fired
  unfolding after
  fired_after (Fire a) =
      all-append IsAct (option_to_list (find (is_act a) s.waiting)) s.fired (all-listed IsAct (is_act a) s.waiting formed.waiting) formed.fired
  fired_after (Done a failed) = all-without IsAct (is_act a) s.fired formed.fired
  fired_after _ = formed.fired

  done_after : (e : Event) → AllByRecursion IsAct (after r s e).done
  unfolding after
  done_after (Done a failed) =
      all-append IsAct (option_to_list (find (is_act a) s.fired)) s.done (all-listed IsAct (is_act a) s.fired formed.fired) formed.done
  done_after _ = formed.done

  due_after : (e : Event) → Row r s e → AllByRecursion IsFormedDue (after r s e).due
  unfolding after
  due_after (Done a false) row =
      let x = row.0 in
      rw (x.fired, x.stands)
      (due_formed r.localities x.target.object.kind s.here x.target.state (plain x.act) s.fresh (outcome r s x.act x.target) (keeps a x))
  due_after (Done a true) row = rw row.0.fired (failure_formed row.0.act)
  due_after (Sent a) row = all-tail IsFormedDue s.due formed.due
  due_after (Print bytes) row = all-tail IsFormedDue s.due formed.due
  due_after _ row = formed.due

  -- ---- fired actions are for old objects

  new_for : (o : Id) (act : Act) → 16 ≤ o.kind → o.home ≡ s.here → o.number ≡ s.number + 1
      → list_any (is_standing (target_of act)) s.objects ≡ true → IsOld s.fresh act → IsOld (s.fresh ++ o ∷ []) act
  new_for o act managed home number stands old =
      let other : same_object (target_of act) o ≡ false =
      false_from (same_object (target_of act) o) (λ t.
      let none : kept o s ≡ 0 = place.unborn o managed home (omega arith) in
      let same = count_same_object o (target_of act) (same_object-sym (target_of act) o t) s.objects in
      absurd (omega (arith, any_counts (is_standing (target_of act)) s.objects stands))) in
      list_any-append (same_object (target_of act)) s.fresh (o ∷ []) ∙ or_false _ _ old (or_false _ _ other refl)

  old_after : (e : Event) → TurnAllows s e → Row r s e → AllByRecursion (IsOld (after r s e).fresh) (after r s e).fired
  unfolding after
  old_after (Fire a) turn row = rw turn.1 (all-any (IsOld []) (λ act. refl) (option_to_list (find (is_act a) s.waiting) ++ s.fired))
  old_after (Born o state) turn row =
      all-zip (λ act. list_any (is_standing (target_of act)) s.objects ≡ true) (IsOld s.fresh) (IsOld (s.fresh ++ o ∷ []))
      (λ act stands old. new_for o act row.1.0 row.0 row.2 stands old) s.fired place.stand settled.old
  old_after (Done a failed) turn row = all-any (IsOld []) (λ act. refl) (without (is_act a) s.fired)
  old_after _ turn row = settled.old

  -- ---- the session

  console_after : (e : Event) → Row r s e → AllByRecursion (IsConsole s.here) (after r s e).objects
  unfolding after
  console_after (Born o state) row = (λ one. absurd (omega (arith, row.1.0)), settled.console)
  console_after (Done a true) row = settled.console
  console_after (Done a false) row =
      let x = row.0 in
      rw (done_settles r s a x.act x.target x.fired x.stands)
      (target_console a x, all-without (IsConsole s.here) (is_standing x.target.object) s.objects settled.console)
  console_after (Freed o) row = all-without (IsConsole s.here) (is_standing o) s.objects settled.console
  console_after (Left o to) row = all-without (IsConsole s.here) (is_standing o) s.objects settled.console
  console_after (Landed o) row =
      let y = row.1.0 in
      let kinds : o.kind ≡ y.object.kind = ap (λ z. z.kind) (same_object-true o y.object (find-passes (is_travel o) s.travels y row.1.1)) in
      rw row.1.1 (λ one. absurd (omega (arith, row.0.0)), settled.console)
  console_after _ row = settled.console

  here_after : (e : Event) → (after r s e).here ≡ s.here
  unfolding after
  here_after e = refl

  pub settled_after : (e : Event) → TurnAllows s e → Row r s e → IsSettled (after r s e)
  settled_after e turn row = record {
    formed = record {
      objects = objects_after e turn row;
      travels = travels_after e turn row;
      waiting = waiting_after e row;
      fired = fired_after e;
      done = done_after e;
      due = due_after e row;
    };
    old = old_after e turn row;
    console = rw (here_after e) (console_after e row);
  }
