-- A legal journal without a failed Done is a run of the plain pool.
use Rattle.std.specs.List.{list_any, find}
use Rattle.hpx_journal.specs.Entries.{target_of}
use Rattle.hpx_value.specs.Ids.{same_object}
use Rattle.hpx_journal.specs.Local.{is_standing}
use Rattle.hpx_journal.proofs.Bags.{find-passes}
use Rattle.hpx_journal.specs.Entries.{Name, Standing}
use Rattle.hpx_value.specs.Laws.{KeepsLaws}
use Rattle.hpx_journal.specs.Data.{Act}
use Rattle.hpx_journal.proofs.SlotsWhole.{IsSlotted, slotted_run}
use Rattle.hpx_value.specs.Riders.{plain}
use Rattle.hpx_value.proofs.Riders.{plain_formed}
use Rattle.hpx_journal.proofs.PoolSound.{IsSilent}
use Rattle.hpx_value.specs.Shapes.{IsState, IsAct}
use Rattle.hpx_journal.proofs.Formed.{IsOld}
use Rattle.hpx_journal.specs.Laws.{KeepsActLaws, IsFormedOrFresh}
use Rattle.hpx_journal.specs.Local.{is_act, outcome}
use Rattle.hpx_journal.proofs.PoolLists.{any-same_id, find-all}
use Rattle.std.proofs.Common.{ℕ, Bool, true, false, cond, List, [], ◌∷◌, ◌++◌, ◌≡◌, ◌≢◌, ◌+◌, ◌<◌, ◌≤◌, Some, refl, sym, ap, ◌∙◌, subst, arith, inl, inr, append_assoc, append-nil}
use Rattle.std.specs.List.{sum_by, AllByRecursion}
use Rattle.std.proofs.lemmas.List.Sums.{sum_by-cons, sum_by-append}
use Rattle.std.proofs.lemmas.Bool.{cases_eq}
use Rattle.hpx_value.specs.Ids.{Id}
use Rattle.hpx_journal.specs.Data.{Message}
use Rattle.hpx_journal.specs.Entries.{Entry, Rules}
use Rattle.hpx_journal.specs.Frames.{travels_in}
use Rattle.hpx_journal.specs.Local.{Local, after}
use Rattle.hpx_journal.specs.Foreign.{kept}
use Rattle.hpx_journal.specs.Whole.{Space, road_after, at_place, step, MayStand}
use Rattle.hpx_journal.specs.Laws.{HasGrammar, KeepsActLaws, IsFormedOrFresh}
use Rattle.hpx_journal.specs.Pool.{Pool, prints_due, HasTravel, ShowsAt, IsAlike, Shows, prints_by}
use Rattle.hpx_journal.proofs.Bags.{total-term}
use Rattle.hpx_journal.proofs.Wholes.{IsWhole, whole_step, at_same, at_other}
use Rattle.hpx_journal.proofs.Joined.{one_object}
use Rattle.hpx_journal.proofs.Mass.{DoesNotFail, brings, ends}
use Rattle.hpx_journal.proofs.PoolSound.{IsSound, IsQuietly, prints_stay, unprinted_stays, sound_after}
use Rattle.hpx_journal.proofs.PoolWhole.{RoadManaged, AreTowards, road_travels}
use Rattle.hpx_journal.proofs.PoolMoves.{mass_step, towards_step}

-- ---- a bag in which something counts has it

pub record IsAmong (P : Message → Type 0) (ms : List Message) : Type 0 where
  pub message : Message
  pub fact : P message
  pub before : List Message
  pub behind : List Message
  pub split : ms ≡ before ++ message ∷ behind

among_rest : (P : Message → Type 0) (x : Message) (xs : List Message) → IsAmong P xs → IsAmong P (x ∷ xs)
among_rest P x xs rest = record {
  message = rest.message;
  fact = rest.fact;
  before = x ∷ rest.before;
  behind = rest.behind;
  split = ap (λ ys. x ∷ ys) rest.split;
}

among_at : (P : Message → Type 0) (test : Message → Bool) (b : Bool) (x : Message) (xs : List Message) → test x ≡ b → (test x ≡ true → P x)
    → (1 ≤ sum_by (λ m. cond {A = ℕ} (test m) 1 0) xs → IsAmong P xs) → 1 ≤ sum_by (λ m. cond {A = ℕ} (test m) 1 0) (x ∷ xs) → IsAmong P (x ∷ xs)
among_at P test true x xs e means rest h = record { message = x; fact = means e; before = []; behind = xs; split = refl }
among_at P test false x xs e means rest h =
    let none : cond {A = ℕ} (test x) 1 0 ≡ 0 = ap {B = ℕ} (λ b. cond b 1 0) e in
    among_rest P x xs (rest (omega (arith, h, none, sum_by-cons (λ m. cond {A = ℕ} (test m) 1 0) x xs)))

pub among : (P : Message → Type 0) (test : Message → Bool) → ((m : Message) → test m ≡ true → P m) → (ms : List Message)
    → 1 ≤ sum_by (λ m. cond {A = ℕ} (test m) 1 0) ms → IsAmong P ms
among P test means [] h = absurd (omega arith)
among P test means (x ∷ xs) h = among_at P test (test x) x xs refl (means x) (among P test means xs) h

-- what stands in the middle counts as if it stood first
pub sum_by-middle : {X : Type 0} (f : X → ℕ) (l : List X) (x : X) (r : List X) → sum_by f (l ++ x ∷ r) ≡ sum_by f (l ++ r) + f x
sum_by-middle f l x r = omega (arith, sum_by-append f l (x ∷ r), sum_by-append f l r, sum_by-cons f x r)

-- ---- what the whole keeps

grown_formed : (fresh : List Id) (x : Standing) → list_any (same_object x.object) fresh ≡ false → IsFormedOrFresh fresh x → IsState x.state
grown_formed fresh x grown (inl young) = absurd (let e : true ≡ false = sym young ∙ grown in cc)
grown_formed fresh x grown (inr formed) = formed

pub record IsReached (r : Rules) (w : Space) : Type 0 where
  pub whole : IsWhole r w
  pub sound : (k : ℕ) → IsSound k (w.places k)
  pub carried : RoadManaged r w.road
  pub towards : AreTowards r w
  pub slotted : IsSlotted r w

-- what the laws of actions say of an action that is fired here
pub lawful_at : (r : Rules) → KeepsActLaws r → (w : Space) → IsReached r w → (k : ℕ) → k < r.localities → (a : Name) (act : Act) (x : Standing)
    → find (is_act a) (w.places k).fired ≡ Some act → find (is_standing (target_of act)) (w.places k).objects ≡ Some x
    → KeepsLaws r.localities x.object.kind (w.places k).here x.state (plain act) (outcome r (w.places k) act x)
lawful_at r laws w reached k h a act x fires stands =
    let s = w.places k in
    let known = reached.slotted.settled k in
    let T = target_of act in
    let T_x : same_object T x.object ≡ true = find-passes (is_standing T) s.objects x stands in
    let old : list_any (same_object T) s.fresh ≡ false = find-all (IsOld s.fresh) (is_act a) s.fired act known.old fires in
    let grown : list_any (same_object x.object) s.fresh ≡ false = sym (any-same_id T x.object s.fresh T_x) ∙ old in
    let here : s.here < r.localities = subst (λ j. j < r.localities) (sym (reached.whole.here k)) h in
    laws.laws x.object.kind s.here x.state (plain act) here
    (grown_formed s.fresh x grown (find-all (IsFormedOrFresh s.fresh) (is_standing T) s.objects x known.formed.objects stands))
    (plain_formed act (find-all IsAct (is_act a) s.fired act known.formed.fired fires))

-- by them only the session prints
pub silent_at : (r : Rules) → KeepsActLaws r → (w : Space) → IsReached r w → (k : ℕ) → k < r.localities → IsSilent r (w.places k)
silent_at r laws w reached k h = record {
  silent = λ a act x fires stands other. (lawful_at r laws w reached k h a act x fires stands).few.session other;
}

module _ (r : Rules) (grammar : HasGrammar r) (laws : KeepsActLaws r) (w : Space) (reached : IsReached r w) (e : Entry) (ok : MayStand r w e)
    (well : DoesNotFail e.event) where
  sound_step : (k : ℕ) → IsSound k ((step r w e).places k)
  unfolding step
  sound_step k = elim (cases_eq e.at k) [
    | inl same ↦
        let h : IsSound e.at (after r (w.places e.at) e.event) = sound_after r grammar e.at (w.places e.at) e.event ok.allowed.row well (silent_at r laws w reached e.at ok.place) (reached.sound e.at) in
        subst (λ j. IsSound j (at_place w.places e.at (after r (w.places e.at) e.event) j)) same
        (subst (IsSound e.at) (sym (at_same w.places e.at (after r (w.places e.at) e.event))) h)
    | inr other ↦ subst (IsSound k) (sym (at_other w.places e.at (after r (w.places e.at) e.event) k other)) (reached.sound k)
  ]

  carried_step : RoadManaged r (step r w e).road
  unfolding step
  carried_step = road_travels (λ x. 16 ≤ x.object.kind) r w e ok (reached.sound e.at).managed reached.carried

  pub reached_step : IsReached r (step r w e)
  reached_step = record {
    whole = whole_step r w e reached.whole ok;
    sound = sound_step;
    carried = carried_step;
    towards = towards_step r w e ok well reached.whole reached.sound reached.carried reached.towards;
    slotted = slotted_run r grammar laws w (e ∷ []) reached.whole reached.slotted (ok, tt);
  }

-- ---- one entry

module _ (r : Rules) (w : Space) (reached : IsReached r w) (p : Pool) (out : List (List ℕ)) (shows : Shows r w p out) (e : Entry) (ok : MayStand r w e)
    (well : DoesNotFail e.event) where
  abbrev pub s : Local
  s = w.places e.at

  -- what has to be seen at each locality, on the road, and at the console
  pub assemble : (q : Pool)
      → ((f : Message → ℕ) → sum_by f q.pending + sum_by f (ends s e.event) ≡ sum_by f p.pending + sum_by f (brings r s e.event))
      → ShowsAt q e.at (after r s e.event)
      → ((j : ℕ) → j < r.localities → e.at ≢ j → ShowsAt q j (w.places j))
      → AllByRecursion (λ f. AllByRecursion (HasTravel q) (travels_in (r.parcel_of f.1))) (road_after w.road e)
      → IsAlike q
      → (e.at ≡ 0 → (out ++ prints_by e.event) ++ prints_due (after r s e.event).due ≡ q.printed)
      → (e.at ≢ 0 → (prints_by e.event ≡ []) × (p.printed ≡ q.printed))
      → Shows r (step r w e) q (out ++ prints_by e.event)
  unfolding step
  assemble q bag here there road alike console quiet = record {
    pending = λ f. omega (arith, mass_step r w e ok well f, shows.pending f, bag f);
    places = λ k h. elim (cases_eq e.at k) [
      | inl same ↦
          subst (λ j. ShowsAt q j (at_place w.places e.at (after r s e.event) j)) same
          (subst (ShowsAt q e.at) (sym (at_same w.places e.at (after r s e.event))) here)
      | inr other ↦ subst (ShowsAt q k) (sym (at_other w.places e.at (after r s e.event) k other)) (there k h other)
    ];
    road = road;
    alike = alike;
    printed = elim (cases_eq e.at 0) [
      | inl same ↦
          ap (λ z. (out ++ prints_by e.event) ++ prints_due z.due)
          (subst (λ j. at_place w.places e.at (after r s e.event) j ≡ after r s e.event) same
          (at_same w.places e.at (after r s e.event))) ∙ console same
      | inr other ↦
          ap (λ z. (out ++ prints_by e.event) ++ prints_due z.due) (at_other w.places e.at (after r s e.event) 0 other)
          ∙ (ap (λ v. (out ++ v) ++ prints_due (w.places 0).due) (quiet other).0
          ∙ (ap (λ v. v ++ prints_due (w.places 0).due) (append-nil out) ∙ (shows.printed ∙ (quiet other).1)))
    ];
  }

  -- an entry at which no action begins or ends, and nothing is printed anew
  pub calm : (q : Pool) → q.pending ≡ p.pending → q.printed ≡ p.printed → IsQuietly e.event
      → ((f : Message → ℕ) → sum_by f (ends s e.event) ≡ sum_by f (brings r s e.event))
      → ShowsAt q e.at (after r s e.event)
      → ((j : ℕ) → j < r.localities → e.at ≢ j → ShowsAt q j (w.places j))
      → AllByRecursion (λ f. AllByRecursion (HasTravel q) (travels_in (r.parcel_of f.1))) (road_after w.road e)
      → IsAlike q
      → Shows r (step r w e) q (out ++ prints_by e.event)
  calm q pending printed still bag here there road alike =
      assemble q (λ f. omega (arith, bag f, ap (sum_by f) pending)) here there road alike
      (λ same. append_assoc out (prints_by e.event) (prints_due (after r s e.event).due)
      ∙ (ap (λ v. out ++ v) (prints_stay r s e.event ok.allowed.row still)
      ∙ (ap (λ k. out ++ prints_due (w.places k).due) same ∙ (shows.printed ∙ sym printed))))
      (λ other. ((unprinted_stays r e.at s e.event ok.allowed.row still (reached.sound e.at) other).0, sym printed))

  pub same_road : AllByRecursion (λ f. AllByRecursion (HasTravel p) (travels_in (r.parcel_of f.1))) (road_after w.road e)
  same_road = road_travels (HasTravel p) r w e ok (shows.places e.at ok.place).travels shows.road

  -- the pool stays as it is
  pub stays : IsQuietly e.event → ((f : Message → ℕ) → sum_by f (ends s e.event) ≡ sum_by f (brings r s e.event))
      → ShowsAt p e.at (after r s e.event) → Shows r (step r w e) p (out ++ prints_by e.event)
  stays still bag here = calm p refl refl still bag here (λ j h other. shows.places j h) same_road shows.alike

  pub once : (o : Id) → 16 ≤ o.kind → kept o s ≤ 1
  once o managed = omega (arith, one_object r w reached.whole o managed, total-term r.localities (λ k. kept o (w.places k)) e.at ok.place)
