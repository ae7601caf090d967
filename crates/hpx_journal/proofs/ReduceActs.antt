-- An action that is done is one step of the pool.
use Rattle.hpx_journal.specs.Pool.{moves_to}
use Rattle.hpx_journal.proofs.PoolSound.{IsAtPlace}
use Rattle.hpx_journal.proofs.Reduce.{silent_at}
use Rattle.hpx_journal.specs.Laws.{KeepsActLaws}
use Rattle.std.proofs.Common.{ℕ, true, false, cond, List, [], ◌∷◌, ◌++◌, ◌≡◌, ◌≢◌, ◌+◌, Option, Some, None, refl, sym, ap, ◌∙◌, subst, arith, append-nil}
use Rattle.std.specs.Prelude.{IfSome}
use Rattle.hpx_journal.specs.Laws.{KeepsActLaws}
use Rattle.std.specs.List.{list_any, find, sum_by, AllByRecursion}
use Rattle.std.proofs.lemmas.List.Sums.{sum_by-cons, sum_by-append}
use Rattle.hpx_value.specs.Ids.{Id}
use Rattle.hpx_value.specs.Values.{message_of, named}
use Rattle.hpx_journal.specs.Data.{Act, State, Message, Make, Outcome}
use Rattle.hpx_value.specs.Riders.{plain, due_with}
use Rattle.hpx_value.proofs.Riders.{plain_target}
use Rattle.hpx_journal.proofs.Riders.{plain_moves}
use Rattle.hpx_journal.specs.Entries.{Name, Done, Entry, Standing, Rules, target_of}
use Rattle.hpx_journal.specs.Frames.{travels_in}
use Rattle.hpx_journal.specs.Local.{Local, after, is_standing, is_act, outcome, due_left}
use Rattle.hpx_journal.specs.Rows.{AreMade}
use Rattle.hpx_journal.specs.Whole.{Space, road_after, step, MayStand}
use Rattle.hpx_journal.specs.Pool.{Pool, outcome_in, sent_by, AreNew, acted, IsActed, Goes, act_mass, mass_at, prints_due, HasTravel, Shows, IsBlind}
use Rattle.hpx_journal.proofs.Bags.{sum_by-without-find, find-passes, list_any-find, total-term}
use Rattle.hpx_journal.proofs.Same.{same_object-true}
use Rattle.hpx_journal.proofs.SameMessage.{same_message, same_message-true, same_message-refl}
use Rattle.hpx_journal.proofs.Mass.{messages, messages-due, brings, ends}
use Rattle.hpx_journal.proofs.PoolLists.{all-both, find-all}
use Rattle.hpx_journal.proofs.PoolActs.{acted_alike, travel_stays, target_there}
use Rattle.hpx_journal.proofs.PoolSteps.{IsApart, IsDrawn, done_here, done_there}
use Rattle.hpx_journal.proofs.PoolSound.{AreDistinct, IsAtPlace, done_prints, done_silent}
use Rattle.hpx_journal.proofs.PoolWhole.{travels_apart, road_apart, road_travels}
use Rattle.hpx_journal.proofs.Reduce.{lawful_at, silent_at, IsAmong, among, sum_by-middle, IsReached, assemble}

-- objects that are made are new to the pool
made_new : (states : Id → Option State) (k number : ℕ) (makes : List Make) (fresh : List Id) (objects : List Standing) → AreMade makes fresh objects
    → AllByRecursion (λ o. states o ≡ None) fresh → AllByRecursion (IsDrawn k number) fresh → AreDistinct fresh → AreNew states k makes fresh
made_new states k number [] [] objects made none drawn distinct = tt
made_new states k number (make ∷ makes) (o ∷ fresh) objects made none drawn distinct =
    (made.0, (drawn.0).1, none.0, distinct.0, made_new states k number makes fresh objects made.2 none.1 drawn.1 distinct.1)
made_new states k number [] (o ∷ fresh) objects made none drawn distinct = absurd made
made_new states k number (make ∷ makes) [] objects made none drawn distinct = absurd made

moves_there : (moves : Option ℕ) (k j : ℕ) → j ≡ k → IfSome moves (λ t. t ≡ k) → IfSome moves (λ t. t ≡ j)
moves_there None k j e h = tt
moves_there (Some t) k j e h = h ∙ sym e

module _ (r : Rules) (blind : IsBlind r) (laws : KeepsActLaws r) (w : Space) (reached : IsReached r w) (p : Pool) (out : List (List ℕ)) (shows : Shows r w p out)
    (k : ℕ) (a : Name) (ok : MayStand r w (record { at = k; event = Done a false })) (act : Act) (x : Standing)
    (fires : find (is_act a) (w.places k).fired ≡ Some act) (stands : find (is_standing (target_of act)) (w.places k).objects ≡ Some x)
    (made : AreMade (outcome r (w.places k) act x).makes (w.places k).fresh (w.places k).objects) where
  abbrev s : Local
  s = w.places k

  abbrev e : Entry
  e = record { at = k; event = Done a false }

  -- the action without its rider, and its target
  abbrev P : Act
  P = plain act

  abbrev T : Id
  T = target_of (plain act)

  there : (p.states T ≡ Some x.state) × (p.places T ≡ k)
  there =
      let old = target_there r p shows.alike k s (shows.places k ok.place) (reached.sound k).here a act x fires stands in
      (ap p.states (plain_target act) ∙ old.0, ap p.places (plain_target act) ∙ old.1)

  stands_plain : find (is_standing T) s.objects ≡ Some x
  stands_plain = ap (λ (o : Id). find (is_standing o) s.objects) (plain_target act) ∙ stands

  abbrev done : Outcome
  done = outcome_in r k (message_of P) x.state

  -- the outcome is that of the message
  outcome_eq : outcome r s act x ≡ done
  outcome_eq =
      let kind : x.object.kind ≡ T.kind =
      ap (λ v. v.kind) (sym (same_object-true T x.object (find-passes (is_standing T) s.objects x stands_plain))) in
      ap (λ n. r.outcome_of n s.here x.state P) kind
      ∙ (ap (λ j. r.outcome_of T.kind j x.state P) (reached.sound k).here
      ∙ (blind.blind T.kind k x.state P ∙ sym (blind.blind T.kind k x.state (named 0 0 (message_of P)))))

  is_pending : IsAmong (λ m. m ≡ message_of P) p.pending
  is_pending =
      let f : Message → ℕ = λ m. cond (same_message (message_of P) m) 1 0 in
      let one : f (message_of P) ≡ 1 = ap {B = ℕ} (λ b. cond b 1 0) (same_message-refl (message_of P)) in
      among (λ m. m ≡ message_of P) (same_message (message_of P)) (λ m t. sym (same_message-true (message_of P) m t)) p.pending
      (omega (
        arith,
        one,
        shows.pending f,
        sum_by-without-find (act_mass f) (is_act a) s.fired act fires,
        total-term r.localities (λ j. mass_at f (w.places j)) k ok.place,
      ))

  abbrev others : List Message
  others = is_pending.before ++ is_pending.behind

  abbrev next : Pool
  next = acted p k (message_of P) x.state s.fresh others done

  split : p.pending ≡ is_pending.before ++ message_of P ∷ is_pending.behind
  split = is_pending.split ∙ ap (λ m. is_pending.before ++ m ∷ is_pending.behind) is_pending.fact

  made_done : AreMade done.makes s.fresh s.objects
  made_done = subst (λ o. AreMade o.makes s.fresh s.objects) outcome_eq made

  target_any : list_any (is_standing T) s.objects ≡ true
  target_any = list_any-find (is_standing T) s.objects x stands_plain

  due_here : due_left r s false (Some act) ≡ due_with x.state P s.fresh (outcome r s act x)
  due_here = rw stands refl

  bag : (f : Message → ℕ) → sum_by f next.pending + sum_by f (ends s (Done a false)) ≡ sum_by f p.pending + sum_by f (brings r s (Done a false))
  bag f =
      let n : sum_by f (ends s (Done a false)) ≡ f (message_of P) = rw fires (omega (arith, sum_by-cons f (message_of P) [])) in
      let d : due_left r s false (find (is_act a) s.fired) ≡ due_left r s false (Some act) = ap (due_left r s false) fires in
      let m : brings r s (Done a false) ≡ sent_by (message_of P) x.state s.fresh done =
      ap messages d
      ∙ (ap messages due_here
      ∙ (messages-due x.state P s.fresh (outcome r s act x) (lawful_at r laws w reached k ok.place a act x fires stands).moves.codes
      ∙ ap (λ o. sent_by (message_of P) x.state s.fresh o) outcome_eq)) in
      let b : sum_by f (brings r s (Done a false)) ≡ sum_by f (sent_by (message_of P) x.state s.fresh done) = ap (sum_by f) m in
      let l : sum_by f p.pending ≡ sum_by f (is_pending.before ++ message_of P ∷ is_pending.behind) = ap (sum_by f) split in
      omega (
        arith,
        n,
        b,
        l,
        sum_by-append f (sent_by (message_of P) x.state s.fresh done) others,
        sum_by-middle f is_pending.before (message_of P) is_pending.behind,
      )

  console_prints : k ≡ 0 → (out ++ []) ++ prints_due (after r s (Done a false)).due ≡ next.printed
  console_prints same =
      let none : out ≡ p.printed =
      sym (append-nil out) ∙ (ap (λ due. out ++ prints_due due) (sym ok.allowed.turn) ∙ (ap (λ j. out ++ prints_due (w.places j).due) same ∙ shows.printed)) in
      ap (λ v. (out ++ []) ++ v) (done_prints r s a act x fires stands ∙ ap (λ o. o.prints) outcome_eq)
      ∙ ap (λ v. v ++ done.prints) (append-nil out ∙ none)

  other_prints : k ≢ 0 → p.printed ≡ next.printed
  other_prints other =
      let none : done.prints ≡ [] = ap (λ o. o.prints) (sym outcome_eq) ∙ done_silent r s a act x fires stands k (reached.sound k) (silent_at r laws w reached k ok.place) other in
      sym (append-nil p.printed) ∙ ap (λ v. p.printed ++ v) (sym none)

  road_next : AllByRecursion (λ f. AllByRecursion (HasTravel next) (travels_in (r.parcel_of f.1))) (road_after w.road e)
  road_next =
      all-both (λ f. AllByRecursion (HasTravel p) (travels_in (r.parcel_of f.1))) (λ f. AllByRecursion (IsApart T) (travels_in (r.parcel_of f.1)))
      (λ f. AllByRecursion (HasTravel next) (travels_in (r.parcel_of f.1)))
      (λ f has apart. all-both (HasTravel p) (IsApart T) (HasTravel next)
      (λ y h d. travel_stays p shows.alike k P x.state s.fresh others done there.0 (shows.places k ok.place).fresh y h d)
      (travels_in (r.parcel_of f.1)) has apart)
      (road_after w.road e)
      (road_travels (HasTravel p) r w e ok (shows.places k ok.place).travels shows.road)
      (road_travels (IsApart T) r w e ok
      (travels_apart r w reached.whole reached.sound T k ok.place target_any k ok.place)
      (road_apart r w reached.whole reached.carried T k ok.place target_any))

  shows_next : Shows r (step r w e) next (out ++ [])
  shows_next =
      assemble r w reached p out shows e ok tt next bag
      (done_here r p shows.alike k s (shows.places k ok.place) (reached.sound k).here a act x fires stands done outcome_eq made_done others
      (reached.sound k).drawn (travels_apart r w reached.whole reached.sound T k ok.place target_any k ok.place))
      (λ j h other. done_there r p shows.alike k s (shows.places k ok.place) (reached.sound k).here a act x fires stands done outcome_eq made_done others
      (reached.sound k).drawn j (w.places j) other (shows.places j h) (reached.sound j).drawn
      (travels_apart r w reached.whole reached.sound T k ok.place target_any j h))
      road_next
      (acted_alike p shows.alike k P x.state s.fresh others done there.0)
      console_prints
      (λ other. (refl, other_prints other))

  new_objects : AreNew p.states k done.makes s.fresh
  new_objects = made_new p.states k s.number done.makes s.fresh s.objects made_done (shows.places k ok.place).fresh (reached.sound k).drawn (reached.sound k).distinct

  is_acted : IsActed r p next
  is_acted = record {
    message = message_of P;
    before = is_pending.before;
    behind = is_pending.behind;
    state = x.state;
    made = s.fresh;
    pending = split;
    stands = there.0;
    there = moves_there (moves_to (message_of P)) k (p.places T) there.1
        (subst (λ (m : Option ℕ). IfSome m (λ t. t ≡ k)) (sym (plain_moves act)) (find-all (IsAtPlace k) (is_act a) s.fired act (reached.sound k).movers fires));
    new = subst (λ j. AreNew p.states j (outcome_in r j (message_of P) x.state).makes s.fresh) (sym there.1) new_objects;
    next = ap (λ j. acted p j (message_of P) x.state s.fresh others (outcome_in r j (message_of P) x.state)) (sym there.1);
  }

  pub done_step : (q : Pool) × Goes r p (Done a false) q × Shows r (step r w e) q (out ++ [])
  done_step = (next, is_acted, shows_next)
