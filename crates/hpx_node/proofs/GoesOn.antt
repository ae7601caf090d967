-- A commit that waited goes on with its last credit: what it does leads back to rest.
use Rattle.hpx_node.proofs.Common.{Act, AllByRecursion, Commits, Done, Event, Give, Gives, HasCredit, HasInHand, Id, IsStock, IsTidy, KeepsLaws, Leads, List, MayResume, None, Option, Outcome, Parcel, Prepared, Rules, Standing, State, Stock, Tables, Waits, [], ap, append_assoc, arith, bare_act, bare_state, birth_of, births_of, brings_right, committed_from, committed_to, drop, due_dealt, false, full_stock, given_done, given_event, hand_long, ids_named, in_hand, length, length-append, length-drop, length-take, made_of, map, message_of, name_of, named, plain, refl, remains, remove, rider_events, rider_of, rules_of, seen, set, some_same, splits_from, state_dealt, subst, sym, take, take-append-drop, true, unnamed, ups, written_due, ℕ, ◌++◌, ◌+◌, ◌∙◌, ◌∷◌, ◌≡◌, ◌≤◌}
use Rattle.hpx_commit.proofs.FullStock.{replaced_split}
use Rattle.hpx_node.proofs.HandLeft.{has_left}
use Rattle.hpx_node.proofs.LeftBy.{left_by}
use Rattle.hpx_node.proofs.Given.{IsStill, still}
use Rattle.hpx_node.proofs.Paused.{paused_at}
use Rattle.hpx_node.proofs.PlanWeights.{written_same}
use Rattle.hpx_node.proofs.Planned.{made_fit, made_long}
use Rattle.hpx_node.proofs.ReadyStock.{brings_by}
use Rattle.hpx_node.proofs.Seen.{fit_seen}

module _ (act_of : ℕ → ℕ → ℕ → State → Act → Outcome)
    (blind : (n kind here : ℕ) (s : State) (a : Act) → act_of n kind here s a ≡ act_of n kind here (bare_state s) (named 0 0 (message_of (bare_act a))))
    (t : Tables) (n : ℕ) (d : List Parcel) (came mailed : List Parcel) (l : Option Event) (mid t' : Tables) (id : Id) (entry : ℕ)
    (hand : HasInHand (Give id entry) (in_hand (record t { taken = n; desk = d }) came mailed l)) (credit : HasCredit id) (right : brings_right t id ≡ true)
    (g : Gives id entry (record t { taken = n; desk = d }) mid) (tidy : IsTidy t []) (j : ℕ) (p : Prepared)
    (laws : KeepsLaws t.localities g.after.job.kind g.after.job.at g.after.job.state (plain g.after.job.action) g.after.outcome)
    (its_outcome : g.after.outcome ≡ act_of t.localities g.after.job.kind g.after.job.at g.after.job.state (plain g.after.job.action)) (none : g.after.asked ≡ [])
    (may : MayResume (record t { taken = n; desk = d; pending = set t.pending g.i g.after }) g.after j p)
    (commits : Commits g.after.job g.after.outcome (full_stock (record t { taken = n; desk = d }) g.after) j (record t { taken = n; desk = d; pending = remove t.pending g.i }) t') where
  abbrev r : Rules
  r = rules_of act_of t.localities t.profile

  abbrev u : Tables
  u = record t { taken = n; desk = d }

  abbrev m : Tables
  m = record t { taken = n; desk = d; pending = set t.pending g.i g.after }

  abbrev w : Waits
  w = g.after

  abbrev x : Standing
  x = may.place.standing

  -- ---- its hand

  k : IsStill t g.after
  k = still t g.before g.after id entry (paused_at t g.i g.before tidy g.there) g.refills credit (brings_by t id right)

  abbrev own : ℕ
  own = length (ids_named w)

  abbrev made : List Id
  made = made_of u w.outcome

  abbrev front : List Id
  front = take own w.hand

  abbrev later : List Id
  later = take (length made) (drop own w.hand)

  abbrev back : List Id
  back = drop (length made) (drop own w.hand)

  abbrev s : Stock
  s = record { hand = front ++ (made ++ back); places = w.places }

  many : length made ≡ length w.outcome.makes
  many = made_long t.here t.births t.profile.credit_log w.outcome.makes

  enough : own + length made ≤ length w.hand
  enough = omega (
    arith,
    (has_left t.profile.credit_log w w.hand k.its.job k.split refl).long (hand_long t.here t.localities w k.its),
    length-append w.job.state.ids (plain w.job.action).ids,
    many,
  )

  hand_is : w.hand ≡ front ++ (later ++ back)
  hand_is = sym (ap (λ xs. front ++ xs) (take-append-drop (length made) (drop own w.hand)) ∙ take-append-drop own w.hand)

  later_bare : AllByRecursion (λ (o : Id). o.log ≡ None) later
  later_bare =
      subst (λ k. AllByRecursion (λ (o : Id). o.log ≡ None) (take k (drop own w.hand))) (sym many)
      (subst (λ k. AllByRecursion (λ (o : Id). o.log ≡ None) (take (length w.outcome.makes) (drop k w.hand))) (sym (length-append w.job.state.ids (plain w.job.action).ids))
      (has_left t.profile.credit_log w w.hand k.its.job k.split refl).later)

  stock_is : full_stock u w ≡ s
  stock_is = replaced_split own made w.hand w.places enough

  its_stock : IsStock m (seen w.job) w.outcome s
  its_stock = subst (IsStock m (seen w.job) w.outcome) (may.stock ∙ stock_is) may.prepared.stock

  -- ---- where it leads

  x_is : commits.standing ≡ x
  x_is = some_same commits.standing x (sym commits.stands ∙ may.place.stands)

  end_is : t' ≡ committed_to w.job w.outcome s j x (record u { pending = remove t.pending g.i })
  end_is =
      commits.goes
      ∙ (ap (λ y. committed_to w.job w.outcome (full_stock u w) j y (record u { pending = remove t.pending g.i })) x_is
      ∙ ap (λ k. committed_to w.job w.outcome k j x (record u { pending = remove t.pending g.i })) stock_is)

  abbrev due : List Event
  due = written_due t.here t.serial (due_dealt u (seen w.job) w.outcome s)

  abbrev last : List Event
  last = rider_events t.profile.credit_log (state_dealt u (seen w.job) w.outcome s).ids (rider_of w.job.action) ++ ups (unnamed s.hand s.places)

  leads : Leads r (in_hand u came mailed l) None t' (given_event id ∷ ((births_of t.here t.births (map birth_of w.outcome.makes) ++ splits_from 0 s.hand s.places)
      ++ (Done (name_of w.job.action) false ∷ (due ++ last))))
  leads =
      subst (λ z. Leads r (in_hand u came mailed l) None z (given_event id ∷ ((births_of t.here t.births (map birth_of w.outcome.makes) ++ splits_from 0 s.hand s.places)
      ++ (Done (name_of w.job.action) false ∷ (due ++ last))))) (sym end_is)
      (given_done r u mid came mailed l id entry hand credit right g none k.other front later back w.places hand_is later_bare
      (omega (arith, many, enough, length-take (length made) (drop own w.hand), length-drop own w.hand))
      (omega (arith, enough, length-take own w.hand)) (made_fit m (seen w.job) w.outcome (fit_seen w.job k.its.job) may.place.few laws) j x (remains u (seen w.job) w.outcome s)
      its_stock.names.within (λ q lt. its_stock.lasts q) may.place.stands may.place.found tidy.drawn
      (left_by m w.job w.outcome (fit_seen w.job k.its.job) may.place.few laws s its_stock x may.place.kept may.place.kind may.place.state act_of blind its_outcome k.its.here))

  pub goes_leads : Leads r (in_hand u came mailed l) None t' (given_event id ∷ committed_from u w.job w.outcome (full_stock u w))
  goes_leads =
      subst (λ k. Leads r (in_hand u came mailed l) None t' (given_event id ∷ committed_from u w.job w.outcome k)) (sym stock_is)
      (subst (λ es. Leads r (in_hand u came mailed l) None t' (given_event id ∷ es)) same leads)
    where
      same : (births_of t.here t.births (map birth_of w.outcome.makes) ++ splits_from 0 s.hand s.places)
          ++ (Done (name_of w.job.action) false ∷ (due ++ last)) ≡ committed_from u w.job w.outcome s
      same =
          append_assoc (births_of t.here t.births (map birth_of w.outcome.makes)) (splits_from 0 s.hand s.places) (Done (name_of w.job.action) false ∷ (due ++ last))
          ∙ ap (λ es. births_of t.here t.births (map birth_of w.outcome.makes) ++ (splits_from 0 s.hand s.places ++ (Done (name_of w.job.action) false ∷ (es ++ last))))
          (written_same t.here t.serial _ _)
