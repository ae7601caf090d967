-- A whole commit is short and light.
use Rattle.hpx_node.proofs.Common.{Birth, Done, Event, HasCredit, HasRightCredit, IsFitDue, IsFitJob, IsPlanned, IsStock, Job, KeepsLaws, List, Outcome, Stock, Tables, [], ap, arith, bare_due, birth_of, births_of, committed_from, due_with, false, few_due, length, length-append, made_of, map, name_of, plain, refl, rider_events, rider_of, seen, splits_from, state_dealt, suc, unnamed, ups, written_due, ℕ, ◌++◌, ◌+◌, ◌∷◌, ◌≡◌, ◌≤◌}
use Rattle.hpx_node.proofs.Planned.{made_fit, planned_of}
use Rattle.hpx_node.proofs.PlanLimits.{makes_few, cuts_limit}
use Rattle.hpx_node.proofs.PlanWeights.{riders_few, riders_light, ups_few as written_ups, written_few, weighs, weighs_append, weighs_cons, births_light, splits_light, ups_light, written_light}

births_long : (here n : ℕ) (xs : List Birth) → length (births_of here n xs) ≡ length xs
births_long here n [] = refl
births_long here n (x ∷ xs) = ap suc (births_long here (n + 1) xs)

module _ (t : Tables) (job : Job) (out : Outcome) (fit : IsFitJob (seen job)) (few : t.localities ≤ 64)
    (laws : KeepsLaws t.localities job.kind job.at job.state (plain job.action) out) (s : Stock) (is : IsStock t (seen job) out s) where
  abbrev first : List Event
  first = births_of t.here t.births (map birth_of out.makes)

  abbrev halvings : List Event
  halvings = splits_from 0 s.hand s.places

  abbrev due : List Event
  due = written_due t.here t.serial (due_with job.state (plain job.action) (made_of t out) out)

  abbrev merges : List Event
  merges = rider_events t.profile.credit_log (state_dealt t (seen job) out s).ids (rider_of job.action)

  abbrev last : List Event
  last = ups (unnamed s.hand s.places)

  abbrev done : Event
  done = Done (name_of job.action) false

  plan : IsPlanned HasRightCredit HasCredit IsFitDue bare_due job.kind job.state (plain job.action) (made_of t out) out s
  plan = planned_of t (seen job) out fit few laws s is

  pub commit_few : length (committed_from t job out s) ≤ 598
  commit_few = omega (
    arith,
    length-append first (halvings ++ (done ∷ (due ++ (merges ++ last)))),
    length-append halvings (done ∷ (due ++ (merges ++ last))),
    length-append due (merges ++ last),
    length-append merges last,
    births_long t.here t.births (map birth_of out.makes),
    makes_few t (seen job) out fit few laws,
    cuts_limit t (seen job) out fit few laws s is,
    written_few t.here t.serial (due_with job.state (plain job.action) (made_of t out) out),
    few_due job.state (plain job.action) (made_of t out) out laws.few.sends plan.replies_few laws.few.prints,
    riders_few t.profile.credit_log (state_dealt t (seen job) out s).ids (rider_of job.action),
    written_ups (unnamed s.hand s.places),
    plan.ups_few,
  )

  pub commit_light : (k : ℕ) → weighs k (committed_from t job out s) ≤ 2380416
  commit_light k = omega (
    arith,
    weighs_append k first (halvings ++ (done ∷ (due ++ (merges ++ last)))),
    weighs_append k halvings (done ∷ (due ++ (merges ++ last))),
    weighs_cons k done (due ++ (merges ++ last)),
    weighs_append k due (merges ++ last),
    weighs_append k merges last,
    births_light k t.here t.births (map birth_of out.makes) (made_fit t (seen job) out fit few laws),
    makes_few t (seen job) out fit few laws,
    splits_light k 0 s.hand s.places,
    cuts_limit t (seen job) out fit few laws s is,
    written_light k t.here t.serial job.state (plain job.action) (made_of t out) out laws.few.sends plan.replies_few laws.few.prints laws.few.short,
    riders_light k t.profile.credit_log (state_dealt t (seen job) out s).ids (rider_of job.action),
    ups_light k (unnamed s.hand s.places),
    plan.ups_few,
  )
