-- How much a commit writes at most.
use Rattle.hpx_node.proofs.Common.{AllLast, AreWithin, Id, IsFitJob, IsStock, Job, KeepsLaws, List, Outcome, Stock, Tables, [], arith, birth_of, cuts, dealt, half, hand_of, id_at, length, length-append, length-map, made_of, map, own_places, own_stock, places_in_hand, refl, set, share, shared_from, shares, splits_from, suc, sum_by, sum_by-append, sum_by-cons, zero, ℕ, ◌+◌, ◌∷◌, ◌≡◌, ◌≤◌}
use Rattle.hpx_commit.specs.Deals.{named}
use Rattle.hpx_commit.proofs.Deals.{sums_dealt}
use Rattle.hpx_node.proofs.Planned.{made_of_job, hand_has, hand_few, hand_within}

-- ---- splits

abbrev pub one : Id → ℕ
one id = 1

cuts_few : (id : Id) (n : ℕ) → length (cuts id n) ≤ sum_by one (shares id n)
cuts_few id zero = omega arith
cuts_few id (suc zero) = omega arith
cuts_few id (suc (suc n)) = omega (arith, cuts_few (half id) (suc n), sum_by-cons one (half id) (shares (half id) (suc n)))

splits_few : (p : ℕ) (ids : List Id) (ps : List ℕ) → length (splits_from p ids ps) ≤ sum_by one (shared_from p ids ps)
splits_few p [] ps = omega arith
splits_few p (id ∷ ids) ps = omega (
  arith,
  cuts_few id (named ps p),
  splits_few (p + 1) ids ps,
  length-append (cuts id (named ps p)) (splits_from (p + 1) ids ps),
  sum_by-append one (shares id (named ps p)) (shared_from (p + 1) ids ps),
)

dealt_long : (ids : List Id) (ps : List ℕ) → sum_by one (dealt ids ps) ≡ length ps
dealt_long ids [] = refl
dealt_long ids (p ∷ ps) =
    let part = share (id_at ids p) (named ps p) in
    omega (arith, sum_by-cons one part (dealt (set ids p part) ps), dealt_long (set ids p part) ps)

-- no more splits than are named
cuts_within : (ids : List Id) (ps : List ℕ) → AreWithin ids ps → length (splits_from 0 ids ps) ≤ length ps
cuts_within ids ps within = omega (arith, splits_few 0 ids ps, sums_dealt one ids ps within, dealt_long ids ps)

-- ---- a commit

module _ (n : ℕ) (t : Tables) (job : Job) (out : Outcome) (laws : KeepsLaws n job.kind job.at job.state job.action out) (fit : IsFitJob job) where
  few_places : length (places_in_hand t job out) ≤ 193
  few_places = own_places n job.kind job.at job.state job.action out laws (made_of t out) (made_of_job n t job out laws fit).kinds

  pub own_cuts : length (splits_from 0 (hand_of t job out) (places_in_hand t job out)) ≤ 193
  own_cuts = omega (arith, few_places, cuts_within (hand_of t job out) (places_in_hand t job out) (hand_within n t job out laws fit))

module _ (t : Tables) (job : Job) (out : Outcome) (fit : IsFitJob job) (few : t.localities ≤ 64)
    (laws : KeepsLaws t.localities job.kind job.at job.state job.action out) where
  pub makes_few : length (map birth_of out.makes) ≤ 32
  makes_few = omega (arith, laws.few.makes, length-map out.makes birth_of)

  pub cuts_limit : (s : Stock) → IsStock t job out s → length (splits_from 0 s.hand s.places) ≤ 193
  cuts_limit s is = omega (arith, few_places t.localities t job out laws fit, is.names.as_many, cuts_within s.hand s.places is.names.within)

  -- its own stock may be dealt
  pub own_is : AllLast (hand_of t job out) (places_in_hand t job out) → IsStock t job out (own_stock t job out)
  own_is lasts = record {
    names = record { within = hand_within t.localities t job out laws fit; as_many = refl; names = refl; left = refl };
    credit = hand_has t job out fit few laws;
    few = omega (arith, hand_few t.localities t job out laws fit);
    lasts = lasts;
  }
