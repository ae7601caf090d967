-- A commit begins to wait, as the calls do it.
use Rattle.std.proofs.Common.{◌≢◌}
use Rattle.hpx_node.proofs.Common.{Act, AllByRecursion, AllLast, AreWithin, Ask, Begins, Entry, HasCredit, HasLeastCredit, HasRightCredit, HasSplit, Id, IsAt, IsBefore, IsFitJob, IsKept, IsState, IsTidy, Job, KeepsLaws, List, Outcome, Pauses, Some, Standing, Stands, State, Stock, Tables, Waits, [], action_few, ahead, all_at, ap, append_assoc, arith, asked_at, asked_events, at_all, at_all_append, bare, bare_state, first_cuts, get_or, hand_before, hand_of, id_at, inl, lacking, length, length-append, length-map, made_of, map, none_short, own_many, places_in_hand, plain, refl, remove, seen, set, short_before, short_places, slice_get, some_same, split_stock, splits_before, state_filled, stock_before, subst, sym, take, take_more, waits_with, with_asks, with_mail, ℕ, ◌++◌, ◌+◌, ◌<◌, ◌∙◌, ◌∷◌, ◌≡◌, ◌≤◌}
use Rattle.hpx_commit.proofs.Stripped.{short_few}
use Rattle.hpx_node.specs.declared.node.wait.Before.{Before}
use Rattle.hpx_steps.proofs.Waiting.{asks_rest, wait_stands}
use Rattle.hpx_tables.proofs.FirstCuts.{first_few}
use Rattle.hpx_node.proofs.PlanLimits.{own_cuts}
use Rattle.hpx_node.proofs.Planned.{AreMade, bare_kinds, hand_within, made_of_job, none_of, rights}
use Rattle.hpx_commit.specs.Deals.{named}
use Rattle.hpx_node.proofs.Seen.{fit_seen}
use Rattle.hpx_commit.proofs.ShortHand.{fits, hands_long, later_within, least_all, left_own, left_places, left_rest, left_short, short_within, within}

pub pauses_by : (t t' : Tables) (i j : ℕ) (job : Job) (w : Waits) (at : IsAt t i j job) (x : Standing) → slice_get t.objects j ≡ Some x
    → t' ≡ record t {
      running = remove t.running i;
      objects = set t.objects j (record { object = x.object; state = bare_state job.state });
      pending = t.pending ++ w ∷ [];
    } → Pauses i j job w t t'
pauses_by t t' i j job w at x stands e = record {
  at = at;
  rest = e ∙ ap (λ (y : Standing). record t {
    running = remove t.running i;
    objects = set t.objects j (record { object = y.object; state = bare_state job.state });
    pending = t.pending ++ w ∷ [];
  }) (some_same x at.standing (sym stands ∙ at.stands));
}

-- an object keeps its state without credits
pub lent_kept : (x : Standing) (s : State) → IsKept x → x.state ≡ s → IsState s → IsKept (record { object = x.object; state = bare_state s })
lent_kept x s kept same fit = record {
  kind = kept.kind;
  state = state_filled s (map bare s.ids) (length-map s.ids bare) fit;
  plain = λ e. (ap (λ (y : State). y.values) (sym same) ∙ (kept.plain e).0, ap (λ (y : State). y.conts) (sym same) ∙ (kept.plain e).1);
}

all_map : (P : Id → Type 0) (f : ℕ → Id) (ps : List ℕ) → AllByRecursion (λ p. P (f p)) ps → AllByRecursion P (map f ps)
all_map P f [] h = tt
all_map P f (p ∷ ps) h = (h.0, all_map P f ps h.1)

-- ---- the hand, before

module _ (n : ℕ) (t : Tables) (job : Job) (out : Outcome) (laws : KeepsLaws n job.kind job.at job.state job.action out) (fit : IsFitJob job) where
  are : AreMade t.profile.credit_log out.makes (made_of t out)
  are = made_of_job n t job out laws fit

  pub before_long : length (hand_before t job out) ≡ length (hand_of t job out)
  before_long = hands_long HasRightCredit HasCredit rights job.state job.action out fit.credit fit.action.sent.credit (made_of t out) (map bare (made_of t out)) (bare_kinds (made_of t out)) (hand_within n t job out laws fit)

  pub within_hand : AreWithin (hand_before t job out) (places_in_hand t job out)
  within_hand = within HasRightCredit HasCredit rights job.state job.action out fit.credit fit.action.sent.credit (made_of t out) (map bare (made_of t out)) (bare_kinds (made_of t out)) (hand_within n t job out laws fit)

  pub within_split : AreWithin (split_stock t job out).hand (short_before t job out)
  within_split = short_within HasRightCredit HasCredit rights job.state job.action out fit.credit fit.action.sent.credit (made_of t out) (map bare (made_of t out)) (bare_kinds (made_of t out)) (hand_within n t job out laws fit)

  pub least_split : AllByRecursion (λ p. HasLeastCredit (id_at (split_stock t job out).hand p)) (short_before t job out)
  least_split = least_all HasRightCredit HasCredit rights job.state job.action out fit.credit fit.action.sent.credit (made_of t out) (map bare (made_of t out)) (bare_kinds (made_of t out)) (hand_within n t job out laws fit)

  -- where not all ids last, something is asked for
  pub something : n ≤ 64 → 8 ≤ t.profile.credit_log → (AllLast (hand_of t job out) (places_in_hand t job out) → ⊥) → 1 ≤ length (lacking t job out)
  something few enough short = at (short_before t job out) refl
    where
      at : (ps : List ℕ) → short_before t job out ≡ ps → 1 ≤ length (map (id_at (split_stock t job out).hand) ps)
      at [] e = absurd (short (none_short HasRightCredit HasCredit rights n job.kind job.at job.state job.action out laws few fit.state fit.action.sent.shape fit.credit
          fit.action.sent.credit (made_of t out) are.kinds are.credit t.profile.credit_log enough are.logs (map bare (made_of t out)) within_hand
          (fits HasRightCredit HasCredit rights job.state job.action out fit.credit fit.action.sent.credit (made_of t out) (map bare (made_of t out)) (bare_kinds (made_of t out)) (hand_within n t job out laws fit)) e))
      at (p ∷ ps) e = omega arith

  pub short_many : length (short_before t job out) ≤ 162
  short_many = omega (
    arith,
    short_few (own_many job) (split_stock t job out),
    length-append job.state.ids job.action.ids,
    fit.state.few,
    action_few job.action fit.action.sent.shape,
  )

-- a commit with its whole action may wait
module _ (n : ℕ) (t : Tables) (job : Job) (out : Outcome) (laws : KeepsLaws n job.kind job.at job.state (plain job.action) out) (fit : IsFitJob job) where
  its : IsFitJob (seen job)
  its = fit_seen job fit

  pub fresh_split : (log k m : ℕ) → HasSplit log (waits_with job out k (asked_at m (short_before t (seen job) out)) (stock_before t (seen job) out))
  fresh_split log k m = record {
    made = map bare (made_of t out);
    kinds = bare_kinds (made_of t out) ∙ (made_of_job n t (seen job) out laws its).kinds;
    bare = (made_of_job n t (seen job) out laws its).bare;
    within = later_within HasRightCredit HasCredit rights job.state (plain job.action) out its.credit its.action.sent.credit (made_of t out) (map bare (made_of t out)) (bare_kinds (made_of t out)) (hand_within n t (seen job) out laws its);
    places = left_places HasRightCredit HasCredit rights job.state (plain job.action) out its.credit its.action.sent.credit (made_of t out) (map bare (made_of t out)) (bare_kinds (made_of t out)) (hand_within n t (seen job) out laws its);
    rest = left_rest HasRightCredit HasCredit rights job.state (plain job.action) out its.credit its.action.sent.credit (made_of t out) (map bare (made_of t out)) (bare_kinds (made_of t out)) (hand_within n t (seen job) out laws its);
    own = left_own HasRightCredit HasCredit rights job.state (plain job.action) out its.credit its.action.sent.credit (made_of t out) (map bare (made_of t out)) (bare_kinds (made_of t out)) (hand_within n t (seen job) out laws its);
    short = λ p lt none. inl (left_short HasRightCredit HasCredit rights job.state (plain job.action) out its.credit its.action.sent.credit (made_of t out) (map bare (made_of t out)) (bare_kinds (made_of t out)) (hand_within n t (seen job) out laws its) p lt none);
  }

-- what is found of it, in steps
pub split_by : (t : Tables) (job : Job) (out : Outcome) (own : ℕ) (hand : List Id) (places : List ℕ) (s : Stock)
    → s ≡ ahead own (record { hand = hand; places = places }) → own ≡ own_many job → hand ≡ hand_before t job out → places ≡ places_in_hand t job out
    → s ≡ split_stock t job out
split_by t job out own hand places s is many same named = is ∙ rw (many, same, named)

pub short_by : (t : Tables) (job : Job) (out : Outcome) (own : ℕ) (s : Stock) (short : List ℕ) → short ≡ short_places own s → own ≡ own_many job
    → s ≡ split_stock t job out → short ≡ short_before t job out
short_by t job out own s short is many same = is ∙ rw (many, same)

module _ (t : Tables) (job : Job) (out : Outcome) (b : Before) (is : IsBefore t job out b) where
  pub before_own : b.own ≤ length b.hand.items
  before_own = omega (
    arith,
    is.own,
    ap (λ (xs : List Id). length xs) is.hand,
    length-append job.state.ids (job.action.ids ++ map bare (made_of t out)),
    length-append job.action.ids (map bare (made_of t out)),
    length-append job.state.ids job.action.ids,
  )

  pub kept_before : (standing : Standing) → standing.state ≡ job.state → IsState job.state → IsTidy t [] → (j : ℕ) → slice_get t.objects j ≡ Some standing
      → (x : Standing) → slice_get t.objects j ≡ Some x → IsKept (record { object = x.object; state = b.state })
  kept_before standing found fit tidy j there x stands =
      let kept = all_at IsKept t.objects j x tidy.objects stands in
      let same : x.state ≡ job.state = ap (λ (y : Standing). y.state) (some_same x standing (sym stands ∙ there)) ∙ found in
      subst (λ s. IsKept (record { object = x.object; state = s })) (sym is.state) (lent_kept x job.state kept same fit)

  module _ (n : ℕ) (laws : KeepsLaws n job.kind job.at job.state job.action out) (fit : IsFitJob job) where
    pub before_short : length (first_cuts b.own 0 b.hand.items b.places.items) ≤ 193
    before_short = rw (is.places, is.hand) (omega (
      arith,
      first_few b.own 0 (hand_before t job out) (hand_of t job out) (places_in_hand t job out) (before_long n t job out laws fit),
      own_cuts n t job out laws fit,
    ))

    pub lacks_few : length b.lacking.items ≤ 162
    lacks_few = omega (
      arith,
      ap (λ (xs : List Id). length xs) is.lacking,
      length-map (short_before t job out) (id_at (split_stock t job out).hand),
      short_many n t job out laws fit,
    )

    pub before_least : AllByRecursion HasLeastCredit b.lacking.items
    before_least = rw is.lacking (all_map HasLeastCredit (id_at (split_stock t job out).hand) (short_before t job out) (least_split n t job out laws fit))

-- so it begins to wait, and all that holds goes on to hold
pub begins_by : (act_of : ℕ → ℕ → ℕ → State → Act → Outcome) (t m t' : Tables) (job : Job) (out : Outcome) (n : ℕ) (b : Before) (i j : ℕ) (w : Waits)
    (e0 e1 : List Entry) → IsFitJob job → t.localities ≤ 64 → KeepsLaws n job.kind job.at job.state (plain job.action) out → IsBefore t (seen job) out b
    → n ≡ t.localities → job.at < n → w ≡ waits_with job out n b.asked.items b.stock → Pauses i j job w t m
    → t' ≡ record (with_asks m.here m.asked b.lacking.items m) { asked = m.asked + length b.lacking.items }
    → e1 ≡ (e0 ++ at_all t.here (first_cuts b.own 0 b.hand.items b.places.items)) ++ at_all t.here (asked_events b.lacking.items)
    → 1 ≤ length (lacking t (seen job) out) → job.action.code ≢ 1 → Stands act_of t e0 → Stands act_of t' e1 × Begins t t' job out e0 e1
begins_by act_of t m t' job out n b i j w e0 e1 fit few laws is near below w_is pauses asked cut some other h =
    let its : Job = seen job in
    let its_fit = fit_seen job fit in
    let ids : List Id = lacking t (seen job) out in
    let v : Waits = waits_with job out t.localities (asked_at t.asked (short_before t its out)) (stock_before t its out) in
    let now : Pauses i j job (waits_with job out t.localities (asked_at t.asked (short_before t its out)) (stock_before t its out)) t m =
    subst (λ u. Pauses i j job u t m) (w_is ∙ rw (near, is.asked, is.stock)) pauses in
    let written : e1 ≡ e0 ++ at_all t.here (splits_before t its out ++ asked_events (lacking t its out)) =
    (rw (is.own, is.hand, is.places, is.lacking) at cut)
    ∙ (append_assoc e0 (at_all t.here (splits_before t its out)) (at_all t.here (asked_events ids))
    ∙ ap (λ es. e0 ++ es) (sym (at_all_append t.here (splits_before t its out) (asked_events ids)))) in
    let asks : t' ≡ record (with_asks t.here t.asked (lacking t its out) m) { asked = t.asked + length (lacking t its out) } =
    (rw is.lacking at asked) ∙ ap (λ (y : Tables). record (with_asks y.here y.asked ids m) { asked = y.asked + length ids }) now.rest in
    let at = now.at in
    let waited : State → Tables = λ (s : State). record (with_asks t.here t.asked (lacking t its out) (record t {
      running = remove t.running i;
      objects = set t.objects j (record { object = at.standing.object; state = bare_state s });
      pending = t.pending ++ v ∷ [];
    })) { asked = t.asked + length (lacking t its out) } in
    let ends : t' ≡ waited at.standing.state =
    asks
    ∙ (ap (λ (y : Tables). record (with_asks t.here t.asked (lacking t its out) y) { asked = t.asked + length (lacking t its out) }) now.rest
    ∙ ap waited (sym at.state)) in
    let stands = wait_stands act_of t e0 h i j job out at.standing at.runs at.stands at.found at.here (sym at.kind) (sym at.state)
    (few, omega (arith, below, near)) (map bare (made_of t out)) (none_of (map bare (made_of t out)) (made_of_job n t its out laws its_fit).bare) (places_in_hand t its out)
    (within_hand n t its out laws its_fit) (least_split n t its out laws its_fit)
    (omega (arith, some, length-map (short_before t its out) (id_at (split_stock t its out).hand))) other (fresh_split n t job out laws fit t.profile.credit_log t.localities t.asked) in (
      subst (λ (y : Tables). Stands act_of y e1) (sym ends) (subst (Stands act_of (waited at.standing.state)) (sym written) stands),
      record {
        i = i;
        j = j;
        paused = m;
        pauses = now;
        asks = asks;
        some = some;
        writes = record {
          here = ap (λ (y : Tables). y.here) ends ∙ ap (λ (y : Tables). y.here) (asks_rest t.here t.asked (lacking t its out) _);
          localities = ap (λ (y : Tables). y.localities) ends ∙ ap (λ (y : Tables). y.localities) (asks_rest t.here t.asked (lacking t its out) _);
          profile = ap (λ (y : Tables). y.profile) ends ∙ ap (λ (y : Tables). y.profile) (asks_rest t.here t.asked (lacking t its out) _);
          grows = written;
        };
      },
    )

-- ---- asks, one after another

asks_append : (k n : ℕ) (xs : List Id) (y : Id) (t : Tables) → with_asks k n (xs ++ y ∷ []) t ≡ with_mail y.home (Ask y k (n + length xs + 1)) (with_asks k n xs t)
asks_append k n [] y t = ap (λ e. with_mail y.home (Ask y k e) t) (omega arith)
asks_append k n (x ∷ xs) y t =
    asks_append k (n + 1) xs y (with_mail x.home (Ask x k (n + 1)) t)
    ∙ ap (λ e. with_mail y.home (Ask y k e) (with_asks k (n + 1) xs (with_mail x.home (Ask x k (n + 1)) t))) (omega arith)

pub asks_more : (ids : List Id) (i : ℕ) (x : Id) (t m t' : Tables) → i < length ids → x ≡ get_or ids i x
    → m ≡ record (with_asks t.here t.asked (take i ids) t) { asked = t.asked + length (take i ids) }
    → t' ≡ with_mail x.home (Ask x m.here (m.asked + 1)) (record m { asked = m.asked + 1 })
    → t' ≡ record (with_asks t.here t.asked (take (i + 1) ids) t) { asked = t.asked + length (take (i + 1) ids) }
asks_more ids i x t m t' lt is before goes =
    let e : take (i + 1) ids ≡ take i ids ++ x ∷ [] = take_more ids i x lt ∙ ap (λ y. take i ids ++ y ∷ []) (sym is) in
    let first : Tables = with_asks t.here t.asked (take i ids) t in
    let here : m.here ≡ t.here = ap (λ (y : Tables). y.here) before ∙ ap (λ (y : Tables). y.here) (asks_rest t.here t.asked (take i ids) t) in
    let asked : m.asked ≡ t.asked + length (take i ids) = ap (λ (y : Tables). y.asked) before in
    let more : m.asked + 1 ≡ t.asked + length (take i ids ++ x ∷ []) = omega (arith, asked, length-append (take i ids) (x ∷ [])) in
    goes
    ∙ (ap (λ k. with_mail x.home (Ask x k (m.asked + 1)) (record m { asked = m.asked + 1 })) here
    ∙ (ap (λ (y : Tables). with_mail x.home (Ask x t.here (m.asked + 1)) (record y { asked = m.asked + 1 })) before
    ∙ (ap (λ n. record (with_mail x.home (Ask x t.here (n + 1)) first) { asked = n + 1 }) asked
    ∙ (ap (λ (y : Tables). record y { asked = t.asked + length (take i ids) + 1 }) (sym (asks_append t.here t.asked (take i ids) x t))
    ∙ (ap (λ n. record (with_asks t.here t.asked (take i ids ++ x ∷ []) t) { asked = n }) (ap (λ n. n + 1) (sym asked) ∙ more)
    ∙ ap (λ xs. record (with_asks t.here t.asked xs t) { asked = t.asked + length xs }) (sym e))))))

-- where the tables are the same
pub before_same : (t t' : Tables) (job : Job) (out : Outcome) (b : Before) → t' ≡ t → IsBefore t job out b → IsBefore t' job out b
before_same t t' job out b same is = subst (λ x. IsBefore x job out b) (sym same) is

pub short_same : (t t' : Tables) (job : Job) (out : Outcome) → t' ≡ t → (AllLast (hand_of t job out) (places_in_hand t job out) → ⊥)
    → AllLast (hand_of t' job out) (places_in_hand t' job out) → ⊥
short_same t t' job out same short = subst (λ x. AllLast (hand_of x job out) (places_in_hand x job out) → ⊥) (sym same) short

pub begins_from : (s t u : Tables) (job : Job) (out : Outcome) (e e0 e1 : List Entry) → t ≡ s → e0 ≡ e
    → Begins t u job out e0 e1 → Begins s u job out e e1
begins_from s t u job out e e0 e1 same is h =
    subst (λ x. Begins x u job out e e1) same (subst (λ es. Begins t u job out es e1) is h)
