-- The objects that stand here are in another order.
use Rattle.hpx_steps.proofs.Common.{AllByRecursion, Among, Bool, Entry, HasCommits, HasObject, Id, IsSound, IsTidy, IsWhole, List, None, Option, Reorders, Rules, Single, Some, Standing, StandsHere, TidyAt, Turn, Waits, Act, [], ap, arith, asked_by, asks_under, bare_names, commits, count_by, counts_false, counts_of, counts_true, find, find_passes, freeing, given_to, hopping, inl, inr, is_some, is_standing, joined, refl, same_object-refl, same_object-true, session, slice_get, subst, suc, sum_by-cons, sym, target_of, unpaid, view, waits_for, worth, zero, ℕ, ◌∙◌, ◌∷◌, ◌≡◌, ◌≤◌, grants_here, leads_away, tells_come, flow, tells_own, brought, moved_by}
use Rattle.hpx_steps.proofs.Tools.{found_among, same_objects, stands_of, Changes, Sees, Stills, all_among, among_all, fewer, holding, if_so, objects_change, retidy, sees_leads, single_found, view_worth, same_tracks, same_says, same_flows}
use Rattle.hpx_journal.proofs.Bags.{find-nothing}
use Rattle.std.proofs.lemmas.List.Elements.{All-from_recursion, recursion_from_All}
use Rattle.std.proofs.lemmas.List.Sorted.{All-permutation, sum_by-IsPermutation}
use Rattle.std.specs.List.Sorted.{IsPermutation}

-- ---- what is found, and how often

pub none_count : (p : Standing → Bool) (xs : List Standing) → find p xs ≡ None → count_by p xs ≡ 0
none_count p [] h = refl
none_count p (x ∷ xs) h = if_so (p x) (λ t. absurd (let e : Some x ≡ None = rw t at h in cc))
    (λ f. omega (arith, sum_by-cons (counts_of p) x xs, counts_false p x f, none_count p xs (rw f at h)))

among_place : (x : Standing) (xs : List Standing) → Among x xs → (j : ℕ) × (slice_get xs j ≡ Some x)
among_place x [] m = absurd m
among_place x (y ∷ ys) (inl e) = (zero, ap (λ z. Some z) e)
among_place x (y ∷ ys) (inr m) = let at = among_place x ys m in (suc at.0, at.1)

pub single_count : (xs : List Standing) → Single xs → (o : Id) → count_by (is_standing o) xs ≤ 1
single_count [] h o = omega arith
single_count (x ∷ xs) h o = if_so (is_standing o x)
    (λ t. omega (
      arith,
      sum_by-cons (counts_of (is_standing o)) x xs,
      counts_true (is_standing o) x t,
      none_count (is_standing o) xs (ap (λ (q : Id). find (is_standing q) xs) (same_object-true o x.object t) ∙ h.0),
    ))
    (λ f. omega (arith, sum_by-cons (counts_of (is_standing o)) x xs, counts_false (is_standing o) x f, single_count xs h.1 o))

count_single : (xs : List Standing) → ((o : Id) → count_by (is_standing o) xs ≤ 1) → Single xs
count_single [] h = tt
count_single (x ∷ xs) h = (
  find-nothing (is_standing x.object) xs
      (omega (arith, h x.object, sum_by-cons (counts_of (is_standing x.object)) x xs, counts_true (is_standing x.object) x (same_object-refl x.object))),
  count_single xs (λ o. omega (arith, h o, sum_by-cons (counts_of (is_standing o)) x xs)),
)

-- ---- in another order

module _ (xs ys : List Standing) (same : IsPermutation xs ys) where
  all_then : (P : Standing → Type 0) → AllByRecursion P xs → AllByRecursion P ys
  all_then P h = recursion_from_All P ys (All-permutation P xs ys same (All-from_recursion P xs h))

  among_before : (x : Standing) → Among x ys → Among x xs
  among_before x m = among_all (λ y. Among y xs) x ys m (all_then (λ y. Among y xs) (all_among (λ y. Among y xs) xs (λ y n. n)))

  counts_then : (p : Standing → Bool) → count_by p ys ≡ count_by p xs
  counts_then p = sum_by-IsPermutation (counts_of p) xs ys same

  module _ (single : Single xs) where
    single_then : Single ys
    single_then = count_single ys (λ o. omega (arith, single_count xs single o, counts_then (is_standing o)))

    found_then : (o : Id) → find (is_standing o) ys ≡ find (is_standing o) xs
    found_then o = each (find (is_standing o) ys) refl
      where
        each : (k : Option Standing) → find (is_standing o) ys ≡ k → k ≡ find (is_standing o) xs
        each None is = sym (find-nothing (is_standing o) xs (omega (arith, none_count (is_standing o) ys is, counts_then (is_standing o))))
        each (Some z) is =
            let at = among_place z xs (among_before z (found_among (is_standing o) ys z is)) in
            sym (single_found xs at.0 z o single at.1 (find_passes (is_standing o) ys z is))

    commits_then : (running : List Act) (cs : List Waits) → HasCommits xs running cs → HasCommits ys running cs
    commits_then running cs h = record {
      each = each cs h.each;
      apart = h.apart;
      whole = all_then (IsWhole cs) h.whole;
      lent = λ o managed. omega (arith, h.lent o managed, sum_by-IsPermutation (λ (y : Standing). bare_names o y.state.ids) xs ys same);
    }
      where
        each : (ws : List Waits) → AllByRecursion (HasObject xs) ws → AllByRecursion (HasObject ys) ws
        each [] all = tt
        each (w ∷ ws) all = (
          record { standing = all.0.standing; found = found_then (target_of w.job.action) ∙ all.0.found; kind = all.0.kind; state = all.0.state },
          each ws all.1,
        )

module _ (r : Rules) (s : Turn) (entries : List Entry) (h : IsSound r s entries) (ys : List Standing) (same : IsPermutation s.tables.objects ys) where
  abbrev now : Turn
  now = record s { tables = record s.tables { objects = ys } }

  abbrev xs : List Standing
  xs = s.tables.objects

  found : (o : Id) → find (is_standing o) ys ≡ find (is_standing o) s.tables.objects
  found = found_then xs ys same h.places.single

  pub change : Changes [] [] s now
  change = objects_change [] [] s ys (record {
    sums = λ w. omega (arith, sum_by-IsPermutation (λ x. w (StandsHere x)) xs ys same);
    there = λ x m. inl (among_before xs ys same x m);
  })

  tidy : IsTidy now
  tidy = holding (TidyAt now) [] s now change.1
      (λ y m. retidy s.tables.here s.tables.localities s.tables.profile.credit_log s.tables.births s.tables.births s.tables.objects ys (omega arith)
      (λ o t. ap is_some (found o) ∙ t) y (h.tidy y m))
      tt

  sees : Sees (view s) now
  sees = record {
    rest = refl;
    waiting = λ f. refl;
    fired = λ f. refl;
    objects = λ f. same_objects f s now (omega (arith, change.0 (stands_of f)));
    travels = λ f. refl;
    tokens = λ f fair. omega (arith, view_worth f s, view_worth f now, change.0 (worth f));
    asking = λ o. refl;
    asks = λ o. refl;
    live = λ o home. refl;
    dead = λ o. omega arith;
    refusals = λ y k. k;
    failing = omega arith;
  }

  reorder_stills : Stills r s now
  reorder_stills = record {
    same = refl;
    leads = sees_leads r (view s) now sees;
    tidy = tidy;
    places = record {
      serves = λ zero. ap is_some (found session) ∙ h.places.serves zero;
      unborn = h.places.unborn;
      places = h.places.places;
      single = single_then xs ys same h.places.single;
      once = h.places.once;
    };
    commits = commits_then xs ys same h.places.single s.tables.running (commits s) h.commits;
    numbered = fewer s now (omega arith) (λ n. omega (arith, change.0 (asks_under n)));
    rows = λ row own. omega (arith, change.0 (unpaid row));
    once = omega (arith, change.0 hopping);
    fired = omega (arith, change.0 joined);
    frees = λ o. omega (arith, change.0 (freeing o));
    says = same_says (λ q j. 0) (λ q. 0) s now refl (λ q k. omega (arith, change.0 (tells_come q k))) (λ q. omega (arith, change.0 (tells_own q)));
    came = omega arith;
    arrived = λ a. omega (arith, h.arrived a, change.0 (brought a), change.0 (moved_by a));
    flows = same_flows r None s now refl (λ o. refl) (λ f own. omega (arith, change.0 (flow s.tables.here f)));
    tracks = same_tracks (λ q. 0) (λ q. 0) s now (λ q. refl) refl refl (λ q. omega (arith, change.0 (grants_here q))) (λ q. omega (arith, change.0 (leads_away s.tables.here q)));
    asked = λ o n. omega (arith, change.0 (asked_by s.tables.here o n), change.0 (waits_for o n));
    given = λ k d o n. omega (arith, change.0 (given_to k o n));
  }

pub reorder_step : (r : Rules) (s s' : Turn) (entries : List Entry) → IsSound r s entries → Reorders s s' → Stills r s s'
reorder_step r s s' entries h g = subst (Stills r s) (sym g.now) (reorder_stills r s entries h g.objects g.same)
