-- Rows of credits, asks and records.
use Rattle.std.proofs.Common.{ℕ, Bool, true, false, cond, List, [], ◌∷◌, ◌++◌, ◌≡◌, ◌+◌, ◌-◌, ◌^◌, ◌<◌, ◌≤◌, ◌⊎◌, Option, Some, None, refl, sym, ap, ◌∙◌, arith, inl, inr, map}
use Rattle.std.specs.Prelude.{◌==◌}
use Rattle.std.specs.List.{list_any, find, count_by, AllByRecursion}
use Rattle.std.proofs.lemmas.List.Sums.{sum_by-cons}
use Rattle.std.proofs.Math.Pow.{pow_pos}
use Rattle.hpx_value.specs.Ids.{Id, same_object}
use Rattle.hpx_parcel.specs.Credits.{Credit}
use Rattle.hpx_journal.specs.Data.{Act}
use Rattle.hpx_part.specs.Keyed.{Agree}
use Rattle.hpx_journal.specs.Entries.{Rules, name_of}
use Rattle.hpx_journal.specs.Tokens.{held_token, owed_token, same_token}
use Rattle.hpx_journal.specs.Local.{after, is_act, is_recorded, is_given, is_given_none, count_in}
use Rattle.hpx_journal.specs.Rows.{is_dead_record}
use Rattle.hpx_journal.proofs.Alls.{all-append, all-map}
use Rattle.hpx_journal.proofs.Bools.{or_cases, or_left, or_right}
use Rattle.hpx_journal.proofs.Keys.{one_if}
use Rattle.hpx_journal.proofs.Same.{same_object-refl, same_object-true, held-Counts, owed-Counts}
use Rattle.hpx_part.specs.Data.{Split, Merge, Up, Asked, Given, Count, Returned, Granted, Refused, Token, Recorded, Refusal}
use Rattle.hpx_part.specs.View.{View, IsCovered}
use Rattle.hpx_part.specs.Shows.{Follows, same_refusal}
use Rattle.hpx_part.specs.Parts.{Trades, Adds}
use Rattle.hpx_part.proofs.Keys.{own}
use Rattle.hpx_part.proofs.Keyed.{counts_of, any_counted, counted_any}
use Rattle.hpx_part.proofs.Credit.{covers_one, covers_two, traded, held_one, owed_one, held_none, owed_none}
use Rattle.hpx_part.proofs.Covered.{held_counts, owed_counts}
use Rattle.hpx_part.proofs.Stay.{acts_stay, objects_stay, asks_stay, counts_stay}

-- ---- ids, and what is given

abbrev given_with : Id → ℕ → Credit
given_with o log = record { object = o; log = log }

one_own : (o : Id) → count_by (same_object o) (o ∷ []) ≡ 1
one_own o = rw (same_object-refl o) refl

-- ---- records

abbrev recorded_with : Id → ℕ → Recorded
recorded_with o count = record { object = o; count = count }

-- the newest record counts
pub top_counts : (b : Bool) (x : Recorded) (old : Option Recorded) → count_in (cond b (Some x) old) ≡ cond b x.count (count_in old)
top_counts true x old = refl
top_counts false x old = refl

-- a record on top of those that are seen
pub live_top : (x o : Id) (count : ℕ) (there seen more : List Recorded)
    → count_in (find (is_recorded x) there) ≡ count_in (find (is_recorded x) seen)
    → count_in (find (is_recorded x) more) ≡ cond (same_object x o) count (count_in (find (is_recorded x) seen))
    → count_in (find (is_recorded x) (recorded_with o count ∷ there)) ≡ count_in (find (is_recorded x) more)
live_top x o count there seen more same is =
    top_counts (same_object x o) (recorded_with o count) (find (is_recorded x) there)
    ∙ (ap (λ n. cond (same_object x o) count n) same ∙ sym is)

same_count_at : (b : Bool) (count old : ℕ) → (b ≡ true → old ≡ count) → old ≡ cond b count old
same_count_at true count old h = h refl
same_count_at false count old h = refl

-- the same number once more
live_again : (x o : Id) (count : ℕ) (seen : List Recorded) → count_in (find (is_recorded o) seen) ≡ count
    → count_in (find (is_recorded x) seen) ≡ cond (same_object x o) count (count_in (find (is_recorded x) seen))
live_again x o count seen is =
    same_count_at (same_object x o) count (count_in (find (is_recorded x) seen))
    (λ t. ap (λ (k : Id). count_in (find (is_recorded k) seen)) (same_object-true x o t) ∙ is)

-- what is dead stays so under a new record
pub dead_under : (x : Recorded) (counts : List Recorded) (dead : List Id) → AllByRecursion (λ o. list_any (is_dead_record o) counts ≡ true) dead
    → AllByRecursion (λ o. list_any (is_dead_record o) (x ∷ counts) ≡ true) dead
dead_under x counts dead h =
    all-map (λ (o : Id). list_any (is_dead_record o) counts ≡ true) (λ (o : Id). list_any (is_dead_record o) (x ∷ counts) ≡ true)
    (λ o t. or_right (is_dead_record o x) (list_any (is_dead_record o) counts) t) dead h

-- and an object whose number is 0 is dead
dead_more : (b : Bool) (o : Id) (count : ℕ) (counts : List Recorded) (dead : List Id) → (count == 0) ≡ b
    → AllByRecursion (λ x. list_any (is_dead_record x) counts ≡ true) dead
    → AllByRecursion (λ x. list_any (is_dead_record x) (recorded_with o count ∷ counts) ≡ true) (cond b (o ∷ []) [] ++ dead)
dead_more true o count counts dead e h =
    let top : is_dead_record o (recorded_with o count) ≡ true = rw (same_object-refl o) e in
    (or_left _ _ top, dead_under (recorded_with o count) counts dead h)
dead_more false o count counts dead e h = dead_under (recorded_with o count) counts dead h

-- ---- refusals

abbrev refusal_of : Id → Act → Refusal
refusal_of o act = record { action = name_of act; object = o }

fired_refusal : (o : Id) (act : Act) (fired : List Act) (there : List Refusal) → list_any (is_act (name_of act)) fired ≡ true
    → list_any (same_refusal (refusal_of o act)) (map (refusal_of o) fired ++ there) ≡ true
fired_refusal o act [] there h = absurd (cc)
fired_refusal o act (x ∷ xs) there h = elim (or_cases (is_act (name_of act) x) (list_any (is_act (name_of act)) xs) h) [
  | inl t ↦
      let top : same_refusal (refusal_of o act) (refusal_of o x) ≡ true = rw (t, same_object-refl o) refl in
      or_left _ _ top
  | inr t ↦ or_right _ _ (fired_refusal o act xs there t)
]

all_fired : (P : Refusal → Type 0) (o : Id) (fired : List Act) → ((act : Act) → list_any (is_act (name_of act)) fired ≡ true → P (refusal_of o act))
    → AllByRecursion P (map (refusal_of o) fired)
all_fired P o [] h = tt
all_fired P o (x ∷ xs) h = (h x (or_left _ _ (own x)), all_fired P o xs (λ y t. h y (or_right _ _ t)))

abbrev AreAmong : List Refusal → List Refusal → Type 0
AreAmong there seen = AllByRecursion (λ x. list_any (same_refusal x) there ≡ true) seen

later_refusals : (more there seen : List Refusal) → AreAmong there seen → AreAmong (more ++ there) seen
later_refusals [] there seen h = h
later_refusals (x ∷ more) there seen h =
    all-map (λ (y : Refusal). list_any (same_refusal y) (more ++ there) ≡ true) (λ (y : Refusal). list_any (same_refusal y) (x ∷ more ++ there) ≡ true)
    (λ y t. or_right (same_refusal y x) (list_any (same_refusal y) (more ++ there)) t) seen (later_refusals more there seen h)

refusals_more : (b : Bool) (o : Id) (fired fires : List Act) (there seen : List Refusal) → Agree is_act fired fires → AreAmong there seen
    → AreAmong (cond b (map (refusal_of o) fired) [] ++ there) (cond b (map (refusal_of o) fires) [] ++ seen)
refusals_more true o fired fires there seen agree h =
    let P : Refusal → Type 0 = λ x. list_any (same_refusal x) (map (refusal_of o) fired ++ there) ≡ true in
    all-append P (map (refusal_of o) fires) seen
    (all_fired P o fires
    (λ act t. fired_refusal o act fired there
    (any_counted (is_act (name_of act)) fired (omega (arith, agree.counts (name_of act), counted_any (is_act (name_of act)) fires t)))))
    (later_refusals (map (refusal_of o) fired) there seen h)
refusals_more false o fired fires there seen agree h = h

one_failing : (b : Bool) (n : ℕ) → cond b (n + 1) n ≡ n + one_if b
one_failing true n = refl
one_failing false n = omega arith

-- ---- rows of credits

module _ (r : Rules) (v : View) (o : Id) (bare : o.log ≡ None) where
  pub follows_split : (log : ℕ) (tokens : List Token) → v.due ≡ [] → 1 ≤ log → 1 ≤ count_by (same_token (held_token o log)) v.tokens
      → Trades v.tokens (held_token o log ∷ []) (held_token o (log - 1) ∷ held_token o (log - 1) ∷ []) tokens
      → Follows r v (Split o log) (record v { tokens = tokens; last = Some (Split o log) })
  unfolding after
  follows_split log tokens due low one trades = record {
    step = λ s once shown native.
        let covers = covers_one s.tokens v.tokens (held_token o log) shown.credit.tokens one in (
          record { here = refl; turn = shown.acts.due ∙ due; tokens = covers; bare = (bare, tt); row = low },
          record {
            acts = acts_stay v _ s _ refl refl shown.acts;
            objects = objects_stay v _ s _ refl refl refl shown.objects;
            credit = asks_stay v _ s _ refl refl shown.credit (traded s.tokens v.tokens _ _ tokens shown.credit.tokens covers trades);
            counts = counts_stay v _ s _ refl refl shown.counts;
            last = refl;
          },
        );
    form = record { bare = (bare, tt); birth = tt; to = tt };
    here = refl;
    covered = λ covered x managed. record {
      named = omega (
        arith,
        (covered x managed).named,
        trades.sums (held_counts x) (held-Counts x),
        held_one x o log,
        held_one x o (log - 1),
        sum_by-cons (held_counts x) (held_token o (log - 1)) (held_token o (log - 1) ∷ []),
      );
      pending = omega (
        arith,
        (covered x managed).pending,
        trades.sums (owed_counts x) (owed-Counts x),
        owed_none x o log,
        owed_none x o (log - 1),
        sum_by-cons (owed_counts x) (held_token o (log - 1)) (held_token o (log - 1) ∷ []),
      );
    };
  }

  pub follows_merge : (log : ℕ) (tokens : List Token) → v.due ≡ [] → v.fresh ≡ [] → log < r.credit_log
      → 2 ≤ count_by (same_token (held_token o log)) v.tokens
      → Trades v.tokens (held_token o log ∷ held_token o log ∷ []) (held_token o (log + 1) ∷ []) tokens
      → (IsCovered v → IsCovered (record v { tokens = tokens; last = Some (Merge o log) }))
      → Follows r v (Merge o log) (record v { tokens = tokens; last = Some (Merge o log) })
  unfolding after
  follows_merge log tokens due fresh below two trades covered = record {
    step = λ s once shown native.
        let covers = covers_two s.tokens v.tokens (held_token o log) shown.credit.tokens two in (
          record {
            here = refl;
            turn = (shown.acts.due ∙ due, shown.objects.fresh ∙ fresh);
            tokens = covers;
            bare = (bare, tt);
            row = below;
          },
          record {
            acts = acts_stay v _ s _ refl refl shown.acts;
            objects = objects_stay v _ s _ refl refl refl shown.objects;
            credit = asks_stay v _ s _ refl refl shown.credit (traded s.tokens v.tokens _ _ tokens shown.credit.tokens covers trades);
            counts = counts_stay v _ s _ refl refl shown.counts;
            last = refl;
          },
        );
    form = record { bare = (bare, tt); birth = tt; to = tt };
    here = refl;
    covered = covered;
  }

  pub follows_up : (log : ℕ) (tokens : List Token) → v.due ≡ [] → v.fresh ≡ [] → 1 ≤ count_by (same_token (held_token o log)) v.tokens
      → Trades v.tokens (held_token o log ∷ []) (owed_token o log ∷ []) tokens
      → (IsCovered v → IsCovered (record v { tokens = tokens; last = Some (Up o log) }))
      → Follows r v (Up o log) (record v { tokens = tokens; last = Some (Up o log) })
  unfolding after
  follows_up log tokens due fresh one trades covered = record {
    step = λ s once shown native.
        let covers = covers_one s.tokens v.tokens (held_token o log) shown.credit.tokens one in (
          record {
            here = refl;
            turn = (shown.acts.due ∙ due, shown.objects.fresh ∙ fresh);
            tokens = covers;
            bare = (bare, tt);
            row = tt;
          },
          record {
            acts = acts_stay v _ s _ refl refl shown.acts;
            objects = objects_stay v _ s _ refl refl refl shown.objects;
            credit = asks_stay v _ s _ refl refl shown.credit (traded s.tokens v.tokens _ _ tokens shown.credit.tokens covers trades);
            counts = counts_stay v _ s _ refl refl shown.counts;
            last = refl;
          },
        );
    form = record { bare = (bare, tt); birth = tt; to = tt };
    here = refl;
    covered = covered;
  }

  pub follows_asked : (tokens : List Token) (asking asks : List Id) → v.due ≡ [] → v.fresh ≡ []
      → 1 ≤ count_by (same_token (held_token o 0)) v.tokens
      → Trades v.tokens (held_token o 0 ∷ []) (owed_token o 0 ∷ []) tokens → Adds o v.asking asking → Adds o v.asks asks
      → Follows r v (Asked o) (record v { tokens = tokens; asking = asking; asks = asks; last = Some (Asked o) })
  unfolding after
  follows_asked tokens asking asks due fresh one trades asked pending = record {
    step = λ s once shown native.
        let covers = covers_one s.tokens v.tokens (held_token o 0) shown.credit.tokens one in (
          record {
            here = refl;
            turn = (shown.acts.due ∙ due, shown.objects.fresh ∙ fresh);
            tokens = covers;
            bare = (bare, tt);
            row = tt;
          },
          record {
            acts = acts_stay v _ s _ refl refl shown.acts;
            objects = objects_stay v _ s _ refl refl refl shown.objects;
            credit = record {
              tokens = traded s.tokens v.tokens _ _ tokens shown.credit.tokens covers trades;
              asking = λ x. omega (arith, shown.credit.asking x, asked x, sum_by-cons (counts_of (same_object x)) o s.asked);
              asks = λ x. omega (arith, shown.credit.asks x, pending x, sum_by-cons (counts_of (same_object x)) o s.asked);
            };
            counts = counts_stay v _ s _ refl refl shown.counts;
            last = refl;
          },
        );
    form = record { bare = (bare, tt); birth = tt; to = tt };
    here = refl;
    covered = λ covered x managed. record {
      named = omega (
        arith,
        (covered x managed).named,
        trades.sums (held_counts x) (held-Counts x),
        held_one x o 0,
        held_none x o 0,
        asked x,
      );
      pending = omega (
        arith,
        (covered x managed).pending,
        trades.sums (owed_counts x) (owed-Counts x),
        owed_one x o 0,
        owed_none x o 0,
        pending x,
      );
    };
  }

  pub follows_given : (log : ℕ) (tokens : List Token) (asking asks : List Id) → v.due ≡ [] → v.fresh ≡ []
      → (log ≡ 0) ⊎ (log ≡ r.credit_log) → 1 ≤ count_by (same_token (owed_token o log)) v.tokens
      → Trades v.tokens (owed_token o log ∷ []) (held_token o log ∷ []) tokens → Adds o asking v.asking → Adds o asks v.asks
      → Follows r v (Given o log)
      (record v {
        tokens = tokens;
        asking = asking;
        asks = asks;
        refusals = cond (log == 0) (map (λ act. record { action = name_of act; object = o }) v.fired) [] ++ v.refusals;
        failing = cond (log == 0) (v.failing + 1) v.failing;
        last = Some (Given o log);
      })
  unfolding after
  follows_given log tokens asking asks due fresh logs one trades asked pending = record {
    step = λ s once shown native.
        let covers = covers_one s.tokens v.tokens (owed_token o log) shown.credit.tokens one in (
          record {
            here = refl;
            turn = (shown.acts.due ∙ due, shown.objects.fresh ∙ fresh);
            tokens = covers;
            bare = (bare, tt);
            row = (logs, omega (arith, shown.credit.asking o, asked o, one_own o));
          },
          record {
            acts = acts_stay v _ s _ refl refl shown.acts;
            objects = objects_stay v _ s _ refl refl refl shown.objects;
            credit = record {
              tokens = traded s.tokens v.tokens _ _ tokens shown.credit.tokens covers trades;
              asking = λ x. omega (arith, shown.credit.asking x, asked x, sum_by-cons (counts_of (is_given x)) (given_with o log) s.given);
              asks = λ x. omega (arith, shown.credit.asks x, pending x, sum_by-cons (counts_of (is_given x)) (given_with o log) s.given);
            };
            counts = record {
              live = shown.counts.live;
              dead = shown.counts.dead;
              refusals = refusals_more (log == 0) o s.fired v.fired s.refusals v.refusals shown.acts.fired shown.counts.refusals;
              failing = omega (
                arith,
                shown.counts.failing,
                sum_by-cons (counts_of is_given_none) (given_with o log) s.given,
                one_failing (log == 0) v.failing,
              );
            };
            last = refl;
          },
        );
    form = record { bare = (bare, tt); birth = tt; to = tt };
    here = refl;
    covered = λ covered x managed. record {
      named = omega (
        arith,
        (covered x managed).named,
        trades.sums (held_counts x) (held-Counts x),
        held_one x o log,
        held_none x o log,
        asked x,
      );
      pending = omega (
        arith,
        (covered x managed).pending,
        trades.sums (owed_counts x) (owed-Counts x),
        owed_one x o log,
        owed_none x o log,
        pending x,
      );
    };
  }

-- ---- rows of records

module _ (r : Rules) (v : View) (o : Id) (bare : o.log ≡ None) (home : o.home ≡ v.here) where
  pub follows_returned : (log count : ℕ) (tokens : List Token) (live : List Recorded) → v.due ≡ [] → v.fresh ≡ []
      → count_in (find (is_recorded o) v.live) ≡ count + 2 ^ log
      → 1 ≤ count_by (same_token (owed_token o log)) v.tokens → Trades v.tokens (owed_token o log ∷ []) [] tokens
      → ((x : Id) → x.home ≡ v.here → count_in (find (is_recorded x) live)
      ≡ cond (same_object x o) count (count_in (find (is_recorded x) v.live)))
      → (IsCovered v → IsCovered (record v {
        tokens = tokens;
        live = live;
        dead = cond (count == 0) (o ∷ []) [] ++ v.dead;
        last = Some (Count o count (Returned log));
      }))
      → Follows r v (Count o count (Returned log))
      (record v { tokens = tokens; live = live; dead = cond (count == 0) (o ∷ []) [] ++ v.dead; last = Some (Count o count (Returned log)) })
  unfolding after
  follows_returned log count tokens live due fresh is one trades lives covered = record {
    step = λ s once shown native.
        let covers = covers_one s.tokens v.tokens (owed_token o log) shown.credit.tokens one in
        let positive : 0 < 2 ^ log = pow_pos log in (
          record {
            here = refl;
            turn = (shown.acts.due ∙ due, shown.objects.fresh ∙ fresh);
            tokens = covers;
            bare = (bare, tt);
            row = (
              home ∙ sym shown.acts.here,
              omega (arith, shown.counts.live o home, is),
              omega (arith, shown.counts.live o home, is),
            );
          },
          record {
            acts = acts_stay v _ s _ refl refl shown.acts;
            objects = objects_stay v _ s _ refl refl refl shown.objects;
            credit = asks_stay v _ s _ refl refl shown.credit (traded s.tokens v.tokens _ _ tokens shown.credit.tokens covers trades);
            counts = record {
              live = λ x at. live_top x o count s.counts v.live live (shown.counts.live x at) (lives x at);
              dead = dead_more (count == 0) o count s.counts v.dead refl shown.counts.dead;
              refusals = shown.counts.refusals;
              failing = shown.counts.failing;
            };
            last = refl;
          },
        );
    form = record { bare = (bare, tt); birth = tt; to = tt };
    here = refl;
    covered = covered;
  }

  pub follows_granted : (old count : ℕ) (tokens : List Token) (live : List Recorded) → v.due ≡ [] → v.fresh ≡ []
      → count_in (find (is_recorded o) v.live) ≡ old → 1 ≤ old → count + 1 ≡ old + 2 ^ r.credit_log → count ≤ r.credit_limit
      → 1 ≤ count_by (same_token (owed_token o 0)) v.tokens
      → Trades v.tokens (owed_token o 0 ∷ []) (owed_token o r.credit_log ∷ []) tokens
      → ((x : Id) → x.home ≡ v.here → count_in (find (is_recorded x) live)
      ≡ cond (same_object x o) count (count_in (find (is_recorded x) v.live)))
      → Follows r v (Count o count Granted) (record v { tokens = tokens; live = live; last = Some (Count o count Granted) })
  unfolding after
  follows_granted old count tokens live due fresh is some more limit one trades lives = record {
    step = λ s once shown native.
        let covers = covers_one s.tokens v.tokens (owed_token o 0) shown.credit.tokens one in (
          record {
            here = refl;
            turn = (shown.acts.due ∙ due, shown.objects.fresh ∙ fresh);
            tokens = covers;
            bare = (bare, tt);
            row = (
              home ∙ sym shown.acts.here,
              omega (arith, shown.counts.live o home, is),
              omega (arith, shown.counts.live o home, is),
              limit,
            );
          },
          record {
            acts = acts_stay v _ s _ refl refl shown.acts;
            objects = objects_stay v _ s _ refl refl refl shown.objects;
            credit = asks_stay v _ s _ refl refl shown.credit (traded s.tokens v.tokens _ _ tokens shown.credit.tokens covers trades);
            counts = record {
              live = λ x at. live_top x o count s.counts v.live live (shown.counts.live x at) (lives x at);
              dead = dead_under (recorded_with o count) s.counts v.dead shown.counts.dead;
              refusals = shown.counts.refusals;
              failing = shown.counts.failing;
            };
            last = refl;
          },
        );
    form = record { bare = (bare, tt); birth = tt; to = tt };
    here = refl;
    covered = λ covered x managed. record {
      named = omega (
        arith,
        (covered x managed).named,
        trades.sums (held_counts x) (held-Counts x),
        held_none x o 0,
        held_none x o r.credit_log,
      );
      pending = omega (
        arith,
        (covered x managed).pending,
        trades.sums (owed_counts x) (owed-Counts x),
        owed_one x o 0,
        owed_one x o r.credit_log,
      );
    };
  }

  pub follows_refused : (count : ℕ) → v.due ≡ [] → v.fresh ≡ [] → count_in (find (is_recorded o) v.live) ≡ count → 1 ≤ count
      → r.credit_limit + 1 < count + 2 ^ r.credit_log → 1 ≤ count_by (same_token (owed_token o 0)) v.tokens
      → Follows r v (Count o count Refused) (record v { last = Some (Count o count Refused) })
  unfolding after
  follows_refused count due fresh is some limit one = record {
    step = λ s once shown native.
        let covers = covers_one s.tokens v.tokens (owed_token o 0) shown.credit.tokens one in
        let same : Trades v.tokens (owed_token o 0 ∷ []) (owed_token o 0 ∷ []) v.tokens = record { sums = λ f weight. refl } in (
          record {
            here = refl;
            turn = (shown.acts.due ∙ due, shown.objects.fresh ∙ fresh);
            tokens = covers;
            bare = (bare, tt);
            row = (
              home ∙ sym shown.acts.here,
              omega (arith, shown.counts.live o home, is),
              omega (arith, shown.counts.live o home, is),
              omega (arith, shown.counts.live o home, is),
            );
          },
          record {
            acts = acts_stay v _ s _ refl refl shown.acts;
            objects = objects_stay v _ s _ refl refl refl shown.objects;
            credit = asks_stay v _ s _ refl refl shown.credit (traded s.tokens v.tokens _ _ v.tokens shown.credit.tokens covers same);
            counts = record {
              live = λ x at. live_top x o count s.counts v.live v.live (shown.counts.live x at) (live_again x o count v.live is);
              dead = dead_under (recorded_with o count) s.counts v.dead shown.counts.dead;
              refusals = shown.counts.refusals;
              failing = shown.counts.failing;
            };
            last = refl;
          },
        );
    form = record { bare = (bare, tt); birth = tt; to = tt };
    here = refl;
    covered = λ covered x managed. record { named = (covered x managed).named; pending = (covered x managed).pending };
  }
