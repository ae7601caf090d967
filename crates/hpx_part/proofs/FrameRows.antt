-- Rows of frames.
use Rattle.std.proofs.Common.{ℕ, List, [], ◌∷◌, ◌++◌, ◌≡◌, ◌≢◌, ◌<◌, ◌≤◌, Option, Some, None, refl, sym, ap, ◌∙◌, subst, arith, inl, inr, map}
use Rattle.std.specs.List.{count_by, find, AllByRecursion}
use Rattle.std.proofs.lemmas.List.Sums.{sum_by-append}
use Rattle.hpx_value.specs.Ids.{Id, same_object}
use Rattle.hpx_value.specs.Values.{bare_act, bare_state}
use Rattle.hpx_parcel.specs.Parcels.{IsParcel}
use Rattle.hpx_journal.specs.Bags.{minus, Covers, AnyOf}
use Rattle.hpx_journal.specs.Data.{Act, State, Parcel, Apply, Return, Ask, Give, Cached, Move, Go, Shipped, Arrived, Free}
use Rattle.hpx_journal.specs.Entries.{Rules, name_of, target_of, move_to}
use Rattle.hpx_journal.specs.Frames.{acts_in, travels_in, travel_of, tokens_in, asks_in}
use Rattle.hpx_journal.specs.Foreign.{present, kept, IsForeignAct, IsForeignTravel, IsForeignIn}
use Rattle.hpx_journal.specs.Local.{after, is_act, is_travel}
use Rattle.hpx_journal.specs.Rows.{MayGo}
use Rattle.hpx_journal.specs.Tokens.{same_token}
use Rattle.hpx_journal.proofs.Moves.{IsShort, acts_short}
use Rattle.hpx_journal.proofs.Same.{held-Counts, owed-Counts}
use Rattle.hpx_part.specs.Data.{In, Out, Travel, Token, Local}
use Rattle.hpx_part.specs.Keyed.{Agree}
use Rattle.hpx_part.specs.Loads.{Exchanges, load_of, nothing}
use Rattle.hpx_part.specs.View.{View, IsCovered}
use Rattle.hpx_part.specs.Shows.{Shows, Follows, SameTokens}
use Rattle.hpx_part.specs.Parts.{Trades, MayLeave}
use Rattle.hpx_part.proofs.Covered.{held_counts, owed_counts, act_names, travel_names}
use Rattle.hpx_part.proofs.Credit.{covers_out, traded}
use Rattle.hpx_part.proofs.Keyed.{counts_of}
use Rattle.hpx_part.proofs.Keys.{means, own, travels, means_travel, own_travel}
use Rattle.hpx_part.proofs.Loads.{Agree-goes, Agree-comes}
use Rattle.hpx_part.proofs.Parcels.{all_named, asks_owed}
use Rattle.hpx_part.proofs.Stay.{counts_stay}
use Rattle.hpx_part.proofs.Telling.{tells_act, tells_travel}
use Rattle.hpx_part.proofs.Weaken.{dead_among}

-- ---- where a parcel goes

-- the object that a parcel ships is the one that travels here
shipped_there : (xs : List Travel) (act : Act) (state : State) (to : ℕ) (moves : Option ℕ) → moves ≡ Some to
    → AllByRecursion (λ (x : Travel). find (is_travel x.object) xs ≡ Some x) (travel_of act state moves)
    → find (is_travel (target_of act)) xs ≡ Some (record { object = target_of act; state = state; to = to })
shipped_there xs act state to None e all = cc
shipped_there xs act state to (Some t) e all =
    let i : t ≡ to = cc in
    subst (λ n. find (is_travel (target_of act)) xs ≡ Some (record { object = target_of act; state = state; to = n })) i all.0

may_go : (v : View) (s : Local) (to : ℕ) (p : Parcel) → Shows v s → MayLeave v to p
    → AllByRecursion (λ (x : Travel). find (is_travel x.object) s.travels ≡ Some x) (travels_in (Some p)) → MayGo s to p
may_go v s to (Apply act) shown h there = tt
may_go v s to (Move act) shown h there = tt
may_go v s to (Go act) shown h there = tt
may_go v s to (Shipped act state) shown h there =
    (h, shipped_there s.travels (bare_act act) (bare_state state) to (move_to (bare_act act)) h there)
may_go v s to (Return id) shown h there = h
may_go v s to (Ask id asker entry) shown h there = h
may_go v s to (Arrived id place) shown h there = h
may_go v s to (Give id entry) shown h there = shown.acts.here ∙ h
may_go v s to (Free o) shown h there = (shown.acts.here ∙ h.0, dead_among o s v.dead shown.counts.dead h.1)
may_go v s to (Cached o place) shown h there = tt

-- ---- what comes

-- a parcel has one object at most
travels_short : (p : Option Parcel) → IsShort (travels_in p)
travels_short None = tt
travels_short (Some (Shipped act state)) = short (bare_act act) (bare_state state) (move_to (bare_act act))
  where
    short : (act : Act) (state : State) (moves : Option ℕ) → IsShort (travel_of act state moves)
    short act state None = tt
    short act state (Some to) = tt
travels_short (Some _) = tt

new_acts : (s : Local) (acts : List Act) → (AnyOf (IsForeignAct s) acts → ⊥)
    → AllByRecursion (λ (x : Act). count_by (is_act (name_of x)) s.waiting ≡ 0) acts
new_acts s [] native = tt
new_acts s (x ∷ acts) native =
    (omega (arith, λ (h : 1 ≤ present (name_of x) s). native (inl (inl h))), new_acts s acts (λ h. native (inr h)))

new_travels : (s : Local) (xs : List Travel) → (AnyOf (IsForeignTravel s) xs → ⊥)
    → AllByRecursion (λ (x : Travel). count_by (is_travel x.object) s.travels ≡ 0) xs
new_travels s [] native = tt
new_travels s (x ∷ xs) native =
    (omega (arith, λ (h : 1 ≤ kept x.object s). native (inl (inr (inl h)))), new_travels s xs (λ h. native (inr h)))

-- ---- rows

module _ (r : Rules) (v : View) (p : Parcel) (bytes : List ℕ) (waiting : List Act) (moving : List Travel) (tokens : List Token) (asks : List Id)
    (due : v.due ≡ []) (fresh : v.fresh ≡ []) (spelled : r.parcel_of bytes ≡ Some p) where
  pub follows_out : (to : ℕ) → to < r.localities → to ≢ v.here → MayLeave v to p
      → Exchanges (load_of p) nothing v (record v { waiting = waiting; travels = moving; tokens = tokens; asks = asks; last = Some (Out to bytes) })
      → (IsCovered v → IsCovered (record v { waiting = waiting; travels = moving; tokens = tokens; asks = asks; last = Some (Out to bytes) }))
      → Follows r v (Out to bytes) (record v { waiting = waiting; travels = moving; tokens = tokens; asks = asks; last = Some (Out to bytes) })
  unfolding after
  follows_out to range away may loads covered = record {
    step = λ s once shown native.
        let trades : Trades v.tokens (tokens_in (Some p)) [] tokens = record { sums = λ f fair. loads.tokens f fair } in
        let covers = covers_out s.tokens v.tokens (tokens_in (Some p)) tokens shown.credit.tokens trades in
        let acts = Agree-goes tells_act is_act name_of means own s.waiting v.waiting waiting (acts_in (Some p)) (acts_short (Some p))
        shown.acts.waiting (λ f. omega (arith, loads.acts f)) in
        let gone = Agree-goes tells_travel is_travel travels means_travel own_travel s.travels v.travels moving (travels_in (Some p)) (travels_short (Some p))
        shown.objects.travels (λ f. omega (arith, loads.travels f)) in (
          record {
            here = refl;
            turn = (shown.acts.due ∙ due, shown.objects.fresh ∙ fresh);
            tokens = subst (λ q. Covers same_token s.tokens (tokens_in q)) (sym spelled) covers;
            bare = tt;
            row = (range, λ e. away (e ∙ shown.acts.here), (p, spelled, acts.0, may_go v s to p shown may gone.0));
          },
          record {
            acts = record {
              here = shown.acts.here;
              serial = shown.acts.serial;
              waiting = subst (λ q. Agree is_act (minus is_act s.waiting (map name_of (acts_in q))) waiting) (sym spelled) acts.1;
              fired = shown.acts.fired;
              due = shown.acts.due;
            };
            objects = record {
              number = shown.objects.number;
              objects = shown.objects.objects;
              travels = subst (λ q. Agree is_travel (minus is_travel s.travels (map (λ (x : Travel). x.object) (travels_in q))) moving) (sym spelled) gone.1;
              fresh = shown.objects.fresh;
            };
            credit = record {
              tokens = subst (λ q. SameTokens (minus same_token s.tokens (tokens_in q)) tokens) (sym spelled)
                  (traded s.tokens v.tokens (tokens_in (Some p)) [] tokens shown.credit.tokens covers trades);
              asking = shown.credit.asking;
              asks = λ x. omega (
                arith,
                shown.credit.asks x,
                loads.asks x,
                ap (λ q. count_by (same_object x) (asks_in q)) spelled,
                sum_by-append (counts_of (same_object x)) (asks_in (r.parcel_of bytes)) s.asks_gone,
              );
            };
            counts = counts_stay v _ s _ refl refl shown.counts;
            last = refl;
          },
        );
    form = record { bare = tt; birth = tt; to = range };
    here = refl;
    covered = covered;
  }

  pub follows_in : IsParcel p
      → Exchanges nothing (load_of p) v (record v { waiting = waiting; travels = moving; tokens = tokens; asks = asks; last = Some (In bytes) })
      → Follows r v (In bytes) (record v { waiting = waiting; travels = moving; tokens = tokens; asks = asks; last = Some (In bytes) })
  unfolding after
  follows_in parcel loads = record {
    step = λ s once shown native.
        let trades : Trades v.tokens [] (tokens_in (Some p)) tokens = record { sums = λ f fair. loads.tokens f fair } in
        let acts = Agree-comes tells_act is_act name_of means own s.waiting v.waiting waiting (acts_in (Some p)) (acts_short (Some p))
        shown.acts.waiting (new_acts s (acts_in (Some p)) (λ h. native (subst (IsForeignIn s) (sym spelled) (inl h))))
        (λ f. omega (arith, loads.acts f)) in
        let come = Agree-comes tells_travel is_travel travels means_travel own_travel s.travels v.travels moving (travels_in (Some p)) (travels_short (Some p))
        shown.objects.travels (new_travels s (travels_in (Some p)) (λ h. native (subst (IsForeignIn s) (sym spelled) (inr h))))
        (λ f. omega (arith, loads.travels f)) in (
          record {
            here = refl;
            turn = (shown.acts.due ∙ due, shown.objects.fresh ∙ fresh);
            tokens = tt;
            bare = tt;
            row = (p, spelled);
          },
          record {
            acts = record {
              here = shown.acts.here;
              serial = shown.acts.serial;
              waiting = subst (λ q. Agree is_act (acts_in q ++ s.waiting) waiting) (sym spelled) acts;
              fired = shown.acts.fired;
              due = shown.acts.due;
            };
            objects = record {
              number = shown.objects.number;
              objects = shown.objects.objects;
              travels = subst (λ q. Agree is_travel (travels_in q ++ s.travels) moving) (sym spelled) come;
              fresh = shown.objects.fresh;
            };
            credit = record {
              tokens = subst (λ q. SameTokens (tokens_in q ++ s.tokens) tokens) (sym spelled)
                  (traded s.tokens v.tokens [] (tokens_in (Some p)) tokens shown.credit.tokens tt trades);
              asking = shown.credit.asking;
              asks = λ x. omega (
                arith,
                shown.credit.asks x,
                loads.asks x,
                ap (λ q. count_by (same_object x) (asks_in q)) spelled,
                sum_by-append (counts_of (same_object x)) (asks_in (r.parcel_of bytes)) s.asks_come,
              );
            };
            counts = counts_stay v _ s _ refl refl shown.counts;
            last = refl;
          },
        );
    form = record { bare = tt; birth = tt; to = tt };
    here = refl;
    covered = λ covered x managed. record {
      named = omega (
        arith,
        (covered x managed).named,
        loads.tokens (held_counts x) (held-Counts x),
        all_named x managed p parcel,
        loads.acts (act_names x),
        loads.travels (travel_names x),
      );
      pending = omega (
        arith,
        (covered x managed).pending,
        loads.tokens (owed_counts x) (owed-Counts x),
        asks_owed x p parcel,
        loads.asks x,
      );
    };
  }
