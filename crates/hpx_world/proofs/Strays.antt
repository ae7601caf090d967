-- Where nothing is under way each object stands somewhere, so none came where it may not stand; and no action lacks a place to go.
use Rattle.std.proofs.Common.{ℕ, true, List, [], ◌∷◌, ◌++◌, ◌≡◌, ◌+◌, ◌<◌, ◌≤◌, Option, Some, None, map, refl, ap, ◌∙◌, subst, arith, inl, inr}
use Rattle.std.specs.List.{slice_get, sum_by, count_by, AllByRecursion}
use Rattle.std.proofs.lemmas.List.Sums.{sum_by-cons}
use Rattle.hpx_value.specs.Ids.{same_object}
use Rattle.hpx_value.specs.Values.{bare_act, bare_state}
use Rattle.hpx_parcel.specs.Parcels.{IsParcel}
use Rattle.hpx_journal.specs.Bags.{total}
use Rattle.hpx_journal.specs.Data.{Id, Act, State, Parcel, Apply, Return, Ask, Give, Cached, Move, Go, Shipped, Arrived, Free}
use Rattle.hpx_journal.specs.Entries.{Rules, move_to, target_of}
use Rattle.hpx_journal.specs.Frames.{acts_in, travel_of}
use Rattle.hpx_journal.specs.Laws.{road_run}
use Rattle.hpx_journal.specs.Local.{is_standing, is_travel}
use Rattle.hpx_journal.specs.Whole.{part, recorded_in, replayed}
use Rattle.hpx_journal.proofs.Bags.{total-add, total-le, total-term}
use Rattle.hpx_journal.proofs.Same.{same_object-refl}
use Rattle.hpx_journal.proofs.Start.{legal_freed}
use Rattle.hpx_part.specs.Data.{Entry, Standing, Travel}
use Rattle.hpx_steps.specs.Homes.{WasStranded}
use Rattle.hpx_steps.specs.Items.{Among}
use Rattle.hpx_steps.specs.Rows.{one_if}
use Rattle.hpx_steps.specs.Sound.{IsStray}
use Rattle.hpx_steps.specs.Turn.{bare_standing, parcel_travels}
use Rattle.hpx_steps.proofs.Changes.{among_all, among_right}
use Rattle.hpx_steps.proofs.Puts.{move_to-bare, target-bare}
use Rattle.hpx_steps.proofs.Sums.{flat_sum, map_sum}
use Rattle.hpx_tables.specs.Tables.{Tables, messages, queued_parcels}
use Rattle.hpx_tables.specs.declared.kept.Outgoing.{Outgoing}
use Rattle.hpx_world.proofs.AtPlace.{stands_once}
use Rattle.hpx_world.proofs.Cleared.{IsCleared, nothing_among}
use Rattle.hpx_world.proofs.Counted.{AreNodes}
use Rattle.hpx_world.proofs.Known.{IsJoined, IsShown}
use Rattle.hpx_world.proofs.Mails.{move_is}
use Rattle.hpx_world.proofs.Named.{IsActMet, lawful, messages_met, met_recorded}
use Rattle.hpx_world.proofs.Numbered.{movable}
use Rattle.hpx_world.proofs.Stranded.{never_stranded}
use Rattle.hpx_world.proofs.Whereabouts.{c, stands_is}

-- ---- lists

among_least : {X : Type 0} (f : X → ℕ) (x : X) (xs : List X) → Among x xs → f x ≤ sum_by f xs
among_least f x [] m = absurd m
among_least f x (y ∷ ys) (inl e) = omega (arith, ap f e, sum_by-cons f y ys)
among_least f x (y ∷ ys) (inr m) = omega (arith, among_least f x ys m, sum_by-cons f y ys)

among_stray : (t : Tables) (p : Parcel) → Among p t.stray → Among p (messages t)
among_stray t p m =
    let carried = map (λ (x : Outgoing). x.parcel) t.outgoing in
    among_right p t.desk (carried ++ (queued_parcels t.queued ++ (t.leaving ++ t.stray)))
    (among_right p carried (queued_parcels t.queued ++ (t.leaving ++ t.stray))
    (among_right p (queued_parcels t.queued) (t.leaving ++ t.stray) (among_right p t.leaving t.stray m)))

-- an object on its way is the target of its MOVE
travels_one : (o : Id) (act : Act) (state : State) (mo : Option ℕ) (to : ℕ) → mo ≡ Some to → same_object o (target_of act) ≡ true
    → 1 ≤ count_by (is_travel o) (travel_of act state mo)
travels_one o act state None to is same = absurd (cc)
travels_one o act state (Some j) to is same =
    let x : Travel = record { object = target_of act; state = state; to = j } in
    omega (arith, ap one_if same, sum_by-cons (λ (y : Travel). one_if (is_travel o y)) x [])

module _ (r : Rules) (log : ℕ) (nodes : List Tables) (es : List Entry) (joined : IsJoined r es) (each : AreNodes r log nodes es)
    (road : road_run [] es ≡ []) (cleared : (k : ℕ) (t : Tables) → slice_get nodes k ≡ Some t → IsCleared t) where
  -- ---- an object stands somewhere, and is nowhere else

  module _ (o : Id) (managed : 16 ≤ o.kind) (some : 1 ≤ recorded_in o (replayed r es)) where
    stands_shown : (k : ℕ) → k < r.localities → (c r log nodes es joined each o managed some).stands k ≤ count_by (is_standing o) ((replayed r es).places k).objects
    stands_shown k lt =
        let y = each.node k lt in
        omega (
          arith,
          stands_is r log nodes es joined each o managed some k lt y.0 y.1,
          (each.shown k y.0 y.1).shows.objects.objects.counts o,
          map_sum (λ (x : Standing). one_if (is_standing o x)) bare_standing y.0.objects,
        )

    none_travels : (k : ℕ) → k < r.localities → count_by (is_travel o) ((replayed r es).places k).travels ≡ 0
    none_travels k lt =
        let up : ℕ → ℕ = λ j. count_by (is_standing o) ((replayed r es).places j).objects in
        let on : ℕ → ℕ = λ j. count_by (is_travel o) ((replayed r es).places j).travels in
        omega (
          arith,
          legal_freed r es (lawful r es joined) o managed,
          total-add r.localities up on,
          total-le r.localities (λ j. (c r log nodes es joined each o managed some).stands j) up stands_shown,
          stands_once r log nodes es joined each road cleared o managed some,
          total-term r.localities on k lt,
        )

  -- ---- what is stray

  module _ (k : ℕ) (t : Tables) (at : slice_get nodes k ≡ Some t) where
    s : IsShown r log es k t
    s = each.shown k t at

    nowhere : (act : Act) (state : State) → Among (Shipped act state) t.stray → ⊥
    nowhere act state m =
        let p = Shipped act state in
        let here = among_stray t p m in
        let form : IsParcel p = among_all IsParcel p (messages t) here s.tidy.messages in
        let met = among_all (λ q. AllByRecursion (IsActMet r (replayed r es)) (acts_in (Some q))) p (messages t) here (messages_met r es joined log k t s) in
        let x = move_is r.localities act form.0 met.0.moves in
        let managed = movable act form.0.target in
        let o = target_of act in
        let some = met_recorded r es joined act met.0 managed in
        omega (
          arith,
          none_travels o managed some k s.lt,
          s.shows.objects.travels.counts o,
          flat_sum (λ (y : Travel). one_if (is_travel o y)) parcel_travels (messages t),
          among_least (λ (q : Parcel). sum_by (λ (y : Travel). one_if (is_travel o y)) (parcel_travels q)) p (messages t) here,
          travels_one o (bare_act act) (bare_state state) (move_to (bare_act act)) x.0 (move_to-bare act ∙ x.2)
              (ap (same_object o) (target-bare act) ∙ same_object-refl o),
        )

    placed : (act : Act) → WasStranded r t.here (part k es) act → ⊥
    placed act x = never_stranded r log es joined (λ j lt. let y = each.node j lt in (each.shown j y.0 y.1).order.sent) k s.lt act
        (subst (λ j. WasStranded r j (part k es) act) s.here x)

    stray_not : (p : Parcel) → IsStray p → Among p t.stray → ⊥
    stray_not (Apply act) h m = placed act (s.homes.own (Apply act) act (inl refl) (inr (inr m)))
    stray_not (Move act) h m = placed act (s.homes.own (Move act) act (inr refl) (inr (inr m)))
    stray_not (Shipped act state) h m = nowhere act state m
    stray_not (Go act) h m = h
    stray_not (Return id) h m = h
    stray_not (Ask id asker entry) h m = h
    stray_not (Give id entry) h m = h
    stray_not (Cached id place) h m = h
    stray_not (Arrived id place) h m = h
    stray_not (Free id) h m = h

    pub none_stray : t.stray ≡ []
    none_stray = nothing_among t.stray (λ p m. stray_not p (among_all IsStray p t.stray m s.tidy.stray) m)
