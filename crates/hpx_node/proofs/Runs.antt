-- A prepared commit of an action that runs, as the call writes it.
use Rattle.hpx_node.proofs.Common.{Act, Done, Ends, Entry, Event, Id, IsAt, IsFitJob, IsKept, IsLeftBy, IsPrepared, IsStock, IsTidy, Job, KeepsLaws, List, Makes, OnlyLeaves, Option, Outcome, Prepared, Some, Standing, Stands, State, Stock, Tables, Writes, [], all_at, answered_by, ap, append-nil, append_assoc, at_all, bare, bare_act, bare_state, birth_of, births_of, committed, committed_from, committed_told, due_dealt, false, halved_from, hand_of, length, made_of, map, message_of, name_of, named, new_standing, own_stock, places_in_hand, plain, refl, remains, remove, rider_events, rider_of, rules_of, seen, set, slice_get, some_same, splits_from, state_dealt, subst, sym, unnamed, ups, with_done_told, written_due, ℕ, ◌++◌, ◌+◌, ◌<◌, ◌∙◌, ◌∷◌, ◌≡◌, ◌≤◌, true}
use Rattle.std.specs.Option.{option_to_list}
use Rattle.hpx_tables.specs.declared.kept.Arrival.{Arrival}
use Rattle.hpx_steps.proofs.Committed.{told_stands}
use Rattle.hpx_node.specs.Commits.{Notes, tells}
use Rattle.hpx_node.proofs.Committing.{all_told, all_written, new_there}
use Rattle.hpx_node.proofs.Told.{move_notes, noted, told_of}
use Rattle.hpx_node.proofs.LeftBy.{kept_then, left_by}
use Rattle.hpx_node.proofs.Planned.{made_fit}
use Rattle.hpx_node.proofs.Seen.{fit_seen}
use Rattle.hpx_node.proofs.PlanWeights.{written_same}
use Rattle.hpx_node.proofs.Turned.{at_rest_tidy}
use Rattle.hpx_node.proofs.Waited.{lent_kept}

-- the object keeps its form
module _ (t : Tables) (job : Job) (out : Outcome) (fit : IsFitJob job) (few : t.localities ≤ 64)
    (laws : KeepsLaws t.localities job.kind job.at job.state (plain job.action) out) (p : Prepared) (is : IsPrepared t job out p) (i j : ℕ) (at : IsAt t i j job) (tidy : IsTidy t []) where
  lent : IsKept (record { object = at.standing.object; state = bare_state job.state })
  lent = lent_kept at.standing job.state (all_at IsKept t.objects j at.standing tidy.objects at.stands) at.state fit.state

  pub runs_kept : (t1 : Tables) → slice_get t1.objects j ≡ Some at.standing → (x : Standing) → slice_get t1.objects j ≡ Some x → IsKept (record { object = x.object; state = p.plan.state })
  runs_kept t1 there x h =
      subst (λ (y : Standing). IsKept (record { object = y.object; state = p.plan.state })) (some_same at.standing x (sym there ∙ h))
      (subst (λ s. IsKept (record { object = at.standing.object; state = s })) (sym is.state_left)
      (kept_then t (seen job) out (fit_seen job fit) few laws p.stock is.stock (record { object = at.standing.object; state = bare_state job.state }) lent at.kind refl))

module _ (t : Tables) (job : Job) (out : Outcome) (p : Prepared) (is : IsPrepared t job out p) (own : p.stock ≡ own_stock t (seen job) out) (i j : ℕ) (at : IsAt t i j job)
    (t1 t2 : Tables) (made : Makes p.births.items [] t t1) (running : t2.running ≡ remove t1.running i)
    (objects : (x : Standing) → slice_get t1.objects j ≡ Some x → t2.objects ≡ set t1.objects j (record { object = x.object; state = p.plan.state }))
    (rest : t2 ≡ record t1 { running = t2.running; objects = t2.objects; answered = t1.answered + answered_by (slice_get t1.running i) }) where
  still_runs : slice_get t1.running i ≡ Some job.action
  still_runs = ap (λ (x : Tables). slice_get x.running i) made.rest ∙ at.runs

  rest_is : t2 ≡ record t1 { running = remove t.running i; pending = t.pending; objects = t2.objects; answered = t1.answered + answered_by (Some job.action) }
  rest_is =
      rest
      ∙ (rw still_runs (ap (λ rs. record t1 { running = rs; objects = t2.objects; answered = t1.answered + answered_by (Some job.action) }) (running ∙ ap (λ (x : Tables). remove x.running i) made.rest)
      ∙ ap (λ ws. record t1 { running = remove t.running i; pending = ws; objects = t2.objects; answered = t1.answered + answered_by (Some job.action) }) (ap (λ (x : Tables). x.pending) made.rest)))

  pub settled_there : slice_get t2.objects j ≡ Some (new_standing t job out p.stock at.standing)
  settled_there = new_there t job out p is j at.standing at.stands (remove t.running i) t.pending t1 t2 made objects rest_is

  module _ (t3 : Tables) (riders : List Id) (same : riders ≡ rider_of job.action) (told : Option Id) (came : List Arrival) (notes : Notes job.action p.plan.ups.items t2.came came told)
      (goes : (y : Standing) → slice_get t2.objects j ≡ Some y → t3 ≡ with_done_told (option_to_list told) j y p.plan.due.items riders p.plan.ups.items (record t2 { came = came }))
      (sends : OnlyLeaves (record t2 { came = came }) t3) where
    pub runs_goes : t3 ≡ committed_told (option_to_list told) job out (own_stock t (seen job) out) j at.standing (record t { running = remove t.running i; came = came })
    runs_goes = all_told t job out p is j at.standing at.stands (remove t.running i) t.pending t1 t2 made objects rest_is t3 riders (option_to_list told) came same goes
        ∙ ap (λ (s : Stock). committed_told (option_to_list told) job out s j at.standing (record t { running = remove t.running i; came = came })) own

    pub runs_notes : Notes job.action (unnamed (hand_of t (seen job) out) (places_in_hand t (seen job) out)) t.came came told
    runs_notes = subst (λ ids. Notes job.action ids t.came came told) (is.ups_left ∙ ap (λ (s : Stock). unnamed s.hand s.places) own)
        (subst (λ c. Notes job.action p.plan.ups.items c came told) (ap (λ (x : Tables). x.came) rest ∙ ap (λ (x : Tables). x.came) made.rest) notes)

    left_came : t3.came ≡ came
    left_came = ap (λ (x : Tables). x.came) sends

    pub runs_commits : Ends t t3 job out
    runs_commits = record {
      i = i;
      j = j;
      at = at;
      running = ap (λ (x : Tables). x.running) sends ∙ (running ∙ ap (λ (x : Tables). remove x.running i) made.rest);
      told = told;
      notes = subst (λ c. Notes job.action (unnamed (hand_of t (seen job) out) (places_in_hand t (seen job) out)) t.came c told) (sym left_came) runs_notes;
      goes = runs_goes
          ∙ ap (λ c. committed_told (option_to_list told) job out (own_stock t (seen job) out) j at.standing (record t { running = remove t.running i; came = c })) (sym left_came);
    }

    module _ (e0 e1 e2 e3 : List Entry)
        (first : e1 ≡ e0 ++ at_all t.here (births_of t.here t.births p.births.items ++ splits_from 0 p.stock.hand p.stock.places))
        (done : (act : Act) → slice_get t1.running i ≡ Some act → e2 ≡ e1 ++ at_all t1.here (Done (name_of act) false ∷ []))
        (left : (y : Standing) → slice_get t2.objects j ≡ Some y → e3 ≡ e2 ++ at_all t2.here (written_due t2.here t2.serial p.plan.due.items
        ++ (rider_events t2.profile.credit_log y.state.ids riders ++ ups p.plan.ups.items))) where
      pub runs_written : Writes (committed t job out) t t3 e0 e3
      runs_written = record {
        here = ap (λ (x : Tables). x.here) sends ∙ (ap (λ (x : Tables). x.here) rest ∙ ap (λ (x : Tables). x.here) made.rest);
        localities = ap (λ (x : Tables). x.localities) sends ∙ (ap (λ (x : Tables). x.localities) rest ∙ ap (λ (x : Tables). x.localities) made.rest);
        profile = ap (λ (x : Tables). x.profile) sends ∙ (ap (λ (x : Tables). x.profile) rest ∙ ap (λ (x : Tables). x.profile) made.rest);
        grows = all_written t job out p is j at.standing at.stands (remove t.running i) t.pending t1 t2 made objects rest_is riders same e0 e1 e2 e3 first (done job.action still_runs) left
            ∙ ap (λ s. e0 ++ at_all t.here (committed_from t job out s)) own;
      }

-- all that holds goes on to hold
pub runs_stands : (act_of : ℕ → ℕ → ℕ → State → Act → Outcome)
    → ((n kind here : ℕ) (s : State) (a : Act) → act_of n kind here s a ≡ act_of n kind here (bare_state s) (named 0 0 (message_of (bare_act a))))
    → (t t' : Tables) (job : Job) (out : Outcome) → IsFitJob job → t.localities ≤ 64 → KeepsLaws t.localities job.kind job.at job.state (plain job.action) out
    → out ≡ act_of t.localities job.kind job.at job.state (plain job.action) → (p : Prepared) → IsPrepared t job out p → p.stock ≡ own_stock t (seen job) out
    → (i j : ℕ) (at : IsAt t i j job) → job.at < t.localities → (e0 e3 : List Entry) → Stands act_of t e0 → Writes (committed t job out) t t' e0 e3
    → (told : Option Id) (came : List Arrival) → Notes job.action (unnamed (hand_of t (seen job) out) (places_in_hand t (seen job) out)) t.came came told
    → t' ≡ committed_told (option_to_list told) job out (own_stock t (seen job) out) j at.standing (record t { running = remove t.running i; came = came }) → Stands act_of t' e3
runs_stands act_of blind t t' job out fit few laws right p is own i j at below e0 e3 h wrote told came notes goes =
    let x : Standing = at.standing in
    let its : Job = seen job in
    let its_fit = fit_seen job fit in
    let made : List Id = made_of t out in
    let places : List ℕ = places_in_hand t its out in
    let deal : Stock = record { hand = (job.state.ids ++ (plain job.action).ids) ++ (made ++ []); places = places } in
    let same : own_stock t its out ≡ deal =
    ap (λ ids. record { hand = ids; places = places })
    (sym (append_assoc job.state.ids (plain job.action).ids made) ∙ ap (λ ids. (job.state.ids ++ (plain job.action).ids) ++ ids) (sym (append-nil made))) in
    let its_stock : IsStock t its out deal = subst (IsStock t its out) (own ∙ same) is.stock in
    let kept : IsKept (record { object = at.standing.object; state = bare_state job.state }) =
    lent_kept x job.state (all_at IsKept t.objects j x (at_rest_tidy act_of t e0 h).objects at.stands) at.state fit.state in
    let by = left_by t job out its_fit few laws deal its_stock (record { object = x.object; state = bare_state job.state }) kept at.kind refl act_of blind right at.here in
    let its_notes = subst (λ ids. Notes job.action ids t.came came told) (ap (λ (s : Stock). unnamed s.hand s.places) same) notes in
    let must : job.action.code ≡ 1 → tells job.action (unnamed deal.hand deal.places) ≡ true = λ code. subst (λ (s : Stock). tells job.action (unnamed s.hand s.places) ≡ true) same
    (move_notes t.localities t job out fit laws x at.found at.kind code) in
    let stands = told_stands act_of t e0 h i j job out x at.runs at.stands at.found at.here (sym at.kind) (sym at.state) (few, below) places (made_fit t its out its_fit few laws)
    came (option_to_list told) (noted t job.action (unnamed deal.hand deal.places) came must told its_notes) (remains t its out deal)
    (told_of job.action (unnamed deal.hand deal.places) t.came came told its_notes) its_stock.names.within (λ q lt. its_stock.lasts q)
    (subst (λ u. IsLeftBy (rules_of act_of t.localities t.profile) t.here job out (record { object = x.object; state = bare_state u })
    (halved_from (length deal.hand) 0 deal).hand (map bare made) (remains t its out deal)) (sym at.state) by) in
    let last : List Event = rider_events t.profile.credit_log (state_dealt t its out deal).ids (rider_of job.action) ++ ups (unnamed deal.hand deal.places) in
    let events : committed t job out ≡ births_of t.here t.births (map birth_of out.makes) ++ (splits_from 0 deal.hand deal.places
    ++ (Done (name_of job.action) false ∷ (written_due t.here t.serial (due_dealt t its out deal) ++ last))) =
    ap (committed_from t job out) same
    ∙ ap (λ es. births_of t.here t.births (map birth_of out.makes) ++ (splits_from 0 deal.hand deal.places ++ (Done (name_of job.action) false ∷ (es ++ last))))
    (sym (written_same t.here t.serial _ _)) in
    subst (λ (y : Tables). Stands act_of y e3) (sym (goes ∙ ap (λ k. committed_told (option_to_list told) job out k j x (record t { running = remove t.running i; came = came })) same))
    (subst (Stands act_of (committed_told (option_to_list told) job out deal j x (record t { running = remove t.running i; came = came }))) (sym (wrote.grows ∙ ap (λ es. e0 ++ at_all t.here es) events)) stands)
