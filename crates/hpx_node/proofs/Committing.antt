-- A prepared commit, written step by step, leaves what one step would leave.
use Rattle.hpx_node.proofs.Common.{Act, Birth, Done, Due, Entry, Event, Id, IsPrepared, Job, List, Makes, Outcome, Prepared, Record, Some, Standing, Tables, Waits, [], answered_by, ap, append-nil, append_assoc, arith, at_all, at_all_append, birth_of, births_of, committed_from, committed_to, committed_told, dealt, due_with, false, get_before, get_set, length, length-map, made_of, map, name_of, new_standing, objects_of, plain, records_of, rider_events, rider_of, seen, set, slice_get, slice_get_less, splits_from, state_after, state_dealt, sym, unnamed, unused, ups, with_done, with_done_told, with_settled, written_due, ℕ, ◌++◌, ◌+◌, ◌<◌, ◌∙◌, ◌∷◌, ◌≡◌}
use Rattle.hpx_node.proofs.PlanWeights.{written_same}
use Rattle.hpx_tables.specs.declared.kept.Arrival.{Arrival}

-- entries that are written one list after another
written_on : (k : ℕ) (a b c d : List Entry) (xs ys zs : List Event) → b ≡ a ++ at_all k xs → c ≡ b ++ at_all k ys → d ≡ c ++ at_all k zs
    → d ≡ a ++ at_all k (xs ++ (ys ++ zs))
written_on k a b c d xs ys zs e f g =
    g ∙ (ap (λ es. es ++ at_all k zs) (f ∙ ap (λ es. es ++ at_all k ys) e)
    ∙ (append_assoc (a ++ at_all k xs) (at_all k ys) (at_all k zs)
    ∙ (append_assoc a (at_all k xs) (at_all k ys ++ at_all k zs)
    ∙ ap (λ es. a ++ es) (sym (at_all_append k xs (ys ++ zs) ∙ ap (λ es. at_all k xs ++ es) (at_all_append k ys zs))))))

-- once what is made is made, what stood before stands as before
module _ (t t1 : Tables) (xs : List Birth) (made : Makes xs [] t t1) (j : ℕ) (x : Standing) (stands : slice_get t.objects j ≡ Some x) where
  pub stands_then : slice_get t1.objects j ≡ Some x
  stands_then =
      ap (λ ys. slice_get ys j) (sym (append-nil t1.objects) ∙ made.objects)
      ∙ get_before t.objects (objects_of t.here t.births xs) j x stands

  pub stands_less : j < length t1.objects
  stands_less = slice_get_less t1.objects j x stands_then

-- once the job is settled
module _ (t : Tables) (job : Job) (out : Outcome) (p : Prepared) (is : IsPrepared t job out p) (j : ℕ) (x : Standing) (stands : slice_get t.objects j ≡ Some x)
    (running : List Act) (pending : List Waits) (t1 t2 : Tables) (made : Makes p.births.items [] t t1)
    (objects : (y : Standing) → slice_get t1.objects j ≡ Some y → t2.objects ≡ set t1.objects j (record { object = y.object; state = p.plan.state }))
    (rest : t2 ≡ record t1 { running = running; pending = pending; objects = t2.objects; answered = t1.answered + answered_by (Some job.action) }) where
  abbrev less : Tables
  less = record t { running = running; pending = pending }

  abbrev then : ℕ → List Record → List Standing → Tables
  then n rs os = record less { births = n; records = rs; objects = os; answered = t.answered + answered_by (Some job.action) }

  pub settled_to : t2 ≡ with_settled job out p.stock j x (record t { running = running; pending = pending })
  settled_to =
      rest
      ∙ (ap (λ (y : Tables). record y { running = running; pending = pending; objects = t2.objects; answered = y.answered + answered_by (Some job.action) }) made.rest
      ∙ (ap (λ n. then n t1.records t2.objects) (omega (arith, made.births))
      ∙ (ap (λ rs. then (t.births + length p.births.items) rs t2.objects) (sym (append-nil t1.records) ∙ made.records)
      ∙ (ap (λ os. then (t.births + length p.births.items) (t.records ++ records_of t.here t.births t.profile.credit_log p.births.items) os)
      (objects x (stands_then t t1 p.births.items made j x stands) ∙ ap (λ ys. set ys j (record { object = x.object; state = p.plan.state })) (sym (append-nil t1.objects) ∙ made.objects))
      ∙ rw (is.births, length-map out.makes birth_of, is.state_left)))))

  -- its object has the new state
  pub new_there : slice_get t2.objects j ≡ Some (new_standing t job out p.stock x)
  new_there =
      ap (λ os. slice_get os j) (objects x (stands_then t t1 p.births.items made j x stands))
      ∙ (get_set t1.objects j (record { object = x.object; state = p.plan.state }) (stands_less t t1 p.births.items made j x stands)
      ∙ ap (λ s. Some (record { object = x.object; state = s })) is.state_left)

  -- what is due is sent, the rider is merged or given up, and what nobody names is given up
  pub all_committed : (u : Tables) (riders : List Id) → riders ≡ rider_of job.action
      → ((y : Standing) → slice_get t2.objects j ≡ Some y → u ≡ with_done j y p.plan.due.items riders p.plan.ups.items t2)
      → u ≡ committed_to job out p.stock j x (record t { running = running; pending = pending })
  all_committed u riders same alike = alike (new_standing t job out p.stock x) new_there ∙ rw (same, is.due_left, is.ups_left, settled_to)

  -- the same where the first of what nobody names tells the homes of these objects, and these moves with which objects came are left
  pub all_told : (u : Tables) (riders told : List Id) (came : List Arrival) → riders ≡ rider_of job.action
      → ((y : Standing) → slice_get t2.objects j ≡ Some y → u ≡ with_done_told told j y p.plan.due.items riders p.plan.ups.items (record t2 { came = came }))
      → u ≡ committed_told told job out p.stock j x (record t { running = running; pending = pending; came = came })
  all_told u riders told came same alike = alike (new_standing t job out p.stock x) new_there ∙ rw (same, is.due_left, is.ups_left, settled_to)

  module _ (riders : List Id) (same : riders ≡ rider_of job.action) (e0 e1 e2 e3 : List Entry)
      (first : e1 ≡ e0 ++ at_all t.here (births_of t.here t.births p.births.items ++ splits_from 0 p.stock.hand p.stock.places))
      (done : e2 ≡ e1 ++ at_all t1.here (Done (name_of job.action) false ∷ []))
      (left : (y : Standing) → slice_get t2.objects j ≡ Some y → e3 ≡ e2 ++ at_all t2.here (written_due t2.here t2.serial p.plan.due.items
      ++ (rider_events t2.profile.credit_log y.state.ids riders ++ ups p.plan.ups.items))) where
    abbrev first_of : List Birth → List Event
    first_of xs = births_of t.here t.births xs ++ splits_from 0 p.stock.hand p.stock.places

    abbrev due_said : List Due
    due_said = due_with job.state (plain job.action) (made_of t out) out

    abbrev new : Standing
    new = new_standing t job out p.stock x

    abbrev last_of : Tables → List Event
    last_of y = written_due y.here y.serial p.plan.due.items ++ (rider_events y.profile.credit_log new.state.ids riders ++ ups p.plan.ups.items)

    -- all of it is written
    pub all_written : e3 ≡ e0 ++ at_all t.here (committed_from t job out p.stock)
    all_written =
        written_on t.here e0 e1 e2 e3 (first_of p.births.items) (Done (name_of job.action) false ∷ []) (last_of t)
        first (done ∙ ap (λ (y : Tables). e1 ++ at_all y.here (Done (name_of job.action) false ∷ [])) made.rest)
        (left new new_there ∙ ap (λ (y : Tables). e2 ++ at_all y.here (last_of y)) settled_to)
        ∙ ap (λ es. e0 ++ at_all t.here es) (rw (
          same,
          is.due_left,
          is.ups_left,
          is.births,
          written_same t.here t.serial due_said (unused (state_after job.state (plain job.action) (made_of t out) out).ids (dealt p.stock.hand p.stock.places)),
        )
        (append_assoc (births_of t.here t.births (map birth_of out.makes)) (splits_from 0 p.stock.hand p.stock.places)
        (Done (name_of job.action) false ∷ (written_due t.here t.serial due_said
        ++ (rider_events t.profile.credit_log (state_dealt t (seen job) out p.stock).ids (rider_of job.action) ++ ups (unnamed p.stock.hand p.stock.places))))))
