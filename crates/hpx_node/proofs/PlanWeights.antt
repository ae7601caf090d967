-- What the entries of a commit weigh.
use Rattle.hpx_node.proofs.Common.{Act, AllByRecursion, Birth, Bool, Born, Due, Event, Id, IsBirth, List, Merge, MessageDue, None, Option, Outcome, Print, PrintDue, Sent, Some, Split, State, Up, [], ap, arith, at_all, at_all_append, bare, bare_id, births_of, cond, cuts, due_with, due_weight, false, filled_due, half, length, length-append, light_due, log_of, may_merge, refl, rider_event, rider_events, splits_from, state_size, suc, sum_by, sum_by-append, sum_by-cons, total_weight, true, unused, up_of, ups, weight_of, written_due, zero, ℕ, ◌*◌, ◌++◌, ◌+◌, ◌∙◌, ◌∷◌, ◌≡◌, ◌≤◌}
use Rattle.hpx_commit.specs.Deals.{named}

-- nothing that was dealt is written
pub written_same : (here serial : ℕ) (due : List Due) (ds : List Id) → written_due here serial (filled_due due ds) ≡ written_due here serial due
written_same here serial [] ds = refl
written_same here serial (MessageDue m ∷ rest) ds =
    ap (λ es. Sent (record { origin = here; serial = serial + 1 }) ∷ es) (written_same here (serial + 1) rest (unused m.ids ds))
written_same here serial (PrintDue bytes ∷ rest) ds = ap (λ es. Print bytes ∷ es) (written_same here serial rest ds)

pub written_few : (here serial : ℕ) (due : List Due) → length (written_due here serial due) ≡ length due
written_few here serial [] = refl
written_few here serial (MessageDue m ∷ rest) = ap suc (written_few here (serial + 1) rest)
written_few here serial (PrintDue bytes ∷ rest) = ap suc (written_few here serial rest)

up_few : (id : Id) (l : Option ℕ) → length (up_of id l) ≤ 1
up_few id None = omega arith
up_few id (Some log) = omega arith

pub ups_few : (ids : List Id) → length (ups ids) ≤ length ids
ups_few [] = omega arith
ups_few (id ∷ ids) = omega (arith, length-append (up_of id id.log) (ups ids), up_few id id.log, ups_few ids)

rider_one : (most : ℕ) (ids : List Id) (id : Id) (l : Option ℕ) → length (rider_event most ids id l) ≤ 1
rider_one most ids id None = omega arith
rider_one most ids id (Some log) = omega arith

pub riders_few : (most : ℕ) (ids riders : List Id) → length (rider_events most ids riders) ≤ 1
riders_few most ids [] = omega arith
riders_few most ids (id ∷ riders) = rider_one most ids id id.log

module _ (k : ℕ) where
  abbrev pub weighs : List Event → ℕ
  weighs es = total_weight (at_all k es)

  pub weighs_append : (xs ys : List Event) → weighs (xs ++ ys) ≡ weighs xs + weighs ys
  weighs_append xs ys = ap total_weight (at_all_append k xs ys) ∙ sum_by-append weight_of (at_all k xs) (at_all k ys)

  pub weighs_cons : (e : Event) (es : List Event) → weighs (e ∷ es) ≡ weight_of (record { at = k; event = e }) + weighs es
  weighs_cons e es = sum_by-cons weight_of (record { at = k; event = e }) (at_all k es)

  pub births_light : (here n : ℕ) (xs : List Birth) → AllByRecursion IsBirth xs → weighs (births_of here n xs) ≤ 65064 * length xs
  births_light here n [] h = omega arith
  births_light here n (x ∷ xs) h =
      let same : state_size x.entry ≡ state_size x.state = ap state_size h.0.same in
      let short : state_size x.state ≤ 65000 = h.0.state.short in
      omega (
        arith,
        same,
        short,
        weighs_cons (Born (bare_id here x.kind (n + 1)) x.entry) (births_of here (n + 1) xs),
        births_light here (n + 1) xs h.1,
      )

  cuts_light : (id : Id) (n : ℕ) → weighs (cuts id n) ≡ 64 * length (cuts id n)
  cuts_light id zero = refl
  cuts_light id (suc zero) = refl
  cuts_light id (suc (suc n)) = omega (arith, weighs_cons (Split (bare id) (log_of id.log)) (cuts (half id) (suc n)), cuts_light (half id) (suc n))

  pub splits_light : (p : ℕ) (ids : List Id) (ps : List ℕ) → weighs (splits_from p ids ps) ≡ 64 * length (splits_from p ids ps)
  splits_light p [] ps = refl
  splits_light p (id ∷ ids) ps = omega (
    arith,
    weighs_append (cuts id (named ps p)) (splits_from (p + 1) ids ps),
    cuts_light id (named ps p),
    splits_light (p + 1) ids ps,
    length-append (cuts id (named ps p)) (splits_from (p + 1) ids ps),
  )

  pub ups_light : (ids : List Id) → weighs (ups ids) ≤ 64 * length ids
  ups_light [] = omega arith
  ups_light (id ∷ ids) = omega (arith, weighs_append (up_of id id.log) (ups ids), one id id.log, ups_light ids)
    where
      one : (id : Id) (l : Option ℕ) → weighs (up_of id l) ≤ 64
      one id None = omega arith
      one id (Some log) = omega (arith, weighs_cons (Up (bare id) log) [])

  pub riders_light : (most : ℕ) (ids riders : List Id) → weighs (rider_events most ids riders) ≤ 64
  riders_light most ids [] = omega arith
  riders_light most ids (id ∷ riders) = one id.log
    where
      either : (b : Bool) (log : ℕ) → weighs (cond b (Merge (bare id) log) (Up (bare id) log) ∷ []) ≤ 64
      either true log = omega (arith, weighs_cons (Merge (bare id) log) [])
      either false log = omega (arith, weighs_cons (Up (bare id) log) [])

      one : (l : Option ℕ) → weighs (rider_event most ids id l) ≤ 64
      one None = omega arith
      one (Some log) = either (may_merge most id log ids) log

  pub weighs_due : (here serial : ℕ) (due : List Due) → weighs (written_due here serial due) ≡ sum_by due_weight due
  weighs_due here serial [] = refl
  weighs_due here serial (MessageDue m ∷ rest) = omega (
    arith,
    weighs_cons (Sent (record { origin = here; serial = serial + 1 })) (written_due here (serial + 1) rest),
    sum_by-cons due_weight (MessageDue m) rest,
    weighs_due here (serial + 1) rest,
  )
  weighs_due here serial (PrintDue bytes ∷ rest) = omega (
    arith,
    weighs_cons (Print bytes) (written_due here serial rest),
    sum_by-cons due_weight (PrintDue bytes) rest,
    weighs_due here serial rest,
  )

  -- what is due is not heavy
  pub written_light : (here serial : ℕ) (s : State) (a : Act) (made : List Id) (out : Outcome)
      → length out.sends ≤ 32 → length out.replies ≤ 129 → length out.prints ≤ 16
      → AllByRecursion (λ bytes. length bytes ≤ 16384) out.prints → weighs (written_due here serial (due_with s a made out)) ≤ 273472
  written_light here serial s a made out h i j short =
      omega (arith, weighs_due here serial (due_with s a made out), light_due s a made out h i j short)
