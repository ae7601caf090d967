-- A MOVE with which its object came is done: the home of the object is told.
use Rattle.std.specs.Option.{option_to_list}
use Rattle.hpx_node.proofs.Common.{Act, AreOf, Id, List, None, Option, Some, [], and_true, any_at, ap, arith, bare, eq-eqb, eqb-true, false, inl, inr, is_some, length, list_any, name_of, not, refl, remove, same_object, slice_get, sym, target_of, true, ℕ, ◌&&◌, ◌<◌, ◌==◌, ◌∙◌, ◌∷◌, ◌≡◌, ◌⊎◌, Tables, Job, Outcome, IsFitJob, Standing, find, is_standing, plain, subst}
use Rattle.hpx_journal.proofs.Same.{same_object-refl, same_object-true}
use Rattle.hpx_tables.specs.declared.kept.Arrival.{Arrival}
use Rattle.hpx_value.specs.Laws.{KeepsLaws}
use Rattle.hpx_value.specs.Hands.{id_at}
use Rattle.hpx_value.proofs.Riders.{plain_code, plain_target}
use Rattle.hpx_commit.specs.Deals.{AllLast, unnamed}
use Rattle.hpx_steps.specs.Steps.{CameWith, CameAlone}
use Rattle.hpx_steps.specs.Turn.{at_rest}
use Rattle.hpx_node.specs.Commits.{Notes, arrival_of, hand_of, is_arrival, made_of, places_in_hand, seen, tells}
use Rattle.hpx_node.proofs.Seen.{fit_seen}
use Rattle.hpx_node.proofs.Stays.{move_lasts, move_tells, movable_kind}

-- what an action is that tells, and the first of these ids
tells_parts : (act : Act) (ids : List Id) → tells act ids ≡ true → (act.code ≡ 1) × AreOf (bare (target_of act) ∷ []) ids
tells_parts act [] h = absurd (cc)
tells_parts act (id ∷ ids) h =
    let k = and_true (act.code == 1) (same_object (target_of act) id) h in (eqb-true act.code 1 k.0, (same_object-true (target_of act) id k.1, tt))

module _ (act : Act) (ids : List Id) (was came : List Arrival) where
  -- the first ids are of the objects that are told
  pub told_of : (told : Option Id) → Notes act ids was came told → AreOf (option_to_list told) ids
  told_of None h = tt
  told_of (Some o) h = each ids (tells_parts act ids h.1).1
    where
      each : (xs : List Id) → AreOf (bare (target_of act) ∷ []) xs → AreOf (o ∷ []) xs
      each [] k = absurd k
      each (x ∷ xs) k = (h.0 ∙ k.0, tt)

-- a MOVE with which its object came is noted, or it is none
pub noted : (t : Tables) (act : Act) (ids : List Id) (came : List Arrival) → (act.code ≡ 1 → tells act ids ≡ true) → (told : Option Id) → Notes act ids t.came came told
    → CameWith (at_rest t) act (record { came = came; untold = option_to_list told }) ⊎ CameAlone (at_rest t) act (record { came = came; untold = option_to_list told })
noted t act ids came must None h = inr (record { none = λ code. h.1 (must code); came = h.0; untold = refl })
noted t act ids came must (Some o) h = inl (record { moves = (tells_parts act ids h.1).0; i = h.2.0; there = h.2.1; came = h.2.2; untold = ap (λ x. x ∷ []) h.0 })

-- a MOVE that is done tells: nobody names its target
pub move_notes : (n : ℕ) (t : Tables) (job : Job) (out : Outcome) → IsFitJob job → KeepsLaws n job.kind job.at job.state (plain job.action) out → (x : Standing)
    → find (is_standing (target_of job.action)) t.objects ≡ Some x → x.object.kind ≡ job.kind → job.action.code ≡ 1
    → tells job.action (unnamed (hand_of t (seen job) out) (places_in_hand t (seen job) out)) ≡ true
move_notes n t job out fit laws x found kind code =
    let k = move_tells n (seen job) out (fit_seen job fit) laws (movable_kind t.objects job.action job.kind x found kind (fit.action.moves code).0) (plain_code job.action ∙ code) (made_of t out) in
    let first : tells job.action (id_at (plain job.action).ids 0 ∷ k.0) ≡ true = rw (eq-eqb job.action.code 1 code, plain_target job.action) (same_object-refl (target_of job.action)) in
    subst (λ ids. tells job.action ids ≡ true) (sym k.1) first

-- and it does not wait
pub move_goes : (n : ℕ) (t : Tables) (job : Job) (out : Outcome) → IsFitJob job → KeepsLaws n job.kind job.at job.state (plain job.action) out → (x : Standing)
    → find (is_standing (target_of job.action)) t.objects ≡ Some x → x.object.kind ≡ job.kind → job.action.code ≡ 1
    → AllLast (hand_of t (seen job) out) (places_in_hand t (seen job) out)
move_goes n t job out fit laws x found kind code =
    move_lasts n (seen job) out (fit_seen job fit) laws (movable_kind t.objects job.action job.kind x found kind (fit.action.moves code).0) (plain_code job.action ∙ code) (made_of t out)

-- there is one
pub some_of : (o : Id) (ids : List Id) → AreOf (o ∷ []) ids → 0 < length ids
some_of o [] h = absurd h
some_of o (id ∷ ids) h = omega arith

-- ---- by what is looked for

none_some : (x : Option ℕ) → not (is_some x) ≡ true → x ≡ None
none_some None h = refl
none_some (Some n) h = cc

-- what is found is the MOVE with which the object came
pub same_arrival : (act : Act) (a : Arrival) → is_arrival (name_of act) (target_of act) a ≡ true → a ≡ arrival_of act
same_arrival act a h =
    let k = and_true ((a.name.origin == (name_of act).origin) && (a.name.serial == (name_of act).serial)) (not (is_some a.object.log) && same_object a.object (target_of act)) h in
    let n = and_true (a.name.origin == (name_of act).origin) (a.name.serial == (name_of act).serial) k.0 in
    let o = and_true (not (is_some a.object.log)) (same_object a.object (target_of act)) k.1 in
    let object : a.object ≡ bare (target_of act) =
    ap (λ l. record a.object { log = l }) (none_some a.object.log o.0) ∙ same_object-true a.object (target_of act) o.1 in
    ap (λ m. record a { name = record a.name { origin = m } }) (eqb-true a.name.origin (name_of act).origin n.0)
    ∙ (ap (λ m. record a { name = record { origin = (name_of act).origin; serial = m } }) (eqb-true a.name.serial (name_of act).serial n.1)
    ∙ ap (λ x. record { name = name_of act; object = x }) object)

-- and it is found
pub is_there : (act : Act) (came : List Arrival) → list_any (is_arrival (name_of act) (target_of act)) came ≡ false → (i : ℕ) → slice_get came i ≡ Some (arrival_of act) → ⊥
is_there act came none i at =
    let its : is_arrival (name_of act) (target_of act) (arrival_of act) ≡ true =
    rw (eq-eqb act.origin act.origin refl, eq-eqb act.serial act.serial refl) (same_object-refl (target_of act)) in
    let e : true ≡ false = sym (any_at (is_arrival (name_of act) (target_of act)) came i (arrival_of act) at its) ∙ none in cc
