-- Each message of a locality, and each entry, grants moves to localities that there are.
use Rattle.std.proofs.Common.{ℕ, Bool, true, false, cond, List, [], ◌∷◌, ◌++◌, ◌≡◌, ◌==◌, Option, Some, None, map, refl, sym, ◌∙◌, subst, arith, append_assoc}
use Rattle.std.specs.Prelude.{flat_map, ◌&&◌}
use Rattle.std.specs.List.{sum_by, AllByRecursion}
use Rattle.std.proofs.lemmas.List.Sums.{sum_by-cons}
use Rattle.hpx_value.specs.Ids.{same_object}
use Rattle.hpx_value.specs.Values.{bare_act}
use Rattle.hpx_parcel.specs.Parcels.{IsParcel}
use Rattle.hpx_journal.specs.Bags.{total}
use Rattle.hpx_journal.specs.Data.{Id, Act, Parcel}
use Rattle.hpx_journal.specs.Entries.{Rules, name_of}
use Rattle.hpx_journal.specs.Frames.{acts_in}
use Rattle.hpx_journal.specs.Laws.{HasGrammar, KeepsActLaws, count_events}
use Rattle.hpx_journal.specs.Local.{is_act}
use Rattle.hpx_journal.specs.Moving.{is_left_of}
use Rattle.hpx_journal.specs.Whole.{IsLegal, part, replayed}
use Rattle.hpx_journal.proofs.Alls.{all-find}
use Rattle.hpx_journal.proofs.Bags.{total-zero}
use Rattle.hpx_journal.proofs.Frames.{part_each}
use Rattle.hpx_part.specs.Data.{Event, Entry, Left, Out}
use Rattle.hpx_part.specs.Keyed.{Agree}
use Rattle.hpx_part.proofs.Keyed.{Agree-found}
use Rattle.hpx_part.proofs.Keys.{means, own}
use Rattle.hpx_steps.specs.Rows.{go_to, one_if, weighed}
use Rattle.hpx_steps.specs.Sound.{all_count, gone_to, grants_of}
use Rattle.hpx_steps.specs.Turn.{parcel_acts}
use Rattle.hpx_tables.specs.Tables.{Tables, messages, queued_parcels}
use Rattle.hpx_tables.specs.declared.kept.Outgoing.{Outgoing}
use Rattle.hpx_tables.proofs.Alls.{all_parts}
use Rattle.hpx_world.specs.Tracks.{leaves_for}
use Rattle.hpx_world.proofs.Known.{IsShown}
use Rattle.hpx_world.proofs.Mails.{all_goes}
use Rattle.hpx_world.proofs.Near.{IsNear, IsNearEvent, legal_near, events_near}
use Rattle.hpx_world.proofs.Traffic.{total_one, total_sum, sum_same}

-- what holds of the actions of a locality holds of those that its tables show
pub agree_from : (Q : Act → Type 0) (xs ys : List Act) → Agree is_act xs ys → AllByRecursion Q xs → (l m : List Act) → ys ≡ l ++ m → AllByRecursion Q m
agree_from Q xs ys h all l [] is = tt
agree_from Q xs ys h all l (x ∷ m) is = (
  all-find Q (is_act (name_of x)) xs x all (Agree-found is_act name_of means own xs l m x (subst (Agree is_act xs) is h)),
  agree_from Q xs ys h all (l ++ x ∷ []) m (is ∙ sym (append_assoc l (x ∷ []) m)),
)

pub each_part : {X Y : Type 0} (Q : Y → Type 0) (g : X → List Y) (xs : List X) → AllByRecursion Q (flat_map g xs) → AllByRecursion (λ x. AllByRecursion Q (g x)) xs
each_part Q g [] h = tt
each_part Q g (x ∷ xs) h = let parts = all_parts Q (g x) (flat_map g xs) h in (parts.0, each_part Q g xs parts.1)

pub both_all : {X : Type 0} (A B : X → Type 0) (xs : List X) → AllByRecursion A xs → AllByRecursion B xs → AllByRecursion (λ x. A x × B x) xs
both_all A B [] a b = tt
both_all A B (x ∷ xs) a b = ((a.0, b.0), both_all A B xs a.1 b.1)

pub map_all : {X Y : Type 0} (g : X → Y) (P : Y → Type 0) (xs : List X) → AllByRecursion P (map g xs) → AllByRecursion (λ x. P (g x)) xs
map_all g P [] h = tt
map_all g P (x ∷ xs) h = (h.0, map_all g P xs h.1)

-- a message grants a move to a locality that there is, if it grants one
abbrev pub GrantsNear : ℕ → Parcel → Type 0
GrantsNear n p = IsParcel p × AllByRecursion (IsNear n) (acts_in (Some p))

-- those on the desk, those to others, and those of objects that are to leave
pub record AreNear (n : ℕ) (t : Tables) : Type 0 where
  pub desk : AllByRecursion (GrantsNear n) t.desk
  pub outgoing : AllByRecursion (λ (x : Outgoing). GrantsNear n x.parcel) t.outgoing
  pub leaving : AllByRecursion (GrantsNear n) t.leaving

pub lists_near : (n : ℕ) (t : Tables) → AllByRecursion (GrantsNear n) (messages t) → AreNear n t
lists_near n t h =
    let P = GrantsNear n in
    let carried = map (λ (x : Outgoing). x.parcel) t.outgoing in
    let a = all_parts P t.desk (carried ++ (queued_parcels t.queued ++ (t.leaving ++ t.stray))) h in
    let b = all_parts P carried (queued_parcels t.queued ++ (t.leaving ++ t.stray)) a.1 in
    let c = all_parts P (queued_parcels t.queued) (t.leaving ++ t.stray) b.1 in
    let d = all_parts P t.leaving t.stray c.1 in
    record { desk = a.0; outgoing = map_all (λ (x : Outgoing). x.parcel) P t.outgoing b.0; leaving = d.0 }

-- the moves to each locality are all moves
pub sum_goes : (n : ℕ) (o : Id) (ps : List Parcel) → AllByRecursion (GrantsNear n) ps → total n (λ t. sum_by (go_to o t) ps) ≡ sum_by (grants_of o) ps
sum_goes n o ps h = total_sum n (λ t p. go_to o t p) ps ∙ same ps h
  where
    same : (ps : List Parcel) → AllByRecursion (GrantsNear n) ps → sum_by (λ p. total n (λ t. go_to o t p)) ps ≡ sum_by (grants_of o) ps
    same [] h = refl
    same (p ∷ ps) h = omega (arith, all_goes n o p h.0.0 h.0.1, same ps h.1, sum_by-cons (λ q. total n (λ t. go_to o t q)) p ps, sum_by-cons (grants_of o) p ps)

total_if : (n : ℕ) (b : Bool) (f : ℕ → ℕ) (c : ℕ) → total n f ≡ c → total n (λ t. cond b (f t) 0) ≡ cond b c 0
total_if n true f c h = h
total_if n false f c h = total-zero n (λ t. 0) (λ t lt. refl)

pub sum_goes_to : (n k : ℕ) (o : Id) (xs : List Outgoing) → AllByRecursion (λ (x : Outgoing). GrantsNear n x.parcel) xs
    → total n (λ t. sum_by (λ (x : Outgoing). cond (x.to == k) (go_to o t x.parcel) 0) xs) ≡ sum_by (λ (x : Outgoing). cond (x.to == k) (grants_of o x.parcel) 0) xs
sum_goes_to n k o xs h = total_sum n (λ t (x : Outgoing). cond (x.to == k) (go_to o t x.parcel) 0) xs ∙ same xs h
  where
    same : (xs : List Outgoing) → AllByRecursion (λ (x : Outgoing). GrantsNear n x.parcel) xs
        → sum_by (λ (x : Outgoing). total n (λ t. cond (x.to == k) (go_to o t x.parcel) 0)) xs ≡ sum_by (λ (x : Outgoing). cond (x.to == k) (grants_of o x.parcel) 0) xs
    same [] h = refl
    same (x ∷ xs) h = omega (
      arith,
      total_if n (x.to == k) (λ t. go_to o t x.parcel) (grants_of o x.parcel) (all_goes n o x.parcel h.0.0 h.0.1),
      same xs h.1,
      sum_by-cons (λ (y : Outgoing). total n (λ t. cond (y.to == k) (go_to o t y.parcel) 0)) x xs,
      sum_by-cons (λ (y : Outgoing). cond (y.to == k) (grants_of o y.parcel) 0) x xs,
    )

module _ (r : Rules) (grammar : HasGrammar r) (laws : KeepsActLaws r) (es : List Entry) (legal : IsLegal r es) (o : Id) where
  gone_one : (k : ℕ) (e : Event) → IsNearEvent r e → total r.localities (λ t. gone_to r k (go_to o t) e) ≡ gone_to r k (grants_of o) e
  gone_one k (Out to bytes) near = spelt (r.parcel_of bytes) refl near
    where
      spelt : (p : Option Parcel) → r.parcel_of bytes ≡ p → AllByRecursion (IsNear r.localities) (acts_in p)
          → total r.localities (λ t. cond (to == k) (weighed (go_to o t) p) 0) ≡ cond (to == k) (weighed (grants_of o) p) 0
      spelt None is h = total_if r.localities (to == k) (λ t. 0) 0 (total-zero r.localities (λ t. 0) (λ t lt. refl))
      spelt (Some p) is h = total_if r.localities (to == k) (λ t. go_to o t p) (grants_of o p) (all_goes r.localities o p (grammar.grammar bytes p is) h)
  gone_one k _ near = total-zero r.localities (λ t. 0) (λ t lt. refl)

  left_one : (e : Event) → IsNearEvent r e → total r.localities (λ t. leaves_for o t e) ≡ one_if (is_left_of o e)
  left_one (Left x to) near = each (same_object o x)
    where
      each : (b : Bool) → total r.localities (λ t. one_if (b && (to == t))) ≡ one_if b
      each true = total_one r.localities to 1 near
      each false = total-zero r.localities (λ t. 0) (λ t h. refl)
  left_one _ near = total-zero r.localities (λ t. 0) (λ t h. refl)

  part_near : (k : ℕ) → AllByRecursion (λ (e : Entry). IsNearEvent r e.event) (part k es)
  part_near k = part_each (λ (e : Entry). IsNearEvent r e.event) k es (events_near r grammar laws es legal)

  -- what goes with entries to k
  pub all_gone : (j k : ℕ) → total r.localities (λ t. all_count (gone_to r k (go_to o t)) (part j es)) ≡ all_count (gone_to r k (grants_of o)) (part j es)
  all_gone j k = total_sum r.localities (λ t (e : Entry). gone_to r k (go_to o t) e.event) (part j es)
      ∙ sum_same (λ (e : Entry). total r.localities (λ t. gone_to r k (go_to o t) e.event)) (λ (e : Entry). gone_to r k (grants_of o) e.event) (part j es)
      (Rattle.hpx_journal.proofs.Alls.all-map (λ (e : Entry). IsNearEvent r e.event) (λ (e : Entry). total r.localities (λ t. gone_to r k (go_to o t) e.event) ≡ gone_to r k (grants_of o) e.event)
      (λ e near. gone_one k e.event near) (part j es) (part_near j))

  -- and each that leaves
  pub all_left : (k : ℕ) → total r.localities (λ t. all_count (leaves_for o t) (part k es)) ≡ count_events (is_left_of o) (part k es)
  all_left k = total_sum r.localities (λ t (e : Entry). leaves_for o t e.event) (part k es)
      ∙ sum_same (λ (e : Entry). total r.localities (λ t. leaves_for o t e.event)) (λ (e : Entry). one_if (is_left_of o e.event)) (part k es)
      (Rattle.hpx_journal.proofs.Alls.all-map (λ (e : Entry). IsNearEvent r e.event) (λ (e : Entry). total r.localities (λ t. leaves_for o t e.event) ≡ one_if (is_left_of o e.event))
      (λ e near. left_one e.event near) (part k es) (part_near k))

  pub tables_near : (log k : ℕ) (t : Tables) → IsShown r log es k t → AreNear r.localities t
  tables_near log k t s =
      let acts = (all_parts (IsNear r.localities) (map bare_act t.accepted) (flat_map parcel_acts (messages t))
      (agree_from (IsNear r.localities) ((replayed r es).places k).waiting _ s.shows.acts.waiting ((legal_near r grammar laws es legal).places k s.lt).waiting [] _ refl)).1 in
      lists_near r.localities t (both_all IsParcel (λ p. AllByRecursion (IsNear r.localities) (acts_in (Some p))) (messages t) s.tidy.messages
      (each_part (IsNear r.localities) parcel_acts (messages t) acts))
