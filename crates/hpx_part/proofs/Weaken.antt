-- A view that says less shows the same locality.
use Rattle.std.proofs.Common.{Bool, true, List, [], ◌∷◌, ◌≡◌, Option, Some, None, IfSome, refl, sym, ap, ◌∙◌, subst, arith, inl, inr}
use Rattle.std.specs.List.{list_any, sum_by, AllByRecursion}
use Rattle.hpx_value.specs.Ids.{same_object}
use Rattle.hpx_journal.specs.Data.{Id}
use Rattle.hpx_journal.specs.Entries.{Rules}
use Rattle.hpx_journal.specs.Local.{is_act, is_standing, is_travel}
use Rattle.hpx_journal.specs.Rows.{IsDead, is_dead_record}
use Rattle.hpx_journal.proofs.Bools.{or_cases, or_left, or_right}
use Rattle.hpx_journal.proofs.Same.{and_true, same_object-refl, same_object-true, same_object-from, same_name-true, same_name-refl, held-Counts, owed-Counts}
use Rattle.hpx_part.specs.Data.{Event, Refusal, Local}
use Rattle.hpx_part.specs.View.{View, IsCovered}
use Rattle.hpx_part.specs.Shows.{Shows, Leads, SaysLess, same_refusal}
use Rattle.hpx_part.proofs.Covered.{held_counts, owed_counts, act_names, object_names, travel_names, due_names}
use Rattle.hpx_part.proofs.Sums.{Agree-sums}
use Rattle.hpx_part.proofs.Telling.{tells_act, tells_standing, tells_travel}

-- ---- what holds of all is told of what is the same

dead_same : (o x : Id) (s : Local) → same_object o x ≡ true → IsDead x s → IsDead o s
dead_same o x s h dead = ap (λ (k : Id). list_any (is_dead_record k) s.counts) (same_object-true o x h) ∙ dead

pub dead_among : (o : Id) (s : Local) (dead : List Id) → AllByRecursion (λ x. IsDead x s) dead → list_any (same_object o) dead ≡ true → IsDead o s
dead_among o s [] all h = absurd (cc)
dead_among o s (x ∷ xs) all h = elim (or_cases (same_object o x) (list_any (same_object o) xs) h) [
  | inl t ↦ dead_same o x s t all.0
  | inr t ↦ dead_among o s xs all.1 t
]

pub refusal_own : (x : Refusal) → same_refusal x x ≡ true
refusal_own x = rw (same_name-refl x.action, same_object-refl x.object) refl

-- what is one with x is one with what x is one with
pub refusal_through : (x y z : Refusal) → same_refusal x y ≡ true → same_refusal y z ≡ same_refusal x z
refusal_through x y z h =
    let p = same_name-true x.action y.action (and_true _ _ h).0 in
    let q = same_object-from x.object y.object z.object (and_true _ _ h).1 in
    rw (p, q) refl

any_refusal : (x y : Refusal) (xs : List Refusal) → same_refusal x y ≡ true → list_any (same_refusal y) xs ≡ true → list_any (same_refusal x) xs ≡ true
any_refusal x y [] h t = t
any_refusal x y (z ∷ zs) h t = elim (or_cases (same_refusal y z) (list_any (same_refusal y) zs) t) [
  | inl i ↦ or_left _ _ (sym (refusal_through x y z h) ∙ i)
  | inr i ↦ or_right _ _ (any_refusal x y zs h i)
]

pub refusal_among : (x : Refusal) (seen there : List Refusal) → AllByRecursion (λ y. list_any (same_refusal y) there ≡ true) seen
    → list_any (same_refusal x) seen ≡ true → list_any (same_refusal x) there ≡ true
refusal_among x [] there all h = absurd (cc)
refusal_among x (y ∷ ys) there all h = elim (or_cases (same_refusal x y) (list_any (same_refusal x) ys) h) [
  | inl t ↦ any_refusal x y there t all.0
  | inr t ↦ refusal_among x ys there all.1 t
]

-- what holds of each that is among xs holds of all xs
all_among : {X : Type 0} (same : X → X → Bool) (own : (x : X) → same x x ≡ true) (P : X → Type 0) (xs : List X)
    → ((x : X) → list_any (same x) xs ≡ true → P x) → AllByRecursion P xs
all_among same own P [] h = tt
all_among same own P (x ∷ xs) h =
    (h x (or_left _ _ (own x)), all_among same own P xs (λ y t. h y (or_right _ _ t)))

-- ----

-- the last entry, where it is still told
last_there : (a b c : Option Event) → IfSome b (λ e. a ≡ Some e) → IfSome a (λ e. c ≡ Some e) → IfSome b (λ e. c ≡ Some e)
last_there a None c less shown = tt
last_there a (Some e) c less shown = subst (λ x. IfSome x (λ y. c ≡ Some y)) less shown

module _ (r : Rules) (v w : View) (less : SaysLess v w) where
  weaker_covered : IsCovered v → IsCovered w
  weaker_covered covered o managed =
      let c = covered o managed in record {
        named = omega (
          arith,
          c.named,
          less.objects (object_names o),
          less.travels (travel_names o),
          less.waiting (act_names o),
          less.fired (act_names o),
          ap (sum_by (due_names o)) less.due,
          less.tokens (held_counts o) (held-Counts o),
          less.asking o,
        );
        pending = omega (arith, c.pending, less.tokens (owed_counts o) (owed-Counts o), less.asks o);
      }

  weaker_shows : (s : Local) → Shows v s → Shows w s
  weaker_shows s shown = record {
    acts = record {
      here = shown.acts.here ∙ sym less.here;
      serial = shown.acts.serial ∙ sym less.serial;
      waiting = Agree-sums tells_act is_act s.waiting v.waiting w.waiting shown.acts.waiting less.waiting;
      fired = Agree-sums tells_act is_act s.fired v.fired w.fired shown.acts.fired less.fired;
      due = shown.acts.due ∙ sym less.due;
    };
    objects = record {
      number = shown.objects.number ∙ sym less.number;
      objects = Agree-sums tells_standing is_standing s.objects v.objects w.objects shown.objects.objects less.objects;
      travels = Agree-sums tells_travel is_travel s.travels v.travels w.travels shown.objects.travels less.travels;
      fresh = shown.objects.fresh ∙ sym less.fresh;
    };
    credit = record {
      tokens = λ f weight. shown.credit.tokens f weight ∙ less.tokens f weight;
      asking = λ o. omega (arith, shown.credit.asking o, less.asking o);
      asks = λ o. omega (arith, shown.credit.asks o, less.asks o);
    };
    counts = record {
      live = λ o home. shown.counts.live o (home ∙ less.here) ∙ less.live o (home ∙ less.here);
      dead = all_among same_object same_object-refl (λ o. IsDead o s) w.dead (λ o t. dead_among o s v.dead shown.counts.dead (less.dead o t));
      refusals = all_among same_refusal refusal_own (λ x. list_any (same_refusal x) s.refusals ≡ true) w.refusals
          (λ x t. refusal_among x v.refusals s.refusals shown.counts.refusals (less.refusals x t));
      failing = omega (arith, shown.counts.failing, less.failing);
    };
    last = last_there v.last w.last s.last less.last shown.last;
  }

  pub weaker_leads : Leads r v [] w
  weaker_leads = (less.here, weaker_covered, weaker_shows)
