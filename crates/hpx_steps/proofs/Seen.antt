-- A turn that is seen as a view says; and that its names are covered.
use Rattle.hpx_steps.proofs.Common.{act_names, Event, Id, IfSome, IsCovered, Leads, None, Option, Refusal, Rules, SameSums, SameTokens, SaysLess, Some, Turn, View, [], any_counted, ap, arith, cond, count_by, count_in, counted_any, find, held-Counts, is_held, is_owed, is_recorded, list_any, managed, object_names, due_ids, owed-Counts, ℕ, refl, same_object, same_refusal, subst, sum_by, sym, travel_names, true, view, weaker_leads, ◌≡◌, ◌≤◌}

-- v with what may be told otherwise as it is seen of s
abbrev pub as_seen : View → Turn → View
as_seen v s = record (view s) { here = v.here; serial = v.serial; number = v.number; fresh = v.fresh; due = v.due; last = v.last }

-- s is seen as v says: what waits, is fired, stands and travels, tokens and asks the same as bags, the same counts, and no more that are
-- dead, refusals and failures
pub record Sees (v : View) (s : Turn) : Type 0 where
  pub rest : as_seen v s ≡ view s
  pub waiting : SameSums v.waiting (view s).waiting
  pub fired : SameSums v.fired (view s).fired
  pub objects : SameSums v.objects (view s).objects
  pub travels : SameSums v.travels (view s).travels
  pub tokens : SameTokens v.tokens (view s).tokens
  pub asking : (x : Id) → count_by (same_object x) v.asking ≡ count_by (same_object x) (view s).asking
  pub asks : (x : Id) → count_by (same_object x) v.asks ≡ count_by (same_object x) (view s).asks
  pub live : (x : Id) → x.home ≡ v.here → count_in (find (is_recorded x) v.live) ≡ count_in (find (is_recorded x) (view s).live)
  pub dead : (x : Id) → count_by (same_object x) (view s).dead ≤ count_by (same_object x) v.dead
  pub refusals : (x : Refusal) → list_any (same_refusal x) (view s).refusals ≡ true → list_any (same_refusal x) v.refusals ≡ true
  pub failing : (view s).failing ≤ v.failing

module _ (r : Rules) (v : View) (s : Turn) (sees : Sees v s) where
  less : SaysLess v (view s)
  less = record {
    here = ap (λ (w : View). w.here) (sym sees.rest);
    serial = ap (λ (w : View). w.serial) (sym sees.rest);
    number = ap (λ (w : View). w.number) (sym sees.rest);
    fresh = ap (λ (w : View). w.fresh) (sym sees.rest);
    due = ap (λ (w : View). w.due) (sym sees.rest);
    waiting = sees.waiting;
    fired = sees.fired;
    objects = sees.objects;
    travels = sees.travels;
    tokens = sees.tokens;
    asking = sees.asking;
    asks = sees.asks;
    live = sees.live;
    dead = λ x h. any_counted (same_object x) v.dead (omega (arith, sees.dead x, counted_any (same_object x) (view s).dead h));
    refusals = sees.refusals;
    failing = sees.failing;
    last = subst (λ x. IfSome x (λ e. v.last ≡ Some e)) (ap (λ (w : View). w.last) sees.rest) (own v.last);
  }
    where
      own : (x : Option Event) → IfSome x (λ e. x ≡ Some e)
      own None = tt
      own (Some e) = refl

  pub sees_leads : Leads r v [] (view s)
  sees_leads = weaker_leads r v (view s) less

  -- the names in what is due
  abbrev names_due : Id → View → ℕ
  names_due o w = sum_by (λ x. count_by (same_object o) (due_ids x)) w.due

  pub sees_covers : IsCovered (view s) → IsCovered v
  sees_covers covered o managed =
      let c = covered o managed in
      let due : names_due o v ≡ names_due o (view s) = ap (names_due o) sees.rest in record {
        named = omega (arith, c.named, due, sees.waiting (act_names o), sees.fired (act_names o), sees.objects (object_names o), sees.travels (travel_names o), sees.tokens (λ t. cond (is_held o t) 1 0) (held-Counts o), sees.asking o);
        pending = omega (arith, c.pending, sees.tokens (λ t. cond (is_owed o t) 1 0) (owed-Counts o), sees.asks o);
      }
