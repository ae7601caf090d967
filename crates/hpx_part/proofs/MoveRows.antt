-- Rows of objects that move: they leave, and they land.
use Rattle.std.proofs.Common.{ℕ, true, false, List, [], ◌∷◌, ◌++◌, ◌≡◌, ◌≢◌, ◌≤◌, Some, None, refl, sym, ap, ◌∙◌, subst, arith, map}
use Rattle.std.specs.List.{list_any, find, count_by}
use Rattle.std.specs.Option.{option_to_list}
use Rattle.std.specs.Prelude.{◌==◌}
use Rattle.hpx_value.specs.Ids.{Id, bare}
use Rattle.hpx_journal.specs.Bags.{without}
use Rattle.hpx_journal.specs.Data.{Act}
use Rattle.hpx_journal.specs.Entries.{Rules, name_of}
use Rattle.hpx_journal.specs.Local.{after, is_act, is_standing, is_travel, is_busy, leaving, stood}
use Rattle.hpx_journal.specs.Rows.{IsManaged, is_move_of}
use Rattle.hpx_journal.proofs.Bags.{find-passes, list_any-find}
use Rattle.hpx_journal.proofs.Same.{same_object-true}
use Rattle.hpx_part.specs.Data.{Left, Landed, Standing, Travel}
use Rattle.hpx_part.specs.Keyed.{Agree}
use Rattle.hpx_part.specs.View.{View}
use Rattle.hpx_part.specs.Shows.{Follows}
use Rattle.hpx_part.specs.Loads.{Exchanges, standing_load, travel_load}
use Rattle.hpx_part.proofs.ActRows.{idle_of}
use Rattle.hpx_part.proofs.Covered.{object_names, travel_names}
use Rattle.hpx_part.proofs.Keyed.{Agree-sum, counts_of, counted_any, any_counted}
use Rattle.hpx_part.proofs.Keys.{means, own, stood as standing, means_object, own_object, travels, means_travel, own_travel}
use Rattle.hpx_part.proofs.Loads.{Agree-goes, Agree-comes}
use Rattle.hpx_part.proofs.Stay.{acts_stay, credit_stays, counts_stay}
use Rattle.hpx_part.proofs.Telling.{tells_standing, tells_travel}

-- some action that is seen to pass a test does so where it is
passes_there : (p : Act → _) (xs ys : List Act) → Agree is_act xs ys → list_any p ys ≡ true → list_any p xs ≡ true
passes_there p xs ys agree h =
    any_counted p xs (omega (arith, Agree-sum is_act name_of means own (counts_of p) xs ys agree, counted_any p ys h))

module _ (r : Rules) (v : View) (o : Id) (due : v.due ≡ []) (fresh : v.fresh ≡ []) (managed : IsManaged o) (no_credit : o.log ≡ None)
    (objects : List Standing) (moving : List Travel) where
  pub follows_left : (to : ℕ) (x : Standing) → find (is_standing o) v.objects ≡ Some x → is_busy o v.fired ≡ false
      → list_any (is_move_of o to) v.waiting ≡ true → to ≢ v.here
      → Exchanges (standing_load x) (travel_load (leaving to x)) v (record v { objects = objects; travels = moving; last = Some (Left o to) })
      → Follows r v (Left o to) (record v { objects = objects; travels = moving; last = Some (Left o to) })
  unfolding after
  follows_left to x seen idle moves away loads = record {
    step = λ s once shown native.
        let agree = shown.objects.objects in
        let found : find (is_standing o) s.objects ≡ Some x = agree.finds o ∙ seen in
        let same : bare o ≡ bare x.object = same_object-true o x.object (find-passes (is_standing o) s.objects x found) in
        let goes = Agree-goes tells_standing is_standing standing means_object own_object s.objects v.objects objects (x ∷ []) tt agree
        (λ f. omega (arith, loads.objects f)) in
        let none : count_by (is_travel x.object) s.travels ≡ 0 = omega (
          arith,
          once.objects x.object (subst (λ (k : Id). 16 ≤ k.kind) same managed.0),
          counted_any (is_standing x.object) s.objects (list_any-find (is_standing x.object) s.objects x goes.0.0),
        ) in (
          record {
            here = refl;
            turn = (shown.acts.due ∙ due, shown.objects.fresh ∙ fresh);
            tokens = tt;
            bare = (no_credit, tt);
            row = (
              managed,
              (x, found),
              idle_of (o.kind == 7) o s.fired v.fired shown.acts.fired idle,
              passes_there (is_move_of o to) s.waiting v.waiting shown.acts.waiting moves,
              λ h. away (h ∙ shown.acts.here),
            );
          },
          record {
            acts = acts_stay v _ s _ refl refl shown.acts;
            objects = record {
              number = shown.objects.number;
              objects = subst (λ zs. Agree is_standing zs objects) (ap (λ (k : Id). without (is_standing k) s.objects) (sym same)) goes.1;
              travels = subst (λ q. Agree is_travel (map (leaving to) (option_to_list q) ++ s.travels) moving) (sym found)
                  (Agree-comes tells_travel is_travel travels means_travel own_travel s.travels v.travels moving (leaving to x ∷ []) tt
                  shown.objects.travels (none, tt) (λ f. omega (arith, loads.travels f)));
              fresh = shown.objects.fresh;
            };
            credit = credit_stays v _ s _ refl refl refl refl shown.credit;
            counts = counts_stay v _ s _ refl refl shown.counts;
            last = refl;
          },
        );
    form = record { bare = (no_credit, tt); birth = tt; to = tt };
    here = refl;
    covered = λ covered y big. record {
      named = omega (arith, (covered y big).named, loads.objects (object_names y), loads.travels (travel_names y));
      pending = (covered y big).pending;
    };
  }

  pub follows_landed : (x : Travel) → find (is_travel o) v.travels ≡ Some x → x.to ≡ v.here
      → Exchanges (travel_load x) (standing_load (stood x)) v (record v { objects = objects; travels = moving; last = Some (Landed o) })
      → Follows r v (Landed o) (record v { objects = objects; travels = moving; last = Some (Landed o) })
  unfolding after
  follows_landed x seen to loads = record {
    step = λ s once shown native.
        let agree = shown.objects.travels in
        let found : find (is_travel o) s.travels ≡ Some x = agree.finds o ∙ seen in
        let same : bare o ≡ bare x.object = same_object-true o x.object (find-passes (is_travel o) s.travels x found) in
        let goes = Agree-goes tells_travel is_travel travels means_travel own_travel s.travels v.travels moving (x ∷ []) tt agree
        (λ f. omega (arith, loads.travels f)) in
        let none : count_by (is_standing x.object) s.objects ≡ 0 = omega (
          arith,
          once.objects x.object (subst (λ (k : Id). 16 ≤ k.kind) same managed.0),
          counted_any (is_travel x.object) s.travels (list_any-find (is_travel x.object) s.travels x goes.0.0),
        ) in (
          record {
            here = refl;
            turn = (shown.acts.due ∙ due, shown.objects.fresh ∙ fresh);
            tokens = tt;
            bare = (no_credit, tt);
            row = (managed, (x, found, to ∙ sym shown.acts.here));
          },
          record {
            acts = acts_stay v _ s _ refl refl shown.acts;
            objects = record {
              number = shown.objects.number;
              objects = subst (λ q. Agree is_standing (map stood (option_to_list q) ++ s.objects) objects) (sym found)
                  (Agree-comes tells_standing is_standing standing means_object own_object s.objects v.objects objects (stood x ∷ []) tt
                  shown.objects.objects (none, tt) (λ f. omega (arith, loads.objects f)));
              travels = subst (λ zs. Agree is_travel zs moving) (ap (λ (k : Id). without (is_travel k) s.travels) (sym same)) goes.1;
              fresh = shown.objects.fresh;
            };
            credit = credit_stays v _ s _ refl refl refl refl shown.credit;
            counts = counts_stay v _ s _ refl refl shown.counts;
            last = refl;
          },
        );
    form = record { bare = (no_credit, tt); birth = tt; to = tt };
    here = refl;
    covered = λ covered y big. record {
      named = omega (arith, (covered y big).named, loads.objects (object_names y), loads.travels (travel_names y));
      pending = (covered y big).pending;
    };
  }
