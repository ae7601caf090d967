-- Rows of objects, and of what is done on them.
use Rattle.std.proofs.Common.{ℕ, true, false, cond, List, [], ◌∷◌, ◌++◌, ◌≡◌, ◌+◌, ◌^◌, Some, None, IfSome, refl, sym, ap, ◌∙◌, subst, arith, inl, inr}
use Rattle.std.specs.List.{list_any, find, count_by, sum_by, AllByRecursion}
use Rattle.hpx_value.specs.Ids.{Id, same_object}
use Rattle.hpx_value.specs.Hands.{state_after}
use Rattle.hpx_value.specs.Riders.{plain, due_with}
use Rattle.hpx_value.specs.Shapes.{IsState}
use Rattle.hpx_journal.specs.Data.{Act, State, Make, Outcome, Free}
use Rattle.hpx_journal.specs.Bags.{without}
use Rattle.hpx_part.specs.Keyed.{Agree}
use Rattle.hpx_journal.specs.Entries.{Rules, name_of, target_of}
use Rattle.hpx_journal.specs.Tokens.{held_token}
use Rattle.hpx_journal.specs.Local.{after, is_act, is_standing, is_recorded, acts_on, count_in, outcome, objects_after, due_left, failure}
use Rattle.hpx_journal.specs.Rows.{AreMade, IsManaged, LetsGo, is_refused}
use Rattle.hpx_journal.specs.Foreign.{kept}
use Rattle.hpx_journal.proofs.Bags.{sum_by-without-find}
use Rattle.hpx_journal.proofs.Bools.{or_cases, or_left, or_right}
use Rattle.hpx_journal.proofs.Done.{done_settles}
use Rattle.hpx_journal.proofs.Same.{and_true, same_name-true, same_object-true, held-Counts, owed-Counts}
use Rattle.hpx_part.specs.Data.{Event, Born, Done, Freed, Mail, In, Standing, Token, Recorded, Refusal, Local}
use Rattle.hpx_part.specs.View.{View, IsCovered}
use Rattle.hpx_part.specs.Shows.{Shows, Follows, same_refusal}
use Rattle.hpx_part.specs.Parts.{Trades}
use Rattle.hpx_part.proofs.Keys.{means, own, own_object}
use Rattle.hpx_part.proofs.Keyed.{Agree-idle, counts_of, counts_true}
use Rattle.hpx_part.proofs.Lists.{sum_middle, acts_taken, acts_found, objects_put, objects_taken, objects_found}
use Rattle.hpx_part.proofs.Credit.{traded, owed_none}
use Rattle.hpx_part.proofs.Covered.{held_counts, owed_counts, object_names}
use Rattle.hpx_part.proofs.Stay.{acts_stay, asks_stay, credit_stays, counts_stay}
use Rattle.hpx_part.proofs.CreditRows.{live_top, dead_under}
use Rattle.hpx_part.proofs.Weaken.{dead_among}

-- what is made stands where it is seen to stand
made_there : (makes : List Make) (fresh : List Id) (there seen : List Standing) → Agree is_standing there seen → AreMade makes fresh seen
    → AreMade makes fresh there
made_there [] [] there seen agree h = tt
made_there [] (o ∷ fresh) there seen agree h = absurd h
made_there (make ∷ makes) [] there seen agree h = absurd h
made_there (make ∷ makes) (o ∷ fresh) there seen agree h = (h.0, agree.finds o ∙ h.1, made_there makes fresh there seen agree h.2)

-- ---- refusals

refused_through : (act : Act) (state : State) (x y : Refusal) → same_refusal x y ≡ true → is_refused act state x ≡ is_refused act state y
refused_through act state x y h =
    let p = same_name-true x.action y.action (and_true _ _ h).0 in
    let q = same_object-true x.object y.object (and_true _ _ h).1 in
    ap (λ a. is_refused act state (record { action = a; object = x.object })) p
    ∙ ap (λ (k : Id). is_refused act state (record { action = y.action; object = k })) q

refused_one : (act : Act) (state : State) (x : Refusal) (there : List Refusal) → is_refused act state x ≡ true
    → list_any (same_refusal x) there ≡ true → list_any (is_refused act state) there ≡ true
refused_one act state x [] h t = t
refused_one act state x (y ∷ ys) h t = elim (or_cases (same_refusal x y) (list_any (same_refusal x) ys) t) [
  | inl i ↦ or_left _ _ (sym (refused_through act state x y i) ∙ h)
  | inr i ↦ or_right _ _ (refused_one act state x ys h i)
]

refused_there : (act : Act) (state : State) (there seen : List Refusal) → AllByRecursion (λ x. list_any (same_refusal x) there ≡ true) seen
    → list_any (is_refused act state) seen ≡ true → list_any (is_refused act state) there ≡ true
refused_there act state there [] all h = absurd (cc)
refused_there act state there (x ∷ xs) all h = elim (or_cases (is_refused act state x) (list_any (is_refused act state) xs) h) [
  | inl t ↦ refused_one act state x there t all.0
  | inr t ↦ refused_there act state there xs all.1 t
]

-- ---- a commit

module _ (r : Rules) (s : Local) (act : Act) (x : Standing) (here : ℕ) (fresh : List Id) (out : Outcome) (here_is : s.here ≡ here) (fresh_is : s.fresh ≡ fresh)
    (right : out ≡ r.outcome_of x.object.kind here x.state (plain act)) (found : find (is_act (name_of act)) s.fired ≡ Some act)
    (there : find (is_standing (target_of act)) s.objects ≡ Some x) where
  outcome_is : outcome r s act x ≡ out
  outcome_is = ap (λ k. r.outcome_of x.object.kind k x.state (plain act)) here_is ∙ sym right

  settled_is : objects_after r s (Done (name_of act) false)
      ≡ record { object = x.object; state = state_after x.state (plain act) fresh out } ∷ without (is_standing x.object) s.objects
  settled_is =
      done_settles r s (name_of act) act x found there
      ∙ (ap (λ zs. record { object = x.object; state = state_after x.state (plain act) zs (outcome r s act x) } ∷ without (is_standing x.object) s.objects) fresh_is
      ∙ ap (λ o. record { object = x.object; state = state_after x.state (plain act) fresh o } ∷ without (is_standing x.object) s.objects) outcome_is)

  due_is : due_left r s false (find (is_act (name_of act)) s.fired) ≡ due_with x.state (plain act) fresh out
  due_is =
      rw (found, there) refl
      ∙ (ap (λ zs. due_with x.state (plain act) zs (outcome r s act x)) fresh_is ∙ ap (due_with x.state (plain act) fresh) outcome_is)

-- an object in a new state
object_settled : (xs ys l m : List Standing) (x new : Standing) → Agree is_standing xs ys → ys ≡ l ++ x ∷ m → new.object ≡ x.object
    → Agree is_standing (new ∷ without (is_standing x.object) xs) (l ++ new ∷ m)
object_settled xs ys l m x new agree is same =
    let gone = objects_taken xs ys l m x agree is in
    let none : count_by (is_standing x.object) (without (is_standing x.object) xs) ≡ 0 =
    omega (
      arith,
      agree.single x.object,
      sum_by-without-find (counts_of (is_standing x.object)) (is_standing x.object) xs x (objects_found xs ys l m x agree is),
      counts_true (is_standing x.object) x (own_object x),
    ) in
    objects_put (without (is_standing x.object) xs) (l ++ m) l m new gone refl
    (subst (λ (o : Id). count_by (is_standing o) (without (is_standing x.object) xs) ≡ 0) (sym same) none)

-- ---- rows

module _ (r : Rules) (v : View) where
  pub follows_born : (o : Id) (state : State) (l m : List Standing) (tokens : List Token) (live : List Recorded)
      → v.due ≡ [] → o.log ≡ None → o.home ≡ v.here → IsManaged o → o.number ≡ v.number + 1
      → state.drawn ≡ 0 → state.conts ≡ [] → state.ids ≡ [] → IsState state → v.objects ≡ l ++ m
      → Trades v.tokens [] (held_token o r.credit_log ∷ []) tokens
      → ((x : Id) → x.home ≡ v.here → count_in (find (is_recorded x) live)
      ≡ cond (same_object x o) (2 ^ r.credit_log) (count_in (find (is_recorded x) v.live)))
      → Follows r v (Born o state)
      (record v {
        number = v.number + 1;
        objects = l ++ record { object = o; state = state } ∷ m;
        fresh = v.fresh ++ o ∷ [];
        tokens = tokens;
        live = live;
        last = Some (Born o state);
      })
  unfolding after
  follows_born o state l m tokens live due bare home managed number drawn conts ids shape is trades lives = record {
    step = λ s once shown native.
        let none : kept o s ≡ 0 =
        once.born o managed.0 (home ∙ sym shown.acts.here) (inr (omega (arith, number, shown.objects.number))) in (
          record {
            here = refl;
            turn = shown.acts.due ∙ due;
            tokens = tt;
            bare = (bare, tt);
            row = (home ∙ sym shown.acts.here, managed, number ∙ sym (ap (λ n. n + 1) shown.objects.number), drawn, conts, ids);
          },
          record {
            acts = acts_stay v _ s _ refl refl shown.acts;
            objects = record {
              number = ap (λ n. n + 1) shown.objects.number;
              objects = objects_put s.objects v.objects l m (record { object = o; state = state }) shown.objects.objects is (omega (arith, none));
              travels = shown.objects.travels;
              fresh = ap (λ zs. zs ++ o ∷ []) shown.objects.fresh;
            };
            credit = asks_stay v _ s _ refl refl shown.credit (traded s.tokens v.tokens [] _ tokens shown.credit.tokens tt trades);
            counts = record {
              live = λ x at. live_top x o (2 ^ r.credit_log) s.counts v.live live (shown.counts.live x at) (lives x at);
              dead = dead_under (record { object = o; count = 2 ^ r.credit_log }) s.counts v.dead shown.counts.dead;
              refusals = shown.counts.refusals;
              failing = shown.counts.failing;
            };
            last = refl;
          },
        );
    form = record { bare = (bare, tt); birth = (shape, ids); to = tt };
    here = refl;
    covered = λ covered x big. record {
      named = omega (
        arith,
        (covered x big).named,
        ap (sum_by (object_names x)) is,
        sum_middle (object_names x) l (record { object = o; state = state }) m,
        ap (count_by (same_object x)) ids,
        trades.sums (held_counts x) (held-Counts x),
      );
      pending = omega (
        arith,
        (covered x big).pending,
        trades.sums (owed_counts x) (owed-Counts x),
        owed_none x o r.credit_log,
      );
    };
  }

  pub follows_done : (fl fm : List Act) (l m : List Standing) (act : Act) (x : Standing) (out : Outcome)
      → v.due ≡ [] → v.fired ≡ fl ++ act ∷ fm → v.objects ≡ l ++ x ∷ m → find (is_standing (target_of act)) v.objects ≡ Some x
      → out ≡ r.outcome_of x.object.kind v.here x.state (plain act) → AreMade out.makes v.fresh v.objects
      → (IsCovered v → IsCovered (record v {
        fired = fl ++ fm;
        objects = l ++ record { object = x.object; state = state_after x.state (plain act) v.fresh out } ∷ m;
        fresh = [];
        due = due_with x.state (plain act) v.fresh out;
        last = Some (Done (name_of act) false);
      }))
      → Follows r v (Done (name_of act) false)
      (record v {
        fired = fl ++ fm;
        objects = l ++ record { object = x.object; state = state_after x.state (plain act) v.fresh out } ∷ m;
        fresh = [];
        due = due_with x.state (plain act) v.fresh out;
        last = Some (Done (name_of act) false);
      })
  unfolding after
  follows_done fl fm l m act x out due fires objects stands right makes covered = record {
    step = λ s once shown native.
        let found = acts_found s.fired v.fired fl fm act shown.acts.fired fires in
        let there : find (is_standing (target_of act)) s.objects ≡ Some x = shown.objects.objects.finds (target_of act) ∙ stands in
        let new : Standing = record { object = x.object; state = state_after x.state (plain act) v.fresh out } in
        let same : outcome r s act x ≡ out = outcome_is r s act x v.here v.fresh out shown.acts.here shown.objects.fresh right found there in
        let made : AreMade out.makes s.fresh s.objects =
        made_there out.makes s.fresh s.objects v.objects shown.objects.objects
        (subst (λ zs. AreMade out.makes zs v.objects) (sym shown.objects.fresh) makes) in (
          record {
            here = refl;
            turn = shown.acts.due ∙ due;
            tokens = tt;
            bare = tt;
            row = (
              record { act = act; target = x; fired = found; stands = there },
              subst (λ (o : Outcome). AreMade o.makes s.fresh s.objects) (sym same) made,
            );
          },
          record {
            acts = record {
              here = shown.acts.here;
              serial = shown.acts.serial;
              waiting = shown.acts.waiting;
              fired = acts_taken s.fired v.fired fl fm act shown.acts.fired fires;
              due = due_is r s act x v.here v.fresh out shown.acts.here shown.objects.fresh right found there;
            };
            objects = record {
              number = shown.objects.number;
              objects = subst (λ zs. Agree is_standing zs (l ++ new ∷ m))
                  (sym (settled_is r s act x v.here v.fresh out shown.acts.here shown.objects.fresh right found there))
                  (object_settled s.objects v.objects l m x new shown.objects.objects objects refl);
              travels = shown.objects.travels;
              fresh = refl;
            };
            credit = credit_stays v _ s _ refl refl refl refl shown.credit;
            counts = counts_stay v _ s _ refl refl shown.counts;
            last = refl;
          },
        );
    form = record { bare = tt; birth = tt; to = tt };
    here = refl;
    covered = covered;
  }

  pub follows_fail : (fl fm : List Act) (act : Act) (x : Standing) (n : ℕ) → v.due ≡ [] → v.fresh ≡ [] → v.fired ≡ fl ++ act ∷ fm
      → find (is_standing (target_of act)) v.objects ≡ Some x → list_any (is_refused act x.state) v.refusals ≡ true → v.failing ≡ n + 1
      → (IsCovered v → IsCovered (record v { fired = fl ++ fm; due = failure act; failing = n; last = Some (Done (name_of act) true) }))
      → Follows r v (Done (name_of act) true)
      (record v { fired = fl ++ fm; due = failure act; failing = n; last = Some (Done (name_of act) true) })
  unfolding after
  follows_fail fl fm act x n due fresh fires stands refused few covered = record {
    step = λ s once shown native.
        let found = acts_found s.fired v.fired fl fm act shown.acts.fired fires in
        let left : due_left r s true (find (is_act (name_of act)) s.fired) ≡ failure act = ap (due_left r s true) found in (
          record {
            here = refl;
            turn = shown.acts.due ∙ due;
            tokens = tt;
            bare = tt;
            row = (
              record { act = act; target = x; fired = found; stands = shown.objects.objects.finds (target_of act) ∙ stands },
              shown.objects.fresh ∙ fresh,
              refused_there act x.state s.refusals v.refusals shown.counts.refusals refused,
              omega (arith, shown.counts.failing, few),
            );
          },
          record {
            acts = record {
              here = shown.acts.here;
              serial = shown.acts.serial;
              waiting = shown.acts.waiting;
              fired = acts_taken s.fired v.fired fl fm act shown.acts.fired fires;
              due = left;
            };
            objects = record {
              number = shown.objects.number;
              objects = shown.objects.objects;
              travels = shown.objects.travels;
              fresh = sym fresh;
            };
            credit = credit_stays v _ s _ refl refl refl refl shown.credit;
            counts = record {
              live = shown.counts.live;
              dead = shown.counts.dead;
              refusals = shown.counts.refusals;
              failing = omega (arith, shown.counts.failing, few);
            };
            last = refl;
          },
        );
    form = record { bare = tt; birth = tt; to = tt };
    here = refl;
    covered = covered;
  }

module _ (r : Rules) (v : View) (o : Id) (x : Standing) (l m : List Standing) (due : v.due ≡ []) (fresh : v.fresh ≡ []) (managed : IsManaged o)
    (bare : o.log ≡ None) (is : v.objects ≡ l ++ x ∷ m) (same : same_object o x.object ≡ true)
    (idle_waiting : list_any (acts_on o) v.waiting ≡ false) (idle_fired : list_any (acts_on o) v.fired ≡ false) where
  -- where the entry before says so
  follows_freed : ((s : Local) → Shows v s → LetsGo r s o s.last) → Follows r v (Freed o) (record v { objects = l ++ m; last = Some (Freed o) })
  unfolding after
  follows_freed lets = record {
    step = λ s once shown native.
        let agree = shown.objects.objects in
        let found : find (is_standing o) s.objects ≡ Some x =
        ap (λ (k : Id). find (is_standing k) s.objects) (same_object-true o x.object same) ∙ objects_found s.objects v.objects l m x agree is in
        let gone : without (is_standing x.object) s.objects ≡ without (is_standing o) s.objects =
        ap (λ (k : Id). without (is_standing k) s.objects) (sym (same_object-true o x.object same)) in (
          record {
            here = refl;
            turn = (shown.acts.due ∙ due, shown.objects.fresh ∙ fresh);
            tokens = tt;
            bare = (bare, tt);
            row = (
              managed,
              (x, found),
              Agree-idle is_act name_of means own (acts_on o) s.waiting v.waiting shown.acts.waiting idle_waiting,
              Agree-idle is_act name_of means own (acts_on o) s.fired v.fired shown.acts.fired idle_fired,
              lets s shown,
            );
          },
          record {
            acts = acts_stay v _ s _ refl refl shown.acts;
            objects = record {
              number = shown.objects.number;
              objects = subst (λ zs. Agree is_standing zs (l ++ m)) gone (objects_taken s.objects v.objects l m x agree is);
              travels = shown.objects.travels;
              fresh = shown.objects.fresh;
            };
            credit = credit_stays v _ s _ refl refl refl refl shown.credit;
            counts = counts_stay v _ s _ refl refl shown.counts;
            last = refl;
          },
        );
    form = record { bare = (bare, tt); birth = tt; to = tt };
    here = refl;
    covered = λ covered y big. record {
      named = omega (arith, (covered y big).named, ap (sum_by (object_names y)) is, sum_middle (object_names y) l x m);
      pending = (covered y big).pending;
    };
  }

  last_is : (e : Event) → v.last ≡ Some e → (s : Local) → Shows v s → s.last ≡ Some e
  last_is e last s shown = subst (λ z. IfSome z (λ y. s.last ≡ Some y)) last shown.last

  pub follows_freed_mailed : v.last ≡ Some (Mail 10) → o.home ≡ v.here → list_any (same_object o) v.dead ≡ true
      → Follows r v (Freed o) (record v { objects = l ++ m; last = Some (Freed o) })
  follows_freed_mailed last home dead =
      follows_freed
      (λ s shown. subst (LetsGo r s o) (sym (last_is (Mail 10) last s shown))
      (refl, home ∙ sym shown.acts.here, dead_among o s v.dead shown.counts.dead dead))

  pub follows_freed_taken : (bytes : List ℕ) → v.last ≡ Some (In bytes) → r.parcel_of bytes ≡ Some (Free o)
      → Follows r v (Freed o) (record v { objects = l ++ m; last = Some (Freed o) })
  follows_freed_taken bytes last spelled =
      follows_freed (λ s shown. subst (LetsGo r s o) (sym (last_is (In bytes) last s shown)) spelled)
