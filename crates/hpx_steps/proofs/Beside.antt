-- What stands beside commits: where one begins, ends or stands elsewhere among them, and where objects come and go.
use Rattle.hpx_steps.proofs.Common.{Act, AllByRecursion, Apart, Bool, HasCommits, HasObject, HasRightCredit, Id, IsWhole, Job, List, Single, Some, Standing, State, Waits, [], action_of, acts_on, all_append, all_at, all_parts, all_remove, all_set, ap, append_assoc, arith, bare, bare_names, bare_state, cond, drop, eqb-true, false, find, fired_of, is_busy, is_standing, list_any, map, map-append, names_of, refl, remove, same_object, same_object-from, same_object-sym, set, slice_get, split_get, subst, suc, sum_by, sum_by-append, sum_by-cons, sum_middle, sym, take, target_of, true, ℕ, ◌++◌, ◌==◌, ◌∙◌, ◌∷◌, ◌≡◌}
use Rattle.hpx_steps.proofs.ByRows.{if_so}
use Rattle.hpx_steps.proofs.Bare.{lent_all, no_bare}
use Rattle.hpx_steps.proofs.Busy.{apart_alone, apart_less, apart_moved, busy_moved, busy_none, busy_parts, busy_same, keeps, never, none_busy, none_of}
use Rattle.hpx_steps.proofs.Objects.{all_but, find_less, find_more, find_set, get_set, set_same, single_found, single_set}
use Rattle.hpx_steps.proofs.Sums.{less_sum, set_sum}

-- its object is found as well among other objects
object_on : (xs ys : List Standing) (w : Waits) (h : HasObject xs w) → find (is_standing (target_of w.job.action)) ys ≡ Some h.standing → HasObject ys w
object_on xs ys w h found = record { standing = h.standing; found = found; kind = h.kind; state = h.state }

-- an object with no action on it is not busy
no_act : (o : Id) (cs : List Waits) → list_any (λ (w : Waits). acts_on o w.job.action) cs ≡ false → is_busy o (map action_of cs) ≡ false
no_act o [] h = never (o.kind == 7)
no_act o (w ∷ cs) h =
    let k = none_of (acts_on o w.job.action) (list_any (λ (y : Waits). acts_on o y.job.action) cs) h in
    none_busy o w.job.action (map action_of cs) (ap (cond (o.kind == 7) false) k.0 ∙ never (o.kind == 7)) (no_act o cs k.1)

-- what is whole is so beside commits that keep no less busy
wholes : (cs cs' : List Waits) → ((o : Id) → is_busy o (map action_of cs') ≡ false → is_busy o (map action_of cs) ≡ false) → (xs : List Standing) → AllByRecursion (IsWhole cs) xs
    → AllByRecursion (IsWhole cs') xs
wholes cs cs' busy [] all = tt
wholes cs cs' busy (y ∷ ys) all = ((λ b. all.0 (busy y.object b)), wholes cs cs' busy ys all.1)

-- ---- an object has another state

module _ (objects : List Standing) (j : ℕ) (act : Act) (old new : Standing) (stands : slice_get objects j ≡ Some old)
    (same : same_object (target_of act) old.object ≡ true) (name : new.object ≡ old.object) (plain : old.object.kind ≡ 7 → new ≡ old) where
  found_set : (o : Id) (x : Standing) → (same_object o old.object ≡ true → old.object.kind ≡ 7) → find (is_standing o) objects ≡ Some x → find (is_standing o) (set objects j new) ≡ Some x
  found_set o x is_plain found = grind (arith, if_so, set_same, old, find_set)

  -- only a plain object has other fired actions
  only_plain : (w : Waits) → keeps (target_of act) w.job.action ≡ false → same_object (target_of w.job.action) old.object ≡ true → old.object.kind ≡ 7
  only_plain w none t = grind arith

  pub each_set : (ws : List Waits) → is_busy (target_of act) (map action_of ws) ≡ false → AllByRecursion (HasObject objects) ws → AllByRecursion (HasObject (set objects j new)) ws
  each_set [] none all = tt
  each_set (w ∷ ws) none all =
      let rest = busy_none (target_of act) w.job.action (map action_of ws) none in (
        object_on objects (set objects j new) w all.0 (found_set (target_of w.job.action) all.0.standing (only_plain w rest.0) all.0.found),
        each_set ws rest.1 all.1,
      )

-- ---- a commit begins

module _ (objects : List Standing) (running : List Act) (cs : List Waits) (h : HasCommits objects running cs) (i : ℕ) (act : Act) (runs : slice_get running i ≡ Some act) where
  split : fired_of running cs ≡ take i running ++ act ∷ (drop (suc i) running ++ map action_of cs)
  split = ap (λ xs. xs ++ map action_of cs) (split_get running i act runs) ∙ append_assoc (take i running) (act ∷ drop (suc i) running) (map action_of cs)

  -- no commit keeps the object of an action that runs busy
  pub runs_alone : is_busy (target_of act) (map action_of cs) ≡ false
  runs_alone = (busy_parts (target_of act) (drop (suc i) running) (map action_of cs) (busy_parts (target_of act) (take i running) (drop (suc i) running ++ map action_of cs)
      (apart_alone (take i running) act (drop (suc i) running ++ map action_of cs) (subst Apart split h.apart))).1).1

  -- so the ids of its object have their credits
  pub runs_whole : (j : ℕ) (x : Standing) → slice_get objects j ≡ Some x → same_object (target_of act) x.object ≡ true → AllByRecursion HasRightCredit x.state.ids
  runs_whole j x stands same = all_at (IsWhole cs) objects j x h.whole stands (sym (busy_same (target_of act) x.object (map action_of cs) same) ∙ runs_alone)

  module _ (single : Single objects) (w : Waits) (is : w.job.action ≡ act) (j : ℕ) (x : Standing) (stands : slice_get objects j ≡ Some x)
      (same : same_object (target_of act) x.object ≡ true) (kind : w.job.kind ≡ x.object.kind) (state : w.job.state ≡ x.state)
      (plain : x.object.kind ≡ 7 → x.state.ids ≡ []) where
    abbrev lends : Standing
    lends = record { object = x.object; state = bare_state x.state }

    pub begin_commits : HasCommits (set objects j (record { object = x.object; state = bare_state x.state })) (remove running i) (w ∷ cs)
    begin_commits = record {
      each = (
        record {
          standing = lends;
          found = single_found (set objects j lends) j lends (target_of w.job.action) (single_set objects j x lends stands refl single) (get_set objects j x lends stands)
              (ap (λ a. same_object (target_of a) x.object) is ∙ same);
          kind = sym kind;
          state = ap bare_state (sym state);
        },
        each_set objects j act x lends stands same refl (λ k. ap (λ ids. record { object = x.object; state = record x.state { ids = ids } }) (ap (map bare) (plain k) ∙ sym (plain k)))
            cs runs_alone h.each,
      );
      apart = subst (λ a. Apart (remove running i ++ a ∷ map action_of cs)) (sym is) (apart_moved act (take i running) (drop (suc i) running ++ map action_of cs) (remove running i) (map action_of cs)
          (sym (append_assoc (take i running) (drop (suc i) running) (map action_of cs))) (subst Apart split h.apart));
      whole = all_set (IsWhole (w ∷ cs)) objects j lends (wholes cs (w ∷ cs) (λ o b. (busy_none o w.job.action (map action_of cs) b).1) objects h.whole) (λ b. lent_whole (busy_none x.object w.job.action (map action_of cs) b).0);
      lent = λ o managed. omega (
        arith,
        h.lent o managed,
        set_sum (λ (y : Standing). bare_names o y.state.ids) objects j x lends stands,
        sum_by-cons (λ (y : Waits). names_of o y.job.state.ids) w cs,
        no_bare o managed x.state.ids (runs_whole j x stands same),
        lent_all o x.state.ids,
        ap (λ (y : State). names_of o y.ids) state,
      );
    }
      where
        -- what is not busy is plain, and has no ids
        lent_whole : keeps x.object w.job.action ≡ false → AllByRecursion HasRightCredit (map bare x.state.ids)
        lent_whole free = subst (λ ids. AllByRecursion HasRightCredit (map bare ids)) (sym (plain (at (x.object.kind == 7) refl free))) tt
          where
            at : (b : Bool) → (x.object.kind == 7) ≡ b → cond b false (acts_on x.object w.job.action) ≡ false → x.object.kind ≡ 7
            at true e z = eqb-true x.object.kind 7 e
            at false e z = absurd (let f : true ≡ false = sym (ap (λ a. same_object x.object (target_of a)) is ∙ same_object-sym (target_of act) x.object same) ∙ z in cc)

-- ---- a commit ends

module _ (objects : List Standing) (running : List Act) (w : Waits) (cs : List Waits) (h : HasCommits objects running (w ∷ cs)) (single : Single objects)
    (j : ℕ) (x new : Standing) (stands : slice_get objects j ≡ Some x) (same : same_object (target_of w.job.action) x.object ≡ true)
    (name : new.object ≡ x.object) (plain : x.object.kind ≡ 7 → new ≡ x) (credit : AllByRecursion HasRightCredit new.state.ids)
    (lends : x.state ≡ bare_state w.job.state) where
  alone : is_busy (target_of w.job.action) (map action_of cs) ≡ false
  alone = (busy_parts (target_of w.job.action) running (map action_of cs) (apart_alone running w.job.action (map action_of cs) h.apart)).1

  pub end_commits : HasCommits (set objects j new) running cs
  end_commits = record {
    each = each_set objects j w.job.action x new stands same name plain cs alone h.each.1;
    apart = apart_less running w.job.action (map action_of cs) h.apart;
    whole = all_but (IsWhole cs) objects j x new single stands (λ b. credit) (others objects h.whole);
    lent = λ o managed. omega (
      arith,
      h.lent o managed,
      set_sum (λ (y : Standing). bare_names o y.state.ids) objects j x new stands,
      sum_by-cons (λ (y : Waits). names_of o y.job.state.ids) w cs,
      no_bare o managed new.state.ids credit,
      lent_all o w.job.state.ids,
      ap (λ (y : State). bare_names o y.ids) lends,
    );
  }
    where
      others : (xs : List Standing) → AllByRecursion (IsWhole (w ∷ cs)) xs → AllByRecursion (λ (z : Standing). same_object z.object x.object ≡ false → IsWhole cs z) xs
      others [] all = tt
      others (z ∷ zs) all = (
        (λ other b. all.0 (none_busy z.object w.job.action (map action_of cs) (ap (cond (z.object.kind == 7) false) (off z other) ∙ never (z.object.kind == 7)) b)),
        others zs all.1,
      )
        where
          off : (z : Standing) → same_object z.object x.object ≡ false → same_object z.object (target_of w.job.action) ≡ false
          off z other = if_so (same_object z.object (target_of w.job.action))
              (λ t. absurd (let e : true ≡ false = sym (same_object-from z.object (target_of w.job.action) x.object t ∙ same) ∙ other in cc))
              (λ f. f)

-- ---- a commit stands elsewhere among the others, and may have another hand

module _ (objects : List Standing) (running : List Act) (l m l' m' : List Waits) (w w' : Waits) (job : w'.job ≡ w.job) (same : l ++ m ≡ l' ++ m') where
  abbrev act : Act
  act = w.job.action

  fired_split : (ws ys : List Waits) (v : Waits) → fired_of running (ws ++ v ∷ ys) ≡ (running ++ map action_of ws) ++ v.job.action ∷ map action_of ys
  fired_split ws ys v = simp (map-append, append_assoc)

  pub was_fired : fired_of running (l ++ w ∷ m) ≡ (running ++ map action_of l) ++ w.job.action ∷ map action_of m
  was_fired = fired_split l m w

  pub is_fired : fired_of running (l' ++ w' ∷ m') ≡ (running ++ map action_of l') ++ w.job.action ∷ map action_of m'
  is_fired = fired_split l' m' w' ∙ ap (λ (j : Job). (running ++ map action_of l') ++ j.action ∷ map action_of m') job

  pub same_fired : (running ++ map action_of l) ++ map action_of m ≡ (running ++ map action_of l') ++ map action_of m'
  same_fired = simp append_assoc (ap (λ xs. running ++ xs) (sym (map-append action_of l m) ∙ (ap (map action_of) same ∙ map-append action_of l' m')))

  pub move_commits : HasCommits objects running (l ++ w ∷ m) → HasCommits objects running (l' ++ w' ∷ m')
  move_commits h = record {
    each =
        let parts = all_parts (HasObject objects) l (w ∷ m) h.each in
        let rest = all_parts (HasObject objects) l' m' (subst (AllByRecursion (HasObject objects)) same (all_append (HasObject objects) l m parts.0 parts.1.1)) in
        let on : HasObject objects w' = subst (λ j. HasObject objects (record w' { job = j })) (sym job)
        (record { standing = parts.1.0.standing; found = parts.1.0.found; kind = parts.1.0.kind; state = parts.1.0.state }) in
        all_append (HasObject objects) l' (w' ∷ m') rest.0 (on, rest.1);
    apart = subst Apart (sym is_fired) (apart_moved act (running ++ map action_of l) (map action_of m) (running ++ map action_of l') (map action_of m') same_fired (subst Apart was_fired h.apart));
    whole = wholes (l ++ w ∷ m) (l' ++ w' ∷ m') as_busy objects h.whole;
    lent = λ o managed. omega (
      arith,
      h.lent o managed,
      sum_middle (λ (y : Waits). names_of o y.job.state.ids) l w m,
      sum_middle (λ (y : Waits). names_of o y.job.state.ids) l' w' m',
      ap (sum_by (λ (y : Waits). names_of o y.job.state.ids)) same,
      ap (λ (j : Job). names_of o j.state.ids) job,
    );
  }
    where
      acts_then : map action_of (l' ++ w' ∷ m') ≡ map action_of l' ++ w.job.action ∷ map action_of m'
      acts_then = map-append action_of l' (w' ∷ m') ∙ ap (λ (j : Job). map action_of l' ++ j.action ∷ map action_of m') job

      as_busy : (o : Id) → is_busy o (map action_of (l' ++ w' ∷ m')) ≡ false → is_busy o (map action_of (l ++ w ∷ m)) ≡ false
      as_busy o b = ap (is_busy o) (map-append action_of l (w ∷ m)) ∙ busy_moved o act (map action_of l) (map action_of m) (map action_of l') (map action_of m')
          (sym (map-append action_of l m) ∙ (ap (map action_of) same ∙ map-append action_of l' m')) (sym (ap (is_busy o) acts_then) ∙ b)

-- ---- an object comes, and one goes

pub more_commits : (objects : List Standing) (running : List Act) (cs : List Waits) (x : Standing) → AllByRecursion HasRightCredit x.state.ids → HasCommits objects running cs → HasCommits (objects ++ x ∷ []) running cs
more_commits objects running cs x right h = record {
  each = each cs h.each;
  apart = h.apart;
  whole = all_append (IsWhole cs) objects (x ∷ []) h.whole ((λ b. right), tt);
  lent = λ o managed. omega (
    arith,
    h.lent o managed,
    sum_by-append (λ (y : Standing). bare_names o y.state.ids) objects (x ∷ []),
    sum_by-cons (λ (y : Standing). bare_names o y.state.ids) x [],
    no_bare o managed x.state.ids right,
  );
}
  where
    each : (ws : List Waits) → AllByRecursion (HasObject objects) ws → AllByRecursion (HasObject (objects ++ x ∷ [])) ws
    each [] all = tt
    each (w ∷ ws) all = (object_on objects (objects ++ x ∷ []) w all.0 (find_more (is_standing (target_of w.job.action)) objects (x ∷ []) all.0.standing all.0.found), each ws all.1)

module _ (objects : List Standing) (running : List Act) (cs : List Waits) (i : ℕ) (x : Standing) (there : slice_get objects i ≡ Some x) (o : Id)
    (same : same_object o x.object ≡ true) (idle : list_any (λ (w : Waits). acts_on o w.job.action) cs ≡ false) (h : HasCommits objects running cs) where
  other : (w : Waits) → acts_on o w.job.action ≡ false → is_standing (target_of w.job.action) x ≡ false
  other w none = grind arith

  each_less : (ws : List Waits) → list_any (λ (w : Waits). acts_on o w.job.action) ws ≡ false → AllByRecursion (HasObject objects) ws → AllByRecursion (HasObject (remove objects i)) ws
  each_less [] none all = tt
  each_less (w ∷ ws) none all =
      let rest = none_of (acts_on o w.job.action) (list_any (λ (y : Waits). acts_on o y.job.action) ws) none in (
        object_on objects (remove objects i) w all.0 (find_less (is_standing (target_of w.job.action)) objects i x there (other w rest.0) ∙ all.0.found),
        each_less ws rest.1 all.1,
      )

  pub less_commits : HasCommits (remove objects i) running cs
  less_commits = grind (arith, each_less, all_remove, less_sum)

  -- the ids of its state have their credits
  pub freed_whole : AllByRecursion HasRightCredit x.state.ids
  freed_whole = all_at (IsWhole cs) objects i x h.whole there (sym (busy_same o x.object (map action_of cs) same) ∙ no_act o cs idle)
