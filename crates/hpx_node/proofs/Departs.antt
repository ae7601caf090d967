-- An object leaves on which nothing is done any more.
use Rattle.std.proofs.lemmas.Bool.Decides.{nat_tests}
use Rattle.hpx_node.proofs.Common.{Act, AllByRecursion, Bool, Entry, Go, HasRightCredit, Id, IfSome, IsKept, IsParcel, IsTidy, List, None, Option, Outcome, Parcel, Shipped, Some, Standing, Stands, State, Tables, Waits, acts_on, and_true, any_over, ap, arith, bare_act, cases_Bool, cond, eq-eqb, false, find, find_at, fired_acts, inl, inr, is_busy, is_some, is_standing, list_any, min, move_to, nat_le, nat_lt, not, refl, remove, rest_stands, slice_get, slice_get_less, some_same, subst, sym, target_of, true, waits_here, ℕ, ◌&&◌, ◌==◌, ◌||◌, ◌∙◌, ◌≡◌, ◌≤◌, ◌<◌}
use Rattle.std.specs.Prelude.{◌≢◌}
use Rattle.hpx_steps.proofs.Onward.{moves_somewhere}
use Rattle.hpx_steps.proofs.Puts.{move_to-bare, target_big}
use Rattle.hpx_steps.proofs.Tools.{among_at}
use Rattle.hpx_steps.specs.Items.{Leaving, StandsHere}
use Rattle.hpx_steps.specs.Rest.{rules_of}
use Rattle.hpx_tables.proofs.FreeLemmas.{busy_fired}
use Rattle.hpx_node.proofs.Paused.{freed_whole}
use Rattle.hpx_steps.specs.Mail.{with_mail}
use Rattle.hpx_tables.specs.declared.kept.Arrival.{Arrival}
use Rattle.hpx_node.specs.Behind.{is_done_with, may_leave, Departs}

-- a move that was granted, on whose object nothing is done: where it goes, and what goes with it
pub record MayGo (t : Tables) (act : Act) (x : Standing) : Type 0 where
  pub to : ℕ
  pub moves : move_to act ≡ Some to
  pub away : to ≢ t.here
  pub idle : is_busy (target_of act) (fired_acts t) ≡ false
  pub none : list_any (acts_on (target_of act)) t.accepted ≡ false
  pub fit : IsParcel (Shipped act x.state)

not_true : (b : Bool) → not b ≡ true → b ≡ false
not_true true h = cc
not_true false h = refl

or_right : (b c : Bool) → (b || c) ≡ false → c ≡ false
or_right true c h = cc
or_right false c h = h

unwaited : (k : ℕ) (b c : Bool) → 16 ≤ k → cond (k == 7) false (b || c) ≡ false → c ≡ false
unwaited k b c big h = elim (cases_Bool (k == 7)) [
  | inl t ↦ absurd (let e : k ≡ 7 = search (arith, nat_tests, t) in omega arith)
  | inr f ↦ or_right b c (rw f at h)
]

pub may_go : (act_of : ℕ → ℕ → ℕ → State → Act → Outcome) (t : Tables) (entries : List Entry) → Stands act_of t entries → (i : ℕ) (act : Act) → slice_get t.leaving i ≡ Some (Go act)
    → is_done_with t (target_of act) ≡ true → (j : ℕ) (x : Standing) → slice_get t.objects j ≡ Some x → find (is_standing (target_of act)) t.objects ≡ Some x → MayGo t act x
may_go act_of t entries h i act there done j x stands found =
    let its = h.tidy (Leaving (Go act)) (among_at t.leaving i (Go act) there) in
    let parts = and_true (not (is_busy (target_of act) (fired_acts t))) (not (list_any (acts_on (target_of act)) t.accepted)) done in
    let idle = not_true (is_busy (target_of act) (fired_acts t)) parts.0 in
    let to = moves_somewhere act its.0 in
    let waits : waits_here t (target_of act) ≡ false =
    unwaited (target_of act).kind (list_any (acts_on (target_of act)) t.running) (waits_here t (target_of act)) (target_big act its.0).0
    (sym (busy_fired (target_of act) t.running t.pending) ∙ idle) in
    let kept : IsKept x = (h.tidy (StandsHere x) (among_at t.objects j x stands)).0 in record {
      to = to.0;
      moves = to.1;
      away = subst (λ m. IfSome m (λ k. k ≢ t.here)) (move_to-bare act ∙ to.1) its.1.0;
      idle = idle;
      none = not_true (list_any (acts_on (target_of act)) t.accepted) parts.1;
      fit = (its.0, record { shape = kept.state; credit = freed_whole t (target_of act) x j stands found waits (rest_stands t (rules_of act_of t.localities t.profile) entries h).stands.tidy });
    }

-- ---- told of the message that is found

pub done_none : (a b : Bool) → b ≡ true → false ≡ (not a && not b)
done_none true b h = refl
done_none false b h = rw h refl

pub done_if : (a b : Bool) → b ≡ false → not a ≡ (not a && not b)
done_if true b h = refl
done_if false b h = rw h refl

goes_is : (t : Tables) (p : Parcel) → may_leave t p ≡ true → (act : Act) × (p ≡ Go act)
goes_is t (Go act) h = (act, refl)
goes_is t _ h = absurd (cc)

module _ (act_of : ℕ → ℕ → ℕ → State → Act → Outcome) (t : Tables) (entries : List Entry) (h : Stands act_of t entries) (i : ℕ)
    (may : (p : Parcel) × (slice_get t.leaving i ≡ Some p) × (may_leave t p ≡ true)) (q : Parcel) (got : slice_get t.leaving i ≡ Some q) where
  same : may.0 ≡ q
  same = some_same may.0 q (sym may.1 ∙ got)

  pub is_go : (act : Act) × (q ≡ Go act)
  is_go = goes_is t q (subst (λ p. may_leave t p ≡ true) same may.2)

  module _ (act : Act) (go : q ≡ Go act) where
    pub granted : slice_get t.leaving i ≡ Some (Go act)
    granted = got ∙ ap (λ p. Some p) go

    pub done : is_done_with t (target_of act) ≡ true
    done = subst (λ p. may_leave t p ≡ true) (same ∙ go) may.2

    pub standing : is_some (find (is_standing (target_of act)) t.objects) ≡ true
    standing = (h.tidy (Leaving (Go act)) (among_at t.leaving i (Go act) granted)).1.1

    pub goes_with : (j : ℕ) (x : Standing) → slice_get t.objects j ≡ Some x → find (is_standing (target_of act)) t.objects ≡ Some x → MayGo t act x
    goes_with j x stands found = may_go act_of t entries h i act granted done j x stands found

both_in : (n a b : ℕ) → n ≤ min a b → (n ≤ a) × (n ≤ b)
both_in n a b h = (omega (arith, h), omega (arith, h))

in_both : (n a b : ℕ) → n ≤ a → n ≤ b → n ≤ min a b
in_both n a b p q = omega (arith, p, q)

-- what makes room leaves no less memory
pub spare_kept : (n a b c d e o r m o' r' m' : ℕ) → n ≤ min (min a b) (min c (min d (min e (min o (min r m))))) → o ≤ o' → r ≤ r' → m ≤ m'
    → n ≤ min (min a b) (min c (min d (min e (min o' (min r' m')))))
spare_kept n a b c d e o r m o' r' m' h po pr pm =
    let h1 = both_in n (min a b) (min c (min d (min e (min o (min r m))))) h in
    let h2 = both_in n c (min d (min e (min o (min r m)))) h1.1 in
    let h3 = both_in n d (min e (min o (min r m))) h2.1 in
    let h4 = both_in n e (min o (min r m)) h3.1 in
    let h5 = both_in n o (min r m) h4.1 in
    let h6 = both_in n r m h5.1 in
    let more : (n ≤ o') × (n ≤ r') × (n ≤ m') = (omega (arith, h5.0, po), omega (arith, h6.0, pr), omega (arith, h6.1, pm)) in
    in_both n (min a b) (min c (min d (min e (min o' (min r' m'))))) h1.0
    (in_both n c (min d (min e (min o' (min r' m')))) h2.0
    (in_both n d (min e (min o' (min r' m'))) h3.0
    (in_both n e (min o' (min r' m')) h4.0
    (in_both n o' (min r' m') more.0
    (in_both n r' m' more.1 more.2)))))

pub not_found : (x : Option Standing) → is_some x ≡ true → x ≡ None → ⊥
not_found None h e = cc
not_found (Some x) h e = cc

-- what the calls did, in one equation
pub now_left : (act_of : ℕ → ℕ → ℕ → State → Act → Outcome) (t t' : Tables) (entries : List Entry) → Stands act_of t entries → (to : ℕ) (act : Act) (state : State) (p : Parcel) (leaving stray : List Parcel) (came : List Arrival) (objects : List Standing) (i : ℕ)
    → t' ≡ with_mail to p (record t { leaving = leaving; stray = stray; came = came; objects = objects })
    → p ≡ Shipped act state → leaving ≡ remove t.leaving i → stray ≡ t.stray → came ≡ t.came
    → t' ≡ record (with_mail to (Shipped act state) t) { leaving = remove t.leaving i; objects = t'.objects }
now_left act_of t t' entries h to act state p leaving stray came objects i e pe le se ce =
    let e1 = e ∙ ap (λ q. with_mail to q (record t { leaving = leaving; stray = stray; came = came; objects = objects })) pe in
    let e2 = e1 ∙ ap (λ l. with_mail to (Shipped act state) (record t { leaving = l; stray = stray; came = came; objects = objects })) le in
    let e3 = e2 ∙ ap (λ l. with_mail to (Shipped act state) (record t { leaving = remove t.leaving i; stray = l; came = came; objects = objects })) se in
    let e4 = e3 ∙ ap (λ l. with_mail to (Shipped act state) (record t { leaving = remove t.leaving i; stray = t.stray; came = l; objects = objects })) ce in
    e4 ∙ ap (λ o. record (with_mail to (Shipped act state) t) { leaving = remove t.leaving i; objects = o }) (sym (ap (λ (v : Tables). v.objects) e4))

pub departs_from : (t m t' : Tables) (b n later : List Entry) → m ≡ t → n ≡ b → Departs m t' n later → Departs t t' b later
departs_from t m t' b n later same entries h = subst (λ u. Departs u t' b later) same (subst (λ e. Departs m t' e later) entries h)
