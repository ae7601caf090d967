-- The first message on the desk is taken up.
use Rattle.hpx_steps.proofs.Common.{Act, Apply, Arrived, Ask, Cached, Free, Give, Go, Id, IsForHere, IsRowAt, Move, None, Option, Return, Shipped, causes, eqb-true, go_to, goes, is_to, move_to, moves_to, same_object, same_object-true, ship_to, some_same, target_of, tell_of, true, unpaid, ℕ, ◌+◌, ◌<◌, ◌∙◌, ◌≢◌, Entry, IsSound, IsTidy, List, Mail, Mailed, OnDesk, Parcel, Rules, Some, TakesUp, TidyAt, Turn, [], ap, arith, bare_due, follows_mail, inl, kind_of, map, refl, subst, sym, view, wrote, ◌∷◌, ◌≡◌, ◌≤◌, brought, moved_by}
use Rattle.hpx_steps.proofs.Tools.{if_so, move_to-bare, total, Changes, Keeps, by_rows, counts_near, desk_change, first_goes, holding, mailed_change, numbered_so, one_comes, orders_so, own_asks, pays_so, sees_leads, then, tracks_so, says_so, flows_so}

kind_low : (p : Parcel) → (1 ≤ kind_of p) × (kind_of p ≤ 10)
kind_low p = grind arith

module _ (r : Rules) (s : Turn) (entries : List Entry) (h : IsSound r s entries) (p : Parcel) (rest : List Parcel) (due : s.due ≡ []) (fresh : s.fresh ≡ [])
    (first : s.tables.desk ≡ p ∷ rest) (empty : s.mailed ≡ []) where
  abbrev now : Turn
  now = wrote (Mail (kind_of p)) (record s { mailed = p ∷ []; tables = record s.tables { desk = rest } })

  pub change : Changes (OnDesk p ∷ []) (Mailed p ∷ []) s now
  change = then (OnDesk p ∷ []) [] [] (Mailed p ∷ []) s (record s { tables = record s.tables { desk = rest } }) now
      (desk_change (OnDesk p ∷ []) [] s rest (first_goes (λ x. OnDesk x) s.tables.desk p rest first))
      (mailed_change [] (Mailed p ∷ []) (record s { tables = record s.tables { desk = rest } }) (p ∷ []) (one_comes (λ x. Mailed x) s.mailed p empty))

  its : TidyAt s (OnDesk p)
  its = h.tidy (OnDesk p) (rw first (inl refl))

  tidy : IsTidy now
  tidy = holding (TidyAt s) (Mailed p ∷ []) s now change.1 h.tidy (its, tt)

  -- on the desk there is no grant for an object of elsewhere, no object, and nothing that tells another home
  no_move : (o : Id) (to : ℕ) (act : Act) → (same_object o (target_of act) ≡ true → is_to to (move_to act) ≡ true → ⊥) → moves_to o to act ≡ 0
  no_move o to act k = if_so (same_object o (target_of act)) (λ a. if_so (is_to to (move_to act)) (λ b. absurd (k a b)) (λ b. rw (a, b) refl)) (λ a. rw a refl)

  is_at : (to : ℕ) (m : Option ℕ) → is_to to m ≡ true → m ≡ Some to
  is_at to None e = absurd (cc)
  is_at to (Some k) e = ap (λ n. Some n) (eqb-true k to e)

  desk_goes : (q : Parcel) → IsForHere s.tables.localities s.tables.here q → (o : Id) (to : ℕ) → o.home ≢ s.tables.here → go_to o to q ≡ 0
  desk_goes (Go act) k o to off = no_move o to act (λ t u. off (ap (λ (x : Id). x.home) (same_object-true o (target_of act) t) ∙ sym k.may.0))
  desk_goes (Apply act) k o to off = refl
  desk_goes (Move act) k o to off = refl
  desk_goes (Shipped act state) k o to off = refl
  desk_goes (Return id) k o to off = refl
  desk_goes (Ask id asker entry) k o to off = refl
  desk_goes (Give id entry) k o to off = refl
  desk_goes (Cached id place) k o to off = refl
  desk_goes (Arrived id place) k o to off = refl
  desk_goes (Free id) k o to off = refl

  desk_ships : (q : Parcel) → IsForHere s.tables.localities s.tables.here q → (o : Id) (to : ℕ) → to < s.tables.localities → ship_to o to q ≡ 0
  desk_ships (Shipped act state) k o to low = no_move o to act (λ t u.
      let e : to ≡ k.to = some_same to k.to (sym (is_at to (move_to act) u) ∙ (sym (move_to-bare act) ∙ k.may.0)) in k.may.1 (k.here (omega (arith, e, low))))
  desk_ships (Go act) k o to low = refl
  desk_ships (Apply act) k o to low = refl
  desk_ships (Move act) k o to low = refl
  desk_ships (Return id) k o to low = refl
  desk_ships (Ask id asker entry) k o to low = refl
  desk_ships (Give id entry) k o to low = refl
  desk_ships (Cached id place) k o to low = refl
  desk_ships (Arrived id place) k o to low = refl
  desk_ships (Free id) k o to low = refl

  desk_tells : (q : Parcel) → IsForHere s.tables.localities s.tables.here q → (o : Id) → o.home < s.tables.localities → o.home ≢ s.tables.here → tell_of o q ≡ 0
  desk_tells (Arrived id place) k o low off = if_so (same_object o id)
      (λ t. let e : o.home ≡ id.home = ap (λ (x : Id). x.home) (same_object-true o id t) in absurd (off (e ∙ (sym k.may.0 ∙ k.here (omega (arith, k.may.0, e, low)))))) (λ t. rw t refl)
  desk_tells (Go act) k o low off = refl
  desk_tells (Shipped act state) k o low off = refl
  desk_tells (Apply act) k o low off = refl
  desk_tells (Move act) k o low off = refl
  desk_tells (Return id) k o low off = refl
  desk_tells (Ask id asker entry) k o low off = refl
  desk_tells (Give id entry) k o low off = refl
  desk_tells (Cached id place) k o low off = refl
  desk_tells (Free id) k o low off = refl

  pub mail_keeps : Keeps r s now (Mail (kind_of p))
  mail_keeps = record {
    leads = (
      (record (view s) { last = Some (Mail (kind_of p)) }),
      follows_mail r (view s) (kind_of p) (ap (map bare_due) due) fresh (kind_low p).0 (kind_low p).1,
      sees_leads r (record (view s) { last = Some (Mail (kind_of p)) }) now (grind arith),
    );
    tidy = tidy;
    places = h.places;
    commits = h.commits;
    numbered = numbered_so r s now (Mail (kind_of p)) (OnDesk p ∷ []) (Mailed p ∷ []) change.0 (omega arith) (λ n. omega arith);
    pays = pays_so r s now (Mail (kind_of p)) (OnDesk p ∷ []) (Mailed p ∷ []) change.0 (λ row own. by_rows (λ q. IsRowAt s.tables.localities s.tables.here q → goes r q (Mail (kind_of p)) + total (unpaid q) (Mailed p ∷ []) ≡ total (unpaid q) (OnDesk p ∷ []) + causes r q (Mail (kind_of p)))
        (λ at. omega arith) (λ at. omega arith) (λ at. omega arith) (λ at. omega arith) (λ at. omega arith) (λ at. omega arith) (λ at. omega arith) (λ at. omega arith) (λ at. omega arith) (λ at. omega arith) (λ at. omega arith) (λ o at. omega arith)
        (λ o to at. omega (arith, desk_goes p its.1 o to at)) (λ o to at. omega (arith, desk_ships p its.1 o to at.0)) (λ o to at. omega (arith, desk_ships p its.1 o to at.0))
        (λ o at. omega (arith, desk_tells p its.1 o at.0 at.1)) row own) (omega arith) (omega arith) (λ o. omega arith);
    orders = orders_so r s now (Mail (kind_of p)) (OnDesk p ∷ []) (Mailed p ∷ []) change.0 tt (λ o n. omega arith) (λ j d o n. omega (arith, own_asks s.tables.here s.tables.profile.credit_log j d o n p its.2));
    says = says_so r s now (Mail (kind_of p)) (OnDesk p ∷ []) (Mailed p ∷ []) change.0 refl (λ o j. omega arith) (λ o. omega arith);
    arrived = λ a. omega (arith, h.arrived a, change.0 (brought a), change.0 (moved_by a));
    flows = flows_so r s now (Mail (kind_of p)) (OnDesk p ∷ []) (Mailed p ∷ []) change.0 refl (λ o. refl) (λ f. omega arith);
    tracks = tracks_so r s now (Mail (kind_of p)) (OnDesk p ∷ []) (Mailed p ∷ []) change.0 (λ o. refl) refl refl (λ o. omega arith) (λ o. omega arith);
    counts = counts_near s now (Mail (kind_of p)) refl (omega arith) (omega arith) (omega arith) (omega arith) (omega arith) (λ l. refl) (omega arith);
  }

pub mail_step : (r : Rules) (s s' : Turn) (entries : List Entry) (kind : ℕ) → IsSound r s entries → TakesUp s kind s' → Keeps r s s' (Mail kind)
mail_step r s s' entries kind h g = subst (λ n. Keeps r s s' (Mail n)) (sym g.sort)
    (subst (λ x. Keeps r s x (Mail (kind_of g.parcel))) (sym g.now) (mail_keeps r s entries h g.parcel g.rest g.calm.due g.calm.fresh g.first g.free.mailed))
