-- Rows of entries where what they look for is found.
use Rattle.std.proofs.Common.{Bool, true, false, List, [], ◌∷◌, ◌≡◌, ◌↔◌, ◌≤◌, ◌<◌, ◌+◌, ◌^◌, ℕ, Option, length, drop, get_or, arith, Some, None, IsTrue, IfSome, IfOk, Result, Ok, Err, subst, sym, ap, ◌∙◌, refl}
use Rattle.std.specs.List.{find, list_any, count_by, slice_get}
use Rattle.std.proofs.Math.Pow.{pow_mono}
use Rattle.hpx_value.specs.Values.{bare_act, bare_state}
use Rattle.hpx_value.specs.Laws.{birth_state}
use Rattle.hpx_journal.specs.Data.{Act, State, Message, Outcome, Make, Due, MessageDue, PrintDue, Id, Parcel, Shipped}
use Rattle.hpx_journal.specs.Entries.{Rules, target_of, move_to}
use Rattle.hpx_journal.specs.declared.entry.Name.{Name}
use Rattle.hpx_journal.specs.declared.entry.Event.{Event}
use Rattle.hpx_journal.specs.declared.entry.Standing.{Standing}
use Rattle.hpx_journal.specs.declared.entry.Travel.{Travel}
use Rattle.hpx_journal.specs.Local.{is_act, is_standing, is_travel, is_busy, is_given_none, next_name, outcome}
use Rattle.hpx_journal.specs.declared.local.Local.{Local}
use Rattle.hpx_journal.specs.Frames.{travel_of, travels_in}
use Rattle.hpx_journal.specs.Rows.{Row, Runs, AreMade, MayGo, is_refused}
use Rattle.hpx_replay.specs.Spaces.{IsLeaving, outcome_at, outcome_by}
use Rattle.hpx_journal.proofs.Seek.{drop_next}

-- what stands first
pub head_of : {X : Type 0} (xs : List X) (x : X) → slice_get xs 0 ≡ Some x → (rest : List X) × (xs ≡ x ∷ rest)
head_of [] x h = cc
head_of (y ∷ ys) x h = (ys, cc)

pub fire_found : (s : Local) (a : Name) (act : Act) (o : Id) (x : Standing) (b : Bool) → Some act ≡ find (is_act a) s.waiting
    → o ≡ target_of act → Some x ≡ find (is_standing o) s.objects → is_busy o s.fired ≡ false
    → IsTrue b ↔ IfSome (move_to act) (λ t. t ≡ s.here)
    → IsTrue b ↔ ((act : Act) × (x : Standing) × (find (is_act a) s.waiting ≡ Some act)
    × (find (is_standing (target_of act)) s.objects ≡ Some x)
    × (is_busy (target_of act) s.fired ≡ false) × IfSome (move_to act) (λ t. t ≡ s.here))
fire_found s a act o x b f i g idle h = (
  λ t. (act, x, sym f, rw (← i) (sym g), rw (← i) idle, h.0 t),
  λ (w : (act : Act) × (x : Standing) × (find (is_act a) s.waiting ≡ Some act)
      × (find (is_standing (target_of act)) s.objects ≡ Some x)
      × (is_busy (target_of act) s.fired ≡ false) × IfSome (move_to act) (λ t. t ≡ s.here)).
      let e : w.0 ≡ act = let k : Some w.0 ≡ Some act = sym w.2 ∙ sym f in cc in
      let P : Act → Type 0 = λ y. IfSome (move_to y) (λ t. t ≡ s.here) in
      h.1 (subst P e w.5),
)

pub sent_found : (s : Local) (a : Name) (first : Due) (m : Message) (b : Bool) → Some first ≡ slice_get s.due 0 → first ≡ MessageDue m
    → IsTrue b ↔ (a ≡ next_name s)
    → IsTrue b ↔ ((m : Message) × (rest : List Due) × (s.due ≡ MessageDue m ∷ rest) × (a ≡ next_name s))
sent_found s a first m b f i h =
    let k = head_of s.due (MessageDue m) (sym f ∙ ap (λ x. Some x) i) in
    (λ t. (m, k.0, k.1, h.0 t), λ w. h.1 w.3)

pub print_found : (due : List Due) (first : Due) (text bytes : List ℕ) (b : Bool) → Some first ≡ slice_get due 0 → first ≡ PrintDue text
    → IsTrue b ↔ (text ≡ bytes)
    → IsTrue b ↔ ((rest : List Due) × (due ≡ PrintDue bytes ∷ rest))
print_found due first text bytes b f i h =
    let k = head_of due (PrintDue text) (sym f ∙ ap (λ x. Some x) i) in (
      λ t. (k.0, let e : text ≡ bytes = h.0 t in let l : due ≡ PrintDue text ∷ k.0 = k.1 in cc),
      λ (w : (rest : List Due) × (due ≡ PrintDue bytes ∷ rest)).
          let l : due ≡ PrintDue text ∷ k.0 = k.1 in let r : due ≡ PrintDue bytes ∷ w.0 = w.1 in h.1 (let e : text ≡ bytes = cc in e),
    )

pub great_power : (log : ℕ) → 128 ≤ log → 2 ^ 128 ≤ 2 ^ log
great_power log h = pow_mono h

-- ---- a Done that failed

pub failed_found : (s : Local) (a : Name) (act : Act) (o : Id) (x : Standing) (b : Bool) → Some act ≡ find (is_act a) s.fired
    → o ≡ target_of act → Some x ≡ find (is_standing o) s.objects → s.fresh ≡ [] → s.failures + 1 ≤ count_by is_given_none s.given
    → b ≡ list_any (is_refused act x.state) s.refusals
    → IsTrue b ↔ ((x : Runs s a) × (s.fresh ≡ []) × (list_any (is_refused x.act x.target.state) s.refusals ≡ true)
    × (s.failures + 1 ≤ count_by is_given_none s.given))
failed_found s a act o x b f i g none few e = (
  λ t. (record { act = act; target = x; fired = sym f; stands = rw (← i) (sym g) }, none, sym e ∙ t, few),
  λ (w : (x : Runs s a) × (s.fresh ≡ []) × (list_any (is_refused x.act x.target.state) s.refusals ≡ true)
      × (s.failures + 1 ≤ count_by is_given_none s.given)).
      let p : w.0.act ≡ act = let k : Some w.0.act ≡ Some act = sym w.0.fired ∙ sym f in cc in
      let P : Act → Type 0 = λ y. find (is_standing (target_of y)) s.objects ≡ Some w.0.target in
      let stands : find (is_standing (target_of act)) s.objects ≡ Some w.0.target = subst P p w.0.stands in
      let q : w.0.target ≡ x = let k : Some w.0.target ≡ Some x = sym stands ∙ sym (rw i at g) in cc in
      let Q : Act → Type 0 = λ y. list_any (is_refused y w.0.target.state) s.refusals ≡ true in
      let R : Standing → Type 0 = λ y. list_any (is_refused act y.state) s.refusals ≡ true in
      e ∙ subst R q (subst Q p w.2),
)

-- ---- what is made

done_stands : (r : Rules) (s : Local) (act : Act) (out : Outcome) (m : Option Standing) → find (is_standing (target_of act)) s.objects ≡ m
    → outcome_at r s act m ≡ Some out
    → (x : Standing) × (find (is_standing (target_of act)) s.objects ≡ Some x) × (outcome r s act x ≡ out)
done_stands r s act out None e h = cc
done_stands r s act out (Some x) e h = (x, e, let k : Some (outcome r s act x) ≡ Some out = h in cc)

done_runs : (r : Rules) (s : Local) (a : Name) (out : Outcome) (m : Option Act) → find (is_act a) s.fired ≡ m
    → outcome_by r s m ≡ Some out → (x : Runs s a) × (outcome r s x.act x.target ≡ out)
done_runs r s a out None e h = cc
done_runs r s a out (Some act) e h =
    let k = done_stands r s act out (find (is_standing (target_of act)) s.objects) refl h in
    (record { act = act; target = k.0; fired = e; stands = k.1 }, k.2)

runs_does : (r : Rules) (s : Local) (a : Name) (x : Runs s a)
    → outcome_by r s (find (is_act a) s.fired) ≡ Some (outcome r s x.act x.target)
runs_does r s a x =
    ap (outcome_by r s) x.fired ∙ ap (outcome_at r s x.act) x.stands

pub done_found : (r : Rules) (s : Local) (a : Name) (given : Option Outcome) (out : Outcome) (b : Bool)
    → given ≡ outcome_by r s (find (is_act a) s.fired) → given ≡ Some out → IsTrue b ↔ AreMade out.makes s.fresh s.objects
    → IsTrue b ↔ ((x : Runs s a) × AreMade (outcome r s x.act x.target).makes s.fresh s.objects)
done_found r s a given out b e i h =
    let k = done_runs r s a out (find (is_act a) s.fired) refl (sym e ∙ i) in
    let P : Outcome → Type 0 = λ o. AreMade o.makes s.fresh s.objects in (
      λ t. (k.0, subst P (sym k.1) (h.0 t)),
      λ (w : (x : Runs s a) × AreMade (outcome r s x.act x.target).makes s.fresh s.objects).
          let l : outcome r s w.0.act w.0.target ≡ out =
          let m : Some (outcome r s w.0.act w.0.target) ≡ Some out = sym (runs_does r s a w.0) ∙ (sym e ∙ i) in cc in
          h.1 (subst P l w.1),
    )

pub made_more : (makes : List Make) (fresh : List Id) (objects : List Standing) (i : ℕ) (m : Make) (o : Id)
    → i < length makes → i < length fresh → m ≡ get_or makes i m → o ≡ get_or fresh i o
    → AreMade makes fresh objects ↔ AreMade (drop i makes) (drop i fresh) objects
    → AreMade makes fresh objects ↔ ((o.kind ≡ m.kind)
    × (find (is_standing o) objects ≡ Some (record { object = o; state = birth_state m }))
    × AreMade (drop (i + 1) makes) (drop (i + 1) fresh) objects)
made_more makes fresh objects i m o a b x y h = rw (drop_next makes i m a x, drop_next fresh i o b y) at h

pub made_same : (makes : List Make) (fresh : List Id) (objects : List Standing) → AreMade makes fresh objects → length makes ≡ length fresh
made_same [] [] objects h = refl
made_same [] (o ∷ fresh) objects h = absurd h
made_same (m ∷ makes) [] objects h = absurd h
made_same (m ∷ makes) (o ∷ fresh) objects h = let e : length makes ≡ length fresh = made_same makes fresh objects h.2 in omega arith

-- ---- an object that is shipped

leaving_at : (s : Local) (to : ℕ) (act : Act) (state : State) (m : Option ℕ)
    → IsLeaving s to (travel_of (bare_act act) (bare_state state) m)
    ↔ ((m ≡ Some to) × (find (is_travel (target_of (bare_act act))) s.travels
    ≡ Some (record { object = target_of (bare_act act); state = bare_state state; to = to })))
leaving_at s to act state None = (λ h. absurd h, λ h. cc)
leaving_at s to act state (Some v) =
    let at : ℕ → Option Travel = λ t. Some (record { object = target_of (bare_act act); state = bare_state state; to = t }) in (
      λ h. (ap (λ t. Some t) h.0, h.1 ∙ ap at h.0),
      λ h. let e : v ≡ to = let k : Some v ≡ Some to = h.0 in cc in (e, h.1 ∙ ap at (sym e)),
    )

pub leaving_object : (s : Local) (to : ℕ) (p : Parcel) (act : Act) (state : State) (travels : List Travel) (b : Bool)
    → p ≡ Shipped act state → travels ≡ travels_in (Some p) → IsTrue b ↔ IsLeaving s to travels → IsTrue b ↔ MayGo s to p
leaving_object s to p act state travels b i e h =
    let P : Parcel → Type 0 = λ q. IsTrue b ↔ MayGo s to q in
    let Q : List Travel → Type 0 = λ xs. IsTrue b ↔ IsLeaving s to xs in
    let k : IsTrue b ↔ IsLeaving s to (travel_of (bare_act act) (bare_state state) (move_to (bare_act act))) =
    subst Q (e ∙ ap (λ q. travels_in (Some q)) i) h in
    let j = leaving_at s to act state (move_to (bare_act act)) in
    subst P (sym i) (λ t. j.0 (k.0 t), λ w. k.1 (j.1 w))

-- ---- the row of an entry

pub row_is : (r : Rules) (s : Local) (e k : Event) (b : Bool) → e ≡ k → IsTrue b ↔ Row r s k → IsTrue b ↔ Row r s e
row_is r s e k b i h = let P : Event → Type 0 = λ x. IsTrue b ↔ Row r s x in subst P (sym i) h

pub ok_then : {X E : Type 0} (x : Result X E) (P Q : X → Type 0) → ((y : X) → P y → Q y) → IfOk x P → IfOk x Q
ok_then (Ok y) P Q h p = h y p
ok_then (Err e) P Q h p = tt
