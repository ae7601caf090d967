-- An object comes with its MOVE, and an action of the own desk is accepted: or they stay for good.
use Rattle.hpx_node.proofs.Common.{Accept, Accepts, Act, Apply, Begin, DealsWith, Entry, Id, IsKept, IsParcel, Landed, List, Move, None, Option, Parcel, Queue, Shipped, Some, Standing, State, Tables, To, [], ap, append-nil, arith, at_all, bare, cond, effects, false, is_some, may_land, name_of, parcel_for, refl, sym, target_of, true, way, ℕ, ◌++◌, ◌∙◌, ◌∷◌, ◌≡◌, ◌≤◌}
use Rattle.hpx_tables.specs.declared.kept.Arrival.{Arrival}
use Rattle.hpx_steps.proofs.Puts.{target_big}
use Rattle.hpx_steps.specs.Calls.{parked, with_object, with_own}
use Rattle.hpx_steps.specs.Ways.{Way, accepts}
use Rattle.hpx_node.specs.Routes.{as_way}
use Rattle.hpx_node.specs.declared.node.ways.Way.{Way as Told}
use Rattle.hpx_node.specs.declared.node.ways.Way.TheVariants as told

-- ---- an object that comes

-- it is well formed
pub object_kept : (act : Act) (state : State) (o : Id) → IsParcel (Shipped act state) → o ≡ bare (target_of act) → IsKept (record { object = o; state = state })
object_kept act state o fit is =
    let big = target_big act fit.0 in
    let kind : o.kind ≡ (target_of act).kind = ap (λ (x : Id). x.kind) is in record {
      kind = omega (arith, kind, big.1);
      state = fit.1.shape;
      plain = λ e. absurd (omega (arith, kind, big.0, e));
    }

module _ (t : Tables) (act : Act) (state : State) where
  -- it stands here
  pub lands_deals : (accepted : List Act) (objects : List Standing) (leaving stray : List Parcel) (came : List Arrival) → may_land t act ≡ true → accepted ≡ t.accepted ++ act ∷ []
      → objects ≡ t.objects ++ record { object = bare (target_of act); state = state } ∷ [] → leaving ≡ t.leaving → stray ≡ t.stray
      → came ≡ t.came ++ record { name = name_of act; object = bare (target_of act) } ∷ []
      → record t { accepted = accepted; objects = objects; leaving = leaving; stray = stray; came = came } ≡ with_object act state t
  lands_deals accepted objects leaving stray came may a o l s c = rw (a, o, l, s, c, may) (ap (λ xs. record t {
    accepted = t.accepted ++ act ∷ [];
    objects = t.objects ++ record { object = bare (target_of act); state = state } ∷ [];
    came = t.came ++ record { name = name_of act; object = bare (target_of act) } ∷ [];
    stray = xs;
  }) (sym (append-nil t.stray)))

  pub lands_grows : (e e' : List Entry) → may_land t act ≡ true → e' ≡ e ++ record { at = t.here; event = Landed (bare (target_of act)) } ∷ []
      → e' ≡ e ++ at_all t.here (effects t (Shipped act state))
  lands_grows e e' may grows = grows ∙ ap (λ b. e ++ at_all t.here (cond b (Landed (bare (target_of act)) ∷ []) [])) (sym may)

  -- or it may not, and stays for good
  pub parks_deals : (leaving stray : List Parcel) (came : List Arrival) → may_land t act ≡ false → leaving ≡ t.leaving → stray ≡ t.stray ++ Shipped act state ∷ [] → came ≡ t.came
      → record t { leaving = leaving; stray = stray; came = came } ≡ with_object act state t
  parks_deals leaving stray came may l s c = rw (l, s, c, may) (simp append-nil)

  pub parks_grows : (e : List Entry) → may_land t act ≡ false → e ≡ e ++ at_all t.here (effects t (Shipped act state))
  parks_grows e may = sym (ap (λ b. e ++ at_all t.here (cond b (Landed (bare (target_of act)) ∷ []) [])) may ∙ append-nil e)

-- ---- an action of the own desk

module _ (t : Tables) (act : Act) (p : Parcel) where
  pub own_accepts : (accepted : List Act) → Accept ≡ way t act → accepted ≡ t.accepted ++ act ∷ [] → record t { accepted = accepted } ≡ with_own p act t
  own_accepts accepted is a = a_then ∙ ap (λ (v : Way). record t { accepted = t.accepted ++ accepts v act; stray = t.stray ++ parked v p }) is
    where
      a_then : record t { accepted = accepted } ≡ record t { accepted = t.accepted ++ act ∷ []; stray = t.stray ++ [] }
      a_then = ap (λ xs. record t { accepted = xs }) a ∙ ap (λ xs. record t { accepted = t.accepted ++ act ∷ []; stray = xs }) (sym (append-nil t.stray))

  -- a way that does not accept leaves it for good
  parked_so : (w : Told) → (w ≡ told.Accept → ⊥) → (accepts (as_way w) act ≡ []) × (parked (as_way w) p ≡ p ∷ [])
  parked_so told.Accept none = absurd (none refl)
  parked_so told.Queue none = (refl, refl)
  parked_so (told.To to) none = (refl, refl)
  parked_so (told.Begin place) none = (refl, refl)

  pub own_parks : (w : Told) (leaving stray : List Parcel) (came : List Arrival) → as_way w ≡ way t act → (w ≡ told.Accept → ⊥) → leaving ≡ t.leaving → stray ≡ t.stray ++ p ∷ [] → came ≡ t.came
      → record t { leaving = leaving; stray = stray; came = came } ≡ with_own p act t
  own_parks w leaving stray came is none l s c =
      let k = parked_so w none in
      ap (λ xs. record t { leaving = xs; stray = stray; came = came }) l
      ∙ (ap (λ xs. record t { stray = xs; came = came }) s
      ∙ (ap (λ xs. record t { stray = t.stray ++ p ∷ []; came = xs }) c
      ∙ (ap (λ xs. record t { accepted = xs; stray = t.stray ++ p ∷ [] }) (sym (append-nil t.accepted))
      ∙ (ap (λ xs. record t { accepted = t.accepted ++ xs; stray = t.stray ++ p ∷ [] }) (sym k.0)
      ∙ (ap (λ xs. record t { accepted = t.accepted ++ accepts (as_way w) act; stray = t.stray ++ xs }) (sym k.1)
      ∙ ap (λ (v : Way). record t { accepted = t.accepted ++ accepts v act; stray = t.stray ++ parked v p }) is)))))

-- a message that brings no action is dealt with on the own desk as in a frame
pub others_accept : (p : Parcel) (t t' : Tables) → ((act : Act) → p ≡ Apply act → ⊥) → ((act : Act) → p ≡ Move act → ⊥) → DealsWith p t t' → Accepts p t t'
others_accept (Apply act) t t' a m h = absurd (a act refl)
others_accept (Move act) t t' a m h = absurd (m act refl)
others_accept _ t t' a m h = h

-- what does not stand here is not found
pub none_found : (x : Option Standing) → is_some x ≡ false → x ≡ None
none_found None e = refl
none_found (Some x) e = cc
