-- Once all has gone its way that waited for an object, what still waits for it waits while it moves.
use Rattle.std.proofs.Common.{ℕ, zero, suc, Bool, true, false, not, List, [], ◌∷◌, Option, Some, None, ◌≡◌, ◌∙◌, ◌+◌, ◌<◌, ◌≤◌, ap, refl, sym, subst, arith, inl, inr, is_some, length}
use Rattle.std.proofs.lemmas.Bool.{eq-eqb, eqb-true}
use Rattle.std.specs.List.{find}
use Rattle.std.specs.Prelude.{option_map}
use Rattle.std.specs.Option.{option_map_or}
use Rattle.hpx_value.specs.Ids.{bare, same_object}
use Rattle.hpx_agas.specs.Queues.{is_for, without_first}
use Rattle.hpx_agas.specs.Records.{Rises, find_record, remade}
use Rattle.hpx_agas.specs.declared.record.Record.{Record}
use Rattle.hpx_agas.specs.declared.record.Waiting.{Waiting}
use Rattle.hpx_journal.specs.Data.{Apply, Move, Go, Shipped, Return, Ask, Give, Cached, Free, Arrived}
use Rattle.hpx_journal.proofs.Same.{same_object-true}
use Rattle.hpx_tables.specs.Kept.{record_here}
use Rattle.hpx_steps.proofs.ByRows.{if_so}
use Rattle.hpx_steps.proofs.Changes.{found_among}
use Rattle.hpx_steps.proofs.Homes.{queues_way}
use Rattle.hpx_steps.proofs.TurnOf.{settled_stands}
use Rattle.hpx_steps.specs.Calls.{act_in, lands, released_by}
use Rattle.hpx_steps.specs.Items.{Among, Queued}
use Rattle.hpx_steps.specs.Rest.{StandsBut}
use Rattle.hpx_steps.specs.Sound.{IsWaitingFor}
use Rattle.hpx_steps.specs.Ways.{Accept, Begin, Queue, To, Way, begins, queues, way, with_act}
use Rattle.hpx_node.proofs.Common.{Act, Entry, Id, Outcome, Parcel, Stands, State, Tables, move_to, target_of}
use Rattle.hpx_node.proofs.Released.{one_goes, one_stands, releases_stands}
use Rattle.hpx_node.specs.Behind.{goes_on, is_still, landed_in, releases}

-- ---- records by rising number

number_is : (o : Id) (r : Record) → same_object o r.gid ≡ true → o.number ≡ r.gid.number
number_is o r u = ap (λ (y : Id). y.number) (same_object-true o r.gid u)

rises_above : (low : ℕ) (rs : List Record) → Rises low rs → (o : Id) (x : Record) → find_record o rs ≡ Some x → low < o.number
rises_above low [] h o x f = absurd (let e : ◌≡◌ {A = Option Record} None (Some x) = f in cc)
rises_above low (r ∷ rs) h o x f = if_so (same_object o r.gid) (λ u. omega (arith, h.0, number_is o r u))
    (λ u. omega (arith, h.0, rises_above r.gid.number rs h.1 o x (rw u at f)))

some_record : (x y : Record) → ◌≡◌ (Some x) (Some y) → x ≡ y
some_record x y e = cc

-- one number has one record
same_record : (low : ℕ) (rs : List Record) → Rises low rs → (a b : Id) (x y : Record) → find_record a rs ≡ Some x → find_record b rs ≡ Some y → a.number ≡ b.number → x ≡ y
same_record low [] h a b x y f g n = absurd (let e : ◌≡◌ {A = Option Record} None (Some x) = f in cc)
same_record low (r ∷ rs) h a b x y f g n = if_so (same_object a r.gid)
    (λ u. if_so (same_object b r.gid) (λ v. sym (some_record r x (rw u at f)) ∙ some_record r y (rw v at g))
    (λ v. absurd (omega (arith, n, number_is a r u, rises_above r.gid.number rs h.1 b y (rw v at g)))))
    (λ u. if_so (same_object b r.gid) (λ v. absurd (omega (arith, n, number_is b r v, rises_above r.gid.number rs h.1 a x (rw u at f))))
    (λ v. same_record r.gid.number rs h.1 a b x y (rw u at f) (rw v at g) n))

rises_remade : (id : Id) (m : Option ℕ) (low : ℕ) (rs : List Record) → Rises low rs → Rises low (remade id (λ r. record r { moving = m }) rs)
rises_remade id m low [] h = h
rises_remade id m low (r ∷ rs) h = if_so (same_object id r.gid) (λ u. rw u h) (λ u. rw u (h.0, rises_remade id m r.gid.number rs h.1))

rises_begins : (v : Way) (act : Act) (rs : List Record) → Rises 0 rs → Rises 0 (begins v act rs)
rises_begins Accept act rs h = h
rises_begins Queue act rs h = h
rises_begins (To to) act rs h = h
rises_begins (Begin place) act rs h = rises_remade (target_of act) (move_to act) 0 rs h

-- ---- what waits

-- what waits still for an object waits while it moves
abbrev WaitsStill : Id → Tables → Type 0
WaitsStill o t = (w : Waiting Parcel) → Among w t.queued → bare (target_of (act_in w.item)) ≡ bare o → (x : Record) → record_here t (target_of (act_in w.item)) ≡ Some x → is_some x.moving ≡ true

none_for : (n : ℕ) (ws : List (Waiting Parcel)) → find (is_for n) ws ≡ None → (w : Waiting Parcel) → Among w ws → is_for n w ≡ false
none_for n [] h w m = absurd m
none_for n (y ∷ ys) h w (inl e) = if_so (is_for n y) (λ u. absurd (let k : Some y ≡ None = rw u at h in cc)) (λ u. subst (λ z. is_for n z ≡ false) e u)
none_for n (y ∷ ys) h w (inr m) = if_so (is_for n y) (λ u. absurd (let k : Some y ≡ None = rw u at h in cc)) (λ u. none_for n ys (rw u at h) w m)

one_fewer : (n : ℕ) (ws : List (Waiting Parcel)) (w : Waiting Parcel) → find (is_for n) ws ≡ Some w → length (without_first n ws) + 1 ≡ length ws
one_fewer n [] w h = absurd (let e : ◌≡◌ {A = Option (Waiting Parcel)} None (Some w) = h in cc)
one_fewer n (y ∷ ys) w h = if_so (is_for n y) (λ u. rw u (omega arith)) (λ u. let k = one_fewer n ys w (rw u at h) in rw u (omega (arith, k)))

no_queue : (v : Way) (act : Act) (ws : List (Waiting Parcel)) → (v ≡ Queue → ⊥) → queues v act ws ≡ ws
no_queue Accept act ws h = refl
no_queue Queue act ws h = absurd (h refl)
no_queue (To to) act ws h = refl
no_queue (Begin place) act ws h = refl

-- a record that does not move
still_record : (x : Option Record) → option_map_or (λ (r : Record). not (is_some r.moving)) x false ≡ true → (y : Record) × (x ≡ Some y) × (is_some y.moving ≡ false)
still_record None h = cc
still_record (Some y) h = if_so (is_some y.moving) (λ u. absurd (let k : false ≡ true = rw u at h in cc)) (λ u. (y, refl, u))

module _ (act_of : ℕ → ℕ → ℕ → State → Act → Outcome) (landed : Option Id) (o : Id) where
  -- what waits for an object of a number waits for its target
  its_number : (t : Tables) (entries : List Entry) → StandsBut landed act_of t entries → (w : Waiting Parcel) → Among w t.queued → (target_of (act_in w.item)).number ≡ w.number
  its_number t entries h w m = each w.item (h.tidy (Queued w) m).1
    where
      each : (p : Parcel) → IsWaitingFor t.here w.number p → (target_of (act_in p)).number ≡ w.number
      each (Apply act) k = k.1
      each (Move act) k = k.1
      each _ k = absurd k

  -- where it moves, or has no record
  not_still : (t : Tables) → is_still t o ≡ false → WaitsStill o t
  not_still t gone w m same x is =
      let at : record_here t o ≡ Some x = ap (λ (y : Id). find_record y t.records) (sym same) ∙ is in
      if_so (is_some x.moving) (λ u. u) (λ u. absurd (let k : option_map_or (λ (r : Record). not (is_some r.moving)) (Some x) false ≡ false = subst (λ (y : Option Record). option_map_or (λ (r : Record). not (is_some r.moving)) y false ≡ false) at gone in
      let f : true ≡ false = rw u at k in cc))

  -- where nothing waits
  none_waits : (t : Tables) (entries : List Entry) → StandsBut landed act_of t entries → find (is_for o.number) t.queued ≡ None → WaitsStill o t
  none_waits t entries h none w m same x is =
      let number : w.number ≡ o.number = sym (its_number t entries h w m) ∙ ap (λ (y : Id). y.number) same in
      absurd (let k : true ≡ false = sym (eq-eqb w.number o.number number) ∙ none_for o.number t.queued none w m in cc)

  -- the first that waits does not wait again
  goes_off : (t : Tables) (entries : List Entry) → StandsBut landed act_of t entries → Rises 0 t.records → is_still t o ≡ true → (w : Waiting Parcel) → find (is_for o.number) t.queued ≡ Some w
      → way (record t { queued = without_first o.number t.queued }) (act_in w.item) ≡ Queue → ⊥
  goes_off t entries h rises still w first waits =
      let act = act_in w.item in
      let mine = still_record (record_here t o) still in
      let its = queues_way (record t { queued = without_first o.number t.queued }) (target_of act) (move_to act) waits in
      let number : (target_of act).number ≡ o.number = its_number t entries h w (found_among (is_for o.number) t.queued w first) ∙ is_for_number o.number t.queued w first in
      let same : its.0 ≡ mine.0 = same_record 0 t.records rises (target_of act) o its.0 mine.0 its.1 mine.1 number in
      let k : true ≡ false = sym its.2 ∙ (ap (λ (y : Record). is_some y.moving) same ∙ mine.2) in cc
    where
      is_for_number : (n : ℕ) (ws : List (Waiting Parcel)) (v : Waiting Parcel) → find (is_for n) ws ≡ Some v → v.number ≡ n
      is_for_number n [] v h = absurd (let e : ◌≡◌ {A = Option (Waiting Parcel)} None (Some v) = h in cc)
      is_for_number n (y ∷ ys) v h = if_so (is_for n y) (λ u. let e : Some y ≡ Some v = rw u at h in let same : y ≡ v = cc in subst (λ (z : Waiting Parcel). z.number ≡ n) same (eqb-true y.number n u))
          (λ u. is_for_number n ys v (rw u at h))

  emptied : (n : ℕ) (t : Tables) (entries : List Entry) → StandsBut landed act_of t entries → Rises 0 t.records → length t.queued ≤ n → WaitsStill o (releases n o t)
  emptied zero t entries h rises few = λ w m same x is. absurd (no_more t.queued w few m)
    where
      no_more : (ws : List (Waiting Parcel)) (w : Waiting Parcel) → length ws ≤ 0 → Among w ws → ⊥
      no_more [] w k m = m
      no_more (y ∷ ys) w k m = absurd (omega (arith, k))
  emptied (suc n) t entries h rises few = if_so (is_still t o)
      (λ s. subst (WaitsStill o) (sym (by_still s)) (each (λ u h' r' f. emptied n u entries h' r' f) s (find (is_for o.number) t.queued) refl))
      (λ s. subst (WaitsStill o) (sym (not_by s)) (not_still t s))
    where
      by_still : is_still t o ≡ true → releases (suc n) o t ≡ released_by t o (releases n o) (find (is_for o.number) t.queued)
      by_still s = rw s refl

      not_by : is_still t o ≡ false → releases (suc n) o t ≡ t
      not_by s = rw s refl

      each : ((u : Tables) → StandsBut landed act_of u entries → Rises 0 u.records → length u.queued ≤ n → WaitsStill o (releases n o u)) → is_still t o ≡ true → (w : Option (Waiting Parcel))
          → find (is_for o.number) t.queued ≡ w → WaitsStill o (released_by t o (releases n o) w)
      each more s None e = none_waits t entries h e
      each more s (Some w) e =
          let v = way (record t { queued = without_first o.number t.queued }) (act_in w.item) in
          more (one_goes o t w) (one_stands act_of landed o t entries w s e h) (rises_begins v (act_in w.item) t.records rises)
          (omega (arith, few, one_fewer o.number t.queued w e, ap length (no_queue v (act_in w.item) (without_first o.number t.queued) (goes_off t entries h rises s w e))))

-- ---- behind a message

-- what waited for an object that landed has gone on
pub all_gone : (act_of : ℕ → ℕ → ℕ → State → Act → Outcome) (o : Id) (t u : Tables) (entries : List Entry) → u ≡ releases (length t.queued) o t → Rises 0 t.records
    → StandsBut (Some (bare o)) act_of t entries → Stands act_of u entries
all_gone act_of o t u entries e rises h =
    subst (λ v. Stands act_of v entries) (sym e) (settled_stands act_of (bare o) (releases (length t.queued) o t) entries (releases_stands act_of (Some (bare o)) (length t.queued) o t entries h)
    (emptied act_of (Some (bare o)) o (length t.queued) t entries h rises (omega arith)))

pub lands_is : (p : Parcel) (o : Option Id) → o ≡ landed_in p → lands p ≡ option_map bare o
lands_is p o e = each p ∙ sym (ap (option_map bare) e)
  where
    each : (p : Parcel) → lands p ≡ option_map bare (landed_in p)
    each (Arrived id place) = refl
    each (Apply act) = refl
    each (Move act) = refl
    each (Go act) = refl
    each (Shipped act state) = refl
    each (Return id) = refl
    each (Ask id asker entry) = refl
    each (Give id entry) = refl
    each (Cached id place) = refl
    each (Free o) = refl
