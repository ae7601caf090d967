-- Where no message is to be dealt with or sent, no action may be fired, no job is out and no commit waits, no object is to leave, and each that
-- came has been told of.
use Rattle.std.proofs.Common.{Bool, true, false, cond, List, [], ◌∷◌, ◌≡◌, ◌≤◌, None, refl, ap, ◌∙◌, arith, inl}
use Rattle.std.specs.Prelude.{◌&&◌, ◌==◌, not, is_some}
use Rattle.std.specs.List.{list_any, sum_by, AllByRecursion}
use Rattle.std.proofs.lemmas.List.Sums.{sum_by-cons}
use Rattle.hpx_value.specs.Ids.{same_object}
use Rattle.hpx_journal.specs.Data.{Id, Act, Parcel, Apply, Return, Ask, Give, Cached, Move, Go, Shipped, Arrived, Free}
use Rattle.hpx_journal.specs.Entries.{target_of, same_name}
use Rattle.hpx_journal.specs.Local.{acts_on, is_busy}
use Rattle.hpx_journal.proofs.Same.{same_name-refl, same_object-refl}
use Rattle.hpx_tables.specs.Pending.{Waits, fired_of}
use Rattle.hpx_tables.specs.Tables.{Tables, IsPassive, fired_acts}
use Rattle.hpx_tables.specs.declared.kept.Arrival.{Arrival}
use Rattle.hpx_node.specs.Behind.{may_leave}
use Rattle.hpx_steps.specs.Items.{Among, weigh}
use Rattle.hpx_steps.specs.Rows.{one_if}
use Rattle.hpx_steps.specs.Sound.{IsGranted, brought, move_of, moved_by, same_arrival}
use Rattle.hpx_steps.specs.Turn.{at_rest}
use Rattle.hpx_steps.proofs.Sums.{zeros}

-- no message goes, no object leaves, and each that came has been told of
pub record IsCleared (t : Tables) : Type 0 where
  pub desk : t.desk ≡ []
  pub outgoing : t.outgoing ≡ []
  pub leaving : t.leaving ≡ []
  pub came : t.came ≡ []

pub passive_cleared : (t : Tables) → IsPassive t → IsCleared t
passive_cleared t h = record { desk = h.desk; outgoing = h.outgoing; leaving = h.leaving; came = h.came }

pub nothing_among : {X : Type 0} (xs : List X) → ((x : X) → Among x xs → ⊥) → xs ≡ []
nothing_among [] none = refl
nothing_among (x ∷ xs) none = absurd (none x (inl refl))

-- ---- what is to leave may leave

done_with : (o : Id) (fired acts : List Act) → fired ≡ [] → acts ≡ [] → (not (is_busy o fired) && not (list_any (acts_on o) acts)) ≡ true
done_with o fired acts e f = rw (e, f) (each (o.kind == 7))
  where
    each : (b : Bool) → (not (cond b false false) && true) ≡ true
    each true = refl
    each false = refl

none_fired : (t : Tables) → t.running ≡ [] → t.pending ≡ [] → fired_acts t ≡ []
none_fired t running pending = ap (λ (ws : List Waits). fired_of t.running ws) pending ∙ ap (λ (acts : List Act). fired_of acts []) running

pub none_leaving : (t : Tables) → t.accepted ≡ [] → t.running ≡ [] → t.pending ≡ [] → (ps : List Parcel) → AllByRecursion (IsGranted t.here t.objects) ps
    → list_any (may_leave t) ps ≡ false → ps ≡ []
none_leaving t accepted running pending [] h none = refl
none_leaving t accepted running pending (p ∷ ps) h none = absurd (each p h.0 none)
  where
    each : (p : Parcel) → IsGranted t.here t.objects p → list_any (may_leave t) (p ∷ ps) ≡ false → ⊥
    each (Go act) h none =
        let may : may_leave t (Go act) ≡ true = done_with (target_of act) (fired_acts t) t.accepted (none_fired t running pending) accepted in
        let no : true ≡ false = rw may at none in
        cc
    each (Apply act) h none = h
    each (Move act) h none = h
    each (Shipped act state) h none = h
    each (Return id) h none = h
    each (Ask id asker entry) h none = h
    each (Give id entry) h none = h
    each (Cached id place) h none = h
    each (Arrived id place) h none = h
    each (Free id) h none = h

-- ---- the MOVE with which an object came is not done

same_self : (a : Arrival) → a.object.log ≡ None → one_if (same_arrival a a) ≡ 1
same_self a bare = each (same_name a.name a.name) (same_object a.object a.object) (is_some a.object.log) (same_name-refl a.name) (same_object-refl a.object) (ap is_some bare)
  where
    each : (x y z : Bool) → x ≡ true → y ≡ true → z ≡ false → one_if (x && (y && not z)) ≡ 1
    each x y z e f g = rw (e, f, g) refl

pub none_came : (t : Tables) → t.accepted ≡ [] → t.running ≡ [] → t.pending ≡ [] → (arrivals : List Arrival) → t.came ≡ arrivals
    → AllByRecursion (λ (a : Arrival). a.object.log ≡ None) arrivals
    → ((a : Arrival) → weigh (brought a) (at_rest t) ≤ weigh (moved_by a) (at_rest t)) → arrivals ≡ []
none_came t accepted running pending [] is bare arrived = refl
none_came t accepted running pending (a ∷ rest) is bare arrived = absurd (omega (
  arith,
  arrived a,
  same_self a bare.0,
  ap (sum_by (λ (b : Arrival). one_if (same_arrival a b))) is,
  sum_by-cons (λ (b : Arrival). one_if (same_arrival a b)) a rest,
  zeros t.desk,
  zeros t.outgoing,
  zeros t.queued,
  zeros t.leaving,
  zeros t.stray,
  zeros t.came,
  zeros t.objects,
  ap (sum_by (λ (x : Act). move_of a x)) accepted,
  ap (sum_by (λ (x : Act). move_of a x)) running,
  ap (sum_by (λ (w : Waits). move_of a w.job.action)) pending,
))
