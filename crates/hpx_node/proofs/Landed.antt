-- An object has landed: its record says where, and its credit comes home.
use Rattle.hpx_node.proofs.Common.{Arrived, Count, DealsWith, Entry, Free, Id, Leaves, List, None, Option, Parcel, Record, Return, Returned, Some, Tables, [], ap, at_all, bare, count_here, credit, effects, false, find_record, is_live, is_some, lowered, moving_here, option_and_then, option_map, place_or_0, record_here, refl, returned, same_object, sym, true, with_mail_if, ℕ, ◌&&◌, ◌++◌, ◌-◌, ◌==◌, ◌^◌, ◌∙◌, ◌∷◌, ◌≡◌}
use Rattle.hpx_agas.specs.declared.record.Waiting.{Waiting}
use Rattle.std.specs.Option.{option_map_or}
use Rattle.hpx_agas.specs.Registries.{IsMovingTo}
use Rattle.hpx_node.proofs.Records.{live_record}

-- its record then
abbrev pub landed : ℕ → Record → Record
landed place r = record r { place = place; moving = None }

-- there is a record that says that it moves there
pub moving_to : (place : ℕ) (x : Option Record) → option_and_then (λ (r : Record). r.moving) x ≡ Some place → IsMovingTo x place
moving_to place None h = absurd (cc)
moving_to place (Some x) h = h

module _ (t : Tables) (id : Id) (place births : ℕ) (queued : List (Waiting Parcel)) (rs : List Record) (live : is_live t id ≡ true) (born : births ≡ t.births) (still : queued ≡ t.queued)
    (now : find_record id rs ≡ option_map (landed place) (find_record id t.records)) where
  -- the tables, once the record says where it is
  abbrev mid : Tables
  mid = record t { births = births; queued = queued; records = rs }

  same : mid ≡ record t { records = rs }
  same = ap (λ n. record t { births = n; queued = queued; records = rs }) born ∙ ap (λ ws. record t { queued = ws; records = rs }) still

  was : (x : Record) × (find_record id t.records ≡ Some x)
  was = live_record t.here t.records id live

  its : record_here mid id ≡ Some (landed place was.0)
  its = ap (λ (x : Tables). find_record id x.records) same ∙ (now ∙ ap (option_map (landed place)) was.1)

  pub still_live : is_live (record t { births = births; queued = queued; records = rs }) id ≡ true
  still_live = ap (λ (x : Tables). (id.home == x.here) && is_some (find_record id x.records)) same
      ∙ (ap (λ x. (id.home == t.here) && is_some x) (now ∙ ap (option_map (landed place)) was.1)
      ∙ (ap (λ x. (id.home == t.here) && is_some x) (sym was.1) ∙ live))

  pub still_counts : count_here (record t { births = births; queued = queued; records = rs }) id ≡ count_here t id
  still_counts = ap (λ x. option_map_or (λ (r : Record). r.count) x 0) its ∙ ap (λ x. option_map_or (λ (r : Record). r.count) x 0) (sym was.1)

  now_there : place_or_0 mid id ≡ place
  now_there = ap (λ x. option_map_or (λ (r : Record). r.place) x 0) its

  pub arrived_deals : (t' : Tables) → DealsWith (Return id) (record t { births = births; queued = queued; records = rs }) t' → DealsWith (Arrived id place) t t'
  arrived_deals t' deals =
      deals
      ∙ (ap (λ n. record (with_mail_if (count_here mid id == credit id) n (Free (bare id)) mid) { records = t'.records }) now_there
      ∙ (ap (λ n. record (with_mail_if (n == credit id) place (Free (bare id)) mid) { records = t'.records }) still_counts
      ∙ ap (λ (x : Tables). record (with_mail_if (count_here t id == credit id) place (Free (bare id)) x) { records = t'.records }) same))

  pub arrived_leaves : (t' : Tables) → ((o : Id) → same_object id o ≡ false → find_record o rs ≡ find_record o t.records)
      → Leaves (Return id) (record t { births = births; queued = queued; records = rs }) t' → Leaves (Arrived id place) t t'
  arrived_leaves t' others leaves = record {
    own = leaves.own ∙ (ap (option_and_then (λ (r : Record). lowered r id)) its ∙ ap (option_and_then (λ (r : Record). lowered (landed place r) id)) (sym was.1));
    others = λ o away. leaves.others o away ∙ others o away;
  }

  pub arrived_grows : (e e' : List Entry) → e' ≡ e ++ at_all t.here (effects (record t { births = births; queued = queued; records = rs }) (Return id))
      → e' ≡ e ++ at_all t.here (effects t (Arrived id place))
  arrived_grows e e' grows = grows ∙ each id.log
    where
      each : (lg : Option ℕ) → e ++ at_all t.here (returned mid id lg) ≡ e ++ at_all t.here (returned t id lg)
      each None = refl
      each (Some log) = ap (λ n. e ++ at_all t.here (Count (bare id) (n - 2 ^ log) (Returned log) ∷ [])) still_counts
