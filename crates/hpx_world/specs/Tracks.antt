-- What is under way for the moves of each object, over all localities and the road between them.
use Rattle.std.specs.Prelude.{ℕ, cond, List, [], ◌≤◌, ◌+◌, ◌-◌, ◌==◌, ◌&&◌, length}
use Rattle.std.specs.List.{sum_by, count_by, slice_get}
use Rattle.std.specs.Option.{option_map_or}
use Rattle.hpx_value.specs.Ids.{same_object}
use Rattle.hpx_journal.specs.Data.{Id, Parcel}
use Rattle.hpx_journal.specs.Entries.{Rules, Frame}
use Rattle.hpx_journal.specs.Laws.{is_freed, road_run}
use Rattle.hpx_journal.specs.Local.{is_standing}
use Rattle.hpx_journal.specs.Moving.{MoveCounts, IsTracked, is_landed_of}
use Rattle.hpx_journal.specs.Whole.{part, recorded_in, replayed}
use Rattle.hpx_part.specs.Data.{Event, Entry, Left}
use Rattle.hpx_steps.specs.Flows.{MovesTo, PlacedAt, record_moves, record_rests}
use Rattle.hpx_steps.specs.Rest.{bound_for}
use Rattle.hpx_steps.specs.Rows.{go_to, ship_to, tell_of, tells_at, one_if, weighed}
use Rattle.hpx_steps.specs.Sound.{all_count, come, gone, gone_to}
use Rattle.hpx_tables.specs.Kept.{record_here}
use Rattle.hpx_tables.specs.Tables.{Tables}
use Rattle.hpx_tables.specs.declared.kept.Arrival.{Arrival}
use Rattle.hpx_tables.specs.declared.kept.Outgoing.{Outgoing}

-- what this counts of the node at k, 0 where there is none
abbrev pub at_node : List Tables → (Tables → ℕ) → ℕ → ℕ
at_node nodes w k = option_map_or w (slice_get nodes k) 0

-- what this counts of the entries at k
abbrev pub in_part : List Entry → (Event → ℕ) → ℕ → ℕ
in_part es f k = all_count f (part k es)

-- what this counts of the messages on the road to k
abbrev pub on_way : Rules → List Entry → (Parcel → ℕ) → ℕ → ℕ
on_way r es w k = sum_by (λ (f : Frame). cond (f.0 == k) (weighed w (r.parcel_of f.1)) 0) (road_run [] es)

-- what this counts of the messages that a locality has yet to send, and of those to itself
abbrev pub kept_mail : (Parcel → ℕ) → Tables → ℕ
kept_mail w t = sum_by w t.desk + sum_by (λ (x : Outgoing). w x.parcel) t.outgoing

-- of those that go to k
abbrev pub kept_for : (Parcel → ℕ) → ℕ → Tables → ℕ
kept_for w k t = cond (k == t.here) (sum_by w t.desk) (sum_by (bound_for k w) t.outgoing)

-- 1 for an entry with which o leaves for t
abbrev pub leaves_for : Id → ℕ → Event → ℕ
leaves_for o t (Left x to) = one_if (same_object o x && (to == t))
leaves_for o t _ = 0

-- the moves of o, counted
abbrev pub moves_of : Rules → List Tables → List Entry → Id → MoveCounts
moves_of r nodes es o = record {
  moving = λ t. at_node nodes (λ x. record_moves x.here (MovesTo o t) (record_here x o)) o.home;
  settled = λ k. at_node nodes (λ x. record_rests (PlacedAt o k) (record_here x o)) o.home;
  stands = λ k. at_node nodes (λ x. count_by (is_standing o) x.objects) k;
  freed = λ k. in_part es (λ e. one_if (is_freed o e)) k;
  sent = λ t k. cond (k == o.home)
      (at_node nodes (kept_for (go_to o t) k) o.home + at_node nodes (λ x. sum_by (go_to o t) x.leaving) k + in_part es (leaves_for o t) k)
      (at_node nodes (kept_for (go_to o t) k) o.home + in_part es (gone_to r k (go_to o t)) o.home);
  go_kept = λ t k. at_node nodes (kept_for (go_to o t) k) o.home;
  go_out = λ t k. in_part es (gone_to r k (go_to o t)) o.home;
  go_road = λ t k. on_way r es (go_to o t) k;
  go_in = λ t k. in_part es (come r (go_to o t)) k;
  leaving = λ t k. at_node nodes (λ x. sum_by (go_to o t) x.leaving) k;
  left = λ t k. in_part es (leaves_for o t) k;
  ship_kept = λ t k. at_node nodes (kept_mail (ship_to o t)) k;
  ship_out = λ t k. in_part es (gone r (ship_to o t)) k;
  ship_road = λ t. on_way r es (ship_to o t) t;
  ship_in = λ t. in_part es (come r (ship_to o t)) t;
  landed = λ t. in_part es (λ e. one_if (is_landed_of o e)) t;
  came = λ t. at_node nodes (λ x. count_by (λ (a : Arrival). same_object o a.object) x.came) t;
  tell_kept = λ t. at_node nodes (kept_mail (tell_of o)) t;
  tell_out = λ t. in_part es (gone r (tell_of o)) t;
  tell_road = λ t. on_way r es (tells_at o t) o.home;
  tell_in = λ t. in_part es (come r (tells_at o t)) o.home;
  told = λ t. cond (t == o.home)
      (in_part es (λ e. one_if (is_landed_of o e)) t - (at_node nodes (λ x. count_by (λ (a : Arrival). same_object o a.object) x.came) t + at_node nodes (kept_mail (tell_of o)) t))
      (in_part es (come r (tells_at o t)) o.home);
}

-- of each object of which credit is out: its home has it move to a locality exactly where one thing is under way for that, and it stands
-- where its home says, or where something of its move is under way
abbrev pub MovesAreTracked : Rules → List Tables → List Entry → Type 0
MovesAreTracked r nodes es = (o : Id) → 1 ≤ recorded_in o (replayed r es) → IsTracked (length nodes) (moves_of r nodes es o)
