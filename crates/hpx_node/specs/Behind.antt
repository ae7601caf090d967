-- What is done for objects that move, behind messages: they leave, and what waited for them goes on.
use Rattle.std.specs.Prelude.{ℕ, zero, suc, Bool, true, false, not, cond, List, [], ◌∷◌, ◌≡◌, ◌&&◌, length, slice_get, take, is_some, Option, Some, None}
use Rattle.std.specs.Option.{option_map_or}
use Rattle.std.specs.List.{find, list_any, remove}
use Rattle.std.specs.List.Sorted.{IsPermutation}
use Rattle.hpx_value.specs.Ids.{bare}
use Rattle.hpx_journal.specs.Bags.{without}
use Rattle.hpx_journal.specs.Data.{Go, Shipped, Arrived}
use Rattle.hpx_journal.specs.Entries.{move_to}
use Rattle.hpx_journal.specs.Local.{acts_on, is_busy}
use Rattle.hpx_agas.specs.Queues.{is_for}
use Rattle.hpx_agas.specs.declared.record.Record.{Record}
use Rattle.hpx_part.specs.Data.{Left}
use Rattle.hpx_tables.specs.Tables.{fired_acts}
use Rattle.hpx_tables.specs.Kept.{record_here}
use Rattle.hpx_steps.specs.Calls.{released_by}
use Rattle.hpx_steps.specs.Mail.{with_mail}
use Rattle.hpx_node.specs.Changes.{Writes}
use Rattle.hpx_node.specs.Names.{Act, Entry, Id, Parcel, Standing, Tables, is_standing, target_of}

-- ---- an object leaves

-- no action on an object is accepted or fired
abbrev pub is_done_with : Tables → Id → Bool
is_done_with t o = not (is_busy o (fired_acts t)) && not (list_any (acts_on o) t.accepted)

-- a message grants a move of an object on which nothing is done
abbrev pub may_leave : Tables → Parcel → Bool
may_leave t (Go act) = is_done_with t (target_of act)
may_leave t _ = false

-- an object that is to leave leaves, with its MOVE, the first on which nothing is done; all others stand, maybe in another order
pub record Departs (t t' : Tables) (entries entries' : List Entry) : Type 0 where
  pub i : ℕ
  pub act : Act
  pub there : slice_get t.leaving i ≡ Some (Go act)
  pub first : list_any (may_leave t) (take i t.leaving) ≡ false
  pub done : is_done_with t (target_of act) ≡ true
  pub to : ℕ
  pub moves : move_to act ≡ Some to
  pub x : Standing
  pub found : find (is_standing (target_of act)) t.objects ≡ Some x
  pub others : IsPermutation (without (is_standing (target_of act)) t.objects) t'.objects
  pub rest : t' ≡ record (with_mail to (Shipped act x.state) t) { leaving = remove t.leaving i; objects = t'.objects }
  pub writes : Writes (Left (bare (target_of act)) to ∷ []) t t' entries entries'

-- ---- what waited goes on

-- of which object a message tells that it has landed
abbrev pub landed_in : Parcel → Option Id
landed_in (Arrived id place) = Some id
landed_in p = None

-- a live object does not move
abbrev pub is_still : Tables → Id → Bool
is_still t o = option_map_or (λ (r : Record). not (is_some r.moving)) (record_here t o) false

-- up to n messages that wait for an object go their way, the oldest first, as long as it does not move
abbrev pub releases : ℕ → Id → Tables → Tables
releases zero o t = t
releases (suc n) o t = cond (is_still t o) (released_by t o (releases n o) (find (is_for o.number) t.queued)) t

-- all that waits for an object that landed goes its way, until the object moves again
abbrev pub goes_on : Option Id → Tables → Tables
goes_on None t = t
goes_on (Some o) t = releases (length t.queued) o t
