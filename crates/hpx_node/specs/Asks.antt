-- A commit that has to wait: what it writes before, what it has in hand then, and what it asks for.
use Rattle.std.specs.Prelude.{List, [], length, map, set, ℕ, ◌++◌, ◌+◌, ◌∷◌, ◌≡◌, ◌≤◌}
use Rattle.std.specs.List.{remove}
use Rattle.hpx_node.specs.Names.{Entry, Event, Id, IsAt, Job, Outcome, Stock, Tables, Waits, ahead, asked_at, asked_events, bare_state, first_cuts, hand_ids, id_at, short_places, stripped, waits_with, with_asks}
use Rattle.hpx_value.specs.Ids.{bare}
use Rattle.hpx_node.specs.Commits.{made_of, places_in_hand, seen}
use Rattle.hpx_node.specs.Changes.{Writes}
use Rattle.hpx_node.specs.declared.node.wait.Before.{Before}

-- ---- splits

-- how many ids the object and the action have
abbrev pub own_many : Job → ℕ
own_many job = length (job.state.ids ++ job.action.ids)

-- the hand of a commit that waits: the ids of objects that are made later have no credit yet
abbrev pub hand_before : Tables → Job → Outcome → List Id
hand_before t job out = hand_ids job.state job.action (map bare (made_of t out))

-- what is split before it waits
abbrev pub splits_before : Tables → Job → Outcome → List Event
splits_before t job out = first_cuts (own_many job) 0 (hand_before t job out) (places_in_hand t job out)

-- its stock then
abbrev pub split_stock : Tables → Job → Outcome → Stock
split_stock t job out = ahead (own_many job) (record { hand = hand_before t job out; places = places_in_hand t job out })

-- ---- asks

-- the places whose ids do not last for those who name them
abbrev pub short_before : Tables → Job → Outcome → List ℕ
short_before t job out = short_places (own_many job) (split_stock t job out)

-- the ids there, which are asked for
abbrev pub lacking : Tables → Job → Outcome → List Id
lacking t job out = map (id_at (split_stock t job out).hand) (short_before t job out)

-- ---- a commit that waits

-- its stock while it waits: what was asked for has no credit
abbrev pub stock_before : Tables → Job → Outcome → Stock
stock_before t job out = stripped (short_before t job out) (split_stock t job out)

-- the action of the job, at i among those that run, waits for credit; its object, at j, keeps its state without credits
pub record Pauses (i j : ℕ) (job : Job) (w : Waits) (t t' : Tables) : Type 0 where
  pub at : IsAt t i j job
  pub rest : t' ≡ record t {
    running = remove t.running i;
    objects = set t.objects j (record { object = at.standing.object; state = bare_state job.state });
    pending = t.pending ++ w ∷ [];
  }

-- before a commit waits: its hand, the places that are named there, how many of it are its own, its stock, and what it asks for
pub record IsBefore (t : Tables) (job : Job) (out : Outcome) (b : Before) : Type 0 where
  pub hand : b.hand.items ≡ hand_before t job out
  pub places : b.places.items ≡ places_in_hand t job out
  pub own : b.own ≡ own_many job
  pub stock : b.stock ≡ stock_before t job out
  pub lacking : b.lacking.items ≡ lacking t job out
  pub asked : b.asked.items ≡ asked_at t.asked (short_before t job out)
  pub state : b.state ≡ bare_state job.state

-- a commit begins to wait: what it has is split, and each id that does not last is asked for; there is one
pub record Begins (t t' : Tables) (job : Job) (out : Outcome) (entries entries' : List Entry) : Type 0 where
  pub i : ℕ
  pub j : ℕ
  pub paused : Tables
  pub pauses : Pauses i j job (waits_with job out t.localities (asked_at t.asked (short_before t (seen job) out)) (stock_before t (seen job) out)) t paused
  pub asks : t' ≡ record (with_asks t.here t.asked (lacking t (seen job) out) paused) { asked = t.asked + length (lacking t (seen job) out) }
  pub some : 1 ≤ length (lacking t (seen job) out)
  pub writes : Writes (splits_before t (seen job) out ++ asked_events (lacking t (seen job) out)) t t' entries entries'
