-- What a call of a node changes.
use Rattle.std.specs.Prelude.{List, ◌++◌, ◌≡◌}
use Rattle.hpx_node.specs.Names.{Book, Entry, Event, Tables, at_all}

-- nothing but for how much more there is memory
pub record OnlySpare (t t' : Tables) (b b' : Book) : Type 0 where
  pub tables : t' ≡ t
  pub entries : b'.entries ≡ b.entries

-- nothing but the last number drawn for an action, and what waits or is on its way
abbrev pub OnlySends : Tables → Tables → Type 0
OnlySends t t' = t' ≡ record t { serial = t'.serial; accepted = t'.accepted; desk = t'.desk; outgoing = t'.outgoing; queued = t'.queued; records = t'.records }

-- nothing but this, and states of objects
abbrev pub OnlyLeaves : Tables → Tables → Type 0
OnlyLeaves t t' = t' ≡ record t { serial = t'.serial; accepted = t'.accepted; desk = t'.desk; outgoing = t'.outgoing; queued = t'.queued; records = t'.records; objects = t'.objects }

-- the journal is longer by these events of this node, and by nothing else
pub record Writes (events : List Event) (t t' : Tables) (entries entries' : List Entry) : Type 0 where
  pub here : t'.here ≡ t.here
  pub localities : t'.localities ≡ t.localities
  pub profile : t'.profile ≡ t.profile
  pub grows : entries' ≡ entries ++ at_all t.here events
