-- Which contents an object of a kind can have.
use Rattle.hpx_calls.specs.Contents.{Content, Table, Maker, Size, Promise, Dataflow, Started, Channel, Latch, Barrier, Unreadable}

-- those of control objects
abbrev pub IsControl : {V : Type 0} → Content V → Type 0
IsControl (Promise value) = Unit {0}
IsControl (Dataflow code inputs given) = Unit {0}
IsControl (Started code inputs) = Unit {0}
IsControl (Channel closed kept) = Unit {0}
IsControl (Latch left) = Unit {0}
IsControl (Barrier n) = Unit {0}
IsControl (Unreadable values) = Unit {0}
IsControl _ = ⊥

-- those of name services
abbrev pub IsNaming : {V : Type 0} → Content V → Type 0
IsNaming (Table pairs) = Unit {0}
IsNaming Maker = Unit {0}
IsNaming (Size n) = Unit {0}
IsNaming (Unreadable values) = Unit {0}
IsNaming _ = ⊥
