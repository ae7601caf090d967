-- What is told of a parcel without keeping it.
use Rattle.std.specs.Prelude.{◌≡◌, ℕ, pos, Bool, true, List, [], ◌∷◌, length, Option, Some, None, Result, Ok, Err, ◌+◌, ◌==◌, ◌&&◌, max, is_some, nat_le, nat_lt, if◌then◌else◌}
use Rattle.hpx_value.specs.Hands.{id_at}
use Rattle.hpx_parcel.specs.Types.{Id, Value, Int, Cont, State, Act, Message, Parcel, Apply, Return, Ask, Give, Cached, Move, Go, Object, Landed, Free}
use Rattle.hpx_parcel.specs.Parcels.{Spells, IsFrame}
use Rattle.hpx_parcel.specs.Reading.{Stop, ActRule, Applied, Moves, id_list}
pub use Rattle.hpx_parcel.specs.declared.outline.ParcelKind.{ParcelKind}
pub use Rattle.hpx_parcel.specs.declared.outline.ParcelKind.TheVariants as kinds
pub use Rattle.hpx_parcel.specs.declared.outline.Outline.{Outline}
pub use Rattle.hpx_parcel.specs.declared.glance.Glance.{Glance}
pub use Rattle.hpx_parcel.specs.declared.glance.ActOutline.{ActOutline}

-- ---- what is asked of a parcel

-- the object that an action is for
abbrev pub target_of : Act → Id
target_of act = id_at act.ids 0

-- the place that a value is for a MOVE: a number below 64
abbrev pub place_of : Value → Option ℕ
place_of (Int (pos t)) = if nat_lt t 64 then Some t else None
place_of _ = None

-- the place in the arguments of a MOVE, if they are those of one
abbrev pub place_in : List Value → Option ℕ
place_in (v ∷ []) = place_of v
place_in _ = None

-- whether a kind is movable
abbrev pub is_movable : ℕ → Bool
is_movable kind = nat_le 16 kind && nat_le kind 31

-- where a MOVE, code 1, moves its target; any other action moves nothing
abbrev pub move_to : Act → Option ℕ
move_to act = if (act.code == 1) && is_movable (target_of act).kind then place_in act.args else None

-- the greatest home of ids, and of what was there before
abbrev pub most_home : ℕ → List Id → ℕ
most_home most [] = most
most_home most (id ∷ ids) = most_home (max most id.home) ids

-- the same with the place of a MOVE
abbrev pub most_place : ℕ → Option ℕ → ℕ
most_place most None = most
most_place most (Some to) = max most to

-- of an action: its target, where it moves it, and the greatest locality in its name and its ids
abbrev pub act_outline : Act → ActOutline
act_outline a = record { target = target_of a; to = move_to a; most = most_home a.origin a.ids }

-- of a parcel with such a MOVE
abbrev pub moving : ParcelKind → ActOutline → Outline
moving kind a = record { kind = kind; id = a.target; to = a.to; entry = 0; most = most_place a.most a.to }

-- of a parcel with an action that moves nothing
abbrev pub applied : ActOutline → Outline
applied a = record { kind = kinds.Apply; id = a.target; to = None; entry = 0; most = a.most }

-- of a parcel: its kind, its first id, where it moves an object, the entry of an Ask or a Give, and the greatest locality in it
abbrev pub outline : Parcel → Outline
outline (Apply a) = applied (act_outline a)
outline (Return id) = record { kind = kinds.Return; id = id; to = None; entry = 0; most = id.home }
outline (Ask id asker entry) = record { kind = kinds.Ask; id = id; to = None; entry = entry; most = max id.home asker }
outline (Give id entry) = record { kind = kinds.Give; id = id; to = None; entry = entry; most = id.home }
outline (Cached id place) = record { kind = kinds.Cached; id = id; to = None; entry = 0; most = max id.home place }
outline (Move a) = moving kinds.Move (act_outline a)
outline (Go a) = moving kinds.Go (act_outline a)
outline (Object a s) = record (moving kinds.Object (act_outline a)) { most = most_home (most_place (most_home a.origin a.ids) (move_to a)) s.ids }
outline (Landed id place) = record { kind = kinds.Landed; id = id; to = Some place; entry = 0; most = max id.home place }
outline (Free id) = record { kind = kinds.Free; id = id; to = None; entry = 0; most = id.home }

-- the outline is that of the parcel that the bytes spell
pub record IsOutline (bytes : List ℕ) (o : Outline) : Type 0 where
  pub frame : IsFrame bytes
  pub same : (p : Parcel) → Spells bytes p → o ≡ outline p

-- ---- what is kept of what is only looked at

-- the places that an action may have in its arguments
abbrev pub takes_place : ActRule → Option ℕ → Bool
takes_place Applied to = true
takes_place Moves to = is_some to

-- where such an action moves its target
abbrev pub place_by : ActRule → Option ℕ → Option ℕ
place_by Applied to = None
place_by Moves to = to

-- a part of what is read is what a function returned, seen by view; a fault is the same
abbrev pub Shows : {X Y Z : Type 0} → (Y → Z) → (X → Z) → Result X Stop → Result Y Stop → Type 0
Shows part view (Ok x) read = (y : _) × (read ≡ Ok y) × (part y ≡ view x)
Shows part view (Err s) read = read ≡ Err s

-- the place that the last value is for a MOVE
abbrev pub last_place : Option ℕ → List Value → Option ℕ
last_place before [] = before
last_place before (v ∷ vs) = last_place (place_of v) vs

-- of values and their ids: how many ids, the greatest home, and the place of the last value
abbrev pub glance : Glance → List Value → List Id → Glance
glance g vs ids = record { ids = g.ids + length ids; most = most_home g.most ids; to = last_place g.to vs }

-- of a value, and the bytes after it
abbrev pub value_part : Glance → Value × Option Id × List ℕ → Glance × List ℕ
value_part g x = (glance g (x.0 ∷ []) (id_list x.1), x.2)

-- of a value that is no Ref
abbrev pub plain_part : Value × List ℕ → Option ℕ × List ℕ
plain_part x = (place_of x.0, x.1)

-- of values
abbrev pub values_part : Glance → List Value × List Id × List ℕ → Glance × List ℕ
values_part g x = (glance g x.0 x.1, x.2)

-- of all values of an action or a state, where so many ids are before them
abbrev pub list_part : ℕ → ℕ → List Value × List Id × List ℕ → Glance × List ℕ
list_part ids most x = (record { ids = ids + length x.1; most = most_home most x.1; to = place_in x.0 }, x.2)

-- of an action without its name
abbrev pub message_part : ℕ → Message × List ℕ → Id × Option ℕ × ℕ × List ℕ
message_part most x = (id_at x.0.ids 0, place_in x.0.args, most_home most x.0.ids, x.1)

-- of an action
abbrev pub act_part : Act × List ℕ → ActOutline × List ℕ
act_part x = (act_outline x.0, x.1)

-- of kept continuations
abbrev pub conts_part : ℕ → List Cont × List Id × List ℕ → ℕ × List ℕ
conts_part most x = (most_home most x.1, x.2)

-- of a state
abbrev pub state_part : ℕ → State × List ℕ → ℕ × List ℕ
state_part most x = (most_home most x.0.ids, x.1)

-- of a parcel
abbrev pub parcel_part : Parcel × List ℕ → Outline × List ℕ
parcel_part x = (outline x.0, x.1)
