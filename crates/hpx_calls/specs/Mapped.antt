-- Contents, calls and effects whose references are seen as others, whatever those are.
use Rattle.std.specs.Prelude.{List, [], ◌∷◌, Option, Some, None, map}
use Rattle.hpx_calls.specs.Values.{Value, mapped}
use Rattle.hpx_calls.specs.declared.request.Request.{Request}
use Rattle.hpx_calls.specs.declared.request.Request.TheVariants.{Move, Where, Set, New, Register, Resolve, Unregister, Keys, Count, Add, Query, Reset, Step, Get, Put, PutAt, Close, Down, Wait, Arrive, Other}
use Rattle.hpx_calls.specs.declared.content.Pair.{Pair}
use Rattle.hpx_calls.specs.declared.content.Given.{Given}
use Rattle.hpx_calls.specs.declared.content.Content.{Content}
use Rattle.hpx_calls.specs.declared.content.Content.TheVariants.{Table, Maker, Size, Number, Row, Promise, Dataflow, Started, Channel, Latch, Barrier, Unreadable}
use Rattle.hpx_calls.specs.declared.effect.Effect.{Effect}
use Rattle.hpx_calls.specs.declared.effect.Called.{Called}
use Rattle.hpx_calls.specs.declared.effect.Effect.TheVariants.{Silent, Answers, Waits, Frees, Starts, Hands, Moves, Makes}

module _ {Q R : Type 0} (see : Q → R) where
  abbrev pub option_seen : Option (Value Q) → Option (Value R)
  option_seen None = None
  option_seen (Some v) = Some (mapped see v)

  abbrev pub pair_seen : Pair (Value Q) → Pair (Value R)
  pair_seen x = record { key = x.key; to = mapped see x.to }

  abbrev pub pairs_seen : List (Pair (Value Q)) → List (Pair (Value R))
  pairs_seen [] = []
  pairs_seen (x ∷ xs) = pair_seen x ∷ pairs_seen xs

  abbrev pub given_seen : Given (Value Q) → Given (Value R)
  given_seen x = record { slot = x.slot; value = mapped see x.value }

  abbrev pub givens_seen : List (Given (Value Q)) → List (Given (Value R))
  givens_seen [] = []
  givens_seen (x ∷ xs) = given_seen x ∷ givens_seen xs

  abbrev pub content_seen : Content (Value Q) → Content (Value R)
  content_seen (Table pairs) = Table (pairs_seen pairs)
  content_seen Maker = Maker
  content_seen (Size n) = Size n
  content_seen (Number z) = Number z
  content_seen (Row numbers) = Row numbers
  content_seen (Promise value) = Promise (option_seen value)
  content_seen (Dataflow code inputs given) = Dataflow code inputs (givens_seen given)
  content_seen (Started code inputs) = Started code inputs
  content_seen (Channel closed kept) = Channel closed (map (mapped see) kept)
  content_seen (Latch left) = Latch left
  content_seen (Barrier n) = Barrier n
  content_seen (Unreadable values) = Unreadable (map (mapped see) values)

  abbrev pub request_seen : Request (Value Q) → Request (Value R)
  request_seen (Move to) = Move to
  request_seen Where = Where
  request_seen (Set slot v) = Set slot (mapped see v)
  request_seen (New name vs) = New name (map (mapped see) vs)
  request_seen (Register key to) = Register key (mapped see to)
  request_seen (Resolve key) = Resolve key
  request_seen (Unregister key) = Unregister key
  request_seen Keys = Keys
  request_seen Count = Count
  request_seen (Add z) = Add z
  request_seen Query = Query
  request_seen Reset = Reset
  request_seen (Step left right) = Step left right
  request_seen Get = Get
  request_seen (Put v) = Put (mapped see v)
  request_seen (PutAt slot v) = PutAt slot (mapped see v)
  request_seen Close = Close
  request_seen Down = Down
  request_seen Wait = Wait
  request_seen Arrive = Arrive
  request_seen Other = Other

  abbrev pub effect_seen : Effect (Value Q) → Effect (Value R)
  effect_seen Silent = Silent
  effect_seen (Answers v) = Answers (mapped see v)
  effect_seen Waits = Waits
  effect_seen (Frees count v own) = Frees count (mapped see v) (mapped see own)
  effect_seen (Starts code args) = Starts code (map (mapped see) args)
  effect_seen (Hands code args own) = Hands code (map (mapped see) args) (mapped see own)
  effect_seen (Moves to) = Moves to
  effect_seen (Makes x) = Makes (content_seen x)

  abbrev pub called_seen : Called (Value Q) → Called (Value R)
  called_seen c = record { content = content_seen c.content; effect = effect_seen c.effect }
