-- In which order frames are delivered.
use Rattle.std.specs.Prelude.{ℕ, Option, Some, None, ◌+◌, ◌-◌, ◌*◌, ◌/◌, ◌%◌, ◌^◌}
use Rattle.hpx_ports.specs.declared.order.Order.{Order}
use Rattle.hpx_ports.specs.declared.order.Order.TheVariants.{FirstIn, LastIn, Scrambled}

-- what stands in the place of a scrambled order's number
abbrev pub next_number : ℕ → ℕ
next_number x = (x * 6364136223846793005 + 1442695040888963407) % 2 ^ 64

-- the place of the frame that is delivered next among n frames in flight, oldest first from 0
abbrev pub next_place : Order → ℕ → ℕ
next_place FirstIn n = 0
next_place LastIn n = n - 1
next_place (Scrambled x) n = next_number x / 2 ^ 33 % n

-- the order after a frame was delivered
abbrev pub next_order : Order → Order
next_order FirstIn = FirstIn
next_order LastIn = LastIn
next_order (Scrambled x) = Scrambled (next_number x)

-- the order after a delivery, which may have found nothing
abbrev pub order_after : {F : Type 0} → Order → Option F → Order
order_after order None = order
order_after order (Some frame) = next_order order
