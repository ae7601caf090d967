-- The way of an action, as code tells it.
use Rattle.hpx_node.specs.declared.node.ways.Way.{Way as Told}
use Rattle.hpx_node.specs.declared.node.ways.Way.TheVariants as told
use Rattle.hpx_steps.specs.Ways.{Way, Accept, Queue, To, Begin}

-- what is done with an action
abbrev pub as_way : Told → Way
as_way told.Accept = Accept
as_way told.Queue = Queue
as_way (told.To to) = To to
as_way (told.Begin place) = Begin place
