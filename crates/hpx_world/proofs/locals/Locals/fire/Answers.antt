use Rattle.hpx_node.proofs.Turns.{turn_within}
use Rattle.hpx_world.specs.Quiet.{IsStuck}
use Rattle.hpx_world.specs.Turns.{Fires}
use Rattle.hpx_world.proofs.Calls.{done_at, same_at, at_own, there_at, fire_inside, stands_at, sound_inside, inside_at}
use Rattle.hpx_world.proofs.locals.Locals.fire.Goals as goal

pub fire-requires-clause-stands : goal.fire-requires-clause-stands
fire-requires-clause-stands g c =
    stands_at _ _ _ _ c.requires.sound c.args.k c.index_mut.result.now c.index_mut.result.now c.requires.range c.index_mut.ensures.value

pub returns-in-Ok-Some-clause-sound : goal.returns-in-Ok-Some-clause-sound
returns-in-Ok-Some-clause-sound g c =
    sound_inside _ _ _ _ c.requires.sound c.args.k c.index_mut.result.now c.fire.new.self c.requires.range c.index_mut.ensures.value _
    (fire_inside c.index_mut.result.now c.fire.new.self c.args.self.now.journal c.fire.new.book _ c.fire.result c.fire.ensures.fired c.fire.ensures.none c.fire.ensures.err)
    c.fire.ensures.stands (turn_within _ _ c.requires.room c.fire.ensures.turn)

pub returns-in-Ok-Some-clause-inside : goal.returns-in-Ok-Some-clause-inside
returns-in-Ok-Some-clause-inside g c =
    inside_at _ _ _ _ c.requires.sound c.args.k c.index_mut.result.now c.fire.new.self c.requires.range c.index_mut.ensures.value _
    (fire_inside c.index_mut.result.now c.fire.new.self c.args.self.now.journal c.fire.new.book _ c.fire.result c.fire.ensures.fired c.fire.ensures.none c.fire.ensures.err)

pub returns-in-Ok-None-clause-sound : goal.returns-in-Ok-None-clause-sound
returns-in-Ok-None-clause-sound g c =
    sound_inside _ _ _ _ c.requires.sound c.args.k c.index_mut.result.now c.fire.new.self c.requires.range c.index_mut.ensures.value _
    (fire_inside c.index_mut.result.now c.fire.new.self c.args.self.now.journal c.fire.new.book _ c.fire.result c.fire.ensures.fired c.fire.ensures.none c.fire.ensures.err)
    c.fire.ensures.stands (turn_within _ _ c.requires.room c.fire.ensures.turn)

pub returns-in-Ok-None-clause-inside : goal.returns-in-Ok-None-clause-inside
returns-in-Ok-None-clause-inside g c =
    inside_at _ _ _ _ c.requires.sound c.args.k c.index_mut.result.now c.fire.new.self c.requires.range c.index_mut.ensures.value _
    (fire_inside c.index_mut.result.now c.fire.new.self c.args.self.now.journal c.fire.new.book _ c.fire.result c.fire.ensures.fired c.fire.ensures.none c.fire.ensures.err)

pub returns-in-Err-clause-sound : goal.returns-in-Err-clause-sound
returns-in-Err-clause-sound g c =
    sound_inside _ _ _ _ c.requires.sound c.args.k c.index_mut.result.now c.fire.new.self c.requires.range c.index_mut.ensures.value _
    (fire_inside c.index_mut.result.now c.fire.new.self c.args.self.now.journal c.fire.new.book _ c.fire.result c.fire.ensures.fired c.fire.ensures.none c.fire.ensures.err)
    c.fire.ensures.stands (turn_within _ _ c.requires.room c.fire.ensures.turn)

pub returns-in-Err-clause-inside : goal.returns-in-Err-clause-inside
returns-in-Err-clause-inside g c =
    inside_at _ _ _ _ c.requires.sound c.args.k c.index_mut.result.now c.fire.new.self c.requires.range c.index_mut.ensures.value _
    (fire_inside c.index_mut.result.now c.fire.new.self c.args.self.now.journal c.fire.new.book _ c.fire.result c.fire.ensures.fired c.fire.ensures.none c.fire.ensures.err)

pub returns-in-Ok-Some-clause-did : goal.returns-in-Ok-Some-clause-did
returns-in-Ok-Some-clause-did g c =
    done_at _ c.args.k c.index_mut.result.now c.fire.new.self c.requires.range c.index_mut.ensures.value
    (Fires c.in-Ok-Some.job c.args.self.now.journal.entries c.fire.new.book.entries)
    (record { starts = rw c.in-Ok-Some.field-0-is at c.in-Ok-Some.ensures.job; writes = rw c.in-Ok-Some.field-0-is at c.in-Ok-Some.ensures.fired })

pub returns-in-Ok-None-clause-did : goal.returns-in-Ok-None-clause-did
returns-in-Ok-None-clause-did g c =
    let none = rw c.in-Ok-None.field-0-is at c.in-Ok-None.ensures.none in
    (same_at _ c.args.k c.index_mut.result.now c.fire.new.self c.requires.range c.index_mut.ensures.value _ _ none.1, at_own _ c.args.k c.index_mut.result.now c.fire.new.self c.requires.range c.index_mut.ensures.value IsStuck none.0)

pub returns-in-Err-clause-err : goal.returns-in-Err-clause-err
returns-in-Err-clause-err g c =
    same_at _ c.args.k c.index_mut.result.now c.fire.new.self c.requires.range c.index_mut.ensures.value _ _ c.in-Err.ensures.err

pub returns-in-Err-clause-waits : goal.returns-in-Err-clause-waits
returns-in-Err-clause-waits g c = (
  c.index_mut.result.now.tables,
  there_at _ c.args.k c.index_mut.result.now c.index_mut.result.now c.requires.range c.index_mut.ensures.value,
  c.in-Err.ensures.waits,
)
