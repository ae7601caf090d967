use Rattle.hpx_node.proofs.Turns.{turn_within}
use Rattle.hpx_world.specs.Turns.{Feeds}
use Rattle.hpx_world.proofs.Calls.{done_at, same_at, running_at, feed_inside, here_at, stands_at, sound_inside, inside_at}
use Rattle.hpx_world.proofs.locals.Locals.feed.Goals as goal

pub feed-requires-clause-stands : goal.feed-requires-clause-stands
feed-requires-clause-stands g c =
    stands_at _ _ _ _ c.requires.sound 0 c.index_mut.result.now c.index_mut.result.now c.requires.sound.some c.index_mut.ensures.value

pub feed-requires-clause-here : goal.feed-requires-clause-here
feed-requires-clause-here g c =
    here_at _ _ _ _ c.requires.sound 0 c.index_mut.result.now c.index_mut.result.now c.requires.sound.some c.index_mut.ensures.value

pub returns-in-Ok-clause-sound : goal.returns-in-Ok-clause-sound
returns-in-Ok-clause-sound g c =
    sound_inside _ _ _ _ c.requires.sound 0 c.index_mut.result.now c.feed.new.self c.requires.sound.some c.index_mut.ensures.value _
    (feed_inside c.index_mut.result.now c.feed.new.self c.args.self.now.journal c.feed.new.book _ c.args.line c.feed.result c.feed.ensures.line c.feed.ensures.err)
    c.feed.ensures.stands (turn_within _ _ c.requires.room c.feed.ensures.turn)

pub returns-in-Ok-clause-inside : goal.returns-in-Ok-clause-inside
returns-in-Ok-clause-inside g c =
    inside_at _ _ _ _ c.requires.sound 0 c.index_mut.result.now c.feed.new.self c.requires.sound.some c.index_mut.ensures.value _
    (feed_inside c.index_mut.result.now c.feed.new.self c.args.self.now.journal c.feed.new.book _ c.args.line c.feed.result c.feed.ensures.line c.feed.ensures.err)

pub returns-in-Ok-clause-jobs : goal.returns-in-Ok-clause-jobs
returns-in-Ok-clause-jobs g c =
    running_at _ 0 c.index_mut.result.now c.feed.new.self c.requires.sound.some c.index_mut.ensures.value c.feed.ensures.running

pub returns-in-Err-clause-sound : goal.returns-in-Err-clause-sound
returns-in-Err-clause-sound g c =
    sound_inside _ _ _ _ c.requires.sound 0 c.index_mut.result.now c.feed.new.self c.requires.sound.some c.index_mut.ensures.value _
    (feed_inside c.index_mut.result.now c.feed.new.self c.args.self.now.journal c.feed.new.book _ c.args.line c.feed.result c.feed.ensures.line c.feed.ensures.err)
    c.feed.ensures.stands (turn_within _ _ c.requires.room c.feed.ensures.turn)

pub returns-in-Err-clause-inside : goal.returns-in-Err-clause-inside
returns-in-Err-clause-inside g c =
    inside_at _ _ _ _ c.requires.sound 0 c.index_mut.result.now c.feed.new.self c.requires.sound.some c.index_mut.ensures.value _
    (feed_inside c.index_mut.result.now c.feed.new.self c.args.self.now.journal c.feed.new.book _ c.args.line c.feed.result c.feed.ensures.line c.feed.ensures.err)

pub returns-in-Err-clause-jobs : goal.returns-in-Err-clause-jobs
returns-in-Err-clause-jobs g c =
    running_at _ 0 c.index_mut.result.now c.feed.new.self c.requires.sound.some c.index_mut.ensures.value c.feed.ensures.running

pub returns-in-Ok-clause-did : goal.returns-in-Ok-clause-did
returns-in-Ok-clause-did g c =
    done_at _ 0 c.index_mut.result.now c.feed.new.self c.requires.sound.some c.index_mut.ensures.value
    (Feeds c.args.line c.args.self.now.journal.entries c.feed.new.book.entries)
    (record { writes = c.in-Ok.ensures.line; waits = c.in-Ok.ensures.waits })

pub returns-in-Err-clause-err : goal.returns-in-Err-clause-err
returns-in-Err-clause-err g c =
    same_at _ 0 c.index_mut.result.now c.feed.new.self c.requires.sound.some c.index_mut.ensures.value _ _ c.in-Err.ensures.err
