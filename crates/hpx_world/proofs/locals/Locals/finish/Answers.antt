use Rattle.std.proofs.Common.{◌≡◌, ◌∙◌, Some, slice_get, subst, sym}
use Rattle.hpx_node.specs.Locality.{tables_of}
use Rattle.hpx_node.proofs.Turns.{turn_within}
use Rattle.hpx_world.proofs.Calls.{same_at, there_at, finish_inside, localities_at, stands_at, sound_inside, inside_at}
use Rattle.hpx_world.proofs.Finished.{finished_did}
use Rattle.hpx_world.proofs.locals.Locals.finish.Goals as goal

pub finish-requires-clause-stands : goal.finish-requires-clause-stands
finish-requires-clause-stands g c =
    stands_at _ _ _ _ c.requires.sound c.args.k c.index_mut.result.now c.index_mut.result.now c.requires.range c.index_mut.ensures.value

pub returns-in-Ok-clause-sound : goal.returns-in-Ok-clause-sound
returns-in-Ok-clause-sound g c =
    sound_inside _ _ _ _ c.requires.sound c.args.k c.index_mut.result.now c.finish.new.self c.requires.range c.index_mut.ensures.value _
    (finish_inside c.index_mut.result.now c.finish.new.self c.args.self.now.journal c.finish.new.book _ _ _ c.args.done.job c.args.done.outcome c.finish.result c.finish.ensures.committed c.finish.ensures.asks c.finish.ensures.not_running c.finish.ensures.err)
    c.finish.ensures.stands (turn_within _ _ c.requires.room c.finish.ensures.turn)

pub returns-in-Ok-clause-inside : goal.returns-in-Ok-clause-inside
returns-in-Ok-clause-inside g c =
    inside_at _ _ _ _ c.requires.sound c.args.k c.index_mut.result.now c.finish.new.self c.requires.range c.index_mut.ensures.value _
    (finish_inside c.index_mut.result.now c.finish.new.self c.args.self.now.journal c.finish.new.book _ _ _ c.args.done.job c.args.done.outcome c.finish.result c.finish.ensures.committed c.finish.ensures.asks c.finish.ensures.not_running c.finish.ensures.err)

pub returns-in-Err-clause-sound : goal.returns-in-Err-clause-sound
returns-in-Err-clause-sound g c =
    sound_inside _ _ _ _ c.requires.sound c.args.k c.index_mut.result.now c.finish.new.self c.requires.range c.index_mut.ensures.value _
    (finish_inside c.index_mut.result.now c.finish.new.self c.args.self.now.journal c.finish.new.book _ _ _ c.args.done.job c.args.done.outcome c.finish.result c.finish.ensures.committed c.finish.ensures.asks c.finish.ensures.not_running c.finish.ensures.err)
    c.finish.ensures.stands (turn_within _ _ c.requires.room c.finish.ensures.turn)

pub returns-in-Err-clause-inside : goal.returns-in-Err-clause-inside
returns-in-Err-clause-inside g c =
    inside_at _ _ _ _ c.requires.sound c.args.k c.index_mut.result.now c.finish.new.self c.requires.range c.index_mut.ensures.value _
    (finish_inside c.index_mut.result.now c.finish.new.self c.args.self.now.journal c.finish.new.book _ _ _ c.args.done.job c.args.done.outcome c.finish.result c.finish.ensures.committed c.finish.ensures.asks c.finish.ensures.not_running c.finish.ensures.err)

pub returns-in-Ok-clause-did : goal.returns-in-Ok-clause-did
returns-in-Ok-clause-did g c =
    finished_did _ c.args.k c.index_mut.result.now c.finish.new.self c.requires.range c.index_mut.ensures.value
    c.args.done.localities c.args.done.job c.args.done.outcome c.args.self.now.journal c.finish.new.book c.requires.own
    (localities_at _ _ _ _ c.requires.sound c.args.k c.index_mut.result.now c.finish.new.self c.requires.range c.index_mut.ensures.value)
    c.in-Ok.finished c.in-Ok.ensures.committed c.in-Ok.ensures.lasts c.in-Ok.ensures.asks c.in-Ok.ensures.not_running c.in-Ok.ensures.running c.in-Ok.ensures.ends

pub returns-in-Err-clause-err : goal.returns-in-Err-clause-err
returns-in-Err-clause-err g c =
    same_at _ c.args.k c.index_mut.result.now c.finish.new.self c.requires.range c.index_mut.ensures.value _ _ c.in-Err.ensures.err.1

pub returns-in-Err-clause-runs : goal.returns-in-Err-clause-runs
returns-in-Err-clause-runs g c = (
  c.in-Err.ensures.runs.0 ∙ localities_at _ _ _ _ c.requires.sound c.args.k c.index_mut.result.now c.finish.new.self c.requires.range c.index_mut.ensures.value,
  (
    c.index_mut.result.now.tables,
    subst (λ k. slice_get (tables_of c.args.self.now.nodes.items) k ≡ Some c.index_mut.result.now.tables) (sym c.requires.own)
        (there_at _ c.args.k c.index_mut.result.now c.index_mut.result.now c.requires.range c.index_mut.ensures.value),
    c.in-Err.ensures.runs.1,
  ),
)
