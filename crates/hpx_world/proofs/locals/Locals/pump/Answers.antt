use Rattle.std.proofs.Common.{ℕ, subst, length, [], ◌∷◌, Some, refl, ap, ◌∙◌}
use Rattle.hpx_part.specs.Data.{Out}
use Rattle.hpx_journal.specs.Data.{Parcel}
use Rattle.hpx_steps.specs.Frames.{IsFront}
use Rattle.hpx_steps.specs.Rest.{rules_of}
use Rattle.hpx_tables.specs.Tables.{Tables}
use Rattle.hpx_node.proofs.Turns.{turn_within}
use Rattle.hpx_node.specs.Locality.{tables_of}
use Rattle.hpx_world.specs.Quiet.{SendsNothing}
use Rattle.hpx_world.specs.Turns.{Sends}
use Rattle.hpx_world.proofs.Growth.{SendsOne, sends_of}
use Rattle.hpx_world.proofs.Carrying.{carrying_sent}
use Rattle.hpx_world.proofs.Calls.{done_at, same_at, at_own, there_at, running_at, here_at, stands_at, sound_wrote, within}
use Rattle.hpx_world.proofs.locals.Locals.pump.Goals as goal

pub returns-in-None-clause-did : goal.returns-in-None-clause-did
returns-in-None-clause-did g c = (
  (refl, refl),
  same_at _ c.args.k c.index_mut-node.result.now c.index_mut-node.result.now c.requires.range c.index_mut-node.ensures.value
      c.args.self.now.journal c.args.self.now.journal (record { tables = refl; entries = refl }),
  at_own _ c.args.k c.index_mut-node.result.now c.index_mut-node.result.now c.requires.range c.index_mut-node.ensures.value SendsNothing c.in-None.ensures.none,
)

pub gone-requires-clause-stands : goal.gone-requires-clause-stands
gone-requires-clause-stands g c =
    rw c.reserve.ensures.entries
    (stands_at _ _ _ _ c.requires.sound c.args.k c.index_mut-node.result.now c.index_mut-node.result.now c.requires.range c.index_mut-node.ensures.value)

pub returns-clause-sound : goal.returns-clause-sound
returns-clause-sound g c =
    sound_wrote _ _ _ _ c.requires.sound c.args.k c.index_mut-node.result.now c.gone.new.self c.requires.range c.index_mut-node.ensures.value (Out c.in-Some.to c.in-Ok.bytes ∷ []) _
    (rw c.reserve.ensures.entries at c.gone.ensures.writes) c.gone.ensures.stands (turn_within _ _ c.requires.room (rw c.reserve.ensures.entries at c.gone.ensures.turn))

pub returns-clause-carrying : goal.returns-clause-carrying
returns-clause-carrying g c = λ carrying.
    let r = rules_of g.A.Acts.act_of (length (tables_of c.args.self.now.nodes.items)) c.args.self.now.profile in
    carrying_sent r _ _ _ _ _ _ _ c.args.k c.in-Some.to c.in-Ok.bytes
    (rw c.as_slice.ensures at c.in-Ok-send.ensures.flight) (rw c.as_slice.ensures at c.in-Ok-send.ensures.trace)
    (subst (λ k. SendsOne r k (c.in-Some.to, c.in-Ok.bytes) c.args.self.now.journal.entries c.gone.new.book.entries)
    (here_at _ _ _ _ c.requires.sound c.args.k c.index_mut-node.result.now c.gone.new.self c.requires.range c.index_mut-node.ensures.value)
    (sends_of r c.index_mut-node.result.now.tables c.gone.new.self.tables _ _ c.in-Some.to c.in-Ok.bytes
    (within _ _ _ _ c.requires.sound c.args.k c.index_mut-node.result.now c.gone.new.self c.requires.range c.index_mut-node.ensures.value)
    (rw c.reserve.ensures.entries at c.gone.ensures.writes)))
    carrying

pub returns-clause-did : goal.returns-clause-did
returns-clause-did g c =
    let next = c.in-Some.ensures.some in (
      (c.in-Some.to, c.in-Ok.bytes),
      (rw c.as_slice.ensures at c.in-Ok-send.ensures.flight, rw c.as_slice.ensures at c.in-Ok-send.ensures.trace),
      done_at _ c.args.k c.index_mut-node.result.now c.gone.new.self c.requires.range c.index_mut-node.ensures.value
          (Sends (c.in-Some.to, c.in-Ok.bytes) c.args.self.now.journal.entries c.gone.new.book.entries) (record {
            first = next.first;
            rest = next.rest;
            is = next.is;
            place = next.place;
            spelled = (rw c.in-Ok.is at c.encode.ensures.read) ∙ ap Some next.carried;
            writes = rw c.reserve.ensures.entries at c.gone.ensures.writes;
            leaves = c.gone.ensures.rest next.first next.rest next.is;
          }),
    )

pub returns-clause-jobs : goal.returns-clause-jobs
returns-clause-jobs g c =
    let next = c.in-Some.ensures.some in
    running_at _ c.args.k c.index_mut-node.result.now c.gone.new.self c.requires.range c.index_mut-node.ensures.value
    (ap (λ (x : Tables). x.running) (c.gone.ensures.rest next.first next.rest next.is))

-- ---- where it is refused, a message waits

waiting : (t : Tables) (to : ℕ) (parcel : Parcel) → IsFront t to parcel → SendsNothing t → ⊥
waiting t to parcel front none = let is = front.is in cc

pub returns-in-Err-clause-waits : goal.returns-in-Err-clause-waits
returns-in-Err-clause-waits g c = (
  c.index_mut-node.result.now.tables,
  there_at _ c.args.k c.index_mut-node.result.now c.index_mut-node.result.now c.requires.range c.index_mut-node.ensures.value,
  waiting c.index_mut-node.result.now.tables _ _ c.in-Some.ensures.some,
)

pub returns-then-is_err-clause-waits : goal.returns-then-is_err-clause-waits
returns-then-is_err-clause-waits g c = (
  c.index_mut-node.result.now.tables,
  there_at _ c.args.k c.index_mut-node.result.now c.index_mut-node.result.now c.requires.range c.index_mut-node.ensures.value,
  waiting c.index_mut-node.result.now.tables _ _ c.in-Some.ensures.some,
)

pub returns-in-Err-Failed-clause-waits : goal.returns-in-Err-Failed-clause-waits
returns-in-Err-Failed-clause-waits g c = (
  c.index_mut-node.result.now.tables,
  there_at _ c.args.k c.index_mut-node.result.now c.index_mut-node.result.now c.requires.range c.index_mut-node.ensures.value,
  waiting c.index_mut-node.result.now.tables _ _ c.in-Some.ensures.some,
)

pub returns-in-Err-OutOfMemory-clause-waits : goal.returns-in-Err-OutOfMemory-clause-waits
returns-in-Err-OutOfMemory-clause-waits g c = (
  c.index_mut-node.result.now.tables,
  there_at _ c.args.k c.index_mut-node.result.now c.index_mut-node.result.now c.requires.range c.index_mut-node.ensures.value,
  waiting c.index_mut-node.result.now.tables _ _ c.in-Some.ensures.some,
)
