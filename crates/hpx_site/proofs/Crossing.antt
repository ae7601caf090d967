-- What a world has may cross threads.
use denote.RattleType.{RattleType}
use denote.Param.Send.{IsSend, sendable, view_send}
use denote.Param.SendFields.{as_row_send, declared_send}
use denote.Struct.Field.{row_field, mut_ref_field, shr_ref_field}
use denote.Hole.{as_row}
use Rattle.hpx_site.specs.contracts.site.Lent as Lent
use Rattle.hpx_site.specs.contracts.kept.Kept as Kept
use Rattle.hpx_site.specs.contracts.kept.Kept.TheInside as KeptInside
use Rattle.hpx_site.specs.contracts.workers.Shared as Shared
use Rattle.hpx_ports.specs.declared.fabric.Fabric as Fabric
use Rattle.hpx_site.specs.declared.kept.Past as Past
use denote.Ref.{NamedLft, ShrRef}
use denote.Param.Send.{mut_send, shr_sync, IsSync}
use denote.Param.SendFields.{declared_sync, as_row_sync}
use Rattle.std.specs.contracts.option.Option as Option
use Rattle.std.specs.contracts.marker.PhantomData as PhantomData
use Rattle.std.specs.contracts.sync.Mutex as Mutex
use Rattle.std.proofs.Crossing.{crosses, Vec-send}
use Rattle.hpx_value.specs.declared.acts.Acts.{Ghosts}
use Rattle.hpx_value.specs.contracts.acts.Done as Done
use Rattle.hpx_value.specs.contracts.acts.Job as Job
use Rattle.hpx_agas.specs.contracts.records.Records as Records
use Rattle.hpx_journal.specs.contracts.journal.Journal as Journal
use Rattle.hpx_node.specs.contracts.moves.Moves as Moves
use Rattle.hpx_node.specs.contracts.node.Node as Node
use Rattle.hpx_node.specs.contracts.node.Node.TheInside as NodeInside
use Rattle.hpx_tables.specs.contracts.kept.Letter as Letter
use Rattle.hpx_tables.specs.contracts.pending.Pending as Pending
use Rattle.hpx_world.specs.contracts.turns.WorldFault as WorldFault
use Rattle.hpx_world.specs.contracts.world.World as World
use Rattle.hpx_world.specs.contracts.world.World.TheInside as WorldInside
use Rattle.hpx_world.specs.contracts.locals.Locals as Locals
use Rattle.std.specs.contracts.alloc.Global as Heap
use Rattle.std.specs.contracts.impls.GlobalAllocator.TheImpl.{ghosts}
use Rattle.std.specs.contracts.vec.Vec as Vec

-- a message
letter_send : IsSend Letter.the_row
letter_send = search (sendable, crosses) depth 400 fits 5000 parts 0

-- a job that waits for credit
pending_send : (A : RattleType) (g : Ghosts A.Denot) → IsSend A → IsSend (Pending.the_row A g)
pending_send A g s = search (sendable, crosses) depth 400 fits 5000 parts 0

-- the moves of a locality
moves_send : IsSend Moves.the_row
moves_send = search (letter_send, sendable, crosses) depth 400 fits 5000 parts 0

-- a locality, where its records may
node_send : (A : RattleType) (g : Ghosts A.Denot) → IsSend A → IsSend (Records.the_row Letter.the_row) → IsSend (Node.the_row A g)
node_send A g s records =
    let acts : IsSend (as_row (row_field A)) = search (sendable, crosses) in
    view_send _ _ _ _ _ (declared_send (NodeInside.the_type A g) (acts, (search (sendable, crosses) depth 400 fits 5000 parts 0, (search (sendable, crosses) depth 400 fits 5000 parts 0, (search (sendable, crosses) depth 400 fits 5000 parts 0, (search (sendable, crosses) depth 400 fits 5000 parts 0, (search (sendable, crosses) depth 400 fits 5000 parts 0, (search (sendable, crosses) depth 400 fits 5000 parts 0, (search (pending_send, sendable, crosses) depth 400 fits 5000 parts 0, (search (sendable, crosses) depth 400 fits 5000 parts 0, (search (letter_send, sendable, crosses) depth 400 fits 5000 parts 0, (search (letter_send, sendable, crosses) depth 400 fits 5000 parts 0, (search (moves_send, sendable, crosses) depth 400 fits 5000 parts 0, (search (sendable, crosses) depth 400 fits 5000 parts 0, (records, (search (sendable, crosses) depth 400 fits 5000 parts 0, (search (sendable, crosses) depth 400 fits 5000 parts 0, (search (sendable, crosses) depth 400 fits 5000 parts 0, tt))))))))))))))))))

-- the journal
journal_send : IsSend Journal.the_row
journal_send = search (sendable, crosses) depth 400 fits 5000 parts 0

-- a world, where the records of its localities may
pub world_send : (A : RattleType) (g : Ghosts A.Denot) → IsSend A → IsSend (Records.the_row Letter.the_row) → IsSend (World.the_row A g)
world_send A g s records =
    let acts : IsSend (as_row (row_field A)) = search (sendable, crosses) in
    let nodes : IsSend (as_row (Vec.the_field (Node.the_row A g) Heap.the_row ghosts)) = as_row_send (Vec.the_field (Node.the_row A g) Heap.the_row ghosts) (Vec-send (Node.the_row A g) (node_send A g s records)) in
    let locals : IsSend (Locals.the_row A g) =
    declared_send (Locals.the_type A g) (search (sendable, crosses) depth 400 fits 5000 parts 0, (nodes, (journal_send, (search (sendable, crosses) depth 400 fits 5000 parts 0, tt)))) in
    view_send _ _ _ _ _ (declared_send (WorldInside.the_type A g) (acts, (locals, tt)))

-- a job
job_send : IsSend Job.the_row
job_send = search (sendable, crosses) depth 400 fits 5000 parts 0

-- a job that is done
done_send : (A : RattleType) (g : Ghosts A.Denot) → IsSend A → IsSend (Done.the_row A g)
done_send A g s = search (sendable, crosses) depth 400 fits 5000 parts 0

-- why it stands still
pub fault_send : (A : RattleType) (g : Ghosts A.Denot) → IsSend A → IsSend (WorldFault.the_row A g)
fault_send A g s = search (job_send, done_send, sendable, crosses) depth 400 fits 5000 parts 0

-- what is lent to workers
lent_send : (κ μ : NamedLft) (A F : RattleType) (g : Ghosts A.Denot) → IsSend A → IsSend F → IsSend (Records.the_row Letter.the_row) → IsSend (Lent.the_row κ μ A F g)
lent_send κ μ A F g a f records =
    let world : IsSend (as_row (mut_ref_field κ (World.the_row A g) tt)) =
    as_row_send (mut_ref_field κ (World.the_row A g) tt) (mut_send κ.mir κ.lft (World.the_row A g) (world_send A g a records)) in
    declared_send (Lent.the_type κ μ A F g) (world, (search (sendable, crosses), tt))

option_send : (T : RattleType) → IsSend T → IsSend (as_row (Option.the_field T))
option_send T s = search (sendable, crosses) depth 400 fits 5000 parts 0

mutex_sync : (T : RattleType) → IsSend T → IsSync (Mutex.the_row T)
mutex_sync T s = search (sendable, crosses) depth 400 fits 5000 parts 0

phantom_send : (T : RattleType) → IsSend T → IsSend (as_row (PhantomData.the_field T))
phantom_send T s = search (sendable, crosses) depth 400 fits 5000 parts 0

acts_sync : (A : RattleType) → IsSync A → IsSync (as_row (row_field A))
acts_sync A y = search (sendable, crosses)

-- what lies under the lock
kept_send : (β κ μ : NamedLft) (A F E : RattleType) (g : Ghosts A.Denot) (h : Fabric.Ghosts F.Denot) (e : Past.Ghosts E.Denot) → IsSend A → IsSend F → IsSend E → IsSend (Records.the_row Letter.the_row)
    → IsSend (Kept.the_row β κ μ A F E g h e)
kept_send β κ μ A F E g h e a f s records =
    let lent : IsSend (as_row (mut_ref_field β (Lent.the_row κ μ A F g) tt)) =
    as_row_send (mut_ref_field β (Lent.the_row κ μ A F g) tt) (mut_send β.mir β.lft (Lent.the_row κ μ A F g) (lent_send κ μ A F g a f records)) in
    let stop : IsSend (as_row (Option.the_field (WorldFault.the_row A g))) = option_send (WorldFault.the_row A g) (fault_send A g a) in
    let of : IsSend (as_row (PhantomData.the_field E)) = phantom_send E s in
    view_send _ _ _ _ _ (declared_send (KeptInside.the_type β κ μ A F E g h e) (lent, (stop, (of, tt))))

gate_sync : (σ : NamedLft) (G : RattleType) → IsSync G → IsSync (as_row (row_field (ShrRef σ.mir σ.lft G)))
gate_sync σ G v = search (sendable, crosses)

-- what the workers share
pub shared_sync : (σ β κ μ : NamedLft) (A F E G : RattleType) (g : Ghosts A.Denot) (h : Fabric.Ghosts F.Denot) (e : Past.Ghosts E.Denot) → IsSend A → IsSync A → IsSend F → IsSend E → IsSync G → IsSend (Records.the_row Letter.the_row)
    → IsSync (Shared.the_row σ β κ μ A F E G g h e)
shared_sync σ β κ μ A F E G g h e a y f s v records =
    let kept = kept_send β κ μ A F E g h e a f s records in
    let lock : IsSync (as_row (shr_ref_field σ (Mutex.the_row (Kept.the_row β κ μ A F E g h e)) tt)) =
    as_row_sync (shr_ref_field σ (Mutex.the_row (Kept.the_row β κ μ A F E g h e)) tt)
    (shr_sync σ.mir σ.lft (Mutex.the_row (Kept.the_row β κ μ A F E g h e)) (mutex_sync (Kept.the_row β κ μ A F E g h e) kept)) in
    declared_sync (Shared.the_type σ β κ μ A F E G g h e) (lock, (acts_sync A y, (gate_sync σ G v, (search (sendable, crosses) depth 400 fits 5000 parts 0, (search (sendable, crosses) depth 400 fits 5000 parts 0, tt)))))
