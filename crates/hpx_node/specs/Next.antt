-- What follows a message: a commit that gets its last answer goes on, or its action fails.
use Rattle.std.specs.Prelude.{List, Some, [], false, length, true, ℕ, ◌<◌, ◌≡◌, ◌≤◌}
use Rattle.std.specs.List.{remove, slice_get}
use Rattle.hpx_node.specs.Names.{Act, Entry, Event, Outcome, Parcel, State, Tables, Waits}
use Rattle.hpx_node.specs.declared.node.next.Next.{Next}
use Rattle.hpx_node.specs.Changes.{Writes}
use Rattle.hpx_node.specs.Commits.{committed_from, Commits}
use Rattle.hpx_node.specs.Fails.{MustFail, IsFailure, Fails, IsFailingFor, dooms, failed_events, FailsWith}
use Rattle.hpx_node.specs.Resumes.{MayResume, IsReadyFor, completes, full_stock, GoesWith}
use Rattle.hpx_node.specs.declared.node.next.Next.TheVariants as nexts

-- what a message will be followed by
abbrev pub IsNext : (ℕ → ℕ → ℕ → State → Act → Outcome) → Tables → Parcel → Next → Type 0
IsNext act_of t p nexts.Rests = (completes t p ≡ false) × (dooms t p ≡ false)
IsNext act_of t p (nexts.GoesOn y) = IsReadyFor act_of t p y
IsNext act_of t p (nexts.Fails y) = IsFailingFor t p y

-- once it is dealt with, this may follow
abbrev pub MayFollow : Tables → Next → Type 0
MayFollow t nexts.Rests = Unit {0}
MayFollow t (nexts.GoesOn y) =
    (y.i < length t.pending) × ((w : Waits) → slice_get t.pending y.i ≡ Some w → MayResume t w y.j y.prepared)
MayFollow t (nexts.Fails y) =
    MustFail y.i y.j t × ((w : Waits) → slice_get t.pending y.i ≡ Some w → IsFailure w y.plan) × (length y.plan.ups.items ≤ 256)

-- this holds where something follows
abbrev pub IfFollows : Next → Type 0 → Type 0
IfFollows nexts.Rests holds = Unit {0}
IfFollows _ holds = holds

-- it has followed
abbrev pub HasFollowed : Next → Tables → Tables → List Entry → List Entry → Type 0
HasFollowed nexts.Rests t t' entries entries' = (t' ≡ t) × (entries' ≡ entries)
HasFollowed (nexts.GoesOn y) t t' entries entries' =
    (t'.pending ≡ remove t.pending y.i)
    × ((w : Waits) → slice_get t.pending y.i ≡ Some w
    → Writes (committed_from t w.job w.outcome (full_stock t w)) t t' entries entries')
    × ((w : Waits) → slice_get t.pending y.i ≡ Some w
    → Commits w.job w.outcome (full_stock t w) y.j (record t { pending = remove t.pending y.i }) t')
HasFollowed (nexts.Fails y) t t' entries entries' =
    Fails y.i y.j t t' × ((w : Waits) → slice_get t.pending y.i ≡ Some w → Writes (failed_events t w) t t' entries entries')

-- a message that was dealt with at t has left mid: where it brought a commit its last answer, that goes on, or its action fails,
-- and these are written
pub record Continues (p : Parcel) (t mid t' : Tables) (more : List Event) : Type 0 where
  pub rests : completes t p ≡ false → dooms t p ≡ false → (t' ≡ mid) × (more ≡ [])
  pub goes : completes t p ≡ true → GoesWith p t mid t' more
  pub fails : dooms t p ≡ true → FailsWith p t mid t' more
