-- What the program did, by the words that its environment tells.
use Rattle.std.specs.Prelude.{ℕ, Option, Some, Ok, List, ◌≡◌}
use Rattle.hpx_world.specs.Places.{Places}
use Rattle.hpx_process.specs.Members.{HasJoined, Left}
use Rattle.hpx_process.specs.Memberships.{IsMembership, membership_in}
use Rattle.hpx_process.specs.declared.membership.Membership.{Membership}
use Rattle.hpx_top.specs.declared.task.Request.TheVariants.{Run}
use Rattle.hpx_top.specs.declared.task.Setup.{Setup}
use Rattle.hpx_top.specs.Runs.{Ports, HasRun}
use Rattle.hpx_top.specs.Usage.{request_in}

-- a setup was run: the one that the words ask for, where they are told
pub record HasRunAsAsked (words : Option (List (List ℕ))) (status : ℕ) (cuts : List ℕ) (world : Places) (x z : Ports) : Type 0 where
  pub setup : Setup
  pub asked : (told : List (List ℕ)) → words ≡ Some told → request_in told ≡ Ok (Run setup)
  pub did : HasRun setup status cuts (Some world) x z

-- a process was one locality of several: the one that the words ask for, where they are told, and in any case one that there can be
pub record HasJoinedAsAsked (words : Option (List (List ℕ))) (status : ℕ) (member : Option Left) (x z : Ports) : Type 0 where
  pub membership : Membership
  pub asked : (told : List (List ℕ)) → words ≡ Some told → membership_in told ≡ Some membership
  pub fits : IsMembership membership
  pub did : HasJoined membership status member x z
