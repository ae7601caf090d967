use Rattle.std.proofs.Common.{ℕ, List, [], Option, Some, None, IfSome, ◌≡◌, refl, subst, inr}
use Rattle.std.specs.Prelude.{unwrap_or}
use Rattle.hpx_ports.specs.Counted.{Writings}
use Rattle.hpx_launch.specs.Launches.{Says}
use Rattle.hpx_launch.specs.declared.fault.LaunchFault.TheVariants.{OutOfMemory}
use Rattle.hpx_launch.proofs.Children.{begun_none}
use Rattle.hpx_launch.proofs.program.program.Goals as goal

same_told : (told : Option (List (List ℕ))) → IfSome told (λ given. unwrap_or told [] ≡ given)
same_told None = tt
same_told (Some words) = refl

says_as : (line line' : List ℕ) (x z : Writings) → line ≡ line' → Says line x z → Says line' x z
says_as line line' x z same says = subst (λ l. Says l x z) same says

pub returns-in-Err : goal.returns-in-Err
returns-in-Err g c = record {
  words = unwrap_or (g.W.Words.words c.args.given.now) [];
  same = same_told (g.W.Words.words c.args.given.now);
  ends = inr (OutOfMemory, c.status.ensures, refl, says_as _ _ _ _ c.line.ensures c.say.ensures);
  begun = begun_none _ _;
}
