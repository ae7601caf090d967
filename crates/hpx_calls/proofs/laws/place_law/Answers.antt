use Rattle.std.specs.Prelude.{pos, ◌≡◌, ◌≤◌, List, Option, Some, None, if◌then◌else◌}
use Rattle.std.proofs.Common.{ap}
use Rattle.std.proofs.lemmas.Bool.{le-leb}
use Rattle.hpx_calls.specs.Contents.{Content}
use Rattle.hpx_calls.specs.Requests.{Where}
use Rattle.hpx_calls.specs.Effects.{Answers}
use Rattle.hpx_calls.specs.Tables.{leaves, wrong}
use Rattle.hpx_calls.specs.Histories.{Call, Setting, own, run, says, tells}
use Rattle.hpx_calls.proofs.Steps.{call, same_where}
use Rattle.hpx_calls.proofs.laws.place_law.Goals as goal

told : {V W : Type 0} (g : Setting V) (x : Content V) (h : List (Call V W)) (w : Option W) → 16 ≤ g.kind → says g x h (call Where w) ≡ own w (g.sort.int (pos g.here))
told g x h None high =
    ap (λ b. tells g (if b then leaves (run g x h).content (Answers (g.sort.int (pos g.here))) else wrong g.sort (run g x h).content).effect (run g x h).waiting None) (le-leb 16 g.kind high)
told g x h (Some w) high =
    ap (λ b. tells g (if b then leaves (run g x h).content (Answers (g.sort.int (pos g.here))) else wrong g.sort (run g x h).content).effect (run g x h).waiting (Some w)) (le-leb 16 g.kind high)

pub returns : goal.returns
returns g c = record { tells = λ x y h w high. told x y h w high; stays = λ x y h w. same_where x (run x y h).content (run x y h).waiting w }
