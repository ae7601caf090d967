use Rattle.hpx_calls.proofs.Lives.{all_lives, all_told, born_is, born_readable}
use Rattle.hpx_calls.proofs.laws.life_law.Goals as goal

pub returns : goal.returns
returns c = record {
  born = λ n kind x h. born_is n kind x h;
  births = λ n kind x h. born_readable n kind x h;
  lives = λ n kind here drawn x made ts h acts. all_lives n kind here drawn x made ts h acts;
  tells = λ n kind here drawn x ts t h acts act. all_told n kind here drawn x ts t h acts act;
}
