use Rattle.hpx_calls.proofs.OverNatural.{content_of_seen}
use Rattle.hpx_calls.proofs.OverAlike.{called_is_seen, request_is_seen}
use Rattle.hpx_calls.proofs.laws.map_law.Goals as goal

pub returns : goal.returns
returns g c = record {
  asks = λ see code waits vs. request_is_seen see code waits vs;
  shows = λ see n kind waiting vs. content_of_seen see n kind waiting vs;
  does = λ see here kind waiting waits x r. called_is_seen see here kind waiting waits x r;
}
