use Rattle.hpx_lco.proofs.Promises.{put_tells, set_tells, get_tells, promise_tells}
use Rattle.hpx_lco.proofs.laws.promise_law.Goals as goal

pub returns : goal.returns
returns g c = record { put = λ x h v w e. put_tells x h v w e; set = λ x h slot v w e. set_tells x h slot v w e; get = λ x h w. get_tells x h w; every = λ x h r w high. promise_tells x h r w high }
