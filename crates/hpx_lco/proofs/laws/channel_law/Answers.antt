use Rattle.hpx_lco.proofs.Channels.{put_tells, get_tells, close_tells, channel_tells}
use Rattle.hpx_lco.proofs.laws.channel_law.Goals as goal

pub returns : goal.returns
returns g c = record { put = λ x h v w e. put_tells x h v w e; get = λ x h w. get_tells x h w; close = λ x h w. close_tells x h w; every = λ x h r w high. channel_tells x h r w high }
