use Rattle.hpx_lco.proofs.Flows.{put_tells, set_tells, get_tells, starts_once, dataflow_tells}
use Rattle.hpx_lco.proofs.laws.dataflow_law.Goals as goal

pub returns : goal.returns
returns g c = record {
  put = λ x code n h z v w. put_tells x code n h z v w;
  set = λ x code n h z v w. set_tells x code n h z v w;
  get = λ x code n h w. get_tells x code n h w;
  every = λ x code n h r w high. dataflow_tells x code n h r w high;
  once = λ x code n h. starts_once x code n h;
}
