use Rattle.hpx_names.proofs.Maps.{register_tells, resolve_tells, unregister_tells, list_tells, keys_same, keys_in_order, table_tells}
use Rattle.hpx_names.proofs.laws.table_law.Goals as goal

pub returns : goal.returns
returns g c = record {
  register = λ x h key to w. register_tells x h key to w;
  resolve = λ x h key w. resolve_tells x h key w;
  unregister = λ x h key w. unregister_tells x h key w;
  list = λ x h w. list_tells x h w;
  every = λ x h r w low. table_tells x h r w low;
  same = λ h key. keys_same h key;
  order = λ h. keys_in_order h;
}
