use Rattle.hpx_calls.proofs.Lives.{is_called, state_shown, object_shown}
use Rattle.hpx_calls.proofs.laws.called_law.Goals as goal

pub returns : goal.returns
returns c = record {
  states = λ n kind s h. state_shown n kind s h;
  shown = λ n kind s h. object_shown n kind s;
  called = λ n kind here drawn o a made h act. is_called n kind here drawn o a made h act;
}
