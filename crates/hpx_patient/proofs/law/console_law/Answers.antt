use Rattle.hpx_patient.proofs.Cuts.{console_plain, console_front}
use Rattle.hpx_patient.proofs.law.console_law.Goals as goal

pub returns-clause-plain : goal.returns-clause-plain
returns-clause-plain c = λ r es lines blocks last grammar laws blind legal fine stay h.
    console_plain r grammar laws blind es lines blocks last legal fine stay h

pub returns-clause-broken_off : goal.returns-clause-broken_off
returns-clause-broken_off c = λ r es lines blocks line last grammar laws blind legal fine stay h begins.
    console_front r grammar laws blind es lines blocks line last legal fine stay h begins
