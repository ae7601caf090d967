use Rattle.app_compute.proofs.Alone.{alone_judged}
use Rattle.app_compute.proofs.FibText.{front_text, whole_text}
use Rattle.app_compute.proofs.fib_law.fib_law.Goals as goal

pub returns-clause-whole : goal.returns-clause-whole
returns-clause-whole c = λ r n t es judged question calm block. whole_text r judged n t question es calm block

pub returns-clause-broken_off : goal.returns-clause-broken_off
returns-clause-broken_off c = λ r n t es judged question calm begins legal. front_text r judged n t question es calm begins legal

pub returns-clause-alone : goal.returns-clause-alone
returns-clause-alone c = λ n log limit parcel_of some grammar. alone_judged n log limit parcel_of some grammar
