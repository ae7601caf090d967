use Rattle.hpx_patient.proofs.Patient.{ready_aside, patient_plain, patient_front}
use Rattle.hpx_patient.proofs.law.patient_law.Goals as goal

pub returns-clause-ready : goal.returns-clause-ready
returns-clause-ready c = λ r es p out grammar laws legal stay shows ready. ready_aside r grammar laws es p out legal stay shows ready

pub returns-clause-plain : goal.returns-clause-plain
returns-clause-plain c = λ r before lines blocks grammar laws blind legal unfed fine stay h.
    patient_plain r grammar laws blind before lines blocks legal unfed fine stay h

pub returns-clause-broken_off : goal.returns-clause-broken_off
returns-clause-broken_off c = λ r before lines blocks line es grammar laws blind legal unfed h begins all fine stay.
    patient_front r grammar laws blind before lines blocks line es legal unfed h begins all fine stay
