use Rattle.hpx_patient.proofs.Awaited.{legal_claims, legal_unclaimed, legal_pending}
use Rattle.hpx_patient.proofs.law.answers_law.Goals as goal

pub returns-clause-claims : goal.returns-clause-claims
returns-clause-claims c = λ r es grammar laws legal. legal_claims r grammar laws es legal

pub returns-clause-none : goal.returns-clause-none
returns-clause-none c = λ r es grammar laws legal none. legal_unclaimed r grammar laws es legal none

pub returns-clause-pending : goal.returns-clause-pending
returns-clause-pending c = λ r es p out grammar laws legal shows none. legal_pending r grammar laws es p out legal shows none
