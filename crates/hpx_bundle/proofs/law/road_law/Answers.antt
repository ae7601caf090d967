use Rattle.hpx_bundle.proofs.Ways.{opened_bundle, opened_alone, opened_last}
use Rattle.hpx_bundle.proofs.law.road_law.Goals as goal

pub returns-clause-bundle : goal.returns-clause-bundle
returns-clause-bundle c = opened_bundle

pub returns-clause-alone : goal.returns-clause-alone
returns-clause-alone c = opened_alone

pub returns-clause-last : goal.returns-clause-last
returns-clause-last c = opened_last
