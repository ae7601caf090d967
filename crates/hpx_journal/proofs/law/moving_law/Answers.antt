use Rattle.hpx_journal.proofs.Quiet.{legal_road_sum}
use Rattle.hpx_journal.proofs.Places.{standing_run}
use Rattle.hpx_journal.proofs.law.moving_law.Goals as goal

pub returns-clause-road : goal.returns-clause-road
returns-clause-road c = λ g r es legal. legal_road_sum r es legal g

pub returns-clause-stands : goal.returns-clause-stands
returns-clause-stands c = λ r s es o legal. standing_run r s es legal o
