use Rattle.hpx_node.proofs.Passive.{runs_none, spells_none, starts_none, tends_none}
use Rattle.hpx_node.proofs.law.sleep_law.Goals as goal

pub returns-clause-starts : goal.returns-clause-starts
returns-clause-starts c = starts_none

pub returns-clause-finishes : goal.returns-clause-finishes
returns-clause-finishes c = runs_none

pub returns-clause-tends : goal.returns-clause-tends
returns-clause-tends c = tends_none

pub returns-clause-sends : goal.returns-clause-sends
returns-clause-sends c = spells_none
