-- Each clause is a lemma of proofs/Start.antt or proofs/Quiet.antt.
use Rattle.hpx_journal.proofs.Start.{joined_named, joined_asked, joined_dead, stays_dead, legal_freed_dead}
use Rattle.hpx_journal.proofs.Quiet.{legal_freed_once, legal_gone, legal_away, freed_managed}
use Rattle.hpx_journal.proofs.law.life_law.Goals as goal

pub returns-clause-named : goal.returns-clause-named
returns-clause-named c = λ r es later o grammar h managed. joined_named r grammar es later h o managed

pub returns-clause-asked : goal.returns-clause-asked
returns-clause-asked c = λ r es later o grammar h managed. joined_asked r grammar es later h o managed

pub returns-clause-dead : goal.returns-clause-dead
returns-clause-dead c = λ r es later o grammar h managed dead. joined_dead r grammar es later h o managed dead

pub returns-clause-stays_dead : goal.returns-clause-stays_dead
returns-clause-stays_dead c = λ r es later o h dead. stays_dead r es later h o dead

pub returns-clause-freed : goal.returns-clause-freed
returns-clause-freed c = λ r es later k o h. legal_freed_dead r es later k o h

pub returns-clause-freed_once : goal.returns-clause-freed_once
returns-clause-freed_once c = λ r es o h. legal_freed_once r es h o

pub returns-clause-gone : goal.returns-clause-gone
returns-clause-gone c = λ r es o k h i freed. legal_gone r es h o k (freed_managed r es h o freed) i freed

pub returns-clause-off_the_road : goal.returns-clause-off_the_road
returns-clause-off_the_road c = λ r es o h freed. legal_away r es h o (freed_managed r es h o freed) freed
