use Rattle.hpx_journal.proofs.Grow.{part_append, part_at, part_away, keeps_append, join_grows, join_front}
use Rattle.hpx_journal.proofs.Start.{first}
use Rattle.hpx_journal.proofs.law.growth_law.Goals as goal

pub returns-clause-part : goal.returns-clause-part
returns-clause-part c = λ k es later. part_append k es later

pub returns-clause-own : goal.returns-clause-own
returns-clause-own c = λ k es h. part_at k es h

pub returns-clause-other : goal.returns-clause-other
returns-clause-other c = λ j k es h d. part_away j k es h d

pub returns-clause-keeps : goal.returns-clause-keeps
returns-clause-keeps c = λ r s es later h i. keeps_append r s es later h i

pub returns-clause-join : goal.returns-clause-join
returns-clause-join c = λ r es later k h here kept carried. join_grows r (first r) es later k h here kept carried

pub returns-clause-front : goal.returns-clause-front
returns-clause-front c = λ r es later h. join_front r (first r) es later h
