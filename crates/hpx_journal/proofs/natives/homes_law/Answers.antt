-- Each clause is a lemma of proofs/Credited.antt.
use Rattle.hpx_journal.specs.Whole.{replayed}
use Rattle.hpx_journal.proofs.Credited.{credit_home, credit_alive, names_credited, named_credited, named_near, named_alive, road_covered, place_covered}
use Rattle.hpx_journal.proofs.natives.homes_law.Goals as goal

pub returns-clause-homes : goal.returns-clause-homes
returns-clause-homes c = λ r es o h some. credit_home r es h o some

pub returns-clause-counts : goal.returns-clause-counts
returns-clause-counts c = λ r es o h some. credit_alive r es h o some

pub returns-clause-credited : goal.returns-clause-credited
returns-clause-credited c = λ r es o grammar h managed some. names_credited r grammar es h o managed some

pub returns-clause-named : goal.returns-clause-named
returns-clause-named c = λ r es grammar h. named_credited r grammar es h

pub returns-clause-near : goal.returns-clause-near
returns-clause-near c = λ r es grammar h. named_near r grammar es h

pub returns-clause-alive : goal.returns-clause-alive
returns-clause-alive c = λ r es grammar h. named_alive r grammar es h

pub returns-clause-on_road : goal.returns-clause-on_road
returns-clause-on_road c = λ r es f o on. road_covered r (replayed r es) f o on

pub returns-clause-here : goal.returns-clause-here
returns-clause-here c = λ r es k o h. place_covered r (replayed r es) k o h
