-- Each clause is a lemma of proofs/Single.antt.
use Rattle.hpx_journal.proofs.Single.{keeps_legal, keeps_backed, act_single, act_drawn, object_single, object_drawn, local_stands, local_dead}
use Rattle.hpx_journal.proofs.law.single_law.Goals as goal

pub returns-clause-legal : goal.returns-clause-legal
returns-clause-legal c = λ r s es keeps clean. keeps_legal r s es keeps clean

pub returns-clause-backed : goal.returns-clause-backed
returns-clause-backed c = λ r k es keeps clean. keeps_backed r r.localities k es keeps clean

pub returns-clause-act : goal.returns-clause-act
returns-clause-act c = λ r k es a legal clean. act_single r k es legal clean a

pub returns-clause-drawn_act : goal.returns-clause-drawn_act
returns-clause-drawn_act c = λ r k es a legal clean home late. act_drawn r k es legal clean a home late

pub returns-clause-object : goal.returns-clause-object
returns-clause-object c = λ r k es o legal clean managed. object_single r k es legal clean o managed

pub returns-clause-drawn_object : goal.returns-clause-drawn_object
returns-clause-drawn_object c = λ r k es o legal clean managed home late. object_drawn r k es legal clean o managed home late

pub returns-clause-stands : goal.returns-clause-stands
returns-clause-stands c = λ r k es legal clean. local_stands r k es legal clean

pub returns-clause-dead : goal.returns-clause-dead
returns-clause-dead c = λ r k es o legal clean dead. local_dead r k es legal clean o dead
