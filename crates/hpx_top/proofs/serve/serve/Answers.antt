use Rattle.std.specs.Prelude.{Some}
use Rattle.hpx_top.specs.Session.{rules}
use Rattle.hpx_top.proofs.RunLemmas.{cause_of, served_of, status_is}
use Rattle.hpx_top.proofs.serve.serve.Goals as goal

pub returns-clause-served : goal.returns-clause-served
returns-clause-served g c = let s = c.serve_lines-served.ensures in
    λ input h. served_of (rules c.args.world.now) _ c.serve_lines-served.result c.serve_lines-served.new.world input _ _ (s.reads input h) (s.whole input h) (s.read_up input h)
    (s.begun input h) (s.ended input h) (s.short input h) (s.read_on input h)

pub returns-clause-cause : goal.returns-clause-cause
returns-clause-cause g c = let s = c.serve_lines-served.ensures in
    cause_of c.serve_lines-served.result (Some c.serve_lines-served.new.world) _ _ s.read s.write s.fabric s.full s.room s.taken s.read_only s.write_only s.fabric_only s.limit

pub returns-clause-status : goal.returns-clause-status
returns-clause-status g c = λ carries. status_is c.serve_lines-served.result (c.serve_lines-served.ensures.told carries)
