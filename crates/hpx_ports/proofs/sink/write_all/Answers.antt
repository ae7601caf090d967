use Rattle.std.proofs.Common.{arith}
use Rattle.hpx_ports.proofs.BytesLemmas.{written_on, written_within}
use Rattle.hpx_ports.proofs.sink.write_all.Goals as goal

pub loop-at-preserved : goal.loop-at-preserved
loop-at-preserved g c =
    let ok = c.in_ok-at.ensures.ok in
    let ok_stands = c.in_ok-at.ensures.stands in
    record {
      within = written_within _ _ c.args.bytes.now _ _ c.loop-at.invariant.within ok;
      written = written_on _ _ c.args.bytes.now _ _ _ c.loop-at.invariant.written ok;
      stands = omega (arith, ok_stands, c.loop-at.invariant.stands);
    }
