use Rattle.std.proofs.Common.{rules, arith, ◌≡◌, ◌∙◌, ◌-◌, length}
use Rattle.std.proofs.lemmas.Slice.{overwrites}
use Rattle.std.proofs.lemmas.List.{places}
use borrow.Rule.Slice.PartMut.{put_mid}
use Rattle.hpx_tcp.proofs.Parts.{reads_on}
use Rattle.hpx_tcp.proofs.body.fill.Goals as goal

pub loop-done-preserved : goal.loop-done-preserved
loop-done-preserved g c =
    let done = c.loop-done.done in
    let all = c.loop-done.buf in
    let got = c.read.new.buf in
    let size : length (put_mid done (length all - done) all got) ≡ length all = search (rules, overwrites) in
    let part : length got ≡ length all - done = search (rules, places) in
    record {
      within = omega (arith, size, part, c.loop-done.invariant.within, c.in-Ok.ensures.ok.fits);
      size = size ∙ c.loop-done.invariant.size;
      read = reads_on done _ c.in-Ok.count all got _ _ _ c.loop-done.invariant.within c.loop-done.invariant.read c.in-Ok.ensures.ok;
    }
