use Rattle.std.proofs.Common.{arith, ◌≡◌, ◌≤◌, ◌-◌, length, ap, ◌∙◌}
use Rattle.std.proofs.lemmas.List.{take_rest, length-drop}
use Rattle.hpx_top.proofs.ReaderLemmas.{reads_onto, written_back}
use Rattle.hpx_top.proofs.reader.pending.read_onto.Goals as goal

pub returns-in-Ok-clause-ok : goal.returns-in-Ok-clause-ok
returns-in-Ok-clause-ok g c =
    let fits : c.in-Ok.count ≤ length c.read.new.buf = c.in-Ok.ensures.ok.fits in
    let rest : length c.read.new.buf ≡ length c.deref_mut.result.now - c.len-len.result
    = c.read.auto.buf ∙ ap length (take_rest c.deref_mut.result.now c.len-len.result) ∙ length-drop c.len-len.result c.deref_mut.result.now in
    let room : length c.read.new.buf ≡ c.args.most = omega (arith, c.deref_mut.ensures.len, c.in_ok-resize.ensures.len) in
    let len : c.len-len.result ≡ length c.args.bytes.now.items = omega arith in
    reads_onto _ _ _ _ _ _ c.in-Ok.ensures.ok (omega arith)
    (c.truncate.ensures.items
    ∙ written_back c.args.bytes.now.items _ _ _ _ _ c.len-len.result c.in-Ok.count _ _ (c.deref_mut.ensures.value ∙ c.in_ok-resize.ensures.items) len fits (omega (arith, c.in_ok-resize.ensures.len)))
