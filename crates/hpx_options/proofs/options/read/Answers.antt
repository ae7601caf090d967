use Rattle.std.proofs.Common.{◌≡◌, Some, sym, ap, ◌∙◌, arith}
use Rattle.hpx_options.specs.Words.{after_word}
use Rattle.hpx_options.proofs.Growth.{word_grows}
use Rattle.hpx_options.proofs.WordsLeft.{read_more}
use Rattle.hpx_options.proofs.options.read.Goals as goal

pub loop-word-preserved : goal.loop-word-preserved
loop-word-preserved c =
    let inv = c.loop-word.invariant in
    let fits : after_word c.loop-word.line c.word-item.result ≡ Some c.in-Some.next = ap (after_word c.loop-word.line) (sym c.as_slice.ensures) ∙ sym c.in-Some.ensures in
    let on = word_grows c.loop-word.line c.word-item.result c.in-Some.next inv.good fits in
    record {
      good = on.good;
      grown = omega (arith, on.grown, inv.grown);
      place = omega (arith, inv.place);
      rest = sym (read_more _ c.loop-word.line c.in-Some.next _ c.loop-word.word-index c.word-item.result c.loop-word-test.true c.word-item.is fits) ∙ inv.rest;
    }
