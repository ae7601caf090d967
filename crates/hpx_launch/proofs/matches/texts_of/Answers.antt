use Rattle.std.proofs.Common.{◌∙◌, subst}
use Rattle.std.specs.Str.{IsUtf8}
use Rattle.hpx_launch.proofs.Texts.{not_text, text_more, texts_more}
use Rattle.hpx_launch.proofs.matches.texts_of.Goals as goal

pub returns-in-Err-clause-bad : goal.returns-in-Err-clause-bad
returns-in-Err-clause-bad c = λ failed.
    not_text c.args.words.now c.loop-word.word-index c.word-item.result c.as_slice.result.now c.loop-word-test.true c.word-item.is c.as_slice.ensures
    c.in-Err.ensures.cases.0

pub loop-word-preserved : goal.loop-word-preserved
loop-word-preserved c =
    let words = c.args.words.now in
    let text = c.in-Ok.ensures.cases in
    record {
      texts = texts_more (λ text. text.now) c.loop-word.texts.items c.push.new.self.items c.in-Ok.text words c.loop-word.word-index c.word-item.result
          c.loop-word-test.true c.word-item.is c.loop-word.invariant.texts c.in_ok-push-in-Ok.ensures.items (text.0 ∙ c.as_slice.ensures);
      text = text_more words c.loop-word.word-index c.word-item.result c.loop-word-test.true c.word-item.is c.loop-word.invariant.text
          (subst IsUtf8 c.as_slice.ensures text.1);
    }
