use Rattle.hpx_ports.proofs.WordsLemmas.{one_word_more}
use Rattle.hpx_ports.proofs.words.all_words.Goals as goal

pub loop-place-preserved : goal.loop-place-preserved
loop-place-preserved g c =
    let at = rw c.in-Some.is at c.in_ok-word.ensures in
    rw c.in_ok-push-in-Some.ensures.ok (one_word_more _ _ _ _ c.loop-place.invariant at)
