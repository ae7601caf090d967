use Rattle.std.proofs.Common.{map, sym, ◌∙◌}
use Rattle.std.proofs.lemmas.Result.{IfOk-weaker}
use Rattle.clap.specs.Words.{found_of}
use Rattle.hpx_launch.proofs.Clap.{words_none, words_some}
use Rattle.hpx_launch.proofs.line.words_of.Goals as goal

pub returns-in-Some : goal.returns-in-Some
returns-in-Some c =
    let found = words_some (λ words. map (λ word. word.now) words.now) c.get_strs.result (found_of c.args.matches.now) c.get_strs.ensures c.in-Some.words c.in-Some.is in
    IfOk-weaker c.all_copied.result _ _ (λ words are. found ∙ sym are) c.all_copied.ensures

pub returns-in-None : goal.returns-in-None
returns-in-None c =
    words_none (λ words. map (λ word. word.now) words.now) c.get_strs.result (found_of c.args.matches.now) c.get_strs.ensures c.in-None.is ∙ sym c.new.ensures
