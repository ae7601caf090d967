use Rattle.std.proofs.Common.{◌∙◌, ap, sym, map}
use Rattle.std.specs.List.{list_all}
use Rattle.std.specs.Str.{is_utf8}
use Rattle.std.proofs.lemmas.Result.{IfOk-weaker}
use Rattle.hpx_launch.proofs.Clap.{bad_words, handed_on, refused_words, taken_words}
use Rattle.hpx_launch.proofs.line.Launch.read.Goals as goal

pub returns-in_err-texts-clause-bad : goal.returns-in_err-texts-clause-bad
returns-in_err-texts-clause-bad c = λ bad.
    bad_words c.args.words.now (ap (list_all is_utf8) (sym c.as_slice.ensures) ∙ c.in_err-texts.ensures.bad (handed_on c.from_residual.result _ _ c.from_residual.ensures.1 bad))

pub returns-in_err-matches-clause-bad : goal.returns-in_err-matches-clause-bad
returns-in_err-matches-clause-bad c = λ bad.
    refused_words c.args.words.now _ (ap (map (λ text. text.now)) c.as_slice-2.ensures.value ∙ (c.in_ok-texts.ensures.ok ∙ c.as_slice.ensures)) (c.in_err-matches.ensures.bad (handed_on c.from_residual-in_err-matches.result _ _ c.from_residual-in_err-matches.ensures.1 bad))

pub returns-clause-ok : goal.returns-clause-ok
returns-clause-ok c =
    IfOk-weaker c.launch_of.result _ _ (λ launch asks.
    taken_words c.args.words.now _ _ _ (ap (map (λ text. text.now)) c.as_slice-2.ensures.value ∙ (c.in_ok-texts.ensures.ok ∙ c.as_slice.ensures))
    (ap (list_all is_utf8) (sym c.as_slice.ensures) ∙ c.in_ok-texts.ensures.text) c.in_ok-matches.ensures.taken c.in_ok-matches.ensures.found asks)
    c.launch_of.ensures.ok

pub returns-clause-bad : goal.returns-clause-bad
returns-clause-bad c = λ bad.
    taken_words c.args.words.now _ _ _ (ap (map (λ text. text.now)) c.as_slice-2.ensures.value ∙ (c.in_ok-texts.ensures.ok ∙ c.as_slice.ensures))
    (ap (list_all is_utf8) (sym c.as_slice.ensures) ∙ c.in_ok-texts.ensures.text) c.in_ok-matches.ensures.taken c.in_ok-matches.ensures.found (c.launch_of.ensures.bad bad)
