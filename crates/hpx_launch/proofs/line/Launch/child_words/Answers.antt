use Rattle.std.proofs.Common.{◌∙◌}
use Rattle.hpx_launch.proofs.Children.{four_more}
use Rattle.hpx_launch.proofs.line.Launch.child_words.Goals as goal

pub returns : goal.returns
returns c =
    four_more _ _ _ _ _ _ _ _ _ _ _ _ _ _ c.in_ok-push.ensures.ok c.in_ok-push-2.ensures.ok c.in_ok-push-3.ensures.ok c.in_ok-push-4.ensures.ok
    c.in_ok-words.ensures (c.text.ensures ∙ c.in_ok-format.ensures.ok) (c.text-2.ensures ∙ c.in_ok-format-2.ensures.ok)
    (c.text-3.ensures ∙ c.in_ok-format-3.ensures.ok) (c.in_ok-copied.ensures ∙ c.side_of.ensures)
