use Rattle.std.proofs.Common.{List, [], ◌++◌, ◌≡◌, map, append_assoc, ap, ◌∙◌}
use Rattle.hpx_value.specs.Hands.{sent}
use Rattle.hpx_value.specs.Riders.{rode}
use Rattle.hpx_value.specs.declared.outcome.Due.{Due}
use Rattle.hpx_value.specs.declared.outcome.Due.TheVariants.{Message, Print}
use Rattle.hpx_commit.proofs.hand.Hand.due.Goals as goal

three : (empty first second third a b c : List Due) → empty ≡ [] → first ≡ empty ++ a → second ≡ first ++ b → third ≡ second ++ c → third ≡ a ++ (b ++ c)
three empty first second third a b c e0 e1 e2 e3 =
    e3 ∙ (ap (λ x. x ++ c) (e2 ∙ ap (λ x. x ++ b) (e1 ∙ ap (λ x. x ++ a) e0)) ∙ append_assoc a b c)

pub returns : goal.returns
returns c =
    let out = c.args.outcome.now in
    let s = c.args.self.now.state.now in
    let a = c.args.self.now.action.now in
    let made = c.args.self.now.made.now in
    three
    c.new-due.result.items
    c.push_sends.new.due.items
    c.push_replies.new.due.items
    c.push_prints.new.due.items
    (map (λ x. Message (sent s a made x)) out.sends)
    (map (λ x. Message (rode s a made out x)) out.replies)
    (map Print out.prints)
    c.new-due.ensures.items
    (rw c.as_slice.ensures at c.in_ok-push_sends.ensures)
    (rw (c.as_slice-2.ensures, c.in_ok-may.ensures) at c.in_ok-push_replies.ensures)
    (rw c.as_slice-3.ensures at c.in_ok-push_prints.ensures)
