use Rattle.std.proofs.Common.{arith, ◌≡◌, List, ℕ, [], ◌++◌, append_assoc, ap, ◌∙◌}
use Rattle.hpx_commit.proofs.mentions.mentions_with.Goals as goal

three : (none first second third a b c : List ℕ) → none ≡ [] → first ≡ none ++ a → second ≡ first ++ b → third ≡ second ++ c → third ≡ a ++ (b ++ c)
three none first second third a b c e0 e1 e2 e3 =
    e3 ∙ (ap (λ x. x ++ c) (e2 ∙ ap (λ x. x ++ b) (e1 ∙ ap (λ x. x ++ a) e0)) ∙ append_assoc a b c)

pub returns : goal.returns
returns c =
    let s = c.args.state.now in
    let a = c.args.action.now in
    let places = c.in_ok-cont_places.ensures in
    let rode = rw (c.as_slice-2.ensures, c.in_ok-may.ensures) at c.in_ok-push_rode.ensures in
    let sends = rw (c.as_slice.ensures) at c.in_ok-push_sends.ensures in
    c.from_vec.ensures
    ∙ three _ _ _ _ _ _ _ c.new-places.ensures.items (c.in_ok-push_state.ensures s a places) (sends s a places (omega (arith, c.len.ensures, c.len-2.ensures))) (rode s a places)
