-- A line is fed.
use Rattle.hpx_node.proofs.Common.{Accept, Act, Entry, List, Name, Outcome, Stands, State, Tables, Turn, [], accepts, ap, arith, line_act, not, refl, session, stands_here, true, way, with_act, ℕ, ◌&&◌, ◌++◌, ◌∙◌, ◌∷◌, ◌≡◌}
use Rattle.hpx_tables.specs.Kept.{leaves_here, stays_here}
use Rattle.hpx_steps.proofs.Puts.{root_stays}
use Rattle.hpx_steps.specs.Turn.{at_rest}

-- it is accepted at once: the session stands, and does not move
pub accepts_line : (act_of : ℕ → ℕ → ℕ → State → Act → Outcome) (t t' : Tables) (entries : List Entry) (name : Name) (bytes : List ℕ) (n : ℕ)
    → Stands act_of t entries → t.here ≡ 0 → t' ≡ with_act (line_act name bytes) (record t { serial = n }) → t'.accepted ≡ t.accepted ++ line_act name bytes ∷ []
accepts_line act_of t t' entries name bytes n h here goes =
    let act : Act = line_act name bytes in
    let stays : stays_here t session ≡ true =
    ap (λ b. b && not (leaves_here t session)) (h.places.serves here) ∙ ap (λ b. not b) (root_stays (at_rest t) h.tidy session (omega arith)) in
    let is : way (record t { serial = n }) act ≡ Accept = rw stays refl in
    ap (λ (x : Tables). x.accepted) goes ∙ ap (λ w. t.accepted ++ accepts w act) is
