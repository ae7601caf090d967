-- Sums of five that stop at a cap, one after the other.
use Rattle.hpx_node.proofs.Common.{ap, arith, min, ℕ, ◌+◌, ◌∙◌, ◌≡◌}

capped : (cap a b s t : ℕ) → s ≡ min cap a → t ≡ min cap (s + min cap b) → t ≡ min cap (a + b)
capped cap a b s t is more = more ∙ (ap (λ n. min cap (n + min cap b)) is ∙ omega arith)

pub capped_five : (cap a b c d e s1 s2 s3 s4 : ℕ) → s1 ≡ min cap (min cap a + min cap b) → s2 ≡ min cap (s1 + min cap c)
    → s3 ≡ min cap (s2 + min cap d) → s4 ≡ min cap (s3 + min cap e) → s4 ≡ min cap (a + b + c + d + e)
capped_five cap a b c d e s1 s2 s3 s4 h1 h2 h3 h4 =
    let i1 : s1 ≡ min cap (a + b) = h1 ∙ omega arith in
    let i2 = capped cap (a + b) c s1 s2 i1 h2 in
    let i3 = capped cap (a + b + c) d s2 s3 i2 h3 in
    capped cap (a + b + c + d) e s3 s4 i3 h4
