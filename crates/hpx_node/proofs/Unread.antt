-- What is said of a frame that was not decoded.
use Rattle.hpx_node.proofs.Common.{Broken, List, Option, Parcel, Some, Tables, ap, broken, parcel_of, sym, ℕ, ◌∙◌, ◌≡◌}
use Rattle.hpx_parcel.specs.declared.outline.Outline.{Outline}
use Rattle.hpx_parcel.specs.Outlines.{IsOutline}
use Rattle.hpx_parcel.proofs.Frames.{spelled_parcel}
use Rattle.hpx_tables.specs.Rules.{rule_of}
use Rattle.hpx_tables.proofs.Outlined.{told_rule}

-- the rule that its outline breaks is the one that its parcel breaks
pub told : (t : Tables) (bytes : List ℕ) (o : Outline) (r : Option Broken) → IsOutline bytes o → r ≡ rule_of t o
    → (p : Parcel) × (parcel_of bytes ≡ Some p) × (broken t p ≡ r)
told t bytes o r is e =
    let f = is.frame in
    (f.0, spelled_parcel bytes f.0 f.1, sym (told_rule t f.0) ∙ (ap (λ (x : Outline). rule_of t x) (sym (is.same f.0 f.1)) ∙ sym e))
