use Rattle.std.proofs.Common.{◌≡◌, ◌∷◌, List, ℕ, get_or, Option, Some, sym, ap, subst, ◌∙◌}
use Rattle.hpx_parcel.specs.declared.parcel.FaultAt.{FaultAt}
use Rattle.hpx_bundle.specs.Unbundling.{part_text}
use Rattle.hpx_bundle.specs.Roads.{Frame, Held, parts_left, IsOpen, IsOpened}
use Rattle.hpx_bundle.proofs.Hands.{open_next}
use Rattle.hpx_bundle.proofs.hand.Hand.next.Goals as goal

pub returns-in-Ok-clause-ok : goal.returns-in-Ok-clause-ok
returns-in-Ok-clause-ok c =
    let h = c.self.inside in
    let known : IsOpen h.frame h.places.items h.accepted = subst (λ (f : Option FaultAt). IsOpened h.frame h.places.items f h.accepted) c.in_default.is c.self.invariant in
    let bytes : c.in-Ok.bytes ≡ part_text h.frame (get_or h.places.items h.accepted (record { start = 0; end = 0 })) = rw (c.as_slice-2.ensures, c.as_slice.ensures.value) at c.in-Ok.ensures in
    let n = open_next h.to h.frame h.places.items h.accepted (record { start = 0; end = 0 }) known in
    let left : (others : List Frame) × (parts_left (Some (record { frame = (h.to, h.frame); accepted = h.accepted })) ≡ (h.to, c.in-Ok.bytes) ∷ others) = (n.0, n.1 ∙ ap (λ (b : List ℕ). (h.to, b) ∷ n.0) (sym bytes)) in
    subst (λ (held : Held). (others : List Frame) × (parts_left (Some held) ≡ (held.frame.0, c.in-Ok.bytes) ∷ others)) c.self.view_is left

pub returns-in-Err-clause-bad : goal.returns-in-Err-clause-bad
returns-in-Err-clause-bad c =
    let h = c.self.inside in
    let known : IsOpen h.frame h.places.items h.accepted = subst (λ (f : Option FaultAt). IsOpened h.frame h.places.items f h.accepted) c.in_default.is c.self.invariant in
    let n = open_next h.to h.frame h.places.items h.accepted (record { start = 0; end = 0 }) known in
    subst (λ (held : Held). (part : Frame) × (others : List Frame) × (parts_left (Some held) ≡ part ∷ others)) c.self.view_is ((h.to, part_text h.frame (get_or h.places.items h.accepted (record { start = 0; end = 0 }))), n.0, n.1)
