-- A frame that is taken out of those in flight.
use Rattle.std.proofs.Common.{◌≡◌, ◌<◌, ℕ, suc, zero, List, [], ◌∷◌, ◌++◌, take, drop, length, get_or, Option, Some, None, IfSome, slice_get, ap, refl, sym, subst, ◌∙◌}
use Rattle.std.specs.Option.{is_some}
use Rattle.std.specs.List.{remove}
use Rattle.std.proofs.lemmas.Option.{slice_get_read}
use Rattle.hpx_ports.specs.Frames.{Frame, TakesOut, Delivers}

-- a list is what lies before a place, what stands there, and what lies behind it
pub split_at : {T : Type 0} (xs : List T) (k : ℕ) (x : T) → slice_get xs k ≡ Some x → xs ≡ take k xs ++ x ∷ drop (suc k) xs
split_at [] k x h = cc
split_at (y ∷ ys) zero x h = let e : y ≡ x = cc in ap (λ z. z ∷ ys) e
split_at (y ∷ ys) (suc k) x h = ap (λ zs. y ∷ zs) (split_at ys k x h)

-- the frame that was removed from a place is taken out
pub TakesOut-remove : (old new : List Frame) (frame : Frame) (k : ℕ) → k < length old → frame ≡ get_or old k frame → new ≡ remove old k → TakesOut old (Some new) frame
TakesOut-remove old new frame k within there after =
    record {
      front = take k old;
      back = drop (suc k) old;
      before = split_at old k frame (slice_get_read old (length old) k frame refl within there);
      after = ap Some after;
    }

-- what holds of the frames in flight after one of them was delivered
pub IfSome-delivered : (P Q : List Frame → Type 0) (frame : Frame) → ((front back : List Frame) → P (front ++ frame ∷ back) → Q (front ++ back)) → (old new : Option (List Frame)) → Delivers old new (Some frame) → IfSome old P → IfSome new Q
IfSome-delivered P Q frame step None new d h = subst (λ told. IfSome told Q) (sym d) tt
IfSome-delivered P Q frame step (Some fs) new d h = subst (λ told. IfSome told Q) (sym d.after) (step d.front d.back (subst P d.before h))

-- where nothing was delivered, nothing was in flight, and nothing is
pub Delivers-none : (old new : Option (List Frame)) → Delivers old new None → (new ≡ old) × IfSome old (λ fs. fs ≡ [])
Delivers-none None new d = (d, tt)
Delivers-none (Some fs) new d = (d.1 ∙ ap Some (sym d.0), d.0)

-- a delivery doesn't change whether the frames in flight are told
pub is_some-delivers : (old new : Option (List Frame)) (got : Option Frame) → Delivers old new got → is_some new ≡ is_some old
is_some-delivers None new got d = ap is_some d
is_some-delivers (Some fs) new None d = ap is_some d.1
is_some-delivers (Some fs) new (Some frame) d = ap is_some d.after
