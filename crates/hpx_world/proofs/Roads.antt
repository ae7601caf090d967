-- What is on the road of a legal journal: each frame spells a parcel, and goes to a locality that there is.
use Rattle.std.proofs.Common.{true, List, [], ◌∷◌, ◌≡◌, ◌<◌, Some, sym, subst, inl, inr}
use Rattle.std.specs.Prelude.{◌||◌}
use Rattle.std.specs.List.{list_any, AllByRecursion}
use Rattle.std.proofs.lemmas.Bool.{cases_Bool}
use Rattle.hpx_journal.specs.Data.{Parcel}
use Rattle.hpx_journal.specs.Entries.{Rules, Frame, same_frame}
use Rattle.hpx_part.specs.Data.{Event, Out, Entry, Local}
use Rattle.hpx_journal.specs.Rows.{Row}
use Rattle.hpx_journal.specs.Roots.{roots}
use Rattle.hpx_journal.specs.Whole.{Space, sends, arrives, step, run, start, IsLegal, IsLegalFrom}
use Rattle.hpx_journal.proofs.Alls.{all-append, all-minus}
use Rattle.hpx_journal.proofs.Grow.{run_road}
use Rattle.hpx_journal.proofs.Same.{same_frame-true}
use Rattle.hpx_world.specs.Away.{road_of}

-- it spells a parcel, and goes to a locality that there is
pub record IsSpelled (r : Rules) (f : Frame) : Type 0 where
  pub place : f.0 < r.localities
  pub parcel : Parcel
  pub spells : r.parcel_of f.1 ≡ Some parcel

any_all : (P : Frame → Type 0) (f : Frame) (xs : List Frame) → AllByRecursion P xs → list_any (same_frame f) xs ≡ true → P f
any_all P f [] h any = cc
any_all P f (x ∷ xs) h any = elim (cases_Bool (same_frame f x)) [
  | inl t ↦ subst P (sym (same_frame-true f x t)) h.0
  | inr t ↦ any_all P f xs h.1 (subst (λ b. (b || list_any (same_frame f) xs) ≡ true) t any)
]

sends_spelled : (r : Rules) (s : Local) (e : Event) → Row r s e → AllByRecursion (IsSpelled r) (sends e)
sends_spelled r s (Out to bytes) row = (record { place = row.0; parcel = row.2.0; spells = row.2.1 }, tt)
sends_spelled r s _ row = tt

road_spelled : (r : Rules) (w : Space) (es : List Entry) → IsLegalFrom r w es → AllByRecursion (IsSpelled r) w.road
    → AllByRecursion (IsSpelled r) (run r w es).road
unfolding step
road_spelled r w [] legal h = h
road_spelled r w (e ∷ es) legal h =
    road_spelled r (step r w e) es legal.1
    (all-append (IsSpelled r) _ _ (sends_spelled r (w.places e.at) e.event legal.0.allowed.row)
    (all-minus (IsSpelled r) same_frame w.road (arrives e) h))

pub legal_spelled : (r : Rules) (es : List Entry) (f : Frame) → IsLegal r es → list_any (same_frame f) (road_of es) ≡ true → IsSpelled r f
legal_spelled r es f legal on =
    any_all (IsSpelled r) f (road_of es)
    (subst (AllByRecursion (IsSpelled r)) (run_road r (start (roots r.localities)) es) (road_spelled r (start (roots r.localities)) es legal tt)) on
