-- How many frames went and came, at all localities together.
use Rattle.std.proofs.Common.{ℕ, zero, suc, List, [], ◌∷◌, ◌≡◌, ◌+◌, Some, None, Option, refl, ap, ◌∙◌, arith, length, length-append}
use Rattle.std.specs.List.{slice_get, sum_by, count_by}
use Rattle.std.proofs.lemmas.List.Sums.{sum_by-cons}
use Rattle.hpx_value.specs.declared.profile.Profile.{Profile}
use Rattle.hpx_journal.specs.Bags.{total}
use Rattle.hpx_journal.specs.Entries.{Rules, Frame, same_frame}
use Rattle.hpx_journal.specs.Roots.{roots}
use Rattle.hpx_journal.specs.Whole.{part, start, IsCarried, road_after, arrives}
use Rattle.hpx_journal.specs.Laws.{outs, outs_by, ins}
use Rattle.hpx_journal.proofs.Bags.{total-zero, total-change}
use Rattle.hpx_journal.proofs.Grow.{run_road}
use Rattle.hpx_journal.proofs.Joined.{part_same, part_other}
use Rattle.hpx_journal.proofs.Quiet.{legal_lengths}
use Rattle.hpx_journal.proofs.Same.{same_frame-refl}
use Rattle.hpx_part.specs.Data.{Entry}
use Rattle.hpx_part.proofs.Keyed.{counts_of, counts_true}
use Rattle.hpx_ports.specs.declared.fabric.Wire.{Wire}
use Rattle.hpx_steps.specs.Rest.{rules_of}
use Rattle.hpx_tables.specs.Tables.{Tables}
use Rattle.hpx_world.specs.Away.{IsCarrying, Fetches, road_of}
use Rattle.hpx_world.specs.Sound.{Meaning, IsSound}
use Rattle.hpx_world.proofs.Sound.{sound_legal}

total_front : (n : ℕ) (g : ℕ → ℕ) → total (suc n) g ≡ g 0 + total n (λ k. g (suc k))
total_front zero g = refl
total_front (suc n) g = omega (arith, total_front n g)

pub sum_total : (nodes : List Tables) (f : Tables → ℕ) (g : ℕ → ℕ) → ((k : ℕ) (t : Tables) → slice_get nodes k ≡ Some t → f t ≡ g k)
    → sum_by f nodes ≡ total (length nodes) g
sum_total [] f g h = refl
sum_total (t ∷ ts) f g h =
    omega (
      arith,
      sum_by-cons f t ts,
      h 0 t refl,
      sum_total ts f (λ k. g (suc k)) (λ k x at. h (suc k) x at),
      total_front (length ts) g,
    )

abbrev outs_at : List Entry → ℕ → ℕ
outs_at es k = length (outs (part k es))

abbrev ins_at : List Entry → ℕ → ℕ
ins_at es k = length (ins (part k es))

-- each locality's frames sent are all that were sent
total_outs : (r : Rules) (road : List Frame) (es : List Entry) → IsCarried r road es → total r.localities (outs_at es) ≡ length (outs es)
total_outs r road [] h = total-zero r.localities (outs_at []) (λ k i. refl)
total_outs r road (e ∷ es) h =
    omega (
      arith,
      total-change r.localities (outs_at es) (outs_at (e ∷ es)) e.at h.0 (λ j away. ap (λ xs. length (outs xs)) (part_other j e es away)),
      ap (λ xs. length (outs xs)) (part_same e es),
      length-append (outs_by e.at e.event) (outs (part e.at es)),
      length-append (outs_by e.at e.event) (outs es),
      total_outs r (road_after road e) es h.2,
    )

total_ins : (r : Rules) (road : List Frame) (es : List Entry) → IsCarried r road es → total r.localities (ins_at es) ≡ length (ins es)
total_ins r road [] h = total-zero r.localities (ins_at []) (λ k i. refl)
total_ins r road (e ∷ es) h =
    omega (
      arith,
      total-change r.localities (ins_at es) (ins_at (e ∷ es)) e.at h.0 (λ j away. ap (λ xs. length (ins xs)) (part_other j e es away)),
      ap (λ xs. length (ins xs)) (part_same e es),
      length-append (arrives e) (ins (part e.at es)),
      length-append (arrives e) (ins es),
      total_ins r (road_after road e) es h.2,
    )

module _ (act_of : Meaning) (profile : Profile) (nodes : List Tables) (es : List Entry) (sound : IsSound act_of profile nodes es)
    (carried : IsCarried (rules_of act_of (length nodes) profile) [] es) where
  pub sent_all : sum_by (λ t. t.sent) nodes ≡ length (outs es)
  sent_all = sum_total nodes (λ t. t.sent) (outs_at es)
      (λ k t at. let own = sound.stand k t at in own.stands.numbers.sent ∙ ap (outs_at es) own.here)
      ∙ total_outs (rules_of act_of (length nodes) profile) [] es carried

  pub taken_all : sum_by (λ t. t.taken) nodes ≡ length (ins es)
  taken_all = sum_total nodes (λ t. t.taken) (ins_at es)
      (λ k t at. let own = sound.stand k t at in own.stands.numbers.taken ∙ ap (ins_at es) own.here)
      ∙ total_ins (rules_of act_of (length nodes) profile) [] es carried

  -- where nothing is on the road, all that were sent were accepted
  pub all_taken : road_of es ≡ [] → sum_by (λ t. t.taken) nodes ≡ sum_by (λ t. t.sent) nodes
  all_taken empty =
      omega (
        arith,
        taken_all,
        sent_all,
        legal_lengths (rules_of act_of (length nodes) profile) es (sound_legal act_of profile nodes es sound carried),
        ap length (run_road (rules_of act_of (length nodes) profile) (start (roots (length nodes))) es),
        ap length empty,
      )

no_frames : (road : List Frame) → ((f : Frame) → count_by (same_frame f) road ≡ 0) → road ≡ []
no_frames [] h = refl
no_frames (f ∷ fs) h =
    absurd (omega (arith, h f, sum_by-cons (counts_of (same_frame f)) f fs, counts_true (same_frame f) f (same_frame-refl f)))

-- nothing in hand and nothing in flight: nothing is on the road
pub road_empty : (r : Rules) (fl : Option (List Frame)) (tr : Option (List Wire)) (es : List Entry) → IsCarrying r None fl tr es
    → ((xs : List Frame) → fl ≡ Some xs → xs ≡ []) → road_of es ≡ []
road_empty r fl tr es c none =
    no_frames (road_of es) (λ f. c.bag f ∙ ap (λ xs. count_by (same_frame f) xs) (none c.frames c.flight_is))

-- nothing is delivered where nothing is in flight
pub none_fetched : (h : Option Frame) (fl fl' : Option (List Frame)) (tr tr' : Option (List Wire)) → Fetches h fl fl' tr tr' None
    → (xs : List Frame) → fl' ≡ Some xs → xs ≡ []
none_fetched None None fl' tr tr' f xs e = let g : fl' ≡ None = f.0 in cc
none_fetched None (Some old) fl' tr tr' f xs e = let g : fl' ≡ Some [] = f.0.1 in cc
none_fetched (Some frame) fl fl' tr tr' f xs e = let g : ◌≡◌ {A = Option Frame} None (Some frame) = f.0 in cc
