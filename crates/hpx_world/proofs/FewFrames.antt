-- The counts of frames of all localities fit 64 bits.
use Rattle.std.proofs.Common.{ℕ, suc, List, [], ◌∷◌, ◌≡◌, ◌*◌, ◌≤◌, Some, refl, arith, length, length-append, inl, inr}
use Rattle.std.specs.Prelude.{◌==◌}
use Rattle.std.specs.List.{slice_get, sum_by}
use Rattle.std.proofs.lemmas.Bool.{cases_Bool}
use Rattle.std.proofs.lemmas.List.Sums.{sum_by-cons}
use Rattle.hpx_value.specs.declared.profile.Profile.{Profile}
use Rattle.hpx_journal.specs.Whole.{part}
use Rattle.hpx_journal.specs.Laws.{outs, outs_by}
use Rattle.hpx_journal.specs.Weights.{HasRoom}
use Rattle.hpx_part.specs.Data.{Event, Entry, Out}
use Rattle.hpx_node.proofs.Arrived.{ins_few}
use Rattle.hpx_tables.specs.Tables.{Tables}
use Rattle.hpx_world.specs.Sound.{Meaning, IsSound}

out_few : (k : ℕ) (e : Event) → length (outs_by k e) ≤ 1
out_few k (Out to bytes) = omega arith
out_few k _ = omega arith

outs_few : (k : ℕ) (es : List Entry) → length (outs (part k es)) ≤ length es
outs_few k [] = omega arith
outs_few k (e ∷ es) = elim (cases_Bool (e.at == k)) [
  | inl b ↦ rw b (omega (arith, length-append (outs_by e.at e.event) (outs (part k es)), out_few e.at e.event, outs_few k es))
  | inr b ↦ rw b (omega (arith, outs_few k es))
]

sum_most : (nodes : List Tables) (f : Tables → ℕ) → ((k : ℕ) (t : Tables) → slice_get nodes k ≡ Some t → f t ≤ 2097152)
    → sum_by f nodes ≤ length nodes * 2097152
sum_most [] f h = omega arith
sum_most (t ∷ ts) f h = omega (arith, sum_by-cons f t ts, h 0 t refl, sum_most ts f (λ k x at. h (suc k) x at))

module _ (act_of : Meaning) (profile : Profile) (nodes : List Tables) (es : List Entry) (sound : IsSound act_of profile nodes es) (room : HasRoom es) where
  pub few_sent : sum_by (λ t. t.sent) nodes ≤ 134217728
  few_sent = omega (
    arith,
    sound.few,
    sum_most nodes (λ t. t.sent) (λ k t at. omega (arith, (sound.stand k t at).stands.numbers.sent, outs_few t.here es, room.entries)),
  )

  pub few_taken : sum_by (λ t. t.taken) nodes ≤ 134217728
  few_taken = omega (
    arith,
    sound.few,
    sum_most nodes (λ t. t.taken) (λ k t at. omega (arith, (sound.stand k t at).stands.numbers.taken, ins_few t.here es, room.entries)),
  )
