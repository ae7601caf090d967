-- Nodes at boot.
use Rattle.std.proofs.Common.{ℕ, zero, suc, List, [], ◌∷◌, ◌++◌, ◌≡◌, ◌≤◌, Some, length, refl, sym, ap, ◌∙◌, subst, inl, inr, ◌⊎◌, arith}
use Rattle.std.specs.List.{slice_get, sum_by, AllByRecursion}
use Rattle.std.proofs.lemmas.List.{map-append}
use Rattle.std.proofs.lemmas.List.Sums.{sum_by-cons, sum_by-append}
use Rattle.hpx_value.specs.declared.profile.Profile.{Profile}
use Rattle.hpx_steps.specs.Rest.{Stands}
use Rattle.hpx_node.specs.Locality.{Locality, tables_of}
use Rattle.hpx_tables.specs.Tables.{Tables, IsPassive}
use Rattle.hpx_world.specs.Quiet.{NoneRuns}
use Rattle.hpx_world.specs.Sound.{Meaning, StandsAt, IsSound}

-- one node more
pub tables_push : (xs : List Locality) (v : Locality) → tables_of (xs ++ v ∷ []) ≡ tables_of xs ++ v.tables ∷ []
tables_push xs v = map-append (λ (n : Locality). n.tables) xs (v ∷ [])

pub record AreBooted (act_of : Meaning) (profile : Profile) (n : ℕ) (nodes : List Tables) : Type 0 where
  pub each : (k : ℕ) (t : Tables) → slice_get nodes k ≡ Some t → StandsAt act_of n profile k t []

last_or_before : (xs : List Tables) (y : Tables) (k : ℕ) (t : Tables) → slice_get (xs ++ y ∷ []) k ≡ Some t
    → (slice_get xs k ≡ Some t) ⊎ ((k ≡ length xs) × (y ≡ t))
last_or_before [] y zero t h = inr (refl, cc)
last_or_before [] y (suc k) t h = cc
last_or_before (x ∷ xs) y zero t h = inl h
last_or_before (x ∷ xs) y (suc k) t h = elim (last_or_before xs y k t h) [
  | inl i ↦ inl i
  | inr i ↦ inr (ap suc i.0, i.1)
]

pub booted_none : (act_of : Meaning) (profile : Profile) (n : ℕ) → AreBooted act_of profile n []
booted_none act_of profile n = record { each = λ k t h. absurd (cc) }

pub booted_more : (act_of : Meaning) (profile : Profile) (n : ℕ) (nodes : List Tables) (t : Tables) → AreBooted act_of profile n nodes
    → t.here ≡ length nodes → t.localities ≡ n → t.profile ≡ profile → Stands act_of t [] → AreBooted act_of profile n (nodes ++ t ∷ [])
booted_more act_of profile n nodes t h here localities tuned stands = record {
  each = λ k x at. elim (last_or_before nodes t k x at) [
    | inl i ↦ h.each k x i
    | inr i ↦ subst (λ y. StandsAt act_of n profile k y []) i.1 (record {
      here = here ∙ sym i.0;
      localities = localities;
      tuned = tuned;
      stands = stands;
    })
  ];
}

pub booted_sound : (act_of : Meaning) (profile : Profile) (n : ℕ) (nodes : List Tables) → AreBooted act_of profile n nodes → length nodes ≡ n
    → 1 ≤ n → n ≤ 64 → IsSound act_of profile nodes []
booted_sound act_of profile n nodes h count some few = record {
  few = rw count few;
  some = rw count some;
  stand = rw count h.each;
  within = record { entries = omega arith; weight = omega arith };
}

pub none_runs_more : (nodes : List Tables) (t : Tables) → NoneRuns nodes → IsPassive t → NoneRuns (nodes ++ t ∷ [])
none_runs_more [] t h passive = (passive.running, tt)
none_runs_more (x ∷ xs) t h passive = (h.0, none_runs_more xs t h.1 passive)

-- each is passive, and no frame was sent or accepted
pub record AreIdle (nodes : List Tables) : Type 0 where
  pub passive : AllByRecursion IsPassive nodes
  pub frames : sum_by (λ t. t.taken) nodes ≡ sum_by (λ t. t.sent) nodes

pub idle_none : AreIdle []
idle_none = record { passive = tt; frames = refl }

passive_more : (nodes : List Tables) (t : Tables) → AllByRecursion IsPassive nodes → IsPassive t → AllByRecursion IsPassive (nodes ++ t ∷ [])
passive_more [] t h passive = (passive, tt)
passive_more (x ∷ xs) t h passive = (h.0, passive_more xs t h.1 passive)

pub idle_more : (nodes : List Tables) (t : Tables) → AreIdle nodes → IsPassive t → (t.sent ≡ 0) × (t.taken ≡ 0) → AreIdle (nodes ++ t ∷ [])
idle_more nodes t h passive none = record {
  passive = passive_more nodes t h.passive passive;
  frames = omega (
    arith,
    h.frames,
    none.0,
    none.1,
    sum_by-append (λ (x : Tables). x.taken) nodes (t ∷ []),
    sum_by-append (λ (x : Tables). x.sent) nodes (t ∷ []),
    sum_by-cons (λ (x : Tables). x.taken) t [],
    sum_by-cons (λ (x : Tables). x.sent) t [],
  );
}
