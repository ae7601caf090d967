-- A call of one node keeps all localities sound.
use Rattle.std.proofs.Common.{ℕ, zero, suc, List, [], ◌∷◌, ◌++◌, ◌≡◌, ◌≢◌, ◌<◌, ◌+◌, Some, refl, sym, ap, ◌∙◌, subst, arith, length, get_or, set, length-set, append-nil, inl, inr}
use Rattle.std.specs.List.{slice_get, count_by, AllByRecursion}
use Rattle.std.proofs.lemmas.Bool.{cases_eq}
use Rattle.std.proofs.lemmas.List.{length-append}
use Rattle.hpx_value.specs.declared.profile.Profile.{Profile}
use Rattle.hpx_journal.specs.Entries.{Rules}
use Rattle.hpx_journal.specs.Foreign.{NodeKeeps}
use Rattle.hpx_journal.specs.Whole.{part, run_local, IsClean, IsCarried, IsLegal, IsJoin}
use Rattle.hpx_journal.specs.Laws.{AreAt, outs, ins, HasGrammar}
use Rattle.hpx_journal.proofs.Grow.{part_append, part_away}
use Rattle.hpx_journal.proofs.Start.{joined_legal}
use Rattle.hpx_parcel.proofs.Frames.{parcel_spelled}
use Rattle.hpx_part.specs.Data.{Event, Entry}
use Rattle.hpx_part.specs.Parts.{at_all, at_boot, StandsFor}
use Rattle.hpx_part.specs.Shows.{Shows, HasForm}
use Rattle.hpx_part.specs.View.{View}
use Rattle.hpx_part.proofs.Keyed.{slice_get_is}
use Rattle.hpx_tables.specs.Awaited.{is_answer}
use Rattle.hpx_node.specs.Changes.{Writes}
use Rattle.hpx_steps.specs.Rest.{Stands, StandsAtRest, rules_of}
use Rattle.hpx_steps.specs.Rows.{AreMoved}
use Rattle.hpx_steps.specs.Sound.{IsOrderly, IsPaid, IsSound as HoldsAt, HasBegun, IsPlaced}
use Rattle.hpx_steps.specs.Turn.{Turn, at_rest, view}
use Rattle.hpx_steps.proofs.AtRest.{rest_stands}
use Rattle.hpx_steps.specs.Limits.{IsWithin}
use Rattle.hpx_tables.specs.Tables.{Tables}
use Rattle.hpx_world.specs.Sound.{Meaning, StandsAt, IsSound}
use Rattle.hpx_steps.specs.Flows.{IsFlowing}
use Rattle.hpx_steps.specs.Homes.{HasHomes}

-- ---- the other nodes

at_events : (k : ℕ) (events : List Event) → AreAt k (at_all k events)
at_events k [] = tt
at_events k (e ∷ es) = (refl, at_events k es)

part_kept : (j k : ℕ) (events : List Event) (es : List Entry) → k ≢ j → part j (es ++ at_all k events) ≡ part j es
part_kept j k events es away =
    part_append j es (at_all k events)
    ∙ (ap (λ zs. part j es ++ zs) (part_away j k (at_all k events) (at_events k events) away) ∙ append-nil (part j es))

for_other : (r : Rules) (v : View) (es es' : List Entry) → part v.here es' ≡ part v.here es → StandsFor r v es → StandsFor r v es'
for_other r v es es' same h =
    let back = sym same in
    record {
      covered = h.covered;
      keeps = subst (NodeKeeps r (at_boot r v.here)) back h.keeps;
      shows = subst (λ p. IsClean r (at_boot r v.here) p → Shows v (run_local r (at_boot r v.here) p)) back h.shows;
      forms = subst (AllByRecursion (λ (x : Entry). HasForm r x.event)) back h.forms;
    }

-- all that holds there still does
other_stands : (r : Rules) (s : Turn) (k : ℕ) (events : List Event) (es es' : List Entry) → es' ≡ es ++ at_all k events → k ≢ s.tables.here
    → HoldsAt r s es → HoldsAt r s es'
other_stands r s k events es es' grows away h =
    let here = s.tables.here in
    let same : part here es' ≡ part here es = ap (part here) grows ∙ part_kept here k events es away in
    let more : length es' ≡ length es + length (at_all k events) = ap length grows ∙ length-append es (at_all k events) in
    record {
      rules = h.rules;
      keeps = for_other r (view s) es es' same h.keeps;
      tidy = h.tidy;
      places = h.places;
      commits = h.commits;
      paid = subst (IsPaid r s) (sym same) h.paid;
      orderly = subst (IsOrderly r s) (sym same) h.orderly;
      begun = subst (HasBegun r s) (sym same) h.begun;
      placed = subst (IsPlaced r s) (sym same) h.placed;
      flowing = subst (IsFlowing r s) (sym same) h.flowing;
      homes = subst (HasHomes r s) (sym same) h.homes;
      arrived = h.arrived;
      numbers = record {
        born = omega (arith, h.numbers.born, more);
        few = omega (arith, h.numbers.few, more);
        asked = omega (arith, h.numbers.asked, more);
        sent = h.numbers.sent ∙ ap (λ p. length (outs p)) (sym same);
        taken = h.numbers.taken ∙ ap (λ p. length (ins p)) (sym same);
        few_answers = omega (arith, h.numbers.few_answers, more);
        answered = subst (λ p. IsClean r (at_boot r here) p → s.tables.answered ≡ count_by is_answer (run_local r (at_boot r here) p).done) (sym same) h.numbers.answered;
        moved = subst (λ p. IsClean r (at_boot r here) p → AreMoved r (length s.tables.came) (at_boot r here) p) (sym same) h.numbers.moved;
      };
    }

pub set_same : (xs : List Tables) (k : ℕ) (t : Tables) → k < length xs → slice_get (set xs k t) k ≡ Some t
set_same [] k t h = absurd (omega arith)
set_same (x ∷ xs) zero t h = refl
set_same (x ∷ xs) (suc k) t h = set_same xs k t (omega arith)

set_other : (xs : List Tables) (k j : ℕ) (t : Tables) → k ≢ j → slice_get (set xs k t) j ≡ slice_get xs j
set_other [] k j t away = refl
set_other (x ∷ xs) zero zero t away = absurd (away refl)
set_other (x ∷ xs) zero (suc j) t away = refl
set_other (x ∷ xs) (suc k) zero t away = refl
set_other (x ∷ xs) (suc k) (suc j) t away = set_other xs k j t (λ e. away (ap suc e))

pub some_is : (x y : Tables) → ◌≡◌ (Some x) (Some y) → x ≡ y
some_is x y h = cc

-- ---- one node's call

module _ (act_of : Meaning) (profile : Profile) (nodes : List Tables) (es : List Entry) (h : IsSound act_of profile nodes es) where
  abbrev pub r : Rules
  r = rules_of act_of (length nodes) profile

  -- each stands by the rules of all
  pub told_all : (k : ℕ) (t : Tables) → slice_get nodes k ≡ Some t → StandsAtRest (rules_of act_of (length nodes) profile) t es
  told_all k t at =
      let own = h.stand k t at in
      rest_stands t (rules_of act_of (length nodes) profile) es (subst (λ p. HoldsAt (rules_of act_of (length nodes) p) (at_rest t) es) own.tuned
      (subst (λ n. HoldsAt (rules_of act_of n t.profile) (at_rest t) es) own.localities own.stands))

  pub got : (k : ℕ) (t : Tables) → k < length nodes → t ≡ get_or nodes k t → slice_get nodes k ≡ Some t
  got k t lt is = slice_get_is nodes k t lt is

  pub sound_at : (k : ℕ) (t : Tables) → k < length nodes → t ≡ get_or nodes k t → StandsAt act_of (length nodes) profile k t es
  sound_at k t lt is = h.stand k t (got k t lt is)

  module _ (k : ℕ) (t t' : Tables) (events : List Event) (es' : List Entry) (lt : k < length nodes) (is : t ≡ get_or nodes k t)
      (writes : Writes events t t' es es') (stands : Stands act_of t' es') (within : IsWithin es') where
    own : StandsAt act_of (length nodes) profile k t es
    own = sound_at k t lt is

    grows : es' ≡ es ++ at_all k events
    grows = subst (λ j. es' ≡ es ++ at_all j events) own.here writes.grows

    nodes' : (j : ℕ) (x : Tables) → slice_get (set nodes k t') j ≡ Some x → StandsAt act_of (length nodes) profile j x es'
    nodes' j x at = elim (cases_eq k j) [
      | inl same ↦
          let i : slice_get (set nodes k t') k ≡ Some x = subst (λ m. slice_get (set nodes k t') m ≡ Some x) (sym same) at in
          let e : t' ≡ x = some_is t' x (sym (set_same nodes k t' lt) ∙ i) in
          subst (λ y. StandsAt act_of (length nodes) profile j y es') e (record {
            here = writes.here ∙ (own.here ∙ same);
            localities = writes.localities ∙ own.localities;
            tuned = writes.profile ∙ own.tuned;
            stands = stands;
          })
      | inr other ↦
          let old = h.stand j x (sym (set_other nodes k j t' other) ∙ at) in
          record {
            here = old.here;
            localities = old.localities;
            tuned = old.tuned;
            stands = other_stands (rules_of act_of x.localities x.profile) (at_rest x) k events es es' grows (λ e. other (e ∙ old.here)) old.stands;
          }
    ]

    pub sound_grows : IsSound act_of profile (set nodes k t') es'
    sound_grows =
        let n : length (set nodes k t') ≡ length nodes = length-set nodes k t' in
        record {
          few = rw n h.few;
          some = rw n h.some;
          stand = rw n nodes';
          within = within;
        }

pub get_some : (xs : List Tables) (k : ℕ) → k < length xs → (x : Tables) × (slice_get xs k ≡ Some x)
get_some [] k h = absurd (omega arith)
get_some (x ∷ xs) zero h = (x, refl)
get_some (x ∷ xs) (suc k) h = get_some xs k (omega arith)

-- ---- all of them, where each frame that was accepted had been sent

-- what bytes spell is well formed
pub spells_well : (act_of : Meaning) (n : ℕ) (profile : Profile) → HasGrammar (rules_of act_of n profile)
spells_well act_of n profile = record { grammar = λ bytes p e. (parcel_spelled bytes p e).parcel }

module _ (act_of : Meaning) (profile : Profile) (nodes : List Tables) (es : List Entry) (h : IsSound act_of profile nodes es)
    (carried : IsCarried (rules_of act_of (length nodes) profile) [] es) where
  pub sound_joins : IsJoin (rules_of act_of (length nodes) profile) es
  sound_joins = record {
    parts = λ k lt.
        let x = get_some nodes k lt in
        let here = (h.stand k x.0 x.1).here in
        subst (λ j. NodeKeeps (rules_of act_of (length nodes) profile) (at_boot (rules_of act_of (length nodes) profile) j) (part j es)) here
        (told_all act_of profile nodes es h k x.0 x.1).stands.keeps.keeps;
    carried = carried;
  }

  -- the journal of all localities is legal
  pub sound_legal : IsLegal (rules_of act_of (length nodes) profile) es
  sound_legal = joined_legal (rules_of act_of (length nodes) profile) (spells_well act_of (length nodes) profile) es sound_joins
