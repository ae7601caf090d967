-- What one call of a node does to a journal that is all its own, and what holds of a passive one.
use Rattle.std.proofs.Common.{ℕ, List, [], ◌∷◌, ◌++◌, ◌≡◌, refl, sym, ap, ◌∙◌, subst, append_assoc, length, true, false, Bool, Result, Ok, Err}
use Rattle.std.specs.Prelude.{◌==◌}
use Rattle.std.specs.Result.{OnErr}
use Rattle.std.proofs.lemmas.Bool.{eq-eqb}
use Rattle.hpx_journal.specs.Entries.{Rules}
use Rattle.hpx_journal.specs.Foreign.{NodeKeeps}
use Rattle.hpx_journal.specs.Laws.{AreAt, outs, ins}
use Rattle.hpx_journal.specs.Weights.{Book}
use Rattle.hpx_journal.specs.Whole.{IsClean, part, run_local}
use Rattle.hpx_journal.specs.Sessions.{FeedsNothing}
use Rattle.hpx_part.specs.Data.{Entry, Event, Fire}
use Rattle.hpx_part.specs.Parts.{at_boot}
use Rattle.hpx_tables.specs.Awaited.{awaited_at, awaited_here}
use Rattle.hpx_tables.specs.Tables.{IsPassive, Tables}
use Rattle.hpx_steps.specs.Limits.{IsWithin}
use Rattle.hpx_steps.specs.Rest.{Stands, StandsAtRest, rules_of}
use Rattle.hpx_steps.proofs.AtRest.{rest_stands}
use Rattle.hpx_node.specs.Changes.{OnlySpare, Writes}
use Rattle.hpx_value.specs.declared.acts.Job.{Job}
use Rattle.hpx_journal.specs.Entries.{name_of}
use Rattle.hpx_tables.specs.Jobs.{Starts}
use Rattle.hpx_node.specs.Handled.{Tends}
use Rattle.hpx_node.proofs.Numbers.{awaited_shown}
use Rattle.hpx_node.proofs.Passive.{passive_quiet, starts_none, tends_none}
use Rattle.hpx_node.proofs.RowLaws.{frees_the_dead}
use Rattle.hpx_ended.specs.Waves.{IsAtRest}
use Rattle.hpx_member.specs.Seats.{IsInside, IsSameSite, Meaning, Stays}
use Rattle.hpx_member.proofs.Grown.{all-append, ins-append, outs-append}
use Rattle.hpx_member.proofs.Written.{WritesPlain, fires_plain, inside_of, spare_plain, tends_plain}

-- ---- entries of one locality

pub own_part : (k : ℕ) (es : List Entry) → AreAt k es → part k es ≡ es
own_part k [] own = refl
own_part k (e ∷ es) own = let here : (e.at == k) ≡ true = eq-eqb e.at k own.0 in rw here (ap (λ xs. e ∷ xs) (own_part k es own.1))

-- ---- calls

pub site_of : (t t' : Tables) (es es' : List Entry) (events : List Event) → Writes events t t' es es' → IsSameSite t t'
site_of t t' es es' events w = record { here = w.here; localities = w.localities; profile = w.profile }

site_then : (t mid t' : Tables) → IsSameSite t mid → IsSameSite mid t' → IsSameSite t t'
site_then t mid t' a b = record {
  here = b.here ∙ a.here;
  localities = b.localities ∙ a.localities;
  profile = b.profile ∙ a.profile;
}

inside_then : (k : ℕ) (es mid es' : List Entry) → IsInside k es mid → IsInside k mid es' → IsInside k es es'
inside_then k es mid es' a b = record {
  later = a.later ++ b.later;
  is = b.is ∙ (ap (λ xs. xs ++ b.later) a.is ∙ append_assoc es a.later b.later);
  own = all-append (λ e. e.at ≡ k) a.later b.later a.own b.own;
  outs = outs-append a.later b.later ∙ (ap (λ xs. xs ++ outs b.later) a.outs ∙ b.outs);
  ins = ins-append a.later b.later ∙ (ap (λ xs. xs ++ ins b.later) a.ins ∙ b.ins);
  unfed = all-append (λ e. FeedsNothing e.event) a.later b.later a.unfed b.unfed;
}

module _ (act_of : Meaning) where
  -- nothing changed
  pub stays_spare : (t t' : Tables) (b b' : Book) → OnlySpare t t' b b' → Stands act_of t' b'.entries → IsWithin b'.entries
      → Stays act_of t t' b.entries b'.entries
  stays_spare t t' b b' s stands within = record {
    stands = stands;
    within = within;
    site = let w = spare_plain t t' b b' s in site_of t t' b.entries b'.entries w.events w.writes;
    inside = inside_of t t' b.entries b'.entries (spare_plain t t' b b' s);
    still = λ passive. (s.tables, s.entries);
  }

  -- something was to be done
  pub stays_busy : (t t' : Tables) (es es' : List Entry) → WritesPlain t t' es es' → Stands act_of t' es' → IsWithin es' → (IsPassive t → ⊥)
      → Stays act_of t t' es es'
  stays_busy t t' es es' w stands within busy = record {
    stands = stands;
    within = within;
    site = site_of t t' es es' w.events w.writes;
    inside = inside_of t t' es es' w;
    still = λ passive. absurd (busy passive);
  }

  pub stays_then : (t mid t' : Tables) (es between es' : List Entry) → Stays act_of t mid es between → Stays act_of mid t' between es'
      → Stays act_of t t' es es'
  stays_then t mid t' es between es' a b = record {
    stands = b.stands;
    within = b.within;
    site = site_then t mid t' a.site b.site;
    inside = inside_then t.here es between es' a.inside (subst (λ k. IsInside k between es') a.site.here b.inside);
    still = λ passive.
        let first = a.still passive in
        let second = b.still (subst IsPassive (sym first.0) passive) in
        (second.0 ∙ first.0, second.1 ∙ first.1);
  }

  -- the first half where something was to be done, and then more was written
  pub stays_more : (t mid t' : Tables) (es between es' : List Entry) → Stays act_of t mid es between → (IsPassive t → ⊥) → WritesPlain mid t' between es'
      → Stands act_of t' es' → IsWithin es' → Stays act_of t t' es es'
  stays_more t mid t' es between es' a busy w stands within = record {
    stands = stands;
    within = within;
    site = site_then t mid t' a.site (site_of mid t' between es' w.events w.writes);
    inside = inside_then t.here es between es' a.inside (subst (λ k. IsInside k between es') a.site.here (inside_of mid t' between es' w));
    still = λ passive. absurd (busy passive);
  }

-- ---- what holds of a node whose journal is all its own

module _ (act_of : Meaning) (t : Tables) (es : List Entry) (stands : Stands act_of t es) (own : AreAt t.here es) where
  abbrev r : Rules
  r = rules_of act_of t.localities t.profile

  told : StandsAtRest r t es
  told = rest_stands t r es stands

  pub sent_is : t.sent ≡ length (outs es)
  sent_is = told.stands.sent ∙ ap (λ xs. length (outs xs)) (own_part t.here es own)

  pub taken_is : t.taken ≡ length (ins es)
  taken_is = told.stands.taken ∙ ap (λ xs. length (ins xs)) (own_part t.here es own)

  pub keeps : NodeKeeps r (at_boot r t.here) es
  keeps = subst (NodeKeeps r (at_boot r t.here)) (own_part t.here es own) told.stands.keeps.keeps

  -- up to a foreign arrival the part of a passive node is at rest
  pub rests : IsPassive t → IsClean r (at_boot r t.here) es → IsAtRest r t.here es
  rests passive clean =
      subst (IsAtRest r t.here) (own_part t.here es own)
      (record {
        still = passive_quiet t _ passive (told.stands.keeps.shows (subst (IsClean r (at_boot r t.here)) (sym (own_part t.here es own)) clean));
        frees = frees_the_dead r t es told.stands passive;
      })

  -- and as many answers are awaited as the part says
  pub waits_for : IsClean r (at_boot r t.here) es → awaited_here t ≡ awaited_at (run_local r (at_boot r t.here) es)
  waits_for clean =
      let whole : IsClean r (at_boot r t.here) (part t.here es) = subst (IsClean r (at_boot r t.here)) (sym (own_part t.here es own)) clean in
      subst (λ xs. awaited_here t ≡ awaited_at (run_local r (at_boot r t.here) xs)) (own_part t.here es own)
      (awaited_shown t _ (told.stands.keeps.shows whole) (told.stands.answered whole))

-- ---- what each call of the node's own does

module _ (act_of : Meaning) (t t' : Tables) (b b' : Book) (stands : Stands act_of t' b'.entries) (within : IsWithin b'.entries) where
  pub stays_fired : (job : Job) → Writes (Fire (name_of job.action) ∷ []) t t' b.entries b'.entries → Starts t t' job
      → Stays act_of t t' b.entries b'.entries
  stays_fired job writes starts =
      stays_busy act_of t t' b.entries b'.entries (fires_plain t t' b.entries b'.entries job writes) stands within (λ passive. starts_none t t' job passive starts)

  pub stays_tended : {E : Type 0} (N : Type 0) (r : Result Bool E) → (r ≡ Ok true → Tends t t' b.entries b'.entries) → (r ≡ Ok false → N × OnlySpare t t' b b')
      → OnErr r (OnlySpare t t' b b') → Stays act_of t t' b.entries b'.entries
  stays_tended N (Ok true) tends none err =
      stays_busy act_of t t' b.entries b'.entries (tends_plain t t' b.entries b'.entries (tends refl)) stands within
      (λ passive. tends_none t t' b.entries b'.entries passive (tends refl))
  stays_tended N (Ok false) tends none err = stays_spare act_of t t' b b' (none refl).1 stands within
  stays_tended N (Err e) tends none err = stays_spare act_of t t' b b' err stands within
