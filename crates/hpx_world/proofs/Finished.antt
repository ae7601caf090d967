-- What a finish of one node answers, said of a turn.
use Rattle.std.proofs.Common.{ℕ, List, ◌≡◌, ◌<◌, Some, refl, sym, ◌∙◌, subst, length, get_or, set}
use Rattle.std.specs.List.{slice_get}
use Rattle.hpx_value.specs.declared.acts.Job.{Job}
use Rattle.hpx_journal.specs.Data.{Outcome}
use Rattle.hpx_journal.specs.Weights.{Book}
use Rattle.hpx_commit.specs.Deals.{AllLast}
use Rattle.hpx_node.specs.Asks.{Begins}
use Rattle.hpx_node.specs.Changes.{Writes, OnlySpare}
use Rattle.hpx_node.specs.Locality.{Locality, tables_of}
use Rattle.hpx_node.specs.Commits.{seen, committed, hand_of, places_in_hand, Ends}
use Rattle.hpx_tables.specs.Jobs.{IsRunning}
use Rattle.hpx_tables.specs.Tables.{Tables}
use Rattle.hpx_node.specs.declared.parts.Finished.{Finished}
use Rattle.hpx_node.specs.declared.parts.Finished.TheVariants.{Committed, Asking, NotRunning}
use Rattle.hpx_world.specs.declared.turns.Turned.TheVariants as turned
use Rattle.hpx_world.specs.Sound.{DoneAt}
use Rattle.hpx_world.specs.Turns.{Commits, Asks, DidFinish}
use Rattle.hpx_world.proofs.Calls.{got_at, done_at, same_at}

module _ (nodes : List Locality) (k : ℕ) (v v' : Locality) (lt : k < length (tables_of nodes)) (is : v ≡ get_or nodes k v)
    (n : ℕ) (job : Job) (out : Outcome) (b b' : Book) (at : job.at ≡ k) (all : v.tables.localities ≡ length (tables_of nodes)) where
  abbrev t : Tables
  t = v.tables

  abbrev t' : Tables
  t' = v'.tables

  done_there : (Does : Tables → Tables → Type 0) → Does t t' → DoneAt job.at Does (tables_of nodes) (tables_of (set nodes k v'))
  done_there Does h = subst (λ j. DoneAt j Does (tables_of nodes) (tables_of (set nodes k v'))) (sym at) (done_at nodes k v v' lt is Does h)

  pub finished_did : (f : Finished) → (f ≡ Committed → Writes (committed t job out) t t' b.entries b'.entries)
      → (f ≡ Committed → AllLast (hand_of t (seen job) out) (places_in_hand t (seen job) out))
      → (f ≡ Asking → (AllLast (hand_of t (seen job) out) (places_in_hand t (seen job) out) → ⊥) × Begins t t' job out b.entries b'.entries)
      → (f ≡ NotRunning → (n ≡ t.localities → IsRunning t job → ⊥) × OnlySpare t t' b b')
      → ((f ≡ NotRunning → ⊥) → (n ≡ t.localities) × IsRunning t job)
      → (f ≡ Committed → Ends t t' job out)
      → DidFinish n job out (turned.Finished f) (tables_of nodes) (tables_of (set nodes k v')) b.entries b'.entries
  finished_did Committed writes lasts asks none runs ends =
      let r = runs (λ e. cc) in (
        r.0 ∙ all,
        done_there (Commits job out b.entries b'.entries) (record { runs = r.1; lasts = lasts refl; writes = writes refl; ends = ends refl }),
      )
  finished_did Asking writes lasts asks none runs ends =
      let r = runs (λ e. cc) in (
        r.0 ∙ all,
        done_there (Asks job out b.entries b'.entries) (record { runs = r.1; short = (asks refl).0; begins = (asks refl).1 }),
      )
  finished_did NotRunning writes lasts asks none runs ends = (
    same_at nodes k v v' lt is b b' (none refl).1,
    λ x same there ran.
        let e : t ≡ x = got_at nodes k v v' lt is x (subst (λ j. slice_get (tables_of nodes) j ≡ Some x) at there) in
        (none refl).0 (same ∙ sym all) (subst (λ y. IsRunning y job) (sym e) ran),
  )
