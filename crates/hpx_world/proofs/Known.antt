-- A locality's tables, and what the journal leaves there, where objects move.
use Rattle.std.proofs.Common.{ℕ, None, List, [], ◌≡◌, ◌<◌, ◌≤◌, ◌+◌}
use Rattle.std.specs.List.{sum_by, AllByRecursion}
use Rattle.hpx_journal.specs.Data.{Id}
use Rattle.hpx_journal.specs.Entries.{Rules}
use Rattle.hpx_journal.specs.Laws.{HasGrammar, KeepsActLaws}
use Rattle.hpx_journal.specs.Tokens.{worth}
use Rattle.hpx_journal.specs.Whole.{IsJoin, replayed, part}
use Rattle.hpx_part.specs.Data.{Entry}
use Rattle.hpx_part.specs.Shows.{Shows}
use Rattle.hpx_steps.specs.Rest.{IsPaid, AreInOrder, view, IsTidy, MovesBegan, ArePlaced}
use Rattle.hpx_steps.specs.Flows.{IsFlowing}
use Rattle.hpx_steps.specs.Homes.{HasHomes}
use Rattle.hpx_steps.specs.Items.{weigh}
use Rattle.hpx_steps.specs.Sound.{brought, moved_by}
use Rattle.hpx_steps.specs.Turn.{at_rest}
use Rattle.hpx_tables.specs.Kept.{held_here, owed_here}
use Rattle.hpx_tables.specs.Tables.{Tables}
use Rattle.hpx_tables.specs.declared.kept.Arrival.{Arrival}

-- what is known of a journal: bytes spell parcels, actions keep their laws, and it joins its parts
pub record IsJoined (r : Rules) (es : List Entry) : Type 0 where
  pub some : 1 ≤ r.localities
  pub grammar : HasGrammar r
  pub laws : KeepsActLaws r
  pub join : IsJoin r es

-- the tables of k, whose new objects have credit of this log
pub record IsShown (r : Rules) (log : ℕ) (es : List Entry) (k : ℕ) (t : Tables) : Type 0 where
  pub lt : k < r.localities
  pub here : t.here ≡ k
  pub count : t.localities ≡ r.localities
  pub credit : t.profile.credit_log ≡ log
  pub shows : Shows (view t [] []) ((replayed r es).places k)
  pub tidy : IsTidy t []
  pub paid : IsPaid r t (part k es)
  pub order : AreInOrder r r.localities k log t.desk t.outgoing t.pending (part k es)
  pub begun : MovesBegan r t (part k es)
  pub placed : ArePlaced r t (part k es)
  pub flowing : IsFlowing r (at_rest t) (part k es)
  pub homes : HasHomes r (at_rest t) (part k es)
  pub bare : AllByRecursion (λ (a : Arrival). a.object.log ≡ None) t.came
  pub arrived : (a : Arrival) → weigh (brought a) (at_rest t) ≤ weigh (moved_by a) (at_rest t)
  pub covered : (o : Id) → held_here t o + owed_here t o ≤ sum_by (worth o) ((replayed r es).places k).tokens

-- so it is with each locality
abbrev pub AreShown : Rules → ℕ → List Entry → Type 0
AreShown r log es = (k : ℕ) → k < r.localities → (t : Tables) × IsShown r log es k t
