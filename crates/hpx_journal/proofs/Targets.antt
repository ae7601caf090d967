-- Each id is of a locality that there is.
use Rattle.std.proofs.Common.{List, ◌<◌, ◌≤◌, inl, inr}
use Rattle.std.proofs.lemmas.Bool.{cases_lt}
use Rattle.hpx_journal.specs.Data.{Id}
use Rattle.hpx_journal.specs.Entries.{Entry, Rules}
use Rattle.hpx_journal.specs.Whole.{IsLegal, IsJoin, replayed}
use Rattle.hpx_journal.specs.Laws.{HasGrammar, KeepsActLaws}
use Rattle.hpx_journal.specs.Natives.{EachName, IsRootIfSmall}
use Rattle.hpx_journal.proofs.Credited.{named_near}
use Rattle.hpx_journal.proofs.Each.{each_name_zip}
use Rattle.hpx_journal.proofs.Homes.{root_home}
use Rattle.hpx_journal.proofs.RootNames.{root_names}
use Rattle.hpx_journal.proofs.Start.{joined_legal}

-- a fact of small kinds and one of the others
by_kind : (o : Id) (A : Type 0) → (o.kind < 16 → A) → (16 ≤ o.kind → A) → A
by_kind o A f g = elim (cases_lt o.kind 16) [ inl h ↦ f h | inr h ↦ g h ]

module _ (r : Rules) (grammar : HasGrammar r) (laws : KeepsActLaws r) (some : 1 ≤ r.localities) (es : List Entry) (join : IsJoin r es) where
  legal : IsLegal r es
  legal = joined_legal r grammar es join

  pub all_near : EachName r (λ o. o.home < r.localities) (replayed r es)
  all_near =
      each_name_zip r (replayed r es) (IsRootIfSmall r.localities) (λ o. 16 ≤ o.kind → o.home < r.localities) (λ o. o.home < r.localities)
      (λ o small large. by_kind o (o.home < r.localities) (λ h. root_home r.localities o.kind o.home some (small h).root) large)
      (root_names r grammar laws es legal) (named_near r grammar es join)
