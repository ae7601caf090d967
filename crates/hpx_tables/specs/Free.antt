-- An action that may be fired.
use Rattle.std.specs.Prelude.{false, List, [], ◌∷◌, Some, ◌≡◌}
use Rattle.std.specs.List.{find}
use Rattle.hpx_journal.specs.Data.{Act}
use Rattle.hpx_journal.specs.Entries.{target_of}
use Rattle.hpx_part.specs.Data.{Standing}
use Rattle.hpx_journal.specs.Local.{is_standing, is_busy}

-- its object stands here and is not busy
pub record IsFree (fired : List Act) (objects : List Standing) (act : Act) : Type 0 where
  pub standing : Standing
  pub found : find (is_standing (target_of act)) objects ≡ Some standing
  pub idle : is_busy (target_of act) fired ≡ false

-- none of them may be fired
abbrev pub NoneIsFree : List Act → List Standing → List Act → Type 0
NoneIsFree fired objects [] = Unit {0}
NoneIsFree fired objects (act ∷ acts) = (IsFree fired objects act → ⊥) × NoneIsFree fired objects acts
