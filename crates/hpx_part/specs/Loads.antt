-- What a step takes out of what is seen and puts into it, told by sums: the lists may stand in any order.
use Rattle.std.specs.Prelude.{ℕ, List, [], ◌∷◌, ◌++◌, ◌≡◌, ◌+◌, Some}
use Rattle.std.specs.List.{sum_by, count_by}
use Rattle.hpx_value.specs.Ids.{same_object}
use Rattle.hpx_journal.specs.Data.{Id, Act, Parcel}
use Rattle.hpx_journal.specs.Frames.{acts_in, travels_in, tokens_in, asks_in}
use Rattle.hpx_part.specs.Data.{Standing, Travel, Token}
use Rattle.hpx_part.specs.View.{View}
use Rattle.hpx_part.specs.Shows.{IsWeight}

-- actions that wait, objects that stand or travel, tokens, and what Asks and Gives are about
pub record Load : Type 0 where
  pub acts : List Act
  pub objects : List Standing
  pub travels : List Travel
  pub tokens : List Token
  pub asks : List Id

-- none of them
abbrev pub nothing : Load
nothing = record { acts = []; objects = []; travels = []; tokens = []; asks = [] }

-- what a parcel carries
abbrev pub load_of : Parcel → Load
load_of p = record { acts = acts_in (Some p); objects = []; travels = travels_in (Some p); tokens = tokens_in (Some p); asks = asks_in (Some p) }

-- an object that stands
abbrev pub standing_load : Standing → Load
standing_load x = record nothing { objects = x ∷ [] }

-- an object on its way
abbrev pub travel_load : Travel → Load
travel_load x = record nothing { travels = x ∷ [] }

-- one load and another
abbrev pub with_load : Load → Load → Load
with_load a b = record {
  acts = a.acts ++ b.acts;
  objects = a.objects ++ b.objects;
  travels = a.travels ++ b.travels;
  tokens = a.tokens ++ b.tokens;
  asks = a.asks ++ b.asks;
}

-- w has one load less than v, and another more
pub record Exchanges (out into : Load) (v w : View) : Type 0 where
  pub acts : (f : Act → ℕ) → sum_by f w.waiting + sum_by f out.acts ≡ sum_by f v.waiting + sum_by f into.acts
  pub objects : (f : Standing → ℕ) → sum_by f w.objects + sum_by f out.objects ≡ sum_by f v.objects + sum_by f into.objects
  pub travels : (f : Travel → ℕ) → sum_by f w.travels + sum_by f out.travels ≡ sum_by f v.travels + sum_by f into.travels
  pub tokens : (f : Token → ℕ) → IsWeight f → sum_by f w.tokens + sum_by f out.tokens ≡ sum_by f v.tokens + sum_by f into.tokens
  pub asks : (o : Id) → count_by (same_object o) w.asks + count_by (same_object o) out.asks
      ≡ count_by (same_object o) v.asks + count_by (same_object o) into.asks
