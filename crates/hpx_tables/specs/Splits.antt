-- Ids of a hand that are halved for those who name them, and ids that are asked for.
use Rattle.std.specs.Prelude.{ℕ, zero, suc, List, [], ◌∷◌, ◌++◌, ◌+◌, map}
use Rattle.hpx_value.specs.Ids.{bare}
use Rattle.hpx_journal.specs.Data.{Id}
use Rattle.hpx_part.specs.Data.{Event, Split, Asked}
use Rattle.hpx_commit.specs.Deals.{half, log_of, named}
use Rattle.hpx_commit.specs.Stocks.{halvings}

-- an id that n name is halved n - 1 times
abbrev pub cuts : Id → ℕ → List Event
cuts id zero = []
cuts id (suc zero) = []
cuts id (suc (suc n)) = Split (bare id) (log_of id.log) ∷ cuts (half id) (suc n)

-- those of the hand, from place p on
abbrev pub splits_from : ℕ → List Id → List ℕ → List Event
splits_from p [] places = []
splits_from p (id ∷ ids) places = cuts id (named places p) ++ splits_from (p + 1) ids places

-- the splits of so many places of a hand, from place p on: each id is halved for those who name it, as far as its log goes
abbrev pub first_cuts : ℕ → ℕ → List Id → List ℕ → List Event
first_cuts zero p ids places = []
first_cuts (suc k) p [] places = []
first_cuts (suc k) p (id ∷ ids) places = cuts id (suc (halvings id (named places p))) ++ first_cuts k (p + 1) ids places

-- the entries of these ids
abbrev pub asked_events : List Id → List Event
asked_events ids = map (λ id. Asked (bare id)) ids
