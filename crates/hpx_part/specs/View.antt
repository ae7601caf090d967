-- What a locality is seen to have, in the order of whoever shows it: ids are bare, and their credits stand apart as tokens.
use Rattle.std.specs.Prelude.{ℕ, List, ◌≤◌, ◌+◌, Option}
use Rattle.std.specs.List.{sum_by, count_by}
use Rattle.hpx_value.specs.Ids.{same_object}
use Rattle.hpx_journal.specs.Data.{Id, Act, Due}
use Rattle.hpx_journal.specs.Tokens.{is_held, is_owed}
use Rattle.hpx_journal.specs.Names.{due_ids}
use Rattle.hpx_part.specs.Data.{Event, Standing, Travel, Token, Recorded, Refusal}

pub record View : Type 0 where
  pub here : ℕ
  pub serial : ℕ  -- the last number drawn for an action
  pub number : ℕ  -- the last number drawn for an object
  pub waiting : List Act
  pub fired : List Act
  pub objects : List Standing
  pub travels : List Travel  -- objects on their way, in the messages that are here
  pub fresh : List Id
  pub due : List Due
  pub tokens : List Token
  pub asking : List Id  -- what was asked for here and has not been given
  pub asks : List Id  -- what the Asks and Gives are about that are here
  pub live : List Recorded  -- the counts of the objects of here that are not dead
  pub dead : List Id  -- some objects of here that are dead
  pub refusals : List Refusal  -- some ids that came back with no more credit
  pub failing : ℕ  -- how many more actions may fail
  pub last : Option Event  -- the last entry, where it is known

-- how often o is named
abbrev pub names_in_view : Id → View → ℕ
names_in_view o v =
    sum_by (λ x. count_by (same_object o) x.state.ids) v.objects
    + sum_by (λ x. count_by (same_object o) x.state.ids) v.travels
    + sum_by (λ act. count_by (same_object o) act.ids) v.waiting
    + sum_by (λ act. count_by (same_object o) act.ids) v.fired
    + sum_by (λ x. count_by (same_object o) (due_ids x)) v.due

-- each name of o has a token that is held, or was asked for; and of each Ask and Give there is a token that is owed
pub record IsCoveredFor (o : Id) (v : View) : Type 0 where
  pub named : names_in_view o v ≤ count_by (is_held o) v.tokens + count_by (same_object o) v.asking
  pub pending : count_by (same_object o) v.asks ≤ count_by (is_owed o) v.tokens

-- so it is with every managed object
abbrev pub IsCovered : View → Type 0
IsCovered v = (o : Id) → 16 ≤ o.kind → IsCoveredFor o v
