-- How often an object is named at a locality, and that each name has a token.
use Rattle.std.specs.Prelude.{ℕ, List, [], ◌≤◌, ◌+◌}
use Rattle.std.specs.List.{sum_by, count_by}
use Rattle.hpx_value.specs.Ids.{same_object}
use Rattle.hpx_journal.specs.Data.{Id, Due, MessageDue, PrintDue}
use Rattle.hpx_journal.specs.Tokens.{is_held, is_owed}
use Rattle.hpx_journal.specs.Local.{Local, is_given}

-- the ids in what is due
abbrev pub due_ids : Due → List Id
due_ids (MessageDue m) = m.ids
due_ids (PrintDue bytes) = []

-- how often o is named here: in states, in actions that are not Done, and in what is due
abbrev pub names : Id → Local → ℕ
names o s =
    sum_by (λ x. count_by (same_object o) x.state.ids) s.objects
    + sum_by (λ x. count_by (same_object o) x.state.ids) s.travels
    + sum_by (λ act. count_by (same_object o) act.ids) s.waiting
    + sum_by (λ act. count_by (same_object o) act.ids) s.fired
    + sum_by (λ x. count_by (same_object o) (due_ids x)) s.due

-- each name has a token that is held here, or was asked for and not yet given; and of what was asked for here or came in
-- an Ask or a Give, and was not given and did not go on, there is a token owed here
pub record IsBackedFor (o : Id) (s : Local) : Type 0 where
  pub named : names o s + count_by (is_given o) s.given ≤ count_by (is_held o) s.tokens + count_by (same_object o) s.asked
  pub pending :
      count_by (same_object o) s.asked + count_by (same_object o) s.asks_come
      ≤ count_by (is_owed o) s.tokens + count_by (is_given o) s.given + count_by (same_object o) s.asks_gone

-- every managed object's names here are backed
abbrev pub IsBacked : Local → Type 0
IsBacked s = (o : Id) → 16 ≤ o.kind → IsBackedFor o s
