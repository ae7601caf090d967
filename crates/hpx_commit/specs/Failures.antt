-- What an action leaves that could get no credit: its object stays as it is, and its ids are given up.
use Rattle.std.specs.Prelude.{ℕ, cond, codes, List, [], ◌∷◌, ◌++◌, ◌+◌, ◌==◌, Option, Some, None, length, map, take, drop}
use Rattle.std.specs.List.{filter, remove}
use Rattle.hpx_value.specs.Ids.{Id}
use Rattle.hpx_value.specs.declared.value.Value.TheVariants.{Fault}
use Rattle.hpx_value.specs.declared.value.Cont.{Cont}
use Rattle.hpx_value.specs.declared.value.State.{State}
use Rattle.hpx_value.specs.declared.value.Act.{Act}
use Rattle.hpx_value.specs.declared.outcome.Due.{Due}
use Rattle.hpx_value.specs.declared.outcome.Due.TheVariants.{Message as MessageDue, Print as PrintDue}
use Rattle.hpx_value.specs.Hands.{id_at, own_slot, answer}
use Rattle.hpx_commit.specs.Deals.{is_managed}

-- the action's ids in a stock of its hand: they stand behind the state's
abbrev pub action_ids : State → Act → List Id → List Id
action_ids s a ids = take (length a.ids) (drop (length s.ids) ids)

-- the halves that were taken ahead: they stand behind the hand, in which so many objects are to be made
abbrev pub halves_ahead : State → Act → ℕ → List Id → List Id
halves_ahead s a makes ids = drop (length s.ids + length a.ids + makes) ids

-- the ids that an action has: its hand without the objects to be made, and the halves
abbrev pub ids_had : State → Act → ℕ → List Id → List Id
ids_had s a makes ids = take (length s.ids) ids ++ (action_ids s a ids ++ halves_ahead s a makes ids)

-- the state as it was, with what is left of its ids
abbrev pub state_failed : State → List Id → State
state_failed s ids = record s { ids = take (length s.ids) ids }

-- the continuation is answered Fault 5, and where the target is the session it prints
abbrev pub due_failed : List Id → Option Cont → List Due
due_failed ids cont =
    map (λ x. MessageDue (answer [] x (Fault 5))) (own_slot ids cont)
    ++ cond ((id_at ids 0).kind == 1) (PrintDue (codes "error: credit limit\n") ∷ []) []

-- ids but the one that the answer takes
abbrev pub unanswered : List Id → Option Cont → List Id
unanswered ids None = ids
unanswered ids (Some cont) = remove ids cont.place

-- what is given up: the action's ids but that of the answer, and the halves
abbrev pub ups_failed : State → Act → ℕ → List Id → List Id
ups_failed s a makes ids = filter is_managed (unanswered (action_ids s a ids) a.cont ++ halves_ahead s a makes ids)
