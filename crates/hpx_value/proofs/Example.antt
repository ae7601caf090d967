-- The order in which an outcome names the places of its hand, in one example.
use Rattle.std.proofs.Common.{[], ◌∷◌, ◌≡◌, Some, refl}
use Rattle.hpx_value.specs.Ids.{bare_id}
use Rattle.hpx_value.specs.Values.{Ref, State, Act}
use Rattle.hpx_value.specs.Hands.{Place, Root, Own, Made, Here, Outcome}
use Rattle.hpx_value.specs.Mentions.{mentions}

-- places 0 and 1: a Ref, and where the kept continuation leads
abbrev state : State
state = record {
  drawn = 0;
  values = Ref 0 ∷ [];
  conts = record { place = 1; slot = 5 } ∷ [];
  ids = bare_id 0 16 1 ∷ bare_id 0 32 2 ∷ [];
}

-- places 2 to 4: the target, a Ref, and where the answer goes; place 5 is that of the object that is made
abbrev action : Act
action = record {
  origin = 0;
  serial = 1;
  code = 16;
  args = Ref 1 ∷ [];
  cont = Some (record { place = 2; slot = 7 });
  ids = bare_id 0 34 3 ∷ bare_id 0 16 4 ∷ bare_id 0 1 1 ∷ [];
}

abbrev outcome : Outcome
outcome = record {
  state = record { drawn = 0; values = Ref 0 ∷ Ref 3 ∷ []; conts = 0 ∷ [] };
  makes = record { kind = 33; values = [] } ∷ [];
  sends =
      record { target = Place 5; code = 16; args = Ref 3 ∷ []; cont = Own 1 }
      ∷ record { target = Root 2 0; code = 9; args = []; cont = Made 0 3 }
      ∷ record { target = Place 0; code = 17; args = []; cont = Here 0 }
      ∷ [];
  replies = record { cont = 0; value = Ref 5 } ∷ [];
  prints = [];
}

-- the state's Refs and kept continuation; target, Ref and continuation of each send; continuation and Ref of the reply
in_order : mentions state action outcome ≡ 0 ∷ 3 ∷ 1 ∷ 5 ∷ 3 ∷ 4 ∷ 5 ∷ 0 ∷ 1 ∷ 5 ∷ []
in_order = refl
