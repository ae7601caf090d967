-- What an outcome names of its hand: the places, in the order in which a commit takes them.
use Rattle.std.specs.Prelude.{ℕ, List, [], ◌∷◌, ◌++◌, ◌+◌, length, map, flat_map}
use Rattle.std.specs.List.{slice_index_or}
use Rattle.hpx_value.specs.Values.{State, Act, refs_in}
use Rattle.hpx_value.specs.Shapes.{places_of, listed}
use Rattle.hpx_value.specs.Hands.{Target, Place, Root, SendCont, NoCont, Own, Made, Here, NewState, Sending, Reply, Outcome}

-- the places of the hand: the state's, the action's, and one for each object that is made
abbrev pub hand_size : State → Act → Outcome → ℕ
hand_size s a out = length s.ids + length a.ids + length out.makes

-- the kinds of the objects at the places of the hand
abbrev pub hand_kinds : State → Act → Outcome → List ℕ
hand_kinds s a out = map (λ id. id.kind) s.ids ++ (map (λ id. id.kind) a.ids ++ map (λ make. make.kind) out.makes)

-- the kind at a place of the hand; 0, which is no kind, where there is none
abbrev pub kind_at : State → Act → Outcome → ℕ → ℕ
kind_at s a out place = slice_index_or (hand_kinds s a out) place 0

-- the places of the hand where its continuations lead: those of the kept ones, and then that of the action's own
abbrev pub cont_places : State → Act → List ℕ
cont_places s a = places_of s.conts ++ map (λ place. length s.ids + place) (places_of (listed a.cont))

-- the place of the hand where a continuation of the hand leads
abbrev pub cont_place : State → Act → ℕ → ℕ
cont_place s a number = slice_index_or (cont_places s a) number 0

-- the place of a made object
abbrev pub made_place : State → Act → ℕ → ℕ
made_place s a make = length s.ids + length a.ids + make

-- the place that a target names; a root has none
abbrev pub target_places : Target → List ℕ
target_places (Place place) = place ∷ []
target_places (Root kind at) = []

-- the place that the continuation of a send names; the session has none
abbrev pub handed_places : State → Act → SendCont → List ℕ
handed_places s a NoCont = []
handed_places s a (Own number) = cont_place s a number ∷ []
handed_places s a (Made make slot) = made_place s a make ∷ []
handed_places s a (Here slot) = []

-- what a new state names: the Refs of its values, and then where each kept continuation leads
abbrev pub state_mentions : State → Act → NewState → List ℕ
state_mentions s a new = refs_in new.values ++ map (cont_place s a) new.conts

-- what a send names: its target, the Refs of its arguments, and then where its continuation leads
abbrev pub send_mentions : State → Act → Sending → List ℕ
send_mentions s a x = target_places x.target ++ (refs_in x.args ++ handed_places s a x.cont)

-- what a reply names: where its continuation leads, and then the Ref that is its value
abbrev pub reply_mentions : State → Act → Reply → List ℕ
reply_mentions s a x = cont_place s a x.cont ∷ refs_in (x.value ∷ [])

-- what an outcome names: the new state's, then each send's in order, then each reply's in order
abbrev pub mentions : State → Act → Outcome → List ℕ
mentions s a out =
    state_mentions s a out.state ++ (flat_map (send_mentions s a) out.sends ++ flat_map (reply_mentions s a) out.replies)

-- how often a target names a root
abbrev pub target_roots : Target → ℕ
target_roots (Place place) = 0
target_roots (Root kind at) = 1

-- how often the continuation of a send names a root: the session, where it is to be answered
abbrev pub handed_roots : SendCont → ℕ
handed_roots NoCont = 0
handed_roots (Own number) = 0
handed_roots (Made make slot) = 0
handed_roots (Here slot) = 1

-- how often sends name roots, which have no place in the hand
abbrev pub root_mentions : List Sending → ℕ
root_mentions [] = 0
root_mentions (x ∷ xs) = target_roots x.target + handed_roots x.cont + root_mentions xs
