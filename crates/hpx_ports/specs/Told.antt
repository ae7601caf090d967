-- Lists that a port may tell or keep to itself, and what is added to them.
use Rattle.std.specs.Prelude.{Option, Some, None, List, ◌++◌, ⊤}

-- a told list with more behind it
abbrev pub followed : {T : Type 0} → Option (List T) → List T → Option (List T)
followed None more = None
followed (Some xs) more = Some (xs ++ more)

-- a told list with more before it
abbrev pub preceded : {T : Type 0} → List T → Option (List T) → Option (List T)
preceded more None = None
preceded more (Some xs) = Some (more ++ xs)

-- what is told now by one who told at the start; who did not tell then tells nothing later
abbrev pub told_since : {T : Type 0} → Option (List T) → Option (List T) → Option (List T)
told_since None now = None
told_since (Some xs) now = now

-- who told at the start tells now
abbrev pub StaysTold : {T : Type 0} → Option (List T) → Option (List T) → Type 0
StaysTold None now = ⊤
StaysTold (Some xs) None = ⊥
StaysTold (Some xs) (Some ys) = ⊤
