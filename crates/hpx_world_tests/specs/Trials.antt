-- When the acts of hpx_trial have a number made: only then it matters how many localities there are.
use Rattle.std.specs.Prelude.{ℕ, Bool, true, false, cond, nat_lt, List, [], ◌∷◌, ◌+◌, ◌-◌, ◌==◌, ◌&&◌, Option, Some, None}
use Rattle.hpx_trial.specs.Data.{State, Act, Outcome}
use Rattle.hpx_value.specs.declared.outcome.Target.TheVariants.{Root}
use Rattle.hpx_value.specs.declared.outcome.SendCont.TheVariants.{Here}
use Rattle.hpx_trial.specs.Trial.{said, one_send, byte_in}

abbrev pub has_none : {T : Type 0} → List T → Bool
has_none [] = true
has_none (x ∷ xs) = false

abbrev pub is_none : {T : Type 0} → Option T → Bool
is_none None = true
is_none (Some x) = false

-- the line n, where the session keeps nothing
abbrev pub makes : ℕ → State → Act → Bool
makes kind s a =
    has_none s.conts && (is_none a.cont && (((kind == 1) && nat_lt s.drawn 100)
    && ((a.code == 4) && (has_none s.values && (byte_in a.args == 110)))))

-- a number is to be made at the last of n localities
abbrev pub making : ℕ → State → Outcome
making n s = said (s.drawn + 1) [] (one_send (Root 3 (n - 1)) 5 [] (Here s.drawn)) []
