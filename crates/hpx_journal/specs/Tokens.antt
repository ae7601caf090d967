-- Tokens of credit: what entries take and give.
use Rattle.std.specs.Prelude.{ℕ, Bool, true, false, not, cond, ◌==◌, ◌&&◌, ◌^◌}
use Rattle.hpx_value.specs.Ids.{Id, same_object}
use Rattle.hpx_parcel.specs.Credits.{Credit}
-- a credit of 2^log of an object at a locality: held by an id there, or owed to the object's home
pub use Rattle.hpx_journal.specs.declared.entry.Token.{Token}

-- a credit that an id holds
abbrev pub held : Credit → Token
held c = record { object = c.object; log = c.log; owed = false }

-- a credit that is owed
abbrev pub owing : Credit → Token
owing c = record { object = c.object; log = c.log; owed = true }

-- a held token of o, of this log
abbrev pub held_token : Id → ℕ → Token
held_token o log = record { object = o; log = log; owed = false }

-- an owed one
abbrev pub owed_token : Id → ℕ → Token
owed_token o log = record { object = o; log = log; owed = true }

-- two tokens are the same
abbrev pub same_token : Token → Token → Bool
same_token a b = same_object a.object b.object && ((a.log == b.log) && cond a.owed b.owed (not b.owed))

-- what a token is worth to o
abbrev pub worth : Id → Token → ℕ
worth o t = cond (same_object o t.object) (2 ^ t.log) 0

-- a held token of o
abbrev pub is_held : Id → Token → Bool
is_held o t = same_object o t.object && not t.owed

-- an owed token of o
abbrev pub is_owed : Id → Token → Bool
is_owed o t = same_object o t.object && t.owed
