-- Numbers of objects, by the entries of the map.
use Rattle.std.proofs.Common.{ℕ, Bool, true, false, cond, ◌≡◌, List, Option, refl, ap, ◌∙◌}
use Rattle.std.specs.Option.{option_map_or}
use Rattle.std.specs.Map.{lookup}
use Rattle.hpx_value.specs.Ids.{Id, bare, same_object}
use Rattle.hpx_tables.specs.declared.object.Object.{Object}
use Rattle.hpx_tables.specs.Objects.{id_of}
use Rattle.hpx_tables.specs.Tallies.{number_in}
use Rattle.hpx_tables.proofs.Found.{eq}

abbrev pub key : Id → Object
key o = record { home = o.home; kind = o.kind; number = o.number }

abbrev pub number : Option ℕ → ℕ
number o = option_map_or (λ n. n) o 0

-- the entry of an id's key
pub number_at : (k : Object) (o : Id) → id_of k ≡ bare o → (es : List (Object × ℕ)) → number (lookup (eq k) es) ≡ number_in es o
number_at k o named es = ap (λ (i : Id). number_in es i) named

pick : (b : Bool) (w v : Option ℕ) → number (cond b w v) ≡ cond b (number w) (number v)
pick true w v = refl
pick false w v = refl

-- the numbers of all objects, once one has another
pub number_set : (k : Object) (gid : Id) → id_of k ≡ bare gid → (es fs : List (Object × ℕ)) (w : Option ℕ)
    → ((q : Object) → lookup (eq q) fs ≡ cond (eq k q) w (lookup (eq q) es))
    → (o : Id) → number_in fs o ≡ cond (same_object gid o) (number w) (number_in es o)
number_set k gid named es fs w updates o =
    ap number (updates (key o)) ∙ pick (eq k (key o)) w (lookup (eq (key o)) es)
    ∙ ap (λ (i : Id). cond (same_object i o) (number w) (number_in es o)) named
