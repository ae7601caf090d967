-- Keys of what a locality has: an action's name, and the object that stands or travels.
use Rattle.std.proofs.Common.{Bool, true, ◌≡◌, ap}
use Rattle.hpx_value.specs.Ids.{Id, same_object}
use Rattle.hpx_journal.specs.Data.{Act}
use Rattle.hpx_journal.specs.Entries.{name_of}
use Rattle.hpx_journal.specs.Local.{is_act, is_standing, is_travel}
use Rattle.hpx_journal.proofs.Same.{same_name-true, same_name-refl, same_object-true, same_object-refl}
use Rattle.hpx_part.specs.Data.{Name, Standing, Travel}

-- keys that are equal where they fit are keys
pub means_equal : {K X : Type 0} (test : K → X → Bool) (key : X → K) → ((k : K) (x : X) → test k x ≡ true → k ≡ key x)
    → (k : K) (x : X) → test k x ≡ true → (y : X) → test k y ≡ test (key x) y
means_equal test key equal k x h y = ap (λ j. test j y) (equal k x h)

pub means : (a : Name) (x : Act) → is_act a x ≡ true → (y : Act) → is_act a y ≡ is_act (name_of x) y
means a x h y = ap (λ k. is_act k y) (same_name-true a (name_of x) h)

pub own : (x : Act) → is_act (name_of x) x ≡ true
own x = same_name-refl (name_of x)

abbrev pub stood : Standing → Id
stood x = x.object

pub means_object : (o : Id) (x : Standing) → is_standing o x ≡ true → (y : Standing) → is_standing o y ≡ is_standing (stood x) y
means_object o x h y = ap (λ k. same_object k y.object) (same_object-true o x.object h)

pub own_object : (x : Standing) → is_standing (stood x) x ≡ true
own_object x = same_object-refl x.object

abbrev pub travels : Travel → Id
travels x = x.object

pub means_travel : (o : Id) (x : Travel) → is_travel o x ≡ true → (y : Travel) → is_travel o y ≡ is_travel (travels x) y
means_travel o x h y = ap (λ k. same_object k y.object) (same_object-true o x.object h)

pub own_travel : (x : Travel) → is_travel (travels x) x ≡ true
own_travel x = same_object-refl x.object
