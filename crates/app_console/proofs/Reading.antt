-- What values show, read piece by piece.
use Rattle.std.specs.Prelude.{true, List, [], ◌∷◌, ◌++◌, ◌≡◌, Option, Some, None, refl}
use Rattle.std.proofs.Common.{ap, sym, append-nil, append_assoc}
use Rattle.app_console.specs.Types.{Naming, Await, Desk}
use Rattle.app_console.specs.Desks.{await_by, named_by, awaits_before, names_before}

pub no_more_awaits : (xs : List Await) → awaits_before xs (Some []) ≡ Some xs
no_more_awaits xs = ap Some (append-nil xs)

pub more_awaits : (xs : List Await) (x : Await) (o : Option (List Await)) → awaits_before xs (await_by (Some x.slot) (Some x.what) o) ≡ awaits_before (xs ++ x ∷ []) o
more_awaits xs x None = refl
more_awaits xs x (Some ys) = ap Some (sym (append_assoc xs (x ∷ []) ys))

pub no_more_names : {V : Type 0} (xs : List (Naming V)) (ys : List Await) → names_before xs (Some (record { names = []; awaits = ys })) ≡ Some (record { names = xs; awaits = ys })
no_more_names xs ys = ap (λ ns. Some (record { names = ns; awaits = ys })) (append-nil xs)

pub more_names : {V : Type 0} (xs : List (Naming V)) (x : Naming V) (o : Option (Desk V))
    → names_before xs (named_by true x.name (Some x.to) o) ≡ names_before (xs ++ x ∷ []) o
more_names xs x None = refl
more_names xs x (Some d) = ap (λ ns. Some (record { names = ns; awaits = d.awaits })) (sym (append_assoc xs (x ∷ []) d.names))

pub names_alone : {V : Type 0} (o : Option (Desk V)) → names_before [] o ≡ o
names_alone None = refl
names_alone (Some d) = refl

pub none_alone : (o : Option (List Await)) → awaits_before [] o ≡ o
none_alone None = refl
none_alone (Some xs) = refl
