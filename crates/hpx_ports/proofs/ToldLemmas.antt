-- What is added to a told list, in several steps, and what then holds of it.
use Rattle.std.proofs.Common.{◌≡◌, List, [], ◌++◌, Option, Some, None, IfSome, refl, ap, sym, subst}
use Rattle.std.specs.Option.{is_some}
use Rattle.std.proofs.lemmas.List.{append_assoc, append-nil}
use Rattle.hpx_ports.specs.Told.{followed, preceded}

pub followed-nil : {T : Type 0} (told : Option (List T)) → followed told [] ≡ told
followed-nil None = refl
followed-nil (Some xs) = ap Some (append-nil xs)

pub followed-followed : {T : Type 0} (told : Option (List T)) (xs ys : List T) → followed (followed told xs) ys ≡ followed told (xs ++ ys)
followed-followed None xs ys = refl
followed-followed (Some zs) xs ys = ap Some (append_assoc zs xs ys)

pub preceded-nil : {T : Type 0} (told : Option (List T)) → preceded [] told ≡ told
preceded-nil None = refl
preceded-nil (Some xs) = refl

pub preceded-preceded : {T : Type 0} (xs ys : List T) (told : Option (List T)) → preceded xs (preceded ys told) ≡ preceded (xs ++ ys) told
preceded-preceded xs ys None = refl
preceded-preceded xs ys (Some zs) = ap Some (sym (append_assoc xs ys zs))

-- adding to a list doesn't change whether it is told
pub is_some-followed : {T : Type 0} (told : Option (List T)) (more : List T) → is_some (followed told more) ≡ is_some told
is_some-followed None more = refl
is_some-followed (Some xs) more = refl

pub is_some-preceded : {T : Type 0} (more : List T) (told : Option (List T)) → is_some (preceded more told) ≡ is_some told
is_some-preceded more None = refl
is_some-preceded more (Some xs) = refl

-- what holds where more was added
pub IfSome-followed : {T : Type 0} (P Q : List T → Type 0) (more : List T) → ((xs : List T) → P xs → Q (xs ++ more)) → (old new : Option (List T)) → new ≡ followed old more → IfSome old P → IfSome new Q
IfSome-followed P Q more step None new e h = subst (λ told. IfSome told Q) (sym e) h
IfSome-followed P Q more step (Some xs) new e h = subst (λ told. IfSome told Q) (sym e) (step xs h)

-- what holds where the front was taken
pub IfSome-preceded : {T : Type 0} (P Q : List T → Type 0) (front : List T) → ((xs : List T) → P (front ++ xs) → Q xs) → (old new : Option (List T)) → old ≡ preceded front new → IfSome old P → IfSome new Q
IfSome-preceded P Q front step old None e h = tt
IfSome-preceded P Q front step old (Some xs) e h = step xs (subst (λ told. IfSome told P) e h)
