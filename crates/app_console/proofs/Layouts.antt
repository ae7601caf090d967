-- How one more name or awaited answer is laid out after the others.
use Rattle.std.specs.Prelude.{pos, List, [], ◌∷◌, ◌++◌, ◌≡◌, refl}
use Rattle.std.proofs.Common.{ap, sym, ◌∙◌, append_assoc}
use Rattle.hpx_calls.specs.Values.{Sort}
use Rattle.app_console.specs.Types.{Naming, Await}
use Rattle.app_console.specs.Desks.{names_out, awaits_out, to_out, what_out}

pub names_before : {V : Type 0} (k : Sort V) (xs : List (Naming V)) (vs : List V) → names_out k xs vs ≡ names_out k xs [] ++ vs
names_before k [] vs = refl
names_before k (x ∷ xs) vs = ap (λ us. k.text x.name ∷ to_out k x.to ∷ us) (names_before k xs vs)

pub names_more : {V : Type 0} (k : Sort V) (xs : List (Naming V)) (x : Naming V) → names_out k (xs ++ x ∷ []) [] ≡ (names_out k xs [] ++ k.text x.name ∷ []) ++ to_out k x.to ∷ []
names_more k [] x = refl
names_more k (y ∷ xs) x = ap (λ us. k.text y.name ∷ to_out k y.to ∷ us) (names_more k xs x)

pub awaits_more : {V : Type 0} (k : Sort V) (xs : List Await) (x : Await) → awaits_out k (xs ++ x ∷ []) ≡ (awaits_out k xs ++ k.int (pos x.slot) ∷ []) ++ what_out k x.what ∷ []
awaits_more k [] x = refl
awaits_more k (y ∷ xs) x = ap (λ us. k.int (pos y.slot) ∷ what_out k y.what ∷ us) (awaits_more k xs x)

pub awaits_behind : {V : Type 0} (k : Sort V) (vs : List V) (xs : List Await) (x : Await)
    → vs ++ awaits_out k (xs ++ x ∷ []) ≡ ((vs ++ awaits_out k xs) ++ k.int (pos x.slot) ∷ []) ++ what_out k x.what ∷ []
awaits_behind k vs xs x =
    ap (λ us. vs ++ us) (awaits_more k xs x)
    ∙ sym (ap (λ us. us ++ what_out k x.what ∷ []) (append_assoc vs (awaits_out k xs) (k.int (pos x.slot) ∷ [])) ∙ append_assoc vs (awaits_out k xs ++ k.int (pos x.slot) ∷ []) (what_out k x.what ∷ []))
