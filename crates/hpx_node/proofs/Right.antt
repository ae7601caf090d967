-- What a message is that breaks no rule.
use Rattle.hpx_node.proofs.Common.{Free, None, Parcel, Tables, arith, breaks, broken_near, credit_in, held_here, ids_held, if◌then◌else◌, messages, min, not, stands_here, subst, sum_by-cons, waits_here, ◌&&◌, ◌-◌, ◌==◌, ◌^◌, ◌∷◌, ◌≡◌}

-- what is the first on the desk breaks a rule there, or once it is taken from it
pub near_popped : (t : Tables) (p : Parcel) → broken_near (record t { desk = p ∷ t.desk }) p ≡ None → broken_near t p ≡ None
near_popped t (Free o) h =
    let e : held_here (record t { desk = Free o ∷ t.desk }) o ≡ held_here t o =
    omega (arith, sum_by-cons (λ q. credit_in o (ids_held q)) (Free o) (messages t)) in
    subst (λ n. (if stands_here t o && (not (waits_here t o) && (n == 0)) then None else breaks 7 (Free o) (min (2 ^ 128 - 1) n)) ≡ None) e h
near_popped t _ h = h
