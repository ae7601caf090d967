-- The messages that are here.
use Rattle.hpx_node.proofs.Common.{IsPassive, List, Outgoing, Parcel, Tables, [], arith, map, messages, refl, sum_by, sum_by-append, sum_by-cons, ℕ, ◌++◌, ◌+◌, ◌∷◌, ◌≡◌}
use Rattle.hpx_agas.specs.declared.record.Waiting.{Waiting}

pub none_here : (t : Tables) → t.desk ≡ [] → t.outgoing ≡ [] → t.queued ≡ [] → t.leaving ≡ [] → t.stray ≡ [] → messages t ≡ []
none_here t desk outgoing queued leaving stray = rw (desk, outgoing, queued, leaving, stray) refl

pub passive_none : (t : Tables) → IsPassive t → messages t ≡ []
passive_none t passive = none_here t passive.desk passive.outgoing passive.queued passive.leaving passive.stray

-- the first on the desk is the first of all
pub messages_first : (t : Tables) (p : Parcel) (rest : List Parcel) → t.desk ≡ p ∷ rest → messages t ≡ p ∷ messages (record t { desk = rest })
messages_first t p rest first = rw first refl

sum_outgoing : (f : Parcel → ℕ) (xs : List Outgoing) → sum_by f (map (λ (x : Outgoing). x.parcel) xs) ≡ sum_by (λ (x : Outgoing). f x.parcel) xs
sum_outgoing f [] = refl
sum_outgoing f (x ∷ xs) = omega (
  arith,
  sum_outgoing f xs,
  sum_by-cons f x.parcel (map (λ (y : Outgoing). y.parcel) xs),
  sum_by-cons (λ (y : Outgoing). f y.parcel) x xs,
)

sum_queued : (f : Parcel → ℕ) (xs : List (Waiting Parcel)) → sum_by f (map (λ (w : Waiting Parcel). w.item) xs) ≡ sum_by (λ (w : Waiting Parcel). f w.item) xs
sum_queued f [] = refl
sum_queued f (x ∷ xs) = omega (
  arith,
  sum_queued f xs,
  sum_by-cons f x.item (map (λ (w : Waiting Parcel). w.item) xs),
  sum_by-cons (λ (w : Waiting Parcel). f w.item) x xs,
)

-- what they weigh, list by list
pub messages_sum : (f : Parcel → ℕ) (desk : List Parcel) (outgoing : List Outgoing) (queued : List (Waiting Parcel)) (leaving stray : List Parcel)
    → sum_by f desk + sum_by (λ (x : Outgoing). f x.parcel) outgoing + sum_by (λ (w : Waiting Parcel). f w.item) queued + sum_by f leaving + sum_by f stray
    ≡ sum_by f (desk ++ (map (λ (x : Outgoing). x.parcel) outgoing ++ (map (λ (w : Waiting Parcel). w.item) queued ++ (leaving ++ stray))))
messages_sum f desk outgoing queued leaving stray =
    let carried = map (λ (x : Outgoing). x.parcel) outgoing in
    let waiting = map (λ (w : Waiting Parcel). w.item) queued in
    omega (
      arith,
      sum_by-append f desk (carried ++ (waiting ++ (leaving ++ stray))),
      sum_by-append f carried (waiting ++ (leaving ++ stray)),
      sum_by-append f waiting (leaving ++ stray),
      sum_by-append f leaving stray,
      sum_outgoing f outgoing,
      sum_queued f queued,
    )
