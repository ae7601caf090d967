-- What waits for an object that moves.
use Rattle.hpx_node.proofs.Common.{Id, List, Parcel, Record, [], and_true, ap, arith, cases_Bool, cond, false, find_record, if◌then◌else◌, inl, inr, is_some, length, list_any, ne_eqb, not, refl, sym, true, ℕ, ◌&&◌, ◌==◌, ◌∙◌, ◌∷◌, ◌≡◌}
use Rattle.hpx_agas.specs.Queues.{is_for, items_of}
use Rattle.hpx_agas.specs.declared.record.Waiting.{Waiting}

-- something waits for a number where its queue is not empty
queued_any : (n : ℕ) (ws : List (Waiting Parcel)) → not (length (items_of n ws) == 0) ≡ list_any (is_for n) ws
queued_any n [] = refl
queued_any n (w ∷ ws) = elim (cases_Bool (w.number == n)) [
  | inl t ↦ rw t (ap not (ne_eqb (length (w.item ∷ items_of n ws)) 0 (λ e. omega arith)))
  | inr f ↦ rw f (queued_any n ws)
]

-- of a live object
pub queued_is : (here : ℕ) (records : List Record) (ws : List (Waiting Parcel)) (o : Id) → ((o.home == here) && is_some (find_record o records)) ≡ true
    → not (length (if is_some (find_record o records) then items_of o.number ws else []) == 0) ≡ list_any (is_for o.number) ws
queued_is here records ws o live = rw (and_true (o.home == here) (is_some (find_record o records)) live).1 (queued_any o.number ws)
