-- What is due, filled with what was dealt: the same messages to the same objects, as well formed as before.
use Rattle.std.proofs.Common.{ℕ, suc, List, [], ◌∷◌, ◌++◌, ◌≡◌, length, map, append_assoc, refl, sym, ap, ◌∙◌, arith, inl, inr}
use Rattle.std.specs.Prelude.{flat_map}
use Rattle.std.specs.List.{AllByRecursion}
use Rattle.std.proofs.lemmas.Bool.{cases_Bool}
use Rattle.std.proofs.lemmas.List.{map-append}
use Rattle.hpx_value.specs.Ids.{Id, bare}
use Rattle.hpx_value.specs.Values.{bare_message}
use Rattle.hpx_commit.proofs.Common.{State, Message, Due, MessageDue, PrintDue}
use Rattle.hpx_value.specs.Shapes.{IsMessage, IsState}
use Rattle.hpx_commit.specs.Deals.{is_managed, filled, unused, filled_due, ids_due}
use Rattle.hpx_commit.proofs.Naming.{filter_append, managed}
use Rattle.hpx_commit.proofs.Fills.{Fits, filled_same, unused_rest, filled_all, unused_all}

pub managed_append : (xs ys : List Id) → managed (map bare (xs ++ ys)) ≡ managed (map bare xs) ++ managed (map bare ys)
managed_append xs ys = ap managed (map-append bare xs ys) ∙ filter_append is_managed (map bare xs) (map bare ys)

fits_first : (xs ys ds rest : List Id) → Fits (xs ++ ys) ds rest → Fits xs ds (managed (map bare ys) ++ rest)
fits_first xs ys ds rest h =
    h ∙ (ap (λ zs. zs ++ rest) (managed_append xs ys) ∙ append_assoc (managed (map bare xs)) (managed (map bare ys)) rest)

pub length-filled : (ids ds : List Id) → length (filled ids ds) ≡ length ids
length-filled [] ds = refl
length-filled (id ∷ ids) [] = ap suc (length-filled ids [])
length-filled (id ∷ ids) (d ∷ ds) = elim (cases_Bool (is_managed id)) [
  | inl t ↦ rw t (ap suc (length-filled ids ds))
  | inr t ↦ rw t (ap suc (length-filled ids (d ∷ ds)))
]

pub length-filled_due : (due : List Due) (ds : List Id) → length (filled_due due ds) ≡ length due
length-filled_due [] ds = refl
length-filled_due (PrintDue bytes ∷ due) ds = ap suc (length-filled_due due ds)
length-filled_due (MessageDue m ∷ due) ds = ap suc (length-filled_due due (unused m.ids ds))

-- a message or a state looks at its ids by their number
pub message_filled : (m : Message) (ids : List Id) → length ids ≡ length m.ids → IsMessage m → IsMessage (record m { ids = ids })
message_filled m ids e h = record {
  values = h.values;
  refs = h.refs;
  few_refs = h.few_refs;
  cont = h.cont;
  ids = e ∙ h.ids;
  short = h.short;
}

pub state_filled : (s : State) (ids : List Id) → length ids ≡ length s.ids → IsState s → IsState (record s { ids = ids })
state_filled s ids e h = let few = h.few in record {
  values = h.values;
  refs = h.refs;
  conts = h.conts;
  ids = e ∙ h.ids;
  few = omega (arith, e, few);
  short = h.short;
}

-- without credits it is the same
module _ (g : Due → Due) (message : (m : Message) → g (MessageDue m) ≡ MessageDue (bare_message m)) (print : (bytes : List ℕ) → g (PrintDue bytes) ≡ PrintDue bytes) where
  pub due_same : (due : List Due) (ds rest : List Id) → Fits (flat_map ids_due due) ds rest → map g (filled_due due ds) ≡ map g due
  due_same [] ds rest h = refl
  due_same (PrintDue bytes ∷ due) ds rest h = ap (λ xs. g (PrintDue bytes) ∷ xs) (due_same due ds rest h)
  due_same (MessageDue m ∷ due) ds rest h =
      let more : List Id = managed (map bare (flat_map ids_due due)) ++ rest in
      let first : Fits m.ids ds (managed (map bare (flat_map ids_due due)) ++ rest) = fits_first m.ids (flat_map ids_due due) ds rest h in
      ap (λ d. d ∷ map g (filled_due due (unused m.ids ds)))
      (message (record m { ids = filled m.ids ds })
      ∙ (ap (λ ids. MessageDue (record { code = m.code; args = m.args; cont = m.cont; ids = ids })) (filled_same m.ids ds more first) ∙ sym (message m)))
      ∙ ap (λ xs. g (MessageDue m) ∷ xs) (due_same due (unused m.ids ds) rest (unused_rest m.ids ds more first))

-- what holds of each goes on to hold, where other ids of the same objects do not matter
module _ (P : Id → Type 0) (D : Due → Type 0) (prints : (bytes : List ℕ) → D (PrintDue bytes))
    (fills : (m : Message) (ids : List Id) → map bare ids ≡ map bare m.ids → length ids ≡ length m.ids → (AllByRecursion P m.ids → AllByRecursion P ids)
    → D (MessageDue m) → D (MessageDue (record m { ids = ids }))) where
  pub due_each : (due : List Due) (ds rest : List Id) → Fits (flat_map ids_due due) ds rest → AllByRecursion P ds
      → AllByRecursion D due → AllByRecursion D (filled_due due ds)
  due_each [] ds rest h right all = tt
  due_each (PrintDue bytes ∷ due) ds rest h right all = (prints bytes, due_each due ds rest h right all.1)
  due_each (MessageDue m ∷ due) ds rest h right all =
      let more : List Id = managed (map bare (flat_map ids_due due)) ++ rest in
      let first : Fits m.ids ds (managed (map bare (flat_map ids_due due)) ++ rest) = fits_first m.ids (flat_map ids_due due) ds rest h in (
        fills m (filled m.ids ds) (filled_same m.ids ds more first) (length-filled m.ids ds) (λ old. filled_all P m.ids ds old right) all.0,
        due_each due (unused m.ids ds) rest (unused_rest m.ids ds more first) (unused_all P m.ids ds right) all.1,
      )
