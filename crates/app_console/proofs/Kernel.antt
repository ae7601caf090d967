-- An action that a line asks for, as the pool has it, is the plain call over ids; and it comes to what the plain call comes to.
use Rattle.std.specs.Prelude.{ℕ, suc, true, List, [], ◌∷◌, ◌++◌, ◌+◌, ◌≡◌, Some, length, map, refl}
use Rattle.std.proofs.Common.{ap, ◌∙◌, arith}
use Rattle.hpx_value.specs.Ids.{Id}
use Rattle.hpx_value.specs.Values.{named}
use Rattle.hpx_value.specs.Hands.{Slot, session, id_at}
use Rattle.hpx_calls.specs.Values.{Value, plain, mapped}
use Rattle.hpx_calls.specs.declared.content.Content.{Content}
use Rattle.hpx_calls.specs.Requests.{request_of}
use Rattle.hpx_calls.specs.Tables.{called}
use Rattle.hpx_calls.specs.Histories.{Call}
use Rattle.hpx_calls.specs.Ids.{call_of, ids_in}
use Rattle.hpx_calls.proofs.Seen.{seen_again}
use Rattle.app_console.specs.Plain.{Who, Datum}
use Rattle.app_console.proofs.Fit.{at, asked, session_slot}
use Rattle.hpx_calls.specs.Mapped.{content_seen, called_seen}
use Rattle.hpx_calls.proofs.OverAlike.{called_is_seen, request_is_seen}

-- the last of some ids
last_id : (xs : List Id) (o : Id) → id_at (xs ++ o ∷ []) (length xs) ≡ o
last_id [] o = refl
last_id (x ∷ xs) o = last_id xs o

call_by_parts : Call (Value Id) Slot → Call (Value Id) Slot → Type 0
call_by_parts c d = (c.request ≡ d.request) × (c.waiter ≡ d.waiter)

module _ (ref : ℕ → Id) (slot : ℕ) (who : Who) (code : ℕ) (args : List Datum) where
  pub request_is : (call_of (named 0 0 (asked ref slot who code args))).request ≡ request_of (plain Id) code true (map (mapped (at ref)) args)
  request_is = ap (request_of (plain Id) code true) (seen_again (at ref who ∷ []) (map (mapped (at ref)) args) (session ∷ []))

  pub waiter_is : (call_of (named 0 0 (asked ref slot who code args))).waiter ≡ Some (session_slot slot)
  waiter_is =
      let one : length (ids_in (map (mapped (at ref)) args)) + 1 ≡ suc (length (ids_in (map (mapped (at ref)) args))) = omega arith in
      ap (λ m. Some (record { object = id_at (at ref who ∷ (ids_in (map (mapped (at ref)) args) ++ session ∷ [])) m; number = slot })) one
      ∙ ap (λ o. Some (record { object = o; number = slot })) (last_id (at ref who ∷ ids_in (map (mapped (at ref)) args)) session)

-- what the plain call comes to, over ids
pub called_over : (ref : ℕ → Id) (here kind w code : ℕ) (x : Content Datum) (args : List Datum)
    → called (plain Id) here kind w true (content_seen (at ref) x) (request_of (plain Id) code true (map (mapped (at ref)) args))
    ≡ called_seen (at ref) (called (plain Who) here kind w true x (request_of (plain Who) code true args))
called_over ref here kind w code x args =
    ap (called (plain Id) here kind w true (content_seen (at ref) x)) (request_is_seen (at ref) code true args)
    ∙ called_is_seen (at ref) here kind w true x (request_of (plain Who) code true args)
