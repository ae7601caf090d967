-- The same, as calls leave it.
use Rattle.std.proofs.Common.{true, false, ℕ, List, [], ◌∷◌, ◌≡◌, refl, sym, ap, ◌∙◌, subst, length, Option, Some, append-nil, inl, inr}
use Rattle.std.proofs.lemmas.Bool.{cases_Bool}
use Rattle.hpx_journal.specs.Entries.{Rules}
use Rattle.hpx_part.specs.Data.{In, Out, Entry}
use Rattle.hpx_part.specs.Parts.{at_boot}
use Rattle.hpx_journal.specs.Whole.{IsClean}
use Rattle.hpx_journal.specs.Laws.{outs, ins}
use Rattle.hpx_ports.specs.declared.link.Post.{Post}
use Rattle.hpx_ports.specs.declared.link.Post.TheVariants.{Sent, Received}
use Rattle.hpx_ports.specs.Told.{followed}
use Rattle.hpx_ended.specs.Waves.{IsAtRest}
use Rattle.hpx_member.specs.Bodies.{is_frame, counts_of, heard}
use Rattle.hpx_member.specs.declared.bodies.Told.{Told}
use Rattle.hpx_member.specs.Seats.{IsSeated, IsInside, BeginsBy}
use Rattle.hpx_member.proofs.Grown.{seated_act, seated_pump, seated_heard, seated_control, seated_take, seated_answer}

pub acted : (r : Rules) (k k' : ℕ) (idle idle' : Type 0) (es es' : List Entry) (trace : Option (List Post)) → IsSeated r k idle es [] trace
    → IsInside k es es' → (idle → idle' × (es' ≡ es)) → k' ≡ k → IsSeated r k' idle' es' [] trace
acted r k k' idle idle' es es' trace seated inside still same =
    subst (λ j. IsSeated r j idle' es' [] trace) (sym same) (seated_act r k idle idle' es es' [] trace seated inside still)

pub pumped : (r : Rules) (k k' : ℕ) (idle idle' : Type 0) (es es' : List Entry) (trace trace' : Option (List Post)) (to : ℕ) (frame bytes : List ℕ)
    → IsSeated r k idle es [] trace → BeginsBy k (Out to frame) es es' → is_frame frame ≡ true → (idle → ⊥) → k' ≡ k
    → trace' ≡ followed trace (Sent to bytes ∷ []) → bytes ≡ frame → IsSeated r k' idle' es' [] trace'
pumped r k k' idle idle' es es' trace trace' to frame bytes seated writes fr busy same told spelled =
    subst (λ tr. IsSeated r k' idle' es' [] tr) (sym (told ∙ ap (λ b. followed trace (Sent to b ∷ [])) spelled))
    (subst (λ j. IsSeated r j idle' es' [] (followed trace (Sent to frame ∷ []))) (sym same)
    (seated_pump r k idle idle' es es' trace to frame seated writes fr busy))

pub listened : (r : Rules) (k : ℕ) (idle : Type 0) (es : List Entry) (trace trace' : Option (List Post)) (from : ℕ) (body : List ℕ)
    → IsSeated r k idle es [] trace → trace' ≡ followed trace (Received from body ∷ []) → IsSeated r k idle es (heard k body) trace'
listened r k idle es trace trace' from body seated told =
    subst (λ tr. IsSeated r k idle es (heard k body) tr) (sym told) (elim (cases_Bool (is_frame body)) [
      | inl t ↦
          let e : heard k body ≡ (k, body) ∷ [] = rw t refl in
          subst (λ rest. IsSeated r k idle es rest (followed trace (Received from body ∷ []))) (sym e) (seated_heard r k idle es trace from body seated t)
      | inr f ↦
          let e : heard k body ≡ [] = rw f refl in
          subst (λ rest. IsSeated r k idle es rest (followed trace (Received from body ∷ []))) (sym e) (seated_control r k idle es trace from body seated f)
    ])

pub accepted : (r : Rules) (k k' : ℕ) (idle idle' : Type 0) (es es' : List Entry) (trace : Option (List Post)) (body : List ℕ)
    → IsSeated r k idle es (heard k body) trace → is_frame body ≡ true → BeginsBy k (In body) es es' → k' ≡ k → IsSeated r k' idle' es' [] trace
accepted r k k' idle idle' es es' trace body seated t writes same =
    let e : heard k body ≡ (k, body) ∷ [] = rw t refl in
    subst (λ j. IsSeated r j idle' es' [] trace) (sym same)
    (seated_take r k idle idle' es es' trace body (subst (λ rest. IsSeated r k idle es rest trace) e seated) writes)

pub unheard : (r : Rules) (k : ℕ) (idle : Type 0) (es : List Entry) (trace : Option (List Post)) (body : List ℕ)
    → IsSeated r k idle es (heard k body) trace → is_frame body ≡ false → IsSeated r k idle es [] trace
unheard r k idle es trace body seated f =
    let e : heard k body ≡ [] = rw f refl in subst (λ rest. IsSeated r k idle es rest trace) e seated

pub answered : (r : Rules) (k : ℕ) (idle : Type 0) (es : List Entry) (trace trace' : Option (List Post)) (to : ℕ) (body bytes : List ℕ) (c : Told)
    → IsSeated r k idle es [] trace → idle → (IsClean r (at_boot r k) es → IsAtRest r k es) → counts_of body ≡ Some c → c.sent ≡ length (outs es) → c.taken ≡ length (ins es)
    → trace' ≡ followed trace (Sent to bytes ∷ []) → bytes ≡ body → IsSeated r k idle es [] trace'
answered r k idle es trace trace' to body bytes c seated now rest counts sent taken told spelled =
    subst (λ tr. IsSeated r k idle es [] tr) (sym (told ∙ ap (λ b. followed trace (Sent to b ∷ [])) spelled))
    (seated_answer r k idle es now rest trace to body c seated counts sent taken)

-- a member whose locality did not change stays as it is
pub refused : (r : Rules) (k k' : ℕ) (idle idle' : Type 0) (es es' : List Entry) (rest : List (ℕ × List ℕ)) (trace : Option (List Post))
    → IsSeated r k idle es rest trace → es' ≡ es → (idle → idle') → k' ≡ k → IsSeated r k' idle' es' rest trace
refused r k k' idle idle' es es' rest trace seated same still there =
    subst (λ j. IsSeated r j idle' es' rest trace) (sym there)
    (seated_act r k idle idle' es es' rest trace seated
    (record { later = []; is = same ∙ sym (append-nil es); own = tt; outs = refl; ins = refl; unfed = tt }) (λ i. (still i, same)))

pub refused_heard : (r : Rules) (k k' : ℕ) (idle idle' : Type 0) (es es' : List Entry) (trace : Option (List Post)) (body : List ℕ)
    → IsSeated r k idle es (heard k body) trace → (es' ≡ es) × (idle → idle') → k' ≡ k → IsSeated r k' idle' es' (heard k' body) trace
refused_heard r k k' idle idle' es es' trace body seated same there =
    subst (λ j. IsSeated r j idle' es' (heard j body) trace) (sym there)
    (refused r k k idle idle' es es' (heard k body) trace seated same.0 same.1 refl)
