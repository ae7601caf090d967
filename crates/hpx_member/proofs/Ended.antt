-- What a member leaves, by how it ended.
use Rattle.std.proofs.Common.{ℕ, List, [], ◌∷◌, ◌≡◌, ◌≢◌, ◌≤◌, Option, Some, Result, Ok, Err, refl, sym, ap, ◌∙◌, subst, arith, inl, inr, length}
use Rattle.std.specs.Result.{IfErr, OnOk}
use Rattle.hpx_value.specs.declared.profile.Profile.{Profile}
use Rattle.hpx_journal.specs.Entries.{Frame, Rules}
use Rattle.hpx_part.specs.Data.{Entry}
use Rattle.hpx_tables.specs.Tables.{IsPassive, Tables}
use Rattle.hpx_steps.specs.Rest.{rules_of}
use Rattle.hpx_ports.specs.declared.link.Post.{Post}
use Rattle.hpx_member.specs.Seats.{IsPart, IsTraced, Meaning, Sits, Tells}
use Rattle.hpx_member.specs.Stops.{MayLeave, SitsLeft, end_status, status_of}
use Rattle.hpx_member.specs.declared.stop.MemberFault.TheVariants.{BadFrame, Strange, OutOfPlace, Waves}
use Rattle.hpx_member.specs.declared.stop.Stop.{Stop}
use Rattle.hpx_member.specs.declared.stop.Stop.TheVariants.{Link, JournalFull, OutOfMemory, Fault}
use Rattle.hpx_member.proofs.Turned.{keeps}

-- nothing was done
pub tells_none : (r : Rules) (k status : ℕ) (es : List Entry) (tr : List Post) → es ≡ [] → tr ≡ [] → Tells r k status es tr
tells_none r k status es tr none empty =
    subst (λ xs. Tells r k status xs tr) (sym none)
    (subst (Tells r k status []) (sym empty)
    (record { sent = refl; rest = []; came = refl; few = omega arith; none = λ z a b c. refl; lengths = []; told = refl }))

-- a frame is left at 5, 6, 7 and 8 alone
leaves_status : (stop : Stop) → MayLeave stop → status_of stop ≢ 5 → status_of stop ≢ 6 → status_of stop ≢ 7 → status_of stop ≢ 8 → ⊥
leaves_status Link may z a b c = may
leaves_status JournalFull may z a b c = z refl
leaves_status OutOfMemory may z a b c = a refl
leaves_status (Fault (BadFrame from at why)) may z a b c = b refl
leaves_status (Fault (Strange from rule object kept)) may z a b c = c refl
leaves_status (Fault (OutOfPlace from)) may z a b c = c refl
leaves_status (Fault Waves) may z a b c = c refl

module _ (act_of : Meaning) (k n : ℕ) (profile : Profile) (t : Tables) (es : List Entry) (trace : Option (List Post)) (here : t.here ≡ k)
    (localities : t.localities ≡ n) (by : t.profile ≡ profile) where
  pub rules_is : rules_of act_of t.localities t.profile ≡ rules_of act_of n profile
  rules_is = ap (λ m. rules_of act_of m t.profile) localities ∙ ap (λ p. rules_of act_of n p) by

  pub part_left : (rest : List Frame) → Sits act_of t es rest trace → IsPart (rules_of act_of n profile) k es
  part_left rest sits =
      subst (λ j. IsPart (rules_of act_of n profile) j es) here
      (subst (λ r. IsPart r t.here es) rules_is
      (record { own = sits.seated.own; keeps = keeps act_of t es sits.stands sits.seated.own; within = sits.within }))

  pub tells_left : (rest : List Frame) (status : ℕ) → Sits act_of t es rest trace → length rest ≤ 1 → (status ≢ 5 → status ≢ 6 → status ≢ 7 → status ≢ 8 → rest ≡ [])
      → (tr : List Post) → trace ≡ Some tr → Tells (rules_of act_of n profile) k status es tr
  tells_left rest status sits few none tr told =
      let x : IsTraced (rules_of act_of t.localities t.profile) t.here (IsPassive t) es rest tr = sits.seated.traced tr told in
      subst (λ j. Tells (rules_of act_of n profile) j status es tr) here
      (subst (λ r. Tells r t.here status es tr) rules_is
      (record { sent = x.sent; rest = rest; came = x.came; few = few; none = none; lengths = x.lengths; told = x.told }))

  pub part_ran : (ran : Result (Unit {0}) Stop) → OnOk ran (Sits act_of t es [] trace) → IfErr ran (λ stop. SitsLeft act_of stop t es trace)
      → IsPart (rules_of act_of n profile) k es
  part_ran (Ok x) sits left = part_left [] sits
  part_ran (Err stop) sits (inl h) = part_left [] h
  part_ran (Err stop) sits (inr h) = part_left (h.1.0 ∷ []) h.1.1

  pub tells_ran : (ran : Result (Unit {0}) Stop) → OnOk ran (Sits act_of t es [] trace) → IfErr ran (λ stop. SitsLeft act_of stop t es trace)
      → (tr : List Post) → trace ≡ Some tr → Tells (rules_of act_of n profile) k (end_status ran) es tr
  tells_ran (Ok x) sits left tr told = tells_left [] 0 sits (omega arith) (λ z a b c. refl) tr told
  tells_ran (Err stop) sits (inl h) tr told = tells_left [] (status_of stop) h (omega arith) (λ z a b c. refl) tr told
  tells_ran (Err stop) sits (inr h) tr told =
      tells_left (h.1.0 ∷ []) (status_of stop) h.1.1 (omega arith) (λ z a b c. absurd (leaves_status stop h.0 z a b c)) tr told
