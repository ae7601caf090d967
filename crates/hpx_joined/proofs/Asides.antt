-- What is pending while a line is worked on is all for the session.
use Rattle.std.specs.Prelude.{slice_index_or, ◌+◌, ◌≤◌, ◌⊎◌, length}
use Rattle.std.specs.List.{AllByRecursion, count_by}
use Rattle.std.proofs.Common.{ℕ, suc, true, false, List, [], ◌∷◌, ◌++◌, ◌≡◌, Option, Some, refl, sym, ap, ◌∙◌, subst, arith, lit≤, inl, inr, map}
use Rattle.hpx_value.specs.Ids.{Id}
use Rattle.hpx_value.specs.Hands.{id_at, session}
use Rattle.hpx_value.specs.declared.value.Message.{Message}
use Rattle.hpx_parcel.specs.declared.parcel.Parcel.{Parcel}
use Rattle.hpx_journal.specs.Pool.{Pool, fed}
use Rattle.hpx_journal.specs.Sessions.{IsPlainBlock, at_rest}
use Rattle.hpx_calls.specs.Ids.{ids_in}
use Rattle.hpx_calls.specs.Values.{Value, mapped}
use Rattle.hpx_patient.specs.Claims.{of_session, session_claims}
use Rattle.hpx_patient.specs.Lines.{is_line}
use Rattle.hpx_patient.specs.Patient.{AreAside, IsAside, IsPatientPlainBlock}
use Rattle.app_console.specs.Judging.{Acting}
use Rattle.app_console.specs.Plain.{Datum, Plain, Who}
use Rattle.app_console.specs.Session
use Rattle.app_console.specs.declared.table.Console.{Console}
use Rattle.app_console.specs.declared.desk.Await.{Await}
use Rattle.app_console.specs.declared.desk.Naming.{Naming}
use Rattle.app_console.proofs.Comings.{Coming, set_of}
use Rattle.app_console.proofs.Fit.{asked, at}
use Rattle.app_console.proofs.LineRuns as Runs
use Rattle.app_console.proofs.LineSteps.{IsFirst}
use Rattle.app_console.proofs.Steps.{Settled}

-- a line, or a message that claims a slot of the session
abbrev IsOurs : Message → Type 0
IsOurs m = (is_line m ≡ true) ⊎ (1 ≤ session_claims m)

no_message : (m : Message) → IsOurs m → IsAside m → ⊥
no_message m (inl line) a = let no : true ≡ false = sym line ∙ a.line in cc
no_message m (inr claims) a = omega (arith, claims, a.claims)

none_aside : (ms : List Message) → AllByRecursion IsOurs ms → AreAside ms → ms ≡ []
none_aside [] h a = refl
none_aside (m ∷ ms) h a = absurd (no_message m h.0 a.0)

-- ---- what is asked claims the slot in which the answer is awaited

last_id : (xs : List Id) → slice_index_or (xs ++ session ∷ []) (length xs) session ≡ session
last_id [] = refl
last_id (x ∷ xs) = last_id xs

behind_target : (x : Id) (xs : List Id) → id_at (x ∷ (xs ++ session ∷ [])) (length xs + 1) ≡ session
behind_target x xs =
    let one : length xs + 1 ≡ suc (length xs) = omega arith in
    ap (id_at (x ∷ (xs ++ session ∷ []))) one ∙ last_id xs

asked_claims : (ref : ℕ → Id) (slot : ℕ) (who : Who) (code : ℕ) (args : List Datum) → 1 ≤ session_claims (asked ref slot who code args)
asked_claims ref slot who code args =
    let m = asked ref slot who code args in
    let one : count_by of_session (record { object = session; number = slot } ∷ []) ≡ 1 = refl in
    let claims : count_by of_session (record { object = id_at m.ids (length (ids_in (map (mapped (at ref)) args)) + 1); number = slot } ∷ []) ≡ 1 =
    ap (λ o. count_by of_session (record { object = o; number = slot } ∷ [])) (behind_target (at ref who) (ids_in (map (mapped (at ref)) args))) ∙ one in
    omega (arith, claims)

-- ---- what answers it does, too

set_claims : (slot : ℕ) (v : Value Id) → 1 ≤ session_claims (set_of slot v)
set_claims slot v = lit≤ tt

coming_ours : (t : List ℕ) (N : List (Naming (Value Id))) (A : List Await) (ms : List Message) (ns : List (Naming (Value Id))) (aw : List Await) (k : ℕ)
    → Coming t N A ns aw ms k → AllByRecursion IsOurs ms
coming_ours t N A [] ns aw k h = tt
coming_ours t N A (m ∷ ms) ns aw k h =
    (subst IsOurs (sym h.0.message) (inr (set_claims h.0.slot h.0.value)), coming_ours t N A ms _ _ h.0.rest h.1)

-- ---- a block that ends where nothing is pending for the session ends where nothing is pending

module _ (acts : Acting) (n log limit : ℕ) (parcel_of : List ℕ → Option Parcel) (some : 1 ≤ n) (few : n ≤ 64) (k : ℕ) (little : k + 1 ≤ 4000000000) (lower : k ≤ 4000000000) (v : Plain) (con : Console)
    (mark : ℕ) (line : List ℕ) (mark_is : Session.console_of mark ≡ Some con) (short : length line ≤ 16384) (first : IsFirst con v) where
  ours : (q : Pool) → Runs.Phase acts n log limit parcel_of some few k little lower v con mark line mark_is short first q → AllByRecursion IsOurs q.pending
  ours q (inl f) = subst (AllByRecursion IsOurs) (sym f.pending) (inl refl, tt)
  ours q (inr (inl x)) = subst (AllByRecursion IsOurs) (sym x.asking.pending) (inr (asked_claims x.asking.ref x.asking.drawn x.who x.code x.args), tt)
  ours q (inr (inr x)) = coming_ours _ _ _ q.pending _ _ x.left x.coming

  pub plain_block : (text : List (List ℕ)) (p p' : Pool) → Settled n k v p
      → IsPatientPlainBlock (Runs.r acts n log limit parcel_of some few k little lower v con mark line mark_is short first) p (mark ∷ line) text p'
      → IsPlainBlock (Runs.r acts n log limit parcel_of some few k little lower v con mark line mark_is short first) p (mark ∷ line) text p'
  plain_block text p p' h b = record {
    ready = h.pending;
    steps = b.steps;
    end = b.end;
    acts = b.acts;
    idle = none_aside b.end.pending
        (ours b.end (Runs.phases acts n log limit parcel_of some few k little lower v con mark line mark_is short first b.steps (fed (at_rest p) (mark ∷ line)) b.end
        (inl (Runs.waits n k v (mark ∷ line) p h)) b.acts)) b.idle;
    printed = b.printed;
    keeps = b.keeps;
  }
