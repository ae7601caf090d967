-- Where a home was told that an object has landed, it did.
use Rattle.std.proofs.Common.{ℕ, Bool, true, false, cond, List, [], ◌∷◌, ◌≡◌, ◌<◌, ◌≤◌, ◌==◌, Option, Some, None, length, refl, sym, ap, ◌∙◌, subst, arith, inl, inr}
use Rattle.std.specs.Prelude.{◌&&◌, ◌⊎◌}
use Rattle.std.specs.List.{slice_get, AllByRecursion}
use Rattle.std.proofs.lemmas.Bool.{cases_lt, eqb-true}
use Rattle.std.proofs.lemmas.List.Sums.{sum_by-cons}
use Rattle.hpx_value.specs.Ids.{same_object}
use Rattle.hpx_value.specs.declared.profile.Profile.{Profile}
use Rattle.hpx_journal.specs.Data.{Id, Parcel, Apply, Return, Ask, Give, Cached, Move, Go, Shipped, Arrived, Free}
use Rattle.hpx_journal.specs.Entries.{Rules, Frame}
use Rattle.hpx_journal.specs.Laws.{count_events}
use Rattle.hpx_journal.specs.Moving.{is_landed_of}
use Rattle.hpx_journal.specs.Whole.{IsCarried, arrives, arrives_at, sends, part}
use Rattle.hpx_journal.proofs.Alls.{all-any, all-map}
use Rattle.hpx_journal.proofs.Failures.{below_all}
use Rattle.hpx_journal.proofs.Frames.{each_entry, each_frame, part_each, sum_le}
use Rattle.hpx_journal.proofs.Same.{and_true, same_object-true}
use Rattle.hpx_part.specs.Data.{Event, Entry, In, Out, Landed}
use Rattle.hpx_steps.specs.Frames.{IsOnItsWay}
use Rattle.hpx_steps.specs.Rest.{IsPaid, rules_of}
use Rattle.hpx_steps.specs.Rows.{TellsOf, IsRowAt, causes, goes, owes, tell_of, tells_at, weighed}
use Rattle.hpx_steps.specs.Sound.{SendsOwn, all_count, come}
use Rattle.hpx_agas.specs.Records.{find_record}
use Rattle.hpx_agas.specs.declared.record.Record.{Record}
use Rattle.hpx_tables.specs.Tables.{Tables}
use Rattle.hpx_world.specs.Audit.{HasLanded}
use Rattle.hpx_world.specs.Sound.{Meaning, IsSound}
use Rattle.hpx_world.proofs.Sound.{get_some, told_all}

-- what a sum has of one entry is no more than all of it
le_all : (f : Id → Event → ℕ) (n : Id → ℕ) (Q : Id → Type 0) (es : List Entry) → ((o : Id) → Q o → all_count (f o) es ≤ n o)
    → AllByRecursion (λ (e : Entry). (o : Id) → Q o → f o e.event ≤ n o) es
le_all f n Q [] h = tt
le_all f n Q (e ∷ es) h = (
  (λ o q. omega (arith, h o q, sum_by-cons (λ (x : Entry). f o x.event) e es)),
  le_all f n Q es (λ o q. omega (arith, h o q, sum_by-cons (λ (x : Entry). f o x.event) e es)),
)

both_all : (A B : Entry → Type 0) (es : List Entry) → AllByRecursion A es → AllByRecursion B es → AllByRecursion (λ e. A e × B e) es
both_all A B [] a b = tt
both_all A B (e ∷ es) a b = ((a.0, b.0), both_all A B es a.1 b.1)

-- a landing alone causes that its home is told
caused : (r : Rules) (o : Id) (e : Event) → causes r (TellsOf o) e ≤ cond (is_landed_of o e) 1 0
caused r o (In bytes) = none_owed (r.parcel_of bytes)
  where
    none_owed : (p : Option Parcel) → weighed (owes (TellsOf o)) p ≤ 0
    none_owed None = omega arith
    none_owed (Some p) = omega arith
caused r o (Landed x) = omega arith
caused r o _ = omega arith

one_true : (b : Bool) → 1 ≤ cond b 1 0 → b ≡ true
one_true true h = refl
one_true false h = absurd (omega (arith, h))

-- ---- a frame

module _ (r : Rules) (es : List Entry) where
  -- what it tells has happened
  abbrev pub TellsSo : Frame → Type 0
  TellsSo f = (o : Id) (j : ℕ) → 1 ≤ weighed (tells_at o j) (r.parcel_of f.1) → HasLanded o j es

  -- what k sends, where its landings are counted
  abbrev SendsSo : ℕ → ℕ → Entry → Type 0
  SendsSo log k e = SendsOwn r r.localities k log e.event × ((o : Id) → IsRowAt r.localities k (TellsOf o) → goes r (TellsOf o) e.event ≤ count_events (is_landed_of o) (part k es))

  tells_one : (k to log : ℕ) (o : Id) (j : ℕ) (p : Parcel) → IsOnItsWay r.localities k (record { to = to; parcel = p })
      → ((x : Id) → IsRowAt r.localities k (TellsOf x) → tell_of x p ≤ count_events (is_landed_of x) (part k es)) → 1 ≤ tells_at o j p → HasLanded o j es
  tells_one k to log o j (Arrived id place) way most some =
      let k' = one_true (same_object o id && (place == j)) some in
      let parts = and_true (same_object o id) (place == j) k' in
      let home : o.home ≡ to = ap (λ (x : Id). x.home) (same_object-true o id parts.0) ∙ sym way.may.0 in
      let at : k ≡ j = sym way.may.1 ∙ eqb-true place j parts.1 in
      let row : IsRowAt r.localities k (TellsOf o) = (omega (arith, home, way.somewhere), λ e. way.away (sym home ∙ e)) in
      let told : tell_of o (Arrived id place) ≡ 1 = rw parts.0 refl in
      subst (λ (n : ℕ). HasLanded o n es) at (omega (arith, most o row, told))
  tells_one k to log o j (Apply act) way most some = absurd (omega (arith, some))
  tells_one k to log o j (Move act) way most some = absurd (omega (arith, some))
  tells_one k to log o j (Go act) way most some = absurd (omega (arith, some))
  tells_one k to log o j (Shipped act state) way most some = absurd (omega (arith, some))
  tells_one k to log o j (Return id) way most some = absurd (omega (arith, some))
  tells_one k to log o j (Ask id asker entry) way most some = absurd (omega (arith, some))
  tells_one k to log o j (Give id entry) way most some = absurd (omega (arith, some))
  tells_one k to log o j (Cached id place) way most some = absurd (omega (arith, some))
  tells_one k to log o j (Free id) way most some = absurd (omega (arith, some))

  sent_so : (log k : ℕ) (e : Event) → SendsOwn r r.localities k log e
      → ((o : Id) → IsRowAt r.localities k (TellsOf o) → goes r (TellsOf o) e ≤ count_events (is_landed_of o) (part k es)) → AllByRecursion TellsSo (sends e)
  sent_so log k (Out to bytes) own most = (
    (λ o j some. tells_one k to log o j own.parcel own.way
        (λ x row. let e : weighed (tell_of x) (r.parcel_of bytes) ≡ tell_of x own.parcel = ap (weighed (tell_of x)) own.spelled in omega (arith, e, most x row))
        (let e : weighed (tells_at o j) (r.parcel_of bytes) ≡ tells_at o j own.parcel = ap (weighed (tells_at o j)) own.spelled in omega (arith, e, some))),
    tt,
  )
  sent_so log k _ own most = tt

  -- among what came one tells so
  come_so : (o : Id) (j : ℕ) (xs : List Entry) → AllByRecursion (λ e. AllByRecursion TellsSo (arrives e)) xs → 1 ≤ all_count (come r (tells_at o j)) xs → HasLanded o j es
  come_so o j [] all some = absurd (omega (arith, some))
  come_so o j (e ∷ xs) all some = elim (cases_lt 0 (come r (tells_at o j) e.event)) [
    | inl one ↦ each e.at e.event all.0 one
    | inr none ↦ come_so o j xs all.1 (omega (arith, some, none, sum_by-cons (λ (x : Entry). come r (tells_at o j) x.event) e xs))
  ]
    where
      each : (at : ℕ) (ev : Event) → AllByRecursion TellsSo (arrives_at at ev) → 0 < come r (tells_at o j) ev → HasLanded o j es
      each at (In bytes) h one = h.0 o j one
      each at _ h one = absurd (omega (arith, one))

-- ---- all localities

module _ (act_of : Meaning) (profile : Profile) (nodes : List Tables) (es : List Entry) (sound : IsSound act_of profile nodes es)
    (carried : IsCarried (rules_of act_of (length nodes) profile) [] es) where
  abbrev r : Rules
  r = rules_of act_of (length nodes) profile

  sends_so : (k : ℕ) → k < length nodes → AllByRecursion (λ (e : Entry). AllByRecursion (TellsSo r es) (sends e.event)) (part k es)
  sends_so k lt =
      let x = get_some nodes k lt in
      let at = sound.stand k x.0 x.1 in
      let told = told_all act_of profile nodes es sound k x.0 x.1 in
      let paid = subst (λ n. IsPaid r x.0 (part n es)) at.here told.stands.paid in
      let sent : AllByRecursion (λ (e : Entry). SendsOwn r r.localities k x.0.profile.credit_log e.event) (part k es) =
      subst (λ n. AllByRecursion (λ (e : Entry). SendsOwn r r.localities n x.0.profile.credit_log e.event) (part n es)) at.here
      (subst (λ n. AllByRecursion (λ (e : Entry). SendsOwn r n x.0.here x.0.profile.credit_log e.event) (part x.0.here es)) at.localities told.orderly.sent) in
      let counts = le_all (λ o. goes r (TellsOf o)) (λ o. count_events (is_landed_of o) (part k es)) (λ o. IsRowAt r.localities k (TellsOf o)) (part k es) (λ o row. omega (
        arith,
        paid.rows (TellsOf o) (subst (λ n. IsRowAt n x.0.here (TellsOf o)) (sym at.localities) (subst (λ n. IsRowAt r.localities n (TellsOf o)) (sym at.here) row)),
        sum_le (λ (e : Entry). causes r (TellsOf o) e.event) (λ (e : Entry). cond (is_landed_of o e.event) 1 0) (part k es)
            (all-any (λ (e : Entry). causes r (TellsOf o) e.event ≤ cond (is_landed_of o e.event) 1 0) (λ e. caused r o e.event) (part k es)),
      )) in
      all-map (SendsSo r es x.0.profile.credit_log k) (λ (e : Entry). AllByRecursion (TellsSo r es) (sends e.event)) (λ e h. sent_so r es x.0.profile.credit_log k e.event h.0 h.1) (part k es)
      (both_all (λ (e : Entry). SendsOwn r r.localities k x.0.profile.credit_log e.event)
      (λ (e : Entry). (o : Id) → IsRowAt r.localities k (TellsOf o) → goes r (TellsOf o) e.event ≤ count_events (is_landed_of o) (part k es)) (part k es) sent counts)

  arrivals_so : AllByRecursion (λ e. AllByRecursion (TellsSo r es) (arrives e)) es
  arrivals_so = (each_frame r (TellsSo r es) [] es carried tt
      (each_entry r.localities (λ k e. AllByRecursion (TellsSo r es) (sends e)) es (below_all r [] es carried) sends_so)).1

  -- where an object is by its record, there it was born, or it has landed
  pub placed_so : (k : ℕ) (t : Tables) → slice_get nodes k ≡ Some t → (o : Id) (x : Record) → find_record o t.records ≡ Some x → (x.place ≡ t.here) ⊎ HasLanded o x.place es
  placed_so k t at o x found = elim ((told_all act_of profile nodes es sound k t at).placed.placed o x found) [
    | inl here ↦ inl here
    | inr some ↦ inr (come_so r es o x.place (part t.here es) (part_each (λ e. AllByRecursion (TellsSo r es) (arrives e)) t.here es arrivals_so) some)
  ]
