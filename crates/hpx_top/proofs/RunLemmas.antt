-- What is telling of faults, telling of statuses.
use Rattle.std.specs.Prelude.{slice_get, Bool, true, false, not, ◌&&◌, Result, Ok, Err, OnOk, IfErr, IfSome, ⊤, ◌≢◌, ◌==◌, if◌then◌else◌}
use Rattle.std.proofs.Common.{ℕ, List, [], length, ◌≡◌, ◌≤◌, ◌+◌, ◌-◌, ◌⊎◌, Option, Some, None, refl, sym, ap, subst, ◌∙◌, inl, inr, arith}
use Rattle.hpx_journal.specs.Entries.{Rules}
use Rattle.hpx_value.specs.declared.profile.Profile.{Profile}
use Rattle.hpx_journal.specs.Pool.{NoneFails}
use Rattle.hpx_journal.specs.Weights.{HasRoom}
use Rattle.hpx_journal.specs.Whole.{IsCarried}
use Rattle.hpx_steps.specs.Limits.{IsWithin}
use Rattle.hpx_steps.specs.Rest.{StandsAtRest}
use Rattle.hpx_tables.specs.Tables.{Tables}
use Rattle.hpx_world.specs.Quiet.{IsQuiet}
use Rattle.hpx_world.specs.Audit.{audit_lines, IsAudit, StandWhereTold}
use Rattle.hpx_world.specs.Promises.{KeepsPromises}
use Rattle.hpx_ports.specs.Faults.{Rose}
use Rattle.hpx_world.specs.Places.{Places}
use Rattle.hpx_top.specs.declared.session.SessionFault.{SessionFault}
use Rattle.hpx_top.specs.declared.session.SessionFault.TheVariants.{Read, Write, Fabric, JournalFull, OutOfMemory, Broken, InputFull}
use Rattle.hpx_top.specs.declared.breach.Breach.TheVariants.{BadFrame, Strange, EarlyEnd}
use Rattle.hpx_ports.specs.declared.link.Latest.{Latest}
use Rattle.hpx_top.specs.Breaches.{IsShown, IsShownIn, NoBreach}
use Rattle.hpx_top.specs.Ends.{IsWhole, IsBegun, IsBroken, IsBrokenOff, IsShort, IsEndedBy, IsReadFrom, IsReadUp, IsReadOn}
use Rattle.hpx_top.specs.Runs.{Ports, HasCause, HasEnded, HasServed, IsLawful, ports_of}
use Rattle.hpx_top.specs.Session.{rules, IsRested, NoneRefused, Telling, TellsNone, ByJournal}
use Rattle.hpx_top.specs.declared.consoles.UserConsole.{UserConsole}
use Rattle.hpx_top.specs.Statuses.{IsStatus, status_after}
use Rattle.hpx_top.proofs.EndLemmas.{begun_nothing, read_from_none}
use Rattle.hpx_top.proofs.FeedLemmas.{all_granted, all_done, none_fails, on_ok}

-- ---- the answer that a status comes of

abbrev pub answer_at : ℕ → Result ⊤ SessionFault
answer_at n =
    if n == 0 then Ok tt
    else if n == 2 then Err Read
    else if n == 3 then Err Write
    else if n == 4 then Err Fabric
    else if n == 5 then Err JournalFull
    else if n == 6 then Err OutOfMemory
    else Err InputFull

-- a status with which no breach is told
abbrev pub is_plain : ℕ → Bool
is_plain n = not (n == 7) && not (n == 8)

comes_of : (r : Result ⊤ SessionFault) → is_plain (status_after r) ≡ true → r ≡ answer_at (status_after r)
comes_of (Ok x) p = refl
comes_of (Err Read) p = refl
comes_of (Err Write) p = refl
comes_of (Err Fabric) p = refl
comes_of (Err JournalFull) p = refl
comes_of (Err OutOfMemory) p = refl
comes_of (Err (Broken (BadFrame to place why))) p = absurd (let no : false ≡ true = p in cc)
comes_of (Err (Broken (Strange to rule object kept))) p = absurd (let no : false ≡ true = p in cc)
comes_of (Err (Broken (EarlyEnd sent taken))) p = absurd (let no : false ≡ true = p in cc)
comes_of (Err InputFull) p = refl

pub at : (r : Result ⊤ SessionFault) (n : ℕ) → status_after r ≡ n → is_plain n ≡ true → r ≡ answer_at n
at r n s p = comes_of r (ap is_plain s ∙ p) ∙ ap answer_at s

-- status 0 comes of no fault
pub ended_well : (r : Result ⊤ SessionFault) (P : Type 0) → status_after r ≡ 0 → OnOk r P → P
ended_well r P s h = subst (λ q. OnOk q P) (at r 0 s refl) h

by_status : (r : Result ⊤ SessionFault) (P : SessionFault → Type 0) (n : ℕ) → status_after r ≡ n → is_plain n ≡ true → IfErr r P → IfErr (answer_at n) P
by_status r P n s p h = subst (λ q. IfErr q P) (at r n s p) h

last : (r : Result ⊤ SessionFault) → status_after r ≤ 9
last (Ok x) = omega arith
last (Err Read) = omega arith
last (Err Write) = omega arith
last (Err Fabric) = omega arith
last (Err JournalFull) = omega arith
last (Err OutOfMemory) = omega arith
last (Err (Broken (BadFrame to place why))) = omega arith
last (Err (Broken (Strange to rule object kept))) = omega arith
last (Err (Broken (EarlyEnd sent taken))) = omega arith
last (Err InputFull) = omega arith

-- a run that ends with no breach
pub status_is : (r : Result ⊤ SessionFault) → IfErr r NoBreach → IsStatus (status_after r)
status_is (Ok x) none = record { last = omega arith; no_frame = λ s. absurd (omega arith); no_parcel = λ s. absurd (omega arith) }
status_is (Err Read) none = record { last = omega arith; no_frame = λ s. absurd (omega arith); no_parcel = λ s. absurd (omega arith) }
status_is (Err Write) none = record { last = omega arith; no_frame = λ s. absurd (omega arith); no_parcel = λ s. absurd (omega arith) }
status_is (Err Fabric) none = record { last = omega arith; no_frame = λ s. absurd (omega arith); no_parcel = λ s. absurd (omega arith) }
status_is (Err JournalFull) none = record { last = omega arith; no_frame = λ s. absurd (omega arith); no_parcel = λ s. absurd (omega arith) }
status_is (Err OutOfMemory) none = record { last = omega arith; no_frame = λ s. absurd (omega arith); no_parcel = λ s. absurd (omega arith) }
status_is (Err (Broken breach)) none = absurd none
status_is (Err InputFull) none = record { last = omega arith; no_frame = λ s. absurd (omega arith); no_parcel = λ s. absurd (omega arith) }

-- what a world shows, there is a world for
pub shown_in : (r : Result ⊤ SessionFault) (w : Places) (latest : Latest) → IfErr r (λ f. IsShown f w latest) → IfErr r (λ f. IsShownIn f (Some w) latest)
shown_in (Ok x) w latest h = tt
shown_in (Err Read) w latest h = tt
shown_in (Err Write) w latest h = tt
shown_in (Err Fabric) w latest h = tt
shown_in (Err JournalFull) w latest h = tt
shown_in (Err OutOfMemory) w latest h = tt
shown_in (Err (Broken breach)) w latest h = (w, refl, h)
shown_in (Err InputFull) w latest h = tt

-- ---- causes

pub cause_of : (r : Result ⊤ SessionFault) (world : Option Places) (x z : Ports)
    → (r ≡ Err Read → Rose x.read_faults z.read_faults) → (r ≡ Err Write → Rose x.write_faults z.write_faults) → (r ≡ Err Fabric → Rose x.frame_faults z.frame_faults)
    → (r ≡ Err JournalFull → IfSome world (λ w. HasRoom w.journal.entries → ⊥)) → (r ≢ Err JournalFull → IfSome world (λ w. HasRoom w.journal.entries))
    → (r ≡ Err InputFull → z.taken ≡ x.taken + 67108864)
    → (r ≢ Err Read → z.read_faults ≡ x.read_faults) → (r ≢ Err Write → z.write_faults ≡ x.write_faults) → (r ≢ Err Fabric → z.frame_faults ≡ x.frame_faults)
    → z.taken ≤ x.taken + 67108864 → HasCause (status_after r) world x z
cause_of r world x z read write frame full room input read_only write_only frame_only limit = record {
  read = λ s. read (at r 2 s refl);
  write = λ s. write (at r 3 s refl);
  frame = λ s. frame (at r 4 s refl);
  full = λ s. full (at r 5 s refl);
  room = λ no. room (λ e. no (ap status_after e));
  input = λ s. input (at r 9 s refl);
  read_only = λ no. read_only (λ e. no (ap status_after e));
  write_only = λ no. write_only (λ e. no (ap status_after e));
  frame_only = λ no. frame_only (λ e. no (ap status_after e));
  limit = limit;
}

-- without a world, for want of memory, nothing was touched
pub cause_none : (r : Result ⊤ SessionFault) (x : Ports) → r ≡ Err OutOfMemory → HasCause (status_after r) None x x
cause_none r x e = subst (λ q. HasCause (status_after q) None x x) (sym e) (record {
  read = λ s. absurd (omega arith);
  write = λ s. absurd (omega arith);
  frame = λ s. absurd (omega arith);
  full = λ s. tt;
  room = λ no. tt;
  input = λ s. absurd (omega arith);
  read_only = λ no. refl;
  write_only = λ no. refl;
  frame_only = λ no. refl;
  limit = omega arith;
})

-- what has a cause without a source has it with one of which nothing is read
pub cause_unread : (s : ℕ) (world : Option Places) (left : Option (List ℕ)) (taken reads : ℕ) (old new : Option (List ℕ)) (writes writes' frames frames' : ℕ)
    → s ≢ 2 → s ≢ 9 → HasCause s world (ports_of None 0 old 0 writes frames) (ports_of None 0 new 0 writes' frames')
    → HasCause s world (ports_of left taken old reads writes frames) (ports_of left taken new reads writes' frames')
cause_unread s world left taken reads old new writes writes' frames frames' no_read no_input h = record {
  read = λ two. absurd (no_read two);
  write = h.write;
  frame = h.frame;
  full = h.full;
  room = h.room;
  input = λ nine. absurd (no_input nine);
  read_only = λ no. refl;
  write_only = h.write_only;
  frame_only = h.frame_only;
  limit = omega arith;
}

pub no_status : (r : Result ⊤ SessionFault) (n : ℕ) → is_plain n ≡ true → r ≢ answer_at n → status_after r ≢ n
no_status r n p never s = never (at r n s p)

-- ---- texts

pub served_of : {console : UserConsole} (rs : Rules) (cuts : List ℕ) (r : Result ⊤ SessionFault) (w : Places) (input : List ℕ) (x z : Ports)
    → IsReadFrom input z.left x.taken z.taken → OnOk r (IsWhole console (ByJournal rs cuts) input w.journal.entries x.text z.text) → OnOk r (IsReadUp input z.left)
    → IsBegun console (ByJournal rs cuts) input w.journal.entries x.text z.text
    → IfErr r (λ f. IsEndedBy console f (ByJournal rs cuts) input z.left w.journal.entries x.text z.text)
    → (r ≡ Err OutOfMemory → IsShort console (ByJournal rs cuts) input z.left w.journal.entries x.text z.text)
    → ((r ≡ Err Read) ⊎ (r ≡ Err InputFull) → IsReadOn (z.taken - x.taken) (length cuts) input z.left)
    → HasServed console (ByJournal rs cuts) (status_after r) input (Some w) x z
served_of {console} rs cuts r w input x z reads whole read_up begun ended short read_on =
    let P : SessionFault → Type 0 = λ f. IsEndedBy console f (ByJournal rs cuts) input z.left w.journal.entries x.text z.text in
    record {
      reads = reads;
      whole = λ s. ended_well r _ s whole;
      read_up = λ s. ended_well r _ s read_up;
      begun = begun;
      between_lines = λ s. between s (λ two. tied (by_status r P 2 two refl ended) (read_on (inl (at r 2 two refl)))) (λ nine. tied (by_status r P 9 nine refl ended) (read_on (inr (at r 9 nine refl))));
      refused = λ s. refused_at r s ended;
      short = λ s. short (at r 6 s refl);
    }
  where
    none_of : (n : ℕ) → n ≢ 4 → n ≢ 5 → n ≢ 7 → n ≢ 8 → (n ≡ 4) ⊎ (n ≡ 5) ⊎ (n ≡ 7) ⊎ (n ≡ 8) → ⊥
    none_of n four five seven eight (inl e) = four e
    none_of n four five seven eight (inr (inl e)) = five e
    none_of n four five seven eight (inr (inr (inl e))) = seven e
    none_of n four five seven eight (inr (inr (inr e))) = eight e

    refused_at : (q : Result ⊤ SessionFault) → (status_after q ≡ 4) ⊎ (status_after q ≡ 5) ⊎ (status_after q ≡ 7) ⊎ (status_after q ≡ 8)
        → IfErr q (λ f. IsEndedBy console f (ByJournal rs cuts) input z.left w.journal.entries x.text z.text)
        → IsBroken console (ByJournal rs cuts) input z.left w.journal.entries x.text z.text
    refused_at (Err Fabric) s h = h
    refused_at (Err JournalFull) s h = h
    refused_at (Err (Broken breach)) s h = h
    refused_at (Ok t) s h = absurd (none_of 0 (omega arith) (omega arith) (omega arith) (omega arith) s)
    refused_at (Err Read) s h = absurd (none_of 2 (omega arith) (omega arith) (omega arith) (omega arith) s)
    refused_at (Err Write) s h = absurd (none_of 3 (omega arith) (omega arith) (omega arith) (omega arith) s)
    refused_at (Err OutOfMemory) s h = absurd (none_of 6 (omega arith) (omega arith) (omega arith) (omega arith) s)
    refused_at (Err InputFull) s h = absurd (none_of 9 (omega arith) (omega arith) (omega arith) (omega arith) s)

    between : {A B C : Type 0} → A ⊎ B → (A → C) → (B → C) → C
    between (inl a) f g = f a
    between (inr b) f g = g b

    tied : (b : IsBrokenOff console (ByJournal rs cuts) 0 input w.journal.entries x.text z.text) → IsReadOn (z.taken - x.taken) (length cuts) input z.left
        → (b : IsBrokenOff console (ByJournal rs cuts) 0 input w.journal.entries x.text z.text) × (IsReadOn (z.taken - x.taken) (length b.handled) input z.left)
    tied b on = (b, subst (λ many. IsReadOn (z.taken - x.taken) many input z.left) b.told.1 on)

-- without a world, for want of memory, nothing was read or written
pub served_none : {console : UserConsole} (telling : Telling) (r : Result ⊤ SessionFault) (input : List ℕ) (x : Ports) → r ≡ Err OutOfMemory → TellsNone telling → x.left ≡ Some input
    → HasServed console telling (status_after r) input None x x
served_none {console} telling r input x e uncut h = subst (λ q. HasServed console telling (status_after q) input None x x) (sym e) (record {
  reads = read_from_none input x.left x.taken h;
  whole = λ s. absurd (omega arith);
  read_up = λ s. absurd (omega arith);
  begun = begun_nothing telling input [] x.text x.text refl uncut refl;
  between_lines = λ s. absurd (neither 6 2 9 (omega arith) (omega arith) s);
  refused = λ s. absurd (none_of 6 refl s);
  short = λ s. tt;
})
  where
    none_of : (n : ℕ) → n ≡ 6 → (n ≡ 4) ⊎ (n ≡ 5) ⊎ (n ≡ 7) ⊎ (n ≡ 8) → ⊥
    none_of n six (inl e) = absurd (omega (arith, six, e))
    none_of n six (inr (inl e)) = absurd (omega (arith, six, e))
    none_of n six (inr (inr (inl e))) = absurd (omega (arith, six, e))
    none_of n six (inr (inr (inr e))) = absurd (omega (arith, six, e))

    neither : (a b c : ℕ) → a ≢ b → a ≢ c → (a ≡ b) ⊎ (a ≡ c) → ⊥
    neither a b c no_b no_c (inl e) = no_b e
    neither a b c no_b no_c (inr e) = no_c e

-- ---- worlds

-- what the law of a world tells
pub lawful_of : (w : Places) → IsWithin w.journal.entries → ((k : ℕ) (t : Tables) → slice_get w.nodes k ≡ Some t → StandsAtRest (rules w) t w.journal.entries)
    → (IsCarried (rules w) [] w.journal.entries → KeepsPromises (rules w) w.journal.entries)
    → (IsCarried (rules w) [] w.journal.entries → IsAudit (rules w) w.journal.entries (audit_lines w.nodes))
    → (IsCarried (rules w) [] w.journal.entries → IsQuiet w.nodes w.hand → StandWhereTold (rules w) w.journal.entries (audit_lines w.nodes))
    → IsLawful w
lawful_of w within stands promises audit stand = record {
  within = within;
  stands = stands;
  granted = λ carried ample. all_granted (length w.nodes) w.profile w.journal.entries ample within.entries (promises carried);
  promises = promises;
  audit = audit;
  stand = stand;
}

-- where no ask was refused, no action failed
pub lawful_calm : (w : Places) (p : Profile) → w.profile ≡ p → IsLawful w → IsCarried (rules w) [] w.journal.entries
    → NoneRefused p w.journal.entries → NoneFails w.journal.entries
lawful_calm w p tuned law carried none =
    none_fails (length w.nodes) w.profile w.journal.entries (subst (λ q. NoneRefused q w.journal.entries) (sym tuned) none) law.within.entries (law.promises carried)

pub ended_of : (r : Result ⊤ SessionFault) (w : Places) → (IsCarried (rules w) [] w.journal.entries → KeepsPromises (rules w) w.journal.entries) → OnOk r (IsRested w)
    → OnOk r (HasEnded w)
ended_of r w promises rest = on_ok r (IsRested w) (HasEnded w) (λ x is rested. record {
  rest = rested;
  done = λ carried. all_done (length w.nodes) w.profile w.journal.entries (promises carried) (rested.rest.rest carried);
}) rest
