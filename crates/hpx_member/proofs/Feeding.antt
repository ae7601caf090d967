-- Lines that are fed, as a journal grows.
use Rattle.std.proofs.Common.{ℕ, List, [], ◌∷◌, ◌++◌, ◌≡◌, refl, sym, ap, ◌∙◌, subst, append-nil, append_assoc, inl, inr}
use Rattle.std.specs.List.{AllByRecursion}
use Rattle.hpx_journal.specs.Entries.{Rules}
use Rattle.hpx_journal.specs.Local.{after}
use Rattle.hpx_journal.specs.Sessions.{BeginsWith, FeedsNothing}
use Rattle.hpx_journal.specs.Whole.{IsClean, run_local}
use Rattle.hpx_part.specs.Data.{Entry, Event, Line, Local, Name}
use Rattle.hpx_tables.specs.Tables.{Tables}
use Rattle.hpx_node.specs.Changes.{Writes}
use Rattle.hpx_member.specs.Seats.{Grows}
use Rattle.hpx_member.specs.Feeding.{AddsNoLine, FeedsAtMost, FeedsIdle, FeedsLine, IfLine, IsIdle}
use Rattle.hpx_member.proofs.Grown.{all-append}

-- ---- no line

pub adds_none : (es es' : List Entry) → es' ≡ es → AddsNoLine es es'
adds_none es es' same = record { later = []; is = same ∙ sym (append-nil es); unfed = tt }

pub adds_then : (es mid es' : List Entry) → AddsNoLine es mid → AddsNoLine mid es' → AddsNoLine es es'
adds_then es mid es' a b = record {
  later = a.later ++ b.later;
  is = b.is ∙ (ap (λ xs. xs ++ b.later) a.is ∙ append_assoc es a.later b.later);
  unfed = all-append (λ e. FeedsNothing e.event) a.later b.later a.unfed b.unfed;
}

pub adds_grown : (t t' : Tables) (es es' : List Entry) → Grows t t' es es' → AddsNoLine es es'
adds_grown t t' es es' g = record { later = g.later; is = g.is; unfed = g.unfed }

-- from no entries on
pub adds_all : (es es' : List Entry) → es ≡ [] → AddsNoLine es es' → AllByRecursion (λ e. FeedsNothing e.event) es'
adds_all es es' none a = subst (AllByRecursion (λ e. FeedsNothing e.event)) (sym (a.is ∙ ap (λ xs. xs ++ a.later) none)) a.unfed

-- ---- one line

pub feeds_written : (t t' : Tables) (es es' : List Entry) (a : Name) (bytes : List ℕ) → Writes (Line a bytes ∷ []) t t' es es' → FeedsLine bytes es es'
feeds_written t t' es es' a bytes w = record {
  later = record { at = t.here; event = Line a bytes } ∷ [];
  is = w.grows;
  begins = ((a, refl), tt);
}

begins_append : (line : List ℕ) (xs later : List Entry) → BeginsWith line xs → AllByRecursion (λ e. FeedsNothing e.event) later → BeginsWith line (xs ++ later)
begins_append line [] later h unfed = absurd h
begins_append line (x ∷ xs) later h unfed = (h.0, all-append (λ e. FeedsNothing e.event) xs later h.1 unfed)

pub feeds_then : (line : List ℕ) (es mid es' : List Entry) → FeedsLine line es mid → AddsNoLine mid es' → FeedsLine line es es'
feeds_then line es mid es' f a = record {
  later = f.later ++ a.later;
  is = a.is ∙ (ap (λ xs. xs ++ a.later) f.is ∙ append_assoc es f.later a.later);
  begins = begins_append line f.later a.later f.begins a.unfed;
}

pub most_none : (line : List ℕ) (es es' : List Entry) → es' ≡ es → FeedsAtMost line es es'
most_none line es es' same = inl same

pub most_fed : (line : List ℕ) (es es' : List Entry) → FeedsLine line es es' → FeedsAtMost line es es'
most_fed line es es' f = inr f

-- ---- where lines are fed

unfed_no_line : (e : Event) (P : Type 0) → FeedsNothing e → IfLine e P
unfed_no_line (Line a bytes) P h = absurd h
unfed_no_line _ P h = tt

unfed_idle : (r : Rules) (s : Local) (later : List Entry) → AllByRecursion (λ e. FeedsNothing e.event) later → FeedsIdle r s later
unfed_idle r s [] h = tt
unfed_idle r s (e ∷ es) h = (unfed_no_line e.event (IsIdle s) h.0, λ near. unfed_idle r (after r s e.event) es h.1)

-- more is written
idle_then : (r : Rules) (s : Local) (es later : List Entry) → FeedsIdle r s es → (IsClean r s es → FeedsIdle r (run_local r s es) later)
    → FeedsIdle r s (es ++ later)
idle_then r s [] later h more = more tt
idle_then r s (e ∷ es) later h more = (h.0, λ near. idle_then r (after r s e.event) es later (h.1 near) (λ clean. more (near, clean)))

-- more without a line
pub idle_unfed : (r : Rules) (s : Local) (es later : List Entry) → FeedsIdle r s es → AllByRecursion (λ e. FeedsNothing e.event) later
    → FeedsIdle r s (es ++ later)
idle_unfed r s es later h unfed = idle_then r s es later h (λ clean. unfed_idle r (run_local r s es) later unfed)

if_line : (e : Event) (P : Type 0) → P → IfLine e P
if_line (Line a bytes) P h = h
if_line _ P h = tt

begins_idle : (r : Rules) (s : Local) (line : List ℕ) (later : List Entry) → IsIdle s → BeginsWith line later → FeedsIdle r s later
begins_idle r s line [] idle h = absurd h
begins_idle r s line (e ∷ es) idle h = (if_line e.event (IsIdle s) idle, λ near. unfed_idle r (after r s e.event) es h.1)

-- a line more, where nothing is under way
pub idle_fed : (r : Rules) (s : Local) (line : List ℕ) (es later : List Entry) → FeedsIdle r s es → (IsClean r s es → IsIdle (run_local r s es))
    → BeginsWith line later → FeedsIdle r s (es ++ later)
idle_fed r s line es later h idle begins =
    idle_then r s es later h (λ clean. begins_idle r (run_local r s es) line later (idle clean) begins)
