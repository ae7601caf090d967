-- What the accumulator's console of several processes wrote is what one plain space says.
use Rattle.std.specs.Prelude.{if◌then◌else◌}
use Rattle.std.specs.List.{concat, flat_map, AllByRecursion}
use Rattle.std.proofs.Common.{ℕ, Bool, true, false, List, [], ◌∷◌, ◌++◌, ◌≡◌, refl, ap, ◌∙◌, map, append-nil, append_assoc}
use Rattle.hpx_journal.specs.Entries.{Rules}
use Rattle.hpx_journal.specs.Local.{after}
use Rattle.hpx_journal.specs.Pool.{prints_of}
use Rattle.hpx_journal.specs.Sessions.{entries_of, shown}
use Rattle.hpx_journal.specs.Whole.{IsClean}
use Rattle.hpx_journal.specs.declared.local.Local.{Local}
use Rattle.hpx_part.specs.Data.{Entry, Event, Line}
use Rattle.hpx_patient.specs.Patient.{AreBlocks, FeedsReady, IfLine as IfReady, IsReady}
use Rattle.hpx_member.specs.Feeding.{FeedsIdle, IfLine, IsIdle}
use Rattle.app_console.specs.Console.{prompt}
use Rattle.app_console.specs.Lines.{first_of, is_long, others_of}
use Rattle.app_console.specs.Text.{marked, too_long, written}
use Rattle.hpx_process.specs.Parts.{IsPart, IsPartBy, Part, part_text}

-- ---- where lines are fed the console is ready

pub ready_of : (s : Local) → IsIdle s → IsReady s
ready_of s i = record { waiting = i.quiet.waiting; fired = i.quiet.fired; due = i.quiet.due; answered = i.answered }

ready_line : (e : Event) (s : Local) → IfLine e (IsIdle s) → IfReady e (IsReady s)
ready_line (Line a bytes) s h = ready_of s h
ready_line _ s h = tt

pub feeds_ready : (r : Rules) (s : Local) (es : List Entry) → FeedsIdle r s es → IsClean r s es → FeedsReady r s es
feeds_ready r s [] h c = tt
feeds_ready r s (e ∷ es) h c = (ready_line e.event s h.0, feeds_ready r (after r s e.event) es (h.1 c.0) c.1)

pub clean_front : (r : Rules) (s : Local) (xs ys : List Entry) → IsClean r s (xs ++ ys) → IsClean r s xs
clean_front r s [] ys h = tt
clean_front r s (x ∷ xs) ys h = (h.0, clean_front r (after r s x.event) xs ys h.1)

-- ---- lines that are fed have blocks

abbrev pub line_in : Part → List ℕ
line_in p = p.line

abbrev pub fed_blocks : List Part → List (List Entry)
fed_blocks [] = []
fed_blocks (p ∷ ps) = if is_long p.line then fed_blocks ps else p.entries ∷ fed_blocks ps

one_block : (b : Bool) (line : List ℕ) (entries : List Entry) (lines : List (List ℕ)) (blocks : List (List Entry)) → IsPartBy b line entries → AreBlocks lines blocks
    → AreBlocks (if b then lines else (97 ∷ line) ∷ lines) (if b then blocks else entries ∷ blocks)
one_block true line entries lines blocks h rest = rest
one_block false line entries lines blocks h rest = (h, rest)

pub blocks_begin : (ps : List Part) → AllByRecursion IsPart ps → AreBlocks (marked 97 (map line_in ps)) (fed_blocks ps)
blocks_begin [] h = tt
blocks_begin (p ∷ ps) h = one_block (is_long p.line) p.line p.entries (marked 97 (map line_in ps)) (fed_blocks ps) h.0 (blocks_begin ps h.1)

one_entries : (b : Bool) (line : List ℕ) (entries : List Entry) (blocks : List (List Entry)) → IsPartBy b line entries
    → entries ++ entries_of blocks ≡ entries_of (if b then blocks else entries ∷ blocks)
one_entries true line entries blocks h = ap (λ es. es ++ entries_of blocks) h
one_entries false line entries blocks h = refl

pub blocks_entries : (ps : List Part) → AllByRecursion IsPart ps → flat_map (λ p. p.entries) ps ≡ entries_of (fed_blocks ps)
blocks_entries [] h = refl
blocks_entries (p ∷ ps) h = ap (λ es. p.entries ++ es) (blocks_entries ps h.1) ∙ one_entries (is_long p.line) p.line p.entries (fed_blocks ps) h.0

one_text : (b : Bool) (line : List ℕ) (entries : List Entry) (lines : List (List ℕ)) (blocks : List (List Entry)) → IsPartBy b line entries
    → (prompt ++ (concat (prints_of entries) ++ (if b then too_long else []))) ++ written lines (shown blocks)
    ≡ (if b then prompt ++ (too_long ++ written lines (shown (if b then blocks else entries ∷ blocks)))
    else prompt ++ (first_of (shown (if b then blocks else entries ∷ blocks)) ++ written lines (others_of (shown (if b then blocks else entries ∷ blocks)))))
one_text true line entries lines blocks h =
    ap (λ es. (prompt ++ (concat (prints_of es) ++ too_long)) ++ written lines (shown blocks)) h ∙ append_assoc prompt too_long (written lines (shown blocks))
one_text false line entries lines blocks h =
    ap (λ t. (prompt ++ t) ++ written lines (shown blocks)) (append-nil (concat (prints_of entries)))
    ∙ append_assoc prompt (concat (prints_of entries)) (written lines (shown blocks))

pub blocks_text : (ps : List Part) → AllByRecursion IsPart ps → flat_map part_text ps ≡ written (map line_in ps) (shown (fed_blocks ps))
blocks_text [] h = refl
blocks_text (p ∷ ps) h =
    ap (λ t. part_text p ++ t) (blocks_text ps h.1)
    ∙ one_text (is_long p.line) p.line p.entries (map line_in ps) (fed_blocks ps) h.0
