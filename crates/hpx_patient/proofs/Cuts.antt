-- A journal is cut before each line: the blocks of the console's own part are the parts of the blocks of the whole.
use Rattle.std.proofs.Common.{ℕ, List, [], ◌∷◌, ◌++◌, ◌≡◌, ◌≢◌, refl, sym, ap, ◌∙◌, subst, inl, inr, append_assoc}
use Rattle.std.specs.List.{AllByRecursion}
use Rattle.std.proofs.lemmas.Bool.{cases_eq}
use Rattle.hpx_journal.specs.Entries.{Rules}
use Rattle.hpx_journal.specs.Local.{after, boot}
use Rattle.hpx_journal.specs.Roots.{roots}
use Rattle.hpx_journal.specs.Rows.{Allowed, Row}
use Rattle.hpx_journal.specs.Whole.{Space, step, run_local, part, replayed, IsLegal, IsLegalFrom}
use Rattle.hpx_journal.specs.Laws.{HasGrammar, KeepsActLaws}
use Rattle.hpx_journal.specs.Pool.{prints_of, IsBlind, NoneFails, boot_pool}
use Rattle.hpx_journal.specs.Sessions.{FeedsNothing, BeginsWith, entries_of, shown}
use Rattle.hpx_journal.proofs.Fronts.{legal_front, legal_rest, run_append}
use Rattle.hpx_journal.proofs.Grow.{run_part}
use Rattle.hpx_journal.proofs.Reduced.{none_front}
use Rattle.hpx_journal.proofs.Start.{first, start_whole, legal_whole}
use Rattle.hpx_journal.proofs.Wholes.{IsWhole, whole_step}
use Rattle.hpx_patient.specs.Data.{Event, Line, Entry, Local}
use Rattle.hpx_patient.specs.Lines.{LinesStay}
use Rattle.hpx_patient.specs.Patient.{IsReady, IsPatientBlock, IsPatientSession, IfLine, FeedsReady, AreBlocks, IsPatientPart, IsPatientPlainSession, IsPatientPlainBrokenOff}
use Rattle.hpx_patient.proofs.Patient.{stay_front, patient_plain, patient_front}
use Rattle.hpx_patient.proofs.Prints.{part_first, part_skips, prints_behind}

-- ---- a list is split where its part is

-- the first entry, if there is one, is at 0
abbrev IsSnug : List Entry → Type 0
IsSnug [] = Unit {0}
IsSnug (e ∷ es) = e.at ≡ 0

snug_front : (xs ys : List Entry) → IsSnug (xs ++ ys) → IsSnug xs
snug_front [] ys h = tt
snug_front (x ∷ xs) ys h = h

record IsSplit (es xs ys : List Entry) : Type 0 where
  front : List Entry
  back : List Entry
  is : es ≡ front ++ back
  part_front : part 0 front ≡ xs
  part_back : part 0 back ≡ ys
  snug : IsSnug back

split_here : (e : Entry) (es xs ys : List Entry) → e.at ≡ 0 → e ∷ part 0 es ≡ xs ++ ys
    → ((xs ys : List Entry) → part 0 es ≡ xs ++ ys → IsSplit es xs ys) → IsSplit (e ∷ es) xs ys
split_here e es [] ys same h more = record {
  front = [];
  back = e ∷ es;
  is = refl;
  part_front = refl;
  part_back = part_first e es same ∙ h;
  snug = same;
}
split_here e es (x ∷ xs) ys same h more =
    let one : e ≡ x = cc in
    let rest = more xs ys (cc) in
    record {
      front = e ∷ rest.front;
      back = rest.back;
      is = ap (λ zs. e ∷ zs) rest.is;
      part_front = part_first e rest.front same ∙ (ap (λ zs. e ∷ zs) rest.part_front ∙ ap (λ z. z ∷ xs) one);
      part_back = rest.part_back;
      snug = rest.snug;
    }

split_away : (e : Entry) (es xs ys : List Entry) → e.at ≢ 0 → IsSplit es xs ys → IsSplit (e ∷ es) xs ys
split_away e es xs ys other rest = record {
  front = e ∷ rest.front;
  back = rest.back;
  is = ap (λ zs. e ∷ zs) rest.is;
  part_front = part_skips e rest.front other ∙ rest.part_front;
  part_back = rest.part_back;
  snug = rest.snug;
}

split : (es xs ys : List Entry) → part 0 es ≡ xs ++ ys → IsSplit es xs ys
split [] [] ys h = record { front = []; back = []; is = refl; part_front = refl; part_back = h; snug = tt }
split [] (x ∷ xs) ys h = absurd (cc)
split (e ∷ es) xs ys h = elim (cases_eq e.at 0) [
  | inl same ↦ split_here e es xs ys same (sym (part_first e es same) ∙ h) (split es)
  | inr other ↦ split_away e es xs ys other (split es xs ys (sym (part_skips e es other) ∙ h))
]

-- ---- lines are fed at 0 alone

no_line : (r : Rules) (s : Local) (e : Entry) → s.here ≢ 0 → Allowed r s e → FeedsNothing e.event
no_line r s e away a = at e.event a.row
  where
    at : (v : Event) → Row r s v → FeedsNothing v
    at (Line a bytes) row = away row.0
    at _ row = tt

unfed_from : (r : Rules) (w : Space) (es : List Entry) → IsWhole r w → IsLegalFrom r w es → AllByRecursion (λ e. FeedsNothing e.event) (part 0 es)
    → AllByRecursion (λ e. FeedsNothing e.event) es
unfed_from r w [] whole legal h = tt
unfed_from r w (e ∷ es) whole legal h = elim (cases_eq e.at 0) [
  | inl same ↦
      let here = subst (AllByRecursion (λ x. FeedsNothing x.event)) (part_first e es same) h in
      (here.0, unfed_from r (step r w e) es (whole_step r w e whole legal.0) legal.1 here.1)
  | inr other ↦ (
    no_line r (w.places e.at) e (λ z. other (sym (whole.here e.at) ∙ z)) legal.0.allowed,
    unfed_from r (step r w e) es (whole_step r w e whole legal.0) legal.1 (subst (AllByRecursion (λ x. FeedsNothing x.event)) (part_skips e es other) h),
  )
]

-- what begins at 0, and whose part begins with a line, begins with it
begins_whole : (r : Rules) (w : Space) (es xs : List Entry) (line : List ℕ) → IsWhole r w → IsLegalFrom r w es → IsSnug es → part 0 es ≡ xs
    → BeginsWith line xs → BeginsWith line es
begins_whole r w [] xs line whole legal snug h begins = subst (BeginsWith line) (sym h) begins
begins_whole r w (e ∷ es) xs line whole legal snug h begins =
    let own = subst (BeginsWith line) (sym h ∙ part_first e es snug) begins in
    (own.0, unfed_from r (step r w e) es (whole_step r w e whole legal.0) legal.1 own.1)

-- ---- the console is ready behind each block

abbrev InParts : Rules → Local → List (List ℕ) → List (List Entry) → Type 0
InParts r s [] [] = Unit {0}
InParts r s (line ∷ lines) (es ∷ blocks) = BeginsWith line es × IsReady (run_local r s es) × InParts r (run_local r s es) lines blocks
InParts r s _ _ = ⊥

run_behind : (r : Rules) (s : Local) (xs ys : List Entry) → run_local r s (xs ++ ys) ≡ run_local r (run_local r s xs) ys
run_behind r s [] ys = refl
run_behind r s (x ∷ xs) ys = run_behind r (after r s x.event) xs ys

feeds_front : (r : Rules) (s : Local) (xs ys : List Entry) → FeedsReady r s (xs ++ ys) → FeedsReady r s xs
feeds_front r s [] ys h = tt
feeds_front r s (x ∷ xs) ys h = (h.0, feeds_front r (after r s x.event) xs ys h.1)

feeds_behind : (r : Rules) (s : Local) (xs ys : List Entry) → FeedsReady r s (xs ++ ys) → FeedsReady r (run_local r s xs) ys
feeds_behind r s [] ys h = h
feeds_behind r s (x ∷ xs) ys h = feeds_behind r (after r s x.event) xs ys h.1

-- where a block begins the console is ready
ready_first : (r : Rules) (s : Local) (line : List ℕ) (b later : List Entry) → BeginsWith line b → FeedsReady r s (b ++ later) → IsReady s
ready_first r s line [] later begins feeds = absurd begins
ready_first r s line (e ∷ es) later begins feeds = subst (λ v. IfLine v (IsReady s)) begins.0.1 feeds.0

ready_then : (r : Rules) (s : Local) (lines : List (List ℕ)) (blocks : List (List Entry)) → AreBlocks lines blocks → FeedsReady r s (entries_of blocks)
    → IsReady (run_local r s (entries_of blocks)) → IsReady s
ready_then r s [] [] begin feeds ready = ready
ready_then r s (line ∷ lines) (b ∷ blocks) begin feeds ready = ready_first r s line b (entries_of blocks) begin.0 feeds
ready_then r s [] (x ∷ xs) begin feeds ready = absurd begin
ready_then r s (x ∷ xs) [] begin feeds ready = absurd begin

in_parts : (r : Rules) (s : Local) (lines : List (List ℕ)) (blocks : List (List Entry)) → AreBlocks lines blocks → FeedsReady r s (entries_of blocks)
    → IsReady (run_local r s (entries_of blocks)) → InParts r s lines blocks
in_parts r s [] [] begin feeds ready = tt
in_parts r s (line ∷ lines) (b ∷ blocks) begin feeds ready =
    let rest = feeds_behind r s b (entries_of blocks) feeds in
    let end : IsReady (run_local r (run_local r s b) (entries_of blocks)) = subst IsReady (run_behind r s b (entries_of blocks)) ready in (
      begin.0,
      ready_then r (run_local r s b) lines blocks begin.1 rest end,
      in_parts r (run_local r s b) lines blocks begin.1 rest end,
    )
in_parts r s [] (x ∷ xs) begin feeds ready = absurd begin
in_parts r s (x ∷ xs) [] begin feeds ready = absurd begin

-- ---- the blocks of the whole

record AreCut (r : Rules) (before es : List Entry) (lines : List (List ℕ)) (own : List (List Entry)) (last : List Entry) : Type 0 where
  blocks : List (List Entry)
  rest : List Entry
  is : es ≡ entries_of blocks ++ rest
  session : IsPatientSession r before lines blocks
  texts : shown blocks ≡ shown own
  part_rest : part 0 rest ≡ last
  snug : IsSnug rest

-- what is left at 0 behind these entries
place_behind : (r : Rules) (before front own : List Entry) → part 0 front ≡ own
    → (replayed r (before ++ front)).places 0 ≡ run_local r ((replayed r before).places 0) own
place_behind r before front own h =
    ap (λ (x : Space). x.places 0) (run_append r (first r) before front)
    ∙ (run_part r (replayed r before) front 0 ∙ ap (run_local r ((replayed r before).places 0)) h)

module _ (r : Rules) (grammar : HasGrammar r) (laws : KeepsActLaws r) where
  module _ (before es : List Entry) (line : List ℕ) (lines : List (List ℕ)) (b : List Entry) (own : List (List Entry)) (last : List Entry)
      (legal : IsLegal r (before ++ es)) (snug : IsSnug es) (s : IsSplit es b (entries_of own ++ last)) where
    all_legal : IsLegal r ((before ++ s.front) ++ s.back)
    all_legal = subst (IsLegal r) (sym (append_assoc before s.front s.back)) (subst (λ zs. IsLegal r (before ++ zs)) s.is legal)

    here_legal : IsLegal r (before ++ s.front)
    here_legal = legal_front r (first r) (before ++ s.front) s.back all_legal

    one_block : BeginsWith line b → IsReady (run_local r ((replayed r before).places 0) b) → IsPatientBlock r before line s.front
    one_block begins ready = record {
      legal = here_legal;
      begins = begins_whole r (replayed r before) s.front b line (legal_whole r before (legal_front r (first r) before s.front here_legal))
          (legal_rest r (first r) before s.front here_legal) (snug_front s.front s.back (subst IsSnug s.is snug)) s.part_front begins;
      ready = subst IsReady (sym (place_behind r before s.front b s.part_front)) ready;
    }

    cut_one : BeginsWith line b → IsReady (run_local r ((replayed r before).places 0) b) → AreCut r (before ++ s.front) s.back lines own last
        → AreCut r before es (line ∷ lines) (b ∷ own) last
    cut_one begins ready rest = record {
      blocks = s.front ∷ rest.blocks;
      rest = rest.rest;
      is = s.is ∙ (ap (λ zs. s.front ++ zs) rest.is ∙ sym (append_assoc s.front (entries_of rest.blocks) rest.rest));
      session = (one_block begins ready, rest.session);
      texts = ap (λ t. t ∷ shown rest.blocks) (prints_behind r grammar laws before s.front here_legal ∙ ap prints_of s.part_front)
          ∙ ap (λ ts. prints_of b ∷ ts) rest.texts;
      part_rest = rest.part_rest;
      snug = rest.snug;
    }

  cuts : (before es : List Entry) (lines : List (List ℕ)) (own : List (List Entry)) (last : List Entry) → IsLegal r (before ++ es) → IsSnug es
      → part 0 es ≡ entries_of own ++ last → InParts r ((replayed r before).places 0) lines own → AreCut r before es lines own last
  cuts before es [] [] last legal snug h p = record { blocks = []; rest = es; is = refl; session = tt; texts = refl; part_rest = h; snug = snug }
  cuts before es (line ∷ lines) (b ∷ own) last legal snug h p =
      let s = split es b (entries_of own ++ last) (h ∙ append_assoc b (entries_of own) last) in
      cut_one before es line lines b own last legal snug s p.0 p.1
      (cuts (before ++ s.front) s.back lines own last (all_legal before es line lines b own last legal snug s) s.snug s.part_back
      (subst (λ t. InParts r t lines own) (sym (place_behind r before s.front b s.part_front)) p.2))
  cuts before es [] (x ∷ xs) last legal snug h p = absurd p
  cuts before es (x ∷ xs) [] last legal snug h p = absurd p

  -- from boot on, behind what other localities write before the first line
  record FromBoot (es : List Entry) (lines : List (List ℕ)) (own : List (List Entry)) (last : List Entry) : Type 0 where
    before : List Entry
    behind : List Entry
    is : es ≡ before ++ behind
    legal : IsLegal r before
    unfed : AllByRecursion (λ e. FeedsNothing e.event) before
    cut : AreCut r before behind lines own last

  from_boot : (es : List Entry) (lines : List (List ℕ)) (own : List (List Entry)) (last : List Entry) → IsLegal r es
      → IsPatientPart r (part 0 es) lines own last → FromBoot es lines own last
  from_boot es lines own last legal h =
      let root : Local = boot (roots r.localities 0) 0 in
      let s = split es [] (entries_of own ++ last) h.is in
      let p : InParts r root lines own =
      in_parts r root lines own h.begin (feeds_front r root (entries_of own) last (subst (FeedsReady r root) h.is h.feeds)) h.ready in
      let all : IsLegal r (s.front ++ s.back) = subst (IsLegal r) s.is legal in
      let front : IsLegal r s.front = legal_front r (first r) s.front s.back all in
      let here : (replayed r s.front).places 0 ≡ boot (roots r.localities 0) 0 =
      run_part r (first r) s.front 0 ∙ ap (run_local r (boot (roots r.localities 0) 0)) s.part_front in
      record {
        before = s.front;
        behind = s.back;
        is = s.is;
        legal = front;
        unfed = unfed_from r (first r) s.front (start_whole r) front (subst (AllByRecursion (λ e. FeedsNothing e.event)) (sym s.part_front) tt);
        cut = cuts s.front s.back lines own last all s.snug s.part_back (subst (λ t. InParts r t lines own) (sym here) p);
      }

  module _ (blind : IsBlind r) where
    pub console_plain : (es : List Entry) (lines : List (List ℕ)) (own : List (List Entry)) (last : List Entry) → IsLegal r es → NoneFails es
        → LinesStay r es → IsPatientPart r (part 0 es) lines own last → IsPatientPlainSession r (boot_pool r) lines (shown own)
    console_plain es lines own last legal fine stay h =
        let b = from_boot es lines own last legal h in
        let c = b.cut in
        let same : es ≡ (b.before ++ entries_of c.blocks) ++ c.rest =
        b.is ∙ (ap (λ zs. b.before ++ zs) c.is ∙ sym (append_assoc b.before (entries_of c.blocks) c.rest)) in
        subst (IsPatientPlainSession r (boot_pool r) lines) c.texts
        (patient_plain r grammar laws blind b.before lines c.blocks b.legal b.unfed
        (none_front (b.before ++ entries_of c.blocks) c.rest (subst NoneFails same fine)).0
        (stay_front r (b.before ++ entries_of c.blocks) c.rest (subst (LinesStay r) same stay)) c.session)

    pub console_front : (es : List Entry) (lines : List (List ℕ)) (own : List (List Entry)) (line : List ℕ) (last : List Entry) → IsLegal r es
        → NoneFails es → LinesStay r es → IsPatientPart r (part 0 es) lines own last → BeginsWith line last → IsPatientPlainBrokenOff r (boot_pool r) lines (shown own) line (prints_of last)
    console_front es lines own line last legal fine stay h begins =
        let b = from_boot es lines own last legal h in
        let c = b.cut in
        let x : List Entry = b.before ++ entries_of c.blocks in
        let same : es ≡ (b.before ++ entries_of c.blocks) ++ c.rest =
        b.is ∙ (ap (λ zs. b.before ++ zs) c.is ∙ sym (append_assoc b.before (entries_of c.blocks) c.rest)) in
        let all : IsLegal r (x ++ c.rest) = subst (IsLegal r) same legal in
        let texts : prints_of c.rest ≡ prints_of last = prints_behind r grammar laws x c.rest all ∙ ap prints_of c.part_rest in
        subst (λ t. IsPatientPlainBrokenOff r (boot_pool r) lines t line (prints_of last)) c.texts
        (subst (IsPatientPlainBrokenOff r (boot_pool r) lines (shown c.blocks) line) texts
        (patient_front r grammar laws blind b.before lines c.blocks line c.rest b.legal b.unfed c.session
        (begins_whole r (replayed r x) c.rest last line (legal_whole r x (legal_front r (first r) x c.rest all))
        (legal_rest r (first r) x c.rest all) c.snug c.part_rest begins)
        all (subst NoneFails same fine) (stay_front r x c.rest (subst (LinesStay r) same stay))))
