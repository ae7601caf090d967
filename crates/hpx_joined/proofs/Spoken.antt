-- What the console of several processes says, line after line.
use Rattle.std.specs.Prelude.{codes, if◌then◌else◌, ◌+◌, ◌≤◌, ◌<◌, length}
use Rattle.std.specs.List.{concat, AllByRecursion}
use Rattle.std.proofs.Common.{ℕ, Bool, true, false, List, [], ◌∷◌, ◌++◌, ◌≡◌, Option, refl, sym, ap, ◌∙◌, subst, arith, lit≤, map, append-nil, append_assoc}
use Rattle.std.proofs.lemmas.Bool.{ltb-false}
use Rattle.std.proofs.lemmas.List.{length-append}
use Rattle.std.proofs.lemmas.List.Concat.{flat_map-append}
use Rattle.std.proofs.lemmas.List.Folds.{concat-append}
use Rattle.hpx_parcel.specs.declared.parcel.Parcel.{Parcel}
use Rattle.hpx_journal.specs.Entries.{Rules}
use Rattle.hpx_journal.specs.declared.entry.Entry.{Entry}
use Rattle.hpx_journal.specs.Laws.{HasGrammar}
use Rattle.hpx_journal.specs.Local.{boot as boot_local}
use Rattle.hpx_journal.specs.Pool.{NoneFails, Pool, prints_by, prints_of}
use Rattle.hpx_journal.specs.Roots.{roots}
use Rattle.hpx_journal.specs.Sessions.{BeginsWith, FeedsNothing, IsPlainSession, entries_of, shown}
use Rattle.hpx_journal.specs.Whole.{IsJoin, IsLegal, part, run_local}
use Rattle.hpx_journal.proofs.Start.{joined_legal}
use Rattle.hpx_patient.specs.Lines.{LinesStay}
use Rattle.hpx_patient.specs.Patient.{AreBlocks, IsPatientPart, IsPatientPlainSession, IsReady}
use Rattle.hpx_patient.proofs.Cuts.{console_plain}
use Rattle.app_console.specs.Judging.{Acting, judging}
use Rattle.app_console.specs.Lines.{first_of, is_long, opening, others_of}
use Rattle.app_console.specs.Plain.{Plain, at_boot, line_end, opened}
use Rattle.app_console.specs.Text.{lines_text, marked, written}
use Rattle.app_console.specs.declared.table.Console.TheVariants.{Accumulator as AccumulatorConsole, Own}
use Rattle.app_console.proofs.Boot.{boot, boot_settled}
use Rattle.app_console.proofs.JournalText.{acts_blind, acts_lawful}
use Rattle.app_console.proofs.LineRuns.{block}
use Rattle.app_console.proofs.SessionText.{whole_text}
use Rattle.app_console.proofs.Steps.{Settled}
use Rattle.hpx_joined.proofs.Asides.{plain_block}

-- ---- entries behind the last block

-- the last block goes on with these
abbrev pub ending : List (List Entry) → List Entry → List (List Entry)
ending [] last = []
ending (b ∷ []) last = (b ++ last) ∷ []
ending (b ∷ c ∷ bs) last = b ∷ ending (c ∷ bs) last

all_behind : (xs ys : List Entry) → AllByRecursion (λ e. FeedsNothing e.event) xs → AllByRecursion (λ e. FeedsNothing e.event) ys → AllByRecursion (λ e. FeedsNothing e.event) (xs ++ ys)
all_behind [] ys h g = g
all_behind (x ∷ xs) ys h g = (h.0, all_behind xs ys h.1 g)

begins_more : (line : List ℕ) (b last : List Entry) → BeginsWith line b → AllByRecursion (λ e. FeedsNothing e.event) last → BeginsWith line (b ++ last)
begins_more line [] last h g = absurd h
begins_more line (e ∷ es) last h g = (h.0, all_behind es last h.1 g)

entries_ending : (b : List Entry) (bs : List (List Entry)) (last : List Entry) → entries_of (ending (b ∷ bs) last) ≡ entries_of (b ∷ bs) ++ last
entries_ending b [] last = append-nil (b ++ last) ∙ ap (λ xs. xs ++ last) (sym (append-nil b))
entries_ending b (c ∷ bs) last = ap (λ xs. b ++ xs) (entries_ending c bs last) ∙ sym (append_assoc b (entries_of (c ∷ bs)) last)

blocks_ending : (lines : List (List ℕ)) (b : List Entry) (bs : List (List Entry)) (last : List Entry) → AreBlocks lines (b ∷ bs)
    → AllByRecursion (λ e. FeedsNothing e.event) last → AreBlocks lines (ending (b ∷ bs) last)
blocks_ending [] b bs last h g = absurd h
blocks_ending (line ∷ []) b [] last h g = (begins_more line b last h.0 g, tt)
blocks_ending (line ∷ []) b (c ∷ bs) last h g = absurd h.1
blocks_ending (line ∷ l ∷ lines) b [] last h g = absurd h.1
blocks_ending (line ∷ l ∷ lines) b (c ∷ bs) last h g = (h.0, blocks_ending (l ∷ lines) c bs last h.1 g)

prints_append : (xs ys : List Entry) → concat (prints_of (xs ++ ys)) ≡ concat (prints_of xs) ++ concat (prints_of ys)
prints_append xs ys = ap concat (flat_map-append (λ e. prints_by e.event) xs ys) ∙ concat-append (prints_of xs) (prints_of ys)

nothing_more : (xs ys : List ℕ) → xs ++ ys ≡ xs → ys ≡ []
nothing_more xs [] h = refl
nothing_more xs (y ∷ ys) h = absurd (omega (arith, ap length h, length-append xs (y ∷ ys)))

same_head : (x y : List ℕ) (xs ys : List (List ℕ)) → x ∷ xs ≡ y ∷ ys → (x ≡ y) × (xs ≡ ys)
same_head x y xs ys h = (cc, cc)

-- where the blocks print the same with them, they print nothing
silent_ending : (b : List Entry) (bs : List (List Entry)) (last : List Entry) → map concat (shown (ending (b ∷ bs) last)) ≡ map concat (shown (b ∷ bs)) → concat (prints_of last) ≡ []
silent_ending b [] last h = nothing_more (concat (prints_of b)) (concat (prints_of last)) (sym (prints_append b last) ∙ (same_head _ _ _ _ h).0)
silent_ending b (c ∷ bs) last h = silent_ending c bs last (same_head _ _ _ _ h).1

-- ---- what is printed for each line

fits_line : (line : List ℕ) → is_long line ≡ false → length line ≤ 16384
fits_line line e = let low = ltb-false 1024 (length line) e in omega arith

module _ (acts : Acting) (n log limit : ℕ) (parcel_of : List ℕ → Option Parcel) (some : 1 ≤ n) (few : n ≤ 64) where
  abbrev r : Rules
  r = judging acts n log limit parcel_of

  -- for each line that is fed, what the plain space says
  abbrev each : Plain → List (List ℕ) → List (List ℕ)
  each v [] = []
  each v (line ∷ lines) = if is_long line then each v lines else (line_end AccumulatorConsole n v line).text ∷ each (line_end AccumulatorConsole n v line).plain lines

  record IsSaid (v : Plain) (lines : List (List ℕ)) (texts : List (List (List ℕ))) (p : Pool) : Type 0 where
    plain : IsPlainSession r p (marked 97 lines) texts
    said : map concat texts ≡ each v lines

  one_line : (b : Bool) (k : ℕ) (v : Plain) (line : List ℕ) (lines : List (List ℕ)) (texts : List (List (List ℕ))) (p : Pool)
      → is_long line ≡ b → k + 1 ≤ 4000000000 → Settled n k v p
      → ((texts : List (List (List ℕ))) → IsPatientPlainSession r p (marked 97 lines) texts → IsSaid v lines texts p)
      → ((p' : Pool) (texts : List (List (List ℕ))) → Settled n (k + 1) (line_end AccumulatorConsole n v line).plain p'
      → IsPatientPlainSession r p' (marked 97 lines) texts → IsSaid (line_end AccumulatorConsole n v line).plain lines texts p')
      → IsPatientPlainSession r p (if b then marked 97 lines else (97 ∷ line) ∷ marked 97 lines) texts
      → IsPlainSession r p (if b then marked 97 lines else (97 ∷ line) ∷ marked 97 lines) texts
      × (map concat texts ≡ (if b then each v lines else (line_end AccumulatorConsole n v line).text ∷ each (line_end AccumulatorConsole n v line).plain lines))
  one_line true k v line lines texts p e h settled same next session = let rest = same texts session in (rest.plain, rest.said)
  one_line false k v line lines [] p e h settled same next session = absurd session
  one_line false k v line lines (text ∷ texts) p e h settled same next session =
      let one = plain_block acts n log limit parcel_of some few k h (omega arith) v AccumulatorConsole 97 line refl (fits_line line e) tt text p session.0 settled session.1 in
      let read = block acts n log limit parcel_of some few k h (omega arith) v AccumulatorConsole 97 line refl (fits_line line e) tt text p session.0 settled one in
      let rest = next session.0 texts read.0 session.2 in
      ((session.0, one, rest.plain), ap (λ t. t ∷ map concat texts) read.1 ∙ ap (λ ts. (line_end AccumulatorConsole n v line).text ∷ ts) rest.said)

  said : (k : ℕ) (v : Plain) (lines : List (List ℕ)) (texts : List (List (List ℕ))) (p : Pool) → k + length lines ≤ 4000000000 → Settled n k v p
      → IsPatientPlainSession r p (marked 97 lines) texts → IsSaid v lines texts p
  said k v [] [] p h settled session = record { plain = tt; said = refl }
  said k v [] (text ∷ texts) p h settled session = absurd session
  said k v (line ∷ lines) texts p h settled session =
      let both = one_line (is_long line) k v line lines texts p refl (omega arith) settled
      (λ texts more. said k v lines texts p (omega arith) settled more)
      (λ p' texts behind more. said (k + 1) (line_end AccumulatorConsole n v line).plain lines texts p' (omega arith) behind more)
      session in
      record { plain = both.0; said = both.1 }

  -- behind the line that makes the accumulator
  pub opened_said : (lines : List (List ℕ)) (texts : List (List (List ℕ))) → length lines + 1 ≤ 4000000000
      → IsPatientPlainSession r (boot acts n log limit parcel_of some) (opening ∷ marked 97 lines) texts
      → IsPlainSession r (boot acts n log limit parcel_of some) (opening ∷ marked 97 lines) texts × (map concat texts ≡ [] ∷ each (opened n) lines)
  opened_said lines [] h session = absurd session
  opened_said lines (text ∷ texts) h session =
      let p = boot acts n log limit parcel_of some in
      let settled = boot_settled acts n log limit parcel_of some in
      let one = plain_block acts n log limit parcel_of some few 0 (lit≤ tt) (lit≤ tt) (at_boot n) Own 111 (codes "open") refl (lit≤ tt) refl text p session.0 settled session.1 in
      let read = block acts n log limit parcel_of some few 0 (lit≤ tt) (lit≤ tt) (at_boot n) Own 111 (codes "open") refl (lit≤ tt) refl text p session.0 settled one in
      let rest = said 1 (opened n) lines texts session.0 (omega arith) read.0 session.2 in
      ((session.0, one, rest.plain), ap (λ t. t ∷ map concat texts) read.1 ∙ ap (λ ts. [] ∷ ts) rest.said)

  -- ---- by the console's own part of a join

  module _ (es : List Entry) (grammar : HasGrammar r) (join : IsJoin r es) (calm : NoneFails es) (stay : LinesStay r es) (lines : List (List ℕ)) (short : length lines < 4000000000) where
    legal : IsLegal r es
    legal = joined_legal r grammar es join

    texts_of_blocks : (blocks : List (List Entry)) (last : List Entry) → IsPatientPart r (part 0 es) (opening ∷ marked 97 lines) blocks last
        → IsPlainSession r (boot acts n log limit parcel_of some) (opening ∷ marked 97 lines) (shown blocks) × (map concat (shown blocks) ≡ [] ∷ each (opened n) lines)
    texts_of_blocks blocks last own =
        opened_said lines (shown blocks) (omega (arith, short))
        (console_plain r grammar (acts_lawful acts n log limit parcel_of some few) (acts_blind acts n log limit parcel_of some few) es (opening ∷ marked 97 lines) blocks last legal calm stay own)

    pub session_said : (blocks : List (List Entry)) (last : List Entry) → IsPatientPart r (part 0 es) (opening ∷ marked 97 lines) blocks last
        → (first_of (shown blocks) ≡ []) × (written lines (others_of (shown blocks)) ≡ lines_text AccumulatorConsole n (opened n) lines)
    session_said blocks last own =
        whole_text acts n log limit parcel_of some few AccumulatorConsole 97 refl lines (shown blocks) (omega (arith, short)) (texts_of_blocks blocks last own).0

    pub silent_behind : (blocks : List (List Entry)) (last : List Entry) → IsPatientPart r (part 0 es) (opening ∷ marked 97 lines) blocks last
        → AllByRecursion (λ e. FeedsNothing e.event) last → IsReady (run_local r (boot_local (roots n 0) 0) (part 0 es)) → concat (prints_of last) ≡ []
    silent_behind [] last own unfed ready = absurd own.begin
    silent_behind (b ∷ bs) last own unfed ready =
        let same : part 0 es ≡ entries_of (ending (b ∷ bs) last) = own.is ∙ sym (entries_ending b bs last) in
        let more : IsPatientPart r (part 0 es) (opening ∷ marked 97 lines) (ending (b ∷ bs) last) [] = record {
          begin = blocks_ending (opening ∷ marked 97 lines) b bs last own.begin unfed;
          is = same ∙ sym (append-nil (entries_of (ending (b ∷ bs) last)));
          feeds = own.feeds;
          ready = subst (λ xs. IsReady (run_local r (boot_local (roots n 0) 0) xs)) same ready;
        } in
        silent_ending b bs last ((texts_of_blocks (ending (b ∷ bs) last) [] more).1 ∙ sym (texts_of_blocks (b ∷ bs) last own).1)
