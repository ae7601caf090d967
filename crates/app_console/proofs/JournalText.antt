-- A session of a console in a journal prints what the plain space says.
use Rattle.std.specs.List.{concat, AllByRecursion}
use Rattle.std.proofs.Common.{ℕ, false, List, [], ◌∷◌, ◌++◌, ◌≡◌, ◌≤◌, ◌<◌, Option, length, map, refl, arith}
use Rattle.hpx_parcel.specs.declared.parcel.Parcel.{Parcel}
use Rattle.hpx_journal.specs.Entries.{Rules}
use Rattle.hpx_journal.specs.declared.entry.Entry.{Entry}
use Rattle.hpx_journal.specs.Laws.{HasGrammar, KeepsActLaws}
use Rattle.hpx_journal.specs.Pool.{IsBlind, NoneFails, boot_pool, prints_of}
use Rattle.hpx_journal.specs.Sessions.{IsSession, BeginsWith, entries_of, shown}
use Rattle.hpx_journal.specs.Whole.{IsLegal}
use Rattle.hpx_journal.proofs.Reduced.{boot_shows}
use Rattle.hpx_journal.proofs.Sessions.{session_plain, session_front}
use Rattle.app_console.specs.Types.{Console, AccumulatorConsole}
use Rattle.app_console.specs.Console.{prompt}
use Rattle.app_console.specs.Judging.{Acting, judging}
use Rattle.app_console.specs.Plain.{at_boot, opened, texts_of}
use Rattle.app_console.specs.Lines.{IsFront, is_long, opening, first_of, others_of}
use Rattle.app_console.specs.Text.{IsUsers, marked, written, lines_text}
use Rattle.app_console.proofs.SessionText.{whole_from_boot, each_from_boot, broken_from_boot, opening_front, whole_text, broken_text_off}

module _ (acts : Acting) (n log limit : ℕ) (parcel_of : List ℕ → Option Parcel) (some : 1 ≤ n) (few : n ≤ 64) where
  abbrev r : Rules
  r = judging acts n log limit parcel_of

  pub acts_lawful : KeepsActLaws r
  acts_lawful = record { laws = λ kind here s a low state act. acts.keeps n kind here s a some few low state act }

  pub acts_blind : IsBlind r
  acts_blind = record { blind = λ kind here s a. acts.blind n kind here s a }

  module _ (con : Console) (mark : ℕ) (users : IsUsers con mark) where
    pub law_plain : (lines : List (List ℕ)) (blocks : List (List Entry)) → length lines < 4000000000 → HasGrammar r → NoneFails (entries_of blocks)
        → IsSession r [] (marked mark lines) blocks → written lines (shown blocks) ≡ lines_text con n (at_boot n) lines
    law_plain lines blocks short grammar calm session =
        whole_from_boot acts n log limit parcel_of some few con mark users lines (shown blocks) (omega arith)
        (session_plain r grammar acts_lawful acts_blind [] (boot_pool r) (marked mark lines) blocks refl (boot_shows r) calm session)

    pub law_each_line : (lines : List (List ℕ)) (blocks : List (List Entry)) → length lines < 4000000000 → AllByRecursion (λ line. is_long line ≡ false) lines
        → HasGrammar r → NoneFails (entries_of blocks) → IsSession r [] (marked mark lines) blocks → map concat (shown blocks) ≡ texts_of con n (at_boot n) lines
    law_each_line lines blocks short fit grammar calm session =
        each_from_boot acts n log limit parcel_of some few con mark users lines (shown blocks) (omega arith) fit
        (session_plain r grammar acts_lawful acts_blind [] (boot_pool r) (marked mark lines) blocks refl (boot_shows r) calm session)

    pub law_broken_off : (lines : List (List ℕ)) (blocks : List (List Entry)) (line : List ℕ) (es : List Entry) → length lines < 3999999999
        → is_long line ≡ false → HasGrammar r → IsSession r [] (marked mark lines) blocks
        → BeginsWith (mark ∷ line) es → IsLegal r (entries_of blocks ++ es) → NoneFails (entries_of blocks ++ es)
        → IsFront (written lines (shown blocks) ++ (prompt ++ concat (prints_of es))) (lines_text con n (at_boot n) (lines ++ line ∷ []))
    law_broken_off lines blocks line es short fits grammar session begins legal calm =
        broken_from_boot acts n log limit parcel_of some few con mark users lines (shown blocks) line (prints_of es) (omega arith) fits
        (session_front r grammar acts_lawful acts_blind [] (boot_pool r) (marked mark lines) blocks (mark ∷ line) es refl (boot_shows r) session begins legal calm)

    pub law_opened_whole : (lines : List (List ℕ)) (blocks : List (List Entry)) → length lines < 4000000000 → HasGrammar r → NoneFails (entries_of blocks)
        → IsSession r [] (opening ∷ marked mark lines) blocks
        → (first_of (shown blocks) ≡ []) × (written lines (others_of (shown blocks)) ≡ lines_text con n (opened n) lines)
    law_opened_whole lines blocks short grammar calm session =
        whole_text acts n log limit parcel_of some few con mark users lines (shown blocks) (omega arith)
        (session_plain r grammar acts_lawful acts_blind [] (boot_pool r) (opening ∷ marked mark lines) blocks refl (boot_shows r) calm session)

    pub law_opened_broken_off : (lines : List (List ℕ)) (blocks : List (List Entry)) (line : List ℕ) (es : List Entry) → length lines < 3999999999
        → is_long line ≡ false → HasGrammar r → IsSession r [] (opening ∷ marked mark lines) blocks
        → BeginsWith (mark ∷ line) es → IsLegal r (entries_of blocks ++ es) → NoneFails (entries_of blocks ++ es)
        → IsFront (written lines (others_of (shown blocks)) ++ (prompt ++ concat (prints_of es))) (lines_text con n (opened n) (lines ++ line ∷ []))
    law_opened_broken_off lines blocks line es short fits grammar session begins legal calm =
        broken_text_off acts n log limit parcel_of some few con mark users lines (shown blocks) line (prints_of es) (omega arith) fits
        (session_front r grammar acts_lawful acts_blind [] (boot_pool r) (opening ∷ marked mark lines) blocks (mark ∷ line) es refl (boot_shows r) session begins legal calm)

  pub law_opens : (es : List Entry) → HasGrammar r → BeginsWith opening es → IsLegal r es → NoneFails es → concat (prints_of es) ≡ []
  law_opens es grammar begins legal calm =
      opening_front acts n log limit parcel_of some few AccumulatorConsole 97 refl (prints_of es)
      (session_front r grammar acts_lawful acts_blind [] (boot_pool r) [] [] opening es refl (boot_shows r) tt begins legal calm)
