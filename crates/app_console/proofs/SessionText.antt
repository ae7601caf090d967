-- What a session prints, line after line, is what the plain space says.
use Rattle.std.specs.Prelude.{codes, if◌then◌else◌}
use Rattle.std.specs.List.{concat, AllByRecursion}
use Rattle.std.proofs.Common.{ℕ, Bool, true, false, List, [], ◌∷◌, ◌++◌, ◌≡◌, ◌+◌, ◌≤◌, Option, Some, refl, sym, ap, ◌∙◌, subst, arith, lit≤, append-nil, append_assoc, length, map}
use Rattle.std.proofs.lemmas.Bool.{ltb-false}
use Rattle.hpx_parcel.specs.declared.parcel.Parcel.{Parcel}
use Rattle.hpx_journal.specs.Entries.{Rules}
use Rattle.hpx_journal.specs.Pool.{Pool}
use Rattle.hpx_journal.specs.Sessions.{IsPlainBlock, IsPlainSession, IsPlainFront, IsPlainBrokenOff}
use Rattle.app_console.specs.Types.{Console, Space, AccumulatorConsole, Own}
use Rattle.app_console.specs.Console.{prompt}
use Rattle.app_console.specs.Session
use Rattle.app_console.specs.Judging.{Acting, judging}
use Rattle.app_console.specs.Plain.{Plain, End, at_boot, line_end, opened, texts_of}
use Rattle.app_console.specs.Lines.{IsFront, is_long, opening, first_of, others_of}
use Rattle.app_console.specs.Text.{too_long, lines_text, marked, written, IsUsers}
use Rattle.app_console.proofs.LineSteps.{IsFirst}
use Rattle.app_console.proofs.LineRuns.{block, front}
use Rattle.app_console.proofs.Steps.{Settled}
use Rattle.app_console.proofs.Boot.{boot, boot_settled}

front_longer : (before text written tail whole : List ℕ) → IsFront (written ++ tail) whole → IsFront ((before ++ (text ++ written)) ++ tail) (before ++ (text ++ whole))
front_longer before text written tail whole h = record {
  later = h.later;
  is = append_assoc (before ++ (text ++ written)) tail h.later ∙ append_assoc before (text ++ written) (tail ++ h.later)
      ∙ ap (λ t. before ++ t) (append_assoc text written (tail ++ h.later) ∙ ap (λ t. text ++ t) (sym (append_assoc written tail h.later) ∙ h.is));
}

-- a line that is fed is not too long
fits_line : (line : List ℕ) → is_long line ≡ false → length line ≤ 16384
fits_line line e = let low = ltb-false 1024 (length line) e in omega arith

mark_known : (con : Console) (mark : ℕ) → IsUsers con mark → Session.console_of mark ≡ Some con
mark_known Space mark h = ap Session.console_of h
mark_known AccumulatorConsole mark h = ap Session.console_of h
mark_known Own mark h = absurd h

always_first : (con : Console) (mark : ℕ) → IsUsers con mark → (v : Plain) → IsFirst con v
always_first Space mark h v = tt
always_first AccumulatorConsole mark h v = tt
always_first Own mark h v = absurd h

module _ (acts : Acting) (n log limit : ℕ) (parcel_of : List ℕ → Option Parcel) (some : 1 ≤ n) (few : n ≤ 64) (con : Console) (mark : ℕ) (users : IsUsers con mark) where
  abbrev r : Rules
  r = judging acts n log limit parcel_of

  known : Session.console_of mark ≡ Some con
  known = mark_known con mark users

  -- one line and those behind it, by whether it is too long
  line_text_is : (b : Bool) (k : ℕ) (v : Plain) (line : List ℕ) (lines : List (List ℕ)) (texts : List (List (List ℕ))) (p : Pool)
      → is_long line ≡ b → k + 1 ≤ 4000000000 → Settled n k v p
      → ((texts : List (List (List ℕ))) → IsPlainSession r p (marked mark lines) texts → written lines texts ≡ lines_text con n v lines)
      → ((p' : Pool) (texts : List (List (List ℕ))) → Settled n (k + 1) (line_end con n v line).plain p'
      → IsPlainSession r p' (marked mark lines) texts → written lines texts ≡ lines_text con n (line_end con n v line).plain lines)
      → IsPlainSession r p (if b then marked mark lines else (mark ∷ line) ∷ marked mark lines) texts
      → (if b then prompt ++ (too_long ++ written lines texts) else prompt ++ (first_of texts ++ written lines (others_of texts)))
      ≡ prompt ++ ((if b then too_long else (line_end con n v line).text) ++ lines_text con n (if b then v else (line_end con n v line).plain) lines)
  line_text_is true k v line lines texts p e h settled same next session = ap (λ t. prompt ++ (too_long ++ t)) (same texts session)
  line_text_is false k v line lines [] p e h settled same next session = absurd session
  line_text_is false k v line lines (text ∷ texts) p e h settled same next session =
      let read = block acts n log limit parcel_of some few k h (omega arith) v con mark line known (fits_line line e) (always_first con mark users v) text p session.0 settled session.1 in
      ap (λ t. prompt ++ (t ++ written lines texts)) read.1
      ∙ ap (λ t. prompt ++ ((line_end con n v line).text ++ t)) (next session.0 texts read.0 session.2)

  session_text : (k : ℕ) (v : Plain) (lines : List (List ℕ)) (texts : List (List (List ℕ))) (p : Pool)
      → k + length lines ≤ 4000000000 → Settled n k v p → IsPlainSession r p (marked mark lines) texts
      → written lines texts ≡ lines_text con n v lines
  session_text k v [] texts p h settled session = refl
  session_text k v (line ∷ lines) texts p h settled session =
      line_text_is (is_long line) k v line lines texts p refl (omega arith) settled
      (λ texts more. session_text k v lines texts p (omega arith) settled more)
      (λ p' texts behind more. session_text (k + 1) (line_end con n v line).plain lines texts p' (omega arith) behind more)
      session

  -- ---- each line by itself, where none is too long

  each_behind : (b : Bool) (k : ℕ) (v : Plain) (line : List ℕ) (lines : List (List ℕ)) (texts : List (List (List ℕ))) (p : Pool)
      → is_long line ≡ b → b ≡ false → k + 1 ≤ 4000000000 → Settled n k v p
      → ((p' : Pool) (texts : List (List (List ℕ))) → Settled n (k + 1) (line_end con n v line).plain p'
      → IsPlainSession r p' (marked mark lines) texts → map concat texts ≡ texts_of con n (line_end con n v line).plain lines)
      → IsPlainSession r p (if b then marked mark lines else (mark ∷ line) ∷ marked mark lines) texts
      → map concat texts ≡ (line_end con n v line).text ∷ texts_of con n (line_end con n v line).plain lines
  each_behind true k v line lines texts p e f h settled next session = cc
  each_behind false k v line lines [] p e f h settled next session = absurd session
  each_behind false k v line lines (text ∷ texts) p e f h settled next session =
      let read = block acts n log limit parcel_of some few k h (omega arith) v con mark line known (fits_line line e) (always_first con mark users v) text p session.0 settled session.1 in
      ap (λ t. t ∷ map concat texts) read.1
      ∙ ap (λ ts. (line_end con n v line).text ∷ ts) (next session.0 texts read.0 session.2)

  each_text : (k : ℕ) (v : Plain) (lines : List (List ℕ)) (texts : List (List (List ℕ))) (p : Pool)
      → k + length lines ≤ 4000000000 → AllByRecursion (λ line. is_long line ≡ false) lines → Settled n k v p
      → IsPlainSession r p (marked mark lines) texts → map concat texts ≡ texts_of con n v lines
  each_text k v [] [] p h fit settled session = refl
  each_text k v [] (text ∷ texts) p h fit settled session = absurd session
  each_text k v (line ∷ lines) texts p h fit settled session =
      each_behind (is_long line) k v line lines texts p refl fit.0 (omega arith) settled
      (λ p' texts behind more. each_text (k + 1) (line_end con n v line).plain lines texts p' (omega arith) fit.1 behind more)
      session

  broken_line : (b : Bool) (k : ℕ) (v : Plain) (line : List ℕ) (text : List (List ℕ)) (p : Pool) → is_long line ≡ b → b ≡ false → k + 1 ≤ 4000000000
      → Settled n k v p → IsPlainFront r p (mark ∷ line) text
      → IsFront (prompt ++ concat text) (prompt ++ ((if b then too_long else (line_end con n v line).text) ++ []))
  broken_line true k v line text p e f h settled part = cc
  broken_line false k v line text p e f h settled part =
      let begun = front acts n log limit parcel_of some few k h (omega arith) v con mark line known (fits_line line e) (always_first con mark users v) text p settled part in
      record {
        later = begun.later;
        is = append_assoc prompt (concat text) begun.later ∙ ap (λ t. prompt ++ t) (begun.is ∙ sym (append-nil (line_end con n v line).text));
      }

  broken_line_behind : (b : Bool) (k : ℕ) (v : Plain) (first : List ℕ) (lines : List (List ℕ)) (texts : List (List (List ℕ))) (line : List ℕ) (text : List (List ℕ))
      (p : Pool) → is_long first ≡ b → k + 1 ≤ 4000000000 → Settled n k v p
      → ((texts : List (List (List ℕ))) → IsPlainBrokenOff r p (marked mark lines) texts (mark ∷ line) text
      → IsFront (written lines texts ++ (prompt ++ concat text)) (lines_text con n v (lines ++ line ∷ [])))
      → ((p' : Pool) (texts : List (List (List ℕ))) → Settled n (k + 1) (line_end con n v first).plain p'
      → IsPlainBrokenOff r p' (marked mark lines) texts (mark ∷ line) text
      → IsFront (written lines texts ++ (prompt ++ concat text)) (lines_text con n (line_end con n v first).plain (lines ++ line ∷ [])))
      → IsPlainBrokenOff r p (if b then marked mark lines else (mark ∷ first) ∷ marked mark lines) texts (mark ∷ line) text
      → IsFront ((if b then prompt ++ (too_long ++ written lines texts) else prompt ++ (first_of texts ++ written lines (others_of texts))) ++ (prompt ++ concat text))
      (prompt ++ ((if b then too_long else (line_end con n v first).text) ++ lines_text con n (if b then v else (line_end con n v first).plain) (lines ++ line ∷ [])))
  broken_line_behind true k v first lines texts line text p e h settled same next session =
      front_longer prompt too_long (written lines texts) (prompt ++ concat text) (lines_text con n v (lines ++ line ∷ [])) (same texts session)
  broken_line_behind false k v first lines [] line text p e h settled same next session = absurd session
  broken_line_behind false k v first lines (t ∷ texts) line text p e h settled same next session =
      let read = block acts n log limit parcel_of some few k h (omega arith) v con mark first known (fits_line first e) (always_first con mark users v) t p session.0 settled session.1 in
      let behind = next session.0 texts read.0 session.2 in
      subst (λ x. IsFront ((prompt ++ (concat t ++ written lines texts)) ++ (prompt ++ concat text))
      (prompt ++ (x ++ lines_text con n (line_end con n v first).plain (lines ++ line ∷ [])))) read.1
      (front_longer prompt (concat t) (written lines texts) (prompt ++ concat text) (lines_text con n (line_end con n v first).plain (lines ++ line ∷ [])) behind)

  broken_text : (k : ℕ) (v : Plain) (lines : List (List ℕ)) (texts : List (List (List ℕ))) (line : List ℕ) (text : List (List ℕ)) (p : Pool)
      → k + length lines + 1 ≤ 4000000000 → is_long line ≡ false → Settled n k v p
      → IsPlainBrokenOff r p (marked mark lines) texts (mark ∷ line) text
      → IsFront (written lines texts ++ (prompt ++ concat text)) (lines_text con n v (lines ++ line ∷ []))
  broken_text k v [] [] line text p h short settled session = broken_line (is_long line) k v line text p refl short (omega arith) settled session
  broken_text k v [] (t ∷ texts) line text p h short settled session = absurd session
  broken_text k v (first ∷ lines) texts line text p h short settled session =
      broken_line_behind (is_long first) k v first lines texts line text p refl (omega arith) settled
      (λ texts more. broken_text k v lines texts line text p (omega arith) short settled more)
      (λ p' texts behind more. broken_text (k + 1) (line_end con n v first).plain lines texts line text p' (omega arith) short behind more)
      session

  -- ---- from boot on

  pub whole_from_boot : (lines : List (List ℕ)) (texts : List (List (List ℕ))) → length lines ≤ 4000000000
      → IsPlainSession r (boot acts n log limit parcel_of some) (marked mark lines) texts → written lines texts ≡ lines_text con n (at_boot n) lines
  whole_from_boot lines texts h session = session_text 0 (at_boot n) lines texts (boot acts n log limit parcel_of some) (omega arith) (boot_settled acts n log limit parcel_of some) session

  pub each_from_boot : (lines : List (List ℕ)) (texts : List (List (List ℕ))) → length lines ≤ 4000000000 → AllByRecursion (λ line. is_long line ≡ false) lines
      → IsPlainSession r (boot acts n log limit parcel_of some) (marked mark lines) texts → map concat texts ≡ texts_of con n (at_boot n) lines
  each_from_boot lines texts h fit session = each_text 0 (at_boot n) lines texts (boot acts n log limit parcel_of some) (omega arith) fit (boot_settled acts n log limit parcel_of some) session

  pub broken_from_boot : (lines : List (List ℕ)) (texts : List (List (List ℕ))) (line : List ℕ) (text : List (List ℕ)) → length lines + 1 ≤ 4000000000 → is_long line ≡ false
      → IsPlainBrokenOff r (boot acts n log limit parcel_of some) (marked mark lines) texts (mark ∷ line) text
      → IsFront (written lines texts ++ (prompt ++ concat text)) (lines_text con n (at_boot n) (lines ++ line ∷ []))
  broken_from_boot lines texts line text h short session =
      broken_text 0 (at_boot n) lines texts line text (boot acts n log limit parcel_of some) (omega arith) short (boot_settled acts n log limit parcel_of some) session

  -- ---- once an accumulator was made

  abbrev first_end : End
  first_end = line_end Own n (at_boot n) (codes "open")

  nothing_said : first_end.text ≡ []
  nothing_said = refl

  begun : (text : List (List ℕ)) (p' : Pool) → IsPlainBlock r (boot acts n log limit parcel_of some) opening text p' → Settled n 1 (opened n) p' × (concat text ≡ [])
  begun text p' b =
      let read = block acts n log limit parcel_of some few 0 (lit≤ tt) (lit≤ tt) (at_boot n) Own 111 (codes "open") refl (lit≤ tt) refl text (boot acts n log limit parcel_of some) p' (boot_settled acts n log limit parcel_of some) b in
      (read.0, read.1 ∙ nothing_said)

  pub opening_front : (text : List (List ℕ)) → IsPlainFront r (boot acts n log limit parcel_of some) opening text → concat text ≡ []
  opening_front text part =
      let part' = front acts n log limit parcel_of some few 0 (lit≤ tt) (lit≤ tt) (at_boot n) Own 111 (codes "open") refl (lit≤ tt) refl text (boot acts n log limit parcel_of some) (boot_settled acts n log limit parcel_of some) part in
      nothing (concat text) part'.later (part'.is ∙ nothing_said)
    where
      nothing : (xs ys : List ℕ) → xs ++ ys ≡ [] → xs ≡ []
      nothing [] ys e = refl
      nothing (x ∷ xs) ys e = cc

  pub whole_text : (lines : List (List ℕ)) (texts : List (List (List ℕ))) → length lines + 1 ≤ 4000000000
      → IsPlainSession r (boot acts n log limit parcel_of some) (opening ∷ marked mark lines) texts
      → (first_of texts ≡ []) × (written lines (others_of texts) ≡ lines_text con n (opened n) lines)
  whole_text lines [] h session = absurd session
  whole_text lines (text ∷ texts) h session =
      let first = begun text session.0 session.1 in (first.1, session_text 1 (opened n) lines texts session.0 (omega arith) first.0 session.2)

  pub broken_text_off : (lines : List (List ℕ)) (texts : List (List (List ℕ))) (line : List ℕ) (text : List (List ℕ))
      → length lines + 2 ≤ 4000000000 → is_long line ≡ false
      → IsPlainBrokenOff r (boot acts n log limit parcel_of some) (opening ∷ marked mark lines) texts (mark ∷ line) text
      → IsFront (written lines (others_of texts) ++ (prompt ++ concat text)) (lines_text con n (opened n) (lines ++ line ∷ []))
  broken_text_off lines [] line text h short session = absurd session
  broken_text_off lines (t ∷ texts) line text h short session =
      let first = begun t session.0 session.1 in broken_text 1 (opened n) lines texts line text session.0 (omega arith) short first.0 session.2
