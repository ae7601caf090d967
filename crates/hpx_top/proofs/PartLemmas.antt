-- Parts of lines, one behind the others: what is fed, what is written, and what one plain space says of them.
use Rattle.std.specs.Prelude.{◌||◌, if◌then◌else◌}
use Rattle.std.specs.List.{concat, list_any, AllByRecursion}
use Rattle.std.proofs.Common.{ℕ, Bool, true, false, List, [], ◌∷◌, ◌++◌, ◌≡◌, ◌<◌, ◌≤◌, length, map, take, refl, sym, ap, ◌∙◌, subst, arith, append-nil, append_assoc, length-append}
use Rattle.std.proofs.lemmas.List.{take_all, take-append-le}
use Rattle.std.proofs.lemmas.List.Folds.{list_any-append}
use Rattle.hpx_value.specs.declared.profile.Profile.{Profile}
use Rattle.hpx_journal.specs.declared.entry.Entry.{Entry}
use Rattle.hpx_journal.specs.Entries.{Rules}
use Rattle.hpx_journal.specs.Roots.{roots}
use Rattle.hpx_journal.specs.Whole.{start, IsLegal, replayed}
use Rattle.hpx_journal.specs.Pool.{NoneFails, prints_of}
use Rattle.hpx_journal.specs.Sessions.{BeginsWith, IsBlock, IsSession, entries_of, shown as shown_blocks}
use Rattle.hpx_journal.proofs.Fronts.{legal_front}
use Rattle.hpx_journal.proofs.Grow.{legal_carried}
use Rattle.hpx_journal.proofs.Reduced.{none_front}
use Rattle.hpx_journal.proofs.Sessions.{quiet_settled}
use Rattle.hpx_steps.specs.Rest.{rules_of}
use Rattle.hpx_parcel.specs.Reading.{parcel_of}
use Rattle.hpx_world.proofs.Sound.{spells_well}
use Rattle.hpx_own.specs.Lines.{handled_as}
use Rattle.hpx_own.specs.declared.lines.Handled.{Handled}
use Rattle.hpx_own.specs.declared.lines.Handled.TheVariants.{Fed, Hold, Turn, Drain, Audit, Count, Refused}
use Rattle.app_console.specs.declared.table.Console.TheVariants as Tables
use Rattle.app_console.specs.Console.{prompt}
use Rattle.app_console.specs.Lines.{is_long, first_of, others_of, opening}
use Rattle.app_console.specs.Plain.{Plain, line_end, texts_of}
use Rattle.app_console.specs.Text.{too_long, marked, written, lines_text as lines_text_in}
use Rattle.app_console.proofs.JournalText.{law_each_line, law_opened_whole}
use Rattle.hpx_top.specs.Acts.{act_of}
use Rattle.hpx_top.proofs.ActLemmas.{acting}
use Rattle.hpx_top.specs.declared.consoles.UserConsole.{UserConsole}
use Rattle.hpx_top.specs.declared.consoles.UserConsole.TheVariants.{Accumulator, Space}
use Rattle.hpx_top.specs.Texts.{How, TooLong, Typed, fed, fed_lines, held_behind, held_by, how, is_fed, is_own, left_by, lines_text, mark_of, opens, owns, said, said_for, start_of, table_of}
use Rattle.hpx_top.specs.Parts.{Part, Rests, AreParts, Does, IsOwn, IsPart, IsHandled, cuts_of, journal_of, part_text, text_of}
use Rattle.hpx_top.specs.Session.{lines_fed, IsOpened, IsTold}
use Rattle.hpx_top.proofs.LineLemmas.{block_line, none_fed}

-- ---- one line more

pub held_append : (console : UserConsole) (held : Bool) (xs : List (List ℕ)) (line : List ℕ)
    → held_behind console held (xs ++ line ∷ []) ≡ held_by (held_behind console held xs) (how console line)
held_append console held [] line = refl
held_append console held (x ∷ xs) line = held_append console (held_by held (how console x)) xs line

journal_append : (ps : List Part) (p : Part) → journal_of (ps ++ p ∷ []) ≡ journal_of ps ++ p.entries
journal_append [] p = append-nil p.entries
journal_append (x ∷ ps) p = ap (λ t. x.entries ++ t) (journal_append ps p) ∙ sym (append_assoc x.entries (journal_of ps) p.entries)

regroup : (p a b t c : List ℕ) → p ++ (a ++ (b ++ (t ++ c))) ≡ (p ++ (a ++ (b ++ t))) ++ c
regroup p a b t c = simp append_assoc

text_append : (ps : List Part) (p : Part) → text_of (ps ++ p ∷ []) ≡ text_of ps ++ (prompt ++ part_text p)
text_append [] p = ap (λ t. prompt ++ (concat (prints_of p.entries) ++ t)) (append-nil p.own)
text_append (x ∷ ps) p =
    ap (λ t. prompt ++ (concat (prints_of x.entries) ++ (x.own ++ t))) (text_append ps p)
    ∙ regroup prompt (concat (prints_of x.entries)) x.own (text_of ps) (prompt ++ part_text p)

cuts_append : (before : List Entry) (ps : List Part) (p : Part)
    → cuts_of before (ps ++ p ∷ []) ≡ cuts_of before ps ++ length ((before ++ journal_of ps) ++ p.entries) ∷ []
cuts_append before [] p = ap (λ b. length (b ++ p.entries) ∷ []) (sym (append-nil before))
cuts_append before (x ∷ ps) p =
    ap (λ t. length (before ++ x.entries) ∷ t)
    (cuts_append (before ++ x.entries) ps p
    ∙ ap (λ b. cuts_of (before ++ x.entries) ps ++ length (b ++ p.entries) ∷ []) (append_assoc before x.entries (journal_of ps)))

parts_append : (console : UserConsole) (r : Rules) (held : Bool) (before : List Entry) (lines : List (List ℕ)) (parts : List Part) (line : List ℕ) (part : Part)
    → AreParts console r held before lines parts → IsPart console r (held_behind console held lines) (before ++ journal_of parts) line part
    → AreParts console r held before (lines ++ line ∷ []) (parts ++ part ∷ [])
parts_append console r held before [] [] line part h p = (subst (λ b. IsPart console r held b line part) (append-nil before) p, tt)
parts_append console r held before [] (x ∷ parts) line part h p = absurd h
parts_append console r held before (l ∷ lines) [] line part h p = absurd h
parts_append console r held before (l ∷ lines) (x ∷ parts) line part h p = (
  h.0,
  parts_append console r (held_by held (how console l)) (before ++ x.entries) lines parts line part h.1
      (subst (λ b. IsPart console r (held_behind console (held_by held (how console l)) lines) b line part) (sym (append_assoc before x.entries (journal_of parts))) p),
)

-- ---- what is told

-- by a journal that grew
pub told_grown : {console : UserConsole} {r : Rules} {cuts : List ℕ} {old new : List Entry} {lines : List (List ℕ)} {text : List ℕ} (more : List Entry)
    → new ≡ old ++ more → (t : IsTold console r cuts old lines text) → (t' : IsTold console r cuts new lines text) × (t'.later ≡ t.later ++ more)
told_grown {console} {r} {cuts} {old} {new} {lines} {text} more is t = (
  record {
    first = t.first;
    parts = t.parts;
    later = t.later ++ more;
    entries_are = is ∙ (ap (λ es. es ++ more) t.entries_are ∙ append_assoc (t.first ++ journal_of t.parts) t.later more);
    opened = t.opened;
    handled = t.handled;
    cuts_are = t.cuts_are;
    text_is = t.text_is;
  },
  refl,
)

pub told_more : {console : UserConsole} {r : Rules} {cuts : List ℕ} {old new : List Entry} {lines : List (List ℕ)} {text : List ℕ} (more : List Entry)
    → new ≡ old ++ more → IsTold console r cuts old lines text → IsTold console r cuts new lines text
told_more {console} {r} {cuts} {old} {new} {lines} {text} more is t = (told_grown more is t).0

-- with more lengths
pub told_cuts : {console : UserConsole} {r : Rules} {cuts cuts' : List ℕ} {entries : List Entry} {lines : List (List ℕ)} {text : List ℕ} (more : List ℕ)
    → cuts' ≡ cuts ++ more → length lines ≤ length cuts → IsTold console r cuts entries lines text → IsTold console r cuts' entries lines text
told_cuts {console} {r} {cuts} {cuts'} {entries} {lines} {text} more is few t = record {
  first = t.first;
  parts = t.parts;
  later = t.later;
  entries_are = t.entries_are;
  opened = t.opened;
  handled = t.handled;
  cuts_are = t.cuts_are ∙ (sym (take-append-le (length lines) cuts more few) ∙ ap (take (length lines)) (sym is));
  text_is = t.text_is;
}

-- of one line more
pub told_line : {console : UserConsole} {r : Rules} {cuts cuts' : List ℕ} {old new : List Entry} {lines : List (List ℕ)} {text line : List ℕ} {held held' : Bool}
    (t : IsTold console r cuts old lines text) → t.later ≡ [] → length cuts ≡ length lines → held ≡ held_behind console false lines
    → (h : IsHandled console r line held held' cuts cuts' old new)
    → (t' : IsTold console r cuts' new (lines ++ line ∷ []) (text ++ (prompt ++ part_text h.part))) × (t'.later ≡ [])
told_line {console} {r} {cuts} {cuts'} {old} {new} {lines} {text} {line} {held} {held'} t none count mode h =
    let before : old ≡ t.first ++ journal_of t.parts = t.entries_are ∙ (ap (λ l. (t.first ++ journal_of t.parts) ++ l) none ∙ append-nil (t.first ++ journal_of t.parts)) in
    let now : new ≡ (t.first ++ journal_of t.parts) ++ h.part.entries = h.is ∙ ap (λ es. es ++ h.part.entries) before in
    let grown : new ≡ t.first ++ journal_of (t.parts ++ h.part ∷ []) =
    now ∙ (append_assoc t.first (journal_of t.parts) h.part.entries ∙ ap (λ es. t.first ++ es) (sym (journal_append t.parts h.part))) in
    let cuts_now : cuts_of t.first (t.parts ++ h.part ∷ []) ≡ cuts' =
    cuts_append t.first t.parts h.part
    ∙ (ap (λ n. cuts_of t.first t.parts ++ n ∷ []) (ap length (sym now))
    ∙ (ap (λ cs. cs ++ length new ∷ []) (t.cuts_are ∙ take_all (length lines) cuts (omega (arith, count))) ∙ sym h.cut)) in
    let many : length cuts' ≤ length (lines ++ line ∷ []) =
    omega (arith, ap length h.cut, length-append cuts (length new ∷ []), count, length-append lines (line ∷ [])) in (
      record {
        first = t.first;
        parts = t.parts ++ h.part ∷ [];
        later = [];
        entries_are = grown ∙ sym (append-nil (t.first ++ journal_of (t.parts ++ h.part ∷ [])));
        opened = t.opened;
        handled = parts_append console r false t.first lines t.parts line h.part t.handled
            (subst (λ b. IsPart console r (held_behind console false lines) b line h.part) before
            (subst (λ m. IsPart console r m old line h.part) mode h.does));
        cuts_are = cuts_now ∙ sym (take_all (length (lines ++ line ∷ [])) cuts' many);
        text_is = ap (λ t. t ++ (prompt ++ part_text h.part)) t.text_is ∙ sym (text_append t.parts h.part);
      },
      refl,
    )

-- ---- what is fed

pub does_fed : (r : Rules) (text : List ℕ) (held : Bool) (h : How) (before more : List Entry) → Does r text held h before more
    → lines_fed more ≡ (if is_fed h then text ∷ [] else [])
does_fed r text held TooLong before more d = ap lines_fed d.none
does_fed r text held (Typed Fed) before more d = block_line text more d.0
does_fed r text held (Typed Hold) before more d = ap lines_fed d.none
does_fed r text true (Typed (Turn n)) before more d = none_fed more d.unfed
does_fed r text false (Typed (Turn n)) before more d = ap lines_fed d.none
does_fed r text true (Typed Drain) before more d = none_fed more d.unfed
does_fed r text false (Typed Drain) before more d = ap lines_fed d.none
does_fed r text held (Typed Audit) before more d = ap lines_fed d.none
does_fed r text held (Typed (Count c)) before more d = ap lines_fed d.none
does_fed r text held (Typed (Refused why)) before more d = ap lines_fed d.none

fed_cons : (b : Bool) (x : List ℕ) (xs ys : List (List ℕ)) → (if b then x ∷ (xs ++ ys) else xs ++ ys) ≡ (if b then x ∷ xs else xs) ++ ys
fed_cons true x xs ys = refl
fed_cons false x xs ys = refl

fed_lines_append : (console : UserConsole) (xs ys : List (List ℕ)) → fed_lines console (xs ++ ys) ≡ fed_lines console xs ++ fed_lines console ys
fed_lines_append console [] ys = refl
fed_lines_append console (x ∷ xs) ys =
    ap (λ t. if is_fed (how console x) then (mark_of console ∷ x) ∷ t else t) (fed_lines_append console xs ys)
    ∙ fed_cons (is_fed (how console x)) (mark_of console ∷ x) (fed_lines console xs) (fed_lines console ys)

pub fed_append : (console : UserConsole) (xs : List (List ℕ)) (line : List ℕ) → fed console (xs ++ line ∷ []) ≡ fed console xs ++ fed_lines console (line ∷ [])
fed_append console xs line =
    ap (λ t. opens console ++ t) (fed_lines_append console xs (line ∷ [])) ∙ sym (append_assoc (opens console) (fed_lines console xs) (fed_lines console (line ∷ [])))

-- ---- what one plain space says

or_none : (a b : Bool) → (a || b) ≡ false → (a ≡ false) × (b ≡ false)
or_none true b h = absurd (let no : true ≡ false = h in cc)
or_none false b h = (refl, h)

-- no line of the top call's own is among them
abbrev pub none_own : UserConsole → List (List ℕ) → Bool
none_own console lines = list_any (λ line. is_own (how console line)) lines

pub owns_less : (console : UserConsole) (xs ys : List (List ℕ)) → none_own console (xs ++ ys) ≡ false → none_own console xs ≡ false
owns_less console xs ys h =
    (or_none (none_own console xs) (none_own console ys) (sym (list_any-append (λ line. is_own (how console line)) xs ys) ∙ h)).0

-- how such a line is handled
data IsKind (console : UserConsole) (line : List ℕ) : Type 0 where
  IsTooLong : is_long line ≡ true → how console line ≡ TooLong → IsKind console line
  IsFedLine : is_long line ≡ false → how console line ≡ Typed Fed → IsKind console line
  IsDrain : how console line ≡ Typed Drain → IsKind console line

plain_kind : (console : UserConsole) (line : List ℕ) → is_own (how console line) ≡ false → IsKind console line
plain_kind console line own = by (is_long line) (handled_as (owns console) line) refl refl own
  where
    by : (long : Bool) (h : Handled) → is_long line ≡ long → how console line ≡ (if long then TooLong else Typed h) → is_own (if long then TooLong else Typed h) ≡ false
        → IsKind console line
    by true h long is own = IsTooLong long is
    by false Fed long is own = IsFedLine long is
    by false Drain long is own = IsDrain is
    by false Hold long is own = absurd (let no : true ≡ false = own in cc)
    by false (Turn n) long is own = absurd (let no : true ≡ false = own in cc)
    by false Audit long is own = absurd (let no : true ≡ false = own in cc)
    by false (Count c) long is own = absurd (let no : true ≡ false = own in cc)
    by false (Refused why) long is own = absurd (let no : true ≡ false = own in cc)

-- behind them nothing is held back
free_by : (console : UserConsole) (line : List ℕ) → IsKind console line → held_by false (how console line) ≡ false
free_by console line (IsTooLong long is) = ap (held_by false) is
free_by console line (IsFedLine short is) = ap (held_by false) is
free_by console line (IsDrain is) = ap (held_by false) is

pub plain_free : (console : UserConsole) (lines : List (List ℕ)) → none_own console lines ≡ false → held_behind console false lines ≡ false
plain_free console [] own = refl
plain_free console (line ∷ lines) own =
    let none = or_none (is_own (how console line)) (none_own console lines) own in
    ap (λ held. held_behind console held lines) (free_by console line (plain_kind console line none.0)) ∙ plain_free console lines none.1

-- ---- the lines that are fed, and their texts

-- what belongs to a line that is fed, before what belongs to the others
abbrev keep : {T : Type 0} → How → T → List T → List T
keep (Typed Fed) x xs = x ∷ xs
keep _ x xs = xs

abbrev kept : UserConsole → List (List ℕ) → List (List ℕ)
kept console [] = []
kept console (line ∷ lines) = keep (how console line) line (kept console lines)

abbrev blocks_of : UserConsole → List (List ℕ) → List Part → List (List Entry)
blocks_of console [] parts = []
blocks_of console (line ∷ lines) [] = []
blocks_of console (line ∷ lines) (part ∷ parts) = keep (how console line) part.entries (blocks_of console lines parts)

-- the text of a line, where the texts of those that are fed are these, and what is left of them
abbrev woven_for : How → List (List ℕ) → List ℕ
woven_for TooLong texts = too_long
woven_for (Typed Fed) [] = []
woven_for (Typed Fed) (text ∷ texts) = text
woven_for _ texts = []

abbrev others : How → List (List ℕ) → List (List ℕ)
others (Typed Fed) [] = []
others (Typed Fed) (text ∷ texts) = texts
others _ texts = texts

abbrev woven : UserConsole → List (List ℕ) → List (List ℕ) → List ℕ
woven console [] texts = []
woven console (line ∷ lines) texts = prompt ++ (woven_for (how console line) texts ++ woven console lines (others (how console line) texts))

-- ---- the parts of such lines

-- the parts are a session of the lines that are fed, and their text is woven of what its blocks print
record IsPlain (console : UserConsole) (r : Rules) (before : List Entry) (lines : List (List ℕ)) (parts : List Part) : Type 0 where
  session : IsSession r before (fed_lines console lines) (blocks_of console lines parts)
  entries : entries_of (blocks_of console lines parts) ≡ journal_of parts
  text : woven console lines (map concat (shown_blocks (blocks_of console lines parts))) ≡ text_of parts

-- a line that is not fed does nothing, and its text is its own
plain_unfed : (console : UserConsole) (r : Rules) (before : List Entry) (line : List ℕ) (lines : List (List ℕ)) (part : Part) (parts : List Part) (own : List ℕ)
    → fed_lines console (line ∷ lines) ≡ fed_lines console lines → blocks_of console (line ∷ lines) (part ∷ parts) ≡ blocks_of console lines parts
    → ((texts : List (List ℕ)) → woven console (line ∷ lines) texts ≡ prompt ++ (own ++ woven console lines texts))
    → part.entries ≡ [] → part.own ≡ own → IsPlain console r (before ++ part.entries) lines parts → IsPlain console r before (line ∷ lines) (part ∷ parts)
plain_unfed console r before line lines part parts own fed blocks says none is next =
    let same : before ++ part.entries ≡ before = ap (λ es. before ++ es) none ∙ append-nil before in
    let rest = blocks_of console lines parts in
    record {
      session = subst (λ ls. IsSession r before ls (blocks_of console (line ∷ lines) (part ∷ parts))) (sym fed)
          (subst (λ bs. IsSession r before (fed_lines console lines) bs) (sym blocks) (subst (λ es. IsSession r es (fed_lines console lines) rest) same next.session));
      entries = ap entries_of blocks ∙ (next.entries ∙ ap (λ es. es ++ journal_of parts) (sym none));
      text = ap (λ bs. woven console (line ∷ lines) (map concat (shown_blocks bs))) blocks
          ∙ (says (map concat (shown_blocks rest))
          ∙ (ap (λ t. prompt ++ (own ++ t)) next.text
          ∙ (ap (λ t. prompt ++ (t ++ text_of parts)) (sym is) ∙ ap (λ es. prompt ++ (concat (prints_of es) ++ (part.own ++ text_of parts))) (sym none))));
    }

-- a line that is fed has a block
plain_fed : (console : UserConsole) (r : Rules) (before : List Entry) (line : List ℕ) (lines : List (List ℕ)) (part : Part) (parts : List Part) → how console line ≡ Typed Fed
    → IsBlock r before (mark_of console ∷ line) part.entries → part.own ≡ [] → IsPlain console r (before ++ part.entries) lines parts
    → IsPlain console r before (line ∷ lines) (part ∷ parts)
plain_fed console r before line lines part parts is block own next =
    let rest = blocks_of console lines parts in
    let fed : fed_lines console (line ∷ lines) ≡ (mark_of console ∷ line) ∷ fed_lines console lines =
    ap (λ h. if is_fed h then (mark_of console ∷ line) ∷ fed_lines console lines else fed_lines console lines) is in
    let blocks : blocks_of console (line ∷ lines) (part ∷ parts) ≡ part.entries ∷ rest = ap (λ h. keep h part.entries rest) is in
    record {
      session = subst (λ ls. IsSession r before ls (blocks_of console (line ∷ lines) (part ∷ parts))) (sym fed)
          (subst (λ bs. IsSession r before ((mark_of console ∷ line) ∷ fed_lines console lines) bs) (sym blocks) (block, next.session));
      entries = ap entries_of blocks ∙ ap (λ es. part.entries ++ es) next.entries;
      text = ap (λ bs. woven console (line ∷ lines) (map concat (shown_blocks bs))) blocks
          ∙ (ap (λ h. prompt ++ (woven_for h (concat (prints_of part.entries) ∷ map concat (shown_blocks rest))
          ++ woven console lines (others h (concat (prints_of part.entries) ∷ map concat (shown_blocks rest))))) is
          ∙ (ap (λ t. prompt ++ (concat (prints_of part.entries) ++ t)) next.text
          ∙ ap (λ t. prompt ++ (concat (prints_of part.entries) ++ (t ++ text_of parts))) (sym own)));
    }

plain_part : (console : UserConsole) (r : Rules) (before : List Entry) (line : List ℕ) (lines : List (List ℕ)) (part : Part) (parts : List Part) → IsKind console line
    → IsPart console r false before line part → IsLegal r (before ++ part.entries) → IsPlain console r (before ++ part.entries) lines parts
    → IsPlain console r before (line ∷ lines) (part ∷ parts)
plain_part console r before line lines part parts (IsTooLong long is) p legal next =
    let did : Does r (mark_of console ∷ line) false TooLong before part.entries = subst (λ h. Does r (mark_of console ∷ line) false h before part.entries) is p.did in
    let text : IsOwn r false TooLong (before ++ part.entries) part.own = subst (λ h. IsOwn r false h (before ++ part.entries) part.own) is p.own in
    plain_unfed console r before line lines part parts too_long
    (ap (λ h. if is_fed h then (mark_of console ∷ line) ∷ fed_lines console lines else fed_lines console lines) is)
    (ap (λ h. keep h part.entries (blocks_of console lines parts)) is)
    (λ texts. ap (λ h. prompt ++ (woven_for h texts ++ woven console lines (others h texts))) is) did.none text next
plain_part console r before line lines part parts (IsDrain is) p legal next =
    let did : Does r (mark_of console ∷ line) false (Typed Drain) before part.entries = subst (λ h. Does r (mark_of console ∷ line) false h before part.entries) is p.did in
    let text : IsOwn r false (Typed Drain) (before ++ part.entries) part.own = subst (λ h. IsOwn r false h (before ++ part.entries) part.own) is p.own in
    plain_unfed console r before line lines part parts []
    (ap (λ h. if is_fed h then (mark_of console ∷ line) ∷ fed_lines console lines else fed_lines console lines) is)
    (ap (λ h. keep h part.entries (blocks_of console lines parts)) is)
    (λ texts. ap (λ h. prompt ++ (woven_for h texts ++ woven console lines (others h texts))) is) did.none text next
plain_part console r before line lines part parts (IsFedLine short is) p legal next =
    let did : Does r (mark_of console ∷ line) false (Typed Fed) before part.entries = subst (λ h. Does r (mark_of console ∷ line) false h before part.entries) is p.did in
    let text : IsOwn r false (Typed Fed) (before ++ part.entries) part.own = subst (λ h. IsOwn r false h (before ++ part.entries) part.own) is p.own in
    plain_fed console r before line lines part parts is
    (record { legal = legal; begins = did.0; settled = quiet_settled r (replayed r (before ++ part.entries)) (did.1.rest (legal_carried r (start (roots r.localities)) (before ++ part.entries) legal)).quiet }) text next

plain_parts : (console : UserConsole) (r : Rules) (before : List Entry) (lines : List (List ℕ)) (parts : List Part) → none_own console lines ≡ false
    → AreParts console r false before lines parts → IsLegal r (before ++ journal_of parts) → IsPlain console r before lines parts
plain_parts console r before [] [] own h legal = record { session = tt; entries = refl; text = refl }
plain_parts console r before [] (part ∷ parts) own h legal = absurd h
plain_parts console r before (line ∷ lines) [] own h legal = absurd h
plain_parts console r before (line ∷ lines) (part ∷ parts) own h legal =
    let none = or_none (is_own (how console line)) (none_own console lines) own in
    let kind = plain_kind console line none.0 in
    let all : IsLegal r ((before ++ part.entries) ++ journal_of parts) = subst (IsLegal r) (sym (append_assoc before part.entries (journal_of parts))) legal in
    let later = subst (λ held. AreParts console r held (before ++ part.entries) lines parts) (free_by console line kind) h.1 in
    plain_part console r before line lines part parts kind h.0 (legal_front r (start (roots r.localities)) (before ++ part.entries) (journal_of parts) all)
    (plain_parts console r (before ++ part.entries) lines parts none.1 later all)

-- ---- in the words of the console's law

-- the lines of the accumulator are fed, or too long
accumulator_fed : (lines : List (List ℕ)) → fed_lines Accumulator lines ≡ marked 97 lines
accumulator_fed [] = refl
accumulator_fed (line ∷ lines) = by (is_long line) (accumulator_fed lines)
  where
    by : (long : Bool) → fed_lines Accumulator lines ≡ marked 97 lines
        → (if is_fed (if long then TooLong else Typed Fed) then (97 ∷ line) ∷ fed_lines Accumulator lines else fed_lines Accumulator lines)
        ≡ (if long then marked 97 lines else (97 ∷ line) ∷ marked 97 lines)
    by true h = h
    by false h = ap (λ ls. (97 ∷ line) ∷ ls) h

accumulator_woven : (lines : List (List ℕ)) (texts : List (List (List ℕ))) → woven Accumulator lines (map concat texts) ≡ written lines texts
accumulator_woven [] texts = refl
accumulator_woven (line ∷ lines) texts = by (is_long line) texts (accumulator_woven lines)
  where
    by : (long : Bool) (texts : List (List (List ℕ))) → ((ts : List (List (List ℕ))) → woven Accumulator lines (map concat ts) ≡ written lines ts)
        → prompt ++ (woven_for (if long then TooLong else Typed Fed) (map concat texts) ++ woven Accumulator lines (others (if long then TooLong else Typed Fed) (map concat texts)))
        ≡ (if long then prompt ++ (too_long ++ written lines texts) else prompt ++ (first_of texts ++ written lines (others_of texts)))
    by true texts next = ap (λ t. prompt ++ (too_long ++ t)) (next texts)
    by false [] next = ap (λ t. prompt ++ t) (next [])
    by false (t ∷ ts) next = ap (λ x. prompt ++ (concat t ++ x)) (next ts)

accumulator_said : (n : ℕ) (v : Plain) (lines : List (List ℕ)) → lines_text_in Tables.Accumulator n v lines ≡ said Accumulator n v lines
accumulator_said n v [] = refl
accumulator_said n v (line ∷ lines) = by (is_long line) (λ v. accumulator_said n v lines)
  where
    by : (long : Bool) → ((v : Plain) → lines_text_in Tables.Accumulator n v lines ≡ said Accumulator n v lines)
        → prompt ++ ((if long then too_long else (line_end Tables.Accumulator n v line).text)
        ++ lines_text_in Tables.Accumulator n (if long then v else (line_end Tables.Accumulator n v line).plain) lines)
        ≡ prompt ++ (said_for (if long then TooLong else Typed Fed) Tables.Accumulator n v line
        ++ said Accumulator n (left_by (if long then TooLong else Typed Fed) Tables.Accumulator n v line) lines)
    by true next = ap (λ t. prompt ++ (too_long ++ t)) (next v)
    by false next = ap (λ t. prompt ++ ((line_end Tables.Accumulator n v line).text ++ t)) (next (line_end Tables.Accumulator n v line).plain)

-- those that are fed are not too long
record AreKept (console : UserConsole) (n : ℕ) (lines : List (List ℕ)) : Type 0 where
  fit : AllByRecursion (λ line. is_long line ≡ false) (kept console lines)
  fed : marked (mark_of console) (kept console lines) ≡ fed_lines console lines
  few : length (kept console lines) ≤ length lines
  says : (v : Plain) → woven console lines (texts_of (table_of console) n v (kept console lines)) ≡ said console n v lines

kept_unfed : (console : UserConsole) (n : ℕ) (line : List ℕ) (lines : List (List ℕ)) (own : List ℕ) → kept console (line ∷ lines) ≡ kept console lines
    → fed_lines console (line ∷ lines) ≡ fed_lines console lines → ((texts : List (List ℕ)) → woven console (line ∷ lines) texts ≡ prompt ++ (own ++ woven console lines texts))
    → ((v : Plain) → said console n v (line ∷ lines) ≡ prompt ++ (own ++ said console n v lines)) → AreKept console n lines → AreKept console n (line ∷ lines)
kept_unfed console n line lines own none fed weaves says k = record {
  fit = subst (AllByRecursion (λ line. is_long line ≡ false)) (sym none) k.fit;
  fed = ap (marked (mark_of console)) none ∙ (k.fed ∙ sym fed);
  few = omega (arith, ap length none, k.few);
  says = λ v.
      ap (λ ls. woven console (line ∷ lines) (texts_of (table_of console) n v ls)) none
      ∙ (weaves (texts_of (table_of console) n v (kept console lines)) ∙ (ap (λ t. prompt ++ (own ++ t)) (k.says v) ∙ sym (says v)));
}

kept_fed : (console : UserConsole) (n : ℕ) (line : List ℕ) (lines : List (List ℕ)) → is_long line ≡ false → how console line ≡ Typed Fed → AreKept console n lines
    → AreKept console n (line ∷ lines)
kept_fed console n line lines short is k =
    let mark = mark_of console in
    let table = table_of console in
    let one : kept console (line ∷ lines) ≡ line ∷ kept console lines = ap (λ h. keep h line (kept console lines)) is in
    record {
      fit = subst (AllByRecursion (λ line. is_long line ≡ false)) (sym one) (short, k.fit);
      fed = ap (marked mark) one
          ∙ (ap (λ b. if b then marked mark (kept console lines) else (mark ∷ line) ∷ marked mark (kept console lines)) short
          ∙ (ap (λ ls. (mark ∷ line) ∷ ls) k.fed
          ∙ sym (ap (λ h. if is_fed h then (mark ∷ line) ∷ fed_lines console lines else fed_lines console lines) is)));
      few = omega (arith, ap length one, k.few);
      says = λ v.
          let end = line_end table n v line in
          let texts = texts_of table n end.plain (kept console lines) in
          ap (λ ls. woven console (line ∷ lines) (texts_of table n v ls)) one
          ∙ (ap (λ h. prompt ++ (woven_for h (end.text ∷ texts) ++ woven console lines (others h (end.text ∷ texts)))) is
          ∙ (ap (λ t. prompt ++ (end.text ++ t)) (k.says end.plain)
          ∙ sym (ap (λ h. prompt ++ (said_for h table n v line ++ said console n (left_by h table n v line) lines)) is)));
    }

are_kept : (console : UserConsole) (n : ℕ) (lines : List (List ℕ)) → none_own console lines ≡ false → AreKept console n lines
are_kept console n [] own = record { fit = tt; fed = refl; few = omega arith; says = λ v. refl }
are_kept console n (line ∷ lines) own =
    let none = or_none (is_own (how console line)) (none_own console lines) own in
    by (plain_kind console line none.0) (are_kept console n lines none.1)
  where
    by : IsKind console line → AreKept console n lines → AreKept console n (line ∷ lines)
    by (IsFedLine short is) k = kept_fed console n line lines short is k
    by (IsTooLong long is) k =
        kept_unfed console n line lines too_long (ap (λ h. keep h line (kept console lines)) is)
        (ap (λ h. if is_fed h then (mark_of console ∷ line) ∷ fed_lines console lines else fed_lines console lines) is)
        (λ texts. ap (λ h. prompt ++ (woven_for h texts ++ woven console lines (others h texts))) is)
        (λ v. ap (λ h. prompt ++ (said_for h (table_of console) n v line ++ said console n (left_by h (table_of console) n v line) lines)) is) k
    by (IsDrain is) k =
        kept_unfed console n line lines [] (ap (λ h. keep h line (kept console lines)) is)
        (ap (λ h. if is_fed h then (mark_of console ∷ line) ∷ fed_lines console lines else fed_lines console lines) is)
        (λ texts. ap (λ h. prompt ++ (woven_for h texts ++ woven console lines (others h texts))) is)
        (λ v. ap (λ h. prompt ++ (said_for h (table_of console) n v line ++ said console n (left_by h (table_of console) n v line) lines)) is) k

-- ---- the text of parts

plain_text : (console : UserConsole) (n : ℕ) (p : Profile) (first : List Entry) (lines : List (List ℕ)) (parts : List Part) → 1 ≤ n → n ≤ 64 → length lines < 4000000000
    → none_own console lines ≡ false → IsOpened console (rules_of act_of n p) first → IsLegal (rules_of act_of n p) (first ++ journal_of parts)
    → NoneFails (first ++ journal_of parts) → IsPlain console (rules_of act_of n p) first lines parts → text_of parts ≡ lines_text console n lines
plain_text Accumulator n p first lines parts some few short own opened legal calm plain =
    let r = rules_of act_of n p in
    let blocks = blocks_of Accumulator lines parts in
    let front : IsLegal r first = legal_front r (start (roots r.localities)) first (journal_of parts) legal in
    let block : IsBlock r [] opening first = record {
      legal = front;
      begins = opened.0;
      settled = quiet_settled r (replayed r first) (opened.1.rest (legal_carried r (start (roots r.localities)) first front)).quiet;
    } in
    sym plain.text
    ∙ (accumulator_woven lines (shown_blocks blocks)
    ∙ ((law_opened_whole acting n p.credit_log p.credit_limit parcel_of some few Tables.Accumulator 97 refl lines (first ∷ blocks) short (spells_well act_of n p)
    (subst (λ es. NoneFails (first ++ es)) (sym plain.entries) calm)
    (block, subst (λ ls. IsSession r first ls blocks) (accumulator_fed lines) plain.session)).1
    ∙ accumulator_said n (start_of Accumulator n) lines))
plain_text Space n p first lines parts some few short own opened legal calm plain =
    let r = rules_of act_of n p in
    let blocks = blocks_of Space lines parts in
    let k = are_kept Space n lines own in
    let session = subst (λ ls. IsSession r [] ls blocks) (sym k.fed) (subst (λ f. IsSession r f (fed_lines Space lines) blocks) opened plain.session) in
    sym plain.text
    ∙ (ap (woven Space lines)
    (law_each_line acting n p.credit_log p.credit_limit parcel_of some few Tables.Space 115 refl (kept Space lines) blocks (omega (arith, k.few, short)) k.fit
    (spells_well act_of n p) (subst NoneFails (sym plain.entries) (subst (λ f. NoneFails (f ++ journal_of parts)) opened calm)) session)
    ∙ k.says (start_of Space n))

-- so the text of such lines is what one plain space says
pub told_plainly : (console : UserConsole) (n : ℕ) (p : Profile) (cuts : List ℕ) (entries : List Entry) (lines : List (List ℕ)) (text : List ℕ) → 1 ≤ n → n ≤ 64
    → length lines < 4000000000 → none_own console lines ≡ false → IsLegal (rules_of act_of n p) entries → NoneFails entries
    → IsTold console (rules_of act_of n p) cuts entries lines text → text ≡ lines_text console n lines
told_plainly console n p cuts entries lines text some few short own legal calm t =
    let r = rules_of act_of n p in
    let es = t.first ++ journal_of t.parts in
    let fine : IsLegal r es = legal_front r (start (roots r.localities)) es t.later (subst (IsLegal r) t.entries_are legal) in
    t.text_is
    ∙ plain_text console n p t.first lines t.parts some few short own t.opened fine ((none_front es t.later (subst NoneFails t.entries_are calm)).0)
    (plain_parts console r t.first lines t.parts own t.handled fine)
