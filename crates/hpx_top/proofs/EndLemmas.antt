-- What the end of a session says of the bytes of its input.
use Rattle.std.specs.Prelude.{IfSome, Result, Ok, Err, OnOk, IfErr, ⊤, ◌≢◌, ◌≤◌, ◌<◌, suc}
use Rattle.std.specs.Option.{option_map}
use Rattle.std.specs.List.{list_any, slice_split}
use Rattle.std.proofs.Common.{ℕ, Bool, true, false, List, [], ◌∷◌, ◌++◌, ◌≡◌, ◌+◌, ◌⊎◌, length, drop, Option, Some, None, refl, sym, ap, ◌∙◌, subst, inl, inr, arith, append-nil, append_assoc, length-append}
use Rattle.std.specs.List.{concat}
use Rattle.hpx_journal.specs.declared.entry.Entry.{Entry}
use Rattle.hpx_journal.specs.Entries.{Rules}
use Rattle.hpx_journal.specs.Pool.{prints_of}
use Rattle.hpx_ports.specs.Told.{preceded, followed}
use Rattle.hpx_world.specs.Steps.{IsUnfed}
use Rattle.app_console.specs.Console.{prompt}
use Rattle.app_console.specs.Lines.{IsFront, is_quit, is_newline, before_quit, lines_in, lines_of, quits}
use Rattle.hpx_top.specs.declared.consoles.UserConsole.{UserConsole}
use Rattle.hpx_top.specs.Texts.{commands, fed, held_behind}
use Rattle.hpx_top.specs.Reader.{Reading, HasRead, IsOut, input_left, lines_left, behind_line, behind}
use Rattle.hpx_top.specs.declared.session.SessionFault.{SessionFault}
use Rattle.hpx_top.specs.declared.session.SessionFault.TheVariants.{Read, Write, Fabric, JournalFull, OutOfMemory, Broken, InputFull}
use Rattle.hpx_top.specs.Session.{lines_fed, Telling, ByJournal, TellsAll, TellsNone, IsToldUp, IsTheirs, IsOfAll, IsCut, IsCutAt, IsCutIn, IsCutAtOpening, IsCutBy, IsEndCutBy, IsOver, IsUnderWay, IsStopped}
use Rattle.hpx_top.specs.Ends.{IsWhole, IsBrokenOff, IsBrokenIn, IsBrokenAtEnd, IsBrokenAtOpening, IsBegun, IsFullBehind, IsShort, IsEndedBy, IsReadFrom, IsReadUp, IsReadOn}
use Rattle.hpx_top.proofs.LineLemmas.{told_rest, before_quit_append, followed_nothing}
use Rattle.hpx_top.proofs.PartLemmas.{told_more}
use Rattle.hpx_top.proofs.SessionLemmas.{grown_up, let_go_fed, let_go_written, under_all, under_cut, under_end, under_in, under_opening}

handed : (input : List ℕ) (left : Option (List (List ℕ))) (lines rest : List (List ℕ)) → list_any is_quit lines ≡ false
    → lines_in (slice_split is_newline input) ≡ lines ++ rest → lines_of input ≡ lines ++ before_quit rest
handed input left lines rest goes_on is = ap before_quit is ∙ before_quit_append lines rest goes_on

-- all lines of the input
all_of : {console : UserConsole} {r : Rules} {ended held : Bool} {cuts : List ℕ} {old : Option (List ℕ)} {entries : List Entry} {now : Option (List ℕ)} (input : List ℕ)
    (o : IsOver console r ended (Some (lines_in (slice_split is_newline input))) old held cuts entries now) → lines_of input ≡ o.lines
all_of {console} {r} {ended} {held} {cuts} {old} {entries} {now} input o =
    let rest = told_rest (lines_in (slice_split is_newline input)) o.lines o.left o.handled.first in
    let last : before_quit rest.0 ≡ [] = subst (λ l. IfSome l (λ others. before_quit others ≡ [])) rest.1 o.last in
    handed input o.left o.lines rest.0 o.handled.goes_on rest.2 ∙ (ap (λ t. o.lines ++ t) last ∙ append-nil o.lines)

whole_at_end : {console : UserConsole} {r : Rules} {ended held : Bool} {cuts : List ℕ} {before : Option (List ℕ)} {now : Option (List ℕ)} {old : List Entry} (input : List ℕ) (new : List Entry)
    (later : Option (List ℕ)) (o : IsOver console r ended (Some (lines_in (slice_split is_newline input))) before held cuts old now) → IsUnfed old new → (held ≡ false → new ≡ old)
    → later ≡ followed now (concat (prints_of (drop (length old) new))) → IsWhole console (ByJournal r cuts) input new before later
whole_at_end {console} {r} {ended} {held} {cuts} {before} {now} {old} input new later o unfed still is =
    let all = all_of input o in
    let more = concat (prints_of (drop (length old) new)) in
    record {
      lines = let_go_fed o unfed ∙ ap (fed console) (sym all);
      text = o.text ++ (prompt ++ more);
      told = subst (λ ls. IsToldUp console r cuts new ls (o.text ++ (prompt ++ more))) (sym all) (grown_up o unfed still);
      is = let_go_written more later o is;
    }

broken_end : {console : UserConsole} {r : Rules} {ended held : Bool} {cuts : List ℕ} {before : Option (List ℕ)} {now : Option (List ℕ)} {old : List Entry} (input : List ℕ) (new : List Entry)
    (later : Option (List ℕ)) (o : IsOver console r ended (Some (lines_in (slice_split is_newline input))) before held cuts old now) → IsUnfed old new → held ≡ true
    → later ≡ now → IsBrokenAtEnd console (ByJournal r cuts) input new before later
broken_end {console} {r} {ended} {held} {cuts} {before} {now} {old} input new later o unfed on same =
    let all = all_of input o in
    record {
      held = ap (held_behind console false) all ∙ (sym o.mode ∙ on);
      lines = let_go_fed o unfed ∙ ap (fed console) (sym all);
      text = o.text;
      told = subst (λ ls. TellsAll console (ByJournal r cuts) new ls o.text) (sym all) (told_more unfed.more unfed.is o.told, o.count);
      is = same ∙ o.written;
    }

broken_at : {console : UserConsole} {telling : Telling} (most : ℕ) (input : List ℕ) (entries : List Entry) (old new : Option (List ℕ))
    → IsCut console telling most (Some (lines_in (slice_split is_newline input))) old entries new → IsBrokenOff console telling most input entries old new
broken_at {console} {telling} most input entries old new c =
    let rest = told_rest (lines_in (slice_split is_newline input)) (c.lines ++ c.next) c.left c.handled.first in
    record {
      handled = c.lines;
      next = c.next;
      later = before_quit rest.0;
      first = handed input c.left (c.lines ++ c.next) rest.0 c.handled.goes_on rest.2;
      few = c.few;
      lines = c.journal;
      text = c.text;
      told = c.told;
      ended = c.ended;
      is = c.written;
    }

broken_in : {console : UserConsole} {telling : Telling} (input : List ℕ) (entries : List Entry) (old new : Option (List ℕ))
    → IsCutIn console telling (Some (lines_in (slice_split is_newline input))) old entries new → IsBrokenIn console telling input entries old new
broken_in {console} {telling} input entries old new c =
    let lines = c.lines ++ c.line ∷ [] in
    let rest = told_rest (lines_in (slice_split is_newline input)) lines c.left c.handled.first in
    record {
      handled = c.lines;
      line = c.line;
      later = before_quit rest.0;
      first = handed input c.left lines rest.0 c.handled.goes_on rest.2 ∙ append_assoc c.lines (c.line ∷ []) (before_quit rest.0);
      short = c.short;
      lines = c.journal;
      text = c.text;
      told = c.told;
      is = c.written;
    }

begun_at : {console : UserConsole} {telling : Telling} (input : List ℕ) (entries : List Entry) (old new : Option (List ℕ))
    → IsUnderWay console telling (Some (lines_in (slice_split is_newline input))) old entries new → IsBegun console telling input entries old new
begun_at {console} {telling} input entries old new u =
    let rest = told_rest (lines_in (slice_split is_newline input)) (u.lines ++ u.next) u.left u.handled.first in
    record {
      handled = u.lines;
      next = u.next;
      later = before_quit rest.0;
      first = handed input u.left (u.lines ++ u.next) rest.0 u.handled.goes_on rest.2;
      few = u.few;
      lines = u.journal;
      text = u.text;
      is = u.written;
      theirs = theirs rest.0 rest.1 u.theirs;
      almost = u.almost;
    }
  where
    theirs : (rest : List (List ℕ)) → u.left ≡ Some rest
        → (IsTheirs console telling entries u.lines u.text
        ⊎ (IsOfAll console telling entries u.lines u.text × (u.next ≡ []) × IfSome u.left (λ others. before_quit others ≡ []))
        ⊎ ((u.lines ≡ []) × (u.next ≡ []) × TellsNone telling × IsFront u.text (commands console)))
        → (IsTheirs console telling entries u.lines u.text
        ⊎ (IsOfAll console telling entries u.lines u.text × (u.next ≡ []) × (before_quit rest ≡ []))
        ⊎ ((u.lines ≡ []) × (u.next ≡ []) × TellsNone telling × IsFront u.text (commands console)))
    theirs rest is (inl t) = inl t
    theirs rest is (inr (inl a)) = inr (inl (a.0, a.1, subst (λ l. IfSome l (λ others. before_quit others ≡ [])) is a.2))
    theirs rest is (inr (inr n)) = inr (inr n)

-- nothing was done yet
pub begun_nothing : {console : UserConsole} (telling : Telling) (input : List ℕ) (entries : List Entry) (old new : Option (List ℕ)) → entries ≡ [] → TellsNone telling → new ≡ old
    → IsBegun console telling input entries old new
begun_nothing {console} telling input entries old new empty none same = record {
  handled = [];
  next = [];
  later = lines_of input;
  first = refl;
  few = omega arith;
  lines = inr (ap lines_fed empty, refl);
  text = [];
  is = same ∙ sym (followed_nothing old);
  theirs = inr (inr (refl, refl, none, record { later = commands console; is = refl }));
  almost = inr (refl, refl);
}

read_up_at : {console : UserConsole} {r : Rules} {ended held : Bool} {cuts : List ℕ} {old now : Option (List ℕ)} {entries : List Entry} (input : List ℕ) (reading : Reading) (left : Option (List ℕ))
    → IsOver console r ended (Some (lines_in (slice_split is_newline input))) old held cuts entries now → HasRead (Some input) reading left → reading.ended ≡ ended
    → IsReadUp input left
read_up_at {console} {r} {ended} {held} {cuts} {old} {now} {entries} input reading left o h same = up o.read_up
  where
    up : (ended ≡ true) ⊎ (quits input ≡ true) → IsReadUp input left
    up (inr quit) = inl quit
    up (inl e) =
        let read = told_rest input h.front left h.next in
        let none : read.0 ≡ [] = subst (λ l. IfSome l (λ bytes. bytes ≡ [])) read.1 (h.at_end (same ∙ e)) in
        let count : length input ≡ length h.front + length read.0 = ap length read.2 ∙ length-append h.front read.0 in
        inr (read.1 ∙ ap (λ xs. Some xs) none, omega (arith, count, ap length none, h.count, h.below (same ∙ e)))

pub read_on_at : (n many : ℕ) (input : List ℕ) (reading : Reading) (left : Option (List ℕ)) → IsStopped many (Some (lines_in (slice_split is_newline input))) reading left
    → HasRead (Some input) reading left → reading.read ≡ n → IsReadOn n many input left
read_on_at n many input reading left s h all =
    let read = told_rest input h.front left h.next in
    let still : lines_left reading left ≡ Some (lines_in (slice_split is_newline (reading.pending ++ read.0)))
    = ap (λ b. lines_left (record reading { ended = b }) left) s.goes_on
    ∙ ap (λ o. lines_left (record reading { ended = false }) o) read.1 in
    let rest = told_rest (lines_in (slice_split is_newline input)) s.lines (lines_left reading left) s.handled.first in
    let same : rest.0 ≡ lines_in (slice_split is_newline (reading.pending ++ read.0)) = some_is rest.0 _ (sym rest.1 ∙ still) in
    record {
      front = h.front;
      rest = read.0;
      input_is = read.2;
      left_is = read.1;
      count = h.count ∙ all;
      lines = s.lines;
      many_are = s.many;
      piece = reading.pending;
      goes_on = s.handled.goes_on;
      no_line = s.no_line;
      lines_are = rest.2 ∙ ap (λ t. s.lines ++ t) same;
    }
  where
    some_is : (a b : List (List ℕ)) → Some a ≡ Some b → a ≡ b
    some_is a b h = cc

-- ---- by the cause of an end

abbrev failed : (T : Type 0) → SessionFault → Result T SessionFault
failed T f = Err f

ended_at : (console : UserConsole) (r : Rules) (cuts : List ℕ) (f : SessionFault) (input : List ℕ) (rest : Option (List ℕ)) (entries : List Entry) (old new : Option (List ℕ))
    → IsCutBy console f (ByJournal r cuts) (Some (lines_in (slice_split is_newline input))) old entries new → IsEndedBy console f (ByJournal r cuts) input rest entries old new
ended_at console r cuts Write input rest entries old new c = begun_at input entries old new c
ended_at console r cuts Read input rest entries old new c = broken_at 0 input entries old new c
ended_at console r cuts InputFull input rest entries old new c = broken_at 0 input entries old new c
ended_at console r cuts Fabric input rest entries old new c = inl (broken_in input entries old new c)
ended_at console r cuts JournalFull input rest entries old new c = inl (broken_in input entries old new c)
ended_at console r cuts (Broken breach) input rest entries old new c = inl (broken_in input entries old new c)
ended_at console r cuts OutOfMemory input rest entries old new c = inl (broken_at 1 input entries old new c)

begun_cut : {console : UserConsole} {r : Rules} {cuts : List ℕ} (most : ℕ) (input : List ℕ) (entries : List Entry) (old new : Option (List ℕ)) → most ≤ 1
    → IsCut console (ByJournal r cuts) most (Some (lines_in (slice_split is_newline input))) old entries new → IsBegun console (ByJournal r cuts) input entries old new
begun_cut {console} {r} {cuts} most input entries old new one c =
    begun_at input entries old new (under_cut most (Some (lines_in (slice_split is_newline input))) old new entries one c)

begun_in : {console : UserConsole} {r : Rules} {cuts : List ℕ} (input : List ℕ) (entries : List Entry) (old new : Option (List ℕ))
    → IsCutIn console (ByJournal r cuts) (Some (lines_in (slice_split is_newline input))) old entries new → IsBegun console (ByJournal r cuts) input entries old new
begun_in {console} {r} {cuts} input entries old new c = begun_at input entries old new (under_in (Some (lines_in (slice_split is_newline input))) old new entries c)

begun_by : {console : UserConsole} {r : Rules} {cuts : List ℕ} (f : SessionFault) (input : List ℕ) (entries : List Entry) (old new : Option (List ℕ))
    → IsCutBy console f (ByJournal r cuts) (Some (lines_in (slice_split is_newline input))) old entries new → IsBegun console (ByJournal r cuts) input entries old new
begun_by {console} {r} {cuts} Write input entries old new c = begun_at input entries old new c
begun_by {console} {r} {cuts} Read input entries old new c = begun_cut 0 input entries old new (omega arith) c
begun_by {console} {r} {cuts} InputFull input entries old new c = begun_cut 0 input entries old new (omega arith) c
begun_by {console} {r} {cuts} Fabric input entries old new c = begun_in input entries old new c
begun_by {console} {r} {cuts} JournalFull input entries old new c = begun_in input entries old new c
begun_by {console} {r} {cuts} (Broken breach) input entries old new c = begun_in input entries old new c
begun_by {console} {r} {cuts} OutOfMemory input entries old new c = begun_cut 1 input entries old new (omega arith) c

-- while the accumulator was made
opening_broken : {console : UserConsole} {telling : Telling} (input : List ℕ) (rest : Option (List ℕ)) (entries : List Entry) (old new : Option (List ℕ)) → rest ≡ Some input
    → IsCutAtOpening console telling old entries new → IsBrokenAtOpening console telling input rest entries old new
opening_broken {console} {telling} input rest entries old new unread c = record { only = c.only; unread = unread; none = c.none; lines = c.journal; text = c.written }

pub begun_opening : {console : UserConsole} (telling : Telling) (input : List ℕ) (entries : List Entry) (old new : Option (List ℕ)) → IsCutAtOpening console telling old entries new
    → IsBegun console telling input entries old new
begun_opening {console} telling input entries old new c =
    begun_at input entries old new (under_opening telling (Some (lines_in (slice_split is_newline input))) old new entries c)

pub ended_opening : {console : UserConsole} {T : Type 0} (telling : Telling) (f : SessionFault) (input : List ℕ) (rest : Option (List ℕ)) (entries : List Entry) (old new : Option (List ℕ))
    → (failed T f ≢ Err Read) × (failed T f ≢ Err Write) × (failed T f ≢ Err InputFull) → rest ≡ Some input → IsCutAtOpening console telling old entries new
    → IsEndedBy console f telling input rest entries old new
ended_opening {console} telling Read input rest entries old new other unread c = absurd (other.0 refl)
ended_opening {console} telling Write input rest entries old new other unread c = absurd (other.1 refl)
ended_opening {console} telling InputFull input rest entries old new other unread c = absurd (other.2 refl)
ended_opening {console} telling Fabric input rest entries old new other unread c = inr (inr (opening_broken input rest entries old new unread c))
ended_opening {console} telling JournalFull input rest entries old new other unread c = inr (inr (opening_broken input rest entries old new unread c))
ended_opening {console} telling (Broken breach) input rest entries old new other unread c = inr (inr (opening_broken input rest entries old new unread c))
ended_opening {console} telling OutOfMemory input rest entries old new other unread c = inr (inr (opening_broken input rest entries old new unread c))

-- what was held back was not let go
ended_end : {console : UserConsole} {r : Rules} {ended held : Bool} {cuts : List ℕ} {before : Option (List ℕ)} {now : Option (List ℕ)} {old : List Entry} (f : SessionFault) (input : List ℕ) (rest : Option (List ℕ))
    (new : List Entry) (later : Option (List ℕ)) (o : IsOver console r ended (Some (lines_in (slice_split is_newline input))) before held cuts old now) → IsUnfed old new
    → held ≡ true → (held ≡ false → new ≡ old) → IsEndCutBy f old new now later → IsEndedBy console f (ByJournal r cuts) input rest new before later
ended_end {console} {r} {ended} {held} {cuts} {before} {now} {old} Write input rest new later o unfed on still c =
    begun_at input new before later (under_end (Some (lines_in (slice_split is_newline input))) before now later old new o unfed still c)
ended_end {console} {r} {ended} {held} {cuts} {before} {now} {old} Read input rest new later o unfed on still c = absurd c
ended_end {console} {r} {ended} {held} {cuts} {before} {now} {old} InputFull input rest new later o unfed on still c = absurd c
ended_end {console} {r} {ended} {held} {cuts} {before} {now} {old} Fabric input rest new later o unfed on still c = inr (inl (broken_end input new later o unfed on c))
ended_end {console} {r} {ended} {held} {cuts} {before} {now} {old} JournalFull input rest new later o unfed on still c = inr (inl (broken_end input new later o unfed on c))
ended_end {console} {r} {ended} {held} {cuts} {before} {now} {old} (Broken breach) input rest new later o unfed on still c = inr (inl (broken_end input new later o unfed on c))
ended_end {console} {r} {ended} {held} {cuts} {before} {now} {old} OutOfMemory input rest new later o unfed on still c = inr (inl (broken_end input new later o unfed on c))

begun_end : {console : UserConsole} {r : Rules} {ended held : Bool} {cuts : List ℕ} {before : Option (List ℕ)} {now : Option (List ℕ)} {old : List Entry} (f : SessionFault) (input : List ℕ)
    (new : List Entry) (later : Option (List ℕ)) (o : IsOver console r ended (Some (lines_in (slice_split is_newline input))) before held cuts old now) → IsUnfed old new
    → (held ≡ false → new ≡ old) → IsEndCutBy f old new now later → IsBegun console (ByJournal r cuts) input new before later
begun_end {console} {r} {ended} {held} {cuts} {before} {now} {old} f input new later o unfed still c = begun_at input new before later (under f c)
  where
    all : Option (List (List ℕ))
    all = Some (lines_in (slice_split is_newline input))

    under : (f : SessionFault) → IsEndCutBy f old new now later → IsUnderWay console (ByJournal r cuts) all before new later
    under Write c = under_end all before now later old new o unfed still c
    under Read c = absurd c
    under InputFull c = absurd c
    under Fabric c = under_all all before now later old new o unfed c
    under JournalFull c = under_all all before now later old new o unfed c
    under (Broken breach) c = under_all all before now later old new o unfed c
    under OutOfMemory c = under_all all before now later old new o unfed c

-- ---- the same of the bytes that a source had left

abbrev pub all_lines : Option (List ℕ) → Option (List (List ℕ))
all_lines left = lines_left (record { pending = []; read = 0; ended = false }) left

told : (input : List ℕ) (left : Option (List ℕ)) → left ≡ Some input → all_lines left ≡ Some (lines_in (slice_split is_newline input))
told input left h = ap all_lines h

-- how it ends once all lines were handled
pub whole_from : {console : UserConsole} {r : Rules} {ended held : Bool} {cuts : List ℕ} {before now : Option (List ℕ)} {old : List Entry} (input : List ℕ) (left : Option (List ℕ)) (new : List Entry)
    (later : Option (List ℕ)) → left ≡ Some input → IsOver console r ended (all_lines left) before held cuts old now → IsUnfed old new → (held ≡ false → new ≡ old)
    → later ≡ followed now (concat (prints_of (drop (length old) new))) → IsWhole console (ByJournal r cuts) input new before later
whole_from {console} {r} {ended} {held} {cuts} {before} {now} {old} input left new later h o unfed still is =
    whole_at_end input new later (subst (λ all. IsOver console r ended all before held cuts old now) (told input left h) o) unfed still is

pub begun_whole : {console : UserConsole} {r : Rules} {ended held : Bool} {cuts : List ℕ} {before now : Option (List ℕ)} {old : List Entry} (input : List ℕ) (left : Option (List ℕ)) (new : List Entry)
    (later : Option (List ℕ)) → left ≡ Some input → IsOver console r ended (all_lines left) before held cuts old now → IsUnfed old new → (held ≡ false → new ≡ old)
    → later ≡ followed now (concat (prints_of (drop (length old) new))) → IsBegun console (ByJournal r cuts) input new before later
begun_whole {console} {r} {ended} {held} {cuts} {before} {now} {old} input left new later h o unfed still is =
    begun_end Write input new later (subst (λ all. IsOver console r ended all before held cuts old now) (told input left h) o) unfed still (record {
      front = concat (prints_of (drop (length old) new));
      begins = record { later = []; is = append-nil (concat (prints_of (drop (length old) new))) };
      held = is;
    })

pub ended_end_from : {console : UserConsole} {r : Rules} {ended held : Bool} {cuts : List ℕ} {before now : Option (List ℕ)} {old : List Entry} (f : SessionFault) (input : List ℕ) (left rest : Option (List ℕ))
    (new : List Entry) (later : Option (List ℕ)) → left ≡ Some input → IsOver console r ended (all_lines left) before held cuts old now → IsUnfed old new → held ≡ true
    → (held ≡ false → new ≡ old) → IsEndCutBy f old new now later → IsEndedBy console f (ByJournal r cuts) input rest new before later
ended_end_from {console} {r} {ended} {held} {cuts} {before} {now} {old} f input left rest new later h o unfed on still c =
    ended_end f input rest new later (subst (λ all. IsOver console r ended all before held cuts old now) (told input left h) o) unfed on still c

pub begun_end_from : {console : UserConsole} {r : Rules} {ended held : Bool} {cuts : List ℕ} {before now : Option (List ℕ)} {old : List Entry} (f : SessionFault) (input : List ℕ) (left : Option (List ℕ))
    (new : List Entry) (later : Option (List ℕ)) → left ≡ Some input → IsOver console r ended (all_lines left) before held cuts old now → IsUnfed old new
    → (held ≡ false → new ≡ old) → IsEndCutBy f old new now later → IsBegun console (ByJournal r cuts) input new before later
begun_end_from {console} {r} {ended} {held} {cuts} {before} {now} {old} f input left new later h o unfed still c =
    begun_end f input new later (subst (λ all. IsOver console r ended all before held cuts old now) (told input left h) o) unfed still c

pub short_end : {console : UserConsole} {r : Rules} {ended held : Bool} {cuts : List ℕ} {before now : Option (List ℕ)} {old : List Entry} (input : List ℕ) (left rest : Option (List ℕ))
    (new : List Entry) (later : Option (List ℕ)) → left ≡ Some input → IsOver console r ended (all_lines left) before held cuts old now → IsUnfed old new → held ≡ true
    → later ≡ now → IsShort console (ByJournal r cuts) input rest new before later
short_end {console} {r} {ended} {held} {cuts} {before} {now} {old} input left rest new later h o unfed on same =
    inr (inl (broken_end input new later (subst (λ all. IsOver console r ended all before held cuts old now) (told input left h) o) unfed on same))

-- by what letting go answers
pub begun_result : {console : UserConsole} {r : Rules} {ended held : Bool} {cuts : List ℕ} {before now : Option (List ℕ)} {old : List Entry} (result : Result ⊤ SessionFault) (input : List ℕ)
    (left : Option (List ℕ)) (new : List Entry) (later : Option (List ℕ)) → left ≡ Some input → IsOver console r ended (all_lines left) before held cuts old now → IsUnfed old new
    → (held ≡ false → new ≡ old) → OnOk result (later ≡ followed now (concat (prints_of (drop (length old) new)))) → IfErr result (λ f. IsEndCutBy f old new now later)
    → IsBegun console (ByJournal r cuts) input new before later
begun_result (Ok t) input left new later h o unfed still ok err = begun_whole input left new later h o unfed still ok
begun_result (Err f) input left new later h o unfed still ok err = begun_end_from f input left new later h o unfed still err

-- it fails in a hold alone
pub held_so : (held : Bool) (f : SessionFault) (result : Result ⊤ SessionFault) → result ≡ Err f → (held ≡ false → result ≡ Ok tt) → held ≡ true
held_so true f result is free = refl
held_so false f result is free = absurd (let both : ◌≡◌ {A = Result ⊤ SessionFault} (Ok tt) (Err f) = sym (free refl) ∙ is in cc)

pub ended_result : {console : UserConsole} {r : Rules} {ended held : Bool} {cuts : List ℕ} {before now : Option (List ℕ)} {old : List Entry} (result : Result ⊤ SessionFault) (input : List ℕ)
    (left rest : Option (List ℕ)) (new : List Entry) (later : Option (List ℕ)) → left ≡ Some input → IsOver console r ended (all_lines left) before held cuts old now → IsUnfed old new
    → (held ≡ false → (result ≡ Ok tt) × (new ≡ old)) → IfErr result (λ f. IsEndCutBy f old new now later) → IfErr result (λ f. IsEndedBy console f (ByJournal r cuts) input rest new before later)
ended_result (Ok t) input left rest new later h o unfed still err = tt
ended_result {console} {r} {ended} {held} (Err f) input left rest new later h o unfed still err =
    ended_end_from f input left rest new later h o unfed (held_so held f (Err f) refl (λ free. (still free).0)) (λ free. (still free).1) err

-- memory was wanting
written_before : (result : Result ⊤ SessionFault) (old new : List Entry) (now later : Option (List ℕ)) → result ≡ Err OutOfMemory → IfErr result (λ f. IsEndCutBy f old new now later) → later ≡ now
written_before result old new now later is h = subst (λ q. IfErr q (λ f. IsEndCutBy f old new now later)) is h

pub short_result : {console : UserConsole} {r : Rules} {ended held : Bool} {cuts : List ℕ} {before now : Option (List ℕ)} {old : List Entry} (result : Result ⊤ SessionFault) (input : List ℕ)
    (left rest : Option (List ℕ)) (new : List Entry) (later : Option (List ℕ)) → left ≡ Some input → IsOver console r ended (all_lines left) before held cuts old now → IsUnfed old new
    → (held ≡ false → (result ≡ Ok tt) × (new ≡ old)) → IfErr result (λ f. IsEndCutBy f old new now later) → result ≡ Err OutOfMemory
    → IsShort console (ByJournal r cuts) input rest new before later
short_result {console} {r} {ended} {held} {cuts} {before} {now} {old} result input left rest new later h o unfed still err is =
    short_end input left rest new later h o unfed (held_so held OutOfMemory result is (λ free. (still free).0)) (written_before result old new now later is err)

pub read_up_from : {console : UserConsole} {r : Rules} {ended held : Bool} {cuts : List ℕ} {old now : Option (List ℕ)} {entries : List Entry} (input : List ℕ) (left rest : Option (List ℕ)) (reading : Reading)
    → left ≡ Some input → IsOver console r ended (all_lines left) old held cuts entries now → HasRead left reading rest → reading.ended ≡ ended → IsReadUp input rest
read_up_from {console} {r} {ended} {held} {cuts} {old} {now} {entries} input left rest reading h o read same =
    read_up_at input reading rest (subst (λ all. IsOver console r ended all old held cuts entries now) (told input left h) o)
    (subst (λ all. HasRead all reading rest) h read) same

pub read_on_from : (n many : ℕ) (input : List ℕ) (left rest : Option (List ℕ)) (reading : Reading) → left ≡ Some input → IsStopped many (all_lines left) reading rest
    → HasRead left reading rest → reading.read ≡ n → IsReadOn n many input rest
read_on_from n many input left rest reading h stopped read count =
    read_on_at n many input reading rest (subst (λ all. IsStopped many all reading rest) (told input left h) stopped) (subst (λ all. HasRead all reading rest) h read) count

pub read_from : (input : List ℕ) (left rest : Option (List ℕ)) (reading : Reading) (before after : ℕ) → left ≡ Some input → HasRead left reading rest
    → after ≡ before + reading.read → IsReadFrom input rest before after
read_from input left rest reading before after h read count =
    let told = told_rest input read.front rest (sym h ∙ read.next) in
    record { front = read.front; rest = told.0; input_is = told.2; left_is = told.1; count = count ∙ ap (λ n. before + n) (sym read.count) }

-- nothing was read
pub read_from_none : (input : List ℕ) (left : Option (List ℕ)) (taken : ℕ) → left ≡ Some input → IsReadFrom input left taken taken
read_from_none input left taken h = record { front = []; rest = input; input_is = refl; left_is = h; count = omega arith }

pub ended_from : (console : UserConsole) (r : Rules) (cuts : List ℕ) (f : SessionFault) (input : List ℕ) (left rest : Option (List ℕ)) (entries : List Entry) (old new : Option (List ℕ))
    → left ≡ Some input → IsCutBy console f (ByJournal r cuts) (all_lines left) old entries new → IsEndedBy console f (ByJournal r cuts) input rest entries old new
ended_from console r cuts f input left rest entries old new h c =
    ended_at console r cuts f input rest entries old new (subst (λ all. IsCutBy console f (ByJournal r cuts) all old entries new) (told input left h) c)

pub begun_from : {console : UserConsole} {r : Rules} {cuts : List ℕ} (f : SessionFault) (input : List ℕ) (left : Option (List ℕ)) (entries : List Entry) (old new : Option (List ℕ))
    → left ≡ Some input → IsCutBy console f (ByJournal r cuts) (all_lines left) old entries new → IsBegun console (ByJournal r cuts) input entries old new
begun_from {console} {r} {cuts} f input left entries old new h c =
    begun_by f input entries old new (subst (λ all. IsCutBy console f (ByJournal r cuts) all old entries new) (told input left h) c)

-- before anything is read
pub read_none : (left : Option (List ℕ)) (reading : Reading) → reading ≡ record { pending = []; read = 0; ended = false } → HasRead left reading left
read_none left reading h = subst (λ r. HasRead left r left) (sym h) (record {
  front = [];
  count = refl;
  next = nothing left;
  at_end = λ e. absurd (let never : false ≡ true = e in cc);
  below = λ e. absurd (let never : false ≡ true = e in cc);
})
  where
    nothing : (o : Option (List ℕ)) → o ≡ preceded [] o
    nothing None = refl
    nothing (Some xs) = refl

-- ---- where memory was wanting

-- what is behind the lines that were handled
pub behind_more : (bytes mid later : Option (List ℕ)) (n : ℕ) → mid ≡ option_map (behind n) bytes → later ≡ option_map behind_line mid → later ≡ option_map (behind (n + 1)) bytes
behind_more None mid later n h next = next ∙ ap (option_map behind_line) h
behind_more (Some bytes) mid later n h next =
    let one : n + 1 ≡ suc n = omega arith in
    next ∙ ap (option_map behind_line) h ∙ ap (λ k. Some (behind k bytes)) (sym one)

pub behind_start : (left : Option (List ℕ)) (reading : Reading) → reading ≡ record { pending = []; read = 0; ended = false } → input_left reading left ≡ option_map (behind 0) left
behind_start left reading h = ap (λ r. input_left r left) h ∙ none left
  where
    none : (o : Option (List ℕ)) → preceded [] o ≡ option_map (behind 0) o
    none None = refl
    none (Some bytes) = refl

-- the input was full there
full_out : (count : ℕ) (input : List ℕ) (before rest : Option (List ℕ)) (reading : Reading) → before ≡ Some (behind count input) → HasRead (Some input) reading rest
    → IsFullBehind count input rest → IsOut reading before rest
full_out count input before rest reading is h f =
    let told = told_rest input h.front rest h.next in
    let same : Some told.0 ≡ Some f.rest = sym told.1 ∙ f.left_is in
    let rests : told.0 ≡ f.rest = cc in
    let all : length input ≡ length h.front + length told.0 = ap length told.2 ∙ length-append h.front told.0 in
    let full : length input ≡ length f.front + length f.rest = ap length f.input_is ∙ length-append f.front f.rest in
    let read : reading.read ≡ 67108864 = omega (arith, all, full, ap length rests, f.count, h.count) in
    record {
      read = read;
      goes_on = still reading.ended h.below read;
      piece = f.piece;
      rest = f.rest;
      input_is = is ∙ ap (λ bytes. Some bytes) f.behind_is;
      left_is = f.left_is;
      no_line = f.no_line;
    }
  where
    still : (ended : Bool) → (ended ≡ true → reading.read < 67108864) → reading.read ≡ 67108864 → ended ≡ false
    still false below read = refl
    still true below read = absurd (let less : reading.read < 67108864 = below refl in omega (arith, read))

short_at : {console : UserConsole} {telling : Telling} (count : ℕ) (input : List ℕ) (before rest : Option (List ℕ)) (reading : Reading) (entries : List Entry) (old new : Option (List ℕ))
    → IsCutAt console count telling 1 (Some (lines_in (slice_split is_newline input))) old entries new → before ≡ Some (behind count input) → HasRead (Some input) reading rest
    → (IsOut reading before rest → ⊥) → IsShort console telling input rest entries old new
unfolding broken_at
short_at {console} {telling} count input before rest reading entries old new c is h never = inl (
  broken_at 1 input entries old new c.0,
  λ f. never (full_out count input before rest reading is h (subst (λ k. IsFullBehind k input rest) c.1 f)),
)

pub short_from : {console : UserConsole} {telling : Telling} (count : ℕ) (input : List ℕ) (left before rest : Option (List ℕ)) (reading : Reading) (entries : List Entry) (old new : Option (List ℕ)) → left ≡ Some input
    → IsCutAt console count telling 1 (all_lines left) old entries new → before ≡ option_map (behind count) left → HasRead left reading rest
    → (IsOut reading before rest → ⊥) → IsShort console telling input rest entries old new
short_from {console} {telling} count input left before rest reading entries old new h c is read never =
    short_at count input before rest reading entries old new
    (subst (λ all. IsCutAt console count telling 1 all old entries new) (told input left h) c) (is ∙ ap (option_map (behind count)) h)
    (subst (λ all. HasRead all reading rest) h read) never

pub short_opening : {console : UserConsole} (telling : Telling) (input : List ℕ) (rest : Option (List ℕ)) (entries : List Entry) (old new : Option (List ℕ)) → rest ≡ Some input
    → IsCutAtOpening console telling old entries new → IsShort console telling input rest entries old new
short_opening {console} telling input rest entries old new unread c = inr (inr (opening_broken input rest entries old new unread c))
