-- A text that is fed, and how serving it ends.
use Rattle.std.specs.Prelude.{◌⊎◌, Bool, false, Result, Ok, Err, OnOk, IfErr, ◌≢◌, if◌then◌else◌}
use Rattle.std.specs.List.{slice_get, AllByRecursion}
use Rattle.std.proofs.Common.{ℕ, zero, suc, List, [], ◌∷◌, ◌++◌, ◌≡◌, ◌≤◌, length, set, Option, Some, refl, sym, ap, ◌∙◌, subst, inl, inr, arith, append-nil, append_assoc}
use Rattle.hpx_value.specs.declared.profile.Profile.{Profile}
use Rattle.hpx_journal.specs.declared.entry.Name.{Name}
use Rattle.hpx_journal.specs.declared.entry.Entry.{Entry}
use Rattle.hpx_journal.specs.declared.entry.Event.TheVariants.{Line}
use Rattle.hpx_journal.specs.Entries.{Frame, Rules}
use Rattle.hpx_journal.specs.Pool.{NoneFails}
use Rattle.hpx_journal.specs.Whole.{IsCarried, replayed}
use Rattle.hpx_journal.specs.Weights.{HasRoom}
use Rattle.hpx_journal.proofs.Ample.{legal_ample}
use Rattle.hpx_journal.proofs.Sessions.{quiet_settled}
use Rattle.hpx_journal.proofs.Start.{quiet_fires, quiet_dones}
use Rattle.hpx_steps.specs.Rest.{rules_of}
use Rattle.hpx_tables.specs.Tables.{Tables, IsPassive}
use Rattle.hpx_ports.specs.Told.{followed}
use Rattle.hpx_ports.specs.declared.fabric.Wire.{Wire}
use Rattle.hpx_world.specs.Away.{IsCarrying}
use Rattle.hpx_world.specs.declared.turns.Turned.{Turned}
use Rattle.hpx_world.specs.declared.turns.Turned.TheVariants as turned
use Rattle.hpx_world.specs.Places.{Places}
use Rattle.hpx_world.specs.Promises.{KeepsPromises}
use Rattle.hpx_world.specs.Quiet.{NoneRuns, IsAtRest}
use Rattle.hpx_world.specs.Sound.{DoneAt, IsSound}
use Rattle.hpx_hold.specs.Home.{GrowsAtHome}
use Rattle.hpx_world.specs.Steps.{IsUnfed}
use Rattle.hpx_world.specs.Turns.{Feeds as FeedsAt, next_name, DidFeed}
use Rattle.app_console.specs.Console.{prompt}
use Rattle.app_console.specs.Lines.{is_long, opening}
use Rattle.hpx_own.specs.Lines.{handled_as}
use Rattle.hpx_own.specs.declared.lines.Handled.{Handled}
use Rattle.hpx_own.specs.declared.lines.Handled.TheVariants.{Fed}
use Rattle.hpx_top.specs.Acts.{act_of}
use Rattle.hpx_top.specs.declared.consoles.UserConsole.{UserConsole}
use Rattle.hpx_top.specs.declared.consoles.UserConsole.TheVariants.{Accumulator}
use Rattle.hpx_top.specs.Texts.{TooLong, Typed, commands, fed_lines, how, is_fed, mark_of, owns}
use Rattle.hpx_top.specs.declared.breach.Breach.{Breach}
use Rattle.hpx_ports.specs.declared.link.Latest.{Latest}
use Rattle.hpx_top.specs.Breaches.{breach_in, IsOfTurn, IsShown, NoBreach, Shows}
use Rattle.hpx_top.specs.Parts.{Rests}
use Rattle.hpx_top.specs.declared.session.SessionFault.{SessionFault}
use Rattle.hpx_top.specs.declared.session.SessionFault.TheVariants.{Read, Write, Fabric, JournalFull, OutOfMemory, Broken, InputFull}
use Rattle.hpx_top.specs.Reader.{Reading, lines_left}
use Rattle.hpx_top.specs.Session.{rules, Carries, IsAmple, NoneRefused, AllGranted, AllDone, ByJournal, Telling, lines_fed, IsFed, FeedsAtMost, HasBegun, Feeds, IsServing, IsLeft, IsCutAtOpening, IsUnderWay, IsCutBy, IsEndCutBy, IsLineEndedBy, TellsNone}
use Rattle.hpx_top.proofs.LineLemmas.{block_line, none_fed}
use Rattle.hpx_top.proofs.SessionLemmas.{IsNext, cut_in, cut_line, fed_once, under_line}

-- ---- what is judged by the same rules

pub same_rules : (w w' : Places) → length w'.nodes ≡ length w.nodes → w'.profile ≡ w.profile → rules w' ≡ rules w
same_rules w w' count same = ap (λ n. rules_of act_of n w'.profile) count ∙ ap (λ p. rules_of act_of (length w.nodes) p) same

-- a fabric that carried before a turn carries behind it
pub carries_then : (w w' : Places) (flight flight' : Option (List Frame)) (trace trace' : Option (List Wire)) → length w'.nodes ≡ length w.nodes → w'.profile ≡ w.profile
    → (IsCarrying (rules w) w.hand flight trace w.journal.entries → IsCarrying (rules w) w'.hand flight' trace' w'.journal.entries)
    → Carries w flight trace → Carries w' flight' trace'
carries_then w w' flight flight' trace trace' count same f c =
    subst (λ r. IsCarrying r w'.hand flight' trace' w'.journal.entries) (sym (same_rules w w' count same)) (f c)

-- ---- a text and what follows from it are a block

-- the entry that a Feed writes
record IsWritten (text : List ℕ) (old new : List Entry) : Type 0 where
  at : ℕ
  name : Name
  is : new ≡ old ++ record { at = at; event = Line name text } ∷ []

written_by : (text : List ℕ) (t : Turned) (nodes nodes' : List Tables) (old new : List Entry) → DidFeed text t nodes nodes' old new → IsWritten text old new
written_by text turned.Fed nodes nodes' old new d = record { at = d.before.here; name = next_name d.before; is = d.does.writes.grows }
written_by text (turned.Fired job) nodes nodes' old new d = absurd d
written_by text turned.Idle nodes nodes' old new d = absurd d
written_by text (turned.Finished f) nodes nodes' old new d = absurd d
written_by text turned.Moved nodes nodes' old new d = absurd d
written_by text turned.Empty nodes nodes' old new d = absurd d

-- a text is fed at locality 0, by an entry of its own
pub fed_home : (text : List ℕ) (t : Turned) (nodes nodes' : List Tables) (old new : List Entry) {profile : Profile} → IsSound act_of profile nodes old
    → DidFeed text t nodes nodes' old new → GrowsAtHome old new
fed_home text turned.Fed nodes nodes' old new {profile} sound d = record {
  more = record { at = d.before.here; event = Line (next_name d.before) text } ∷ [];
  is = d.does.writes.grows;
  home = (((sound.stand 0 d.before d.there).here, tt), tt);
}
fed_home text (turned.Fired job) nodes nodes' old new {profile} sound d = absurd d
fed_home text turned.Idle nodes nodes' old new {profile} sound d = absurd d
fed_home text (turned.Finished f) nodes nodes' old new {profile} sound d = absurd d
fed_home text turned.Moved nodes nodes' old new {profile} sound d = absurd d
fed_home text turned.Empty nodes nodes' old new {profile} sound d = absurd d

pub fed_then : (text : List ℕ) (t : Turned) (nodes nodes' : List Tables) (old mid new : List Entry) → DidFeed text t nodes nodes' old mid → IsUnfed mid new
    → IsFed text old new
fed_then text t nodes nodes' old mid new d unfed =
    let w = written_by text t nodes nodes' old mid d in
    let e : Entry = record { at = w.at; event = Line w.name text } in
    record {
      block = e ∷ unfed.more;
      is = unfed.is ∙ (ap (λ x. x ++ unfed.more) w.is ∙ append_assoc old (e ∷ []) unfed.more);
      begins = ((w.name, refl), unfed.unfed);
    }

-- ---- feeding hands no job out

pub passive_runs : (nodes : List Tables) → AllByRecursion IsPassive nodes → NoneRuns nodes
passive_runs [] h = tt
passive_runs (t ∷ ts) h = ((h.0).running, passive_runs ts h.1)

set_runs : (nodes : List Tables) (k : ℕ) (t : Tables) → NoneRuns nodes → t.running ≡ [] → NoneRuns (set nodes k t)
set_runs [] k t h none = tt
set_runs (x ∷ xs) zero t h none = (none, h.1)
set_runs (x ∷ xs) (suc k) t h none = (h.0, set_runs xs k t h.1 none)

get_runs : (nodes : List Tables) (k : ℕ) (t : Tables) → NoneRuns nodes → slice_get nodes k ≡ Some t → t.running ≡ []
get_runs [] k t h at = cc
get_runs (x ∷ xs) zero t h at = let e : x ≡ t = cc in ap (λ (y : Tables). y.running) (sym e) ∙ h.0
get_runs (x ∷ xs) (suc k) t h at = get_runs xs k t h.1 at

fed_runs : (text : List ℕ) (nodes nodes' : List Tables) (old new : List Entry) → DoneAt 0 (FeedsAt text old new) nodes nodes' → NoneRuns nodes → NoneRuns nodes'
fed_runs text nodes nodes' old new d none =
    let same : d.after.running ≡ d.before.running =
    ap (λ (x : Tables). x.running) d.does.waits in
    subst NoneRuns (sym d.others) (set_runs nodes 0 d.after none (same ∙ get_runs nodes 0 d.before none d.there))

-- nor where some locality is not passive
pub none_more : (text : List ℕ) (t : Turned) (nodes nodes' : List Tables) (old new : List Entry) → DidFeed text t nodes nodes' old new → NoneRuns nodes → NoneRuns nodes'
none_more text turned.Fed nodes nodes' old new d none = fed_runs text nodes nodes' old new d none
none_more text (turned.Fired job) nodes nodes' old new d none = absurd d
none_more text turned.Idle nodes nodes' old new d none = absurd d
none_more text (turned.Finished f) nodes nodes' old new d none = absurd d
none_more text turned.Moved nodes nodes' old new d none = absurd d
none_more text turned.Empty nodes nodes' old new d none = absurd d

pub none_out : (text : List ℕ) (t : Turned) (nodes nodes' : List Tables) (old new : List Entry) → DidFeed text t nodes nodes' old new
    → AllByRecursion IsPassive nodes → NoneRuns nodes'
none_out text turned.Fed nodes nodes' old new d passive = fed_runs text nodes nodes' old new d (passive_runs nodes passive)
none_out text (turned.Fired job) nodes nodes' old new d passive = absurd d
none_out text turned.Idle nodes nodes' old new d passive = absurd d
none_out text (turned.Finished f) nodes nodes' old new d passive = absurd d
none_out text turned.Moved nodes nodes' old new d passive = absurd d
none_out text turned.Empty nodes nodes' old new d passive = absurd d

-- ---- no action fails

-- each ask is granted
pub all_granted : (n : ℕ) (p : Profile) (es : List Entry) → IsAmple p → length es ≤ 2097152 → KeepsPromises (rules_of act_of n p) es → AllGranted es
all_granted n p es ample few promises =
    let none = legal_ample (rules_of act_of n p) es promises.ledger.legal ample.log few ample.limit in
    record { asks = none; actions = omega (arith, promises.limit.failures, none) }

-- none was refused, or none can be
pub none_fails : (n : ℕ) (p : Profile) (es : List Entry) → NoneRefused p es → length es ≤ 2097152 → KeepsPromises (rules_of act_of n p) es → NoneFails es
none_fails n p es (inl ample) few promises = (all_granted n p es ample few promises).actions
none_fails n p es (inr none) few promises = omega (arith, promises.limit.failures, none)

-- where nothing is under way, each action is done
pub all_done : (n : ℕ) (p : Profile) (es : List Entry) → KeepsPromises (rules_of act_of n p) es
    → IsAtRest (rules_of act_of n p) (replayed (rules_of act_of n p) es) → AllDone es
all_done n p es promises rest = record {
  fired = λ a. quiet_fires (rules_of act_of n p) es promises.ledger.legal rest.quiet a;
  done = λ a. quiet_dones (rules_of act_of n p) es promises.ledger.legal rest.quiet a;
}

-- what was fed, and all that follows from it
pub feeds : (n : ℕ) (p : Profile) (text : List ℕ) (old new : List Entry) → IsFed text old new
    → (IsCarried (rules_of act_of n p) [] new → KeepsPromises (rules_of act_of n p) new) → Rests (rules_of act_of n p) new → Feeds (rules_of act_of n p) text old new
feeds n p text old new f promises rest = record {
  block = f.block;
  is = f.is;
  begins = f.begins;
  legal = λ carried. (promises carried).ledger.legal;
  settled = λ carried. quiet_settled (rules_of act_of n p) (replayed (rules_of act_of n p) new) (rest.rest carried).quiet;
}

-- ---- why a text is not fed, or the world does not come to rest

-- the faults of a feed, which are the three that are left
pub of_three : (f : SessionFault) → (f ≢ Read) × (f ≢ Write) × (f ≢ InputFull) → ((b : Breach) → f ≡ Broken b → ⊥)
    → (f ≡ Fabric) ⊎ (f ≡ JournalFull) ⊎ (f ≡ OutOfMemory)
of_three Read other broken = absurd (other.0 refl)
of_three Write other broken = absurd (other.1 refl)
of_three InputFull other broken = absurd (other.2 refl)
of_three (Broken breach) other broken = absurd (broken breach refl)
of_three Fabric other broken = inl refl
of_three JournalFull other broken = inr (inl refl)
of_three OutOfMemory other broken = inr (inr refl)

-- those of a turn, and what shows a breach
pub of_turn : (f : SessionFault) (w : Places) (latest : Latest) → (f ≢ Read) × (f ≢ Write) × (f ≢ InputFull) → ((b : Breach) → breach_in f ≡ Some b → Shows b w latest) → IsOfTurn f w latest
of_turn Read w latest other broken = absurd (other.0 refl)
of_turn Write w latest other broken = absurd (other.1 refl)
of_turn InputFull w latest other broken = absurd (other.2 refl)
of_turn (Broken breach) w latest other broken = broken breach refl
of_turn Fabric w latest other broken = tt
of_turn JournalFull w latest other broken = tt
of_turn OutOfMemory w latest other broken = tt

pub three_turn : (f : SessionFault) (w : Places) (latest : Latest) → (f ≡ Fabric) ⊎ (f ≡ JournalFull) ⊎ (f ≡ OutOfMemory) → IsOfTurn f w latest
three_turn f w latest (inl e) = subst (λ g. IsOfTurn g w latest) (sym e) tt
three_turn f w latest (inr (inl e)) = subst (λ g. IsOfTurn g w latest) (sym e) tt
three_turn f w latest (inr (inr e)) = subst (λ g. IsOfTurn g w latest) (sym e) tt

pub three_calm : (f : SessionFault) → (f ≡ Fabric) ⊎ (f ≡ JournalFull) ⊎ (f ≡ OutOfMemory) → NoBreach f
three_calm f (inl e) = subst NoBreach (sym e) tt
three_calm f (inr (inl e)) = subst NoBreach (sym e) tt
three_calm f (inr (inr e)) = subst NoBreach (sym e) tt

pub turn_shown : (f : SessionFault) (w : Places) (latest : Latest) → IsOfTurn f w latest → IsShown f w latest
turn_shown Read w latest h = tt
turn_shown Write w latest h = tt
turn_shown InputFull w latest h = tt
turn_shown (Broken breach) w latest h = h
turn_shown Fabric w latest h = tt
turn_shown JournalFull w latest h = tt
turn_shown OutOfMemory w latest h = tt

pub turn_other : (f : SessionFault) (w : Places) (latest : Latest) → IsOfTurn f w latest → (f ≢ Read) × (f ≢ Write) × (f ≢ InputFull)
turn_other f w latest h = (
  λ e. subst (λ g. IsOfTurn g w latest) e h,
  λ e. subst (λ g. IsOfTurn g w latest) e h,
  λ e. subst (λ g. IsOfTurn g w latest) e h,
)

pub no_breach : (f : SessionFault) → ((b : Breach) → breach_in f ≡ Some b → ⊥) → NoBreach f
no_breach Read none = tt
no_breach Write none = tt
no_breach InputFull none = tt
no_breach (Broken breach) none = none breach refl
no_breach Fabric none = tt
no_breach JournalFull none = tt
no_breach OutOfMemory none = tt

-- the same of an answer
pub answer_shown : {T : Type 0} (r : Result T SessionFault) (w : Places) (latest : Latest) → IfErr r (λ f. IsOfTurn f w latest) → IfErr r (λ f. IsShown f w latest)
answer_shown (Ok x) w latest h = tt
answer_shown (Err f) w latest h = turn_shown f w latest h

pub answer_other : {T : Type 0} (r : Result T SessionFault) (w : Places) (latest : Latest) → IfErr r (λ f. IsOfTurn f w latest) → (r ≢ Err Read) × (r ≢ Err Write) × (r ≢ Err InputFull)
answer_other {T} (Ok x) w latest h = (λ e. cc, λ e. cc, λ e. cc)
answer_other {T} (Err f) w latest h =
    let other = turn_other f w latest h in
    (λ e. other.0 (err_same f Read e), λ e. other.1 (err_same f Write e), λ e. other.2 (err_same f InputFull e))
  where
    err_same : (a b : SessionFault) → ◌≡◌ {A = Result T SessionFault} (Err a) (Err b) → a ≡ b
    err_same a b e = cc

pub answer_turn : {T : Type 0} (r : Result T SessionFault) (w : Places) (latest : Latest) → IfErr r (λ f. (f ≢ Fabric) × IsOfTurn f w latest) → IfErr r (λ f. IsOfTurn f w latest)
answer_turn (Ok x) w latest h = tt
answer_turn (Err f) w latest h = h.1

-- the fabric was left alone
pub apart_never : {T : Type 0} (r : Result T SessionFault) (w : Places) (latest : Latest) → IfErr r (λ f. (f ≢ Fabric) × IsOfTurn f w latest) → r ≡ Err Fabric → ⊥
apart_never r w latest h e = (subst (λ q. IfErr q (λ f. (f ≢ Fabric) × IsOfTurn f w latest)) e h).0 refl

-- want of memory and a failed write show nothing
pub memory_shown : (f : SessionFault) (w : Places) (latest : Latest) → f ≡ OutOfMemory → IsShown f w latest
memory_shown f w latest e = subst (λ g. IsShown g w latest) (sym e) tt

pub memory_calm : (f : SessionFault) → f ≡ OutOfMemory → NoBreach f
memory_calm f e = subst NoBreach (sym e) tt

pub write_shown : (f : SessionFault) (w : Places) (latest : Latest) → f ≡ Write → IsShown f w latest
write_shown f w latest e = subst (λ g. IsShown g w latest) (sym e) tt

pub write_calm : (f : SessionFault) → f ≡ Write → NoBreach f
write_calm f e = subst NoBreach (sym e) tt

pub written_shown : {T : Type 0} (r : Result T SessionFault) (w : Places) (latest : Latest) (Q : Type 0) → IfErr r (λ f. (f ≡ Write) × Q) → IfErr r (λ f. IsShown f w latest)
written_shown (Ok x) w latest Q h = tt
written_shown (Err f) w latest Q h = write_shown f w latest h.0

pub written_calm : {T : Type 0} (r : Result T SessionFault) (Q : Type 0) → IfErr r (λ f. (f ≡ Write) × Q) → IfErr r NoBreach
written_calm (Ok x) Q h = tt
written_calm (Err f) Q h = write_calm f h.0

-- one or the other
pub either_shown : (f : SessionFault) (w : Places) (latest : Latest) (Q S : Type 0) → ((f ≡ Write) × Q) ⊎ ((f ≡ OutOfMemory) × S) → IsShown f w latest
either_shown f w latest Q S (inl h) = write_shown f w latest h.0
either_shown f w latest Q S (inr h) = memory_shown f w latest h.0

pub either_calm : (f : SessionFault) (Q S : Type 0) → ((f ≡ Write) × Q) ⊎ ((f ≡ OutOfMemory) × S) → NoBreach f
either_calm f Q S (inl h) = write_calm f h.0
either_calm f Q S (inr h) = memory_calm f h.0

pub answer_either : {T : Type 0} (r : Result T SessionFault) (w : Places) (latest : Latest) (Q S : Type 0) → IfErr r (λ f. ((f ≡ Write) × Q) ⊎ ((f ≡ OutOfMemory) × S)) → IfErr r (λ f. IsShown f w latest)
answer_either (Ok x) w latest Q S h = tt
answer_either (Err f) w latest Q S h = either_shown f w latest Q S h

pub answer_calm : {T : Type 0} (r : Result T SessionFault) (Q S : Type 0) → IfErr r (λ f. ((f ≡ Write) × Q) ⊎ ((f ≡ OutOfMemory) × S)) → IfErr r NoBreach
answer_calm (Ok x) Q S h = tt
answer_calm (Err f) Q S h = either_calm f Q S h

-- behind the last prompt nothing was written
pub end_cut : (f : SessionFault) (w : Places) (latest : Latest) (old new : List Entry) (before now : Option (List ℕ)) → IsOfTurn f w latest → now ≡ before → IsEndCutBy f old new before now
end_cut Read w latest old new before now h same = absurd h
end_cut Write w latest old new before now h same = absurd h
end_cut InputFull w latest old new before now h same = absurd h
end_cut (Broken breach) w latest old new before now h same = same
end_cut Fabric w latest old new before now h same = same
end_cut JournalFull w latest old new before now h same = same
end_cut OutOfMemory w latest old new before now h same = same

-- a fault is none, or is the one that was told
pub breach_is : (f : SessionFault) (b : Breach) → f ≡ Broken b → breach_in f ≡ Some b
breach_is f b e = ap breach_in e

-- by what can come where the journal is not full
pub room_by : (f : SessionFault) (w : Places) (latest : Latest) (R : Type 0) → IsOfTurn f w latest → (f ≢ JournalFull) → (f ≡ OutOfMemory → R) → (f ≡ Fabric → R) → ((b : Breach) → f ≡ Broken b → R) → R
room_by Read w latest R h full memory there broken = absurd h
room_by Write w latest R h full memory there broken = absurd h
room_by InputFull w latest R h full memory there broken = absurd h
room_by (Broken breach) w latest R h full memory there broken = broken breach refl
room_by Fabric w latest R h full memory there broken = there refl
room_by JournalFull w latest R h full memory there broken = absurd (full refl)
room_by OutOfMemory w latest R h full memory there broken = memory refl

-- before anything is written there is room
pub room_none : HasRoom []
room_none = record { entries = omega arith; weight = omega arith }

-- what holds at Ok, from what else holds there
pub on_ok : {T E : Type 0} (r : Result T E) (P Q : Type 0) → ((x : T) → r ≡ Ok x → P → Q) → OnOk r P → OnOk r Q
on_ok (Ok x) P Q f p = f x refl p
on_ok (Err e) P Q f p = tt

-- ---- how serving a line ends

-- a line that is not too long
pub cut_text : {console : UserConsole} {r : Rules} {held : Bool} {cuts : List ℕ} {line : List ℕ} (held' : Bool) (cuts' : List ℕ) (f : SessionFault) (all : Option (List (List ℕ))) (before now mid later : Option (List ℕ))
    (reading next : Reading) (left rest : Option (List ℕ)) (old new : List Entry) → IsServing console r all before reading left held cuts old now
    → mid ≡ followed now prompt → IsNext line (lines_left reading left) (lines_left next rest) → is_long line ≡ false
    → IsLineEndedBy console f r line held held' cuts cuts' old new mid later → IsCutBy console f (ByJournal r cuts') all before new later
cut_text held' cuts' Write all before now mid later reading next left rest old new s prompted takes short e = under_line all before now mid later reading next left rest old new s prompted takes e
cut_text held' cuts' Read all before now mid later reading next left rest old new s prompted takes short e = absurd e
cut_text held' cuts' InputFull all before now mid later reading next left rest old new s prompted takes short e = absurd e
cut_text held' cuts' Fabric all before now mid later reading next left rest old new s prompted takes short e = cut_in all before now mid later reading next left rest old new s prompted takes short e
cut_text held' cuts' JournalFull all before now mid later reading next left rest old new s prompted takes short e = cut_in all before now mid later reading next left rest old new s prompted takes short e
cut_text held' cuts' (Broken breach) all before now mid later reading next left rest old new s prompted takes short e = cut_in all before now mid later reading next left rest old new s prompted takes short e
cut_text held' cuts' OutOfMemory all before now mid later reading next left rest old new s prompted takes short e = (cut_line all before now mid later reading next left rest old new s prompted takes e).0

-- a line that is too long
pub cut_long : {console : UserConsole} {r : Rules} {held : Bool} {cuts : List ℕ} {line : List ℕ} (held' : Bool) (cuts' : List ℕ) (f : SessionFault) (Q : Type 0) (all : Option (List (List ℕ))) (before now mid later : Option (List ℕ))
    (reading next : Reading) (left rest : Option (List ℕ)) (old new : List Entry) → IsServing console r all before reading left held cuts old now
    → mid ≡ followed now prompt → IsNext line (lines_left reading left) (lines_left next rest) → (f ≡ OutOfMemory) ⊎ ((f ≡ Write) × Q)
    → IsLineEndedBy console f r line held held' cuts cuts' old new mid later → IsCutBy console f (ByJournal r cuts') all before new later
cut_long {console} {r} {held} {cuts} {line} held' cuts' f Q all before now mid later reading next left rest old new s prompted takes (inl memory) e =
    subst (λ g. IsCutBy console g (ByJournal r cuts') all before new later) (sym memory)
    (cut_line all before now mid later reading next left rest old new s prompted takes
    (subst (λ g. IsLineEndedBy console g r line held held' cuts cuts' old new mid later) memory e)).0
cut_long {console} {r} {held} {cuts} {line} held' cuts' f Q all before now mid later reading next left rest old new s prompted takes (inr write) e =
    subst (λ g. IsCutBy console g (ByJournal r cuts') all before new later) (sym write.0)
    (under_line all before now mid later reading next left rest old new s prompted takes
    (subst (λ g. IsLineEndedBy console g r line held held' cuts cuts' old new mid later) write.0 e))

-- what was begun of a line, and nothing was written
pub line_left : {console : UserConsole} {line : List ℕ} {cuts cuts' : List ℕ} (r : Rules) (held held' : Bool) (f : SessionFault) (old new : List Entry) (before now : Option (List ℕ))
    → (w : Places) (latest : Latest) → IsOfTurn f w latest → IsLeft console line cuts cuts' old new before now
    → IsLineEndedBy console f r line held held' cuts cuts' old new before now
line_left {console} {line} {cuts} {cuts'} r held held' Read old new before now w latest h l = absurd h
line_left {console} {line} {cuts} {cuts'} r held held' Write old new before now w latest h l = absurd h
line_left {console} {line} {cuts} {cuts'} r held held' InputFull old new before now w latest h l = absurd h
line_left {console} {line} {cuts} {cuts'} r held held' (Broken breach) old new before now w latest h l = l
line_left {console} {line} {cuts} {cuts'} r held held' Fabric old new before now w latest h l = l
line_left {console} {line} {cuts} {cuts'} r held held' JournalFull old new before now w latest h l = l
line_left {console} {line} {cuts} {cuts'} r held held' OutOfMemory old new before now w latest h l = l

-- nothing was begun
pub begun_none : {console : UserConsole} {line : List ℕ} (entries : List Entry) → HasBegun console line entries entries
begun_none {console} {line} entries = record { more = []; is = sym (append-nil entries); once = inl refl }

-- how a line that is not too long is handled
pub how_is : (console : UserConsole) (line : List ℕ) → is_long line ≡ false → (h : Handled) → handled_as (owns console) line ≡ h → how console line ≡ Typed h
how_is console line short h is = ap (λ b. if b then TooLong else Typed (handled_as (owns console) line)) short ∙ ap (λ x. Typed x) is

-- a line that is not fed
pub begun_unfed : {console : UserConsole} {line : List ℕ} {old new : List Entry} (h : Handled) → is_long line ≡ false → handled_as (owns console) line ≡ h → is_fed (Typed h) ≡ false
    → IsUnfed old new → HasBegun console line old new
begun_unfed {console} {line} {old} {new} h short so not u = record { more = u.more; is = u.is; once = inr (none_fed u.more u.unfed ∙ sym none) }
  where
    none : fed_lines console (line ∷ []) ≡ []
    none =
        ap (λ w. if is_fed w then (mark_of console ∷ line) ∷ [] else []) (how_is console line short h so)
        ∙ ap (λ b. if b then (mark_of console ∷ line) ∷ [] else []) not

-- a line was fed
pub begun_fed_line : {console : UserConsole} {line : List ℕ} {old new : List Entry} → is_long line ≡ false → handled_as (owns console) line ≡ Fed
    → IsFed (mark_of console ∷ line) old new → HasBegun console line old new
begun_fed_line {console} {line} {old} {new} short fed f = record {
  more = f.block;
  is = f.is;
  once = inr (block_line (mark_of console ∷ line) f.block f.begins ∙ sym (line_fed console line short fed));
}
  where
    line_fed : (console : UserConsole) (line : List ℕ) → is_long line ≡ false → handled_as (owns console) line ≡ Fed → fed_lines console (line ∷ []) ≡ (mark_of console ∷ line) ∷ []
    line_fed console line short fed = ap (λ h. if is_fed h then (mark_of console ∷ line) ∷ [] else []) (how_is console line short Fed fed)

-- ---- how a session ends

pub cut_write : {console : UserConsole} (f : SessionFault) (telling : Telling) (all : Option (List (List ℕ))) (before now : Option (List ℕ)) (entries : List Entry) → f ≡ Write
    → IsUnderWay console telling all before entries now → IsCutBy console f telling all before entries now
cut_write {console} f telling all before now entries is u = subst (λ f. IsCutBy console f telling all before entries now) (sym is) u

-- the accumulator was not made
pub cut_opening : {console : UserConsole} (telling : Telling) (before now : Option (List ℕ)) (old new : List Entry) → console ≡ Accumulator → TellsNone telling → old ≡ []
    → FeedsAtMost opening old new → now ≡ followed before (commands console) → IsCutAtOpening console telling before new now
cut_opening {console} telling before now old new only none empty (inl same) held = record { only = only; none = none; journal = inl (ap lines_fed (same ∙ empty)); written = held }
cut_opening {console} telling before now old new only none empty (inr f) held =
    record { only = only; none = none; journal = inr (fed_once opening old new f ∙ ap (λ es. lines_fed es ++ opening ∷ []) empty); written = held }
