-- What was done of what the words ask for.
use Rattle.std.specs.Prelude.{Result, Ok, Err, OnOk, OnErr, IfErr, IfSome, ⊤, length}
use Rattle.std.proofs.Common.{ℕ, true, false, List, [], ◌++◌, ◌≡◌, ◌≢◌, ◌≤◌, ◌⊎◌, Option, Some, None, refl, sym, ap, subst, ◌∙◌, inl, inr, arith}
use Rattle.hpx_value.specs.declared.profile.Profile.{Profile}
use Rattle.hpx_journal.specs.Pool.{NoneFails, prints_of}
use Rattle.hpx_journal.specs.declared.entry.Entry.{Entry}
use Rattle.hpx_journal.specs.Whole.{IsCarried, IsLegal}
use Rattle.hpx_steps.specs.Rest.{rules_of}
use Rattle.app_console.specs.Console.{prompt}
use Rattle.app_console.specs.Lines.{lines_of}
use Rattle.hpx_top.specs.Acts.{act_of}
use Rattle.hpx_counters.specs.declared.counter.Counter.{Counter}
use Rattle.hpx_ports.specs.Faults.{Rose}
use Rattle.hpx_ports.specs.Told.{followed}
use Rattle.hpx_world.specs.Places.{Places}
use Rattle.hpx_top.specs.declared.session.SessionFault.{SessionFault}
use Rattle.hpx_top.specs.declared.session.SessionFault.TheVariants.{Read, Write, Fabric, JournalFull, OutOfMemory, Broken, InputFull}
use Rattle.hpx_top.specs.declared.breach.Breach.TheVariants.{BadFrame, Strange, EarlyEnd}
use Rattle.hpx_ports.specs.declared.link.Latest.{Latest}
use Rattle.hpx_top.specs.Breaches.{breach_after, breach_in, breach_status, IsShownIn, Shows, TellsBreach}
use Rattle.hpx_top.specs.declared.breach.Breach.{Breach}
use Rattle.hpx_top.specs.declared.task.Notice.{Notice}
use Rattle.hpx_top.specs.declared.task.Setup.{Setup}
use Rattle.hpx_top.specs.declared.consoles.UserConsole.{UserConsole}
use Rattle.hpx_top.specs.declared.task.Task.{Task}
use Rattle.hpx_top.specs.declared.task.Workload.{Workload}
use Rattle.hpx_top.specs.declared.task.Task.TheVariants.{Console, Load}
use Rattle.hpx_top.specs.Computed.{HasComputed, IsAnswered, IsUnanswered, reads_input, task_line, task_texts}
use Rattle.hpx_top.specs.Loaded.{FeedsFirst, HasLoaded, IsSummed, IsSummedPlainly, IsUnloaded, WritesSo}
use Rattle.hpx_top.specs.Printed.{HasTold, counters_text, notice_text, takes_memory}
use Rattle.hpx_top.specs.Runs.{BeginsPlainly, Errors, Ports, HasCause, HasDone, HasRun, HasServed, IsLawful, NothingFailed, Says}
use Rattle.hpx_top.specs.Session.{rules, entries_in, ByJournal, ByOneSpace, Feeds, NoneRefused, WritesFront}
use Rattle.hpx_top.specs.Statuses.{IsStatus, status_after, status_of}
use Rattle.hpx_top.specs.Texts.{commands, lines_text}
use Rattle.hpx_top.specs.Usage.{IsSetup, IsTask}
use Rattle.hpx_top.proofs.ComputeLemmas.{breach_fails, breach_high, computed_in, computed_none, no_console, some_same, task_prints}
use Rattle.hpx_top.proofs.LoadLemmas.{loaded_in, loaded_none, summed_plainly}
use Rattle.hpx_top.proofs.EndLemmas.{read_from_none}
use Rattle.hpx_top.proofs.OneSpaceLemmas.{served_plainly}
use Rattle.hpx_top.proofs.PartLemmas.{none_own}
use Rattle.hpx_top.proofs.RunLemmas.{at, lawful_calm, served_none}
use Rattle.hpx_top.proofs.LineLemmas.{followed_nothing, front_all}
use Rattle.hpx_top.proofs.ShowLemmas.{nothing_said}

-- so many localities with this profile are judged by these rules
same_in : (w : Places) (n : ℕ) (p : Profile) → (length w.nodes ≡ n) × (w.profile ≡ p) → rules w ≡ rules_of act_of n p
same_in w n p is = ap (λ k. rules_of act_of k w.profile) is.0 ∙ ap (λ q. rules_of act_of n q) is.1

carried_in : (w : Places) (n : ℕ) (p : Profile) → (length w.nodes ≡ n) × (w.profile ≡ p) → IsCarried (rules_of act_of n p) [] w.journal.entries
    → IsCarried (rules w) [] w.journal.entries
carried_in w n p is carried = subst (λ r. IsCarried r [] w.journal.entries) (sym (same_in w n p is)) carried

-- what the journal tells, told of the world that there is
told_in : (o : Option Places) (n : ℕ) (p : Profile)
    → IfSome o (λ w. (length w.nodes ≡ n) × (w.profile ≡ p)) → IfSome o (λ w. IsLawful w) → IsCarried (rules_of act_of n p) [] (entries_in o) → NoneRefused p (entries_in o)
    → NoneFails (entries_in o)
told_in None n p is law carried none = refl
told_in (Some w) n p is law carried none = lawful_calm w p is.1 law (carried_in w n p is carried) none

same_console : (x y : UserConsole) → Console x ≡ Console y → x ≡ y
same_console x y e = cc

-- its journal is legal
legal_in : (o : Option Places) (n : ℕ) (p : Profile)
    → IfSome o (λ w. (length w.nodes ≡ n) × (w.profile ≡ p)) → IfSome o (λ w. IsLawful w) → IsCarried (rules_of act_of n p) [] (entries_in o) → IsLegal (rules_of act_of n p) (entries_in o)
legal_in None n p is law carried = tt
legal_in (Some w) n p is law carried =
    subst (λ r. IsLegal r w.journal.entries) (same_in w n p is) (law.promises (carried_in w n p is carried)).ledger.legal

no_load : (console : UserConsole) (load : Workload) → Console console ≡ Load load → ⊥
no_load console load e = cc

-- a console reads its input
pub reads_console : (task : Task) (console : UserConsole) → task ≡ Console console → reads_input task ≡ false → ⊥
reads_console task console is unread = let never : true ≡ false = ap reads_input (sym is) ∙ unread in cc

-- a console has no line of its own
pub console_done : (task : Task) (console : UserConsole) (n : ℕ) (p : Profile) (s : ℕ) (cuts : List ℕ) (o : Option Places) (x z : Ports)
    → task ≡ Console console → 1 ≤ n → n ≤ 64 → length cuts ≤ 67108865 → IfSome o (λ w. (length w.nodes ≡ n) × (w.profile ≡ p))
    → IfSome o (λ w. IsLawful w)
    → ((input : List ℕ) → x.left ≡ Some input → HasServed console (ByJournal (rules_of act_of n p) cuts) s input o x z) → HasDone task n p s cuts o x z
console_done task console n p s cuts o x z is some few many places law served = record {
  shown = λ line own. absurd (no_console task line own console is);
  computed = λ carried granted line own. absurd (no_console task line own console is);
  loaded = λ load at. absurd (no_load console load (sym is ∙ at));
  loaded_plainly = λ carried granted load at. absurd (no_load console load (sym is ∙ at));
  unread = λ no. absurd (reads_console task console is no);
  no_read = λ no. absurd (reads_console task console is no);
  reads = λ input h. (served input h).reads;
  served = λ other at input h.
      subst (λ c. HasServed c (ByJournal (rules_of act_of n p) cuts) s input o x z) (same_console console other (sym is ∙ at)) (served input h);
  served_plainly = λ carried granted other at input h own.
      let same = same_console console other (sym is ∙ at) in
      subst (λ c. HasServed c (ByOneSpace n) s input o x z × BeginsPlainly c n input x.text z.text) same
      (served_plainly console n p s cuts input o x z some few many (legal_in o n p places law carried) (told_in o n p places law carried granted)
      (subst (λ c. none_own c (lines_of input) ≡ false) (sym same) own) (served input h));
}

-- a made session has no one line
no_line : (task : Task) (line : List ℕ) → task_line task ≡ Some line → (load : Workload) → task ≡ Load load → ⊥
no_line task line at load is = let never : None ≡ Some line = ap task_line (sym is) ∙ at in cc

-- what is printed of a task with a line of its own, where no ask was refused
prints_in : (task : Task) (line : List ℕ) (n : ℕ) (p : Profile) (o : Option Places) → IsTask task
    → task_line task ≡ Some line → 1 ≤ n → n ≤ 64 → IfSome o (λ w. (length w.nodes ≡ n) × (w.profile ≡ p)) → IfSome o (λ w. IsLawful w)
    → IsCarried (rules_of act_of n p) [] (entries_in o) → NoneRefused p (entries_in o) → IfSome o (λ w. Feeds (rules w) line [] w.journal.entries → prints_of w.journal.entries ≡ task_texts task)
prints_in task line n p None h own some few is law carried none = tt
prints_in task line n p (Some w) h own some few is law carried none = λ f.
    task_prints task (length w.nodes) w.profile line w.journal.entries h own (subst (λ k. 1 ≤ k) (sym is.0) some) (subst (λ k. k ≤ 64) (sym is.0) few)
    (carried_in w n p is carried) (lawful_calm w p is.1 law (carried_in w n p is carried) none) f

as_printed : (line : List ℕ) (o : Option Places) → IfSome o (λ w. Feeds (rules w) line [] w.journal.entries → prints_of w.journal.entries ≡ prints_of (entries_in o))
as_printed line None = tt
as_printed line (Some w) = λ f. refl

-- the task with a line of its own is no console
pub computed_done : (setup : Setup) (line : List ℕ) (r : Result ⊤ SessionFault) (o : Option Places) (x z : Ports)
    → IsSetup setup → task_line setup.task ≡ Some line → IfSome o (λ w. (length w.nodes ≡ setup.localities) × (w.profile ≡ setup.profile))
    → IfSome o (λ w. IsLawful w) → (o ≡ None → r ≡ Err OutOfMemory) → (o ≡ None → z.text ≡ x.text)
    → IfSome o (λ w. OnOk r (IsAnswered (rules w) line w.journal.entries x.text z.text))
    → IfSome o (λ w. IfErr r (λ f. IsUnanswered f (rules w) line w.journal.entries x.text z.text))
    → z.left ≡ x.left → z.taken ≡ x.taken → z.read_faults ≡ x.read_faults → status_after r ≢ 2 → status_after r ≢ 9
    → HasDone setup.task setup.localities setup.profile (status_after r) [] o x z
computed_done setup line r o x z h own is law none same ok err left taken faults no_read no_input = record {
  shown = λ other at. subst (λ l. HasComputed l (prints_of (entries_in o)) (status_after r) (entries_in o) x.text z.text) (some_same line other (sym own ∙ at))
      (computed_in o r line (prints_of (entries_in o)) x.text z.text none same (as_printed line o) ok err);
  computed = λ carried granted other at. subst (λ l. HasComputed l (task_texts setup.task) (status_after r) (entries_in o) x.text z.text) (some_same line other (sym own ∙ at))
      (computed_in o r line (task_texts setup.task) x.text z.text none same
      (prints_in setup.task line setup.localities setup.profile o h.task own h.some h.few is law carried granted) ok err);
  loaded = λ load is. absurd (no_line setup.task line own load is);
  loaded_plainly = λ carried granted load is. absurd (no_line setup.task line own load is);
  unread = λ no. (left, taken, faults, refl);
  no_read = λ no. (no_read, no_input);
  reads = λ input there. rw (left, taken) (read_from_none input x.left x.taken there);
  served = λ console is. absurd (no_console setup.task line own console is);
  served_plainly = λ carried granted console is. absurd (no_console setup.task line own console is);
}

same_load : (x y : Workload) → Load x ≡ Load y → x ≡ y
same_load x y e = cc

-- its lines are few
pub load_lines : (task : Task) (load : Workload) → task ≡ Load load → IsTask task → load.lines ≤ 20000
load_lines task load is h = let l : IsTask (Load load) = subst IsTask is h in l.lines

-- what was done of a made session
pub load_done : (setup : Setup) (load : Workload) (r : Result ⊤ SessionFault) (o : Option Places) (x z : Ports)
    → IsSetup setup → setup.task ≡ Load load → load.lines ≤ 20000 → IfSome o (λ w. (length w.nodes ≡ setup.localities) × (w.profile ≡ setup.profile))
    → IfSome o (λ w. IsLawful w) → (o ≡ None → r ≡ Err OutOfMemory) → (o ≡ None → z.text ≡ x.text)
    → IfSome o (λ w. FeedsFirst (rules w) load w.journal.entries)
    → IfSome o (λ w. OnOk r (WritesSo (IsSummed (rules w) load w.journal.entries) x.text z.text))
    → IfSome o (λ w. IfErr r (λ f. IsUnloaded f (rules w) load w.journal.entries x.text z.text))
    → z.left ≡ x.left → z.taken ≡ x.taken → z.read_faults ≡ x.read_faults → status_after r ≢ 2 → status_after r ≢ 9
    → HasDone setup.task setup.localities setup.profile (status_after r) [] o x z
load_done setup load r o x z h own lines is law none same fed ok err left taken faults no_read no_input =
    let rs = rules_of act_of setup.localities setup.profile in
    record {
      shown = λ line at. absurd (no_line setup.task line at load own);
      computed = λ carried granted line at. absurd (no_line setup.task line at load own);
      loaded = λ other at. subst (λ l. HasLoaded rs l (IsSummed rs l (entries_in o)) (status_after r) (entries_in o) x.text z.text) (same_load load other (sym own ∙ at))
          (loaded_in o setup.localities setup.profile r load (IsSummed rs load (entries_in o)) x.text z.text is none same (λ text s. s) fed ok err);
      loaded_plainly = λ carried granted other at.
          subst (λ l. HasLoaded rs l (IsSummedPlainly rs l (entries_in o)) (status_after r) (entries_in o) x.text z.text) (same_load load other (sym own ∙ at))
          (loaded_in o setup.localities setup.profile r load (IsSummedPlainly rs load (entries_in o)) x.text z.text is none same
          (λ text s. summed_plainly setup.localities setup.profile load (entries_in o) text h.some h.few lines carried
          (told_in o setup.localities setup.profile is law carried granted) s) fed ok err);
      unread = λ no. (left, taken, faults, refl);
      no_read = λ no. (no_read, no_input);
      reads = λ input there. rw (left, taken) (read_from_none input x.left x.taken there);
      served = λ console is. absurd (no_load console load (sym is ∙ own));
      served_plainly = λ carried granted console is. absurd (no_load console load (sym is ∙ own));
    }

-- no line was handled
pub done_without : {task : Task} {n : ℕ} {p : Profile} {s : ℕ} {cuts : List ℕ} {o : Option Places} {x z : Ports} → cuts ≡ [] → HasDone task n p s [] o x z → HasDone task n p s cuts o x z
done_without {task} {n} {p} {s} {cuts} {o} {x} {z} none h = subst (λ cs. HasDone task n p s cs o x z) (sym none) h

-- without a world, for want of memory, nothing was done
pub none_done : (task : Task) (n : ℕ) (p : Profile) (r : Result ⊤ SessionFault) (x : Ports) → r ≡ Err OutOfMemory → HasDone task n p (status_after r) [] None x x
none_done task n p r x e = record {
  shown = λ line is. computed_none line [] r x.text x.text e refl;
  computed = λ carried granted line is. computed_none line (task_texts task) r x.text x.text e refl;
  loaded = λ load is. loaded_none r (rules_of act_of n p) load (IsSummed (rules_of act_of n p) load []) x.text x.text e refl;
  loaded_plainly = λ carried granted load is. loaded_none r (rules_of act_of n p) load (IsSummedPlainly (rules_of act_of n p) load []) x.text x.text e refl;
  unread = λ no. (refl, refl, refl, refl);
  no_read = λ no. subst (λ q. (status_after q ≢ 2) × (status_after q ≢ 9)) (sym e) (λ s. absurd (omega arith), λ s. absurd (omega arith));
  reads = λ input h. read_from_none input x.left x.taken h;
  served = λ console is input h. served_none (ByJournal (rules_of act_of n p) []) r input x e refl h;
  served_plainly = λ carried granted console is input h own. (
    served_none (ByOneSpace n) r input x e tt h,
    record {
      text = [];
      is = sym (followed_nothing x.text);
      begins = record { later = commands console ++ (lines_text console n (lines_of input) ++ prompt); is = refl };
    },
  );
}

-- ---- a setup

-- the task was broken off, and no counter was written
run_broken : (setup : Setup) (s : ℕ) (cuts : List ℕ) (o : Option Places) (x z : Ports) → s ≢ 0 → IfSome o (λ w. (length w.nodes ≡ setup.localities) × (w.profile ≡ setup.profile))
    → HasDone setup.task setup.localities setup.profile s cuts o x z → HasRun setup s cuts o x z
run_broken setup s cuts o x z failed is did = record {
  places = is;
  ended = s;
  mid = z;
  did = did;
  still = refl;
  counted = record { well = λ zero. absurd (failed zero); other = λ other. (refl, refl) };
}

-- the task ended well, and the counters were written, or a front of them
counted_well : (counters : List Counter) (r : Result ⊤ SessionFault) (entries : List Entry) (old new : Option (List ℕ)) (Q : Type 0)
    → OnOk r (new ≡ followed old (counters_text counters entries)) → OnErr r (WritesFront (counters_text counters entries) old new) → OnErr r (counters ≢ [])
    → IfErr r (λ f. (f ≡ Write) × Q)
    → ((status_after r ≡ 0) × (new ≡ followed old (counters_text counters entries)))
    ⊎ ((status_after r ≡ 3) × (counters ≢ []) × WritesFront (counters_text counters entries) old new)
counted_well counters (Ok t) entries old new Q ok front some cause = inl (refl, ok)
counted_well counters (Err f) entries old new Q ok front some cause = inr (ap status_of cause.0, some, front)

pub run_counted : (setup : Setup) (cuts : List ℕ) (r : Result ⊤ SessionFault) (o : Option Places) (x mid : Ports) (text : Option (List ℕ)) (faults : ℕ) (Q : Type 0)
    → IfSome o (λ w. (length w.nodes ≡ setup.localities) × (w.profile ≡ setup.profile)) → HasDone setup.task setup.localities setup.profile 0 cuts o x mid
    → OnOk r (text ≡ followed mid.text (counters_text setup.counters.items (entries_in o)))
    → OnErr r (WritesFront (counters_text setup.counters.items (entries_in o)) mid.text text) → OnErr r (setup.counters.items ≢ [])
    → IfErr r (λ f. (f ≡ Write) × Q) → HasRun setup (status_after r) cuts o x (record mid { text = text; write_faults = faults })
run_counted setup cuts r o x mid text faults Q is did ok front some cause = record {
  places = is;
  ended = 0;
  mid = mid;
  did = did;
  still = refl;
  counted = record {
    well = λ zero. counted_well setup.counters.items r (entries_in o) mid.text text Q ok front some cause;
    other = λ other. absurd (other refl);
  };
}

-- an error is no status 0
failed_status : (f : SessionFault) → status_of f ≢ 0
failed_status Read s = absurd (omega arith)
failed_status Write s = absurd (omega arith)
failed_status Fabric s = absurd (omega arith)
failed_status JournalFull s = absurd (omega arith)
failed_status OutOfMemory s = absurd (omega arith)
failed_status (Broken breach) s = breach_fails breach s
failed_status InputFull s = absurd (omega arith)

pub run_failed : (setup : Setup) (cuts : List ℕ) (f : SessionFault) (r : Result ⊤ SessionFault) (o : Option Places) (x z : Ports) → r ≡ Err f
    → IfSome o (λ w. (length w.nodes ≡ setup.localities) × (w.profile ≡ setup.profile))
    → HasDone setup.task setup.localities setup.profile (status_after r) cuts o x z → HasRun setup (status_of f) cuts o x z
run_failed setup cuts f r o x z failed is did =
    run_broken setup (status_of f) cuts o x z (failed_status f) is
    (subst (λ q. HasDone setup.task setup.localities setup.profile (status_after q) cuts o x z) failed did)

-- what caused the end of a task that ended well, and of the counters behind it
pub cause_counted : (r : Result ⊤ SessionFault) (o : Option Places) (x mid : Ports) (text : Option (List ℕ)) (faults : ℕ) → HasCause 0 o x mid
    → IfErr r (λ f. (f ≡ Write) × Rose mid.write_faults faults) → OnOk r (faults ≡ mid.write_faults)
    → HasCause (status_after r) o x (record mid { text = text; write_faults = faults })
cause_counted (Ok t) o x mid text faults c rose stands = record {
  read = c.read;
  write = λ s. absurd (omega arith);
  frame = c.frame;
  full = c.full;
  room = c.room;
  input = c.input;
  read_only = c.read_only;
  write_only = λ no. stands ∙ c.write_only no;
  frame_only = c.frame_only;
  limit = c.limit;
}
cause_counted (Err f) o x mid text faults c rose stands =
    subst (λ g. HasCause (status_of g) o x (record mid { text = text; write_faults = faults })) (sym rose.0) (record {
      read = λ s. absurd (omega arith);
      write = λ s. subst (λ k. Rose k faults) (c.write_only (λ no. absurd (omega arith))) rose.1;
      frame = λ s. absurd (omega arith);
      full = λ s. absurd (omega arith);
      room = λ no. c.room (λ five. absurd (omega arith));
      input = λ s. absurd (omega arith);
      read_only = λ no. c.read_only (λ two. absurd (omega arith));
      write_only = λ no. absurd (no refl);
      frame_only = λ no. c.frame_only (λ four. absurd (omega arith));
      limit = c.limit;
    })

pub status_counted : (r : Result ⊤ SessionFault) (Q : Type 0) → IfErr r (λ f. (f ≡ Write) × Q) → IsStatus (status_after r)
status_counted (Ok t) Q cause = record { last = omega arith; no_frame = λ s. absurd (omega arith); no_parcel = λ s. absurd (omega arith) }
status_counted (Err f) Q cause = subst (λ g. IsStatus (status_of g)) (sym cause.0) (record {
  last = omega arith;
  no_frame = λ s. absurd (omega arith);
  no_parcel = λ s. absurd (omega arith);
})

-- a write that failed is no breach
pub counted_shown : (r : Result ⊤ SessionFault) (o : Option Places) (latest : Latest) (Q : Type 0) → IfErr r (λ f. (f ≡ Write) × Q) → IfErr r (λ f. IsShownIn f o latest)
counted_shown (Ok t) o latest Q cause = tt
counted_shown (Err f) o latest Q cause = subst (λ g. IsShownIn g o latest) (sym cause.0) tt

pub told_shown : (r : Result ⊤ SessionFault) (o : Option Places) (latest : Latest) → IfErr r (λ f. (f ≡ Write) ⊎ (f ≡ OutOfMemory)) → IfErr r (λ f. IsShownIn f o latest)
told_shown (Ok t) o latest only = tt
told_shown (Err f) o latest (inl write) = subst (λ g. IsShownIn g o latest) (sym write) tt
told_shown (Err f) o latest (inr memory) = subst (λ g. IsShownIn g o latest) (sym memory) tt

-- nothing is run
told_status : (r : Result ⊤ SessionFault) → IfErr r (λ f. (f ≡ Write) ⊎ (f ≡ OutOfMemory)) → (status_after r ≡ 0) ⊎ (status_after r ≡ 3) ⊎ (status_after r ≡ 6)
told_status (Ok t) only = inl refl
told_status (Err f) (inl write) = inr (inl (ap status_of write))
told_status (Err f) (inr memory) = inr (inr (ap status_of memory))

no_other : (s n : ℕ) → (s ≡ 0) ⊎ (s ≡ 3) ⊎ (s ≡ 6) → n ≢ 0 → n ≢ 3 → n ≢ 6 → s ≡ n → ⊥
no_other s n (inl e) zero three six is = zero (sym is ∙ e)
no_other s n (inr (inl e)) zero three six is = three (sym is ∙ e)
no_other s n (inr (inr e)) zero three six is = six (sym is ∙ e)

pub status_told : (r : Result ⊤ SessionFault) → IfErr r (λ f. (f ≡ Write) ⊎ (f ≡ OutOfMemory)) → IsStatus (status_after r)
status_told r only = let s = told_status r only in record {
  last = few s;
  no_frame = λ is. no_other (status_after r) 7 s (omega arith) (omega arith) (omega arith) is;
  no_parcel = λ is. no_other (status_after r) 8 s (omega arith) (omega arith) (omega arith) is;
}
  where
    few : {n : ℕ} → (n ≡ 0) ⊎ (n ≡ 3) ⊎ (n ≡ 6) → n ≤ 9
    few {n} (inl e) = omega (arith, e)
    few {n} (inr (inl e)) = omega (arith, e)
    few {n} (inr (inr e)) = omega (arith, e)

-- nothing was read, and no frame was sent
pub cause_told : (r : Result ⊤ SessionFault) (x z : Ports) → IfErr r (λ f. (f ≡ Write) ⊎ (f ≡ OutOfMemory)) → (r ≡ Err Write → Rose x.write_faults z.write_faults)
    → (r ≢ Err Write → z.write_faults ≡ x.write_faults) → z.taken ≡ x.taken → z.read_faults ≡ x.read_faults → z.frame_faults ≡ x.frame_faults
    → HasCause (status_after r) None x z
cause_told r x z only rose stands taken reads frames = let s = told_status r only in record {
  read = λ is. absurd (no_other (status_after r) 2 s (omega arith) (omega arith) (omega arith) is);
  write = λ is. rose (at r 3 is refl);
  frame = λ is. absurd (no_other (status_after r) 4 s (omega arith) (omega arith) (omega arith) is);
  full = λ is. tt;
  room = λ no. tt;
  input = λ is. absurd (no_other (status_after r) 9 s (omega arith) (omega arith) (omega arith) is);
  read_only = λ no. reads;
  write_only = λ no. stands (λ e. no (ap status_after e));
  frame_only = λ no. frames;
  limit = omega (arith, taken);
}

-- the text was written, or a front of it, or memory was wanting for it
pub told_written : (notice : Notice) (r : Result ⊤ SessionFault) (old new : Option (List ℕ)) (Q : Type 0) → OnOk r (new ≡ followed old (notice_text notice))
    → OnErr r (WritesFront (notice_text notice) old new) → IfErr r (λ f. (f ≡ Write) × Q) → HasTold notice (status_after r) old new
told_written notice (Ok t) old new Q ok front cause = record {
  ends = inl refl;
  whole = λ s. ok;
  front = record { front = notice_text notice; begins = front_all (notice_text notice); held = ok };
  nothing = λ s. absurd (omega arith);
}
told_written notice (Err f) old new Q ok front cause = subst (λ g. HasTold notice (status_of g) old new) (sym cause.0) (record {
  ends = inr (inl refl);
  whole = λ s. absurd (omega arith);
  front = front;
  nothing = λ s. absurd (omega arith);
})

pub told_nothing : (notice : Notice) (r : Result ⊤ SessionFault) (held : Option (List ℕ)) → takes_memory notice ≡ true → r ≡ Err OutOfMemory
    → HasTold notice (status_after r) held held
told_nothing notice r held takes is = subst (λ q. HasTold notice (status_after q) held held) (sym is) (record {
  ends = inr (inr refl);
  whole = λ s. absurd (omega arith);
  front = record { front = []; begins = record { later = notice_text notice; is = refl }; held = sym (followed_nothing held) };
  nothing = λ s. (refl, takes);
})

-- where no port failed, the journal has room and the input is not full, all is done, or memory was wanting
pub ends_well : (r : Result ⊤ SessionFault) (o : Option Places) (x z : Ports) → (r ≡ Err JournalFull → o ≢ None) → HasCause (status_after r) o x z
    → IsStatus (status_after r) → NothingFailed o x z → (status_after r ≡ 0) ⊎ (status_after r ≡ 6)
ends_well (Ok t) o x z none c s n = inl refl
ends_well (Err OutOfMemory) o x z none c s n = inr refl
ends_well (Err Read) o x z none c s n = absurd (n.read (c.read refl))
ends_well (Err Write) o x z none c s n = absurd (n.write (c.write refl))
ends_well (Err Fabric) o x z none c s n = absurd (n.frame (c.frame refl))
ends_well (Err JournalFull) None x z none c s n = absurd (none refl refl)
ends_well (Err JournalFull) (Some w) x z none c s n = absurd (c.full refl n.room)
ends_well (Err (Broken (BadFrame to place why))) o x z none c s n = absurd (s.no_frame refl)
ends_well (Err (Broken (Strange to rule object kept))) o x z none c s n = absurd (s.no_parcel refl)
ends_well (Err (Broken (EarlyEnd sent taken))) o x z none c s n = absurd (s.no_parcel refl)
ends_well (Err InputFull) o x z none c s n = absurd (let all = c.input refl in let few = n.few in omega (arith, all, few))

-- words that ask for nothing end with status 1, and nothing is touched
pub cause_unrun : (x : Ports) → HasCause 1 None x x
cause_unrun x = record {
  read = λ s. absurd (omega arith);
  write = λ s. absurd (omega arith);
  frame = λ s. absurd (omega arith);
  full = λ s. tt;
  room = λ no. tt;
  input = λ s. absurd (omega arith);
  read_only = λ no. refl;
  write_only = λ no. refl;
  frame_only = λ no. refl;
  limit = omega arith;
}

-- no answer has status 1
pub not_one : (r : Result ⊤ SessionFault) → status_after r ≢ 1
not_one (Ok x) s = absurd (omega arith)
not_one (Err Read) s = absurd (omega arith)
not_one (Err Write) s = absurd (omega arith)
not_one (Err Fabric) s = absurd (omega arith)
not_one (Err JournalFull) s = absurd (omega arith)
not_one (Err OutOfMemory) s = absurd (omega arith)
not_one (Err (Broken breach)) s = absurd (let high = breach_high breach in omega (arith, high, s))
not_one (Err InputFull) s = absurd (omega arith)

-- ---- the same of equal statuses, requests and lines

pub cause_as : {s t : ℕ} {o : Option Places} {x z : Ports} → s ≡ t → HasCause s o x z → HasCause t o x z
cause_as {s} {t} {o} {x} {z} e h = subst (λ n. HasCause n o x z) e h

pub run_as : {setup : Setup} {s t : ℕ} {cuts : List ℕ} {o : Option Places} {x z : Ports} → s ≡ t → HasRun setup s cuts o x z → HasRun setup t cuts o x z
run_as {setup} {s} {t} {cuts} {o} {x} {z} e h = subst (λ n. HasRun setup n cuts o x z) e h

pub told_as : {notice : Notice} {s t : ℕ} {old new : Option (List ℕ)} → s ≡ t → HasTold notice s old new → HasTold notice t old new
told_as {notice} {s} {t} {old} {new} e h = subst (λ n. HasTold notice n old new) e h

pub says_as : {line other : List ℕ} {x z : Errors} → line ≡ other → Says line x z → Says other x z
says_as {line} {other} {x} {z} e h = subst (λ l. Says l x z) e h

pub says_nothing : (x : Errors) → Says [] x x
says_nothing x = record { front = nothing_said x.text; whole = λ calm. sym (followed_nothing x.text) }

-- ---- breaches

-- a run tells a breach exactly where it ends with one
breach_told : (f : SessionFault) (world : Option Places) (latest : Latest) → IsShownIn f world latest → TellsBreach (status_of f) (breach_in f) world latest
breach_told Read world latest h = record { shown = λ b e. absurd (cc); none = λ e. (λ s. absurd (omega (arith, s)), λ s. absurd (omega (arith, s))) }
breach_told Write world latest h = record { shown = λ b e. absurd (cc); none = λ e. (λ s. absurd (omega (arith, s)), λ s. absurd (omega (arith, s))) }
breach_told Fabric world latest h = record { shown = λ b e. absurd (cc); none = λ e. (λ s. absurd (omega (arith, s)), λ s. absurd (omega (arith, s))) }
breach_told JournalFull world latest h = record { shown = λ b e. absurd (cc); none = λ e. (λ s. absurd (omega (arith, s)), λ s. absurd (omega (arith, s))) }
breach_told OutOfMemory world latest h = record { shown = λ b e. absurd (cc); none = λ e. (λ s. absurd (omega (arith, s)), λ s. absurd (omega (arith, s))) }
breach_told InputFull world latest h = record { shown = λ b e. absurd (cc); none = λ e. (λ s. absurd (omega (arith, s)), λ s. absurd (omega (arith, s))) }
breach_told (Broken breach) world latest h = record {
  shown = λ b e. subst (λ (c : Breach). (breach_status breach ≡ breach_status c) × ((w : Places) × (world ≡ Some w) × Shows c w latest)) (some_same breach b e) (refl, h);
  none = λ e. absurd (cc);
}

pub no_breach_told : (status : ℕ) (world : Option Places) (latest : Latest) → status ≢ 7 → status ≢ 8 → TellsBreach status None world latest
no_breach_told status world latest seven eight = record { shown = λ b e. absurd (cc); none = λ e. (seven, eight) }

pub breach_by : (r : Result ⊤ SessionFault) (world : Option Places) (latest : Latest) → IfErr r (λ f. IsShownIn f world latest) → TellsBreach (status_after r) (breach_after r) world latest
breach_by (Ok x) world latest h = no_breach_told 0 world latest (omega arith) (omega arith)
breach_by (Err f) world latest h = breach_told f world latest h
