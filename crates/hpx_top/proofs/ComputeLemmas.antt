-- What a run of an application that computes has done where it ends.
use Rattle.std.specs.Prelude.{Result, Ok, Err, OnOk, OnErr, IfErr, IfSome, ◌≢◌, codes}
use Rattle.std.specs.List.{concat}
use Rattle.std.specs.Fmt.{decimal}
use Rattle.std.proofs.Common.{ℕ, List, [], ◌∷◌, ◌++◌, ◌≡◌, ◌≤◌, ◌⊎◌, length, Option, Some, None, refl, sym, ap, ◌∙◌, subst, inl, inr, arith, lit≤, length-append}
use Rattle.std.proofs.lemmas.Fmt.{length-decimal-le_wide}
use Rattle.hpx_value.specs.declared.profile.Profile.{Profile}
use Rattle.hpx_journal.specs.declared.entry.Entry.{Entry}
use Rattle.hpx_journal.specs.Entries.{Rules}
use Rattle.hpx_journal.specs.Pool.{NoneFails, prints_of}
use Rattle.hpx_journal.specs.Sessions.{BeginsWith}
use Rattle.hpx_journal.specs.Whole.{IsCarried}
use Rattle.hpx_ports.specs.Told.{followed}
use Rattle.hpx_steps.specs.Rest.{rules_of}
use Rattle.hpx_world.specs.Places.{Places}
use Rattle.app_compute.specs.FibLaw.{IsQuestion, fed_line, fib_text}
use Rattle.app_compute.specs.Ring.{stencil_texts}
use Rattle.app_compute.specs.StencilLaw.{IsAsked, ring_fed}
use Rattle.app_compute.proofs.FibText.{whole_text}
use Rattle.app_compute.proofs.RingLines as Lines
use Rattle.app_compute.proofs.StencilText as ring
use Rattle.hpx_top.specs.declared.session.SessionFault.{SessionFault}
use Rattle.hpx_top.specs.declared.session.SessionFault.TheVariants.{Read, Write, Fabric, JournalFull, OutOfMemory, Broken, InputFull}
use Rattle.hpx_top.specs.declared.breach.Breach.{Breach}
use Rattle.hpx_top.specs.declared.breach.Breach.TheVariants.{BadFrame, Strange, EarlyEnd}
use Rattle.hpx_top.specs.Breaches.{breach_status}
use Rattle.hpx_top.specs.declared.consoles.UserConsole.{UserConsole}
use Rattle.hpx_top.specs.declared.task.Task.{Task}
use Rattle.hpx_top.specs.declared.task.Task.TheVariants.{Console, Fib, Stencil, Load}
use Rattle.hpx_top.specs.Acts.{act_of}
use Rattle.hpx_top.specs.Usage.{IsTask}
use Rattle.hpx_top.specs.Session.{rules, lines_fed, Feeds, FeedsAtMost, WritesFront, entries_in}
use Rattle.hpx_top.specs.Statuses.{status_after}
use Rattle.hpx_top.specs.Computed.{task_line, task_texts, IsAnswered, IsUnanswered, HasComputed}
use Rattle.hpx_top.proofs.ActLemmas.{judged}
use Rattle.hpx_top.proofs.LineLemmas.{followed_nothing, block_line, front_all}
use Rattle.hpx_top.proofs.SessionLemmas.{fed_once}

-- ---- what is printed

fib_prints : (n : ℕ) (p : Profile) (number threshold : ℕ) (es : List Entry) → 1 ≤ n → n ≤ 64 → IsQuestion number threshold
    → IsCarried (rules_of act_of n p) [] es → NoneFails es → Feeds (rules_of act_of n p) (fed_line number threshold) [] es → prints_of es ≡ fib_text number ∷ []
fib_prints n p number threshold es some few question carried calm f =
    whole_text (rules_of act_of n p) (judged n p some few) number threshold question es calm (record {
      legal = f.legal carried;
      begins = subst (BeginsWith (fed_line number threshold)) (sym f.is) f.begins;
      settled = f.settled carried;
    })

ring_prints : (n : ℕ) (p : Profile) (points parts steps : ℕ) (es : List Entry) → 1 ≤ n → n ≤ 64 → IsAsked points parts steps
    → IsCarried (rules_of act_of n p) [] es → NoneFails es → Feeds (rules_of act_of n p) (ring_fed points parts steps) [] es → prints_of es ≡ stencil_texts points steps
ring_prints n p points parts steps es some few asked carried calm f =
    ring.whole_text (rules_of act_of n p) (judged n p some few) points parts steps asked es calm (record {
      legal = f.legal carried;
      begins = subst (BeginsWith (ring_fed points parts steps)) (sym f.is) f.begins;
      settled = f.settled carried;
    })

pub some_same : {X : Type 0} (x y : X) → Some x ≡ Some y → x ≡ y
some_same x y e = cc

pub task_prints : (task : Task) (n : ℕ) (p : Profile) (line : List ℕ) (es : List Entry) → IsTask task → task_line task ≡ Some line → 1 ≤ n → n ≤ 64
    → IsCarried (rules_of act_of n p) [] es → NoneFails es → Feeds (rules_of act_of n p) line [] es → prints_of es ≡ task_texts task
task_prints (Console console) n p line es h is some few carried calm f = absurd (let no : None ≡ Some line = is in cc)
task_prints (Fib question) n p line es h is some few carried calm f =
    let same : fed_line question.number question.threshold ≡ line = some_same (fed_line question.number question.threshold) line is in
    fib_prints n p question.number question.threshold es some few h carried calm (subst (λ l. Feeds (rules_of act_of n p) l [] es) (sym same) f)
task_prints (Stencil shape) n p line es h is some few carried calm f =
    let same : ring_fed shape.points shape.parts shape.steps ≡ line = some_same (ring_fed shape.points shape.parts shape.steps) line is in
    ring_prints n p shape.points shape.parts shape.steps es some few h carried calm (subst (λ l. Feeds (rules_of act_of n p) l [] es) (sym same) f)
task_prints (Load load) n p line es h is some few carried calm f = absurd (let no : None ≡ Some line = is in cc)

-- ---- how long a line is

fib_short : (number threshold : ℕ) → IsQuestion number threshold → length (fed_line number threshold) ≤ 1025
fib_short number threshold h =
    omega (
      arith,
      length-decimal-le_wide 2 number (lit≤ tt) (let f = h.number in omega arith) (let f = h.number in omega arith),
      length-decimal-le_wide 2 threshold (lit≤ tt) (let f = h.few in omega arith) (let f = h.few in omega arith),
      length-append (codes "fib ") (decimal number ++ (codes " " ++ decimal threshold)),
      length-append (decimal number) (codes " " ++ decimal threshold),
      length-append (codes " ") (decimal threshold),
    )

pub line_short : (task : Task) (line : List ℕ) → IsTask task → task_line task ≡ Some line → length line ≤ 1025
line_short (Console console) line h is = absurd (let no : None ≡ Some line = is in cc)
line_short (Fib question) line h is =
    subst (λ l. length l ≤ 1025) (some_same (fed_line question.number question.threshold) line is) (fib_short question.number question.threshold h)
line_short (Stencil shape) line h is =
    subst (λ l. length l ≤ 1025) (some_same (ring_fed shape.points shape.parts shape.steps) line is) (Lines.line_short shape.points shape.parts shape.steps h)
line_short (Load load) line h is = absurd (let no : None ≡ Some line = is in cc)

pub no_console : (task : Task) (line : List ℕ) → task_line task ≡ Some line → (console : UserConsole) → task ≡ Console console → ⊥
no_console task line is console e = let no : None ≡ Some line = ap task_line (sym e) ∙ is in cc

-- ---- where it ends

nothing_written : (bytes : List ℕ) (old new : Option (List ℕ)) → new ≡ old → WritesFront bytes old new
nothing_written bytes old new same = record { front = []; begins = record { later = bytes; is = refl }; held = same ∙ sym (followed_nothing old) }

whole_written : (bytes : List ℕ) (old new : Option (List ℕ)) → new ≡ followed old bytes → WritesFront bytes old new
whole_written bytes old new held = record { front = bytes; begins = front_all bytes; held = held }

fed_line_is : (r : Rules) (line : List ℕ) (es : List Entry) → Feeds r line [] es → lines_fed es ≡ line ∷ []
fed_line_is r line es f = ap lines_fed f.is ∙ block_line line f.block f.begins

cut : (line : List ℕ) (texts : List (List ℕ)) (status : ℕ) (es : List Entry) (old new : Option (List ℕ)) → status ≢ 0 → FeedsAtMost line [] es → new ≡ old
    → HasComputed line texts status es old new
cut line texts status es old new failed fed same = record {
  fed = at_most fed;
  front = nothing_written (concat texts) old new same;
  whole = λ s. absurd (failed s);
  nothing = λ s t. same;
}
  where
    at_most : FeedsAtMost line [] es → (lines_fed es ≡ []) ⊎ (lines_fed es ≡ line ∷ [])
    at_most (inl none) = inl (ap lines_fed none)
    at_most (inr f) = inr (fed_once line [] es f)

-- the status of a breach is 7 or 8
pub breach_fails : (breach : Breach) → breach_status breach ≢ 0
breach_fails (BadFrame to at why) s = absurd (omega (arith, s))
breach_fails (Strange to rule object kept) s = absurd (omega (arith, s))
breach_fails (EarlyEnd sent taken) s = absurd (omega (arith, s))

pub breach_high : (breach : Breach) → 7 ≤ breach_status breach
breach_high (BadFrame to at why) = omega arith
breach_high (Strange to rule object kept) = omega arith
breach_high (EarlyEnd sent taken) = omega arith

pub breach_low : (breach : Breach) → breach_status breach ≤ 8
breach_low (BadFrame to at why) = omega arith
breach_low (Strange to rule object kept) = omega arith
breach_low (EarlyEnd sent taken) = omega arith

pub has_computed : {T : Type 0} (res : Result T SessionFault) (r : Rules) (line : List ℕ) (texts : List (List ℕ)) (es : List Entry) (old new : Option (List ℕ))
    → (Feeds r line [] es → prints_of es ≡ texts) → OnOk res (IsAnswered r line es old new) → IfErr res (λ f. IsUnanswered f r line es old new)
    → HasComputed line texts (status_after res) es old new
has_computed (Ok x) r line texts es old new prints ok err =
    let text : new ≡ followed old (concat texts) = ok.text ∙ ap (λ ts. followed old (concat ts)) (prints ok.feeds) in
    record {
      fed = inr (fed_line_is r line es ok.feeds);
      front = whole_written (concat texts) old new text;
      whole = λ s. record { lines = fed_line_is r line es ok.feeds; prints = prints ok.feeds; text = text };
      nothing = λ s t. absurd (s refl);
    }
has_computed (Err Write) r line texts es old new prints ok err = record {
  fed = inr (fed_line_is r line es err.0);
  front = subst (λ ts. WritesFront (concat ts) old new) (prints err.0) err.1;
  whole = λ s. absurd (omega (arith, s));
  nothing = λ s t. absurd (t refl);
}
has_computed (Err Read) r line texts es old new prints ok err = absurd err
has_computed (Err InputFull) r line texts es old new prints ok err = absurd err
has_computed (Err Fabric) r line texts es old new prints ok err = cut line texts 4 es old new (λ s. absurd (omega (arith, s))) err.0 err.1
has_computed (Err JournalFull) r line texts es old new prints ok err = cut line texts 5 es old new (λ s. absurd (omega (arith, s))) err.0 err.1
has_computed (Err OutOfMemory) r line texts es old new prints ok err = cut line texts 6 es old new (λ s. absurd (omega (arith, s))) err.0 err.1
has_computed (Err (Broken breach)) r line texts es old new prints ok err = cut line texts (breach_status breach) es old new (breach_fails breach) err.0 err.1

-- without memory for a world or the line nothing was done
pub computed_none : {T : Type 0} (line : List ℕ) (texts : List (List ℕ)) (res : Result T SessionFault) (old new : Option (List ℕ)) → res ≡ Err OutOfMemory → new ≡ old
    → HasComputed line texts (status_after res) [] old new
computed_none line texts res old new is same =
    subst (λ r. HasComputed line texts (status_after r) [] old new) (sym is) (cut line texts 6 [] old new (λ s. absurd (omega (arith, s))) (inl refl) same)

-- what a journal printed, or what these texts are where it printed them
pub computed_in : {T : Type 0} (o : Option Places) (res : Result T SessionFault) (line : List ℕ) (texts : List (List ℕ)) (old new : Option (List ℕ))
    → (o ≡ None → res ≡ Err OutOfMemory) → (o ≡ None → new ≡ old)
    → IfSome o (λ w. Feeds (rules w) line [] w.journal.entries → prints_of w.journal.entries ≡ texts)
    → IfSome o (λ w. OnOk res (IsAnswered (rules w) line w.journal.entries old new)) → IfSome o (λ w. IfErr res (λ f. IsUnanswered f (rules w) line w.journal.entries old new))
    → HasComputed line texts (status_after res) (entries_in o) old new
computed_in None res line texts old new none same prints ok err = computed_none line texts res old new (none refl) (same refl)
computed_in (Some w) res line texts old new none same prints ok err = has_computed res (rules w) line texts w.journal.entries old new prints ok err

-- ---- how one line is answered

-- a line that could not be fed, or not be done, left at most its entry
pub unanswered_fed : (f : SessionFault) (r : Rules) (line : List ℕ) (es : List Entry) (old new : Option (List ℕ)) → f ≢ Read → f ≢ Write → f ≢ InputFull
    → FeedsAtMost line [] es → new ≡ old → IsUnanswered f r line es old new
unanswered_fed Read r line es old new read write full fed same = absurd (read refl)
unanswered_fed Write r line es old new read write full fed same = absurd (write refl)
unanswered_fed InputFull r line es old new read write full fed same = absurd (full refl)
unanswered_fed Fabric r line es old new read write full fed same = (fed, same)
unanswered_fed JournalFull r line es old new read write full fed same = (fed, same)
unanswered_fed OutOfMemory r line es old new read write full fed same = (fed, same)
unanswered_fed (Broken breach) r line es old new read write full fed same = (fed, same)

pub unanswered_shown : {T : Type 0} (res : Result T SessionFault) (r : Rules) (line : List ℕ) (es : List Entry) (old new : Option (List ℕ)) (X : Type 0) → Feeds r line [] es
    → OnErr res (WritesFront (concat (prints_of es)) old new) → IfErr res (λ f. (f ≡ Write) × X) → IfErr res (λ f. IsUnanswered f r line es old new)
unanswered_shown (Ok x) r line es old new X fed front cause = tt
unanswered_shown (Err f) r line es old new X fed front cause = subst (λ g. IsUnanswered g r line es old new) (sym cause.0) (fed, front)
