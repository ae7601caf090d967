-- What a typed line does, from what was done for it.
use Rattle.std.specs.Prelude.{Bool, true, false, Result, Ok, Err, OnOk, OnErr, IfErr, ⊤, if◌then◌else◌}
use Rattle.std.specs.List.{concat, AllByRecursion}
use Rattle.std.proofs.Common.{ℕ, List, [], ◌∷◌, ◌++◌, ◌≡◌, length, drop, Option, refl, sym, ap, ◌∙◌, subst, append-nil, append_assoc}
use Rattle.std.proofs.lemmas.List.{drop_at}
use Rattle.hpx_journal.specs.declared.entry.Entry.{Entry}
use Rattle.hpx_journal.specs.Entries.{Rules}
use Rattle.hpx_journal.specs.Whole.{IsCarried, replayed}
use Rattle.hpx_journal.specs.Pool.{prints_of}
use Rattle.hpx_journal.specs.Sessions.{FeedsNothing}
use Rattle.hpx_ports.specs.Told.{followed}
use Rattle.hpx_hold.specs.Home.{GrowsAtHome, HasNoFrame, StaysHome, WaitsBusy}
use Rattle.hpx_hold.specs.Turns.{MakesTurns}
use Rattle.hpx_world.specs.Steps.{IsUnfed}
use Rattle.hpx_own.specs.Lines.{handled_as}
use Rattle.hpx_own.specs.declared.lines.Handled.TheVariants.{Fed}
use Rattle.app_console.specs.Lines.{is_long}
use Rattle.app_console.specs.Text.{too_long}
use Rattle.hpx_top.specs.declared.consoles.UserConsole.{UserConsole}
use Rattle.hpx_top.specs.declared.session.SessionFault.{SessionFault}
use Rattle.hpx_top.specs.declared.session.SessionFault.TheVariants.{Write}
use Rattle.hpx_top.specs.Texts.{How, TooLong, Typed, held_by, how, mark_of, owns}
use Rattle.hpx_top.specs.Parts.{Does, GrowsBy, IsHandled, IsHeldBack, IsNothing, IsOwn, IsTurned, Rests, part_text}
use Rattle.hpx_top.specs.Session.{IsFed, IsLineEndedBy, IsServed, WritesFront}
use Rattle.hpx_top.proofs.LineLemmas.{followed_nothing, followed_twice}
use Rattle.hpx_top.proofs.ShowLemmas.{front_more, line_front}

-- what a journal grew by is one list of entries
same_more : (old a b : List Entry) → old ++ a ≡ old ++ b → a ≡ b
same_more [] a b h = h
same_more (x ∷ old) a b h = same_more old a b (let rest : old ++ a ≡ old ++ b = ap (drop 1) h in rest)

all_append : {A : Type 0} (P : A → Type 0) (xs ys : List A) → AllByRecursion P xs → AllByRecursion P ys → AllByRecursion P (xs ++ ys)
all_append P [] ys h g = g
all_append P (x ∷ xs) ys h g = (h.0, all_append P xs ys h.1 g)

-- ---- in a hold

-- a line was fed, and locality 0 alone went on
pub fed_back : (console : UserConsole) (r : Rules) (text : List ℕ) (held : Bool) (old mid new : List Entry) → held ≡ true → IsFed text old new → GrowsAtHome old mid → GrowsAtHome mid new
    → (IsCarried r [] new → WaitsBusy (replayed r new)) → GrowsBy (Does r text held (Typed Fed) old) old new
fed_back console r text held old mid new on f g h waits =
    let more = g.more ++ h.more in
    let is : new ≡ old ++ more = h.is ∙ (ap (λ es. es ++ h.more) g.is ∙ append_assoc old g.more h.more) in
    let same : f.block ≡ more = same_more old f.block more (sym f.is ∙ is) in
    let back : IsHeldBack r old f.block = record {
      home = subst StaysHome (sym same) (all_append (λ e. (e.at ≡ 0) × HasNoFrame e.event) g.more h.more g.home h.home);
      waits = subst (λ es. IsCarried r [] es → WaitsBusy (replayed r es)) f.is waits;
    } in
    record { more = f.block; is = f.is; of = subst (λ b. Does r text b (Typed Fed) old f.block) (sym on) (f.begins, back) }

-- all that follows from it was done
pub fed_all : (r : Rules) (text : List ℕ) (held : Bool) (old new : List Entry) → held ≡ false → IsFed text old new → Rests r new → GrowsBy (Does r text held (Typed Fed) old) old new
fed_all r text held old new off f rest = record {
  more = f.block;
  is = f.is;
  of = subst (λ b. Does r text b (Typed Fed) old f.block) (sym off) (f.begins, subst (Rests r) f.is rest);
}

-- steps were made, and locality 0 alone went on
pub turned_back : (r : Rules) (n made : ℕ) (old mid new : List Entry) → MakesTurns r n made old mid → GrowsAtHome mid new → IsUnfed old mid → IsUnfed mid new → (IsCarried r [] new → WaitsBusy (replayed r new))
    → GrowsBy (IsTurned r n old) old new
turned_back r n made old mid new turns home first second waits =
    let more = first.more ++ second.more in
    let is : new ≡ old ++ more = second.is ∙ (ap (λ es. es ++ second.more) first.is ∙ append_assoc old first.more second.more) in
    record {
      more = more;
      is = is;
      of = record {
        unfed = all_append (λ e. FeedsNothing e.event) first.more second.more first.unfed second.unfed;
        made = made;
        mid = mid;
        turns = turns;
        later = home.more;
        is = sym is ∙ home.is;
        back = record { home = home.home; waits = subst (λ es. IsCarried r [] es → WaitsBusy (replayed r es)) home.is waits };
      };
    }

-- nothing was done
pub grown_nothing : (r : Rules) (held : Bool) (es : List Entry) → (held ≡ false → Rests r es) → GrowsBy (IsNothing r held es) es es
grown_nothing r held es rest = record { more = []; is = sym (append-nil es); of = record { none = refl; rest = rest } }

-- ---- a line that was handled

-- with its part
pub record IsHandledBy (console : UserConsole) (r : Rules) (line : List ℕ) (held held' : Bool) (cuts cuts' : List ℕ) (old new : List Entry) (own : List ℕ) : Type 0 where
  pub handled : IsHandled console r line held held' cuts cuts' old new
  pub text : part_text handled.part ≡ concat (prints_of (drop (length old) new)) ++ own

pub handled_by : (console : UserConsole) (r : Rules) (line : List ℕ) (h : How) (held held' : Bool) (cuts cuts' : List ℕ) (old new : List Entry) (own : List ℕ) → how console line ≡ h
    → GrowsBy (Does r (mark_of console ∷ line) held h old) old new → IsOwn r held h new own → held' ≡ held_by held h → cuts' ≡ cuts ++ length new ∷ []
    → IsHandledBy console r line held held' cuts cuts' old new own
handled_by console r line h held held' cuts cuts' old new own so did owned mode cut = record {
  handled = record {
    part = record { entries = did.more; own = own };
    is = did.is;
    does = record {
      did = subst (λ w. Does r (mark_of console ∷ line) held w old did.more) (sym so) did.of;
      own = subst (λ es. IsOwn r held (how console line) es own) did.is (subst (λ w. IsOwn r held w new own) (sym so) owned);
    };
    mode = mode ∙ ap (held_by held) (sym so);
    cut = cut;
  };
  text = ap (λ es. concat (prints_of es) ++ own) (sym (ap (drop (length old)) did.is ∙ drop_at old did.more (length old) refl));
}

-- its text was written
pub served_ok : {console : UserConsole} {r : Rules} {line : List ℕ} {held held' : Bool} {cuts cuts' : List ℕ} {old new : List Entry} (own : List ℕ) (result : Result ⊤ SessionFault)
    (before mid later : Option (List ℕ)) → IsHandledBy console r line held held' cuts cuts' old new own → mid ≡ followed before (concat (prints_of (drop (length old) new)))
    → OnOk result (later ≡ followed mid own) → OnOk result (IsServed console r line held held' cuts cuts' old new before later)
served_ok {console} {r} {line} {held} {held'} {cuts} {cuts'} {old} {new} own (Ok t) before mid later h shown written = record {
  handled = h.handled;
  written = written ∙ (ap (λ o. followed o own) shown ∙ (followed_twice before (concat (prints_of (drop (length old) new))) own ∙ ap (followed before) (sym h.text)));
}
served_ok {console} {r} {line} {held} {held'} {cuts} {cuts'} {old} {new} own (Err f) before mid later h shown written = tt

-- what the journal printed was not written
pub served_shown : {console : UserConsole} {r : Rules} {line : List ℕ} {held held' : Bool} {cuts cuts' : List ℕ} {old new : List Entry} (own : List ℕ) (f : SessionFault)
    (before later : Option (List ℕ)) → IsHandledBy console r line held held' cuts cuts' old new own → f ≡ Write → WritesFront (concat (prints_of (drop (length old) new))) before later
    → IsLineEndedBy console f r line held held' cuts cuts' old new before later
served_shown {console} {r} {line} {held} {held'} {cuts} {cuts'} {old} {new} own f before later h is w =
    subst (λ g. IsLineEndedBy console g r line held held' cuts cuts' old new before later) (sym is) (record {
      handled = h.handled;
      written = subst (λ t. WritesFront t before later) (sym h.text) (front_more (concat (prints_of (drop (length old) new))) own before later w);
    })

-- what the top call itself writes was not
pub served_own : {console : UserConsole} {r : Rules} {line : List ℕ} {held held' : Bool} {cuts cuts' : List ℕ} {old new : List Entry} (own : List ℕ) (result : Result ⊤ SessionFault) (Q : Type 0)
    (before mid later : Option (List ℕ)) → IsHandledBy console r line held held' cuts cuts' old new own → mid ≡ followed before (concat (prints_of (drop (length old) new)))
    → OnErr result (WritesFront own mid later) → IfErr result (λ f. (f ≡ Write) × Q)
    → IfErr result (λ f. IsLineEndedBy console f r line held held' cuts cuts' old new before later)
served_own {console} {r} {line} {held} {held'} {cuts} {cuts'} {old} {new} own (Ok t) Q before mid later h shown w cause = tt
served_own {console} {r} {line} {held} {held'} {cuts} {cuts'} {old} {new} own (Err f) Q before mid later h shown w cause =
    subst (λ g. IsLineEndedBy console g r line held held' cuts cuts' old new before later) (sym cause.0) (record {
      handled = h.handled;
      written = subst (λ t. WritesFront t before later) (sym h.text) (line_front (concat (prints_of (drop (length old) new))) own before mid later shown w);
    })

-- ---- a line that is too long

long_by : (console : UserConsole) (r : Rules) (line : List ℕ) (held held' : Bool) (cuts cuts' : List ℕ) (es : List Entry) → is_long line ≡ true → (held ≡ false → Rests r es)
    → held' ≡ held → cuts' ≡ cuts ++ length es ∷ [] → IsHandledBy console r line held held' cuts cuts' es es too_long
long_by console r line held held' cuts cuts' es long rest mode cut =
    handled_by console r line TooLong held held' cuts cuts' es es too_long (ap (λ b. if b then TooLong else Typed (handled_as (owns console) line)) long)
    (grown_nothing r held es rest) refl mode cut

-- the journal printed nothing
prints_none : (es : List Entry) (before : Option (List ℕ)) → before ≡ followed before (concat (prints_of (drop (length es) es)))
prints_none es before =
    sym (ap (λ x. followed before (concat (prints_of x))) (ap (drop (length es)) (sym (append-nil es)) ∙ drop_at es [] (length es) refl) ∙ followed_nothing before)

pub long_ok : (console : UserConsole) (r : Rules) (line : List ℕ) (held held' : Bool) (cuts cuts' : List ℕ) (es : List Entry) (result : Result ⊤ SessionFault) (before later : Option (List ℕ))
    → is_long line ≡ true → (held ≡ false → Rests r es) → held' ≡ held → cuts' ≡ cuts ++ length es ∷ [] → OnOk result (later ≡ followed before too_long)
    → OnOk result (IsServed console r line held held' cuts cuts' es es before later)
long_ok console r line held held' cuts cuts' es result before later long rest mode cut written =
    served_ok too_long result before before later (long_by console r line held held' cuts cuts' es long rest mode cut) (prints_none es before) written

pub long_err : (console : UserConsole) (r : Rules) (line : List ℕ) (held held' : Bool) (cuts cuts' : List ℕ) (es : List Entry) (result : Result ⊤ SessionFault) (Q : Type 0) (before later : Option (List ℕ))
    → is_long line ≡ true → (held ≡ false → Rests r es) → held' ≡ held → cuts' ≡ cuts ++ length es ∷ [] → OnErr result (WritesFront too_long before later)
    → IfErr result (λ f. (f ≡ Write) × Q) → IfErr result (λ f. IsLineEndedBy console f r line held held' cuts cuts' es es before later)
long_err console r line held held' cuts cuts' es result Q before later long rest mode cut front cause =
    served_own too_long result Q before before later (long_by console r line held held' cuts cuts' es long rest mode cut) (prints_none es before) front cause
