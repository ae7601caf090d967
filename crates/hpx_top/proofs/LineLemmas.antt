-- Lines of a session, one behind the others: what is fed, what is written, and what is told.
use Rattle.std.specs.Prelude.{◌||◌, ◌&&◌, not, if◌then◌else◌}
use Rattle.std.specs.List.{list_any, AllByRecursion}
use Rattle.std.proofs.Common.{ℕ, Bool, true, false, List, [], ◌∷◌, ◌++◌, ◌≡◌, Option, Some, None, refl, sym, ap, ◌∙◌, subst, append-nil, append_assoc}
use Rattle.std.proofs.lemmas.List.Folds.{list_any-append}
use Rattle.hpx_journal.specs.declared.entry.Entry.{Entry}
use Rattle.hpx_journal.specs.declared.entry.Event.{Event}
use Rattle.hpx_journal.specs.declared.entry.Event.TheVariants.{Line, Fire, Split, Born, Done, Sent, Print, Merge, Up, Asked, Given, Count, Freed, Left, Landed, Looked, Mail, Out, In}
use Rattle.hpx_journal.specs.Sessions.{FeedsNothing, BeginsWith}
use Rattle.hpx_ports.specs.Told.{preceded, followed}
use Rattle.app_console.specs.Console.{words_of, prompt}
use Rattle.app_console.specs.Lines.{IsFront, is_long, is_quit, are_quit, before_quit}
use Rattle.app_console.specs.Plain.{Plain}
use Rattle.hpx_top.specs.declared.consoles.UserConsole.{UserConsole}
use Rattle.hpx_top.specs.Texts.{commands, how, left_by, lines_text, said, said_for, start_of, table_of}
use Rattle.hpx_top.specs.Session.{lines_by, lines_fed}

-- ---- what is told

pub followed_nothing : (o : Option (List ℕ)) → followed o [] ≡ o
followed_nothing None = refl
followed_nothing (Some xs) = ap (λ ys. Some ys) (append-nil xs)

pub followed_twice : (o : Option (List ℕ)) (a b : List ℕ) → followed (followed o a) b ≡ followed o (a ++ b)
followed_twice None a b = refl
followed_twice (Some xs) a b = ap (λ ys. Some ys) (append_assoc xs a b)

pub preceded_nothing : (o : Option (List (List ℕ))) → preceded [] o ≡ o
preceded_nothing None = refl
preceded_nothing (Some xs) = refl

pub preceded_twice : {T : Type 0} (a b : List T) (o : Option (List T)) → preceded a (preceded b o) ≡ preceded (a ++ b) o
preceded_twice a b None = refl
preceded_twice a b (Some xs) = ap (λ ys. Some ys) (sym (append_assoc a b xs))

-- what is told ends with what is still left
pub told_rest : {T : Type 0} (all lines : List T) (left : Option (List T)) → Some all ≡ preceded lines left → (rest : List T) × (left ≡ Some rest) × (all ≡ lines ++ rest)
told_rest all lines None h = absurd (let none : Some all ≡ None = h in cc)
told_rest all lines (Some rest) h = (rest, refl, (let some : Some all ≡ Some (lines ++ rest) = h in cc))

-- ---- the text

-- what is left after a line, and after lines
abbrev after : UserConsole → ℕ → Plain → List ℕ → Plain
after console n v line = left_by (how console line) (table_of console) n v line

abbrev after_all : UserConsole → ℕ → Plain → List (List ℕ) → Plain
after_all console n v [] = v
after_all console n v (x ∷ xs) = after_all console n (after console n v x) xs

-- what is said for one
abbrev line_text : UserConsole → ℕ → Plain → List ℕ → List ℕ
line_text console n v line = said_for (how console line) (table_of console) n v line

said_append : (console : UserConsole) (n : ℕ) (v : Plain) (xs ys : List (List ℕ))
    → said console n v (xs ++ ys) ≡ said console n v xs ++ said console n (after_all console n v xs) ys
said_append console n v [] ys = refl
said_append console n v (x ∷ xs) ys =
    ap (λ t. prompt ++ (line_text console n v x ++ t)) (said_append console n (after console n v x) xs ys)
    ∙ regroup prompt (line_text console n v x) (said console n (after console n v x) xs) (said console n (after_all console n (after console n v x) xs) ys)
  where
    regroup : (p a b c : List ℕ) → p ++ (a ++ (b ++ c)) ≡ (p ++ (a ++ b)) ++ c
    regroup p a b c = simp append_assoc

pub front_all : (t : List ℕ) → IsFront t t
front_all t = record { later = []; is = append-nil t }

pub front_then : (a b c : List ℕ) → IsFront a b → IsFront b c → IsFront a c
front_then a b c f g = record { later = f.later ++ g.later; is = sym (append_assoc a f.later g.later) ∙ (ap (λ t. t ++ g.later) f.is ∙ g.is) }

front_within : (c l p t m : List ℕ) → (c ++ (l ++ p)) ++ (t ++ (m ++ p)) ≡ c ++ ((l ++ (p ++ (t ++ m))) ++ p)
front_within c l p t m = simp append_assoc

-- the plain text of the first lines begins that of all
pub text_front : (console : UserConsole) (n : ℕ) (xs ys : List (List ℕ))
    → IsFront (commands console ++ (lines_text console n xs ++ prompt)) (commands console ++ (lines_text console n (xs ++ ys) ++ prompt))
text_front console n xs [] =
    subst (λ zs. IsFront (commands console ++ (lines_text console n xs ++ prompt)) (commands console ++ (lines_text console n zs ++ prompt))) (sym (append-nil xs))
    (front_all (commands console ++ (lines_text console n xs ++ prompt)))
text_front console n xs (y ∷ ys) =
    let v = after_all console n (start_of console n) xs in
    record {
      later = line_text console n v y ++ (said console n (after console n v y) ys ++ prompt);
      is = front_within (commands console) (lines_text console n xs) prompt (line_text console n v y) (said console n (after console n v y) ys)
          ∙ ap (λ t. commands console ++ (t ++ prompt)) (sym (said_append console n (start_of console n) xs (y ∷ ys)));
    }

-- ---- lines that end reading

or_none : (a b : Bool) → (a || b) ≡ false → (a ≡ false) × (b ≡ false)
or_none true b h = absurd (let no : true ≡ false = h in cc)
or_none false b h = (refl, h)

before_cons : (q : Bool) (x : List ℕ) (a b : List (List ℕ)) → q ≡ false → a ≡ b → (if q then [] else x ∷ a) ≡ x ∷ b
before_cons q x a b h e = ap (λ q. if q then [] else x ∷ a) h ∙ ap (λ t. x ∷ t) e

pub before_quit_append : (xs ys : List (List ℕ)) → list_any is_quit xs ≡ false → before_quit (xs ++ ys) ≡ xs ++ before_quit ys
before_quit_append [] ys h = refl
before_quit_append (x ∷ xs) ys h =
    let none = or_none (is_quit x) (list_any is_quit xs) h in
    before_cons (is_quit x) x (before_quit (xs ++ ys)) (xs ++ before_quit ys) none.0 (before_quit_append xs ys none.1)

pub goes_on_more : (xs : List (List ℕ)) (line : List ℕ) → list_any is_quit xs ≡ false → is_quit line ≡ false → list_any is_quit (xs ++ line ∷ []) ≡ false
goes_on_more xs line h g =
    list_any-append is_quit xs (line ∷ [])
    ∙ (ap (λ b. b || (is_quit line || false)) h ∙ ap (λ b. b || false) g)

pub goes_on_less : (xs ys : List (List ℕ)) → list_any is_quit (xs ++ ys) ≡ false → list_any is_quit xs ≡ false
goes_on_less xs ys h = (or_none (list_any is_quit xs) (list_any is_quit ys) (sym (list_any-append is_quit xs ys) ∙ h)).0

pub long_goes_on : (line : List ℕ) → is_long line ≡ true → is_quit line ≡ false
long_goes_on line h = ap (λ b. not b && are_quit (words_of line)) h

-- ---- lines in a journal

pub lines_fed_append : (xs ys : List Entry) → lines_fed (xs ++ ys) ≡ lines_fed xs ++ lines_fed ys
lines_fed_append [] ys = refl
lines_fed_append (e ∷ es) ys = ap (λ t. lines_by e.event ++ t) (lines_fed_append es ys) ∙ sym (append_assoc (lines_by e.event) (lines_fed es) (lines_fed ys))

silent : (event : Event) → FeedsNothing event → lines_by event ≡ []
silent (Line a bytes) h = absurd h
silent (Fire a) h = refl
silent (Split o log) h = refl
silent (Born o state) h = refl
silent (Done a failed) h = refl
silent (Sent a) h = refl
silent (Print bytes) h = refl
silent (Merge o log) h = refl
silent (Up o log) h = refl
silent (Asked o) h = refl
silent (Given o log) h = refl
silent (Count o count why) h = refl
silent (Freed o) h = refl
silent (Left o to) h = refl
silent (Landed o) h = refl
silent (Looked o hit) h = refl
silent (Mail kind) h = refl
silent (Out to bytes) h = refl
silent (In bytes) h = refl

pub none_fed : (es : List Entry) → AllByRecursion (λ e. FeedsNothing e.event) es → lines_fed es ≡ []
none_fed [] h = refl
none_fed (e ∷ es) h = ap (λ t. t ++ lines_fed es) (silent e.event h.0) ∙ none_fed es h.1

pub block_line : (line : List ℕ) (es : List Entry) → BeginsWith line es → lines_fed es ≡ line ∷ []
block_line line [] h = absurd h
block_line line (e ∷ es) h = ap (λ t. t ++ lines_fed es) (ap lines_by h.0.1) ∙ ap (λ t. line ∷ t) (none_fed es h.1)
