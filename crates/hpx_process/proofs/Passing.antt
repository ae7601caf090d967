-- A slip, talk after talk.
use Rattle.std.specs.List.{concat}
use Rattle.std.proofs.Common.{ℕ, true, false, List, [], ◌∷◌, ◌++◌, ◌≡◌, refl, sym, ap, ◌∙◌, subst, append-nil}
use Rattle.std.proofs.lemmas.List.Concat.{flat_map-append}
use Rattle.std.proofs.lemmas.List.Folds.{concat-append}
use Rattle.hpx_journal.specs.Pool.{prints_by, prints_of}
use Rattle.hpx_part.specs.Data.{Entry}
use Rattle.hpx_ports.specs.Told.{followed}
use Rattle.hpx_member.specs.Talks.{Talk, Handed, Over, Shown}
use Rattle.hpx_member.specs.declared.lines.LineFault.TheVariants.{Write, OutOfMemory}
use Rattle.hpx_top.specs.Session.{WritesFront}
use Rattle.hpx_top.proofs.LineLemmas.{followed_nothing, followed_twice}
use Rattle.hpx_process.specs.Slips.{HasPassed, HasStuck, IfOver, Note, handed_by, handed_in, shown_by, shown_in, unasked}

-- ---- talk and one more

handed_last : (talk : List Talk) (t : Talk) → handed_in (talk ++ t ∷ []) ≡ handed_in talk ++ handed_by t
handed_last talk t = flat_map-append handed_by talk (t ∷ []) ∙ ap (λ l. handed_in talk ++ l) (append-nil (handed_by t))

shown_last : (talk : List Talk) (t : Talk) → shown_in (talk ++ t ∷ []) ≡ shown_in talk ++ shown_by t
shown_last talk t = flat_map-append shown_by talk (t ∷ []) ∙ ap (λ l. shown_in talk ++ l) (append-nil (shown_by t))

pub prints_append : (xs ys : List Entry) → concat (prints_of (xs ++ ys)) ≡ concat (prints_of xs) ++ concat (prints_of ys)
prints_append xs ys = ap concat (flat_map-append (λ e. prints_by e.event) xs ys) ∙ concat-append (prints_of xs) (prints_of ys)

-- nothing is over but for what is said last
over_shown : (talk : List Talk) (es : List Entry) (P : Type 0) → IfOver talk P → IfOver (talk ++ Shown es ∷ []) P
over_shown [] es P h = tt
over_shown (Over ∷ talk) es P h = h
over_shown (Handed line ∷ talk) es P h = over_shown talk es P h
over_shown (Shown xs ∷ talk) es P h = over_shown talk es P h

over_true : (talk : List Talk) (P : Type 0) → P → IfOver talk P
over_true [] P h = tt
over_true (Over ∷ talk) P h = h
over_true (Handed line ∷ talk) P h = over_true talk P h
over_true (Shown xs ∷ talk) P h = over_true talk P h

-- ---- what was said, and one more

pub passed_none : (line : List ℕ) (x : Note) → HasPassed line x x []
passed_none line x = record { handed = refl; over = tt; text = sym (followed_nothing x.text) }

-- the line is handed out
pub passed_line : (line : List ℕ) (x y z : Note) (talk : List Talk) → HasPassed line x y talk → y.asked ≡ false → z.asked ≡ true → z.text ≡ y.text
    → HasPassed line x z (talk ++ Handed line ∷ [])
passed_line line x y z talk h before asked text = record {
  handed = h.handed ∙ (ap (λ b. handed_in talk ++ unasked b line) before ∙ (sym (handed_last talk (Handed line)) ∙ (sym (append-nil (handed_in (talk ++ Handed line ∷ []))) ∙ ap (λ b. handed_in (talk ++ Handed line ∷ []) ++ unasked b line) (sym asked))));
  over = over_true (talk ++ Handed line ∷ []) _ asked;
  text = text ∙ (h.text ∙ ap (λ es. followed x.text (concat (prints_of es))) (sym (shown_last talk (Handed line) ∙ append-nil (shown_in talk))));
}

pub passed_such : (line other : List ℕ) (x y z : Note) (talk : List Talk) → HasPassed line x y talk → y.asked ≡ false → z.asked ≡ true → z.text ≡ y.text → other ≡ line
    → HasPassed line x z (talk ++ Handed other ∷ [])
passed_such line other x y z talk h before asked text same = subst (λ l. HasPassed line x z (talk ++ Handed l ∷ [])) (sym same) (passed_line line x y z talk h before asked text)

-- there is none
pub passed_over : (line : List ℕ) (x y : Note) (talk : List Talk) → HasPassed line x y talk → y.asked ≡ true → HasPassed line x y (talk ++ Over ∷ [])
passed_over line x y talk h asked = record {
  handed = h.handed ∙ ap (λ l. l ++ unasked y.asked line) (sym (handed_last talk Over ∙ append-nil (handed_in talk)));
  over = over_true (talk ++ Over ∷ []) _ asked;
  text = h.text ∙ ap (λ es. followed x.text (concat (prints_of es))) (sym (shown_last talk Over ∙ append-nil (shown_in talk)));
}

-- entries are shown
pub passed_shown : (line : List ℕ) (es : List Entry) (x y z : Note) (talk : List Talk) → HasPassed line x y talk → z.asked ≡ y.asked → z.text ≡ followed y.text (concat (prints_of es))
    → HasPassed line x z (talk ++ Shown es ∷ [])
passed_shown line es x y z talk h asked text = record {
  handed = h.handed ∙ (ap (λ b. handed_in talk ++ unasked b line) (sym asked) ∙ ap (λ l. l ++ unasked z.asked line) (sym (handed_last talk (Shown es) ∙ append-nil (handed_in talk))));
  over = over_shown talk es _ (subst (λ b. IfOver talk (b ≡ true)) (sym asked) h.over);
  text = text ∙ (ap (λ o. followed o (concat (prints_of es))) h.text
      ∙ (followed_twice x.text (concat (prints_of (shown_in talk))) (concat (prints_of es))
      ∙ ap (followed x.text) (sym (prints_append (shown_in talk) es) ∙ ap (λ l. concat (prints_of l)) (sym (shown_last talk (Shown es))))));
}

-- ---- what is broken off

pub stuck_line : (line : List ℕ) (x y : Note) (talk : List Talk) → HasPassed line x y talk → y.asked ≡ false → HasStuck line x y OutOfMemory talk []
stuck_line line x y talk h unasked = record {
  breaks = (unasked, refl);
  handed = h.handed;
  over = h.over;
  text = h.text ∙ sym (followed_nothing (followed x.text (concat (prints_of (shown_in talk)))));
}

pub stuck_shown : (line : List ℕ) (es : List Entry) (x y z : Note) (talk : List Talk) → HasPassed line x y talk → z.asked ≡ y.asked
    → WritesFront (concat (prints_of es)) y.text z.text → HasStuck line x z Write talk (Shown es ∷ [])
stuck_shown line es x y z talk h asked w = record {
  breaks = (es, refl);
  handed = h.handed ∙ ap (λ b. handed_in talk ++ unasked b line) (sym asked);
  over = subst (λ b. IfOver talk (b ≡ true)) (sym asked) h.over;
  text = subst (λ o. WritesFront (concat (prints_of (shown_in (Shown es ∷ [])))) o z.text) h.text (subst (λ l. WritesFront (concat (prints_of l)) y.text z.text) (sym (append-nil es)) w);
}
