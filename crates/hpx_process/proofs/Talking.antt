-- Deed after deed.
use Rattle.std.specs.Prelude.{◌||◌, ◌≢◌, ◌⊎◌}
use Rattle.std.specs.List.{concat, flat_map, list_any}
use Rattle.std.proofs.Common.{ℕ, List, [], ◌∷◌, ◌++◌, ◌≡◌, Option, Some, None, refl, sym, ap, ◌∙◌, subst, arith, append-nil, inl, inr}
use Rattle.std.proofs.lemmas.List.{map-append}
use Rattle.std.proofs.lemmas.List.Concat.{flat_map-append}
use Rattle.std.proofs.lemmas.List.Folds.{list_any-append}
use Rattle.hpx_journal.specs.Pool.{prints_of}
use Rattle.hpx_part.specs.Data.{Entry}
use Rattle.hpx_ports.specs.Told.{followed, preceded}
use Rattle.app_console.specs.Lines.{is_quit, opening}
use Rattle.hpx_member.specs.Talks.{Talk, Handed, Shown, talk_of}
use Rattle.hpx_member.specs.declared.lines.LineFault.{LineFault}
use Rattle.hpx_member.specs.declared.lines.LineFault.TheVariants.{Read, Write, OutOfMemory, InputFull}
use Rattle.hpx_top.specs.Reader.{Reading, lines_left}
use Rattle.hpx_top.specs.Session.{HandsOut, WritesFront}
use Rattle.hpx_top.specs.Texts.{commands}
use Rattle.hpx_top.specs.declared.consoles.UserConsole.TheVariants.{Accumulator}
use Rattle.hpx_top.proofs.LineLemmas.{followed_nothing, followed_twice, preceded_nothing, preceded_twice}
use Rattle.hpx_process.specs.declared.sheet.Sheet.{Sheet}
use Rattle.hpx_process.specs.declared.sheet.Sheet.TheVariants.{Blank, Open, Full}
use Rattle.hpx_process.specs.Asked.{IsAskedBy}
use Rattle.hpx_process.specs.Deeds.{AreLeft, AreOver, Asking, Breaks, Broken, Deed, Does, Ends, Fails, HasBroken, HasTalked, LosesNone, Opening, Opens, Reads, Rests, Showing, Shows, Sitting, Takes, Turns, TurnsAll, Wrote, broken_lines, broken_text, lines_at, lines_by, sitting, talk_by, text_by, tried_by}

-- ---- parts of it

pub turns_more : (a : Sheet) (ds : List Deed) (m : Sheet) (d : Deed) (n : Sheet) → TurnsAll a ds m → Turns m d n → TurnsAll a (ds ++ d ∷ []) n
turns_more a [] m d n t e = (n, subst (λ s. Turns s d n) t e, refl)
turns_more a (x ∷ ds) m d n t e = (t.0, t.1, turns_more t.0 ds m d n t.2 e)

pub reads_none : (x : Sitting) → Reads x x
reads_none x = record { next = λ all h. h; counted = refl; limit = λ few. few }

pub reads_more : (x y z : Sitting) → Reads x y → Reads y z → Reads x z
reads_more x y z r s = record {
  next = λ all h. s.next all (r.next all h);
  counted = omega (arith, r.counted, s.counted);
  limit = λ few. s.limit (r.limit few);
}

pub handed_none : (all : Option (List (List ℕ))) → HandsOut all all []
handed_none all = record { first = sym (preceded_nothing all); goes_on = refl }

pub handed_more : (all mid left : Option (List (List ℕ))) (xs ys : List (List ℕ)) → HandsOut all mid xs → HandsOut mid left ys → HandsOut all left (xs ++ ys)
handed_more all mid left xs ys h g = record {
  first = h.first ∙ (ap (preceded xs) g.first ∙ preceded_twice xs ys left);
  goes_on = list_any-append is_quit xs ys ∙ (ap (λ b. b || list_any is_quit ys) h.goes_on ∙ g.goes_on);
}

-- a sheet on which entries are shown stays
pub turn_shown : (s z : Sheet) (es : List Entry) → Turns s (Shows es) z → z ≡ s
turn_shown Blank z es h = h
turn_shown Open z es h = h
turn_shown Full z es h = h

-- ---- one deed more

pub talked_none : (x : Sitting) → x.sheet ≡ Blank → HasTalked x x []
talked_none x blank = record {
  deeds = [];
  said = refl;
  turns = refl;
  text = sym (followed_nothing x.text);
  others = lines_at x;
  typed = handed_none (lines_at x);
  left = subst (λ s. AreLeft s (lines_at x) (lines_at x)) (sym blank) refl;
  over = λ full. absurd (let no : Blank ≡ Full = sym blank ∙ full in cc);
  reads = reads_none x;
}

-- on a full sheet nothing more is typed
typed_on_full : (d : Deed) (z : Sheet) → Turns Full d z → (lines_by d ≡ []) × (z ≡ Full)
typed_on_full (Shows es) z t = (refl, t)
typed_on_full Rests z t = (refl, t)
typed_on_full Opens z t = absurd t
typed_on_full (Takes longs line) z t = absurd t
typed_on_full (Ends longs) z t = absurd t

pub lines_more : (s : Sheet) (d : Deed) (z : Sheet) (all others mid later left : Option (List (List ℕ))) (xs : List (List ℕ))
    → (before after : Reading) → Turns s d z → HandsOut all others xs → AreLeft s others mid → (s ≢ Full → HandsOut mid later (lines_by d)) → (s ≢ Full → AreLeft z later left)
    → (s ≡ Full → AreOver others before) → (s ≢ Full → z ≡ Full → AreOver later after) → (s ≡ Full → after ≡ before)
    → (o : Option (List (List ℕ))) × HandsOut all o (xs ++ lines_by d) × AreLeft z o left × (z ≡ Full → AreOver o after)
lines_more Full d z all others mid later left xs before after t h a typed behind over ends still =
    let full = typed_on_full d z t in (
      others,
      subst (HandsOut all others) (sym (ap (λ ys. xs ++ ys) full.0 ∙ append-nil xs)) h,
      subst (λ s. AreLeft s others left) (sym full.1) a,
      λ again. subst (AreOver others) (sym (still refl)) (over refl),
    )
lines_more Blank d z all others mid later left xs before after t h a typed behind over ends still = (
  later,
  handed_more all others later xs (lines_by d) h (subst (λ o. HandsOut o later (lines_by d)) (sym a) (typed (λ e. let no : Blank ≡ Full = e in cc))),
  behind (λ e. let no : Blank ≡ Full = e in cc),
  ends (λ e. let no : Blank ≡ Full = e in cc),
)
lines_more Open d z all others mid later left xs before after t h a typed behind over ends still = (
  later,
  handed_more all others later xs (lines_by d) h (subst (λ o. HandsOut o later (lines_by d)) (sym a) (typed (λ e. let no : Open ≡ Full = e in cc))),
  behind (λ e. let no : Open ≡ Full = e in cc),
  ends (λ e. let no : Open ≡ Full = e in cc),
)

last_by : {T : Type 0} (f : Deed → List T) (ds : List Deed) (d : Deed) → flat_map f (ds ++ d ∷ []) ≡ flat_map f ds ++ f d
last_by f ds d = flat_map-append f ds (d ∷ []) ∙ ap (λ t. flat_map f ds ++ t) (append-nil (f d))

pub talked_more : (deed : Deed) (x y z : Sitting) (talk : List Talk) → HasTalked x y talk → Does deed y z → HasTalked x z (talk ++ talk_by deed ∷ [])
talked_more deed x y z talk t d =
    let lines = lines_more y.sheet deed z.sheet (lines_at x) t.others (lines_at y) d.others (lines_at z) (flat_map lines_by t.deeds) y.reading z.reading d.turns t.typed t.left d.typed d.left
    t.over d.over d.still in
    record {
      deeds = t.deeds ++ deed ∷ [];
      said = ap (λ l. l ++ talk_by deed ∷ []) t.said ∙ sym (map-append talk_by t.deeds (deed ∷ []));
      turns = turns_more x.sheet t.deeds y.sheet deed z.sheet t.turns d.turns;
      text = d.text ∙ (ap (λ o. followed o (text_by deed)) t.text ∙ (followed_twice x.text (flat_map text_by t.deeds) (text_by deed) ∙ ap (followed x.text) (sym (last_by text_by t.deeds deed))));
      others = lines.0;
      typed = subst (HandsOut (lines_at x) lines.0) (sym (last_by lines_by t.deeds deed)) lines.1;
      left = lines.2;
      over = lines.3;
      reads = reads_more x y z t.reads d.reads;
    }

-- ---- a deed that is broken off

broken_on_full : (fault : LineFault) (b : Broken) → Breaks fault Full b → broken_lines b ≡ []
broken_on_full fault (Showing es) h = refl
broken_on_full fault Opening h = absurd h
broken_on_full fault (Asking longs lost) h = absurd h

lines_broken : (s : Sheet) (fault : LineFault) (b : Broken) (all others mid left : Option (List (List ℕ))) (xs : List (List ℕ))
    → Breaks fault s b → HandsOut all others xs → AreLeft s others mid → (s ≢ Full → HandsOut mid left (broken_lines b))
    → (o : Option (List (List ℕ))) × HandsOut all o (xs ++ broken_lines b) × AreLeft s o left
lines_broken Full fault b all others mid left xs h out a typed =
    (others, subst (HandsOut all others) (sym (ap (λ ys. xs ++ ys) (broken_on_full fault b h) ∙ append-nil xs)) out, a)
lines_broken Blank fault b all others mid left xs h out a typed =
    (left, handed_more all others left xs (broken_lines b) out (subst (λ o. HandsOut o left (broken_lines b)) (sym a) (typed (λ e. let no : Blank ≡ Full = e in cc))), refl)
lines_broken Open fault b all others mid left xs h out a typed =
    (left, handed_more all others left xs (broken_lines b) out (subst (λ o. HandsOut o left (broken_lines b)) (sym a) (typed (λ e. let no : Open ≡ Full = e in cc))), refl)

pub talked_broken : (fault : LineFault) (broken : Broken) (x y z : Sitting) (talk : List Talk) → HasTalked x y talk → Fails fault broken y z
    → HasBroken x z fault talk (tried_by broken)
talked_broken fault broken x y z talk t f =
    let lines = lines_broken y.sheet fault broken (lines_at x) t.others (lines_at y) (lines_at z) (flat_map lines_by t.deeds) f.breaks t.typed t.left f.typed in
    record {
      deeds = t.deeds;
      said = t.said;
      turns = subst (TurnsAll x.sheet t.deeds) (sym f.sheet) t.turns;
      broken = broken;
      tried_is = refl;
      breaks = subst (λ s. Breaks fault s broken) (sym f.sheet) f.breaks;
      text = subst (λ o. Wrote fault (broken_text broken) o z.text) t.text f.text;
      others = lines.0;
      typed = lines.1;
      left = subst (λ s. AreLeft s lines.0 (lines_at z)) (sym f.sheet) lines.2;
      loses = f.loses;
      reads = reads_more x y z t.reads f.reads;
    }

-- ---- deeds, one by one

same_left : (s : Sheet) (o : Option (List (List ℕ))) → s ≢ Full → AreLeft s o o
same_left Blank o other = refl
same_left Open o other = refl
same_left Full o other = absurd (other refl)

pub opens_does : (s : Sheet) (reading : Reading) (left : Option (List ℕ)) (taken : ℕ) (old new : Option (List ℕ)) → s ≡ Blank → new ≡ followed old (commands Accumulator)
    → Does Opens (sitting s reading left taken old) (sitting Open reading left taken new)
opens_does s reading left taken old new blank h = record {
  turns = subst (λ s. Turns s Opens Open) (sym blank) refl;
  text = h;
  others = lines_left reading left;
  typed = λ other. handed_none (lines_left reading left);
  left = λ other. refl;
  over = λ other full. absurd (let no : Open ≡ Full = full in cc);
  still = λ full. refl;
  reads = record { next = λ all h. h; counted = refl; limit = λ few. few };
}

pub rests_does : (s : Sheet) (reading : Reading) (left : Option (List ℕ)) (taken : ℕ) (text : Option (List ℕ)) → s ≡ Full
    → Does Rests (sitting s reading left taken text) (sitting s reading left taken text)
rests_does s reading left taken text full = record {
  turns = subst (λ a. Turns a Rests a) (sym full) refl;
  text = sym (followed_nothing text);
  others = None;
  typed = λ other. absurd (other full);
  left = λ other. absurd (other full);
  over = λ other again. absurd (other full);
  still = λ again. refl;
  reads = record { next = λ all h. h; counted = refl; limit = λ few. few };
}

shows_turn : (s : Sheet) (es : List Entry) → Turns s (Shows es) s
shows_turn Blank es = refl
shows_turn Open es = refl
shows_turn Full es = refl

pub shows_does : (es : List Entry) (s : Sheet) (reading : Reading) (left : Option (List ℕ)) (taken : ℕ) (old new : Option (List ℕ)) → new ≡ followed old (concat (prints_of es))
    → Does (Shows es) (sitting s reading left taken old) (sitting s reading left taken new)
shows_does es s reading left taken old new h = record {
  turns = shows_turn s es;
  text = h;
  others = lines_left reading left;
  typed = λ other. handed_none (lines_left reading left);
  left = λ other. same_left s (lines_left reading left) other;
  over = λ other full. absurd (other full);
  still = λ full. refl;
  reads = record { next = λ all h. h; counted = refl; limit = λ few. few };
}

-- a write, and want of memory, lose nothing that was read
pub written_loses : (reading : Reading) → LosesNone Write reading
written_loses reading (inl h) = absurd (let no : Write ≡ Read = h in cc)
written_loses reading (inr h) = absurd (let no : Write ≡ InputFull = h in cc)

opening_loses : (fault : LineFault) (reading : Reading) → (fault ≡ Write) ⊎ (fault ≡ OutOfMemory) → LosesNone fault reading
opening_loses fault reading (inl w) (inl h) = absurd (let no : Write ≡ Read = sym w ∙ h in cc)
opening_loses fault reading (inl w) (inr h) = absurd (let no : Write ≡ InputFull = sym w ∙ h in cc)
opening_loses fault reading (inr w) (inl h) = absurd (let no : OutOfMemory ≡ Read = sym w ∙ h in cc)
opening_loses fault reading (inr w) (inr h) = absurd (let no : OutOfMemory ≡ InputFull = sym w ∙ h in cc)

shows_break : (s : Sheet) (es : List Entry) → Breaks Write s (Showing es)
shows_break Blank es = refl
shows_break Open es = refl
shows_break Full es = refl

pub shows_fails : (es : List Entry) (s : Sheet) (reading : Reading) (left : Option (List ℕ)) (taken : ℕ) (old new : Option (List ℕ)) → WritesFront (concat (prints_of es)) old new
    → Fails Write (Showing es) (sitting s reading left taken old) (sitting s reading left taken new)
shows_fails es s reading left taken old new w = record {
  sheet = refl;
  breaks = shows_break s es;
  text = w;
  typed = λ other. handed_none (lines_left reading left);
  loses = written_loses reading;
  reads = record { next = λ all h. h; counted = refl; limit = λ few. few };
}

pub shows_broken : (fault : LineFault) (es : List Entry) (s : Sheet) (reading : Reading) (left : Option (List ℕ)) (taken : ℕ) (old new : Option (List ℕ)) (x : Sitting) (talk : List Talk)
    → HasTalked x (sitting s reading left taken old) talk → fault ≡ Write → WritesFront (concat (prints_of es)) old new
    → HasBroken x (sitting s reading left taken new) fault talk (Shown es ∷ [])
shows_broken fault es s reading left taken old new x talk t why w =
    talked_broken fault (Showing es) x (sitting s reading left taken old) (sitting s reading left taken new) talk t
    (subst (λ f. Fails f (Showing es) (sitting s reading left taken old) (sitting s reading left taken new)) (sym why) (shows_fails es s reading left taken old new w))

pub opening_fails : (fault : LineFault) (s : Sheet) (reading : Reading) (left : Option (List ℕ)) (taken : ℕ) (old new : Option (List ℕ)) → s ≡ Blank
    → (fault ≡ Write) ⊎ (fault ≡ OutOfMemory) → Wrote fault (commands Accumulator) old new
    → Fails fault Opening (sitting s reading left taken old) (sitting s reading left taken new)
opening_fails fault s reading left taken old new blank why w = record {
  sheet = refl;
  breaks = subst (λ a. Breaks fault a Opening) (sym blank) why;
  text = w;
  typed = λ other. handed_none (lines_left reading left);
  loses = opening_loses fault reading why;
  reads = record { next = λ all h. h; counted = refl; limit = λ few. few };
}

-- what is answered is what the deed says
pub said_by : (next : Option (List ℕ)) (deed : Deed) → IsAskedBy next deed → talk_of next ≡ talk_by deed ∷ []
said_by (Some text) (Takes longs line) h = ap (λ l. Handed l ∷ []) h
said_by (Some text) Opens h = absurd h
said_by (Some text) (Ends longs) h = absurd h
said_by (Some text) Rests h = absurd h
said_by (Some text) (Shows es) h = absurd h
said_by None (Ends longs) h = refl
said_by None Opens h = absurd h
said_by None (Takes longs line) h = absurd h
said_by None Rests h = absurd h
said_by None (Shows es) h = absurd h

-- nothing was handed out where the bytes that are left are the same
pub handed_same : (all left : Option (List (List ℕ))) → left ≡ all → HandsOut all left []
handed_same all left same = subst (λ o. HandsOut all o []) (sym same) (handed_none all)

-- the line that makes the accumulator was handed out
pub talked_opening : (line : List ℕ) (x y z : Sitting) (talk : List Talk) → HasTalked x y talk → Does Opens y z → line ≡ opening → HasTalked x z (talk ++ Handed line ∷ [])
talked_opening line x y z talk t d is = subst (λ l. HasTalked x z (talk ++ Handed l ∷ [])) (sym is) (talked_more Opens x y z talk t d)

-- what was asked for was answered
pub talked_next : (next : Option (List ℕ)) (deed : Deed) (x y z : Sitting) (talk : List Talk) → HasTalked x y talk → IsAskedBy next deed → Does deed y z
    → HasTalked x z (talk ++ talk_of next)
talked_next next deed x y z talk t asked d = subst (λ more. HasTalked x z (talk ++ more)) (sym (said_by next deed asked)) (talked_more deed x y z talk t d)
