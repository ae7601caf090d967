-- Prompt after prompt.
use Rattle.std.specs.Prelude.{◌||◌, ◌⊎◌, IfSome}
use Rattle.std.proofs.Common.{ℕ, true, false, List, [], ◌∷◌, ◌++◌, ◌≡◌, Option, Some, None, refl, sym, ap, ◌∙◌, subst, append-nil, append_assoc, inl, inr}
use Rattle.std.proofs.lemmas.List.Concat.{flat_map-append}
use Rattle.hpx_ports.specs.Told.{followed, preceded}
use Rattle.app_console.specs.Console.{prompt}
use Rattle.app_console.specs.Lines.{is_long, before_quit}
use Rattle.app_console.specs.Text.{too_long}
use Rattle.hpx_member.specs.declared.lines.LineFault.{LineFault}
use Rattle.hpx_member.specs.declared.lines.LineFault.TheVariants.{Read, Write, OutOfMemory, InputFull}
use Rattle.hpx_top.specs.Reader.{TakesLine, TakesLong, TakesQuit}
use Rattle.hpx_top.specs.Session.{HandsOut, WritesFront}
use Rattle.hpx_top.proofs.LineLemmas.{followed_nothing, followed_twice, long_goes_on}
use Rattle.hpx_process.specs.declared.sheet.Sheet.{Sheet}
use Rattle.hpx_process.specs.declared.sheet.Sheet.TheVariants.{Open, Full}
use Rattle.hpx_process.specs.Asked.{HasTyped, TypesLine, TypesLong, TypesNone}
use Rattle.hpx_process.specs.Deeds.{AreLong, AreOver, Asking, Breaks, Does, Ends, Fails, IsQuitNext, LosesNone, MayLose, Reads, Sitting, Takes, Wrote, lines_at, longs_text, sitting}
use Rattle.hpx_top.specs.Reader.{Reading}
use Rattle.hpx_process.proofs.Talking.{handed_more, handed_none, reads_more, reads_none, written_loses}

-- ---- what is typed

pub one_line : (line : List ℕ) (all left : Option (List (List ℕ))) → TakesLine line all left → HandsOut all left (line ∷ [])
one_line line all left t = record { first = t.first; goes_on = ap (λ b. b || false) t.goes_on }

pub one_long : (all left : Option (List (List ℕ))) (t : TakesLong all left) → HandsOut all left (t.line ∷ [])
one_long all left t = record { first = t.first; goes_on = ap (λ b. b || false) (long_goes_on t.line t.long) }

pub none_by_quit : (all left : Option (List (List ℕ))) → TakesQuit all left → IfSome all (λ lines. before_quit lines ≡ [])
none_by_quit all left t = subst (λ o. IfSome o (λ lines. before_quit lines ≡ [])) (sym t.first) (by_left left)
  where
    by_left : (o : Option (List (List ℕ))) → IfSome (preceded (t.line ∷ []) o) (λ lines. before_quit lines ≡ [])
    by_left None = tt
    by_left (Some lines) = rw t.quit refl

pub none_at_end : (all : Option (List (List ℕ))) → IfSome all (λ lines. lines ≡ []) → IfSome all (λ lines. before_quit lines ≡ [])
none_at_end None h = tt
none_at_end (Some lines) h = ap before_quit h

pub over_by_quit : (all left : Option (List (List ℕ))) (reading : Reading) → TakesQuit all left → AreOver all reading
over_by_quit all left reading t = inl (subst (λ o. IfSome o IsQuitNext) (sym t.first) (by_left left))
  where
    by_left : (o : Option (List (List ℕ))) → IfSome (preceded (t.line ∷ []) o) IsQuitNext
    by_left None = tt
    by_left (Some lines) = t.quit

-- want of memory is neither a failed read nor a full input
pub memory_apart : (OutOfMemory ≡ Read) ⊎ (OutOfMemory ≡ InputFull) → ⊥
memory_apart (inl h) = let no : OutOfMemory ≡ Read = h in cc
memory_apart (inr h) = let no : OutOfMemory ≡ InputFull = h in cc

-- ---- one line more

pub typed_none : (x : Sitting) → HasTyped [] x x
typed_none x = record { long = tt; sheet = refl; typed = handed_none (lines_at x); written = sym (followed_nothing x.text); reads = reads_none x }

all_more : (longs : List (List ℕ)) (line : List ℕ) → AreLong longs → is_long line ≡ true → AreLong (longs ++ line ∷ [])
all_more [] line h long = (long, tt)
all_more (x ∷ xs) line h long = (h.0, all_more xs line h.1 long)

longs_more : (longs : List (List ℕ)) (line : List ℕ) → longs_text longs ++ (prompt ++ too_long) ≡ longs_text (longs ++ line ∷ [])
longs_more longs line = sym (flat_map-append (λ line. prompt ++ too_long) longs (line ∷ []) ∙ ap (λ t. longs_text longs ++ t) (append-nil (prompt ++ too_long)))

pub typed_more : (longs : List (List ℕ)) (x y z : Sitting) → HasTyped longs x y → (t : TypesLong y z) → z.sheet ≡ y.sheet → Reads y z → HasTyped (longs ++ t.line ∷ []) x z
typed_more longs x y z h t sheet reads = record {
  long = all_more longs t.line h.long t.long;
  sheet = sheet ∙ h.sheet;
  typed = handed_more (lines_at x) (lines_at y) (lines_at z) longs (t.line ∷ []) h.typed t.typed;
  written = t.written ∙ (ap (λ o. followed o (prompt ++ too_long)) h.written ∙ (followed_twice x.text (longs_text longs) (prompt ++ too_long) ∙ ap (followed x.text) (longs_more longs t.line)));
  reads = reads_more x y z h.reads reads;
}

with_prompt : (longs : List (List ℕ)) (x y z : Sitting) → HasTyped longs x y → z.text ≡ followed y.text prompt → z.text ≡ followed x.text (longs_text longs ++ prompt)
with_prompt longs x y z h written = written ∙ (ap (λ o. followed o prompt) h.written ∙ followed_twice x.text (longs_text longs) prompt)

pub takes_line : (text : List ℕ) (longs : List (List ℕ)) (x y z : Sitting) → x.sheet ≡ Open → HasTyped longs x y → (t : TypesLine text y z) → z.sheet ≡ y.sheet → Reads y z
    → Does (Takes longs t.line) x z
takes_line text longs x y z at_open h t sheet reads =
    let opens : z.sheet ≡ Open = sheet ∙ (h.sheet ∙ at_open) in
    record {
      turns = rw at_open (h.long, t.fits, opens);
      text = with_prompt longs x y z h t.written;
      others = lines_at z;
      typed = λ other. handed_more (lines_at x) (lines_at y) (lines_at z) longs (t.line ∷ []) h.typed t.typed;
      left = λ other. rw opens refl;
      over = λ other full. absurd (let no : Open ≡ Full = sym opens ∙ full in cc);
      still = λ full. absurd (let no : Open ≡ Full = sym at_open ∙ full in cc);
      reads = reads_more x y z h.reads reads;
    }

pub ends_lines : (longs : List (List ℕ)) (x y z : Sitting) → x.sheet ≡ Open → HasTyped longs x y → TypesNone y z → z.sheet ≡ Full → Reads y z → Does (Ends longs) x z
ends_lines longs x y z at_open h t full reads = record {
  turns = rw at_open (h.long, full);
  text = with_prompt longs x y z h t.written;
  others = lines_at y;
  typed = λ other. h.typed;
  left = λ other. rw full t.last;
  over = λ other again. t.over;
  still = λ again. absurd (let no : Open ≡ Full = sym at_open ∙ again in cc);
  reads = reads_more x y z h.reads reads;
}

-- ---- a prompt that is broken off

all_append : (xs ys : List (List ℕ)) → AreLong xs → AreLong ys → AreLong (xs ++ ys)
all_append [] ys h g = g
all_append (x ∷ xs) ys h g = (h.0, all_append xs ys h.1 g)

wrote_behind : (fault : LineFault) (a b c : List ℕ) (x y z : Option (List ℕ)) → a ++ b ≡ c → y ≡ followed x a → Wrote fault b y z → Wrote fault c x z
wrote_behind Write a b c x y z is held w = record {
  front = a ++ w.front;
  begins = record { later = w.begins.later; is = append_assoc a w.front w.begins.later ∙ (ap (λ t. a ++ t) w.begins.is ∙ is) };
  held = w.held ∙ (ap (λ o. followed o w.front) held ∙ followed_twice x a w.front);
}
wrote_behind Read a b c x y z is held w = w ∙ (ap (λ o. followed o b) held ∙ (followed_twice x a b ∙ ap (followed x) is))
wrote_behind OutOfMemory a b c x y z is held w = w ∙ (ap (λ o. followed o b) held ∙ (followed_twice x a b ∙ ap (followed x) is))
wrote_behind InputFull a b c x y z is held w = w ∙ (ap (λ o. followed o b) held ∙ (followed_twice x a b ∙ ap (followed x) is))

texts_append : (xs ys : List (List ℕ)) → longs_text xs ++ (longs_text ys ++ prompt) ≡ longs_text (xs ++ ys) ++ prompt
texts_append xs ys = sym (append_assoc (longs_text xs) (longs_text ys) prompt) ∙ ap (λ t. t ++ prompt) (sym (flat_map-append (λ line. prompt ++ too_long) xs ys))

open_breaks : (fault : LineFault) (s : Sheet) (longs lost : List (List ℕ)) → s ≡ Open → Breaks fault s (Asking longs lost) → AreLong longs × MayLose fault lost
open_breaks fault s longs lost at_open h = subst (λ s. Breaks fault s (Asking longs lost)) at_open h

pub asking_fails : (fault : LineFault) (longs more lost : List (List ℕ)) (x y z : Sitting) → x.sheet ≡ Open → HasTyped longs x y → Fails fault (Asking more lost) y z
    → Fails fault (Asking (longs ++ more) lost) x z
asking_fails fault longs more lost x y z at_open h f =
    let parts = open_breaks fault y.sheet more lost (h.sheet ∙ at_open) f.breaks in
    record {
      sheet = f.sheet ∙ h.sheet;
      breaks = rw at_open (all_append longs more h.long parts.0, parts.1);
      text = wrote_behind fault (longs_text longs) (longs_text more ++ prompt) (longs_text (longs ++ more) ++ prompt) x.text y.text z.text (texts_append longs more) h.written f.text;
      typed = λ other. subst (HandsOut (lines_at x) (lines_at z)) (sym (append_assoc longs more lost))
          (handed_more (lines_at x) (lines_at y) (lines_at z) longs (more ++ lost) h.typed (f.typed (λ full. other (sym h.sheet ∙ full))));
      loses = f.loses;
      reads = reads_more x y z h.reads f.reads;
    }

-- behind a prompt, or where it was to be written
pub prompt_fails : (fault : LineFault) (lost : List (List ℕ)) (x z : Sitting) → x.sheet ≡ Open → z.sheet ≡ x.sheet → MayLose fault lost → Wrote fault prompt x.text z.text
    → HandsOut (lines_at x) (lines_at z) lost → LosesNone fault z.reading → Reads x z → Fails fault (Asking [] lost) x z
prompt_fails fault lost x z at_open sheet may text typed loses reads = record {
  sheet = sheet;
  breaks = rw at_open (tt, may);
  text = text;
  typed = λ other. typed;
  loses = loses;
  reads = reads;
}

-- the error for a line that is too long was to be written
pub error_fails : (line : List ℕ) (x z : Sitting) (mid : Option (List ℕ)) → x.sheet ≡ Open → z.sheet ≡ x.sheet → is_long line ≡ true → mid ≡ followed x.text prompt
    → WritesFront too_long mid z.text → HandsOut (lines_at x) (lines_at z) (line ∷ []) → Reads x z → Fails Write (Asking (line ∷ []) []) x z
error_fails line x z mid at_open sheet long written w typed reads = record {
  sheet = sheet;
  breaks = rw at_open ((long, tt), refl);
  text = record {
    front = prompt ++ w.front;
    begins = record {
      later = w.begins.later ++ prompt;
      is = regroup prompt w.front w.begins.later prompt ∙ (ap (λ t. (prompt ++ t) ++ prompt) w.begins.is ∙ ap (λ t. t ++ prompt) (sym (append-nil (prompt ++ too_long))));
    };
    held = w.held ∙ (ap (λ o. followed o w.front) written ∙ followed_twice x.text prompt w.front);
  };
  typed = λ other. typed;
  loses = written_loses z.reading;
  reads = reads;
}
  where
    regroup : (a b c d : List ℕ) → (a ++ b) ++ (c ++ d) ≡ (a ++ (b ++ c)) ++ d
    regroup a b c d = simp append_assoc

-- a write that failed, of a prompt or of the error
pub prompt_unwritten : (fault : LineFault) (s : Sheet) (reading : Reading) (left : Option (List ℕ)) (taken : ℕ) (old new : Option (List ℕ)) → s ≡ Open → fault ≡ Write
    → WritesFront prompt old new → (longs lost : List (List ℕ)) × Fails fault (Asking longs lost) (sitting s reading left taken old) (sitting s reading left taken new)
prompt_unwritten fault s reading left taken old new at_open why w =
    let x = sitting s reading left taken old in
    let z = sitting s reading left taken new in (
      [],
      [],
      subst (λ f. Fails f (Asking [] []) x z) (sym why)
          (prompt_fails Write [] x z at_open refl refl w (handed_none (lines_at x)) (written_loses reading) (record { next = λ all h. h; counted = refl; limit = λ few. few })),
    )

pub error_unwritten : (fault : LineFault) (line : List ℕ) (x z : Sitting) (mid : Option (List ℕ)) → x.sheet ≡ Open → z.sheet ≡ x.sheet → fault ≡ Write → is_long line ≡ true
    → mid ≡ followed x.text prompt → WritesFront too_long mid z.text → HandsOut (lines_at x) (lines_at z) (line ∷ []) → Reads x z
    → (longs lost : List (List ℕ)) × Fails fault (Asking longs lost) x z
error_unwritten fault line x z mid at_open sheet why long written w typed reads =
    (line ∷ [], [], subst (λ f. Fails f (Asking (line ∷ []) []) x z) (sym why) (error_fails line x z mid at_open sheet long written w typed reads))
