-- The whole text of a session, by its deeds and by the blocks of its journal.
use Rattle.std.specs.Prelude.{IfSome, ◌<◌, ◌||◌, ◌⊎◌, length, if◌then◌else◌}
use Rattle.std.specs.List.{concat, flat_map, list_any, slice_split, AllByRecursion}
use Rattle.std.proofs.Common.{ℕ, Bool, true, false, List, [], ◌∷◌, ◌++◌, ◌≡◌, Option, Some, None, map, refl, sym, ap, ◌∙◌, subst, arith, append-nil, append_assoc, inl, inr}
use Rattle.std.proofs.lemmas.List.{map-append}
use Rattle.std.proofs.lemmas.List.Concat.{flat_map-append}
use Rattle.std.proofs.lemmas.List.Folds.{list_any-append}
use Rattle.hpx_journal.specs.Entries.{Rules}
use Rattle.hpx_journal.specs.Pool.{prints_of}
use Rattle.hpx_journal.specs.Sessions.{BeginsWith, FeedsNothing}
use Rattle.hpx_part.specs.Data.{Entry}
use Rattle.hpx_ports.specs.Told.{followed}
use Rattle.app_console.specs.Console.{prompt}
use Rattle.app_console.specs.Lines.{before_quit, is_long, is_newline, is_quit, lines_in, lines_of, opening}
use Rattle.app_console.specs.Text.{too_long}
use Rattle.hpx_member.specs.Serves.{IsIdleBehind, Block, IsBlock, entries_in, talk_in}
use Rattle.hpx_member.specs.Talks.{Handed, Over, Shown}
use Rattle.hpx_top.specs.Ends.{IsReadUp}
use Rattle.hpx_top.specs.Reader.{HasRead, Reading}
use Rattle.hpx_top.specs.Session.{HandsOut}
use Rattle.hpx_top.specs.Texts.{commands}
use Rattle.hpx_top.specs.declared.consoles.UserConsole.TheVariants.{Accumulator}
use Rattle.hpx_top.proofs.LineLemmas.{before_quit_append, told_rest}
use Rattle.hpx_process.specs.declared.sheet.Sheet.{Sheet}
use Rattle.hpx_process.specs.declared.sheet.Sheet.TheVariants.{Blank, Open, Full}
use Rattle.hpx_process.specs.Deeds.{AreLeft, AreLong, AreOver, Deed, Ends, HasTalked, IsQuitNext, Opens, Rests, Shows, Sitting, Takes, TurnsAll, lines_at, lines_by, longs_text, talk_by, text_by}
use Rattle.hpx_process.proofs.Talking.{turn_shown}
use Rattle.hpx_process.specs.Parts.{IsPart, IsPartBy, IsWhole, Part, part_text}

-- ---- lines that are too long

abbrev long_parts : List (List ℕ) → List Part
long_parts longs = map (λ line. record { line = line; entries = [] }) longs

long_lines : (longs : List (List ℕ)) → map (λ p. p.line) (long_parts longs) ≡ longs
long_lines [] = refl
long_lines (x ∷ xs) = ap (λ l. x ∷ l) (long_lines xs)

long_entries : (longs : List (List ℕ)) → flat_map (λ p. p.entries) (long_parts longs) ≡ []
long_entries [] = refl
long_entries (x ∷ xs) = long_entries xs

long_each : (longs : List (List ℕ)) → AreLong longs → AllByRecursion IsPart (long_parts longs)
long_each [] h = tt
long_each (x ∷ xs) h = (subst (λ b. IsPartBy b x []) (sym h.0) refl, long_each xs h.1)

long_texts : (longs : List (List ℕ)) → AreLong longs → longs_text longs ≡ flat_map part_text (long_parts longs)
long_texts [] h = refl
long_texts (x ∷ xs) h =
    ap (λ t. (prompt ++ too_long) ++ t) (long_texts xs h.1)
    ∙ ap (λ b. (prompt ++ (if b then too_long else [])) ++ flat_map part_text (long_parts xs)) (sym h.0)

-- ---- parts, one behind the other

each_append : (xs ys : List Part) → AllByRecursion IsPart xs → AllByRecursion IsPart ys → AllByRecursion IsPart (xs ++ ys)
each_append [] ys h g = g
each_append (x ∷ xs) ys h g = (h.0, each_append xs ys h.1 g)

-- deeds on an open sheet, of which the lines are over and then these entries were shown
pub record Parted (blocks : List Block) (rest : List Entry) (ds : List Deed) (end : Sheet) : Type 0 where
  pub parts : List Part
  pub lines : map (λ p. p.line) parts ≡ flat_map lines_by ds
  pub entries : flat_map (λ p. p.entries) parts ≡ entries_in blocks
  pub each : AllByRecursion IsPart parts
  pub texts : flat_map text_by ds ≡ flat_map part_text parts ++ (prompt ++ concat (prints_of rest))
  pub full : end ≡ Full

same_head : {T : Type 0} (x y : T) (xs ys : List T) → x ∷ xs ≡ y ∷ ys → (x ≡ y) × (xs ≡ ys)
same_head x y xs ys h = (cc, cc)

-- behind the last line entries are shown, and nothing else is done
shown_last : (rest : List Entry) (ds : List Deed) (end : Sheet) → Shown rest ∷ [] ≡ map talk_by ds → TurnsAll Full ds end → (ds ≡ Shows rest ∷ []) × (end ≡ Full)
shown_last rest [] end h t = absurd (let no : Shown rest ∷ [] ≡ [] = h in cc)
shown_last rest (Opens ∷ ds) end h t = absurd (let no : Shown rest ≡ Handed opening = (same_head _ _ _ _ h).0 in cc)
shown_last rest (Takes longs line ∷ ds) end h t = absurd (let no : Shown rest ≡ Handed (97 ∷ line) = (same_head _ _ _ _ h).0 in cc)
shown_last rest (Ends longs ∷ ds) end h t = absurd (let no : Shown rest ≡ Over = (same_head _ _ _ _ h).0 in cc)
shown_last rest (Rests ∷ ds) end h t = absurd (let no : Shown rest ≡ Over = (same_head _ _ _ _ h).0 in cc)
shown_last rest (Shows es ∷ d ∷ ds) end h t = absurd (let no : [] ≡ talk_by d ∷ map talk_by ds = (same_head _ _ _ _ h).1 in cc)
shown_last rest (Shows es ∷ []) end h t =
    let same : Shown rest ≡ Shown es = (same_head _ _ _ _ h).0 in
    let is : rest ≡ es = cc in
    (ap (λ e. Shows e ∷ []) (sym is), t.2 ∙ t.1)

regroup_end : (l p t : List ℕ) → (l ++ p) ++ (t ++ []) ≡ l ++ (p ++ t)
regroup_end l p t = simp (append_assoc, append-nil)

ended : (longs : List (List ℕ)) (rest : List Entry) (ds : List Deed) (mid end : Sheet) → Shown rest ∷ [] ≡ map talk_by ds → AreLong longs → mid ≡ Full → TurnsAll mid ds end
    → Parted [] rest (Ends longs ∷ ds) end
ended longs rest ds mid end h long full t =
    let last = shown_last rest ds end h (subst (λ s. TurnsAll s ds end) full t) in
    record {
      parts = long_parts longs;
      lines = long_lines longs ∙ (sym (append-nil longs) ∙ ap (λ l. longs ++ flat_map lines_by l) (sym last.0));
      entries = long_entries longs;
      each = long_each longs long;
      texts = ap (λ l. (longs_text longs ++ prompt) ++ flat_map text_by l) last.0
          ∙ (regroup_end (longs_text longs) prompt (concat (prints_of rest)) ∙ ap (λ t. t ++ (prompt ++ concat (prints_of rest))) (long_texts longs long));
      full = last.1;
    }

regroup_more : (l p t a b : List ℕ) → (l ++ p) ++ (t ++ (a ++ b)) ≡ (l ++ ((p ++ (t ++ [])) ++ a)) ++ b
regroup_more l p t a b = simp (append_assoc, append-nil)

-- one block more before parts
taken : (b : Block) (blocks : List Block) (rest : List Entry) (longs : List (List ℕ)) (line : List ℕ) (ds : List Deed) (end : Sheet)
    → b.line ≡ 97 ∷ line → IsBlock b → AreLong longs → is_long line ≡ false → Parted blocks rest ds end
    → Parted (b ∷ blocks) rest (Takes longs line ∷ Shows b.entries ∷ ds) end
taken b blocks rest longs line ds end is block long short more =
    let part : Part = record { line = line; entries = b.entries } in
    record {
      parts = long_parts longs ++ part ∷ more.parts;
      lines = map-append (λ p. p.line) (long_parts longs) (part ∷ more.parts)
          ∙ (ap (λ l. l ++ line ∷ map (λ p. p.line) more.parts) (long_lines longs)
          ∙ (ap (λ l. longs ++ line ∷ l) more.lines ∙ sym (append_assoc longs (line ∷ []) (flat_map lines_by ds))));
      entries = flat_map-append (λ p. p.entries) (long_parts longs) (part ∷ more.parts)
          ∙ (ap (λ l. l ++ (b.entries ++ flat_map (λ p. p.entries) more.parts)) (long_entries longs) ∙ ap (λ l. b.entries ++ l) more.entries);
      each = each_append (long_parts longs) (part ∷ more.parts) (long_each longs long)
          (subst (λ c. IsPartBy c line b.entries) (sym short) (subst (λ l. BeginsWith l b.entries) is block), more.each);
      texts = ap (λ t. (longs_text longs ++ prompt) ++ (concat (prints_of b.entries) ++ t)) more.texts
          ∙ (regroup_more (longs_text longs) prompt (concat (prints_of b.entries)) (flat_map part_text more.parts) (prompt ++ concat (prints_of rest))
          ∙ ap (λ t. t ++ (prompt ++ concat (prints_of rest)))
          (ap (λ t. t ++ ((prompt ++ (concat (prints_of b.entries) ++ [])) ++ flat_map part_text more.parts)) (long_texts longs long)
          ∙ (ap (λ c. flat_map part_text (long_parts longs) ++ ((prompt ++ (concat (prints_of b.entries) ++ (if c then too_long else []))) ++ flat_map part_text more.parts)) (sym short)
          ∙ sym (flat_map-append part_text (long_parts longs) (part ∷ more.parts)))));
      full = more.full;
    }

-- the deeds of blocks on an open sheet
pub parted : (blocks : List Block) (rest : List Entry) (ds : List Deed) (end : Sheet) → talk_in blocks ++ (Over ∷ (Shown rest ∷ [])) ≡ map talk_by ds → TurnsAll Open ds end
    → AllByRecursion IsBlock blocks → Parted blocks rest ds end
parted [] rest [] end h t all = absurd (let no : Over ∷ (Shown rest ∷ []) ≡ [] = h in cc)
parted [] rest (Opens ∷ ds) end h t all = absurd t.1
parted [] rest (Rests ∷ ds) end h t all = absurd t.1
parted [] rest (Takes longs line ∷ ds) end h t all = absurd (let no : Over ≡ Handed (97 ∷ line) = (same_head _ _ _ _ h).0 in cc)
parted [] rest (Shows es ∷ ds) end h t all = absurd (let no : Over ≡ Shown es = (same_head _ _ _ _ h).0 in cc)
parted [] rest (Ends longs ∷ ds) end h t all = ended longs rest ds t.0 end (same_head _ _ _ _ h).1 t.1.0 t.1.1 t.2
parted (b ∷ bs) rest [] end h t all = absurd (let no : Handed b.line ∷ (Shown b.entries ∷ (talk_in bs ++ (Over ∷ (Shown rest ∷ [])))) ≡ [] = h in cc)
parted (b ∷ bs) rest (Opens ∷ ds) end h t all = absurd t.1
parted (b ∷ bs) rest (Rests ∷ ds) end h t all = absurd t.1
parted (b ∷ bs) rest (Ends longs ∷ ds) end h t all = absurd (let no : Handed b.line ≡ Over = (same_head _ _ _ _ h).0 in cc)
parted (b ∷ bs) rest (Shows es ∷ ds) end h t all = absurd (let no : Handed b.line ≡ Shown es = (same_head _ _ _ _ h).0 in cc)
parted (b ∷ bs) rest (Takes longs line ∷ []) end h t all = absurd (let no : Shown b.entries ∷ (talk_in bs ++ (Over ∷ (Shown rest ∷ []))) ≡ [] = (same_head _ _ _ _ h).1 in cc)
parted (b ∷ bs) rest (Takes longs line ∷ Opens ∷ ds) end h t all = absurd (let no : Shown b.entries ≡ Handed opening = (same_head _ _ _ _ (same_head _ _ _ _ h).1).0 in cc)
parted (b ∷ bs) rest (Takes longs line ∷ Takes more other ∷ ds) end h t all = absurd (let no : Shown b.entries ≡ Handed (97 ∷ other) = (same_head _ _ _ _ (same_head _ _ _ _ h).1).0 in cc)
parted (b ∷ bs) rest (Takes longs line ∷ Ends more ∷ ds) end h t all = absurd (let no : Shown b.entries ≡ Over = (same_head _ _ _ _ (same_head _ _ _ _ h).1).0 in cc)
parted (b ∷ bs) rest (Takes longs line ∷ Rests ∷ ds) end h t all = absurd (let no : Shown b.entries ≡ Over = (same_head _ _ _ _ (same_head _ _ _ _ h).1).0 in cc)
parted (b ∷ bs) rest (Takes longs line ∷ Shows es ∷ ds) end h t all =
    let first = same_head _ _ _ _ h in
    let second = same_head _ _ _ _ first.1 in
    let line_is : b.line ≡ 97 ∷ line = (let e : Handed b.line ≡ Handed (97 ∷ line) = first.0 in cc) in
    let shown_is : b.entries ≡ es = (let e : Shown b.entries ≡ Shown es = second.0 in cc) in
    let sheet : t.2.0 ≡ Open = turn_shown t.0 t.2.0 es t.2.1 ∙ t.1.2 in
    let more = parted bs rest ds end second.1 (subst (λ s. TurnsAll s ds end) sheet t.2.2) all.1 in
    subst (λ e. Parted (b ∷ bs) rest (Takes longs line ∷ Shows e ∷ ds) end) shown_is (taken b bs rest longs line ds end line_is all.0 t.1.0 t.1.1 more)

-- ---- the whole

-- behind the deed that opens the sheet
pub record Begun (blocks : List Block) (rest : List Entry) (ds : List Deed) (end : Sheet) : Type 0 where
  pub first : List Entry
  pub later : List Block
  pub deeds : List Deed
  pub opened : BeginsWith opening first
  pub entries : entries_in blocks ≡ first ++ entries_in later
  pub is : ds ≡ Opens ∷ Shows first ∷ deeds
  pub parts : Parted later rest deeds end

pub begun : (blocks : List Block) (rest : List Entry) (ds : List Deed) (end : Sheet) → talk_in blocks ++ (Over ∷ (Shown rest ∷ [])) ≡ map talk_by ds → TurnsAll Blank ds end
    → AllByRecursion IsBlock blocks → Begun blocks rest ds end
begun [] rest [] end h t all = absurd (let no : Over ∷ (Shown rest ∷ []) ≡ [] = h in cc)
begun [] rest (Opens ∷ ds) end h t all = absurd (let no : Over ≡ Handed opening = (same_head _ _ _ _ h).0 in cc)
begun [] rest (Takes longs line ∷ ds) end h t all = absurd t.1
begun [] rest (Ends longs ∷ ds) end h t all = absurd t.1
begun [] rest (Rests ∷ ds) end h t all = absurd t.1
begun [] rest (Shows es ∷ ds) end h t all = absurd (let no : Over ≡ Shown es = (same_head _ _ _ _ h).0 in cc)
begun (b ∷ bs) rest [] end h t all = absurd (let no : Handed b.line ∷ (Shown b.entries ∷ (talk_in bs ++ (Over ∷ (Shown rest ∷ [])))) ≡ [] = h in cc)
begun (b ∷ bs) rest (Takes longs line ∷ ds) end h t all = absurd t.1
begun (b ∷ bs) rest (Ends longs ∷ ds) end h t all = absurd t.1
begun (b ∷ bs) rest (Rests ∷ ds) end h t all = absurd t.1
begun (b ∷ bs) rest (Shows es ∷ ds) end h t all = absurd (let no : Handed b.line ≡ Shown es = (same_head _ _ _ _ h).0 in cc)
begun (b ∷ bs) rest (Opens ∷ []) end h t all = absurd (let no : Shown b.entries ∷ (talk_in bs ++ (Over ∷ (Shown rest ∷ []))) ≡ [] = (same_head _ _ _ _ h).1 in cc)
begun (b ∷ bs) rest (Opens ∷ Opens ∷ ds) end h t all = absurd (let no : Shown b.entries ≡ Handed opening = (same_head _ _ _ _ (same_head _ _ _ _ h).1).0 in cc)
begun (b ∷ bs) rest (Opens ∷ Takes more other ∷ ds) end h t all = absurd (let no : Shown b.entries ≡ Handed (97 ∷ other) = (same_head _ _ _ _ (same_head _ _ _ _ h).1).0 in cc)
begun (b ∷ bs) rest (Opens ∷ Ends more ∷ ds) end h t all = absurd (let no : Shown b.entries ≡ Over = (same_head _ _ _ _ (same_head _ _ _ _ h).1).0 in cc)
begun (b ∷ bs) rest (Opens ∷ Rests ∷ ds) end h t all = absurd (let no : Shown b.entries ≡ Over = (same_head _ _ _ _ (same_head _ _ _ _ h).1).0 in cc)
begun (b ∷ bs) rest (Opens ∷ Shows es ∷ ds) end h t all =
    let first = same_head _ _ _ _ h in
    let second = same_head _ _ _ _ first.1 in
    let line_is : b.line ≡ opening = (let e : Handed b.line ≡ Handed opening = first.0 in cc) in
    let shown_is : b.entries ≡ es = (let e : Shown b.entries ≡ Shown es = second.0 in cc) in
    record {
      first = b.entries;
      later = bs;
      deeds = ds;
      opened = subst (λ l. BeginsWith l b.entries) line_is all.0;
      entries = refl;
      is = ap (λ e. Opens ∷ Shows e ∷ ds) (sym shown_is);
      parts = parted bs rest ds end second.1 (subst (λ s. TurnsAll s ds end) (turn_shown t.0 t.2.0 es t.2.1 ∙ t.1) t.2.2) all.1;
    }

-- the lines that were typed up to the end of the input, or to a quit
typed_all : (input : List ℕ) (all others : Option (List (List ℕ))) (lines : List (List ℕ)) → all ≡ Some (lines_in (slice_split is_newline input)) → HandsOut all others lines
    → IfSome others (λ o. before_quit o ≡ []) → lines ≡ lines_of input
typed_all input all others lines is h last =
    let rest = told_rest (lines_in (slice_split is_newline input)) lines others (sym is ∙ h.first) in
    let none : before_quit rest.0 ≡ [] = subst (λ o. IfSome o (λ o. before_quit o ≡ [])) rest.1 last in
    sym (append-nil lines) ∙ (ap (λ l. lines ++ l) (sym none) ∙ (sym (before_quit_append lines rest.0 h.goes_on) ∙ ap before_quit (sym rest.2)))

pub whole : (r : Rules) (input : List ℕ) (blocks : List Block) (rest es : List Entry) (x z : Sitting) → x.sheet ≡ Blank → x.reading ≡ record { pending = []; read = 0; ended = false } → x.left ≡ Some input
    → es ≡ entries_in blocks ++ rest → IsIdleBehind r (entries_in blocks) → AllByRecursion IsBlock blocks → AllByRecursion (λ e. FeedsNothing e.event) rest
    → HasTalked x z (talk_in blocks ++ (Over ∷ (Shown rest ∷ []))) → IsWhole r input es x.text z.text
whole r input blocks rest es x z blank fresh left is idle all unfed talked =
    let b = begun blocks rest talked.deeds z.sheet talked.said (subst (λ s. TurnsAll s talked.deeds z.sheet) blank talked.turns) all in
    let p = b.parts in
    let input_is : lines_at x ≡ Some (lines_in (slice_split is_newline input)) = rw (fresh, left) refl in
    let others : IfSome talked.others (λ o. before_quit o ≡ []) = subst (λ s. AreLeft s talked.others (lines_at z)) p.full talked.left in
    record {
      first = b.first;
      parts = p.parts;
      later = rest;
      lines = p.lines ∙ (ap (λ d. flat_map lines_by d) (sym b.is) ∙ typed_all input (lines_at x) talked.others (flat_map lines_by talked.deeds) input_is talked.typed others);
      is = is ∙ (ap (λ l. l ++ rest) b.entries ∙ (append_assoc b.first (entries_in b.later) rest ∙ ap (λ l. b.first ++ (l ++ rest)) (sym p.entries)));
      idle = subst (IsIdleBehind r) (b.entries ∙ ap (λ l. b.first ++ l) (sym p.entries)) idle;
      opened = b.opened;
      each = p.each;
      unfed = unfed;
      text = talked.text ∙ ap (followed x.text) (ap (λ d. flat_map text_by d) b.is ∙ ap (λ t. commands Accumulator ++ (concat (prints_of b.first) ++ t)) p.texts);
    }

-- ---- where it was read up to

quit_in : (lines rest : List (List ℕ)) → IsQuitNext rest → list_any is_quit (lines ++ rest) ≡ true
quit_in lines [] h = absurd h
quit_in lines (line ∷ rest) h = list_any-append is_quit lines (line ∷ rest) ∙ (ap (λ b. list_any is_quit lines || (b || list_any is_quit rest)) h ∙ or_true (list_any is_quit lines))
  where
    or_true : (b : Bool) → b || true ≡ true
    or_true true = refl
    or_true false = refl

-- a reader that has met the end has read all
read_all : (input : List ℕ) (all left : Option (List ℕ)) (reading : Reading) → all ≡ Some input → HasRead all reading left → reading.ended ≡ true → (left ≡ Some []) × (length input < 67108864)
read_all input all None reading is h ended = absurd (let no : Some input ≡ None = sym is ∙ h.next in cc)
read_all input all (Some rest) reading is h ended =
    let none : rest ≡ [] = h.at_end ended in
    let same : Some input ≡ Some (h.front ++ rest) = sym is ∙ h.next in
    let front : input ≡ h.front ++ rest = (let e = same in cc) in
    let count : length input ≡ reading.read = ap length front ∙ (ap (λ r. length (h.front ++ r)) none ∙ (ap length (append-nil h.front) ∙ h.count)) in
    let below = h.below ended in
    (ap Some none, omega (arith, count, below))

pub read_up : (r : Rules) (input : List ℕ) (blocks : List Block) (rest : List Entry) (x z : Sitting) → x.sheet ≡ Blank → x.reading ≡ record { pending = []; read = 0; ended = false } → x.left ≡ Some input
    → AllByRecursion IsBlock blocks → HasRead x.left x.reading x.left → HasTalked x z (talk_in blocks ++ (Over ∷ (Shown rest ∷ []))) → IsReadUp input z.left
read_up r input blocks rest x z blank fresh left all first talked =
    let b = begun blocks rest talked.deeds z.sheet talked.said (subst (λ s. TurnsAll s talked.deeds z.sheet) blank talked.turns) all in
    by (talked.over b.parts.full)
  where
    input_is : lines_at x ≡ Some (lines_in (slice_split is_newline input))
    input_is = rw (fresh, left) refl

    by : AreOver talked.others z.reading → IsReadUp input z.left
    by (inl quit) =
        let told = told_rest (lines_in (slice_split is_newline input)) (flat_map lines_by talked.deeds) talked.others (sym input_is ∙ talked.typed.first) in
        inl (ap (list_any is_quit) told.2 ∙ quit_in (flat_map lines_by talked.deeds) told.0 (subst (λ o. IfSome o IsQuitNext) told.1 quit))
    by (inr ended) = inr (read_all input x.left z.left z.reading left (talked.reads.next x.left first) ended)
