-- What a console left at its desk, and by its slip.
use Rattle.std.specs.Prelude.{IfSome, option_map, ◌+◌, ◌≤◌, ◌⊎◌, ◌==◌}
use Rattle.std.specs.List.{concat, AllByRecursion}
use Rattle.std.proofs.Common.{ℕ, Bool, true, false, List, [], ◌∷◌, ◌++◌, ◌≡◌, Option, Some, None, map, refl, sym, ap, ◌∙◌, subst, arith, append-nil, append_assoc, inl, inr}
use Rattle.std.proofs.lemmas.Bool.{eqb-true}
use Rattle.std.proofs.lemmas.List.Concat.{flat_map-append}
use Rattle.hpx_journal.specs.Entries.{Rules}
use Rattle.hpx_journal.specs.Pool.{prints_of}
use Rattle.hpx_part.specs.Data.{Entry}
use Rattle.hpx_ports.specs.Told.{followed}
use Rattle.hpx_tables.specs.Tables.{Tables}
use Rattle.hpx_value.specs.declared.profile.Profile.{Profile}
use Rattle.app_console.specs.Lines.{IsPiece}
use Rattle.hpx_member.specs.Leads.{HasLineCause, HasLineToFeed, HasServed, IsNotOfLines, status_of_lines}
use Rattle.hpx_member.specs.Serves.{Asking, Block, Closing, Done, Feeding, Given, IsAt, IsBlock, Serves, Stage, entries_in, talk_at, talk_in, tried_at}
use Rattle.hpx_member.specs.Talks.{Only, Talk, Handed, Over, Shown}
use Rattle.hpx_member.specs.declared.lines.LineFault.{LineFault}
use Rattle.hpx_member.specs.declared.lines.LineFault.TheVariants.{Read, Write, OutOfMemory, InputFull}
use Rattle.hpx_top.specs.Ends.{IsReadFrom, IsReadUp}
use Rattle.hpx_top.specs.Reader.{Reading}
use Rattle.hpx_top.specs.Session.{WritesFront, lines_fed}
use Rattle.hpx_top.proofs.EndLemmas.{read_from, read_none}
use Rattle.hpx_top.proofs.LineLemmas.{block_line, followed_nothing, followed_twice, lines_fed_append, none_fed}
use Rattle.hpx_process.specs.declared.sheet.Sheet.TheVariants.{Blank}
use Rattle.hpx_top.specs.Runs.{Ports, ports_of}
use Rattle.hpx_process.specs.declared.sheet.Sheet.{Sheet}
use Rattle.hpx_process.specs.Deeds.{HasBroken, HasTalked, Reads, Sitting, Wrote, sitting}
use Rattle.hpx_process.specs.Members.{HasMembersCause, HasReckoned, HasSat, IsConsole, IsDue, Left}
use Rattle.hpx_process.specs.Parts.{IsWhole}
use Rattle.hpx_process.specs.Slips.{HasPassed, HasStuck, IfOver, Note, note, handed_by, handed_in, shown_by, shown_in, unasked}
use Rattle.hpx_process.proofs.Passing.{prints_append}
use Rattle.hpx_process.proofs.Texts.{read_up, whole}

-- ---- what holds of all that is said

abbrev serves_as : {r : Rules} {es : List Entry} {stage : Stage} (Said Said' : List Talk → List Talk → Type 0) → ((a b : List Talk) → Said a b → Said' a b)
    → Serves r es Said stage → Serves r es Said' stage
serves_as Said Said' f s =
    record { blocks = s.blocks; rest = s.rest; begin = s.begin; is = s.is; at = s.at; feeds = s.feeds; idle = s.idle; talk = f _ _ s.talk }

pub served_as : (r : Rules) (status : ℕ) (es : List Entry) (W W' : List Talk → Type 0) (B B' : LineFault → List Talk → List Talk → Type 0)
    → ((talk : List Talk) → W talk → W' talk) → ((fault : LineFault) (talk tried : List Talk) → B fault talk tried → B' fault talk tried)
    → HasServed r status es W B → HasServed r status es W' B'
served_as r status es W W' B B' f g s = record { stage = s.stage; serves = by s.serves; done = s.done }
  where
    by : (IsNotOfLines status × Serves r es (Only W) s.stage) ⊎ ((fault : LineFault) × (status ≡ status_of_lines fault) × Serves r es (B fault) s.stage)
        → (IsNotOfLines status × Serves r es (Only W') s.stage) ⊎ ((fault : LineFault) × (status ≡ status_of_lines fault) × Serves r es (B' fault) s.stage)
    by (inl h) = inl (h.0, serves_as (Only W) (Only W') (λ a b. f a) h.1)
    by (inr h) = inr (h.0, h.1, serves_as (B h.0) (B' h.0) (g h.0) h.2)

if_mapped : {A B : Type 0} (f : A → B) (o : Option A) (P : B → Type 0) → IfSome o (λ a. P (f a)) → IfSome (option_map f o) P
if_mapped f None P h = tt
if_mapped f (Some a) P h = h

pub due_as : {A : Type 0} (r : Rules) (es : List Entry) (W W' : List Talk → Type 0) (f : A → Tables) (o : Option A) (P : Tables → Type 0) → ((talk : List Talk) → W talk → W' talk)
    → HasLineToFeed r es W ⊎ IfSome o (λ a. P (f a)) → HasLineToFeed r es W' ⊎ IfSome (option_map f o) P
due_as r es W W' f o P g (inl h) = inl (h.0, serves_as (Only W) (Only W') (λ a b. g a) h.1)
due_as r es W W' f o P g (inr h) = inr (if_mapped f o P h)

pub served_fact : (r : Rules) (status : ℕ) (es : List Entry) (W : List Talk → Type 0) (B : LineFault → List Talk → List Talk → Type 0) (P : Type 0)
    → ((talk : List Talk) → W talk → P) → ((fault : LineFault) (talk tried : List Talk) → B fault talk tried → P) → HasServed r status es W B → P
served_fact r status es W B P f g s = by s.serves
  where
    by : (IsNotOfLines status × Serves r es (Only W) s.stage) ⊎ ((fault : LineFault) × (status ≡ status_of_lines fault) × Serves r es (B fault) s.stage) → P
    by (inl h) = f _ h.1.talk
    by (inr h) = g h.0 _ _ h.2.talk

no_fault : (fault : LineFault) → 0 ≡ status_of_lines fault → ⊥
no_fault Read h = cc
no_fault Write h = cc
no_fault OutOfMemory h = cc
no_fault InputFull h = cc

-- where it ended well, all was said
pub served_done : (r : Rules) (es : List Entry) (W : List Talk → Type 0) (B : LineFault → List Talk → List Talk → Type 0) → HasServed r 0 es W B → Serves r es (Only W) Done
served_done r es W B s = by s.serves
  where
    by : (IsNotOfLines 0 × Serves r es (Only W) s.stage) ⊎ ((fault : LineFault) × (0 ≡ status_of_lines fault) × Serves r es (B fault) s.stage) → Serves r es (Only W) Done
    by (inl h) = subst (Serves r es (Only W)) (s.done refl) h.1
    by (inr h) = absurd (no_fault h.0 h.1)

-- ---- at a desk

pub sat_whole : (r : Rules) (status : ℕ) (es : List Entry) (input : List ℕ) (x z : Sitting) → x.sheet ≡ Blank → x.reading ≡ record { pending = []; read = 0; ended = false } → x.left ≡ Some input
    → status ≡ 0 → HasServed r status es (HasTalked x z) (HasBroken x z) → IsWhole r input es x.text z.text
sat_whole r status es input x z blank fresh left well served =
    let s = served_done r es (HasTalked x z) (HasBroken x z) (subst (λ n. HasServed r n es (HasTalked x z) (HasBroken x z)) well served) in
    whole r input s.blocks s.rest es x z blank fresh left s.is s.idle s.begin s.at s.talk

pub sat_read_up : (r : Rules) (status : ℕ) (es : List Entry) (input : List ℕ) (x z : Sitting) → x.sheet ≡ Blank → x.reading ≡ record { pending = []; read = 0; ended = false } → x.left ≡ Some input
    → status ≡ 0 → HasServed r status es (HasTalked x z) (HasBroken x z) → IsReadUp input z.left
sat_read_up r status es input x z blank fresh left well served =
    let s = served_done r es (HasTalked x z) (HasBroken x z) (subst (λ n. HasServed r n es (HasTalked x z) (HasBroken x z)) well served) in
    read_up r input s.blocks s.rest x z blank fresh left s.begin (read_none x.left x.reading fresh) s.talk

pub sat_reads : (r : Rules) (status : ℕ) (es : List Entry) (x z : Sitting) → HasServed r status es (HasTalked x z) (HasBroken x z) → Reads x z
sat_reads r status es x z served = served_fact r status es (HasTalked x z) (HasBroken x z) (Reads x z) (λ talk h. h.reads) (λ fault talk tried h. h.reads) served

-- at 2 and 9 no whole line that was read is left
fault_of_two : (status : ℕ) (fault : LineFault) → status ≡ status_of_lines fault → (status ≡ 2) ⊎ (status ≡ 9) → (fault ≡ Read) ⊎ (fault ≡ InputFull)
fault_of_two status Read is w = inl refl
fault_of_two status InputFull is w = inr refl
fault_of_two status Write is (inl e) = absurd (omega (arith, is, e))
fault_of_two status Write is (inr e) = absurd (omega (arith, is, e))
fault_of_two status OutOfMemory is (inl e) = absurd (omega (arith, is, e))
fault_of_two status OutOfMemory is (inr e) = absurd (omega (arith, is, e))

not_of_two : (status : ℕ) → IsNotOfLines status → (status ≡ 2) ⊎ (status ≡ 9) → ⊥
not_of_two status h (inl e) = h.0 e
not_of_two status h (inr e) = h.2 e

pub sat_between : (r : Rules) (status : ℕ) (es : List Entry) (x z : Sitting) → HasServed r status es (HasTalked x z) (HasBroken x z) → (status ≡ 2) ⊎ (status ≡ 9) → IsPiece z.reading.pending
sat_between r status es x z s which = by s.serves
  where
    by : (IsNotOfLines status × Serves r es (Only (HasTalked x z)) s.stage) ⊎ ((fault : LineFault) × (status ≡ status_of_lines fault) × Serves r es (HasBroken x z fault) s.stage)
        → IsPiece z.reading.pending
    by (inl h) = absurd (not_of_two status h.0 which)
    by (inr h) = h.2.talk.loses (fault_of_two status h.0 h.1 which)

pub sat_read_from : (input : List ℕ) (x z : Sitting) → x.reading ≡ record { pending = []; read = 0; ended = false } → x.left ≡ Some input → Reads x z → IsReadFrom input z.left x.taken z.taken
sat_read_from input x z fresh left reads =
    let none : x.reading.read ≡ 0 = ap (λ r. r.read) fresh in
    read_from input x.left z.left z.reading x.taken z.taken left (reads.next x.left (read_none x.left x.reading fresh)) (omega (arith, reads.counted, none))

pub sat_full : (x z : Sitting) → x.reading ≡ record { pending = []; read = 0; ended = false } → (z.reading.read == 67108864) ≡ true → Reads x z → z.taken ≡ x.taken + 67108864
sat_full x z fresh full reads =
    let none : x.reading.read ≡ 0 = ap (λ r. r.read) fresh in
    let all : z.reading.read ≡ 67108864 = eqb-true z.reading.read 67108864 full in
    omega (arith, reads.counted, none, all)

pub sat_limit : (x z : Sitting) → x.reading ≡ record { pending = []; read = 0; ended = false } → Reads x z → z.taken ≤ x.taken + 67108864
sat_limit x z fresh reads =
    let none : x.reading.read ≡ 0 = ap (λ r. r.read) fresh in
    let few = reads.limit (omega (arith, none)) in
    omega (arith, reads.counted, none, few)

-- ---- by a slip

abbrev block_lines : List Block → List (List ℕ)
block_lines blocks = map (λ b. b.line) blocks

handed_blocks : (blocks : List Block) → handed_in (talk_in blocks) ≡ block_lines blocks
handed_blocks [] = refl
handed_blocks (b ∷ bs) = ap (λ l. b.line ∷ l) (handed_blocks bs)

shown_blocks : (blocks : List Block) → shown_in (talk_in blocks) ≡ entries_in blocks
shown_blocks [] = refl
shown_blocks (b ∷ bs) = ap (λ l. b.entries ++ l) (shown_blocks bs)

fed_blocks : (blocks : List Block) → AllByRecursion IsBlock blocks → lines_fed (entries_in blocks) ≡ block_lines blocks
fed_blocks [] h = refl
fed_blocks (b ∷ bs) h = lines_fed_append b.entries (entries_in bs) ∙ (ap (λ l. l ++ lines_fed (entries_in bs)) (block_line b.line b.entries h.0) ∙ ap (λ l. b.line ∷ l) (fed_blocks bs h.1))

-- the front of one line is that line, or none
one_or_none : (line : List ℕ) (a b : List (List ℕ)) → line ∷ [] ≡ a ++ b → (a ≡ []) ⊎ (a ≡ line ∷ [])
one_or_none line [] b h = inl refl
one_or_none line (x ∷ []) b h = inr (let same : line ≡ x = cc in ap (λ l. l ∷ []) (sym same))
one_or_none line (x ∷ y ∷ a) b h = absurd (let no : [] ≡ y ∷ (a ++ b) = cc in cc)

-- what was fed is the front of what was handed out
fed_front : (stage : Stage) (blocks : List Block) (rest : List Entry) → AllByRecursion IsBlock blocks → IsAt stage rest
    → (more : List (List ℕ)) × (lines_fed (entries_in blocks ++ rest) ++ more ≡ handed_in (talk_in blocks ++ talk_at stage rest))
fed_front stage blocks rest begin at = by stage at
  where
    fed_all : (lines : List (List ℕ)) → lines_fed rest ≡ lines → lines_fed (entries_in blocks ++ rest) ≡ block_lines blocks ++ lines
    fed_all lines h = lines_fed_append (entries_in blocks) rest ∙ (ap (λ l. l ++ lines_fed rest) (fed_blocks blocks begin) ∙ ap (λ l. block_lines blocks ++ l) h)

    handed_all : (talk : List Talk) → handed_in (talk_in blocks ++ talk) ≡ block_lines blocks ++ handed_in talk
    handed_all talk = flat_map-append handed_by (talk_in blocks) talk ∙ ap (λ l. l ++ handed_in talk) (handed_blocks blocks)

    by : (stage : Stage) → IsAt stage rest → (more : List (List ℕ)) × (lines_fed (entries_in blocks ++ rest) ++ more ≡ handed_in (talk_in blocks ++ talk_at stage rest))
    by Asking at = ([], append-nil _ ∙ (fed_all [] (ap lines_fed at) ∙ sym (handed_all [])))
    by (Given line) at = (line ∷ [], ap (λ l. l ++ line ∷ []) (fed_all [] (ap lines_fed at) ∙ append-nil (block_lines blocks)) ∙ sym (handed_all (Handed line ∷ [])))
    by (Feeding line) at = ([], append-nil _ ∙ (fed_all (line ∷ []) (block_line line rest at) ∙ sym (handed_all (Handed line ∷ []))))
    by Closing at = ([], append-nil _ ∙ (fed_all [] (none_fed rest at) ∙ sym (handed_all (Over ∷ []))))
    by Done at = ([], append-nil _ ∙ (fed_all [] (none_fed rest at) ∙ sym (handed_all (Over ∷ (Shown rest ∷ [])))))

fed_is : (line : List ℕ) (es : List Entry) (asked : Bool) (stage : Stage) (blocks : List Block) (rest : List Entry) → AllByRecursion IsBlock blocks → IsAt stage rest → es ≡ entries_in blocks ++ rest
    → line ∷ [] ≡ handed_in (talk_in blocks ++ talk_at stage rest) ++ unasked asked line → (lines_fed es ≡ []) ⊎ (lines_fed es ≡ line ∷ [])
fed_is line es asked stage blocks rest begin at is h =
    let front = fed_front stage blocks rest begin at in
    one_or_none line (lines_fed es) (front.0 ++ unasked asked line)
    (h ∙ (ap (λ l. l ++ unasked asked line) (sym front.1) ∙ (append_assoc (lines_fed (entries_in blocks ++ rest)) front.0 (unasked asked line) ∙ ap (λ e. lines_fed e ++ (front.0 ++ unasked asked line)) (sym is))))

-- what was shown and what was to be shown are the front of all entries
shown_front : (stage : Stage) (blocks : List Block) (rest : List Entry) → IsAt stage rest
    → (more : List Entry) × (shown_in (talk_in blocks ++ talk_at stage rest) ++ (shown_in (tried_at stage rest) ++ more) ≡ entries_in blocks ++ rest)
shown_front stage blocks rest at = by stage at
  where
    shown_all : (talk : List Talk) → shown_in (talk_in blocks ++ talk) ≡ entries_in blocks ++ shown_in talk
    shown_all talk = flat_map-append shown_by (talk_in blocks) talk ∙ ap (λ l. l ++ shown_in talk) (shown_blocks blocks)

    before_rest : (talk : List Talk) → shown_in talk ≡ [] → shown_in (talk_in blocks ++ talk) ≡ entries_in blocks
    before_rest talk h = shown_all talk ∙ (ap (λ l. entries_in blocks ++ l) h ∙ append-nil (entries_in blocks))

    by : (stage : Stage) → IsAt stage rest → (more : List Entry) × (shown_in (talk_in blocks ++ talk_at stage rest) ++ (shown_in (tried_at stage rest) ++ more) ≡ entries_in blocks ++ rest)
    by Asking at = (rest, ap (λ l. l ++ rest) (before_rest [] refl))
    by (Given line) at = (rest, ap (λ l. l ++ rest) (before_rest (Handed line ∷ []) refl))
    by (Feeding line) at = ([], ap (λ l. l ++ ((rest ++ []) ++ [])) (before_rest (Handed line ∷ []) refl) ∙ ap (λ l. entries_in blocks ++ l) (append-nil (rest ++ []) ∙ append-nil rest))
    by Closing at = ([], ap (λ l. l ++ ((rest ++ []) ++ [])) (before_rest (Over ∷ []) refl) ∙ ap (λ l. entries_in blocks ++ l) (append-nil (rest ++ []) ∙ append-nil rest))
    by Done at = ([], append-nil _ ∙ (shown_all (Over ∷ (Shown rest ∷ [])) ∙ ap (λ l. entries_in blocks ++ l) (append-nil rest)))

-- a front of what is printed for all entries was written
front_of : (es a b more : List Entry) (old mid new : Option (List ℕ)) → a ++ (b ++ more) ≡ es → mid ≡ followed old (concat (prints_of a)) → WritesFront (concat (prints_of b)) mid new
    → WritesFront (concat (prints_of es)) old new
front_of es a b more old mid new is held w = record {
  front = concat (prints_of a) ++ w.front;
  begins = record {
    later = w.begins.later ++ concat (prints_of more);
    is = regroup (concat (prints_of a)) w.front w.begins.later (concat (prints_of more))
        ∙ (ap (λ t. concat (prints_of a) ++ (t ++ concat (prints_of more))) w.begins.is
        ∙ (ap (λ t. concat (prints_of a) ++ t) (sym (prints_append b more)) ∙ (sym (prints_append a (b ++ more)) ∙ ap (λ e. concat (prints_of e)) is)));
  };
  held = w.held ∙ (ap (λ o. followed o w.front) held ∙ followed_twice old (concat (prints_of a)) w.front);
}
  where
    regroup : (a b c d : List ℕ) → (a ++ b) ++ (c ++ d) ≡ a ++ ((b ++ c) ++ d)
    regroup a b c d = simp append_assoc

all_written : (bytes : List ℕ) (old new : Option (List ℕ)) → new ≡ followed old bytes → WritesFront bytes old new
all_written bytes old new h = record { front = bytes; begins = record { later = []; is = append-nil bytes }; held = h }

wrote_front : (fault : LineFault) (bytes : List ℕ) (old new : Option (List ℕ)) → Wrote fault bytes old new → WritesFront bytes old new
wrote_front Write bytes old new w = w
wrote_front Read bytes old new w = all_written bytes old new w
wrote_front OutOfMemory bytes old new w = all_written bytes old new w
wrote_front InputFull bytes old new w = all_written bytes old new w

nothing_written : (o : Option (List ℕ)) → WritesFront [] o o
nothing_written o = all_written [] o o (sym (followed_nothing o))

pub reckoned_fed : (r : Rules) (status : ℕ) (line : List ℕ) (es : List Entry) (x z : Note) → x.asked ≡ false → HasServed r status es (HasPassed line x z) (HasStuck line x z)
    → (lines_fed es ≡ []) ⊎ (lines_fed es ≡ line ∷ [])
reckoned_fed r status line es x z none s = by s.serves
  where
    by : (IsNotOfLines status × Serves r es (Only (HasPassed line x z)) s.stage) ⊎ ((fault : LineFault) × (status ≡ status_of_lines fault) × Serves r es (HasStuck line x z fault) s.stage)
        → (lines_fed es ≡ []) ⊎ (lines_fed es ≡ line ∷ [])
    by (inl h) = fed_is line es z.asked s.stage h.1.blocks h.1.rest h.1.begin h.1.at h.1.is (ap (λ b. unasked b line) (sym none) ∙ h.1.talk.handed)
    by (inr h) = fed_is line es z.asked s.stage h.2.blocks h.2.rest h.2.begin h.2.at h.2.is (ap (λ b. unasked b line) (sym none) ∙ h.2.talk.handed)

pub reckoned_front : (r : Rules) (status : ℕ) (line : List ℕ) (es : List Entry) (x z : Note) → HasServed r status es (HasPassed line x z) (HasStuck line x z)
    → WritesFront (concat (prints_of es)) x.text z.text
reckoned_front r status line es x z s = by s.serves
  where
    by : (IsNotOfLines status × Serves r es (Only (HasPassed line x z)) s.stage) ⊎ ((fault : LineFault) × (status ≡ status_of_lines fault) × Serves r es (HasStuck line x z fault) s.stage)
        → WritesFront (concat (prints_of es)) x.text z.text
    by (inl h) =
        let front = shown_front s.stage h.1.blocks h.1.rest h.1.at in
        front_of es _ [] (shown_in (tried_at s.stage h.1.rest) ++ front.0) x.text z.text z.text (front.1 ∙ sym h.1.is) h.1.talk.text (nothing_written z.text)
    by (inr h) =
        let front = shown_front s.stage h.2.blocks h.2.rest h.2.at in
        front_of es _ (shown_in (tried_at s.stage h.2.rest)) front.0 x.text _ z.text (front.1 ∙ sym h.2.is) refl (wrote_front h.0 _ _ _ h.2.talk.text)

over_said : (blocks : List Block) (rest : List Entry) (P : Type 0) → IfOver (talk_in blocks ++ (Over ∷ (Shown rest ∷ []))) P → P
over_said [] rest P h = h
over_said (b ∷ bs) rest P h = over_said bs rest P h

pub reckoned_whole : (r : Rules) (status : ℕ) (line : List ℕ) (es : List Entry) (x z : Note) → x.asked ≡ false → status ≡ 0 → HasServed r status es (HasPassed line x z) (HasStuck line x z)
    → (lines_fed es ≡ line ∷ []) × (z.text ≡ followed x.text (concat (prints_of es)))
reckoned_whole r status line es x z none well served =
    let s = served_done r es (HasPassed line x z) (HasStuck line x z) (subst (λ n. HasServed r n es (HasPassed line x z) (HasStuck line x z)) well served) in
    let asked : z.asked ≡ true = over_said s.blocks s.rest _ s.talk.over in
    let fed = lines_fed_append (entries_in s.blocks) s.rest
    ∙ (ap (λ l. lines_fed (entries_in s.blocks) ++ l) (none_fed s.rest s.at) ∙ (append-nil (lines_fed (entries_in s.blocks)) ∙ fed_blocks s.blocks s.begin)) in
    let handed = flat_map-append handed_by (talk_in s.blocks) (Over ∷ (Shown s.rest ∷ [])) ∙ (append-nil (handed_in (talk_in s.blocks)) ∙ handed_blocks s.blocks) in
    let shown = flat_map-append shown_by (talk_in s.blocks) (Over ∷ (Shown s.rest ∷ [])) ∙ (ap (λ l. l ++ (s.rest ++ [])) (shown_blocks s.blocks) ∙ ap (λ l. entries_in s.blocks ++ l) (append-nil s.rest)) in (
      ap lines_fed s.is ∙ (fed ∙ (sym handed ∙ (sym (append-nil _) ∙ (ap (λ b. handed_in (talk_in s.blocks ++ (Over ∷ (Shown s.rest ∷ []))) ++ unasked b line) (sym asked) ∙ (sym s.talk.handed ∙ ap (λ b. unasked b line) none))))),
      s.talk.text ∙ ap (λ e. followed x.text (concat (prints_of e))) (shown ∙ sym s.is),
    )

-- ---- what it leaves

abbrev at_first : Ports → Sitting
at_first x = sitting Blank (record { pending = []; read = 0; ended = false }) x.left x.taken x.text

from_desk : (r : Rules) (status : ℕ) (es : List Entry) (s : Sheet) (reading : Reading) (left : Option (List ℕ)) (taken : ℕ) (text : Option (List ℕ)) (z : Sitting) → s ≡ Blank
    → reading ≡ record { pending = []; read = 0; ended = false } → HasServed r status es (HasTalked (sitting s reading left taken text) z) (HasBroken (sitting s reading left taken text) z)
    → HasServed r status es (HasTalked (sitting Blank (record { pending = []; read = 0; ended = false }) left taken text) z)
    (HasBroken (sitting Blank (record { pending = []; read = 0; ended = false }) left taken text) z)
from_desk r status es s reading left taken text z blank fresh served =
    subst (λ q. HasServed r status es (HasTalked (sitting Blank q left taken text) z) (HasBroken (sitting Blank q left taken text) z)) fresh
    (subst (λ a. HasServed r status es (HasTalked (sitting a reading left taken text) z) (HasBroken (sitting a reading left taken text) z)) blank served)

due_from_desk : (r : Rules) (m : Left) (s : Sheet) (reading : Reading) (left : Option (List ℕ)) (taken : ℕ) (text : Option (List ℕ)) (z : Sitting) → s ≡ Blank
    → reading ≡ record { pending = []; read = 0; ended = false } → IsDue r m (HasTalked (sitting s reading left taken text) z)
    → IsDue r m (HasTalked (sitting Blank (record { pending = []; read = 0; ended = false }) left taken text) z)
due_from_desk r m s reading left taken text z blank fresh due =
    subst (λ q. IsDue r m (HasTalked (sitting Blank q left taken text) z)) fresh (subst (λ a. IsDue r m (HasTalked (sitting a reading left taken text) z)) blank due)

pub sat : (r : Rules) (m : Left) (x z : Ports) (s sheet : Sheet) (first reading : Reading) → s ≡ Blank → first ≡ record { pending = []; read = 0; ended = false }
    → HasServed r m.status m.entries (HasTalked (sitting s first x.left x.taken x.text) (sitting sheet reading z.left z.taken z.text))
    (HasBroken (sitting s first x.left x.taken x.text) (sitting sheet reading z.left z.taken z.text))
    → (m.status ≡ 5 → IsDue r m (HasTalked (sitting s first x.left x.taken x.text) (sitting sheet reading z.left z.taken z.text)))
    → HasSat r m x z
sat r m x z s sheet first reading blank fresh served due =
    let end = sitting sheet reading z.left z.taken z.text in
    let all = from_desk r m.status m.entries s first x.left x.taken x.text end blank fresh served in
    record {
      sheet = sheet;
      reading = reading;
      served = all;
      reads = λ input left. sat_read_from input (at_first x) end refl left (sat_reads r m.status m.entries (at_first x) end all);
      whole = λ well input left. sat_whole r m.status m.entries input (at_first x) end refl refl left well all;
      read_up = λ well input left. sat_read_up r m.status m.entries input (at_first x) end refl refl left well all;
      between_lines = sat_between r m.status m.entries (at_first x) end all;
      due = λ full. due_from_desk r m s first x.left x.taken x.text end blank fresh (due full);
    }

pub sat_cause : (n : ℕ) (p : Profile) (settles : Bool) (r : Rules) (m : Left) (x z : Ports) (s sheet : Sheet) (first reading : Reading) → s ≡ Blank
    → first ≡ record { pending = []; read = 0; ended = false }
    → HasServed r m.status m.entries (HasTalked (sitting s first x.left x.taken x.text) (sitting sheet reading z.left z.taken z.text))
    (HasBroken (sitting s first x.left x.taken x.text) (sitting sheet reading z.left z.taken z.text))
    → IsConsole n p settles m → HasLineCause m.status x.read_faults z.read_faults x.write_faults z.write_faults (reading.read == 67108864) → z.frame_faults ≡ x.frame_faults
    → HasMembersCause m.status m.faults x z
sat_cause n p settles r m x z s sheet first reading blank fresh served console lines same =
    let end = sitting sheet reading z.left z.taken z.text in
    let all = from_desk r m.status m.entries s first x.left x.taken x.text end blank fresh served in
    record {
      read = lines.read;
      write = lines.write;
      frame = λ h. inr (console.member.failed h);
      input = λ h. sat_full (at_first x) end refl (lines.ended h) (sat_reads r m.status m.entries (at_first x) end all);
      read_only = lines.read_only;
      write_only = lines.write_only;
      frame_only = λ h. (same, console.member.calm h);
      limit = sat_limit (at_first x) end refl (sat_reads r m.status m.entries (at_first x) end all);
    }

pub reckoned : (r : Rules) (m : Left) (x z : Ports) (given line : List ℕ) (first asked : Bool) → given ≡ line → first ≡ false
    → HasServed r m.status m.entries (HasPassed given (note first x.text) (note asked z.text)) (HasStuck given (note first x.text) (note asked z.text))
    → (m.status ≡ 5 → IsDue r m (HasPassed given (note first x.text) (note asked z.text))) → z.left ≡ x.left → z.taken ≡ x.taken → HasReckoned r line m x z
reckoned r m x z given line first asked is none served due left taken =
    let all : HasServed r m.status m.entries (HasPassed line (note false x.text) (note asked z.text)) (HasStuck line (note false x.text) (note asked z.text)) =
    subst (λ a. HasServed r m.status m.entries (HasPassed line (note a x.text) (note asked z.text)) (HasStuck line (note a x.text) (note asked z.text))) none
    (subst (λ l. HasServed r m.status m.entries (HasPassed l (note first x.text) (note asked z.text)) (HasStuck l (note first x.text) (note asked z.text))) is served) in
    record {
      asked = asked;
      served = all;
      fed = reckoned_fed r m.status line m.entries (note false x.text) (note asked z.text) refl all;
      front = reckoned_front r m.status line m.entries (note false x.text) (note asked z.text) all;
      whole = λ well. reckoned_whole r m.status line m.entries (note false x.text) (note asked z.text) refl well all;
      due = λ full. subst (λ a. IsDue r m (HasPassed line (note a x.text) (note asked z.text))) none
          (subst (λ l. IsDue r m (HasPassed l (note first x.text) (note asked z.text))) is (due full));
      unread = (left, taken);
    }

-- ---- what holds behind a reference holds where it is given back

pub reckoned_back : {A : Type 0} (held : A → Option (List ℕ)) (faults : A → ℕ) (r : Rules) (line : List ℕ) (m : Left) (x : Ports) (given new : A) → given ≡ new
    → HasReckoned r line m x (ports_of None 0 (held new) 0 (faults new) 0) → HasReckoned r line m x (ports_of None 0 (held given) 0 (faults given) 0)
reckoned_back held faults r line m x given new is h = subst (λ s. HasReckoned r line m x (ports_of None 0 (held s) 0 (faults s) 0)) (sym is) h

pub sat_back : {A : Type 0} {B : Type 0} (left : A → Option (List ℕ)) (taken : A → ℕ) (reads : A → ℕ) (held : B → Option (List ℕ)) (writes : B → ℕ) (r : Rules) (m : Left) (x : Ports)
    (a b : A) (c d : B) → a ≡ b → c ≡ d → HasSat r m x (ports_of (left b) (taken b) (held d) (reads b) (writes d) 0) → HasSat r m x (ports_of (left a) (taken a) (held c) (reads a) (writes c) 0)
sat_back left taken reads held writes r m x a b c d first second h =
    subst (λ s. HasSat r m x (ports_of (left s) (taken s) (held c) (reads s) (writes c) 0)) (sym first)
    (subst (λ k. HasSat r m x (ports_of (left b) (taken b) (held k) (reads b) (writes k) 0)) (sym second) h)

pub cause_back : {A : Type 0} {B : Type 0} (left : A → Option (List ℕ)) (taken : A → ℕ) (reads : A → ℕ) (held : B → Option (List ℕ)) (writes : B → ℕ) (status faults : ℕ) (x : Ports)
    (a b : A) (c d : B) → a ≡ b → c ≡ d → HasMembersCause status faults x (ports_of (left b) (taken b) (held d) (reads b) (writes d) 0)
    → HasMembersCause status faults x (ports_of (left a) (taken a) (held c) (reads a) (writes c) 0)
cause_back left taken reads held writes status faults x a b c d first second h =
    subst (λ s. HasMembersCause status faults x (ports_of (left s) (taken s) (held c) (reads s) (writes c) 0)) (sym first)
    (subst (λ k. HasMembersCause status faults x (ports_of (left b) (taken b) (held k) (reads b) (writes k) 0)) (sym second) h)
