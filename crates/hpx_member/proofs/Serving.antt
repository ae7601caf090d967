-- How a console serves lines, as its journal grows and more is said.
use Rattle.std.proofs.Common.{ℕ, List, [], ◌∷◌, ◌++◌, ◌≡◌, refl, sym, ap, ◌∙◌, subst, append-nil, append_assoc, inl, inr, length, drop}
use Rattle.std.proofs.Math.Seq.{drop-append_seam}
use Rattle.hpx_journal.specs.Entries.{Rules}
use Rattle.hpx_part.specs.Data.{Entry}
use Rattle.hpx_part.specs.Parts.{at_boot}
use Rattle.hpx_tables.specs.Tables.{Tables}
use Rattle.hpx_ports.specs.declared.link.Latest.{Latest}
use Rattle.hpx_member.specs.Leads.{HasLineToFeed, IsDueAt, IsGiven, IsNoFrame}
use Rattle.hpx_member.specs.Stops.{IsCauseBy}
use Rattle.hpx_member.specs.declared.stop.Halt.TheVariants.{Member}
use Rattle.hpx_member.specs.declared.stop.Stop.{Stop}
use Rattle.hpx_member.specs.declared.stop.Stop.TheVariants.{Link, JournalFull, OutOfMemory, Fault}
use Rattle.hpx_member.specs.Seats.{IsSameSite, Meaning}
use Rattle.hpx_member.specs.Feeding.{AddsNoLine, FeedsAtMost, FeedsIdle, FeedsLine}
use Rattle.hpx_member.specs.Serves.{Asking, Block, Closing, Done, Feeding, Given, IsBlock, IsIdleBehind, IsOver, Serves, Stage, entries_in, talk_by, talk_in}
use Rattle.hpx_member.specs.Talks.{Handed, Only, Over, Shown, Talk}
use Rattle.hpx_member.proofs.Feeding.{idle_fed, idle_unfed}
use Rattle.hpx_member.proofs.Grown.{all-append, flat-one}
use Rattle.hpx_member.proofs.Seated.{rules_at, rules_same}

module _ (r : Rules) (es : List Entry) (Said : List Talk → Type 0) (s : Serves r es (Only Said) Asking) where
  -- all entries are of blocks
  entries_are : es ≡ entries_in s.blocks
  entries_are = s.is ∙ (ap (λ xs. entries_in s.blocks ++ xs) s.at ∙ append-nil (entries_in s.blocks))

  behind : (es' later : List Entry) → es' ≡ es ++ later → es' ≡ entries_in s.blocks ++ later
  behind es' later is = is ∙ ap (λ xs. xs ++ later) entries_are

  idle_here : IsIdleBehind r es
  idle_here = subst (IsIdleBehind r) (sym entries_are) s.idle

  -- what was said so far
  pub said_here : Said (talk_in s.blocks)
  said_here = subst Said (append-nil (talk_in s.blocks)) s.talk

  -- nothing more is said
  pub serves_stopped : (Saying : List Talk → List Talk → Type 0) → (Said (talk_in s.blocks) → Saying (talk_in s.blocks) []) → Serves r es Saying Asking
  serves_stopped Saying next = record {
    blocks = s.blocks;
    rest = [];
    begin = s.begin;
    is = entries_are ∙ sym (append-nil (entries_in s.blocks));
    at = refl;
    feeds = s.feeds;
    idle = s.idle;
    talk = subst (λ talk. Saying talk []) (sym (append-nil (talk_in s.blocks))) (next said_here);
  }

  serves_handed : (Saying : List Talk → List Talk → Type 0) (line : List ℕ) → Saying (talk_in s.blocks ++ Handed line ∷ []) [] → Serves r es Saying (Given line)
  serves_handed Saying line next = record {
    blocks = s.blocks;
    rest = [];
    begin = s.begin;
    is = entries_are ∙ sym (append-nil (entries_in s.blocks));
    at = refl;
    feeds = s.feeds;
    idle = s.idle;
    talk = next;
  }

  feeds_fed : (es' : List Entry) (line : List ℕ) (f : FeedsLine line es es') → FeedsIdle r (at_boot r 0) es'
  feeds_fed es' line f =
      subst (FeedsIdle r (at_boot r 0)) (sym f.is) (idle_fed r (at_boot r 0) line es f.later s.feeds idle_here f.begins)

  feeds_unfed : (es' : List Entry) (a : AddsNoLine es es') → FeedsIdle r (at_boot r 0) es'
  feeds_unfed es' a = subst (FeedsIdle r (at_boot r 0)) (sym a.is) (idle_unfed r (at_boot r 0) es a.later s.feeds a.unfed)

  cut_fed : (es' later : List Entry) → es' ≡ es ++ later → drop (length es) es' ≡ later
  cut_fed es' later is = ap (λ xs. drop (length es) xs) is ∙ drop-append_seam es later

  -- a line was handed out, and was fed; what was written is to be shown
  pub serves_fed : (Saying : List Talk → List Talk → Type 0) (es' : List Entry) (line : List ℕ) → FeedsLine line es es'
      → Saying (talk_in s.blocks ++ Handed line ∷ []) (Shown (drop (length es) es') ∷ []) → Serves r es' Saying (Feeding line)
  serves_fed Saying es' line f next = record {
    blocks = s.blocks;
    rest = f.later;
    begin = s.begin;
    is = behind es' f.later f.is;
    at = f.begins;
    feeds = feeds_fed es' line f;
    idle = s.idle;
    talk = subst (λ xs. Saying (talk_in s.blocks ++ Handed line ∷ []) (Shown xs ∷ [])) (cut_fed es' f.later f.is) next;
  }

  -- or may have been fed
  pub serves_most : (Said' : List Talk → Type 0) (es' : List Entry) (line : List ℕ) → FeedsAtMost line es es' → Said' (talk_in s.blocks ++ Handed line ∷ [])
      → (stage : Stage) × Serves r es' (Only Said') stage
  serves_most Said' es' line (inl same) next =
      (Given line, subst (λ xs. Serves r xs (Only Said') (Given line)) (sym same) (serves_handed (Only Said') line next))
  serves_most Said' es' line (inr f) next = (Feeding line, serves_fed (Only Said') es' line f next)

  -- it was fed, and what was written is shown
  pub serves_shown : (Said' : List Talk → Type 0) (es' : List Entry) (line : List ℕ) → FeedsLine line es es' → IsIdleBehind r es'
      → Said' ((talk_in s.blocks ++ Handed line ∷ []) ++ Shown (drop (length es) es') ∷ []) → Serves r es' (Only Said') Asking
  serves_shown Said' es' line f idle next = record {
    blocks = s.blocks ++ block ∷ [];
    rest = [];
    begin = all-append IsBlock s.blocks (block ∷ []) s.begin (f.begins, tt);
    is = whole ∙ sym (append-nil (entries_in (s.blocks ++ block ∷ [])));
    at = refl;
    feeds = feeds_fed es' line f;
    idle = subst (IsIdleBehind r) whole idle;
    talk = subst Said' talks next;
  }
    where
      block : Block
      block = record { line = line; entries = f.later }

      whole : es' ≡ entries_in (s.blocks ++ block ∷ [])
      whole = behind es' f.later f.is ∙ sym (flat-one (λ (b : Block). b.entries) s.blocks block)

      talks : (talk_in s.blocks ++ Handed line ∷ []) ++ Shown (drop (length es) es') ∷ [] ≡ talk_in (s.blocks ++ block ∷ []) ++ []
      talks =
          append_assoc (talk_in s.blocks) (Handed line ∷ []) (Shown (drop (length es) es') ∷ [])
          ∙ (ap (λ xs. talk_in s.blocks ++ (Handed line ∷ (Shown xs ∷ []))) (cut_fed es' f.later f.is)
          ∙ (sym (flat-one talk_by s.blocks block) ∙ sym (append-nil (talk_in (s.blocks ++ block ∷ [])))))

  -- lines are over
  pub serves_over : (Said' : List Talk → Type 0) → Said' (talk_in s.blocks ++ Over ∷ []) → IsOver r es Said'
  serves_over Said' next = record {
    blocks = s.blocks;
    begin = s.begin;
    is = entries_are;
    feeds = s.feeds;
    idle = idle_here;
    talk = next;
  }

module _ (r : Rules) (es es' : List Entry) (Said : List Talk → Type 0) (s : IsOver r es Said) (a : AddsNoLine es es') where
  over_cut : drop (length es) es' ≡ a.later
  over_cut = ap (λ xs. drop (length es) xs) a.is ∙ drop-append_seam es a.later

  -- lines are over, and what was written behind them is to be shown
  pub serves_closing : (Saying : List Talk → List Talk → Type 0) → Saying (talk_in s.blocks ++ Over ∷ []) (Shown (drop (length es) es') ∷ [])
      → Serves r es' Saying Closing
  serves_closing Saying next = record {
    blocks = s.blocks;
    rest = a.later;
    begin = s.begin;
    is = a.is ∙ ap (λ xs. xs ++ a.later) s.is;
    at = a.unfed;
    feeds = subst (FeedsIdle r (at_boot r 0)) (sym a.is) (idle_unfed r (at_boot r 0) es a.later s.feeds a.unfed);
    idle = subst (IsIdleBehind r) s.is s.idle;
    talk = subst (λ xs. Saying (talk_in s.blocks ++ Over ∷ []) (Shown xs ∷ [])) over_cut next;
  }

  -- or is shown
  pub serves_done : (Said' : List Talk → Type 0) → Said' ((talk_in s.blocks ++ Over ∷ []) ++ Shown (drop (length es) es') ∷ []) → Serves r es' (Only Said') Done
  serves_done Said' next = record {
    blocks = s.blocks;
    rest = a.later;
    begin = s.begin;
    is = a.is ∙ ap (λ xs. xs ++ a.later) s.is;
    at = a.unfed;
    feeds = subst (FeedsIdle r (at_boot r 0)) (sym a.is) (idle_unfed r (at_boot r 0) es a.later s.feeds a.unfed);
    idle = subst (IsIdleBehind r) s.is s.idle;
    talk = subst Said' (append_assoc (talk_in s.blocks) (Over ∷ []) (Shown (drop (length es) es') ∷ [])
        ∙ ap (λ xs. talk_in s.blocks ++ (Over ∷ (Shown xs ∷ []))) over_cut) next;
  }

-- nothing has been said, and nothing written
pub serves_first : (r : Rules) (es : List Entry) (Said : List Talk → Type 0) → es ≡ [] → Said [] → IsIdleBehind r [] → Serves r es (Only Said) Asking
serves_first r es Said none first idle = record {
  blocks = [];
  rest = [];
  begin = tt;
  is = none;
  at = refl;
  feeds = subst (FeedsIdle r (at_boot r 0)) (sym none) tt;
  idle = idle;
  talk = first;
}

-- ---- a turn that was due

-- a line was handed out that is not fed
pub line_to_feed : (r : Rules) (es : List Entry) (Went : List Talk → Type 0) (stage : Stage) → Serves r es (Only Went) stage → IsGiven stage
    → HasLineToFeed r es Went
line_to_feed r es Went Asking s never = absurd never
line_to_feed r es Went (Given line) s given = (line, s)
line_to_feed r es Went (Feeding line) s never = absurd never
line_to_feed r es Went Closing s never = absurd never
line_to_feed r es Went Done s never = absurd never

-- a turn of the node was due
due_stop : (t : Tables) (es : List Entry) (latest : Latest) (before after : ℕ) (stop : Stop) (stage : Stage) → IsCauseBy IsNoFrame ⊥ t es latest before after stop
    → IsDueAt (Member stop) stage t latest
due_stop t es latest before after Link stage why = tt
due_stop t es latest before after OutOfMemory stage why = tt
due_stop t es latest before after (Fault fault) stage why = tt
due_stop t es latest before after JournalFull stage (full, calm, inl turn) = inl turn
due_stop t es latest before after JournalFull stage (full, calm, inr never) = absurd never

-- ---- a line, by what became of it

module _ (act_of : Meaning) (t t' : Tables) (es es' : List Entry) (W W1 : List Talk → Type 0) (line : List ℕ) (site : IsSameSite t t')
    (s : Serves (rules_at act_of t) es (Only W) Asking) (handed : (talk : List Talk) → W talk → W1 (talk ++ Handed line ∷ [])) where
  said_handed : W1 (talk_in s.blocks ++ Handed line ∷ [])
  said_handed = handed (talk_in s.blocks) (said_here (rules_at act_of t) es W s)

  -- it may have been fed
  line_fed : FeedsAtMost line es es' → (stage : Stage) × Serves (rules_at act_of t') es' (Only W1) stage
  line_fed f =
      subst (λ r. (stage : Stage) × Serves r es' (Only W1) stage) (sym (rules_same act_of t t' site))
      (serves_most (rules_at act_of t) es W s W1 es' line f said_handed)

  line_unfed : es' ≡ es → Serves (rules_at act_of t') es' (Only W1) (Given line)
  line_unfed same =
      subst (λ r. Serves r es' (Only W1) (Given line)) (sym (rules_same act_of t t' site))
      (subst (λ xs. Serves (rules_at act_of t) xs (Only W1) (Given line)) (sym same) (serves_handed (rules_at act_of t) es W s (Only W1) line said_handed))

  -- and then it stops
  pub line_most : (latest : Latest) (before after : ℕ) (stop : Stop) → IsCauseBy IsNoFrame (es' ≡ es) t' es' latest before after stop → FeedsAtMost line es es'
      → (stage : Stage) × Serves (rules_at act_of t') es' (Only W1) stage × IsDueAt (Member stop) stage t' latest
  line_most latest before after Link why f = let fed = line_fed f in (fed.0, fed.1, tt)
  line_most latest before after OutOfMemory why f = let fed = line_fed f in (fed.0, fed.1, tt)
  line_most latest before after (Fault fault) why f = let fed = line_fed f in (fed.0, fed.1, tt)
  line_most latest before after JournalFull (full, calm, inl turn) f = let fed = line_fed f in (fed.0, fed.1, inl turn)
  line_most latest before after JournalFull (full, calm, inr same) f = (Given line, line_unfed same, inr tt)

  -- what was written is not shown
  pub line_unshown : (B : List Talk → List Talk → Type 0) (cut : ℕ) → cut ≡ length es → FeedsLine line es es'
      → ((talk : List Talk) → W1 talk → B talk (Shown (drop cut es') ∷ [])) → (stage : Stage) × Serves (rules_at act_of t') es' B stage × Unit {0}
  line_unshown B cut is f broke =
      subst (λ r. (stage : Stage) × Serves r es' B stage × Unit {0}) (sym (rules_same act_of t t' site)) (
        Feeding line,
        serves_fed (rules_at act_of t) es W s B es' line f
            (subst (λ n. B (talk_in s.blocks ++ Handed line ∷ []) (Shown (drop n es') ∷ [])) is (broke (talk_in s.blocks ++ Handed line ∷ []) said_handed)),
        tt,
      )

  -- it is
  pub line_served : (W2 : List Talk → Type 0) (cut : ℕ) → cut ≡ length es → FeedsLine line es es' → IsIdleBehind (rules_at act_of t') es'
      → ((talk : List Talk) → W1 talk → W2 (talk ++ Shown (drop cut es') ∷ [])) → Serves (rules_at act_of t') es' (Only W2) Asking
  line_served W2 cut is f idle shown =
      subst (λ r. Serves r es' (Only W2) Asking) (sym (rules_same act_of t t' site))
      (serves_shown (rules_at act_of t) es W s W2 es' line f (subst (λ r. IsIdleBehind r es') (rules_same act_of t t' site) idle)
      (subst (λ n. W2 ((talk_in s.blocks ++ Handed line ∷ []) ++ Shown (drop n es') ∷ [])) is (shown (talk_in s.blocks ++ Handed line ∷ []) said_handed)))

-- there is no line
pub line_over : (r : Rules) (es : List Entry) (W W1 : List Talk → Type 0) → Serves r es (Only W) Asking → ((talk : List Talk) → W talk → W1 (talk ++ Over ∷ []))
    → IsOver r es W1
line_over r es W W1 s over = serves_over r es W s W1 (over (talk_in s.blocks) (said_here r es W s))

pub line_unread : (r : Rules) (es : List Entry) (W : List Talk → Type 0) (B : List Talk → List Talk → Type 0) → Serves r es (Only W) Asking
    → ((talk : List Talk) → W talk → B talk []) → (stage : Stage) × Serves r es B stage × Unit {0}
line_unread r es W B s broke = (Asking, serves_stopped r es W s B (λ w. broke (talk_in s.blocks) w), tt)

-- ---- the last entries

module _ (act_of : Meaning) (t t' : Tables) (es es' : List Entry) (W : List Talk → Type 0) (site : IsSameSite t t')
    (s : IsOver (rules_at act_of t) es W) (a : AddsNoLine es es') where
  pub last_unshown : (B : List Talk → List Talk → Type 0) (cut : ℕ) → cut ≡ length es → ((talk : List Talk) → W talk → B talk (Shown (drop cut es') ∷ []))
      → (stage : Stage) × Serves (rules_at act_of t') es' B stage × Unit {0}
  last_unshown B cut is broke =
      subst (λ r. (stage : Stage) × Serves r es' B stage × Unit {0}) (sym (rules_same act_of t t' site)) (
        Closing,
        serves_closing (rules_at act_of t) es es' W s a B
            (subst (λ n. B (talk_in s.blocks ++ Over ∷ []) (Shown (drop n es') ∷ [])) is (broke (talk_in s.blocks ++ Over ∷ []) s.talk)),
        tt,
      )

  last_closing : Serves (rules_at act_of t') es' (Only W) Closing
  last_closing =
      subst (λ r. Serves r es' (Only W) Closing) (sym (rules_same act_of t t' site)) (serves_closing (rules_at act_of t) es es' W s a (Only W) s.talk)

  pub last_stopped : (latest : Latest) (before after : ℕ) (stop : Stop) → IsCauseBy IsNoFrame ⊥ t' es' latest before after stop
      → (stage : Stage) × Serves (rules_at act_of t') es' (Only W) stage × IsDueAt (Member stop) stage t' latest
  last_stopped latest before after stop why = (Closing, last_closing, due_stop t' es' latest before after stop Closing why)

  pub last_shown : (W1 : List Talk → Type 0) (cut : ℕ) → cut ≡ length es → ((talk : List Talk) → W talk → W1 (talk ++ Shown (drop cut es') ∷ []))
      → Serves (rules_at act_of t') es' (Only W1) Done
  last_shown W1 cut is shown =
      subst (λ r. Serves r es' (Only W1) Done) (sym (rules_same act_of t t' site))
      (serves_done (rules_at act_of t) es es' W s a W1
      (subst (λ n. W1 ((talk_in s.blocks ++ Over ∷ []) ++ Shown (drop n es') ∷ [])) is (shown (talk_in s.blocks ++ Over ∷ []) s.talk)))

-- nothing was written since
pub serves_stays : (act_of : Meaning) (t t' : Tables) (es es' : List Entry) (S : List Talk → List Talk → Type 0) (stage : Stage) (latest : Latest)
    (before after : ℕ) (stop : Stop) → t' ≡ t → es' ≡ es → Serves (rules_at act_of t) es S stage → IsCauseBy IsNoFrame ⊥ t' es' latest before after stop
    → (stage : Stage) × Serves (rules_at act_of t') es' S stage × IsDueAt (Member stop) stage t' latest
serves_stays act_of t t' es es' S stage latest before after stop tables entries s why = (
  stage,
  subst (λ x. Serves (rules_at act_of x) es' S stage) (sym tables) (subst (λ xs. Serves (rules_at act_of t) xs S stage) (sym entries) s),
  due_stop t' es' latest before after stop stage why,
)
