-- The turns of a console, as its journal and its link grow.
use Rattle.std.proofs.Common.{true, false, ℕ, zero, suc, Bool, List, [], ◌∷◌, ◌++◌, ◌≡◌, ◌<◌, ◌≤◌, ◌+◌, refl, sym, ap, ◌∙◌, subst, arith, inl, inr, length, append-nil, append_assoc, Option, Some, None}
use Rattle.std.specs.Prelude.{replicate, set}
use Rattle.std.specs.List.{AllByRecursion, list_any}
use Rattle.std.proofs.lemmas.List.{take-append-le, length-append, length-replicate, length-set}
use Rattle.std.proofs.Math.Seq.{take-append_seam}
use Rattle.hpx_journal.specs.Entries.{Rules}
use Rattle.hpx_journal.specs.Laws.{outs, ins}
use Rattle.hpx_journal.specs.Sessions.{FeedsNothing}
use Rattle.hpx_journal.specs.Whole.{IsClean}
use Rattle.hpx_part.specs.Data.{Entry, Event, Line, Name}
use Rattle.hpx_part.specs.Parts.{at_boot}
use Rattle.hpx_ended.specs.Tally.{Tally, IsSpent, MayCount, counted, fresh, is_missing, opened, verdict_of, waits}
use Rattle.hpx_ended.specs.Waves.{BeginsAwake}
use Rattle.hpx_ended.specs.declared.round.Counted.{Counted}
use Rattle.hpx_ended.specs.declared.round.Verdict.TheVariants.{Again, Ended, Unfinished}
use Rattle.hpx_ports.specs.Told.{followed}
use Rattle.hpx_ports.specs.declared.link.Post.{Post}
use Rattle.hpx_ports.specs.declared.link.Post.TheVariants.{Sent, Received}
use Rattle.hpx_member.specs.Bodies.{end_body, frames_got, frames_sent, is_frame}
use Rattle.hpx_member.specs.Leads.{ToldSome}
use Rattle.hpx_member.specs.Rounds.{AreCounted, AreOwn, Asks, AsksBut, Asking, IsAsked, Began, Closed, Ending, Fed, Anew, IsBehind, IsCountedAt, IsDue, IsOwnAt, IsStillBehind, IsTold, IsUnasked, MayGoOn, Nothing, Refused, Spent, TakesCounts, Took, Turn, line_at, lines_from, phase_of, said, tally_of, told_all, told_others, wave_body, word_by, words}
use Rattle.hpx_member.specs.Seats.{MaySend}
use Rattle.hpx_member.specs.declared.console.Phase.{Phase}
use Rattle.hpx_member.specs.declared.console.Phase.TheVariants.{Unfed, Serving, LinesOver}
use Rattle.hpx_member.proofs.Grown.{counts_is, flat-append, flat-one, may_grow, none_later}

followed_none : (trace : Option (List Post)) → trace ≡ followed trace []
followed_none None = refl
followed_none (Some tr) = ap (λ x. Some x) (sym (append-nil tr))

some_is : (a b : List Post) → Some a ≡ Some b → a ≡ b
some_is a b h = cc

-- ---- as the journal grows

module _ (r : Rules) (es later : List Entry) where
  -- a wave begins behind the last entry only where what comes begins with a line or a frame
  abbrev Woken : List Turn → Type 0
  Woken [] = Unit {0}
  Woken (Fed e ∷ earlier) = e < length es
  Woken (Began p e x ∷ earlier) = length es ≤ e → BeginsAwake later
  Woken (Took from body c ∷ earlier) = Woken earlier
  Woken (Anew ∷ earlier) = Woken earlier
  Woken (Closed ∷ earlier) = Woken earlier

  woken_below : (turns : List Turn) (n : ℕ) → n ≤ length es → (length es ≤ n → BeginsAwake later) → IsBehind turns n → Woken turns
  woken_below [] n within woken h = tt
  woken_below (Fed e ∷ earlier) n within woken h = omega (arith, h, within)
  woken_below (Began p e x ∷ earlier) n within woken h = λ j. woken (omega (arith, j, h))
  woken_below (Took from body c ∷ earlier) n within woken h = woken_below earlier n within woken h
  woken_below (Anew ∷ earlier) n within woken h = woken_below earlier n within woken h
  woken_below (Closed ∷ earlier) n within woken h = woken_below earlier n within woken h

  own_at_grows : (e : ℕ) (x : Counted) → (length es ≤ e → BeginsAwake later) → IsOwnAt r es e x → IsOwnAt r (es ++ later) e x
  own_at_grows e x woken own = record {
    within = omega (arith, own.within, length-append es later);
    sent = own.sent ∙ ap (λ zs. length (outs zs)) (sym (take-append-le e es later own.within));
    taken = own.taken ∙ ap (λ zs. length (ins zs)) (sym (take-append-le e es later own.within));
    may = λ clean. may_grow r 0 es later e own.within woken
        (own.may (subst (IsClean r (at_boot r 0)) (take-append-le e es later own.within) clean));
  }

  pub own_grow : (turns : List Turn) → Woken turns → AreOwn r es turns → AreOwn r (es ++ later) turns
  own_grow [] w own = own
  own_grow (Fed e ∷ earlier) w own =
      let here : e < length es = own.0 in (
        omega (arith, here, length-append es later),
        own.1,
        own_grow earlier (woken_below earlier e (omega (arith, here)) (λ j. absurd (omega (arith, j, here))) own.1) own.2,
      )
  own_grow (Began p e x ∷ earlier) w own =
      let here : IsOwnAt r es e x = own.0 in
      (own_at_grows e x w here, own.1, own_grow earlier (woken_below earlier e here.within w own.1) own.2)
  own_grow (Took from body c ∷ earlier) w own = own_grow earlier w own
  own_grow (Anew ∷ earlier) w own = own_grow earlier w own
  own_grow (Closed ∷ earlier) w own = own_grow earlier w own

  pub woken_of : (idle : Type 0) (turns : List Turn) → AreOwn r es turns → IsStillBehind turns (length es) idle → (idle → BeginsAwake later) → Woken turns
  woken_of idle [] own still woken = tt
  woken_of idle (Fed e ∷ earlier) own still woken = own.0
  woken_of idle (Began p e x ∷ earlier) own still woken = λ j. woken (still j)
  woken_of idle (Took from body c ∷ earlier) own still woken = woken_of idle earlier own still woken
  woken_of idle (Anew ∷ earlier) own still woken = woken_of idle earlier own still woken
  woken_of idle (Closed ∷ earlier) own still woken = woken_of idle earlier own still woken

  still_grows : (idle idle' : Type 0) (turns : List Turn) → AreOwn r es turns → IsStillBehind turns (length es) idle → (idle → later ≡ [] → idle')
      → IsStillBehind turns (length (es ++ later)) idle'
  still_grows idle idle' [] own still f = tt
  still_grows idle idle' (Fed e ∷ earlier) own still f = tt
  still_grows idle idle' (Began p e x ∷ earlier) own still f =
      let here : IsOwnAt r es e x = own.0 in
      λ j. f (still (omega (arith, j, length-append es later))) (none_later es later (omega (arith, j, here.within)))
  still_grows idle idle' (Took from body c ∷ earlier) own still f = still_grows idle idle' earlier own still f
  still_grows idle idle' (Anew ∷ earlier) own still f = still_grows idle idle' earlier own still f
  still_grows idle idle' (Closed ∷ earlier) own still f = still_grows idle idle' earlier own still f

-- all stand behind no more entries than there are
behind_all : (r : Rules) (es : List Entry) (turns : List Turn) → AreOwn r es turns → IsBehind turns (length es)
behind_all r es [] own = tt
behind_all r es (Fed e ∷ earlier) own = own.0
behind_all r es (Began p e x ∷ earlier) own = let here : IsOwnAt r es e x = own.0 in here.within
behind_all r es (Took from body c ∷ earlier) own = behind_all r es earlier own
behind_all r es (Anew ∷ earlier) own = behind_all r es earlier own
behind_all r es (Closed ∷ earlier) own = behind_all r es earlier own

-- ---- where lines stand

unfed_at : (n : ℕ) (e : Event) → FeedsNothing e → line_at n e ≡ []
unfed_at n (Line a bytes) h = absurd h
unfed_at n _ h = refl

unfed_from : (n : ℕ) (es : List Entry) → AllByRecursion (λ e. FeedsNothing e.event) es → lines_from n es ≡ []
unfed_from n [] h = refl
unfed_from n (e ∷ es) h = ap (λ xs. xs ++ line_at n e.event) (unfed_from (suc n) es h.1) ∙ unfed_at n e.event h.0

lines_append : (n m : ℕ) (xs ys : List Entry) → m ≡ n + length xs → lines_from n (xs ++ ys) ≡ lines_from m ys ++ lines_from n xs
lines_append n m [] ys is =
    let same : n ≡ m = omega (arith, is) in ap (λ i. lines_from i ys) same ∙ sym (append-nil (lines_from m ys))
lines_append n m (x ∷ xs) ys is =
    ap (λ zs. zs ++ line_at n x.event) (lines_append (suc n) m xs ys (omega (arith, is)))
    ∙ append_assoc (lines_from m ys) (lines_from (suc n) xs) (line_at n x.event)

lines_same : (es later : List Entry) → AllByRecursion (λ e. FeedsNothing e.event) later → lines_from 0 (es ++ later) ≡ lines_from 0 es
lines_same es later unfed =
    lines_append 0 (length es) es later (omega arith) ∙ ap (λ zs. zs ++ lines_from 0 es) (unfed_from (length es) later unfed)

lines_fed : (es : List Entry) (at : ℕ) (a : Name) (bytes : List ℕ)
    → lines_from 0 (es ++ record { at = at; event = Line a bytes } ∷ []) ≡ length es ∷ lines_from 0 es
lines_fed es at a bytes = lines_append 0 (length es) es (record { at = at; event = Line a bytes } ∷ []) (omega arith)

-- ---- as the link tells more

counted_at_grows : (tr more before : List Post) (p : ℕ) (x : Counted) → IsCountedAt tr before p x → IsCountedAt (tr ++ more) before p x
counted_at_grows tr more before p x h = record {
  within = omega (arith, h.within, length-append tr more);
  words = ap words (take-append-le p tr more h.within) ∙ h.words;
  sent = h.sent ∙ ap (λ zs. length (frames_sent 0 zs)) (sym (take-append-le p tr more h.within));
  taken = h.taken ∙ ap (λ zs. length (frames_got 0 zs)) (sym (take-append-le p tr more h.within));
}

counted_grow : (n : ℕ) (tr more : List Post) (turns : List Turn) → AreCounted n tr turns → AreCounted n (tr ++ more) turns
counted_grow n tr more [] h = tt
counted_grow n tr more (Fed e ∷ earlier) h = counted_grow n tr more earlier h
counted_grow n tr more (Began p e x ∷ earlier) h = (counted_at_grows tr more (said n earlier) p x h.0, counted_grow n tr more earlier h.1)
counted_grow n tr more (Took from body c ∷ earlier) h = counted_grow n tr more earlier h
counted_grow n tr more (Anew ∷ earlier) h = counted_grow n tr more earlier h
counted_grow n tr more (Closed ∷ earlier) h = counted_grow n tr more earlier h

-- what holds of what was told so far, and of more behind it
followed_told : (P Q : List Post → Type 0) (trace trace' : Option (List Post)) (xs : List Post) → trace' ≡ followed trace xs
    → ((old : List Post) → P old → Q (old ++ xs)) → ((tr : List Post) → trace ≡ Some tr → P tr) → (tr : List Post) → trace' ≡ Some tr → Q tr
followed_told P Q None trace' xs is f h tr t = absurd (let e = sym is ∙ t in cc)
followed_told P Q (Some old) trace' xs is f h tr t = subst Q (some_is (old ++ xs) tr (sym is ∙ t)) (f old (h old refl))

silent_told : (n : ℕ) (turns : List Turn) (xs old : List Post) → words xs ≡ [] → IsTold n turns old → IsTold n turns (old ++ xs)
silent_told n turns xs old none h = record {
  words = flat-append word_by old xs ∙ (ap (λ zs. words old ++ zs) none ∙ (append-nil (words old) ∙ h.words));
  counted = counted_grow n old xs turns h.counted;
}

pub words_told : (body : List ℕ) (k : ℕ) → is_frame body ≡ false → words (told_all body k) ≡ told_all body k
words_told body zero h = refl
words_told body (suc k) h =
    let one : word_by (Sent (suc k) body) ≡ Sent (suc k) body ∷ [] = rw h refl in
    flat-one word_by (told_all body k) (Sent (suc k) body)
    ∙ (ap (λ zs. zs ++ word_by (Sent (suc k) body)) (words_told body k h) ∙ ap (λ zs. told_all body k ++ zs) one)

-- ---- waves that are not spent

fresh_unspent : (n : ℕ) (t : Tally) → t ≡ fresh n → IsSpent t → ⊥
fresh_unspent n t is s = absurd (omega (arith, s.last, ap (λ (y : Tally). y.begun) is))

-- where there are two members, an answer is missing to a wave that was begun
some_missing : (x : Counted) (answers : List (Option Counted)) → 1 < length (set (replicate (length answers) None) 0 (Some x))
    → list_any is_missing (set (replicate (length answers) None) 0 (Some x)) ≡ true
some_missing x [] h = absurd (omega (arith, h))
some_missing x (a ∷ []) h = absurd (omega (arith, h))
some_missing x (a ∷ (b ∷ answers)) h = refl

opened_unspent : (x : Counted) (t t' : Tally) → t' ≡ opened x t → IsSpent t' → ⊥
opened_unspent x t t' is s =
    let two : 1 < length (opened x t).answers = subst (λ (y : Tally). 1 < length y.answers) is s.others in
    let missing : waits (opened x t) ≡ true = some_missing x t.answers two in
    let shown : verdict_of (opened x t) ≡ Unfinished = rw missing refl in
    absurd (let odd : Again ≡ Unfinished = sym s.again ∙ (ap verdict_of is ∙ shown) in cc)

-- ---- calls

module _ (r : Rules) (settles : Bool) (phase : Phase) (idle : Type 0) (es : List Entry) where
  pub asks_grown : (idle' : Type 0) (later : List Entry) (trace : Option (List Post)) (t : Tally) → Asks r settles phase idle es trace t
      → AllByRecursion (λ e. FeedsNothing e.event) later → (idle → BeginsAwake later) → (idle → later ≡ [] → idle')
      → Asks r settles phase idle' (es ++ later) trace t
  asks_grown idle' later trace t a unfed woken still = record {
    turns = a.turns;
    asked = record {
      course = record {
        order = a.asked.course.order;
        own = own_grow r es later a.turns (woken_of r es later idle a.turns a.asked.course.own a.still woken) a.asked.course.own;
        lines = a.asked.course.lines ∙ sym (lines_same es later unfed);
      };
      told = a.asked.told;
    };
    still = still_grows r es later idle idle' a.turns a.asked.course.own a.still still;
    far = a.far;
    is = a.is;
    unspent = a.unspent;
  }

  asks_posts : (trace trace' : Option (List Post)) (xs : List Post) (t : Tally) → Asks r settles phase idle es trace t → trace' ≡ followed trace xs
      → words xs ≡ [] → Asks r settles phase idle es trace' t
  asks_posts trace trace' xs t a told none = record {
    turns = a.turns;
    asked = record {
      course = a.asked.course;
      told = followed_told (IsTold r.localities a.turns) (IsTold r.localities a.turns) trace trace' xs told
          (λ old h. silent_told r.localities a.turns xs old none h) a.asked.told;
    };
    still = a.still;
    far = a.far;
    is = a.is;
    unspent = a.unspent;
  }

  pub asks_sent : (trace trace' : Option (List Post)) (t : Tally) → Asks r settles phase idle es trace t → MaySend trace trace' → Asks r settles phase idle es trace' t
  asks_sent trace trace' t a (inl same) = subst (λ tr. Asks r settles phase idle es tr t) (sym same) a
  asks_sent trace trace' t a (inr (to, (frame, (framed, told)))) =
      let none : words (Sent to frame ∷ []) ≡ [] = rw framed refl in asks_posts trace trace' (Sent to frame ∷ []) t a told none

  pub asks_heard : (trace trace' : Option (List Post)) (from : ℕ) (body : List ℕ) (t : Tally) → Asks r settles phase idle es trace t → is_frame body ≡ true
      → trace' ≡ followed trace (Received from body ∷ []) → Asks r settles phase idle es trace' t
  asks_heard trace trace' from body t a framed told =
      let none : words (Received from body ∷ []) ≡ [] = rw framed refl in asks_posts trace trace' (Received from body ∷ []) t a told none

  -- Counts came
  took_asked : (trace trace' : Option (List Post)) (from : ℕ) (body : List ℕ) (t t' : Tally) (a : Asks r settles phase idle es trace t)
      (took : TakesCounts from body t t') → trace' ≡ followed trace (Received from body ∷ []) → IsAsked r settles es trace' (Took from body took.told ∷ a.turns)
  took_asked trace trace' from body t t' a took told =
      let one : word_by (Received from body) ≡ Received from body ∷ [] = rw (counts_is body took.told took.counts) refl in
      record {
        course = record {
          order = ((took.counts, subst (λ x. MayCount x from took.told.wave) a.is took.may), a.asked.course.order);
          own = a.asked.course.own;
          lines = a.asked.course.lines;
        };
        told = followed_told (IsTold r.localities a.turns) (IsTold r.localities (Took from body took.told ∷ a.turns)) trace trace' (Received from body ∷ []) told
            (λ old h. record {
              words = flat-one word_by old (Received from body)
                  ∙ (ap (λ zs. zs ++ word_by (Received from body)) h.words ∙ ap (λ zs. said r.localities a.turns ++ zs) one);
              counted = counted_grow r.localities old (Received from body ∷ []) a.turns h.counted;
            }) a.asked.told;
      }

  took_tally : (trace : Option (List Post)) (from : ℕ) (body : List ℕ) (t t' : Tally) (a : Asks r settles phase idle es trace t) (took : TakesCounts from body t t')
      → t' ≡ tally_of r.localities (Took from body took.told ∷ a.turns)
  took_tally trace from body t t' a took = took.is ∙ ap (counted from (record { sent = took.told.sent; taken = took.told.taken })) a.is

  pub asks_took : (trace trace' : Option (List Post)) (from : ℕ) (body : List ℕ) (t t' : Tally) → Asks r settles phase idle es trace t → TakesCounts from body t t'
      → (IsSpent t' → ⊥) → trace' ≡ followed trace (Received from body ∷ []) → Asks r settles phase idle es trace' t'
  asks_took trace trace' from body t t' a took unspent told = record {
    turns = Took from body took.told ∷ a.turns;
    asked = took_asked trace trace' from body t t' a took told;
    still = a.still;
    far = a.far;
    is = took_tally trace from body t t' a took;
    unspent = unspent;
  }

  -- and no wave is left
  pub asks_spent : (trace trace' : Option (List Post)) (from : ℕ) (body : List ℕ) (t t' : Tally) → Asks r settles phase idle es trace t → TakesCounts from body t t'
      → IsSpent t' → trace' ≡ followed trace (Received from body ∷ []) → AsksBut r settles es trace' Spent
  asks_spent trace trace' from body t t' a took spent told = record {
    earlier = trace';
    is = followed_none trace';
    turns = Took from body took.told ∷ a.turns;
    asked = took_asked trace trace' from body t t' a took told;
    closes = subst IsSpent (took_tally trace from body t t' a took) spent;
  }

  -- nothing is said, and the round is over
  silent_turn : (x : Turn) (turns : List Turn) → said r.localities (x ∷ turns) ≡ said r.localities turns → ((tr : List Post) → AreCounted r.localities tr turns
      → AreCounted r.localities tr (x ∷ turns)) → (trace : Option (List Post)) → ((tr : List Post) → trace ≡ Some tr → IsTold r.localities turns tr)
      → (tr : List Post) → trace ≡ Some tr → IsTold r.localities (x ∷ turns) tr
  silent_turn x turns same counts trace told tr t =
      let h = told tr t in record { words = h.words ∙ sym same; counted = counts tr h.counted }

  pub asks_anew : (trace : Option (List Post)) (t t' : Tally) → Asks r settles phase idle es trace t → waits t ≡ false → t.begun ≡ 4294967295
      → length t.answers ≡ 1 → t' ≡ fresh r.localities
      → Asks r settles phase idle es trace t'
  asks_anew trace t t' a done last alone is = record {
    turns = Anew ∷ a.turns;
    asked = record {
      course = record {
        order = (subst (λ (x : Tally). (waits x ≡ false) × (x.begun ≡ 4294967295) × (length x.answers ≡ 1)) a.is (done, last, alone), a.asked.course.order);
        own = a.asked.course.own;
        lines = a.asked.course.lines;
      };
      told = silent_turn Anew a.turns (append-nil (said r.localities a.turns)) (λ tr h. h) trace a.asked.told;
    };
    still = a.still;
    far = a.far;
    is = is;
    unspent = fresh_unspent r.localities t' is;
  }

  -- a line may be fed, or the lines be over
  may_go_on : (trace : Option (List Post)) (t : Tally) (a : Asks r settles phase idle es trace t) → MayGoOn settles t phase
      → MayGoOn settles (tally_of r.localities a.turns) (phase_of a.turns)
  may_go_on trace t a next = subst (λ y. MayGoOn settles y (phase_of a.turns)) a.is (subst (MayGoOn settles t) a.far next)

  pub asks_closed : (trace : Option (List Post)) (t t' : Tally) → Asks r settles phase idle es trace t → MayGoOn settles t phase → t' ≡ fresh r.localities
      → Asks r settles LinesOver idle es trace t'
  asks_closed trace t t' a next is = record {
    turns = Closed ∷ a.turns;
    asked = record {
      course = record {
        order = (may_go_on trace t a next, a.asked.course.order);
        own = a.asked.course.own;
        lines = a.asked.course.lines;
      };
      told = silent_turn Closed a.turns (append-nil (said r.localities a.turns)) (λ tr h. h) trace a.asked.told;
    };
    still = a.still;
    far = refl;
    is = is;
    unspent = fresh_unspent r.localities t' is;
  }

  pub asks_fed : (idle' : Type 0) (at : ℕ) (a : Name) (bytes : List ℕ) (trace : Option (List Post)) (t t' : Tally) → Asks r settles phase idle es trace t
      → MayGoOn settles t phase → t' ≡ fresh r.localities
      → Asks r settles Serving idle' (es ++ record { at = at; event = Line a bytes } ∷ []) trace t'
  asks_fed idle' at a bytes trace t t' x next is = record {
    turns = Fed (length es) ∷ x.turns;
    asked = record {
      course = record {
        order = (may_go_on trace t x next, x.asked.course.order);
        own = (
          omega (arith, length-append es (record { at = at; event = Line a bytes } ∷ [])),
          behind_all r es x.turns x.asked.course.own,
          own_grow r es (record { at = at; event = Line a bytes } ∷ []) x.turns
              (woken_of r es (record { at = at; event = Line a bytes } ∷ []) idle x.turns x.asked.course.own x.still (λ i. tt)) x.asked.course.own,
        );
        lines = ap (λ zs. length es ∷ zs) x.asked.course.lines ∙ sym (lines_fed es at a bytes);
      };
      told = silent_turn (Fed (length es)) x.turns (append-nil (said r.localities x.turns)) (λ tr h. h) trace x.asked.told;
    };
    still = tt;
    far = refl;
    is = is;
    unspent = fresh_unspent r.localities t' is;
  }

-- how many posts there are, where it tells
abbrev count_in : Option (List Post) → ℕ
count_in None = 0
count_in (Some tr) = length tr

began_told : (n e : ℕ) (x : Counted) (turns : List Turn) (trace trace' : Option (List Post)) (xs : List Post) → trace' ≡ followed trace xs
    → xs ≡ told_others (wave_body (tally_of n turns).begun) n → words xs ≡ xs
    → ((tr : List Post) → trace ≡ Some tr → (x.sent ≡ length (frames_sent 0 tr)) × (x.taken ≡ length (frames_got 0 tr)))
    → ((tr : List Post) → trace ≡ Some tr → IsTold n turns tr) → (tr : List Post) → trace' ≡ Some tr → IsTold n (Began (count_in trace) e x ∷ turns) tr
began_told n e x turns None trace' xs is posts all frames told tr t = absurd (let e = sym is ∙ t in cc)
began_told n e x turns (Some old) trace' xs is posts all frames told tr t =
    subst (IsTold n (Began (length old) e x ∷ turns)) (some_is (old ++ xs) tr (sym is ∙ t)) now
  where
    h : IsTold n turns old
    h = told old refl

    f : (x.sent ≡ length (frames_sent 0 old)) × (x.taken ≡ length (frames_got 0 old))
    f = frames old refl

    now : IsTold n (Began (length old) e x ∷ turns) (old ++ xs)
    now = record {
      words = flat-append word_by old xs ∙ (ap (λ zs. zs ++ words xs) h.words ∙ ap (λ zs. said n turns ++ zs) (all ∙ posts));
      counted = (
        record {
          within = omega (arith, length-append old xs);
          words = ap words (take-append_seam old xs) ∙ h.words;
          sent = f.0 ∙ ap (λ zs. length (frames_sent 0 zs)) (sym (take-append_seam old xs));
          taken = f.1 ∙ ap (λ zs. length (frames_got 0 zs)) (sym (take-append_seam old xs));
        },
        counted_grow n old xs turns h.counted,
      );
    }

pub asks_began : (r : Rules) (settles : Bool) (phase : Phase) (idle : Type 0) (es : List Entry) (trace trace' : Option (List Post)) (others : ℕ) (x : Counted) (t t' : Tally)
    → Asks r settles phase idle es trace t → idle → r.localities ≡ suc others → waits t ≡ false → IsDue settles phase → t.begun < 4294967295 → IsOwnAt r es (length es) x
    → ((tr : List Post) → trace ≡ Some tr → (x.sent ≡ length (frames_sent 0 tr)) × (x.taken ≡ length (frames_got 0 tr)))
    → trace' ≡ followed trace (told_all (wave_body t.begun) others) → t' ≡ opened x t → Asks r settles phase idle es trace' t'
asks_began r settles phase idle es trace trace' others x t t' a now members done due more own frames told is = record {
  turns = Began (count_in trace) (length es) x ∷ a.turns;
  asked = record {
    course = record {
      order = ((subst (λ y. waits y ≡ false) a.is done, subst (IsDue settles) a.far due, subst (λ (y : Tally). y.begun < 4294967295) a.is more), a.asked.course.order);
      own = (own, behind_all r es a.turns a.asked.course.own, a.asked.course.own);
      lines = a.asked.course.lines;
    };
    told = began_told r.localities (length es) x a.turns trace trace' (told_all (wave_body t.begun) others) told
        (subst (λ n. told_all (wave_body t.begun) others ≡ told_others (wave_body (tally_of r.localities a.turns).begun) n) (sym members)
        (ap (λ (y : Tally). told_all (wave_body y.begun) others) a.is))
        (words_told (wave_body t.begun) others refl) frames a.asked.told;
  };
  still = λ j. now;
  far = a.far;
  is = is ∙ ap (opened x) a.is;
  unspent = opened_unspent x t t' is;
}

-- ---- at the start

pub asks_first : (r : Rules) (settles : Bool) (idle : Type 0) (es : List Entry) (trace : Option (List Post)) (t : Tally) → es ≡ []
    → ((tr : List Post) → trace ≡ Some tr → tr ≡ []) → t ≡ fresh r.localities → Asks r settles Unfed idle es trace t
asks_first r settles idle es trace t none empty is = record {
  turns = [];
  asked = record {
    course = record { order = tt; own = tt; lines = ap (lines_from 0) (sym none) };
    told = λ tr t. subst (IsTold r.localities []) (sym (empty tr t)) (record { words = refl; counted = tt });
  };
  still = tt;
  far = refl;
  is = is;
  unspent = fresh_unspent r.localities t is;
}

-- ---- where it ends

module _ (r : Rules) (settles : Bool) (phase : Phase) (idle : Type 0) (es : List Entry) (trace trace' : Option (List Post)) (t : Tally)
    (a : Asks r settles phase idle es trace t) where
  unspent_here : IsSpent (tally_of r.localities a.turns) → ⊥
  unspent_here = subst (λ y. IsSpent y → ⊥) a.is a.unspent

  pub asks_whole : AsksBut r settles es trace Nothing
  asks_whole = record { earlier = trace; is = followed_none trace; turns = a.turns; asked = a.asked; closes = unspent_here }

  pub asks_refused : (from : ℕ) (body : List ℕ) → trace' ≡ followed trace (Received from body ∷ []) → IsUnasked t from body
      → AsksBut r settles es trace' (Refused from body)
  asks_refused from body told odd = record {
    earlier = trace;
    is = told;
    turns = a.turns;
    asked = a.asked;
    closes = (subst (λ y. IsUnasked y from body) a.is odd, unspent_here);
  }

  pub asks_asking : (others : ℕ) (s : ToldSome (wave_body t.begun) others trace trace') → r.localities ≡ suc others → IsDue settles phase
      → t.begun < 4294967295 → AsksBut r settles es trace' (Asking t.begun s.some)
  asks_asking others s members due more = record {
    earlier = trace;
    is = s.is;
    turns = a.turns;
    asked = a.asked;
    closes = (subst (IsDue settles) a.far due, ap (λ (y : Tally). y.begun) a.is, omega (arith, s.few, members), more);
  }

  pub asks_ending : (others some : ℕ) → trace' ≡ followed trace (told_all end_body some) → some ≤ others → r.localities ≡ suc others
      → phase ≡ LinesOver → verdict_of t ≡ Ended
      → AsksBut r settles es trace' (Ending some)
  asks_ending others some told few members closed over = record {
    earlier = trace;
    is = told;
    turns = a.turns;
    asked = a.asked;
    closes = (sym a.far ∙ closed, subst (λ y. verdict_of y ≡ Ended) a.is over, omega (arith, few, members));
  }

-- ---- how many members are counted

tally_count : (n : ℕ) (turns : List Turn) → length (tally_of n turns).answers ≡ n
tally_count n [] = length-replicate _ _
tally_count n (Fed e ∷ earlier) = length-replicate _ _
tally_count n (Began p e x ∷ earlier) = length-set _ _ _ ∙ (length-replicate _ _ ∙ tally_count n earlier)
tally_count n (Took from body c ∷ earlier) = length-set _ _ _ ∙ tally_count n earlier
tally_count n (Anew ∷ earlier) = length-replicate _ _
tally_count n (Closed ∷ earlier) = length-replicate _ _

pub asks_count : (r : Rules) (settles : Bool) (phase : Phase) (idle : Type 0) (es : List Entry) (trace : Option (List Post)) (t : Tally) → Asks r settles phase idle es trace t
    → length t.answers ≡ r.localities
asks_count r settles phase idle es trace t a = ap (λ (y : Tally). length y.answers) a.is ∙ tally_count r.localities a.turns

-- ---- a word that is told to one more member

pub told_more : (body : List ℕ) (k m : ℕ) (trace mid trace' : Option (List Post)) → mid ≡ followed trace (told_all body k)
    → trace' ≡ followed mid (Sent m body ∷ []) → m ≡ k + 1 → trace' ≡ followed trace (told_all body m)
told_more body k m trace mid trace' told said next =
    let one : m ≡ suc k = omega (arith, next) in
    said ∙ (ap (λ x. followed x (Sent m body ∷ [])) told ∙ (followed_then trace (told_all body k) (Sent m body ∷ [])
    ∙ subst (λ i. followed trace (told_all body k ++ Sent i body ∷ []) ≡ followed trace (told_all body i)) (sym one) refl))
  where
    followed_then : (trace : Option (List Post)) (xs ys : List Post) → followed (followed trace xs) ys ≡ followed trace (xs ++ ys)
    followed_then None xs ys = refl
    followed_then (Some tr) xs ys = ap (λ zs. Some zs) (append_assoc tr xs ys)

pub told_none : (trace : Option (List Post)) (body : List ℕ) → trace ≡ followed trace (told_all body 0)
told_none trace body = followed_none trace

pub told_some : (body : List ℕ) (others k : ℕ) (trace mid trace' : Option (List Post)) → mid ≡ followed trace (told_all body k) → trace' ≡ mid → k ≤ others
    → ToldSome body others trace trace'
told_some body others k trace mid trace' told same few = record { some = k; few = few; is = same ∙ told }
