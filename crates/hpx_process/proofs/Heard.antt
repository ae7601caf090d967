-- What the members of a session leave, put together.
use Rattle.std.specs.Prelude.{suc, zero, ◌+◌, ◌≤◌, ◌<◌, IfSome, drop, length}
use Rattle.std.specs.List.{concat, flat_map, AllByRecursion}
use Rattle.std.proofs.Common.{ℕ, Bool, List, [], ◌∷◌, ◌++◌, ◌≡◌, Option, Some, None, refl, sym, ap, ◌∙◌, subst, arith, inl, inr, map, append-nil, append_assoc}
use Rattle.hpx_value.specs.declared.profile.Profile.{Profile}
use Rattle.hpx_journal.specs.Entries.{Rules}
use Rattle.hpx_journal.specs.Foreign.{NodeKeeps}
use Rattle.hpx_journal.specs.Laws.{RefusesForCause, count_events, is_refused_count}
use Rattle.hpx_journal.specs.Pool.{NoneFails, prints_of}
use Rattle.hpx_journal.specs.Sessions.{FeedsNothing, entries_of}
use Rattle.hpx_journal.specs.Whole.{IsClean, IsJoin, IsLegal, IsQuiet, part, replayed, run_local}
use Rattle.hpx_journal.proofs.Failures.{legal_refusals}
use Rattle.hpx_journal.proofs.Grow.{part_at}
use Rattle.hpx_journal.proofs.Start.{joined_legal, legal_part_clean}
use Rattle.hpx_parcel.specs.Reading.{parcel_of}
use Rattle.hpx_part.specs.Data.{Entry, Event, Line}
use Rattle.hpx_part.specs.Parts.{at_boot}
use Rattle.hpx_ports.specs.Told.{followed}
use Rattle.hpx_tables.specs.Tables.{Tables}
use Rattle.hpx_steps.specs.Onward.{HaveGone}
use Rattle.hpx_steps.specs.Rest.{StandsAtRest, rules_of}
use Rattle.hpx_steps.specs.Sound.{IsSound}
use Rattle.hpx_steps.specs.Turn.{at_rest}
use Rattle.hpx_steps.proofs.AtRest.{rest_stands}
use Rattle.hpx_node.proofs.RowLaws.{refuses_for_cause}
use Rattle.hpx_ended.specs.Tally.{verdict_of}
use Rattle.hpx_ended.specs.declared.round.Verdict.TheVariants.{Ended}
use Rattle.hpx_member.specs.Feeding.{FeedsIdle, IsIdle}
use Rattle.hpx_member.specs.Leads.{Ends}
use Rattle.hpx_member.specs.Rounds.{AreOwn, Closes, IsBehind, Last, Nothing, Asking, Ending, Refused, Spent, Turn, Fed, Began, Took, Anew, Closed, fed_at, line_at, lines_from, tally_of}
use Rattle.hpx_member.specs.Seats.{IsNodeAt, IsPart}
use Rattle.hpx_member.specs.declared.stop.MemberFault.{MemberFault}
use Rattle.hpx_patient.specs.Lines.{LinesStay}
use Rattle.hpx_patient.specs.Patient.{IsPatientPart, IsReady}
use Rattle.hpx_patient.proofs.Prints.{legal_prints}
use Rattle.hpx_joined.specs.Ends.{HasEnded, line_by, lines_in}
use Rattle.hpx_joined.proofs.Computed.{ended_quiet, number_printed, ring_printed}
use Rattle.hpx_joined.proofs.Spoken.{session_said, silent_behind}
use Rattle.app_console.specs.Console.{prompt}
use Rattle.app_console.specs.Lines.{lines_of, opening}
use Rattle.app_console.specs.Plain.{opened}
use Rattle.app_console.specs.Text.{lines_text, marked}
use Rattle.app_console.specs.declared.table.Console.TheVariants.{Accumulator as AccumulatorConsole}
use Rattle.hpx_top.specs.Acts.{act_of}
use Rattle.hpx_top.specs.Session.{lines_by, lines_fed}
use Rattle.hpx_top.specs.Runs.{Ports}
use Rattle.hpx_top.specs.Texts.{commands}
use Rattle.hpx_top.specs.declared.consoles.UserConsole.TheVariants.{Accumulator}
use Rattle.hpx_top.proofs.ActLemmas.{acting, judged}
use Rattle.hpx_process.specs.Joined.{AreHeard, AreJoined, problem_texts, waves_at}
use Rattle.hpx_process.specs.Members.{HasSat, Left}
use Rattle.hpx_process.specs.Memberships.{IsProblem, problem_line}
use Rattle.hpx_process.specs.Parts.{IsWhole, part_text}
use Rattle.hpx_process.proofs.Said.{blocks_begin, blocks_entries, blocks_text, clean_front, fed_blocks, feeds_ready, line_in, ready_of}
use Rattle.hpx_process.proofs.Unsent.{lines_stay}
use Rattle.hpx_process.specs.declared.problem.Problem as Problems
use Rattle.hpx_process.specs.declared.problem.Problem.TheVariants.{Number, Ring}

-- ---- lines stand before the waves of the last round

all_weaker : (a b : ℕ) (xs : List ℕ) → a ≤ b → AllByRecursion (λ i. i < a) xs → AllByRecursion (λ i. i < b) xs
all_weaker a b [] le h = tt
all_weaker a b (x ∷ xs) le h = (omega (arith, h.0, le), all_weaker a b xs le h.1)

fed_behind : (r : Rules) (es : List Entry) (turns : List Turn) (n : ℕ) → IsBehind turns n → AreOwn r es turns → AllByRecursion (λ i. i < n) (fed_at turns)
fed_behind r es [] n b own = tt
fed_behind r es (Fed e ∷ earlier) n b own = (b, all_weaker e n (fed_at earlier) (omega (arith, b)) (fed_behind r es earlier e own.1 own.2))
fed_behind r es (Began p e x ∷ earlier) n b own = all_weaker e n (fed_at earlier) b (fed_behind r es earlier e own.1 own.2)
fed_behind r es (Took from body c ∷ earlier) n b own = fed_behind r es earlier n b own
fed_behind r es (Anew ∷ earlier) n b own = fed_behind r es earlier n b own
fed_behind r es (Closed ∷ earlier) n b own = fed_behind r es earlier n b own

before_last : (r : Rules) (es : List Entry) (turns : List Turn) (e : ℕ) (before : List ℕ) → waves_at turns ≡ e ∷ before → AreOwn r es turns → AllByRecursion (λ i. i < e) (fed_at turns)
before_last r es [] e before is own = absurd (let no : [] ≡ e ∷ before = is in cc)
before_last r es (Fed f ∷ earlier) e before is own = absurd (let no : [] ≡ e ∷ before = is in cc)
before_last r es (Began p f x ∷ earlier) e before is own = let same : f ≡ e = cc in subst (λ n. AllByRecursion (λ i. i < n) (fed_at earlier)) same (fed_behind r es earlier f own.1 own.2)
before_last r es (Took from body c ∷ earlier) e before is own = before_last r es earlier e before is own
before_last r es (Anew ∷ earlier) e before is own = absurd (let no : [] ≡ e ∷ before = is in cc)
before_last r es (Closed ∷ earlier) e before is own = absurd (let no : [] ≡ e ∷ before = is in cc)

before_two : (r : Rules) (es : List Entry) (turns : List Turn) (f e : ℕ) (before : List ℕ) → waves_at turns ≡ f ∷ (e ∷ before) → AreOwn r es turns → AllByRecursion (λ i. i < e) (fed_at turns)
before_two r es [] f e before is own = absurd (let no : [] ≡ f ∷ (e ∷ before) = is in cc)
before_two r es (Fed g ∷ earlier) f e before is own = absurd (let no : [] ≡ f ∷ (e ∷ before) = is in cc)
before_two r es (Began p g x ∷ earlier) f e before is own = let rest : waves_at earlier ≡ e ∷ before = cc in before_last r es earlier e before rest own.2
before_two r es (Took from body c ∷ earlier) f e before is own = before_two r es earlier f e before is own
before_two r es (Anew ∷ earlier) f e before is own = absurd (let no : [] ≡ f ∷ (e ∷ before) = is in cc)
before_two r es (Closed ∷ earlier) f e before is own = absurd (let no : [] ≡ f ∷ (e ∷ before) = is in cc)

all_parts : (P : ℕ → Type 0) (xs ys : List ℕ) → AllByRecursion P (xs ++ ys) → AllByRecursion P xs × AllByRecursion P ys
all_parts P [] ys h = (tt, h)
all_parts P (x ∷ xs) ys h = let rest = all_parts P xs ys h.1 in ((h.0, rest.0), rest.1)

-- behind so many entries no line is fed, where all lines stand before
none_behind : (n m : ℕ) (es : List Entry) → AllByRecursion (λ i. i < n + m) (lines_from n es) → AllByRecursion (λ e. FeedsNothing e.event) (drop m es)
none_behind n zero [] h = tt
none_behind n (suc m) [] h = tt
none_behind n zero (e ∷ es) h =
    let both = all_parts (λ i. i < n + 0) (lines_from (suc n) es) (line_at n e.event) h in
    (no_line e.event both.1, none_behind (suc n) zero es (all_weaker (n + 0) (suc n + 0) (lines_from (suc n) es) (omega arith) both.0))
  where
    no_line : (x : Event) → AllByRecursion (λ i. i < n + 0) (line_at n x) → FeedsNothing x
    no_line (Line a bytes) h = absurd (omega (arith, h.0))
    no_line _ h = tt
none_behind n (suc m) (e ∷ es) h =
    let both = all_parts (λ i. i < n + suc m) (lines_from (suc n) es) (line_at n e.event) h in
    none_behind (suc n) m es (all_weaker (n + suc m) (suc n + m) (lines_from (suc n) es) (omega arith) both.0)

-- ---- the end of a console

ends_well : (n : ℕ) (fault : Option MemberFault) (last : Last) → Ends n 0 fault last → (some : ℕ) × (last ≡ Ending some)
ends_well n fault Nothing h = absurd (h.0 refl)
ends_well n fault (Asking wave some) (inl h) = absurd (omega (arith, h))
ends_well n fault (Asking wave some) (inr h) = absurd (omega (arith, h))
ends_well n fault (Ending some) h = (some, refl)
ends_well n fault (Refused from body) h = absurd (omega (arith, h.0))
ends_well n fault Spent h = absurd (omega (arith, h.0))

lines_same : (es : List Entry) → lines_in es ≡ lines_fed es
lines_same [] = refl
lines_same (e ∷ es) = by e.event ∙ ap (λ l. lines_by e.event ++ l) (lines_same es)
  where
    by : (x : Event) → line_by x ++ lines_in es ≡ lines_by x ++ lines_in es
    by (Line a bytes) = refl
    by _ = refl

-- ---- all of them

module _ (n : ℕ) (p : Profile) (settles : Bool) (ms : ℕ → Left) (es : List Entry) (some : 1 ≤ n) (few : n ≤ 64) (j : AreJoined n p settles ms es) where
  abbrev r : Rules
  r = rules_of act_of n p

  journal_at : (k : ℕ) → k < n → IsPart r k (ms k).entries
  journal_at zero h = j.console.member.journal
  journal_at (suc k) h = (j.workers (suc k) (omega arith) h).member.journal

  pub joined : IsJoin r es
  joined = record { parts = λ k h. subst (NodeKeeps r _) (sym (j.parts k h)) (journal_at k h).keeps; carried = j.carried }

  legal : IsLegal r es
  legal = joined_legal r (judged n p some few).grammar es joined

  stands_at : (k : ℕ) (t : Tables) (entries : List Entry) → IsNodeAt act_of k n p t entries → StandsAtRest r t entries
  stands_at k t entries node =
      rest_stands t r entries (subst (λ q. IsSound (rules_of act_of n q) (at_rest t) entries) node.profile
      (subst (λ m. IsSound (rules_of act_of m t.profile) (at_rest t) entries) node.localities node.stands))

  by_node : (k : ℕ) (t : Option Tables) (entries : List Entry) → IsPart r k entries → IfSome t (λ t. IsNodeAt act_of k n p t entries) → (t ≡ None → entries ≡ []) → RefusesForCause r entries
  by_node k None entries at node unbooted = subst (RefusesForCause r) (sym (unbooted refl)) (record { few = omega arith })
  by_node k (Some t) entries at node unbooted =
      subst (RefusesForCause r) (ap (λ i. part i entries) node.here ∙ part_at k entries at.own) (refuses_for_cause r t entries (stands_at k t entries node).stands)

  cause_at : (k : ℕ) → k < n → RefusesForCause r (ms k).entries
  cause_at zero h = by_node zero (ms zero).node (ms zero).entries (journal_at zero h) j.console.member.node (λ none. (j.console.member.unbooted none).1)
  cause_at (suc k) h =
      let w = (j.workers (suc k) (omega arith) h).member in
      by_node (suc k) (ms (suc k)).node (ms (suc k)).entries (journal_at (suc k) h) w.node (λ none. (w.unbooted none).1)

  -- where no Count is refused no action fails
  calm : count_events is_refused_count es ≡ 0 → NoneFails es
  calm none = omega (arith, legal_refusals r es legal (λ k h. subst (RefusesForCause r) (sym (j.parts k h)) (cause_at k h)), none)

  -- ---- the session

  gone_from : (t : Option Tables) (entries : List Entry) → IsPart r 0 entries → IfSome t (λ t. IsNodeAt act_of 0 n p t entries) → (t ≡ None → entries ≡ []) → HaveGone r 0 entries
  gone_from None entries at node unbooted = λ before after e to bytes q act is. absurd (nowhere before e after (sym (unbooted refl) ∙ is))
    where
      nowhere : (before : List Entry) (e : Entry) (after : List Entry) → [] ≡ before ++ e ∷ after → ⊥
      nowhere [] e after h = cc
      nowhere (x ∷ before) e after h = cc
  gone_from (Some t) entries at node unbooted =
      let stands = stands_at 0 t entries node in
      subst (HaveGone r 0) (part_at 0 entries at.own) (subst (λ k. HaveGone r k (part k entries)) node.here stands.homes.gone)

  stay : LinesStay r es
  stay = lines_stay r es (judged n p some few).grammar (omega (arith, some)) legal
      (subst (HaveGone r 0) (sym (j.parts 0 (omega (arith, some))))
      (gone_from (ms 0).node (ms 0).entries (journal_at 0 (omega (arith, some))) j.console.member.node (λ none. (j.console.member.unbooted none).1)))

  clean_here : IsClean r (at_boot r 0) (ms 0).entries
  clean_here = subst (IsClean r (at_boot r 0)) (j.parts 0 (omega (arith, some))) (legal_part_clean r es legal (judged n p some few).grammar 0 (omega (arith, some)))

  module _ (x z : Ports) (well : (ms 0).status ≡ 0) (none : count_events is_refused_count es ≡ 0) (did : HasSat r (ms 0) x z) (input : List ℕ) (left : x.left ≡ Some input)
      (short : length (lines_of input) < 4000000000) where
    abbrev w : IsWhole r input (ms 0).entries x.text z.text
    w = did.whole well input left

    abbrev blocks : List (List Entry)
    blocks = w.first ∷ fed_blocks w.parts

    front_is : entries_of blocks ≡ w.first ++ flat_map (λ q. q.entries) w.parts
    front_is = ap (λ l. w.first ++ l) (sym (blocks_entries w.parts w.each))

    own_is : (ms 0).entries ≡ entries_of blocks ++ w.later
    own_is = w.is ∙ (sym (append_assoc w.first (flat_map (λ q. q.entries) w.parts) w.later) ∙ ap (λ l. l ++ w.later) (sym front_is))

    feeds_here : FeedsIdle r (at_boot r 0) (ms 0).entries
    feeds_here = elim did.served.serves [
      | inl h ↦ (h.1).feeds
      | inr h ↦ (h.2).feeds
    ]

    ready_behind : IsReady (run_local r (at_boot r 0) (entries_of blocks))
    ready_behind = ready_of (run_local r (at_boot r 0) (entries_of blocks)) (subst (λ l. IsIdle (run_local r (at_boot r 0) l)) (sym front_is)
        (w.idle (subst (IsClean r (at_boot r 0)) front_is (clean_front r (at_boot r 0) (entries_of blocks) w.later (subst (IsClean r (at_boot r 0)) own_is clean_here)))))

    abbrev lines : List (List ℕ)
    lines = map line_in w.parts

    few_lines : length lines < 4000000000
    few_lines = subst (λ l. length l < 4000000000) (sym w.lines) short

    its_part : IsPatientPart r (part 0 es) (opening ∷ marked 97 lines) blocks w.later
    its_part = subst (λ own. IsPatientPart r own (opening ∷ marked 97 lines) blocks w.later) (sym (j.parts 0 (omega (arith, some)))) (record {
      begin = (w.opened, blocks_begin w.parts w.each);
      is = own_is;
      feeds = feeds_ready r (at_boot r 0) (ms 0).entries feeds_here clean_here;
      ready = ready_behind;
    })

    silent : concat (prints_of w.later) ≡ []
    silent = silent_behind acting n p.credit_log p.credit_limit parcel_of some few es (judged n p some few).grammar joined (calm none) stay lines few_lines blocks w.later its_part w.unfed
        (ready_of (run_local r (at_boot r 0) (part 0 es)) (subst (λ l. IsIdle (run_local r (at_boot r 0) l)) (sym (j.parts 0 (omega (arith, some)))) (j.console.rest well clean_here)))

    pub said : z.text ≡ followed x.text (commands Accumulator ++ (lines_text AccumulatorConsole n (opened n) (lines_of input) ++ prompt))
    said =
        let texts = session_said acting n p.credit_log p.credit_limit parcel_of some few es (judged n p some few).grammar joined (calm none) stay lines few_lines blocks w.later its_part in
        w.text ∙ ap (λ t. followed x.text (commands Accumulator ++ t))
        (ap (λ t. t ++ (flat_map part_text w.parts ++ (prompt ++ concat (prints_of w.later)))) texts.0
        ∙ (ap (λ t. t ++ (prompt ++ concat (prints_of w.later))) (blocks_text w.parts w.each ∙ (texts.1 ∙ ap (lines_text AccumulatorConsole n (opened n)) w.lines))
        ∙ ap (λ t. lines_text AccumulatorConsole n (opened n) (lines_of input) ++ t) (ap (λ t. prompt ++ t) silent ∙ append-nil prompt)))

  -- ---- what is computed

  module _ (well : (ms 0).status ≡ 0) (heard : AreHeard r es j.console.asked.asked.turns) where
    abbrev turns : List Turn
    turns = j.console.asked.asked.turns

    ending : verdict_of (tally_of n turns) ≡ Ended
    ending =
        let last = ends_well n (ms 0).fault j.console.asked.last (subst (λ s. Ends n s (ms 0).fault j.console.asked.last) well j.console.asked.ends) in
        (subst (Closes n settles turns) last.1 j.console.asked.asked.closes).1

    pub has_ended : HasEnded r es
    has_ended = record {
      answers = heard.answers;
      wave = heard.wave;
      tally = tally_of n turns;
      told = heard.told;
      within = heard.within;
      round = heard.round;
      tells = heard.tells;
      ended = ending;
      last = subst (λ own. AllByRecursion (λ e. FeedsNothing e.event) (drop (heard.answers.lengths heard.wave 0) own)) (sym (j.parts 0 (omega (arith, some))))
          (none_behind 0 (heard.answers.lengths heard.wave 0) (ms 0).entries
          (all_weaker (heard.answers.lengths heard.wave 0) (0 + heard.answers.lengths heard.wave 0) (lines_from 0 (ms 0).entries) (omega arith)
          (subst (AllByRecursion (λ i. i < heard.answers.lengths heard.wave 0)) j.console.asked.asked.asked.course.lines
          (before_two r (ms 0).entries turns (heard.answers.lengths (suc heard.wave) 0) (heard.answers.lengths heard.wave 0) heard.before heard.own j.console.asked.asked.asked.course.own))));
    }

    pub quiet : IsQuiet r (replayed r es)
    quiet = ended_quiet r es (judged n p some few).grammar joined has_ended

    own_prints : prints_of (ms 0).entries ≡ prints_of es
    own_prints = ap prints_of (sym (j.parts 0 (omega (arith, some)))) ∙ sym (legal_prints r (judged n p some few).grammar (judged n p some few).laws es legal)

    own_lines : (line : List ℕ) → lines_fed (ms 0).entries ≡ line ∷ [] → lines_in (part 0 es) ≡ line ∷ []
    own_lines line fed = ap lines_in (j.parts 0 (omega (arith, some))) ∙ (lines_same (ms 0).entries ∙ fed)

    pub computed : (problem : Problems.Problem) → IsProblem problem → count_events is_refused_count es ≡ 0 → lines_fed (ms 0).entries ≡ problem_line problem ∷ []
        → prints_of (ms 0).entries ≡ problem_texts problem
    computed (Number question) ranges none fed =
        own_prints ∙ number_printed r es (judged n p some few) joined has_ended (calm none) question.number question.threshold ranges (own_lines _ fed)
    computed (Ring shape) ranges none fed =
        own_prints ∙ ring_printed r es (judged n p some few) joined has_ended (calm none) shape.points shape.parts shape.steps ranges (own_lines _ fed)
