-- Members that tell their numbers up to a foreign arrival: in a join there is none.
use Rattle.std.proofs.Common.{ℕ, zero, suc, List, [], ◌∷◌, ◌≡◌, ◌<◌, take, drop}
use Rattle.std.specs.List.{AllByRecursion}
use Rattle.hpx_journal.specs.Entries.{Rules}
use Rattle.hpx_journal.specs.declared.entry.Entry.{Entry}
use Rattle.hpx_journal.specs.declared.local.Local.{Local}
use Rattle.hpx_journal.specs.Local.{boot, after}
use Rattle.hpx_journal.specs.Roots.{roots}
use Rattle.hpx_journal.specs.Laws.{HasGrammar}
use Rattle.hpx_journal.specs.Whole.{IsJoin, IsClean, IsQuiet, part, replayed}
use Rattle.hpx_journal.proofs.Start.{joined_legal, legal_part_clean}
use Rattle.hpx_journal.specs.Sessions.{FeedsNothing}
use Rattle.hpx_ended.specs.Waves.{Answers, IsWaveRun, IsToldRun, IsBetween, IsAtRest, Agree, greatest}
use Rattle.hpx_ended.specs.Tally.{Tally, Tells, verdict_of}
use Rattle.hpx_ended.specs.declared.round.Verdict.TheVariants.{Ended}
use Rattle.hpx_ended.proofs.Waves.{between_road, between_rest, between_quiet, end_quiet, last_between}
use Rattle.hpx_ended.proofs.Tallies.{tells_ended}

clean_front : (r : Rules) (s : Local) (es : List Entry) (n : ℕ) → IsClean r s es → IsClean r s (take n es)
clean_front r s es zero h = tt
clean_front r s [] (suc n) h = tt
clean_front r s (e ∷ es) (suc n) h = (h.0, clean_front r (after r s e.event) es n h.1)

module _ (r : Rules) (es : List Entry) (v : Answers) (grammar : HasGrammar r) (join : IsJoin r es) (told : IsToldRun r es v) where
  pub told_run : IsWaveRun r es v
  told_run = record {
    rest = λ w k h here. told.rest w k h here
        (clean_front r (boot (roots r.localities k) k) (part k es) (v.lengths w k)
        (legal_part_clean r es (joined_legal r grammar es join) grammar k here));
    stand = told.stand;
    order = told.order;
    lines = told.lines;
  }

  module _ (w : ℕ) (tally : Tally) (within : suc w < v.number) (round : v.rounds w ≡ v.rounds (suc w)) (tells : Tells r es v w tally) (ended : verdict_of tally ≡ Ended) where
    agree : Agree r es v w
    agree = record { within = within; round = round; same = tells_ended r es v w tally tells ended }

    pub told_road : (t : ℕ) → IsBetween r v w t → (replayed r (take t es)).road ≡ []
    told_road t between = between_road r es (joined_legal r grammar es join) v told_run w agree t between

    pub told_rest : (t k : ℕ) → IsBetween r v w t → k < r.localities → IsAtRest r k (part k (take t es))
    told_rest t k between here = between_rest r es (joined_legal r grammar es join) v told_run w agree t between k here

    pub told_quiet : (t : ℕ) → IsBetween r v w t → IsQuiet r (replayed r (take t es))
    told_quiet t between = between_quiet r es (joined_legal r grammar es join) v told_run w agree t between

    pub told_end : AllByRecursion (λ e. FeedsNothing e.event) (drop (v.lengths w 0) (part 0 es)) → IsQuiet r (replayed r es)
    told_end unfed =
        end_quiet r es (joined_legal r grammar es join) v told_run w agree (greatest r.localities (v.places w)) (last_between r es v w told_run within) unfed
