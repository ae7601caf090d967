use Rattle.std.proofs.Common.{[], arith, sym, subst, cond, ◌≡◌, true}
use Rattle.std.specs.List.{list_any}
use Rattle.hpx_journal.specs.Entries.{same_frame}
use Rattle.hpx_journal.specs.Laws.{road_run}
use Rattle.hpx_journal.proofs.Grow.{run_part, run_road, legal_part, legal_carried, road_sum, flight_on_road, carried_by_counts}
use Rattle.hpx_journal.proofs.Start.{first, road_native}
use Rattle.hpx_journal.proofs.law.part_law.Goals as goal

pub returns-clause-part : goal.returns-clause-part
returns-clause-part c = λ r es k. run_part r (first r) es k

pub returns-clause-allowed : goal.returns-clause-allowed
returns-clause-allowed c = λ r es k h. legal_part r (first r) es h k

pub returns-clause-road : goal.returns-clause-road
returns-clause-road c = λ r es. run_road r (first r) es

pub returns-clause-frames : goal.returns-clause-frames
returns-clause-frames c = λ r es f h. omega (arith, road_sum r [] es (legal_carried r (first r) es h) (λ x. cond (same_frame f x) 1 0))

pub returns-clause-on_road : goal.returns-clause-on_road
returns-clause-on_road c = λ r es flight f same on.
    subst (λ road. list_any (same_frame f) road ≡ true) (sym (run_road r (first r) es)) (flight_on_road f (road_run [] es) flight same on)

pub returns-clause-native : goal.returns-clause-native
returns-clause-native c = λ r es k bytes grammar h i on foreign. road_native r es h grammar k bytes i on foreign

pub returns-clause-carried : goal.returns-clause-carried
returns-clause-carried c = λ r es at h. carried_by_counts r [] es at (λ p q t f. omega (arith, h p q t f))
