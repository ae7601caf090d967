-- What is left in a hand of a commit that waited.
use Rattle.hpx_node.proofs.Common.{AllByRecursion, HasCredit, HasRightCredit, HasSplit, HaveNone, Id, IsFitJob, KeepsLaws, List, Waits, drop, halves_ahead, halves_have, ids_named, later_none, length, long_enough, plain, take, ups_failed, ups_limit, ℕ, ◌+◌, ◌∙◌, ◌≡◌, ◌≤◌}
use Rattle.hpx_node.proofs.Planned.{none_of, rights}
use Rattle.hpx_node.proofs.Seen.{fit_seen}

-- behind its own ids there are those that it would make, without credit, and halves
pub record HasLeft (w : Waits) (hand : List Id) : Type 0 where
  pub long : length (ids_named w) ≤ length hand → length w.job.state.ids + length (plain w.job.action).ids + length w.outcome.makes ≤ length hand
  pub halves : AllByRecursion HasCredit (halves_ahead w.job.state (plain w.job.action) (length w.outcome.makes) hand)
  pub later : HaveNone (take (length w.outcome.makes) (drop (length w.job.state.ids + length (plain w.job.action).ids) hand))
  pub limit : (n : ℕ) → KeepsLaws n w.job.kind w.job.at w.job.state (plain w.job.action) w.outcome
      → length (ups_failed w.job.state (plain w.job.action) (length w.outcome.makes) hand) ≤ 227

pub has_left : (log : ℕ) (w : Waits) (hand : List Id) → IsFitJob w.job → HasSplit log w
    → drop (length (ids_named w)) hand ≡ drop (length (ids_named w)) w.hand → HasLeft w hand
has_left log w hand fit split same =
    let its = fit_seen w.job fit in
    let none = none_of split.made split.bare in
    let rest = same ∙ split.rest in record {
      long = long_enough HasRightCredit HasCredit rights w.job.state (plain w.job.action) w.outcome its.credit its.action.sent.credit hand split.made split.kinds none split.within rest;
      halves = halves_have HasRightCredit HasCredit rights w.job.state (plain w.job.action) w.outcome its.credit its.action.sent.credit hand split.made split.kinds none split.within rest;
      later = later_none HasRightCredit HasCredit rights w.job.state (plain w.job.action) w.outcome its.credit its.action.sent.credit hand split.made split.kinds none split.within rest;
      limit = λ n laws. ups_limit HasRightCredit HasCredit rights w.job.state (plain w.job.action) w.outcome its.credit its.action.sent.credit hand split.made split.kinds none
          split.within rest n w.job.kind w.job.at laws its.action.sent.shape;
    }
