-- Passes on the names that definitions of the node cite.
pub use Rattle.hpx_value.specs.Hands.{hand_ids, id_at, state_after}
pub use Rattle.hpx_value.specs.Riders.{due_with, plain, rider_of}
pub use Rattle.hpx_value.specs.Values.{bare_state}
pub use Rattle.hpx_value.specs.declared.acts.Job.{Job}
pub use Rattle.hpx_journal.specs.Data.{Act, Due, Give, Id, Outcome, Parcel, State}
pub use Rattle.hpx_journal.specs.Entries.{name_of, target_of}
pub use Rattle.hpx_journal.specs.Local.{is_standing}
pub use Rattle.hpx_journal.specs.Weights.{Book, total_weight}
pub use Rattle.hpx_commit.specs.Deals.{dealt, filled, filled_due, log_of, places_named, unnamed, unused}
pub use Rattle.hpx_commit.specs.Stocks.{MayDeal, Stock, ahead, replaced_from, short_places, stripped}
pub use Rattle.hpx_part.specs.Data.{Done, Entry, Event, In, Mail, Standing}
pub use Rattle.hpx_part.specs.Parts.{at_all}
pub use Rattle.hpx_tables.specs.Awaited.{answered_by}
pub use Rattle.hpx_tables.specs.Births.{AreDrawn}
pub use Rattle.hpx_tables.specs.Fit.{IsFitDue, IsKept}
pub use Rattle.hpx_tables.specs.Jobs.{IsAt, IsFitJob}
pub use Rattle.hpx_tables.specs.Pending.{Waits, asked_at, awaits, fails_with, hand_with, ids_named, waits_for_one, waits_with}
pub use Rattle.hpx_tables.specs.Splits.{asked_events, first_cuts, splits_from}
pub use Rattle.hpx_tables.specs.Tables.{Tables}
pub use Rattle.hpx_steps.specs.Calls.{Accepts, DealsWith, Gives, Leaves, effects, rider_events, ups, with_asks, with_done, with_done_told, with_left, written_due}
pub use Rattle.hpx_steps.specs.Steps.{Remains, with_credit}
pub use Rattle.hpx_node.specs.declared.node.finish.Prepared.{Prepared}
