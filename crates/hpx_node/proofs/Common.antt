-- Passes on the names that proofs of the node cite.
pub use Rattle.std.proofs.Common.{Bool, List, None, Option, Some, [], ap, append-nil, append_assoc, arith, codes, cond, drop, false, get_or, inl, inr, length, length-append, map, min, not, refl, rules, set, subst, suc, sym, take, take-append-drop, true, zero, zero-add, ℕ, ◌&&◌, ◌++◌, ◌+◌, ◌-◌, ◌<◌, ◌==◌, ◌^◌, ◌∙◌, ◌∷◌, ◌≡◌, ◌≤◌, ◌⊎◌}
pub use Rattle.std.proofs.lemmas.Bool.{cases_Bool, cases_eq, eq-eqb, eqb-true, ne_eqb}
pub use Rattle.std.proofs.lemmas.List.{drop-set-lt, length-drop, length-map, length-set, length-take, map-append, take_more}
pub use Rattle.std.proofs.lemmas.List.Sums.{sum_by-append, sum_by-cons}
pub use Rattle.std.specs.List.{AllByRecursion, count_by, find, list_any, remove, slice_get, sum_by}
pub use Rattle.std.specs.Prelude.{IfSome, IsSomeAnd, MatchOption, flat_map, if◌then◌else◌, is_some, nat_le, nat_lt, option_and_then, option_map, ◌*◌, ◌||◌}
pub use Rattle.hpx_value.proofs.Riders.{plain_all, plain_bare, plain_code, plain_formed, plain_other, plain_own, plain_target}
pub use Rattle.hpx_value.specs.Hands.{answer, id_at, replied, sent, session, slot_at, state_after}
pub use Rattle.hpx_value.specs.Ids.{bare, bare_id, credit, credit_of_log, same_object}
pub use Rattle.hpx_value.specs.Laws.{IsManaged, KeepsLaws, birth_state}
pub use Rattle.hpx_value.specs.Riders.{due_with, plain, rider_of}
pub use Rattle.hpx_value.specs.Shapes.{IsMessage, IsState}
pub use Rattle.hpx_value.specs.Values.{bare_act, bare_state, message_of, named, refs_in}
pub use Rattle.hpx_value.specs.declared.acts.Job.{Job}
pub use Rattle.hpx_value.specs.declared.profile.Profile.{Profile}
pub use Rattle.hpx_parcel.proofs.Frames.{parcel_spelled, spelled_short}
pub use Rattle.hpx_parcel.specs.Parcels.{HasCredit, HasLeastCredit, HasRightCredit, IsBare, IsMovable, IsParcel, IsPlace}
pub use Rattle.hpx_parcel.specs.Reading.{is_least as is_credit_least, parcel_of}
pub use Rattle.hpx_journal.proofs.Same.{and_true, held-Counts, same_object-through, same_token-true}
pub use Rattle.hpx_journal.specs.Bags.{without}
pub use Rattle.hpx_journal.specs.Data.{Act, Apply, Arrived, Ask, Cached, Cont, Due, Fault, Free, Give, Go, Id, Message, MessageDue, Move, Outcome, Parcel, PrintDue, Return, Shipped, State}
pub use Rattle.hpx_journal.specs.Entries.{Rules, line_act, move_to, name_of, target_of}
pub use Rattle.hpx_journal.specs.Frames.{acts_in, travels_in}
pub use Rattle.hpx_journal.specs.Laws.{FreesTheDead, RefusesForCause, count_events, entry_at, hands_refusal, ins, is_free_of, is_freed, is_refused_count, is_refusing, outs, outs_by, sends_such, takes_such}
pub use Rattle.hpx_journal.specs.Local.{acts_on, boot, is_act, is_busy, is_standing}
pub use Rattle.hpx_journal.specs.Names.{due_ids, names}
pub use Rattle.hpx_journal.specs.Weights.{Book, HasRoom, bytes_in, state_size, total_weight, weight_of}
pub use Rattle.hpx_journal.specs.Whole.{arrives, arrives_at, part, run_local}
pub use Rattle.hpx_agas.specs.Queues.{waits, with_last}
pub use Rattle.hpx_agas.specs.Records.{find_record, remade}
pub use Rattle.hpx_agas.specs.Registries.{Registry, asked, granted_of, grown, left_of, lowered}
pub use Rattle.hpx_agas.specs.declared.record.Record.{Record}
pub use Rattle.hpx_commit.proofs.Came.{HaveLog, come_long, come_short, come_stock, none_short, waits_managed}
pub use Rattle.hpx_commit.proofs.DueFilled.{message_filled, state_filled}
pub use Rattle.hpx_commit.proofs.DueWeights.{due_weight, failed_light, light_due}
pub use Rattle.hpx_commit.proofs.FailedHas.{failed_few, failed_fit, ups_have}
pub use Rattle.hpx_commit.proofs.HandLeft.{HaveNone, both_right, both_same, halves_have, later_none, long_enough, ups_limit}
pub use Rattle.hpx_commit.proofs.Lists.{Found, all_found, all_imp, any_at, any_place, capped_sum, find_at, first_same, get_set, get_some, less_long, none_long, ok_map, ok_three, remove_set, sums_two, when_ok}
pub use Rattle.hpx_commit.proofs.Places.{hand_kinds, is_below, managed_same, managed_there, same_at}
pub use Rattle.hpx_commit.proofs.Planned.{IsPlanned, action_few, few_due, no_ids, own_few, own_places, own_within, planned}
pub use Rattle.hpx_commit.proofs.Rights.{AreRight, had_right}
pub use Rattle.hpx_commit.specs.Deals.{AllLast, AreWithin, dealt, filled_due, half, ids_due, is_managed, log_of, places_named, share, shared_from, shares, unnamed, unused}
pub use Rattle.hpx_commit.specs.Failures.{action_ids, due_failed, halves_ahead, state_failed, ups_failed}
pub use Rattle.hpx_commit.specs.Stocks.{Lasting, Stock, ahead, halvings, short_places, stripped}
pub use Rattle.hpx_commit.specs.declared.plan.Plan.{Plan}
pub use Rattle.hpx_part.proofs.Keyed.{Agree-sum, slice_get_is, slice_get_less, split_get}
pub use Rattle.hpx_part.specs.Data.{Born, Count, Done, Entry, Event, Fire, Freed, Given, Granted, In, Landed, Left, Line, Local, Looked, Mail, Merge, Name, Out, Print, Reason, Refused, Returned, Sent, Split, Standing, Token, Travel, Up}
pub use Rattle.hpx_part.specs.Parts.{at_all}
pub use Rattle.hpx_tables.proofs.Alls.{all_append, all_at, find_passes, get_before, some_same}
pub use Rattle.hpx_tables.proofs.Cutting.{at_all_append}
pub use Rattle.hpx_tables.proofs.FreeLemmas.{any_over, started_runs}
pub use Rattle.hpx_tables.specs.Awaited.{answered_by, awaited_at, awaited_here, drawn_by, is_answer}
pub use Rattle.hpx_tables.specs.Births.{AreDrawn, IsBirth, Makes, birth_of, births_of, ids_of, objects_of, records_of}
pub use Rattle.hpx_tables.specs.Fit.{IsFit, IsFitDue, IsKept, parcel_for}
pub use Rattle.hpx_tables.specs.Free.{IsFree, NoneIsFree}
pub use Rattle.hpx_tables.specs.Jobs.{IsAt, IsFitJob}
pub use Rattle.hpx_tables.specs.Kept.{record_here, count_here, credit_in, credit_owed, held_here, held_worth, ids_held, moving_here, owed_here, owed_worth, stands_here, stays_here, waits_here}
pub use Rattle.hpx_tables.specs.Merged.{may_merge, merged_in}
pub use Rattle.hpx_tables.specs.Pending.{Refills, Waits, action_of, asked_at, awaits, fired_of, hand_with, ids_kept, ids_named, is_asked, is_asked_for, put_for, refilled, waits_for_one, waits_with}
pub use Rattle.hpx_tables.specs.Splits.{asked_events, cuts, first_cuts, splits_from}
pub use Rattle.hpx_tables.specs.Rules.{broken, broken_near}
pub use Rattle.hpx_tables.specs.Strange.{breaks, brings_right, is_live}
pub use Rattle.hpx_tables.specs.Tables.{IsPassive, Tables, fired_acts, messages}
pub use Rattle.hpx_tables.specs.declared.births.Birth.{Birth}
pub use Rattle.hpx_tables.specs.declared.kept.Outgoing.{Outgoing}
pub use Rattle.hpx_tables.specs.declared.pending.Asked.{Asked, Asked as AskedFor}
pub use Rattle.hpx_tables.specs.declared.strange.Broken.{Broken}
pub use Rattle.hpx_steps.proofs.AtRest.{rest_stands, sound_at_rest}
pub use Rattle.hpx_steps.proofs.Dealt.{fail_deals, plan_deals}
pub use Rattle.hpx_steps.proofs.Handled.{Leads, given_waits, returns_objects}
pub use Rattle.hpx_steps.proofs.Made.{bare_alone}
pub use Rattle.hpx_steps.proofs.Recommit.{hand_long}
pub use Rattle.hpx_steps.proofs.Ridden.{rider_all, rider_few, rider_has}
pub use Rattle.hpx_steps.proofs.Resumed.{given_done, given_event, given_fails, in_hand}
pub use Rattle.hpx_steps.proofs.Right.{give_right, near_right}
pub use Rattle.hpx_steps.proofs.Sums.{flat_append, ids_append}
pub use Rattle.hpx_steps.proofs.Puts.{Goes, move_fit, way_goes}
pub use Rattle.hpx_steps.proofs.TurnOf.{desk_leads, desk_stands, fire_stands, frame_leads, frame_stands, left_stands, line_stands, out_stands, released_stands}
pub use Rattle.hpx_steps.proofs.Work.{halved_from}
pub use Rattle.hpx_steps.specs.Calls.{Accepts, DealsWith, Gives, Leaves, Turns, answered, effects, freed, ids_in, may_land, more_here, place_or_0, returned, rider_event, rider_events, up_of, ups, AreOf, with_asks, with_done, with_done_told, with_due, with_left, with_returns, with_rider, with_riders, with_told, written_due}
pub use Rattle.hpx_steps.specs.Left.{IsLeftBy, IsLeftFailed}
pub use Rattle.hpx_steps.specs.Limits.{AddsATurn, IsWithin}
pub use Rattle.hpx_steps.specs.Mail.{with_mail, with_mail_if, with_return}
pub use Rattle.hpx_steps.specs.Paused.{Apart, HasSplit, IsCommit, IsShort}
pub use Rattle.hpx_steps.specs.Rest.{IsPaused, IsTidy, Stands, StandsAtRest, StandsWith, hops_left, kept_ids, of_accepted, of_came, rules_of, tokens, unpaid, view}
pub use Rattle.hpx_steps.specs.Rows.{Actions, AreFired, FreesOf, Landings, Leavings, Objects, Refusals, Row, brings, causes, fires_one, follows, frees_one, goes, hops, is_kind, is_least, is_refusal, joins, kind_of, one_if, owes, sets_out, spends, starts, weighed, weight}
pub use Rattle.hpx_steps.specs.Steps.{HasInHand, with_credit}
pub use Rattle.hpx_steps.specs.Turn.{Turn, bare_due, bare_standing, parcel_tokens, tokens_of}
pub use Rattle.hpx_steps.specs.Ways.{Accept, Begin, Queue, To, Way, accepts, begins, move_by, way, way_by, way_of, way_to, with_act, with_way}
pub use Rattle.hpx_node.specs.Asks.{Begins, IsBefore, Pauses, hand_before, lacking, own_many, short_before, split_stock, splits_before, stock_before}
pub use Rattle.hpx_node.specs.Changes.{OnlyLeaves, OnlySends, OnlySpare, Writes}
pub use Rattle.hpx_node.specs.Commits.{Commits, Ends, IsPrepared, IsStock, committed, committed_from, committed_to, committed_told, due_dealt, hand_of, made_of, new_standing, own_stock, places_in_hand, remains, seen, state_dealt, with_settled}
pub use Rattle.hpx_node.specs.Fails.{Fails, IsFailing, IsFailingFor, IsFailure, MustFail, dooms, due_left, failed_events, failed_remains, fails_first, loose_left, state_left, ups_left}
pub use Rattle.hpx_node.specs.Locality.{Locality}
pub use Rattle.hpx_node.specs.Next.{Continues, HasFollowed, IfFollows, IsNext, MayFollow}
pub use Rattle.hpx_node.specs.Resumes.{IsKeptFor, IsReady, IsReadyFor, MayResume, completes, full_stock, is_last, stock_with}
pub use Rattle.hpx_node.specs.declared.node.fail.Failing.{Failing}
pub use Rattle.hpx_node.specs.declared.node.finish.Prepared.{Prepared}
pub use Rattle.hpx_node.specs.declared.node.next.Next.{Next}
pub use Rattle.hpx_node.specs.declared.node.resume.Ready.{Ready}
