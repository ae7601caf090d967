-- The names of the crates below and of the definitions that most proofs cite, passed on from one place. Declares nothing.
pub use Rattle.std.proofs.Common.{Bool, List, None, Option, Some, [], ap, append-nil, append_assoc, arith, cond, drop, false, inl, inr, length, length-append, map, refl, set, subst, suc, sym, take, true, zero, ℕ, ◌++◌, ◌+◌, ◌-◌, ◌<◌, ◌∙◌, ◌∷◌, ◌≡◌, ◌≢◌, ◌≤◌}
pub use Rattle.std.proofs.Math.Bool.{and-true}
pub use Rattle.std.proofs.Math.ListN.{length-set}
pub use Rattle.std.proofs.Math.Pow.{pow_pos}
pub use Rattle.std.proofs.lemmas.Bool.{cases_Bool, cases_eq, cases_lt, eq-eqb, eqb-true, ne_eqb}
pub use Rattle.std.proofs.lemmas.Bool.Decides.{nat_tests}
pub use Rattle.std.proofs.lemmas.List.{drop-drop, length-map, length-take, map-append, take-append-drop, take-append-le, take_at}
pub use Rattle.std.proofs.lemmas.List.Sums.{sum_by-append, sum_by-cons}
pub use Rattle.std.specs.List.{AllByRecursion, count_by, filter, find, list_any, remove, slice_get, sum_by}
pub use Rattle.std.specs.Option.{option_and_then, option_map_or, option_to_list}
pub use Rattle.std.specs.Prelude.{IfSome, MatchOption, flat_map, if◌then◌else◌, is_some, min, nat_le, nat_lt, not, option_map, ◌&&◌, ◌==◌, ◌^◌, ◌||◌, ◌⊎◌}
pub use Rattle.hpx_value.proofs.Riders.{plain_all, plain_bare, plain_code, plain_formed, plain_other, plain_own, plain_target}
pub use Rattle.hpx_value.specs.Hands.{due_of, hand_ids, id_at, session, state_after}
pub use Rattle.hpx_value.specs.Ids.{bare, bare_id, credit, credit_of_log, same_object}
pub use Rattle.hpx_value.specs.Laws.{birth_state}
pub use Rattle.hpx_value.specs.Riders.{due_with, plain, rider_of}
pub use Rattle.hpx_value.specs.Shapes.{IsAct, IsState}
pub use Rattle.hpx_value.specs.Values.{bare_act, bare_message, bare_state, named as named_act}
pub use Rattle.hpx_value.specs.declared.acts.Job.{Job}
pub use Rattle.hpx_value.specs.declared.outcome.Make.{Make}
pub use Rattle.hpx_parcel.specs.Credits.{Credit, credit_list, credits_of}
pub use Rattle.hpx_parcel.specs.Parcels.{HasCredit, HasLeastCredit, HasRightCredit, IsApplied, IsMovable, IsMove, IsParcel}
pub use Rattle.hpx_parcel.specs.Reading.{parcel_of}
pub use Rattle.hpx_journal.proofs.Bools.{and_false, false_from}
pub use Rattle.hpx_journal.proofs.Grow.{part_append, part_at}
pub use Rattle.hpx_journal.proofs.Same.{and_true, held-Counts, owed-Counts, same_name-refl, same_object-from, same_object-refl, same_object-sym, same_object-true}
pub use Rattle.hpx_journal.specs.Bags.{without}
pub use Rattle.hpx_journal.specs.Data.{Act, Apply, Arrived, Ask, Cached, Due, Free, Give, Go, Id, Message, MessageDue, Move, Outcome, Parcel, PrintDue, Return, Shipped, State}
pub use Rattle.hpx_journal.specs.Entries.{Rules, is_movable, line_act, move_to, name_of, place_in, target_of}
pub use Rattle.hpx_journal.specs.Foreign.{kept}
pub use Rattle.hpx_journal.specs.Frames.{travels_in}
pub use Rattle.hpx_journal.specs.Laws.{entry_at, ins, is_free_of, is_freed, outs, outs_by, takes_such}
pub use Rattle.hpx_journal.specs.Local.{acts_on, count_in, done_after, failure, is_act, is_busy, is_recorded, is_standing, leaves}
pub use Rattle.hpx_journal.specs.Names.{due_ids}
pub use Rattle.hpx_journal.specs.Rows.{AreMade, IsManaged, is_to}
pub use Rattle.hpx_journal.specs.Sessions.{shown}
pub use Rattle.hpx_journal.specs.Tokens.{held, held_token, is_held, is_owed, owed_token, owing, same_token}
pub use Rattle.hpx_journal.specs.Whole.{arrives_at, part, run_local}
pub use Rattle.hpx_journal.specs.declared.entry.Event.TheVariants.{Looked}
pub use Rattle.hpx_part.proofs.ActRows.{follows_fire, follows_line, follows_mail, follows_print, follows_sent}
pub use Rattle.hpx_part.proofs.Covered.{act_names, object_names, owed_counts, travel_names}
pub use Rattle.hpx_part.proofs.Credit.{token_own}
pub use Rattle.hpx_part.proofs.CreditRows.{follows_asked, follows_given, follows_granted, follows_merge, follows_refused, follows_returned, follows_split, follows_up}
pub use Rattle.hpx_part.proofs.FrameRows.{follows_in, follows_out}
pub use Rattle.hpx_part.proofs.Grown.{clean_front, grow, run_local_append}
pub use Rattle.hpx_part.proofs.Keyed.{Agree-found, any_counted, count_middle, count_same, counted_any, counts_false, counts_of, counts_true, find_hit, find_miss, split_get, split_set}
pub use Rattle.hpx_part.proofs.Keys.{means, own}
pub use Rattle.hpx_part.proofs.Lists.{sum_middle}
pub use Rattle.hpx_part.proofs.ObjectRows.{follows_born, follows_done, follows_fail, follows_freed_mailed, follows_freed_taken}
pub use Rattle.hpx_part.proofs.Parcels.{all_named, asks_owed}
pub use Rattle.hpx_part.proofs.Weaken.{weaker_leads}
pub use Rattle.hpx_part.specs.Data.{Asked, Born, Count, Done, Entry, Event, Fire, Freed, Given, Granted, In, Landed, Left, Line, Local, Mail, Merge, Name, Out, Print, Reason, Refusal, Refused, Returned, Sent, Split, Standing, Token, Travel, Up}
pub use Rattle.hpx_part.specs.Keyed.{Agree}
pub use Rattle.hpx_part.specs.Loads.{Exchanges, load_of, nothing}
pub use Rattle.hpx_part.specs.Parts.{MayLeave, StandsFor, at_all, at_boot}
pub use Rattle.hpx_part.specs.Shows.{Follows, Leads, SameSums, SameTokens, SaysLess, Shows, same_refusal}
pub use Rattle.hpx_part.specs.View.{IsCovered, View, names_in_view}
pub use Rattle.hpx_agas.specs.Queues.{is_for, waits, with_last, without_first}
pub use Rattle.hpx_agas.specs.Records.{find_record, remade}
pub use Rattle.hpx_agas.specs.Registries.{asked as raised, lowered}
pub use Rattle.hpx_agas.specs.declared.record.Record.{Record}
pub use Rattle.hpx_agas.specs.declared.record.Waiting.{Waiting}
pub use Rattle.hpx_commit.proofs.Ahead.{ahead_is, deal_stays, deal_then, halves_taken, halvings_have, halvings_need, halvings_same}
pub use Rattle.hpx_commit.proofs.Deals.{sums_dealt}
pub use Rattle.hpx_commit.proofs.Failed.{failed_sums}
pub use Rattle.hpx_commit.proofs.Fills.{Fits, due_filled, filled_all, filled_sums, unused_all, unused_rest}
pub use Rattle.hpx_commit.proofs.Naming.{managed}
pub use Rattle.hpx_commit.proofs.Short.{place_bare, place_some}
pub use Rattle.hpx_commit.specs.Deals.{AreWithin, Lasts, dealt, filled, filled_due, half, ids_due, is_managed, log_of, named, shared_from, shares, unnamed, unnamed_from, unused}
pub use Rattle.hpx_commit.specs.Failures.{action_ids, due_failed, halves_ahead, ids_had, state_failed, ups_failed}
pub use Rattle.hpx_commit.specs.Stocks.{SameDeal, Stock, ahead, ahead_from, halvings, replaced, short_from, short_places, stripped, take_half, take_halves}
pub use Rattle.hpx_tables.proofs.Alls.{all_append, all_at, all_parts, all_remove, all_set, find_passes, get_before, some_same}
pub use Rattle.hpx_tables.proofs.Cutting.{cuts_of}
pub use Rattle.hpx_tables.proofs.FirstCuts.{drop_at, plus_one}
pub use Rattle.hpx_tables.specs.Awaited.{answered_by, is_answer}
pub use Rattle.hpx_tables.specs.Births.{IsBirth, birth_of, births_of, ids_of, objects_of, records_of}
pub use Rattle.hpx_tables.specs.Fit.{IsFit, IsFitDue, IsKept, parcel_for}
pub use Rattle.hpx_tables.specs.Kept.{count_here, credit_in, grants, held_here, ids_held, leaves_here, moving_here, record_here, stands_here, stays_here, waits_here}
pub use Rattle.hpx_tables.specs.Merged.{has_log, is_like, may_merge, merged, merged_in}
pub use Rattle.hpx_tables.specs.Pending.{Waits, action_of, asked_at, asking_of, awaits, fired_of, ids_kept, ids_named, is_asked, is_asked_for, own_ids, refilled, refusal_of, refusals_of, waits_with}
pub use Rattle.hpx_tables.specs.Splits.{asked_events, cuts, first_cuts, splits_from}
pub use Rattle.hpx_tables.specs.Rules.{broken, broken_near, go_rule, landed_rule, object_rule, return_rule, act_rule, is_lost, rests_at}
pub use Rattle.hpx_tables.specs.Strange.{are_far, breaks, brings_right, free_rule, give_rule, is_far, is_far_act, is_live, moves_far}
pub use Rattle.hpx_tables.specs.Tables.{Tables, fired_acts, messages, queued_parcels}
pub use Rattle.hpx_tables.specs.declared.births.Birth.{Birth}
pub use Rattle.hpx_tables.specs.declared.kept.Arrival.{Arrival}
pub use Rattle.hpx_tables.specs.declared.kept.Outgoing.{Outgoing}
pub use Rattle.hpx_tables.specs.declared.pending.Asked.{Asked as AskedFor}
pub use Rattle.hpx_tables.specs.declared.strange.Broken.{Broken}
pub use Rattle.hpx_steps.specs.Calls.{Accepts, AreOf, DealsWith, Gives, Leaves, Turns, with_done_told, with_told, act_in, may_land, released_by, with_object, with_released, answered, effects, freed, ids_in, more_here, place_or_0, returned, rider_event, rider_events, up_of, ups, parked, with_asks, with_done, with_due, with_left, with_own, with_returns, with_rider, with_riders, written_due}
pub use Rattle.hpx_steps.specs.Frames.{IsForHere, IsOnItsWay, MayGoTo}
pub use Rattle.hpx_steps.specs.Items.{Accepted, Among, Brought, Came, Going, Leaving, Queued, Stray, Has, Holds, IsDue, Item, Loose, Mailed, OnDesk, Pending, Running, StandsHere, Untold, Working, weigh}
pub use Rattle.hpx_steps.specs.Left.{IsLeftBy, IsLeftFailed}
pub use Rattle.hpx_steps.specs.Mail.{draws, going, is_other, mails, mails_if, sent_as, with_mail, with_mail_if, with_return, wrote}
pub use Rattle.hpx_steps.specs.Ways.{Accept, Begin, Queue, To, Way, accepts, begins, comes_home, goes_away, move_by, move_way, posts, queues, sends, way, way_by, way_of, way_to, with_act, with_way}
pub use Rattle.hpx_steps.specs.Numbered.{AreNumbered, asks_as, asks_under}
pub use Rattle.hpx_steps.specs.Paused.{Apart, AreLent, HasCommits, HasObject, HasSplit, IsCommit, IsShort, IsWhole, Single, bare_names, first_stock, names_of, whole_stock}
pub use Rattle.hpx_steps.specs.Rest.{ArePaused, IsPaused, Stands, StandsAtRest, bound_for, hops_left, of_accepted, of_came, rules_of, MovesBegan, ArePlaced, grants_in, grants_of_all}
pub use Rattle.hpx_steps.specs.Rows.{IsRowAt, AreMoved, is_move, lands_one, moves_done, go_to, moves_to, ship_to, tell_of, follows, starts, Actions, AreFired, Asks, Counts, Frees, FreesOf, Refusals, Returns, Row, brings, causes, fires_one, freeing, frees_one, goes, hopping, is_least, is_refusal, is_refused, joined, joins, kind_of, of_act, one_if, owes, spends, unpaid, weighed, weight, tells_at}
pub use Rattle.hpx_steps.specs.Sound.{AreNumbers, AreRules, HasPlaces, IsOrderly, IsGranted, IsOwn, IsPaid, IsStray, IsSound, IsTidy, IsTidyIn, SendsOwn, IsWaitingFor, IsLive, MovesOn, TidyAt, all_count, asked_by, asking, asks_for, come, given_to, gives_for, gone, gone_to, waits_for, worth, HasBegun, grants_of, grants_here, grants_left, grants_made, leads_on, leads_away, IsPlaced, tells_own, tells_come, is_away, away_here, arrival_of, same_arrival, brought, move_of, moved_by}
pub use Rattle.hpx_steps.specs.Steps.{Arrives, AsksFor, Bears, ComesIn, Commits, Deals, Ends, Fails, Feeds, Fires, GivesUp, GoesOut, Grants, HasInHand, IsCalm, IsGiven, IsTold, Label, Lands, Mark, Marks, Moved, CameWith, CameAlone, Departs, Merges, Park, Parks, Pause, Pauses, Place, Places, Prints, Recounts, Refuses, Release, Releases, Remains, Reorder, Reorders, Sends, Splits, Step, Steps, Suspend, Suspends, TakesBack, TakesUp, Tells, Writes, drops, ends, goes_on, with_credit, with_records, works_on, written, written_by}
pub use Rattle.hpx_steps.specs.Turn.{Turn, at_rest, bare_due, bare_standing, commits, counted, ids_here, own_parcels, parcel_acts, parcel_asks, parcel_frees, parcel_tokens, parcel_travels, parcels, tokens, tokens_of, view, waiting}
pub use Rattle.hpx_steps.specs.Flows.{EndsAt, Flow, IsFlowing, MovesTo, PlacedAt, dies, flow, flow_at, flow_comes, flow_freed, flow_go, flow_goes, flow_in, flow_left, free_for, flow_of, go_for, record_moves, record_rests}
pub use Rattle.hpx_journal.specs.Moving.{is_landed_of}
