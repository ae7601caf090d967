-- The lemmas that most entries cite, passed on from one place. Declares nothing.
pub use Rattle.hpx_steps.proofs.Sums.{acted, acting, by_commit, by_own, by_parcel, fired_sum, flat_append, flat_sum, ids_append, ids_each, ids_flat, less_sum, long_sum, map_sum, messages_sum, none_sum, own_sum, refuses, same_map, same_sum, seen_sum, set_sum, stands_of, two_sums, view_asking, view_fired, view_objects, view_refusals, view_worth, wait_sum, weighs, zeros}
pub use Rattle.hpx_steps.proofs.Changes.{Changes, Trade, accepted_change, all_among, all_come, all_map, among_all, among_at, brought_change, came_change, desk_change, drop_change, drop_moves, due_change, first_comes, first_goes, first_leaves, found_among, first_turns, hand_weighs, holding, in_hand, is_frame, leaving_change, loose_change, mail_change, map_all, mailed_change, more_come, none_trade, objects_change, one_comes, one_goes, one_turns, outgoing_change, pending_change, post_change, put_as, queued_change, running_change, way_change, sent_if, stray_change, untold_change, then, total, total_append, total_map, working_change}
pub use Rattle.hpx_steps.proofs.Seen.{Sees, as_seen, sees_covers, sees_leads}
pub use Rattle.hpx_steps.proofs.Cover.{held_acts, tidy_messages, view_covered}
pub use Rattle.hpx_steps.proofs.Bare.{all_none, all_with, bare_all, bare_lent, bare_tokens, credit_tokens, has_not_asked, no_tokens, none_tokens, not_asked}
pub use Rattle.hpx_steps.proofs.Objects.{find_more, get_set, plain_ids, retidy, single_found, single_less, single_more, single_set, stand_less, stand_more, stand_set}
pub use Rattle.hpx_steps.proofs.Busy.{apart_more, busy-bare, found-bare, never, none_busy, none_of, or_false}
pub use Rattle.hpx_steps.proofs.Beside.{begin_commits, each_set, end_commits, freed_whole, is_fired, less_commits, more_commits, move_commits, runs_whole, same_fired, was_fired}
pub use Rattle.hpx_steps.proofs.Then.{Keeps, fewer, frees_now, sound_then, Tracks, same_tracks, tracks_by, Says, same_says, Flows, of_event, all_flows, same_flows}
pub use Rattle.hpx_steps.proofs.Still.{Stills, rest_sound, still_sound}
pub use Rattle.hpx_steps.proofs.ByRows.{by_bool, by_rows, if_so, by_flows, eq_turned}
pub use Rattle.hpx_steps.proofs.Mails.{hand_fit, held_by, mail_tidy, other_is, owed_by, own_is, right_log, sent_total, some_log, IsFlowless, flowless}
pub use Rattle.hpx_steps.proofs.Puts.{Carries, begins_counted, begins_places, both, brings_few, carried, follows_few, move_fit, move_to-bare, put_less, put_sum, put_tidy, root_stays, target-bare, target_big, way_goes, weighs_act, posted_tracks, posted_says, posted_flows}
pub use Rattle.hpx_steps.proofs.Calm.{asks_of, bound_none, counts_near, frees_of, numbered_so, orders_so, own_asks, pays_so, same_asks, same_dead, same_fires, same_objects, same_travels, same_waits, sees_by, ships_of, told_as, tracks_so, says_so, flows_so}
pub use Rattle.hpx_steps.proofs.Hands.{any_place, at_place, front_place, names_place, place_at, put_asked, put_bare, put_behind, put_elsewhere, put_for, put_names, put_there, take_place}
pub use Rattle.hpx_steps.proofs.Ridden.{ridden_sum, ridden_tokens, rider_all, rider_few, rider_has}
pub use Rattle.hpx_steps.proofs.Recommit.{first_asked, first_at, first_map, hand_long, recommit, token_held, work_commits}
