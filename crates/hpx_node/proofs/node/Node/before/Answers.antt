use Rattle.hpx_node.proofs.Common.{Stock, action_few, all_imp, ap, arith, asked_at, hand_before, id_at, length, length-append, map, own_many, places_in_hand, plain, refl, seen, short_before, split_stock, stripped, sym, ◌+◌, ◌∙◌, ◌≡◌, ◌≤◌}
use Rattle.hpx_node.proofs.Seen.{fit_seen}
use Rattle.hpx_node.proofs.Waited.{split_by, short_by, short_many, within_split}
use Rattle.hpx_node.proofs.node.Node.before.Goals as goal

pub asks-requires : goal.asks-requires
asks-requires g c =
    let d = c.args.done.now in
    let t = c.args.self.now.tables in
    let hand : c.ids.result.now ≡ hand_before c.args.self.now.tables (seen c.args.done.now.job) c.args.done.now.outcome =
    rw (c.ids.ensures, c.in_ok-hand-2.ensures.0, c.in_ok-hand-2.ensures.1, c.in_ok-hand-2.ensures.2, c.in_ok-action.ensures, c.as_slice-4.ensures.value, c.in_ok-later.ensures, c.as_slice-3.ensures, c.job-job.ensures, c.outcome-outcome.ensures) refl in
    let places : c.as_slice-5.result.now ≡ places_in_hand c.args.self.now.tables (seen c.args.done.now.job) c.args.done.now.outcome =
    rw (c.as_slice-5.ensures.value, c.in_ok-places.ensures, c.in_ok-hand.ensures.0, c.in_ok-hand.ensures.1, c.in_ok-hand.ensures.2, c.in_ok-action.ensures, c.as_slice-2.ensures.value, c.in_ok-made.ensures, c.as_slice.ensures, c.job-job.ensures, c.outcome-outcome.ensures) refl in
    let own : c.len.result + c.len-2.result ≡ own_many (seen c.args.done.now.job) =
    rw (c.len.ensures, c.len-2.ensures, c.in_ok-action.ensures, c.job-job.ensures) (sym (length-append c.args.done.now.job.state.ids (plain c.args.done.now.job.action).ids)) in
    let split : c.in_ok-stock.stock ≡ split_stock c.args.self.now.tables (seen c.args.done.now.job) c.args.done.now.outcome =
    split_by t (seen d.job) d.outcome _ c.ids.result.now c.as_slice-5.result.now c.in_ok-stock.stock c.in_ok-stock.ensures own hand places in
    let short : c.in_ok-short.short.items ≡ short_before c.args.self.now.tables (seen c.args.done.now.job) c.args.done.now.outcome =
    short_by t (seen d.job) d.outcome _ c.in_ok-stock.stock c.in_ok-short.short.items c.in_ok-short.ensures own split in
    let few : length c.as_slice-7.result.now ≤ 162 =
    rw (c.as_slice-7.ensures.value, short) (short_many d.localities t (seen d.job) d.outcome c.lawful.ensures (fit_seen d.job c.requires.fit)) in
    omega (arith, few, c.requires.asked)

pub strip-requires : goal.strip-requires
strip-requires g c =
    let d = c.args.done.now in
    let t = c.args.self.now.tables in
    let hand : c.ids.result.now ≡ hand_before c.args.self.now.tables (seen c.args.done.now.job) c.args.done.now.outcome =
    rw (c.ids.ensures, c.in_ok-hand-2.ensures.0, c.in_ok-hand-2.ensures.1, c.in_ok-hand-2.ensures.2, c.in_ok-action.ensures, c.as_slice-4.ensures.value, c.in_ok-later.ensures, c.as_slice-3.ensures, c.job-job.ensures, c.outcome-outcome.ensures) refl in
    let places : c.as_slice-5.result.now ≡ places_in_hand c.args.self.now.tables (seen c.args.done.now.job) c.args.done.now.outcome =
    rw (c.as_slice-5.ensures.value, c.in_ok-places.ensures, c.in_ok-hand.ensures.0, c.in_ok-hand.ensures.1, c.in_ok-hand.ensures.2, c.in_ok-action.ensures, c.as_slice-2.ensures.value, c.in_ok-made.ensures, c.as_slice.ensures, c.job-job.ensures, c.outcome-outcome.ensures) refl in
    let own : c.len.result + c.len-2.result ≡ own_many (seen c.args.done.now.job) =
    rw (c.len.ensures, c.len-2.ensures, c.in_ok-action.ensures, c.job-job.ensures) (sym (length-append c.args.done.now.job.state.ids (plain c.args.done.now.job.action).ids)) in
    let split : c.in_ok-stock.stock ≡ split_stock c.args.self.now.tables (seen c.args.done.now.job) c.args.done.now.outcome =
    split_by t (seen d.job) d.outcome _ c.ids.result.now c.as_slice-5.result.now c.in_ok-stock.stock c.in_ok-stock.ensures own hand places in
    let short : c.in_ok-short.short.items ≡ short_before c.args.self.now.tables (seen c.args.done.now.job) c.args.done.now.outcome =
    short_by t (seen d.job) d.outcome _ c.in_ok-stock.stock c.in_ok-short.short.items c.in_ok-short.ensures own split in
    rw (c.as_slice-8.ensures.value, short, split) (within_split d.localities t (seen d.job) d.outcome c.lawful.ensures (fit_seen d.job c.requires.fit))

pub returns : goal.returns
returns g c =
    let d = c.args.done.now in
    let t = c.args.self.now.tables in
    let hand : c.ids.result.now ≡ hand_before c.args.self.now.tables (seen c.args.done.now.job) c.args.done.now.outcome =
    rw (c.ids.ensures, c.in_ok-hand-2.ensures.0, c.in_ok-hand-2.ensures.1, c.in_ok-hand-2.ensures.2, c.in_ok-action.ensures, c.as_slice-4.ensures.value, c.in_ok-later.ensures, c.as_slice-3.ensures, c.job-job.ensures, c.outcome-outcome.ensures) refl in
    let places : c.as_slice-5.result.now ≡ places_in_hand c.args.self.now.tables (seen c.args.done.now.job) c.args.done.now.outcome =
    rw (c.as_slice-5.ensures.value, c.in_ok-places.ensures, c.in_ok-hand.ensures.0, c.in_ok-hand.ensures.1, c.in_ok-hand.ensures.2, c.in_ok-action.ensures, c.as_slice-2.ensures.value, c.in_ok-made.ensures, c.as_slice.ensures, c.job-job.ensures, c.outcome-outcome.ensures) refl in
    let own : c.len.result + c.len-2.result ≡ own_many (seen c.args.done.now.job) =
    rw (c.len.ensures, c.len-2.ensures, c.in_ok-action.ensures, c.job-job.ensures) (sym (length-append c.args.done.now.job.state.ids (plain c.args.done.now.job.action).ids)) in
    let split : c.in_ok-stock.stock ≡ split_stock c.args.self.now.tables (seen c.args.done.now.job) c.args.done.now.outcome =
    split_by t (seen d.job) d.outcome _ c.ids.result.now c.as_slice-5.result.now c.in_ok-stock.stock c.in_ok-stock.ensures own hand places in
    let short : c.in_ok-short.short.items ≡ short_before c.args.self.now.tables (seen c.args.done.now.job) c.args.done.now.outcome =
    short_by t (seen d.job) d.outcome _ c.in_ok-stock.stock c.in_ok-short.short.items c.in_ok-short.ensures own split in
    let kept : c.ids-2.result.now ≡ hand_before c.args.self.now.tables (seen c.args.done.now.job) c.args.done.now.outcome =
    rw (c.ids-2.ensures, c.in_ok-hand-2.ensures.0, c.in_ok-hand-2.ensures.1, c.in_ok-hand-2.ensures.2, c.in_ok-action.ensures, c.as_slice-4.ensures.value, c.in_ok-later.ensures, c.as_slice-3.ensures, c.job-job.ensures, c.outcome-outcome.ensures) refl in
    record {
      hand = c.in_ok-from_slice.ensures.items ∙ kept;
      places = sym c.as_slice-5.ensures.value ∙ places;
      own = own;
      stock = c.stock-2.view_is
          ∙ (c.strip.ensures
          ∙ (ap (λ ps. stripped ps c.in_ok-stock.stock) (c.as_slice-8.ensures.value ∙ short)
          ∙ ap (stripped (short_before t (seen d.job) d.outcome)) split));
      lacking = c.in_ok-lacking.ensures
          ∙ (ap (λ ps. map (id_at c.in_ok-stock.stock.hand) ps) (c.as_slice-6.ensures.value ∙ short)
          ∙ ap (λ (s : Stock). map (id_at s.hand) (short_before t (seen d.job) d.outcome)) split);
      asked = c.in_ok-asked.ensures ∙ ap (asked_at t.asked) (c.as_slice-7.ensures.value ∙ short);
      state = rw c.job-job.ensures at c.in_ok-bare_state.ensures;
    }

pub places_named-requires-clause-action : goal.places_named-requires-clause-action
places_named-requires-clause-action g c =
    let d = c.args.done.now in
    let few = action_few (plain d.job.action) (fit_seen d.job c.requires.fit).action.sent.shape in
    rw (c.in_ok-hand.ensures.1, c.in_ok-action.ensures, c.job-job.ensures) (omega (arith, few))

pub later-requires-clause-managed : goal.later-requires-clause-managed
later-requires-clause-managed g c =
    let d = c.args.done.now in
    rw (c.as_slice-3.ensures, c.outcome-outcome.ensures) (all_imp _ _ (λ make is. is.0) d.outcome.makes c.lawful.ensures.few.managed)

pub overflow_cast-own : goal.overflow_cast-own
overflow_cast-own g c =
    let d = c.args.done.now in
    let few = action_few (plain d.job.action) (fit_seen d.job c.requires.fit).action.sent.shape in
    rw (c.len.ensures, c.len-2.ensures, c.in_ok-action.ensures, c.job-job.ensures) (omega (arith, few, c.requires.fit.state.few))

pub overflow_cast-own-2 : goal.overflow_cast-own-2
overflow_cast-own-2 g c =
    let d = c.args.done.now in
    let few = action_few (plain d.job.action) (fit_seen d.job c.requires.fit).action.sent.shape in
    rw (c.len.ensures, c.len-2.ensures, c.in_ok-action.ensures, c.job-job.ensures) (omega (arith, few, c.requires.fit.state.few))

pub overflow_cast-result : goal.overflow_cast-result
overflow_cast-result g c =
    let d = c.args.done.now in
    let few = action_few (plain d.job.action) (fit_seen d.job c.requires.fit).action.sent.shape in
    rw (c.len.ensures, c.len-2.ensures, c.in_ok-action.ensures, c.job-job.ensures) (omega (arith, few, c.requires.fit.state.few))
