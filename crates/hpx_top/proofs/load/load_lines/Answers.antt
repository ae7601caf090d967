use Rattle.std.proofs.Common.{◌≡◌, ◌≤◌, ◌∙◌, ◌∷◌, length, refl, sym, ap, subst, arith}
use Rattle.app_load.specs.Load.{session_lines}
use Rattle.hpx_top.specs.declared.session.SessionFault.TheVariants.{Fabric}
use Rattle.hpx_top.specs.Session.{rules, Feeds}
use Rattle.hpx_top.proofs.FeedLemmas.{memory_calm, memory_shown, room_none, same_rules}
use Rattle.hpx_top.proofs.LoadLemmas.{first_fed, first_fed_more, loading_few, loading_more, loading_short, loading_start, next_is}
use Rattle.hpx_top.proofs.ShowLemmas.{handed_on, if_err_from, no_err}
use Rattle.hpx_journal.specs.Weights.{HasRoom}
use Rattle.hpx_top.proofs.load.load_lines.Goals as goal

pub lines-init : goal.lines-init
lines-init g c = record {
  loading = loading_start (rules c.args.world.now) c.args.load _ c.args.world.now.journal.entries c.new-session.result c.requires.empty
      (c.new-session.ensures ∙ ap (λ n. session_lines c.args.load.start c.args.load.lines n) (sym c.requires.places)) refl refl refl;
  rest = record { quiet = c.requires.quiet; rest = record { rest = λ carried. c.law.ensures.rest carried c.requires.quiet } };
  carrying = λ carries. carries;
  hears = λ h. h;
  count = refl;
  profile = refl;
  room = subst HasRoom (sym c.requires.empty) room_none;
  stands = refl;
}

pub returns-in_err-line-clause-fed : goal.returns-in_err-line-clause-fed
returns-in_err-line-clause-fed g c = first_fed (rules c.args.world.now) c.args.load c.lines.session c.lines.world.journal.entries c.lines.tally c.lines.invariant.loading

pub load_line-requires-clause-short : goal.load_line-requires-clause-short
load_line-requires-clause-short g c κs within =
    let some : 1 ≤ length c.args.world.now.nodes = subst (λ n. 1 ≤ n) (sym c.requires.places) c.requires.some in
    let few : length c.args.world.now.nodes ≤ 64 = subst (λ n. n ≤ 64) (sym c.requires.places) c.requires.few in
    loading_short (rules c.args.world.now) c.args.load some few c.requires.lines c.lines.session c.in-Some.line c.next_line.new.session c.lines.world.journal.entries c.lines.tally c.lines.invariant.loading
    (next_is c.in_ok-line.field-0 c.in-Some.line c.lines.session c.next_line.new.session c.in-Some.is c.in_ok-line.ensures.next)

pub load_line-requires-clause-few : goal.load_line-requires-clause-few
load_line-requires-clause-few g c κs within =
    let some : 1 ≤ length c.args.world.now.nodes = subst (λ n. 1 ≤ n) (sym c.requires.places) c.requires.some in
    let few : length c.args.world.now.nodes ≤ 64 = subst (λ n. n ≤ 64) (sym c.requires.places) c.requires.few in
    loading_few (rules c.args.world.now) c.args.load some few c.requires.lines c.lines.session c.lines.world.journal.entries c.lines.tally c.lines.invariant.loading

pub returns-in_err-load_line-clause-fed : goal.returns-in_err-load_line-clause-fed
returns-in_err-load_line-clause-fed g c =
    let some : 1 ≤ length c.args.world.now.nodes = subst (λ n. 1 ≤ n) (sym c.requires.places) c.requires.some in
    let few : length c.args.world.now.nodes ≤ 64 = subst (λ n. n ≤ 64) (sym c.requires.places) c.requires.few in
    let next = next_is c.in_ok-line.field-0 c.in-Some.line c.lines.session c.next_line.new.session c.in-Some.is c.in_ok-line.ensures.next in
    first_fed_more (rules c.args.world.now) c.args.load c.lines.session c.in-Some.line c.next_line.new.session c.lines.world.journal.entries c.load_line.new.world.journal.entries
    c.lines.tally c.lines.invariant.loading next
    (loading_short (rules c.args.world.now) c.args.load some few c.requires.lines c.lines.session c.in-Some.line c.next_line.new.session c.lines.world.journal.entries c.lines.tally c.lines.invariant.loading next)
    c.in_err-load_line.ensures.once

pub returns-in_err-load_line-clause-stands : goal.returns-in_err-load_line-clause-stands
returns-in_err-load_line-clause-stands g c = λ other.
    c.in_err-load_line.ensures.stands (λ e. other (handed_on c.from_residual-in_err-load_line.result c.in_err-load_line.field-0.0 Fabric c.from_residual-in_err-load_line.ensures.1 e))
    ∙ c.lines.invariant.stands

pub lines-preserved : goal.lines-preserved
lines-preserved g c =
    let some : 1 ≤ length c.args.world.now.nodes = subst (λ n. 1 ≤ n) (sym c.requires.places) c.requires.some in
    let few : length c.args.world.now.nodes ≤ 64 = subst (λ n. n ≤ 64) (sym c.requires.places) c.requires.few in
    let inv = c.lines.invariant in
    let done = c.in_ok-load_line.ensures in
    let next = next_is c.in_ok-line.field-0 c.in-Some.line c.lines.session c.next_line.new.session c.in-Some.is c.in_ok-line.ensures.next in
    record {
      loading = loading_more (rules c.args.world.now) c.args.load some few c.requires.lines c.lines.session c.in-Some.line c.next_line.new.session
          c.lines.world.journal.entries c.load_line.new.world.journal.entries c.lines.tally c.load_line.new.tally inv.loading next
          (subst (λ r. Feeds r (115 ∷ c.in-Some.line) c.lines.world.journal.entries c.load_line.new.world.journal.entries)
          (same_rules c.args.world.now c.lines.world inv.count inv.profile) done.fed)
          done.counted done.bounded;
      rest = done.rest;
      carrying = λ carries. done.carrying (inv.carrying carries);
      hears = λ h. done.hears (inv.hears h);
      count = done.count ∙ inv.count;
      profile = done.profile ∙ inv.profile;
      room = done.room (no_err _ _);
      stands = done.stands (no_err _ _) ∙ inv.stands;
    }

pub returns-clause-fed : goal.returns-clause-fed
returns-clause-fed g c = first_fed (rules c.args.world.now) c.args.load c.lines.session c.lines.world.journal.entries c.lines.tally c.lines.invariant.loading

pub returns-in_err-line-clause-shown : goal.returns-in_err-line-clause-shown
returns-in_err-line-clause-shown g c =
    if_err_from c.from_residual.result c.in_err-line.field-0.0 _ c.from_residual.ensures.1 (memory_shown c.in_err-line.field-0.0 c.lines.world _ c.in_err-line.ensures.cause)

pub returns-in_err-line-clause-told : goal.returns-in_err-line-clause-told
returns-in_err-line-clause-told g c = λ carries.
    if_err_from c.from_residual.result c.in_err-line.field-0.0 _ c.from_residual.ensures.1 (memory_calm c.in_err-line.field-0.0 c.in_err-line.ensures.cause)

pub returns-in_err-load_line-clause-shown : goal.returns-in_err-load_line-clause-shown
returns-in_err-load_line-clause-shown g c =
    if_err_from c.from_residual-in_err-load_line.result c.in_err-load_line.field-0.0 _ c.from_residual-in_err-load_line.ensures.1 c.in_err-load_line.ensures.shown

pub returns-in_err-load_line-clause-told : goal.returns-in_err-load_line-clause-told
returns-in_err-load_line-clause-told g c = λ carries.
    if_err_from c.from_residual-in_err-load_line.result c.in_err-load_line.field-0.0 _ c.from_residual-in_err-load_line.ensures.1
    (c.in_err-load_line.ensures.told (c.lines.invariant.carrying carries))

pub returns-in_err-load_line-clause-hears : goal.returns-in_err-load_line-clause-hears
returns-in_err-load_line-clause-hears g c = λ heard. c.load_line.ensures.hears (c.lines.invariant.hears heard)

pub returns-in_err-load_line-clause-carrying : goal.returns-in_err-load_line-clause-carrying
returns-in_err-load_line-clause-carrying g c = λ carries. c.load_line.ensures.carrying (c.lines.invariant.carrying carries)
