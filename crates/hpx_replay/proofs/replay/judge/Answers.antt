use Rattle.std.proofs.Common.{◌≡◌, ◌<◌, List, length, get_or, take, subst}
use Rattle.hpx_journal.specs.declared.entry.Entry.{Entry}
use Rattle.hpx_journal.specs.Whole.{replayed}
use Rattle.hpx_replay.specs.Spaces.{rules_of}
use Rattle.hpx_replay.proofs.Replays.{legal_next, shows_next}
use Rattle.hpx_replay.proofs.replay.judge.Goals as goal

pub loop-i-preserved : goal.loop-i-preserved
loop-i-preserved g c =
    let f = g.A.Acts.act_of in
    let p = c.args.profile.now in
    let r = rules_of (g.A.Acts.count c.args.acts.now) c.args.profile.now g.A.Acts.act_of in
    let es = c.args.journal.now.entries in
    let S : List Entry → Type 0 = λ xs. c.loop-i.i < length xs in
    let T : List Entry → Type 0 = λ xs. c.entry-item.result ≡ get_or xs c.loop-i.i c.entry-item.result in
    let within = subst S c.as_slice-entry-items.ensures c.loop-i-test.true in
    let at = subst T c.as_slice-entry-items.ensures c.entry-item.is in
    let w = replayed r (take c.loop-i.i es) in
    let allowed = (c.in-Ok-true.ensures.allowed w c.loop-i.invariant.shows).0 c.in-Ok-true.field-0-test in
    let shown = c.in-Ok-true.ensures.after w c.loop-i.invariant.shows c.in-Ok-true.field-0-test in
    record {
      legal = legal_next r es c.loop-i.i c.entry-item.result within at c.loop-i.invariant.legal allowed;
      shows = shows_next r es c.loop-i.i c.entry-item.result c.enter.new.self within at shown;
    }
