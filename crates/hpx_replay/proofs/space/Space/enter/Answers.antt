use Rattle.std.proofs.Common.{◌≡◌, ◌<◌, ◌↔◌, ℕ, IsTrue, ap, refl, subst, arith}
use Rattle.hpx_journal.specs.Local.{after}
use Rattle.hpx_replay.specs.Spaces.{Meaning, MayEnter, rules_of, reading_of}
use Rattle.hpx_replay.proofs.Replays.{stands_here, stepped}
use Rattle.hpx_replay.proofs.space.Space.enter.Goals as goal

pub enter-requires-clause-cargo : goal.enter-requires-clause-cargo
enter-requires-clause-cargo g c = ap (λ x. x.cargo) (c.in_ok-reading.ensures c.args.profile.now)

pub enter-requires-clause-parcel : goal.enter-requires-clause-parcel
enter-requires-clause-parcel g c = ap (λ x. x.parcel) (c.in_ok-reading.ensures c.args.profile.now)

pub returns-clause-allowed : goal.returns-clause-allowed
returns-clause-allowed g c = λ w shown.
    let p = c.args.profile.now in
    let e = c.args.entry.now in
    let within : c.args.entry.now.at < g.A.Acts.count c.args.acts.now = omega (arith, c.localities-n.ensures) in
    let P : ℕ → Type 0 = λ n. (f : Meaning) → c.in_ok-reading.reading ≡ reading_of (rules_of n c.args.profile.now f) c.index_mut-place.result.now c.args.entry.now.event
    → IsTrue c.in_ok-allowed.allowed ↔ MayEnter (rules_of n c.args.profile.now f) c.index_mut-place.result.now c.args.entry.now.event in
    let h = subst P c.localities-n.ensures c.in_ok-allowed.ensures.allowed g.A.Acts.act_of (c.in_ok-reading.ensures p) in
    stands_here (rules_of (g.A.Acts.count c.args.acts.now) p g.A.Acts.act_of) c.args.self.now w e shown within c.index_mut-place.result.now
    c.index_mut-place.ensures.value c.in_ok-allowed.allowed (c.in_ok-carry.ensures.there.0 c.if-not-branch.false) c.if-place-entry.false h

pub returns-clause-after : goal.returns-clause-after
returns-clause-after g c = λ w shown t.
    let p = c.args.profile.now in
    let e = c.args.entry.now in
    let within : c.args.entry.now.at < g.A.Acts.count c.args.acts.now = omega (arith, c.localities-n.ensures) in
    let P : ℕ → Type 0 = λ n. (f : Meaning) → c.in_ok-reading.reading ≡ reading_of (rules_of n c.args.profile.now f) c.index_mut-place.result.now c.args.entry.now.event
    → IsTrue c.in_ok-allowed.allowed → c.enter.new.local ≡ after (rules_of n c.args.profile.now f) c.index_mut-place.result.now c.args.entry.now.event in
    let h = subst P c.localities-n.ensures c.in_ok-allowed.ensures.after g.A.Acts.act_of (c.in_ok-reading.ensures p) t in
    stepped (rules_of (g.A.Acts.count c.args.acts.now) p g.A.Acts.act_of) c.args.self.now w e shown within c.index_mut-place.result.now
    c.index_mut-place.ensures.value c.enter.new.local _ h refl (c.in_ok-carry.ensures.road c.if-not-branch.false)
