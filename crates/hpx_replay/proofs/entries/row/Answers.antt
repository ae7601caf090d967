use Rattle.std.proofs.Common.{ℕ, ◌≡◌, ◌↔◌, IsTrue, Bool, ap, ◌∙◌, refl}
use Rattle.hpx_journal.specs.Entries.{Rules}
use Rattle.hpx_journal.specs.declared.entry.Event.TheVariants.{Fire, Born, Done, Sent, Print, Given, Count, Freed, Left, Landed, Looked, Out, In}
use Rattle.hpx_value.specs.declared.profile.Profile.{Profile}
use Rattle.hpx_journal.specs.Rows.{Row}
use Rattle.hpx_replay.specs.Spaces.{Meaning, rules_of, reading_of, outcome_in}
use Rattle.hpx_journal.specs.Frames.{parcel_in}
use Rattle.hpx_replay.proofs.RowLemmas.{row_is, ok_then}
use Rattle.hpx_replay.proofs.entries.row.Goals as goal

pub returns-in-Fire : goal.returns-in-Fire
returns-in-Fire c = λ f e.
    let r = rules_of c.args.localities c.args.profile.now f in
    row_is r c.args.local.now c.args.event.now (Fire c.in-Fire.action) c.fire_row.result c.in-Fire.is (c.fire_row.ensures r)

pub returns-in-Born : goal.returns-in-Born
returns-in-Born c = λ f e.
    let r = rules_of c.args.localities c.args.profile.now f in
    row_is r c.args.local.now c.args.event.now (Born c.in-Born.object c.in-Born.state) c.born_row.result c.in-Born.is (c.born_row.ensures r)

pub returns-in-Sent : goal.returns-in-Sent
returns-in-Sent c = λ f e.
    let r = rules_of c.args.localities c.args.profile.now f in
    row_is r c.args.local.now c.args.event.now (Sent c.in-Sent.action) c.sent_row.result c.in-Sent.is (c.sent_row.ensures r)

pub returns-in-Print : goal.returns-in-Print
returns-in-Print c = λ f e.
    let r = rules_of c.args.localities c.args.profile.now f in
    row_is r c.args.local.now c.args.event.now (Print c.in-Print.bytes) c.print_row.result c.in-Print.is (c.print_row.ensures r)

pub returns-in-Given : goal.returns-in-Given
returns-in-Given c = λ f e.
    let r = rules_of c.args.localities c.args.profile.now f in
    row_is r c.args.local.now c.args.event.now (Given c.in-Given.object c.in-Given.log) c.given_row.result c.in-Given.is (c.given_row.ensures c.args.localities f)

pub returns-in-Count : goal.returns-in-Count
returns-in-Count c = λ f e.
    let r = rules_of c.args.localities c.args.profile.now f in
    row_is r c.args.local.now c.args.event.now (Count c.in-Count.object c.in-Count.count c.in-Count.why) c.count_row.result c.in-Count.is (c.count_row.ensures c.args.localities f)

pub returns-in-Left : goal.returns-in-Left
returns-in-Left c = λ f e.
    let r = rules_of c.args.localities c.args.profile.now f in
    row_is r c.args.local.now c.args.event.now (Left c.in-Left.object c.in-Left.to) c.left_row.result c.in-Left.is (c.left_row.ensures r)

pub returns-in-Landed : goal.returns-in-Landed
returns-in-Landed c = λ f e.
    let r = rules_of c.args.localities c.args.profile.now f in
    row_is r c.args.local.now c.args.event.now (Landed c.in-Landed.object) c.landed_row.result c.in-Landed.is (c.landed_row.ensures r)

pub returns-in-Looked : goal.returns-in-Looked
returns-in-Looked c = λ f e.
    let r = rules_of c.args.localities c.args.profile.now f in
    row_is r c.args.local.now c.args.event.now (Looked c.in-Looked.object c.in-Looked.hit) c.looked_row.result c.in-Looked.is (c.looked_row.ensures r)

pub returns-in-Out : goal.returns-in-Out
returns-in-Out c = λ f e.
    let r = rules_of c.args.localities c.args.profile.now f in
    row_is r c.args.local.now c.args.event.now (Out c.in-Out.to c.in-Out.bytes) c.out_row.result c.in-Out.is (c.out_row.ensures r c.in-Out.bytes refl (ap (λ x. x.parcel) e ∙ ap parcel_in c.in-Out.is))

pub returns-in-In : goal.returns-in-In
returns-in-In c = λ f e.
    let r = rules_of c.args.localities c.args.profile.now f in
    row_is r c.args.local.now c.args.event.now (In c.in-In.bytes) c.in_row.result c.in-In.is (c.in_row.ensures r c.in-In.bytes (ap (λ x. x.parcel) e ∙ ap parcel_in c.in-In.is))

pub returns-in-Done : goal.returns-in-Done
returns-in-Done c =
    let P : Bool → Type 0 = λ b. (r : Rules) → c.args.reading.now.outcome ≡ outcome_in r c.args.local.now (Done c.in-Done.action c.in-Done.failed) → IsTrue b ↔ Row r c.args.local.now (Done c.in-Done.action c.in-Done.failed) in
    let Q : Bool → Type 0 = λ b. (f : Meaning) → c.args.reading.now ≡ reading_of (rules_of c.args.localities c.args.profile.now f) c.args.local.now c.args.event.now
    → IsTrue b ↔ Row (rules_of c.args.localities c.args.profile.now f) c.args.local.now c.args.event.now in
    ok_then c.commit_row.result P Q
    (λ b h f e.
    let r = rules_of c.args.localities c.args.profile.now f in
    row_is r c.args.local.now c.args.event.now (Done c.in-Done.action c.in-Done.failed) b c.in-Done.is (h r (ap (λ x. x.outcome) e ∙ ap (outcome_in r c.args.local.now) c.in-Done.is)))
    c.commit_row.ensures

pub returns-in-Freed : goal.returns-in-Freed
returns-in-Freed c =
    let P : Bool → Type 0 = λ b. (n : ℕ) (p : Profile) (f : Meaning) → IsTrue b ↔ Row (rules_of n p f) c.args.local.now (Freed c.in-Freed.object) in
    let Q : Bool → Type 0 = λ b. (f : Meaning) → c.args.reading.now ≡ reading_of (rules_of c.args.localities c.args.profile.now f) c.args.local.now c.args.event.now
    → IsTrue b ↔ Row (rules_of c.args.localities c.args.profile.now f) c.args.local.now c.args.event.now in
    ok_then c.freed_row.result P Q
    (λ b h f e.
    let r = rules_of c.args.localities c.args.profile.now f in
    row_is r c.args.local.now c.args.event.now (Freed c.in-Freed.object) b c.in-Freed.is (h c.args.localities c.args.profile.now f))
    c.freed_row.ensures
