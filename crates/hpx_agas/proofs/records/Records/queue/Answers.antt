use Rattle.std.proofs.Common.{◌≡◌, ◌∙◌, [], is_some, sym, ap, subst, arith}
use Rattle.std.specs.Prelude.{if◌then◌else◌}
use Rattle.hpx_agas.specs.Records.{find_record}
use Rattle.hpx_agas.specs.Queues.{items_of}
use Rattle.hpx_agas.specs.Registries.{IsKept}
use Rattle.hpx_agas.proofs.RecordsLemmas.{find_same, same_parts}
use Rattle.hpx_agas.proofs.RegistriesLemmas.{queues_stay, moving_live}
use Rattle.hpx_agas.proofs.records.Records.queue.Goals as goal

pub push-requires-clause-there : goal.push-requires-clause-there
push-requires-clause-there g c =
    let live = moving_live (find_record c.args.gid c.self.inside.table.records) (rw (← c.self.view_is) at c.requires.moving) in
    ap (λ slot. is_some slot) live.1

pub invariant_of-self : goal.invariant_of-self
invariant_of-self g c =
    let kept = c.self.invariant in
    let live = moving_live (find_record c.args.gid c.self.inside.table.records) (rw (← c.self.view_is) at c.requires.moving) in
    let same = same_parts c.args.gid live.0.gid (find_same c.args.gid c.self.inside.table.records live.0 live.1) in
    let good = kept.good c.args.gid live.0 live.1 in
    let births : c.push.new.self.births ≡ c.self.inside.table.births = ap (λ t. t.births) c.push.ensures.rest in
    let records : c.push.new.self.records ≡ c.self.inside.table.records = ap (λ t. t.records) c.push.ensures.rest in
    subst (λ b. IsKept c.self.inside.here c.self.inside.profile b c.push.new.self.records c.push.new.self.waiting) (sym births)
    (subst (λ rs. IsKept c.self.inside.here c.self.inside.profile c.self.inside.table.births rs c.push.new.self.waiting) (sym records)
    (record {
      here = kept.here;
      profile = kept.profile;
      few = kept.few;
      rises = kept.rises;
      good = kept.good;
      unborn = λ n above. c.push.ensures.others n (λ e. absurd (omega (arith, e, same.2, good.number))) ∙ kept.unborn n above;
    }))

pub returns-clause-queues : goal.returns-clause-queues
returns-clause-queues g c =
    let kept = c.self.invariant in
    let live = moving_live (find_record c.args.gid c.self.inside.table.records) (rw (← c.self.view_is) at c.requires.moving) in
    let records : c.push.new.self.records ≡ c.self.inside.table.records = ap (λ t. t.records) c.push.ensures.rest in
    rw (← c.self.view_is)
    (λ o away.
    ap (λ rs. if is_some (find_record o rs) then items_of o.number c.push.new.self.waiting else []) records
    ∙ queues_stay c.self.inside.table.records c.self.inside.table.waiting c.push.new.self.waiting c.args.gid live.0 kept.rises live.1 c.push.ensures.others o away)
