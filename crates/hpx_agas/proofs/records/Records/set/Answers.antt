use Rattle.std.proofs.Common.{◌≡◌, ◌∙◌, [], is_some, sym, ap, subst}
use Rattle.std.specs.Prelude.{if◌then◌else◌}
use Rattle.hpx_agas.specs.Records.{find_record}
use Rattle.hpx_agas.specs.Queues.{items_of}
use Rattle.hpx_agas.specs.Registries.{IsKept}
use Rattle.hpx_agas.proofs.RegistriesLemmas.{set_found, set_others, set_queues, set_good, set_same, set_there}
use Rattle.hpx_agas.proofs.SeenLemmas.{remade_like}
use Rattle.hpx_agas.proofs.records.Records.set.Goals as goal

pub put-requires : goal.put-requires
put-requires g c =
    let there = rw (← c.self.view_is) at c.requires.there in
    set_there c.self.inside.table.records c.args.gid c.args.made there

pub invariant_of-self : goal.invariant_of-self
invariant_of-self g c =
    let there = rw (← c.self.view_is) at c.requires.there in
    let most = rw (← c.self.view_is) at c.requires.most in
    let kept = c.self.invariant in
    let births : c.put.new.self.births ≡ c.self.inside.table.births = ap (λ t. t.births) c.put.ensures.rest in
    let waiting : c.put.new.self.waiting ≡ c.self.inside.table.waiting = ap (λ t. t.waiting) c.put.ensures.rest in
    subst (λ b. IsKept c.self.inside.here c.self.inside.profile b c.put.new.self.records c.put.new.self.waiting) (sym births)
    (subst (λ ws. IsKept c.self.inside.here c.self.inside.profile c.self.inside.table.births c.put.new.self.records ws) (sym waiting)
    (record {
      here = kept.here;
      profile = kept.profile;
      few = kept.few;
      rises = c.put.ensures.rising;
      good = set_good c.self.inside.table.records c.put.new.self.records c.args.gid c.args.made c.put.ensures.found there c.self.inside.here c.self.inside.table.births c.self.inside.profile kept.good c.requires.least most;
      unborn = kept.unborn;
    }))

pub returns-clause-records : goal.returns-clause-records
returns-clause-records g c =
    let there = rw (← c.self.view_is) at c.requires.there in
    rw (← c.self.view_is)
    (c.put.ensures.records ∙ remade_like c.args.made.gid c.args.gid (λ _. c.args.made) c.self.inside.table.records (set_same c.self.inside.table.records c.args.gid c.args.made there))

pub returns-clause-record : goal.returns-clause-record
returns-clause-record g c =
    let there = rw (← c.self.view_is) at c.requires.there in
    set_found c.self.inside.table.records c.put.new.self.records c.args.gid c.args.made c.put.ensures.found there

pub returns-clause-others : goal.returns-clause-others
returns-clause-others g c =
    let there = rw (← c.self.view_is) at c.requires.there in
    rw (← c.self.view_is)
    (set_others c.self.inside.table.records c.put.new.self.records c.args.gid c.args.made c.put.ensures.found there)

pub returns-clause-queues : goal.returns-clause-queues
returns-clause-queues g c =
    let there = rw (← c.self.view_is) at c.requires.there in
    let waiting : c.put.new.self.waiting ≡ c.self.inside.table.waiting = ap (λ t. t.waiting) c.put.ensures.rest in
    rw (← c.self.view_is)
    (λ o.
    ap (λ ws. if is_some (find_record o c.put.new.self.records) then items_of o.number ws else []) waiting
    ∙ set_queues c.self.inside.table.records c.put.new.self.records c.args.gid c.args.made c.put.ensures.found there o c.self.inside.table.waiting)
