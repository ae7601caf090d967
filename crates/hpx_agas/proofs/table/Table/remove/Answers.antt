use Rattle.std.proofs.Common.{◌≡◌, ◌∙◌, length, sym, ap, refl, is_some, subst, arith}
use Rattle.hpx_agas.specs.Lines.{AreKept, in_place, left_behind}
use Rattle.hpx_agas.proofs.TablesLemmas.{kept_rises, kept_killed}
use Rattle.hpx_agas.proofs.SeenLemmas.{there, killed_found, killed_waiting, killed_length}
use Rattle.hpx_agas.proofs.table.Table.remove.Goals as goal

pub kill-requires : goal.kill-requires
kill-requires g c =
    let t = there c.args.gid 0 c.self.inside.births c.self.inside.lines c.self.invariant.lines (rw (← c.self.view_is) at c.requires) in
    rw (c.number.ensures, t.found) (ap (λ slot. is_some slot) t.live)

pub overflow_sub-self : goal.overflow_sub-self
overflow_sub-self g c =
    let t = there c.args.gid 0 c.self.inside.births c.self.inside.lines c.self.invariant.lines (rw (← c.self.view_is) at c.requires) in
    let is : c.kill.new.self ≡ in_place c.args.gid.number left_behind c.self.inside.lines = rw c.number.ensures at c.kill.ensures in
    omega (arith, killed_length c.args.gid c.self.inside.lines c.kill.new.self t is, c.self.invariant.live)

pub invariant_of-self : goal.invariant_of-self
invariant_of-self g c =
    let t = there c.args.gid 0 c.self.inside.births c.self.inside.lines c.self.invariant.lines (rw (← c.self.view_is) at c.requires) in
    let is : c.kill.new.self ≡ in_place c.args.gid.number left_behind c.self.inside.lines = rw c.number.ensures at c.kill.ensures in
    record {
      lines = subst (AreKept 0 c.self.inside.births) (sym is) (kept_killed c.args.gid.number 0 c.self.inside.births c.self.inside.lines c.self.invariant.lines);
      live = omega (arith, killed_length c.args.gid c.self.inside.lines c.kill.new.self t is, c.self.invariant.live);
      waiting = c.self.invariant.waiting ∙ sym (ap length (killed_waiting c.args.gid.number c.self.inside.lines c.kill.new.self is));
      most = c.self.invariant.most;
    }

pub returns-clause-found : goal.returns-clause-found
returns-clause-found g c =
    let t = there c.args.gid 0 c.self.inside.births c.self.inside.lines c.self.invariant.lines (rw (← c.self.view_is) at c.requires) in
    let is : c.kill.new.self ≡ in_place c.args.gid.number left_behind c.self.inside.lines = rw c.number.ensures at c.kill.ensures in
    rw (← c.self.view_is)
    (killed_found c.self.inside.births c.args.gid c.self.inside.lines c.kill.new.self c.self.invariant.lines t is)

pub returns-clause-rising : goal.returns-clause-rising
returns-clause-rising g c =
    let is : c.kill.new.self ≡ in_place c.args.gid.number left_behind c.self.inside.lines = rw c.number.ensures at c.kill.ensures in
    kept_rises 0 c.self.inside.births c.kill.new.self (subst (AreKept 0 c.self.inside.births) (sym is) (kept_killed c.args.gid.number 0 c.self.inside.births c.self.inside.lines c.self.invariant.lines))

pub returns-clause-length : goal.returns-clause-length
returns-clause-length g c =
    let t = there c.args.gid 0 c.self.inside.births c.self.inside.lines c.self.invariant.lines (rw (← c.self.view_is) at c.requires) in
    let is : c.kill.new.self ≡ in_place c.args.gid.number left_behind c.self.inside.lines = rw c.number.ensures at c.kill.ensures in
    rw (← c.self.view_is)
    (killed_length c.args.gid c.self.inside.lines c.kill.new.self t is)

pub returns-clause-rest : goal.returns-clause-rest
returns-clause-rest g c =
    let is : c.kill.new.self ≡ in_place c.args.gid.number left_behind c.self.inside.lines = rw c.number.ensures at c.kill.ensures in
    rw (← c.self.view_is, killed_waiting c.args.gid.number c.self.inside.lines c.kill.new.self is) refl
