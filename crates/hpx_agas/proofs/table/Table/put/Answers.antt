use Rattle.std.proofs.Common.{◌≡◌, ◌∙◌, ◌∷◌, [], Some, length, sym, ap, refl, is_some}
use Rattle.hpx_agas.specs.Lines.{in_place}
use Rattle.hpx_agas.proofs.TablesLemmas.{kept_rises}
use Rattle.hpx_agas.proofs.SeenLemmas.{there, put_kept, put_found, put_waiting, put_length, put_records}
use Rattle.hpx_agas.proofs.table.Table.put.Goals as goal

pub set-requires : goal.set-requires
set-requires g c =
    let t = there c.args.made.gid 0 c.self.inside.births c.self.inside.lines c.self.invariant.lines (rw (← c.self.view_is) at c.requires) in
    rw (c.number.ensures, t.found) (ap (λ slot. is_some slot) t.live)

pub invariant_of-self : goal.invariant_of-self
invariant_of-self g c =
    let t = there c.args.made.gid 0 c.self.inside.births c.self.inside.lines c.self.invariant.lines (rw (← c.self.view_is) at c.requires) in
    let is : c.set.new.self ≡ in_place c.args.made.gid.number (λ l. record l { live = Some c.args.made } ∷ []) c.self.inside.lines = rw c.number.ensures at c.set.ensures in
    record {
      lines = put_kept c.self.inside.births c.args.made c.self.inside.lines c.set.new.self c.self.invariant.lines is;
      live = c.self.invariant.live ∙ sym (put_length c.args.made c.self.inside.lines c.set.new.self t is);
      waiting = c.self.invariant.waiting ∙ sym (ap length (put_waiting c.args.made c.self.inside.lines c.set.new.self is));
      most = c.self.invariant.most;
    }

pub returns-clause-records : goal.returns-clause-records
returns-clause-records g c =
    let t = there c.args.made.gid 0 c.self.inside.births c.self.inside.lines c.self.invariant.lines (rw (← c.self.view_is) at c.requires) in
    let is : c.set.new.self ≡ in_place c.args.made.gid.number (λ l. record l { live = Some c.args.made } ∷ []) c.self.inside.lines = rw c.number.ensures at c.set.ensures in
    rw (← c.self.view_is)
    (put_records c.self.inside.births c.args.made c.self.inside.lines c.set.new.self c.self.invariant.lines t is)

pub returns-clause-found : goal.returns-clause-found
returns-clause-found g c =
    let t = there c.args.made.gid 0 c.self.inside.births c.self.inside.lines c.self.invariant.lines (rw (← c.self.view_is) at c.requires) in
    let is : c.set.new.self ≡ in_place c.args.made.gid.number (λ l. record l { live = Some c.args.made } ∷ []) c.self.inside.lines = rw c.number.ensures at c.set.ensures in
    rw (← c.self.view_is)
    (put_found c.self.inside.births c.args.made c.self.inside.lines c.set.new.self c.self.invariant.lines t is)

pub returns-clause-rising : goal.returns-clause-rising
returns-clause-rising g c =
    let is : c.set.new.self ≡ in_place c.args.made.gid.number (λ l. record l { live = Some c.args.made } ∷ []) c.self.inside.lines = rw c.number.ensures at c.set.ensures in
    kept_rises 0 c.self.inside.births c.set.new.self (put_kept c.self.inside.births c.args.made c.self.inside.lines c.set.new.self c.self.invariant.lines is)

pub returns-clause-length : goal.returns-clause-length
returns-clause-length g c =
    let t = there c.args.made.gid 0 c.self.inside.births c.self.inside.lines c.self.invariant.lines (rw (← c.self.view_is) at c.requires) in
    let is : c.set.new.self ≡ in_place c.args.made.gid.number (λ l. record l { live = Some c.args.made } ∷ []) c.self.inside.lines = rw c.number.ensures at c.set.ensures in
    rw (← c.self.view_is)
    (put_length c.args.made c.self.inside.lines c.set.new.self t is)

pub returns-clause-rest : goal.returns-clause-rest
returns-clause-rest g c =
    let is : c.set.new.self ≡ in_place c.args.made.gid.number (λ l. record l { live = Some c.args.made } ∷ []) c.self.inside.lines = rw c.number.ensures at c.set.ensures in
    rw (← c.self.view_is, put_waiting c.args.made c.self.inside.lines c.set.new.self is) refl
