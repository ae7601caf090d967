use Rattle.std.proofs.Common.{◌≡◌, ◌+◌, ◌∷◌, ◌++◌, ◌∙◌, [], Some, length, refl, sym, ap, subst, arith, length-append}
use Rattle.hpx_agas.specs.Lines.{AreKept, records_of, waiting_of}
use Rattle.hpx_agas.proofs.ChangesLemmas.{line_with}
use Rattle.hpx_agas.proofs.TablesLemmas.{kept_below, kept_added, kept_rises, added_records, added_waiting, find_added, records_within}
use Rattle.hpx_agas.proofs.table.Table.born.Goals as goal

pub append-requires-clause-above : goal.append-requires-clause-above
append-requires-clause-above g c = kept_below 0 c.self.inside.births (c.self.inside.births + 1) c.self.inside.lines (omega arith) c.self.invariant.lines

pub overflow_add-self-2 : goal.overflow_add-self-2
overflow_add-self-2 g c = omega (arith, c.self.invariant.live, records_within 0 c.self.inside.births c.self.inside.lines (omega arith) c.self.invariant.lines, rw (← c.self.view_is) at c.requires.few)

pub invariant_of-self : goal.invariant_of-self
invariant_of-self g c =
    let m = line_with (c.self.inside.births + 1) (Some c.args.made) c.new.result in
    let next : c.args.made.gid.number ≡ c.self.inside.births + 1 = rw (← c.self.view_is) at c.requires.next in
    let records : records_of c.append.new.self ≡ records_of c.self.inside.lines ++ c.args.made ∷ [] = ap records_of c.append.ensures ∙ added_records c.self.inside.lines m c.args.made refl in
    let waiting : waiting_of c.append.new.self ≡ waiting_of c.self.inside.lines = ap waiting_of c.append.ensures ∙ added_waiting c.self.inside.lines m c.new.ensures in
    record {
      lines = subst (AreKept 0 (c.self.inside.births + 1)) (sym c.append.ensures) (kept_added 0 c.self.inside.births c.self.inside.lines m (omega arith) (omega arith) next c.self.invariant.lines);
      live = omega (arith, ap length records, length-append (records_of c.self.inside.lines) (c.args.made ∷ []), c.self.invariant.live);
      waiting = c.self.invariant.waiting ∙ sym (ap length waiting);
      most = c.self.invariant.most;
    }

pub returns-clause-records : goal.returns-clause-records
returns-clause-records g c =
    let m = line_with (c.self.inside.births + 1) (Some c.args.made) c.new.result in
    rw (← c.self.view_is)
    (ap records_of c.append.ensures ∙ added_records c.self.inside.lines m c.args.made refl)

pub returns-clause-found : goal.returns-clause-found
returns-clause-found g c =
    let m = line_with (c.self.inside.births + 1) (Some c.args.made) c.new.result in
    let next : c.args.made.gid.number ≡ c.self.inside.births + 1 = rw (← c.self.view_is) at c.requires.next in
    let records : records_of c.append.new.self ≡ records_of c.self.inside.lines ++ c.args.made ∷ [] = ap records_of c.append.ensures ∙ added_records c.self.inside.lines m c.args.made refl in
    rw (← c.self.view_is, records)
    (λ o. find_added o 0 c.self.inside.births c.self.inside.lines c.args.made c.self.invariant.lines (omega (arith, next)))

pub returns-clause-rising : goal.returns-clause-rising
returns-clause-rising g c =
    let m = line_with (c.self.inside.births + 1) (Some c.args.made) c.new.result in
    let next : c.args.made.gid.number ≡ c.self.inside.births + 1 = rw (← c.self.view_is) at c.requires.next in
    kept_rises 0 (c.self.inside.births + 1) c.append.new.self
    (subst (AreKept 0 (c.self.inside.births + 1)) (sym c.append.ensures) (kept_added 0 c.self.inside.births c.self.inside.lines m (omega arith) (omega arith) next c.self.invariant.lines))

pub returns-clause-rest : goal.returns-clause-rest
returns-clause-rest g c =
    let m = line_with (c.self.inside.births + 1) (Some c.args.made) c.new.result in
    let waiting : waiting_of c.append.new.self ≡ waiting_of c.self.inside.lines = ap waiting_of c.append.ensures ∙ added_waiting c.self.inside.lines m c.new.ensures in
    rw (← c.self.view_is, waiting) refl
