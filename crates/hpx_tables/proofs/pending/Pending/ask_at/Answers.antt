use Rattle.std.proofs.Common.{◌∙◌, sym, ap}
use Rattle.hpx_tables.specs.Pending.{Waits, is_asked_for}
use Rattle.hpx_tables.proofs.Refills.{found_on}
use Rattle.hpx_tables.proofs.pending.Pending.ask_at.Goals as goal

pub returns-then-is_for-clause-found : goal.returns-then-is_for-clause-found
returns-then-is_for-clause-found g c =
    found_on (is_asked_for c.args.self.now c.args.o c.args.entry) c.args.self.now.asked c.deref-x-items.result.now c.loop-k.k _
    (c.deref-x-items.ensures.value ∙ ap (λ (w : Waits). w.asked) c.self.view_is) c.loop-k-test.true (sym c.is_for.ensures ∙ c.if-is_for.true)
    c.loop-k.invariant
