use Rattle.std.proofs.Common.{◌≡◌, ◌+◌, ◌-◌, length, ap, sym, ◌∙◌, subst}
use Rattle.hpx_top.specs.Pending.{IsNewlineAt, IsSearched}
use Rattle.app_console.specs.Lines.{IsPiece}
use Rattle.hpx_top.proofs.ReaderLemmas.{viewed, searched_newline, searched_none, pending_newline, pending_none}
use Rattle.hpx_top.proofs.reader.pending.Pending.first_newline.Goals as goal

pub invariant_of-self : goal.invariant_of-self
invariant_of-self c =
    searched_newline _ _ _ _ c.self.invariant
    (subst (λ rest. IsNewlineAt rest c.in-Some.n) (viewed _ _ c.deref.ensures.value _) c.in-Some.ensures.some)

pub invariant_of-self-in-None : goal.invariant_of-self-in-None
invariant_of-self-in-None c =
    let many : length c.self.inside.bytes.items ≡ c.len.result = ap length (sym c.deref.ensures.value) ∙ c.deref.ensures.len ∙ sym c.len.ensures in
    subst (λ n. IsSearched c.self.inside.bytes.items c.self.inside.start (n - c.self.inside.start)) many
    (searched_none _ _ _ c.self.invariant (subst IsPiece (viewed _ _ c.deref.ensures.value _) c.in-None.ensures.none))

pub returns-in-Some-clause-some : goal.returns-in-Some-clause-some
returns-in-Some-clause-some c =
    subst (λ bytes. IsNewlineAt bytes (c.self.inside.clear + c.in-Some.n)) c.self.view_is
    (pending_newline _ _ _ _ c.self.invariant
    (subst (λ rest. IsNewlineAt rest c.in-Some.n) (viewed _ _ c.deref.ensures.value _) c.in-Some.ensures.some))

pub returns-in-None-clause-none : goal.returns-in-None-clause-none
returns-in-None-clause-none c =
    subst IsPiece c.self.view_is
    (pending_none _ _ _ c.self.invariant (subst IsPiece (viewed _ _ c.deref.ensures.value _) c.in-None.ensures.none))
