use Rattle.std.specs.Prelude.{IfSome}
use Rattle.std.proofs.Common.{refl, sym, ap, subst}
use Rattle.hpx_process.specs.Memberships.{IsMembership, membership_by}
use Rattle.hpx_process.proofs.Words.{by_settings}
use Rattle.hpx_process.proofs.membership.membership_in.Goals as goal

pub returns-in-Ok-clause-fits : goal.returns-in-Ok-clause-fits
returns-in-Ok-clause-fits c = subst (λ o. IfSome o IsMembership) (sym c.membership_of.ensures) (by_settings c.in-Ok.settings)

pub returns-in-Err-clause-is : goal.returns-in-Err-clause-is
returns-in-Err-clause-is c = sym (ap membership_by ((c.in-Err.ensures.usage c.in-Err.field-0.place).0 refl))
