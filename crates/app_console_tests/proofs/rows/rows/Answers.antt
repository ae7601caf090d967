use Rattle.std.specs.Fmt.{digits}
use Rattle.std.proofs.Common.{refl}
use Rattle.app_console_tests.proofs.rows.rows.Goals as goal

pub returns-clause-many : goal.returns-clause-many
returns-clause-many c = refl

-- the plain space computes each text
pub returns-clause-plain : goal.returns-clause-plain
unfolding digits
returns-clause-plain c = (refl, (refl, (refl, (refl, (refl, (refl, (refl, (refl, (refl, (refl, (refl, (refl, (refl, (refl, (refl, (refl, (refl, (refl, (refl, (refl, (refl, (refl, (refl, (refl, (refl, (refl, (refl, (refl, (refl, tt)))))))))))))))))))))))))))))
