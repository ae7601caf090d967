use Rattle.std.proofs.Common.{ap, ◌∙◌, refl, inr}
use Rattle.hpx_ports.specs.Told.{followed}
use Rattle.hpx_member.specs.declared.lines.LineFault.TheVariants.{OutOfMemory}
use Rattle.hpx_process.proofs.Talking.{opening_fails, opens_does}
use Rattle.hpx_process.proofs.desk.Desk.open.Goals as goal

pub returns-in-Ok-clause-does : goal.returns-in-Ok-clause-does
returns-in-Ok-clause-does g c = opens_does _ _ _ _ _ _ c.requires.sheet (c.in_ok-write.ensures.held ∙ ap (followed _) c.commands.ensures)

pub returns-in-Err-clause-fails : goal.returns-in-Err-clause-fails
returns-in-Err-clause-fails g c = opening_fails OutOfMemory _ _ _ _ _ _ c.requires.sheet (inr refl) (c.in_ok-write.ensures.held ∙ ap (followed _) c.commands.ensures)
