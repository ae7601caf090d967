-- Passes on the names of actions and outcomes that most proofs cite.
pub use Rattle.hpx_value.specs.declared.value.Value.{Value}
pub use Rattle.hpx_value.specs.declared.value.Value.TheVariants.{Int}
pub use Rattle.hpx_value.specs.declared.value.Cont.{Cont}
pub use Rattle.hpx_value.specs.declared.value.State.{State}
pub use Rattle.hpx_value.specs.declared.value.Act.{Act}
pub use Rattle.hpx_value.specs.declared.value.Message.{Message}
pub use Rattle.hpx_value.specs.declared.outcome.Outcome.{Outcome}
pub use Rattle.hpx_value.specs.declared.outcome.Make.{Make}
pub use Rattle.hpx_value.specs.declared.outcome.Sending.{Sending}
pub use Rattle.hpx_value.specs.declared.outcome.Reply.{Reply}
pub use Rattle.hpx_value.specs.declared.outcome.SendCont.{SendCont}
pub use Rattle.hpx_value.specs.declared.outcome.SendCont.TheVariants.{Nothing as NoCont, Own, Made, Here}
pub use Rattle.hpx_value.specs.declared.outcome.Target.{Target}
pub use Rattle.hpx_value.specs.declared.outcome.Target.TheVariants.{Place, Root}
pub use Rattle.hpx_value.specs.declared.outcome.Due.{Due}
pub use Rattle.hpx_value.specs.declared.outcome.Due.TheVariants.{Message as MessageDue, Print as PrintDue}
