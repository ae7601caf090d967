-- The types of the code, by one name each.
pub use Rattle.hpx_value.specs.declared.value.Value.{Value}
pub use Rattle.hpx_value.specs.declared.value.Value.TheVariants.{Unit as Nothing, Flag, Int, Text, Ref, Fault, Ints}
pub use Rattle.hpx_value.specs.declared.value.Cont.{Cont}
pub use Rattle.hpx_value.specs.declared.value.State.{State}
pub use Rattle.hpx_value.specs.declared.value.Act.{Act}
pub use Rattle.hpx_value.specs.declared.outcome.Target.{Target}
pub use Rattle.hpx_value.specs.declared.outcome.Target.TheVariants.{Place, Root}
pub use Rattle.hpx_value.specs.declared.outcome.SendCont.{SendCont}
pub use Rattle.hpx_value.specs.declared.outcome.SendCont.TheVariants.{Nothing as NoCont, Own, Made, Here}
pub use Rattle.hpx_value.specs.declared.outcome.Make.{Make}
pub use Rattle.hpx_value.specs.declared.outcome.Sending.{Sending}
pub use Rattle.hpx_value.specs.declared.outcome.Outcome.{Outcome}
pub use Rattle.hpx_calls.specs.declared.content.Content.{Content}
pub use Rattle.hpx_calls.specs.declared.content.Content.TheVariants.{Unreadable}
pub use Rattle.hpx_calls.specs.declared.effect.Effect.TheVariants.{Answers}
