-- The types of the code, by one name each.
pub use Rattle.hpx_value.specs.Ids.{Id}
pub use Rattle.hpx_value.specs.declared.value.Value.{Value}
pub use Rattle.hpx_value.specs.declared.value.Value.TheVariants.{Unit as Nothing, Int, Text, Ref}
pub use Rattle.hpx_value.specs.declared.value.State.{State}
pub use Rattle.hpx_value.specs.declared.value.Act.{Act}
pub use Rattle.hpx_value.specs.declared.outcome.Make.{Make}
pub use Rattle.hpx_value.specs.declared.outcome.Outcome.{Outcome}
