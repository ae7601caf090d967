-- The types of the code, by one name each.
pub use Rattle.hpx_parcel.specs.Types.{Id, Value, Nothing, Flag, Int, Text, Ref, Fault, Ints, Cont, State, Act, Message}
pub use Rattle.hpx_value.specs.declared.outcome.Make.{Make}
pub use Rattle.hpx_value.specs.declared.outcome.Outcome.{Outcome}
pub use Rattle.hpx_value.specs.declared.outcome.Due.{Due}
pub use Rattle.hpx_value.specs.declared.outcome.Due.TheVariants.{Message as MessageDue, Print as PrintDue}
pub use Rattle.hpx_parcel.specs.declared.parcel.Parcel.{Parcel}
pub use Rattle.hpx_parcel.specs.declared.parcel.Parcel.TheVariants.{Apply, Return, Ask, Give, Cached, Move, Go, Object as Shipped, Landed as Arrived, Free}
