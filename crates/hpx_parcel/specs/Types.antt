-- The types of the code that frames speak of.
pub use Rattle.hpx_value.specs.Ids.{Id}
pub use Rattle.hpx_value.specs.declared.value.Value.{Value}
pub use Rattle.hpx_value.specs.declared.value.Value.TheVariants.{Unit as Nothing, Flag, Int, Text, Ref, Fault, Ints}
pub use Rattle.hpx_value.specs.declared.value.Cont.{Cont}
pub use Rattle.hpx_value.specs.declared.value.State.{State}
pub use Rattle.hpx_value.specs.declared.value.Act.{Act}
pub use Rattle.hpx_value.specs.declared.value.Message.{Message}
pub use Rattle.hpx_parcel.specs.declared.parcel.Parcel.{Parcel}
pub use Rattle.hpx_parcel.specs.declared.parcel.Parcel.TheVariants.{Apply, Return, Ask, Give, Cached, Move, Go, Object, Landed, Free}
pub use Rattle.hpx_parcel.specs.declared.parcel.Why.{Why}
pub use Rattle.hpx_parcel.specs.declared.parcel.Why.TheVariants.{Long, Cut, Kind, BadId, BadValue, Trailing}
