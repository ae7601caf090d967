-- The types of the code, by one name each.
pub use Rattle.hpx_value.specs.Ids.{Id, bare_id}
pub use Rattle.hpx_value.specs.declared.value.Value.{Value as Spelled}
pub use Rattle.hpx_value.specs.declared.value.Value.TheVariants.{Unit as SpelledUnit, Flag as SpelledFlag, Int as SpelledInt, Text as SpelledText, Ref as SpelledRef, Fault as SpelledFault, Ints as SpelledInts}
pub use Rattle.hpx_value.specs.declared.value.Cont.{Cont}
pub use Rattle.hpx_value.specs.declared.value.State.{State}
pub use Rattle.hpx_value.specs.declared.value.Act.{Act}
pub use Rattle.hpx_value.specs.declared.outcome.Target.{Target}
pub use Rattle.hpx_value.specs.declared.outcome.Target.TheVariants.{Place, Root}
pub use Rattle.hpx_value.specs.declared.outcome.SendCont.TheVariants.{Here}
pub use Rattle.hpx_value.specs.declared.outcome.Sending.{Sending}
pub use Rattle.hpx_value.specs.declared.outcome.Outcome.{Outcome}
pub use Rattle.app_console.specs.declared.table.Console.{Console}
pub use Rattle.app_console.specs.declared.table.Console.TheVariants.{Space, Accumulator as AccumulatorConsole, Own}
pub use Rattle.app_console.specs.declared.table.Need.{Need}
pub use Rattle.app_console.specs.declared.table.Need.TheVariants.{NewName, BoundName, AnyName, It, NewIt, Locality, Number, Count}
pub use Rattle.app_console.specs.declared.table.Receiver.{Receiver}
pub use Rattle.app_console.specs.declared.table.Receiver.TheVariants.{First, Root as RootHome, RootThere, RootBeside}
pub use Rattle.app_console.specs.declared.table.Kind.{Kind}
pub use Rattle.app_console.specs.declared.table.Kind.TheVariants.{Accumulator, Promise, Channel, Latch, Barrier}
pub use Rattle.app_console.specs.declared.table.Arg.{Arg}
pub use Rattle.app_console.specs.declared.table.Arg.TheVariants.{Word, Object, Number as NumberOf, Made as KindName}
pub use Rattle.app_console.specs.declared.table.Answer.{Answer}
pub use Rattle.app_console.specs.declared.table.Answer.TheVariants.{Silent, Tells, Releases, Binds}
pub use Rattle.app_console.specs.declared.table.Command.{Command as Written}
pub use Rattle.app_console.specs.declared.table.Does.{Does as WrittenDoes}
pub use Rattle.app_console.specs.declared.table.Does.TheVariants.{Helps as WrittenHelps, Drops as WrittenDrops, Sends as WrittenSends}
pub use Rattle.app_console.specs.declared.plan.Refusal.{Refusal}
pub use Rattle.app_console.specs.declared.plan.Refusal.TheVariants.{BadCommand, BadName, NameInUse, UnknownName, NotReady, NoSuchLocality, BadNumber, NotMovable, TooManyNames, TooManyPending}
pub use Rattle.app_console.specs.declared.plan.Status.{Status}
pub use Rattle.app_console.specs.declared.plan.Status.TheVariants.{Unknown, Pending, Stands}
pub use Rattle.app_console.specs.declared.plan.Argument.{Argument}
pub use Rattle.app_console.specs.declared.plan.Argument.TheVariants.{Word as GivenWord, Object as GivenObject, Number as GivenNumber}
pub use Rattle.app_console.specs.declared.plan.Goal.{Goal}
pub use Rattle.app_console.specs.declared.plan.Goal.TheVariants.{Named, Root as RootAt}
pub use Rattle.app_console.specs.declared.plan.Plan.{Plan}
pub use Rattle.app_console.specs.declared.plan.Plan.TheVariants.{Nothing as DoesNothing, Helps as ShowsHelp, Refuses, GivesUp, Calls}
pub use Rattle.app_console.specs.declared.desk.Naming.{Naming}
pub use Rattle.app_console.specs.declared.desk.What.{What}
pub use Rattle.app_console.specs.declared.desk.What.TheVariants.{Silent as NotSaid, Tells as Told, Releases as Released, Binds as Bound}
pub use Rattle.app_console.specs.declared.desk.Await.{Await}
pub use Rattle.app_console.specs.declared.desk.Desk.{Desk}
