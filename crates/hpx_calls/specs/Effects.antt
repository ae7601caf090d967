-- What calls do.
pub use Rattle.hpx_calls.specs.declared.effect.Effect.{Effect}
pub use Rattle.hpx_calls.specs.declared.effect.Effect.TheVariants.{Silent, Answers, Waits, Frees, Starts, Hands, Moves, Makes}
pub use Rattle.hpx_calls.specs.declared.effect.Called.{Called}
