mod CounterLemmas
mod Digits
mod Samples
