-- Values over references, and what is read off a value whatever it refers to.
use Rattle.std.specs.Prelude.{ℕ, ℤ, Bool, true, false, List, ◌+◌, ◌*◌, nat_le, length}
use Rattle.hpx_value.specs.declared.value.Value.{Value as Spelled}
use Rattle.hpx_value.specs.declared.value.Value.TheVariants.{Unit as SpelledUnit, Flag as SpelledFlag, Int as SpelledInt, Text as SpelledText, Ref as SpelledRef, Fault as SpelledFault, Ints as SpelledInts}

-- values over references: places of a hand, ids, or what a plain model has in their stead
pub data Value (R : Type 0) : Type 0 where
  Nothing : Value R
  Flag : (yes_or_no : Bool) → Value R
  Int : (number : ℤ) → Value R
  Text : (bytes : List ℕ) → Value R
  Ref : (to : R) → Value R
  Fault : (code : ℕ) → Value R
  Ints : (numbers : List ℤ) → Value R

-- a value without what it refers to
abbrev pub Look : Type 0
Look = Value (Unit {0})

-- a sort of values: how those are written that refer to nothing, and how each looks
pub record Sort (V : Type 0) : Type 0 where
  pub nothing : V
  pub flag : Bool → V
  pub int : ℤ → V
  pub text : List ℕ → V
  pub fault : ℕ → V
  pub ints : List ℤ → V
  pub look : V → Look

-- the same value over other references
abbrev pub mapped : {R S : Type 0} → (R → S) → Value R → Value S
mapped f Nothing = Nothing
mapped f (Flag yes_or_no) = Flag yes_or_no
mapped f (Int number) = Int number
mapped f (Text bytes) = Text bytes
mapped f (Ref to) = Ref (f to)
mapped f (Fault code) = Fault code
mapped f (Ints numbers) = Ints numbers

-- plain values, over any references
abbrev pub plain : (R : Type 0) → Sort (Value R)
plain R = record {
  nothing = Nothing;
  flag = Flag;
  int = Int;
  text = Text;
  fault = Fault;
  ints = Ints;
  look = mapped (λ r. tt);
}

-- what a value of the code is, where each place stands for what is seen there
abbrev pub seen : {R : Type 0} → (ℕ → R) → Spelled → Value R
seen see SpelledUnit = Nothing
seen see (SpelledFlag yes_or_no) = Flag yes_or_no
seen see (SpelledInt number) = Int number
seen see (SpelledText bytes) = Text bytes
seen see (SpelledRef place) = Ref (see place)
seen see (SpelledFault code) = Fault code
seen see (SpelledInts numbers) = Ints numbers

-- the values of the code, whose Refs are places
abbrev pub spelled : Sort Spelled
spelled = record {
  nothing = SpelledUnit;
  flag = SpelledFlag;
  int = SpelledInt;
  text = SpelledText;
  fault = SpelledFault;
  ints = SpelledInts;
  look = seen (λ place. tt);
}

-- a value of the code with its place moved on
abbrev pub shifted : ℕ → Spelled → Spelled
shifted by SpelledUnit = SpelledUnit
shifted by (SpelledFlag yes_or_no) = SpelledFlag yes_or_no
shifted by (SpelledInt number) = SpelledInt number
shifted by (SpelledText bytes) = SpelledText bytes
shifted by (SpelledRef place) = SpelledRef (by + place)
shifted by (SpelledFault code) = SpelledFault code
shifted by (SpelledInts numbers) = SpelledInts numbers

-- how many bytes a value takes in a frame, an id 16 of them
abbrev pub size : {R : Type 0} → Value R → ℕ
size Nothing = 1
size (Flag yes_or_no) = 2
size (Int number) = 9
size (Text bytes) = 3 + length bytes
size (Ref to) = 17
size (Fault code) = 2
size (Ints numbers) = 3 + length numbers * 8

-- a promise takes numbers and texts from PUT
abbrev pub is_number_or_text : {R : Type 0} → Value R → Bool
is_number_or_text (Int number) = true
is_number_or_text (Text bytes) = true
is_number_or_text _ = false

-- a channel takes these: Unit, Flag, Int, and texts of at most 32 bytes
abbrev pub is_small : {R : Type 0} → Value R → Bool
is_small Nothing = true
is_small (Flag yes_or_no) = true
is_small (Int number) = true
is_small (Text bytes) = nat_le (length bytes) 32
is_small _ = false
