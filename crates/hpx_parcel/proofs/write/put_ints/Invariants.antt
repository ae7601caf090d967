use Rattle.std.proofs.Common.{◌≡◌, ◌++◌, take, FitsSigned, w64}
use Rattle.std.specs.List.{AllByRecursion, flat_map}
use Rattle.hpx_parcel.specs.Spelling.{int_text}
use Rattle.hpx_parcel.proofs.write.put_ints.Given as goal

abbrev pub invariant-loop-number : goal.invariant-loop-number
invariant-loop-number l = record {
  text : l.out.items ≡ l.fn.out.items ++ flat_map int_text (take l.number-index l.numbers);
  fits : AllByRecursion (FitsSigned w64) (take l.number-index l.numbers);
}
