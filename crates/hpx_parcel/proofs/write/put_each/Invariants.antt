use Rattle.std.proofs.Common.{◌≡◌, ◌++◌, drop}
use Rattle.std.specs.List.{AllByRecursion}
use Rattle.hpx_value.specs.Ids.{IsId}
use Rattle.hpx_value.specs.Shapes.{IsValue}
use Rattle.hpx_parcel.specs.Parcels.{FitsValue}
use Rattle.hpx_parcel.specs.Spelling.{each_text, ids_after}
use Rattle.hpx_parcel.proofs.write.put_each.Given as goal

abbrev pub invariant-loop-value : goal.invariant-loop-value
invariant-loop-value l = record {
  text : l.out.items ++ each_text l.rest (drop l.value-index l.values) ≡ l.fn.out.items ++ each_text l.fn.ids l.values;
  left : ids_after l.rest (drop l.value-index l.values) ≡ ids_after l.fn.ids l.values;
  valid : AllByRecursion IsId l.rest → AllByRecursion IsId l.fn.ids;
  shape : AllByRecursion IsValue (drop l.value-index l.values);
  fits : AllByRecursion FitsValue (drop l.value-index l.values) → AllByRecursion FitsValue l.values;
}
