use Rattle.std.proofs.Common.{◌≡◌, ◌++◌, drop}
use Rattle.std.specs.List.{AllByRecursion}
use Rattle.hpx_value.specs.Ids.{IsId}
use Rattle.hpx_parcel.specs.Parcels.{FitsSlot}
use Rattle.hpx_parcel.specs.Spelling.{conts_text, ids_behind}
use Rattle.hpx_parcel.proofs.write.put_conts.Given as goal

abbrev pub invariant-loop-cont : goal.invariant-loop-cont
invariant-loop-cont l = record {
  text : l.out.items ++ conts_text l.rest (drop l.cont-index l.conts) ≡ l.fn.out.items ++ conts_text l.fn.ids l.conts;
  left : ids_behind l.rest (drop l.cont-index l.conts) ≡ ids_behind l.fn.ids l.conts;
  valid : AllByRecursion IsId l.rest → AllByRecursion IsId l.fn.ids;
  fits : AllByRecursion FitsSlot (drop l.cont-index l.conts) → AllByRecursion FitsSlot l.conts;
}
