-- What every call on a name service is told, from the whole list of calls before, the latest first.
use Rattle.std.specs.Prelude.{ℕ, pos, List, Option, length}
use Rattle.hpx_calls.specs.declared.request.Request.{Request}
use Rattle.hpx_calls.specs.declared.request.Request.TheVariants.{New, Register, Resolve, Unregister, Keys, Count}
use Rattle.hpx_calls.specs.Histories.{Setting, Call, Told, own}
use Rattle.hpx_names.specs.Maps.{keys, stands_for, spaced, register_answer, resolve_answer, unregister_answer, shape_under, new_answer}

-- a call that is not listed, or has another shape, is told NoAction
abbrev pub wrong_says : {V W : Type 0} → Setting V → Option W → List (Told V W)
wrong_says g w = own w (g.sort.fault 11)

-- a table that is empty at its birth
abbrev pub table_says : {V W : Type 0} → Setting V → List (Call V W) → Request V → Option W → List (Told V W)
table_says g h (Register key to) w = own w (register_answer g.sort (stands_for h key) (length (keys h)))
table_says g h (Resolve key) w = own w (resolve_answer g.sort (stands_for h key))
table_says g h (Unregister key) w = own w (unregister_answer g.sort (stands_for h key))
table_says g h Keys w = own w (g.sort.text (spaced (keys h)))
table_says g h _ w = wrong_says g w

-- components, whatever came before
abbrev pub maker_says : {V W : Type 0} → Setting V → Request V → Option W → List (Told V W)
maker_says g (New name values) w = own w (new_answer g.sort g.made (shape_under g.sort name values))
maker_says g _ w = wrong_says g w

-- n localities, whatever came before
abbrev pub size_says : {V W : Type 0} → Setting V → ℕ → Request V → Option W → List (Told V W)
size_says g n Count w = own w (g.sort.int (pos n))
size_says g n _ w = wrong_says g w
