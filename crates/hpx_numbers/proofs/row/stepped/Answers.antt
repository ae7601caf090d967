use Rattle.std.proofs.Common.{◌≡◌, ap, sym, ◌∙◌, append_assoc, [], ◌∷◌, ◌++◌, arith, rules, to_z-of_z, SFits, w64}
use Rattle.hpx_calls.specs.Tables.{half, stepped}
use Rattle.hpx_numbers.proofs.Rows.{stepped_on}
use Rattle.hpx_numbers.proofs.row.stepped.Goals as goal

pub numbers-preserved : goal.numbers-preserved
numbers-preserved c =
    let fits : SFits w64 c.in-Some.number.now = search rules in
    search (rules, to_z-of_z, stepped_on)
