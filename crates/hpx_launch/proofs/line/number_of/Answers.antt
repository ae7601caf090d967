use Rattle.std.proofs.Common.{rules}
use Rattle.clap.specs.Words.{found_of}
use Rattle.hpx_launch.proofs.Clap.{first_is, first_none}
use Rattle.hpx_launch.proofs.line.number_of.Goals as goal

pub returns-in_err-get_str : goal.returns-in_err-get_str
returns-in_err-get_str c =
    let none = first_none (λ text. text.now) c.get_str.result (found_of c.args.matches.now) c.args.id.now c.get_str.ensures c.in_err-get_str.was in
    rw none (search rules)

pub returns : goal.returns
returns c =
    let some = first_is (λ text. text.now) c.get_str.result (found_of c.args.matches.now) c.args.id.now c.get_str.ensures c.in_ok-get_str.field-0 c.in_ok-get_str.was in
    rw some c.number.ensures
