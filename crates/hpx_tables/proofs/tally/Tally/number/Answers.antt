use Rattle.std.proofs.Common.{◌∙◌, sym, ap}
use Rattle.std.specs.Option.{option_copied}
use Rattle.hpx_tables.proofs.Counted.{number, number_at}
use Rattle.hpx_tables.proofs.tally.Tally.number.Goals as goal

pub returns-in-Some : goal.returns-in-Some
returns-in-Some c =
    ap number (sym (ap option_copied c.in-Some.is) ∙ c.get.ensures.value) ∙ number_at c.key_of.result c.args.o c.key_of.ensures c.args.self.now.numbers.entries

pub returns-in-None : goal.returns-in-None
returns-in-None c =
    ap number (sym (ap option_copied c.in-None.is) ∙ c.get.ensures.value) ∙ number_at c.key_of.result c.args.o c.key_of.ensures c.args.self.now.numbers.entries
