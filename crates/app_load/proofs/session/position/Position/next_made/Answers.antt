use Rattle.app_load.proofs.Steps.{made_handed}
use Rattle.app_load.proofs.session.position.Position.next_made.Goals as goal

pub returns-clause-line : goal.returns-clause-line
returns-clause-line c =
    made_handed c.args.self.now c.next_number-number.result c.in_ok-line.line c.follow.new.self c.requires.made c.requires.some
    c.next_number-number.ensures c.in_ok-line.ensures c.follow.ensures
