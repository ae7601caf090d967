use Rattle.app_load.proofs.Queries.{session_known}
use Rattle.app_load.proofs.session.position.Position.new.Goals as goal

pub returns-clause-lines : goal.returns-clause-lines
returns-clause-lines c = session_known c.args.start c.args.count c.args.n c.requires.some c.requires.few
