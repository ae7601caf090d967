use Rattle.hpx_journal.proofs.Moving.{tracked}
use Rattle.hpx_journal.proofs.law.tracks_law.Goals as goal

pub returns : goal.returns
returns c = λ n h m counted road. tracked n h m counted road
