use Rattle.hpx_part.proofs.ObjectRows.{follows_born}
use Rattle.hpx_part.proofs.law.born_law.Goals as goal

pub returns : goal.returns
returns c = λ r v o state l m tokens live due bare home managed number drawn conts ids shape is trades lives. follows_born r v o state l m tokens live due bare home managed number drawn conts ids shape is trades lives
