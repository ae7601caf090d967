use Rattle.hpx_commit.proofs.Stripped.{short_lasting, short_once, short_few, stripped_at, stripped_else, stripped_sums}
use Rattle.hpx_commit.proofs.law.short_law.Goals as goal

pub returns-clause-none : goal.returns-clause-none
returns-clause-none c = λ n s p lasts. short_lasting n s p lasts

pub returns-clause-once : goal.returns-clause-once
returns-clause-once c = λ n s p lt short. short_once n s p lt short

pub returns-clause-few : goal.returns-clause-few
returns-clause-few c = λ n s. short_few n s

pub returns-clause-there : goal.returns-clause-there
returns-clause-there c = λ ps s p here some. stripped_at ps s p here some

pub returns-clause-elsewhere : goal.returns-clause-elsewhere
returns-clause-elsewhere c = λ ps s p none. stripped_else ps s p none

pub returns-clause-sums : goal.returns-clause-sums
returns-clause-sums c = λ f none ps s within once. stripped_sums f none ps s within once
