use Rattle.hpx_commit.proofs.Ahead.{ahead_same, ahead_is}
use Rattle.hpx_commit.proofs.AheadSums.{ahead_sums}
use Rattle.hpx_commit.proofs.Short.{short_is, ahead_lasts, ahead_short, place_some, ahead_front}
use Rattle.hpx_commit.proofs.AheadMore.{ahead_few}
use Rattle.hpx_commit.proofs.Halves.{ahead_halves}
use Rattle.hpx_commit.proofs.law.ahead_law.Goals as goal

pub returns-clause-same : goal.returns-clause-same
returns-clause-same c = λ n s fits within. ahead_same n s fits within

pub returns-clause-split : goal.returns-clause-split
returns-clause-split c = λ n s fits within. ahead_is n s fits within

pub returns-clause-sums : goal.returns-clause-sums
returns-clause-sums c = λ f n s fits within. ahead_sums f n s fits within

pub returns-clause-front : goal.returns-clause-front
returns-clause-front c = λ n s fits within. ahead_front n s fits within

pub returns-clause-credit : goal.returns-clause-credit
returns-clause-credit c = λ n s fits within p here. place_some n s fits within p here

pub returns-clause-short : goal.returns-clause-short
returns-clause-short c = λ n s fits within. ahead_short n s fits within

pub returns-clause-empty : goal.returns-clause-empty
returns-clause-empty c = λ n s fits within p lt short. short_is n s fits within p lt short

pub returns-clause-lasts : goal.returns-clause-lasts
returns-clause-lasts c = λ n s fits within p h. ahead_lasts n s fits within p h

pub returns-clause-few : goal.returns-clause-few
returns-clause-few c = λ n s fits within. ahead_few n s fits within

pub returns-clause-halves : goal.returns-clause-halves
returns-clause-halves c = λ n s fits within. ahead_halves n s fits within
