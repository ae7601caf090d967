use Rattle.hpx_steps.proofs.AtRest.{rest_stands, sound_at_rest}
use Rattle.hpx_steps.proofs.law.tables_law.Goals as goal

pub returns-clause-told : goal.returns-clause-told
returns-clause-told c = λ r t entries h. rest_stands t r entries h

pub returns-clause-back : goal.returns-clause-back
returns-clause-back c = λ r t entries rules h. sound_at_rest t r entries rules h
