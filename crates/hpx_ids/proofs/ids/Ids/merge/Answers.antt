use Rattle.hpx_ids.specs.Tables.{entry, credit_sum}
use Rattle.hpx_ids.proofs.Merges.{credits_kept}
use Rattle.hpx_ids.proofs.ids.Ids.merge.Goals as goal

pub returns-clause-credits : goal.returns-clause-credits
returns-clause-credits c =
    credits_kept c.take_whole.result (entry c.args.self.now c.args.e) (entry c.args.self.now c.args.f)
    (λ o. credit_sum o c.args.self.now) (λ o. credit_sum o c.take_whole.new.self) (λ o. credit_sum o c.raise.new.self) c.requires.alike
    c.take_whole.ensures.answer c.take_whole.ensures.credits
    (rw (c.take_whole.ensures.others c.args.e c.requires.two) at c.raise.ensures.credits)
