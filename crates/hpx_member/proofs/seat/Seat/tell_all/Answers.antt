use Rattle.std.proofs.Common.{◌∙◌, refl}
use Rattle.hpx_member.proofs.Asked.{told_more}
use Rattle.hpx_member.proofs.seat.Seat.tell_all.Goals as goal

pub loop-i-preserved : goal.loop-i-preserved
loop-i-preserved g c = record {
  sits = c.say.ensures.sits;
  node = c.say.ensures.node ∙ c.loop-i.invariant.node;
  book = c.say.ensures.book ∙ c.loop-i.invariant.book;
  told = told_more _ c.loop-i.i _ _ _ _ c.loop-i.invariant.told c.in-Ok.ensures.said refl;
  calm = c.in-Ok.ensures.calm ∙ c.loop-i.invariant.calm;
}
