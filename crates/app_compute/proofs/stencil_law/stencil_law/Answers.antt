use Rattle.app_compute.proofs.Alone.{alone_judged}
use Rattle.app_compute.proofs.RingRows.{stencil_short}
use Rattle.app_compute.proofs.StencilText.{front_text, whole_text}
use Rattle.app_compute.proofs.stencil_law.stencil_law.Goals as goal

pub returns-clause-whole : goal.returns-clause-whole
returns-clause-whole c = λ r p q s es judged asked calm block. whole_text r judged p q s asked es calm block

pub returns-clause-broken_off : goal.returns-clause-broken_off
returns-clause-broken_off c = λ r p q s es judged asked calm begins legal. front_text r judged p q s asked es calm begins legal

pub returns-clause-short : goal.returns-clause-short
returns-clause-short c = λ p s few. stencil_short p s few

pub returns-clause-alone : goal.returns-clause-alone
returns-clause-alone c = λ n log limit parcel_of some grammar. alone_judged n log limit parcel_of some grammar
