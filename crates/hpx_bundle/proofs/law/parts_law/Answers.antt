use Rattle.hpx_bundle.proofs.Bundled.{bundled_parts, parts_bundled}
use Rattle.hpx_bundle.proofs.law.parts_law.Goals as goal

pub returns-clause-read : goal.returns-clause-read
returns-clause-read c = bundled_parts

pub returns-clause-bundled : goal.returns-clause-bundled
returns-clause-bundled c = parts_bundled
