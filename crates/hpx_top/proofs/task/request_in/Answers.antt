use Rattle.std.proofs.Common.{◌≡◌, sym, ap}
use Rattle.hpx_options.specs.Meanings.{BadWord, reading_of}
use Rattle.hpx_top.specs.Usage.{reading_request}
use Rattle.hpx_top.proofs.task.request_in.Goals as goal

pub returns-in-Err : goal.returns-in-Err
returns-in-Err c =
    let reading : reading_of c.args.words.now ≡ BadWord c.in-Err.field-0.place = (c.read.ensures.usage c.in-Err.field-0.place).0 c.in-Err.is in
    sym (ap reading_request reading)
