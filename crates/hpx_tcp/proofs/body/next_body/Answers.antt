use Rattle.std.proofs.Common.{rules, arith, ◌≡◌, length}
use Rattle.std.proofs.lemmas.List.{places}
use Rattle.hpx_tcp.proofs.Parts.{comes}
use Rattle.hpx_tcp.proofs.body.next_body.Goals as goal

pub returns : goal.returns
returns g c =
    let head = c.fill.new.buf in
    let body = c.fill-2.new.buf in
    let long : length body ≡ c.length_of-length.result = search (rules, places) in
    let same : c.from_vec.result ≡ body = search (rules, places) in
    rw same (comes head body c.length_of-length.result c.in_ok-count.count c.in_ok-fill.field-0 _ _ _ c.fill.auto.buf (search rules) long
    (omega arith) (search rules) (search rules) (search rules) c.in_ok-count.ensures.next c.in_ok-fill.ensures.next)
