use Rattle.std.proofs.Common.{rules, ◌≡◌, ◌++◌, slice_index_or, pos, refl}
use Rattle.std.specs.Fmt.{signed_decimal}
use Rattle.app_compute.proofs.RingLists.{on_ok_map, words_pushed}
use Rattle.app_compute.proofs.stencil.+push_words.Goals as goal

pub returns-in_ok-push-in-len1-up : goal.returns-in_ok-push-in-len1-up
returns-in_ok-push-in-len1-up t c =
    let one : c.push_number.new.bytes.items ≡ c.args.bytes.now.items ++ signed_decimal (slice_index_or c.args.numbers.now 0 (pos 0)) = search rules in
    on_ok_map c.push_words.result _ _
    (λ e. words_pushed c.args.bytes.now.items c.push_number.new.bytes.items c.push.new.self.items c.push_words.new.bytes.items c.args.numbers.now
    (slice_index_or c.args.numbers.now 0 (pos 0)) c.is_empty.result
    c.in-len1-up.len_at_least c.if-is_empty.false c.is_empty.ensures refl one c.in_ok-push-in-len1-up.ensures.items e) c.push_words.ensures
