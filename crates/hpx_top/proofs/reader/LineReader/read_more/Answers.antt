use Rattle.std.proofs.Common.{ℕ, true, ◌≡◌, ◌<◌, nat_eq, refl, ◌+◌, arith}
use Rattle.std.proofs.lemmas.Bool.Decides.{nat_tests}
use Rattle.hpx_top.proofs.ReaderLemmas.{has_read-more}
use Rattle.hpx_top.proofs.reader.LineReader.read_more.Goals as goal

none_at : (n : ℕ) → nat_eq n 0 ≡ true → n ≡ 0
none_at n h = grind (arith, nat_tests)

pub returns-clause-reads : goal.returns-clause-reads
returns-clause-reads g c =
    let room : c.self.inside.read < 67108864 = rw (← c.self.view_is) at c.requires.room in
    rw (← c.self.view_is)
    (λ all h. has_read-more c.in_ok-count.count all _ _
    (record { pending = c.self.inside.pending; read = c.self.inside.read; ended = c.self.inside.ended })
    (record { pending = c.read_from.new.self; read = c.self.inside.read + c.in_ok-count.count; ended = nat_eq c.in_ok-count.count 0 })
    h room c.in_ok-count.ensures.ok refl (none_at c.in_ok-count.count))
