use Rattle.std.proofs.Common.{ℕ, Option, List, ◌≡◌, ◌+◌, false}
use Rattle.hpx_top.specs.Reader.{input_left, bytes_left, reads_left, wants_more, HasRead}
use Rattle.hpx_top.proofs.reader.LineReader.find_line.Given as goal

-- what was read so far is pending, and nothing is read at the limit
abbrev pub invariant-loop-n : goal.invariant-loop-n
invariant-loop-n g l =
    record {
      input : input_left l.self (g.S.Source.left l.source) ≡ input_left l.fn.self (g.S.Source.left l.fn.source);
      counted : l.self.read + g.S.Source.taken l.fn.source ≡ l.fn.self.read + g.S.Source.taken l.source;
      reads : (all : Option (List ℕ)) → HasRead all l.fn.self (g.S.Source.left l.fn.source) → HasRead all l.self (g.S.Source.left l.source);
      kept : bytes_left l.self ≡ bytes_left l.fn.self;
      still : wants_more l.fn.self ≡ false → (l.self ≡ l.fn.self) × (l.source ≡ l.fn.source);
      same : l.fn.self.read ≡ 67108864 → l.self ≡ l.fn.self;
      stands : g.S.Source.faults l.source ≡ g.S.Source.faults l.fn.source;
    }

abbrev pub decreases-loop-n : goal.decreases-loop-n
decreases-loop-n g l = reads_left l.self
