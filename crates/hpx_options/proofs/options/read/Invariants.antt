use Rattle.std.proofs.Common.{◌≡◌, ◌+◌, ◌≤◌, drop}
use Rattle.hpx_options.specs.Meanings.{reading_from, reading_of}
use Rattle.hpx_options.proofs.Growth.{IsGood, size}
use Rattle.hpx_options.proofs.options.read.Given as goal

abbrev pub invariant-loop-word : goal.invariant-loop-word
invariant-loop-word l = record {
  good : IsGood l.line;
  grown : l.place ≤ size l.line;
  place : l.place ≡ l.word-index;
  rest : reading_from (l.word-index + 1) l.line (drop l.word-index l.word-items) ≡ reading_of l.word-items;
}
