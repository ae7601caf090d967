use Rattle.std.proofs.Common.{◌≡◌, true, map, take}
use Rattle.std.specs.List.{list_all}
use Rattle.std.specs.Str.{is_utf8}
use Rattle.hpx_launch.proofs.matches.texts_of.Given as goal

-- the words before this one are text
abbrev pub invariant-loop-word : goal.invariant-loop-word
invariant-loop-word l =
    record {
      texts : map (λ text. text.now) l.texts.items ≡ take l.word-index l.words;
      text : list_all is_utf8 (take l.word-index l.words) ≡ true;
    }
