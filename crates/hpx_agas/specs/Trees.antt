-- What a tree of lines is seen as.
use Rattle.std.specs.Prelude.{◌≡◌, ◌≤◌, List, [], ◌∷◌, ◌++◌, length}
use Rattle.hpx_agas.specs.declared.line.Line.{Line}
use Rattle.hpx_agas.specs.declared.tree.Node.{Node}
use Rattle.hpx_agas.specs.declared.tree.Node.TheVariants.{Empty, Leaf, Fork}
use Rattle.hpx_agas.specs.Lines.{AreBelow, AreFrom, records_of}

module _ {Q : Type 0} where
  -- the lines in order
  abbrev pub lines_of : Node Q → List (Line Q)
  lines_of Empty = []
  lines_of (Leaf l) = l ∷ []
  lines_of (Fork low cut high) = low.value ++ high.value

  -- a fork has lines on both sides of its cut, and counts the records of the lower side
  abbrev pub IsCut : Node Q → Type 0
  IsCut Empty = Unit {0}
  IsCut (Leaf l) = Unit {0}
  IsCut (Fork low cut high) =
      (1 ≤ length low.value) × (1 ≤ length high.value) × AreBelow cut.split low.value × AreFrom cut.split high.value × (cut.before ≡ length (records_of low.value))
