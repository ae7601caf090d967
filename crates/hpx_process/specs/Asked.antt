-- What comes of a prompt.
use Rattle.std.specs.Prelude.{ℕ, false, true, Option, Some, None, IfSome, List, [], ◌∷◌, ◌++◌, ◌≡◌}
use Rattle.hpx_ports.specs.Told.{followed}
use Rattle.app_console.specs.Console.{prompt}
use Rattle.app_console.specs.Lines.{before_quit, is_long}
use Rattle.app_console.specs.Text.{too_long}
use Rattle.hpx_top.specs.Session.{HandsOut}
use Rattle.hpx_process.specs.declared.desk.Answer.{Answer}
use Rattle.hpx_process.specs.declared.desk.Answer.TheVariants.{Line, Long, Over}
use Rattle.hpx_process.specs.Deeds.{AreLong, AreOver, Deed, Ends, Reads, Sitting, Takes, lines_at, longs_text}

-- a line was typed that is not too long
pub record TypesLine (text : List ℕ) (x z : Sitting) : Type 0 where
  pub line : List ℕ
  pub fed : text ≡ 97 ∷ line
  pub fits : is_long line ≡ false
  pub typed : HandsOut (lines_at x) (lines_at z) (line ∷ [])
  pub written : z.text ≡ followed x.text prompt

-- or one that is
pub record TypesLong (x z : Sitting) : Type 0 where
  pub line : List ℕ
  pub long : is_long line ≡ true
  pub typed : HandsOut (lines_at x) (lines_at z) (line ∷ [])
  pub written : z.text ≡ followed x.text (prompt ++ too_long)

-- or there are no more
pub record TypesNone (x z : Sitting) : Type 0 where
  pub last : IfSome (lines_at x) (λ lines. before_quit lines ≡ [])
  pub over : AreOver (lines_at x) z.reading
  pub written : z.text ≡ followed x.text prompt

abbrev pub TypesBy : Answer → Sitting → Sitting → Type 0
TypesBy (Line text) x z = TypesLine text x z
TypesBy Long x z = TypesLong x z
TypesBy Over x z = TypesNone x z

pub record Types (answer : Answer) (x z : Sitting) : Type 0 where
  pub by : TypesBy answer x z
  pub reads : Reads x z

-- the line that is answered is that of the deed
abbrev pub IsAskedBy : Option (List ℕ) → Deed → Type 0
IsAskedBy (Some text) (Takes longs line) = text ≡ 97 ∷ line
IsAskedBy None (Ends longs) = Unit {0}
IsAskedBy _ _ = ⊥

-- so many lines were typed that are too long, each behind a prompt
pub record HasTyped (longs : List (List ℕ)) (x z : Sitting) : Type 0 where
  pub long : AreLong longs
  pub sheet : z.sheet ≡ x.sheet
  pub typed : HandsOut (lines_at x) (lines_at z) longs
  pub written : z.text ≡ followed x.text (longs_text longs)
  pub reads : Reads x z
