-- The text of a session, by the entries that follow from each of its lines.
use Rattle.std.specs.Prelude.{ℕ, Bool, true, false, Option, List, [], ◌∷◌, ◌++◌, ◌≡◌, map, if◌then◌else◌}
use Rattle.std.specs.List.{concat, flat_map, AllByRecursion}
use Rattle.hpx_journal.specs.Entries.{Rules}
use Rattle.hpx_journal.specs.Pool.{prints_of}
use Rattle.hpx_journal.specs.Sessions.{BeginsWith, FeedsNothing}
use Rattle.hpx_part.specs.Data.{Entry}
use Rattle.hpx_ports.specs.Told.{followed}
use Rattle.hpx_member.specs.Serves.{IsIdleBehind}
use Rattle.app_console.specs.Console.{prompt}
use Rattle.app_console.specs.Lines.{is_long, lines_of, opening}
use Rattle.app_console.specs.Text.{too_long}
use Rattle.hpx_top.specs.Texts.{commands}
use Rattle.hpx_top.specs.declared.consoles.UserConsole.TheVariants.{Accumulator}

-- a line, and the entries that follow from it
pub record Part : Type 0 where
  pub line : List ℕ
  pub entries : List Entry

-- a line that is too long has none; another is fed behind an `a`
abbrev pub IsPartBy : Bool → List ℕ → List Entry → Type 0
IsPartBy true line entries = entries ≡ []
IsPartBy false line entries = BeginsWith (97 ∷ line) entries

abbrev pub IsPart : Part → Type 0
IsPart p = IsPartBy (is_long p.line) p.line p.entries

-- a prompt, and what is printed; or the error for a line that is too long
abbrev pub part_text : Part → List ℕ
part_text p = prompt ++ (concat (prints_of p.entries) ++ (if is_long p.line then too_long else []))

-- The journal has entries for the line that makes the accumulator, then for each line of the input, up to its end or to `quit`, behind which nothing is
-- under way here, and then others that feed nothing. The text is the commands, what is printed for each of these, and the last prompt.
pub record IsWhole (r : Rules) (input : List ℕ) (es : List Entry) (old new : Option (List ℕ)) : Type 0 where
  pub first : List Entry
  pub parts : List Part
  pub later : List Entry
  pub lines : map (λ p. p.line) parts ≡ lines_of input
  pub is : es ≡ first ++ (flat_map (λ p. p.entries) parts ++ later)
  pub idle : IsIdleBehind r (first ++ flat_map (λ p. p.entries) parts)
  pub opened : BeginsWith opening first
  pub each : AllByRecursion IsPart parts
  pub unfed : AllByRecursion (λ e. FeedsNothing e.event) later
  pub text : new ≡ followed old (commands Accumulator ++ (concat (prints_of first) ++ (flat_map part_text parts ++ (prompt ++ concat (prints_of later)))))
