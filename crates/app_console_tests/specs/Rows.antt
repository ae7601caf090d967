-- What a session of a console prints by the plain space, without prompts.
use Rattle.std.specs.Prelude.{ℕ, List}
use Rattle.std.specs.List.{concat, slice_split}
use Rattle.app_console.specs.declared.table.Console.{Console}
use Rattle.app_console.specs.declared.table.Console.TheVariants.{Accumulator as AccumulatorConsole}
use Rattle.app_console.specs.Lines.{is_newline}
use Rattle.app_console.specs.Plain.{Plain, at_boot, opened, texts_of}

-- the space before the first line of a user
abbrev pub first_plain : Console → ℕ → Plain
first_plain AccumulatorConsole n = opened n
first_plain _ n = at_boot n

-- what the lines of an input print, one after another
abbrev pub plain_text : Console → ℕ → List ℕ → List ℕ
plain_text c n input = concat (texts_of c n (first_plain c n) (slice_split is_newline input))
