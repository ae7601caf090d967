use Rattle.std.specs.Prelude.{◌∷◌, [], option_map}
use Rattle.std.specs.List.{slice_split}
use Rattle.std.proofs.Common.{ap, ◌∙◌, refl, lit≤}
use Rattle.app_console.specs.Console.{prompt}
use Rattle.app_console.specs.Lines.{is_newline, lines_in}
use Rattle.app_console.specs.Text.{too_long}
use Rattle.hpx_member.specs.declared.lines.LineFault.TheVariants.{InputFull, OutOfMemory, Read}
use Rattle.hpx_ports.specs.Told.{followed}
use Rattle.hpx_top.proofs.LineLemmas.{followed_twice}
use Rattle.hpx_top.proofs.ShowLemmas.{if_err_from}
use Rattle.hpx_process.proofs.Prompts.{error_unwritten, memory_apart, one_line, one_long, prompt_fails, prompt_unwritten}
use Rattle.hpx_process.proofs.Talking.{handed_same}
use Rattle.hpx_process.proofs.desk.Desk.take_line.Goals as goal

pub returns-in_err-write-clause-fails : goal.returns-in_err-write-clause-fails
returns-in_err-write-clause-fails g c =
    if_err_from c.from_residual.result c.in_err-write.field-0.0 _ c.from_residual.ensures.1
    (prompt_unwritten c.in_err-write.field-0.0 _ _ _ _ _ _ c.requires.sheet c.in_err-write.ensures.cause.0 c.in_err-write.ensures.front)

pub returns-in-Ok-Line-clause-fails : goal.returns-in-Ok-Line-clause-fails
returns-in-Ok-Line-clause-fails g c =
    let takes = rw c.in-Ok-Line.field-0-is at c.in-Ok-Line.ensures.ok in (
      [],
      _ ∷ [],
      prompt_fails OutOfMemory (_ ∷ []) _ _ c.requires.sheet refl (lit≤ tt) c.in_ok-write.ensures.held (one_line _ _ _ takes) (λ which. absurd (memory_apart which))
          (record { next = c.in-Ok-Line.ensures.reads; counted = c.in-Ok-Line.ensures.counted; limit = λ few. c.in-Ok-Line.ensures.limit }),
    )

pub returns-in_err-write-in-Ok-Long-clause-fails :
    goal.returns-in_err-write-in-Ok-Long-clause-fails
returns-in_err-write-in-Ok-Long-clause-fails g c =
    let takes = rw c.in-Ok-Long.field-0-is at c.in-Ok-Long.ensures.ok in
    if_err_from c.from_residual-in_err-write-in-Ok-Long.result c.in_err-write-in-Ok-Long.field-0.0 _ c.from_residual-in_err-write-in-Ok-Long.ensures.1
    (error_unwritten c.in_err-write-in-Ok-Long.field-0.0 takes.line _ _ _ c.requires.sheet refl c.in_err-write-in-Ok-Long.ensures.cause.0 takes.long c.in_ok-write.ensures.held
    c.in_err-write-in-Ok-Long.ensures.front (one_long _ _ takes) (record { next = c.in-Ok-Long.ensures.reads; counted = c.in-Ok-Long.ensures.counted; limit = λ few. c.in-Ok-Long.ensures.limit }))

pub returns-in-Ok-Long-clause-types : goal.returns-in-Ok-Long-clause-types
returns-in-Ok-Long-clause-types g c =
    let takes = rw c.in-Ok-Long.field-0-is at c.in-Ok-Long.ensures.ok in
    record {
      by = record {
        line = takes.line;
        long = takes.long;
        typed = one_long _ _ takes;
        written = c.in_ok-write-in-Ok-Long.ensures.held ∙ (ap (λ o. followed o too_long) c.in_ok-write.ensures.held ∙ followed_twice _ prompt too_long);
      };
      reads = record { next = c.in-Ok-Long.ensures.reads; counted = c.in-Ok-Long.ensures.counted; limit = λ few. c.in-Ok-Long.ensures.limit };
    }

pub returns-in-Ok-Full-clause-fails : goal.returns-in-Ok-Full-clause-fails
returns-in-Ok-Full-clause-fails g c =
    let full = rw c.in-Ok-Full.field-0-is at c.in-Ok-Full.ensures.ok in (
      [],
      [],
      prompt_fails InputFull [] _ _ c.requires.sheet refl refl c.in_ok-write.ensures.held (handed_same _ _ (ap (option_map (λ input. lines_in (slice_split is_newline input))) full.1)) (λ which. full.0.no_line)
          (record { next = c.in-Ok-Full.ensures.reads; counted = c.in-Ok-Full.ensures.counted; limit = λ few. c.in-Ok-Full.ensures.limit }),
    )

pub returns-in-Err-Failed-clause-fails : goal.returns-in-Err-Failed-clause-fails
returns-in-Err-Failed-clause-fails g c = (
  [],
  [],
  prompt_fails Read [] _ _ c.requires.sheet refl refl c.in_ok-write.ensures.held (handed_same _ _ (ap (option_map (λ input. lines_in (slice_split is_newline input))) c.in-Err-Failed.ensures.err)) (λ which. c.in-Err-Failed.ensures.no_line (rw c.in-Err-Failed.field-0-is refl))
      (record { next = c.in-Err-Failed.ensures.reads; counted = c.in-Err-Failed.ensures.counted; limit = λ few. c.in-Err-Failed.ensures.limit }),
)

pub returns-clause-fails : goal.returns-clause-fails
returns-clause-fails g c = (
  [],
  [],
  prompt_fails OutOfMemory [] _ _ c.requires.sheet refl (lit≤ tt) c.in_ok-write.ensures.held (handed_same _ _ (ap (option_map (λ input. lines_in (slice_split is_newline input))) c.in-Err-OutOfMemory.ensures.err)) (λ which. absurd (memory_apart which))
      (record { next = c.in-Err-OutOfMemory.ensures.reads; counted = c.in-Err-OutOfMemory.ensures.counted; limit = λ few. c.in-Err-OutOfMemory.ensures.limit }),
)
