use Rattle.std.specs.Prelude.{◌∷◌, [], ◌++◌}
use Rattle.std.proofs.Common.{refl, ◌∙◌}
use Rattle.hpx_top.proofs.ShowLemmas.{if_err_from}
use Rattle.hpx_process.specs.Deeds.{Ends, Takes}
use Rattle.hpx_process.proofs.Prompts.{asking_fails, ends_lines, takes_line, typed_more, typed_none}
use Rattle.hpx_process.proofs.desk.Desk.ask.Goals as goal

pub loop-line-init : goal.loop-line-init
loop-line-init g c = record { source = refl; sink = refl; sheet = c.requires.sheet; typed = ([], typed_none _); calm = (refl, refl) }

pub returns-in_err-line-clause-fails : goal.returns-in_err-line-clause-fails
returns-in_err-line-clause-fails g c =
    let t = c.loop-line.invariant.typed in
    let f = c.in_err-line.ensures.fails in
    if_err_from c.from_residual.result c.in_err-line.field-0.0 _ c.from_residual.ensures.1
    (t.0 ++ f.0, f.1, asking_fails c.in_err-line.field-0.0 t.0 f.0 f.1 _ _ _ c.requires.sheet t.1 f.2)

pub returns-in-Line-clause-does : goal.returns-in-Line-clause-does
returns-in-Line-clause-does g c =
    let t = c.loop-line.invariant.typed in
    let types = rw c.in-Line.is at c.in_ok-line.ensures.types in
    (Takes t.0 types.by.line, types.by.fed, takes_line c.in-Line.line t.0 _ _ _ c.requires.sheet t.1 types.by c.take_line.ensures.sheet types.reads)

pub loop-line-preserved : goal.loop-line-preserved
loop-line-preserved g c =
    let i = c.loop-line.invariant in
    let types = rw c.in-Long.is at c.in_ok-line.ensures.types in
    record {
      source = c.take_line.ensures.source ∙ i.source;
      sink = c.take_line.ensures.sink ∙ i.sink;
      sheet = c.take_line.ensures.sheet ∙ i.sheet;
      typed = ((i.typed).0 ++ types.by.line ∷ [], typed_more (i.typed).0 _ _ _ (i.typed).1 types.by c.take_line.ensures.sheet types.reads);
      calm = (c.in_ok-line.ensures.calm.0 ∙ i.calm.0, c.in_ok-line.ensures.calm.1 ∙ i.calm.1);
    }

pub returns-in-Over-clause-does : goal.returns-in-Over-clause-does
returns-in-Over-clause-does g c =
    let t = c.loop-line.invariant.typed in
    let types = rw c.in-Over.is at c.in_ok-line.ensures.types in (
      Ends t.0,
      tt,
      ends_lines t.0 _ _ _ c.requires.sheet t.1 (record { last = types.by.last; over = types.by.over; written = types.by.written }) refl
          (record { next = types.reads.next; counted = types.reads.counted; limit = types.reads.limit }),
    )
