use Rattle.std.proofs.Common.{Err, ap, ◌∙◌, subst, ◌⊎◌, inl, inr}
use Rattle.hpx_top.specs.Reader.{lines_left}
use Rattle.hpx_top.specs.declared.session.SessionFault.TheVariants.{Fabric, JournalFull, OutOfMemory, Write}
use Rattle.hpx_top.specs.Breaches.{IsShown, NoBreach}
use Rattle.hpx_top.specs.Session.{rules, IsLineEndedBy}
use Rattle.hpx_top.proofs.ShowLemmas.{if_err_from, err_of, handed_on}
use Rattle.hpx_top.proofs.SessionLemmas.{served_more, serving_more, cut_here, cut_line, next_line, next_long, over_end, over_quit, under_prompt, stopped_full, stopped_read}
use Rattle.hpx_top.proofs.FeedLemmas.{cut_long, cut_text, cut_write, memory_calm, memory_shown, write_calm, write_shown}
use Rattle.hpx_top.proofs.serve.serve_line.Goals as goal

pub returns-in_err-write-clause-err : goal.returns-in_err-write-clause-err
returns-in_err-write-clause-err g c =
    if_err_from c.from_residual.result c.in_err-write.field-0.0 _ c.from_residual.ensures.1
    (λ all before s. cut_write _ _ all before _ _ c.in_err-write.ensures.cause.0
    (under_prompt all before _ _ _ _ _ s c.in_err-write.ensures.front))

pub returns-in_err-serve_text-in-Ok-Line-clause-err : goal.returns-in_err-serve_text-in-Ok-Line-clause-err
returns-in_err-serve_text-in-Ok-Line-clause-err g c =
    let takes = rw c.in-Ok-Line.field-0-is at c.in-Ok-Line.ensures.ok in
    if_err_from c.from_residual-in_err-serve_text-in-Ok-Line.result c.in_err-serve_text-in-Ok-Line.field-0.0 _
    c.from_residual-in_err-serve_text-in-Ok-Line.ensures.1
    (λ all before s. cut_text c.serve_text.new.progress.held c.serve_text.new.progress.cuts.items c.in_err-serve_text-in-Ok-Line.field-0.0 all before
    (g.K.Sink.held c.args.sink.now) (g.K.Sink.held c.write.new.sink) (g.K.Sink.held c.serve_text.new.sink) c.args.reader.now c.next_line.new.self
    (g.S.Source.left c.args.source.now) (g.S.Source.left c.next_line.new.source) c.args.world.now.journal.entries c.serve_text.new.world.journal.entries
    s c.in_ok-write.ensures.held (next_line takes) takes.fits c.in_err-serve_text-in-Ok-Line.ensures.err)

pub returns-in_err-serve_long-in-Ok-Long-clause-err : goal.returns-in_err-serve_long-in-Ok-Long-clause-err
returns-in_err-serve_long-in-Ok-Long-clause-err g c =
    let takes = rw c.in-Ok-Long.field-0-is at c.in-Ok-Long.ensures.ok in
    if_err_from c.from_residual-in_err-serve_long-in-Ok-Long.result c.in_err-serve_long-in-Ok-Long.field-0.0 _
    c.from_residual-in_err-serve_long-in-Ok-Long.ensures.1
    (λ all before s. cut_long c.serve_long.new.progress.held c.serve_long.new.progress.cuts.items c.in_err-serve_long-in-Ok-Long.field-0.0 _ all before
    (g.K.Sink.held c.args.sink.now) (g.K.Sink.held c.write.new.sink) (g.K.Sink.held c.serve_long.new.sink) c.args.reader.now c.next_line.new.self
    (g.S.Source.left c.args.source.now) (g.S.Source.left c.next_line.new.source) c.args.world.now.journal.entries c.args.world.now.journal.entries
    s c.in_ok-write.ensures.held (next_long takes) c.in_err-serve_long-in-Ok-Long.ensures.cause (c.in_err-serve_long-in-Ok-Long.ensures.err c.args.console takes.line takes.long))

pub returns-in_ok-serve_text-in-Ok-Line-clause-line : goal.returns-in_ok-serve_text-in-Ok-Line-clause-line
returns-in_ok-serve_text-in-Ok-Line-clause-line g c =
    let takes = rw c.in-Ok-Line.field-0-is at c.in-Ok-Line.ensures.ok in
    let fewer = rw c.in-Ok-Line.field-0-is at c.in-Ok-Line.ensures.fewer in
    (λ h all before s. serving_more all before
    (g.K.Sink.held c.args.sink.now) (g.K.Sink.held c.write.new.sink) (g.K.Sink.held c.serve_text.new.sink) c.args.reader.now c.next_line.new.self
    (g.S.Source.left c.args.source.now) (g.S.Source.left c.next_line.new.source) c.args.world.now.journal.entries c.serve_text.new.world.journal.entries
    s c.in_ok-write.ensures.held (next_line takes) fewer c.in_ok-serve_text-in-Ok-Line.ensures.served)

pub returns-in_ok-serve_long-in-Ok-Long-clause-line : goal.returns-in_ok-serve_long-in-Ok-Long-clause-line
returns-in_ok-serve_long-in-Ok-Long-clause-line g c =
    let takes = rw c.in-Ok-Long.field-0-is at c.in-Ok-Long.ensures.ok in
    let fewer = rw c.in-Ok-Long.field-0-is at c.in-Ok-Long.ensures.fewer in
    (λ h all before s. serving_more all before
    (g.K.Sink.held c.args.sink.now) (g.K.Sink.held c.write.new.sink) (g.K.Sink.held c.serve_long.new.sink) c.args.reader.now c.next_line.new.self
    (g.S.Source.left c.args.source.now) (g.S.Source.left c.next_line.new.source) c.args.world.now.journal.entries c.args.world.now.journal.entries
    s c.in_ok-write.ensures.held (next_long takes) fewer (c.in_ok-serve_long-in-Ok-Long.ensures.served c.args.console takes.line takes.long))

pub returns-in-Ok-Quit-clause-over : goal.returns-in-Ok-Quit-clause-over
returns-in-Ok-Quit-clause-over g c =
    let takes = rw c.in-Ok-Quit.field-0-is at c.in-Ok-Quit.ensures.ok in
    (λ h all before s. over_quit c.next_line.new.self.ended all (lines_left c.next_line.new.self (g.S.Source.left c.next_line.new.source)) before
    (g.K.Sink.held c.args.sink.now) (g.K.Sink.held c.write.new.sink) c.args.reader.now (g.S.Source.left c.args.source.now)
    c.args.world.now.journal.entries s c.in_ok-write.ensures.held takes)

pub returns-in-Ok-End-clause-over : goal.returns-in-Ok-End-clause-over
returns-in-Ok-End-clause-over g c =
    let ends = rw c.in-Ok-End.field-0-is at c.in-Ok-End.ensures.ok in
    (λ h all before s. over_end all before
    (g.K.Sink.held c.args.sink.now) (g.K.Sink.held c.write.new.sink) c.args.reader.now c.next_line.new.self (g.S.Source.left c.args.source.now)
    c.args.world.now.journal.entries s c.in_ok-write.ensures.held ends.0)

pub returns-in-Ok-Full-clause-err : goal.returns-in-Ok-Full-clause-err
returns-in-Ok-Full-clause-err g c = λ all before s.
    (cut_here 0 all before (g.K.Sink.held c.args.sink.now) (g.K.Sink.held c.write.new.sink) c.args.reader.now
    (g.S.Source.left c.args.source.now) c.args.world.now.journal.entries s c.in_ok-write.ensures.held).0

pub returns-in-Ok-Full-clause-input : goal.returns-in-Ok-Full-clause-input
returns-in-Ok-Full-clause-input g c =
    let full = rw c.in-Ok-Full.field-0-is at c.in-Ok-Full.ensures.ok in
    (λ h all before s. stopped_full all before (g.K.Sink.held c.args.sink.now) c.args.reader.now c.next_line.new.self
    (g.S.Source.left c.args.source.now) (g.S.Source.left c.next_line.new.source) c.args.world.now.journal.entries s full.0 full.1)

pub returns-in-Err-Failed-clause-err : goal.returns-in-Err-Failed-clause-err
returns-in-Err-Failed-clause-err g c = λ all before s.
    (cut_here 0 all before (g.K.Sink.held c.args.sink.now) (g.K.Sink.held c.write.new.sink) c.args.reader.now
    (g.S.Source.left c.args.source.now) c.args.world.now.journal.entries s c.in_ok-write.ensures.held).0

pub returns-in-Err-Failed-clause-input : goal.returns-in-Err-Failed-clause-input
returns-in-Err-Failed-clause-input g c =
    let failed = c.in-Err-Failed.is ∙ ap (λ f. Err f) c.in-Err-Failed.field-0-is in
    λ h all before s.
    stopped_read all before (g.K.Sink.held c.args.sink.now) c.args.reader.now c.next_line.new.self
    (g.S.Source.left c.args.source.now) (g.S.Source.left c.next_line.new.source) c.args.world.now.journal.entries s
    (c.next_line.ensures.no_line failed) (c.next_line.ensures.goes_on failed) c.in-Err-Failed.ensures.err

pub returns-in-Err-OutOfMemory-clause-err : goal.returns-in-Err-OutOfMemory-clause-err
returns-in-Err-OutOfMemory-clause-err g c = λ all before s.
    (cut_here 1 all before (g.K.Sink.held c.args.sink.now) (g.K.Sink.held c.write.new.sink) c.args.reader.now
    (g.S.Source.left c.args.source.now) c.args.world.now.journal.entries s c.in_ok-write.ensures.held).0

pub returns-in-Err-OutOfMemory-clause-short : goal.returns-in-Err-OutOfMemory-clause-short
returns-in-Err-OutOfMemory-clause-short g c = λ h all before s.
    cut_here 1 all before (g.K.Sink.held c.args.sink.now) (g.K.Sink.held c.write.new.sink) c.args.reader.now
    (g.S.Source.left c.args.source.now) c.args.world.now.journal.entries s c.in_ok-write.ensures.held

-- where memory was wanting in the line, it was begun at most
pub returns-in_err-serve_text-in-Ok-Line-clause-short : goal.returns-in_err-serve_text-in-Ok-Line-clause-short
returns-in_err-serve_text-in-Ok-Line-clause-short g c = λ h all before s.
    let takes = rw c.in-Ok-Line.field-0-is at c.in-Ok-Line.ensures.ok in
    let is = err_of c.from_residual-in_err-serve_text-in-Ok-Line.result c.in_err-serve_text-in-Ok-Line.field-0.0 OutOfMemory c.from_residual-in_err-serve_text-in-Ok-Line.ensures.1 h in
    let left = subst (λ f. IsLineEndedBy c.args.console f (rules c.args.world.now) c.in-Ok-Line.line c.args.progress.now.held c.serve_text.new.progress.held
    c.args.progress.now.cuts.items c.serve_text.new.progress.cuts.items c.args.world.now.journal.entries c.serve_text.new.world.journal.entries
    (g.K.Sink.held c.write.new.sink) (g.K.Sink.held c.serve_text.new.sink)) is c.in_err-serve_text-in-Ok-Line.ensures.err in
    cut_line all before (g.K.Sink.held c.args.sink.now) (g.K.Sink.held c.write.new.sink) (g.K.Sink.held c.serve_text.new.sink) c.args.reader.now c.next_line.new.self
    (g.S.Source.left c.args.source.now) (g.S.Source.left c.next_line.new.source) c.args.world.now.journal.entries c.serve_text.new.world.journal.entries
    s c.in_ok-write.ensures.held (next_line takes) left

pub returns-in_err-serve_long-in-Ok-Long-clause-short : goal.returns-in_err-serve_long-in-Ok-Long-clause-short
returns-in_err-serve_long-in-Ok-Long-clause-short g c = λ h all before s.
    let takes = rw c.in-Ok-Long.field-0-is at c.in-Ok-Long.ensures.ok in
    let is = err_of c.from_residual-in_err-serve_long-in-Ok-Long.result c.in_err-serve_long-in-Ok-Long.field-0.0 OutOfMemory c.from_residual-in_err-serve_long-in-Ok-Long.ensures.1 h in
    let left = subst (λ f. IsLineEndedBy c.args.console f (rules c.args.world.now) takes.line c.args.progress.now.held c.serve_long.new.progress.held
    c.args.progress.now.cuts.items c.serve_long.new.progress.cuts.items c.args.world.now.journal.entries c.args.world.now.journal.entries
    (g.K.Sink.held c.write.new.sink) (g.K.Sink.held c.serve_long.new.sink)) is (c.in_err-serve_long-in-Ok-Long.ensures.err c.args.console takes.line takes.long) in
    cut_line all before (g.K.Sink.held c.args.sink.now) (g.K.Sink.held c.write.new.sink) (g.K.Sink.held c.serve_long.new.sink) c.args.reader.now c.next_line.new.self
    (g.S.Source.left c.args.source.now) (g.S.Source.left c.next_line.new.source) c.args.world.now.journal.entries c.args.world.now.journal.entries
    s c.in_ok-write.ensures.held (next_long takes) left

pub returns-in_ok-serve_text-in-Ok-Line-clause-behind : goal.returns-in_ok-serve_text-in-Ok-Line-clause-behind
returns-in_ok-serve_text-in-Ok-Line-clause-behind g c =
    let behind = rw c.in-Ok-Line.field-0-is at c.in-Ok-Line.ensures.behind in
    (λ h. (served_more c.in_ok-serve_text-in-Ok-Line.ensures.served, behind))

pub returns-in_ok-serve_long-in-Ok-Long-clause-behind : goal.returns-in_ok-serve_long-in-Ok-Long-clause-behind
returns-in_ok-serve_long-in-Ok-Long-clause-behind g c =
    let takes = rw c.in-Ok-Long.field-0-is at c.in-Ok-Long.ensures.ok in
    let behind = rw c.in-Ok-Long.field-0-is at c.in-Ok-Long.ensures.behind in
    (λ h. (served_more (c.in_ok-serve_long-in-Ok-Long.ensures.served c.args.console takes.line takes.long), behind))

pub returns-in_err-serve_text-in-Ok-Line-clause-out : goal.returns-in_err-serve_text-in-Ok-Line-clause-out
returns-in_err-serve_text-in-Ok-Line-clause-out g c = λ h out.
    let no = rw (c.in-Ok-Line.is, c.in-Ok-Line.field-0-is) at c.next_line.ensures.out out in no

pub returns-in_err-serve_long-in-Ok-Long-clause-out : goal.returns-in_err-serve_long-in-Ok-Long-clause-out
returns-in_err-serve_long-in-Ok-Long-clause-out g c = λ h out.
    let no = rw (c.in-Ok-Long.is, c.in-Ok-Long.field-0-is) at c.next_line.ensures.out out in no

-- a fault of the line is handed on
pub returns-in_err-serve_text-in-Ok-Line-clause-room : goal.returns-in_err-serve_text-in-Ok-Line-clause-room
returns-in_err-serve_text-in-Ok-Line-clause-room g c = λ before other.
    c.in_err-serve_text-in-Ok-Line.ensures.room before (λ e. other (handed_on c.from_residual-in_err-serve_text-in-Ok-Line.result c.in_err-serve_text-in-Ok-Line.field-0.0 JournalFull c.from_residual-in_err-serve_text-in-Ok-Line.ensures.1 e))

pub returns-in_err-serve_text-in-Ok-Line-clause-write_only : goal.returns-in_err-serve_text-in-Ok-Line-clause-write_only
returns-in_err-serve_text-in-Ok-Line-clause-write_only g c = λ other.
    c.in_err-serve_text-in-Ok-Line.ensures.write_only (λ e. other (handed_on c.from_residual-in_err-serve_text-in-Ok-Line.result c.in_err-serve_text-in-Ok-Line.field-0.0 Write c.from_residual-in_err-serve_text-in-Ok-Line.ensures.1 e)) ∙ c.in_ok-write.ensures.stands

pub returns-in_err-serve_text-in-Ok-Line-clause-fabric_only : goal.returns-in_err-serve_text-in-Ok-Line-clause-fabric_only
returns-in_err-serve_text-in-Ok-Line-clause-fabric_only g c = λ other.
    c.in_err-serve_text-in-Ok-Line.ensures.fabric_only (λ e. other (handed_on c.from_residual-in_err-serve_text-in-Ok-Line.result c.in_err-serve_text-in-Ok-Line.field-0.0 Fabric c.from_residual-in_err-serve_text-in-Ok-Line.ensures.1 e))

pub returns-in_err-write-clause-shown : goal.returns-in_err-write-clause-shown
returns-in_err-write-clause-shown g c =
    if_err_from c.from_residual.result c.in_err-write.field-0.0 _ c.from_residual.ensures.1
    (write_shown c.in_err-write.field-0.0 c.args.world.now _ c.in_err-write.ensures.cause.0)

pub returns-in_err-write-clause-told : goal.returns-in_err-write-clause-told
returns-in_err-write-clause-told g c = λ carries.
    if_err_from c.from_residual.result c.in_err-write.field-0.0 _ c.from_residual.ensures.1 (write_calm c.in_err-write.field-0.0 c.in_err-write.ensures.cause.0)

pub returns-in_err-serve_text-in-Ok-Line-clause-shown : goal.returns-in_err-serve_text-in-Ok-Line-clause-shown
returns-in_err-serve_text-in-Ok-Line-clause-shown g c =
    if_err_from c.from_residual-in_err-serve_text-in-Ok-Line.result c.in_err-serve_text-in-Ok-Line.field-0.0 _ c.from_residual-in_err-serve_text-in-Ok-Line.ensures.1 c.in_err-serve_text-in-Ok-Line.ensures.shown

pub returns-in_err-serve_text-in-Ok-Line-clause-told : goal.returns-in_err-serve_text-in-Ok-Line-clause-told
returns-in_err-serve_text-in-Ok-Line-clause-told g c = λ carries.
    if_err_from c.from_residual-in_err-serve_text-in-Ok-Line.result c.in_err-serve_text-in-Ok-Line.field-0.0 _ c.from_residual-in_err-serve_text-in-Ok-Line.ensures.1 (c.in_err-serve_text-in-Ok-Line.ensures.told carries)

pub returns-in_err-serve_long-in-Ok-Long-clause-shown : goal.returns-in_err-serve_long-in-Ok-Long-clause-shown
returns-in_err-serve_long-in-Ok-Long-clause-shown g c =
    if_err_from c.from_residual-in_err-serve_long-in-Ok-Long.result c.in_err-serve_long-in-Ok-Long.field-0.0 _ c.from_residual-in_err-serve_long-in-Ok-Long.ensures.1
    (elim c.in_err-serve_long-in-Ok-Long.ensures.cause as (λ _. IsShown c.in_err-serve_long-in-Ok-Long.field-0.0 c.args.world.now (g.F.Fabric.latest c.args.fabric.now)) [
      | inl h ↦ memory_shown c.in_err-serve_long-in-Ok-Long.field-0.0 c.args.world.now _ h
      | inr h ↦ write_shown c.in_err-serve_long-in-Ok-Long.field-0.0 c.args.world.now _ h.0
    ])

pub returns-in_err-serve_long-in-Ok-Long-clause-told : goal.returns-in_err-serve_long-in-Ok-Long-clause-told
returns-in_err-serve_long-in-Ok-Long-clause-told g c = λ carries.
    if_err_from c.from_residual-in_err-serve_long-in-Ok-Long.result c.in_err-serve_long-in-Ok-Long.field-0.0 _ c.from_residual-in_err-serve_long-in-Ok-Long.ensures.1
    (elim c.in_err-serve_long-in-Ok-Long.ensures.cause as (λ _. NoBreach c.in_err-serve_long-in-Ok-Long.field-0.0) [
      | inl h ↦ memory_calm c.in_err-serve_long-in-Ok-Long.field-0.0 h
      | inr h ↦ write_calm c.in_err-serve_long-in-Ok-Long.field-0.0 h.0
    ])
