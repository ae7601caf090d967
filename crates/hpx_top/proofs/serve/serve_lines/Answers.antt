use Rattle.std.specs.Prelude.{Result, ◌-◌, ◌⊎◌}
use Rattle.std.specs.Result.{IsErrAnd}
use Rattle.std.proofs.Common.{ℕ, List, Option, ◌≡◌, length, Ok, Err, refl, sym, ap, ◌∙◌, arith, subst, inl, inr}
use Rattle.hpx_top.specs.declared.session.SessionFault.{SessionFault}
use Rattle.hpx_top.specs.declared.session.SessionFault.TheVariants.{Read, Write, Fabric, JournalFull, OutOfMemory, InputFull}
use Rattle.hpx_ports.specs.Told.{followed}
use Rattle.hpx_journal.specs.Weights.{HasRoom}
use Rattle.hpx_top.specs.Session.{rules, ByJournal, WritesFront}
use Rattle.hpx_top.proofs.ShowLemmas.{any_ok, handed_on, if_err_from, err_of, no_err}
use Rattle.hpx_top.proofs.SessionLemmas.{serving_open, under_start}
use Rattle.hpx_top.proofs.FeedLemmas.{same_rules, write_calm, write_shown, cut_write, cut_opening, on_ok, passive_runs, room_none}
use Rattle.hpx_top.proofs.EndLemmas.{all_lines, whole_from, begun_result, ended_result, short_result, read_up_from, read_on_from, read_from, read_from_none, ended_from, begun_from, ended_opening, begun_opening, read_none, behind_start, behind_more, short_from, short_opening}
use Rattle.hpx_top.proofs.serve.serve_lines.Goals as goal

-- the front of a text that is another
of_text : {text other : List ℕ} {old new : Option (List ℕ)} → text ≡ other → WritesFront text old new → WritesFront other old new
of_text {text} {other} {old} {new} same w = subst (λ t. WritesFront t old new) same w

-- a failed read or a full input that is handed on
which : {T U : Type 0} (r : Result T SessionFault) (e : SessionFault) → IsErrAnd r (λ y. y ≡ e) → (r ≡ Err Read) ⊎ (r ≡ Err InputFull)
    → (◌≡◌ {A = Result U SessionFault} (Err e) (Err InputFull)) ⊎ (◌≡◌ {A = Result U SessionFault} (Err e) (Err Read))
which r e back (inl read) = inr (ap (λ f. Err f) (err_of r e Read back read))
which r e back (inr full) = inl (ap (λ f. Err f) (err_of r e InputFull back full))

pub returns-in_err-write-clause-ended : goal.returns-in_err-write-clause-ended
returns-in_err-write-clause-ended g c =
    let all = all_lines (g.S.Source.left c.args.source.now) in
    λ input h. if_err_from c.from_residual.result c.in_err-write.field-0.0 _ c.from_residual.ensures.1
    (ended_from c.args.console _ _ c.in_err-write.field-0.0 input (g.S.Source.left c.args.source.now) _ c.args.world.now.journal.entries
    (g.K.Sink.held c.args.sink.now) (g.K.Sink.held c.write.new.sink) h
    (cut_write c.in_err-write.field-0.0 (ByJournal (rules c.args.world.now) c.args.progress.now.cuts.items) all _ _ _ c.in_err-write.ensures.cause.0
    (under_start _ all (g.K.Sink.held c.args.sink.now) (g.K.Sink.held c.write.new.sink) c.args.world.now.journal.entries c.requires.empty c.requires.first (of_text c.commands.ensures c.in_err-write.ensures.front))))

pub returns-in_err-write-clause-begun : goal.returns-in_err-write-clause-begun
returns-in_err-write-clause-begun g c =
    let all = all_lines (g.S.Source.left c.args.source.now) in
    λ input h. begun_from c.in_err-write.field-0.0 input (g.S.Source.left c.args.source.now) c.args.world.now.journal.entries
    (g.K.Sink.held c.args.sink.now) (g.K.Sink.held c.write.new.sink) h
    (cut_write c.in_err-write.field-0.0 (ByJournal (rules c.args.world.now) c.args.progress.now.cuts.items) all _ _ _ c.in_err-write.ensures.cause.0
    (under_start _ all (g.K.Sink.held c.args.sink.now) (g.K.Sink.held c.write.new.sink) c.args.world.now.journal.entries c.requires.empty c.requires.first (of_text c.commands.ensures c.in_err-write.ensures.front)))

pub returns-in_err-write-clause-few : goal.returns-in_err-write-clause-few
returns-in_err-write-clause-few g c = omega (arith, ap length c.requires.first)

pub returns-in_err-open-clause-few : goal.returns-in_err-open-clause-few
returns-in_err-open-clause-few g c = omega (arith, ap length c.requires.first)

-- the accumulator was not made
pub returns-in_err-open-clause-ended : goal.returns-in_err-open-clause-ended
returns-in_err-open-clause-ended g c =
    let cut = cut_opening (ByJournal (rules c.args.world.now) c.args.progress.now.cuts.items) (g.K.Sink.held c.args.sink.now) (g.K.Sink.held c.write.new.sink) _ _ c.in_err-open.ensures.only c.requires.first c.requires.empty c.in_err-open.ensures.once (c.in_ok-write.ensures.held ∙ ap (followed (g.K.Sink.held c.args.sink.now)) c.commands.ensures) in
    λ input h. if_err_from c.from_residual-in_err-open.result c.in_err-open.field-0.0 _ c.from_residual-in_err-open.ensures.1
    (ended_opening _ c.in_err-open.field-0.0 input (g.S.Source.left c.args.source.now) _ (g.K.Sink.held c.args.sink.now) (g.K.Sink.held c.write.new.sink) c.in_err-open.ensures.other h cut)

pub returns-in_err-open-clause-begun : goal.returns-in_err-open-clause-begun
returns-in_err-open-clause-begun g c =
    let cut = cut_opening (ByJournal (rules c.args.world.now) c.args.progress.now.cuts.items) (g.K.Sink.held c.args.sink.now) (g.K.Sink.held c.write.new.sink) _ _ c.in_err-open.ensures.only c.requires.first c.requires.empty c.in_err-open.ensures.once (c.in_ok-write.ensures.held ∙ ap (followed (g.K.Sink.held c.args.sink.now)) c.commands.ensures) in
    λ input h. begun_opening _ input _ (g.K.Sink.held c.args.sink.now) (g.K.Sink.held c.write.new.sink) cut

pub returns-in_err-open-clause-short : goal.returns-in_err-open-clause-short
returns-in_err-open-clause-short g c =
    let cut = cut_opening (ByJournal (rules c.args.world.now) c.args.progress.now.cuts.items) (g.K.Sink.held c.args.sink.now) (g.K.Sink.held c.write.new.sink) _ _ c.in_err-open.ensures.only c.requires.first c.requires.empty c.in_err-open.ensures.once (c.in_ok-write.ensures.held ∙ ap (followed (g.K.Sink.held c.args.sink.now)) c.commands.ensures) in
    λ input h e. short_opening _ input (g.S.Source.left c.args.source.now) _ (g.K.Sink.held c.args.sink.now) (g.K.Sink.held c.write.new.sink) h cut

-- nothing was read
pub returns-in_err-open-clause-reads : goal.returns-in_err-open-clause-reads
returns-in_err-open-clause-reads g c =
    λ input h. read_from_none input (g.S.Source.left c.args.source.now) (g.S.Source.taken c.args.source.now) h

pub returns-in_err-write-clause-reads : goal.returns-in_err-write-clause-reads
returns-in_err-write-clause-reads g c =
    λ input h. read_from_none input (g.S.Source.left c.args.source.now) (g.S.Source.taken c.args.source.now) h

pub loop-reader-init : goal.loop-reader-init
loop-reader-init g c = record {
  handling = record {
    serving = serving_open _ (all_lines (g.S.Source.left c.args.source.now)) (g.K.Sink.held c.args.sink.now) (g.K.Sink.held c.write.new.sink)
        c.new-reader.result (g.S.Source.left c.args.source.now) c.args.progress.now.held c.args.progress.now.cuts.items c.args.world.now.journal.entries c.open.new.world.journal.entries
        (rw c.new-reader.ensures refl) (rw c.new-reader.ensures (omega arith)) c.requires.free c.requires.first c.requires.empty c.in_ok-open.ensures.opened
        (c.in_ok-write.ensures.held ∙ ap (followed (g.K.Sink.held c.args.sink.now)) c.commands.ensures);
    behind_is = rw (ap length c.requires.first) (behind_start (g.S.Source.left c.args.source.now) c.new-reader.result c.new-reader.ensures);
  };
  reads = read_none (g.S.Source.left c.args.source.now) c.new-reader.result c.new-reader.ensures;
  counted = rw c.new-reader.ensures (omega arith);
  limit = rw c.new-reader.ensures (omega arith);
  rest = λ free. c.in_ok-open.ensures.rest;
  jobs = passive_runs _ c.in_ok-open.ensures.rest.quiet.passive;
  profile = c.open.ensures.profile;
  carrying = c.open.ensures.carrying;
  hears = c.open.ensures.hears;
  count = c.open.ensures.count;
  source_stands = refl;
  sink_stands = c.in_ok-write.ensures.stands;
  fabric_stands = c.in_ok-open.ensures.stands (no_err _ _);
  room = c.in_ok-open.ensures.room (subst HasRoom (sym c.requires.empty) room_none) (no_err _ _);
}

pub loop-reader-preserved : goal.loop-reader-preserved
loop-reader-preserved g c =
    let was = c.loop-reader.invariant.handling in
    let serving = rw (← same_rules c.args.world.now c.loop-reader.world c.loop-reader.invariant.count c.loop-reader.invariant.profile) at was.serving in
    let goes_on = ap (λ b. Ok b) c.if-branch.true in
    let next = c.in_ok-serve_line.ensures.line goes_on _ _ serving in
    let behind = c.in_ok-serve_line.ensures.behind goes_on in
    record {
      handling = record {
        serving = rw (same_rules c.args.world.now c.loop-reader.world c.loop-reader.invariant.count c.loop-reader.invariant.profile) at next;
        behind_is = rw behind.0 (behind_more (g.S.Source.left c.args.source.now) _ _ (length c.loop-reader.progress.cuts.items) was.behind_is behind.1);
      };
      reads = c.serve_line.ensures.reads _ c.loop-reader.invariant.reads;
      counted = omega (arith, c.loop-reader.invariant.counted, c.serve_line.ensures.counted);
      limit = c.serve_line.ensures.limit c.loop-reader.invariant.limit;
      rest = c.in_ok-serve_line.ensures.rest;
      jobs = c.in_ok-serve_line.ensures.jobs;
      profile = c.serve_line.ensures.profile ∙ c.loop-reader.invariant.profile;
      carrying = λ carries. c.serve_line.ensures.carrying (c.loop-reader.invariant.carrying carries);
      hears = λ h. c.serve_line.ensures.hears (c.loop-reader.invariant.hears h);
      count = c.serve_line.ensures.count ∙ c.loop-reader.invariant.count;
      source_stands = c.in_ok-serve_line.ensures.read_only (no_err _ _) ∙ c.loop-reader.invariant.source_stands;
      sink_stands = c.in_ok-serve_line.ensures.write_only (no_err _ _) ∙ c.loop-reader.invariant.sink_stands;
      fabric_stands = c.in_ok-serve_line.ensures.fabric_only (no_err _ _) ∙ c.loop-reader.invariant.fabric_stands;
      room = c.in_ok-serve_line.ensures.room c.loop-reader.invariant.room (no_err _ _);
    }

pub returns-in_err-serve_line-clause-ended : goal.returns-in_err-serve_line-clause-ended
returns-in_err-serve_line-clause-ended g c =
    let serving = rw (← same_rules c.args.world.now c.loop-reader.world c.loop-reader.invariant.count c.loop-reader.invariant.profile) at c.loop-reader.invariant.handling.serving in
    λ input h.
    let cut = rw (same_rules c.args.world.now c.loop-reader.world c.loop-reader.invariant.count c.loop-reader.invariant.profile) at (c.in_err-serve_line.ensures.err _ _ serving) in
    if_err_from c.from_residual-in_err-serve_line.result c.in_err-serve_line.field-0.0 _ c.from_residual-in_err-serve_line.ensures.1
    (ended_from c.args.console _ _ c.in_err-serve_line.field-0.0 input (g.S.Source.left c.args.source.now) _ _ _ _ h cut)

pub returns-in_err-serve_line-clause-begun : goal.returns-in_err-serve_line-clause-begun
returns-in_err-serve_line-clause-begun g c =
    let serving = rw (← same_rules c.args.world.now c.loop-reader.world c.loop-reader.invariant.count c.loop-reader.invariant.profile) at c.loop-reader.invariant.handling.serving in
    λ input h.
    let cut = rw (same_rules c.args.world.now c.loop-reader.world c.loop-reader.invariant.count c.loop-reader.invariant.profile) at (c.in_err-serve_line.ensures.err _ _ serving) in
    begun_from c.in_err-serve_line.field-0.0 input (g.S.Source.left c.args.source.now) _ _ _ h cut

pub returns-in_err-serve_line-clause-few : goal.returns-in_err-serve_line-clause-few
returns-in_err-serve_line-clause-few g c =
    let s = c.loop-reader.invariant.handling.serving in
    omega (arith, c.serve_line.ensures.noted, s.count, s.few)

pub returns-in_err-serve_line-clause-short : goal.returns-in_err-serve_line-clause-short
returns-in_err-serve_line-clause-short g c =
    let serving = rw (← same_rules c.args.world.now c.loop-reader.world c.loop-reader.invariant.count c.loop-reader.invariant.profile) at c.loop-reader.invariant.handling.serving in
    λ input h e.
    let is = ap (λ f. Err f) (err_of c.from_residual-in_err-serve_line.result c.in_err-serve_line.field-0.0 OutOfMemory c.from_residual-in_err-serve_line.ensures.1 e) in
    let cut = rw (same_rules c.args.world.now c.loop-reader.world c.loop-reader.invariant.count c.loop-reader.invariant.profile) at (c.in_err-serve_line.ensures.short is _ _ serving) in
    short_from (length c.loop-reader.progress.cuts.items) input (g.S.Source.left c.args.source.now) _ (g.S.Source.left c.serve_line.new.source) c.serve_line.new.reader
    c.serve_line.new.world.journal.entries (g.K.Sink.held c.args.sink.now) (g.K.Sink.held c.serve_line.new.sink) h cut c.loop-reader.invariant.handling.behind_is
    (c.serve_line.ensures.reads _ c.loop-reader.invariant.reads) (c.in_err-serve_line.ensures.out is)

pub returns-in_err-serve_line-clause-read_on : goal.returns-in_err-serve_line-clause-read_on
returns-in_err-serve_line-clause-read_on g c =
    let serving = rw (← same_rules c.args.world.now c.loop-reader.world c.loop-reader.invariant.count c.loop-reader.invariant.profile) at c.loop-reader.invariant.handling.serving in
    λ input h e.
    let is = which c.from_residual-in_err-serve_line.result c.in_err-serve_line.field-0.0 c.from_residual-in_err-serve_line.ensures.1 e in
    read_on_from (g.S.Source.taken c.serve_line.new.source - g.S.Source.taken c.args.source.now) (length c.serve_line.new.progress.cuts.items) input
    (g.S.Source.left c.args.source.now) (g.S.Source.left c.serve_line.new.source) c.serve_line.new.reader h
    (c.in_err-serve_line.ensures.input is _ _ serving) (c.serve_line.ensures.reads _ c.loop-reader.invariant.reads)
    (omega (arith, c.loop-reader.invariant.counted, c.serve_line.ensures.counted))

pub returns-in_err-serve_line-clause-taken : goal.returns-in_err-serve_line-clause-taken
returns-in_err-serve_line-clause-taken g c =
    λ e.
    let is = ap (λ f. Err f) (err_of c.from_residual-in_err-serve_line.result c.in_err-serve_line.field-0.0 InputFull c.from_residual-in_err-serve_line.ensures.1 e) in
    let read = c.in_err-serve_line.ensures.full_input is in
    omega (arith, read, c.loop-reader.invariant.counted, c.serve_line.ensures.counted)

pub returns-in_err-serve_line-clause-reads : goal.returns-in_err-serve_line-clause-reads
returns-in_err-serve_line-clause-reads g c =
    λ input h. read_from input (g.S.Source.left c.args.source.now) (g.S.Source.left c.serve_line.new.source) c.serve_line.new.reader
    (g.S.Source.taken c.args.source.now) (g.S.Source.taken c.serve_line.new.source) h (c.serve_line.ensures.reads _ c.loop-reader.invariant.reads)
    (omega (arith, c.loop-reader.invariant.counted, c.serve_line.ensures.counted))

pub returns-in_err-serve_line-clause-limit : goal.returns-in_err-serve_line-clause-limit
returns-in_err-serve_line-clause-limit g c =
    let most = c.serve_line.ensures.limit c.loop-reader.invariant.limit in
    omega (arith, most, c.loop-reader.invariant.counted, c.serve_line.ensures.counted)

pub returns-clause-reads : goal.returns-clause-reads
returns-clause-reads g c =
    λ input h. read_from input (g.S.Source.left c.args.source.now) (g.S.Source.left c.serve_line.new.source) c.serve_line.new.reader
    (g.S.Source.taken c.args.source.now) (g.S.Source.taken c.serve_line.new.source) h (c.serve_line.ensures.reads _ c.loop-reader.invariant.reads)
    (omega (arith, c.loop-reader.invariant.counted, c.serve_line.ensures.counted))

pub returns-clause-limit : goal.returns-clause-limit
returns-clause-limit g c =
    let most = c.serve_line.ensures.limit c.loop-reader.invariant.limit in
    omega (arith, most, c.loop-reader.invariant.counted, c.serve_line.ensures.counted)

pub returns-clause-few : goal.returns-clause-few
returns-clause-few g c =
    let s = c.loop-reader.invariant.handling.serving in
    omega (arith, c.serve_line.ensures.noted, s.count, s.few)

pub returns-clause-whole : goal.returns-clause-whole
returns-clause-whole g c =
    let serving = rw (← same_rules c.args.world.now c.loop-reader.world c.loop-reader.invariant.count c.loop-reader.invariant.profile) at c.loop-reader.invariant.handling.serving in
    let over = rw (same_rules c.args.world.now c.loop-reader.world c.loop-reader.invariant.count c.loop-reader.invariant.profile) at (c.in_ok-serve_line.ensures.over (ap (λ b. Ok b) c.if-branch.false) _ _ serving) in
    λ input h. on_ok c.let_go.result _ _
    (λ x is written. whole_from input (g.S.Source.left c.args.source.now) _ _ h over c.let_go.ensures.unfed (λ free. (c.let_go.ensures.still free).1) written) c.let_go.ensures.held

pub returns-clause-read_up : goal.returns-clause-read_up
returns-clause-read_up g c =
    let serving = rw (← same_rules c.args.world.now c.loop-reader.world c.loop-reader.invariant.count c.loop-reader.invariant.profile) at c.loop-reader.invariant.handling.serving in
    let over = rw (same_rules c.args.world.now c.loop-reader.world c.loop-reader.invariant.count c.loop-reader.invariant.profile) at (c.in_ok-serve_line.ensures.over (ap (λ b. Ok b) c.if-branch.false) _ _ serving) in
    λ input h. any_ok c.let_go.result _
    (read_up_from input (g.S.Source.left c.args.source.now) (g.S.Source.left c.serve_line.new.source) c.serve_line.new.reader h over
    (c.serve_line.ensures.reads _ c.loop-reader.invariant.reads) refl)

pub returns-clause-begun : goal.returns-clause-begun
returns-clause-begun g c =
    let serving = rw (← same_rules c.args.world.now c.loop-reader.world c.loop-reader.invariant.count c.loop-reader.invariant.profile) at c.loop-reader.invariant.handling.serving in
    let over = rw (same_rules c.args.world.now c.loop-reader.world c.loop-reader.invariant.count c.loop-reader.invariant.profile) at (c.in_ok-serve_line.ensures.over (ap (λ b. Ok b) c.if-branch.false) _ _ serving) in
    λ input h. begun_result c.let_go.result input (g.S.Source.left c.args.source.now) _ _ h over c.let_go.ensures.unfed (λ free. (c.let_go.ensures.still free).1)
    c.let_go.ensures.held c.let_go.ensures.err

pub returns-clause-ended : goal.returns-clause-ended
returns-clause-ended g c =
    let serving = rw (← same_rules c.args.world.now c.loop-reader.world c.loop-reader.invariant.count c.loop-reader.invariant.profile) at c.loop-reader.invariant.handling.serving in
    let over = rw (same_rules c.args.world.now c.loop-reader.world c.loop-reader.invariant.count c.loop-reader.invariant.profile) at (c.in_ok-serve_line.ensures.over (ap (λ b. Ok b) c.if-branch.false) _ _ serving) in
    λ input h. ended_result c.let_go.result input (g.S.Source.left c.args.source.now) _ _ _ h over c.let_go.ensures.unfed c.let_go.ensures.still c.let_go.ensures.err

pub returns-clause-short : goal.returns-clause-short
returns-clause-short g c =
    let serving = rw (← same_rules c.args.world.now c.loop-reader.world c.loop-reader.invariant.count c.loop-reader.invariant.profile) at c.loop-reader.invariant.handling.serving in
    let over = rw (same_rules c.args.world.now c.loop-reader.world c.loop-reader.invariant.count c.loop-reader.invariant.profile) at (c.in_ok-serve_line.ensures.over (ap (λ b. Ok b) c.if-branch.false) _ _ serving) in
    λ input h e. short_result c.let_go.result input (g.S.Source.left c.args.source.now) _ _ _ h over c.let_go.ensures.unfed c.let_go.ensures.still c.let_go.ensures.err e

pub returns-in_err-write-clause-shown : goal.returns-in_err-write-clause-shown
returns-in_err-write-clause-shown g c =
    if_err_from c.from_residual.result c.in_err-write.field-0.0 _ c.from_residual.ensures.1
    (write_shown c.in_err-write.field-0.0 c.args.world.now _ c.in_err-write.ensures.cause.0)

pub returns-in_err-write-clause-told : goal.returns-in_err-write-clause-told
returns-in_err-write-clause-told g c = λ carries.
    if_err_from c.from_residual.result c.in_err-write.field-0.0 _ c.from_residual.ensures.1 (write_calm c.in_err-write.field-0.0 c.in_err-write.ensures.cause.0)

pub returns-in_err-open-clause-shown : goal.returns-in_err-open-clause-shown
returns-in_err-open-clause-shown g c =
    if_err_from c.from_residual-in_err-open.result c.in_err-open.field-0.0 _ c.from_residual-in_err-open.ensures.1 c.in_err-open.ensures.shown

pub returns-in_err-open-clause-told : goal.returns-in_err-open-clause-told
returns-in_err-open-clause-told g c = λ carries.
    if_err_from c.from_residual-in_err-open.result c.in_err-open.field-0.0 _ c.from_residual-in_err-open.ensures.1 (c.in_err-open.ensures.told carries)

pub returns-in_err-serve_line-clause-shown : goal.returns-in_err-serve_line-clause-shown
returns-in_err-serve_line-clause-shown g c =
    if_err_from c.from_residual-in_err-serve_line.result c.in_err-serve_line.field-0.0 _ c.from_residual-in_err-serve_line.ensures.1 c.in_err-serve_line.ensures.shown

pub returns-in_err-serve_line-clause-told : goal.returns-in_err-serve_line-clause-told
returns-in_err-serve_line-clause-told g c = λ carries.
    if_err_from c.from_residual-in_err-serve_line.result c.in_err-serve_line.field-0.0 _ c.from_residual-in_err-serve_line.ensures.1
    (c.in_err-serve_line.ensures.told (c.loop-reader.invariant.carrying carries))

pub returns-in_err-serve_line-clause-hears : goal.returns-in_err-serve_line-clause-hears
returns-in_err-serve_line-clause-hears g c = λ heard. c.serve_line.ensures.hears (c.loop-reader.invariant.hears heard)

pub returns-in_err-serve_line-clause-carrying : goal.returns-in_err-serve_line-clause-carrying
returns-in_err-serve_line-clause-carrying g c = λ carries. c.serve_line.ensures.carrying (c.loop-reader.invariant.carrying carries)

pub returns-clause-told : goal.returns-clause-told
returns-clause-told g c = λ carries. c.let_go.ensures.told (c.serve_line.ensures.carrying (c.loop-reader.invariant.carrying carries))

pub returns-clause-hears : goal.returns-clause-hears
returns-clause-hears g c = λ heard. c.let_go.ensures.hears (c.serve_line.ensures.hears (c.loop-reader.invariant.hears heard))

pub returns-clause-carrying : goal.returns-clause-carrying
returns-clause-carrying g c = λ carries. c.let_go.ensures.carrying (c.serve_line.ensures.carrying (c.loop-reader.invariant.carrying carries))

pub returns-in_err-serve_line-clause-room : goal.returns-in_err-serve_line-clause-room
returns-in_err-serve_line-clause-room g c = λ other.
    c.in_err-serve_line.ensures.room c.loop-reader.invariant.room
    (λ e. other (handed_on c.from_residual-in_err-serve_line.result c.in_err-serve_line.field-0.0 JournalFull c.from_residual-in_err-serve_line.ensures.1 e))

pub returns-in_err-serve_line-clause-read_only : goal.returns-in_err-serve_line-clause-read_only
returns-in_err-serve_line-clause-read_only g c = λ other.
    c.in_err-serve_line.ensures.read_only
    (λ e. other (handed_on c.from_residual-in_err-serve_line.result c.in_err-serve_line.field-0.0 Read c.from_residual-in_err-serve_line.ensures.1 e))
    ∙ c.loop-reader.invariant.source_stands

pub returns-in_err-serve_line-clause-write_only : goal.returns-in_err-serve_line-clause-write_only
returns-in_err-serve_line-clause-write_only g c = λ other.
    c.in_err-serve_line.ensures.write_only
    (λ e. other (handed_on c.from_residual-in_err-serve_line.result c.in_err-serve_line.field-0.0 Write c.from_residual-in_err-serve_line.ensures.1 e))
    ∙ c.loop-reader.invariant.sink_stands

pub returns-in_err-serve_line-clause-fabric_only : goal.returns-in_err-serve_line-clause-fabric_only
returns-in_err-serve_line-clause-fabric_only g c = λ other.
    c.in_err-serve_line.ensures.fabric_only
    (λ e. other (handed_on c.from_residual-in_err-serve_line.result c.in_err-serve_line.field-0.0 Fabric c.from_residual-in_err-serve_line.ensures.1 e))
    ∙ c.loop-reader.invariant.fabric_stands
