use Rattle.std.specs.List.{concat}
use Rattle.std.proofs.Common.{false, [], refl, ◌∷◌, ◌++◌, ◌≡◌, ◌∙◌, length, drop, sym, ap, subst}
use Rattle.hpx_journal.specs.Pool.{prints_of}
use Rattle.hpx_journal.specs.Weights.{Book}
use Rattle.hpx_ports.specs.Told.{followed}
use Rattle.hpx_own.specs.Lines.{handled_as}
use Rattle.hpx_top.specs.Owned.{own_text}
use Rattle.hpx_top.specs.Parts.{IsOwn}
use Rattle.hpx_top.specs.Session.{rules, WritesFront}
use Rattle.hpx_top.specs.Texts.{Typed, held_by, owns}
use Rattle.hpx_top.proofs.FeedLemmas.{how_is, line_left, same_rules, turn_shown, written_calm, written_shown}
use Rattle.hpx_top.proofs.ShowLemmas.{if_err_from}
use Rattle.hpx_top.proofs.TypedLemmas.{IsHandledBy, handled_by, served_ok, served_own, served_shown}
use Rattle.hpx_top.proofs.serve.serve_text.Goals as goal

pub returns-in_err-show-clause-err : goal.returns-in_err-show-clause-err
returns-in_err-show-clause-err g c =
    let w = c.args.world.now in
    let v = c.handle.new.world in
    let handled = c.handled_as-handled.result in
    let so : handled_as (owns c.args.console) c.args.line.now ≡ handled = sym (rw (← c.owns.ensures, ← c.as_slice.ensures) c.handled_as-handled.ensures) in
    let text = own_text c.in_ok-own.own v.journal.entries in
    let same = same_rules w v c.handle.ensures.count c.handle.ensures.profile in
    let owned = subst (λ r. IsOwn r c.reserve.new.self.held (Typed handled) v.journal.entries text) same
    (c.in_ok-own.ensures.own c.reserve.new.self.held (λ free audit. (c.in_ok-handle.ensures.rest
    (ap (λ b. held_by b (Typed handled)) free ∙ ap (λ h. held_by false (Typed h)) audit)).quiet)) in
    let length_is : c.entries.result ≡ length v.journal.entries = c.entries.ensures ∙ ap (λ (b : Book). length b.entries) c.journal-2.ensures.journal in
    let by = subst (λ b. IsHandledBy c.args.console (rules w) c.args.line.now b c.pass.new.self.held c.args.progress.now.cuts.items c.pass.new.self.cuts.items
    w.journal.entries v.journal.entries text) c.reserve.ensures.held
    (handled_by c.args.console (rules w) c.args.line.now (Typed handled) c.reserve.new.self.held c.pass.new.self.held c.args.progress.now.cuts.items c.pass.new.self.cuts.items
    w.journal.entries v.journal.entries text (how_is c.args.console c.args.line.now c.requires.short handled so) c.in_ok-handle.ensures.did owned
    (c.pass.ensures.held ∙ c.held_by-held.ensures)
    (c.pass.ensures.cuts ∙ (ap (λ cs. cs ++ c.entries.result ∷ []) c.reserve.ensures.cuts ∙ ap (λ n. c.args.progress.now.cuts.items ++ n ∷ []) length_is))) in
    let from : c.entries-from.result ≡ length w.journal.entries = c.entries-from.ensures ∙ ap (λ (b : Book). length b.entries) c.journal.ensures.journal in
    let journal : c.journal-3.result.now ≡ v.journal = c.journal-3.ensures.journal in
    let front : WritesFront (concat (prints_of (drop (length w.journal.entries) v.journal.entries))) (g.K.Sink.held c.args.sink.now) (g.K.Sink.held c.show.new.sink) =
    rw (← from, ← journal) c.in_err-show.ensures.front in
    if_err_from c.from_residual-in_err-show.result c.in_err-show.field-0.0 _ c.from_residual-in_err-show.ensures.1
    (served_shown text c.in_err-show.field-0.0 _ _ by c.in_err-show.ensures.cause.0 front)

pub returns-clause-served : goal.returns-clause-served
returns-clause-served g c =
    let w = c.args.world.now in
    let v = c.handle.new.world in
    let handled = c.handled_as-handled.result in
    let so : handled_as (owns c.args.console) c.args.line.now ≡ handled = sym (rw (← c.owns.ensures, ← c.as_slice.ensures) c.handled_as-handled.ensures) in
    let text = own_text c.in_ok-own.own v.journal.entries in
    let same = same_rules w v c.handle.ensures.count c.handle.ensures.profile in
    let owned = subst (λ r. IsOwn r c.reserve.new.self.held (Typed handled) v.journal.entries text) same
    (c.in_ok-own.ensures.own c.reserve.new.self.held (λ free audit. (c.in_ok-handle.ensures.rest
    (ap (λ b. held_by b (Typed handled)) free ∙ ap (λ h. held_by false (Typed h)) audit)).quiet)) in
    let length_is : c.entries.result ≡ length v.journal.entries = c.entries.ensures ∙ ap (λ (b : Book). length b.entries) c.journal-2.ensures.journal in
    let by = subst (λ b. IsHandledBy c.args.console (rules w) c.args.line.now b c.pass.new.self.held c.args.progress.now.cuts.items c.pass.new.self.cuts.items
    w.journal.entries v.journal.entries text) c.reserve.ensures.held
    (handled_by c.args.console (rules w) c.args.line.now (Typed handled) c.reserve.new.self.held c.pass.new.self.held c.args.progress.now.cuts.items c.pass.new.self.cuts.items
    w.journal.entries v.journal.entries text (how_is c.args.console c.args.line.now c.requires.short handled so) c.in_ok-handle.ensures.did owned
    (c.pass.ensures.held ∙ c.held_by-held.ensures)
    (c.pass.ensures.cuts ∙ (ap (λ cs. cs ++ c.entries.result ∷ []) c.reserve.ensures.cuts ∙ ap (λ n. c.args.progress.now.cuts.items ++ n ∷ []) length_is))) in
    let from : c.entries-from.result ≡ length w.journal.entries = c.entries-from.ensures ∙ ap (λ (b : Book). length b.entries) c.journal.ensures.journal in
    let journal : c.journal-3.result.now ≡ v.journal = c.journal-3.ensures.journal in
    let shown : g.K.Sink.held c.show.new.sink ≡ followed (g.K.Sink.held c.args.sink.now) (concat (prints_of (drop (length w.journal.entries) v.journal.entries))) =
    rw (← from, ← journal) c.in_ok-show.ensures.held in
    served_ok text c.write_own.result _ _ _ by shown (rw (← c.journal-4.ensures.journal) c.write_own.ensures.held)

pub returns-clause-err : goal.returns-clause-err
returns-clause-err g c =
    let w = c.args.world.now in
    let v = c.handle.new.world in
    let handled = c.handled_as-handled.result in
    let so : handled_as (owns c.args.console) c.args.line.now ≡ handled = sym (rw (← c.owns.ensures, ← c.as_slice.ensures) c.handled_as-handled.ensures) in
    let text = own_text c.in_ok-own.own v.journal.entries in
    let same = same_rules w v c.handle.ensures.count c.handle.ensures.profile in
    let owned = subst (λ r. IsOwn r c.reserve.new.self.held (Typed handled) v.journal.entries text) same
    (c.in_ok-own.ensures.own c.reserve.new.self.held (λ free audit. (c.in_ok-handle.ensures.rest
    (ap (λ b. held_by b (Typed handled)) free ∙ ap (λ h. held_by false (Typed h)) audit)).quiet)) in
    let length_is : c.entries.result ≡ length v.journal.entries = c.entries.ensures ∙ ap (λ (b : Book). length b.entries) c.journal-2.ensures.journal in
    let by = subst (λ b. IsHandledBy c.args.console (rules w) c.args.line.now b c.pass.new.self.held c.args.progress.now.cuts.items c.pass.new.self.cuts.items
    w.journal.entries v.journal.entries text) c.reserve.ensures.held
    (handled_by c.args.console (rules w) c.args.line.now (Typed handled) c.reserve.new.self.held c.pass.new.self.held c.args.progress.now.cuts.items c.pass.new.self.cuts.items
    w.journal.entries v.journal.entries text (how_is c.args.console c.args.line.now c.requires.short handled so) c.in_ok-handle.ensures.did owned
    (c.pass.ensures.held ∙ c.held_by-held.ensures)
    (c.pass.ensures.cuts ∙ (ap (λ cs. cs ++ c.entries.result ∷ []) c.reserve.ensures.cuts ∙ ap (λ n. c.args.progress.now.cuts.items ++ n ∷ []) length_is))) in
    let from : c.entries-from.result ≡ length w.journal.entries = c.entries-from.ensures ∙ ap (λ (b : Book). length b.entries) c.journal.ensures.journal in
    let journal : c.journal-3.result.now ≡ v.journal = c.journal-3.ensures.journal in
    let shown : g.K.Sink.held c.show.new.sink ≡ followed (g.K.Sink.held c.args.sink.now) (concat (prints_of (drop (length w.journal.entries) v.journal.entries))) =
    rw (← from, ← journal) c.in_ok-show.ensures.held in
    served_own text c.write_own.result _ _ _ _ by shown (rw (← c.journal-4.ensures.journal) c.write_own.ensures.front) c.write_own.ensures.cause

pub returns-in_err-handle-clause-err : goal.returns-in_err-handle-clause-err
returns-in_err-handle-clause-err g c =
    if_err_from c.from_residual-in_err-handle.result c.in_err-handle.field-0.0 _ c.from_residual-in_err-handle.ensures.1
    (line_left (rules c.args.world.now) c.args.progress.now.held c.reserve.new.self.held c.in_err-handle.field-0.0 c.args.world.now.journal.entries
    c.handle.new.world.journal.entries (g.K.Sink.held c.args.sink.now) (g.K.Sink.held c.args.sink.now) c.handle.new.world _ c.in_err-handle.ensures.cause
    (record { begun = c.handle.ensures.once; cut = c.reserve.ensures.cuts; written = refl }))

pub returns-in_err-handle-clause-shown : goal.returns-in_err-handle-clause-shown
returns-in_err-handle-clause-shown g c =
    if_err_from c.from_residual-in_err-handle.result c.in_err-handle.field-0.0 _ c.from_residual-in_err-handle.ensures.1
    (turn_shown c.in_err-handle.field-0.0 c.handle.new.world _ c.in_err-handle.ensures.cause)

pub returns-in_err-handle-clause-told : goal.returns-in_err-handle-clause-told
returns-in_err-handle-clause-told g c = λ carries.
    if_err_from c.from_residual-in_err-handle.result c.in_err-handle.field-0.0 _ c.from_residual-in_err-handle.ensures.1 (c.in_err-handle.ensures.told carries)

pub returns-clause-shown : goal.returns-clause-shown
returns-clause-shown g c = written_shown c.write_own.result c.handle.new.world _ _ c.write_own.ensures.cause

pub returns-clause-told : goal.returns-clause-told
returns-clause-told g c = λ carries. written_calm c.write_own.result _ c.write_own.ensures.cause
