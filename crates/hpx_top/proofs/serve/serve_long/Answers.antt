use Rattle.std.proofs.Common.{[], ◌∷◌, ◌++◌, ◌≡◌, ◌∙◌, length, ap}
use Rattle.hpx_journal.specs.Weights.{Book}
use Rattle.hpx_top.proofs.TypedLemmas.{long_err, long_ok}
use Rattle.hpx_top.proofs.serve.serve_long.Goals as goal

pub returns-clause-served : goal.returns-clause-served
returns-clause-served g c =
    let length_is : c.entries.result ≡ length c.args.world.now.journal.entries = c.entries.ensures ∙ ap (λ (b : Book). length b.entries) c.journal.ensures.journal in
    let cut = c.pass.ensures.cuts ∙ (ap (λ cs. cs ++ c.entries.result ∷ []) c.reserve.ensures.cuts ∙ ap (λ n. c.args.progress.now.cuts.items ++ n ∷ []) length_is) in
    λ console line long. long_ok console _ line c.args.progress.now.held c.pass.new.self.held c.args.progress.now.cuts.items c.pass.new.self.cuts.items
    c.args.world.now.journal.entries c.write.result _ _ long (λ free. (c.requires.rest free).rest) (c.pass.ensures.held ∙ c.reserve.ensures.held) cut c.write.ensures.held

pub returns-clause-err : goal.returns-clause-err
returns-clause-err g c =
    let length_is : c.entries.result ≡ length c.args.world.now.journal.entries = c.entries.ensures ∙ ap (λ (b : Book). length b.entries) c.journal.ensures.journal in
    let cut = c.pass.ensures.cuts ∙ (ap (λ cs. cs ++ c.entries.result ∷ []) c.reserve.ensures.cuts ∙ ap (λ n. c.args.progress.now.cuts.items ++ n ∷ []) length_is) in
    λ console line long. long_err console _ line c.args.progress.now.held c.pass.new.self.held c.args.progress.now.cuts.items c.pass.new.self.cuts.items
    c.args.world.now.journal.entries c.write.result _ _ _ long (λ free. (c.requires.rest free).rest) (c.pass.ensures.held ∙ c.reserve.ensures.held) cut c.write.ensures.front c.write.ensures.cause
