-- What several processes compute together.
use Rattle.std.proofs.Common.{ℕ, List, [], ◌∷◌, ◌≡◌, ◌∙◌}
use Rattle.hpx_journal.specs.Entries.{Rules}
use Rattle.hpx_journal.specs.declared.entry.Entry.{Entry}
use Rattle.hpx_journal.specs.Laws.{HasGrammar}
use Rattle.hpx_journal.specs.Pool.{NoneFails, prints_of}
use Rattle.hpx_journal.specs.Roots.{roots}
use Rattle.hpx_journal.specs.Whole.{IsJoin, IsQuiet, part, replayed, start}
use Rattle.hpx_journal.proofs.Start.{joined_legal}
use Rattle.hpx_ended.proofs.Told.{told_end}
use Rattle.app_compute.specs.FibLaw.{IsQuestion, fed_line, fib_text}
use Rattle.app_compute.specs.Judging.{IsJudged}
use Rattle.app_compute.specs.Ring.{stencil_texts}
use Rattle.app_compute.specs.StencilLaw.{IsAsked, ring_fed}
use Rattle.app_compute.proofs.FibText as Fib
use Rattle.app_compute.proofs.StencilText as Ring
use Rattle.hpx_joined.specs.Ends.{HasEnded, lines_in}
use Rattle.hpx_joined.proofs.Fed.{lines_home, whole_block}

pub ended_quiet : (r : Rules) (es : List Entry) → HasGrammar r → IsJoin r es → HasEnded r es → IsQuiet r (replayed r es)
ended_quiet r es grammar join h = told_end r es h.answers grammar join h.told h.wave h.tally h.within h.round h.tells h.ended h.last

module _ (r : Rules) (es : List Entry) (judged : IsJudged r) (join : IsJoin r es) (ended : HasEnded r es) (calm : NoneFails es) where
  pub number_printed : (n t : ℕ) → IsQuestion n t → lines_in (part 0 es) ≡ fed_line n t ∷ [] → prints_of es ≡ fib_text n ∷ []
  number_printed n t question one =
      let b = whole_block r (fed_line n t) es judged.some judged.grammar judged.laws judged.blind (joined_legal r judged.grammar es join) calm
      (lines_home r (start (roots r.localities)) es (joined_legal r judged.grammar es join) ∙ one) (ended_quiet r es judged.grammar join ended) in
      Fib.at_end r judged n t question (prints_of es) b.0 b.1

  pub ring_printed : (p q s : ℕ) → IsAsked p q s → lines_in (part 0 es) ≡ ring_fed p q s ∷ [] → prints_of es ≡ stencil_texts p s
  ring_printed p q s asked one =
      let b = whole_block r (ring_fed p q s) es judged.some judged.grammar judged.laws judged.blind (joined_legal r judged.grammar es join) calm
      (lines_home r (start (roots r.localities)) es (joined_legal r judged.grammar es join) ∙ one) (ended_quiet r es judged.grammar join ended) in
      Ring.at_end r judged p q s asked (prints_of es) b.0 b.1
