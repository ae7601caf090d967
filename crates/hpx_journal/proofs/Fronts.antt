-- Fronts of legal journals.
use Rattle.std.proofs.Common.{List, [], ◌∷◌, ◌++◌, ◌≡◌, refl}
use Rattle.hpx_journal.specs.Entries.{Entry, Rules}
use Rattle.hpx_journal.specs.Whole.{Space, IsLegalFrom, step, run}

pub legal_front : (r : Rules) (w : Space) (es later : List Entry) → IsLegalFrom r w (es ++ later) → IsLegalFrom r w es
legal_front r w [] later h = tt
legal_front r w (e ∷ es) later h = (h.0, legal_front r (step r w e) es later h.1)

pub legal_rest : (r : Rules) (w : Space) (es later : List Entry) → IsLegalFrom r w (es ++ later) → IsLegalFrom r (run r w es) later
legal_rest r w [] later h = h
legal_rest r w (e ∷ es) later h = legal_rest r (step r w e) es later h.1

pub run_append : (r : Rules) (w : Space) (es later : List Entry) → run r w (es ++ later) ≡ run r (run r w es) later
run_append r w [] later = refl
run_append r w (e ∷ es) later = run_append r (step r w e) es later
