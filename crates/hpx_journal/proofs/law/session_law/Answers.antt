use Rattle.std.proofs.Common.{[], refl}
use Rattle.hpx_journal.specs.Pool.{boot_pool}
use Rattle.hpx_journal.proofs.Reduced.{boot_shows}
use Rattle.hpx_journal.proofs.Sessions.{quiet_settled, session_plain, session_front, session_legal, session_grows, entries_append, shown_append}
use Rattle.hpx_journal.proofs.law.session_law.Goals as goal

pub returns-clause-boot : goal.returns-clause-boot
returns-clause-boot c = λ r lines blocks grammar laws blind fine h.
    session_plain r grammar laws blind [] (boot_pool r) lines blocks refl (boot_shows r) fine h

pub returns-clause-broken_off : goal.returns-clause-broken_off
returns-clause-broken_off c = λ r lines blocks line es grammar laws blind h begins legal fine.
    session_front r grammar laws blind [] (boot_pool r) lines blocks line es refl (boot_shows r) h begins legal fine

pub returns-clause-grows : goal.returns-clause-grows
returns-clause-grows c = λ r lines blocks line es h legal begins settled.
    session_grows r [] lines blocks line es h (record { legal = legal; begins = begins; settled = settled })

pub returns-clause-entries : goal.returns-clause-entries
returns-clause-entries c = λ blocks es. entries_append blocks es

pub returns-clause-texts : goal.returns-clause-texts
returns-clause-texts c = λ blocks es. shown_append blocks es

pub returns-clause-legal : goal.returns-clause-legal
returns-clause-legal c = λ r lines blocks h. session_legal r [] lines blocks tt h

pub returns-clause-quiet : goal.returns-clause-quiet
returns-clause-quiet c = λ r w quiet. quiet_settled r w quiet
