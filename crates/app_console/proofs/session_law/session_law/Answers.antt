use Rattle.app_console.proofs.JournalText.{law_plain, law_each_line, law_broken_off, law_opens, law_opened_whole, law_opened_broken_off}
use Rattle.app_console.proofs.session_law.session_law.Goals as goal

pub returns-clause-plain : goal.returns-clause-plain
returns-clause-plain c = λ acts con mark n log limit parcel_of lines blocks users some few short grammar calm session.
    law_plain acts n log limit parcel_of some few con mark users lines blocks short grammar calm session

pub returns-clause-each_line : goal.returns-clause-each_line
returns-clause-each_line c = λ acts con mark n log limit parcel_of lines blocks users some few short fit grammar calm session.
    law_each_line acts n log limit parcel_of some few con mark users lines blocks short fit grammar calm session

pub returns-clause-broken_off : goal.returns-clause-broken_off
returns-clause-broken_off c = λ acts con mark n log limit parcel_of lines blocks line es users some few short fits grammar session begins legal calm.
    law_broken_off acts n log limit parcel_of some few con mark users lines blocks line es short fits grammar session begins legal calm

pub returns-clause-opens : goal.returns-clause-opens
returns-clause-opens c = λ acts n log limit parcel_of es some few grammar begins legal calm.
    law_opens acts n log limit parcel_of some few es grammar begins legal calm

pub returns-clause-opened_whole : goal.returns-clause-opened_whole
returns-clause-opened_whole c = λ acts con mark n log limit parcel_of lines blocks users some few short grammar calm session.
    law_opened_whole acts n log limit parcel_of some few con mark users lines blocks short grammar calm session

pub returns-clause-opened_broken_off : goal.returns-clause-opened_broken_off
returns-clause-opened_broken_off c = λ acts con mark n log limit parcel_of lines blocks line es users some few short fits grammar session begins legal calm.
    law_opened_broken_off acts n log limit parcel_of some few con mark users lines blocks line es short fits grammar session begins legal calm
