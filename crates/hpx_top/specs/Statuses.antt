-- What a run answers, and what it says of it.
use Rattle.std.specs.Prelude.{ℕ, List, [], ◌==◌, ◌≢◌, ◌≤◌, codes, Result, Ok, Err, if◌then◌else◌}
use Rattle.hpx_top.specs.declared.session.SessionFault.{SessionFault}
use Rattle.hpx_top.specs.declared.session.SessionFault.TheVariants.{Read, Write, Fabric, JournalFull, OutOfMemory, Broken, InputFull}
use Rattle.hpx_top.specs.Breaches.{breach_status}

-- the status for each cause
abbrev pub status_of : SessionFault → ℕ
status_of Read = 2
status_of Write = 3
status_of Fabric = 4
status_of JournalFull = 5
status_of OutOfMemory = 6
status_of (Broken breach) = breach_status breach
status_of InputFull = 9

-- the status of a session that ended
abbrev pub status_after : {T : Type 0} → Result T SessionFault → ℕ
status_after (Ok x) = 0
status_after (Err fault) = status_of fault

-- one of the statuses that there are on a fabric that tells: no frame without a parcel comes there, none that breaks a rule, and no end is
-- early
pub record IsStatus (status : ℕ) : Type 0 where
  pub last : status ≤ 9
  pub no_frame : status ≢ 7
  pub no_parcel : status ≢ 8

-- the line for a status, none for 0
abbrev pub status_line : ℕ → List ℕ
status_line status =
    if status == 2 then codes "hpx: read failed\n"
    else if status == 3 then codes "hpx: write failed\n"
    else if status == 4 then codes "hpx: fabric failed\n"
    else if status == 5 then codes "hpx: journal full\n"
    else if status == 6 then codes "hpx: out of memory\n"
    else if status == 7 then codes "hpx: bad frame\n"
    else if status == 8 then codes "hpx: strange parcel\n"
    else if status == 9 then codes "hpx: input full\n"
    else []
