-- What a process leaves that was one locality of several.
use Rattle.std.specs.Prelude.{ℕ, Bool, false, Option, Some, None, IfSome, List, [], ◌∷◌, ◌≡◌, ◌≢◌, ◌≤◌, ◌+◌, ◌⊎◌}
use Rattle.std.specs.List.{concat, AllByRecursion}
use Rattle.hpx_value.specs.declared.profile.Profile.{Profile}
use Rattle.hpx_journal.specs.Entries.{Rules}
use Rattle.hpx_journal.specs.Pool.{prints_of}
use Rattle.hpx_journal.specs.Sessions.{FeedsNothing}
use Rattle.hpx_journal.specs.Weights.{HasRoom}
use Rattle.hpx_part.specs.Data.{Entry}
use Rattle.hpx_tables.specs.Tables.{Tables}
use Rattle.hpx_steps.specs.Rest.{rules_of}
use Rattle.hpx_ports.specs.Faults.{Rose}
use Rattle.hpx_ports.specs.Told.{followed}
use Rattle.hpx_ports.specs.declared.link.Latest.{Latest}
use Rattle.hpx_ports.specs.declared.link.Latest.TheVariants.{Got}
use Rattle.hpx_ports.specs.declared.link.Post.{Post}
use Rattle.app_console.specs.Lines.{IsPiece}
use Rattle.hpx_member.specs.Bodies.{IsOutOfPlace, end_body}
use Rattle.hpx_member.specs.Leads.{HasAsked, HasLineToFeed, HasServed, IsConsolesStatus, IsNoFrame}
use Rattle.hpx_member.specs.Seats.{IsNodeAt, IsPart, Tells}
use Rattle.hpx_member.specs.Serves.{IsIdleBehind}
use Rattle.hpx_member.specs.Stops.{IsFaultBy, IsTurnDue, IsWorkersStatus, status_of_fault}
use Rattle.hpx_member.specs.Talks.{Talk}
use Rattle.hpx_member.specs.Words.{Heeds}
use Rattle.hpx_member.specs.declared.stop.MemberFault.{MemberFault}
use Rattle.hpx_top.specs.Acts.{act_of}
use Rattle.hpx_top.specs.Ends.{IsReadFrom, IsReadUp}
use Rattle.hpx_top.specs.Printed.{HasCounted}
use Rattle.hpx_top.specs.Reader.{Reading}
use Rattle.hpx_top.specs.Runs.{Ports}
use Rattle.hpx_top.specs.Session.{WritesFront, lines_fed}
use Rattle.hpx_process.specs.declared.membership.Errand.{Errand}
use Rattle.hpx_process.specs.declared.membership.Errand.TheVariants.{Session, Problem}
use Rattle.hpx_process.specs.declared.membership.Membership.{Membership}
use Rattle.hpx_process.specs.declared.membership.Role.{Role}
use Rattle.hpx_process.specs.declared.membership.Role.TheVariants.{Console, Worker}
use Rattle.hpx_process.specs.declared.sheet.Sheet.{Sheet}
use Rattle.hpx_process.specs.declared.sheet.Sheet.TheVariants.{Blank}
use Rattle.hpx_process.specs.Deeds.{HasBroken, HasTalked, sitting}
use Rattle.hpx_process.specs.Memberships.{problem_line}
use Rattle.hpx_process.specs.Parts.{IsWhole}
use Rattle.hpx_process.specs.Slips.{HasPassed, HasStuck, note}

-- ---- a member, whatever it wrote

-- a member's status, its node, its journal, what it did not accept, and of its link what it tells, what came last, and how often it failed
pub record Left : Type 0 where
  pub status : ℕ
  pub node : Option Tables
  pub entries : List Entry
  pub fault : Option MemberFault
  pub trace : Option (List Post)
  pub latest : Latest
  pub faults : ℕ

abbrev pub left : ℕ → Option Tables → List Entry → Option MemberFault → Option (List Post) → Latest → ℕ → Left
left status node entries fault trace latest faults =
    record { status = status; node = node; entries = entries; fault = fault; trace = trace; latest = latest; faults = faults }

-- Locality k of n: its journal is its part, its node stands for that, and where its link tells, that is what it sent and accepted. Status 4 comes only
-- with a fault of the link, 5 where the journal has no room, 7 and 8 with what was not accepted. These are odd words to it.
pub record IsMember (n : ℕ) (p : Profile) (k : ℕ) (Odd : ℕ → List ℕ → Type 0) (m : Left) : Type 0 where
  pub journal : IsPart (rules_of act_of n p) k m.entries
  pub node : IfSome m.node (λ t. IsNodeAt act_of k n p t m.entries)
  pub tells : (tr : List Post) → m.trace ≡ Some tr → Tells (rules_of act_of n p) k m.status m.entries tr
  pub failed : m.status ≡ 4 → Rose 0 m.faults
  pub calm : m.status ≢ 4 → m.faults ≡ 0
  pub full : m.status ≡ 5 → HasRoom m.entries → ⊥
  pub fault : IfSome m.fault (λ fault. (m.status ≡ status_of_fault fault) × IfSome m.node (λ t. IsFaultBy Odd t m.latest fault))
  pub faultless : m.fault ≡ None → (m.status ≢ 7) × (m.status ≢ 8)
  pub unbooted : m.node ≡ None → (m.status ≡ 6) × (m.entries ≡ [])

-- a worker answers each wave that it hears of, feeds no line, ends for want of room only where a turn is due, and well only where it was told to
pub record IsWorker (n : ℕ) (p : Profile) (k : ℕ) (m : Left) : Type 0 where
  pub member : IsMember n p k IsOutOfPlace m
  pub ends : IsWorkersStatus m.status
  pub unfed : AllByRecursion (λ e. FeedsNothing e.event) m.entries
  pub due : m.status ≡ 5 → IfSome m.node (λ t. IsTurnDue t m.latest)
  pub heeds : (tr : List Post) → m.trace ≡ Some tr → Heeds m.status tr
  pub end : m.status ≡ 0 → m.latest ≡ Got 0 end_body

-- the console asks the others wave after wave, and tells them to end behind a round that has ended; then nothing is under way here
pub record IsConsole (n : ℕ) (p : Profile) (settles : Bool) (m : Left) : Type 0 where
  pub member : IsMember n p 0 IsNoFrame m
  pub ends : IsConsolesStatus m.status
  pub asked : HasAsked (rules_of act_of n p) settles m.status m.fault m.entries m.trace
  pub rest : m.status ≡ 0 → IsIdleBehind (rules_of act_of n p) m.entries

-- as its role is
abbrev pub IsOfRole : Membership → Left → Role → Type 0
IsOfRole membership m (Console settles) = IsConsole membership.localities membership.profile settles m
IsOfRole membership m (Worker node) = IsWorker membership.localities membership.profile node m

-- ---- what a console reads and writes

-- a turn is due of a console: to feed a line that was handed out, as this was said, or of its node
abbrev pub IsDue : Rules → Left → (List Talk → Type 0) → Type 0
IsDue r m Went = HasLineToFeed r m.entries Went ⊎ IfSome m.node (λ t. IsTurnDue t m.latest)

-- It sat at a desk: its lines were handed out there, and its entries shown. Where it ended well, that is the whole text of the input, which was read up
-- to its end or to `quit`. Where no line could be read, or no more may be, no whole line that was read is left. It ends for want of room only where a
-- turn is due.
pub record HasSat (r : Rules) (m : Left) (x z : Ports) : Type 0 where
  pub sheet : Sheet
  pub reading : Reading
  pub served : HasServed r m.status m.entries
      (HasTalked (sitting Blank (record { pending = []; read = 0; ended = false }) x.left x.taken x.text) (sitting sheet reading z.left z.taken z.text))
      (HasBroken (sitting Blank (record { pending = []; read = 0; ended = false }) x.left x.taken x.text) (sitting sheet reading z.left z.taken z.text))
  pub reads : (input : List ℕ) → x.left ≡ Some input → IsReadFrom input z.left x.taken z.taken
  pub whole : m.status ≡ 0 → (input : List ℕ) → x.left ≡ Some input → IsWhole r input m.entries x.text z.text
  pub read_up : m.status ≡ 0 → (input : List ℕ) → x.left ≡ Some input → IsReadUp input z.left
  pub between_lines : (m.status ≡ 2) ⊎ (m.status ≡ 9) → IsPiece reading.pending
  pub due : m.status ≡ 5 → IsDue r m (HasTalked (sitting Blank (record { pending = []; read = 0; ended = false }) x.left x.taken x.text) (sitting sheet reading z.left z.taken z.text))

-- It was given a slip with this line: that was fed, or nothing, and the prints or a front of them were written, where it ended well all. It read
-- nothing.
pub record HasReckoned (r : Rules) (line : List ℕ) (m : Left) (x z : Ports) : Type 0 where
  pub asked : Bool
  pub served : HasServed r m.status m.entries (HasPassed line (note false x.text) (note asked z.text)) (HasStuck line (note false x.text) (note asked z.text))
  pub fed : (lines_fed m.entries ≡ []) ⊎ (lines_fed m.entries ≡ line ∷ [])
  pub front : WritesFront (concat (prints_of m.entries)) x.text z.text
  pub whole : m.status ≡ 0 → (lines_fed m.entries ≡ line ∷ []) × (z.text ≡ followed x.text (concat (prints_of m.entries)))
  pub due : m.status ≡ 5 → IsDue r m (HasPassed line (note false x.text) (note asked z.text))
  pub unread : (z.left ≡ x.left) × (z.taken ≡ x.taken)

abbrev pub HasDone : Rules → Errand → Left → Ports → Ports → Type 0
HasDone r Session m x z = HasSat r m x z
HasDone r (Problem problem) m x z = HasReckoned r (problem_line problem) m x z

-- it did what it was asked to, and where that ended well, the values of its counters were written
pub record HasLed (membership : Membership) (status : ℕ) (m : Left) (x z : Ports) : Type 0 where
  pub mid : Ports
  pub did : HasDone (rules_of act_of membership.localities membership.profile) membership.errand m x mid
  pub counted : HasCounted membership.counters.items status m.status m.entries mid.text z.text
  pub still : z ≡ record mid { text = z.text; write_faults = z.write_faults }

-- nothing was read or written
pub record IsSilent (x z : Ports) : Type 0 where
  pub ports : z ≡ record x { frame_faults = z.frame_faults }

-- a worker reads and writes nothing
abbrev pub HasWritten : Membership → ℕ → Left → Ports → Ports → Role → Type 0
HasWritten membership status m x z (Console settles) = HasLed membership status m x z
HasWritten membership status m x z (Worker node) = (status ≡ m.status) × IsSilent x z

-- ---- the whole

-- Each status has its cause, no port failed but that which the status names, and at most 67,108,864 bytes were read: 4 is of what connects the members,
-- or of the link, which had not failed before.
pub record HasMembersCause (status link : ℕ) (x z : Ports) : Type 0 where
  pub read : status ≡ 2 → Rose x.read_faults z.read_faults
  pub write : status ≡ 3 → Rose x.write_faults z.write_faults
  pub frame : status ≡ 4 → Rose x.frame_faults z.frame_faults ⊎ Rose 0 link
  pub input : status ≡ 9 → z.taken ≡ x.taken + 67108864
  pub read_only : status ≢ 2 → z.read_faults ≡ x.read_faults
  pub write_only : status ≢ 3 → z.write_faults ≡ x.write_faults
  pub frame_only : status ≢ 4 → (z.frame_faults ≡ x.frame_faults) × (link ≡ 0)
  pub limit : z.taken ≤ x.taken + 67108864

-- how often the link failed
abbrev pub faults_in : Option Left → ℕ
faults_in None = 0
faults_in (Some m) = m.faults

-- What a process has done that was to be one locality of several. `frame_faults` counts the faults of what connects them.
pub record HasJoined (membership : Membership) (status : ℕ) (member : Option Left) (x z : Ports) : Type 0 where
  pub ends : IsConsolesStatus status
  pub cause : HasMembersCause status (faults_in member) x z
  pub unlinked : member ≡ None → ((status ≡ 4) ⊎ (status ≡ 6)) × IsSilent x z
  pub was : IfSome member (λ m. IsOfRole membership m membership.role)
  pub wrote : IfSome member (λ m. HasWritten membership status m x z membership.role)
