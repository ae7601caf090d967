-- What a member keeps: its node, its journal, and what its link tells.
use Rattle.std.specs.Prelude.{ℕ, List, [], ◌∷◌, ◌++◌, ◌≡◌, ◌≢◌, ◌≤◌, ◌⊎◌, true, Option, Some, None, length, take, reverse}
use Rattle.std.specs.List.{AllByRecursion}
use Rattle.hpx_value.specs.declared.profile.Profile.{Profile}
use Rattle.hpx_journal.specs.Data.{Act, Outcome, State}
use Rattle.hpx_journal.specs.Entries.{Rules, Frame}
use Rattle.hpx_journal.specs.Foreign.{NodeKeeps}
use Rattle.hpx_journal.specs.Laws.{outs, ins, AreAt}
use Rattle.hpx_journal.specs.Sessions.{FeedsNothing}
use Rattle.hpx_journal.specs.Whole.{IsClean}
use Rattle.hpx_part.specs.Data.{Event, Entry}
use Rattle.hpx_part.specs.Parts.{at_boot}
use Rattle.hpx_tables.specs.Tables.{IsPassive, Tables}
use Rattle.hpx_steps.specs.Limits.{IsWithin}
use Rattle.hpx_steps.specs.Rest.{Stands, rules_of}
use Rattle.hpx_ports.specs.declared.link.Post.{Post}
use Rattle.hpx_ports.specs.Told.{followed}
use Rattle.hpx_ports.specs.declared.link.Post.TheVariants.{Sent}
use Rattle.hpx_ended.specs.Waves.{BeginsAwake, MayAnswer}
use Rattle.hpx_member.specs.Bodies.{frames_got, frames_sent, is_frame, told_by}
use Rattle.hpx_member.specs.declared.bodies.Told.{Told}

-- what actions do
abbrev pub Meaning : Type 0
Meaning = ℕ → ℕ → ℕ → State → Act → Outcome

-- ---- what is told of a member's numbers

-- these numbers were told where the journal had n entries, behind these posts, the newest first: they are those of the entries and of the posts;
-- and up to a foreign arrival the part is at rest there, and a line or a frame is the next that comes
pub record IsToldAt (r : Rules) (k : ℕ) (es : List Entry) (earlier : List Post) (c : Told) (n : ℕ) : Type 0 where
  pub within : n ≤ length es
  pub sent : c.sent ≡ length (outs (take n es))
  pub taken : c.taken ≡ length (ins (take n es))
  pub gone : c.sent ≡ length (frames_sent k (reverse earlier))
  pub came : c.taken ≡ length (frames_got k (reverse earlier))
  pub may : IsClean r (at_boot r k) (take n es) → MayAnswer r k es n

-- lengths that do not fall, the newest first
abbrev pub IsAbove : List ℕ → ℕ → Type 0
IsAbove [] n = Unit {0}
IsAbove (m ∷ ns) n = m ≤ n

-- if numbers are told, they are so at the first length, and the rest are told with the other lengths
abbrev pub TellsNext : (Told → ℕ → Type 0) → (List ℕ → Type 0) → Option Told → List ℕ → Type 0
TellsNext At Rest None ns = Rest ns
TellsNext At Rest (Some c) [] = ⊥
TellsNext At Rest (Some c) (n ∷ ns) = At c n × IsAbove ns n × Rest ns

-- all numbers that were told, the newest post first, each where the journal was so long
abbrev pub AreTold : Rules → ℕ → List Entry → List Post → List ℕ → Type 0
AreTold r k es [] ns = ns ≡ []
AreTold r k es (x ∷ earlier) ns = TellsNext (IsToldAt r k es earlier) (AreTold r k es earlier) (told_by x) ns

-- ---- what a link tells of a journal

-- where the last numbers were told behind the last entry, nothing is to be done
abbrev pub IsStill : List ℕ → ℕ → Type 0 → Type 0
IsStill [] length idle = Unit {0}
IsStill (n ∷ ns) length idle = length ≤ n → idle

-- the frames sent are those of the journal of k, those that came are those of the journal and then these, and all numbers were told so
pub record IsTraced (r : Rules) (k : ℕ) (idle : Type 0) (es : List Entry) (rest : List Frame) (tr : List Post) : Type 0 where
  pub sent : frames_sent k tr ≡ outs es
  pub came : frames_got k tr ≡ ins es ++ rest
  pub lengths : List ℕ
  pub told : AreTold r k es (reverse tr) lengths
  pub still : IsStill lengths (length es) idle

-- the journal is k's alone, and agrees with a link that tells
pub record IsSeated (r : Rules) (k : ℕ) (idle : Type 0) (es : List Entry) (rest : List Frame) (trace : Option (List Post)) : Type 0 where
  pub own : AreAt k es
  pub traced : (tr : List Post) → trace ≡ Some tr → IsTraced r k idle es rest tr

-- a node stands for its journal, which is within the limits and agrees with the link, with these frames not yet accepted
pub record Sits (act_of : Meaning) (t : Tables) (es : List Entry) (rest : List Frame) (trace : Option (List Post)) : Type 0 where
  pub stands : Stands act_of t es
  pub within : IsWithin es
  pub seated : IsSeated (rules_of act_of t.localities t.profile) t.here (IsPassive t) es rest trace

-- ---- what a call writes

-- entries of k that send and accept nothing, and feed no line
pub record IsInside (k : ℕ) (old new : List Entry) : Type 0 where
  pub later : List Entry
  pub is : new ≡ old ++ later
  pub own : AreAt k later
  pub outs : outs later ≡ []
  pub ins : ins later ≡ []
  pub unfed : AllByRecursion (λ e. FeedsNothing e.event) later

-- entries of k of which the first is this, and the others send and accept nothing, and feed no line
pub record BeginsBy (k : ℕ) (e : Event) (old new : List Entry) : Type 0 where
  pub later : List Entry
  pub is : new ≡ old ++ record { at = k; event = e } ∷ later
  pub own : AreAt k later
  pub outs : outs later ≡ []
  pub ins : ins later ≡ []
  pub unfed : AllByRecursion (λ e. FeedsNothing e.event) later

-- a call added entries, and no line is among them: where nothing was to be done, the first is a frame that came, or there is none and so it is still
pub record Grows (t t' : Tables) (es es' : List Entry) : Type 0 where
  pub later : List Entry
  pub is : es' ≡ es ++ later
  pub unfed : AllByRecursion (λ e. FeedsNothing e.event) later
  pub woken : IsPassive t → BeginsAwake later
  pub still : IsPassive t → later ≡ [] → IsPassive t'

-- nothing was sent, or one frame
abbrev pub MaySend : Option (List Post) → Option (List Post) → Type 0
MaySend trace trace' =
    (trace' ≡ trace) ⊎ ((to : ℕ) × ((frame : List ℕ) × ((is_frame frame ≡ true) × (trace' ≡ followed trace (Sent to frame ∷ [])))))

-- the same locality of as many, by the same profile
pub record IsSameSite (t t' : Tables) : Type 0 where
  pub here : t'.here ≡ t.here
  pub localities : t'.localities ≡ t.localities
  pub profile : t'.profile ≡ t.profile

-- a node did something by itself: it sent and accepted nothing, and where nothing was to be done nothing has changed
pub record Stays (act_of : Meaning) (t t' : Tables) (es es' : List Entry) : Type 0 where
  pub stands : Stands act_of t' es'
  pub within : IsWithin es'
  pub site : IsSameSite t t'
  pub inside : IsInside t.here es es'
  pub still : IsPassive t → (t' ≡ t) × (es' ≡ es)

-- ---- what a member leaves

-- a journal of k alone, legal and backed up to a foreign arrival, and within the limits
pub record IsPart (r : Rules) (k : ℕ) (es : List Entry) : Type 0 where
  pub own : AreAt k es
  pub keeps : NodeKeeps r (at_boot r k) es
  pub within : IsWithin es

-- a node at k of n localities, by this profile, stands for this journal
pub record IsNodeAt (act_of : Meaning) (k n : ℕ) (by : Profile) (t : Tables) (es : List Entry) : Type 0 where
  pub here : t.here ≡ k
  pub localities : t.localities ≡ n
  pub profile : t.profile ≡ by
  pub stands : Stands act_of t es

-- what a link tells of a member that ended with this status: the frames sent are those of its journal, those that came are those of its journal and
-- at most one more, at status 5, 6, 7 or 8 alone; and all numbers that it told were its own
pub record Tells (r : Rules) (k status : ℕ) (es : List Entry) (tr : List Post) : Type 0 where
  pub sent : frames_sent k tr ≡ outs es
  pub rest : List Frame
  pub came : frames_got k tr ≡ ins es ++ rest
  pub few : length rest ≤ 1
  pub none : status ≢ 5 → status ≢ 6 → status ≢ 7 → status ≢ 8 → rest ≡ []
  pub lengths : List ℕ
  pub told : AreTold r k es (reverse tr) lengths
