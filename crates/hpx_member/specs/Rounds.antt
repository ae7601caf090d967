-- The rounds of waves of a console, and the lines that it is fed between them.
use Rattle.std.specs.Int.{to_be_bytes, w32}
use Rattle.std.specs.Prelude.{ℕ, zero, suc, Bool, true, false, cond, List, [], ◌∷◌, ◌++◌, ◌≡◌, ◌≤◌, ◌<◌, Option, Some, length, take}
use Rattle.std.specs.List.{flat_map}
use Rattle.hpx_journal.specs.Entries.{Rules}
use Rattle.hpx_journal.specs.Laws.{outs, ins}
use Rattle.hpx_journal.specs.Whole.{IsClean}
use Rattle.hpx_part.specs.Data.{Event, Entry, Line}
use Rattle.hpx_part.specs.Parts.{at_boot}
use Rattle.hpx_ended.specs.Tally.{Tally, IsSpent, MayCount, counted, fresh, opened, verdict_of, waits}
use Rattle.hpx_ended.specs.Waves.{MayAnswer}
use Rattle.hpx_ended.specs.declared.round.Counted.{Counted}
use Rattle.hpx_ended.specs.declared.round.Verdict.TheVariants.{Ended}
use Rattle.hpx_ports.specs.Told.{followed}
use Rattle.hpx_ports.specs.declared.link.Post.{Post}
use Rattle.hpx_ports.specs.declared.link.Post.TheVariants.{Sent, Received}
use Rattle.hpx_member.specs.Bodies.{counts_of, end_body, frames_got, frames_sent, is_frame}
use Rattle.hpx_member.specs.declared.bodies.Told.{Told}
use Rattle.hpx_member.specs.declared.console.Phase.{Phase}
use Rattle.hpx_member.specs.declared.console.Phase.TheVariants.{Unfed, Serving, LinesOver}

-- ---- words of control

-- the body that begins a wave
abbrev pub wave_body : ℕ → List ℕ
wave_body wave = 240 ∷ to_be_bytes w32 wave

-- a body was sent to members 1 to so many, in order
abbrev pub told_all : List ℕ → ℕ → List Post
told_all body zero = []
told_all body (suc k) = told_all body k ++ Sent (suc k) body ∷ []

-- to all of so many members but member 0
abbrev pub told_others : List ℕ → ℕ → List Post
told_others body zero = []
told_others body (suc k) = told_all body k

-- what happened to a word of control; nothing where a frame was sent or came
abbrev pub word_by : Post → List Post
word_by (Sent to body) = cond (is_frame body) [] (Sent to body ∷ [])
word_by (Received from body) = cond (is_frame body) [] (Received from body ∷ [])

abbrev pub words : List Post → List Post
words tr = flat_map word_by tr

-- ---- what a console does

-- A line was fed, behind so many entries. A wave was begun with these numbers of the console's own, behind so many posts and entries. A body of Counts
-- was taken from a member. The round of a console alone began anew. Or it did so as the lines were over.
pub data Turn : Type 0 where
  Fed : (entries : ℕ) → Turn
  Began : (posts entries : ℕ) (numbers : Counted) → Turn
  Took : (from : ℕ) (body : List ℕ) (told : Told) → Turn
  Anew : Turn
  Closed : Turn

-- the waves of the last round as they stand behind turns, the newest first: a line ends a round, and so does the end of the lines
abbrev pub tally_of : ℕ → List Turn → Tally
tally_of n [] = fresh n
tally_of n (Fed e ∷ earlier) = fresh n
tally_of n (Began p e x ∷ earlier) = opened x (tally_of n earlier)
tally_of n (Took from body c ∷ earlier) = counted from (record { sent = c.sent; taken = c.taken }) (tally_of n earlier)
tally_of n (Anew ∷ earlier) = fresh n
tally_of n (Closed ∷ earlier) = fresh n

-- how far the lines are behind turns
abbrev pub phase_of : List Turn → Phase
phase_of [] = Unfed
phase_of (Fed e ∷ earlier) = Serving
phase_of (Closed ∷ earlier) = LinesOver
phase_of (_ ∷ earlier) = phase_of earlier

-- a wave is due: the lines are over, or it is so set and one was fed
abbrev pub IsDue : Bool → Phase → Type 0
IsDue settles Unfed = ⊥
IsDue settles Serving = settles ≡ true
IsDue settles LinesOver = Unit {0}

-- a line may be fed, or the lines be over: they were not over before, and no answer is missing; where it is so set, a round has ended since the line before
abbrev pub MayGoOn : Bool → Tally → Phase → Type 0
MayGoOn settles t Unfed = waits t ≡ false
MayGoOn settles t Serving = (waits t ≡ false) × (settles ≡ true → verdict_of t ≡ Ended)
MayGoOn settles t LinesOver = ⊥

-- a turn may come where the waves of earlier turns stand so: a wave where one is due, no answer is missing and it has a number, Counts in answer to the
-- wave that waits, and Anew where no wave has a number any more, of a console that is alone
abbrev pub MayFollow : Bool → Tally → List Turn → Turn → Type 0
MayFollow settles t earlier (Fed e) = MayGoOn settles t (phase_of earlier)
MayFollow settles t earlier (Began p e x) = (waits t ≡ false) × IsDue settles (phase_of earlier) × (t.begun < 4294967295)
MayFollow settles t earlier (Took from body c) = (counts_of body ≡ Some c) × MayCount t from c.wave
MayFollow settles t earlier Anew = (waits t ≡ false) × (t.begun ≡ 4294967295) × (length t.answers ≡ 1)
MayFollow settles t earlier Closed = MayGoOn settles t (phase_of earlier)

-- all did
abbrev pub AreInOrder : ℕ → Bool → List Turn → Type 0
AreInOrder n settles [] = Unit {0}
AreInOrder n settles (x ∷ earlier) = MayFollow settles (tally_of n earlier) earlier x × AreInOrder n settles earlier

-- ---- as the journal tells it

-- these numbers are those of so many entries; and up to a foreign arrival the part is at rest there, and a line or a frame is the next that comes
pub record IsOwnAt (r : Rules) (es : List Entry) (e : ℕ) (x : Counted) : Type 0 where
  pub within : e ≤ length es
  pub sent : x.sent ≡ length (outs (take e es))
  pub taken : x.taken ≡ length (ins (take e es))
  pub may : IsClean r (at_boot r 0) (take e es) → MayAnswer r 0 es e

-- the last wave began behind no more entries than so many, and the last line is among them
abbrev pub IsBehind : List Turn → ℕ → Type 0
IsBehind [] n = Unit {0}
IsBehind (Fed e ∷ earlier) n = e < n
IsBehind (Began p e x ∷ earlier) n = e ≤ n
IsBehind (Took from body c ∷ earlier) n = IsBehind earlier n
IsBehind (Anew ∷ earlier) n = IsBehind earlier n
IsBehind (Closed ∷ earlier) n = IsBehind earlier n

-- turns stand in the order of the entries, and the numbers of each wave are the console's own
abbrev pub AreOwn : Rules → List Entry → List Turn → Type 0
AreOwn r es [] = Unit {0}
AreOwn r es (Fed e ∷ earlier) = (e < length es) × IsBehind earlier e × AreOwn r es earlier
AreOwn r es (Began p e x ∷ earlier) = IsOwnAt r es e x × IsBehind earlier e × AreOwn r es earlier
AreOwn r es (Took from body c ∷ earlier) = AreOwn r es earlier
AreOwn r es (Anew ∷ earlier) = AreOwn r es earlier
AreOwn r es (Closed ∷ earlier) = AreOwn r es earlier

-- where an event stands, if it is a line
abbrev pub line_at : ℕ → Event → List ℕ
line_at n (Line a bytes) = n ∷ []
line_at n _ = []

-- where the lines of entries stand, the first behind so many, the last of them first
abbrev pub lines_from : ℕ → List Entry → List ℕ
lines_from n [] = []
lines_from n (e ∷ es) = lines_from (suc n) es ++ line_at n e.event

-- where lines were fed
abbrev pub fed_at : List Turn → List ℕ
fed_at [] = []
fed_at (Fed e ∷ earlier) = e ∷ fed_at earlier
fed_at (Began p e x ∷ earlier) = fed_at earlier
fed_at (Took from body c ∷ earlier) = fed_at earlier
fed_at (Anew ∷ earlier) = fed_at earlier
fed_at (Closed ∷ earlier) = fed_at earlier

-- turns in order, by this journal, whose lines they are
pub record IsCourse (r : Rules) (settles : Bool) (es : List Entry) (turns : List Turn) : Type 0 where
  pub order : AreInOrder r.localities settles turns
  pub own : AreOwn r es turns
  pub lines : fed_at turns ≡ lines_from 0 es

-- ---- as the link tells it

-- what a turn has sent or taken, of so many members
abbrev pub posts_by : ℕ → Tally → Turn → List Post
posts_by n t (Fed e) = []
posts_by n t (Began p e x) = told_others (wave_body t.begun) n
posts_by n t (Took from body c) = Received from body ∷ []
posts_by n t Anew = []
posts_by n t Closed = []

-- all words of turns
abbrev pub said : ℕ → List Turn → List Post
said n [] = []
said n (x ∷ earlier) = said n earlier ++ posts_by n (tally_of n earlier) x

-- these numbers are those of so many posts, whose words are these
pub record IsCountedAt (tr before : List Post) (p : ℕ) (x : Counted) : Type 0 where
  pub within : p ≤ length tr
  pub words : words (take p tr) ≡ before
  pub sent : x.sent ≡ length (frames_sent 0 (take p tr))
  pub taken : x.taken ≡ length (frames_got 0 (take p tr))

-- so are the numbers of each wave, before its first word was sent
abbrev pub AreCounted : ℕ → List Post → List Turn → Type 0
AreCounted n tr [] = Unit {0}
AreCounted n tr (Fed e ∷ earlier) = AreCounted n tr earlier
AreCounted n tr (Began p e x ∷ earlier) = IsCountedAt tr (said n earlier) p x × AreCounted n tr earlier
AreCounted n tr (Took from body c ∷ earlier) = AreCounted n tr earlier
AreCounted n tr (Anew ∷ earlier) = AreCounted n tr earlier
AreCounted n tr (Closed ∷ earlier) = AreCounted n tr earlier

-- the words on a link are those of turns
pub record IsTold (n : ℕ) (turns : List Turn) (tr : List Post) : Type 0 where
  pub words : words tr ≡ said n turns
  pub counted : AreCounted n tr turns

-- turns of a console, by its journal, and by its link where that tells
pub record IsAsked (r : Rules) (settles : Bool) (es : List Entry) (trace : Option (List Post)) (turns : List Turn) : Type 0 where
  pub course : IsCourse r settles es turns
  pub told : (tr : List Post) → trace ≡ Some tr → IsTold r.localities turns tr

-- ---- between calls

-- where the last wave began behind the last entry, nothing is to be done
abbrev pub IsStillBehind : List Turn → ℕ → Type 0 → Type 0
IsStillBehind [] n idle = Unit {0}
IsStillBehind (Fed e ∷ earlier) n idle = Unit {0}
IsStillBehind (Began p e x ∷ earlier) n idle = n ≤ e → idle
IsStillBehind (Took from body c ∷ earlier) n idle = IsStillBehind earlier n idle
IsStillBehind (Anew ∷ earlier) n idle = IsStillBehind earlier n idle
IsStillBehind (Closed ∷ earlier) n idle = IsStillBehind earlier n idle

-- a console had such turns, its lines are so far, and its waves stand so: they are not spent
pub record Asks (r : Rules) (settles : Bool) (phase : Phase) (idle : Type 0) (es : List Entry) (trace : Option (List Post)) (t : Tally) : Type 0 where
  pub turns : List Turn
  pub asked : IsAsked r settles es trace turns
  pub still : IsStillBehind turns (length es) idle
  pub far : phase ≡ phase_of turns
  pub is : t ≡ tally_of r.localities turns
  pub unspent : IsSpent t → ⊥

-- ---- where it ends

-- what came behind the last turn: nothing; a wave or the end that was told to members 1 to so many; a word that is not taken; or nothing may come, since
-- the waves are spent
pub data Last : Type 0 where
  Nothing : Last
  Asking : (wave some : ℕ) → Last
  Ending : (some : ℕ) → Last
  Refused : (from : ℕ) (body : List ℕ) → Last
  Spent : Last

abbrev pub posts_in : Last → List Post
posts_in Nothing = []
posts_in (Asking wave some) = told_all (wave_body wave) some
posts_in (Ending some) = told_all end_body some
posts_in (Refused from body) = Received from body ∷ []
posts_in Spent = []

-- no wave waits for this word: it is no frame, and tells no numbers, or those of another wave, or of a member whose answer is not missing
pub record IsUnasked (t : Tally) (from : ℕ) (body : List ℕ) : Type 0 where
  pub control : is_frame body ≡ false
  pub unasked : (c : Told) → counts_of body ≡ Some c → MayCount t from c.wave → ⊥

-- a member's answer to the wave that waits was counted
pub record TakesCounts (from : ℕ) (body : List ℕ) (t t' : Tally) : Type 0 where
  pub told : Told
  pub counts : counts_of body ≡ Some told
  pub may : MayCount t from told.wave
  pub is : t' ≡ counted from (record { sent = told.sent; taken = told.taken }) t

-- it comes behind these turns: a wave only where one is due; the end only where the lines are over, and the round that began then has ended; and nothing
-- but this where the waves are spent
abbrev pub Closes : ℕ → Bool → List Turn → Last → Type 0
Closes n settles turns Nothing = IsSpent (tally_of n turns) → ⊥
Closes n settles turns (Asking wave some) = IsDue settles (phase_of turns) × (wave ≡ (tally_of n turns).begun) × (some < n) × (wave < 4294967295)
Closes n settles turns (Ending some) = (phase_of turns ≡ LinesOver) × (verdict_of (tally_of n turns) ≡ Ended) × (some < n)
Closes n settles turns (Refused from body) = IsUnasked (tally_of n turns) from body × (IsSpent (tally_of n turns) → ⊥)
Closes n settles turns Spent = IsSpent (tally_of n turns)

-- turns of a console, and what came behind them
pub record AsksBut (r : Rules) (settles : Bool) (es : List Entry) (trace : Option (List Post)) (last : Last) : Type 0 where
  pub earlier : Option (List Post)
  pub is : trace ≡ followed earlier (posts_in last)
  pub turns : List Turn
  pub asked : IsAsked r settles es earlier turns
  pub closes : Closes r.localities settles turns last
