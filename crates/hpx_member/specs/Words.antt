-- The words of control that a worker heard, and the waves that it answered.
use Rattle.std.specs.Int.{from_be_bytes, w32}
use Rattle.std.specs.Prelude.{drop, ℕ, true, false, cond, List, [], ◌∷◌, ◌++◌, ◌≡◌, ◌≢◌, ◌≤◌, Option, Some, None, option_map, length}
use Rattle.std.specs.Option.{option_to_list}
use Rattle.std.specs.List.{flat_map, AllByRecursion}
use Rattle.hpx_ports.specs.Told.{followed}
use Rattle.hpx_ports.specs.declared.link.Post.{Post}
use Rattle.hpx_ports.specs.declared.link.Post.TheVariants.{Sent, Received}
use Rattle.hpx_member.specs.Bodies.{end_body, is_frame, is_wave, told_by}
use Rattle.hpx_member.specs.declared.stop.MemberFault.TheVariants.{BadFrame, Strange, OutOfPlace, Waves}
use Rattle.hpx_member.specs.declared.stop.Stop.{Stop}
use Rattle.hpx_member.specs.declared.stop.Stop.TheVariants.{Link, JournalFull, OutOfMemory, Fault}

-- the number of the wave that a body begins
abbrev pub wave_of : List ℕ → Option ℕ
wave_of body = cond (is_wave body) (Some (from_be_bytes w32 (drop 1 body))) None

-- the waves that were heard of
abbrev pub wave_got : Post → List ℕ
wave_got (Sent to body) = []
wave_got (Received from body) = option_to_list (wave_of body)

abbrev pub waves_got : List Post → List ℕ
waves_got tr = flat_map wave_got tr

-- the waves that were answered
abbrev pub wave_told : Post → List ℕ
wave_told x = option_to_list (option_map (λ c. c.wave) (told_by x))

abbrev pub waves_told : List Post → List ℕ
waves_told tr = flat_map wave_told tr

-- a body that comes to a worker that goes on: a frame, or a wave of the console
abbrev pub IsInPlace : Post → Type 0
IsInPlace (Sent to body) = Unit {0}
IsInPlace (Received from body) = is_frame body ≡ false → (from ≡ 0) × (is_wave body ≡ true)

-- where the link tells: no word came but waves of the console, and they were answered in order, but for these
pub record IsHeeded (waiting : List ℕ) (trace : Option (List Post)) : Type 0 where
  pub words : (tr : List Post) → trace ≡ Some tr → AllByRecursion IsInPlace tr
  pub waves : (tr : List Post) → trace ≡ Some tr → waves_got tr ≡ waves_told tr ++ waiting

-- so it is before these
pub record HeedsBut (last : List Post) (trace : Option (List Post)) : Type 0 where
  pub earlier : Option (List Post)
  pub is : trace ≡ followed earlier last
  pub waiting : List ℕ
  pub heeded : IsHeeded waiting earlier

-- where it stops, a word out of place may be the last that came
abbrev pub StopsHeeding : Stop → Option (List Post) → Type 0
StopsHeeding Link trace = HeedsBut [] trace
StopsHeeding JournalFull trace = HeedsBut [] trace
StopsHeeding OutOfMemory trace = HeedsBut [] trace
StopsHeeding (Fault (BadFrame from at why)) trace = HeedsBut [] trace
StopsHeeding (Fault (Strange from rule object kept)) trace = HeedsBut [] trace
StopsHeeding (Fault (OutOfPlace from)) trace = (body : List ℕ) × HeedsBut (Received from body ∷ []) trace
StopsHeeding (Fault Waves) trace = ⊥

-- what a link tells of a worker that ended with this status: no word came but waves of the console, which it answered in order, each once; the
-- word that ended it, if one did, came last: it is End at status 0, and there is another only at status 8
pub record Heeds (status : ℕ) (tr : List Post) : Type 0 where
  pub before : List Post
  pub last : List Post
  pub is : tr ≡ before ++ last
  pub few : length last ≤ 1
  pub words : AllByRecursion IsInPlace before
  pub waiting : List ℕ
  pub waves : waves_got before ≡ waves_told before ++ waiting
  pub end : status ≡ 0 → last ≡ Received 0 end_body ∷ []
  pub none : status ≢ 0 → status ≢ 8 → last ≡ []
