-- What is under way for the moves of one object, counted at each of n localities and on the road, by where it moves to.
use Rattle.std.specs.Prelude.{ℕ, Bool, false, cond, ◌≡◌, ◌≢◌, ◌+◌, ◌<◌, ◌==◌}
use Rattle.hpx_value.specs.Ids.{same_object}
use Rattle.hpx_journal.specs.Bags.{total}
use Rattle.hpx_journal.specs.Data.{Id}
use Rattle.hpx_journal.specs.Entries.{Event, Born, Left, Landed}

-- counts of one object, by the target t of a move and by locality k; a message is counted where it is, until it is dealt with
pub record MoveCounts : Type 0 where
  pub moving : ℕ → ℕ  -- its home has it move to t
  pub settled : ℕ → ℕ  -- its home says that it is at k, and does not move
  pub stands : ℕ → ℕ  -- it stands at k
  pub freed : ℕ → ℕ  -- it was freed at k
  pub sent : ℕ → ℕ → ℕ  -- Gos to t that its home made for k
  pub go_kept : ℕ → ℕ → ℕ  -- those in its home's lists
  pub go_out : ℕ → ℕ → ℕ  -- those that went to k
  pub go_road : ℕ → ℕ → ℕ  -- those on the road
  pub go_in : ℕ → ℕ → ℕ  -- those that came to k
  pub leaving : ℕ → ℕ → ℕ  -- those that k took up, while the object does not leave yet
  pub left : ℕ → ℕ → ℕ  -- how often it left k for t
  pub ship_kept : ℕ → ℕ → ℕ  -- how often it is in k's lists, for t
  pub ship_out : ℕ → ℕ → ℕ  -- how often it went from k
  pub ship_road : ℕ → ℕ  -- how often it is on the road to t
  pub ship_in : ℕ → ℕ  -- how often it came to t
  pub landed : ℕ → ℕ  -- how often it landed at t
  pub came : ℕ → ℕ  -- MOVEs with which it came to t and that are not done
  pub tell_kept : ℕ → ℕ  -- Landeds in t's lists
  pub tell_out : ℕ → ℕ  -- those that went home
  pub tell_road : ℕ → ℕ  -- those on the road
  pub tell_in : ℕ → ℕ  -- those that came home
  pub told : ℕ → ℕ  -- how often its home took up that it landed at t, from a frame or from its own desk

-- 1 at the home
abbrev pub at_home : ℕ → ℕ → ℕ
at_home h k = cond (k == h) 1 0

-- what each of n localities counts, h being the home
pub record IsCounted (n h : ℕ) (m : MoveCounts) : Type 0 where
  -- the home made each Go for another locality, where it went or will go; what it made for itself shows in no frame
  pub sent : (t k : ℕ) → t < n → k < n → k ≢ h → m.sent t k ≡ m.go_kept t k + m.go_out t k
  pub sent_own : (t : ℕ) → t < n → m.sent t h ≡ m.go_kept t h + m.leaving t h + m.left t h
  -- each Go that it made is under way or was answered by a Landed of its target, and takes the object from where it was
  pub begun : (t : ℕ) → t < n → m.moving t + m.told t ≡ total n (λ k. m.sent t k)
  pub placed : (k : ℕ) → k < n → m.settled k + total n (λ t. m.sent t k) ≡ at_home h k + m.told k
  -- it takes up each Landed that comes, and its own
  pub heard : (t : ℕ) → t < n → t ≢ h → m.told t ≡ m.tell_in t
  pub heard_own : m.told h + m.came h + m.tell_kept h ≡ m.landed h
  -- elsewhere the object of each Go that came is leaving or has left
  pub taken : (t k : ℕ) → t < n → k < n → k ≢ h → m.go_in t k ≡ m.leaving t k + m.left t k
  -- each object that left is kept for its way or went, and each that came landed
  pub shipped : (t k : ℕ) → t < n → k < n → m.left t k ≡ m.ship_kept t k + m.ship_out t k
  pub arrived : (t : ℕ) → t < n → m.ship_in t ≡ m.landed t
  -- each landing is told once its MOVE is done
  pub tells : (t : ℕ) → t < n → t ≢ h → m.landed t ≡ m.came t + m.tell_kept t + m.tell_out t
  -- an object stands where it was born or landed, until it leaves or is freed
  pub place : (k : ℕ) → k < n → m.stands k + m.freed k + total n (λ t. m.left t k) ≡ at_home h k + m.landed k

-- what is on the road went and has not come; nothing goes from the home to itself
pub record IsOnTheRoad (n h : ℕ) (m : MoveCounts) : Type 0 where
  pub gos : (t k : ℕ) → t < n → k < n → m.go_out t k ≡ m.go_in t k + m.go_road t k
  pub own_gos : (t : ℕ) → t < n → m.go_road t h ≡ 0
  pub ships : (t : ℕ) → t < n → total n (λ k. m.ship_out t k) ≡ m.ship_in t + m.ship_road t
  pub tells : (t : ℕ) → t < n → m.tell_out t ≡ m.tell_in t + m.tell_road t
  pub own_tells : m.tell_road h ≡ 0

-- Gos to t that are under way for k, or that k has taken up
abbrev pub going : MoveCounts → ℕ → ℕ → ℕ
going m t k = m.go_kept t k + m.go_road t k + m.leaving t k

-- landings at t that the home has not taken up
abbrev pub untold : MoveCounts → ℕ → ℕ
untold m t = m.came t + m.tell_kept t + m.tell_road t

-- the home has the object move to t exactly where one thing is under way for that: a Go, the object itself, or what tells
-- of its landing; and the object stands where the home says, or where something of its move is still under way
pub record IsTracked (n : ℕ) (m : MoveCounts) : Type 0 where
  pub moving : (t : ℕ) → t < n
      → m.moving t ≡ total n (λ k. going m t k) + total n (λ k. m.ship_kept t k) + m.ship_road t + untold m t
  pub stands : (k : ℕ) → k < n → m.stands k + m.freed k ≡ m.settled k + total n (λ t. going m t k) + untold m k

-- ---- the same in a journal

-- the event with which an object is born
abbrev pub is_born_of : Id → Event → Bool
is_born_of o (Born x state) = same_object o x
is_born_of o _ = false

-- the event with which it leaves
abbrev pub is_left_of : Id → Event → Bool
is_left_of o (Left x to) = same_object o x
is_left_of o _ = false

-- the event with which it lands
abbrev pub is_landed_of : Id → Event → Bool
is_landed_of o (Landed x) = same_object o x
is_landed_of o _ = false
