-- The waves of one round as they are counted.
use Rattle.std.specs.Prelude.{replicate, ℕ, suc, Bool, true, false, cond, List, ◌≡◌, ◌==◌, ◌-◌, ◌<◌, Option, Some, None, length, set}
use Rattle.std.specs.List.{list_any, sum_by, slice_get}
use Rattle.hpx_journal.specs.Entries.{Rules}
use Rattle.hpx_journal.specs.declared.entry.Entry.{Entry}
use Rattle.hpx_ended.specs.Waves.{Answers, sent_at, taken_at, taken_in}
use Rattle.hpx_ended.specs.declared.round.Counted.{Counted}
use Rattle.hpx_ended.specs.declared.round.Verdict.{Verdict}
use Rattle.hpx_ended.specs.declared.round.Verdict.TheVariants.{Unfinished, Again, Ended}

-- how many waves were begun; how many frames had been accepted at the last wave but one, if there is one; and the answers to
-- the last wave, by member. Before the first wave all members stand as if they had answered.
pub record Tally : Type 0 where
  pub begun : ℕ
  pub earlier : Option ℕ
  pub answers : List (Option Counted)

-- no answer has come
abbrev pub is_missing : Option Counted → Bool
is_missing None = true
is_missing (Some x) = false

-- what an answer says was sent
abbrev pub sent_of : Option Counted → ℕ
sent_of None = 0
sent_of (Some x) = x.sent

-- what an answer says was accepted
abbrev pub taken_of : Option Counted → ℕ
taken_of None = 0
taken_of (Some x) = x.taken

-- an answer is missing
abbrev pub waits : Tally → Bool
waits t = list_any is_missing t.answers

-- the wave that waits for answers
abbrev pub current : Tally → Option ℕ
current t = cond (waits t) (Some (t.begun - 1)) None

-- no wave was begun, and all members stand as if they had sent nothing
abbrev pub fresh : ℕ → Tally
fresh n = record { begun = 0; earlier = None; answers = replicate n (Some (record { sent = 0; taken = 0 })) }

-- a wave begins with the numbers of member 0
abbrev pub opened : Counted → Tally → Tally
opened x t = record {
  begun = suc t.begun;
  earlier = cond (t.begun == 0) None (Some (sum_by taken_of t.answers));
  answers = set (replicate (length t.answers) None) 0 (Some x);
}

-- a member may answer this wave: it is the one that waits, and the member's answer is missing
pub record MayCount (t : Tally) (node wave : ℕ) : Type 0 where
  pub open_wave : current t ≡ Some wave
  pub missing : slice_get t.answers node ≡ Some None

-- it has answered
abbrev pub counted : ℕ → Counted → Tally → Tally
counted node x t = record t { answers = set t.answers node (Some x) }

-- a number was found, and it is this one
abbrev pub is_found : ℕ → Option ℕ → Bool
is_found n None = false
is_found n (Some m) = n == m

-- as many frames were accepted at the last wave but one as were sent at the last
abbrev pub verdict_of : Tally → Verdict
verdict_of t = cond (waits t) Unfinished (cond (is_found (sum_by sent_of t.answers) t.earlier) Ended Again)

-- the last wave that has a number has shown that the round goes on, and there are other members: none is left
pub record IsSpent (t : Tally) : Type 0 where
  pub others : 1 < length t.answers
  pub last : t.begun ≡ 4294967295
  pub again : verdict_of t ≡ Again

-- the answers to the last wave are the members' numbers at wave w, and what was accepted at the one before is known
pub record Tells (r : Rules) (es : List Entry) (v : Answers) (w : ℕ) (t : Tally) : Type 0 where
  pub members : length t.answers ≡ r.localities
  pub answers : (k : ℕ) → k < r.localities → slice_get t.answers k ≡ Some (Some (record { sent = sent_at r es v (suc w) k; taken = taken_at r es v (suc w) k }))
  pub before : t.earlier ≡ Some (taken_in r es v w)
