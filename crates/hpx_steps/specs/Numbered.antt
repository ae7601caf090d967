-- Own Asks that are on their way.
use Rattle.std.specs.Prelude.{ℕ, ◌≡◌, ◌≤◌, ◌<◌, ◌==◌}
use Rattle.hpx_journal.specs.Data.{Parcel, Ask}
use Rattle.hpx_steps.specs.Items.{Item, Mailed, OnDesk, Going, weigh}
use Rattle.hpx_steps.specs.Rows.{one_if}
use Rattle.hpx_steps.specs.Turn.{Turn}

-- 1 for an Ask under this number
abbrev pub asks_as : ℕ → Parcel → ℕ
asks_as n (Ask id asker entry) = one_if (entry == n)
asks_as n _ = 0

-- 1 for an own one, in hand or on its way
abbrev pub asks_under : ℕ → Item → ℕ
asks_under n (Mailed p) = asks_as n p
asks_under n (OnDesk p) = asks_as n p
asks_under n (Going x) = asks_as n x.parcel
asks_under n _ = 0

-- no two own Asks have one number, and each has one that was drawn
abbrev pub AreNumbered : Turn → Type 0
AreNumbered s = (n : ℕ) → (weigh (asks_under n) s ≤ 1) × (s.tables.asked < n → weigh (asks_under n) s ≡ 0)
