-- Where messages go. Each field is given for itself, so that those that stay are seen to stay.
use Rattle.std.specs.Prelude.{ℕ, Bool, not, nat_lt, cond, [], ◌∷◌, ◌++◌, ◌+◌, ◌==◌, ◌&&◌, Option, Some, None}
use Rattle.hpx_journal.specs.Data.{Id, Parcel, Return}
use Rattle.hpx_tables.specs.declared.kept.Outgoing.{Outgoing}
use Rattle.hpx_tables.specs.Tables.{Tables}
use Rattle.hpx_part.specs.Data.{Event}
use Rattle.hpx_steps.specs.Turn.{Turn}
use Rattle.hpx_steps.specs.Items.{Item, OnDesk, Going}

-- there is another locality of this number
abbrev pub is_other : Tables → ℕ → Bool
is_other t to = nat_lt to t.localities && not (to == t.here)

abbrev pub going : ℕ → Parcel → Outgoing
going to p = record { to = to; parcel = p }

-- one more message, if b: on its way to another locality that there is, else on the own desk
abbrev pub with_mail_if : Bool → ℕ → Parcel → Tables → Tables
with_mail_if b to p t = record t {
  desk = t.desk ++ cond b (cond (is_other t to) [] (p ∷ [])) [];
  outgoing = t.outgoing ++ cond b (cond (is_other t to) (going to p ∷ []) []) [];
}

abbrev pub with_mail : ℕ → Parcel → Tables → Tables
with_mail to p t = record t {
  desk = t.desk ++ cond (is_other t to) [] (p ∷ []);
  outgoing = t.outgoing ++ cond (is_other t to) (going to p ∷ []) [];
}

-- an id is given up: if it has a credit, it goes home
abbrev pub with_return : Id → Option ℕ → Tables → Tables
with_return id None t = t
with_return id (Some log) t = with_mail id.home (Return id) t

-- ---- the same in a turn

-- what is new then
abbrev pub sent_as : Bool → ℕ → Parcel → Item
sent_as other to p = cond other (Going (going to p)) (OnDesk p)

abbrev pub mails : ℕ → Parcel → Turn → Turn
mails to p s = record s { tables = with_mail to p s.tables }

abbrev pub mails_if : Bool → ℕ → Parcel → Turn → Turn
mails_if b to p s = record s { tables = with_mail_if b to p s.tables }

-- the next number for an action is drawn
abbrev pub draws : Turn → Turn
draws s = record s { tables = record s.tables { serial = s.tables.serial + 1 } }

-- this entry is the last
abbrev pub wrote : Event → Turn → Turn
wrote e s = record s { last = Some e }
