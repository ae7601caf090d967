-- A refusal changes nothing, so its cause is in the tables still.
use Rattle.std.proofs.Common.{ℕ, List, Option, ◌≡◌, sym, subst}
use Rattle.hpx_value.specs.declared.acts.Job.{Job}
use Rattle.hpx_journal.specs.Data.{Id}
use Rattle.hpx_journal.specs.Entries.{Frame}
use Rattle.hpx_tables.specs.Tables.{Tables}
use Rattle.hpx_world.specs.Turns.{IsStrangeFrame, HoldsStrangeFrame, HoldsRightFrame, IsStrangeMail, HasToTend, HasToFire, HasToSend, HasJob}

pub strange_frame_same : (xs ys : List Tables) (to : ℕ) (bytes : List ℕ) (rule : ℕ) (object : Id) (kept : ℕ)
    → ys ≡ xs → IsStrangeFrame xs to bytes rule object kept → IsStrangeFrame ys to bytes rule object kept
strange_frame_same xs ys to bytes rule object kept e h = subst (λ ns. IsStrangeFrame ns to bytes rule object kept) (sym e) h

pub strange_held_same : (xs ys : List Tables) (hand : Option Frame) (to rule : ℕ) (object : Id) (kept : ℕ)
    → ys ≡ xs → HoldsStrangeFrame xs hand to rule object kept → HoldsStrangeFrame ys hand to rule object kept
strange_held_same xs ys hand to rule object kept e h = subst (λ ns. HoldsStrangeFrame ns hand to rule object kept) (sym e) h

pub right_held_same : (xs ys : List Tables) (hand : Option Frame) (flight : Option (List Frame)) → ys ≡ xs
    → HoldsRightFrame xs hand flight → HoldsRightFrame ys hand flight
right_held_same xs ys hand flight e h = subst (λ ns. HoldsRightFrame ns hand flight) (sym e) h

pub strange_mail_same : (xs ys : List Tables) (k rule : ℕ) (object : Id) (kept : ℕ)
    → ys ≡ xs → IsStrangeMail xs k rule object kept → IsStrangeMail ys k rule object kept
strange_mail_same xs ys k rule object kept e h = subst (λ ns. IsStrangeMail ns k rule object kept) (sym e) h

pub to_tend_same : (xs ys : List Tables) (k : ℕ) → ys ≡ xs → HasToTend xs k → HasToTend ys k
to_tend_same xs ys k e h = subst (λ ns. HasToTend ns k) (sym e) h

pub to_fire_same : (xs ys : List Tables) (k : ℕ) → ys ≡ xs → HasToFire xs k → HasToFire ys k
to_fire_same xs ys k e h = subst (λ ns. HasToFire ns k) (sym e) h

pub job_same : (xs ys : List Tables) (n : ℕ) (job : Job) → ys ≡ xs → HasJob xs n job → HasJob ys n job
job_same xs ys n job e h = subst (λ ns. HasJob ns n job) (sym e) h

pub to_send_same : (xs ys : List Tables) (k : ℕ) → ys ≡ xs → HasToSend xs k → HasToSend ys k
to_send_same xs ys k e h = subst (λ ns. HasToSend ns k) (sym e) h
