-- What an entry does to the messages that are not done.
use Rattle.std.proofs.Common.{ℕ, true, false, List, [], ◌∷◌, ◌++◌, ◌≡◌, ◌≢◌, ◌+◌, Option, Some, None, refl, ap, ◌∙◌, arith, map, append-nil}
use Rattle.std.specs.List.{find, sum_by, AllByRecursion}
use Rattle.hpx_value.specs.declared.outcome.Sending.{Sending}
use Rattle.hpx_value.specs.declared.outcome.Reply.{Reply}
use Rattle.std.proofs.lemmas.List.Sums.{sum_by-cons, sum_by-append}
use Rattle.hpx_value.specs.Values.{bare_act, message_of, named}
use Rattle.hpx_value.specs.Hands.{sent, replied}
use Rattle.hpx_value.specs.Riders.{plain_message, rode, due_with}
use Rattle.hpx_value.proofs.Riders.{plain_sent, plain_rode}
use Rattle.hpx_journal.specs.Bags.{minus}
use Rattle.hpx_journal.specs.Data.{Id, State, Act, Message, Outcome, Parcel, Apply, Move, Go, Shipped, Due, MessageDue, PrintDue}
use Rattle.hpx_journal.specs.Entries.{Event, Line, Fire, Done, Sent, Print, Out, In, Rules, name_of, line_message, line_act}
use Rattle.hpx_journal.specs.Frames.{acts_in}
use Rattle.hpx_journal.specs.Local.{Local, after, is_act, due_left}
use Rattle.hpx_journal.specs.Rows.{Row, TurnAllows, AreWaiting}
use Rattle.hpx_journal.specs.Pool.{act_mass, due_mass, mass_at, sent_by, prints_due}
use Rattle.hpx_journal.proofs.Bags.{sum_by-without-find}

abbrev pub DoesNotFail : Event → Type 0
DoesNotFail (Done a true) = ⊥
DoesNotFail _ = Unit {0}

-- ---- what is due, in two: messages without their riders, and prints

abbrev pub messages : List Due → List Message
messages [] = []
messages (MessageDue m ∷ rest) = plain_message m ∷ messages rest
messages (PrintDue bytes ∷ rest) = messages rest

module _ {X : Type 0} (g : X → Message) where
  messages-sent : (h : X → Message) (xs : List X) (rest : List Due) → AllByRecursion (λ x. plain_message (g x) ≡ h x) xs
      → messages (map (λ x. MessageDue (g x)) xs ++ rest) ≡ map h xs ++ messages rest
  messages-sent h [] rest same = refl
  messages-sent h (x ∷ xs) rest same =
      ap (λ m. m ∷ messages (map (λ y. MessageDue (g y)) xs ++ rest)) same.0 ∙ ap (λ ms. h x ∷ ms) (messages-sent h xs rest same.1)

  prints-sent : (xs : List X) (rest : List Due) → prints_due (map (λ x. MessageDue (g x)) xs ++ rest) ≡ prints_due rest
  prints-sent [] rest = refl
  prints-sent (x ∷ xs) rest = prints-sent xs rest

messages-prints : (ps : List (List ℕ)) → messages (map PrintDue ps) ≡ []
messages-prints [] = refl
messages-prints (p ∷ ps) = messages-prints ps

prints-prints : (ps : List (List ℕ)) → prints_due (map PrintDue ps) ≡ ps
prints-prints [] = refl
prints-prints (p ∷ ps) = ap (λ qs. p ∷ qs) (prints-prints ps)

module _ (s : State) (a : Act) (made : List Id) (out : Outcome) where
  plain_sends : (xs : List Sending) → AllByRecursion (λ x. (x.code ≢ 3) × (x.code ≢ 4)) xs
      → AllByRecursion (λ x. plain_message (sent s a made x) ≡ sent s a made x) xs
  plain_sends [] h = tt
  plain_sends (x ∷ xs) h = (plain_sent s a made x h.0.0, plain_sends xs h.1)

  plain_replies : (xs : List Reply) → AllByRecursion (λ x. plain_message (rode s a made out x) ≡ replied s a made x) xs
  plain_replies [] = tt
  plain_replies (x ∷ xs) = (plain_rode s a made out x, plain_replies xs)

  pub messages-due : AllByRecursion (λ x. (x.code ≢ 3) × (x.code ≢ 4)) out.sends → messages (due_with s a made out) ≡ sent_by (message_of a) s made out
  messages-due codes =
      messages-sent (sent s a made) (sent s a made) out.sends (map (λ x. MessageDue (rode s a made out x)) out.replies ++ map PrintDue out.prints)
      (plain_sends out.sends codes)
      ∙ ap (λ ms. map (sent s a made) out.sends ++ ms)
      (messages-sent (rode s a made out) (replied s a made) out.replies (map PrintDue out.prints) (plain_replies out.replies)
      ∙ (ap (λ ms. map (replied s a made) out.replies ++ ms) (messages-prints out.prints) ∙ append-nil (map (replied s a made) out.replies)))

  pub prints-due : prints_due (due_with s a made out) ≡ out.prints
  prints-due =
      prints-sent (sent s a made) out.sends (map (λ x. MessageDue (rode s a made out x)) out.replies ++ map PrintDue out.prints)
      ∙ (prints-sent (rode s a made out) out.replies (map PrintDue out.prints) ∙ prints-prints out.prints)

-- ---- the messages that an entry brings, and that it takes, in the pool

abbrev pub brings : Rules → Local → Event → List Message
brings r s (Line a bytes) = line_message bytes ∷ []
brings r s (Done a failed) = messages (due_left r s failed (find (is_act a) s.fired))
brings r s _ = []

abbrev pub done_message : Option Act → List Message
done_message None = []
done_message (Some act) = plain_message (message_of act) ∷ []

abbrev pub ends : Local → Event → List Message
ends s (Done a failed) = done_message (find (is_act a) s.fired)
ends s _ = []

-- the actions that an entry puts on the road, and takes from it
abbrev pub departs : Rules → Event → List Act
departs r (Out to bytes) = acts_in (r.parcel_of bytes)
departs r _ = []

abbrev pub lands : Rules → Event → List Act
lands r (In bytes) = acts_in (r.parcel_of bytes)
lands r _ = []

pub due_messages : (f : Message → ℕ) (due : List Due) → sum_by (due_mass f) due ≡ sum_by f (messages due)
due_messages f [] = refl
due_messages f (MessageDue m ∷ rest) =
    omega (arith, sum_by-cons (due_mass f) (MessageDue m) rest, sum_by-cons f (plain_message m) (messages rest), due_messages f rest)
due_messages f (PrintDue b ∷ rest) = omega (arith, sum_by-cons (due_mass f) (PrintDue b) rest, due_messages f rest)

-- one action that waits
one_mass : (s : Local) (act : Act) → AreWaiting s (act ∷ []) → (f : Message → ℕ)
    → sum_by (act_mass f) (minus is_act s.waiting (map name_of (act ∷ []))) + sum_by (act_mass f) (act ∷ []) ≡ sum_by (act_mass f) s.waiting
one_mass s act h f =
    omega (arith, sum_by-cons (act_mass f) act [], sum_by-without-find (act_mass f) (is_act (name_of act)) s.waiting act h.0)

none_mass : (s : Local) (f : Message → ℕ) → sum_by (act_mass f) s.waiting + 0 ≡ sum_by (act_mass f) s.waiting
none_mass s f = omega arith

pub out_mass : (s : Local) (p : Parcel) → AreWaiting s (acts_in (Some p)) → (f : Message → ℕ)
    → sum_by (act_mass f) (minus is_act s.waiting (map name_of (acts_in (Some p)))) + sum_by (act_mass f) (acts_in (Some p))
    ≡ sum_by (act_mass f) s.waiting
out_mass s (Apply act) h f = one_mass s (bare_act act) h f
out_mass s (Move act) h f = one_mass s (bare_act act) h f
out_mass s (Go act) h f = one_mass s (bare_act act) h f
out_mass s (Shipped act state) h f = one_mass s (bare_act act) h f
out_mass s _ h f = none_mass s f

done_mass : (f : Message → ℕ) (fired : Option Act) (act : Act) → fired ≡ Some act → sum_by f (done_message fired) ≡ f (plain_message (message_of act))
done_mass f fired act h = rw h (omega (arith, sum_by-cons f (plain_message (message_of act)) []))

pub mass_moves : (r : Rules) (s : Local) (e : Event) → Row r s e → TurnAllows s e → DoesNotFail e → (f : Message → ℕ)
    → mass_at f (after r s e) + sum_by f (ends s e) + sum_by (act_mass f) (departs r e)
    ≡ mass_at f s + sum_by f (brings r s e) + sum_by (act_mass f) (lands r e)
unfolding after
mass_moves r s (Line a bytes) row turn well f =
    omega (arith, sum_by-cons (act_mass f) (line_act a bytes) s.waiting, sum_by-cons f (line_message bytes) [])
mass_moves r s (Fire a) row turn well f =
    rw (row.2) (omega (
      arith,
      sum_by-cons (act_mass f) row.0 s.fired,
      sum_by-without-find (act_mass f) (is_act a) s.waiting row.0 row.2,
    ))
mass_moves r s (Done a true) row turn well f = absurd well
mass_moves r s (Done a false) row turn well f =
    let z : sum_by (due_mass f) s.due ≡ 0 = ap (sum_by (due_mass f)) turn in
    omega (
      arith,
      due_messages f (due_left r s false (find (is_act a) s.fired)),
      sum_by-without-find (act_mass f) (is_act a) s.fired row.0.act row.0.fired,
      done_mass f (find (is_act a) s.fired) row.0.act row.0.fired,
    )
mass_moves r s (Sent a) row turn well f =
    rw (row.2) (omega (
      arith,
      sum_by-cons (act_mass f) (named a.origin a.serial row.0) s.waiting,
      sum_by-cons (due_mass f) (MessageDue row.0) row.1,
    ))
mass_moves r s (Print bytes) row turn well f =
    rw (row.1) (omega (arith, sum_by-cons (due_mass f) (PrintDue bytes) row.0))
mass_moves r s (Out to bytes) row turn well f =
    let spelled = row.2 in rw (spelled.1) (omega (arith, out_mass s spelled.0 spelled.2 f))
mass_moves r s (In bytes) row turn well f = omega (arith, sum_by-append (act_mass f) (acts_in (r.parcel_of bytes)) s.waiting)
mass_moves r s _ row turn well f = refl
