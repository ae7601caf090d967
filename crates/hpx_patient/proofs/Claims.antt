-- How the claims on the session move with an entry.
use Rattle.std.proofs.Common.{ℕ, Bool, true, false, cond, List, [], ◌∷◌, ◌++◌, ◌≡◌, ◌+◌, ◌≤◌, Option, Some, refl, sym, ap, ◌∙◌, arith, inl, inr, map}
use Rattle.std.specs.Prelude.{◌==◌, ◌&&◌, codes}
use Rattle.std.specs.List.{find, sum_by, count_by, AllByRecursion}
use Rattle.std.specs.Option.{option_to_list}
use Rattle.std.proofs.lemmas.List.Sums.{sum_by-cons, sum_by-append}
use Rattle.std.proofs.lemmas.Bool.{cases_Bool}
use Rattle.hpx_value.specs.Ids.{same_object}
use Rattle.hpx_value.specs.Values.{message_of, named, refs_in}
use Rattle.hpx_value.specs.Shapes.{IsAct}
use Rattle.hpx_value.specs.Laws.{KeepsLaws, IsManaged}
use Rattle.hpx_value.specs.Hands.{Slot, session, id_at, own_slot, answer}
use Rattle.hpx_value.specs.Riders.{plain, plain_message, due_with}
use Rattle.hpx_value.proofs.Riders.{plain_own, plain_code, plain_target}
use Rattle.hpx_journal.specs.Bags.{without}
use Rattle.hpx_journal.specs.Data.{Id, State, Act, Fault, Make, Message, MessageDue, PrintDue}
use Rattle.hpx_journal.specs.Entries.{Rules, Frame, target_of, line_message}
use Rattle.hpx_journal.specs.Frames.{travels_in}
use Rattle.hpx_journal.specs.Local.{after, is_act, is_standing, is_travel, due_left, failure, outcome, stood, leaving}
use Rattle.hpx_journal.specs.Rows.{Row, Runs, AreMade, TurnAllows}
use Rattle.hpx_journal.specs.Whole.{sends, arrives_at}
use Rattle.hpx_journal.specs.Pool.{act_mass, due_mass, mass_at, sent_by}
use Rattle.hpx_journal.proofs.Bags.{sum_by-without-find, find-passes, find-without, find-same}
use Rattle.hpx_journal.proofs.Bools.{false_from}
use Rattle.hpx_journal.proofs.Done.{found_again, new_standing, done_settles}
use Rattle.hpx_journal.proofs.Formed.{IsConsole, made_length}
use Rattle.hpx_journal.proofs.Keys.{one_if}
use Rattle.hpx_journal.proofs.Mass.{messages, brings, ends, departs, lands, done_message, due_messages, messages-due, mass_moves}
use Rattle.hpx_journal.proofs.Moves.{travels_out}
use Rattle.hpx_journal.proofs.Same.{same_object-true, same_object-from, same_object-through}
use Rattle.hpx_patient.specs.Data.{Name, Event, Line, Born, Done, Freed, Left, Landed, Out, In, Standing, Travel, Local}
use Rattle.hpx_patient.specs.Claims.{is_answer, of_session, session_claims, drawn_by, drawn_at, answered_at}
use Rattle.hpx_patient.proofs.Hand.{kept_claims, AreOthers, drawn_of, outcome_claims}

-- ---- the messages that are not done, where an action fails too

done_mass : (f : Message → ℕ) (fired : Option Act) (act : Act) → fired ≡ Some act → sum_by f (done_message fired) ≡ f (plain_message (message_of act))
done_mass f fired act h = rw h (omega (arith, sum_by-cons f (plain_message (message_of act)) []))

pub mass_goes : (r : Rules) (s : Local) (e : Event) → Row r s e → TurnAllows s e → (f : Message → ℕ)
    → mass_at f (after r s e) + sum_by f (ends s e) + sum_by (act_mass f) (departs r e)
    ≡ mass_at f s + sum_by f (brings r s e) + sum_by (act_mass f) (lands r e)
unfolding after
mass_goes r s (Done a true) row turn f =
    let z : sum_by (due_mass f) s.due ≡ 0 = ap (sum_by (due_mass f)) turn in
    omega (
      arith,
      due_messages f (due_left r s true (find (is_act a) s.fired)),
      sum_by-without-find (act_mass f) (is_act a) s.fired row.0.act row.0.fired,
      done_mass f (find (is_act a) s.fired) row.0.act row.0.fired,
    )
mass_goes r s (Done a false) row turn f = mass_moves r s (Done a false) row turn tt f
mass_goes r s e row turn f = mass_moves r s e row turn tt f

-- ---- an action as its target sees it

plain_answers : (act : Act) → is_answer (named 0 0 (plain_message (message_of act))) ≡ is_answer act
plain_answers act =
    ap (λ (c : ℕ). (c == 3) && same_object session (id_at (plain act).ids 0)) (plain_code act)
    ∙ ap (λ (o : Id). (act.code == 3) && same_object session o) (plain_target act)

plain_claims : (act : Act)
    → session_claims (plain_message (message_of act)) ≡ count_by of_session (own_slot (plain act).ids (plain act).cont) + one_if (is_answer act)
plain_claims act = ap (λ b. count_by of_session (own_slot (plain act).ids (plain act).cont) + one_if b) (plain_answers act)

-- ---- a failure answers the action's own slot

failed_answers : (slots : List Slot) → sum_by (due_mass session_claims) (map (λ y. MessageDue (answer [] y (Fault 5))) slots) ≡ count_by of_session slots
failed_answers [] = refl
failed_answers (y ∷ slots) =
    omega (
      arith,
      failed_answers slots,
      sum_by-cons (due_mass session_claims) (MessageDue (answer [] y (Fault 5))) (map (λ z. MessageDue (answer [] z (Fault 5))) slots),
      sum_by-cons (λ z. one_if (of_session z)) y slots,
    )

failed_print : (b : Bool) → sum_by (due_mass session_claims) (cond b (PrintDue (codes "error: credit limit\n") ∷ []) []) ≡ 0
failed_print true = refl
failed_print false = refl

failed_claims : (act : Act) → sum_by session_claims (messages (failure act)) ≡ count_by of_session (own_slot act.ids act.cont)
failed_claims act =
    omega (
      arith,
      due_messages session_claims (failure act),
      sum_by-append (due_mass session_claims) (map (λ y. MessageDue (answer [] y (Fault 5))) (own_slot act.ids act.cont))
          (cond ((target_of act).kind == 1) (PrintDue (codes "error: credit limit\n") ∷ []) []),
      failed_answers (own_slot act.ids act.cont),
      failed_print ((target_of act).kind == 1),
    )

-- ---- the session and other objects

other_object : (o : Id) → 16 ≤ o.kind → same_object session o ≡ false
other_object o managed =
    false_from (same_object session o) (λ t.
    let e : session.kind ≡ o.kind = ap (λ y. y.kind) (same_object-true session o t) in absurd (omega (arith, e)))

other_from : (o x : Id) → 16 ≤ o.kind → same_object o x ≡ true → same_object session x ≡ false
other_from o x managed t = sym (same_object-through session o x t) ∙ other_object o managed

-- what is made is no session
made_others : (makes : List Make) (fresh : List Id) (objects : List Standing) → AreMade makes fresh objects
    → AllByRecursion (λ make. 16 ≤ make.kind) makes → AreOthers fresh
made_others [] [] objects h managed = tt
made_others [] (o ∷ fresh) objects h managed = absurd h
made_others (make ∷ makes) [] objects h managed = absurd h
made_others (make ∷ makes) (o ∷ fresh) objects h managed =
    (other_object o (omega (arith, h.0, managed.0)), made_others makes fresh objects h.2 managed.1)

born_session : (o : Id) (state : State) (objects : List Standing) → 16 ≤ o.kind
    → find (is_standing session) (record { object = o; state = state } ∷ objects) ≡ find (is_standing session) objects
born_session o state objects h = rw (other_object o h) refl

freed_session : (o : Id) (objects : List Standing) → 16 ≤ o.kind
    → find (is_standing session) (without (is_standing o) objects) ≡ find (is_standing session) objects
freed_session o objects h =
    find-without (is_standing session) (is_standing o) objects (λ y t. other_from o y.object h t)

landed_session : (s : Local) (o : Id) (y : Travel) → find (is_travel o) s.travels ≡ Some y → 16 ≤ o.kind
    → find (is_standing session) (map stood (option_to_list (find (is_travel o) s.travels)) ++ s.objects) ≡ find (is_standing session) s.objects
landed_session s o y h managed = rw (h, other_from o y.object managed (find-passes (is_travel o) s.travels y h)) refl

not_drawn : (b : Bool) (n : ℕ) → b ≡ false → cond b n 0 ≡ 0
not_drawn true n e = cc
not_drawn false n e = refl

pub is_drawn : (b : Bool) (n : ℕ) → b ≡ true → cond b n 0 ≡ n
is_drawn true n e = refl
is_drawn false n e = absurd (cc)

drawn_done : (objects : List Standing) (y : Standing) (new : State) → find (is_standing y.object) objects ≡ Some y
    → drawn_by (find (is_standing session) objects) + drawn_of y.object new
    ≡ drawn_by (find (is_standing session) (record { object = y.object; state = new } ∷ without (is_standing y.object) objects))
    + drawn_of y.object y.state
drawn_done objects y new h =
    elim (cases_Bool (same_object session y.object)) [
      | inl t ↦
          let f : find (is_standing session) objects ≡ Some y =
          find-same (is_standing session) (is_standing y.object) (λ z. same_object-from session y.object z.object t) objects ∙ h in
          let g : find (is_standing session) (record { object = y.object; state = new } ∷ without (is_standing y.object) objects)
          ≡ Some (record { object = y.object; state = new }) = rw t refl in
          omega (
            arith,
            ap drawn_by f,
            ap drawn_by g,
            is_drawn (same_object session y.object) new.drawn t,
            is_drawn (same_object session y.object) y.state.drawn t,
          )
      | inr t ↦
          let f = find-without (is_standing session) (is_standing y.object) objects
          (λ z u. sym (same_object-through session y.object z.object u) ∙ t) in
          let g : find (is_standing session) (record { object = y.object; state = new } ∷ without (is_standing y.object) objects)
          ≡ find (is_standing session) objects = rw t f in
          omega (
            arith,
            ap drawn_by g,
            not_drawn (same_object session y.object) new.drawn t,
            not_drawn (same_object session y.object) y.state.drawn t,
          )
    ]

-- ---- what is kept here: continuations that states keep, and answers that are done

abbrev pub state_keeps : List Standing → ℕ
state_keeps xs = sum_by (λ x. kept_claims x.state) xs

abbrev pub travel_keeps : List Travel → ℕ
travel_keeps xs = sum_by (λ x. kept_claims x.state) xs

abbrev pub kept_at : Local → ℕ
kept_at s = state_keeps s.objects + travel_keeps s.travels + answered_at s

abbrev pub frame_keeps : Rules → Frame → ℕ
frame_keeps r f = travel_keeps (travels_in (r.parcel_of f.1))

abbrev pub moved : Rules → Local → Event → ℕ → Type 0
moved r s e k =
    kept_at (after r s e) + sum_by (frame_keeps r) (sends e) + sum_by session_claims (brings r s e) + drawn_at s
    ≤ kept_at s + sum_by (frame_keeps r) (arrives_at k e) + sum_by session_claims (ends s e) + drawn_at (after r s e)

-- what the laws of actions say of a commit here
abbrev pub AreLawful : Rules → Local → Type 0
AreLawful r s = (a : Name) (x : Runs s a)
    → KeepsLaws r.localities x.target.object.kind s.here x.target.state (plain x.act) (outcome r s x.act x.target)
    × IsConsole s.here x.target × IsAct x.act

objects_done : (objects : List Standing) (y : Standing) (new : State) → find (is_standing y.object) objects ≡ Some y
    → state_keeps (record { object = y.object; state = new } ∷ without (is_standing y.object) objects) + kept_claims y.state
    ≡ state_keeps objects + kept_claims new
objects_done objects y new h =
    omega (
      arith,
      sum_by-cons (λ x. kept_claims x.state) (record { object = y.object; state = new }) (without (is_standing y.object) objects),
      sum_by-without-find (λ x. kept_claims x.state) (is_standing y.object) objects y h,
    )

pub done_due : (r : Rules) (s : Local) (a : Name) (act : Act) (y : Standing) → find (is_act a) s.fired ≡ Some act
    → find (is_standing (target_of act)) s.objects ≡ Some y
    → due_left r s false (find (is_act a) s.fired) ≡ due_with y.state (plain act) s.fresh (outcome r s act y)
done_due r s a act y h i = rw (h, i) refl

all-kinds : (makes : List Make) → AllByRecursion (λ make. IsManaged make.kind × (refs_in make.values ≡ [])) makes
    → AllByRecursion (λ make. 16 ≤ make.kind) makes
all-kinds [] h = tt
all-kinds (make ∷ makes) h = (h.0.0.0, all-kinds makes h.1)

done_moves : (r : Rules) (s : Local) → AreLawful r s → (a : Name) → Row r s (Done a false) → (k : ℕ) → moved r s (Done a false) k
unfolding after
done_moves r s lawful a row k =
    let run = row.0 in
    let act = run.act in
    let y = run.target in
    let out = outcome r s act y in
    let new = new_standing r s act y in
    let j = found_again (target_of act) s.objects y run.stands in
    let law = lawful a run in
    let e = outcome_claims r.localities y.object.kind s.here y.state (plain act) s.fresh out law.0 y.object (λ one. (law.1 one).0)
    (made_length out.makes s.fresh s.objects row.1) (made_others out.makes s.fresh s.objects row.1 (all-kinds out.makes law.0.few.managed)) in
    let due : sum_by session_claims (messages (due_left r s false (find (is_act a) s.fired)))
    ≡ sum_by session_claims (sent_by (message_of (plain act)) y.state s.fresh out) =
    ap (λ d. sum_by session_claims (messages d)) (done_due r s a act y run.fired run.stands)
    ∙ ap (sum_by session_claims) (messages-due y.state (plain act) s.fresh out law.0.moves.codes) in
    let d = drawn_done s.objects y new.state j in
    let p = objects_done s.objects y new.state j in
    let q : count_by is_answer (option_to_list (find (is_act a) s.fired) ++ s.done) ≡ one_if (is_answer act) + count_by is_answer s.done =
    ap (λ o. count_by is_answer (option_to_list o ++ s.done)) run.fired ∙ sum_by-cons (λ z. one_if (is_answer z)) act s.done in
    let m = done_mass session_claims (find (is_act a) s.fired) act run.fired in
    let c = plain_claims act in
    rw (done_settles r s a act y run.fired run.stands) (omega (arith, e, due, d, p, q, m, c))

failed_moves : (r : Rules) (s : Local) → AreLawful r s → (a : Name) → Row r s (Done a true) → (k : ℕ) → moved r s (Done a true) k
unfolding after
failed_moves r s lawful a row k =
    let run = row.0 in
    let act = run.act in
    let due : sum_by session_claims (messages (due_left r s true (find (is_act a) s.fired))) ≡ sum_by session_claims (messages (failure act)) =
    ap (λ o. sum_by session_claims (messages (due_left r s true o))) run.fired in
    let q : count_by is_answer (option_to_list (find (is_act a) s.fired) ++ s.done) ≡ one_if (is_answer act) + count_by is_answer s.done =
    ap (λ o. count_by is_answer (option_to_list o ++ s.done)) run.fired ∙ sum_by-cons (λ z. one_if (is_answer z)) act s.done in
    let m = done_mass session_claims (find (is_act a) s.fired) act run.fired in
    let own : count_by of_session (own_slot (plain act).ids (plain act).cont) ≡ count_by of_session (own_slot act.ids act.cont) =
    ap (count_by of_session) (plain_own act (lawful a run).2) in
    omega (arith, due, q, m, own, plain_claims act, failed_claims act)

born_moves : (r : Rules) (s : Local) (o : Id) (state : State) (k : ℕ) → Row r s (Born o state) → moved r s (Born o state) k
unfolding after
born_moves r s o state k row =
    let none : kept_claims state ≡ 0 = rw row.4 refl in
    omega (
      arith,
      none,
      ap drawn_by (born_session o state s.objects row.1.0),
      sum_by-cons (λ x. kept_claims x.state) (record { object = o; state = state }) s.objects,
    )

freed_moves : (r : Rules) (s : Local) (o : Id) (k : ℕ) → Row r s (Freed o) → moved r s (Freed o) k
unfolding after
freed_moves r s o k row =
    omega (
      arith,
      ap drawn_by (freed_session o s.objects row.0.0),
      sum_by-without-find (λ x. kept_claims x.state) (is_standing o) s.objects row.1.0 row.1.1,
    )

left_moves : (r : Rules) (s : Local) (o : Id) (to k : ℕ) → Row r s (Left o to) → moved r s (Left o to) k
unfolding after
left_moves r s o to k row =
    let g = sum_by-without-find (λ x. kept_claims x.state) (is_standing o) s.objects row.1.0 row.1.1 in
    let f = ap drawn_by (freed_session o s.objects row.0.0) in
    rw row.1.1 (omega (arith, f, g, sum_by-cons (λ x. kept_claims x.state) (leaving to row.1.0) s.travels))

landed_moves : (r : Rules) (s : Local) (o : Id) (k : ℕ) → Row r s (Landed o) → moved r s (Landed o) k
unfolding after
landed_moves r s o k row =
    let y = row.1.0 in
    let g = sum_by-without-find (λ x. kept_claims x.state) (is_travel o) s.travels y row.1.1 in
    let f = landed_session s o y row.1.1 row.0.0 in
    rw (f, row.1.1, sum_by-cons (λ x. kept_claims x.state) (stood y) s.objects) (omega (arith, g))

line_free : (bytes : List ℕ) → sum_by session_claims (line_message bytes ∷ []) ≡ 0
line_free bytes = omega (arith, sum_by-cons session_claims (line_message bytes) [])

pub claims_move : (r : Rules) (s : Local) → AreLawful r s → (e : Event) → Row r s e → (k : ℕ) → moved r s e k
unfolding after
claims_move r s lawful (Line a bytes) h k = omega (arith, line_free bytes)
claims_move r s lawful (Born o state) h k = born_moves r s o state k h
claims_move r s lawful (Done a false) h k = done_moves r s lawful a h k
claims_move r s lawful (Done a true) h k = failed_moves r s lawful a h k
claims_move r s lawful (Freed o) h k = freed_moves r s o k h
claims_move r s lawful (Left o to) h k = left_moves r s o to k h
claims_move r s lawful (Landed o) h k = landed_moves r s o k h
claims_move r s lawful (Out to bytes) h k =
    rw h.2.1 (omega (
      arith,
      travels_out (λ x. kept_claims x.state) s to h.2.0 h.2.3,
      sum_by-cons (frame_keeps r) ((to, bytes)) [],
    ))
claims_move r s lawful (In bytes) h k =
    omega (
      arith,
      sum_by-append (λ x. kept_claims x.state) (travels_in (r.parcel_of bytes)) s.travels,
      sum_by-cons (frame_keeps r) ((k, bytes)) [],
    )
claims_move r s lawful _ h k = omega arith
