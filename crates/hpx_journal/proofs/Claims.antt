-- How the claims of a slot move with an entry.
use Rattle.std.proofs.Common.{ℕ, Bool, true, false, cond, List, [], ◌∷◌, ◌++◌, ◌≡◌, ◌+◌, ◌<◌, ◌≤◌, Option, Some, None, refl, sym, ap, ◌∙◌, arith, inl, inr, map}
use Rattle.std.specs.List.{find, sum_by, count_by}
use Rattle.std.specs.Prelude.{◌==◌, nat_le, codes}
use Rattle.std.proofs.lemmas.List.Sums.{sum_by-cons, sum_by-append}
use Rattle.std.proofs.lemmas.Bool.Decides.{nat_tests}
use Rattle.std.proofs.lemmas.Bool.{cases_Bool}
use Rattle.hpx_value.specs.Ids.{Id, same_object}
use Rattle.hpx_value.specs.Hands.{Slot, session, own_slot, answer}
use Rattle.hpx_value.specs.Shapes.{IsAct}
use Rattle.hpx_value.specs.Riders.{plain, due_with}
use Rattle.hpx_value.proofs.Riders.{plain_own}
use Rattle.hpx_value.specs.Laws.{KeepsLaws}
use Rattle.hpx_journal.specs.Bags.{without}
use Rattle.hpx_journal.specs.Data.{State, Act, Fault, Message, Due, MessageDue, PrintDue}
use Rattle.hpx_journal.specs.Entries.{Name, Event, Line, Fire, Born, Done, Sent, Print, Freed, Left, Landed, Out, In, Standing, Travel, Rules, target_of}
use Rattle.hpx_journal.specs.Frames.{acts_in, travels_in}
use Rattle.std.specs.Option.{option_to_list}
use Rattle.hpx_journal.specs.Local.{Local, after, is_act, is_standing, is_travel, due_act, due_left, outcome, failure, tail, stood, leaving}
use Rattle.hpx_journal.specs.Rows.{Row, Runs, TurnAllows}
use Rattle.hpx_journal.specs.Slots.{same_slot, answers_of, act_claims, state_claims, due_claims, claims, frame_claims}
use Rattle.hpx_journal.specs.Whole.{sends, arrives_at}
use Rattle.hpx_journal.proofs.Bags.{sum_by-without-find, find-passes, find-without, find-same}
use Rattle.hpx_journal.proofs.Moves.{waiting_out, travels_out, acts_short}
use Rattle.hpx_journal.proofs.Done.{born_at, found_again, new_standing, done_settles}
use Rattle.hpx_journal.proofs.Same.{same_object-true, same_object-from, same_object-through}
use Rattle.hpx_journal.proofs.Bools.{false_from}
use Rattle.hpx_journal.proofs.Outcomes.{opened, outcome_claims}
use Rattle.hpx_journal.proofs.Formed.{IsConsole, made_length}

-- ---- what may still be claimed: a managed object's slots once it is born, the session's as it draws them

abbrev pub opened_here : Slot → Option Standing → ℕ
opened_here x None = 0
opened_here x (Some y) = opened x y.object y.state

abbrev pub budget : Slot → Local → ℕ
budget x s = cond (nat_le 16 x.object.kind) (born_at x.object s.here s.number) (opened_here x (find (is_standing session) s.objects))

-- the claims here, and the slots of objects that are fresh
abbrev pub claimed : Slot → Local → ℕ
claimed x s = claims x s + count_by (same_object x.object) s.fresh

-- ---- acts

acts_done : (x : Slot) (act : Act) (fired done : List Act) (a : Name) → find (is_act a) fired ≡ Some act
    → sum_by (act_claims x) (without (is_act a) fired) + sum_by (answers_of x) (option_to_list (find (is_act a) fired) ++ done)
    + count_by (same_slot x) (own_slot act.ids act.cont) ≡ sum_by (act_claims x) fired + sum_by (answers_of x) done
acts_done x act fired done a h =
    let e = sum_by-without-find (act_claims x) (is_act a) fired act h in
    rw (h, sum_by-cons (answers_of x) act done) (omega arith)

acts_fire : (x : Slot) (act : Act) (waiting fired : List Act) (a : Name) → find (is_act a) waiting ≡ Some act
    → sum_by (act_claims x) (without (is_act a) waiting) + sum_by (act_claims x) (option_to_list (find (is_act a) waiting) ++ fired)
    ≡ sum_by (act_claims x) waiting + sum_by (act_claims x) fired
acts_fire x act waiting fired a h =
    let e = sum_by-without-find (act_claims x) (is_act a) waiting act h in
    rw (h, sum_by-cons (act_claims x) act fired) (omega arith)

acts_sent : (x : Slot) (a : Name) (due rest : List Due) (m : Message) → due ≡ MessageDue m ∷ rest
    → sum_by (act_claims x) (due_act a due) + sum_by (due_claims x) (tail due) ≡ sum_by (due_claims x) due
acts_sent x a due rest m h = rw (h, sum_by-cons (due_claims x) (MessageDue m) rest) (omega arith)

due_printed : (x : Slot) (due rest : List Due) (bytes : List ℕ) → due ≡ PrintDue bytes ∷ rest
    → sum_by (due_claims x) (tail due) ≡ sum_by (due_claims x) due
due_printed x due rest bytes h = rw (h, sum_by-cons (due_claims x) (PrintDue bytes) rest) (omega arith)

-- ---- the session and other objects

same_kinds : (a b : Id) → same_object a b ≡ true → a.kind ≡ b.kind
same_kinds a b h = ap (λ y. y.kind) (same_object-true a b h)

kinds_differ : (a o : Id) → a.kind < 16 → 16 ≤ o.kind → same_object a o ≡ false
kinds_differ a o small big = false_from (same_object a o) (λ t. let e = same_kinds a o t in absurd (omega arith))

born_session : (o : Id) (state : State) (objects : List Standing) → 16 ≤ o.kind
    → find (is_standing session) (record { object = o; state = state } ∷ objects) ≡ find (is_standing session) objects
born_session o state objects h = rw (kinds_differ session o (omega arith) h) refl

freed_session : (o : Id) (objects : List Standing) → 16 ≤ o.kind
    → find (is_standing session) (without (is_standing o) objects) ≡ find (is_standing session) objects
freed_session o objects h =
    find-without (is_standing session) (is_standing o) objects
    (λ y t. let e = same_kinds o y.object t in kinds_differ session y.object (omega arith) (omega arith))

landed_session : (s : Local) (o : Id) (y : Travel) → find (is_travel o) s.travels ≡ Some y → 16 ≤ o.kind
    → find (is_standing session) (map stood (option_to_list (find (is_travel o) s.travels)) ++ s.objects) ≡ find (is_standing session) s.objects
landed_session s o y h managed =
    let e = same_kinds o y.object (find-passes (is_travel o) s.travels y h) in
    rw (h, kinds_differ session y.object (omega arith) (omega arith)) refl

-- ---- budgets

budget_born : (o : Id) (x : Slot) (h n : ℕ) → o.home ≡ h → o.number ≡ n + 1 → 16 ≤ o.kind → (rest : ℕ)
    → cond (same_object x.object o) 1 0 + cond (nat_le 16 x.object.kind) (born_at x.object h n) rest
    ≤ cond (nat_le 16 x.object.kind) (born_at x.object h (n + 1)) rest
budget_born o x h n home number managed rest =
    elim (cases_Bool (same_object x.object o)) [
      | inl t ↦
          let e = same_object-true x.object o t in
          let a : x.object.home ≡ o.home = ap (λ y. y.home) e in
          let b : x.object.number ≡ o.number = ap (λ y. y.number) e in
          let c : x.object.kind ≡ o.kind = ap (λ y. y.kind) e in
          rw (t, a, b, c, home, number) (let k : 16 ≤ o.kind = managed in grind (arith, nat_tests))
      | inr t ↦ rw t (grind (arith, nat_tests))
    ]

not_session : (x : Slot) (o : Id) (state : State) → 16 ≤ x.object.kind → opened x o state ≡ 0
not_session x o state h =
    rw (false_from (same_object x.object session) (λ t. let e : x.object.kind ≡ 1 = same_kinds x.object session t in absurd (omega arith))) refl

other_object : (x : Slot) (o : Id) (state : State) → same_object session o ≡ false → opened x o state ≡ 0
other_object x o state h = rw h (grind arith)

opened_done : (x : Slot) (objects : List Standing) (y : Standing) (new : State) → find (is_standing y.object) objects ≡ Some y
    → opened_here x (find (is_standing session) objects) + opened x y.object new
    ≡ opened_here x (find (is_standing session) (record { object = y.object; state = new } ∷ without (is_standing y.object) objects))
    + opened x y.object y.state
opened_done x objects y new h =
    elim (cases_Bool (same_object session y.object)) [
      | inl t ↦
          let f : find (is_standing session) objects ≡ Some y =
          find-same (is_standing session) (is_standing y.object) (λ z. same_object-from session y.object z.object t) objects ∙ h in
          let g : find (is_standing session) (record { object = y.object; state = new } ∷ without (is_standing y.object) objects)
          ≡ Some (record { object = y.object; state = new }) = rw t refl in
          omega (arith, ap (opened_here x) f, ap (opened_here x) g)
      | inr t ↦
          let f = find-without (is_standing session) (is_standing y.object) objects
          (λ z u. sym (same_object-through session y.object z.object u) ∙ t) in
          let g : find (is_standing session) (record { object = y.object; state = new } ∷ without (is_standing y.object) objects)
          ≡ find (is_standing session) objects = rw t f in
          omega (arith, ap (opened_here x) g, other_object x y.object new t, other_object x y.object y.state t)
    ]

budget_done : (x : Slot) (born : ℕ) (objects : List Standing) (y : Standing) (new : State) → find (is_standing y.object) objects ≡ Some y
    → cond (nat_le 16 x.object.kind) born (opened_here x (find (is_standing session) objects)) + opened x y.object new
    ≡ cond (nat_le 16 x.object.kind) born
    (opened_here x (find (is_standing session) (record { object = y.object; state = new } ∷ without (is_standing y.object) objects)))
    + opened x y.object y.state
budget_done x born objects y new h =
    elim (cases_Bool (nat_le 16 x.object.kind)) [
      | inl t ↦
          let k : 16 ≤ x.object.kind = grind (arith, nat_tests) in
          rw (t, not_session x y.object new k, not_session x y.object y.state k) refl
      | inr t ↦ rw t (opened_done x objects y new h)
    ]

objects_done : (x : Slot) (objects : List Standing) (y : Standing) (new : State) → find (is_standing y.object) objects ≡ Some y
    → sum_by (λ z. state_claims x z.state) (record { object = y.object; state = new } ∷ without (is_standing y.object) objects)
    + state_claims x y.state
    ≡ sum_by (λ z. state_claims x z.state) objects + state_claims x new
objects_done x objects y new h =
    rw (sum_by-cons (λ z. state_claims x z.state) (record { object = y.object; state = new }) (without (is_standing y.object) objects))
    (omega (arith, sum_by-without-find (λ z. state_claims x z.state) (is_standing y.object) objects y h))

-- ---- the failure answers the action's own slot

answer_claims : (x y : Slot) → due_claims x (MessageDue (answer [] y (Fault 5))) ≡ cond (same_slot x y) 1 0
answer_claims x y = omega arith

failure_answers : (x : Slot) (slots : List Slot)
    → sum_by (due_claims x) (map (λ y. MessageDue (answer [] y (Fault 5))) slots) ≡ count_by (same_slot x) slots
failure_answers x [] = refl
failure_answers x (y ∷ slots) =
    omega (
      arith,
      failure_answers x slots,
      answer_claims x y,
      sum_by-cons (due_claims x) (MessageDue (answer [] y (Fault 5))) (map (λ z. MessageDue (answer [] z (Fault 5))) slots),
      sum_by-cons (λ z. cond (same_slot x z) 1 0) y slots,
    )

print_claims : (x : Slot) (b : Bool) → sum_by (due_claims x) (cond b (PrintDue (codes "error: credit limit\n") ∷ []) []) ≡ 0
print_claims x true = refl
print_claims x false = refl

failure_claims : (x : Slot) (act : Act) → sum_by (due_claims x) (failure act) ≡ count_by (same_slot x) (own_slot act.ids act.cont)
failure_claims x act =
    omega (
      arith,
      sum_by-append (due_claims x) (map (λ y. MessageDue (answer [] y (Fault 5))) (own_slot act.ids act.cont))
          (cond ((target_of act).kind == 1) (PrintDue (codes "error: credit limit\n") ∷ []) []),
      failure_answers x (own_slot act.ids act.cont),
      print_claims x ((target_of act).kind == 1),
    )

-- ---- entries

done_due : (r : Rules) (s : Local) (a : Name) (act : Act) (y : Standing) → find (is_act a) s.fired ≡ Some act
    → find (is_standing (target_of act)) s.objects ≡ Some y
    → due_left r s false (find (is_act a) s.fired) ≡ due_with y.state (plain act) s.fresh (outcome r s act y)
done_due r s a act y h i = rw (h, i) refl

abbrev moved : Rules → Local → Event → ℕ → Slot → Type 0
moved r s e k x =
    claimed x (after r s e) + sum_by (frame_claims r x) (sends e) + budget x s
    ≤ claimed x s + sum_by (frame_claims r x) (arrives_at k e) + budget x (after r s e)

-- what the laws of actions say of a commit here
abbrev pub AreLawful : Rules → Local → Type 0
AreLawful r s = (a : Name) (x : Runs s a)
    → KeepsLaws r.localities x.target.object.kind s.here x.target.state (plain x.act) (outcome r s x.act x.target)
    × IsConsole s.here x.target × IsAct x.act

done_moves : (r : Rules) (s : Local) → AreLawful r s → (a : Name) → Row r s (Done a false) → s.due ≡ [] → (k : ℕ) (x : Slot)
    → moved r s (Done a false) k x
unfolding after
done_moves r s lawful a row d k x =
    let run = row.0 in
    let act = run.act in
    let y = run.target in
    let new = new_standing r s act y in
    let j = found_again (target_of act) s.objects y run.stands in
    let keeps = lawful a run in
    let e = outcome_claims r.localities y.object.kind s.here y.state (plain act) s.fresh (outcome r s act y) keeps.0 y.object (λ one. (keeps.1 one).0)
    (made_length (outcome r s act y).makes s.fresh s.objects row.1) x in
    let p = objects_done x s.objects y new.state j in
    let q = acts_done x act s.fired s.done a run.fired in
    let own : count_by (same_slot x) (own_slot (plain act).ids (plain act).cont) ≡ count_by (same_slot x) (own_slot act.ids act.cont) =
    ap (count_by (same_slot x)) (plain_own act keeps.2) in
    let b = budget_done x (born_at x.object s.here s.number) s.objects y new.state j in
    rw (done_settles r s a act y run.fired run.stands, done_due r s a act y run.fired run.stands, d) (omega arith)

failed_moves : (r : Rules) (s : Local) (a : Name) → Row r s (Done a true) → s.due ≡ [] → (k : ℕ) (x : Slot) → moved r s (Done a true) k x
unfolding after
failed_moves r s a row d k x =
    let act = row.0.act in
    let q = acts_done x act s.fired s.done a row.0.fired in
    let f = failure_claims x act in
    let g : due_left r s true (find (is_act a) s.fired) ≡ failure act = rw row.0.fired refl in
    rw (g, d, row.1) (omega arith)

born_moves : (r : Rules) (s : Local) (o : Id) (state : State) (k : ℕ) (x : Slot) → Row r s (Born o state) → moved r s (Born o state) k x
unfolding after
born_moves r s o state k x row =
    let n = budget_born o x s.here s.number row.0 row.2 row.1.0 (opened_here x (find (is_standing session) s.objects)) in
    let f : find (is_standing session) (record { object = o; state = state } ∷ s.objects) ≡ find (is_standing session) s.objects =
    born_session o state s.objects row.1.0 in
    let none : state_claims x state ≡ 0 = rw row.4 refl in
    rw (
      f,
      sum_by-append (λ y. cond (same_object x.object y) 1 0) s.fresh (o ∷ []),
      sum_by-cons (λ y. state_claims x y.state) (record { object = o; state = state }) s.objects,
    )
    (omega arith)

freed_moves : (r : Rules) (s : Local) (o : Id) (k : ℕ) (x : Slot) → Row r s (Freed o) → moved r s (Freed o) k x
unfolding after
freed_moves r s o k x row =
    let f = freed_session o s.objects row.0.0 in
    let g = sum_by-without-find (λ y. state_claims x y.state) (is_standing o) s.objects row.1.0 row.1.1 in
    rw f (omega arith)

left_moves : (r : Rules) (s : Local) (o : Id) (to k : ℕ) (x : Slot) → Row r s (Left o to) → moved r s (Left o to) k x
unfolding after
left_moves r s o to k x row =
    let f = freed_session o s.objects row.0.0 in
    let g = sum_by-without-find (λ y. state_claims x y.state) (is_standing o) s.objects row.1.0 row.1.1 in
    rw (f, row.1.1, sum_by-cons (λ y. state_claims x y.state) (leaving to row.1.0) s.travels) (omega arith)

landed_moves : (r : Rules) (s : Local) (o : Id) (k : ℕ) (x : Slot) → Row r s (Landed o) → moved r s (Landed o) k x
unfolding after
landed_moves r s o k x row =
    let y = row.1.0 in
    let g = sum_by-without-find (λ z. state_claims x z.state) (is_travel o) s.travels y row.1.1 in
    let f : find (is_standing session) (map stood (option_to_list (find (is_travel o) s.travels)) ++ s.objects) ≡ find (is_standing session) s.objects =
    landed_session s o y row.1.1 row.0.0 in
    rw (f, row.1.1, sum_by-cons (λ z. state_claims x z.state) (stood y) s.objects) (omega arith)

pub claims_move : (r : Rules) (s : Local) → AreLawful r s → (e : Event) → TurnAllows s e → Row r s e → (k : ℕ) (x : Slot) → moved r s e k x
unfolding after
claims_move r s lawful (Line a bytes) t h k x = omega arith
claims_move r s lawful (Fire a) t h k x = omega (arith, acts_fire x h.0 s.waiting s.fired a h.2)
claims_move r s lawful (Born o state) t h k x = born_moves r s o state k x h
claims_move r s lawful (Done a false) t h k x = done_moves r s lawful a h t k x
claims_move r s lawful (Done a true) t h k x = failed_moves r s a h t k x
claims_move r s lawful (Sent a) t h k x =
    rw (sum_by-append (act_claims x) (due_act a s.due) s.waiting) (omega (arith, acts_sent x a s.due h.1 h.0 h.2))
claims_move r s lawful (Print bytes) t h k x = omega (arith, due_printed x s.due h.0 bytes h.1)
claims_move r s lawful (Freed o) t h k x = freed_moves r s o k x h
claims_move r s lawful (Out to bytes) t h k x =
    rw h.2.1 (omega (
      arith,
      waiting_out (act_claims x) s (acts_in (Some h.2.0)) (acts_short (Some h.2.0)) h.2.2,
      travels_out (λ y. state_claims x y.state) s to h.2.0 h.2.3,
    ))
claims_move r s lawful (In bytes) t h k x =
    rw (
      sum_by-append (act_claims x) (acts_in (r.parcel_of bytes)) s.waiting,
      sum_by-append (λ y. state_claims x y.state) (travels_in (r.parcel_of bytes)) s.travels,
    ) (omega arith)
claims_move r s lawful (Left o to) t h k x = left_moves r s o to k x h
claims_move r s lawful (Landed o) t h k x = landed_moves r s o k x h
claims_move r s lawful _ t h k x = omega arith
