-- Lines by rising number, seen as records and as what waits.
use Rattle.std.proofs.Common.{ℕ, true, false, ◌≡◌, ◌≢◌, ◌<◌, ◌≤◌, ◌+◌, List, [], ◌∷◌, ◌++◌, map, Option, Some, None, IfSome, length, refl, sym, ap, ◌∙◌, arith, subst, inl, inr, append-nil, length-append}
use Rattle.std.specs.Prelude.{if◌then◌else◌}
use Rattle.std.specs.Option.{option_to_list}
use Rattle.std.proofs.lemmas.Bool.{cases_Bool}
use Rattle.std.proofs.lemmas.List.{length-map}
use Rattle.std.proofs.lemmas.List.Folds.{find-append}
use Rattle.std.specs.Option.{option_or}
use Rattle.hpx_value.specs.Ids.{Id, same_object}
use Rattle.hpx_agas.specs.declared.record.Record.{Record}
use Rattle.hpx_agas.specs.declared.record.Waiting.{Waiting}
use Rattle.hpx_agas.specs.declared.line.Line.{Line}
use Rattle.hpx_agas.specs.Records.{find_record, Rises}
use Rattle.hpx_agas.specs.Queues.{items_of, waits}
use Rattle.hpx_agas.specs.Lines.{AreBelow, line_of, records_of, waiting_of, in_place, left_behind, orphans, AreKept}
use Rattle.hpx_agas.proofs.RecordsLemmas.{apart, find_above, rises_le, same_parts}
use Rattle.hpx_agas.proofs.QueuesLemmas.{items_hit, items_miss, items-append}
use Rattle.hpx_agas.proofs.LinesLemmas.{same_or_not, line_hit, line_miss, place_hit, place_miss, records-append, waiting-append, none_below}

-- records rise as their lines do
rises_from : (low n : ℕ) (slot : Option Record) (rs : List Record) → low < n → IfSome slot (λ r. r.gid.number ≡ n) → Rises n rs → Rises low (option_to_list slot ++ rs)
rises_from low n None rs lt h rest = rises_le n low rs (omega arith) rest
rises_from low n (Some r) rs lt h rest = (omega (arith, h), rises_le n r.gid.number rs (omega (arith, h)) rest)

-- the record that a line has for an object
abbrev pub own : Id → Option Record → Option Record
own o None = None
own o (Some r) = (if same_object o r.gid then Some r else None)

pub own_hit : (o : Id) (r : Record) → same_object o r.gid ≡ true → own o (Some r) ≡ Some r
own_hit o r t = rw t refl

pub own_miss : (o : Id) (r : Record) → same_object o r.gid ≡ false → own o (Some r) ≡ None
own_miss o r f = rw f refl

find_own : (o : Id) (n : ℕ) (slot : Option Record) (rs : List Record) → IfSome slot (λ r. r.gid.number ≡ n) → Rises n rs → n ≡ o.number → find_record o (option_to_list slot ++ rs) ≡ own o slot
find_own o n None rs h rest e = find_above o n rs rest (omega (arith, e))
find_own o n (Some r) rs h rest e = elim (cases_Bool (same_object o r.gid)) [
  | inl t ↦ rw t refl
  | inr f ↦ rw f (find_above o n rs rest (omega (arith, e)))
]

find_past : (o : Id) (n : ℕ) (slot : Option Record) (rs : List Record) → IfSome slot (λ r. r.gid.number ≡ n) → n ≢ o.number → find_record o (option_to_list slot ++ rs) ≡ find_record o rs
find_past o n None rs h away = refl
find_past o n (Some r) rs h away = let f : same_object o r.gid ≡ false = apart o r.gid (λ e. away (sym h ∙ sym e)) in rw f refl

-- one more record, of a number that none has
or_none : {X : Type 0} (slot : Option X) → option_or slot None ≡ slot
or_none None = refl
or_none (Some x) = refl

find_last : (o : Id) (rs : List Record) (r : Record) → (same_object o r.gid ≡ true → find_record o rs ≡ None)
    → find_record o (rs ++ r ∷ []) ≡ (if same_object o r.gid then Some r else find_record o rs)
find_last o rs r h = elim (cases_Bool (same_object o r.gid)) [
  | inl t ↦ find-append (λ x. same_object o x.gid) rs (r ∷ []) ∙ rw (t, h t) refl
  | inr f ↦ find-append (λ x. same_object o x.gid) rs (r ∷ []) ∙ rw f (or_none (find_record o rs))
]

at_most_one : {X : Type 0} (slot : Option X) → length (option_to_list slot) ≤ 1
at_most_one None = omega arith
at_most_one (Some x) = omega arith

module _ {Q : Type 0} where
  pub kept_le : (low low' top : ℕ) (ls : List (Line Q)) → low' ≤ low → AreKept low top ls → AreKept low' top ls
  kept_le low low' top [] le h = tt
  kept_le low low' top (l ∷ ls) le h = (omega (arith, h.0), h.1, h.2, h.3)

  pub kept_below : (low top n : ℕ) (ls : List (Line Q)) → top < n → AreKept low top ls → AreBelow n ls
  kept_below low top n [] lt h = tt
  kept_below low top n (l ∷ ls) lt h = (omega (arith, h.1), kept_below l.number top n ls lt h.3)

  pub kept_rises : (low top : ℕ) (ls : List (Line Q)) → AreKept low top ls → Rises low (records_of ls)
  kept_rises low top [] h = tt
  kept_rises low top (l ∷ ls) h = rises_from low l.number l.live (records_of ls) h.0 h.2 (kept_rises l.number top ls h.3)

  abbrev pub matched : Id → Option (Line Q) → Option Record
  matched o None = None
  matched o (Some l) = own o l.live

  -- the record of an object is that of its number's line
  pub find_kept : (o : Id) (low top : ℕ) (ls : List (Line Q)) → AreKept low top ls → find_record o (records_of ls) ≡ matched o (line_of o.number ls)
  find_kept o low top [] h = refl
  find_kept o low top (l ∷ ls) h = elim (same_or_not l.number o.number) [
    | inl e ↦ find_own o l.number l.live (records_of ls) h.2 (kept_rises l.number top ls h.3) e ∙ ap (matched o) (sym (line_hit o.number l ls e))
    | inr away ↦ find_past o l.number l.live (records_of ls) h.2 away ∙ find_kept o l.number top ls h.3 ∙ ap (matched o) (sym (line_miss o.number l ls away))
  ]

  -- what waits for a number is the queue of its line
  abbrev pub queue_in : Option (Line Q) → List Q
  queue_in None = []
  queue_in (Some l) = l.queue

  items_same : (n : ℕ) (items : List Q) → items_of n (map (waits n) items) ≡ items
  items_same n [] = refl
  items_same n (x ∷ xs) = items_hit n (waits n x) (map (waits n) xs) refl ∙ ap (λ is. x ∷ is) (items_same n xs)

  items_apart : (m n : ℕ) (items : List Q) → m ≢ n → items_of n (map (waits m) items) ≡ []
  items_apart m n [] away = refl
  items_apart m n (x ∷ xs) away = items_miss n (waits m x) (map (waits m) xs) away ∙ items_apart m n xs away

  items_above : (n low top : ℕ) (ls : List (Line Q)) → n ≤ low → AreKept low top ls → items_of n (waiting_of ls) ≡ []
  items_above n low top [] le h = refl
  items_above n low top (l ∷ ls) le h =
      items-append n (map (waits l.number) l.queue) (waiting_of ls)
      ∙ ap (λ is. is ++ items_of n (waiting_of ls)) (items_apart l.number n l.queue (λ e. absurd (omega (arith, e, h.0))))
      ∙ items_above n l.number top ls (omega (arith, h.0)) h.3

  pub items_kept : (n low top : ℕ) (ls : List (Line Q)) → AreKept low top ls → items_of n (waiting_of ls) ≡ queue_in (line_of n ls)
  items_kept n low top [] h = refl
  items_kept n low top (l ∷ ls) h = elim (same_or_not l.number n) [
    | inl e ↦
        items-append n (map (waits l.number) l.queue) (waiting_of ls)
        ∙ ap (λ is. items_of n (map (waits l.number) l.queue) ++ is) (items_above n l.number top ls (omega (arith, e)) h.3)
        ∙ append-nil (items_of n (map (waits l.number) l.queue))
        ∙ ap (λ k. items_of n (map (waits k) l.queue)) e
        ∙ items_same n l.queue
        ∙ ap queue_in (sym (line_hit n l ls e))
    | inr away ↦
        items-append n (map (waits l.number) l.queue) (waiting_of ls)
        ∙ ap (λ is. is ++ items_of n (waiting_of ls)) (items_apart l.number n l.queue away)
        ∙ items_kept n l.number top ls h.3
        ∙ ap queue_in (sym (line_miss n l ls away))
  ]

  -- where nothing but the queue changes, or nothing but the record
  pub same_records : (n : ℕ) (made : Line Q → List (Line Q)) (ls : List (Line Q)) → ((l : Line Q) → l.number ≡ n → records_of (made l) ≡ option_to_list l.live) → records_of (in_place n made ls) ≡ records_of ls
  same_records n made [] f = refl
  same_records n made (l ∷ ls) f = elim (same_or_not l.number n) [
    | inl e ↦ ap records_of (place_hit n made l ls e) ∙ records-append (made l) ls ∙ ap (λ rs. rs ++ records_of ls) (f l e)
    | inr away ↦ ap records_of (place_miss n made l ls away) ∙ ap (λ rs. option_to_list l.live ++ rs) (same_records n made ls f)
  ]

  pub same_waiting : (n : ℕ) (made : Line Q → List (Line Q)) (ls : List (Line Q)) → ((l : Line Q) → l.number ≡ n → waiting_of (made l) ≡ map (waits l.number) l.queue) → waiting_of (in_place n made ls) ≡ waiting_of ls
  same_waiting n made [] f = refl
  same_waiting n made (l ∷ ls) f = elim (same_or_not l.number n) [
    | inl e ↦ ap waiting_of (place_hit n made l ls e) ∙ waiting-append (made l) ls ∙ ap (λ ws. ws ++ waiting_of ls) (f l e)
    | inr away ↦ ap waiting_of (place_miss n made l ls away) ∙ ap (λ ws. map (waits l.number) l.queue ++ ws) (same_waiting n made ls f)
  ]

  -- a weight of what waits, where one queue changes
  module _ (weight : List (Waiting Q) → ℕ) (add : (xs ys : List (Waiting Q)) → weight (xs ++ ys) ≡ weight xs + weight ys) where
    pub weighed : (n : ℕ) (made : Line Q → Line Q) (l : Line Q) (ls : List (Line Q)) → line_of n ls ≡ Some l
        → weight (waiting_of (in_place n (λ k. made k ∷ []) ls)) + weight (map (waits l.number) l.queue) ≡ weight (waiting_of ls) + weight (map (waits (made l).number) (made l).queue)
    weighed n made l [] h = cc
    weighed n made l (x ∷ xs) h = elim (same_or_not x.number n) [
      | inl e ↦
          let same : Some x ≡ Some l = sym (line_hit n x xs e) ∙ h in
          let is : x ≡ l = cc in
          let new : weight (waiting_of (in_place n (λ k. made k ∷ []) (x ∷ xs))) ≡ weight (map (waits (made x).number) (made x).queue) + weight (waiting_of xs) =
          ap (λ k. weight (waiting_of k)) (place_hit n (λ k. made k ∷ []) x xs e) ∙ add (map (waits (made x).number) (made x).queue) (waiting_of xs) in
          let old = add (map (waits x.number) x.queue) (waiting_of xs) in
          let one : weight (map (waits x.number) x.queue) ≡ weight (map (waits l.number) l.queue) = ap (λ (k : Line Q). weight (map (waits k.number) k.queue)) is in
          let two : weight (map (waits (made x).number) (made x).queue) ≡ weight (map (waits (made l).number) (made l).queue) = ap (λ (k : Line Q). weight (map (waits (made k).number) (made k).queue)) is in
          omega (arith, new, old, one, two)
      | inr away ↦
          let rest = weighed n made l xs (sym (line_miss n x xs away) ∙ h) in
          let new : weight (waiting_of (in_place n (λ k. made k ∷ []) (x ∷ xs))) ≡ weight (map (waits x.number) x.queue) + weight (waiting_of (in_place n (λ k. made k ∷ []) xs)) =
          ap (λ k. weight (waiting_of k)) (place_miss n (λ k. made k ∷ []) x xs away) ∙ add (map (waits x.number) x.queue) (waiting_of (in_place n (λ k. made k ∷ []) xs)) in
          let old = add (map (waits x.number) x.queue) (waiting_of xs) in
          omega (arith, rest, new, old)
    ]

  -- a queue is no longer than all that waits
  pub queue_within : (n : ℕ) (l : Line Q) (ls : List (Line Q)) → line_of n ls ≡ Some l → length l.queue ≤ length (waiting_of ls)
  queue_within n l [] h = cc
  queue_within n l (x ∷ xs) h =
      let size = length-append (map (waits x.number) x.queue) (waiting_of xs) in
      let first = length-map x.queue (waits x.number) in
      elim (same_or_not x.number n) [
        | inl e ↦
            let same : Some x ≡ Some l = sym (line_hit n x xs e) ∙ h in
            let is : x ≡ l = cc in
            omega (arith, size, first, ap (λ (k : Line Q). length k.queue) is)
        | inr away ↦ omega (arith, size, queue_within n l xs (sym (line_miss n x xs away) ∙ h))
      ]

  -- the lines stay in order
  pub kept_placed : (n low top : ℕ) (made : Line Q → Line Q) (ls : List (Line Q)) → ((l : Line Q) → l.number ≡ n → IfSome l.live (λ r. r.gid.number ≡ l.number) → ((made l).number ≡ n) × IfSome (made l).live (λ r. r.gid.number ≡ n))
      → AreKept low top ls → AreKept low top (in_place n (λ l. made l ∷ []) ls)
  kept_placed n low top made [] f h = tt
  kept_placed n low top made (l ∷ ls) f h = elim (same_or_not l.number n) [
    | inl e ↦
        let new = f l e h.2 in
        let number : (made l).number ≡ l.number = new.0 ∙ sym e in
        subst (AreKept low top) (sym (place_hit n (λ k. made k ∷ []) l ls e))
        (omega (arith, number, h.0), omega (arith, number, h.1), subst (λ k. IfSome (made l).live (λ r. r.gid.number ≡ k)) (sym new.0) new.1, kept_le l.number (made l).number top ls (omega (arith, number)) h.3)
    | inr away ↦ subst (AreKept low top) (sym (place_miss n (λ k. made k ∷ []) l ls away)) (h.0, h.1, h.2, kept_placed n l.number top made ls f h.3)
  ]

  orphans_kept : (low top : ℕ) (l : Line Q) (items : List Q) (ls : List (Line Q)) → low < l.number → l.number ≤ top → AreKept l.number top ls → AreKept low top (orphans l items ++ ls)
  orphans_kept low top l [] ls lt le h = kept_le l.number low top ls (omega arith) h
  orphans_kept low top l (x ∷ xs) ls lt le h = (lt, le, tt, h)

  pub kept_killed : (n low top : ℕ) (ls : List (Line Q)) → AreKept low top ls → AreKept low top (in_place n left_behind ls)
  kept_killed n low top [] h = tt
  kept_killed n low top (l ∷ ls) h = elim (same_or_not l.number n) [
    | inl e ↦ subst (AreKept low top) (sym (place_hit n left_behind l ls e)) (orphans_kept low top l l.queue ls h.0 h.1 h.3)
    | inr away ↦ subst (AreKept low top) (sym (place_miss n left_behind l ls away)) (h.0, h.1, h.2, kept_killed n l.number top ls h.3)
  ]

  pub kept_added : (low top : ℕ) (ls : List (Line Q)) (m : Line Q) → low ≤ top → top < m.number → IfSome m.live (λ r. r.gid.number ≡ m.number) → AreKept low top ls → AreKept low m.number (ls ++ m ∷ [])
  kept_added low top [] m le lt live h = (omega arith, omega arith, live, tt)
  kept_added low top (l ∷ ls) m le lt live h = (h.0, omega (arith, h.1), h.2, kept_added l.number top ls m h.1 lt live h.3)

  -- a dead object has no record
  no_line : (n low top : ℕ) (ls : List (Line Q)) → n ≤ low → AreKept low top ls → line_of n ls ≡ None
  no_line n low top [] le h = refl
  no_line n low top (l ∷ ls) le h = line_miss n l ls (λ e. absurd (omega (arith, e, h.0))) ∙ no_line n l.number top ls (omega (arith, h.0)) h.3

  orphans_dead : (o : Id) (l : Line Q) (items : List Q) (ls : List (Line Q)) → l.number ≡ o.number → line_of o.number ls ≡ None → matched o (line_of o.number (orphans l items ++ ls)) ≡ None
  orphans_dead o l [] ls e h = ap (matched o) h
  orphans_dead o l (x ∷ xs) ls e h = ap (matched o) (line_hit o.number (record l { live = None }) ls e)

  pub killed_gone : (o : Id) (low top : ℕ) (ls : List (Line Q)) → AreKept low top ls → matched o (line_of o.number (in_place o.number left_behind ls)) ≡ None
  killed_gone o low top [] h = refl
  killed_gone o low top (l ∷ ls) h = elim (same_or_not l.number o.number) [
    | inl e ↦ ap (λ k. matched o (line_of o.number k)) (place_hit o.number left_behind l ls e) ∙ orphans_dead o l l.queue ls e (no_line o.number l.number top ls (omega (arith, e)) h.3)
    | inr away ↦ ap (λ k. matched o (line_of o.number k)) (place_miss o.number left_behind l ls away) ∙ ap (matched o) (line_miss o.number l _ away) ∙ killed_gone o l.number top ls h.3
  ]

  -- one more line, above all
  pub added_records : (ls : List (Line Q)) (m : Line Q) (r : Record) → m.live ≡ Some r → records_of (ls ++ m ∷ []) ≡ records_of ls ++ r ∷ []
  added_records ls m r e = records-append ls (m ∷ []) ∙ ap (λ slot. records_of ls ++ (option_to_list slot ++ [])) e

  pub added_waiting : (ls : List (Line Q)) (m : Line Q) → m.queue ≡ [] → waiting_of (ls ++ m ∷ []) ≡ waiting_of ls
  added_waiting ls m e = waiting-append ls (m ∷ []) ∙ ap (λ q. waiting_of ls ++ (map (waits m.number) q ++ [])) e ∙ append-nil (waiting_of ls)

  pub find_added : (o : Id) (low top : ℕ) (ls : List (Line Q)) (r : Record) → AreKept low top ls → top < r.gid.number
      → find_record o (records_of ls ++ r ∷ []) ≡ (if same_object o r.gid then Some r else find_record o (records_of ls))
  find_added o low top ls r h lt = find_last o (records_of ls) r (λ t.
      let above : top < o.number = omega (arith, (same_parts o r.gid t).2) in
      find_kept o low top ls h ∙ ap (matched o) (none_below o.number o.number ls (omega arith) (kept_below low top o.number ls above h)))

  -- there are no more records than numbers
  pub records_within : (low top : ℕ) (ls : List (Line Q)) → low ≤ top → AreKept low top ls → low + length (records_of ls) ≤ top
  records_within low top [] le h = omega arith
  records_within low top (l ∷ ls) le h = omega (arith, h.0, records_within l.number top ls h.1 h.3, length-append (option_to_list l.live) (records_of ls), at_most_one l.live)
