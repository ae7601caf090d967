-- What a table shows once a record or a queue has changed.
use Rattle.std.proofs.Common.{ℕ, true, false, ◌≡◌, ◌≢◌, ◌+◌, List, [], ◌∷◌, ◌++◌, map, Option, Some, None, is_some, IsSome, IsSomeAnd, IfSome, length, drop, refl, sym, ap, ◌∙◌, ◌<◌, ◌≤◌, arith, subst, inl, inr, append-nil, append_assoc}
use Rattle.std.specs.Prelude.{if◌then◌else◌, find, nat_le, ◌==◌}
use Rattle.std.proofs.lemmas.Bool.{eq-eqb}
use Rattle.std.proofs.lemmas.Bool.Decides.{nat_tests}
use Rattle.std.specs.Option.{option_to_list}
use Rattle.std.proofs.lemmas.Bool.{cases_Bool}
use Rattle.std.proofs.lemmas.List.{map-append}
use Rattle.hpx_value.specs.Ids.{Id, same_object}
use Rattle.hpx_agas.specs.declared.record.Record.{Record}
use Rattle.hpx_agas.specs.declared.record.Waiting.{Waiting}
use Rattle.hpx_agas.specs.declared.line.Line.{Line}
use Rattle.hpx_agas.specs.Records.{find_record, remade}
use Rattle.hpx_agas.specs.Queues.{items_of, waits, is_for, with_last, without_first}
use Rattle.hpx_agas.specs.Lines.{line_of, records_of, waiting_of, in_place, left_behind, orphans, AreKept, IsLive}
use Rattle.hpx_agas.proofs.QueuesLemmas.{items_hit, items_miss}
use Rattle.hpx_agas.proofs.RecordsLemmas.{apart, same_parts, same_tests}
use Rattle.hpx_agas.proofs.LinesLemmas.{same_or_not, not_eq, line_hit, line_miss, place_hit, place_miss, line_number, counted}
use Rattle.hpx_agas.proofs.TreesLemmas.{live_one, each_orphan, killed_count}
use Rattle.hpx_agas.proofs.ChangesLemmas.{line_with, line_placed, line_other}
use Rattle.hpx_agas.proofs.TablesLemmas.{own, matched, queue_in, find_kept, items_kept, same_records, same_waiting, weighed, kept_placed, kept_killed, killed_gone}

module _ {Q : Type 0} where
  -- the line and the record of an object that has one
  pub record There (o : Id) (ls : List (Line Q)) : Type 0 where
    pub line : Line Q
    pub found : line_of o.number ls ≡ Some line
    pub its : Record
    pub live : line.live ≡ Some its
    pub same : same_object o its.gid ≡ true

  pub there : (o : Id) (low top : ℕ) (ls : List (Line Q)) → AreKept low top ls → IsSome (find_record o (records_of ls)) → There o ls
  there o low top ls h some = at_line (line_of o.number ls) refl (subst (λ slot. IsSome slot) (find_kept o low top ls h) some)
    where
      at_record : (l : Line Q) → line_of o.number ls ≡ Some l → (slot : Option Record) → l.live ≡ slot → IsSome (own o slot) → There o ls
      at_record l f None e s = let no : false ≡ true = s in cc
      at_record l f (Some r) e s = elim (cases_Bool (same_object o r.gid)) [
        | inl t ↦ record { line = l; found = f; its = r; live = e; same = t }
        | inr away ↦ let s' : IsSome (if same_object o r.gid then Some r else None) = s in let bad : false ≡ true = rw away at s' in cc
      ]

      at_line : (slot : Option (Line Q)) → line_of o.number ls ≡ slot → IsSome (matched o slot) → There o ls
      at_line None e s = let no : false ≡ true = s in cc
      at_line (Some l) e s = at_record l e l.live refl s

  -- an object that is not told apart from another has no other record
  not_own : (o g : Id) (ls : List (Line Q)) (t : There g ls) → same_object o g ≡ false → own o t.line.live ≡ None
  not_own o g ls t away =
      let f : same_object o t.its.gid ≡ false = sym (same_tests o g t.its.gid t.same) ∙ away in
      rw (t.live, f) refl

  found_line : (o g : Id) (ls : List (Line Q)) (t : There g ls) → o.number ≡ g.number → line_of o.number ls ≡ Some t.line
  found_line o g ls t e = ap (λ n. line_of n ls) e ∙ t.found

  -- another record stands for an object
  pub put_kept : (top : ℕ) (made : Record) (ls new : List (Line Q)) → AreKept 0 top ls → new ≡ in_place made.gid.number (λ l. record l { live = Some made } ∷ []) ls → AreKept 0 top new
  put_kept top made ls new h is = subst (AreKept 0 top) (sym is) (kept_placed made.gid.number 0 top (λ l. record l { live = Some made }) ls (λ l e _. (e, refl)) h)

  pub put_found : (top : ℕ) (made : Record) (ls new : List (Line Q)) → AreKept 0 top ls → There made.gid ls → new ≡ in_place made.gid.number (λ l. record l { live = Some made } ∷ []) ls
      → (o : Id) → find_record o (records_of new) ≡ (if same_object o made.gid then Some made else find_record o (records_of ls))
  put_found top made ls new h t is o =
      let kept = put_kept top made ls new h is in
      let first : find_record o (records_of new) ≡ matched o (line_of o.number new) = find_kept o 0 top new kept in
      elim (same_or_not o.number made.gid.number) [
        | inl e ↦
            let line : line_of o.number new ≡ Some (record t.line { live = Some made }) =
            ap (λ n. line_of n new) e ∙ ap (line_of made.gid.number) is ∙ line_placed made.gid.number (λ l. record l { live = Some made }) t.line ls (λ l k. k) t.found in
            elim (cases_Bool (same_object o made.gid)) [
              | inl y ↦ first ∙ ap (matched o) line ∙ rw y refl
              | inr n ↦
                  let old : find_record o (records_of ls) ≡ None = find_kept o 0 top ls h ∙ ap (matched o) (found_line o made.gid ls t e) ∙ not_own o made.gid ls t n in
                  first ∙ ap (matched o) line ∙ rw (n, old) refl
            ]
        | inr away ↦
            let line : line_of o.number new ≡ line_of o.number ls =
            ap (line_of o.number) is ∙ line_other o.number made.gid.number (λ l. record l { live = Some made } ∷ []) ls away (λ l e. (λ s. away (sym s ∙ e), tt)) in
            let n : same_object o made.gid ≡ false = apart o made.gid away in
            first ∙ ap (matched o) line ∙ sym (find_kept o 0 top ls h) ∙ rw n refl
      ]

  pub put_waiting : (made : Record) (ls new : List (Line Q)) → new ≡ in_place made.gid.number (λ l. record l { live = Some made } ∷ []) ls → waiting_of new ≡ waiting_of ls
  put_waiting made ls new is = ap waiting_of is ∙ same_waiting made.gid.number (λ l. record l { live = Some made } ∷ []) ls (λ l _. append-nil (map (waits l.number) l.queue))

  pub put_length : (made : Record) (ls new : List (Line Q)) → There made.gid ls → new ≡ in_place made.gid.number (λ l. record l { live = Some made } ∷ []) ls → length (records_of new) ≡ length (records_of ls)
  put_length made ls new t is =
      let c = counted made.gid.number (λ l. record l { live = Some made } ∷ []) t.line ls t.found in
      let one : length (option_to_list t.line.live) ≡ 1 = live_one t.line.live (ap (λ slot. is_some slot) t.live) in
      omega (arith, ap (λ k. length (records_of k)) is, c, one)

  -- an object has died
  pub killed_found : (top : ℕ) (g : Id) (ls new : List (Line Q)) → AreKept 0 top ls → There g ls → new ≡ in_place g.number left_behind ls
      → (o : Id) → find_record o (records_of new) ≡ (if same_object o g then None else find_record o (records_of ls))
  killed_found top g ls new h t is o =
      let kept : AreKept 0 top new = subst (AreKept 0 top) (sym is) (kept_killed g.number 0 top ls h) in
      let first : find_record o (records_of new) ≡ matched o (line_of o.number new) = find_kept o 0 top new kept in
      elim (same_or_not o.number g.number) [
        | inl e ↦
            let gone : matched o (line_of o.number new) ≡ None =
            ap (λ k. matched o (line_of o.number k)) (is ∙ ap (λ n. in_place n left_behind ls) (sym e)) ∙ killed_gone o 0 top ls h in
            elim (cases_Bool (same_object o g)) [
              | inl y ↦ first ∙ gone ∙ rw y refl
              | inr n ↦
                  let old : find_record o (records_of ls) ≡ None = find_kept o 0 top ls h ∙ ap (matched o) (found_line o g ls t e) ∙ not_own o g ls t n in
                  first ∙ gone ∙ rw (n, old) refl
            ]
        | inr away ↦
            let line : line_of o.number new ≡ line_of o.number ls =
            ap (line_of o.number) is ∙ line_other o.number g.number left_behind ls away (λ l e. each_orphan (λ k. k ≢ o.number) l l.queue (λ s. away (sym s ∙ e))) in
            let n : same_object o g ≡ false = apart o g away in
            first ∙ ap (matched o) line ∙ sym (find_kept o 0 top ls h) ∙ rw n refl
      ]

  left_waiting : (l : Line Q) (items : List Q) → l.queue ≡ items → waiting_of (orphans l items) ≡ map (waits l.number) l.queue
  left_waiting l [] e = ap (map (waits l.number)) (sym e)
  left_waiting l (x ∷ xs) e = append-nil (map (waits l.number) l.queue)

  pub killed_waiting : (n : ℕ) (ls new : List (Line Q)) → new ≡ in_place n left_behind ls → waiting_of new ≡ waiting_of ls
  killed_waiting n ls new is = ap waiting_of is ∙ same_waiting n left_behind ls (λ l _. left_waiting l l.queue refl)

  pub killed_length : (g : Id) (ls new : List (Line Q)) → There g ls → new ≡ in_place g.number left_behind ls → length (records_of new) + 1 ≡ length (records_of ls)
  killed_length g ls new t is =
      let live : IsSomeAnd (line_of g.number ls) IsLive = rw t.found (ap (λ slot. is_some slot) t.live) in
      omega (arith, ap (λ k. length (records_of k)) is, killed_count g.number ls live)

  -- a queue has changed
  pub record Requeued (top : ℕ) (ls new : List (Line Q)) (n : ℕ) (before after : List Q) : Type 0 where
    pub kept : AreKept 0 top new
    pub records : records_of new ≡ records_of ls
    pub old : items_of n (waiting_of ls) ≡ before
    pub here : items_of n (waiting_of new) ≡ after
    pub others : (m : ℕ) → m ≢ n → items_of m (waiting_of new) ≡ items_of m (waiting_of ls)
    pub weights : (weight : List (Waiting Q) → ℕ) → ((xs ys : List (Waiting Q)) → weight (xs ++ ys) ≡ weight xs + weight ys)
        → weight (waiting_of new) + weight (map (waits n) before) ≡ weight (waiting_of ls) + weight (map (waits n) after)

  pub requeued : (top n : ℕ) (f : List Q → List Q) (l : Line Q) (ls new : List (Line Q)) → AreKept 0 top ls → line_of n ls ≡ Some l
      → new ≡ in_place n (λ k. record k { queue = f k.queue } ∷ []) ls → Requeued top ls new n l.queue (f l.queue)
  requeued top n f l ls new h found is =
      let made : Line Q → Line Q = λ k. record k { queue = f k.queue } in
      let kept : AreKept 0 top new = subst (AreKept 0 top) (sym is) (kept_placed n 0 top made ls (λ k e live. (e, subst (λ z. IfSome k.live (λ r. r.gid.number ≡ z)) e live)) h) in
      let number : l.number ≡ n = line_number n l ls found in
      record {
        kept = kept;
        records = ap records_of is ∙ same_records n (λ k. made k ∷ []) ls (λ k _. append-nil (option_to_list k.live));
        old = items_kept n 0 top ls h ∙ ap queue_in found;
        here = items_kept n 0 top new kept ∙ ap (λ k. queue_in (line_of n k)) is ∙ ap queue_in (line_placed n made l ls (λ k e. e) found);
        others = λ m away.
            items_kept m 0 top new kept ∙ ap (λ k. queue_in (line_of m k)) is
            ∙ ap queue_in (line_other m n (λ k. made k ∷ []) ls away (λ k e. (λ s. away (sym s ∙ e), tt))) ∙ sym (items_kept m 0 top ls h);
        weights = λ weight add.
            let w = weighed weight add n made l ls found in
            let new_is : weight (waiting_of new) ≡ weight (waiting_of (in_place n (λ k. made k ∷ []) ls)) = ap (λ k. weight (waiting_of k)) is in
            let before_is : weight (map (waits n) l.queue) ≡ weight (map (waits l.number) l.queue) = ap (λ k. weight (map (waits k) l.queue)) (sym number) in
            let after_is : weight (map (waits n) (f l.queue)) ≡ weight (map (waits l.number) (f l.queue)) = ap (λ k. weight (map (waits k) (f l.queue))) (sym number) in
            omega (arith, w, new_is, before_is, after_is);
      }

  -- an item at the end of a queue, and at its front
  pub weight_last : (weight : List (Waiting Q) → ℕ) → ((xs ys : List (Waiting Q)) → weight (xs ++ ys) ≡ weight xs + weight ys) → (n : ℕ) (items : List Q) (x : Q)
      → weight (map (waits n) (items ++ x ∷ [])) ≡ weight (map (waits n) items) + weight (waits n x ∷ [])
  weight_last weight add n items x = ap weight (map-append (waits n) items (x ∷ [])) ∙ add (map (waits n) items) (waits n x ∷ [])

  pub weight_first : (weight : List (Waiting Q) → ℕ) → ((xs ys : List (Waiting Q)) → weight (xs ++ ys) ≡ weight xs + weight ys) → (n : ℕ) (x : Q) (items rest : List Q) → items ≡ x ∷ rest
      → weight (map (waits n) items) ≡ weight (waits n x ∷ []) + weight (map (waits n) rest)
  weight_first weight add n x items rest e = ap (λ q. weight (map (waits n) q)) e ∙ add (waits n x ∷ []) (map (waits n) rest)

  -- nothing has changed where nothing waited
  pub untouched : (n : ℕ) (l : Line Q) (ls : List (Line Q)) → line_of n ls ≡ Some l → l.queue ≡ [] → in_place n (λ k. record k { queue = drop 1 k.queue } ∷ []) ls ≡ ls
  untouched n l [] h e = cc
  untouched n l (x ∷ xs) h e = elim (same_or_not x.number n) [
    | inl hit ↦
        let same : Some x ≡ Some l = sym (line_hit n x xs hit) ∙ h in
        let is : x ≡ l = cc in
        let none : x.queue ≡ [] = ap (λ (k : Line Q). k.queue) is ∙ e in
        place_hit n (λ k. record k { queue = drop 1 k.queue } ∷ []) x xs hit ∙ ap (λ q. line_with x.number x.live q ∷ xs) (ap (drop 1) none ∙ sym none)
    | inr away ↦ place_miss n (λ k. record k { queue = drop 1 k.queue } ∷ []) x xs away ∙ ap (λ k. x ∷ k) (untouched n l xs (sym (line_miss n x xs away) ∙ h) e)
  ]

-- records with one made anew: those of other numbers stay
remade_past : (o : Id) (made : Record → Record) (n : ℕ) (slot : Option Record) (rs : List Record) → IfSome slot (λ r. r.gid.number ≡ n) → n ≢ o.number
    → remade o made (option_to_list slot ++ rs) ≡ option_to_list slot ++ remade o made rs
remade_past o made n None rs h away = refl
remade_past o made n (Some r) rs h away = let f : same_object o r.gid ≡ false = apart o r.gid (λ e. away (sym h ∙ sym e)) in rw f refl

remade_first : (o : Id) (made : Record → Record) (slot : Option Record) (r : Record) (rs : List Record) → slot ≡ Some r → same_object o r.gid ≡ true
    → remade o made (option_to_list slot ++ rs) ≡ made r ∷ rs
remade_first o made slot r rs is same = rw (is, same) refl

-- ids of one object, and what is made of the record that is found
pub remade_like : (a b : Id) (made : Record → Record) (rs : List Record) → same_object a b ≡ true → remade a made rs ≡ remade b made rs
remade_like a b made rs h = let e = same_parts a b h in rw (e.0, e.1, e.2) refl

pub remade_found : (o : Id) (made : Record → Record) (r : Record) (rs : List Record) → find_record o rs ≡ Some r → remade o (λ _. made r) rs ≡ remade o made rs
remade_found o made r [] h = refl
remade_found o made r (x ∷ xs) h = elim (cases_Bool (same_object o x.gid)) [
  | inl t ↦ let e : Some x ≡ Some r = rw t at h in let is : x ≡ r = cc in rw (t, is) refl
  | inr f ↦ let e : find_record o xs ≡ Some r = rw f at h in rw f (ap (λ k. x ∷ k) (remade_found o made r xs e))
]

module _ {Q : Type 0} where
  remade_placed : (low top : ℕ) (made : Record) (l : Line Q) (its : Record) (ls : List (Line Q)) → AreKept low top ls → line_of made.gid.number ls ≡ Some l → l.live ≡ Some its
      → same_object made.gid its.gid ≡ true → records_of (in_place made.gid.number (λ k. record k { live = Some made } ∷ []) ls) ≡ remade made.gid (λ _. made) (records_of ls)
  remade_placed low top made l its [] h found live same = cc
  remade_placed low top made l its (x ∷ xs) h found live same = elim (same_or_not x.number made.gid.number) [
    | inl e ↦
        let first : Some x ≡ Some l = sym (line_hit made.gid.number x xs e) ∙ found in
        let is : x ≡ l = cc in
        ap records_of (place_hit made.gid.number (λ k. record k { live = Some made } ∷ []) x xs e)
        ∙ sym (remade_first made.gid (λ _. made) x.live its (records_of xs) (ap (λ (k : Line Q). k.live) is ∙ live) same)
    | inr away ↦
        ap records_of (place_miss made.gid.number (λ k. record k { live = Some made } ∷ []) x xs away)
        ∙ ap (λ rs. option_to_list x.live ++ rs) (remade_placed x.number top made l its xs h.3 (sym (line_miss made.gid.number x xs away) ∙ found) live same)
        ∙ sym (remade_past made.gid (λ _. made) x.number x.live (records_of xs) h.2 away)
  ]

  pub put_records : (top : ℕ) (made : Record) (ls new : List (Line Q)) → AreKept 0 top ls → There made.gid ls → new ≡ in_place made.gid.number (λ l. record l { live = Some made } ∷ []) ls
      → records_of new ≡ remade made.gid (λ _. made) (records_of ls)
  put_records top made ls new h t is = ap records_of is ∙ remade_placed 0 top made t.line t.its ls h t.found t.live t.same

  -- ---- what waits, with one more

  last_past : (w : Waiting Q) (m : ℕ) (items : List Q) (ws : List (Waiting Q)) → m ≤ w.number → with_last w (map (waits m) items ++ ws) ≡ map (waits m) items ++ with_last w ws
  last_past w m [] ws le = refl
  last_past w m (x ∷ xs) ws le = let t : nat_le m w.number ≡ true = search (arith, nat_tests, le) in rw t (ap (λ k. waits m x ∷ k) (last_past w m xs ws le))

  last_front : (w : Waiting Q) (low top : ℕ) (ls : List (Line Q)) → w.number ≤ low → AreKept low top ls → with_last w (waiting_of ls) ≡ w ∷ waiting_of ls
  last_front w low top [] le h = refl
  last_front w low top (l ∷ ls) le h = each l.queue (last_front w l.number top ls (omega (arith, le, h.0)) h.3)
    where
      each : (q : List Q) → with_last w (waiting_of ls) ≡ w ∷ waiting_of ls → with_last w (map (waits l.number) q ++ waiting_of ls) ≡ w ∷ (map (waits l.number) q ++ waiting_of ls)
      each [] rest = rest
      each (x ∷ xs) rest = let lt : w.number < l.number = omega (arith, le, h.0) in let f : nat_le l.number w.number ≡ false = search (arith, nat_tests, lt) in rw f refl

  found_above : (n low top : ℕ) (l : Line Q) (ls : List (Line Q)) → AreKept low top ls → line_of n ls ≡ Some l → low < n
  found_above n low top l [] h found = cc
  found_above n low top l (x ∷ xs) h found = elim (same_or_not x.number n) [
    | inl e ↦ omega (arith, e, h.0)
    | inr away ↦ omega (arith, h.0, found_above n x.number top l xs h.3 (sym (line_miss n x xs away) ∙ found))
  ]

  pub last_placed : (n low top : ℕ) (item : Q) (l : Line Q) (ls : List (Line Q)) → AreKept low top ls → line_of n ls ≡ Some l
      → waiting_of (in_place n (λ k. record k { queue = k.queue ++ item ∷ [] } ∷ []) ls) ≡ with_last (waits n item) (waiting_of ls)
  last_placed n low top item l [] h found = cc
  last_placed n low top item l (x ∷ xs) h found = elim (same_or_not x.number n) [
    | inl e ↦
        ap waiting_of (place_hit n (λ k. record k { queue = k.queue ++ item ∷ [] } ∷ []) x xs e)
        ∙ ap (λ k. k ++ waiting_of xs) (map-append (waits x.number) x.queue (item ∷ []))
        ∙ append_assoc (map (waits x.number) x.queue) (waits x.number item ∷ []) (waiting_of xs)
        ∙ ap (λ k. map (waits x.number) x.queue ++ waits k item ∷ waiting_of xs) e
        ∙ sym (last_past (waits n item) x.number x.queue (waiting_of xs) (omega (arith, e))
        ∙ ap (λ k. map (waits x.number) x.queue ++ k) (last_front (waits n item) x.number top xs (omega (arith, e)) h.3))
    | inr away ↦
        let later = sym (line_miss n x xs away) ∙ found in
        ap waiting_of (place_miss n (λ k. record k { queue = k.queue ++ item ∷ [] } ∷ []) x xs away)
        ∙ ap (λ k. map (waits x.number) x.queue ++ k) (last_placed n x.number top item l xs h.3 later)
        ∙ sym (last_past (waits n item) x.number x.queue (waiting_of xs) (let k : x.number < n = found_above n x.number top l xs h.3 later in omega (arith, k)))
  ]

  -- ---- and without the first

  first_past : (n m : ℕ) (items : List Q) (ws : List (Waiting Q)) → m ≢ n → without_first n (map (waits m) items ++ ws) ≡ map (waits m) items ++ without_first n ws
  first_past n m [] ws away = refl
  first_past n m (x ∷ xs) ws away = let f : (m == n) ≡ false = not_eq m n away in rw f (ap (λ k. waits m x ∷ k) (first_past n m xs ws away))

  first_goes : (n : ℕ) (item : Q) (q : List Q) (rest : List Q) (ws : List (Waiting Q)) → q ≡ item ∷ rest → map (waits n) (drop 1 q) ++ ws ≡ without_first n (map (waits n) q ++ ws)
  first_goes n item q rest ws is = let t : (n == n) ≡ true = eq-eqb n n refl in rw is (rw t refl)

  pub first_placed : (n : ℕ) (item : Q) (rest : List Q) (l : Line Q) (ls : List (Line Q)) → line_of n ls ≡ Some l → l.queue ≡ item ∷ rest
      → waiting_of (in_place n (λ k. record k { queue = drop 1 k.queue } ∷ []) ls) ≡ without_first n (waiting_of ls)
  first_placed n item rest l [] found is = cc
  first_placed n item rest l (x ∷ xs) found is = elim (same_or_not x.number n) [
    | inl e ↦
        let first : Some x ≡ Some l = sym (line_hit n x xs e) ∙ found in
        let same : x ≡ l = cc in
        ap waiting_of (place_hit n (λ k. record k { queue = drop 1 k.queue } ∷ []) x xs e)
        ∙ ap (λ k. map (waits k) (drop 1 x.queue) ++ waiting_of xs) e
        ∙ first_goes n item x.queue rest (waiting_of xs) (ap (λ (k : Line Q). k.queue) same ∙ is)
        ∙ ap (λ k. without_first n (map (waits k) x.queue ++ waiting_of xs)) (sym e)
    | inr away ↦
        ap waiting_of (place_miss n (λ k. record k { queue = drop 1 k.queue } ∷ []) x xs away)
        ∙ ap (λ k. map (waits x.number) x.queue ++ k) (first_placed n item rest l xs (sym (line_miss n x xs away) ∙ found) is)
        ∙ sym (first_past n x.number x.queue (waiting_of xs) away)
  ]

  pub first_found : (n : ℕ) (item : Q) (rest : List Q) (ws : List (Waiting Q)) → items_of n ws ≡ item ∷ rest → find (is_for n) ws ≡ Some (waits n item)
  first_found n item rest [] h = cc
  first_found n item rest (w ∷ ws) h = elim (same_or_not w.number n) [
    | inl e ↦
        let t : (w.number == n) ≡ true = eq-eqb w.number n e in
        let all : w.item ∷ items_of n ws ≡ item ∷ rest = sym (items_hit n w ws e) ∙ h in
        let same : w.item ≡ item = cc in
        rw t (ap Some (ap (λ k. waits k w.item) e ∙ ap (waits n) same))
    | inr away ↦ let f : (w.number == n) ≡ false = not_eq w.number n away in rw f (first_found n item rest ws (sym (items_miss n w ws away) ∙ h))
  ]
