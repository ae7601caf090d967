-- A journal in parts, and how it grows by what one node writes.
use Rattle.std.proofs.Common.{ℕ, Bool, true, false, cond, List, [], ◌∷◌, ◌++◌, ◌≡◌, ◌≢◌, ◌+◌, ◌<◌, ◌≤◌, refl, sym, ap, ◌∙◌, subst, arith, inl, inr, append-nil}
use Rattle.std.specs.List.{list_any, sum_by, count_by}
use Rattle.std.proofs.lemmas.List.Sums.{sum_by-cons, sum_by-append}
use Rattle.std.proofs.lemmas.Bool.{eq-eqb, ne_eqb, cases_eq, cases_Bool}
use Rattle.hpx_journal.specs.Bags.{Covers}
use Rattle.hpx_journal.specs.Entries.{Event, Out, In, Entry, Rules, Frame, same_frame}
use Rattle.hpx_journal.specs.Local.{Local, after}
use Rattle.hpx_journal.specs.Foreign.{NodeKeeps, IsForeign}
use Rattle.hpx_journal.specs.Whole.{Space, step, run, IsLegalFrom, IsCarried, IsJoinFrom, part, at_place, arrives, arrives_at, road_after, run_local, IsClean, sends}
use Rattle.hpx_journal.specs.Laws.{HasGrammar, IsLegalLocal, road_run, AreAt, SameBag, ins, outs, outs_by}
use Rattle.hpx_journal.proofs.Same.{same_frame-refl}
use Rattle.hpx_journal.proofs.Wholes.{IsWhole, whole_step, at_same, at_other, road_moves}
use Rattle.hpx_journal.proofs.Joined.{part_same, part_other, not_foreign}

-- ---- the replay of the whole at k is the replay of the part of k

pub run_part : (r : Rules) (w : Space) (es : List Entry) (k : ℕ) → (run r w es).places k ≡ run_local r (w.places k) (part k es)
unfolding step
run_part r w [] k = refl
run_part r w (e ∷ es) k = elim (cases_eq e.at k) [
  | inl same ↦
      let a : run_local r (w.places k) (part k (e ∷ es)) ≡ run_local r (after r (w.places k) e.event) (part k es) =
      subst (λ j. run_local r (w.places j) (part j (e ∷ es)) ≡ run_local r (after r (w.places j) e.event) (part j es)) same
      (ap (run_local r (w.places e.at)) (part_same e es)) in
      let b : at_place w.places e.at (after r (w.places e.at) e.event) k ≡ after r (w.places k) e.event =
      subst (λ j. at_place w.places e.at (after r (w.places e.at) e.event) j ≡ after r (w.places j) e.event) same
      (at_same w.places e.at (after r (w.places e.at) e.event)) in
      run_part r (step r w e) es k ∙ (ap (λ s. run_local r s (part k es)) b ∙ sym a)
  | inr other ↦
      run_part r (step r w e) es k
      ∙ (ap (λ s. run_local r s (part k es)) (at_other w.places e.at (after r (w.places e.at) e.event) k other)
      ∙ ap (run_local r (w.places k)) (sym (part_other k e es other)))
]

-- ---- parts of a journal that grows

pub part_append : (k : ℕ) (xs ys : List Entry) → part k (xs ++ ys) ≡ part k xs ++ part k ys
part_append k [] ys = refl
part_append k (x ∷ xs) ys = elim (cases_eq x.at k) [
  | inl same ↦ rw (eq-eqb x.at k same) (ap (λ zs. x ∷ zs) (part_append k xs ys))
  | inr other ↦ rw (ne_eqb x.at k other) (part_append k xs ys)
]

pub part_at : (k : ℕ) (es : List Entry) → AreAt k es → part k es ≡ es
part_at k [] h = refl
part_at k (e ∷ es) h = rw (eq-eqb e.at k h.0) (ap (λ zs. e ∷ zs) (part_at k es h.1))

pub part_away : (j k : ℕ) (es : List Entry) → AreAt k es → k ≢ j → part j es ≡ []
part_away j k [] h d = refl
part_away j k (e ∷ es) h d = rw (ne_eqb e.at j (λ t. d (sym h.0 ∙ t))) (part_away j k es h.1 d)

pub carried_append : (r : Rules) (road : List Frame) (xs ys : List Entry) → IsCarried r road xs → IsCarried r (road_run road xs) ys
    → IsCarried r road (xs ++ ys)
carried_append r road [] ys h i = i
carried_append r road (x ∷ xs) ys h i = (h.0, h.1, carried_append r (road_after road x) xs ys h.2 i)

-- what a world's turn needs: the node at k keeps its part, and what it takes in is on the road
pub join_grows : (r : Rules) (w : Space) (old new : List Entry) (k : ℕ) → IsJoinFrom r w old → AreAt k new
    → (k < r.localities → NodeKeeps r (w.places k) (part k old ++ new)) → IsCarried r (road_run w.road old) new → IsJoinFrom r w (old ++ new)
join_grows r w old new k join here kept carried = record {
  parts = λ j h. elim (cases_eq k j) [
    | inl same ↦
        subst (NodeKeeps r (w.places j)) (sym (part_append j old new ∙ ap (λ zs. part j old ++ zs) (part_at j new (subst (λ i. AreAt i new) same here))))
        (subst (λ i. i < r.localities → NodeKeeps r (w.places i) (part i old ++ new)) same kept h)
    | inr other ↦
        subst (NodeKeeps r (w.places j))
        (sym (part_append j old new ∙ (ap (λ zs. part j old ++ zs) (part_away j k new here other) ∙ append-nil (part j old))))
        (join.parts j h)
  ];
  carried = carried_append r w.road old new join.carried carried;
}

-- fronts of parts and of joins
keeps_front : (r : Rules) (s : Local) (xs ys : List Entry) → NodeKeeps r s (xs ++ ys) → NodeKeeps r s xs
keeps_front r s [] ys h = tt
keeps_front r s (x ∷ xs) ys h = λ native. let k = h native in (k.0, k.1, keeps_front r (after r s x.event) xs ys k.2)

carried_front : (r : Rules) (road : List Frame) (xs ys : List Entry) → IsCarried r road (xs ++ ys) → IsCarried r road xs
carried_front r road [] ys h = tt
carried_front r road (x ∷ xs) ys h = (h.0, h.1, carried_front r (road_after road x) xs ys h.2)

pub join_front : (r : Rules) (w : Space) (es later : List Entry) → IsJoinFrom r w (es ++ later) → IsJoinFrom r w es
join_front r w es later join = record {
  parts = λ k h. keeps_front r (w.places k) (part k es) (part k later) (subst (NodeKeeps r (w.places k)) (part_append k es later) (join.parts k h));
  carried = carried_front r w.road es later join.carried;
}

-- a node's part, longer
pub keeps_append : (r : Rules) (s : Local) (xs ys : List Entry) → NodeKeeps r s xs
    → (IsClean r s xs → NodeKeeps r (run_local r s xs) ys) → NodeKeeps r s (xs ++ ys)
keeps_append r s [] ys h i = i tt
keeps_append r s (x ∷ xs) ys h i =
    λ native. let k = h native in (k.0, k.1, keeps_append r (after r s x.event) xs ys k.2 (λ clean. i (native, clean)))

-- ---- the road and a fabric's flight

abbrev frame_counts : Frame → Frame → ℕ
frame_counts f x = cond (same_frame f x) 1 0

no_count : (b : Bool) → b ≡ false → cond b 1 0 ≤ 0
no_count true h = cc
no_count false h = omega arith

any_from_count : (f : Frame) (xs : List Frame) → 1 ≤ count_by (same_frame f) xs → list_any (same_frame f) xs ≡ true
any_from_count f [] h = absurd (omega arith)
any_from_count f (x ∷ xs) h = elim (cases_Bool (same_frame f x)) [
  | inl t ↦ rw t refl
  | inr t ↦ rw t (any_from_count f xs (omega (arith, sum_by-cons (frame_counts f) x xs, no_count (same_frame f x) t)))
]

-- a frame that the fabric has in flight is on the road
pub flight_on_road : (f : Frame) (road flight : List Frame) → SameBag road flight → 1 ≤ count_by (same_frame f) flight
    → list_any (same_frame f) road ≡ true
flight_on_road f road flight same h = any_from_count f road (omega (arith, same f))

-- ---- each part of a legal journal is legal

pub legal_part : (r : Rules) (w : Space) (es : List Entry) → IsLegalFrom r w es → (k : ℕ) → IsLegalLocal r (w.places k) (part k es)
unfolding step
legal_part r w [] h k = tt
legal_part r w (e ∷ es) h k = elim (cases_eq e.at k) [
  | inl same ↦
      let b : at_place w.places e.at (after r (w.places e.at) e.event) e.at ≡ after r (w.places e.at) e.event =
      at_same w.places e.at (after r (w.places e.at) e.event) in
      let t : IsLegalLocal r (after r (w.places e.at) e.event) (part e.at es) =
      subst (λ s. IsLegalLocal r s (part e.at es)) b (legal_part r (step r w e) es h.1 e.at) in
      subst (λ j. IsLegalLocal r (w.places j) (part j (e ∷ es))) same
      (subst (IsLegalLocal r (w.places e.at)) (sym (part_same e es)) (h.0.allowed, t))
  | inr other ↦
      subst (IsLegalLocal r (w.places k)) (sym (part_other k e es other))
      (subst (λ s. IsLegalLocal r s (part k es)) (at_other w.places e.at (after r (w.places e.at) e.event) k other)
      (legal_part r (step r w e) es h.1 k))
]

-- ---- no entry of a legal journal is a foreign arrival

pub legal_clean : (r : Rules) (grammar : HasGrammar r) (w : Space) (es : List Entry) → IsWhole r w → IsLegalFrom r w es → (k : ℕ) → k < r.localities
    → IsClean r (w.places k) (part k es)
unfolding step
legal_clean r grammar w [] whole h k i = tt
legal_clean r grammar w (e ∷ es) whole h k i =
    let rest : IsClean r ((step r w e).places k) (part k es) = legal_clean r grammar (step r w e) es (whole_step r w e whole h.0) h.1 k i in
    elim (cases_eq e.at k) [
      | inl same ↦
          let native : IsForeign r (w.places e.at) e.event → ⊥ = not_foreign r w whole grammar e.at h.0.place e.event h.0.road in
          let b : at_place w.places e.at (after r (w.places e.at) e.event) e.at ≡ after r (w.places e.at) e.event =
          at_same w.places e.at (after r (w.places e.at) e.event) in
          let t : IsClean r (after r (w.places e.at) e.event) (part e.at es) =
          subst (λ s. IsClean r s (part e.at es)) b
          (subst (λ j. IsClean r (at_place w.places e.at (after r (w.places e.at) e.event) j) (part j es)) (sym same) rest) in
          subst (λ j. IsClean r (w.places j) (part j (e ∷ es))) same
          (subst (IsClean r (w.places e.at)) (sym (part_same e es)) (native, t))
      | inr other ↦
          subst (IsClean r (w.places k)) (sym (part_other k e es other))
          (subst (λ s. IsClean r s (part k es)) (at_other w.places e.at (after r (w.places e.at) e.event) k other) rest)
    ]

-- ---- the road

pub run_road : (r : Rules) (w : Space) (es : List Entry) → (run r w es).road ≡ road_run w.road es
unfolding step
run_road r w [] = refl
run_road r w (e ∷ es) = run_road r (step r w e) es

pub legal_carried : (r : Rules) (w : Space) (es : List Entry) → IsLegalFrom r w es → IsCarried r w.road es
unfolding step
legal_carried r w [] h = tt
legal_carried r w (e ∷ es) h = (h.0.place, h.0.road, legal_carried r (step r w e) es h.1)

sent_sum : (g : Frame → ℕ) (k : ℕ) (e : Event) → sum_by (λ (x : ℕ × Frame). g x.1) (outs_by k e) ≡ sum_by g (sends e)
sent_sum g k (Out to bytes) = refl
sent_sum g k _ = refl

-- what is on the road was sent and not yet accepted, whatever is counted of frames
pub road_sum : (r : Rules) (road : List Frame) (es : List Entry) → IsCarried r road es → (g : Frame → ℕ)
    → sum_by g (road_run road es) + sum_by g (ins es) ≡ sum_by g road + sum_by (λ (x : ℕ × Frame). g x.1) (outs es)
road_sum r road [] h g = omega arith
road_sum r road (e ∷ es) h g =
    omega (
      arith,
      road_sum r (road_after road e) es h.2 g,
      road_moves g road e h.1,
      sum_by-append g (arrives e) (ins es),
      sum_by-append (λ (x : ℕ × Frame). g x.1) (outs_by e.at e.event) (outs es),
      sent_sum g e.at e.event,
    )

-- ---- a join by counts: in every prefix each frame is taken in at most as often as it was sent

one_frame : (f : Frame) → 1 ≤ count_by (same_frame f) (f ∷ [])
one_frame f = rw (same_frame-refl f) (omega arith)

covers_by_count : (road : List Frame) (k : ℕ) (e : Event)
    → ((f : Frame) → count_by (same_frame f) (arrives_at k e) ≤ count_by (same_frame f) road + count_by (same_frame f) (sends e))
    → Covers same_frame road (arrives_at k e)
covers_by_count road k (In bytes) h =
    let f : Frame = (k, bytes) in
    (any_from_count f road (omega (arith, h f, one_frame f)), tt)
covers_by_count road k _ h = tt

pub carried_by_counts : (r : Rules) (road : List Frame) (es : List Entry)
    → ((p : List Entry) (e : Entry) (q : List Entry) → es ≡ p ++ e ∷ q → e.at < r.localities)
    → ((p q : List Entry) → es ≡ p ++ q → (f : Frame) → count_by (same_frame f) (ins p) ≤ count_by (same_frame f) road + count_by (λ x. same_frame f x.1) (outs p))
    → IsCarried r road es
carried_by_counts r road [] at h = tt
carried_by_counts r road (e ∷ es) at h =
    let c : Covers same_frame road (arrives e) = covers_by_count road e.at e.event
    (λ f. omega (
      arith,
      h (e ∷ []) es refl f,
      sum_by-append (frame_counts f) (arrives e) [],
      sum_by-append (λ (x : ℕ × Frame). frame_counts f x.1) (outs_by e.at e.event) [],
      sent_sum (frame_counts f) e.at e.event,
    )) in (
      at [] e es refl,
      c,
      carried_by_counts r (road_after road e) es
          (λ p x q t. at (e ∷ p) x q (ap (λ zs. e ∷ zs) t))
          (λ p q t f. omega (
            arith,
            h (e ∷ p) q (ap (λ zs. e ∷ zs) t) f,
            road_moves (frame_counts f) road e c,
            sum_by-append (frame_counts f) (arrives e) (ins p),
            sum_by-append (λ (x : ℕ × Frame). frame_counts f x.1) (outs_by e.at e.event) (outs p),
            sent_sum (frame_counts f) e.at e.event,
          )),
    )
