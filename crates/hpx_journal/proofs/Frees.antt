-- What is freed is dead.
use Rattle.std.proofs.Common.{ℕ, Bool, true, false, cond, List, [], ◌∷◌, ◌≡◌, Option, Some, refl, sym, ap, ◌∙◌, subst, inl, inr}
use Rattle.std.specs.List.{list_any}
use Rattle.std.specs.Prelude.{◌||◌}
use Rattle.std.proofs.lemmas.Bool.{cases_eq}
use Rattle.std.proofs.lemmas.List.Folds.{list_any-append}
use Rattle.hpx_value.specs.Ids.{Id}
use Rattle.hpx_journal.specs.Bags.{without, minus, Covers}
use Rattle.hpx_journal.specs.Data.{Parcel, Free}
use Rattle.hpx_journal.specs.Entries.{Event, Freed, Mail, Out, In, Entry, Frame, Rules, same_frame}
use Rattle.hpx_journal.specs.Local.{Local, after}
use Rattle.hpx_journal.specs.Rows.{Row, MayGo, LetsGo, IsDead}
use Rattle.hpx_journal.specs.Whole.{Space, step, run, IsLegalFrom, MayStand, sends, arrives, arrives_at, at_place}
use Rattle.hpx_journal.proofs.Bools.{or_left, or_right, or_cases}
use Rattle.hpx_journal.proofs.Same.{same_frame-true}
use Rattle.hpx_journal.proofs.Wholes.{IsWhole, whole_step, at_same, at_other}
use Rattle.hpx_journal.proofs.Life.{dead_step}

still_there_at : {X : Type 0} (p q : X → Bool) (b : Bool) (y : X) (ys : List X)
    → (list_any p (without q ys) ≡ true → list_any p ys ≡ true) → list_any p (cond b ys (y ∷ without q ys)) ≡ true → (p y || list_any p ys) ≡ true
still_there_at p q true y ys ih h = or_right (p y) (list_any p ys) h
still_there_at p q false y ys ih h = elim (or_cases (p y) (list_any p (without q ys)) h) [
  | inl t ↦ or_left (p y) (list_any p ys) t
  | inr t ↦ or_right (p y) (list_any p ys) (ih t)
]

-- what is left of a bag was in it
was_there : {X : Type 0} (p q : X → Bool) (xs : List X) → list_any p (without q xs) ≡ true → list_any p xs ≡ true
was_there p q [] h = h
was_there p q (y ∷ ys) h = still_there_at p q (q y) y ys (was_there p q ys) h

was_among : {K X : Type 0} (test : K → X → Bool) (p : X → Bool) (xs : List X) (ks : List K) → list_any p (minus test xs ks) ≡ true → list_any p xs ≡ true
was_among test p xs [] h = h
was_among test p xs (k ∷ ks) h = was_there p (test k) xs (was_among test p (without (test k) xs) ks h)

-- each Free on the road, and each that was the last entry of a locality, is of a dead object
pub record FreesDead (r : Rules) (w : Space) : Type 0 where
  pub road : (f : Frame) (o : Id) → list_any (same_frame f) w.road ≡ true → r.parcel_of f.1 ≡ Some (Free o) → IsDead o (w.places o.home)
  pub last : (k : ℕ) (bytes : List ℕ) (o : Id) → (w.places k).last ≡ Some (In bytes) → r.parcel_of bytes ≡ Some (Free o)
      → IsDead o (w.places o.home)

may_free : (s : Local) (to : ℕ) (p : Parcel) (o : Id) → MayGo s to p → Some p ≡ Some (Free o) → (s.here ≡ o.home) × IsDead o s
may_free s to p o h e = let t : p ≡ Free o = cc in rw t at h

sent_dead : (r : Rules) (s : Local) (e : Event) → Row r s e → (f : Frame) (o : Id) → list_any (same_frame f) (sends e) ≡ true
    → r.parcel_of f.1 ≡ Some (Free o) → (s.here ≡ o.home) × IsDead o s
sent_dead r s (Out to bytes) h f o there e =
    elim (or_cases (same_frame f (to, bytes)) false there) [
      | inl t ↦ let same : f.1 ≡ bytes = ap (λ g. g.1) (same_frame-true f (to, bytes) t) in
          may_free s to h.2.0 o h.2.3 (sym h.2.1 ∙ (ap r.parcel_of (sym same) ∙ e))
      | inr t ↦ absurd (cc)
    ]
sent_dead r s _ h f o there e = absurd (cc)

in_on_road : (road : List Frame) (k : ℕ) (e : Event) (bytes : List ℕ) → e ≡ In bytes → Covers same_frame road (arrives_at k e)
    → list_any (same_frame (k, bytes)) road ≡ true
in_on_road road k e bytes t h = (subst (λ x. Covers same_frame road (arrives_at k x)) t h).0

last_event : (r : Rules) (s : Local) (e : Event) → (after r s e).last ≡ Some e
unfolding after
last_event r s e = refl

the_event : (x : Option Event) (e y : Event) → x ≡ Some e → x ≡ Some y → e ≡ y
the_event x e y a b = cc

module _ (r : Rules) (w : Space) (e : Entry) (whole : IsWhole r w) (frees : FreesDead r w) (ok : MayStand r w e) where
  still : (o : Id) → IsDead o (w.places o.home) → IsDead o ((step r w e).places o.home)
  still o dead = dead_step r w e o o.home dead

  here_dead : (o : Id) → ((w.places e.at).here ≡ o.home) × IsDead o (w.places e.at) → IsDead o (w.places o.home)
  here_dead o h = subst (λ k. IsDead o (w.places k)) (sym (whole.here e.at) ∙ h.0) h.1

  road_step : (f : Frame) (o : Id) → list_any (same_frame f) (step r w e).road ≡ true → r.parcel_of f.1 ≡ Some (Free o)
      → IsDead o ((step r w e).places o.home)
  unfolding step
  road_step f o there t =
      let both = list_any-append (same_frame f) (sends e.event) (minus same_frame w.road (arrives e)) in
      elim (or_cases (list_any (same_frame f) (sends e.event)) (list_any (same_frame f) (minus same_frame w.road (arrives e))) (sym both ∙ there)) [
        | inl sent ↦ still o (here_dead o (sent_dead r (w.places e.at) e.event ok.allowed.row f o sent t))
        | inr kept ↦ still o (frees.road f o (was_among same_frame (same_frame f) w.road (arrives e) kept) t)
      ]

  last_step : (k : ℕ) (bytes : List ℕ) (o : Id) → ((step r w e).places k).last ≡ Some (In bytes) → r.parcel_of bytes ≡ Some (Free o)
      → IsDead o ((step r w e).places o.home)
  unfolding step
  last_step k bytes o h t = elim (cases_eq e.at k) [
    | inl same ↦
        let new : Local = after r (w.places e.at) e.event in
        let a : at_place w.places e.at new k ≡ new =
        subst (λ j. at_place w.places e.at new j ≡ new) same (at_same w.places e.at new) in
        let ev : e.event ≡ In bytes = the_event new.last e.event (In bytes) (last_event r (w.places e.at) e.event) (ap (λ x. x.last) (sym a) ∙ h) in
        still o (frees.road (e.at, bytes) o (in_on_road w.road e.at e.event bytes ev ok.road) t)
    | inr other ↦
        still o (frees.last k bytes o
        (ap (λ x. x.last) (sym (at_other w.places e.at (after r (w.places e.at) e.event) k other)) ∙ h) t)
  ]

  pub frees_step : FreesDead r (step r w e)
  frees_step = record { road = road_step; last = last_step }

  lets_go : (o : Id) (last : Option Event) → (w.places e.at).last ≡ last → LetsGo r (w.places e.at) o last → IsDead o (w.places o.home)
  lets_go o (Some (In bytes)) t h = frees.last e.at bytes o t h
  lets_go o (Some (Mail kind)) t h = here_dead o (sym h.1, h.2)
  lets_go o _ t h = absurd h

  -- what is freed is dead
  pub freed_dead : (o : Id) → e.event ≡ Freed o → IsDead o (w.places o.home)
  freed_dead o t =
      let row : Row r (w.places e.at) (Freed o) = subst (Row r (w.places e.at)) t ok.allowed.row in
      lets_go o (w.places e.at).last refl row.4

pub frees_run : (r : Rules) (w : Space) (es : List Entry) → IsWhole r w → FreesDead r w → IsLegalFrom r w es → FreesDead r (run r w es)
frees_run r w [] whole frees h = frees
frees_run r w (e ∷ es) whole frees h = frees_run r (step r w e) es (whole_step r w e whole h.0) (frees_step r w e whole frees h.0) h.1
