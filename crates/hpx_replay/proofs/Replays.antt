-- One entry more, in all localities.
use Rattle.std.proofs.Common.{ℕ, zero, suc, Bool, true, false, cond, List, [], ◌∷◌, ◌++◌, ◌≡◌, ◌≢◌, ◌+◌, ◌<◌, ◌↔◌, IsTrue, Some, length, get_or, set, take, refl, sym, ap, ◌∙◌, subst, arith, inl, inr}
use Rattle.std.specs.Prelude.{◌==◌}
use Rattle.std.specs.List.{slice_get}
use Rattle.std.proofs.lemmas.Option.{slice_get_read}
use Rattle.std.proofs.lemmas.List.{length-set, length_push, take_more}
use Rattle.std.proofs.lemmas.Bool.{eqb-true, eq-eqb, cases_eq}
use Rattle.hpx_replay.specs.declared.space.Space.{Space as Placed}
use Rattle.hpx_journal.specs.Bags.{Covers}
use Rattle.hpx_journal.specs.Entries.{Rules, same_frame}
use Rattle.hpx_journal.specs.declared.entry.Entry.{Entry}
use Rattle.hpx_journal.specs.Local.{after}
use Rattle.hpx_journal.specs.declared.local.Local.{Local}
use Rattle.hpx_journal.specs.Whole.{Space, MayStand, IsLegal, IsLegalFrom, arrives, road_after, step, run, replayed, start}
use Rattle.hpx_journal.specs.Roots.{roots}
use Rattle.hpx_replay.specs.Spaces.{MayEnter, Shows}
use Rattle.hpx_journal.proofs.Fronts.{run_append}

-- ---- one more, and one written

pub get_push : {X : Type 0} (xs : List X) (x : X) (k : ℕ) → k < length xs → slice_get (xs ++ x ∷ []) k ≡ slice_get xs k
get_push [] x k h = absurd (omega (arith, h))
get_push (y ∷ xs) x zero h = refl
get_push (y ∷ xs) x (suc k) h = get_push xs x k (omega arith)

pub get_last : {X : Type 0} (xs : List X) (x : X) → slice_get (xs ++ x ∷ []) (length xs) ≡ Some x
get_last [] x = refl
get_last (y ∷ xs) x = get_last xs x

pub get_set : {X : Type 0} (xs : List X) (i : ℕ) (x : X) → i < length xs → slice_get (set xs i x) i ≡ Some x
get_set [] i x h = absurd (omega (arith, h))
get_set (y ∷ xs) zero x h = refl
get_set (y ∷ xs) (suc i) x h = get_set xs i x (omega arith)

pub get_other : {X : Type 0} (xs : List X) (i k : ℕ) (x : X) → i ≢ k → slice_get (set xs i x) k ≡ slice_get xs k
get_other [] i k x d = refl
get_other (y ∷ xs) zero zero x d = absurd (d refl)
get_other (y ∷ xs) zero (suc k) x d = refl
get_other (y ∷ xs) (suc i) zero x d = refl
get_other (y ∷ xs) (suc i) (suc k) x d = get_other xs i k x (λ e. d (ap suc e))

-- each locality so far, and one more
pub each_more : {X : Type 0} (xs ys : List X) (x : X) (at : ℕ → X) (k : ℕ) → ys ≡ xs ++ x ∷ [] → length xs ≡ k → x ≡ at k
    → ((j : ℕ) → j < k → slice_get xs j ≡ Some (at j)) → (j : ℕ) → j < k + 1 → slice_get ys j ≡ Some (at j)
each_more xs ys x at k e n i h j l = elim (cases_eq j k) [
  | inl q ↦
      let m : j ≡ length xs = q ∙ sym n in
      rw (e, m) (get_last xs x ∙ ap (λ y. Some y) (i ∙ ap at (sym n)))
  | inr d ↦ rw e (get_push xs x j (omega arith) ∙ h j (omega arith))
]

pub length_more : {X : Type 0} (xs ys : List X) (x : X) (k : ℕ) → ys ≡ xs ++ x ∷ [] → length xs ≡ k → length ys ≡ k + 1
length_more xs ys x k e n = rw e (length_push xs x ∙ ap (λ m. m + 1) n)

-- ---- an entry

module _ (r : Rules) (s : Placed) (w : Space) (e : Entry) (shown : Shows r s w) (within : e.at < r.localities) (p : Local)
    (at : p ≡ get_or s.places.items e.at p) where
  here_is : p ≡ w.places e.at
  here_is =
      let k : slice_get s.places.items e.at ≡ Some p =
      slice_get_read s.places.items (length s.places.items) e.at p refl (let n : length s.places.items ≡ r.localities = shown.count in omega arith) at in
      let l : slice_get s.places.items e.at ≡ Some (w.places e.at) = shown.places e.at within in
      let m : Some p ≡ Some (w.places e.at) = sym k ∙ l in cc

  pub stands_here : (b : Bool) → Covers same_frame s.road (arrives e) → p.here ≡ e.at → IsTrue b ↔ MayEnter r p e.event → IsTrue b ↔ MayStand r w e
  stands_here b road home h =
      let P : Local → Type 0 = λ x. MayEnter r x e.event in
      let Q : List _ → Type 0 = λ xs. Covers same_frame xs (arrives e) in (
        λ t.
            let m = subst P here_is (h.0 t) in
            record {
              place = within;
              allowed = record {
                here = sym home ∙ ap (λ x. x.here) here_is;
                turn = m.write.turn;
                tokens = m.tokens;
                bare = m.write.bare;
                row = m.write.row;
              };
              road = subst Q shown.road road;
            },
        λ m. h.1 (subst P (sym here_is) (record {
          write = record { turn = m.allowed.turn; bare = m.allowed.bare; row = m.allowed.row };
          tokens = m.allowed.tokens;
        })),
      )

  stepped_at : (k : ℕ) (b : Bool) (v : Local) (t : Placed) → (e.at == k) ≡ b → k < r.localities → v ≡ after r p e.event
      → t.places.items ≡ set s.places.items e.at v → slice_get t.places.items k ≡ Some (cond b (after r (w.places e.at) e.event) (w.places k))
  stepped_at k true v t q l i j =
      let a : e.at ≡ k = eqb-true e.at k q in
      rw (j, ← a) (get_set s.places.items e.at v (let n : length s.places.items ≡ r.localities = shown.count in omega arith)
      ∙ ap (λ x. Some x) (i ∙ ap (λ x. after r x e.event) here_is))
  stepped_at k false v t q l i j =
      rw j (get_other s.places.items e.at k v (λ a. let x : true ≡ false = sym (eq-eqb e.at k a) ∙ q in cc) ∙ shown.places k l)

  pub stepped : (v : Local) (t : Placed) → v ≡ after r p e.event → t.places.items ≡ set s.places.items e.at v → t.road ≡ road_after s.road e
      → Shows r t (step r w e)
  unfolding step
  stepped v t i j q = record {
    count = rw j (length-set s.places.items e.at v ∙ shown.count);
    places = λ k l. stepped_at k (e.at == k) v t refl l i j;
    road = q ∙ ap (λ x. road_after x e) shown.road;
  }

-- ---- a journal

legal_more : (r : Rules) (w : Space) (es : List Entry) (e : Entry) → IsLegalFrom r w es → MayStand r (run r w es) e
    → IsLegalFrom r w (es ++ e ∷ [])
legal_more r w [] e h m = (m, tt)
legal_more r w (x ∷ es) e h m = (h.0, legal_more r (step r w x) es e h.1 m)

at_front : (es : List Entry) (i : ℕ) (e : Entry) → i < length es → e ≡ get_or es i e → take (i + 1) es ≡ take i es ++ e ∷ []
at_front es i e within at = take_more es i e within ∙ ap (λ x. take i es ++ x ∷ []) (sym at)

pub legal_next : (r : Rules) (es : List Entry) (i : ℕ) (e : Entry) → i < length es → e ≡ get_or es i e → IsLegal r (take i es)
    → MayStand r (replayed r (take i es)) e → IsLegal r (take (i + 1) es)
legal_next r es i e within at h m =
    let P : List Entry → Type 0 = λ xs. IsLegal r xs in
    subst P (sym (at_front es i e within at)) (legal_more r (start (roots r.localities)) (take i es) e h m)

pub shows_next : (r : Rules) (es : List Entry) (i : ℕ) (e : Entry) (t : Placed) → i < length es → e ≡ get_or es i e
    → Shows r t (step r (replayed r (take i es)) e) → Shows r t (replayed r (take (i + 1) es))
shows_next r es i e t within at h =
    let P : Space → Type 0 = λ w. Shows r t w in
    subst P (sym (ap (replayed r) (at_front es i e within at) ∙ run_append r (start (roots r.localities)) (take i es) (e ∷ []))) h
