-- Names are no more than credits, so what is dead is not named.
use Rattle.std.proofs.Common.{ℕ, Bool, true, false, cond, not, List, [], ◌∷◌, ◌++◌, ◌≡◌, ◌+◌, ◌^◌, ◌<◌, ◌≤◌, Option, Some, None, refl, sym, ap, subst, arith, inl, inr, map, append-nil, append_assoc}
use Rattle.std.specs.List.{sum_by, count_by, AllByRecursion}
use Rattle.std.specs.Prelude.{◌&&◌, MatchOption}
use Rattle.std.proofs.lemmas.List.Sums.{sum_by-cons}
use Rattle.std.proofs.Math.Pow.{pow_pos}
use Rattle.std.proofs.lemmas.Bool.{cases_eq}
use Rattle.hpx_value.specs.Ids.{Id, same_object, bare}
use Rattle.hpx_value.specs.Values.{bare_act, bare_state}
use Rattle.hpx_parcel.specs.Credits.{Credit, credit_list, credits_of}
use Rattle.hpx_parcel.specs.Parcels.{IsParcel, HasRightCredit}
use Rattle.hpx_journal.specs.Data.{State, Act, Parcel, Apply, Ask, Give, Move, Go, Shipped}
use Rattle.hpx_journal.specs.Entries.{Entry, Frame, Travel, Rules, move_to}
use Rattle.hpx_journal.specs.Tokens.{Token, held, owing, worth, is_held, is_owed}
use Rattle.hpx_journal.specs.Frames.{acts_in, travels_in, travel_of, tokens_in, asks_in}
use Rattle.hpx_journal.specs.Local.{after, is_given}
use Rattle.hpx_journal.specs.Rows.{IsDead}
use Rattle.hpx_journal.specs.Names.{names}
use Rattle.hpx_journal.specs.Whole.{Space, step, run, credit_sum, names_in, frame_names, at_place}
use Rattle.hpx_journal.specs.Laws.{HasGrammar, held_in, owed_in, asked_in, given_in, asking_in, ask_tokens}
use Rattle.hpx_journal.proofs.Bags.{total-le, total-add}
use Rattle.hpx_journal.proofs.Same.{same_object-true}
use Rattle.hpx_journal.proofs.Ledger.{frame_worth, dead_stays}
use Rattle.hpx_journal.proofs.Asks.{frame_asks}
use Rattle.hpx_journal.proofs.Wholes.{IsWhole, at_same, at_other}
use Rattle.hpx_journal.proofs.Joined.{AreBacked}

sum_by-mono : {X : Type 0} (f g : X → ℕ) (xs : List X) → ((x : X) → f x ≤ g x) → sum_by f xs ≤ sum_by g xs
sum_by-mono f g [] h = omega arith
sum_by-mono f g (x ∷ xs) h = rw (sum_by-cons f x xs, sum_by-cons g x xs) (omega (arith, h x, sum_by-mono f g xs h))

both_le_at : (a b : Bool) (log : ℕ) → cond (a && not b) 1 0 + cond (a && b) 1 0 ≤ cond a (2 ^ log) 0
both_le_at true true log = let p : 0 < 2 ^ log = pow_pos log in omega arith
both_le_at true false log = let p : 0 < 2 ^ log = pow_pos log in omega arith
both_le_at false b log = omega arith

abbrev held_counts : Id → Token → ℕ
held_counts o t = cond (is_held o t) 1 0

abbrev owed_counts : Id → Token → ℕ
owed_counts o t = cond (is_owed o t) 1 0

-- tokens are worth at least one each
tokens_le : (o : Id) (tokens : List Token) → count_by (is_held o) tokens + count_by (is_owed o) tokens ≤ sum_by (worth o) tokens
tokens_le o [] = omega arith
tokens_le o (t ∷ ts) =
    rw (sum_by-cons (held_counts o) t ts, sum_by-cons (owed_counts o) t ts, sum_by-cons (worth o) t ts)
    (omega (arith, both_le_at (same_object o t.object) t.owed t.log, tokens_le o ts))

-- ---- each name in a parcel has a credit

one_named_at : (o id : Id) (log : Option ℕ) → 16 ≤ o.kind → MatchOption log (id.kind < 16) (λ x. 16 ≤ id.kind)
    → (b : Bool) → same_object o id ≡ b → cond b 1 0 ≤ count_by (is_held o) (map held (credit_list id log))
one_named_at o id None managed h true e = let k : o.kind ≡ id.kind = ap (λ y. y.kind) (same_object-true o id e) in absurd (omega arith)
one_named_at o id None managed h false e = omega arith
one_named_at o id (Some log) managed h true e = rw e (omega arith)
one_named_at o id (Some log) managed h false e = omega arith

held-append : (o : Id) (xs ys : List Credit)
    → count_by (is_held o) (map held (xs ++ ys)) ≡ count_by (is_held o) (map held xs) + count_by (is_held o) (map held ys)
held-append o [] ys = omega arith
held-append o (x ∷ xs) ys =
    omega (
      arith,
      held-append o xs ys,
      sum_by-cons (held_counts o) (held x) (map held xs),
      sum_by-cons (held_counts o) (held x) (map held (xs ++ ys)),
    )

abbrev id_counts : Id → Id → ℕ
id_counts o x = cond (same_object o x) 1 0

ids_named : (o : Id) → 16 ≤ o.kind → (ids : List Id) → AllByRecursion HasRightCredit ids
    → count_by (same_object o) (map bare ids) ≤ count_by (is_held o) (map held (credits_of ids))
ids_named o managed [] h = omega arith
ids_named o managed (id ∷ ids) h =
    omega (
      arith,
      ids_named o managed ids h.1,
      one_named_at o id id.log managed h.0 (same_object o id) refl,
      sum_by-cons (id_counts o) (bare id) (map bare ids),
      held-append o (credit_list id id.log) (credits_of ids),
    )

credits-append : (xs ys : List Id) → credits_of (xs ++ ys) ≡ credits_of xs ++ credits_of ys
credits-append [] ys = refl
credits-append (x ∷ xs) ys = rw (credits-append xs ys) (rw append_assoc refl)

abbrev travel_names : Id → Travel → ℕ
travel_names o x = count_by (same_object o) x.state.ids

travel_named : (o : Id) (act : Act) (state : State) (moves : Option ℕ)
    → sum_by (travel_names o) (travel_of act state moves) ≤ count_by (same_object o) state.ids
travel_named o act state None = omega arith
travel_named o act state (Some to) = omega arith

abbrev parcel_names : Id → Option Parcel → ℕ
parcel_names o p = sum_by (λ act. count_by (same_object o) act.ids) (acts_in p) + sum_by (travel_names o) (travels_in p)

parcel_named : (o : Id) → 16 ≤ o.kind → (p : Parcel) → IsParcel p → parcel_names o (Some p) ≤ count_by (is_held o) (tokens_in (Some p))
parcel_named o managed (Apply act) h = omega (arith, ids_named o managed act.ids h.sent.credit)
parcel_named o managed (Move act) h = omega (arith, ids_named o managed act.ids h.sent.credit)
parcel_named o managed (Go act) h = omega (arith, ids_named o managed act.ids h.sent.credit)
parcel_named o managed (Shipped act state) h =
    rw (credits-append act.ids state.ids)
    (omega (
      arith,
      ids_named o managed act.ids h.0.sent.credit,
      ids_named o managed state.ids h.1.credit,
      travel_named o (bare_act act) (bare_state state) (move_to (bare_act act)),
      held-append o (credits_of act.ids) (credits_of state.ids),
    ))
parcel_named o managed _ h = omega arith

-- ---- each Ask and each Give has one

owed_one_at : (o id : Id) (log : Option ℕ) → MatchOption log ⊥ (λ x. 16 ≤ id.kind) → (b : Bool) → same_object o id ≡ b
    → 0 + cond b 1 0 ≤ count_by (is_owed o) (map owing (credit_list id log))
owed_one_at o id None h b e = absurd h
owed_one_at o id (Some log) h true e = rw e (omega arith)
owed_one_at o id (Some log) h false e = omega arith

owed-nil : (o : Id) (xs : List Credit) → count_by (is_owed o) (map owing xs) ≤ count_by (is_owed o) (map owing (xs ++ []))
owed-nil o xs = rw append-nil (omega arith)

least : (id : Id) (log : Option ℕ) → log ≡ Some 0 → 16 ≤ id.kind → MatchOption log ⊥ (λ x. 16 ≤ id.kind)
least id None e h = cc
least id (Some log) e h = h

asks_have : (o : Id) (p : Parcel) → IsParcel p → count_by (same_object o) (asks_in (Some p)) ≤ count_by (is_owed o) (ask_tokens (Some p))
asks_have o (Ask id asker entry) h =
    omega (arith, owed_one_at o id id.log (least id id.log h.0 h.1) (same_object o id) refl, owed-nil o (credit_list id id.log))
asks_have o (Give id entry) h =
    omega (arith, owed_one_at o id id.log h (same_object o id) refl, owed-nil o (credit_list id id.log))
asks_have o _ h = omega arith

asks_among : (o : Id) (p : Parcel) → count_by (is_owed o) (ask_tokens (Some p)) ≤ count_by (is_owed o) (tokens_in (Some p))
asks_among o (Ask id asker entry) = omega arith
asks_among o (Give id entry) = omega arith
asks_among o _ = omega arith

-- ---- the road

module _ (P : Option Parcel → Type 0) (none : P None) (some : (p : Parcel) → IsParcel p → P (Some p)) where
  spelled_at : (p : Option Parcel) → ((q : Parcel) → p ≡ Some q → IsParcel q) → P p
  spelled_at None h = none
  spelled_at (Some p) h = some p (h p refl)

  -- what holds of parcels that are well formed holds of what bytes spell
  pub spelled : (r : Rules) → HasGrammar r → (bytes : List ℕ) → P (r.parcel_of bytes)
  spelled r grammar bytes = spelled_at (r.parcel_of bytes) (grammar.grammar bytes)

abbrev frame_held : Rules → Id → Frame → ℕ
frame_held r o f = count_by (is_held o) (tokens_in (r.parcel_of f.1))

abbrev frame_asking : Rules → Id → Frame → ℕ
frame_asking r o f = count_by (is_owed o) (ask_tokens (r.parcel_of f.1))

frame_named : (r : Rules) → HasGrammar r → (o : Id) → 16 ≤ o.kind → (f : Frame) → frame_names r o f ≤ frame_held r o f
frame_named r grammar o managed f =
    spelled (λ p. parcel_names o p ≤ count_by (is_held o) (tokens_in p)) (omega arith) (parcel_named o managed) r grammar f.1

frame_asked : (r : Rules) → HasGrammar r → (o : Id) → (f : Frame) → frame_asks r o f ≤ frame_asking r o f
frame_asked r grammar o f =
    spelled (λ p. count_by (same_object o) (asks_in p) ≤ count_by (is_owed o) (ask_tokens p)) (omega arith) (asks_have o) r grammar f.1

asks_among_all : (o : Id) (p : Option Parcel) → count_by (is_owed o) (ask_tokens p) ≤ count_by (is_owed o) (tokens_in p)
asks_among_all o None = omega arith
asks_among_all o (Some p) = asks_among o p

-- what is held and what is asked for is worth at least one each
frame_worthy : (r : Rules) (o : Id) (f : Frame) → frame_held r o f + frame_asking r o f ≤ frame_worth r o f
frame_worthy r o f = omega (arith, asks_among_all o (r.parcel_of f.1), tokens_le o (tokens_in (r.parcel_of f.1)))

sum_by-add : {X : Type 0} (f g : X → ℕ) (xs : List X) → sum_by (λ x. f x + g x) xs ≡ sum_by f xs + sum_by g xs
sum_by-add f g [] = refl
sum_by-add f g (x ∷ xs) =
    omega (arith, sum_by-add f g xs, sum_by-cons f x xs, sum_by-cons g x xs, sum_by-cons (λ y. f y + g y) x xs)

module _ (r : Rules) (grammar : HasGrammar r) (w : Space) (whole : IsWhole r w) (backed : AreBacked r w) (o : Id) (managed : 16 ≤ o.kind) where
  -- every name has a token that is held, or was asked for and not given
  pub names_named : names_in r o w + given_in r o w ≤ held_in r o w + asked_in r o w
  names_named =
      let n = r.localities in
      let named : ℕ → ℕ = λ k. names o (w.places k) in
      let given : ℕ → ℕ = λ k. count_by (is_given o) (w.places k).given in
      let asked : ℕ → ℕ = λ k. count_by (same_object o) (w.places k).asked in
      let tokens : ℕ → ℕ = λ k. count_by (is_held o) (w.places k).tokens in
      omega (
        arith,
        total-le n (λ k. named k + given k) (λ k. tokens k + asked k) (λ k h. (backed k h o managed).named),
        total-add n named given,
        total-add n tokens asked,
        sum_by-mono (frame_names r o) (frame_held r o) w.road (frame_named r grammar o managed),
      )

  -- what was asked for and not given has a token that is owed, or is on the road in an Ask or a Give
  pub asks_pending : asked_in r o w ≤ owed_in r o w + asking_in r o w + given_in r o w
  asks_pending =
      let n = r.localities in
      let given : ℕ → ℕ = λ k. count_by (is_given o) (w.places k).given in
      let asked : ℕ → ℕ = λ k. count_by (same_object o) (w.places k).asked in
      let come : ℕ → ℕ = λ k. count_by (same_object o) (w.places k).asks_come in
      let gone : ℕ → ℕ = λ k. count_by (same_object o) (w.places k).asks_gone in
      let tokens : ℕ → ℕ = λ k. count_by (is_owed o) (w.places k).tokens in
      omega (
        arith,
        total-le n (λ k. asked k + come k) (λ k. (tokens k + given k) + gone k) (λ k h. (backed k h o managed).pending),
        total-add n asked come,
        total-add n (λ k. tokens k + given k) gone,
        total-add n tokens given,
        whole.asks o,
        sum_by-mono (frame_asks r o) (frame_asking r o) w.road (frame_asked r grammar o),
      )

  -- each token is worth at least one
  tokens_worthy : held_in r o w + owed_in r o w + asking_in r o w ≤ credit_sum r o w
  tokens_worthy =
      let n = r.localities in
      let tokens : ℕ → ℕ = λ k. count_by (is_held o) (w.places k).tokens in
      let owed : ℕ → ℕ = λ k. count_by (is_owed o) (w.places k).tokens in
      omega (
        arith,
        total-le n (λ k. tokens k + owed k) (λ k. sum_by (worth o) (w.places k).tokens) (λ k h. tokens_le o (w.places k).tokens),
        total-add n tokens owed,
        sum_by-mono (λ f. frame_held r o f + frame_asking r o f) (frame_worth r o) w.road (frame_worthy r o),
        sum_by-add (frame_held r o) (frame_asking r o) w.road,
      )

  pub names_le : names_in r o w ≤ credit_sum r o w
  names_le = omega (arith, names_named, asks_pending, tokens_worthy)

  pub dead_unnamed : IsDead o (w.places o.home) → names_in r o w ≡ 0
  dead_unnamed dead = omega (arith, names_le, whole.ledger o, (whole.sane o.home).dead o dead)

pub dead_step : (r : Rules) (w : Space) (e : Entry) (o : Id) (k : ℕ) → IsDead o (w.places k) → IsDead o ((step r w e).places k)
unfolding step
dead_step r w e o k dead = elim (cases_eq e.at k) [
  | inl same ↦
      subst (λ j. IsDead o (at_place w.places e.at (after r (w.places e.at) e.event) j)) same
      (subst (IsDead o) (sym (at_same w.places e.at (after r (w.places e.at) e.event)))
      (dead_stays r (w.places e.at) e.event o (subst (λ j. IsDead o (w.places j)) (sym same) dead)))
  | inr other ↦
      subst (IsDead o) (sym (at_other w.places e.at (after r (w.places e.at) e.event) k other)) dead
]

pub dead_run : (r : Rules) (w : Space) (es : List Entry) (o : Id) (k : ℕ) → IsDead o (w.places k) → IsDead o ((run r w es).places k)
dead_run r w [] o k dead = dead
dead_run r w (e ∷ es) o k dead = dead_run r (step r w e) es o k (dead_step r w e o k dead)
