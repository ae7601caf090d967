-- Each managed name in a parcel has a credit, and so has each Ask and each Give.
use Rattle.std.proofs.Common.{ℕ, Bool, true, false, cond, List, [], ◌∷◌, ◌++◌, ◌≡◌, ◌+◌, ◌<◌, ◌≤◌, Option, Some, None, refl, ap, arith, map, append-nil, append_assoc}
use Rattle.std.specs.List.{sum_by, count_by, AllByRecursion}
use Rattle.std.specs.Prelude.{MatchOption}
use Rattle.std.proofs.lemmas.List.Sums.{sum_by-cons}
use Rattle.hpx_value.specs.Ids.{Id, same_object, bare}
use Rattle.hpx_parcel.specs.Credits.{Credit, credit_list, credits_of}
use Rattle.hpx_parcel.specs.Parcels.{IsParcel, HasRightCredit}
use Rattle.hpx_value.specs.Values.{bare_act, bare_state}
use Rattle.hpx_journal.specs.Data.{Act, State, Parcel, Apply, Ask, Give, Move, Go, Shipped}
use Rattle.hpx_journal.specs.Entries.{move_to}
use Rattle.hpx_journal.specs.Tokens.{held, owing, is_held, is_owed}
use Rattle.hpx_journal.specs.Frames.{acts_in, travels_in, travel_of, tokens_in, asks_in}
use Rattle.hpx_journal.proofs.Same.{same_object-true}
use Rattle.hpx_part.proofs.Keyed.{counts_of}
use Rattle.hpx_part.proofs.Covered.{held_counts, act_names, travel_names}

one_named_at : (o id : Id) (log : Option ℕ) → 16 ≤ o.kind → MatchOption log (id.kind < 16) (λ x. 16 ≤ id.kind)
    → (b : Bool) → same_object o id ≡ b → cond b 1 0 ≤ count_by (is_held o) (map held (credit_list id log))
one_named_at o id None managed h true e = let k : o.kind ≡ id.kind = ap (λ y. y.kind) (same_object-true o id e) in absurd (omega arith)
one_named_at o id None managed h false e = omega arith
one_named_at o id (Some log) managed h true e = rw e (omega arith)
one_named_at o id (Some log) managed h false e = omega arith

held-append : (o : Id) (xs ys : List Credit)
    → count_by (is_held o) (map held (xs ++ ys)) ≡ count_by (is_held o) (map held xs) + count_by (is_held o) (map held ys)
held-append o [] ys = omega arith
held-append o (x ∷ xs) ys =
    omega (
      arith,
      held-append o xs ys,
      sum_by-cons (held_counts o) (held x) (map held xs),
      sum_by-cons (held_counts o) (held x) (map held (xs ++ ys)),
    )

ids_named : (o : Id) → 16 ≤ o.kind → (ids : List Id) → AllByRecursion HasRightCredit ids
    → count_by (same_object o) (map bare ids) ≤ count_by (is_held o) (map held (credits_of ids))
ids_named o managed [] h = omega arith
ids_named o managed (id ∷ ids) h =
    omega (
      arith,
      ids_named o managed ids h.1,
      one_named_at o id id.log managed h.0 (same_object o id) refl,
      sum_by-cons (counts_of (same_object o)) (bare id) (map bare ids),
      held-append o (credit_list id id.log) (credits_of ids),
    )

credits-append : (xs ys : List Id) → credits_of (xs ++ ys) ≡ credits_of xs ++ credits_of ys
credits-append [] ys = refl
credits-append (x ∷ xs) ys = rw (credits-append xs ys) (rw append_assoc refl)

-- the names in an object that a parcel ships, if it has a place to go to
shipped_named : (o : Id) (act : Act) (state : State) (moves : Option ℕ)
    → sum_by (travel_names o) (travel_of act state moves) ≤ count_by (same_object o) state.ids
shipped_named o act state None = omega arith
shipped_named o act state (Some to) = omega arith

pub all_named : (o : Id) → 16 ≤ o.kind → (p : Parcel) → IsParcel p
    → sum_by (act_names o) (acts_in (Some p)) + sum_by (travel_names o) (travels_in (Some p)) ≤ count_by (is_held o) (tokens_in (Some p))
all_named o managed (Apply act) h = omega (arith, ids_named o managed act.ids h.sent.credit)
all_named o managed (Move act) h = omega (arith, ids_named o managed act.ids h.sent.credit)
all_named o managed (Go act) h = omega (arith, ids_named o managed act.ids h.sent.credit)
all_named o managed (Shipped act state) h =
    rw (credits-append act.ids state.ids)
    (omega (
      arith,
      ids_named o managed act.ids h.0.sent.credit,
      ids_named o managed state.ids h.1.credit,
      shipped_named o (bare_act act) (bare_state state) (move_to (bare_act act)),
      held-append o (credits_of act.ids) (credits_of state.ids),
    ))
all_named o managed _ h = omega arith

-- ---- asks

owed_one_at : (o id : Id) (log : Option ℕ) → MatchOption log ⊥ (λ x. 16 ≤ id.kind) → (b : Bool) → same_object o id ≡ b
    → 0 + cond b 1 0 ≤ count_by (is_owed o) (map owing (credit_list id log))
owed_one_at o id None h b e = absurd h
owed_one_at o id (Some log) h true e = rw e (omega arith)
owed_one_at o id (Some log) h false e = omega arith

owed-nil : (o : Id) (xs : List Credit) → count_by (is_owed o) (map owing xs) ≤ count_by (is_owed o) (map owing (xs ++ []))
owed-nil o xs = rw append-nil (omega arith)

least : (id : Id) (log : Option ℕ) → log ≡ Some 0 → 16 ≤ id.kind → MatchOption log ⊥ (λ x. 16 ≤ id.kind)
least id None e h = cc
least id (Some log) e h = h

pub asks_owed : (o : Id) (p : Parcel) → IsParcel p → count_by (same_object o) (asks_in (Some p)) ≤ count_by (is_owed o) (tokens_in (Some p))
asks_owed o (Ask id asker entry) h =
    omega (arith, owed_one_at o id id.log (least id id.log h.0 h.1) (same_object o id) refl, owed-nil o (credit_list id id.log))
asks_owed o (Give id entry) h =
    omega (arith, owed_one_at o id id.log h (same_object o id) refl, owed-nil o (credit_list id id.log))
asks_owed o _ h = omega arith
