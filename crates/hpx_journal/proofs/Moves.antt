-- What an entry does to the bags of its locality.
use Rattle.std.proofs.Common.{ℕ, true, cond, List, [], ◌∷◌, ◌≡◌, ◌+◌, Option, Some, None, refl, arith, map}
use Rattle.std.specs.List.{sum_by, count_by}
use Rattle.std.proofs.lemmas.List.Sums.{sum_by-append}
use Rattle.hpx_value.specs.Values.{bare_act, bare_state}
use Rattle.hpx_journal.specs.Bags.{minus, Covers}
use Rattle.hpx_journal.specs.Data.{State, Act, Parcel, Apply, Move, Go, Shipped}
use Rattle.hpx_journal.specs.Entries.{Name, Event, Fire, Out, Entry, Travel, Rules, same_name, name_of, target_of, move_to}
use Rattle.hpx_journal.specs.Tokens.{Token, same_token}
use Rattle.hpx_journal.specs.Frames.{acts_in, travels_in, travel_of}
use Rattle.hpx_journal.specs.Local.{Local, after, takes, gives, leaves, comes, is_act, is_travel}
use Rattle.hpx_journal.specs.Rows.{Allowed, Row, AreWaiting, MayGo}
use Rattle.hpx_journal.proofs.Bags.{sum_by-minus, sum_by-without-find, list_any-find}
use Rattle.hpx_journal.proofs.Same.{same_name-true, Counts}

module _ (r : Rules) (s : Local) (e : Entry) (ok : Allowed r s e) where
  pub tokens_move : (f : Token → ℕ) → Counts f
      → sum_by f (after r s e.event).tokens + sum_by f (takes r e.event) ≡ sum_by f s.tokens + sum_by f (gives r e.event)
  unfolding after
  tokens_move f same =
      rw (sum_by-append f (gives r e.event) (minus same_token s.tokens (takes r e.event)))
      (omega (arith, sum_by-minus f f same_token (λ k x h. same k x h) s.tokens (takes r e.event) ok.tokens))

-- a parcel has one action at most
abbrev pub IsShort : {X : Type 0} → List X → Type 0
IsShort [] = Unit {0}
IsShort (x ∷ []) = Unit {0}
IsShort (x ∷ y ∷ xs) = ⊥

pub acts_short : (p : Option Parcel) → IsShort (acts_in p)
acts_short None = tt
acts_short (Some (Apply act)) = tt
acts_short (Some (Move act)) = tt
acts_short (Some (Go act)) = tt
acts_short (Some (Shipped act state)) = tt
acts_short (Some _) = tt

-- what leaves the waiting actions was among them
acts_covered : (s : Local) (acts : List Act) → IsShort acts → AreWaiting s acts → Covers is_act s.waiting (map name_of acts)
acts_covered s [] short h = tt
acts_covered s (act ∷ []) short h = (list_any-find (is_act (name_of act)) s.waiting act h.0, tt)
acts_covered s (act ∷ x ∷ acts) short h = absurd short

pub waiting_out : (f : Act → ℕ) (s : Local) (acts : List Act) → IsShort acts → AreWaiting s acts
    → sum_by f (minus is_act s.waiting (map name_of acts)) + sum_by f acts ≡ sum_by f s.waiting
waiting_out f s [] short h = omega arith
waiting_out f s (act ∷ []) short h = omega (arith, sum_by-without-find f (is_act (name_of act)) s.waiting act h.0)
waiting_out f s (act ∷ x ∷ acts) short h = absurd short

abbrev travel_to : Act → State → ℕ → Travel
travel_to act state to = record { object = target_of act; state = state; to = to }

shipped_out : (f : Travel → ℕ) (s : Local) (act : Act) (state : State) (to : ℕ) (moves : Option ℕ) → moves ≡ Some to
    → MayGo s to (Shipped act state)
    → sum_by f (minus is_travel s.travels (map (λ x. x.object) (travel_of (bare_act act) (bare_state state) moves)))
    + sum_by f (travel_of (bare_act act) (bare_state state) moves) ≡ sum_by f s.travels
shipped_out f s act state to None e h = cc
shipped_out f s act state to (Some t) e h =
    let g : t ≡ to = cc in
    rw g (omega (
      arith,
      sum_by-without-find f (is_travel (target_of (bare_act act))) s.travels (travel_to (bare_act act) (bare_state state) to) h.1,
    ))

pub travels_out : (f : Travel → ℕ) (s : Local) (to : ℕ) (p : Parcel) → MayGo s to p
    → sum_by f (minus is_travel s.travels (map (λ x. x.object) (travels_in (Some p)))) + sum_by f (travels_in (Some p)) ≡ sum_by f s.travels
travels_out f s to (Shipped act state) h = shipped_out f s act state to (move_to (bare_act act)) h.0 h
travels_out f s to _ h = omega arith

pub leaves_covered : (r : Rules) (s : Local) (e : Event) → Row r s e → Covers is_act s.waiting (leaves r e)
leaves_covered r s (Fire a) h = (list_any-find (is_act a) s.waiting h.0 h.2, tt)
leaves_covered r s (Out to bytes) h =
    rw h.2.1 (acts_covered s (acts_in (Some h.2.0)) (acts_short (Some h.2.0)) h.2.2)
leaves_covered r s _ h = tt

abbrev pub act_counts : Name → Act → ℕ
act_counts a x = cond (is_act a x) 1 0

abbrev pub name_counts : Name → Name → ℕ
name_counts a k = cond (same_name a k) 1 0

act_agrees : (a k : Name) (x : Act) → is_act k x ≡ true → act_counts a x ≡ name_counts a k
act_agrees a k x h = let e : k ≡ name_of x = same_name-true k (name_of x) h in rw e refl

pub waiting_moves : (r : Rules) (s : Local) (e : Event) → Row r s e → (a : Name)
    → count_by (is_act a) (after r s e).waiting + count_by (same_name a) (leaves r e)
    ≡ count_by (is_act a) s.waiting + count_by (is_act a) (comes r s e)
unfolding after
waiting_moves r s e ok a =
    rw (sum_by-append (act_counts a) (comes r s e) (minus is_act s.waiting (leaves r e)))
    (omega (arith, sum_by-minus (act_counts a) (name_counts a) is_act (act_agrees a) s.waiting (leaves r e) (leaves_covered r s e ok)))
