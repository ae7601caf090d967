-- Steps of an object that is called: what is left, what is told, and calls that change nothing.
use Rattle.std.specs.Prelude.{ℕ, pos, Bool, true, false, nat_le, nat_lt, List, ◌≡◌, ◌≤◌, ◌&&◌, Option, Some, None, refl, if◌then◌else◌}
use Rattle.std.proofs.Common.{ap, sym, ◌∙◌, arith}
use Rattle.std.proofs.lemmas.Bool.{le-leb, lt-leb, le-ltb}
use Rattle.hpx_calls.specs.Contents.{Content}
use Rattle.hpx_calls.specs.Requests.{Request, Move, Where}
use Rattle.hpx_calls.specs.Effects.{Called}
use Rattle.hpx_calls.specs.Tables.{is_movable}
use Rattle.hpx_calls.specs.Histories.{Setting, Object, Call, Told, own, called_on, next, still, tells}

abbrev pub object : {V W : Type 0} → Content V → List W → Object V W
object x ws = record { content = x; waiting = ws }

abbrev pub call : {V W : Type 0} → Request V → Option W → Call V W
call r w = record { request = r; waiter = w }

-- what is left where a test says which of two things a call does
pub either : {V W : Type 0} (b : Bool) (y z : Called V) (ws : List W) (w : Option W) (f : Bool → Object V W)
    → object y.content (still y.effect ws w) ≡ f true → object z.content (still z.effect ws w) ≡ f false
    → object (if b then y else z).content (still (if b then y else z).effect ws w) ≡ f b
either true y z ws w f p q = p
either false y z ws w f p q = q

-- and what is told
pub told_either : {V W : Type 0} (g : Setting V) (b : Bool) (y z : Called V) (ws : List W) (w : Option W) (f : Bool → List (Told V W))
    → tells g y.effect ws w ≡ f true → tells g z.effect ws w ≡ f false → tells g (if b then y else z).effect ws w ≡ f b
told_either g true y z ws w f p q = p
told_either g false y z ws w f p q = q

-- two tests that hold together
pub same_test : (a b : Bool) → (a ≡ true → b ≡ true) → (a ≡ false → b ≡ false) → a ≡ b
same_test true b p q = sym (p refl)
same_test false b p q = sym (q refl)

-- WHERE and MOVE change neither a content nor who waits
pub same_where : {V W : Type 0} (g : Setting V) (x : Content V) (ws : List W) (w : Option W) → next g (object x ws) (call Where w) ≡ object x ws
same_where g x ws None = either (nat_le 16 g.kind) _ _ ws None (λ b. object x ws) refl refl
same_where g x ws (Some w) = either (nat_le 16 g.kind) _ _ ws (Some w) (λ b. object x ws) refl refl

pub same_move : {V W : Type 0} (g : Setting V) (x : Content V) (to : ℕ) (ws : List W) (w : Option W) → next g (object x ws) (call (Move to) w) ≡ object x ws
same_move g x to ws None = either (is_movable g.kind) _ _ ws None (λ b. object x ws) refl refl
same_move g x to ws (Some w) = either (is_movable g.kind) _ _ ws (Some w) (λ b. object x ws) refl refl

-- what a call on an object is told
abbrev pub told_on : {V W : Type 0} → Setting V → Object V W → Call V W → List (Told V W)
told_on g o c = tells g (called_on g o c).effect o.waiting c.waiter

-- WHERE tells the place where the kind is managed, and is wrong elsewhere
pub where_told : {V W : Type 0} (g : Setting V) (x : Content V) (ws : List W) (w : Option W) (b : Bool) → nat_le 16 g.kind ≡ b
    → told_on g (object x ws) (call Where w) ≡ own w (if b then g.sort.int (pos g.here) else g.sort.fault 11)
where_told g x ws None b e =
    told_either g (nat_le 16 g.kind) _ _ ws None (λ c. own None (if c then g.sort.int (pos g.here) else g.sort.fault 11)) refl refl
    ∙ ap (λ c. own None (if c then g.sort.int (pos g.here) else g.sort.fault 11)) e
where_told g x ws (Some w) b e =
    told_either g (nat_le 16 g.kind) _ _ ws (Some w) (λ c. own (Some w) (if c then g.sort.int (pos g.here) else g.sort.fault 11)) refl refl
    ∙ ap (λ c. own (Some w) (if c then g.sort.int (pos g.here) else g.sort.fault 11)) e

-- MOVE is wrong where the kind does not move
pub move_told : {V W : Type 0} (g : Setting V) (x : Content V) (to : ℕ) (ws : List W) (w : Option W) → is_movable g.kind ≡ false
    → told_on g (object x ws) (call (Move to) w) ≡ own w (g.sort.fault 11)
move_told g x to ws None e =
    told_either g (is_movable g.kind) _ _ ws None (λ c. own None (if c then g.sort.int (pos g.here) else g.sort.fault 11)) refl refl
    ∙ ap (λ c. own None (if c then g.sort.int (pos g.here) else g.sort.fault 11)) e
move_told g x to ws (Some w) e =
    told_either g (is_movable g.kind) _ _ ws (Some w) (λ c. own (Some w) (if c then g.sort.int (pos g.here) else g.sort.fault 11)) refl refl
    ∙ ap (λ c. own (Some w) (if c then g.sort.int (pos g.here) else g.sort.fault 11)) e

-- kinds from 32 on are managed and stay, and so do kinds below 16, which are not
pub fixed_high : (kind : ℕ) → 32 ≤ kind → is_movable kind ≡ false
fixed_high kind high = ap (λ b. nat_le 16 kind && b) (le-ltb kind 32 high) ∙ and_false (nat_le 16 kind)
  where
    and_false : (b : Bool) → (b && false) ≡ false
    and_false true = refl
    and_false false = refl

pub managed_high : (kind : ℕ) → 32 ≤ kind → nat_le 16 kind ≡ true
managed_high kind high = le-leb 16 kind (omega arith)

pub root_low : (kind : ℕ) → kind ≤ 15 → nat_le 16 kind ≡ false
root_low kind low = lt-leb 16 kind (omega arith)

pub fixed_low : (kind : ℕ) → kind ≤ 15 → is_movable kind ≡ false
fixed_low kind low = ap (λ b. b && nat_lt kind 32) (root_low kind low)
