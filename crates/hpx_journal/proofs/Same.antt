-- What the tests of sameness say.
use Rattle.std.proofs.Common.{ℕ, Bool, true, false, cond, not, List, ◌≡◌, refl, sym, ap, ◌∙◌}
use Rattle.std.specs.Prelude.{◌&&◌, ◌==◌}
use Rattle.std.proofs.lemmas.Bool.{eqb-true, eq-eqb}
use Rattle.std.proofs.lemmas.Slice.Eq.{bytes_eq-Decides}
use Rattle.hpx_value.specs.Ids.{Id, same_object, bare, bare_id}
use Rattle.hpx_journal.specs.Entries.{Name, Frame, same_name, same_frame}
use Rattle.hpx_journal.specs.Tokens.{Token, same_token, worth, is_held, is_owed}

pub and_true : (a b : Bool) → (a && b) ≡ true → (a ≡ true) × (b ≡ true)
and_true true true h = (refl, refl)
and_true true false h = (refl, h)
and_true false b h = cc

-- ---- objects

bare_id-same : (x x' y y' z z' : ℕ) → x ≡ x' → y ≡ y' → z ≡ z' → bare_id x y z ≡ bare_id x' y' z'
bare_id-same x x' y y' z z' p q t = cc

-- the same object, whatever the credits
pub same_object-true : (a b : Id) → same_object a b ≡ true → bare a ≡ bare b
same_object-true a b h =
    let p : (a.home == b.home) ≡ true = (and_true _ _ h).0 in
    let q : ((a.kind == b.kind) && (a.number == b.number)) ≡ true = (and_true _ _ h).1 in
    bare_id-same a.home b.home a.kind b.kind a.number b.number (eqb-true _ _ p) (eqb-true _ _ (and_true _ _ q).0) (eqb-true _ _ (and_true _ _ q).1)

pub same_object-refl : (a : Id) → same_object a a ≡ true
same_object-refl a = rw (eq-eqb a.home a.home refl, eq-eqb a.kind a.kind refl, eq-eqb a.number a.number refl) refl

-- ---- names

abbrev made_name : ℕ → ℕ → Name
made_name x y = record { origin = x; serial = y }

made_name-same : (x x' : ℕ) (y y' : ℕ) → x ≡ x' → y ≡ y' → made_name x y ≡ made_name x' y'
made_name-same x x' y y' p q = cc

names_equal : (a b : Name) → a.origin ≡ b.origin → a.serial ≡ b.serial → a ≡ b
names_equal a b p q = made_name-same a.origin b.origin a.serial b.serial p q

pub same_name-true : (a b : Name) → same_name a b ≡ true → a ≡ b
same_name-true a b h = names_equal a b (eqb-true _ _ (and_true _ _ h).0) (eqb-true _ _ (and_true _ _ h).1)

pub same_name-refl : (a : Name) → same_name a a ≡ true
same_name-refl a = rw (eq-eqb a.origin a.origin refl, eq-eqb a.serial a.serial refl) refl

-- ---- frames

abbrev made_frame : ℕ → List ℕ → Frame
made_frame x y = (x, y)

made_frame-same : (x x' : ℕ) (y y' : List ℕ) → x ≡ x' → y ≡ y' → made_frame x y ≡ made_frame x' y'
made_frame-same x x' y y' p q = cc

frames_equal : (a b : Frame) → a.0 ≡ b.0 → a.1 ≡ b.1 → a ≡ b
frames_equal a b p q = made_frame-same a.0 b.0 a.1 b.1 p q

pub same_frame-true : (a b : Frame) → same_frame a b ≡ true → a ≡ b
same_frame-true a b h =
    frames_equal a b (eqb-true _ _ (and_true _ _ h).0) ((bytes_eq-Decides a.1 b.1).0 (and_true _ _ h).1)

pub same_frame-refl : (a : Frame) → same_frame a a ≡ true
same_frame-refl a = rw (eq-eqb a.0 a.0 refl, (bytes_eq-Decides a.1 a.1).1 refl) refl

-- ---- tokens

-- what is the same as one id of an object is the same as each
pub same_object-through : (o a b : Id) → same_object a b ≡ true → same_object o a ≡ same_object o b
same_object-through o a b h = ap (same_object o) (same_object-true a b h)

pub same_object-from : (a b o : Id) → same_object a b ≡ true → same_object a o ≡ same_object b o
same_object-from a b o h = ap (λ x. same_object x o) (same_object-true a b h)

pub same_object-sym : (a b : Id) → same_object a b ≡ true → same_object b a ≡ true
same_object-sym a b h = sym (same_object-from a b a h) ∙ same_object-refl a

same_flag-true : (a b : Bool) → cond a b (not b) ≡ true → a ≡ b
same_flag-true true true h = refl
same_flag-true true false h = sym h
same_flag-true false true h = h
same_flag-true false false h = refl

-- tokens that are the same differ at most in the credit that their ids show
pub record AreSame (a b : Token) : Type 0 where
  pub object : same_object a.object b.object ≡ true
  pub log : a.log ≡ b.log
  pub owed : a.owed ≡ b.owed

pub same_token-true : (a b : Token) → same_token a b ≡ true → AreSame a b
same_token-true a b h =
    let q : ((a.log == b.log) && cond a.owed b.owed (not b.owed)) ≡ true = (and_true _ _ h).1 in record {
      object = (and_true _ _ h).0;
      log = eqb-true _ _ (and_true _ _ q).0;
      owed = same_flag-true a.owed b.owed (and_true _ _ q).1;
    }

-- a count of tokens that looks at no credit of an id
abbrev pub Counts : (Token → ℕ) → Type 0
Counts f = (a b : Token) → same_token a b ≡ true → f b ≡ f a

pub worth-Counts : (o : Id) → Counts (worth o)
worth-Counts o a b h =
    let t = same_token-true a b h in
    rw (← same_object-through o a.object b.object t.object, t.log) refl

pub held-Counts : (o : Id) → Counts (λ t. cond (is_held o t) 1 0)
held-Counts o a b h =
    let t = same_token-true a b h in
    rw (← same_object-through o a.object b.object t.object, t.owed) refl

pub owed-Counts : (o : Id) → Counts (λ t. cond (is_owed o t) 1 0)
owed-Counts o a b h =
    let t = same_token-true a b h in
    rw (← same_object-through o a.object b.object t.object, t.owed) refl
