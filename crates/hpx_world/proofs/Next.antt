-- What one turn after another leaves, by what each answered.
use Rattle.std.proofs.Common.{ℕ, Bool, true, false, List, ◌≡◌, ◌≢◌, Ok, Err, Option, None, Some, Result, refl, sym, ap, ◌∙◌, subst}
use Rattle.std.specs.List.{slice_get, sum_by, AllByRecursion}
use Rattle.std.specs.Result.{IsErrAnd}
use Rattle.hpx_value.specs.declared.acts.Job.{Job}
use Rattle.hpx_value.specs.declared.profile.Profile.{Profile}
use Rattle.hpx_journal.specs.Entries.{Frame, Rules}
use Rattle.hpx_part.specs.Data.{Entry}
use Rattle.hpx_ports.specs.declared.fabric.Wire.{Wire}
use Rattle.hpx_steps.specs.Rest.{rules_of}
use Rattle.hpx_tables.specs.Tables.{Tables}
use Rattle.hpx_world.specs.declared.turns.Turned.{Turned}
use Rattle.hpx_world.specs.declared.turns.Turned.TheVariants as turned
use Rattle.hpx_world.specs.Away.{IsCarrying, IsInside, Fetches}
use Rattle.hpx_world.specs.Quiet.{IsStuck, SendsNothing, NothingApplies}
use Rattle.hpx_node.specs.Handled.{HasNothingToTend}
use Rattle.hpx_world.specs.Sound.{Meaning, IsSame}
use Rattle.hpx_world.specs.Turns.{DidFire, DidDesk, DidPump, DidTake}
use Rattle.hpx_world.proofs.Counts.{none_fetched}

-- the rules are the same where the number of localities and the profile are
pub under : (act_of : Meaning) (n n' : ℕ) (p p' : Profile) (P : Rules → Type 0) → n' ≡ n → p' ≡ p → P (rules_of act_of n' p') → P (rules_of act_of n p)
under act_of n n' p p' P count same h = subst (λ m. P (rules_of act_of m p)) count (subst (λ q. P (rules_of act_of n' q)) same h)

pub inside_at : (act_of : Meaning) (n n' : ℕ) (p p' : Profile) (a b : List Entry) → n' ≡ n → p' ≡ p
    → IsInside (rules_of act_of n' p') a b → IsInside (rules_of act_of n p) a b
inside_at act_of n n' p p' a b count same h = under act_of n n' p p' (λ r. IsInside r a b) count same h

pub carrying_at : (act_of : Meaning) (n n' : ℕ) (p p' : Profile) (h h' : Option Frame) (fl fl' : Option (List Frame)) (tr tr' : Option (List Wire)) (es es' : List Entry)
    → n' ≡ n → p' ≡ p → (IsCarrying (rules_of act_of n' p') h fl tr es → IsCarrying (rules_of act_of n' p') h' fl' tr' es')
    → IsCarrying (rules_of act_of n p) h fl tr es → IsCarrying (rules_of act_of n p) h' fl' tr' es'
carrying_at act_of n n' p p' h h' fl fl' tr tr' es es' count same f =
    under act_of n n' p p' (λ r. IsCarrying r h fl tr es → IsCarrying r h' fl' tr' es') count same f

-- the error that is handed on is the one that came
pub err_of : {T E : Type 0} (r : Result T E) (e f : E) → IsErrAnd r (λ y. y ≡ e) → r ≡ Err f → e ≡ f
err_of (Ok x) e f h is = absurd h
err_of (Err y) e f h is = sym h ∙ (cc)

-- the error that is handed on is answered
pub err_back : {T E : Type 0} (r : Result T E) (e : E) → IsErrAnd r (λ y. y ≡ e) → r ≡ Err e
err_back (Ok x) e h = absurd h
err_back (Err y) e h = ap (λ z. Err z) h

pub err_is : {T E : Type 0} (e f : E) → ◌≡◌ {A = Result T E} (Err e) (Err f) → e ≡ f
err_is e f h = cc

-- a value is no error
pub no_err : {T E : Type 0} (x : T) (e : E) → ◌≡◌ {A = Result T E} (Ok x) (Err e) → ⊥
no_err x e h = cc

-- no truth value is both
pub not_both : (b : Bool) → b ≡ false → b ≡ true → ⊥
not_both b f t = cc

-- ---- turns that did nothing

module _ (nodes nodes' : List Tables) (es es' : List Entry) where
  pub fired_none : (k : ℕ) (x : Turned) → ((job : Job) → x ≢ turned.Fired job) → DidFire k x nodes nodes' es es'
      → IsSame nodes nodes' es es' × ((t : Tables) → slice_get nodes k ≡ Some t → IsStuck t)
  fired_none k (turned.Fired job) not h = absurd (not job refl)
  fired_none k turned.Idle not h = h
  fired_none k _ not h = absurd h

  pub cleared_none : (k : ℕ) (x : Turned) → x ≢ turned.Moved → DidDesk k x nodes nodes' es es'
      → IsSame nodes nodes' es es' × ((t : Tables) → slice_get nodes k ≡ Some t → HasNothingToTend t)
  cleared_none k turned.Moved not h = absurd (not refl)
  cleared_none k turned.Empty not h = h
  cleared_none k _ not h = absurd h

  pub pumped_none : (Put : Option Frame → Type 0) (k : ℕ) (x : Turned) → x ≢ turned.Moved → DidPump Put k x nodes nodes' es es'
      → Put None × IsSame nodes nodes' es es' × ((t : Tables) → slice_get nodes k ≡ Some t → SendsNothing t)
  pumped_none Put k turned.Moved not h = absurd (not refl)
  pumped_none Put k turned.Empty not h = h
  pumped_none Put k _ not h = absurd h

  pub took_none : (Got : Option Frame → Type 0) (x : Turned) → x ≢ turned.Moved → DidTake Got x nodes nodes' es es'
      → Got None × (sum_by (λ t. t.taken) nodes ≡ sum_by (λ t. t.sent) nodes) × IsSame nodes nodes' es es'
  took_none Got turned.Moved not h = absurd (not refl)
  took_none Got turned.Empty not h = h
  took_none Got _ not h = absurd h

-- ---- where none of the four did anything

pub sum_same : (f : Tables → ℕ) (xs ys : List Tables) → ys ≡ xs → sum_by f ys ≡ sum_by f xs
sum_same f xs ys e = ap (sum_by f) e

module _ (n1 n2 n3 n4 : List Tables) (h3 h4 : Option Frame) (fl fl' : Option (List Frame)) (tr tr' : Option (List Wire)) where
  pub nothing_left : n2 ≡ n1 → n3 ≡ n2 → n4 ≡ n3
      → AllByRecursion IsStuck n1 → AllByRecursion HasNothingToTend n2 → AllByRecursion SendsNothing n3 → h4 ≡ None → Fetches h3 fl fl' tr tr' None
      → NothingApplies n4 h4 fl'
  nothing_left e2 e3 e4 stuck desk pump hand f = record {
    fire = subst (AllByRecursion IsStuck) (sym (e4 ∙ (e3 ∙ e2))) stuck;
    desk = subst (AllByRecursion HasNothingToTend) (sym (e4 ∙ e3)) desk;
    pump = subst (AllByRecursion SendsNothing) (sym e4) pump;
    hand = hand;
    flight = none_fetched h3 fl fl' tr tr' f;
  }
