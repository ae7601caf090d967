-- When a view shows a locality, and which entries lead from one view to another.
use Rattle.std.specs.Prelude.{ℕ, Bool, true, List, [], ◌∷◌, ◌≡◌, ◌≤◌, ◌<◌, ◌+◌, ◌&&◌, Some, None, IfSome}
use Rattle.std.specs.List.{sum_by, count_by, find, list_any, AllByRecursion}
use Rattle.hpx_value.specs.Ids.{same_object}
use Rattle.hpx_value.specs.Shapes.{IsState}
use Rattle.hpx_journal.specs.Data.{Id}
use Rattle.hpx_journal.specs.Entries.{Rules, same_name}
use Rattle.hpx_journal.specs.Tokens.{same_token}
use Rattle.hpx_journal.specs.Local.{is_act, is_standing, is_travel, is_recorded, is_given, is_given_none, recorded, count_in, after}
use Rattle.hpx_journal.specs.Rows.{Allowed, IsDead, objects_in}
use Rattle.hpx_journal.specs.Foreign.{present, kept, IsUndrawn, IsForeign}
use Rattle.hpx_journal.specs.Laws.{TargetsStand, entry_at}
use Rattle.hpx_part.specs.Keyed.{Agree}
use Rattle.hpx_part.specs.Data.{Name, Event, Born, Out, Token, Local, Refusal}
use Rattle.hpx_part.specs.View.{View, IsCovered}

-- a weight of tokens that looks at no credit of an id
abbrev pub IsWeight : (Token → ℕ) → Type 0
IsWeight f = (a b : Token) → same_token a b ≡ true → f b ≡ f a

-- the same elements, each as often, in any order: whatever is counted of them has the same sum
abbrev pub SameSums : {X : Type 0} → List X → List X → Type 0
SameSums {X} xs ys = (f : X → ℕ) → sum_by f xs ≡ sum_by f ys

-- the same tokens, each as often
abbrev pub SameTokens : List Token → List Token → Type 0
SameTokens xs ys = (f : Token → ℕ) → IsWeight f → sum_by f xs ≡ sum_by f ys

-- the actions of the view are those of the locality
pub record ShowsActs (v : View) (s : Local) : Type 0 where
  pub here : s.here ≡ v.here
  pub serial : s.serial ≡ v.serial
  pub waiting : Agree is_act s.waiting v.waiting
  pub fired : Agree is_act s.fired v.fired
  pub due : s.due ≡ v.due

-- so are its objects, and those that travel here
pub record ShowsObjects (v : View) (s : Local) : Type 0 where
  pub number : s.number ≡ v.number
  pub objects : Agree is_standing s.objects v.objects
  pub travels : Agree is_travel s.travels v.travels
  pub fresh : s.fresh ≡ v.fresh

-- so are its tokens, and what was asked for: given or not, and gone on or not
pub record ShowsCredit (v : View) (s : Local) : Type 0 where
  pub tokens : SameTokens s.tokens v.tokens
  pub asking : (o : Id) → count_by (same_object o) s.asked ≡ count_by (is_given o) s.given + count_by (same_object o) v.asking
  pub asks : (o : Id) → count_by (same_object o) s.asked + count_by (same_object o) s.asks_come
      ≡ count_by (is_given o) s.given + count_by (same_object o) s.asks_gone + count_by (same_object o) v.asks

-- whether two refusals are one
abbrev pub same_refusal : Refusal → Refusal → Bool
same_refusal a b = same_name a.action b.action && same_object a.object b.object

-- so are the counts of its own objects, those that are dead, and the refusals
pub record ShowsCounts (v : View) (s : Local) : Type 0 where
  pub live : (o : Id) → o.home ≡ v.here → recorded o s ≡ count_in (find (is_recorded o) v.live)
  pub dead : AllByRecursion (λ o. IsDead o s) v.dead
  pub refusals : AllByRecursion (λ x. list_any (same_refusal x) s.refusals ≡ true) v.refusals
  pub failing : s.failures + v.failing ≤ count_by is_given_none s.given

-- the view shows the locality
pub record Shows (v : View) (s : Local) : Type 0 where
  pub acts : ShowsActs v s
  pub objects : ShowsObjects v s
  pub credit : ShowsCredit v s
  pub counts : ShowsCounts v s
  pub last : IfSome v.last (λ e. s.last ≡ Some e)

-- w says of a locality what v says, or less: lists in any order, fewer that are dead, refusals and failures, and no last entry
pub record SaysLess (v w : View) : Type 0 where
  pub here : w.here ≡ v.here
  pub serial : w.serial ≡ v.serial
  pub number : w.number ≡ v.number
  pub fresh : w.fresh ≡ v.fresh
  pub due : w.due ≡ v.due
  pub waiting : SameSums v.waiting w.waiting
  pub fired : SameSums v.fired w.fired
  pub objects : SameSums v.objects w.objects
  pub travels : SameSums v.travels w.travels
  pub tokens : SameTokens v.tokens w.tokens
  pub asking : (o : Id) → count_by (same_object o) v.asking ≡ count_by (same_object o) w.asking
  pub asks : (o : Id) → count_by (same_object o) v.asks ≡ count_by (same_object o) w.asks
  pub live : (o : Id) → o.home ≡ v.here → count_in (find (is_recorded o) v.live) ≡ count_in (find (is_recorded o) w.live)
  pub dead : (o : Id) → list_any (same_object o) w.dead ≡ true → list_any (same_object o) v.dead ≡ true
  pub refusals : (x : Refusal) → list_any (same_refusal x) w.refusals ≡ true → list_any (same_refusal x) v.refusals ≡ true
  pub failing : w.failing ≤ v.failing
  pub last : IfSome w.last (λ e. v.last ≡ Some e)

-- actions and managed objects are there at most once, and not before their numbers are drawn; targets of fired actions stand
pub record IsOnce (s : Local) : Type 0 where
  pub acts : (a : Name) → present a s ≤ 1
  pub drawn : (a : Name) → a.origin ≡ s.here → IsUndrawn s.serial a.serial → present a s ≡ 0
  pub objects : (o : Id) → 16 ≤ o.kind → kept o s ≤ 1
  pub born : (o : Id) → 16 ≤ o.kind → o.home ≡ s.here → IsUndrawn s.number o.number → kept o s ≡ 0
  pub stands : TargetsStand s

-- the state of a Born is well formed and has no ids
abbrev pub IsBirth : Event → Type 0
IsBirth (Born o state) = IsState state × (state.ids ≡ [])
IsBirth _ = Unit {0}

-- a frame goes to a locality that there is
abbrev pub GoesSomewhere : Rules → Event → Type 0
GoesSomewhere r (Out to bytes) = to < r.localities
GoesSomewhere r _ = Unit {0}

-- the form of an entry, whatever came before: bare ids, a well-formed state, a locality that there is
pub record HasForm (r : Rules) (e : Event) : Type 0 where
  pub bare : AllByRecursion (λ o. o.log ≡ None) (objects_in e)
  pub birth : IsBirth e
  pub to : GoesSomewhere r e

-- where v shows, the entry is allowed, and then v' shows
pub record Follows (r : Rules) (v : View) (e : Event) (v' : View) : Type 0 where
  pub step : (s : Local) → IsOnce s → Shows v s → (IsForeign r s e → ⊥) → Allowed r s (entry_at s.here e) × Shows v' (after r s e)
  pub form : HasForm r e
  pub here : v'.here ≡ v.here
  pub covered : IsCovered v → IsCovered v'

-- one entry after another
abbrev pub Leads : Rules → View → List Event → View → Type 0
Leads r v [] v' = (v'.here ≡ v.here) × (IsCovered v → IsCovered v') × ((s : Local) → Shows v s → Shows v' s)
Leads r v (e ∷ es) v' = (m : View) × Follows r v e m × Leads r m es v'
