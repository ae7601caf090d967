-- Busy objects, and what is found in lists without credits.
use Rattle.hpx_steps.proofs.Common.{Act, Apart, Bool, Id, List, None, Option, Some, Standing, [], acts_on, ap, bare, bare_act, bare_standing, cases_Bool, cond, false, find, inl, inr, is_busy, is_standing, list_any, map, map-append, refl, same_object, same_object-sym, same_object-true, subst, sym, target_of, true, ◌++◌, ◌==◌, ◌||◌, ◌∙◌, ◌∷◌, ◌≡◌}
use Rattle.hpx_steps.proofs.ByRows.{if_so}
use Rattle.hpx_steps.proofs.Puts.{target-bare}

pub or_false : (a b : Bool) → a ≡ false → b ≡ false → (a || b) ≡ false
or_false a b h i = rw (h, i) refl

pub none_of : (a b : Bool) → (a || b) ≡ false → (a ≡ false) × (b ≡ false)
none_of true b h = absurd (cc)
none_of false b h = (refl, h)

-- what is false both ways
pub never : (b : Bool) → cond b false false ≡ false
never true = refl
never false = refl

-- whether an action keeps o busy
abbrev pub keeps : Id → Act → Bool
keeps o act = cond (o.kind == 7) false (acts_on o act)

busy_first : (o : Id) (act : Act) (acts : List Act) → is_busy o (act ∷ acts) ≡ (keeps o act || is_busy o acts)
busy_first o act acts = if_so (o.kind == 7) (λ t. rw t refl) (λ t. rw t refl)

pub busy_none : (o : Id) (act : Act) (acts : List Act) → is_busy o (act ∷ acts) ≡ false → (keeps o act ≡ false) × (is_busy o acts ≡ false)
busy_none o act acts h = none_of (keeps o act) (is_busy o acts) (sym (busy_first o act acts) ∙ h)

pub none_busy : (o : Id) (act : Act) (acts : List Act) → keeps o act ≡ false → is_busy o acts ≡ false → is_busy o (act ∷ acts) ≡ false
none_busy o act acts h i = busy_first o act acts ∙ or_false (keeps o act) (is_busy o acts) h i

-- the same object is as busy
pub busy_same : (a b : Id) (acts : List Act) → same_object a b ≡ true → is_busy a acts ≡ is_busy b acts
busy_same a b acts h = ap (λ (o : Id). is_busy o acts) (same_object-true a b h)

-- two actions keep each other's objects busy, or neither does
pub keeps_both : (a b : Act) → keeps (target_of a) b ≡ false → keeps (target_of b) a ≡ false
keeps_both a b h = elim (cases_Bool (same_object (target_of b) (target_of a))) [
  | inl t ↦
      let same : same_object (target_of a) (target_of b) ≡ true = same_object-sym (target_of b) (target_of a) t in
      let kind : (target_of b).kind ≡ (target_of a).kind = ap (λ (o : Id). o.kind) (same_object-true (target_of b) (target_of a) t) in
      ap (λ k. cond (k == 7) false (same_object (target_of b) (target_of a))) kind
      ∙ (ap (λ c. cond ((target_of a).kind == 7) false c) (t ∙ sym same) ∙ h)
  | inr t ↦ ap (λ c. cond ((target_of b).kind == 7) false c) t ∙ never ((target_of b).kind == 7)
]

pub busy_parts : (o : Id) (l m : List Act) → is_busy o (l ++ m) ≡ false → (is_busy o l ≡ false) × (is_busy o m ≡ false)
busy_parts o [] m h = (never (o.kind == 7), h)
busy_parts o (x ∷ l) m h =
    let first = busy_none o x (l ++ m) h in
    let rest = busy_parts o l m first.1 in (none_busy o x l first.0 rest.0, rest.1)

pub busy_middle : (o : Id) (l : List Act) (act : Act) (m : List Act) → is_busy o (l ++ m) ≡ false → keeps o act ≡ false → is_busy o (l ++ act ∷ m) ≡ false
busy_middle o [] act m h k = none_busy o act m k h
busy_middle o (x ∷ l) act m h k =
    let first = busy_none o x (l ++ m) h in none_busy o x (l ++ act ∷ m) first.0 (busy_middle o l act m first.1 k)

pub busy_less : (o : Id) (l : List Act) (act : Act) (m : List Act) → is_busy o (l ++ act ∷ m) ≡ false → (keeps o act ≡ false) × (is_busy o (l ++ m) ≡ false)
busy_less o [] act m h = busy_none o act m h
busy_less o (x ∷ l) act m h =
    let first = busy_none o x (l ++ act ∷ m) h in
    let rest = busy_less o l act m first.1 in (rest.0, none_busy o x (l ++ m) first.0 rest.1)

-- one more action whose object is free
pub apart_more : (l : List Act) (act : Act) (m : List Act) → Apart (l ++ m) → is_busy (target_of act) (l ++ m) ≡ false → Apart (l ++ act ∷ m)
apart_more [] act m h free = (free, h)
apart_more (x ∷ l) act m h free =
    let first = busy_none (target_of act) x (l ++ m) free in (busy_middle (target_of x) l act m h.0 (keeps_both act x first.0), apart_more l act m h.1 first.1)

-- one action less
pub apart_less : (l : List Act) (act : Act) (m : List Act) → Apart (l ++ act ∷ m) → Apart (l ++ m)
apart_less [] act m h = h.1
apart_less (x ∷ l) act m h = ((busy_less (target_of x) l act m h.0).1, apart_less l act m h.1)

-- an action is apart from all others
pub apart_alone : (l : List Act) (act : Act) (m : List Act) → Apart (l ++ act ∷ m) → is_busy (target_of act) (l ++ m) ≡ false
apart_alone [] act m h = h.0
apart_alone (x ∷ l) act m h = none_busy (target_of act) x (l ++ m) (keeps_both x act (busy_less (target_of x) l act m h.0).0) (apart_alone l act m h.1)

-- an action may stand elsewhere
pub busy_moved : (o : Id) (act : Act) (l m l' m' : List Act) → l ++ m ≡ l' ++ m' → is_busy o (l' ++ act ∷ m') ≡ false → is_busy o (l ++ act ∷ m) ≡ false
busy_moved o act l m l' m' same h =
    let k = busy_less o l' act m' h in busy_middle o l act m (ap (is_busy o) same ∙ k.1) k.0

pub apart_moved : (act : Act) (l m l' m' : List Act) → l ++ m ≡ l' ++ m' → Apart (l ++ act ∷ m) → Apart (l' ++ act ∷ m')
apart_moved act l m l' m' same h = apart_more l' act m' (subst Apart same (apart_less l act m h)) (ap (is_busy (target_of act)) (sym same) ∙ apart_alone l act m h)

pub found-bare : (o : Id) (xs : List Standing) (x : Standing) → find (is_standing o) xs ≡ Some x → find (is_standing (bare o)) (map bare_standing xs) ≡ Some (bare_standing x)
found-bare o [] x h = cc
found-bare o (y ∷ ys) x h = if_so (is_standing o y) (λ t. rw t (let e : Some y ≡ Some x = rw t at h in ap (λ (z : Option Standing). option_bare z) e)) (λ t. rw t (found-bare o ys x (rw t at h)))
  where
    option_bare : Option Standing → Option Standing
    option_bare None = None
    option_bare (Some z) = Some (bare_standing z)

any-bare : (o : Id) (xs : List Act) → list_any (acts_on (bare o)) (map bare_act xs) ≡ list_any (acts_on o) xs
any-bare o [] = refl
any-bare o (x ∷ xs) = rw (target-bare x, any-bare o xs) refl

pub busy-bare : (o : Id) (xs : List Act) → is_busy (bare o) (map bare_act xs) ≡ is_busy o xs
busy-bare o xs = ap (λ b. cond (o.kind == 7) false b) (any-bare o xs)

-- lists without credits, taken apart
pub bare_middle : (l : List Act) (act : Act) (m : List Act) → map bare_act (l ++ act ∷ m) ≡ map bare_act l ++ bare_act act ∷ map bare_act m
bare_middle l act m = map-append bare_act l (act ∷ m)
