-- The primitive changes of a turn: what all weights are then, and what is there that was not there before.
use Rattle.hpx_steps.proofs.Common.{Arrival, Untold, ◌∙◌, Accept, Begin, Go, Queue, Tables, To, Way, accepts, append-nil, begins, comes_home, find, goes_away, is_for, nat_le, queues, sends, waits, way, with_last, with_way, without_first, Accepted, Act, Brought, Leaving, Queued, Stray, Waiting, AllByRecursion, Among, Bool, Came, Due, Going, Has, HasInHand, Holds, Id, IsDue, Item, List, Loose, Mailed, OnDesk, Outgoing, Parcel, Pending, Running, Some, Standing, StandsHere, Turn, Waits, Working, [], ap, arith, cond, drops, false, going, inl, inr, is_other, mails_if, map, parcel_for, posts, refl, remove, sent_as, set, slice_get, some_same, subst, suc, sum_by, sum_by-append, sum_by-cons, target_of, true, weigh, zero, ℕ, ◌++◌, ◌+◌, ◌∷◌, ◌≡◌, ◌⊎◌}
use Rattle.hpx_steps.proofs.Sums.{less_sum, set_sum}
use Rattle.hpx_steps.proofs.ByRows.{if_so}

-- ---- what is among others

pub among_all : {X : Type 0} (P : X → Type 0) (x : X) (xs : List X) → Among x xs → AllByRecursion P xs → P x
among_all P x [] m h = absurd m
among_all P x (y ∷ ys) (inl e) h = grind arith
among_all P x (y ∷ ys) (inr m) h = among_all P x ys m h.1

pub all_among : {X : Type 0} (P : X → Type 0) (xs : List X) → ((x : X) → Among x xs → P x) → AllByRecursion P xs
all_among P [] h = tt
all_among P (x ∷ xs) h = (h x (inl refl), all_among P xs (λ y m. h y (inr m)))

pub all_map : {X Y : Type 0} (g : X → Y) (P : Y → Type 0) (xs : List X) → AllByRecursion (λ x. P (g x)) xs → AllByRecursion P (map g xs)
all_map g P [] h = tt
all_map g P (x ∷ xs) h = (h.0, all_map g P xs h.1)

pub map_all : {X Y : Type 0} (g : X → Y) (P : Y → Type 0) (xs : List X) → AllByRecursion P (map g xs) → AllByRecursion (λ x. P (g x)) xs
map_all g P [] h = tt
map_all g P (x ∷ xs) h = (h.0, map_all g P xs h.1)

pub among_at : {X : Type 0} (xs : List X) (i : ℕ) (x : X) → slice_get xs i ≡ Some x → Among x xs
among_at [] i x h = cc
among_at (y ∷ ys) zero x h = inl (some_same y x h)
among_at (y ∷ ys) (suc i) x h = inr (among_at ys i x h)

pub found_among : {X : Type 0} (p : X → Bool) (xs : List X) (x : X) → find p xs ≡ Some x → Among x xs
found_among p [] x h = cc
found_among p (y ∷ ys) x h = if_so (p y) (λ t. inl (some_same y x (rw t at h))) (λ t. inr (found_among p ys x (rw t at h)))

pub among_left : {X : Type 0} (x : X) (xs ys : List X) → Among x xs → Among x (xs ++ ys)
among_left x [] ys m = absurd m
among_left x (z ∷ zs) ys (inl e) = inl e
among_left x (z ∷ zs) ys (inr m) = inr (among_left x zs ys m)

pub among_right : {X : Type 0} (x : X) (xs ys : List X) → Among x ys → Among x (xs ++ ys)
among_right x [] ys m = m
among_right x (z ∷ zs) ys m = inr (among_right x zs ys m)

pub among_either : {X : Type 0} (x : X) (xs ys : List X) → Among x (xs ++ ys) → Among x xs ⊎ Among x ys
among_either x [] ys m = inr m
among_either x (z ∷ zs) ys (inl e) = inl (inl e)
among_either x (z ∷ zs) ys (inr m) = grind (arith, m, among_either x zs ys m)

among_removed : {X : Type 0} (xs : List X) (i : ℕ) (x : X) → Among x (remove xs i) → Among x xs
among_removed [] zero x m = m
among_removed [] (suc i) x m = m
among_removed (y ∷ ys) zero x m = inr m
among_removed (y ∷ ys) (suc i) x (inl e) = inl e
among_removed (y ∷ ys) (suc i) x (inr m) = inr (among_removed ys i x m)

among_set : {X : Type 0} (xs : List X) (i : ℕ) (y x : X) → Among x (set xs i y) → Among x xs ⊎ (y ≡ x)
among_set [] i y x m = absurd m
among_set (z ∷ zs) zero y x (inl e) = inr e
among_set (z ∷ zs) zero y x (inr m) = inl (inr m)
among_set (z ∷ zs) (suc i) y x (inl e) = inl (inl e)
among_set (z ∷ zs) (suc i) y x (inr m) = grind (arith, i, m, among_set zs i y x m)

among_map : {X : Type 0} (c : X → Item) (x : X) (xs : List X) → Among x xs → Among (c x) (map c xs)
among_map c x [] m = m
among_map c x (y ∷ ys) (inl e) = inl (ap c e)
among_map c x (y ∷ ys) (inr m) = inr (among_map c x ys m)

-- ---- changes

-- what these weigh
abbrev pub total : (Item → ℕ) → List Item → ℕ
total w [] = 0
total w (i ∷ is) = w i + total w is

pub total_append : (w : Item → ℕ) (xs ys : List Item) → total w (xs ++ ys) ≡ total w xs + total w ys
total_append w [] ys = omega arith
total_append w (x ∷ xs) ys = let e : total w (xs ++ ys) ≡ total w xs + total w ys = total_append w xs ys in omega (arith, e)

pub total_map : {X : Type 0} (c : X → Item) (w : Item → ℕ) (xs : List X) → total w (map c xs) ≡ sum_by (λ x. w (c x)) xs
total_map c w [] = refl
total_map c w (x ∷ xs) = let e : total w (map c xs) ≡ sum_by (λ y. w (c y)) xs = total_map c w xs in omega (arith, e, sum_by-cons (λ y. w (c y)) x xs)

-- what all weights are where some things go and others come
abbrev pub Sums : List Item → List Item → Turn → Turn → Type 0
Sums out into s s' = (w : Item → ℕ) → weigh w s' + total w out ≡ weigh w s + total w into

-- what is there then was there, or comes
abbrev pub Comes : List Item → Turn → Turn → Type 0
Comes into s s' = (i : Item) → Has s' i → Has s i ⊎ Among i into

-- some things go, and others come
abbrev pub Changes : List Item → List Item → Turn → Turn → Type 0
Changes out into s s' = Sums out into s s' × Comes into s s'

-- what holds of all, and of those that come, holds of all then
pub holding : (P : Item → Type 0) (into : List Item) (s s' : Turn) → Comes into s s' → Holds P s → AllByRecursion P into → Holds P s'
holding P into s s' k h new i m = grind (arith, among_all)

-- one change after another
pub then : (out into out' into' : List Item) (s m s' : Turn) → Changes out into s m → Changes out' into' m s' → Changes (out ++ out') (into ++ into') s s'
then out into out' into' s m s' a b = grind (arith, total_append, among_right, among_left)

-- ---- things of one kind

-- of a list of things of one kind some go, and others come
pub record Trade {X : Type 0} (c : X → Item) (out into : List Item) (xs ys : List X) : Type 0 where
  pub sums : (w : Item → ℕ) → sum_by (λ x. w (c x)) ys + total w out ≡ sum_by (λ x. w (c x)) xs + total w into
  pub there : (x : X) → Among x ys → Among x xs ⊎ Among (c x) into

module _ {X : Type 0} (c : X → Item) where
  pub first_goes : (xs : List X) (x : X) (rest : List X) → xs ≡ x ∷ rest → Trade c (c x ∷ []) [] xs rest
  first_goes xs x rest is = record { sums = λ w. omega (arith, ap (sum_by (λ y. w (c y))) is, sum_by-cons (λ y. w (c y)) x rest); there = λ y m. inl (rw is (inr m)) }

  pub none_trade : (xs : List X) → Trade c [] [] xs xs
  none_trade xs = record { sums = λ w. refl; there = λ x m. inl m }

  pub first_comes : (xs : List X) (x : X) → Trade c [] (c x ∷ []) xs (x ∷ xs)
  first_comes xs x = record { sums = λ w. omega (arith, sum_by-cons (λ y. w (c y)) x xs); there = comes }
    where
      comes : (y : X) → Among y (x ∷ xs) → Among y xs ⊎ Among (c y) (c x ∷ [])
      comes y (inl e) = inr (inl (ap c e))
      comes y (inr m) = inl m

  pub one_comes : (xs : List X) (x : X) → xs ≡ [] → Trade c [] (c x ∷ []) xs (x ∷ [])
  one_comes xs x is = grind arith

  pub first_turns : (xs : List X) (x y : X) (rest : List X) → xs ≡ x ∷ rest → Trade c (c x ∷ []) (c y ∷ []) xs (y ∷ rest)
  first_turns xs x y rest is = record { sums = λ w. omega (arith, ap (sum_by (λ z. w (c z))) is, sum_by-cons (λ z. w (c z)) x rest, sum_by-cons (λ z. w (c z)) y rest); there = turns }
    where
      turns : (z : X) → Among z (y ∷ rest) → Among z xs ⊎ Among (c z) (c y ∷ [])
      turns z (inl e) = inr (inl (ap c e))
      turns z (inr m) = inl (rw is (inr m))

  pub more_come : (xs ys : List X) → Trade c [] (map c ys) xs (xs ++ ys)
  more_come xs ys = record {
    sums = λ w. omega (arith, sum_by-append (λ y. w (c y)) xs ys, total_map c w ys);
    there = λ y m. elim (among_either y xs ys m) [
      | inl a ↦ inl a
      | inr b ↦ inr (among_map c y ys b)
    ];
  }

  pub all_come : (xs ys : List X) → xs ≡ [] → Trade c [] (map c ys) xs ys
  all_come xs ys is = record { sums = λ w. omega (arith, ap (sum_by (λ y. w (c y))) is, total_map c w ys); there = λ y m. inr (among_map c y ys m) }

  pub one_goes : (xs : List X) (i : ℕ) (x : X) → slice_get xs i ≡ Some x → Trade c (c x ∷ []) [] xs (remove xs i)
  one_goes xs i x h = record { sums = λ w. omega (arith, less_sum (λ y. w (c y)) xs i x h); there = λ y m. inl (among_removed xs i y m) }

  pub one_turns : (xs : List X) (i : ℕ) (x y : X) → slice_get xs i ≡ Some x → Trade c (c x ∷ []) (c y ∷ []) xs (set xs i y)
  one_turns xs i x y h = record {
    sums = λ w. omega (arith, set_sum (λ z. w (c z)) xs i x y h);
    there = λ z m. elim (among_set xs i y z m) [
      | inl a ↦ inl a
      | inr e ↦ inr (inl (ap c e))
    ];
  }

-- ---- the same in a turn

-- what is there of one kind stays, or comes
abbrev pub MayCome : {X : Type 0} → (X → Item) → List Item → List X → List X → Type 0
MayCome {X} c into xs ys = (x : X) → Among x ys → Among x xs ⊎ Among (c x) into

-- so is what is there of all kinds
comes_by : (into : List Item) (s s' : Turn)
    → MayCome Came into s.came s'.came → MayCome Mailed into s.mailed s'.mailed → MayCome OnDesk into s.tables.desk s'.tables.desk
    → MayCome Going into s.tables.outgoing s'.tables.outgoing → MayCome Queued into s.tables.queued s'.tables.queued → MayCome Leaving into s.tables.leaving s'.tables.leaving
    → MayCome Stray into s.tables.stray s'.tables.stray → MayCome Brought into s.tables.came s'.tables.came → MayCome Accepted into s.tables.accepted s'.tables.accepted
    → MayCome Running into s.tables.running s'.tables.running → MayCome Pending into s.tables.pending s'.tables.pending → MayCome Working into s.working s'.working
    → MayCome StandsHere into s.tables.objects s'.tables.objects → MayCome IsDue into s.due s'.due → MayCome Loose into s.loose s'.loose
    → MayCome Untold into s.untold s'.untold
    → Comes into s s'
comes_by into s s' a b c d e f g h i j k l n o p q (Came x) m = a x m
comes_by into s s' a b c d e f g h i j k l n o p q (Mailed x) m = b x m
comes_by into s s' a b c d e f g h i j k l n o p q (OnDesk x) m = c x m
comes_by into s s' a b c d e f g h i j k l n o p q (Going x) m = d x m
comes_by into s s' a b c d e f g h i j k l n o p q (Queued x) m = e x m
comes_by into s s' a b c d e f g h i j k l n o p q (Leaving x) m = f x m
comes_by into s s' a b c d e f g h i j k l n o p q (Stray x) m = g x m
comes_by into s s' a b c d e f g h i j k l n o p q (Brought x) m = h x m
comes_by into s s' a b c d e f g h i j k l n o p q (Accepted x) m = i x m
comes_by into s s' a b c d e f g h i j k l n o p q (Running x) m = j x m
comes_by into s s' a b c d e f g h i j k l n o p q (Pending x) m = k x m
comes_by into s s' a b c d e f g h i j k l n o p q (Working x) m = l x m
comes_by into s s' a b c d e f g h i j k l n o p q (StandsHere x) m = n x m
comes_by into s s' a b c d e f g h i j k l n o p q (IsDue x) m = o x m
comes_by into s s' a b c d e f g h i j k l n o p q (Loose x) m = p x m
comes_by into s s' a b c d e f g h i j k l n o p q (Untold x) m = q x m

module _ (out into : List Item) (s : Turn) where
  pub came_change : (ys : List Parcel) → Trade Came out into s.came ys → Changes out into s (record s { came = ys })
  came_change ys k = (λ w. omega (arith, k.sums w), comes_by into s (record s { came = ys }) k.there (λ x m. inl m) (λ x m. inl m) (λ x m. inl m) (λ x m. inl m) (λ x m. inl m) (λ x m. inl m) (λ x m. inl m) (λ x m. inl m) (λ x m. inl m) (λ x m. inl m) (λ x m. inl m) (λ x m. inl m) (λ x m. inl m) (λ x m. inl m) (λ x m. inl m))

  pub mailed_change : (ys : List Parcel) → Trade Mailed out into s.mailed ys → Changes out into s (record s { mailed = ys })
  mailed_change ys k = (λ w. omega (arith, k.sums w), comes_by into s (record s { mailed = ys }) (λ x m. inl m) k.there (λ x m. inl m) (λ x m. inl m) (λ x m. inl m) (λ x m. inl m) (λ x m. inl m) (λ x m. inl m) (λ x m. inl m) (λ x m. inl m) (λ x m. inl m) (λ x m. inl m) (λ x m. inl m) (λ x m. inl m) (λ x m. inl m) (λ x m. inl m))

  pub desk_change : (ys : List Parcel) → Trade OnDesk out into s.tables.desk ys → Changes out into s (record s { tables = record s.tables { desk = ys } })
  desk_change ys k = (λ w. omega (arith, k.sums w), comes_by into s (record s { tables = record s.tables { desk = ys } }) (λ x m. inl m) (λ x m. inl m) k.there (λ x m. inl m) (λ x m. inl m) (λ x m. inl m) (λ x m. inl m) (λ x m. inl m) (λ x m. inl m) (λ x m. inl m) (λ x m. inl m) (λ x m. inl m) (λ x m. inl m) (λ x m. inl m) (λ x m. inl m) (λ x m. inl m))

  pub outgoing_change : (ys : List Outgoing) → Trade Going out into s.tables.outgoing ys → Changes out into s (record s { tables = record s.tables { outgoing = ys } })
  outgoing_change ys k = (λ w. omega (arith, k.sums w), comes_by into s (record s { tables = record s.tables { outgoing = ys } }) (λ x m. inl m) (λ x m. inl m) (λ x m. inl m) k.there (λ x m. inl m) (λ x m. inl m) (λ x m. inl m) (λ x m. inl m) (λ x m. inl m) (λ x m. inl m) (λ x m. inl m) (λ x m. inl m) (λ x m. inl m) (λ x m. inl m) (λ x m. inl m) (λ x m. inl m))

  pub queued_change : (ys : List (Waiting Parcel)) → Trade Queued out into s.tables.queued ys → Changes out into s (record s { tables = record s.tables { queued = ys } })
  queued_change ys k = (λ w. omega (arith, k.sums w), comes_by into s (record s { tables = record s.tables { queued = ys } }) (λ x m. inl m) (λ x m. inl m) (λ x m. inl m) (λ x m. inl m) k.there (λ x m. inl m) (λ x m. inl m) (λ x m. inl m) (λ x m. inl m) (λ x m. inl m) (λ x m. inl m) (λ x m. inl m) (λ x m. inl m) (λ x m. inl m) (λ x m. inl m) (λ x m. inl m))

  pub leaving_change : (ys : List Parcel) → Trade Leaving out into s.tables.leaving ys → Changes out into s (record s { tables = record s.tables { leaving = ys } })
  leaving_change ys k = (λ w. omega (arith, k.sums w), comes_by into s (record s { tables = record s.tables { leaving = ys } }) (λ x m. inl m) (λ x m. inl m) (λ x m. inl m) (λ x m. inl m) (λ x m. inl m) k.there (λ x m. inl m) (λ x m. inl m) (λ x m. inl m) (λ x m. inl m) (λ x m. inl m) (λ x m. inl m) (λ x m. inl m) (λ x m. inl m) (λ x m. inl m) (λ x m. inl m))

  pub stray_change : (ys : List Parcel) → Trade Stray out into s.tables.stray ys → Changes out into s (record s { tables = record s.tables { stray = ys } })
  stray_change ys k = (λ w. omega (arith, k.sums w), comes_by into s (record s { tables = record s.tables { stray = ys } }) (λ x m. inl m) (λ x m. inl m) (λ x m. inl m) (λ x m. inl m) (λ x m. inl m) (λ x m. inl m) k.there (λ x m. inl m) (λ x m. inl m) (λ x m. inl m) (λ x m. inl m) (λ x m. inl m) (λ x m. inl m) (λ x m. inl m) (λ x m. inl m) (λ x m. inl m))

  pub brought_change : (ys : List Arrival) → Trade Brought out into s.tables.came ys → Changes out into s (record s { tables = record s.tables { came = ys } })
  brought_change ys k = (λ w. omega (arith, k.sums w), comes_by into s (record s { tables = record s.tables { came = ys } }) (λ x m. inl m) (λ x m. inl m) (λ x m. inl m) (λ x m. inl m) (λ x m. inl m) (λ x m. inl m) (λ x m. inl m) k.there (λ x m. inl m) (λ x m. inl m) (λ x m. inl m) (λ x m. inl m) (λ x m. inl m) (λ x m. inl m) (λ x m. inl m) (λ x m. inl m))

  pub accepted_change : (ys : List Act) → Trade Accepted out into s.tables.accepted ys → Changes out into s (record s { tables = record s.tables { accepted = ys } })
  accepted_change ys k = (λ w. omega (arith, k.sums w), comes_by into s (record s { tables = record s.tables { accepted = ys } }) (λ x m. inl m) (λ x m. inl m) (λ x m. inl m) (λ x m. inl m) (λ x m. inl m) (λ x m. inl m) (λ x m. inl m) (λ x m. inl m) k.there (λ x m. inl m) (λ x m. inl m) (λ x m. inl m) (λ x m. inl m) (λ x m. inl m) (λ x m. inl m) (λ x m. inl m))

  pub running_change : (ys : List Act) → Trade Running out into s.tables.running ys → Changes out into s (record s { tables = record s.tables { running = ys } })
  running_change ys k = (λ w. omega (arith, k.sums w), comes_by into s (record s { tables = record s.tables { running = ys } }) (λ x m. inl m) (λ x m. inl m) (λ x m. inl m) (λ x m. inl m) (λ x m. inl m) (λ x m. inl m) (λ x m. inl m) (λ x m. inl m) (λ x m. inl m) k.there (λ x m. inl m) (λ x m. inl m) (λ x m. inl m) (λ x m. inl m) (λ x m. inl m) (λ x m. inl m))

  pub pending_change : (ys : List Waits) → Trade Pending out into s.tables.pending ys → Changes out into s (record s { tables = record s.tables { pending = ys } })
  pending_change ys k = (λ w. omega (arith, k.sums w), comes_by into s (record s { tables = record s.tables { pending = ys } }) (λ x m. inl m) (λ x m. inl m) (λ x m. inl m) (λ x m. inl m) (λ x m. inl m) (λ x m. inl m) (λ x m. inl m) (λ x m. inl m) (λ x m. inl m) (λ x m. inl m) k.there (λ x m. inl m) (λ x m. inl m) (λ x m. inl m) (λ x m. inl m) (λ x m. inl m))

  pub working_change : (ys : List Waits) → Trade Working out into s.working ys → Changes out into s (record s { working = ys })
  working_change ys k = (λ w. omega (arith, k.sums w), comes_by into s (record s { working = ys }) (λ x m. inl m) (λ x m. inl m) (λ x m. inl m) (λ x m. inl m) (λ x m. inl m) (λ x m. inl m) (λ x m. inl m) (λ x m. inl m) (λ x m. inl m) (λ x m. inl m) (λ x m. inl m) k.there (λ x m. inl m) (λ x m. inl m) (λ x m. inl m) (λ x m. inl m))

  pub objects_change : (ys : List Standing) → Trade StandsHere out into s.tables.objects ys → Changes out into s (record s { tables = record s.tables { objects = ys } })
  objects_change ys k = (λ w. omega (arith, k.sums w), comes_by into s (record s { tables = record s.tables { objects = ys } }) (λ x m. inl m) (λ x m. inl m) (λ x m. inl m) (λ x m. inl m) (λ x m. inl m) (λ x m. inl m) (λ x m. inl m) (λ x m. inl m) (λ x m. inl m) (λ x m. inl m) (λ x m. inl m) (λ x m. inl m) k.there (λ x m. inl m) (λ x m. inl m) (λ x m. inl m))

  pub due_change : (ys : List Due) → Trade IsDue out into s.due ys → Changes out into s (record s { due = ys })
  due_change ys k = (λ w. omega (arith, k.sums w), comes_by into s (record s { due = ys }) (λ x m. inl m) (λ x m. inl m) (λ x m. inl m) (λ x m. inl m) (λ x m. inl m) (λ x m. inl m) (λ x m. inl m) (λ x m. inl m) (λ x m. inl m) (λ x m. inl m) (λ x m. inl m) (λ x m. inl m) (λ x m. inl m) k.there (λ x m. inl m) (λ x m. inl m))

  pub loose_change : (ys : List Id) → Trade Loose out into s.loose ys → Changes out into s (record s { loose = ys })
  loose_change ys k = (λ w. omega (arith, k.sums w), comes_by into s (record s { loose = ys }) (λ x m. inl m) (λ x m. inl m) (λ x m. inl m) (λ x m. inl m) (λ x m. inl m) (λ x m. inl m) (λ x m. inl m) (λ x m. inl m) (λ x m. inl m) (λ x m. inl m) (λ x m. inl m) (λ x m. inl m) (λ x m. inl m) (λ x m. inl m) k.there (λ x m. inl m))

  pub untold_change : (ys : List Id) → Trade Untold out into s.untold ys → Changes out into s (record s { untold = ys })
  untold_change ys k = (λ w. omega (arith, k.sums w), comes_by into s (record s { untold = ys }) (λ x m. inl m) (λ x m. inl m) (λ x m. inl m) (λ x m. inl m) (λ x m. inl m) (λ x m. inl m) (λ x m. inl m) (λ x m. inl m) (λ x m. inl m) (λ x m. inl m) (λ x m. inl m) (λ x m. inl m) (λ x m. inl m) (λ x m. inl m) (λ x m. inl m) k.there)

-- ---- one more message

-- what is new then
abbrev pub sent_if : Bool → Bool → ℕ → Parcel → List Item
sent_if b other to p = cond b (sent_as other to p ∷ []) []

pub mail_change : (b : Bool) (to : ℕ) (p : Parcel) (s : Turn) → Changes [] (sent_if b (is_other s.tables to) to p) s (mails_if b to p s)
mail_change b to p s =
    let other : Bool = is_other s.tables to in
    let here : List Parcel = cond b (cond other [] (p ∷ [])) [] in
    let away : List Outgoing = cond b (cond other (going to p ∷ []) []) [] in
    let mid : Turn = record s { tables = record s.tables { desk = s.tables.desk ++ here } } in
    subst (λ is. Changes [] is s (mails_if b to p s)) (all b other)
    (then [] (map (λ x. OnDesk x) here) [] (map (λ x. Going x) away) s mid (mails_if b to p s)
    (desk_change [] (map (λ x. OnDesk x) here) s (s.tables.desk ++ here) (more_come (λ x. OnDesk x) s.tables.desk here))
    (outgoing_change [] (map (λ x. Going x) away) mid (s.tables.outgoing ++ away) (more_come (λ x. Going x) s.tables.outgoing away)))
  where
    all : (b o : Bool) → map (λ x. OnDesk x) (cond b (cond o [] (p ∷ [])) []) ++ map (λ x. Going x) (cond b (cond o (going to p ∷ []) []) []) ≡ sent_if b o to p
    all true true = refl
    all true false = refl
    all false o = refl

-- ---- what waits for objects that move

pub last_comes : (w : Waiting Parcel) (xs : List (Waiting Parcel)) → Trade Queued [] (Queued w ∷ []) xs (with_last w xs)
last_comes w [] = first_comes Queued [] w
last_comes w (x ∷ xs) = if_so (nat_le x.number w.number)
    (λ t. let k = last_comes w xs in rw t (record {
      sums = λ f. omega (arith, k.sums f, sum_by-cons (λ y. f (Queued y)) x (with_last w xs), sum_by-cons (λ y. f (Queued y)) x xs);
      there = λ y m. later k.there y m;
    }))
    (λ t. rw t (first_comes Queued (x ∷ xs) w))
  where
    later : MayCome Queued (Queued w ∷ []) xs (with_last w xs) → MayCome Queued (Queued w ∷ []) (x ∷ xs) (x ∷ with_last w xs)
    later k y (inl e) = inl (inl e)
    later k y (inr m) = elim (k y m) [
      | inl c ↦ inl (inr c)
      | inr c ↦ inr c
    ]

pub first_leaves : (n : ℕ) (w : Waiting Parcel) (xs : List (Waiting Parcel)) → find (is_for n) xs ≡ Some w → Trade Queued (Queued w ∷ []) [] xs (without_first n xs)
first_leaves n w [] h = cc
first_leaves n w (x ∷ xs) h = if_so (is_for n x)
    (λ t. let e : x ≡ w = some_same x w (rw t at h) in rw (t, e) (first_goes Queued (w ∷ xs) w xs refl))
    (λ t. let k = first_leaves n w xs (rw t at h) in rw t (record {
      sums = λ f. omega (arith, k.sums f, sum_by-cons (λ y. f (Queued y)) x (without_first n xs), sum_by-cons (λ y. f (Queued y)) x xs);
      there = λ y m. later k.there y m;
    }))
  where
    later : MayCome Queued [] xs (without_first n xs) → MayCome Queued [] (x ∷ xs) (x ∷ without_first n xs)
    later k y (inl e) = inl (inl e)
    later k y (inr m) = elim (k y m) [
      | inl c ↦ inl (inr c)
      | inr c ↦ absurd c
    ]

-- ---- one more action

-- what is new then: an accepted action, one that waits, or a message
abbrev pub put_as : Tables → Way → Act → Item
put_as t Accept act = Accepted act
put_as t Queue act = Queued (waits (target_of act).number (parcel_for act))
put_as t (To to) act = sent_as (is_other t to) to (parcel_for act)
put_as t (Begin place) act = sent_as (is_other t place) place (Go act)

-- with it
abbrev pub goes_by : Way → Act → Turn → Turn
goes_by v act s = record s { tables = with_way v act s.tables }

pub way_change : (v : Way) (act : Act) (s : Turn) → Changes [] (put_as s.tables v act ∷ []) s (goes_by v act s)
way_change v act s =
    let desk : List Parcel = comes_home s.tables (sends v act) in
    let out : List Outgoing = goes_away s.tables (sends v act) in
    let kept : List Act = accepts v act in
    let a : Turn = record s { tables = record s.tables { desk = s.tables.desk ++ desk; records = begins v act s.tables.records } } in
    let b : Turn = record a { tables = record a.tables { outgoing = s.tables.outgoing ++ out } } in
    let c : Turn = record b { tables = record b.tables { accepted = s.tables.accepted ++ kept } } in
    subst (λ is. Changes [] is s (goes_by v act s)) (all v)
    (then [] (map (λ x. OnDesk x) desk) [] (map (λ x. Going x) out ++ (map (λ x. Accepted x) kept ++ new v)) s a (goes_by v act s)
    (counted (map (λ x. OnDesk x) desk) (record s.tables { desk = s.tables.desk ++ desk }) (desk_change [] (map (λ x. OnDesk x) desk) s (s.tables.desk ++ desk) (more_come (λ x. OnDesk x) s.tables.desk desk)))
    (then [] (map (λ x. Going x) out) [] (map (λ x. Accepted x) kept ++ new v) a b (goes_by v act s)
    (outgoing_change [] (map (λ x. Going x) out) a (s.tables.outgoing ++ out) (more_come (λ x. Going x) s.tables.outgoing out))
    (then [] (map (λ x. Accepted x) kept) [] (new v) b c (goes_by v act s)
    (accepted_change [] (map (λ x. Accepted x) kept) b (s.tables.accepted ++ kept) (more_come (λ x. Accepted x) s.tables.accepted kept))
    (queued_change [] (new v) c (queues v act s.tables.queued) (waits_more v)))))
  where
    new : Way → List Item
    new Queue = Queued (waits (target_of act).number (parcel_for act)) ∷ []
    new Accept = []
    new (To to) = []
    new (Begin place) = []

    waits_more : (u : Way) → Trade Queued [] (new u) s.tables.queued (queues u act s.tables.queued)
    waits_more Queue = last_comes (waits (target_of act).number (parcel_for act)) s.tables.queued
    waits_more Accept = none_trade Queued s.tables.queued
    waits_more (To to) = none_trade Queued s.tables.queued
    waits_more (Begin place) = none_trade Queued s.tables.queued

    -- records weigh nothing
    counted : (into : List Item) (t : Tables) → Changes [] into s (record s { tables = t }) → Changes [] into s (record s { tables = record t { records = begins v act s.tables.records } })
    counted into t k = (λ w. k.0 w, λ i m. k.1 i m)

    sent : (other : Bool) (to : ℕ) (p : Parcel) → map (λ x. OnDesk x) (cond other [] (p ∷ [])) ++ map (λ x. Going x) (cond other (going to p ∷ []) []) ≡ sent_as other to p ∷ []
    sent true to p = refl
    sent false to p = refl

    all : (u : Way) → map (λ x. OnDesk x) (comes_home s.tables (sends u act)) ++ (map (λ x. Going x) (goes_away s.tables (sends u act)) ++ (map (λ x. Accepted x) (accepts u act) ++ new u))
        ≡ put_as s.tables u act ∷ []
    all Accept = refl
    all Queue = refl
    all (To to) = ap (λ is. map (λ x. OnDesk x) (cond (is_other s.tables to) [] (parcel_for act ∷ [])) ++ is) (append-nil _) ∙ sent (is_other s.tables to) to (parcel_for act)
    all (Begin place) = ap (λ is. map (λ x. OnDesk x) (cond (is_other s.tables place) [] (Go act ∷ [])) ++ is) (append-nil _) ∙ sent (is_other s.tables place) place (Go act)

pub post_change : (act : Act) (s : Turn) → Changes [] (put_as s.tables (way s.tables act) act ∷ []) s (posts act s)
post_change act s = way_change (way s.tables act) act s

-- ---- the message in hand

-- wherever it is from
abbrev pub in_hand : Bool → Parcel → Item
in_hand from_frame p = cond from_frame (Came p) (Mailed p)

abbrev pub is_frame : (p : Parcel) (s : Turn) → HasInHand p s → Bool
is_frame p s (inl h) = true
is_frame p s (inr h) = false

pub hand_is : (p : Parcel) (s : Turn) (hand : HasInHand p s) → Has s (in_hand (is_frame p s hand) p)
hand_is p s (inl h) = rw h.0 (inl refl)
hand_is p s (inr h) = rw h.1 (inl refl)

pub drop_change : (p : Parcel) (s : Turn) (hand : HasInHand p s) → Changes (in_hand (is_frame p s hand) p ∷ []) [] s (drops s)
drop_change p s (inl h) = grind arith
drop_change p s (inr h) = grind arith

-- its weight, where that sees no difference between frames and the desk
pub hand_weighs : (p : Parcel) (s : Turn) (hand : HasInHand p s) (w : Item → ℕ) (n : ℕ) → w (Came p) ≡ n → w (Mailed p) ≡ n → w (in_hand (is_frame p s hand) p) ≡ n
hand_weighs p s (inl h) w n a b = a
hand_weighs p s (inr h) w n a b = b

pub drop_moves : (p : Parcel) (s : Turn) → HasInHand p s → (w : Item → ℕ) (n : ℕ) → w (Came p) ≡ n → w (Mailed p) ≡ n → weigh w (drops s) + n ≡ weigh w s
drop_moves p s hand w n a b = omega (arith, (drop_change p s hand).0 w, hand_weighs p s hand w n a b)
