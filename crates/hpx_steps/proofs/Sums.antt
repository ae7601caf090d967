-- What lists weigh, and what is seen of a turn by what it weighs.
use Rattle.hpx_steps.proofs.Common.{Running, StandsHere, bare_standing, Accepted, Act, AllByRecursion, Came, Going, Leaving, Queued, Stray, Tables, Waiting, bare_act, messages, parcel_acts, waiting, Id, Item, List, Mailed, OnDesk, Outgoing, Parcel, Pending, Refusal, Some, Standing, Token, Turn, Waits, Working, [], action_of, ap, append_assoc, arith, asking, asking_of, commits, cond, count_by, credit_list, credits_of, drop, due_ids, filter, fired_of, flat_map, ids_here, ids_kept, is_asked, length, map, map-append, own_ids, own_parcels, parcel_tokens, parcels, refl, refusal_of, refusals_of, remove, rider_of, same_object, set, slice_get, split_get, split_set, suc, sum_by, sum_by-append, sum_by-cons, sum_middle, sym, take, tokens, tokens_of, weigh, worth, ℕ, ◌++◌, ◌+◌, ◌∙◌, ◌∷◌, ◌≡◌, ◌≤◌}

-- ---- lists

pub flat_append : {X Y : Type 0} (f : X → List Y) (xs ys : List X) → flat_map f (xs ++ ys) ≡ flat_map f xs ++ flat_map f ys
flat_append f [] ys = refl
flat_append f (x ∷ xs) ys = ap (λ zs. f x ++ zs) (flat_append f xs ys) ∙ sym (append_assoc (f x) (flat_map f xs) (flat_map f ys))

pub flat_sum : {X Y : Type 0} (f : Y → ℕ) (h : X → List Y) (xs : List X) → sum_by f (flat_map h xs) ≡ sum_by (λ x. sum_by f (h x)) xs
flat_sum f h [] = refl
flat_sum f h (x ∷ xs) = omega (arith, sum_by-append f (h x) (flat_map h xs), flat_sum f h xs, sum_by-cons (λ y. sum_by f (h y)) x xs)

pub map_sum : {X Y : Type 0} (f : Y → ℕ) (g : X → Y) (xs : List X) → sum_by f (map g xs) ≡ sum_by (λ x. f (g x)) xs
map_sum f g [] = refl
map_sum f g (x ∷ xs) = omega (arith, map_sum f g xs, sum_by-cons f (g x) (map g xs), sum_by-cons (λ y. f (g y)) x xs)

pub same_sum : {X : Type 0} (f g : X → ℕ) (xs : List X) → ((x : X) → f x ≡ g x) → sum_by f xs ≡ sum_by g xs
same_sum f g b same = grind arith

pub two_sums : {X : Type 0} (f g : X → ℕ) (xs : List X) → sum_by (λ x. f x + g x) xs ≡ sum_by f xs + sum_by g xs
two_sums f g [] = refl
two_sums f g (x ∷ xs) = omega (arith, two_sums f g xs, sum_by-cons (λ y. f y + g y) x xs, sum_by-cons f x xs, sum_by-cons g x xs)

pub most_sum : {X : Type 0} (P : X → Type 0) (f g : X → ℕ) (xs : List X) → ((x : X) → P x → f x ≤ g x) → AllByRecursion P xs → sum_by f xs ≤ sum_by g xs
most_sum P f g [] less h = omega arith
most_sum P f g (x ∷ xs) less h = omega (arith, sum_by-cons f x xs, sum_by-cons g x xs, less x h.0, most_sum P f g xs less h.1)

-- ---- tokens of ids

pub credits_append : (xs ys : List Id) → credits_of (xs ++ ys) ≡ credits_of xs ++ credits_of ys
credits_append [] ys = refl
credits_append (x ∷ xs) ys = ap (λ zs. credit_list x x.log ++ zs) (credits_append xs ys) ∙ sym (append_assoc (credit_list x x.log) (credits_of xs) (credits_of ys))

-- what the tokens of ids weigh
abbrev pub weighs : (Token → ℕ) → List Id → ℕ
weighs f ids = sum_by f (tokens_of ids)

module _ (f : Token → ℕ) where
  pub ids_append : (xs ys : List Id) → sum_by f (tokens_of (xs ++ ys)) ≡ sum_by f (tokens_of xs) + sum_by f (tokens_of ys)
  ids_append xs ys = grind (arith, credits_append, map-append, sum_by-append)

  pub ids_flat : {X : Type 0} (g : X → List Id) (xs : List X) → sum_by f (tokens_of (flat_map g xs)) ≡ sum_by (λ x. sum_by f (tokens_of (g x))) xs
  ids_flat g [] = refl
  ids_flat g (x ∷ xs) = omega (arith, ids_append (g x) (flat_map g xs), ids_flat g xs, sum_by-cons (λ y. sum_by f (tokens_of (g y))) x xs)

  pub ids_each : (xs : List Id) → sum_by f (tokens_of xs) ≡ sum_by (λ x. sum_by f (tokens_of (x ∷ []))) xs
  ids_each [] = refl
  ids_each (x ∷ xs) = omega (arith, ids_append (x ∷ []) xs, ids_each xs, sum_by-cons (λ y. sum_by f (tokens_of (y ∷ []))) x xs)

-- ---- what is seen

-- a weight of messages
abbrev pub by_parcel : (Parcel → ℕ) → Item → ℕ
by_parcel w (Came p) = w p
by_parcel w (Mailed p) = w p
by_parcel w (OnDesk p) = w p
by_parcel w (Going x) = w x.parcel
by_parcel w (Queued x) = w x.item
by_parcel w (Leaving p) = w p
by_parcel w (Stray p) = w p
by_parcel w _ = 0

pub zeros : {X : Type 0} (xs : List X) → sum_by (λ x. 0) xs ≡ 0
zeros [] = refl
zeros (x ∷ xs) = omega (arith, sum_by-cons (λ y. 0) x xs, zeros xs)

pub messages_sum : (w : Parcel → ℕ) (t : Tables) → sum_by w (messages t)
    ≡ sum_by w t.desk + sum_by (λ (x : Outgoing). w x.parcel) t.outgoing + sum_by (λ (x : Waiting Parcel). w x.item) t.queued + sum_by w t.leaving + sum_by w t.stray
messages_sum w t = omega (arith, sum_by-append w, map_sum w (λ (x : Outgoing). x.parcel), map_sum w (λ (x : Waiting Parcel). x.item))

pub parcels_sum : (w : Parcel → ℕ) (s : Turn) → sum_by w (parcels s) ≡ sum_by w s.came + sum_by w s.mailed + sum_by w s.tables.desk
    + sum_by (λ (x : Outgoing). w x.parcel) s.tables.outgoing + sum_by (λ (x : Waiting Parcel). w x.item) s.tables.queued + sum_by w s.tables.leaving + sum_by w s.tables.stray
parcels_sum w s = omega (arith, sum_by-append w s.came (own_parcels s), sum_by-append w s.mailed (messages s.tables), messages_sum w s.tables)

-- what is seen of messages
pub seen_sum : {Y : Type 0} (f : Y → ℕ) (h : Parcel → List Y) (s : Turn) → sum_by f (flat_map h (parcels s)) ≡ weigh (by_parcel (λ p. sum_by f (h p))) s
seen_sum f h s = omega (arith, flat_sum f h (parcels s), parcels_sum (λ p. sum_by f (h p)) s, zeros s.tables.came, zeros s.untold, zeros s.tables.accepted, zeros s.tables.running, zeros s.tables.pending, zeros s.working, zeros s.tables.objects, zeros s.due, zeros s.loose)

-- a weight of own messages
abbrev pub by_own : (Parcel → ℕ) → Item → ℕ
by_own w (Mailed p) = w p
by_own w (OnDesk p) = w p
by_own w (Going x) = w x.parcel
by_own w (Queued x) = w x.item
by_own w (Leaving p) = w p
by_own w (Stray p) = w p
by_own w _ = 0

pub own_sum : {Y : Type 0} (f : Y → ℕ) (h : Parcel → List Y) (s : Turn) → sum_by f (flat_map h (own_parcels s)) ≡ weigh (by_own (λ p. sum_by f (h p))) s
own_sum f h s = omega (
  arith,
  flat_sum f h (own_parcels s),
  sum_by-append (λ p. sum_by f (h p)) s.mailed (messages s.tables),
  messages_sum (λ p. sum_by f (h p)) s.tables,
  zeros s.came,
  zeros s.tables.came,
  zeros s.untold,
  zeros s.tables.accepted,
  zeros s.tables.running,
  zeros s.tables.pending,
  zeros s.working,
  zeros s.tables.objects,
  zeros s.due,
  zeros s.loose,
)

-- a weight of actions that wait
abbrev pub acting : (Act → ℕ) → Item → ℕ
acting f (Accepted act) = f (bare_act act)
acting f i = by_parcel (λ p. sum_by f (parcel_acts p)) i

pub wait_sum : (f : Act → ℕ) (s : Turn) → sum_by f (waiting s) ≡ weigh (acting f) s
wait_sum f s = omega (
  arith,
  sum_by-append f (map bare_act s.tables.accepted) (flat_map parcel_acts (parcels s)),
  map_sum f bare_act s.tables.accepted,
  flat_sum f parcel_acts (parcels s),
  parcels_sum (λ p. sum_by f (parcel_acts p)) s,
  zeros s.tables.came,
  zeros s.untold,
  zeros s.tables.running,
  zeros s.tables.pending,
  zeros s.working,
  zeros s.tables.objects,
  zeros s.due,
  zeros s.loose,
)

-- all tokens
pub view_worth : (f : Token → ℕ) (s : Turn) → sum_by f (tokens s) ≡ weigh (worth f) s
view_worth f s = omega (
  arith,
  sum_by-append f (tokens_of (ids_here s)) (flat_map parcel_tokens (parcels s)),
  flat_sum f parcel_tokens (parcels s),
  parcels_sum (λ p. sum_by f (parcel_tokens p)) s,
  ids_append f,
  ids_flat f (λ (x : Standing). x.state.ids) s.tables.objects,
  ids_flat f (λ (a : Act). a.ids),
  ids_flat f ids_kept (commits s),
  sum_by-append (λ (w : Waits). sum_by f (tokens_of (ids_kept w))) s.working s.tables.pending,
  kept_sum s.working,
  kept_sum s.tables.pending,
  ids_flat f due_ids s.due,
  ids_each f s.loose,
  zeros s.tables.came,
  zeros s.untold,
)
  where
    kept_sum : (ws : List Waits) → sum_by (λ (w : Waits). sum_by f (tokens_of (ids_kept w))) ws ≡ sum_by (λ w. worth f (Working w)) ws
    kept_sum ws = same_sum (λ (w : Waits). sum_by f (tokens_of (ids_kept w))) (λ w. worth f (Working w)) ws (λ w. ids_append f w.hand (rider_of w.job.action))

-- a weight of commits
abbrev pub by_commit : (Waits → ℕ) → Item → ℕ
by_commit f (Pending w) = f w
by_commit f (Working w) = f w
by_commit f _ = 0

commits_sum : (f : Waits → ℕ) (s : Turn) → sum_by f (commits s) ≡ weigh (by_commit f) s
commits_sum f s = omega (arith, sum_by-append f s.working s.tables.pending, zeros s.came, zeros s.mailed, zeros s.tables.desk, zeros s.tables.outgoing, zeros s.tables.queued, zeros s.tables.leaving, zeros s.tables.stray, zeros s.tables.came, zeros s.untold, zeros s.tables.accepted, zeros s.tables.running, zeros s.tables.objects, zeros s.due, zeros s.loose)

-- what was asked for
pub view_asking : (o : Id) (s : Turn) → count_by (same_object o) (asking_of (commits s)) ≡ weigh (asking o) s
view_asking o s = omega (arith, flat_sum (λ (x : Id). cond (same_object o x) 1 0) (λ (w : Waits). filter is_asked (own_ids w)) (commits s), commits_sum (λ (w : Waits). count_by (same_object o) (filter is_asked (own_ids w))) s)

-- refusals
abbrev pub refuses : (Refusal → ℕ) → Waits → ℕ
refuses f w = sum_by f (refusal_of w.job.action w.refused)

pub view_refusals : (f : Refusal → ℕ) (s : Turn) → sum_by f (refusals_of (commits s)) ≡ weigh (by_commit (refuses f)) s
view_refusals f s = omega (arith, flat_sum f (λ (w : Waits). refusal_of w.job.action w.refused) (commits s), commits_sum (refuses f) s)

-- fired actions
pub fired_sum : (f : Act → ℕ) (s : Turn) → sum_by f (fired_of s.tables.running (commits s))
    ≡ sum_by f s.tables.running + (sum_by (λ (w : Waits). f w.job.action) s.working + sum_by (λ (w : Waits). f w.job.action) s.tables.pending)
fired_sum f s = omega (arith, sum_by-append f s.tables.running (map action_of (commits s)), map_sum f action_of (commits s), sum_by-append (λ (w : Waits). f w.job.action) s.working s.tables.pending)

-- a weight of fired actions
abbrev pub acted : (Act → ℕ) → Item → ℕ
acted f (Running act) = f (bare_act act)
acted f (Pending w) = f (bare_act w.job.action)
acted f (Working w) = f (bare_act w.job.action)
acted f _ = 0

pub view_fired : (f : Act → ℕ) (s : Turn) → sum_by f (map bare_act (fired_of s.tables.running (commits s))) ≡ weigh (acted f) s
view_fired f s = omega (
  arith,
  map_sum f bare_act (fired_of s.tables.running (commits s)),
  fired_sum (λ act. f (bare_act act)) s,
  zeros s.came,
  zeros s.mailed,
  zeros s.tables.desk,
  zeros s.tables.outgoing,
  zeros s.tables.queued,
  zeros s.tables.leaving,
  zeros s.tables.stray,
  zeros s.tables.came,
  zeros s.untold,
  zeros s.tables.accepted,
  zeros s.tables.objects,
  zeros s.due,
  zeros s.loose,
)

-- a weight of objects that stand
abbrev pub stands_of : (Standing → ℕ) → Item → ℕ
stands_of f (StandsHere x) = f (bare_standing x)
stands_of f _ = 0

pub view_objects : (f : Standing → ℕ) (s : Turn) → sum_by f (map bare_standing s.tables.objects) ≡ weigh (stands_of f) s
view_objects f s = omega (
  arith,
  map_sum f bare_standing s.tables.objects,
  zeros s.came,
  zeros s.mailed,
  zeros s.tables.desk,
  zeros s.tables.outgoing,
  zeros s.tables.queued,
  zeros s.tables.leaving,
  zeros s.tables.stray,
  zeros s.tables.came,
  zeros s.untold,
  zeros s.tables.accepted,
  zeros s.tables.running,
  zeros s.tables.pending,
  zeros s.working,
  zeros s.due,
  zeros s.loose,
)

-- ---- sums over lists, where one element goes, and where another stands in its place

pub less_sum : {X : Type 0} (f : X → ℕ) (xs : List X) (i : ℕ) (x : X) → slice_get xs i ≡ Some x → sum_by f xs ≡ sum_by f (remove xs i) + f x
less_sum f xs i x there = ap (sum_by f) (split_get xs i x there) ∙ sum_middle f (take i xs) x (drop (suc i) xs)

pub set_sum : {X : Type 0} (f : X → ℕ) (xs : List X) (i : ℕ) (x y : X) → slice_get xs i ≡ Some x → sum_by f (set xs i y) + f x ≡ sum_by f xs + f y
set_sum f xs i x y h = omega (
  arith,
  ap (sum_by f) (split_get xs i x h),
  ap (sum_by f) (split_set xs i x y h),
  sum_middle f (take i xs) x (drop (suc i) xs),
  sum_middle f (take i xs) y (drop (suc i) xs),
)

-- one of a list is another that is seen the same
pub same_map : {X Y : Type 0} (g : X → Y) (xs : List X) (i : ℕ) (x y : X) → slice_get xs i ≡ Some x → g y ≡ g x → map g (set xs i y) ≡ map g xs
same_map g xs i x y h same =
    let middle : map g (take i xs) ++ g y ∷ map g (drop (suc i) xs) ≡ map g (take i xs) ++ g x ∷ map g (drop (suc i) xs) = ap (λ z. map g (take i xs) ++ z ∷ map g (drop (suc i) xs)) same in
    ap (map g) (split_set xs i x y h) ∙ simp map-append middle ∙ sym (ap (map g) (split_get xs i x h))

-- as many as there are
pub long_sum : {X : Type 0} (xs : List X) → length xs ≡ sum_by (λ x. 1) xs
long_sum [] = refl
long_sum (x ∷ xs) = omega (arith, long_sum xs, sum_by-cons (λ y. 1) x xs)

pub none_sum : {X : Type 0} (f : X → ℕ) (xs : List X) → ((x : X) → f x ≡ 0) → sum_by f xs ≡ 0
none_sum f [] none = refl
none_sum f (x ∷ xs) none = omega (arith, none x, none_sum f xs none, sum_by-cons f x xs)
