-- Credit that comes home or is asked for: what the registry tells of its records.
use Rattle.hpx_node.proofs.Common.{Ask, Bool, Count, DealsWith, Free, Give, Granted, Id, IfSome, IsSomeAnd, Leaves, List, None, Option, Parcel, Profile, Record, Refused, Return, Some, Standing, Tables, [], and_true, answered, ap, append-nil, asked, bare, cases_Bool, cond, count_here, credit, eqb-true, false, find, find_passes, find_record, granted_of, grown, if◌then◌else◌, inl, inr, is_live, is_some, is_standing, left_of, lowered, more_here, nat_lt, option_and_then, option_map, place_or_0, refl, remove, same_object, slice_get, some_same, subst, suc, sym, take, true, with_mail, with_mail_if, without, zero, ℕ, ◌&&◌, ◌++◌, ◌+◌, ◌-◌, ◌==◌, ◌^◌, ◌∙◌, ◌∷◌, ◌≡◌, ◌≤◌}
use Rattle.std.specs.List.Sorted.{IsPermutation}
use Rattle.std.specs.Option.{option_map_or}
use Rattle.hpx_agas.specs.declared.record.Waiting.{Waiting}
use Rattle.hpx_agas.specs.declared.records.Left.TheVariants.{Alive, Dead}
use Rattle.hpx_agas.specs.declared.records.Granted.TheVariants.{Limit, Yes}

-- ---- by what the records tell

pub live_home : (here : ℕ) (records : List Record) (id : Id) → ((id.home == here) && is_some (find_record id records)) ≡ true → id.home ≡ here
live_home here records id live = eqb-true id.home here (and_true (id.home == here) (is_some (find_record id records)) live).0

some_of : {X : Type 0} (o : Option X) → is_some o ≡ true → (x : X) × (o ≡ Some x)
some_of None h = absurd (cc)
some_of (Some x) h = (x, refl)

pub live_record : (here : ℕ) (records : List Record) (id : Id) → ((id.home == here) && is_some (find_record id records)) ≡ true
    → (rec : Record) × (find_record id records ≡ Some rec)
live_record here records id live =
    some_of (find_record id records) (and_true (id.home == here) (is_some (find_record id records)) live).1

pub live_covers : (here : ℕ) (records : List Record) (id : Id) → ((id.home == here) && is_some (find_record id records)) ≡ true
    → credit id ≤ option_map_or (λ (r : Record). r.count) (find_record id records) 0 → IsSomeAnd (find_record id records) (λ r. credit id ≤ r.count)
live_covers here records id live enough =
    let found = live_record here records id live in
    subst (λ (o : Option Record). IsSomeAnd o (λ r. credit id ≤ r.count)) (sym found.1)
    (subst (λ (o : Option Record). credit id ≤ option_map_or (λ (r : Record). r.count) o 0) found.1 enough)

alive_some : (rec : Record) (id : Id) → Alive ≡ left_of rec id → (rec.count == credit id) ≡ false
alive_some rec id h = elim (cases_Bool (rec.count == credit id)) [
  | inl t ↦ absurd (let e : Alive ≡ Dead rec.place = rw t at h in cc)
  | inr t ↦ t
]

dead_all : (place : ℕ) (rec : Record) (id : Id) → Dead place ≡ left_of rec id → ((rec.count == credit id) ≡ true) × (place ≡ rec.place)
dead_all place rec id h = elim (cases_Bool (rec.count == credit id)) [
  | inl t ↦ (t, let e : Dead place ≡ Dead rec.place = rw t at h in cc)
  | inr t ↦ absurd (let e : Dead place ≡ Alive = rw t at h in cc)
]

no_mail : (to : ℕ) (p : Parcel) (t : Tables) → with_mail_if false to p t ≡ t
no_mail to p t =
    ap (λ xs. record t { desk = xs; outgoing = t.outgoing ++ [] }) (append-nil t.desk)
    ∙ ap (λ xs. record t { outgoing = xs }) (append-nil t.outgoing)

limit_full : (t : Tables) (rec : Record) (id : Id) → Limit ≡ granted_of t.profile rec id → nat_lt t.profile.credit_limit (grown t.profile rec) ≡ true
limit_full t rec id h = elim (cases_Bool (nat_lt t.profile.credit_limit (grown t.profile rec))) [
  | inl b ↦ b
  | inr b ↦ absurd (let e : Limit ≡ Yes (record id { log = Some t.profile.credit_log }) = rw b at h in cc)
]

yes_free : (t : Tables) (rec : Record) (id more : Id) → Yes more ≡ granted_of t.profile rec id
    → (nat_lt t.profile.credit_limit (grown t.profile rec) ≡ false) × (more ≡ record id { log = Some t.profile.credit_log })
yes_free t rec id more h = elim (cases_Bool (nat_lt t.profile.credit_limit (grown t.profile rec))) [
  | inl b ↦ absurd (let e : Yes more ≡ Limit = rw b at h in cc)
  | inr b ↦ (b, let e : Yes more ≡ Yes (record id { log = Some t.profile.credit_log }) = rw b at h in cc)
]

granted_home : (full : Bool) (p : Profile) (id more : Id) → Yes more ≡ (if full then Limit else Yes (record id { log = Some p.credit_log })) → more.home ≡ id.home
granted_home true p id more h = absurd (cc)
granted_home false p id more h = let e : more ≡ record id { log = Some p.credit_log } = cc in ap (λ (x : Id). x.home) e

-- an id with more credit is of the same home
pub given_home : (here : ℕ) (records : List Record) (p : Profile) (id more : Id) → ((id.home == here) && is_some (find_record id records)) ≡ true
    → IfSome (find_record id records) (λ x. Yes more ≡ granted_of p x id) → more.home ≡ id.home
given_home here records p id more live h =
    let found = live_record here records id live in
    granted_home (nat_lt p.credit_limit (grown p found.0)) p id more
    (subst (λ (o : Option Record). IfSome o (λ x. Yes more ≡ granted_of p x id)) found.1 h)

-- ---- what is done

-- the count in a record, 0 without one
abbrev pub count_in_record : Option Record → ℕ
count_in_record o = option_map_or (λ (r : Record). r.count) o 0

-- the record, and what is told of it
module _ (t : Tables) (id : Id) (live : is_live t id ≡ true) where
  found : (rec : Record) × (find_record id t.records ≡ Some rec)
  found = live_record t.here t.records id live

  was : count_here t id ≡ found.0.count
  was = ap (λ (o : Option Record). count_in_record o) found.1

  more_is : nat_lt t.profile.credit_limit (more_here t id) ≡ nat_lt t.profile.credit_limit (grown t.profile found.0)
  more_is = ap (λ n. nat_lt t.profile.credit_limit (n + 2 ^ t.profile.credit_log - 1)) was

module _ (t t' : Tables) (id : Id) (live : is_live t id ≡ true) (births : ℕ) (records : List Record) (queued : List (Waiting Parcel)) (same : births ≡ t.births) (still : queued ≡ t.queued) where
  place_is : place_or_0 t id ≡ (found t id live).0.place
  place_is = ap (λ (o : Option Record). option_map_or (λ (x : Record). x.place) o 0) (found t id live).1

  -- there is more out
  pub alive_deals : IfSome (find_record id t.records) (λ x. Alive ≡ left_of x id) → DealsWith (Return id) t (record t { births = births; records = records; queued = queued })
  alive_deals alive =
      let more = alive_some (found t id live).0 id (subst (λ (o : Option Record). IfSome o (λ x. Alive ≡ left_of x id)) (found t id live).1 alive) in
      ap (λ n. record t { births = n; records = records; queued = queued }) same
      ∙ (ap (λ ws. record t { records = records; queued = ws }) still
      ∙ ap (λ (x : Tables). record x { records = records }) (sym (no_mail (place_or_0 t id) (Free (bare id)) t))
      ∙ ap (λ b. record (with_mail_if b (place_or_0 t id) (Free (bare id)) t) { records = records }) (sym (ap (λ n. n == credit id) (was t id live) ∙ more)))

  -- a message goes then
  mailed : (to : ℕ) (p : Parcel) → t' ≡ with_mail to p (record t { births = births; records = records; queued = queued }) → t' ≡ record (with_mail to p t) { records = t'.records }
  mailed to p h =
      h
      ∙ (ap (λ n. with_mail to p (record t { births = n; records = records; queued = queued })) same
      ∙ (ap (λ ws. with_mail to p (record t { records = records; queued = ws })) still
      ∙ ap (λ rs. record (with_mail to p t) { records = rs }) (sym (ap (λ (v : Tables). v.records) h))))

  -- that was all: the object is to be freed
  pub dead_deals : (place : ℕ) → IfSome (find_record id t.records) (λ x. Dead place ≡ left_of x id)
      → t' ≡ with_mail place (Free (bare id)) (record t { births = births; records = records; queued = queued }) → DealsWith (Return id) t t'
  dead_deals place dead goes =
      let last = dead_all place (found t id live).0 id (subst (λ (o : Option Record). IfSome o (λ x. Dead place ≡ left_of x id)) (found t id live).1 dead) in
      mailed place (Free (bare id)) goes
      ∙ (ap (λ n. record (with_mail n (Free (bare id)) t) { records = t'.records }) (last.1 ∙ sym place_is)
      ∙ ap (λ b. record (with_mail_if b (place_or_0 t id) (Free (bare id)) t) { records = t'.records }) (sym (ap (λ n. n == credit id) (was t id live) ∙ last.0)))

  module _ (p : Profile) (given : Id) (asker entry : ℕ) (tuned : p ≡ t.profile)
      (goes : t' ≡ with_mail asker (Give given entry) (record t { births = births; records = records; queued = queued })) where
    answer_deals : (b : Bool) → nat_lt t.profile.credit_limit (grown t.profile (found t id live).0) ≡ b
        → given ≡ cond b id (record id { log = Some t.profile.credit_log }) → DealsWith (Ask id asker entry) t t'
    answer_deals b full is =
        mailed asker (Give given entry) goes
        ∙ (ap (λ (i : Id). record (with_mail asker (Give i entry) t) { records = t'.records }) is
        ∙ ap (λ c. record (with_mail asker (Give (cond c id (record id { log = Some t.profile.credit_log })) entry) t) { records = t'.records }) (sym (more_is t id live ∙ full)))

    -- no more credit is given, or more
    pub refused_deals : IfSome (find_record id t.records) (λ x. Limit ≡ granted_of p x id) → given ≡ id → DealsWith (Ask id asker entry) t t'
    refused_deals limit is = answer_deals true (limit_full t (found t id live).0 id (subst (λ (o : Option Record). IfSome o (λ x. Limit ≡ granted_of t.profile x id)) (found t id live).1
        (subst (λ q. IfSome (find_record id t.records) (λ x. Limit ≡ granted_of q x id)) tuned limit))) is

    pub granted_deals : (more : Id) → IfSome (find_record id t.records) (λ x. Yes more ≡ granted_of p x id) → given ≡ more → DealsWith (Ask id asker entry) t t'
    granted_deals more given_more is =
        let free = yes_free t (found t id live).0 id more (subst (λ (o : Option Record). IfSome o (λ x. Yes more ≡ granted_of t.profile x id)) (found t id live).1
        (subst (λ q. IfSome (find_record id t.records) (λ x. Yes more ≡ granted_of q x id)) tuned given_more)) in
        answer_deals false free.0 (is ∙ free.1)

-- ---- what is written

module _ (t : Tables) (id : Id) (rs : List Record) (count : ℕ) (live : is_live t id ≡ true)
    (now : IfSome (find_record id t.records) (λ x. find_record id rs ≡ Some (asked t.profile x))) (is : count ≡ count_in_record (find_record id rs)) where
  counts : count ≡ (asked t.profile (found t id live).0).count
  counts =
      is
      ∙ ap (λ (o : Option Record). count_in_record o)
      (subst (λ (o : Option Record). IfSome o (λ x. find_record id rs ≡ Some (asked t.profile x))) (found t id live).1 now)

  refused_entry : IfSome (find_record id t.records) (λ x. Limit ≡ granted_of t.profile x id) → Count (bare id) count Refused ∷ [] ≡ answered t id
  refused_entry limit =
      let full = limit_full t (found t id live).0 id (subst (λ (o : Option Record). IfSome o (λ x. Limit ≡ granted_of t.profile x id)) (found t id live).1 limit) in
      let e : (asked t.profile (found t id live).0).count ≡ (found t id live).0.count = rw full refl in
      ap (λ n. Count (bare id) n Refused ∷ []) (counts ∙ (e ∙ sym (was t id live)))
      ∙ sym (ap (λ b. (if b then Count (bare id) (count_here t id) Refused else Count (bare id) (more_here t id) Granted) ∷ []) (more_is t id live ∙ full))

  granted_entry : (more : Id) → IfSome (find_record id t.records) (λ x. Yes more ≡ granted_of t.profile x id)
      → Count (bare id) count Granted ∷ [] ≡ answered t id
  granted_entry more told =
      let free = (yes_free t (found t id live).0 id more (subst (λ (o : Option Record). IfSome o (λ x. Yes more ≡ granted_of t.profile x id)) (found t id live).1 told)).0 in
      let e : (asked t.profile (found t id live).0).count ≡ grown t.profile (found t id live).0 = rw free refl in
      ap (λ n. Count (bare id) n Granted ∷ []) (counts ∙ (e ∙ ap (λ n. n + 2 ^ t.profile.credit_log - 1) (sym (was t id live))))
      ∙ sym (ap (λ b. (if b then Count (bare id) (count_here t id) Refused else Count (bare id) (more_here t id) Granted) ∷ []) (more_is t id live ∙ free))

-- by what the records tell
module _ (t : Tables) (id : Id) (p : Profile) (old rs : List Record) (count : ℕ) (records : t.records ≡ old) (profile : t.profile ≡ p)
    (live : is_live t id ≡ true) (now : IfSome (find_record id old) (λ x. find_record id rs ≡ Some (asked p x)))
    (is : count ≡ count_in_record (find_record id rs)) where
  told : IfSome (find_record id t.records) (λ x. find_record id rs ≡ Some (asked t.profile x))
  told = subst (λ (xs : List Record). IfSome (find_record id xs) (λ x. find_record id rs ≡ Some (asked t.profile x))) (sym records)
      (subst (λ (q : Profile). IfSome (find_record id old) (λ x. find_record id rs ≡ Some (asked q x))) (sym profile) now)

  pub refused_by_entry : IfSome (find_record id old) (λ x. Limit ≡ granted_of p x id) → Count (bare id) count Refused ∷ [] ≡ answered t id
  refused_by_entry limit =
      refused_entry t id rs count live told is
      (subst (λ (xs : List Record). IfSome (find_record id xs) (λ x. Limit ≡ granted_of t.profile x id)) (sym records)
      (subst (λ (q : Profile). IfSome (find_record id old) (λ x. Limit ≡ granted_of q x id)) (sym profile) limit))

  pub granted_by_entry : (more : Id) → IfSome (find_record id old) (λ x. Yes more ≡ granted_of p x id)
      → Count (bare id) count Granted ∷ [] ≡ answered t id
  granted_by_entry more h =
      granted_entry t id rs count live told is more
      (subst (λ (xs : List Record). IfSome (find_record id xs) (λ x. Yes more ≡ granted_of t.profile x id)) (sym records)
      (subst (λ (q : Profile). IfSome (find_record id old) (λ x. Yes more ≡ granted_of q x id)) (sym profile) h))

-- ---- records and objects then

module _ (t t' : Tables) (id : Id) (rs : List Record) (live : is_live t id ≡ true) (same : t'.records ≡ rs)
    (others : (o : Id) → same_object id o ≡ false → find_record o rs ≡ find_record o t.records) where
  pub leaves_returned : IfSome (find_record id t.records) (λ r. find_record id rs ≡ lowered r id) → Leaves (Return id) t t'
  leaves_returned left = record {
    own = ap (find_record id) same
        ∙ (subst (λ (o : Option Record). IfSome o (λ r. find_record id rs ≡ lowered r id)) (found t id live).1 left
        ∙ ap (option_and_then (λ (r : Record). lowered r id)) (sym (found t id live).1));
    others = λ x away. ap (find_record x) same ∙ others x away;
  }

  pub leaves_asked : (p : Profile) → p ≡ t.profile → IfSome (find_record id t.records) (λ r. find_record id rs ≡ Some (asked p r))
      → (asker entry : ℕ) → Leaves (Ask id asker entry) t t'
  leaves_asked p tuned more asker entry = record {
    own = ap (find_record id) same
        ∙ (subst (λ (o : Option Record). IfSome o (λ r. find_record id rs ≡ Some (asked p r))) (found t id live).1 more
        ∙ (ap (λ (q : Profile). Some (asked q (found t id live).0)) tuned
        ∙ ap (option_map (asked t.profile)) (sym (found t id live).1)));
    others = λ x away. ap (find_record x) same ∙ others x away;
  }

-- ---- objects

-- the first that passes the test is the one that goes
without_first : (test : Standing → Bool) (xs : List Standing) (i : ℕ) (x : Standing) → find test (take i xs) ≡ None → slice_get xs i ≡ Some x
    → find test xs ≡ Some x → without test xs ≡ remove xs i
without_first test [] i x before there found = absurd (cc)
without_first test (y ∷ ys) zero x before there found = elim (cases_Bool (test y)) [
  | inl t ↦ rw t refl
  | inr t ↦
      absurd
      (let same : y ≡ x = some_same y x there in let passes : test y ≡ true = ap test same ∙ find_passes test (y ∷ ys) x found in
      let e : true ≡ false = sym passes ∙ t in cc)
]
without_first test (y ∷ ys) (suc i) x before there found = elim (cases_Bool (test y)) [
  | inl t ↦ absurd (let e : Some y ≡ None = rw t at before in cc)
  | inr t ↦
      rw t (ap (λ zs. y ∷ zs) (without_first test ys i x (rw t at before) there (rw t at found)))
]

-- one object less
pub leaves_freed : (xs ys : List Standing) (o : Id) (x : Standing) (i : ℕ) → find (is_standing o) (take i xs) ≡ None → slice_get xs i ≡ Some x
    → find (is_standing o) xs ≡ Some x → IsPermutation (remove xs i) ys → IsPermutation (without (is_standing o) xs) ys
leaves_freed xs ys o x i before there found gone =
    subst (λ zs. IsPermutation zs ys) (sym (without_first (is_standing o) xs i x before there found)) gone
